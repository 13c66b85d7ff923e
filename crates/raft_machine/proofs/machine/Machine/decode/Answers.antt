use Rattle.std.proofs.Common.{sym, ◌∙◌}
use Rattle.std.proofs.lemmas.Result.{err_from_is_err_and}
use Rattle.raft_codec.proofs.Whole.{stands, refused, same, not_ended}
use Rattle.raft_machine.specs.Bytes.{state}
use Rattle.raft_machine.specs.BytesLaws.{state_is}
use Rattle.raft_machine.specs.Machine.{state_of}
use Rattle.raft_machine.proofs.machine.Machine.decode.Goals as goal

pub returns-in_err-machine-clause-read_back : goal.returns-in_err-machine-clause-read_back
returns-in_err-machine-clause-read_back c =
    let p = err_from_is_err_and c.from_residual.result c.from_residual.ensures.1 in
    λ st fits b.
    rw (p.1, p.2) (refused state state_is c.in_err-machine.field-0.0 st c.new-reader.result c.in_err-machine.ensures fits (c.new-reader.ensures ∙ b))

pub returns-in_err-end-clause-read_back : goal.returns-in_err-end-clause-read_back
returns-in_err-end-clause-read_back c =
    λ st fits b.
    absurd (not_ended state state_is (state_of c.in_ok-machine.machine) st c.new-reader.result c.read.new.reader c.in_ok-machine.ensures c.in_err-end.ensures.0 fits (c.new-reader.ensures ∙ b))

pub returns-clause-written : goal.returns-clause-written
returns-clause-written c =
    let s = stands state state_is c.new-reader.result (state_of c.in_ok-machine.machine) c.read.new.reader c.in_ok-machine.ensures c.in_ok-end.ensures in
    (s.0, sym c.new-reader.ensures ∙ s.1)

pub returns-clause-read_back : goal.returns-clause-read_back
returns-clause-read_back c =
    λ st fits b.
    (same state state_is (state_of c.in_ok-machine.machine) st c.new-reader.result c.read.new.reader c.in_ok-machine.ensures fits (c.new-reader.ensures ∙ b)).0
