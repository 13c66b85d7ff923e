use Rattle.std.proofs.Common.{◌∙◌, arith, ap, sym}
use Rattle.std.proofs.lemmas.List.{drop_all, take_rest}
use Rattle.raft_frames.specs.Reading.{is_zero}
use Rattle.raft_frames.proofs.ReadLemmas.{is_new-zero}
use Rattle.raft_frames.proofs.reading.is_new.Goals as goal
use Rattle.raft_frames.proofs.reading.is_new.Goals.{then-i-bytes-via-then-i-bytes, then-i-bytes-via-else-i-bytes+then-is_zero}

pub returns-then-i-bytes : goal.returns-then-i-bytes
returns-then-i-bytes c =
    let i = c.loop-i.i in
    let bytes = c.args.bytes.now in
    elim c.then-i-bytes.branch [
      | then-i-bytes-via-then-i-bytes w ↦
          sym (is_new-zero c.args.header.now bytes i (omega arith) (ap is_zero (drop_all i bytes (omega arith)))) ∙ c.loop-i.invariant
      | then-i-bytes-via-else-i-bytes+then-is_zero w ↦
          sym (is_new-zero c.args.header.now bytes i (omega arith) (sym (ap is_zero (take_rest bytes i)) ∙ (sym w.is_zero.ensures ∙ w.if-is_zero.true))) ∙ c.loop-i.invariant
    ]
