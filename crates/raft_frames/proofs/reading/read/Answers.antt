use Rattle.std.specs.Prelude.{if◌then◌else◌, nat_eq, Ok, Err}
use Rattle.std.specs.List.{starts_with}
use Rattle.std.proofs.Common.{◌∙◌, ap, subst, length, drop}
use Rattle.std.proofs.lemmas.List.{take_rest}
use Rattle.raft_frames.specs.Format.{header, start}
use Rattle.raft_frames.specs.Reading.{Gives, fault_of, is_new, new_log, read_frames}
use Rattle.raft_frames.proofs.reading.read.Goals as goal

pub returns-then-starts_with : goal.returns-then-starts_with
returns-then-starts_with c =
    let id = c.args.id.now in
    let bytes = c.args.bytes.now in
    let begins = c.if-starts_with.ensures.value ∙ ap (starts_with nat_eq bytes) c.header-header.ensures in
    let same = ap (λ rest. read_frames (length rest) c.start.result rest) (take_rest bytes 32)
    ∙ (ap (λ tail. read_frames (length (drop 32 bytes)) tail (drop 32 bytes)) c.start.ensures
    ∙ ap (λ b. if b then read_frames (length (drop 32 bytes)) (start id) (drop 32 bytes) else if is_new (header id) bytes then Ok (new_log id) else Err (fault_of id bytes)) begins) in
    subst (Gives c.read_frames.result) same c.read_frames.ensures
