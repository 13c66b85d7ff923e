use Rattle.std.proofs.Common.{List, ap}
use Rattle.std.specs.Prelude.{ℕ, Ok, Option, Result, Some}
use Rattle.raft_chunks.specs.declared.error.Refusal.{Refusal}
use Rattle.raft_peers.proofs.Parting.{none_has}
use Rattle.raft_peers.proofs.parts.find_snapshot.Goals as goal

pub returns-in-Ok : goal.returns-in-Ok
returns-in-Ok g c =
    let found = rw c.in-Ok.is at c.read_snapshot.ensures.written in
    (found.0, ap (λ (bs : List ℕ). let whole : Result (Option (List ℕ)) Refusal = Ok (Some bs) in whole) found.1)

pub returns-in-Err-Malformed : goal.returns-in-Err-Malformed
returns-in-Err-Malformed g c =
    none_has g.M.Machine.codec c.read_snapshot.result _ _ _ c.args.bytes.now c.in-Err-Malformed.is c.in-Err-Malformed.field-0-is
    c.read_snapshot.ensures.read_back
