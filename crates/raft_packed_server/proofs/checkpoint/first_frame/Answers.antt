use Rattle.std.proofs.Common.{rules, subst, ◌≡◌, ◌∙◌, ◌∷◌, []}
use Rattle.std.specs.Prelude.{IfOk}
use Rattle.proof_logs.specs.Batches.{bytes_of}
use Rattle.raft_packed_wire.specs.Checkpoints.{named_snapshot}
use Rattle.raft_packed_server.specs.Checkpoints.{IsFirstFrame}
use Rattle.raft_packed_server.specs.Logs.{logged_by}
use Rattle.raft_packed_server.proofs.checkpoint.first_frame.Goals as goal

pub returns-clause-first : goal.returns-clause-first
returns-clause-first g c =
    let codec = logged_by g.M.Machine.codec in
    let is : c.deref-in-None.result.now ≡ bytes_of codec (named_snapshot c.args.serving.now.node.store ∷ []) = search rules in
    subst (λ p. IfOk c.frame_at_once.result (λ first. IsFirstFrame c.args.id.now p first.front.items first.snapshot.items first.tail)) is
    c.frame_at_once.ensures.first
