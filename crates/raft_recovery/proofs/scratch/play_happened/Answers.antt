use Rattle.std.proofs.Common.{◌≡◌, ◌∙◌, [], ◌∷◌, Bool, cond, subst, sym}
use Rattle.raft_node.specs.Runs.{events_of}
use Rattle.raft_recovery.specs.Ways.{played}
use Rattle.raft_recovery.proofs.Played.{played_none}
use Rattle.raft_recovery.proofs.scratch.play_happened.Goals as goal

pub returns-else-is_happened : goal.returns-else-is_happened
returns-else-is_happened c =
    subst (λ (b : Bool). c.args.world.now ≡ played (events_of (cond b (c.args.applied.now ∷ []) [])) c.args.world.now)
    (sym c.if-is_happened.false ∙ c.is_happened.ensures) (played_none c.args.world.now)
