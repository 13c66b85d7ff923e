use Rattle.std.proofs.Common.{rules, arith, ◌≡◌, refl, false, None, drop}
use Rattle.std.proofs.lemmas.Grind.{common_steps}
use Rattle.raft_steps.specs.Refusals.{has_index_end}
use Rattle.raft_handler_follower.specs.Handlers.{view_of_following}
use Rattle.raft_steps.proofs.KeptEngine.{below_end_each, do_append_is_sound}
use Rattle.raft_steps.proofs.Settled.{settled_core}
use Rattle.raft_handler_follower.proofs.following_handler.FollowingHandler.do_append_entries.Goals as goal

pub returns-clause-sound : goal.returns-clause-sound
returns-clause-sound g c =
    let h = c.args.self.now in
    let rest = drop c.args.since c.args.entries.items in
    let unspent : h.output.now.spent ≡ false = search rules in
    let below : has_index_end g.C.Entry.RaftEntry rest ≡ false = grind (arith, common_steps) in
    λ candidate aside before.
    settled_core g.C.NodeId.Ord.cmp h.config.now _ _ _ _ _ None candidate _ c.settle.ensures c.append_from-done.ensures
    (do_append_is_sound g.C.NodeId.Ord.cmp g.met.C.NodeId.Ord.total g.met.C.NodeId.NodeId.equal_is_same g.C.Entry.RaftEntry h.config.now rest
    (record { core = view_of_following h; leader = None; candidate = candidate }) refl aside c.requires.may
    (below_end_each g.C.Entry.RaftEntry rest below) (before unspent))
