use Rattle.std.proofs.Common.{rules, ◌≡◌, refl, false, None}
use Rattle.raft_handler_follower.specs.Handlers.{view_of_following}
use Rattle.raft_steps.specs.InstallRefusals.{refusals_of_install_core}
use Rattle.raft_steps.proofs.KeptInstall.{install_is_sound}
use Rattle.raft_steps.proofs.Settled.{settled_core}
use Rattle.raft_handler_follower.proofs.following_handler.FollowingHandler.install_full_snapshot.Goals as goal

pub returns-clause-sound : goal.returns-clause-sound
returns-clause-sound g c =
    let h = c.args.self.now in
    let unspent : h.output.now.spent ≡ false = search rules in
    let unrefused : refusals_of_install_core g.C.NodeId.Ord.cmp c.args.snapshot.meta (view_of_following h) ≡ None = search rules in
    λ candidate aside before.
    settled_core g.C.NodeId.Ord.cmp h.config.now _ _ _ _ _ None candidate _ c.settle.ensures c.install_full_snapshot-done.ensures.step
    (install_is_sound g.C.NodeId.Ord.cmp g.met.C.NodeId.Ord.total g.met.C.NodeId.NodeId.equal_is_same h.config.now c.args.snapshot
    (record { core = view_of_following h; leader = None; candidate = candidate }) (record { no_leader = refl; no_candidate = aside }) unrefused (before unspent))
