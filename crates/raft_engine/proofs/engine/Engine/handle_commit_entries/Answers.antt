use Rattle.std.proofs.Common.{rules, ◌≡◌, false, None}
use Rattle.raft_steps.specs.Parts.{core_of, unboxed}
use Rattle.raft_engine.specs.Whole.{parts}
use Rattle.raft_steps.specs.RequestRefusals.{refusals_of_commit}
use Rattle.raft_steps.specs.Requests.{handle_commit_entries}
use Rattle.raft_steps.proofs.KeptFollow.{engine_commits_is_sound}
use Rattle.raft_steps.proofs.Settled.{settled_core}
use Rattle.raft_engine.proofs.Ended.{ended_in}
use Rattle.raft_engine.proofs.engine.Engine.handle_commit_entries.Goals as goal

pub returns-clause-sound : goal.returns-clause-sound
returns-clause-sound g c =
    let e = c.args.self.now in
    let unspent : e.output.spent ≡ false = search rules in
    let unrefused : refusals_of_commit g.C.NodeId.Ord.cmp c.args.leader_committed (parts e) ≡ None = search rules in
    settled_core g.C.NodeId.Ord.cmp e.config _ _ _ _ _ (unboxed e.leader) _ _ c.settle.ensures c.commit_entries-done.ensures
    (engine_commits_is_sound g.C.NodeId.Ord.cmp g.met.C.NodeId.Ord.total g.met.C.NodeId.NodeId.equal_is_same e.config c.args.leader_committed (parts e) c.requires.following unrefused (c.requires.sound unspent))

pub returns-clause-step : goal.returns-clause-step
unfolding handle_commit_entries
returns-clause-step g c =
    let e = c.args.self.now in
    let unrefused : refusals_of_commit g.C.NodeId.Ord.cmp c.args.leader_committed (parts e) ≡ None = search rules in
    ended_in (λ q. core_of c.commit_entries-done.new.state q) _ _ _ _ _ _ _ _ (λ k. record (parts e) { core = k }) c.settle.ensures unrefused c.commit_entries-done.ensures
