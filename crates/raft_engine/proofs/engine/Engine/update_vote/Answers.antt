use Rattle.std.proofs.Common.{rules, ◌≡◌, false, None}
use Rattle.raft_steps.specs.Parts.{unboxed}
use Rattle.raft_engine.specs.Whole.{parts}
use Rattle.raft_steps.specs.Refusals.{refusals_of_update_vote}
use Rattle.raft_steps.proofs.KeptEngine.{update_vote_kept}
use Rattle.raft_steps.proofs.Room.{may_take}
use Rattle.raft_steps.proofs.Settled.{settled_sound}
use Rattle.raft_engine.proofs.engine.Engine.update_vote.Goals as goal

pub update_vote-done-requires-clause-room : goal.update_vote-done-requires-clause-room
update_vote-done-requires-clause-room g c =
    let e = c.args.self.now in
    let unspent : e.output.spent ≡ false = search rules in
    may_take g.C.NodeId.Ord.cmp g.met.C.NodeId.Ord.total g.met.C.NodeId.NodeId.equal_is_same e.config c.args.vote.now e.state (unboxed e.leader) (c.requires unspent).sound (search rules)

pub returns-clause-sound : goal.returns-clause-sound
returns-clause-sound g c =
    let e = c.args.self.now in
    let unspent : e.output.spent ≡ false = search rules in
    let unrefused : refusals_of_update_vote g.C.NodeId.Ord.cmp e.config c.args.vote.now (parts e) ≡ None = search rules in
    settled_sound g.C.NodeId.Ord.cmp e.config _ _ _ _ _ _ _ _ c.settle.ensures c.update_vote-done.ensures.step
    (update_vote_kept g.C.NodeId.Ord.cmp g.met.C.NodeId.Ord.total g.met.C.NodeId.NodeId.equal_is_same g.C.Entry.RaftEntry g.met.C.Entry.RaftEntry.with_id_has e.config c.args.vote.now c.args.now (parts e) unrefused (c.requires unspent))
