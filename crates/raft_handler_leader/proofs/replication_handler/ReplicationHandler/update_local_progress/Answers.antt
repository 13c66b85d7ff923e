use Rattle.std.proofs.Common.{rules, ◌≡◌, true, false, None, lit≤}
use Rattle.raft_handler_leader.specs.Handlers.{view_of_replication}
use Rattle.raft_steps.proofs.Counted.{counted_seq, nearer}
use Rattle.raft_steps.proofs.FitsEnd.{fits_end}
use Rattle.raft_steps.proofs.KeptCommit.{local_kept, local_is_sound}
use Rattle.raft_steps.specs.Laws.{CommitsLatest, takes_local}
use Rattle.raft_steps.proofs.Committed.{done_leaves}
use Rattle.raft_steps.proofs.LawsCommit.{local_law}
use Rattle.raft_steps.proofs.Settled.{settled_led, settled_beside}
use Rattle.raft_steps.specs.Parts.{core_of, led_machine}
use Rattle.raft_steps.specs.Refusals.{refusals_of_counter_led}
use Rattle.raft_handler_leader.proofs.Settling.{ends_settled, neither_asks}
use Rattle.raft_handler_leader.proofs.replication_handler.ReplicationHandler.update_local_progress.Goals as goal

pub update_local_progress-done-requires-clause-number : goal.update_local_progress-done-requires-clause-number
update_local_progress-done-requires-clause-number g c =
    let h = c.args.self.now in
    nearer h.output.now.seq 2 (lit≤ tt) (counted_seq (core_of h.state.now h.output.now) h.leader.now.progress.rows (search rules))

pub update_local_progress-done-requires-clause-end : goal.update_local_progress-done-requires-clause-end
update_local_progress-done-requires-clause-end g c =
    let h = c.args.self.now in
    let unspent : h.output.now.spent ≡ false = search rules in
    fits_end g.C.NodeId.Ord.cmp h.state.now c.args.upto (c.requires.sound unspent).sound c.requires.fit

pub returns-clause-step : goal.returns-clause-step
returns-clause-step g c =
    let l = view_of_replication c.args.self.now in
    let counted : refusals_of_counter_led l ≡ None = search rules in
    ends_settled _ _ _ _ _ _ _ _ _ _ (neither_asks (refusals_of_counter_led l) _ counted (search rules)) c.settle.ensures c.update_local_progress-done.ensures

pub returns-clause-sound : goal.returns-clause-sound
returns-clause-sound g c =
    let h = c.args.self.now in
    let unspent : h.output.now.spent ≡ false = search rules in
    settled_led g.C.NodeId.Ord.cmp h.config.now _ _ _ _ _ _ _ c.settle.ensures c.update_local_progress-done.ensures
    (local_kept g.C.NodeId.Ord.cmp g.met.C.NodeId.Ord.total g.met.C.NodeId.NodeId.equal_is_same h.config.now c.args.upto (view_of_replication h) c.requires.fit (c.requires.sound unspent))

pub returns-clause-beside : goal.returns-clause-beside
returns-clause-beside g c =
    let h = c.args.self.now in
    let unspent : h.output.now.spent ≡ false = search rules in
    λ candidate before.
    settled_beside g.C.NodeId.Ord.cmp h.config.now _ _ _ _ _ _ candidate _ c.settle.ensures c.update_local_progress-done.ensures
    (local_is_sound g.C.NodeId.Ord.cmp g.met.C.NodeId.Ord.total g.met.C.NodeId.NodeId.equal_is_same h.config.now c.args.upto (led_machine (view_of_replication h) candidate) c.requires.fit (before unspent))

pub returns-clause-commits : goal.returns-clause-commits
returns-clause-commits g c =
    let cmp = g.C.NodeId.Ord.cmp in
    let h = c.args.self.now in
    let l = view_of_replication h in
    let unspent : h.output.now.spent ≡ false = search rules in
    done_leaves (λ m. takes_local cmp h.config.now c.args.upto l ≡ true → CommitsLatest cmp l.core.state.committed m) _ _ _ _ _ _ _ c.settle.ensures c.update_local_progress-done.ensures
    (λ t. local_law cmp g.met.C.NodeId.Ord.total g.met.C.NodeId.NodeId.equal_is_same h.config.now c.args.upto l t c.requires.fit (c.requires.sound unspent))
