use Rattle.std.proofs.Common.{lit<}
use Rattle.raft_steps.proofs.Proposing.{proposed_may, joined_may, fewer_may}
use Rattle.raft_handler_leader.proofs.leader_handler.leader_append_entries.Goals as goal

pub join-requires-clause-may : goal.join-requires-clause-may
join-requires-clause-may g c =
    fewer_may 1 _ (proposed_may g.C.Entry.RaftEntry (λ e id. (g.met.C.Entry.RaftEntry.with_id_has e id).0) 2 c.args.entries.items _ _ c.in_ok-membership.ensures.step c.requires.room c.requires.send)

pub join-requires-clause-log : goal.join-requires-clause-log
join-requires-clause-log g c =
    (proposed_may g.C.Entry.RaftEntry (λ e id. (g.met.C.Entry.RaftEntry.with_id_has e id).0) 2 c.args.entries.items _ _ c.in_ok-membership.ensures.step c.requires.room c.requires.send).log

pub initiate_replication-requires-clause-rows : goal.initiate_replication-requires-clause-rows
initiate_replication-requires-clause-rows g c =
    (joined_may g.C.NodeId.Ord.cmp c.args.config.now 1 c.in_ok-membership.membership _ _ c.in_ok-join.ensures (lit< tt)
    (proposed_may g.C.Entry.RaftEntry (λ e id. (g.met.C.Entry.RaftEntry.with_id_has e id).0) 2 c.args.entries.items _ _ c.in_ok-membership.ensures.step c.requires.room c.requires.send)).rows

pub initiate_replication-requires-clause-log : goal.initiate_replication-requires-clause-log
initiate_replication-requires-clause-log g c =
    (joined_may g.C.NodeId.Ord.cmp c.args.config.now 1 c.in_ok-membership.membership _ _ c.in_ok-join.ensures (lit< tt)
    (proposed_may g.C.Entry.RaftEntry (λ e id. (g.met.C.Entry.RaftEntry.with_id_has e id).0) 2 c.args.entries.items _ _ c.in_ok-membership.ensures.step c.requires.room c.requires.send)).log
