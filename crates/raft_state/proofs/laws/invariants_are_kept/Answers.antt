use Rattle.raft_state.proofs.Keeping.{extend_keeps, truncate_keeps, accept_keeps, commit_keeps, append_membership_keeps, purge_keeps}
use Rattle.raft_state.proofs.laws.invariants_are_kept.Goals as goal

pub returns-clause-extend_log_ids : goal.returns-clause-extend_log_ids
returns-clause-extend_log_ids g c = extend_keeps g.NID.Ord.cmp g.met.NID.Ord.total g.met.NID.NodeId.equal_is_same

pub returns-clause-truncate : goal.returns-clause-truncate
returns-clause-truncate g c = truncate_keeps g.NID.Ord.cmp g.met.NID.Ord.total g.met.NID.NodeId.equal_is_same

pub returns-clause-accept : goal.returns-clause-accept
returns-clause-accept g c = accept_keeps g.NID.Ord.cmp g.met.NID.Ord.total g.met.NID.NodeId.equal_is_same

pub returns-clause-commit : goal.returns-clause-commit
returns-clause-commit g c = commit_keeps g.NID.Ord.cmp g.met.NID.Ord.total g.met.NID.NodeId.equal_is_same

pub returns-clause-append_membership : goal.returns-clause-append_membership
returns-clause-append_membership g c = append_membership_keeps g.NID.Ord.cmp g.met.NID.Ord.total g.met.NID.NodeId.equal_is_same

pub returns-clause-purge_log : goal.returns-clause-purge_log
returns-clause-purge_log g c = purge_keeps g.NID.Ord.cmp g.met.NID.Ord.total g.met.NID.NodeId.equal_is_same
