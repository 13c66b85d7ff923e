use Rattle.std.proofs.Common.{rules, ◌≡◌, ◌∙◌, ap, sym, subst, is_some, Some, false}
use Rattle.std.specs.Ordering.{is_ge}
use Rattle.raft_state.specs.Order.{last_id_cmp}
use Rattle.raft_progress.specs.Table.{get}
use Rattle.raft_progress.specs.Updates.{Rises}
use Rattle.raft_steps.specs.Parts.{core_of, led_of}
use Rattle.raft_steps.proofs.Own.{local_is, own_rises}
use Rattle.raft_handler_leader.proofs.replication_handler.update_local_progress.Goals as goal

pub acknowledge-requires-clause-known : goal.acknowledge-requires-clause-known
acknowledge-requires-clause-known g c = ap is_some (sym c.entry_of.ensures ∙ c.in-Some-entry_of.is)

pub acknowledge-requires-clause-rises : goal.acknowledge-requires-clause-rises
acknowledge-requires-clause-rises g c =
    let cmp = g.C.NodeId.Ord.cmp in
    let held : get cmp c.args.leader.now.progress c.args.config.now.id ≡ Some c.in-Some-entry_of.entry = sym c.entry_of.ensures ∙ c.in-Some-entry_of.is in
    let above : is_ge (last_id_cmp cmp c.in-Some-entry_of.entry.matching (Some c.in-Some.upto)) ≡ false = search rules in
    subst (λ v. Rises cmp (last_id_cmp cmp) (λ e. e.matching) c.args.leader.now.progress c.args.config.now.id v) (sym c.own_matched.ensures)
    (own_rises cmp g.met.C.NodeId.Ord.total c.args.leader.now.progress c.args.config.now.id c.in-Some-entry_of.entry c.in-Some.upto held above)

pub returns : goal.returns
returns g c =
    let cmp = g.C.NodeId.Ord.cmp in
    let held : get cmp c.args.leader.now.progress c.args.config.now.id ≡ Some c.in-Some-entry_of.entry = sym c.entry_of.ensures ∙ c.in-Some-entry_of.is in
    let above : is_ge (last_id_cmp cmp c.in-Some-entry_of.entry.matching (Some c.in-Some.upto)) ≡ false = search rules in
    rw c.in-Some.is
    (local_is cmp c.args.config.now (led_of c.args.leader.now c.args.state.now c.args.output.now) c.in-Some.upto c.in-Some-entry_of.entry c.acknowledge.new.leader c.granted_of-granted.result
    (core_of c.try_commit_quorum_accepted.new.state c.try_commit_quorum_accepted.new.output) held above (search rules) c.granted_of-granted.ensures c.in_ok-try_commit_quorum_accepted.ensures)
