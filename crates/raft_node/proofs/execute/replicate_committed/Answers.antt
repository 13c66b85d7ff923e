use Rattle.std.proofs.Common.{rules, ℕ, List, None, Option, Some, map, subst, sym, ◌≡◌, ◌++◌}
use Rattle.std.specs.Option.{option_to_list}
use Rattle.raft_state.specs.declared.ids.LogId.{LogId}
use Rattle.raft_command.specs.declared.replication.ReplicationSessionId.{ReplicationSessionId}
use Rattle.raft_store.specs.declared.entry.Entry.{Entry}
use Rattle.raft_store.specs.Store.{whole_upto}
use Rattle.raft_node.specs.Execute.{Effects, decided_by, effects, replicate_committed}
use Rattle.raft_node.specs.Net.{Records, with_decided}
use Rattle.raft_node.specs.Runs.{whole_logs}
use Rattle.raft_node.specs.Safety.{RecordsGrow}
use Rattle.raft_node.proofs.execute.replicate_committed.Goals as goal

pub decide-requires-clause-grows : goal.decide-requires-clause-grows
decide-requires-clause-grows c =
    let w : Effects (List Entry) = effects c.args.store.now c.args.running.now.streams c.args.running.now.noted c.args.records.now in
    let session : ReplicationSessionId ℕ = c.in-Some.session_id in
    let led : c.args.running.now.streams.session_id ≡ Some session = search rules in
    let some : c.args.committed ≡ Some c.in-Some-committed.log_id = search rules in
    let told : RecordsGrow (replicate_committed whole_logs c.args.turn.now c.args.committed session w).records =
    subst
    (λ (o : Option (ReplicationSessionId ℕ)). RecordsGrow (elim o as (λ _. Effects (List Entry)) [
      | None ↦ w
      | Some s ↦ replicate_committed whole_logs c.args.turn.now c.args.committed s w
    ]).records)
    led c.requires.grows in
    let one : RecordsGrow (with_decided session.vote.leader_id c.in-Some-committed.log_id (whole_upto c.args.store.now c.in-Some-committed.log_id.index) c.args.records.now) =
    subst
    (λ (o : Option (LogId ℕ)). RecordsGrow (record c.args.records.now {
      decided = c.args.records.now.decided ++ map (decided_by whole_logs session c.args.store.now) (option_to_list o);
    }))
    some told in
    subst
    (λ (v : Records (List Entry)). RecordsGrow (with_decided session.vote.leader_id c.in-Some-committed.log_id (whole_upto c.args.store.now c.in-Some-committed.log_id.index) v))
    (sym c.in_ok-tell_committed.ensures) one
