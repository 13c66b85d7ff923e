use Rattle.std.proofs.Common.{rules, List, subst, ◌≡◌}
use Rattle.raft_command.specs.declared.command.Command.TheVariants as command
use Rattle.raft_store.specs.declared.entry.Entry.{Entry}
use Rattle.raft_store.specs.Types.{WorldCommand}
use Rattle.raft_calls.specs.Engines.{view_of}
use Rattle.raft_node.specs.Execute.{Effects, effects, exec}
use Rattle.raft_node.specs.Runs.{whole_logs}
use Rattle.raft_node.specs.Safety.{RecordsGrow}
use Rattle.raft_node.proofs.execute.execute.Goals as goal

pub replicate_committed-requires-clause-grows : goal.replicate_committed-requires-clause-grows
replicate_committed-requires-clause-grows c =
    let w : Effects (List Entry) = effects c.args.store.now c.args.running.now.streams c.args.running.now.noted c.args.records.now in
    let is : c.args.command ≡ command.ReplicateCommitted c.in-ReplicateCommitted.committed = search rules in
    subst (λ (x : WorldCommand). RecordsGrow (exec whole_logs c.args.turn.now (view_of c.args.running.now.engine) x w).records) is c.requires.grows

pub establish-requires-clause-grows : goal.establish-requires-clause-grows
establish-requires-clause-grows c =
    let w : Effects (List Entry) = effects c.args.store.now c.args.running.now.streams c.args.running.now.noted c.args.records.now in
    let is : c.args.command ≡ command.BecomeLeader = search rules in
    subst (λ (x : WorldCommand). RecordsGrow (exec whole_logs c.args.turn.now (view_of c.args.running.now.engine) x w).records) is c.requires.grows
