use Rattle.std.proofs.Common.{List, subst, sym}
use Rattle.raft_store.specs.declared.entry.Entry.{Entry}
use Rattle.raft_store.specs.Types.{EngineView}
use Rattle.raft_calls.specs.Engines.{view_of}
use Rattle.raft_calls.proofs.LeaderReady.{MayProposeAll, values_may}
use Rattle.raft_calls.proofs.lead.propose.Goals as goal

pub propose_entries-requires-clause-may : goal.propose_entries-requires-clause-may
propose_entries-requires-clause-may c =
    let e : EngineView = view_of c.args.engine.now in
    subst (λ (entries : List Entry). MayProposeAll entries e) (sym c.in_ok-value_entries.ensures) (values_may c.args.values.now e c.requires.taken)
