-- How many commands come at most of those that an engine has queued.
use Rattle.std.specs.Prelude.{ℕ, List, [], ◌∷◌, ◌+◌, ◌*◌, length, Option, Some, None}
use Rattle.std.specs.Ordering.{nat_cmp}
use Rattle.raft_state.specs.Members.{voter_ids, learner_ids}
use Rattle.raft_command.specs.declared.command.Command.TheVariants.{AppendInputEntries}
use Rattle.raft_store.specs.Types.{WorldCommand, WorldMachine, WorldCandidate, EngineView}

-- at most so many commands come from a command: itself, and those of its feed
abbrev pub weight_of : WorldCommand → ℕ
weight_of (AppendInputEntries v es) = 4
weight_of _ = 1

abbrev pub weights : List WorldCommand → ℕ
weights [] = 0
weights (c ∷ cs) = weight_of c + weights cs

-- and from an elected candidate: its streams, vote, role and no-op entry, and a request for each other node
abbrev pub election : WorldMachine → Option WorldCandidate → ℕ
election m None = 0
election m (Some c) =
    12 + 2 * (length (voter_ids nat_cmp m.core.state.em.membership) + length (learner_ids nat_cmp m.core.state.em.membership))
    + length c.progress.rows + length c.learner_ids

abbrev pub weight_at : Option EngineView → ℕ
weight_at None = 0
weight_at (Some e) = weights e.machine.core.output.items + election e.machine e.machine.candidate
