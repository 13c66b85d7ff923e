-- An engine starts (Raft paper, figure 2 and section 5.5: it resumes from its persistent state).
use Rattle.std.specs.Prelude.{ℕ, false, Option, None, if◌then◌else◌}
use Rattle.raft_command.specs.declared.config.EngineConfig.{EngineConfig}
use Rattle.raft_state.specs.State.{empty, is_leader}
use Rattle.raft_steps.specs.Parts.{idle}
use Rattle.raft_store.specs.Types.{EngineView}
use Rattle.std.specs.Ordering.{nat_cmp}
use Rattle.raft_state.specs.Members.{is_voter}
use Rattle.raft_steps.specs.Starts.{refusals_of_startup, startup}
use Rattle.raft_store.specs.Entries.{entry_meaning}
use Rattle.raft_schedule.specs.declared.event.Start.{Start}
use Rattle.raft_schedule.specs.declared.event.Start.TheVariants.{Plain, Saved, Bare}
use Rattle.raft_calls.specs.Deliveries.{answered, with_machine}
use Rattle.raft_calls.specs.Elections.{elected}

-- an engine with the default state, and with the settings under this id
abbrev pub new_engine : EngineConfig ℕ → ℕ → EngineView
new_engine settings id = record {
  config = record settings { id = id };
  machine = idle (empty 0);
  seen_greater_log = false;
}

-- it leads at once, if its vote says so, or follows
abbrev pub resumed : EngineView → Option ℕ × EngineView
resumed e = answered (refusals_of_startup nat_cmp e.config e.machine) e (with_machine e (startup nat_cmp entry_meaning e.config e.machine))

-- an engine that led, by its stored vote, doesn't lead on: a voter stands for election in a new term, another node waits; an
-- engine that didn't lead follows, or learns
abbrev pub begun_anew : ℕ → EngineView → Option ℕ × EngineView
begun_anew now e =
    if is_leader nat_cmp e.machine.core.state e.config.id
    then (if is_voter nat_cmp e.machine.core.state.em.membership e.config.id then elected now e else (None, e))
    else resumed e

-- an engine starts: it resumes, or with a bare start doesn't lead on
abbrev pub starts_by : Start → ℕ → EngineView → Option ℕ × EngineView
starts_by Plain now e = resumed e
starts_by Saved now e = resumed e
starts_by Bare now e = begun_anew now e
