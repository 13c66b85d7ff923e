-- A start leaves an engine ready.
use Rattle.std.specs.Prelude.{ℕ, ◌≡◌, Bool, true, false, [], Option, None, Some, refl, if◌then◌else◌}
use Rattle.std.proofs.Common.{sym}
use Rattle.std.proofs.lemmas.Bool.{cond_both}
use Rattle.std.proofs.lemmas.Cmp.{nat_cmp_total}
use Rattle.std.proofs.lemmas.List.{append-nil}
use Rattle.std.specs.Ordering.{nat_cmp}
use Rattle.raft_state.specs.Log.{last}
use Rattle.raft_state.specs.Members.{is_voter}
use Rattle.raft_state.specs.Same.{nat_same}
use Rattle.raft_state.specs.State.{is_leader}
use Rattle.raft_command.specs.declared.config.EngineConfig.{EngineConfig}
use Rattle.raft_steps.specs.Parts.{on_core, on_leader, with_state}
use Rattle.raft_steps.specs.ReplicationHandler.{update_local_progress}
use Rattle.raft_steps.specs.Starts.{lead_on, refusals_of_startup, started_role, startup}
use Rattle.raft_steps.specs.VoteHandler.{update_internal_server_state}
use Rattle.raft_steps.proofs.Kept.{TakesIds}
use Rattle.raft_steps.proofs.Started.{startup_is_sound}
use Rattle.raft_store.specs.Entries.{entry_meaning}
use Rattle.raft_store.specs.Types.{EngineView, WorldLeader, WorldMachine}
use Rattle.raft_calls.specs.Feeds.{WorldLed}
use Rattle.raft_calls.specs.Held.{IsReady}
use Rattle.raft_calls.specs.Starts.{begun_anew, resumed}
use Rattle.raft_calls.specs.Elections.{elected}
use Rattle.raft_calls.proofs.Falls.{WorldCore}
use Rattle.raft_calls.proofs.Grows.{Grown, grown-none, grown-silent, grown-then, grown_held, initiate-grows, internal-grows, local-grows}
use Rattle.raft_calls.proofs.SnapshotReady.{answered_ready}

-- an entry takes the id that it is given
takes : TakesIds entry_meaning
takes e id = (refl, refl)

module _ (config : EngineConfig ℕ) where
  -- a starting leader sends what its log has
  lead_on-grows : (l : WorldLed) → Grown l.core (lead_on nat_cmp config l).core
  lead_on-grows l =
      let noted : WorldLed = update_local_progress nat_cmp config (last l.core.state.ids) l in
      grown-then l.core noted.core _ (local-grows config (last l.core.state.ids) l) (initiate-grows config noted)

  leads-grows : (m : WorldMachine) → Grown m.core (on_leader (lead_on nat_cmp config) m).core
  leads-grows m = go m.leader
    where
      go : (o : Option WorldLeader) → Grown m.core (on_leader (lead_on nat_cmp config) (record m { leader = o })).core
      go None = grown-none m.core
      go (Some l) = lead_on-grows (record { leader = l; core = m.core })

  -- the commands of a start store what the log has
  pub startup-grows : (m : WorldMachine) → Grown m.core (startup nat_cmp entry_meaning config m).core
  unfolding startup
  startup-grows m =
      let led : WorldMachine = update_internal_server_state nat_cmp entry_meaning config m in
      let following : WorldMachine = on_core (λ (c : WorldCore). with_state c (record c.state { role = started_role nat_cmp config c.state })) m in
      cond_both (is_leader nat_cmp m.core.state config.id) (on_leader (lead_on nat_cmp config) led) following (λ (n : WorldMachine). Grown m.core n.core)
      (λ _. grown-then m.core led.core _ (internal-grows config m) (leads-grows led))
      (λ _. grown-silent m.core following.core [] refl refl (sym (append-nil m.core.output.items)) tt)

-- and after it
pub resumed_ready : (e : EngineView) → IsReady e → IsReady (resumed e).1
resumed_ready e h =
    let after : WorldMachine = startup nat_cmp entry_meaning e.config e.machine in
    answered_ready (refusals_of_startup nat_cmp e.config e.machine) e _ h
    (λ (asks : refusals_of_startup nat_cmp e.config e.machine ≡ None). record {
      sound = startup_is_sound nat_cmp nat_cmp_total nat_same entry_meaning takes e.config e.machine asks h.sound;
      held = grown_held e.machine.core after.core (startup-grows e.config e.machine) h.held;
    })

-- what holds of an election, of an engine that waits and of one that resumes holds of one that doesn't lead on
pub begun_one : (P : Option ℕ × EngineView → Type 0) (now : ℕ) (e : EngineView) → (is_voter nat_cmp e.machine.core.state.em.membership e.config.id ≡ true → P (elected now e)) → P (None, e) → P (resumed e)
    → P (begun_anew now e)
begun_one P now e elects waits resumes = go (is_leader nat_cmp e.machine.core.state e.config.id)
  where
    anew : (v : Bool) → is_voter nat_cmp e.machine.core.state.em.membership e.config.id ≡ v → P (if v then elected now e else (None, e))
    anew true voter = elects voter
    anew false voter = waits

    go : (b : Bool) → P (if b then (if is_voter nat_cmp e.machine.core.state.em.membership e.config.id then elected now e else (None, e)) else resumed e)
    go true = anew (is_voter nat_cmp e.machine.core.state.em.membership e.config.id) refl
    go false = resumes
