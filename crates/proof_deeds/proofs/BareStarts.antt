-- After a bare start a node leads only in a later term: it stands for election anew, or doesn't lead.
use Rattle.std.proofs.Common.{ℕ, ◌+◌, ◌<◌, ◌≤◌, ◌≡◌, inl, inr, Bool, true, false, List, [], arith, refl, sym, ◌∙◌, subst, Option, None, Some}
use Rattle.std.specs.Prelude.{IfSome, if◌then◌else◌}
use Rattle.std.specs.Ordering.{nat_cmp}
use Rattle.raft_node.specs.raft_state.declared.ids.LogId.{LogId}
use Rattle.raft_node.specs.raft_state.declared.ids.Vote.{Vote}
use Rattle.raft_node.specs.raft_state.Members.{is_voter}
use Rattle.raft_node.specs.raft_state.State.{is_leader}
use Rattle.raft_node.specs.raft_error.declared.error.EngineError.{EngineError}
use Rattle.raft_node.specs.raft_steps.Engine.{elect}
use Rattle.raft_node.specs.raft_steps.Refusals.{refusals_of_elect}
use Rattle.raft_node.specs.raft_steps.Starts.{refusals_of_startup, startup}
use Rattle.raft_node.specs.raft_store.declared.entry.Entry.{Entry}
use Rattle.raft_node.specs.raft_store.Entries.{entry_meaning}
use Rattle.raft_node.specs.raft_store.Restart.{is_outrun, settled_by, started}
use Rattle.raft_node.specs.raft_store.Types.{EngineView, WorldLeader, WorldStore}
use Rattle.raft_node.specs.raft_schedule.declared.event.Event.{Event}
use Rattle.raft_node.specs.raft_schedule.declared.event.Outcome.{Outcome}
use Rattle.raft_node.specs.raft_schedule.declared.event.Outcome.TheVariants.{Skipped}
use Rattle.raft_node.specs.raft_schedule.declared.event.SkipReason.{SkipReason}
use Rattle.raft_node.specs.raft_schedule.declared.event.Start.TheVariants.{Bare}
use Rattle.raft_node.specs.declared.act.Act.TheVariants.{Restart}
use Rattle.raft_node.specs.declared.given.Given.{Given}
use Rattle.raft_node.specs.raft_calls.Deliveries.{answered, with_machine}
use Rattle.raft_node.specs.raft_calls.Elections.{elected}
use Rattle.raft_node.specs.raft_calls.Starts.{begun_anew, resumed}
use Rattle.raft_node.specs.Events.{Scene, called_at, calls, finish, moment_of, played, skip_running, skip_stopped, turn_of, work_of}
use Rattle.raft_node.specs.Net.{NodeView}
use Rattle.raft_node.specs.Runs.{whole_logs}
use Rattle.raft_node.specs.Starts.{engine_on, unsaved}
use Rattle.raft_node.specs.Work.{Work, weight}
use Rattle.raft_node.proofs.Ready.{scene_after}
use Rattle.raft_node.proofs.Worked.{worked-keeps}
use Rattle.proof_deeds.specs.BareStarts.{BareStartsLeadAnew}
use Rattle.proof_deeds.proofs.Unled.{Anew, AnewAt, Unled, elect_term, step_anew}
use Rattle.proof_deeds.proofs.Worlds.{if_some}

-- What a start makes: an engine that neither leads nor stands, or one with a later vote

module _ (e : EngineView) (h : Unled e.machine) where
  abbrev term : ℕ
  term = e.machine.core.state.vote.leader_id.term

  waits : Anew term e
  waits = inl (h, omega arith)

  elected_anew : (now : ℕ) → Anew term (elected now e).1
  elected_anew now = go (refusals_of_elect nat_cmp e.config e.machine)
    where
      go : (o : Option (EngineError ℕ (Unit {0}))) → Anew term (answered o e (with_machine e (elect nat_cmp entry_meaning e.config now e.machine))).1
      go None = inr (let t : (elect nat_cmp entry_meaning e.config now e.machine).core.state.vote.leader_id.term ≡ e.machine.core.state.vote.leader_id.term + 1 = elect_term e.config now e.machine in omega (arith, t))
      go (Some x) = waits

  -- a node that didn't lead follows, or learns
  resumed_anew : is_leader nat_cmp e.machine.core.state e.config.id ≡ false → Anew term (resumed e).1
  unfolding startup
  resumed_anew unled = go (refusals_of_startup nat_cmp e.config e.machine)
    where
      kept : Unled (startup nat_cmp entry_meaning e.config e.machine) × (term ≤ (startup nat_cmp entry_meaning e.config e.machine).core.state.vote.leader_id.term)
      kept = rw unled (h, omega arith)

      go : (o : Option (EngineError ℕ (Unit {0}))) → Anew term (answered o e (with_machine e (startup nat_cmp entry_meaning e.config e.machine))).1
      go None = inl kept
      go (Some x) = waits

  begun_is_anew : (now : ℕ) → Anew term (begun_anew now e).1
  begun_is_anew now = go (is_leader nat_cmp e.machine.core.state e.config.id) refl (is_voter nat_cmp e.machine.core.state.em.membership e.config.id)
    where
      of : Bool → Bool → Option ℕ × EngineView
      of b v = if b then (if v then elected now e else (None, e)) else resumed e

      go : (b : Bool) → is_leader nat_cmp e.machine.core.state e.config.id ≡ b → (v : Bool) → Anew term (of b v).1
      go true is true = elected_anew now
      go true is false = waits
      go false is v = resumed_anew is

-- it begins with the stored vote
started_vote : (saved : Bool) (u : WorldStore) → (started nat_cmp entry_meaning saved u).vote ≡ u.vote
started_vote saved u = go u.meta.last_log_id
  where
    fitted : (x : LogId ℕ) (b : Bool) → (let t : WorldStore = if b then record u { log = []; front = Some x } else u in t).vote ≡ u.vote
    fitted x true = refl
    fitted x false = refl

    go : (o : Option (LogId ℕ)) → (settled_by nat_cmp entry_meaning u o).vote ≡ u.vote
    go None = refl
    go (Some x) = fitted x (is_outrun nat_cmp entry_meaning u x)

pub begins_anew : (given : Given) (n : NodeView) → Anew n.store.vote.leader_id.term (begun_anew n.moment (engine_on given.settings false (unsaved n))).1
begins_anew given n =
    subst (λ (v : Vote ℕ). Anew v.leader_id.term (begun_anew n.moment (engine_on given.settings false (unsaved n))).1) (started_vote false (unsaved n).store)
    (begun_is_anew (engine_on given.settings false (unsaved n)) (refl, refl) n.moment)

-- The event, and then some of its commands

module _ (given : Given) (fuel : Work (List Entry) → ℕ) (event : Event) (s : Scene (List Entry)) where
  abbrev now : Scene (List Entry)
  now = called_at (moment_of event s.node) s

  abbrev made : Scene (List Entry)
  made = (calls given (Restart Bare) now).1

  abbrev AnewIn : NodeView → Type 0
  AnewIn n = IfSome n.engine (Anew s.node.store.vote.leader_id.term)

  begun_works : AnewIn (finish whole_logs fuel (turn_of (Restart Bare) now.node) event.stop (calls given (Restart Bare) now).0 made).1.node
  unfolding finish
  begun_works =
      worked-keeps whole_logs (turn_of (Restart Bare) now.node) (AnewAt s.node.store.vote.leader_id.term) (fuel (work_of event.stop made))
      (λ w busy a. step_anew s.node.store.vote.leader_id.term (turn_of (Restart Bare) now.node) w a) (work_of event.stop made) (begins_anew given now.node)

  starts_anew : AnewIn (played whole_logs fuel given (Restart Bare) event s).1.node
  unfolding played
  starts_anew = go s.node.engine
    where
      go : (o : Option EngineView) → AnewIn
          (scene_after {L = List Entry} (elim (elim o as (λ _. Option SkipReason) [ None ↦ skip_stopped (Restart Bare) | Some e ↦ skip_running (Restart Bare) s.node e ]) as (λ _. Outcome × Scene (List Entry)) [
            | Some reason ↦ (Skipped reason, s)
            | None ↦ finish whole_logs fuel (turn_of (Restart Bare) now.node) event.stop (calls given (Restart Bare) now).0 made
          ])).node
      go None = begun_works
      go (Some e) = begun_works

pub bare_starts_lead_anew : BareStartsLeadAnew
bare_starts_lead_anew given event s =
    if_some (Anew s.node.store.vote.leader_id.term) (λ e. IfSome e.machine.leader (λ l. s.node.store.vote.leader_id.term < e.machine.core.state.vote.leader_id.term)) (λ e a. leads e a e.machine.leader refl)
    (played whole_logs weight given (Restart Bare) event s).1.node.engine (starts_anew given weight event s)
  where
    leads : (e : EngineView) → Anew s.node.store.vote.leader_id.term e → (o : Option WorldLeader) → e.machine.leader ≡ o → IfSome o (λ l. s.node.store.vote.leader_id.term < e.machine.core.state.vote.leader_id.term)
    leads e a None is = tt
    leads e (inl h) (Some l) is = let z : None ≡ Some l = sym h.0.0 ∙ is in cc
    leads e (inr h) (Some l) is = h
