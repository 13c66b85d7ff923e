-- A node that doesn't lead by its stored vote starts: it follows, at rest, and sends nothing.
use Rattle.std.proofs.Common.{ℕ, ◌≤◌, ◌≡◌, ◌≢◌, Bool, true, false, ◌&&◌, List, [], ◌∷◌, refl, sym, ap, ◌∙◌, subst, Option, None, Some}
use Rattle.std.specs.Prelude.{◌==◌, if◌then◌else◌}
use Rattle.proof_deeds.specs.raft_proposer.Joint.{u64_max}
use Rattle.std.specs.Ordering.{is_eq, nat_cmp}
use Rattle.proof_deeds.specs.raft_state.declared.ids.Vote.{Vote}
use Rattle.proof_deeds.specs.raft_state.declared.state.ServerState.TheVariants.{Follower, Learner, Leader}
use Rattle.proof_deeds.specs.raft_state.Members.{contains, is_voter}
use Rattle.proof_deeds.specs.raft_state.State.{is_leader}
use Rattle.proof_deeds.specs.raft_error.declared.error.EngineError.{EngineError}
use Rattle.proof_deeds.specs.raft_error.declared.error.EngineError.TheVariants.{IndexEnd}
use Rattle.proof_deeds.specs.raft_error.Number.{first_refusal}
use Rattle.proof_deeds.specs.raft_command.declared.config.EngineConfig.{EngineConfig}
use Rattle.proof_deeds.specs.raft_steps.Room.{is_full}
use Rattle.proof_deeds.specs.raft_steps.Starts.{refusals_of_startup, startup}
use Rattle.proof_deeds.specs.raft_store.declared.entry.Entry.{Entry}
use Rattle.proof_deeds.specs.raft_store.Entries.{entry_meaning}
use Rattle.proof_deeds.specs.raft_store.Restart.{restarted, started}
use Rattle.proof_deeds.specs.raft_store.Types.{EngineView, WorldMachine}
use Rattle.proof_deeds.specs.raft_schedule.declared.event.Outcome.{Outcome}
use Rattle.proof_deeds.specs.raft_schedule.declared.event.Outcome.TheVariants.{Done, Skipped}
use Rattle.proof_deeds.specs.raft_schedule.declared.event.SkipReason.{SkipReason}
use Rattle.proof_deeds.specs.raft_node.declared.act.Act.TheVariants.{Restart}
use Rattle.proof_deeds.specs.raft_node.declared.given.Given.{Given}
use Rattle.proof_deeds.specs.raft_calls.Deliveries.{with_machine}
use Rattle.proof_deeds.specs.raft_node.Events.{Scene, called_at, calls, finish, happens, moment_of, outcome_of, played, scene, scene_of, turn_of, with_answer}
use Rattle.proof_deeds.specs.raft_node.Execute.{effects}
use Rattle.proof_deeds.specs.raft_node.Net.{Net, NodeView, Records, no_streams}
use Rattle.proof_deeds.specs.raft_node.Runs.{whole_logs}
use Rattle.proof_deeds.specs.raft_node.Starts.{engine_on, restart, resumed_on, started_with}
use Rattle.proof_deeds.specs.raft_calls.Starts.{resumed}
use Rattle.proof_deeds.specs.raft_node.Work.{Work, weight}
use Rattle.proof_deeds.proofs.raft_node_proofs.Worked.{worked-idle}
use Rattle.proof_progress.specs.Continuations.{At, start_by, restart as restart_at}
use Rattle.proof_progress.proofs.Conditions.{EngineStands}
use Rattle.proof_progress.proofs.Images.{started_engine}
use Rattle.proof_progress.proofs.Campaigns.{at_id}
use Rattle.proof_progress.proofs.Elects.{if_false, unrefused_is}
use Rattle.proof_progress.proofs.LeaderStarts.{starts_under as kept_vote}
use Rattle.proof_progress.proofs.Places.{Changed, changes}
use Rattle.proof_progress.proofs.Plays.{latest}
use Rattle.proof_progress.proofs.Works.{at_work}

-- a start with the saved committed id or without resumes
pub resumes_by : (settings : EngineConfig ℕ) (saved : Bool) (N : NodeView) → restart settings (start_by saved) N ≡ resumed_on settings saved N
resumes_by settings false N = refl
resumes_by settings true N = refl

-- the node
abbrev pub started_node : EngineConfig ℕ → Bool → ℕ → NodeView → NodeView
started_node settings saved now N = record N { moment = now; store = restarted nat_cmp entry_meaning saved N.store; engine = Some (started_engine settings saved N); streams = no_streams; noted = None }

pub starts_under : (settings : EngineConfig ℕ) (saved : Bool) (N : NodeView) → (started_engine settings saved N).machine.core.state.vote ≡ N.store.vote
starts_under settings saved N = kept_vote settings saved N

pub starts_unled : (settings : EngineConfig ℕ) (saved : Bool) (N : NodeView) → (started_engine settings saved N).machine.core.state.role ≢ Leader
starts_unled settings saved N = go (is_voter nat_cmp (started nat_cmp entry_meaning saved N.store).em.membership N.id)
  where
    go : (b : Bool) → (if b then Follower else Learner) ≢ Leader
    go true = λ z. cc
    go false = λ z. cc

module _ (given : Given) (saved : Bool) (now : ℕ) (N : NodeView) (unled : is_leader nat_cmp (started nat_cmp entry_meaning saved N.store) N.id ≡ false) where
  no_blank : (a b c d e : Bool) → ((a && b) && c) ≡ false → ◌≡◌ {A = Option (EngineError ℕ (Unit {0}))} (first_refusal (((c && a && b && d) && e, IndexEnd) ∷ [])) None
  no_blank true true true d e h = cc
  no_blank true true false d e h = refl
  no_blank true false true d e h = refl
  no_blank true false false d e h = refl
  no_blank false b true d e h = refl
  no_blank false b false d e h = refl

  pub starting : ◌≡◌ {A = Option ℕ × EngineView} (resumed (engine_on given.settings saved N)) (None, started_engine given.settings saved N)
  unfolding startup
  starting =
      unrefused_is (refusals_of_startup nat_cmp (engine_on given.settings saved N).config (engine_on given.settings saved N).machine) (engine_on given.settings saved N) (with_machine (engine_on given.settings saved N) (startup nat_cmp entry_meaning (engine_on given.settings saved N).config (engine_on given.settings saved N).machine))
      (no_blank (is_eq (nat_cmp (started nat_cmp entry_meaning saved N.store).vote.leader_id.node_id N.id)) (contains nat_cmp (started nat_cmp entry_meaning saved N.store).em.membership N.id) (started nat_cmp entry_meaning saved N.store).vote.committed true (is_full nat_cmp (started nat_cmp entry_meaning saved N.store).vote (started nat_cmp entry_meaning saved N.store).ids) unled)
      ∙ ap (λ (m : WorldMachine). let z : Option ℕ × EngineView = (None, with_machine (engine_on given.settings saved N) m) in z)
      (if_false (is_leader nat_cmp (started nat_cmp entry_meaning saved N.store) N.id) _ _ unled)

  started_scene : (rs : Records (List Entry)) → ◌≡◌ {A = Option ℕ × Scene (List Entry)} (calls given (Restart (start_by saved)) (called_at now (record { node = N; records = rs }))) (None, record { node = started_node given.settings saved now N; records = with_answer None rs })
  started_scene rs =
      ap (λ (p : Option ℕ × NodeView). let z : Option ℕ × Scene (List Entry) = (p.0, scene p.1 (with_answer None rs)) in z) (resumes_by given.settings saved (record N { moment = now }))
      ∙ ap (λ (r : Option ℕ × EngineView). let p : Option ℕ × NodeView = started_with saved (record N { moment = now }) r in let z : Option ℕ × Scene (List Entry) = (p.0, scene p.1 (with_answer None rs)) in z) starting

  plays_start : (rs : Records (List Entry)) → N.moment ≤ now → ◌≡◌ {A = Outcome × Scene (List Entry)} (played whole_logs weight given (Restart (start_by saved)) (restart_at N.id saved now) (record { node = N; records = rs })) (Done, record { node = started_node given.settings saved now N; records = with_answer None rs })
  unfolding played finish
  plays_start rs l =
      ap (λ (o : Option SkipReason). after o (moment_of (restart_at N.id saved now) N)) (unskipped N.engine)
      ∙ (ap (after None) (latest now N.moment l)
      ∙ (ap (λ (r : Option ℕ × Scene (List Entry)). finish whole_logs weight (turn_of (Restart (start_by saved)) (record N { moment = now })) None r.0 r.1) (started_scene rs)
      ∙ ap (λ (w : Work (List Entry)). let z : Outcome × Scene (List Entry) = (outcome_of None w.engine, scene_of (started_node given.settings saved now N) w) in z)
      (worked-idle whole_logs (turn_of (Restart (start_by saved)) (record N { moment = now })) (at_work (started_engine given.settings saved N) (effects (restarted nat_cmp entry_meaning saved N.store) no_streams None (with_answer None rs))) refl)))
    where
      after : Option SkipReason → ℕ → Outcome × Scene (List Entry)
      after o k = elim o as (λ _. Outcome × Scene (List Entry)) [
        | Some reason ↦ (Skipped reason, record { node = N; records = rs })
        | None ↦ finish whole_logs weight (turn_of (Restart (start_by saved)) (record N { moment = k })) None (calls given (Restart (start_by saved)) (called_at k (record { node = N; records = rs }))).0 (calls given (Restart (start_by saved)) (called_at k (record { node = N; records = rs }))).1
      ]

      unskipped : (o : Option EngineView) → ◌≡◌ {A = Option SkipReason} (elim o [ None ↦ None | Some e ↦ None ]) None
      unskipped None = refl
      unskipped (Some e) = refl

  -- in a world: the node becomes the started one, and no message is sent
  pub restarts : (net : Net (List Entry)) (n : ℕ) → At net.nodes n N → N.moment ≤ now → Changed net (happens whole_logs weight given (restart_at n saved now) net).1 n (started_node given.settings saved now N) (with_answer None net.records)
  restarts net n at l =
      subst (λ k. Changed net (happens whole_logs weight given (restart_at k saved now) net).1 k (started_node given.settings saved now N) (with_answer None net.records)) (at_id net.nodes n N at)
      (changes given net (restart_at N.id saved now) N.id (Restart (start_by saved)) N _ (record { node = started_node given.settings saved now N; records = with_answer None net.records })
      (subst (λ k. At net.nodes k N) (sym (at_id net.nodes n N at)) at) refl (plays_start net.records l) refl)

-- so it stands, if it is a member and has a next term
pub starts_standing : (settings : EngineConfig ℕ) (saved : Bool) (N : NodeView) → (N.store.vote.leader_id.term == u64_max) ≡ false → contains nat_cmp (started nat_cmp entry_meaning saved N.store).em.membership N.id ≡ true → EngineStands (started_engine settings saved N)
starts_standing settings saved N t m = record {
  unspent = refl;
  term = subst (λ (v : Vote ℕ). (v.leader_id.term == u64_max) ≡ false) (sym (starts_under settings saved N)) t;
  unled = refl;
  rest = refl;
  role = starts_unled settings saved N;
  member = m;
}
