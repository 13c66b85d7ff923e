-- What starts queue, and what reads see.
use Rattle.std.specs.Prelude.{◌≡◌, ◌⊎◌, ℕ, ◌≤◌, Bool, true, false, ◌&&◌, Option, None, Some, refl, is_some, if◌then◌else◌}
use Rattle.std.specs.List.{AllByRecursion}
use Rattle.std.proofs.Common.{sym, subst, arith, inl, inr}
use Rattle.std.specs.declared.cmp.Ordering.{Ordering}
use Rattle.std.specs.Ordering.{is_eq, is_gt, is_le}
use Rattle.std.specs.Cmp.{IsTotalOrder}
use Rattle.raft_state.specs.declared.config.RaftEntry
use Rattle.raft_state.specs.declared.ids.LogId.{LogId}
use Rattle.raft_state.specs.Log.{last}
use Rattle.raft_state.specs.Members.{contains}
use Rattle.raft_state.specs.Order.{last_id_cmp, leader_id_cmp, next}
use Rattle.raft_state.specs.State.{is_leader, is_leading}
use Rattle.raft_state.proofs.Orders.{last_total, le_of_not_gt, le_refl, lt_is_le, lt_of_gt}
use Rattle.raft_command.specs.declared.command.Command.{Command}
use Rattle.raft_command.specs.declared.config.EngineConfig.{EngineConfig}
use Rattle.raft_steps.specs.Laws.{DeletesNothing, Queues}
use Rattle.raft_steps.specs.LeaderHandler.{read_log_id}
use Rattle.raft_steps.specs.LeadLaws.{stored_by, StoresPast}
use Rattle.raft_steps.specs.Parts.{Led, Machine, leading, on_leader}
use Rattle.raft_proposer.specs.Joint.{JointLeader}
use Rattle.raft_steps.specs.ReplicationHandler.{update_local_progress}
use Rattle.raft_steps.specs.ReplyLaws.{PurgesNothing}
use Rattle.raft_steps.specs.Starts.{is_settled, lead_on, leader_step_down, startup}
use Rattle.raft_steps.specs.VoteHandler.{become_following, become_leader, lead_anew, update_internal_server_state}
use Rattle.raft_steps.proofs.Allowed.{AllowsLeading, startup_only, step_down_only}
use Rattle.raft_steps.proofs.Kept.{TakesIds, either, either_option}
use Rattle.raft_steps.proofs.KeptEngine.{else_of}
use Rattle.raft_steps.proofs.KeptInstall.{then_of}
use Rattle.raft_steps.proofs.LawsFollow.{undeleting, Undeleting}
use Rattle.raft_steps.proofs.LawsInstall.{Unpurging, unpurging}
use Rattle.raft_steps.proofs.LawsQueue.{initiate_queues, internal_queues, local_queues, queues_then, still}

no_and : (a b : Bool) → b ≡ false → (a && b) ≡ false
no_and true b e = e
no_and false b e = refl

and_no : (a b : Bool) → a ≡ false → (a && b) ≡ false
and_no true b e = let z : true ≡ false = e in cc
and_no false b e = refl

module _ {NID N E : Type 0} (entry : RaftEntry.Ghosts E NID N) (named : TakesIds entry) where
  named_past : (n : ℕ) (e : E) (id : LogId NID) → id.index ≡ n → n ≤ (entry.id_of (entry.with_id e id)).index
  named_past n e id same = subst (λ (y : LogId NID). n ≤ y.index) (sym (named e id).0) (omega (arith, same))

module _ {C NID N E D R S : Type 0} (cmp : NID → NID → Ordering) (total : IsTotalOrder cmp) (entry : RaftEntry.Ghosts E NID N) (config : EngineConfig NID) where
  lead_on_queues : (l : Led C NID N E D R S) → Queues cmp l.core (lead_on cmp config l).core
  lead_on_queues l =
      let noted = update_local_progress cmp config (last l.core.state.ids) l in
      queues_then cmp l.core noted.core _ (local_queues cmp total config (last l.core.state.ids) l) (initiate_queues cmp total config false noted)

  pub startup_queues : (m : Machine C NID N E D R S) → Queues cmp m.core (startup cmp entry config m).core
  unfolding startup
  startup_queues m =
      let led = update_internal_server_state cmp entry config m in
      either (λ (q : Machine C NID N E D R S). Queues cmp m.core q.core) (is_leader cmp m.core.state config.id) _ _
      (queues_then cmp m.core led.core _ (internal_queues cmp total entry config m)
      (either_option (λ (q : Machine C NID N E D R S). Queues cmp led.core q.core) led.leader _ _ (still cmp led.core led.core refl refl refl) (λ l. lead_on_queues (record { leader = l; core = led.core }))))
      (still cmp m.core _ refl refl refl)

  pub step_down_queues : (m : Machine C NID N E D R S) → Queues cmp m.core (leader_step_down cmp entry config m).core
  unfolding leader_step_down
  step_down_queues m =
      either (λ (q : Machine C NID N E D R S). Queues cmp m.core q.core) (is_settled cmp m.core.state) _ _ (internal_queues cmp total entry config m) (still cmp m.core m.core refl refl refl)

module _ {C NID N E D R S : Type 0} (cmp : NID → NID → Ordering) (entry : RaftEntry.Ghosts E NID N) (config : EngineConfig NID) where
  pub startup_deletes : (m : Machine C NID N E D R S) → DeletesNothing m.core (startup cmp entry config m).core
  startup_deletes m = startup_only Undeleting cmp config undeleting entry _ (λ v leader e. refl) m refl

  pub step_down_deletes : (m : Machine C NID N E D R S) → DeletesNothing m.core (leader_step_down cmp entry config m).core
  step_down_deletes m = step_down_only Undeleting cmp config undeleting entry _ (λ v leader e. refl) m refl

  pub startup_purges : (m : Machine C NID N E D R S) → PurgesNothing m.core (startup cmp entry config m).core
  startup_purges m = startup_only Unpurging cmp config unpurging entry _ (λ v leader e. refl) m refl

  pub step_down_purges : (m : Machine C NID N E D R S) → PurgesNothing m.core (leader_step_down cmp entry config m).core
  step_down_purges m = step_down_only Unpurging cmp config unpurging entry _ (λ v leader e. refl) m refl

  -- a command stores no entry below an index, and those of leading store none
  module _ (n : ℕ) where
    abbrev Past : Command C NID N E D R S → Type 0
    Past x = AllByRecursion (λ e. n ≤ (entry.id_of e).index) (stored_by x)

    past : AllowsLeading Past
    past = record {
      becomes = tt;
      quits = tt;
      saves = λ v. tt;
      rebuilds = λ targets. tt;
      replicates = λ target f. tt;
      tells = λ x. tt;
      commits = λ seq a b. tt;
      builds = λ seq. tt;
    }

  pub startup_stores : TakesIds entry → (m : Machine C NID N E D R S) → StoresPast entry m.core (startup cmp entry config m).core
  startup_stores named m =
      let n = next (last m.core.state.ids) in
      startup_only (Past n) cmp config (past n) entry n (λ v leader e. (named_past entry named n e (record { leader_id = leader; index = n }) refl, tt)) m refl

  pub step_down_stores : TakesIds entry → (m : Machine C NID N E D R S) → StoresPast entry m.core (leader_step_down cmp entry config m).core
  step_down_stores named m =
      let n = next (last m.core.state.ids) in
      step_down_only (Past n) cmp config (past n) entry n (λ v leader e. (named_past entry named n e (record { leader_id = leader; index = n }) refl, tt)) m refl

  -- a node that was leader leads at once
  led_on : (f : Led C NID N E D R S → Led C NID N E D R S) (q : Machine C NID N E D R S) → is_some q.leader ≡ true → is_some (on_leader f q).leader ≡ true
  led_on f q e = go q.leader e where
    go : (o : Option (JointLeader C NID N E D R S)) → is_some o ≡ true
        → (let n = (elim o as (λ _. Machine C NID N E D R S) [ None ↦ q | Some l ↦ leading q (f (record { leader = l; core = q.core })) ]) in is_some n.leader ≡ true)
    go None h = let z : false ≡ true = h in cc
    go (Some l) h = refl

  pub startup_leads : (m : Machine C NID N E D R S) → is_leader cmp m.core.state config.id ≡ true → is_some (startup cmp entry config m).leader ≡ true
  unfolding startup update_internal_server_state become_leader lead_anew
  startup_leads m e =
      let Leads = λ (q : Machine C NID N E D R S). is_some q.leader ≡ true in
      then_of Leads (is_leader cmp m.core.state config.id) _ _ e
      (led_on (lead_on cmp config) (update_internal_server_state cmp entry config m)
      (then_of Leads (is_leader cmp m.core.state config.id) _ _ e
      (either_option Leads m.leader _ _ refl (λ l. either Leads (is_eq (leader_id_cmp cmp l.vote.leader_id m.core.state.vote.leader_id)) _ _ refl refl))))

  -- a leader that is no member follows
  pub steps_down : (m : Machine C NID N E D R S) → is_settled cmp m.core.state ≡ true → contains cmp m.core.state.em.membership config.id ≡ false → (leader_step_down cmp entry config m).leader ≡ None
  unfolding leader_step_down update_internal_server_state become_following
  steps_down m settled out =
      let Follows = λ (q : Machine C NID N E D R S). q.leader ≡ None in
      let not_leading : is_leading cmp m.core.state config.id ≡ false = no_and (is_eq (cmp m.core.state.vote.leader_id.node_id config.id)) _ out in
      then_of Follows (is_settled cmp m.core.state) _ _ settled
      (else_of Follows (is_leader cmp m.core.state config.id) _ _ (and_no (is_leading cmp m.core.state config.id) m.core.state.vote.committed not_leading)
      (else_of Follows (is_leading cmp m.core.state config.id) _ _ not_leading refl))

module _ {C NID N E D R S : Type 0} (cmp : NID → NID → Ordering) (total : IsTotalOrder cmp) (l : Led C NID N E D R S) where
  abbrev own : Option (LogId NID)
  own = Some l.leader.noop_log_id

  pub reads_committed : is_le (last_id_cmp cmp l.core.state.committed (read_log_id cmp l)) ≡ true
  reads_committed = go (is_gt (last_id_cmp cmp l.core.state.committed own)) refl where
    go : (b : Bool) → is_gt (last_id_cmp cmp l.core.state.committed own) ≡ b → is_le (last_id_cmp cmp l.core.state.committed (if b then l.core.state.committed else own)) ≡ true
    go true e = le_refl (last_total cmp total) l.core.state.committed
    go false e = le_of_not_gt _ e

  pub reads_own : is_le (last_id_cmp cmp (Some l.leader.noop_log_id) (read_log_id cmp l)) ≡ true
  reads_own = go (is_gt (last_id_cmp cmp l.core.state.committed own)) refl where
    go : (b : Bool) → is_gt (last_id_cmp cmp l.core.state.committed own) ≡ b → is_le (last_id_cmp cmp own (if b then l.core.state.committed else own)) ≡ true
    go true e = lt_is_le _ (lt_of_gt (last_total cmp total) l.core.state.committed own e)
    go false e = le_refl (last_total cmp total) own

  pub reads_no_more : (read_log_id cmp l ≡ l.core.state.committed) ⊎ (read_log_id cmp l ≡ Some l.leader.noop_log_id)
  reads_no_more = either (λ (x : Option (LogId NID)). (x ≡ l.core.state.committed) ⊎ (x ≡ Some l.leader.noop_log_id)) (is_gt (last_id_cmp cmp l.core.state.committed own)) _ _ (inl refl) (inr refl)
