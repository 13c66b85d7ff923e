-- A leader's call that its engine refuses.
use Rattle.std.specs.Prelude.{ℕ, ◌≡◌, ◌≢◌, MatchBool, Result, Ok, Err, IfOk, List, [], ◌∷◌, length, Bool, true, false, Option, None, Some, is_none, if◌then◌else◌, refl}
use Rattle.std.specs.declared.alloc.AllocError.{AllocError}
use Rattle.std.specs.Option.{option_map, option_or}
use Rattle.std.specs.Ordering.{nat_cmp}
use Rattle.std.proofs.Common.{ap, ◌∙◌}
use Rattle.raft_state.specs.declared.ids.LogId.{LogId}
use Rattle.raft_state.specs.State.{known_leader}
use Rattle.raft_command.specs.Ends.{IsSpent, is_memory}
use Rattle.raft_error.specs.declared.error.EngineError.{EngineError}
use Rattle.raft_error.specs.declared.error.EngineError.TheVariants.{NotAllowed, NoMembership, NotInMembers, TermEnd, IndexEnd, CounterEnd, UnknownTarget, ForeignInflight, OutsideInflight, LogReverted, VoteNotCommitted, OwnVote, NotFollowing, ContradictsHeld, SnapshotUnfit, CommittedNotHeld, ForwardToLeader, OutOfMemory, Spent}
use Rattle.raft_error.specs.Number.{first_refusal, number_of}
use Rattle.raft_command.specs.declared.config.EngineConfig.{EngineConfig}
use Rattle.raft_command.specs.declared.replication.ReplicationResult.{ReplicationResult}
use Rattle.raft_command.specs.declared.replication.RequestId.{RequestId}
use Rattle.raft_steps.specs.LeaderHandler.{leader_append_entries}
use Rattle.raft_steps.specs.Parts.{leading, led_of, on_leader}
use Rattle.raft_steps.specs.Refusals.{refusals_of_local_progress, refusals_of_propose}
use Rattle.raft_steps.specs.ReplicationHandler.{update_local_progress}
use Rattle.raft_steps.specs.Replies.{update_progress}
use Rattle.raft_steps.specs.ReplyRefusals.{refusals_of_progress}
use Rattle.raft_engine.specs.LeaderCalls.{EndsLed, RefusesLed, refusals_of_led}
use Rattle.raft_store.specs.declared.entry.Entry.{Entry}
use Rattle.raft_store.specs.Entries.{entry_meaning}
use Rattle.raft_store.specs.Types.{EngineView, WorldLeader, WorldMachine}
use Rattle.raft_calls.specs.Deliveries.{answered, led_call, progressed, unled_number, with_machine}
use Rattle.raft_calls.specs.Feeds.{WorldLed, held_where_led}
use Rattle.raft_calls.specs.LeaderCalls.{entries_proposed}
use Rattle.raft_calls.specs.Refusal.{refusal_of}

abbrev Refusal : Type 0
Refusal = EngineError ℕ (Unit {0})

same_view : (a b : EngineView) → a.config ≡ b.config → a.machine ≡ b.machine → a.seen_greater_log ≡ b.seen_greater_log → a ≡ b
same_view a b config machine flag =
    ap (λ (c : EngineConfig ℕ). record a { config = c }) config
    ∙ (ap (λ (m : WorldMachine). record { config = b.config; machine = m; seen_greater_log = a.seen_greater_log }) machine
    ∙ ap (λ (s : Bool). record { config = b.config; machine = b.machine; seen_greater_log = s }) flag)

-- a refusal other than out of memory
refused_of : (x : Refusal) (A B : Type 0) → MatchBool (is_memory x) A B → x ≢ OutOfMemory → B
refused_of OutOfMemory A B h other = absurd (other refl)
refused_of (NotAllowed l v) A B h other = h
refused_of NoMembership A B h other = h
refused_of (NotInMembers i) A B h other = h
refused_of TermEnd A B h other = h
refused_of IndexEnd A B h other = h
refused_of CounterEnd A B h other = h
refused_of UnknownTarget A B h other = h
refused_of ForeignInflight A B h other = h
refused_of OutsideInflight A B h other = h
refused_of LogReverted A B h other = h
refused_of VoteNotCommitted A B h other = h
refused_of OwnVote A B h other = h
refused_of NotFollowing A B h other = h
refused_of ContradictsHeld A B h other = h
refused_of SnapshotUnfit A B h other = h
refused_of CommittedNotHeld A B h other = h
refused_of (ForwardToLeader i d) A B h other = h
refused_of Spent A B h other = h

abbrev unit_err : Refusal → Result (Unit {0}) Refusal
unit_err x = Err x

module _ (asks : WorldLed → Option Refusal) (step : WorldLed → WorldLed) (spent_first : (l : WorldLed) → l.core.output.spent ≡ true → asks l ≡ Some Spent) where
  abbrev led : EngineView → WorldLeader → WorldLed
  led e l = led_of l e.machine.core.state e.machine.core.output

  refused_is : (e : EngineView) (x : Refusal) (node : Option (Unit {0})) → refusals_of_led nat_cmp node asks e.machine ≡ Some x → (Some (number_of x), e) ≡ led_call asks step e
  refused_is e x node h = go e.machine.leader e.machine.core.output.spent refl h
    where
      same : (a b : Refusal) → Some a ≡ Some b → number_of b ≡ number_of a
      same a b p = cc

      go : (o : Option WorldLeader) (b : Bool) → e.machine.core.output.spent ≡ b →
          option_or (first_refusal ((b, Spent) ∷ (is_none o, ForwardToLeader (known_leader nat_cmp e.machine.core.state) node) ∷ []))
          (elim (option_map {U = WorldLed} (λ (l : WorldLeader). record { leader = l; core = e.machine.core }) o) as (λ (_ : Option WorldLed). Option Refusal) [ None ↦ None | Some l ↦ asks l ])
          ≡ Some x →
          (Some (number_of x), e)
          ≡ elim o as (λ (_ : Option WorldLeader). Option ℕ × EngineView) [
            | None ↦ (Some (if b then number_of {NID = ℕ} {N = Unit {0}} Spent else number_of {NID = ℕ} {N = Unit {0}} (ForwardToLeader None None)), e)
            | Some l ↦ answered (asks (led e l)) e (with_machine e (leading e.machine (step (led e l))))
          ]
      go None true is q = ap (λ (n : ℕ). (Some n, e)) (same Spent x q)
      go None false is q = ap (λ (n : ℕ). (Some n, e)) (same (ForwardToLeader (known_leader nat_cmp e.machine.core.state) node) x q)
      go (Some l) true is q = rw (spent_first (led e l) is) (ap (λ (n : ℕ). (Some n, e)) (same Spent x q))
      go (Some l) false is q = rw q refl

  -- and a call that is done
  done_along : (e new : EngineView) → (refusals_of_led nat_cmp None asks e.machine ≡ None) × (new.machine ≡ on_leader step e.machine) → new.config ≡ e.config
      → new.seen_greater_log ≡ e.seen_greater_log → (None, new) ≡ led_call asks step e
  done_along e new done config flag =
      ap (λ (v : EngineView). (None, v)) (same_view new (with_machine e (on_leader step e.machine)) config done.1 flag) ∙ go e.machine.leader e.machine.core.output.spent done.0
    where
      go : (o : Option WorldLeader) (b : Bool) →
          option_or (first_refusal ((b, Spent) ∷ (is_none o, ForwardToLeader (known_leader nat_cmp e.machine.core.state) None) ∷ []))
          (elim (option_map {U = WorldLed} (λ (l : WorldLeader). record { leader = l; core = e.machine.core }) o) as (λ (_ : Option WorldLed). Option Refusal) [ None ↦ None | Some l ↦ asks l ])
          ≡ None →
          (None, with_machine e (elim o as (λ (_ : Option WorldLeader). WorldMachine) [ None ↦ record e.machine { leader = o } | Some l ↦ leading e.machine (step (led e l)) ]))
          ≡ elim o as (λ (_ : Option WorldLeader). Option ℕ × EngineView) [
            | None ↦ (Some (unled_number e), e)
            | Some l ↦ answered (asks (led e l)) e (with_machine e (leading e.machine (step (led e l))))
          ]
      go None true q = cc
      go None false q = cc
      go (Some l) true q = cc
      go (Some l) false q = let r : asks (led e l) ≡ None = q in rw r refl

  -- however it ends
  pub ended_along : (e new : EngineView) (r : Result (Unit {0}) Refusal) → EndsLed nat_cmp asks r step e.machine new.machine → new.config ≡ e.config → new.seen_greater_log ≡ e.seen_greater_log
      → IfOk (refusal_of r) (λ refusal. ◌≡◌ {A = Option ℕ × EngineView} (refusal, new) (led_call asks step e))
  ended_along e new (Ok x) ends config flag = done_along e new ends config flag
  ended_along e new (Err x) ends config flag = go (is_memory x) ends
    where
      go : (b : Bool) → MatchBool b ((refusals_of_led nat_cmp None asks e.machine ≡ None) × IsSpent new.machine.core.output) (RefusesLed nat_cmp asks x e.machine × (new.machine ≡ e.machine))
          → IfOk {T = Option ℕ} {E = AllocError} (if b then Err (record {}) else Ok (Some (number_of x))) (λ refusal. ◌≡◌ {A = Option ℕ × EngineView} (refusal, new) (led_call asks step e))
      go true h = tt
      go false h = rw (same_view new e config h.1 flag) (refused_is e x h.0.0 h.0.2)

module _ (asks : WorldLed → Option Refusal) (step : WorldLed → WorldLed) (spent_first : (l : WorldLed) → l.core.output.spent ≡ true → asks l ≡ Some Spent) where
  -- the step, where it isn't refused
  abbrev pub unless_refused : WorldLed → WorldLed
  unless_refused l = elim (asks l) [ None ↦ step l | Some r ↦ l ]

  abbrev asked_of : Option (Unit {0}) → WorldMachine → Option WorldLeader → Bool → Option Refusal
  asked_of node m o b =
      option_or (first_refusal ((b, Spent) ∷ (is_none o, ForwardToLeader (known_leader nat_cmp m.core.state) node) ∷ []))
      (elim (option_map {U = WorldLed} (λ (l : WorldLeader). record { leader = l; core = m.core }) o) as (λ (_ : Option WorldLed). Option Refusal) [ None ↦ None | Some l ↦ asks l ])

  abbrev by : (WorldLed → WorldLed) → WorldMachine → Option WorldLeader → WorldMachine
  by f m o = elim o as (λ (_ : Option WorldLeader). WorldMachine) [ None ↦ record m { leader = o } | Some l ↦ leading m (f (led_of l m.core.state m.core.output)) ]

  pub done_unless_refused : (m : WorldMachine) → refusals_of_led nat_cmp None asks m ≡ None → on_leader step m ≡ on_leader unless_refused m
  done_unless_refused m h = go m.leader m.core.output.spent h
    where
      go : (o : Option WorldLeader) (b : Bool) → asked_of None m o b ≡ None → by step m o ≡ by unless_refused m o
      go None b q = refl
      go (Some l) true q = cc
      go (Some l) false q = let r : asks (led_of l m.core.state m.core.output) ≡ None = q in rw (r, unless_refused) refl

  pub same_unless_refused : (m : WorldMachine) (x : Refusal) (node : Option (Unit {0})) → refusals_of_led nat_cmp node asks m ≡ Some x → m ≡ on_leader unless_refused m
  same_unless_refused m x node h = go m.leader m.core.output.spent refl h
    where
      go : (o : Option WorldLeader) (b : Bool) → m.core.output.spent ≡ b → asked_of node m o b ≡ Some x → record m { leader = o } ≡ by unless_refused m o
      go None b is q = refl
      go (Some l) true is q = rw (spent_first (led_of l m.core.state m.core.output) is, unless_refused) refl
      go (Some l) false is q = let r : asks (led_of l m.core.state m.core.output) ≡ Some x = q in rw (r, unless_refused) refl

-- an acknowledgement of the leader's own log that is done, and one that is refused
pub held_done : (x : Option (LogId ℕ)) (e new : EngineView)
    → (refusals_of_led nat_cmp None (refusals_of_local_progress nat_cmp e.config x) e.machine ≡ None) × (new.machine ≡ on_leader (update_local_progress nat_cmp e.config x) e.machine)
    → new.config ≡ e.config → new.seen_greater_log ≡ e.seen_greater_log → new ≡ held_where_led x e
held_done x e new ends config flag =
    same_view new (held_where_led x e) config (ends.1 ∙ done_unless_refused (refusals_of_local_progress nat_cmp e.config x) (update_local_progress nat_cmp e.config x) (λ l s. rw s refl) e.machine ends.0) flag

pub held_refused : (x : Option (LogId ℕ)) (e new : EngineView) (y : Refusal)
    → EndsLed nat_cmp (refusals_of_local_progress nat_cmp e.config x) (unit_err y) (update_local_progress nat_cmp e.config x) e.machine new.machine
    → new.config ≡ e.config → new.seen_greater_log ≡ e.seen_greater_log → y ≢ OutOfMemory → new ≡ held_where_led x e
held_refused x e new y ends config flag other =
    let h : RefusesLed nat_cmp (refusals_of_local_progress nat_cmp e.config x) y e.machine × (new.machine ≡ e.machine) = refused_of y _ _ ends other in
    same_view new (held_where_led x e) config (h.1 ∙ same_unless_refused (refusals_of_local_progress nat_cmp e.config x) (update_local_progress nat_cmp e.config x) (λ l s. rw s refl) e.machine y h.0.0 h.0.2) flag

-- a proposal of entries
pub propose_ended : (entries : List Entry) (e new : EngineView) (r : Result (Unit {0}) Refusal)
    → EndsLed nat_cmp (refusals_of_propose (length entries)) r (leader_append_entries nat_cmp entry_meaning e.config entries) e.machine new.machine → new.config ≡ e.config → new.seen_greater_log ≡ e.seen_greater_log
    → IfOk (refusal_of r) (λ refusal. ◌≡◌ {A = Option ℕ × EngineView} (refusal, new) (entries_proposed entries e))
propose_ended entries e new r = ended_along (refusals_of_propose (length entries)) (leader_append_entries nat_cmp entry_meaning e.config entries) (λ l s. rw s refl) e new r

-- what a target answered, or a failure
pub progress_ended : (target : ℕ) (id : RequestId) (result : Result (ReplicationResult ℕ) (Unit {0})) (e new : EngineView) (r : Result (Unit {0}) Refusal)
    → EndsLed nat_cmp (refusals_of_progress nat_cmp e.config target id result) r (update_progress nat_cmp e.config target id result) e.machine new.machine → new.config ≡ e.config
    → new.seen_greater_log ≡ e.seen_greater_log → IfOk (refusal_of r) (λ refusal. ◌≡◌ {A = Option ℕ × EngineView} (refusal, new) (progressed target id result e))
progress_ended target id result e new r =
    ended_along (refusals_of_progress nat_cmp e.config target id result) (update_progress nat_cmp e.config target id result) (λ l s. rw s refl) e new r
