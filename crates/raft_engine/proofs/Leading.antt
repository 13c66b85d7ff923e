-- The calls of a leader, made through its engine.
use Rattle.std.specs.Prelude.{◌≡◌, Bool, true, false, [], ◌∷◌, Option, None, Some, Result, Ok, Err, OnOk, MatchBool}
use Rattle.std.specs.Option.{option_or}
use Rattle.std.proofs.Common.{refl, ap, subst, sym, ◌∙◌}
use Rattle.std.specs.declared.alloc.Global.{Global}
use Rattle.std.specs.declared.boxed.Box.{Box}
use Rattle.std.specs.declared.cmp.Ordering.{Ordering}
use Rattle.raft_state.specs.declared.state.RaftState.{RaftState}
use Rattle.raft_state.specs.State.{known_leader}
use Rattle.raft_error.specs.Number.{first_refusal}
use Rattle.raft_error.specs.declared.error.EngineError.{EngineError}
use Rattle.raft_error.specs.declared.error.EngineError.TheVariants.{ForwardToLeader, Spent}
use Rattle.raft_command.specs.declared.command.Command.{Command}
use Rattle.raft_command.specs.declared.config.EngineConfig.{EngineConfig}
use Rattle.raft_command.specs.Ends.{Ends, IsSpent, is_memory}
use Rattle.raft_command.specs.Queue.{Queue}
use Rattle.raft_engine.specs.LeaderCalls.{refusals_of_led, EndsLed, RefusesLed, CommitsLatestWhere}
use Rattle.raft_steps.specs.Invariants.{IsSoundUnlessSpent, StaysSoundLed}
use Rattle.raft_steps.specs.Laws.{CommitsLatest}
use Rattle.raft_steps.specs.Parts.{Led, core_of, led_machine, led_of, machine_of, unboxed}
use Rattle.raft_proposer.specs.Joint.{JointCandidate, JointLeader}

-- a step that asks first whether the queue is spent is refused by an engine as by its leader
asked_once : {E : Type 0} (spent : Bool) (x y : E) (asks : Option E) → (spent ≡ true → asks ≡ Some x) → option_or (first_refusal ((spent, x) ∷ (false, y) ∷ [])) asks ≡ asks
asked_once true x y asks h = sym (h refl)
asked_once false x y asks h = refl

either : (b : Bool) (P Q R S : Type 0) → (P → R) → (Q → S) → MatchBool b P Q → MatchBool b R S
either true P Q R S f g h = f h
either false P Q R S f g h = g h

module _ {C NID N E D R S : Type 0} where
  led_is : (o : Option (Box (JointLeader C NID N E D R S) Global)) (b : Box (JointLeader C NID N E D R S) Global) (seen : JointLeader C NID N E D R S)
      → o ≡ Some b → seen ≡ b.value → unboxed o ≡ Some seen
  led_is o b seen is same = ap unboxed is ∙ ap Some (sym same)

module _ {C NID N E D R S : Type 0} (cmp : NID → NID → Ordering) (config : EngineConfig NID) where
  -- an engine stays sound by what keeps its leader's parts sound
  pub stays_led : (o : Option (Box (JointLeader C NID N E D R S) Global)) (b : Box (JointLeader C NID N E D R S) Global)
      (seen new : JointLeader C NID N E D R S) (s t : RaftState NID N) (q r : Queue (Command C NID N E D R S)) (candidate : Option (JointCandidate NID))
      → o ≡ Some b → seen ≡ b.value → StaysSoundLed cmp config (led_of seen s q) (led_of new t r)
      → IsSoundUnlessSpent cmp config (machine_of s q o candidate) → IsSoundUnlessSpent cmp config (led_machine (led_of new t r) candidate)
  stays_led o b seen new s t q r candidate is same stays h =
      stays candidate
      (subst (λ (l : Option (JointLeader C NID N E D R S)). IsSoundUnlessSpent cmp config (record { core = core_of s q; leader = l; candidate = candidate })) (led_is o b seen is same) h)

module _ {A C NID N E D R S : Type 0} (cmp : NID → NID → Ordering) (asks : Led C NID N E D R S → Option (EngineError NID N)) (step : Led C NID N E D R S → Led C NID N E D R S)
    (old new : Led C NID N E D R S) (candidate : Option (JointCandidate NID)) where
  -- how a leader's step ends is how the call of its engine ends
  lifted : (done : Result A (EngineError NID N)) → refusals_of_led cmp None asks (led_machine old candidate) ≡ asks old → Ends (asks old) done new.core.output (λ _. new ≡ step old) old new
      → EndsLed cmp asks done step (led_machine old candidate) (led_machine new candidate)
  lifted (Ok a) same h = (same ∙ h.0, ap (λ (l : Led C NID N E D R S). led_machine l candidate) h.1)
  lifted (Err e) same h =
      either (is_memory e) ((asks old ≡ None) × IsSpent new.core.output) ((asks old ≡ Some e) × (new ≡ old))
      ((refusals_of_led cmp None asks (led_machine old candidate) ≡ None) × IsSpent new.core.output)
      (RefusesLed cmp asks e (led_machine old candidate) × (led_machine new candidate ≡ led_machine old candidate))
      (λ k. (same ∙ k.0, k.1)) (λ k. ((None, tt, same ∙ k.0), ap (λ (l : Led C NID N E D R S). led_machine l candidate) k.1)) h

module _ {A C NID N E D R S : Type 0} (cmp : NID → NID → Ordering) (done : Result A (EngineError NID N)) (o : Option (Box (JointLeader C NID N E D R S) Global)) (b : Box (JointLeader C NID N E D R S) Global)
    (seen new : JointLeader C NID N E D R S) (s t : RaftState NID N) (q r : Queue (Command C NID N E D R S)) (candidate : Option (JointCandidate NID)) where
  -- a call ends as the leader's step
  pub ends_led : (asks : Led C NID N E D R S → Option (EngineError NID N)) (step : Led C NID N E D R S → Led C NID N E D R S) → o ≡ Some b → seen ≡ b.value
      → (q.spent ≡ true → asks (led_of seen s q) ≡ Some Spent)
      → Ends (asks (led_of seen s q)) done r (λ _. led_of new t r ≡ step (led_of seen s q)) (led_of seen s q) (led_of new t r)
      → EndsLed cmp asks done step (machine_of s q o candidate) (led_machine (led_of new t r) candidate)
  ends_led asks step is same first h =
      let once : refusals_of_led cmp None asks (led_machine (led_of seen s q) candidate) ≡ asks (led_of seen s q) =
      asked_once q.spent Spent (ForwardToLeader (known_leader cmp s) None) (asks (led_of seen s q)) first in
      subst (λ (l : Option (JointLeader C NID N E D R S)). EndsLed cmp asks done step (record { core = core_of s q; leader = l; candidate = candidate }) (led_machine (led_of new t r) candidate))
      (sym (led_is o b seen is same)) (lifted cmp asks step (led_of seen s q) (led_of new t r) candidate done once h)

  -- it commits what the leader's step commits
  pub commits_led : (counts : Led C NID N E D R S → Bool) → o ≡ Some b → seen ≡ b.value
      → OnOk done (counts (led_of seen s q) ≡ true → CommitsLatest cmp s.committed (led_of new t r))
      → OnOk done (CommitsLatestWhere cmp counts (machine_of s q o candidate) (led_machine (led_of new t r) candidate))
  commits_led counts is same h =
      subst (λ (l : Option (JointLeader C NID N E D R S)). OnOk done (CommitsLatestWhere cmp counts (record { core = core_of s q; leader = l; candidate = candidate }) (led_machine (led_of new t r) candidate)))
      (sym (led_is o b seen is same)) h
