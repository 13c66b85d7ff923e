-- How the calls of a leader end, made through its engine.
use Rattle.std.specs.Prelude.{◌≡◌, Bool, true, Option, None, Some, Result, Ok, Err, OnSome, IfSome, MatchBool}
use Rattle.std.specs.Option.{option_map, option_or}
use Rattle.std.specs.declared.cmp.Ordering.{Ordering}
use Rattle.raft_state.specs.State.{known_leader_node}
use Rattle.raft_error.specs.declared.error.EngineError.{EngineError}
use Rattle.raft_command.specs.Ends.{IsSpent, is_memory}
use Rattle.raft_engine.specs.Makers.{refusals_of_leader}
use Rattle.raft_steps.specs.Laws.{CommitsLatest}
use Rattle.raft_steps.specs.Parts.{Led, Machine, led_in, on_leader}

module _ {C NID N E D R S : Type 0} (cmp : NID → NID → Ordering) where
  -- the refusals of a leader's call: those of asking for the leader, then those of the leader's step
  abbrev pub refusals_of_led : Option N → (Led C NID N E D R S → Option (EngineError NID N)) → Machine C NID N E D R S → Option (EngineError NID N)
  refusals_of_led node asks m = option_or (refusals_of_leader cmp node m) (elim (led_in m) [ None ↦ None | Some l ↦ asks l ])

  -- such a call is refused; the known leader's data may be left out (out of memory)
  abbrev pub RefusesLed : (Led C NID N E D R S → Option (EngineError NID N)) → EngineError NID N → Machine C NID N E D R S → Type 0
  RefusesLed asks e m = (node : Option N) × OnSome node (node ≡ known_leader_node cmp m.core.state) × (refusals_of_led node asks m ≡ Some e)

  -- how it ends: done, by the leader's step; out of memory, with an empty and spent queue; or refused, with nothing changed
  abbrev pub EndsLed : {A : Type 0} → (Led C NID N E D R S → Option (EngineError NID N)) → Result A (EngineError NID N) → (Led C NID N E D R S → Led C NID N E D R S) → Machine C NID N E D R S → Machine C NID N E D R S → Type 0
  EndsLed asks (Ok x) step old new = (refusals_of_led None asks old ≡ None) × (new ≡ on_leader step old)
  EndsLed asks (Err e) step old new = MatchBool (is_memory e) ((refusals_of_led None asks old ≡ None) × IsSpent new.core.output) (RefusesLed asks e old × (new ≡ old))

  -- how a question to the leader ends, which changes nothing: answered, or refused
  abbrev pub AnswersLed : {A : Type 0} → Result A (EngineError NID N) → (Led C NID N E D R S → A) → Machine C NID N E D R S → Type 0
  AnswersLed (Ok x) answer m = (refusals_of_led None (λ _. None) m ≡ None) × (option_map answer (led_in m) ≡ Some x)
  AnswersLed (Err e) answer m = RefusesLed (λ _. None) e m

  -- where a call counts an acknowledgement, the committed id afterwards is the latest of the one before and of what may be
  -- committed
  abbrev pub CommitsLatestWhere : (Led C NID N E D R S → Bool) → Machine C NID N E D R S → Machine C NID N E D R S → Type 0
  CommitsLatestWhere counts old new = IfSome (led_in old) (λ l. counts l ≡ true → IfSome (led_in new) (CommitsLatest cmp l.core.state.committed))
