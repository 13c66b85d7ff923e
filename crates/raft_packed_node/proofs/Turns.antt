-- An event by its turn and the calls that were made.
use Rattle.std.specs.Prelude.{ℕ, ◌≡◌, List, [], Option, None, Some, Result, Ok, Err, IfOk, OnOk}
use Rattle.std.specs.List.{fold}
use Rattle.std.proofs.Common.{◌∙◌, ap, subst, sym}
use Rattle.raft_schedule.specs.declared.event.Event.{Event}
use Rattle.raft_schedule.specs.declared.event.Outcome.{Outcome}
use Rattle.raft_schedule.specs.declared.event.Outcome.TheVariants.{Skipped}
use Rattle.raft_schedule.specs.declared.event.SkipReason.{SkipReason}
use Rattle.raft_store.specs.Types.{WorldCommand}
use Rattle.raft_node.specs.declared.act.Act.{Act}
use Rattle.raft_node.specs.declared.given.Given.{Given}
use Rattle.raft_node.specs.declared.node.Turn.{Turn}
use Rattle.raft_node.specs.Events.{moment_of, requested, skip_reason, turn_of}
use Rattle.proof_packed.specs.Nodes.{PackedScene, packed_called_at, packed_calls, packed_finish, packed_played, packed_work_of, without_store}
use Rattle.proof_packed.specs.Records.{packed_commands_at}
use Rattle.proof_packed.specs.Stores.{Application, Packed}
use Rattle.raft_packed_node.specs.Effects.{all_executed}

module _ {S : Type 0} (app : Application S) (given : Given) (act : Act) (brought : Packed S) (event : Event) (s : PackedScene S) where
  abbrev now : PackedScene S
  now = packed_called_at app (moment_of event (without_store app s.node)) s

  abbrev made : Option ℕ × PackedScene S
  made = packed_calls app given act now

  -- what holds of the event's turn and calls holds of the same made otherwise
  turn_along : (P : Turn → Packed S → Option ℕ × PackedScene S → Type 0) (t : Turn) (b : Packed S) (moment : ℕ) (r : Option ℕ × PackedScene S)
      → t ≡ record { id = s.node.id; moment = moment; request = requested act } → b ≡ brought → moment ≡ moment_of event (without_store app s.node)
      → r ≡ packed_calls app given act (packed_called_at app moment s) → P (turn_of act (without_store app now.node)) brought made → P t b r
  turn_along P t b moment r turned brings at is h =
      let timed : P (record { id = s.node.id; moment = moment; request = requested act }) brought (packed_calls app given act (packed_called_at app moment s)) =
      subst (λ (m : ℕ). P (record { id = s.node.id; moment = m; request = requested act }) brought (packed_calls app given act (packed_called_at app m s))) (sym at) h in
      let called : P (record { id = s.node.id; moment = moment; request = requested act }) brought r =
      subst (λ (p : Option ℕ × PackedScene S). P (record { id = s.node.id; moment = moment; request = requested act }) brought p) (sym is) timed in
      subst (λ (x : Packed S). P t x r) (sym brings) (subst (λ (u : Turn). P u brought r) (sym turned) called)

  module _ (none : skip_reason act (without_store app s.node) ≡ None) where
    -- an event that isn't skipped
    finished : packed_finish app (turn_of act (without_store app now.node)) brought event.stop made.0 made.1 ≡ packed_played app given act brought event s
    unfolding packed_played
    finished =
        ap (λ (o : Option SkipReason). elim o as (λ _. Outcome × PackedScene S) [
          | Some reason ↦ (Skipped reason, s)
          | None ↦ packed_finish app (turn_of act (without_store app now.node)) brought event.stop made.0 made.1
        ]) (sym none)

    -- and its commands
    taken : all_executed app (turn_of act (without_store app now.node)) brought (packed_work_of app event.stop made.1) ≡ packed_commands_at app given act brought event s
    taken =
        ap (λ (o : Option SkipReason). elim o as (λ _. List WorldCommand) [
          | Some reason ↦ []
          | None ↦ all_executed app (turn_of act (without_store app now.node)) brought (packed_work_of app event.stop made.1)
        ]) (sym none)

    module _ (t : Turn) (b : Packed S) (moment : ℕ) (r : Option ℕ × PackedScene S)
        (turned : t ≡ record { id = s.node.id; moment = moment; request = requested act }) (brings : b ≡ brought) (at : moment ≡ moment_of event (without_store app s.node))
        (is : r ≡ packed_calls app given act (packed_called_at app moment s)) where
      -- made by this turn and these calls, it is played
      pub played_along : {E : Type 0} (o : Result Outcome E) (end : PackedScene S) → IfOk o (λ x. (x, end) ≡ packed_finish app t b event.stop r.0 r.1)
          → IfOk o (λ x. (x, end) ≡ packed_played app given act brought event s)
      played_along (Err e) end h = tt
      played_along (Ok x) end h =
          turn_along (λ t b r. (x, end) ≡ packed_finish app t b event.stop r.0 r.1 → (x, end) ≡ packed_played app given act brought event s)
          t b moment r turned brings at is (λ q. q ∙ finished) h

      -- and what was seen are its commands
      pub watched_along : {V : Type 0} (sees : V → WorldCommand → V) (x y : V) {X E : Type 0} (o : Result X E)
          → OnOk o (y ≡ fold sees x (all_executed app t b (packed_work_of app event.stop r.1))) → OnOk o (y ≡ fold sees x (packed_commands_at app given act brought event s))
      watched_along sees x y (Err e) h = tt
      watched_along sees x y (Ok z) h =
          turn_along (λ t b r. y ≡ fold sees x (all_executed app t b (packed_work_of app event.stop r.1)) → y ≡ fold sees x (packed_commands_at app given act brought event s))
          t b moment r turned brings at is (λ q. q ∙ ap (fold sees x) taken) h
