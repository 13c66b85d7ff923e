-- What a simulation writes, why it is refused, and what its answer says when nothing is known of the streams.
use Rattle.std.proofs.Common.{ℕ, ◌+◌, ◌<◌, ◌≡◌, ◌⊎◌, ◌++◌, ◌∙◌, inl, inr, List, [], ◌∷◌, length, take, get_or, ap, sym, subst, Option, Err, Ok}
use Rattle.std.specs.Prelude.{Result, codes, flat_map}
use Rattle.std.proofs.lemmas.List.{flat_map_more, take_more}
use Rattle.raft_store.specs.declared.entry.Value.{Value}
use Rattle.raft_schedule.specs.declared.event.Event.{Event}
use Rattle.raft_schedule.specs.declared.step.Numbered.{Numbered}
use Rattle.raft_schedule.specs.Text.{Plan}
use Rattle.raft_schedule.specs.Written.{event_text}
use Rattle.raft_world.specs.declared.error.WorldError.TheVariants.{OutOfMemory}
use Rattle.raft_world.specs.declared.expected.Unmet.{Unmet}
use Rattle.raft_world.specs.declared.streams.Failure.{Failure}
use Rattle.raft_world.specs.declared.streams.Failure.TheVariants as failure
use Rattle.raft_world.specs.Reported.{Reported}
use Rattle.raft_world.specs.Simulated.{IsInput, Says}
use Rattle.raft_world.specs.Steps.{RunsSteps}
use Rattle.raft_world.specs.Worlds.{Makes, WorldView}
use Rattle.raft_world.proofs.Simulations.{fails_running}
use Rattle.raft_recovery.specs.declared.recovery.Recovery.{Recovery}
use Rattle.raft_recovery.specs.declared.simulation.Refusal.TheVariants as refusal
use Rattle.raft_recovery.specs.Simulated.{ComesOf, GoesOnAfter, Refuses, Runs, Simulates, StatusOf, Stops, lines_of}

-- the lines of the first events, and of one more
pub lines_more : (es : List Event) (i : ℕ) (e : Event) → i < length es → e ≡ get_or es i e
    → lines_of (take (i + 1) es) ≡ lines_of (take i es) ++ (event_text e ++ codes "\n")
lines_more es i e l is =
    ap lines_of (take_more es i e l ∙ ap (λ x. take i es ++ x ∷ []) (sym is))
    ∙ sym (flat_map_more (λ (x : Event). event_text x ++ codes "\n") [] (take i es) e)

-- the steps of a schedule, taken in the world that it makes
pub comes_to : (p : Plan) (ids : List ℕ) (steps : List Numbered) (first w : WorldView) (report : Reported) (unmet : Option Unmet)
    → ids ≡ p.nodes → steps ≡ p.steps → Makes (record { ids = ids; membership = p.membership; settings = p.settings }) (Ok first)
    → RunsSteps first steps (Ok (report, unmet)) w → ComesOf p unmet w
comes_to p ids steps first w report unmet ids_are steps_are makes runs = record {
  first = first;
  makes = subst (λ xs. Makes (record { ids = xs; membership = p.membership; settings = p.settings }) (Ok first)) ids_are makes;
  report = report;
  runs = subst (λ xs. RunsSteps first xs (Ok (report, unmet)) w) steps_are runs;
}

-- why a schedule that was read isn't played to its end
pub stops_running : (known : Option (List ℕ)) (bytes lent : List ℕ) (p : Plan) (f : Failure) → lent ≡ bytes → IsInput known bytes
    → Says lent (Ok p) → Runs p (Err f) → Stops known f
stops_running known bytes lent p (failure.World e) is input said ends = fails_running known bytes lent p e is input said ends
stops_running known bytes lent p (failure.Unmet u) is input said ends =
    (ends.0, record { bytes = bytes; plan = p; input = input; says = subst (λ b. Says b (Ok p)) is said; comes = ends.1 })
stops_running known bytes lent p failure.Read is input said ends = absurd ends
stops_running known bytes lent p failure.Write is input said ends = absurd ends
stops_running known bytes lent p (failure.Schedule e) is input said ends = absurd ends

-- a way on isn't written: a write failed, or its text found no memory
pub refuses_write : (known : Option (List ℕ)) (up : List ℕ) (value : Value) (r : Recovery) (f : Failure) → GoesOnAfter known up value r
    → (f ≡ failure.Write) ⊎ (f ≡ failure.World OutOfMemory) → Refuses known up value (refusal.Run f)
refuses_write known up value r f goes (inl e) = inl (e, (r, goes))
refuses_write known up value r f goes (inr e) = inr (subst (Stops known) (sym e) tt)

-- the status says what an answer does
pub status_of : {E : Type 0} (known : Option (List ℕ)) (up : List ℕ) (value : Value) (status : ℕ) (old new : Option (List ℕ))
    (told : Result (Unit {0}) E) (errors_old errors_new : Option (List ℕ))
    → Simulates known up value status old new told errors_old errors_new → StatusOf known up value status
status_of known up value status old new told errors_old errors_new (inl a) = inl (a.0, (a.1.0, a.1.1))
status_of known up value status old new told errors_old errors_new (inr a) = inr (a.0, a.1, a.2)
