-- What a simulation that recovers answers and writes.
use Rattle.std.specs.Prelude.{ℕ, ◌≡◌, ◌⊎◌, ◌++◌, List, [], ◌∷◌, Err, None, Ok, OnOk, Option, Result, Some, codes, flat_map, map}
use Rattle.std.specs.Io.KnownBytes.{Appends}
use Rattle.raft_store.specs.declared.entry.Value.{Value}
use Rattle.raft_schedule.specs.declared.event.Event.{Event}
use Rattle.raft_schedule.specs.Text.{Plan}
use Rattle.raft_schedule.specs.Written.{event_text}
use Rattle.raft_world.specs.declared.expected.Unmet.{Unmet}
use Rattle.raft_world.specs.declared.streams.Failure.{Failure}
use Rattle.raft_world.specs.declared.streams.Failure.TheVariants as failure
use Rattle.raft_world.specs.Reported.{Reported}
use Rattle.raft_world.specs.Simulated as world
use Rattle.raft_world.specs.Simulated.{FailsBy, IsInput, Says, failure_status, failure_text, given_of}
use Rattle.raft_world.specs.Steps.{RunsSteps}
use Rattle.raft_world.specs.Worlds.{Makes, WorldView}
use Rattle.raft_recovery.specs.declared.recovery.Recovery.{Recovery}
use Rattle.raft_recovery.specs.declared.simulation.Refusal.{Refusal}
use Rattle.raft_recovery.specs.declared.simulation.Refusal.TheVariants as refusal
use Rattle.raft_recovery.specs.Recoveries.{GoesOnBy, IsReason}
use Rattle.raft_recovery.specs.Told.{error_text}

-- a world is what a schedule's steps make of a new one, up to the first of their expectations that isn't met, if one isn't
pub record ComesOf (p : Plan) (unmet : Option Unmet) (w : WorldView) : Type 0 where
  pub first : WorldView
  pub makes : Makes (given_of p) (Ok first)
  pub report : Reported
  pub runs : RunsSteps first p.steps (Ok (report, unmet)) w

-- what is answered for a schedule: the world after it; or an expectation isn't met; or the world is refused, or an event
abbrev pub Runs : Plan → Result WorldView Failure → Type 0
Runs p (Ok w) = ComesOf p None w
Runs p (Err (failure.Unmet u)) = (w : WorldView) × ComesOf p (Some u) w
Runs p (Err (failure.World e)) = world.ComesOf p (Err e)
Runs p (Err _) = ⊥

-- the input is a schedule after which this is the world, up to the first expectation that isn't met
pub record Leaves (known : Option (List ℕ)) (unmet : Option Unmet) (w : WorldView) : Type 0 where
  pub bytes : List ℕ
  pub plan : Plan
  pub input : IsInput known bytes
  pub says : Says bytes (Ok plan)
  pub comes : ComesOf plan unmet w

-- why the input's schedule isn't played to its end
abbrev pub Stops : Option (List ℕ) → Failure → Type 0
Stops known (failure.Unmet u) = (w : WorldView) × Leaves known (Some u) w
Stops known f = FailsBy known f

-- these nodes, or all if none is named
abbrev pub named : WorldView → List ℕ → List ℕ
named w [] = map (λ N. N.id) w.history.net.nodes
named w (n ∷ ns) = n ∷ ns

-- after the input's schedule they recover
abbrev pub GoesOnAfter : Option (List ℕ) → List ℕ → Value → Recovery → Type 0
GoesOnAfter known up value r = (w : WorldView) × Leaves known None w × ((new : WorldView) × GoesOnBy w (named w up) value r new)

-- or there is a reason that they don't, or that the schedule isn't played to its end, or a way on that can't be written
abbrev pub Refuses : Option (List ℕ) → List ℕ → Value → Refusal → Type 0
Refuses known up value (refusal.Run f) = ((f ≡ failure.Write) × ((r : Recovery) × GoesOnAfter known up value r)) ⊎ Stops known f
Refuses known up value (refusal.Recovery e) = (w : WorldView) × Leaves known None w × IsReason w (named w up) e

-- the exit status of a refusal, and its line
abbrev pub refusal_status : Refusal → ℕ
refusal_status (refusal.Run f) = failure_status f
refusal_status (refusal.Recovery e) = 4

abbrev pub refusal_text : Refusal → List ℕ
refusal_text (refusal.Run f) = failure_text f
refusal_text (refusal.Recovery e) = error_text e ++ codes "\n"

-- events as lines of a schedule
abbrev pub lines_of : List Event → List ℕ
lines_of es = flat_map (λ e. event_text e ++ codes "\n") es

-- a way on is written
abbrev pub Writes : Option (List ℕ) → List ℕ → Value → Option (List ℕ) → Option (List ℕ) → Type 0
Writes known up value old new = (r : Recovery) × GoesOnAfter known up value r × Appends old new (lines_of r.events)

-- the status is 0 and a way on is written, or it is that of a refusal, which is told unless that fails
abbrev pub Simulates : {E : Type 0} → Option (List ℕ) → List ℕ → Value → ℕ → Option (List ℕ) → Option (List ℕ)
    → Result (Unit {0}) E → Option (List ℕ) → Option (List ℕ) → Type 0
Simulates known up value status old new told errors_old errors_new =
    ((status ≡ 0) × Writes known up value old new)
    ⊎ ((e : Refusal) × (status ≡ refusal_status e) × Refuses known up value e × OnOk told (Appends errors_old errors_new (refusal_text e)))

-- so much of it the status tells
abbrev pub StatusOf : Option (List ℕ) → List ℕ → Value → ℕ → Type 0
StatusOf known up value status =
    ((status ≡ 0) × ((r : Recovery) × GoesOnAfter known up value r)) ⊎ ((e : Refusal) × (status ≡ refusal_status e) × Refuses known up value e)
