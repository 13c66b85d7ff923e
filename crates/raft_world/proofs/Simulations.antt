-- Why a schedule whose run is refused has no report, and what an answer says when nothing is known of the streams.
use Rattle.std.specs.Prelude.{◌≡◌, ℕ, Bool, List, Option, None, Result, Ok, Err, ⊤}
use Rattle.std.proofs.Common.{subst, inl, inr}
use Rattle.raft_schedule.specs.Text.{Plan}
use Rattle.raft_schedule.specs.declared.step.Numbered.{Numbered}
use Rattle.raft_world.specs.declared.error.WorldError.{WorldError}
use Rattle.raft_world.specs.declared.error.WorldError.TheVariants.{DuplicateId, TooManyNodes, NoVoters, LimitReached, OutOfMemory}
use Rattle.raft_world.specs.declared.streams.Failure.{Failure}
use Rattle.raft_world.specs.declared.streams.Failure.TheVariants as failure
use Rattle.raft_world.specs.declared.streams.Ran.{Ran}
use Rattle.raft_world.specs.Simulated.{Says, Comes, ComesOf, Runs, IsInput, FailsBy, Writes, Answers}
use Rattle.raft_world.specs.Worlds.{Makes, WorldView}

-- the steps of a schedule, taken in the world that it makes
pub comes_of : (p : Plan) (ids : List ℕ) (steps : List Numbered) (world after : WorldView) (r : Result Ran WorldError) → ids ≡ p.nodes → steps ≡ p.steps
    → Makes (record { ids = ids; membership = p.membership; settings = p.settings }) (Ok world) → Comes world (record p { steps = steps }) r after → ComesOf p r
comes_of p ids steps world after r ids_are steps_are makes comes =
    inr (
      world,
      after,
      subst (λ xs. Makes (record { ids = xs; membership = p.membership; settings = p.settings }) (Ok world)) ids_are makes,
      subst (λ xs. Comes world (record p { steps = xs }) r after) steps_are comes,
    )

fails_by : (known : Option (List ℕ)) (e : WorldError) → Runs known (Err e) → FailsBy known (failure.World e)
fails_by known OutOfMemory h = tt
fails_by known DuplicateId h = h
fails_by known TooManyNodes h = h
fails_by known NoVoters h = h
fails_by known LimitReached h = h

pub fails_running : (known : Option (List ℕ)) (bytes lent : List ℕ) (p : Plan) (e : WorldError) → lent ≡ bytes → IsInput known bytes → Says lent (Ok p) → ComesOf p (Err e)
    → FailsBy known (failure.World e)
fails_running known bytes lent p e is input said ends = fails_by known e (bytes, p, input, subst (λ b. Says b (Ok p)) is said, ends)

writes_something : (r : Ran) (answer : Result (Unit {0}) Failure) (untouched : Type 0) (failed : Bool) (old new : Option (List ℕ)) → Writes r answer untouched failed old new
    → Writes r answer ⊤ failed None None
writes_something r (Ok u) untouched failed old new w = (w.0, (w.1.0, w.1.1, tt))
writes_something r (Err (failure.Unmet u)) untouched failed old new w = (w.0, (w.1.0, w.1.1, tt))
writes_something r (Err failure.Write) untouched failed old new w = (w.0, w.1, (w.2.0, (w.2.1.0, w.2.1.1, tt)))
writes_something r (Err failure.Read) untouched failed old new w = (w.0, tt)
writes_something r (Err (failure.Schedule e)) untouched failed old new w = (w.0, tt)
writes_something r (Err (failure.World e)) untouched failed old new w = (w.0, tt)

pub answers_anyhow : (known : Option (List ℕ)) (answer : Result (Unit {0}) Failure) (untouched : Type 0) (failed : Bool) (old new : Option (List ℕ))
    → Answers known answer untouched failed old new → Answers known answer ⊤ failed None None
answers_anyhow known answer untouched failed old new (inl a) = inl (a.0, a.1, writes_something a.0 answer untouched failed old new a.2)
answers_anyhow known answer untouched failed old new (inr a) = inr (a.0, a.1, a.2, tt)
