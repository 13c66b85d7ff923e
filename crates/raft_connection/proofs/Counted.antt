-- How many requests of a connection wait for their answers, after what changes it.
use Rattle.std.specs.Prelude.{◌≡◌, ℕ, ◌+◌, ◌≤◌, ◌%◌, ◌^◌, Bool, true, false, length, List, [], ◌∷◌, ◌++◌, slice_set, Option, Some, None, Result, Ok, Err, refl, if◌then◌else◌}
use Rattle.std.proofs.Common.{zero, suc, arith, ap, sym, subst, ◌∙◌}
use Rattle.std.proofs.lemmas.List.{length-append}
use Rattle.raft_resp.specs.Requests.{Found, request_at}
use Rattle.raft_resp.specs.declared.error.Stop.TheVariants as stop
use Rattle.raft_connection.specs.declared.answer.Answer.{Answer}
use Rattle.raft_connection.specs.declared.answer.AnswerError.{AnswerError}
use Rattle.raft_connection.specs.declared.connection.Connection.{Connection}
use Rattle.raft_connection.specs.declared.connection.Step.{Step}
use Rattle.raft_connection.specs.declared.connection.Step.TheVariants as step_is
use Rattle.raft_connection.specs.declared.limits.Settings.{Settings}
use Rattle.raft_connection.specs.declared.pending.Pending.{Pending}
use Rattle.raft_connection.specs.declared.pending.Slot.{Slot}
use Rattle.raft_connection.specs.declared.pending.Slot.TheVariants.{Waits, Ready}
use Rattle.raft_connection.specs.declared.pending.Waiting.{Waiting}
use Rattle.raft_connection.specs.declared.session.Outcome.{Outcome}
use Rattle.raft_connection.specs.declared.session.Outcome.TheVariants as came_to
use Rattle.raft_connection.specs.declared.session.Session.{Session}
use Rattle.raft_connection.specs.Answers.{answer_bytes}
use Rattle.raft_connection.specs.Connection.{answered, answered_as, came, closed, fill, finished, forgetful, found, is_waiting, run, step, unfinished, waiting_for, with_session}
use Rattle.raft_connection.specs.Pending.{filled, from_waiting, place_of, waiting_at, waiting_count}
use Rattle.raft_connection.specs.Run.{outcome}
use Rattle.raft_connection.specs.Words.{Word}

grow : (n m k : ℕ) → n ≡ m + k → 1 + n ≡ 1 + m + k
grow n m k e = omega arith

none_more : (n m : ℕ) → n ≡ m + 0 → n ≡ m
none_more n m e = omega arith

zero_first : (n : ℕ) → n ≡ 0 + n
zero_first n = omega arith

-- one request more
pub count_push : (slots : List Slot) (s : Slot) → waiting_count (slots ++ s ∷ []) ≡ waiting_count slots + waiting_count (s ∷ [])
count_push [] s = zero_first _
count_push (Waits w ∷ slots) s = grow _ _ _ (count_push slots s)
count_push (Ready bytes ∷ slots) s = count_push slots s

-- the only request has none before it
pub none_before : (slots : List Slot) (s : Slot) → length (slots ++ s ∷ []) ≡ 1 → waiting_count slots ≡ 0
none_before [] s e = refl
none_before (x ∷ slots) s e =
    let more : length (slots ++ s ∷ []) ≡ length slots + 1 = length-append slots (s ∷ []) in
    absurd (omega (arith, e, more))

-- what a step has of requests that wait, by what it came to: one more if it hands one out
abbrev pub Counts : Step → List Slot → List Slot → Type 0
Counts (step_is.Asks a) old new = (w : Waiting) × (new ≡ old ++ Waits w ∷ [])
Counts step_is.Answered old new = waiting_count new ≡ waiting_count old
Counts step_is.Waits old new = waiting_count new ≡ waiting_count old

finished_counts : (c : Connection) (o : Outcome) → Counts (finished c o).1 c.pending.slots (finished c o).0.pending.slots
finished_counts c (came_to.Answers r) = none_more _ _ (count_push c.pending.slots _)
finished_counts c (came_to.Asks w) = (waiting_for c w, refl)

forgets_no_request : (d : Connection) → (forgetful d).pending ≡ d.pending
forgets_no_request d = go d.session.is_closing
  where
    go : (b : Bool) → (if b then record d { received = [] } else d).pending ≡ d.pending
    go true = refl
    go false = refl

came_counts : (c : Connection) (r : Session × Outcome) → Counts (came c r).1 c.pending.slots (came c r).0.pending.slots
came_counts c r =
    let d : Connection = with_session c r.0 in
    subst (λ (p : Pending). Counts (came c r).1 p.slots (came c r).0.pending.slots) (forgets_no_request d) (finished_counts (forgetful d) r.1)

run_counts : (settings : Settings) (now : ℕ) (c : Connection) (words : List Word)
    → Counts (run settings now c words).1 c.pending.slots (run settings now c words).0.pending.slots
run_counts settings now c [] = refl
run_counts settings now c (name ∷ args) = came_counts c (outcome settings c.session now name args)

found_counts : (settings : Settings) (now : ℕ) (c : Connection) (r : Found (List Word))
    → Counts (found settings now c r).1 c.pending.slots (found settings now c r).0.pending.slots
found_counts settings now c (Ok x) = run_counts settings now (record c { received = x.1 }) x.0
found_counts settings now c (Err (stop.Malformed fault)) = none_more _ _ (count_push c.pending.slots _)
found_counts settings now c (Err stop.OutOfMemory) = refl
found_counts settings now c (Err stop.Unfinished) = go _
  where
    go : (b : Bool) → waiting_count (if b then closed c else c).pending.slots ≡ waiting_count c.pending.slots
    go true = refl
    go false = refl

pub step_counts : (settings : Settings) (now : ℕ) (c : Connection)
    → Counts (step settings now c).1 c.pending.slots (step settings now c).0.pending.slots
unfolding step
step_counts settings now c = go (is_waiting settings.limits c)
  where
    go : (b : Bool)
        → Counts (if b then (c, step_is.Waits) else found settings now c (request_at settings.limits.request c.received)).1 c.pending.slots
        (if b then (c, step_is.Waits) else found settings now c (request_at settings.limits.request c.received)).0.pending.slots
    go true = refl
    go false = found_counts settings now c (request_at settings.limits.request c.received)

within_more : (n : ℕ) → n ≤ 1 + n
within_more n = omega arith

one_higher : (n m : ℕ) → n ≤ 1 + m → 1 + n ≤ 1 + (1 + m)
one_higher n m l = omega arith

set_counts : (slots : List Slot) (place : ℕ) (bytes : List ℕ) → waiting_count slots ≤ 1 + waiting_count (slice_set slots place (Ready bytes))
set_counts [] place bytes = within_more 0
set_counts (Waits w ∷ slots) zero bytes = omega arith
set_counts (Ready b ∷ slots) zero bytes = within_more (waiting_count slots)
set_counts (Waits w ∷ slots) (suc place) bytes = one_higher _ _ (set_counts slots place bytes)
set_counts (Ready b ∷ slots) (suc place) bytes = set_counts slots place bytes

-- an answer is one request's
pub answered_counts : (c : Connection) (number : ℕ) (answer : Answer) (after : Connection) → answered c number answer ≡ Ok after
    → waiting_count c.pending.slots ≤ 1 + waiting_count after.pending.slots
answered_counts c number answer after h = go (waiting_at c.pending number) h
  where
    filled_one : (r : Result (List ℕ) AnswerError) → fill c number r ≡ Ok after
        → waiting_count c.pending.slots ≤ 1 + waiting_count after.pending.slots
    filled_one (Err e) h1 = absurd cc
    filled_one (Ok bytes) h1 =
        let inside : record c { pending = filled c.pending number bytes } ≡ after = cc in
        subst (λ (d : Connection). waiting_count c.pending.slots ≤ 1 + waiting_count d.pending.slots) inside
        (set_counts c.pending.slots (place_of c.pending number) bytes)

    go : (o : Option Waiting) → answered_as c number answer o ≡ Ok after → waiting_count c.pending.slots ≤ 1 + waiting_count after.pending.slots
    go None h1 = absurd cc
    go (Some w) h1 = filled_one (answer_bytes w answer) h1

-- answers that leave wait no more
pub taken_counts : (first : ℕ) (slots : List Slot) → waiting_count (from_waiting first slots).slots ≡ waiting_count slots
taken_counts first [] = refl
taken_counts first (Waits w ∷ slots) = refl
taken_counts first (Ready bytes ∷ slots) = taken_counts ((first + 1) % 2 ^ 64) slots
