-- A request is answered once.
use Rattle.std.specs.Prelude.{◌≡◌, ℕ, List, [], ◌∷◌, slice_set, Option, Some, None, Result, Ok, Err, refl}
use Rattle.std.specs.List.{slice_get}
use Rattle.std.proofs.Common.{zero, suc, ap, sym, ◌∙◌}
use Rattle.raft_connection.specs.declared.answer.Answer.{Answer}
use Rattle.raft_connection.specs.declared.answer.AnswerError.{AnswerError}
use Rattle.raft_connection.specs.declared.connection.Connection.{Connection}
use Rattle.raft_connection.specs.declared.pending.Slot.{Slot}
use Rattle.raft_connection.specs.declared.pending.Slot.TheVariants as slot
use Rattle.raft_connection.specs.declared.pending.Waiting.{Waiting}
use Rattle.raft_connection.specs.Answers.{answer_bytes}
use Rattle.raft_connection.specs.Connection.{answered, answered_as, fill, taken}
use Rattle.raft_connection.specs.Laws.{AnsweredOnce, StaysAnswered}
use Rattle.raft_connection.specs.Pending.{filled, place_of, waiting_in, waiting_at}
use Rattle.raft_connection.proofs.Taken.{none_waits}

-- what was put in a place stands there
pub set_stands : (slots : List Slot) (place : ℕ) (w : Waiting) (bytes : List ℕ) → waiting_in (slice_get slots place) ≡ Some w → waiting_in (slice_get (slice_set slots place (slot.Ready bytes)) place) ≡ None
set_stands [] place w bytes h = absurd cc
set_stands (s ∷ slots) zero w bytes h = refl
set_stands (s ∷ slots) (suc place) w bytes h = set_stands slots place w bytes h

-- no request of this number waits
no_more_waits : (c : Connection) (number : ℕ) (answer : Answer) (after : Connection) → answered c number answer ≡ Ok after → waiting_at after.pending number ≡ None
no_more_waits c number answer after h = go (waiting_at c.pending number) refl h
  where
    filled_once : (w : Waiting) (r : Result (List ℕ) AnswerError) → waiting_at c.pending number ≡ Some w → fill c number r ≡ Ok after → waiting_at after.pending number ≡ None
    filled_once w (Err e) e1 h1 = absurd cc
    filled_once w (Ok bytes) e1 h1 =
        let inside : record c { pending = filled c.pending number bytes } ≡ after = cc in
        ap (λ (d : Connection). waiting_at d.pending number) (sym inside) ∙ set_stands c.pending.slots (place_of c.pending number) w bytes e1

    go : (o : Option Waiting) → waiting_at c.pending number ≡ o → answered_as c number answer o ≡ Ok after → waiting_at after.pending number ≡ None
    go None e h1 = absurd cc
    go (Some w) e h1 = filled_once w (answer_bytes w answer) e h1

pub answered_once : AnsweredOnce
answered_once c number answer other after h = ap (answered_as after number other) (no_more_waits c number answer after h)

pub stays_answered : StaysAnswered
stays_answered c number answer other after h l m small =
    ap (answered_as (taken after) number other) (none_waits after.pending.first after.pending.slots number l m small (no_more_waits c number answer after h))
