-- What the lines of a report leave in a writer, one after another.
use Rattle.std.proofs.Common.{◌≡◌, ◌<◌, ◌+◌, ◌++◌, ◌∷◌, [], ℕ, suc, List, length, take, get_or, map, refl, sym, ap, ◌∙◌, subst, arith, append_assoc, append-nil}
use Rattle.std.specs.Prelude.{Option, None, Some, codes, flat_map}
use Rattle.std.specs.Fmt.{decimal}
use Rattle.std.proofs.lemmas.List.{take_more, length-take-le, map-append, flat_map_more}
use Rattle.std.proofs.KnownBytes.{Appends-trans}
use Rattle.std.specs.Io.KnownBytes.{Appends}
use Rattle.raft_schedule.specs.declared.event.AppliedEvent.{AppliedEvent}
use Rattle.raft_schedule.specs.declared.schedule.Language.{Language}
use Rattle.raft_world.specs.declared.agreement.Agreement.{Agreement}
use Rattle.raft_node.specs.Safety.{entries_of}
use Rattle.raft_world.specs.Agreed.{Checks}
use Rattle.raft_world.specs.Reported.{Reported}
use Rattle.raft_world.specs.Printed.{outcome_text, past_text, pasts_text, told_event, Taken, taken_of, Ordered, place, next_text, lines_text, verdict_text, Prints}

-- an event's number and the event, and then what came of it
pub past_printed : (l : Language) (number : ℕ) (past : AppliedEvent) (a b d : Option (List ℕ)) (rest : List ℕ) → Appends a b (decimal number ++ codes " " ++ told_event l past.event)
    → rest ≡ outcome_text past.outcome ++ (codes " sent " ++ (decimal past.sent ++ codes "\n")) → Appends b d rest → Appends a d (past_text l number past)
past_printed l number past a b d rest front is back = subst (Appends a d) (sym whole) (Appends-trans a b d _ _ front (subst (Appends b d) is back))
  where
    before : List ℕ
    before = decimal number ++ codes " " ++ told_event l past.event

    outcome : List ℕ
    outcome = outcome_text past.outcome

    sent : List ℕ
    sent = decimal past.sent ++ codes "\n"

    whole : past_text l number past ≡ before ++ (outcome ++ (codes " sent " ++ sent))
    whole =
        append_assoc (before ++ outcome ++ codes " sent ") (decimal past.sent) (codes "\n") ∙ append_assoc (before ++ outcome) (codes " sent ") sent
        ∙ append_assoc before outcome (codes " sent " ++ sent)

-- the line of one more event
pasts_last : (l : Language) (n : ℕ) (xs : List AppliedEvent) (x : AppliedEvent) → pasts_text l n (xs ++ x ∷ []) ≡ pasts_text l n xs ++ past_text l (suc (n + length xs)) x
pasts_last l n [] x = append-nil (past_text l (suc n) x) ∙ ap (λ k. past_text l (suc k) x) (omega arith)
pasts_last l n (y ∷ xs) x =
    ap (λ t. past_text l (suc n) y ++ t) (pasts_last l (suc n) xs x)
    ∙ sym (append_assoc (past_text l (suc n) y) (pasts_text l (suc n) xs) (past_text l (suc (suc n + length xs)) x))
    ∙ ap (λ k. (past_text l (suc n) y ++ pasts_text l (suc n) xs) ++ past_text l (suc k) x) (omega arith)

-- the lines of the first events, and of one more
pub pasts_more : (l : Language) (xs : List AppliedEvent) (i number : ℕ) (d : AppliedEvent) → i < length xs → number ≡ i + 1
    → pasts_text l 0 (take (i + 1) xs) ≡ pasts_text l 0 (take i xs) ++ past_text l number (get_or xs i d)
pasts_more l xs i number d lt is =
    ap (pasts_text l 0) (take_more xs i d lt) ∙ pasts_last l 0 (take i xs) (get_or xs i d)
    ∙ ap (λ k. pasts_text l 0 (take i xs) ++ past_text l k (get_or xs i d)) (omega (arith, is, length-take-le i xs (omega (arith, lt))))

-- the place of the last of them
abbrev pub last_place : Option (ℕ × ℕ) → List Taken → Option (ℕ × ℕ)
last_place before [] = before
last_place before (x ∷ rest) = last_place (Some (place x)) rest

-- the lines without their last end
abbrev pub open_lines : Option (ℕ × ℕ) → List Taken → List ℕ
open_lines before [] = []
open_lines before (x ∷ rest) = next_text before x ++ open_lines (Some (place x)) rest

open_last : (before : Option (ℕ × ℕ)) (xs : List Taken) (x : Taken)
    → (open_lines before (xs ++ x ∷ []) ≡ open_lines before xs ++ next_text (last_place before xs) x) × (last_place before (xs ++ x ∷ []) ≡ Some (place x))
open_last before [] x = (append-nil _, refl)
open_last before (y ∷ xs) x =
    let k = open_last (Some (place y)) xs x in
    (ap (λ t. next_text before y ++ t) k.0 ∙ sym (append_assoc (next_text before y) _ _), k.1)

-- what one more entry adds
pub line_added : (xs : List Taken) (i : ℕ) (x : Taken) (a b c : Option (List ℕ)) (before : Option (ℕ × ℕ)) → i < length xs → x ≡ get_or xs i x
    → Appends a b (open_lines None (take i xs)) → before ≡ last_place None (take i xs) → Appends b c (next_text before x)
    → Appends a c (open_lines None (take (i + 1) xs)) × (Some (place x) ≡ last_place None (take (i + 1) xs))
line_added xs i x a b c before lt at done is next =
    let here = take i xs in
    let more = take_more xs i x lt ∙ ap (λ y. here ++ y ∷ []) (sym at) in
    let k = open_last None here x in
    let added : Appends b c (next_text (last_place None here) x) = subst (λ o. Appends b c (next_text o x)) is next in
    let whole : Appends a c (open_lines None (here ++ x ∷ [])) = subst (Appends a c) (sym k.0) (Appends-trans a b c _ _ done added) in
    (subst (λ l. Appends a c (open_lines None l)) (sym more) whole, sym (ap (last_place None) more ∙ k.1))

-- a list that grows by the next item of another
pub item_added : {A B : Type 0} (f : A → B) (xs : List A) (i : ℕ) (x : A) (old new : List B) → i < length xs → x ≡ get_or xs i x
    → old ≡ map f (take i xs) → new ≡ old ++ f x ∷ [] → new ≡ map f (take (i + 1) xs)
item_added f xs i x old new lt at done is =
    is ∙ ap (λ l. l ++ f x ∷ []) done ∙ sym (map-append f (take i xs) (x ∷ []))
    ∙ ap (map f) (ap (λ y. take i xs ++ y ∷ []) at ∙ sym (take_more xs i x lt))

-- a list that grows by the items of the next one
pub items_added : {A B : Type 0} (f : A → List B) (front : List B) (xs : List A) (i : ℕ) (x : A) (old new : List B) → i < length xs → x ≡ get_or xs i x
    → old ≡ front ++ flat_map f (take i xs) → new ≡ old ++ f x → new ≡ front ++ flat_map f (take (i + 1) xs)
items_added f front xs i x old new lt at done is =
    is ∙ ap (λ l. l ++ f x) done ∙ flat_map_more f front (take i xs) x
    ∙ ap (λ l. front ++ flat_map f l) (ap (λ y. take i xs ++ y ∷ []) at ∙ sym (take_more xs i x lt))

-- the three parts of a report
pub printed : (l : Language) (r : Reported) (a b c d : Option (List ℕ)) (past : List AppliedEvent) (from lines : List Taken) (agreement : Agreement) → past ≡ r.past → Ordered (taken_of r) from
    → lines ≡ from → Checks (entries_of r.executed r.installed) agreement → Appends a b (pasts_text l 0 past) → Appends b c (lines_text lines)
    → Appends c d (verdict_text agreement) → Prints l r a d
printed l r a b c d past from lines agreement past_is ordered lines_are checked events entries verdict =
    let first : Appends a b (pasts_text l 0 r.past) = subst (λ es. Appends a b (pasts_text l 0 es)) past_is events in
    let second : Appends b c (lines_text from) = subst (λ es. Appends b c (lines_text es)) lines_are entries in (
      pasts_text l 0 r.past ++ lines_text from ++ verdict_text agreement,
      record { lines = from; ordered = ordered; agreement = agreement; checked = checked; is = refl },
      Appends-trans a c d _ _ (Appends-trans a b c _ _ first second) verdict,
    )
