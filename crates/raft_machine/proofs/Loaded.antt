-- Keys that are put from the last to the first make the map of all, and a map's entries can be written.
use Rattle.std.proofs.Common.{◌≡◌, ℕ, ◌<◌, Bool, true, false, cond, ◌&&◌, List, [], ◌∷◌, ◌++◌, Option, Some, None, Result, Ok, Err, refl, sym, ap, ◌∙◌, append_assoc, T}
use Rattle.std.specs.Option.{option_and_then}
use Rattle.std.specs.Ordering.{nat_cmp, is_eq}
use Rattle.std.specs.Cmp.Lexicographic.{slice_cmp, nat_list_cmp_total}
use Rattle.std.specs.FinMap.{entries, empty, insert, remove, find, is_sorted, from_entries, from_sorted, entries_sorted, get-entries, get-from_entries, get-from_sorted}
use Rattle.std.specs.FinMap.Entries.{below_all}
use Rattle.std.proofs.lemmas.Option.{none-some}
use Rattle.raft_machine.specs.declared.stored.Stored.{Stored}
use Rattle.raft_machine.specs.Space.{Map, Space, lives, put, AreLater}
use Rattle.raft_codec.specs.Codec.{Writes, number, list}
use Rattle.raft_machine.specs.Bytes.{entry, is_before, are_rising, are_live, space}
use Rattle.raft_machine.specs.BytesLaws.{first, second, both, holds, less, in_order, sorted_of_rising}
use Rattle.raft_machine.proofs.Spaces.{alike, same, same_keys, same_itself, lives_later}

abbrev Entries : Type 0
Entries = List (List ℕ × Stored)

true_of : (b : Bool) → T b → b ≡ true
true_of true h = refl
true_of false h = absurd h

-- ---- what is read

abbrev pub loaded : Space → List (List ℕ × Stored) → Space
loaded s [] = s
loaded s (e ∷ es) = put (loaded s es) e.0 e.1

pub loaded-last : (s : Space) (es : List (List ℕ × Stored)) (e : List ℕ × Stored) → loaded s (es ++ e ∷ []) ≡ loaded (put s e.0 e.1) es
loaded-last s [] e = refl
loaded-last s (f ∷ es) e = ap (λ (t : Space). put t f.0 f.1) (loaded-last s es e)

pub loaded-step : (s t total : Space) (es rest : List (List ℕ × Stored)) (k : List ℕ) (e : List ℕ × Stored) → es ≡ rest ++ e ∷ [] → k ≡ e.0 → t ≡ put s k e.1 → loaded s es ≡ total → loaded t rest ≡ total
loaded-step s t total es rest k e popped key stored so_far =
    ap (λ (u : Space). loaded u rest) (stored ∙ ap (λ (l : List ℕ). put s l e.1) key)
    ∙ sym (loaded-last s rest e)
    ∙ ap (λ (fs : List (List ℕ × Stored)). loaded s fs) (sym popped)
    ∙ so_far

abbrev pub made : Map → ℕ → Space
made m now = record { map = m; moment = now }

loaded-live : (now : ℕ) (es : Entries) → T (are_live now es) → loaded (made empty now) es ≡ made (from_entries es) now
loaded-live now [] h = refl
loaded-live now (e ∷ es) h =
    let live : lives now e.1.expires ≡ true = true_of _ (first _ _ h) in
    ap (λ (s : Space). put s e.0 e.1) (loaded-live now es (second _ _ h))
    ∙ ap (λ b. made (cond b (insert (from_entries es) e.0 e.1) (remove (from_entries es) e.0)) now) live

sorted_map : (es : Entries) → T (is_sorted (slice_cmp nat_cmp) es) → from_entries es ≡ from_sorted {R = slice_cmp nat_cmp} es
sorted_map es h = alike _ _ (λ q. get-from_entries nat_list_cmp_total es q ∙ sym (get-from_sorted (slice_cmp nat_cmp) es q h))

pub loaded-all : (now : ℕ) (es : List (List ℕ × Stored)) (s : Space) → are_rising es ≡ true → are_live now es ≡ true → s ≡ made empty now → loaded s es ≡ made (from_sorted es) now
loaded-all now es s rising live start =
    ap (λ (t : Space). loaded t es) start
    ∙ loaded-live now es (holds _ live)
    ∙ ap (λ m. made m now) (sorted_map es (sorted_of_rising es (holds _ rising)))

-- ---- what is written

before_first : (e : List ℕ × Stored) (es : Entries) → T (below_all (slice_cmp nat_cmp) e.0 es) → T (is_before e es)
before_first e [] h = tt
before_first e (f ∷ es) h = first (in_order e.0 f.0) _ h

rising_of_sorted : (es : Entries) → T (is_sorted (slice_cmp nat_cmp) es) → T (are_rising es)
rising_of_sorted [] h = tt
rising_of_sorted (e ∷ es) h = both (is_before e es) _ (before_first e es (first _ _ h)) (rising_of_sorted es (second _ _ h))

below_none : (k : List ℕ) (es : Entries) → T (below_all (slice_cmp nat_cmp) k es) → find (slice_cmp nat_cmp) k es ≡ None
below_none k [] h = refl
below_none k (e ∷ es) h =
    let apart : same k e.0 ≡ false = ap is_eq (less (slice_cmp nat_cmp k e.0) (first _ _ h)) in
    ap (λ b. cond b (Some e.1) (find (slice_cmp nat_cmp) k es)) apart ∙ below_none k es (second _ _ h)

abbrev expires : Option Stored → Option ℕ
expires o = option_and_then (λ s. s.expires) o

abbrev Later : ℕ → Entries → Type 0
Later now es = (k : List ℕ) (t : ℕ) → expires (find (slice_cmp nat_cmp) k es) ≡ Some t → now < t

later_tail : (now : ℕ) (e : List ℕ × Stored) (es : Entries) → T (below_all (slice_cmp nat_cmp) e.0 es) → Later now (e ∷ es) → Later now es
later_tail now e es below h k t p =
    elim (same k e.0) as (λ b. same k e.0 ≡ b → now < t) [
      | true ↦ λ s. absurd (none-some t (sym (ap expires (ap (λ l. find (slice_cmp nat_cmp) l es) (same_keys k e.0 s) ∙ below_none e.0 es below)) ∙ p))
      | false ↦ λ s. h k t (ap (λ b. expires (cond b (Some e.1) (find (slice_cmp nat_cmp) k es))) s ∙ p)
    ] refl

live_all : (now : ℕ) (es : Entries) → T (is_sorted (slice_cmp nat_cmp) es) → Later now es → T (are_live now es)
live_all now [] s h = tt
live_all now (e ∷ es) s h =
    let there = ap (λ b. expires (cond b (Some e.1) (find (slice_cmp nat_cmp) e.0 es))) (same_itself e.0) in
    both (lives now e.1.expires) _
    (holds _ (lives_later now e.1.expires (λ t p. h e.0 t (there ∙ p))))
    (live_all now es (second _ _ s) (later_tail now e es (first _ _ s) h))

pub entries_rising : (m : Map) → are_rising (entries m) ≡ true
entries_rising m = true_of _ (rising_of_sorted (entries m) (entries_sorted m))

pub entries_live : (m : Map) (now : ℕ) → AreLater m now → are_live now (entries m) ≡ true
entries_live m now later = true_of _ (live_all now (entries m) (entries_sorted m) (λ k t p. later k t (ap expires (get-entries m k) ∙ p)))

pub entries_kept : (m : Map) (now : ℕ) → AreLater m now → (are_rising (entries m) && are_live now (entries m)) ≡ true
entries_kept m now later = true_of _ (both _ _ (holds _ (entries_rising m)) (holds _ (entries_live m now later)))

pub space_written : {E : Type 0} (s : Space) (old mid new : List ℕ) (r : Result (Unit {0}) E) → AreLater s.map s.moment → number.fits s.moment × (mid ≡ old ++ number.bytes s.moment)
    → Writes (list entry) (entries s.map) r mid new → Writes space s r old new
unfolding space
space_written s old mid new (Ok u) later first w = (
  ((first.0, w.0), entries_kept s.map s.moment later),
  w.1
      ∙ ap (λ (bs : List ℕ). bs ++ (list entry).bytes (entries s.map)) first.1
      ∙ append_assoc old (number.bytes s.moment) ((list entry).bytes (entries s.map)),
)
space_written s old mid new (Err e) later first w = tt
