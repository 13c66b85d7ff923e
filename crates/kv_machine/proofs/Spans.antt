-- The part of a tree that a range is.
use Rattle.std.proofs.Common.{◌≡◌, ℕ, Bool, true, false, cond, ◌&&◌, not, List, [], ◌∷◌, refl, sym, ap, subst, ◌∙◌, arith}
use Rattle.std.specs.Prelude.{filter, length, ◌==◌}
use Rattle.std.specs.Ordering.{nat_cmp, is_eq, is_le, is_lt, is_gt, ordering_reverse}
use Rattle.std.specs.declared.cmp.Ordering.{Ordering}
use Rattle.std.specs.declared.cmp.Ordering.TheVariants.{Less, Equal, Greater}
use Rattle.std.specs.declared.ops.Bound.TheVariants.{Included, Excluded, Unbounded}
use Rattle.std.specs.BTreeMap.Range.{entries_between, range_contains}
use Rattle.std.specs.Cmp.Lexicographic.{slice_cmp, nat_list_cmp_total, nat_list_eq_equiv}
use Rattle.std.specs.Str.{bytes_eq}
use Rattle.std.proofs.lemmas.Bool.{eqb-true}
use Rattle.std.proofs.lemmas.Cmp.{upto, tied_itself}
use Rattle.std.proofs.lemmas.List.Elements.{filter_agree}
use Rattle.std.proofs.lemmas.Map.Text.{is_eq-slice_cmp}
use Rattle.kv_machine.specs.declared.key_value.Stored.{Stored}
use Rattle.std.specs.FinMap.{entries}
use Rattle.std.specs.List.Sorted.{IsStrictlySortedBy}
use Rattle.std.specs.Map.{keys_of}
use Rattle.kv_machine.proofs.Tables.{table_of, entries-table_of}
use Rattle.kv_machine.specs.Store.{Map}
use Rattle.kv_machine.specs.Ranges.{is_key_le, is_endless, is_between, is_within}

abbrev pub key_cmp : List ℕ → List ℕ → Ordering
key_cmp = slice_cmp nat_cmp

tied : (o : Ordering) → (is_le o && not (is_lt o)) ≡ is_eq o
tied Less = refl
tied Equal = refl
tied Greater = refl

one_key : (key q : List ℕ) → range_contains key_cmp (Included key) (Included key) q ≡ is_within key [] q
one_key key q = tied (slice_cmp nat_cmp key q) ∙ is_eq-slice_cmp key q ∙ nat_list_eq_equiv.symm key q

pub span_of_one : (key : List ℕ) (es : List (List ℕ × Stored)) → entries_between key_cmp (Included key) (Included key) es ≡ filter (λ e. is_within key [] e.0) es
span_of_one key es = filter_agree _ _ (λ e. one_key key e.0) es

and_true : (b : Bool) → (b && true) ≡ b
and_true true = refl
and_true false = refl

from_key : (key end q : List ℕ) → is_endless end ≡ true → range_contains key_cmp (Included key) Unbounded q ≡ is_within key end q
from_key key end q h = and_true (is_key_le key q) ∙ sym (ap (λ b. cond b (is_key_le key q) (is_between key end q)) h)

pub span_of_all : (key end : List ℕ) (es : List (List ℕ × Stored)) → is_endless end ≡ true → entries_between key_cmp (Included key) Unbounded es ≡ filter (λ e. is_within key end e.0) es
span_of_all key end es h = filter_agree _ _ (λ e. from_key key end e.0 h) es

le_gt : (o : Ordering) → is_le o ≡ not (is_gt o)
le_gt Less = refl
le_gt Equal = refl
le_gt Greater = refl

not_not : (b : Bool) → not b ≡ true → b ≡ false
not_not true h = absurd cc
not_not false h = refl

not_gt : (a b : List ℕ) → is_key_le a b ≡ true → is_gt (slice_cmp nat_cmp a b) ≡ false
not_gt a b h = not_not _ (sym (le_gt (slice_cmp nat_cmp a b)) ∙ h)

le_from : (a b : List ℕ) → is_gt (slice_cmp nat_cmp a b) ≡ false → is_key_le a b ≡ true
le_from a b h = le_gt (slice_cmp nat_cmp a b) ∙ ap not h

pub key_le_trans : (a b c : List ℕ) → is_key_le a b ≡ true → is_key_le b c ≡ true → is_key_le a c ≡ true
key_le_trans a b c g h = le_from a c (upto nat_list_cmp_total a b c (not_gt a b g) (not_gt b c h))

-- no key is from the first on and before an end that isn't behind the first
nothing : (a b c : Bool) → (a ≡ true → b ≡ true) → (a && not a) ≡ (a && not b)
nothing true true c h = refl
nothing true false c h = absurd (let e : false ≡ true = h refl in cc)
nothing false b c h = refl

clamped : (key end q : List ℕ) (b : Bool) → is_key_le end key ≡ b
    → (is_key_le key q && not (is_key_le (cond b key end) q)) ≡ (is_key_le key q && not (is_key_le end q))
clamped key end q true h = nothing (is_key_le key q) (is_key_le end q) true (λ e. key_le_trans end key q h e)
clamped key end q false h = refl

to_end : (key end q : List ℕ) → (length end == 0) ≡ false → is_endless end ≡ false
    → range_contains key_cmp (Included key) (Excluded (cond (is_key_le end key) key end)) q ≡ is_within key end q
to_end key [] q some h = absurd cc
to_end key (b ∷ bs) q some h =
    clamped key (b ∷ bs) q (is_key_le (b ∷ bs) key) refl ∙ sym (ap (λ t. cond t (is_key_le key q) (is_between key (b ∷ bs) q)) h)

pub span_to_end : (key end : List ℕ) (es : List (List ℕ × Stored)) → (length end == 0) ≡ false → is_endless end ≡ false
    → entries_between key_cmp (Included key) (Excluded (cond (is_key_le end key) key end)) es ≡ filter (λ e. is_within key end e.0) es
span_to_end key end es some h = filter_agree _ _ (λ e. to_end key end e.0 some h) es

clamped_behind : (key end : List ℕ) (b : Bool) → is_key_le end key ≡ b → is_gt (slice_cmp nat_cmp key (cond b key end)) ≡ false
clamped_behind key end true h = ap is_gt (tied_itself nat_list_cmp_total key)
clamped_behind key end false h = turned_gt (slice_cmp nat_cmp key end) (slice_cmp nat_cmp end key) (nat_list_cmp_total.antisymm key end) h where
  turned_gt : (o p : Ordering) → o ≡ ordering_reverse p → is_le p ≡ false → is_gt o ≡ false
  turned_gt o Less e h = absurd cc
  turned_gt o Equal e h = absurd cc
  turned_gt o Greater e h = ap is_gt e

pub is_forward : (key end : List ℕ) → is_gt (slice_cmp nat_cmp key (cond (is_key_le end key) key end)) ≡ false
is_forward key end = clamped_behind key end (is_key_le end key) refl

-- ---- what the calls of a tree are asked, and answer

nil_of : (xs : List ℕ) → (length xs == 0) ≡ true → [] ≡ xs
nil_of [] h = refl
nil_of (x ∷ xs) h = let e : length (x ∷ xs) ≡ 0 = eqb-true (length (x ∷ xs)) 0 h in absurd (omega arith)

pub one_forward : (first last key : List ℕ) → first ≡ key → last ≡ key → is_gt (slice_cmp nat_cmp first last) ≡ false
one_forward first last key e f = ap (λ k. is_gt (slice_cmp nat_cmp k last)) e ∙ ap (λ k. is_gt (slice_cmp nat_cmp key k)) f ∙ ap is_gt (tied_itself nat_list_cmp_total key)

pub end_forward : (first end key range_end : List ℕ) → first ≡ key → end ≡ cond (is_key_le range_end key) key range_end → is_gt (slice_cmp nat_cmp first end) ≡ false
end_forward first end key range_end e f = ap (λ k. is_gt (slice_cmp nat_cmp k end)) e ∙ ap (λ k. is_gt (slice_cmp nat_cmp key k)) f ∙ is_forward key range_end

pub one_span : (first last key range_end : List ℕ) (es : List (List ℕ × Stored)) → first ≡ key → last ≡ key → (length range_end == 0) ≡ true
    → entries_between key_cmp (Included first) (Included last) es ≡ filter (λ e. is_within key range_end e.0) es
one_span first last key range_end es e f none =
    ap (λ k. entries_between key_cmp (Included k) (Included last) es) e ∙ ap (λ k. entries_between key_cmp (Included key) (Included k) es) f
    ∙ span_of_one key es ∙ ap (λ end. filter (λ (x : List ℕ × Stored). is_within key end x.0) es) (nil_of range_end none)

pub all_span : (first key range_end : List ℕ) (es : List (List ℕ × Stored)) → first ≡ key → is_endless range_end ≡ true
    → entries_between key_cmp (Included first) Unbounded es ≡ filter (λ e. is_within key range_end e.0) es
all_span first key range_end es e h = ap (λ k. entries_between key_cmp (Included k) Unbounded es) e ∙ span_of_all key range_end es h

pub end_span : (first end key range_end : List ℕ) (es : List (List ℕ × Stored)) → first ≡ key → end ≡ cond (is_key_le range_end key) key range_end
    → (length range_end == 0) ≡ false → is_endless range_end ≡ false
    → entries_between key_cmp (Included first) (Excluded end) es ≡ filter (λ e. is_within key range_end e.0) es
end_span first end key range_end es e f some h =
    ap (λ k. entries_between key_cmp (Included k) (Excluded end) es) e ∙ ap (λ k. entries_between key_cmp (Included key) (Excluded k) es) f ∙ span_to_end key range_end es some h

-- a table's entries are its tree's
pub here : (key range_end : List ℕ) (es : List (List ℕ × Stored)) (m : Map) → IsStrictlySortedBy key_cmp (keys_of es) → table_of es ≡ m
    → filter (λ e. is_within key range_end e.0) es ≡ filter (λ e. is_within key range_end e.0) (entries m)
here key range_end es m rising e =
    ap (λ (xs : List (List ℕ × Stored)). filter (λ x. is_within key range_end x.0) xs) (sym (entries-table_of es rising) ∙ ap entries e)
