-- Steps through keys in order: what a step takes, and that steps miss no key.
use Rattle.std.proofs.Common.{◌≡◌, ℕ, zero, suc, ◌+◌, ◌-◌, ◌^◌, ◌<◌, ◌≤◌, Bool, true, false, cond, not, ◌&&◌, ◌||◌, eqb, leb, ltb, List, [], ◌∷◌, ◌++◌, length, Option, Some, None, refl, sym, ap, subst, ◌∙◌, append_assoc, T, max, arith}
use Rattle.std.specs.Prelude.{filter, find, map, slice_get}
use Rattle.std.specs.List.{AllByRecursion, list_any}
use Rattle.std.specs.List.Sorted.{IsStrictlySortedBy}
use Rattle.std.specs.Option.{option_map_or}
use Rattle.std.specs.Ordering.{nat_cmp, is_lt, is_le, is_eq}
use Rattle.std.specs.declared.ops.Bound.{Bound}
use Rattle.std.specs.declared.ops.Bound.TheVariants.{Included, Unbounded}
use Rattle.std.specs.Cmp.Lexicographic.{slice_cmp}
use Rattle.std.specs.BTreeMap.Range.{range_contains, entries_between}
use Rattle.std.specs.Map.{keys_of}
use Rattle.std.specs.FinMap as map
use Rattle.std.specs.FinMap.{entries, is_sorted, entries_sorted}
use Rattle.std.specs.FinMap.Entries.{below_all}
use Rattle.std.proofs.lemmas.Bool.{eqb-true, eqb-false, ne_eqb, le-leb, lt-leb, leb-true, leb-false}
use Rattle.std.proofs.lemmas.Bool.Decides.{nat_tests}
use Rattle.raft_machine.specs.BytesLaws.{first, second, less}
use Rattle.raft_machine.specs.declared.command.ScanOptions.{ScanOptions}
use Rattle.raft_machine.specs.declared.command.Page.{Page}
use Rattle.raft_machine.specs.declared.stored.Stored.{Stored}
use Rattle.raft_machine.specs.Space.{Map}
use Rattle.raft_machine.specs.Cursors.{cursor_of, first_at}
use Rattle.raft_machine.specs.Scans.{Key, is_asked, asked, ends, walk, keys_from, last_of, next_of, page_of, scan}
use Rattle.raft_machine.proofs.Tables.{key_cmp, table_of, entries-table_of}
use Rattle.raft_machine.proofs.Digits.{first-order, leading-rises, cursor-below}

-- ---- key by key

abbrev pub page : ℕ → List Key → Page
page cursor keys = record { cursor = cursor; keys = keys }

-- keys that were answered, and then a page
abbrev pub behind : List Key → Page → Page
behind front p = page p.cursor (front ++ p.keys)

pub walk_more : (options : ScanOptions) (left last : ℕ) (all : List Key) (k : Key) (ks front : List Key) (target : Page) → ends left last (cursor_of k) ≡ false → all ≡ k ∷ ks
    → behind front (walk options left last all) ≡ target → behind (front ++ asked options k) (walk options (left - 1) (cursor_of k) ks) ≡ target
walk_more options left last all k ks front target e i h =
    let rest = walk options (left - 1) (cursor_of k) ks in
    let step : walk options left last (k ∷ ks) ≡ page rest.cursor (asked options k ++ rest.keys) = ap (λ t. cond t (page (cursor_of k) []) (page rest.cursor (asked options k ++ rest.keys))) e in
    ap (page rest.cursor) (append_assoc front (asked options k) rest.keys)
    ∙ ap (behind front) (sym step) ∙ ap (λ (xs : List Key). behind front (walk options left last xs)) (sym i) ∙ h

append_none : (ks : List Key) → ks ++ [] ≡ ks
append_none [] = refl
append_none (k ∷ ks) = ap (λ (xs : List Key). k ∷ xs) (append_none ks)

pub walk_stops : (options : ScanOptions) (left last : ℕ) (all : List Key) (k : Key) (ks front : List Key) (target : Page) → ends left last (cursor_of k) ≡ true → all ≡ k ∷ ks
    → behind front (walk options left last all) ≡ target → page (cursor_of k) front ≡ target
walk_stops options left last all k ks front target e i h =
    let rest = walk options (left - 1) (cursor_of k) ks in
    let step : walk options left last (k ∷ ks) ≡ page (cursor_of k) [] = ap (λ t. cond t (page (cursor_of k) []) (page rest.cursor (asked options k ++ rest.keys))) e in
    ap (page (cursor_of k)) (sym (append_none front)) ∙ ap (behind front) (sym step) ∙ ap (λ (xs : List Key). behind front (walk options left last xs)) (sym i) ∙ h

pub walk_ends : (options : ScanOptions) (left last : ℕ) (all front : List Key) (target : Page) → all ≡ [] → behind front (walk options left last all) ≡ target → page 0 front ≡ target
walk_ends options left last [] front target i h = ap (page 0) (sym (append_none front)) ∙ h
walk_ends options left last (k ∷ ks) front target i h = absurd cc

-- ---- keys in the order of their cursors

abbrev pub Rising : List Key → Type 0
Rising [] = Unit {0}
Rising (k ∷ ks) = AllByRecursion (λ j. cursor_of k ≤ cursor_of j) ks × Rising ks

all_filter : (P : Key → Type 0) (test : Key → Bool) (ks : List Key) → AllByRecursion P ks → AllByRecursion P (filter test ks)
all_filter P test [] h = tt
all_filter P test (k ∷ ks) h =
    elim (test k) as (λ t. AllByRecursion P (cond t (k ∷ filter test ks) (filter test ks))) [ true ↦ (h.0, all_filter P test ks h.1) | false ↦ all_filter P test ks h.1 ]

pub rising-filter : (test : Key → Bool) (ks : List Key) → Rising ks → Rising (filter test ks)
rising-filter test [] h = tt
rising-filter test (k ∷ ks) h =
    elim (test k) as (λ t. Rising (cond t (k ∷ filter test ks) (filter test ks))) [
      | true ↦ (all_filter (λ j. cursor_of k ≤ cursor_of j) test ks h.0, rising-filter test ks h.1)
      | false ↦ rising-filter test ks h.1
    ]

all_above : (k : Key) (es : List (Key × Stored)) → T (below_all (slice_cmp nat_cmp) k es) → AllByRecursion (λ j. cursor_of k ≤ cursor_of j) (map (λ e. e.0) es)
all_above k [] h = tt
all_above k (e ∷ es) h = (leading-rises 8 k e.0 (less _ (first _ _ h)), all_above k es (second _ _ h))

rising-entries : (es : List (Key × Stored)) → T (is_sorted (slice_cmp nat_cmp) es) → Rising (map (λ e. e.0) es)
rising-entries [] h = tt
rising-entries (e ∷ es) h = (all_above e.0 es (first _ _ h), rising-entries es (second _ _ h))

pub rising-keys : (m : Map) → Rising (map.keys m)
rising-keys m = rising-entries (entries m) (entries_sorted m)

-- ---- a walk takes what a step takes

abbrev pub taken : ScanOptions → ℕ → Key → Bool
taken options last k = leb (cursor_of k) last && is_asked options k

abbrev told : ScanOptions → ℕ → List Key → Page
told options last ks = page (next_of last ks) (filter (taken options last) ks)

-- the count-th of keys is at n
abbrev pub last_at : ℕ → List Key → ℕ
last_at n ks = option_map_or cursor_of (slice_get ks n) (2 ^ 64)

with_asked : (options : ScanOptions) (k : Key) (ks : List Key) → asked options k ++ ks ≡ cond (is_asked options k) (k ∷ ks) ks
with_asked options k ks = elim (is_asked options k) as (λ t. cond t (k ∷ []) [] ++ ks ≡ cond t (k ∷ ks) ks) [ true ↦ refl | false ↦ refl ]

-- a key that a step takes
told_more : (options : ScanOptions) (last : ℕ) (k : Key) (ks : List Key) (rest : Page) → cursor_of k ≤ last → rest ≡ told options last ks → page rest.cursor (asked options k ++ rest.keys) ≡ told options last (k ∷ ks)
told_more options last k ks rest le e =
    let in_page : leb (cursor_of k) last ≡ true = le-leb (cursor_of k) last le in
    let not_next : ltb last (cursor_of k) ≡ false = grind (arith, nat_tests) in
    ap (λ (p : Page). page p.cursor (asked options k ++ p.keys)) e
    ∙ ap (page (next_of last ks)) (with_asked options k (filter (taken options last) ks))
    ∙ ap (λ t. page (next_of last ks) (cond (t && is_asked options k) (k ∷ filter (taken options last) ks) (filter (taken options last) ks))) (sym in_page)
    ∙ ap (λ t. page (option_map_or cursor_of (cond t (Some k) (find (λ j. ltb last (cursor_of j)) ks)) 0) (filter (taken options last) (k ∷ ks))) (sym not_next)

pub none_taken : (options : ScanOptions) (last : ℕ) (ks : List Key) → AllByRecursion (λ j. last < cursor_of j) ks → filter (taken options last) ks ≡ []
none_taken options last [] h = refl
none_taken options last (k ∷ ks) h =
    ap (λ t. cond (t && is_asked options k) (k ∷ filter (taken options last) ks) (filter (taken options last) ks)) (lt-leb (cursor_of k) last h.0) ∙ none_taken options last ks h.1

pub all_later : (last : ℕ) (k : Key) (ks : List Key) → last < cursor_of k → AllByRecursion (λ j. cursor_of k ≤ cursor_of j) ks → AllByRecursion (λ j. last < cursor_of j) ks
all_later last k [] l h = tt
all_later last k (j ∷ ks) l h = (let le = h.0 in omega arith, all_later last k ks l h.1)

-- no key is left to be taken: those with the last cursor are taken all the same
walk_rest : (options : ScanOptions) (last : ℕ) (ks : List Key) → Rising ks → AllByRecursion (λ j. last ≤ cursor_of j) ks → walk options 0 last ks ≡ told options last ks
walk_rest options last [] r h = refl
walk_rest options last (k ∷ ks) r h =
    let rest = walk options 0 (cursor_of k) ks in
    elim (eqb (cursor_of k) last) as (λ t. eqb (cursor_of k) last ≡ t → cond (not t) (page (cursor_of k) []) (page rest.cursor (asked options k ++ rest.keys)) ≡ told options last (k ∷ ks)) [
      | true ↦ λ t.
          let same : cursor_of k ≡ last = eqb-true (cursor_of k) last t in
          told_more options last k ks rest (omega arith) (ap (λ (c : ℕ). walk options 0 c ks) same ∙ walk_rest options last ks r.1 h.1)
      | false ↦ λ t.
          let other = eqb-false (cursor_of k) last t in
          let here = h.0 in
          let later : last < cursor_of k = omega arith in
          let is_next : ltb last (cursor_of k) ≡ true = grind (arith, nat_tests) in
          let nothing : filter (taken options last) (k ∷ ks) ≡ [] = none_taken options last (k ∷ ks) (later, all_later last k ks later r.0) in
          ap (page (cursor_of k)) (sym nothing)
          ∙ ap (λ t. page (option_map_or cursor_of (cond t (Some k) (find (λ j. ltb last (cursor_of j)) ks)) 0) (filter (taken options last) (k ∷ ks))) (sym is_next)
    ] refl

-- the cursor of one of keys, or a greater one than any
pub no_less : (k : Key) (n : ℕ) (ks : List Key) → AllByRecursion (λ j. cursor_of k ≤ cursor_of j) ks → cursor_of k ≤ last_at n ks
no_less k n [] h = let b = cursor-below k in omega arith
no_less k zero (j ∷ ks) h = h.0
no_less k (suc n) (j ∷ ks) h = no_less k n ks h.1

walk_is : (options : ScanOptions) (n last : ℕ) (ks : List Key) → Rising ks → walk options (suc n) last ks ≡ told options (last_at n ks) ks
walk_is options n last [] r = refl
walk_is options zero last (k ∷ ks) r =
    let rest = walk options 0 (cursor_of k) ks in
    let goes : eqb 1 0 ≡ false = refl in
    ap (λ t. cond (t && not (eqb (cursor_of k) last)) (page (cursor_of k) []) (page rest.cursor (asked options k ++ rest.keys))) goes
    ∙ told_more options (cursor_of k) k ks rest (omega arith) (walk_rest options (cursor_of k) ks r.1 r.0)
walk_is options (suc n) last (k ∷ ks) r =
    let rest = walk options (suc n) (cursor_of k) ks in
    let goes : eqb (suc (suc n)) 0 ≡ false = ne_eqb (suc (suc n)) 0 (λ e. omega arith) in
    let less : suc (suc n) - 1 ≡ suc n = omega arith in
    ap (λ (m : ℕ). let other = walk options m (cursor_of k) ks in cond (eqb (suc (suc n)) 0 && not (eqb (cursor_of k) last)) (page (cursor_of k) []) (page other.cursor (asked options k ++ other.keys))) less
    ∙ ap (λ t. cond (t && not (eqb (cursor_of k) last)) (page (cursor_of k) []) (page rest.cursor (asked options k ++ rest.keys))) goes
    ∙ told_more options (last_at n ks) k ks rest (no_less k n ks r.0) (walk_is options n (cursor_of k) ks r.1)

pub walk_page : (options : ScanOptions) (ks : List Key) → Rising ks → walk options (max options.count 1) 0 ks ≡ page_of options ks
walk_page options ks r =
    let n = options.count - 1 in
    let many : max options.count 1 ≡ suc n = omega arith in
    ap (λ (m : ℕ). walk options m 0 ks) many ∙ walk_is options n 0 ks r

-- ---- the part of a table that a step begins with

abbrev Entries : Type 0
Entries = List (Key × Stored)

from_there : (cursor : ℕ) (start : Key) → cursor < 2 ^ 64 → start ≡ first_at cursor → (e : Key × Stored)
    → range_contains key_cmp (Included start) Unbounded e.0 ≡ leb cursor (cursor_of e.0)
from_there cursor start h is e =
    and_true (is_le (slice_cmp nat_cmp start e.0))
    ∙ ap (λ (j : List ℕ). is_le (slice_cmp nat_cmp j e.0)) is ∙ first-order 8 cursor e.0 h
  where
    and_true : (t : Bool) → (t && true) ≡ t
    and_true true = refl
    and_true false = refl

keys_filter : (cursor : ℕ) (start : Key) → cursor < 2 ^ 64 → start ≡ first_at cursor → (es : Entries)
    → keys_of (entries_between key_cmp (Included start) Unbounded es) ≡ keys_from cursor (keys_of es)
keys_filter cursor start h is [] = refl
keys_filter cursor start h is (e ∷ es) =
    let rest = entries_between key_cmp (Included start) Unbounded es in
    ap (λ t. keys_of (cond t (e ∷ rest) rest)) (from_there cursor start h is e)
    ∙ by_test (leb cursor (cursor_of e.0)) (keys_filter cursor start h is es)
  where
    by_test : (t : Bool) → keys_of (entries_between key_cmp (Included start) Unbounded es) ≡ keys_from cursor (keys_of es)
        → keys_of (cond t (e ∷ entries_between key_cmp (Included start) Unbounded es) (entries_between key_cmp (Included start) Unbounded es))
        ≡ cond t (e.0 ∷ keys_from cursor (keys_of es)) (keys_from cursor (keys_of es))
    by_test true r = ap (λ (ks : List Key). e.0 ∷ ks) r
    by_test false r = r

pub keys-table_of : (es : Entries) → IsStrictlySortedBy key_cmp (keys_of es) → keys_of es ≡ map.keys (table_of es)
keys-table_of es h = ap (λ (xs : Entries). keys_of xs) (sym (entries-table_of es h))

-- a walk from the first key at a cursor on is a step
pub walk_scan : (options : ScanOptions) (start : Key) (es there : Entries) → options.cursor < 2 ^ 64 → start ≡ first_at options.cursor → IsStrictlySortedBy key_cmp (keys_of es)
    → there ≡ entries_between key_cmp (Included start) Unbounded es → walk options (max options.count 1) 0 (keys_of there) ≡ scan (map.keys (table_of es)) options
unfolding scan
walk_scan options start es there h is ordered e =
    let ks = map.keys (table_of es) in
    ap (λ (xs : Entries). walk options (max options.count 1) 0 (keys_of xs)) e
    ∙ ap (walk options (max options.count 1) 0) (keys_filter options.cursor start h is es ∙ ap (keys_from options.cursor) (keys-table_of es ordered))
    ∙ walk_page options (keys_from options.cursor ks) (rising-filter (λ k. leb options.cursor (cursor_of k)) ks (rising-keys (table_of es)))
