-- Steps through keys until 0 is answered.
use Rattle.std.proofs.Common.{◌≡◌, ℕ, zero, suc, ◌+◌, ◌-◌, ◌<◌, ◌≤◌, Bool, true, false, cond, ◌&&◌, ◌||◌, eqb, leb, ltb, List, [], ◌∷◌, ◌++◌, length, Option, Some, None, refl, sym, ap, subst, ◌∙◌, append_assoc, inl, inr, arith}
use Rattle.std.specs.Prelude.{◌⊎◌, filter, find, map}
use Rattle.std.specs.List.{AllByRecursion, list_any, repeat}
use Rattle.std.specs.Option.{option_map, option_map_or}
use Rattle.std.specs.FinMap as map
use Rattle.std.specs.FinMap.{entries, len, len-entries, contains_key-keys}
use Rattle.std.proofs.lemmas.List.{length-map}
use Rattle.std.proofs.lemmas.Bool.{eqb-true, eqb-false, ne_eqb, le-leb, lt-leb, leb-true, leb-false}
use Rattle.std.proofs.lemmas.Bool.Decides.{nat_tests}
use Rattle.raft_machine.specs.declared.command.ScanOptions.{ScanOptions}
use Rattle.raft_machine.specs.declared.command.Page.{Page}
use Rattle.raft_machine.specs.Space.{Map}
use Rattle.raft_machine.specs.Cursors.{cursor_of}
use Rattle.raft_machine.specs.Scans.{Key, is_asked, keys_from, last_of, next_of, page_of, scan}
use Rattle.raft_machine.specs.Laws.{has, at_cursor, iterated}
use Rattle.raft_machine.proofs.Spaces.{same, same_keys, same_itself}
use Rattle.raft_machine.proofs.Scanning.{Rising, rising-filter, rising-keys, no_less, taken, none_taken, all_later}

-- ---- keys among keys

or_right : (a b : Bool) → b ≡ true → (a || b) ≡ true
or_right true b e = refl
or_right false b e = e

has-filter : (test : Key → Bool) (k : Key) (ks : List Key) → test k ≡ true → has k ks ≡ true → has k (filter test ks) ≡ true
has-filter test k [] t h = h
has-filter test k (j ∷ ks) t h =
    elim (same k j) as (λ b. same k j ≡ b → (b || has k ks) ≡ true → has k (cond (test j) (j ∷ filter test ks) (filter test ks)) ≡ true) [
      | true ↦ λ e g.
          let kept : test j ≡ true = ap test (sym (same_keys k j e)) ∙ t in
          ap (λ u. has k (cond u (j ∷ filter test ks) (filter test ks))) kept ∙ ap (λ u. u || has k (filter test ks)) e
      | false ↦ λ e g.
          let later = has-filter test k ks t g in
          elim (test j) as (λ u. has k (cond u (j ∷ filter test ks) (filter test ks)) ≡ true) [ true ↦ or_right (same k j) (has k (filter test ks)) later | false ↦ later ]
    ] refl h

has-left : (k : Key) (xs ys : List Key) → has k xs ≡ true → has k (xs ++ ys) ≡ true
has-left k [] ys h = absurd cc
has-left k (x ∷ xs) ys h =
    elim (same k x) as (λ b. (b || has k xs) ≡ true → (b || has k (xs ++ ys)) ≡ true) [ true ↦ λ g. refl | false ↦ λ g. has-left k xs ys g ] h

has-right : (k : Key) (xs ys : List Key) → has k ys ≡ true → has k (xs ++ ys) ≡ true
has-right k [] ys h = h
has-right k (x ∷ xs) ys h = or_right (same k x) (has k (xs ++ ys)) (has-right k xs ys h)

-- what holds of each of keys holds of one among them
one_of : (P : Key → Type 0) (k : Key) (ks : List Key) → AllByRecursion P ks → has k ks ≡ true → P k
one_of P k [] a h = absurd cc
one_of P k (j ∷ ks) a h =
    elim (same k j) as (λ b. same k j ≡ b → (b || has k ks) ≡ true → P k) [
      | true ↦ λ e g. subst P (sym (same_keys k j e)) a.0
      | false ↦ λ e g. one_of P k ks a.1 g
    ] refl h

-- ---- the next cursor

abbrev is_next : ℕ → Key → Bool
is_next last j = ltb last (cursor_of j)

next_is : (last : ℕ) (j : Key) (ks : List Key) → last < cursor_of j → next_of last (j ∷ ks) ≡ cursor_of j
next_is last j ks h =
    let t : is_next last j ≡ true = grind (arith, nat_tests) in
    ap (λ u. option_map_or cursor_of (cond u (Some j) (find (is_next last) ks)) 0) t

next_isn't : (last : ℕ) (j : Key) (ks : List Key) → cursor_of j ≤ last → next_of last (j ∷ ks) ≡ next_of last ks
next_isn't last j ks h =
    let t : is_next last j ≡ false = grind (arith, nat_tests) in
    ap (λ u. option_map_or cursor_of (cond u (Some j) (find (is_next last) ks)) 0) t

-- whether a key is taken
abbrev Sides : ℕ → Key → Type 0
Sides last j = (last < cursor_of j) ⊎ (cursor_of j ≤ last)

sides : (last : ℕ) (j : Key) → Sides last j
sides last j =
    elim (leb (cursor_of j) last) as (λ t. leb (cursor_of j) last ≡ t → Sides last j) [
      | true ↦ λ t. inr (leb-true (cursor_of j) last t)
      | false ↦ λ t. inl (leb-false (cursor_of j) last t)
    ] refl

-- it is behind the last cursor, and none of the keys behind that is before it
next_before : (last : ℕ) (ks : List Key) (k : Key) → Rising ks → has k ks ≡ true → last < cursor_of k → (last < next_of last ks) × (next_of last ks ≤ cursor_of k)
next_before last [] k r h l = absurd cc
next_before last (j ∷ ks) k r h l =
    elim (sides last j) [
      | inl behind ↦
          let e = next_is last j ks behind in
          let le : cursor_of j ≤ cursor_of k = one_of (λ x. cursor_of j ≤ cursor_of x) k (j ∷ ks) (omega arith, r.0) h in
          (omega arith, omega arith)
      | inr before ↦
          let e = next_isn't last j ks before in
          let i = next_before last ks k r.1 (others before h) l in
          (subst (λ (n : ℕ). last < n) (sym e) i.0, subst (λ (n : ℕ). n ≤ cursor_of k) (sym e) i.1)
    ]
  where
    others : cursor_of j ≤ last → (same k j || has k ks) ≡ true → has k ks ≡ true
    others before g =
        elim (same k j) as (λ b. same k j ≡ b → (b || has k ks) ≡ true → has k ks ≡ true) [
          | true ↦ λ e f. let i : cursor_of k ≡ cursor_of j = ap cursor_of (same_keys k j e) in absurd (omega arith)
          | false ↦ λ e f. f
        ] refl g

-- some key is behind the last cursor, or else none
next_or : (last : ℕ) (ks : List Key) → (last < next_of last ks) ⊎ ((next_of last ks ≡ 0) × AllByRecursion (λ j. cursor_of j ≤ last) ks)
next_or last [] = inr (refl, tt)
next_or last (j ∷ ks) =
    elim (sides last j) [
      | inl behind ↦ inl (subst (λ (n : ℕ). last < n) (sym (next_is last j ks behind)) behind)
      | inr before ↦
          let e = next_isn't last j ks before in
          elim (next_or last ks) [
            | inl l ↦ inl (subst (λ (n : ℕ). last < n) (sym e) l)
            | inr z ↦ inr (e ∙ z.0, (before, z.1))
          ]
    ]

-- ---- no key is missed

from_cursor : (cursor : ℕ) (m : Map) (k : Key) → cursor ≤ cursor_of k → map.contains_key m k ≡ true → has k (keys_from cursor (map.keys m)) ≡ true
from_cursor cursor m k le h = has-filter (λ j. leb cursor (cursor_of j)) k (map.keys m) (le-leb cursor (cursor_of k) le) (sym (contains_key-keys m k) ∙ h)

-- what is answered, if this page is the first
in_turn : Page → Option (List Key) → Option (List Key)
in_turn page rest = cond (eqb page.cursor 0) (Some page.keys) (option_map (λ ks. page.keys ++ ks) rest)

some_keys : (xs ys : List Key) → ◌≡◌ {A = Option (List Key)} (Some xs) (Some ys) → xs ≡ ys
some_keys xs ys e = cc

no_keys : (ys : List Key) → ◌≡◌ {A = Option (List Key)} None (Some ys) → ⊥
no_keys ys e = cc

-- in the page, or in what follows
in_page : (page : Page) (rest : Option (List Key)) (answered : List Key) (k : Key) → has k page.keys ≡ true → in_turn page rest ≡ Some answered → has k answered ≡ true
unfolding in_turn
in_page page rest answered k h e =
    elim (eqb page.cursor 0) as (λ t. cond t (Some page.keys) (option_map (λ ks. page.keys ++ ks) rest) ≡ Some answered → has k answered ≡ true) [
      | true ↦ λ f. subst (λ (ks : List Key). has k ks ≡ true) (some_keys page.keys answered f) h
      | false ↦ λ f. behind rest f
    ] e
  where
    behind : (rest : Option (List Key)) → option_map (λ ks. page.keys ++ ks) rest ≡ Some answered → has k answered ≡ true
    behind None f = absurd (no_keys answered f)
    behind (Some ks) f = subst (λ (xs : List Key). has k xs ≡ true) (some_keys (page.keys ++ ks) answered f) (has-left k page.keys ks h)

in_rest : (page : Page) (rest : Option (List Key)) (answered : List Key) (k : Key) → 0 < page.cursor → ((ks : List Key) → rest ≡ Some ks → has k ks ≡ true) → in_turn page rest ≡ Some answered → has k answered ≡ true
unfolding in_turn
in_rest page rest answered k l h e =
    let goes : eqb page.cursor 0 ≡ false = ne_eqb page.cursor 0 (λ z. omega arith) in
    behind rest h (sym (ap (λ t. cond t (Some page.keys) (option_map (λ ks. page.keys ++ ks) rest)) goes) ∙ e)
  where
    behind : (rest : Option (List Key)) → ((ks : List Key) → rest ≡ Some ks → has k ks ≡ true) → option_map (λ ks. page.keys ++ ks) rest ≡ Some answered → has k answered ≡ true
    behind None g f = absurd (no_keys answered f)
    behind (Some ks) g f = subst (λ (xs : List Key). has k xs ≡ true) (some_keys (page.keys ++ ks) answered f) (has-right k page.keys ks (g ks refl))

missed : (options : ScanOptions) (cursor : ℕ) (steps : List (Map × ℕ)) (answered : List Key) (k : Key) → cursor ≤ cursor_of k
    → iterated options cursor steps ≡ Some answered → is_asked options k ≡ true → AllByRecursion (λ m. map.contains_key m.0 k ≡ true) steps → has k answered ≡ true
unfolding scan in_turn
missed options cursor [] answered k le e a h = absurd (no_keys answered e)
missed options cursor (m ∷ ms) answered k le e a h =
    let there = keys_from cursor (map.keys m.0) in
    let last = last_of m.1 there in
    let page = page_of (at_cursor options cursor m.1) there in
    let here = from_cursor cursor m.0 k le h.0 in
    let rising = rising-filter (λ j. leb cursor (cursor_of j)) (map.keys m.0) (rising-keys m.0) in
    elim (sides last k) [
      | inr before ↦
          let test : (leb (cursor_of k) last && is_asked options k) ≡ true = ap (λ t. t && is_asked options k) (le-leb (cursor_of k) last before) ∙ a in
          in_page page (iterated options page.cursor ms) answered k (has-filter (λ j. leb (cursor_of j) last && is_asked options j) k there test here) e
      | inl behind ↦
          let n = next_before last there k rising here behind in
          let some : 0 < page.cursor = omega (arith, n.0) in
          in_rest page (iterated options page.cursor ms) answered k some (λ ks f. missed options page.cursor ms ks k n.1 f a h.1) e
    ]

pub none_missed : (options : ScanOptions) (steps : List (Map × ℕ)) (answered : List Key) (k : Key)
    → iterated options 0 steps ≡ Some answered → is_asked options k ≡ true → AllByRecursion (λ m. map.contains_key m.0 k ≡ true) steps → has k answered ≡ true
none_missed options steps answered k e a h = missed options 0 steps answered k (omega arith) e a h

-- ---- keys that stay the same

all_from : (cursor : ℕ) (ks : List Key) → AllByRecursion (λ j. cursor ≤ cursor_of j) (keys_from cursor ks)
all_from cursor [] = tt
all_from cursor (j ∷ ks) =
    elim (leb cursor (cursor_of j)) as (λ t. leb cursor (cursor_of j) ≡ t → AllByRecursion (λ i. cursor ≤ cursor_of i) (cond t (j ∷ keys_from cursor ks) (keys_from cursor ks))) [
      | true ↦ λ t. (leb-true cursor (cursor_of j) t, all_from cursor ks)
      | false ↦ λ t. all_from cursor ks
    ] refl

-- the first key is taken
first_taken : (count : ℕ) (k : Key) (ks : List Key) → Rising (k ∷ ks) → cursor_of k ≤ last_of count (k ∷ ks)
first_taken count k ks r = no_less k (count - 1) (k ∷ ks) (omega arith, r.0)

cursor_behind : (count cursor : ℕ) (ks : List Key) → Rising ks → AllByRecursion (λ j. cursor ≤ cursor_of j) ks → (next_of (last_of count ks) ks ≡ 0) ⊎ (cursor < next_of (last_of count ks) ks)
cursor_behind count cursor [] r a = inl refl
cursor_behind count cursor (k ∷ ks) r a =
    let le = first_taken count k ks r in
    let from = a.0 in
    elim (next_or (last_of count (k ∷ ks)) (k ∷ ks)) [
      | inl l ↦ inr (omega arith)
      | inr z ↦ inl z.0
    ]

pub cursors_rise : (options : ScanOptions) (m : Map) → ((scan (map.keys m) options).cursor ≡ 0) ⊎ (options.cursor < (scan (map.keys m) options).cursor)
unfolding scan
cursors_rise options m =
    cursor_behind options.count options.cursor (keys_from options.cursor (map.keys m))
    (rising-filter (λ j. leb options.cursor (cursor_of j)) (map.keys m) (rising-keys m)) (all_from options.cursor (map.keys m))

-- the keys from a later cursor on
narrowed : (c d : ℕ) (ks : List Key) → c ≤ d → filter (λ j. leb d (cursor_of j)) (keys_from c ks) ≡ keys_from d ks
narrowed c d [] le = refl
narrowed c d (j ∷ ks) le =
    let rest = narrowed c d ks le in
    elim (leb d (cursor_of j)) as (λ t. leb d (cursor_of j) ≡ t → filter (λ i. leb d (cursor_of i)) (cond (leb c (cursor_of j)) (j ∷ keys_from c ks) (keys_from c ks)) ≡ cond t (j ∷ keys_from d ks) (keys_from d ks)) [
      | true ↦ λ t.
          let l : d ≤ cursor_of j = leb-true d (cursor_of j) t in
          let kept : leb c (cursor_of j) ≡ true = le-leb c (cursor_of j) (omega arith) in
          ap (λ u. filter (λ i. leb d (cursor_of i)) (cond u (j ∷ keys_from c ks) (keys_from c ks))) kept
          ∙ ap (λ u. cond u (j ∷ filter (λ i. leb d (cursor_of i)) (keys_from c ks)) (filter (λ i. leb d (cursor_of i)) (keys_from c ks))) t
          ∙ ap (λ (xs : List Key). j ∷ xs) rest
      | false ↦ λ t. elim (leb c (cursor_of j)) as (λ u. filter (λ i. leb d (cursor_of i)) (cond u (j ∷ keys_from c ks) (keys_from c ks)) ≡ keys_from d ks) [
        | true ↦ ap (λ u. cond u (j ∷ filter (λ i. leb d (cursor_of i)) (keys_from c ks)) (filter (λ i. leb d (cursor_of i)) (keys_from c ks))) t ∙ rest
        | false ↦ rest
      ]
    ] refl

all_kept : (d : ℕ) (ks : List Key) → AllByRecursion (λ j. d ≤ cursor_of j) ks → keys_from d ks ≡ ks
all_kept d [] a = refl
all_kept d (j ∷ ks) a = ap (λ t. cond t (j ∷ keys_from d ks) (keys_from d ks)) (le-leb d (cursor_of j) a.0) ∙ ap (λ (xs : List Key). j ∷ xs) (all_kept d ks a.1)

all_taken : (options : ScanOptions) (last : ℕ) (ks : List Key) → AllByRecursion (λ j. cursor_of j ≤ last) ks → filter (taken options last) ks ≡ filter (is_asked options) ks
all_taken options last [] a = refl
all_taken options last (j ∷ ks) a =
    ap (λ t. cond (t && is_asked options j) (j ∷ filter (taken options last) ks) (filter (taken options last) ks)) (le-leb (cursor_of j) last a.0)
    ∙ ap (λ (xs : List Key). cond (is_asked options j) (j ∷ xs) xs) (all_taken options last ks a.1)

-- the keys of a step, and those of the next one on
parted : (options : ScanOptions) (last : ℕ) (ks : List Key) → Rising ks → last < next_of last ks
    → filter (taken options last) ks ++ filter (is_asked options) (keys_from (next_of last ks) ks) ≡ filter (is_asked options) ks
parted options last [] r l = absurd (omega arith)
parted options last (j ∷ ks) r l =
    elim (sides last j) [
      | inl behind ↦
          let e = next_is last j ks behind in
          ap (λ (xs : List Key). xs ++ filter (is_asked options) (keys_from (next_of last (j ∷ ks)) (j ∷ ks))) (none_taken options last (j ∷ ks) (behind, all_later last j ks behind r.0))
          ∙ ap (λ (d : ℕ). filter (is_asked options) (keys_from d (j ∷ ks))) e
          ∙ ap (filter (is_asked options)) (all_kept (cursor_of j) (j ∷ ks) (omega arith, r.0))
      | inr before ↦
          let e = next_isn't last j ks before in
          let d = next_of last ks in
          let l' : last < d = subst (λ (n : ℕ). last < n) e l in
          let rest = parted options last ks r.1 l' in
          let away : leb d (cursor_of j) ≡ false = lt-leb d (cursor_of j) (omega arith) in
          ap (λ (n : ℕ). filter (taken options last) (j ∷ ks) ++ filter (is_asked options) (keys_from n (j ∷ ks))) e
          ∙ ap (λ t. filter (taken options last) (j ∷ ks) ++ filter (is_asked options) (cond t (j ∷ keys_from d ks) (keys_from d ks))) away
          ∙ ap (λ t. cond (t && is_asked options j) (j ∷ filter (taken options last) ks) (filter (taken options last) ks) ++ filter (is_asked options) (keys_from d ks)) (le-leb (cursor_of j) last before)
          ∙ front (is_asked options j) (filter (taken options last) ks) (filter (is_asked options) (keys_from d ks)) (filter (is_asked options) ks) rest
    ]
  where
    front : (t : Bool) (xs ys zs : List Key) → xs ++ ys ≡ zs → cond t (j ∷ xs) xs ++ ys ≡ cond t (j ∷ zs) zs
    front true xs ys zs e = ap (λ (ws : List Key). j ∷ ws) e
    front false xs ys zs e = e

shorter : (test : Key → Bool) (ks : List Key) → length (filter test ks) ≤ length ks
shorter test [] = omega arith
shorter test (j ∷ ks) =
    let rest = shorter test ks in
    elim (test j) as (λ t. length (cond t (j ∷ filter test ks) (filter test ks)) ≤ length (j ∷ ks)) [ true ↦ omega arith | false ↦ omega arith ]

fewer : (count : ℕ) (ks : List Key) → Rising ks → last_of count ks < next_of (last_of count ks) ks → length (keys_from (next_of (last_of count ks) ks) ks) < length ks
fewer count [] r l = absurd (omega arith)
fewer count (k ∷ ks) r l =
    let d = next_of (last_of count (k ∷ ks)) (k ∷ ks) in
    let le = first_taken count k ks r in
    let away : leb d (cursor_of k) ≡ false = lt-leb d (cursor_of k) (omega arith) in
    let rest = shorter (λ j. leb d (cursor_of j)) ks in
    subst (λ t. length (cond t (k ∷ keys_from d ks) (keys_from d ks)) < length (k ∷ ks)) (sym away) (omega arith)

no_next : (last : ℕ) (ks : List Key) → length ks ≤ 0 → next_of last ks ≡ 0
no_next last [] h = refl
no_next last (k ∷ ks) h = absurd (omega arith)

at_least : (c d last : ℕ) → (d ≡ 0) ⊎ (c < d) → last < d → c ≤ d
at_least c d last (inl z) l = absurd (omega arith)
at_least c d last (inr h) l = omega arith

-- a step, if those behind it answer the others
one_step : (options : ScanOptions) (m : Map) (cursor : ℕ) (steps : List (Map × ℕ))
    → (let there = keys_from cursor (map.keys m) in let d = next_of (last_of options.count there) there in
    last_of options.count there < d → iterated options d steps ≡ Some (filter (is_asked options) (keys_from d (map.keys m))))
    → iterated options cursor ((m, options.count) ∷ steps) ≡ Some (filter (is_asked options) (keys_from cursor (map.keys m)))
unfolding scan
one_step options m cursor steps again =
    let ks = map.keys m in
    let there = keys_from cursor ks in
    let last = last_of options.count there in
    let d = next_of last there in
    let rising = rising-filter (λ j. leb cursor (cursor_of j)) ks (rising-keys m) in
    let answered = filter (taken options last) there in
    elim (next_or last there) [
      | inr z ↦
          ap (λ (c : ℕ). cond {A = Option (List Key)} (eqb c 0) (Some answered) (option_map (λ xs. answered ++ xs) (iterated options d steps))) z.0
          ∙ ap (λ (xs : List Key). let o : Option (List Key) = Some xs in o) (all_taken options last there z.1)
      | inl l ↦
          let goes : eqb d 0 ≡ false = ne_eqb d 0 (λ e. omega arith) in
          let before : cursor ≤ d = at_least cursor d last (cursor_behind options.count cursor there rising (all_from cursor ks)) l in
          let same : keys_from d there ≡ keys_from d ks = narrowed cursor d ks before in
          ap (λ t. cond {A = Option (List Key)} t (Some answered) (option_map (λ xs. answered ++ xs) (iterated options d steps))) goes
          ∙ ap (option_map (λ xs. answered ++ xs)) (again l)
          ∙ ap (λ (xs : List Key). let o : Option (List Key) = Some (answered ++ filter (is_asked options) xs) in o) (sym same)
          ∙ ap (λ (xs : List Key). let o : Option (List Key) = Some xs in o) (parted options last there rising l)
    ]

whole : (options : ScanOptions) (m : Map) (n cursor : ℕ) → length (keys_from cursor (map.keys m)) ≤ n
    → iterated options cursor (repeat (suc n) ((m, options.count) ∷ [])) ≡ Some (filter (is_asked options) (keys_from cursor (map.keys m)))
whole options m zero cursor h =
    let there = keys_from cursor (map.keys m) in
    one_step options m cursor [] (λ l. let z = no_next (last_of options.count there) there h in absurd (omega arith))
whole options m (suc n) cursor h =
    let ks = map.keys m in
    let there = keys_from cursor ks in
    let last = last_of options.count there in
    let d = next_of last there in
    let rising = rising-filter (λ j. leb cursor (cursor_of j)) ks (rising-keys m) in
    one_step options m cursor (repeat (suc n) ((m, options.count) ∷ [])) (λ l.
    let before : cursor ≤ d = at_least cursor d last (cursor_behind options.count cursor there rising (all_from cursor ks)) l in
    let same : keys_from d there ≡ keys_from d ks = narrowed cursor d ks before in
    let less : length (keys_from d ks) < length there = subst (λ (xs : List Key). length xs < length there) same (fewer options.count there rising l) in
    whole options m n d (omega arith))

none_before : (ks : List Key) → AllByRecursion (λ j. 0 ≤ cursor_of j) ks
none_before [] = tt
none_before (j ∷ ks) = (omega arith, none_before ks)

pub each_once : (options : ScanOptions) (m : Map) → iterated options 0 (repeat (suc (len m)) ((m, options.count) ∷ [])) ≡ Some (filter (is_asked options) (map.keys m))
each_once options m =
    let ks = map.keys m in
    let all : keys_from 0 ks ≡ ks = all_kept 0 ks (none_before ks) in
    let many : length (keys_from 0 ks) ≡ len m = ap length all ∙ length-map (entries m) (λ e. e.0) ∙ sym (len-entries m) in
    whole options m (len m) 0 (omega arith) ∙ ap (λ (xs : List Key). let o : Option (List Key) = Some (filter (is_asked options) xs) in o) all
