-- A list has one stable sort.
use Rattle.std.proofs.Common.{◌≡◌, ℕ, suc, ◌+◌, ◌<◌, ◌≤◌, Bool, true, false, cond, not, ◌&&◌, List, [], ◌∷◌, length, refl, sym, ap, subst, ◌∙◌, arith, get_or}
use Rattle.std.specs.Prelude.{filter}
use Rattle.std.specs.List.{AllByRecursion}
use Rattle.std.specs.List.Sorted.{IsSortedBy, IsStableBy, ties}
use Rattle.std.specs.Cmp.{IsStrictWeakOrder}
use Rattle.std.specs.Cmp.{nat_cmp_total}
use Rattle.std.specs.Cmp.Lexicographic.{nat_list_cmp_total}
use Rattle.std.specs.Ordering.{is_lt}
use Rattle.std.proofs.lemmas.List.Sorted.{ranks_by, IsStrictWeakOrder-flip}
use Rattle.kv_machine.specs.declared.key_value.KeyValue.{KeyValue}
use Rattle.kv_machine.specs.declared.request.SortOrder.{SortOrder}
use Rattle.kv_machine.specs.declared.request.SortTarget.{SortTarget}
use Rattle.kv_machine.specs.declared.request.SortTarget.TheVariants as target
use Rattle.kv_machine.specs.Ranges.{inserted, sorted, compare_by, is_before, is_descending}

-- each element has none behind it that comes before it
abbrev pub Rises : {X : Type 0} → (X → X → Bool) → List X → Type 0
Rises lt [] = Unit {0}
Rises lt (x ∷ xs) = AllByRecursion (λ y. lt y x ≡ false) xs × Rises lt xs

abbrev Steps : {X : Type 0} → (X → X → Bool) → X → List X → Type 0
Steps lt x [] = Unit {0}
Steps lt x (y ∷ ys) = (lt y x ≡ false) × Steps lt y ys

both_true : (a b : Bool) → a ≡ true → b ≡ true → (a && b) ≡ true
both_true true b p q = q
both_true false b p q = p

not_false : (b : Bool) → b ≡ false → not b ≡ true
not_false true h = absurd cc
not_false false h = refl

first_false : (a b : Bool) → (not a && not b) ≡ true → a ≡ false
first_false true b h = absurd cc
first_false false b h = refl

second_false : (a b : Bool) → (not a && not b) ≡ true → b ≡ false
second_false true b h = absurd cc
second_false false true h = absurd cc
second_false false false h = refl

module _ {X : Type 0} (lt : X → X → Bool) where
  all_filter : (P : X → Type 0) (p : X → Bool) (xs : List X) → AllByRecursion P xs → AllByRecursion P (filter p xs)
  all_filter P p [] h = tt
  all_filter P p (x ∷ xs) h =
      elim (p x) as (λ b. AllByRecursion P (cond b (x ∷ filter p xs) (filter p xs))) [
        | true ↦ (h.0, all_filter P p xs h.1)
        | false ↦ all_filter P p xs h.1
      ]

  steps_of : (x : X) (xs : List X) → IsSortedBy lt (x ∷ xs) → Steps lt x xs
  steps_of x [] h = tt
  steps_of x (y ∷ ys) h = (
    h 0 x (omega arith) (omega arith),
    steps_of y ys (λ k d lo hi.
        let e : suc k + 1 ≡ suc (k + 1) = omega arith in
        let g : length (x ∷ y ∷ ys) ≡ suc (length (y ∷ ys)) = omega arith in
        subst (λ n. lt (get_or (x ∷ y ∷ ys) n d) (get_or (y ∷ ys) k d) ≡ false) e (h (suc k) d (omega arith) (omega arith))),
  )

module _ {X : Type 0} (lt : X → X → Bool) (o : IsStrictWeakOrder lt) where
  itself : (x : X) → lt x x ≡ false
  itself x = elim (lt x x) as (λ b. lt x x ≡ b → b ≡ false) [ true ↦ λ e. sym e ∙ o.one_way x x e | false ↦ λ e. refl ] refl

  all_later : (x y : X) (ys : List X) → lt y x ≡ false → AllByRecursion (λ w. lt w y ≡ false) ys → AllByRecursion (λ w. lt w x ≡ false) ys
  all_later x y [] e h = tt
  all_later x y (w ∷ ws) e h = (o.chain w y x h.0 e, all_later x y ws e h.1)

  rises_of_steps : (x : X) (xs : List X) → Steps lt x xs → Rises lt (x ∷ xs)
  rises_of_steps x [] h = (tt, tt)
  rises_of_steps x (y ∷ ys) h =
      let rest = rises_of_steps y ys h.1 in
      ((h.0, all_later x y ys h.0 rest.0), rest)

  rises_of : (xs : List X) → IsSortedBy lt xs → Rises lt xs
  rises_of [] h = tt
  rises_of (x ∷ xs) h = rises_of_steps x xs (steps_of lt x xs h)

  -- ---- an insertion keeps this, and the order of those that tie

  all_inserted : (P : X → Type 0) (x : X) (xs : List X) → P x → AllByRecursion P xs → AllByRecursion P (inserted lt x xs)
  all_inserted P x [] p h = (p, tt)
  all_inserted P x (y ∷ ys) p h =
      elim (lt y x) as (λ b. AllByRecursion P (cond b (y ∷ inserted lt x ys) (x ∷ y ∷ ys))) [
        | true ↦ (h.0, all_inserted P x ys p h.1)
        | false ↦ (p, h)
      ]

  rises_inserted : (x : X) (xs : List X) → Rises lt xs → Rises lt (inserted lt x xs)
  rises_inserted x [] h = (tt, tt)
  rises_inserted x (y ∷ ys) h =
      elim (lt y x) as (λ b. lt y x ≡ b → Rises lt (cond b (y ∷ inserted lt x ys) (x ∷ y ∷ ys))) [
        | true ↦ λ e. (all_inserted (λ w. lt w y ≡ false) x ys (o.one_way y x e) h.0, rises_inserted x ys h.1)
        | false ↦ λ e. ((e, all_later x y ys e h.0), h)
      ] refl

  rises_sorted : (xs : List X) → Rises lt (sorted lt xs)
  rises_sorted [] = tt
  rises_sorted (x ∷ xs) = rises_inserted x (sorted lt xs) (rises_sorted xs)

  passed : (s t : Bool) (x y : X) (F : List X) → (s ≡ true → t ≡ true → ⊥)
      → cond t (y ∷ cond s (x ∷ F) F) (cond s (x ∷ F) F) ≡ cond s (x ∷ cond t (y ∷ F) F) (cond t (y ∷ F) F)
  passed true true x y F h = absurd (h refl refl)
  passed true false x y F h = refl
  passed false true x y F h = refl
  passed false false x y F h = refl

  apart : (a x y : X) → lt y x ≡ true → ties lt a x ≡ true → ties lt a y ≡ true → ⊥
  apart a x y e s t =
      let no = o.chain y a x (second_false (lt a y) (lt y a) t) (first_false (lt a x) (lt x a) s) in
      let false_true : false ≡ true = sym no ∙ e in
      absurd cc

  stable_inserted : (a x : X) (xs : List X) → filter (ties lt a) (inserted lt x xs) ≡ filter (ties lt a) (x ∷ xs)
  stable_inserted a x [] = refl
  stable_inserted a x (y ∷ ys) =
      elim (lt y x) as (λ b. lt y x ≡ b → filter (ties lt a) (cond b (y ∷ inserted lt x ys) (x ∷ y ∷ ys)) ≡ filter (ties lt a) (x ∷ y ∷ ys)) [
        | true ↦ λ e. ap (λ (F : List X). cond (ties lt a y) (y ∷ F) F) (stable_inserted a x ys)
            ∙ passed (ties lt a x) (ties lt a y) x y (filter (ties lt a) ys) (apart a x y e)
        | false ↦ λ e. refl
      ] refl

  stable_sorted : (a : X) (xs : List X) → filter (ties lt a) (sorted lt xs) ≡ filter (ties lt a) xs
  stable_sorted a [] = refl
  stable_sorted a (x ∷ xs) =
      stable_inserted a x (sorted lt xs) ∙ ap (λ (F : List X). cond (ties lt a x) (x ∷ F) F) (stable_sorted a xs)

  -- ---- two lists that rise, and have those that tie in the same order

  ties_itself : (x : X) → ties lt x x ≡ true
  ties_itself x = both_true _ _ (not_false _ (itself x)) (not_false _ (itself x))

  head_passes : (x : X) (xs : List X) → filter (ties lt x) (x ∷ xs) ≡ x ∷ filter (ties lt x) xs
  head_passes x xs = ap (λ b. cond b (x ∷ filter (ties lt x) xs) (filter (ties lt x) xs)) (ties_itself x)

  tail_same : (b : Bool) (x : X) (xs ys : List X) → cond b (x ∷ xs) xs ≡ cond b (x ∷ ys) ys → xs ≡ ys
  tail_same true x xs ys e = cc
  tail_same false x xs ys e = e

  -- the head of one isn't before the head of the other
  not_before : (y z : X) (ys zs : List X) → Rises lt (z ∷ zs) → filter (ties lt y) (y ∷ ys) ≡ filter (ties lt y) (z ∷ zs) → lt y z ≡ false
  not_before y z ys zs s e =
      let all : AllByRecursion (λ w. lt w z ≡ false) (filter (ties lt y) (z ∷ zs)) = all_filter lt (λ w. lt w z ≡ false) (ties lt y) (z ∷ zs) (itself z, s.0) in
      (subst (λ (ws : List X). AllByRecursion (λ w. lt w z ≡ false) ws) (sym e ∙ head_passes y ys) all).0

  same_head : (y z : X) (ys zs : List X) → ties lt y z ≡ true → filter (ties lt y) (y ∷ ys) ≡ filter (ties lt y) (z ∷ zs) → y ≡ z
  same_head y z ys zs t e =
      let one : y ∷ filter (ties lt y) ys ≡ z ∷ filter (ties lt y) zs =
      sym (head_passes y ys) ∙ e ∙ ap (λ b. cond b (z ∷ filter (ties lt y) zs) (filter (ties lt y) zs)) t in
      cc

  pub same_sorted : (ys zs : List X) → Rises lt ys → Rises lt zs → ((x : X) → filter (ties lt x) ys ≡ filter (ties lt x) zs) → ys ≡ zs
  same_sorted [] [] r s e = refl
  same_sorted [] (z ∷ zs) r s e = let no : [] ≡ z ∷ filter (ties lt z) zs = e z ∙ head_passes z zs in absurd cc
  same_sorted (y ∷ ys) [] r s e = let no : [] ≡ y ∷ filter (ties lt y) ys = sym (e y) ∙ head_passes y ys in absurd cc
  same_sorted (y ∷ ys) (z ∷ zs) r s e =
      let yz = not_before y z ys zs s (e y) in
      let zy = not_before z y zs ys r (sym (e z)) in
      let same : y ≡ z = same_head y z ys zs (both_true _ _ (not_false _ yz) (not_false _ zy)) (e y) in
      let rest : ys ≡ zs = same_sorted ys zs r.1 s.1 (λ x.
      tail_same (ties lt x y) y _ _ (e x ∙ ap (λ (w : X). cond (ties lt x w) (w ∷ filter (ties lt x) zs) (filter (ties lt x) zs)) (sym same))) in
      ap (λ w. w ∷ ys) same ∙ ap (λ ws. z ∷ ws) rest

  pub sort_is : (xs ys : List X) → IsSortedBy lt ys → IsStableBy lt xs ys → ys ≡ sorted lt xs
  sort_is xs ys s t = same_sorted ys (sorted lt xs) (rises_of ys s) (rises_sorted xs) (λ x. t x ∙ sym (stable_sorted x xs))

-- ---- what keys are sorted by

pub weak : (t : SortTarget) → IsStrictWeakOrder (λ a b. is_lt (compare_by t a b))
weak target.Key = ranks_by nat_list_cmp_total (λ (kv : KeyValue). kv.key)
weak target.Version = ranks_by nat_cmp_total (λ (kv : KeyValue). kv.stored.version)
weak target.Create = ranks_by nat_cmp_total (λ (kv : KeyValue). kv.stored.create_revision)
weak target.Mod = ranks_by nat_cmp_total (λ (kv : KeyValue). kv.stored.mod_revision)
weak target.Value = ranks_by nat_list_cmp_total (λ (kv : KeyValue). kv.stored.value)

pub weak_down : (t : SortTarget) → IsStrictWeakOrder (λ a b. is_lt (compare_by t b a))
weak_down t = IsStrictWeakOrder-flip (λ a b. is_lt (compare_by t a b)) (weak t)

pub sorted_up : (o : SortOrder) (t : SortTarget) (kvs : List KeyValue) → is_descending o ≡ false → sorted (λ a b. is_lt (compare_by t a b)) kvs ≡ sorted (is_before o t) kvs
sorted_up o t kvs h = ap (λ d. sorted (λ a b. cond d (is_lt (compare_by t b a)) (is_lt (compare_by t a b))) kvs) (sym h)

pub sorted_down : (o : SortOrder) (t : SortTarget) (kvs : List KeyValue) → is_descending o ≡ true → sorted (λ a b. is_lt (compare_by t b a)) kvs ≡ sorted (is_before o t) kvs
sorted_down o t kvs h = ap (λ d. sorted (λ a b. cond d (is_lt (compare_by t b a)) (is_lt (compare_by t a b))) kvs) (sym h)
