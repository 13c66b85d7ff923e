-- What is asked of a ranking finds the granted value, which stays where a value stays on one side of it.
use Rattle.std.specs.Prelude.{◌≡◌, Bool, true, false, List, [], ◌∷◌, ◌++◌, Option, None, Some, Contains, map, filter, find, fold, unwrap_or, refl, length, not, ◌&&◌, ◌||◌, ⊤}
use Rattle.std.specs.List.{AllByRecursion, list_all}
use Rattle.std.specs.List.Sorted.{IsPermutation}
use Rattle.std.specs.Option.{option_map}
use Rattle.std.specs.declared.cmp.Ordering.{Ordering}
use Rattle.std.specs.declared.cmp.Ordering.TheVariants.{Less, Equal, Greater}
use Rattle.std.specs.Cmp.{IsTotalOrder, Equal-is, upto, tied_itself, alike_right}
use Rattle.std.specs.Ordering.{is_eq, is_lt, is_ge, is_gt, ordering_reverse}
use Rattle.std.proofs.Common.{sym, ap, ◌∙◌, cond, arith, inl, inr, ⊎_elim, ◌⊎◌, subst, suc, zero, ℕ, ◌+◌, ◌≤◌, take, get_or}
use Rattle.std.proofs.lemmas.List.{length-map, length-take}
use Rattle.std.proofs.lemmas.List.Elements.{All-from_recursion, recursion_from_All}
use Rattle.std.proofs.lemmas.List.Sorted.{All-permutation, IsPermutation-sym, IsPermutation-map, IsPermutation-trans, sorted_far, ranks_by, IsStrictWeakOrder-flip}
use Rattle.std.proofs.lemmas.Map.Views.{tells_apart}
use Rattle.raft_state.specs.Sorted.{has_id}
use Rattle.raft_progress.specs.QuorumLaws.{contains_from_has, has_from_contains}
use Rattle.raft_progress.specs.Table.{is_above, greater, holders, granted_among, measures, is_row_of, with_value}
use Rattle.raft_progress.specs.Ranking.{IsFalling, IsRanking, first_reached, first_equal, same_side, row_stays}

falsum : {A : Type 0} → true ≡ false → A
falsum e = absurd cc

or_left : (a b : Bool) → a ≡ true → (a || b) ≡ true
or_left true b e = refl
or_left false b e = falsum (sym e)

or_right : (a b : Bool) → b ≡ true → (a || b) ≡ true
or_right true b e = refl
or_right false b e = e

or_cases : {A : Type 0} (a b : Bool) → (a ≡ true → A) → (b ≡ true → A) → (a || b) ≡ true → A
or_cases true b f g h = f refl
or_cases false b f g h = g h

and_parts : (a b : Bool) → (a && b) ≡ true → (a ≡ true) × (b ≡ true)
and_parts true b h = (refl, h)
and_parts false b h = falsum (sym h)

unless : (b : Bool) → (b ≡ true → ⊥) → b ≡ false
unless true f = absurd (f refl)
unless false f = refl

turned_gt : (r : Ordering) → is_ge r ≡ true → is_gt (ordering_reverse r) ≡ false
turned_gt Less e = falsum (sym e)
turned_gt Equal e = refl
turned_gt Greater e = refl

turned_ge : (r : Ordering) → is_gt (ordering_reverse r) ≡ false → is_ge r ≡ true
turned_ge Less e = falsum e
turned_ge Equal e = refl
turned_ge Greater e = refl

not_lt : (r : Ordering) → is_lt r ≡ false → is_ge r ≡ true
not_lt Less e = falsum e
not_lt Equal e = refl
not_lt Greater e = refl

never_both : {A : Type 0} (r : Ordering) → is_lt r ≡ true → is_ge r ≡ true → A
never_both Less e h = falsum (sym h)
never_both Equal e h = falsum (sym e)
never_both Greater e h = falsum (sym e)

lt_not_eq : (r : Ordering) → is_lt r ≡ true → is_eq r ≡ false
lt_not_eq Less e = refl
lt_not_eq Equal e = falsum (sym e)
lt_not_eq Greater e = refl

turned_not_eq : (r : Ordering) → is_lt r ≡ true → is_eq (ordering_reverse r) ≡ false
turned_not_eq Less e = refl
turned_not_eq Equal e = falsum (sym e)
turned_not_eq Greater e = falsum (sym e)

turned_not_lt : (r : Ordering) → is_lt r ≡ true → is_ge (ordering_reverse r) ≡ true
turned_not_lt Less e = refl
turned_not_lt Equal e = falsum (sym e)
turned_not_lt Greater e = falsum (sym e)

both_by : {X : Type 0} (P Q R : X → Type 0) → ((x : X) → P x → Q x → R x) → (xs : List X) → AllByRecursion P xs → AllByRecursion Q xs → AllByRecursion R xs
both_by P Q R f [] p q = tt
both_by P Q R f (x ∷ xs) p q = (f x p.0 q.0, both_by P Q R f xs p.1 q.1)

every : {X : Type 0} (P : X → Type 0) → ((x : X) → P x) → (xs : List X) → AllByRecursion P xs
every P f [] = tt
every P f (x ∷ xs) = (f x, every P f xs)

take_map : {A B : Type 0} (f : A → B) (n : ℕ) (xs : List A) → take n (map f xs) ≡ map f (take n xs)
take_map f zero xs = refl
take_map f (suc n) [] = refl
take_map f (suc n) (x ∷ xs) = ap (λ ys. f x ∷ ys) (take_map f n xs)

module _ {ID P : Type 0} (id_cmp : ID → ID → Ordering) (id_total : IsTotalOrder id_cmp) (exact : (a b : ID) → id_cmp a b ≡ Equal → a ≡ b) (cmp : P → P → Ordering) (total : IsTotalOrder cmp) where
  abbrev Has : List ID → ID → Type 0
  Has ids id = has_id id_cmp ids id ≡ true

  abbrev Ge : P → P → Type 0
  Ge a b = is_ge (cmp a b) ≡ true

  abbrev Lt : P → P → Type 0
  Lt a b = is_lt (cmp a b) ≡ true

  turn : (a b : P) → is_gt (cmp b a) ≡ false → Ge a b
  turn a b e = turned_ge (cmp a b) (ap is_gt (sym (total.antisymm b a)) ∙ e)

  ge_itself : (a : P) → Ge a a
  ge_itself a = ap is_ge (tied_itself total a)

  ge_trans : (a b c : P) → Ge a b → Ge b c → Ge a c
  ge_trans a b c h k = turn a c (upto total c b a (ap is_gt (total.antisymm c b) ∙ turned_gt (cmp b c) k) (ap is_gt (total.antisymm b a) ∙ turned_gt (cmp a b) h))

  ge_from_lt : (a b : P) → Lt b a → Ge a b
  ge_from_lt a b e = ap is_ge (total.antisymm a b) ∙ turned_not_lt (cmp b a) e

  lt_or_ge : (a b : P) → Lt a b ⊎ Ge a b
  lt_or_ge a b = go (is_lt (cmp a b)) refl where
    go : (c : Bool) → is_lt (cmp a b) ≡ c → Lt a b ⊎ Ge a b
    go true e = inl e
    go false e = inr (not_lt (cmp a b) e)

  -- a < b, b ≤ c
  lt_up : (a b c : P) → Lt a b → Ge c b → Lt a c
  lt_up a b c h k = ⊎_elim (λ (e : Lt a c). e) (λ (e : Ge a c). never_both (cmp a b) h (ge_trans a c b e k)) (lt_or_ge a c)

  equal_ge : (a b : P) → cmp a b ≡ Equal → Ge a b
  equal_ge a b e = ap is_ge e

  -- an id of the ids behind which one stands
  has_pushed : (ids : List ID) (one id : ID) → Has (ids ++ one ∷ []) id → Has ids id ⊎ (id ≡ one)
  has_pushed [] one id h = or_cases (is_eq (id_cmp id one)) false (λ e. inr (tells_apart exact id one e)) (λ e. falsum (sym e)) h
  has_pushed (x ∷ xs) one id h =
      or_cases (is_eq (id_cmp id x)) (has_id id_cmp (xs ++ one ∷ []) id)
      (λ e. inl (or_left (is_eq (id_cmp id x)) (has_id id_cmp xs id) e))
      (λ e. ⊎_elim (λ (k : Has xs id). inl (or_right (is_eq (id_cmp id x)) (has_id id_cmp xs id) k)) (λ k. inr k) (has_pushed xs one id e))
      h

  pushed_old : (ids : List ID) (one id : ID) → Has ids id → Has (ids ++ one ∷ []) id
  pushed_old [] one id h = falsum (sym h)
  pushed_old (x ∷ xs) one id h =
      or_cases (is_eq (id_cmp id x)) (has_id id_cmp xs id)
      (λ e. or_left (is_eq (id_cmp id x)) (has_id id_cmp (xs ++ one ∷ []) id) e)
      (λ e. or_right (is_eq (id_cmp id x)) (has_id id_cmp (xs ++ one ∷ []) id) (pushed_old xs one id e)) h

  pushed_new : (ids : List ID) (one id : ID) → is_eq (id_cmp id one) ≡ true → Has (ids ++ one ∷ []) id
  pushed_new [] one id h = or_left (is_eq (id_cmp id one)) false h
  pushed_new (x ∷ xs) one id h = or_right (is_eq (id_cmp id x)) (has_id id_cmp (xs ++ one ∷ []) id) (pushed_new xs one id h)

  module _ {W : Type 0} (m : W → P) where
    abbrev Holders : List (ID × W) → P → List ID
    Holders rows p = holders cmp m rows p

    -- what passes is held
    holder_step : (row : ID × W) (rows : List (ID × W)) (p : P) (id : ID) (b : Bool) → is_ge (cmp (m row.1) p) ≡ b → (Has (map (λ row. row.0) (cond b (row ∷ filter (λ row. is_ge (cmp (m row.1) p)) rows) (filter (λ row. is_ge (cmp (m row.1) p)) rows))) id) → ((Ge (m row.1) p) × (is_eq (id_cmp id row.0) ≡ true)) ⊎ Has (Holders rows p) id
    holder_step row rows p id true e h = or_cases (is_eq (id_cmp id row.0)) (has_id id_cmp (Holders rows p) id) (λ k. inl (e, k)) (λ k. inr k) h
    holder_step row rows p id false e h = inr h

    holder_cases : (row : ID × W) (rows : List (ID × W)) (p : P) (id : ID) → Has (Holders (row ∷ rows) p) id → ((Ge (m row.1) p) × (is_eq (id_cmp id row.0) ≡ true)) ⊎ Has (Holders rows p) id
    holder_cases row rows p id h = holder_step row rows p id (is_ge (cmp (m row.1) p)) refl h

    holder_here : (row : ID × W) (rows : List (ID × W)) (p : P) (id : ID) → Ge (m row.1) p → is_eq (id_cmp id row.0) ≡ true → Has (Holders (row ∷ rows) p) id
    holder_here row rows p id g e = rw g (or_left (is_eq (id_cmp id row.0)) (has_id id_cmp (Holders rows p) id) e)

    there_step : (row : ID × W) (rows : List (ID × W)) (p : P) (id : ID) (b : Bool) → Has (Holders rows p) id → Has (map (λ row. row.0) (cond b (row ∷ filter (λ row. is_ge (cmp (m row.1) p)) rows) (filter (λ row. is_ge (cmp (m row.1) p)) rows))) id
    there_step row rows p id true h = or_right (is_eq (id_cmp id row.0)) (has_id id_cmp (Holders rows p) id) h
    there_step row rows p id false h = h

    holder_there : (row : ID × W) (rows : List (ID × W)) (p : P) (id : ID) → Has (Holders rows p) id → Has (Holders (row ∷ rows) p) id
    holder_there row rows p id h = there_step row rows p id (is_ge (cmp (m row.1) p)) h

    -- each row that has reached p is a holder
    abbrev HeldIn : List ID → P → ID × W → Type 0
    HeldIn ids p row = (id : ID) → Ge (m row.1) p → is_eq (id_cmp id row.0) ≡ true → Has ids id

    held_more : (row : ID × W) (all : List (ID × W)) (p : P) (rows : List (ID × W)) → AllByRecursion (HeldIn (Holders all p) p) rows → AllByRecursion (HeldIn (Holders (row ∷ all) p) p) rows
    held_more row all p [] h = tt
    held_more row all p (x ∷ rows) h = ((λ id g e. holder_there row all p id (h.0 id g e)), held_more row all p rows h.1)

    held : (p : P) (rows : List (ID × W)) → AllByRecursion (HeldIn (Holders rows p) p) rows
    held p [] = tt
    held p (row ∷ rows) = ((λ id g e. holder_here row rows p id g e), held_more row rows p rows (held p rows))

    -- the holders are among ids where each row that has reached p is
    within : (ids : List ID) (p : P) (rows : List (ID × W)) → AllByRecursion (HeldIn ids p) rows → (id : ID) → Has (Holders rows p) id → Has ids id
    within ids p [] a id h = falsum (sym h)
    within ids p (row ∷ rows) a id h = ⊎_elim (λ (k : (Ge (m row.1) p) × (is_eq (id_cmp id row.0) ≡ true)). a.0 id k.0 k.1) (λ k. within ids p rows a.1 id k) (holder_cases row rows p id h)

    -- the first equal value
    equal_step : (p : P) (row : ID × W) (rows : List (ID × W)) (b : Bool) → is_eq (cmp (m row.1) p) ≡ b → ((y : P) × (first_equal cmp m p rows ≡ Some y)) ⊎ (is_eq (cmp (m row.1) p) ≡ true) → (y : P) × (option_map (λ row. m row.1) (cond b (Some row) (find (λ row. is_eq (cmp (m row.1) p)) rows)) ≡ Some y)
    equal_step p row rows true e h = (m row.1, refl)
    equal_step p row rows false e h = ⊎_elim (λ (k : (y : P) × (first_equal cmp m p rows ≡ Some y)). k) (λ k. falsum (sym k ∙ e)) h

    abbrev HasEqual : P → List (ID × W) → Type 0
    HasEqual p rows = (y : P) × (first_equal cmp m p rows ≡ Some y)

    equal_more : (row : ID × W) (all : List (ID × W)) (rows : List (ID × W)) → AllByRecursion (λ x. HasEqual (m x.1) all) rows → AllByRecursion (λ x. HasEqual (m x.1) (row ∷ all)) rows
    equal_more row all [] h = tt
    equal_more row all (x ∷ rows) h = (equal_step (m x.1) row all (is_eq (cmp (m row.1) (m x.1))) refl (inl h.0), equal_more row all rows h.1)

    equals : (rows : List (ID × W)) → AllByRecursion (λ x. HasEqual (m x.1) rows) rows
    equals [] = tt
    equals (row ∷ rows) = (equal_step (m row.1) row rows (is_eq (cmp (m row.1) (m row.1))) refl (inr (ap is_eq (tied_itself total (m row.1)))), equal_more row rows rows (equals rows))

    is_equal_step : (p y : P) (row : ID × W) (rows : List (ID × W)) (b : Bool) → is_eq (cmp (m row.1) p) ≡ b → (first_equal cmp m p rows ≡ Some y → is_eq (cmp y p) ≡ true) → option_map (λ row. m row.1) (cond b (Some row) (find (λ row. is_eq (cmp (m row.1) p)) rows)) ≡ Some y → is_eq (cmp y p) ≡ true
    is_equal_step p y row rows true e rest h = let s : m row.1 ≡ y = ap (λ o. unwrap_or o p) h in rw (sym s) e
    is_equal_step p y row rows false e rest h = rest h

    -- it is equal
    is_equal : (p y : P) (rows : List (ID × W)) → first_equal cmp m p rows ≡ Some y → is_eq (cmp y p) ≡ true
    is_equal p y [] h = absurd cc
    is_equal p y (row ∷ rows) h = is_equal_step p y row rows (is_eq (cmp (m row.1) p)) refl (is_equal p y rows) h

    -- equal values have the same first one
    same_first : (p y : P) (rows : List (ID × W)) → cmp y p ≡ Equal → first_equal cmp m y rows ≡ first_equal cmp m p rows
    same_first p y rows e = λ i. option_map (λ row. m row.1) (find (λ row. is_eq (alike_right total y p (m row.1) e i)) rows)

    module _ (q : P → Bool) where
      abbrev Over : Option P → List (ID × W) → Option P
      Over o rows = fold (greater cmp) o (filter q (map (λ row. m row.1) rows))

      abbrev NoneAbove : P → ID × W → Type 0
      NoneAbove p row = Lt p (m row.1) → q (m row.1) ≡ false

      stays_step : (p y : P) (row : ID × W) (rows : List (ID × W)) (b : Bool) → cmp y p ≡ Equal → q (m row.1) ≡ b → NoneAbove p row → Over (Some y) rows ≡ Some y → fold (greater cmp) (Some y) (cond b (m row.1 ∷ filter q (map (λ row. m row.1) rows)) (filter q (map (λ row. m row.1) rows))) ≡ Some y
      stays_step p y row rows true c e none rest =
          let low : is_lt (cmp y (m row.1)) ≡ false = unless (is_lt (cmp y (m row.1))) (λ h. falsum (sym e ∙ none (ap is_lt (sym (total.congr y p (m row.1) c)) ∙ h))) in
          subst (λ c. fold (greater cmp) (cond c (Some (m row.1)) (Some y)) (filter q (map (λ row. m row.1) rows)) ≡ Some y) (sym low) rest
      stays_step p y row rows false c e none rest = rest

      stays : (p y : P) (rows : List (ID × W)) → cmp y p ≡ Equal → AllByRecursion (NoneAbove p) rows → Over (Some y) rows ≡ Some y
      stays p y [] c a = refl
      stays p y (row ∷ rows) c a = stays_step p y row rows (q (m row.1)) c refl a.0 (stays p y rows c a.1)

      abbrev Below : Option P → P → Type 0
      Below None p = ⊤
      Below (Some x) p = Lt x p

      above_below : (o : Option P) (p x : P) → Below o p → Ge x p → is_above cmp o x ≡ true
      above_below None p x h e = refl
      above_below (Some z) p x h e = lt_up z p x h e

      below_step : (o : Option P) (p x : P) (b : Bool) → Below o p → Lt x p → Below (cond b (Some x) o) p
      below_step o p x true h k = k
      below_step o p x false h k = h

      abbrev Picks : P → P → List (ID × W) → Type 0
      Picks p y rows = (o : Option P) → Below o p → first_equal cmp m p rows ≡ Some y → AllByRecursion (NoneAbove p) rows → Over o rows ≡ Some y

      pick_low : (p y : P) (row : ID × W) (rows : List (ID × W)) (o : Option P) (b : Bool) → Picks p y rows → AllByRecursion (NoneAbove p) rows → Below o p → Lt (m row.1) p → first_equal cmp m p rows ≡ Some y
          → fold (greater cmp) o (cond b (m row.1 ∷ filter q (map (λ row. m row.1) rows)) (filter q (map (λ row. m row.1) rows))) ≡ Some y
      pick_low p y row rows o true rest a h k f = rest (greater cmp o (m row.1)) (below_step o p (m row.1) (is_above cmp o (m row.1)) h k) f a
      pick_low p y row rows o false rest a h k f = rest o h f a

      pick_step : (p y : P) (row : ID × W) (rows : List (ID × W)) (o : Option P) (r : Ordering) → cmp (m row.1) p ≡ r
          → ((x : P) → cmp x p ≡ Equal → q x ≡ true)
          → Picks p y rows → Below o p
          → option_map (λ row. m row.1) (cond (is_eq r) (Some row) (find (λ row. is_eq (cmp (m row.1) p)) rows)) ≡ Some y
          → NoneAbove p row → AllByRecursion (NoneAbove p) rows → Over o (row ∷ rows) ≡ Some y
      pick_step p y row rows o Less e reached rest h f none a = pick_low p y row rows o (q (m row.1)) rest a h (ap is_lt e) f
      pick_step p y row rows o Equal e reached rest h f none a =
          let s : m row.1 ≡ y = ap (λ o. unwrap_or o p) f in
          rw (reached (m row.1) e) (subst (λ c. fold (greater cmp) (cond c (Some (m row.1)) o) (filter q (map (λ row. m row.1) rows)) ≡ Some y) (sym (above_below o p (m row.1) h (equal_ge (m row.1) p e))) (stays p (m row.1) rows e a ∙ ap Some s))
      pick_step p y row rows o Greater e reached rest h f none a =
          rw (none (ap is_lt (total.antisymm p (m row.1) ∙ ap ordering_reverse e))) (rest o h f a)

      -- the greatest that passes is the first of its value
      picks : (p y : P) → ((x : P) → cmp x p ≡ Equal → q x ≡ true) → (rows : List (ID × W)) → Picks p y rows
      picks p y reached [] o h f a = absurd cc
      picks p y reached (row ∷ rows) o h f a = pick_step p y row rows o (cmp (m row.1) p) refl reached (picks p y reached rows) h f a.0 a.1

      -- nothing is the greatest where nothing passes
      nothing_step : (row : ID × W) (rows : List (ID × W)) (b : Bool) → q (m row.1) ≡ b → q (m row.1) ≡ false → Over None rows ≡ None → fold (greater cmp) None (cond b (m row.1 ∷ filter q (map (λ row. m row.1) rows)) (filter q (map (λ row. m row.1) rows))) ≡ None
      nothing_step row rows true e f rest = falsum (sym e ∙ f)
      nothing_step row rows false e f rest = rest

      nothing : (rows : List (ID × W)) → AllByRecursion (λ row. q (m row.1) ≡ false) rows → Over None rows ≡ None
      nothing [] a = refl
      nothing (row ∷ rows) a = nothing_step row rows (q (m row.1)) refl a.0 (nothing rows a.1)

  all_mapped : {A B : Type 0} (f : A → B) (F : B → Type 0) (xs : List A) → AllByRecursion (λ x. F (f x)) xs → AllByRecursion F (map f xs)
  all_mapped f F [] a = tt
  all_mapped f F (x ∷ xs) a = (a.0, all_mapped f F xs a.1)

  mapped_all : {A B : Type 0} (f : A → B) (F : B → Type 0) (xs : List A) → AllByRecursion F (map f xs) → AllByRecursion (λ x. F (f x)) xs
  mapped_all f F [] a = tt
  mapped_all f F (x ∷ xs) a = (a.0, mapped_all f F xs a.1)

  for_each : {A B : Type 0} (F : A → B → Type 0) (xs : List B) → ((a : A) → AllByRecursion (F a) xs) → AllByRecursion (λ x. (a : A) → F a x) xs
  for_each F [] h = tt
  for_each F (x ∷ xs) h = ((λ a. (h a).0), for_each F xs (λ a. (h a).1))

  -- each voter's value is at least those after it
  Falls : List (ID × P) → Type 0
  Falls [] = ⊤
  Falls (s ∷ ss) = AllByRecursion (λ t. Ge s.1 t.1) ss × Falls ss

  module _ {V Q : Type 0} (is_quorum : Q → List ID → Bool) (grows : (set : Q) (few many : List ID) → ((id : ID) → Contains few id → Contains many id) → is_quorum set few ≡ true → is_quorum set many ≡ true) (measure : V → P) (set : Q) where
    enough : (few many : List ID) → ((id : ID) → Has few id → Has many id) → is_quorum set few ≡ true → is_quorum set many ≡ true
    enough few many f h = grows set few many (λ id c. contains_from_has id_cmp exact many id (f id (has_from_contains id_cmp exact id_total few id c))) h

    abbrev Reaches : List (ID × V) → P → Bool
    Reaches rows x = is_quorum set (holders cmp measure rows x)

    abbrev Unreached : List (ID × V) → P → Type 0
    Unreached rows x = (id : ID) → Has (holders cmp measure rows x) id → Reaches rows x ≡ false

    abbrev IsReached : List (ID × V) → Option P → Type 0
    IsReached rows None = (x : P) → Unreached rows x
    IsReached rows (Some p) = (Reaches rows p ≡ true) × HasEqual measure p rows × ((x : P) → Lt p x → Unreached rows x)

    abbrev Stands : List (ID × V) → ID × P → Type 0
    Stands rows s = ((p : P) (id : ID) → Ge s.1 p → is_eq (id_cmp id s.0) ≡ true → Has (holders cmp measure rows p) id) × HasEqual measure s.1 rows

    named : (id one : ID) → id ≡ one → is_eq (id_cmp id one) ≡ true
    named id one e = ap (λ x. is_eq (id_cmp x one)) e ∙ ap is_eq (tied_itself id_total one)

    abbrev ranked_holders : List (ID × P) → P → List ID
    ranked_holders ss p = holders cmp (λ x. x) ss p

    unreached : (rows : List (ID × V)) (ids : List ID) (x : P) → ((id : ID) → Has ids id → is_quorum set ids ≡ false) → ((id : ID) → Has (holders cmp measure rows x) id → Has ids id) → Unreached rows x
    unreached rows ids x asked f id h = unless (Reaches rows x) (λ e. falsum (sym (enough (holders cmp measure rows x) ids f e) ∙ asked id (f id h)))

    module _ (rows : List (ID × V)) where
      walk_step : (ids : List ID) (s : ID × P) (ss : List (ID × P)) (b : Bool) → is_quorum set (ids ++ s.0 ∷ []) ≡ b
          → Stands rows s
          → AllByRecursion (λ t. Ge s.1 t.1) ss
          → ((id : ID) → Has ids id → Has (holders cmp measure rows s.1) id)
          → ((p : P) (id : ID) → Has (holders cmp measure rows p) id → Has ids id ⊎ Has (ranked_holders (s ∷ ss) p) id)
          → ((id : ID) → Has ids id → is_quorum set ids ≡ false)
          → (b ≡ false → IsReached rows (first_reached is_quorum set (ids ++ s.0 ∷ []) ss))
          → IsReached rows (cond b (Some s.1) (first_reached is_quorum set (ids ++ s.0 ∷ []) ss))
      walk_step ids s ss true e stands falls done out asked rest = (
        enough (ids ++ s.0 ∷ []) (holders cmp measure rows s.1) (λ id h. ⊎_elim (λ (k : Has ids id). done id k) (λ (k : id ≡ s.0). stands.0 s.1 id (ge_itself s.1) (named id s.0 k)) (has_pushed ids s.0 id h)) e,
        stands.1,
        λ x lt. unreached rows ids x asked (λ id h. ⊎_elim (λ (k : Has ids id). k)
            (λ (k : Has (ranked_holders (s ∷ ss) x) id). falsum (sym (within (λ x. x) [] x (s ∷ ss)
            ((λ id g i. never_both (cmp s.1 x) lt g), both_by (λ t. Ge s.1 t.1) (λ t. ⊤) (HeldIn (λ x. x) [] x) (λ t f u id g i. never_both (cmp s.1 x) lt (ge_trans s.1 t.1 x f g)) ss falls (every (λ t. ⊤) (λ t. tt) ss)) id k)))
            (out x id h)),
      )
      walk_step ids s ss false e stands falls done out asked rest = rest refl

      walk : (ids : List ID) (ss : List (ID × P))
          → AllByRecursion (Stands rows) ss → Falls ss
          → AllByRecursion (λ t. (id : ID) → Has ids id → Has (holders cmp measure rows t.1) id) ss
          → ((p : P) (id : ID) → Has (holders cmp measure rows p) id → Has ids id ⊎ Has (ranked_holders ss p) id)
          → ((id : ID) → Has ids id → is_quorum set ids ≡ false)
          → IsReached rows (first_reached is_quorum set ids ss)
      unfolding Falls
      walk ids [] all falls done out asked = λ x. unreached rows ids x asked (λ id h. ⊎_elim (λ (k : Has ids id). k) (λ (k : Has [] id). falsum (sym k)) (out x id h))
      walk ids (s ∷ ss) all falls done out asked =
          walk_step ids s ss (is_quorum set (ids ++ s.0 ∷ [])) refl all.0 falls.0 done.0 out asked
          (λ e. walk (ids ++ s.0 ∷ []) ss all.1 falls.1
          (both_by (λ t. (id : ID) → Has ids id → Has (holders cmp measure rows t.1) id) (λ t. Ge s.1 t.1) (λ t. (id : ID) → Has (ids ++ s.0 ∷ []) id → Has (holders cmp measure rows t.1) id)
          (λ t d f id h. ⊎_elim (λ (k : Has ids id). d id k) (λ (k : id ≡ s.0). all.0.0 t.1 id f (named id s.0 k)) (has_pushed ids s.0 id h)) ss done.1 falls.0)
          (λ p id h. ⊎_elim (λ (k : Has ids id). inl (pushed_old ids s.0 id k))
          (λ (k : Has (ranked_holders (s ∷ ss) p) id). ⊎_elim (λ (j : (Ge s.1 p) × (is_eq (id_cmp id s.0) ≡ true)). inl (pushed_new ids s.0 id j.1)) (λ j. inr j) (holder_cases (λ x. x) s ss p id k))
          (out p id h))
          (λ id h. e))

      stands : AllByRecursion (Stands rows) (measures measure rows)
      stands = all_mapped (λ row. (row.0, measure row.1)) (Stands rows) rows
          (both_by (λ r. (p : P) → HeldIn measure (holders cmp measure rows p) p r) (λ r. HasEqual measure (measure r.1) rows) (λ r. Stands rows (r.0, measure r.1))
          (λ r h e. ((λ p id g i. h p id g i), e)) rows
          (for_each (λ p r. HeldIn measure (holders cmp measure rows p) p r) rows (λ p. held measure p rows))
          (equals measure rows))

      falls_from : (ss : List (ID × P)) → IsFalling cmp ss → Falls ss
      unfolding Falls
      falls_from [] up = tt
      falls_from (s ∷ ss) up = (
        recursion_from_All (λ t. Ge s.1 t.1) ss (λ k d h. not_lt (cmp s.1 _) (sorted_far (λ later earlier. is_lt (cmp earlier.1 later.1)) (IsStrictWeakOrder-flip (λ (x y : ID × P). is_lt (cmp x.1 y.1)) (ranks_by total (λ (x : ID × P). x.1))) (s ∷ ss) up 0 (suc k) d (omega arith) (omega arith))),
        falls_from ss (λ k d l h.
            let next : suc k + 1 ≡ suc (k + 1) = omega arith in
            subst (λ j. is_lt (cmp (get_or ss k d).1 (get_or (s ∷ ss) j d).1) ≡ false) next (up (suc k) d (omega arith) (omega arith))),
      )

      -- what is found over a ranking is reached, and nothing above it is
      ranking_reaches : (ss : List (ID × P)) → IsRanking cmp (measures measure rows) ss → IsReached rows (first_reached is_quorum set [] ss)
      ranking_reaches ss r =
          walk [] ss
          (recursion_from_All (Stands rows) ss (All-permutation (Stands rows) (measures measure rows) ss r.same (All-from_recursion (Stands rows) (measures measure rows) stands)))
          (falls_from ss r.falling)
          (every (λ t. (id : ID) → Has [] id → Has (holders cmp measure rows t.1) id) (λ t id h. falsum (sym h)) ss)
          (λ p id h. inr (within measure (ranked_holders ss p) p rows
          (mapped_all (λ row. (row.0, measure row.1)) (HeldIn (λ x. x) (ranked_holders ss p) p) rows
          (recursion_from_All (HeldIn (λ x. x) (ranked_holders ss p) p) (measures measure rows)
          (All-permutation (HeldIn (λ x. x) (ranked_holders ss p) p) ss (measures measure rows) (IsPermutation-sym (measures measure rows) ss r.same)
          (All-from_recursion (HeldIn (λ x. x) (ranked_holders ss p) p) ss (held (λ x. x) p ss)))))
          id h))
          (λ id h. falsum (sym h))

      none_above : (p : P) → ((x : P) → Lt p x → Unreached rows x) → AllByRecursion (NoneAbove measure (Reaches rows) p) rows
      none_above p above =
          both_by (λ r. HeldIn measure (holders cmp measure rows (measure r.1)) (measure r.1) r) (λ r. ⊤) (NoneAbove measure (Reaches rows) p)
          (λ r h u lt. above (measure r.1) lt r.0 (h r.0 (ge_itself (measure r.1)) (named r.0 r.0 refl)))
          rows (mapped_own rows) (every (λ r. ⊤) (λ r. tt) rows)
        where
          own_of : (xs : List (ID × V)) → AllByRecursion (λ r. (p : P) → HeldIn measure (holders cmp measure rows p) p r) xs → AllByRecursion (λ r. HeldIn measure (holders cmp measure rows (measure r.1)) (measure r.1) r) xs
          own_of [] a = tt
          own_of (x ∷ xs) a = (a.0 (measure x.1), own_of xs a.1)

          mapped_own : (xs : List (ID × V)) → AllByRecursion (λ r. HeldIn measure (holders cmp measure rows (measure r.1)) (measure r.1) r) rows
          mapped_own xs = own_of rows (for_each (λ p r. HeldIn measure (holders cmp measure rows p) p r) rows (λ p. held measure p rows))

      none_reached : ((x : P) → Unreached rows x) → AllByRecursion (λ r. Reaches rows (measure r.1) ≡ false) rows
      none_reached none =
          own_of rows (for_each (λ p r. HeldIn measure (holders cmp measure rows p) p r) rows (λ p. held measure p rows))
        where
          own_of : (xs : List (ID × V)) → AllByRecursion (λ r. (p : P) → HeldIn measure (holders cmp measure rows p) p r) xs → AllByRecursion (λ r. Reaches rows (measure r.1) ≡ false) xs
          own_of [] a = tt
          own_of (x ∷ xs) a = (none (measure x.1) x.0 (a.0 (measure x.1) x.0 (ge_itself (measure x.1)) (named x.0 x.0 refl)), own_of xs a.1)

      -- equal values are reached by the same
      equal_reached : (p x : P) → cmp x p ≡ Equal → Reaches rows p ≡ true → Reaches rows x ≡ true
      equal_reached p x e h = (λ i. is_quorum set (map (λ row. row.0) (filter (λ row. is_ge (alike_right total x p (measure row.1) e i)) rows))) ∙ h

      -- what is reached is granted
      granted_none : (default : P) → ((x : P) → Unreached rows x) → granted_among is_quorum cmp measure set rows default ≡ default
      granted_none default none = ap (λ o. unwrap_or o default) (nothing measure (Reaches rows) rows (none_reached none))

      granted_some : (p y default : P) → Reaches rows p ≡ true → first_equal cmp measure p rows ≡ Some y → ((x : P) → Lt p x → Unreached rows x) → granted_among is_quorum cmp measure set rows default ≡ y
      granted_some p y default h f above = ap (λ o. unwrap_or o default) (picks measure (Reaches rows) p y (λ x e. equal_reached p x e h) rows None tt f (none_above p above))

    list_all_each : {A : Type 0} (f : A → Bool) (xs : List A) → list_all f xs ≡ true → AllByRecursion (λ x. f x ≡ true) xs
    list_all_each f [] h = tt
    list_all_each f (x ∷ xs) h = let parts = and_parts (f x) (list_all f xs) h in (parts.0, list_all_each f xs parts.1)

    -- what is asked of a ranking gives the granted value
    pub found : (rows : List (ID × V)) (ss : List (ID × P)) (default : P) → IsRanking cmp (measures measure rows) ss → (o : Option P) → o ≡ first_reached is_quorum set [] ss
        → granted_among is_quorum cmp measure set rows default ≡ elim o [ None ↦ default | Some p ↦ unwrap_or (first_equal cmp measure p rows) default ]
    found rows ss default r o e = go o (subst (IsReached rows) (sym e) (ranking_reaches rows ss r)) where
      go : (o : Option P) → IsReached rows o → granted_among is_quorum cmp measure set rows default ≡ elim o [ None ↦ default | Some p ↦ unwrap_or (first_equal cmp measure p rows) default ]
      go None h = granted_none rows default h
      go (Some p) h = granted_some rows p h.1.0 default h.0 h.1.1 h.2 ∙ sym (ap (λ o. unwrap_or o default) h.1.1)

    module _ (id : ID) (v : V) where
      abbrev new : P
      new = measure v

      abbrev w : ID × V → ID × V
      w row = with_value id_cmp id v row

      -- a row stays, or gets the new value
      abbrev Turned : (P → Type 0) → P → ID × V → Type 0
      Turned K x r = (w r ≡ r) ⊎ ((w r ≡ (r.0, v)) × (Ge new x → K (measure r.1)))

      abbrev Lowered : P → P → ID × V → Type 0
      Lowered x z r = Ge (measure (w r).1) x → Ge (measure r.1) z

      module _ (K : P → Type 0) (x : P) where
        abbrev Floor : List (ID × V) → Type 0
        Floor rows = (z : P) × K z × Ge x z × AllByRecursion (Lowered x z) rows

        lowered_more : (z o : P) → Ge z o → (rows : List (ID × V)) → AllByRecursion (Lowered x z) rows → AllByRecursion (Lowered x o) rows
        lowered_more z o g [] a = tt
        lowered_more z o g (r ∷ rows) a = ((λ h. ge_trans (measure r.1) z o (a.0 h) g), lowered_more z o g rows a.1)

        floor_step : (r : ID × V) (rows : List (ID × V)) → Turned K x r → Floor rows → Floor (r ∷ rows)
        floor_step r rows (inl e) f = (f.0, f.1, f.2, ((λ h. ge_trans (measure r.1) x f.0 (subst (λ s. Ge (measure s.1) x) e h) f.2), f.3))
        floor_step r rows (inr e) f =
            ⊎_elim
            (λ (low : Lt new x). (f.0, f.1, f.2, ((λ h. never_both (cmp new x) low (subst (λ s. Ge (measure s.1) x) e.0 h)), f.3)))
            (λ (high : Ge new x). ⊎_elim
            (λ (l : Lt (measure r.1) f.0). (measure r.1, e.1 high, ge_trans x f.0 (measure r.1) f.2 (ge_from_lt f.0 (measure r.1) l), ((λ h. ge_itself (measure r.1)), lowered_more f.0 (measure r.1) (ge_from_lt f.0 (measure r.1) l) rows f.3)))
            (λ (g : Ge (measure r.1) f.0). (f.0, f.1, f.2, ((λ h. g), f.3)))
            (lt_or_ge (measure r.1) f.0))
            (lt_or_ge new x)

        -- the rows that reach x afterwards reached some value before
        floor : (rows : List (ID × V)) → K x → AllByRecursion (Turned K x) rows → Floor rows
        floor [] k a = (x, k, ge_itself x, tt)
        floor (r ∷ rows) k a = floor_step r rows a.0 (floor rows k a.1)

      same_name : (r : ID × V) → (w r).0 ≡ r.0
      same_name r = go (is_row_of id_cmp id r) where
        go : (c : Bool) → (cond c (r.0, v) r).0 ≡ r.0
        go true = refl
        go false = refl

      module _ (rows : List (ID × V)) where
        still : (K : P → Type 0) (x : P) → K x → AllByRecursion (Turned K x) rows → ((z : P) → K z → Unreached rows z) → Unreached (map w rows) x
        still K x k a none id2 h =
            let f = floor K x rows k a in
            let into : (one : ID) → Has (holders cmp measure (map w rows) x) one → Has (holders cmp measure rows f.0) one =
            within measure (holders cmp measure rows f.0) x (map w rows)
            (all_mapped w (HeldIn measure (holders cmp measure rows f.0) x) rows
            (both_by (HeldIn measure (holders cmp measure rows f.0) f.0) (Lowered x f.0) (λ r. HeldIn measure (holders cmp measure rows f.0) x (w r))
            (λ r u l one g e. u one (l g) (ap (λ n. is_eq (id_cmp one n)) (sym (same_name r)) ∙ e)) rows (held measure f.0 rows) f.3)) in
            unreached_by (Reaches (map w rows) x) (Reaches rows f.0) (λ e. enough (holders cmp measure (map w rows) x) (holders cmp measure rows f.0) into e) (none f.0 f.1 id2 (into id2 h))
          where
            unreached_by : (a b : Bool) → (a ≡ true → b ≡ true) → b ≡ false → a ≡ false
            unreached_by true b f e = falsum (sym (f refl) ∙ e)
            unreached_by false b f e = refl

        -- how a row is changed
        change : (r : ID × V) → (w r ≡ r) ⊎ ((w r ≡ (r.0, v)) × (is_row_of id_cmp id r ≡ true))
        change r = go (is_row_of id_cmp id r) refl where
          go : (c : Bool) → is_row_of id_cmp id r ≡ c → (cond c (r.0, v) r ≡ r) ⊎ ((cond c (r.0, v) r ≡ (r.0, v)) × (is_row_of id_cmp id r ≡ true))
          go true e = inr (refl, e)
          go false e = inl refl

        free : (r : ID × V) (x : P) → Turned (λ z. ⊤) x r
        free r x = ⊎_elim (λ (e : w r ≡ r). inl e) (λ (e : (w r ≡ (r.0, v)) × (is_row_of id_cmp id r ≡ true)). inr (e.0, λ g. tt)) (change r)

        module _ (y : P) where
          abbrev Side : ID × V → Type 0
          Side r = (Lt (measure r.1) y × Lt new y) ⊎ (Lt y (measure r.1) × Lt y new)

          abbrev Sided : ID × V → Type 0
          Sided r = (w r ≡ r) ⊎ ((w r ≡ (r.0, v)) × Side r)

          side : (r : ID × V) → same_side cmp y (measure r.1) new ≡ true → Side r
          side r h = or_cases (is_lt (cmp (measure r.1) y) && is_lt (cmp new y)) (is_lt (cmp y (measure r.1)) && is_lt (cmp y new))
              (λ e. inl (and_parts (is_lt (cmp (measure r.1) y)) (is_lt (cmp new y)) e)) (λ e. inr (and_parts (is_lt (cmp y (measure r.1))) (is_lt (cmp y new)) e)) h

          sided : (r : ID × V) → row_stays id_cmp cmp measure id y new r ≡ true → Sided r
          sided r h = ⊎_elim (λ (e : w r ≡ r). inl e) (λ (e : (w r ≡ (r.0, v)) × (is_row_of id_cmp id r ≡ true)). inr (e.0, side r (sym (ap (λ c. not c || same_side cmp y (measure r.1) new) e.1) ∙ h))) (change r)

          above : (x : P) → Lt y x → (r : ID × V) → Sided r → Turned (λ z. Lt y z) x r
          above x lt r s = ⊎_elim (λ (e : w r ≡ r). inl e)
              (λ (e : (w r ≡ (r.0, v)) × Side r). inr (e.0, λ g. ⊎_elim (λ (k : Lt (measure r.1) y × Lt new y). never_both (cmp new y) k.1 (ge_trans new x y g (ge_from_lt x y lt))) (λ (k : Lt y (measure r.1) × Lt y new). k.0) e.1)) s

          reached_step : (r : ID × V) → Sided r → HeldIn measure (holders cmp measure (map w rows) y) y (w r) → HeldIn measure (holders cmp measure (map w rows) y) y r
          reached_step r s h one g e = ⊎_elim
              (λ (k : w r ≡ r). h one (subst (λ t. Ge (measure t.1) y) (sym k) g) (ap (λ n. is_eq (id_cmp one n)) (same_name r) ∙ e))
              (λ (k : (w r ≡ (r.0, v)) × Side r). ⊎_elim
              (λ (j : Lt (measure r.1) y × Lt new y). never_both (cmp (measure r.1) y) j.0 g)
              (λ (j : Lt y (measure r.1) × Lt y new). h one (subst (λ t. Ge (measure t.1) y) (sym k.0) (ge_from_lt new y j.1)) (ap (λ n. is_eq (id_cmp one n)) (same_name r) ∙ e))
              k.1)
              s

          still_reached : AllByRecursion Sided rows → Reaches rows y ≡ true → Reaches (map w rows) y ≡ true
          still_reached s h = enough (holders cmp measure rows y) (holders cmp measure (map w rows) y)
              (within measure (holders cmp measure (map w rows) y) y rows
              (both_by Sided (λ r. HeldIn measure (holders cmp measure (map w rows) y) y (w r)) (HeldIn measure (holders cmp measure (map w rows) y) y) (λ r a b. reached_step r a b) rows s
              (mapped_all w (HeldIn measure (holders cmp measure (map w rows) y) y) rows (held measure y (map w rows)))))
              h

        off : (y : P) (a : P) → (Lt a y) ⊎ (Lt y a) → is_eq (cmp a y) ≡ false
        off y a h = ⊎_elim (λ (l : Lt a y). lt_not_eq (cmp a y) l) (λ (l : Lt y a). ap is_eq (total.antisymm a y) ∙ turned_not_eq (cmp y a) l) h

        first_step : (y : P) (r : ID × V) (xs : List (ID × V)) → Sided y r → first_equal cmp measure y (map w xs) ≡ first_equal cmp measure y xs → first_equal cmp measure y (w r ∷ map w xs) ≡ first_equal cmp measure y (r ∷ xs)
        first_step y r xs (inl e) rest = ap (λ s. first_equal cmp measure y (s ∷ map w xs)) e ∙ go (is_eq (cmp (measure r.1) y)) where
          go : (c : Bool) → option_map (λ row. measure row.1) (cond c (Some r) (find (λ row. is_eq (cmp (measure row.1) y)) (map w xs))) ≡ option_map (λ row. measure row.1) (cond c (Some r) (find (λ row. is_eq (cmp (measure row.1) y)) xs))
          go true = refl
          go false = rest
        first_step y r xs (inr e) rest =
            let was : is_eq (cmp (measure r.1) y) ≡ false = off y (measure r.1) (⊎_elim (λ (k : Lt (measure r.1) y × Lt new y). inl k.0) (λ k. inr k.0) e.1) in
            let is : is_eq (cmp new y) ≡ false = off y new (⊎_elim (λ (k : Lt (measure r.1) y × Lt new y). inl k.1) (λ k. inr k.1) e.1) in
            ap (λ s. first_equal cmp measure y (s ∷ map w xs)) e.0 ∙ rw is (rw was rest)

        still_first : (y : P) (xs : List (ID × V)) → AllByRecursion (Sided y) xs → first_equal cmp measure y (map w xs) ≡ first_equal cmp measure y xs
        still_first y [] a = refl
        still_first y (r ∷ xs) a = first_step y r xs a.0 (still_first y xs a.1)

        -- the granted value stays if the value of each of the id's rows stays on one side of it
        pub stays_granted : (ss : List (ID × P)) (default kept : P) → IsRanking cmp (measures measure rows) ss → kept ≡ granted_among is_quorum cmp measure set rows default
            → list_all (row_stays id_cmp cmp measure id kept new) rows ≡ true → kept ≡ granted_among is_quorum cmp measure set (map w rows) default
        stays_granted ss default kept r is all = go (first_reached is_quorum set [] ss) (ranking_reaches rows ss r) where
          go : (o : Option P) → IsReached rows o → kept ≡ granted_among is_quorum cmp measure set (map w rows) default
          go None h = is ∙ granted_none rows default h
              ∙ sym (granted_none (map w rows) default (λ x. still (λ z. ⊤) x tt (every (Turned (λ z. ⊤) x) (λ s. free s x) rows) (λ z u. h z)))
          go (Some p) h =
              let y = h.1.0 in
              let c : cmp y p ≡ Equal = (Equal-is (cmp y p)).0 (is_equal measure p y rows h.1.1) in
              let e : kept ≡ y = is ∙ granted_some rows p y default h.0 h.1.1 h.2 in
              let s : AllByRecursion (Sided y) rows =
              both_by (λ t. row_stays id_cmp cmp measure id y new t ≡ true) (λ t. ⊤) (Sided y) (λ t k u. sided y t k) rows
              (list_all_each (row_stays id_cmp cmp measure id y new) rows (subst (λ k. list_all (row_stays id_cmp cmp measure id k new) rows ≡ true) e all)) (every (λ t. ⊤) (λ t. tt) rows) in
              e ∙ sym (granted_some (map w rows) y y default
              (still_reached y s (equal_reached rows p y c h.0))
              (still_first y rows s ∙ same_first measure p y rows c ∙ h.1.1)
              (λ x lt. still (λ z. Lt y z) x lt (both_by (Sided y) (λ t. ⊤) (Turned (λ z. Lt y z) x) (λ t k u. above y x lt t k) rows s (every (λ t. ⊤) (λ t. tt) rows))
              (λ z k. h.2 z (ap is_lt (sym (total.congr y p z c)) ∙ k))))

  -- a ranking whose values change alike
  pub map_taken : {V : Type 0} (id : ID) (v : V) (measure : V → P) (rows : List (ID × V)) → measures measure (map (with_value id_cmp id v) rows) ≡ map (with_value id_cmp id (measure v)) (measures measure rows)
  map_taken id v measure [] = refl
  map_taken id v measure (r ∷ rows) = (λ i. go (is_row_of id_cmp id r) i ∷ map_taken id v measure rows i) where
    go : (c : Bool) → ◌≡◌ {A = ID × P} ((cond c (r.0, v) r).0, measure (cond c (r.0, v) r).1) (cond c (r.0, measure v) (r.0, measure r.1))
    go true = refl
    go false = refl

  pub ranking_moved : {V : Type 0} (id : ID) (v : V) (measure : V → P) (rows : List (ID × V)) (ss after : List (ID × P)) → IsRanking cmp (measures measure rows) ss
      → IsPermutation (map (with_value id_cmp id (measure v)) ss) after → IsFalling cmp after → IsRanking cmp (measures measure (map (with_value id_cmp id v) rows)) after
  ranking_moved id v measure rows ss after r p f = record {
    same = subst (λ xs. IsPermutation xs after) (sym (map_taken id v measure rows))
        (IsPermutation-trans (map (with_value id_cmp id (measure v)) (measures measure rows)) (map (with_value id_cmp id (measure v)) ss) after
        (IsPermutation-map (with_value id_cmp id (measure v)) (measures measure rows) ss r.same) p);
    falling = f;
  }

  -- the beginning of a table's rows where an id gets a value, and the voters moved accordingly
  pub ranking_placed : {V : Type 0} (id : ID) (v : V) (measure : V → P) (n : ℕ) (rows placed : List (ID × V)) (ss lent moved after : List (ID × P)) (at : P)
      → IsRanking cmp (measures measure (take n rows)) ss
      → placed ≡ map (with_value id_cmp id v) rows → lent ≡ ss → at ≡ measure v → after ≡ moved
      → IsPermutation (map (with_value id_cmp id at) lent) moved → IsFalling cmp moved
      → IsRanking cmp (measures measure (take n placed)) after
  ranking_placed id v measure n rows placed ss lent moved after at r p l a m same falling =
      subst (λ xs. IsRanking cmp (measures measure xs) after) (sym (ap (take n) p ∙ take_map (with_value id_cmp id v) n rows))
      (subst (IsRanking cmp (measures measure (map (with_value id_cmp id v) (take n rows)))) (sym m)
      (ranking_moved id v measure (take n rows) ss moved r
      (subst (λ xs. IsPermutation xs moved) (ap (λ x. map (with_value id_cmp id x) lent) a ∙ ap (map (with_value id_cmp id (measure v))) l) same) falling))

  -- the granted value stays where each row stays
  pub granted_placed : {V Q : Type 0} (is_quorum : Q → List ID → Bool) (grows : (set : Q) (few many : List ID) → ((id : ID) → Contains few id → Contains many id) → is_quorum set few ≡ true → is_quorum set many ≡ true)
      (measure : V → P) (set : Q) (id : ID) (v : V) (n : ℕ) (rows asked placed : List (ID × V)) (ss : List (ID × P)) (default kept at : P)
      → IsRanking cmp (measures measure (take n rows)) ss → kept ≡ granted_among is_quorum cmp measure set (take n rows) default
      → asked ≡ rows → at ≡ measure v → list_all (row_stays id_cmp cmp measure id kept at) (take n asked) ≡ true
      → placed ≡ map (with_value id_cmp id v) rows → kept ≡ granted_among is_quorum cmp measure set (take n placed) default
  granted_placed is_quorum grows measure set id v n rows asked placed ss default kept at r is q a all p =
      stays_granted is_quorum grows measure set id v (take n rows) ss default kept r is
      (ap (λ x. list_all (row_stays id_cmp cmp measure id kept x) (take n rows)) (sym a) ∙ ap (λ xs. list_all (row_stays id_cmp cmp measure id kept at) (take n xs)) (sym q) ∙ all)
      ∙ ap (λ xs. granted_among is_quorum cmp measure set xs default) (sym (ap (take n) p ∙ take_map (with_value id_cmp id v) n rows))

module _ {ID P : Type 0} (cmp : P → P → Ordering) where
  -- voters that are ranked
  pub ranking_is : (voters lent moved after : List (ID × P)) → lent ≡ voters → after ≡ moved → IsPermutation lent moved → IsFalling cmp moved → IsRanking cmp voters after
  ranking_is voters lent moved after l m same falling =
      subst (IsRanking cmp voters) (sym m) (record { same = subst (λ xs. IsPermutation xs moved) l same; falling = falling })

  -- a ranking of the same voters
  pub ranking_same : (voters others ss after : List (ID × P)) → others ≡ voters → after ≡ ss → IsRanking cmp voters ss → IsRanking cmp others after
  ranking_same voters others ss after e f r = subst (λ xs. IsRanking cmp xs after) (sym e) (subst (IsRanking cmp voters) (sym f) r)

-- rows of the same measures begin with the same measures
pub measures_taken : {ID V P : Type 0} (measure : V → P) (n : ℕ) (xs ys : List (ID × V)) → measures measure xs ≡ measures measure ys → measures measure (take n xs) ≡ measures measure (take n ys)
measures_taken measure n xs ys e = sym (take_map (λ row. (row.0, measure row.1)) n xs) ∙ ap (take n) e ∙ take_map (λ row. (row.0, measure row.1)) n ys

-- and are as many
pub measures_long : {ID V P : Type 0} (measure : V → P) (xs ys : List (ID × V)) → measures measure xs ≡ measures measure ys → length xs ≡ length ys
measures_long measure xs ys e = sym (length-map xs (λ row. (row.0, measure row.1))) ∙ ap (λ zs. length zs) e ∙ length-map ys (λ row. (row.0, measure row.1))

pub taken_long : {ID V P : Type 0} (measure : V → P) (n : ℕ) (xs : List (ID × V)) → n ≤ length xs → length (measures measure (take n xs)) ≡ n
taken_long measure n xs le = length-map (take n xs) (λ row. (row.0, measure row.1)) ∙ omega (arith, length-take n xs)
