-- Lists of ids that ascend: what one has says which list it is.
use Rattle.std.proofs.Common.{◌≡◌, ◌∙◌, sym, refl, ap, subst, Bool, true, false, ◌||◌, ◌&&◌, List, [], ◌∷◌, cond, map}
use Rattle.std.specs.Prelude.{fold, filter, is_some}
use Rattle.std.specs.List.{AllByRecursion, list_any}
use Rattle.std.specs.List.Sorted.{IsStrictlySortedBy}
use Rattle.std.specs.BTreeSet.{insert_key}
use Rattle.std.specs.BTreeMap.{insert_entry, is_at}
use Rattle.std.specs.Map.{keys_of, lookup}
use Rattle.std.specs.declared.cmp.Ordering.{Ordering}
use Rattle.std.specs.declared.cmp.Ordering.TheVariants.{Less, Equal, Greater}
use Rattle.std.specs.Cmp.{IsTotalOrder, tied_itself}
use Rattle.std.specs.Ordering.{is_eq, match_ordering, ordering_reverse}
use Rattle.std.proofs.lemmas.Map.Made.{is_some-lookup}
use Rattle.raft_state.specs.Sorted.{has_id}
use Rattle.raft_state.specs.Members.{with_voter, with_voters}

or_swap : (a b c : Bool) → (a || (b || c)) ≡ (b || (a || c))
or_swap true true c = refl
or_swap true false c = refl
or_swap false b c = refl

or_assoc : (a b c : Bool) → ((a || b) || c) ≡ (a || (b || c))
or_assoc true b c = refl
or_assoc false b c = refl

or_same : (a b : Bool) → (a ≡ true → b ≡ true) → b ≡ (a || b)
or_same true b f = f refl
or_same false b f = refl

module _ {K : Type 0} (cmp : K → K → Ordering) (total : IsTotalOrder cmp) (same : (a b : K) → cmp a b ≡ Equal → a ≡ b) where
  abbrev has : List K → K → Bool
  has ks q = has_id cmp ks q

  abbrev Ascends : List K → Type 0
  Ascends ks = IsStrictlySortedBy cmp ks

  abbrev Above : K → List K → Type 0
  Above x ks = AllByRecursion (λ y. cmp x y ≡ Less) ks

  equal_of : (r : Ordering) → is_eq r ≡ true → r ≡ Equal
  equal_of Less e = cc
  equal_of Equal e = refl
  equal_of Greater e = cc

  less_above : (k x : K) → cmp k x ≡ Less → (ks : List K) → Above x ks → Above k ks
  less_above k x e [] a = tt
  less_above k x e (y ∷ ys) a = (total.trans k x y e a.0, less_above k x e ys a.1)

  each_inserted : (x k : K) (ks : List K) → Above x ks → cmp x k ≡ Less → Above x (insert_key cmp ks k)
  each_inserted x k [] a p = (p, tt)
  each_inserted x k (y ∷ ys) a p =
      elim (cmp k y) as (λ r. Above x (match_ordering r (k ∷ y ∷ ys) (y ∷ ys) (y ∷ insert_key cmp ys k))) [
        | Less ↦ (p, a)
        | Equal ↦ a
        | Greater ↦ (a.0, each_inserted x k ys a.1 p)
      ]

  pub inserted : (k : K) (ks : List K) → Ascends ks → Ascends (insert_key cmp ks k)
  unfolding IsStrictlySortedBy
  inserted k [] h = (tt, tt)
  inserted k (x ∷ xs) h =
      elim (cmp k x) as (λ r. cmp k x ≡ r → IsStrictlySortedBy cmp (match_ordering r (k ∷ x ∷ xs) (x ∷ xs) (x ∷ insert_key cmp xs k))) [
        | Less ↦ λ e. ((e, less_above k x e xs h.0), h)
        | Equal ↦ λ e. h
        | Greater ↦ λ e. (each_inserted x k xs h.0 (total.antisymm x k ∙ ap ordering_reverse e), inserted k xs h.1)
      ] refl

  pub has_inserted : (ks : List K) (k q : K) → has (insert_key cmp ks k) q ≡ (is_eq (cmp q k) || has ks q)
  has_inserted [] k q = refl
  has_inserted (x ∷ xs) k q =
      elim (cmp k x) as (λ r. cmp k x ≡ r → has (match_ordering r (k ∷ x ∷ xs) (x ∷ xs) (x ∷ insert_key cmp xs k)) q ≡ (is_eq (cmp q k) || (is_eq (cmp q x) || has xs q))) [
        | Less ↦ λ e. refl
        | Equal ↦ λ e.
            let p : k ≡ x = same k x e in
            or_same (is_eq (cmp q k)) (is_eq (cmp q x) || has xs q) (λ h. subst (λ y. (is_eq (cmp q y) || has xs q) ≡ true) p (ap (λ b. b || has xs q) h))
        | Greater ↦ λ e. ap (λ b. is_eq (cmp q x) || b) (has_inserted xs k q) ∙ or_swap (is_eq (cmp q x)) (is_eq (cmp q k)) (has xs q)
      ] refl

  -- what is below all of a list isn't in it
  none_above : (x : K) (ks : List K) → Above x ks → has ks x ≡ false
  none_above x [] a = refl
  none_above x (y ∷ ys) a = rw (a.0) (none_above x ys a.1)

  -- the head of one list is that of the other, or in the rest of it
  head_there : (q x : K) (b : Bool) → (is_eq (cmp q x) || b) ≡ true → (cmp q x ≡ Equal → ⊥) → b ≡ true
  head_there q x b h n = elim (is_eq (cmp q x)) as (λ t. is_eq (cmp q x) ≡ t → (t || b) ≡ true → b ≡ true) [ true ↦ λ e k. absurd (n (equal_of (cmp q x) e)) | false ↦ λ e k. k ] refl h

  at_head : (x : K) (xs : List K) → has (x ∷ xs) x ≡ true
  at_head x xs = ap (λ r. is_eq r || has xs x) (tied_itself total x)

  missing : (x y : K) (ys : List K) → cmp x y ≡ Less → Above y ys → has (y ∷ ys) x ≡ false
  missing x y ys e a = rw e (none_above x ys (less_above x y e ys a))

  same_rest : (x y : K) (xs ys : List K) → x ≡ y → Above x xs → Above y ys → (q : K) → has (x ∷ xs) q ≡ has (y ∷ ys) q → has xs q ≡ has ys q
  same_rest x y xs ys e a b q h =
      elim (is_eq (cmp q x)) as (λ t. is_eq (cmp q x) ≡ t → (t || has xs q) ≡ (t || has ys q) → has xs q ≡ has ys q) [
        | true ↦ λ t k.
            let p : q ≡ x = same q x (equal_of (cmp q x) t) in
            ap (λ z. has xs z) p ∙ none_above x xs a ∙ sym (none_above y ys b) ∙ ap (λ z. has ys z) (sym e ∙ sym p)
        | false ↦ λ t k. k
      ] refl (h ∙ ap (λ z. is_eq (cmp q z) || has ys q) (sym e))

  pub same_ascending : (xs ys : List K) → Ascends xs → Ascends ys → ((q : K) → has xs q ≡ has ys q) → xs ≡ ys
  unfolding IsStrictlySortedBy
  same_ascending [] [] a b h = refl
  same_ascending [] (y ∷ ys) a b h = let e = h y ∙ at_head y ys in absurd cc
  same_ascending (x ∷ xs) [] a b h = let e = sym (at_head x xs) ∙ h x in absurd cc
  same_ascending (x ∷ xs) (y ∷ ys) a b h =
      elim (cmp x y) as (λ r. cmp x y ≡ r → (x ∷ xs) ≡ (y ∷ ys)) [
        | Less ↦ λ e. let f = sym (at_head x xs) ∙ h x ∙ missing x y ys e b.0 in absurd cc
        | Equal ↦ λ e.
            let p : x ≡ y = same x y e in
            let q : xs ≡ ys = same_ascending xs ys a.1 b.1 (λ q. same_rest x y xs ys p a.0 b.0 q (h q)) in
            cc
        | Greater ↦ λ e. let f = sym (at_head y ys) ∙ sym (h y) ∙ missing y x xs (total.antisymm y x ∙ ap ordering_reverse e) a.0 in absurd cc
      ] refl

  -- ---- ids placed in order

  all_inserted : (ids ks : List K) → Ascends ks → Ascends (fold (insert_key cmp) ks ids)
  all_inserted [] ks h = h
  all_inserted (x ∷ xs) ks h = all_inserted xs (insert_key cmp ks x) (inserted x ks h)

  has_all_inserted : (ids ks : List K) (q : K) → has (fold (insert_key cmp) ks ids) q ≡ (has ids q || has ks q)
  has_all_inserted [] ks q = refl
  has_all_inserted (x ∷ xs) ks q =
      has_all_inserted xs (insert_key cmp ks x) q ∙ ap (λ b. has xs q || b) (has_inserted ks x q)
      ∙ or_swap (has xs q) (is_eq (cmp q x)) (has ks q) ∙ sym (or_assoc (is_eq (cmp q x)) (has xs q) (has ks q))

  or_false : (b : Bool) → (b || false) ≡ b
  or_false true = refl
  or_false false = refl

  -- a group that ascends is what placing its ids makes
  pub group_itself : (g : List K) → Ascends g → fold (insert_key cmp) [] g ≡ g
  unfolding IsStrictlySortedBy
  group_itself g h = same_ascending (fold (insert_key cmp) [] g) g (all_inserted g [] tt) h (λ q. has_all_inserted g [] q ∙ or_false (has g q))

  -- ---- nodes without data

  keys_inserted : (es : List (K × Unit {0})) (k : K) → keys_of (insert_entry cmp es k tt) ≡ insert_key cmp (keys_of es) k
  keys_inserted [] k = refl
  keys_inserted (e ∷ es) k =
      elim (cmp k e.0) as (λ r. keys_of (match_ordering r ((k, tt) ∷ e ∷ es) ((e.0, tt) ∷ es) (e ∷ insert_entry cmp es k tt))
      ≡ match_ordering r (k ∷ e.0 ∷ keys_of es) (e.0 ∷ keys_of es) (e.0 ∷ insert_key cmp (keys_of es) k)) [
        | Less ↦ refl
        | Equal ↦ refl
        | Greater ↦ ap (λ ks. e.0 ∷ ks) (keys_inserted es k)
      ]

  -- the nodes ascend, and have these ids beside those that were there
  pub record Grown (new : K → Bool) (es fs : List (K × Unit {0})) : Type 0 where
    pub ascends : Ascends (keys_of fs)
    pub has_all : (q : K) → has (keys_of fs) q ≡ (new q || has (keys_of es) q)

  entry_grown : (es : List (K × Unit {0})) (id : K) → Ascends (keys_of es) → Grown (λ q. is_eq (cmp q id)) es (insert_entry cmp es id tt)
  entry_grown es id h = record {
    ascends = subst Ascends (sym (keys_inserted es id)) (inserted id (keys_of es) h);
    has_all = λ q. ap (λ ks. has ks q) (keys_inserted es id) ∙ has_inserted (keys_of es) id q;
  }

  -- one more
  then_grown : (x : K) (xs : List K) (es fs gs : List (K × Unit {0})) → Grown (λ q. is_eq (cmp q x)) es fs → Grown (has xs) fs gs → Grown (has (x ∷ xs)) es gs
  then_grown x xs es fs gs one rest = record {
    ascends = rest.ascends;
    has_all = λ q.
        rest.has_all q ∙ ap (λ b. has xs q || b) (one.has_all q)
        ∙ or_swap (has xs q) (is_eq (cmp q x)) (has (keys_of es) q) ∙ sym (or_assoc (is_eq (cmp q x)) (has xs q) (has (keys_of es) q));
  }

  pub placed_grown : (ids : List K) (es : List (K × Unit {0})) → Ascends (keys_of es) → Grown (has ids) es (fold (λ (a : List (K × Unit {0})) (x : K × Unit {0}). insert_entry cmp a x.0 x.1) es (map (λ id. (id, tt)) ids))
  placed_grown [] es h = record { ascends = h; has_all = λ q. refl }
  placed_grown (x ∷ xs) es h =
      let one = entry_grown es x h in
      then_grown x xs es (insert_entry cmp es x tt) _ one (placed_grown xs (insert_entry cmp es x tt) one.ascends)

  voter_grown : (es : List (K × Unit {0})) (id : K) → Ascends (keys_of es) → Grown (λ q. is_eq (cmp q id)) es (with_voter cmp tt es id)
  voter_grown es id h =
      elim (is_some (lookup (is_at (cmp id)) es)) as (λ b. is_some (lookup (is_at (cmp id)) es) ≡ b → Grown (λ q. is_eq (cmp q id)) es (cond b es (insert_entry cmp es id tt))) [
        | true ↦ λ e. record {
          ascends = h;
          has_all = λ q. or_same (is_eq (cmp q id)) (has (keys_of es) q)
              (λ t. ap (λ z. has (keys_of es) z) (same q id (equal_of (cmp q id) t)) ∙ sym (is_some-lookup (is_at (cmp id)) es) ∙ e);
        }
        | false ↦ λ e. entry_grown es id h
      ] refl

  voters_grown : (ids : List K) (es : List (K × Unit {0})) → Ascends (keys_of es) → Grown (has ids) es (with_voters cmp tt es ids)
  voters_grown [] es h = record { ascends = h; has_all = λ q. refl }
  voters_grown (x ∷ xs) es h =
      let one = voter_grown es x h in
      then_grown x xs es (with_voter cmp tt es x) _ one (voters_grown xs (with_voter cmp tt es x) one.ascends)

  pub groups_grown : (groups : List (List K)) (es : List (K × Unit {0})) → Ascends (keys_of es) → Grown (λ q. list_any (λ g. has g q) groups) es (fold (with_voters cmp tt) es groups)
  groups_grown [] es h = record { ascends = h; has_all = λ q. refl }
  groups_grown (g ∷ gs) es h =
      let one = voters_grown g es h in
      let rest = groups_grown gs (with_voters cmp tt es g) one.ascends in
      record {
        ascends = rest.ascends;
        has_all = λ q.
            let others = list_any (λ h. has h q) gs in
            rest.has_all q ∙ ap (λ b. others || b) (one.has_all q) ∙ or_swap others (has g q) (has (keys_of es) q) ∙ sym (or_assoc (has g q) others (has (keys_of es) q));
      }

  pub by_keys : (es : List (K × Unit {0})) → map (λ id. (id, tt)) (keys_of es) ≡ es
  by_keys [] = refl
  by_keys (e ∷ es) = ap (λ t. e ∷ t) (by_keys es)

  -- ---- what passes a test

  pub has_filtered : (p : K → Bool) (ks : List K) (q : K) → has (filter p ks) q ≡ (has ks q && p q)
  has_filtered p [] q = refl
  has_filtered p (x ∷ xs) q =
      elim (p x) as (λ t. p x ≡ t → has (cond t (x ∷ filter p xs) (filter p xs)) q ≡ ((is_eq (cmp q x) || has xs q) && p q)) [
        | true ↦ λ t. ap (λ b. is_eq (cmp q x) || b) (has_filtered p xs q)
            ∙ passes (is_eq (cmp q x)) (has xs q) (p q) (λ e. ap p (same q x (equal_of (cmp q x) e)) ∙ t)
        | false ↦ λ t. has_filtered p xs q
            ∙ fails (is_eq (cmp q x)) (has xs q) (p q) (λ e. ap p (same q x (equal_of (cmp q x) e)) ∙ t)
      ] refl where
        passes : (a b c : Bool) → (a ≡ true → c ≡ true) → (a || (b && c)) ≡ ((a || b) && c)
        passes true b c f = sym (f refl)
        passes false b c f = refl

        fails : (a b c : Bool) → (a ≡ true → c ≡ false) → (b && c) ≡ ((a || b) && c)
        fails true true c f = refl
        fails true false c f = sym (f refl)
        fails false b c f = refl
