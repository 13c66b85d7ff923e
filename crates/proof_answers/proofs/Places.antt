-- Queries in a sequence of updates: each at its place, of those that look after the same entry the earlier call first.
use Rattle.std.proofs.Common.{ℕ, suc, ◌+◌, ◌<◌, ◌≤◌, ◌≡◌, ◌≢◌, ◌⊎◌, inl, inr, ⊎_elim, List, [], ◌∷◌, length, arith, sym, subst}
use Rattle.std.specs.Prelude.{Contains}
use Rattle.std.specs.List.{AllByRecursion}
use Rattle.std.proofs.lemmas.Bool.{cases_lt, cases_order}
use Rattle.std.proofs.lemmas.List.Elements.{All-contains_itself, recursion_from_All}
use Rattle.proof_deeds.specs.raft_store.declared.entry.Entry.{Entry}
use Rattle.proof_clients.specs.Objects.{IsDistinct, IsTimely, Operation, Precedes}
use Rattle.proof_clients.proofs.Sequences.{IsBefore, IsSorted as IsStrict, Looks, Orders, each_of, element, first_or, look, next, none, rank, rank_carried, rank_looked, skip}
use Rattle.proof_clients.proofs.Slots.{here, there}

-- each of a list is its own element
both : {X : Type 0} (P : X → Type 0) (os : List X) → AllByRecursion P os → AllByRecursion (λ p. Contains os p × P p) os
both {X} P os = go os (recursion_from_All (Contains os) os (All-contains_itself os))
  where
    go : (ps : List X) → AllByRecursion (Contains os) ps → AllByRecursion P ps → AllByRecursion (λ p. Contains os p × P p) ps
    go [] a b = tt
    go (p ∷ ps) a b = ((a.0, b.0), go ps a.1 b.1)

-- the second doesn't stand before the first
abbrev pub MayPrecede : {R : Type 0} → Operation R → Operation R → Type 0
MayPrecede o p = (rank o < rank p) ⊎ ((rank o ≡ rank p) × (o.call ≤ p.call))

abbrev pub IsSorted : {R : Type 0} → List (Operation R) → Type 0
IsSorted [] = Unit {0}
IsSorted (o ∷ os) = AllByRecursion (MayPrecede o) os × IsSorted os

module _ {R : Type 0} where
  may_then : (o p q : Operation R) → MayPrecede o p → MayPrecede p q → MayPrecede o q
  may_then o p q (inl a) (inl b) = inl (omega (arith, a, b))
  may_then o p q (inl a) (inr b) = inl (let c = b.0 in omega (arith, a, c))
  may_then o p q (inr a) (inl b) = inl (let c = a.0 in omega (arith, c, b))
  may_then o p q (inr a) (inr b) = inr (let c = a.0 in let d = b.0 in omega (arith, c, d), (let c = a.1 in let d = b.1 in omega (arith, c, d)))

  may_not : (o p : Operation R) → MayPrecede o p → IsBefore p o → ⊥
  may_not o p (inl a) (inl b) = omega (arith, a, b)
  may_not o p (inl a) (inr b) = let c = b.0 in omega (arith, a, c)
  may_not o p (inr a) (inl b) = let c = a.0 in omega (arith, c, b)
  may_not o p (inr a) (inr b) = let c = a.1 in let d = b.1 in omega (arith, c, d)

  either : (o p : Operation R) → MayPrecede o p ⊎ MayPrecede p o
  either o p =
      ⊎_elim
      (λ (e : rank o ≡ rank p). ⊎_elim (λ (l : o.call < p.call). inl (inr (e, omega (arith, l)))) (λ (l : p.call ≤ o.call). inr (inr (sym e, l))) (cases_lt o.call p.call))
      (λ x. ⊎_elim (λ (l : rank o < rank p). inl (inl l)) (λ (l : rank p < rank o). inr (inl l)) x)
      (cases_order (rank o) (rank p))

  pub strict_sorted : (os : List (Operation R)) → IsStrict os → IsSorted os
  strict_sorted [] h = tt
  strict_sorted (o ∷ os) h = (each_of (IsBefore o) (MayPrecede o) (λ p b. may p b) os h.0, strict_sorted os h.1)
    where
      may : (p : Operation R) → IsBefore o p → MayPrecede o p
      may p (inl l) = inl l
      may p (inr e) = inr (e.0, (let l = e.1 in omega (arith, l)))

  -- so a sequence respects the order in real time
  pub timely : (os : List (Operation R)) → ((o p : Operation R) → Contains os o → Contains os p → Precedes p o → IsBefore p o) → IsSorted os → IsTimely os
  timely [] f h = tt
  timely (o ∷ os) f h = (
    each_of (λ p. Contains os p × MayPrecede o p) (λ p. Precedes p o → ⊥) (λ p k q. may_not o p k.1 (f o p (here o os) (there o os p k.0) q)) os (both (MayPrecede o) os h.0),
    timely os (λ a b c d. f a b (there o os a c) (there o os b d)) h.1,
  )

module _ {R : Type 0} (ops : List (Operation R)) where
  -- what stands from place n on
  low : {n : ℕ} {xs : List Entry} {os : List (Operation R)} → Orders ops n xs os → AllByRecursion (λ q. n + n ≤ rank q) os
  low (none n) = tt
  low (skip n x {os = os} v t) = each_of (λ q. suc n + suc n ≤ rank q) (λ q. n + n ≤ rank q) (λ q l. omega (arith, l)) os (low t)
  low (next n x o {os = os} k t) = (omega (arith, rank_carried ops n x o k), each_of (λ q. suc n + suc n ≤ rank q) (λ q. n + n ≤ rank q) (λ q l. omega (arith, l)) os (low t))
  low (look n o k t) = (omega (arith, rank_looked ops n o k), low t)

  all_in : (o : Operation R) (os : List (Operation R)) → AllByRecursion (Contains (o ∷ os)) os
  all_in o os = each_of (Contains os) (Contains (o ∷ os)) (λ q c. there o os q c) os (recursion_from_All (Contains os) os (All-contains_itself os))

  -- a query more
  pub record Inserted (n : ℕ) (xs : List Entry) (os : List (Operation R)) (o : Operation R) : Type 0 where
    pub order : List (Operation R)
    pub is : Orders ops n xs order
    pub distinct : IsDistinct order
    pub sorted : IsSorted order
    pub only : AllByRecursion (Contains (o ∷ os)) order
    pub has : Contains order o
    pub keeps : (q : Operation R) → Contains os q → Contains order q

  front : (n : ℕ) (xs : List Entry) (os : List (Operation R)) (o : Operation R) → Looks ops n o → Orders ops n xs os → AllByRecursion (λ q. q ≢ o) os → IsDistinct os → AllByRecursion (MayPrecede o) os → IsSorted os → Inserted n xs os o
  front n xs os o k t fresh d b h = record { order = o ∷ os; is = look n o k t; distinct = (fresh, d); sorted = (b, h); only = (here o os, all_in o os); has = here o os; keeps = λ q c. there o os q c }

  behind : (n : ℕ) (xs : List Entry) (p : Operation R) (os : List (Operation R)) (o : Operation R) → p ≢ o → AllByRecursion (λ q. q ≢ p) os → MayPrecede p o → AllByRecursion (MayPrecede p) os
      → (m : ℕ) (ys : List Entry) (w : Inserted m ys os o) → Orders ops n xs (p ∷ w.order) → Inserted n xs (p ∷ os) o
  behind n xs p os o c b s h m ys w t = record {
    order = p ∷ w.order;
    is = t;
    distinct = (each_of (Contains (o ∷ os)) (λ q. q ≢ p) (λ q k. element (λ q. q ≢ p) (o ∷ os) q ((λ z. c (sym z)), b) k) w.order w.only, w.distinct);
    sorted = (each_of (Contains (o ∷ os)) (MayPrecede p) (λ q k. element (MayPrecede p) (o ∷ os) q (s, h) k) w.order w.only, w.sorted);
    only = (there o (p ∷ os) p (here p os), each_of (Contains (o ∷ os)) (Contains (o ∷ (p ∷ os))) (λ q k. past q k) w.order w.only);
    has = there p w.order o w.has;
    keeps = λ q k. ⊎_elim (λ z. subst (Contains (p ∷ w.order)) z (here p w.order)) (λ z. there p w.order q (w.keeps q z)) (first_or p os q k);
  }
    where
      past : (w : Operation R) → Contains (o ∷ os) w → Contains (o ∷ (p ∷ os)) w
      past w g = ⊎_elim (λ z. subst (Contains (o ∷ (p ∷ os))) z (here o (p ∷ os))) (λ z. there o (p ∷ os) w (there p os w z)) (first_or o os w g)

  pub insert : {n : ℕ} {xs : List Entry} {os : List (Operation R)} (o : Operation R) (p : ℕ) → Looks ops p o → n ≤ p → p ≤ n + length xs → Orders ops n xs os → AllByRecursion (λ q. q ≢ o) os → IsDistinct os → IsSorted os → Inserted n xs os o
  insert o p k l u (none n) fresh d h = front n [] [] o (subst (λ j. Looks ops j o) (let z : p ≡ n = omega (arith, l, u) in z) k) (none n) tt tt tt tt
  insert o p k l u (skip n x {xs = xs} {os = os} v t) fresh d h =
      ⊎_elim
      (λ (g : n < p).
      let w = insert o p k (omega (arith, g)) (omega (arith, u)) t fresh d h in
      record { order = w.order; is = skip n x v w.is; distinct = w.distinct; sorted = w.sorted; only = w.only; has = w.has; keeps = w.keeps })
      (λ (g : p ≤ n).
      let e : p ≡ n = omega (arith, g, l) in
      front n (x ∷ xs) os o (subst (λ j. Looks ops j o) e k) (skip n x v t) fresh d
      (each_of (λ q. suc n + suc n ≤ rank q) (MayPrecede o) (λ q y. inl (omega (arith, y, e, rank_looked ops p o k))) os (low t)) h)
      (cases_lt n p)
  insert o p k l u (next n x {xs = xs} q {os = os} c t) fresh d h =
      ⊎_elim
      (λ (g : n < p).
      let w = insert o p k (omega (arith, g)) (omega (arith, u)) t fresh.1 d.1 h.1 in
      behind n (x ∷ xs) q os o fresh.0 d.0 (inl (omega (arith, g, rank_carried ops n x q c, rank_looked ops p o k))) h.0 (suc n) xs w (next n x q c w.is))
      (λ (g : p ≤ n).
      let e : p ≡ n = omega (arith, g, l) in
      front n (x ∷ xs) (q ∷ os) o (subst (λ j. Looks ops j o) e k) (next n x q c t) fresh d
      (inl (omega (arith, e, rank_carried ops n x q c, rank_looked ops p o k)), each_of (λ r. suc n + suc n ≤ rank r) (MayPrecede o) (λ r y. inl (omega (arith, y, e, rank_looked ops p o k))) os (low t)) h)
      (cases_lt n p)
  insert o p k l u (look n {xs = xs} q {os = os} c t) fresh d h =
      ⊎_elim
      (λ (b : MayPrecede o q).
      let e : p ≡ n = (let a = at_most o q b in omega (arith, l, a, rank_looked ops p o k, rank_looked ops n q c)) in
      front n xs (q ∷ os) o (subst (λ j. Looks ops j o) e k) (look n q c t) fresh d (b, each_of (MayPrecede q) (MayPrecede o) (λ r y. may_then o q r b y) os h.0) h)
      (λ (b : MayPrecede q o).
      let w = insert o p k l u t fresh.1 d.1 h.1 in
      behind n xs q os o fresh.0 d.0 b h.0 n xs w (look n q c w.is))
      (either o q)
    where
      at_most : (a b : Operation R) → MayPrecede a b → rank a ≤ rank b
      at_most a b (inl y) = omega (arith, y)
      at_most a b (inr y) = let z = y.0 in omega (arith, z)
