-- Lists of which each element goes with that at its place.
use Rattle.std.proofs.Common.{ℕ, zero, suc, ◌+◌, ◌<◌, ◌≡◌, ⊎_elim, Bool, true, false, List, [], ◌∷◌, ◌++◌, length, take, drop, map, filter, arith, refl, sym, ap, subst, Option, Some}
use Rattle.std.specs.Prelude.{Contains, slice_get, if◌then◌else◌}
use Rattle.std.specs.List.{AllByRecursion}
use Rattle.std.proofs.lemmas.List.Elements.{Contains-append_left, Contains-append_right}
use Rattle.proof_clients.proofs.Sequences.{element, first_or}
use Rattle.proof_clients.proofs.Slots.{here, there}
use Rattle.proof_requests.specs.Requests.{AllPairs, Asked, Rises}

pub none_in : {A : Type 0} (x : A) → Contains {X = A} [] x → ⊥
none_in x c = let l : c.0 < 0 = c.1 in omega (arith, l)

pub split_at : {A : Type 0} (k : ℕ) (xs : List A) → xs ≡ take k xs ++ drop k xs
split_at zero [] = refl
split_at zero (x ∷ xs) = refl
split_at (suc k) [] = refl
split_at (suc k) (x ∷ xs) = ap (λ ys. x ∷ ys) (split_at k xs)

pub slot_less : {A : Type 0} (xs ys : List A) (k : ℕ) → k < length xs → slice_get (xs ++ ys) k ≡ slice_get xs k
slot_less [] ys k l = absurd (omega (arith, l))
slot_less (x ∷ xs) ys zero l = refl
slot_less (x ∷ xs) ys (suc k) l = slot_less xs ys k (omega (arith, l))

pub slot_behind : {A : Type 0} (xs ys : List A) (k i : ℕ) → i ≡ length xs + k → slice_get (xs ++ ys) i ≡ slice_get ys k
slot_behind [] ys k i q = let z : i ≡ k = omega (arith, q) in ap (slice_get ys) z
slot_behind (x ∷ xs) ys k zero q = absurd (omega (arith, q))
slot_behind (x ∷ xs) ys k (suc i) q = slot_behind xs ys k i (omega (arith, q))

pub slot_none : {A : Type 0} (k : ℕ) (x : A) → ◌≡◌ {A = Option A} (slice_get [] k) (Some x) → ⊥
slot_none k x e = cc

pub contains_slot : {A : Type 0} (xs : List A) (k : ℕ) (x : A) → slice_get xs k ≡ Some x → Contains xs x
contains_slot [] k x e = absurd (slot_none k x e)
contains_slot (y ∷ xs) zero x e = let z : y ≡ x = cc in subst (Contains (y ∷ xs)) z (here y xs)
contains_slot (y ∷ xs) (suc k) x e = there y xs x (contains_slot xs k x e)

module _ {A B : Type 0} where
  pub pairs_on : (P Q : A → B → Type 0) → ((x : A) (y : B) → P x y → Q x y) → (xs : List A) (ys : List B) → AllPairs P xs ys → AllPairs Q xs ys
  pairs_on P Q f [] [] h = tt
  pairs_on P Q f [] (y ∷ ys) h = absurd h
  pairs_on P Q f (x ∷ xs) [] h = absurd h
  pairs_on P Q f (x ∷ xs) (y ∷ ys) h = (f x y h.0, pairs_on P Q f xs ys h.1)

  module _ (P : A → B → Type 0) where
    -- what goes with an element
    pub pairs_of : (xs : List A) (ys : List B) → AllPairs P xs ys → (y : B) → Contains ys y → (x : A) × P x y
    pairs_of xs [] h y c = absurd (none_in y c)
    pairs_of [] (v ∷ ys) h y c = absurd h
    pairs_of (x ∷ xs) (v ∷ ys) h y c = ⊎_elim (λ e. (x, subst (P x) e h.0)) (λ d. pairs_of xs ys h.1 y d) (first_or v ys y c)

    pub pairs_append : (xs : List A) (ys : List B) (us : List A) (vs : List B) → AllPairs P xs ys → AllPairs P us vs → AllPairs P (xs ++ us) (ys ++ vs)
    pairs_append [] [] us vs h k = k
    pairs_append [] (y ∷ ys) us vs h k = absurd h
    pairs_append (x ∷ xs) [] us vs h k = absurd h
    pairs_append (x ∷ xs) (y ∷ ys) us vs h k = (h.0, pairs_append xs ys us vs h.1 k)

    pub pairs_take : (k : ℕ) (xs : List A) (ys : List B) → AllPairs P xs ys → AllPairs P (take k xs) (take k ys)
    pairs_take zero [] [] h = tt
    pairs_take zero [] (y ∷ ys) h = absurd h
    pairs_take zero (x ∷ xs) [] h = absurd h
    pairs_take zero (x ∷ xs) (y ∷ ys) h = tt
    pairs_take (suc k) [] [] h = tt
    pairs_take (suc k) [] (y ∷ ys) h = absurd h
    pairs_take (suc k) (x ∷ xs) [] h = absurd h
    pairs_take (suc k) (x ∷ xs) (y ∷ ys) h = (h.0, pairs_take k xs ys h.1)

    pub pairs_drop : (k : ℕ) (xs : List A) (ys : List B) → AllPairs P xs ys → AllPairs P (drop k xs) (drop k ys)
    pairs_drop zero [] [] h = tt
    pairs_drop zero [] (y ∷ ys) h = absurd h
    pairs_drop zero (x ∷ xs) [] h = absurd h
    pairs_drop zero (x ∷ xs) (y ∷ ys) h = h
    pairs_drop (suc k) [] [] h = tt
    pairs_drop (suc k) [] (y ∷ ys) h = absurd h
    pairs_drop (suc k) (x ∷ xs) [] h = absurd h
    pairs_drop (suc k) (x ∷ xs) (y ∷ ys) h = pairs_drop k xs ys h.1

-- numbers that rise
pub rises_left : (xs ys : List Asked) → Rises (xs ++ ys) → Rises ys
rises_left [] ys r = r
rises_left (x ∷ xs) ys r = rises_left xs ys r.1

pub rises_first : (xs ys : List Asked) → Rises (xs ++ ys) → Rises xs
rises_first [] ys r = tt
rises_first (x ∷ xs) ys r = (all_first (λ b. x.number < b.number) xs ys r.0, rises_first xs ys r.1)
  where
    all_first : (P : Asked → Type 0) (us vs : List Asked) → AllByRecursion P (us ++ vs) → AllByRecursion P us
    all_first P [] vs a = tt
    all_first P (u ∷ us) vs a = (a.0, all_first P us vs a.1)

pub rises_apart : (xs ys : List Asked) (a b : Asked) → Rises (xs ++ ys) → Contains xs a → Contains ys b → a.number < b.number
rises_apart [] ys a b r c d = absurd (none_in a c)
rises_apart (x ∷ xs) ys a b r c d =
    ⊎_elim
    (λ q. subst (λ (y : Asked). y.number < b.number) q (element (λ b. x.number < b.number) (xs ++ ys) b r.0 (Contains-append_right xs ys b d)))
    (λ q. rises_apart xs ys a b r.1 q d)
    (first_or x xs a c)

pub rises_more : (xs : List Asked) (b : Asked) → Rises xs → ((a : Asked) → Contains xs a → a.number < b.number) → Rises (xs ++ b ∷ [])
rises_more [] b r f = (tt, tt)
rises_more (x ∷ xs) b r f = (all_more (λ c. x.number < c.number) xs b r.0 (f x (here x xs)), rises_more xs b r.1 (λ a c. f a (there x xs a c)))
  where
    all_more : (P : Asked → Type 0) (xs : List Asked) (b : Asked) → AllByRecursion P xs → P b → AllByRecursion P (xs ++ b ∷ [])
    all_more P [] b a p = (p, tt)
    all_more P (y ∷ ys) b a p = (a.0, all_more P ys b a.1 p)

pub contains_take : {A : Type 0} (k : ℕ) (xs : List A) (x : A) → Contains (take k xs) x → Contains xs x
contains_take k xs x c = subst (λ ys. Contains ys x) (sym (split_at k xs)) (Contains-append_left (take k xs) (drop k xs) x c)

pub all_in : {A : Type 0} (P : A → Type 0) (xs : List A) → ((x : A) → Contains xs x → P x) → AllByRecursion P xs
all_in P [] f = tt
all_in P (x ∷ xs) f = (f x (here x xs), all_in P xs (λ y c. f y (there x xs y c)))

-- what holds of all, as f makes other elements of them, or of those that pass a test
pub all_map : {A B : Type 0} (P : A → Type 0) (Q : B → Type 0) (f : A → B) → ((x : A) → P x → Q (f x)) → (xs : List A) → AllByRecursion P xs → AllByRecursion Q (map f xs)
all_map P Q f g [] h = tt
all_map P Q f g (x ∷ xs) h = (g x h.0, all_map P Q f g xs h.1)

all_kept : {A : Type 0} (P : A → Type 0) (b : Bool) (x : A) (xs : List A) → P x → AllByRecursion P xs → AllByRecursion P (if b then x ∷ xs else xs)
all_kept P true x xs h more = (h, more)
all_kept P false x xs h more = more

pub all_filter : {A : Type 0} (P : A → Type 0) (test : A → Bool) (xs : List A) → AllByRecursion P xs → AllByRecursion P (filter test xs)
all_filter P test [] h = tt
all_filter P test (x ∷ xs) h = all_kept P (test x) x (filter test xs) h.0 (all_filter P test xs h.1)

pub all_append : {A : Type 0} (P : A → Type 0) (xs ys : List A) → AllByRecursion P xs → AllByRecursion P ys → AllByRecursion P (xs ++ ys)
all_append P [] ys a b = b
all_append P (x ∷ xs) ys a b = (a.0, all_append P xs ys a.1 b)

pub slot_map : {A B : Type 0} (f : A → B) (xs : List A) (k : ℕ) (x : A) → slice_get xs k ≡ Some x → slice_get (map f xs) k ≡ Some (f x)
slot_map f [] k x e = absurd (slot_none k x e)
slot_map f (y ∷ xs) zero x e = let z : y ≡ x = cc in ap (λ u. Some (f u)) z
slot_map f (y ∷ xs) (suc k) x e = slot_map f xs k x e

pub map_slot : {A B : Type 0} (f : A → B) (xs : List A) (k : ℕ) (y : B) → slice_get (map f xs) k ≡ Some y → (x : A) × (slice_get xs k ≡ Some x) × (f x ≡ y)
map_slot f [] k y e = absurd (slot_none k y e)
map_slot f (x ∷ xs) zero y e = (x, refl, (let z : f x ≡ y = cc in z))
map_slot f (x ∷ xs) (suc k) y e = map_slot f xs k y e
