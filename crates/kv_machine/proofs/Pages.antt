-- What of a range's keys is asked for.
use Rattle.std.proofs.Common.{◌≡◌, ℕ, suc, ◌+◌, ◌-◌, ◌^◌, ◌<◌, ◌≤◌, length, take, ◌++◌, Bool, true, false, cond, ◌&&◌, ◌||◌, eqb, List, [], ◌∷◌, refl, sym, ap, subst, ◌∙◌, arith}
use Rattle.std.proofs.lemmas.List.{length-append, length-map, append-nil, append_assoc, take_all}
use Rattle.std.specs.Prelude.{map, filter, ◌==◌, nat_le}
use Rattle.std.proofs.lemmas.Bool.{eqb-true}
use Rattle.std.proofs.lemmas.Bool.Decides.{nat_tests}
use Rattle.kv_machine.specs.declared.key_value.KeyValue.{KeyValue}
use Rattle.kv_machine.specs.declared.request.RangeRequest.{RangeRequest}
use Rattle.kv_machine.specs.Ranges.{is_asked, is_at_least, is_at_most, is_unbounded}

filter_all : {X : Type 0} (p : X → Bool) → ((x : X) → p x ≡ true) → (xs : List X) → filter p xs ≡ xs
filter_all p h [] = refl
filter_all p h (x ∷ xs) = ap (λ b. cond b (x ∷ filter p xs) (filter p xs)) (h x) ∙ ap (λ ys. x ∷ ys) (filter_all p h xs)

left_true : (a b : Bool) → (a && b) ≡ true → a ≡ true
left_true true b h = refl
left_true false b h = h

right_true : (a b : Bool) → (a && b) ≡ true → b ≡ true
right_true true b h = h
right_true false b h = absurd cc

both_true : (a b : Bool) → a ≡ true → b ≡ true → (a && b) ≡ true
both_true true b p q = q
both_true false b p q = p

any_most : (most n : ℕ) → (most == 0) ≡ true → is_at_most most n ≡ true
any_most most n h = ap (λ b. b || nat_le n most) h

any_least : (least n : ℕ) → (least == 0) ≡ true → is_at_least least n ≡ true
any_least least n h = let e : least ≡ 0 = eqb-true least 0 h in ap (λ k. nat_le k n) e ∙ grind (arith, nat_tests)

all_asked : (r : RangeRequest) → is_unbounded r ≡ true → (kv : KeyValue) → is_asked r kv ≡ true
all_asked r h kv =
    let a = r.min_mod_revision == 0 in
    let b = r.max_mod_revision == 0 in
    let c = r.min_create_revision == 0 in
    let d = r.max_create_revision == 0 in
    let abc = left_true ((a && b) && c) d h in
    let ab = left_true (a && b) c abc in
    let s = kv.stored in
    let p = is_at_most r.max_mod_revision s.mod_revision in
    let q = is_at_least r.min_mod_revision s.mod_revision in
    let t = is_at_most r.max_create_revision s.create_revision in
    let u = is_at_least r.min_create_revision s.create_revision in
    both_true ((p && q) && t) u
    (both_true (p && q) t
    (both_true p q (any_most r.max_mod_revision s.mod_revision (right_true a b ab)) (any_least r.min_mod_revision s.mod_revision (left_true a b ab)))
    (any_most r.max_create_revision s.create_revision (right_true ((a && b) && c) d h)))
    (any_least r.min_create_revision s.create_revision (right_true (a && b) c abc))

pub unbounded : (r : RangeRequest) (kvs : List KeyValue) → is_unbounded r ≡ true → kvs ≡ filter (is_asked r) kvs
unbounded r kvs h = sym (filter_all (is_asked r) (all_asked r h) kvs)

-- ---- copies of the first keys

pub copied_more : {X : Type 0} (xs rest : List X) (x : X) (n : ℕ) (to : List X) → length xs < n
    → xs ++ take (n - length xs) (x ∷ rest) ≡ to → (xs ++ x ∷ []) ++ take (n - length (xs ++ x ∷ [])) rest ≡ to
copied_more xs rest x n to few h =
    let longer = length-append xs (x ∷ []) in
    let one : n - length xs ≡ suc (n - length (xs ++ x ∷ [])) = omega (arith, longer) in
    append_assoc xs (x ∷ []) (take (n - length (xs ++ x ∷ [])) rest) ∙ ap (λ k. xs ++ take k (x ∷ rest)) (sym one) ∙ h

pub copied_all : {X : Type 0} (xs to : List X) (n : ℕ) (left : List X) → n ≤ length xs → xs ++ take (n - length xs) left ≡ to → xs ≡ to
copied_all xs to n left full h =
    let none : n - length xs ≡ 0 = omega arith in
    sym (append-nil xs) ∙ ap (λ k. xs ++ take k left) (sym none) ∙ h

pub copied_end : {X : Type 0} (xs to : List X) (k : ℕ) → xs ++ take k [] ≡ to → xs ≡ to
copied_end xs to k h = sym (append-nil xs) ∙ ap (λ ys. xs ++ ys) (sym (take_all k [] (omega arith))) ∙ h

pub all_taken : {X Y : Type 0} (f : X → Y) (xs : List X) → length xs < 2 ^ 63 → take (2 ^ 64) (map f xs) ≡ map f xs
all_taken f xs few = let e = length-map xs f in take_all (2 ^ 64) (map f xs) (omega arith)
