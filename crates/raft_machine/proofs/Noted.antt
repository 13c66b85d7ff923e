-- What is noted of deadlines after each call of the set.
use Rattle.std.proofs.Common.{◌≡◌, ℕ, ◌<◌, ◌≤◌, Bool, true, false, cond, leb, List, [], ◌∷◌, refl, sym, ap, subst, ◌∙◌, inl, inr, arith}
use Rattle.std.specs.Prelude.{Some, slice_get, ◌⊎◌, ◌||◌, Result, Ok, Err, OnOk, OnErr}
use Rattle.std.specs.Bool.{OnTrue, OnFalse}
use Rattle.std.proofs.lemmas.Option.{none-some, same_Some}
use Rattle.std.specs.BTreeMap.Range.{IsLeBy}
use Rattle.std.specs.List.{list_any, All, AllByRecursion}
use Rattle.std.proofs.lemmas.List.Elements.{recursion_from_All}
use Rattle.std.specs.Ordering.{nat_cmp, ordering_then, is_eq, is_gt, match_ordering}
use Rattle.std.specs.declared.cmp.Ordering.{Ordering}
use Rattle.std.specs.declared.cmp.Ordering.TheVariants.{Less, Equal, Greater}
use Rattle.std.specs.Cmp.Lexicographic.{slice_cmp}
use Rattle.std.specs.Global.{Vec}
use Rattle.std.specs.BTreeSet.{insert_key, IsUnchanged}
use Rattle.std.specs.Set.{remove_key}
use Rattle.std.specs.BTreeMap.{is_at}
use Rattle.std.proofs.lemmas.Map.Lookups.{exact_pairs, exact_unsigned, exact_bytes}
use Rattle.std.proofs.lemmas.Bool.{false≢true}
use Rattle.std.proofs.lemmas.Bool.Decides.{nat_tests}
use Rattle.raft_machine.specs.Deadlines.{Noted, has, against, KeepsAll, KeepsAllBut, IsDue}

abbrev pub pair_cmp : ℕ × Vec ℕ → ℕ × Vec ℕ → Ordering
pair_cmp x y = ordering_then (nat_cmp x.0 y.0) (slice_cmp nat_cmp x.1.items y.1.items)

equal : (r : Ordering) → is_eq r ≡ true → r ≡ Equal
equal Less p = absurd cc
equal Equal p = refl
equal Greater p = absurd cc

-- what a moment and a key compare equal to has both
pub tied : (t : ℕ) (k : List ℕ) (x : ℕ × Vec ℕ) → is_at (against t k) x ≡ true → (t ≡ x.0) × (k ≡ x.1.items)
tied t k x h =
    let both = exact_pairs nat_cmp (slice_cmp nat_cmp) exact_unsigned exact_bytes (t, k) (x.0, x.1.items) (equal _ h) in
    (ap (λ (p : ℕ × List ℕ). p.0) both, ap (λ (p : ℕ × List ℕ). p.1) both)

either : (a b : Bool) → (a || b) ≡ true → (a ≡ true) ⊎ (b ≡ true)
either true b h = inl refl
either false b h = inr h

right : (a b : Bool) → b ≡ true → (a || b) ≡ true
right true b h = refl
right false b h = h

both_right : (a b c : Bool) → (a || b) ≡ true → (b ≡ true → c ≡ true) → (a || c) ≡ true
both_right true b c h f = refl
both_right false b c h f = f h

pub any-insert_key : (p : ℕ × Vec ℕ → Bool) (xs : List (ℕ × Vec ℕ)) (x : ℕ × Vec ℕ) → list_any p xs ≡ true → list_any p (insert_key pair_cmp xs x) ≡ true
any-insert_key p [] x h = absurd (false≢true h)
any-insert_key p (y ∷ ys) x h =
    elim (pair_cmp x y) as (λ o. list_any p (match_ordering o (x ∷ y ∷ ys) (y ∷ ys) (y ∷ insert_key pair_cmp ys x)) ≡ true) [
      | Less ↦ right (p x) _ h
      | Equal ↦ h
      | Greater ↦ both_right (p y) (list_any p ys) _ h (any-insert_key p ys x)
    ]

pub any-remove_key : (t : ℕ) (k : List ℕ) (u : ℕ) (l : List ℕ) (xs : List (ℕ × Vec ℕ)) → ¬ ((t ≡ u) × (k ≡ l)) → list_any (is_at (against t k)) xs ≡ true → list_any (is_at (against t k)) (remove_key (is_at (against u l)) xs) ≡ true
any-remove_key t k u l [] other h = absurd (false≢true h)
any-remove_key t k u l (y ∷ ys) other h =
    elim (is_at (against u l) y) as (λ b. is_at (against u l) y ≡ b → list_any (is_at (against t k)) (cond b ys (y ∷ remove_key (is_at (against u l)) ys)) ≡ true) [
      | true ↦ λ e. elim (either (is_at (against t k) y) _ h) [
        | inl here ↦ let a = tied t k y here in let b = tied u l y e in absurd (other (a.0 ∙ sym b.0, a.1 ∙ sym b.1))
        | inr later ↦ later
      ]
      | false ↦ λ e. both_right (is_at (against t k) y) (list_any (is_at (against t k)) ys) _ h (any-remove_key t k u l ys other)
    ] refl

pub any-first : (t : ℕ) (k : List ℕ) (x : ℕ × Vec ℕ) (xs : List (ℕ × Vec ℕ)) → list_any (is_at (against t k)) (x ∷ xs) ≡ true → ((t ≡ x.0) × (k ≡ x.1.items)) ⊎ (list_any (is_at (against t k)) xs ≡ true)
any-first t k x xs h =
    elim (either (is_at (against t k) x) _ h) [ inl here ↦ inl (tied t k x here) | inr later ↦ inr later ]

-- the first moment is the least
no_earlier : (a b : ℕ) (o : Ordering) → is_gt (ordering_then (nat_cmp a b) o) ≡ false → a ≤ b
no_earlier a b Less h = grind (arith, nat_tests)
no_earlier a b Equal h = grind (arith, nat_tests)
no_earlier a b Greater h = grind (arith, nat_tests)

pub all_later : (now : ℕ) (first : ℕ × Vec ℕ) (xs : List (ℕ × Vec ℕ)) → AllByRecursion (λ x. is_gt (pair_cmp first x) ≡ false) xs → now < first.0 → (t : ℕ) (k : List ℕ) → list_any (is_at (against t k)) xs ≡ true → now < t
all_later now first [] le lt t k h = absurd (false≢true h)
all_later now first (y ∷ ys) le lt t k h =
    elim (either (is_at (against t k) y) _ h) [
      | inl here ↦ let e = (tied t k y here).0 in let below = no_earlier first.0 y.0 _ le.0 in omega arith
      | inr later ↦ all_later now first ys le.1 lt t k later
    ]

-- after an insert, whether memory ran out or not
pub kept : {X E : Type 0} (r : Result X E) (m n : Noted) (x : ℕ × Vec ℕ) → OnOk r (n.keys ≡ insert_key pair_cmp m.keys x) → OnErr r (IsUnchanged m n) → KeepsAll m n
kept (Ok v) m n x done unchanged t k h = subst (λ (ks : List (ℕ × Vec ℕ)). list_any (is_at (against t k)) ks ≡ true) (sym done) (any-insert_key (is_at (against t k)) m.keys x h)
kept (Err e) m n x done unchanged t k h = subst (λ (ks : List (ℕ × Vec ℕ)). list_any (is_at (against t k)) ks ≡ true) (sym unchanged) h

pub kept_but : (m n : Noted) (u : ℕ) (l : List ℕ) → n.keys ≡ remove_key (is_at (against u l)) m.keys → KeepsAllBut m n u l
kept_but m n u l done t k other h = subst (λ (ks : List (ℕ × Vec ℕ)). list_any (is_at (against t k)) ks ≡ true) (sym done) (any-remove_key t k u l m.keys other h)

pub none_due : (now : ℕ) (first : ℕ × Vec ℕ) (m : Noted) → All (IsLeBy pair_cmp first) m.keys → OnFalse (leb first.0 now) ((t : ℕ) (k : List ℕ) → has m t k ≡ true → now < t)
none_due now first m le =
    elim (leb first.0 now) as (λ b. leb first.0 now ≡ b → OnFalse b ((t : ℕ) (k : List ℕ) → has m t k ≡ true → now < t)) [
      | true ↦ λ e. tt
      | false ↦ λ e. all_later now first m.keys (recursion_from_All _ m.keys le) (grind (arith, nat_tests))
    ] refl

pub first_due : (now : ℕ) (xs : List (ℕ × Vec ℕ)) (x : ℕ × Vec ℕ) → slice_get xs 0 ≡ Some x → OnTrue (leb x.0 now) (IsDue xs now)
first_due now [] x e = absurd (none-some x e)
first_due now (y ∷ ys) x e =
    elim (leb x.0 now) as (λ b. leb x.0 now ≡ b → OnTrue b (y.0 ≤ now)) [
      | true ↦ λ le. subst (λ (z : ℕ × Vec ℕ). z.0 ≤ now) (sym (same_Some y x e)) (grind (arith, nat_tests))
      | false ↦ λ gt. tt
    ] refl
