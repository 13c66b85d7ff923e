-- What the granted value is: a voter's that a quorum has reached, with no such value above it.
use Rattle.std.specs.Prelude.{◌≡◌, Bool, true, false, List, [], ◌∷◌, Option, None, Some, IfSome, Contains, map, filter, fold, unwrap_or, refl}
use Rattle.std.specs.List.{AllByRecursion}
use Rattle.std.specs.declared.cmp.Ordering.{Ordering}
use Rattle.std.specs.declared.cmp.Ordering.TheVariants.{Less, Equal, Greater}
use Rattle.std.specs.Cmp.{IsTotalOrder, upto, tied_itself}
use Rattle.std.specs.Ordering.{is_lt, is_le, is_gt, ordering_reverse}
use Rattle.std.proofs.Common.{sym, ap, ◌∙◌, cond}
use Rattle.std.proofs.lemmas.List.Elements.{All-contains_itself, recursion_from_All}
use Rattle.raft_progress.specs.Table.{Table, voter_rows, is_above, greater, greatest, holders, granted}

not_above : (r : Ordering) → is_gt r ≡ false → is_le r ≡ true
not_above Less e = refl
not_above Equal e = refl
not_above Greater e = let f : true ≡ false = e in cc

above_not : (r : Ordering) → is_le r ≡ true → is_gt r ≡ false
above_not Less e = refl
above_not Equal e = refl
above_not Greater e = let f : false ≡ true = e in cc

below_not_above : (r : Ordering) → is_lt r ≡ true → is_gt r ≡ false
below_not_above Less e = refl
below_not_above Equal e = refl
below_not_above Greater e = let f : false ≡ true = e in cc

turned_le : (r : Ordering) → is_lt r ≡ false → is_le (ordering_reverse r) ≡ true
turned_le Less e = let f : true ≡ false = e in cc
turned_le Equal e = refl
turned_le Greater e = refl

module _ {P : Type 0} (cmp : P → P → Ordering) where
  -- a value that is there, and not below p
  abbrev pub AtLeast : Option P → P → Type 0
  AtLeast None p = ⊥
  AtLeast (Some q) p = is_le (cmp p q) ≡ true

  module _ (total : IsTotalOrder cmp) where
    le_itself : (p : P) → is_le (cmp p p) ≡ true
    le_itself p = ap is_le (tied_itself total p)

    takes_step : (q p : P) (b : Bool) → is_lt (cmp q p) ≡ b → AtLeast (cond b (Some p) (Some q)) p
    takes_step q p true e = le_itself p
    takes_step q p false e = ap is_le (total.antisymm p q) ∙ turned_le (cmp q p) e

    takes : (o : Option P) (p : P) → AtLeast (greater cmp o p) p
    takes None p = le_itself p
    takes (Some q) p = takes_step q p (is_lt (cmp q p)) refl

    keeps_step : (q p x : P) (b : Bool) → is_lt (cmp q p) ≡ b → is_le (cmp x q) ≡ true → AtLeast (cond b (Some p) (Some q)) x
    keeps_step q p x true e h = not_above (cmp x p) (upto total x q p (above_not (cmp x q) h) (below_not_above (cmp q p) e))
    keeps_step q p x false e h = h

    keeps : (o : Option P) (p x : P) → AtLeast o x → AtLeast (greater cmp o p) x
    keeps None p x h = absurd h
    keeps (Some q) p x h = keeps_step q p x (is_lt (cmp q p)) refl h

    keeps_all : (ps : List P) (o : Option P) (x : P) → AtLeast o x → AtLeast (fold (greater cmp) o ps) x
    keeps_all [] o x h = h
    keeps_all (p ∷ ps) o x h = keeps_all ps (greater cmp o p) x (keeps o p x h)

    module _ (q : P → Bool) where
      -- the greatest of what passes is at least each that passes
      tops_step : (p : P) (ps : List P) (o : Option P) (b : Bool) → q p ≡ b
          → ((o : Option P) → AllByRecursion (λ x. q x ≡ true → AtLeast (fold (greater cmp) o (filter q ps)) x) ps)
          → AllByRecursion (λ x. q x ≡ true → AtLeast (fold (greater cmp) o (cond b (p ∷ filter q ps) (filter q ps))) x) (p ∷ ps)
      tops_step p ps o true e rest = ((λ _. keeps_all (filter q ps) (greater cmp o p) p (takes o p)), rest (greater cmp o p))
      tops_step p ps o false e rest = ((λ h. let f : false ≡ true = sym e ∙ h in absurd cc), rest o)

      tops : (ps : List P) (o : Option P) → AllByRecursion (λ x. q x ≡ true → AtLeast (fold (greater cmp) o (filter q ps)) x) ps
      tops [] o = tt
      tops (p ∷ ps) o = tops_step p ps o (q p) refl (λ o. tops ps o)

  module _ (q : P → Bool) (all : List P) where
    -- a value, if any, that passes and is one of all
    abbrev pub IsFound : Option P → Type 0
    IsFound o = IfSome o (λ p. (q p ≡ true) × Contains all p)

    greater_found : (o : Option P) (p : P) (b : Bool) → IsFound o → q p ≡ true → Contains all p → IsFound (cond b (Some p) o)
    greater_found o p true h e c = (e, c)
    greater_found o p false h e c = h

    found_step : (p : P) (ps : List P) (o : Option P) (b : Bool) → q p ≡ b → Contains all p → IsFound o
        → ((o : Option P) → IsFound o → IsFound (fold (greater cmp) o (filter q ps)))
        → IsFound (fold (greater cmp) o (cond b (p ∷ filter q ps) (filter q ps)))
    found_step p ps o true e c h rest = rest (greater cmp o p) (greater_found o p (is_above cmp o p) h e c)
    found_step p ps o false e c h rest = rest o h

    finds : (ps : List P) → AllByRecursion (Contains all) ps → (o : Option P) → IsFound o → IsFound (fold (greater cmp) o (filter q ps))
    finds [] a o h = h
    finds (p ∷ ps) a o h = found_step p ps o (q p) refl a.0 h (λ o k. finds ps a.1 o k)

module _ {ID V P Q : Type 0} (is_quorum : Q → List ID → Bool) (cmp : P → P → Ordering) (measure : V → P) where
  -- a quorum has reached p
  abbrev pub is_reached : Table ID V P Q → P → Bool
  is_reached t p = is_quorum t.set (holders cmp measure (voter_rows t) p)

  -- the voters' values
  abbrev pub voter_values : Table ID V P Q → List P
  voter_values t = map (λ row. measure row.1) (voter_rows t)

  -- the greatest value of a voter that a quorum has reached, if any
  abbrev pub granted_of : Table ID V P Q → Option P
  granted_of t = greatest cmp (filter (is_reached t) (voter_values t))

  -- the granted value is that one, or else the default
  pub granted_is : (t : Table ID V P Q) → granted is_quorum cmp measure t ≡ unwrap_or (granted_of t) t.default
  granted_is t = refl

  -- it is a voter's, and a quorum has reached it
  pub granted_is_reached : (t : Table ID V P Q) → IfSome (granted_of t) (λ p. (is_reached t p ≡ true) × Contains (voter_values t) p)
  granted_is_reached t =
      finds cmp (is_reached t) (voter_values t) (voter_values t) (recursion_from_All (Contains (voter_values t)) (voter_values t) (All-contains_itself (voter_values t))) None tt

  -- and it is there and at least each voter's value that a quorum has reached
  pub granted_is_greatest : IsTotalOrder cmp → (t : Table ID V P Q) → AllByRecursion (λ p. is_reached t p ≡ true → AtLeast cmp (granted_of t) p) (voter_values t)
  granted_is_greatest total t = tops cmp total (is_reached t) (voter_values t) None
