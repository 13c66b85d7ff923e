-- Elements of a list from which some are taken out.
use Rattle.std.proofs.Common.{ℕ, zero, suc, ◌≡◌, ◌<◌, ◌⊎◌, Bool, true, false, List, [], ◌∷◌, ◌++◌, ⊎_elim, inl, inr, refl, sym, subst, length, get_or, arith}
use Rattle.std.specs.List.{Contains, items_where_true, swap_remove}
use Rattle.std.proofs.lemmas.List.Elements.{Contains-push_cases}
use Rattle.std.proofs.lemmas.List.Sorted.{Contains-permutation, IsPermutation-swap_remove, IsPermutation-sym}

module _ {X : Type 0} where
  here : (x : X) (xs : List X) → Contains (x ∷ xs) x
  here x xs = (0, omega arith, refl)

  there : (y : X) (xs : List X) (x : X) → Contains xs x → Contains (y ∷ xs) x
  there y xs x (k, l, e) = (suc k, omega (arith, l), e)

  first_or : (y : X) (ys : List X) (x : X) → Contains (y ∷ ys) x → (y ≡ x) ⊎ Contains ys x
  first_or y ys x (zero, l, e) = inl e
  first_or y ys x (suc k, l, e) = inr (k, omega (arith, l), e)

  where_true : (bs : List Bool) (xs : List X) (x : X) → Contains (items_where_true bs xs) x → Contains xs x
  where_true [] xs x c = absurd (omega (arith, c.1))
  where_true (b ∷ bs) [] x c = absurd (omega (arith, c.1))
  where_true (true ∷ bs) (y ∷ xs) x c =
      ⊎_elim (λ e. subst (Contains (y ∷ xs)) e (here y xs)) (λ d. there y xs x (where_true bs xs x d)) (first_or y (items_where_true bs xs) x c)
  where_true (false ∷ bs) (y ∷ xs) x c = there y xs x (where_true bs xs x c)

  -- what `retain` leaves was there
  pub retained : (bs : List Bool) (xs ys : List X) → ys ≡ items_where_true bs xs → (x : X) → Contains ys x → Contains xs x
  retained bs xs ys is x c = where_true bs xs x (subst (λ (zs : List X). Contains zs x) is c)

  -- what `swap_remove` gives was there, and what it leaves
  pub swapped_out : (xs : List X) (i : ℕ) (x : X) → i < length xs → x ≡ get_or xs i x → Contains xs x
  swapped_out xs i x l e = (i, l, sym e)

  pub swap_left : (xs ys : List X) (i : ℕ) (x : X) → i < length xs → x ≡ get_or xs i x → ys ≡ swap_remove xs i x → (y : X) → Contains ys y
      → Contains xs y
  swap_left xs ys i x l e is y c =
      Contains-permutation (x ∷ swap_remove xs i x) xs y
      (IsPermutation-sym xs (x ∷ swap_remove xs i x) (IsPermutation-swap_remove xs i x l e))
      (there x (swap_remove xs i x) y (subst (λ (zs : List X). Contains zs y) is c))

  -- one more behind what is left of a list: another, or one that was there
  pub pushed : (old mid new : List X) (y : X) → ((x : X) → Contains mid x → Contains old x) → new ≡ mid ++ y ∷ [] → (x : X) → Contains new x
      → Contains old x ⊎ (x ≡ y)
  pushed old mid new y kept is x c =
      ⊎_elim (λ d. inl (kept x d)) (λ e. inr (sym e)) (Contains-push_cases mid y x (subst (λ (zs : List X). Contains zs x) is c))

  pub pushed_back : (old mid new : List X) (y : X) → ((x : X) → Contains mid x → Contains old x) → Contains old y → new ≡ mid ++ y ∷ [] → (x : X)
      → Contains new x → Contains old x
  pushed_back old mid new y kept was is x c = ⊎_elim (λ d. d) (λ e. subst (Contains old) (sym e) was) (pushed old mid new y kept is x c)
