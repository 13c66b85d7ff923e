-- Logs that agree on their first entries, and a function with another value at one place.
use Rattle.std.proofs.Common.{ℕ, suc, ◌<◌, ◌≤◌, ◌≡◌, ◌≢◌, ◌⊎◌, inl, inr, ⊎_elim, Bool, true, false, cond, eqb, arith, refl, sym, ap, ◌∙◌, subst}
use Rattle.std.proofs.lemmas.Bool.{eqb-true, eqb-false}
use Rattle.std.proofs.lemmas.Bool.{cases_lt}
use Rattle.proof_agreement.specs.Machine.{Log, Entry, Agree, updated, AtOrBelow, push, acknowledge}

module _ {A : Type 0} where
  pub Agree-sym : {m : ℕ} {X Y : Log A} → Agree m X Y → Agree m Y X
  Agree-sym a = record { left = a.right; right = a.left; same = λ i h. sym (a.same i h) }

  pub Agree-trans : {m : ℕ} {X Y Z : Log A} → Agree m X Y → Agree m Y Z → Agree m X Z
  Agree-trans a b = record { left = a.left; right = b.right; same = λ i h. a.same i h ∙ b.same i h }

  pub Agree-less : {m : ℕ} {X Y : Log A} (k : ℕ) → k ≤ m → Agree m X Y → Agree k X Y
  Agree-less k l a =
      record {
        left = omega (arith, a.left);
        right = omega (arith, a.right);
        same = λ i h. a.same i (omega arith);
      }

  pub Agree-refl : (m : ℕ) (X : Log A) → m ≤ X.len → Agree m X X
  Agree-refl m X h = record { left = h; right = h; same = λ i _. refl }

  -- a log that was cut or grown past m still holds what the old one held
  pub Agree-cut : {m : ℕ} (n : ℕ) {X Y : Log A} → m ≤ n → Agree m X Y → Agree m (record { len = n; at = X.at }) Y
  Agree-cut n l a = record { left = l; right = a.right; same = λ i h. a.same i h }

pub updated_all : {X : Type 0} (P : ℕ → X → Type 0) (f : ℕ → X) (n : ℕ) (x : X) → P n x → ((m : ℕ) → m ≢ n → P m (f m)) → (m : ℕ) → P m (updated f n x m)
updated_all P f n x h k m = go (eqb m n) refl
  where
    go : (b : Bool) → eqb m n ≡ b → P m (cond b x (f m))
    go true e = subst (λ j. P j x) (sym (eqb-true m n e)) h
    go false e = k m (eqb-false m n e)

pub updated_same : {X : Type 0} (f : ℕ → X) (n : ℕ) (x : X) → updated f n x n ≡ x
updated_same f n x = updated_all (λ m y. m ≡ n → y ≡ x) f n x (λ _. refl) (λ m ne e. absurd (ne e)) n refl

pub updated_other : {X : Type 0} (f : ℕ → X) (n : ℕ) (x : X) (m : ℕ) → m ≢ n → updated f n x m ≡ f m
updated_other f n x m = updated_all (λ m y. m ≢ n → y ≡ f m) f n x (λ ne. absurd (ne refl)) (λ m _ _. refl) m

pub AtOrBelow-trans : (a n b m c k : ℕ) → AtOrBelow a n b m → AtOrBelow b m c k → AtOrBelow a n c k
AtOrBelow-trans a n b m c k (inl h) (inl i) = inl (omega arith)
AtOrBelow-trans a n b m c k (inl h) (inr i) = inl (omega (arith, i.0))
AtOrBelow-trans a n b m c k (inr h) (inl i) = inl (omega (arith, h.0))
AtOrBelow-trans a n b m c k (inr h) (inr i) = inr (h.0 ∙ i.0, omega (arith, h.1, i.1))

module _ {A : Type 0} where
  pub push-grows : (X : Log A) (e : Entry A) → Agree X.len X (push X e)
  push-grows X e = record { left = omega arith; right = omega arith; same = λ i h. sym (updated_other X.at X.len e i (omega arith)) }

  pub push-agree : (X Y : Log A) (e : Entry A) → X.len ≡ Y.len → Agree X.len X Y → Agree (suc X.len) (push X e) (push Y e)
  push-agree X Y e p a =
      record {
        left = omega arith;
        right = omega arith;
        same = λ i h.
            ⊎_elim
            (λ l. updated_other X.at X.len e i (omega arith) ∙ (a.same i l ∙ sym (updated_other Y.at Y.len e i (omega arith))))
            (λ l. let q : i ≡ X.len = omega arith in at_end i q (q ∙ p))
            (cases_lt i X.len);
      }
    where
      at_end : (i : ℕ) → i ≡ X.len → i ≡ Y.len → updated X.at X.len e i ≡ updated Y.at Y.len e i
      at_end i q r = subst (λ j. updated X.at X.len e j ≡ e) (sym q) (updated_same X.at X.len e) ∙ sym (subst (λ j. updated Y.at Y.len e j ≡ e) (sym r) (updated_same Y.at Y.len e))

pub acknowledged_cases : (f : ℕ → ℕ → ℕ) (n d y m e k : ℕ) → k < acknowledge f n d y m e → (k < f m e) ⊎ ((m ≡ n) × (e ≡ d) × (k < y))
acknowledged_cases f n d y m =
    updated_all (λ j g. (e k : ℕ) → k < g e → (k < f j e) ⊎ ((j ≡ n) × (e ≡ d) × (k < y))) f n (updated (f n) d y)
    (updated_all (λ e c. (k : ℕ) → k < c → (k < f n e) ⊎ ((n ≡ n) × (e ≡ d) × (k < y))) (f n) d y (λ k l. inr (refl, refl, l)) (λ e _ k l. inl l))
    (λ j _ e k l. inl l) m

pub acknowledged_more : (f : ℕ → ℕ → ℕ) (n d y : ℕ) → f n d ≤ y → (m e : ℕ) → f m e ≤ acknowledge f n d y m e
acknowledged_more f n d y h =
    updated_all (λ j g. (e : ℕ) → f j e ≤ g e) f n (updated (f n) d y)
    (updated_all (λ e c. f n e ≤ c) (f n) d y h (λ e _. omega arith))
    (λ j _ e. omega arith)

pub acknowledged_at : (f : ℕ → ℕ → ℕ) (n d y : ℕ) → acknowledge f n d y n d ≡ y
acknowledged_at f n d y = ap (λ g. g d) (updated_same f n (updated (f n) d y)) ∙ updated_same (f n) d y
