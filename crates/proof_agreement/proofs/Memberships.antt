-- The place of the last membership of a log's first entries.
use Rattle.std.proofs.Common.{ℕ, zero, suc, ◌<◌, ◌≤◌, ◌≡◌, ⊎_elim, Bool, true, false, cond, arith, refl, sym, ap, ◌∙◌, subst}
use Rattle.std.proofs.lemmas.Bool.{cases_lt, cases_order, true≢false}
use Rattle.proof_agreement.specs.Machine.{Entry, Log, Setup, Agree, IsQuorum, last_membership, effective_membership}

module _ {A : Type 0} (s : Setup A) where
  -- the entry at i is a membership
  abbrev pub IsMembership : (ℕ → Entry A) → ℕ → Type 0
  IsMembership f i = s.is_membership (f i).payload ≡ true

  pub last-same : (f g : ℕ → Entry A) (m : ℕ) → ((i : ℕ) → i < m → f i ≡ g i) → last_membership s f m ≡ last_membership s g m
  last-same f g zero h = refl
  last-same f g (suc m) h =
      let e : f m ≡ g m = h m (omega arith) in
      let t : last_membership s f m ≡ last_membership s g m = last-same f g m (λ i l. h i (omega arith)) in
      ap (λ b. cond b m (last_membership s f m)) (ap (λ x. s.is_membership x.payload) e) ∙ ap (λ y. cond (s.is_membership (g m).payload) m y) t

  lt_step : (f : ℕ → Entry A) (m : ℕ) → (0 < m → last_membership s f m < m) → (b : Bool) → cond b m (last_membership s f m) < suc m
  lt_step f m ih true = omega arith
  lt_step f m ih false =
      ⊎_elim
      (λ l. let t : last_membership s f m < m = ih l in omega arith)
      (λ l. let e : m ≡ 0 = omega arith in let z : last_membership s f m ≡ 0 = ap (last_membership s f) e in omega arith)
      (cases_lt 0 m)

  pub last-lt : (f : ℕ → Entry A) (m : ℕ) → 0 < m → last_membership s f m < m
  last-lt f zero h = absurd (omega arith)
  last-lt f (suc m) h = lt_step f m (last-lt f m) (s.is_membership (f m).payload)

  pub last_le : (f : ℕ → Entry A) (m : ℕ) → last_membership s f m ≤ m
  last_le f zero = omega arith
  last_le f (suc m) = let l : last_membership s f (suc m) < suc m = last-lt f (suc m) (omega arith) in omega arith

  is_step : (f : ℕ → Entry A) (m : ℕ) → (0 < last_membership s f m → IsMembership f (last_membership s f m)) → (b : Bool) → s.is_membership (f m).payload ≡ b → 0 < cond b m (last_membership s f m) → IsMembership f (cond b m (last_membership s f m))
  is_step f m ih true e p = e
  is_step f m ih false e p = ih p

  pub last-is : (f : ℕ → Entry A) (m : ℕ) → 0 < last_membership s f m → IsMembership f (last_membership s f m)
  last-is f zero h = absurd (omega arith)
  last-is f (suc m) h = is_step f m (last-is f m) (s.is_membership (f m).payload) refl h

  top_step : (f : ℕ → Entry A) (m i : ℕ) → i < suc m → IsMembership f i → (i < m → i ≤ last_membership s f m) → (b : Bool) → s.is_membership (f m).payload ≡ b → i ≤ cond b m (last_membership s f m)
  top_step f m i l h ih true e = omega arith
  top_step f m i l h ih false e = ⊎_elim ih (λ p. let q : i ≡ m = omega arith in absurd (true≢false (sym h ∙ (ap (λ j. s.is_membership (f j).payload) q ∙ e)))) (cases_lt i m)

  pub last-top : (f : ℕ → Entry A) (m i : ℕ) → i < m → IsMembership f i → i ≤ last_membership s f m
  last-top f zero i l h = absurd (omega arith)
  last-top f (suc m) i l h = top_step f m i l h (λ p. last-top f m i p h) (s.is_membership (f m).payload) refl

  pub last-mono : (f : ℕ → Entry A) (m n : ℕ) → m ≤ n → last_membership s f m ≤ last_membership s f n
  last-mono f m n h = go (last_membership s f m) refl
    where
      go : (c : ℕ) → last_membership s f m ≡ c → c ≤ last_membership s f n
      go zero e = omega arith
      go (suc c) e =
          let p : 0 < last_membership s f m = omega arith in
          let q : 0 < m = ⊎_elim (λ l. l) (λ l. let z : m ≡ 0 = omega arith in let y : last_membership s f m ≡ 0 = ap (last_membership s f) z in absurd (omega arith)) (cases_lt 0 m) in
          let t : last_membership s f m < m = last-lt f m q in
          let u : last_membership s f m ≤ last_membership s f n = last-top f n (last_membership s f m) (omega arith) (last-is f m p) in
          omega arith

  -- the first membership after i
  pub record Next (f : ℕ → Entry A) (i j : ℕ) : Type 0 where
    pub at : ℕ
    pub past : i < at
    pub upto : at ≤ j
    pub is : IsMembership f at
    pub last : last_membership s f at ≡ i

  next_by : (f : ℕ → Entry A) (i : ℕ) → (0 < i → IsMembership f i) → (fuel j : ℕ) → j ≤ fuel → i < j → IsMembership f j → Next f i j
  next_by f i t zero j m l h = absurd (omega arith)
  next_by f i t (suc fuel) j m l h =
      ⊎_elim
      (λ e. record { at = j; past = l; upto = omega arith; is = h; last = sym e })
      (λ c. ⊎_elim
      (λ p.
      let b : last_membership s f j < j = last-lt f j (omega arith) in
      let n : Next f i (last_membership s f j) = next_by f i t fuel (last_membership s f j) (omega arith) p (last-is f j (omega arith)) in
      record { at = n.at; past = n.past; upto = omega (arith, n.upto); is = n.is; last = n.last })
      (λ p. let u : i ≤ last_membership s f j = last-top f j i l (t (omega arith)) in absurd (omega arith))
      c)
      (cases_order i (last_membership s f j))

  pub next : (f : ℕ → Entry A) (i j : ℕ) → (0 < i → IsMembership f i) → i < j → IsMembership f j → Next f i j
  next f i j t l h = next_by f i t j j (omega arith) l h

  pub effective_membership-same : (X Y : Log A) (m : ℕ) → 0 < m → Agree m X Y → effective_membership s X m ≡ effective_membership s Y m
  effective_membership-same X Y m p a =
      let e : last_membership s X.at m ≡ last_membership s Y.at m = last-same X.at Y.at m a.same in
      let l : last_membership s X.at m < m = last-lt X.at m p in
      ap (λ x. x.payload) (a.same (last_membership s X.at m) l) ∙ ap (λ j. (Y.at j).payload) e

  pub quorum-same : (X Y : Log A) (m : ℕ) (q : ℕ → Bool) → 0 < m → Agree m X Y → IsQuorum s (effective_membership s X m) q → IsQuorum s (effective_membership s Y m) q
  quorum-same X Y m q p a h = subst (λ x. IsQuorum s x q) (effective_membership-same X Y m p a) h

  pub membership-same : {m : ℕ} {X Y : Log A} (i : ℕ) → i < m → Agree m X Y → IsMembership X.at i → IsMembership Y.at i
  membership-same {m} {X} {Y} i l a h = subst (λ x. s.is_membership x.payload ≡ true) (a.same i l) h
