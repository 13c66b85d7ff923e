-- What follows from the invariants and completeness in one world.
use Rattle.std.proofs.Common.{ℕ, zero, suc, ◌<◌, ◌≤◌, ◌≡◌, ◌≢◌, inl, ⊎_elim, Bool, true, false, arith, refl, sym, ap, ◌∙◌, subst}
use Rattle.std.proofs.lemmas.Bool.{cases_order, cases_lt}
use Rattle.proof_agreement.specs.Machine.{Log, Node, World, Setup, Agree, leader_log, log_of, vote_of}
use Rattle.proof_agreement.proofs.Logs.{Agree-sym, Agree-trans, Agree-less, Agree-refl, Agree-cut}
use Rattle.proof_agreement.proofs.Invariants.{DecidedAt, FollowsAt, SafeAt, MayLack, Covered, AcknowledgedAt, Invariants, limit, limit_of}
use Rattle.proof_agreement.proofs.LeaderIds.{}
use Rattle.proof_agreement.proofs.Completeness.{safe}

pub limit_committed : {A : Type 0} (N : Node A) → N.vote_committed ≡ true → limit N ≡ suc N.vote
limit_committed N h = ap (λ b. limit_of b N.vote) h

pub limit_not_committed : {A : Type 0} (N : Node A) → N.vote_committed ≡ false → limit N ≡ N.vote
limit_not_committed N h = ap (λ b. limit_of b N.vote) h

pub limit_le : {A : Type 0} (N : Node A) → limit N ≤ suc N.vote
limit_le N = go N.vote_committed
  where
    go : (b : Bool) → limit_of b N.vote ≤ suc N.vote
    go true = omega arith
    go false = omega arith

module _ {A : Type 0} (s : Setup A) (w : World A) where
  pub may_lack_up : (v v' e k : ℕ) → v ≤ v' → MayLack s w v e k → MayLack s w v' e k
  may_lack_up v v' e k h l = record { leader = l.leader; low = omega (arith, l.low); why = l.why }

module _ {A : Type 0} (w : World A) where
  pub cover_up : (v v' : ℕ) (X : Log A) (c : ℕ) → v ≤ v' → Covered w v X c → Covered w v' X c
  cover_up v v' X c h l = record { leader = l.leader; low = omega (arith, l.low); within = l.within; agree = l.agree }

  -- a log with the same first entries follows the leaders too
  pub follows_same : (X Y : Log A) (i : ℕ) → Agree (suc i) Y X → FollowsAt w X i → FollowsAt w Y i
  follows_same X Y i a f =
      let p : X.at i ≡ Y.at i = sym (a.same i (omega arith)) in
      record {
        established = subst (λ x. (w.leader x.leader).established ≡ true) p f.established;
        base = subst (λ x. (w.leader x.leader).base ≤ i) p f.base;
        agree = subst (λ x. Agree (suc i) Y (leader_log w x.leader)) p (Agree-trans a f.agree);
      }

  pub follows_cut : (X : Log A) (m : ℕ) (i : ℕ) → i < m → FollowsAt w X i → FollowsAt w (record { len = m; at = X.at }) i
  follows_cut X m i h f = record { established = f.established; base = f.base; agree = Agree-cut m h f.agree }

  -- two logs with one leader id at a place are the same up to it
  pub same_id : (X Y : Log A) (i : ℕ) → FollowsAt w X i → FollowsAt w Y i → (X.at i).leader ≡ (Y.at i).leader → Agree (suc i) X Y
  same_id X Y i F G p = Agree-trans (subst (λ e. Agree (suc i) X (leader_log w e)) p F.agree) (Agree-sym G.agree)

module _ {A : Type 0} (s : Setup A) (w : World A) (inv : Invariants s w) where
  none : (m : ℕ) (X Y : Log A) → m ≡ 0 → Agree m X Y
  none m X Y e = record { left = omega arith; right = omega arith; same = λ i h. absurd (omega arith) }

  -- what a leader has decided stands in the base of each later one
  pub decided_in : (d e : ℕ) → d < e → (w.leader e).established ≡ true → ((w.leader d).decided ≤ (w.leader e).base) × Agree (w.leader d).decided (leader_log w d) (leader_log w e)
  decided_in d e l u = go (w.leader d).decided refl
    where
      go : (c : ℕ) → (w.leader d).decided ≡ c → (c ≤ (w.leader e).base) × Agree c (leader_log w d) (leader_log w e)
      go zero p = (omega arith, none 0 (leader_log w d) (leader_log w e) refl)
      go (suc k) p =
          let D : DecidedAt s w d k (w.leader d) = (inv.leader d).decided k p in
          let S : SafeAt w e d k = safe s w inv e d k u l D.base D.chosen in
          (S.inside, Agree-sym S.agree)

  decided_up : (d i : ℕ) → i < (w.leader d).decided → (w.leader d).established ≡ true
  decided_up d i h = go (w.leader d).decided refl
    where
      go : (c : ℕ) → (w.leader d).decided ≡ c → (w.leader d).established ≡ true
      go zero p = absurd (omega arith)
      go (suc k) p = ((inv.leader d).decided k p).established

  pub dec_le_len : (d : ℕ) → (w.leader d).decided ≤ (leader_log w d).len
  dec_le_len d = go (w.leader d).decided refl
    where
      go : (c : ℕ) → (w.leader d).decided ≡ c → c ≤ (leader_log w d).len
      go zero p = omega arith
      go (suc c) p = ((inv.leader d).decided c p).inside

  pub decided_agree : (d e m : ℕ) → m ≤ (w.leader d).decided → m ≤ (w.leader e).decided → Agree m (leader_log w d) (leader_log w e)
  decided_agree d e m h h' =
      ⊎_elim (λ z. in_order (omega arith)) (λ z. none m (leader_log w d) (leader_log w e) (omega arith)) (cases_lt 0 m)
    where
      in_order : 0 < m → Agree m (leader_log w d) (leader_log w e)
      in_order z =
          ⊎_elim
          (λ q. subst (λ j. Agree m (leader_log w d) (leader_log w j)) q (Agree-refl m (leader_log w d) (omega (arith, dec_le_len d))))
          (λ x. ⊎_elim
          (λ q. Agree-less m h (decided_in d e q (decided_up e 0 (omega arith))).1)
          (λ q. Agree-less m h' (Agree-sym (decided_in e d q (decided_up d 0 (omega arith))).1))
          x)
          (cases_order d e)

  -- an acknowledged entry that a decided one contradicts: the decider is later
  pub beaten : (n d p e k : ℕ) → (w.node n).vote_committed ≡ true → k < w.acknowledged n e → Agree (suc k) (log_of w n) (leader_log w e) → p ≤ k → p < (w.leader d).decided → d ≤ vote_of w n → (log_of w n).at p ≢ (leader_log w d).at p → MayLack s w (limit (w.node n)) e k
  beaten n d p e k t a h l i v ne =
      let K : AcknowledgedAt w n e k = inv.acknowledged n e k a in
      let same : (log_of w n).at p ≡ (leader_log w e).at p = h.same p (omega arith) in
      ⊎_elim
      (λ q. absurd (ne (same ∙ ap (λ j. (leader_log w j).at p) q)))
      (λ x. ⊎_elim
      (λ q.
      record {
        leader = d;
        low = omega (arith, v, limit_committed (w.node n) t);
        why = inl (record { above = q; established = decided_up d p i; place = p; low = l; in_old = omega (arith, h.right); in_new = omega (arith, i, dec_le_len d); apart = λ y. ne (same ∙ sym y) });
      })
      (λ q. absurd (ne (same ∙ sym ((decided_in d e q K.established).1.same p i))))
      x)
      (cases_order e d)
