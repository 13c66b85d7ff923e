-- What follows from the invariants alone: the order of leader ids in logs, and who proposed a membership.
use Rattle.std.proofs.Common.{ℕ, zero, suc, ◌<◌, ◌≤◌, ◌≡◌, inl, inr, ⊎_elim, true, false, arith, refl, sym, subst}
use Rattle.std.proofs.lemmas.Bool.{cases_order, cases_eq, cases_lt}
use Rattle.proof_agreement.specs.Machine.{Log, World, Setup, Agree, AtOrBelow, ShareGroup, Chosen, leader_log, last_leader, last_membership, effective_membership}
use Rattle.proof_agreement.proofs.Logs.{Agree-less}
use Rattle.proof_agreement.proofs.Memberships.{IsMembership, last-same, membership-same, effective_membership-same}
use Rattle.proof_agreement.proofs.Invariants.{FollowsAt, Elected, MembershipMadeAt, LeaderInvariant, Invariants}

module _ {A : Type 0} (s : Setup A) (w : World A) where
  -- the membership at n was written by a leader which then had an entry of its own chosen by the membership before it
  pub record MembershipWriter (X : Log A) (n : ℕ) : Type 0 where
    pub established : (w.leader (X.at n).leader).established ≡ true
    pub agree : Agree (suc n) X (leader_log w (X.at n).leader)
    pub upto : ℕ
    pub base : (w.leader (X.at n).leader).base ≤ upto
    pub past : upto < n
    pub last : last_membership s X.at n ≤ upto
    pub chosen : Chosen s w (X.at n).leader upto
    pub by : effective_membership s (leader_log w (X.at n).leader) chosen.span ≡ effective_membership s X n
    pub share : ShareGroup s (effective_membership s X n) (X.at n).payload

module _ {A : Type 0} (s : Setup A) (w : World A) (inv : Invariants s w) where
  pub chosen_up : (d k : ℕ) → Chosen s w d k → (w.leader d).established ≡ true
  chosen_up d k c = (inv.leader d).established (omega (arith, c.past, c.inside))

  pub acknowledged_le_len : (n d : ℕ) → w.acknowledged n d ≤ (leader_log w d).len
  acknowledged_le_len n d = go (w.acknowledged n d) refl
    where
      go : (c : ℕ) → w.acknowledged n d ≡ c → c ≤ (leader_log w d).len
      go zero p = omega arith
      go (suc k) p = (inv.acknowledged n d k (omega arith)).inside

  -- leader ids do not fall along a log
  pub rising : (X : Log A) → ((i : ℕ) → i < X.len → FollowsAt w X i) → (i j : ℕ) → i ≤ j → j < X.len → (X.at i).leader ≤ (X.at j).leader
  rising X f i j h l =
      let F : FollowsAt w X j = f j l in
      subst (λ x. x.leader ≤ (X.at j).leader) (sym (F.agree.same i (omega arith))) ((inv.leader (X.at j).leader).low i (omega (arith, F.agree.right)))

  -- the end of a log is at or above each entry
  pub below_end : (X : Log A) → ((i : ℕ) → i < X.len → FollowsAt w X i) → (e k : ℕ) → k < X.len → (X.at k).leader ≡ e → AtOrBelow e (suc k) (last_leader X.at X.len) X.len
  below_end X f e k l p = go X.len refl
    where
      go : (n : ℕ) → X.len ≡ n → AtOrBelow e (suc k) (last_leader X.at n) n
      go zero q = absurd (omega arith)
      go (suc j) q =
          let r : (X.at k).leader ≤ (X.at j).leader = rising X f k j (omega arith) (omega arith) in
          ⊎_elim (λ c. inr (c, omega arith)) (λ c. ⊎_elim inl (λ c'. absurd (omega arith)) c) (cases_order e (X.at j).leader)

  -- what a leader was established with is of lower leaders
  pub base_low : (e i : ℕ) → i < (w.leader e).base → ((leader_log w e).at i).leader < e
  base_low e i l =
      let L : LeaderInvariant s w e (w.leader e) = inv.leader e in
      let F : FollowsAt w (leader_log w e) i = L.follows i (omega (arith, L.base)) in
      let h : ((leader_log w e).at i).leader ≤ e = L.low i (omega (arith, L.base)) in
      ⊎_elim
      (λ p. let b : (w.leader e).base ≤ i = subst (λ j. (w.leader j).base ≤ i) p F.base in absurd (omega arith))
      (λ ne. omega arith)
      (cases_eq ((leader_log w e).at i).leader e)

  -- all leaders' logs begin with the one first entry
  pub first_same : (d : ℕ) → 0 < (leader_log w d).len → Agree 1 (leader_log w d) (leader_log w 0)
  first_same d l =
      let F : FollowsAt w (leader_log w d) 0 = (inv.leader d).follows 0 l in
      ⊎_elim
      (λ p. let E : Elected s w ((leader_log w d).at 0).leader (w.leader ((leader_log w d).at 0).leader) = (inv.leader ((leader_log w d).at 0).leader).elected F.established p in absurd (omega (arith, E.some, F.base)))
      (λ p. let z : ((leader_log w d).at 0).leader ≡ 0 = omega arith in subst (λ j. Agree 1 (leader_log w d) (leader_log w j)) z F.agree)
      (cases_lt 0 ((leader_log w d).at 0).leader)

  pub membership_writer : s.groups_kept ≡ false → (X : Log A) → ((i : ℕ) → i < X.len → FollowsAt w X i) → (n : ℕ) → 0 < n → n < X.len → IsMembership s X.at n → MembershipWriter s w X n
  membership_writer change X f n p l t =
      let F : FollowsAt w X n = f n l in
      let M : MembershipMadeAt s w (X.at n).leader n (w.leader (X.at n).leader) = ((inv.leader (X.at n).leader).memberships n p F.base (omega (arith, F.agree.right)) (membership-same s n (omega arith) F.agree t)).change change in
      let a : Agree n X (leader_log w (X.at n).leader) = Agree-less n (omega arith) F.agree in
      let v : effective_membership s (leader_log w (X.at n).leader) n ≡ effective_membership s X n = sym (effective_membership-same s X (leader_log w (X.at n).leader) n p a) in
      record {
        established = F.established;
        agree = F.agree;
        upto = M.upto;
        base = M.base;
        past = M.past;
        last = omega (arith, M.last, last-same s X.at (leader_log w (X.at n).leader).at n a.same);
        chosen = record { span = n; past = M.past; inside = omega (arith, F.agree.right); by = M.by; quorum = M.quorum; each = M.each };
        by = v;
        share = subst (λ y. ShareGroup s y (X.at n).payload) v (subst (λ y. ShareGroup s (effective_membership s (leader_log w (X.at n).leader) n) y.payload) (sym (F.agree.same n (omega arith))) M.share);
      }
