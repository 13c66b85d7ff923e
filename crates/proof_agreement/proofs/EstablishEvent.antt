-- Establishing a leader keeps the invariants.
use Rattle.std.proofs.Common.{ℕ, zero, suc, ◌+◌, ◌<◌, ◌≤◌, ◌≡◌, ◌≢◌, inl, inr, ⊎_elim, Bool, true, arith, refl, sym, ap, ◌∙◌, subst}
use Rattle.std.proofs.lemmas.Bool.{cases_lt, cases_eq, true≢false}
use Rattle.proof_agreement.specs.Machine.{Log, Node, Leader, World, Setup, Agree, log_of, leader_log, vote_of, set_node, set_leader, acknowledge, MayEstablish}
use Rattle.proof_agreement.proofs.Logs.{Agree-refl, updated_all, updated_same, updated_other, acknowledged_cases, acknowledged_more, acknowledged_at}
use Rattle.proof_agreement.proofs.Invariants.{AcknowledgedAt, limit, NodeInvariant, LeaderInvariant, IsPast, Invariants}
use Rattle.proof_agreement.proofs.Stability.{LeaderGrows, LeaderGrows-refl, Grows, follows_on, node_on, leader_on, acknowledged_on, grant_on, executed_on}
use Rattle.proof_agreement.proofs.Consequences.{may_lack_up, limit_le}
use Rattle.proof_agreement.proofs.LeaderIds.{acknowledged_le_len}

module _ {A : Type 0} (s : Setup A) (w : World A) (inv : Invariants s w) (d : ℕ) (q : ℕ → Bool) (h : MayEstablish s w d q) where
  X : Log A
  X = log_of w (s.owner d)

  not_up : (w.leader d).established ≡ true → ⊥
  not_up u = ⊎_elim (λ l. omega (arith, h.vote)) (λ p. true≢false (sym p.1 ∙ h.not_committed)) (inv.owned d h.positive u)

  no_log : (leader_log w d).len ≡ 0
  no_log = ⊎_elim (λ l. omega arith) (λ l. absurd (not_up ((inv.leader d).established l))) (cases_lt (leader_log w d).len 1)

  no_dec : (w.leader d).decided ≡ 0
  no_dec = go (w.leader d).decided refl
    where
      go : (c : ℕ) → (w.leader d).decided ≡ c → (w.leader d).decided ≡ 0
      go zero p = p
      go (suc c) p = absurd (not_up ((inv.leader d).decided c p).established)

  N' : Node A
  N' = record (w.node (s.owner d)) { vote_committed = true }

  D' : Leader A
  D' = record { established = true; base = (log_of w (s.owner d)).len; log = log_of w (s.owner d); decided = 0 }

  w' : World A
  w' = record (set_leader (set_node w (s.owner d) N') d D') { acknowledged = acknowledge w.acknowledged (s.owner d) d (log_of w (s.owner d)).len }

  grows : Grows w w'
  unfolding w' N' D'
  grows =
      record {
        leader = updated_all (λ e D. LeaderGrows (w.leader e) D) w.leader d D'
            (record {
              established = λ _. refl;
              base = λ u. absurd (not_up u);
              log = record { left = omega arith; right = omega (arith, no_log); same = λ i l. absurd (omega (arith, no_log)) };
              decided = omega (arith, no_dec);
            })
            (λ e _. LeaderGrows-refl (w.leader e));
        vote = updated_all (λ m M. vote_of w m ≤ M.vote) w.node (s.owner d) N' (omega arith) (λ m _. omega arith);
        acknowledged = λ m e k a. ⊎_elim inl (λ p. inr (ap (vote_of w) p.0 ∙ (h.vote ∙ sym p.1))) (acknowledged_cases w.acknowledged (s.owner d) d (log_of w (s.owner d)).len m e k a);
        acknowledges = acknowledged_more w.acknowledged (s.owner d) d (log_of w (s.owner d)).len (omega (arith, acknowledged_le_len s w inv (s.owner d) d, no_log));
        grants = λ g h'. h';
      }

  at_d : w'.leader d ≡ D'
  unfolding w'
  at_d = updated_same w.leader d D'

  at_other : (e : ℕ) → e ≢ d → w'.leader e ≡ w.leader e
  unfolding w'
  at_other e ne = updated_other w.leader d D' e ne

  new_node : NodeInvariant s w' (s.owner d) N'
  unfolding w' N' D'
  new_node =
      let J : NodeInvariant s w' (s.owner d) (w.node (s.owner d)) = node_on s w w' grows inv (s.owner d) (w.node (s.owner d)) (λ t _. absurd (not_up (subst (λ v. (w.leader v).established ≡ true) h.vote ((inv.node (s.owner d)).established t)))) (λ e k a. ⊎_elim inl (λ p. inr (subst (λ j. Agree (suc k) (log_of w (s.owner d)) (leader_log w' j)) (sym p.1) (subst (λ D. Agree (suc k) (log_of w (s.owner d)) D.log) (sym at_d) (Agree-refl (suc k) (log_of w (s.owner d)) p.2)))) (acknowledged_cases w.acknowledged (s.owner d) d (log_of w (s.owner d)).len (s.owner d) e k a)) (inv.node (s.owner d)) in
      record {
        established = λ _. subst (λ v. (w'.leader v).established ≡ true) (sym h.vote) (subst (λ D. D.established ≡ true) (sym at_d) refl);
        own = λ _ _.
            subst (λ v. ((log_of w (s.owner d)).len ≡ (leader_log w' v).len) × Agree (log_of w (s.owner d)).len (log_of w (s.owner d)) (leader_log w' v)) (sym h.vote)
            (subst (λ D. ((log_of w (s.owner d)).len ≡ D.log.len) × Agree (log_of w (s.owner d)).len (log_of w (s.owner d)) D.log) (sym at_d) (refl, Agree-refl (log_of w (s.owner d)).len (log_of w (s.owner d)) (omega arith)));
        acknowledges = λ _ _. subst (λ v. (log_of w (s.owner d)).len ≤ w'.acknowledged (s.owner d) v) (sym h.vote) (omega (arith, acknowledged_at w.acknowledged (s.owner d) d (log_of w (s.owner d)).len));
        follows = J.follows;
        low = J.low;
        kept = λ e k a. ⊎_elim inl (λ x. inr (may_lack_up s w' (limit (w.node (s.owner d))) (suc (vote_of w (s.owner d))) e k (limit_le (w.node (s.owner d))) x)) (J.kept e k a);
        cover = J.cover;
      }

  other_node : (m : ℕ) → m ≢ s.owner d → NodeInvariant s w' m (w.node m)
  unfolding w' N'
  other_node m ne =
      node_on s w w' grows inv m (w.node m)
      (λ _ p. ap (λ D. D.log.len) (at_other (vote_of w m) (λ r. ne (sym p ∙ ap s.owner r))))
      (λ e k a. ⊎_elim inl (λ p. absurd (ne p.0)) (acknowledged_cases w.acknowledged (s.owner d) d (log_of w (s.owner d)).len m e k a))
      (inv.node m)

  new_leader : LeaderInvariant s w' d D'
  unfolding D' w' N' X
  new_leader =
      record {
        established = λ _. refl;
        base = omega arith;
        follows = λ i l. follows_on s w w' grows X i ((inv.node (s.owner d)).follows i l);
        low = λ i l. omega (arith, (inv.node (s.owner d)).low i l, h.vote);
        mine = λ i b l. absurd (omega arith);
        elected = λ _ _. record { some = h.some; by = q; quorum = h.quorum; each = λ n t. h.each n t };
        decided = λ k e. absurd (omega arith);
        memberships = λ m p b l t. absurd (omega arith);
        settled = λ m p b l t. absurd (omega arith);
      }

  len_at : (e : ℕ) → (leader_log w' e).len ≤ (leader_log w e).len + (log_of w (s.owner d)).len
  unfolding w' D'
  len_at = updated_all (λ e D. D.log.len ≤ (leader_log w e).len + (log_of w (s.owner d)).len) w.leader d D' (omega arith) (λ e _. omega arith)

  still_past : (e n : ℕ) → IsPast (w.node n) e → IsPast (w'.node n) e
  unfolding w' N'
  still_past e = updated_all (λ n N. IsPast (w.node n) e → IsPast N e) w.node (s.owner d) N' (⊎_elim inl (λ p. inr (p.0, refl))) (λ n _ p. p)

  new_past : IsPast (w'.node (s.owner d)) d
  unfolding w' N'
  new_past = subst (λ N. IsPast N d) (sym (updated_same w.node (s.owner d) N')) (inr (h.vote, refl))

  new_owned : (e : ℕ) → 0 < e → (w'.leader e).established ≡ true → IsPast (w'.node (s.owner e)) e
  new_owned e p u =
      ⊎_elim
      (λ q. subst (λ j. IsPast (w'.node (s.owner j)) j) (sym q) new_past)
      (λ ne. still_past e (s.owner e) (inv.owned e p (subst (λ D. D.established ≡ true) (at_other e ne) u)))
      (cases_eq e d)

  new_acknowledged : (k : ℕ) → k < (log_of w (s.owner d)).len → AcknowledgedAt w' (s.owner d) d k
  unfolding D'
  new_acknowledged k l =
      record {
        low = omega (arith, h.vote, grows.vote (s.owner d));
        established = subst (λ D. D.established ≡ true) (sym at_d) refl;
        inside = subst (λ D. k < D.log.len) (sym at_d) l;
      }

  kept : Invariants s w'
  unfolding w' N' D'
  kept =
      record {
        node = updated_all (λ m M. NodeInvariant s w' m M) w.node (s.owner d) N' new_node other_node;
        leader = updated_all (λ e D. LeaderInvariant s w' e D) w.leader d D' new_leader (λ e _. leader_on s w w' grows inv e (w.leader e) (inv.leader e));
        acknowledged = λ m e k a. ⊎_elim (λ a'. acknowledged_on s w w' grows inv m e k (inv.acknowledged m e k a')) (λ p. subst (λ j. AcknowledgedAt w' j e k) (sym p.0) (subst (λ f. AcknowledgedAt w' (s.owner d) f k) (sym p.1) (new_acknowledged k p.2))) (acknowledged_cases w.acknowledged (s.owner d) d (log_of w (s.owner d)).len m e k a);
        grants = λ y h'. grant_on s w w' grows inv y (inv.grants y h');
        bound = (inv.bound.0 + (log_of w (s.owner d)).len, λ e. omega (arith, len_at e, inv.bound.1 e));
        executed = λ y h'. executed_on s w w' grows y (inv.executed y h');
        first = omega (arith, inv.first, (grows.leader 0).log.right);
        first_is = sym ((grows.leader 0).log.same 0 inv.first) ∙ inv.first_is;
        owned = new_owned;
      }

  pub establish_kept : Invariants s (record (set_leader (set_node w (s.owner d) (record (w.node (s.owner d)) { vote_committed = true })) d (record { established = true; base = (log_of w (s.owner d)).len; log = log_of w (s.owner d); decided = 0 })) { acknowledged = acknowledge w.acknowledged (s.owner d) d (log_of w (s.owner d)).len })
  unfolding w' N' D'
  establish_kept = kept

  pub establish_grows : Grows w (record (set_leader (set_node w (s.owner d) (record (w.node (s.owner d)) { vote_committed = true })) d (record { established = true; base = (log_of w (s.owner d)).len; log = log_of w (s.owner d); decided = 0 })) { acknowledged = acknowledge w.acknowledged (s.owner d) d (log_of w (s.owner d)).len })
  unfolding w' N' D'
  establish_grows = grows
