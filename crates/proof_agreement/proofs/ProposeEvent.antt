-- An entry that a leader appends to its log keeps the invariants.
use Rattle.std.proofs.Common.{ℕ, zero, suc, ◌<◌, ◌≤◌, ◌≡◌, ◌≢◌, inl, inr, ⊎_elim, Bool, true, false, arith, refl, sym, ap, ◌∙◌, subst}
use Rattle.std.proofs.lemmas.Bool.{cases_lt}
use Rattle.proof_agreement.specs.Machine.{IsQuorum, ShareGroup, Chosen, MayChangeGroups, last_membership, effective_membership, Log, Entry, Node, Leader, World, Setup, Agree, log_of, leader_log, vote_of, set_node, set_leader, set_log, acknowledge, updated, push, MayPropose}
use Rattle.proof_agreement.proofs.Logs.{Agree-sym, Agree-trans, Agree-less, Agree-refl, updated_all, updated_same, updated_other, push-grows, push-agree, acknowledged_cases, acknowledged_more, acknowledged_at}
use Rattle.proof_agreement.proofs.Invariants.{Covered, DecidedAt, MembershipMade, MembershipMadeAt, FollowsAt, AcknowledgedAt, limit, NodeInvariant, LeaderInvariant, IsPast, Invariants}
use Rattle.proof_agreement.proofs.Stability.{LeaderGrows, LeaderGrows-refl, Grows, chosen_on, holds_on, follows_on, may_lack_on, elected_on, membership_made_on, elected_longer, membership_made_longer, node_on, leader_on, acknowledged_on, grant_on, executed_on}
use Rattle.proof_agreement.proofs.Consequences.{dec_le_len, follows_same}
use Rattle.proof_agreement.proofs.LeaderIds.{acknowledged_le_len}
use Rattle.proof_agreement.proofs.Memberships.{IsMembership, last-is, last-top, last-same, last-mono, membership-same, effective_membership-same}

-- the log and the leader's history with the entry x at their ends
module _ {A : Type 0} (s : Setup A) (w : World A) (inv : Invariants s w) (d : ℕ) (payload : A) (h : MayPropose s w d payload) where
  x : Entry A
  x = record { leader = d; payload = payload }

  N' : Node A
  N' = record (w.node (s.owner d)) { log = push (log_of w (s.owner d)) (record { leader = d; payload = payload }) }

  D' : Leader A
  D' = record (w.leader d) { log = push (leader_log w d) (record { leader = d; payload = payload }) }

  w' : World A
  w' = record (set_leader (set_node w (s.owner d) N') d D') { acknowledged = acknowledge w.acknowledged (s.owner d) d (suc (log_of w (s.owner d)).len) }

  is_up : (w.leader d).established ≡ true
  is_up = subst (λ v. (w.leader v).established ≡ true) h.vote ((inv.node (s.owner d)).established h.vote_committed)

  -- the leader's log is its history
  same : ((log_of w (s.owner d)).len ≡ (leader_log w d).len) × Agree (log_of w (s.owner d)).len (log_of w (s.owner d)) (leader_log w d)
  same = subst (λ v. ((log_of w (s.owner d)).len ≡ (leader_log w v).len) × Agree (log_of w (s.owner d)).len (log_of w (s.owner d)) (leader_log w v)) h.vote ((inv.node (s.owner d)).own h.vote_committed (ap s.owner h.vote))

  grows : Grows w w'
  unfolding w' N' D' x
  grows =
      record {
        leader = updated_all (λ e D. LeaderGrows (w.leader e) D) w.leader d D' (record { established = λ u. u; base = λ _. refl; log = push-grows (leader_log w d) x; decided = omega arith }) (λ e _. LeaderGrows-refl (w.leader e));
        vote = updated_all (λ m M. vote_of w m ≤ M.vote) w.node (s.owner d) N' (omega arith) (λ m _. omega arith);
        acknowledged = λ m e k a. ⊎_elim inl (λ p. inr (ap (vote_of w) p.0 ∙ (h.vote ∙ sym p.1))) (acknowledged_cases w.acknowledged (s.owner d) d (suc (log_of w (s.owner d)).len) m e k a);
        acknowledges = acknowledged_more w.acknowledged (s.owner d) d (suc (log_of w (s.owner d)).len) (omega (arith, acknowledged_le_len s w inv (s.owner d) d, same.0));
        grants = λ g h'. h';
      }

  at_d : w'.leader d ≡ D'
  unfolding w'
  at_d = updated_same w.leader d D'

  at_other : (e : ℕ) → e ≢ d → w'.leader e ≡ w.leader e
  unfolding w'
  at_other e ne = updated_other w.leader d D' e ne

  -- the new entry follows its leader
  follows_new : (X : Log A) → X.len ≡ (leader_log w d).len → Agree X.len X (leader_log w d) → ((i : ℕ) → i < X.len → FollowsAt w X i) → (i : ℕ) → i < suc X.len → FollowsAt w' (push X x) i
  unfolding x D'
  follows_new X p a f i l =
      ⊎_elim
      (λ l'. follows_same w' X (push X x) i (Agree-sym (Agree-less (suc i) l' (push-grows X x))) (follows_on s w w' grows X i (f i l')))
      (λ l'. let q : i ≡ X.len = omega arith in subst (λ j. FollowsAt w' (push X x) j) (sym q) last)
      (cases_lt i X.len)
    where
      e_is : updated X.at X.len x X.len ≡ x
      e_is = updated_same X.at X.len x

      last : FollowsAt w' (push X x) X.len
      last =
          record {
            established = subst (λ y. (w'.leader y.leader).established ≡ true) (sym e_is) (subst (λ D. D.established ≡ true) (sym at_d) is_up);
            base = subst (λ y. (w'.leader y.leader).base ≤ X.len) (sym e_is) (subst (λ D. D.base ≤ X.len) (sym at_d) (omega (arith, p, (inv.leader d).base)));
            agree = subst (λ y. Agree (suc X.len) (push X x) (leader_log w' y.leader)) (sym e_is) (subst (λ D. Agree (suc X.len) (push X x) D.log) (sym at_d) (push-agree X (leader_log w d) x p a));
          }

  low_new : (X : Log A) (v : ℕ) → d ≤ v → ((i : ℕ) → i < X.len → (X.at i).leader ≤ v) → (i : ℕ) → i < suc X.len → ((push X x).at i).leader ≤ v
  unfolding x
  low_new X v b f i l =
      ⊎_elim
      (λ l'. subst (λ y. y.leader ≤ v) (sym (updated_other X.at X.len x i (omega arith))) (f i l'))
      (λ l'. let q : i ≡ X.len = omega arith in subst (λ j. ((push X x).at j).leader ≤ v) (sym q) (subst (λ y. y.leader ≤ v) (sym (updated_same X.at X.len x)) b))
      (cases_lt i X.len)

  mine_new : (i : ℕ) → (w.leader d).base ≤ i → i < suc (leader_log w d).len → ((push (leader_log w d) x).at i).leader ≡ d
  unfolding x
  mine_new i b l =
      ⊎_elim
      (λ l'. subst (λ y. y.leader ≡ d) (sym (updated_other (leader_log w d).at (leader_log w d).len x i (omega arith))) ((inv.leader d).mine i b l'))
      (λ l'. let q : i ≡ (leader_log w d).len = omega arith in subst (λ j. ((push (leader_log w d) x).at j).leader ≡ d) (sym q) (subst (λ y. y.leader ≡ d) (sym (updated_same (leader_log w d).at (leader_log w d).len x)) refl))
      (cases_lt i (leader_log w d).len)

  -- what the old log held, the new one holds
  longer : {m : ℕ} (X : Log A) (e : ℕ) → Agree m X (leader_log w e) → Agree m (push X x) (leader_log w' e)
  longer {m} X e a = Agree-trans (Agree-sym (Agree-less m a.left (push-grows X x))) (holds_on s w w' grows e a)

  -- the last membership is at or below k, so it is the last of each longer part
  same_last : (X : Log A) (m k : ℕ) → k < m → m ≤ X.len → last_membership s X.at X.len ≤ k → last_membership s X.at m ≡ last_membership s X.at X.len
  same_last X m k l h b =
      let u : last_membership s X.at m ≤ last_membership s X.at X.len = last-mono s X.at m X.len h in
      ⊎_elim
      (λ z. let v : last_membership s X.at X.len ≤ last_membership s X.at m = last-top s X.at m (last_membership s X.at X.len) (omega arith) (last-is s X.at X.len z) in omega arith)
      (λ z. omega arith)
      (cases_lt 0 (last_membership s X.at X.len))

  old_node : NodeInvariant s w' (s.owner d) N'
  unfolding w' N' D' x
  old_node =
      let I : NodeInvariant s w (s.owner d) (w.node (s.owner d)) = inv.node (s.owner d) in
      let X : Log A = log_of w (s.owner d) in
      record {
        established = λ u. (grows.leader (vote_of w (s.owner d))).established (I.established u);
        own = λ _ _.
            subst (λ v. (suc X.len ≡ (leader_log w' v).len) × Agree (suc X.len) (push X x) (leader_log w' v)) (sym h.vote)
            (subst (λ D. (suc X.len ≡ D.log.len) × Agree (suc X.len) (push X x) D.log) (sym at_d) (omega (arith, same.0), push-agree X (leader_log w d) x same.0 same.1));
        acknowledges = λ _ _. subst (λ v. suc X.len ≤ w'.acknowledged (s.owner d) v) (sym h.vote) (omega (arith, acknowledged_at w.acknowledged (s.owner d) d (suc X.len)));
        follows = follows_new X same.0 same.1 I.follows;
        low = low_new X (vote_of w (s.owner d)) (omega (arith, h.vote)) I.low;
        kept = λ e k a.
            ⊎_elim
            (λ a'. ⊎_elim (λ y. inl (longer X e y)) (λ y. inr (may_lack_on s w w' grows (limit (w.node (s.owner d))) (limit (w.node (s.owner d))) e k (omega arith) y)) (I.kept e k a'))
            (λ p. inl (subst (λ j. Agree (suc k) (push X x) (leader_log w' j)) (sym p.1) (subst (λ D. Agree (suc k) (push X x) D.log) (sym at_d) (Agree-less (suc k) p.2 (push-agree X (leader_log w d) x same.0 same.1)))))
            (acknowledged_cases w.acknowledged (s.owner d) d (suc X.len) (s.owner d) e k a);
        cover = record { leader = I.cover.leader; low = I.cover.low; within = omega (arith, I.cover.within, (grows.leader I.cover.leader).decided); agree = longer X I.cover.leader I.cover.agree };
      }

  other_node : (m : ℕ) → m ≢ s.owner d → NodeInvariant s w' m (w.node m)
  unfolding w' N'
  other_node m ne =
      node_on s w w' grows inv m (w.node m)
      (λ _ p. ap (λ D. D.log.len) (at_other (vote_of w m) (λ q. ne (sym p ∙ ap s.owner q))))
      (λ e k a. ⊎_elim inl (λ p. absurd (ne p.0)) (acknowledged_cases w.acknowledged (s.owner d) d (suc (log_of w (s.owner d)).len) m e k a))
      (inv.node m)

  membership_made_old : (m : ℕ) → 0 < m → (w.leader d).base ≤ m → IsMembership s (push (leader_log w d) x).at m → m < (leader_log w d).len → MembershipMade s w' d m D'
  unfolding D' x
  membership_made_old m p b t l =
      let a : Agree (suc m) (leader_log w d) (push (leader_log w d) x) = Agree-less (suc m) l (push-grows (leader_log w d) x) in
      membership_made_longer s w' d (w.leader d) D' refl m p a (membership_made_on s w w' grows d m (w.leader d) ((inv.leader d).memberships m p b l (membership-same s m (omega arith) (Agree-sym a) t)))

  -- a membership that is written now
  membership_made_new : 0 < (leader_log w d).len → IsMembership s (push (leader_log w d) x).at (leader_log w d).len → MembershipMade s w' d (leader_log w d).len D'
  unfolding D' x
  membership_made_new some t =
      record {
        same = λ c. subst (λ y. s.first_group y.payload ≡ s.first_group s.first_payload) (sym x_is) (h.same is c);
        change = λ c. changed (h.change is c);
      }
    where
      x_is : (push (leader_log w d) x).at (leader_log w d).len ≡ x
      x_is = updated_same (leader_log w d).at (leader_log w d).len x

      is : s.is_membership payload ≡ true
      is = subst (λ y. s.is_membership y.payload ≡ true) x_is t

      changed : MayChangeGroups s w d payload → MembershipMadeAt s w' d (leader_log w d).len D'
      changed C = go (w.leader d).decided refl
        where
          go : (c : ℕ) → (w.leader d).decided ≡ c → MembershipMadeAt s w' d (leader_log w d).len D'
          go zero p = absurd (omega (arith, C.last))
          go (suc k) p =
              let X : Log A = leader_log w d in
              let Z : DecidedAt s w d k (w.leader d) = (inv.leader d).decided k p in
              let c : Chosen s w d k = Z.chosen in
              let g : Agree X.len X (push X x) = push-grows X x in
              let v : effective_membership s X X.len ≡ effective_membership s (push X x) X.len = effective_membership-same s X (push X x) X.len some g in
              -- the groups by which it was chosen are those of the last membership
              let e : last_membership s X.at c.span ≡ last_membership s X.at X.len = same_last X c.span k c.past c.inside (omega (arith, p, C.last)) in
              record {
                upto = k;
                base = Z.base;
                past = Z.inside;
                last = omega (arith, C.last, p, last-same s X.at (push X x).at X.len g.same);
                by = c.by;
                quorum = subst (λ y. IsQuorum s y c.by) v (subst (λ j. IsQuorum s (X.at j).payload c.by) e c.quorum);
                each = λ n q. omega (arith, c.each n q, grows.acknowledges n d);
                share = subst (λ y. ShareGroup s y ((push X x).at X.len).payload) v (subst (λ y. ShareGroup s (effective_membership s X X.len) y.payload) (sym x_is) C.share);
              }

  -- the membership before one is decided
  settled_old : (m : ℕ) → 0 < m → (w.leader d).base ≤ m → IsMembership s (push (leader_log w d) x).at m → m < (leader_log w d).len → Covered w' d (push (leader_log w d) x) (suc (last_membership s (push (leader_log w d) x).at m))
  settled_old m p b t l =
      let X : Log A = leader_log w d in
      let a : Agree (suc m) X (push X x) = Agree-less (suc m) l (push-grows X x) in
      let C : Covered w d X (suc (last_membership s X.at m)) = (inv.leader d).settled m p b l (membership-same s m (omega arith) (Agree-sym a) t) in
      let e : last_membership s X.at m ≡ last_membership s (push X x).at m = last-same s X.at (push X x).at m (λ i h. a.same i (omega arith)) in
      subst (λ j. Covered w' d (push X x) (suc j)) e (record { leader = C.leader; low = C.low; within = omega (arith, C.within, (grows.leader C.leader).decided); agree = longer X C.leader C.agree })

  settled_new : IsMembership s (push (leader_log w d) x).at (leader_log w d).len → Covered w' d (push (leader_log w d) x) (suc (last_membership s (push (leader_log w d) x).at (leader_log w d).len))
  unfolding x
  settled_new t = go s.groups_kept refl
    where
      X : Log A
      X = leader_log w d

      is : s.is_membership payload ≡ true
      is = subst (λ y. s.is_membership y.payload ≡ true) (updated_same (leader_log w d).at (leader_log w d).len x) t

      e : last_membership s (leader_log w d).at (leader_log w d).len ≡ last_membership s (push (leader_log w d) x).at (leader_log w d).len
      e = last-same s (leader_log w d).at (push (leader_log w d) x).at (leader_log w d).len (push-grows (leader_log w d) x).same

      by_leader : (f : ℕ) → f ≤ d → suc (last_membership s (leader_log w d).at (leader_log w d).len) ≤ (w.leader f).decided → Agree (suc (last_membership s (leader_log w d).at (leader_log w d).len)) (leader_log w d) (leader_log w f) → Covered w' d (push (leader_log w d) x) (suc (last_membership s (push (leader_log w d) x).at (leader_log w d).len))
      by_leader f low within a = subst (λ j. Covered w' d (push (leader_log w d) x) (suc j)) e (record { leader = f; low = low; within = omega (arith, within, (grows.leader f).decided); agree = longer (leader_log w d) f a })

      go : (b : Bool) → s.groups_kept ≡ b → Covered w' d (push (leader_log w d) x) (suc (last_membership s (push (leader_log w d) x).at (leader_log w d).len))
      go true k =
          let C : Covered w (vote_of w (s.owner d)) (log_of w (s.owner d)) (w.node (s.owner d)).committed = (inv.node (s.owner d)).cover in
          let l : last_membership s (leader_log w d).at (leader_log w d).len < (w.node (s.owner d)).committed = h.settled is k in
          by_leader C.leader (omega (arith, C.low, h.vote)) (omega (arith, l, C.within))
          (Agree-trans (Agree-sym (Agree-less (suc (last_membership s (leader_log w d).at (leader_log w d).len)) (omega (arith, l, C.agree.left)) same.1)) (Agree-less (suc (last_membership s (leader_log w d).at (leader_log w d).len)) l C.agree))
      go false k =
          let C : MayChangeGroups s w d payload = h.change is k in
          by_leader d (omega arith) C.last (Agree-refl (suc (last_membership s (leader_log w d).at (leader_log w d).len)) (leader_log w d) (omega (arith, C.last, dec_le_len s w inv d)))

  new_leader : LeaderInvariant s w' d D'
  unfolding D' x
  new_leader =
      let L : LeaderInvariant s w d (w.leader d) = inv.leader d in
      record {
        established = λ _. is_up;
        base = omega (arith, L.base);
        follows = follows_new (leader_log w d) refl (Agree-refl (leader_log w d).len (leader_log w d) (omega arith)) L.follows;
        low = low_new (leader_log w d) d (omega arith) L.low;
        mine = mine_new;
        elected = λ u p. elected_longer s w' d (w.leader d) D' refl (Agree-less (w.leader d).base L.base (push-grows (leader_log w d) x)) (elected_on s w w' grows d (w.leader d) (L.elected u p));
        decided = λ k e. let y : DecidedAt s w d k (w.leader d) = L.decided k e in record { established = y.established; base = y.base; inside = omega (arith, y.inside); chosen = chosen_on s w w' grows d k y.chosen };
        memberships = λ m p b l t. ⊎_elim (membership_made_old m p b t) (λ l'. let q : (leader_log w d).len ≡ m = omega arith in subst (λ j. MembershipMade s w' d j D') q (membership_made_new (omega arith) (subst (λ j. IsMembership s (push (leader_log w d) x).at j) (sym q) t))) (cases_lt m (leader_log w d).len);
        settled = λ m p b l t. ⊎_elim (settled_old m p b t) (λ l'. let q : (leader_log w d).len ≡ m = omega arith in subst (λ j. Covered w' d (push (leader_log w d) x) (suc (last_membership s (push (leader_log w d) x).at j))) q (settled_new (subst (λ j. IsMembership s (push (leader_log w d) x).at j) (sym q) t))) (cases_lt m (leader_log w d).len);
      }

  len_at : (e : ℕ) → (leader_log w' e).len ≤ suc (leader_log w e).len
  unfolding w' D'
  len_at = updated_all (λ e D. D.log.len ≤ suc (leader_log w e).len) w.leader d D' (omega arith) (λ e _. omega arith)

  established_back : (e : ℕ) → (w'.leader e).established ≡ true → (w.leader e).established ≡ true
  unfolding w' D'
  established_back = updated_all (λ e D. D.established ≡ true → (w.leader e).established ≡ true) w.leader d D' (λ u. u) (λ e _ u. u)

  still_past : (e n : ℕ) → IsPast (w.node n) e → IsPast (w'.node n) e
  unfolding w' N'
  still_past e = updated_all (λ n N. IsPast (w.node n) e → IsPast N e) w.node (s.owner d) N' (λ p. p) (λ n _ p. p)

  new_acknowledged : (k : ℕ) → k < suc (log_of w (s.owner d)).len → AcknowledgedAt w' (s.owner d) d k
  unfolding D'
  new_acknowledged k l =
      record {
        low = omega (arith, h.vote, grows.vote (s.owner d));
        established = (grows.leader d).established is_up;
        inside = subst (λ D. k < D.log.len) (sym at_d) (omega (arith, l, same.0));
      }

  kept : Invariants s w'
  unfolding w' N' D'
  kept =
      record {
        node = updated_all (λ m M. NodeInvariant s w' m M) w.node (s.owner d) N' old_node other_node;
        leader = updated_all (λ e D. LeaderInvariant s w' e D) w.leader d D' new_leader (λ e _. leader_on s w w' grows inv e (w.leader e) (inv.leader e));
        acknowledged = λ m e k a. ⊎_elim (λ a'. acknowledged_on s w w' grows inv m e k (inv.acknowledged m e k a')) (λ p. subst (λ j. AcknowledgedAt w' j e k) (sym p.0) (subst (λ f. AcknowledgedAt w' (s.owner d) f k) (sym p.1) (new_acknowledged k p.2))) (acknowledged_cases w.acknowledged (s.owner d) d (suc (log_of w (s.owner d)).len) m e k a);
        grants = λ y h'. grant_on s w w' grows inv y (inv.grants y h');
        bound = (suc inv.bound.0, λ e. omega (arith, len_at e, inv.bound.1 e));
        executed = λ y h'. executed_on s w w' grows y (inv.executed y h');
        first = omega (arith, inv.first, (grows.leader 0).log.right);
        first_is = sym ((grows.leader 0).log.same 0 inv.first) ∙ inv.first_is;
        owned = λ e p u. still_past e (s.owner e) (inv.owned e p (established_back e u));
      }

  pub propose_kept : Invariants s (record (set_leader (set_log w (s.owner d) (push (log_of w (s.owner d)) (record { leader = d; payload = payload }))) d (record (w.leader d) { log = push (leader_log w d) (record { leader = d; payload = payload }) })) { acknowledged = acknowledge w.acknowledged (s.owner d) d (suc (log_of w (s.owner d)).len) })
  unfolding w' N' D'
  propose_kept = kept

  pub propose_grows : Grows w (record (set_leader (set_log w (s.owner d) (push (log_of w (s.owner d)) (record { leader = d; payload = payload }))) d (record (w.leader d) { log = push (leader_log w d) (record { leader = d; payload = payload }) })) { acknowledged = acknowledge w.acknowledged (s.owner d) d (suc (log_of w (s.owner d)).len) })
  unfolding w' N' D'
  propose_grows = grows
