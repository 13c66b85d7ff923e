-- Each event that changes a leader's history, an acknowledgement or a record keeps the invariants.
use Rattle.std.proofs.Common.{ℕ, suc, ◌<◌, ◌≤◌, ◌≡◌, ◌⊎◌, inl, inr, ⊎_elim, Bool, true, false, ◌∷◌, max, arith, refl, sym, ap, ◌∙◌, subst}
use Rattle.std.proofs.lemmas.Bool.{cases_lt}
use Rattle.proof_agreement.specs.Machine.{Leader, World, Setup, Grant, Executed, Agree, log_of, leader_log, vote_of, last_leader, set_leader, acknowledge, MayAcknowledge, MayDecide}
use Rattle.proof_agreement.proofs.Logs.{Agree-less, Agree-refl, updated_all, acknowledged_cases, acknowledged_more}
use Rattle.proof_agreement.proofs.Invariants.{DecidedAt, Elected, MembershipMade, MembershipMadeAt, Covered, ExecutedAt, NodeInvariant, LeaderInvariant, GrantInvariant, Invariants, limit}
use Rattle.proof_agreement.proofs.Stability.{LeaderGrows, LeaderGrows-refl, Grows, chosen_on, node_on, leader_on, acknowledged_on, grant_on, executed_on}
use Rattle.proof_agreement.proofs.Consequences.{limit_not_committed, may_lack_up}
use Rattle.proof_agreement.proofs.LeaderIds.{below_end}

module _ {A : Type 0} (s : Setup A) (w : World A) (inv : Invariants s w) where
  -- A vote is given

  new_grant : ℕ → Grant
  new_grant n = record { node = n; leader = vote_of w n; last = last_leader (log_of w n).at (log_of w n).len; len = (log_of w n).len }

  new_grant_invariant : (n : ℕ) → (w.node n).vote_committed ≡ false → GrantInvariant s w (new_grant n)
  unfolding new_grant
  new_grant_invariant n h =
      let I : NodeInvariant s w n (w.node n) = inv.node n in
      record {
        low = omega arith;
        kept = λ e k l b a.
            ⊎_elim
            (λ x. inl (below_end s w inv (log_of w n) I.follows e k x.left (ap (λ y. y.leader) (x.same k (omega arith)) ∙ (inv.leader e).mine k b x.right)))
            (λ x. inr (may_lack_up s w (limit (w.node n)) (vote_of w n) e k (omega (arith, limit_not_committed (w.node n) h)) x))
            (I.kept e k a);
      }

  grant_vote_grows : (n : ℕ) → Grows w (record w { grants = new_grant n ∷ w.grants })
  grant_vote_grows n = record { leader = λ d. LeaderGrows-refl (w.leader d); vote = λ m. omega arith; acknowledged = λ m d k a. inl a; acknowledges = λ m d. omega arith; grants = λ x h. inr h }

  pub grant_vote_kept : (n : ℕ) → (w.node n).vote_committed ≡ false → Invariants s (record w { grants = record { node = n; leader = vote_of w n; last = last_leader (log_of w n).at (log_of w n).len; len = (log_of w n).len } ∷ w.grants })
  unfolding new_grant
  grant_vote_kept n t =
      let w' : World A = record w { grants = new_grant n ∷ w.grants } in
      let g : Grows w w' = grant_vote_grows n in
      record {
        node = λ m. node_on s w w' g inv m (w.node m) (λ _ _. refl) (λ e k a. inl a) (inv.node m);
        leader = λ d. leader_on s w w' g inv d (w.leader d) (inv.leader d);
        acknowledged = λ m d k a. acknowledged_on s w w' g inv m d k (inv.acknowledged m d k a);
        grants = λ x h. grant_on s w w' g inv x (⊎_elim (λ e. subst (λ y. GrantInvariant s w y) e (new_grant_invariant n t)) (inv.grants x) h);
        bound = inv.bound;
        executed = λ x h. executed_on s w w' g x (inv.executed x h);
        first = inv.first;
        first_is = inv.first_is;
        owned = inv.owned;
      }

  -- An entry is executed

  execute_grows : (x : Executed A) → Grows w (record w { executed = x ∷ w.executed })
  execute_grows x = record { leader = λ d. LeaderGrows-refl (w.leader d); vote = λ m. omega arith; acknowledged = λ m d k a. inl a; acknowledges = λ m d. omega arith; grants = λ x h. h }

  new_executed : (n i : ℕ) → i < (w.node n).committed → ExecutedAt w (record { index = i; entry = (log_of w n).at i })
  new_executed n i h =
      let C : Covered w (vote_of w n) (log_of w n) (w.node n).committed = (inv.node n).cover in
      record { leader = C.leader; within = omega (arith, C.within); inside = omega (arith, C.agree.right); is = sym (C.agree.same i h) }

  pub execute_kept : (n i : ℕ) → i < (w.node n).committed → Invariants s (record w { executed = record { index = i; entry = (log_of w n).at i } ∷ w.executed })
  execute_kept n i h =
      let w' : World A = record w { executed = record { index = i; entry = (log_of w n).at i } ∷ w.executed } in
      let g : Grows w w' = execute_grows (record { index = i; entry = (log_of w n).at i }) in
      record {
        node = λ m. node_on s w w' g inv m (w.node m) (λ _ _. refl) (λ e k a. inl a) (inv.node m);
        leader = λ d. leader_on s w w' g inv d (w.leader d) (inv.leader d);
        acknowledged = λ m d k a. acknowledged_on s w w' g inv m d k (inv.acknowledged m d k a);
        grants = λ x h'. grant_on s w w' g inv x (inv.grants x h');
        bound = inv.bound;
        executed = λ x h'. executed_on s w w' g x (⊎_elim (λ e. subst (λ y. ExecutedAt w y) e (new_executed n i h)) (inv.executed x) h');
        first = inv.first;
        first_is = inv.first_is;
        owned = inv.owned;
      }

  -- A node acknowledges its leader

  record AcknowledgedCase (n d k : ℕ) : Type 0 where
    agree : Agree (suc k) (log_of w n) (leader_log w d)
    vote : vote_of w n ≡ d
    established : (w.leader d).established ≡ true

  acknowledges : (n y m d k : ℕ) → MayAcknowledge w n y → k < acknowledge w.acknowledged n (vote_of w n) (max y (w.acknowledged n (vote_of w n))) m d → (k < w.acknowledged m d) ⊎ AcknowledgedCase m d k
  acknowledges n y m d k h a =
      ⊎_elim inl
      (λ p. ⊎_elim
      (λ l. inl (subst (λ j. k < w.acknowledged j d) (sym p.0) (subst (λ e. k < w.acknowledged n e) (sym p.1) l)))
      (λ l. let l' : suc k ≤ y = omega (arith, p.2) in
      inr (subst (λ j. AcknowledgedCase j d k) (sym p.0) (subst (λ e. AcknowledgedCase n e k) (sym p.1) (record { agree = Agree-less (suc k) l' h.agree; vote = refl; established = (inv.node n).established h.vote_committed }))))
      (cases_lt k (w.acknowledged n (vote_of w n))))
      (acknowledged_cases w.acknowledged n (vote_of w n) (max y (w.acknowledged n (vote_of w n))) m d k a)

  pub acknowledge_grows : (n y : ℕ) → MayAcknowledge w n y → Grows w (record w { acknowledged = acknowledge w.acknowledged n (vote_of w n) (max y (w.acknowledged n (vote_of w n))) })
  acknowledge_grows n y h =
      record {
        leader = λ d. LeaderGrows-refl (w.leader d);
        vote = λ m. omega arith;
        acknowledged = λ m d k a. ⊎_elim inl (λ c. inr c.vote) (acknowledges n y m d k h a);
        acknowledges = acknowledged_more w.acknowledged n (vote_of w n) (max y (w.acknowledged n (vote_of w n))) (omega arith);
        grants = λ x h. h;
      }

  pub acknowledge_kept : (n y : ℕ) → MayAcknowledge w n y → Invariants s (record w { acknowledged = acknowledge w.acknowledged n (vote_of w n) (max y (w.acknowledged n (vote_of w n))) })
  acknowledge_kept n y h =
      let w' : World A = record w { acknowledged = acknowledge w.acknowledged n (vote_of w n) (max y (w.acknowledged n (vote_of w n))) } in
      let g : Grows w w' = acknowledge_grows n y h in
      record {
        node = λ m. node_on s w w' g inv m (w.node m) (λ _ _. refl) (λ e k a. ⊎_elim inl (λ c. inr c.agree) (acknowledges n y m e k h a)) (inv.node m);
        leader = λ d. leader_on s w w' g inv d (w.leader d) (inv.leader d);
        acknowledged = λ m d k a. acknowledged_on s w w' g inv m d k (⊎_elim (inv.acknowledged m d k) (λ c. record { low = omega (arith, c.vote); established = c.established; inside = omega (arith, c.agree.right) }) (acknowledges n y m d k h a));
        grants = λ x h'. grant_on s w w' g inv x (inv.grants x h');
        bound = inv.bound;
        executed = λ x h'. executed_on s w w' g x (inv.executed x h');
        first = inv.first;
        first_is = inv.first_is;
        owned = inv.owned;
      }

  -- A leader decides

  pub decide_grows : (d c : ℕ) → Grows w (set_leader w d (record (w.leader d) { decided = max c (w.leader d).decided }))
  decide_grows d c =
      record {
        leader = updated_all (λ e D. LeaderGrows (w.leader e) D) w.leader d (record (w.leader d) { decided = max c (w.leader d).decided })
            (record { established = λ h. h; base = λ _. refl; log = Agree-refl (leader_log w d).len (leader_log w d) (omega arith); decided = omega arith })
            (λ e _. LeaderGrows-refl (w.leader e));
        vote = λ m. omega arith;
        acknowledged = λ m e k a. inl a;
        acknowledges = λ m e. omega arith;
        grants = λ x h. h;
      }

  decided_now : (d c : ℕ) (q : ℕ → Bool) → MayDecide s w d c q → (k : ℕ) → max c (w.leader d).decided ≡ suc k → DecidedAt s w d k (w.leader d)
  decided_now d c q h k e =
      ⊎_elim
      (λ l. (inv.leader d).decided k (omega arith))
      (λ l. let p : c ≡ suc k = omega arith in
      record {
        established = h.established;
        base = omega (arith, h.own);
        inside = omega (arith, h.holds, h.in_log);
        chosen = record { span = h.span; past = omega (arith, h.holds); inside = h.in_log; by = q; quorum = h.quorum; each = λ n t. omega (arith, h.each n t) };
      })
      (cases_lt c (w.leader d).decided)

  pub decide_kept : (d c : ℕ) (q : ℕ → Bool) → MayDecide s w d c q → Invariants s (set_leader w d (record (w.leader d) { decided = max c (w.leader d).decided }))
  decide_kept d c q h =
      let D' : Leader A = record (w.leader d) { decided = max c (w.leader d).decided } in
      let w' : World A = set_leader w d D' in
      let g : Grows w w' = decide_grows d c in
      let same : (e : ℕ) → (leader_log w' e).len ≡ (leader_log w e).len = updated_all (λ e D. D.log.len ≡ (leader_log w e).len) w.leader d D' refl (λ e _. refl) in
      let behind : (e : ℕ) → (w'.leader e).established ≡ true → (w.leader e).established ≡ true = updated_all (λ e D. D.established ≡ true → (w.leader e).established ≡ true) w.leader d D' (λ u. u) (λ e _ u. u) in
      record {
        node = λ m. node_on s w w' g inv m (w.node m) (λ _ _. same (vote_of w m)) (λ e k a. inl a) (inv.node m);
        leader = updated_all (λ e D. LeaderInvariant s w' e D) w.leader d D'
            (let L : LeaderInvariant s w' d (w.leader d) = leader_on s w w' g inv d (w.leader d) (inv.leader d) in
            record {
              established = L.established;
              base = L.base;
              follows = L.follows;
              low = L.low;
              mine = L.mine;
              elected = λ u p. let E : Elected s w' d (w.leader d) = L.elected u p in record { some = E.some; by = E.by; quorum = E.quorum; each = E.each };
              decided = λ k e. let x : DecidedAt s w d k (w.leader d) = decided_now d c q h k e in record { established = x.established; base = x.base; inside = x.inside; chosen = chosen_on s w w' g d k x.chosen };
              memberships = λ m p b l t. let M : MembershipMade s w' d m (w.leader d) = L.memberships m p b l t in record { same = M.same; change = λ c. let y : MembershipMadeAt s w' d m (w.leader d) = M.change c in record { upto = y.upto; base = y.base; past = y.past; last = y.last; by = y.by; quorum = y.quorum; each = y.each; share = y.share } };
              settled = L.settled;
            })
            (λ e _. leader_on s w w' g inv e (w.leader e) (inv.leader e));
        acknowledged = λ m e k a. acknowledged_on s w w' g inv m e k (inv.acknowledged m e k a);
        grants = λ x h'. grant_on s w w' g inv x (inv.grants x h');
        bound = (inv.bound.0, λ e. omega (arith, same e, inv.bound.1 e));
        executed = λ x h'. executed_on s w w' g x (inv.executed x h');
        first = omega (arith, same 0, inv.first);
        first_is = sym ((g.leader 0).log.same 0 inv.first) ∙ inv.first_is;
        owned = λ e p u. inv.owned e p (behind e u);
      }
