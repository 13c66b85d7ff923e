-- Leader completeness: each leader's log holds all that is chosen under a lower leader id. It follows from the
-- invariants of one world, by induction on the greater leader id.
use Rattle.std.proofs.Common.{ℕ, zero, suc, ◌+◌, ◌<◌, ◌≤◌, ◌≡◌, ◌⊎◌, inl, inr, ⊎_elim, Bool, true, false, arith, refl, sym, ap, ◌∙◌, subst}
use Rattle.std.proofs.lemmas.Bool.{cases_order, cases_eq, cases_lt, true≢false}
use Rattle.proof_agreement.specs.Machine.{World, Setup, Grant, Includes, Agree, AtOrBelow, ShareGroup, Chosen, leader_log, last_leader, last_membership, effective_membership}
use Rattle.proof_agreement.proofs.Quorums.{Meet, meet, ShareGroup-sym, share_first}
use Rattle.proof_agreement.proofs.Logs.{Agree-refl, Agree-sym, Agree-trans, Agree-less, AtOrBelow-trans}
use Rattle.proof_agreement.proofs.Memberships.{IsMembership, last-lt, last-is, last-top, Next, next, membership-same}
use Rattle.proof_agreement.proofs.Invariants.{DecidedAt, FollowsAt, SafeAt, DecidedPast, MayLack, Elected, GrantInvariant, Invariants}
use Rattle.proof_agreement.proofs.LeaderIds.{chosen_up, rising, base_low, first_same, MembershipWriter, membership_writer}

module _ {A : Type 0} (s : Setup A) (w : World A) where
  -- the log of e holds what is chosen under lower leader ids
  abbrev pub Safe : ℕ → Type 0
  Safe e = (d k : ℕ) → d < e → (w.leader d).base ≤ k → Chosen s w d k → SafeAt w e d k

  abbrev pub Below : ℕ → Type 0
  Below e = (f : ℕ) → f < e → (w.leader f).established ≡ true → Safe f

  -- a leader below e has decided past k, and the groups are kept
  pub record DecidedPastBelow (e k : ℕ) : Type 0 where
    pub leader : ℕ
    pub low : leader < e
    pub decided_past : DecidedPast s w leader k

module _ {A : Type 0} (s : Setup A) (w : World A) (inv : Invariants s w) (e : ℕ) (established : (w.leader e).established ≡ true) (ih : Below s w e) where
  -- a chosen entry at or below the end with which e was established
  end_holds : (d k : ℕ) → (w.leader d).base ≤ k → Chosen s w d k → AtOrBelow d (suc k) (last_leader (leader_log w e).at (w.leader e).base) (w.leader e).base → SafeAt w e d k
  end_holds d k b c = go (w.leader e).base refl
    where
      at_last : (j : ℕ) → (w.leader e).base ≡ suc j → FollowsAt w (leader_log w e) j → (d < ((leader_log w e).at j).leader) ⊎ ((d ≡ ((leader_log w e).at j).leader) × (suc k ≤ suc j)) → SafeAt w e d k
      at_last j q F (inl l) =
          let f : ℕ = ((leader_log w e).at j).leader in
          let S : SafeAt w ((leader_log w e).at j).leader d k = ih ((leader_log w e).at j).leader (base_low s w inv e j (omega arith)) F.established d k l b c in
          record { inside = omega (arith, S.inside, F.base); agree = Agree-trans (Agree-less (suc k) (omega (arith, S.inside, F.base)) F.agree) S.agree }
      at_last j q F (inr p) = record { inside = omega (arith, p.1); agree = subst (λ x. Agree (suc k) (leader_log w e) (leader_log w x)) (sym p.0) (Agree-less (suc k) p.1 F.agree) }

      go : (n : ℕ) → (w.leader e).base ≡ n → AtOrBelow d (suc k) (last_leader (leader_log w e).at n) n → SafeAt w e d k
      go zero q (inl h) = absurd (omega arith)
      go zero q (inr h) = absurd (omega (arith, h.1))
      go (suc j) q h = at_last j q ((inv.leader e).follows j (omega (arith, (inv.leader e).base))) h

  -- where the groups that chose share one with those that e was established by
  shared : (d k : ℕ) → d < e → (w.leader d).base ≤ k → (c : Chosen s w d k) → ShareGroup s (effective_membership s (leader_log w d) c.span) (effective_membership s (leader_log w e) (w.leader e).base) → SafeAt w e d k ⊎ DecidedPastBelow s w e k
  shared d k l b c h = ⊎_elim at_end at_lack (GI.kept d k (omega (arith, x.3)) b (subst (λ n. k < w.acknowledged n d) (sym x.2) (c.each m.node m.left)))
    where
      E : Elected s w e (w.leader e)
      E = (inv.leader e).elected established (omega arith)

      m : Meet c.by E.by
      m = meet s (effective_membership s (leader_log w d) c.span) (effective_membership s (leader_log w e) (w.leader e).base) c.by E.by h c.quorum E.quorum

      x : (g : Grant) × Includes w.grants g × (g.node ≡ m.node) × (g.leader ≡ e) × AtOrBelow g.last g.len (last_leader (leader_log w e).at (w.leader e).base) (w.leader e).base
      x = E.each m.node m.right

      GI : GrantInvariant s w x.0
      GI = inv.grants x.0 x.1

      at_end : AtOrBelow d (suc k) (x.0).last (x.0).len → SafeAt w e d k ⊎ DecidedPastBelow s w e k
      at_end y = inl (end_holds d k b c (AtOrBelow-trans d (suc k) (x.0).last (x.0).len (last_leader (leader_log w e).at (w.leader e).base) (w.leader e).base y x.4))

      at_lack : MayLack s w (x.0).leader d k → SafeAt w e d k ⊎ DecidedPastBelow s w e k
      at_lack G = ⊎_elim
          (λ a. let S : SafeAt w G.leader d k = ih G.leader (omega (arith, G.low, x.3)) a.established d k a.above b c in absurd (a.apart (S.agree.same a.place (omega (arith, a.low)))))
          (λ y. inr (record { leader = G.leader; low = omega (arith, G.low, x.3); decided_past = y }))
          G.why

  -- Where the groups change
  module _ (change : s.groups_kept ≡ false) where
    by_share : (d k : ℕ) → d < e → (w.leader d).base ≤ k → (c : Chosen s w d k) → ShareGroup s (effective_membership s (leader_log w d) c.span) (effective_membership s (leader_log w e) (w.leader e).base) → SafeAt w e d k
    by_share d k l b c h = ⊎_elim (λ x. x) (λ x. let y : DecidedPast s w x.leader k = x.decided_past in absurd (true≢false (sym y.0 ∙ change))) (shared d k l b c h)

    -- the last membership of e's base
    abbrev p : ℕ
    p = last_membership s (leader_log w e).at (w.leader e).base

    -- d has the last membership of e's base too
    onward : (d k : ℕ) → d < e → (w.leader d).base ≤ k → (c : Chosen s w d k) → Agree (suc p) (leader_log w e) (leader_log w d) → p ≤ last_membership s (leader_log w d).at c.span → SafeAt w e d k
    onward d k l b c a h = ⊎_elim same_one (λ ne. further (omega arith)) (cases_eq p (last_membership s (leader_log w d).at c.span))
      where
        same_one : p ≡ last_membership s (leader_log w d).at c.span → SafeAt w e d k
        same_one q =
            let z : effective_membership s (leader_log w d) c.span ≡ effective_membership s (leader_log w e) (w.leader e).base = ap (λ j. ((leader_log w d).at j).payload) (sym q) ∙ sym (ap (λ x. x.payload) (a.same p (omega arith))) in
            by_share d k l b c (share_first s (effective_membership s (leader_log w d) c.span) (effective_membership s (leader_log w e) (w.leader e).base) (ap s.first_group z))

        further : p < last_membership s (leader_log w d).at c.span → SafeAt w e d k
        further q = ⊎_elim adjacent (λ ne. absurd (two_apart (omega (arith, N.upto, ne)))) (cases_eq N.at (last_membership s (leader_log w d).at c.span))
          where
            j_lt : last_membership s (leader_log w d).at c.span < c.span
            j_lt = last-lt s (leader_log w d).at c.span (omega (arith, c.past))

            j_is : IsMembership s (leader_log w d).at (last_membership s (leader_log w d).at c.span)
            j_is = last-is s (leader_log w d).at c.span (omega arith)

            N : Next s (leader_log w d).at p (last_membership s (leader_log w d).at c.span)
            N = next s (leader_log w d).at p (last_membership s (leader_log w d).at c.span) (λ z. membership-same s p (omega arith) a (last-is s (leader_log w e).at (w.leader e).base z)) q j_is

            n_lt : N.at < (leader_log w d).len
            n_lt = omega (arith, N.upto, j_lt, c.inside)

            V : MembershipWriter s w (leader_log w d) N.at
            V = membership_writer s w inv change (leader_log w d) (inv.leader d).follows N.at (omega (arith, N.past)) n_lt N.is

            -- the groups before the membership after e's are e's
            is_ours : effective_membership s (leader_log w d) N.at ≡ effective_membership s (leader_log w e) (w.leader e).base
            is_ours = ap (λ j. ((leader_log w d).at j).payload) N.last ∙ sym (ap (λ x. x.payload) (a.same p (omega arith)))

            next_share : ShareGroup s ((leader_log w d).at N.at).payload (effective_membership s (leader_log w e) (w.leader e).base)
            next_share = subst (λ y. ShareGroup s ((leader_log w d).at N.at).payload y) is_ours (ShareGroup-sym V.share)

            adjacent : N.at ≡ last_membership s (leader_log w d).at c.span → SafeAt w e d k
            adjacent r = by_share d k l b c (subst (λ j. ShareGroup s ((leader_log w d).at j).payload (effective_membership s (leader_log w e) (w.leader e).base)) r next_share)

            two_apart : N.at < last_membership s (leader_log w d).at c.span → ⊥
            two_apart r =
                let M : Next s (leader_log w d).at N.at (last_membership s (leader_log w d).at c.span) = next s (leader_log w d).at N.at (last_membership s (leader_log w d).at c.span) (λ _. N.is) r j_is in
                let m_lt : M.at < (leader_log w d).len = omega (arith, M.upto, j_lt, c.inside) in
                let U : MembershipWriter s w (leader_log w d) M.at = membership_writer s w inv change (leader_log w d) (inv.leader d).follows M.at (omega (arith, M.past)) m_lt M.is in
                let z : effective_membership s (leader_log w ((leader_log w d).at M.at).leader) U.chosen.span ≡ ((leader_log w d).at N.at).payload = U.by ∙ ap (λ j. ((leader_log w d).at j).payload) M.last in
                let S : SafeAt w e ((leader_log w d).at M.at).leader U.upto = by_share ((leader_log w d).at M.at).leader U.upto (omega (arith, (inv.leader d).low M.at m_lt)) U.base U.chosen (subst (λ y. ShareGroup s y (effective_membership s (leader_log w e) (w.leader e).base)) (sym z) next_share) in
                let k' : N.at ≤ U.upto = omega (arith, M.last, U.last) in
                let t : IsMembership s (leader_log w e).at N.at = membership-same s N.at (omega arith) (Agree-trans (Agree-less (suc N.at) (omega (arith, M.past)) U.agree) (Agree-sym (Agree-less (suc N.at) (omega arith) S.agree))) N.is in
                let u : N.at ≤ p = last-top s (leader_log w e).at (w.leader e).base N.at (omega (arith, S.inside)) t in
                omega (arith, N.past)

    -- e's last membership was written by a leader, with which d is compared
    module _ (some : 0 < p) where
      base_some : 0 < (w.leader e).base
      base_some = ⊎_elim (λ l. l) (λ l. let z : (w.leader e).base ≡ 0 = omega arith in let y : p ≡ 0 = ap (last_membership s (leader_log w e).at) z in absurd (omega arith)) (cases_lt 0 (w.leader e).base)

      p_lt : p < (w.leader e).base
      p_lt = last-lt s (leader_log w e).at (w.leader e).base base_some

      p_is : IsMembership s (leader_log w e).at p
      p_is = last-is s (leader_log w e).at (w.leader e).base some

      W : MembershipWriter s w (leader_log w e) p
      W = membership_writer s w inv change (leader_log w e) (inv.leader e).follows p some (omega (arith, p_lt, (inv.leader e).base)) p_is

      abbrev f' : ℕ
      f' = ((leader_log w e).at p).leader

      below : f' < e
      below = base_low s w inv e p p_lt

      -- the membership before it
      abbrev i : ℕ
      i = last_membership s (leader_log w e).at p

      i_lt : i < p
      i_lt = last-lt s (leader_log w e).at p some

      -- that leader is below d
      module _ (d k : ℕ) (l : d < e) (b : (w.leader d).base ≤ k) (c : Chosen s w d k) (lower : f' < d) where
        abbrev j : ℕ
        j = last_membership s (leader_log w d).at c.span

        S : SafeAt w d f' W.upto
        S = ih d l (chosen_up s w inv d k c) f' W.upto lower W.base W.chosen

        both : Agree (suc W.upto) (leader_log w d) (leader_log w e)
        both = Agree-trans S.agree (Agree-sym (Agree-less (suc W.upto) (omega (arith, W.past)) W.agree))

        at_i : (leader_log w d).at i ≡ (leader_log w e).at i
        at_i = both.same i (omega (arith, W.last))

        i_is : 0 < i → IsMembership s (leader_log w d).at i
        i_is z = membership-same s i (omega (arith, W.last)) (Agree-sym both) (last-is s (leader_log w e).at p z)

        i_le : i ≤ j
        i_le = ⊎_elim (λ z. last-top s (leader_log w d).at c.span i (omega (arith, W.last, S.inside, b, c.past)) (i_is z)) (λ z. omega arith) (cases_lt 0 i)

        one_apart : i ≡ j → SafeAt w e d k
        one_apart q =
            let z : effective_membership s (leader_log w d) c.span ≡ effective_membership s (leader_log w e) p = ap (λ y. ((leader_log w d).at y).payload) (sym q) ∙ ap (λ x. x.payload) at_i in
            by_share d k l b c (subst (λ y. ShareGroup s y (effective_membership s (leader_log w e) (w.leader e).base)) (sym z) W.share)

        -- two memberships after the one at i: the one in d's log at n, and the last one of e
        module _ (q : i < j) where
          j_lt : j < c.span
          j_lt = last-lt s (leader_log w d).at c.span (omega (arith, c.past))

          N : Next s (leader_log w d).at i j
          N = next s (leader_log w d).at i j i_is q (last-is s (leader_log w d).at c.span (omega arith))

          n_lt : N.at < (leader_log w d).len
          n_lt = omega (arith, N.upto, j_lt, c.inside)

          V : MembershipWriter s w (leader_log w d) N.at
          V = membership_writer s w inv change (leader_log w d) (inv.leader d).follows N.at (omega (arith, N.past)) n_lt N.is

          abbrev f : ℕ
          f = ((leader_log w d).at N.at).leader

          f_le : f ≤ d
          f_le = (inv.leader d).low N.at n_lt

          -- one leader wrote both: they are one
          one_leader : f ≡ f' → SafeAt w e d k
          one_leader r =
              let V' : Agree (suc N.at) (leader_log w d) (leader_log w f') = subst (λ y. Agree (suc N.at) (leader_log w d) (leader_log w y)) r V.agree in
              ⊎_elim
              (λ m.
              let a : Agree (suc p) (leader_log w e) (leader_log w d) = Agree-trans W.agree (Agree-sym (subst (λ y. Agree (suc y) (leader_log w d) (leader_log w f')) m V')) in
              onward d k l b c a (omega (arith, N.upto, m)))
              (λ m. ⊎_elim
              (λ m. let t : IsMembership s (leader_log w e).at N.at = membership-same s N.at (omega arith) (Agree-trans V' (Agree-sym (Agree-less (suc N.at) (omega arith) W.agree))) N.is in
              let u : N.at ≤ i = last-top s (leader_log w e).at p N.at m t in
              absurd (omega (arith, N.past)))
              (λ m. let t : IsMembership s (leader_log w d).at p = membership-same s p (omega arith) (Agree-trans W.agree (Agree-sym (Agree-less (suc p) (omega arith) V'))) p_is in
              let u : p ≤ last_membership s (leader_log w d).at N.at = last-top s (leader_log w d).at N.at p m t in
              absurd (omega (arith, u, N.last, i_lt)))
              m)
              (cases_order N.at p)

          -- d has the entry that the later one's leader had chosen before it wrote: it would have seen the other
          -- membership
          later_wrote : f < f' → ⊥
          later_wrote r =
              ⊎_elim
              (λ m. let t : IsMembership s (leader_log w e).at N.at = membership-same s N.at m both N.is in
              let u : N.at ≤ i = last-top s (leader_log w e).at p N.at (omega (arith, m, W.past)) t in
              omega (arith, N.past))
              (λ m.
              let x : ((leader_log w d).at W.upto).leader ≡ f' = ap (λ y. y.leader) (S.agree.same W.upto (omega arith)) ∙ (inv.leader f').mine W.upto W.base (omega (arith, S.agree.right)) in
              let y : ((leader_log w d).at W.upto).leader ≤ f = rising s w inv (leader_log w d) (inv.leader d).follows W.upto N.at (omega arith) n_lt in
              omega arith)
              (cases_lt N.at (suc W.upto))

          -- e has the entry that the other one's leader had chosen before it wrote
          earlier_wrote : f' < f → ⊥
          earlier_wrote r =
              let z : effective_membership s (leader_log w f) V.chosen.span ≡ effective_membership s (leader_log w e) p = V.by ∙ (ap (λ y. ((leader_log w d).at y).payload) N.last ∙ ap (λ x. x.payload) at_i) in
              let T : SafeAt w e f V.upto = by_share f V.upto (omega (arith, f_le)) V.base V.chosen (subst (λ y. ShareGroup s y (effective_membership s (leader_log w e) (w.leader e).base)) (sym z) W.share) in
              ⊎_elim
              (λ m.
              let x : ((leader_log w e).at V.upto).leader ≡ f = ap (λ y. y.leader) (T.agree.same V.upto (omega arith)) ∙ (inv.leader f).mine V.upto V.base (omega (arith, T.agree.right)) in
              let y : ((leader_log w e).at V.upto).leader ≤ f' = rising s w inv (leader_log w e) (inv.leader e).follows V.upto p (omega arith) (omega (arith, p_lt, (inv.leader e).base)) in
              omega arith)
              (λ m.
              let t : IsMembership s (leader_log w d).at p = membership-same s p (omega arith) (Agree-trans T.agree (Agree-sym (Agree-less (suc V.upto) (omega (arith, V.past)) V.agree))) p_is in
              let u : p ≤ last_membership s (leader_log w d).at N.at = last-top s (leader_log w d).at N.at p (omega (arith, V.past)) t in
              omega (arith, u, N.last, i_lt))
              (cases_lt V.upto p)

          two_after : SafeAt w e d k
          two_after = ⊎_elim one_leader (λ r. ⊎_elim (λ r. absurd (later_wrote r)) (λ r. absurd (earlier_wrote r)) r) (cases_order f f')

        above_writer : SafeAt w e d k
        above_writer = ⊎_elim one_apart (λ ne. two_after (omega (arith, i_le, ne))) (cases_eq i j)

      -- that leader is d itself
      at_writer : (d k : ℕ) → d < e → (w.leader d).base ≤ k → Chosen s w d k → d ≡ f' → SafeAt w e d k
      at_writer d k l b c r =
          let a : Agree (suc p) (leader_log w e) (leader_log w d) = subst (λ y. Agree (suc p) (leader_log w e) (leader_log w y)) (sym r) W.agree in
          ⊎_elim
          (λ m. onward d k l b c a (last-top s (leader_log w d).at c.span p (omega (arith, c.past)) (membership-same s p (omega arith) a p_is)))
          (λ m. record { inside = omega (arith, p_lt); agree = Agree-less (suc k) (omega arith) a })
          (cases_lt p k)

      -- that leader is above d, so it holds what d had chosen
      below_writer : (d k : ℕ) → (w.leader d).base ≤ k → Chosen s w d k → d < f' → SafeAt w e d k
      below_writer d k b c r =
          let S : SafeAt w f' d k = ih f' below W.established d k r b c in
          ⊎_elim
          (λ m. let F : FollowsAt w (leader_log w e) p = (inv.leader e).follows p (omega (arith, p_lt, (inv.leader e).base)) in absurd (omega (arith, S.inside, F.base)))
          (λ m. record { inside = omega (arith, p_lt); agree = Agree-trans (Agree-less (suc k) (omega arith) W.agree) S.agree })
          (cases_lt p k)

      later_membership : (d k : ℕ) → d < e → (w.leader d).base ≤ k → Chosen s w d k → SafeAt w e d k
      later_membership d k l b c = ⊎_elim (at_writer d k l b c) (λ r. ⊎_elim (below_writer d k b c) (above_writer d k l b c) r) (cases_order d f')

    changing : Safe s w e
    changing d k l b c = ⊎_elim (λ z. later_membership z d k l b c) first_membership (cases_lt 0 p)
      where
        E : Elected s w e (w.leader e)
        E = (inv.leader e).elected established (omega arith)

        first_membership : p ≤ 0 → SafeAt w e d k
        first_membership z =
            let q : 0 ≡ p = omega arith in
            let a : Agree 1 (leader_log w e) (leader_log w d) = Agree-trans (first_same s w inv e (omega (arith, E.some, (inv.leader e).base))) (Agree-sym (first_same s w inv d (omega (arith, c.past, c.inside)))) in
            onward d k l b c (subst (λ y. Agree (suc y) (leader_log w e) (leader_log w d)) q a) (omega arith)

  -- Where the groups are kept
  module _ (keeps : s.groups_kept ≡ true) where
    -- each membership has the first group of the first entry
    group_first : (d m : ℕ) → 0 < m → m ≤ (leader_log w d).len → s.first_group (effective_membership s (leader_log w d) m) ≡ s.first_group s.first_payload
    group_first d m z h = go (last_membership s (leader_log w d).at m) refl
      where
        go : (i : ℕ) → last_membership s (leader_log w d).at m ≡ i → s.first_group ((leader_log w d).at i).payload ≡ s.first_group s.first_payload
        go zero q = ap (λ x. s.first_group x.payload) ((first_same s w inv d (omega arith)).same 0 (omega arith)) ∙ ap (λ x. s.first_group x.payload) inv.first_is
        go (suc i) q =
            let t : IsMembership s (leader_log w d).at (suc i) = subst (λ y. IsMembership s (leader_log w d).at y) q (last-is s (leader_log w d).at m (omega arith)) in
            let u : suc i < (leader_log w d).len = omega (arith, q, last-lt s (leader_log w d).at m z) in
            let F : FollowsAt w (leader_log w d) (suc i) = (inv.leader d).follows (suc i) u in
            let x : (leader_log w d).at (suc i) ≡ (leader_log w ((leader_log w d).at (suc i)).leader).at (suc i) = F.agree.same (suc i) (omega arith) in
            ap (λ y. s.first_group y.payload) x ∙ ((inv.leader ((leader_log w d).at (suc i)).leader).memberships (suc i) (omega arith) F.base (omega (arith, F.agree.right)) (membership-same s (suc i) (omega arith) F.agree t)).same keeps

    meets : (d k : ℕ) → d < e → (c : Chosen s w d k) → ShareGroup s (effective_membership s (leader_log w d) c.span) (effective_membership s (leader_log w e) (w.leader e).base)
    meets d k l c =
        let E : Elected s w e (w.leader e) = (inv.leader e).elected established (omega arith) in
        share_first s (effective_membership s (leader_log w d) c.span) (effective_membership s (leader_log w e) (w.leader e).base) (group_first d c.span (omega (arith, c.past)) c.inside ∙ sym (group_first e (w.leader e).base E.some (inv.leader e).base))

    Held : ℕ → Type 0
    Held k = (d : ℕ) → d < e → (w.leader d).base ≤ k → Chosen s w d k → SafeAt w e d k

    -- what a voter lost is below another chosen entry, which is to be looked at first
    held_step : (k : ℕ) → ((k2 : ℕ) → k < k2 → Held k2) → Held k
    unfolding Held
    held_step k more d l b c = ⊎_elim (λ x. x) at_lost (shared d k l b c (meets d k l c))
      where
        at_lost : DecidedPastBelow s w e k → SafeAt w e d k
        at_lost G = go (w.leader G.leader).decided refl
          where
            go : (m : ℕ) → (w.leader G.leader).decided ≡ m → SafeAt w e d k
            go zero q = absurd (let y : DecidedPast s w G.leader k = G.decided_past in omega (arith, y.1))
            go (suc m) q =
                let y : DecidedPast s w G.leader k = G.decided_past in
                let D : DecidedAt s w G.leader m (w.leader G.leader) = (inv.leader G.leader).decided m q in
                let past : k < m = omega (arith, y.1) in
                let T : SafeAt w e G.leader m = more m past G.leader G.low D.base D.chosen in
                let a : Agree (suc k) (leader_log w G.leader) (leader_log w d) =
                ⊎_elim
                (λ r. subst (λ x. Agree (suc k) (leader_log w G.leader) (leader_log w x)) (sym r) (Agree-refl (suc k) (leader_log w G.leader) (omega (arith, D.inside))))
                (λ r. ⊎_elim
                (λ r. (ih G.leader G.low D.established d k r b c).agree)
                (λ r. Agree-less (suc k) (omega arith) (Agree-sym (ih d l (chosen_up s w inv d k c) G.leader m r D.base D.chosen).agree))
                r)
                (cases_order d G.leader) in
                record { inside = omega (arith, T.inside); agree = Agree-trans (Agree-less (suc k) (omega arith) T.agree) a }

    held_by : (fuel k : ℕ) → inv.bound.0 ≤ k + fuel → Held k
    unfolding Held
    held_by zero k m = λ d l b c. absurd (omega (arith, inv.bound.1 d, c.past, c.inside))
    held_by (suc fuel) k m = held_step k (λ k2 q. held_by fuel k2 (omega arith))

    keeping : Safe s w e
    unfolding Held
    keeping d k l b c = held_by inv.bound.0 k (omega arith) d l b c

  pub safe_step : Safe s w e
  safe_step = go s.groups_kept refl
    where
      go : (b : Bool) → s.groups_kept ≡ b → Safe s w e
      go true r = keeping r
      go false r = changing r

module _ {A : Type 0} (s : Setup A) (w : World A) (inv : Invariants s w) where
  safe_by : (fuel e : ℕ) → e < fuel → (w.leader e).established ≡ true → Safe s w e
  safe_by zero e h u = absurd (omega arith)
  safe_by (suc fuel) e h u = safe_step s w inv e u (λ f l v. safe_by fuel f (omega arith) v)

  -- whichever came first in time
  pub safe : (e d k : ℕ) → (w.leader e).established ≡ true → d < e → (w.leader d).base ≤ k → Chosen s w d k → SafeAt w e d k
  safe e d k u l b c = safe_by (suc e) e (omega arith) u d k l b c
