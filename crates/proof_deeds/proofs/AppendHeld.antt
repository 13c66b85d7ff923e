-- What a leader tells as committed, as far as it was accepted, is in the log: no reached world refuses it.
use Rattle.std.proofs.Common.{ℕ, ◌+◌, ◌<◌, ◌≤◌, ◌≡◌, ◌⊎◌, inl, inr, ⊎_elim, Bool, true, false, cond, not, arith, refl, sym, ap, ◌∙◌, subst, true≢false, Option, None, Some, length}
use Rattle.std.specs.Prelude.{IfSome, nat_lt, ◌&&◌, ◌||◌}
use Rattle.std.specs.Ordering.{is_gt, is_le, is_lt, nat_cmp}
use Rattle.std.proofs.lemmas.Bool.{cases_lt, both_ways, or_cases, ltb-true}
use Rattle.std.proofs.lemmas.Cmp.{nat_cmp_total}
use Rattle.raft_node.specs.raft_state.declared.ids.LogId.{LogId}
use Rattle.raft_node.specs.raft_state.Fits.{fits, is_below, is_within}
use Rattle.raft_node.specs.raft_state.Invariants.{IsSoundState}
use Rattle.raft_node.specs.raft_state.Log.{at}
use Rattle.raft_node.specs.raft_state.Order.{next, last_id_cmp}
use Rattle.raft_node.specs.raft_state.Same.{found_is, nat_same}
use Rattle.raft_node.specs.raft_state.State.{accepted, commits, has_log_id, is_found}
use Rattle.raft_node.proofs.raft_state_proofs.Orders.{and_both, lt_is_le, lt_le, lt_of_gt, lt_not_ge, last_total, within_le}
use Rattle.raft_node.proofs.raft_state_proofs.StateLaws.{purged_within}
use Rattle.raft_node.specs.raft_steps.FollowingHandler.{commit_target}
use Rattle.raft_node.specs.raft_steps.RequestRefusals.{is_missing}
use Rattle.proof_agreement.specs.Machine.{Setup, start}
use Rattle.proof_agreement.specs.Stores.{Append, whole, entry_at}
use Rattle.proof_agreement.specs.Deeds.{FromLeader, MayAccept}
use Rattle.proof_agreement.proofs.StoresBridge.{ids_rise, told_above, told_held}
use Rattle.raft_node.specs.raft_store.declared.entry.Entry.{Entry}
use Rattle.raft_node.specs.raft_store.Entries.{entry_meaning}
use Rattle.raft_node.specs.raft_store.Types.{WorldStore}
use Rattle.proof_mirror.specs.Ready.{InStep}
use Rattle.proof_mirror.proofs.Shape.{Shape, shape_of}
use Rattle.proof_mirror.proofs.Sound.{fits_within}
use Rattle.proof_deeds.specs.Chains.{Reached}
use Rattle.proof_deeds.specs.Follows.{StoreIs}
use Rattle.proof_deeds.specs.Images.{Ideal, IsNamed, IdNamed, number, last_number}
use Rattle.proof_deeds.specs.Knows.{KnowsAccepted}
use Rattle.proof_deeds.proofs.AppendCommits.{id_below, accepted_fits}
use Rattle.proof_deeds.proofs.AppendFitting.{Placed}
use Rattle.proof_deeds.proofs.AppendRefusals.{at_or_below, committed_placed}
use Rattle.proof_deeds.proofs.Appends.{follows_on_from}
use Rattle.proof_deeds.proofs.AppendTails.{lacks_is, named_at}
use Rattle.proof_deeds.proofs.Roles.{WorldState}
use Rattle.proof_deeds.proofs.Tails.{tail_committed}
use Rattle.proof_deeds.proofs.Worlds.{does_self}

module _ (s : Setup Entry) (n : ℕ) (V : Ideal) (reached : Reached s V) (T : WorldStore) (st : WorldState) (h : StoreIs s T (V.store n)) (j : InStep entry_meaning T st) (sound : IsSoundState nat_cmp st) where
  -- so it is found there, or is at or below the committed id
  found_or : (a : LogId ℕ) → accepted nat_cmp st ≡ Some a → (is_found nat_cmp (at st.ids a.index) a ≡ true) ⊎ (is_le (last_id_cmp nat_cmp (Some a) st.committed) ≡ true)
  found_or a e =
      ⊎_elim
      (λ f. ⊎_elim (λ q. inl q)
      (λ q. inr (lt_is_le _ (lt_le (last_total nat_cmp nat_cmp_total) (Some a) st.purged st.committed (and_both (is_lt (last_id_cmp nat_cmp (Some a) st.purged)) (nat_lt (next (Some a)) (next st.purged)) q).0
      (within_le nat_cmp nat_cmp_total st.purged st.committed (purged_within nat_cmp nat_cmp_total nat_same _ _ _ _ _ _ _ sound)))))
      (or_cases (is_found nat_cmp (at st.ids a.index) a) (is_below nat_cmp (Some a) st.purged) f))
      (λ w. inr (within_le nat_cmp nat_cmp_total (Some a) st.committed w))
      (or_cases (fits nat_cmp st.ids st.purged (Some a)) (is_within nat_cmp (Some a) st.committed) (accepted_fits st sound a e))

  -- what is below the committed id isn't newly committed
  not_new : (y : LogId ℕ) → commits nat_cmp st (Some y) ≡ true → is_le (last_id_cmp nat_cmp (Some y) st.committed) ≡ true → ⊥
  not_new y g l = both_ways (is_le (last_id_cmp nat_cmp (Some y) st.committed)) (lt_not_ge (last_total nat_cmp nat_cmp_total) st.committed (Some y) (lt_of_gt (last_total nat_cmp nat_cmp_total) (Some y) st.committed g)) l

  -- an id that is held, and above the committed one, is found at its index
  held_found : (y : LogId ℕ) → IsNamed y.leader_id → commits nat_cmp st (Some y) ≡ true → y.index < length (whole (V.store n)) → (entry_at s (whole (V.store n)) y.index).leader ≡ number y.leader_id → is_found nat_cmp (at st.ids y.index) y ≡ true
  held_found y m g l w = go (has_log_id nat_cmp st y) refl where
    below : (o : Option (LogId ℕ)) → st.committed ≡ o → y.index < next st.committed → is_gt (last_id_cmp nat_cmp (Some y) o) ≡ true → ⊥
    below None e b k = let z : next st.committed ≡ 0 = ap next e in omega (arith, z, b)
    below (Some c) e b k =
        let z : next st.committed ≡ c.index + 1 = ap next e in
        let p : Placed s (V.store n) c = committed_placed s n V reached T st h j sound c e in
        let q : (entry_at s (whole (V.store n)) y.index).leader ≤ (entry_at s (whole (V.store n)) c.index).leader =
        ids_rise s (start s) V (follows_on_from s V V reached (does_self s V)) (whole (V.store n)) y.index c.index (inl (n, refl)) (omega (arith, b, z)) p.inside in
        both_ways (is_gt (last_id_cmp nat_cmp (Some y) (Some c))) (at_or_below y c m p.named (omega (arith, w, q, p.leader)) (omega (arith, b, z))) k

    go : (b : Bool) → has_log_id nat_cmp st y ≡ b → is_found nat_cmp (at st.ids y.index) y ≡ true
    go false e = absurd (lacks_is s T (V.store n) st h j y m e (inr (l, w)))
    go true e = ⊎_elim (λ q. absurd (below st.committed refl (ltb-true y.index (next st.committed) q) g)) (λ q. q) (or_cases (nat_lt y.index (next st.committed)) (is_found nat_cmp (at st.ids y.index) y) e)

  -- what its leader told, where that is below what was accepted of it
  told_found : (y a : LogId ℕ) (r : Append Entry) → IsNamed y.leader_id → commits nat_cmp st (Some y) ≡ true → accepted nat_cmp st ≡ Some a → is_lt (last_id_cmp nat_cmp (Some y) (Some a)) ≡ true → FromLeader V (V.store n) r → r.committed ≡ y.index + 1 → r.committed_leader ≡ number y.leader_id
      → ((q : Append Entry) × MayAccept s V n q a.index (number a.leader_id)) ⊎ (a.index < (V.store n).committed) → is_found nat_cmp (at st.ids y.index) y ≡ true
  told_found y a r m g e l b c d k =
      ⊎_elim
      (λ f. ⊎_elim (λ low. absurd (committed_low f low)) (λ past. ⊎_elim (λ p. by_request p.0 p.1 f past) (λ p. absurd (omega (arith, p, past, tail_committed s T (V.store n) st h j))) k) (cases_lt a.index (next st.committed)))
      (λ w. absurd (not_new y g (lt_is_le _ (lt_le (last_total nat_cmp nat_cmp_total) (Some y) (Some a) st.committed l w))))
      (found_or a e)
    where
      committed_low : is_found nat_cmp (at st.ids a.index) a ≡ true → a.index < next st.committed → ⊥
      committed_low f low =
          let w : is_within nat_cmp (Some a) st.committed ≡ true = fits_within nat_cmp nat_cmp_total nat_same st sound (Some a) (ap (λ b. b || is_below nat_cmp (Some a) st.purged) f) (omega (arith, low)) in
          not_new y g (lt_is_le _ (lt_le (last_total nat_cmp nat_cmp_total) (Some y) (Some a) st.committed l (within_le nat_cmp nat_cmp_total (Some a) st.committed w)))

      by_request : (q : Append Entry) → MayAccept s V n q a.index (number a.leader_id) → is_found nat_cmp (at st.ids a.index) a ≡ true → next st.committed ≤ a.index → is_found nat_cmp (at st.ids y.index) y ≡ true
      by_request q p f past =
          let sh : Shape entry_meaning T st = shape_of entry_meaning T st j.mirrors j.marks in
          let na : IsNamed a.leader_id = named_at s T (V.store n) st h j a.index a (omega (arith, sh.settled, past)) (found_is nat_cmp nat_same (at st.ids a.index) a f) in
          ⊎_elim
          (λ i.
          let up : number a.leader_id ≤ r.committed_leader = told_above s (start s) V (follows_on_from s V V reached (does_self s V)) q p.request.sent r a.index (number a.leader_id) b.sent (b.session ∙ sym p.request.session) p.names (omega (arith, i, c)) in
          absurd (both_ways (is_le (last_id_cmp nat_cmp (Some a) (Some y))) (lt_not_ge (last_total nat_cmp nat_cmp_total) (Some y) (Some a) l) (lt_is_le _ (id_below a y na m (omega (arith, up, d)) i))))
          (λ i.
          let z : (y.index < length (whole (V.store n))) × ((entry_at s (whole (V.store n)) y.index).leader ≡ r.committed_leader) =
          told_held s (start s) V (follows_on_from s V V reached (does_self s V)) n q a.index (number a.leader_id) p r y.index b (omega (arith, c)) i in
          held_found y m g z.0 (z.1 ∙ d))
          (cases_lt a.index y.index)

  -- so a leader's committed id is never refused as not held
  pub never_missing : (told : Option (LogId ℕ)) (r : Append Entry) → FromLeader V (V.store n) r → IdNamed told → r.committed ≡ next told → r.committed_leader ≡ last_number told → KnowsAccepted s n st V → is_missing nat_cmp st (commit_target nat_cmp st told) ≡ false
  never_missing told r b m c d k = go (is_lt (last_id_cmp nat_cmp told (accepted nat_cmp st))) refl (accepted nat_cmp st) told refl refl k where
    both : (p q : Bool) → (p ≡ true → q ≡ true) → (p && not q) ≡ false
    both true true f = refl
    both true false f = absurd (true≢false (sym (f refl)))
    both false q f = refl

    go : (low : Bool) → is_lt (last_id_cmp nat_cmp told (accepted nat_cmp st)) ≡ low → (p q : Option (LogId ℕ)) → accepted nat_cmp st ≡ p → told ≡ q → IfSome p (λ x. ((w : Append Entry) × MayAccept s V n w x.index (number x.leader_id)) ⊎ (x.index < (V.store n).committed)) → is_missing nat_cmp st (cond low q p) ≡ false
    go true i p None e f z = refl
    go true i None (Some y) e f z = absurd (true≢false (sym (subst (λ o. is_lt (last_id_cmp nat_cmp (Some y) o) ≡ true) e (subst (λ o. is_lt (last_id_cmp nat_cmp o (accepted nat_cmp st)) ≡ true) f i))))
    go true i (Some a) (Some y) e f z =
        both (commits nat_cmp st (Some y)) (is_found nat_cmp (at st.ids y.index) y)
        (λ g. told_found y a r (subst IdNamed f m) g e (subst (λ o. is_lt (last_id_cmp nat_cmp (Some y) o) ≡ true) e (subst (λ o. is_lt (last_id_cmp nat_cmp o (accepted nat_cmp st)) ≡ true) f i)) b (c ∙ ap next f) (d ∙ ap last_number f) z)
    go false i None q e f z = refl
    go false i (Some a) q e f z = both (commits nat_cmp st (Some a)) (is_found nat_cmp (at st.ids a.index) a) (λ g. ⊎_elim (λ w. w) (λ w. absurd (not_new a g w)) (found_or a e))
