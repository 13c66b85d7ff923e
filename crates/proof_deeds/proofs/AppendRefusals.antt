-- Refusals of an append request that no reached world knows: an id above its leader's, and one that contradicts what
-- was accepted.
use Rattle.std.proofs.Common.{ℕ, zero, suc, ◌+◌, ◌<◌, ◌≤◌, ◌≡◌, ◌⊎◌, inl, inr, ⊎_elim, Bool, true, false, not, List, [], ◌∷◌, ◌++◌, length, arith, refl, sym, ap, ◌∙◌, subst, Option, None, Some}
use Rattle.std.specs.Prelude.{IfSome, slice_get, nat_lt, ◌&&◌, ◌||◌, ◌==◌}
use Rattle.std.specs.List.{AllByRecursion, list_any}
use Rattle.std.specs.Option.{option_to_list}
use Rattle.std.specs.Ordering.{is_gt, is_lt, nat_cmp, ordering_then}
use Rattle.std.proofs.lemmas.Bool.{cases_lt, eq-eqb, le-ltb, ltb-true, ltb-false}
use Rattle.std.proofs.lemmas.Bool.Decides.{nat_tests}
use Rattle.std.proofs.lemmas.Cmp.{nat_cmp_total}
use Rattle.std.proofs.lemmas.List.{length-map}
use Rattle.raft_node.specs.raft_state.declared.ids.LogId.{LogId}
use Rattle.raft_node.specs.raft_state.declared.ids.Vote.{Vote}
use Rattle.raft_node.specs.raft_state.Order.{next, last_id_cmp}
use Rattle.raft_node.specs.raft_state.Fits.{fits, is_within}
use Rattle.raft_node.specs.raft_state.Invariants.{IsSoundState}
use Rattle.raft_node.specs.raft_state.Log.{last, at}
use Rattle.raft_node.specs.raft_state.LogLaws.{at-run}
use Rattle.raft_node.specs.raft_state.Same.{nat_same}
use Rattle.raft_node.proofs.raft_state_proofs.LogLists.{fits_has}
use Rattle.raft_node.proofs.raft_state_proofs.Orders.{both_and, within_trans}
use Rattle.raft_node.proofs.raft_state_proofs.StateLaws.{committed_has}
use Rattle.raft_node.specs.raft_state.State.{accepted, commits, has_log_id}
use Rattle.raft_node.specs.raft_steps.RequestRefusals.{is_above_vote, contradicts_accepted}
use Rattle.raft_node.proofs.raft_steps_proofs.KeptAppend.{past_committed}
use Rattle.proof_agreement.specs.Machine.{Setup, Includes, start}
use Rattle.proof_agreement.specs.Stores.{Append, AppendRequest, whole, entry_at}
use Rattle.proof_agreement.specs.Deeds.{FromLeader, Names, MayAccept}
use Rattle.proof_agreement.proofs.StoresBridge.{ids_rise, request_low, request_rises, request_in_committed, request_past_committed, accepted_held}
use Rattle.raft_node.specs.raft_store.declared.entry.Entry.{Entry}
use Rattle.raft_node.specs.raft_store.Entries.{entry_meaning}
use Rattle.raft_node.specs.raft_store.Types.{WorldStore}
use Rattle.proof_mirror.specs.Ready.{InStep}
use Rattle.raft_node.specs.raft_calls.declared.message.Origin.{Origin}
use Rattle.proof_deeds.specs.Chains.{Reached}
use Rattle.proof_deeds.specs.Follows.{StoreIs, AppendIs}
use Rattle.proof_deeds.specs.Images.{Ideal, IsNamed, IdNamed, EntriesFit, number, image}
use Rattle.proof_deeds.specs.Knows.{KnowsAccepted}
use Rattle.proof_deeds.proofs.AppendTails.{log_ids, slot_inside, names_prev, names_slot, lacks_is, at_whole, named_at}
use Rattle.proof_deeds.proofs.AppendFitting.{Placed}
use Rattle.proof_deeds.proofs.AppendCommits.{id_below}
use Rattle.raft_node.proofs.raft_store_proofs.Lists.{Run}
use Rattle.raft_node.specs.raft_state.Consecutive.{follows_on}
use Rattle.proof_mirror.proofs.Shape.{Shape, shape_of, shaped_of}
use Rattle.raft_node.specs.raft_store.Store as store
use Rattle.proof_deeds.proofs.Appends.{follows_on_from}
use Rattle.proof_deeds.proofs.Numbers.{Order, below, same, above, ordered}
use Rattle.proof_deeds.proofs.Roles.{WorldState}
use Rattle.proof_deeds.proofs.Tails.{index, named_of_id, entry_of_id, whole_fit, last_stands, tail_whole, tail_committed}
use Rattle.proof_deeds.proofs.Worlds.{does_self}

pub none_any : (p : LogId ℕ → Bool) (xs : List (LogId ℕ)) → AllByRecursion (λ x. p x ≡ false) xs → list_any p xs ≡ false
none_any p [] h = refl
none_any p (x ∷ xs) h = ap (λ b. b || list_any p xs) h.0 ∙ none_any p xs h.1

pub each_slot : (P : LogId ℕ → Type 0) (es : List Entry) → ((j : ℕ) (x : LogId ℕ) → slice_get (log_ids es) j ≡ Some x → P x) → AllByRecursion P (log_ids es)
each_slot P [] f = tt
each_slot P (e ∷ es) f = (f 0 e.log_id refl, each_slot P es (λ j x q. f (suc j) x q))

module _ (s : Setup Entry) (W : Ideal) (reached : Reached s W) (r : Append Entry) (sent : Includes W.messages (AppendRequest r)) where
  -- an id of a request isn't above its leader's vote
  id_not_above : (v : Vote ℕ) (x : LogId ℕ) (k : ℕ) → r.session.leader ≡ number v.leader_id → IsNamed v.leader_id → IsNamed x.leader_id → Names s r k (number x.leader_id) → is_above_vote nat_cmp v x ≡ false
  id_not_above v x k e n m nm = go (ordered x.leader_id v.leader_id m n) where
    go : Order x.leader_id v.leader_id → is_above_vote nat_cmp v x ≡ false
    go (below q l) = ap is_gt q
    go (same q l) = ap is_gt q
    go (above q l) = let z : number x.leader_id ≤ r.session.leader = request_low s (start s) W (follows_on_from s W W reached (does_self s W)) r sent k (number x.leader_id) nm in absurd (omega (arith, z, l, e))

  -- so no request is refused for that
  pub never_above : (v : Vote ℕ) (o : Origin) (prev : Option (LogId ℕ)) (es : List Entry) (told : Option (LogId ℕ)) → AppendIs o prev es told r → r.session.leader ≡ number v.leader_id → IsNamed v.leader_id → IdNamed prev → EntriesFit s es
      → list_any (is_above_vote nat_cmp v) (option_to_list prev ++ log_ids es) ≡ false
  never_above v o prev es told is e n p f = go prev refl p where
    entries : AllByRecursion (λ x. is_above_vote nat_cmp v x ≡ false) (log_ids es)
    entries = each_slot (λ x. is_above_vote nat_cmp v x ≡ false) es
        (λ j x q.
        let m : length r.entries ≡ length es = ap (λ ys. length ys) is.entries ∙ length-map es image in
        id_not_above v x (r.from + j) e n (named_of_id s es j x f q) (inr (j, refl, omega (arith, m, slot_inside j es x q), sym (ap (λ ys. (entry_at s ys j).leader) is.entries ∙ entry_of_id s es j x q))))

    go : (q : Option (LogId ℕ)) → prev ≡ q → IdNamed q → list_any (is_above_vote nat_cmp v) (option_to_list q ++ log_ids es) ≡ false
    go None z m = none_any (is_above_vote nat_cmp v) (log_ids es) entries
    go (Some x) z m = none_any (is_above_vote nat_cmp v) (x ∷ log_ids es) (id_not_above v x x.index e n m (names_prev s o prev es told r is x z), entries)

-- an id of the node's leader at or below what was accepted of that leader is held
pub never_lacks : (s : Setup Entry) (n : ℕ) (V : Ideal) (reached : Reached s V) (T : WorldStore) (st : WorldState) → StoreIs s T (V.store n) → InStep entry_meaning T st → KnowsAccepted s n st V
    → (r : Append Entry) (x : LogId ℕ) → FromLeader V (V.store n) r → Names s r x.index (number x.leader_id) → IsNamed x.leader_id → contradicts_accepted nat_cmp st st.vote x ≡ false
never_lacks s n V reached T st h j k r x b nm named = go (has_log_id nat_cmp st x) refl (accepted nat_cmp st) k where
  past : (a : ℕ) → has_log_id nat_cmp st x ≡ false → ((q : Append Entry) × (d : ℕ) × MayAccept s V n q a d) ⊎ (a < (V.store n).committed) → a < x.index
  past a f p =
      ⊎_elim
      (λ (p : (q : Append Entry) × (d : ℕ) × MayAccept s V n q a d).
      let m : MayAccept s V n p.0 a p.1 = p.2 in
      ⊎_elim (λ l. l)
      (λ l. absurd (lacks_is s T (V.store n) st h j x named f (inr (accepted_held s (start s) V (follows_on_from s V V reached (does_self s V)) n p.0 a p.1 m r x.index (number x.leader_id) b nm l))))
      (cases_lt a x.index))
      (λ l. let low : next st.committed ≤ x.index = past_committed nat_cmp st x f in omega (arith, l, low, tail_committed s T (V.store n) st h j))
      p

  go : (held : Bool) → has_log_id nat_cmp st x ≡ held → (o : Option (LogId ℕ)) → IfSome o (λ y. ((q : Append Entry) × MayAccept s V n q y.index (number y.leader_id)) ⊎ (y.index < (V.store n).committed)) → (nat_lt x.index (next o) && not (has_log_id nat_cmp st x)) ≡ false
  go held f None p = ap (λ b. b && not (has_log_id nat_cmp st x)) (le-ltb x.index 0 (omega arith))
  go true f (Some y) p = ap (λ b. nat_lt x.index (y.index + 1) && not b) f ∙ second (nat_lt x.index (y.index + 1)) where
    second : (b : Bool) → (b && false) ≡ false
    second true = refl
    second false = refl
  go false f (Some y) p =
      let l : y.index < x.index = past y.index f (⊎_elim (λ q. inl (q.0, number y.leader_id, q.1)) (λ q. inr q) p) in
      ap (λ b. b && not (has_log_id nat_cmp st x)) (le-ltb x.index (y.index + 1) (omega (arith, l)))

slot_left : (xs ys : List Entry) (i : ℕ) (x : LogId ℕ) → slice_get (log_ids xs) i ≡ Some x → slice_get (log_ids (xs ++ ys)) i ≡ Some x
slot_left [] ys i x e = cc
slot_left (z ∷ xs) ys zero x e = e
slot_left (z ∷ xs) ys (suc i) x e = slot_left xs ys i x e

is_above : (a b : ℕ) → b < a → is_gt (nat_cmp a b) ≡ true
is_above a b l = grind (arith, nat_tests)

isnt_above : (a b : ℕ) → a ≤ b → is_gt (nat_cmp a b) ≡ false
isnt_above a b l = grind (arith, nat_tests)

module _ (x c : LogId ℕ) (m : IsNamed x.leader_id) (k : IsNamed c.leader_id) where
  pub at_or_below : number x.leader_id ≤ number c.leader_id → x.index ≤ c.index → is_gt (last_id_cmp nat_cmp (Some x) (Some c)) ≡ false
  at_or_below l i = go (ordered x.leader_id c.leader_id m k) where
    go : Order x.leader_id c.leader_id → is_gt (last_id_cmp nat_cmp (Some x) (Some c)) ≡ false
    go (below q n) = ap (λ o. is_gt (ordering_then o (nat_cmp x.index c.index))) q
    go (same q n) = ap (λ o. is_gt (ordering_then o (nat_cmp x.index c.index))) q ∙ isnt_above x.index c.index i
    go (above q n) = absurd (omega (arith, n, l))

  past_it : number c.leader_id ≤ number x.leader_id → c.index < x.index → is_gt (last_id_cmp nat_cmp (Some x) (Some c)) ≡ true
  past_it l i = go (ordered x.leader_id c.leader_id m k) where
    go : Order x.leader_id c.leader_id → is_gt (last_id_cmp nat_cmp (Some x) (Some c)) ≡ true
    go (below q n) = absurd (omega (arith, n, l))
    go (same q n) = ap (λ o. is_gt (ordering_then o (nat_cmp x.index c.index))) q ∙ is_above x.index c.index i
    go (above q n) = ap (λ o. is_gt (ordering_then o (nat_cmp x.index c.index))) q

module _ (s : Setup Entry) (n : ℕ) (V : Ideal) (reached : Reached s V) (T : WorldStore) (st : WorldState) (h : StoreIs s T (V.store n)) (j : InStep entry_meaning T st) (sound : IsSoundState nat_cmp st) where
  -- the committed id stands in the ideal whole log
  pub committed_placed : (c : LogId ℕ) → st.committed ≡ Some c → Placed s (V.store n) c
  committed_placed c e = ⊎_elim inside past (cases_lt c.index (length T.snap)) where
    shape : Shape entry_meaning T st
    shape = shape_of entry_meaning T st j.mirrors j.marks

    stands : at st.ids c.index ≡ Some c
    stands = committed_has nat_cmp nat_cmp_total nat_same _ _ _ _ _ _ _ sound c e

    past : length T.snap ≤ c.index → Placed s (V.store n) c
    past l = let z : (c.index < length (whole (V.store n))) × ((entry_at s (whole (V.store n)) c.index).leader ≡ number c.leader_id) = at_whole s T (V.store n) st h j c.index c l stands in record { inside = z.0; leader = z.1; named = named_at s T (V.store n) st h j c.index c l stands }

    placed : slice_get (log_ids (store.whole T)) c.index ≡ Some c → Placed s (V.store n) c
    placed q =
        let m : length (whole (V.store n)) ≡ length (store.whole T) = ap (λ xs. length xs) (tail_whole s T (V.store n) st h j) ∙ length-map (store.whole T) image in
        record {
          inside = omega (arith, m, slot_inside c.index (store.whole T) c q);
          leader = ap (λ ys. (entry_at s ys c.index).leader) (tail_whole s T (V.store n) st h j) ∙ entry_of_id s (store.whole T) c.index c q;
          named = named_of_id s (store.whole T) c.index c (whole_fit s T (V.store n) h (shaped_of entry_meaning T st j)) q;
        }

    inside : c.index < length T.snap → Placed s (V.store n) c
    inside l = go st.snap.last_log_id refl where
      within : is_within nat_cmp st.purged st.snap.last_log_id ≡ true
      within = within_trans nat_cmp nat_cmp_total st.purged st.purge_to st.snap.last_log_id sound.marks.at_purged sound.marks.at_target

      go : (o : Option (LogId ℕ)) → st.snap.last_log_id ≡ o → Placed s (V.store n) c
      go None q = absurd (let z : next st.snap.last_log_id ≡ 0 = ap next q in omega (arith, shape.snap_end, z, l))
      go (Some y) q =
          let z : next st.snap.last_log_id ≡ y.index + 1 = ap next q in
          let d : next st.committed ≡ c.index + 1 = ap next e in
          let i : y.index ≡ c.index = omega (arith, shape.snap_end, z, l, d, shape.settled) in
          let b : at st.ids y.index ≡ Some y = fits_has nat_cmp nat_cmp_total nat_same st.ids st.purged y (subst (λ o. fits nat_cmp st.ids st.purged o ≡ true) q sound.marks.snapshot_fits) (subst (λ o. is_within nat_cmp st.purged o ≡ true) q within) in
          let f : Some y ≡ Some c = sym b ∙ (ap (at st.ids) i ∙ stands) in
          let g : last (log_ids T.snap) ≡ Some y = sym j.mirrors.tells.last_id ∙ (ap (λ m. m.last_log_id) (sym j.mirrors.meta) ∙ q) in
          let k : at (log_ids T.snap) y.index ≡ Some y = last_stands 0 (log_ids T.snap) y j.mirrors.snap_run g in
          let zero_on : 0 + y.index ≡ y.index = omega arith in
          let w : slice_get (log_ids T.snap) y.index ≡ Some y = sym (at-run 0 y.index (log_ids T.snap) j.mirrors.snap_run) ∙ (ap (at (log_ids T.snap)) zero_on ∙ k) in
          let p : slice_get (log_ids (store.whole T)) c.index ≡ Some c = subst (λ m. slice_get (log_ids (store.whole T)) m ≡ Some c) i (slot_left T.snap (store.past (length T.snap) T.log) y.index y w ∙ f) in
          placed p

  -- an id of a request of a leader that isn't below the vote, where the log is committed: not above the committed id;
  -- and past that, above it
  pub never_contradicts : (r : Append Entry) (x : LogId ℕ) → Includes V.messages (AppendRequest r) → (V.store n).vote ≤ r.session.leader → Names s r x.index (number x.leader_id) → IsNamed x.leader_id
      → (nat_lt x.index (next st.committed) ≡ true → commits nat_cmp st (Some x) ≡ false) × (nat_lt x.index (next st.committed) ≡ false → commits nat_cmp st (Some x) ≡ true)
  never_contradicts r x b v nm named = (λ q. low st.committed refl (ltb-true x.index (next st.committed) q), λ q. high st.committed refl (ltb-false x.index (next st.committed) q)) where
    low : (o : Option (LogId ℕ)) → st.committed ≡ o → x.index < next st.committed → is_gt (last_id_cmp nat_cmp (Some x) o) ≡ false
    low None e l = absurd (let z : next st.committed ≡ 0 = ap next e in omega (arith, z, l))
    low (Some c) e l =
        let z : next st.committed ≡ c.index + 1 = ap next e in
        let p : Placed s (V.store n) c = committed_placed c e in
        let w : (entry_at s (whole (V.store n)) x.index).leader ≡ number x.leader_id =
        request_in_committed s (start s) V (follows_on_from s V V reached (does_self s V)) r b n x.index (number x.leader_id) v nm (omega (arith, l, tail_committed s T (V.store n) st h j)) in
        let g : (entry_at s (whole (V.store n)) x.index).leader ≤ (entry_at s (whole (V.store n)) c.index).leader =
        ids_rise s (start s) V (follows_on_from s V V reached (does_self s V)) (whole (V.store n)) x.index c.index (inl (n, refl)) (omega (arith, l, z)) p.inside in
        at_or_below x c named p.named (omega (arith, w, g, p.leader)) (omega (arith, l, z))

    high : (o : Option (LogId ℕ)) → st.committed ≡ o → next st.committed ≤ x.index → is_gt (last_id_cmp nat_cmp (Some x) o) ≡ true
    high None e l = refl
    high (Some c) e l =
        let z : next st.committed ≡ c.index + 1 = ap next e in
        let p : Placed s (V.store n) c = committed_placed c e in
        let g : (entry_at s (whole (V.store n)) c.index).leader ≤ number x.leader_id =
        request_past_committed s (start s) V (follows_on_from s V V reached (does_self s V)) r b n x.index (number x.leader_id) c.index v nm (omega (arith, z, tail_committed s T (V.store n) st h j)) (omega (arith, l, z)) in
        past_it x c named p.named (omega (arith, g, p.leader)) (omega (arith, l, z))

-- where the entries of a request run from the id before them, as they do where it was made, the request follows on
module _ (s : Setup Entry) (W : Ideal) (reached : Reached s W) (r : Append Entry) (sent : Includes W.messages (AppendRequest r)) where
  follow_from : (p : Option (LogId ℕ)) (xs : List Entry) → Run index (next p) xs → ((x : LogId ℕ) → p ≡ Some x → Names s r x.index (number x.leader_id) × IsNamed x.leader_id) → ((j : ℕ) (x : LogId ℕ) → slice_get (log_ids xs) j ≡ Some x → Names s r x.index (number x.leader_id) × IsNamed x.leader_id) → follows_on nat_cmp p (log_ids xs) ≡ true
  follow_from p [] run f g = refl
  follow_from p (y ∷ ys) run f g =
      both_and ((y.log_id.index == next p) && is_lt (last_id_cmp nat_cmp p (Some y.log_id))) (follows_on nat_cmp (Some y.log_id) (log_ids ys))
      (both_and (y.log_id.index == next p) (is_lt (last_id_cmp nat_cmp p (Some y.log_id))) (eq-eqb y.log_id.index (next p) run.0) (rise p f run.0))
      (follow_from (Some y.log_id) ys (let q : next p + 1 ≡ y.log_id.index + 1 = omega (arith, run.0) in subst (λ n. Run index n ys) q run.1) (λ x e. let q : y.log_id ≡ x = cc in subst (λ (z : LogId ℕ). Names s r z.index (number z.leader_id) × IsNamed z.leader_id) q (g 0 y.log_id refl)) (λ j x e. g (suc j) x e))
    where
      rise : (o : Option (LogId ℕ)) → ((x : LogId ℕ) → o ≡ Some x → Names s r x.index (number x.leader_id) × IsNamed x.leader_id) → y.log_id.index ≡ next o → is_lt (last_id_cmp nat_cmp o (Some y.log_id)) ≡ true
      rise None f e = refl
      rise (Some x) f e =
          let a : Names s r x.index (number x.leader_id) × IsNamed x.leader_id = f x refl in
          let b : Names s r y.log_id.index (number y.log_id.leader_id) × IsNamed y.log_id.leader_id = g 0 y.log_id refl in
          let up : number x.leader_id ≤ number y.log_id.leader_id = request_rises s (start s) W (follows_on_from s W W reached (does_self s W)) r sent x.index (number x.leader_id) y.log_id.index (number y.log_id.leader_id) a.0 b.0 (omega (arith, e)) in
          id_below x y.log_id a.1 b.1 up (omega (arith, e))

  pub never_unfollowed : (o : Origin) (prev : Option (LogId ℕ)) (es : List Entry) (told : Option (LogId ℕ)) → AppendIs o prev es told r → Run index (next prev) es → IdNamed prev → EntriesFit s es → follows_on nat_cmp prev (log_ids es) ≡ true
  never_unfollowed o prev es told is run p f =
      follow_from prev es run (λ x e. (names_prev s o prev es told r is x e, subst IdNamed e p)) (λ j x q. (names_slot s o prev es told r is j x run q, named_of_id s es j x f q))
