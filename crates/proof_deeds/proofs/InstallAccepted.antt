-- Nor does a snapshot request fall short of what was accepted of its leader.
use Rattle.std.proofs.Common.{ℕ, suc, ◌+◌, ◌<◌, ◌≤◌, ◌≡◌, ◌⊎◌, inl, inr, ⊎_elim, Bool, true, false, not, cond, length, arith, refl, sym, ap, ap₂, ◌∙◌, subst, true≢false, Option, None, Some}
use Rattle.std.specs.Prelude.{IfSome, nat_lt, nat_le, is_some, ◌&&◌, ◌||◌}
use Rattle.std.specs.Ordering.{bool_cmp, is_eq, is_lt, is_le, nat_cmp, ordering_then}
use Rattle.std.proofs.lemmas.Bool.{cases_lt, lt-ltb, and_parts, leb-true, ltb-true}
use Rattle.std.proofs.lemmas.Bool.Decides.{nat_tests}
use Rattle.std.proofs.lemmas.Cmp.{nat_cmp_total}
use Rattle.raft_node.specs.raft_state.declared.ids.LeaderId.{LeaderId}
use Rattle.raft_node.specs.raft_state.declared.ids.LogId.{LogId}
use Rattle.raft_node.specs.raft_state.declared.membership.Members.{Members}
use Rattle.raft_node.specs.raft_state.Fits.{fits, is_within, is_below}
use Rattle.raft_node.specs.raft_state.Invariants.{AcceptedRecord, first_index}
use Rattle.raft_node.specs.raft_state.Log.{at}
use Rattle.raft_node.specs.raft_state.Order.{next, last_id_cmp, leader_id_cmp}
use Rattle.raft_node.specs.raft_state.Same.{nat_same, found_is}
use Rattle.raft_node.specs.raft_state.State.{accepted, accepted_under, has_log_id, is_found}
use Rattle.raft_node.proofs.raft_state_proofs.Orders.{last_total, le_lt, or_cases, within_le}
use Rattle.raft_node.proofs.raft_state_proofs.StateLaws.{is_found_at}
use Rattle.raft_node.specs.raft_command.declared.config.EngineConfig.{EngineConfig}
use Rattle.raft_node.specs.raft_steps.InstallRefusals.{falls_short}
use Rattle.raft_node.specs.raft_steps.VoteHandler.{rejects_vote}
use Rattle.proof_agreement.specs.Machine.{Agree}
use Rattle.proof_agreement.specs.Machine as machine
use Rattle.proof_agreement.specs.Stores.{Append, whole, entry_at, of_list}
use Rattle.proof_agreement.specs.Deeds.{MayAccept, SnapshotFromLeader}
use Rattle.proof_agreement.proofs.StoresBridge.{snapshot_rises, snapshot_below_accepted, snapshot_past_accepted}
use Rattle.raft_node.specs.raft_store.declared.entry.Entry.{Entry}
use Rattle.raft_node.specs.raft_store.Entries.{entry_meaning}
use Rattle.raft_node.specs.raft_store.Types.{WorldStore, WorldSnapshot, WorldMachine}
use Rattle.proof_mirror.specs.Ready.{InStep}
use Rattle.proof_mirror.proofs.Places.{at_index, end_at_none, first_below, next_last_le}
use Rattle.proof_mirror.proofs.Sound.{fits_within}
use Rattle.raft_node.specs.raft_calls.declared.message.Body.TheVariants as body
use Rattle.raft_node.specs.raft_calls.declared.message.Message.{Message}
use Rattle.raft_node.specs.raft_calls.declared.message.Origin.{Origin}
use Rattle.raft_node.specs.declared.node.Turn.{Turn}
use Rattle.proof_deeds.specs.Chains.{Reached, left_by}
use Rattle.proof_deeds.specs.Follows.{SnapshotSent}
use Rattle.proof_deeds.specs.Images.{Ideal, IsNamed, IdNamed, number, last_number, images, setup_of}
use Rattle.proof_deeds.specs.Knows.{Knows, Delivered, Stands}
use Rattle.proof_deeds.proofs.Decides.{tail_at}
use Rattle.proof_deeds.proofs.InstallLaws.{sent_in, snapshot_ends, tail_committed_end}
use Rattle.proof_deeds.proofs.InstallPushes.{snapshot_agrees}
use Rattle.proof_deeds.proofs.Numbers.{ordered, Order, below, same, above, number_same}
use Rattle.proof_deeds.proofs.Overlap.{laps}
use Rattle.proof_deeds.proofs.Pushes.{Tail, tail_of}
use Rattle.proof_deeds.proofs.Roles.{WorldState}
use Rattle.proof_deeds.proofs.Tails.{tail_vote, tail_named, tail_committed, tail_length}
use Rattle.proof_deeds.proofs.Voting.{none_accepted, leader_above}
use Rattle.proof_deeds.proofs.Worlds.{does_then, stores_follow}

lt_index : (a b : ℕ) → a < b → is_lt (nat_cmp a b) ≡ true
lt_index a b l = grind (arith, nat_tests)

-- an id at a lower index whose leader isn't above
pub id_below : (a x : LogId ℕ) → IsNamed a.leader_id → IsNamed x.leader_id → number a.leader_id ≤ number x.leader_id → a.index < x.index → is_lt (last_id_cmp nat_cmp (Some a) (Some x)) ≡ true
id_below a x h k l i = go (ordered a.leader_id x.leader_id h k) where
  go : Order a.leader_id x.leader_id → is_lt (last_id_cmp nat_cmp (Some a) (Some x)) ≡ true
  go (below q m) = ap (λ o. is_lt (ordering_then o (nat_cmp a.index x.index))) q
  go (same q m) = ap (λ o. is_lt (ordering_then o (nat_cmp a.index x.index))) q ∙ lt_index a.index x.index i
  go (above q m) = absurd (omega (arith, l, m))

module _ (first : Members ℕ (Unit {0})) (t : Turn) (config : EngineConfig ℕ) (u : WorldStore) (W : Ideal) (msg : Message) (o : Origin) (snapshot : WorldSnapshot) (d : Delivered (setup_of first) t W msg) (b : msg.body ≡ body.SnapshotRequest o snapshot)
    (m : WorldMachine) (st : Stands (setup_of first) t config u W m) (x : LogId ℕ) (e : snapshot.meta.last_log_id ≡ Some x) where
  abbrev s : WorldState
  s = m.core.state

  abbrev V : Ideal
  V = st.carried.end

  abbrev T : WorldStore
  T = left_by u m.core.output.items

  h : SnapshotSent (setup_of first) t.id o snapshot W
  h = sent_in first t config u W msg o snapshot d b

  tail : Tail (setup_of first) t m.core.state.vote.leader_id u W m.core.output.items st.carried.end
  tail = tail_of (setup_of first) t m.core.state.vote.leader_id u W m.core.output.items (Knows (setup_of first) t.id m) st.carried

  came : Reached (setup_of first) st.carried.end
  came = does_then (setup_of first) _ W st.carried.end st.reached tail.came

  j : InStep entry_meaning (left_by u m.core.output.items) m.core.state
  j = st.pending.core.in_step

  E : (length (images snapshot.snapshot) ≡ suc x.index) × ((entry_at (setup_of first) (images snapshot.snapshot) x.index).leader ≡ number x.leader_id) × IsNamed x.leader_id
  E = snapshot_ends (setup_of first) t.id o snapshot W h x e

  committed_is : (st.carried.end.store t.id).committed ≡ next m.core.state.committed
  committed_is = tail_committed (setup_of first) T (V.store t.id) s tail.store j

  -- past the committed index its last id is above the committed one
  pub past_committed : next m.core.state.committed ≤ x.index → is_lt (last_id_cmp nat_cmp m.core.state.committed (Some x)) ≡ true
  past_committed l = go m.core.state.committed refl where
    c : (machine.last_leader (entry_at (setup_of first) (whole (V.store t.id))) (next m.core.state.committed) ≡ last_number m.core.state.committed) × IdNamed m.core.state.committed
    c = tail_committed_end (setup_of first) T (V.store t.id) s tail.store j st.sound.sound (laps (setup_of first) V came t.id)

    go : (p : Option (LogId ℕ)) → m.core.state.committed ≡ p → is_lt (last_id_cmp nat_cmp p (Some x)) ≡ true
    go None q = refl
    go (Some y) q =
        let n : next m.core.state.committed ≡ y.index + 1 = ap next q in
        let one : y.index + 1 ≡ suc y.index = omega arith in
        let z : Agree (V.store t.id).committed (of_list (setup_of first) (images snapshot.snapshot)) (of_list (setup_of first) (whole (V.store t.id))) =
        snapshot_agrees (setup_of first) (machine.start (setup_of first)) V (stores_follow (setup_of first) V came) t.id h.session (images snapshot.snapshot) (tail.within.messages _ h.sent) (omega (arith, E.0, committed_is, l)) in
        let k : (entry_at (setup_of first) (whole (V.store t.id)) y.index).leader ≡ number y.leader_id =
        ap (machine.last_leader (entry_at (setup_of first) (whole (V.store t.id)))) (sym (n ∙ one)) ∙ (c.0 ∙ ap last_number q) in
        let r : (entry_at (setup_of first) (images snapshot.snapshot) y.index).leader ≤ (entry_at (setup_of first) (images snapshot.snapshot) x.index).leader =
        snapshot_rises (setup_of first) (machine.start (setup_of first)) V (stores_follow (setup_of first) V came) h.session (images snapshot.snapshot) (tail.within.messages _ h.sent) y.index x.index (omega (arith, n, l)) (omega (arith, E.0)) in
        let g : (entry_at (setup_of first) (images snapshot.snapshot) y.index).leader ≡ (entry_at (setup_of first) (whole (V.store t.id)) y.index).leader = ap (λ y. y.leader) (z.same y.index (omega (arith, committed_is, n))) in
        id_below y x (subst IdNamed q c.1) E.2 (omega (arith, g, k, r, E.1)) (omega (arith, n, l))

  within_past : (a : LogId ℕ) → a.index < next m.core.state.committed → (fits nat_cmp m.core.state.ids m.core.state.purged (Some a) || is_within nat_cmp (Some a) m.core.state.committed) ≡ true → next m.core.state.committed ≤ x.index
      → is_lt (last_id_cmp nat_cmp (Some a) (Some x)) ≡ true
  within_past a l f n =
      let w : is_within nat_cmp (Some a) m.core.state.committed ≡ true =
      ⊎_elim (λ g. fits_within nat_cmp nat_cmp_total nat_same m.core.state st.sound.sound (Some a) g (omega (arith, l))) (λ g. g) (or_cases (fits nat_cmp m.core.state.ids m.core.state.purged (Some a)) (is_within nat_cmp (Some a) m.core.state.committed) f) in
      le_lt (last_total nat_cmp nat_cmp_total) (Some a) m.core.state.committed (Some x) (within_le nat_cmp nat_cmp_total (Some a) m.core.state.committed w) (past_committed n)

  stands : (a : LogId ℕ) → next m.core.state.committed ≤ a.index → (fits nat_cmp m.core.state.ids m.core.state.purged (Some a) || is_within nat_cmp (Some a) m.core.state.committed) ≡ true → at m.core.state.ids a.index ≡ Some a
  stands a l f =
      ⊎_elim
      (λ g. ⊎_elim (λ k. found_is nat_cmp nat_same (at m.core.state.ids a.index) a k)
      (λ k. let z : a.index + 1 < next m.core.state.purged = ltb-true (a.index + 1) (next m.core.state.purged) (and_parts (is_lt (last_id_cmp nat_cmp (Some a) m.core.state.purged)) (nat_lt (next (Some a)) (next m.core.state.purged)) k).1 in absurd (omega (arith, z, l, j.marks.purged, j.marks.target, j.marks.snapshot)))
      (or_cases (is_found nat_cmp (at m.core.state.ids a.index) a) (is_below nat_cmp (Some a) m.core.state.purged) g))
      (λ g. let z : a.index + 1 ≤ next m.core.state.committed = leb-true (a.index + 1) (next m.core.state.committed) (and_parts (is_le (last_id_cmp nat_cmp (Some a) m.core.state.committed)) (nat_le (next (Some a)) (next m.core.state.committed)) g).1 in absurd (omega (arith, z, l)))
      (or_cases (fits nat_cmp m.core.state.ids m.core.state.purged (Some a)) (is_within nat_cmp (Some a) m.core.state.committed) f)

  past_of : (a : LogId ℕ) → is_lt (last_id_cmp nat_cmp (Some a) (Some x)) ≡ true → a.index < x.index → is_below nat_cmp (Some a) (Some x) ≡ true
  past_of a l i = ap₂ (λ p q. p && q) l (lt-ltb (a.index + 1) (x.index + 1) (omega (arith, i)))

  held : next m.core.state.committed ≤ x.index → (x.index < length (whole (st.carried.end.store t.id))) × ((entry_at (setup_of first) (whole (st.carried.end.store t.id)) x.index).leader ≡ (entry_at (setup_of first) (images snapshot.snapshot) x.index).leader) → has_log_id nat_cmp m.core.state x ≡ true
  held n p = go (at m.core.state.ids x.index) refl where
    either : (a b : Bool) → b ≡ true → (a || b) ≡ true
    either true b f = refl
    either false b f = f

    go : (y : Option (LogId ℕ)) → at m.core.state.ids x.index ≡ y → has_log_id nat_cmp m.core.state x ≡ true
    go None f =
        let r : first_index m.core.state.purged + length m.core.state.ids ≤ x.index = end_at_none (first_index m.core.state.purged) x.index m.core.state.ids j.marks.run (first_below m.core.state.purged x.index (omega (arith, n, j.marks.purged, j.marks.target, j.marks.snapshot))) f in
        absurd (omega (arith, r, p.0, tail_length (setup_of first) T (V.store t.id) s tail.store j, next_last_le (first_index m.core.state.purged) m.core.state.ids j.marks.run))
    go (Some y) f =
        let i : y.index ≡ x.index = at_index x.index m.core.state.ids y f in
        let g : ((entry_at (setup_of first) (whole (V.store t.id)) y.index).leader ≡ number y.leader_id) × IsNamed y.leader_id = tail_at (setup_of first) T (V.store t.id) s tail.store j y (ap (at m.core.state.ids) i ∙ f) (omega (arith, i, n)) in
        let k : number y.leader_id ≡ number x.leader_id = sym g.0 ∙ (ap (λ q. (entry_at (setup_of first) (whole (V.store t.id)) q).leader) i ∙ (p.1 ∙ E.1)) in
        let l : y.leader_id ≡ x.leader_id = number_same y.leader_id x.leader_id g.1 E.2 k in
        let z : y ≡ x = λ q. record { leader_id = l q; index = i q } in
        either (nat_lt x.index (next m.core.state.committed)) (is_found nat_cmp (at m.core.state.ids x.index) x) (is_found_at nat_cmp nat_cmp_total nat_same m.core.state.ids x (at m.core.state.ids x.index) (f ∙ ap Some z))

  -- what was accepted is below it, or it is held
  past_or_held : (a : LogId ℕ) → number o.session_id.vote.leader_id ≡ number m.core.state.vote.leader_id → (fits nat_cmp m.core.state.ids m.core.state.purged (Some a) || is_within nat_cmp (Some a) m.core.state.committed) ≡ true
      → ((r : Append Entry) × MayAccept (setup_of first) st.carried.end t.id r a.index (number a.leader_id)) ⊎ (a.index < (st.carried.end.store t.id).committed)
      → (has_log_id nat_cmp m.core.state x ≡ true) ⊎ (is_below nat_cmp (Some a) (Some x) ≡ true)
  past_or_held a v f k = ⊎_elim (λ l. inl (ap (λ p. p || is_found nat_cmp (at m.core.state.ids x.index) x) (lt-ltb x.index (next m.core.state.committed) l))) high (cases_lt x.index (next m.core.state.committed)) where
    from_leader : SnapshotFromLeader st.carried.end (st.carried.end.store t.id) h.session (images snapshot.snapshot)
    from_leader = record { sent = tail.within.messages _ h.sent; session = h.leader ∙ (v ∙ sym (tail_vote (setup_of first) T (V.store t.id) s tail.store j)) }

    high : next m.core.state.committed ≤ x.index → (has_log_id nat_cmp m.core.state x ≡ true) ⊎ (is_below nat_cmp (Some a) (Some x) ≡ true)
    high n = ⊎_elim under over (cases_lt a.index x.index) where
      under : a.index < x.index → (has_log_id nat_cmp m.core.state x ≡ true) ⊎ (is_below nat_cmp (Some a) (Some x) ≡ true)
      under i =
          ⊎_elim
          (λ l. inr (past_of a (within_past a l f n) i))
          (λ l.
          let g : ((entry_at (setup_of first) (whole (V.store t.id)) a.index).leader ≡ number a.leader_id) × IsNamed a.leader_id = tail_at (setup_of first) T (V.store t.id) s tail.store j a (stands a l f) l in
          ⊎_elim
          (λ r.
          let w : number a.leader_id ≤ (entry_at (setup_of first) (images snapshot.snapshot) x.index).leader =
          snapshot_past_accepted (setup_of first) (machine.start (setup_of first)) V (stores_follow (setup_of first) V came) t.id r.0 a.index (number a.leader_id) r.1 h.session (images snapshot.snapshot) x.index from_leader E.0 (omega (arith, i)) in
          inr (past_of a (id_below a x g.1 E.2 (omega (arith, w, E.1)) i) i))
          (λ c. absurd (omega (arith, c, committed_is, l))) k)
          (cases_lt a.index (next m.core.state.committed))

      over : x.index ≤ a.index → (has_log_id nat_cmp m.core.state x ≡ true) ⊎ (is_below nat_cmp (Some a) (Some x) ≡ true)
      over i =
          ⊎_elim
          (λ r. inl (held n (snapshot_below_accepted (setup_of first) (machine.start (setup_of first)) V (stores_follow (setup_of first) V came) t.id r.0 a.index (number a.leader_id) r.1 h.session (images snapshot.snapshot) x.index from_leader E.0 i)))
          (λ c. absurd (omega (arith, c, committed_is, n, i))) k

  -- it doesn't fall short
  pub not_short : rejects_vote nat_cmp m.core.state o.session_id.vote ≡ false → falls_short nat_cmp m.core.state o.session_id.vote x ≡ false
  not_short r = by (ordered o.session_id.vote.leader_id m.core.state.vote.leader_id h.leaders.named named) where
    named : IsNamed m.core.state.vote.leader_id
    named = tail_named (setup_of first) T (V.store t.id) s tail.store j

    none : (p : Option (LogId ℕ)) → p ≡ None → (is_some p && (not (has_log_id nat_cmp m.core.state x) && not (is_below nat_cmp p (Some x)))) ≡ false
    none p e = ap (λ p. is_some p && (not (has_log_id nat_cmp m.core.state x) && not (is_below nat_cmp p (Some x)))) e

    some : (a b : Bool) → (a ≡ true) ⊎ (b ≡ true) → (not a && not b) ≡ false
    some true b k = refl
    some false true k = refl
    some false false k = ⊎_elim (λ e. absurd (true≢false (sym e))) (λ e. absurd (true≢false (sym e))) k

    record_held : (q : Option (LeaderId ℕ × LogId ℕ)) → IfSome q (λ r. AcceptedRecord nat_cmp m.core.state.vote.leader_id r.0 r.1 m.core.state.ids m.core.state.purged m.core.state.committed) → (a : LogId ℕ) → accepted_under nat_cmp m.core.state.vote.leader_id q ≡ Some a
        → (fits nat_cmp m.core.state.ids m.core.state.purged (Some a) || is_within nat_cmp (Some a) m.core.state.committed) ≡ true
    record_held None k a e = cc
    record_held (Some r) k a e = go (is_eq (leader_id_cmp nat_cmp r.0 m.core.state.vote.leader_id)) refl e where
      go : (g : Bool) → is_eq (leader_id_cmp nat_cmp r.0 m.core.state.vote.leader_id) ≡ g → cond g (Some r.1) None ≡ Some a → (fits nat_cmp m.core.state.ids m.core.state.purged (Some a) || is_within nat_cmp (Some a) m.core.state.committed) ≡ true
      go true f e = let z : r.1 ≡ a = cc in subst (λ a. (fits nat_cmp m.core.state.ids m.core.state.purged (Some a) || is_within nat_cmp (Some a) m.core.state.committed) ≡ true) z (k.held f)
      go false f e = cc

    own : o.session_id.vote.leader_id ≡ m.core.state.vote.leader_id → (p : Option (LogId ℕ)) → accepted nat_cmp m.core.state ≡ p → (is_some p && (not (has_log_id nat_cmp m.core.state x) && not (is_below nat_cmp p (Some x)))) ≡ false
    own v None e = refl
    own v (Some a) e =
        let k : IfSome (Some a) (λ a. ((r : Append Entry) × MayAccept (setup_of first) st.carried.end t.id r a.index (number a.leader_id)) ⊎ (a.index < (st.carried.end.store t.id).committed)) =
        subst (λ p. IfSome p (λ a. ((r : Append Entry) × MayAccept (setup_of first) st.carried.end t.id r a.index (number a.leader_id)) ⊎ (a.index < (st.carried.end.store t.id).committed))) e st.carried.knows.state in
        some (has_log_id nat_cmp m.core.state x) (is_below nat_cmp (Some a) (Some x)) (past_or_held a (ap number v) (record_held m.core.state.accepted_by st.sound.sound.accepted a e) k)

    by : Order o.session_id.vote.leader_id m.core.state.vote.leader_id → falls_short nat_cmp m.core.state o.session_id.vote x ≡ false
    by (below q l) = absurd (true≢false (sym (ap (λ p. is_lt (ordering_then p (bool_cmp o.session_id.vote.committed m.core.state.vote.committed))) q) ∙ r))
    by (same q l) = subst (λ w. (is_some (accepted_under nat_cmp w m.core.state.accepted_by) && (not (has_log_id nat_cmp m.core.state x) && not (is_below nat_cmp (accepted_under nat_cmp w m.core.state.accepted_by) (Some x)))) ≡ false) (sym l) (own l (accepted nat_cmp m.core.state) refl)
    by (above q l) = none (accepted_under nat_cmp o.session_id.vote.leader_id m.core.state.accepted_by) (none_accepted m.core.state o.session_id.vote None st.sound.sound (leader_above o.session_id.vote m.core.state.vote h.leaders.named named l))
