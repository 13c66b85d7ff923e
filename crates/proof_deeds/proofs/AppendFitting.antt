-- What a follower cuts leaves the committed membership.
use Rattle.std.proofs.Common.{ℕ, zero, suc, ◌+◌, ◌-◌, ◌<◌, ◌≤◌, ◌≡◌, ◌≢◌, ◌⊎◌, inl, inr, ⊎_elim, false, List, [], ◌∷◌, length, arith, refl, sym, ap, ◌∙◌, subst, true≢false, Option, None, Some}
use Rattle.std.specs.Prelude.{IfSome, slice_get}
use Rattle.std.specs.List.{AllByRecursion, cons_option, prefix_len}
use Rattle.std.specs.Option.{option_map}
use Rattle.std.specs.Ordering.{is_eq, is_lt, nat_cmp, bool_cmp, ordering_then}
use Rattle.std.proofs.lemmas.Cmp.{nat_cmp_total}
use Rattle.std.proofs.lemmas.List.{length-map}
use Rattle.std.specs.declared.cmp.Ordering.TheVariants.{Less}
use Rattle.raft_node.specs.raft_state.declared.ids.LeaderId.{LeaderId}
use Rattle.raft_node.specs.raft_state.declared.ids.LogId.{LogId}
use Rattle.raft_node.specs.raft_state.declared.ids.Vote.{Vote}
use Rattle.raft_node.specs.raft_state.declared.membership.Members.{Members}
use Rattle.raft_node.specs.raft_state.declared.membership.StoredMembership.{StoredMembership}
use Rattle.raft_node.specs.raft_state.Order.{next, vote_cmp}
use Rattle.raft_node.specs.raft_state.Same.{nat_same}
use Rattle.raft_node.specs.raft_state.State.{has_log_id}
use Rattle.raft_node.specs.raft_command.declared.config.EngineConfig.{EngineConfig}
use Rattle.raft_node.specs.raft_steps.FollowingHandler.{is_held, memberships_in, new_entries}
use Rattle.raft_node.specs.raft_steps.RequestRefusals.{refusals_of_append}
use Rattle.raft_node.specs.raft_steps.VoteHandler.{rejects_vote, update_vote}
use Rattle.raft_node.proofs.raft_steps_proofs.KeptAppend.{new_missing, past_committed, IsMissing}
use Rattle.raft_node.proofs.raft_steps_proofs.KeptFollow.{heard_case}
use Rattle.proof_agreement.specs.Machine.{Setup, Includes, start}
use Rattle.proof_agreement.specs.Stores.{Append, AppendRequest, whole, entry_at}
use Rattle.proof_agreement.specs.Deeds.{Names, MayTruncateConflict}
use Rattle.raft_node.specs.raft_store.declared.entry.Entry.{Entry}
use Rattle.raft_node.specs.raft_store.Entries.{entry_meaning, members_of}
use Rattle.raft_node.specs.raft_store.Mirror.{none}
use Rattle.raft_node.specs.raft_store.Store as store
use Rattle.raft_node.specs.raft_store.Types.{WorldStore, WorldMachine}
use Rattle.raft_node.proofs.raft_store_proofs.Lists.{Run}
use Rattle.proof_mirror.specs.Ready.{InStep, Pending, LeavesMembership, LeavesBefore, AppendFits}
use Rattle.proof_mirror.proofs.Ends.{Each, ends_each}
use Rattle.proof_mirror.proofs.Shape.{shape_of, shaped_of, whole_run}
use Rattle.raft_node.specs.raft_calls.declared.message.Body.TheVariants as body
use Rattle.raft_node.specs.raft_calls.declared.message.Message.{Message}
use Rattle.raft_node.specs.raft_calls.declared.message.Origin.{Origin}
use Rattle.raft_node.specs.declared.node.Turn.{Turn}
use Rattle.proof_deeds.specs.Chains.{Unread, Does, Reached, left_by, Carried}
use Rattle.proof_deeds.specs.Follows.{StoreIs, AppendIs}
use Rattle.proof_deeds.specs.Images.{Ideal, IdealStore, IsNamed, IdNamed, IsWellFormedEntry, EntriesFit, number, image, setup_of}
use Rattle.proof_deeds.specs.Knows.{KnowsAccepted, Knows, Delivered, Stands}
use Rattle.proof_deeds.proofs.AppendCalls.{each_drop}
use Rattle.proof_deeds.proofs.AppendLaws.{sent_in, other, away, ids_run, voted_carried, voted_pending, voted_under}
use Rattle.proof_deeds.proofs.AppendSettled.{DecidedBy, decided_on, conflict_past_decided, conflict_past_first}
use Rattle.proof_deeds.proofs.AppendTails.{log_ids, slot_index, slot_inside, slot_drop, names_prev, names_slot}
use Rattle.proof_deeds.proofs.Appends.{Under, follows_on_from, may_cut}
use Rattle.proof_deeds.proofs.Numbers.{Order, below, same, above, ordered}
use Rattle.proof_deeds.proofs.Pushes.{Tail, tail_of, carry}
use Rattle.proof_deeds.proofs.Roles.{WorldCore, WorldState}
use Rattle.proof_deeds.proofs.Tails.{index, entry_of_id, named_of_id, whole_fit, tail_whole, tail_vote, tail_named}
use Rattle.proof_deeds.proofs.Worlds.{does_self, if_some}

-- a membership of a list of entries is at its id
abbrev pub StandsIn : List Entry → StoredMembership ℕ (Unit {0}) → Type 0
StandsIn es m = (x : LogId ℕ) → m.log_id ≡ Some x → (j : ℕ) × (slice_get (log_ids es) j ≡ Some x)

each_weaker : (P Q : StoredMembership ℕ (Unit {0}) → Type 0) → ((m : StoredMembership ℕ (Unit {0})) → P m → Q m) → (ms : List (StoredMembership ℕ (Unit {0}))) → Each P ms → Each Q ms
each_weaker P Q f [] h = tt
each_weaker P Q f (m ∷ ms) h = (f m h.0, each_weaker P Q f ms h.1)

pub members_stand : (es : List Entry) → Each (StandsIn es) (memberships_in entry_meaning es)
members_stand [] = tt
members_stand (e ∷ es) = go (members_of e.payload) (each_weaker (StandsIn es) (StandsIn (e ∷ es)) (λ m f x q. let z : (j : ℕ) × (slice_get (log_ids es) j ≡ Some x) = f x q in (suc z.0, z.1)) (memberships_in entry_meaning es) (members_stand es)) where
  go : (o : Option (Members ℕ (Unit {0}))) → Each (StandsIn (e ∷ es)) (memberships_in entry_meaning es) → Each (StandsIn (e ∷ es)) (cons_option (option_map (λ m. record { log_id = Some e.log_id; membership = m }) o) (memberships_in entry_meaning es))
  go None h = h
  go (Some m) h = ((λ x q. (zero, q)), h)

none_stands : (es : List Entry) → StandsIn es none
none_stands es x q = cc

-- a state's memberships stand in its whole log
pub both_stand_any : (u : WorldStore) (st : WorldState) → InStep entry_meaning u st → StandsIn (store.whole u) st.cm × StandsIn (store.whole u) st.em
both_stand_any u st j =
    let es : List Entry = store.whole u in
    let two = ends_each (StandsIn es) none none (memberships_in entry_meaning es) (none_stands es) (none_stands es) (members_stand es) in
    (⊎_elim (λ q. subst (StandsIn es) (sym (q ∙ j.mirrors.em)) two.1) (λ q. subst (StandsIn es) (sym q) two.0) j.mirrors.cm, subst (StandsIn es) (sym j.mirrors.em) two.1)

module _ (s : Setup Entry) where
  -- a membership was decided by a leader up to the vote, or is committed here, or is the first entry's
  abbrev pub SettledBy : Ideal → ℕ → ℕ → LogId ℕ → Type 0
  SettledBy W v c x = DecidedBy s W v x.index (number x.leader_id) ⊎ (x.index ≤ c - 1)

  -- the committed membership is such
  abbrev pub Settled : Ideal → WorldState → Type 0
  Settled W st = IfSome st.cm.log_id (SettledBy W (number st.vote.leader_id) (next st.committed))

  pub settled_more : (W V : Ideal) (v w c k : ℕ) (x : LogId ℕ) → Does s W V → v ≤ w → c ≤ k → SettledBy W v c x → SettledBy V w k x
  settled_more W V v w c k x came l m h = ⊎_elim (λ d. inl (decided_on s W V v w x.index (number x.leader_id) came l d)) (λ q. inr (omega (arith, q, m))) h

  -- a membership that the log has, or none, stands in the ideal whole log
  pub record Placed (S : IdealStore) (x : LogId ℕ) : Type 0 where
    pub inside : x.index < length (whole S)
    pub leader : (entry_at s (whole S) x.index).leader ≡ number x.leader_id
    pub named : IsNamed x.leader_id

  pub member_placed : (u : WorldStore) (S : IdealStore) (st : WorldState) (m : StoredMembership ℕ (Unit {0})) → StoreIs s u S → InStep entry_meaning u st → StandsIn (store.whole u) m → (x : LogId ℕ) → m.log_id ≡ Some x → Placed S x
  member_placed u S st m h j f x e =
      let es : List Entry = store.whole u in
      let z : (i : ℕ) × (slice_get (log_ids es) i ≡ Some x) = f x e in
      let i : x.index ≡ 0 + z.0 = slot_index 0 z.0 es x (whole_run entry_meaning u st (shape_of entry_meaning u st j.mirrors j.marks)) z.1 in
      let k : z.0 ≡ x.index = omega (arith, i) in
      let n : length (whole S) ≡ length es = ap (λ ys. length ys) (tail_whole s u S st h j) ∙ length-map es image in
      record {
        inside = omega (arith, n, k, slot_inside z.0 es x z.1);
        leader = subst (λ m. (entry_at s (whole S) m).leader ≡ number x.leader_id) k (ap (λ ys. (entry_at s ys z.0).leader) (tail_whole s u S st h j) ∙ entry_of_id s es z.0 x z.1);
        named = named_of_id s es z.0 x (whole_fit s u S h (shaped_of entry_meaning u st j)) z.1;
      }

  pub committed_stands : (u : WorldStore) (S : IdealStore) (st : WorldState) → StoreIs s u S → InStep entry_meaning u st → (x : LogId ℕ) → st.cm.log_id ≡ Some x → Placed S x
  committed_stands u S st h j x e = member_placed u S st st.cm h j (both_stand_any u st j).0 x e

module _
    (s : Setup Entry) (t : Turn) (config : EngineConfig ℕ) (u : WorldStore) (W : Ideal) (v : LeaderId ℕ) (reached : Reached s W) (r : Append Entry) (sent : Includes W.messages (AppendRequest r)) (leads : r.session.leader ≡ number v) (away : t.id ≢ s.owner (number v)) (other : is_eq (nat_cmp v.node_id config.id) ≡ false)
    (o : Origin) (prev : Option (LogId ℕ)) (es : List Entry) (told : Option (LogId ℕ)) (is : AppendIs o prev es told r) (run : Run index (next prev) es) (fit : EntriesFit s es) (prev_named : IdNamed prev)
    (c : WorldCore) (p : Pending nat_cmp entry_meaning (λ es. es) u c) (b : Under s t config u W v reached r sent leads away other c.state) (settled : Settled s W c.state) (K : Ideal → Type 0) (h : Carried s t v u W c.output.items K)
  where
    leaves : (x : LogId ℕ) → IsNamed x.leader_id → Names s r x.index (number x.leader_id) → has_log_id nat_cmp c.state x ≡ false → LeavesMembership c.state x.index
    leaves x n nm lack first e = go c.state.cm.log_id refl settled where
      y : Tail s t v u W c.output.items h.end
      y = tail_of s t v u W c.output.items K h

      cut : MayTruncateConflict s h.end t.id r x.index (number x.leader_id)
      cut = may_cut s t config u W v reached r sent leads away other (left_by u c.output.items) h.end c.state x first b p.in_step y.within y.store n nm lack e

      above : 0 < x.index
      above = conflict_past_first s (start s) h.end (follows_on_from s W h.end reached y.came) t.id r x.index (number x.leader_id) cut

      by_decided : (z : LogId ℕ) → c.state.cm.log_id ≡ Some z → DecidedBy s W (number c.state.vote.leader_id) z.index (number z.leader_id) → z.index + 1 ≤ x.index
      by_decided z f d =
          let V : Ideal = h.end in
          let T : WorldStore = left_by u c.output.items in
          let vote : (V.store t.id).vote ≡ number c.state.vote.leader_id = tail_vote s T (V.store t.id) c.state y.store p.in_step in
          let g : DecidedBy s V (number c.state.vote.leader_id) z.index (number z.leader_id) = decided_on s W V (number c.state.vote.leader_id) (number c.state.vote.leader_id) z.index (number z.leader_id) y.came (omega arith) d in
          let k : Placed s (V.store t.id) z = committed_stands s T (V.store t.id) c.state y.store p.in_step z f in
          let l : z.index < x.index = conflict_past_decided s g.since V g.follows t.id r x.index (number x.leader_id) (number c.state.vote.leader_id) z.index (number z.leader_id) cut g.decides (omega (arith, vote)) k.inside k.leader in
          omega (arith, l)

      go : (q : Option (LogId ℕ)) → c.state.cm.log_id ≡ q → IfSome q (SettledBy s W (number c.state.vote.leader_id) (next c.state.committed)) → next q ≤ x.index
      go None f d = omega arith
      go (Some z) f d = ⊎_elim (λ k. by_decided z f k) (λ k. let low : next c.state.committed ≤ x.index = past_committed nat_cmp c.state x lack in omega (arith, k, low, above)) d

    pub fits_append : AppendFits nat_cmp entry_meaning c.state prev es
    fits_append = record { conflict = at_prev prev refl; replaced = by_new (new_entries nat_cmp entry_meaning c.state es) refl (new_missing nat_cmp entry_meaning c.state es) } where
      at_prev : (q : Option (LogId ℕ)) → prev ≡ q → IfSome q (λ x. has_log_id nat_cmp c.state x ≡ false → LeavesMembership c.state x.index)
      at_prev None e = tt
      at_prev (Some x) e = leaves x (subst IdNamed e prev_named) (names_prev s o prev es told r is x e)

      by_new : (new : List Entry) → new_entries nat_cmp entry_meaning c.state es ≡ new → IsMissing nat_cmp entry_meaning c.state new → LeavesBefore entry_meaning c.state new
      by_new [] e m = tt
      by_new (x ∷ rest) e m =
          let skip : ℕ = prefix_len (is_held nat_cmp entry_meaning c.state) es in
          let a : EntriesFit s (x ∷ rest) = subst (EntriesFit s) e (each_drop (IsWellFormedEntry s) skip es fit) in
          leaves x.log_id a.0.named (names_slot s o prev es told r is skip x.log_id run (slot_drop skip es x rest e)) m

-- a vote that isn't below another isn't of a lower leader id
pub not_lower : (v w : Vote ℕ) → IsNamed v.leader_id → IsNamed w.leader_id → is_lt (vote_cmp nat_cmp v w) ≡ false → number w.leader_id ≤ number v.leader_id
not_lower v w h k e = go (ordered v.leader_id w.leader_id h k) where
  go : Order v.leader_id w.leader_id → number w.leader_id ≤ number v.leader_id
  go (below q l) = absurd (let z : is_lt (ordering_then Less (bool_cmp v.committed w.committed)) ≡ false = subst (λ o. is_lt (ordering_then o (bool_cmp v.committed w.committed)) ≡ false) q e in true≢false z)
  go (same q l) = let z : number v.leader_id ≡ number w.leader_id = ap number l in omega (arith, z)
  go (above q l) = omega (arith, l)

module _ (first : Members ℕ (Unit {0})) (t : Turn) (config : EngineConfig ℕ) (u : WorldStore) (W : Ideal) (msg : Message) (o : Origin) (prev : Option (LogId ℕ)) (es : List Entry) (told : Option (LogId ℕ)) (d : Delivered (setup_of first) t W msg) (b : msg.body ≡ body.AppendRequest o prev es told)
    (m : WorldMachine) (now : ℕ) (st : Stands (setup_of first) t config u W m) (unread : AllByRecursion Unread m.core.output.items) (asks : refusals_of_append nat_cmp config o.session_id.vote prev (log_ids es) m ≡ None) (settled : Settled (setup_of first) W m.core.state)
  where
    -- a vote that is taken leaves it so
    pub voted_settled : rejects_vote nat_cmp m.core.state o.session_id.vote ≡ false → Settled (setup_of first) W (update_vote nat_cmp entry_meaning config o.session_id.vote now m).core.state
    voted_settled r =
        heard_case nat_cmp nat_cmp_total nat_same entry_meaning config (λ (n : WorldMachine). Settled (setup_of first) W n.core.state) o.session_id.vote now m r (other first t config u W msg o prev es told d b m now st unread asks)
        (λ role q. if_some _ _ (λ x k. settled_more (setup_of first) W W (number m.core.state.vote.leader_id) (number o.session_id.vote.leader_id) (next m.core.state.committed) (next m.core.state.committed) x (does_self (setup_of first) W) low (omega arith) k) m.core.state.cm.log_id settled)
      where
        low : number m.core.state.vote.leader_id ≤ number o.session_id.vote.leader_id
        low = not_lower o.session_id.vote m.core.state.vote (sent_in first t config u W msg o prev es told d b).leaders.named (tail_named (setup_of first) (left_by u m.core.output.items) (st.carried.end.store t.id) m.core.state st.carried.store st.pending.core.in_step) r

    -- the law
    pub append_fits : rejects_vote nat_cmp m.core.state o.session_id.vote ≡ false → AppendFits nat_cmp entry_meaning (update_vote nat_cmp entry_meaning config o.session_id.vote now m).core.state prev es
    append_fits r =
        let n : WorldMachine = update_vote nat_cmp entry_meaning config o.session_id.vote now m in
        let a = sent_in first t config u W msg o prev es told d b in
        let under : Under (setup_of first) t config u W o.session_id.vote.leader_id st.reached a.request a.sent a.is.session (away first t config u W msg o prev es told d b m now st unread asks) (other first t config u W msg o prev es told d b m now st unread asks) n.core.state = voted_under first t config u W msg o prev es told d b m now st unread asks r in
        fits_append (setup_of first) t config u W o.session_id.vote.leader_id st.reached a.request a.sent a.is.session (away first t config u W msg o prev es told d b m now st unread asks) (other first t config u W msg o prev es told d b m now st unread asks)
        o prev es told a.is (ids_run first t config u W msg o prev es told d b m now st unread asks r) a.entries_fit a.prev_named n.core (voted_pending first t config u W msg o prev es told d b m now st unread asks r).core under (voted_settled r) (KnowsAccepted (setup_of first) t.id n.core.state)
        (subst (λ w. Carried (setup_of first) t w u W n.core.output.items (KnowsAccepted (setup_of first) t.id n.core.state)) under.leader
        (carry (setup_of first) t n.core.state.vote.leader_id u W n.core.output.items (Knows (setup_of first) t.id n) (KnowsAccepted (setup_of first) t.id n.core.state) (voted_carried first t config u W msg o prev es told d b m now st unread asks) (λ V _ k. k.state)))
