-- The committed membership stays decided where a request is taken.
use Rattle.std.proofs.Common.{ℕ, zero, suc, ◌+◌, ◌<◌, ◌≤◌, ◌≡◌, ◌≢◌, ◌⊎◌, inl, inr, ⊎_elim, Bool, true, false, List, [], ◌∷◌, length, drop, arith, refl, sym, ap, ◌∙◌, subst, Option, None, Some}
use Rattle.std.specs.Prelude.{IfSome, ◌==◌, if◌then◌else◌, slice_get}
use Rattle.std.specs.List.{AllByRecursion, prefix_len}
use Rattle.std.specs.Option.{option_map}
use Rattle.std.specs.Ordering.{is_eq, nat_cmp}
use Rattle.std.proofs.lemmas.Bool.{cond_both, eqb-true}
use Rattle.std.proofs.lemmas.Cmp.{nat_cmp_total}
use Rattle.raft_node.specs.raft_state.declared.ids.LeaderId.{LeaderId}
use Rattle.raft_node.specs.raft_state.declared.ids.LogId.{LogId}
use Rattle.raft_node.specs.raft_state.declared.ids.Vote.{Vote}
use Rattle.raft_node.specs.raft_state.declared.membership.Members.{Members}
use Rattle.raft_node.specs.raft_state.Log.{last}
use Rattle.raft_node.specs.raft_state.Order.{next}
use Rattle.raft_node.specs.raft_state.Same.{nat_same}
use Rattle.raft_node.specs.raft_state.State.{has_log_id}
use Rattle.raft_node.specs.raft_command.declared.config.EngineConfig.{EngineConfig}
use Rattle.raft_node.specs.raft_steps.FollowingHandler.{memberships_in, with_entries, do_append_entries, is_held, new_entries, holds_previous, truncate_logs, truncate_for, ensure_log_consecutive}
use Rattle.raft_node.specs.raft_steps.FollowingHandler as following
use Rattle.raft_node.specs.raft_steps.Laws.{later}
use Rattle.raft_node.specs.raft_steps.Parts.{with_state, on_core}
use Rattle.raft_node.specs.raft_steps.RequestRefusals.{refusals_of_append}
use Rattle.raft_node.specs.raft_steps.Requests.{follow, append_entries, append_answer, handle_append_entries}
use Rattle.raft_node.specs.raft_steps.ServerStateHandler.{update_role}
use Rattle.raft_node.specs.raft_steps.VoteHandler.{rejects_vote, update_vote}
use Rattle.raft_node.proofs.raft_steps_proofs.KeptAppend.{past_committed, truncate_case, new_missing, IsMissing}
use Rattle.raft_node.proofs.raft_steps_proofs.Marks.{SameMarks, append_marks, consecutive_marks}
use Rattle.proof_agreement.specs.Machine.{Setup, last_membership, start}
use Rattle.proof_agreement.specs.Stores.{whole, entry_at}
use Rattle.proof_agreement.specs.Deeds.{MayAccept, Names}
use Rattle.proof_agreement.proofs.Memberships.{last-is}
use Rattle.raft_node.specs.raft_store.declared.entry.Entry.{Entry}
use Rattle.raft_node.specs.raft_store.Entries.{entry_meaning}
use Rattle.raft_node.specs.raft_store.Mirror.{ends, last_two}
use Rattle.raft_node.specs.raft_store.Store as store
use Rattle.raft_node.specs.raft_store.Types.{WorldStore, WorldMachine}
use Rattle.raft_node.proofs.raft_store_proofs.Lists.{Run}
use Rattle.proof_mirror.specs.Ready.{InStep, Pending, LeavesBefore, AppendFits}
use Rattle.proof_mirror.proofs.Following.{CutTo, pending_truncate, pending_append_entries, previous_reaches, held_reaches}
use Rattle.proof_mirror.proofs.Puts.{with_is}
use Rattle.proof_mirror.proofs.Queued.{awaits_state, step_alike}
use Rattle.proof_mirror.proofs.Shape.{Shape, shape_of, whole_end, whole_run}
use Rattle.raft_node.specs.raft_calls.declared.message.Body.TheVariants as body
use Rattle.raft_node.specs.raft_calls.declared.message.Message.{Message}
use Rattle.raft_node.specs.raft_calls.declared.message.Origin.{Origin}
use Rattle.raft_node.specs.declared.node.Turn.{Turn}
use Rattle.raft_node.specs.raft_calls.Deliveries.{reply_token}
use Rattle.proof_deeds.specs.Chains.{Unread, left_by, Carried}
use Rattle.proof_deeds.specs.Follows.{AppendSent}
use Rattle.proof_deeds.specs.Images.{Ideal, IdealEntry, number, setup_of}
use Rattle.proof_deeds.specs.Knows.{KnowsAccepted, Knows, Delivered, Stands}
use Rattle.proof_deeds.proofs.AppendCalls.{noted_case, put_none, prefix_reaches, may_accept, carried_entries, Followed, missing_too, leaves_too}
use Rattle.proof_deeds.proofs.AppendFitting.{SettledBy, Settled, Placed, StandsIn, member_placed, both_stand_any, append_fits, voted_settled}
use Rattle.proof_deeds.proofs.AppendLaws.{world_law, sent_in, other, away, ids_run, voted_carried, voted_pending, voted_under}
use Rattle.proof_deeds.proofs.AppendMembers.{WorldMembership, Risen, rises, LastTwo, whole_two}
use Rattle.proof_deeds.proofs.AppendSettled.{DecidedBy, decided_before}
use Rattle.proof_deeds.proofs.AppendTails.{log_ids, slot_index, slot_inside, names_slot}
use Rattle.proof_deeds.proofs.Appends.{Under, follows_on_from}
use Rattle.proof_deeds.proofs.Pushes.{Tail, tail_of, carry}
use Rattle.proof_deeds.proofs.Roles.{WorldCore, WorldState}
use Rattle.proof_deeds.proofs.Tails.{index, tail_vote, tail_whole}
use Rattle.proof_deeds.proofs.Worlds.{does_self}
use Rattle.proof_deeds.proofs.Stored.{run_drop}

slot_more : (k : ℕ) (es : List Entry) (j : ℕ) (x : LogId ℕ) → slice_get (log_ids (drop k es)) j ≡ Some x → slice_get (log_ids es) (k + j) ≡ Some x
slot_more zero [] j x e = cc
slot_more zero (y ∷ ys) j x e = let q : j ≡ zero + j = omega arith in subst (λ i. slice_get (log_ids (y ∷ ys)) i ≡ Some x) q e
slot_more (suc k) [] j x e = cc
slot_more (suc k) (y ∷ ys) j x e = let q : suc (k + j) ≡ suc k + j = omega arith in subst (λ i. slice_get (log_ids (y ∷ ys)) i ≡ Some x) q (slot_more k ys j x e)

pub two_at : (first : Members ℕ (Unit {0})) (ws : List IdealEntry) (i : ℕ) (p : WorldMembership × WorldMembership) (x y : LogId ℕ) → p.0.log_id ≡ Some x → p.1.log_id ≡ Some y → LastTwo first ws i p
    → (last_membership (setup_of first) (entry_at (setup_of first) ws) i ≡ y.index) × (y.index < i) × (last_membership (setup_of first) (entry_at (setup_of first) ws) y.index ≡ x.index)
two_at first ws i p x y e f h =
    let g : (last_membership (setup_of first) (entry_at (setup_of first) ws) i ≡ y.index) × (y.index < i) × IfSome p.0.log_id (λ x. last_membership (setup_of first) (entry_at (setup_of first) ws) y.index ≡ x.index) =
    subst (λ o. IfSome o (λ y. (last_membership (setup_of first) (entry_at (setup_of first) ws) i ≡ y.index) × (y.index < i) × IfSome p.0.log_id (λ x. last_membership (setup_of first) (entry_at (setup_of first) ws) y.index ≡ x.index))) f h in
    (g.0, g.1, subst (λ o. IfSome o (λ x. last_membership (setup_of first) (entry_at (setup_of first) ws) y.index ≡ x.index)) e g.2)

module _ (config : EngineConfig ℕ) where
  cut_committed : (i : ℕ) (c : WorldCore) → (truncate_logs nat_cmp config i c).state.cm ≡ c.state.cm
  cut_committed i c = truncate_case nat_cmp config (λ (d : WorldCore). d.state.cm ≡ c.state.cm) i c (λ _. refl) (λ first e em role q. refl)

  conflict_committed : (prev : Option (LogId ℕ)) (c : WorldCore) → (ensure_log_consecutive nat_cmp config prev c).state.cm ≡ c.state.cm
  unfolding ensure_log_consecutive
  conflict_committed None c = refl
  conflict_committed (Some x) c = cond_both (has_log_id nat_cmp c.state x) c (truncate_logs nat_cmp config x.index c) (λ (d : WorldCore). d.state.cm ≡ c.state.cm) (λ _. refl) (λ _. cut_committed x.index c)

  -- the memberships once entries are taken
  abbrev pub Taken : List Entry → WorldState → WorldState → Type 0
  Taken es a z = (z.cm ≡ (ends a.cm a.em (memberships_in entry_meaning es)).0) × (z.em ≡ (ends a.cm a.em (memberships_in entry_meaning es)).1)

  pub put_some : (e : Entry) (es : List Entry) (c : WorldCore) → Taken (e ∷ es) c.state (do_append_entries nat_cmp entry_meaning config (e ∷ es) c).state
  unfolding do_append_entries update_role
  put_some e es c =
      let taken : WorldCore = with_state c (with_entries entry_meaning c.state (e ∷ es)) in
      let k : Taken (e ∷ es) c.state taken.state = subst (Taken (e ∷ es) c.state) (sym (with_is entry_meaning c.state (e ∷ es))) (refl, refl) in
      cond_both (length (e ∷ es) == 0) c _ (λ (z : WorldCore). Taken (e ∷ es) c.state z.state)
      (λ q. absurd (let z : length (e ∷ es) ≡ 0 = eqb-true (length (e ∷ es)) 0 q in omega (arith, z)))
      (λ _. cond_both (length (memberships_in entry_meaning (e ∷ es)) == 0) taken (update_role nat_cmp config taken) (λ (z : WorldCore). Taken (e ∷ es) c.state z.state) (λ _. k) (λ _. (k.0, k.1)))

  -- what a state's committed membership may be then: the old one, or one below the last of the new entries
  abbrev pub Grown : WorldMembership → List Entry → WorldState → Type 0
  Grown old es z = (z.cm ≡ old) ⊎ ((next z.cm.log_id < next z.em.log_id) × StandsIn es z.em)

  replace_members : (u : WorldStore) (prev : Option (LogId ℕ)) (es : List Entry) (run : Run index (next prev) es) (skip : ℕ) (new : List Entry) (c : WorldCore) → Pending nat_cmp entry_meaning (λ es. es) u c → drop skip es ≡ new
      → IsMissing nat_cmp entry_meaning c.state new → next prev + skip ≤ next (last c.state.ids) → LeavesBefore entry_meaning c.state new
      → Grown c.state.cm new (do_append_entries nat_cmp entry_meaning config new (truncate_for nat_cmp entry_meaning config new c)).state
  replace_members u prev es run skip [] c p di miss re left = inl (ap (λ (z : WorldCore). z.state.cm) (put_none config c))
  replace_members u prev es run skip (e ∷ rest) c p di miss re left =
      ⊎_elim
      (λ q. inl (k.0 ∙ (ap (λ ms. (ends c2.state.cm c2.state.em ms).0) q ∙ cut_committed (index e) c)))
      (λ (q : Risen (e ∷ rest) (ends c2.state.cm c2.state.em (memberships_in entry_meaning (e ∷ rest)))).
      let z : Risen (e ∷ rest) (f.state.cm, f.state.em) = (let a : next f.state.cm.log_id ≡ next (ends c2.state.cm c2.state.em (memberships_in entry_meaning (e ∷ rest))).0.log_id = ap (λ m. next m.log_id) k.0 in let b : next f.state.em.log_id ≡ next (ends c2.state.cm c2.state.em (memberships_in entry_meaning (e ∷ rest))).1.log_id = ap (λ m. next m.log_id) k.1 in omega (arith, a, b, q.0), subst (StandsIn (e ∷ rest)) (sym k.1) q.1) in
      inr (z.0, z.1))
      (rises (index e) (e ∷ rest) c2.state.cm c2.state.em (subst (λ n. Run index n (e ∷ rest)) (sym at_e) run2) under_e)
    where
      c2 : WorldCore
      c2 = truncate_logs nat_cmp config (index e) c

      f : WorldCore
      f = do_append_entries nat_cmp entry_meaning config (e ∷ rest) (truncate_logs nat_cmp config (index e) c)

      k : Taken (e ∷ rest) (truncate_logs nat_cmp config (index e) c).state (do_append_entries nat_cmp entry_meaning config (e ∷ rest) (truncate_logs nat_cmp config (index e) c)).state
      k = put_some e rest (truncate_logs nat_cmp config (index e) c)

      run2 : Run index (next prev + skip) (e ∷ rest)
      run2 = subst (Run index (next prev + skip)) di (run_drop (next prev) skip es run)

      at_e : index e ≡ next prev + skip
      at_e = run2.0

      g : CutTo nat_cmp entry_meaning (λ es. es) config u (index e) (truncate_logs nat_cmp config (index e) c)
      g = pending_truncate nat_cmp entry_meaning (λ es. es) config u (index e) c p (past_committed nat_cmp c.state e.log_id miss) (omega (arith, at_e, re)) left

      under_e : next (truncate_logs nat_cmp config (index e) c).state.em.log_id ≤ index e
      under_e = go (truncate_logs nat_cmp config (index e) c).state.em.log_id refl where
        T : WorldStore
        T = left_by u (truncate_logs nat_cmp config (index e) c).output.items

        go : (q : Option (LogId ℕ)) → (truncate_logs nat_cmp config (index e) c).state.em.log_id ≡ q → next q ≤ index e
        go None q = omega arith
        go (Some x) q =
            let st : WorldState = (truncate_logs nat_cmp config (index e) c).state in
            let sh : Shape entry_meaning T st = shape_of entry_meaning T st g.pending.in_step.mirrors g.pending.in_step.marks in
            let z : (i : ℕ) × (slice_get (log_ids (store.whole T)) i ≡ Some x) = (both_stand_any T st g.pending.in_step).1 x q in
            let i : x.index ≡ 0 + z.0 = slot_index 0 z.0 (store.whole T) x (whole_run entry_meaning T st sh) z.1 in
            let l : z.0 < length (store.whole T) = slot_inside z.0 (store.whole T) x z.1 in
            let n : length (store.whole T) ≡ next (last st.ids) = whole_end entry_meaning T st sh in
            omega (arith, i, l, n, g.end)

  entries_members : (u : WorldStore) (prev : Option (LogId ℕ)) (es : List Entry) (run : Run index (next prev) es) (c : WorldCore) → Pending nat_cmp entry_meaning (λ es. es) u c → holds_previous nat_cmp c.state prev ≡ true → AppendFits nat_cmp entry_meaning c.state prev es
      → Grown c.state.cm (new_entries nat_cmp entry_meaning c.state es) (following.append_entries nat_cmp entry_meaning config prev es c).state
  unfolding following.append_entries
  entries_members u prev es run c p hp f =
      let x : Option (LogId ℕ) = later nat_cmp prev (last (log_ids es)) in
      let new : List Entry = new_entries nat_cmp entry_meaning c.state es in
      let skip : ℕ = prefix_len (is_held nat_cmp entry_meaning c.state) es in
      let re : next prev + skip ≤ next (last c.state.ids) = prefix_reaches (has_log_id nat_cmp c.state) es (next prev) (next (last c.state.ids)) run (previous_reaches nat_cmp nat_same c.state prev p.in_step.marks hp) (λ y q. held_reaches nat_cmp nat_same c.state y p.in_step.marks q) in
      let miss : IsMissing nat_cmp entry_meaning c.state new = new_missing nat_cmp entry_meaning c.state es in
      noted_case (λ (z : WorldState). Grown c.state.cm new (do_append_entries nat_cmp entry_meaning config new (truncate_for nat_cmp entry_meaning config new (with_state c z))).state) c.state x
      (replace_members u prev es run skip new c p refl miss re f.replaced)
      (replace_members u prev es run skip new (with_state c (record c.state { accepted_by = option_map (λ id. (c.state.vote.leader_id, id)) x })) (noted u c x p) refl (missing_too (option_map (λ id. (c.state.vote.leader_id, id)) x) c.state new miss) re (leaves_too (option_map (λ id. (c.state.vote.leader_id, id)) x) c.state new f.replaced))
    where
      noted : (u : WorldStore) (c : WorldCore) (x : Option (LogId ℕ)) → Pending nat_cmp entry_meaning (λ es. es) u c → Pending nat_cmp entry_meaning (λ es. es) u (with_state c (record c.state { accepted_by = option_map (λ id. (c.state.vote.leader_id, id)) x }))
      noted u c x p =
          awaits_state nat_cmp entry_meaning (λ es. es) u c.output.items c.state (record c.state { accepted_by = option_map (λ id. (c.state.vote.leader_id, id)) x }) p
          (step_alike entry_meaning (left_by u c.output.items) c.state (record c.state { accepted_by = option_map (λ id. (c.state.vote.leader_id, id)) x })
          (record { ids = refl; purged = refl; purge_to = refl; snap = refl; committed = refl; em = refl; cm = refl }) refl p.in_step)

module _ (first : Members ℕ (Unit {0})) (t : Turn) (config : EngineConfig ℕ) (u : WorldStore) (W : Ideal) (msg : Message) (o : Origin) (prev : Option (LogId ℕ)) (es : List Entry) (told : Option (LogId ℕ)) (d : Delivered (setup_of first) t W msg) (b : msg.body ≡ body.AppendRequest o prev es told)
    (m : WorldMachine) (now : ℕ) (st : Stands (setup_of first) t config u W m) (unread : AllByRecursion Unread m.core.output.items) (asks : refusals_of_append nat_cmp config o.session_id.vote prev (log_ids es) m ≡ None) (settled : Settled (setup_of first) W m.core.state)
  where
    by_members : (a z : WorldState) → z.vote ≡ a.vote → z.committed ≡ a.committed → z.cm ≡ a.cm → Settled (setup_of first) W a → Settled (setup_of first) W z
    by_members a z e c f h =
        subst (λ (q : Vote ℕ). IfSome z.cm.log_id (SettledBy (setup_of first) W (number q.leader_id) (next z.committed))) (sym e)
        (subst (λ (q : Option (LogId ℕ)). IfSome z.cm.log_id (SettledBy (setup_of first) W (number a.vote.leader_id) (next q))) (sym c)
        (subst (λ (q : WorldMembership). IfSome q.log_id (SettledBy (setup_of first) W (number a.vote.leader_id) (next a.committed))) (sym f) h))

    -- entries behind a held id
    entries_settle : (r : rejects_vote nat_cmp m.core.state o.session_id.vote ≡ false) → holds_previous nat_cmp (update_vote nat_cmp entry_meaning config o.session_id.vote now m).core.state prev ≡ true
        → Pending nat_cmp entry_meaning (λ es. es) u (following.append_entries nat_cmp entry_meaning config prev es (update_vote nat_cmp entry_meaning config o.session_id.vote now m).core)
        → Settled (setup_of first) W (following.append_entries nat_cmp entry_meaning config prev es (update_vote nat_cmp entry_meaning config o.session_id.vote now m).core).state
    entries_settle r hp pf =
        ⊎_elim
        (λ e. by_members n.core.state z.state marks.vote marks.committed e (voted_settled first t config u W msg o prev es told d b m now st unread asks settled r))
        (λ (g : (next z.state.cm.log_id < next z.state.em.log_id) × StandsIn (new_entries nat_cmp entry_meaning n.core.state es) z.state.em). go g z.state.cm.log_id z.state.em.log_id refl refl)
        (entries_members config u prev es run n.core (voted_pending first t config u W msg o prev es told d b m now st unread asks r).core hp fits)
      where
        s : Setup Entry
        s = setup_of first

        v : LeaderId ℕ
        v = o.session_id.vote.leader_id

        n : WorldMachine
        n = update_vote nat_cmp entry_meaning config o.session_id.vote now m

        z : WorldCore
        z = following.append_entries nat_cmp entry_meaning config prev es (update_vote nat_cmp entry_meaning config o.session_id.vote now m).core

        a : AppendSent (setup_of first) t.id o prev es told W
        a = sent_in first t config u W msg o prev es told d b

        aw : t.id ≢ (setup_of first).owner (number o.session_id.vote.leader_id)
        aw = away first t config u W msg o prev es told d b m now st unread asks

        ot : is_eq (nat_cmp o.session_id.vote.leader_id.node_id config.id) ≡ false
        ot = other first t config u W msg o prev es told d b m now st unread asks

        run : Run index (next prev) es
        run = ids_run first t config u W msg o prev es told d b m now st unread asks r

        fits : AppendFits nat_cmp entry_meaning (update_vote nat_cmp entry_meaning config o.session_id.vote now m).core.state prev es
        fits = append_fits first t config u W msg o prev es told d b m now st unread asks settled r

        marks : SameMarks (update_vote nat_cmp entry_meaning config o.session_id.vote now m).core.state (following.append_entries nat_cmp entry_meaning config prev es (update_vote nat_cmp entry_meaning config o.session_id.vote now m).core).state
        marks = append_marks nat_cmp entry_meaning config prev es (update_vote nat_cmp entry_meaning config o.session_id.vote now m).core

        under : Under (setup_of first) t config u W o.session_id.vote.leader_id st.reached (sent_in first t config u W msg o prev es told d b).request (sent_in first t config u W msg o prev es told d b).sent (sent_in first t config u W msg o prev es told d b).is.session (away first t config u W msg o prev es told d b m now st unread asks) (other first t config u W msg o prev es told d b m now st unread asks) (update_vote nat_cmp entry_meaning config o.session_id.vote now m).core.state
        under = voted_under first t config u W msg o prev es told d b m now st unread asks r

        under2 : Under (setup_of first) t config u W o.session_id.vote.leader_id st.reached (sent_in first t config u W msg o prev es told d b).request (sent_in first t config u W msg o prev es told d b).sent (sent_in first t config u W msg o prev es told d b).is.session (away first t config u W msg o prev es told d b m now st unread asks) (other first t config u W msg o prev es told d b m now st unread asks) (following.append_entries nat_cmp entry_meaning config prev es (update_vote nat_cmp entry_meaning config o.session_id.vote now m).core).state
        under2 = record { leader = ap (λ (w : Vote ℕ). w.leader_id) marks.vote ∙ under.leader; committed = ap (λ (w : Vote ℕ). w.committed) marks.vote ∙ under.committed }

        known : Ideal → Type 0
        known = Followed (setup_of first) t config u W v st.reached a.request a.sent a.is.session aw ot o prev es told a.is run a.entries_fit a.prev_named z.state true

        h : Carried (setup_of first) t v u W z.output.items known
        h =
            carried_entries (setup_of first) t config u W v st.reached a.request a.sent a.is.session aw ot o prev es told a.is run a.entries_fit a.prev_named n.core (voted_pending first t config u W msg o prev es told d b m now st unread asks r).core under hp fits under2 pf.in_step
            (subst (λ w. Carried (setup_of first) t w u W n.core.output.items (KnowsAccepted (setup_of first) t.id n.core.state)) under.leader
            (carry (setup_of first) t n.core.state.vote.leader_id u W n.core.output.items (Knows (setup_of first) t.id n) (KnowsAccepted (setup_of first) t.id n.core.state) (voted_carried first t config u W msg o prev es told d b m now st unread asks) (λ V _ k. k.state)))

        go : (next z.state.cm.log_id < next z.state.em.log_id) × StandsIn (new_entries nat_cmp entry_meaning n.core.state es) z.state.em → (p q : Option (LogId ℕ)) → z.state.cm.log_id ≡ p → z.state.em.log_id ≡ q → IfSome p (SettledBy (setup_of first) W (number z.state.vote.leader_id) (next z.state.committed))
        go g None q e f = tt
        go g (Some x) None e f = absurd (let c : next z.state.em.log_id ≡ 0 = ap next f in omega (arith, c, g.0))
        go g (Some x) (Some y) e f =
            let V : Ideal = h.end in
            let T : WorldStore = left_by u z.output.items in
            let j : InStep entry_meaning T z.state = pf.in_step in
            let k : Tail (setup_of first) t v u W z.output.items V = tail_of (setup_of first) t v u W z.output.items known h in
            let all : List Entry = store.whole T in
            let ws = whole (V.store t.id) in
            let two : LastTwo first ws (length all) (last_two (memberships_in entry_meaning all)) = whole_two first ws all (tail_whole s T (V.store t.id) z.state k.store j) (whole_run entry_meaning T z.state (shape_of entry_meaning T z.state j.mirrors j.marks)) in
            let cx : next z.state.cm.log_id ≡ x.index + 1 = ap next e in
            let ey : next z.state.em.log_id ≡ y.index + 1 = ap next f in
            let le : (last_two (memberships_in entry_meaning all)).1.log_id ≡ Some y = ap (λ (i : WorldMembership). i.log_id) (sym j.mirrors.em) ∙ f in
            let lc : (last_two (memberships_in entry_meaning all)).0.log_id ≡ Some x =
            ⊎_elim (λ i. absurd (let c : next z.state.cm.log_id ≡ next z.state.em.log_id = ap (λ (i : WorldMembership). next i.log_id) i in omega (arith, c, g.0))) (λ i. ap (λ (i : WorldMembership). i.log_id) (sym i) ∙ e) j.mirrors.cm in
            let w : (last_membership s (entry_at s ws) (length all) ≡ y.index) × (y.index < length all) × (last_membership s (entry_at s ws) y.index ≡ x.index) = two_at first ws (length all) (last_two (memberships_in entry_meaning all)) x y lc le two in
            let slot : (i : ℕ) × (slice_get (log_ids (new_entries nat_cmp entry_meaning n.core.state es)) i ≡ Some y) = g.1 y f in
            let skip : ℕ = prefix_len (is_held nat_cmp entry_meaning n.core.state) es in
            let nm : Names s a.request y.index (number y.leader_id) = names_slot s o prev es told a.request a.is (skip + slot.0) y run (slot_more skip es slot.0 y slot.1) in
            let ma : MayAccept s V t.id a.request y.index (number y.leader_id) =
            may_accept s t config u W v st.reached a.request a.sent a.is.session aw ot o prev es told a.is run a.entries_fit a.prev_named T V z.state under2 j k.within k.store y.index (number y.leader_id) nm (h.knows.1 refl y.index (number y.leader_id) nm) in
            let pos : 0 < y.index = omega (arith, cx, ey, g.0) in
            let ism : s.is_membership (entry_at s ws y.index).payload ≡ true = subst (λ i. s.is_membership (entry_at s ws i).payload ≡ true) w.0 (last-is s (entry_at s ws) (length all) (let c : last_membership s (entry_at s ws) (length all) ≡ y.index = w.0 in omega (arith, c, pos))) in
            let D : DecidedBy s W (V.store t.id).vote (last_membership s (entry_at s ws) y.index) ((entry_at s ws (last_membership s (entry_at s ws) y.index)).leader) =
            decided_before s W V (start s) (follows_on_from s W W st.reached (does_self s W)) k.came t.id a.request y.index (number y.leader_id) ma a.sent pos ism in
            let decided_here : DecidedBy s W (V.store t.id).vote x.index ((entry_at s ws x.index).leader) = subst (λ i. DecidedBy s W (V.store t.id).vote i ((entry_at s ws i).leader)) w.2 D in
            let pl : Placed s (V.store t.id) x = member_placed s T (V.store t.id) z.state z.state.cm k.store j (both_stand_any T z.state j).0 x e in
            inl (subst (λ q. DecidedBy s W q x.index (number x.leader_id)) (tail_vote s T (V.store t.id) z.state k.store j) (subst (DecidedBy s W (V.store t.id).vote x.index) pl.leader decided_here))

    -- the call
    pub append_settles : Settled (setup_of first) W (handle_append_entries nat_cmp entry_meaning config o.session_id.vote prev es (Some reply_token) now m).core.state
    unfolding handle_append_entries append_entries append_answer follow
    append_settles =
        by (rejects_vote nat_cmp m.core.state o.session_id.vote) refl (holds_previous nat_cmp n.core.state prev) refl
        (pending_append_entries nat_cmp nat_cmp_total nat_same entry_meaning world_law (λ es. es) config u o.session_id.vote prev es now m st.pending st.sound asks (append_fits first t config u W msg o prev es told d b m now st unread asks settled)).core
      where
        n : WorldMachine
        n = update_vote nat_cmp entry_meaning config o.session_id.vote now m

        by : (k : Bool) → rejects_vote nat_cmp m.core.state o.session_id.vote ≡ k → (q : Bool) → holds_previous nat_cmp (update_vote nat_cmp entry_meaning config o.session_id.vote now m).core.state prev ≡ q
            → Pending nat_cmp entry_meaning (λ es. es) u (if k then m else on_core (λ c. if q then following.append_entries nat_cmp entry_meaning config prev es c else ensure_log_consecutive nat_cmp config prev c) (update_vote nat_cmp entry_meaning config o.session_id.vote now m)).core
            → Settled (setup_of first) W (if k then m else on_core (λ c. if q then following.append_entries nat_cmp entry_meaning config prev es c else ensure_log_consecutive nat_cmp config prev c) (update_vote nat_cmp entry_meaning config o.session_id.vote now m)).core.state
        by true r q hp p = settled
        by false r true hp p = entries_settle r hp p
        by false r false hp p =
            by_members n.core.state (ensure_log_consecutive nat_cmp config prev n.core).state (consecutive_marks nat_cmp config prev n.core).vote (consecutive_marks nat_cmp config prev n.core).committed (conflict_committed config prev n.core) (voted_settled first t config u W msg o prev es told d b m now st unread asks settled r)
