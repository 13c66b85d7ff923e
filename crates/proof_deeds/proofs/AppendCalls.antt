-- The calls by which a follower takes an append request.
use Rattle.std.proofs.Common.{ℕ, zero, suc, ◌+◌, ◌-◌, ◌<◌, ◌≤◌, ◌≡◌, ◌≢◌, ◌⊎◌, inl, inr, ⊎_elim, Bool, true, false, cond, List, [], ◌∷◌, length, drop, arith, refl, sym, ap, ◌∙◌, subst, true≢false, Option, None, Some}
use Rattle.std.specs.Prelude.{IfSome, ◌==◌, if◌then◌else◌, slice_get}
use Rattle.std.specs.List.{AllByRecursion, prefix_len}
use Rattle.std.specs.Option.{option_map}
use Rattle.std.specs.Cmp.{tied_itself}
use Rattle.std.specs.Ordering.{is_eq, is_gt, nat_cmp}
use Rattle.std.proofs.lemmas.Bool.{cond_both, both_ways}
use Rattle.std.proofs.lemmas.Cmp.{nat_cmp_total}
use Rattle.std.proofs.lemmas.List.{length-map, length-drop}
use Rattle.std.proofs.lemmas.List.Sums.{prefix_len-le-length}
use Rattle.raft_node.specs.raft_state.declared.ids.LeaderId.{LeaderId}
use Rattle.raft_node.specs.raft_state.declared.ids.LogId.{LogId}
use Rattle.raft_node.specs.raft_state.declared.ids.Vote.{Vote}
use Rattle.raft_node.specs.raft_state.Log.{last}
use Rattle.raft_node.specs.raft_state.Order.{next, last_id_cmp}
use Rattle.raft_node.specs.raft_state.Same.{nat_same}
use Rattle.raft_node.specs.raft_state.State.{accept, accepted, accepted_under, has_log_id}
use Rattle.raft_node.proofs.raft_state_proofs.Orders.{leader_total}
use Rattle.raft_node.specs.raft_command.declared.config.EngineConfig.{EngineConfig}
use Rattle.raft_node.specs.raft_steps.FollowingHandler.{memberships_in, with_entries, do_append_entries, is_held, new_entries, holds_previous, truncate_logs, truncate_for, ensure_log_consecutive}
use Rattle.raft_node.specs.raft_steps.FollowingHandler as following
use Rattle.raft_node.specs.raft_steps.Laws.{later}
use Rattle.raft_node.specs.raft_steps.Parts.{with_state}
use Rattle.raft_node.specs.raft_steps.Requests.{follow}
use Rattle.raft_node.specs.raft_steps.ServerStateHandler.{update_role}
use Rattle.raft_node.proofs.raft_steps_proofs.KeptAppend.{past_committed, truncate_case, new_missing, IsMissing}
use Rattle.raft_node.proofs.raft_steps_proofs.Marks.{SameMarks, truncate_marks, follow_marks}
use Rattle.proof_agreement.specs.Machine.{Setup, Includes}
use Rattle.proof_agreement.specs.Stores.{Append, AppendRequest, entry_at}
use Rattle.proof_agreement.specs.Deeds.{TruncateConflict, Names, Holds, MayAccept, does}
use Rattle.raft_node.specs.raft_store.declared.entry.Entry.{Entry}
use Rattle.raft_node.specs.raft_store.Entries.{entry_meaning}
use Rattle.raft_node.specs.raft_store.Types.{WorldStore}
use Rattle.raft_node.proofs.raft_store_proofs.Lists.{Run}
use Rattle.proof_mirror.specs.Ready.{InStep, Pending, LeavesBefore, AppendFits}
use Rattle.proof_mirror.proofs.Following.{CutTo, pending_truncate, previous_reaches, held_reaches}
use Rattle.proof_mirror.proofs.Puts.{with_is}
use Rattle.proof_mirror.proofs.Queued.{awaits_state, step_alike}
use Rattle.raft_node.specs.declared.node.Turn.{Turn}
use Rattle.raft_node.specs.raft_calls.declared.message.Origin.{Origin}
use Rattle.proof_deeds.specs.Chains.{Reached, left_by, Carried}
use Rattle.proof_deeds.specs.Follows.{StoreIs, AppendIs}
use Rattle.proof_deeds.specs.Images.{Ideal, IdNamed, IsWellFormedEntry, EntriesFit, number}
use Rattle.proof_deeds.specs.Knows.{KnowsAccepted}
use Rattle.proof_deeds.proofs.AppendTails.{log_ids, slot_index, slot_drop, names_prev, names_slot, named_cases, holds_is}
use Rattle.proof_deeds.proofs.Appends.{Under, HeldBelow, AllHeld, from_leader, accepted_cut, below_cut, below_ends, accepted_put, all_put, carried_cut, carried_put}
use Rattle.proof_deeds.proofs.Keeps.{Ends, ends_accepted}
use Rattle.proof_deeds.proofs.Pushes.{carry}
use Rattle.proof_deeds.proofs.Roles.{WorldCore, WorldState}
use Rattle.proof_deeds.proofs.Tails.{index, tail_vote_committed}
use Rattle.proof_deeds.proofs.Worlds.{Within}
use Rattle.proof_deeds.proofs.Stored.{run_drop}

pub each_drop : {X : Type 0} (P : X → Type 0) (k : ℕ) (xs : List X) → AllByRecursion P xs → AllByRecursion P (drop k xs)
each_drop P zero [] a = tt
each_drop P zero (x ∷ xs) a = a
each_drop P (suc k) [] a = tt
each_drop P (suc k) (x ∷ xs) a = each_drop P k xs a.1

-- entries before the first that isn't held are held
prefix_held : (q : LogId ℕ → Bool) (es : List Entry) (j : ℕ) (x : LogId ℕ) → slice_get (log_ids es) j ≡ Some x → j < prefix_len (λ (e : Entry). q e.log_id) es → q x ≡ true
prefix_held q [] j x e l = cc
prefix_held q (y ∷ ys) j x e l = go (q y.log_id) refl j e l (λ i f m. prefix_held q ys i x f m) where
  go : (b : Bool) → q y.log_id ≡ b → (j : ℕ) → slice_get (log_ids (y ∷ ys)) j ≡ Some x → j < cond b (1 + prefix_len (λ (e : Entry). q e.log_id) ys) 0 → ((i : ℕ) → slice_get (log_ids ys) i ≡ Some x → i < prefix_len (λ (e : Entry). q e.log_id) ys → q x ≡ true) → q x ≡ true
  go false p j e l rec = absurd (omega (arith, l))
  go true p zero e l rec = let z : y.log_id ≡ x = cc in ap q (sym z) ∙ p
  go true p (suc i) e l rec = rec i e (omega (arith, l))

-- the first new entry stands behind those that are held
pub prefix_reaches : (q : LogId ℕ → Bool) (es : List Entry) (n top : ℕ) → Run index n es → n ≤ top → ((x : LogId ℕ) → q x ≡ true → x.index + 1 ≤ top) → n + prefix_len (λ (e : Entry). q e.log_id) es ≤ top
prefix_reaches q [] n top r l f = omega (arith, l)
prefix_reaches q (y ∷ ys) n top r l f = go (q y.log_id) refl (λ m. prefix_reaches q ys (n + 1) top r.1 m f) where
  go : (b : Bool) → q y.log_id ≡ b → (n + 1 ≤ top → (n + 1) + prefix_len (λ (e : Entry). q e.log_id) ys ≤ top) → n + cond b (1 + prefix_len (λ (e : Entry). q e.log_id) ys) 0 ≤ top
  go false p rec = omega (arith, l)
  go true p rec =
      let m : y.log_id.index + 1 ≤ top = f y.log_id p in
      let z : (n + 1) + prefix_len (λ (e : Entry). q e.log_id) ys ≤ top = rec (omega (arith, m, r.0)) in
      omega (arith, z)

-- the later of two ids is one of them
later_one : (a b : Option (LogId ℕ)) → (later nat_cmp a b ≡ a) ⊎ (later nat_cmp a b ≡ b)
later_one a b = go (is_gt (last_id_cmp nat_cmp b a)) where
  go : (c : Bool) → (cond c b a ≡ a) ⊎ (cond c b a ≡ b)
  go true = inr refl
  go false = inl refl

-- states that differ in what was accepted
pub noted_case : (P : WorldState → Type 0) (st : WorldState) (x : Option (LogId ℕ)) → P st → P (record st { accepted_by = option_map (λ id. (st.vote.leader_id, id)) x }) → P (accept nat_cmp st x)
noted_case P st x p q = cond_both (is_gt (last_id_cmp nat_cmp x (accepted nat_cmp st))) (record st { accepted_by = option_map (λ id. (st.vote.leader_id, id)) x }) st P (λ _. q) (λ _. p)

-- an id that was accepted under a leader
under_own : (l : LeaderId ℕ) (x : Option (LogId ℕ)) → accepted_under nat_cmp l (option_map (λ id. (l, id)) x) ≡ x
under_own l None = refl
under_own l (Some y) = ap (λ b. cond b (Some y) None) (ap is_eq (tied_itself (leader_total nat_cmp nat_cmp_total) l))

-- who was accepted of last plays no part in what is missing, or in what a cut leaves
pub missing_too : (a : Option (LeaderId ℕ × LogId ℕ)) (st : WorldState) (new : List Entry) → IsMissing nat_cmp entry_meaning st new → IsMissing nat_cmp entry_meaning (record st { accepted_by = a }) new
missing_too a st [] m = tt
missing_too a st (e ∷ rest) m = m

pub leaves_too : (a : Option (LeaderId ℕ × LogId ℕ)) (st : WorldState) (new : List Entry) → LeavesBefore entry_meaning st new → LeavesBefore entry_meaning (record st { accepted_by = a }) new
leaves_too a st [] m = tt
leaves_too a st (e ∷ rest) m = m

module _ (config : EngineConfig ℕ) where
  pub cut_accepted : (i : ℕ) (c : WorldCore) → accepted nat_cmp (truncate_logs nat_cmp config i c).state ≡ accepted nat_cmp c.state
  cut_accepted i c = truncate_case nat_cmp config (λ (d : WorldCore). accepted nat_cmp d.state ≡ accepted nat_cmp c.state) i c (λ _. refl) (λ first e em role q. refl)

  cut_for_accepted : (es : List Entry) (c : WorldCore) → accepted nat_cmp (truncate_for nat_cmp entry_meaning config es c).state ≡ accepted nat_cmp c.state
  cut_for_accepted [] c = refl
  cut_for_accepted (e ∷ es) c = cut_accepted (index e) c

  put_accepted : (es : List Entry) (c : WorldCore) → accepted nat_cmp (do_append_entries nat_cmp entry_meaning config es c).state ≡ accepted nat_cmp c.state
  unfolding do_append_entries update_role
  put_accepted es c =
      let taken : WorldCore = with_state c (with_entries entry_meaning c.state es) in
      let k : accepted nat_cmp taken.state ≡ accepted nat_cmp c.state = ap (accepted nat_cmp) (with_is entry_meaning c.state es) in
      cond_both (length es == 0) c _ (λ (z : WorldCore). accepted nat_cmp z.state ≡ accepted nat_cmp c.state) (λ _. refl)
      (λ _. cond_both (length (memberships_in entry_meaning es) == 0) taken (update_role nat_cmp config taken) (λ (z : WorldCore). accepted nat_cmp z.state ≡ accepted nat_cmp c.state) (λ _. k) (λ _. k))

  -- an append of nothing
  pub put_none : (c : WorldCore) → do_append_entries nat_cmp entry_meaning config [] c ≡ c
  unfolding do_append_entries
  put_none c = refl

-- what was accepted counts alone
pub knows_by : (s : Setup Entry) (n : ℕ) (a b : WorldState) (V : Ideal) → accepted nat_cmp b ≡ accepted nat_cmp a → KnowsAccepted s n a V → KnowsAccepted s n b V
knows_by s n a b V e h = subst (λ o. IfSome o (λ x. ((r : Append Entry) × MayAccept s V n r x.index (number x.leader_id)) ⊎ (x.index < (V.store n).committed))) (sym e) h

module _
    (s : Setup Entry) (t : Turn) (config : EngineConfig ℕ) (u : WorldStore) (W : Ideal) (v : LeaderId ℕ) (reached : Reached s W) (r : Append Entry) (sent : Includes W.messages (AppendRequest r)) (leads : r.session.leader ≡ number v) (away : t.id ≢ s.owner (number v)) (other : is_eq (nat_cmp v.node_id config.id) ≡ false)
    (o : Origin) (prev : Option (LogId ℕ)) (es : List Entry) (told : Option (LogId ℕ)) (is : AppendIs o prev es told r) (run : Run index (next prev) es) (fit : EntriesFit s es) (prev_named : IdNamed prev)
  where
    -- all held entries, and the id before them, are held in the ideal log
    held_start : (T : WorldStore) (V : Ideal) (st : WorldState) → StoreIs s T (V.store t.id) → InStep entry_meaning T st → holds_previous nat_cmp st prev ≡ true
        → HeldBelow s t config u W v reached r sent leads away other (r.from + prefix_len (is_held nat_cmp entry_meaning st) es) V
    held_start T V st h j hp = λ k d nm l.
        named_cases s o prev es told r is (λ k d. k < r.from + prefix_len (is_held nat_cmp entry_meaning st) es → Holds s (V.store t.id) k d)
        (λ x e _. holds_is s T (V.store t.id) st h j x (subst (λ p. holds_previous nat_cmp st p ≡ true) e hp))
        (λ i e q l.
        let z : prefix_len (is_held nat_cmp entry_meaning st) es ≡ prefix_len (λ (e : Entry). has_log_id nat_cmp st e.log_id) es = refl in
        let b : has_log_id nat_cmp st e.log_id ≡ true = prefix_held (has_log_id nat_cmp st) es i e.log_id q (omega (arith, l, is.from, z)) in
        subst (λ m. Holds s (V.store t.id) m (number e.log_id.leader_id)) (slot_index (next prev) i es e.log_id run q) (holds_is s T (V.store t.id) st h j e.log_id b))
        k d nm l

    -- new entries take the place of what is at their first index
    carried_replace : (st : WorldState) (skip : ℕ) (new : List Entry) (c : WorldCore) → Pending nat_cmp entry_meaning (λ es. es) u c → Under s t config u W v reached r sent leads away other c.state → drop skip es ≡ new → skip ≤ length es
        → IsMissing nat_cmp entry_meaning c.state new → next prev + skip ≤ next (last c.state.ids) → LeavesBefore entry_meaning c.state new
        → Carried s t v u W c.output.items (λ V. KnowsAccepted s t.id st V × HeldBelow s t config u W v reached r sent leads away other (r.from + skip) V)
        → Carried s t v u W (do_append_entries nat_cmp entry_meaning config new (truncate_for nat_cmp entry_meaning config new c)).output.items (λ V. KnowsAccepted s t.id st V × AllHeld s t config u W v reached r sent leads away other V)
    carried_replace st skip [] c p b di si miss re left h =
        subst (λ (z : WorldCore). Carried s t v u W z.output.items (λ V. KnowsAccepted s t.id st V × AllHeld s t config u W v reached r sent leads away other V)) (sym (put_none config c))
        (carry s t v u W c.output.items (λ V. KnowsAccepted s t.id st V × HeldBelow s t config u W v reached r sent leads away other (r.from + skip) V) (λ V. KnowsAccepted s t.id st V × AllHeld s t config u W v reached r sent leads away other V) h
        (λ V _ k. (k.0, λ i d nm. k.1 i d nm (inside i d nm))))
      where
        inside : (i d : ℕ) → Names s r i d → i < r.from + skip
        inside i d nm =
            let n : length es - skip ≡ 0 = sym (length-drop skip es) ∙ ap (λ ys. length ys) di in
            let m : length r.entries ≡ length es = ap (λ ys. length ys) is.entries ∙ length-map es _ in
            ⊎_elim
            (λ (q : (suc i ≡ r.from) × (d ≡ r.previous)). let z : suc i ≡ r.from = q.0 in omega (arith, z))
            (λ (q : (j : ℕ) × (i ≡ r.from + j) × (j < length r.entries) × (d ≡ (entry_at s r.entries j).leader)). let z : i ≡ r.from + q.0 = q.1 in let y : q.0 < length r.entries = q.2 in omega (arith, z, y, m, n, si))
            nm
    carried_replace st skip (e ∷ rest) c p b di si miss re left h =
        carried_put s t config u W v reached r sent leads away other skip es (e ∷ rest) c2 K L ends g.pending.in_step (record { leader = ap (λ (w : Vote ℕ). w.leader_id) marks.vote ∙ b.leader; committed = ap (λ (w : Vote ℕ). w.committed) marks.vote ∙ b.committed })
        (subst (λ m. Run index m (e ∷ rest)) (sym g.end) (subst (λ m. Run index m (e ∷ rest)) (sym at_e) run2))
        (subst (EntriesFit s) di (each_drop (IsWellFormedEntry s) skip es fit))
        is.entries di si (omega (arith, g.end, at_e, is.from))
        (λ V k i q. last_named V k i q)
        (λ V low re n k. (accepted_put s t config u W v reached r sent leads away other st V skip low re k.0, all_put s t config u W v reached r sent leads away other V skip low re n k.1))
        (λ q. cc)
        (carried_cut s t config u W v reached r sent leads away other e.log_id c K ends p.in_step b fit_e.named
        (names_slot s o prev es told r is skip e.log_id run (slot_drop skip es e rest di)) miss
        (λ V i came q m low d k.
        let f : i ≡ r.from + skip = omega (arith, q, at_e, is.from) in (
          accepted_cut s t config u W v reached r sent leads away other st V i (number e.log_id.leader_id) came m low d k.0,
          subst (λ n. HeldBelow s t config u W v reached r sent leads away other n (does s V (TruncateConflict t.id r i (number e.log_id.leader_id)))) f (below_cut s t config u W v reached r sent leads away other V i (number e.log_id.leader_id) m low d (subst (λ n. HeldBelow s t config u W v reached r sent leads away other n V) (sym f) k.1)),
        ))
        h)
      where
        K : Ideal → Type 0
        K V = KnowsAccepted s t.id st V × HeldBelow s t config u W v reached r sent leads away other (r.from + skip) V

        ends : Ends s t.id K
        ends V k = (ends_accepted s t.id st V k.0, below_ends s t config u W v reached r sent leads away other (r.from + skip) V k.1)

        L : Ideal → Type 0
        L V = KnowsAccepted s t.id st V × AllHeld s t config u W v reached r sent leads away other V

        c2 : WorldCore
        c2 = truncate_logs nat_cmp config (index e) c

        run2 : Run index (next prev + skip) (e ∷ rest)
        run2 = subst (Run index (next prev + skip)) di (run_drop (next prev) skip es run)

        at_e : index e ≡ next prev + skip
        at_e = run2.0

        fit_e : IsWellFormedEntry s e
        fit_e = let a : EntriesFit s (e ∷ rest) = subst (EntriesFit s) di (each_drop (IsWellFormedEntry s) skip es fit) in a.0

        g : CutTo nat_cmp entry_meaning (λ es. es) config u (index e) (truncate_logs nat_cmp config (index e) c)
        g = pending_truncate nat_cmp entry_meaning (λ es. es) config u (index e) c p (past_committed nat_cmp c.state e.log_id miss) (omega (arith, at_e, re)) left

        marks : SameMarks c.state (truncate_logs nat_cmp config (index e) c).state
        marks = truncate_marks nat_cmp config (index e) c

        last_named : (V : Ideal) → KnowsAccepted s t.id st V × HeldBelow s t config u W v reached r sent leads away other (r.from + skip) V → (k : ℕ) → r.from + skip ≡ suc k → (x : ℕ) × Names s r k x × Holds s (V.store t.id) k x
        last_named V h k q = go skip si refl where
          go : (m : ℕ) → m ≤ length es → skip ≡ m → (x : ℕ) × Names s r k x × Holds s (V.store t.id) k x
          go zero l f = let n : Names s r k r.previous = inl (omega (arith, q, f), refl) in (r.previous, n, h.1 k r.previous n (omega (arith, q)))
          go (suc m) l f =
              let w : length r.entries ≡ length es = ap (λ ys. length ys) is.entries ∙ length-map es _ in
              let n : Names s r k ((entry_at s r.entries m).leader) = inr (m, omega (arith, q, f), omega (arith, w, l), refl) in
              ((entry_at s r.entries m).leader, n, h.1 k ((entry_at s r.entries m).leader) n (omega (arith, q)))

    -- what is named by the request and held is accepted of its leader
    pub may_accept : (T : WorldStore) (V : Ideal) (st : WorldState) → Under s t config u W v reached r sent leads away other st → InStep entry_meaning T st → Within W V → StoreIs s T (V.store t.id) → (k d : ℕ) → Names s r k d → Holds s (V.store t.id) k d → MayAccept s V t.id r k d
    may_accept T V st b j w h k d nm hd = record {
      request = from_leader s t config u W v reached r sent leads away other T V st b j w h;
      vote_committed = tail_vote_committed s T (V.store t.id) st h j ∙ b.committed;
      names = nm;
      holds = hd;
    }

    -- the later of the previous id and the last one
    later_held : (V : Ideal) → ((k d : ℕ) → Names s r k d → MayAccept s V t.id r k d) → (y : LogId ℕ) → later nat_cmp prev (last (log_ids es)) ≡ Some y → MayAccept s V t.id r y.index (number y.leader_id)
    later_held V f y e =
        f y.index (number y.leader_id)
        (⊎_elim
        (λ q. names_prev s o prev es told r is y (sym q ∙ e))
        (λ q. names_slot s o prev es told r is (length (log_ids es) - 1) y run (sym q ∙ e))
        (later_one prev (last (log_ids es))))

    -- what an append notes as accepted
    noted_known : (st : WorldState) (V : Ideal) → KnowsAccepted s t.id st V → ((k d : ℕ) → Names s r k d → MayAccept s V t.id r k d) → KnowsAccepted s t.id (accept nat_cmp st (later nat_cmp prev (last (log_ids es)))) V
    noted_known st V h f =
        noted_case (λ z. KnowsAccepted s t.id z V) st (later nat_cmp prev (last (log_ids es))) h
        (subst (λ a. IfSome a P) (sym (under_own st.vote.leader_id (later nat_cmp prev (last (log_ids es))))) (go (later nat_cmp prev (last (log_ids es))) refl))
      where
        P : LogId ℕ → Type 0
        P x = ((q : Append Entry) × MayAccept s V t.id q x.index (number x.leader_id)) ⊎ (x.index < (V.store t.id).committed)

        go : (a : Option (LogId ℕ)) → later nat_cmp prev (last (log_ids es)) ≡ a → IfSome a P
        go None e = tt
        go (Some y) e = inl (r, later_held V f y e)

    pub noted_pending : (c : WorldCore) (x : Option (LogId ℕ)) → Pending nat_cmp entry_meaning (λ es. es) u c → Pending nat_cmp entry_meaning (λ es. es) u (with_state c (record c.state { accepted_by = option_map (λ id. (c.state.vote.leader_id, id)) x }))
    noted_pending c x p =
        awaits_state nat_cmp entry_meaning (λ es. es) u c.output.items c.state (record c.state { accepted_by = option_map (λ id. (c.state.vote.leader_id, id)) x }) p
        (step_alike entry_meaning (left_by u c.output.items) c.state (record c.state { accepted_by = option_map (λ id. (c.state.vote.leader_id, id)) x })
        (record { ids = refl; purged = refl; purge_to = refl; snap = refl; committed = refl; em = refl; cm = refl }) refl p.in_step)

    -- what is known once a request is taken
    abbrev pub Followed : WorldState → Bool → Ideal → Type 0
    Followed st held V = KnowsAccepted s t.id st V × (held ≡ true → AllHeld s t config u W v reached r sent leads away other V)

    -- entries behind a held id
    pub carried_entries : (c : WorldCore) → Pending nat_cmp entry_meaning (λ es. es) u c → Under s t config u W v reached r sent leads away other c.state → holds_previous nat_cmp c.state prev ≡ true → AppendFits nat_cmp entry_meaning c.state prev es
        → Under s t config u W v reached r sent leads away other (following.append_entries nat_cmp entry_meaning config prev es c).state
        → InStep entry_meaning (left_by u (following.append_entries nat_cmp entry_meaning config prev es c).output.items) (following.append_entries nat_cmp entry_meaning config prev es c).state
        → Carried s t v u W c.output.items (KnowsAccepted s t.id c.state)
        → Carried s t v u W (following.append_entries nat_cmp entry_meaning config prev es c).output.items (Followed (following.append_entries nat_cmp entry_meaning config prev es c).state true)
    unfolding following.append_entries
    carried_entries c p b hp f b2 j2 h =
        let x : Option (LogId ℕ) = later nat_cmp prev (last (log_ids es)) in
        let new : List Entry = new_entries nat_cmp entry_meaning c.state es in
        let skip : ℕ = prefix_len (is_held nat_cmp entry_meaning c.state) es in
        let K : Ideal → Type 0 = λ V. KnowsAccepted s t.id c.state V × HeldBelow s t config u W v reached r sent leads away other (r.from + skip) V in
        let L : Ideal → Type 0 = λ V. KnowsAccepted s t.id c.state V × AllHeld s t config u W v reached r sent leads away other V in
        let h1 : Carried s t v u W c.output.items K = carry s t v u W c.output.items (KnowsAccepted s t.id c.state) K h (λ V y k. (k, held_start (left_by u c.output.items) V c.state y.store p.in_step hp)) in
        let si : skip ≤ length es = prefix_len-le-length (is_held nat_cmp entry_meaning c.state) es in
        let re : next prev + skip ≤ next (last c.state.ids) = prefix_reaches (has_log_id nat_cmp c.state) es (next prev) (next (last c.state.ids)) run (previous_reaches nat_cmp nat_same c.state prev p.in_step.marks hp) (λ y q. held_reaches nat_cmp nat_same c.state y p.in_step.marks q) in
        let miss : IsMissing nat_cmp entry_meaning c.state new = new_missing nat_cmp entry_meaning c.state es in
        let noted : WorldCore = with_state c (accept nat_cmp c.state x) in
        let h2 : Carried s t v u W (do_append_entries nat_cmp entry_meaning config new (truncate_for nat_cmp entry_meaning config new noted)).output.items L =
        noted_case (λ (z : WorldState). Carried s t v u W (do_append_entries nat_cmp entry_meaning config new (truncate_for nat_cmp entry_meaning config new (with_state c z))).output.items L) c.state x
        (carried_replace c.state skip new c p b refl si miss re f.replaced h1)
        (carried_replace c.state skip new (with_state c (record c.state { accepted_by = option_map (λ id. (c.state.vote.leader_id, id)) x })) (noted_pending c x p) (record { leader = b.leader; committed = b.committed }) refl si (missing_too (option_map (λ id. (c.state.vote.leader_id, id)) x) c.state new miss) re (leaves_too (option_map (λ id. (c.state.vote.leader_id, id)) x) c.state new f.replaced) h1) in
        let final : WorldCore = do_append_entries nat_cmp entry_meaning config new (truncate_for nat_cmp entry_meaning config new noted) in
        carry s t v u W final.output.items L (Followed final.state true) h2
        (λ V y k. (
          knows_by s t.id noted.state final.state V (put_accepted config new (truncate_for nat_cmp entry_meaning config new noted) ∙ cut_for_accepted config new noted)
              (noted_known c.state V k.0 (λ i d nm. may_accept (left_by u final.output.items) V final.state b2 j2 y.within y.store i d nm (k.1 i d nm))),
          λ _. k.1,
        ))

    -- where the id before them isn't held, the log is cut there
    pub carried_conflict : (c : WorldCore) → Pending nat_cmp entry_meaning (λ es. es) u c → Under s t config u W v reached r sent leads away other c.state → holds_previous nat_cmp c.state prev ≡ false
        → Carried s t v u W c.output.items (KnowsAccepted s t.id c.state)
        → Carried s t v u W (ensure_log_consecutive nat_cmp config prev c).output.items (Followed (ensure_log_consecutive nat_cmp config prev c).state false)
    unfolding ensure_log_consecutive
    carried_conflict c p b hp h = go prev refl hp where
      cut : (x : LogId ℕ) → prev ≡ Some x → has_log_id nat_cmp c.state x ≡ false → Carried s t v u W (truncate_logs nat_cmp config x.index c).output.items (Followed (truncate_logs nat_cmp config x.index c).state false)
      cut x e lack =
          carry s t v u W (truncate_logs nat_cmp config x.index c).output.items (KnowsAccepted s t.id c.state) (Followed (truncate_logs nat_cmp config x.index c).state false)
          (carried_cut s t config u W v reached r sent leads away other x c (KnowsAccepted s t.id c.state) (ends_accepted s t.id c.state) p.in_step b (subst IdNamed e prev_named) (names_prev s o prev es told r is x e) lack
          (λ V i came q m low d k. accepted_cut s t config u W v reached r sent leads away other c.state V i (number x.leader_id) came m low d k) h)
          (λ V _ k. (knows_by s t.id c.state (truncate_logs nat_cmp config x.index c).state V (cut_accepted config x.index c) k, λ q. absurd (true≢false (sym q))))

      go : (a : Option (LogId ℕ)) → prev ≡ a → holds_previous nat_cmp c.state a ≡ false → Carried s t v u W (ensure_log_consecutive nat_cmp config a c).output.items (Followed (ensure_log_consecutive nat_cmp config a c).state false)
      go None e q = absurd (true≢false q)
      go (Some x) e q =
          cond_both (has_log_id nat_cmp c.state x) c (truncate_logs nat_cmp config x.index c) (λ (z : WorldCore). Carried s t v u W z.output.items (Followed z.state false))
          (λ f. absurd (both_ways (has_log_id nat_cmp c.state x) q f)) (λ _. cut x e q)

    pub carried_follow : (c : WorldCore) → Pending nat_cmp entry_meaning (λ es. es) u c → Under s t config u W v reached r sent leads away other c.state → AppendFits nat_cmp entry_meaning c.state prev es
        → InStep entry_meaning (left_by u (follow nat_cmp entry_meaning config prev es c).output.items) (follow nat_cmp entry_meaning config prev es c).state
        → Carried s t v u W c.output.items (KnowsAccepted s t.id c.state)
        → Carried s t v u W (follow nat_cmp entry_meaning config prev es c).output.items (Followed (follow nat_cmp entry_meaning config prev es c).state (holds_previous nat_cmp c.state prev))
    unfolding follow
    carried_follow c p b f j h =
        let marks : SameMarks c.state (follow nat_cmp entry_meaning config prev es c).state = follow_marks nat_cmp entry_meaning config prev es c in
        by (holds_previous nat_cmp c.state prev) refl (record { leader = ap (λ (w : Vote ℕ). w.leader_id) marks.vote ∙ b.leader; committed = ap (λ (w : Vote ℕ). w.committed) marks.vote ∙ b.committed }) j
      where
        by : (k : Bool) → holds_previous nat_cmp c.state prev ≡ k
            → Under s t config u W v reached r sent leads away other (if k then following.append_entries nat_cmp entry_meaning config prev es c else ensure_log_consecutive nat_cmp config prev c).state
            → InStep entry_meaning (left_by u (if k then following.append_entries nat_cmp entry_meaning config prev es c else ensure_log_consecutive nat_cmp config prev c).output.items) (if k then following.append_entries nat_cmp entry_meaning config prev es c else ensure_log_consecutive nat_cmp config prev c).state
            → Carried s t v u W (if k then following.append_entries nat_cmp entry_meaning config prev es c else ensure_log_consecutive nat_cmp config prev c).output.items (Followed (if k then following.append_entries nat_cmp entry_meaning config prev es c else ensure_log_consecutive nat_cmp config prev c).state k)
        by true q b2 j2 = carried_entries c p b q f b2 j2 h
        by false q b2 j2 = carried_conflict c p b q h
