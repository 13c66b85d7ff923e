-- What a follower accepts from a leader.
use Rattle.std.proofs.Common.{ℕ, suc, ◌+◌, ◌<◌, ◌≤◌, ◌≡◌, ⊎_elim, Bool, true, false, cond, List, [], ◌∷◌, ◌++◌, length, drop, arith, refl, sym, ap, ◌∙◌, subst, Option, Some, None}
use Rattle.std.specs.Prelude.{nat_lt, ◌==◌, ◌&&◌, not, map, filter, if◌then◌else◌, IfSome}
use Rattle.std.specs.List.{prefix_len}
use Rattle.std.specs.Option.{option_map}
use Rattle.std.specs.declared.cmp.Ordering.{Ordering}
use Rattle.std.specs.declared.cmp.Ordering.TheVariants.{Equal}
use Rattle.std.specs.Ordering.{is_eq, is_gt}
use Rattle.std.specs.Cmp.{IsTotalOrder}
use Rattle.std.proofs.lemmas.Bool.{cond_both, or_parts, or_cases, ltb-true, ltb-false}
use Rattle.raft_state.specs.declared.config.RaftEntry
use Rattle.raft_state.specs.declared.ids.LogId.{LogId}
use Rattle.raft_state.specs.declared.ids.Vote.{Vote}
use Rattle.raft_state.specs.declared.state.RaftState.{RaftState}
use Rattle.raft_state.specs.Invariants.{IsSoundState, first_index}
use Rattle.raft_state.specs.Log.{last, at}
use Rattle.raft_state.specs.LogLaws.{IsRun}
use Rattle.raft_state.specs.Members.{contains}
use Rattle.raft_state.specs.Order.{next, last_id_cmp, vote_cmp}
use Rattle.raft_state.specs.Same.{found_is}
use Rattle.raft_state.specs.State.{accept, accepted, has_log_id, is_found, is_leader, is_leading, server_state, truncate, undoes_membership}
use Rattle.raft_error.specs.declared.error.EngineError.{EngineError}
use Rattle.raft_command.specs.Message.{append_response}
use Rattle.raft_command.specs.Push.{with_command}
use Rattle.raft_command.specs.declared.command.Command.{Command}
use Rattle.raft_command.specs.declared.command.Command.TheVariants as command
use Rattle.raft_command.specs.declared.config.EngineConfig.{EngineConfig}
use Rattle.raft_command.specs.declared.message.AppendEntriesResponse.{AppendEntriesResponse}
use Rattle.raft_command.specs.declared.message.Token.{Token}
use Rattle.raft_steps.specs.FollowingHandler.{memberships_in, with_entries, do_append_entries, is_held, new_entries, holds_previous, truncate_logs, ensure_log_consecutive, truncate_for, commit_target, commit_entries}
use Rattle.raft_steps.specs.FollowingHandler as following
use Rattle.raft_steps.specs.Invariants.{IsSound}
use Rattle.raft_steps.specs.Laws.{later}
use Rattle.raft_steps.specs.Parts.{Core, Machine, then_command, with_state, on_core}
use Rattle.raft_steps.specs.RequestRefusals.{refusals_of_follow, refusals_of_request, refusals_of_append}
use Rattle.raft_steps.specs.Requests.{replied, follow, append_entries, append_answer, handle_append_entries, handle_commit_entries}
use Rattle.raft_steps.specs.ServerStateHandler.{role_commands, update_role}
use Rattle.raft_steps.specs.VoteHandler.{rejects_vote, take_vote, become_following, update_internal_server_state, update_vote}
use Rattle.raft_steps.proofs.Kept.{vote_sound}
use Rattle.raft_steps.proofs.KeptAppend.{followed}
use Rattle.raft_steps.proofs.KeptFollow.{heard_case, not_own, append_entries_is_sound}
use Rattle.raft_steps.proofs.Leads.{vote_is}
use Rattle.raft_steps.proofs.Unrefused.{neither}
use Rattle.raft_store.specs.Store.{Store, exec, exec_all, index_of}
use Rattle.proof_mirror.specs.Ready.{IsStored, MayPut, Marks, InStep, Awaits, Pending, KnowsLog, PendingIn, CommitFits, LeavesMembership, LeavesBefore, AppendFits}
use Rattle.proof_mirror.proofs.Committing.{commit_by_ids, pending_commit_entries}
use Rattle.proof_mirror.proofs.Cuts.{cut_parts, cut_end, step_cut}
use Rattle.proof_mirror.proofs.Elections.{pending_update_vote}
use Rattle.raft_store.proofs.Lists.{Run}
use Rattle.proof_mirror.proofs.Places.{at_index, at_reaches, end_at_none, first_below, next_last_le}
use Rattle.proof_mirror.proofs.Proposes.{TakesId}
use Rattle.proof_mirror.proofs.Orders.{InOrder, Orderly, in_order, may_put, order_begin}
use Rattle.proof_mirror.proofs.Puts.{with_is, step_put}
use Rattle.proof_mirror.proofs.Queued.{step_alike, after, awaits_idle, awaits_one, awaits_state, role_idle, pending_role}
use Rattle.proof_mirror.proofs.Shape.{applied_upto, shape_of, run_of_ids}
use Rattle.proof_mirror.proofs.Sound.{follow_run}

module _ {NID N : Type 0} (cmp : NID → NID → Ordering) (same : (a b : NID) → cmp a b ≡ Equal → a ≡ b) where
  -- an id that is held is below the log's end
  pub held_reaches : (s : RaftState NID N) (x : LogId NID) → Marks s → has_log_id cmp s x ≡ true → x.index + 1 ≤ next (last s.ids)
  held_reaches s x k h =
      ⊎_elim
      (λ q. let l : x.index < next s.committed = ltb-true x.index (next s.committed) q in omega (arith, l, k.committed))
      (λ q. at_reaches (first_index s.purged) x.index s.ids x k.run (found_is cmp same (at s.ids x.index) x q))
      (or_cases (nat_lt x.index (next s.committed)) (is_found cmp (at s.ids x.index) x) h)

  missing_past : (s : RaftState NID N) (x : LogId NID) → has_log_id cmp s x ≡ false → next s.committed ≤ x.index
  missing_past s x h = ltb-false x.index (next s.committed) (or_parts (nat_lt x.index (next s.committed)) (is_found cmp (at s.ids x.index) x) h).0

  pub previous_reaches : (s : RaftState NID N) (prev : Option (LogId NID)) → Marks s → holds_previous cmp s prev ≡ true → next prev ≤ next (last s.ids)
  previous_reaches s None k h = omega arith
  previous_reaches s (Some x) k h = held_reaches s x k h

module _ {NID N E : Type 0} (entry : RaftEntry.Ghosts E NID N) where
  -- entries that are to take the place of what is at their first index: past what is committed, and not past the log's
  -- end
  abbrev pub Replaces : RaftState NID N → List E → Type 0
  Replaces s [] = Unit {0}
  Replaces s (e ∷ es) = Run (index_of entry) (index_of entry e) (e ∷ es) × (next s.committed ≤ index_of entry e) × (index_of entry e ≤ next (last s.ids))

module _ {NID N E : Type 0} (cmp : NID → NID → Ordering) (same : (a b : NID) → cmp a b ≡ Equal → a ≡ b) (entry : RaftEntry.Ghosts E NID N) where
  new_replaces : (s : RaftState NID N) (n : ℕ) (es : List E) → Marks s → Run (index_of entry) n es → n ≤ next (last s.ids) → Replaces entry s (new_entries cmp entry s es)
  new_replaces s n [] k r l = tt
  new_replaces s n (e ∷ es) k r l = go (is_held cmp entry s e) refl (λ m. new_replaces s (n + 1) es k r.1 m) where
    go : (b : Bool) → is_held cmp entry s e ≡ b → (n + 1 ≤ next (last s.ids) → Replaces entry s (new_entries cmp entry s es))
        → Replaces entry s (drop (cond b (1 + prefix_len (is_held cmp entry s) es) 0) (e ∷ es))
    go true q rec =
        let m : index_of entry e + 1 ≤ next (last s.ids) = held_reaches cmp same s (entry.id_of e) k q in
        subst (λ j. Replaces entry s (drop j (e ∷ es))) (let j : suc (prefix_len (is_held cmp entry s) es) ≡ 1 + prefix_len (is_held cmp entry s) es = omega arith in j) (rec (omega (arith, m, r.0)))
    go false q rec = ((refl, subst (λ j. Run (index_of entry) j es) (let j : n + 1 ≡ index_of entry e + 1 = omega (arith, r.0) in j) r.1), missing_past cmp same s (entry.id_of e) q, omega (arith, r.0, l))

module _ {C NID N E D R S : Type 0} (cmp : NID → NID → Ordering) (entry : RaftEntry.Ghosts E NID N) (config : EngineConfig NID) where
  -- entries that are in order behind the log leave it so
  pub taken_order : (es : List E) (c : Core C NID N E D R S) → InOrder cmp c.state.vote.leader_id (c.state.ids ++ map entry.id_of es) → Orderly cmp (do_append_entries cmp entry config es c).state
  unfolding do_append_entries update_role
  taken_order es c o =
      let taken : Core C NID N E D R S = with_state c (with_entries entry c.state es) in
      let k : Orderly cmp taken.state = subst (Orderly cmp) (sym (with_is entry c.state es)) o in
      cond_both (length es == 0) c (then_command (if length (memberships_in entry es) == 0 then taken else update_role cmp config taken) (command.AppendInputEntries c.state.vote es)) (λ z. Orderly cmp z.state)
      (λ _. order_begin cmp c.state.vote.leader_id c.state.ids (map entry.id_of es) o)
      (λ _. cond_both (length (memberships_in entry es) == 0) taken (update_role cmp config taken) (λ z. Orderly cmp (then_command z (command.AppendInputEntries c.state.vote es)).state)
      (λ _. k) (λ _. record { by_vote = k.by_vote; rising = k.rising; below_end = k.below_end }))

module _ {C NID N E D R S : Type 0} (cmp : NID → NID → Ordering) (entry : RaftEntry.Ghosts E NID N) (entries_in : S → List E) (config : EngineConfig NID) where
  -- entries behind the last one
  pub pending_append : (t : Store NID N E) (es : List E) (c : Core C NID N E D R S) → Pending cmp entry entries_in t c → Run (index_of entry) (next (last c.state.ids)) es → Orderly cmp (do_append_entries cmp entry config es c).state
      → Pending cmp entry entries_in t (do_append_entries cmp entry config es c)
  unfolding do_append_entries update_role
  pending_append t es c p r ordered =
      let s : RaftState NID N = c.state in
      let taken : Core C NID N E D R S = with_state c (with_entries entry s es) in
      let b = server_state cmp (with_entries entry s es) config.id in
      let rc : List (Command C NID N E D R S) = role_commands (with_entries entry s es).role b in
      let add : Command C NID N E D R S = command.AppendInputEntries s.vote es in
      let settled : Core C NID N E D R S = if length (memberships_in entry es) == 0 then taken else update_role cmp config taken in
      let put : (u : Store NID N E) → InStep entry u s → Orderly cmp (with_entries entry s es) → MayPut cmp entry u es = λ u j o. may_put cmp entry u s es j r (subst (Orderly cmp) (with_is entry s es) o) in
      cond_both (length es == 0) c (then_command settled add) (λ z. Orderly cmp z.state → Pending cmp entry entries_in t z)
      (λ _ _. p)
      (λ _ g. cond_both (length (memberships_in entry es) == 0) taken (update_role cmp config taken) (λ z. Orderly cmp (then_command z add).state → Pending cmp entry entries_in t (then_command z add))
      (λ _ o. awaits_one cmp entry entries_in t c.output.items add s (with_entries entry s es) p (put (after cmp entry entries_in t c) p.in_step o) (step_put entry (after cmp entry entries_in t c) s es p.in_step r))
      (λ _ o.
      let U : Store NID N E = exec_all entry entries_in t (c.output.items ++ rc) in
      let p2 : Awaits cmp entry entries_in t (c.output.items ++ rc) s = awaits_idle cmp entry entries_in t c.output.items rc s s p (role_idle C D R cmp entry entries_in (after cmp entry entries_in t c) (with_entries entry s es).role b) p.in_step in
      awaits_one cmp entry entries_in t (c.output.items ++ rc) add s (record (with_entries entry s es) { role = b }) p2 (put U p2.in_step (record { by_vote = o.by_vote; rising = o.rising; below_end = o.below_end }))
      (step_alike entry (exec entry entries_in add U) (with_entries entry s es) (record (with_entries entry s es) { role = b }) (record { ids = refl; purged = refl; purge_to = refl; snap = refl; committed = refl; em = refl; cm = refl }) refl
      (step_put entry U s es p2.in_step r))) g)
      ordered

  -- a core whose log ends at an index
  pub record CutTo (t : Store NID N E) (i : ℕ) (c : Core C NID N E D R S) : Type 0 where
    pub pending : Pending cmp entry entries_in t c
    pub end : next (last c.state.ids) ≡ i

  role_cut : (t : Store NID N E) (i : ℕ) (c : Core C NID N E D R S) → CutTo t i c → CutTo t i (update_role cmp config c)
  unfolding update_role
  role_cut t i c h = record { pending = pending_role cmp entry entries_in config t c h.pending; end = h.end }

  -- a truncation from an index that the log reaches, past what is committed
  pub pending_truncate : (t : Store NID N E) (i : ℕ) (c : Core C NID N E D R S) → Pending cmp entry entries_in t c → next c.state.committed ≤ i → i ≤ next (last c.state.ids) → LeavesMembership c.state i
      → CutTo t i (truncate_logs cmp config i c)
  unfolding truncate_logs
  pending_truncate t i c p l u f = go (at c.state.ids i) refl where
    s : RaftState NID N
    s = c.state

    T : Store NID N E
    T = after cmp entry entries_in t c

    k : Marks c.state
    k = p.in_step.marks

    go : (o : Option (LogId NID)) → at c.state.ids i ≡ o → CutTo t i (elim o [
      | None ↦ c
      | Some first ↦
          let cut : Core C NID N E D R S = record { state = truncate c.state i; output = with_command c.output (command.DeleteConflictLog first) } in
          if not (undoes_membership c.state i) then cut else update_role cmp config cut
    ])
    go None e =
        let q : first_index c.state.purged + length c.state.ids ≤ i = end_at_none (first_index c.state.purged) i c.state.ids k.run (first_below c.state.purged i (omega (arith, k.purged, k.target, k.snapshot, l))) e in
        record { pending = p; end = omega (arith, q, u, next_last_le (first_index c.state.purged) c.state.ids k.run) }
    go (Some first) e =
        let cut : Core C NID N E D R S = record { state = truncate c.state i; output = with_command c.output (command.DeleteConflictLog first) } in
        let n : first.index ≡ i = at_index i c.state.ids first e in
        let j : InStep entry (record T { log = filter (λ p. nat_lt p.0 first.index) T.log }) (truncate c.state i) =
        subst (λ m. InStep entry (record T { log = filter (λ p. nat_lt p.0 m) T.log }) (truncate c.state i)) (sym n) (step_cut entry T c.state i p.in_step l (f first e) u) in
        let st : IsStored entry T first = ap (λ ids. at ids first.index) (sym p.in_step.mirrors.log.ids_are) ∙ (ap (at c.state.ids) n ∙ e) in
        let q : Pending cmp entry entries_in t cut = awaits_one cmp entry entries_in t c.output.items (command.DeleteConflictLog first) c.state (truncate c.state i) p (st, omega (arith, n, l, applied_upto entry T c.state p.in_step)) j in
        let d : next (last (truncate c.state i).ids) ≡ i =
        cut_parts entry (λ s2. next (last s2.ids) ≡ i) c.state i (λ em. cut_end entry T c.state i p.in_step.mirrors.log (shape_of entry T c.state p.in_step.mirrors k).run (omega (arith, k.purged, k.target, k.snapshot, l)) u) in
        cond_both (not (undoes_membership c.state i)) cut (update_role cmp config cut) (CutTo t i) (λ _. record { pending = q; end = d }) (λ _. role_cut t i cut (record { pending = q; end = d }))

  -- where there is no id at the index, nothing is cut
  pub nothing_cut : (t : Store NID N E) (i : ℕ) (c : Core C NID N E D R S) → Pending cmp entry entries_in t c → at c.state.ids i ≡ None → Pending cmp entry entries_in t (truncate_logs cmp config i c)
  unfolding truncate_logs
  nothing_cut t i c p e = go (at c.state.ids i) e where
    go : (o : Option (LogId NID)) → o ≡ None → Pending cmp entry entries_in t (elim o [
      | None ↦ c
      | Some first ↦
          let cut : Core C NID N E D R S = record { state = truncate c.state i; output = with_command c.output (command.DeleteConflictLog first) } in
          if not (undoes_membership c.state i) then cut else update_role cmp config cut
    ])
    go None e = p
    go (Some first) e = cc

  -- entries take the place of what is at their first index
  pub pending_replace : (t : Store NID N E) (es : List E) (c : Core C NID N E D R S) → Pending cmp entry entries_in t c → Replaces entry c.state es → LeavesBefore entry c.state es
      → Orderly cmp (do_append_entries cmp entry config es (truncate_for cmp entry config es c)).state
      → Pending cmp entry entries_in t (do_append_entries cmp entry config es (truncate_for cmp entry config es c))
  pending_replace t [] c p h f o = pending_append t [] c p tt o
  pending_replace t (e ∷ es) c p h f o =
      let g : CutTo t (index_of entry e) (truncate_logs cmp config (index_of entry e) c) = pending_truncate t (index_of entry e) c p h.1 h.2 f in
      pending_append t (e ∷ es) (truncate_logs cmp config (index_of entry e) c) g.pending (subst (λ n. Run (index_of entry) n (e ∷ es)) (sym g.end) h.0) o

-- states that differ in what was accepted
module _ {NID N : Type 0} (cmp : NID → NID → Ordering) where
  noted_case : (P : RaftState NID N → Type 0) (s : RaftState NID N) (x : Option (LogId NID)) → P s → P (record s { accepted_by = option_map (λ id. (s.vote.leader_id, id)) x }) → P (accept cmp s x)
  noted_case P s x p q = cond_both (is_gt (last_id_cmp cmp x (accepted cmp s))) (record s { accepted_by = option_map (λ id. (s.vote.leader_id, id)) x }) s P (λ _. q) (λ _. p)

module _ {C NID N E D R S : Type 0} (cmp : NID → NID → Ordering) (same : (a b : NID) → cmp a b ≡ Equal → a ≡ b) (entry : RaftEntry.Ghosts E NID N) (entries_in : S → List E) (config : EngineConfig NID) where
  -- entries behind a held id
  pub pending_entries : (t : Store NID N E) (prev : Option (LogId NID)) (es : List E) (c : Core C NID N E D R S) → Pending cmp entry entries_in t c → IsRun (next prev) (map entry.id_of es) → AppendFits cmp entry c.state prev es → holds_previous cmp c.state prev ≡ true
      → Orderly cmp (following.append_entries cmp entry config prev es c).state → Pending cmp entry entries_in t (following.append_entries cmp entry config prev es c)
  unfolding following.append_entries
  pending_entries t prev es c p run f h o =
      let s : RaftState NID N = c.state in
      let new : List E = new_entries cmp entry s es in
      let g : Replaces entry s new = new_replaces cmp same entry s (next prev) es p.in_step.marks (run_of_ids entry (next prev) es run) (previous_reaches cmp same s prev p.in_step.marks h) in
      let x : Option (LogId NID) = later cmp prev (last (map entry.id_of es)) in
      noted_case cmp (λ s2. Orderly cmp (do_append_entries cmp entry config new (truncate_for cmp entry config new (with_state c s2))).state → Pending cmp entry entries_in t (do_append_entries cmp entry config new (truncate_for cmp entry config new (with_state c s2)))) s x
      (λ o. pending_replace cmp entry entries_in config t new c p g f.replaced o)
      (under_note (record s { accepted_by = option_map (λ id. (s.vote.leader_id, id)) x }) new refl refl refl refl refl refl refl refl g f.replaced)
      o
    where
      moved : (s2 : RaftState NID N) (new : List E) → s2.ids ≡ c.state.ids → s2.committed ≡ c.state.committed → Replaces entry c.state new → Replaces entry s2 new
      moved s2 [] ei ec g = tt
      moved s2 (e ∷ new) ei ec g =
          let a : next s2.committed ≡ next c.state.committed = ap next ec in
          let b : next (last s2.ids) ≡ next (last c.state.ids) = ap (λ ids. next (last ids)) ei in
          (g.0, omega (arith, a, g.1), omega (arith, b, g.2))

      left : (s2 : RaftState NID N) (new : List E) → s2.ids ≡ c.state.ids → s2.cm ≡ c.state.cm → LeavesBefore entry c.state new → LeavesBefore entry s2 new
      left s2 [] ei em f = tt
      left s2 (e ∷ new) ei em f = λ x a. let q : next s2.cm.log_id ≡ next c.state.cm.log_id = ap (λ m. next m.log_id) em in let l : next c.state.cm.log_id ≤ index_of entry e = f x (ap (λ ids. at ids (index_of entry e)) (sym ei) ∙ a) in omega (arith, q, l)

      under_note : (s2 : RaftState NID N) (new : List E) → s2.ids ≡ c.state.ids → s2.purged ≡ c.state.purged → s2.purge_to ≡ c.state.purge_to → s2.snap ≡ c.state.snap → s2.committed ≡ c.state.committed → s2.em ≡ c.state.em → s2.cm ≡ c.state.cm → s2.vote ≡ c.state.vote
          → Replaces entry c.state new → LeavesBefore entry c.state new → Orderly cmp (do_append_entries cmp entry config new (truncate_for cmp entry config new (with_state c s2))).state
          → Pending cmp entry entries_in t (do_append_entries cmp entry config new (truncate_for cmp entry config new (with_state c s2)))
      under_note s2 new ei ep et es ec ee em ev g f o =
          pending_replace cmp entry entries_in config t new (with_state c s2)
          (awaits_state cmp entry entries_in t c.output.items c.state s2 p (step_alike entry (after cmp entry entries_in t c) c.state s2 (record { ids = ei; purged = ep; purge_to = et; snap = es; committed = ec; em = ee; cm = em }) ev p.in_step))
          (moved s2 new ei ec g) (left s2 new ei em f) o

  -- a conflict
  pub pending_consecutive : (t : Store NID N E) (prev : Option (LogId NID)) (c : Core C NID N E D R S) → Pending cmp entry entries_in t c → IfSome prev (λ x. has_log_id cmp c.state x ≡ false → LeavesMembership c.state x.index)
      → Pending cmp entry entries_in t (ensure_log_consecutive cmp config prev c)
  unfolding ensure_log_consecutive
  pending_consecutive t None c p f = p
  pending_consecutive t (Some x) c p f =
      cond_both (has_log_id cmp c.state x) c (truncate_logs cmp config x.index c) (Pending cmp entry entries_in t) (λ _. p)
      (λ e. by_end e (at c.state.ids x.index) refl)
    where
      by_end : has_log_id cmp c.state x ≡ false → (o : Option (LogId NID)) → at c.state.ids x.index ≡ o → Pending cmp entry entries_in t (truncate_logs cmp config x.index c)
      by_end e None q = nothing_cut cmp entry entries_in config t x.index c p q
      by_end e (Some y) q =
          let l : x.index + 1 ≤ next (last c.state.ids) = at_reaches (first_index c.state.purged) x.index c.state.ids y p.in_step.marks.run q in
          (pending_truncate cmp entry entries_in config t x.index c p (missing_past cmp same c.state x e) (omega (arith, l)) (f e)).pending

  -- the entries of a leader whose vote was taken
  pub pending_follow_entries : (t : Store NID N E) (prev : Option (LogId NID)) (es : List E) (c : Core C NID N E D R S) → Pending cmp entry entries_in t c → IsRun (next prev) (map entry.id_of es) → AppendFits cmp entry c.state prev es
      → Orderly cmp (follow cmp entry config prev es c).state → Pending cmp entry entries_in t (follow cmp entry config prev es c)
  unfolding follow
  pending_follow_entries t prev es c p run f o =
      cond_both (holds_previous cmp c.state prev) (following.append_entries cmp entry config prev es c) (ensure_log_consecutive cmp config prev c) (λ z. Orderly cmp z.state → Pending cmp entry entries_in t z)
      (λ h g. pending_entries t prev es c p run f h g) (λ _ _. pending_consecutive t prev c p f.conflict) o

module _ {C NID N E D R S : Type 0} (cmp : NID → NID → Ordering) (same : (a b : NID) → cmp a b ≡ Equal → a ≡ b) (entry : RaftEntry.Ghosts E NID N) (config : EngineConfig NID) where
  internal_other : (m : Machine C NID N E D R S) → is_eq (cmp m.core.state.vote.leader_id.node_id config.id) ≡ false → (update_internal_server_state cmp entry config m).leader ≡ None
  unfolding update_internal_server_state become_following
  internal_other m e =
      let a : is_leading cmp m.core.state config.id ≡ false = ap (λ b. b && contains cmp m.core.state.em.membership config.id) e in
      let b : is_leader cmp m.core.state config.id ≡ false = ap (λ b. b && m.core.state.vote.committed) a in
      rw (b, a) refl

  taken_is : (v : Vote NID) (now : ℕ) (c : Core C NID N E D R S) → rejects_vote cmp c.state v ≡ false → (take_vote cmp config v now c).state.vote ≡ v
  taken_is v now c r =
      cond_both (is_gt (vote_cmp cmp v c.state.vote)) (then_command (with_state c (record c.state { vote = v; time = Some now })) (command.SaveVote v)) (with_state c (record c.state { time = Some now })) (λ z. z.state.vote ≡ v)
      (λ _. refl) (λ g. vote_is cmp same v c.state.vote r g)

  -- a node that took another node's vote has no leader
  pub other_follows : (v : Vote NID) (now : ℕ) (m : Machine C NID N E D R S) → rejects_vote cmp m.core.state v ≡ false → is_eq (cmp v.leader_id.node_id config.id) ≡ false → (update_vote cmp entry config v now m).leader ≡ None
  unfolding update_vote
  other_follows v now m r e =
      let w : Machine C NID N E D R S = on_core (take_vote cmp config v now) m in
      ap (λ b. let q : Machine C NID N E D R S = if b then m else update_internal_server_state cmp entry config w in q.leader) r
      ∙ internal_other w (ap (λ z. is_eq (cmp z.leader_id.node_id config.id)) (taken_is v now m.core r) ∙ e)

-- where a call isn't refused
module _ {NID N : Type 0} (cmp : NID → NID → Ordering) where
  pub follow_passed : (s : RaftState NID N) (v : Vote NID) (prev : Option (LogId NID)) (ids : List (LogId NID)) → refusals_of_follow cmp s v prev ids ≡ None → IsRun (next prev) ids
  follow_passed s v prev ids asks = follow_run cmp prev ids (followed cmp s v prev ids asks).follow

module _ {C NID N E D R S : Type 0} (cmp : NID → NID → Ordering) where
  -- what a leader's request asks beside its vote
  pub more_passed : (config : EngineConfig NID) (v : Vote NID) (more : Option (EngineError NID N)) (m : Machine C NID N E D R S) → refusals_of_request cmp config v more m ≡ None → rejects_vote cmp m.core.state v ≡ false → more ≡ None
  more_passed config v more m asks r = subst (λ b. (if b then None else more) ≡ None) r (neither _ _ asks).1

module _ {C NID N E D R S : Type 0} (cmp : NID → NID → Ordering) (total : IsTotalOrder cmp) (same : (a b : NID) → cmp a b ≡ Equal → a ≡ b) (entry : RaftEntry.Ghosts E NID N) (config : EngineConfig NID) where
  -- another node's vote leaves the state sound
  pub voted_sound : (v : Vote NID) (now : ℕ) (m : Machine C NID N E D R S) → rejects_vote cmp m.core.state v ≡ false → is_eq (cmp v.leader_id.node_id config.id) ≡ false → IsSoundState cmp m.core.state → IsSoundState cmp (update_vote cmp entry config v now m).core.state
  voted_sound v now m r o h = heard_case cmp total same entry config (λ n. IsSoundState cmp n.core.state) v now m r o (λ role q. vote_sound cmp total same v m.core.state r h)

module _ {C NID N E D R S : Type 0} (cmp : NID → NID → Ordering) (total : IsTotalOrder cmp) (same : (a b : NID) → cmp a b ≡ Equal → a ≡ b) (entry : RaftEntry.Ghosts E NID N) (law : TakesId entry) (entries_in : S → List E) (config : EngineConfig NID) where
  -- an append of another node that isn't refused, and leaves the committed membership once its vote is taken
  pub pending_append_entries : (t : Store NID N E) (vote : Vote NID) (prev : Option (LogId NID)) (es : List E) (now : ℕ) (m : Machine C NID N E D R S) → PendingIn cmp entry entries_in t m → IsSound cmp config m
      → refusals_of_append cmp config vote prev (map entry.id_of es) m ≡ None → (rejects_vote cmp m.core.state vote ≡ false → AppendFits cmp entry (update_vote cmp entry config vote now m).core.state prev es)
      → PendingIn cmp entry entries_in t (append_entries cmp entry config vote prev es now m)
  unfolding append_entries
  pending_append_entries t vote prev es now m p h asks f =
      let voted : Machine C NID N E D R S = update_vote cmp entry config vote now m in
      let z : IsSoundState cmp (append_entries cmp entry config vote prev es now m).core.state = (append_entries_is_sound cmp total same entry config vote prev es now m asks h).sound in
      let o : is_eq (cmp vote.leader_id.node_id config.id) ≡ false = not_own cmp total same entry config vote (refusals_of_follow cmp m.core.state vote prev (map entry.id_of es)) m asks in
      cond_both (rejects_vote cmp m.core.state vote) m (on_core (follow cmp entry config prev es) voted) (λ y. IsSoundState cmp y.core.state → PendingIn cmp entry entries_in t y)
      (λ _ _. p)
      (λ r y.
      let g : IsSoundState cmp voted.core.state = voted_sound cmp total same entry config vote now m r o h.sound in
      let q : PendingIn cmp entry entries_in t voted = pending_update_vote cmp entry law entries_in config t vote now m p (in_order cmp voted.core.state.vote.leader_id voted.core.state.ids voted.core.state.purged g.log) in
      let done : Core C NID N E D R S = follow cmp entry config prev es voted.core in
      record {
        core = pending_follow_entries cmp same entry entries_in config t prev es voted.core q.core
            (follow_passed cmp m.core.state vote prev (map entry.id_of es) (more_passed cmp config vote (refusals_of_follow cmp m.core.state vote prev (map entry.id_of es)) m asks r)) (f r)
            (in_order cmp done.state.vote.leader_id done.state.ids done.state.purged y.log);
        knows = subst (λ l. IfSome l (KnowsLog done.state.ids)) (sym (other_follows cmp same entry config vote now m r o)) tt;
      })
      z

  pub pending_replied : (t : Store NID N E) (token : Option Token) (response : AppendEntriesResponse NID) (c : Core C NID N E D R S) → Pending cmp entry entries_in t c → Pending cmp entry entries_in t (record c { output = replied token response c.output })
  pending_replied t None response c p = p
  pending_replied t (Some token) response c p = awaits_idle cmp entry entries_in t c.output.items (command.Respond None _ ∷ []) c.state c.state p (refl, tt, tt) p.in_step

  pub pending_handle_append : (t : Store NID N E) (vote : Vote NID) (prev : Option (LogId NID)) (es : List E) (token : Option Token) (now : ℕ) (m : Machine C NID N E D R S) → PendingIn cmp entry entries_in t m → IsSound cmp config m
      → refusals_of_append cmp config vote prev (map entry.id_of es) m ≡ None → (rejects_vote cmp m.core.state vote ≡ false → AppendFits cmp entry (update_vote cmp entry config vote now m).core.state prev es)
      → PendingIn cmp entry entries_in t (handle_append_entries cmp entry config vote prev es token now m)
  unfolding handle_append_entries
  pending_handle_append t vote prev es token now m p h asks f =
      let done : Machine C NID N E D R S = append_entries cmp entry config vote prev es now m in
      let q : PendingIn cmp entry entries_in t done = pending_append_entries t vote prev es now m p h asks f in
      record { core = pending_replied t token (append_response (append_answer cmp entry config vote prev now m)) done.core q.core; knows = q.knows }

  -- a leader's committed id
  pub pending_handle_commit : (t : Store NID N E) (x : Option (LogId NID)) (m : Machine C NID N E D R S) → PendingIn cmp entry entries_in t m → IfSome (commit_target cmp m.core.state x) (CommitFits cmp m.core.state)
      → PendingIn cmp entry entries_in t (handle_commit_entries cmp entry config x m)
  unfolding handle_commit_entries commit_entries
  pending_handle_commit t x m p f = record {
    core = pending_commit_entries cmp entry entries_in config t x m.core p.core f;
    knows = subst (λ ids. IfSome m.leader (KnowsLog ids)) (sym (commit_by_ids cmp config [] (commit_target cmp m.core.state x) m.core)) p.knows;
  }
