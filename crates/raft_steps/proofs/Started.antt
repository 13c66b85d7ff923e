-- What a leader has left when it leads again after a start, and what holds of an engine that starts.
use Rattle.std.proofs.Common.{◌≡◌, sym, refl, ap, subst, ℕ, suc, ◌+◌, ◌^◌, ◌<◌, Bool, true, false, List, [], ◌∷◌, map, length, Option, None, Some, lit<, lit≤, cond, inl, inr}
use Rattle.std.specs.Prelude.{All, IfSome, find, not, ◌==◌, if◌then◌else◌}
use Rattle.std.specs.List.{AllByRecursion}
use Rattle.std.specs.Ordering.{is_eq, is_lt, is_ge}
use Rattle.std.specs.Cmp.{IsTotalOrder}
use Rattle.std.proofs.lemmas.List.Elements.{All-nil, All-cons, All-head, All-tail}
use Rattle.std.specs.declared.cmp.Ordering.{Ordering}
use Rattle.std.specs.declared.cmp.Ordering.TheVariants.{Equal}
use Rattle.raft_state.specs.declared.config.RaftEntry
use Rattle.raft_state.specs.declared.ids.LogId.{LogId}
use Rattle.raft_state.specs.declared.membership.StoredMembership.{StoredMembership}
use Rattle.raft_state.specs.declared.state.RaftState.{RaftState}
use Rattle.raft_state.specs.Fits.{fits}
use Rattle.raft_state.specs.Invariants.{IsSoundState}
use Rattle.raft_state.specs.Log.{last, at}
use Rattle.raft_state.specs.Order.{last_id_cmp, leader_id_cmp, next}
use Rattle.raft_state.specs.State.{by_last_leader, is_found, is_leader}
use Rattle.raft_state.proofs.LogLists.{Has, each_map}
use Rattle.raft_state.proofs.StateLaws.{is_found_at}
use Rattle.raft_proposer.specs.raft_progress.Quorum.{is_quorum}
use Rattle.raft_proposer.specs.raft_progress.Table.{get, row_of, with_value}
use Rattle.raft_progress_entry.specs.declared.entry.ProgressEntry.{ProgressEntry}
use Rattle.raft_command.specs.declared.config.EngineConfig.{EngineConfig}
use Rattle.raft_steps.specs.Refusals.{is_counter_end, is_counter_end_among, refusals_of_counter, refusals_of_lead, refusals_of_spent}
use Rattle.raft_steps.specs.Invariants.{IsSound, LeaderFits}
use Rattle.raft_proposer.specs.Leader.{leader_in, granted_id}
use Rattle.raft_steps.specs.LeaderHandler.{leader_append_entries, proposed, joined, last_proposed}
use Rattle.raft_steps.specs.Parts.{Core, Led, Machine, led_of, under, on_leader, on_core}
use Rattle.raft_proposer.specs.Joint.{JointLeader}
use Rattle.raft_steps.specs.ReplicationHandler.{initiate_replication, rebuild_replication_streams, rebuild_progresses, append_membership_led, update_local_progress, try_commit_quorum_accepted, commit_granted, own_matched, with_entry}
use Rattle.raft_steps.specs.Room.{HasRoom, MayLead}
use Rattle.raft_steps.specs.Sending.{CanSend, MaySend}
use Rattle.raft_steps.specs.ServerStateHandler.{update_role}
use Rattle.raft_steps.specs.Starts.{lead_on, startup, leader_step_down, is_settled, refusals_of_startup, refusals_of_step_down}
use Rattle.raft_steps.specs.VoteHandler.{begin_lead, lead_anew, become_leader, update_internal_server_state}
use Rattle.raft_steps.proofs.Counted.{counted_once, counted_seq, nearer}
use Rattle.raft_steps.proofs.Kept.{TakesIds, either, commit_by_case}
use Rattle.raft_steps.proofs.KeptAppend.{has_at}
use Rattle.raft_steps.proofs.KeptCommit.{local_is_sound}
use Rattle.raft_steps.proofs.KeptEngine.{internal_is_sound, initiate_is_sound}
use Rattle.raft_steps.proofs.Leads.{fresh_may, fresh_room, anew_room}
use Rattle.raft_steps.proofs.Proposing.{proposed_may, joined_may, fewer_may}
use Rattle.raft_steps.proofs.Room.{last_each, log_end}
use Rattle.raft_steps.proofs.Sending.{rebuilt_may, initiated_may, same_may}
use Rattle.raft_steps.proofs.Unrefused.{neither, test_fails, second_fails}

both : {X : Type 0} (P : X → Type 0) (b : Bool) (x y : X) → (b ≡ true → P x) → (b ≡ false → P y) → P (if b then x else y)
both P true x y p q = p refl
both P false x y p q = q refl

module _ {NID : Type 0} where
  -- each id of a list is one of it
  self_has : (ids : List (LogId NID)) → AllByRecursion (λ y. Has y ids) ids
  self_has [] = tt
  self_has (x ∷ xs) = (inl refl, each_map (λ y. Has y xs) (λ y. Has y (x ∷ xs)) (λ y h. inr h) xs (self_has xs))

module _ {C NID N E D R S : Type 0} (cmp : NID → NID → Ordering) (entry : RaftEntry.Ghosts E NID N) (config : EngineConfig NID) where
  -- the last sequence number stays where a leader proposes
  joined_seq : (m : Option (StoredMembership NID N)) (l : Led C NID N E D R S) → (joined cmp config m l).core.output.seq ≡ l.core.output.seq
  unfolding append_membership_led initiate_replication rebuild_replication_streams rebuild_progresses
  joined_seq None l = refl
  joined_seq (Some m) l = refl

  append_seq : (es : List E) (l : Led C NID N E D R S) → (leader_append_entries cmp entry config es l).core.output.seq ≡ l.core.output.seq
  unfolding leader_append_entries proposed initiate_replication
  append_seq es l =
      either (λ (q : Led C NID N E D R S). q.core.output.seq ≡ l.core.output.seq) (length es == 0) _ _ refl
      (joined_seq (last_proposed entry l.leader es) (proposed entry es l))

  -- and where it begins to lead
  pub begin_seq : (l : Led C NID N E D R S) → (begin_lead cmp entry config l).core.output.seq ≡ l.core.output.seq
  unfolding begin_lead update_role rebuild_replication_streams
  begin_seq l =
      either (λ (q : Led C NID N E D R S). q.core.output.seq ≡ l.core.output.seq) (is_lt (last_id_cmp cmp l.leader.last_log_id (Some l.leader.noop_log_id))) _ _
      (append_seq (entry.blank l.leader.noop_log_id ∷ []) (rebuild_replication_streams cmp config (under (update_role cmp config) l))) refl

module _ {C NID N E D R S : Type 0} (cmp : NID → NID → Ordering) (entry : RaftEntry.Ghosts E NID N) (named : TakesIds entry) (config : EngineConfig NID) where
  -- a leader that proposes sends twice at most
  append_may : (k : ℕ) (es : List E) (l : Led C NID N E D R S) → suc (suc k) < 2 ^ 64 → next l.leader.last_log_id + length es < 2 ^ 64 → MaySend (suc (suc k)) l
      → MaySend k (leader_append_entries cmp entry config es l)
  unfolding leader_append_entries
  append_may k es l b room h =
      either (MaySend k) (length es == 0) _ _ (fewer_may k l (fewer_may (suc k) l h))
      (initiated_may cmp config false k _ _ refl
      (joined_may cmp config (suc k) (last_proposed entry l.leader es) (proposed entry es l) _ refl b
      (proposed_may entry (λ e id. (named e id).0) (suc (suc k)) es l _ refl room h)))

  begin_may : (l : Led C NID N E D R S) → MaySend 3 l → (is_lt (last_id_cmp cmp l.leader.last_log_id (Some l.leader.noop_log_id)) ≡ true → next l.leader.last_log_id + 1 < 2 ^ 64)
      → MaySend 1 (begin_lead cmp entry config l)
  unfolding begin_lead update_role rebuild_replication_streams
  begin_may l h room =
      let settled : Led C NID N E D R S = under (update_role cmp config) l in
      let led = rebuild_replication_streams cmp config settled in
      let may : MaySend 3 led = rebuilt_may cmp config 3 settled led refl (same_may 3 l settled refl refl h) in
      both (MaySend 1) (is_lt (last_id_cmp cmp l.leader.last_log_id (Some l.leader.noop_log_id))) _ _
      (λ e. append_may 1 (entry.blank l.leader.noop_log_id ∷ []) led (lit< tt) (room e) may)
      (λ e. fewer_may 1 led (fewer_may 2 led may))

  -- an engine's leader, where there is one, may send, and there are numbers for a commit and a snapshot
  abbrev pub CanLeadOn : Machine C NID N E D R S → Type 0
  CanLeadOn n = IfSome n.leader (λ l. MaySend 1 (led_of l n.core.state n.core.output)) × (n.core.output.seq + 2 < 2 ^ 64)

  anew_can : (m : Machine C NID N E D R S) → next (last m.core.state.ids) < 2 ^ 64 → HasRoom cmp m.core.state.vote m.core.state → m.core.output.seq + 2 < 2 ^ 64
      → CanLeadOn (lead_anew cmp entry config m)
  unfolding lead_anew
  anew_can m end room seq =
      let s = m.core.state in
      let l : JointLeader C NID N E D R S = leader_in cmp s.vote s.em.membership (by_last_leader cmp s.ids) in
      let led : Led C NID N E D R S = record { leader = l; core = m.core } in (
        begin_may led (fresh_may cmp 3 l s m.core.output s.vote s.em.membership (by_last_leader cmp s.ids) refl end (lit< tt)) (fresh_room cmp l s refl room),
        subst (λ k. k + 2 < 2 ^ 64) (sym (begin_seq cmp entry config led)) seq,
      )

  -- a node that is leader by its vote, whose numbers are far from their end, can lead on
  leads_can : (m : Machine C NID N E D R S) → is_leader cmp m.core.state config.id ≡ true → MayLead cmp config m.core.state.vote m.core.state.em.membership m.core.state.ids m.leader
      → is_counter_end m ≡ false → IsSound cmp config m → CanLeadOn (become_leader cmp entry config m)
  unfolding become_leader update_role
  leads_can m leads may far h = go m.leader may far h.lead.leader_fits where
    end : next (last m.core.state.ids) < 2 ^ 64
    end = log_end cmp m.core.state h.sound

    seq_of : (rows : List (NID × ProgressEntry NID)) → is_counter_end_among m.core rows ≡ false → m.core.output.seq + 2 < 2 ^ 64
    seq_of rows e = nearer m.core.output.seq 2 (lit≤ tt) (counted_seq m.core rows e)

    go : (o : Option (JointLeader C NID N E D R S)) → MayLead cmp config m.core.state.vote m.core.state.em.membership m.core.state.ids o
        → is_counter_end_among m.core (elim o [ None ↦ [] | Some l ↦ l.progress.rows ]) ≡ false
        → IfSome o (LeaderFits cmp config.id m.core.state.ids m.core.state.purged m.core.state.em.membership)
        → CanLeadOn (elim o [
          | None ↦ lead_anew cmp entry config m
          | Some l ↦
              (if is_eq (leader_id_cmp cmp l.vote.leader_id m.core.state.vote.leader_id)
              then on_core (update_role cmp config) (record m { leader = Some (record l { vote = m.core.state.vote }) })
              else lead_anew cmp entry config m)
        ])
    go None may far f = anew_can m end (anew_room {C = C} {E = E} {D = D} {R = R} {S = S} cmp config m.core.state None leads refl may) (seq_of [] far)
    go (Some l) may far f =
        let seq = seq_of l.progress.rows far in
        both CanLeadOn (is_eq (leader_id_cmp cmp l.vote.leader_id m.core.state.vote.leader_id)) _ _
        (λ e. (same_may 1 (led_of l m.core.state m.core.output) _ refl refl (counted_once cmp config (led_of l m.core.state m.core.output) (record { sound = h.sound; leader_fits = f }) far), seq))
        (λ e. anew_can m end (anew_room cmp config m.core.state (Some l) leads (ap not e) may) seq)

  -- the same of the engine that it is then
  pub can_lead_on : (m n : Machine C NID N E D R S) → n ≡ update_internal_server_state cmp entry config m → is_leader cmp m.core.state config.id ≡ true
      → MayLead cmp config m.core.state.vote m.core.state.em.membership m.core.state.ids m.leader → is_counter_end m ≡ false → IsSound cmp config m → CanLeadOn n
  unfolding update_internal_server_state
  can_lead_on m n e leads may far h = rw (e, leads) (leads_can m leads may far h)

module _ {NID : Type 0} (cmp : NID → NID → Ordering) where
  row_can : (k : ℕ) (id : NID) (rows : List (NID × ProgressEntry NID)) → All (CanSend k) rows → IfSome (row_of cmp id rows) (λ (e : ProgressEntry NID). e.last_inflight_id + k < 2 ^ 64)
  row_can k id [] h = tt
  row_can k id (row ∷ rows) h = go (is_eq (cmp id row.0)) (row_can k id rows (All-tail (CanSend k) row rows h)) where
    go : (b : Bool) → IfSome (row_of cmp id rows) (λ (e : ProgressEntry NID). e.last_inflight_id + k < 2 ^ 64)
        → IfSome (elim (cond b (Some row) (find (λ r. is_eq (cmp id r.0)) rows)) [ None ↦ None | Some q ↦ Some q.1 ]) (λ (e : ProgressEntry NID). e.last_inflight_id + k < 2 ^ 64)
    go true j = (All-head (CanSend k) row rows h).0
    go false j = j

  valued_can : (k : ℕ) (id : NID) (v : ProgressEntry NID) (rows : List (NID × ProgressEntry NID)) → (v.last_inflight_id + k < 2 ^ 64) → next v.matching < 2 ^ 64 → All (CanSend k) rows
      → All (CanSend k) (map (with_value cmp id v) rows)
  valued_can k id v [] a b h = All-nil (CanSend k)
  valued_can k id v (row ∷ rows) a b h =
      All-cons (CanSend k) (with_value cmp id v row) (map (with_value cmp id v) rows)
      (either (CanSend k) (is_eq (cmp id row.0)) (row.0, v) row (a, b) (All-head (CanSend k) row rows h))
      (valued_can k id v rows a b (All-tail (CanSend k) row rows h))

module _ {C NID N E D R S : Type 0} (cmp : NID → NID → Ordering) (total : IsTotalOrder cmp) (same : (a b : NID) → cmp a b ≡ Equal → a ≡ b) (config : EngineConfig NID) where
  -- a commit leaves the log
  commit_ids : (x : Option (LogId NID)) (c : Core C NID N E D R S) → (try_commit_quorum_accepted cmp config x c).state.ids ≡ c.state.ids
  unfolding try_commit_quorum_accepted
  commit_ids None c = refl
  commit_ids (Some x) c =
      either (λ (n : Core C NID N E D R S). n.state.ids ≡ c.state.ids) (is_eq (leader_id_cmp cmp x.leader_id c.state.vote.leader_id)) _ _
      (commit_by_case cmp total same config (λ (n : Core C NID N E D R S). n.state.ids ≡ c.state.ids) _ x c (λ e. refl) (λ e cm building q. refl)) refl

  -- a leader that notes its own log may send as often as before
  pub local_may : (k : ℕ) (x : Option (LogId NID)) (l n : Led C NID N E D R S) → n ≡ update_local_progress cmp config x l → next x < 2 ^ 64 → MaySend k l → MaySend k n
  unfolding update_local_progress
  local_may k None l n e end h = rw e h
  local_may k (Some x) l n e end h = rw e (go (get cmp l.leader.progress config.id) (row_can cmp k config.id l.leader.progress.rows h.rows)) where
    taken : (v : ProgressEntry NID) → v.last_inflight_id + k < 2 ^ 64 → MaySend k (commit_granted cmp config (with_entry cmp l config.id (own_matched cmp (Some x) v)))
    taken v a = record {
      rows = valued_can cmp k config.id (own_matched cmp (Some x) v) l.leader.progress.rows a end h.rows;
      log = subst (λ ids. next (last ids) < 2 ^ 64) (sym (commit_ids (granted_id cmp (is_quorum cmp) (with_entry cmp l config.id (own_matched cmp (Some x) v)).leader) l.core)) h.log;
    }

    go : (o : Option (ProgressEntry NID)) → IfSome o (λ (v : ProgressEntry NID). v.last_inflight_id + k < 2 ^ 64)
        → MaySend k (elim o [
          | None ↦ l
          | Some v ↦ (if is_ge (last_id_cmp cmp v.matching (Some x)) then l else commit_granted cmp config (with_entry cmp l config.id (own_matched cmp (Some x) v)))
        ])
    go None a = h
    go (Some v) a = either (MaySend k) (is_ge (last_id_cmp cmp v.matching (Some x))) _ _ h (taken v a)

module _ {NID N : Type 0} (cmp : NID → NID → Ordering) (total : IsTotalOrder cmp) (same : (a b : NID) → cmp a b ≡ Equal → a ≡ b) where
  -- the last id fits its log
  last_fits : (s : RaftState NID N) → IsSoundState cmp s → fits cmp s.ids s.purged (last s.ids) ≡ true
  last_fits s h = go (last s.ids) (last_each (λ y. Has y s.ids) s.ids (self_has s.ids)) where
    go : (o : Option (LogId NID)) → IfSome o (λ y. Has y s.ids) → fits cmp s.ids s.purged o ≡ true
    go None k = refl
    go (Some x) k =
        let e : is_found cmp (at s.ids x.index) x ≡ true = is_found_at cmp total same s.ids x (at s.ids x.index) (has_at _ x s.ids h.log.run k) in
        rw e refl

module _ {C NID N E D R S : Type 0} (cmp : NID → NID → Ordering) (total : IsTotalOrder cmp) (same : (a b : NID) → cmp a b ≡ Equal → a ≡ b) (entry : RaftEntry.Ghosts E NID N) (named : TakesIds entry) (config : EngineConfig NID) where
  -- a leader that starts has its whole log, and sends what comes next
  lead_on_is_sound : (m : Machine C NID N E D R S) → IsSound cmp config m → IsSound cmp config (on_leader (lead_on cmp config) m)
  lead_on_is_sound m h =
      let x = last m.core.state.ids in
      let noted : Machine C NID N E D R S = on_leader (update_local_progress cmp config x) m in
      twice m.leader (initiate_is_sound cmp total same config false noted (local_is_sound cmp total same config x m (last_fits cmp total same m.core.state h.sound) h)) where
        twice : (o : Option (JointLeader C NID N E D R S))
            → IsSound cmp config (on_leader (initiate_replication cmp config false) (on_leader (update_local_progress cmp config (last m.core.state.ids)) (record m { leader = o })))
            → IsSound cmp config (on_leader (lead_on cmp config) (record m { leader = o }))
        twice None k = k
        twice (Some l) k = k

  -- a node that starts
  pub startup_is_sound : (m : Machine C NID N E D R S) → refusals_of_startup cmp config m ≡ None → IsSound cmp config m → IsSound cmp config (startup cmp entry config m)
  unfolding startup
  startup_is_sound m asks h =
      let full = (test_fails _ _ _ (neither (refusals_of_counter m) _ asks).1).0 in
      either (IsSound cmp config) (is_leader cmp m.core.state config.id) _ _
      (lead_on_is_sound _ (internal_is_sound cmp total same entry named config m full h))
      (record { sound = h.sound; lead = h.lead })

  -- a leader that steps down once its membership is committed
  pub step_down_is_sound : (m : Machine C NID N E D R S) → refusals_of_step_down cmp config m ≡ None → IsSound cmp config m → IsSound cmp config (leader_step_down cmp entry config m)
  unfolding leader_step_down
  step_down_is_sound m asks h = go (is_settled cmp m.core.state) asks where
    go : (b : Bool) → (if b then refusals_of_lead cmp config m else refusals_of_spent m) ≡ None → IsSound cmp config (if b then update_internal_server_state cmp entry config m else m)
    go true a = internal_is_sound cmp total same entry named config m (second_fails _ _ _ _ _ a) h
    go false a = h
