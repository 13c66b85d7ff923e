-- What else holds of an engine: its committed membership was decided, or is at or below its committed index, or is the
-- first entry's. Each call keeps it.
use Rattle.std.proofs.Common.{ℕ, ◌<◌, ◌≤◌, ◌≡◌, inl, inr, ⊎_elim, true, List, [], ◌∷◌, length, arith, refl, sym, ap, subst, Option, None, Some}
use Rattle.std.specs.Prelude.{IfSome, if◌then◌else◌}
use Rattle.std.specs.Ordering.{is_eq, is_ge, is_le, nat_cmp}
use Rattle.std.proofs.lemmas.Bool.{both_ways, cases_lt, cond_both}
use Rattle.std.proofs.lemmas.Cmp.{nat_cmp_total}
use Rattle.raft_node.specs.raft_state.declared.ids.LogId.{LogId}
use Rattle.raft_node.specs.raft_state.Fits.{fits}
use Rattle.raft_node.specs.raft_state.Log.{at}
use Rattle.raft_node.specs.raft_state.Order.{next, last_id_cmp, leader_id_cmp}
use Rattle.raft_node.specs.raft_state.Policy.{should_snapshot}
use Rattle.raft_node.specs.raft_state.Same.{nat_same}
use Rattle.raft_node.specs.raft_state.State.{commit, commits, settle}
use Rattle.raft_node.proofs.raft_state_proofs.Orders.{last_total, lt_not_ge}
use Rattle.raft_node.specs.raft_progress_entry.declared.entry.ProgressEntry.{ProgressEntry}
use Rattle.raft_node.specs.raft_progress.Quorum.{is_quorum}
use Rattle.raft_node.specs.raft_progress.Table.{get}
use Rattle.raft_node.specs.raft_command.Push.{ordered as ordered_payload, committed_upto}
use Rattle.raft_node.specs.raft_command.Queue.{queued}
use Rattle.raft_node.specs.raft_command.declared.command.Command.TheVariants as command
use Rattle.raft_node.specs.raft_command.declared.config.EngineConfig.{EngineConfig}
use Rattle.raft_node.specs.raft_command.declared.sm.CommandPayload.TheVariants as payload
use Rattle.raft_node.specs.raft_steps.Commit.{commit_by}
use Rattle.raft_node.specs.raft_steps.Invariants.{EntryFits, IsSoundLed, LeaderFits}
use Rattle.raft_node.specs.raft_proposer.Leader.{granted_id}
use Rattle.raft_node.specs.raft_steps.Parts.{led_of}
use Rattle.raft_node.specs.raft_steps.ReplicationHandler.{commit_granted, own_matched, try_commit_quorum_accepted, update_local_progress, with_entry}
use Rattle.raft_node.specs.raft_steps.SnapshotHandler.{trigger_snapshot, snapshot_where_due}
use Rattle.raft_node.proofs.raft_steps_proofs.EntryLaws.{fits_end, own_matched_fits}
use Rattle.raft_node.proofs.raft_steps_proofs.KeptCommit.{entry_kept, granted_fits, row_each}
use Rattle.proof_agreement.specs.Machine.{Setup, start}
use Rattle.proof_agreement.specs.Stores.{whole, entry_at}
use Rattle.proof_agreement.proofs.StoresBridge.{ids_rise}
use Rattle.raft_node.specs.raft_store.declared.entry.Entry.{Entry}
use Rattle.raft_node.specs.raft_store.Entries.{entry_meaning}
use Rattle.raft_node.specs.raft_store.Types.{WorldStore, WorldCommand, WorldLeader, WorldMachine}
use Rattle.proof_mirror.specs.Ready.{CommitFits, InStep}
use Rattle.proof_mirror.proofs.Shape.{shape_of}
use Rattle.proof_mirror.proofs.Sound.{all_fit}
use Rattle.raft_node.specs.declared.node.Turn.{Turn}
use Rattle.raft_node.specs.raft_calls.Feeds.{WorldLed}
use Rattle.proof_deeds.specs.Chains.{Does, left_by}
use Rattle.proof_deeds.specs.Follows.{StoreIs}
use Rattle.proof_deeds.specs.Images.{Ideal, number}
use Rattle.proof_deeds.specs.Knows.{Knows, Stands}
use Rattle.proof_deeds.proofs.AppendCommits.{id_below}
use Rattle.proof_deeds.proofs.AppendFitting.{Settled, SettledBy, Placed, both_stand_any, member_placed}
use Rattle.proof_deeds.proofs.AppendSettled.{decided_on}
use Rattle.proof_deeds.proofs.AppendTails.{at_whole, named_at}
use Rattle.proof_deeds.proofs.Appends.{follows_on_from}
use Rattle.proof_deeds.proofs.Calls.{WorldState}
use Rattle.proof_deeds.proofs.Pushes.{Tail, tail_of}
use Rattle.proof_deeds.proofs.Roles.{WorldCore}
use Rattle.proof_deeds.proofs.Worlds.{does_self, if_some}

module _ (s : Setup Entry) where
  abbrev SettledAt : Ideal → WorldState → LogId ℕ → Type 0
  SettledAt W st = SettledBy s W (number st.vote.leader_id) (next st.committed)

  pub kept_on : (W V : Ideal) (st : WorldState) → Does s W V → Settled s W st → Settled s V st
  kept_on W V st came h =
      if_some (SettledAt W st) (SettledAt V st)
      (λ x. ⊎_elim (λ d. inl (decided_on s W V (number st.vote.leader_id) (number st.vote.leader_id) x.index (number x.leader_id) came (omega arith) d)) (λ k. inr k)) st.cm.log_id h

  pub kept_same : (W : Ideal) (a z : WorldState) → z.cm ≡ a.cm → number a.vote.leader_id ≤ number z.vote.leader_id → z.committed ≡ a.committed → Settled s W a → Settled s W z
  kept_same W a z e l c h =
      subst (λ m. IfSome m.log_id (SettledAt W z)) (sym e)
      (if_some (SettledAt W a) (SettledAt W z)
      (λ x. ⊎_elim (λ d. inl (decided_on s W W (number a.vote.leader_id) (number z.vote.leader_id) x.index (number x.leader_id) (does_self s W) l d))
      (λ k. inr (let q : next z.committed ≡ next a.committed = ap next c in omega (arith, k, q)))) a.cm.log_id h)

  pub kept_unset : (W : Ideal) (st : WorldState) → st.cm.log_id ≡ None → Settled s W st
  kept_unset W st e = subst (λ o. IfSome o (SettledAt W st)) (sym e) tt

  module _ (t : Turn) (config : EngineConfig ℕ) (u : WorldStore) (W : Ideal) (m : WorldMachine) (h : Stands s t config u W m) where
    -- the effective membership is at or below an id that is committed, by index too
    top : (x y : LogId ℕ) → m.core.state.em.log_id ≡ Some x → at m.core.state.ids y.index ≡ Some y → next m.core.state.committed ≤ y.index → is_le (last_id_cmp nat_cmp (Some x) (Some y)) ≡ true → x.index ≤ y.index
    top x y f e l n =
        let st : WorldState = m.core.state in
        let T : WorldStore = left_by u m.core.output.items in
        let j : InStep entry_meaning T st = h.pending.core.in_step in
        let V : Ideal = h.carried.end in
        let z : Tail s t st.vote.leader_id u W m.core.output.items V = tail_of s t st.vote.leader_id u W m.core.output.items (Knows s t.id m) h.carried in
        let is : StoreIs s T (V.store t.id) = z.store in
        let p : Placed s (V.store t.id) x = member_placed s T (V.store t.id) st st.em is j (both_stand_any T st j).1 x f in
        let snap : length T.snap ≤ y.index = (let k : length T.snap ≤ next st.committed = (shape_of entry_meaning T st j.mirrors j.marks).settled in omega (arith, k, l)) in
        let yw : (y.index < length (whole (V.store t.id))) × ((entry_at s (whole (V.store t.id)) y.index).leader ≡ number y.leader_id) = at_whole s T (V.store t.id) st is j y.index y snap e in
        ⊎_elim
        (λ k. absurd (both_ways (is_le (last_id_cmp nat_cmp (Some x) (Some y)))
        (lt_not_ge (last_total nat_cmp nat_cmp_total) (Some y) (Some x)
        (id_below y x (named_at s T (V.store t.id) st is j y.index y snap e) p.named
        (let q : (entry_at s (whole (V.store t.id)) y.index).leader ≤ (entry_at s (whole (V.store t.id)) x.index).leader =
        ids_rise s (start s) V (follows_on_from s W V h.reached z.came) (whole (V.store t.id)) y.index x.index (inl (t.id, refl)) (omega (arith, k)) p.inside in omega (arith, q, yw.1, p.leader))
        k)) n))
        (λ k. k) (cases_lt y.index x.index)

    -- a commit keeps it
    commit_keeps : (y : LogId ℕ) → CommitFits nat_cmp m.core.state y → Settled s W m.core.state → Settled s W (commit nat_cmp m.core.state (Some y))
    commit_keeps y f k =
        cond_both (commits nat_cmp m.core.state (Some y)) (record (settle nat_cmp m.core.state (Some y)) { committed = Some y }) m.core.state (Settled s W)
        (λ g.
        cond_both (is_le (last_id_cmp nat_cmp m.core.state.em.log_id (Some y))) (record m.core.state { cm = m.core.state.em }) m.core.state (λ (z : WorldState). Settled s W (record z { committed = Some y }))
        (λ low. go m.core.state.em.log_id refl low (f g).0 (f g).1)
        (λ _. if_some (SettledAt W m.core.state) (SettledAt W (record m.core.state { committed = Some y })) (λ x. ⊎_elim (λ d. inl d) (λ q. inr (omega (arith, q, (f g).1)))) m.core.state.cm.log_id k))
        (λ _. k)
      where
        go : (o : Option (LogId ℕ)) → m.core.state.em.log_id ≡ o → is_le (last_id_cmp nat_cmp o (Some y)) ≡ true → at m.core.state.ids y.index ≡ Some y → next m.core.state.committed ≤ y.index
            → IfSome o (SettledAt W (record m.core.state { cm = m.core.state.em; committed = Some y }))
        go None e low a l = tt
        go (Some x) e low a l = inr (let q : x.index ≤ y.index = top x y e a l low in omega (arith, q))

    due_keeps : (c : WorldCore) → Settled s W c.state → Settled s W (snapshot_where_due config c).state
    unfolding snapshot_where_due trigger_snapshot
    due_keeps c k =
        cond_both (should_snapshot config.snapshot_policy c.state) (trigger_snapshot c) c (λ (z : WorldCore). Settled s W z.state)
        (λ _. cond_both c.state.building c (record { state = record c.state { building = true }; output = ordered_payload c.output payload.BuildSnapshot }) (λ (z : WorldCore). Settled s W z.state) (λ _. k) (λ _. k)) (λ _. k)

    pub commit_by_keeps : (cs : List WorldCommand) (o : Option (LogId ℕ)) → IfSome o (CommitFits nat_cmp m.core.state) → Settled s W m.core.state → Settled s W (commit_by nat_cmp config cs o m.core).state
    unfolding commit_by
    commit_by_keeps cs None f k = k
    commit_by_keeps cs (Some y) f k =
        cond_both (commits nat_cmp m.core.state (Some y)) (snapshot_where_due config (record { state = commit nat_cmp m.core.state (Some y); output = committed_upto (queued m.core.output cs) m.core.state.committed y })) m.core (λ (z : WorldCore). Settled s W z.state)
        (λ _. due_keeps (record { state = commit nat_cmp m.core.state (Some y); output = committed_upto (queued m.core.output cs) m.core.state.committed y }) (commit_keeps y f k)) (λ _. k)

    pub quorum_keeps : (o : Option (LogId ℕ)) → IfSome o (CommitFits nat_cmp m.core.state) → Settled s W m.core.state → Settled s W (try_commit_quorum_accepted nat_cmp config o m.core).state
    unfolding try_commit_quorum_accepted
    quorum_keeps None f k = k
    quorum_keeps (Some y) f k =
        cond_both (is_eq (leader_id_cmp nat_cmp y.leader_id m.core.state.vote.leader_id)) (commit_by nat_cmp config (command.ReplicateCommitted (Some y) ∷ []) (Some y) m.core) m.core (λ (z : WorldCore). Settled s W z.state)
        (λ _. commit_by_keeps (command.ReplicateCommitted (Some y) ∷ []) (Some y) f k) (λ _. k)

    -- what the leader's own log holds
    pub local_keeps : (x : Option (LogId ℕ)) (l : WorldLeader) → m.leader ≡ Some l → fits nat_cmp m.core.state.ids m.core.state.purged x ≡ true → Settled s W m.core.state
        → Settled s W (update_local_progress nat_cmp config x (led_of l m.core.state m.core.output)).core.state
    unfolding update_local_progress
    local_keeps None l e f k = k
    local_keeps (Some x) l e f k = go (get nat_cmp l.progress config.id) (row_each nat_cmp (EntryFits nat_cmp m.core.state.ids m.core.state.purged) config.id l.progress.rows sound.leader_fits.entries) where
      sound : IsSoundLed nat_cmp config (led_of l m.core.state m.core.output)
      sound = record { sound = h.sound.sound; leader_fits = subst (λ o. IfSome o (LeaderFits nat_cmp config.id m.core.state.ids m.core.state.purged m.core.state.em.membership)) e h.sound.lead.leader_fits }

      go : (r : Option (ProgressEntry ℕ)) → IfSome r (EntryFits nat_cmp m.core.state.ids m.core.state.purged) → (let n = (elim r as (λ _. WorldLed) [
        | None ↦ led_of l m.core.state m.core.output
        | Some e ↦ (if is_ge (last_id_cmp nat_cmp e.matching (Some x)) then led_of l m.core.state m.core.output else commit_granted nat_cmp config (with_entry nat_cmp (led_of l m.core.state m.core.output) config.id (own_matched nat_cmp (Some x) e)))
      ]) in Settled s W n.core.state)
      go None q = k
      go (Some r) q =
          let w : WorldLed = with_entry nat_cmp (led_of l m.core.state m.core.output) config.id (own_matched nat_cmp (Some x) r) in
          let z : IsSoundLed nat_cmp config w =
          entry_kept nat_cmp nat_cmp_total nat_same config config.id (own_matched nat_cmp (Some x) r) (led_of l m.core.state m.core.output)
          (own_matched_fits nat_cmp nat_cmp_total nat_same m.core.state.ids m.core.state.purged (Some x) r f (fits_end nat_cmp nat_cmp_total nat_same _ _ _ _ _ _ _ sound.sound (Some x) f) q) sound in
          cond_both (is_ge (last_id_cmp nat_cmp r.matching (Some x))) (led_of l m.core.state m.core.output) (commit_granted nat_cmp config w) (λ (n : WorldLed). Settled s W n.core.state)
          (λ _. k)
          (λ _. quorum_keeps (granted_id nat_cmp (is_quorum nat_cmp) w.leader) (all_fit nat_cmp nat_cmp_total nat_same m.core.state h.sound.sound (granted_id nat_cmp (is_quorum nat_cmp) w.leader) (granted_fits nat_cmp nat_cmp_total nat_same config w z)) k)
