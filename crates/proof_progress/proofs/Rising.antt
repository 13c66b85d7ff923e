-- What a leader has committed only rises, as it handles answers and failures.
use Rattle.std.proofs.Common.{ℕ, zero, suc, ◌≡◌, true, List, [], ◌∷◌, sym, subst, Option, None, Some, Result, Ok, Err}
use Rattle.std.specs.Cmp.{IsTotalOrder}
use Rattle.std.specs.declared.cmp.Ordering.{Ordering}
use Rattle.std.specs.declared.cmp.Ordering.TheVariants.{Equal}
use Rattle.std.specs.Ordering.{is_eq, is_gt, is_le}
use Rattle.proof_deeds.specs.raft_state.declared.ids.LogId.{LogId}
use Rattle.proof_deeds.specs.raft_state.declared.state.RaftState.{RaftState}
use Rattle.proof_deeds.specs.raft_state.Order.{last_id_cmp, leader_id_cmp}
use Rattle.proof_deeds.proofs.raft_state_proofs.Orders.{last_total, le_refl, le_trans, lt_is_le, lt_of_gt}
use Rattle.proof_deeds.specs.raft_progress_entry.declared.entry.ProgressEntry.{ProgressEntry}
use Rattle.proof_deeds.specs.raft_progress_entry.Entry.{conflicted, matched, silenced}
use Rattle.proof_deeds.specs.raft_progress.Quorum.{is_quorum}
use Rattle.proof_deeds.specs.raft_progress.Table.{get}
use Rattle.proof_deeds.specs.raft_command.declared.command.Command.TheVariants.{ReplicateCommitted}
use Rattle.proof_deeds.specs.raft_command.declared.config.EngineConfig.{EngineConfig}
use Rattle.proof_deeds.specs.raft_command.declared.replication.ReplicationResult.{ReplicationResult}
use Rattle.proof_deeds.specs.raft_command.declared.replication.RequestId.{RequestId}
use Rattle.proof_deeds.specs.raft_command.Replication.{number_of}
use Rattle.proof_deeds.specs.raft_proposer.Leader.{granted_id}
use Rattle.proof_deeds.specs.raft_steps.LogHandler.{is_target_inflight, purge_log, try_purge_log}
use Rattle.proof_deeds.specs.raft_steps.Parts.{Core, Led}
use Rattle.proof_deeds.specs.raft_steps.Replies.{on_entry, purge_unless_inflight, send_next, take_reply, update_conflicting, update_failed_progress, update_leader_clock, update_matching, update_progress, update_success_progress}
use Rattle.proof_deeds.specs.raft_steps.ReplicationHandler.{try_commit_quorum_accepted}
use Rattle.proof_deeds.proofs.raft_steps_proofs.Kept.{commit_by_case, either, either_option}
use Rattle.proof_deeds.proofs.raft_steps_proofs.LawsReply.{entry_core}
use Rattle.proof_progress.specs.Proposals.{Fails, Replicated, ReplicatedTo}
use Rattle.proof_progress.specs.Replication.{Handles, Rounds, request_of}
use Rattle.proof_progress.proofs.LedQueue.{purged_committed}

module _ {NID N : Type 0} (cmp : NID → NID → Ordering) where
  -- what is committed is no less than before
  abbrev Rises : RaftState NID N → RaftState NID N → Type 0
  Rises s t = is_le (last_id_cmp cmp s.committed t.committed) ≡ true

module _ {NID N : Type 0} (cmp : NID → NID → Ordering) (total : IsTotalOrder cmp) where
  rises_self : (s : RaftState NID N) → Rises cmp s s
  rises_self s = le_refl (last_total cmp total) s.committed

  rises_then : (s t u : RaftState NID N) → Rises cmp s t → Rises cmp t u → Rises cmp s u
  rises_then s t u h k = le_trans (last_total cmp total) s.committed t.committed u.committed h k

module _ {C NID N E D R S : Type 0} (cmp : NID → NID → Ordering) (total : IsTotalOrder cmp) (same : (a b : NID) → cmp a b ≡ Equal → a ≡ b) (config : EngineConfig NID) where
  granted_rises : (o : Option (LogId NID)) (c : Core C NID N E D R S) → Rises cmp c.state (try_commit_quorum_accepted cmp config o c).state
  unfolding try_commit_quorum_accepted
  granted_rises None c = rises_self cmp total c.state
  granted_rises (Some x) c =
      either (λ (d : Core C NID N E D R S). Rises cmp c.state d.state) (is_eq (leader_id_cmp cmp x.leader_id c.state.vote.leader_id)) _ _
      (commit_by_case cmp total same config (λ (d : Core C NID N E D R S). Rises cmp c.state d.state) (ReplicateCommitted (Some x) ∷ []) x c (λ e. rises_self cmp total c.state)
      (λ e cm building q. lt_is_le _ (lt_of_gt (last_total cmp total) (Some x) c.state.committed e)))
      (rises_self cmp total c.state)

  entry_rises : (target : NID) (f : ProgressEntry NID → ProgressEntry NID) (l : Led C NID N E D R S) → Rises cmp l.core.state (on_entry cmp target f l).core.state
  entry_rises target f l = subst (λ (c : Core C NID N E D R S). Rises cmp l.core.state c.state) (sym (entry_core cmp target f l)) (rises_self cmp total l.core.state)

  matching_rises : (target : NID) (x : Option (LogId NID)) (l : Led C NID N E D R S) → Rises cmp l.core.state (update_matching cmp config target x l).core.state
  unfolding update_matching
  matching_rises target x l =
      let put : Led C NID N E D R S = on_entry cmp target (λ e. matched cmp e x) l in
      rises_then cmp total l.core.state put.core.state (try_commit_quorum_accepted cmp config (granted_id cmp (is_quorum cmp) put.leader) put.core).state (entry_rises target (λ e. matched cmp e x) l) (granted_rises (granted_id cmp (is_quorum cmp) put.leader) put.core)

  success_rises : (target : NID) (id : RequestId) (answer : ReplicationResult NID) (l : Led C NID N E D R S) → Rises cmp l.core.state (update_success_progress cmp config target id answer l).core.state
  unfolding update_success_progress update_leader_clock update_conflicting
  success_rises target id answer l = go answer.result (number_of id)
    where
      clocked : Led C NID N E D R S
      clocked = update_leader_clock cmp target answer.sending_time l

      go : (r : Result (Option (LogId NID)) (LogId NID)) (number : Option ℕ) → (let n = (elim r as (λ _. Led C NID N E D R S) [
        | Ok x ↦ elim number [ None ↦ clocked | Some _ ↦ update_matching cmp config target x clocked ]
        | Err x ↦ update_conflicting cmp target number x clocked
      ]) in Rises cmp l.core.state n.core.state)
      go (Ok x) None = rises_self cmp total l.core.state
      go (Ok x) (Some number) = matching_rises target x clocked
      go (Err x) number = entry_rises target (λ e. conflicted e number x.index) clocked

  reply_rises : {T : Type 0} (target : NID) (id : RequestId) (reply : Result (ReplicationResult NID) T) (l : Led C NID N E D R S) → Rises cmp l.core.state (take_reply cmp config target id reply l).core.state
  unfolding update_failed_progress
  reply_rises target id (Ok answer) l = success_rises target id answer l
  reply_rises target id (Err _) l = either_option (λ (n : Led C NID N E D R S). Rises cmp l.core.state n.core.state) (number_of id) l _ (rises_self cmp total l.core.state) (λ number. entry_rises target silenced l)

  purge_rises : (l : Led C NID N E D R S) → Rises cmp l.core.state (purge_unless_inflight cmp l).core.state
  unfolding purge_unless_inflight try_purge_log purge_log
  purge_rises l =
      either (λ (c : Core C NID N E D R S). Rises cmp l.core.state c.state) (is_target_inflight cmp l.leader.progress.rows l.core.state) l.core (purge_log cmp l.core) (rises_self cmp total l.core.state)
      (either_option (λ (c : Core C NID N E D R S). Rises cmp l.core.state c.state) l.core.state.purge_to l.core _ (rises_self cmp total l.core.state)
      (λ upto. either (λ (c : Core C NID N E D R S). Rises cmp l.core.state c.state) (is_gt (last_id_cmp cmp (Some upto) l.core.state.purged)) _ l.core
      (subst (λ o. is_le (last_id_cmp cmp l.core.state.committed o) ≡ true) (sym (purged_committed cmp l.core.state upto)) (rises_self cmp total l.core.state)) (rises_self cmp total l.core.state)))

  progress_rises : {T : Type 0} (target : NID) (id : RequestId) (reply : Result (ReplicationResult NID) T) (l : Led C NID N E D R S) → Rises cmp l.core.state (update_progress cmp config target id reply l).core.state
  unfolding update_progress send_next
  progress_rises target id reply l =
      let taken : Led C NID N E D R S = take_reply cmp config target id reply l in
      let left : Led C NID N E D R S = purge_unless_inflight cmp taken in
      rises_then cmp total l.core.state left.core.state (send_next cmp config target left).core.state (rises_then cmp total l.core.state taken.core.state left.core.state (reply_rises target id reply l) (purge_rises taken))
      (either_option (λ (n : Led C NID N E D R S). Rises cmp left.core.state n.core.state) (get cmp left.leader.progress target) left _ (rises_self cmp total left.core.state) (λ e. rises_self cmp total left.core.state))

  rounds_rise : (target : NID) (k : ℕ) (old new : Led C NID N E D R S) → Rounds cmp config target k old new → Rises cmp old.core.state new.core.state
  rounds_rise target zero old new r = subst (λ (l : Led C NID N E D R S). Rises cmp old.core.state l.core.state) (sym r) (rises_self cmp total old.core.state)
  rounds_rise target (suc k) old new r =
      let h : Handles cmp config target old r.0 = r.1 in
      rises_then cmp total old.core.state r.0.core.state new.core.state
      (subst (λ (s : RaftState NID N). Rises cmp old.core.state s) (sym h.state) (progress_rises {T = Unit {0}} target (request_of h.asked.entry.inflight) (Ok (record { sending_time = h.time; result = h.result })) old)) (rounds_rise target k r.0 new r.2)

  replicated_rises : (target : NID) (old new : Led C NID N E D R S) → Replicated cmp config target old new → Rises cmp old.core.state new.core.state
  replicated_rises target old new r =
      let f : Fails cmp config target old r.begun = r.failed in
      rises_then cmp total old.core.state r.begun.core.state new.core.state
      (subst (λ (s : RaftState NID N). Rises cmp old.core.state s) (sym f.state) (progress_rises {T = Unit {0}} target f.request (Err tt) old)) (rounds_rise target r.count r.begun new r.rounds)

  pub all_rise : (ts : List NID) (old new : Led C NID N E D R S) → ReplicatedTo cmp config ts old new → Rises cmp old.core.state new.core.state
  all_rise [] old new r = subst (λ (l : Led C NID N E D R S). Rises cmp old.core.state l.core.state) (sym r) (rises_self cmp total old.core.state)
  all_rise (t ∷ ts) old new r = rises_then cmp total old.core.state r.0.core.state new.core.state (replicated_rises t old r.0 r.1) (all_rise ts r.0 new r.2)
