-- How a leader handles replies.
use Rattle.std.proofs.Common.{ℕ, ◌≡◌, true, false, List, Option, Some, None, Result, Ok, Err}
use Rattle.std.specs.Prelude.{if◌then◌else◌, IfSome}
use Rattle.std.specs.declared.cmp.Ordering.{Ordering}
use Rattle.std.specs.declared.cmp.Ordering.TheVariants.{Equal}
use Rattle.std.specs.Ordering.{is_ge}
use Rattle.std.specs.Cmp.{IsTotalOrder}
use Rattle.std.proofs.lemmas.Bool.{cond_both}
use Rattle.raft_state.specs.declared.config.RaftEntry
use Rattle.raft_state.specs.declared.ids.LogId.{LogId}
use Rattle.raft_state.specs.Fits.{fits}
use Rattle.raft_state.specs.Order.{last_id_cmp}
use Rattle.raft_progress_entry.specs.Entry.{refusals_of_conflicted, next_send, sent, silenced, matched, conflicted}
use Rattle.raft_progress.specs.Quorum.{is_quorum}
use Rattle.raft_progress.specs.Table.{get}
use Rattle.raft_progress_entry.specs.declared.entry.ProgressEntry.{ProgressEntry}
use Rattle.raft_command.specs.Queue.{queued}
use Rattle.raft_command.specs.Replication.{number_of}
use Rattle.raft_command.specs.declared.config.EngineConfig.{EngineConfig}
use Rattle.raft_command.specs.declared.replication.ReplicationResult.{ReplicationResult}
use Rattle.raft_command.specs.declared.replication.RequestId.{RequestId}
use Rattle.raft_steps.specs.Invariants.{EntryFits, IsSoundLed}
use Rattle.raft_proposer.specs.Leader.{granted_id}
use Rattle.raft_steps.specs.Parts.{Core, Led, under}
use Rattle.raft_steps.specs.ReplicationHandler.{own_matched, send_commands, with_entry, commit_granted, update_local_progress}
use Rattle.raft_steps.specs.Replies.{on_entry, update_leader_clock, update_conflicting, update_failed_progress, purge_unless_inflight, update_matching, update_success_progress, send_next, take_reply, update_progress}
use Rattle.raft_steps.specs.ReplyRefusals.{refusals_of_entry, refusals_of_acknowledged, refusals_of_answer, refusals_of_result}
use Rattle.raft_steps.proofs.EntryLaws.{own_matched_fits, fits_end}
use Rattle.raft_steps.proofs.KeptCommit.{row_each, entry_kept, granted_fits, local_kept}
use Rattle.raft_steps.proofs.KeptPurge.{purge_unless_kept, progress_kept}
use Rattle.raft_steps.proofs.KeptReplies.{clock_kept, noted_kept, matching_kept, conflicting_kept, success_kept, reply_kept}
use Rattle.raft_store.specs.Store.{Store}
use Rattle.proof_mirror.specs.Ready.{Pending, PendingLed}
use Rattle.proof_mirror.proofs.Committing.{pending_quorum}
use Rattle.proof_mirror.proofs.Purging.{pending_try_purge}
use Rattle.proof_mirror.proofs.Queued.{after, awaits_idle}
use Rattle.proof_mirror.proofs.Sends.{next_there, sends_idle}
use Rattle.proof_mirror.proofs.Sound.{all_fit, led_knows}

module _ {C NID N E D R S : Type 0} (cmp : NID → NID → Ordering) (entry : RaftEntry.Ghosts E NID N) (entries_in : S → List E) where
  -- a moment of a target, which no command is queued for
  pub pending_clock : (t : Store NID N E) (target : NID) (time : ℕ) (l : Led C NID N E D R S) → PendingLed cmp entry entries_in t l → PendingLed cmp entry entries_in t (update_leader_clock cmp target time l)
  unfolding update_leader_clock
  pending_clock t target time l p = record { core = p.core; knows = record { end = p.knows.end; rows = p.knows.rows } }

module _ {C NID N E D R S : Type 0} (cmp : NID → NID → Ordering) (total : IsTotalOrder cmp) (same : (a b : NID) → cmp a b ≡ Equal → a ≡ b) (entry : RaftEntry.Ghosts E NID N) (entries_in : S → List E) (config : EngineConfig NID) where
  -- what a sound leader's table grants is committed
  granted_core : (t : Store NID N E) (l : Led C NID N E D R S) → Pending cmp entry entries_in t l.core → IsSoundLed cmp config l → Pending cmp entry entries_in t (commit_granted cmp config l).core
  granted_core t l p h = pending_quorum cmp entry entries_in config t (granted_id cmp (is_quorum cmp) l.leader) l.core p (all_fit cmp total same l.core.state h.sound (granted_id cmp (is_quorum cmp) l.leader) (granted_fits cmp total same config l h))

  on_entry_core : (P : Core C NID N E D R S → Type 0) (target : NID) (f : ProgressEntry NID → ProgressEntry NID) (l : Led C NID N E D R S) → P l.core → P (on_entry cmp target f l).core
  on_entry_core P target f l p = go (get cmp l.leader.progress target) where
    go : (o : Option (ProgressEntry NID)) → (let n = (elim o as (λ _. Led C NID N E D R S) [ None ↦ l | Some e ↦ with_entry cmp l target (f e) ]) in P n.core)
    go None = p
    go (Some e) = p

  matching_core : (t : Store NID N E) (target : NID) (number : ℕ) (x : Option (LogId NID)) (l : Led C NID N E D R S) → Pending cmp entry entries_in t l.core
      → refusals_of_entry cmp target (λ e. refusals_of_acknowledged cmp l.core.state e number x) l.leader ≡ None → IsSoundLed cmp config l → Pending cmp entry entries_in t (update_matching cmp config target x l).core
  unfolding update_matching
  matching_core t target number x l p a h =
      granted_core t (on_entry cmp target (λ e. matched cmp e x) l) (on_entry_core (Pending cmp entry entries_in t) target (λ e. matched cmp e x) l p) (noted_kept cmp total same config target number x l a h)

  -- an acknowledgement that isn't refused
  pub pending_matching : (t : Store NID N E) (target : NID) (number : ℕ) (x : Option (LogId NID)) (l : Led C NID N E D R S) → Pending cmp entry entries_in t l.core
      → refusals_of_entry cmp target (λ e. refusals_of_acknowledged cmp l.core.state e number x) l.leader ≡ None → IsSoundLed cmp config l → PendingLed cmp entry entries_in t (update_matching cmp config target x l)
  pending_matching t target number x l p a h = record { core = matching_core t target number x l p a h; knows = led_knows cmp config (update_matching cmp config target x l) (matching_kept cmp total same config target number x l a h) }

  conflicting_core : (t : Store NID N E) (target : NID) (number : Option ℕ) (x : LogId NID) (l : Led C NID N E D R S) → Pending cmp entry entries_in t l.core → Pending cmp entry entries_in t (update_conflicting cmp target number x l).core
  unfolding update_conflicting
  conflicting_core t target number x l p = on_entry_core (Pending cmp entry entries_in t) target (λ e. conflicted e number x.index) l p

  success_core : (t : Store NID N E) (target : NID) (id : RequestId) (answer : ReplicationResult NID) (l : Led C NID N E D R S) → Pending cmp entry entries_in t l.core
      → refusals_of_entry cmp target (λ e. refusals_of_answer cmp l.core.state e id answer) l.leader ≡ None → IsSoundLed cmp config l → Pending cmp entry entries_in t (update_success_progress cmp config target id answer l).core
  unfolding update_success_progress update_leader_clock
  success_core t target id answer l p a h = go answer.result (number_of id) a where
    clocked : Led C NID N E D R S
    clocked = update_leader_clock cmp target answer.sending_time l

    go : (r : Result (Option (LogId NID)) (LogId NID)) (number : Option ℕ)
        → refusals_of_entry cmp target (λ e. elim r [
          | Ok x ↦ elim number [ None ↦ None | Some number ↦ refusals_of_acknowledged cmp l.core.state e number x ]
          | Err x ↦ refusals_of_conflicted e number x.index
        ]) l.leader ≡ None
        → (let n = (elim r as (λ _. Led C NID N E D R S) [
          | Ok x ↦ elim number [ None ↦ clocked | Some _ ↦ update_matching cmp config target x clocked ]
          | Err x ↦ update_conflicting cmp target number x clocked
        ]) in Pending cmp entry entries_in t n.core)
    go (Ok x) None a = p
    go (Ok x) (Some number) a = matching_core t target number x clocked p a (clock_kept cmp total same config target answer.sending_time l h)
    go (Err x) number a = conflicting_core t target number x clocked p

  -- a conflict that isn't refused
  pub pending_conflicting : (t : Store NID N E) (target : NID) (number : Option ℕ) (x : LogId NID) (l : Led C NID N E D R S) → Pending cmp entry entries_in t l.core
      → refusals_of_entry {N = N} cmp target (λ e. refusals_of_conflicted e number x.index) l.leader ≡ None → IsSoundLed cmp config l → PendingLed cmp entry entries_in t (update_conflicting cmp target number x l)
  pending_conflicting t target number x l p a h = record { core = conflicting_core t target number x l p; knows = led_knows cmp config (update_conflicting cmp target number x l) (conflicting_kept cmp total same config target number x l a h) }

  -- an answer that isn't refused
  pub pending_success : (t : Store NID N E) (target : NID) (id : RequestId) (answer : ReplicationResult NID) (l : Led C NID N E D R S) → Pending cmp entry entries_in t l.core
      → refusals_of_entry cmp target (λ e. refusals_of_answer cmp l.core.state e id answer) l.leader ≡ None → IsSoundLed cmp config l → PendingLed cmp entry entries_in t (update_success_progress cmp config target id answer l)
  pending_success t target id answer l p a h = record { core = success_core t target id answer l p a h; knows = led_knows cmp config (update_success_progress cmp config target id answer l) (success_kept cmp total same config target id answer l a h) }

  failed_core : (t : Store NID N E) (target : NID) (id : RequestId) (l : Led C NID N E D R S) → Pending cmp entry entries_in t l.core → Pending cmp entry entries_in t (update_failed_progress cmp target id l).core
  unfolding update_failed_progress
  failed_core t target id l p = go (number_of id) where
    go : (o : Option ℕ) → (let n = (elim o as (λ _. Led C NID N E D R S) [ None ↦ l | Some _ ↦ on_entry cmp target silenced l ]) in Pending cmp entry entries_in t n.core)
    go None = p
    go (Some k) = on_entry_core (Pending cmp entry entries_in t) target silenced l p

  reply_core : {T : Type 0} (t : Store NID N E) (target : NID) (id : RequestId) (reply : Result (ReplicationResult NID) T) (l : Led C NID N E D R S) → Pending cmp entry entries_in t l.core
      → refusals_of_entry cmp target (λ e. refusals_of_result cmp l.core.state e id reply) l.leader ≡ None → IsSoundLed cmp config l → Pending cmp entry entries_in t (take_reply cmp config target id reply l).core
  reply_core t target id (Ok answer) l p a h = success_core t target id answer l p a h
  reply_core t target id (Err _) l p a h = failed_core t target id l p

  send_core : (t : Store NID N E) (target : NID) (l : Led C NID N E D R S) → Pending cmp entry entries_in t l.core → IsSoundLed cmp config l → Pending cmp entry entries_in t (send_next cmp config target l).core
  unfolding send_next
  send_core t target l p h = go (get cmp l.leader.progress target) (row_each cmp (EntryFits cmp l.core.state.ids l.core.state.purged) target l.leader.progress.rows h.leader_fits.entries) where
    go : (o : Option (ProgressEntry NID)) → IfSome o (EntryFits cmp l.core.state.ids l.core.state.purged) → (let n = (elim o as (λ _. Led C NID N E D R S) [
      | None ↦ l
      | Some e ↦
          let r = next_send l.core.state config.max_payload_entries e in
          under (λ c. record c { output = queued c.output (send_commands false target r) }) (with_entry cmp l target (sent e r))
    ]) in Pending cmp entry entries_in t n.core)
    go None k = p
    go (Some e) k =
        awaits_idle cmp entry entries_in t l.core.output.items (send_commands false target (next_send l.core.state config.max_payload_entries e)) l.core.state l.core.state p
        (sends_idle C D R cmp entry entries_in config (after cmp entry entries_in t l.core) false target (next_send l.core.state config.max_payload_entries e)
        (next_there entry (after cmp entry entries_in t l.core) l.core.state config.max_payload_entries e p.in_step (record { above = k.above; below = k.below }))) p.in_step

  -- a reply that isn't refused is handled, the log is purged where it may be, and the target is sent what comes next
  pub pending_progress : {T : Type 0} (t : Store NID N E) (target : NID) (id : RequestId) (reply : Result (ReplicationResult NID) T) (l : Led C NID N E D R S) → Pending cmp entry entries_in t l.core
      → refusals_of_entry cmp target (λ e. refusals_of_result cmp l.core.state e id reply) l.leader ≡ None → IsSoundLed cmp config l → PendingLed cmp entry entries_in t (update_progress cmp config target id reply l)
  unfolding update_progress purge_unless_inflight
  pending_progress t target id reply l p a h =
      let taken : Led C NID N E D R S = take_reply cmp config target id reply l in
      let k : IsSoundLed cmp config taken = reply_kept cmp total same config target id reply l a h in
      let purged : Led C NID N E D R S = purge_unless_inflight cmp taken in
      record {
        core = send_core t target purged (pending_try_purge cmp total same entry entries_in t taken.leader.progress.rows taken.core (reply_core t target id reply l p a h) k.sound) (purge_unless_kept cmp total same config taken k);
        knows = led_knows cmp config (update_progress cmp config target id reply l) (progress_kept cmp total same config target id reply l a h);
      }

  own_core : (t : Store NID N E) (x : Option (LogId NID)) (l : Led C NID N E D R S) → Pending cmp entry entries_in t l.core → IsSoundLed cmp config l → fits cmp l.core.state.ids l.core.state.purged x ≡ true → Pending cmp entry entries_in t (update_local_progress cmp config x l).core
  unfolding update_local_progress
  own_core t None l p h f = p
  own_core t (Some x) l p h f = go (get cmp l.leader.progress config.id) (row_each cmp (EntryFits cmp l.core.state.ids l.core.state.purged) config.id l.leader.progress.rows h.leader_fits.entries) where
    go : (o : Option (ProgressEntry NID)) → IfSome o (EntryFits cmp l.core.state.ids l.core.state.purged) → (let n = (elim o as (λ _. Led C NID N E D R S) [
      | None ↦ l
      | Some e ↦ (if is_ge (last_id_cmp cmp e.matching (Some x)) then l else commit_granted cmp config (with_entry cmp l config.id (own_matched cmp (Some x) e)))
    ]) in Pending cmp entry entries_in t n.core)
    go None k = p
    go (Some e) k =
        let w : Led C NID N E D R S = with_entry cmp l config.id (own_matched cmp (Some x) e) in
        cond_both (is_ge (last_id_cmp cmp e.matching (Some x))) l (commit_granted cmp config w) (λ n. Pending cmp entry entries_in t n.core)
        (λ _. p)
        (λ _. granted_core t w p (entry_kept cmp total same config config.id (own_matched cmp (Some x) e) l
        (own_matched_fits cmp total same l.core.state.ids l.core.state.purged (Some x) e f (fits_end cmp total same _ _ _ _ _ _ _ h.sound (Some x) f) k) h))

  -- this node's own acknowledgement, of an id that fits its log
  pub pending_own : (t : Store NID N E) (x : Option (LogId NID)) (l : Led C NID N E D R S) → Pending cmp entry entries_in t l.core → IsSoundLed cmp config l → fits cmp l.core.state.ids l.core.state.purged x ≡ true
      → PendingLed cmp entry entries_in t (update_local_progress cmp config x l)
  pending_own t x l p h f = record { core = own_core t x l p h f; knows = led_knows cmp config (update_local_progress cmp config x l) (local_kept cmp total same config x l f h) }
