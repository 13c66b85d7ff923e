-- What replies that aren't refused allow, and leave of their targets' inflight numbers.
use Rattle.std.specs.Prelude.{◌≡◌, ℕ, ◌<◌, ◌^◌, Bool, true, false, not, List, [], ◌∷◌, Option, None, Some, Result, Ok, Err, IfSome, refl}
use Rattle.std.specs.List.{AllByRecursion, list_any}
use Rattle.std.proofs.Common.{lit≤, sym, subst}
use Rattle.std.specs.declared.cmp.Ordering.{Ordering}
use Rattle.std.specs.declared.cmp.Ordering.TheVariants.{Equal}
use Rattle.std.specs.Ordering.{is_eq}
use Rattle.std.specs.Cmp.{IsTotalOrder}
use Rattle.raft_state.specs.declared.ids.LogId.{LogId}
use Rattle.raft_state.specs.Log.{last}
use Rattle.raft_state.specs.Order.{next}
use Rattle.raft_progress_entry.specs.declared.entry.ProgressEntry.{ProgressEntry}
use Rattle.raft_progress_entry.specs.raft_error.declared.error.EngineError.{EngineError}
use Rattle.raft_progress_entry.specs.raft_error.declared.error.EngineError.TheVariants.{UnknownTarget}
use Rattle.raft_progress_entry.specs.Entry.{refusals_of_matched, conflicted, matched, silenced}
use Rattle.raft_proposer.specs.raft_progress.Table.{get, with_value}
use Rattle.raft_command.specs.Replication.{number_of}
use Rattle.raft_command.specs.declared.config.EngineConfig.{EngineConfig}
use Rattle.raft_command.specs.declared.replication.ReplicationResult.{ReplicationResult}
use Rattle.raft_command.specs.declared.replication.RequestId.{RequestId}
use Rattle.raft_steps.specs.Refusals.{is_counter_end_among, is_near_end}
use Rattle.raft_steps.specs.Invariants.{EntryFits, IsSoundLed}
use Rattle.raft_steps.specs.Parts.{Led}
use Rattle.raft_steps.specs.Replies.{on_entry, purge_unless_inflight, take_answer, take_reply, update_conflicting, update_failed_progress, update_leader_clock, update_matching, update_success_progress}
use Rattle.raft_steps.specs.ReplicationHandler.{with_entry}
use Rattle.raft_steps.specs.ReplyRefusals.{refusals_of_acknowledged, refusals_of_entry, refusals_of_result}
use Rattle.raft_steps.specs.Sending.{CanSend, IsAhead}
use Rattle.raft_steps.proofs.Counted.{far, low, nearer}
use Rattle.raft_steps.proofs.FitsEnd.{fits_end}
use Rattle.raft_steps.proofs.Kept.{either, either_option}
use Rattle.raft_steps.proofs.KeptCommit.{row_each}
use Rattle.raft_steps.proofs.KeptLead.{each_image}
use Rattle.raft_steps.proofs.KeptPurge.{purge_unless_kept}
use Rattle.raft_steps.proofs.KeptReplies.{reply_kept}
use Rattle.raft_steps.proofs.Room.{log_end}
use Rattle.raft_steps.proofs.Unrefused.{neither, or_fails, test_fails}

holds : (b : Bool) → not b ≡ false → b ≡ true
holds true e = refl
holds false e = cc

module _ {C NID N E D R S : Type 0} (cmp : NID → NID → Ordering) (config : EngineConfig NID) (target : NID) (l : Led C NID N E D R S) (h : IsSoundLed cmp config l) where
  -- an acknowledged id is below the end
  pub acknowledged_end : (number : ℕ) (x : Option (LogId NID)) → refusals_of_entry cmp target (λ e. refusals_of_acknowledged cmp l.core.state e number x) l.leader ≡ None → next x < 2 ^ 64
  acknowledged_end number x a = go (get cmp l.leader.progress target) a where
    go : (o : Option (ProgressEntry NID))
        → ◌≡◌ {A = Option (EngineError NID N)} (elim o [ None ↦ Some UnknownTarget | Some e ↦ refusals_of_acknowledged cmp l.core.state e number x ]) None → next x < 2 ^ 64
    go None a = cc
    go (Some e) a = fits_end cmp l.core.state x h.sound (holds _ (test_fails _ _ _ (neither (refusals_of_matched cmp e number x) _ a).1).0)

  -- what is in flight to a target is ahead of what matches
  pub target_ahead : IfSome (get cmp l.leader.progress target) (IsAhead cmp)
  target_ahead = go (get cmp l.leader.progress target) (row_each cmp (EntryFits cmp l.core.state.ids l.core.state.purged) target l.leader.progress.rows h.leader_fits.entries) where
    go : (o : Option (ProgressEntry NID)) → IfSome o (EntryFits cmp l.core.state.ids l.core.state.purged) → IfSome o (IsAhead cmp)
    go None k = tt
    go (Some e) k = k.ahead

module _ {NID : Type 0} where
  -- the number under which a target was sent to is far from the end
  abbrev IsFar : ProgressEntry NID → Type 0
  IsFar e = is_near_end e.last_inflight_id ≡ false

  abbrev IsFarRow : NID × ProgressEntry NID → Type 0
  IsFarRow row = IsFar row.1

  abbrev EachFar : List (NID × ProgressEntry NID) → Type 0
  EachFar rows = AllByRecursion IsFarRow rows

  conflicted_number : (number : Option ℕ) (c : ℕ) (e : ProgressEntry NID) → (conflicted e number c).last_inflight_id ≡ e.last_inflight_id
  conflicted_number None c e = refl
  conflicted_number (Some number) c e = refl

  each_far : (rows : List (NID × ProgressEntry NID)) → list_any (λ row. is_near_end row.1.last_inflight_id) rows ≡ false → EachFar rows
  each_far [] e = tt
  each_far (row ∷ rows) e = let n = or_fails (is_near_end row.1.last_inflight_id) (list_any (λ row. is_near_end row.1.last_inflight_id) rows) e in (n.0, each_far rows n.1)

  may_send : (target : NID) (ids : List (LogId NID)) (purged : Option (LogId NID)) (cmp : NID → NID → Ordering) (o : Option (ProgressEntry NID)) → next (last ids) < 2 ^ 64
      → IfSome o IsFar → IfSome o (EntryFits cmp ids purged) → IfSome o (λ e. CanSend 1 (target, e))
  may_send target ids purged cmp None end f k = tt
  may_send target ids purged cmp (Some e) end f k = (nearer e.last_inflight_id 1 (lit≤ tt) (far e.last_inflight_id f), low (next e.matching) e.searching_end (next (last ids)) k.above k.below end)

module _ {C NID N E D R S : Type 0} (cmp : NID → NID → Ordering) where
  -- a target's entry that keeps its number
  entry_far : (target : NID) (f : ProgressEntry NID → ProgressEntry NID) (l : Led C NID N E D R S) → ((e : ProgressEntry NID) → (f e).last_inflight_id ≡ e.last_inflight_id)
      → EachFar l.leader.progress.rows → EachFar (on_entry cmp target f l).leader.progress.rows
  entry_far target f l same h = go (get cmp l.leader.progress target) (row_each cmp IsFar target l.leader.progress.rows h) where
    there : (e : ProgressEntry NID) → IsFar e → EachFar (with_entry cmp l target (f e)).leader.progress.rows
    there e k = each_image IsFarRow IsFarRow (with_value cmp target (f e)) (λ r g. either IsFarRow (is_eq (cmp target r.0)) _ _ (subst (λ n. is_near_end n ≡ false) (sym (same e)) k) g) l.leader.progress.rows h

    go : (o : Option (ProgressEntry NID)) → IfSome o IsFar → (let n = (elim o as (λ _. Led C NID N E D R S) [ None ↦ l | Some e ↦ with_entry cmp l target (f e) ]) in EachFar n.leader.progress.rows)
    go None k = h
    go (Some e) k = there e k

module _ {C NID N E D R S : Type 0} (cmp : NID → NID → Ordering) (config : EngineConfig NID) where
  answer_far : (target : NID) (id : RequestId) (answer : ReplicationResult NID) (l : Led C NID N E D R S)
      → EachFar l.leader.progress.rows → EachFar (take_answer cmp config target id answer l).leader.progress.rows
  unfolding update_matching update_conflicting
  answer_far target id answer l h = go answer.result (number_of id) where
    go : (r : Result (Option (LogId NID)) (LogId NID)) (number : Option ℕ) → (let n = (elim r as (λ _. Led C NID N E D R S) [
      | Ok x ↦ elim number [ None ↦ l | Some _ ↦ update_matching cmp config target x l ]
      | Err x ↦ update_conflicting cmp target number x l
    ]) in EachFar n.leader.progress.rows)
    go (Ok x) None = h
    go (Ok x) (Some number) = entry_far cmp target (λ e. matched cmp e x) l (λ e. refl) h
    go (Err x) number = entry_far cmp target (λ e. conflicted e number x.index) l (λ e. conflicted_number number x.index e) h

  -- a reply leaves the numbers
  reply_far : {T : Type 0} (target : NID) (id : RequestId) (reply : Result (ReplicationResult NID) T) (l : Led C NID N E D R S)
      → EachFar l.leader.progress.rows → EachFar (take_reply cmp config target id reply l).leader.progress.rows
  unfolding update_success_progress update_leader_clock update_failed_progress
  reply_far target id (Ok answer) l h = answer_far target id answer (update_leader_clock cmp target answer.sending_time l) h
  reply_far target id (Err _) l h =
      either_option (λ (n : Led C NID N E D R S). EachFar n.leader.progress.rows) (number_of id) l (λ number. on_entry cmp target silenced l) h
      (λ number. entry_far cmp target silenced l (λ e. refl) h)

module _ {C NID N E D R S : Type 0} (cmp : NID → NID → Ordering) (total : IsTotalOrder cmp) (same : (a b : NID) → cmp a b ≡ Equal → a ≡ b) (config : EngineConfig NID) where
  -- once a reply is taken and the log is purged, its target may be sent to
  pub may_send_next : {T : Type 0} (target : NID) (id : RequestId) (reply : Result (ReplicationResult NID) T) (l n : Led C NID N E D R S)
      → is_counter_end_among l.core l.leader.progress.rows ≡ false → refusals_of_entry cmp target (λ e. refusals_of_result cmp l.core.state e id reply) l.leader ≡ None → IsSoundLed cmp config l
      → n ≡ purge_unless_inflight cmp (take_reply cmp config target id reply l)
      → IfSome (get cmp n.leader.progress target) (λ e. CanSend 1 (target, e)) × (next (last n.core.state.ids) < 2 ^ 64)
  unfolding purge_unless_inflight
  may_send_next target id reply l n counted a h is =
      let m = purge_unless_inflight cmp (take_reply cmp config target id reply l) in
      let k : IsSoundLed cmp config m = purge_unless_kept cmp total same config _ (reply_kept cmp total same config target id reply l a h) in
      let end : next (last m.core.state.ids) < 2 ^ 64 = log_end cmp m.core.state k.sound in
      let numbers = or_fails (is_near_end l.core.output.seq) (list_any (λ row. is_near_end row.1.last_inflight_id) l.leader.progress.rows) counted in
      let rows : EachFar m.leader.progress.rows = reply_far cmp config target id reply l (each_far l.leader.progress.rows numbers.1) in
      subst (λ (q : Led C NID N E D R S). IfSome (get cmp q.leader.progress target) (λ e. CanSend 1 (target, e)) × (next (last q.core.state.ids) < 2 ^ 64)) (sym is) (
        may_send target m.core.state.ids m.core.state.purged cmp (get cmp m.leader.progress target) end (row_each cmp IsFar target m.leader.progress.rows rows)
            (row_each cmp (EntryFits cmp m.core.state.ids m.core.state.purged) target m.leader.progress.rows k.leader_fits.entries),
        end,
      )
