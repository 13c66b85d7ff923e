-- A leader and its log are sound after the replies to what it sent.
use Rattle.std.specs.Prelude.{◌≡◌, ℕ, ◌≤◌, nat_lt, not, min, max, Bool, true, false, List, Option, None, Some, Result, Ok, Err, IfSome, refl, if◌then◌else◌}
use Rattle.std.proofs.Common.{rules, ◌∙◌, subst, arith}
use Rattle.std.proofs.lemmas.Bool.Decides.{nat_tests}
use Rattle.std.specs.Option.{option_cmp}
use Rattle.std.specs.declared.cmp.Ordering.{Ordering}
use Rattle.std.specs.declared.cmp.Ordering.TheVariants.{Equal}
use Rattle.std.specs.Ordering.{is_eq, is_lt, is_le, nat_cmp}
use Rattle.std.specs.Cmp.{IsTotalOrder}
use Rattle.raft_state.specs.declared.ids.LogId.{LogId}
use Rattle.raft_state.specs.declared.membership.Members.{Members}
use Rattle.raft_state.specs.Fits.{fits}
use Rattle.raft_state.specs.Log.{last}
use Rattle.raft_state.specs.Order.{last_id_cmp, next}
use Rattle.raft_state.proofs.Orders.{last_total, le_refl}
use Rattle.raft_progress_entry.specs.declared.entry.ProgressEntry.{ProgressEntry}
use Rattle.raft_progress_entry.specs.declared.entry.Inflight.{Inflight}
use Rattle.raft_progress_entry.specs.declared.entry.Inflight.TheVariants as inflight
use Rattle.raft_progress_entry.specs.raft_error.declared.error.EngineError.{EngineError}
use Rattle.raft_progress_entry.specs.raft_error.declared.error.EngineError.TheVariants.{UnknownTarget, ForeignInflight, OutsideInflight, LogReverted}
use Rattle.raft_progress_entry.specs.Entry.{carries, begins_at, matched, conflicted, remaining, silenced, next_send, sent, refusals_of_matched, refusals_of_conflicted}
use Rattle.raft_proposer.specs.raft_progress.Quorum.{is_quorum}
use Rattle.raft_proposer.specs.raft_progress.Table.{Table, get, increased, updated}
use Rattle.raft_command.specs.Replication.{number_of}
use Rattle.raft_command.specs.declared.config.EngineConfig.{EngineConfig}
use Rattle.raft_command.specs.declared.replication.ReplicationResult.{ReplicationResult}
use Rattle.raft_command.specs.declared.replication.RequestId.{RequestId}
use Rattle.raft_steps.specs.Invariants.{EntryFits, HoldsNodes, IsSoundLed, inflight_from}
use Rattle.raft_proposer.specs.Leader.{granted_id}
use Rattle.raft_command.specs.Queue.{queued}
use Rattle.raft_steps.specs.Parts.{Led, under}
use Rattle.raft_steps.specs.Replies.{on_entry, update_leader_clock, update_matching, update_conflicting, update_failed_progress, take_answer, update_success_progress, send_next, take_reply}
use Rattle.raft_steps.specs.ReplicationHandler.{with_entry, send_commands}
use Rattle.raft_steps.specs.ReplyRefusals.{refusals_of_acknowledged, refusals_of_answer, refusals_of_result, refusals_of_entry}
use Rattle.raft_steps.proofs.EntryLaws.{fits_end, silenced_fits, sent_fits}
use Rattle.raft_steps.proofs.Kept.{either, either_option}
use Rattle.raft_steps.proofs.KeptCommit.{row_each, entry_kept, granted_fits, commit_kept}
use Rattle.raft_steps.proofs.Sights.{SameSight, sight_self, sight_then, commit_sight}
use Rattle.raft_proposer.proofs.Tables.{row_ids_updated}
use Rattle.raft_steps.proofs.Unrefused.{test_fails, second_fails, neither}

not_below : (a b : ℕ) → nat_lt a b ≡ false → b ≤ a
not_below a b e = grind (arith, nat_tests, e)

is_true : (b : Bool) → not b ≡ false → b ≡ true
is_true true e = refl
is_true false e = cc

least : (m a b : ℕ) → m ≤ a → m ≤ b → m ≤ min a b
least m a b h k = omega (arith, h, k)

cut : (a b c : ℕ) → a ≤ c → min a b ≤ c
cut a b c h = omega (arith, h)

module _ {NID N : Type 0} where
  -- what is asked of a target's entry lets it pass
  passes : (o : Option (ProgressEntry NID)) (e : ProgressEntry NID) (more : ProgressEntry NID → Option (EngineError NID N))
      → ◌≡◌ {A = Option (EngineError NID N)} (elim o [ None ↦ Some UnknownTarget | Some e ↦ more e ]) None → o ≡ Some e → more e ≡ None
  passes None e more h q = cc
  passes (Some x) e more h q = let w : x ≡ e = search (rules, q) in subst (λ z. more z ≡ None) w h

module _ {NID : Type 0} (cmp : NID → NID → Ordering) (total : IsTotalOrder cmp) where
  remains_ahead : (f : Inflight NID) (x : Option (LogId NID)) → is_le (last_id_cmp cmp x (inflight_from (remaining cmp f x) x)) ≡ true
  remains_ahead inflight.None x = le_refl (last_total cmp total) x
  remains_ahead (inflight.Logs id range) x =
      either (λ f. is_le (last_id_cmp cmp x (inflight_from f x)) ≡ true) (is_eq (last_id_cmp cmp x range.last)) inflight.None (inflight.Logs id (record range { prev = x }))
      (le_refl (last_total cmp total) x) (le_refl (last_total cmp total) x)
  remains_ahead (inflight.Snapshot id last) x = le_refl (last_total cmp total) x

  -- the entry of a target whose log matches up to an id that fits
  pub matched_fits : (ids : List (LogId NID)) (purged : Option (LogId NID)) (x : Option (LogId NID)) (e : ProgressEntry NID)
      → fits cmp ids purged x ≡ true → next x ≤ next (last ids) → EntryFits cmp ids purged e → EntryFits cmp ids purged (matched cmp e x)
  matched_fits ids purged x e f n k = record { matching = f; above = over e.searching_end (next x); below = bounded e.searching_end (next x) (next (last ids)) k.below n; ahead = remains_ahead e.inflight x } where
    over : (a b : ℕ) → b ≤ max a b
    over a b = omega arith

    bounded : (a b c : ℕ) → a ≤ c → b ≤ c → max a b ≤ c
    bounded a b c l m = omega (arith, l, m)

  -- a conflict that isn't refused is past what matches
  not_reverted : {N : Type 0} (number : Option ℕ) (c : ℕ) (e : ProgressEntry NID) → refusals_of_conflicted {N = N} e number c ≡ None → next e.matching ≤ c
  not_reverted None c e a = not_below _ _ (second_fails (not (nat_lt c e.searching_end)) (nat_lt c (next e.matching)) OutsideInflight LogReverted None a)
  not_reverted (Some number) c e a =
      not_below _ _
      (second_fails (not (begins_at e.inflight c)) (nat_lt c (next e.matching)) OutsideInflight LogReverted None
      (test_fails (not (carries e number)) ForeignInflight (if not (begins_at e.inflight c) then Some OutsideInflight else if nat_lt c (next e.matching) then Some LogReverted else None) a).1)

  -- and of one whose log conflicts past what matches
  pub conflicted_fits : {N : Type 0} (ids : List (LogId NID)) (purged : Option (LogId NID)) (number : Option ℕ) (c : ℕ) (e : ProgressEntry NID)
      → refusals_of_conflicted {N = N} e number c ≡ None → EntryFits cmp ids purged e → EntryFits cmp ids purged (conflicted e number c)
  conflicted_fits ids purged None c e a k = record {
    matching = k.matching;
    above = least (next e.matching) e.searching_end c k.above (not_reverted None c e a);
    below = cut e.searching_end c (next (last ids)) k.below;
    ahead = k.ahead;
  }
  conflicted_fits ids purged (Some number) c e a k = record {
    matching = k.matching;
    above = least (next e.matching) e.searching_end c k.above (not_reverted (Some number) c e a);
    below = cut e.searching_end c (next (last ids)) k.below;
    ahead = le_refl (last_total cmp total) e.matching;
  }

module _ {NID N : Type 0} (cmp : NID → NID → Ordering) where
  -- a clock that rises leaves the nodes of its table
  raised_holds : (m : Members NID N) (t : Table NID (Option ℕ) (Option ℕ) (List (List NID))) (id : NID) (v : Option ℕ)
      → HoldsNodes cmp m t → HoldsNodes cmp m (increased cmp (option_cmp nat_cmp) (λ t. t) t id v)
  raised_holds m t id v h = go (get cmp t id) where
    go : (o : Option (Option ℕ)) → HoldsNodes cmp m (elim o [ None ↦ t | Some old ↦ (if is_lt (option_cmp nat_cmp old v) then updated cmp t id v else t) ])
    go None = h
    go (Some old) =
        either (HoldsNodes cmp m) (is_lt (option_cmp nat_cmp old v)) _ _ (record { set = h.set; ids = row_ids_updated cmp t id v ∙ h.ids; voters = h.voters }) h

module _ {C NID N E D R S : Type 0} (cmp : NID → NID → Ordering) (total : IsTotalOrder cmp) (same : (a b : NID) → cmp a b ≡ Equal → a ≡ b) (config : EngineConfig NID) where
  pub clock_kept : (target : NID) (time : ℕ) (l : Led C NID N E D R S) → IsSoundLed cmp config l → IsSoundLed cmp config (update_leader_clock cmp target time l)
  unfolding update_leader_clock
  clock_kept target time l h =
      let k = h.leader_fits in
      record {
        sound = h.sound;
        leader_fits = record {
          committed = k.committed;
          own = k.own;
          noop = k.noop;
          last_id = k.last_id;
          progress = k.progress;
          ungranted = k.ungranted;
          clock = raised_holds cmp l.core.state.em.membership l.leader.clock_progress target (Some time) k.clock;
          entries = k.entries;
        };
      }

  -- a target's entry becomes one that fits
  entry_made : (target : NID) (f : ProgressEntry NID → ProgressEntry NID) (l : Led C NID N E D R S)
      → ((e : ProgressEntry NID) → get cmp l.leader.progress target ≡ Some e → EntryFits cmp l.core.state.ids l.core.state.purged e → EntryFits cmp l.core.state.ids l.core.state.purged (f e))
      → IsSoundLed cmp config l → IsSoundLed cmp config (on_entry cmp target f l)
  entry_made target f l g h =
      go (get cmp l.leader.progress target) refl (row_each cmp (EntryFits cmp l.core.state.ids l.core.state.purged) target l.leader.progress.rows h.leader_fits.entries) where
        go : (o : Option (ProgressEntry NID)) → get cmp l.leader.progress target ≡ o → IfSome o (EntryFits cmp l.core.state.ids l.core.state.purged)
            → IsSoundLed cmp config (elim o [ None ↦ l | Some e ↦ with_entry cmp l target (f e) ])
        go None q k = h
        go (Some e) q k = entry_kept cmp total same config target (f e) l (g e q k) h

  -- an acknowledgement that isn't refused is noted
  pub noted_kept : (target : NID) (number : ℕ) (x : Option (LogId NID)) (l : Led C NID N E D R S)
      → refusals_of_entry cmp target (λ e. refusals_of_acknowledged cmp l.core.state e number x) l.leader ≡ None
      → IsSoundLed cmp config l → IsSoundLed cmp config (on_entry cmp target (λ e. matched cmp e x) l)
  noted_kept target number x l a h =
      entry_made target (λ e. matched cmp e x) l
      (λ e q k.
      let fit : fits cmp l.core.state.ids l.core.state.purged x ≡ true =
      is_true _ (test_fails _ _ _ (neither (refusals_of_matched cmp e number x) _ (passes _ e (λ e. refusals_of_acknowledged cmp l.core.state e number x) a q)).1).0 in
      matched_fits cmp total l.core.state.ids l.core.state.purged x e fit (fits_end cmp total same _ _ _ _ _ _ _ h.sound x fit) k) h

  pub matching_kept : (target : NID) (number : ℕ) (x : Option (LogId NID)) (l : Led C NID N E D R S)
      → refusals_of_entry cmp target (λ e. refusals_of_acknowledged cmp l.core.state e number x) l.leader ≡ None
      → IsSoundLed cmp config l → IsSoundLed cmp config (update_matching cmp config target x l)
  unfolding update_matching
  matching_kept target number x l a h =
      let noted = on_entry cmp target (λ e. matched cmp e x) l in
      let after = noted_kept target number x l a h in
      commit_kept cmp total same config (granted_id cmp (is_quorum cmp) noted.leader) noted (granted_fits cmp total same config noted after) after

  pub conflicting_kept : (target : NID) (number : Option ℕ) (x : LogId NID) (l : Led C NID N E D R S)
      → refusals_of_entry {N = N} cmp target (λ e. refusals_of_conflicted e number x.index) l.leader ≡ None
      → IsSoundLed cmp config l → IsSoundLed cmp config (update_conflicting cmp target number x l)
  unfolding update_conflicting
  conflicting_kept target number x l a h =
      entry_made target (λ e. conflicted e number x.index) l
      (λ e q k. conflicted_fits cmp total {N = N} l.core.state.ids l.core.state.purged number x.index e (passes _ e (λ e. refusals_of_conflicted e number x.index) a q) k) h

  pub failed_kept : (target : NID) (id : RequestId) (l : Led C NID N E D R S) → IsSoundLed cmp config l → IsSoundLed cmp config (update_failed_progress cmp target id l)
  unfolding update_failed_progress
  failed_kept target id l h =
      either_option (IsSoundLed cmp config) (number_of id) l (λ number. on_entry cmp target silenced l) h
      (λ number. entry_made target silenced l (λ e q k. silenced_fits cmp total same _ _ e k) h)

  -- an answer, of what its request's number lets pass
  pub answer_kept : (target : NID) (id : RequestId) (answer : ReplicationResult NID) (l : Led C NID N E D R S)
      → refusals_of_entry cmp target (λ e. refusals_of_answer cmp l.core.state e id answer) l.leader ≡ None
      → IsSoundLed cmp config l → IsSoundLed cmp config (take_answer cmp config target id answer l)
  answer_kept target id answer l a h = go answer.result (number_of id) a where
    go : (r : Result (Option (LogId NID)) (LogId NID)) (number : Option ℕ)
        → refusals_of_entry cmp target (λ e. elim r [
          | Ok x ↦ elim number [ None ↦ None | Some number ↦ refusals_of_acknowledged cmp l.core.state e number x ]
          | Err x ↦ refusals_of_conflicted e number x.index
        ]) l.leader ≡ None
        → IsSoundLed cmp config (elim r [
          | Ok x ↦ elim number [ None ↦ l | Some _ ↦ update_matching cmp config target x l ]
          | Err x ↦ update_conflicting cmp target number x l
        ])
    go (Ok x) None a = h
    go (Ok x) (Some number) a = matching_kept target number x l a h
    go (Err x) number a = conflicting_kept target number x l a h

  pub success_kept : (target : NID) (id : RequestId) (answer : ReplicationResult NID) (l : Led C NID N E D R S)
      → refusals_of_entry cmp target (λ e. refusals_of_answer cmp l.core.state e id answer) l.leader ≡ None
      → IsSoundLed cmp config l → IsSoundLed cmp config (update_success_progress cmp config target id answer l)
  unfolding update_success_progress update_leader_clock
  success_kept target id answer l a h =
      answer_kept target id answer (update_leader_clock cmp target answer.sending_time l) a (clock_kept target answer.sending_time l h)

  pub reply_kept : {T : Type 0} (target : NID) (id : RequestId) (reply : Result (ReplicationResult NID) T) (l : Led C NID N E D R S)
      → refusals_of_entry cmp target (λ e. refusals_of_result cmp l.core.state e id reply) l.leader ≡ None
      → IsSoundLed cmp config l → IsSoundLed cmp config (take_reply cmp config target id reply l)
  reply_kept target id (Ok answer) l a h = success_kept target id answer l a h
  reply_kept target id (Err _) l a h = failed_kept target id l h

  -- what comes next is sent to a target
  pub send_next_kept : (target : NID) (l : Led C NID N E D R S) → IsSoundLed cmp config l → IsSoundLed cmp config (send_next cmp config target l)
  unfolding send_next
  send_next_kept target l h =
      go (get cmp l.leader.progress target) (row_each cmp (EntryFits cmp l.core.state.ids l.core.state.purged) target l.leader.progress.rows h.leader_fits.entries) where
        sending : (e : ProgressEntry NID) → EntryFits cmp l.core.state.ids l.core.state.purged e
            → IsSoundLed cmp config (with_entry cmp l target (sent e (next_send l.core.state config.max_payload_entries e)))
        sending e k =
            entry_kept cmp total same config target (sent e (next_send l.core.state config.max_payload_entries e)) l
            (sent_fits cmp total same _ _ _ _ _ _ _ h.sound l.core.state config.max_payload_entries e refl refl refl k) h

        go : (o : Option (ProgressEntry NID)) → IfSome o (EntryFits cmp l.core.state.ids l.core.state.purged)
            → IsSoundLed cmp config (elim o [
              | None ↦ l
              | Some e ↦
                  let r = next_send l.core.state config.max_payload_entries e in
                  under (λ c. record c { output = queued c.output (send_commands false target r) }) (with_entry cmp l target (sent e r))
            ])
        go None k = h
        go (Some e) k = let n = sending e k in record { sound = n.sound; leader_fits = n.leader_fits }

  -- what a candidate sees of the state stays
  entry_sight : (target : NID) (f : ProgressEntry NID → ProgressEntry NID) (l : Led C NID N E D R S) → SameSight l.core.state (on_entry cmp target f l).core.state
  entry_sight target f l = either_option (λ (n : Led C NID N E D R S). SameSight l.core.state n.core.state) (get cmp l.leader.progress target) l _ (sight_self l.core.state) (λ e. sight_self l.core.state)

  pub matching_sight : (target : NID) (x : Option (LogId NID)) (l : Led C NID N E D R S) → SameSight l.core.state (update_matching cmp config target x l).core.state
  unfolding update_matching
  matching_sight target x l =
      let noted = on_entry cmp target (λ e. matched cmp e x) l in
      sight_then l.core.state noted.core.state _ (entry_sight target (λ e. matched cmp e x) l) (commit_sight cmp total same config (granted_id cmp (is_quorum cmp) noted.leader) noted.core)

  pub conflicting_sight : (target : NID) (number : Option ℕ) (x : LogId NID) (l : Led C NID N E D R S) → SameSight l.core.state (update_conflicting cmp target number x l).core.state
  unfolding update_conflicting
  conflicting_sight target number x l = entry_sight target (λ e. conflicted e number x.index) l

  failed_sight : (target : NID) (id : RequestId) (l : Led C NID N E D R S) → SameSight l.core.state (update_failed_progress cmp target id l).core.state
  unfolding update_failed_progress
  failed_sight target id l =
      either_option (λ (n : Led C NID N E D R S). SameSight l.core.state n.core.state) (number_of id) l _ (sight_self l.core.state) (λ number. entry_sight target silenced l)

  pub success_sight : (target : NID) (id : RequestId) (answer : ReplicationResult NID) (l : Led C NID N E D R S) → SameSight l.core.state (update_success_progress cmp config target id answer l).core.state
  unfolding update_success_progress update_leader_clock
  success_sight target id answer l = go answer.result (number_of id) where
    clocked : Led C NID N E D R S
    clocked = update_leader_clock cmp target answer.sending_time l

    go : (r : Result (Option (LogId NID)) (LogId NID)) (number : Option ℕ) → (let n = (elim r as (λ _. Led C NID N E D R S) [
      | Ok x ↦ elim number [ None ↦ clocked | Some _ ↦ update_matching cmp config target x clocked ]
      | Err x ↦ update_conflicting cmp target number x clocked
    ]) in SameSight l.core.state n.core.state)
    go (Ok x) None = sight_self l.core.state
    go (Ok x) (Some number) = matching_sight target x clocked
    go (Err x) number = conflicting_sight target number x clocked

  pub reply_sight : {T : Type 0} (target : NID) (id : RequestId) (reply : Result (ReplicationResult NID) T) (l : Led C NID N E D R S) → SameSight l.core.state (take_reply cmp config target id reply l).core.state
  reply_sight target id (Ok answer) l = success_sight target id answer l
  reply_sight target id (Err _) l = failed_sight target id l

  pub send_next_sight : (target : NID) (l : Led C NID N E D R S) → SameSight l.core.state (send_next cmp config target l).core.state
  unfolding send_next
  send_next_sight target l = either_option (λ (n : Led C NID N E D R S). SameSight l.core.state n.core.state) (get cmp l.leader.progress target) l _ (sight_self l.core.state) (λ e. sight_self l.core.state)
