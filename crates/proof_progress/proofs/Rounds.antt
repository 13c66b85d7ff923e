-- A leader handles a node's answers: each but the first narrows the gap, until its log matches.
use Rattle.std.proofs.Common.{ℕ, zero, suc, ◌+◌, ◌*◌, ◌<◌, ◌≤◌, ◌≡◌, ◌≢◌, ◌⊎◌, inl, inr, Bool, true, false, cond, List, [], ◌∷◌, map, arith, refl, sym, ap, ◌∙◌, subst, Option, None, Some, Result, Ok, Err}
use Rattle.std.specs.Prelude.{IfSome, find, if◌then◌else◌, is_some, take}
use Rattle.std.specs.Option.{option_map}
use Rattle.std.specs.Cmp.{IsTotalOrder, tied_itself}
use Rattle.std.specs.declared.cmp.Ordering.{Ordering}
use Rattle.std.specs.declared.cmp.Ordering.TheVariants.{Equal}
use Rattle.std.specs.Ordering.{is_eq}
use Rattle.proof_deeds.specs.raft_state.declared.ids.LogId.{LogId}
use Rattle.proof_deeds.specs.raft_state.declared.state.RaftState.{RaftState}
use Rattle.proof_deeds.specs.raft_state.Log.{last}
use Rattle.proof_deeds.specs.raft_state.Order.{last_id_cmp, leader_id_cmp, next}
use Rattle.proof_deeds.proofs.raft_state_proofs.Orders.{is_equal, last_total}
use Rattle.proof_deeds.specs.raft_progress_entry.declared.entry.Inflight.{Inflight}
use Rattle.proof_deeds.specs.raft_progress_entry.declared.entry.Inflight.TheVariants as inflight
use Rattle.proof_deeds.specs.raft_progress_entry.declared.entry.LogIdRange.{LogIdRange}
use Rattle.proof_deeds.specs.raft_progress_entry.declared.entry.ProgressEntry.{ProgressEntry}
use Rattle.proof_deeds.specs.raft_progress_entry.Entry.{conflicted, matched, next_send, remaining, sent, silenced}
use Rattle.proof_deeds.specs.raft_progress.Quorum.{is_quorum}
use Rattle.proof_deeds.specs.raft_progress.Table.{get, is_row_of, row_of, voter_rows, with_value}
use Rattle.proof_deeds.specs.raft_command.declared.command.Command.TheVariants.{ReplicateCommitted}
use Rattle.proof_deeds.specs.raft_command.Queue.{queued}
use Rattle.proof_deeds.specs.raft_command.declared.config.EngineConfig.{EngineConfig}
use Rattle.proof_deeds.specs.raft_error.declared.error.EngineError.TheVariants.{UnknownTarget}
use Rattle.proof_deeds.specs.raft_proposer.Joint.{JointLeader}
use Rattle.proof_deeds.specs.raft_proposer.Leader.{granted_id}
use Rattle.proof_deeds.proofs.raft_proposer_proofs.Tables.{same_id}
use Rattle.proof_progress.specs.Proposals.{Fails}
use Rattle.proof_deeds.specs.raft_command.Replication.{number_of}
use Rattle.proof_deeds.specs.raft_command.declared.replication.RequestId.{RequestId}
use Rattle.proof_deeds.specs.raft_steps.Invariants.{EntryFits, IsSoundLed}
use Rattle.proof_deeds.specs.raft_steps.LogHandler.{is_target_inflight, purge_log, try_purge_log}
use Rattle.proof_deeds.specs.raft_steps.Parts.{Core, Led, under}
use Rattle.proof_deeds.specs.raft_steps.Replies.{on_entry, purge_unless_inflight, send_next, update_conflicting, update_failed_progress, update_leader_clock, update_matching, update_progress, update_success_progress}
use Rattle.proof_deeds.specs.raft_steps.ReplicationHandler.{send_commands, try_commit_quorum_accepted, with_entry}
use Rattle.proof_deeds.specs.raft_steps.ReplyRefusals.{refusals_of_entry, refusals_of_progress, refusals_of_result}
use Rattle.proof_deeds.specs.raft_steps.Refusals.{refusals_of_counter_led}
use Rattle.proof_deeds.proofs.raft_steps_proofs.Kept.{commit_by_case, either, either_option}
use Rattle.proof_deeds.proofs.raft_steps_proofs.KeptCommit.{row_each}
use Rattle.proof_deeds.proofs.raft_steps_proofs.KeptReplies.{failed_kept, send_next_kept, success_kept}
use Rattle.proof_deeds.proofs.raft_steps_proofs.KeptPurge.{purge_case, purge_unless_kept, purge_unless_sight}
use Rattle.proof_deeds.proofs.raft_steps_proofs.LawsReply.{entry_core}
use Rattle.proof_deeds.proofs.raft_steps_proofs.Sights.{SameSight}
use Rattle.proof_deeds.proofs.raft_steps_proofs.Unrefused.{neither, test_fails}
use Rattle.proof_progress.specs.Replication.{Answers, Handles, IsAsked, IsMatched, Rounds, answered, request_of}
use Rattle.proof_progress.proofs.Nearing.{IsSent, IsServed, IsShipped, conflicted_falls, gap, gap_most, matched_falls, serves, shipped_falls}

module _ {ID V : Type 0} (cmp : ID → ID → Ordering) where
  -- an id's value is replaced
  pub put_row : (id : ID) (w e : V) (rows : List (ID × V)) → row_of cmp id rows ≡ Some e → row_of cmp id (map (with_value cmp id w) rows) ≡ Some w
  put_row id w e [] h = cc
  put_row id w e (row ∷ rows) h = go (is_row_of cmp id row) refl h (put_row id w e rows)
    where
      go : (b : Bool) → is_row_of cmp id row ≡ b → row_of cmp id (row ∷ rows) ≡ Some e → (row_of cmp id rows ≡ Some e → row_of cmp id (map (with_value cmp id w) rows) ≡ Some w) → row_of cmp id (map (with_value cmp id w) (row ∷ rows)) ≡ Some w
      go true q k r = rw q (rw q refl)
      go false q k r =
          let z : row_of cmp id (row ∷ rows) ≡ row_of cmp id rows = rw q refl in
          let m : row_of cmp id (map (with_value cmp id w) rows) ≡ Some w = r (sym z ∙ k) in
          rw q (rw q m)

  -- and other ids' values stay
  other_row : (exact : (a b : ID) → cmp a b ≡ Equal → a ≡ b) (id u : ID) (w : V) (rows : List (ID × V)) → is_eq (cmp u id) ≡ false → row_of cmp u (map (with_value cmp id w) rows) ≡ row_of cmp u rows
  other_row exact id u w [] h = refl
  other_row exact id u w (row ∷ rows) h = go (is_row_of cmp id row) refl (other_row exact id u w rows h)
    where
      by : (c : Bool) → row_of cmp u (map (with_value cmp id w) rows) ≡ row_of cmp u rows
          → ◌≡◌ {A = Option V} (option_map (λ (r : ID × V). r.1) (cond c (Some row) (find (is_row_of cmp u) (map (with_value cmp id w) rows)))) (option_map (λ (r : ID × V). r.1) (cond c (Some row) (find (is_row_of cmp u) rows)))
      by true r = refl
      by false r = r

      go : (b : Bool) → is_row_of cmp id row ≡ b → row_of cmp u (map (with_value cmp id w) rows) ≡ row_of cmp u rows → row_of cmp u (map (with_value cmp id w) (row ∷ rows)) ≡ row_of cmp u (row ∷ rows)
      go true q r =
          let f : is_eq (cmp u row.0) ≡ false = subst (λ x. is_eq (cmp u x) ≡ false) (exact id row.0 (is_equal _ q)) h in
          rw q (rw f r)
      go false q r = rw q (by (is_eq (cmp u row.0)) r)

  valued_ids : (id : ID) (w : V) (n : ℕ) (rows : List (ID × V)) → map (λ (r : ID × V). r.0) (take n (map (with_value cmp id w) rows)) ≡ map (λ (r : ID × V). r.0) (take n rows)
  valued_ids id w zero rows = refl
  valued_ids id w (suc n) [] = refl
  valued_ids id w (suc n) (row ∷ rows) = λ i. same_id cmp id w row i ∷ valued_ids id w n rows i

-- of a leader's table at most one node's row has changed
pub record Touches {C NID N E D R S : Type 0} (cmp : NID → NID → Ordering) (target : NID) (old new : Led C NID N E D R S) : Type 0 where
  pub others : (u : NID) → is_eq (cmp u target) ≡ false → get cmp new.leader.progress u ≡ get cmp old.leader.progress u
  pub set : new.leader.progress.set ≡ old.leader.progress.set
  pub voters : map (λ (row : NID × ProgressEntry NID). row.0) (voter_rows new.leader.progress) ≡ map (λ (row : NID × ProgressEntry NID). row.0) (voter_rows old.leader.progress)

module _ {C NID N E D R S : Type 0} (cmp : NID → NID → Ordering) (target : NID) where
  pub touch_then : (a b c : Led C NID N E D R S) → Touches cmp target a b → Touches cmp target b c → Touches cmp target a c
  touch_then a b c h k = record { others = λ u d. k.others u d ∙ h.others u d; set = k.set ∙ h.set; voters = k.voters ∙ h.voters }

  pub touch_entry : (exact : (a b : NID) → cmp a b ≡ Equal → a ≡ b) (w : ProgressEntry NID) (l : Led C NID N E D R S) → Touches cmp target l (with_entry cmp l target w)
  touch_entry exact w l = record { others = λ u d. other_row cmp exact target u w l.leader.progress.rows d; set = refl; voters = valued_ids cmp target w l.leader.progress.voters l.leader.progress.rows }

  pub touch_self : (l : Led C NID N E D R S) → Touches cmp target l l
  touch_self l = record { others = λ u d. refl; set = refl; voters = refl }

  pub touch_on : (exact : (a b : NID) → cmp a b ≡ Equal → a ≡ b) (f : ProgressEntry NID → ProgressEntry NID) (l : Led C NID N E D R S) → Touches cmp target l (on_entry cmp target f l)
  touch_on exact f l = either_option (λ (n : Led C NID N E D R S). Touches cmp target l n) (get cmp l.leader.progress target) l _ (touch_self l) (λ e. touch_entry exact (f e) l)

-- the entry after an answer
abbrev pub narrowed : {NID : Type 0} → (NID → NID → Ordering) → ProgressEntry NID → ℕ → Result (Option (LogId NID)) (LogId NID) → ProgressEntry NID
narrowed cmp e number (Ok x) = matched cmp e x
narrowed cmp e number (Err x) = conflicted e (Some number) x.index

pub sent_gap : {NID : Type 0} (n : ℕ) (e : ProgressEntry NID) (r : Result (Inflight NID) (Inflight NID)) → gap n (sent e r) ≡ gap n e
sent_gap n e (Ok f) = refl
sent_gap n e (Err f) = refl

pub sent_matching : {NID : Type 0} (e : ProgressEntry NID) (r : Result (Inflight NID) (Inflight NID)) → (sent e r).matching ≡ e.matching
sent_matching e (Ok f) = refl
sent_matching e (Err f) = refl

one_entry : {NID : Type 0} (o : Option (ProgressEntry NID)) (a b : ProgressEntry NID) → o ≡ Some a → o ≡ Some b → a ≡ b
one_entry o a b p q = cc

-- what is answered has a number
pub numbered : {NID : Type 0} (f : Inflight NID) → f ≢ inflight.None → (k : ℕ) × (number_of (request_of f) ≡ Some k)
numbered inflight.None h = absurd (h refl)
numbered (inflight.Logs k range) h = (k, refl)
numbered (inflight.Snapshot k end) h = (k, refl)

-- the last id, what is to be purged, and the vote stay
pub record Leaves {NID N : Type 0} (s t : RaftState NID N) : Type 0 where
  pub end : last t.ids ≡ last s.ids
  pub purge_to : t.purge_to ≡ s.purge_to
  pub vote : t.vote ≡ s.vote

pub leave_then : {NID N : Type 0} (a b c : RaftState NID N) → Leaves a b → Leaves b c → Leaves a c
leave_then a b c h k = record { end = k.end ∙ h.end; purge_to = k.purge_to ∙ h.purge_to; vote = k.vote ∙ h.vote }

-- not all of the log is to be purged, still
pub still_low : {C NID N E D R S : Type 0} (old new : Led C NID N E D R S) → Leaves old.core.state new.core.state → next old.core.state.purge_to < next (last old.core.state.ids) → next new.core.state.purge_to < next (last new.core.state.ids)
still_low old new h u =
    let a : next new.core.state.purge_to ≡ next old.core.state.purge_to = ap next h.purge_to in
    let b : next (last new.core.state.ids) ≡ next (last old.core.state.ids) = ap next h.end in
    omega (arith, u, a, b)

never_logs : {NID : Type 0} (f : Inflight NID) (i : ℕ) (a : LogIdRange NID) → f ≡ inflight.Logs i a → f ≢ inflight.None
never_logs f i a p q = cc

never_snapshot : {NID : Type 0} (f : Inflight NID) (i : ℕ) (a : Option (LogId NID)) → f ≡ inflight.Snapshot i a → f ≢ inflight.None
never_snapshot f i a p q = cc

module _ {NID : Type 0} (cmp : NID → NID → Ordering) (total : IsTotalOrder cmp) where
  -- what was in flight is answered
  pub freed : (e : ProgressEntry NID) (f : Inflight NID) (number : ℕ) (result : Result (Option (LogId NID)) (LogId NID)) → e.inflight ≡ f → Answers f result → (narrowed cmp e number result).inflight ≡ inflight.None
  freed e inflight.None number (Ok x) q a = absurd a
  freed e inflight.None number (Err x) q a = absurd a
  freed e (inflight.Logs id range) number (Ok x) q a = ap (λ f. remaining cmp f x) q ∙ go (is_eq (last_id_cmp cmp x range.last)) (subst (λ y. is_eq (last_id_cmp cmp x y) ≡ true) a (ap is_eq (tied_itself (last_total cmp total) x)))
    where
      go : (b : Bool) → b ≡ true → ◌≡◌ {A = Inflight NID} (if b then inflight.None else inflight.Logs id (record range { prev = x })) inflight.None
      go true z = refl
      go false z = cc
  freed e (inflight.Logs id range) number (Err x) q a = refl
  freed e (inflight.Snapshot id end) number (Ok x) q a = ap (λ f. remaining cmp f x) q
  freed e (inflight.Snapshot id end) number (Err x) q a = absurd a

module _ {C NID N E D R S : Type 0} (cmp : NID → NID → Ordering) (total : IsTotalOrder cmp) (same : (a b : NID) → cmp a b ≡ Equal → a ≡ b) (config : EngineConfig NID) where
  pub commit_leaves : (x : Option (LogId NID)) (c : Core C NID N E D R S) → Leaves c.state (try_commit_quorum_accepted cmp config x c).state
  unfolding try_commit_quorum_accepted
  commit_leaves None c = record { end = refl; purge_to = refl; vote = refl }
  commit_leaves (Some x) c =
      either (λ (n : Core C NID N E D R S). Leaves c.state n.state) (is_eq (leader_id_cmp cmp x.leader_id c.state.vote.leader_id)) _ _
      (commit_by_case cmp total same config (λ (n : Core C NID N E D R S). Leaves c.state n.state) (ReplicateCommitted (Some x) ∷ []) x c (λ e. record { end = refl; purge_to = refl; vote = refl }) (λ e cm building q. record { end = refl; purge_to = refl; vote = refl }))
      (record { end = refl; purge_to = refl; vote = refl })

  -- a target's entry becomes another
  entry_put : (target : NID) (f : ProgressEntry NID → ProgressEntry NID) (l : Led C NID N E D R S) (e : ProgressEntry NID) → get cmp l.leader.progress target ≡ Some e → get cmp (on_entry cmp target f l).leader.progress target ≡ Some (f e)
  entry_put target f l e h =
      subst (λ (o : Option (ProgressEntry NID)). let n = (elim o as (λ _. Led C NID N E D R S) [ None ↦ l | Some e ↦ with_entry cmp l target (f e) ]) in get cmp n.leader.progress target ≡ Some (f e))
      (sym h) (put_row cmp target (f e) e l.leader.progress.rows h)

  -- an answer is noted
  pub record Noted (target : NID) (old l : Led C NID N E D R S) (e : ProgressEntry NID) : Type 0 where
    pub has : get cmp l.leader.progress target ≡ Some e
    pub leaves : Leaves old.core.state l.core.state
    pub touches : Touches cmp target old l

  pub noted : (target : NID) (id : RequestId) (number time : ℕ) → number_of id ≡ Some number → (result : Result (Option (LogId NID)) (LogId NID)) (l : Led C NID N E D R S) (e : ProgressEntry NID) → get cmp l.leader.progress target ≡ Some e
      → Noted target l (update_success_progress cmp config target id (record { sending_time = time; result = result }) l) (narrowed cmp e number result)
  unfolding update_success_progress update_leader_clock update_matching update_conflicting
  noted target id number time q (Ok x) l e h =
      let clocked : Led C NID N E D R S = update_leader_clock cmp target time l in
      let put : Led C NID N E D R S = on_entry cmp target (λ e. matched cmp e x) clocked in
      subst (λ (o : Option ℕ). Noted target l (elim o as (λ _. Led C NID N E D R S) [ None ↦ update_leader_clock cmp target time l | Some _ ↦ update_matching cmp config target x (update_leader_clock cmp target time l) ]) (matched cmp e x)) (sym q)
      (record {
        has = entry_put target (λ e. matched cmp e x) clocked e h;
        leaves = subst (λ (c : Core C NID N E D R S). Leaves c.state (try_commit_quorum_accepted cmp config (granted_id cmp (is_quorum cmp) put.leader) put.core).state) (entry_core cmp target (λ e. matched cmp e x) clocked)
            (commit_leaves (granted_id cmp (is_quorum cmp) put.leader) put.core);
        touches = let t : Touches cmp target clocked put = touch_on cmp target same (λ e. matched cmp e x) clocked in record { others = t.others; set = t.set; voters = t.voters };
      })
  noted target id number time q (Err x) l e h =
      let clocked : Led C NID N E D R S = update_leader_clock cmp target time l in
      subst (λ (o : Option ℕ). Noted target l (update_conflicting cmp target o x (update_leader_clock cmp target time l)) (conflicted e (Some number) x.index)) (sym q)
      (record {
        has = entry_put target (λ e. conflicted e (Some number) x.index) clocked e h;
        leaves = subst (λ (c : Core C NID N E D R S). Leaves l.core.state c.state) (sym (entry_core cmp target (λ e. conflicted e (Some number) x.index) clocked)) (record { end = refl; purge_to = refl; vote = refl });
        touches = let t : Touches cmp target clocked (on_entry cmp target (λ e. conflicted e (Some number) x.index) clocked) = touch_on cmp target same (λ e. conflicted e (Some number) x.index) clocked in record { others = t.others; set = t.set; voters = t.voters };
      })

  -- a failure is noted
  pub failure_noted : (target : NID) (id : RequestId) (l : Led C NID N E D R S) (e : ProgressEntry NID) → is_some (number_of id) ≡ true → get cmp l.leader.progress target ≡ Some e → Noted target l (update_failed_progress cmp target id l) (silenced e)
  unfolding update_failed_progress
  failure_noted target id l e q h = go (number_of id) q
    where
      go : (o : Option ℕ) → is_some o ≡ true → Noted target l (elim o as (λ _. Led C NID N E D R S) [ None ↦ l | Some _ ↦ on_entry cmp target silenced l ]) (silenced e)
      go None z = cc
      go (Some k) z = record {
        has = entry_put target silenced l e h;
        leaves = subst (λ (c : Core C NID N E D R S). Leaves l.core.state c.state) (sym (entry_core cmp target silenced l)) (record { end = refl; purge_to = refl; vote = refl });
        touches = touch_on cmp target same silenced l;
      }

  -- the log may be purged
  pub purged : (target : NID) (l : Led C NID N E D R S) (e : ProgressEntry NID) → IsSoundLed cmp config l → get cmp l.leader.progress target ≡ Some e → Noted target l (purge_unless_inflight cmp l) e
  unfolding purge_unless_inflight try_purge_log
  purged target l e k h =
      let s : SameSight l.core.state (purge_unless_inflight cmp l).core.state = purge_unless_sight cmp total same config l k.sound in
      record {
        has = h;
        leaves = record {
          end = s.last_id;
          purge_to = either (λ (c : Core C NID N E D R S). c.state.purge_to ≡ l.core.state.purge_to) (is_target_inflight cmp l.leader.progress.rows l.core.state) l.core (purge_log cmp l.core) refl
              (purge_case cmp total same (λ (c : Core C NID N E D R S). c.state.purge_to ≡ l.core.state.purge_to) l.core refl (λ x e q. refl) k.sound);
          vote = s.vote;
        };
        touches = record { others = λ u d. refl; set = refl; voters = refl };
      }

  -- and it is sent what comes next
  pub sent_next : (target : NID) (l : Led C NID N E D R S) (e : ProgressEntry NID) → get cmp l.leader.progress target ≡ Some e
      → Noted target l (send_next cmp config target l) (sent e (next_send l.core.state config.max_payload_entries e))
  unfolding send_next
  sent_next target l e h =
      subst (λ (o : Option (ProgressEntry NID)). Noted target l (elim o as (λ _. Led C NID N E D R S) [
        | None ↦ l
        | Some e ↦
            let r = next_send l.core.state config.max_payload_entries e in
            under (λ c. record c { output = queued c.output (send_commands false target r) }) (with_entry cmp l target (sent e r))
      ]) (sent e (next_send l.core.state config.max_payload_entries e)))
      (sym h)
      (record { has = put_row cmp target (sent e (next_send l.core.state config.max_payload_entries e)) e l.leader.progress.rows h; leaves = record { end = refl; purge_to = refl; vote = refl }; touches = sent_touch })
    where
      sent_touch : Touches cmp target l (under (λ c. record c { output = queued c.output (send_commands false target (next_send l.core.state config.max_payload_entries e)) }) (with_entry cmp l target (sent e (next_send l.core.state config.max_payload_entries e))))
      sent_touch = let t : Touches cmp target l (with_entry cmp l target (sent e (next_send l.core.state config.max_payload_entries e))) = touch_entry cmp target same (sent e (next_send l.core.state config.max_payload_entries e)) l in record { others = t.others; set = t.set; voters = t.voters }

  pub fits_of : (target : NID) (l : Led C NID N E D R S) → IsSoundLed cmp config l → (e : ProgressEntry NID) → get cmp l.leader.progress target ≡ Some e → EntryFits cmp l.core.state.ids l.core.state.purged e
  fits_of target l h e q = subst (λ o. IfSome o (EntryFits cmp l.core.state.ids l.core.state.purged)) q (row_each cmp (EntryFits cmp l.core.state.ids l.core.state.purged) target l.leader.progress.rows h.leader_fits.entries)

  -- an answer, handled
  pub record After (target : NID) (old new : Led C NID N E D R S) (was : ProgressEntry NID) : Type 0 where
    pub sound : IsSoundLed cmp config new
    pub leaves : Leaves old.core.state new.core.state
    pub entry : ProgressEntry NID
    pub has : get cmp new.leader.progress target ≡ Some entry
    pub same_gap : gap (next (last old.core.state.ids)) entry ≡ gap (next (last old.core.state.ids)) was
    pub matching : entry.matching ≡ was.matching
    pub serves : IsServed (last old.core.state.ids) entry
    pub above : next was.matching ≤ was.searching_end
    pub touches : Touches cmp target old new

  module _ (payload : 1 ≤ config.max_payload_entries) (target : NID) where
    -- a reply whose refusal isn't the leader's own
    pub entry_unrefused : (id : RequestId) (time : ℕ) (result : Result (Option (LogId NID)) (LogId NID)) (l : Led C NID N E D R S)
        → refusals_of_progress cmp config {T = Unit {0}} target id (Ok (record { sending_time = time; result = result })) l ≡ None
        → refusals_of_entry cmp target (λ e. refusals_of_result cmp {T = Unit {0}} l.core.state e id (Ok (record { sending_time = time; result = result }))) l.leader ≡ None
    entry_unrefused id time result l h = (test_fails (is_eq (cmp config.id target)) UnknownTarget _ (neither (refusals_of_counter_led l) _ h).1).1

    -- a leader is what it is by its leader and its state
    moved : (old m new : Led C NID N E D R S) (was : ProgressEntry NID) → new.leader ≡ m.leader → new.core.state ≡ m.core.state → After target old m was → After target old new was
    moved old m new was p q a =
        let soundness : IsSoundLed cmp config (record { leader = new.leader; core = record m.core { state = new.core.state } }) =
        subst (λ (g : JointLeader C NID N E D R S). IsSoundLed cmp config (record { leader = g; core = record m.core { state = new.core.state } })) (sym p)
        (subst (λ (s : RaftState NID N). IsSoundLed cmp config (record { leader = m.leader; core = record m.core { state = s } })) (sym q) a.sound) in
        record {
          sound = record { sound = soundness.sound; leader_fits = soundness.leader_fits };
          leaves = subst (λ (s : RaftState NID N). Leaves old.core.state s) (sym q) a.leaves;
          entry = a.entry;
          has = ap (λ (g : JointLeader C NID N E D R S). get cmp g.progress target) p ∙ a.has;
          same_gap = a.same_gap;
          matching = a.matching;
          serves = a.serves;
          above = a.above;
          touches = record { others = λ w d. ap (λ (g : JointLeader C NID N E D R S). get cmp g.progress w) p ∙ a.touches.others w d; set = ap (λ (g : JointLeader C NID N E D R S). g.progress.set) p ∙ a.touches.set; voters = ap (λ (g : JointLeader C NID N E D R S). map (λ (row : NID × ProgressEntry NID). row.0) (voter_rows g.progress)) p ∙ a.touches.voters };
        }

    -- a reply was noted: the node is sent what it lacks
    sent_after : (old taken : Led C NID N E D R S) (was : ProgressEntry NID) → Noted target old taken was → IsSoundLed cmp config taken → next old.core.state.purge_to < next (last old.core.state.ids) → was.inflight ≡ inflight.None
        → After target old (send_next cmp config target (purge_unless_inflight cmp taken)) was
    sent_after old taken was n sound u free =
        let left : Led C NID N E D R S = purge_unless_inflight cmp taken in
        let p : Noted target taken left was = purged target taken was sound n.has in
        let k : IsSoundLed cmp config left = purge_unless_kept cmp total same config taken sound in
        let f : EntryFits cmp left.core.state.ids left.core.state.purged was = fits_of target left k was p.has in
        let s : Noted target left (send_next cmp config target left) (sent was (next_send left.core.state config.max_payload_entries was)) = sent_next target left was p.has in
        let leaves : Leaves old.core.state left.core.state = leave_then old.core.state taken.core.state left.core.state n.leaves p.leaves in
        let end : next (last left.core.state.ids) ≡ next (last old.core.state.ids) = ap next leaves.end in
        let to : next left.core.state.purge_to ≡ next old.core.state.purge_to = ap next leaves.purge_to in
        record {
          sound = send_next_kept cmp total same config target left k;
          leaves = leave_then old.core.state left.core.state (send_next cmp config target left).core.state leaves s.leaves;
          entry = sent was (next_send left.core.state config.max_payload_entries was);
          has = s.has;
          same_gap = sent_gap (next (last old.core.state.ids)) was (next_send left.core.state config.max_payload_entries was);
          matching = sent_matching was (next_send left.core.state config.max_payload_entries was);
          serves = subst (λ o. IsServed o (sent was (next_send left.core.state config.max_payload_entries was))) leaves.end
              (serves cmp total same left.core.state k.sound config.max_payload_entries payload (omega (arith, u, end, to)) was f free);
          above = f.above;
          touches = touch_then cmp target old left (send_next cmp config target left) (touch_then cmp target old taken left n.touches p.touches) s.touches;
        }

    answered_after : (id : RequestId) (number time : ℕ) → number_of id ≡ Some number → (result : Result (Option (LogId NID)) (LogId NID)) (l : Led C NID N E D R S) (e : ProgressEntry NID) → get cmp l.leader.progress target ≡ Some e
        → Answers e.inflight result → IsSoundLed cmp config l → next l.core.state.purge_to < next (last l.core.state.ids)
        → refusals_of_progress cmp config {T = Unit {0}} target id (Ok (record { sending_time = time; result = result })) l ≡ None
        → After target l (answered cmp config target id time result l) (narrowed cmp e number result)
    unfolding update_progress
    answered_after id number time q result l e h a k u r =
        sent_after l (update_success_progress cmp config target id (record { sending_time = time; result = result }) l) (narrowed cmp e number result) (noted target id number time q result l e h)
        (success_kept cmp total same config target id (record { sending_time = time; result = result }) l (entry_unrefused id time result l r) k) u (freed cmp total e e.inflight number result refl a)

    pub failed_after : (old new : Led C NID N E D R S) (e : ProgressEntry NID) → get cmp old.leader.progress target ≡ Some e → IsSoundLed cmp config old → next old.core.state.purge_to < next (last old.core.state.ids) → Fails cmp config target old new
        → After target old new (silenced e)
    unfolding update_progress
    failed_after old new e h k u f =
        moved old (update_progress cmp config {T = Unit {0}} target f.request (Err tt) old) new (silenced e) f.leader f.state
        (sent_after old (update_failed_progress cmp target f.request old) (silenced e) (failure_noted target f.request old e f.numbered h) (failed_kept cmp total same config target f.request old k) u refl)

    -- the entry after the answer that is handled
    abbrev pub then_known : {old new : Led C NID N E D R S} → Handles cmp config target old new → ProgressEntry NID
    then_known h = narrowed cmp h.asked.entry (numbered h.asked.entry.inflight h.asked.busy).0 h.result

    pub handled_after : (old new : Led C NID N E D R S) → IsSoundLed cmp config old → next old.core.state.purge_to < next (last old.core.state.ids) → (h : Handles cmp config target old new) → After target old new (then_known h)
    handled_after old new k u h =
        moved old (answered cmp config target (request_of h.asked.entry.inflight) h.time h.result old) new (then_known h) h.leader h.state
        (answered_after (request_of h.asked.entry.inflight) (numbered h.asked.entry.inflight h.asked.busy).0 h.time (numbered h.asked.entry.inflight h.asked.busy).1 h.result old h.asked.entry h.asked.has h.answers k u h.unrefused)

    -- an answer to what was sent by what is known narrows the gap
    pub falls : (old new : Led C NID N E D R S) → (k : IsSoundLed cmp config old) → (u : next old.core.state.purge_to < next (last old.core.state.ids)) → (h : Handles cmp config target old new)
        → IsSent (next (last old.core.state.ids)) h.asked.entry ⊎ IsShipped (next (last old.core.state.ids)) h.asked.entry
        → gap (next (last old.core.state.ids)) (then_known h) < gap (next (last old.core.state.ids)) h.asked.entry
    falls old new k u h i = go i h.result h.answers (handled_after old new k u h).above
      where
        number : ℕ
        number = (numbered h.asked.entry.inflight h.asked.busy).0

        go : IsSent (next (last old.core.state.ids)) h.asked.entry ⊎ IsShipped (next (last old.core.state.ids)) h.asked.entry → (result : Result (Option (LogId NID)) (LogId NID)) → Answers h.asked.entry.inflight result
            → next (narrowed cmp h.asked.entry (numbered h.asked.entry.inflight h.asked.busy).0 result).matching ≤ (narrowed cmp h.asked.entry (numbered h.asked.entry.inflight h.asked.busy).0 result).searching_end
            → gap (next (last old.core.state.ids)) (narrowed cmp h.asked.entry (numbered h.asked.entry.inflight h.asked.busy).0 result) < gap (next (last old.core.state.ids)) h.asked.entry
        go (inl i) (Ok x) a g = matched_falls cmp (next (last old.core.state.ids)) h.asked.entry i x (subst (λ (f : Inflight NID). Answers f (Ok x)) i.is a)
        go (inl i) (Err x) a g = conflicted_falls cmp (next (last old.core.state.ids)) h.asked.entry i (numbered h.asked.entry.inflight h.asked.busy).0 x (subst (λ (f : Inflight NID). Answers f (Err x)) i.is a) g
        go (inr i) (Ok x) a g = shipped_falls cmp (next (last old.core.state.ids)) h.asked.entry i x (subst (λ (f : Inflight NID). Answers f (Ok x)) i.is a)
        go (inr i) (Err x) a g = absurd (subst (λ (f : Inflight NID). Answers f (Err x)) i.is a)

    asked_or : (l : Led C NID N E D R S) (e : ProgressEntry NID) → get cmp l.leader.progress target ≡ Some e → IsServed (last l.core.state.ids) e → IsAsked cmp target l ⊎ IsMatched cmp target l
    asked_or l e h (inl (inl i)) = inl (record { entry = e; has = h; busy = λ q. never_logs e.inflight i.number _ i.is q })
    asked_or l e h (inl (inr i)) = inl (record { entry = e; has = h; busy = λ q. never_snapshot e.inflight i.number i.upto i.is q })
    asked_or l e h (inr d) = inr (record { entry = e; has = h; free = d.free; matching = d.matching })

    -- rounds that begin with what was sent by what is known
    narrow : (k : ℕ) (old new : Led C NID N E D R S) (e : ProgressEntry NID) → IsSoundLed cmp config old → next old.core.state.purge_to < next (last old.core.state.ids) → get cmp old.leader.progress target ≡ Some e → IsServed (last old.core.state.ids) e
        → Rounds cmp config target k old new → (k ≤ gap (next (last old.core.state.ids)) e) × (IsAsked cmp target new ⊎ IsMatched cmp target new)
    narrow zero old new e k u h s r = (omega arith, subst (λ (l : Led C NID N E D R S). IsAsked cmp target l ⊎ IsMatched cmp target l) (sym r) (asked_or old e h s))
    narrow (suc n) old new e k u h s r =
        let g : Handles cmp config target old r.0 = r.1 in
        let same_entry : g.asked.entry ≡ e = one_entry (get cmp old.leader.progress target) g.asked.entry e g.asked.has h in
        let i : IsSent (next (last old.core.state.ids)) g.asked.entry ⊎ IsShipped (next (last old.core.state.ids)) g.asked.entry =
        subst (λ (x : ProgressEntry NID). IsSent (next (last old.core.state.ids)) x ⊎ IsShipped (next (last old.core.state.ids)) x) (sym same_entry) (only_sent g same_entry s) in
        let a : After target old r.0 (then_known g) = handled_after old r.0 k u g in
        let l : gap (next (last old.core.state.ids)) (then_known g) < gap (next (last old.core.state.ids)) g.asked.entry = falls old r.0 k u g i in
        let rest : (n ≤ gap (next (last r.0.core.state.ids)) a.entry) × (IsAsked cmp target new ⊎ IsMatched cmp target new) =
        narrow n r.0 new a.entry a.sound (still_low old r.0 a.leaves u) a.has (subst (λ o. IsServed o a.entry) (sym a.leaves.end) a.serves) r.2 in
        let few : n ≤ gap (next (last old.core.state.ids)) a.entry = subst (λ o. n ≤ gap (next o) a.entry) a.leaves.end rest.0 in
        let same_gap : gap (next (last old.core.state.ids)) a.entry ≡ gap (next (last old.core.state.ids)) (then_known g) = a.same_gap in
        let was : gap (next (last old.core.state.ids)) g.asked.entry ≡ gap (next (last old.core.state.ids)) e = ap (gap (next (last old.core.state.ids))) same_entry in
        (counted n _ _ _ _ few same_gap l was, rest.1)
      where
        counted : (n a b c d : ℕ) → n ≤ a → a ≡ b → b < c → c ≡ d → suc n ≤ d
        counted n a b c d h e l q = omega (arith, h, e, l, q)

        only_sent : (g : Handles cmp config target old r.0) → g.asked.entry ≡ e → IsServed (last old.core.state.ids) e → IsSent (next (last old.core.state.ids)) e ⊎ IsShipped (next (last old.core.state.ids)) e
        only_sent g q (inl i) = i
        only_sent g q (inr d) = absurd (g.asked.busy (ap (λ (x : ProgressEntry NID). x.inflight) q ∙ d.free))

    -- from any request in flight
    pub answers_end : (k : ℕ) (old new : Led C NID N E D R S) → IsSoundLed cmp config old → next old.core.state.purge_to < next (last old.core.state.ids) → IsAsked cmp target old → Rounds cmp config target k old new
        → (k ≤ 2 * next (last old.core.state.ids) + 1) × (IsAsked cmp target new ⊎ IsMatched cmp target new)
    answers_end zero old new k u i r = (omega arith, inl (subst (λ (l : Led C NID N E D R S). IsAsked cmp target l) (sym r) i))
    answers_end (suc n) old new k u i r =
        let g : Handles cmp config target old r.0 = r.1 in
        let a : After target old r.0 (then_known g) = handled_after old r.0 k u g in
        let rest : (n ≤ gap (next (last r.0.core.state.ids)) a.entry) × (IsAsked cmp target new ⊎ IsMatched cmp target new) =
        narrow n r.0 new a.entry a.sound (still_low old r.0 a.leaves u) a.has (subst (λ o. IsServed o a.entry) (sym a.leaves.end) a.serves) r.2 in
        let f : EntryFits cmp r.0.core.state.ids r.0.core.state.purged a.entry = fits_of target r.0 a.sound a.entry a.has in
        let most : gap (next (last r.0.core.state.ids)) a.entry ≤ 2 * next (last r.0.core.state.ids) = gap_most (next a.entry.matching) a.entry.searching_end (next (last r.0.core.state.ids)) f.below in
        let same_end : next (last r.0.core.state.ids) ≡ next (last old.core.state.ids) = ap next a.leaves.end in
        (counted n (gap (next (last r.0.core.state.ids)) a.entry) (next (last r.0.core.state.ids)) (next (last old.core.state.ids)) rest.0 most same_end, rest.1)
      where
        counted : (n g a b : ℕ) → n ≤ g → g ≤ 2 * a → a ≡ b → suc n ≤ 2 * b + 1
        counted n g a b h k e = omega (arith, h, k, e)
