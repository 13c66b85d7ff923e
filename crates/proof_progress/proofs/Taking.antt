-- A node takes a leader's request: it follows, draws few numbers, and its answer is queued behind what it stores.
use Rattle.std.proofs.Common.{ℕ, ◌+◌, ◌-◌, ◌≤◌, ◌≡◌, Bool, true, false, not, ◌&&◌, List, [], ◌∷◌, ◌++◌, length, map, arith, refl, sym, ap, ◌∙◌, subst, Option, None, Some, Result, Ok, Err}
use Rattle.std.specs.Prelude.{◌==◌, drop, fold, if◌then◌else◌}
use Rattle.std.specs.Ordering.{is_eq, is_gt, is_le, nat_cmp}
use Rattle.std.proofs.lemmas.List.{append-nil}
use Rattle.proof_deeds.specs.raft_state.declared.ids.LogId.{LogId}
use Rattle.proof_deeds.specs.raft_state.declared.ids.Vote.{Vote}
use Rattle.proof_deeds.specs.raft_state.declared.membership.StoredMembership.{StoredMembership}
use Rattle.proof_deeds.specs.raft_state.declared.policy.RejectAppendEntries.{RejectAppendEntries}
use Rattle.proof_deeds.specs.raft_state.declared.policy.RejectAppendEntries.TheVariants as reject
use Rattle.proof_deeds.specs.raft_state.declared.state.RaftState.{RaftState}
use Rattle.proof_deeds.specs.raft_state.declared.state.ServerState.{ServerState}
use Rattle.proof_deeds.specs.raft_state.Log.{at, last}
use Rattle.proof_deeds.specs.raft_state.Members.{contains}
use Rattle.proof_deeds.specs.raft_state.Order.{last_id_cmp, vote_cmp}
use Rattle.proof_deeds.specs.raft_state.Policy.{should_snapshot}
use Rattle.proof_deeds.specs.raft_state.Same.{nat_same}
use Rattle.proof_deeds.specs.raft_state.State.{accept, accepted, accepted_under, append_membership, commit, commits, extend, has_log_id, truncate, undoes_membership}
use Rattle.proof_deeds.specs.raft_command.declared.command.Command.TheVariants.{Commit, DeleteConflictLog, Respond, SaveVote, StateMachine}
use Rattle.proof_deeds.specs.raft_command.declared.config.EngineConfig.{EngineConfig}
use Rattle.proof_deeds.specs.raft_command.declared.message.AppendEntriesResponse.{AppendEntriesResponse}
use Rattle.proof_deeds.specs.raft_command.declared.message.AppendEntriesResponse.TheVariants.{Conflict}
use Rattle.proof_deeds.specs.raft_command.declared.respond.Respond.TheVariants as respond
use Rattle.proof_deeds.specs.raft_command.declared.sm.CommandPayload.TheVariants.{BuildSnapshot}
use Rattle.proof_deeds.specs.raft_command.Message.{append_response}
use Rattle.proof_deeds.specs.raft_command.Push.{committed_upto, with_command}
use Rattle.proof_deeds.specs.raft_command.Queue.{Queue, queued}
use Rattle.proof_deeds.specs.raft_steps.Commit.{commit_by}
use Rattle.proof_deeds.specs.raft_steps.FollowingHandler.{commit_entries, commit_target, consecutive_answer, do_append_entries, ensure_log_consecutive, holds_previous, memberships_in, new_entries, truncate_for, truncate_logs, with_entries}
use Rattle.proof_deeds.specs.raft_steps.FollowingHandler as following
use Rattle.proof_deeds.specs.raft_steps.Laws.{QueuesOnly, later}
use Rattle.proof_deeds.specs.raft_steps.Parts.{Core, on_core, then_command, with_state}
use Rattle.proof_deeds.specs.raft_steps.Requests.{append_answer, append_entries, follow, handle_append_entries, handle_commit_entries, replied}
use Rattle.proof_deeds.specs.raft_steps.ServerStateHandler.{update_role}
use Rattle.proof_deeds.specs.raft_steps.SnapshotHandler.{snapshot_where_due, trigger_snapshot}
use Rattle.proof_deeds.specs.raft_steps.VoteHandler.{become_following, become_leader, rejects_vote, update_internal_server_state, update_vote}
use Rattle.proof_deeds.proofs.raft_steps_proofs.Allowed.{only_here, only_of, only_then}
use Rattle.proof_deeds.proofs.raft_steps_proofs.Kept.{either, either_option}
use Rattle.proof_deeds.proofs.raft_steps_proofs.Leads.{no_order, vote_same}
use Rattle.proof_deeds.proofs.raft_steps_proofs.Marks.{follow_marks}
use Rattle.proof_deeds.specs.raft_store.declared.config.WorldConfig.{WorldConfig}
use Rattle.proof_deeds.specs.raft_store.declared.entry.Entry.{Entry}
use Rattle.proof_deeds.specs.raft_store.Entries.{entry_meaning}
use Rattle.proof_deeds.specs.raft_store.Types.{WorldCommand, WorldMachine}
use Rattle.proof_deeds.specs.raft_calls.Deliveries.{reply_token}

abbrev pub WorldCore : Type 0
WorldCore = Core WorldConfig ℕ (Unit {0}) Entry ℕ ℕ (List Entry)

-- the vote stays, the queue isn't spent, and at most so many numbers are drawn
pub record Calm (k : ℕ) (old new : WorldCore) : Type 0 where
  pub vote : new.state.vote ≡ old.state.vote
  pub spent : new.output.spent ≡ old.output.spent
  pub seq : new.output.seq ≤ old.output.seq + k

at_most : (x k : ℕ) → x ≤ x + k
at_most x k = omega arith

calm_self : (k : ℕ) (c : WorldCore) → Calm k c c
calm_self k c = record { vote = refl; spent = refl; seq = at_most c.output.seq k }

pub calm_then : (j k : ℕ) (a b c : WorldCore) → Calm j a b → Calm k b c → Calm (j + k) a c
calm_then j k a b c h g = record { vote = g.vote ∙ h.vote; spent = g.spent ∙ h.spent; seq = summed a.output.seq b.output.seq c.output.seq j k h.seq g.seq }
  where
    summed : (x y z j k : ℕ) → y ≤ x + j → z ≤ y + k → z ≤ x + (j + k)
    summed x y z j k g h = omega (arith, g, h)

joined_vote : (ms : List (StoredMembership ℕ (Unit {0}))) (s : RaftState ℕ (Unit {0})) → (fold append_membership s ms).vote ≡ s.vote
joined_vote [] s = refl
joined_vote (m ∷ ms) s = joined_vote ms (append_membership s m)

module _ (config : EngineConfig ℕ) where
  role_calm : (k : ℕ) (c d : WorldCore) → Calm k c d → Calm k c (update_role nat_cmp config d)
  unfolding update_role
  role_calm k c d h = record { vote = h.vote; spent = h.spent; seq = h.seq }

  -- entries are cut, and appended
  cut_calm : (i : ℕ) (c : WorldCore) → Calm 0 c (truncate_logs nat_cmp config i c)
  unfolding truncate_logs
  cut_calm i c =
      either_option (Calm 0 c) (at c.state.ids i) c _ (calm_self 0 c)
      (λ first. let cut : WorldCore = record { state = truncate c.state i; output = with_command c.output (DeleteConflictLog first) } in
      let k : Calm 0 c cut = record { vote = either (λ (s : RaftState ℕ (Unit {0})). s.vote ≡ c.state.vote) (undoes_membership c.state i) _ _ refl refl; spent = refl; seq = at_most c.output.seq 0 } in
      either (Calm 0 c) (not (undoes_membership c.state i)) cut (update_role nat_cmp config cut) k (role_calm 0 c cut k))

  cut_for_calm : (es : List Entry) (c : WorldCore) → Calm 0 c (truncate_for nat_cmp entry_meaning config es c)
  cut_for_calm [] c = calm_self 0 c
  cut_for_calm (e ∷ es) c = cut_calm (entry_meaning.id_of e).index c

  do_calm : (es : List Entry) (c : WorldCore) → Calm 0 c (do_append_entries nat_cmp entry_meaning config es c)
  unfolding do_append_entries
  do_calm es c =
      let taken : WorldCore = with_state c (with_entries entry_meaning c.state es) in
      let k : Calm 0 c taken = record { vote = joined_vote (drop (length (memberships_in entry_meaning es) - 2) (memberships_in entry_meaning es)) (extend c.state (map entry_meaning.id_of es)); spent = refl; seq = at_most c.output.seq 0 } in
      let settled : Calm 0 c (if length (memberships_in entry_meaning es) == 0 then taken else update_role nat_cmp config taken) =
      either (Calm 0 c) (length (memberships_in entry_meaning es) == 0) taken (update_role nat_cmp config taken) k (role_calm 0 c taken k) in
      either (Calm 0 c) (length es == 0) c _ (calm_self 0 c) (record { vote = settled.vote; spent = settled.spent; seq = settled.seq })

  append_calm : (prev : Option (LogId ℕ)) (es : List Entry) (c : WorldCore) → Calm 0 c (following.append_entries nat_cmp entry_meaning config prev es c)
  unfolding following.append_entries
  append_calm prev es c =
      let y : Option (LogId ℕ) = later nat_cmp prev (last (map entry_meaning.id_of es)) in
      let noted : WorldCore = with_state c (accept nat_cmp c.state (later nat_cmp prev (last (map entry_meaning.id_of es)))) in
      let new : List Entry = new_entries nat_cmp entry_meaning c.state es in
      let cut : WorldCore = truncate_for nat_cmp entry_meaning config (new_entries nat_cmp entry_meaning c.state es) noted in
      calm_then 0 0 c noted (do_append_entries nat_cmp entry_meaning config (new_entries nat_cmp entry_meaning c.state es) cut)
      (record { vote = accepted_vote c.state y; spent = refl; seq = at_most c.output.seq 0 })
      (calm_then 0 0 noted cut (do_append_entries nat_cmp entry_meaning config (new_entries nat_cmp entry_meaning c.state es) cut) (cut_for_calm (new_entries nat_cmp entry_meaning c.state es) noted) (do_calm (new_entries nat_cmp entry_meaning c.state es) cut))
    where
      accepted_vote : (s : RaftState ℕ (Unit {0})) (x : Option (LogId ℕ)) → (accept nat_cmp s x).vote ≡ s.vote
      accepted_vote s x = either (λ (t : RaftState ℕ (Unit {0})). t.vote ≡ s.vote) (is_gt (last_id_cmp nat_cmp x (accepted nat_cmp s))) _ _ refl refl

  consecutive_calm : (prev : Option (LogId ℕ)) (c : WorldCore) → Calm 0 c (ensure_log_consecutive nat_cmp config prev c)
  unfolding ensure_log_consecutive
  consecutive_calm None c = calm_self 0 c
  consecutive_calm (Some x) c = either (Calm 0 c) _ _ _ (calm_self 0 c) (cut_calm x.index c)

  follow_calm : (prev : Option (LogId ℕ)) (es : List Entry) (c : WorldCore) → Calm 0 c (follow nat_cmp entry_meaning config prev es c)
  unfolding follow
  follow_calm prev es c = either (Calm 0 c) (holds_previous nat_cmp c.state prev) _ _ (append_calm prev es c) (consecutive_calm prev c)

  -- what the leader says is committed is
  due_calm : (c : WorldCore) → Calm 1 c (snapshot_where_due config c)
  unfolding snapshot_where_due trigger_snapshot
  due_calm c =
      either (Calm 1 c) (should_snapshot config.snapshot_policy c.state) _ _
      (either (Calm 1 c) c.state.building _ _ (calm_self 1 c) (record { vote = refl; spent = refl; seq = one_more c.output.seq })) (calm_self 1 c)
    where
      one_more : (x : ℕ) → x + 1 ≤ x + 1
      one_more x = omega arith

  commit_calm : (x : Option (LogId ℕ)) (c : WorldCore) → Calm 2 c (commit_by nat_cmp config [] x c)
  unfolding commit_by
  commit_calm None c = calm_self 2 c
  commit_calm (Some x) c =
      let done : WorldCore = record { state = commit nat_cmp c.state (Some x); output = committed_upto (queued c.output []) c.state.committed x } in
      either (Calm 2 c) (commits nat_cmp c.state (Some x)) (snapshot_where_due config done) c
      (calm_then 1 1 c done (snapshot_where_due config done) (record { vote = settled_vote c.state; spent = refl; seq = one_more c.output.seq }) (due_calm done)) (calm_self 2 c)
    where
      one_more : (x : ℕ) → x + 1 ≤ x + 1
      one_more x = omega arith

      settled_vote : (s : RaftState ℕ (Unit {0})) → (commit nat_cmp s (Some x)).vote ≡ s.vote
      settled_vote s =
          either (λ (t : RaftState ℕ (Unit {0})). t.vote ≡ s.vote) (commits nat_cmp s (Some x)) _ _
          (either (λ (t : RaftState ℕ (Unit {0})). t.vote ≡ s.vote) (is_le (last_id_cmp nat_cmp s.em.log_id (Some x))) (record s { cm = s.em }) s refl refl) refl

  pub handle_commit_calm : (x : Option (LogId ℕ)) (m : WorldMachine) → Calm 2 m.core (handle_commit_entries nat_cmp entry_meaning config x m).core
  unfolding handle_commit_entries commit_entries
  handle_commit_calm x m = commit_calm (commit_target nat_cmp m.core.state x) m.core

  -- it queues a commit, and a snapshot if one is due
  commit_queues : (P : WorldCommand → Type 0) → ((seq : ℕ) (a : Option (LogId ℕ)) (b : LogId ℕ) → P (Commit seq a b)) → ((seq : ℕ) → P (StateMachine (record { seq = seq; payload = BuildSnapshot })))
      → (x : Option (LogId ℕ)) (c : WorldCore) → QueuesOnly P c (commit_by nat_cmp config [] x c)
  unfolding commit_by snapshot_where_due trigger_snapshot
  commit_queues P by_commit by_build None c = only_here P c c refl
  commit_queues P by_commit by_build (Some x) c =
      let after : WorldCore = record { state = commit nat_cmp c.state (Some x); output = committed_upto (queued c.output []) c.state.committed x } in
      let with_commit : QueuesOnly P c after =
      only_of P (Commit (c.output.seq + 1) c.state.committed x ∷ []) c after (ap (λ (cs : List WorldCommand). cs ++ Commit (c.output.seq + 1) c.state.committed x ∷ []) (append-nil c.output.items)) (by_commit (c.output.seq + 1) c.state.committed x, tt) in
      either (QueuesOnly P c) (commits nat_cmp c.state (Some x)) _ _
      (only_then P c after (snapshot_where_due config after) with_commit
      (either (QueuesOnly P after) (should_snapshot config.snapshot_policy after.state) _ _
      (either (QueuesOnly P after) after.state.building _ _ (only_here P after after refl)
      (only_of P (StateMachine (record { seq = after.output.seq + 1; payload = BuildSnapshot }) ∷ []) after _ refl (by_build (after.output.seq + 1), tt)))
      (only_here P after after refl)))
      (only_here P c c refl)

  pub handle_commit_queues : (P : WorldCommand → Type 0) → ((seq : ℕ) (a : Option (LogId ℕ)) (b : LogId ℕ) → P (Commit seq a b)) → ((seq : ℕ) → P (StateMachine (record { seq = seq; payload = BuildSnapshot })))
      → (x : Option (LogId ℕ)) (m : WorldMachine) → QueuesOnly P m.core (handle_commit_entries nat_cmp entry_meaning config x m).core
  unfolding handle_commit_entries commit_entries
  handle_commit_queues P by_commit by_build x m = commit_queues P by_commit by_build (commit_target nat_cmp m.core.state x) m.core

  -- another node's vote that isn't below this node's is adopted: the node follows, and no number is drawn
  other_follows : (P : WorldMachine → Type 0) (m : WorldMachine) → is_eq (nat_cmp m.core.state.vote.leader_id.node_id config.id) ≡ false
      → P (become_following nat_cmp config m) → P (update_internal_server_state nat_cmp entry_meaning config m)
  unfolding update_internal_server_state
  other_follows P m other p = go (is_eq (nat_cmp m.core.state.vote.leader_id.node_id config.id)) other where
    go : (b : Bool) → b ≡ false
        → P (if (b && contains nat_cmp m.core.state.em.membership config.id) && m.core.state.vote.committed then become_leader nat_cmp entry_meaning config m
        else if b && contains nat_cmp m.core.state.em.membership config.id then m
        else become_following nat_cmp config m)
    go true e = cc
    go false e = p

  heard_case : (P : WorldMachine → Type 0) (v : Vote ℕ) (now : ℕ) (m : WorldMachine) → rejects_vote nat_cmp m.core.state v ≡ false → is_eq (nat_cmp v.leader_id.node_id config.id) ≡ false
      → ((role : ServerState) (q : Queue WorldCommand) → q.spent ≡ m.core.output.spent → q.seq ≡ m.core.output.seq → P (record { core = record { state = record m.core.state { vote = v; time = Some now; role = role }; output = q }; leader = None; candidate = None }))
      → P (update_vote nat_cmp entry_meaning config v now m)
  unfolding update_vote become_following update_role
  heard_case P v now m low other p = else_of (rejects_vote nat_cmp m.core.state v) _ _ low (go (is_gt (vote_cmp nat_cmp v m.core.state.vote)) refl) where
    else_of : (b : Bool) (x y : WorldMachine) → b ≡ false → P y → P (if b then x else y)
    else_of true x y e q = cc
    else_of false x y e q = q

    go : (b : Bool) → is_gt (vote_cmp nat_cmp v m.core.state.vote) ≡ b
        → P (update_internal_server_state nat_cmp entry_meaning config
        (on_core (λ c. if b then then_command (with_state c (record c.state { vote = v; time = Some now })) (SaveVote v) else with_state c (record c.state { time = Some now })) m))
    go true e = other_follows P (on_core (λ c. then_command (with_state c (record c.state { vote = v; time = Some now })) (SaveVote v)) m) other (p _ _ refl refl)
    go false e =
        let own : v ≡ m.core.state.vote = vote_same nat_cmp nat_same v m.core.state.vote (no_order _ low e) in
        other_follows P (on_core (λ c. with_state c (record c.state { time = Some now })) m) (subst (λ (w : Vote ℕ). is_eq (nat_cmp w.leader_id.node_id config.id) ≡ false) own other)
        (subst (λ (w : Vote ℕ). (role : ServerState) (q : Queue WorldCommand) → q.spent ≡ m.core.output.spent → q.seq ≡ m.core.output.seq → P (record { core = record { state = record m.core.state { vote = w; time = Some now; role = role }; output = q }; leader = None; candidate = None })) own p _ _ refl refl)

  -- what it has accepted of the vote's leader stays, as it hears of the vote again
  pub heard_accepted : (v : Vote ℕ) (now : ℕ) (m : WorldMachine) → rejects_vote nat_cmp m.core.state v ≡ false → is_eq (nat_cmp v.leader_id.node_id config.id) ≡ false → m.core.state.vote ≡ v
      → accepted nat_cmp (update_vote nat_cmp entry_meaning config v now m).core.state ≡ accepted nat_cmp m.core.state
  heard_accepted v now m low other same =
      heard_case (λ (n : WorldMachine). accepted nat_cmp n.core.state ≡ accepted nat_cmp m.core.state) v now m low other (λ role q spent seq. ap (λ (w : Vote ℕ). accepted_under nat_cmp w.leader_id m.core.state.accepted_by) (sym same))

  -- a node that has taken a request: it follows the leader, and the answer is queued last
  pub record Took (v : Vote ℕ) (response : AppendEntriesResponse ℕ) (old new : WorldMachine) : Type 0 where
    pub leader : new.leader ≡ None
    pub candidate : new.candidate ≡ None
    pub vote : new.core.state.vote ≡ v
    pub spent : new.core.output.spent ≡ old.core.output.spent
    pub seq : new.core.output.seq ≤ old.core.output.seq + 0
    pub committed : new.core.state.committed ≡ old.core.state.committed
    pub before : List WorldCommand
    pub answers : new.core.output.items ≡ before ++ Respond None (respond.AppendEntries (record { value = response; token = reply_token })) ∷ []

  pub took : (v : Vote ℕ) (prev : Option (LogId ℕ)) (es : List Entry) (now : ℕ) (m : WorldMachine) → rejects_vote nat_cmp m.core.state v ≡ false → is_eq (nat_cmp v.leader_id.node_id config.id) ≡ false
      → Took v (append_response (append_answer nat_cmp entry_meaning config v prev now m)) m (handle_append_entries nat_cmp entry_meaning config v prev es (Some reply_token) now m)
  unfolding handle_append_entries append_entries
  took v prev es now m low other = go (rejects_vote nat_cmp m.core.state v) low
    where
      go : (b : Bool) → b ≡ false
          → Took v (append_response (append_answer nat_cmp entry_meaning config v prev now m)) m (on_core (λ c. record c { output = replied (Some reply_token) (append_response (append_answer nat_cmp entry_meaning config v prev now m)) c.output }) (if b then m else on_core (follow nat_cmp entry_meaning config prev es) (update_vote nat_cmp entry_meaning config v now m)))
      go true e = cc
      go false e =
          heard_case (λ (n : WorldMachine). Took v (append_response (append_answer nat_cmp entry_meaning config v prev now m)) m (on_core (λ c. record c { output = replied (Some reply_token) (append_response (append_answer nat_cmp entry_meaning config v prev now m)) c.output }) (on_core (follow nat_cmp entry_meaning config prev es) n))) v now m low other
          (λ role q spent seq. let c : WorldCore = record { state = record m.core.state { vote = v; time = Some now; role = role }; output = q } in
          let k : Calm 0 c (follow nat_cmp entry_meaning config prev es c) = follow_calm prev es c in
          record {
            leader = refl;
            candidate = refl;
            vote = k.vote;
            spent = k.spent ∙ spent;
            seq = subst (λ n. (follow nat_cmp entry_meaning config prev es c).output.seq ≤ n + 0) seq k.seq;
            committed = (follow_marks nat_cmp entry_meaning config prev es c).committed;
            before = (follow nat_cmp entry_meaning config prev es c).output.items;
            answers = refl;
          })

  -- a conflict says that the id before the entries isn't held
  pub conflict_lacks : (v : Vote ℕ) (x : LogId ℕ) (now : ℕ) (m : WorldMachine) → rejects_vote nat_cmp m.core.state v ≡ false → is_eq (nat_cmp v.leader_id.node_id config.id) ≡ false
      → append_response (append_answer nat_cmp entry_meaning config v (Some x) now m) ≡ Conflict → has_log_id nat_cmp m.core.state x ≡ false
  unfolding append_answer
  conflict_lacks v x now m low other = go (rejects_vote nat_cmp m.core.state v) low
    where
      lacks : (b : Bool) (y : Option (LogId ℕ)) → (let a : Result (Unit {0}) (RejectAppendEntries ℕ) = if b then Ok tt else Err (reject.ByConflictingLogId y x) in append_response a ≡ Conflict) → b ≡ false
      lacks true y q = cc
      lacks false y q = refl

      go : (b : Bool) → b ≡ false
          → (let a : Result (Unit {0}) (RejectAppendEntries ℕ) = if b then Err (reject.ByVote m.core.state.vote) else consecutive_answer nat_cmp (update_vote nat_cmp entry_meaning config v now m).core.state (Some x) in append_response a ≡ Conflict)
          → has_log_id nat_cmp m.core.state x ≡ false
      go true e q = cc
      go false e q =
          heard_case (λ (n : WorldMachine). append_response (consecutive_answer nat_cmp n.core.state (Some x)) ≡ Conflict → has_log_id nat_cmp m.core.state x ≡ false) v now m low other
          (λ role q spent seq. lacks (has_log_id nat_cmp m.core.state x) (at m.core.state.ids x.index)) q
