-- What a leader queues as it handles an answer, or a failure: commands that feed nothing back, and leave its streams.
use Rattle.std.proofs.Common.{ℕ, ◌+◌, ◌≤◌, ◌≡◌, ◌⊎◌, inl, inr, Bool, true, false, List, [], ◌∷◌, ◌++◌, arith, refl, sym, ap, ◌∙◌, subst, Option, None, Some, Result, Ok, Err}
use Rattle.std.specs.Prelude.{if◌then◌else◌, nat_lt}
use Rattle.std.proofs.lemmas.List.{append-nil}
use Rattle.std.specs.List.{AllByRecursion}
use Rattle.std.specs.declared.cmp.Ordering.{Ordering}
use Rattle.std.specs.Ordering.{is_eq, is_gt, is_le}
use Rattle.proof_deeds.specs.raft_state.declared.ids.LogId.{LogId}
use Rattle.proof_deeds.specs.raft_state.declared.state.RaftState.{RaftState}
use Rattle.proof_deeds.specs.raft_state.Log.{from, last}
use Rattle.proof_deeds.specs.raft_state.Order.{last_id_cmp, leader_id_cmp, next}
use Rattle.proof_deeds.specs.raft_state.Policy.{should_snapshot}
use Rattle.proof_deeds.specs.raft_state.State.{commit, commits, purge, settle}
use Rattle.proof_deeds.proofs.raft_state_proofs.LogLists.{each_append}
use Rattle.proof_deeds.specs.raft_progress_entry.declared.entry.Inflight.{Inflight}
use Rattle.proof_deeds.specs.raft_progress_entry.declared.entry.Inflight.TheVariants as inflight
use Rattle.proof_deeds.specs.raft_progress_entry.declared.entry.ProgressEntry.{ProgressEntry}
use Rattle.proof_deeds.specs.raft_progress_entry.Entry.{conflicted, matched, next_send, sent, silenced}
use Rattle.proof_deeds.specs.raft_progress.Quorum.{is_quorum}
use Rattle.proof_deeds.specs.raft_progress.Table.{get}
use Rattle.proof_deeds.specs.raft_command.declared.command.Command.{Command}
use Rattle.proof_deeds.specs.raft_command.declared.command.Command.TheVariants as command
use Rattle.proof_deeds.specs.raft_command.declared.config.EngineConfig.{EngineConfig}
use Rattle.proof_deeds.specs.raft_command.declared.replication.ReplicationResult.{ReplicationResult}
use Rattle.proof_deeds.specs.raft_command.declared.replication.RequestId.{RequestId}
use Rattle.proof_deeds.specs.raft_command.declared.sm.CommandPayload.TheVariants.{BuildSnapshot}
use Rattle.proof_deeds.specs.raft_command.Push.{committed_upto, with_command}
use Rattle.proof_deeds.specs.raft_command.Queue.{queued}
use Rattle.proof_deeds.specs.raft_command.Replication.{number_of}
use Rattle.proof_deeds.specs.raft_proposer.Leader.{granted_id}
use Rattle.proof_deeds.specs.raft_steps.Commit.{commit_by}
use Rattle.proof_deeds.specs.raft_steps.LogHandler.{is_target_inflight, purge_log, try_purge_log}
use Rattle.proof_deeds.specs.raft_steps.Parts.{Core, Led, under}
use Rattle.proof_deeds.specs.raft_steps.Replies.{on_entry, purge_unless_inflight, send_next, take_reply, update_conflicting, update_failed_progress, update_leader_clock, update_matching, update_success_progress}
use Rattle.proof_deeds.specs.raft_steps.ReplicationHandler.{send_commands, try_commit_quorum_accepted, with_entry}
use Rattle.proof_deeds.specs.raft_steps.SnapshotHandler.{snapshot_where_due, trigger_snapshot}
use Rattle.proof_deeds.proofs.raft_steps_proofs.Allowed.{both_behind}
use Rattle.proof_deeds.proofs.raft_steps_proofs.Kept.{either, either_option}
use Rattle.proof_deeds.proofs.raft_steps_proofs.LawsQueue.{append_append, append_none}
use Rattle.proof_deeds.proofs.raft_steps_proofs.LawsReply.{entry_core}

-- such a command
abbrev pub IsLedCommand : {C NID N E D R S : Type 0} → Command C NID N E D R S → Type 0
IsLedCommand (command.Commit seq already upto) = Unit {0}
IsLedCommand (command.StateMachine c) = c.payload ≡ BuildSnapshot
IsLedCommand (command.PurgeLog upto) = Unit {0}
IsLedCommand (command.Replicate target f) = Unit {0}
IsLedCommand (command.ReplicateCommitted x) = Unit {0}
IsLedCommand _ = ⊥

-- a committed id is told to the other nodes
abbrev pub Tells : {C NID N E D R S : Type 0} → List (Command C NID N E D R S) → Option (LogId NID) → Type 0
Tells [] x = ⊥
Tells (command.ReplicateCommitted y ∷ cs) x = (y ≡ x) ⊎ Tells cs x
Tells (command.Commit seq already upto ∷ cs) x = Tells cs x
Tells (command.StateMachine c ∷ cs) x = Tells cs x
Tells (command.PurgeLog upto ∷ cs) x = Tells cs x
Tells (command.Replicate target f ∷ cs) x = Tells cs x
Tells (command.SaveVote v ∷ cs) x = Tells cs x
Tells (command.AppendInputEntries v es ∷ cs) x = Tells cs x
Tells (command.DeleteConflictLog since ∷ cs) x = Tells cs x
Tells (command.SendVote req ∷ cs) x = Tells cs x
Tells (command.RebuildReplicationStreams targets ∷ cs) x = Tells cs x
Tells (command.Respond when reply ∷ cs) x = Tells cs x
Tells (command.BecomeLeader ∷ cs) x = Tells cs x
Tells (command.QuitLeader ∷ cs) x = Tells cs x

module _ {C NID N E D R S : Type 0} where
  tells_here : (c : Command C NID N E D R S) (cs : List (Command C NID N E D R S)) (x : Option (LogId NID)) → Tells cs x → Tells (c ∷ cs) x
  tells_here (command.ReplicateCommitted y) cs x h = inr h
  tells_here (command.Commit seq already upto) cs x h = h
  tells_here (command.StateMachine c) cs x h = h
  tells_here (command.PurgeLog upto) cs x h = h
  tells_here (command.Replicate target f) cs x h = h
  tells_here (command.SaveVote v) cs x h = h
  tells_here (command.AppendInputEntries v es) cs x h = h
  tells_here (command.DeleteConflictLog since) cs x h = h
  tells_here (command.SendVote req) cs x h = h
  tells_here (command.RebuildReplicationStreams targets) cs x h = h
  tells_here (command.Respond when reply) cs x h = h
  tells_here command.BecomeLeader cs x h = h
  tells_here command.QuitLeader cs x h = h

  pub tells_behind : (xs ys : List (Command C NID N E D R S)) (x : Option (LogId NID)) → Tells ys x → Tells (xs ++ ys) x
  tells_behind [] ys x h = h
  tells_behind (c ∷ xs) ys x h = tells_here c (xs ++ ys) x (tells_behind xs ys x h)

  pub tells_before : (xs ys : List (Command C NID N E D R S)) (x : Option (LogId NID)) → Tells xs x → Tells (xs ++ ys) x
  tells_before [] ys x h = absurd h
  tells_before (command.ReplicateCommitted y ∷ xs) ys x (inl q) = inl q
  tells_before (command.ReplicateCommitted y ∷ xs) ys x (inr h) = inr (tells_before xs ys x h)
  tells_before (command.Commit seq already upto ∷ xs) ys x h = tells_before xs ys x h
  tells_before (command.StateMachine c ∷ xs) ys x h = tells_before xs ys x h
  tells_before (command.PurgeLog upto ∷ xs) ys x h = tells_before xs ys x h
  tells_before (command.Replicate target f ∷ xs) ys x h = tells_before xs ys x h
  tells_before (command.SaveVote v ∷ xs) ys x h = tells_before xs ys x h
  tells_before (command.AppendInputEntries v es ∷ xs) ys x h = tells_before xs ys x h
  tells_before (command.DeleteConflictLog since ∷ xs) ys x h = tells_before xs ys x h
  tells_before (command.SendVote req ∷ xs) ys x h = tells_before xs ys x h
  tells_before (command.RebuildReplicationStreams targets ∷ xs) ys x h = tells_before xs ys x h
  tells_before (command.Respond when reply ∷ xs) ys x h = tells_before xs ys x h
  tells_before (command.BecomeLeader ∷ xs) ys x h = tells_before xs ys x h
  tells_before (command.QuitLeader ∷ xs) ys x h = tells_before xs ys x h

module _ {C NID N E D R S : Type 0} where
  -- such commands are queued behind others, and at most so many numbers are drawn; the effective membership stays, and what is
  -- committed is told, if it changed
  pub record LedQueues (k : ℕ) (old new : Core C NID N E D R S) : Type 0 where
    pub added : List (Command C NID N E D R S)
    pub behind : new.output.items ≡ old.output.items ++ added
    pub each : AllByRecursion IsLedCommand added
    pub spent : new.output.spent ≡ old.output.spent
    pub seq : new.output.seq ≤ old.output.seq + k
    pub em : new.state.em ≡ old.state.em
    pub tells : (new.state.committed ≡ old.state.committed) ⊎ Tells added new.state.committed

  pub queues_then : (j k : ℕ) (a b c : Core C NID N E D R S) → LedQueues j a b → LedQueues k b c → LedQueues (j + k) a c
  queues_then j k a b c g h = record {
    added = g.added ++ h.added;
    behind = both_behind a.output.items b.output.items c.output.items g.added h.added g.behind h.behind;
    each = each_append IsLedCommand g.added h.added g.each h.each;
    spent = h.spent ∙ g.spent;
    seq = summed a.output.seq b.output.seq c.output.seq j k g.seq h.seq;
    em = h.em ∙ g.em;
    tells = told g.tells h.tells;
  }
    where
      told : (b.state.committed ≡ a.state.committed) ⊎ Tells g.added b.state.committed → (c.state.committed ≡ b.state.committed) ⊎ Tells h.added c.state.committed → (c.state.committed ≡ a.state.committed) ⊎ Tells (g.added ++ h.added) c.state.committed
      told (inl p) (inl q) = inl (q ∙ p)
      told (inr p) (inl q) = inr (tells_before g.added h.added c.state.committed (subst (Tells g.added) (sym q) p))
      told p (inr q) = inr (tells_behind g.added h.added c.state.committed q)

      summed : (x y z j k : ℕ) → y ≤ x + j → z ≤ y + k → z ≤ x + (j + k)
      summed x y z j k g h = omega (arith, g, h)

  pub queues_more : (j k : ℕ) (a b : Core C NID N E D R S) → j ≤ k → LedQueues j a b → LedQueues k a b
  queues_more j k a b l h = record { added = h.added; behind = h.behind; each = h.each; spent = h.spent; seq = wider a.output.seq b.output.seq j k l h.seq; em = h.em; tells = h.tells }
    where
      wider : (x y j k : ℕ) → j ≤ k → y ≤ x + j → y ≤ x + k
      wider x y j k l h = omega (arith, l, h)

  pub queues_here : (a b : Core C NID N E D R S) → b.output ≡ a.output → b.state.em ≡ a.state.em → b.state.committed ≡ a.state.committed → LedQueues 0 a b
  queues_here a b q m same = record {
    added = [];
    behind = ap (λ o. o.items) q ∙ append_none a.output.items;
    each = tt;
    spent = ap (λ o. o.spent) q;
    seq = subst (λ o. o.seq ≤ a.output.seq + 0) (sym q) (itself a.output.seq);
    em = m;
    tells = inl same;
  }
    where
      itself : (x : ℕ) → x ≤ x + 0
      itself x = omega arith

  -- a snapshot that is due
  due_queues : (config : EngineConfig NID) (c : Core C NID N E D R S) → LedQueues 1 c (snapshot_where_due config c)
  unfolding snapshot_where_due trigger_snapshot
  due_queues config c =
      either (LedQueues 1 c) (should_snapshot config.snapshot_policy c.state) _ _
      (either (LedQueues 1 c) c.state.building _ _ (queues_more 0 1 c c (omega arith) (queues_here c c refl refl refl))
      (record { added = command.StateMachine (record { seq = c.output.seq + 1; payload = BuildSnapshot }) ∷ []; behind = refl; each = (refl, tt); spent = refl; seq = itself c.output.seq; em = refl; tells = inl refl }))
      (queues_more 0 1 c c (omega arith) (queues_here c c refl refl refl))
    where
      itself : (x : ℕ) → x + 1 ≤ x + 1
      itself x = omega arith

module _ {NID N : Type 0} (cmp : NID → NID → Ordering) where
  -- commits and purges leave the effective membership
  settled_em : (s : RaftState NID N) (x : Option (LogId NID)) → (commit cmp s x).em ≡ s.em
  settled_em s x =
      either (λ (t : RaftState NID N). t.em ≡ s.em) (commits cmp s x) _ _
      (either (λ (t : RaftState NID N). t.em ≡ s.em) (is_le (last_id_cmp cmp s.em.log_id x)) (record s { cm = s.em }) s refl refl) refl

  pub purged_committed : (s : RaftState NID N) (x : LogId NID) → (purge cmp s x).committed ≡ s.committed
  purged_committed s x = either (λ (t : RaftState NID N). t.committed ≡ s.committed) (nat_lt x.index (next (last s.ids))) (record s { purged = Some x; ids = from x.index s.ids }) (record s { purged = Some x; ids = x ∷ [] }) refl refl

  committed_is : (s : RaftState NID N) (x : Option (LogId NID)) → commits cmp s x ≡ true → (commit cmp s x).committed ≡ x
  committed_is s x e = ap (λ b. let t : RaftState NID N = if b then record (settle cmp s x) { committed = x } else s in t.committed) e

  purged_em : (s : RaftState NID N) (x : LogId NID) → (purge cmp s x).em ≡ s.em
  purged_em s x = either (λ (t : RaftState NID N). t.em ≡ s.em) (nat_lt x.index (next (last s.ids))) (record s { purged = Some x; ids = from x.index s.ids }) (record s { purged = Some x; ids = x ∷ [] }) refl refl

module _ {C NID N E D R S : Type 0} (cmp : NID → NID → Ordering) (config : EngineConfig NID) where
  -- a commit, which is told
  pub commit_queues : (first : List (Command C NID N E D R S)) → AllByRecursion IsLedCommand first → (x : LogId NID) → Tells first (Some x) → (c : Core C NID N E D R S) → LedQueues 2 c (commit_by cmp config first (Some x) c)
  unfolding commit_by
  commit_queues first each x tells c = go (commits cmp c.state (Some x)) refl
    where
      itself : (x : ℕ) → x + 1 ≤ x + 1
      itself x = omega arith

      done : Core C NID N E D R S
      done = record { state = commit cmp c.state (Some x); output = committed_upto (queued c.output first) c.state.committed x }

      go : (b : Bool) → commits cmp c.state (Some x) ≡ b → LedQueues 2 c (if b then snapshot_where_due config done else c)
      go false e = queues_more 0 2 c c (omega arith) (queues_here c c refl refl refl)
      go true e =
          queues_then 1 1 c done (snapshot_where_due config done)
          (record {
            added = first ++ command.Commit (c.output.seq + 1) c.state.committed x ∷ [];
            behind = append_append c.output.items first _;
            each = each_append IsLedCommand first _ each (tt, tt);
            spent = refl;
            seq = itself c.output.seq;
            em = settled_em cmp c.state (Some x);
            tells = inr (subst (Tells (first ++ command.Commit (c.output.seq + 1) c.state.committed x ∷ [])) (sym (committed_is cmp c.state (Some x) e)) (tells_before first _ (Some x) tells));
          })
          (due_queues config done)

  pub granted_queues : (x : Option (LogId NID)) (c : Core C NID N E D R S) → LedQueues 2 c (try_commit_quorum_accepted cmp config x c)
  unfolding try_commit_quorum_accepted
  granted_queues None c = queues_more 0 2 c c (omega arith) (queues_here c c refl refl refl)
  granted_queues (Some x) c =
      either (LedQueues 2 c) (is_eq (leader_id_cmp cmp x.leader_id c.state.vote.leader_id)) _ _ (commit_queues (command.ReplicateCommitted (Some x) ∷ []) (tt, tt) x (inl refl) c) (queues_more 0 2 c c (omega arith) (queues_here c c refl refl refl))

  -- an answer, or a failure
  entry_queues : (target : NID) (f : ProgressEntry NID → ProgressEntry NID) (l : Led C NID N E D R S) → LedQueues 0 l.core (on_entry cmp target f l).core
  entry_queues target f l = subst (λ (c : Core C NID N E D R S). LedQueues 0 l.core c) (sym (entry_core cmp target f l)) (queues_here l.core l.core refl refl refl)

  matching_queues : (target : NID) (x : Option (LogId NID)) (l : Led C NID N E D R S) → LedQueues 2 l.core (update_matching cmp config target x l).core
  unfolding update_matching
  matching_queues target x l =
      let noted : Led C NID N E D R S = on_entry cmp target (λ e. matched cmp e x) l in
      queues_then 0 2 l.core noted.core _ (entry_queues target (λ e. matched cmp e x) l) (granted_queues (granted_id cmp (is_quorum cmp) noted.leader) noted.core)

  success_queues : (target : NID) (id : RequestId) (answer : ReplicationResult NID) (l : Led C NID N E D R S) → LedQueues 2 l.core (update_success_progress cmp config target id answer l).core
  unfolding update_success_progress update_leader_clock update_conflicting
  success_queues target id answer l = go answer.result (number_of id) where
    clocked : Led C NID N E D R S
    clocked = update_leader_clock cmp target answer.sending_time l

    go : (r : Result (Option (LogId NID)) (LogId NID)) (number : Option ℕ) → (let n = (elim r as (λ _. Led C NID N E D R S) [
      | Ok x ↦ elim number [ None ↦ clocked | Some _ ↦ update_matching cmp config target x clocked ]
      | Err x ↦ update_conflicting cmp target number x clocked
    ]) in LedQueues 2 l.core n.core)
    go (Ok x) None = queues_more 0 2 l.core l.core (omega arith) (queues_here l.core l.core refl refl refl)
    go (Ok x) (Some number) = matching_queues target x clocked
    go (Err x) number = queues_more 0 2 l.core _ (omega arith) (entry_queues target (λ e. conflicted e number x.index) clocked)

  reply_queues : {T : Type 0} (target : NID) (id : RequestId) (reply : Result (ReplicationResult NID) T) (l : Led C NID N E D R S) → LedQueues 2 l.core (take_reply cmp config target id reply l).core
  unfolding update_failed_progress
  reply_queues target id (Ok answer) l = success_queues target id answer l
  reply_queues target id (Err _) l =
      either_option (λ (n : Led C NID N E D R S). LedQueues 2 l.core n.core) (number_of id) l _ (queues_more 0 2 l.core l.core (omega arith) (queues_here l.core l.core refl refl refl))
      (λ number. queues_more 0 2 l.core _ (omega arith) (entry_queues target silenced l))

  -- a purge
  purge_queues : (l : Led C NID N E D R S) → LedQueues 0 l.core (purge_unless_inflight cmp l).core
  unfolding purge_unless_inflight try_purge_log purge_log
  purge_queues l =
      either (LedQueues 0 l.core) (is_target_inflight cmp l.leader.progress.rows l.core.state) l.core (purge_log cmp l.core) here
      (either_option (LedQueues 0 l.core) l.core.state.purge_to l.core
      (λ upto. if is_gt (last_id_cmp cmp (Some upto) l.core.state.purged) then record { state = purge cmp l.core.state upto; output = with_command l.core.output (command.PurgeLog upto) } else l.core) here
      (λ upto. either (LedQueues 0 l.core) (is_gt (last_id_cmp cmp (Some upto) l.core.state.purged)) (record { state = purge cmp l.core.state upto; output = with_command l.core.output (command.PurgeLog upto) }) l.core
      (record { added = command.PurgeLog upto ∷ []; behind = refl; each = (tt, tt); spent = refl; seq = itself l.core.output.seq; em = purged_em cmp l.core.state upto; tells = inl (purged_committed cmp l.core.state upto) }) here))
    where
      itself : (x : ℕ) → x ≤ x + 0
      itself x = omega arith

      here : LedQueues 0 l.core l.core
      here = queues_here l.core l.core refl refl refl

  -- all but what is sent is queued before it
  pub before_sent : {T : Type 0} (target : NID) (id : RequestId) (reply : Result (ReplicationResult NID) T) (l : Led C NID N E D R S) → LedQueues 2 l.core (purge_unless_inflight cmp (take_reply cmp config target id reply l)).core
  before_sent target id reply l =
      let taken : Led C NID N E D R S = take_reply cmp config target id reply l in
      queues_then 2 0 l.core taken.core (purge_unless_inflight cmp taken).core (reply_queues target id reply l) (purge_queues taken)

  -- what is sent next is queued last: the request for what is then in flight, or nothing
  pub record SendsLast (target : NID) (l n : Led C NID N E D R S) (was : ProgressEntry NID) : Type 0 where
    pub state : n.core.state ≡ l.core.state
    pub spent : n.core.output.spent ≡ l.core.output.spent
    pub seq : n.core.output.seq ≡ l.core.output.seq
    pub sends : (((sent was (next_send l.core.state config.max_payload_entries was)).inflight ≡ was.inflight) × (n.core.output.items ≡ l.core.output.items))
        ⊎ (n.core.output.items ≡ l.core.output.items ++ command.Replicate target (sent was (next_send l.core.state config.max_payload_entries was)).inflight ∷ [])

  pub sends_last : (target : NID) (l : Led C NID N E D R S) (was : ProgressEntry NID) → get cmp l.leader.progress target ≡ Some was → SendsLast target l (send_next cmp config target l) was
  unfolding send_next
  sends_last target l was h =
      subst (λ (o : Option (ProgressEntry NID)). SendsLast target l (elim o as (λ _. Led C NID N E D R S) [
        | None ↦ l
        | Some e ↦
            let r = next_send l.core.state config.max_payload_entries e in
            under (λ c. record c { output = queued c.output (send_commands false target r) }) (with_entry cmp l target (sent e r))
      ]) was)
      (sym h)
      (record { state = refl; spent = refl; seq = refl; sends = go (next_send l.core.state config.max_payload_entries was) })
    where
      Sends : Result (Inflight NID) (Inflight NID) → Type 0
      Sends r = (((sent was r).inflight ≡ was.inflight) × (l.core.output.items ++ send_commands {C = C} {NID = NID} {N = N} {E = E} {D = D} {R = R} {S = S} false target r ≡ l.core.output.items))
          ⊎ (l.core.output.items ++ send_commands {C = C} {NID = NID} {N = N} {E = E} {D = D} {R = R} {S = S} false target r ≡ l.core.output.items ++ command.Replicate target (sent was r).inflight ∷ [])

      go : (r : Result (Inflight NID) (Inflight NID)) → Sends r
      go (Ok f) = inr refl
      go (Err inflight.None) = inl (refl, append-nil l.core.output.items)
      go (Err (inflight.Logs id range)) = inl (refl, append-nil l.core.output.items)
      go (Err (inflight.Snapshot id upto)) = inl (refl, append-nil l.core.output.items)
