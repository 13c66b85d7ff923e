-- What each call queues: the votes that it saves, and its sequence numbers.
use Rattle.std.specs.Prelude.{◌≡◌, ℕ, ◌+◌, ◌-◌, ◌==◌, Bool, true, false, List, [], ◌∷◌, ◌++◌, Option, None, Some, Result, Ok, Err, refl, length, map, filter, filter_map, flat_map, drop, if◌then◌else◌}
use Rattle.std.proofs.Common.{ap, sym, ◌∙◌, subst}
use Rattle.std.proofs.lemmas.List.Elements.{filter_map-append}
use Rattle.std.specs.declared.cmp.Ordering.{Ordering}
use Rattle.std.specs.Ordering.{is_eq, is_lt, is_le, is_gt, is_ge}
use Rattle.std.specs.Cmp.{IsTotalOrder}
use Rattle.raft_state.specs.declared.config.RaftEntry
use Rattle.raft_state.specs.declared.ids.LogId.{LogId}
use Rattle.raft_state.specs.declared.ids.Vote.{Vote}
use Rattle.raft_state.specs.declared.membership.StoredMembership.{StoredMembership}
use Rattle.raft_state.specs.declared.state.RaftState.{RaftState}
use Rattle.raft_state.specs.declared.state.ServerState.{ServerState}
use Rattle.raft_state.specs.declared.state.ServerState.TheVariants as role
use Rattle.raft_state.specs.Order.{last_id_cmp, leader_id_cmp, vote_cmp}
use Rattle.raft_state.specs.Log.{last}
use Rattle.raft_state.specs.Policy.{should_snapshot}
use Rattle.raft_state.specs.State.{append_membership, extend, commit, commits, server_state, is_leader, is_leading, by_last_leader}
use Rattle.raft_state.proofs.Orders.{lt_of_gt, le_refl, le_trans, lt_is_le, lt_le, lt_not_ge, vote_total}
use Rattle.raft_progress_entry.specs.declared.entry.Inflight.{Inflight}
use Rattle.raft_progress_entry.specs.declared.entry.Inflight.TheVariants as inflight
use Rattle.raft_progress_entry.specs.declared.entry.ProgressEntry.{ProgressEntry}
use Rattle.raft_progress_entry.specs.Entry.{next_send}
use Rattle.raft_proposer.specs.raft_progress.Quorum.{is_quorum}
use Rattle.raft_proposer.specs.raft_progress.Table.{get}
use Rattle.raft_command.specs.declared.command.Command.{Command}
use Rattle.raft_command.specs.declared.command.Command.TheVariants as command
use Rattle.raft_command.specs.declared.message.VoteResponse.{VoteResponse}
use Rattle.raft_command.specs.declared.respond.Respond.{Respond}
use Rattle.raft_command.specs.declared.sm.CommandPayload.TheVariants.{BuildSnapshot}
use Rattle.raft_command.specs.declared.config.EngineConfig.{EngineConfig}
use Rattle.raft_command.specs.Queue.{queued}
use Rattle.raft_command.specs.Push.{committed_upto}
use Rattle.raft_steps.specs.Parts.{Core, Led, Machine, then_command, with_state, under, on_core, leading, on_leader}
use Rattle.raft_proposer.specs.Joint.{JointLeader, JointCandidate}
use Rattle.raft_proposer.specs.Candidate.{candidate_of, into_leader, grant_by, is_granted}
use Rattle.raft_steps.specs.Commit.{commit_by}
use Rattle.raft_steps.specs.Engine.{default_log_id, as_uncommitted, is_granted_to, may_establish, elect, lead_by_votes, take_rejection, take_grant, handle_vote_resp, initialize}
use Rattle.raft_steps.specs.FollowingHandler.{do_append_entries, with_entries, memberships_in}
use Rattle.raft_steps.specs.Laws.{saved_vote, deleted_from, sequence_number, CountTo, RiseTo, Queues}
use Rattle.raft_proposer.specs.Leader.{assigned, leader_in, granted_id}
use Rattle.raft_steps.specs.LeaderHandler.{proposed, last_proposed, joined, leader_append_entries}
use Rattle.raft_steps.specs.ReplicationHandler.{is_other, silenced_row, send_commands, sends_of, own_matched, with_entry, rebuild_progresses, rebuild_replication_streams, initiate_replication, append_membership_led, try_commit_quorum_accepted, update_local_progress}
use Rattle.raft_steps.specs.ServerStateHandler.{role_commands, update_role}
use Rattle.raft_steps.specs.SnapshotHandler.{trigger_snapshot, snapshot_where_due}
use Rattle.raft_steps.specs.VoteHandler.{become_following, take_vote, rejects_vote, begin_lead, lead_anew, become_leader, update_internal_server_state, update_vote}
use Rattle.raft_steps.proofs.Kept.{either, either_option}
use Rattle.raft_steps.proofs.KeptEngine.{joined_vote}

pub append_none : {X : Type 0} (xs : List X) → xs ≡ xs ++ []
append_none [] = refl
append_none (x ∷ xs) = ap (λ ys. x ∷ ys) (append_none xs)

pub append_append : {X : Type 0} (xs ys zs : List X) → (xs ++ ys) ++ zs ≡ xs ++ (ys ++ zs)
append_append [] ys zs = refl
append_append (x ∷ xs) ys zs = ap (λ s. x ∷ s) (append_append xs ys zs)

counts_append : (a : ℕ) (xs ys : List ℕ) (b c : ℕ) → CountTo a xs b → CountTo b ys c → CountTo a (xs ++ ys) c
counts_append a [] ys b c h k = subst (λ n. CountTo n ys c) h k
counts_append a (x ∷ xs) ys b c h k = (h.0, counts_append x xs ys b c h.1 k)

module _ {NID : Type 0} (cmp : NID → NID → Ordering) where
  rises_append : (a : Vote NID) (xs ys : List (Vote NID)) (b c : Vote NID) → RiseTo cmp a xs b → RiseTo cmp b ys c → RiseTo cmp a (xs ++ ys) c
  rises_append a [] ys b c h k = subst (λ v. RiseTo cmp v ys c) h k
  rises_append a (x ∷ xs) ys b c h k = (h.0, rises_append x xs ys b c h.1 k)

module _ {NID : Type 0} (cmp : NID → NID → Ordering) (total : IsTotalOrder cmp) where
  -- a vote that rises is not lowered
  pub risen_le : (first : Vote NID) (vs : List (Vote NID)) (last : Vote NID) → RiseTo cmp first vs last → is_le (vote_cmp cmp first last) ≡ true
  risen_le first [] last h = subst (λ v. is_le (vote_cmp cmp first v) ≡ true) (sym h) (le_refl (vote_total cmp total) first)
  risen_le first (v ∷ vs) last h = le_trans (vote_total cmp total) first v last (lt_is_le _ h.0) (risen_le v vs last h.1)

  -- and is saved exactly where it grows
  pub saved_where_grown : (first : Vote NID) (vs : List (Vote NID)) (last : Vote NID) → RiseTo cmp first vs last → is_lt (vote_cmp cmp first last) ≡ elim vs [ [] ↦ false | v ∷ rest ↦ true ]
  saved_where_grown first [] last h = subst (λ v. is_lt (vote_cmp cmp first v) ≡ false) (sym h) (not_lt (is_lt (vote_cmp cmp first first)) refl) where
    not_lt : (b : Bool) → is_lt (vote_cmp cmp first first) ≡ b → b ≡ false
    not_lt false e = refl
    not_lt true e = let z : false ≡ true = sym (lt_not_ge (vote_total cmp total) first first e) ∙ le_refl (vote_total cmp total) first in cc
  saved_where_grown first (v ∷ vs) last h = lt_le (vote_total cmp total) first v last h.0 (risen_le v vs last h.1)

module _ {NID N : Type 0} (cmp : NID → NID → Ordering) where
  commit_vote : (x : LogId NID) (s : RaftState NID N) → (commit cmp s (Some x)).vote ≡ s.vote
  commit_vote x s =
      either (λ (t : RaftState NID N). t.vote ≡ s.vote) (commits cmp s (Some x)) _ _
      (either (λ (t : RaftState NID N). (record t { committed = Some x }).vote ≡ s.vote) (is_le (last_id_cmp cmp s.em.log_id (Some x))) _ _ refl refl) refl

-- commands that save no vote, carry no number and delete nothing
pub record IsSilent {C NID N E D R S : Type 0} (xs : List (Command C NID N E D R S)) : Type 0 where
  pub no_votes : filter_map saved_vote xs ≡ []
  pub no_numbers : filter_map sequence_number xs ≡ []
  pub no_deletes : filter_map deleted_from xs ≡ []

module _ {C NID N E D R S : Type 0} where
  -- a change of role
  pub role_silent : (a b : ServerState) → IsSilent {C = C} {NID = NID} {N = N} {E = E} {D = D} {R = R} {S = S} (role_commands a b)
  role_silent role.Leader role.Leader = record { no_votes = refl; no_numbers = refl; no_deletes = refl }
  role_silent role.Leader role.Candidate = record { no_votes = refl; no_numbers = refl; no_deletes = refl }
  role_silent role.Leader role.Follower = record { no_votes = refl; no_numbers = refl; no_deletes = refl }
  role_silent role.Leader role.Learner = record { no_votes = refl; no_numbers = refl; no_deletes = refl }
  role_silent role.Candidate role.Leader = record { no_votes = refl; no_numbers = refl; no_deletes = refl }
  role_silent role.Candidate role.Candidate = record { no_votes = refl; no_numbers = refl; no_deletes = refl }
  role_silent role.Candidate role.Follower = record { no_votes = refl; no_numbers = refl; no_deletes = refl }
  role_silent role.Candidate role.Learner = record { no_votes = refl; no_numbers = refl; no_deletes = refl }
  role_silent role.Follower role.Leader = record { no_votes = refl; no_numbers = refl; no_deletes = refl }
  role_silent role.Follower role.Candidate = record { no_votes = refl; no_numbers = refl; no_deletes = refl }
  role_silent role.Follower role.Follower = record { no_votes = refl; no_numbers = refl; no_deletes = refl }
  role_silent role.Follower role.Learner = record { no_votes = refl; no_numbers = refl; no_deletes = refl }
  role_silent role.Learner role.Leader = record { no_votes = refl; no_numbers = refl; no_deletes = refl }
  role_silent role.Learner role.Candidate = record { no_votes = refl; no_numbers = refl; no_deletes = refl }
  role_silent role.Learner role.Follower = record { no_votes = refl; no_numbers = refl; no_deletes = refl }
  role_silent role.Learner role.Learner = record { no_votes = refl; no_numbers = refl; no_deletes = refl }

  -- what is sent to a target
  pub send_silent : (force : Bool) (target : NID) (r : Result (Inflight NID) (Inflight NID)) → IsSilent {C = C} {NID = NID} {N = N} {E = E} {D = D} {R = R} {S = S} (send_commands force target r)
  send_silent force target (Ok f) = record { no_votes = refl; no_numbers = refl; no_deletes = refl }
  send_silent true target (Err inflight.None) = record { no_votes = refl; no_numbers = refl; no_deletes = refl }
  send_silent false target (Err inflight.None) = record { no_votes = refl; no_numbers = refl; no_deletes = refl }
  send_silent force target (Err (inflight.Logs id range)) = record { no_votes = refl; no_numbers = refl; no_deletes = refl }
  send_silent force target (Err (inflight.Snapshot id upto)) = record { no_votes = refl; no_numbers = refl; no_deletes = refl }

  -- a reply
  pub reply_silent : (resp : Respond C NID N E D R S) → IsSilent {C = C} {NID = NID} {N = N} {E = E} {D = D} {R = R} {S = S} (command.Respond None resp ∷ [])
  reply_silent resp = record { no_votes = refl; no_numbers = refl; no_deletes = refl }

  append_silent : (xs ys : List (Command C NID N E D R S)) → IsSilent xs → IsSilent ys → IsSilent (xs ++ ys)
  append_silent xs ys h k = record {
    no_votes = filter_map-append saved_vote xs ys ∙ (λ i. h.no_votes i ++ k.no_votes i);
    no_numbers = filter_map-append sequence_number xs ys ∙ (λ i. h.no_numbers i ++ k.no_numbers i);
    no_deletes = filter_map-append deleted_from xs ys ∙ (λ i. h.no_deletes i ++ k.no_deletes i);
  }

module _ {C NID N E D R S : Type 0} (cmp : NID → NID → Ordering) where
  -- commands that save no vote and carry no number, while the vote stays
  pub silent : (xs : List (Command C NID N E D R S)) (old new : Core C NID N E D R S) → new.output.items ≡ old.output.items ++ xs → new.output.seq ≡ old.output.seq → new.state.vote ≡ old.state.vote
      → IsSilent xs → Queues cmp old new
  silent xs old new i n v none = record {
    added = xs;
    behind = i;
    votes = subst (λ vs. RiseTo cmp old.state.vote vs new.state.vote) (sym none.no_votes) v;
    numbers = subst (λ ns. CountTo old.output.seq ns new.output.seq) (sym none.no_numbers) n;
  }

  -- nothing is queued, and the vote stays
  pub still : (old new : Core C NID N E D R S) → new.output.items ≡ old.output.items → new.output.seq ≡ old.output.seq → new.state.vote ≡ old.state.vote → Queues cmp old new
  still old new i n v = silent [] old new (i ∙ append_none old.output.items) n v (record { no_votes = refl; no_numbers = refl; no_deletes = refl })

  -- one after the other
  pub queues_then : (a b c : Core C NID N E D R S) → Queues cmp a b → Queues cmp b c → Queues cmp a c
  queues_then a b c h k = record {
    added = h.added ++ k.added;
    behind = k.behind ∙ ap (λ xs. xs ++ k.added) h.behind ∙ append_append a.output.items h.added k.added;
    votes = subst (λ vs. RiseTo cmp a.state.vote vs c.state.vote) (sym (filter_map-append saved_vote h.added k.added))
        (rises_append cmp a.state.vote (filter_map saved_vote h.added) (filter_map saved_vote k.added) b.state.vote c.state.vote h.votes k.votes);
    numbers = subst (λ ns. CountTo a.output.seq ns c.output.seq) (sym (filter_map-append sequence_number h.added k.added))
        (counts_append a.output.seq (filter_map sequence_number h.added) (filter_map sequence_number k.added) b.output.seq c.output.seq h.numbers k.numbers);
  }

  -- a reply
  pub reply_queues : (resp : Respond C NID N E D R S) (c : Core C NID N E D R S) → Queues cmp c (then_command c (command.Respond None resp))
  reply_queues resp c = silent (command.Respond None resp ∷ []) c (then_command c (command.Respond None resp)) refl refl refl (reply_silent resp)

  -- what is sent to a target, and a table that is made anew
  pub send_queues : (target : NID) (f : Inflight NID) (c : Core C NID N E D R S) → Queues cmp c (then_command c (command.Replicate target f))
  send_queues target f c = silent (command.Replicate target f ∷ []) c (then_command c (command.Replicate target f)) refl refl refl (record { no_votes = refl; no_numbers = refl; no_deletes = refl })

  pub rebuild_progresses_queues : (l : Led C NID N E D R S) → Queues cmp l.core (rebuild_progresses cmp l).core
  unfolding rebuild_progresses
  rebuild_progresses_queues l = still l.core l.core refl refl refl

  -- a snapshot is asked for
  pub trigger_queues : (c : Core C NID N E D R S) → Queues cmp c (trigger_snapshot c)
  unfolding trigger_snapshot
  trigger_queues c =
      either (Queues cmp c) c.state.building _ _ (still c c refl refl refl)
      (record { added = command.StateMachine (record { seq = c.output.seq + 1; payload = BuildSnapshot }) ∷ []; behind = refl; votes = refl; numbers = (refl, refl) })

module _ {C NID N E D R S : Type 0} (cmp : NID → NID → Ordering) (total : IsTotalOrder cmp) (config : EngineConfig NID) where
  pub sends_silent : (force : Bool) (s : RaftState NID N) (rows : List (NID × ProgressEntry NID)) → IsSilent {C = C} {NID = NID} {N = N} {E = E} {D = D} {R = R} {S = S} (flat_map (sends_of cmp config force s) rows)
  sends_silent force s [] = record { no_votes = refl; no_numbers = refl; no_deletes = refl }
  sends_silent force s (r ∷ rs) =
      append_silent (sends_of cmp config force s r) (flat_map (sends_of cmp config force s) rs)
      (either IsSilent (is_other cmp config r) _ _ (send_silent force r.0 (next_send s config.max_payload_entries r.1)) (record { no_votes = refl; no_numbers = refl; no_deletes = refl }))
      (sends_silent force s rs)

  pub role_queues : (c : Core C NID N E D R S) → Queues cmp c (update_role cmp config c)
  unfolding update_role
  role_queues c =
      silent cmp (role_commands c.state.role (server_state cmp c.state config.id)) c (update_role cmp config c) refl refl refl (role_silent c.state.role (server_state cmp c.state config.id))

  pub snapshot_queues : (c : Core C NID N E D R S) → Queues cmp c (snapshot_where_due config c)
  unfolding snapshot_where_due
  snapshot_queues c = either (Queues cmp c) (should_snapshot config.snapshot_policy c.state) _ _ (trigger_queues cmp c) (still cmp c c refl refl refl)

  pub commit_by_queues : (first : List (Command C NID N E D R S)) (x : Option (LogId NID)) (c : Core C NID N E D R S) → IsSilent first
      → Queues cmp c (commit_by cmp config first x c)
  unfolding commit_by
  commit_by_queues first None c none = still cmp c c refl refl refl
  commit_by_queues first (Some x) c none =
      let begun : Core C NID N E D R S = record { state = c.state; output = queued c.output first } in
      let after : Core C NID N E D R S = record { state = commit cmp c.state (Some x); output = committed_upto (queued c.output first) c.state.committed x } in
      either (Queues cmp c) (commits cmp c.state (Some x)) _ _
      (queues_then cmp c begun (snapshot_where_due config after)
      (silent cmp first c begun refl refl refl none)
      (queues_then cmp begun after (snapshot_where_due config after)
      (record { added = command.Commit (c.output.seq + 1) c.state.committed x ∷ []; behind = refl; votes = commit_vote cmp x c.state; numbers = (refl, refl) })
      (snapshot_queues after)))
      (still cmp c c refl refl refl)

  pub try_commit_queues : (x : Option (LogId NID)) (c : Core C NID N E D R S) → Queues cmp c (try_commit_quorum_accepted cmp config x c)
  unfolding try_commit_quorum_accepted
  try_commit_queues None c = still cmp c c refl refl refl
  try_commit_queues (Some x) c =
      either (Queues cmp c) (is_eq (leader_id_cmp cmp x.leader_id c.state.vote.leader_id)) _ _ (commit_by_queues (command.ReplicateCommitted (Some x) ∷ []) (Some x) c (record { no_votes = refl; no_numbers = refl; no_deletes = refl })) (still cmp c c refl refl refl)

  pub local_queues : (x : Option (LogId NID)) (l : Led C NID N E D R S) → Queues cmp l.core (update_local_progress cmp config x l).core
  unfolding update_local_progress
  local_queues None l = still cmp l.core l.core refl refl refl
  local_queues (Some x) l =
      either_option (λ (q : Led C NID N E D R S). Queues cmp l.core q.core) (get cmp l.leader.progress config.id) _ _ (still cmp l.core l.core refl refl refl)
      (λ e. either (λ (q : Led C NID N E D R S). Queues cmp l.core q.core) (is_ge (last_id_cmp cmp e.matching (Some x))) _ _ (still cmp l.core l.core refl refl refl)
      (try_commit_queues (granted_id cmp (is_quorum cmp) (with_entry cmp l config.id (own_matched cmp (Some x) e)).leader) l.core))

  pub rebuild_queues : (l : Led C NID N E D R S) → Queues cmp l.core (rebuild_replication_streams cmp config l).core
  unfolding rebuild_replication_streams
  rebuild_queues l = silent cmp (command.RebuildReplicationStreams (filter (is_other cmp config) (map (silenced_row cmp config) l.leader.progress.rows)) ∷ []) l.core (rebuild_replication_streams cmp config l).core refl refl refl (record { no_votes = refl; no_numbers = refl; no_deletes = refl })

  pub initiate_queues : (force : Bool) (l : Led C NID N E D R S) → Queues cmp l.core (initiate_replication cmp config force l).core
  unfolding initiate_replication
  initiate_queues force l =
      silent cmp (flat_map (sends_of cmp config force l.core.state) l.leader.progress.rows) l.core (initiate_replication cmp config force l).core refl refl refl (sends_silent force l.core.state l.leader.progress.rows)

  pub join_queues : (m : StoredMembership NID N) (l : Led C NID N E D R S) → Queues cmp l.core (append_membership_led cmp config m l).core
  unfolding append_membership_led rebuild_progresses
  join_queues m l =
      let joined : Led C NID N E D R S = rebuild_progresses cmp (under (λ c. with_state c (append_membership c.state m)) l) in
      queues_then cmp l.core joined.core _ (still cmp l.core joined.core refl refl refl)
      (queues_then cmp joined.core (rebuild_replication_streams cmp config joined).core _ (rebuild_queues joined) (initiate_queues false (rebuild_replication_streams cmp config joined)))

module _ {C NID N E D R S : Type 0} (cmp : NID → NID → Ordering) (total : IsTotalOrder cmp) (entry : RaftEntry.Ghosts E NID N) (config : EngineConfig NID) where
  pub do_append_queues : (es : List E) (c : Core C NID N E D R S) → Queues cmp c (do_append_entries cmp entry config es c)
  unfolding do_append_entries
  do_append_queues es c =
      let taken : Core C NID N E D R S = with_state c (with_entries entry c.state es) in
      let vote : (with_entries entry c.state es).vote ≡ c.state.vote = joined_vote (drop (length (memberships_in entry es) - 2) (memberships_in entry es)) (extend c.state (map entry.id_of es)) in
      let t = still cmp c taken refl refl vote in
      let settled : Core C NID N E D R S = if length (memberships_in entry es) == 0 then taken else update_role cmp config taken in
      let k : Queues cmp c settled = either (Queues cmp c) (length (memberships_in entry es) == 0) _ _ t (queues_then cmp c taken (update_role cmp config taken) t (role_queues cmp total config taken)) in
      either (Queues cmp c) (length es == 0) _ _ (still cmp c c refl refl refl)
      (queues_then cmp c settled (then_command settled (command.AppendInputEntries c.state.vote es)) k (silent cmp (command.AppendInputEntries c.state.vote es ∷ []) settled _ refl refl refl (record { no_votes = refl; no_numbers = refl; no_deletes = refl })))

  pub leader_append_queues : (es : List E) (l : Led C NID N E D R S) → Queues cmp l.core (leader_append_entries cmp entry config es l).core
  unfolding leader_append_entries proposed
  leader_append_queues es l =
      let taken = proposed entry es l in
      let t : Queues cmp l.core taken.core = silent cmp (command.AppendInputEntries l.leader.vote (assigned entry l.leader es) ∷ []) l.core taken.core refl refl refl (record { no_votes = refl; no_numbers = refl; no_deletes = refl }) in
      let after = joined cmp config (last_proposed entry l.leader es) taken in
      let k : Queues cmp l.core after.core = either_option (λ (q : Led C NID N E D R S). Queues cmp l.core q.core) (last_proposed entry l.leader es) _ _ t
      (λ m. queues_then cmp l.core taken.core (append_membership_led cmp config m taken).core t (join_queues cmp total config m taken)) in
      either (λ (q : Led C NID N E D R S). Queues cmp l.core q.core) (length es == 0) _ _ (still cmp l.core l.core refl refl refl)
      (queues_then cmp l.core after.core _ k (initiate_queues cmp total config false after))

  pub begin_queues : (l : Led C NID N E D R S) → Queues cmp l.core (begin_lead cmp entry config l).core
  unfolding begin_lead
  begin_queues l =
      let settled : Led C NID N E D R S = under (update_role cmp config) l in
      let led = rebuild_replication_streams cmp config settled in
      let t = queues_then cmp l.core settled.core led.core (role_queues cmp total config l.core) (rebuild_queues cmp total config settled) in
      either (λ (q : Led C NID N E D R S). Queues cmp l.core q.core) (is_lt (last_id_cmp cmp l.leader.last_log_id (Some l.leader.noop_log_id))) _ _
      (queues_then cmp l.core led.core _ t (leader_append_queues (entry.blank l.leader.noop_log_id ∷ []) led)) t

  -- what a step of an engine queues
  abbrev QueuesIn : Machine C NID N E D R S → Machine C NID N E D R S → Type 0
  QueuesIn m q = Queues cmp m.core q.core

  pub lead_anew_queues : (m : Machine C NID N E D R S) → QueuesIn m (lead_anew cmp entry config m)
  unfolding lead_anew
  lead_anew_queues m = begin_queues (record { leader = leader_in cmp m.core.state.vote m.core.state.em.membership (by_last_leader cmp m.core.state.ids); core = m.core })

  pub become_leader_queues : (m : Machine C NID N E D R S) → QueuesIn m (become_leader cmp entry config m)
  unfolding become_leader
  become_leader_queues m =
      either_option (QueuesIn m) m.leader _ _ (lead_anew_queues m)
      (λ l. either (QueuesIn m) (is_eq (leader_id_cmp cmp l.vote.leader_id m.core.state.vote.leader_id)) _ _ (role_queues cmp total config m.core) (lead_anew_queues m))

  pub following_queues : (m : Machine C NID N E D R S) → QueuesIn m (become_following cmp config m)
  unfolding become_following
  following_queues m = role_queues cmp total config m.core

  pub internal_queues : (m : Machine C NID N E D R S) → QueuesIn m (update_internal_server_state cmp entry config m)
  unfolding update_internal_server_state
  internal_queues m =
      either (QueuesIn m) (is_leader cmp m.core.state config.id) _ _ (become_leader_queues m)
      (either (QueuesIn m) (is_leading cmp m.core.state config.id) _ _ (still cmp m.core m.core refl refl refl) (following_queues m))

  take_queues : (v : Vote NID) (now : ℕ) (c : Core C NID N E D R S) → Queues cmp c (take_vote cmp config v now c)
  take_queues v now c = go (is_gt (vote_cmp cmp v c.state.vote)) refl where
    go : (b : Bool) → is_gt (vote_cmp cmp v c.state.vote) ≡ b
        → Queues cmp c (if b then then_command (with_state c (record c.state { vote = v; time = Some now })) (command.SaveVote v) else with_state c (record c.state { time = Some now }))
    go true e = record { added = command.SaveVote v ∷ []; behind = refl; votes = (lt_of_gt (vote_total cmp total) v c.state.vote e, refl); numbers = refl }
    go false e = still cmp c _ refl refl refl

  pub update_vote_queues : (v : Vote NID) (now : ℕ) (m : Machine C NID N E D R S) → QueuesIn m (update_vote cmp entry config v now m)
  unfolding update_vote
  update_vote_queues v now m =
      let taken = on_core (take_vote cmp config v now) m in
      either (QueuesIn m) (rejects_vote cmp m.core.state v) _ _ (still cmp m.core m.core refl refl refl)
      (queues_then cmp m.core taken.core (update_internal_server_state cmp entry config taken).core (take_queues v now m.core) (internal_queues taken))

  pub elect_queues : (now : ℕ) (m : Machine C NID N E D R S) → QueuesIn m (elect cmp entry config now m)
  unfolding elect
  elect_queues now m =
      let s = m.core.state in
      let v : Vote NID = record { leader_id = record { term = s.vote.leader_id.term + 1; node_id = config.id }; committed = false } in
      let voted = update_vote cmp entry config v now (record m { candidate = Some (candidate_of cmp now v (last s.ids) s.em.membership) }) in
      let asked = then_command voted.core (command.SendVote (record { vote = v; last_log_id = last s.ids })) in
      queues_then cmp m.core voted.core _ (update_vote_queues v now (record m { candidate = Some (candidate_of cmp now v (last s.ids) s.em.membership) }))
      (queues_then cmp voted.core asked _ (silent cmp (command.SendVote (record { vote = v; last_log_id = last s.ids }) ∷ []) voted.core asked refl refl refl (record { no_votes = refl; no_numbers = refl; no_deletes = refl })) (role_queues cmp total config asked))

  on_leader_queues : (es : List E) (m : Machine C NID N E D R S) → QueuesIn m (on_leader (leader_append_entries cmp entry config es) m)
  on_leader_queues es m = either_option (QueuesIn m) m.leader _ _ (still cmp m.core m.core refl refl refl) (λ l. leader_append_queues es (record { leader = l; core = m.core }))

  pub lead_by_votes_queues : (c : JointCandidate NID) (now : ℕ) (m : Machine C NID N E D R S) → QueuesIn m (lead_by_votes cmp entry config c now m)
  unfolding lead_by_votes
  lead_by_votes_queues c now m =
      let l : JointLeader C NID N E D R S = into_leader cmp c in
      let begun : Led C NID N E D R S = record { leader = l; core = m.core } in
      let led = leading (record m { candidate = None }) (rebuild_replication_streams cmp config begun) in
      let voted = update_vote cmp entry config l.vote now led in
      either (QueuesIn m) (may_establish cmp m.core.state m.leader c) _ _
      (queues_then cmp m.core led.core _ (rebuild_queues cmp total config begun)
      (queues_then cmp led.core voted.core _ (update_vote_queues l.vote now led) (on_leader_queues (entry.blank l.noop_log_id ∷ []) voted)))
      (still cmp m.core m.core refl refl refl)

  pub handle_vote_resp_queues : (target : NID) (resp : VoteResponse NID) (now : ℕ) (m : Machine C NID N E D R S) → QueuesIn m (handle_vote_resp cmp entry config target resp now m)
  unfolding handle_vote_resp take_grant take_rejection
  handle_vote_resp_queues target resp now m =
      either_option (QueuesIn m) m.candidate _ _ (still cmp m.core m.core refl refl refl)
      (λ c. either (QueuesIn m) (is_granted_to cmp resp c.vote) _ _
      (either (QueuesIn m) (is_granted (is_quorum cmp) (grant_by cmp c target)) _ _ (lead_by_votes_queues (grant_by cmp c target) now m) (still cmp m.core m.core refl refl refl))
      (update_vote_queues (as_uncommitted resp.vote) now m))

  pub initialize_queues : (first : NID) (e : E) (now : ℕ) (m : Machine C NID N E D R S) → QueuesIn m (initialize cmp entry config first e now m)
  unfolding initialize
  initialize_queues first e now m =
      let taken = on_core (do_append_entries cmp entry config (entry.with_id e (default_log_id first) ∷ [])) m in
      queues_then cmp m.core taken.core _ (do_append_queues (entry.with_id e (default_log_id first) ∷ []) m.core) (elect_queues now taken)
