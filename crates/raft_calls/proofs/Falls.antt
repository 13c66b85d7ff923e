-- What a command feeds back queues less than the command weighs.
use Rattle.std.specs.Prelude.{ℕ, Bool, true, false, ◌≡◌, ◌<◌, ◌≤◌, ◌+◌, ◌*◌, ◌++◌, List, [], ◌∷◌, Option, Some, None, Result, Ok, Err, length, map, flat_map, refl, ◌&&◌, if◌then◌else◌}
use Rattle.std.proofs.Common.{arith, rules, ◌∙◌, ap}
use Rattle.std.specs.Ordering.{nat_cmp, is_eq, is_ge, bool_cmp, ordering_then}
use Rattle.std.specs.declared.cmp.Ordering.TheVariants.{Equal}
use Rattle.raft_state.specs.declared.ids.LogId.{LogId}
use Rattle.raft_state.specs.declared.ids.Vote.{Vote}
use Rattle.raft_state.specs.declared.membership.StoredMembership.{StoredMembership}
use Rattle.raft_state.specs.declared.state.RaftState.{RaftState}
use Rattle.raft_state.specs.declared.state.ServerState.{ServerState}
use Rattle.raft_state.specs.declared.state.ServerState.TheVariants as role
use Rattle.raft_state.specs.Members.{voter_ids, learner_ids}
use Rattle.raft_progress_entry.specs.declared.entry.ProgressEntry.{ProgressEntry}
use Rattle.raft_progress_entry.specs.declared.entry.Inflight.{Inflight}
use Rattle.raft_progress_entry.specs.declared.entry.Inflight.TheVariants as inflight
use Rattle.raft_command.specs.declared.config.EngineConfig.{EngineConfig}
use Rattle.std.proofs.lemmas.List.{length-append}
use Rattle.raft_state.specs.Order.{leader_id_cmp, vote_cmp, last_id_cmp}
use Rattle.raft_state.specs.State.{extend, by_last_leader, server_state, commit}
use Rattle.raft_command.specs.declared.command.Command.TheVariants.{BecomeLeader, QuitLeader, AppendInputEntries, Commit, Replicate, RebuildReplicationStreams, SaveVote, SendVote, PurgeLog, DeleteConflictLog, StateMachine, Respond, ReplicateCommitted}
use Rattle.raft_command.specs.declared.sm.CommandPayload.TheVariants.{BuildSnapshot}
use Rattle.raft_command.specs.Push.{ordered, committed_upto}
use Rattle.raft_command.specs.Queue.{queued}
use Rattle.raft_progress_entry.specs.Entry.{next_send}
use Rattle.raft_progress.specs.Table.{row_ids, with_value}
use Rattle.raft_state.specs.Same.{both_equal, equal_of_is_eq, nat_same, leader_id_same}
use Rattle.raft_steps.specs.Refusals.{refusals_of_vote_resp, refusals_of_local_progress}
use Rattle.raft_steps.specs.raft_proposer.Candidate.{into_leader, grant_by}
use Rattle.raft_steps.specs.Commit.{commit_by}
use Rattle.raft_steps.specs.Engine.{lead_by_votes, take_grant, handle_vote_resp}
use Rattle.raft_steps.specs.raft_proposer.Leader.{assigned, last_assigned, leader_in}
use Rattle.raft_steps.specs.SnapshotHandler.{trigger_snapshot, snapshot_where_due}
use Rattle.raft_steps.specs.LeaderHandler.{leader_append_entries, proposed}
use Rattle.raft_steps.specs.VoteHandler.{take_vote, begin_lead, lead_anew, become_leader, become_following, update_internal_server_state, update_vote}
use Rattle.raft_steps.specs.Parts.{Core, led_of, then_command, with_state, on_core, leading, on_leader}
use Rattle.raft_store.specs.Entries.{entry_meaning}
use Rattle.raft_steps.specs.ServerStateHandler.{role_commands, update_role}
use Rattle.raft_steps.specs.ReplicationHandler.{is_other, silenced_row, sent_row, sends_of, send_commands, rebuild_replication_streams, initiate_replication, with_entry, own_matched, commit_granted, try_commit_quorum_accepted, update_local_progress}
use Rattle.raft_store.specs.declared.config.WorldConfig.{WorldConfig}
use Rattle.raft_store.specs.declared.entry.Entry.{Entry}
use Rattle.raft_store.specs.Types.{WorldCommand, WorldMachine, WorldLeader, WorldCandidate, EngineView}
use Rattle.raft_calls.specs.declared.feed.Feed.{Feed}
use Rattle.raft_calls.specs.declared.feed.Feed.TheVariants.{Saved, Stored, Nothing}
use Rattle.raft_calls.specs.Feeds.{WorldLed, own_grant, asks_itself, grant_own, hold_own, called, fed, feed_of}
use Rattle.raft_calls.specs.Weights.{weights, weight_of, election}

abbrev pub WorldCore : Type 0
WorldCore = Core WorldConfig ℕ (Unit {0}) Entry ℕ ℕ (List Entry)

-- parts of what a choice gives
abbrev pub core_led : WorldLed → WorldCore
core_led l = l.core

abbrev core_in : WorldMachine → WorldCore
core_in m = m.core

abbrev em_led : WorldLed → StoredMembership ℕ (Unit {0})
em_led l = l.core.state.em

abbrev candidate_in : WorldMachine → Option WorldCandidate
candidate_in m = m.candidate

abbrev pub machine_at : EngineView → WorldMachine
machine_at e = e.machine

weights-append : (xs ys : List WorldCommand) → weights (xs ++ ys) ≡ weights xs + weights ys
weights-append [] ys = omega arith
weights-append (x ∷ xs) ys = omega (arith, weights-append xs ys)

length-map : {A B : Type 0} (f : A → B) (xs : List A) → length (map f xs) ≡ length xs
length-map f [] = refl
length-map f (x ∷ xs) = let q : length (map f xs) ≡ length xs = length-map f xs in omega (arith, q)

-- what is still to be done in a core
abbrev load : WorldCore → ℕ
load c = weights c.output.items

-- what is still to be done, a candidate's election with it
abbrev pub whole_load : WorldMachine → ℕ
whole_load m = load m.core + election m m.candidate

-- an election weighs the same where the effective membership is the same
election_em : (m : WorldMachine) (c : WorldCore) → c.state.em ≡ m.core.state.em → election (record m { core = c }) m.candidate ≡ election m m.candidate
election_em m c h = go m.candidate
  where
    go : (o : Option WorldCandidate) → election (record m { core = c }) o ≡ election m o
    go None = refl
    go (Some k) = rw h refl

-- the targets of a leader, where there is one
abbrev rows_in : Option WorldLeader → ℕ
rows_in None = 0
rows_in (Some l) = length l.progress.rows

abbrev rows_of : WorldLed → ℕ
rows_of l = length l.leader.progress.rows

role_low : (a b : ServerState) → weights (role_commands a b) ≤ 1
role_low role.Learner role.Learner = omega arith
role_low role.Learner role.Follower = omega arith
role_low role.Learner role.Candidate = omega arith
role_low role.Learner role.Leader = omega arith
role_low role.Follower role.Learner = omega arith
role_low role.Follower role.Follower = omega arith
role_low role.Follower role.Candidate = omega arith
role_low role.Follower role.Leader = omega arith
role_low role.Candidate role.Learner = omega arith
role_low role.Candidate role.Follower = omega arith
role_low role.Candidate role.Candidate = omega arith
role_low role.Candidate role.Leader = omega arith
role_low role.Leader role.Learner = omega arith
role_low role.Leader role.Follower = omega arith
role_low role.Leader role.Candidate = omega arith
role_low role.Leader role.Leader = omega arith

module _ (config : EngineConfig ℕ) where
  role-low : (c : WorldCore) → load (update_role nat_cmp config c) ≤ 1 + load c
  unfolding update_role
  role-low c = simp weights-append (omega (arith, role_low c.state.role (server_state nat_cmp c.state config.id)))

  rebuild-load : (l : WorldLed) → load (rebuild_replication_streams nat_cmp config l).core ≡ load l.core + 1
  unfolding rebuild_replication_streams
  rebuild-load l = weights-append l.core.output.items _

  rebuild-rows : (l : WorldLed) → rows_of (rebuild_replication_streams nat_cmp config l) ≡ rows_of l
  unfolding rebuild_replication_streams
  rebuild-rows l = length-map (silenced_row nat_cmp config) l.leader.progress.rows

  sends_low : (target : ℕ) (r : Result (Inflight ℕ) (Inflight ℕ)) → weights (send_commands false target r) ≤ 1
  sends_low target (Ok f) = omega arith
  sends_low target (Err inflight.None) = omega arith
  sends_low target (Err (inflight.Logs i r)) = omega arith
  sends_low target (Err (inflight.Snapshot i r)) = omega arith

  one_low : (s : RaftState ℕ (Unit {0})) (row : ℕ × ProgressEntry ℕ) → weights (sends_of nat_cmp config false s row) ≤ 1
  one_low s row = go (is_other nat_cmp config row)
    where
      go : (b : Bool) → weights (if b then send_commands false row.0 (next_send s config.max_payload_entries row.1) else []) ≤ 1
      go true = sends_low row.0 (next_send s config.max_payload_entries row.1)
      go false = omega arith

  all_low : (s : RaftState ℕ (Unit {0})) (rows : List (ℕ × ProgressEntry ℕ)) → weights (flat_map (sends_of nat_cmp config false s) rows) ≤ length rows
  all_low s [] = omega arith
  all_low s (row ∷ rows) = simp weights-append (omega (arith, one_low s row, all_low s rows))

  initiate-low : (l : WorldLed) → load (initiate_replication nat_cmp config false l).core ≤ rows_of l + load l.core
  unfolding initiate_replication
  initiate-low l = simp weights-append (omega (arith, all_low l.core.state l.leader.progress.rows))

  initiate-rows : (l : WorldLed) → rows_of (initiate_replication nat_cmp config false l) ≡ rows_of l
  unfolding initiate_replication
  initiate-rows l = length-map (sent_row nat_cmp config l.core.state) l.leader.progress.rows

  -- a leader's blank entry
  abbrev blank_of : LogId ℕ → List Entry
  blank_of id = entry_meaning.blank id ∷ []

  abbrev taken : LogId ℕ → WorldLed → WorldLed
  taken id l =
      let given = assigned entry_meaning l.leader (blank_of id) in
      record {
        leader = record l.leader { last_log_id = last_assigned l.leader (blank_of id) };
        core = then_command (with_state l.core (extend l.core.state (map entry_meaning.id_of given))) (AppendInputEntries l.leader.vote given);
      }

  append-low : (id : LogId ℕ) (l : WorldLed) → load (leader_append_entries nat_cmp entry_meaning config (blank_of id) l).core ≤ 4 + rows_of l + load l.core
  unfolding leader_append_entries proposed
  append-low id l = omega (arith, initiate-low (taken id l), weights-append l.core.output.items (AppendInputEntries l.leader.vote (assigned entry_meaning l.leader (blank_of id)) ∷ []))

  append-rows : (id : LogId ℕ) (l : WorldLed) → rows_of (leader_append_entries nat_cmp entry_meaning config (blank_of id) l) ≡ rows_of l
  unfolding leader_append_entries proposed
  append-rows id l = initiate-rows (taken id l)

  -- the nodes of the effective membership
  abbrev nodes_of : WorldMachine → ℕ
  nodes_of m = length (voter_ids nat_cmp m.core.state.em.membership) + length (learner_ids nat_cmp m.core.state.em.membership)

  abbrev led_anew : WorldMachine → WorldLed
  led_anew m =
      rebuild_replication_streams nat_cmp config (record {
        leader = leader_in nat_cmp m.core.state.vote m.core.state.em.membership (by_last_leader nat_cmp m.core.state.ids);
        core = update_role nat_cmp config m.core;
      })

  anew-rows : (m : WorldMachine) → rows_of (led_anew m) ≡ nodes_of m
  anew-rows m =
      rebuild-rows _ ∙ length-map _ (voter_ids nat_cmp m.core.state.em.membership ++ learner_ids nat_cmp m.core.state.em.membership)
      ∙ length-append (voter_ids nat_cmp m.core.state.em.membership) (learner_ids nat_cmp m.core.state.em.membership)

  anew-load : (m : WorldMachine) → load (led_anew m).core ≤ 2 + load m.core
  anew-load m = omega (
    arith,
    rebuild-load (record {
      leader = leader_in nat_cmp m.core.state.vote m.core.state.em.membership (by_last_leader nat_cmp m.core.state.ids);
      core = update_role nat_cmp config m.core;
    }),
    role-low m.core,
  )

  lead_anew-low : (m : WorldMachine) → load (lead_anew nat_cmp entry_meaning config m).core ≤ 6 + nodes_of m + load m.core
  unfolding lead_anew begin_lead
  lead_anew-low m = go _ _
    where
      go : (b : Bool) (id : LogId ℕ) → load (if b then leader_append_entries nat_cmp entry_meaning config (blank_of id) (led_anew m) else led_anew m).core ≤ 6 + nodes_of m + load m.core
      go true id = omega (arith, append-low id (led_anew m), anew-rows m, anew-load m)
      go false id = omega (arith, anew-load m)

  lead_anew-rows : (m : WorldMachine) → rows_in (lead_anew nat_cmp entry_meaning config m).leader ≤ nodes_of m
  unfolding lead_anew begin_lead
  lead_anew-rows m = go _ _
    where
      go : (b : Bool) (id : LogId ℕ) → rows_of (if b then leader_append_entries nat_cmp entry_meaning config (blank_of id) (led_anew m) else led_anew m) ≤ nodes_of m
      go true id = omega (arith, append-rows id (led_anew m), anew-rows m)
      go false id = omega (arith, anew-rows m)

  -- a step leaves no more than so much, of its leader no more targets, and no candidate where there was none
  record Low (n : ℕ) (m old : WorldMachine) : Type 0 where
    low : load m.core ≤ n + load old.core
    rows : rows_in m.leader ≤ rows_in old.leader + nodes_of old
    none : old.candidate ≡ None → m.candidate ≡ None

  anew-low : (m : WorldMachine) (o : Option WorldLeader) → Low (6 + nodes_of m) (lead_anew nat_cmp entry_meaning config (record m { leader = o })) (record m { leader = o })
  unfolding lead_anew
  anew-low m o = record { low = lead_anew-low (record m { leader = o }); rows = omega (arith, lead_anew-rows (record m { leader = o })); none = λ h. h }

  become_leader-low : (m : WorldMachine) → Low (6 + nodes_of m) (become_leader nat_cmp entry_meaning config m) m
  unfolding become_leader
  become_leader-low m = go m.leader
    where
      pick : (l : WorldLeader) (b : Bool) → Low (6 + nodes_of m)
          (if b
          then on_core (update_role nat_cmp config) (record m { leader = Some (record l { vote = m.core.state.vote }) })
          else lead_anew nat_cmp entry_meaning config (record m { leader = Some l })) (record m { leader = Some l })
      pick l true = record { low = omega (arith, role-low m.core); rows = omega arith; none = λ h. h }
      pick l false = anew-low m (Some l)

      go : (o : Option WorldLeader) → Low (6 + nodes_of m)
          (elim o as (λ x. WorldMachine) [
            | None ↦ lead_anew nat_cmp entry_meaning config (record m { leader = o })
            | Some l ↦
                (if is_eq (leader_id_cmp nat_cmp l.vote.leader_id m.core.state.vote.leader_id)
                then on_core (update_role nat_cmp config) (record m { leader = Some (record l { vote = m.core.state.vote }) })
                else lead_anew nat_cmp entry_meaning config (record m { leader = o }))
          ]) (record m { leader = o })
      go None = anew-low m None
      go (Some l) = pick l _

  become_following-low : (m : WorldMachine) → Low (6 + nodes_of m) (become_following nat_cmp config m) m
  unfolding become_following
  become_following-low m = record { low = omega (arith, role-low m.core); rows = omega arith; none = λ h. refl }

  internal-low : (m : WorldMachine) → Low (6 + nodes_of m) (update_internal_server_state nat_cmp entry_meaning config m) m
  unfolding update_internal_server_state
  internal-low m = go _ _
    where
      go : (a b : Bool) → Low (6 + nodes_of m)
          (if a then become_leader nat_cmp entry_meaning config m else if b then m else become_following nat_cmp config m) m
      go true b = become_leader-low m
      go false true = record { low = omega arith; rows = omega arith; none = λ h. h }
      go false false = become_following-low m

  update_vote-low : (v : Vote ℕ) (now : ℕ) (m : WorldMachine) → Low (7 + nodes_of m) (update_vote nat_cmp entry_meaning config v now m) m
  unfolding update_vote
  update_vote-low v now m = go _
    where
      take_low : (b : Bool) → Low (7 + nodes_of m)
          (update_internal_server_state nat_cmp entry_meaning config (on_core (λ c.
          if b then then_command (with_state c (record c.state { vote = v; time = Some now })) (SaveVote v)
          else with_state c (record c.state { time = Some now })) m)) m
      take_low true =
          let h = internal-low (on_core (λ c. then_command (with_state c (record c.state { vote = v; time = Some now })) (SaveVote v)) m) in
          record { low = omega (arith, h.low, weights-append m.core.output.items (SaveVote v ∷ [])); rows = h.rows; none = h.none }
      take_low false =
          let h = internal-low (on_core (λ c. with_state c (record c.state { time = Some now })) m) in
          record { low = omega (arith, h.low); rows = h.rows; none = h.none }

      go : (b : Bool) → Low (7 + nodes_of m)
          (if b then m else update_internal_server_state nat_cmp entry_meaning config (on_core (take_vote nat_cmp config v now) m)) m
      go true = record { low = omega arith; rows = omega arith; none = λ h. h }
      go false = take_low _

  -- the leader that a candidate becomes
  abbrev leader_from : WorldCandidate → WorldLeader
  leader_from c = into_leader nat_cmp c

  -- a candidate with a quorum is used up
  abbrev asked_of : WorldCandidate → ℕ
  asked_of c = length c.progress.rows + length c.learner_ids

  abbrev into : WorldMachine → WorldCandidate → WorldMachine
  into m c = leading (record m { candidate = None }) (rebuild_replication_streams nat_cmp config (record { leader = leader_from c; core = m.core }))

  into-rows : (m : WorldMachine) (c : WorldCandidate) → rows_in (into m c).leader ≡ asked_of c
  into-rows m c =
      rebuild-rows (record { leader = leader_from c; core = m.core }) ∙ length-map _ (row_ids c.progress ++ c.learner_ids)
      ∙ length-append (row_ids c.progress) c.learner_ids ∙ ap (λ n. n + length c.learner_ids) (length-map (λ row. row.0) c.progress.rows)

  into-load : (m : WorldMachine) (c : WorldCandidate) → load (into m c).core ≡ load m.core + 1
  into-load m c = rebuild-load (record { leader = leader_from c; core = m.core })

  into-nodes : (m : WorldMachine) (c : WorldCandidate) → nodes_of (into m c) ≡ nodes_of m
  unfolding rebuild_replication_streams
  into-nodes m c = refl

  on_leader-low : (id : LogId ℕ) (m : WorldMachine) →
      load (on_leader (leader_append_entries nat_cmp entry_meaning config (blank_of id)) m).core ≤ 4 + rows_in m.leader + load m.core
  on_leader-low id m = go m.leader
    where
      go : (o : Option WorldLeader) →
          load (core_in (elim o [ None ↦ m | Some l ↦ leading m (leader_append_entries nat_cmp entry_meaning config (blank_of id) (record { leader = l; core = m.core })) ]))
          ≤ 4 + rows_in o + load m.core
      go None = omega arith
      go (Some l) = append-low id (record { leader = l; core = m.core })

  on_leader-none : (id : LogId ℕ) (m : WorldMachine) → m.candidate ≡ None →
      (on_leader (leader_append_entries nat_cmp entry_meaning config (blank_of id)) m).candidate ≡ None
  on_leader-none id m h = go m.leader
    where
      go : (o : Option WorldLeader) →
          (candidate_in (elim o [ None ↦ m | Some l ↦ leading m (leader_append_entries nat_cmp entry_meaning config (blank_of id) (record { leader = l; core = m.core })) ])) ≡ None
      go None = h
      go (Some l) = h

  record Elected (c : WorldCandidate) (m old : WorldMachine) : Type 0 where
    low : load m.core ≤ 12 + 2 * nodes_of old + asked_of c + load old.core
    none : m.candidate ≡ None

  abbrev voted : WorldMachine → WorldCandidate → ℕ → WorldMachine
  voted m c now = update_vote nat_cmp entry_meaning config (leader_from c).vote now (into m c)

  lead_by_votes-low : (c : WorldCandidate) (now : ℕ) (m : WorldMachine) → Elected c (lead_by_votes nat_cmp entry_meaning config c now m) m
  unfolding lead_by_votes
  lead_by_votes-low c now m = go _
    where
      go : (b : Bool) → Elected c
          (if b
          then on_leader (leader_append_entries nat_cmp entry_meaning config (blank_of (leader_from c).noop_log_id)) (voted m c now)
          else record m { candidate = None }) m
      go true =
          let low = update_vote-low (leader_from c).vote now (into m c) in
          record {
            low = omega (arith, on_leader-low (leader_from c).noop_log_id (voted m c now), low.low, low.rows, into-rows m c, into-load m c, into-nodes m c);
            none = on_leader-none (leader_from c).noop_log_id (voted m c now) (low.none refl);
          }
      go false = record { low = omega arith; none = refl }

  elected_load : (c : WorldCandidate) (m old : WorldMachine) → Elected c m old → whole_load m ≤ 12 + 2 * nodes_of old + asked_of c + load old.core
  elected_load c m old h = rw h.none (omega (arith, h.low))

  grant-rows : (c : WorldCandidate) (id : ℕ) → asked_of (grant_by nat_cmp c id) ≡ asked_of c
  grant-rows c id = ap (λ n. n + length c.learner_ids) (length-map (with_value nat_cmp id true) c.progress.rows)

  -- a candidate's own grant queues no more than an election weighs
  granted_load : (now id : ℕ) (v : Vote ℕ) (c : WorldCandidate) (m : WorldMachine) → is_eq (vote_cmp nat_cmp v c.vote) ≡ true →
      whole_load (handle_vote_resp nat_cmp entry_meaning config id (own_grant v) now (record m { candidate = Some c })) ≤ whole_load (record m { candidate = Some c })
  unfolding handle_vote_resp take_grant
  granted_load now id v c m same = rw same (go _)
    where
      go : (b : Bool) →
          whole_load (if b
          then lead_by_votes nat_cmp entry_meaning config (grant_by nat_cmp c id) now (record m { candidate = Some c })
          else record m { candidate = Some (grant_by nat_cmp c id) })
          ≤ whole_load (record m { candidate = Some c })
      go true =
          omega (arith, elected_load (grant_by nat_cmp c id) _ (record m { candidate = Some c }) (lead_by_votes-low (grant_by nat_cmp c id) now (record m { candidate = Some c })), grant-rows c id)
      go false = omega (arith, grant-rows c id)

  -- a commit queues what it tells, itself, and a snapshot where it is due
  snapshot-load : (c : WorldCore) → load (snapshot_where_due config c) ≤ 1 + load c
  unfolding snapshot_where_due trigger_snapshot
  snapshot-load c = go _ c.state.building
    where
      go : (a b : Bool) → load (if a then (if b then c else record { state = record c.state { building = true }; output = ordered c.output BuildSnapshot }) else c) ≤ 1 + load c
      go true true = omega arith
      go true false = simp weights-append (omega arith)
      go false b = omega arith

  abbrev committing : LogId ℕ → WorldCore → WorldCore
  committing x c = record { state = commit nat_cmp c.state (Some x); output = committed_upto (queued c.output (ReplicateCommitted (Some x) ∷ [])) c.state.committed x }

  commit-load : (x : LogId ℕ) (c : WorldCore) → load (commit_by nat_cmp config (ReplicateCommitted (Some x) ∷ []) (Some x) c) ≤ 3 + load c
  unfolding commit_by
  commit-load x c = go _
    where
      low : load (committing x c) ≤ 2 + load c
      low = simp weights-append (omega arith)

      go : (b : Bool) → load (if b then snapshot_where_due config (committing x c) else c) ≤ 3 + load c
      go true = omega (arith, snapshot-load (committing x c), low)
      go false = omega arith

  try-load : (g : Option (LogId ℕ)) (c : WorldCore) → load (try_commit_quorum_accepted nat_cmp config g c) ≤ 3 + load c
  unfolding try_commit_quorum_accepted
  try-load None c = omega arith
  try-load (Some x) c = go _
    where
      go : (b : Bool) → load (if b then commit_by nat_cmp config (ReplicateCommitted (Some x) ∷ []) (Some x) c else c) ≤ 3 + load c
      go true = commit-load x c
      go false = omega arith

  local-load : (x : Option (LogId ℕ)) (l : WorldLed) → load (update_local_progress nat_cmp config x l).core ≤ 3 + load l.core
  unfolding update_local_progress
  local-load None l = omega arith
  local-load (Some x) l = go _
    where
      go : (o : Option (ProgressEntry ℕ)) →
          load (core_led (elim o [
            | None ↦ l
            | Some e ↦ (if is_ge (last_id_cmp nat_cmp e.matching (Some x)) then l else commit_granted nat_cmp config (with_entry nat_cmp l config.id (own_matched nat_cmp (Some x) e)))
          ])) ≤ 3 + load l.core
      go None = omega arith
      go (Some e) = pick _
        where
          pick : (b : Bool) → load (if b then l else commit_granted nat_cmp config (with_entry nat_cmp l config.id (own_matched nat_cmp (Some x) e))).core ≤ 3 + load l.core
          pick true = omega arith
          pick false = try-load _ l.core

  -- a commit leaves the effective membership
  snapshot-em : (c : WorldCore) → (snapshot_where_due config c).state.em ≡ c.state.em
  unfolding snapshot_where_due trigger_snapshot
  snapshot-em c = go _ c.state.building
    where
      go : (a b : Bool) → (if a then (if b then c else record { state = record c.state { building = true }; output = ordered c.output BuildSnapshot }) else c).state.em ≡ c.state.em
      go true true = refl
      go true false = refl
      go false b = refl

  commit-em : (s : RaftState ℕ (Unit {0})) (x : Option (LogId ℕ)) → (commit nat_cmp s x).em ≡ s.em
  commit-em s x = go _ _
    where
      go : (a b : Bool) → (if a then record (if b then record s { cm = s.em } else s) { committed = x } else s).em ≡ s.em
      go true true = refl
      go true false = refl
      go false b = refl

  commit_by-em : (x : LogId ℕ) (c : WorldCore) → (commit_by nat_cmp config (ReplicateCommitted (Some x) ∷ []) (Some x) c).state.em ≡ c.state.em
  unfolding commit_by
  commit_by-em x c = go _
    where
      go : (b : Bool) →
          (if b
          then snapshot_where_due config (record { state = commit nat_cmp c.state (Some x); output = committed_upto (queued c.output (ReplicateCommitted (Some x) ∷ [])) c.state.committed x })
          else c).state.em ≡ c.state.em
      go true = snapshot-em _ ∙ commit-em c.state (Some x)
      go false = refl

  try-em : (g : Option (LogId ℕ)) (c : WorldCore) → (try_commit_quorum_accepted nat_cmp config g c).state.em ≡ c.state.em
  unfolding try_commit_quorum_accepted
  try-em None c = refl
  try-em (Some x) c = go _
    where
      go : (b : Bool) → (if b then commit_by nat_cmp config (ReplicateCommitted (Some x) ∷ []) (Some x) c else c).state.em ≡ c.state.em
      go true = commit_by-em x c
      go false = refl

  local-em : (x : Option (LogId ℕ)) (l : WorldLed) → (update_local_progress nat_cmp config x l).core.state.em ≡ l.core.state.em
  unfolding update_local_progress
  local-em None l = refl
  local-em (Some x) l = go _
    where
      go : (o : Option (ProgressEntry ℕ)) →
          (em_led (elim o [
            | None ↦ l
            | Some e ↦ (if is_ge (last_id_cmp nat_cmp e.matching (Some x)) then l else commit_granted nat_cmp config (with_entry nat_cmp l config.id (own_matched nat_cmp (Some x) e)))
          ])) ≡ l.core.state.em
      go None = refl
      go (Some e) = pick _
        where
          pick : (b : Bool) → (if b then l else commit_granted nat_cmp config (with_entry nat_cmp l config.id (own_matched nat_cmp (Some x) e))).core.state.em ≡ l.core.state.em
          pick true = refl
          pick false = try-em _ l.core

-- a vote that is another is that one also from the other side
vote_same : (a b : Vote ℕ) → is_eq (vote_cmp nat_cmp a b) ≡ true → a ≡ b
vote_same a b h =
    let p : (leader_id_cmp nat_cmp a.leader_id b.leader_id ≡ Equal) × (bool_cmp a.committed b.committed ≡ Equal) = both_equal _ _ (equal_of_is_eq _ h) in
    let l : a.leader_id ≡ b.leader_id = leader_id_same nat_cmp nat_same _ _ p.0 in
    let c : a.committed ≡ b.committed = bools a.committed b.committed p.1 in
    λ i. record { leader_id = l i; committed = c i }
  where
    bools : (x y : Bool) → bool_cmp x y ≡ Equal → x ≡ y
    bools true true e = refl
    bools false false e = refl
    bools true false e = cc
    bools false true e = cc

vote_self : (a : Vote ℕ) → is_eq (vote_cmp nat_cmp a a) ≡ true
vote_self a = go a.committed
  where
    go : (b : Bool) → is_eq (ordering_then (leader_id_cmp nat_cmp a.leader_id a.leader_id) (bool_cmp b b)) ≡ true
    go true = search rules
    go false = search rules

vote_back : (a b : Vote ℕ) → is_eq (vote_cmp nat_cmp a b) ≡ true → is_eq (vote_cmp nat_cmp b a) ≡ true
vote_back a b h = let e : a ≡ b = vote_same a b h in rw e (vote_self b)

and_left : (a b : Bool) → (a && b) ≡ true → a ≡ true
and_left true b h = refl
and_left false b h = cc

-- what a feed may queue
abbrev extra : Feed → ℕ
extra (Stored v x) = 3
extra (Saved v) = 0
extra Nothing = 0

called_low : {A : Type 0} (n : ℕ) (asks : Option A) (e : EngineView) (m : WorldMachine) → whole_load m ≤ n + whole_load e.machine → whole_load (called asks e m).machine ≤ n + whole_load e.machine
called_low n None e m h = h
called_low n (Some r) e m h = omega arith

abbrev with_candidate : EngineView → Option WorldCandidate → EngineView
with_candidate e o = record e { machine = record e.machine { candidate = o } }

abbrev led_at : WorldLeader → EngineView → WorldLed
led_at l e = led_of l e.machine.core.state e.machine.core.output

saved_low : (now : ℕ) (v : Vote ℕ) (e : EngineView) → whole_load (fed now (Saved v) e).machine ≤ whole_load e.machine
saved_low now v e = go e.machine.candidate
  where
    go : (o : Option WorldCandidate) →
        whole_load (machine_at (elim o as (λ x. EngineView) [ None ↦ with_candidate e o | Some c ↦ (if asks_itself v c (with_candidate e o) then grant_own now v (with_candidate e o) else with_candidate e o) ]))
        ≤ whole_load (with_candidate e o).machine
    go None = omega arith
    go (Some c) = pick (asks_itself v c e) refl
      where
        pick : (b : Bool) → asks_itself v c e ≡ b →
            whole_load (if b then grant_own now v (with_candidate e (Some c)) else with_candidate e (Some c)).machine ≤ whole_load (with_candidate e (Some c)).machine
        pick true h =
            let same : is_eq (vote_cmp nat_cmp v c.vote) ≡ true = vote_back c.vote v (and_left _ _ h) in
            let after : WorldMachine = handle_vote_resp nat_cmp entry_meaning e.config e.config.id (own_grant v) now (with_candidate e (Some c)).machine in
            let low : whole_load after ≤ whole_load (with_candidate e (Some c)).machine = granted_load e.config now e.config.id v c e.machine same in
            omega (arith, called_low 0 (refusals_of_vote_resp nat_cmp e.config e.config.id (own_grant v) (with_candidate e (Some c)).machine) (with_candidate e (Some c)) after (omega (arith, low)))
        pick false h = omega arith

stored_low : (now : ℕ) (v : Vote ℕ) (x : Option (LogId ℕ)) (e : EngineView) → whole_load (fed now (Stored v x) e).machine ≤ 3 + whole_load e.machine
stored_low now v x e = go e.machine.leader
  where
    go : (o : Option WorldLeader) →
        whole_load (machine_at (elim o [ None ↦ e | Some l ↦ (if is_eq (vote_cmp nat_cmp l.vote v) then hold_own x l e else e) ])) ≤ 3 + whole_load e.machine
    go None = omega arith
    go (Some l) = pick _
      where
        low : whole_load (leading e.machine (update_local_progress nat_cmp e.config x (led_at l e))) ≤ 3 + whole_load e.machine
        low = omega (arith, local-load e.config x (led_at l e), election_em e.machine (update_local_progress nat_cmp e.config x (led_at l e)).core (local-em e.config x (led_at l e)))

        pick : (b : Bool) → whole_load (if b then hold_own x l e else e).machine ≤ 3 + whole_load e.machine
        pick true = called_low 3 (refusals_of_local_progress nat_cmp e.config x (led_at l e)) e _ low
        pick false = omega arith

pub fed_low : (now : ℕ) (f : Feed) (e : EngineView) → whole_load (fed now f e).machine ≤ extra f + whole_load e.machine
fed_low now (Saved v) e = omega (arith, saved_low now v e)
fed_low now (Stored v x) e = stored_low now v x e
fed_low now Nothing e = omega arith

-- a command weighs more than its feed may queue
pub weighs : (c : WorldCommand) → extra (feed_of c) < weight_of c
weighs BecomeLeader = omega arith
weighs QuitLeader = omega arith
weighs (AppendInputEntries v es) = omega arith
weighs (ReplicateCommitted x) = omega arith
weighs (Commit seq already upto) = omega arith
weighs (Replicate target req) = omega arith
weighs (RebuildReplicationStreams targets) = omega arith
weighs (SaveVote v) = omega arith
weighs (SendVote req) = omega arith
weighs (PurgeLog upto) = omega arith
weighs (DeleteConflictLog since) = omega arith
weighs (StateMachine c) = omega arith
weighs (Respond when reply) = omega arith
