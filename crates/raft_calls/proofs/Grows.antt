-- A call's commands store entries that the engine's log has.
use Rattle.std.specs.Prelude.{ℕ, ◌+◌, Bool, true, false, ◌≡◌, ◌++◌, List, [], ◌∷◌, Option, Some, None, Result, Ok, Err, map, flat_map, refl, if◌then◌else◌}
use Rattle.std.proofs.Common.{◌∙◌, sym, ap, arith, append_assoc}
use Rattle.std.proofs.lemmas.List.{append-nil}
use Rattle.std.proofs.lemmas.List.Elements.{Contains-append_left, Contains-append_right}
use Rattle.std.specs.List.{AllByRecursion}
use Rattle.std.specs.Ordering.{nat_cmp, is_eq, is_ge}
use Rattle.raft_state.specs.declared.ids.LogId.{LogId}
use Rattle.raft_state.specs.declared.ids.Vote.{Vote}
use Rattle.raft_state.specs.declared.state.RaftState.{RaftState}
use Rattle.raft_state.specs.declared.state.ServerState.{ServerState}
use Rattle.raft_state.specs.declared.state.ServerState.TheVariants as role
use Rattle.raft_state.specs.Log.{last}
use Rattle.raft_state.specs.Order.{leader_id_cmp, last_id_cmp, next}
use Rattle.raft_state.specs.State.{extend, by_last_leader, commit}
use Rattle.raft_progress_entry.specs.Entry.{next_send}
use Rattle.raft_progress_entry.specs.declared.entry.ProgressEntry.{ProgressEntry}
use Rattle.raft_progress_entry.specs.declared.entry.Inflight.{Inflight}
use Rattle.raft_progress_entry.specs.declared.entry.Inflight.TheVariants as inflight
use Rattle.raft_command.specs.declared.config.EngineConfig.{EngineConfig}
use Rattle.raft_command.specs.declared.command.Command.TheVariants.{AppendInputEntries, BecomeLeader, Commit, DeleteConflictLog, PurgeLog, QuitLeader, RebuildReplicationStreams, Replicate, ReplicateCommitted, Respond, SaveVote, SendVote, StateMachine}
use Rattle.raft_command.specs.declared.message.VoteResponse.{VoteResponse}
use Rattle.raft_command.specs.declared.sm.CommandPayload.TheVariants.{BuildSnapshot}
use Rattle.raft_command.specs.Push.{ordered, committed_upto}
use Rattle.raft_command.specs.Queue.{queued}
use Rattle.raft_steps.specs.raft_proposer.Candidate.{into_leader, candidate_of, grant_by}
use Rattle.raft_steps.specs.Commit.{commit_by}
use Rattle.raft_steps.specs.Engine.{as_uncommitted, default_log_id, elect, initialize, is_granted_to, lead_by_votes, take_grant, take_rejection, handle_vote_resp}
use Rattle.raft_steps.specs.FollowingHandler.{do_append_entries, with_entries}
use Rattle.raft_steps.specs.raft_proposer.Leader.{assigned, last_assigned, leader_in}
use Rattle.raft_steps.specs.LeaderHandler.{leader_append_entries, proposed}
use Rattle.raft_steps.specs.Parts.{then_command, with_state, on_core, leading, on_leader}
use Rattle.raft_steps.specs.ReplicationHandler.{is_other, sends_of, send_commands, rebuild_replication_streams, initiate_replication, with_entry, own_matched, commit_granted, try_commit_quorum_accepted, update_local_progress}
use Rattle.raft_steps.specs.ServerStateHandler.{role_commands, update_role}
use Rattle.raft_steps.specs.SnapshotHandler.{trigger_snapshot, snapshot_where_due}
use Rattle.raft_steps.specs.VoteHandler.{take_vote, begin_lead, lead_anew, become_leader, become_following, update_internal_server_state, update_vote}
use Rattle.raft_store.specs.declared.entry.Entry.{Entry}
use Rattle.raft_store.specs.declared.entry.Payload.{Payload}
use Rattle.raft_store.specs.declared.entry.Payload.TheVariants.{Blank, Value, Membership}
use Rattle.raft_store.specs.Entries.{entry_meaning}
use Rattle.raft_store.specs.Types.{WorldCommand, WorldMachine, WorldLeader, WorldCandidate}
use Rattle.raft_calls.specs.declared.feed.Feed.{Feed}
use Rattle.raft_calls.specs.declared.feed.Feed.TheVariants.{Saved, Stored, Nothing}
use Rattle.raft_calls.specs.Feeds.{WorldLed, feed_of}
use Rattle.raft_calls.specs.Held.{Held, AllHeld}
use Rattle.raft_calls.proofs.Stored.{AllPlain, IsPlain, IsPlainPayload, plain-append, stored-append, stored_by, stored_ids}
use Rattle.raft_calls.proofs.Falls.{WorldCore, core_led}

-- a core after steps: its log and its queue go on, the new commands store the new ids, each of them in one piece, and
-- neither cut nor replace the log
pub record Grown (old new : WorldCore) : Type 0 where
  pub extra : List (LogId ℕ)
  pub more : List WorldCommand
  pub ids : new.state.ids ≡ old.state.ids ++ extra
  pub purged : new.state.purged ≡ old.state.purged
  pub items : new.output.items ≡ old.output.items ++ more
  pub held : AllHeld new.state.ids more
  pub stored : stored_ids more ≡ extra
  pub plain : AllPlain more

-- a longer log has what a shorter one has
held-more : (ids more : List (LogId ℕ)) (f : Feed) → Held ids f → Held (ids ++ more) f
held-more ids more (Stored v (Some x)) h = Contains-append_left ids more x h
held-more ids more (Stored v None) h = tt
held-more ids more (Saved v) h = tt
held-more ids more Nothing h = tt

pub all_held-more : (ids more : List (LogId ℕ)) (cs : List WorldCommand) → AllHeld ids cs → AllHeld (ids ++ more) cs
all_held-more ids more [] h = tt
all_held-more ids more (c ∷ cs) h = (held-more ids more (feed_of c) h.0, all_held-more ids more cs h.1)

pub all_held-append : (ids : List (LogId ℕ)) (xs ys : List WorldCommand) → AllHeld ids xs → AllHeld ids ys → AllHeld ids (xs ++ ys)
all_held-append ids [] ys hx hy = hy
all_held-append ids (x ∷ xs) ys hx hy = (hx.0, all_held-append ids xs ys hx.1 hy)

-- what was held is held with what comes
pub grown_held : (old new : WorldCore) → Grown old new → AllHeld old.state.ids old.output.items → AllHeld new.state.ids new.output.items
grown_held old new g h =
    rw g.items (all_held-append new.state.ids old.output.items g.more (rw g.ids (all_held-more old.state.ids g.extra old.output.items h)) g.held)

-- nothing, and one step after another
pub grown-none : (c : WorldCore) → Grown c c
grown-none c = record { extra = []; more = []; ids = sym (append-nil c.state.ids); purged = refl; items = sym (append-nil c.output.items); held = tt; stored = refl; plain = tt }

-- commands that store nothing
abbrev pub IsSilent : WorldCommand → Type 0
IsSilent (AppendInputEntries _ _) = ⊥
IsSilent (DeleteConflictLog _) = ⊥
IsSilent (PurgeLog _) = ⊥
IsSilent (StateMachine c) = IsPlainPayload c.payload
IsSilent _ = Unit {0}

abbrev pub Silent : List WorldCommand → Type 0
Silent cs = AllByRecursion IsSilent cs

silent_one : (ids : List (LogId ℕ)) (c : WorldCommand) → IsSilent c → Held ids (feed_of c) × (stored_by c ≡ []) × IsPlain c
silent_one ids (AppendInputEntries v es) h = absurd h
silent_one ids (DeleteConflictLog x) h = absurd h
silent_one ids (PurgeLog x) h = absurd h
silent_one ids (StateMachine c) h = (tt, refl, h)
silent_one ids BecomeLeader h = (tt, refl, tt)
silent_one ids QuitLeader h = (tt, refl, tt)
silent_one ids (ReplicateCommitted x) h = (tt, refl, tt)
silent_one ids (Commit seq already upto) h = (tt, refl, tt)
silent_one ids (Replicate target req) h = (tt, refl, tt)
silent_one ids (RebuildReplicationStreams targets) h = (tt, refl, tt)
silent_one ids (SaveVote v) h = (tt, refl, tt)
silent_one ids (SendVote req) h = (tt, refl, tt)
silent_one ids (Respond when reply) h = (tt, refl, tt)

pub silent_all : (ids : List (LogId ℕ)) (cs : List WorldCommand) → Silent cs → AllHeld ids cs × (stored_ids cs ≡ []) × AllPlain cs
silent_all ids [] h = (tt, refl, tt)
silent_all ids (c ∷ cs) h =
    let one = silent_one ids c h.0 in
    let rest = silent_all ids cs h.1 in
    ((one.0, rest.0), rw (one.1, rest.1) refl, (one.2, rest.2))

pub silent-append : (xs ys : List WorldCommand) → Silent xs → Silent ys → Silent (xs ++ ys)
silent-append [] ys hx hy = hy
silent-append (x ∷ xs) ys hx hy = (hx.0, silent-append xs ys hx.1 hy)

-- a step that leaves the log, and whose commands store nothing
pub grown-silent : (old new : WorldCore) (cs : List WorldCommand) → new.state.ids ≡ old.state.ids → new.state.purged ≡ old.state.purged
    → new.output.items ≡ old.output.items ++ cs → Silent cs → Grown old new
grown-silent old new cs ids purged items silent =
    let all = silent_all new.state.ids cs silent in
    record {
      extra = [];
      more = cs;
      ids = ids ∙ sym (append-nil old.state.ids);
      purged = purged;
      items = items;
      held = all.0;
      stored = all.1;
      plain = all.2;
    }

pub grown-then : (a b c : WorldCore) → Grown a b → Grown b c → Grown a c
grown-then a b c g h = record {
  extra = g.extra ++ h.extra;
  more = g.more ++ h.more;
  ids = h.ids ∙ (ap (λ ids. ids ++ h.extra) g.ids ∙ append_assoc a.state.ids g.extra h.extra);
  purged = h.purged ∙ g.purged;
  items = h.items ∙ (ap (λ items. items ++ h.more) g.items ∙ append_assoc a.output.items g.more h.more);
  stored = stored-append g.more h.more ∙ (ap (λ ids. ids ++ stored_ids h.more) g.stored ∙ ap (λ ids. g.extra ++ ids) h.stored);
  plain = plain-append g.more h.more g.plain h.plain;
  held = all_held-append c.state.ids g.more h.more (rw h.ids (all_held-more b.state.ids h.extra g.more g.held)) h.held;
}

-- one entry more, which a command stores
pub grown-one : (v : Vote ℕ) (e : Entry) (c : WorldCore) → Grown c (then_command (with_state c (extend c.state (e.log_id ∷ []))) (AppendInputEntries v (e ∷ [])))
grown-one v e c = record {
  extra = e.log_id ∷ [];
  more = AppendInputEntries v (e ∷ []) ∷ [];
  ids = refl;
  purged = refl;
  items = refl;
  held = (Contains-append_right c.state.ids (e.log_id ∷ []) e.log_id (0, omega arith, refl), tt);
  stored = refl;
  plain = (tt, tt);
}

pub role_silent : (a b : ServerState) → Silent (role_commands a b)
role_silent role.Learner role.Learner = tt
role_silent role.Learner role.Follower = tt
role_silent role.Learner role.Candidate = tt
role_silent role.Learner role.Leader = (tt, tt)
role_silent role.Follower role.Learner = tt
role_silent role.Follower role.Follower = tt
role_silent role.Follower role.Candidate = tt
role_silent role.Follower role.Leader = (tt, tt)
role_silent role.Candidate role.Learner = tt
role_silent role.Candidate role.Follower = tt
role_silent role.Candidate role.Candidate = tt
role_silent role.Candidate role.Leader = (tt, tt)
role_silent role.Leader role.Learner = (tt, tt)
role_silent role.Leader role.Follower = (tt, tt)
role_silent role.Leader role.Candidate = (tt, tt)
role_silent role.Leader role.Leader = tt

module _ (config : EngineConfig ℕ) where
  pub role-grows : (c : WorldCore) → Grown c (update_role nat_cmp config c)
  unfolding update_role
  role-grows c = grown-silent c (update_role nat_cmp config c) (role_commands c.state.role _) refl refl refl (role_silent c.state.role _)

  pub rebuild-grows : (l : WorldLed) → Grown l.core (rebuild_replication_streams nat_cmp config l).core
  unfolding rebuild_replication_streams
  rebuild-grows l = grown-silent l.core (rebuild_replication_streams nat_cmp config l).core _ refl refl refl (tt, tt)

  sends_silent : (target : ℕ) (r : Result (Inflight ℕ) (Inflight ℕ)) → Silent (send_commands false target r)
  sends_silent target (Ok f) = (tt, tt)
  sends_silent target (Err inflight.None) = tt
  sends_silent target (Err (inflight.Logs i r)) = tt
  sends_silent target (Err (inflight.Snapshot i r)) = tt

  one_silent : (s : RaftState ℕ (Unit {0})) (row : ℕ × ProgressEntry ℕ) → Silent (sends_of nat_cmp config false s row)
  one_silent s row = go (is_other nat_cmp config row)
    where
      go : (b : Bool) → Silent (if b then send_commands false row.0 (next_send s config.max_payload_entries row.1) else [])
      go true = sends_silent row.0 (next_send s config.max_payload_entries row.1)
      go false = tt

  all_silent : (s : RaftState ℕ (Unit {0})) (rows : List (ℕ × ProgressEntry ℕ)) → Silent (flat_map (sends_of nat_cmp config false s) rows)
  all_silent s [] = tt
  all_silent s (row ∷ rows) = silent-append (sends_of nat_cmp config false s row) _ (one_silent s row) (all_silent s rows)

  pub initiate-grows : (l : WorldLed) → Grown l.core (initiate_replication nat_cmp config false l).core
  unfolding initiate_replication
  initiate-grows l = grown-silent l.core (initiate_replication nat_cmp config false l).core _ refl refl refl (all_silent l.core.state l.leader.progress.rows)

  -- a leader's blank entry
  abbrev blank_of : LogId ℕ → List Entry
  blank_of id = entry_meaning.blank id ∷ []

  abbrev taken : LogId ℕ → WorldLed → WorldLed
  taken id l =
      let given = assigned entry_meaning l.leader (blank_of id) in
      record {
        leader = record l.leader { last_log_id = last_assigned l.leader (blank_of id) };
        core = then_command (with_state l.core (extend l.core.state (map entry_meaning.id_of given))) (AppendInputEntries l.leader.vote given);
      }

  taken-grows : (id : LogId ℕ) (l : WorldLed) → Grown l.core (taken id l).core
  taken-grows id l = grown-one l.leader.vote (entry_meaning.with_id (entry_meaning.blank id) (record { leader_id = l.leader.vote.leader_id; index = next l.leader.last_log_id })) l.core

  append-grows : (id : LogId ℕ) (l : WorldLed) → Grown l.core (leader_append_entries nat_cmp entry_meaning config (blank_of id) l).core
  unfolding leader_append_entries proposed
  append-grows id l = grown-then l.core (taken id l).core _ (taken-grows id l) (initiate-grows (taken id l))

  -- a step of an engine
  abbrev GrownMachine : WorldMachine → WorldMachine → Type 0
  GrownMachine old new = Grown old.core new.core

  abbrev led_with : WorldLeader → WorldMachine → WorldLed
  led_with l m = rebuild_replication_streams nat_cmp config (record { leader = l; core = update_role nat_cmp config m.core })

  led_with-grows : (l : WorldLeader) (m : WorldMachine) → Grown m.core (led_with l m).core
  led_with-grows l m =
      grown-then m.core (update_role nat_cmp config m.core) (led_with l m).core (role-grows m.core)
      (rebuild-grows (record { leader = l; core = update_role nat_cmp config m.core }))

  lead_anew-grows : (m : WorldMachine) → GrownMachine m (lead_anew nat_cmp entry_meaning config m)
  unfolding lead_anew begin_lead
  lead_anew-grows m = go _ _
    where
      go : (b : Bool) (id : LogId ℕ) → Grown m.core
          (if b
          then leader_append_entries nat_cmp entry_meaning config (blank_of id) (led_with (leader_in nat_cmp m.core.state.vote m.core.state.em.membership (by_last_leader nat_cmp m.core.state.ids)) m)
          else led_with (leader_in nat_cmp m.core.state.vote m.core.state.em.membership (by_last_leader nat_cmp m.core.state.ids)) m).core
      go true id = grown-then m.core _ _ (led_with-grows _ m) (append-grows id _)
      go false id = led_with-grows _ m

  become_leader-grows : (m : WorldMachine) → GrownMachine m (become_leader nat_cmp entry_meaning config m)
  unfolding become_leader
  become_leader-grows m = go m.leader
    where
      go : (o : Option WorldLeader) → GrownMachine m
          (elim o [
            | None ↦ lead_anew nat_cmp entry_meaning config m
            | Some l ↦
                (if is_eq (leader_id_cmp nat_cmp l.vote.leader_id m.core.state.vote.leader_id)
                then on_core (update_role nat_cmp config) (record m { leader = Some (record l { vote = m.core.state.vote }) })
                else lead_anew nat_cmp entry_meaning config m)
          ])
      go None = lead_anew-grows m
      go (Some l) = pick _
        where
          pick : (b : Bool) → GrownMachine m
              (if b
              then on_core (update_role nat_cmp config) (record m { leader = Some (record l { vote = m.core.state.vote }) })
              else lead_anew nat_cmp entry_meaning config m)
          pick true = role-grows m.core
          pick false = lead_anew-grows m

  become_following-grows : (m : WorldMachine) → GrownMachine m (become_following nat_cmp config m)
  unfolding become_following
  become_following-grows m = role-grows m.core

  pub internal-grows : (m : WorldMachine) → GrownMachine m (update_internal_server_state nat_cmp entry_meaning config m)
  unfolding update_internal_server_state
  internal-grows m = go _ _
    where
      go : (a b : Bool) → GrownMachine m (if a then become_leader nat_cmp entry_meaning config m else if b then m else become_following nat_cmp config m)
      go true b = become_leader-grows m
      go false true = grown-none m.core
      go false false = become_following-grows m

  take_vote-grows : (v : Vote ℕ) (now : ℕ) (c : WorldCore) → Grown c (take_vote nat_cmp config v now c)
  take_vote-grows v now c = go _
    where
      go : (b : Bool) → Grown c
          (if b then then_command (with_state c (record c.state { vote = v; time = Some now })) (SaveVote v)
          else with_state c (record c.state { time = Some now }))
      go true = grown-silent c (then_command (with_state c (record c.state { vote = v; time = Some now })) (SaveVote v)) (SaveVote v ∷ []) refl refl refl (tt, tt)
      go false = grown-silent c (with_state c (record c.state { time = Some now })) [] refl refl (sym (append-nil c.output.items)) tt

  pub update_vote-grows : (v : Vote ℕ) (now : ℕ) (m : WorldMachine) → GrownMachine m (update_vote nat_cmp entry_meaning config v now m)
  unfolding update_vote
  update_vote-grows v now m = go _
    where
      go : (b : Bool) → GrownMachine m (if b then m else update_internal_server_state nat_cmp entry_meaning config (on_core (take_vote nat_cmp config v now) m))
      go true = grown-none m.core
      go false =
          grown-then m.core (take_vote nat_cmp config v now m.core) _ (take_vote-grows v now m.core)
          (internal-grows (on_core (take_vote nat_cmp config v now) m))

  on_leader-grows : (id : LogId ℕ) (m : WorldMachine) → GrownMachine m (on_leader (leader_append_entries nat_cmp entry_meaning config (blank_of id)) m)
  on_leader-grows id m = go m.leader
    where
      go : (o : Option WorldLeader) → GrownMachine m
          (elim o [ None ↦ m | Some l ↦ leading m (leader_append_entries nat_cmp entry_meaning config (blank_of id) (record { leader = l; core = m.core })) ])
      go None = grown-none m.core
      go (Some l) = append-grows id (record { leader = l; core = m.core })

  abbrev leader_from : WorldCandidate → WorldLeader
  leader_from c = into_leader nat_cmp c

  abbrev into : WorldMachine → WorldCandidate → WorldMachine
  into m c = leading (record m { candidate = None }) (rebuild_replication_streams nat_cmp config (record { leader = leader_from c; core = m.core }))

  abbrev voted : WorldMachine → WorldCandidate → ℕ → WorldMachine
  voted m c now = update_vote nat_cmp entry_meaning config (leader_from c).vote now (into m c)

  lead_by_votes-grows : (c : WorldCandidate) (now : ℕ) (m : WorldMachine) → GrownMachine m (lead_by_votes nat_cmp entry_meaning config c now m)
  unfolding lead_by_votes
  lead_by_votes-grows c now m = go _
    where
      go : (b : Bool) → GrownMachine m
          (if b
          then on_leader (leader_append_entries nat_cmp entry_meaning config (blank_of (leader_from c).noop_log_id)) (voted m c now)
          else record m { candidate = None })
      go true =
          grown-then m.core (into m c).core _ (rebuild-grows (record { leader = leader_from c; core = m.core }))
          (grown-then (into m c).core (voted m c now).core _ (update_vote-grows (leader_from c).vote now (into m c)) (on_leader-grows _ (voted m c now)))
      go false = grown-none m.core

  take_grant-grows : (c : WorldCandidate) (target now : ℕ) (m : WorldMachine) → GrownMachine m (take_grant nat_cmp entry_meaning config c target now m)
  unfolding take_grant
  take_grant-grows c target now m = go _
    where
      go : (b : Bool) → GrownMachine m
          (if b then lead_by_votes nat_cmp entry_meaning config (grant_by nat_cmp c target) now m else record m { candidate = Some (grant_by nat_cmp c target) })
      go true = lead_by_votes-grows (grant_by nat_cmp c target) now m
      go false = grown-none m.core

  take_rejection-grows : (resp : VoteResponse ℕ) (now : ℕ) (m : WorldMachine) → GrownMachine m (take_rejection nat_cmp entry_meaning config resp now m)
  unfolding take_rejection
  take_rejection-grows resp now m = update_vote-grows (as_uncommitted resp.vote) now m

  -- a reply to the candidate's request
  pub handle_vote_resp-grows : (target : ℕ) (resp : VoteResponse ℕ) (now : ℕ) (m : WorldMachine) → GrownMachine m (handle_vote_resp nat_cmp entry_meaning config target resp now m)
  unfolding handle_vote_resp
  handle_vote_resp-grows target resp now m = go m.candidate
    where
      pick : (c : WorldCandidate) (b : Bool) → GrownMachine m
          (if b then take_grant nat_cmp entry_meaning config c target now m else take_rejection nat_cmp entry_meaning config resp now m)
      pick c true = take_grant-grows c target now m
      pick c false = take_rejection-grows resp now m

      go : (o : Option WorldCandidate) → GrownMachine m
          (elim o [
            | None ↦ m
            | Some c ↦ (if is_granted_to nat_cmp resp c.vote then take_grant nat_cmp entry_meaning config c target now m else take_rejection nat_cmp entry_meaning config resp now m)
          ])
      go None = grown-none m.core
      go (Some c) = pick c _

  abbrev vote_of : WorldMachine → Vote ℕ
  vote_of m = record { leader_id = record { term = m.core.state.vote.leader_id.term + 1; node_id = config.id }; committed = false }

  abbrev asked : ℕ → WorldMachine → WorldMachine
  asked now m =
      update_vote nat_cmp entry_meaning config (vote_of m) now
      (record m { candidate = Some (candidate_of nat_cmp now (vote_of m) (last m.core.state.ids) m.core.state.em.membership) })

  abbrev sending : ℕ → WorldMachine → WorldCore
  sending now m = then_command (asked now m).core (SendVote (record { vote = vote_of m; last_log_id = last m.core.state.ids }))

  pub elect-grows : (now : ℕ) (m : WorldMachine) → GrownMachine m (elect nat_cmp entry_meaning config now m)
  unfolding elect
  elect-grows now m =
      grown-then m.core (asked now m).core _ (update_vote-grows (vote_of m) now _)
      (grown-then (asked now m).core (sending now m) _
      (grown-silent (asked now m).core (sending now m) _ refl refl refl (tt, tt))
      (role-grows (sending now m)))

  -- the first entry
  abbrev first_taken : Entry → WorldCore → WorldCore
  first_taken e c = with_state c (with_entries entry_meaning c.state (e ∷ []))

  first-ids : (e : Entry) (c : WorldCore) → (first_taken e c).state.ids ≡ c.state.ids ++ e.log_id ∷ []
  first-ids e c = go e.payload
    where
      go : (p : Payload) → (first_taken (record e { payload = p }) c).state.ids ≡ c.state.ids ++ e.log_id ∷ []
      go Blank = refl
      go (Value v) = refl
      go (Membership m) = refl

  first-purged : (e : Entry) (c : WorldCore) → (first_taken e c).state.purged ≡ c.state.purged
  first-purged e c = go e.payload
    where
      go : (p : Payload) → (first_taken (record e { payload = p }) c).state.purged ≡ c.state.purged
      go Blank = refl
      go (Value v) = refl
      go (Membership m) = refl

  stored-grows : (e : Entry) (c s : WorldCore) → s.state.ids ≡ c.state.ids ++ e.log_id ∷ [] → s.state.purged ≡ c.state.purged → (v : Vote ℕ) → (cs : List WorldCommand) → s.output.items ≡ c.output.items ++ cs → Silent cs
      → Grown c (then_command s (AppendInputEntries v (e ∷ [])))
  stored-grows e c s ids purged v cs items silent =
      let all = silent_all s.state.ids cs silent in
      let one : List WorldCommand = AppendInputEntries v (e ∷ []) ∷ [] in
      record {
        extra = e.log_id ∷ [];
        more = cs ++ one;
        ids = ids;
        purged = purged;
        items = ap (λ xs. xs ++ one) items ∙ append_assoc c.output.items cs one;
        held = all_held-append s.state.ids cs one all.0 (rw ids (Contains-append_right c.state.ids (e.log_id ∷ []) e.log_id (0, omega arith, refl)), tt);
        stored = stored-append cs one ∙ ap (λ ids. ids ++ e.log_id ∷ []) all.1;
        plain = plain-append cs one all.2 (tt, tt);
      }

  do_append-grows : (e : Entry) (c : WorldCore) → Grown c (do_append_entries nat_cmp entry_meaning config (e ∷ []) c)
  unfolding do_append_entries update_role
  do_append-grows e c = go _
    where
      go : (b : Bool) → Grown c (then_command (if b then first_taken e c else update_role nat_cmp config (first_taken e c)) (AppendInputEntries c.state.vote (e ∷ [])))
      go true = stored-grows e c (first_taken e c) (first-ids e c) (first-purged e c) c.state.vote [] (sym (append-nil c.output.items)) tt
      go false = stored-grows e c (update_role nat_cmp config (first_taken e c)) (first-ids e c) (first-purged e c) c.state.vote (role_commands (first_taken e c).state.role _) refl (role_silent (first_taken e c).state.role _)

  abbrev named : ℕ → Entry → Entry
  named first e = entry_meaning.with_id e (default_log_id first)

  -- the first entry of a cluster
  pub initialize-grows : (first : ℕ) (e : Entry) (now : ℕ) (m : WorldMachine) → GrownMachine m (initialize nat_cmp entry_meaning config first e now m)
  unfolding initialize
  initialize-grows first e now m =
      grown-then m.core (do_append_entries nat_cmp entry_meaning config (named first e ∷ []) m.core) _ (do_append-grows (named first e) m.core)
      (elect-grows now (on_core (do_append_entries nat_cmp entry_meaning config (named first e ∷ [])) m))

  -- a snapshot is built where it is due
  pub snapshot-grows : (c : WorldCore) → Grown c (snapshot_where_due config c)
  unfolding snapshot_where_due trigger_snapshot
  snapshot-grows c = go _ c.state.building
    where
      go : (a b : Bool) → Grown c (if a then (if b then c else record { state = record c.state { building = true }; output = ordered c.output BuildSnapshot }) else c)
      go true true = grown-none c
      go true false = grown-silent c (record { state = record c.state { building = true }; output = ordered c.output BuildSnapshot }) _ refl refl refl (tt, tt)
      go false b = grown-none c

  commit-ids : (s : RaftState ℕ (Unit {0})) (x : Option (LogId ℕ)) → ((commit nat_cmp s x).ids ≡ s.ids) × ((commit nat_cmp s x).purged ≡ s.purged)
  commit-ids s x = go _ _
    where
      go : (a b : Bool) → ((if a then record (if b then record s { cm = s.em } else s) { committed = x } else s).ids ≡ s.ids)
          × ((if a then record (if b then record s { cm = s.em } else s) { committed = x } else s).purged ≡ s.purged)
      go true true = (refl, refl)
      go true false = (refl, refl)
      go false b = (refl, refl)

  abbrev committing : LogId ℕ → WorldCore → WorldCore
  committing x c = record { state = commit nat_cmp c.state (Some x); output = committed_upto (queued c.output (ReplicateCommitted (Some x) ∷ [])) c.state.committed x }

  pub commit-grows : (x : LogId ℕ) (c : WorldCore) → Grown c (commit_by nat_cmp config (ReplicateCommitted (Some x) ∷ []) (Some x) c)
  unfolding commit_by
  commit-grows x c = go _
    where
      go : (b : Bool) → Grown c (if b then snapshot_where_due config (committing x c) else c)
      go true =
          grown-then c (committing x c) (snapshot_where_due config (committing x c))
          (grown-silent c (committing x c) (ReplicateCommitted (Some x) ∷ _ ∷ []) (commit-ids c.state (Some x)).0 (commit-ids c.state (Some x)).1
          (append_assoc c.output.items (ReplicateCommitted (Some x) ∷ []) _) (tt, (tt, tt)))
          (snapshot-grows (committing x c))
      go false = grown-none c

  -- a commit that tells nobody
  abbrev commit_of : LogId ℕ → WorldCore → WorldCommand
  commit_of x c = Commit (c.output.seq + 1) c.state.committed x

  abbrev committed_by : LogId ℕ → WorldCore → WorldCore
  committed_by x c = record { state = commit nat_cmp c.state (Some x); output = committed_upto (queued c.output []) c.state.committed x }

  pub plain_commit-grows : (o : Option (LogId ℕ)) (c : WorldCore) → Grown c (commit_by nat_cmp config [] o c)
  unfolding commit_by
  plain_commit-grows None c = grown-none c
  plain_commit-grows (Some x) c = go _
    where
      go : (b : Bool) → Grown c (if b then snapshot_where_due config (committed_by x c) else c)
      go true =
          grown-then c (committed_by x c) (snapshot_where_due config (committed_by x c))
          (grown-silent c (committed_by x c) (commit_of x c ∷ []) (commit-ids c.state (Some x)).0 (commit-ids c.state (Some x)).1
          (ap (λ (xs : List WorldCommand). xs ++ commit_of x c ∷ []) (append-nil c.output.items)) (tt, tt))
          (snapshot-grows (committed_by x c))
      go false = grown-none c

  try-grows : (g : Option (LogId ℕ)) (c : WorldCore) → Grown c (try_commit_quorum_accepted nat_cmp config g c)
  unfolding try_commit_quorum_accepted
  try-grows None c = grown-none c
  try-grows (Some x) c = go _
    where
      go : (b : Bool) → Grown c (if b then commit_by nat_cmp config (ReplicateCommitted (Some x) ∷ []) (Some x) c else c)
      go true = commit-grows x c
      go false = grown-none c

  -- this node's own log holds x
  pub local-grows : (x : Option (LogId ℕ)) (l : WorldLed) → Grown l.core (update_local_progress nat_cmp config x l).core
  unfolding update_local_progress
  local-grows None l = grown-none l.core
  local-grows (Some x) l = go _
    where
      pick : (e : ProgressEntry ℕ) (b : Bool) → Grown l.core (if b then l else commit_granted nat_cmp config (with_entry nat_cmp l config.id (own_matched nat_cmp (Some x) e))).core
      pick e true = grown-none l.core
      pick e false = try-grows _ l.core

      go : (o : Option (ProgressEntry ℕ)) → Grown l.core
          (core_led (elim o [
            | None ↦ l
            | Some e ↦ (if is_ge (last_id_cmp nat_cmp e.matching (Some x)) then l else commit_granted nat_cmp config (with_entry nat_cmp l config.id (own_matched nat_cmp (Some x) e)))
          ]))
      go None = grown-none l.core
      go (Some e) = pick e _
