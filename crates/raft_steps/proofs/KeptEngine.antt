-- An engine is sound after each of these steps.
use Rattle.std.specs.Prelude.{◌≡◌, is_none, ℕ, ◌+◌, ◌-◌, ◌<◌, ◌^◌, ◌==◌, nat_lt, nat_le, Bool, true, false, ◌&&◌, ◌||◌, not, List, [], ◌∷◌, ◌++◌, Option, None, Some, IfSome, refl, length, slice_get, map, drop, fold, MatchBool, if◌then◌else◌}
use Rattle.std.specs.List.{AllByRecursion}
use Rattle.std.specs.Option.{option_to_list}
use Rattle.std.proofs.Common.{ap, sym, ◌∙◌, arith, subst, suc, lit<}
use Rattle.std.proofs.lemmas.Bool.Decides.{nat_tests}
use Rattle.std.specs.declared.cmp.Ordering.{Ordering}
use Rattle.std.specs.declared.cmp.Ordering.TheVariants.{Less, Equal, Greater}
use Rattle.std.specs.Ordering.{is_eq, is_ne, is_lt, is_le, is_gt, nat_cmp, bool_cmp, ordering_then}
use Rattle.std.specs.Cmp.{IsTotalOrder}
use Rattle.std.proofs.lemmas.Cmp.{tied_itself}
use Rattle.raft_state.specs.declared.config.RaftEntry
use Rattle.raft_state.specs.declared.ids.LogId.{LogId}
use Rattle.raft_state.specs.declared.ids.Vote.{Vote}
use Rattle.raft_state.specs.declared.membership.Members.{Members}
use Rattle.raft_state.specs.declared.membership.StoredMembership.{StoredMembership}
use Rattle.raft_state.specs.declared.state.RaftState.{RaftState}
use Rattle.raft_state.specs.Order.{vote_cmp, leader_id_cmp, next}
use Rattle.raft_state.specs.Log.{last}
use Rattle.raft_state.specs.Members.{voter_ids, learner_ids, contains}
use Rattle.raft_state.specs.State.{append_membership, extend, empty, is_leader, is_leading, by_last_leader}
use Rattle.raft_progress_entry.specs.Entry
use Rattle.raft_proposer.specs.raft_progress.Quorum.{is_quorum}
use Rattle.raft_proposer.specs.raft_progress.Table.{row_ids, with_value, get}
use Rattle.raft_progress_entry.specs.raft_error.Number.{first_refusal}
use Rattle.raft_progress_entry.specs.raft_error.declared.error.EngineError.{EngineError}
use Rattle.raft_progress_entry.specs.raft_error.declared.error.EngineError.TheVariants.{IndexEnd, UnknownTarget}
use Rattle.raft_state.specs.declared.policy.RejectVoteRequest.{RejectVoteRequest}
use Rattle.raft_command.specs.declared.command.Command.{Command}
use Rattle.raft_command.specs.declared.command.Command.TheVariants.{SaveVote, SendVote}
use Rattle.raft_command.specs.declared.command.Command.TheVariants as command
use Rattle.raft_command.specs.declared.message.Token.{Token}
use Rattle.raft_command.specs.declared.respond.Respond.{Respond}
use Rattle.raft_command.specs.declared.message.VoteResponse.{VoteResponse}
use Rattle.raft_command.specs.declared.config.EngineConfig.{EngineConfig}
use Rattle.raft_steps.specs.Parts.{Core, Led, Machine, then_command, with_state, on_core, leading, on_leader}
use Rattle.raft_proposer.specs.Joint.{JointLeader, JointCandidate}
use Rattle.raft_steps.specs.ServerStateHandler.{update_role}
use Rattle.raft_steps.specs.SnapshotHandler.{trigger_snapshot}
use Rattle.raft_steps.specs.FollowingHandler.{do_append_entries, with_entries, memberships_in}
use Rattle.raft_proposer.specs.Leader.{assigned, blank_id, leader_in}
use Rattle.raft_proposer.specs.Candidate.{as_committed, candidate_of, into_leader, grant_by, is_granted}
use Rattle.raft_steps.specs.ReplicationHandler.{initiate_replication, rebuild_progresses, rebuild_replication_streams, append_membership_led}
use Rattle.raft_steps.specs.LeaderHandler.{proposed, leader_append_entries}
use Rattle.raft_steps.specs.VoteHandler.{become_following, take_vote, rejects_vote, begin_lead, lead_anew, become_leader, update_internal_server_state, update_vote}
use Rattle.raft_steps.specs.EstablishHandler.{outvotes}
use Rattle.raft_steps.specs.Engine.{default_log_id, as_uncommitted, is_granted_to, may_establish, elect, lead_by_votes, take_rejection, take_grant, handle_vote_resp, initialize}
use Rattle.raft_steps.specs.Refusals.{has_index_end, blank_is_at_end, refusals_of_update_vote, refusals_of_lead, refusals_of_vote_resp, refusals_of_initialize}
use Rattle.raft_proposer.specs.Joint.{u64_max}
use Rattle.raft_steps.specs.Accepts.{Accepts, OnlyReplies}
use Rattle.raft_steps.specs.Conditions.{MayAppend}
use Rattle.raft_state.specs.Invariants.{IsUnder, IsBelowEnd, IsSoundState}
use Rattle.raft_steps.specs.Invariants.{IsSoundLed, IsSound, EntryFits, LeaderFits, CandidateFits, CandidateIsCurrent}
use Rattle.raft_state.specs.Same.{leader_id_same}
use Rattle.raft_state.proofs.Orders.{and_both, both_and, le_refl, le_trans, le_antisymm, le_of_not_lt, eq_swap, eq_is_le, is_equal, leader_total, vote_total, vote_eq_leader}
use Rattle.raft_steps.proofs.EntryLaws.{empty_fits}
use Rattle.raft_steps.proofs.Leads.{one_id, no_order, vote_same}
use Rattle.raft_proposer.proofs.Tables.{ids_of_rows, same_id, same_ids}
use Rattle.raft_steps.proofs.Kept.{TakesIds, either, either_option, do_append_kept, vote_sound, MayGrow}
use Rattle.raft_steps.proofs.Unrefused.{or_fails, second_fails, neither}
use Rattle.raft_steps.proofs.Ends.{by_last_leader_ends}
use Rattle.raft_steps.proofs.Room.{room_of, last_each, log_end}
use Rattle.raft_steps.specs.Room.{HasRoom, is_full}
use Rattle.raft_steps.proofs.KeptLead.{each_of, initiate_kept, rebuild_kept, progresses_kept, propose_kept}

-- an uncommitted vote isn't a committed one
apart : (r : Ordering) (a b : Bool) → a ≡ false → b ≡ true → is_eq (ordering_then r (bool_cmp a b)) ≡ false
apart Less a b ea eb = refl
apart Equal a b ea eb = rw (ea, eb) refl
apart Greater a b ea eb = refl

module _ {NID N : Type 0} (cmp : NID → NID → Ordering) (total : IsTotalOrder cmp) where
  -- a candidate beside a committed vote stays what it is, whatever becomes of the log
  pub candidate_apart : (id : NID) (vote : Vote NID) (old new : List (LogId NID)) (m n : Members NID N) (o : Option (JointCandidate NID)) → vote.committed ≡ true
      → IfSome o (CandidateFits cmp id vote old m) → IfSome o (CandidateFits cmp id vote new n)
  candidate_apart id vote old new m n None e h = tt
  candidate_apart id vote old new m n (Some c) e h = record {
    pending = h.pending;
    low = h.low;
    current = λ q. let z : false ≡ true = sym (apart (leader_id_cmp cmp c.vote.leader_id vote.leader_id) c.vote.committed vote.committed h.pending e) ∙ q in cc;
  }

  -- the same where it isn't the state's
  pub candidate_aside : (id : NID) (vote : Vote NID) (old new : List (LogId NID)) (m n : Members NID N) (o : Option (JointCandidate NID))
      → IfSome o (λ c. is_eq (vote_cmp cmp c.vote vote) ≡ false) → IfSome o (CandidateFits cmp id vote old m) → IfSome o (CandidateFits cmp id vote new n)
  candidate_aside id vote old new m n None e h = tt
  candidate_aside id vote old new m n (Some c) e h = record { pending = h.pending; low = h.low; current = λ q. let z : false ≡ true = sym e ∙ q in cc }

  -- and under a vote that isn't below the old one
  pub candidate_raised : (id : NID) (old new : Vote NID) (ids : List (LogId NID)) (m : Members NID N) (o : Option (JointCandidate NID)) → is_le (vote_cmp cmp old new) ≡ true
      → IfSome o (CandidateFits cmp id old ids m) → IfSome o (CandidateFits cmp id new ids m)
  candidate_raised id old new ids m None le h = tt
  candidate_raised id old new ids m (Some c) le h = record {
    pending = h.pending;
    low = le_trans (vote_total cmp total) c.vote old new h.low le;
    current = λ q. h.current (le_antisymm (vote_total cmp total) c.vote old h.low
        (le_trans (vote_total cmp total) old new c.vote le (eq_is_le _ (eq_swap (vote_total cmp total) c.vote new q))));
  }

  -- one voter more has granted
  pub candidate_granted : (id : NID) (vote : Vote NID) (ids : List (LogId NID)) (m : Members NID N) (c : JointCandidate NID) (voter : NID)
      → CandidateFits cmp id vote ids m c → CandidateFits cmp id vote ids m (grant_by cmp c voter)
  candidate_granted id vote ids m c voter h = record {
    pending = h.pending;
    low = h.low;
    current = λ q. let k = h.current q in record {
      own = k.own;
      member = k.member;
      last_id = k.last_id;
      groups = k.groups;
      voters = same_ids (with_value cmp voter true) (same_id cmp voter true) c.progress.rows ∙ k.voters;
      learners = k.learners;
    };
  }

module _ {NID : Type 0} (cmp : NID → NID → Ordering) (same : (a b : NID) → cmp a b ≡ Equal → a ≡ b) where
  -- the no-op entry's id is of the leader whose vote it is
  noop_own : (vote : Vote NID) (ids : List (LogId NID)) → (blank_id cmp vote ids).leader_id ≡ vote.leader_id
  noop_own vote [] = refl
  noop_own vote (first ∷ ids) = by (is_eq (leader_id_cmp cmp first.leader_id vote.leader_id)) refl where
    by : (b : Bool) → is_eq (leader_id_cmp cmp first.leader_id vote.leader_id) ≡ b
        → (if b then first else record { leader_id = vote.leader_id; index = next (last (first ∷ ids)) }).leader_id ≡ vote.leader_id
    by true e = leader_id_same cmp same first.leader_id vote.leader_id (is_equal _ e)
    by false e = refl

module _ {C NID N E D R S : Type 0} (cmp : NID → NID → Ordering) (total : IsTotalOrder cmp) (same : (a b : NID) → cmp a b ≡ Equal → a ≡ b) where
  -- the new leader of a node that leads by its vote
  pub leader_in_fits : (id : NID) (s : RaftState NID N) → s.vote.committed ≡ true → is_eq (cmp s.vote.leader_id.node_id id) ≡ true
      → LeaderFits {C = C} {E = E} {D = D} {R = R} {S = S} cmp id s.ids s.purged s.em.membership (leader_in cmp s.vote s.em.membership (by_last_leader cmp s.ids))
  leader_in_fits id s v own =
      let nodes = voter_ids cmp s.em.membership ++ learner_ids cmp s.em.membership in
      let e : next (last (by_last_leader cmp s.ids)) ≡ next (last s.ids) = ap next (by_last_leader_ends cmp s.ids) in
      let end = Entry.empty (next (last (by_last_leader cmp s.ids))) in
      record {
        committed = v;
        own = own;
        noop = noop_own cmp same s.vote (by_last_leader cmp s.ids);
        last_id = by_last_leader_ends cmp s.ids;
        progress = record { set = refl; ids = ids_of_rows end nodes; voters = refl };
        clock = record { set = refl; ids = ids_of_rows None nodes; voters = refl };
        ungranted = refl;
        entries = each_of (λ row. EntryFits cmp s.ids s.purged row.1) (λ id. (id, end)) (λ id. empty_fits cmp total same s.ids s.purged (next (last (by_last_leader cmp s.ids))) (omega (arith, e))) nodes;
      }

  -- the leader that a current candidate becomes
  pub into_leader_fits : (id : NID) (ids : List (LogId NID)) (purged : Option (LogId NID)) (m : Members NID N) (c : JointCandidate NID)
      → CandidateIsCurrent cmp id ids m c → LeaderFits {C = C} {E = E} {D = D} {R = R} {S = S} cmp id ids purged m (into_leader cmp c)
  into_leader_fits id ids purged m c k =
      let nodes = row_ids c.progress ++ c.learner_ids in
      let of_members : nodes ≡ voter_ids cmp m ++ learner_ids cmp m = λ i. k.voters i ++ k.learners i in
      let e : last (option_to_list c.last_log_id) ≡ last ids = one_id c.last_log_id ∙ k.last_id in
      let n : next (last (option_to_list c.last_log_id)) ≡ next (last ids) = ap next e in
      let end = Entry.empty (next (last (option_to_list c.last_log_id))) in
      record {
        committed = refl;
        own = k.own;
        noop = noop_own cmp same (as_committed c.vote) (option_to_list c.last_log_id);
        last_id = e;
        progress = record { set = k.groups; ids = ids_of_rows end nodes ∙ of_members; voters = ap length k.voters };
        clock = record { set = k.groups; ids = ids_of_rows None nodes ∙ of_members; voters = ap length k.voters };
        ungranted = refl;
        entries = each_of (λ row. EntryFits cmp ids purged row.1) (λ id. (id, end)) (λ id. empty_fits cmp total same ids purged (next (last (option_to_list c.last_log_id))) (omega (arith, n))) nodes;
      }

module _ {NID : Type 0} (cmp : NID → NID → Ordering) where
  -- a new node's state
  pub empty_is_sound : (N : Type 0) (first : NID) → IsSoundState {N = N} cmp (empty first)
  empty_is_sound N first = record {
    log = record { by_vote = tt; rising = tt; run = tt; below_end = tt; first = tt };
    marks = record { at_purged = refl; at_target = refl; at_snapshot = refl; at_committed = refl; target_fits = refl; snapshot_fits = refl; committed_fits = refl };
    accepted = tt;
  }

module _ {NID N : Type 0} where
  pub joined_vote : (ms : List (StoredMembership NID N)) (s : RaftState NID N) → (fold append_membership s ms).vote ≡ s.vote
  joined_vote [] s = refl
  joined_vote (m ∷ ms) s = joined_vote ms (append_membership s m)

-- a chain of tests that fails, though all but the last hold
last_fails : (a b c d e : Bool) → (a && b && c && d && e) ≡ false → a ≡ true → b ≡ true → c ≡ true → d ≡ true → e ≡ false
last_fails true true true true e h ka kb kc kd = h
last_fails false b c d e h ka kb kc kd = cc
last_fails true false c d e h ka kb kc kd = cc
last_fails true true false d e h ka kb kc kd = cc
last_fails true true true false e h ka kb kc kd = cc

module _ {C NID N E D R S : Type 0} (cmp : NID → NID → Ordering) (total : IsTotalOrder cmp) (same : (a b : NID) → cmp a b ≡ Equal → a ≡ b) (config : EngineConfig NID) where
  -- one command more changes nothing of it
  pub told_is_sound : (x : Command C NID N E D R S) (m : Machine C NID N E D R S) → IsSound cmp config m → IsSound cmp config (on_core (λ c. then_command c x) m)
  told_is_sound x m h = record { sound = h.sound; lead = h.lead }

  -- what is equal to a sound engine, or to a sound leader, is sound
  pub sound_along : (n m : Machine C NID N E D R S) → n ≡ m → IsSound cmp config m → IsSound cmp config n
  sound_along n m e h = subst (IsSound cmp config) (sym e) h

  pub led_along : (n l : Led C NID N E D R S) → n ≡ l → IsSoundLed cmp config l → IsSoundLed cmp config n
  led_along n l e h = subst (IsSoundLed cmp config) (sym e) h

  -- a state without leader and candidate
  pub idle_is_sound : (c : Core C NID N E D R S) → IsSoundState cmp c.state
      → IsSound cmp config (record { core = c; leader = None; candidate = None })
  idle_is_sound c h = record { sound = h; lead = record { leader_fits = tt; candidate_fits = tt } }

  -- the role is brought up to date
  pub role_is_sound : (m : Machine C NID N E D R S) → IsSound cmp config m → IsSound cmp config (on_core (update_role cmp config) m)
  unfolding update_role
  role_is_sound m h = record { sound = h.sound; lead = h.lead }

  -- a snapshot is asked for
  pub trigger_is_sound : (m : Machine C NID N E D R S) → IsSound cmp config m → IsSound cmp config (on_core trigger_snapshot m)
  unfolding trigger_snapshot
  trigger_is_sound m h =
      either (λ (c : Core C NID N E D R S). IsSound cmp config (record m { core = c })) m.core.state.building _ _ h (record { sound = h.sound; lead = h.lead })

  -- no leader and no candidate any more
  pub following_is_sound : (m : Machine C NID N E D R S) → IsSound cmp config m → IsSound cmp config (become_following cmp config m)
  unfolding become_following update_role
  following_is_sound m h = record { sound = h.sound; lead = record { leader_fits = tt; candidate_fits = tt } }

  -- an engine under its leader
  pub leading_is_sound : (m : Machine C NID N E D R S) (l : Led C NID N E D R S) → IsSoundLed cmp config l
      → IfSome m.candidate (CandidateFits cmp config.id l.core.state.vote l.core.state.ids l.core.state.em.membership) → IsSound cmp config (leading m l)
  leading_is_sound m l h c = record { sound = h.sound; lead = record { leader_fits = h.leader_fits; candidate_fits = c } }

  -- a step of the leader: what holds of it, and of a candidate beside it
  pub on_leader_is_sound : (f : Led C NID N E D R S → Led C NID N E D R S) (m : Machine C NID N E D R S) → IsSound cmp config m
      → ((l : JointLeader C NID N E D R S) → m.leader ≡ Some l → IsSoundLed cmp config (record { leader = l; core = m.core }) → IsSoundLed cmp config (f (record { leader = l; core = m.core })))
      → ((l : JointLeader C NID N E D R S) → m.leader ≡ Some l → (let c = (f (record { leader = l; core = m.core })).core in
      IfSome m.candidate (CandidateFits cmp config.id c.state.vote c.state.ids c.state.em.membership)))
      → IsSound cmp config (on_leader f m)
  on_leader_is_sound f m h kept beside = go m.leader refl h.lead.leader_fits where
    go : (o : Option (JointLeader C NID N E D R S)) → m.leader ≡ o → IfSome o (LeaderFits cmp config.id m.core.state.ids m.core.state.purged m.core.state.em.membership)
        → IsSound cmp config (elim o [ None ↦ m | Some l ↦ leading m (f (record { leader = l; core = m.core })) ])
    go None e k = h
    go (Some l) e k = leading_is_sound m _ (kept l e (record { sound = h.sound; leader_fits = k })) (beside l e)

  -- each other node is sent what comes next
  pub initiate_is_sound : (force : Bool) (m : Machine C NID N E D R S) → IsSound cmp config m → IsSound cmp config (on_leader (initiate_replication cmp config force) m)
  unfolding initiate_replication
  initiate_is_sound force m h = on_leader_is_sound (initiate_replication cmp config force) m h (λ l e k. initiate_kept cmp total same config force _ k) (λ l e. h.lead.candidate_fits)

  -- the streams begin anew
  pub rebuild_is_sound : (m : Machine C NID N E D R S) → IsSound cmp config m → IsSound cmp config (on_leader (rebuild_replication_streams cmp config) m)
  unfolding rebuild_replication_streams
  rebuild_is_sound m h = on_leader_is_sound (rebuild_replication_streams cmp config) m h (λ l e k. rebuild_kept cmp total same config _ k) (λ l e. h.lead.candidate_fits)

  -- the tables hold the effective membership's nodes
  pub progresses_is_sound : (m : Machine C NID N E D R S) → IsSound cmp config m → IsSound cmp config (on_leader (rebuild_progresses cmp) m)
  unfolding rebuild_progresses
  progresses_is_sound m h =
      on_leader_is_sound (rebuild_progresses cmp) m h
      (λ l e k. progresses_kept cmp total same config m.core.state.em.membership _ k.sound k.leader_fits) (λ l e. h.lead.candidate_fits)

  -- a step of the core of a node without a leader, and without a candidate under its vote
  pub following_core : (m : Machine C NID N E D R S) (c : Core C NID N E D R S) → m.leader ≡ None → IfSome m.candidate (λ q. is_eq (vote_cmp cmp q.vote m.core.state.vote) ≡ false)
      → c.state.vote ≡ m.core.state.vote → IsSound cmp config m → IsSoundState cmp c.state → IsSound cmp config (record m { core = c })
  following_core m c none aside v h s = record {
    sound = s;
    lead = record {
      leader_fits = rw none tt;
      candidate_fits = subst (λ w. IfSome m.candidate (CandidateFits cmp config.id w c.state.ids c.state.em.membership)) (sym v)
          (candidate_aside cmp total config.id m.core.state.vote m.core.state.ids c.state.ids m.core.state.em.membership c.state.em.membership m.candidate aside h.lead.candidate_fits);
    };
  }

module _ {NID N E : Type 0} (entry : RaftEntry.Ghosts E NID N) where
  -- entries of which none has the greatest index
  pub below_end_each : (es : List E) → has_index_end entry es ≡ false → AllByRecursion IsBelowEnd (map entry.id_of es)
  below_end_each [] e = tt
  below_end_each (x ∷ xs) e =
      let n = or_fails (nat_le u64_max (entry.id_of x).index) (has_index_end entry xs) e in
      (below_end_of (entry.id_of x).index n.0, below_end_each xs n.1) where
        below_end_of : (i : ℕ) → nat_le u64_max i ≡ false → i + 1 < 2 ^ 64
        below_end_of i e = grind (arith, nat_tests)

module _ {C NID N E D R S : Type 0} (cmp : NID → NID → Ordering) (total : IsTotalOrder cmp) (same : (a b : NID) → cmp a b ≡ Equal → a ≡ b) (entry : RaftEntry.Ghosts E NID N) (config : EngineConfig NID) where
  append_vote : (es : List E) (c : Core C NID N E D R S) → (do_append_entries cmp entry config es c).state.vote ≡ c.state.vote
  unfolding do_append_entries update_role
  append_vote es c =
      let t : (with_entries entry c.state es).vote ≡ c.state.vote = joined_vote (drop (length (memberships_in entry es) - 2) (memberships_in entry es)) (extend c.state (map entry.id_of es)) in
      either (λ (q : Core C NID N E D R S). q.state.vote ≡ c.state.vote) (length es == 0) _ _ refl
      (either (λ (q : Core C NID N E D R S). q.state.vote ≡ c.state.vote) (length (memberships_in entry es) == 0) _ _ t t)

  -- entries are taken behind the last one, by a node that follows
  pub do_append_is_sound : (es : List E) (m : Machine C NID N E D R S) → m.leader ≡ None → IfSome m.candidate (λ q. is_eq (vote_cmp cmp q.vote m.core.state.vote) ≡ false)
      → MayAppend cmp entry m.core.state es → AllByRecursion IsBelowEnd (map entry.id_of es)
      → IsSound cmp config m → IsSound cmp config (on_core (do_append_entries cmp entry config es) m)
  do_append_is_sound es m none aside may end h =
      following_core cmp total same config m (do_append_entries cmp entry config es m.core) none aside (append_vote es m.core) h
      (do_append_kept cmp total same entry config es m.core may.follow may.by_vote end h.sound)

module _ {C NID N E D R S : Type 0} (cmp : NID → NID → Ordering) (total : IsTotalOrder cmp) (same : (a b : NID) → cmp a b ≡ Equal → a ≡ b) (entry : RaftEntry.Ghosts E NID N) (named : TakesIds entry) (config : EngineConfig NID) where
  propose_vote : (es : List E) (l : Led C NID N E D R S) → (leader_append_entries cmp entry config es l).core.state.vote ≡ l.core.state.vote
  unfolding leader_append_entries proposed initiate_replication append_membership_led rebuild_replication_streams rebuild_progresses
  propose_vote es l =
      either (λ (q : Led C NID N E D R S). q.core.state.vote ≡ l.core.state.vote) (length es == 0) _ _ refl
      (either_option (λ (q : Led C NID N E D R S). q.core.state.vote ≡ l.core.state.vote)
      (slice_get (memberships_in entry (assigned entry l.leader es)) (length (memberships_in entry (assigned entry l.leader es)) - 1)) _ _ refl (λ m. refl))

  -- what a leader has taken, beside a candidate of an earlier vote
  propose_beside : (es : List E) (l : Led C NID N E D R S) (o : Option (JointCandidate NID)) → l.core.state.vote.committed ≡ true
      → IfSome o (CandidateFits cmp config.id l.core.state.vote l.core.state.ids l.core.state.em.membership)
      → (let c = (leader_append_entries cmp entry config es l).core in IfSome o (CandidateFits cmp config.id c.state.vote c.state.ids c.state.em.membership))
  propose_beside es l o v h =
      let c = (leader_append_entries cmp entry config es l).core in
      subst (λ w. IfSome o (CandidateFits cmp config.id w c.state.ids c.state.em.membership)) (sym (propose_vote es l))
      (candidate_apart cmp total config.id l.core.state.vote l.core.state.ids c.state.ids l.core.state.em.membership c.state.em.membership o v h)

  -- a leader's entries are taken, where its log may grow by them
  pub propose_is_sound : (es : List E) (m : Machine C NID N E D R S) → IfSome m.leader (λ l. MayGrow cmp l m.core.state (length es)) → m.core.state.vote.committed ≡ true
      → IsSound cmp config m → IsSound cmp config (on_leader (leader_append_entries cmp entry config es) m)
  propose_is_sound es m may v h =
      on_leader_is_sound cmp total same config (leader_append_entries cmp entry config es) m h
      (λ l e k. propose_kept cmp total same entry named config es _ (subst (λ o. IfSome o (λ q. MayGrow cmp q m.core.state (length es))) e may) k)
      (λ l e. propose_beside es _ m.candidate v h.lead.candidate_fits)

  -- a blank entry is proposed where there is room
  blank_sound : (room : Bool) (m : Machine C NID N E D R S) (l : Led C NID N E D R S) → (room ≡ true → MayGrow cmp l.leader l.core.state 1) → l.core.state.vote.committed ≡ true
      → IsSoundLed cmp config l → IfSome m.candidate (CandidateFits cmp config.id l.core.state.vote l.core.state.ids l.core.state.em.membership)
      → IsSound cmp config (leading m (if room then leader_append_entries cmp entry config (entry.blank l.leader.noop_log_id ∷ []) l else l))
  blank_sound true m l may v h c =
      leading_is_sound cmp total same config m _ (propose_kept cmp total same entry named config (entry.blank l.leader.noop_log_id ∷ []) l (may refl) h)
      (propose_beside (entry.blank l.leader.noop_log_id ∷ []) l m.candidate v c)
  blank_sound false m l may v h c = leading_is_sound cmp total same config m l h c

  pub lead_anew_is_sound : (m : Machine C NID N E D R S) → HasRoom cmp m.core.state.vote m.core.state → m.core.state.vote.committed ≡ true → is_eq (cmp m.core.state.vote.leader_id.node_id config.id) ≡ true
      → IsSound cmp config m → IsSound cmp config (lead_anew cmp entry config m)
  unfolding lead_anew begin_lead update_role rebuild_replication_streams
  lead_anew_is_sound m room v own h =
      let s = m.core.state in
      let l : Led C NID N E D R S = record { leader = leader_in cmp s.vote s.em.membership (by_last_leader cmp s.ids); core = update_role cmp config m.core } in
      let f = rebuild_kept cmp total same config l (record { sound = h.sound; leader_fits = leader_in_fits cmp total same config.id s v own }) in
      blank_sound _ m (rebuild_replication_streams cmp config l)
      (λ e. record {
        last_id = by_last_leader_ends cmp s.ids;
        own = le_refl (leader_total cmp total) s.vote.leader_id;
        under = last_each (IsUnder cmp s.vote.leader_id) s.ids h.sound.log.by_vote;
        room = room e;
      }) v f h.lead.candidate_fits

  -- the node leads: its leader has the vote, or there is a new one
  leads_is_sound : (m : Machine C NID N E D R S) → m.core.state.vote.committed ≡ true → is_eq (cmp m.core.state.vote.leader_id.node_id config.id) ≡ true → contains cmp m.core.state.em.membership config.id ≡ true
      → blank_is_at_end cmp config m.core.state.vote m ≡ false → IsSound cmp config m → IsSound cmp config (become_leader cmp entry config m)
  unfolding become_leader update_role
  leads_is_sound m v own member full h = go m.leader h.lead.leader_fits full where
    room : (b : Bool) → (m.core.state.vote.committed && is_eq (cmp m.core.state.vote.leader_id.node_id config.id) && contains cmp m.core.state.em.membership config.id && b && is_full cmp m.core.state.vote m.core.state.ids) ≡ false
        → b ≡ true → HasRoom cmp m.core.state.vote m.core.state
    room b f e = room_of cmp total same m.core.state.vote m.core.state h.sound (last_fails _ _ _ _ _ f v own member e)

    anew : HasRoom cmp m.core.state.vote m.core.state → IsSound cmp config (lead_anew cmp entry config m)
    anew r = lead_anew_is_sound m r v own h

    go : (o : Option (JointLeader C NID N E D R S)) → IfSome o (LeaderFits cmp config.id m.core.state.ids m.core.state.purged m.core.state.em.membership)
        → (m.core.state.vote.committed && is_eq (cmp m.core.state.vote.leader_id.node_id config.id) && contains cmp m.core.state.em.membership config.id
        && elim o [ None ↦ true | Some l ↦ not (is_eq (leader_id_cmp cmp l.vote.leader_id m.core.state.vote.leader_id)) ] && is_full cmp m.core.state.vote m.core.state.ids) ≡ false
        → IsSound cmp config (elim o [
          | None ↦ lead_anew cmp entry config m
          | Some l ↦
              (if is_eq (leader_id_cmp cmp l.vote.leader_id m.core.state.vote.leader_id)
              then on_core (update_role cmp config) (record m { leader = Some (record l { vote = m.core.state.vote }) })
              else lead_anew cmp entry config m)
        ])
    go None f q = anew (room true q refl)
    go (Some l) f q = by (is_eq (leader_id_cmp cmp l.vote.leader_id m.core.state.vote.leader_id)) refl q where
      by : (b : Bool) → is_eq (leader_id_cmp cmp l.vote.leader_id m.core.state.vote.leader_id) ≡ b → (m.core.state.vote.committed && is_eq (cmp m.core.state.vote.leader_id.node_id config.id) && contains cmp m.core.state.em.membership config.id && not b && is_full cmp m.core.state.vote m.core.state.ids) ≡ false
          → IsSound cmp config (if b then on_core (update_role cmp config) (record m { leader = Some (record l { vote = m.core.state.vote }) }) else lead_anew cmp entry config m)
      by true e q = record {
        sound = h.sound;
        lead = record {
          leader_fits = record { committed = v; own = own; noop = f.noop ∙ leader_id_same cmp same l.vote.leader_id m.core.state.vote.leader_id (is_equal _ e); last_id = f.last_id; progress = f.progress; clock = f.clock; ungranted = f.ungranted; entries = f.entries };
          candidate_fits = h.lead.candidate_fits;
        };
      }
      by false e q = anew (room true q refl)

  -- a node that is leader by its vote becomes one
  pub become_leader_is_sound : (m : Machine C NID N E D R S) → is_leader cmp m.core.state config.id ≡ true → blank_is_at_end cmp config m.core.state.vote m ≡ false
      → IsSound cmp config m → IsSound cmp config (become_leader cmp entry config m)
  become_leader_is_sound m e full h =
      let p = and_both (is_leading cmp m.core.state config.id) m.core.state.vote.committed e in
      let q = and_both (is_eq (cmp m.core.state.vote.leader_id.node_id config.id)) (contains cmp m.core.state.em.membership config.id) p.0 in
      leads_is_sound m p.1 q.0 q.1 full h

  -- a node becomes what its vote makes of it
  pub internal_is_sound : (m : Machine C NID N E D R S) → blank_is_at_end cmp config m.core.state.vote m ≡ false → IsSound cmp config m
      → IsSound cmp config (update_internal_server_state cmp entry config m)
  unfolding update_internal_server_state
  internal_is_sound m full h = go (is_leader cmp m.core.state config.id) refl where
    go : (b : Bool) → is_leader cmp m.core.state config.id ≡ b
        → IsSound cmp config (if b then become_leader cmp entry config m else if is_leading cmp m.core.state config.id then m else become_following cmp config m)
    go true e = become_leader_is_sound m e full h
    go false e = either (IsSound cmp config) (is_leading cmp m.core.state config.id) _ _ h (following_is_sound cmp total same config m h)

  -- a vote that isn't below the node's own
  pub raised_is_sound : (v : Vote NID) (now : ℕ) (m : Machine C NID N E D R S) → rejects_vote cmp m.core.state v ≡ false → IsSound cmp config m
      → IsSound cmp config (on_core (λ c. then_command (with_state c (record c.state { vote = v; time = Some now })) (SaveVote v)) m)
  raised_is_sound v now m r h = record {
    sound = vote_sound cmp total same v m.core.state r h.sound;
    lead = record {
      leader_fits = h.lead.leader_fits;
      candidate_fits = candidate_raised cmp total config.id m.core.state.vote v m.core.state.ids m.core.state.em.membership m.candidate (le_of_not_lt (vote_total cmp total) v m.core.state.vote r) h.lead.candidate_fits;
    };
  }

  timed_is_sound : (now : ℕ) (m : Machine C NID N E D R S) → IsSound cmp config m → IsSound cmp config (on_core (λ c. with_state c (record c.state { time = Some now })) m)
  timed_is_sound now m h = record { sound = h.sound; lead = record { leader_fits = h.lead.leader_fits; candidate_fits = h.lead.candidate_fits } }

  take_is_sound : (v : Vote NID) (now : ℕ) (m : Machine C NID N E D R S) (b : Bool) → is_gt (vote_cmp cmp v m.core.state.vote) ≡ b
      → blank_is_at_end cmp config v m ≡ false → rejects_vote cmp m.core.state v ≡ false → IsSound cmp config m
      → IsSound cmp config (update_internal_server_state cmp entry config (on_core (take_vote cmp config v now) m))
  take_is_sound v now m true e full r h = rw e (internal_is_sound _ full (raised_is_sound v now m r h))
  take_is_sound v now m false e full r h =
      let own : v ≡ m.core.state.vote = vote_same cmp same v m.core.state.vote (no_order _ r e) in
      rw e (internal_is_sound _ (subst (λ w. blank_is_at_end cmp config w m ≡ false) own full) (timed_is_sound now m h))

  -- a vote is offered: rejected, or taken where a blank entry has room
  pub update_vote_is_sound : (v : Vote NID) (now : ℕ) (m : Machine C NID N E D R S) → (not (rejects_vote cmp m.core.state v) && blank_is_at_end cmp config v m) ≡ false
      → IsSound cmp config m → IsSound cmp config (update_vote cmp entry config v now m)
  unfolding update_vote
  update_vote_is_sound v now m full h = go (rejects_vote cmp m.core.state v) refl full where
    go : (b : Bool) → rejects_vote cmp m.core.state v ≡ b → (not b && blank_is_at_end cmp config v m) ≡ false
        → IsSound cmp config (if b then m else update_internal_server_state cmp entry config (on_core (take_vote cmp config v now) m))
    go true e f = h
    go false e f = take_is_sound v now m (is_gt (vote_cmp cmp v m.core.state.vote)) refl f e h

pub else_of : {X : Type 0} (P : X → Type 0) (b : Bool) (x y : X) → b ≡ false → P y → P (if b then x else y)
else_of P true x y e p = let z : true ≡ false = e in cc
else_of P false x y e p = p

nil_right : {X : Type 0} (xs : List X) → xs ++ [] ≡ xs
nil_right [] = refl
nil_right (x ∷ xs) = ap (λ ys. x ∷ ys) (nil_right xs)

term_above : (t : ℕ) → nat_cmp (t + 1) t ≡ Greater
term_above t =
    let l : nat_lt (t + 1) t ≡ false = grind (arith, nat_tests) in
    let e : (t + 1 == t) ≡ false = grind (arith, nat_tests) in
    rw (l, e) refl

module _ {NID : Type 0} (cmp : NID → NID → Ordering) (total : IsTotalOrder cmp) (same : (a b : NID) → cmp a b ≡ Equal → a ≡ b) where
  -- a vote, committed, is above itself
  outranks : (v w : Vote NID) → is_eq (vote_cmp cmp v w) ≡ true → v.committed ≡ false → vote_cmp cmp (as_committed v) w ≡ Greater
  outranks v w e pending =
      subst (λ x. vote_cmp cmp (as_committed v) x ≡ Greater) (vote_same cmp same v w (is_equal _ e))
      (rw (tied_itself (leader_total cmp total) v.leader_id, pending) refl)

-- a number that isn't the greatest leaves the next one
below_end : (n : ℕ) → n < 2 ^ 64 → (n == u64_max) ≡ false → n + 1 < 2 ^ 64
below_end n l e = grind (arith, nat_tests)

module _ {C NID N E D R S : Type 0} (cmp : NID → NID → Ordering) (total : IsTotalOrder cmp) (same : (a b : NID) → cmp a b ≡ Equal → a ≡ b) (entry : RaftEntry.Ghosts E NID N) (named : TakesIds entry) (config : EngineConfig NID) where
  -- under an uncommitted vote a node waits, where it leads, or follows
  waits_or_follows : (P : Machine C NID N E D R S → Type 0) (m : Machine C NID N E D R S) → m.core.state.vote.committed ≡ false
      → (is_leading cmp m.core.state config.id ≡ true → P m) → P (become_following cmp config m) → P (update_internal_server_state cmp entry config m)
  unfolding update_internal_server_state
  waits_or_follows P m nc lead follow = go (is_leading cmp m.core.state config.id) refl where
    go : (b : Bool) → is_leading cmp m.core.state config.id ≡ b → P (if b && m.core.state.vote.committed then become_leader cmp entry config m else if b then m else become_following cmp config m)
    go true e = else_of P m.core.state.vote.committed (become_leader cmp entry config m) m nc (lead e)
    go false e = follow

  -- the vote of the next term, for oneself
  abbrev own_vote : Machine C NID N E D R S → Vote NID
  own_vote m = record { leader_id = record { term = m.core.state.vote.leader_id.term + 1; node_id = config.id }; committed = false }

  abbrev asked : ℕ → Machine C NID N E D R S → Machine C NID N E D R S
  asked now m = record m { candidate = Some (candidate_of cmp now (own_vote m) (last m.core.state.ids) m.core.state.em.membership) }

  abbrev raised_to : Vote NID → ℕ → Machine C NID N E D R S → Machine C NID N E D R S
  raised_to v now m = on_core (λ c. then_command (with_state c (record c.state { vote = v; time = Some now })) (SaveVote v)) m

  -- a vote above the node's own is saved, and adopted
  voted_is : (v : Vote NID) (now : ℕ) (m : Machine C NID N E D R S) → vote_cmp cmp v m.core.state.vote ≡ Greater
      → update_vote cmp entry config v now m ≡ update_internal_server_state cmp entry config (raised_to v now m)
  unfolding update_vote
  voted_is v now m e = rw e refl

  own_above : (m : Machine C NID N E D R S) → vote_cmp cmp (own_vote m) m.core.state.vote ≡ Greater
  own_above m = ap (λ o. ordering_then (ordering_then o (cmp config.id m.core.state.vote.leader_id.node_id)) (bool_cmp false m.core.state.vote.committed)) (term_above m.core.state.vote.leader_id.term)

  -- a node without a leader votes for itself
  pub elect_is_sound : (now : ℕ) (m : Machine C NID N E D R S) → m.leader ≡ None → IsSoundState cmp m.core.state → IsSound cmp config (elect cmp entry config now m)
  unfolding elect update_role become_following
  elect_is_sound now m none h =
      let s = m.core.state in
      let v = own_vote m in
      let ask = λ (q : Machine C NID N E D R S). on_core (λ c. update_role cmp config (then_command c (SendVote (record { vote = v; last_log_id = last s.ids })))) q in
      let raised = raised_to v now (asked now m) in
      let state : IsSoundState cmp raised.core.state = vote_sound cmp total same v s (ap is_lt (own_above m)) h in
      subst (λ q. IsSound cmp config (ask q)) (sym (voted_is v now (asked now m) (own_above m)))
      (waits_or_follows (λ q. IsSound cmp config (ask q)) raised refl
      (λ e. record {
        sound = state;
        lead = record {
          leader_fits = rw none tt;
          candidate_fits = record {
            pending = refl;
            low = le_refl (vote_total cmp total) v;
            current = λ q. record {
              own = ap is_eq (tied_itself total config.id);
              member = (and_both (is_eq (cmp config.id config.id)) (contains cmp s.em.membership config.id) e).1;
              last_id = refl;
              groups = refl;
              voters = ids_of_rows false (voter_ids cmp s.em.membership ++ []) ∙ nil_right (voter_ids cmp s.em.membership);
              learners = refl;
            };
          };
        };
      })
      (record { sound = state; lead = record { leader_fits = tt; candidate_fits = tt } }))

  -- a node that is leader by its vote, and has a leader of it
  led_is : (m : Machine C NID N E D R S) (l : JointLeader C NID N E D R S) → m.leader ≡ Some l → is_leader cmp m.core.state config.id ≡ true → is_eq (leader_id_cmp cmp l.vote.leader_id m.core.state.vote.leader_id) ≡ true
      → update_internal_server_state cmp entry config m ≡ on_core (update_role cmp config) (record m { leader = Some (record l { vote = m.core.state.vote }) })
  unfolding update_internal_server_state become_leader
  led_is m l e leads own = rw (leads, e, own) refl

  -- a candidate of the state's vote is made the leader, and proposes a blank entry
  established_is_sound : (c : JointCandidate NID) (now : ℕ) (m : Machine C NID N E D R S)
      → CandidateIsCurrent cmp config.id m.core.state.ids m.core.state.em.membership c → vote_cmp cmp (as_committed c.vote) m.core.state.vote ≡ Greater → next (last m.core.state.ids) + 1 < 2 ^ 64
      → IsSound cmp config m
      → (let l : JointLeader C NID N E D R S = into_leader cmp c in
      let led = leading (record m { candidate = None }) (rebuild_replication_streams cmp config (record { leader = l; core = m.core })) in
      IsSound cmp config (on_leader (leader_append_entries cmp entry config (entry.blank l.noop_log_id ∷ [])) (update_vote cmp entry config l.vote now led)))
  unfolding rebuild_replication_streams update_role
  established_is_sound c now m k above room h =
      let s = m.core.state in
      let v = as_committed c.vote in
      let begun : Led C NID N E D R S = rebuild_replication_streams cmp config (record { leader = into_leader cmp c; core = m.core }) in
      let led : Machine C NID N E D R S = leading (record m { candidate = None }) begun in
      let raised : Machine C NID N E D R S = raised_to v now led in
      let f = (rebuild_kept cmp total same config (record { leader = into_leader cmp c; core = m.core }) (record { sound = h.sound; leader_fits = into_leader_fits cmp total same config.id s.ids s.purged s.em.membership c k })).leader_fits in
      let leads : is_leader cmp raised.core.state config.id ≡ true = both_and _ _ (both_and _ _ k.own k.member) refl in
      let own : is_eq (leader_id_cmp cmp v.leader_id v.leader_id) ≡ true = ap is_eq (tied_itself (leader_total cmp total) v.leader_id) in
      let state : IsSoundState cmp raised.core.state = vote_sound cmp total same v s (ap is_lt above) h.sound in
      let after : Machine C NID N E D R S = on_core (update_role cmp config) (record raised { leader = Some (record begun.leader { vote = v }) }) in
      subst (λ q. IsSound cmp config (on_leader (leader_append_entries cmp entry config (entry.blank (into_leader {C = C} {N = N} {E = E} {D = D} {R = R} {S = S} cmp c).noop_log_id ∷ [])) q))
      (sym (voted_is v now led above ∙ led_is raised begun.leader refl leads own))
      (propose_is_sound cmp total same entry named config (entry.blank (into_leader {C = C} {N = N} {E = E} {D = D} {R = R} {S = S} cmp c).noop_log_id ∷ []) after
      (record {
        last_id = f.last_id;
        own = le_refl (leader_total cmp total) v.leader_id;
        under = last_each (IsUnder cmp v.leader_id) s.ids state.log.by_vote;
        room = room;
      }) refl (record { sound = state; lead = record { leader_fits = f; candidate_fits = tt } }))

  -- a candidate with a quorum is used up: where it may lead, there is an index for its blank entry
  pub lead_by_votes_is_sound : (c : JointCandidate NID) (now : ℕ) (m : Machine C NID N E D R S)
      → CandidateFits cmp config.id m.core.state.vote m.core.state.ids m.core.state.em.membership c
      → (may_establish cmp m.core.state m.leader c && (next c.last_log_id == u64_max)) ≡ false
      → IsSound cmp config m → IsSound cmp config (lead_by_votes cmp entry config c now m)
  unfolding lead_by_votes
  lead_by_votes_is_sound c now m f full h = go (may_establish cmp m.core.state m.leader c) refl full where
    go : (b : Bool) → may_establish cmp m.core.state m.leader c ≡ b → (b && (next c.last_log_id == u64_max)) ≡ false
        → IsSound cmp config (if b
        then on_leader (leader_append_entries cmp entry config (entry.blank (into_leader {C = C} {N = N} {E = E} {D = D} {R = R} {S = S} cmp c).noop_log_id ∷ []))
        (update_vote cmp entry config (as_committed c.vote) now (leading (record m { candidate = None }) (rebuild_replication_streams cmp config (record { leader = into_leader cmp c; core = m.core }))))
        else record m { candidate = None })
    go false e r = record { sound = h.sound; lead = record { leader_fits = h.lead.leader_fits; candidate_fits = tt } }
    go true e r =
        let q = (and_both (is_eq (vote_cmp cmp c.vote m.core.state.vote)) (outvotes cmp m.leader c) e).0 in
        let k = f.current q in
        established_is_sound c now m k (outranks cmp total same c.vote m.core.state.vote q f.pending)
        (below_end (next (last m.core.state.ids)) (log_end cmp m.core.state h.sound) (subst (λ o. (next o == u64_max) ≡ false) k.last_id r)) h

  -- a reply that doesn't grant
  pub take_rejection_is_sound : (resp : VoteResponse NID) (now : ℕ) (m : Machine C NID N E D R S) → IsSound cmp config m → IsSound cmp config (take_rejection cmp entry config resp now m)
  unfolding take_rejection
  take_rejection_is_sound resp now m h =
      update_vote_is_sound cmp total same entry named config (as_uncommitted resp.vote) now m (fails (not (rejects_vote cmp m.core.state (as_uncommitted resp.vote)))) h where
        fails : (b : Bool) → (b && false) ≡ false
        fails true = refl
        fails false = refl

  -- a reply to the candidate's request
  pub handle_vote_resp_is_sound : (target : NID) (resp : VoteResponse NID) (now : ℕ) (m : Machine C NID N E D R S) → refusals_of_vote_resp cmp config target resp m ≡ None
      → IsSound cmp config m → IsSound cmp config (handle_vote_resp cmp entry config target resp now m)
  unfolding handle_vote_resp take_grant
  handle_vote_resp_is_sound target resp now m asks h = go m.candidate (neither _ _ asks).1 h.lead.candidate_fits where
    go : (o : Option (JointCandidate NID))
        → ◌≡◌ {A = Option (EngineError NID N)} (elim o [
          | None ↦ None
          | Some c ↦ (if is_granted_to cmp resp c.vote then first_refusal (
              (is_none (get cmp c.progress target), UnknownTarget)
              ∷ (is_granted (is_quorum cmp) (grant_by cmp c target) && may_establish cmp m.core.state m.leader c && (next c.last_log_id == u64_max), IndexEnd)
              ∷ []) else None)
        ]) None
        → IfSome o (CandidateFits cmp config.id m.core.state.vote m.core.state.ids m.core.state.em.membership)
        → IsSound cmp config (elim o [
          | None ↦ m
          | Some c ↦
              (if is_granted_to cmp resp c.vote
              then if is_granted (is_quorum cmp) (grant_by cmp c target) then lead_by_votes cmp entry config (grant_by cmp c target) now m else record m { candidate = Some (grant_by cmp c target) }
              else take_rejection cmp entry config resp now m)
        ])
    go None a f = h
    go (Some c) a f = by (is_granted_to cmp resp c.vote) a where
      counted : (b : Bool) → (b && may_establish cmp m.core.state m.leader c && (next c.last_log_id == u64_max)) ≡ false
          → IsSound cmp config (if b then lead_by_votes cmp entry config (grant_by cmp c target) now m else record m { candidate = Some (grant_by cmp c target) })
      counted true r = lead_by_votes_is_sound (grant_by cmp c target) now m (candidate_granted cmp total config.id m.core.state.vote m.core.state.ids m.core.state.em.membership c target f) r h
      counted false r = record {
        sound = h.sound;
        lead = record { leader_fits = h.lead.leader_fits; candidate_fits = candidate_granted cmp total config.id m.core.state.vote m.core.state.ids m.core.state.em.membership c target f };
      }

      by : (b : Bool)
          → ◌≡◌ {A = Option (EngineError NID N)} (if b then first_refusal (
          (is_none (get cmp c.progress target), UnknownTarget)
          ∷ (is_granted (is_quorum cmp) (grant_by cmp c target) && may_establish cmp m.core.state m.leader c && (next c.last_log_id == u64_max), IndexEnd)
          ∷ []) else None) None
          → IsSound cmp config (if b
          then if is_granted (is_quorum cmp) (grant_by cmp c target) then lead_by_votes cmp entry config (grant_by cmp c target) now m else record m { candidate = Some (grant_by cmp c target) }
          else take_rejection cmp entry config resp now m)
      by true a = counted (is_granted (is_quorum cmp) (grant_by cmp c target)) (second_fails _ _ _ _ _ a)
      by false a = take_rejection_is_sound resp now m h

  -- the same of settings and an engine that are equal
  pub handle_vote_resp_along : (target : NID) (resp : VoteResponse NID) (now : ℕ) (settings : EngineConfig NID) (m n : Machine C NID N E D R S) → settings ≡ config → n ≡ m
      → refusals_of_vote_resp cmp config target resp m ≡ None → IsSound cmp config m → IsSound cmp settings (handle_vote_resp cmp entry settings target resp now n)
  handle_vote_resp_along target resp now settings m n e f asks h =
      subst (λ s. IsSound cmp s (handle_vote_resp cmp entry s target resp now n)) (sym e)
      (subst (λ q. IsSound cmp config (handle_vote_resp cmp entry config target resp now q)) (sym f) (handle_vote_resp_is_sound target resp now m asks h))

  -- the same where the call is not refused
  pub update_vote_kept : (v : Vote NID) (now : ℕ) (m : Machine C NID N E D R S) → refusals_of_update_vote cmp config v m ≡ None
      → IsSound cmp config m → IsSound cmp config (update_vote cmp entry config v now m)
  update_vote_kept v now m asks h = update_vote_is_sound cmp total same entry named config v now m (second_fails _ _ _ _ _ asks) h

  -- and where the vote may be replied to
  pub accept_vote_kept : (replies : RaftState NID N → RejectVoteRequest NID → Token → Respond C NID N E D R S → Type 0) (v : Vote NID) (token : Token) (now : ℕ) (answer : Option Token)
      (m n : Machine C NID N E D R S) → refusals_of_update_vote cmp config v m ≡ None → Accepts cmp entry config replies v token now answer m n → IsSound cmp config m → IsSound cmp config n
  accept_vote_kept replies v token now answer m n asks a h = go (rejects_vote cmp m.core.state v) a where
    go : (b : Bool) → MatchBool b ((answer ≡ None) × OnlyReplies replies token m n) ((answer ≡ Some token) × (n ≡ update_vote cmp entry config v now m)) → IsSound cmp config n
    go true r = sound_along cmp total same config n _ r.1.queued (told_is_sound cmp total same config (command.Respond None r.1.reply) m h)
    go false r = sound_along cmp total same config n _ r.1 (update_vote_kept v now m asks h)

  pub internal_kept : (m : Machine C NID N E D R S) → refusals_of_lead cmp config m ≡ None → IsSound cmp config m → IsSound cmp config (update_internal_server_state cmp entry config m)
  internal_kept m asks h = internal_is_sound cmp total same entry named config m (second_fails _ _ _ _ _ asks) h

  pub become_leader_kept : (m : Machine C NID N E D R S) → is_leader cmp m.core.state config.id ≡ true → refusals_of_lead cmp config m ≡ None
      → IsSound cmp config m → IsSound cmp config (become_leader cmp entry config m)
  become_leader_kept m leads asks h = become_leader_is_sound cmp total same entry named config m leads (second_fails _ _ _ _ _ asks) h

  -- the first entry of a cluster is appended, and the node is a candidate
  pub initialize_is_sound : (first : NID) (e : E) (now : ℕ) (m : Machine C NID N E D R S) → m.leader ≡ None → refusals_of_initialize cmp entry config first e m ≡ None
      → IsSoundState cmp m.core.state → IsSound cmp config (initialize cmp entry config first e now m)
  unfolding initialize
  initialize_is_sound first e now m none asks h =
      let s = m.core.state in
      let x = default_log_id first in
      let es = entry.with_id e x ∷ [] in
      let fresh : (not (length s.ids == 0) || is_ne (vote_cmp cmp s.vote (record { leader_id = x.leader_id; committed = false }))) ≡ false = second_fails _ _ _ _ _ (neither _ _ asks).0 in
      let tests = or_fails (not (length s.ids == 0)) (is_ne (vote_cmp cmp s.vote (record { leader_id = x.leader_id; committed = false }))) fresh in
      let none_held : s.ids ≡ [] = no_ids s.ids tests.0 in
      elect_is_sound now (on_core (do_append_entries cmp entry config es) m) none
      (do_append_kept cmp total same entry config es m.core
      (rw (none_held, (named e x).0) refl) (
        rw (named e x).0 (eq_is_le _ (eq_swap (leader_total cmp total) s.vote.leader_id x.leader_id
            (vote_eq_leader cmp s.vote (record { leader_id = x.leader_id; committed = false }) (not_ne _ tests.1)))),
        tt,
      )
      (rw (named e x).0 (lit< tt), tt) h) where
        no_ids : (ids : List (LogId NID)) → not (length ids == 0) ≡ false → ids ≡ []
        no_ids [] e = refl
        no_ids (y ∷ ys) e = let z : (suc (length ys) == 0) ≡ false = grind (arith, nat_tests) in let q : true ≡ false = sym (ap not z) ∙ e in cc

        not_ne : (r : Ordering) → is_ne r ≡ false → is_eq r ≡ true
        not_ne Less e = cc
        not_ne Equal e = refl
        not_ne Greater e = cc
