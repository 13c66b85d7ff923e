-- What holds of an engine between any two calls.
use Rattle.std.specs.Prelude.{◌≡◌, ◌≤◌, true, false, length, None, List, ◌++◌, Option, IfSome}
use Rattle.std.specs.Ordering.{is_eq, is_le}
use Rattle.raft_proposer.specs.raft_progress.Table.{Table, row_ids}
use Rattle.raft_progress_entry.specs.declared.entry.ProgressEntry.{ProgressEntry}
use Rattle.raft_state.specs.Members.{voter_ids, learner_ids, contains}
use Rattle.raft_state.specs.Fits.{fits}
use Rattle.std.specs.List.{AllByRecursion}
use Rattle.raft_progress_entry.specs.declared.entry.Inflight.{Inflight}
use Rattle.raft_state.specs.Invariants.{IsSoundState}
use Rattle.std.specs.declared.cmp.Ordering.{Ordering}
use Rattle.raft_state.specs.declared.ids.LogId.{LogId}
use Rattle.raft_state.specs.declared.ids.Vote.{Vote}
use Rattle.raft_state.specs.declared.membership.Members.{Members}
use Rattle.raft_state.specs.Order.{last_id_cmp, vote_cmp, next}
use Rattle.raft_state.specs.Log.{last}
use Rattle.raft_command.specs.declared.config.EngineConfig.{EngineConfig}
use Rattle.raft_steps.specs.Parts.{Core, Led, Machine, led_machine}
use Rattle.raft_proposer.specs.Joint.{JointLeader, JointCandidate}
use Rattle.raft_progress_entry.specs.declared.entry.Inflight.TheVariants as inflight

module _ {NID : Type 0} where
  -- the id at which what is in flight begins
  abbrev pub inflight_from : Inflight NID → Option (LogId NID) → Option (LogId NID)
  inflight_from inflight.None matching = matching
  inflight_from (inflight.Logs _ range) matching = range.prev
  inflight_from (inflight.Snapshot _ last) matching = last

module _ {NID : Type 0} (cmp : NID → NID → Ordering) where
  -- a leader's entry of a target fits its log
  pub record EntryFits (ids : List (LogId NID)) (purged : Option (LogId NID)) (e : ProgressEntry NID) : Type 0 where
    pub matching : fits cmp ids purged e.matching ≡ true
    pub above : next e.matching ≤ e.searching_end
    pub below : e.searching_end ≤ next (last ids)
    pub ahead : is_le (last_id_cmp cmp e.matching (inflight_from e.inflight e.matching)) ≡ true

module _ {NID N : Type 0} (cmp : NID → NID → Ordering) where
  -- a table holds the nodes of a membership, voters first
  pub record HoldsNodes {V P : Type 0} (m : Members NID N) (t : Table NID V P (List (List NID))) : Type 0 where
    pub set : t.set ≡ m.groups
    pub ids : row_ids t ≡ voter_ids cmp m ++ learner_ids cmp m
    pub voters : t.voters ≡ length (voter_ids cmp m)

module _ {C NID N E D R S : Type 0} (cmp : NID → NID → Ordering) where
  -- the leader's vote is committed and names this node, its no-op entry's id has its own leader id, its last id is the
  -- log's, its tables hold the effective membership's nodes, and nothing is granted without a quorum
  pub record LeaderFits (id : NID) (ids : List (LogId NID)) (purged : Option (LogId NID)) (m : Members NID N) (l : JointLeader C NID N E D R S) : Type 0 where
    pub committed : l.vote.committed ≡ true
    pub own : is_eq (cmp l.vote.leader_id.node_id id) ≡ true
    pub noop : l.noop_log_id.leader_id ≡ l.vote.leader_id
    pub last_id : l.last_log_id ≡ last ids
    pub progress : HoldsNodes cmp m l.progress
    pub ungranted : l.progress.default ≡ None
    pub clock : HoldsNodes cmp m l.clock_progress
    pub entries : AllByRecursion (λ row. EntryFits cmp ids purged row.1) l.progress.rows

module _ {NID N : Type 0} (cmp : NID → NID → Ordering) where
  -- a candidate of this node, a member, with the log's last id and the effective groups and learners
  pub record CandidateIsCurrent (id : NID) (ids : List (LogId NID)) (m : Members NID N) (c : JointCandidate NID) : Type 0 where
    pub own : is_eq (cmp c.vote.leader_id.node_id id) ≡ true
    pub member : contains cmp m id ≡ true
    pub last_id : c.last_log_id ≡ last ids
    pub groups : c.progress.set ≡ m.groups
    pub voters : row_ids c.progress ≡ voter_ids cmp m
    pub learners : c.learner_ids ≡ learner_ids cmp m

  -- a candidate's vote isn't committed and isn't above the state's; where it is the state's, the candidate is current
  pub record CandidateFits (id : NID) (vote : Vote NID) (ids : List (LogId NID)) (m : Members NID N) (c : JointCandidate NID) : Type 0 where
    pub pending : c.vote.committed ≡ false
    pub low : is_le (vote_cmp cmp c.vote vote) ≡ true
    pub current : is_eq (vote_cmp cmp c.vote vote) ≡ true → CandidateIsCurrent id ids m c

module _ {C NID N E D R S : Type 0} (cmp : NID → NID → Ordering) where
  -- leader and candidate fit the state
  pub record LeadershipFits (id : NID) (vote : Vote NID) (ids : List (LogId NID)) (purged : Option (LogId NID)) (m : Members NID N) (leader : Option (JointLeader C NID N E D R S)) (candidate : Option (JointCandidate NID)) : Type 0 where
    pub leader_fits : IfSome leader (LeaderFits cmp id ids purged m)
    pub candidate_fits : IfSome candidate (CandidateFits cmp id vote ids m)

module _ {C NID N E D R S : Type 0} (cmp : NID → NID → Ordering) (config : EngineConfig NID) where
  abbrev pub IsSoundLead : Machine C NID N E D R S → Type 0
  IsSoundLead m = LeadershipFits cmp config.id m.core.state.vote m.core.state.ids m.core.state.purged m.core.state.em.membership m.leader m.candidate

  -- what holds of an engine between any two calls
  pub record IsSound (m : Machine C NID N E D R S) : Type 0 where
    pub sound : IsSoundState cmp m.core.state
    pub lead : IsSoundLead m

  -- what holds of a leader and the state that it leads
  pub record IsSoundLed (l : Led C NID N E D R S) : Type 0 where
    pub sound : IsSoundState cmp l.core.state
    pub leader_fits : LeaderFits cmp config.id l.core.state.ids l.core.state.purged l.core.state.em.membership l.leader

  -- the same, except after out of memory
  abbrev pub IsSoundUnlessSpent : Machine C NID N E D R S → Type 0
  IsSoundUnlessSpent m = m.core.output.spent ≡ false → IsSound m

  abbrev pub IsSoundLedUnlessSpent : Led C NID N E D R S → Type 0
  IsSoundLedUnlessSpent l = l.core.output.spent ≡ false → IsSoundLed l

  -- a call that sees neither leader nor candidate keeps the engine sound, whichever there are
  abbrev pub StaysSound : Core C NID N E D R S → Core C NID N E D R S → Type 0
  StaysSound old new =
      (leader : Option (JointLeader C NID N E D R S)) (candidate : Option (JointCandidate NID))
      → IsSoundUnlessSpent (record { core = old; leader = leader; candidate = candidate })
      → IsSoundUnlessSpent (record { core = new; leader = leader; candidate = candidate })

  -- the same of a call on a node that follows, beside any candidate that isn't under the state's vote
  abbrev pub StaysSoundFollowing : Core C NID N E D R S → Core C NID N E D R S → Type 0
  StaysSoundFollowing old new =
      (candidate : Option (JointCandidate NID)) → IfSome candidate (λ c. is_eq (vote_cmp cmp c.vote old.state.vote) ≡ false)
      → IsSoundUnlessSpent (record { core = old; leader = None; candidate = candidate })
      → IsSoundUnlessSpent (record { core = new; leader = None; candidate = candidate })

  -- so does one of a leader, whichever candidate there is
  abbrev pub StaysSoundLed : Led C NID N E D R S → Led C NID N E D R S → Type 0
  StaysSoundLed old new = (candidate : Option (JointCandidate NID)) → IsSoundUnlessSpent (led_machine old candidate) → IsSoundUnlessSpent (led_machine new candidate)
