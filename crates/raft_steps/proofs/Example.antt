-- A plain application, and values for the computed examples.
use Rattle.std.specs.Prelude.{ℕ, ◌-◌, ◌^◌, true, false, List, [], ◌∷◌, Option, None, Some, map}
use Rattle.raft_state.specs.declared.config.RaftEntry
use Rattle.raft_state.specs.declared.ids.LogId.{LogId}
use Rattle.raft_state.specs.declared.ids.Vote.{Vote}
use Rattle.raft_state.specs.declared.membership.Members.{Members}
use Rattle.raft_state.specs.declared.membership.StoredMembership.{StoredMembership}
use Rattle.raft_state.specs.declared.membership.SnapshotMeta.{SnapshotMeta}
use Rattle.raft_state.specs.declared.state.RaftState.{RaftState}
use Rattle.raft_state.specs.declared.policy.SnapshotPolicy.TheVariants.{LogsSinceLast}
use Rattle.raft_state.specs.State.{empty}
use Rattle.raft_command.specs.declared.config.EngineConfig.{EngineConfig}
use Rattle.raft_command.specs.declared.command.Command.{Command}
use Rattle.raft_command.specs.declared.message.Snapshot.{Snapshot}
use Rattle.raft_command.specs.Queue.{Queue}
use Rattle.raft_steps.specs.declared.plain.Entry.{Entry}
use Rattle.raft_steps.specs.declared.plain.Payload.TheVariants.{Blank}
use Rattle.raft_steps.specs.Plain.{members}
use Rattle.raft_steps.specs.Parts.{Core, Led, Machine}
use Rattle.raft_proposer.specs.Joint.{JointLeader, JointCandidate}

abbrev pub plain : RaftEntry.Ghosts Entry ℕ (Unit {0})
plain = record {
  id_of = λ e. e.log_id;
  membership_of = λ e. members e.payload;
  blank = λ id. record { log_id = id; payload = Blank };
  with_id = λ e id. record e { log_id = id };
}

-- the types of the plain application
abbrev pub PlainCommand : Type 0
PlainCommand = Command (Unit {0}) ℕ (Unit {0}) Entry ℕ ℕ ℕ

abbrev pub PlainCore : Type 0
PlainCore = Core (Unit {0}) ℕ (Unit {0}) Entry ℕ ℕ ℕ

abbrev pub PlainLed : Type 0
PlainLed = Led (Unit {0}) ℕ (Unit {0}) Entry ℕ ℕ ℕ

abbrev pub PlainLeader : Type 0
PlainLeader = JointLeader (Unit {0}) ℕ (Unit {0}) Entry ℕ ℕ ℕ

abbrev pub PlainCandidate : Type 0
PlainCandidate = JointCandidate ℕ

abbrev pub PlainMachine : Type 0
PlainMachine = Machine (Unit {0}) ℕ (Unit {0}) Entry ℕ ℕ ℕ

abbrev pub lid : ℕ → ℕ → ℕ → LogId ℕ
lid t n i = record { leader_id = record { term = t; node_id = n }; index = i }

abbrev pub pending : ℕ → ℕ → Vote ℕ
pending t n = record { leader_id = record { term = t; node_id = n }; committed = false }

abbrev pub committed : ℕ → ℕ → Vote ℕ
committed t n = record { leader_id = record { term = t; node_id = n }; committed = true }

abbrev pub nodes_of : List ℕ → List (ℕ × Unit {0})
nodes_of ids = map (λ id. (id, tt)) ids

abbrev pub three : Members ℕ (Unit {0})
three = record { groups = (1 ∷ 2 ∷ 3 ∷ []) ∷ []; nodes = nodes_of (1 ∷ 2 ∷ 3 ∷ []) }

abbrev pub stored : Option (LogId ℕ) → Members ℕ (Unit {0}) → StoredMembership ℕ (Unit {0})
stored id m = record { log_id = id; membership = m }

abbrev pub settings : ℕ → EngineConfig ℕ
settings id = record {
  id = id;
  snapshot_policy = LogsSinceLast 5000;
  max_in_snapshot_log_to_keep = 1000;
  purge_batch_size = 256;
  max_payload_entries = 300;
  timer_config = record { election_timeout = 150; smaller_log_timeout = 200; leader_lease = 150 };
}

-- a state with a vote, a log, and the first membership
abbrev pub state : Vote ℕ → List (LogId ℕ) → RaftState ℕ (Unit {0})
state v ids = record (empty 0) { vote = v; ids = ids; cm = stored (Some (lid 0 0 0)) three; em = stored (Some (lid 0 0 0)) three }

abbrev pub quiet : Queue PlainCommand
quiet = record { items = []; seq = 0; spent = false }

abbrev pub core : RaftState ℕ (Unit {0}) → PlainCore
core s = record { state = s; output = quiet }

abbrev pub machine : RaftState ℕ (Unit {0}) → PlainMachine
machine s = record { core = core s; leader = None; candidate = None }

abbrev pub blank : LogId ℕ → Entry
blank id = record { log_id = id; payload = Blank }

abbrev pub blanks : List (LogId ℕ) → List Entry
blanks ids = map blank ids

abbrev pub snapshot_meta : Option (LogId ℕ) → SnapshotMeta ℕ (Unit {0})
snapshot_meta last = record { last_log_id = last; last_membership = stored (Some (lid 0 0 0)) three; snapshot_id = [] }

abbrev pub snapshot : LogId ℕ → Snapshot (Unit {0}) ℕ (Unit {0}) Entry ℕ ℕ ℕ
snapshot last = record { meta = snapshot_meta (Some last); snapshot = 0 }

abbrev pub u64_end : ℕ
u64_end = 2 ^ 64 - 1
