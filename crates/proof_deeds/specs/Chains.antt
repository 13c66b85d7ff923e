-- Chains: the queued commands of a node, each done by deeds when its turn comes.
use Rattle.std.specs.Prelude.{ℕ, suc, ◌≡◌, ◌≤◌, ◌⊎◌, Bool, true, Contains, List, [], ◌∷◌, IfSome, Some, length}
use Rattle.std.specs.List.{AllByRecursion}
use Rattle.raft_node.specs.raft_state.declared.ids.LeaderId.{LeaderId}
use Rattle.raft_node.specs.raft_state.declared.ids.LogId.{LogId}
use Rattle.raft_node.specs.raft_command.declared.command.Command.TheVariants as command
use Rattle.proof_agreement.specs.Machine.{Setup}
use Rattle.proof_agreement.specs.Stores.{Stores, empty, last_leader_of}
use Rattle.proof_agreement.specs.Deeds.{Deed, SaveVote, Win, FollowByAppend, FollowBySnapshot, RequestVotes, AnswerVote, Initialize, LeaderAppend, FollowerAppend, TruncateConflict, TruncateForSnapshot, Purge, BuildStreams, EndStreams, RecordEstablished, SendAppend, SendSnapshot, AcceptAppend, AcceptSnapshot, CommitByQuorum, FollowerCommit, LeaderCommit, Apply, InstallSnapshot, Note, BuildSnapshot, DropNote, ForgetSaved, Restart, RestartSaved, AllMayDo, MayCommitByQuorum, does, run_all}
use Rattle.raft_node.specs.raft_store.declared.entry.Entry.{Entry}
use Rattle.raft_node.specs.raft_store.Entries.{entry_meaning}
use Rattle.raft_node.specs.raft_store.Store as store
use Rattle.raft_node.specs.raft_store.Types.{WorldStore, WorldCommand, WorldLeader, EngineView}
use Rattle.raft_node.specs.raft_calls.declared.message.Message.{Message}
use Rattle.raft_node.specs.declared.node.Turn.{Turn}
use Rattle.raft_node.specs.Chosen.{Acknowledges}
use Rattle.raft_node.specs.Execute.{Effects, exec, replies}
use Rattle.raft_node.specs.Runs.{whole_logs}
use Rattle.proof_deeds.specs.Images.{Ideal, IdealDeed, IsNamed, number}
use Rattle.proof_deeds.specs.Follows.{StoreIs, RestIs}

-- the node whose deed it is
abbrev pub doer : {A : Type 0} → Deed A → ℕ
doer (SaveVote n d) = n
doer (Win n q) = n
doer (FollowByAppend n r) = n
doer (FollowBySnapshot n q es) = n
doer (RequestVotes n) = n
doer (AnswerVote n last len) = n
doer (Initialize n) = n
doer (LeaderAppend n payload) = n
doer (FollowerAppend n r skip) = n
doer (TruncateConflict n r k x) = n
doer (TruncateForSnapshot n j k q es) = n
doer (Purge n k) = n
doer (BuildStreams n) = n
doer (EndStreams n) = n
doer (RecordEstablished n) = n
doer (SendAppend n i m) = n
doer (SendSnapshot n) = n
doer (AcceptAppend n r k x) = n
doer (AcceptSnapshot n q es) = n
doer (CommitByQuorum n c q) = n
doer (FollowerCommit n r k x told m) = n
doer (LeaderCommit n told m) = n
doer (Apply n i) = n
doer (InstallSnapshot n k q es) = n
doer (Note n) = n
doer (BuildSnapshot n) = n
doer (DropNote n) = n
doer (ForgetSaved n) = n
doer (Restart n c) = n
doer (RestartSaved n k) = n

-- a leader id is claimed: the node that it names has stored it as its vote, or a greater one
abbrev pub IsClaimed : {A : Type 0} → Setup A → Stores A → ℕ → Type 0
IsClaimed s W d = d ≤ (W.store (s.owner d)).vote

-- Of the votes that aren't committed a node saves its own, and those that are claimed. No condition of a deed asks this,
-- but nodes of the world do so.
abbrev pub SavesClaimed : {A : Type 0} → Setup A → Stores A → Deed A → Type 0
SavesClaimed s W (SaveVote n d) = (s.owner d ≡ n) ⊎ IsClaimed s W d
SavesClaimed s W _ = Unit {0}

abbrev pub AllClaimed : {A : Type 0} → Setup A → List (Deed A) → Stores A → Type 0
AllClaimed s [] W = Unit {0}
AllClaimed s (e ∷ es) W = SavesClaimed s W e × AllClaimed s es (does s W e)

-- one ideal world comes of another by allowed deeds
pub record Does {A : Type 0} (s : Setup A) (W V : Stores A) : Type 0 where
  pub deeds : List (Deed A)
  pub allowed : AllMayDo s deeds W
  pub claimed : AllClaimed s deeds W
  pub result : run_all s deeds W ≡ V

-- it comes of the empty one
abbrev pub Reached : {A : Type 0} → Setup A → Stores A → Type 0
Reached s W = Does s (empty s) W

-- all that a command reads of its engine at its turn, besides whom it asks for votes: the engine's vote and its
-- leader's have this leader id
pub record Reads (v : LeaderId ℕ) (e : EngineView) : Type 0 where
  pub vote : e.machine.core.state.vote.leader_id ≡ v
  pub leader : IfSome e.machine.leader (λ l. (l.vote.leader_id ≡ v) × (l.vote.committed ≡ true))

-- the commands that read nothing of the engine's votes
abbrev pub Unread : WorldCommand → Type 0
Unread (command.SaveVote v) = Unit {0}
Unread (command.AppendInputEntries v es) = Unit {0}
Unread (command.DeleteConflictLog since) = Unit {0}
Unread (command.PurgeLog upto) = Unit {0}
Unread (command.Commit seq already upto) = Unit {0}
Unread (command.StateMachine c) = Unit {0}
Unread (command.SendVote req) = Unit {0}
Unread (command.RebuildReplicationStreams targets) = ⊥
Unread (command.Replicate target req) = Unit {0}
Unread (command.ReplicateCommitted committed) = Unit {0}
Unread (command.Respond when reply) = Unit {0}
Unread command.BecomeLeader = ⊥
Unread command.QuitLeader = Unit {0}

-- the engine must have a leader at the turn of a command that builds streams
abbrev pub LeaderFor : WorldCommand → EngineView → Type 0
LeaderFor (command.RebuildReplicationStreams targets) e = (l : WorldLeader) × (e.machine.leader ≡ Some l)
LeaderFor _ e = Unit {0}

-- the store after a command, and after a whole queue
abbrev pub stored : WorldCommand → WorldStore → WorldStore
stored c u = store.exec entry_meaning (λ es. es) c u

abbrev pub left_by : WorldStore → List WorldCommand → WorldStore
left_by u cs = store.exec_all entry_meaning (λ es. es) u cs

-- a message of node n acknowledges the first k entries of the leader id d, the last of them of the leader id `last`
pub record IsAcknowledgement (n d last k : ℕ) (m : Message) : Type 0 where
  pub from : m.from ≡ n
  pub leader : LeaderId ℕ
  pub named : IsNamed leader
  pub is : number leader ≡ d
  pub upto : LogId ℕ
  pub upto_named : IsNamed upto.leader_id
  pub last_is : number upto.leader_id ≡ last
  pub ends : suc upto.index ≡ k
  pub acknowledges : Acknowledges m.body leader upto

-- one of these messages does so
abbrev pub IsAcknowledged : List Message → ℕ → ℕ → ℕ → ℕ → Type 0
IsAcknowledged ms n d last k = (m : Message) × Contains ms m × IsAcknowledgement n d last k m

-- what a deed accepts is acknowledged by one of these messages
abbrev pub AcceptsAcknowledged : Setup Entry → List Message → IdealDeed → Type 0
AcceptsAcknowledged s ms (AcceptAppend n r k x) = IsAcknowledged ms n r.session.leader x (suc k)
AcceptsAcknowledged s ms (AcceptSnapshot n q es) = IsAcknowledged ms n q.leader (last_leader_of s es) (length es)
AcceptsAcknowledged s ms _ = Unit {0}

-- the replies that a command sends
abbrev pub replies_by : Turn → WorldCommand → List Message
replies_by t (command.Respond when reply) = replies t reply
replies_by t _ = []

-- what a leader tells as committed, a quorum has accepted, and that is decided; no other command decides anything
abbrev pub Commits : Setup Entry → Ideal → Ideal → ℕ → WorldCommand → Type 0
Commits s W V n (command.ReplicateCommitted (Some x)) = (q : ℕ → Bool) × MayCommitByQuorum s W n x.index q × (V.decided ≡ (does s W (CommitByQuorum n x.index q)).decided)
Commits s W V n _ = V.decided ≡ W.decided

-- nothing is said, and nothing decided
pub record IsQuiet (W V : Ideal) : Type 0 where
  pub messages : V.messages ≡ W.messages
  pub decided : V.decided ≡ W.decided

module _ (s : Setup Entry) (t : Turn) (v : LeaderId ℕ) where
  -- A command, executed on the store u in the ideal world W, is done by allowed deeds of its node, which make V of W:
  -- the store stays the ideal one, and all else, whatever it was, as long as the engine at its turn has this leader id.
  pub record Done (u : WorldStore) (c : WorldCommand) (W V : Ideal) : Type 0 where
    pub deeds : List IdealDeed
    pub by : AllByRecursion (λ e. doer e ≡ t.id) deeds
    pub allowed : AllMayDo s deeds W
    pub claimed : AllClaimed s deeds W
    pub answered : AllByRecursion (AcceptsAcknowledged s (replies_by t c)) deeds
    pub commits : Commits s W V t.id c
    pub result : run_all s deeds W ≡ V
    pub store : StoreIs s (stored c u) (V.store t.id)
    pub rest : (w : Effects (List Entry)) (e : EngineView) → w.store ≡ u → RestIs s t.id w W → Reads v e → LeaderFor c e → RestIs s t.id (exec whole_logs t e c w) V

  -- each command of a queue is done in its turn, from the ideal world W to the world V
  abbrev pub Chain : WorldStore → List WorldCommand → Ideal → Ideal → Type 0
  Chain u [] W V = W ≡ V
  Chain u (c ∷ cs) W V = (X : Ideal) × Done u c W X × Chain (stored c u) cs X V

  -- A queue is carried: a chain leads from W to the world that the queue leaves, whose store is that of the node then,
  -- and of which K is known.
  pub record Carried (u : WorldStore) (W : Ideal) (cs : List WorldCommand) (K : Ideal → Type 0) : Type 0 where
    pub end : Ideal
    pub chain : Chain u cs W end
    pub store : StoreIs s (left_by u cs) (end.store t.id)
    pub knows : K end
