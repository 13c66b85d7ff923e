-- When a cluster follows one of the model: its servers do what that one's do, and what has left that one has left this one.
use Rattle.std.specs.Prelude.{ℕ, ◌≡◌, ◌-◌, ◌⊎◌, Bool, List, [], ◌∷◌, ◌++◌, Contains, IfSome, Option, None, Some, false, true, if◌then◌else◌, length, map, nat_eq, slice_get}
use Rattle.std.specs.List.{AllByRecursion, flat_map, position}
use Rattle.std.specs.Option.{option_to_list}
use Rattle.raft_answers.specs.declared.answer.Answer.{Answer}
use Rattle.raft_answers.specs.declared.answer.Answer.TheVariants as answers
use Rattle.raft_answers.specs.declared.answer.Reply.{Reply}
use Rattle.raft_answers.specs.declared.request.Operation.{Operation}
use Rattle.raft_answers.specs.declared.request.Token.{Token}
use Rattle.raft_node.specs.declared.record.Executed.{Executed}
use Rattle.raft_node.specs.WellFormed.{IsWellFormed}
use Rattle.raft_store.specs.declared.entry.Entry.{Entry}
use Rattle.raft_codec.specs.Codec.{Codec}
use Rattle.proof_servers.specs.Servers.{Action, after_actions, new_cluster}
use Rattle.proof_servers.specs.Servers.{Cluster as ModelCluster}
use Rattle.proof_packed.specs.Nodes.{PackedMessage, PackedRecords}
use Rattle.proof_packed.specs.Stores.{Application, Packed}
use Rattle.proof_requests.specs.proof_packed_servers.Servers.{PackedCluster, cluster_packed}
use Rattle.proof_requests.specs.raft_core.raft_peers.declared.output.Output.{Output}
use Rattle.proof_requests.specs.raft_core.raft_peers.Sends.{BringsSnapshot}
use Rattle.raft_cluster.specs.declared.cluster.Cluster.{Cluster}
use Rattle.raft_cluster.specs.declared.machine.Machine.{Machine}
use Rattle.raft_cluster.specs.declared.network.Network.{Network}
use Rattle.raft_cluster.specs.declared.network.Sent.{Sent}
use Rattle.raft_cluster.specs.declared.told.Asked.{Asked as Noted}
use Rattle.raft_cluster.specs.declared.told.Told.{Told}
use Rattle.proof_requests.specs.Clients.{AreBeside, Cores}
use Rattle.proof_requests.specs.Frames.{frames_of as frames_in}
use Rattle.proof_requests.specs.Requests.{Placed}
use Rattle.raft_cluster.specs.Clients.{AreClients, answers_told}
use Rattle.raft_cluster.specs.Histories.{KeepsWrites}
use Rattle.raft_cluster.specs.Outputs.{IsFrameOf, IsNoMessage, answers_in, executed_in, installed_in}
use Rattle.raft_cluster.specs.Servers.{IsServer}

-- the place of the machine with an id
unfoldable pub place_of : {S : Type 0} → List (Machine S) → ℕ → Option ℕ
place_of machines id = position (λ m. nat_eq m.id id) machines

-- machines that were made, for each of these ids one: each is closed, and has nothing on disk
abbrev pub IsNew : {S : Type 0} → Machine S → Type 0
IsNew m = (m.core ≡ None) × (m.written ≡ None) × (m.disk.items ≡ [])

pub record AreNew {S : Type 0} (ids : List ℕ) (machines : List (Machine S)) : Type 0 where
  pub same : map (λ m. m.id) machines ≡ ids
  pub each : AllByRecursion IsNew machines

-- The network

-- the frames that have left
abbrev pub frames_of : Network → List (List ℕ)
frames_of n = map (λ x. x.bytes) n.sent.items

-- what left as the frame with a number: they are counted from 1
abbrev pub sent_at : List Sent → ℕ → Option Sent
sent_at sent number = if nat_eq number 0 then None else slice_get sent (number - 1)

-- these bytes have left as a frame
pub record IsFrameAt (sent : List Sent) (bytes : List ℕ) : Type 0 where
  pub i : ℕ
  pub is : slice_get (map (λ (x : Sent). x.bytes) sent) i ≡ Some bytes

module _ {S : Type 0} (app : Application S) (codec : Codec S) where
  -- each frame has a message in a packet, or a part of a snapshot, or is a question or an answer that no node takes
  abbrev pub IsOf : Option (PackedMessage S) → List ℕ → Type 0
  IsOf None bytes = IsNoMessage codec bytes
  IsOf (Some m) bytes = IsFrameOf app codec bytes m

  abbrev pub AreOf : List (Option (PackedMessage S)) → List (List ℕ) → Type 0
  AreOf [] [] = Unit {0}
  AreOf [] (frame ∷ frames) = ⊥
  AreOf (x ∷ xs) [] = ⊥
  AreOf (x ∷ xs) (frame ∷ frames) = IsOf x frame × AreOf xs frames

  -- these are the messages of a bag, in this order, but for some that bring a snapshot
  abbrev pub AreAllBut : List (PackedMessage S) → List (PackedMessage S) → Type 0
  AreAllBut sent [] = sent ≡ []
  AreAllBut sent (m ∷ bag) =
      (BringsSnapshot m.message.body × AreAllBut sent bag) ⊎ ((rest : List (PackedMessage S)) × (sent ≡ m ∷ rest) × AreAllBut rest bag)

  -- these messages have left in frames, in this order, and no others; some that bring a snapshot have left in parts, as far as they have
  pub record Carries (bag : List (PackedMessage S)) (frames : List (List ℕ)) : Type 0 where
    pub carried : List (Option (PackedMessage S))
    pub each : AreOf carried frames
    pub messages : AreAllBut (flat_map option_to_list carried) bag

-- What clients are told

module _ {S : Type 0} where
  abbrev pub entries_told : Told S → List Entry
  entries_told t = map (λ x. x.entry) t.executed.items

  abbrev pub snapshots_told : Told S → List (Packed S)
  snapshots_told t = map (λ x. x.snapshot) t.installed.items

  abbrev pub replies_told : Told S → List Reply
  replies_told t = map (λ x. x.1) (answers_told t)

-- replies of a server
abbrev pub answers_of : ℕ → List Reply → List (ℕ × Reply)
answers_of node replies = map (λ r. (node, r)) replies

-- what leaves a server goes to the network and to clients, behind what was there
pub record Leaves {S : Type 0} (node : ℕ) (out : List (Output S)) (network : Network) (told : Told S)
    (network' : Network) (told' : Told S) : Type 0 where
  pub frames : frames_of network' ≡ frames_of network ++ frames_in out
  pub executed : entries_told told' ≡ entries_told told ++ executed_in out
  pub installed : snapshots_told told' ≡ snapshots_told told ++ installed_in out
  pub answers : answers_told told' ≡ answers_told told ++ answers_of node (answers_in out)
  pub asked : told'.asked.items ≡ told.asked.items

-- a request that a server took is noted, if it took it
abbrev pub noted_if : Bool → Noted → List Noted → List Noted
noted_if true row noted = noted ++ row ∷ []
noted_if false row noted = noted

pub record Notes {S : Type 0} (taken : Bool) (node : ℕ) (token : Token) (operation : Operation) (told told' : Told S)
    : Type 0 where
  pub rest : told' ≡ record told { asked = told'.asked }
  pub asked : told'.asked.items ≡ noted_if taken (record { node = node; token = token; operation = operation; after = length told.answered.items }) told.asked.items

-- clients were told of what these records have as executed and installed
pub record IsTold {S : Type 0} (r : PackedRecords S) (told : Told S) : Type 0 where
  pub executed : entries_told told ≡ map (λ x. x.entry) r.executed
  pub installed : snapshots_told told ≡ map (λ x. x.snapshot) r.installed

-- Clusters

module _ {S : Type 0} (app : Application S) (codec : Codec S) where
  -- each machine stands for the model's server with its id; the network has all messages that left the model's servers, and clients
  -- were told what left those
  pub record IsCluster (model : PackedCluster S) (c : Cluster S) : Type 0 where
    pub ids : map (λ m. m.id) c.machines.items ≡ c.given.ids
    pub servers : AllByRecursion (λ m. IsServer app codec c.given (model.servers m.id) m) c.machines.items
    pub sent : Carries app codec model.released.bag (frames_of c.network)
    pub told : IsTold model.released c.told

  -- A cluster follows some actions of the model's servers, each of which may happen: so no server takes a message that none sent. Its
  -- machines stand for these servers, packed. Its servers and their clients are beside the same actions (`proof_requests`): the cores
  -- that run, the frames that have left, and what was asked and told are theirs.
  pub record Follows (c : Cluster S) : Type 0 where
    pub given : IsWellFormed c.given
    pub actions : List Action
    pub placed : List Placed
    pub cores : Cores S
    pub beside : AreBeside app codec c.given actions placed cores
    pub is : IsCluster (cluster_packed app (after_actions c.given actions (new_cluster c.given))) c
    pub running : AllByRecursion (λ m. cores.cores m.id ≡ m.core) c.machines.items
    pub frames : frames_of c.network ≡ cores.sent
    pub clients : AreClients (length actions) cores c.told.asked.items (answers_told c.told)

  -- the model's cluster then
  abbrev pub model_of : {c : Cluster S} → Follows c → ModelCluster
  model_of {c} f = after_actions c.given f.actions (new_cluster c.given)

-- Acknowledgements

-- an entry at this index is among these
pub record HasEntryAt (index : ℕ) (entries : List Entry) : Type 0 where
  pub entry : Entry
  pub among : Contains entries entry
  pub at : entry.log_id.index ≡ index

-- the index that an answer acknowledges
abbrev pub acknowledged_at : Answer → Option ℕ
acknowledged_at (answers.Ok index) = Some index
acknowledged_at _ = None

-- it names the index of an entry that clients were told of as executed
abbrev pub IsKept : List Entry → Reply → Type 0
IsKept entries r = IfSome (acknowledged_at r.answer) (λ index. HasEntryAt index entries)

-- each answer that acknowledges a request does so
abbrev pub KeepsAcknowledged : {S : Type 0} → Told S → Type 0
KeepsAcknowledged told = AllByRecursion (IsKept (entries_told told)) (replies_told told)

-- up to which index a server that runs has handed out entries, as far as it knows: clients were told of the entry there
abbrev pub HasHanded : {S : Type 0} → List Entry → Machine S → Type 0
HasHanded entries m = IfSome m.core (λ v. IfSome v.executed (λ index. HasEntryAt index entries))

-- What holds of a cluster. As long as no byte of a disk is changed by hand and no packet of a stranger is taken, it follows the model
-- and no acknowledged write is lost: each was executed with its bytes. Whatever happens, an answer that acknowledges a request names
-- the index of an entry that was executed.
pub record Holds {S : Type 0} (app : Application S) (codec : Codec S) (c : Cluster S) : Type 0 where
  pub follows : c.damaged ≡ false → Follows app codec c
  pub writes : c.damaged ≡ false → KeepsWrites (entries_told c.told) c.told
  pub keeps : KeepsAcknowledged c.told
  pub handed : AllByRecursion (HasHanded (entries_told c.told)) c.machines.items
