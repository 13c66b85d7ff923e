-- What leaves a server, by kind.
use Rattle.std.specs.Prelude.{ℕ, ◌≡◌, ◌⊎◌, Bool, false, List, [], ◌∷◌, ◌++◌, Option, None, Some, map, nat_eq, slice_get}
use Rattle.std.specs.List.{AllByRecursion, flat_map, fold}
use Rattle.raft_answers.specs.declared.answer.Reply.{Reply}
use Rattle.raft_store.specs.declared.entry.Entry.{Entry}
use Rattle.raft_codec.specs.Codec.{Codec}
use Rattle.proof_packed.specs.Nodes.{PackedMessage}
use Rattle.proof_packed.specs.Stores.{Application, Packed}
use Rattle.raft_packed_wire.specs.declared.packet.SentMessage.{SentMessage}
use Rattle.raft_packed_wire.specs.declared.packet.SentPart.{SentPart}
use Rattle.raft_packed_wire.specs.Messages.{packed_packet, received}
use Rattle.raft_packed_wire.specs.Values.{kept}
use Rattle.proof_requests.specs.raft_core.raft_peers.declared.output.Output.{Output}
use Rattle.proof_requests.specs.raft_core.raft_peers.declared.output.Output.TheVariants as outputs
use Rattle.proof_requests.specs.raft_core.Laws.{IsNotOk}
use Rattle.proof_requests.specs.raft_core.raft_peers.Sends.{packet_frame, packet_of}
use Rattle.proof_requests.specs.raft_core.raft_peers.Parts.{part_frame, part_packet}
use Rattle.raft_cluster.specs.declared.machine.Handed.{Handed}

module _ {S : Type 0} where
  -- the entry that is executed
  abbrev pub entry_in : Output S → List Entry
  entry_in (outputs.Execute e) = e ∷ []
  entry_in _ = []

  abbrev pub executed_in : List (Output S) → List Entry
  executed_in out = flat_map entry_in out

  -- the snapshot that is installed
  abbrev pub snapshot_in : Output S → List (Packed S)
  snapshot_in (outputs.Install p) = p ∷ []
  snapshot_in _ = []

  abbrev pub installed_in : List (Output S) → List (Packed S)
  installed_in out = flat_map snapshot_in out

  -- the answer to a client
  abbrev pub answer_in : Output S → List Reply
  answer_in (outputs.Reply r) = r ∷ []
  answer_in (outputs.Read r) = r ∷ []
  answer_in _ = []

  abbrev pub answers_in : List (Output S) → List Reply
  answers_in out = flat_map answer_in out

  -- all but bytes for the log's end
  abbrev pub other_in : Output S → List (Output S)
  other_in (outputs.Append bytes end next) = []
  other_in x = x ∷ []

  abbrev pub others_in : List (Output S) → List (Output S)
  others_in out = flat_map other_in out

  -- these bytes: the last ones
  abbrev pub handed_after : Option Handed → Output S → Option Handed
  handed_after before (outputs.Append bytes end next) = Some (record { bytes = bytes; end = end; next = next })
  handed_after before _ = before

  abbrev pub handed_in : List (Output S) → Option Handed
  handed_in out = fold handed_after None out

-- a question or an answer of a pre-vote, or the answer to a part of a snapshot, by its first byte
abbrev pub IsQuestion : List ℕ → Type 0
IsQuestion bytes = (slice_get bytes 0 ≡ Some 1) ⊎ ((slice_get bytes 0 ≡ Some 2) ⊎ (slice_get bytes 0 ≡ Some 3))

-- bytes begin as those of a packet
abbrev pub is_packet : List ℕ → Bool
is_packet [] = false
is_packet (b ∷ bytes) = nat_eq b 0

-- the frame of a message, in a packet of some start
pub record IsFrameOf {S : Type 0} (app : Application S) (codec : Codec S) (bytes : List ℕ) (m : PackedMessage S) : Type 0 where
  pub start : ℕ
  pub sent : SentMessage (Packed S)
  pub brings : received app sent ≡ m
  pub fits : (packed_packet (kept codec)).fits (packet_of start sent)
  pub is : bytes ≡ packet_frame codec start sent

-- the frame of a part of a snapshot, in a packet of some start
pub record IsPartFrame {S : Type 0} (codec : Codec S) (bytes : List ℕ) : Type 0 where
  pub start : ℕ
  pub part : SentPart
  pub fits : (packed_packet (kept codec)).fits (part_packet codec start part)
  pub is : bytes ≡ part_frame codec start part

module _ {S : Type 0} (codec : Codec S) where
  -- no message leaves whole with it
  abbrev pub IsNoMessage : List ℕ → Type 0
  IsNoMessage bytes = IsQuestion bytes ⊎ IsPartFrame codec bytes

  -- what leaves before any record is on disk: questions and answers of a pre-vote, parts of snapshots whose messages have left, and the answers to
  -- them, answers to requests that acknowledge nothing, and answers to reads that need no entry
  abbrev pub IsQuiet : Output S → Type 0
  IsQuiet (outputs.Send to bytes) = IsNoMessage bytes
  IsQuiet (outputs.Reply r) = IsNotOk r
  IsQuiet (outputs.Read r) = Unit {0}
  IsQuiet _ = ⊥

  abbrev pub AreQuiet : List (Output S) → Type 0
  AreQuiet out = AllByRecursion IsQuiet out
