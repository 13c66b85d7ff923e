-- Snapshots that leave and come in parts (Raft paper, section 7, figure 13): `raft_chunks` has their bytes in chunks, and puts them together.
-- A snapshot's number is how many entries it stands for. Servers agree on those, so whoever sends parts of it, they are parts of the same.
use Rattle.std.specs.Prelude.{ℕ, ◌≡◌, ◌⊎◌, true, List, ◌∷◌, Option, None, Some, Result, Ok}
use Rattle.std.specs.List.{AllByRecursion}
use Rattle.raft_calls.specs.declared.message.Message.{Message}
use Rattle.raft_codec.specs.Codec.{Codec}
use Rattle.raft_chunks.specs.declared.cursor.Title.{Title}
use Rattle.raft_chunks.specs.declared.error.Refusal.{Refusal}
use Rattle.raft_chunks.specs.Assembled.{Assembled}
use Rattle.raft_chunks.specs.Assembly.{cursor_of, nothing, taken}
use Rattle.raft_chunks.specs.Chunks.{Piece, chunk_at, is_at_end, title_of}
use Rattle.raft_chunks.specs.Form.{opened, piece as chunk}
use Rattle.raft_packed_server.specs.proof_packed.Nodes.{PackedMessage}
use Rattle.raft_packed_server.specs.proof_packed.Stores.{Packed}
use Rattle.raft_packed_server.specs.raft_packed_wire.declared.packet.PackedContent.TheVariants as content
use Rattle.raft_packed_server.specs.raft_packed_wire.declared.packet.PackedPacket.{PackedPacket}
use Rattle.raft_packed_server.specs.raft_packed_wire.declared.packet.SentPart.{SentPart}
use Rattle.raft_packed_server.specs.raft_packed_wire.Messages.{packed_packet}
use Rattle.raft_packed_server.specs.raft_packed_wire.Values.{kept}
use Rattle.raft_peers.specs.declared.output.Output.{Output}
use Rattle.raft_peers.specs.declared.output.Output.TheVariants as outputs

-- a message whose snapshot goes out in parts: without it, how many entries it stands for, and its bytes
pub record Outgoing : Type 0 where
  pub message : Message
  pub number : ℕ
  pub bytes : List ℕ

-- its chunk at an offset, of at most so many bytes
abbrev pub chunk_of : Outgoing → ℕ → ℕ → Piece
chunk_of o offset most = chunk_at (record { title = title_of o.number o.bytes; offset = offset }) o.bytes most

-- what a packet has of it: the message, and a chunk
pub record IsPartOf (o : Outgoing) (x : SentPart) : Type 0 where
  pub message : x.message ≡ o.message
  pub offset : ℕ
  pub most : ℕ
  pub reads : opened chunk x.chunk ≡ Ok (chunk_of o offset most)

module _ {S : Type 0} (c : Codec S) where
  abbrev pub outgoing_of : PackedMessage S → Outgoing
  outgoing_of m = record { message = m.message; number = m.brought.end; bytes = (kept c).bytes m.brought }

  -- a part in a packet of this start, and its frame
  abbrev pub part_packet : ℕ → SentPart → PackedPacket (Packed S)
  part_packet start x = record { start = start; content = content.Part x }

  abbrev pub part_frame : ℕ → SentPart → List ℕ
  part_frame start x = 0 ∷ (packed_packet (kept c)).bytes (part_packet start x)

  -- a part leaves, and can be read back
  pub record LeavesAsPart (start : ℕ) (o : Outgoing) (out : Output S) : Type 0 where
    pub part : SentPart
    pub is_part : IsPartOf o part
    pub fits : (packed_packet (kept c)).fits (part_packet start part)
    pub leaves : out ≡ outputs.Send o.message.to (part_frame start part)

  abbrev pub AreParts : ℕ → Outgoing → List (Output S) → Type 0
  AreParts start o out = AllByRecursion (LeavesAsPart start o) out

  -- the snapshot whose bytes are handed out at a chunk; none if it isn't whole, or the chunk doesn't fit, or no snapshot has these bytes
  abbrev pub IsWhole : Result (Option (List ℕ)) Refusal → Option (Packed S) → Type 0
  IsWhole answer (Some p) = (kept c).fits p × (answer ≡ Ok (Some ((kept c).bytes p)))
  IsWhole answer None = (p : Packed S) → (kept c).fits p → answer ≡ Ok (Some ((kept c).bytes p)) → ⊥

-- what had come before a chunk of this title; or nothing, if that snapshot was whole already
abbrev pub IsBefore : Title → Assembled → Assembled → Type 0
IsBefore title old before = (before ≡ old) ⊎ ((before ≡ nothing 0) × (is_at_end (cursor_of old title) ≡ true))

-- a chunk comes, behind what had come before
pub record Comes (x : SentPart) (old : Assembled) : Type 0 where
  pub before : Assembled
  pub piece : Piece
  pub begun : IsBefore piece.at.title old before
  pub reads : opened chunk x.chunk ≡ Ok piece

-- what is there then; and what is handed out, the bytes of the snapshot if all are there
abbrev pub assembled : {x : SentPart} {old : Assembled} → Comes x old → Assembled
assembled k = (taken k.before k.piece).1

abbrev pub handed_out : {x : SentPart} {old : Assembled} → Comes x old → Result (Option (List ℕ)) Refusal
handed_out k = (taken k.before k.piece).0
