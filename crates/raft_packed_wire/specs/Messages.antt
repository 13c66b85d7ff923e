-- The bytes of messages that may bring a snapshot, and of packets. Each definition is that of `raft_wire` which its name says after `packed_`;
-- P is what a snapshot is.
use Rattle.std.specs.Prelude.{ℕ, ◌==◌, List, [], ◌∷◌, Result, Ok, if◌then◌else◌}
use Rattle.raft_codec.specs.declared.error.DecodeError.{DecodeError}
use Rattle.raft_codec.specs.Codec.{Codec, ◌>>=◌, number, optional, pair, raw, by_parts, tag_at, unknown_tag}
use Rattle.raft_wire.specs.Messages.{message}
use Rattle.raft_packed_node.specs.proof_packed.Nodes.{PackedMessage}
use Rattle.raft_packed_node.specs.proof_packed.Stores.{Application, Packed}
use Rattle.raft_packed_node.specs.Effects.{brought_by}
use Rattle.raft_packed_wire.specs.declared.packet.PackedContent.{PackedContent}
use Rattle.raft_packed_wire.specs.declared.packet.PackedContent.TheVariants as carried
use Rattle.raft_packed_wire.specs.declared.packet.PackedPacket.{PackedPacket}
use Rattle.raft_packed_wire.specs.declared.packet.SentMessage.{SentMessage}
use Rattle.raft_packed_wire.specs.declared.packet.SentPart.{SentPart}

-- a message without its snapshot, and the bytes of a chunk of that one's (`raft_chunks`)
unfoldable pub sent_part : Codec SentPart
sent_part = by_parts (λ x. (x.message, x.chunk)) (λ q. record { message = q.0; chunk = q.1 }) (pair message raw)

module _ {P : Type 0} (c : Codec P) where
  -- a message without a snapshot's data, and the snapshot that it brings, if it does
  unfoldable pub sent_message : Codec (SentMessage P)
  sent_message = by_parts (λ m. (m.message, m.snapshot)) (λ q. record { message = q.0; snapshot = q.1 }) (pair message (optional c))

  -- what a packet carries: 0 a message, 1 a part of one
  unfoldable pub packed_content : Codec (PackedContent P)
  packed_content = record { fits = fits; bytes = bytes; read = read } where
    fits : PackedContent P → Type 0
    fits (carried.Message m) = sent_message.fits m
    fits (carried.Part x) = sent_part.fits x

    bytes : PackedContent P → List ℕ
    bytes (carried.Message m) = 0 ∷ sent_message.bytes m
    bytes (carried.Part x) = 1 ∷ sent_part.bytes x

    read : List ℕ → Result (PackedContent P × List ℕ) DecodeError
    read front = do
      tag ← tag_at front
      if tag.0 == 0 then (sent_message.read tag.1 >>= λ m. Ok (carried.Message m.0, m.1))
          else if tag.0 == 1 then (sent_part.read tag.1 >>= λ x. Ok (carried.Part x.0, x.1))
          else unknown_tag tag.1

  -- a packet: the sender's start, what it carries
  unfoldable pub packed_packet : Codec (PackedPacket P)
  packed_packet = by_parts (λ p. (p.start, p.content)) (λ q. record { start = q.0; content = q.1 }) (pair number packed_content)

-- the message that was sent
abbrev pub received : {S : Type 0} → Application S → SentMessage (Packed S) → PackedMessage S
received app m = record { message = m.message; brought = brought_by app m.snapshot }
