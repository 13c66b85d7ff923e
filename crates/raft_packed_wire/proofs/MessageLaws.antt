-- The codecs of messages that may bring a snapshot, and of packets, are inverse to their writers; so each of this crate is.
use Rattle.std.proofs.Common.{ℕ, ◌≡◌, ◌<◌, eqb, List, ◌++◌, length, Ok, refl, inl, inr, arith}
use Rattle.raft_codec.specs.Codec.{Codec, IsCodec, number, optional, pair, raw, tag_at}
use Rattle.raft_codec.specs.CodecLaws.{Stands, bind_ok, chosen, number_is, optional_is, raw_is, pair_is, by_parts_is}
use Rattle.raft_codec.specs.VariantLaws.{variant_stands}
use Rattle.raft_wire.specs.Messages.{message}
use Rattle.raft_wire.specs.MessageLaws.{message_is}
use Rattle.raft_packed_wire.specs.declared.packet.PackedContent.{PackedContent}
use Rattle.raft_packed_wire.specs.declared.packet.PackedContent.TheVariants as carried
use Rattle.raft_packed_wire.specs.Laws.{AreReadBackOf}
use Rattle.raft_packed_wire.specs.Messages.{packed_content, packed_packet, sent_message, sent_part}
use Rattle.raft_packed_wire.specs.Values.{kept}
use Rattle.raft_packed_wire.proofs.RecordLaws.{named_began_is, named_logged_is, packed_change_is}
use Rattle.raft_packed_wire.proofs.ValueLaws.{kept_is}

sent_part_is : IsCodec sent_part
unfolding sent_part
sent_part_is = by_parts_is _ _ _ (λ x. refl) (λ q. refl) (pair_is message raw message_is raw_is)

module _ {P : Type 0} (c : Codec P) (h : IsCodec c) where
  pub sent_message_is : IsCodec (sent_message c)
  unfolding sent_message
  sent_message_is = by_parts_is _ _ _ (λ m. refl) (λ q. refl) (pair_is message (optional c) message_is (optional_is c h))

  content_some : (x : PackedContent P) → 0 < length ((packed_content c).bytes x)
  unfolding packed_content
  content_some (carried.Message m) = omega arith
  content_some (carried.Part x) = omega arith

  content_back : (x : PackedContent P) (rest : List ℕ) → (packed_content c).fits x → (packed_content c).read ((packed_content c).bytes x ++ rest) ≡ Ok (x, rest)
  unfolding packed_content tag_at
  content_back (carried.Message m) rest f = rw (sent_message_is.read_back m rest f) refl
  content_back (carried.Part x) rest f = rw (sent_part_is.read_back x rest f) refl

  content_written : (front : List ℕ) (found : PackedContent P × List ℕ) → (packed_content c).read front ≡ Ok found → Stands (packed_content c) front found
  unfolding packed_content
  content_written front found e =
      let whole = packed_content c in
      let t = bind_ok (tag_at front) _ found e in
      elim (chosen (eqb t.0.0 0) _ _ _ t.2) [
        | inl k ↦ variant_stands whole front found t.0 0 (sent_message c) sent_message_is carried.Message t.1 k.0 k.1 (λ x f. f) (λ x. refl)
        | inr k ↦ elim (chosen (eqb t.0.0 1) _ _ _ k.1) [
          | inl l ↦ variant_stands whole front found t.0 1 sent_part sent_part_is carried.Part t.1 l.0 l.1 (λ x f. f) (λ x. refl)
          | inr l ↦ absurd cc
        ]
      ]

  pub packed_content_is : IsCodec (packed_content c)
  packed_content_is = record { written = content_written; some = content_some; read_back = content_back }

  pub packed_packet_is : IsCodec (packed_packet c)
  unfolding packed_packet
  packed_packet_is = by_parts_is _ _ _ (λ p. refl) (λ q. refl) (pair_is number (packed_content c) number_is packed_content_is)

-- all that is written of a machine's states
pub are_read_back : {S : Type 0} (c : Codec S) → IsCodec c → AreReadBackOf c
are_read_back c h =
    let k = kept_is c h in
    record {
      snapshots = k;
      began = named_began_is (kept c) k;
      changes = packed_change_is (kept c) k;
      records = named_logged_is (kept c) k;
      packets = packed_packet_is (kept c) k;
    }
