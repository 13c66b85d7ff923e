-- A small state machine.
use Rattle.std.specs.Prelude.{ℕ, ◌+◌, ◌*◌, ◌%◌, refl}
use Rattle.raft_codec.specs.Codec.{Codec, IsCodec, by_parts, number}
use Rattle.raft_codec.specs.CodecLaws.{by_parts_is, number_is}
use Rattle.raft_store.specs.declared.entry.Entry.{Entry}
use Rattle.raft_store.specs.declared.entry.Payload.{Payload}
use Rattle.raft_store.specs.declared.entry.Payload.TheVariants as payload
use Rattle.raft_store.specs.declared.entry.Value.TheVariants.{Number, Bytes}
use Rattle.proof_packed.specs.Stores.{Application}
use Rattle.test_packed.specs.declared.digest.Digest.{Digest}

-- what a payload makes of a number
abbrev pub with_payload : ℕ → Payload → ℕ
with_payload n payload.Blank = n
with_payload n (payload.Value (Number v)) = n % 100000000 * 10 + v % 100000000
with_payload n (payload.Value (Bytes bs)) = n
with_payload n (payload.Membership m) = n

abbrev pub application : Application Digest
application = record { first = record { number = 1 }; apply = λ d e. record { number = with_payload d.number e.payload } }

unfoldable pub digest : Codec Digest
digest = by_parts (λ d. d.number) (λ n. record { number = n }) number

pub digest_is : IsCodec digest
unfolding digest
digest_is = by_parts_is _ _ _ (λ d. refl) (λ n. refl) number_is
