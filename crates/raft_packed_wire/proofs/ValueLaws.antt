-- The codec of what is kept of entries is inverse to its writer.
use Rattle.std.proofs.Common.{refl}
use Rattle.raft_codec.specs.Codec.{Codec, IsCodec, number, optional}
use Rattle.raft_codec.specs.CodecLaws.{number_is, optional_is, pair_is, by_parts_is}
use Rattle.raft_wire.specs.Values.{log_id, stored_membership}
use Rattle.raft_wire.specs.ValueLaws.{log_id_is, stored_membership_is}
use Rattle.raft_packed_wire.specs.Values.{kept}

pub kept_is : {S : Type 0} (c : Codec S) → IsCodec c → IsCodec (kept c)
unfolding kept
kept_is c h = by_parts_is _ _ _ (λ p. refl) (λ q. refl)
    (pair_is number _ number_is (pair_is (optional log_id) _ (optional_is log_id log_id_is)
    (pair_is stored_membership _ stored_membership_is (pair_is stored_membership c stored_membership_is h))))
