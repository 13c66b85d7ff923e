-- Each codec's reader is the inverse of its writer.
use Rattle.std.proofs.Common.{refl}
use Rattle.raft_codec.specs.Codec.{IsCodec, number, raw, pair}
use Rattle.raft_codec.specs.CodecLaws.{number_is, raw_is, pair_is, by_parts_is, by_tested_is}
use Rattle.raft_chunks.specs.Form.{cursor, piece}

pub cursor_is : IsCodec cursor
unfolding cursor
cursor_is =
    by_tested_is _ _ _ _ (λ c. refl) (λ x h. refl)
    (pair_is number (pair number (pair number number)) number_is (pair_is number (pair number number) number_is (pair_is number number number_is number_is)))

pub piece_is : IsCodec piece
unfolding piece
piece_is = by_parts_is _ _ _ (λ p. refl) (λ x. refl) (pair_is cursor raw cursor_is raw_is)
