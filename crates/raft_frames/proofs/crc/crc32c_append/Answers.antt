use Rattle.std.proofs.Common.{◌∙◌, ap, bit_xor}
use Rattle.raft_frames.specs.Crc.{append}
use Rattle.raft_frames.proofs.CrcLemmas.{append-crc32c}
use Rattle.raft_frames.proofs.crc.crc32c_append.Goals as goal

pub returns-clause-joins : goal.returns-clause-joins
returns-clause-joins c = λ front is.
    ap (λ x. bit_xor x 0xFFFFFFFF) c.take_all.ensures ∙ (ap (λ sum. append sum c.args.bytes.now) is ∙ append-crc32c front c.args.bytes.now)
