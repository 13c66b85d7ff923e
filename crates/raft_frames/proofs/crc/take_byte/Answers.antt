use Rattle.std.proofs.Common.{◌≡◌, ◌/◌, ◌%◌, bit_xor, get_or, arith, ap, sym, ◌∙◌}
use Rattle.raft_frames.specs.Crc.{shift}
use Rattle.raft_frames.specs.declared.tables.TheConstants.{SHIFT_1}
use Rattle.raft_frames.proofs.TableValues.{at_1}
use Rattle.raft_frames.proofs.CrcLemmas.{shift_low}
use Rattle.raft_frames.proofs.crc.take_byte.Goals as goal

pub returns : goal.returns
returns c =
    let sum = bit_xor c.args.sum c.from.result in
    let read : c.at.result ≡ get_or SHIFT_1 (sum % 256) 0 = c.at.ensures in
    ap (λ x. bit_xor x (sum / 256)) (read ∙ at_1 (sum % 256) (omega arith)) ∙ (sym (shift_low sum) ∙ ap (λ b. shift (bit_xor c.args.sum b)) c.from.ensures)
