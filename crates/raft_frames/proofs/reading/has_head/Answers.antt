use Rattle.std.proofs.Common.{◌∙◌, arith, sym}
use Rattle.raft_frames.proofs.ReadLemmas.{has_head-skip}
use Rattle.raft_frames.proofs.reading.has_head.Goals as goal

pub loop-i-preserved : goal.loop-i-preserved
loop-i-preserved c =
    has_head-skip c.args.seed c.args.position c.args.bytes.now c.loop-i.i _ c.head_len.result (omega arith) c.head_len.ensures.len (sym c.if-is_some.ensures) ∙ c.loop-i.invariant
