use Rattle.std.proofs.Common.{◌∙◌}
use Rattle.raft_machine.proofs.Keys.{short}
use Rattle.raft_machine.proofs.key.cmp_after_heads.Goals as goal

pub returns-then-b-le16 : goal.returns-then-b-le16
returns-then-b-le16 c =
    c.cmp.ensures ∙ short 16 c.args.a.now c.args.b.now (c.requires.a c.if-a-le16.true) (c.requires.b c.if-b-le16.true) c.if-a-le16.true c.if-b-le16.true c.requires.heads
