use Rattle.std.proofs.Common.{arith}
use Rattle.raft_store.proofs.WholeLogs.{upto_length}
use Rattle.raft_store.proofs.store.Store.whole_upto_len.Goals as goal

pub returns : goal.returns
returns c = upto_length c.args.self.now c.args.index _ (omega (arith, c.whole_len.ensures))
