use Rattle.std.proofs.Common.{arith}
use Rattle.raft_requests.proofs.Counts.{not_none}
use Rattle.raft_requests.proofs.words.none.Goals as goal

pub returns-in_default : goal.returns-in_default
returns-in_default c = rw c.wrong_number.ensures (not_none c.args.name c.args.words.now (λ e. omega arith))
