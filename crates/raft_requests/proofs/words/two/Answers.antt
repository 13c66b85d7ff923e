use Rattle.std.proofs.Common.{arith}
use Rattle.raft_requests.proofs.Counts.{not_two}
use Rattle.raft_requests.proofs.words.two.Goals as goal

pub returns-then-words-ne2 : goal.returns-then-words-ne2
returns-then-words-ne2 c = rw c.wrong_number.ensures (not_two c.args.name c.args.words.now (λ e. omega arith))
