use Rattle.std.proofs.Common.{arith}
use Rattle.raft_requests.proofs.Counts.{not_three}
use Rattle.raft_requests.proofs.words.three.Goals as goal

pub returns-then-words-ne3 : goal.returns-then-words-ne3
returns-then-words-ne3 c = rw c.wrong_number.ensures (not_three c.args.name c.args.words.now (λ e. omega arith))
