use Rattle.std.proofs.Common.{arith}
use Rattle.raft_requests.proofs.Counts.{not_one}
use Rattle.raft_requests.proofs.words.one.Goals as goal

pub returns-then-words-ne1 : goal.returns-then-words-ne1
returns-then-words-ne1 c = rw c.wrong_number.ensures (not_one c.args.name c.args.words.now (λ e. omega arith))
