use Rattle.raft_requests.proofs.Counts.{not_some}
use Rattle.raft_requests.proofs.words.some.Goals as goal

pub returns-in-empty : goal.returns-in-empty
returns-in-empty c = rw c.wrong_number.ensures (not_some c.args.name c.args.words.now c.in-empty.len_below)
