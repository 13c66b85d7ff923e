use Rattle.std.proofs.Common.{arith}
use Rattle.raft_requests.proofs.Pairs.{empty_pairs, no_pairs, pairs_done}
use Rattle.raft_requests.proofs.words.pairs.Goals as goal
use Rattle.raft_requests.proofs.words.pairs.Goals.{then-is_empty-via-then-is_empty, then-is_empty-via-else-is_empty+then-words-eq1}

pub returns-then-is_empty : goal.returns-then-is_empty
returns-then-is_empty c =
    rw c.wrong_number.ensures
    (elim c.then-is_empty.branch [
      | then-is_empty-via-then-is_empty w ↦ empty_pairs c.args.name c.args.words.now w.if-is_empty.ensures
      | then-is_empty-via-else-is_empty+then-words-eq1 w ↦ no_pairs c.args.name c.args.words.now (λ e. omega arith)
    ])

pub returns : goal.returns
returns c =
    pairs_done c.args.name c.args.words.now c.loop-rest.rest.now c.loop-rest.pairs.items c.from_vec.result c.if-is_empty.ensures c.if-words-eq1.false c.in_default.len_below
    c.loop-rest.invariant.pairs c.from_vec.ensures
