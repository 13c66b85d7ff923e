use Rattle.std.specs.Prelude.{◌≡◌, ◌++◌, drop, take}
use Rattle.raft_reads.specs.Reads.{told}
use Rattle.raft_reads.proofs.reads.answer_first.Given as goal

abbrev pub invariant-reads : goal.invariant-reads
invariant-reads l =
    (drop l.left l.readers.items ≡ drop l.count l.fn.readers.items)
    × (l.replies.items ++ told l.answer (take l.left l.readers.items) ≡ l.fn.replies.items ++ told l.answer (take l.count l.fn.readers.items))

abbrev pub decreases-reads : goal.decreases-reads
decreases-reads l = l.left
