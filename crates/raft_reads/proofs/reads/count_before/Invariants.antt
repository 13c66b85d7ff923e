use Rattle.std.specs.Prelude.{◌≡◌, ◌+◌, ◌-◌, ◌≤◌, drop, length}
use Rattle.std.specs.List.{prefix_len}
use Rattle.raft_reads.specs.Reads.{came_before}
use Rattle.raft_reads.proofs.reads.count_before.Given as goal

abbrev pub invariant-reads : goal.invariant-reads
invariant-reads l =
    (l.count ≤ length l.readers.items)
    × (prefix_len (came_before l.moment) l.readers.items ≡ l.count + prefix_len (came_before l.moment) (drop l.count l.readers.items))

abbrev pub decreases-reads : goal.decreases-reads
decreases-reads l = length l.readers.items - l.count
