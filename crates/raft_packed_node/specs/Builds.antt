-- The build of a snapshot at a packed node.
use Rattle.proof_packed.specs.Nodes.{PackedNode}
use Rattle.raft_packed.specs.Kept.{kept_if_noted}

-- what is noted is kept before its build ends: it stays noted until then
abbrev pub packed_kept_early : {S : Type 0} → PackedNode S → PackedNode S
packed_kept_early n = record n { store = kept_if_noted n.noted n.store }
