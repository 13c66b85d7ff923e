-- The voters that have granted, and an iterator over them.
use Rattle.std.specs.Prelude.{Bool, List, map, filter}
use Rattle.std.specs.Slice.Iter.{iter_rest}
use Rattle.raft_proposer.specs.Candidacy.{Candidacy}
use Rattle.raft_proposer.specs.declared.candidate.GrantersIter.{GrantersIter}

-- the ids of the rows that have granted, in the rows' order
abbrev pub granters_among : {NID : Type 0} → List (NID × Bool) → List NID
granters_among rows = map (λ row. row.0) (filter (λ row. row.1) rows)

-- the voters that have granted
abbrev pub granters : {NID QS : Type 0} → Candidacy NID QS → List NID
granters c = granters_among c.progress.rows

-- those that an iterator hasn't given yet
abbrev pub granters_left : {NID : Type 0} → GrantersIter NID → List NID
granters_left walk = granters_among (iter_rest walk.inner.inner)
