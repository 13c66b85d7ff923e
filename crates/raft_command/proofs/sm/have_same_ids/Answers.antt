use Rattle.std.proofs.Common.{◌∙◌}
use Rattle.raft_command.proofs.SameIds.{same_places_of}
use Rattle.raft_command.proofs.sm.have_same_ids.Goals as goal

pub returns-then-a-b : goal.returns-then-a-b
returns-then-a-b g c = c.have_equal_ids.ensures ∙ same_places_of _ _ _ _ c.if-a-b.true
