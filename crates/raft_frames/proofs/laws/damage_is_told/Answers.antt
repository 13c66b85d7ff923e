use Rattle.raft_frames.proofs.Changes.{tells_changes}
use Rattle.raft_frames.proofs.Damage.{tells_damage, zeros_are_damage}
use Rattle.raft_frames.proofs.Others.{refuses_others}
use Rattle.raft_frames.proofs.laws.damage_is_told.Goals as goal

pub returns-clause-damage : goal.returns-clause-damage
returns-clause-damage c = tells_damage

pub returns-clause-zeros : goal.returns-clause-zeros
returns-clause-zeros c = zeros_are_damage

pub returns-clause-others : goal.returns-clause-others
returns-clause-others c = refuses_others

pub returns-clause-changes : goal.returns-clause-changes
returns-clause-changes c = tells_changes
