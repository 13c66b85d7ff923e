use Rattle.proof_logs.proofs.Crashes.{tell_damage}
use Rattle.proof_logs.proofs.damage_is_told.Goals as goal

pub returns : goal.returns
returns c = tell_damage
