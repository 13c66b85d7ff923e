use Rattle.proof_deeds.proofs.InstallsFit.{world_cuts_leave, world_snapshots_tell, world_takes_snapshots}
use Rattle.proof_deeds.proofs.Outcomes.{world_fits}
use Rattle.proof_deeds.proofs.refusals.messages_fit.Goals as goal

pub returns-clause-messages : goal.returns-clause-messages
returns-clause-messages c = world_fits

pub returns-clause-snapshots : goal.returns-clause-snapshots
returns-clause-snapshots c = world_takes_snapshots

pub returns-clause-told : goal.returns-clause-told
returns-clause-told c = world_snapshots_tell

pub returns-clause-cuts : goal.returns-clause-cuts
returns-clause-cuts c = world_cuts_leave
