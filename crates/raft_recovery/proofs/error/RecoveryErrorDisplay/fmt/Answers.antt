use Rattle.std.proofs.Common.{◌∙◌, ap, sym}
use Rattle.std.proofs.Output.{has_written_of_eq}
use Rattle.raft_recovery.specs.Told.{error_text}
use Rattle.raft_recovery.proofs.Texts.{snapshot_said}
use Rattle.raft_recovery.proofs.error.RecoveryErrorDisplay.fmt.Goals as goal

pub returns-in-NeedsSnapshot-clause-writes : goal.returns-in-NeedsSnapshot-clause-writes
returns-in-NeedsSnapshot-clause-writes g c p ok =
    has_written_of_eq _ _ _ _ _ (sym (snapshot_said c.in-NeedsSnapshot.id c.in-NeedsSnapshot.other) ∙ ap error_text (sym c.in-NeedsSnapshot.is))
    (c.write-in-NeedsSnapshot.ensures.writes p ok)
