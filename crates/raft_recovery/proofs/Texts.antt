-- The texts of errors, as they are written.
use Rattle.std.proofs.Common.{ℕ, ◌≡◌, ◌∙◌, ◌++◌, append_assoc, codes}
use Rattle.std.specs.Fmt.{decimal}
use Rattle.raft_recovery.specs.declared.error.RecoveryError.TheVariants.{NeedsSnapshot}
use Rattle.raft_recovery.specs.Told.{error_text}

pub snapshot_said : (n t : ℕ) → error_text (NeedsSnapshot n t) ≡ codes "node " ++ (decimal t ++ (codes " needs a snapshot of node " ++ decimal n))
snapshot_said n t =
    append_assoc (codes "node " ++ decimal t) (codes " needs a snapshot of node ") (decimal n)
    ∙ append_assoc (codes "node ") (decimal t) (codes " needs a snapshot of node " ++ decimal n)
