use Rattle.std.proofs.Common.{ℕ, ◌∙◌, ap, sym}
use Rattle.raft_progress_entry.specs.declared.entry.Inflight.{Inflight}
use Rattle.proof_progress.specs.Plans.{carries}
use Rattle.raft_recovery.proofs.messages.carries.Goals as goal

pub returns-in-Snapshot : goal.returns-in-Snapshot
returns-in-Snapshot c =
    c.carries_snapshot.ensures c.in-Snapshot.last_log_id
    ∙ ap (λ (x : Inflight ℕ). carries c.args.session_id.now x c.args.body.now) (sym c.in-Snapshot.is)
