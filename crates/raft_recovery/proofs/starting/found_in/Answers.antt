use Rattle.std.proofs.Common.{◌∙◌, sym}
use Rattle.raft_recovery.proofs.Starts.{fits_none, fits_outrun, fits_some}
use Rattle.raft_recovery.proofs.starting.found_in.Goals as goal

pub found_whole-requires-clause-fit : goal.found_whole-requires-clause-fit
found_whole-requires-clause-fit c = fits_none c.args.store.now (sym c.snapshot_last.ensures ∙ c.in_default.is)

pub found_outrun-requires-clause-fit : goal.found_outrun-requires-clause-fit
found_outrun-requires-clause-fit c =
    fits_outrun c.args.store.now c.in-Some.last (sym c.snapshot_last.ensures ∙ c.in-Some.is) (sym c.is_outrun.ensures ∙ c.if-is_outrun.true)

pub found_whole-requires-else-is_outrun-clause-fit : goal.found_whole-requires-else-is_outrun-clause-fit
found_whole-requires-else-is_outrun-clause-fit c =
    fits_some c.args.store.now c.in-Some.last (sym c.snapshot_last.ensures ∙ c.in-Some.is) (sym c.is_outrun.ensures ∙ c.if-is_outrun.false)
