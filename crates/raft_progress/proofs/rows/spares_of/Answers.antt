use Rattle.std.proofs.Common.{sym}
use Rattle.std.proofs.lemmas.List.{length-take-le}
use Rattle.raft_progress.proofs.rows.spares_of.Goals as goal

pub slice_bounds-measures_of-end : goal.slice_bounds-measures_of-end
slice_bounds-measures_of-end g c = sym (length-take-le c.args.voters c.args.rows.now c.requires)
