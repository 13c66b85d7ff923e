use Rattle.std.proofs.Common.{ap, ◌∙◌, take, length, arith}
use Rattle.raft_progress.specs.Table.{measures}
use Rattle.raft_progress.proofs.Rankings.{taken_long}
use Rattle.raft_progress.proofs.table.VecProgress.of_rows.Goals as goal

pub spares_of-requires : goal.spares_of-requires
spares_of-requires g c = rw c.deref.ensures.len c.requires.rows

pub of_parts-requires-clause-rows : goal.of_parts-requires-clause-rows
of_parts-requires-clause-rows g c = c.requires.rows

pub of_parts-requires-clause-room : goal.of_parts-requires-clause-room
of_parts-requires-clause-room g c = c.requires.room

pub of_parts-requires-clause-spare : goal.of_parts-requires-clause-spare
of_parts-requires-clause-spare g c =
    omega (arith, ap (λ xs. length xs) (c.in_ok-ranked.ensures.spare ∙ c.deref.ensures.value), c.in_ok-ranked.spare.ok.0, c.args.rows.ok.0)

pub of_parts-requires-clause-ranked : goal.of_parts-requires-clause-ranked
of_parts-requires-clause-ranked g c = c.in_ok-ranked.ensures.ranked ∙ ap (λ xs. measures g.V.Measured.measured (take c.args.voters xs)) c.deref.ensures.value

pub of_parts-requires-clause-spare_ranked : goal.of_parts-requires-clause-spare_ranked
of_parts-requires-clause-spare_ranked g c =
    let long = ap (λ xs. length xs) (c.in_ok-ranked.ensures.spare_ranked ∙ c.in_ok-ranked.ensures.ranked) in
    omega (arith, long, taken_long g.V.Measured.measured c.args.voters c.deref.result.now (rw c.deref.ensures.len c.requires.rows), c.in_ok-ranked.spare_ranked.ok.0)

pub returns : goal.returns
returns g c = c.of_parts.ensures
