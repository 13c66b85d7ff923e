use Rattle.std.proofs.Common.{sym, ap, ◌∙◌, take, length, arith, refl}
use Rattle.std.proofs.lemmas.List.{with_items_is, length-take-le}
use Rattle.raft_progress.specs.Table.{granted_among, measures}
use Rattle.raft_progress.proofs.Rankings.{ranking_is, taken_long}
use Rattle.raft_progress.proofs.table.VecProgress.of_parts.Goals as goal

pub find_granted-granted-requires-clause-ranked : goal.find_granted-granted-requires-clause-ranked
find_granted-granted-requires-clause-ranked g c =
    let long = c.rank.auto.voters in let long2 = c.as_mut_slice.ensures.len in
    let moved = with_items_is c.args.ranked c.rank.new.voters (omega arith) in
    ranking_is g.P.Ord.cmp _ c.as_mut_slice.result.now c.rank.new.voters _
    (c.as_mut_slice.ensures.value ∙ c.requires.ranked ∙ ap (λ xs. measures g.V.Measured.measured (take c.args.voters xs)) (sym c.deref.ensures.value)) (c.deref-2.ensures.value ∙ moved) c.rank.ensures.same c.rank.ensures.falling

pub invariant_of-result : goal.invariant_of-result
invariant_of-result g c =
    let long = c.rank.auto.voters in let long2 = c.as_mut_slice.ensures.len in
    let moved = with_items_is c.args.ranked c.rank.new.voters (omega arith) in (
      c.requires.rows,
      c.requires.room,
      c.requires.spare,
      omega (arith, ap (λ xs. length xs) c.requires.ranked, taken_long g.V.Measured.measured c.args.voters c.args.rows.items (omega (arith, c.requires.rows, c.args.rows.ok.0)), c.args.ranked.ok.0),
      c.requires.spare_ranked,
      ranking_is g.P.Ord.cmp _ c.as_mut_slice.result.now c.rank.new.voters _ (c.as_mut_slice.ensures.value ∙ c.requires.ranked) moved c.rank.ensures.same c.rank.ensures.falling,
      c.find_granted-granted.ensures ∙ ap (λ xs. granted_among g.QS.QuorumSet.has_quorum g.P.Ord.cmp g.V.Measured.measured c.args.quorum_set (take c.args.voters xs) c.args.default) c.deref.ensures.value,
    )

pub slice_bounds-find_granted-end : goal.slice_bounds-find_granted-end
slice_bounds-find_granted-end g c = sym (length-take-le c.args.voters c.deref.result.now (rw c.deref.ensures.len c.requires.rows))

pub returns : goal.returns
returns g c = refl

pub find_granted-granted-requires-clause-room : goal.find_granted-granted-requires-clause-room
find_granted-granted-requires-clause-room g c =
    let long = c.rank.auto.voters in let long2 = c.as_mut_slice.ensures.len in
    let count = taken_long g.V.Measured.measured c.args.voters c.args.rows.items (omega (arith, c.requires.rows, c.args.rows.ok.0)) in
    omega (arith, c.requires.room, ap (λ xs. length xs) c.requires.ranked, count, c.args.ranked.ok.0, c.deref-2.ensures.len, c.as_mut_slice-2.ensures.len)
