use Rattle.std.proofs.Common.{sym, ap, ◌∙◌, take, map, arith}
use Rattle.std.proofs.lemmas.List.{with_items_is, length-take-le}
use Rattle.std.specs.Vec.{with_items}
use Rattle.raft_progress.specs.Table.{kept_row, granted_among, measures}
use Rattle.raft_progress.proofs.Rankings.{ranking_is}
use Rattle.raft_progress.proofs.table.VecProgress.keep.Goals as goal

pub find_granted-self-inside-requires-clause-ranked : goal.find_granted-self-inside-requires-clause-ranked
find_granted-self-inside-requires-clause-ranked g c =
    let t = c.self.inside in
    let wide = c.write_measures.auto.measured in let wide2 = c.as_mut_slice-2.ensures.len in
    let written = with_items_is t.ranked c.write_measures.new.measured (omega arith) ∙ c.write_measures.ensures in
    let wide3 = c.rank.auto.voters in let wide4 = c.as_mut_slice-3.ensures.len in
    let moved = with_items_is (with_items t.ranked c.write_measures.new.measured) c.rank.new.voters (omega arith) in
    ranking_is g.P.Ord.cmp _ c.as_mut_slice-3.result.now c.rank.new.voters _
    (c.as_mut_slice-3.ensures.value ∙ written ∙ ap (λ xs. measures g.V.Measured.measured (take t.voters xs)) (c.deref.ensures.value ∙ sym c.deref-2.ensures.value)) (c.deref-3.ensures.value ∙ moved) c.rank.ensures.same c.rank.ensures.falling

pub invariant_of-self : goal.invariant_of-self
invariant_of-self g c =
    let t = c.self.inside in
    let wide = c.write_measures.auto.measured in let wide2 = c.as_mut_slice-2.ensures.len in
    let written = with_items_is t.ranked c.write_measures.new.measured (omega arith) ∙ c.write_measures.ensures in
    let wide3 = c.rank.auto.voters in let wide4 = c.as_mut_slice-3.ensures.len in
    let moved = with_items_is (with_items t.ranked c.write_measures.new.measured) c.rank.new.voters (omega arith) in
    let i = c.self.invariant in (
      i.0,
      i.1,
      i.2,
      i.3,
      i.4,
      ranking_is g.P.Ord.cmp _ c.as_mut_slice-3.result.now c.rank.new.voters _
          (c.as_mut_slice-3.ensures.value ∙ written ∙ ap (λ xs. measures g.V.Measured.measured (take t.voters xs)) c.deref.ensures.value) moved c.rank.ensures.same c.rank.ensures.falling,
      c.find_granted-self-inside.ensures ∙ ap (λ xs. granted_among g.QS.QuorumSet.has_quorum g.P.Ord.cmp g.V.Measured.measured t.quorum_set (take t.voters xs) t.default) c.deref-2.ensures.value,
    )

pub returns : goal.returns
returns g c =
    let t = c.self.inside in
    let long = c.keep_values.auto.rows in let long2 = c.as_mut_slice.ensures.len in
    let set = with_items_is t.rows c.keep_values.new.rows (omega arith) ∙ c.keep_values.ensures ∙ ap (map (kept_row g.ID.Ord.cmp c.args.old.now)) c.as_mut_slice.ensures.value in
    rw (← c.self.view_is) (λ i. record { set = t.quorum_set; rows = set i; voters = t.voters; default = t.default })

pub slice_bounds-write_measures-end : goal.slice_bounds-write_measures-end
slice_bounds-write_measures-end g c = sym (length-take-le c.self.inside.voters c.deref.result.now (omega (arith, c.self.invariant.0, c.deref.ensures.len)))

pub slice_bounds-find_granted-end : goal.slice_bounds-find_granted-end
slice_bounds-find_granted-end g c = sym (length-take-le c.self.inside.voters c.deref-2.result.now (omega (arith, c.self.invariant.0, c.deref-2.ensures.len)))
