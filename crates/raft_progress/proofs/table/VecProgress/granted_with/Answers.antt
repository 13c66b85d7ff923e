use Rattle.std.proofs.Common.{ap, ◌∙◌, sym, take, map, arith}
use Rattle.std.proofs.lemmas.List.{with_items_is, length-take-le}
use Rattle.std.specs.Vec.{with_items}
use Rattle.raft_progress.specs.Table.{with_value, granted_among, granted, updated}
use Rattle.raft_progress.proofs.Rankings.{ranking_placed}
use Rattle.raft_progress.proofs.table.VecProgress.granted_with.Goals as goal

pub find_granted-requires-clause-ranked : goal.find_granted-requires-clause-ranked
find_granted-requires-clause-ranked g c =
    let t = c.self.inside in
    let wide = c.copy_from_slice.auto.self in let wide2 = c.as_mut_slice.ensures.len in
    let copied = with_items_is t.spare c.copy_from_slice.new.self (omega arith) ∙ c.copy_from_slice.ensures.after ∙ c.deref.ensures.value in
    let long = c.set_value.auto.rows in let long2 = c.as_mut_slice-2.ensures.len in
    let set = with_items_is (with_items t.spare c.copy_from_slice.new.self) c.set_value.new.rows (omega arith) ∙ c.set_value.ensures ∙ ap (map (with_value g.ID.Ord.cmp c.args.id.now c.args.v)) (c.as_mut_slice-2.ensures.value ∙ copied) in
    let wide3 = c.copy_from_slice-2.auto.self in let wide4 = c.as_mut_slice-3.ensures.len in
    let copied2 = with_items_is t.spare_ranked c.copy_from_slice-2.new.self (omega arith) ∙ c.copy_from_slice-2.ensures.after ∙ c.deref-2.ensures.value in
    let long3 = c.move_voter.auto.voters in let long4 = c.as_mut_slice-4.ensures.len in
    let moved = with_items_is (with_items t.spare_ranked c.copy_from_slice-2.new.self) c.move_voter.new.voters (omega arith) in
    ranking_placed g.ID.Ord.cmp g.met.ID.Ord.total g.met.ID.NodeId.equal_is_same g.P.Ord.cmp g.met.P.Ord.total c.args.id.now c.args.v g.V.Measured.measured t.voters t.rows.items _ t.ranked.items _ c.move_voter.new.voters _ c.measure.result.now
    c.self.invariant.5 (c.deref-3.ensures.value ∙ set) (c.as_mut_slice-4.ensures.value ∙ copied2) c.measure.ensures (c.deref-4.ensures.value ∙ moved) c.move_voter.ensures.same c.move_voter.ensures.falling

pub returns-clause-value : goal.returns-clause-value
returns-clause-value g c =
    let t = c.self.inside in
    let wide = c.copy_from_slice.auto.self in let wide2 = c.as_mut_slice.ensures.len in
    let copied = with_items_is t.spare c.copy_from_slice.new.self (omega arith) ∙ c.copy_from_slice.ensures.after ∙ c.deref.ensures.value in
    let long = c.set_value.auto.rows in let long2 = c.as_mut_slice-2.ensures.len in
    let set = with_items_is (with_items t.spare c.copy_from_slice.new.self) c.set_value.new.rows (omega arith) ∙ c.set_value.ensures ∙ ap (map (with_value g.ID.Ord.cmp c.args.id.now c.args.v)) (c.as_mut_slice-2.ensures.value ∙ copied) in
    c.find_granted.ensures ∙ ap (λ xs. granted_among g.QS.QuorumSet.has_quorum g.P.Ord.cmp g.V.Measured.measured t.quorum_set (take t.voters xs) t.default) (c.deref-3.ensures.value ∙ set)
    ∙ ap (λ s. granted g.QS.QuorumSet.has_quorum g.P.Ord.cmp g.V.Measured.measured (updated g.ID.Ord.cmp s c.args.id.now c.args.v)) c.self.view_is

pub invariant_of-self : goal.invariant_of-self
invariant_of-self g c = c.self.invariant

pub returns-clause-same : goal.returns-clause-same
returns-clause-same g c = c.self.view_is

pub slice_bounds-find_granted-end : goal.slice_bounds-find_granted-end
slice_bounds-find_granted-end g c = sym (length-take-le c.self.inside.voters c.deref-3.result.now (omega (arith, c.self.invariant.0, c.self.invariant.2, c.deref-3.ensures.len)))
