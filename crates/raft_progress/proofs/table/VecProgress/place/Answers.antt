use Rattle.std.proofs.Common.{sym, ap, ◌∙◌, take, map, arith}
use Rattle.std.proofs.lemmas.List.{with_items_is, length-take-le}
use Rattle.raft_progress.specs.Table.{with_value, granted_among}
use Rattle.raft_progress.proofs.Rankings.{ranking_placed, granted_placed}
use Rattle.raft_progress.proofs.table.VecProgress.place.Goals as goal

pub find_granted-self-inside-requires-clause-ranked : goal.find_granted-self-inside-requires-clause-ranked
find_granted-self-inside-requires-clause-ranked g c =
    let t = c.self.inside in
    let lent = c.as_mut_slice.ensures in let long = c.set_value.auto.rows in
    let set = with_items_is t.rows c.set_value.new.rows (omega arith) ∙ c.set_value.ensures ∙ ap (map (with_value g.ID.Ord.cmp c.args.id.now c.args.v)) lent.value in
    let lent2 = c.as_mut_slice-2.ensures in let long2 = c.move_voter.auto.voters in
    let moved = with_items_is t.ranked c.move_voter.new.voters (omega arith) in
    ranking_placed g.ID.Ord.cmp g.met.ID.Ord.total g.met.ID.NodeId.equal_is_same g.P.Ord.cmp g.met.P.Ord.total c.args.id.now c.args.v g.V.Measured.measured t.voters t.rows.items _ t.ranked.items _ c.move_voter.new.voters _ c.measure.result.now c.self.invariant.5 (c.deref-then-not-stays.ensures.value ∙ set) lent2.value c.measure.ensures (c.deref-then-not-stays-2.ensures.value ∙ moved) c.move_voter.ensures.same c.move_voter.ensures.falling

pub invariant_of-self : goal.invariant_of-self
invariant_of-self g c =
    let t = c.self.inside in
    let lent = c.as_mut_slice.ensures in let long = c.set_value.auto.rows in
    let set = with_items_is t.rows c.set_value.new.rows (omega arith) ∙ c.set_value.ensures ∙ ap (map (with_value g.ID.Ord.cmp c.args.id.now c.args.v)) lent.value in
    let lent2 = c.as_mut_slice-2.ensures in let long2 = c.move_voter.auto.voters in
    let moved = with_items_is t.ranked c.move_voter.new.voters (omega arith) in
    let i = c.self.invariant in
    (i.0, i.1, i.2, i.3, i.4, ranking_placed g.ID.Ord.cmp g.met.ID.Ord.total g.met.ID.NodeId.equal_is_same g.P.Ord.cmp g.met.P.Ord.total c.args.id.now c.args.v g.V.Measured.measured t.voters t.rows.items _ t.ranked.items _ c.move_voter.new.voters _ c.measure.result.now c.self.invariant.5 set lent2.value c.measure.ensures moved c.move_voter.ensures.same c.move_voter.ensures.falling, c.find_granted-self-inside.ensures ∙ ap (λ xs. granted_among g.QS.QuorumSet.has_quorum g.P.Ord.cmp g.V.Measured.measured t.quorum_set (take t.voters xs) t.default) c.deref-then-not-stays.ensures.value)

pub invariant_of-self-else-not-stays : goal.invariant_of-self-else-not-stays
invariant_of-self-else-not-stays g c =
    let t = c.self.inside in
    let lent = c.as_mut_slice.ensures in let long = c.set_value.auto.rows in
    let set = with_items_is t.rows c.set_value.new.rows (omega arith) ∙ c.set_value.ensures ∙ ap (map (with_value g.ID.Ord.cmp c.args.id.now c.args.v)) lent.value in
    let lent2 = c.as_mut_slice-2.ensures in let long2 = c.move_voter.auto.voters in
    let moved = with_items_is t.ranked c.move_voter.new.voters (omega arith) in
    let i = c.self.invariant in (
      i.0,
      i.1,
      i.2,
      i.3,
      i.4,
      ranking_placed g.ID.Ord.cmp g.met.ID.Ord.total g.met.ID.NodeId.equal_is_same g.P.Ord.cmp g.met.P.Ord.total c.args.id.now c.args.v g.V.Measured.measured t.voters t.rows.items _ t.ranked.items _ c.move_voter.new.voters _ c.measure.result.now c.self.invariant.5 set lent2.value c.measure.ensures moved c.move_voter.ensures.same c.move_voter.ensures.falling,
      granted_placed g.ID.Ord.cmp g.met.ID.Ord.total g.met.ID.NodeId.equal_is_same g.P.Ord.cmp g.met.P.Ord.total g.QS.QuorumSet.has_quorum g.met.QS.QuorumSet.grows g.V.Measured.measured
          t.quorum_set c.args.id.now c.args.v t.voters t.rows.items c.deref.result.now _ t.ranked.items t.default t.granted c.measure.result.now i.5 i.6 c.deref.ensures.value c.measure.ensures (sym c.all_stay-stays.ensures ∙ c.if-not-stays.false) set,
    )

pub returns-then-not-stays : goal.returns-then-not-stays
returns-then-not-stays g c =
    let t = c.self.inside in
    let lent = c.as_mut_slice.ensures in let long = c.set_value.auto.rows in
    let set = with_items_is t.rows c.set_value.new.rows (omega arith) ∙ c.set_value.ensures ∙ ap (map (with_value g.ID.Ord.cmp c.args.id.now c.args.v)) lent.value in
    rw (← c.self.view_is) (λ i. record { set = t.quorum_set; rows = set i; voters = t.voters; default = t.default })

pub returns-else-not-stays : goal.returns-else-not-stays
returns-else-not-stays g c =
    let t = c.self.inside in
    let lent = c.as_mut_slice.ensures in let long = c.set_value.auto.rows in
    let set = with_items_is t.rows c.set_value.new.rows (omega arith) ∙ c.set_value.ensures ∙ ap (map (with_value g.ID.Ord.cmp c.args.id.now c.args.v)) lent.value in
    rw (← c.self.view_is) (λ i. record { set = t.quorum_set; rows = set i; voters = t.voters; default = t.default })

pub slice_bounds-all_stay-end : goal.slice_bounds-all_stay-end
slice_bounds-all_stay-end g c = sym (length-take-le c.self.inside.voters c.deref.result.now (rw c.deref.ensures.len c.self.invariant.0))
