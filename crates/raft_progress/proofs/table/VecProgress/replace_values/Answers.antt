use Rattle.std.proofs.Common.{sym, ap, ◌∙◌, ◌≡◌, take, arith, refl}
use Rattle.std.proofs.lemmas.List.{length-take-le}
use Rattle.raft_progress.specs.Table.{granted_among, measures}
use Rattle.raft_progress.proofs.Rankings.{ranking_same, measures_taken, measures_long}
use Rattle.raft_progress.proofs.table.VecProgress.replace_values.Goals as goal

pub find_granted-self-inside-requires-clause-ranked : goal.find_granted-self-inside-requires-clause-ranked
find_granted-self-inside-requires-clause-ranked g c =
    let t = c.self.inside in
    let same : measures g.V.Measured.measured c.args.rows.items ≡ measures g.V.Measured.measured t.rows.items = c.requires ∙ ap (λ s. measures g.V.Measured.measured s.rows) (sym c.self.view_is) in
    ranking_same g.P.Ord.cmp _ _ t.ranked.items _ (ap (λ xs. measures g.V.Measured.measured (take t.voters xs)) c.deref.ensures.value ∙ measures_taken g.V.Measured.measured t.voters c.args.rows.items t.rows.items same) c.deref-2.ensures.value c.self.invariant.5

pub invariant_of-self : goal.invariant_of-self
invariant_of-self g c =
    let t = c.self.inside in let i = c.self.invariant in
    let same : measures g.V.Measured.measured c.args.rows.items ≡ measures g.V.Measured.measured t.rows.items = c.requires ∙ ap (λ s. measures g.V.Measured.measured s.rows) (sym c.self.view_is) in
    let long = measures_long g.V.Measured.measured c.args.rows.items t.rows.items same in
    let long2 : c.args.rows.len ≡ t.rows.len = omega (arith, long, c.args.rows.ok.0, t.rows.ok.0) in (
      omega (arith, i.0, long2),
      i.1,
      i.2 ∙ sym long2,
      i.3,
      i.4,
      ranking_same g.P.Ord.cmp _ _ t.ranked.items _ (measures_taken g.V.Measured.measured t.voters c.args.rows.items t.rows.items same) refl i.5,
      c.find_granted-self-inside.ensures ∙ ap (λ xs. granted_among g.QS.QuorumSet.has_quorum g.P.Ord.cmp g.V.Measured.measured t.quorum_set (take t.voters xs) t.default) c.deref.ensures.value,
    )

pub slice_bounds-find_granted-end : goal.slice_bounds-find_granted-end
slice_bounds-find_granted-end g c =
    let t = c.self.inside in
    let same : measures g.V.Measured.measured c.args.rows.items ≡ measures g.V.Measured.measured t.rows.items = c.requires ∙ ap (λ s. measures g.V.Measured.measured s.rows) (sym c.self.view_is) in
    let long = measures_long g.V.Measured.measured c.args.rows.items t.rows.items same in
    sym (length-take-le t.voters c.deref.result.now (omega (arith, c.self.invariant.0, long, c.args.rows.ok.0, t.rows.ok.0, c.deref.ensures.len)))

pub returns : goal.returns
returns g c = rw (← c.self.view_is) refl
