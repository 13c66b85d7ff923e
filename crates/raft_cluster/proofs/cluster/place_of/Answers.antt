use Rattle.std.proofs.Common.{◌≡◌, ◌∙◌, sym, ap, ℕ, ◌+◌, ◌<◌, Bool, List, ◌∷◌, Some, cond, length, drop, get_or}
use Rattle.std.specs.Prelude.{Option, nat_eq}
use Rattle.std.specs.List.{position_from}
use Rattle.std.proofs.lemmas.Bool.{eq-eqb, ne_eqb}
use Rattle.std.proofs.lemmas.List.{drop_all, drop_more}
use Rattle.std.proofs.lemmas.Iterator.Adapters.{position_from-zero}
use Rattle.raft_cluster.specs.declared.machine.Machine.{Machine}
use Rattle.raft_cluster.specs.Clusters.{place_of}
use Rattle.raft_cluster.proofs.cluster.place_of.Goals as goal

module _ {S : Type 0} (id : ℕ) where
  abbrev has_id : Machine S → Bool
  has_id m = nat_eq m.id id

  -- what is found from a place on goes by the machine that stands there
  module _ (machines : List (Machine S)) (place : ℕ) (m : Machine S) (inside : place < length machines) (stands : m ≡ get_or machines place m) where
    abbrev from_here : Option ℕ
    from_here = position_from has_id place (drop place machines)

    abbrev behind : Option ℕ
    behind = position_from has_id (place + 1) (drop (place + 1) machines)

    by_id : from_here ≡ cond (nat_eq m.id id) (Some place) behind
    by_id =
        ap (position_from has_id place)
        (drop_more machines place m inside ∙ ap (λ (x : Machine S). x ∷ drop (place + 1) machines) (sym stands))

    found : m.id ≡ id → from_here ≡ Some place
    found same = by_id ∙ ap (λ (b : Bool). cond b (Some place) behind) (eq-eqb m.id id same)

    passed : (m.id ≡ id → ⊥) → from_here ≡ behind
    passed other = by_id ∙ ap (λ (b : Bool). cond b (Some place) behind) (ne_eqb m.id id other)

pub loop-place-init : goal.loop-place-init
loop-place-init g c = position_from-zero (has_id {S = g.row.M.Denot} c.args.id) c.args.machines.now

pub loop-place-preserved : goal.loop-place-preserved
loop-place-preserved g c =
    c.loop-place.invariant
    ∙ passed c.args.id c.args.machines.now c.loop-place.place c.index-machines-place.result
    c.loop-place-test.true c.index-machines-place.is (λ same. c.if-here-id.false (c.id-here.ensures ∙ same))

pub returns-then-here-id : goal.returns-then-here-id
unfolding place_of
returns-then-here-id g c =
    sym (c.loop-place.invariant
    ∙ found c.args.id c.args.machines.now c.loop-place.place c.index-machines-place.result
    c.loop-place-test.true c.index-machines-place.is (sym c.id-here.ensures ∙ c.if-here-id.true))

pub returns : goal.returns
unfolding place_of
returns g c =
    sym (c.loop-place.invariant
    ∙ ap (position_from (has_id {S = g.row.M.Denot} c.args.id) c.loop-place.place) (drop_all c.loop-place.place c.args.machines.now c.loop-place-test.false))
