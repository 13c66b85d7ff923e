use Rattle.std.proofs.Common.{List, [], ◌∷◌, ◌++◌, ◌<◌, arith, refl, subst, sym, take, ℕ}
use Rattle.std.specs.Prelude.{◌^◌, get_or}
use Rattle.std.proofs.lemmas.List.{take_all, take_more}
use Rattle.std.proofs.lemmas.List.Elements.{All-from_get_or}
use Rattle.raft_cluster.specs.declared.machine.Machine.{Machine}
use Rattle.raft_cluster.specs.Clusters.{AreNew}
use Rattle.raft_cluster.proofs.Clusters.{new_more}
use Rattle.raft_cluster.proofs.cluster.make_machines.Goals as goal

pub loop-id-init : goal.loop-id-init
loop-id-init g c = subst (λ (ms : List (Machine g.row.M.Denot)). AreNew [] ms) (sym c.in_ok-machines.ensures.items) (record { same = refl; each = tt })

pub loop-id-preserved : goal.loop-id-preserved
loop-id-preserved g c =
    let all : List ℕ = c.args.ids.now in
    let i : ℕ = c.loop-id.id-index in
    subst (λ (ids : List ℕ). AreNew ids c.push.new.self.items) (sym (take_more all i 0 c.loop-id-test.true))
    (subst (λ (ms : List (Machine g.row.M.Denot)). AreNew (take i all ++ get_or all i 0 ∷ []) ms) (sym c.in_ok-push.ensures.items)
    (new_more (take i all) c.loop-id.machines.items (get_or all i 0) c.new.result c.loop-id.invariant c.new.ensures.id c.new.ensures.fresh))

pub returns-clause-fresh : goal.returns-clause-fresh
returns-clause-fresh g c =
    subst (λ (ids : List ℕ). AreNew ids c.loop-id.machines.items) (take_all c.loop-id.id-index c.args.ids.now c.loop-id-test.false) c.loop-id.invariant

pub returns-clause-named : goal.returns-clause-named
returns-clause-named g c = All-from_get_or (λ id. id < 2 ^ 64) c.args.ids.now 0 (λ i within. omega (arith, c.type_inv.ids i))
