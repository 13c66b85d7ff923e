use Rattle.std.proofs.Common.{List, Some, ap, arith, refl, sym, ◌≡◌, ◌∙◌}
use Rattle.raft_cluster.specs.declared.machine.Machine.{Machine}
use Rattle.raft_cluster.specs.Clusters.{place_of}
use Rattle.raft_cluster.proofs.Clusters.{place_within, give_up_holds}
use Rattle.raft_cluster.proofs.cluster.Cluster.give_up.Goals as goal

pub index_mut-requires : goal.index_mut-requires
index_mut-requires g c = omega (arith, place_within c.args.id c.deref.result.now c.in-Some.place (sym c.place_of.ensures ∙ c.in-Some.is), c.deref.ensures.len)

pub returns : goal.returns
returns g c = λ h.
    give_up_holds g.M.Machine.application g.M.Machine.codec g.met.M.Machine.is_codec c.args.self.now _ c.args.id c.in-Some.place c.index_mut.result.now c.give_up_log.new.self
    (ap (λ (ms : List (Machine g.row.M.Denot)). place_of ms c.args.id) (sym c.deref.ensures.value) ∙ (sym c.place_of.ensures ∙ c.in-Some.is))
    c.index_mut.ensures.value refl refl c.give_up_log.ensures.id h refl refl refl c.give_up_log.ensures.does
