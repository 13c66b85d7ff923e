use Rattle.std.proofs.Common.{List, Some, ap, arith, refl, subst, sym, ◌≡◌, ◌∙◌}
use Rattle.raft_cluster.specs.declared.machine.Machine.{Machine}
use Rattle.raft_cluster.specs.Clusters.{Notes, place_of}
use Rattle.raft_cluster.proofs.Clusters.{place_within, request_holds}
use Rattle.raft_cluster.proofs.cluster.Cluster.ask.Goals as goal

pub index_mut-requires : goal.index_mut-requires
index_mut-requires g c = omega (arith, place_within c.args.id c.deref.result.now c.in-Some.place (sym c.place_of.ensures ∙ c.in-Some.is), c.deref.ensures.len)

pub returns : goal.returns
returns g c = λ h.
    request_holds g.M.Machine.application g.M.Machine.codec g.met.M.Machine.is_codec c.args.self.now _ c.args.id c.in-Some.place c.index_mut.result.now c.request-comes.new.self
    (ap (λ (ms : List (Machine g.row.M.Denot)). place_of ms c.args.id) (sym c.deref.ensures.value) ∙ (sym c.place_of.ensures ∙ c.in-Some.is))
    c.index_mut.ensures.value refl refl c.request-comes.ensures.id h c.args.token c.args.operation c.in_ok-copy.copy c.request-comes.result refl refl c.in_ok-copy.ensures
    (subst (λ taken. Notes taken c.args.id c.args.token c.in_ok-copy.copy c.args.self.now.told c.note_asked.new.told) c.is_done.ensures c.in_ok-note_asked.ensures)
    c.request-comes.ensures.requests
