use Rattle.std.proofs.Common.{List, [], Some, ap, arith, refl, sym, ◌≡◌, ◌∙◌}
use Rattle.std.proofs.lemmas.Result.{on_ok_weaker}
use Rattle.raft_cluster.specs.declared.machine.Machine.{Machine}
use Rattle.raft_cluster.specs.Calls.{ByNewLog, Calls}
use Rattle.raft_cluster.specs.Clusters.{place_of}
use Rattle.raft_cluster.proofs.Clusters.{place_within, checkpoint_holds}
use Rattle.raft_cluster.proofs.cluster.Cluster.checkpoint.Goals as goal

pub index_mut-requires : goal.index_mut-requires
index_mut-requires g c = omega (arith, place_within c.args.id c.deref.result.now c.in-Some.place (sym c.place_of.ensures ∙ c.in-Some.is), c.deref.ensures.len)

pub returns : goal.returns
returns g c =
    on_ok_weaker c.begin_log.result (λ (call : Calls (ByNewLog g.M.Machine.codec) c.index_mut.result.now [] c.begin_log.new.self). λ h.
    checkpoint_holds g.M.Machine.application g.M.Machine.codec g.met.M.Machine.is_codec c.args.self.now _ c.args.id c.in-Some.place c.index_mut.result.now c.begin_log.new.self
    (ap (λ (ms : List (Machine g.row.M.Denot)). place_of ms c.args.id) (sym c.deref.ensures.value) ∙ (sym c.place_of.ensures ∙ c.in-Some.is))
    c.index_mut.ensures.value refl refl c.begin_log.ensures.id h refl refl refl call) c.begin_log.ensures.does
