use Rattle.std.proofs.Common.{List, Some, ap, arith, refl, rules, sym, ◌≡◌, ◌∙◌}
use Rattle.std.specs.Prelude.{◌||◌}
use Rattle.std.proofs.lemmas.Result.{on_ok_weaker}
use Rattle.raft_cluster.specs.declared.machine.Machine.{Machine}
use Rattle.raft_cluster.specs.Clusters.{Leaves, place_of}
use Rattle.raft_cluster.proofs.Clusters.{place_within, stranger_holds}
use Rattle.raft_cluster.proofs.cluster.Cluster.receive.Goals as goal

pub index_mut-requires : goal.index_mut-requires
index_mut-requires g c = omega (arith, place_within c.args.id c.deref.result.now c.in-Some.place (sym c.place_of.ensures ∙ c.in-Some.is), c.deref.ensures.len)

pub returns : goal.returns
returns g c =
    on_ok_weaker c.finish.result (λ (leaves : Leaves c.args.id c.receive-done.result.outputs.items c.args.self.now.network c.args.self.now.told c.finish.new.network c.finish.new.told). λ h.
    stranger_holds g.M.Machine.application g.M.Machine.codec g.met.M.Machine.is_codec c.args.self.now _ c.args.id c.in-Some.place c.index_mut.result.now c.receive-done.new.self
    (ap (λ (ms : List (Machine g.row.M.Denot)). place_of ms c.args.id) (sym c.deref.ensures.value) ∙ (sym c.place_of.ensures ∙ c.in-Some.is))
    c.index_mut.ensures.value refl refl c.receive-done.ensures.id h c.receive-done.result.outputs.items c.args.bytes.now c.receive-done.result.comes
    (c.either-self.ensures ∙ ap (λ b. c.args.self.now.damaged || b) c.is_forged-forged.ensures) c.receive-done.ensures.does c.receive-done.ensures.refused leaves) c.finish.ensures
