use Rattle.std.proofs.Common.{None, Option, Some, ap, sym, ◌≡◌, ◌∙◌}
use Rattle.std.specs.Option.{option_copied, option_copied_mut, option_map}
use Rattle.raft_calls.specs.Engines.{view_of}
use Rattle.proof_packed.specs.Nodes.{PackedNode}
use Rattle.proof_packed.specs.Stores.{Packed}
use Rattle.raft_packed.specs.Kept.{summary_of}
use Rattle.raft_packed_node.specs.declared.node.Running.{Running}
use Rattle.raft_packed_node.proofs.Noted.{summary_fits}
use Rattle.raft_packed_node.proofs.node.Node.finish_snapshot.Goals as goal

pub tell_built-requires-clause-noted : goal.tell_built-requires-clause-noted
tell_built-requires-clause-noted g c =
    let n : PackedNode g.row.M.Denot = c.args.self.now in
    let some : c.self.inside.running ≡ Some c.in-Some.running.now = sym c.as_mut.ensures.value ∙ ap option_copied_mut c.in-Some.is in
    let runs : n.engine ≡ Some (view_of c.in-Some.running.now.engine) =
    ap (λ (m : PackedNode g.row.M.Denot). m.engine) (sym c.self.view_is) ∙ ap (option_map (λ (r : Running). view_of r.engine)) some in
    let noted : n.noted ≡ c.self.inside.store.noted =
    ap (λ (m : PackedNode g.row.M.Denot). m.noted) (sym c.self.view_is)
    ∙ ap (λ (o : Option Running). elim o as (λ _. Option (Packed g.row.M.Denot)) [ None ↦ None | Some r ↦ c.self.inside.store.noted ]) some in
    let kept : option_map summary_of n.noted ≡ Some c.in-Some-noted.built.now =
    ap (option_map summary_of) noted ∙ (sym c.noted.ensures ∙ ap option_copied c.in-Some-noted.is) in
    summary_fits (view_of c.in-Some.running.now.engine) n.engine n.noted c.in-Some-noted.built.now c.requires.noted runs kept
