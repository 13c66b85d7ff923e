use Rattle.std.proofs.Common.{List, None, Option, Some, ap, sym, ◌≡◌, ◌∙◌}
use Rattle.std.specs.Option.{option_copied_mut, option_map}
use Rattle.raft_calls.specs.Engines.{view_of}
use Rattle.raft_store.specs.declared.entry.Entry.{Entry}
use Rattle.raft_node.specs.declared.node.Running.{Running}
use Rattle.raft_node.specs.Net.{NodeView}
use Rattle.raft_node.proofs.node.Node.finish_snapshot.Goals as goal

pub tell_built-requires-clause-noted : goal.tell_built-requires-clause-noted
tell_built-requires-clause-noted c =
    let n : NodeView = c.args.self.now in
    let some : c.self.inside.running ≡ Some c.in-Some.running.now = sym c.as_mut.ensures.value ∙ ap option_copied_mut c.in-Some.is in
    let runs : n.engine ≡ Some (view_of c.in-Some.running.now.engine) =
    ap (λ (m : NodeView). m.engine) (sym c.self.view_is) ∙ ap (option_map (λ (r : Running). view_of r.engine)) some in
    let noted : n.noted ≡ Some c.as_slice.result.now =
    ap (λ (m : NodeView). m.noted) (sym c.self.view_is)
    ∙ (ap (λ (o : Option Running). elim o as (λ _. Option (List Entry)) [ None ↦ None | Some r ↦ r.noted ]) some
    ∙ (sym c.take.ensures.value ∙ (c.in-Some-take.is ∙ ap Some (sym c.as_slice.ensures)))) in
    c.requires.noted (view_of c.in-Some.running.now.engine) c.as_slice.result.now runs noted
