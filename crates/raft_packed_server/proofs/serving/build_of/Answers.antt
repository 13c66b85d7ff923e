use Rattle.std.proofs.Common.{None, Some, sym, ◌≡◌, ◌∙◌}
use Rattle.std.proofs.lemmas.Result.{IfOk-weaker}
use Rattle.raft_node.specs.declared.act.Act.TheVariants.{FinishSnapshot}
use Rattle.raft_packed_wire.specs.Named.{IsBeganBy}
use Rattle.raft_packed_wire.specs.declared.named.Named.{Named}
use Rattle.raft_packed_wire.specs.declared.named.Named.TheVariants.{Folded, Whole}
use Rattle.raft_packed_wire.specs.declared.record.PackedBegan.{PackedBegan}
use Rattle.raft_packed_wire.specs.declared.record.PackedBegan.TheVariants.{Built, Unchanged}
use Rattle.proof_packed_servers.specs.Servers.{packed_call_effect}
use Rattle.raft_packed_server.specs.Began.{built_end}
use Rattle.raft_packed_server.proofs.Prepared.{end_names, ends, none_there, nothing_ends, nothing_names, on_any, whole_names}
use Rattle.raft_packed_server.proofs.serving.build_of.Goals as goal

pub returns-in_default-clause-began : goal.returns-in_default-clause-began
returns-in_default-clause-began g c =
    let app = g.M.Machine.application in
    let n = c.args.node.now in
    let none : built_end n ≡ None = sym c.built_end.ensures ∙ none_there c.built_end.result c.in_default.not-Some in
    IfOk-weaker c.new.result (λ (b : PackedBegan (Named g.row.M.Denot)). b ≡ Unchanged)
    (λ (b : PackedBegan (Named g.row.M.Denot)). IsBeganBy app n.store b (packed_call_effect FinishSnapshot n))
    (λ b is. nothing_names app n b none is) c.new.ensures

pub returns-in_default-clause-node : goal.returns-in_default-clause-node
returns-in_default-clause-node g c =
    let n = c.args.node.now in
    let none : built_end n ≡ None = sym c.built_end.ensures ∙ none_there c.built_end.result c.in_default.not-Some in
    on_any c.new.result (sym (nothing_ends n none).1)

pub returns-then-is_named-clause-began : goal.returns-then-is_named-clause-began
returns-then-is_named-clause-began g c =
    let app = g.M.Machine.application in
    let n = c.args.node.now in
    let end = c.in-Some.end in
    let some : built_end n ≡ Some end = sym c.built_end.ensures ∙ c.in-Some.is in
    IfOk-weaker c.new-then-is_named.result (λ (b : PackedBegan (Named g.row.M.Denot)). b ≡ Built (Folded end))
    (λ (b : PackedBegan (Named g.row.M.Denot)). IsBeganBy app n.store b (packed_call_effect FinishSnapshot n))
    (λ b is. end_names app n end b some (c.is_named_by_end-is_named.ensures c.if-is_named.true) is) c.new-then-is_named.ensures

pub returns-then-is_named-clause-node : goal.returns-then-is_named-clause-node
returns-then-is_named-clause-node g c =
    let n = c.args.node.now in
    let some : built_end n ≡ Some c.in-Some.end = sym c.built_end.ensures ∙ c.in-Some.is in
    on_any c.new-then-is_named.result (c.in_ok-keep_noted.ensures ∙ sym (ends n c.in-Some.end some).prepared)

pub returns-else-is_named-clause-began : goal.returns-else-is_named-clause-began
returns-else-is_named-clause-began g c =
    let app = g.M.Machine.application in
    let n = c.args.node.now in
    let end = c.in-Some.end in
    let some : built_end n ≡ Some end = sym c.built_end.ensures ∙ c.in-Some.is in
    IfOk-weaker c.whole_of.result (λ (b : PackedBegan (Named g.row.M.Denot)). b ≡ Built (Whole c.keep_noted.new.self.store.snap))
    (λ (b : PackedBegan (Named g.row.M.Denot)). IsBeganBy app n.store b (packed_call_effect FinishSnapshot n))
    (λ b is. whole_names app n c.keep_noted.new.self end b some c.in_ok-keep_noted.ensures is) c.whole_of.ensures

pub returns-else-is_named-clause-node : goal.returns-else-is_named-clause-node
returns-else-is_named-clause-node g c =
    let n = c.args.node.now in
    let some : built_end n ≡ Some c.in-Some.end = sym c.built_end.ensures ∙ c.in-Some.is in
    on_any c.whole_of.result (c.in_ok-keep_noted.ensures ∙ sym (ends n c.in-Some.end some).prepared)
