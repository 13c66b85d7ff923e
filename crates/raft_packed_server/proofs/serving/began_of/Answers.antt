use Rattle.std.proofs.Common.{ap, subst, sym, ◌≡◌}
use Rattle.std.specs.Prelude.{IfOk}
use Rattle.std.proofs.lemmas.Result.{IfOk-weaker}
use Rattle.raft_node.specs.declared.act.Act.{Act}
use Rattle.raft_packed_wire.specs.Named.{IsBeganBy}
use Rattle.raft_packed_wire.specs.declared.named.Named.{Named}
use Rattle.raft_packed_wire.specs.declared.record.PackedBegan.{PackedBegan}
use Rattle.raft_packed_wire.specs.declared.record.PackedBegan.TheVariants.{Settled, Unchanged}
use Rattle.proof_packed_servers.specs.Servers.{packed_call_effect}
use Rattle.raft_packed_server.proofs.Prepared.{others_begin_nothing, settled_names, unchanged_names}
use Rattle.raft_packed_server.proofs.serving.began_of.Goals as goal

pub returns-in-Restart-clause-began : goal.returns-in-Restart-clause-began
returns-in-Restart-clause-began g c =
    let app = g.M.Machine.application in
    let n = c.args.node.now in
    IfOk-weaker c.new.result (λ (b : PackedBegan (Named g.row.M.Denot)). b ≡ Settled)
    (λ (b : PackedBegan (Named g.row.M.Denot)). IsBeganBy app n.store b (packed_call_effect c.args.act.now n))
    (λ b is. settled_names app n.store b (packed_call_effect c.args.act.now n) (ap (λ (a : Act). packed_call_effect a n) c.in-Restart.is) is)
    c.new.ensures

pub returns-in-FinishSnapshot-clause-began : goal.returns-in-FinishSnapshot-clause-began
returns-in-FinishSnapshot-clause-began g c =
    let app = g.M.Machine.application in
    let n = c.args.node.now in
    subst (λ (a : Act). IfOk c.build_of.result (λ b. IsBeganBy app n.store b (packed_call_effect a n))) (sym c.in-FinishSnapshot.is)
    c.build_of.ensures.began

pub returns-in_default-clause-began : goal.returns-in_default-clause-began
returns-in_default-clause-began g c =
    let app = g.M.Machine.application in
    let n = c.args.node.now in
    IfOk-weaker c.new-in_default.result (λ (b : PackedBegan (Named g.row.M.Denot)). b ≡ Unchanged)
    (λ (b : PackedBegan (Named g.row.M.Denot)). IsBeganBy app n.store b (packed_call_effect c.args.act.now n))
    (λ b is. unchanged_names app n.store b (packed_call_effect c.args.act.now n)
    (others_begin_nothing c.args.act.now n c.in_default.not-Restart c.in_default.not-FinishSnapshot) is)
    c.new-in_default.ensures
