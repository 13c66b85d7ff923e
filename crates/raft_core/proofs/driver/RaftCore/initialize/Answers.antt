use Rattle.std.proofs.Common.{[], ◌∷◌, refl, subst}
use Rattle.raft_node.specs.declared.act.Act.TheVariants.{Initialize}
use Rattle.raft_core.specs.Calls.{Moves}
use Rattle.raft_core.specs.Steps.{step_at}
use Rattle.raft_core.specs.Views.{CoreView}
use Rattle.raft_core.proofs.Stepped.{one_step}
use Rattle.raft_core.proofs.driver.RaftCore.initialize.Goals as goal

pub returns : goal.returns
returns g c =
    let app = g.M.Machine.application in
    let i = c.self.inside in
    let new : CoreView g.row.M.Denot = record {
      id = i.id;
      start = i.start;
      clock = i.clock.moment;
      server = c.take.new.server;
      requests = i.clients.requests;
      executed = i.executed;
      reads = i.clients.reads;
      preparing = i.preparing.items;
      outgoing = i.outgoing.items;
      incoming = i.incoming.assembly;
    } in
    subst (λ (v : CoreView g.row.M.Denot). Moves app (Initialize ∷ []) v new) c.self.view_is
    (record {
      takes = one_step app (step_at app i.clock.moment Initialize) i.server c.take.new.server c.in_ok-take.field-0 c.in_ok-take.ensures;
      rest = refl;
    })
