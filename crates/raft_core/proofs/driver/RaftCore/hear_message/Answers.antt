use Rattle.std.proofs.Common.{◌∙◌, ap}
use Rattle.raft_reads.specs.Reads.{with_heard}
use Rattle.raft_core.specs.Views.{CoreView}
use Rattle.raft_core.proofs.driver.RaftCore.hear_message.Goals as goal

pub returns : goal.returns
returns g c =
    let i = c.self.inside in
    let view : CoreView g.row.M.Denot = record {
      id = i.id;
      start = i.start;
      clock = i.clock.moment;
      server = i.server;
      requests = i.clients.requests;
      executed = i.executed;
      reads = i.clients.reads;
      preparing = i.preparing.items;
      outgoing = i.outgoing.items;
      incoming = i.incoming.assembly;
    } in
    (λ k. record view { reads = c.in_ok-hear-2.ensures k })
    ∙ ap (λ (v : CoreView g.row.M.Denot). record v { reads = with_heard c.args.message.now v.reads }) (c.self.view_is ∙ c.hear.ensures)
