use Rattle.std.proofs.Common.{subst}
use Rattle.raft_core.specs.Calls.{GivesUpLog}
use Rattle.raft_core.specs.Views.{CoreView}
use Rattle.raft_core.proofs.Begun.{gives_up}
use Rattle.raft_core.proofs.driver.RaftCore.give_up_log.Goals as goal

pub returns : goal.returns
returns g c =
    let i = c.self.inside in
    let old : CoreView g.row.M.Denot = record {
      id = i.id;
      start = i.start;
      clock = i.clock.moment;
      server = i.server;
      requests = i.clients.requests;
      executed = i.executed;
      reads = i.clients.reads;
      preparing = i.preparing.items;
      outgoing = i.outgoing.items;
      incoming = i.incoming.assembly;
    } in
    let server = c.give_up_log.new.self in
    subst (λ (v : CoreView g.row.M.Denot). GivesUpLog v (record old { server = server })) c.self.view_is (gives_up old server c.give_up_log.ensures)
