use Rattle.std.proofs.Common.{◌∙◌}
use Rattle.raft_core.specs.Views.{CoreView}
use Rattle.raft_core.proofs.Assembled.{goes_on}
use Rattle.raft_core.proofs.driver.RaftCore.take_part_reply.Goals as goal

pub returns-clause-ok : goal.returns-clause-ok
returns-clause-ok g c =
    let i = c.self.inside in
    let view : CoreView g.row.M.Denot = record {
      id = i.id;
      start = i.start;
      clock = i.clock.moment;
      server = i.server;
      requests = i.clients.requests;
      executed = i.executed;
      reads = i.clients.reads;
      preparing = i.preparing.items;
      outgoing = i.outgoing.items;
      incoming = i.incoming.assembly;
    } in
    goes_on g.M.Machine.application g.M.Machine.codec c.args.reply.now c.args.self.now view c.new-outputs.result.items c.go_on.new.outputs.items
    c.go_on.new.outgoing.items c.in_ok-check_to.ensures (c.self.view_is ∙ c.hear.ensures) c.new-outputs.ensures.items
    c.in_ok-go_on.ensures.outgoing c.in_ok-go_on.ensures.outputs
