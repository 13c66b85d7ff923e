use Rattle.std.proofs.Common.{subst, sym}
use Rattle.raft_core.specs.Calls.{TakesOverLog}
use Rattle.raft_core.specs.Views.{CoreView}
use Rattle.raft_core.proofs.Begun.{takes_over}
use Rattle.raft_core.proofs.driver.RaftCore.take_over.Goals as goal

pub returns : goal.returns
returns g c =
    let i = c.self.inside in
    let old : CoreView g.row.M.Denot = record {
      id = i.id;
      start = i.start;
      clock = i.clock.moment;
      server = i.server;
      requests = i.clients.requests;
      executed = i.executed;
      reads = i.clients.reads;
      preparing = i.preparing.items;
      outgoing = i.outgoing.items;
      incoming = i.incoming.assembly;
    } in
    let server = c.take_over-end.new.self in
    let end = c.take_over-end.result in
    subst (λ (v : CoreView g.row.M.Denot). TakesOverLog v end c.note_taken_over.new.self) c.self.view_is
    (subst (λ (v : CoreView g.row.M.Denot). TakesOverLog old end v) (sym c.note_taken_over.ensures)
    (takes_over old end server c.take_over-end.ensures.takes_over c.take_over-end.ensures.given))
