use Rattle.std.proofs.Common.{subst, sym}
use Rattle.raft_core.specs.Calls.{MayBeginLog}
use Rattle.raft_core.specs.Views.{CoreView}
use Rattle.raft_core.proofs.Begun.{begins}
use Rattle.raft_core.proofs.driver.RaftCore.begin_prepared.Goals as goal

pub returns : goal.returns
returns g c =
    let codec = g.M.Machine.codec in
    let i = c.self.inside in
    let old : CoreView g.row.M.Denot = record {
      id = i.id;
      start = i.start;
      clock = i.clock.moment;
      server = i.server;
      requests = i.clients.requests;
      executed = i.executed;
      reads = i.clients.reads;
      preparing = i.preparing.items;
      outgoing = i.outgoing.items;
      incoming = i.incoming.assembly;
    } in
    let begun = c.in-Ok.begun in
    subst (λ (v : CoreView g.row.M.Denot). MayBeginLog codec c.args.log.now v begun c.note_begun.new.self) c.self.view_is
    (subst (λ (v : CoreView g.row.M.Denot). MayBeginLog codec c.args.log.now old begun v) (sym c.note_begun.ensures)
    (begins codec c.args.log.now old begun c.begin_log.new.self c.in-Ok.ensures.begins c.in-Ok.ensures.given))
