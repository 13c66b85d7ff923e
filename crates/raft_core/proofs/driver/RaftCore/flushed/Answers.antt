use Rattle.std.proofs.Common.{◌∙◌, subst}
use Rattle.raft_core.specs.Calls.{Releases}
use Rattle.raft_core.specs.Views.{CoreView}
use Rattle.raft_core.proofs.Assembled.{releases, untrue}
use Rattle.raft_core.proofs.driver.RaftCore.flushed.Goals as goal

pub returns : goal.returns
returns g c =
    let app = g.M.Machine.application in
    let codec = g.M.Machine.codec in
    let i = c.self.inside in
    let j = c.self-2.inside in
    let old : CoreView g.row.M.Denot = record {
      id = i.id;
      start = i.start;
      clock = i.clock.moment;
      server = i.server;
      requests = i.clients.requests;
      executed = i.executed;
      reads = i.clients.reads;
      preparing = i.preparing.items;
      outgoing = i.outgoing.items;
      incoming = i.incoming.assembly;
    } in
    let view : CoreView g.row.M.Denot = record {
      id = j.id;
      start = j.start;
      clock = j.clock.moment;
      server = j.server;
      requests = j.clients.requests;
      executed = j.executed;
      reads = j.clients.reads;
      preparing = j.preparing.items;
      outgoing = j.outgoing.items;
      incoming = j.incoming.assembly;
    } in
    let out = c.in_ok-leave.field-0.items in
    subst (λ (v : CoreView g.row.M.Denot). Releases app codec c.args.position v out
    (record view {
      requests = c.leave.new.requests;
      executed = c.leave.new.executed;
      reads = c.leave.new.reads;
      preparing = c.leave.new.preparing.items;
      outgoing = c.leave.new.going.items;
    }))
    (c.self.view_is ∙ c.in_ok-fold_if_waited_for.ensures)
    (releases app codec c.args.position old view out c.flushed.new.self c.in_ok-said.said c.in_ok-leave.ensures.outputs.0
    c.leave.new.requests c.leave.new.executed c.leave.new.reads c.keep_prepared.new.preparing.items c.leave.new.preparing.items
    c.keep_of.new.outgoing.items c.leave.new.going.items
    (c.self-2.view_is ∙ c.note_flushed.ensures) c.in_ok-said.ensures.flushes
    (λ none. untrue (c.in_ok-said.ensures.stopped.1 none)) c.in_ok-said.ensures.released c.in_ok-said.ensures.given
    c.keep_prepared.ensures c.keep_of.ensures c.in_ok-leave.ensures.outputs.1
    c.in_ok-leave.ensures.requests c.in_ok-leave.ensures.executed c.in_ok-leave.ensures.reads c.in_ok-leave.ensures.outputs.2)
