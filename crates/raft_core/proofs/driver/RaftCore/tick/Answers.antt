use Rattle.std.proofs.Common.{List, ◌∙◌, ◌++◌, ap, map, refl, subst}
use Rattle.raft_peers.specs.declared.output.Output.{Output}
use Rattle.raft_core.specs.Calls.{AnswersOverdue, Ticks}
use Rattle.raft_peers.specs.Frames.{asked}
use Rattle.raft_core.specs.Views.{CoreView}
use Rattle.raft_core.proofs.driver.RaftCore.tick.Goals as goal

pub returns-clause-ticks : goal.returns-clause-ticks
returns-clause-ticks g c =
    let i = c.self.inside in
    let plan = c.in_ok-moves.field-0 in
    let asks = plan.asks.items in
    let left = c.answer_overdue.new.clients in
    let out = c.answer_overdue.new.outputs.items in
    let new : CoreView g.row.M.Denot = record {
      id = i.id;
      start = i.start;
      clock = c.advance.new.self.moment;
      server = c.take_all.new.server;
      requests = left.requests;
      executed = i.executed;
      reads = left.reads;
      preparing = i.preparing.items;
      outgoing = i.outgoing.items;
      incoming = i.incoming.assembly;
    } in
    subst (λ (v : CoreView g.row.M.Denot). Ticks g.M.Machine.application v out new) c.self.view_is
    (record {
      moves = plan.moves.items;
      asks = asks;
      upto = c.before-upto.result;
      takes = c.in_ok-take_all.ensures;
      answers = subst (λ (before : List (Output g.row.M.Denot)).
          AnswersOverdue c.before-upto.result i.clients.requests i.clients.reads before left.requests left.reads out)
          (c.in_ok-ask_all.ensures ∙ ap (λ front. front ++ map asked asks) c.new-outputs.ensures.items) c.in_ok-answer_overdue.ensures;
      rest = refl;
    })
