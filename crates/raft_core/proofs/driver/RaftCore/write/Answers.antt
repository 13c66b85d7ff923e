use Rattle.std.proofs.Common.{List, ◌∙◌, inr, refl, subst}
use Rattle.raft_answers.specs.declared.answer.Reply.{Reply}
use Rattle.raft_core.specs.Calls.{Loses, RefusesReads, Writes}
use Rattle.raft_core.specs.Views.{CoreView}
use Rattle.raft_core.proofs.Assembled.{writes_now}
use Rattle.raft_core.proofs.driver.RaftCore.write.Goals as goal

pub returns : goal.returns
returns g c =
    let app = g.M.Machine.application in
    let codec = g.M.Machine.codec in
    let i = c.self.inside in
    let j = c.self-2.inside in
    let old : CoreView g.row.M.Denot = record {
      id = i.id;
      start = i.start;
      clock = i.clock.moment;
      server = i.server;
      requests = i.clients.requests;
      executed = i.executed;
      reads = i.clients.reads;
      preparing = i.preparing.items;
      outgoing = i.outgoing.items;
      incoming = i.incoming.assembly;
    } in
    let mid : CoreView g.row.M.Denot =
    record old { server = c.propose.new.server; requests = c.propose.new.requests; reads = c.ask_reads.new.reads } in
    let view : CoreView g.row.M.Denot = record {
      id = j.id;
      start = j.start;
      clock = j.clock.moment;
      server = j.server;
      requests = j.clients.requests;
      executed = j.executed;
      reads = j.clients.reads;
      preparing = j.preparing.items;
      outgoing = j.outgoing.items;
      incoming = j.incoming.assembly;
    } in
    let out = c.in_ok-outputs_of.field-0.items in
    let replies = c.propose.new.replies.items in
    let written = c.in_ok-written.written in
    let lost = c.end_lost.new.replies.items in
    let refused = c.refuse_gone.new.replies.items in
    let loses =
    subst (λ (told : List Reply). Loses i.clients.requests told c.end_lost.new.requests lost) c.new-replies.ensures.items c.in_ok-end_lost.ensures in
    let refuses =
    subst (λ (told : List Reply). RefusesReads i.clients.reads told c.refuse_gone.new.reads refused) c.new-told.ensures.items
    c.in_ok-refuse_gone.ensures in
    subst (λ (v : CoreView g.row.M.Denot). Writes app codec v out c.note_written.new.self) c.self.view_is
    (inr (writes_now app codec old mid view c.note_written.new.self out c.write.new.self c.ask_reads.new.server
    c.end_lost.new.requests c.refuse_gone.new.reads lost refused replies written
    (c.self-2.view_is ∙ c.note_made.ensures) c.note_written.ensures refl loses refuses c.in_ok-ask_reads.ensures c.in_ok-made.ensures
    c.in_ok-written.ensures.hands_out c.in_ok-written.ensures.given c.in_ok-written.ensures.stays c.in_ok-outputs_of.ensures))
