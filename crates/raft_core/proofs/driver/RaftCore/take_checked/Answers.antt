use Rattle.std.proofs.Common.{◌∙◌, ◌≡◌, ap, subst, sym}
use Rattle.raft_calls.specs.declared.message.Message.{Message}
use Rattle.raft_peers.specs.proof_packed.Nodes.{PackedMessage}
use Rattle.raft_peers.specs.proof_packed_servers.Servers.{PackedStep}
use Rattle.raft_peers.specs.raft_packed_server.Views.{step_of}
use Rattle.raft_reads.specs.Reads.{with_heard}
use Rattle.raft_core.specs.Steps.{TakesStep, step_taking}
use Rattle.raft_core.specs.Views.{CoreView}
use Rattle.raft_core.proofs.Assembled.{takes_message}
use Rattle.raft_core.proofs.Stepped.{one_step}
use Rattle.raft_core.proofs.driver.RaftCore.take_checked.Goals as goal

pub returns : goal.returns
returns g c =
    let app = g.M.Machine.application in
    let i = c.self.inside in
    let old : CoreView g.row.M.Denot = c.args.self.now in
    let view : CoreView g.row.M.Denot = record {
      id = i.id;
      start = i.start;
      clock = i.clock.moment;
      server = i.server;
      requests = i.clients.requests;
      executed = i.executed;
      reads = i.clients.reads;
      preparing = i.preparing.items;
      outgoing = i.outgoing.items;
      incoming = i.incoming.assembly;
    } in
    let brings : c.message.inside.message ≡ c.args.message.message =
    ap (λ (m : PackedMessage g.row.M.Denot). m.message) c.message.view_is in
    let heard : view ≡ record old { reads = with_heard c.args.message.message old.reads } =
    c.self.view_is ∙ (c.in_ok-hear_message.ensures ∙ ap (λ (m : Message). record old { reads = with_heard m old.reads }) brings) in
    let step : step_of app c.take.result i.clock.moment ≡ step_taking i.clock.moment c.args.message =
    (λ k. record { act = c.take.ensures.act k; brought = c.take.ensures.brought k; at = i.clock.moment }) in
    let taken =
    subst (λ (step : PackedStep g.row.M.Denot). TakesStep app step i.server c.in_ok-take_with.field-0 c.take_with.new.server) step
    c.in_ok-take_with.ensures in
    takes_message app c.args.message old view c.in_ok-answer_after.field-0.items c.take_with.new.server c.answer_after.new.clients.requests
    c.answer_after.new.clients.reads
    c.requires
    heard
    (one_step app (step_taking i.clock.moment c.args.message) i.server c.take_with.new.server c.in_ok-take_with.field-0 taken)
    c.in_ok-answer_after.ensures
