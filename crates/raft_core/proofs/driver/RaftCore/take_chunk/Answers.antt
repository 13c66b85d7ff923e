use Rattle.std.proofs.Common.{◌≡◌, ◌∙◌, [], ◌∷◌, ◌++◌, List, ap, inl, inr, subst}
use Rattle.raft_chunks.specs.Assembly.{taken}
use Rattle.raft_chunks.specs.Chunks.{piece_of}
use Rattle.raft_peers.proofs.raft_packed_server_proofs.Prepared.{none_there}
use Rattle.raft_peers.specs.declared.frame.PartReply.{PartReply}
use Rattle.raft_peers.specs.declared.output.Output.{Output}
use Rattle.raft_peers.specs.Frames.{answered}
use Rattle.raft_peers.specs.Parts.{IsWhole}
use Rattle.raft_core.specs.Views.{CoreView}
use Rattle.raft_core.proofs.Assembled.{completes_chunk, keeps_chunk}
use Rattle.raft_core.proofs.driver.RaftCore.take_chunk.Goals as goal

pub returns-in_default : goal.returns-in_default
returns-in_default g c = λ x is reads.
    let i = c.self.inside in
    let view : CoreView g.row.M.Denot = record {
      id = i.id;
      start = i.start;
      clock = i.clock.moment;
      server = i.server;
      requests = i.clients.requests;
      executed = i.executed;
      reads = i.clients.reads;
      preparing = i.preparing.items;
      outgoing = i.outgoing.items;
      incoming = i.incoming.assembly;
    } in
    let reply : PartReply = record { from = i.id; to = c.args.message.from; cursor = c.cursor.result } in
    let first = c.in_ok-answer_part.ensures ∙ ap (λ (xs : List (Output g.row.M.Denot)). xs ++ answered reply ∷ []) c.new-outputs.ensures.items in
    let given = taken c.hear-2.new.self.assembly (piece_of c.args.chunk.now) in
    let none = none_there c.in_ok-found.found c.in_default.not-Some in
    let waits = subst (IsWhole g.M.Machine.codec given.0) none c.in_ok-found.ensures.whole in
    inl (keeps_chunk g.M.Machine.application g.M.Machine.codec x c.args.message c.args.self.now view c.hear-2.new.self.assembly c.take.new.self.assembly
    (piece_of c.args.chunk.now) c.cursor.result is reads (c.self.view_is ∙ c.hear.ensures) c.hear-2.ensures c.in_ok-found.ensures.taken c.cursor.ensures
    c.answer_part.new.outputs.items c.requires waits first)

pub returns : goal.returns
returns g c = λ x is reads.
    let i = c.self.inside in
    let view : CoreView g.row.M.Denot = record {
      id = i.id;
      start = i.start;
      clock = i.clock.moment;
      server = i.server;
      requests = i.clients.requests;
      executed = i.executed;
      reads = i.clients.reads;
      preparing = i.preparing.items;
      outgoing = i.outgoing.items;
      incoming = i.incoming.assembly;
    } in
    let reply : PartReply = record { from = i.id; to = c.args.message.from; cursor = c.cursor.result } in
    let first = c.in_ok-answer_part.ensures ∙ ap (λ (xs : List (Output g.row.M.Denot)). xs ++ answered reply ∷ []) c.new-outputs.ensures.items in
    let whole = rw c.in-Some.is at c.in_ok-found.ensures.whole in
    inr (completes_chunk g.M.Machine.application g.M.Machine.codec x c.args.message c.args.self.now view c.hear-2.new.self.assembly c.take.new.self.assembly
    (piece_of c.args.chunk.now) c.cursor.result is reads (c.self.view_is ∙ c.hear.ensures) c.hear-2.ensures c.in_ok-found.ensures.taken c.cursor.ensures
    c.append.new.self.items c.in_ok-others.others.items c.take_checked.new.self c.complete.new.self.assembly c.in-Some.snapshot whole
    c.complete.ensures c.in_ok-others.ensures
    (c.in_ok-append.ensures.items ∙ ap (λ (xs : List (Output g.row.M.Denot)). xs ++ c.in_ok-others.others.items) first))
