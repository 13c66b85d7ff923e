use Rattle.std.proofs.Common.{◌∙◌, ap}
use Rattle.raft_peers.specs.Parts.{Outgoing}
use Rattle.raft_peers.proofs.parts.Outgoing.part.Goals as goal

pub returns : goal.returns
returns c = record {
  message = c.in_ok-message.ensures ∙ ap (λ (o : Outgoing). o.message) c.self.view_is;
  offset = c.in_ok-chunk.ensures.0;
  most = c.args.most;
  reads = c.in_ok-chunk.ensures.1;
}
