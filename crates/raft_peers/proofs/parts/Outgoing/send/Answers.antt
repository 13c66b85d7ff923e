use Rattle.std.proofs.lemmas.Result.{on_ok_weaker}
use Rattle.raft_peers.specs.declared.output.Output.TheVariants.{Send}
use Rattle.raft_peers.proofs.parts.Outgoing.send.Goals as goal

pub returns : goal.returns
returns g c =
    on_ok_weaker c.push.result (λ pushed. (
      Send c.to-to.result c.in_ok-bytes.bytes,
      record {
        part = c.in_ok-part.part;
        is_part = c.in_ok-part.ensures;
        fits = c.in_ok-bytes.ensures.fits;
        leaves = λ k. Send (c.to-to.ensures k) (c.in_ok-bytes.ensures.bytes k);
      },
      pushed,
    )) c.push.ensures
