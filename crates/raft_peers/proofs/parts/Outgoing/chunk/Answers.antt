use Rattle.std.proofs.Common.{◌≡◌, ◌∙◌, ap, subst, ℕ, List}
use Rattle.std.specs.Prelude.{Ok}
use Rattle.raft_chunks.specs.Chunks.{chunk_at, piece_of, title_of}
use Rattle.raft_chunks.specs.Form.{opened, piece}
use Rattle.raft_peers.specs.Parts.{Outgoing}
use Rattle.raft_peers.proofs.Parting.{chunk_back}
use Rattle.raft_peers.proofs.parts.Outgoing.chunk.Goals as goal

pub returns : goal.returns
returns c =
    let i = c.self.inside in
    let sent = c.from_vec.result in
    let is = c.chunk.ensures ∙ ap (λ (bytes : List ℕ). chunk_at i.at bytes c.args.most) c.deref.ensures.value in
    let back =
    chunk_back i.at i.bytes.items c.in_ok-bytes.bytes.items c.args.most (piece_of c.chunk.result) c.self.invariant is c.in_ok-bytes.ensures.fits
    c.in_ok-bytes.ensures.sealed c.in_ok-bytes.ensures.bytes in (
      i.at.offset,
      subst (λ (o : Outgoing). opened piece sent ≡ Ok (chunk_at (record { title = title_of o.number o.bytes; offset = i.at.offset }) o.bytes c.args.most))
          c.self.view_is (ap (opened piece) c.from_vec.ensures ∙ back),
    )
