use Rattle.std.proofs.Common.{◌≡◌, ap, refl, ◌∙◌, sym}
use Rattle.std.specs.Prelude.{Ok}
use Rattle.raft_chunks.specs.declared.cursor.Chunk.{Chunk}
use Rattle.raft_chunks.specs.Chunks.{piece_of}
use Rattle.raft_chunks.specs.Form.{opened, piece}
use Rattle.raft_core.proofs.Copied.{given_by}
use Rattle.raft_peers.proofs.Parting.{decoded}
use Rattle.raft_core.proofs.driver.RaftCore.take_part.Goals as goal

pub returns-clause-ok : goal.returns-clause-ok
returns-clause-ok g c =
    let bytes = c.as_slice.result.now in
    let reads =
    given_by (λ (y : Chunk). opened piece bytes ≡ Ok (piece_of y)) _ c.decode.result c.map_err.result c.in_ok-chunk.chunk
    (decoded c.decode.result bytes c.decode.ensures) c.map_err.ensures.cases c.map_err.ensures.variant c.in_ok-chunk.was in
    c.in_ok-take_chunk.ensures c.args.part refl (ap (opened piece) (sym c.as_slice.ensures) ∙ reads)
