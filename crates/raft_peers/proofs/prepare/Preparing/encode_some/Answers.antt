use Rattle.std.proofs.Common.{ℕ, List, ◌≡◌, ◌<◌, ◌^◌, ◌++◌, ◌∙◌, ap, arith, length, subst, sym}
use Rattle.raft_chunks.specs.Chunks.{title_of}
use Rattle.raft_packed_server.specs.raft_packed_wire.Pieces.{PackedGoesOn}
use Rattle.raft_peers.proofs.Preparing.{more_encoded}
use Rattle.raft_peers.proofs.prepare.Preparing.encode_some.Goals as goal

pub invariant_of-result : goal.invariant_of-result
invariant_of-result g c =
    let codec = g.M.Machine.codec in
    let left = g.M.Machine.left in
    let fits = g.M.Machine.fits_left in
    let i = c.self.inside in
    let new = c.extend_from_slice.new.self in
    let piece = c.write_packed_some.new.out.items in
    let joined : new.items ≡ i.bytes.items ++ piece =
    c.in_ok-extend_from_slice.ensures.items ∙ ap (λ (bs : List ℕ). i.bytes.items ++ bs) c.deref.ensures.value in
    let same : i.bytes.items ++ c.deref-2.result.now ≡ new.items =
    ap (λ (bs : List ℕ). i.bytes.items ++ bs) c.deref-2.ensures.value ∙ sym joined in
    let short : length (i.bytes.items ++ c.deref-2.result.now) < 2 ^ 64 = omega (arith, ap length same, new.ok.0, new.ok.1, new.small) in
    let titled =
    c.append-title.ensures i.snapshot.end i.bytes.items c.self.invariant.titled short
    ∙ ap (λ (bs : List ℕ). title_of i.snapshot.end (i.bytes.items ++ bs)) c.deref-2.ensures.value in
    more_encoded codec left fits (record { message = i.message; brought = i.snapshot }) i.at c.in_ok-at.at i.bytes.items piece new.items i.title
    c.append-title.result c.self.invariant
    (subst (λ (bs : List ℕ). PackedGoesOn codec left fits i.snapshot i.at c.in_ok-at.at bs piece) c.new-piece.ensures.items c.in_ok-at.ensures) joined
    titled
