use Rattle.std.proofs.Common.{List, ℕ, ◌≡◌, ◌≤◌, ◌++◌, ap, length, subst, sym, take}
use Rattle.raft_frames.specs.Crc.{crc32c}
use Rattle.raft_packed.specs.declared.encoding.Progress.{Progress}
use Rattle.raft_packed.specs.declared.encoding.Progress.TheVariants.{Summed}
use Rattle.raft_packed.specs.Encodings.{IsAt, IsReached}
use Rattle.raft_packed.proofs.Encodings.{encoded_on, summed_on}
use Rattle.raft_packed.proofs.encoding.Encoding.go_on.Goals as goal
use Rattle.raft_packed.proofs.encoding.Encoding.go_on.Goals.{in-Encoded+in_ok-next-in-Encoded, in-Summed}

pub returns : goal.returns
returns g c =
    let m = g.M.Machine in
    let old = c.args.self in
    let state = c.args.state.now in
    elim c.match-progress.branch [
      | in-Encoded+in_ok-next-in-Encoded w ↦
          let next = w.in_ok-next-in-Encoded.next in
          let new = w.encode_some.new.out in
          let reached = subst (λ (bs : List ℕ). IsReached old.before bs next w.reached-progress.result) w.deref.ensures.value w.reached-progress.ensures in
          let there =
          encoded_on m.codec m.left m.fits_left g.met.M.Machine.ends old.before state old.front.items old.bytes.items new.items w.in-Encoded.at next
          old.progress w.reached-progress.result c.requires w.in-Encoded.is w.in_ok-next-in-Encoded.ensures reached in
          subst (λ (p : Progress). IsAt m.codec m.left m.fits_left old.before state old.front.items c.match-progress.bytes.items p) (sym w.progress-is)
          (subst (λ (bs : List ℕ). IsAt m.codec m.left m.fits_left old.before state old.front.items bs w.reached-progress.result)
          (sym (ap (λ bs. bs.items) w.bytes-is)) there)
      | in-Summed w ↦
          let sum = w.in-Summed.sum in
          let len = w.in-Summed.len in
          let next = w.sum_some-sum.result in
          let bytes = w.deref-in-Summed.ensures.value in
          let within = subst (λ (bs : List ℕ). next.1 ≤ length bs) bytes w.sum_some-sum.ensures.within in
          let summed =
          subst (λ (bs : List ℕ). (head : List ℕ) → sum ≡ crc32c (head ++ take len bs) → next.0 ≡ crc32c (head ++ take next.1 bs)) bytes
          w.sum_some-sum.ensures.sum in
          let there =
          summed_on m.codec m.left m.fits_left old.before state old.front.items old.bytes.items sum len next old.progress c.requires w.in-Summed.is within
          summed in
          subst (λ (p : Progress). IsAt m.codec m.left m.fits_left old.before state old.front.items c.match-progress.bytes.items p) (sym w.progress-is)
          (subst (λ (bs : List ℕ). IsAt m.codec m.left m.fits_left old.before state old.front.items bs (Summed next.0 next.1))
          (sym (ap (λ bs. bs.items) w.bytes-is)) there)
    ]
