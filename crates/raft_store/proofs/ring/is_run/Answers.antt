use Rattle.std.proofs.Common.{ℕ, ◌≡◌, ◌+◌, arith, length, refl, List, Some}
use Rattle.std.specs.Prelude.{slice_get}
use Rattle.std.proofs.lemmas.Option.{slice_get_read}
use Rattle.raft_store.specs.declared.entry.Entry.{Entry}
use Rattle.raft_store.proofs.Numbered.{run_at, run_more}
use Rattle.raft_store.proofs.ring.is_run.Goals as goal
use Rattle.raft_store.proofs.ring.is_run.Goals.{then-index-next-via-then-index-next, then-index-next-via-else-index-next+then-index-next-2}

pub returns-then-index-next : goal.returns-then-index-next
returns-then-index-next c =
    let es : List Entry = c.args.entries.now in
    let k : ℕ = c.loop-place.place in
    let e : Entry = c.index-entries-place.result in
    let get : slice_get c.args.entries.now c.loop-place.place ≡ Some c.index-entries-place.result =
    slice_get_read es (length es) k e refl c.loop-place-test.true c.index-entries-place.is in (
      λ t. cc,
      λ r.
          let at : e.log_id.index ≡ c.args.next + k = run_at c.args.next k es e get r in
          let no : ⊥ = elim c.then-index-next.branch [
            | then-index-next-via-then-index-next w ↦ absurd (omega (arith, at, w.if-index-next.true))
            | then-index-next-via-else-index-next+then-index-next-2 w ↦ absurd (omega (arith, at, w.if-index-next-2.true, w.if-index-next.false))
          ] in
          absurd no,
    )

pub loop-place-preserved : goal.loop-place-preserved
loop-place-preserved c =
    let es : List Entry = c.args.entries.now in
    let k : ℕ = c.loop-place.place in
    let e : Entry = c.index-entries-place.result in
    let get : slice_get c.args.entries.now c.loop-place.place ≡ Some c.index-entries-place.result =
    slice_get_read es (length es) k e refl c.loop-place-test.true c.index-entries-place.is in
    run_more c.args.next k es e get (omega (arith, c.if-index-next.false, c.if-index-next-2.false)) c.loop-place.invariant
