use Rattle.std.proofs.Common.{◌≡◌, ◌∙◌, refl, ap}
use Rattle.std.specs.Option.{option_or}
use Rattle.std.proofs.lemmas.List.{take_all}
use Rattle.raft_store.specs.Starting.{entries_of, stored_of}
use Rattle.raft_store.proofs.Memberships.{stored_some, last_found, one_found, none_found, no_membership, found_all}
use Rattle.raft_store.proofs.restart.memberships.Goals as goal
use Rattle.raft_store.proofs.restart.memberships.Goals.{in-Membership, in_default}

pub loop-entry-preserved : goal.loop-entry-preserved
loop-entry-preserved c =
    let b = stored_some c.loop-entry.before in
    let l = stored_some c.loop-entry.last in
    elim c.match-entry.branch [
      | in-Membership w ↦ rw (w.before-is, w.last-is) (one_found c.args.log.now c.loop-entry.entry-index c.entry-item.result w.in-Membership.membership b l c.loop-entry-test.true c.entry-item.is w.in-Membership.is c.loop-entry.invariant)
      | in_default w ↦ rw (w.before-is, w.last-is)
          (none_found c.args.log.now c.loop-entry.entry-index c.entry-item.result b l c.loop-entry-test.true c.entry-item.is
          (no_membership c.entry-item.result.now.payload w.in_default.not-Membership)
          c.loop-entry.invariant)
    ]

pub returns : goal.returns
returns c =
    let all : (stored_some c.loop-entry.before, stored_some c.loop-entry.last) ≡ last_found (entries_of c.args.log.now) =
    c.loop-entry.invariant ∙ ap (λ xs. last_found (entries_of xs)) (take_all c.loop-entry.entry-index c.args.log.now c.loop-entry-test.false) in
    let first : c.in_ok-committed.committed ≡ stored_of (option_or c.loop-entry.before c.loop-entry.last) = c.in_ok-committed.ensures ∙ ap stored_of c.or.ensures in
    rw (found_all (entries_of c.args.log.now) c.loop-entry.before c.loop-entry.last all, first, c.in_ok-copy_membership.ensures) refl
