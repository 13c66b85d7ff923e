use Rattle.std.proofs.Common.{◌≡◌, ◌≤◌, ◌+◌, List, ap, arith, length, subst, sym}
use Rattle.std.specs.Prelude.{max}
use Rattle.raft_state.specs.Order.{next}
use Rattle.raft_store.specs.declared.entry.Entry.{Entry}
use Rattle.raft_store.specs.Entries.{entry_meaning}
use Rattle.raft_store.specs.Types.{WorldStore}
use Rattle.raft_store.proofs.WholeLogs.{whole_length}
use Rattle.raft_store.proofs.store.Store.whole_len.Goals as goal

pub next_index-requires : goal.next_index-requires
next_index-requires c =
    let front : next c.self.inside.front ≤ length c.self.inside.snapshot = subst (λ (t : WorldStore). next t.front ≤ length t.snap) (sym c.self.view_is) c.requires.front in
    let held : length c.as_slice-held.result.now ≡ length c.self.inside.snapshot = ap (λ (es : List Entry). length es) c.as_slice-held.ensures in
    omega (arith, front, held)

pub overflow_add-end : goal.overflow_add-end
overflow_add-end c =
    let front : next c.self.inside.front ≤ length c.self.inside.snapshot = subst (λ (t : WorldStore). next t.front ≤ length t.snap) (sym c.self.view_is) c.requires.front in
    let held : length c.as_slice-held.result.now ≡ length c.self.inside.snapshot = ap (λ (es : List Entry). length es) c.as_slice-held.ensures in
    omega (arith, front, held, c.len.ensures.small)

pub returns : goal.returns
returns c =
    let held : length c.as_slice-held.result.now ≡ length c.self.inside.snapshot = ap (λ (es : List Entry). length es) c.as_slice-held.ensures in
    let seen : max (length c.self.inside.snapshot) (next c.self.inside.front + length c.self.inside.ring) ≡ max (length c.args.self.now.snap) (next c.args.self.now.front + length c.args.self.now.log) =
    ap (λ (t : WorldStore). max (length t.snap) (next t.front + length t.log)) c.self.view_is in
    omega (arith, held, seen, c.len.ensures.count, whole_length entry_meaning c.args.self.now c.requires)
