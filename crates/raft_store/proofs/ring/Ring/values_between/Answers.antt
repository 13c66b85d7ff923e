use Rattle.std.proofs.Common.{rules, ◌≡◌, ◌+◌, ◌-◌, ◌∙◌, ◌≤◌, ◌<◌, ap, arith, length, sym, List, ℕ}
use Rattle.std.specs.Prelude.{min, slice_range}
use Rattle.std.specs.VecDeque.Iter.{deque_iter_rest}
use Rattle.raft_store.specs.declared.entry.Entry.{Entry}
use Rattle.raft_store.specs.Store.{between}
use Rattle.raft_store.proofs.Numbered.{between-numbered, min_parts}
use Rattle.raft_store.proofs.ring.Ring.values_between.Goals as goal

pub returns : goal.returns
returns c =
    let xs : List Entry = c.self.inside.items.items in
    let first : ℕ = c.self.inside.first in
    let end : ℕ = c.count_upto-end.result in
    let end_is : c.count_upto-end.result ≡ min (c.args.last + 1 - c.self.inside.first) (length xs) = search rules in
    let start_is : c.min.result ≡ min (c.args.from - c.self.inside.first) c.count_upto-end.result = search rules in
    let e : (end ≤ c.args.last + 1 - first) × (end ≤ length xs) × (end < length xs → c.args.last + 1 - first ≤ end) = min_parts end (c.args.last + 1 - first) (length xs) end_is in
    let s : (c.min.result ≤ c.args.from - first) × (c.min.result ≤ end) × (c.min.result < end → c.args.from - first ≤ c.min.result) = min_parts c.min.result (c.args.from - first) end start_is in
    let rest : deque_iter_rest c.range.result ≡ slice_range xs c.min.result c.count_upto-end.result = search rules in
    rest
    ∙ (sym (between-numbered c.min.result end first c.args.from (c.args.last + 1) xs s.1 e.0 (λ l. omega (arith, e.2 l)) s.0 (λ l. omega (arith, s.2 l)))
    ∙ ap (between c.args.from (c.args.last + 1)) c.self.view_is)
