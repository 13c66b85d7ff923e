use Rattle.std.proofs.Common.{rules, ◌≡◌, ◌-◌, ◌∙◌, ◌≤◌, ◌<◌, ap, arith, length, sym, List}
use Rattle.std.specs.Prelude.{min, slice_range}
use Rattle.std.specs.VecDeque.Iter.{deque_iter_rest}
use Rattle.raft_store.specs.declared.entry.Entry.{Entry}
use Rattle.raft_store.specs.Store.{past}
use Rattle.raft_store.proofs.Numbered.{dropped, from-numbered, min_parts}
use Rattle.raft_store.proofs.ring.Ring.values_from.Goals as goal

pub returns : goal.returns
returns c =
    let xs : List Entry = c.self.inside.items.items in
    let is : c.min.result ≡ min (c.args.from - c.self.inside.first) (length xs) = search rules in
    let parts : (c.min.result ≤ c.args.from - c.self.inside.first) × (c.min.result ≤ length xs) × (c.min.result < length xs → c.args.from - c.self.inside.first ≤ c.min.result) =
    min_parts c.min.result (c.args.from - c.self.inside.first) (length xs) is in
    let rest : deque_iter_rest c.range.result ≡ slice_range xs c.min.result (length xs) = search rules in
    rest ∙ (dropped c.min.result xs
    ∙ (sym (from-numbered c.min.result c.self.inside.first c.args.from xs parts.0 (λ l. omega (arith, parts.2 l))) ∙ ap (past c.args.from) c.self.view_is))
