use Rattle.std.proofs.Common.{rules, ◌≡◌, ◌+◌, ◌-◌, ◌∙◌, ap, drop, length, sym, List, []}
use Rattle.std.specs.Prelude.{min}
use Rattle.std.proofs.lemmas.List.{nil_from_length}
use Rattle.raft_store.specs.declared.entry.Entry.{Entry}
use Rattle.raft_store.specs.Ring.{numbered}
use Rattle.raft_store.proofs.Numbered.{purged}
use Rattle.raft_store.proofs.ring.drop_upto.Goals as goal

pub returns-then-is_empty-clause-past : goal.returns-then-is_empty-clause-past
returns-then-is_empty-clause-past c =
    let xs : List Entry = c.args.items.now.items in
    let is : c.count_upto-count.result ≡ min (c.args.upto + 1 - c.args.first) (length xs) = search rules in
    let left : c.drop_first.new.items.items ≡ drop c.count_upto-count.result xs = search rules in
    let count : length c.drop_first.new.items.items ≡ 0 = search rules in
    let none : c.drop_first.new.items.items ≡ [] = nil_from_length c.drop_first.new.items.items count in
    let p = purged c.count_upto-count.result c.args.first c.args.upto xs is in
    ap (numbered c.args.first) none ∙ (ap (numbered (c.args.first + c.count_upto-count.result)) (sym none ∙ left) ∙ sym p)

pub returns-clause-past : goal.returns-clause-past
returns-clause-past c =
    let xs : List Entry = c.args.items.now.items in
    let is : c.count_upto-count.result ≡ min (c.args.upto + 1 - c.args.first) (length xs) = search rules in
    let left : c.drop_first.new.items.items ≡ drop c.count_upto-count.result xs = search rules in
    ap (numbered (c.args.first + c.count_upto-count.result)) left ∙ sym (purged c.count_upto-count.result c.args.first c.args.upto xs is)
