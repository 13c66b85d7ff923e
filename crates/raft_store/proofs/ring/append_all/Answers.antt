use Rattle.std.proofs.Common.{rules, ◌≡◌, ◌-◌, ◌++◌, ◌∙◌, ap, arith, length, List, Some}
use Rattle.std.specs.Prelude.{refl, slice_get}
use Rattle.raft_store.specs.declared.entry.Entry.{Entry}
use Rattle.raft_store.proofs.Numbered.{appended}
use Rattle.raft_store.proofs.ring.append_all.Goals as goal

pub first_of-requires : goal.first_of-requires
first_of-requires c =
    let xs : List Entry = c.args.items.now.items in
    let es : List Entry = c.args.entries.items in
    let grown : c.append.new.self.items ≡ xs ++ es = search rules in
    let counted : c.len.result ≡ length c.append.new.self.items = search rules in
    let count : c.len.result ≡ length (xs ++ es) = counted ∙ ap length grown in
    let last : slice_get es (length es - 1) ≡ Some c.in-Some.last.now = search rules in
    let p = appended c.args.first (c.in-Some.last.now.log_id.index - (length (xs ++ es) - 1)) xs es c.in-Some.last.now c.requires.next last refl in
    (omega (arith, count, p.1), omega (arith, count, p.1))

pub returns-clause-ok : goal.returns-clause-ok
returns-clause-ok c =
    let xs : List Entry = c.args.items.now.items in
    let es : List Entry = c.args.entries.items in
    let grown : c.append.new.self.items ≡ xs ++ es = search rules in
    let counted : c.len.result ≡ length c.append.new.self.items = search rules in
    let count : c.len.result ≡ length (xs ++ es) = counted ∙ ap length grown in
    let last : slice_get es (length es - 1) ≡ Some c.in-Some.last.now = search rules in
    let p = appended c.args.first (c.in-Some.last.now.log_id.index - (length (xs ++ es) - 1)) xs es c.in-Some.last.now c.requires.next last refl in
    let n : c.first_of.result ≡ c.in-Some.last.now.log_id.index - (length (xs ++ es) - 1) = omega (arith, c.first_of.ensures.index, count, p.1) in
    rw grown (appended c.args.first c.first_of.result xs es c.in-Some.last.now c.requires.next last n).0
