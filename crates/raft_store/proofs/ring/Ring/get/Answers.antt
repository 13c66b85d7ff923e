use Rattle.std.proofs.Common.{rules, false, true, ℕ, ◌≡◌, ◌<◌, ◌-◌, ◌∙◌, ⊎_elim, ap, arith, deque_len, length, refl, sym, Bor, List, Option, None, Some}
use Rattle.std.specs.Prelude.{IfSome, IsSome, slice_get, slice_index_or, ◌↔◌}
use Rattle.std.specs.BTreeMap.{is_at}
use Rattle.std.specs.Map.{lookup}
use Rattle.std.specs.Option.{option_copied}
use Rattle.std.specs.Ordering.{nat_cmp}
use Rattle.std.proofs.lemmas.Bool.{cases_lt}
use Rattle.std.proofs.lemmas.Option.{slice_get_past, slice_get_read}
use Rattle.raft_store.specs.declared.entry.Entry.{Entry}
use Rattle.raft_store.proofs.Numbered.{at-numbered, none-numbered}
use Rattle.raft_store.proofs.ring.Ring.get.Goals as goal

-- what is lent at a place
lent : (xs : List Entry) (n k : ℕ) (r : Option (Bor Entry)) → n ≡ length xs → IsSome r ↔ (k < n) → IfSome r (λ x. x.now ≡ slice_index_or xs k x.now) → option_copied r ≡ slice_get xs k
lent xs n k None len there is =
    ⊎_elim (λ within. let no : false ≡ true = there.1 (omega (arith, len, within)) in cc) (λ past. sym (slice_get_past xs k past)) (cases_lt k (length xs))
lent xs n k (Some x) len there is =
    let within : k < n = there.0 refl in
    sym (slice_get_read xs (length xs) k x.now refl (omega (arith, len, within)) is)

pub returns-then-index-self : goal.returns-then-index-self
returns-then-index-self c =
    sym (none-numbered c.args.index c.self.inside.first c.self.inside.items.items c.if-index-self.true) ∙ ap (lookup (is_at (nat_cmp c.args.index))) c.self.view_is

pub returns : goal.returns
returns c =
    let len : deque_len c.self.inside.items ≡ length c.self.inside.items.items = search rules in
    lent c.self.inside.items.items (deque_len c.self.inside.items) (c.args.index - c.self.inside.first) c.get.result len c.get.ensures.variant c.get.ensures.lookup
    ∙ (sym (at-numbered (c.args.index - c.self.inside.first) c.self.inside.first c.args.index c.self.inside.items.items (omega (arith, c.if-index-self.false)))
    ∙ ap (lookup (is_at (nat_cmp c.args.index))) c.self.view_is)
