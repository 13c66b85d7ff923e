use Rattle.std.proofs.Common.{rules, ◌≡◌, ◌∙◌, ◌∷◌, ◌++◌, List, [], true, ap, map, append_assoc, sym}
use Rattle.std.specs.Borrow.{Bor}
use Rattle.std.specs.Prelude.{ℕ}
use Rattle.std.specs.Map.{values_of}
use Rattle.std.specs.Map.Iter.{deref_pair}
use Rattle.std.specs.BTreeMap.Range.{entries_between}
use Rattle.std.specs.declared.ops.Bound.TheVariants.{Excluded, Included}
use Rattle.std.specs.Ordering.{nat_cmp}
use Rattle.std.proofs.lemmas.List.{append-nil, map-append}
use Rattle.std.proofs.lemmas.Map.Iter.{iter_end}
use Rattle.raft_store.specs.declared.entry.Entry.{Entry}
use Rattle.raft_store.specs.Entries.{same_entry}
use Rattle.raft_store.proofs.SameEntries.{entry-is}
use Rattle.raft_packed.proofs.Ranges.{none_left, range-upto, shown_values}
use Rattle.raft_packed.proofs.log.are_upto.Goals as goal

-- the values of what is shown
abbrev shown : List (Bor ℕ × Bor Entry) → List Entry
shown xs = map (λ p. p.1.now) xs

-- one more is the same
next_same : (xs : List (Bor ℕ × Bor Entry)) (x : Bor ℕ × Bor Entry) (first : Entry) (es left others : List Entry)
    → es ≡ shown xs ++ left → left ≡ first ∷ others → same_entry x.1.now first ≡ true
    → es ≡ shown (xs ++ x ∷ []) ++ others
next_same xs x first es left others all is same =
    all
    ∙ (ap (λ ys. shown xs ++ ys) (is ∙ ap (λ y. y ∷ others) (sym (entry-is x.1.now first same)))
    ∙ (sym (append_assoc (shown xs) (x.1.now ∷ []) others)
    ∙ ap (λ ys. ys ++ others) (sym (map-append (λ (p : Bor ℕ × Bor Entry). p.1.now) xs (x ∷ [])))))

pub loop-entry-preserved : goal.loop-entry-preserved
loop-entry-preserved c =
    next_same c.loop-entry.yielded (c.in-Some.field-0-0, c.in-Some.entry) c.in-Some-split_first.first.now c.args.entries.now c.loop-entry.left.now
    c.in-Some-split_first.others.now c.loop-entry.invariant c.in-Some-split_first.ensures.cases.0 (sym c.is_same.ensures ∙ c.if-not-is_same.false)

pub returns : goal.returns
returns c = λ t.
    let e : map deref_pair c.loop-entry.yielded ≡ entries_between nat_cmp (Included c.args.from) (Excluded c.args.end) c.args.log.now.entries =
    search (rules, iter_end) in
    let none : c.loop-entry.left.now ≡ [] = none_left c.loop-entry.left.now (sym c.is_empty.ensures ∙ t) in
    c.loop-entry.invariant
    ∙ (ap (λ ys. shown c.loop-entry.yielded ++ ys) none
    ∙ (append-nil (shown c.loop-entry.yielded)
    ∙ (shown_values c.loop-entry.yielded ∙ (ap values_of e ∙ range-upto c.args.from c.args.end c.args.log.now.entries))))
