use Rattle.std.proofs.Common.{◌≡◌, ◌-◌, ◌≤◌, false, List, ℕ, Some, drop, sym, ap, subst, ◌∙◌, arith}
use Rattle.kv_machine.specs.declared.touch.Touch.{Touch}
use Rattle.kv_machine.specs.Checks.{is_done}
use Rattle.kv_machine.specs.History.{store_of, IsKept}
use Rattle.kv_machine.specs.Store.{Store, base_revision, compact, current}
use Rattle.kv_machine.proofs.Histories.{kept-compact, store-compact, current-store_of}
use Rattle.kv_machine.proofs.keyspace.Keyspace.compact.Goals as goal

pub invariant_of-self : goal.invariant_of-self
invariant_of-self c =
    let a = c.self.inside in
    let r = c.args.revision in
    let left : c.drop_first.new.revisions.items ≡ drop (r - base_revision a.compacted) a.revisions.items =
    c.drop_first.ensures ∙ ap (λ n. drop n a.revisions.items) (c.saturating_sub-count.ensures ∙ ap (λ b. r - b) c.base_revision.ensures) in
    let last : a.current ≡ current c.args.self.now =
    current-store_of a.table a.compacted a.revisions.items a.pending.items a.current c.self.invariant ∙ ap current c.self.view_is in
    let known = c.requires.known in
    let upto : r ≤ a.current = omega arith in
    subst (λ (rs : List (List Touch)). IsKept a.table (Some r) rs a.pending.items a.current) (sym left)
    (kept-compact a.table a.compacted a.revisions.items a.pending.items a.current r c.self.invariant (ap (λ (s : Store). is_done s.compacted r) c.self.view_is ∙ c.requires.new) upto)

pub returns : goal.returns
returns c =
    let a = c.self.inside in
    let r = c.args.revision in
    ap (λ (rs : List (List Touch)). store_of a.table (Some r) rs a.pending.items)
    (c.drop_first.ensures ∙ ap (λ n. drop n a.revisions.items) (c.saturating_sub-count.ensures ∙ ap (λ b. r - b) c.base_revision.ensures))
    ∙ store-compact a.table a.compacted a.revisions.items a.pending.items a.current r c.self.invariant
    ∙ ap (λ (s : Store). compact s r) c.self.view_is
