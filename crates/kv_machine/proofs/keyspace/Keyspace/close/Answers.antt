use Rattle.std.proofs.Common.{◌≡◌, ◌+◌, false, [], ◌∷◌, ◌++◌, List, ℕ, length, sym, ap, ◌∙◌}
use Rattle.std.specs.Prelude.{◌==◌}
use Rattle.kv_machine.specs.declared.touch.Touch.{Touch}
use Rattle.kv_machine.specs.Store.{Store, closed, current}
use Rattle.kv_machine.proofs.Histories.{closed-kept, closed-store, current-store_of}
use Rattle.kv_machine.proofs.keyspace.Keyspace.close.Goals as goal

pub invariant_of-self-2 : goal.invariant_of-self-2
invariant_of-self-2 c =
    let a = c.self.inside in
    let pushed : c.from_vec.result ≡ a.pending.items = c.from_vec.ensures ∙ ap (λ v. v.items) c.replace-closed.ensures.value in
    closed-kept a.table a.compacted a.revisions.items c.push_back_reserved.new.self.items a.pending.items c.replace-closed.new.dest.items a.current c.in_ok-next.next c.self.invariant
    (c.push_back_reserved.ensures.items ∙ ap (λ (rs : List (List Touch)). rs ++ c.from_vec.result ∷ []) c.reserve.ensures.items ∙ ap (λ (ts : List Touch). a.revisions.items ++ ts ∷ []) pushed)
    (ap (λ v. v.items) c.replace-closed.ensures.after ∙ c.new.ensures.items)
    (c.in_ok-next.ensures ∙ ap (λ (s : Store). current s + 1) (sym c.self.view_is) ∙ ap (λ (k : ℕ). k + 1) (sym (current-store_of a.table a.compacted a.revisions.items a.pending.items a.current c.self.invariant)))

pub returns : goal.returns
returns c =
    let a = c.self.inside in
    let pushed : c.from_vec.result ≡ a.pending.items = c.from_vec.ensures ∙ ap (λ v. v.items) c.replace-closed.ensures.value in
    let some : (length a.pending.items == 0) ≡ false = ap (λ (ts : List Touch). length ts == 0) (sym c.as_slice.ensures.value) ∙ sym c.is_empty.ensures ∙ c.if-is_empty.false in
    closed-store a.table a.compacted a.revisions.items c.push_back_reserved.new.self.items a.pending.items c.replace-closed.new.dest.items some
    (c.push_back_reserved.ensures.items ∙ ap (λ (rs : List (List Touch)). rs ++ c.from_vec.result ∷ []) c.reserve.ensures.items ∙ ap (λ (ts : List Touch). a.revisions.items ++ ts ∷ []) pushed)
    (ap (λ v. v.items) c.replace-closed.ensures.after ∙ c.new.ensures.items)
    ∙ ap closed c.self.view_is
