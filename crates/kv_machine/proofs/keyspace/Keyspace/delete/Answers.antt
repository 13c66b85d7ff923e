use Rattle.std.proofs.Common.{◌≡◌, true, false, [], ◌∷◌, ◌++◌, List, Option, Some, None, sym, ap, ◌∙◌}
use Rattle.std.specs.Prelude.{is_some}
use Rattle.std.specs.FinMap.{get, remove}
use Rattle.kv_machine.specs.declared.key_value.Event.TheVariants.{Delete}
use Rattle.kv_machine.specs.declared.key_value.Stored.{Stored}
use Rattle.kv_machine.specs.declared.touch.Touch.{Touch}
use Rattle.kv_machine.specs.Store.{Key, Map, Store, keys, with}
use Rattle.kv_machine.proofs.Histories.{keys-store_of, same-kept, same-store, touch-kept, touch-store, remove-none, chosen-true, chosen-false}
use Rattle.kv_machine.proofs.keyspace.Keyspace.delete.Goals as goal

pub invariant_of-self-in-Some-1 : goal.invariant_of-self-in-Some-1
invariant_of-self-in-Some-1 c =
    let a = c.self.inside in
    let t : Touch = record { key = c.args.key; before = Some c.in-Some.before; after = None } in
    let name : c.in_ok-name.name ≡ c.args.key = c.in_ok-name.ensures ∙ c.as_slice.ensures in
    touch-kept a.table c.remove.new.self a.compacted a.revisions.items a.pending.items c.push_reserved.new.self.items a.current t c.self.invariant
    (c.remove.ensures.removed ∙ ap (λ (k : Key). remove a.table k) name)
    (ap (λ (k : Key). get a.table k) (sym name) ∙ sym c.remove.ensures.stored ∙ c.in-Some.is)
    (c.push_reserved.ensures.items ∙ ap (λ (ts : List Touch). ts ++ t ∷ []) c.reserve.ensures.items)

pub invariant_of-self-in-None-1 : goal.invariant_of-self-in-None-1
invariant_of-self-in-None-1 c =
    let a = c.self.inside in
    same-kept a.table c.remove.new.self a.compacted a.revisions.items a.pending.items c.reserve.new.self.items a.current c.self.invariant
    (c.remove.ensures.removed ∙ remove-none a.table c.in_ok-name.name (sym c.remove.ensures.stored ∙ c.in_default.is))
    c.reserve.ensures.items

pub returns-in-Some : goal.returns-in-Some
returns-in-Some c =
    let a = c.self.inside in
    let t : Touch = record { key = c.args.key; before = Some c.in-Some.before; after = None } in
    let name : c.in_ok-name.name ≡ c.args.key = c.in_ok-name.ensures ∙ c.as_slice.ensures in
    let there : get a.table c.args.key ≡ Some c.in-Some.before = ap (λ (k : Key). get a.table k) (sym name) ∙ sym c.remove.ensures.stored ∙ c.in-Some.is in
    let all : keys c.args.self.now ≡ a.table = ap keys (sym c.self.view_is) ∙ keys-store_of a.table a.compacted a.revisions.items a.pending.items a.current c.self.invariant in
    chosen-true _ _ _ _ (ap (λ (m : Map). is_some (get m c.args.key)) all ∙ ap (λ (o : Option Stored). is_some o) there)
    (touch-store a.table c.remove.new.self a.compacted a.revisions.items a.pending.items c.push_reserved.new.self.items a.current t c.self.invariant
    (c.remove.ensures.removed ∙ ap (λ (k : Key). remove a.table k) name)
    there
    (c.push_reserved.ensures.items ∙ ap (λ (ts : List Touch). ts ++ t ∷ []) c.reserve.ensures.items)
    ∙ ap (λ (s : Store). with s (Delete c.args.key ∷ [])) c.self.view_is)

pub returns-in_default : goal.returns-in_default
returns-in_default c =
    let a = c.self.inside in
    let name : c.in_ok-name.name ≡ c.args.key = c.in_ok-name.ensures ∙ c.as_slice.ensures in
    let none : get a.table c.in_ok-name.name ≡ None = sym c.remove.ensures.stored ∙ c.in_default.is in
    let all : keys c.args.self.now ≡ a.table = ap keys (sym c.self.view_is) ∙ keys-store_of a.table a.compacted a.revisions.items a.pending.items a.current c.self.invariant in
    chosen-false _ _ _ _ (ap (λ (m : Map). is_some (get m c.args.key)) all ∙ ap (λ (k : Key). is_some (get a.table k)) (sym name) ∙ ap (λ (o : Option Stored). is_some o) none)
    (same-store a.table c.remove.new.self a.compacted a.revisions.items a.pending.items c.reserve.new.self.items
    (c.remove.ensures.removed ∙ remove-none a.table c.in_ok-name.name none) c.reserve.ensures.items
    ∙ c.self.view_is)
