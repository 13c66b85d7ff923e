use Rattle.std.proofs.Common.{◌≡◌, [], ◌∷◌, ◌++◌, List, Some, sym, ap, ◌∙◌}
use Rattle.std.specs.FinMap.{get, insert}
use Rattle.kv_machine.specs.declared.key_value.Event.TheVariants.{Put}
use Rattle.kv_machine.specs.declared.key_value.Stored.{Stored}
use Rattle.kv_machine.specs.declared.touch.Touch.{Touch}
use Rattle.kv_machine.specs.Store.{Key, Map, Store, with}
use Rattle.kv_machine.proofs.Histories.{touch-kept, touch-store}
use Rattle.kv_machine.proofs.keyspace.Keyspace.put.Goals as goal

pub invariant_of-self-2 : goal.invariant_of-self-2
invariant_of-self-2 c =
    let a = c.self.inside in
    let t : Touch = record { key = c.args.key; before = c.in_ok-before.before; after = Some c.in_ok-share.field-0 } in
    let name : c.in_ok-name.name ≡ c.args.key = c.in_ok-name.ensures ∙ c.as_slice.ensures in
    touch-kept a.table c.insert.new.self a.compacted a.revisions.items a.pending.items c.push_reserved.new.self.items a.current t c.self.invariant
    (c.in_ok-before.ensures.ok ∙ ap (λ (k : Key). insert a.table k c.in_ok-stored.stored) name ∙ ap (λ (s : Stored). insert a.table c.args.key s) (sym c.in_ok-share.ensures))
    (sym (c.in_ok-before.ensures.old ∙ ap (λ (k : Key). get a.table k) name))
    (c.push_reserved.ensures.items ∙ ap (λ (ts : List Touch). ts ++ t ∷ []) c.reserve.ensures.items)

pub returns : goal.returns
returns c =
    let a = c.self.inside in
    let t : Touch = record { key = c.args.key; before = c.in_ok-before.before; after = Some c.in_ok-share.field-0 } in
    let name : c.in_ok-name.name ≡ c.args.key = c.in_ok-name.ensures ∙ c.as_slice.ensures in
    touch-store a.table c.insert.new.self a.compacted a.revisions.items a.pending.items c.push_reserved.new.self.items a.current t c.self.invariant
    (c.in_ok-before.ensures.ok ∙ ap (λ (k : Key). insert a.table k c.in_ok-stored.stored) name ∙ ap (λ (s : Stored). insert a.table c.args.key s) (sym c.in_ok-share.ensures))
    (sym (c.in_ok-before.ensures.old ∙ ap (λ (k : Key). get a.table k) name))
    (c.push_reserved.ensures.items ∙ ap (λ (ts : List Touch). ts ++ t ∷ []) c.reserve.ensures.items)
    ∙ ap (λ (s : Store). with s (Put c.args.key c.in_ok-share.field-0 ∷ [])) c.self.view_is
    ∙ ap (λ (s : Stored). with c.args.self.now (Put c.args.key s ∷ [])) (c.in_ok-share.ensures ∙ c.in_ok-stored.ensures)
