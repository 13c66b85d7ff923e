use Rattle.std.proofs.Common.{◌≡◌, ◌+◌, ◌-◌, ◌<◌, [], ◌∷◌, ◌++◌, List, length, take, rules, sym, ap, subst, ◌∙◌, arith}
use Rattle.std.specs.Prelude.{map}
use Rattle.std.proofs.lemmas.List.{length-append}
use Rattle.kv_machine.specs.declared.key_value.KeyValue.{KeyValue}
use Rattle.kv_machine.specs.Ranges.{key_value}
use Rattle.kv_machine.proofs.Pages.{copied_more}
use Rattle.kv_machine.proofs.ranges.copy_first.Goals as goal

pub loop-key-preserved : goal.loop-key-preserved
loop-key-preserved c =
    let kvs = c.loop-key.kvs.items in
    let kv = c.in_ok-key_value.field-0 in
    let n = c.args.most + 1 in
    let rest = c.next.new.self in
    let step : c.loop-key.key-iterator ≡ (c.in-Some.key.now, c.in-Some.shared.now) ∷ rest = search rules in
    let copied : kv ≡ key_value (c.in-Some.key.now, c.in-Some.shared.now) =
    c.in_ok-key_value.ensures ∙ ap (λ k. key_value (k, c.get.result.now)) c.as_slice.ensures ∙ ap (λ s. key_value (c.in-Some.key.now, s)) c.get.ensures in
    let pushed : c.push.new.self.items ≡ kvs ++ kv ∷ [] = c.in_ok-push.ensures.items in
    let few : length kvs < n = omega (arith, c.loop-key.kvs.ok.0, c.len.ensures) in
    record {
      copied = subst (λ (xs : List KeyValue). xs ++ take (n - length xs) (map key_value rest) ≡ take n (map key_value c.args.span)) (sym pushed)
          (copied_more kvs (map key_value rest) kv n _ few
          (subst (λ (ys : List KeyValue). kvs ++ take (n - length kvs) ys ≡ take n (map key_value c.args.span))
          (ap (λ es. map key_value es) step ∙ ap (λ x. x ∷ map key_value rest) (sym copied)) c.loop-key.invariant.copied));
      few = omega (arith, ap length pushed, length-append kvs (kv ∷ []));
    }
