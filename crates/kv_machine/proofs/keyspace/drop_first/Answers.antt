use Rattle.std.proofs.Common.{◌≡◌, ◌-◌, List, drop, sym, ap, ◌∙◌, arith}
use Rattle.kv_machine.specs.declared.touch.Touch.{Touch}
use Rattle.kv_machine.proofs.Histories.{drop_step}
use Rattle.kv_machine.proofs.keyspace.drop_first.Goals as goal

pub loop-left-preserved : goal.loop-left-preserved
loop-left-preserved c =
    ap (λ (rs : List (List Touch)). drop (c.loop-left.left - 1) rs) c.pop_front.ensures.rest ∙ drop_step c.loop-left.left c.loop-left.revisions.items (omega arith) ∙ c.loop-left.invariant

pub returns : goal.returns
returns c =
    let none : c.loop-left.left ≡ 0 = omega arith in
    ap (λ n. drop n c.loop-left.revisions.items) (sym none) ∙ c.loop-left.invariant
