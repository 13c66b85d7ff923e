use Rattle.std.proofs.Common.{◌≡◌, ◌∙◌, ◌+◌, List, [], ap, arith, filter, length, nat_lt, refl, sym}
use Rattle.std.proofs.lemmas.List.{nil_from_length}
use Rattle.raft_packed.proofs.log.drop_upto.Goals as goal

pub loop-init : goal.loop-init
loop-init c = record { kept = refl; left = omega arith }

pub loop-preserved : goal.loop-preserved
loop-preserved c =
    let one : length c.drop_first_upto.new.log.entries + 1 ≡ length c.loop.log.entries =
    c.drop_first_upto.ensures.some c.if-not-drop_first_upto.false in
    record { kept = c.drop_first_upto.ensures.kept ∙ c.loop.invariant.kept; left = omega (arith, one, c.loop.invariant.left) }

pub returns : goal.returns
returns c =
    let all : length c.args.log.now.entries ≡ c.len-end.result = sym c.len-end.ensures.len in
    let none : c.loop.log.entries ≡ [] = nil_from_length c.loop.log.entries (omega (arith, all, c.loop-test.false, c.loop.invariant.left)) in
    none ∙ (sym (ap (filter (λ p. nat_lt c.args.upto p.0)) none) ∙ c.loop.invariant.kept)
