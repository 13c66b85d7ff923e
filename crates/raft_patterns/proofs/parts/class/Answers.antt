use Rattle.std.proofs.Common.{◌≡◌, ◌∷◌, length, ap, arith}
use Rattle.raft_patterns.proofs.Classes.{class_step, stays_true, becomes}
use Rattle.raft_patterns.proofs.parts.class.Goals as goal

pub loop-first-preserved-then-has : goal.loop-first-preserved-then-has
loop-first-preserved-then-has c =
    let front : c.loop-first.rest.now ≡ c.in-Some.first.now ∷ c.in-Some.after.now = grind arith in
    let r = c.item-one.result in
    record {
      so_far = class_step c.args.byte c.loop-first.has _ _ _ _ ((r.0, r.1), r.2.now) c.loop-first.has c.loop-first.invariant.so_far front c.if-first-eq93.false c.item-one.ensures.item (stays_true _ _ c.if-has.true);
      shorter = omega (arith, ap length front, c.item-one.ensures.shorter, c.loop-first.invariant.shorter);
    }

pub loop-first-preserved : goal.loop-first-preserved
loop-first-preserved c =
    let front : c.loop-first.rest.now ≡ c.in-Some.first.now ∷ c.in-Some.after.now = grind arith in
    let r = c.item-one.result in
    record {
      so_far = class_step c.args.byte c.loop-first.has _ _ _ _ ((r.0, r.1), r.2.now) c.is_between-has.result c.loop-first.invariant.so_far front c.if-first-eq93.false c.item-one.ensures.item (becomes _ _ _ c.if-has.false c.is_between-has.ensures);
      shorter = omega (arith, ap length front, c.item-one.ensures.shorter, c.loop-first.invariant.shorter);
    }
