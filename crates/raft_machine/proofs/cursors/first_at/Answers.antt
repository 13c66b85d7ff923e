use Rattle.std.proofs.Common.{◌≡◌, ℕ, ◌-◌, subst, arith}
use Rattle.raft_machine.proofs.Digits.{Writes, writes_more, writes_done, writes_end, writes_divides, writes_byte}
use Rattle.raft_machine.proofs.cursors.first_at.Goals as goal

pub returns-then-left-eq0 : goal.returns-then-left-eq0
returns-then-left-eq0 c = writes_done (8 - c.loop.counter) c.args.cursor c.loop.left c.loop.worth c.loop.key.items c.loop.invariant c.if-left-eq0.true

pub nonzero_div-left : goal.nonzero_div-left
nonzero_div-left c = writes_divides c.loop.counter c.args.cursor c.loop.left c.loop.worth c.loop.key.items (omega arith) c.loop.invariant

pub overflow_cast-left : goal.overflow_cast-left
overflow_cast-left c = let byte = writes_byte c.loop.counter c.args.cursor c.loop.left c.loop.worth c.loop.key.items (omega arith) c.loop.invariant in omega arith

pub nonzero_rem-left : goal.nonzero_rem-left
nonzero_rem-left c = writes_divides c.loop.counter c.args.cursor c.loop.left c.loop.worth c.loop.key.items (omega arith) c.loop.invariant

pub loop-preserved : goal.loop-preserved
loop-preserved c = writes_more c.loop.counter c.args.cursor c.loop.left c.loop.worth c.loop.key.items c.push.new.self.items (omega arith) c.loop.invariant c.if-left-eq0.false c.in_ok-push.ensures.items

pub returns : goal.returns
returns c =
    let none : 8 - c.loop.counter ≡ 0 = omega arith in
    writes_end c.args.cursor c.loop.left c.loop.worth c.loop.key.items (subst (λ (n : ℕ). Writes n c.args.cursor c.loop.left c.loop.worth c.loop.key.items) none c.loop.invariant)
