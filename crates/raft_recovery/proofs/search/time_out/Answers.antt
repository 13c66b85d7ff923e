use Rattle.std.proofs.Common.{◌≡◌, ◌+◌, ◌-◌, ◌∙◌, suc, arith}
use Rattle.raft_recovery.proofs.Plays.{times_more, times_none}
use Rattle.raft_recovery.proofs.search.time_out.Goals as goal

pub returns-then-last-first : goal.returns-then-last-first
returns-then-last-first c =
    let none : c.args.last + 1 - c.args.first ≡ 0 = omega arith in
    times_none c.args.now c.args.id c.args.world.now (c.args.last + 1 - c.args.first) none

pub loop-term-preserved : goal.loop-term-preserved
loop-term-preserved c =
    let one : c.args.last - c.loop-term._term ≡ suc (c.args.last - (c.loop-term._term + 1)) = omega arith in
    times_more c.args.now c.args.id c.loop-term.world c.play-in-loop-term.new.world (c.args.last - (c.loop-term._term + 1))
    (c.args.last - c.loop-term._term) c.in_ok-play-2.ensures one
    ∙ c.loop-term.invariant

pub returns : goal.returns
returns c =
    let none : c.args.last - c.loop-term._term ≡ 0 = omega arith in
    let one : c.args.last + 1 - c.args.first ≡ suc (c.args.last - c.args.first) = omega arith in
    times_none c.args.now c.args.id c.loop-term.world (c.args.last - c.loop-term._term) none
    ∙ (c.loop-term.invariant
    ∙ times_more c.args.now c.args.id c.args.world.now c.play.new.world (c.args.last - c.args.first) (c.args.last + 1 - c.args.first)
    c.in_ok-play.ensures one)
