use Rattle.std.proofs.Common.{ℕ, ◌≡◌, ◌+◌, ◌-◌, ◌*◌, ◌∙◌, arith, ap, sym, Option}
use Rattle.raft_state.specs.declared.ids.LogId.{LogId}
use Rattle.raft_state.specs.Order.{next}
use Rattle.raft_recovery.proofs.Played.{after}
use Rattle.raft_recovery.proofs.Plays.{exchange_more, exchanging, exchanged_none}
use Rattle.raft_recovery.proofs.search.exchange_log.Goals as goal

pub returns-in_default : goal.returns-in_default
returns-in_default c =
    exchanged_none c.args.now c.args.id c.args.other c.args.world.now (2 * next c.args.last.now)
    (ap (λ (x : Option (LogId ℕ)). 2 * next x) c.in_default.is)

pub loop-index-preserved : goal.loop-index-preserved
loop-index-preserved c =
    let i = c.loop-index._index in
    let two : 2 * (c.in-Some.end.index - i) ≡ 2 + 2 * (c.in-Some.end.index - (i + 1)) = omega arith in
    exchange_more c.args.now c.args.id c.args.other c.loop-index.world c.exchange_twice-in-loop-index.new.world 2
    (2 * (c.in-Some.end.index - (i + 1))) (2 * (c.in-Some.end.index - i)) c.in_ok-exchange_twice-2.ensures two
    ∙ c.loop-index.invariant

pub returns : goal.returns
returns c =
    let end = c.in-Some.end.index in
    let none : 2 * (end - c.loop-index._index) ≡ 0 = omega arith in
    let all : 2 * (end + 1) ≡ 2 + 2 * end = omega arith in
    let len : 2 * (end + 1) ≡ 2 * next c.args.last.now = ap (λ (x : Option (LogId ℕ)). 2 * next x) (sym c.in-Some.is) in
    exchanged_none c.args.now c.args.id c.args.other c.loop-index.world (2 * (end - c.loop-index._index)) none
    ∙ (c.loop-index.invariant
    ∙ (exchange_more c.args.now c.args.id c.args.other c.args.world.now c.exchange_twice.new.world 2 (2 * end) (2 * (end + 1))
    c.in_ok-exchange_twice.ensures all
    ∙ ap (λ k. after (exchanging c.args.now c.args.id c.args.other k) c.args.world.now) len))
