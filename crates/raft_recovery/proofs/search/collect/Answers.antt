use Rattle.std.proofs.Common.{◌+◌, ◌∙◌, drop, get_or, refl, sym}
use Rattle.raft_recovery.proofs.Plays.{collect_led, collect_more, collect_stuck, collecting, ended, goes_along, stops_along}
use Rattle.raft_recovery.proofs.search.collect.Goals as goal

pub loop-voter-preserved : goal.loop-voter-preserved
loop-voter-preserved c =
    let b = c.args.ballot.now in
    let i = c.loop-voter.voter-index in
    goes_along c.loop-voter.world c.exchange.new.world c.args.world.now (collecting c.args.now b.id b.vote b.last) c.args.voters.now i
    c.loop-voter-test.true
    (collect_more c.args.now b.id b.vote b.last c.loop-voter.world c.exchange.new.world (get_or c.args.voters.now i 0)
    (drop (i + 1) c.args.voters.now) c.in-Some.number (sym c.is_leading.ensures ∙ c.if-is_leading.false) (sym c.in-Some.ensures)
    c.in_ok-exchange.ensures)
    c.loop-voter.invariant

pub returns-then-is_leading : goal.returns-then-is_leading
returns-then-is_leading c =
    let b = c.args.ballot.now in
    let i = c.loop-voter.voter-index in
    stops_along c.loop-voter.world c.args.world.now (collecting c.args.now b.id b.vote b.last) c.args.voters.now i c.loop-voter-test.true
    (collect_led c.args.now b.id b.vote b.last c.loop-voter.world (get_or c.args.voters.now i 0) (drop (i + 1) c.args.voters.now)
    (sym c.is_leading.ensures ∙ c.if-is_leading.true))
    c.loop-voter.invariant

pub returns-in_default : goal.returns-in_default
returns-in_default c =
    let b = c.args.ballot.now in
    let i = c.loop-voter.voter-index in
    stops_along c.loop-voter.world c.args.world.now (collecting c.args.now b.id b.vote b.last) c.args.voters.now i c.loop-voter-test.true
    (collect_stuck c.args.now b.id b.vote b.last c.loop-voter.world (get_or c.args.voters.now i 0) (drop (i + 1) c.args.voters.now)
    (sym c.is_leading.ensures ∙ c.if-is_leading.false) (sym c.in_default.ensures))
    c.loop-voter.invariant

pub returns : goal.returns
returns c =
    let b = c.args.ballot.now in
    ended c.loop-voter.world c.args.world.now (collecting c.args.now b.id b.vote b.last) c.args.voters.now c.loop-voter.voter-index (λ _ _. refl)
    c.loop-voter-test.false c.loop-voter.invariant
