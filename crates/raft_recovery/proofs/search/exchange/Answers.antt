use Rattle.std.proofs.Common.{length, ap}
use Rattle.std.proofs.lemmas.Result.{on_ok_weaker}
use Rattle.raft_recovery.proofs.Plays.{exchanges_both}
use Rattle.raft_recovery.proofs.search.exchange.Goals as goal

pub returns : goal.returns
returns c =
    on_ok_weaker c.play-2.result
    (exchanges_both c.args.now c.args.world.now c.play.new.world c.play-2.new.world c.args.number (length c.messages.result.now)
    c.in_ok-play.ensures (ap length c.messages.ensures))
    c.play-2.ensures
