use Rattle.std.proofs.lemmas.Result.{on_ok_weaker}
use Rattle.raft_recovery.proofs.Plays.{brings}
use Rattle.raft_recovery.proofs.search.bring.Goals as goal

pub returns : goal.returns
returns c =
    on_ok_weaker c.exchange_log.result
    (brings c.args.now c.args.id c.args.other c.args.world.now c.play.new.world c.exchange_log.new.world c.last_id-last.result c.last_id-last.ensures
    c.in_ok-play.ensures)
    c.exchange_log.ensures
