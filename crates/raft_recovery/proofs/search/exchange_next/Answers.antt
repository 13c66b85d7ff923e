use Rattle.std.proofs.Common.{◌∙◌, sym}
use Rattle.std.proofs.lemmas.Result.{on_ok_weaker}
use Rattle.raft_recovery.proofs.Plays.{exchange_none, exchange_one}
use Rattle.raft_recovery.proofs.search.exchange_next.Goals as goal

pub returns-in-None : goal.returns-in-None
returns-in-None c = exchange_none c.args.now c.args.id c.args.other c.args.world.now (sym c.request_to.ensures ∙ c.in-None.is)

pub returns-in-Some : goal.returns-in-Some
returns-in-Some c =
    on_ok_weaker c.exchange.result
    (exchange_one c.args.now c.args.id c.args.other c.args.world.now c.exchange.new.world c.in-Some.number (sym c.request_to.ensures ∙ c.in-Some.is))
    c.exchange.ensures
