use Rattle.std.proofs.Common.{◌∙◌, refl}
use Rattle.std.proofs.lemmas.Result.{on_ok_weaker}
use Rattle.raft_recovery.proofs.Plays.{exchange_more}
use Rattle.raft_recovery.proofs.search.exchange_twice.Goals as goal

pub returns : goal.returns
returns c =
    on_ok_weaker c.exchange_next-2.result
    (λ is. is ∙ exchange_more c.args.now c.args.id c.args.other c.args.world.now c.exchange_next.new.world 1 1 2 c.in_ok-exchange_next.ensures refl)
    c.exchange_next-2.ensures
