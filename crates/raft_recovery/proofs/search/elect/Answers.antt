use Rattle.std.proofs.Common.{◌+◌}
use Rattle.std.proofs.lemmas.Result.{on_ok_weaker}
use Rattle.raft_recovery.proofs.Plays.{elects}
use Rattle.raft_recovery.proofs.search.elect.Goals as goal

pub returns : goal.returns
returns c =
    on_ok_weaker c.ask_votes.result
    (elects c.args.now c.args.id c.args.world.now c.stand.new.world c.ask_votes.new.world (c.args.term + 1) c.args.voters.now c.in_ok-stand.ensures)
    c.ask_votes.ensures
