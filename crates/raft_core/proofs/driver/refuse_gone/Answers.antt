use Rattle.std.proofs.Common.{Some}
use Rattle.raft_core.proofs.driver.refuse_gone.Goals as goal

pub returns-in_ok-refuse : goal.returns-in_ok-refuse
returns-in_ok-refuse g c =
    record { gone = Some c.leader_of-leader.result; left = c.in_ok-refuse.ensures.left; tells = c.in_ok-refuse.ensures.replies }
