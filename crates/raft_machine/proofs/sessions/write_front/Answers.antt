use Rattle.std.proofs.Common.{◌∙◌}
use Rattle.std.proofs.lemmas.Result.{on_ok_weaker}
use Rattle.raft_machine.proofs.Pieces.{sessions_front, two_more}
use Rattle.raft_machine.proofs.sessions.write_front.Goals as goal

pub returns-clause-front : goal.returns-clause-front
returns-clause-front c =
    on_ok_weaker c.write_number-2.result
    (λ w. sessions_front c.args.cache.now _ _ c.args.out.now.items _ _ (c.get.ensures.value ∙ c.cap.ensures) c.len.ensures.len c.len.ensures.valid
    c.in_ok-write_number.ensures w)
    c.write_number-2.ensures

pub returns-clause-more : goal.returns-clause-more
returns-clause-more c =
    on_ok_weaker c.write_number-2.result (λ w. two_more c.args.out.now.items _ _ _ _ c.in_ok-write_number.ensures.1 w.1) c.write_number-2.ensures
