use Rattle.std.proofs.Common.{refl}
use Rattle.raft_service.proofs.service.Service.reply.Goals as goal

pub returns : goal.returns
returns c = record {
  middle = record c.args.self.now { intake = c.take-taken.new.self };
  taken = c.take-taken.result;
  takes = c.take-taken.ensures;
  rest = refl;
  answered = c.in_ok-answer_if.ensures;
}
