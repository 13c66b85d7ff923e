use Rattle.std.proofs.Common.{refl}
use Rattle.raft_service.proofs.service.Service.reply_read.Goals as goal

pub returns : goal.returns
returns c = record {
  middle = record c.args.self.now { intake = c.take_read-taken.new.self };
  taken = c.take_read-taken.result;
  takes = c.take_read-taken.ensures;
  rest = refl;
  answered = c.in_ok-answer_if.ensures;
}
