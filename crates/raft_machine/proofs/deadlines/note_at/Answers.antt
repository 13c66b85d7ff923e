use Rattle.raft_machine.proofs.Noted.{kept}
use Rattle.raft_machine.proofs.deadlines.note_at.Goals as goal

pub returns-clause-keeps : goal.returns-clause-keeps
returns-clause-keeps c = kept c.insert.result c.args.deadlines.now c.insert.new.self _ c.insert.ensures.keys c.insert.ensures.err
