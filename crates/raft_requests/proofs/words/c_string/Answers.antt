use Rattle.raft_requests.proofs.Told.{cut, uncut}
use Rattle.raft_requests.proofs.words.c_string.Goals as goal

pub returns-in-Some : goal.returns-in-Some
returns-in-Some c = cut c.args.word.now c.in-Some.end c.in-Some.ensures

pub returns-in-None : goal.returns-in-None
returns-in-None c = uncut c.args.word.now c.in-None.ensures
