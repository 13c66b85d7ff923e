use Rattle.std.proofs.Common.{lit<}
use Rattle.std.proofs.lemmas.Str.Pattern.{strip_suffix_char}
use Rattle.raft_schedule.proofs.Together.{lines_stripped, lines_kept}
use Rattle.raft_schedule.proofs.schedule.without_last_lf.Goals as goal

pub returns-in-Some : goal.returns-in-Some
returns-in-Some c = λ some. lines_stripped c.args.text.now c.strip_suffix.result c.in-Some.body (strip_suffix_char 10 c.args.text.now c.strip_suffix.result c.strip_suffix.ensures.cases (lit< tt)) c.in-Some.is

pub returns-in-None : goal.returns-in-None
returns-in-None c = λ some. lines_kept c.args.text.now c.strip_suffix.result (strip_suffix_char 10 c.args.text.now c.strip_suffix.result c.strip_suffix.ensures.cases (lit< tt)) c.in-None.is some
