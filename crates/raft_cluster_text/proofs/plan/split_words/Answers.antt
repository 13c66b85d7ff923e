use Rattle.std.proofs.Common.{lit<, rules, tests, not}
use Rattle.std.proofs.lemmas.Iterator.Consumers.{map_from_collect, YieldsList-at}
use Rattle.std.proofs.lemmas.Iterator.Splits.{YieldsList-from_str_split}
use Rattle.std.proofs.lemmas.Iterator.Search.{YieldsList-from_take_while}
use Rattle.raft_schedule.specs.Line.{begins}
use Rattle.raft_cluster_text.proofs.plan.split_words.Goals as goal

pub returns : goal.returns
returns c =
    map_from_collect _ c.collect.ensures.ran
    (YieldsList-from_take_while _ (λ word. not (begins 35 word))
    (YieldsList-at c.take_while.ensures.source (YieldsList-from_str_split 32 c.args.line.now (lit< tt) c.split.ensures.text c.split.ensures.has_more c.split.ensures.pattern))
    c.take_while.ensures.closure c.take_while.ensures.done (λ x b q k. search (rules, tests)))
