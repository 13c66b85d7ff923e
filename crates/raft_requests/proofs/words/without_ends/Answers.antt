use Rattle.std.proofs.Common.{ap, sym, ◌∙◌}
use Rattle.raft_requests.specs.Words.{without_ends}
use Rattle.raft_requests.proofs.Told.{end_dropped, end_kept, all_ends}
use Rattle.raft_requests.proofs.words.without_ends.Goals as goal

pub loop-last-preserved : goal.loop-last-preserved
loop-last-preserved c =
    sym (end_dropped c.in-Some.front.now c.in-Some.last.now (sym c.if-not-is_end.ensures)) ∙ ap without_ends (sym c.in-Some.ensures.cases.0) ∙ c.loop-last.invariant

pub returns-then-not-is_end : goal.returns-then-not-is_end
returns-then-not-is_end c =
    c.in-Some.ensures.cases.0
    ∙ sym (end_kept c.in-Some.front.now c.in-Some.last.now (sym c.if-not-is_end.ensures))
    ∙ ap without_ends (sym c.in-Some.ensures.cases.0)
    ∙ c.loop-last.invariant

pub returns : goal.returns
returns c = sym (all_ends c.loop-last.rest.now c.in_default.ensures.cases) ∙ c.loop-last.invariant
