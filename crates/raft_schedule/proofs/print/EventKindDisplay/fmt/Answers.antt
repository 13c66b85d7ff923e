use Rattle.std.proofs.Common.{◌++◌, ◌∙◌, ap, codes, map, sym}
use Rattle.std.proofs.Output.{has_written_of_eq}
use Rattle.std.specs.Fmt.{decimal}
use Rattle.raft_schedule.specs.Written.{group_word, kind_text, learner_words, spaced, value_word}
use Rattle.raft_schedule.proofs.Texts.{change_said, propose_said}
use Rattle.raft_schedule.proofs.print.EventKindDisplay.fmt.Goals as goal

pub returns-in-Propose-clause-writes : goal.returns-in-Propose-clause-writes
returns-in-Propose-clause-writes g c p ok =
    has_written_of_eq _ _ _ _ _
    (ap (λ vs. codes "propose " ++ (decimal c.in-Propose.id ++ spaced (map value_word vs))) c.as_slice.ensures ∙ sym (propose_said c.in-Propose.id c.in-Propose.values) ∙ ap kind_text (sym c.in-Propose.is))
    (c.write-in-Propose.ensures.writes p ok)

pub returns-in-Change-clause-writes : goal.returns-in-Change-clause-writes
returns-in-Change-clause-writes g c p ok =
    let id = decimal c.in-Change.id in
    let learners = spaced (learner_words c.as_slice-in-Change-2.result.now) in
    has_written_of_eq _ _ _ _ _
    (ap (λ gs. codes "change " ++ (id ++ (spaced (map group_word gs) ++ learners))) c.as_slice-in-Change.ensures
    ∙ ap (λ ids. codes "change " ++ (id ++ (spaced (map group_word c.in-Change.groups) ++ spaced (learner_words ids)))) c.as_slice-in-Change-2.ensures
    ∙ sym (change_said c.in-Change.id c.in-Change.groups c.in-Change.learners) ∙ ap kind_text (sym c.in-Change.is))
    (c.write-in-Change.ensures.writes p ok)
