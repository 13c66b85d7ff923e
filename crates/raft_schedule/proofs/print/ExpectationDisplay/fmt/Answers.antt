use Rattle.std.proofs.Common.{◌∷◌, ◌++◌, ◌∙◌, ap, flat_map, sym}
use Rattle.std.proofs.Output.{has_written_of_eq}
use Rattle.std.specs.Fmt.{decimal}
use Rattle.raft_schedule.specs.Written.{expectation_text, fact_text}
use Rattle.raft_schedule.proofs.Texts.{facts_said}
use Rattle.raft_schedule.proofs.print.ExpectationDisplay.fmt.Goals as goal

pub returns-in-Node-clause-writes : goal.returns-in-Node-clause-writes
returns-in-Node-clause-writes g c p ok =
    has_written_of_eq _ _ _ _ _
    (ap (λ fs. decimal c.in-Node.id ++ flat_map (λ f. 32 ∷ fact_text f) fs) c.as_slice.ensures ∙ sym (facts_said c.in-Node.id c.in-Node.facts) ∙ ap expectation_text (sym c.in-Node.is))
    (c.write.ensures.writes p ok)
