use Rattle.std.proofs.lemmas.List.Elements.{recursion_from_All}
use Rattle.raft_packed.proofs.Ranges.{all_above}
use Rattle.raft_packed.proofs.log.begins_upto.Goals as goal

pub returns-in-Some-clause-none : goal.returns-in-Some-clause-none
returns-in-Some-clause-none c = λ past.
    all_above c.args.upto c.in-Some.first.now c.args.log.now.entries past (recursion_from_All _ _ c.in-Some.ensures.all_from)
