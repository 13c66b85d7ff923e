use Rattle.std.proofs.Common.{not}
use Rattle.std.proofs.lemmas.List.Kept.{IsStrictlySortedBy-filter}
use Rattle.raft_state.specs.Members.{is_voter}
use Rattle.raft_state.proofs.membership.Membership.learner_ids.Goals as goal

pub returns-clause-ascending : goal.returns-clause-ascending
returns-clause-ascending g c =
    rw (c.in_ok-ids.ensures, ← c.self.view_is)
    (IsStrictlySortedBy-filter g.NID.Ord.cmp (λ id. not (is_voter g.NID.Ord.cmp c.self.inside.members id)) _ c.self.invariant.ordered)
