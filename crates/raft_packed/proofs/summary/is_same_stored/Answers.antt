use Rattle.std.proofs.Common.{arith, rules, sym, ◌≡◌, ◌∙◌}
use Rattle.std.proofs.lemmas.Grind.{common_steps}
use Rattle.raft_packed.proofs.SameMembers.{members_is}
use Rattle.raft_packed.proofs.summary.is_same_stored.Goals as goal

pub returns-then-eq : goal.returns-then-eq
returns-then-eq c = λ t.
    let ids : c.args.one.now.log_id ≡ c.args.other.now.log_id = first_of (search rules, grind (arith, common_steps)) in
    let members : c.args.one.now.membership ≡ c.args.other.now.membership =
    members_is c.args.one.now.membership c.args.other.now.membership (sym c.is_same_membership.ensures ∙ t) in
    λ i. record { log_id = ids i; membership = members i }
