use Rattle.std.specs.Cmp.Lexicographic.{pointwise}
use Rattle.std.proofs.Common.{◌≡◌, ◌∙◌, ap}
use Rattle.raft_handler_leader.proofs.leader_handler.is_same_group.Goals as goal

-- ids are equal where the order doesn't tell them apart
pub returns : goal.returns
returns g c = c.eq.ensures ∙ (λ i. pointwise (λ a b. g.met.NID.Ord.matches_eq a b i) c.args.group.now c.args.other.now)
