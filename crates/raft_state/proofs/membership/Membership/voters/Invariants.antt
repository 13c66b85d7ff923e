use Rattle.std.proofs.Common.{◌≡◌, filter, map, not, take}
use Rattle.raft_state.specs.Members.{is_voter}
use Rattle.raft_state.proofs.membership.Membership.voters.Given as goal

abbrev pub invariant-loop-id : goal.invariant-loop-id
invariant-loop-id g l = l.ids.items ≡ filter (is_voter g.NID.Ord.cmp l.fn.self) (map (λ entry. entry.0) (take l.id-index l.nodes))
