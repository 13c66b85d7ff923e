-- The laws of followers, of a node that stands.
use Rattle.std.proofs.Common.{ℕ}
use Rattle.raft_node.specs.raft_state.declared.membership.Members.{Members}
use Rattle.proof_deeds.specs.FollowerDeeds.{FollowersDone}
use Rattle.proof_deeds.proofs.AppendCommits.{carried_commit}
use Rattle.proof_deeds.proofs.AppendLaws.{carried_append}

module _ (first : Members ℕ (Unit {0})) where
  -- what the contract says
  pub followers_done : FollowersDone first
  followers_done = record {
    by_append = λ config t u W now m msg o prev es told h unread asks fit. carried_append first t config u W msg o prev es told h.delivered h.body m now h.stands unread asks fit;
    by_commit = λ config t u W m msg o prev es told h f e asks. carried_commit first t config u W msg o prev es told h.delivered h.body m h.stands f e asks;
  }
