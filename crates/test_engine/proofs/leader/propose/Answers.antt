use Rattle.std.proofs.Common.{rules, sym, ◌∙◌}
use Rattle.raft_engine.specs.Whole.{parts}
use Rattle.raft_steps.specs.Parts.{led_in}
use Rattle.test_engine.specs.contracts.types.ItemRaftEntryU64U64.TheImpl.{ghosts}
use Rattle.test_engine.proofs.Sound.{may_propose}
use Rattle.test_engine.proofs.leader.propose.Goals as goal

pub propose-requires-clause-may : goal.propose-requires-clause-may
propose-requires-clause-may c =
    may_propose ghosts (led_in (parts c.args.engine.now)) c.args.entries.items (c.has_own_vote.ensures (search rules)) (c.has_one_at_most.ensures (search rules))
    (sym c.may_follow.ensures ∙ search rules)
