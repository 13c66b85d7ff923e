use Rattle.std.proofs.Common.{[], ◌∷◌, ◌++◌, ◌∙◌, ap, sym}
use Rattle.std.proofs.lemmas.List.{take_all}
use Rattle.raft_node.specs.Runs.{events_of}
use Rattle.raft_recovery.proofs.Played.{events_more}
use Rattle.raft_recovery.proofs.scratch.copy_all.Goals as goal

pub loop-applied-preserved : goal.loop-applied-preserved
loop-applied-preserved c =
    c.in_ok-push.ensures.items
    ∙ ((λ i. c.loop-applied.invariant i ++ c.in_ok-event.ensures i ∷ [])
    ∙ sym (events_more c.args.past.now c.loop-applied.applied-index c.applied-item.result c.loop-applied-test.true c.applied-item.is))

pub returns : goal.returns
returns c = c.loop-applied.invariant ∙ ap events_of (take_all c.loop-applied.applied-index c.args.past.now c.loop-applied-test.false)
