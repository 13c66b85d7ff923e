use Rattle.raft_cluster_text.proofs.run.play_all.Goals as goal

pub actions-init : goal.actions-init
actions-init c = λ follows. follows

pub actions-preserved : goal.actions-preserved
actions-preserved c = λ follows. c.in_ok-play.ensures (c.actions.invariant follows)

pub returns : goal.returns
returns c = c.actions.invariant
