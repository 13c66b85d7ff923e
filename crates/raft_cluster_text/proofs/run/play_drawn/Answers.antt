use Rattle.raft_cluster_text.proofs.run.play_drawn.Goals as goal

pub draws-init : goal.draws-init
draws-init c = λ follows. follows

pub draws-preserved : goal.draws-preserved
draws-preserved c = λ follows. c.in_ok-comes.ensures (c.draws.invariant follows)

pub returns : goal.returns
returns c = c.draws.invariant
