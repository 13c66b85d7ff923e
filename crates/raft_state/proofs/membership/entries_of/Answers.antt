use Rattle.raft_state.proofs.membership.entries_of.Goals as goal

pub collect-requires-clause-can : goal.collect-requires-clause-can
collect-requires-clause-can g c = tt

pub collect-requires-clause-finite : goal.collect-requires-clause-finite
collect-requires-clause-finite g c = tt

pub collect-requires-clause-can_collect : goal.collect-requires-clause-can_collect
collect-requires-clause-can_collect g c = λ xs t yields. tt
