use Rattle.proof_agreement.specs.Deeds.{run_all}
use Rattle.proof_agreement.specs.Machine.{start}
use Rattle.proof_agreement.specs.Stores.{empty}
use Rattle.proof_agreement.proofs.StoresTheorems.{reached, stores_agree as agree, stores_complete, stores_decided, stores_match, leaders_append, applied_agree, applied_decided, commits_end, own_entries_above, chosen_complete, chosen_complete_fixed, committed_is_chosen}
use Rattle.proof_agreement.proofs.stores.stores_agree.Goals as goal

pub returns-clause-agree : goal.returns-clause-agree
returns-clause-agree c = λ s deeds h. agree s (start s) (run_all s deeds (empty s)) (reached s deeds h)

pub returns-clause-decided : goal.returns-clause-decided
returns-clause-decided c = λ s deeds h. stores_decided s (start s) (run_all s deeds (empty s)) (reached s deeds h)

pub returns-clause-ends : goal.returns-clause-ends
returns-clause-ends c = λ s deeds h. commits_end s (start s) (run_all s deeds (empty s)) (reached s deeds h)

pub returns-clause-complete : goal.returns-clause-complete
returns-clause-complete c = λ s deeds h. stores_complete s (start s) (run_all s deeds (empty s)) (reached s deeds h)

pub returns-clause-matching : goal.returns-clause-matching
returns-clause-matching c = λ s deeds h. stores_match s (start s) (run_all s deeds (empty s)) (reached s deeds h)

pub returns-clause-append_only : goal.returns-clause-append_only
returns-clause-append_only c = λ s deeds h. leaders_append s (start s) (run_all s deeds (empty s)) (reached s deeds h)

pub returns-clause-applied : goal.returns-clause-applied
returns-clause-applied c = λ s deeds h. applied_agree s (start s) (run_all s deeds (empty s)) (reached s deeds h)

pub returns-clause-applied_decided : goal.returns-clause-applied_decided
returns-clause-applied_decided c = λ s deeds h. applied_decided s (start s) (run_all s deeds (empty s)) (reached s deeds h)

pub returns-clause-reads : goal.returns-clause-reads
returns-clause-reads c = λ s deeds h. own_entries_above s (start s) (run_all s deeds (empty s)) (reached s deeds h)

pub returns-clause-chosen : goal.returns-clause-chosen
returns-clause-chosen c = chosen_complete

pub returns-clause-committed : goal.returns-clause-committed
returns-clause-committed c = committed_is_chosen

pub returns-clause-chosen_fixed : goal.returns-clause-chosen_fixed
returns-clause-chosen_fixed c = chosen_complete_fixed
