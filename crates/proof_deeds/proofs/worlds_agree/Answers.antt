use Rattle.proof_deeds.proofs.DecidedRuns.{run_decides_chosen}
use Rattle.proof_deeds.proofs.OwnAnswers.{run_reads_own}
use Rattle.proof_deeds.proofs.Proved.{after_agrees, after_mirrored, after_resting, run_agrees, run_appends_only, run_applied, run_applies_decided, run_begins, run_complete, run_ends, run_executes_decided, run_keeps_chosen, run_matches, run_may_keep, run_reads_see, run_stands_above}
use Rattle.proof_deeds.proofs.worlds_agree.Goals as goal

pub returns-clause-agree : goal.returns-clause-agree
returns-clause-agree c = λ given wf es. (run_agrees given wf es, after_agrees given wf es)

pub returns-clause-complete : goal.returns-clause-complete
returns-clause-complete c = run_complete

pub returns-clause-ends : goal.returns-clause-ends
returns-clause-ends c = run_ends

pub returns-clause-executed_decided : goal.returns-clause-executed_decided
returns-clause-executed_decided c = run_executes_decided

pub returns-clause-matching : goal.returns-clause-matching
returns-clause-matching c = run_matches

pub returns-clause-append_only : goal.returns-clause-append_only
returns-clause-append_only c = run_appends_only

pub returns-clause-applied : goal.returns-clause-applied
returns-clause-applied c = run_applied

pub returns-clause-applied_decided : goal.returns-clause-applied_decided
returns-clause-applied_decided c = run_applies_decided

pub returns-clause-begins : goal.returns-clause-begins
returns-clause-begins c = run_begins

pub returns-clause-above : goal.returns-clause-above
returns-clause-above c = run_stands_above

pub returns-clause-reads : goal.returns-clause-reads
returns-clause-reads c = run_reads_see

pub returns-clause-reads_own : goal.returns-clause-reads_own
returns-clause-reads_own c = run_reads_own

pub returns-clause-chosen : goal.returns-clause-chosen
returns-clause-chosen c = run_keeps_chosen

pub returns-clause-decided_chosen : goal.returns-clause-decided_chosen
returns-clause-decided_chosen c = run_decides_chosen

pub returns-clause-mirrored : goal.returns-clause-mirrored
returns-clause-mirrored c = after_mirrored

pub returns-clause-resting : goal.returns-clause-resting
returns-clause-resting c = after_resting

pub returns-clause-keeps : goal.returns-clause-keeps
returns-clause-keeps c = run_may_keep
