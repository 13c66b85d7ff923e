-- Changes of the learners alone: they keep the voter groups, so none is skipped because of these.
use Rattle.std.specs.Prelude.{◌≢◌, All, List}
use Rattle.proof_deeds.specs.raft_schedule.declared.event.AppliedEvent.{AppliedEvent}
use Rattle.proof_deeds.specs.raft_schedule.declared.event.Event.{Event}
use Rattle.proof_deeds.specs.raft_schedule.declared.event.EventKind.{EventKind}
use Rattle.proof_deeds.specs.raft_schedule.declared.event.EventKind.TheVariants.{Member}
use Rattle.proof_deeds.specs.raft_schedule.declared.event.Outcome.{Outcome}
use Rattle.proof_deeds.specs.raft_schedule.declared.event.Outcome.TheVariants.{Skipped}
use Rattle.proof_deeds.specs.raft_schedule.declared.event.SkipReason.TheVariants.{BadGroups, NoSharedGroup}
use Rattle.proof_deeds.specs.raft_node.declared.given.Given.{Given}
use Rattle.proof_deeds.specs.raft_node.Runs.{run, start, whole_logs}

-- the present groups are one to four, and they are shared: neither is a reason to skip such a change
abbrev pub KeepsGroups : EventKind → Outcome → Type 0
KeepsGroups (Member n learners) o = (o ≢ Skipped BadGroups) × (o ≢ Skipped NoSharedGroup)
KeepsGroups _ o = Unit {0}

-- so it is with each such event of a run
abbrev pub LearnersKeepGroups : Given → List Event → Type 0
LearnersKeepGroups given es = All (λ (p : AppliedEvent). KeepsGroups p.event.kind p.outcome) (run whole_logs given es (start given)).past
