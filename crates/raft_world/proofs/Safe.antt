-- Each run of a world that can be made is safe.
use Rattle.std.specs.Prelude.{List, take}
use Rattle.raft_schedule.specs.declared.event.Event.{Event}
use Rattle.raft_node.specs.declared.given.Given.{Given}
use Rattle.proof_clients.proofs.proof_deeds_proofs.DecidedRuns.{run_decides_chosen}
use Rattle.proof_clients.proofs.proof_deeds_proofs.Outcomes.{world_fits}
use Rattle.proof_clients.proofs.proof_deeds_proofs.OwnAnswers.{run_reads_own}
use Rattle.proof_clients.proofs.proof_deeds_proofs.Proved.{after_mirrored, after_resting, run_agrees, run_appends_only, run_applied, run_applies_decided, run_begins, run_complete, run_ends, run_executes_decided, run_keeps_chosen, run_matches, run_reads_see, run_stands_above}
use Rattle.proof_clients.proofs.LearnersKeep.{learners_keep_groups}
use Rattle.proof_clients.proofs.OneLogs.{applied_one_log, decided_one_log, decided_stay}
use Rattle.proof_clients.proofs.OnlyProposed.{only_proposed}
use Rattle.proof_clients.proofs.Order.{appends_new, appends_once, applied_before}
use Rattle.proof_clients.proofs.Proposals.{proposals_append}
use Rattle.proof_clients.proofs.ReadsSee.{reads_see_all, takers_are_under}
use Rattle.proof_clients.proofs.RepliesTell.{replies_tell}
use Rattle.raft_node.proofs.InTurn.{ends_in_turn, replies_in_turn, stores_in_turn, waits_in_turn}
use Rattle.raft_world.specs.Safe.{IsSafe}
use Rattle.raft_world.specs.Worlds.{IsMade}

pub is_safe : (given : Given) → IsMade given → (es : List Event) → IsSafe given es
is_safe given made es = record {
  agree = run_agrees given made.well_formed es;
  complete = run_complete given made.well_formed es;
  ends = run_ends given made.well_formed es;
  executed_decided = run_executes_decided given made.well_formed es;
  matching = run_matches given made.well_formed es;
  append_only = run_appends_only given made.well_formed es;
  applied = run_applied given made.well_formed es;
  applied_decided = run_applies_decided given made.well_formed es;
  begins = run_begins given made.well_formed es;
  above = run_stands_above given made.well_formed es;
  reads = run_reads_see given made.well_formed es;
  one_log = decided_one_log given made.well_formed es;
  decided_stays = decided_stay given made.well_formed es;
  applied_stays = applied_one_log given made.well_formed es;
  only_proposed = only_proposed given made.well_formed es;
  proposals_append = proposals_append given made.well_formed es;
  appends_new = appends_new given made.well_formed es;
  appends_once = appends_once given made.well_formed es;
  above_applied = applied_before given made.well_formed es;
  reads_own = run_reads_own given made.well_formed es;
  reads_all = reads_see_all given made.well_formed es;
  takers = takers_are_under given made.well_formed es;
  replies_tell = replies_tell given made.well_formed es;
  chosen = run_keeps_chosen given made.well_formed es;
  decided_chosen = λ k. run_decides_chosen given made.well_formed (take k es);
  learners_keep = learners_keep_groups given made.well_formed made.sound es;
  mirrored = λ k. after_mirrored given made.well_formed (take k es);
  resting = λ k. after_resting given made.well_formed (take k es);
  unrefused = world_fits given made.well_formed es;
  stored = stores_in_turn given es;
  replied = replies_in_turn given es;
  awaited = waits_in_turn given es;
  ended = ends_in_turn given es;
}
