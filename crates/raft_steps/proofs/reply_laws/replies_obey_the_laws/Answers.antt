use Rattle.std.specs.Prelude.{refl}
use Rattle.raft_steps.proofs.AllowedCalls.{begin_receiving_only}
use Rattle.raft_steps.proofs.LawsDelete.{clock_deletes, conflicting_deletes, finish_deletes, progress_deletes, purge_deletes, purge_upto_deletes, recorded_deletes, schedule_deletes, trigger_deletes, unless_deletes, where_free_deletes}
use Rattle.raft_steps.proofs.LawsFollow.{Undeleting, undeleting}
use Rattle.raft_steps.proofs.LawsInstall.{Unpurging}
use Rattle.raft_steps.proofs.LawsPurge.{finish_within, matching_only, progress_within, success_only, trigger_within, where_free_within}
use Rattle.raft_steps.proofs.LawsReply.{begin_receiving_queues, clock_queues, conflicting_queues, engine_waits, finish_queues, finish_waits, matching_queues, progress_queues, purge_queues, purge_upto_queues, purge_where_free_queues, purges_within, recorded_queues, schedule_queues, success_queues, trigger_purge_queues, trigger_waits, unless_queues, unless_within, waits}
use Rattle.raft_steps.proofs.reply_laws.replies_obey_the_laws.Goals as goal

pub returns-clause-queue : goal.returns-clause-queue
returns-clause-queue g c =
    let cmp = g.C.NodeId.Ord.cmp in
    let total = g.met.C.NodeId.Ord.total in
    record {
      by_clock = λ target time l. clock_queues cmp target time l;
      by_matching = λ config target x l. matching_queues cmp total config target x l;
      by_conflicting = λ target number x l. conflicting_queues cmp target number x l;
      by_success = λ config target id answer l. success_queues cmp total config target id answer l;
      by_progress = λ config target id reply l. progress_queues cmp total config target id reply l;
      by_purge_log = λ c. purge_queues cmp c;
      by_purge_upto = λ x c. purge_upto_queues cmp x c;
      by_schedule = λ config c. schedule_queues cmp config c;
      by_purge_unless_inflight = λ l. unless_queues cmp l;
      by_purge_where_free = λ m. purge_where_free_queues cmp m;
      by_trigger_purge = λ i m. trigger_purge_queues cmp i m;
      by_update_snapshot = λ meta c. recorded_queues cmp meta c;
      by_finish = λ config meta m. finish_queues cmp config meta m;
      by_begin_receiving = λ token m. begin_receiving_queues cmp token m;
    }

pub returns-clause-deletes : goal.returns-clause-deletes
returns-clause-deletes g c =
    let cmp = g.C.NodeId.Ord.cmp in
    record {
      by_clock = λ target time l. clock_deletes cmp target time l;
      by_matching = λ config target x l. matching_only Undeleting cmp config undeleting target x l;
      by_conflicting = λ target number x l. conflicting_deletes cmp target number x l;
      by_success = λ config target id answer l. success_only Undeleting cmp config undeleting target id answer l;
      by_progress = λ config target id reply l. progress_deletes cmp config target id reply l;
      by_purge_log = λ k. purge_deletes cmp k;
      by_purge_upto = λ x k. purge_upto_deletes cmp x k;
      by_schedule = λ config k. schedule_deletes cmp config k;
      by_purge_unless_inflight = λ l. unless_deletes cmp l;
      by_purge_where_free = λ m. where_free_deletes cmp m;
      by_trigger_purge = λ i m. trigger_deletes cmp i m;
      by_update_snapshot = λ meta k. recorded_deletes cmp meta k;
      by_finish = λ config meta m. finish_deletes cmp config meta m;
      by_begin_receiving = λ token m. begin_receiving_only Undeleting token m (λ seq. refl);
    }

pub returns-clause-purges : goal.returns-clause-purges
returns-clause-purges g c =
    let cmp = g.C.NodeId.Ord.cmp in
    let total = g.met.C.NodeId.Ord.total in
    let same = g.met.C.NodeId.NodeId.equal_is_same in
    record {
      in_snapshot = λ c h. purges_within cmp total same c h;
      of_leader_in_snapshot = λ l h. unless_within cmp total same l h;
      while_inflight = λ l e. waits cmp l e;
      engine_while_inflight = λ m e. engine_waits cmp m e;
      trigger_while_inflight = λ i m e. trigger_waits cmp i m e;
      finish_while_inflight = λ config meta m e. finish_waits cmp config meta m e;
      by_progress = λ config target id reply l a h. progress_within cmp total same config target id reply l a h;
      by_purge_where_free = λ m h. where_free_within cmp total same m h;
      by_trigger_purge = λ i m h. trigger_within cmp total same i m h;
      by_finish = λ config meta m f w h. finish_within cmp total same config meta m f w h;
      by_begin_receiving = λ token m. begin_receiving_only Unpurging token m (λ seq. refl);
    }
