use Rattle.std.specs.Prelude.{map, length}
use Rattle.raft_state.specs.Order.{next}
use Rattle.raft_state.specs.Log.{last}
use Rattle.raft_steps.specs.Engine.{handle_vote_resp}
use Rattle.raft_steps.specs.FollowingHandler.{do_append_entries}
use Rattle.raft_steps.specs.FollowingHandler as following
use Rattle.raft_steps.specs.LeaderHandler.{leader_append_entries}
use Rattle.raft_steps.specs.Requests.{follow}
use Rattle.raft_steps.specs.VoteHandler.{become_leader, update_internal_server_state, update_vote}
use Rattle.raft_steps.proofs.Kept.{do_append_kept}
use Rattle.raft_steps.proofs.KeptCommit.{may_grow}
use Rattle.raft_steps.proofs.KeptEngine.{become_leader_kept, below_end_each, handle_vote_resp_is_sound, internal_kept, update_vote_kept}
use Rattle.raft_steps.proofs.KeptFollow.{append_kept, follow_kept}
use Rattle.raft_steps.proofs.KeptLead.{propose_kept}
use Rattle.raft_steps.proofs.Unrefused.{neither, second_fails}
use Rattle.proof_mirror.proofs.Committing.{pending_trigger, pending_quorum, pending_commit_entries}
use Rattle.proof_mirror.proofs.Elections.{pending_follow, pending_become, pending_internal, pending_update_vote, pending_elect, pending_vote_resp}
use Rattle.proof_mirror.proofs.Following.{follow_passed, pending_entries, pending_append, pending_consecutive, pending_follow_entries, pending_append_entries, pending_handle_append, pending_handle_commit}
use Rattle.proof_mirror.proofs.Orders.{ordered_at_stop, ordered_exec}
use Rattle.proof_mirror.proofs.Proposes.{pending_progresses, takes_id, pending_join, pending_propose}
use Rattle.proof_mirror.proofs.Purging.{pending_target, pending_schedule, pending_record, pending_purge, pending_try_purge, pending_where_free, pending_purge_to, pending_finish, pending_older, pending_receiving}
use Rattle.proof_mirror.proofs.Queued.{awaits_pop, pending_role}
use Rattle.proof_mirror.proofs.Replying.{pending_clock, pending_conflicting, pending_success, pending_matching, pending_own, pending_progress}
use Rattle.proof_mirror.proofs.Restarting.{restart_in_step, shaped_at_stop, new_in_step, new_ordered, step_built, built_ordered}
use Rattle.proof_mirror.proofs.Sends.{pending_rebuild, pending_initiate}
use Rattle.proof_mirror.proofs.Shape.{run_of_ids}
use Rattle.proof_mirror.proofs.Sound.{commit_fits, held_commit, follow_run, machine_knows, machine_asks}
use Rattle.proof_mirror.proofs.Starting.{core_order, sound_order, pending_handle_install, pending_initialize, pending_install_core, pending_step_down, pending_startup, pending_vote_req_passed}
use Rattle.proof_mirror.proofs.laws.stores_mirror_engines.Goals as goal

pub returns : goal.returns
returns g c =
    let cmp = g.C.NodeId.Ord.cmp in
    let total = g.met.C.NodeId.Ord.total in
    let same = g.met.C.NodeId.NodeId.equal_is_same in
    let entry = g.C.Entry.RaftEntry in
    let named = g.met.C.Entry.RaftEntry.with_id_has in
    let law = takes_id entry named in
    record {
      elections = λ entries_in. record {
        by_update_role = λ config t c p. pending_role cmp entry entries_in config t c p;
        by_become_leader = λ config t m p h leads asks. pending_become cmp entry law entries_in config t m p (sound_order cmp config (become_leader cmp entry config m) (become_leader_kept cmp total same entry named config m leads asks h));
        by_become_following = λ config t m p. pending_follow cmp entry entries_in config t m p;
        by_internal = λ config t m p h asks. pending_internal cmp entry law entries_in config t m p (sound_order cmp config (update_internal_server_state cmp entry config m) (internal_kept cmp total same entry named config m asks h));
        by_update_vote = λ config t v now m p h asks. pending_update_vote cmp entry law entries_in config t v now m p (sound_order cmp config (update_vote cmp entry config v now m) (update_vote_kept cmp total same entry named config v now m asks h));
        by_elect = λ config t now m p. pending_elect cmp entry law entries_in config t now m p;
        by_handle_vote_req = λ config t req now m p h asks. pending_vote_req_passed cmp total same entry named entries_in config t req now m p h asks;
        by_handle_vote_resp = λ config t target resp now m p h asks. pending_vote_resp cmp entry law entries_in config t target resp now m p (machine_asks cmp config m h)
            (sound_order cmp config (handle_vote_resp cmp entry config target resp now m) (handle_vote_resp_is_sound cmp total same entry named config target resp now m asks h));
        by_step_down = λ config t m p h asks. pending_step_down cmp total same entry named entries_in config t m p h asks;
      };
      leaders = λ entries_in. record {
        by_leader_append = λ config t es l p h own asks one. pending_propose cmp entry entries_in config law t es l p one
            (core_order cmp (leader_append_entries cmp entry config es l).core (propose_kept cmp total same entry named config es l (may_grow cmp total same config (length es) l own asks h) h).sound);
        by_append_membership = λ config t m l p k. pending_join cmp entry entries_in config t m l p k;
        by_rebuild_progresses = λ t l p. pending_progresses cmp entry entries_in t l p.core p.knows;
        by_clock = λ t target time l p. pending_clock cmp entry entries_in t target time l p;
        by_rebuild = λ config t l p. pending_rebuild cmp entry entries_in config t l p;
        by_initiate = λ config t force l p. pending_initiate cmp entry entries_in config t force l p;
        by_try_commit = λ config t x c p f. pending_quorum cmp entry entries_in config t x c p f;
        by_local_progress = λ config t x l p h f. pending_own cmp total same entry entries_in config t x l p h f;
        by_matching = λ config t target number x l p a h. pending_matching cmp total same entry entries_in config t target number x l p a h;
        by_conflicting = λ config t target number x l p a h. pending_conflicting cmp total same entry entries_in config t target number x l p a h;
        by_success = λ config t target id answer l p a h. pending_success cmp total same entry entries_in config t target id answer l p a h;
        by_progress = λ config t target id reply l p a h. pending_progress cmp total same entry entries_in config t target id reply l p a h;
      };
      followers = λ entries_in. record {
        by_do_append = λ config t es c p h may asks. pending_append cmp entry entries_in config t es c p (run_of_ids entry (next (last c.state.ids)) es (follow_run cmp (last c.state.ids) (map entry.id_of es) may.follow))
            (core_order cmp (do_append_entries cmp entry config es c) (do_append_kept cmp total same entry config es c may.follow may.by_vote (below_end_each entry es (second_fails _ _ _ _ _ asks)) h));
        by_ensure_log_consecutive = λ config t prev c p f. pending_consecutive cmp same entry entries_in config t prev c p f;
        by_following_append = λ config t prev es c p h held asks f. pending_entries cmp same entry entries_in config t prev es c p (follow_passed cmp c.state c.state.vote prev (map entry.id_of es) (neither _ _ asks).1) f held
            (core_order cmp (following.append_entries cmp entry config prev es c) (append_kept cmp total same entry config prev es c held asks h));
        by_follow = λ config t prev es c p h asks f. pending_follow_entries cmp same entry entries_in config t prev es c p (follow_passed cmp c.state c.state.vote prev (map entry.id_of es) asks) f
            (core_order cmp (follow cmp entry config prev es c) (follow_kept cmp total same entry config prev es c asks h));
        by_append_entries = λ config t v prev es now m p h asks f. pending_append_entries cmp total same entry law entries_in config t v prev es now m p h asks f;
        by_handle_append_entries = λ config t v prev es token now m p h asks f. pending_handle_append cmp total same entry law entries_in config t v prev es token now m p h asks f;
        by_commit_entries = λ config t x c p f. pending_commit_entries cmp entry entries_in config t x c p f;
        by_handle_commit_entries = λ config t x m p f. pending_handle_commit cmp total same entry law entries_in config t x m p f;
        by_install = λ config t snapshot c p h asks k. pending_install_core cmp total same entry law entries_in config t snapshot c p h (neither _ _ asks).1 k;
        by_handle_install = λ config t v snapshot token now m p h asks k. pending_handle_install cmp total same entry law entries_in config t v snapshot token now m p h asks k;
      };
      snapshots = λ entries_in. record {
        by_trigger_snapshot = λ t c p. pending_trigger cmp entry entries_in t c p;
        by_purge_log = λ t c p h. pending_purge cmp total same entry entries_in t c p h;
        by_try_purge_log = λ t rows c p h. pending_try_purge cmp total same entry entries_in t rows c p h;
        by_purge_where_free = λ config t m p h. pending_where_free cmp total same entry entries_in config t m p h;
        by_trigger_purge = λ config t i m p h. pending_purge_to cmp total same entry entries_in config t i m p h;
        by_update_purge_upto = λ t x c p k. pending_target cmp entry entries_in t x c p k;
        by_schedule = λ config t c p. pending_schedule cmp entry entries_in config t c p;
        by_update_snapshot = λ t meta c n p. pending_record cmp entry entries_in t meta c n p;
        by_finish = λ config t meta m n p h f. pending_finish cmp total same entry entries_in config t meta m n p h f;
        by_finish_older = λ config t meta m n p. pending_older cmp total same entry entries_in config t meta m n p;
        by_begin_receiving = λ t token m p. pending_receiving cmp entry entries_in t token m p;
        by_initialize = λ config t first e now m p l asks. pending_initialize cmp total same entry named entries_in config t first e now m p l asks;
        by_startup = λ config t m p h full. pending_startup cmp total same entry named entries_in config t m p h full;
      };
      stores = λ entries_in. record {
        by_command = λ t c cs s p. awaits_pop cmp entry entries_in t c cs s p;
        order = λ t c z o f. ordered_exec cmp total same entry entries_in t c z o f;
        at_stop = λ t cs j h o. (shaped_at_stop cmp entry entries_in t cs j h, ordered_at_stop cmp total same entry entries_in t cs j h o);
        at_start = λ saved t h o. restart_in_step cmp total same entry saved t h o;
        of_new = λ first. (new_in_step entry first, new_ordered cmp entry first);
        by_built = λ t s meta j i o z lo hi tells. (step_built entry t s meta j i lo hi tells, built_ordered cmp total same entry t s meta j i o z lo hi tells);
      };
      sound = λ entries_in. record {
        leader = λ config m h. machine_knows cmp config m h;
        commit = λ s h x f. commit_fits cmp total same s h x f;
        held = λ s h x q. held_commit cmp total same s h x q;
      };
    }
