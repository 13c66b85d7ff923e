-- All laws of calls, and what else holds of an engine: its committed membership was decided, or is at or below its
-- committed index, or is the first entry's.
use Rattle.std.proofs.Common.{ℕ, ◌≡◌, [], Option, None}
use Rattle.raft_node.specs.raft_state.declared.ids.LogId.{LogId}
use Rattle.raft_node.specs.raft_state.declared.membership.Members.{Members}
use Rattle.std.specs.Ordering.{nat_cmp}
use Rattle.std.proofs.lemmas.Cmp.{nat_cmp_total}
use Rattle.raft_node.specs.raft_state.Same.{nat_same}
use Rattle.raft_node.specs.raft_error.declared.error.EngineError.TheVariants.{CommittedNotHeld}
use Rattle.raft_node.specs.raft_command.declared.config.EngineConfig.{EngineConfig}
use Rattle.raft_node.specs.raft_steps.FollowingHandler.{commit_entries, commit_target}
use Rattle.raft_node.specs.raft_steps.RequestRefusals.{refusals_of_commit, is_missing}
use Rattle.raft_node.specs.raft_steps.Requests.{handle_commit_entries}
use Rattle.raft_node.proofs.raft_steps_proofs.Unrefused.{neither, test_fails}
use Rattle.raft_node.specs.raft_store.Entries.{entry_meaning}
use Rattle.proof_mirror.proofs.Sound.{held_commit}
use Rattle.raft_node.specs.declared.node.Turn.{Turn}
use Rattle.raft_node.specs.raft_store.Types.{WorldMachine, WorldStore}
use Rattle.proof_deeds.specs.Images.{Ideal, setup_of}
use Rattle.proof_deeds.specs.Knows.{Stands}
use Rattle.proof_deeds.proofs.AppendCommits.{carried_commit}
use Rattle.proof_deeds.proofs.AppendFitting.{Settled, append_fits}
use Rattle.proof_deeds.proofs.AppendKept.{append_settles}
use Rattle.proof_deeds.proofs.AppendLaws.{carried_append}
use Rattle.proof_deeds.proofs.Calls.{ByAppend, ByCommit, CallLaws, FitsAppend}
use Rattle.proof_deeds.proofs.LeaderEvents.{heartbeat_law, higher_vote_law, membership_law, progress_law, propose_law, step_down_law}
use Rattle.proof_deeds.proofs.LeaderLaws.{leaders_done}
use Rattle.proof_deeds.proofs.LeaderStarts.{carried_startup}
use Rattle.proof_deeds.proofs.OwnSettles.{commit_by_keeps, kept_on, kept_same, kept_unset, local_keeps}
use Rattle.proof_deeds.proofs.SnapshotEvents.{install_law, install_plain_law, purge_law, trigger_law}
use Rattle.proof_deeds.proofs.SnapshotSettles.{finish_keeps}
use Rattle.proof_deeds.proofs.Starts.{full_of}
use Rattle.proof_deeds.proofs.StartSettles.{started_settles, startup_settles}
use Rattle.proof_deeds.proofs.Laws.{elect_law, initialize_law, own_grant_law, vote_reply_law, vote_request_law, unread}

module _ (first : Members ℕ (Unit {0})) where
  pub append_law : ByAppend first (Settled (setup_of first))
  append_law t config u W m h empty msg o prev es told d is asks x = (
    carried_append first t config u W msg o prev es told d is m t.moment h (unread m.core.output.items empty) asks
        (append_fits first t config u W msg o prev es told d is m t.moment h (unread m.core.output.items empty) asks x),
    append_settles first t config u W msg o prev es told d is m t.moment h (unread m.core.output.items empty) asks x,
  )

  pub append_fits_law : FitsAppend first (Settled (setup_of first))
  append_fits_law t config u W m h empty msg o prev es told d is asks low x =
      append_fits first t config u W msg o prev es told d is m t.moment h (unread m.core.output.items empty) asks x low

  commit_kept : (t : Turn) (config : EngineConfig ℕ) (u : WorldStore) (W : Ideal) (m : WorldMachine) → Stands (setup_of first) t config u W m → (told : Option (LogId ℕ)) → refusals_of_commit nat_cmp told m ≡ None → Settled (setup_of first) W m.core.state
      → Settled (setup_of first) W (handle_commit_entries nat_cmp entry_meaning config told m).core.state
  unfolding handle_commit_entries commit_entries
  commit_kept t config u W m h told asks x =
      commit_by_keeps (setup_of first) t config u W m h [] (commit_target nat_cmp m.core.state told)
      (held_commit nat_cmp nat_cmp_total nat_same m.core.state h.sound.sound (commit_target nat_cmp m.core.state told) (test_fails (is_missing nat_cmp m.core.state (commit_target nat_cmp m.core.state told)) CommittedNotHeld None (neither _ _ asks).1).0) x

  pub commit_law : ByCommit first (Settled (setup_of first))
  commit_law t config u W m h follows msg o prev es told d is vote asks x = (carried_commit first t config u W msg o prev es told d is m h follows vote asks, commit_kept t config u W m h told asks x)

  -- all laws
  pub all_laws : CallLaws first (Settled (setup_of first))
  all_laws = record {
    by_initialize = initialize_law first (Settled (setup_of first)) (kept_same (setup_of first)) (kept_unset (setup_of first));
    by_elect = elect_law first (Settled (setup_of first)) (kept_same (setup_of first)) (kept_unset (setup_of first));
    by_vote_request = vote_request_law first (Settled (setup_of first)) (kept_same (setup_of first)) (kept_unset (setup_of first));
    by_vote_reply = vote_reply_law first (Settled (setup_of first)) (kept_same (setup_of first)) (kept_unset (setup_of first));
    by_append = append_law;
    fits_append = append_fits_law;
    by_commit = commit_law;
    by_install = install_law first;
    plain_install = install_plain_law first;
    by_trigger = trigger_law first;
    by_purge = purge_law first;
    by_propose = propose_law first;
    by_membership = membership_law first;
    by_step_down = step_down_law first;
    by_heartbeat = heartbeat_law first;
    by_progress = progress_law first;
    by_higher_vote = higher_vote_law first;
    by_own_grant = own_grant_law first (Settled (setup_of first)) (kept_same (setup_of first)) (kept_unset (setup_of first));
    by_own_log = λ t config u W m h x l e f k. ((leaders_done first).by_own_log config t u W m l x (record { stands = h; leader = e }) f, local_keeps (setup_of first) t config u W m h x l e f k);
    by_startup = λ t config u W m h none asks k. (carried_startup first t config h.id u W h.reached m h.pending h.sound h.ordered none (full_of config m asks) h.carried, startup_settles first t config u W m h none (full_of config m asks) k);
    extra_on = kept_on (setup_of first);
    extra_finished = λ W config meta m k. finish_keeps (setup_of first) W config meta m k;
    extra_started = started_settles first;
    extra_new = tt;
  }
