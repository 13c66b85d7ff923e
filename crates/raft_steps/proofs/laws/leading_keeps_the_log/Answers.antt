use Rattle.std.specs.Prelude.{[], ◌∷◌, None, refl}
use Rattle.raft_command.specs.declared.command.Command.TheVariants.{Replicate, Respond}
use Rattle.raft_steps.proofs.Allowed.{become_leader_only, following_only, initiate_only, internal_only, join_only, leader_append_only, local_only, only_of, rebuild_only, role_only, trigger_only, try_commit_only}
use Rattle.raft_steps.proofs.AllowedCalls.{do_append_only, elect_only, initialize_only, rebuild_progresses_only, vote_resp_only, voted_only}
use Rattle.raft_steps.proofs.LawsFollow.{Undeleting, keeps_nothing, undeleting, undeleting_elections}
use Rattle.raft_steps.proofs.LawsInstall.{Unpurging, unpurging, unpurging_elections}
use Rattle.raft_steps.proofs.laws.leading_keeps_the_log.Goals as goal

pub returns-clause-deletes : goal.returns-clause-deletes
returns-clause-deletes g c =
    let cmp = g.C.NodeId.Ord.cmp in
    let entry = g.C.Entry.RaftEntry in
    record {
      by_elect = λ config now m. elect_only Undeleting cmp entry config undeleting_elections now m;
      by_initialize = λ config first e now m. initialize_only Undeleting cmp entry config undeleting_elections first e now m;
      by_handle_vote_resp = λ config target resp now m. vote_resp_only Undeleting cmp entry config undeleting_elections target resp now m;
      by_update_vote = λ config v now m. voted_only Undeleting cmp entry config undeleting_elections v now m;
      by_internal = λ config m. internal_only Undeleting cmp config undeleting entry _ (λ vote leader e. refl) m refl;
      by_become_leader = λ config m. become_leader_only Undeleting cmp config undeleting entry _ (λ vote leader e. refl) m refl;
      by_become_following = λ config m. following_only Undeleting cmp config undeleting m;
      by_reply = λ resp k. only_of Undeleting (Respond None resp ∷ []) k _ refl (refl, tt);
      by_do_append = λ config es k. do_append_only Undeleting cmp entry config undeleting_elections es k;
      by_update_role = λ config k. role_only Undeleting cmp config undeleting k;
      by_trigger_snapshot = λ k. trigger_only Undeleting undeleting k;
      by_leader_append = λ config es l. leader_append_only Undeleting cmp config undeleting entry es l refl;
      by_append_membership = λ config s l. join_only Undeleting cmp config undeleting s l;
      by_rebuild_progresses = λ l. rebuild_progresses_only Undeleting cmp l;
      by_rebuild = λ config l. rebuild_only Undeleting cmp config undeleting l;
      by_initiate = λ config force l. initiate_only Undeleting cmp config undeleting force l;
      by_send = λ target f k. only_of Undeleting (Replicate target f ∷ []) k _ refl (refl, tt);
      by_try_commit = λ config x k. try_commit_only Undeleting cmp config undeleting x k;
      by_local_progress = λ config x l. local_only Undeleting cmp config undeleting x l;
    }

pub returns-clause-purges : goal.returns-clause-purges
returns-clause-purges g c =
    let cmp = g.C.NodeId.Ord.cmp in
    let entry = g.C.Entry.RaftEntry in
    record {
      by_elect = λ config now m. elect_only Unpurging cmp entry config unpurging_elections now m;
      by_initialize = λ config first e now m. initialize_only Unpurging cmp entry config unpurging_elections first e now m;
      by_handle_vote_resp = λ config target resp now m. vote_resp_only Unpurging cmp entry config unpurging_elections target resp now m;
      by_update_vote = λ config v now m. voted_only Unpurging cmp entry config unpurging_elections v now m;
      by_internal = λ config m. internal_only Unpurging cmp config unpurging entry _ (λ vote leader e. refl) m refl;
      by_become_leader = λ config m. become_leader_only Unpurging cmp config unpurging entry _ (λ vote leader e. refl) m refl;
      by_become_following = λ config m. following_only Unpurging cmp config unpurging m;
      by_reply = λ resp k. only_of Unpurging (Respond None resp ∷ []) k _ refl (refl, tt);
      by_do_append = λ config es k. do_append_only Unpurging cmp entry config unpurging_elections es k;
      by_update_role = λ config k. role_only Unpurging cmp config unpurging k;
      by_trigger_snapshot = λ k. trigger_only Unpurging unpurging k;
      by_leader_append = λ config es l. leader_append_only Unpurging cmp config unpurging entry es l refl;
      by_append_membership = λ config s l. join_only Unpurging cmp config unpurging s l;
      by_rebuild_progresses = λ l. rebuild_progresses_only Unpurging cmp l;
      by_rebuild = λ config l. rebuild_only Unpurging cmp config unpurging l;
      by_initiate = λ config force l. initiate_only Unpurging cmp config unpurging force l;
      by_send = λ target f k. only_of Unpurging (Replicate target f ∷ []) k _ refl (refl, tt);
      by_try_commit = λ config x k. try_commit_only Unpurging cmp config unpurging x k;
      by_local_progress = λ config x l. local_only Unpurging cmp config unpurging x l;
    }

pub returns-clause-keeps : goal.returns-clause-keeps
returns-clause-keeps g c = λ old new h. keeps_nothing old new h
