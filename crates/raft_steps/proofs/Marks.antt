-- What steps leave of the vote, its time and the committed id.
use Rattle.std.specs.Prelude.{◌≡◌, ℕ, ◌-◌, ◌==◌, List, [], ◌∷◌, Option, None, Some, refl, length, map, fold, drop}
use Rattle.std.proofs.Common.{◌∙◌}
use Rattle.std.specs.declared.cmp.Ordering.{Ordering}
use Rattle.std.specs.Ordering.{is_eq, is_lt, is_gt}
use Rattle.raft_state.specs.declared.config.RaftEntry
use Rattle.raft_state.specs.declared.ids.LogId.{LogId}
use Rattle.raft_state.specs.declared.membership.StoredMembership.{StoredMembership}
use Rattle.raft_state.specs.declared.state.RaftState.{RaftState}
use Rattle.raft_state.specs.Log.{last}
use Rattle.raft_state.specs.Order.{last_id_cmp, leader_id_cmp}
use Rattle.raft_state.specs.State.{accept, accepted, append_membership, extend, has_log_id, is_leader, is_leading, by_last_leader}
use Rattle.raft_command.specs.declared.config.EngineConfig.{EngineConfig}
use Rattle.raft_steps.specs.FollowingHandler.{commit_target, holds_previous, is_held, new_entries, truncate_logs, truncate_for, ensure_log_consecutive, commit_entries, do_append_entries, with_entries, memberships_in}
use Rattle.raft_steps.specs.FollowingHandler as following
use Rattle.raft_proposer.specs.Leader.{leader_in}
use Rattle.raft_steps.specs.LeaderHandler.{proposed, last_proposed, leader_append_entries}
use Rattle.raft_steps.specs.Parts.{Core, Led, Machine, with_state}
use Rattle.raft_steps.specs.ReplicationHandler.{rebuild_progresses, rebuild_replication_streams, initiate_replication, append_membership_led}
use Rattle.raft_steps.specs.Requests.{follow}
use Rattle.raft_steps.specs.ServerStateHandler.{update_role}
use Rattle.raft_steps.specs.VoteHandler.{become_following, begin_lead, lead_anew, become_leader, update_internal_server_state}
use Rattle.raft_steps.proofs.Kept.{either, either_option}
use Rattle.raft_steps.specs.Laws.{later}
use Rattle.raft_steps.proofs.KeptAppend.{truncate_case}

module _ {NID N : Type 0} where
  -- the vote, its time and the committed id stay
  pub record SameMarks (s t : RaftState NID N) : Type 0 where
    pub vote : t.vote ≡ s.vote
    pub time : t.time ≡ s.time
    pub committed : t.committed ≡ s.committed

  pub marks_self : (s : RaftState NID N) → SameMarks s s
  marks_self s = record { vote = refl; time = refl; committed = refl }

  pub marks_then : (a b c : RaftState NID N) → SameMarks a b → SameMarks b c → SameMarks a c
  marks_then a b c h k = record { vote = k.vote ∙ h.vote; time = k.time ∙ h.time; committed = k.committed ∙ h.committed }

  joined_marks : (ms : List (StoredMembership NID N)) (s : RaftState NID N) → SameMarks s (fold append_membership s ms)
  joined_marks [] s = marks_self s
  joined_marks (m ∷ ms) s = let k = joined_marks ms (append_membership s m) in record { vote = k.vote; time = k.time; committed = k.committed }

module _ {NID N : Type 0} (cmp : NID → NID → Ordering) where
  pub noted_marks : (x : Option (LogId NID)) (s : RaftState NID N) → SameMarks s (accept cmp s x)
  noted_marks x s = either (SameMarks s) (is_gt (last_id_cmp cmp x (accepted cmp s))) _ _ (record { vote = refl; time = refl; committed = refl }) (marks_self s)

module _ {C NID N E D R S : Type 0} (cmp : NID → NID → Ordering) (config : EngineConfig NID) where
  pub truncate_marks : (i : ℕ) (c : Core C NID N E D R S) → SameMarks c.state (truncate_logs cmp config i c).state
  truncate_marks i c = truncate_case cmp config (λ (d : Core C NID N E D R S). SameMarks c.state d.state) i c (λ none. marks_self c.state) (λ first found em role q. record { vote = refl; time = refl; committed = refl })

  pub consecutive_marks : (prev : Option (LogId NID)) (c : Core C NID N E D R S) → SameMarks c.state (ensure_log_consecutive cmp config prev c).state
  unfolding ensure_log_consecutive
  consecutive_marks None c = marks_self c.state
  consecutive_marks (Some x) c = either (λ (d : Core C NID N E D R S). SameMarks c.state d.state) (has_log_id cmp c.state x) _ _ (marks_self c.state) (truncate_marks x.index c)

module _ {C NID N E D R S : Type 0} (cmp : NID → NID → Ordering) (entry : RaftEntry.Ghosts E NID N) (config : EngineConfig NID) where
  propose_marks : (es : List E) (l : Led C NID N E D R S) → SameMarks l.core.state (leader_append_entries cmp entry config es l).core.state
  unfolding leader_append_entries proposed initiate_replication append_membership_led rebuild_replication_streams rebuild_progresses
  propose_marks es l =
      either (λ (q : Led C NID N E D R S). SameMarks l.core.state q.core.state) (length es == 0) _ _ (marks_self l.core.state)
      (either_option (λ (q : Led C NID N E D R S). SameMarks l.core.state q.core.state) (last_proposed entry l.leader es) _ _
      (record { vote = refl; time = refl; committed = refl }) (λ m. record { vote = refl; time = refl; committed = refl }))

  lead_anew_marks : (m : Machine C NID N E D R S) → SameMarks m.core.state (lead_anew cmp entry config m).core.state
  unfolding lead_anew begin_lead update_role rebuild_replication_streams
  lead_anew_marks m =
      let l : Led C NID N E D R S = record { leader = leader_in cmp m.core.state.vote m.core.state.em.membership (by_last_leader cmp m.core.state.ids); core = update_role cmp config m.core } in
      let led = rebuild_replication_streams cmp config l in
      let k = propose_marks (entry.blank l.leader.noop_log_id ∷ []) led in
      either (λ (q : Led C NID N E D R S). SameMarks m.core.state q.core.state) (is_lt (last_id_cmp cmp l.leader.last_log_id (Some l.leader.noop_log_id))) _ _
      (record { vote = k.vote; time = k.time; committed = k.committed }) (record { vote = refl; time = refl; committed = refl })

  pub internal_marks : (m : Machine C NID N E D R S) → SameMarks m.core.state (update_internal_server_state cmp entry config m).core.state
  unfolding update_internal_server_state become_leader become_following update_role
  internal_marks m =
      let P = λ (q : Machine C NID N E D R S). SameMarks m.core.state q.core.state in
      either P (is_leader cmp m.core.state config.id) _ _
      (either_option P m.leader _ _ (lead_anew_marks m)
      (λ l. either P (is_eq (leader_id_cmp cmp l.vote.leader_id m.core.state.vote.leader_id)) _ _ (record { vote = refl; time = refl; committed = refl }) (lead_anew_marks m)))
      (either P (is_leading cmp m.core.state config.id) _ _ (marks_self m.core.state) (record { vote = refl; time = refl; committed = refl }))

  pub truncate_for_marks : (es : List E) (c : Core C NID N E D R S) → SameMarks c.state (truncate_for cmp entry config es c).state
  truncate_for_marks [] c = marks_self c.state
  truncate_for_marks (e ∷ es) c = truncate_marks cmp config (entry.id_of e).index c

  pub do_append_marks : (es : List E) (c : Core C NID N E D R S) → SameMarks c.state (do_append_entries cmp entry config es c).state
  unfolding do_append_entries update_role
  do_append_marks es c =
      let k = joined_marks (drop (length (memberships_in entry es) - 2) (memberships_in entry es)) (extend c.state (map entry.id_of es)) in
      either (λ (q : Core C NID N E D R S). SameMarks c.state q.state) (length es == 0) _ _ (marks_self c.state)
      (either (λ (q : Core C NID N E D R S). SameMarks c.state q.state) (length (memberships_in entry es) == 0) _ _
      (record { vote = k.vote; time = k.time; committed = k.committed }) (record { vote = k.vote; time = k.time; committed = k.committed }))

  pub append_marks : (prev : Option (LogId NID)) (es : List E) (c : Core C NID N E D R S) → SameMarks c.state (following.append_entries cmp entry config prev es c).state
  unfolding following.append_entries
  append_marks prev es c =
      let noted = with_state c (accept cmp c.state (later cmp prev (last (map entry.id_of es)))) in
      let new = new_entries cmp entry c.state es in
      let cut = truncate_for cmp entry config new noted in
      marks_then c.state noted.state _ (noted_marks cmp (later cmp prev (last (map entry.id_of es))) c.state)
      (marks_then noted.state cut.state _ (truncate_for_marks new noted) (do_append_marks new cut))

  pub follow_marks : (prev : Option (LogId NID)) (es : List E) (c : Core C NID N E D R S) → SameMarks c.state (follow cmp entry config prev es c).state
  unfolding follow
  follow_marks prev es c = either (λ (q : Core C NID N E D R S). SameMarks c.state q.state) (holds_previous cmp c.state prev) _ _ (append_marks prev es c) (consecutive_marks cmp config prev c)
