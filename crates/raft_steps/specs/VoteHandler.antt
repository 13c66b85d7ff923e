-- Which votes are adopted, and which role a node has by them.
use Rattle.std.specs.Prelude.{ℕ, Bool, [], ◌∷◌, None, Some, Result, Ok, Err, if◌then◌else◌}
use Rattle.std.specs.Ordering.{is_eq, is_lt, is_gt}
use Rattle.raft_state.specs.declared.policy.RejectVoteRequest.{RejectVoteRequest}
use Rattle.raft_state.specs.State.{is_leader, is_leading, by_last_leader}
use Rattle.raft_command.specs.declared.command.Command.TheVariants.{SaveVote}
use Rattle.raft_steps.specs.ServerStateHandler.{update_role}
use Rattle.raft_steps.specs.ReplicationHandler.{rebuild_replication_streams}
use Rattle.raft_steps.specs.LeaderHandler.{leader_append_entries}
use Rattle.raft_proposer.specs.Leader.{leader_in}
use Rattle.std.specs.declared.cmp.Ordering.{Ordering}
use Rattle.raft_state.specs.declared.ids.Vote.{Vote}
use Rattle.raft_state.specs.declared.state.RaftState.{RaftState}
use Rattle.raft_state.specs.Order.{last_id_cmp, vote_cmp, leader_id_cmp}
use Rattle.raft_command.specs.declared.config.EngineConfig.{EngineConfig}
use Rattle.raft_steps.specs.Parts.{Core, Led, Machine, then_command, with_state, under, on_core, leading}
use Rattle.raft_state.specs.declared.config.RaftEntry
use Rattle.raft_state.specs.declared.policy.RejectVoteRequest.TheVariants as reject

module _ {NID N : Type 0} (cmp : NID → NID → Ordering) where
  -- a vote below this node's own is rejected
  abbrev pub rejects_vote : RaftState NID N → Vote NID → Bool
  rejects_vote s v = is_lt (vote_cmp cmp v s.vote)

  abbrev pub vote_answer : RaftState NID N → Vote NID → Result (Unit {0}) (RejectVoteRequest NID)
  vote_answer s v = if rejects_vote s v then Err (reject.ByVote s.vote) else Ok tt

module _ {C NID N E D R S : Type 0} (cmp : NID → NID → Ordering) (config : EngineConfig NID) where
  -- no leader and no candidate, and the role of the vote and the effective membership
  unfoldable pub become_following : Machine C NID N E D R S → Machine C NID N E D R S
  become_following m = on_core (update_role cmp config) (record m { leader = None; candidate = None })

  -- a vote above ours is saved; an equal one only renews its time
  abbrev pub take_vote : Vote NID → ℕ → Core C NID N E D R S → Core C NID N E D R S
  take_vote v now c =
      if is_gt (vote_cmp cmp v c.state.vote)
      then then_command (with_state c (record c.state { vote = v; time = Some now })) (SaveVote v)
      else with_state c (record c.state { time = Some now })

module _ {C NID N E D R S : Type 0} (cmp : NID → NID → Ordering) (entry : RaftEntry.Ghosts E NID N) (config : EngineConfig NID) where
  -- a new leader's streams are rebuilt, and its no-op entry is proposed if the log has no entry of it
  unfoldable pub begin_lead : Led C NID N E D R S → Led C NID N E D R S
  begin_lead l =
      let led = rebuild_replication_streams cmp config (under (update_role cmp config) l) in
      if is_lt (last_id_cmp cmp l.leader.last_log_id (Some l.leader.noop_log_id))
      then leader_append_entries cmp entry config (entry.blank l.leader.noop_log_id ∷ []) led
      else led

  -- a new leader under the vote and the effective membership
  unfoldable pub lead_anew : Machine C NID N E D R S → Machine C NID N E D R S
  lead_anew m =
      let s = m.core.state in
      leading m (begin_lead (record { leader = leader_in cmp s.vote s.em.membership (by_last_leader cmp s.ids); core = m.core }))

  -- the leader goes on under the state's vote if it has its leader id; else there is a new one
  unfoldable pub become_leader : Machine C NID N E D R S → Machine C NID N E D R S
  become_leader m =
      elim m.leader [
        | None ↦ lead_anew m
        | Some l ↦
            (if is_eq (leader_id_cmp cmp l.vote.leader_id m.core.state.vote.leader_id)
            then on_core (update_role cmp config) (record m { leader = Some (record l { vote = m.core.state.vote }) })
            else lead_anew m)
      ]

  -- the node leads, waits for votes, or follows
  unfoldable pub update_internal_server_state : Machine C NID N E D R S → Machine C NID N E D R S
  update_internal_server_state m =
      if is_leader cmp m.core.state config.id then become_leader m
      else if is_leading cmp m.core.state config.id then m
      else become_following cmp config m

  -- a vote that isn't below ours is adopted, and the node has the role that follows
  unfoldable pub update_vote : Vote NID → ℕ → Machine C NID N E D R S → Machine C NID N E D R S
  update_vote v now m =
      if rejects_vote cmp m.core.state v then m
      else update_internal_server_state (on_core (take_vote cmp config v now) m)
