-- What a leader of a reached world knows: what it knows to match of a node's log is held, if the node's vote isn't above its own.
use Rattle.std.proofs.Common.{ℕ, ◌≤◌, ◌≡◌, ◌≢◌, ◌⊎◌, ⊎_elim, Bool, true, false, List, sym, refl, ap, ◌∙◌, subst, arith, Option, Some}
use Rattle.std.specs.Prelude.{IfSome}
use Rattle.std.specs.Option.{option_map}
use Rattle.std.specs.Ordering.{nat_cmp}
use Rattle.proof_deeds.specs.raft_state.declared.ids.LogId.{LogId}
use Rattle.proof_deeds.specs.raft_state.declared.ids.Vote.{Vote}
use Rattle.proof_deeds.specs.raft_state.State.{has_log_id}
use Rattle.proof_deeds.specs.raft_progress_entry.declared.entry.ProgressEntry.{ProgressEntry}
use Rattle.proof_deeds.specs.raft_progress.Table.{get}
use Rattle.proof_deeds.specs.raft_command.declared.replication.ReplicationSessionId.{ReplicationSessionId}
use Rattle.proof_deeds.specs.raft_steps.Invariants.{IsSoundLed, LeaderFits}
use Rattle.proof_deeds.specs.raft_steps.VoteHandler.{rejects_vote}
use Rattle.proof_deeds.specs.raft_store.declared.entry.Entry.{Entry}
use Rattle.proof_deeds.specs.raft_store.Types.{EngineView, WorldLeader}
use Rattle.proof_deeds.specs.raft_schedule.declared.event.Event.{Event}
use Rattle.proof_deeds.specs.raft_node.declared.given.Given.{Given}
use Rattle.proof_deeds.specs.raft_calls.declared.message.Body.TheVariants as body
use Rattle.proof_deeds.specs.raft_calls.declared.message.Origin.{Origin}
use Rattle.proof_deeds.specs.raft_calls.Deliveries.{session_of}
use Rattle.proof_deeds.specs.raft_node.Events.{message_at}
use Rattle.proof_deeds.specs.raft_node.Net.{NodeView}
use Rattle.proof_deeds.specs.raft_node.Runs.{world_after}
use Rattle.proof_deeds.specs.raft_node.WellFormed.{IsWellFormed}
use Rattle.proof_deeds.specs.proof_agreement.Deeds.{HasAccepted, Holds}
use Rattle.proof_deeds.specs.proof_agreement.Machine.{start}
use Rattle.proof_deeds.specs.Follows.{AppendSent}
use Rattle.proof_deeds.specs.Images.{Ideal, IdNamed, IsNamed, number, setup_of}
use Rattle.proof_deeds.specs.Knows.{KnowsLed, KnowsMatch}
use Rattle.proof_deeds.specs.Nets.{EngineFollows, NodeFollows}
use Rattle.proof_deeds.proofs.AppendFitting.{not_lower}
use Rattle.proof_deeds.proofs.AppendTails.{lacks_is, names_prev}
use Rattle.proof_deeds.proofs.Proved.{followed}
use Rattle.proof_deeds.proofs.Tails.{tail_named, tail_vote}
use Rattle.proof_deeds.proofs.Worlds.{stores_follow}
use Rattle.proof_progress.specs.Continuations.{At}
use Rattle.proof_progress.specs.Exchanges.{LeadsAt, led}
use Rattle.proof_progress.proofs.Campaigns.{at_id}
use Rattle.proof_progress.proofs.Exchanging.{append_sent, engine_follows, node_follows}
use Rattle.proof_progress.proofs.HeldMatches.{accepted_held, row_known}

module _ (given : Given) (wf : IsWellFormed given) (past : List Event) (now n : ℕ) (l : LeadsAt (world_after given past) now n) where
  pub follows : EngineFollows (setup_of given.membership) l.node (followed given wf past).world l.engine
  follows = engine_follows given wf past n l.node l.at l.engine l.runs

  pub sound_led : IsSoundLed nat_cmp l.engine.config (led l)
  sound_led = record {
    sound = follows.sound.sound;
    leader_fits = subst (λ p. IfSome p (LeaderFits nat_cmp l.engine.config.id l.engine.machine.core.state.ids l.engine.machine.core.state.purged l.engine.machine.core.state.em.membership)) l.leads follows.sound.lead.leader_fits;
  }

  pub knows : KnowsLed (setup_of given.membership) l.node.id l.engine.machine.core.state l.leader (followed given wf past).world
  knows = subst (λ p. IfSome p (λ (k : WorldLeader). KnowsLed (setup_of given.membership) l.node.id l.engine.machine.core.state k (followed given wf past).world)) l.leads follows.knows.leader

  -- its session is of its vote and its membership
  pub session_is : l.session ≡ record { vote = l.leader.vote; membership_log_id = l.engine.machine.core.state.em.log_id }
  session_is =
      let a : session_of l.engine ≡ Some (record { vote = l.leader.vote; membership_log_id = l.engine.machine.core.state.em.log_id }) = ap (λ (o : Option WorldLeader). option_map (λ (k : WorldLeader). let s : ReplicationSessionId ℕ = record { vote = k.vote; membership_log_id = l.engine.machine.core.state.em.log_id } in s) o) l.leads in
      let b : ◌≡◌ {A = Option (ReplicationSessionId ℕ)} (Some l.session) (Some (record { vote = l.leader.vote; membership_log_id = l.engine.machine.core.state.em.log_id })) = sym l.in_session ∙ a in
      cc

  abbrev ideal : Ideal
  ideal = (followed given wf past).world

  module _ (t : ℕ) (apart : n ≢ t) (e : ProgressEntry ℕ) (has : get nat_cmp l.leader.progress t ≡ Some e) (x : LogId ℕ) (matches : e.matching ≡ Some x) where
    -- the node has accepted what matches
    accepted : HasAccepted (followed given wf past).world t (number l.leader.vote.leader_id) x.index
    accepted =
        ⊎_elim (λ (i : t ≡ l.node.id). absurd (apart (sym (i ∙ at_id (world_after given past).nodes n l.node l.at)))) (λ (a : HasAccepted (followed given wf past).world t (number l.leader.vote.leader_id) x.index). a)
        (subst (λ o. IfSome o (λ (x : LogId ℕ). (t ≡ l.node.id) ⊎ HasAccepted (followed given wf past).world t (number l.leader.vote.leader_id) x.index)) matches
        (row_known (KnowsMatch l.node.id (number l.leader.vote.leader_id) (followed given wf past).world) t e l.leader.progress.rows knows.rows has))

    -- so it has that id, where a request of the leader names it
    module _ (N : NodeView) (there : At (world_after given past).nodes t N) (f : EngineView) (runs : N.engine ≡ Some f) (low : rejects_vote nat_cmp f.machine.core.state l.leader.vote ≡ false)
        (k : ℕ) (o : Origin) (prev : Option (LogId ℕ)) (es : List Entry) (told : Option (LogId ℕ)) (sent : message_at (world_after given past).records.bag k ≡ Some (record { from = n; to = t; body = body.AppendRequest o prev es told }))
        (own : o.session_id.vote ≡ l.leader.vote) (begins : prev ≡ Some x) where
      request : AppendSent (setup_of given.membership) t o prev es told (followed given wf past).world
      request = append_sent given wf past t N there f runs k n now o prev es told sent

      node : NodeFollows (setup_of given.membership) (followed given wf past).world (world_after given past).records N
      node = node_follows given wf past t N there

      engine : EngineFollows (setup_of given.membership) N (followed given wf past).world f
      engine = engine_follows given wf past t N there f runs

      same_vote : number o.session_id.vote.leader_id ≡ number l.leader.vote.leader_id
      same_vote = ap (λ (v : Vote ℕ). number v.leader_id) own

      not_above : number f.machine.core.state.vote.leader_id ≤ number l.leader.vote.leader_id
      not_above =
          not_lower l.leader.vote f.machine.core.state.vote (subst (λ (v : Vote ℕ). IsNamed v.leader_id) own request.leaders.named)
          (tail_named (setup_of given.membership) N.store ((followed given wf past).world.store N.id) f.machine.core.state node.store engine.in_step) low

      stored : ((followed given wf past).world.store N.id).vote ≤ number l.leader.vote.leader_id
      stored =
          let z : ((followed given wf past).world.store N.id).vote ≡ number f.machine.core.state.vote.leader_id = tail_vote (setup_of given.membership) N.store ((followed given wf past).world.store N.id) f.machine.core.state node.store engine.in_step in
          let l = not_above in
          omega (arith, z, l)

      holds : Holds (setup_of given.membership) ((followed given wf past).world.store N.id) x.index (number x.leader_id)
      holds =
          accepted_held (setup_of given.membership) refl (start (setup_of given.membership)) (followed given wf past).world (stores_follow (setup_of given.membership) (followed given wf past).world (followed given wf past).follows.reached) N.id
          (number l.leader.vote.leader_id) x.index (number x.leader_id) request.request
          (subst (λ j. HasAccepted (followed given wf past).world j (number l.leader.vote.leader_id) x.index) (sym (at_id (world_after given past).nodes t N there)) accepted) stored request.sent (request.is.session ∙ same_vote)
          (names_prev (setup_of given.membership) o prev es told request.request request.is x begins)

      pub matching_held : has_log_id nat_cmp f.machine.core.state x ≡ true
      matching_held = go (has_log_id nat_cmp f.machine.core.state x) refl
        where
          go : (b : Bool) → has_log_id nat_cmp f.machine.core.state x ≡ b → has_log_id nat_cmp f.machine.core.state x ≡ true
          go true q = q
          go false q =
              absurd
              (lacks_is (setup_of given.membership) N.store ((followed given wf past).world.store N.id) f.machine.core.state node.store engine.in_step x (subst IdNamed begins request.prev_named) q holds)
