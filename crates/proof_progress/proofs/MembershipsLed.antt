-- So each membership that a leader proposed has it as a voter, in logs, in messages and in snapshots.
use Rattle.std.proofs.Common.{ℕ, ◌<◌, ◌≡◌, ◌∙◌, ap, arith, inl, inr, true, List, refl, sym, subst, Some}
use Rattle.std.specs.Prelude.{Contains, IfSome}
use Rattle.std.specs.List.{AllByRecursion}
use Rattle.std.specs.Ordering.{nat_cmp}
use Rattle.proof_deeds.specs.raft_state.declared.ids.Vote.{Vote}
use Rattle.proof_deeds.specs.raft_state.declared.membership.StoredMembership.{StoredMembership}
use Rattle.proof_deeds.specs.raft_state.Members.{voter_ids}
use Rattle.proof_deeds.specs.raft_state.Same.{nat_same}
use Rattle.proof_deeds.proofs.raft_state_proofs.Orders.{is_equal}
use Rattle.proof_deeds.specs.raft_steps.Invariants.{LeaderFits}
use Rattle.proof_deeds.specs.raft_store.declared.entry.Entry.{Entry}
use Rattle.proof_deeds.specs.raft_store.Store.{whole}
use Rattle.proof_deeds.specs.raft_store.Types.{EngineView, WorldLeader}
use Rattle.proof_deeds.specs.raft_schedule.declared.event.Event.{Event}
use Rattle.proof_deeds.specs.raft_schedule.declared.event.EventKind.{EventKind}
use Rattle.proof_deeds.specs.raft_schedule.declared.event.EventKind.TheVariants as kinds
use Rattle.proof_deeds.specs.raft_calls.Elections.{first_entry}
use Rattle.proof_deeds.specs.raft_calls.Memberships.{groups_in, members_with, membership_entry}
use Rattle.proof_deeds.specs.raft_node.declared.given.Given.{Given}
use Rattle.proof_deeds.specs.raft_node.Net.{NodeView}
use Rattle.proof_deeds.specs.raft_node.Runs.{world_after}
use Rattle.proof_deeds.specs.raft_node.WellFormed.{IsWellFormed}
use Rattle.proof_deeds.specs.Follows.{StoreIs}
use Rattle.proof_deeds.specs.Images.{Ideal, number, setup_of}
use Rattle.proof_deeds.specs.Knows.{KnowsLed}
use Rattle.proof_deeds.specs.Nets.{EngineFollows, NodeFollows}
use Rattle.proof_deeds.proofs.Leading.{leaders_positive}
use Rattle.proof_deeds.proofs.Promised.{one_of}
use Rattle.proof_deeds.proofs.Proved.{followed}
use Rattle.proof_deeds.proofs.Worlds.{each_on}
use Rattle.proof_progress.specs.Changes.{HasItsLeader, KeepsProposer, LeaderVotes, MembershipsHaveLeaders, OnlyVotersStand, OwnsVote}
use Rattle.proof_progress.specs.Choices.{is_among}
use Rattle.proof_progress.specs.Elections.{Listed, members}
use Rattle.proof_progress.proofs.EntriesCalled.{proposed_by}
use Rattle.proof_progress.proofs.EntriesKept.{NetOf, NodeOf, Proposing, run_keeps}
use Rattle.proof_progress.proofs.EntriesQueued.{IsCommon}
use Rattle.proof_progress.proofs.EntriesStored.{whole_keeps}
use Rattle.proof_progress.proofs.LeadersStay.{leaders_vote}
use Rattle.proof_progress.proofs.LeadersVote.{proposed_votes}
use Rattle.proof_progress.proofs.Voters.{voter_votes}
use Rattle.proof_progress.proofs.VotersStand.{engine_follows}

abbrev pub Keeps : Event → Type 0
Keeps e = OnlyVotersStand e.kind × KeepsProposer e.kind

module _ (given : Given) (wf : IsWellFormed given) where
  -- a leader at work was elected, and is a voter of its engine's membership
  pub record Leads (n : NodeView) (e : EngineView) (l : WorldLeader) : Type 0 where
    pub own : l.vote.leader_id.node_id ≡ n.id
    pub positive : 0 < number l.vote.leader_id
    pub among : is_among (groups_in e) n.id ≡ true

  leads : (done : List Event) → AllByRecursion Keeps done → (n : NodeView) → Contains (world_after given done).nodes n → (e : EngineView)
      → n.engine ≡ Some e → (l : WorldLeader) → e.machine.leader ≡ Some l → Leads n e l
  leads done v n there e is l led =
      let f : EngineFollows (setup_of given.membership) n (followed given wf done).world e =
      subst (λ o. IfSome o (EngineFollows (setup_of given.membership) n (followed given wf done).world)) is (engine_follows given wf done n there) in
      let k : KnowsLed (setup_of given.membership) n.id e.machine.core.state l (followed given wf done).world =
      subst (λ o. IfSome o (λ l. KnowsLed (setup_of given.membership) n.id e.machine.core.state l (followed given wf done).world)) led f.knows.leader in
      let g : LeaderFits nat_cmp e.config.id e.machine.core.state.ids e.machine.core.state.purged (members e) l =
      subst (λ o. IfSome o (LeaderFits nat_cmp e.config.id e.machine.core.state.ids e.machine.core.state.purged (members e))) led f.sound.lead.leader_fits in
      let own : l.vote.leader_id.node_id ≡ n.id =
      nat_same l.vote.leader_id.node_id e.config.id (is_equal (nat_cmp l.vote.leader_id.node_id e.config.id) g.own) ∙ f.id in
      let votes : LeaderVotes n = one_of LeaderVotes (world_after given done).nodes n (leaders_vote given wf done v) there in
      let same : l.vote ≡ n.store.vote = k.vote ∙ f.in_step.mirrors.log.vote_is in
      let listed : Listed (voter_ids nat_cmp (members e)) n.id =
      subst (λ (m : StoredMembership ℕ (Unit {0})). Listed (voter_ids nat_cmp m.membership) n.id) (sym f.in_step.mirrors.em) (votes (subst (λ v. OwnsVote n.id v) same (g.committed, own))) in
      let W : Ideal = (followed given wf done).world in
      let store : StoreIs (setup_of given.membership) n.store (W.store n.id) =
      (one_of (NodeFollows (setup_of given.membership) (followed given wf done).world (world_after given done).records) (world_after given done).nodes n (followed given wf done).follows.nodes there).store in
      let elected : 0 < (W.store n.id).vote =
      (leaders_positive (setup_of given.membership) (followed given wf done).world (followed given wf done).follows.reached).stored n.id (store.vote_committed ∙ (ap (λ (v : Vote ℕ). v.committed) (sym same) ∙ g.committed)) in
      let is : (W.store n.id).vote ≡ number l.vote.leader_id = store.vote ∙ ap (λ (v : Vote ℕ). number v.leader_id) (sym same) in
      record { own = own; positive = omega (arith, elected, is); among = voter_votes (members e) n.id listed }

  -- entries of a kind, if a leader's memberships are of it
  module _ (K : Entry → Type 0) (common : IsCommon K) (begins : K (first_entry given.membership))
      (proposed : (n : NodeView) (e : EngineView) (l : WorldLeader) → Leads n e l → (groups : List (List ℕ)) (learners : List ℕ) → is_among groups n.id ≡ true → K (proposed_by l (membership_entry (members_with groups learners)))) where
    proposes : (done : List Event) (event : Event) → AllByRecursion Keeps done → Keeps event → (n : NodeView) → Contains (world_after given done).nodes n → Proposing K event.kind n
    proposes done event v a n there = go event.kind a.1
      where
        go : (kind : EventKind) → KeepsProposer kind → Proposing K kind n
        go (kinds.Member i learners) p = λ s e is l led. let k : Leads n e l = leads done v n there e is l led in proposed n e l k (groups_in e) learners k.among
        go (kinds.Change i groups learners) p = λ here s e is l led. proposed n e l (leads done v n there e is l led) groups learners (subst (λ d. is_among groups d ≡ true) (sym here) p)
        go (kinds.Init i) p = tt
        go (kinds.Timeout i) p = tt
        go (kinds.Stand i) p = tt
        go (kinds.Deliver i) p = tt
        go (kinds.Propose i values) p = tt
        go (kinds.Heartbeat i) p = tt
        go (kinds.Fail i target) p = tt
        go (kinds.Snapshot i) p = tt
        go (kinds.Built i) p = tt
        go (kinds.Purge i x) p = tt
        go (kinds.Restart i start) p = tt
        go (kinds.Read i) p = tt
        go (kinds.Down i) p = tt
        go (kinds.Stop i) p = tt

    -- all that nodes store and send is
    pub all_proposed : (past : List Event) → AllByRecursion Keeps past → NetOf K (world_after given past)
    all_proposed past v = run_keeps K common given begins wf Keeps (λ done event d a h n there. proposes done event d a n there) past v

  all_led : (past : List Event) → AllByRecursion Keeps past → NetOf HasItsLeader (world_after given past)
  all_led past v =
      all_proposed HasItsLeader (record { blank = λ x. tt; value = λ x v. tt }) (inl refl)
      (λ n e l k groups learners h. inr (subst (Listed (voter_ids nat_cmp (members_with groups learners))) (sym k.own) (proposed_votes groups learners n.id h))) past v

pub memberships_led : MembershipsHaveLeaders
memberships_led given wf past v =
    each_on (NodeOf HasItsLeader) (λ (n : NodeView). AllByRecursion HasItsLeader (whole n.store)) (λ n h. whole_keeps HasItsLeader n.store h.store) (world_after given past).nodes (all_led given wf past v).nodes
