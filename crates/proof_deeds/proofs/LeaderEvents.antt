-- The laws of a leader's calls at an event: a proposed value, heartbeats, replies and failures, and a higher vote in a
-- reply.
use Rattle.std.proofs.Common.{ℕ, ◌+◌, ◌-◌, ◌≤◌, ◌≡◌, ◌==◌, true, false, List, [], ◌∷◌, length, map, arith, refl, sym, ap, ◌∙◌, subst, Option, None, Some, Result}
use Rattle.std.specs.Prelude.{IfSome, not, slice_get, ◌&&◌}
use Rattle.std.specs.List.{AllByRecursion}
use Rattle.std.specs.Ordering.{is_eq, is_le, nat_cmp}
use Rattle.std.proofs.lemmas.Bool.{and_parts, cond_both}
use Rattle.std.proofs.lemmas.Cmp.{nat_cmp_total}
use Rattle.raft_node.specs.raft_state.declared.ids.LeaderId.{LeaderId}
use Rattle.raft_node.specs.raft_state.declared.ids.Vote.{Vote}
use Rattle.raft_node.specs.raft_state.declared.membership.Members.{Members}
use Rattle.raft_node.specs.raft_state.declared.membership.StoredMembership.{StoredMembership}
use Rattle.raft_node.specs.raft_state.Order.{last_id_cmp, next, vote_cmp}
use Rattle.raft_node.specs.raft_state.Same.{nat_same}
use Rattle.raft_node.specs.raft_command.declared.config.EngineConfig.{EngineConfig}
use Rattle.raft_node.specs.raft_command.declared.replication.ReplicationResult.{ReplicationResult}
use Rattle.raft_node.specs.raft_command.declared.replication.RequestId.{RequestId}
use Rattle.raft_node.specs.raft_proposer.Leader.{numbered}
use Rattle.raft_node.specs.raft_steps.Conditions.{MayPropose, may_change_membership}
use Rattle.raft_node.specs.raft_steps.FollowingHandler.{memberships_in}
use Rattle.raft_node.specs.raft_steps.Invariants.{IsSoundLed, LeaderFits}
use Rattle.raft_node.specs.raft_steps.LeaderHandler.{joined, last_proposed, leader_append_entries, proposed}
use Rattle.raft_node.specs.raft_steps.Parts.{led_of, leading}
use Rattle.raft_node.specs.raft_steps.Refusals.{blank_is_at_end, is_spent, refusals_of_update_vote}
use Rattle.raft_node.specs.raft_steps.Replies.{update_progress}
use Rattle.raft_node.specs.raft_steps.ReplyRefusals.{refusals_of_entry, refusals_of_result}
use Rattle.raft_node.specs.raft_steps.ReplicationHandler.{initiate_replication}
use Rattle.raft_node.specs.raft_steps.VoteHandler.{rejects_vote, update_vote}
use Rattle.raft_node.proofs.raft_steps_proofs.KeptEngine.{update_vote_is_sound}
use Rattle.raft_node.proofs.raft_steps_proofs.LawsQueue.{update_vote_queues}
use Rattle.raft_node.proofs.raft_steps_proofs.Unrefused.{second_fails}
use Rattle.raft_node.specs.raft_steps.Engine.{as_uncommitted}
use Rattle.raft_node.specs.raft_error.declared.error.EngineError.TheVariants.{IndexEnd, Spent}
use Rattle.raft_node.specs.raft_store.declared.entry.Value.{Value}
use Rattle.raft_node.specs.raft_store.declared.entry.Entry.{Entry}
use Rattle.raft_node.specs.raft_store.Entries.{entry_meaning, members_of}
use Rattle.raft_node.specs.raft_store.Types.{WorldLeader, WorldMachine, WorldStore}
use Rattle.proof_mirror.specs.Ready.{KnowsLog, PendingIn, PendingLed}
use Rattle.proof_mirror.proofs.Elections.{pending_update_vote}
use Rattle.proof_mirror.proofs.Orders.{Orderly}
use Rattle.proof_mirror.proofs.Proposes.{pending_propose, takes_id}
use Rattle.proof_mirror.proofs.Replying.{pending_progress}
use Rattle.proof_mirror.proofs.Sends.{pending_initiate}
use Rattle.proof_mirror.proofs.Starting.{sound_order}
use Rattle.raft_node.specs.declared.node.Turn.{Turn}
use Rattle.raft_node.specs.raft_calls.Feeds.{WorldLed}
use Rattle.raft_node.specs.raft_calls.LeaderCalls.{value_entry}
use Rattle.raft_node.proofs.raft_calls_proofs.LeaderReady.{no_members}
use Rattle.proof_deeds.specs.Images.{Ideal, setup_of}
use Rattle.proof_deeds.specs.Knows.{CarriedIn, Stands}
use Rattle.proof_deeds.proofs.AppendFitting.{Settled}
use Rattle.proof_deeds.proofs.Calls.{ByHeartbeat, ByHigherVote, ByMembership, ByProgress, ByPropose, ByStepDown}
use Rattle.proof_deeds.proofs.Drains.{takes}
use Rattle.proof_deeds.proofs.ElectionLaws.{elections_done}
use Rattle.proof_deeds.proofs.Kept.{vote_cm}
use Rattle.proof_deeds.proofs.LeaderLaws.{asked_change, leaders_done}
use Rattle.proof_deeds.proofs.LeaderSettles.{membership_keeps, progress_keeps}
use Rattle.proof_deeds.proofs.Laws.{unread, voted}
use Rattle.proof_deeds.proofs.OwnSettles.{kept_same, kept_unset}
use Rattle.proof_deeds.proofs.Quorums.{means_setup}
use Rattle.proof_deeds.proofs.StartSettles.{step_down_settles}

-- values bring no membership, also once they have their ids
values_bare : (values : List Value) → AllByRecursion (λ (e : Entry). members_of e.payload ≡ None) (map value_entry values)
values_bare [] = tt
values_bare (v ∷ values) = (refl, values_bare values)

pub none_assigned : (leader : LeaderId ℕ) (n : ℕ) (values : List Value) → memberships_in entry_meaning (numbered entry_meaning leader n (map value_entry values)) ≡ []
none_assigned leader n [] = refl
none_assigned leader n (v ∷ values) = none_assigned leader (n + 1) values

module _ (first : Members ℕ (Unit {0})) (t : Turn) (config : EngineConfig ℕ) (u : WorldStore) (W : Ideal) (m : WorldMachine) (h : Stands (setup_of first) t config u W m) where
  module _ (l : WorldLeader) (leads : m.leader ≡ Some l) where
    abbrev led : WorldLed
    led = led_of l m.core.state m.core.output

    pub led_sound : IsSoundLed nat_cmp config led
    led_sound = record { sound = h.sound.sound; leader_fits = subst (λ o. IfSome o (LeaderFits nat_cmp config.id m.core.state.ids m.core.state.purged m.core.state.em.membership)) leads h.sound.lead.leader_fits }

    led_pending : PendingLed nat_cmp entry_meaning (λ es. es) u led
    led_pending = record { core = h.pending.core; knows = subst (λ o. IfSome o (KnowsLog m.core.state.ids)) leads h.pending.knows }

    -- what the queue is after a leader's call
    back : (n : WorldLed) → PendingLed nat_cmp entry_meaning (λ es. es) u n → PendingIn nat_cmp entry_meaning (λ es. es) u (leading m n)
    back n p = record { core = p.core; knows = p.knows }

    -- values may be proposed under the state's vote
    pub may_propose : (values : List Value) → is_eq (vote_cmp nat_cmp l.vote m.core.state.vote) ≡ true → MayPropose nat_cmp entry_meaning led (map value_entry values)
    may_propose values own = record {
      own_vote = own;
      at_most_one = subst (λ (ms : List (StoredMembership ℕ (Unit {0}))). length ms ≤ 1) (sym (no_members values)) (omega arith);
      change = subst (λ (ms : List (StoredMembership ℕ (Unit {0}))). AllByRecursion (λ x. may_change_membership nat_cmp led x.membership ≡ true) ms) (sym (no_members values)) tt;
    }

    pub proposed_pending : (values : List Value) → Orderly nat_cmp (leader_append_entries nat_cmp entry_meaning config (map value_entry values) led).core.state
        → PendingIn nat_cmp entry_meaning (λ es. es) u (leading m (leader_append_entries nat_cmp entry_meaning config (map value_entry values) led))
    proposed_pending values ord =
        back (leader_append_entries nat_cmp entry_meaning config (map value_entry values) led)
        (pending_propose nat_cmp entry_meaning (λ es. es) config (takes_id entry_meaning takes) u (map value_entry values) led led_pending
        (subst (λ (ms : List (StoredMembership ℕ (Unit {0}))). length ms ≤ 1) (sym (none_assigned l.vote.leader_id (next l.last_log_id) values)) (omega arith)) ord)

    -- so may a membership
    among : (e : Entry) (members : Members ℕ (Unit {0})) → members_of e.payload ≡ Some members → memberships_in entry_meaning (e ∷ []) ≡ record { log_id = Some e.log_id; membership = members } ∷ []
    among e members holds = rw holds refl

    pub membership_pending : (e : Entry) (members : Members ℕ (Unit {0})) → members_of e.payload ≡ Some members → Orderly nat_cmp (leader_append_entries nat_cmp entry_meaning config (e ∷ []) led).core.state
        → PendingIn nat_cmp entry_meaning (λ es. es) u (leading m (leader_append_entries nat_cmp entry_meaning config (e ∷ []) led))
    membership_pending e members holds ord =
        let given : Entry = record e { log_id = record { leader_id = l.vote.leader_id; index = next l.last_log_id } } in
        back (leader_append_entries nat_cmp entry_meaning config (e ∷ []) led)
        (pending_propose nat_cmp entry_meaning (λ es. es) config (takes_id entry_meaning takes) u (e ∷ []) led led_pending
        (subst (λ (ms : List (StoredMembership ℕ (Unit {0}))). length ms ≤ 1) (sym (among given members holds)) (omega arith)) ord)

    pub heartbeat_pending : PendingIn nat_cmp entry_meaning (λ es. es) u (leading m (initiate_replication nat_cmp config true led))
    heartbeat_pending = back (initiate_replication nat_cmp config true led) (pending_initiate nat_cmp entry_meaning (λ es. es) config u true led led_pending)

    pub progress_pending : (target : ℕ) (id : RequestId) (reply : Result (ReplicationResult ℕ) (Unit {0})) → refusals_of_entry nat_cmp target (λ e. refusals_of_result nat_cmp m.core.state e id reply) l ≡ None
        → PendingIn nat_cmp entry_meaning (λ es. es) u (leading m (update_progress nat_cmp config target id reply led))
    progress_pending target id reply a = back (update_progress nat_cmp config target id reply led) (pending_progress nat_cmp nat_cmp_total nat_same entry_meaning (λ es. es) config u target id reply led h.pending.core a led_sound)

  higher_asks : (v : Vote ℕ) → refusals_of_update_vote nat_cmp config v m ≡ None → (not (rejects_vote nat_cmp m.core.state v) && blank_is_at_end nat_cmp config v m) ≡ false
  higher_asks v asks = second_fails (is_spent m) (not (rejects_vote nat_cmp m.core.state v) && blank_is_at_end nat_cmp config v m) Spent IndexEnd None asks

  pub higher_pending : (v : Vote ℕ) → refusals_of_update_vote nat_cmp config v m ≡ None → PendingIn nat_cmp entry_meaning (λ es. es) u (update_vote nat_cmp entry_meaning config v t.moment m)
  higher_pending v asks =
      pending_update_vote nat_cmp entry_meaning (takes_id entry_meaning takes) (λ es. es) config u v t.moment m h.pending
      (sound_order nat_cmp config (update_vote nat_cmp entry_meaning config v t.moment m) (update_vote_is_sound nat_cmp nat_cmp_total nat_same entry_meaning takes config v t.moment m (higher_asks v asks) h.sound))

-- the laws
module _ (first : Members ℕ (Unit {0})) where
  values_settle : (config : EngineConfig ℕ) (W : Ideal) (m : WorldMachine) (l : WorldLeader) (values : List Value) → Settled (setup_of first) W m.core.state
      → Settled (setup_of first) W (leader_append_entries nat_cmp entry_meaning config (map value_entry values) (led_of l m.core.state m.core.output)).core.state
  unfolding leader_append_entries proposed initiate_replication
  values_settle config W m l values x =
      let led : WorldLed = led_of l m.core.state m.core.output in
      let es : List Entry = map value_entry values in
      let last : last_proposed entry_meaning l es ≡ None = ap (λ ms. slice_get ms (length ms - 1)) (none_assigned l.vote.leader_id (next l.last_log_id) values) in
      let appended : Option (StoredMembership ℕ (Unit {0})) → WorldLed = λ o. initiate_replication nat_cmp config false (joined nat_cmp config o (proposed entry_meaning es led)) in
      cond_both (length es == 0) led (appended (last_proposed entry_meaning l es)) (λ (z : WorldLed). Settled (setup_of first) W z.core.state) (λ _. x)
      (λ _. subst (λ o. Settled (setup_of first) W (appended o).core.state) (sym last) (kept_same (setup_of first) W m.core.state (appended None).core.state refl (omega arith) refl x))

  pub propose_law : ByPropose first (Settled (setup_of first))
  propose_law t config u W m h values l e own asks x = (
    (leaders_done first).by_append config t u W m l (map value_entry values) (record { stands = h; leader = e }) (values_bare values) (may_propose first t config u W m h l e values own) asks,
    values_settle config W m l values x,
  )

  pub membership_law : ByMembership first (Settled (setup_of first))
  membership_law t config u W m h e members holds l is may asks x = (
    (leaders_done first).by_change config t u W m l e members (record { stands = h; leader = is }) holds may asks,
    membership_keeps (setup_of first) (means_setup first) t config u W m h l e members holds
        (and_parts (is_le (last_id_cmp nat_cmp m.core.state.em.log_id m.core.state.committed)) _ (asked_change (setup_of first) (means_setup first) t config u W m h l is e members holds may)).0,
  )

  pub step_down_law : ByStepDown first (Settled (setup_of first))
  step_down_law t config u W m h l is asks x = (
    (leaders_done first).by_step_down config t u W m h asks leads,
    step_down_settles first t config u W m x,
  )
    where
      leads : m.leader ≡ None → m.candidate ≡ None
      leads none = let q : ◌≡◌ {A = Option WorldLeader} (Some l) None = sym is ∙ none in cc

  pub heartbeat_law : ByHeartbeat first (Settled (setup_of first))
  unfolding initiate_replication
  heartbeat_law t config u W m h l e x = (
    (leaders_done first).by_initiate config t u W m l true (record { stands = h; leader = e }),
    kept_same (setup_of first) W m.core.state (initiate_replication nat_cmp config true (led_of l m.core.state m.core.output)).core.state refl (omega arith) refl x,
  )

  pub progress_law : ByProgress first (Settled (setup_of first))
  progress_law t config u W m h l e target id reply other a is x = (
    (leaders_done first).by_progress config t u W m l target id reply (record { stands = h; leader = e }) other a is,
    progress_keeps (setup_of first) W t config u m h target id reply l (led_sound first t config u W m h l e) a x,
  )

  pub higher_vote_law : ByHigherVote first (Settled (setup_of first))
  higher_vote_law t config u W m h empty v told asks x =
      let n : WorldMachine = update_vote nat_cmp entry_meaning config (as_uncommitted v) t.moment m in
      let k : CarriedIn (setup_of first) t u W n = (elections_done first).by_higher_vote config t u W v t.moment m h (unread m.core.output.items empty) told in (
        k,
        voted first (Settled (setup_of first)) (kept_same (setup_of first)) (kept_unset (setup_of first)) t config u W m n h (higher_pending first t config u W m h (as_uncommitted v) asks) k (vote_cm config (as_uncommitted v) t.moment m)
            (update_vote_queues nat_cmp nat_cmp_total entry_meaning config (as_uncommitted v) t.moment m) x,
      )
