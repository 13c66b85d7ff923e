-- Replies to a candidate's request.
use Rattle.std.proofs.Common.{ℕ, ◌≡◌, ◌⊎◌, inl, inr, ⊎_elim, Bool, true, false, List, [], ◌∷◌, map, refl, sym, subst, Option, Some, None}
use Rattle.std.specs.Prelude.{IfSome, if◌then◌else◌}
use Rattle.std.specs.List.{AllByRecursion}
use Rattle.std.specs.Ordering.{is_eq, nat_cmp}
use Rattle.std.proofs.lemmas.Bool.{and_parts, cond_both}
use Rattle.raft_node.specs.raft_state.declared.ids.LogId.{LogId}
use Rattle.raft_node.specs.raft_state.declared.ids.Vote.{Vote}
use Rattle.raft_node.specs.raft_state.declared.membership.Members.{Members}
use Rattle.raft_node.specs.raft_state.Invariants.{IsSoundState}
use Rattle.raft_node.specs.raft_state.Log.{last}
use Rattle.raft_node.specs.raft_state.Order.{vote_cmp}
use Rattle.raft_node.specs.raft_state.Same.{nat_same}
use Rattle.raft_node.proofs.raft_state_proofs.Orders.{is_equal}
use Rattle.raft_node.specs.raft_progress.Quorum.{is_quorum}
use Rattle.raft_node.specs.raft_progress.Table.{is_row_of, with_value}
use Rattle.raft_node.specs.raft_command.Message.{is_granted_to}
use Rattle.raft_node.specs.raft_command.declared.config.EngineConfig.{EngineConfig}
use Rattle.raft_node.specs.raft_command.declared.message.VoteResponse.{VoteResponse}
use Rattle.raft_node.specs.raft_proposer.Candidate.{as_committed, grant_by, into_leader, is_granted}
use Rattle.raft_node.specs.raft_steps.Engine.{as_uncommitted, handle_vote_resp, lead_by_votes, may_establish, take_grant, take_rejection}
use Rattle.raft_node.specs.raft_steps.EstablishHandler.{outvotes}
use Rattle.raft_node.specs.raft_steps.LeaderHandler.{leader_append_entries}
use Rattle.raft_node.specs.raft_steps.Parts.{leading, on_leader}
use Rattle.raft_node.specs.raft_steps.ReplicationHandler.{rebuild_replication_streams}
use Rattle.raft_node.specs.raft_steps.VoteHandler.{update_vote}
use Rattle.raft_node.proofs.raft_steps_proofs.Leads.{vote_same}
use Rattle.proof_agreement.specs.Machine.{Includes}
use Rattle.proof_agreement.specs.Stores.{VoteGranted}
use Rattle.raft_node.specs.raft_store.Entries.{entry_meaning}
use Rattle.raft_node.specs.raft_store.Types.{WorldStore, WorldMachine, WorldLeader, WorldCandidate}
use Rattle.proof_mirror.specs.Ready.{Ordered, PendingIn}
use Rattle.proof_mirror.proofs.Orders.{Orderly}
use Rattle.raft_node.specs.declared.node.Turn.{Turn}
use Rattle.proof_deeds.specs.Chains.{Unread, Carried, Reached}
use Rattle.proof_deeds.specs.Follows.{MayBeSaved}
use Rattle.proof_deeds.specs.Images.{Ideal, IsNamed, number, setup_of}
use Rattle.proof_deeds.specs.Knows.{AllJoined, Alone, CarriedIn, Knows, KnowsGrants}
use Rattle.proof_deeds.proofs.Pushes.{carry}
use Rattle.proof_deeds.proofs.Voting.{carried_pending}
use Rattle.proof_deeds.proofs.Winning.{IsCurrent, won_is, h4}

module _ (first : Members ℕ (Unit {0})) (t : Turn) (config : EngineConfig ℕ) (own : config.id ≡ t.id) (u : WorldStore) (W : Ideal) (reached : Reached (setup_of first) W) (joined : AllJoined (setup_of first)) where
  -- what is known of an engine, and of a candidate
  abbrev KnowsBoth : WorldMachine → WorldCandidate → Ideal → Type 0
  KnowsBoth m c V = Knows (setup_of first) t.id m V × KnowsGrants t.id c V

  -- a candidate that still asks
  pub record Asks (m : WorldMachine) (c : WorldCandidate) : Type 0 where
    pub pending : c.vote.committed ≡ false
    pub current : is_eq (vote_cmp nat_cmp c.vote m.core.state.vote) ≡ true → IsCurrent config.id m.core.state c
    pub end : is_eq (vote_cmp nat_cmp c.vote m.core.state.vote) ≡ true → c.last_log_id ≡ last m.core.state.ids

  carried_lead : (c : WorldCandidate) (now : ℕ) (m : WorldMachine) → PendingIn nat_cmp entry_meaning (λ es. es) u m → IsSoundState nat_cmp m.core.state → Ordered nat_cmp entry_meaning u → Asks m c → is_granted (is_quorum nat_cmp) c ≡ true
      → Carried (setup_of first) t m.core.state.vote.leader_id u W m.core.output.items (KnowsBoth m c) → Orderly nat_cmp (lead_by_votes nat_cmp entry_meaning config c now m).core.state
      → CarriedIn (setup_of first) t u W (lead_by_votes nat_cmp entry_meaning config c now m)
  unfolding lead_by_votes
  carried_lead c now m p sound ord a g k o =
      cond_both (may_establish nat_cmp m.core.state m.leader c) (on_leader (leader_append_entries nat_cmp entry_meaning config (entry_meaning.blank x ∷ [])) (update_vote nat_cmp entry_meaning config (as_committed c.vote) now (leading (record m { candidate = None }) (rebuild_replication_streams nat_cmp config (record { leader = into_leader nat_cmp c; core = m.core }))))) (record m { candidate = None })
      (λ z. Orderly nat_cmp z.core.state → CarriedIn (setup_of first) t u W z)
      (λ e o.
      let eq : is_eq (vote_cmp nat_cmp c.vote m.core.state.vote) ≡ true = (and_parts (is_eq (vote_cmp nat_cmp c.vote m.core.state.vote)) (outvotes nat_cmp m.leader c) e).0 in
      let vote : c.vote ≡ m.core.state.vote = vote_same nat_cmp nat_same c.vote m.core.state.vote (is_equal _ eq) in
      subst (λ z. Orderly nat_cmp (on_leader (leader_append_entries nat_cmp entry_meaning config (entry_meaning.blank x ∷ [])) z).core.state → CarriedIn (setup_of first) t u W (on_leader (leader_append_entries nat_cmp entry_meaning config (entry_meaning.blank x ∷ [])) z))
      (sym (won_is first t config own u W reached joined c now m vote a.pending (a.current eq)))
      (λ o. h4 first t config own u W reached joined c now m vote a.pending (a.current eq) p sound (a.end eq) g x ord o k) o)
      (λ _ _. carry (setup_of first) t m.core.state.vote.leader_id u W m.core.output.items (KnowsBoth m c) (Knows (setup_of first) t.id (record m { candidate = None })) k
      (λ V _ y. record { state = y.0.state; leader = y.0.leader; candidate = tt; alone = alone_none m.leader }))
      o
    where
      maker : WorldLeader
      maker = into_leader nat_cmp c

      x : LogId ℕ
      x = maker.noop_log_id

      alone_none : (l : Option WorldLeader) → Alone l None
      alone_none None = tt
      alone_none (Some l) = refl

  -- one more has granted
  more_grants : (c : WorldCandidate) (target : ℕ) (V : Ideal) → KnowsGrants t.id c V → (target ≡ t.id) ⊎ Includes V.messages (VoteGranted target (number c.vote.leader_id)) → KnowsGrants t.id (grant_by nat_cmp c target) V
  more_grants c target V k h = record { positive = k.positive; ungranted = k.ungranted; rows = each c.progress.rows k.rows } where
    Has : ℕ × Bool → Type 0
    Has row = row.1 ≡ true → (row.0 ≡ t.id) ⊎ Includes V.messages (VoteGranted row.0 (number c.vote.leader_id))

    each : (rows : List (ℕ × Bool)) → AllByRecursion (λ (row : ℕ × Bool). row.1 ≡ true → (row.0 ≡ t.id) ⊎ Includes V.messages (VoteGranted row.0 (number c.vote.leader_id))) rows
        → AllByRecursion (λ (row : ℕ × Bool). row.1 ≡ true → (row.0 ≡ t.id) ⊎ Includes V.messages (VoteGranted row.0 (number c.vote.leader_id))) (map (with_value nat_cmp target true) rows)
    each [] a = tt
    each (row ∷ rows) a = (
      cond_both (is_row_of nat_cmp target row) (row.0, true) row (λ (z : ℕ × Bool). z.1 ≡ true → (z.0 ≡ t.id) ⊎ Includes V.messages (VoteGranted z.0 (number c.vote.leader_id)))
          (λ e _. subst (λ x. (x ≡ t.id) ⊎ Includes V.messages (VoteGranted x (number c.vote.leader_id))) (nat_same target row.0 (is_equal _ e)) h)
          (λ _. a.0),
      each rows a.1,
    )

  -- a grant is counted
  pub carried_grant : (c : WorldCandidate) (target now : ℕ) (m : WorldMachine) → PendingIn nat_cmp entry_meaning (λ es. es) u m → IsSoundState nat_cmp m.core.state → Ordered nat_cmp entry_meaning u → m.leader ≡ None → Asks m c
      → (target ≡ t.id) ⊎ Includes W.messages (VoteGranted target (number c.vote.leader_id)) → Carried (setup_of first) t m.core.state.vote.leader_id u W m.core.output.items (KnowsBoth m c)
      → Orderly nat_cmp (take_grant nat_cmp entry_meaning config c target now m).core.state → CarriedIn (setup_of first) t u W (take_grant nat_cmp entry_meaning config c target now m)
  unfolding take_grant
  carried_grant c target now m p sound ord none a heard k o =
      cond_both (is_granted (is_quorum nat_cmp) granted) (lead_by_votes nat_cmp entry_meaning config granted now m) (record m { candidate = Some granted }) (λ z. Orderly nat_cmp z.core.state → CarriedIn (setup_of first) t u W z)
      (λ g o. carried_lead granted now m p sound ord (record { pending = a.pending; current = λ e. let q : IsCurrent config.id m.core.state c = a.current e in record { own = q.own; member = q.member; groups = q.groups }; end = a.end }) g both o)
      (λ _ _. carry (setup_of first) t m.core.state.vote.leader_id u W m.core.output.items (KnowsBoth m granted) (Knows (setup_of first) t.id (record m { candidate = Some granted })) both
      (λ V _ y. record { state = y.0.state; leader = y.0.leader; candidate = y.1; alone = subst (λ l. Alone l (Some granted)) (sym none) tt }))
      o
    where
      granted : WorldCandidate
      granted = grant_by nat_cmp c target

      both : Carried (setup_of first) t m.core.state.vote.leader_id u W m.core.output.items (KnowsBoth m (grant_by nat_cmp c target))
      both = carry (setup_of first) t m.core.state.vote.leader_id u W m.core.output.items (KnowsBoth m c) (KnowsBoth m (grant_by nat_cmp c target)) k
          (λ V x y. (y.0, more_grants c target V y.1 (⊎_elim inl (λ h. inr (x.within.messages _ h)) heard)))

  -- without a candidate beside a leader
  pub alone_leader : (m : WorldMachine) (c : WorldCandidate) → m.candidate ≡ Some c → CarriedIn (setup_of first) t u W m → m.leader ≡ None
  alone_leader m c e k = go m.leader (subst (Alone m.leader) e k.knows.alone) where
    go : (l : Option WorldLeader) → Alone l (Some c) → l ≡ None
    go None a = refl
    go (Some l) a = cc

  -- a reply to the candidate's request
  pub carried_vote_resp : (target : ℕ) (resp : VoteResponse ℕ) (now : ℕ) (m : WorldMachine) → PendingIn nat_cmp entry_meaning (λ es. es) u m → IsSoundState nat_cmp m.core.state → Ordered nat_cmp entry_meaning u → IfSome m.candidate (Asks m)
      → AllByRecursion Unread m.core.output.items → IsNamed resp.vote.leader_id → MayBeSaved t.id resp.vote W → (resp.vote_granted ≡ true → (target ≡ t.id) ⊎ Includes W.messages (VoteGranted target (number resp.vote.leader_id)))
      → CarriedIn (setup_of first) t u W m → Orderly nat_cmp (handle_vote_resp nat_cmp entry_meaning config target resp now m).core.state → CarriedIn (setup_of first) t u W (handle_vote_resp nat_cmp entry_meaning config target resp now m)
  unfolding handle_vote_resp take_rejection
  carried_vote_resp target resp now m p sound ord a r n claimed heard k o = go m.candidate refl a o where
    answered : Option WorldCandidate → WorldMachine
    answered o = elim o [
      | None ↦ m
      | Some c ↦ (if is_granted_to nat_cmp resp c.vote then take_grant nat_cmp entry_meaning config c target now m else take_rejection nat_cmp entry_meaning config resp now m)
    ]

    go : (q : Option WorldCandidate) → m.candidate ≡ q → IfSome q (Asks m) → Orderly nat_cmp (answered q).core.state → CarriedIn (setup_of first) t u W (answered q)
    go None e a o = k
    go (Some c) e a o =
        cond_both (is_granted_to nat_cmp resp c.vote) (take_grant nat_cmp entry_meaning config c target now m) (take_rejection nat_cmp entry_meaning config resp now m) (λ z. Orderly nat_cmp z.core.state → CarriedIn (setup_of first) t u W z)
        (λ g o.
        let parts = and_parts resp.vote_granted (is_eq (vote_cmp nat_cmp resp.vote c.vote)) g in
        let v : resp.vote ≡ c.vote = vote_same nat_cmp nat_same resp.vote c.vote (is_equal _ parts.1) in
        carried_grant c target now m p sound ord (alone_leader m c e k) a (subst (λ (w : Vote ℕ). (target ≡ t.id) ⊎ Includes W.messages (VoteGranted target (number w.leader_id))) v (heard parts.0))
        (carry (setup_of first) t m.core.state.vote.leader_id u W m.core.output.items (Knows (setup_of first) t.id m) (KnowsBoth m c) k (λ V _ y. (y, subst (λ o. IfSome o (λ c. KnowsGrants t.id c V)) e y.candidate))) o)
        (λ _ _. carried_pending first t config own u W (as_uncommitted resp.vote) now m p.core sound r n refl claimed (λ _ _. alone_leader m c e k) k)
        o
