-- Votes that a node takes.
use Rattle.std.proofs.Common.{ℕ, ◌<◌, ◌≤◌, ◌≡◌, ◌≢◌, ◌⊎◌, inl, inr, ⊎_elim, Bool, true, false, cond, List, [], ◌∷◌, ◌++◌, arith, refl, sym, ap, ◌∙◌, subst, Option, None, Some}
use Rattle.std.specs.Prelude.{IfSome, if◌then◌else◌}
use Rattle.std.specs.List.{AllByRecursion}
use Rattle.std.specs.declared.cmp.Ordering.TheVariants.{Equal}
use Rattle.std.specs.Ordering.{is_eq, is_gt, is_lt, nat_cmp, bool_cmp, ordering_then}
use Rattle.std.proofs.lemmas.Bool.{and_parts, both_ways, cond_both}
use Rattle.std.proofs.lemmas.Cmp.{nat_cmp_total}
use Rattle.raft_node.specs.raft_state.declared.ids.LeaderId.{LeaderId}
use Rattle.raft_node.specs.raft_state.declared.ids.LogId.{LogId}
use Rattle.raft_node.specs.raft_state.declared.ids.Vote.{Vote}
use Rattle.raft_node.specs.raft_state.declared.membership.Members.{Members}
use Rattle.raft_node.specs.raft_state.Invariants.{IsSoundState, AcceptedRecord}
use Rattle.raft_node.specs.raft_state.Order.{leader_id_cmp, vote_cmp}
use Rattle.raft_node.specs.raft_state.Same.{nat_same}
use Rattle.raft_node.specs.raft_state.State.{accepted, accepted_under, is_leader, is_leading}
use Rattle.raft_node.proofs.raft_state_proofs.Orders.{leader_total, le_lt, eq_is_le, eq_swap, lt_not_ge}
use Rattle.raft_node.specs.raft_command.declared.command.Command.TheVariants as command
use Rattle.raft_node.specs.raft_command.declared.config.EngineConfig.{EngineConfig}
use Rattle.raft_node.specs.raft_steps.Parts.{then_command, with_state, on_core}
use Rattle.raft_node.specs.raft_steps.ServerStateHandler.{update_role}
use Rattle.raft_node.specs.raft_steps.VoteHandler.{rejects_vote, take_vote, become_following, become_leader, update_internal_server_state, update_vote}
use Rattle.raft_node.proofs.raft_steps_proofs.Leads.{vote_is}
use Rattle.proof_agreement.specs.Machine.{Includes}
use Rattle.proof_agreement.specs.Stores.{Append, Session, AppendRequest, SnapshotRequest}
use Rattle.proof_agreement.specs.Deeds.{MayAccept, put}
use Rattle.raft_node.specs.raft_store.declared.entry.Entry.{Entry}
use Rattle.raft_node.specs.raft_store.Entries.{entry_meaning}
use Rattle.raft_node.specs.raft_store.Types.{WorldStore, WorldMachine, WorldCandidate}
use Rattle.proof_mirror.specs.Ready.{InStep, Pending}
use Rattle.proof_mirror.proofs.Elections.{pending_vote}
use Rattle.raft_node.specs.declared.node.Turn.{Turn}
use Rattle.proof_deeds.specs.Chains.{Unread, left_by, Carried}
use Rattle.proof_deeds.specs.Follows.{MayBeSaved, StoreIs}
use Rattle.proof_deeds.specs.Images.{Ideal, IdealStore, IdealEntry, IsNamed, number, setup_of}
use Rattle.proof_deeds.specs.Knows.{KnowsAccepted, KnowsGrants, KnowsLed, Alone, Knows, CarriedIn}
use Rattle.proof_deeds.proofs.Keeps.{ends_accepted, stable_accepted, known_grants, known_none}
use Rattle.proof_deeds.proofs.Numbers.{number_node, ordered, Order, below, same, above, vote_above, vote_not_below}
use Rattle.proof_deeds.proofs.Pushes.{push, carry, carried_renamed}
use Rattle.proof_deeds.proofs.Roles.{WorldCore, WorldState, names_node, carried_role}
use Rattle.proof_deeds.proofs.Tails.{tail_vote, tail_vote_committed, tail_named}
use Rattle.proof_deeds.proofs.VotePushes.{done_save, done_follow, done_follow_snapshot}
use Rattle.proof_deeds.proofs.Worlds.{at_put, within_put, if_some}

-- nothing was accepted of a leader above the old one
pub none_accepted : (st : WorldState) (v : Vote ℕ) (now : Option ℕ) → IsSoundState nat_cmp st → is_lt (leader_id_cmp nat_cmp st.vote.leader_id v.leader_id) ≡ true → accepted nat_cmp (record st { vote = v; time = now }) ≡ None
none_accepted st v now h l = go st.accepted_by h.accepted where
  go : (o : Option (LeaderId ℕ × LogId ℕ)) → IfSome o (λ r. AcceptedRecord nat_cmp st.vote.leader_id r.0 r.1 st.ids st.purged st.committed) → accepted_under nat_cmp v.leader_id o ≡ None
  go None k = refl
  go (Some r) k = of (is_eq (leader_id_cmp nat_cmp r.0 v.leader_id)) refl where
    apart : is_eq (leader_id_cmp nat_cmp r.0 v.leader_id) ≡ true → ⊥
    apart e =
        let a : is_lt (leader_id_cmp nat_cmp r.0 v.leader_id) ≡ true = le_lt (leader_total nat_cmp nat_cmp_total) r.0 st.vote.leader_id v.leader_id k.by_vote l in
        both_ways _ (lt_not_ge (leader_total nat_cmp nat_cmp_total) r.0 v.leader_id a) (eq_is_le _ (eq_swap (leader_total nat_cmp nat_cmp_total) r.0 v.leader_id e))

    of : (b : Bool) → is_eq (leader_id_cmp nat_cmp r.0 v.leader_id) ≡ b → cond b (Some r.1) None ≡ None
    of true e = absurd (apart e)
    of false e = refl

-- a greater leader id, by the order
pub leader_above : (v w : Vote ℕ) → IsNamed v.leader_id → IsNamed w.leader_id → number w.leader_id < number v.leader_id → is_lt (leader_id_cmp nat_cmp w.leader_id v.leader_id) ≡ true
leader_above v w h k l = go (ordered w.leader_id v.leader_id k h) where
  go : Order w.leader_id v.leader_id → is_lt (leader_id_cmp nat_cmp w.leader_id v.leader_id) ≡ true
  go (below q m) = ap is_lt q
  go (same q m) = let e : number w.leader_id ≡ number v.leader_id = ap number m in absurd (omega (arith, l, e))
  go (above q m) = absurd (omega (arith, l, m))

module _ (first : Members ℕ (Unit {0})) (t : Turn) (config : EngineConfig ℕ) (own : config.id ≡ t.id) (u : WorldStore) (W : Ideal) where
  -- a node that follows
  pub carried_following : (m : WorldMachine) → InStep entry_meaning (left_by u m.core.output.items) m.core.state → Carried (setup_of first) t m.core.state.vote.leader_id u W m.core.output.items (KnowsAccepted (setup_of first) t.id m.core.state)
      → CarriedIn (setup_of first) t u W (become_following nat_cmp config m)
  unfolding become_following update_role
  carried_following m j h =
      carry (setup_of first) t m.core.state.vote.leader_id u W (become_following nat_cmp config m).core.output.items (KnowsAccepted (setup_of first) t.id m.core.state) (Knows (setup_of first) t.id (become_following nat_cmp config m))
      (carried_role first t config u W m.core (KnowsAccepted (setup_of first) t.id m.core.state) own j (stable_accepted (setup_of first) t.id m.core.state) (λ _. ends_accepted (setup_of first) t.id m.core.state) h)
      (λ V _ k. record { state = k; leader = tt; candidate = tt; alone = tt })

  -- what is known once a vote is taken: nothing of a leader
  abbrev pub Taken : WorldState → Option WorldCandidate → Ideal → Type 0
  Taken st c V = KnowsAccepted (setup_of first) t.id st V × IfSome c (λ c. KnowsGrants t.id c V)

  -- a vote that isn't committed is saved where it is greater
  pub carried_saved : (v : Vote ℕ) (now : ℕ) (c : WorldCore) (k : Option WorldCandidate) → InStep entry_meaning (left_by u c.output.items) c.state → IsSoundState nat_cmp c.state → AllByRecursion Unread c.output.items → IsNamed v.leader_id → v.committed ≡ false → MayBeSaved t.id v W
      → Carried (setup_of first) t c.state.vote.leader_id u W c.output.items (Taken c.state k)
      → Carried (setup_of first) t (take_vote nat_cmp config v now c).state.vote.leader_id u W (take_vote nat_cmp config v now c).output.items (Taken (take_vote nat_cmp config v now c).state k)
  carried_saved v now c k j sound r n p s h =
      cond_both (is_gt (vote_cmp nat_cmp v c.state.vote)) (then_command (with_state c (record c.state { vote = v; time = Some now })) (command.SaveVote v)) (with_state c (record c.state { time = Some now }))
      (λ (z : WorldCore). Carried (setup_of first) t z.state.vote.leader_id u W z.output.items (Taken z.state k))
      greater
      (λ _. carry (setup_of first) t c.state.vote.leader_id u W c.output.items (Taken c.state k) (Taken (record c.state { time = Some now }) k) h (λ V _ x. x))
    where
      greater : is_gt (vote_cmp nat_cmp v c.state.vote) ≡ true → Carried (setup_of first) t v.leader_id u W (c.output.items ++ command.SaveVote v ∷ []) (Taken (record c.state { vote = v; time = Some now }) k)
      greater g =
          push (setup_of first) t v.leader_id u W c.output.items (command.SaveVote v) (Taken c.state k) (Taken (record c.state { vote = v; time = Some now }) k) (carried_renamed (setup_of first) t c.state.vote.leader_id v.leader_id u W c.output.items (Taken c.state k) r h)
          (λ V x y.
          let S : IdealStore = record (V.store t.id) { vote = number v.leader_id; vote_committed = false } in
          let o : IsNamed c.state.vote.leader_id = tail_named (setup_of first) (left_by u c.output.items) (V.store t.id) c.state x.store j in
          let l : number c.state.vote.leader_id < number v.leader_id = vote_above v c.state.vote n o p g in
          let low : (V.store t.id).vote ≤ number v.leader_id = (let z : (V.store t.id).vote ≡ number c.state.vote.leader_id = tail_vote (setup_of first) (left_by u c.output.items) (V.store t.id) c.state x.store j in omega (arith, z, l)) in (
            put V t.id S,
            done_save (setup_of first) t v.leader_id (left_by u c.output.items) v V x.store n p (subst (λ d. d < number v.leader_id) (sym (tail_vote (setup_of first) (left_by u c.output.items) (V.store t.id) c.state x.store j)) l)
                (⊎_elim (λ e. inl (number_node v.leader_id n ∙ e)) (λ e. inr (subst (λ i. number v.leader_id ≤ (V.store i).vote) (sym (number_node v.leader_id n)) (omega (arith, e, x.within.votes v.leader_id.node_id)))) s),
            (
              known_none (setup_of first) t.id (record c.state { vote = v; time = Some now }) (put V t.id S) (none_accepted c.state v (Some now) sound (leader_above v c.state.vote n o l)),
              if_some (λ c. KnowsGrants t.id c V) (λ c. KnowsGrants t.id c (put V t.id S)) (λ c. known_grants (setup_of first) t.id V (put V t.id S) (within_put V t.id S low) c) k y.1,
            ),
          ))

  -- a vote that isn't rejected is the state's then
  pub taken_vote : (v : Vote ℕ) (now : ℕ) (c : WorldCore) → rejects_vote nat_cmp c.state v ≡ false → (take_vote nat_cmp config v now c).state.vote ≡ v
  taken_vote v now c e =
      cond_both (is_gt (vote_cmp nat_cmp v c.state.vote)) (then_command (with_state c (record c.state { vote = v; time = Some now })) (command.SaveVote v)) (with_state c (record c.state { time = Some now }))
      (λ (z : WorldCore). z.state.vote ≡ v) (λ _. refl) (λ f. vote_is nat_cmp nat_same v c.state.vote e f)

  -- without a leader
  pub knows_unled : (m : WorldMachine) (V : Ideal) → m.leader ≡ None → Taken m.core.state m.candidate V → Knows (setup_of first) t.id m V
  knows_unled m V e k = record {
    state = k.0;
    leader = subst (λ o. IfSome o (λ l. KnowsLed (setup_of first) t.id m.core.state l V)) (sym e) tt;
    candidate = k.1;
    alone = subst (λ o. Alone o m.candidate) (sym e) tt;
  }

  pub taken_in : (m : WorldMachine) (V : Ideal) → Knows (setup_of first) t.id m V → Taken m.core.state m.candidate V
  taken_in m V k = (k.state, k.candidate)

  -- a vote that isn't committed, and that is taken as the node's own only where it doesn't lead
  pub carried_pending : (v : Vote ℕ) (now : ℕ) (m : WorldMachine) → Pending nat_cmp entry_meaning (λ es. es) u m.core → IsSoundState nat_cmp m.core.state → AllByRecursion Unread m.core.output.items → IsNamed v.leader_id → v.committed ≡ false → MayBeSaved t.id v W
      → (rejects_vote nat_cmp m.core.state v ≡ false → v.leader_id.node_id ≡ config.id → m.leader ≡ None) → CarriedIn (setup_of first) t u W m → CarriedIn (setup_of first) t u W (update_vote nat_cmp entry_meaning config v now m)
  unfolding update_vote update_internal_server_state
  carried_pending v now m p sound r n c s alone h =
      cond_both (rejects_vote nat_cmp m.core.state v) m (update_internal_server_state nat_cmp entry_meaning config w) (CarriedIn (setup_of first) t u W)
      (λ _. h)
      (λ low. cond_both (is_leader nat_cmp w.core.state config.id) (become_leader nat_cmp entry_meaning config w) (if is_leading nat_cmp w.core.state config.id then w else become_following nat_cmp config w) (CarriedIn (setup_of first) t u W)
      (λ l. absurd (both_ways w.core.state.vote.committed (ap (λ (x : Vote ℕ). x.committed) (taken_vote v now m.core low) ∙ c) (and_parts (is_leading nat_cmp w.core.state config.id) w.core.state.vote.committed l).1))
      (λ _. cond_both (is_leading nat_cmp w.core.state config.id) w (become_following nat_cmp config w) (CarriedIn (setup_of first) t u W)
      (λ e. carry (setup_of first) t w.core.state.vote.leader_id u W w.core.output.items (Taken w.core.state m.candidate) (Knows (setup_of first) t.id w) saved
      (λ V _ k. knows_unled w V (alone low (ap (λ (x : Vote ℕ). x.leader_id.node_id) (sym (taken_vote v now m.core low)) ∙ names_node w.core.state config.id e)) k))
      (λ _. carried_following w (pending_vote nat_cmp entry_meaning (λ es. es) config u v now m.core p).in_step (carry (setup_of first) t w.core.state.vote.leader_id u W w.core.output.items (Taken w.core.state m.candidate) (KnowsAccepted (setup_of first) t.id w.core.state) saved (λ V _ k. k.0)))))
    where
      w : WorldMachine
      w = on_core (take_vote nat_cmp config v now) m

      saved : Carried (setup_of first) t (take_vote nat_cmp config v now m.core).state.vote.leader_id u W (take_vote nat_cmp config v now m.core).output.items (Taken (take_vote nat_cmp config v now m.core).state m.candidate)
      saved = carried_saved v now m.core m.candidate p.in_step sound r n c s (carry (setup_of first) t m.core.state.vote.leader_id u W m.core.output.items (Knows (setup_of first) t.id m) (Taken m.core.state m.candidate) h (λ V _ k. taken_in m V k))

  -- a committed vote that came with a request of its leader
  abbrev pub Heard : Vote ℕ → Type 0
  Heard v =
      ((r : Append Entry) × Includes W.messages (AppendRequest r) × (r.session.leader ≡ number v.leader_id))
      ⊎ ((q : Session) × (es : List IdealEntry) × Includes W.messages (SnapshotRequest q es) × (q.leader ≡ number v.leader_id))

  -- it is the node's own vote, or a greater one, and then nothing that isn't committed was accepted of it
  pub followed_accepted : (v : Vote ℕ) (now : ℕ) (c : WorldCore) → InStep entry_meaning (left_by u c.output.items) c.state → IsSoundState nat_cmp c.state → IsNamed v.leader_id → v.committed ≡ true → is_gt (vote_cmp nat_cmp v c.state.vote) ≡ true
      → (V X : Ideal) → StoreIs (setup_of first) (left_by u c.output.items) (V.store t.id) → (V.store t.id).committed ≤ (X.store t.id).committed → KnowsAccepted (setup_of first) t.id c.state V → KnowsAccepted (setup_of first) t.id (record c.state { vote = v; time = Some now }) X
  followed_accepted v now c j sound n p g V X x low k = go (ordered v.leader_id c.state.vote.leader_id n o) where
    o : IsNamed c.state.vote.leader_id
    o = tail_named (setup_of first) (left_by u c.output.items) (V.store t.id) c.state x j

    uncommitted : v.leader_id ≡ c.state.vote.leader_id → leader_id_cmp nat_cmp v.leader_id c.state.vote.leader_id ≡ Equal → c.state.vote.committed ≡ false
    uncommitted e q = of c.state.vote.committed (subst (λ b. is_gt (bool_cmp b c.state.vote.committed) ≡ true) p (subst (λ r. is_gt (ordering_then r (bool_cmp v.committed c.state.vote.committed)) ≡ true) q g)) where
      of : (b : Bool) → is_gt (bool_cmp true b) ≡ true → b ≡ false
      of true z = cc
      of false z = refl

    held : (a : Option (LogId ℕ)) → c.state.vote.committed ≡ false → IfSome a (λ y. ((r : Append Entry) × MayAccept (setup_of first) V t.id r y.index (number y.leader_id)) ⊎ (y.index < (V.store t.id).committed))
        → IfSome a (λ y. ((r : Append Entry) × MayAccept (setup_of first) X t.id r y.index (number y.leader_id)) ⊎ (y.index < (X.store t.id).committed))
    held None f z = tt
    held (Some y) f z =
        ⊎_elim (λ a. absurd (both_ways (V.store t.id).vote_committed (tail_vote_committed (setup_of first) (left_by u c.output.items) (V.store t.id) c.state x j ∙ f) a.1.vote_committed))
        (λ l. inr (omega (arith, l, low))) z

    go : Order v.leader_id c.state.vote.leader_id → KnowsAccepted (setup_of first) t.id (record c.state { vote = v; time = Some now }) X
    go (below q l) = absurd (let z : number c.state.vote.leader_id ≤ number v.leader_id = vote_not_below v c.state.vote n o g in omega (arith, l, z))
    go (same q e) =
        held (accepted_under nat_cmp v.leader_id c.state.accepted_by) (uncommitted e q)
        (subst (λ d. IfSome (accepted_under nat_cmp d c.state.accepted_by) (λ y. ((r : Append Entry) × MayAccept (setup_of first) V t.id r y.index (number y.leader_id)) ⊎ (y.index < (V.store t.id).committed))) (sym e) k)
    go (above q l) = known_none (setup_of first) t.id (record c.state { vote = v; time = Some now }) X (none_accepted c.state v (Some now) sound (leader_above v c.state.vote n o l))

  -- it is saved where it is greater
  carried_followed : (v : Vote ℕ) (now : ℕ) (c : WorldCore) (k : Option WorldCandidate) → InStep entry_meaning (left_by u c.output.items) c.state → IsSoundState nat_cmp c.state → AllByRecursion Unread c.output.items → IsNamed v.leader_id → v.committed ≡ true → v.leader_id.node_id ≢ t.id → Heard v
      → Carried (setup_of first) t c.state.vote.leader_id u W c.output.items (Taken c.state k)
      → Carried (setup_of first) t (take_vote nat_cmp config v now c).state.vote.leader_id u W (take_vote nat_cmp config v now c).output.items (Taken (take_vote nat_cmp config v now c).state k)
  carried_followed v now c k j sound r n p other heard h =
      cond_both (is_gt (vote_cmp nat_cmp v c.state.vote)) (then_command (with_state c (record c.state { vote = v; time = Some now })) (command.SaveVote v)) (with_state c (record c.state { time = Some now }))
      (λ (z : WorldCore). Carried (setup_of first) t z.state.vote.leader_id u W z.output.items (Taken z.state k))
      greater
      (λ _. carry (setup_of first) t c.state.vote.leader_id u W c.output.items (Taken c.state k) (Taken (record c.state { time = Some now }) k) h (λ V _ x. x))
    where
      away : t.id ≢ (setup_of first).owner (number v.leader_id)
      away e = other (sym (number_node v.leader_id n) ∙ sym e)

      known : is_gt (vote_cmp nat_cmp v c.state.vote) ≡ true → (V : Ideal) (S : IdealStore) → (V.store t.id).committed ≡ S.committed → (V.store t.id).vote ≤ S.vote → StoreIs (setup_of first) (left_by u c.output.items) (V.store t.id) → Taken c.state k V → Taken (record c.state { vote = v; time = Some now }) k (put V t.id S)
      known g V S e low x y = (
        followed_accepted v now c j sound n p g V (put V t.id S) x (let z : ((put V t.id S).store t.id).committed ≡ S.committed = ap (λ T. T.committed) (at_put V t.id S) in omega (arith, z, e)) y.0,
        if_some (λ c. KnowsGrants t.id c V) (λ c. KnowsGrants t.id c (put V t.id S)) (λ c. known_grants (setup_of first) t.id V (put V t.id S) (within_put V t.id S low) c) k y.1,
      )

      reach : is_gt (vote_cmp nat_cmp v c.state.vote) ≡ true → (V : Ideal) → StoreIs (setup_of first) (left_by u c.output.items) (V.store t.id) → (V.store t.id).vote ≤ number v.leader_id
      reach g V x =
          let o : IsNamed c.state.vote.leader_id = tail_named (setup_of first) (left_by u c.output.items) (V.store t.id) c.state x j in
          let e : (V.store t.id).vote ≡ number c.state.vote.leader_id = tail_vote (setup_of first) (left_by u c.output.items) (V.store t.id) c.state x j in
          omega (arith, e, vote_not_below v c.state.vote n o g)

      greater : is_gt (vote_cmp nat_cmp v c.state.vote) ≡ true → Carried (setup_of first) t v.leader_id u W (c.output.items ++ command.SaveVote v ∷ []) (Taken (record c.state { vote = v; time = Some now }) k)
      greater g =
          push (setup_of first) t v.leader_id u W c.output.items (command.SaveVote v) (Taken c.state k) (Taken (record c.state { vote = v; time = Some now }) k) (carried_renamed (setup_of first) t c.state.vote.leader_id v.leader_id u W c.output.items (Taken c.state k) r h)
          (λ V x y. ⊎_elim
          (λ a. (
            put V t.id (record (V.store t.id) { vote = (a.0).session.leader; vote_committed = true }),
            done_follow (setup_of first) t v.leader_id (left_by u c.output.items) v a.0 V x.store n p a.2
                (record { sent = x.within.messages _ a.1; not_lower = subst (λ d. (V.store t.id).vote ≤ d) (sym a.2) (reach g V x.store); other = subst (λ d. t.id ≢ (setup_of first).owner d) (sym a.2) away }),
            known g V (record (V.store t.id) { vote = (a.0).session.leader; vote_committed = true }) refl (subst (λ d. (V.store t.id).vote ≤ d) (sym a.2) (reach g V x.store)) x.store y,
          ))
          (λ a. (
            put V t.id (record (V.store t.id) { vote = (a.0).leader; vote_committed = true }),
            done_follow_snapshot (setup_of first) t v.leader_id (left_by u c.output.items) v a.0 a.1 V x.store n p a.3
                (record { sent = x.within.messages _ a.2; not_lower = subst (λ d. (V.store t.id).vote ≤ d) (sym a.3) (reach g V x.store); other = subst (λ d. t.id ≢ (setup_of first).owner d) (sym a.3) away }),
            known g V (record (V.store t.id) { vote = (a.0).leader; vote_committed = true }) refl (subst (λ d. (V.store t.id).vote ≤ d) (sym a.3) (reach g V x.store)) x.store y,
          ))
          heard)

  -- the node follows
  pub carried_heard : (v : Vote ℕ) (now : ℕ) (m : WorldMachine) → Pending nat_cmp entry_meaning (λ es. es) u m.core → IsSoundState nat_cmp m.core.state → AllByRecursion Unread m.core.output.items → IsNamed v.leader_id → v.committed ≡ true
      → v.leader_id.node_id ≢ t.id → Heard v → CarriedIn (setup_of first) t u W m → CarriedIn (setup_of first) t u W (update_vote nat_cmp entry_meaning config v now m)
  unfolding update_vote update_internal_server_state
  carried_heard v now m p sound r n c other heard h =
      cond_both (rejects_vote nat_cmp m.core.state v) m (update_internal_server_state nat_cmp entry_meaning config w) (CarriedIn (setup_of first) t u W)
      (λ _. h)
      (λ low. cond_both (is_leader nat_cmp w.core.state config.id) (become_leader nat_cmp entry_meaning config w) (if is_leading nat_cmp w.core.state config.id then w else become_following nat_cmp config w) (CarriedIn (setup_of first) t u W)
      (λ l. absurd (not_own low (and_parts (is_leading nat_cmp w.core.state config.id) w.core.state.vote.committed l).0))
      (λ _. cond_both (is_leading nat_cmp w.core.state config.id) w (become_following nat_cmp config w) (CarriedIn (setup_of first) t u W)
      (λ e. absurd (not_own low e))
      (λ _. carried_following w (pending_vote nat_cmp entry_meaning (λ es. es) config u v now m.core p).in_step (carry (setup_of first) t w.core.state.vote.leader_id u W w.core.output.items (Taken w.core.state m.candidate) (KnowsAccepted (setup_of first) t.id w.core.state) saved (λ V _ k. k.0)))))
    where
      w : WorldMachine
      w = on_core (take_vote nat_cmp config v now) m

      not_own : rejects_vote nat_cmp m.core.state v ≡ false → is_leading nat_cmp (take_vote nat_cmp config v now m.core).state config.id ≡ true → ⊥
      not_own low e = other (ap (λ (x : Vote ℕ). x.leader_id.node_id) (sym (taken_vote v now m.core low)) ∙ (names_node (take_vote nat_cmp config v now m.core).state config.id e ∙ own))

      saved : Carried (setup_of first) t (take_vote nat_cmp config v now m.core).state.vote.leader_id u W (take_vote nat_cmp config v now m.core).output.items (Taken (take_vote nat_cmp config v now m.core).state m.candidate)
      saved = carried_followed v now m.core m.candidate p.in_step sound r n c other heard (carry (setup_of first) t m.core.state.vote.leader_id u W m.core.output.items (Knows (setup_of first) t.id m) (Taken m.core.state m.candidate) h (λ V _ k. taken_in m V k))
