-- A whole install, walked.
use Rattle.std.proofs.Common.{ℕ, suc, ◌+◌, ◌<◌, ◌≤◌, ◌≡◌, ◌≢◌, ◌⊎◌, inr, Bool, true, false, List, [], ◌∷◌, ◌++◌, length, map, drop, ◌-◌, arith, refl, sym, ap, ap₂, ◌∙◌, subst, Option, None, Some}
use Rattle.std.specs.Prelude.{IfSome, slice_get, if◌then◌else◌}
use Rattle.std.specs.Ordering.{is_eq, is_gt, nat_cmp}
use Rattle.std.proofs.lemmas.Bool.{cond_both}
use Rattle.std.proofs.lemmas.List.{length-map}
use Rattle.raft_node.specs.raft_state.declared.ids.LeaderId.{LeaderId}
use Rattle.raft_node.specs.raft_state.declared.ids.LogId.{LogId}
use Rattle.raft_node.specs.raft_state.declared.membership.StoredMembership.{StoredMembership}
use Rattle.raft_node.specs.raft_state.Log.{last, at}
use Rattle.raft_node.specs.raft_state.LogLaws.{at-run}
use Rattle.raft_node.specs.raft_state.Order.{next, last_id_cmp, leader_id_cmp}
use Rattle.raft_node.specs.raft_state.Same.{nat_same}
use Rattle.raft_node.specs.raft_state.State.{accept, accepted, accepted_under, purge}
use Rattle.raft_node.specs.raft_command.Push.{with_command, ordered}
use Rattle.raft_node.specs.raft_command.declared.command.Command.TheVariants as command
use Rattle.raft_node.specs.raft_command.declared.config.EngineConfig.{EngineConfig}
use Rattle.raft_node.specs.raft_command.declared.sm.CommandPayload.TheVariants as payload
use Rattle.raft_node.specs.raft_steps.FollowingHandler.{truncate_logs}
use Rattle.raft_node.specs.raft_steps.Installs.{has_other_at, replaces_log, with_memberships_of, held_upto, truncate_contradicted, install_upto}
use Rattle.raft_node.specs.raft_steps.LogHandler.{purge_log}
use Rattle.raft_node.specs.raft_steps.Parts.{with_state}
use Rattle.raft_node.specs.raft_steps.ServerStateHandler.{update_role}
use Rattle.raft_node.proofs.raft_steps_proofs.KeptAppend.{truncate_case}
use Rattle.proof_agreement.specs.Machine.{Setup, Includes}
use Rattle.proof_agreement.specs.Stores.{Append, Session, SnapshotRequest, entry_at}
use Rattle.proof_agreement.specs.Deeds.{Purge, MayAccept, does}
use Rattle.raft_node.specs.raft_store.declared.entry.Entry.{Entry}
use Rattle.raft_node.specs.raft_store.Entries.{entry_meaning}
use Rattle.raft_node.specs.raft_store.Types.{WorldStore, WorldSnapshot, WorldCommand}
use Rattle.raft_node.proofs.raft_store_proofs.Lists.{next_last_0}
use Rattle.proof_mirror.specs.Ready.{Shaped, MayPurge}
use Rattle.proof_mirror.proofs.Installing.{InstallFits, pending_install}
use Rattle.proof_mirror.proofs.Shape.{length_ids}
use Rattle.raft_node.specs.declared.node.Turn.{Turn}
use Rattle.proof_deeds.specs.Chains.{Reached, left_by, Carried}
use Rattle.proof_deeds.specs.Images.{Ideal, IdealStore, IsNamed, EntriesFit, number, image, images}
use Rattle.proof_deeds.specs.Knows.{KnowsAccepted}
use Rattle.proof_deeds.proofs.Away.{carried_away}
use Rattle.proof_deeds.proofs.Installs.{Facing, Joins, Then, facing_ends, uncut, cut_where, installed_next}
use Rattle.proof_deeds.proofs.Keeps.{known_accepted}
use Rattle.proof_deeds.proofs.Overlap.{laps}
use Rattle.proof_deeds.proofs.Pushes.{push, carry, left_more}
use Rattle.proof_deeds.proofs.Roles.{WorldCore, WorldState}
use Rattle.proof_deeds.proofs.SnapshotCalls.{ready_last, purge_alike, keeps_purge}
use Rattle.proof_deeds.proofs.SnapshotLaws.{Waits}
use Rattle.proof_deeds.proofs.SnapshotPushes.{snap_length, may_purge, done_purge}
use Rattle.proof_deeds.proofs.Tails.{entry_of_id, named_of_id, last_stands}
use Rattle.proof_deeds.proofs.Worlds.{within_does, at_put, does_then}

-- what is accepted once a snapshot up to x is
accepted_more : (P : LogId ℕ → Type 0) (x : LogId ℕ) (st : WorldState) → IfSome (accepted nat_cmp st) P → P x → IfSome (accepted nat_cmp (accept nat_cmp st (Some x))) P
accepted_more P x st h k =
    cond_both (is_gt (last_id_cmp nat_cmp (Some x) (accepted nat_cmp st))) (let z : WorldState = record st { accepted_by = Some (st.vote.leader_id, x) } in z) st (λ (z : WorldState). IfSome (accepted nat_cmp z) P)
    (λ _. cond_both (is_eq (leader_id_cmp nat_cmp st.vote.leader_id st.vote.leader_id)) (let o : Option (LogId ℕ) = Some x in o) None (λ o. IfSome o P) (λ _. k) (λ _. tt)) (λ _. h)

-- memberships and the committed id are no part of it
held_alike : (m : StoredMembership ℕ (Unit {0})) (x : LogId ℕ) (gone : Bool) (st : WorldState) → ((with_memberships_of m x gone (held_upto nat_cmp x st)).vote ≡ st.vote) × ((with_memberships_of m x gone (held_upto nat_cmp x st)).accepted_by ≡ (accept nat_cmp st (Some x)).accepted_by)
held_alike m x gone st = go gone (is_gt (last_id_cmp nat_cmp (Some x) (accepted nat_cmp st))) where
  held : Bool → WorldState
  held b = if b then record st { accepted_by = Some (st.vote.leader_id, x) } else st

  go : (g b : Bool)
      → ((with_memberships_of m x g (record (if b then record st { accepted_by = Some (st.vote.leader_id, x) } else st) { committed = Some x })).vote ≡ st.vote)
      × ((with_memberships_of m x g (record (if b then record st { accepted_by = Some (st.vote.leader_id, x) } else st) { committed = Some x })).accepted_by ≡ (if b then record st { accepted_by = Some (st.vote.leader_id, x) } else st).accepted_by)
  go true true = (refl, refl)
  go true false = (refl, refl)
  go false true = (refl, refl)
  go false false = (refl, refl)

accept_vote : (x : LogId ℕ) (st : WorldState) → (accept nat_cmp st (Some x)).vote ≡ st.vote
accept_vote x st = cond_both (is_gt (last_id_cmp nat_cmp (Some x) (accepted nat_cmp st))) (let z : WorldState = record st { accepted_by = Some (st.vote.leader_id, x) } in z) st (λ (z : WorldState). z.vote ≡ st.vote) (λ _. refl) (λ _. refl)

module _ (config : EngineConfig ℕ) where
  cut_alike : (from : ℕ) (c : WorldCore) (b : Bool) → ((if b then truncate_logs nat_cmp config from c else c).state.vote ≡ c.state.vote) × ((if b then truncate_logs nat_cmp config from c else c).state.accepted_by ≡ c.state.accepted_by)
  cut_alike from c true = truncate_case nat_cmp config (λ (d : WorldCore). (d.state.vote ≡ c.state.vote) × (d.state.accepted_by ≡ c.state.accepted_by)) from c (λ _. (refl, refl)) (λ first _ em role q. (refl, refl))
  cut_alike from c false = (refl, refl)

module _ (s : Setup Entry) (t : Turn) (config : EngineConfig ℕ) (u : WorldStore) (W : Ideal) (v : LeaderId ℕ) (reached : Reached s W) (away : t.id ≢ s.owner (number v)) (other : is_eq (nat_cmp v.node_id config.id) ≡ false)
    (q : Session) (snapshot : WorldSnapshot) (x : LogId ℕ) (sent : Includes W.messages (SnapshotRequest q (images snapshot.snapshot))) (leads : q.leader ≡ number v) (fit : EntriesFit s snapshot.snapshot) where
  module _ (c : WorldCore) (p : Waits u c) (leader : c.state.vote.leader_id ≡ v) (is_committed : c.state.vote.committed ≡ true) (f : InstallFits nat_cmp entry_meaning c.state snapshot.meta snapshot.snapshot x) where
    ids : List (LogId ℕ)
    ids = map (λ (e : Entry). e.log_id) snapshot.snapshot

    ends_with : last (map (λ (e : Entry). e.log_id) snapshot.snapshot) ≡ Some x
    ends_with = sym f.tells.last_id ∙ f.last_is

    pub size : length snapshot.snapshot ≡ x.index + 1
    size = sym (ap next (sym ends_with) ∙ (next_last_0 (map (λ (e : Entry). e.log_id) snapshot.snapshot) f.order.run ∙ length_ids entry_meaning snapshot.snapshot))

    ends : length (images snapshot.snapshot) ≡ suc x.index
    ends = length-map snapshot.snapshot image ∙ (size ∙ omega arith)

    slot : slice_get (map (λ (e : Entry). e.log_id) snapshot.snapshot) x.index ≡ Some x
    slot = sym (at-run 0 x.index (map (λ (e : Entry). e.log_id) snapshot.snapshot) f.order.run) ∙ (let z : 0 + x.index ≡ x.index = omega arith in ap (at (map (λ (e : Entry). e.log_id) snapshot.snapshot)) z ∙ last_stands 0 (map (λ (e : Entry). e.log_id) snapshot.snapshot) x f.order.run ends_with)

    named : IsNamed x.leader_id
    named = named_of_id s snapshot.snapshot x.index x fit slot

    last_is : (entry_at s (images snapshot.snapshot) x.index).leader ≡ number x.leader_id
    last_is = entry_of_id s snapshot.snapshot x.index x slot

    K : Ideal → Type 0
    K V = Facing s t config u W v reached away other q snapshot x sent leads fit V × Joins s t config u W v reached away other q snapshot x sent leads fit V × Then s t config u W v reached away other q snapshot x sent leads fit c.state V

    abbrev recorded : WorldCore
    recorded = with_state c (record c.state { snap = snapshot.meta })

    abbrev cut : WorldCore
    cut = truncate_contradicted nat_cmp config x recorded

    abbrev held : WorldState
    held = with_memberships_of snapshot.meta.last_membership x (replaces_log nat_cmp c.state x) (held_upto nat_cmp x cut.state)

    abbrev settled : WorldCore
    settled = update_role nat_cmp config (with_state cut held)

    carried_cut : Carried s t v u W c.output.items (KnowsAccepted s t.id c.state) → Carried s t v u W cut.output.items K
    unfolding K
    carried_cut h = go (has_other_at nat_cmp c.state x) refl where
      go : (b : Bool) → has_other_at nat_cmp c.state x ≡ b → Carried s t v u W (if b then truncate_logs nat_cmp config x.index (with_state c (record c.state { snap = snapshot.meta })) else with_state c (record c.state { snap = snapshot.meta })).output.items K
      go true e = cut_where s t config u W v reached away other q snapshot x sent leads fit ends c p leader is_committed f.above named last_is e h
      go false e = uncut s t config u W v reached away other q snapshot x sent leads fit ends c p leader is_committed f.above named last_is e h

    held_vote : held.vote ≡ c.state.vote
    held_vote = (held_alike snapshot.meta.last_membership x (replaces_log nat_cmp c.state x) cut.state).0 ∙ (cut_alike config x.index recorded (has_other_at nat_cmp c.state x)).0

    held_other : is_eq (nat_cmp held.vote.leader_id.node_id config.id) ≡ false
    held_other = ap (λ w. is_eq (nat_cmp w.leader_id.node_id config.id)) held_vote ∙ (ap (λ (d : LeaderId ℕ). is_eq (nat_cmp d.node_id config.id)) leader ∙ other)

    abbrev install : WorldCommand
    install = command.StateMachine (record { seq = settled.output.seq + 1; payload = payload.InstallFullSnapshot snapshot })

    abbrev L : Ideal → Type 0
    L V = KnowsAccepted s t.id c.state V × ((V.store t.id).committed ≡ suc x.index)

    carried_installed : Carried s t v u W c.output.items (KnowsAccepted s t.id c.state) → Carried s t v u W (settled.output.items ++ install ∷ []) L
    unfolding K
    carried_installed h = installed_next s t config u W v reached away other q snapshot x sent leads fit ends settled.output.items c.state (settled.output.seq + 1) (carried_away s t u W v config (with_state cut held) K held_other (facing_ends s t config u W v reached away other q snapshot x sent leads fit c.state) (carried_cut h))

    -- what is known of a state that holds the snapshot
    held_known : (st : WorldState) (V : Ideal) → st.vote ≡ held.vote → st.accepted_by ≡ held.accepted_by → L V → KnowsAccepted s t.id st V
    held_known st V e a k =
        let P : LogId ℕ → Type 0 = λ (y : LogId ℕ). ((r : Append Entry) × MayAccept s V t.id r y.index (number y.leader_id)) ⊎ (y.index < (V.store t.id).committed) in
        let g = cut_alike config x.index recorded (has_other_at nat_cmp c.state x) in
        let m = held_alike snapshot.meta.last_membership x (replaces_log nat_cmp c.state x) cut.state in
        let b : IfSome (accepted nat_cmp cut.state) P = subst (λ o. IfSome o P) (ap₂ (λ w o. accepted_under nat_cmp w.leader_id o) (sym g.0) (sym g.1)) k.0 in
        let d : IfSome (accepted nat_cmp (accept nat_cmp cut.state (Some x))) P = accepted_more P x cut.state b (inr (omega (arith, k.1))) in
        subst (λ o. IfSome o P) (ap₂ (λ w o. accepted_under nat_cmp w.leader_id o) (accept_vote x cut.state ∙ (sym m.0 ∙ sym e)) (sym m.1 ∙ sym a)) d

    -- the store that is then left has the snapshot
    left_snap : (left_by u (settled.output.items ++ install ∷ [])).snap ≡ snapshot.snapshot
    left_snap = ap (λ (w : WorldStore). w.snap) (left_more u settled.output.items (install ∷ []))

    -- the log is purged up to the snapshot's last id
    carried_purged : (st2 : WorldState) → st2.vote ≡ held.vote → st2.accepted_by ≡ held.accepted_by
        → Waits u (let z : WorldCore = record { state = purge nat_cmp st2 x; output = with_command (ordered settled.output (payload.InstallFullSnapshot snapshot)) (command.PurgeLog x) } in z)
        → Carried s t v u W c.output.items (KnowsAccepted s t.id c.state)
        → Carried s t v u W ((settled.output.items ++ install ∷ []) ++ command.PurgeLog x ∷ []) (λ V. KnowsAccepted s t.id (purge nat_cmp st2 x) V × ((V.store t.id).committed ≡ suc x.index))
    carried_purged st2 e a w h =
        let T : WorldStore = left_by u (settled.output.items ++ install ∷ []) in
        let z : Shaped entry_meaning (left_by u (settled.output.items ++ install ∷ [])) × MayPurge entry_meaning (left_by u (settled.output.items ++ install ∷ [])) x = ready_last u (settled.output.items ++ install ∷ []) (command.PurgeLog x) w.ready in
        push s t v u W (settled.output.items ++ install ∷ []) (command.PurgeLog x) L (λ V. KnowsAccepted s t.id (purge nat_cmp st2 x) V × ((V.store t.id).committed ≡ suc x.index)) (carried_installed h)
        (λ V y k.
        let b : ((V.store t.id).front ≤ suc x.index) × (suc x.index ≤ length (V.store t.id).snapshot) = may_purge s T x (V.store t.id) y.store z.0 z.1 in
        let l : length (V.store t.id).snapshot ≡ length T.snap = snap_length s T (V.store t.id) y.store z.0 in
        let low : (V.store t.id).front ≤ length (V.store t.id).snapshot = omega (arith, y.store.front, l, z.0.front) in
        let n : length T.snap ≡ x.index + 1 = ap (λ es. length es) left_snap ∙ size in
        let X : Ideal = does s V (Purge t.id (suc x.index)) in
        let g = at_put V t.id (record (V.store t.id) { front = suc x.index; entries = drop (suc x.index - (V.store t.id).front) (V.store t.id).entries }) in
        let d : KnowsAccepted s t.id st2 V = held_known st2 V e a k in
        let m = purge_alike s t.id st2 x in (
          X,
          done_purge s t v T x V y.store z.0 z.1 (laps s V (does_then s _ W V reached y.came) t.id) (λ b. absurd (omega (arith, b, n))),
          (
            known_purged st2 X (known_accepted s t.id V X (within_does s V (Purge t.id (suc x.index)) tt) st2 (keeps_purge s t.id V (suc x.index) low b.0 b.1) d),
            ap (λ (Z : IdealStore). Z.committed) g ∙ k.1,
          ),
        ))
      where
        known_purged : (st : WorldState) (X : Ideal) → KnowsAccepted s t.id st X → KnowsAccepted s t.id (purge nat_cmp st x) X
        known_purged st X k = subst (λ o. IfSome o (λ y. ((r : Append Entry) × MayAccept s X t.id r y.index (number y.leader_id)) ⊎ (y.index < (X.store t.id).committed))) (sym (purge_alike s t.id st x).1) k

    -- an install
    pub carried_upto : Carried s t v u W c.output.items (KnowsAccepted s t.id c.state)
        → Carried s t v u W (install_upto nat_cmp config x snapshot c).output.items (λ V. KnowsAccepted s t.id (install_upto nat_cmp config x snapshot c).state V × ((V.store t.id).committed ≡ suc x.index))
    unfolding install_upto purge_log update_role
    carried_upto h = go (pending_install nat_cmp nat_same entry_meaning (λ es. es) config u x snapshot c p f) where
      go : Waits u (install_upto nat_cmp config x snapshot c) → Carried s t v u W (install_upto nat_cmp config x snapshot c).output.items (λ V. KnowsAccepted s t.id (install_upto nat_cmp config x snapshot c).state V × ((V.store t.id).committed ≡ suc x.index))
      go w =
          cond_both (is_gt (last_id_cmp nat_cmp (Some x) settled.state.purged))
          (let z : WorldCore = record { state = purge nat_cmp (record settled.state { purge_to = Some x }) x; output = with_command (ordered settled.output (payload.InstallFullSnapshot snapshot)) (command.PurgeLog x) } in z)
          (let z : WorldCore = record { state = record settled.state { purge_to = Some x }; output = ordered settled.output (payload.InstallFullSnapshot snapshot) } in z)
          (λ (z : WorldCore). Waits u z → Carried s t v u W z.output.items (λ V. KnowsAccepted s t.id z.state V × ((V.store t.id).committed ≡ suc x.index)))
          (λ _ w. carried_purged (record settled.state { purge_to = Some x }) refl refl w h)
          (λ _ w. carry s t v u W (settled.output.items ++ install ∷ []) L (λ V. KnowsAccepted s t.id (record settled.state { purge_to = Some x }) V × ((V.store t.id).committed ≡ suc x.index)) (carried_installed h)
          (λ V y k. (held_known (record settled.state { purge_to = Some x }) V refl refl k, k.1)))
          w

    -- under the same vote
    pub upto_vote : (install_upto nat_cmp config x snapshot c).state.vote ≡ c.state.vote
    unfolding install_upto purge_log update_role
    upto_vote =
        cond_both (is_gt (last_id_cmp nat_cmp (Some x) settled.state.purged))
        (let z : WorldCore = record { state = purge nat_cmp (record settled.state { purge_to = Some x }) x; output = with_command (ordered settled.output (payload.InstallFullSnapshot snapshot)) (command.PurgeLog x) } in z)
        (let z : WorldCore = record { state = record settled.state { purge_to = Some x }; output = ordered settled.output (payload.InstallFullSnapshot snapshot) } in z)
        (λ (z : WorldCore). z.state.vote ≡ c.state.vote) (λ _. (purge_alike s t.id (record settled.state { purge_to = Some x }) x).0 ∙ held_vote) (λ _. held_vote)
