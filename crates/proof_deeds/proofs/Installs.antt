-- An install: a log that contradicts the snapshot is cut, the snapshot takes the place of the log up to its last id,
-- and the log is purged.
use Rattle.std.proofs.Common.{ℕ, suc, ◌+◌, ◌<◌, ◌≤◌, ◌≡◌, ◌≢◌, ◌⊎◌, inl, inr, ⊎_elim, Bool, true, false, not, List, [], ◌∷◌, ◌++◌, length, take, arith, refl, sym, ap, ◌∙◌, subst, true≢false, Option, None, Some}
use Rattle.std.specs.Prelude.{IfSome, if◌then◌else◌}
use Rattle.std.specs.Ordering.{is_eq, nat_cmp}
use Rattle.std.proofs.lemmas.Bool.{cases_lt, cond_both, not-false, not-true}
use Rattle.std.proofs.lemmas.Cmp.{nat_cmp_total}
use Rattle.std.proofs.lemmas.List.{length-take}
use Rattle.raft_node.specs.raft_state.declared.ids.LeaderId.{LeaderId}
use Rattle.raft_node.specs.raft_state.declared.ids.LogId.{LogId}
use Rattle.raft_node.specs.raft_state.Invariants.{first_index}
use Rattle.raft_node.specs.raft_state.Log.{last, at}
use Rattle.raft_node.specs.raft_state.Order.{next, log_id_cmp}
use Rattle.raft_node.specs.raft_state.Same.{nat_same, found_is}
use Rattle.raft_node.specs.raft_state.State.{accepted, truncate, undoes_membership}
use Rattle.raft_node.proofs.raft_state_proofs.StateLaws.{is_found_at}
use Rattle.raft_node.specs.raft_command.Push.{with_command}
use Rattle.raft_node.specs.raft_command.declared.command.Command.TheVariants as command
use Rattle.raft_node.specs.raft_command.declared.config.EngineConfig.{EngineConfig}
use Rattle.raft_node.specs.raft_command.declared.sm.CommandPayload.TheVariants as payload
use Rattle.raft_node.specs.raft_steps.FollowingHandler.{truncate_logs}
use Rattle.raft_node.specs.raft_steps.Installs.{has_other_at}
use Rattle.raft_node.specs.raft_steps.Parts.{with_state}
use Rattle.raft_node.specs.raft_steps.ServerStateHandler.{update_role}
use Rattle.proof_agreement.specs.Machine.{Setup, Includes}
use Rattle.proof_agreement.specs.Machine as machine
use Rattle.proof_agreement.specs.Stores.{Append, Session, SnapshotRequest, no_session, whole, entry_at}
use Rattle.proof_agreement.specs.Deeds.{EndStreams, TruncateForSnapshot, InstallSnapshot, MayTruncateForSnapshot, MayInstall, MayAccept, SnapshotFromLeader, IsFollower, below, does}
use Rattle.proof_agreement.proofs.StoresBridge.{front_low, snapshot_committed, snapshot_held, snapshot_below_accepted}
use Rattle.proof_agreement.proofs.StoresFollow.{StoresFollow}
use Rattle.proof_agreement.proofs.WholeLogs.{whole_below, whole_snapshot}
use Rattle.raft_node.specs.raft_store.declared.entry.Entry.{Entry}
use Rattle.raft_node.specs.raft_store.Entries.{entry_meaning}
use Rattle.raft_node.specs.raft_store.Types.{WorldStore, WorldSnapshot, WorldCommand}
use Rattle.proof_mirror.specs.Ready.{InStep}
use Rattle.proof_mirror.proofs.Cuts.{cut_parts}
use Rattle.proof_mirror.proofs.Places.{at_index, end_at_none, first_below, next_last_le}
use Rattle.proof_mirror.proofs.Shape.{shape_of, shaped_of}
use Rattle.raft_node.specs.declared.node.Turn.{Turn}
use Rattle.proof_deeds.specs.Chains.{Does, Reached, left_by, Carried}
use Rattle.proof_deeds.specs.Follows.{StoreIs}
use Rattle.proof_deeds.specs.Images.{Ideal, IdealStore, IdealEntry, IsNamed, EntriesFit, number, images}
use Rattle.proof_deeds.specs.Knows.{KnowsAccepted}
use Rattle.proof_deeds.proofs.Away.{carried_away}
use Rattle.proof_deeds.proofs.Decides.{tail_at, tail_inside}
use Rattle.proof_deeds.proofs.InstallPushes.{done_cut_install, done_install}
use Rattle.proof_deeds.proofs.Keeps.{Ends, Keeps, known_accepted}
use Rattle.proof_deeds.proofs.Numbers.{number_same}
use Rattle.proof_deeds.proofs.Pushes.{push, carry}
use Rattle.proof_deeds.proofs.Roles.{WorldCore, WorldState}
use Rattle.proof_deeds.proofs.SnapshotLaws.{Waits}
use Rattle.proof_deeds.proofs.Tails.{tail_vote, tail_vote_committed, tail_length, tail_committed}
use Rattle.proof_deeds.proofs.Worlds.{Within, within_does, within_then, at_put, does_then, if_some, stores_follow}

module _ (s : Setup Entry) (t : Turn) (config : EngineConfig ℕ) (u : WorldStore) (W : Ideal) (v : LeaderId ℕ) (reached : Reached s W) (away : t.id ≢ s.owner (number v)) (other : is_eq (nat_cmp v.node_id config.id) ≡ false)
    (q : Session) (snapshot : WorldSnapshot) (x : LogId ℕ) (sent : Includes W.messages (SnapshotRequest q (images snapshot.snapshot))) (leads : q.leader ≡ number v) (fit : EntriesFit s snapshot.snapshot) where
  -- the store of the node in a world: it follows the snapshot's leader, and has less committed than the snapshot has
  pub record Facing (V : Ideal) : Type 0 where
    pub vote : (V.store t.id).vote ≡ number v
    pub vote_committed : (V.store t.id).vote_committed ≡ true
    pub committed : (V.store t.id).committed ≤ x.index

  from_leader : (V : Ideal) → Within W V → Facing V → SnapshotFromLeader V (V.store t.id) q (images snapshot.snapshot)
  from_leader V w f = record { sent = w.messages _ sent; session = leads ∙ sym f.vote }

  follows : (V : Ideal) → Facing V → IsFollower s (V.store t.id) t.id
  follows V f = record { vote_committed = f.vote_committed; other = λ e. away (e ∙ ap s.owner f.vote) }

  reach : (V : Ideal) → Does s W V → StoresFollow s (machine.start s) V
  reach V d = stores_follow s V (does_then s _ W V reached d)

  -- the log ends before the snapshot's last id, or holds it
  abbrev pub Joins : Ideal → Type 0
  Joins V = (length (whole (V.store t.id)) ≤ x.index) ⊎ ((x.index < length (whole (V.store t.id))) × ((entry_at s (whole (V.store t.id)) x.index).leader ≡ (entry_at s (images snapshot.snapshot) x.index).leader))

  -- the ideal store after an install
  abbrev pub installed : IdealStore → IdealStore
  installed S = record S { snapshot = images snapshot.snapshot; committed = suc x.index }

  -- what is known of what was accepted, once it is installed, whatever the streams are
  abbrev pub Then : WorldState → Ideal → Type 0
  Then st V = (X : Ideal) (p : Session) → Within V X → X.store t.id ≡ record (installed (V.store t.id)) { session = p } → KnowsAccepted s t.id st X

  -- streams play no part in it
  pub facing_ends : (st : WorldState) → Ends s t.id (λ V. Facing V × Joins V × Then st V)
  facing_ends st V k =
      let X : Ideal = does s V (EndStreams t.id) in
      let e : X.store t.id ≡ record (V.store t.id) { session = no_session } = at_put V t.id (record (V.store t.id) { session = no_session }) in
      let c : (X.store t.id).committed ≡ (V.store t.id).committed = ap (λ (Z : IdealStore). Z.committed) e in (
        record { vote = ap (λ (Z : IdealStore). Z.vote) e ∙ k.0.vote; vote_committed = ap (λ (Z : IdealStore). Z.vote_committed) e ∙ k.0.vote_committed; committed = omega (arith, c, k.0.committed) },
        subst (λ (Z : IdealStore). (length (whole Z) ≤ x.index) ⊎ ((x.index < length (whole Z)) × ((entry_at s (whole Z) x.index).leader ≡ (entry_at s (images snapshot.snapshot) x.index).leader))) (sym e) k.1,
        λ Y p w z. k.2 Y p (within_then V X Y (within_does s V (EndStreams t.id) tt) w) (z ∙ ap (λ (Z : IdealStore). record (installed Z) { session = p }) e),
      )

  module _ (ends : length (images snapshot.snapshot) ≡ suc x.index) where
    -- what was accepted stays known through an install
    accepted_then : (st : WorldState) (V : Ideal) → Does s W V → Within W V → Facing V → Joins V → KnowsAccepted s t.id st V → Then st V
    accepted_then st V d w f j k X p y e = ⊎_elim short long j where
      now : (X.store t.id).committed ≡ suc x.index
      now = ap (λ (Z : IdealStore). Z.committed) e

      short : length (whole (V.store t.id)) ≤ x.index → KnowsAccepted s t.id st X
      short l =
          if_some (λ a. ((r : Append Entry) × MayAccept s V t.id r a.index (number a.leader_id)) ⊎ (a.index < (V.store t.id).committed)) (λ a. ((r : Append Entry) × MayAccept s X t.id r a.index (number a.leader_id)) ⊎ (a.index < (X.store t.id).committed))
          (λ a p. ⊎_elim (λ m. inr (⊎_elim (λ b. omega (arith, b, f.committed, now)) (λ b. omega (arith, b.0, l, now)) m.1.holds)) (λ b. inr (omega (arith, b, f.committed, now))) p)
          (accepted nat_cmp st) k

      long : (x.index < length (whole (V.store t.id))) × ((entry_at s (whole (V.store t.id)) x.index).leader ≡ (entry_at s (images snapshot.snapshot) x.index).leader) → KnowsAccepted s t.id st X
      long p =
          let K : StoresFollow s (machine.start s) V = reach V d in
          let low : (V.store t.id).front ≤ length (V.store t.id).snapshot = front_low s (machine.start s) V K t.id in
          let room : length (V.store t.id).snapshot ≤ (V.store t.id).committed = snapshot_committed s (machine.start s) V K t.id in
          let b : take (length (images snapshot.snapshot)) (whole (V.store t.id)) ≡ images snapshot.snapshot = snapshot_held s (machine.start s) V K q (images snapshot.snapshot) (w.messages _ sent) t.id x.index ends p.0 p.1 in
          let g : whole (installed (V.store t.id)) ≡ whole (V.store t.id) = whole_snapshot (V.store t.id) low (images snapshot.snapshot) (omega (arith, room, f.committed, ends)) b in
          known_accepted s t.id V X y st
          (subst (Keeps s (V.store t.id)) (sym e)
          (record {
            vote = refl;
            vote_committed = refl;
            committed = omega (arith, f.committed);
            holds = λ i d h. ⊎_elim (λ l. inl (omega (arith, l, f.committed))) (λ h. inr (subst (λ ys. (i < length ys) × ((entry_at s ys i).leader ≡ d)) (sym g) h)) h;
          })) k

    -- the install itself, behind a queue after which the log joins
    pub installed_next : (cs : List WorldCommand) (st : WorldState) (seq : ℕ) → Carried s t v u W cs (λ V. Facing V × Joins V × Then st V)
        → Carried s t v u W (cs ++ command.StateMachine (record { seq = seq; payload = payload.InstallFullSnapshot snapshot }) ∷ []) (λ V. KnowsAccepted s t.id st V × ((V.store t.id).committed ≡ suc x.index))
    installed_next cs st seq h =
        push s t v u W cs (command.StateMachine (record { seq = seq; payload = payload.InstallFullSnapshot snapshot })) (λ V. Facing V × Joins V × Then st V) (λ V. KnowsAccepted s t.id st V × ((V.store t.id).committed ≡ suc x.index)) h
        (λ V y k.
        let X : Ideal = does s V (InstallSnapshot t.id x.index q (images snapshot.snapshot)) in
        let e : X.store t.id ≡ installed (V.store t.id) = at_put V t.id (installed (V.store t.id)) in
        let m : MayInstall s V t.id x.index q (images snapshot.snapshot) = record { request = from_leader V y.within k.0; follower = follows V k.0; ends = ends; past = k.0.committed; fits = k.1 } in (
          X,
          done_install s t v (left_by u cs) seq x.index snapshot q (machine.start s) V (reach V y.came) y.store fit m,
          (k.2 X (V.store t.id).session (within_does s V (InstallSnapshot t.id x.index q (images snapshot.snapshot)) tt) e, ap (λ (Z : IdealStore). Z.committed) e),
        ))

    -- The log before it
    module _ (c : WorldCore) (p : Waits u c) (leader : c.state.vote.leader_id ≡ v) (is_committed : c.state.vote.committed ≡ true) (above : next c.state.committed ≤ x.index)
        (named : IsNamed x.leader_id) (last_is : (entry_at s (images snapshot.snapshot) x.index).leader ≡ number x.leader_id) where
      abbrev T : WorldStore
      T = left_by u c.output.items

      j : InStep entry_meaning (left_by u c.output.items) c.state
      j = p.in_step

      low : next c.state.purged ≤ x.index
      low = omega (arith, p.in_step.marks.purged, p.in_step.marks.target, p.in_step.marks.snapshot, above)

      facing : (V : Ideal) → StoreIs s (left_by u c.output.items) (V.store t.id) → Facing V
      facing V h = record {
        vote = tail_vote s T (V.store t.id) c.state h j ∙ ap number leader;
        vote_committed = tail_vote_committed s T (V.store t.id) c.state h j ∙ is_committed;
        committed = omega (arith, tail_committed s T (V.store t.id) c.state h j, above);
      }

      -- where the log has no other id, it ends before or holds this one
      joins : (V : Ideal) → StoreIs s (left_by u c.output.items) (V.store t.id) → has_other_at nat_cmp c.state x ≡ false → Joins V
      joins V h e = ⊎_elim (λ l. inr (held l)) (λ l. inl (omega (arith, l, tail_length s T (V.store t.id) c.state h j))) (cases_lt x.index (next (last c.state.ids))) where
        stands : x.index < next (last c.state.ids) → (y : Option (LogId ℕ)) → at c.state.ids x.index ≡ y → at c.state.ids x.index ≡ Some x
        stands l None b =
            let r : first_index c.state.purged + length c.state.ids ≤ x.index = end_at_none (first_index c.state.purged) x.index c.state.ids p.in_step.marks.run (first_below c.state.purged x.index low) b in
            absurd (omega (arith, r, l, next_last_le (first_index c.state.purged) c.state.ids p.in_step.marks.run))
        stands l (Some y) b =
            let n : not (is_eq (log_id_cmp nat_cmp y x)) ≡ false = sym (ap (λ (z : Option (LogId ℕ)). elim z as (λ _. Bool) [ None ↦ false | Some y ↦ not (is_eq (log_id_cmp nat_cmp y x)) ]) b) ∙ e in
            b ∙ found_is nat_cmp nat_same (Some y) x (not-false (is_eq (log_id_cmp nat_cmp y x)) n)

        held : x.index < next (last c.state.ids) → (x.index < length (whole (V.store t.id))) × ((entry_at s (whole (V.store t.id)) x.index).leader ≡ (entry_at s (images snapshot.snapshot) x.index).leader)
        held l =
            let a : at c.state.ids x.index ≡ Some x = stands l (at c.state.ids x.index) refl in
            (tail_inside s T (V.store t.id) c.state h j x a, (tail_at s T (V.store t.id) c.state h j x a above).0 ∙ sym last_is)

      -- nothing is cut
      pub uncut : has_other_at nat_cmp c.state x ≡ false → Carried s t v u W c.output.items (KnowsAccepted s t.id c.state) → Carried s t v u W c.output.items (λ V. Facing V × Joins V × Then c.state V)
      uncut e h =
          carry s t v u W c.output.items (KnowsAccepted s t.id c.state) (λ V. Facing V × Joins V × Then c.state V) h
          (λ V y k. (facing V y.store, joins V y.store e, accepted_then c.state V y.came y.within (facing V y.store) (joins V y.store e) k))

      -- another id at the index
      apart : (V : Ideal) → StoreIs s (left_by u c.output.items) (V.store t.id) → has_other_at nat_cmp c.state x ≡ true
          → (x.index < length (whole (V.store t.id))) × ((entry_at s (whole (V.store t.id)) x.index).leader ≢ (entry_at s (images snapshot.snapshot) x.index).leader)
      apart V h e = go (at c.state.ids x.index) refl where
        go : (y : Option (LogId ℕ)) → at c.state.ids x.index ≡ y → (x.index < length (whole (V.store t.id))) × ((entry_at s (whole (V.store t.id)) x.index).leader ≢ (entry_at s (images snapshot.snapshot) x.index).leader)
        go None b = absurd (true≢false (sym e ∙ ap (λ (z : Option (LogId ℕ)). elim z as (λ _. Bool) [ None ↦ false | Some y ↦ not (is_eq (log_id_cmp nat_cmp y x)) ]) b))
        go (Some y) b =
            let i : y.index ≡ x.index = at_index x.index c.state.ids y b in
            let a : at c.state.ids y.index ≡ Some y = ap (at c.state.ids) i ∙ b in
            let n : not (is_eq (log_id_cmp nat_cmp y x)) ≡ true = sym (ap (λ (z : Option (LogId ℕ)). elim z as (λ _. Bool) [ None ↦ false | Some y ↦ not (is_eq (log_id_cmp nat_cmp y x)) ]) b) ∙ e in
            let g : ((entry_at s (whole (V.store t.id)) y.index).leader ≡ number y.leader_id) × IsNamed y.leader_id = tail_at s T (V.store t.id) c.state h j y a (omega (arith, i, above)) in (
              omega (arith, i, tail_inside s T (V.store t.id) c.state h j y a),
              λ f.
                  let m : number y.leader_id ≡ number x.leader_id = sym g.0 ∙ (ap (λ k. (entry_at s (whole (V.store t.id)) k).leader) i ∙ (f ∙ last_is)) in
                  let l : y.leader_id ≡ x.leader_id = number_same y.leader_id x.leader_id g.1 named m in
                  let z : y ≡ x = λ k. record { leader_id = l k; index = i k } in
                  let w : is_eq (log_id_cmp nat_cmp y x) ≡ true = ap (λ (a : LogId ℕ). is_eq (log_id_cmp nat_cmp a x)) z ∙ is_found_at nat_cmp nat_cmp_total nat_same [] x (Some x) refl in
                  true≢false (sym w ∙ not-true (is_eq (log_id_cmp nat_cmp y x)) n),
            )

      -- what was accepted ends before it
      low_accepted : (V : Ideal) → Does s W V → Within W V → Facing V → (entry_at s (whole (V.store t.id)) x.index).leader ≢ (entry_at s (images snapshot.snapshot) x.index).leader → KnowsAccepted s t.id c.state V → IfSome (accepted nat_cmp c.state) (λ a. a.index ≤ x.index)
      low_accepted V d w f n k =
          if_some (λ a. ((r : Append Entry) × MayAccept s V t.id r a.index (number a.leader_id)) ⊎ (a.index < (V.store t.id).committed)) (λ a. a.index ≤ x.index)
          (λ a p. ⊎_elim
          (λ m. ⊎_elim (λ l. absurd (n (snapshot_below_accepted s (machine.start s) V (reach V d) t.id m.0 a.index (number a.leader_id) m.1 q (images snapshot.snapshot) x.index (from_leader V w f) ends (omega (arith, l))).1)) (λ l. l) (cases_lt x.index a.index))
          (λ l. omega (arith, l, f.committed)) p)
          (accepted nat_cmp c.state) k

      -- the cut, from the snapshot's last index on
      cut_next : (since : LogId ℕ) → at c.state.ids x.index ≡ Some since → has_other_at nat_cmp c.state x ≡ true → Carried s t v u W c.output.items (KnowsAccepted s t.id c.state)
          → Carried s t v u W (c.output.items ++ command.DeleteConflictLog since ∷ []) (λ V. Facing V × Joins V × Then c.state V)
      cut_next since a e h =
          push s t v u W c.output.items (command.DeleteConflictLog since) (KnowsAccepted s t.id c.state) (λ V. Facing V × Joins V × Then c.state V) h
          (λ V y k.
          let i : since.index ≡ x.index = at_index x.index c.state.ids since a in
          let f : Facing V = facing V y.store in
          let n = apart V y.store e in
          let b : IfSome (accepted nat_cmp c.state) (λ a. a.index ≤ x.index) = low_accepted V y.came y.within f n.1 k in
          let S : IdealStore = record (V.store t.id) { entries = below (V.store t.id) since.index } in
          let X : Ideal = does s V (TruncateForSnapshot t.id since.index x.index q (images snapshot.snapshot)) in
          let g : X.store t.id ≡ S = at_put V t.id S in
          let K : StoresFollow s (machine.start s) V = reach V y.came in
          let under : length (V.store t.id).snapshot ≤ (V.store t.id).committed = snapshot_committed s (machine.start s) V K t.id in
          let cm : (V.store t.id).committed ≡ next c.state.committed = tail_committed s T (V.store t.id) c.state y.store j in
          let sl : length T.snap ≤ next c.state.committed = (shape_of entry_meaning T c.state j.mirrors j.marks).settled in
          let wb : whole S ≡ take since.index (whole (V.store t.id)) = whole_below (V.store t.id) (front_low s (machine.start s) V K t.id) since.index (omega (arith, under, cm, above, i)) in
          let wl : length (whole S) ≤ since.index = short (whole (V.store t.id)) (whole S) since.index wb in
          let xl : length (whole (X.store t.id)) ≡ length (whole S) = ap (λ (Z : IdealStore). length (whole Z)) g in
          let may : MayTruncateForSnapshot s V t.id since.index x.index q (images snapshot.snapshot) = record {
            request = from_leader V y.within f;
            follower = follows V f;
            ends = ends;
            inside = n.0;
            apart = n.1;
            past = omega (arith, cm, above, i);
            shorter = omega (arith, i);
            deep = inr i;
          } in (
            X,
            done_cut_install s t v T since x.index q (images snapshot.snapshot) V y.store (shaped_of entry_meaning T c.state j) (omega (arith, sl, above, i)) may,
            (
              record { vote = ap (λ (Z : IdealStore). Z.vote) g ∙ f.vote; vote_committed = ap (λ (Z : IdealStore). Z.vote_committed) g ∙ f.vote_committed; committed = let z : (X.store t.id).committed ≡ (V.store t.id).committed = ap (λ (Z : IdealStore). Z.committed) g in omega (arith, z, f.committed) },
              inl (omega (arith, xl, wl, i)),
              λ Y p w z. if_some (λ a. a.index ≤ x.index) (λ a. ((r : Append Entry) × MayAccept s Y t.id r a.index (number a.leader_id)) ⊎ (a.index < (Y.store t.id).committed))
                  (λ a l. let m : (Y.store t.id).committed ≡ suc x.index = ap (λ (Z : IdealStore). Z.committed) z in inr (omega (arith, l, m))) (accepted nat_cmp c.state) b,
            ),
          ))
        where
          short : (ws ys : List IdealEntry) (i : ℕ) → ys ≡ take i ws → length ys ≤ i
          short ws ys i e = omega (arith, ap (λ zs. length zs) e, length-take i ws)

      -- a log with another id is cut
      pub cut_where : has_other_at nat_cmp c.state x ≡ true → Carried s t v u W c.output.items (KnowsAccepted s t.id c.state)
          → Carried s t v u W (truncate_logs nat_cmp config x.index (with_state c (record c.state { snap = snapshot.meta }))).output.items (λ V. Facing V × Joins V × Then c.state V)
      unfolding truncate_logs
      cut_where e h = go (at c.state.ids x.index) refl where
        go : (o : Option (LogId ℕ)) → at c.state.ids x.index ≡ o → Carried s t v u W (elim o as (λ _. WorldCore) [
          | None ↦ with_state c (record c.state { snap = snapshot.meta })
          | Some first ↦
              let cut : WorldCore = record { state = truncate (record c.state { snap = snapshot.meta }) x.index; output = with_command c.output (command.DeleteConflictLog first) } in
              if not (undoes_membership (record c.state { snap = snapshot.meta }) x.index) then cut else update_role nat_cmp config cut
        ]).output.items (λ V. Facing V × Joins V × Then c.state V)
        go None b = absurd (true≢false (sym e ∙ ap (λ (z : Option (LogId ℕ)). elim z as (λ _. Bool) [ None ↦ false | Some y ↦ not (is_eq (log_id_cmp nat_cmp y x)) ]) b))
        go (Some since) b =
            let st : WorldState = record c.state { snap = snapshot.meta } in
            let cut : WorldCore = record { state = truncate (record c.state { snap = snapshot.meta }) x.index; output = with_command c.output (command.DeleteConflictLog since) } in
            cond_both (not (undoes_membership st x.index)) cut (update_role nat_cmp config cut) (λ (z : WorldCore). Carried s t v u W z.output.items (λ V. Facing V × Joins V × Then c.state V))
            (λ _. cut_next since b e h)
            (λ _. carried_away s t u W v config cut (λ V. Facing V × Joins V × Then c.state V)
            (cut_parts entry_meaning (λ (z : WorldState). is_eq (nat_cmp z.vote.leader_id.node_id config.id) ≡ false) st x.index (λ em. ap (λ (d : LeaderId ℕ). is_eq (nat_cmp d.node_id config.id)) leader ∙ other)) (facing_ends c.state) (cut_next since b e h))
