-- The law of a snapshot request: what a node that takes it queues is carried.
use Rattle.std.proofs.Common.{ℕ, suc, ◌+◌, ◌<◌, ◌≤◌, ◌≡◌, ◌≢◌, inl, inr, Bool, true, false, List, [], ◌∷◌, ◌++◌, length, map, arith, refl, sym, ap, ap₂, ◌∙◌, subst, true≢false, Option, None, Some}
use Rattle.std.specs.Prelude.{IfSome, slice_get, if◌then◌else◌, ◌&&◌}
use Rattle.std.specs.List.{AllByRecursion}
use Rattle.std.specs.Ordering.{is_eq, is_gt, is_le, is_lt, nat_cmp, ordering_reverse}
use Rattle.std.specs.declared.cmp.Ordering.{Ordering}
use Rattle.std.specs.declared.cmp.Ordering.TheVariants.{Less, Equal, Greater}
use Rattle.std.proofs.lemmas.Bool.{both_ways, cond_both}
use Rattle.std.proofs.lemmas.Cmp.{nat_cmp_total}
use Rattle.std.proofs.lemmas.List.{length-map}
use Rattle.raft_node.specs.raft_state.declared.ids.LeaderId.{LeaderId}
use Rattle.raft_node.specs.raft_state.declared.ids.LogId.{LogId}
use Rattle.raft_node.specs.raft_state.declared.ids.Vote.{Vote}
use Rattle.raft_node.specs.raft_state.declared.membership.Members.{Members}
use Rattle.raft_node.specs.raft_state.Fits.{fits, is_within}
use Rattle.raft_node.specs.raft_state.Invariants.{IsSoundState}
use Rattle.raft_node.specs.raft_state.Log.{last, at}
use Rattle.raft_node.specs.raft_state.LogLaws.{IsRun, at-run}
use Rattle.raft_node.specs.raft_state.Order.{next, last_id_cmp, vote_cmp}
use Rattle.raft_node.specs.raft_state.Same.{nat_same}
use Rattle.raft_node.proofs.raft_state_proofs.LogLists.{fits_has, follow_run}
use Rattle.raft_node.proofs.raft_state_proofs.Orders.{last_total, vote_total, le_of_not_gt, le_trans, lt_not_ge, within_le, within_trans}
use Rattle.raft_node.specs.raft_command.declared.command.Command.TheVariants as command
use Rattle.raft_node.specs.raft_command.declared.config.EngineConfig.{EngineConfig}
use Rattle.raft_node.specs.raft_command.declared.message.Token.{Token}
use Rattle.raft_node.specs.raft_command.declared.respond.Respond.TheVariants as respond
use Rattle.raft_node.specs.raft_steps.InstallRefusals.{refusals_of_fit, refusals_of_install}
use Rattle.raft_node.specs.raft_steps.Installs.{installs, install_upto, install_full_snapshot, install_condition, reply_install, install_and_reply, handle_install_full_snapshot}
use Rattle.raft_node.specs.raft_steps.Parts.{on_core}
use Rattle.raft_node.specs.raft_steps.VoteHandler.{rejects_vote, update_vote}
use Rattle.raft_node.proofs.raft_steps_proofs.KeptFollow.{heard_case, not_own}
use Rattle.proof_agreement.specs.Machine.{Setup, AtOrBelow, last_leader}
use Rattle.proof_agreement.specs.Machine as machine
use Rattle.proof_agreement.specs.Stores.{whole, entry_at, last_leader_of}
use Rattle.proof_agreement.specs.Deeds.{AcceptSnapshot, does}
use Rattle.proof_agreement.proofs.StoresBridge.{snapshot_within_committed}
use Rattle.raft_node.specs.raft_store.declared.entry.Entry.{Entry}
use Rattle.raft_node.specs.raft_store.Entries.{entry_meaning}
use Rattle.raft_node.specs.raft_store.Types.{WorldStore, WorldSnapshot, WorldCommand, WorldMachine}
use Rattle.raft_node.proofs.raft_store_proofs.Lists.{next_last_0}
use Rattle.proof_mirror.specs.Ready.{IsStored, InStep, PendingIn}
use Rattle.proof_mirror.proofs.Elections.{pending_update_vote}
use Rattle.proof_mirror.proofs.Following.{more_passed, voted_sound}
use Rattle.proof_mirror.proofs.Installing.{InstallFits}
use Rattle.proof_mirror.proofs.Orders.{in_order}
use Rattle.proof_mirror.proofs.Proposes.{TakesId}
use Rattle.proof_mirror.proofs.Shape.{shaped_of, length_ids}
use Rattle.proof_mirror.proofs.Starting.{install_fits, pending_install_core}
use Rattle.raft_node.specs.raft_calls.declared.message.Body.TheVariants as body
use Rattle.raft_node.specs.raft_calls.declared.message.Message.{Message}
use Rattle.raft_node.specs.raft_calls.declared.message.Origin.{Origin}
use Rattle.raft_node.specs.declared.node.Turn.{Turn}
use Rattle.proof_deeds.specs.Chains.{Reached, Unread, left_by, Done, Carried}
use Rattle.proof_deeds.specs.Follows.{StoreIs, BodyIs, SnapshotSent, VoteTold}
use Rattle.proof_deeds.specs.Images.{Ideal, IdealStore, IsNamed, IdNamed, number, last_number, image, images, setup_of}
use Rattle.proof_deeds.specs.Knows.{KnowsAccepted, KnowsGrants, KnowsLed, Alone, Knows, Delivered, CarriedIn, Stands}
use Rattle.proof_deeds.proofs.InstallCalls.{carried_upto, upto_vote}
use Rattle.proof_deeds.proofs.InstallPushes.{done_accept_snapshot, done_unaccepted_snapshot}
use Rattle.proof_deeds.proofs.Keeps.{keeps_same, known_accepted}
use Rattle.proof_deeds.proofs.Numbers.{number_node, end_at_or_below}
use Rattle.proof_deeds.proofs.Overlap.{Laps, laps}
use Rattle.proof_deeds.proofs.Pushes.{Tail, push, carry}
use Rattle.proof_deeds.proofs.Roles.{WorldCore, WorldState}
use Rattle.proof_deeds.proofs.SnapshotLaws.{Waits}
use Rattle.proof_deeds.proofs.Stored.{stored_ends}
use Rattle.proof_deeds.proofs.Claims.{vote_told}
use Rattle.proof_deeds.proofs.Tails.{tail_named, tail_vote, tail_vote_committed, tail_committed, tail_reaches, entry_of_id, named_of_id, last_stands}
use Rattle.proof_deeds.proofs.Voting.{carried_heard}
use Rattle.proof_deeds.proofs.Worlds.{within_does, does_then, stores_follow}

reverse_lt : (r : Ordering) → is_lt r ≡ true → is_gt (ordering_reverse r) ≡ true
reverse_lt Less h = refl
reverse_lt Equal h = cc
reverse_lt Greater h = cc

takes_id : TakesId entry_meaning
takes_id e x = refl

-- the leader of the committed id
pub tail_committed_end : (s : Setup Entry) (u : WorldStore) (S : IdealStore) (st : WorldState) → StoreIs s u S → InStep entry_meaning u st → IsSoundState nat_cmp st → Laps S → (last_leader (entry_at s (whole S)) (next st.committed) ≡ last_number st.committed) × IdNamed st.committed
tail_committed_end s u S st h j sound laps = go st.committed refl where
  go : (o : Option (LogId ℕ)) → st.committed ≡ o → (last_leader (entry_at s (whole S)) (next o) ≡ last_number o) × IdNamed o
  go None e = (refl, tt)
  go (Some y) e =
      let w : is_within nat_cmp st.purged st.committed ≡ true =
      within_trans nat_cmp nat_cmp_total st.purged st.snap.last_log_id st.committed (within_trans nat_cmp nat_cmp_total st.purged st.purge_to st.snap.last_log_id sound.marks.at_purged sound.marks.at_target) sound.marks.at_snapshot in
      let a : at st.ids y.index ≡ Some y =
      fits_has nat_cmp nat_cmp_total nat_same st.ids st.purged y (subst (λ o. fits nat_cmp st.ids st.purged o ≡ true) e sound.marks.committed_fits) (subst (λ o. is_within nat_cmp st.purged o ≡ true) e w) in
      let q : IsStored entry_meaning u y = subst (λ ids. at ids y.index ≡ Some y) j.mirrors.log.ids_are a in
      let f : next st.purged ≡ next u.front = ap next j.mirrors.log.purged_is in
      let n : next st.committed ≡ y.index + 1 = ap next e in
      stored_ends s u S h (shaped_of entry_meaning u st j) laps (tail_reaches s u S st h j) y q (omega (arith, f, n, j.marks.purged, j.marks.target, j.marks.snapshot))

-- the end of a snapshot that was sent
pub snapshot_ends : (s : Setup Entry) (to : ℕ) (o : Origin) (snapshot : WorldSnapshot) (W : Ideal) → SnapshotSent s to o snapshot W → (x : LogId ℕ) → snapshot.meta.last_log_id ≡ Some x
    → (length (images snapshot.snapshot) ≡ suc x.index) × ((entry_at s (images snapshot.snapshot) x.index).leader ≡ number x.leader_id) × IsNamed x.leader_id
snapshot_ends s to o snapshot W h x e =
    let ids : List (LogId ℕ) = map (λ (e : Entry). e.log_id) snapshot.snapshot in
    let r : IsRun 0 (map (λ (e : Entry). e.log_id) snapshot.snapshot) = follow_run nat_cmp None 0 (map (λ (e : Entry). e.log_id) snapshot.snapshot) refl h.tells.follow in
    let l : last (map (λ (e : Entry). e.log_id) snapshot.snapshot) ≡ Some x = sym h.tells.tells.last_id ∙ e in
    let n : x.index + 1 ≡ length snapshot.snapshot = sym (ap next l) ∙ (next_last_0 (map (λ (e : Entry). e.log_id) snapshot.snapshot) r ∙ length_ids entry_meaning snapshot.snapshot) in
    let g : slice_get (map (λ (e : Entry). e.log_id) snapshot.snapshot) x.index ≡ Some x =
    sym (at-run 0 x.index (map (λ (e : Entry). e.log_id) snapshot.snapshot) r) ∙ (let q : 0 + x.index ≡ x.index = omega arith in ap (at (map (λ (e : Entry). e.log_id) snapshot.snapshot)) q ∙ last_stands 0 (map (λ (e : Entry). e.log_id) snapshot.snapshot) x r l) in
    (length-map snapshot.snapshot image ∙ (sym n ∙ omega arith), entry_of_id s snapshot.snapshot x.index x g, named_of_id s snapshot.snapshot x.index x h.entries_fit g)

module _ (first : Members ℕ (Unit {0})) (t : Turn) (config : EngineConfig ℕ) (u : WorldStore) (W : Ideal) (msg : Message) (o : Origin) (snapshot : WorldSnapshot) (d : Delivered (setup_of first) t W msg) (b : msg.body ≡ body.SnapshotRequest o snapshot) where
  pub sent_in : SnapshotSent (setup_of first) t.id o snapshot W
  sent_in = subst (λ n. SnapshotSent (setup_of first) n o snapshot W) d.here (subst (λ c. BodyIs (setup_of first) msg.from msg.to c W) b d.is)

  module _ (m : WorldMachine) (now : ℕ) (token : Token) (st : Stands (setup_of first) t config u W m) (unread : AllByRecursion Unread m.core.output.items) (asks : refusals_of_install nat_cmp config o.session_id.vote snapshot.meta m ≡ None) where
    abbrev vl : LeaderId ℕ
    vl = o.session_id.vote.leader_id

    abbrev n : WorldMachine
    n = update_vote nat_cmp entry_meaning config o.session_id.vote now m

    pub other : is_eq (nat_cmp o.session_id.vote.leader_id.node_id config.id) ≡ false
    other = not_own nat_cmp nat_cmp_total nat_same entry_meaning config o.session_id.vote (refusals_of_fit nat_cmp m.core.state o.session_id.vote snapshot.meta) m asks

    away : t.id ≢ (setup_of first).owner (number o.session_id.vote.leader_id)
    away e = sent_in.leaders.away (sym (number_node o.session_id.vote.leader_id sent_in.leaders.named) ∙ sym e)

    -- a vote below the node's is replied to
    carried_rejected : rejects_vote nat_cmp m.core.state o.session_id.vote ≡ true → CarriedIn (setup_of first) t u W (on_core (reply_install None token) m)
    carried_rejected r =
        push (setup_of first) t m.core.state.vote.leader_id u W m.core.output.items (command.Respond None (respond.InstallFullSnapshot (record { value = record { vote = m.core.state.vote }; token = token }))) (Knows (setup_of first) t.id m) (Knows (setup_of first) t.id (on_core (reply_install None token) m)) st.carried
        (λ V y k. (
          V,
          done_unaccepted_snapshot (setup_of first) t m.core.state.vote.leader_id (left_by u m.core.output.items) None (record { value = record { vote = m.core.state.vote }; token = token }) msg o snapshot V y.store d.request b
              (vote_told first V (does_then (setup_of first) _ W V st.reached y.came) t.id m.core.state.vote (tail_named (setup_of first) (left_by u m.core.output.items) (V.store t.id) m.core.state y.store st.pending.core.in_step)
              (tail_vote (setup_of first) (left_by u m.core.output.items) (V.store t.id) m.core.state y.store st.pending.core.in_step))
              (inl (ap is_gt ((vote_total nat_cmp nat_cmp_total).antisymm m.core.state.vote o.session_id.vote) ∙ reverse_lt (vote_cmp nat_cmp o.session_id.vote m.core.state.vote) r)),
          record { state = k.state; leader = k.leader; candidate = k.candidate; alone = k.alone },
        ))

    module _ (r : rejects_vote nat_cmp m.core.state o.session_id.vote ≡ false) where
      record Voted (n : WorldMachine) : Type 0 where
        pub vote : n.core.state.vote ≡ o.session_id.vote
        pub leader : n.leader ≡ None
        pub candidate : n.candidate ≡ None

      voted : Voted (update_vote nat_cmp entry_meaning config o.session_id.vote now m)
      voted = heard_case nat_cmp nat_cmp_total nat_same entry_meaning config Voted o.session_id.vote now m r other (λ role q. record { vote = refl; leader = refl; candidate = refl })

      pub sound : IsSoundState nat_cmp (update_vote nat_cmp entry_meaning config o.session_id.vote now m).core.state
      sound = voted_sound nat_cmp nat_cmp_total nat_same entry_meaning config o.session_id.vote now m r other st.sound.sound

      pending : PendingIn nat_cmp entry_meaning (λ es. es) u (update_vote nat_cmp entry_meaning config o.session_id.vote now m)
      pending = pending_update_vote nat_cmp entry_meaning takes_id (λ es. es) config u o.session_id.vote now m st.pending (in_order nat_cmp n.core.state.vote.leader_id n.core.state.ids n.core.state.purged sound.log)

      pub fit : refusals_of_fit nat_cmp n.core.state n.core.state.vote snapshot.meta ≡ None
      fit = heard_case nat_cmp nat_cmp_total nat_same entry_meaning config (λ n. refusals_of_fit nat_cmp n.core.state n.core.state.vote snapshot.meta ≡ None) o.session_id.vote now m r other (λ role queue. more_passed nat_cmp config o.session_id.vote (refusals_of_fit nat_cmp m.core.state o.session_id.vote snapshot.meta) m asks r)

      leader_is : n.core.state.vote.leader_id ≡ o.session_id.vote.leader_id
      leader_is = ap (λ (w : Vote ℕ). w.leader_id) voted.vote

      committed_is : n.core.state.vote.committed ≡ true
      committed_is = ap (λ (w : Vote ℕ). w.committed) voted.vote ∙ sent_in.leaders.committed

      base : Carried (setup_of first) t o.session_id.vote.leader_id u W n.core.output.items (KnowsAccepted (setup_of first) t.id n.core.state)
      base =
          subst (λ w. Carried (setup_of first) t w u W n.core.output.items (KnowsAccepted (setup_of first) t.id n.core.state)) leader_is
          (carry (setup_of first) t n.core.state.vote.leader_id u W n.core.output.items (Knows (setup_of first) t.id n) (KnowsAccepted (setup_of first) t.id n.core.state)
          (carried_heard first t config st.id u W o.session_id.vote now m st.pending.core st.sound.sound unread sent_in.leaders.named sent_in.leaders.committed sent_in.leaders.away (inr (sent_in.session, images snapshot.snapshot, sent_in.sent, sent_in.leader)) st.carried)
          (λ V _ k. k.state))

      abbrev done : WorldCore
      done = install_full_snapshot nat_cmp config snapshot n.core

      done_waits : Waits u (install_full_snapshot nat_cmp config snapshot n.core)
      done_waits = pending_install_core nat_cmp nat_cmp_total nat_same entry_meaning takes_id (λ es. es) config u snapshot n.core pending.core sound fit sent_in.tells

      -- the snapshot's entries are committed
      abbrev Covers : Ideal → Type 0
      Covers V = (x : LogId ℕ) → snapshot.meta.last_log_id ≡ Some x → x.index < (V.store t.id).committed

      -- what isn't installed is committed already
      covered : (x : LogId ℕ) → snapshot.meta.last_log_id ≡ Some x → installs nat_cmp n.core.state snapshot.meta ≡ false → (V : Ideal) → Tail (setup_of first) t o.session_id.vote.leader_id u W n.core.output.items V → x.index < (V.store t.id).committed
      covered x e i V y =
          let E = snapshot_ends (setup_of first) t.id o snapshot W sent_in x e in
          let j : InStep entry_meaning (left_by u n.core.output.items) n.core.state = pending.core.in_step in
          let came : Reached (setup_of first) V = does_then (setup_of first) _ W V st.reached y.came in
          let c = tail_committed_end (setup_of first) (left_by u n.core.output.items) (V.store t.id) n.core.state y.store j sound (laps (setup_of first) V came t.id) in
          let k : next n.core.state.committed ≡ (V.store t.id).committed = sym (tail_committed (setup_of first) (left_by u n.core.output.items) (V.store t.id) n.core.state y.store j) in
          let a : AtOrBelow (number x.leader_id) (x.index + 1) (last_number n.core.state.committed) (next n.core.state.committed) = end_at_or_below n.core.state.committed (Some x) c.1 E.2 not_lt in
          let z : AtOrBelow (last_leader_of (setup_of first) (images snapshot.snapshot)) (length (images snapshot.snapshot)) (last_leader (entry_at (setup_of first) (whole (V.store t.id))) (V.store t.id).committed) (V.store t.id).committed =
          subst (λ f. AtOrBelow (last_leader_of (setup_of first) (images snapshot.snapshot)) (length (images snapshot.snapshot)) f (V.store t.id).committed) (sym c.0 ∙ ap (last_leader (entry_at (setup_of first) (whole (V.store t.id)))) k)
          (subst (λ f. AtOrBelow f (length (images snapshot.snapshot)) (last_number n.core.state.committed) (V.store t.id).committed) (sym (ap (last_leader (entry_at (setup_of first) (images snapshot.snapshot))) E.0 ∙ E.1))
          (subst (λ f. AtOrBelow (number x.leader_id) f (last_number n.core.state.committed) (V.store t.id).committed) (let w : x.index + 1 ≡ suc x.index = omega arith in w ∙ sym E.0)
          (subst (λ f. AtOrBelow (number x.leader_id) (x.index + 1) (last_number n.core.state.committed) f) k a))) in
          let l : length (images snapshot.snapshot) ≤ (V.store t.id).committed = snapshot_within_committed (setup_of first) (machine.start (setup_of first)) V (stores_follow (setup_of first) V came) sent_in.session (images snapshot.snapshot) (y.within.messages _ sent_in.sent) t.id z in
          omega (arith, l, E.0)
        where
          below : is_le (last_id_cmp nat_cmp (Some x) n.core.state.committed) ≡ true
          below = go (is_gt (last_id_cmp nat_cmp (Some x) n.core.state.committed)) (is_gt (last_id_cmp nat_cmp (Some x) n.core.state.snap.last_log_id)) refl refl (ap (λ p. is_gt (last_id_cmp nat_cmp p n.core.state.committed) && is_gt (last_id_cmp nat_cmp p n.core.state.snap.last_log_id)) (sym e) ∙ i) where
            go : (a b : Bool) → is_gt (last_id_cmp nat_cmp (Some x) n.core.state.committed) ≡ a → is_gt (last_id_cmp nat_cmp (Some x) n.core.state.snap.last_log_id) ≡ b → (is_gt (last_id_cmp nat_cmp (Some x) n.core.state.committed) && is_gt (last_id_cmp nat_cmp (Some x) n.core.state.snap.last_log_id)) ≡ false
                → is_le (last_id_cmp nat_cmp (Some x) n.core.state.committed) ≡ true
            go false b f g h = le_of_not_gt (last_id_cmp nat_cmp (Some x) n.core.state.committed) f
            go true false f g h = le_trans (last_total nat_cmp nat_cmp_total) (Some x) n.core.state.snap.last_log_id n.core.state.committed (le_of_not_gt (last_id_cmp nat_cmp (Some x) n.core.state.snap.last_log_id) g) (within_le nat_cmp nat_cmp_total n.core.state.snap.last_log_id n.core.state.committed sound.marks.at_snapshot)
            go true true f g h = absurd (true≢false (sym (ap₂ (λ p q. p && q) f g) ∙ h))

          not_lt : is_lt (last_id_cmp nat_cmp n.core.state.committed (Some x)) ≡ false
          not_lt = of (is_lt (last_id_cmp nat_cmp n.core.state.committed (Some x))) refl where
            of : (q : Bool) → is_lt (last_id_cmp nat_cmp n.core.state.committed (Some x)) ≡ q → is_lt (last_id_cmp nat_cmp n.core.state.committed (Some x)) ≡ false
            of false g = g
            of true g = absurd (both_ways (is_le (last_id_cmp nat_cmp (Some x) n.core.state.committed)) (lt_not_ge (last_total nat_cmp nat_cmp_total) n.core.state.committed (Some x) g) below)

      -- what is known once the snapshot is installed, where it is
      carried_done : Carried (setup_of first) t o.session_id.vote.leader_id u W (install_full_snapshot nat_cmp config snapshot n.core).output.items (λ V. KnowsAccepted (setup_of first) t.id (install_full_snapshot nat_cmp config snapshot n.core).state V × Covers V)
          × ((install_full_snapshot nat_cmp config snapshot n.core).state.vote ≡ n.core.state.vote)
      unfolding install_full_snapshot
      carried_done = go snapshot.meta.last_log_id refl where
        go : (p : Option (LogId ℕ)) → snapshot.meta.last_log_id ≡ p
            → Carried (setup_of first) t o.session_id.vote.leader_id u W (elim p as (λ _. WorldCore) [
              | None ↦ n.core
              | Some x ↦ (if installs nat_cmp n.core.state snapshot.meta then install_upto nat_cmp config x snapshot n.core else n.core)
            ]).output.items (λ V. KnowsAccepted (setup_of first) t.id (elim p as (λ _. WorldCore) [
              | None ↦ n.core
              | Some x ↦ (if installs nat_cmp n.core.state snapshot.meta then install_upto nat_cmp config x snapshot n.core else n.core)
            ]).state V × Covers V)
            × ((elim p as (λ _. WorldCore) [
              | None ↦ n.core
              | Some x ↦ (if installs nat_cmp n.core.state snapshot.meta then install_upto nat_cmp config x snapshot n.core else n.core)
            ]).state.vote ≡ n.core.state.vote)
        go None e = (
          carry (setup_of first) t o.session_id.vote.leader_id u W n.core.output.items (KnowsAccepted (setup_of first) t.id n.core.state) (λ V. KnowsAccepted (setup_of first) t.id n.core.state V × Covers V) base
              (λ V y k. (k, λ x f. let z : None ≡ Some x = sym e ∙ f in absurd cc)),
          refl,
        )
        go (Some x) e =
            cond_both (installs nat_cmp n.core.state snapshot.meta) (install_upto nat_cmp config x snapshot n.core) n.core
            (λ (z : WorldCore). Carried (setup_of first) t o.session_id.vote.leader_id u W z.output.items (λ V. KnowsAccepted (setup_of first) t.id z.state V × Covers V) × (z.state.vote ≡ n.core.state.vote))
            (λ i.
            let f : InstallFits nat_cmp entry_meaning n.core.state snapshot.meta snapshot.snapshot x = install_fits nat_cmp nat_cmp_total nat_same entry_meaning n.core.state snapshot.meta snapshot.snapshot x sound e i fit sent_in.tells in (
              carry (setup_of first) t o.session_id.vote.leader_id u W (install_upto nat_cmp config x snapshot n.core).output.items
                  (λ V. KnowsAccepted (setup_of first) t.id (install_upto nat_cmp config x snapshot n.core).state V × ((V.store t.id).committed ≡ suc x.index))
                  (λ V. KnowsAccepted (setup_of first) t.id (install_upto nat_cmp config x snapshot n.core).state V × Covers V)
                  (carried_upto (setup_of first) t config u W o.session_id.vote.leader_id st.reached away other sent_in.session snapshot x sent_in.sent sent_in.leader sent_in.entries_fit n.core pending.core leader_is committed_is f base)
                  (λ V y k. (k.0, λ z g. let a : Some z ≡ Some x = sym g ∙ e in let q : z ≡ x = cc in let w : z.index ≡ x.index = ap (λ (c : LogId ℕ). c.index) q in omega (arith, w, k.1))),
              upto_vote (setup_of first) t config u W o.session_id.vote.leader_id st.reached away other sent_in.session snapshot x sent_in.sent sent_in.leader sent_in.entries_fit n.core pending.core leader_is committed_is f,
            ))
            (λ i. (
              carry (setup_of first) t o.session_id.vote.leader_id u W n.core.output.items (KnowsAccepted (setup_of first) t.id n.core.state) (λ V. KnowsAccepted (setup_of first) t.id n.core.state V × Covers V) base
                  (λ V y k. (k, λ z g. let a : Some z ≡ Some x = sym g ∙ e in let q : z ≡ x = cc in let w : z.index ≡ x.index = ap (λ (c : LogId ℕ). c.index) q in let l : x.index < (V.store t.id).committed = covered x e i V y in omega (arith, w, l))),
              refl,
            ))

      -- and then it is replied to
      carried_accepted : CarriedIn (setup_of first) t u W (on_core (install_and_reply nat_cmp entry_meaning config snapshot token) (update_vote nat_cmp entry_meaning config o.session_id.vote now m))
      carried_accepted =
          subst (λ w. Carried (setup_of first) t w u W (done.output.items ++ reply ∷ []) (Knows (setup_of first) t.id after)) (sym done_leader)
          (push (setup_of first) t o.session_id.vote.leader_id u W done.output.items reply (λ V. KnowsAccepted (setup_of first) t.id done.state V × Covers V) (Knows (setup_of first) t.id after) carried_done.0
          (λ V y k. by V y k.0 k.1 snapshot.meta.last_log_id refl))
        where
          done_leader : (install_full_snapshot nat_cmp config snapshot n.core).state.vote.leader_id ≡ o.session_id.vote.leader_id
          done_leader = ap (λ (w : Vote ℕ). w.leader_id) carried_done.1 ∙ leader_is

          -- the node's vote is the leader's then
          done_vote : (install_full_snapshot nat_cmp config snapshot n.core).state.vote ≡ o.session_id.vote
          done_vote =
              carried_done.1 ∙ ap₂ (λ d b. let w : Vote ℕ = record { leader_id = d; committed = b } in w) leader_is (committed_is ∙ sym sent_in.leaders.committed)

          reply : WorldCommand
          reply = command.Respond (install_condition nat_cmp snapshot.meta n.core) (respond.InstallFullSnapshot (record { value = record { vote = (install_full_snapshot nat_cmp config snapshot n.core).state.vote }; token = token }))

          after : WorldMachine
          after = on_core (install_and_reply nat_cmp entry_meaning config snapshot token) (update_vote nat_cmp entry_meaning config o.session_id.vote now m)

          known : (V : Ideal) → KnowsAccepted (setup_of first) t.id (install_full_snapshot nat_cmp config snapshot n.core).state V → Knows (setup_of first) t.id (on_core (install_and_reply nat_cmp entry_meaning config snapshot token) (update_vote nat_cmp entry_meaning config o.session_id.vote now m)) V
          known V k = record {
            state = k;
            leader = subst (λ l. IfSome l (λ l. KnowsLed (setup_of first) t.id (install_full_snapshot nat_cmp config snapshot n.core).state l V)) (sym voted.leader) tt;
            candidate = subst (λ c. IfSome c (λ c. KnowsGrants t.id c V)) (sym voted.candidate) tt;
            alone = subst (λ l. Alone l (update_vote nat_cmp entry_meaning config o.session_id.vote now m).candidate) (sym voted.leader) tt;
          }

          -- the node's vote, which the reply tells
          told : (V : Ideal) → Tail (setup_of first) t o.session_id.vote.leader_id u W (install_full_snapshot nat_cmp config snapshot n.core).output.items V → VoteTold (install_full_snapshot nat_cmp config snapshot n.core).state.vote V
          told V y =
              vote_told first V (does_then (setup_of first) _ W V st.reached y.came) t.id done.state.vote (tail_named (setup_of first) (left_by u done.output.items) (V.store t.id) done.state y.store done_waits.in_step)
              (tail_vote (setup_of first) (left_by u done.output.items) (V.store t.id) done.state y.store done_waits.in_step)

          by : (V : Ideal) → Tail (setup_of first) t o.session_id.vote.leader_id u W (install_full_snapshot nat_cmp config snapshot n.core).output.items V → KnowsAccepted (setup_of first) t.id (install_full_snapshot nat_cmp config snapshot n.core).state V → Covers V
              → (p : Option (LogId ℕ)) → snapshot.meta.last_log_id ≡ p
              → (X : Ideal) × Done (setup_of first) t o.session_id.vote.leader_id (left_by u (install_full_snapshot nat_cmp config snapshot n.core).output.items) reply V X × Knows (setup_of first) t.id after X
          by V y k c None e = (V, done_unaccepted_snapshot (setup_of first) t o.session_id.vote.leader_id (left_by u done.output.items) _ _ msg o snapshot V y.store d.request b (told V y) (inr e), known V k)
          by V y k c (Some x) e =
              let E = snapshot_ends (setup_of first) t.id o snapshot W sent_in x e in
              let X : Ideal = does (setup_of first) V (AcceptSnapshot t.id sent_in.session (images snapshot.snapshot)) in
              let l : x.index < (V.store t.id).committed = c x e in
              let v : (V.store t.id).vote ≡ number o.session_id.vote.leader_id = tail_vote (setup_of first) (left_by u done.output.items) (V.store t.id) done.state y.store done_waits.in_step ∙ ap number done_leader in
              let a : (V.store t.id).vote_committed ≡ true = tail_vote_committed (setup_of first) (left_by u done.output.items) (V.store t.id) done.state y.store done_waits.in_step ∙ (ap (λ (w : Vote ℕ). w.committed) carried_done.1 ∙ committed_is) in (
                X,
                done_accept_snapshot (setup_of first) t o.session_id.vote.leader_id (left_by u done.output.items) _ _ msg o snapshot sent_in.session V y.store d.request b sent_in.leader
                    (record { request = record { sent = y.within.messages _ sent_in.sent; session = sent_in.leader ∙ sym v }; vote_committed = a; committed = omega (arith, E.0, l) }) (told V y) x e E.0
                    (ap (last_leader (entry_at (setup_of first) (images snapshot.snapshot))) E.0 ∙ E.1) E.2 done_vote sent_in.leaders.named,
                known X (known_accepted (setup_of first) t.id V X (within_does (setup_of first) V (AcceptSnapshot t.id sent_in.session (images snapshot.snapshot)) tt) done.state (keeps_same (setup_of first) (V.store t.id) (X.store t.id) refl) k),
              )

    -- A snapshot request that isn't refused
    pub carried_handle_install : CarriedIn (setup_of first) t u W (handle_install_full_snapshot nat_cmp entry_meaning config o.session_id.vote snapshot token now m)
    unfolding handle_install_full_snapshot
    carried_handle_install =
        cond_both (rejects_vote nat_cmp m.core.state o.session_id.vote) (on_core (reply_install None token) m) (on_core (install_and_reply nat_cmp entry_meaning config snapshot token) n) (CarriedIn (setup_of first) t u W)
        (λ r. carried_rejected r) (λ r. carried_accepted r)
