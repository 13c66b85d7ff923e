-- The committed membership stays settled when a snapshot is built or installed, and when the log is purged.
use Rattle.std.proofs.Common.{ℕ, ◌+◌, ◌≤◌, ◌≡◌, ◌⊎◌, inl, inr, ⊎_elim, Bool, true, false, List, [], arith, refl, ap, sym, subst, Option, None, Some}
use Rattle.std.specs.Prelude.{IfSome, nat_lt, min, if◌then◌else◌}
use Rattle.std.specs.Option.{option_map}
use Rattle.std.specs.Ordering.{is_gt, nat_cmp}
use Rattle.std.proofs.lemmas.Bool.{cond_both}
use Rattle.std.proofs.lemmas.Cmp.{nat_cmp_total}
use Rattle.raft_node.specs.raft_state.declared.ids.LogId.{LogId}
use Rattle.raft_node.specs.raft_state.declared.membership.Members.{Members}
use Rattle.raft_node.specs.raft_state.declared.membership.SnapshotMeta.{SnapshotMeta}
use Rattle.raft_node.specs.raft_state.declared.membership.StoredMembership.{StoredMembership}
use Rattle.raft_node.specs.raft_state.Log.{at}
use Rattle.raft_node.specs.raft_state.Order.{last_id_cmp, next}
use Rattle.raft_node.specs.raft_state.Same.{nat_same}
use Rattle.raft_node.specs.raft_state.State.{accepted}
use Rattle.raft_node.proofs.raft_state_proofs.Orders.{within_next}
use Rattle.raft_node.specs.raft_progress_entry.declared.entry.ProgressEntry.{ProgressEntry}
use Rattle.raft_node.specs.raft_command.declared.config.EngineConfig.{EngineConfig}
use Rattle.raft_node.specs.raft_command.declared.message.Token.{Token}
use Rattle.raft_node.specs.raft_command.declared.sm.CommandPayload.TheVariants as payload
use Rattle.raft_node.specs.raft_command.Push.{ordered}
use Rattle.raft_node.specs.raft_steps.FollowingHandler.{truncate_logs}
use Rattle.raft_node.specs.raft_steps.InstallRefusals.{refusals_of_install}
use Rattle.raft_node.specs.raft_steps.Installs.{handle_install_full_snapshot, has_other_at, held_upto, install_and_reply, install_full_snapshot, install_upto, installs, replaces_log, reply_install, truncate_contradicted, with_memberships_of}
use Rattle.raft_node.specs.raft_steps.LogHandler.{schedule_policy_based_purge, try_purge_log, update_purge_upto}
use Rattle.raft_node.specs.raft_steps.Parts.{on_core, with_state}
use Rattle.raft_node.specs.raft_steps.Refusals.{rows_in}
use Rattle.raft_node.specs.raft_steps.ServerStateHandler.{update_role}
use Rattle.raft_node.specs.raft_steps.SnapshotCalls.{built, finish_building_snapshot, purge_to_index, trigger_purge_log}
use Rattle.raft_node.specs.raft_steps.SnapshotHandler.{is_newer_snapshot, trigger_snapshot, update_snapshot}
use Rattle.raft_node.specs.raft_steps.VoteHandler.{rejects_vote, update_vote}
use Rattle.raft_node.proofs.raft_steps_proofs.KeptAppend.{truncate_case}
use Rattle.raft_node.proofs.raft_steps_proofs.KeptFollow.{heard_case}
use Rattle.proof_agreement.specs.Machine.{Setup}
use Rattle.raft_node.specs.raft_store.declared.entry.Entry.{Entry}
use Rattle.raft_node.specs.raft_store.Entries.{entry_meaning}
use Rattle.raft_node.specs.raft_store.Types.{WorldMachine, WorldSnapshot, WorldStore}
use Rattle.proof_mirror.proofs.Installing.{InstallFits}
use Rattle.proof_mirror.proofs.Starting.{install_fits}
use Rattle.raft_node.specs.raft_calls.declared.message.Body.TheVariants as body
use Rattle.raft_node.specs.raft_calls.declared.message.Message.{Message}
use Rattle.raft_node.specs.raft_calls.declared.message.Origin.{Origin}
use Rattle.raft_node.specs.declared.node.Turn.{Turn}
use Rattle.proof_deeds.specs.Chains.{left_by}
use Rattle.proof_deeds.specs.Images.{Ideal, number, setup_of}
use Rattle.proof_deeds.specs.Knows.{Delivered, Stands}
use Rattle.proof_deeds.proofs.AppendFitting.{Settled, SettledBy, not_lower, settled_more}
use Rattle.proof_deeds.proofs.InstallLaws.{fit, other, sent_in, sound}
use Rattle.proof_deeds.proofs.InstallMembers.{membership_within}
use Rattle.proof_deeds.proofs.Laws.{unread}
use Rattle.proof_deeds.proofs.LeaderSettles.{purge_keeps, try_purge_keeps}
use Rattle.proof_deeds.proofs.OwnSettles.{kept_same}
use Rattle.proof_deeds.proofs.Roles.{WorldCore, WorldState}
use Rattle.proof_deeds.proofs.Tails.{tail_named}
use Rattle.proof_deeds.proofs.Worlds.{does_self, if_some}

module _ (s : Setup Entry) (W : Ideal) where
  -- a build that is asked for
  pub trigger_keeps : (c : WorldCore) → Settled s W c.state → Settled s W (trigger_snapshot c).state
  unfolding trigger_snapshot
  trigger_keeps c k =
      cond_both c.state.building c (record { state = record c.state { building = true }; output = ordered c.output payload.BuildSnapshot }) (λ (z : WorldCore). Settled s W z.state)
      (λ _. k) (λ _. kept_same s W c.state (record c.state { building = true }) refl (omega arith) refl k)

  -- a purge up to an index
  index_keeps : (rows : List (ℕ × ProgressEntry ℕ)) (i : ℕ) (c : WorldCore) → Settled s W c.state → Settled s W (purge_to_index nat_cmp rows i c).state
  index_keeps rows i c k = go c.state.snap.last_log_id where
    go : (o : Option (LogId ℕ)) → (let n = (elim o as (λ _. WorldCore) [
      | None ↦ c
      | Some x ↦ (if nat_lt i (next c.state.purge_to) then c else try_purge_log nat_cmp rows (update_purge_upto (at c.state.ids (min i x.index)) c))
    ]) in Settled s W n.state)
    go None = k
    go (Some x) =
        cond_both (nat_lt i (next c.state.purge_to)) c (try_purge_log nat_cmp rows (update_purge_upto (at c.state.ids (min i x.index)) c)) (λ (z : WorldCore). Settled s W z.state) (λ _. k)
        (λ _. try_purge_keeps s W rows (update_purge_upto (at c.state.ids (min i x.index)) c) (kept_same s W c.state (record c.state { purge_to = at c.state.ids (min i x.index) }) refl (omega arith) refl k))

  pub purge_to_keeps : (i : ℕ) (m : WorldMachine) → Settled s W m.core.state → Settled s W (trigger_purge_log nat_cmp i m).core.state
  unfolding trigger_purge_log
  purge_to_keeps i m k = index_keeps (rows_in m) i m.core k

  -- a build that ended
  pub finish_keeps : (config : EngineConfig ℕ) (meta : SnapshotMeta ℕ (Unit {0})) (m : WorldMachine) → Settled s W m.core.state → Settled s W (finish_building_snapshot nat_cmp config meta m).core.state
  unfolding finish_building_snapshot schedule_policy_based_purge update_snapshot
  finish_keeps config meta m k =
      cond_both (is_newer_snapshot nat_cmp m.core.state meta) (try_purge_log nat_cmp (rows_in m) d) b (λ (z : WorldCore). Settled s W z.state)
      (λ _. try_purge_keeps s W (rows_in m) d recorded)
      (λ _. kept_same s W m.core.state b.state refl (omega arith) refl k)
    where
      b : WorldCore
      b = built m.core

      d : WorldCore
      d = schedule_policy_based_purge nat_cmp config (update_snapshot nat_cmp meta (built m.core))

      recorded : Settled s W (schedule_policy_based_purge nat_cmp config (update_snapshot nat_cmp meta (built m.core))).state
      recorded =
          cond_both (is_newer_snapshot nat_cmp (built m.core).state meta) (with_state (built m.core) (record (built m.core).state { snap = meta })) (built m.core) (λ (z : WorldCore). Settled s W (schedule_policy_based_purge nat_cmp config z).state)
          (λ _. kept_same s W m.core.state (schedule_policy_based_purge nat_cmp config (with_state (built m.core) (record (built m.core).state { snap = meta }))).state refl (omega arith) refl k)
          (λ _. kept_same s W m.core.state (schedule_policy_based_purge nat_cmp config (built m.core)).state refl (omega arith) refl k)

  module _ (config : EngineConfig ℕ) (x : LogId ℕ) (snapshot : WorldSnapshot) (c : WorldCore) where
    -- what an install up to x leaves: the committed membership is the snapshot's or the old one
    record Installed (z : WorldState) : Type 0 where
      pub cm : (z.cm ≡ snapshot.meta.last_membership) ⊎ (z.cm ≡ c.state.cm)
      pub vote : z.vote ≡ c.state.vote
      pub committed : z.committed ≡ Some x

    -- what leaves the committed membership and the vote
    record Marked (z : WorldState) : Type 0 where
      pub cm : z.cm ≡ c.state.cm
      pub vote : z.vote ≡ c.state.vote

    abbrev noted : WorldCore
    noted = with_state c (record c.state { snap = snapshot.meta })

    cut_marked : Marked (truncate_contradicted nat_cmp config x noted).state
    cut_marked =
        cond_both (has_other_at nat_cmp c.state x) (truncate_logs nat_cmp config x.index noted) noted (λ (z : WorldCore). Marked z.state)
        (λ _. truncate_case nat_cmp config (λ (z : WorldCore). Marked z.state) x.index noted (λ _. record { cm = refl; vote = refl }) (λ first e em role q. record { cm = refl; vote = refl }))
        (λ _. record { cm = refl; vote = refl })

    held_marked : (z : WorldState) → Marked z → Marked (held_upto nat_cmp x z)
    held_marked z k =
        cond_both (is_gt (last_id_cmp nat_cmp (Some x) (accepted nat_cmp z))) (record z { accepted_by = option_map (λ id. (z.vote.leader_id, id)) (Some x) }) z (λ (y : WorldState). Marked (record y { committed = Some x }))
        (λ _. record { cm = k.cm; vote = k.vote }) (λ _. record { cm = k.cm; vote = k.vote })

    members_installed : (gone : Bool) (z : WorldState) → z.committed ≡ Some x → Marked z → Installed (with_memberships_of snapshot.meta.last_membership x gone z)
    members_installed true z e k = record { cm = inl refl; vote = k.vote; committed = e }
    members_installed false z e k = record {
      cm = cond_both (nat_lt (x.index + 1) (next z.cm.log_id)) z.cm snapshot.meta.last_membership (λ (y : StoredMembership ℕ (Unit {0})). (y ≡ snapshot.meta.last_membership) ⊎ (y ≡ c.state.cm)) (λ _. inr k.cm) (λ _. inl refl);
      vote = k.vote;
      committed = e;
    }

    -- it is settled then
    installed_settles : next c.state.committed ≤ x.index → next snapshot.meta.last_membership.log_id ≤ x.index + 1 → Settled s W c.state → (z : WorldState) → Installed z → Settled s W z
    installed_settles above within k z i = ⊎_elim (λ e. of_snapshot z.cm.log_id (ap (λ m. m.log_id) e)) (λ e. of_old z.cm.log_id (ap (λ m. m.log_id) e)) i.cm where
      more : next z.committed ≡ x.index + 1
      more = ap next i.committed

      of_snapshot : (o : Option (LogId ℕ)) → o ≡ snapshot.meta.last_membership.log_id → IfSome o (SettledBy s W (number z.vote.leader_id) (next z.committed))
      of_snapshot None e = tt
      of_snapshot (Some y) e = inr (let q : y.index + 1 ≡ next snapshot.meta.last_membership.log_id = ap next e in omega (arith, q, within, more))

      of_old : (o : Option (LogId ℕ)) → o ≡ c.state.cm.log_id → IfSome o (SettledBy s W (number z.vote.leader_id) (next z.committed))
      of_old o e =
          if_some (SettledBy s W (number c.state.vote.leader_id) (next c.state.committed)) (SettledBy s W (number z.vote.leader_id) (next z.committed))
          (λ y q. settled_more s W W (number c.state.vote.leader_id) (number z.vote.leader_id) (next c.state.committed) (next z.committed) y (does_self s W) (let v : number z.vote.leader_id ≡ number c.state.vote.leader_id = ap (λ w. number w.leader_id) i.vote in omega (arith, v)) (omega (arith, above, more)) q)
          o (subst (λ p. IfSome p (SettledBy s W (number c.state.vote.leader_id) (next c.state.committed))) (sym e) k)

    pub upto_settles : next c.state.committed ≤ x.index → next snapshot.meta.last_membership.log_id ≤ x.index + 1 → Settled s W c.state → Settled s W (install_upto nat_cmp config x snapshot c).state
    unfolding install_upto update_role
    upto_settles above within k =
        let cut : WorldCore = truncate_contradicted nat_cmp config x noted in
        let held : WorldState = with_memberships_of snapshot.meta.last_membership x (replaces_log nat_cmp c.state x) (held_upto nat_cmp x cut.state) in
        let i : Installed held = members_installed (replaces_log nat_cmp c.state x) (held_upto nat_cmp x cut.state) refl (held_marked cut.state cut_marked) in
        let settled : WorldCore = update_role nat_cmp config (with_state cut held) in
        purge_keeps s W (update_purge_upto (Some x) (record settled { output = ordered settled.output (payload.InstallFullSnapshot snapshot) }))
        (installed_settles above within k (record settled.state { purge_to = Some x }) (record { cm = i.cm; vote = i.vote; committed = i.committed }))

module _ (first : Members ℕ (Unit {0})) (t : Turn) (config : EngineConfig ℕ) (u : WorldStore) (W : Ideal) (msg : Message) (o : Origin) (snapshot : WorldSnapshot) (d : Delivered (setup_of first) t W msg) (b : msg.body ≡ body.SnapshotRequest o snapshot)
    (m : WorldMachine) (now : ℕ) (token : Token) (st : Stands (setup_of first) t config u W m) (empty : m.core.output.items ≡ []) (asks : refusals_of_install nat_cmp config o.session_id.vote snapshot.meta m ≡ None) (settled : Settled (setup_of first) W m.core.state)
  where
    abbrev heard : WorldMachine
    heard = update_vote nat_cmp entry_meaning config o.session_id.vote now m

    voted_settled : rejects_vote nat_cmp m.core.state o.session_id.vote ≡ false → Settled (setup_of first) W (update_vote nat_cmp entry_meaning config o.session_id.vote now m).core.state
    voted_settled r =
        heard_case nat_cmp nat_cmp_total nat_same entry_meaning config (λ (n : WorldMachine). Settled (setup_of first) W n.core.state) o.session_id.vote now m r (other first t config u W msg o snapshot d b m now token st (unread m.core.output.items empty) asks)
        (λ role q. if_some _ _ (λ x k. settled_more (setup_of first) W W (number m.core.state.vote.leader_id) (number o.session_id.vote.leader_id) (next m.core.state.committed) (next m.core.state.committed) x (does_self (setup_of first) W) low (omega arith) k) m.core.state.cm.log_id settled)
      where
        low : number m.core.state.vote.leader_id ≤ number o.session_id.vote.leader_id
        low = not_lower o.session_id.vote m.core.state.vote (sent_in first t config u W msg o snapshot d b).leaders.named (tail_named (setup_of first) (left_by u m.core.output.items) (st.carried.end.store t.id) m.core.state st.carried.store st.pending.core.in_step) r

    within : next snapshot.meta.last_membership.log_id ≤ next snapshot.meta.last_log_id
    within = within_next nat_cmp nat_cmp_total snapshot.meta.last_membership.log_id snapshot.meta.last_log_id (membership_within snapshot (sent_in first t config u W msg o snapshot d b).tells)

    full_settles : rejects_vote nat_cmp m.core.state o.session_id.vote ≡ false → Settled (setup_of first) W (install_full_snapshot nat_cmp config snapshot (update_vote nat_cmp entry_meaning config o.session_id.vote now m).core).state
    unfolding install_full_snapshot
    full_settles r = go snapshot.meta.last_log_id refl where
      go : (p : Option (LogId ℕ)) → snapshot.meta.last_log_id ≡ p → Settled (setup_of first) W (elim p as (λ _. WorldCore) [
        | None ↦ heard.core
        | Some x ↦ (if installs nat_cmp heard.core.state snapshot.meta then install_upto nat_cmp config x snapshot heard.core else heard.core)
      ]).state
      go None e = voted_settled r
      go (Some x) e =
          cond_both (installs nat_cmp heard.core.state snapshot.meta) (install_upto nat_cmp config x snapshot heard.core) heard.core (λ (z : WorldCore). Settled (setup_of first) W z.state)
          (λ i.
          let f : InstallFits nat_cmp entry_meaning heard.core.state snapshot.meta snapshot.snapshot x =
          install_fits nat_cmp nat_cmp_total nat_same entry_meaning heard.core.state snapshot.meta snapshot.snapshot x (sound first t config u W msg o snapshot d b m now token st (unread m.core.output.items empty) asks r) e i
          (fit first t config u W msg o snapshot d b m now token st (unread m.core.output.items empty) asks r) (sent_in first t config u W msg o snapshot d b).tells in
          upto_settles (setup_of first) W config x snapshot heard.core f.above (let q : next snapshot.meta.last_log_id ≡ x.index + 1 = ap next e in omega (arith, q, within)) (voted_settled r))
          (λ _. voted_settled r)

    -- a leader's snapshot that isn't refused
    pub install_settles : Settled (setup_of first) W (handle_install_full_snapshot nat_cmp entry_meaning config o.session_id.vote snapshot token now m).core.state
    unfolding handle_install_full_snapshot
    install_settles =
        cond_both (rejects_vote nat_cmp m.core.state o.session_id.vote) (on_core (reply_install None token) m) (on_core (install_and_reply nat_cmp entry_meaning config snapshot token) heard) (λ (z : WorldMachine). Settled (setup_of first) W z.core.state)
        (λ _. settled) (λ r. full_settles r)
