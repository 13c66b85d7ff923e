-- A leader's calls keep its committed membership settled.
use Rattle.std.proofs.Common.{ℕ, ◌+◌, ◌-◌, ◌≤◌, ◌≡◌, inr, List, [], ◌∷◌, length, arith, refl, sym, ap, subst, Option, None, Some, Result, Ok, Err, true, false}
use Rattle.std.specs.Prelude.{IfSome, nat_lt, slice_get, if◌then◌else◌}
use Rattle.std.specs.Ordering.{is_gt, is_le, nat_cmp}
use Rattle.std.proofs.lemmas.Bool.{cond_both}
use Rattle.std.proofs.lemmas.Cmp.{nat_cmp_total}
use Rattle.raft_node.specs.raft_state.declared.ids.LogId.{LogId}
use Rattle.raft_node.specs.raft_state.declared.membership.Members.{Members}
use Rattle.raft_node.specs.raft_state.Fits.{fits}
use Rattle.raft_node.specs.raft_state.Log.{from, last}
use Rattle.raft_node.specs.raft_state.Order.{last_id_cmp, next}
use Rattle.raft_node.specs.raft_state.Same.{nat_same}
use Rattle.raft_node.specs.raft_state.State.{purge}
use Rattle.raft_node.specs.raft_progress_entry.declared.entry.ProgressEntry.{ProgressEntry}
use Rattle.raft_node.specs.raft_progress_entry.Entry.{conflicted, matched, next_send, refusals_of_conflicted, sent, silenced}
use Rattle.raft_node.specs.raft_progress.Quorum.{is_quorum}
use Rattle.raft_node.specs.raft_progress.Table.{get}
use Rattle.raft_node.specs.raft_command.Push.{with_command}
use Rattle.raft_node.specs.raft_command.Queue.{queued}
use Rattle.raft_node.specs.raft_command.Replication.{number_of}
use Rattle.raft_node.specs.raft_command.declared.command.Command.TheVariants.{PurgeLog}
use Rattle.raft_node.specs.raft_command.declared.config.EngineConfig.{EngineConfig}
use Rattle.raft_node.specs.raft_command.declared.replication.ReplicationResult.{ReplicationResult}
use Rattle.raft_node.specs.raft_command.declared.replication.RequestId.{RequestId}
use Rattle.raft_node.specs.raft_proposer.Leader.{granted_id}
use Rattle.raft_node.specs.raft_steps.FollowingHandler.{memberships_in}
use Rattle.raft_node.specs.raft_steps.Invariants.{IsSoundLed}
use Rattle.raft_node.specs.raft_steps.LeaderHandler.{joined, last_proposed, leader_append_entries, proposed}
use Rattle.raft_node.specs.raft_steps.LogHandler.{is_target_inflight, purge_log, try_purge_log}
use Rattle.raft_node.specs.raft_steps.Parts.{led_of, under}
use Rattle.raft_node.specs.raft_steps.Replies.{on_entry, purge_unless_inflight, send_next, take_reply, update_conflicting, update_failed_progress, update_leader_clock, update_matching, update_progress, update_success_progress}
use Rattle.raft_node.specs.raft_steps.ReplicationHandler.{append_membership_led, commit_granted, initiate_replication, rebuild_progresses, rebuild_replication_streams, send_commands, try_commit_quorum_accepted, with_entry}
use Rattle.raft_node.specs.raft_steps.ReplyRefusals.{refusals_of_acknowledged, refusals_of_answer, refusals_of_entry, refusals_of_result}
use Rattle.raft_node.proofs.raft_steps_proofs.KeptCommit.{granted_fits}
use Rattle.raft_node.proofs.raft_steps_proofs.KeptReplies.{clock_kept, noted_kept}
use Rattle.proof_agreement.specs.Machine.{Setup}
use Rattle.raft_node.specs.raft_store.declared.entry.Entry.{Entry}
use Rattle.raft_node.specs.raft_store.Entries.{entry_meaning, members_of}
use Rattle.raft_node.specs.raft_store.Types.{WorldLeader, WorldMachine, WorldStore}
use Rattle.proof_mirror.proofs.Sound.{all_fit}
use Rattle.raft_node.specs.declared.node.Turn.{Turn}
use Rattle.raft_node.specs.raft_calls.Feeds.{WorldLed}
use Rattle.proof_deeds.specs.Chains.{Reached, left_by}
use Rattle.proof_deeds.specs.Images.{Ideal, number}
use Rattle.proof_deeds.specs.Knows.{Knows, Stands}
use Rattle.proof_deeds.proofs.AppendFitting.{Settled, SettledBy}
use Rattle.proof_deeds.proofs.Changing.{tail_em_within}
use Rattle.proof_deeds.proofs.Overlap.{laps}
use Rattle.proof_deeds.proofs.OwnSettles.{kept_same, quorum_keeps}
use Rattle.proof_deeds.proofs.Pushes.{Tail, tail_of}
use Rattle.proof_deeds.proofs.Quorums.{Means}
use Rattle.proof_deeds.proofs.Roles.{WorldCore}
use Rattle.proof_deeds.proofs.Worlds.{does_then}

-- A membership takes effect: the effective one, which is committed, is the committed one from then on
module _ (s : Setup Entry) (means : Means s) (t : Turn) (config : EngineConfig ℕ) (u : WorldStore) (W : Ideal) (m : WorldMachine) (h : Stands s t config u W m) where
  effective_settled : is_le (last_id_cmp nat_cmp m.core.state.em.log_id m.core.state.committed) ≡ true → IfSome m.core.state.em.log_id (SettledBy s W (number m.core.state.vote.leader_id) (next m.core.state.committed))
  effective_settled le =
      let y : Tail s t m.core.state.vote.leader_id u W m.core.output.items h.carried.end = tail_of s t m.core.state.vote.leader_id u W m.core.output.items (Knows s t.id m) h.carried in
      let reached : Reached s h.carried.end = does_then s _ W h.carried.end h.reached y.came in
      go m.core.state.em.log_id
      (tail_em_within s means (left_by u m.core.output.items) (h.carried.end.store t.id) m.core.state y.store h.pending.core.in_step h.carried.end t.id reached refl (laps s h.carried.end reached t.id) h.sound.sound le)
    where
      go : (o : Option (LogId ℕ)) → next o ≤ next m.core.state.committed → IfSome o (SettledBy s W (number m.core.state.vote.leader_id) (next m.core.state.committed))
      go None l = tt
      go (Some x) l = inr (let k : x.index + 1 ≤ next m.core.state.committed = l in omega (arith, k))

  pub membership_keeps : (l : WorldLeader) (e : Entry) (members : Members ℕ (Unit {0})) → members_of e.payload ≡ Some members → is_le (last_id_cmp nat_cmp m.core.state.em.log_id m.core.state.committed) ≡ true
      → Settled s W (leader_append_entries nat_cmp entry_meaning config (e ∷ []) (led_of l m.core.state m.core.output)).core.state
  unfolding leader_append_entries proposed initiate_replication append_membership_led rebuild_replication_streams rebuild_progresses
  membership_keeps l e members holds le =
      subst (λ o. Settled s W (initiate_replication nat_cmp config false (joined nat_cmp config o (proposed entry_meaning (e ∷ []) (led_of l m.core.state m.core.output)))).core.state) (sym last)
      (effective_settled le)
    where
      given : Entry
      given = record e { log_id = record { leader_id = l.vote.leader_id; index = next l.last_log_id } }

      among : memberships_in entry_meaning (given ∷ []) ≡ record { log_id = Some given.log_id; membership = members } ∷ []
      among = rw holds refl

      last : last_proposed entry_meaning l (e ∷ []) ≡ Some (record { log_id = Some given.log_id; membership = members })
      last = ap (λ ms. slice_get ms (length ms - 1)) among

-- what a change of a target's entry leaves
on_entry_core : (target : ℕ) (f : ProgressEntry ℕ → ProgressEntry ℕ) (l : WorldLed) → (on_entry nat_cmp target f l).core ≡ l.core
on_entry_core target f l = go (get nat_cmp l.leader.progress target) where
  go : (r : Option (ProgressEntry ℕ)) → (let n = (elim r as (λ _. WorldLed) [ None ↦ l | Some e ↦ with_entry nat_cmp l target (f e) ]) in n.core ≡ l.core)
  go None = refl
  go (Some e) = refl

module _ (s : Setup Entry) (W : Ideal) where
  -- a purge leaves the memberships, the vote and the committed id
  pub purge_keeps : (c : WorldCore) → Settled s W c.state → Settled s W (purge_log nat_cmp c).state
  unfolding purge_log
  purge_keeps c k = go c.state.purge_to where
    go : (o : Option (LogId ℕ)) → (let n = (elim o as (λ _. WorldCore) [
      | None ↦ c
      | Some upto ↦ (if is_gt (last_id_cmp nat_cmp (Some upto) c.state.purged) then record { state = purge nat_cmp c.state upto; output = with_command c.output (PurgeLog upto) } else c)
    ]) in Settled s W n.state)
    go None = k
    go (Some x) =
        cond_both (is_gt (last_id_cmp nat_cmp (Some x) c.state.purged)) (record { state = purge nat_cmp c.state x; output = with_command c.output (PurgeLog x) }) c (λ (n : WorldCore). Settled s W n.state)
        (λ _. cond_both (nat_lt x.index (next (last c.state.ids))) (record c.state { purged = Some x; ids = from x.index c.state.ids }) (record c.state { purged = Some x; ids = x ∷ [] }) (Settled s W)
        (λ _. kept_same s W c.state (record c.state { purged = Some x; ids = from x.index c.state.ids }) refl (omega arith) refl k)
        (λ _. kept_same s W c.state (record c.state { purged = Some x; ids = x ∷ [] }) refl (omega arith) refl k))
        (λ _. k)

  pub try_purge_keeps : (rows : List (ℕ × ProgressEntry ℕ)) (c : WorldCore) → Settled s W c.state → Settled s W (try_purge_log nat_cmp rows c).state
  unfolding try_purge_log
  try_purge_keeps rows c k = cond_both (is_target_inflight nat_cmp rows c.state) c (purge_log nat_cmp c) (λ (n : WorldCore). Settled s W n.state) (λ _. k) (λ _. purge_keeps c k)

  -- so does what is sent next
  send_next_keeps : (config : EngineConfig ℕ) (target : ℕ) (l : WorldLed) → Settled s W l.core.state → Settled s W (send_next nat_cmp config target l).core.state
  unfolding send_next
  send_next_keeps config target l k = go (get nat_cmp l.leader.progress target) where
    go : (r : Option (ProgressEntry ℕ)) → (let n = (elim r as (λ _. WorldLed) [
      | None ↦ l
      | Some e ↦
          let r = next_send l.core.state config.max_payload_entries e in
          under (λ c. record c { output = queued c.output (send_commands false target r) }) (with_entry nat_cmp l target (sent e r))
    ]) in Settled s W n.core.state)
    go None = k
    go (Some e) = k

  module _ (t : Turn) (config : EngineConfig ℕ) (u : WorldStore) (m : WorldMachine) (h : Stands s t config u W m) where
    -- what is granted is committed
    granted_keeps : (l : WorldLed) → l.core ≡ m.core → IsSoundLed nat_cmp config l → Settled s W m.core.state → Settled s W (commit_granted nat_cmp config l).core.state
    granted_keeps l e sound k =
        let x : Option (LogId ℕ) = granted_id nat_cmp (is_quorum nat_cmp) l.leader in
        let f : fits nat_cmp m.core.state.ids m.core.state.purged x ≡ true = subst (λ (c : WorldCore). fits nat_cmp c.state.ids c.state.purged x ≡ true) e (granted_fits nat_cmp nat_cmp_total nat_same config l sound) in
        subst (λ (c : WorldCore). Settled s W (try_commit_quorum_accepted nat_cmp config x c).state) (sym e)
        (quorum_keeps s t config u W m h x (all_fit nat_cmp nat_cmp_total nat_same m.core.state h.sound.sound x f) k)

    -- an answer
    success_keeps : (target : ℕ) (id : RequestId) (answer : ReplicationResult ℕ) (l : WorldLeader) → IsSoundLed nat_cmp config (led_of l m.core.state m.core.output)
        → refusals_of_entry nat_cmp target (λ e. refusals_of_answer nat_cmp m.core.state e id answer) l ≡ None → Settled s W m.core.state
        → Settled s W (update_success_progress nat_cmp config target id answer (led_of l m.core.state m.core.output)).core.state
    unfolding update_success_progress update_leader_clock update_matching update_conflicting
    success_keeps target id answer l sound a k = go answer.result (number_of id) a where
      clocked : WorldLed
      clocked = update_leader_clock nat_cmp target answer.sending_time (led_of l m.core.state m.core.output)

      kept : IsSoundLed nat_cmp config clocked
      kept = clock_kept nat_cmp nat_cmp_total nat_same config target answer.sending_time (led_of l m.core.state m.core.output) sound

      go : (r : Result (Option (LogId ℕ)) (LogId ℕ)) (number_ : Option ℕ)
          → refusals_of_entry nat_cmp target (λ e. elim r [
            | Ok x ↦ elim number_ [ None ↦ None | Some number_ ↦ refusals_of_acknowledged nat_cmp m.core.state e number_ x ]
            | Err x ↦ refusals_of_conflicted e number_ x.index
          ]) l ≡ None
          → (let n = (elim r as (λ _. WorldLed) [
            | Ok x ↦ elim number_ [ None ↦ clocked | Some _ ↦ update_matching nat_cmp config target x clocked ]
            | Err x ↦ update_conflicting nat_cmp target number_ x clocked
          ]) in Settled s W n.core.state)
      go (Ok x) None a = k
      go (Ok x) (Some i) a =
          granted_keeps (on_entry nat_cmp target (λ e. matched nat_cmp e x) clocked) (on_entry_core target (λ e. matched nat_cmp e x) clocked)
          (noted_kept nat_cmp nat_cmp_total nat_same config target i x clocked a kept) k
      go (Err x) number_ a = subst (λ (c : WorldCore). Settled s W c.state) (sym (on_entry_core target (λ e. conflicted e number_ x.index) clocked)) k

    reply_keeps : (target : ℕ) (id : RequestId) (reply : Result (ReplicationResult ℕ) (Unit {0})) (l : WorldLeader) → IsSoundLed nat_cmp config (led_of l m.core.state m.core.output)
        → refusals_of_entry nat_cmp target (λ e. refusals_of_result nat_cmp m.core.state e id reply) l ≡ None → Settled s W m.core.state
        → Settled s W (take_reply nat_cmp config target id reply (led_of l m.core.state m.core.output)).core.state
    unfolding update_failed_progress
    reply_keeps target id (Ok answer) l sound a k = success_keeps target id answer l sound a k
    reply_keeps target id (Err e) l sound a k = go (number_of id) where
      go : (o : Option ℕ) → (let n = (elim o as (λ _. WorldLed) [ None ↦ led_of l m.core.state m.core.output | Some _ ↦ on_entry nat_cmp target silenced (led_of l m.core.state m.core.output) ]) in Settled s W n.core.state)
      go None = k
      go (Some i) = subst (λ (c : WorldCore). Settled s W c.state) (sym (on_entry_core target silenced (led_of l m.core.state m.core.output))) k

    -- a reply, or the failure of a request
    pub progress_keeps : (target : ℕ) (id : RequestId) (reply : Result (ReplicationResult ℕ) (Unit {0})) (l : WorldLeader) → IsSoundLed nat_cmp config (led_of l m.core.state m.core.output)
        → refusals_of_entry nat_cmp target (λ e. refusals_of_result nat_cmp m.core.state e id reply) l ≡ None → Settled s W m.core.state
        → Settled s W (update_progress nat_cmp config target id reply (led_of l m.core.state m.core.output)).core.state
    unfolding update_progress purge_unless_inflight
    progress_keeps target id reply l sound a k =
        let taken : WorldLed = take_reply nat_cmp config target id reply (led_of l m.core.state m.core.output) in
        send_next_keeps config target (purge_unless_inflight nat_cmp taken) (try_purge_keeps taken.leader.progress.rows taken.core (reply_keeps target id reply l sound a k))
