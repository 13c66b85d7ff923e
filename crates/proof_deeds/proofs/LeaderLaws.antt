-- The laws of a leader's calls.
use Rattle.std.proofs.Common.{ℕ, arith, ◌<◌, ◌≤◌, ◌≡◌, ◌≢◌, Bool, true, false, length, List, [], ◌∷◌, refl, sym, ap, ◌∙◌, subst, true≢false, Option, None, Some, Result, Ok, Err}
use Rattle.std.specs.Prelude.{IfSome}
use Rattle.std.specs.List.{AllByRecursion}
use Rattle.std.specs.Ordering.{is_le, nat_cmp}
use Rattle.std.proofs.lemmas.Cmp.{nat_cmp_total}
use Rattle.raft_node.specs.raft_state.declared.ids.LogId.{LogId}
use Rattle.raft_node.specs.raft_state.Same.{nat_same}
use Rattle.raft_node.specs.raft_state.declared.ids.Vote.{Vote}
use Rattle.raft_node.specs.raft_state.declared.membership.Members.{Members}
use Rattle.raft_node.specs.raft_state.declared.membership.StoredMembership.{StoredMembership}
use Rattle.raft_node.specs.raft_state.Fits.{fits}
use Rattle.raft_node.specs.raft_state.Order.{last_id_cmp, next}
use Rattle.raft_node.proofs.raft_state_proofs.Orders.{is_equal}
use Rattle.raft_node.specs.raft_progress_entry.Entry.{silenced}
use Rattle.raft_node.specs.raft_command.Replication.{number_of}
use Rattle.raft_node.specs.raft_command.declared.config.EngineConfig.{EngineConfig}
use Rattle.raft_node.specs.raft_command.declared.replication.ReplicationResult.{ReplicationResult}
use Rattle.raft_node.specs.raft_command.declared.replication.RequestId.{RequestId}
use Rattle.raft_node.specs.raft_steps.Refusals.{refusals_of_propose}
use Rattle.raft_node.specs.raft_steps.Conditions.{MayPropose, may_change_membership, shares_group}
use Rattle.raft_node.specs.raft_steps.FollowingHandler.{memberships_in}
use Rattle.raft_node.specs.raft_steps.Invariants.{IsSoundLed, LeaderFits}
use Rattle.raft_node.specs.raft_steps.LeaderHandler.{leader_append_entries, read_log_id}
use Rattle.raft_node.specs.raft_steps.LogHandler.{try_purge_log}
use Rattle.raft_node.specs.raft_steps.Parts.{leading, led_of, led_machine, on_core}
use Rattle.raft_node.specs.raft_steps.Replies.{on_entry, update_conflicting, update_failed_progress, update_matching, update_success_progress, purge_unless_inflight, take_reply, update_progress}
use Rattle.raft_node.specs.raft_steps.ReplyRefusals.{refusals_of_entry, refusals_of_acknowledged, refusals_of_answer, refusals_of_result}
use Rattle.raft_node.specs.raft_steps.ReplicationHandler.{initiate_replication, update_local_progress}
use Rattle.raft_node.proofs.raft_steps_proofs.KeptCommit.{leader_append_kept}
use Rattle.raft_node.proofs.raft_steps_proofs.KeptPurge.{purge_unless_kept}
use Rattle.raft_node.proofs.raft_steps_proofs.KeptReplies.{reply_kept}
use Rattle.raft_node.proofs.raft_steps_proofs.Leads.{vote_same}
use Rattle.proof_agreement.specs.Machine.{Setup}
use Rattle.proof_agreement.specs.Deeds.{HasAccepted, MayAppendOwn}
use Rattle.raft_node.specs.raft_store.declared.entry.Entry.{Entry}
use Rattle.raft_node.specs.raft_store.Entries.{entry_meaning, members_of}
use Rattle.raft_node.specs.raft_store.Types.{WorldStore, WorldMachine, WorldLeader}
use Rattle.proof_mirror.specs.Ready.{KnowsLog, Pending, PendingLed}
use Rattle.proof_mirror.proofs.Orders.{Orderly, in_order}
use Rattle.proof_mirror.proofs.Purging.{pending_try_purge}
use Rattle.proof_mirror.proofs.Replying.{pending_success}
use Rattle.proof_mirror.proofs.Sound.{led_knows}
use Rattle.raft_node.specs.raft_command.Message.{is_success}
use Rattle.raft_node.specs.raft_command.declared.message.AppendEntriesResponse.{AppendEntriesResponse}
use Rattle.raft_node.specs.raft_calls.declared.message.Body.TheVariants as body
use Rattle.raft_node.specs.raft_calls.declared.message.Message.{Message}
use Rattle.raft_node.specs.raft_calls.declared.message.Origin.{Origin}
use Rattle.raft_node.specs.declared.node.Turn.{Turn}
use Rattle.raft_node.specs.raft_calls.Feeds.{WorldLed}
use Rattle.proof_deeds.specs.Chains.{Carried, Does, left_by}
use Rattle.proof_deeds.specs.Follows.{StoreIs, AppendAnswered, BodyIs}
use Rattle.proof_deeds.specs.Images.{Ideal, IsNamed, IsWellFormedEntry, number, setup_of}
use Rattle.proof_deeds.specs.LeaderDeeds as laws
use Rattle.proof_deeds.specs.LeaderDeeds.{AnswersAbove, LeadersDone}
use Rattle.proof_deeds.specs.Knows.{Delivered, CarriedIn, Knows, KnowsLed, Stands}
use Rattle.proof_deeds.proofs.Acknowledging.{Acknowledged, carried_local, carried_matching, carried_conflicting, on_entry_kept}
use Rattle.proof_deeds.proofs.Answering.{AnswerIs, ReplyIs, carried_success, carried_reply, carried_send_next}
use Rattle.proof_deeds.proofs.Changing.{OwnCommitted, SharedGroup, included, own_committed, shared_group, tail_em_within, tail_may, three_parts}
use Rattle.proof_deeds.proofs.Joining.{changed, carried_change}
use Rattle.proof_deeds.proofs.LeaderSends.{machine_of_led, led_of_machine, no_candidate, KnowsIn, CarriedLed, Owns, owns_of, tail_streams, carried_initiate}
use Rattle.proof_deeds.proofs.LeaderStarts.{carried_step_down}
use Rattle.proof_deeds.proofs.Overlap.{laps}
use Rattle.proof_deeds.proofs.Proposing.{carried_append}
use Rattle.proof_deeds.proofs.Pushes.{carry}
use Rattle.proof_deeds.proofs.ReadIds.{AtNoop, answers_at_noop}
use Rattle.proof_deeds.proofs.SnapshotLaws.{carried_try}
use Rattle.proof_deeds.proofs.Quorums.{Means, means_setup}
use Rattle.proof_deeds.proofs.Worlds.{does_then, has_accepted}

module _ (s : Setup Entry) (means : Means s) (t : Turn) (config : EngineConfig ℕ) (u : WorldStore) (W : Ideal) (m : WorldMachine) (stands : Stands s t config u W m) (l : WorldLeader) (leads : m.leader ≡ Some l) where
  abbrev led : WorldLed
  led = led_of l m.core.state m.core.output

  sound : IsSoundLed nat_cmp config led
  sound = record { sound = stands.sound.sound; leader_fits = subst (λ o. IfSome o (LeaderFits nat_cmp config.id m.core.state.ids m.core.state.purged m.core.state.em.membership)) leads stands.sound.lead.leader_fits }

  pending : PendingLed nat_cmp entry_meaning (λ es. es) u led
  pending = record { core = stands.pending.core; knows = subst (λ o. IfSome o (KnowsLog m.core.state.ids)) leads stands.pending.knows }

  owns : Owns s t led
  owns = owns_of s t config led stands.id sound

  carried : CarriedLed s t u W led
  carried = led_of_machine s t u W m l leads stands.carried

  back : (n : WorldLed) → CarriedLed s t u W n → CarriedIn s t u W (leading m n)
  back n h = machine_of_led s t u W m n (no_candidate s t u W m l leads stands.carried) h

  -- a heartbeat, or what comes next, to all
  pub initiate_law : (force : Bool) → CarriedIn s t u W (leading m (initiate_replication nat_cmp config force led))
  initiate_law force = back (initiate_replication nat_cmp config force led) (carried_initiate s means.owner t config stands.id u W stands.reached stands.ordered force led pending owns carried)

  -- what the leader's own log holds
  pub own_log_law : (x : Option (LogId ℕ)) → fits nat_cmp m.core.state.ids m.core.state.purged x ≡ true → CarriedIn s t u W (leading m (update_local_progress nat_cmp config x led))
  own_log_law x f = back (update_local_progress nat_cmp config x led) (carried_local s means t config stands.id u W x led stands.pending.core.in_step sound owns f carried)

  -- a target's log matches; it conflicts; an answer
  pub matching_law : (target number_ : ℕ) (x : Option (LogId ℕ)) → refusals_of_entry nat_cmp target (λ e. refusals_of_acknowledged nat_cmp m.core.state e number_ x) l ≡ None → Acknowledged s means t config stands.id u W target led x
      → CarriedIn s t u W (leading m (update_matching nat_cmp config target x led))
  matching_law target number_ x a acc = back (update_matching nat_cmp config target x led) (carried_matching s means t config stands.id u W target number_ x led stands.pending.core.in_step sound owns a acc carried)

  pub conflicting_law : (target : ℕ) (number_ : Option ℕ) (x : LogId ℕ) → CarriedIn s t u W (leading m (update_conflicting nat_cmp target number_ x led))
  conflicting_law target number_ x = back (update_conflicting nat_cmp target number_ x led) (carried_conflicting s means t config stands.id u W target number_ x led carried)

  pub success_law : (target : ℕ) (id : RequestId) (answer : ReplicationResult ℕ) → refusals_of_entry nat_cmp target (λ e. refusals_of_answer nat_cmp m.core.state e id answer) l ≡ None → AnswerIs s means t config stands.id u W target led answer.result
      → CarriedIn s t u W (leading m (update_success_progress nat_cmp config target id answer led))
  success_law target id answer a acc = back (update_success_progress nat_cmp config target id answer led) (carried_success s means t config stands.id u W target id answer led stands.pending.core sound a acc carried)

  -- what a delivered reply acknowledges, where its request was of this leader's vote
  pub delivered_answer : (msg : Message) (o : Origin) (reply : AppendEntriesResponse ℕ) (prev upto : Option (LogId ℕ)) → Delivered s t W msg → msg.body ≡ body.AppendReply o reply prev upto → is_success reply ≡ true → o.session_id.vote ≡ l.vote
      → AnswerIs s means t config stands.id u W msg.from led (Ok upto)
  delivered_answer msg o reply prev upto d e ok same =
      let a : AppendAnswered msg.from o reply upto W = subst (λ b. BodyIs s msg.from msg.to b W) e d.is in
      subst (λ v. IfSome upto (λ y. HasAccepted W msg.from (number v.leader_id) y.index)) same (has_accepted W msg.from o.session_id.vote upto (a.success ok))

  -- entries that are no memberships
  pub append_law : (es : List Entry) → AllByRecursion (λ (e : Entry). members_of e.payload ≡ None) es → Orderly nat_cmp (leader_append_entries nat_cmp entry_meaning config es led).core.state
      → CarriedIn s t u W (leading m (leader_append_entries nat_cmp entry_meaning config es led))
  append_law es plain ord = back (leader_append_entries nat_cmp entry_meaning config es led) (carried_append s means t config stands.id u W stands.reached stands.ordered es led pending owns plain ord carried)

  -- a membership, where it may be proposed
  pub change_law : (e : Entry) (members : Members ℕ (Unit {0})) → members_of e.payload ≡ Some members → (IsNamed l.vote.leader_id → IsWellFormedEntry s (changed s means t config stands.id u W stands.reached stands.ordered e led))
      → ((V : Ideal) → Does s W V → StoreIs s (left_by u m.core.output.items) (V.store t.id) → KnowsIn s t led V → MayAppendOwn s (V.store t.id) t.id (changed s means t config stands.id u W stands.reached stands.ordered e led))
      → Orderly nat_cmp (leader_append_entries nat_cmp entry_meaning config (e ∷ []) led).core.state → CarriedIn s t u W (leading m (leader_append_entries nat_cmp entry_meaning config (e ∷ []) led))
  change_law e members holds fit may ord = back (leader_append_entries nat_cmp entry_meaning config (e ∷ []) led) (carried_change s means t config stands.id u W stands.reached stands.ordered e members led pending owns holds fit may ord carried)

  -- where a call that isn't refused may be made, the ids stay in order
  pub ordered_by : (es : List Entry) → MayPropose nat_cmp entry_meaning led es → refusals_of_propose (length es) led ≡ None → Orderly nat_cmp (leader_append_entries nat_cmp entry_meaning config es led).core.state
  ordered_by es may a = let k : IsSoundLed nat_cmp config (leader_append_entries nat_cmp entry_meaning config es led) = leader_append_kept nat_cmp nat_cmp_total nat_same entry_meaning (λ e x. (refl, refl)) config es led may a sound in in_order nat_cmp _ _ _ k.sound.log

  -- what a membership that may be proposed shares with the effective one, which is committed, and what is committed of the leader's own
  pub asked_change : (e : Entry) (members : Members ℕ (Unit {0})) → members_of e.payload ≡ Some members → MayPropose nat_cmp entry_meaning led (e ∷ []) → may_change_membership nat_cmp led members ≡ true
  asked_change e members holds may =
      let one : memberships_in entry_meaning (e ∷ []) ≡ record { log_id = Some e.log_id; membership = members } ∷ [] = rw holds refl in
      (subst (AllByRecursion (λ (y : StoredMembership ℕ (Unit {0})). may_change_membership nat_cmp led y.membership ≡ true)) one may.change).0

  em_within : is_le (last_id_cmp nat_cmp m.core.state.em.log_id m.core.state.committed) ≡ true → (V : Ideal) → Does s W V → StoreIs s (left_by u m.core.output.items) (V.store t.id) → next m.core.state.em.log_id ≤ next m.core.state.committed
  em_within le V d z = tail_em_within s means (left_by u m.core.output.items) (V.store t.id) m.core.state z stands.pending.core.in_step V t.id (does_then s _ W V stands.reached d) refl (laps s V (does_then s _ W V stands.reached d) t.id) stands.sound.sound le

  -- the same two, by what the call itself asks; a membership shares a group with the effective one, which is committed,
  -- and so is an id of the leader's own
  pub append_asked : (es : List Entry) → AllByRecursion (λ (e : Entry). members_of e.payload ≡ None) es → MayPropose nat_cmp entry_meaning led es → refusals_of_propose (length es) led ≡ None
      → CarriedIn s t u W (leading m (leader_append_entries nat_cmp entry_meaning config es led))
  append_asked es plain may a = append_law es plain (ordered_by es may a)

  pub change_asked : (e : Entry) (members : Members ℕ (Unit {0})) → members_of e.payload ≡ Some members → s.groups_kept ≡ false → MayPropose nat_cmp entry_meaning led (e ∷ []) → refusals_of_propose 1 led ≡ None
      → CarriedIn s t u W (leading m (leader_append_entries nat_cmp entry_meaning config (e ∷ []) led))
  change_asked e members holds change may a =
      let asks = three_parts (is_le (last_id_cmp nat_cmp m.core.state.em.log_id m.core.state.committed)) (is_le (last_id_cmp nat_cmp (Some l.noop_log_id) m.core.state.committed)) (shares_group nat_cmp m.core.state.em.membership members) (asked_change e members holds may) in
      let same : l.vote ≡ m.core.state.vote = vote_same nat_cmp nat_same l.vote m.core.state.vote (is_equal _ may.own_vote) in
      let mine : OwnCommitted m.core.state = own_committed m.core.state stands.sound.sound l.noop_log_id (sound.leader_fits.noop ∙ ap (λ (v : Vote ℕ). v.leader_id) same) asks.1 in
      let g : SharedGroup m.core.state.em.membership.groups members.groups = shared_group m.core.state.em.membership.groups members.groups asks.2 in
      change_law e members holds
      (λ n. record { named = n; groups = λ _. subst (λ o. 0 < length (elim o as (λ _. List (List ℕ)) [ None ↦ [] | Some m ↦ m.groups ])) (sym holds) (included members.groups g.group g.right) })
      (λ V d z q. tail_may s means (left_by u m.core.output.items) (V.store t.id) m.core.state z stands.pending.core.in_step t.id (laps s V (does_then s _ W V stands.reached d) t.id) stands.sound.sound
      (tail_streams s means.owner t (left_by u m.core.output.items) V led z stands.pending.core.in_step q.1 owns).leads (changed s means t config stands.id u W stands.reached stands.ordered e led) members holds (λ _ k. absurd (true≢false (sym k ∙ change))) (em_within asks.0 V d z)
      g.group g.left g.right mine.id mine.fit mine.own mine.low)
      (ordered_by (e ∷ []) may a)

  -- a reply, or the failure of a request
  pub progress_law : {T : Type 0} (target : ℕ) (id : RequestId) (reply : Result (ReplicationResult ℕ) T) → target ≢ t.id → refusals_of_entry nat_cmp target (λ e. refusals_of_result nat_cmp m.core.state e id reply) l ≡ None
      → ReplyIs s means t config stands.id u W target led reply
      → CarriedIn s t u W (leading m (update_progress nat_cmp config target id reply led))
  unfolding update_progress purge_unless_inflight update_failed_progress
  progress_law target id reply other a is =
      let taken : WorldLed = take_reply nat_cmp config target id reply led in
      let k : IsSoundLed nat_cmp config (take_reply nat_cmp config target id reply led) = reply_kept nat_cmp nat_cmp_total nat_same config target id reply led a sound in
      let p : Pending nat_cmp entry_meaning (λ es. es) u (take_reply nat_cmp config target id reply led).core = pending_reply target id reply a in
      let z : IsSoundLed nat_cmp config (purge_unless_inflight nat_cmp (take_reply nat_cmp config target id reply led)) = purge_unless_kept nat_cmp nat_cmp_total nat_same config (take_reply nat_cmp config target id reply led) k in
      let h : CarriedLed s t u W (take_reply nat_cmp config target id reply led) = carried_reply s means t config stands.id u W target id reply led stands.pending.core sound a is carried in
      let n : WorldMachine = led_machine (take_reply nat_cmp config target id reply led) None in
      let q : CarriedIn s t u W (on_core (try_purge_log nat_cmp (take_reply nat_cmp config target id reply led).leader.progress.rows) (led_machine (take_reply nat_cmp config target id reply led) None)) =
      carried_try s t u W stands.reached (take_reply nat_cmp config target id reply led).leader.progress.rows (led_machine (take_reply nat_cmp config target id reply led) None) p k.sound (machine_of_led s t u W (led_machine (take_reply nat_cmp config target id reply led) None) (take_reply nat_cmp config target id reply led) refl h) in
      back (update_progress nat_cmp config target id reply led)
      (carried_send_next s means t config stands.id u W stands.reached stands.ordered target (purge_unless_inflight nat_cmp (take_reply nat_cmp config target id reply led)) other
      (record { core = pending_try_purge nat_cmp nat_cmp_total nat_same entry_meaning (λ es. es) u (take_reply nat_cmp config target id reply led).leader.progress.rows (take_reply nat_cmp config target id reply led).core p k.sound; knows = led_knows nat_cmp config (purge_unless_inflight nat_cmp (take_reply nat_cmp config target id reply led)) z })
      z (led_of_machine s t u W (on_core (try_purge_log nat_cmp (take_reply nat_cmp config target id reply led).leader.progress.rows) (led_machine (take_reply nat_cmp config target id reply led) None)) (take_reply nat_cmp config target id reply led).leader refl q))
    where
      pending_reply : {T : Type 0} (target : ℕ) (id : RequestId) (reply : Result (ReplicationResult ℕ) T) → refusals_of_entry nat_cmp target (λ e. refusals_of_result nat_cmp m.core.state e id reply) l ≡ None → Pending nat_cmp entry_meaning (λ es. es) u (take_reply nat_cmp config target id reply led).core
      pending_reply target id (Ok answer) a = (pending_success nat_cmp nat_cmp_total nat_same entry_meaning (λ es. es) config u target id answer led stands.pending.core a sound).core
      pending_reply target id (Err e) a = failed target id (number_of id) where
        failed : (target : ℕ) (id : RequestId) (o : Option ℕ) → (let n = (elim o as (λ _. WorldLed) [ None ↦ led | Some _ ↦ on_entry nat_cmp target silenced led ]) in Pending nat_cmp entry_meaning (λ es. es) u n.core)
        failed target id None = stands.pending.core
        failed target id (Some k) = on_entry_kept s means t config stands.id u W (λ (n : WorldLed). Pending nat_cmp entry_meaning (λ es. es) u n.core) target silenced led stands.pending.core (λ _. stands.pending.core)

  -- a read: the no-op entry's id, or a greater one
  pub read_law : Carried s t m.core.state.vote.leader_id u W m.core.output.items (AnswersAbove s led)
  read_law = carry s t m.core.state.vote.leader_id u W m.core.output.items (Knows s t.id m) (AnswersAbove s led) stands.carried (λ V _ y. above V (subst (λ o. IfSome o (λ l. KnowsLed s t.id m.core.state l V)) leads y.leader)) where
    above : (V : Ideal) → KnowsLed s t.id m.core.state l V → AnswersAbove s led V
    above V k =
        let z : AtNoop m.core.state sound.sound l sound.leader_fits.noop k.vote (read_log_id nat_cmp led) = answers_at_noop m.core.state sound.sound l sound.leader_fits.noop k.vote in
        (z.0, z.1, λ X came c hc lower. let low : l.noop_log_id.index ≤ z.0.index = z.3 in omega (arith, k.above X came c hc lower, low))

-- what a reply acknowledges
result_is : (s : Setup Entry) (means : Means s) (t : Turn) (config : EngineConfig ℕ) (own : config.id ≡ t.id) (u : WorldStore) (W : Ideal) (target : ℕ) (l : WorldLed) (r : Result (Option (LogId ℕ)) (LogId ℕ)) → laws.ResultIs W target l.leader.vote r → AnswerIs s means t config own u W target l r
result_is s means t config own u W target l (Ok x) h = h
result_is s means t config own u W target l (Err x) h = tt

reply_is : (s : Setup Entry) (means : Means s) (t : Turn) (config : EngineConfig ℕ) (own : config.id ≡ t.id) (u : WorldStore) (W : Ideal) (target : ℕ) (l : WorldLed) (r : Result (ReplicationResult ℕ) (Unit {0})) → laws.ReplyIs W target l.leader.vote r → ReplyIs s means t config own u W target l r
reply_is s means t config own u W target l (Ok answer) h = result_is s means t config own u W target l answer.result h
reply_is s means t config own u W target l (Err e) h = tt

-- leaders, of a first membership
pub leaders_done : (first : Members ℕ (Unit {0})) → LeadersDone first
leaders_done first = record {
  by_initiate = λ config t u W m l force z. initiate_law (setup_of first) (means_setup first) t config u W m z.stands l z.leader force;
  by_own_log = λ config t u W m l x z f. own_log_law (setup_of first) (means_setup first) t config u W m z.stands l z.leader x f;
  by_append = λ config t u W m l es z plain may a. append_asked (setup_of first) (means_setup first) t config u W m z.stands l z.leader es plain may a;
  by_change = λ config t u W m l e members z holds may a. change_asked (setup_of first) (means_setup first) t config u W m z.stands l z.leader e members holds refl may a;
  by_matching = λ config t u W m l target name x z a acc. matching_law (setup_of first) (means_setup first) t config u W m z.stands l z.leader target name x a acc;
  by_progress = λ config t u W m l target id reply z other a r. progress_law (setup_of first) (means_setup first) t config u W m z.stands l z.leader target id reply other a (reply_is (setup_of first) (means_setup first) t config z.stands.id u W target (led_of l m.core.state m.core.output) reply r);
  by_conflicting = λ config t u W m l target name x z. conflicting_law (setup_of first) (means_setup first) t config u W m z.stands l z.leader target name x;
  by_read = λ config t u W m l z. read_law (setup_of first) (means_setup first) t config u W m z.stands l z.leader;
  by_step_down = λ config t u W m st asks alone. carried_step_down first t config st.id u W st.reached m st.pending st.sound st.ordered asks alone st.carried;
}
