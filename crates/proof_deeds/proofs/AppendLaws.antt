-- The law of an append request: what a node that takes it queues is carried.
use Rattle.std.proofs.Common.{ℕ, zero, suc, ◌-◌, ◌≡◌, ◌≢◌, ◌⊎◌, inl, inr, Bool, true, false, List, [], ◌∷◌, ◌++◌, length, refl, sym, ap, ◌∙◌, subst, true≢false, Option, None, Some}
use Rattle.std.specs.Prelude.{IfSome, if◌then◌else◌, slice_get, Result, Ok, Err}
use Rattle.std.specs.List.{AllByRecursion}
use Rattle.std.specs.Option.{option_map, option_or}
use Rattle.std.specs.Ordering.{is_eq, nat_cmp}
use Rattle.std.proofs.lemmas.Cmp.{nat_cmp_total}
use Rattle.raft_node.specs.raft_state.declared.ids.LeaderId.{LeaderId}
use Rattle.raft_node.specs.raft_state.declared.ids.LogId.{LogId}
use Rattle.raft_node.specs.raft_state.declared.ids.Vote.{Vote}
use Rattle.raft_node.specs.raft_state.declared.membership.Members.{Members}
use Rattle.raft_node.specs.raft_state.declared.policy.RejectAppendEntries.{RejectAppendEntries}
use Rattle.raft_node.specs.raft_state.declared.policy.RejectAppendEntries.TheVariants as reject
use Rattle.raft_node.specs.raft_state.Invariants.{IsSoundState}
use Rattle.raft_node.specs.raft_state.Log.{at}
use Rattle.raft_node.specs.raft_state.Order.{next}
use Rattle.raft_node.specs.raft_state.Same.{nat_same}
use Rattle.raft_node.specs.raft_state.State.{has_log_id}
use Rattle.raft_node.specs.raft_command.Message.{is_success, append_response}
use Rattle.raft_node.specs.raft_command.declared.command.Command.TheVariants as command
use Rattle.raft_node.specs.raft_command.declared.config.EngineConfig.{EngineConfig}
use Rattle.raft_node.specs.raft_command.declared.message.AppendEntriesResponse.{AppendEntriesResponse}
use Rattle.raft_node.specs.raft_command.declared.message.AppendEntriesResponse.TheVariants as response
use Rattle.raft_node.specs.raft_command.declared.respond.Respond.TheVariants as respond
use Rattle.raft_node.specs.raft_steps.FollowingHandler.{holds_previous, consecutive_answer}
use Rattle.raft_node.specs.raft_steps.Parts.{on_core}
use Rattle.raft_node.specs.raft_steps.RequestRefusals.{refusals_of_append, refusals_of_follow}
use Rattle.raft_node.specs.raft_steps.Requests.{replied, follow, append_entries, append_answer, handle_append_entries}
use Rattle.raft_node.specs.raft_steps.VoteHandler.{rejects_vote, update_vote}
use Rattle.raft_node.proofs.raft_steps_proofs.KeptFollow.{heard_case, not_own}
use Rattle.raft_node.proofs.raft_steps_proofs.Marks.{SameMarks, follow_marks}
use Rattle.proof_agreement.specs.Machine.{Setup}
use Rattle.proof_agreement.specs.Stores.{Append}
use Rattle.proof_agreement.specs.Deeds.{AcceptAppend, Names, MayAccept, does}
use Rattle.raft_node.specs.raft_store.declared.entry.Entry.{Entry}
use Rattle.raft_node.specs.raft_store.Entries.{entry_meaning}
use Rattle.raft_node.specs.raft_store.Types.{WorldStore, WorldCommand, WorldMachine}
use Rattle.raft_node.proofs.raft_store_proofs.Lists.{Run}
use Rattle.proof_mirror.specs.Ready.{PendingIn, AppendFits}
use Rattle.proof_mirror.proofs.Elections.{pending_update_vote}
use Rattle.proof_mirror.proofs.Following.{follow_passed, more_passed, voted_sound, pending_append_entries}
use Rattle.proof_mirror.proofs.Orders.{in_order}
use Rattle.proof_mirror.proofs.Proposes.{TakesId}
use Rattle.proof_mirror.proofs.Shape.{run_of_ids}
use Rattle.raft_node.specs.raft_calls.declared.message.Body.TheVariants as body
use Rattle.raft_node.specs.raft_calls.declared.message.Message.{Message}
use Rattle.raft_node.specs.raft_calls.declared.message.Origin.{Origin}
use Rattle.raft_node.specs.declared.node.Turn.{Turn}
use Rattle.raft_node.specs.raft_calls.Deliveries.{reply_token}
use Rattle.raft_node.specs.raft_calls.Feeds.{last_sent}
use Rattle.proof_deeds.specs.Chains.{Unread, left_by, Done, Carried}
use Rattle.proof_deeds.specs.Follows.{StoreIs, BodyIs, AppendIs, AppendSent, VoteTold}
use Rattle.proof_deeds.specs.Images.{EntriesFit, Ideal, IdNamed, IsNamed, number, setup_of}
use Rattle.proof_deeds.specs.Knows.{KnowsAccepted, KnowsGrants, KnowsLed, Alone, Knows, Delivered, CarriedIn, Stands}
use Rattle.proof_deeds.proofs.AppendCalls.{carried_follow, may_accept, Followed}
use Rattle.proof_deeds.proofs.AppendPushes.{Replies, done_accept, done_unaccepted}
use Rattle.proof_deeds.proofs.Claims.{vote_told}
use Rattle.proof_deeds.proofs.AppendTails.{log_ids, names_prev, names_slot}
use Rattle.proof_deeds.proofs.Appends.{Under}
use Rattle.proof_deeds.proofs.Keeps.{stable_in}
use Rattle.proof_deeds.proofs.Numbers.{number_node}
use Rattle.proof_deeds.proofs.Pushes.{Tail, push, carry}
use Rattle.proof_deeds.proofs.Roles.{WorldState}
use Rattle.proof_deeds.proofs.Tails.{index, named_of_id, tail_named, tail_vote}
use Rattle.proof_deeds.proofs.Voting.{carried_heard}
use Rattle.proof_deeds.proofs.Worlds.{does_one, does_then}

pub world_law : TakesId entry_meaning
world_law e x = refl

-- the last id that a request tells is one that it names
slot_sent : (es : List Entry) (j : ℕ) (e : Entry) → slice_get es j ≡ Some e → slice_get (log_ids es) j ≡ Some e.log_id
slot_sent [] j e q = cc
slot_sent (y ∷ ys) zero e q = let z : y ≡ e = cc in ap (λ (a : Entry). Some a.log_id) z
slot_sent (y ∷ ys) (suc j) e q = slot_sent ys j e q

sent_named : (s : Setup Entry) (o : Origin) (prev : Option (LogId ℕ)) (es : List Entry) (told : Option (LogId ℕ)) (r : Append Entry) (x : LogId ℕ) → AppendIs o prev es told r → Run index (next prev) es → last_sent prev es ≡ Some x → Names s r x.index (number x.leader_id)
sent_named s o prev es told r x a run e = go (slice_get es (length es - 1)) refl e where
  go : (q : Option Entry) → slice_get es (length es - 1) ≡ q → option_or (option_map (λ (z : Entry). z.log_id) q) prev ≡ Some x → Names s r x.index (number x.leader_id)
  go None f e = names_prev s o prev es told r a x e
  go (Some y) f e = names_slot s o prev es told r a (length es - 1) x run (slot_sent es (length es - 1) y f ∙ e)

-- the leader of that id is named by a u64
last_named : (s : Setup Entry) (prev : Option (LogId ℕ)) (es : List Entry) (x : LogId ℕ) → IdNamed prev → EntriesFit s es → last_sent prev es ≡ Some x → IsNamed x.leader_id
last_named s prev es x p fit e = go (slice_get es (length es - 1)) refl e where
  go : (q : Option Entry) → slice_get es (length es - 1) ≡ q → option_or (option_map (λ (z : Entry). z.log_id) q) prev ≡ Some x → IsNamed x.leader_id
  go None f e = subst IdNamed e p
  go (Some y) f e = named_of_id s es (length es - 1) x fit (slot_sent es (length es - 1) y f ∙ e)

-- what a node answers under its leader's vote: a success, or a conflict
consecutive_whole : (st : WorldState) (prev : Option (LogId ℕ)) (x : Option (LogId ℕ)) → append_response (consecutive_answer nat_cmp st prev) ≢ response.PartialSuccess x
consecutive_whole st None x e = cc
consecutive_whole st (Some y) x e = go (has_log_id nat_cmp st y) e where
  go : (b : Bool) → append_response (let a : Result (Unit {0}) (RejectAppendEntries ℕ) = if b then Ok tt else Err (reject.ByConflictingLogId (at st.ids y.index) y) in a) ≡ response.PartialSuccess x → ⊥
  go true e = cc
  go false e = cc

consecutive_told : (st : WorldState) (prev : Option (LogId ℕ)) (w : Vote ℕ) → append_response (consecutive_answer nat_cmp st prev) ≢ response.HigherVote w
consecutive_told st None w e = cc
consecutive_told st (Some y) w e = go (has_log_id nat_cmp st y) e where
  go : (b : Bool) → append_response (let a : Result (Unit {0}) (RejectAppendEntries ℕ) = if b then Ok tt else Err (reject.ByConflictingLogId (at st.ids y.index) y) in a) ≡ response.HigherVote w → ⊥
  go true e = cc
  go false e = cc

-- a success is behind an id that is held
success_held : (st : WorldState) (prev : Option (LogId ℕ)) → is_success (append_response (consecutive_answer nat_cmp st prev)) ≡ true → holds_previous nat_cmp st prev ≡ true
success_held st None e = refl
success_held st (Some x) e = go (has_log_id nat_cmp st x) e where
  go : (b : Bool) → is_success (append_response (let a : Result (Unit {0}) (RejectAppendEntries ℕ) = if b then Ok tt else Err (reject.ByConflictingLogId (at st.ids x.index) x) in a)) ≡ true → b ≡ true
  go true e = refl
  go false e = absurd (true≢false (sym e))

module _ (first : Members ℕ (Unit {0})) (t : Turn) (config : EngineConfig ℕ) (u : WorldStore) (W : Ideal) (msg : Message) (o : Origin) (prev : Option (LogId ℕ)) (es : List Entry) (told : Option (LogId ℕ)) (d : Delivered (setup_of first) t W msg) (b : msg.body ≡ body.AppendRequest o prev es told) where
  pub sent_in : AppendSent (setup_of first) t.id o prev es told W
  sent_in = subst (λ n. AppendSent (setup_of first) n o prev es told W) d.here (subst (λ c. BodyIs (setup_of first) msg.from msg.to c W) b d.is)

  -- a success that isn't partial is whole
  succeeded : (a : AppendEntriesResponse ℕ) → ((x : Option (LogId ℕ)) → a ≢ response.PartialSuccess x) → is_success a ≡ true → a ≡ response.Success
  succeeded response.Success whole p = refl
  succeeded (response.PartialSuccess x) whole p = absurd (whole x refl)
  succeeded response.Conflict whole p = absurd (true≢false (sym p))
  succeeded (response.HigherVote w) whole p = absurd (true≢false (sym p))

  -- the reply
  carried_reply : (m : WorldMachine) (v : LeaderId ℕ) (a : AppendEntriesResponse ℕ) (r : Append Entry) → m.core.state.vote.leader_id ≡ v → r.session.leader ≡ number o.session_id.vote.leader_id
      → ((x : Option (LogId ℕ)) → a ≢ response.PartialSuccess x) → ((V : Ideal) → Tail (setup_of first) t v u W m.core.output.items V → (w : Vote ℕ) → a ≡ response.HigherVote w → VoteTold w V)
      → Carried (setup_of first) t v u W m.core.output.items (λ V. Knows (setup_of first) t.id m V × (is_success a ≡ true → (x : LogId ℕ) → last_sent prev es ≡ Some x → MayAccept (setup_of first) V t.id r x.index (number x.leader_id)))
      → CarriedIn (setup_of first) t u W (on_core (λ c. record c { output = replied (Some reply_token) a c.output }) m)
  carried_reply m v a r e leads whole rejected h =
      subst (λ w. Carried (setup_of first) t w u W (m.core.output.items ++ reply ∷ []) (Knows (setup_of first) t.id after)) (sym e)
      (push (setup_of first) t v u W m.core.output.items reply _ (Knows (setup_of first) t.id after) h
      (λ V y k. by V y.store (says V y) k.0 k.1 (is_success a) refl (last_sent prev es) refl))
    where
      reply : WorldCommand
      reply = command.Respond None (respond.AppendEntries (record { value = a; token = reply_token }))

      after : WorldMachine
      after = on_core (λ c. record c { output = replied (Some reply_token) a c.output }) m

      repacked : (V : Ideal) → Knows (setup_of first) t.id m V → Knows (setup_of first) t.id after V
      repacked V k = record { state = k.state; leader = k.leader; candidate = k.candidate; alone = k.alone }

      says : (V : Ideal) → Tail (setup_of first) t v u W m.core.output.items V → Replies a V
      says V y = record { whole = whole; rejected = rejected V y }

      silent : (V : Ideal) → StoreIs (setup_of first) (left_by u m.core.output.items) (V.store t.id) → Replies a V → Knows (setup_of first) t.id m V → (is_success a ≡ false) ⊎ (last_sent prev es ≡ None) → (X : Ideal) × Done (setup_of first) t v (left_by u m.core.output.items) reply V X × Knows (setup_of first) t.id after X
      silent V y z k n = (V, done_unaccepted (setup_of first) t v (left_by u m.core.output.items) None _ msg o prev es told V y d.request b n z, repacked V k)

      by : (V : Ideal) → StoreIs (setup_of first) (left_by u m.core.output.items) (V.store t.id) → Replies a V → Knows (setup_of first) t.id m V → (is_success a ≡ true → (x : LogId ℕ) → last_sent prev es ≡ Some x → MayAccept (setup_of first) V t.id r x.index (number x.leader_id))
          → (ok : Bool) → is_success a ≡ ok → (l : Option (LogId ℕ)) → last_sent prev es ≡ l → (X : Ideal) × Done (setup_of first) t v (left_by u m.core.output.items) reply V X × Knows (setup_of first) t.id after X
      by V y z k f false p l q = silent V y z k (inl p)
      by V y z k f true p None q = silent V y z k (inr q)
      by V y z k f true p (Some x) q = (
        does (setup_of first) V (AcceptAppend t.id r x.index (number x.leader_id)),
        done_accept (setup_of first) t v (left_by u m.core.output.items) None _ msg o prev es told r x V y d.request b q leads (f p x q) (succeeded a whole p) sent_in.leaders.named (last_named (setup_of first) prev es x sent_in.prev_named sent_in.entries_fit q) z,
        repacked (does (setup_of first) V (AcceptAppend t.id r x.index (number x.leader_id))) (stable_in (setup_of first) t.id m V (does (setup_of first) V (AcceptAppend t.id r x.index (number x.leader_id))) (does_one (setup_of first) V (AcceptAppend t.id r x.index (number x.leader_id)) (f p x q) tt) refl k),
      )

  -- an append request whose vote isn't below the node's
  module _ (m : WorldMachine) (now : ℕ) (st : Stands (setup_of first) t config u W m) (unread : AllByRecursion Unread m.core.output.items) (asks : refusals_of_append nat_cmp config o.session_id.vote prev (log_ids es) m ≡ None) where
    pub other : is_eq (nat_cmp o.session_id.vote.leader_id.node_id config.id) ≡ false
    other = not_own nat_cmp nat_cmp_total nat_same entry_meaning config o.session_id.vote (refusals_of_follow nat_cmp m.core.state o.session_id.vote prev (log_ids es)) m asks

    pub away : t.id ≢ (setup_of first).owner (number o.session_id.vote.leader_id)
    away e = sent_in.leaders.away (sym (number_node o.session_id.vote.leader_id sent_in.leaders.named) ∙ sym e)

    pub ids_run : rejects_vote nat_cmp m.core.state o.session_id.vote ≡ false → Run index (next prev) es
    ids_run r = run_of_ids entry_meaning (next prev) es (follow_passed nat_cmp m.core.state o.session_id.vote prev (log_ids es) (more_passed nat_cmp config o.session_id.vote (refusals_of_follow nat_cmp m.core.state o.session_id.vote prev (log_ids es)) m asks r))

    -- once its vote is taken
    pub record Voted (n : WorldMachine) : Type 0 where
      pub vote : n.core.state.vote ≡ o.session_id.vote
      pub leader : n.leader ≡ None
      pub candidate : n.candidate ≡ None

    pub voted_is : rejects_vote nat_cmp m.core.state o.session_id.vote ≡ false → Voted (update_vote nat_cmp entry_meaning config o.session_id.vote now m)
    voted_is r = heard_case nat_cmp nat_cmp_total nat_same entry_meaning config Voted o.session_id.vote now m r other (λ role q. record { vote = refl; leader = refl; candidate = refl })

    pub voted_under : rejects_vote nat_cmp m.core.state o.session_id.vote ≡ false → Under (setup_of first) t config u W o.session_id.vote.leader_id st.reached sent_in.request sent_in.sent sent_in.is.session away other (update_vote nat_cmp entry_meaning config o.session_id.vote now m).core.state
    voted_under r = record { leader = ap (λ (w : Vote ℕ). w.leader_id) (voted_is r).vote; committed = ap (λ (w : Vote ℕ). w.committed) (voted_is r).vote ∙ sent_in.leaders.committed }

    pub voted_pending : rejects_vote nat_cmp m.core.state o.session_id.vote ≡ false → PendingIn nat_cmp entry_meaning (λ es. es) u (update_vote nat_cmp entry_meaning config o.session_id.vote now m)
    voted_pending r =
        let n : WorldMachine = update_vote nat_cmp entry_meaning config o.session_id.vote now m in
        let g : IsSoundState nat_cmp n.core.state = voted_sound nat_cmp nat_cmp_total nat_same entry_meaning config o.session_id.vote now m r other st.sound.sound in
        pending_update_vote nat_cmp entry_meaning world_law (λ es. es) config u o.session_id.vote now m st.pending (in_order nat_cmp n.core.state.vote.leader_id n.core.state.ids n.core.state.purged g.log)

    pub voted_carried : CarriedIn (setup_of first) t u W (update_vote nat_cmp entry_meaning config o.session_id.vote now m)
    voted_carried =
        carried_heard first t config st.id u W o.session_id.vote now m st.pending.core st.sound.sound unread sent_in.leaders.named sent_in.leaders.committed sent_in.leaders.away (inl (sent_in.request, sent_in.sent, sent_in.is.session)) st.carried

    by_answer : (AppendFits nat_cmp entry_meaning (update_vote nat_cmp entry_meaning config o.session_id.vote now m).core.state prev es) → rejects_vote nat_cmp m.core.state o.session_id.vote ≡ false
        → PendingIn nat_cmp entry_meaning (λ es. es) u (on_core (follow nat_cmp entry_meaning config prev es) (update_vote nat_cmp entry_meaning config o.session_id.vote now m))
        → CarriedIn (setup_of first) t u W
        (on_core (λ c. record c { output = replied (Some reply_token) (append_response (consecutive_answer nat_cmp (update_vote nat_cmp entry_meaning config o.session_id.vote now m).core.state prev)) c.output })
        (on_core (follow nat_cmp entry_meaning config prev es) (update_vote nat_cmp entry_meaning config o.session_id.vote now m)))
    by_answer f r p =
        carried_reply done vl (append_response (consecutive_answer nat_cmp n.core.state prev)) sent_in.request done_leader sent_in.is.session (λ x i. consecutive_whole n.core.state prev x i) (λ V y w i. absurd (consecutive_told n.core.state prev w i))
        (carry (setup_of first) t vl u W done.core.output.items (Followed (setup_of first) t config u W vl st.reached sent_in.request sent_in.sent sent_in.is.session away other o prev es told sent_in.is (ids_run r) sent_in.entries_fit sent_in.prev_named done.core.state (holds_previous nat_cmp n.core.state prev))
        (λ V. Knows (setup_of first) t.id done V × (is_success (append_response (consecutive_answer nat_cmp n.core.state prev)) ≡ true → (x : LogId ℕ) → last_sent prev es ≡ Some x → MayAccept (setup_of first) V t.id sent_in.request x.index (number x.leader_id)))
        (carried_follow (setup_of first) t config u W vl st.reached sent_in.request sent_in.sent sent_in.is.session away other o prev es told sent_in.is (ids_run r) sent_in.entries_fit sent_in.prev_named n.core (voted_pending r).core (voted_under r) f p.core.in_step
        (subst (λ w. Carried (setup_of first) t w u W n.core.output.items (KnowsAccepted (setup_of first) t.id n.core.state)) (voted_under r).leader
        (carry (setup_of first) t n.core.state.vote.leader_id u W n.core.output.items (Knows (setup_of first) t.id n) (KnowsAccepted (setup_of first) t.id n.core.state) voted_carried (λ V _ k. k.state))))
        (λ V y k. (
          record {
            state = k.0;
            leader = subst (λ l. IfSome l (λ l. KnowsLed (setup_of first) t.id done.core.state l V)) (sym (voted_is r).leader) tt;
            candidate = subst (λ c. IfSome c (λ c. KnowsGrants t.id c V)) (sym (voted_is r).candidate) tt;
            alone = subst (λ l. Alone l n.candidate) (sym (voted_is r).leader) tt;
          },
          λ q x l.
              let nm : Names (setup_of first) sent_in.request x.index (number x.leader_id) = sent_named (setup_of first) o prev es told sent_in.request x sent_in.is (ids_run r) l in
              may_accept (setup_of first) t config u W vl st.reached sent_in.request sent_in.sent sent_in.is.session away other o prev es told sent_in.is (ids_run r) sent_in.entries_fit sent_in.prev_named (left_by u done.core.output.items) V done.core.state done_under p.core.in_step y.within y.store x.index (number x.leader_id) nm
              (k.1 (success_held n.core.state prev q) x.index (number x.leader_id) nm),
        )))
      where
        vl : LeaderId ℕ
        vl = o.session_id.vote.leader_id

        n : WorldMachine
        n = update_vote nat_cmp entry_meaning config o.session_id.vote now m

        done : WorldMachine
        done = on_core (follow nat_cmp entry_meaning config prev es) (update_vote nat_cmp entry_meaning config o.session_id.vote now m)

        marks : SameMarks (update_vote nat_cmp entry_meaning config o.session_id.vote now m).core.state (follow nat_cmp entry_meaning config prev es (update_vote nat_cmp entry_meaning config o.session_id.vote now m).core).state
        marks = follow_marks nat_cmp entry_meaning config prev es (update_vote nat_cmp entry_meaning config o.session_id.vote now m).core

        done_leader : (follow nat_cmp entry_meaning config prev es (update_vote nat_cmp entry_meaning config o.session_id.vote now m).core).state.vote.leader_id ≡ o.session_id.vote.leader_id
        done_leader = ap (λ (w : Vote ℕ). w.leader_id) marks.vote ∙ (voted_under r).leader

        done_under : Under (setup_of first) t config u W o.session_id.vote.leader_id st.reached sent_in.request sent_in.sent sent_in.is.session away other (follow nat_cmp entry_meaning config prev es (update_vote nat_cmp entry_meaning config o.session_id.vote now m).core).state
        done_under = record { leader = done_leader; committed = ap (λ (w : Vote ℕ). w.committed) marks.vote ∙ (voted_under r).committed }

    -- the call
    pub carried_append : (rejects_vote nat_cmp m.core.state o.session_id.vote ≡ false → AppendFits nat_cmp entry_meaning (update_vote nat_cmp entry_meaning config o.session_id.vote now m).core.state prev es)
        → CarriedIn (setup_of first) t u W (handle_append_entries nat_cmp entry_meaning config o.session_id.vote prev es (Some reply_token) now m)
    unfolding handle_append_entries append_entries append_answer
    carried_append f =
        by (rejects_vote nat_cmp m.core.state o.session_id.vote) refl
        (pending_append_entries nat_cmp nat_cmp_total nat_same entry_meaning world_law (λ es. es) config u o.session_id.vote prev es now m st.pending st.sound asks f)
      where
        by : (k : Bool) → rejects_vote nat_cmp m.core.state o.session_id.vote ≡ k
            → PendingIn nat_cmp entry_meaning (λ es. es) u (if k then m else on_core (follow nat_cmp entry_meaning config prev es) (update_vote nat_cmp entry_meaning config o.session_id.vote now m))
            → CarriedIn (setup_of first) t u W
            (on_core (λ c. record c { output = replied (Some reply_token) (append_response (let z : Result (Unit {0}) (RejectAppendEntries ℕ) = if k then Err (reject.ByVote m.core.state.vote) else consecutive_answer nat_cmp (update_vote nat_cmp entry_meaning config o.session_id.vote now m).core.state prev in z)) c.output })
            (if k then m else on_core (follow nat_cmp entry_meaning config prev es) (update_vote nat_cmp entry_meaning config o.session_id.vote now m)))
        by true r p =
            carried_reply m m.core.state.vote.leader_id (response.HigherVote m.core.state.vote) sent_in.request refl sent_in.is.session (λ x i. cc)
            (λ V y w i.
            let q : m.core.state.vote ≡ w = cc in
            subst (λ x. VoteTold x V) q
            (vote_told first V (does_then (setup_of first) _ W V st.reached y.came) t.id m.core.state.vote (tail_named (setup_of first) (left_by u m.core.output.items) (V.store t.id) m.core.state y.store st.pending.core.in_step)
            (tail_vote (setup_of first) (left_by u m.core.output.items) (V.store t.id) m.core.state y.store st.pending.core.in_step)))
            (carry (setup_of first) t m.core.state.vote.leader_id u W m.core.output.items (Knows (setup_of first) t.id m) (λ V. Knows (setup_of first) t.id m V × (false ≡ true → (x : LogId ℕ) → last_sent prev es ≡ Some x → MayAccept (setup_of first) V t.id sent_in.request x.index (number x.leader_id))) st.carried (λ V _ k. (k, λ q. absurd (true≢false (sym q)))))
        by false r p = by_answer (f r) r p
