-- An append request that was sent is never refused for its vote, its ids or its committed id, whatever the node has.
use Rattle.std.proofs.Common.{ℕ, ◌≤◌, ◌≡◌, ◌⊎◌, inl, inr, Bool, true, false, not, List, [], ◌∷◌, ◌++◌, arith, refl, sym, ap, ◌∙◌, subst, Option, None, Some}
use Rattle.std.specs.Prelude.{IfSome, nat_lt, ◌&&◌, if◌then◌else◌}
use Rattle.std.specs.List.{AllByRecursion, list_any}
use Rattle.std.specs.Option.{option_to_list}
use Rattle.std.specs.Ordering.{is_eq, nat_cmp}
use Rattle.std.proofs.lemmas.Bool.{le-ltb}
use Rattle.raft_node.specs.raft_state.declared.ids.LeaderId.{LeaderId}
use Rattle.raft_node.specs.raft_state.declared.ids.LogId.{LogId}
use Rattle.raft_node.specs.raft_state.declared.ids.Vote.{Vote}
use Rattle.raft_node.specs.raft_state.declared.membership.Members.{Members}
use Rattle.raft_node.specs.raft_state.Consecutive.{follows_on}
use Rattle.raft_node.specs.raft_state.Order.{next}
use Rattle.raft_node.specs.raft_state.State.{accepted_under, commits, has_log_id}
use Rattle.raft_node.specs.raft_error.declared.error.EngineError.{EngineError}
use Rattle.raft_node.specs.raft_error.declared.error.EngineError.TheVariants.{IndexEnd, CounterEnd, VoteNotCommitted, OwnVote, NotFollowing, ContradictsHeld, CommittedNotHeld, Spent}
use Rattle.raft_node.specs.raft_command.declared.config.EngineConfig.{EngineConfig}
use Rattle.raft_node.specs.raft_steps.Refusals.{is_at_end, refusals_of_counter, is_counter_end, is_spent}
use Rattle.raft_node.specs.raft_steps.FollowingHandler.{commit_target}
use Rattle.raft_node.specs.raft_steps.RequestRefusals.{is_above_vote, is_above_committed, contradicts_committed, contradicts_accepted, is_missing, refusals_of_follow, refusals_of_held, refusals_of_append, refusals_of_commit}
use Rattle.raft_node.specs.raft_steps.VoteHandler.{rejects_vote}
use Rattle.proof_agreement.specs.Machine.{Includes}
use Rattle.proof_agreement.specs.Stores.{AppendRequest}
use Rattle.proof_agreement.specs.Deeds.{Names}
use Rattle.raft_node.specs.raft_store.declared.entry.Entry.{Entry}
use Rattle.raft_node.specs.raft_store.Entries.{entry_meaning}
use Rattle.raft_node.specs.raft_store.Types.{WorldStore, WorldMachine}
use Rattle.raft_node.proofs.raft_store_proofs.Lists.{Run}
use Rattle.proof_mirror.specs.Ready.{InStep}
use Rattle.proof_mirror.proofs.Shape.{run_of_ids}
use Rattle.raft_node.specs.raft_calls.declared.message.Body.TheVariants as body
use Rattle.raft_node.specs.raft_calls.declared.message.Message.{Message}
use Rattle.raft_node.specs.raft_calls.declared.message.Origin.{Origin}
use Rattle.raft_node.specs.declared.node.Turn.{Turn}
use Rattle.proof_deeds.specs.Chains.{Reached, left_by}
use Rattle.proof_deeds.specs.Follows.{AppendSent}
use Rattle.proof_deeds.specs.Images.{Ideal, IsNamed, IdNamed, number, setup_of}
use Rattle.proof_deeds.specs.Knows.{Knows, Delivered, Stands}
use Rattle.proof_deeds.proofs.AppendFitting.{not_lower}
use Rattle.proof_deeds.proofs.AppendHeld.{never_missing}
use Rattle.proof_deeds.proofs.AppendLaws.{sent_in}
use Rattle.proof_deeds.proofs.AppendRefusals.{none_any, each_slot, never_above, never_contradicts, never_lacks, never_unfollowed}
use Rattle.proof_deeds.proofs.AppendTails.{log_ids, names_prev, names_slot}
use Rattle.proof_deeds.proofs.Numbers.{Order, below, same, above, ordered}
use Rattle.proof_deeds.proofs.Pushes.{Tail, tail_of}
use Rattle.proof_deeds.proofs.PlainRefusals.{IsPlain, and_low, first_or_none, nodes_apart, none_refused, pick_low, plain_first, plain_none, plain_or, ends}
use Rattle.proof_deeds.proofs.Tails.{index, named_of_id, tail_named, tail_vote}
use Rattle.proof_deeds.proofs.Voting.{leader_above, none_accepted}
use Rattle.proof_deeds.proofs.Worlds.{does_then}

-- what holds of the id before, where there is one, and of each entry's
any_of : (p : LogId ℕ → Bool) (o : Option (LogId ℕ)) (xs : List (LogId ℕ)) → IfSome o (λ x. p x ≡ false) → AllByRecursion (λ x. p x ≡ false) xs → list_any p (option_to_list o ++ xs) ≡ false
any_of p None xs h k = none_any p xs k
any_of p (Some x) xs h k = none_any p (x ∷ xs) (h, k)

any_one : (p : LogId ℕ → Bool) (o : Option (LogId ℕ)) → IfSome o (λ x. p x ≡ false) → list_any p (option_to_list o) ≡ false
any_one p None h = refl
any_one p (Some x) h = none_any p (x ∷ []) (h, tt)

module _ (first : Members ℕ (Unit {0})) (t : Turn) (config : EngineConfig ℕ) (u : WorldStore) (W : Ideal) (msg : Message) (o : Origin) (prev : Option (LogId ℕ)) (es : List Entry) (told : Option (LogId ℕ)) (d : Delivered (setup_of first) t W msg) (b : msg.body ≡ body.AppendRequest o prev es told)
    (m : WorldMachine) (st : Stands (setup_of first) t config u W m) where
  a : AppendSent (setup_of first) t.id o prev es told W
  a = sent_in first t config u W msg o prev es told d b

  abbrev v : Vote ℕ
  v = o.session_id.vote

  abbrev V : Ideal
  V = st.carried.end

  abbrev T : WorldStore
  T = left_by u m.core.output.items

  tail : Tail (setup_of first) t m.core.state.vote.leader_id u W m.core.output.items st.carried.end
  tail = tail_of (setup_of first) t m.core.state.vote.leader_id u W m.core.output.items (Knows (setup_of first) t.id m) st.carried

  came : Reached (setup_of first) st.carried.end
  came = does_then (setup_of first) _ W st.carried.end st.reached tail.came

  j : InStep entry_meaning (left_by u m.core.output.items) m.core.state
  j = st.pending.core.in_step

  run : Run index (next prev) es
  run = run_of_ids entry_meaning (next prev) es a.run

  here : Includes st.carried.end.messages (AppendRequest a.request)
  here = tail.within.messages _ a.sent

  vote_is : (st.carried.end.store t.id).vote ≡ number m.core.state.vote.leader_id
  vote_is = tail_vote (setup_of first) (left_by u m.core.output.items) (st.carried.end.store t.id) m.core.state tail.store j

  named : IsNamed m.core.state.vote.leader_id
  named = tail_named (setup_of first) (left_by u m.core.output.items) (st.carried.end.store t.id) m.core.state tail.store j

  -- of each id that the request names
  of_prev : (P : LogId ℕ → Type 0) → ((x : LogId ℕ) → Names (setup_of first) a.request x.index (number x.leader_id) → IsNamed x.leader_id → P x) → (p : Option (LogId ℕ)) → prev ≡ p → IfSome p P
  of_prev P f None e = tt
  of_prev P f (Some x) e = f x (names_prev (setup_of first) o prev es told a.request a.is x e) (subst IdNamed e a.prev_named)

  of_each : (P : LogId ℕ → Type 0) → ((x : LogId ℕ) → Names (setup_of first) a.request x.index (number x.leader_id) → IsNamed x.leader_id → P x) → AllByRecursion P (log_ids es)
  of_each P f = each_slot P es (λ i x q. f x (names_slot (setup_of first) o prev es told a.request a.is i x run q) (named_of_id (setup_of first) es i x a.entries_fit q))

  -- An id, where the request's vote isn't below the node's
  module _ (r : rejects_vote nat_cmp m.core.state v ≡ false) where
    low : number m.core.state.vote.leader_id ≤ number o.session_id.vote.leader_id
    low = not_lower v m.core.state.vote a.leaders.named named r

    at_committed : (x : LogId ℕ) → Names (setup_of first) a.request x.index (number x.leader_id) → IsNamed x.leader_id
        → (nat_lt x.index (next m.core.state.committed) ≡ true → commits nat_cmp m.core.state (Some x) ≡ false) × (nat_lt x.index (next m.core.state.committed) ≡ false → commits nat_cmp m.core.state (Some x) ≡ true)
    at_committed x nm n = never_contradicts (setup_of first) t.id V came T m.core.state tail.store j st.sound.sound a.request x here (omega (arith, vote_is, low, a.is.session)) nm n

    lacks : (x : LogId ℕ) → Names (setup_of first) a.request x.index (number x.leader_id) → IsNamed x.leader_id → contradicts_accepted nat_cmp m.core.state v x ≡ false
    lacks x nm n = go (ordered m.core.state.vote.leader_id o.session_id.vote.leader_id named a.leaders.named) where
      nothing : (p : Option (LogId ℕ)) → p ≡ None → (nat_lt x.index (next p) && not (has_log_id nat_cmp m.core.state x)) ≡ false
      nothing None e = ap (λ b. b && not (has_log_id nat_cmp m.core.state x)) (le-ltb x.index 0 (omega arith))
      nothing (Some y) e = cc

      go : Order m.core.state.vote.leader_id o.session_id.vote.leader_id → contradicts_accepted nat_cmp m.core.state v x ≡ false
      go (below q l) = nothing (accepted_under nat_cmp v.leader_id m.core.state.accepted_by) (none_accepted m.core.state v None st.sound.sound (leader_above v m.core.state.vote a.leaders.named named l))
      go (same q l) =
          ap (λ (i : LeaderId ℕ). nat_lt x.index (next (accepted_under nat_cmp i m.core.state.accepted_by)) && not (has_log_id nat_cmp m.core.state x)) (sym l)
          ∙ never_lacks (setup_of first) t.id V came T m.core.state tail.store j st.carried.knows.state a.request x (record { sent = here; session = a.is.session ∙ (sym (ap number l) ∙ sym vote_is) }) nm n
      go (above q l) = absurd (omega (arith, l, low))

    -- so its ids are refused at most for the last index
    pub never_unfit : (refusals_of_follow nat_cmp m.core.state v prev (log_ids es) ≡ None) ⊎ (refusals_of_follow nat_cmp m.core.state v prev (log_ids es) ≡ Some IndexEnd)
    never_unfit =
        first_or_none {E = EngineError ℕ (Unit {0})} (list_any is_at_end (option_to_list prev ++ log_ids es)) IndexEnd
        ((not (follows_on nat_cmp prev (log_ids es)), NotFollowing)
        ∷ (list_any (is_above_vote nat_cmp v) (option_to_list prev ++ log_ids es), NotFollowing)
        ∷ (list_any (is_above_committed nat_cmp m.core.state) (option_to_list prev), ContradictsHeld)
        ∷ (list_any (contradicts_committed nat_cmp m.core.state) (log_ids es), ContradictsHeld)
        ∷ (list_any (contradicts_accepted nat_cmp m.core.state v) (option_to_list prev ++ log_ids es), ContradictsHeld)
        ∷ []) (
          ap not (never_unfollowed (setup_of first) W st.reached a.request a.sent o prev es told a.is run a.prev_named a.entries_fit),
          (
            never_above (setup_of first) W st.reached a.request a.sent v o prev es told a.is a.is.session a.leaders.named a.prev_named a.entries_fit,
            (
              any_one (is_above_committed nat_cmp m.core.state) prev
                  (of_prev (λ x. is_above_committed nat_cmp m.core.state x ≡ false) (λ x nm n. and_low (nat_lt x.index (next m.core.state.committed)) (commits nat_cmp m.core.state (Some x)) (at_committed x nm n).0) prev refl),
              (
                none_any (contradicts_committed nat_cmp m.core.state) (log_ids es)
                    (of_each (λ x. contradicts_committed nat_cmp m.core.state x ≡ false) (λ x nm n. pick_low (nat_lt x.index (next m.core.state.committed)) (commits nat_cmp m.core.state (Some x)) (at_committed x nm n).0 (at_committed x nm n).1)),
                (
                  any_of (contradicts_accepted nat_cmp m.core.state v) prev (log_ids es) (of_prev (λ x. contradicts_accepted nat_cmp m.core.state v x ≡ false) lacks prev refl) (of_each (λ x. contradicts_accepted nat_cmp m.core.state v x ≡ false) lacks),
                  tt,
                ),
              ),
            ),
          ),
        )

  -- and the request for a want or an end only
  pub append_plain : IsPlain (refusals_of_append nat_cmp config v prev (log_ids es) m)
  append_plain =
      plain_or _ (if rejects_vote nat_cmp m.core.state v then None else refusals_of_follow nat_cmp m.core.state v prev (log_ids es))
      (plain_first ((is_spent m, Spent) ∷ (is_counter_end m, CounterEnd) ∷ (not v.committed, VoteNotCommitted) ∷ (is_eq (nat_cmp v.leader_id.node_id config.id), OwnVote) ∷ [])
      (inr (inr (omega arith)), (inr (inl (omega arith)), (inl (ap not a.leaders.committed), (inl (nodes_apart v.leader_id.node_id config.id (λ e. a.leaders.away (e ∙ st.id))), tt)))))
      (more (rejects_vote nat_cmp m.core.state v) refl)
    where
      more : (k : Bool) → rejects_vote nat_cmp m.core.state v ≡ k → IsPlain (if k then None else refusals_of_follow nat_cmp m.core.state v prev (log_ids es))
      more true e = tt
      more false e = ends (refusals_of_follow nat_cmp m.core.state v prev (log_ids es)) (never_unfit e)

  -- The leader's committed id, under its vote
  module _ (e : m.core.state.vote ≡ o.session_id.vote) where
    pub never_unheld : refusals_of_held nat_cmp m.core.state told ≡ None
    never_unheld =
        none_refused ((is_missing nat_cmp m.core.state (commit_target nat_cmp m.core.state told), CommittedNotHeld) ∷ []) (
          never_missing (setup_of first) t.id V came T m.core.state tail.store j st.sound.sound told a.request
              (record { sent = here; session = a.is.session ∙ (sym (ap (λ (w : Vote ℕ). number w.leader_id) e) ∙ sym vote_is) }) a.told_named a.is.committed a.is.committed_leader st.carried.knows.state,
          tt,
        )

    pub commit_plain : IsPlain (refusals_of_commit nat_cmp told m)
    commit_plain =
        plain_or (refusals_of_counter m) (refusals_of_held nat_cmp m.core.state told) (plain_first ((is_spent m, Spent) ∷ (is_counter_end m, CounterEnd) ∷ []) (inr (inr (omega arith)), (inr (inl (omega arith)), tt)))
        (plain_none (refusals_of_held nat_cmp m.core.state told) never_unheld)
