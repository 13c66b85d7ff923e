-- Elections: a node asks for votes, and answers who asks.
use Rattle.std.proofs.Common.{ℕ, ◌+◌, ◌<◌, ◌≡◌, ◌⊎◌, inl, inr, ⊎_elim, Bool, true, false, not, List, [], ◌∷◌, ◌++◌, length, arith, refl, sym, ap, ◌∙◌, subst, true≢false, Option, Some, None}
use Rattle.std.specs.Prelude.{if◌then◌else◌, ◌&&◌, ◌||◌}
use Rattle.std.specs.List.{AllByRecursion}
use Rattle.std.specs.Ordering.{is_gt, is_lt, nat_cmp}
use Rattle.std.proofs.lemmas.Bool.{and_parts, both_ways, cond_both, cases_Bool}
use Rattle.std.proofs.lemmas.Cmp.{nat_cmp_total}
use Rattle.raft_node.specs.raft_state.declared.ids.LogId.{LogId}
use Rattle.raft_node.specs.raft_state.declared.ids.Vote.{Vote}
use Rattle.raft_node.specs.raft_state.declared.membership.Members.{Members}
use Rattle.raft_node.specs.raft_state.Invariants.{IsSoundState}
use Rattle.raft_node.specs.raft_state.Log.{last}
use Rattle.raft_node.specs.raft_state.Members.{voter_ids}
use Rattle.raft_node.specs.raft_state.Order.{last_id_cmp, next, vote_cmp}
use Rattle.raft_node.specs.raft_state.Same.{nat_same}
use Rattle.raft_node.specs.raft_state.State.{is_leader, is_leading}
use Rattle.raft_node.specs.raft_command.declared.command.Command.TheVariants as command
use Rattle.raft_node.specs.raft_command.declared.config.EngineConfig.{EngineConfig}
use Rattle.raft_node.specs.raft_command.declared.message.VoteRequest.{VoteRequest}
use Rattle.raft_node.specs.raft_proposer.Candidate.{candidate_of}
use Rattle.raft_node.specs.raft_steps.Engine.{elect}
use Rattle.raft_node.specs.raft_steps.Parts.{then_command, with_state, on_core}
use Rattle.raft_node.specs.raft_steps.Requests.{is_leased, refuses_vote_req, handle_vote_req, vote_req_answer}
use Rattle.raft_node.specs.raft_steps.ServerStateHandler.{update_role}
use Rattle.raft_node.specs.raft_steps.VoteHandler.{rejects_vote, take_vote, become_following, become_leader, update_internal_server_state, update_vote}
use Rattle.raft_node.proofs.raft_steps_proofs.Kept.{vote_sound}
use Rattle.raft_node.proofs.raft_steps_proofs.KeptLead.{each_of}
use Rattle.proof_agreement.specs.Machine.{Includes, AtOrBelow}
use Rattle.proof_agreement.specs.Stores.{VoteRequest as AskVote, VoteGranted, whole}
use Rattle.proof_agreement.specs.Deeds.{RequestVotes, AnswerVote, MayAnswerVote, does, IsCandidate}
use Rattle.raft_node.specs.raft_store.declared.entry.Entry.{Entry}
use Rattle.raft_node.specs.raft_store.Entries.{entry_meaning}
use Rattle.raft_node.specs.raft_store.Types.{WorldStore, WorldCommand, WorldMachine}
use Rattle.proof_mirror.specs.Ready.{Pending}
use Rattle.proof_mirror.proofs.Elections.{pending_vote, vote_ids, pending_follow}
use Rattle.raft_node.specs.raft_calls.declared.message.Body.TheVariants as body
use Rattle.raft_node.specs.raft_calls.declared.message.Message.{Message}
use Rattle.raft_node.specs.declared.node.Turn.{Turn}
use Rattle.raft_node.specs.raft_calls.Deliveries.{vote_reply}
use Rattle.proof_deeds.specs.Chains.{Reached, Unread, left_by, Carried}
use Rattle.proof_deeds.specs.Follows.{VoteAsked, VoteTold}
use Rattle.proof_deeds.specs.Images.{Ideal, IsNamed, IdNamed, number, last_number, setup_of}
use Rattle.proof_deeds.specs.Knows.{KnowsGrants, Alone, Knows, Delivered, CarriedIn}
use Rattle.proof_deeds.proofs.Claims.{asked_told, vote_told}
use Rattle.proof_deeds.proofs.Keeps.{ends_unled, stable_in}
use Rattle.proof_deeds.proofs.Numbers.{number_node, end_at_or_below, later_vote}
use Rattle.proof_deeds.proofs.Pushes.{Tail, push, carry}
use Rattle.proof_deeds.proofs.Roles.{WorldCore, carried_role_waiting}
use Rattle.proof_deeds.proofs.Tails.{tail_vote, tail_vote_committed, tail_named, tail_length, tail_end, tail_last_named}
use Rattle.proof_deeds.proofs.VotePushes.{done_ask, done_answer, done_refuse}
use Rattle.proof_deeds.proofs.Voting.{taken_vote, carried_pending}
use Rattle.proof_deeds.proofs.Worlds.{does_one, does_then, if_some}

module _ (first : Members ℕ (Unit {0})) (t : Turn) (config : EngineConfig ℕ) (own : config.id ≡ t.id) (u : WorldStore) (W : Ideal) where
  -- by a vote that isn't committed, and isn't rejected, a node waits for votes or follows
  waits_case : (P : WorldMachine → Type 0) (v : Vote ℕ) (now : ℕ) (m : WorldMachine) → rejects_vote nat_cmp m.core.state v ≡ false → v.committed ≡ false
      → P (on_core (take_vote nat_cmp config v now) m) → P (become_following nat_cmp config (on_core (take_vote nat_cmp config v now) m)) → P (update_vote nat_cmp entry_meaning config v now m)
  unfolding update_vote update_internal_server_state
  waits_case P v now m low c a b =
      cond_both (rejects_vote nat_cmp m.core.state v) m (update_internal_server_state nat_cmp entry_meaning config w) P
      (λ e. absurd (both_ways _ low e))
      (λ _. cond_both (is_leader nat_cmp w.core.state config.id) (become_leader nat_cmp entry_meaning config w) (if is_leading nat_cmp w.core.state config.id then w else become_following nat_cmp config w) P
      (λ l. absurd (both_ways w.core.state.vote.committed (ap (λ (x : Vote ℕ). x.committed) (taken_vote first t config own u W v now m.core low) ∙ c) (and_parts (is_leading nat_cmp w.core.state config.id) w.core.state.vote.committed l).1))
      (λ _. cond_both (is_leading nat_cmp w.core.state config.id) w (become_following nat_cmp config w) P (λ _. a) (λ _. b)))
    where
      w : WorldMachine
      w = on_core (take_vote nat_cmp config v now) m

  -- what is so of the node then
  pub record Waits (v : Vote ℕ) (m n : WorldMachine) : Type 0 where
    pub vote : n.core.state.vote ≡ v
    pub ids : n.core.state.ids ≡ m.core.state.ids
    pub sound : IsSoundState nat_cmp n.core.state
    pub pending : Pending nat_cmp entry_meaning (λ es. es) u n.core

  pub waits : (v : Vote ℕ) (now : ℕ) (m : WorldMachine) → Pending nat_cmp entry_meaning (λ es. es) u m.core → IsSoundState nat_cmp m.core.state → rejects_vote nat_cmp m.core.state v ≡ false → v.committed ≡ false
      → Waits v m (update_vote nat_cmp entry_meaning config v now m)
  unfolding become_following update_role
  waits v now m p h low c =
      waits_case (Waits v m) v now m low c
      (record { vote = taken_vote first t config own u W v now m.core low; ids = vote_ids nat_cmp entry_meaning (λ (es : List Entry). es) config v now m.core; sound = sound; pending = q })
      (record { vote = taken_vote first t config own u W v now m.core low; ids = vote_ids nat_cmp entry_meaning (λ (es : List Entry). es) config v now m.core; sound = sound; pending = (pending_follow nat_cmp entry_meaning (λ es. es) config u (on_core (take_vote nat_cmp config v now) m) q).core })
    where
      q : Pending nat_cmp entry_meaning (λ es. es) u (take_vote nat_cmp config v now m.core)
      q = pending_vote nat_cmp entry_meaning (λ es. es) config u v now m.core p

      sound : IsSoundState nat_cmp (take_vote nat_cmp config v now m.core).state
      sound =
          cond_both (is_gt (vote_cmp nat_cmp v m.core.state.vote)) (then_command (with_state m.core (record m.core.state { vote = v; time = Some now })) (command.SaveVote v)) (with_state m.core (record m.core.state { time = Some now }))
          (λ (z : WorldCore). IsSoundState nat_cmp z.state) (λ _. vote_sound nat_cmp nat_cmp_total nat_same v m.core.state low h) (λ _. h)

  waits_unled : (v : Vote ℕ) (now : ℕ) (m : WorldMachine) → rejects_vote nat_cmp m.core.state v ≡ false → v.committed ≡ false → m.leader ≡ None → (update_vote nat_cmp entry_meaning config v now m).leader ≡ None
  unfolding become_following update_role
  waits_unled v now m low c none = waits_case (λ (z : WorldMachine). z.leader ≡ None) v now m low c none refl

  -- a vote request
  pub carried_vote_req : (req : VoteRequest ℕ) (now : ℕ) (m : WorldMachine) → Pending nat_cmp entry_meaning (λ es. es) u m.core → IsSoundState nat_cmp m.core.state → AllByRecursion Unread m.core.output.items → Reached (setup_of first) W → VoteAsked t.id req W
      → CarriedIn (setup_of first) t u W m → CarriedIn (setup_of first) t u W (handle_vote_req nat_cmp entry_meaning config req now m)
  unfolding handle_vote_req
  carried_vote_req req now m p h r reached a k =
      cond_both (refuses_vote_req nat_cmp config m.core.state req now) m (update_vote nat_cmp entry_meaning config req.vote now m) (CarriedIn (setup_of first) t u W) (λ _. k)
      (λ _. carried_pending first t config own u W req.vote now m p h r a.named a.pending (inr (asked_told first W reached req.vote (last_number req.last_log_id) (next req.last_log_id) a.named a.sent).claimed) (λ _ e. absurd (a.away (e ∙ own))) k)

  req_pending : (req : VoteRequest ℕ) (now : ℕ) (m : WorldMachine) → Pending nat_cmp entry_meaning (λ es. es) u m.core → IsSoundState nat_cmp m.core.state → req.vote.committed ≡ false → Pending nat_cmp entry_meaning (λ es. es) u (handle_vote_req nat_cmp entry_meaning config req now m).core
  unfolding handle_vote_req update_vote
  req_pending req now m p h c =
      cond_both (refuses_vote_req nat_cmp config m.core.state req now) m (update_vote nat_cmp entry_meaning config req.vote now m) (λ (z : WorldMachine). Pending nat_cmp entry_meaning (λ es. es) u z.core) (λ _. p)
      (λ _. ⊎_elim (λ (e : rejects_vote nat_cmp m.core.state req.vote ≡ true). subst (λ b. Pending nat_cmp entry_meaning (λ es. es) u (let z : WorldMachine = if b then m else update_internal_server_state nat_cmp entry_meaning config (on_core (take_vote nat_cmp config req.vote now) m) in z.core)) (sym e) p)
      (λ e. (waits req.vote now m p h e c).pending) (cases_Bool (rejects_vote nat_cmp m.core.state req.vote)))

  req_waits : (req : VoteRequest ℕ) (now : ℕ) (m : WorldMachine) → Pending nat_cmp entry_meaning (λ es. es) u m.core → IsSoundState nat_cmp m.core.state → req.vote.committed ≡ false → refuses_vote_req nat_cmp config m.core.state req now ≡ false → rejects_vote nat_cmp m.core.state req.vote ≡ false
      → Waits req.vote m (handle_vote_req nat_cmp entry_meaning config req now m)
  unfolding handle_vote_req
  req_waits req now m p h c e f = subst (λ b. Waits req.vote m (if b then m else update_vote nat_cmp entry_meaning config req.vote now m)) (sym e) (waits req.vote now m p h f c)

  -- and the reply behind it
  pub carried_vote_requested : Reached (setup_of first) W → (req : VoteRequest ℕ) (now : ℕ) (m : WorldMachine) (msg : Message) → Pending nat_cmp entry_meaning (λ es. es) u m.core → IsSoundState nat_cmp m.core.state → AllByRecursion Unread m.core.output.items
      → Delivered (setup_of first) t W msg → msg.body ≡ body.VoteRequest req → VoteAsked t.id req W → CarriedIn (setup_of first) t u W m
      → CarriedIn (setup_of first) t u W (on_core (λ c. then_command c (vote_reply (vote_req_answer nat_cmp entry_meaning config req now m))) (handle_vote_req nat_cmp entry_meaning config req now m))
  unfolding vote_req_answer
  carried_vote_requested reached req now m msg p h r d b a k =
      let n : WorldMachine = handle_vote_req nat_cmp entry_meaning config req now m in
      let q : Pending nat_cmp entry_meaning (λ es. es) u n.core = req_pending req now m p h a.pending in
      push (setup_of first) t n.core.state.vote.leader_id u W n.core.output.items (vote_reply (vote_req_answer nat_cmp entry_meaning config req now m)) (Knows (setup_of first) t.id n) (Knows (setup_of first) t.id (on_core (λ c. then_command c (vote_reply (vote_req_answer nat_cmp entry_meaning config req now m))) n))
      (carried_vote_req req now m p h r reached a k)
      (λ V x y. ⊎_elim
      (λ (g : (not (refuses_vote_req nat_cmp config m.core.state req now) && not (rejects_vote nat_cmp m.core.state req.vote)) ≡ true).
      let parts = and_parts (not (refuses_vote_req nat_cmp config m.core.state req now)) (not (rejects_vote nat_cmp m.core.state req.vote)) g in
      let z : Waits req.vote m n = req_waits req now m p h a.pending (not-true (refuses_vote_req nat_cmp config m.core.state req now) parts.0) (not-true (rejects_vote nat_cmp m.core.state req.vote) parts.1) in
      let V2 : Ideal = does (setup_of first) V (AnswerVote t.id (last_number req.last_log_id) (next req.last_log_id)) in (
        V2,
        done_answer (setup_of first) t n.core.state.vote.leader_id (left_by u n.core.output.items) None _ msg req (last_number req.last_log_id) (next req.last_log_id) V x.store d.request b
            (told V x q) (tail_vote (setup_of first) (left_by u n.core.output.items) (V.store t.id) n.core.state x.store q.in_step)
            (answers req now m n z V x a parts.0),
        let w : Knows (setup_of first) t.id n V2 = stable_in (setup_of first) t.id n V V2 (does_one (setup_of first) V (AnswerVote t.id (last_number req.last_log_id) (next req.last_log_id)) (answers req now m n z V x a parts.0) tt) refl y in
            record { state = w.state; leader = w.leader; candidate = w.candidate; alone = w.alone },
      ))
      (λ e. (
        V,
        done_refuse (setup_of first) t n.core.state.vote.leader_id (left_by u n.core.output.items) None _ msg req V x.store d.request b (told V x q) e,
        record { state = y.state; leader = y.leader; candidate = y.candidate; alone = y.alone },
      ))
      (cases_Bool (not (refuses_vote_req nat_cmp config m.core.state req now) && not (rejects_vote nat_cmp m.core.state req.vote))))
    where
      told : (V : Ideal) → Tail (setup_of first) t (handle_vote_req nat_cmp entry_meaning config req now m).core.state.vote.leader_id u W (handle_vote_req nat_cmp entry_meaning config req now m).core.output.items V
          → Pending nat_cmp entry_meaning (λ es. es) u (handle_vote_req nat_cmp entry_meaning config req now m).core → VoteTold (handle_vote_req nat_cmp entry_meaning config req now m).core.state.vote V
      told V x q =
          let n : WorldMachine = handle_vote_req nat_cmp entry_meaning config req now m in
          vote_told first V (does_then (setup_of first) _ W V reached x.came) t.id n.core.state.vote (tail_named (setup_of first) (left_by u n.core.output.items) (V.store t.id) n.core.state x.store q.in_step) (tail_vote (setup_of first) (left_by u n.core.output.items) (V.store t.id) n.core.state x.store q.in_step)

      not-true : (b : Bool) → not b ≡ true → b ≡ false
      not-true true e = cc
      not-true false e = refl

      second : (a b : Bool) → not (a || b) ≡ true → b ≡ false
      second true b e = cc
      second false true e = cc
      second false false e = refl

      answers : (req : VoteRequest ℕ) (now : ℕ) (m n : WorldMachine) → Waits req.vote m n → (V : Ideal) → Tail (setup_of first) t n.core.state.vote.leader_id u W n.core.output.items V → VoteAsked t.id req W → not (refuses_vote_req nat_cmp config m.core.state req now) ≡ true
          → MayAnswerVote (setup_of first) V t.id (last_number req.last_log_id) (next req.last_log_id)
      answers req now m n z V x a e =
          let T : WorldStore = left_by u n.core.output.items in
          let v : (V.store t.id).vote ≡ number req.vote.leader_id = tail_vote (setup_of first) T (V.store t.id) n.core.state x.store z.pending.in_step ∙ ap (λ (v : Vote ℕ). number v.leader_id) z.vote in
          let l : last n.core.state.ids ≡ last m.core.state.ids = ap last z.ids in
          let low : is_lt (last_id_cmp nat_cmp req.last_log_id (last n.core.state.ids)) ≡ false = ap (λ o. is_lt (last_id_cmp nat_cmp req.last_log_id o)) l ∙ second (is_leased config m.core.state now) (is_lt (last_id_cmp nat_cmp req.last_log_id (last m.core.state.ids))) e in
          let o : AtOrBelow (last_number (last n.core.state.ids)) (next (last n.core.state.ids)) (last_number req.last_log_id) (next req.last_log_id) =
          end_at_or_below req.last_log_id (last n.core.state.ids) a.last_named (tail_last_named (setup_of first) T (V.store t.id) n.core.state x.store z.pending.in_step z.sound) low in
          record {
            sent = x.within.messages _ (subst (λ d. Includes W.messages (AskVote d (last_number req.last_log_id) (next req.last_log_id))) (sym v) a.sent);
            up_to_date = subst (λ i. AtOrBelow i (length (whole (V.store t.id))) (last_number req.last_log_id) (next req.last_log_id)) (sym (tail_end (setup_of first) T (V.store t.id) n.core.state x.store z.pending.in_step z.sound))
                (subst (λ i. AtOrBelow (last_number (last n.core.state.ids)) i (last_number req.last_log_id) (next req.last_log_id)) (sym (tail_length (setup_of first) T (V.store t.id) n.core.state x.store z.pending.in_step)) o);
            not_committed = tail_vote_committed (setup_of first) T (V.store t.id) n.core.state x.store z.pending.in_step ∙ (ap (λ (v : Vote ℕ). v.committed) z.vote ∙ a.pending);
          }

  -- a candidate that asks anew has no grants
  fresh_grants : (now : ℕ) (v : Vote ℕ) (ids : Option (LogId ℕ)) (members : Members ℕ (Unit {0})) (V : Ideal) → 0 < number v.leader_id → KnowsGrants t.id (candidate_of nat_cmp now v ids members) V
  fresh_grants now v ids members V l = record {
    positive = l;
    ungranted = refl;
    rows = each_of (λ (row : ℕ × Bool). row.1 ≡ true → (row.0 ≡ t.id) ⊎ Includes V.messages (VoteGranted row.0 (number v.leader_id))) (λ id. (id, false)) (λ id e. absurd (true≢false (sym e))) (voter_ids nat_cmp members ++ []);
  }

  -- a node that doesn't lead votes for itself in the next term, and asks the others
  pub carried_elect : (now : ℕ) (m : WorldMachine) → Pending nat_cmp entry_meaning (λ es. es) u m.core → IsSoundState nat_cmp m.core.state → AllByRecursion Unread m.core.output.items → m.leader ≡ None → t.id < 18446744073709551616
      → CarriedIn (setup_of first) t u W m → CarriedIn (setup_of first) t u W (elect nat_cmp entry_meaning config now m)
  unfolding elect update_role
  carried_elect now m p h r none small k = asked where
    v : Vote ℕ
    v = record { leader_id = record { term = m.core.state.vote.leader_id.term + 1; node_id = config.id }; committed = false }

    named : IsNamed (record { term = m.core.state.vote.leader_id.term + 1; node_id = config.id })
    named = subst (λ n. n < 18446744073709551616) (sym own) small

    asking : WorldMachine
    asking = record m { candidate = Some (candidate_of nat_cmp now (record { leader_id = record { term = m.core.state.vote.leader_id.term + 1; node_id = config.id }; committed = false }) (last m.core.state.ids) m.core.state.em.membership) }

    positive : 0 < number (record { term = m.core.state.vote.leader_id.term + 1; node_id = config.id })
    positive = omega arith

    begun : CarriedIn (setup_of first) t u W asking
    begun = carry (setup_of first) t m.core.state.vote.leader_id u W m.core.output.items (Knows (setup_of first) t.id m) (Knows (setup_of first) t.id asking) k
        (λ V _ y. record { state = y.state; leader = y.leader; candidate = fresh_grants now v (last m.core.state.ids) m.core.state.em.membership V positive; alone = subst (λ o. Alone o asking.candidate) (sym none) tt })

    voted : WorldMachine
    voted = update_vote nat_cmp entry_meaning config v now asking

    low : rejects_vote nat_cmp m.core.state (record { leader_id = record { term = m.core.state.vote.leader_id.term + 1; node_id = config.id }; committed = false }) ≡ false
    low = ap is_lt (later_vote m.core.state.vote config.id)

    z : Waits v asking voted
    z = waits v now asking p h low refl

    send : WorldCommand
    send = command.SendVote (record { vote = v; last_log_id = last m.core.state.ids })

    sent : Carried (setup_of first) t voted.core.state.vote.leader_id u W (voted.core.output.items ++ send ∷ []) (Knows (setup_of first) t.id voted)
    sent = push (setup_of first) t voted.core.state.vote.leader_id u W voted.core.output.items send (Knows (setup_of first) t.id voted) (Knows (setup_of first) t.id voted)
        (carried_pending first t config own u W v now asking p h r named refl (inl own) (λ _ _. none) begun)
        (λ V x y.
        let T : WorldStore = left_by u voted.core.output.items in
        let e : (V.store t.id).vote ≡ number v.leader_id = tail_vote (setup_of first) T (V.store t.id) voted.core.state x.store z.pending.in_step ∙ ap (λ (w : Vote ℕ). number w.leader_id) z.vote in
        let l : last voted.core.state.ids ≡ last m.core.state.ids = ap last z.ids in
        let may : IsCandidate (setup_of first) (V.store t.id) t.id = record {
          own = ap (setup_of first).owner e ∙ (number_node v.leader_id named ∙ own);
          not_committed = tail_vote_committed (setup_of first) T (V.store t.id) voted.core.state x.store z.pending.in_step ∙ ap (λ (w : Vote ℕ). w.committed) z.vote;
          positive = subst (λ d. 0 < d) (sym e) positive;
        } in
        let V2 : Ideal = does (setup_of first) V (RequestVotes t.id) in (
          V2,
          done_ask (setup_of first) t voted.core.state.vote.leader_id T (record { vote = v; last_log_id = last m.core.state.ids }) V x.store may refl named
              (subst IdNamed l (tail_last_named (setup_of first) T (V.store t.id) voted.core.state x.store z.pending.in_step z.sound))
              own e
              (tail_end (setup_of first) T (V.store t.id) voted.core.state x.store z.pending.in_step z.sound ∙ ap last_number l)
              (tail_length (setup_of first) T (V.store t.id) voted.core.state x.store z.pending.in_step ∙ ap next l),
          stable_in (setup_of first) t.id voted V V2 (does_one (setup_of first) V (RequestVotes t.id) may tt) refl y,
        ))

    done : WorldMachine
    done = on_core (λ c. update_role nat_cmp config (then_command c send)) voted

    asked : CarriedIn (setup_of first) t u W (on_core (λ c. update_role nat_cmp config (then_command c send)) voted)
    asked = carry (setup_of first) t voted.core.state.vote.leader_id u W (update_role nat_cmp config (then_command voted.core send)).output.items (Knows (setup_of first) t.id voted) (Knows (setup_of first) t.id (on_core (λ c. update_role nat_cmp config (then_command c send)) voted))
        (carried_role_waiting first t config u W (then_command voted.core send) (Knows (setup_of first) t.id voted) (ap (λ (w : Vote ℕ). w.committed) z.vote) (ends_unled (setup_of first) t.id voted (waits_unled v now asking low refl none)) sent)
        (λ V _ y. record { state = y.state; leader = if_some _ _ (λ l q. record { vote = q.vote; session = q.session; rows = q.rows; above = q.above }) voted.leader y.leader; candidate = y.candidate; alone = y.alone })
