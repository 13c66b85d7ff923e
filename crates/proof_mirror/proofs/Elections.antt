-- Votes, and new leaders.
use Rattle.std.proofs.Common.{ℕ, ◌+◌, ◌≡◌, true, false, List, [], ◌∷◌, ◌++◌, arith, refl, sym, ap, ◌∙◌, subst, Option, Some, None}
use Rattle.std.specs.Prelude.{if◌then◌else◌, ◌==◌, map, length, IfSome}
use Rattle.std.specs.Option.{option_to_list}
use Rattle.std.specs.declared.cmp.Ordering.{Ordering}
use Rattle.std.specs.declared.cmp.Ordering.TheVariants.{Less, Equal, Greater}
use Rattle.std.specs.Ordering.{is_eq, is_gt, is_lt, nat_cmp, bool_cmp, ordering_then}
use Rattle.std.proofs.lemmas.Bool.{cond_both, and_parts, both_ways}
use Rattle.std.proofs.lemmas.Bool.Decides.{nat_tests}
use Rattle.raft_state.specs.declared.config.RaftEntry
use Rattle.raft_state.specs.declared.ids.LogId.{LogId}
use Rattle.raft_state.specs.declared.ids.Vote.{Vote}
use Rattle.raft_state.specs.declared.membership.Members.{Members}
use Rattle.raft_state.specs.declared.state.RaftState.{RaftState}
use Rattle.raft_state.specs.Log.{last}
use Rattle.raft_state.specs.Members.{voter_ids, learner_ids}
use Rattle.raft_state.specs.Order.{next, last_id_cmp, leader_id_cmp, vote_cmp}
use Rattle.raft_state.specs.State.{is_leader, is_leading, by_last_leader}
use Rattle.raft_progress_entry.specs.Entry.{empty}
use Rattle.raft_progress.specs.Quorum.{is_quorum}
use Rattle.raft_progress.specs.Table.{row_ids}
use Rattle.raft_command.specs.declared.command.Command.{Command}
use Rattle.raft_command.specs.declared.command.Command.TheVariants as command
use Rattle.raft_command.specs.declared.config.EngineConfig.{EngineConfig}
use Rattle.raft_command.specs.declared.message.VoteResponse.{VoteResponse}
use Rattle.raft_proposer.specs.Candidate.{candidate_of, into_leader, grant_by, is_granted}
use Rattle.raft_steps.specs.Engine.{elect, lead_by_votes, take_rejection, take_grant, handle_vote_resp, may_establish, is_granted_to, as_uncommitted}
use Rattle.raft_steps.specs.EstablishHandler.{outvotes}
use Rattle.raft_proposer.specs.Leader.{assigned, leader_in}
use Rattle.raft_steps.specs.LeaderHandler.{proposed, last_proposed, joined, leader_append_entries}
use Rattle.raft_steps.specs.Parts.{Core, Led, Machine, then_command, with_state, under, on_core, leading, on_leader}
use Rattle.raft_proposer.specs.Joint.{JointLeader, JointCandidate}
use Rattle.raft_steps.specs.ReplicationHandler.{initiate_replication, rebuild_replication_streams}
use Rattle.raft_steps.specs.ServerStateHandler.{update_role}
use Rattle.raft_steps.specs.VoteHandler.{rejects_vote, take_vote, become_following, begin_lead, lead_anew, become_leader, update_internal_server_state, update_vote}
use Rattle.raft_steps.proofs.Ends.{by_last_leader_ends}
use Rattle.raft_steps.proofs.KeptLead.{each_of}
use Rattle.raft_steps.proofs.Leads.{one_id}
use Rattle.raft_steps.proofs.Marks.{internal_marks}
use Rattle.raft_store.specs.Store.{Store}
use Rattle.proof_mirror.specs.Ready.{Pending, SearchFits, KnowsLog, PendingLed, PendingIn, AsksAtEnd}
use Rattle.proof_mirror.proofs.Orders.{Orderly, order_begin}
use Rattle.proof_mirror.proofs.Proposes.{TakesId, one_membership, joined_ids, pending_propose, empty_fits}
use Rattle.proof_mirror.proofs.Queued.{step_alike, step_vote, after, awaits_one, awaits_idle, awaits_state, pending_role}
use Rattle.proof_mirror.proofs.Sends.{pending_rebuild}

module _ {C NID N E D R S : Type 0} (cmp : NID → NID → Ordering) where
  -- a new leader knows of its targets nothing
  fresh_knows : (vote : Vote NID) (m : Members NID N) (ids own : List (LogId NID)) → next (last own) ≡ next (last ids) → KnowsLog {C = C} {E = E} {D = D} {R = R} {S = S} ids (leader_in cmp vote m own)
  fresh_knows vote m ids own e = record {
    end = e;
    rows = each_of (λ row. SearchFits ids row.1) (λ id. (id, empty (next (last own)))) (λ id. subst (λ n. SearchFits ids (empty n)) (sym e) (empty_fits ids)) (voter_ids cmp m ++ learner_ids cmp m);
  }

  -- the leader that a candidate becomes
  pub made_knows : (c : JointCandidate NID) (ids : List (LogId NID)) → next c.last_log_id ≡ next (last ids) → KnowsLog {C = C} {N = N} {E = E} {D = D} {R = R} {S = S} ids (into_leader cmp c)
  made_knows c ids e =
      let q : next (last (option_to_list c.last_log_id)) ≡ next (last ids) = ap next (one_id c.last_log_id) ∙ e in
      record {
        end = q;
        rows = each_of (λ row. SearchFits ids row.1) (λ id. (id, empty (next (last (option_to_list c.last_log_id))))) (λ id. subst (λ n. SearchFits ids (empty n)) (sym q) (empty_fits ids)) (row_ids c.progress ++ c.learner_ids);
      }

-- a vote of a later term is above
module _ {NID : Type 0} (cmp : NID → NID → Ordering) where
  greater_is : (r : Ordering) → is_gt r ≡ true → r ≡ Greater
  greater_is Less e = cc
  greater_is Equal e = cc
  greater_is Greater e = refl

  more : (n : ℕ) → is_gt (nat_cmp (n + 1) n) ≡ true
  more n = grind (arith, nat_tests)

  later_term : (old v : Vote NID) → v.leader_id.term ≡ old.leader_id.term + 1 → vote_cmp cmp v old ≡ Greater
  later_term old v e =
      let q : nat_cmp v.leader_id.term old.leader_id.term ≡ Greater = ap (λ n. nat_cmp n old.leader_id.term) e ∙ greater_is (nat_cmp (old.leader_id.term + 1) old.leader_id.term) (more old.leader_id.term) in
      ap (λ r. ordering_then (ordering_then r (cmp v.leader_id.node_id old.leader_id.node_id)) (bool_cmp v.committed old.committed)) q

module _ {C NID N E D R S : Type 0} (cmp : NID → NID → Ordering) (entry : RaftEntry.Ghosts E NID N) (entries_in : S → List E) (config : EngineConfig NID) where
  -- a vote is queued exactly where it changes
  pub pending_vote : (t : Store NID N E) (v : Vote NID) (now : ℕ) (c : Core C NID N E D R S) → Pending cmp entry entries_in t c → Pending cmp entry entries_in t (take_vote cmp config v now c)
  pending_vote t v now c p =
      let T : Store NID N E = after cmp entry entries_in t c in
      cond_both (is_gt (vote_cmp cmp v c.state.vote)) (then_command (with_state c (record c.state { vote = v; time = Some now })) (command.SaveVote v)) (with_state c (record c.state { time = Some now })) (Pending cmp entry entries_in t)
      (λ e. awaits_one cmp entry entries_in t c.output.items (command.SaveVote v) c.state (record c.state { vote = v; time = Some now }) p
      (subst (λ w. is_gt (vote_cmp cmp v w) ≡ true) p.in_step.mirrors.log.vote_is e)
      (step_vote entry T c.state (record c.state { vote = v; time = Some now }) v (record { ids = refl; purged = refl; purge_to = refl; snap = refl; committed = refl; em = refl; cm = refl }) refl p.in_step))
      (λ _. awaits_state cmp entry entries_in t c.output.items c.state (record c.state { time = Some now }) p
      (step_alike entry T c.state (record c.state { time = Some now }) (record { ids = refl; purged = refl; purge_to = refl; snap = refl; committed = refl; em = refl; cm = refl }) refl p.in_step))

  pub vote_ids : (v : Vote NID) (now : ℕ) (c : Core C NID N E D R S) → (take_vote cmp config v now c).state.ids ≡ c.state.ids
  vote_ids v now c = cond_both (is_gt (vote_cmp cmp v c.state.vote)) (then_command (with_state c (record c.state { vote = v; time = Some now })) (command.SaveVote v)) (with_state c (record c.state { time = Some now })) (λ z. z.state.ids ≡ c.state.ids) (λ _. refl) (λ _. refl)

  pub pending_follow : (t : Store NID N E) (m : Machine C NID N E D R S) → Pending cmp entry entries_in t m.core → PendingIn cmp entry entries_in t (become_following cmp config m)
  unfolding become_following
  pending_follow t m p = record { core = pending_role cmp entry entries_in config t m.core p; knows = tt }

module _ {C NID N E D R S : Type 0} (cmp : NID → NID → Ordering) (entry : RaftEntry.Ghosts E NID N) (law : TakesId entry) (entries_in : S → List E) (config : EngineConfig NID) where
  role_led : (t : Store NID N E) (l : Led C NID N E D R S) → PendingLed cmp entry entries_in t l → PendingLed cmp entry entries_in t (under (update_role cmp config) l)
  unfolding update_role
  role_led t l p = record { core = pending_role cmp entry entries_in config t l.core p.core; knows = p.knows }

  blank_led : (t : Store NID N E) (x : LogId NID) (l : Led C NID N E D R S) → PendingLed cmp entry entries_in t l → Orderly cmp (leader_append_entries cmp entry config (entry.blank x ∷ []) l).core.state
      → PendingLed cmp entry entries_in t (leader_append_entries cmp entry config (entry.blank x ∷ []) l)
  blank_led t x l p o = pending_propose cmp entry entries_in config law t (entry.blank x ∷ []) l p (one_membership entry (entry.with_id (entry.blank x) (record { leader_id = l.leader.vote.leader_id; index = next l.leader.last_log_id }))) o

  pending_begin : (t : Store NID N E) (l : Led C NID N E D R S) → PendingLed cmp entry entries_in t l → Orderly cmp (begin_lead cmp entry config l).core.state → PendingLed cmp entry entries_in t (begin_lead cmp entry config l)
  unfolding begin_lead
  pending_begin t l p o =
      let led : Led C NID N E D R S = rebuild_replication_streams cmp config (under (update_role cmp config) l) in
      let q : PendingLed cmp entry entries_in t led = pending_rebuild cmp entry entries_in config t (under (update_role cmp config) l) (role_led t l p) in
      cond_both (is_lt (last_id_cmp cmp l.leader.last_log_id (Some l.leader.noop_log_id))) (leader_append_entries cmp entry config (entry.blank l.leader.noop_log_id ∷ []) led) led (λ z. Orderly cmp z.core.state → PendingLed cmp entry entries_in t z)
      (λ _ g. blank_led t l.leader.noop_log_id led q g) (λ _ _. q) o

  pending_anew : (t : Store NID N E) (m : Machine C NID N E D R S) → Pending cmp entry entries_in t m.core → Orderly cmp (lead_anew cmp entry config m).core.state → PendingIn cmp entry entries_in t (lead_anew cmp entry config m)
  unfolding lead_anew
  pending_anew t m p o =
      let s : RaftState NID N = m.core.state in
      let l : Led C NID N E D R S = record { leader = leader_in cmp s.vote s.em.membership (by_last_leader cmp s.ids); core = m.core } in
      let q : PendingLed cmp entry entries_in t (begin_lead cmp entry config l) = pending_begin t l (record { core = p; knows = fresh_knows cmp s.vote s.em.membership s.ids (by_last_leader cmp s.ids) (ap next (by_last_leader_ends cmp s.ids)) }) o in
      record { core = q.core; knows = q.knows }

  pub pending_become : (t : Store NID N E) (m : Machine C NID N E D R S) → PendingIn cmp entry entries_in t m → Orderly cmp (become_leader cmp entry config m).core.state → PendingIn cmp entry entries_in t (become_leader cmp entry config m)
  unfolding become_leader
  pending_become t m p o = go m.leader p.knows o where
    on_role : (l : JointLeader C NID N E D R S) → KnowsLog m.core.state.ids l → PendingIn cmp entry entries_in t (on_core (update_role cmp config) (record m { leader = Some (record l { vote = m.core.state.vote }) }))
    on_role l k = let q : PendingLed cmp entry entries_in t (under (update_role cmp config) (record { leader = record l { vote = m.core.state.vote }; core = m.core })) = role_led t (record { leader = record l { vote = m.core.state.vote }; core = m.core }) (record { core = p.core; knows = record { end = k.end; rows = k.rows } }) in
        record { core = q.core; knows = q.knows }

    led_by : Option (JointLeader C NID N E D R S) → Machine C NID N E D R S
    led_by o = elim o [
      | None ↦ lead_anew cmp entry config m
      | Some l ↦
          (if is_eq (leader_id_cmp cmp l.vote.leader_id m.core.state.vote.leader_id)
          then on_core (update_role cmp config) (record m { leader = Some (record l { vote = m.core.state.vote }) })
          else lead_anew cmp entry config m)
    ]

    go : (o : Option (JointLeader C NID N E D R S)) → IfSome o (KnowsLog m.core.state.ids) → Orderly cmp (led_by o).core.state → PendingIn cmp entry entries_in t (led_by o)
    go None k g = pending_anew t m p.core g
    go (Some l) k g =
        cond_both (is_eq (leader_id_cmp cmp l.vote.leader_id m.core.state.vote.leader_id)) (on_core (update_role cmp config) (record m { leader = Some (record l { vote = m.core.state.vote }) })) (lead_anew cmp entry config m) (λ z. Orderly cmp z.core.state → PendingIn cmp entry entries_in t z)
        (λ _ _. on_role l k) (λ _ h. pending_anew t m p.core h) g

  pub pending_internal : (t : Store NID N E) (m : Machine C NID N E D R S) → PendingIn cmp entry entries_in t m → Orderly cmp (update_internal_server_state cmp entry config m).core.state → PendingIn cmp entry entries_in t (update_internal_server_state cmp entry config m)
  unfolding update_internal_server_state
  pending_internal t m p o =
      cond_both (is_leader cmp m.core.state config.id) (become_leader cmp entry config m) (if is_leading cmp m.core.state config.id then m else become_following cmp config m) (λ z. Orderly cmp z.core.state → PendingIn cmp entry entries_in t z)
      (λ _ g. pending_become t m p g)
      (λ _ _. cond_both (is_leading cmp m.core.state config.id) m (become_following cmp config m) (PendingIn cmp entry entries_in t) (λ _. p) (λ _. pending_follow cmp entry entries_in config t m p.core))
      o

  taken_in : (t : Store NID N E) (v : Vote NID) (now : ℕ) (m : Machine C NID N E D R S) → PendingIn cmp entry entries_in t m → PendingIn cmp entry entries_in t (on_core (take_vote cmp config v now) m)
  taken_in t v now m p = record {
    core = pending_vote cmp entry entries_in config t v now m.core p.core;
    knows = subst (λ ids. IfSome m.leader (KnowsLog ids)) (sym (vote_ids cmp entry entries_in config v now m.core)) p.knows;
  }

  -- a vote is taken
  pub pending_update_vote : (t : Store NID N E) (v : Vote NID) (now : ℕ) (m : Machine C NID N E D R S) → PendingIn cmp entry entries_in t m → Orderly cmp (update_vote cmp entry config v now m).core.state → PendingIn cmp entry entries_in t (update_vote cmp entry config v now m)
  unfolding update_vote
  pending_update_vote t v now m p o =
      cond_both (rejects_vote cmp m.core.state v) m (update_internal_server_state cmp entry config (on_core (take_vote cmp config v now) m)) (λ z. Orderly cmp z.core.state → PendingIn cmp entry entries_in t z)
      (λ _ _. p) (λ _ g. pending_internal t (on_core (take_vote cmp config v now) m) (taken_in t v now m p) g) o

  -- a greater vote is the state's then
  raised_vote : (v : Vote NID) (now : ℕ) (c : Core C NID N E D R S) → vote_cmp cmp v c.state.vote ≡ Greater → (take_vote cmp config v now c).state.vote ≡ v
  raised_vote v now c e = ap (λ r. let q : Core C NID N E D R S = if is_gt r then then_command (with_state c (record c.state { vote = v; time = Some now })) (command.SaveVote v) else with_state c (record c.state { time = Some now }) in q.state.vote) e

  greater_taken : (v : Vote NID) (now : ℕ) (m : Machine C NID N E D R S) → vote_cmp cmp v m.core.state.vote ≡ Greater → (update_vote cmp entry config v now m).core.state.vote ≡ v
  unfolding update_vote
  greater_taken v now m e =
      let w : Machine C NID N E D R S = on_core (take_vote cmp config v now) m in
      ap (λ r. let q : Machine C NID N E D R S = if is_lt r then m else update_internal_server_state cmp entry config w in q.core.state.vote) e
      ∙ ((internal_marks cmp entry config w).vote ∙ raised_vote v now m.core e)

  -- under a vote that isn't committed a node waits, or follows
  pending_waits : (t : Store NID N E) (m : Machine C NID N E D R S) → m.core.state.vote.committed ≡ false → PendingIn cmp entry entries_in t m → PendingIn cmp entry entries_in t (update_internal_server_state cmp entry config m)
  unfolding update_internal_server_state
  pending_waits t m e p =
      cond_both (is_leader cmp m.core.state config.id) (become_leader cmp entry config m) (if is_leading cmp m.core.state config.id then m else become_following cmp config m) (PendingIn cmp entry entries_in t)
      (λ l. absurd (both_ways m.core.state.vote.committed e (and_parts (is_leading cmp m.core.state config.id) m.core.state.vote.committed l).1))
      (λ _. cond_both (is_leading cmp m.core.state config.id) m (become_following cmp config m) (PendingIn cmp entry entries_in t) (λ _. p) (λ _. pending_follow cmp entry entries_in config t m p.core))

  -- a greater vote that isn't committed
  pending_raised : (t : Store NID N E) (v : Vote NID) (now : ℕ) (m : Machine C NID N E D R S) → vote_cmp cmp v m.core.state.vote ≡ Greater → v.committed ≡ false → PendingIn cmp entry entries_in t m → PendingIn cmp entry entries_in t (update_vote cmp entry config v now m)
  unfolding update_vote
  pending_raised t v now m g e p =
      let w : Machine C NID N E D R S = on_core (take_vote cmp config v now) m in
      cond_both (rejects_vote cmp m.core.state v) m (update_internal_server_state cmp entry config w) (PendingIn cmp entry entries_in t)
      (λ _. p) (λ _. pending_waits t w (ap (λ (u : Vote NID). u.committed) (raised_vote v now m.core g) ∙ e) (taken_in t v now m p))

  -- a node that votes for itself
  pub pending_elect : (t : Store NID N E) (now : ℕ) (m : Machine C NID N E D R S) → PendingIn cmp entry entries_in t m → PendingIn cmp entry entries_in t (elect cmp entry config now m)
  unfolding elect update_role
  pending_elect t now m p =
      let s : RaftState NID N = m.core.state in
      let v : Vote NID = record { leader_id = record { term = s.vote.leader_id.term + 1; node_id = config.id }; committed = false } in
      let asked : Machine C NID N E D R S = record m { candidate = Some (candidate_of cmp now v (last s.ids) s.em.membership) } in
      let voted : Machine C NID N E D R S = update_vote cmp entry config v now asked in
      let send : Command C NID N E D R S = command.SendVote (record { vote = v; last_log_id = last s.ids }) in
      let q : PendingIn cmp entry entries_in t voted = pending_raised t v now asked (later_term cmp s.vote v refl) refl (record { core = p.core; knows = p.knows }) in
      let e : v ≡ (after cmp entry entries_in t voted.core).vote = sym (greater_taken v now asked (later_term cmp s.vote v refl)) ∙ q.core.in_step.mirrors.log.vote_is in
      let r : Pending cmp entry entries_in t (then_command voted.core send) = awaits_idle cmp entry entries_in t voted.core.output.items (send ∷ []) voted.core.state voted.core.state q.core (refl, e, tt) q.core.in_step in
      record { core = pending_role cmp entry entries_in config t (then_command voted.core send) r; knows = q.knows }

  -- what is in order once a leader has proposed was so before
  proposed_from : (es : List E) (l : Led C NID N E D R S) → Orderly cmp (leader_append_entries cmp entry config es l).core.state → Orderly cmp l.core.state
  unfolding leader_append_entries proposed
  proposed_from es l o =
      cond_both (length es == 0) l (initiate_replication cmp config false (joined cmp config (last_proposed entry l.leader es) (proposed entry es l))) (λ z. Orderly cmp z.core.state → Orderly cmp l.core.state)
      (λ _ g. g)
      (λ _ g. order_begin cmp l.core.state.vote.leader_id l.core.state.ids (map entry.id_of (assigned entry l.leader es)) (joined_ids cmp entry entries_in config (last_proposed entry l.leader es) (proposed entry es l) g))
      o

  blank_on : (t : Store NID N E) (x : LogId NID) (w : Machine C NID N E D R S) → (Orderly cmp w.core.state → PendingIn cmp entry entries_in t w) → Orderly cmp (on_leader (leader_append_entries cmp entry config (entry.blank x ∷ [])) w).core.state
      → PendingIn cmp entry entries_in t (on_leader (leader_append_entries cmp entry config (entry.blank x ∷ [])) w)
  blank_on t x w p o = go w.leader (λ g. (p g).knows) o where
    grown : Option (JointLeader C NID N E D R S) → Machine C NID N E D R S
    grown o = elim o [ None ↦ w | Some l ↦ leading w (leader_append_entries cmp entry config (entry.blank x ∷ []) (record { leader = l; core = w.core })) ]

    go : (o : Option (JointLeader C NID N E D R S)) → (Orderly cmp w.core.state → IfSome o (KnowsLog w.core.state.ids)) → Orderly cmp (grown o).core.state → PendingIn cmp entry entries_in t (grown o)
    go None k g = p g
    go (Some l) k g =
        let led : Led C NID N E D R S = record { leader = l; core = w.core } in
        let b : Orderly cmp w.core.state = proposed_from (entry.blank x ∷ []) led g in
        let q : PendingLed cmp entry entries_in t (leader_append_entries cmp entry config (entry.blank x ∷ []) led) = blank_led t x led (record { core = (p b).core; knows = k b }) g in
        record { core = q.core; knows = q.knows }

  pub pending_lead : (t : Store NID N E) (c : JointCandidate NID) (now : ℕ) (m : Machine C NID N E D R S) → PendingIn cmp entry entries_in t m → AsksAtEnd cmp m.core.state c → Orderly cmp (lead_by_votes cmp entry config c now m).core.state → PendingIn cmp entry entries_in t (lead_by_votes cmp entry config c now m)
  unfolding lead_by_votes
  pending_lead t c now m p a o =
      let l : JointLeader C NID N E D R S = into_leader cmp c in
      let used : Machine C NID N E D R S = record m { candidate = None } in
      let made : Led C NID N E D R S = record { leader = l; core = m.core } in
      let led : Machine C NID N E D R S = leading used (rebuild_replication_streams cmp config made) in
      cond_both (may_establish cmp m.core.state m.leader c) (on_leader (leader_append_entries cmp entry config (entry.blank l.noop_log_id ∷ [])) (update_vote cmp entry config l.vote now led)) used (λ z. Orderly cmp z.core.state → PendingIn cmp entry entries_in t z)
      (λ e g.
      let k : KnowsLog m.core.state.ids l = made_knows cmp c m.core.state.ids (a (and_parts (is_eq (vote_cmp cmp c.vote m.core.state.vote)) (outvotes cmp m.leader c) e).0) in
      let q : PendingLed cmp entry entries_in t (rebuild_replication_streams cmp config made) = pending_rebuild cmp entry entries_in config t made (record { core = p.core; knows = k }) in
      blank_on t l.noop_log_id (update_vote cmp entry config l.vote now led) (pending_update_vote t l.vote now led (record { core = q.core; knows = q.knows })) g)
      (λ _ _. record { core = p.core; knows = p.knows })
      o

  pending_grant : (t : Store NID N E) (c : JointCandidate NID) (target : NID) (now : ℕ) (m : Machine C NID N E D R S) → PendingIn cmp entry entries_in t m → AsksAtEnd cmp m.core.state c → Orderly cmp (take_grant cmp entry config c target now m).core.state
      → PendingIn cmp entry entries_in t (take_grant cmp entry config c target now m)
  unfolding take_grant
  pending_grant t c target now m p a o =
      let granted : JointCandidate NID = grant_by cmp c target in
      cond_both (is_granted (is_quorum cmp) granted) (lead_by_votes cmp entry config granted now m) (record m { candidate = Some granted }) (λ z. Orderly cmp z.core.state → PendingIn cmp entry entries_in t z)
      (λ _ g. pending_lead t granted now m p a g)
      (λ _ _. record { core = p.core; knows = p.knows })
      o

  pending_rejection : (t : Store NID N E) (resp : VoteResponse NID) (now : ℕ) (m : Machine C NID N E D R S) → PendingIn cmp entry entries_in t m → Orderly cmp (take_rejection cmp entry config resp now m).core.state → PendingIn cmp entry entries_in t (take_rejection cmp entry config resp now m)
  unfolding take_rejection
  pending_rejection t resp now m p o = pending_update_vote t (as_uncommitted resp.vote) now m p o

  pub pending_vote_resp : (t : Store NID N E) (target : NID) (resp : VoteResponse NID) (now : ℕ) (m : Machine C NID N E D R S) → PendingIn cmp entry entries_in t m → IfSome m.candidate (AsksAtEnd cmp m.core.state) → Orderly cmp (handle_vote_resp cmp entry config target resp now m).core.state
      → PendingIn cmp entry entries_in t (handle_vote_resp cmp entry config target resp now m)
  unfolding handle_vote_resp
  pending_vote_resp t target resp now m p a o = go m.candidate a o where
    heard : Option (JointCandidate NID) → Machine C NID N E D R S
    heard o = elim o [
      | None ↦ m
      | Some c ↦ (if is_granted_to cmp resp c.vote then take_grant cmp entry config c target now m else take_rejection cmp entry config resp now m)
    ]

    go : (o : Option (JointCandidate NID)) → IfSome o (AsksAtEnd cmp m.core.state) → Orderly cmp (heard o).core.state → PendingIn cmp entry entries_in t (heard o)
    go None a g = p
    go (Some c) a g =
        cond_both (is_granted_to cmp resp c.vote) (take_grant cmp entry config c target now m) (take_rejection cmp entry config resp now m) (λ z. Orderly cmp z.core.state → PendingIn cmp entry entries_in t z)
        (λ _ h. pending_grant t c target now m p a h) (λ _ h. pending_rejection t resp now m p h) g
