-- An engine that starts: a node that was leader leads anew at once; and how a leader steps down.
use Rattle.std.proofs.Common.{ℕ, ◌≡◌, true, false, [], ◌∷◌, ◌++◌, refl, sym, ap, ◌∙◌, subst, Option, None, Some}
use Rattle.std.specs.Prelude.{IfSome, if◌then◌else◌}
use Rattle.std.specs.List.{AllByRecursion}
use Rattle.std.specs.Ordering.{is_eq, is_ge, is_lt, nat_cmp}
use Rattle.std.specs.Cmp.{tied_itself}
use Rattle.std.proofs.lemmas.Bool.{and_parts, both_ways, cond_both}
use Rattle.std.proofs.lemmas.Cmp.{nat_cmp_total}
use Rattle.raft_node.specs.raft_state.declared.ids.LogId.{LogId}
use Rattle.raft_node.specs.raft_state.declared.ids.Vote.{Vote}
use Rattle.raft_node.specs.raft_state.declared.membership.Members.{Members}
use Rattle.raft_node.specs.raft_state.Fits.{fits}
use Rattle.raft_node.specs.raft_state.Invariants.{IsSoundState}
use Rattle.raft_node.specs.raft_state.Log.{last, at}
use Rattle.raft_node.specs.raft_state.Members.{voter_ids, learner_ids}
use Rattle.raft_node.specs.raft_state.Order.{next, last_id_cmp, leader_id_cmp}
use Rattle.raft_node.specs.raft_state.Same.{nat_same}
use Rattle.raft_node.specs.raft_state.State.{by_last_leader, is_found, is_leader, is_leading}
use Rattle.raft_node.proofs.raft_state_proofs.StateLaws.{is_found_at}
use Rattle.raft_node.proofs.raft_state_proofs.Orders.{leader_total}
use Rattle.raft_node.specs.raft_progress_entry.declared.entry.ProgressEntry.{ProgressEntry}
use Rattle.raft_node.specs.raft_progress_entry.Entry.{empty}
use Rattle.raft_node.specs.raft_command.declared.config.EngineConfig.{EngineConfig}
use Rattle.raft_node.specs.raft_error.declared.error.EngineError.TheVariants.{IndexEnd, Spent}
use Rattle.raft_node.specs.raft_steps.Refusals.{refusals_of_spent, is_spent, refusals_of_lead, blank_is_at_end}
use Rattle.raft_node.specs.raft_steps.Invariants.{IsSound, IsSoundLed, LeaderFits}
use Rattle.raft_node.specs.raft_proposer.Leader.{leader_in}
use Rattle.raft_node.specs.raft_steps.LeaderHandler.{leader_append_entries, proposed}
use Rattle.raft_node.specs.raft_steps.Parts.{leading, under, with_state, on_core, on_leader}
use Rattle.raft_node.specs.raft_progress.Table.{get}
use Rattle.raft_node.specs.raft_steps.ReplicationHandler.{own_matched, with_entry, commit_granted, rebuild_replication_streams, initiate_replication, update_local_progress}
use Rattle.raft_node.specs.raft_steps.ServerStateHandler.{update_role}
use Rattle.raft_node.specs.raft_steps.Starts.{started_role, is_settled, lead_on, startup, leader_step_down, refusals_of_step_down}
use Rattle.raft_node.specs.raft_steps.VoteHandler.{become_following, begin_lead, lead_anew, become_leader, update_internal_server_state}
use Rattle.raft_node.proofs.raft_steps_proofs.Ends.{by_last_leader_ends}
use Rattle.raft_node.proofs.raft_steps_proofs.Kept.{TakesIds}
use Rattle.raft_node.proofs.raft_steps_proofs.KeptEngine.{internal_is_sound}
use Rattle.raft_node.proofs.raft_steps_proofs.KeptLead.{each_of}
use Rattle.raft_node.proofs.raft_steps_proofs.Unrefused.{second_fails}
use Rattle.proof_agreement.specs.Deeds.{BuildStreams, does, Leads}
use Rattle.raft_node.specs.raft_store.Entries.{entry_meaning}
use Rattle.raft_node.specs.raft_store.Types.{WorldStore, WorldMachine, WorldLeader}
use Rattle.proof_mirror.specs.Ready.{Ordered, PendingLed, PendingIn, SearchFits}
use Rattle.proof_mirror.proofs.Elections.{pending_internal}
use Rattle.proof_mirror.proofs.Orders.{Orderly, in_order}
use Rattle.proof_mirror.proofs.Proposes.{TakesId, empty_fits}
use Rattle.proof_mirror.proofs.Queued.{pending_role}
use Rattle.proof_mirror.proofs.Replying.{pending_own}
use Rattle.proof_mirror.proofs.Sends.{pending_rebuild}
use Rattle.raft_node.specs.declared.node.Turn.{Turn}
use Rattle.raft_node.specs.raft_calls.Feeds.{WorldLed}
use Rattle.proof_deeds.proofs.Noops.{anew_above}
use Rattle.proof_deeds.specs.Chains.{Reached, Carried, left_by}
use Rattle.proof_deeds.specs.Images.{Ideal, number, setup_of}
use Rattle.proof_deeds.specs.Knows.{CarriedIn, Knows, KnowsAccepted, KnowsGrants, KnowsLed, KnowsMatch, Stands, StaysAbove}
use Rattle.proof_deeds.proofs.Acknowledging.{carried_local}
use Rattle.proof_deeds.proofs.Keeps.{ends_accepted, stable_accepted, known_accepted, above_on}
use Rattle.proof_deeds.proofs.LeaderSends.{machine_of_led, led_of_machine, no_candidate, stable_led, KnowsIn, CarriedLed, Owns, owns_of, carried_initiate}
use Rattle.proof_deeds.proofs.Proposing.{carried_append}
use Rattle.proof_deeds.proofs.Pushes.{carry}
use Rattle.proof_deeds.proofs.Quorums.{means_setup}
use Rattle.proof_deeds.proofs.Rebuilding.{carried_rebuilt, built_keeps, built_session, fresh_rows}
use Rattle.proof_deeds.proofs.Roles.{WorldState, carried_role, names_node, role_of_leader, WorldCore, tail_leads}
use Rattle.proof_deeds.proofs.SnapshotLaws.{Waits, carried_state}
use Rattle.proof_deeds.proofs.Tails.{last_stands}
use Rattle.proof_deeds.proofs.Voting.{carried_following}
use Rattle.proof_deeds.proofs.Worlds.{within_does, does_one, does_then}

takes_id : TakesId entry_meaning
takes_id e x = refl

pub last_fits : (st : WorldState) → IsSoundState nat_cmp st → fits nat_cmp st.ids st.purged (last st.ids) ≡ true
last_fits st h = go (last st.ids) refl where
  go : (o : Option (LogId ℕ)) → last st.ids ≡ o → fits nat_cmp st.ids st.purged o ≡ true
  go None e = refl
  go (Some x) e = let f : is_found nat_cmp (at st.ids x.index) x ≡ true = is_found_at nat_cmp nat_cmp_total nat_same st.ids x (at st.ids x.index) (last_stands _ st.ids x h.log.run e) in rw f refl

takes_ids : TakesIds entry_meaning
takes_ids e x = (refl, refl)

module _ (first : Members ℕ (Unit {0})) (t : Turn) (config : EngineConfig ℕ) (own : config.id ≡ t.id) (u : WorldStore) (W : Ideal) (reached : Reached (setup_of first) W) where
  module _ (m : WorldMachine) (p : Waits u m.core) (ordered : Ordered nat_cmp entry_meaning u) (leads : is_leader nat_cmp m.core.state config.id ≡ true) where
    abbrev l : WorldLed
    l = record { leader = leader_in nat_cmp m.core.state.vote m.core.state.em.membership (by_last_leader nat_cmp m.core.state.ids); core = m.core }

    abbrev led : WorldLed
    led = rebuild_replication_streams nat_cmp config (under (update_role nat_cmp config) l)

    ends : next (last (by_last_leader nat_cmp m.core.state.ids)) ≡ next (last m.core.state.ids)
    ends = ap next (by_last_leader_ends nat_cmp m.core.state.ids)

    p1 : PendingLed nat_cmp entry_meaning (λ es. es) u (under (update_role nat_cmp config) l)
    unfolding update_role
    p1 = record {
      core = pending_role nat_cmp entry_meaning (λ es. es) config u m.core p;
      knows = record {
        end = ends;
        rows = each_of (λ row. SearchFits m.core.state.ids row.1) (λ id. (id, empty (next (last (by_last_leader nat_cmp m.core.state.ids))))) (λ id. subst (λ n. SearchFits m.core.state.ids (empty n)) (sym ends) (empty_fits m.core.state.ids)) (voter_ids nat_cmp m.core.state.em.membership ++ learner_ids nat_cmp m.core.state.em.membership);
      };
    }

    p2 : PendingLed nat_cmp entry_meaning (λ es. es) u (rebuild_replication_streams nat_cmp config (under (update_role nat_cmp config) l))
    p2 = pending_rebuild nat_cmp entry_meaning (λ es. es) config u (under (update_role nat_cmp config) l) p1

    mine : m.core.state.vote.leader_id.node_id ≡ t.id
    mine = names_node m.core.state config.id (and_parts (is_leading nat_cmp m.core.state config.id) m.core.state.vote.committed leads).0 ∙ own

    -- what is known of it before its streams are built
    abbrev Begins : Ideal → Type 0
    Begins V = KnowsAccepted (setup_of first) t.id m.core.state V × StaysAbove (setup_of first) V (number m.core.state.vote.leader_id) l.leader.noop_log_id.index

    -- its streams are built
    carried_led : Carried (setup_of first) t m.core.state.vote.leader_id u W m.core.output.items (KnowsAccepted (setup_of first) t.id m.core.state)
        → Carried (setup_of first) t m.core.state.vote.leader_id u W (rebuild_replication_streams nat_cmp config (under (update_role nat_cmp config) l)).core.output.items (KnowsIn (setup_of first) t led)
    unfolding rebuild_replication_streams update_role
    carried_led h =
        let role : WorldCore = update_role nat_cmp config m.core in
        carried_rebuilt (setup_of first) t config own u W (under (update_role nat_cmp config) l) Begins (KnowsIn (setup_of first) t led) p1.core.in_step (λ _ _. mine)
        (λ V k.
        let X : Ideal = does (setup_of first) V (BuildStreams t.id) in (
          known_accepted (setup_of first) t.id V X (within_does (setup_of first) V (BuildStreams t.id) tt) m.core.state (built_keeps (setup_of first) t.id V) k.0,
          record {
            vote = refl;
            session = built_session (setup_of first) t.id V;
            rows = fresh_rows (setup_of first) t config own u W (number m.core.state.vote.leader_id) X _ _;
            above = above_on (setup_of first) t.id V X (does_one (setup_of first) V (BuildStreams t.id) tt tt) (number m.core.state.vote.leader_id) l.leader.noop_log_id.index k.1;
          },
        ))
        (carry (setup_of first) t m.core.state.vote.leader_id u W role.output.items (KnowsAccepted (setup_of first) t.id m.core.state) Begins
        (carried_role first t config u W m.core (KnowsAccepted (setup_of first) t.id m.core.state) own p.in_step (stable_accepted (setup_of first) t.id m.core.state) (λ _. ends_accepted (setup_of first) t.id m.core.state) h)
        (λ V x k.
        let T : WorldStore = left_by u role.output.items in
        let leads : Leads (setup_of first) (V.store t.id) t.id = tail_leads first t T (V.store t.id) role.state x.store p1.core.in_step (subst (λ id. is_leader nat_cmp m.core.state id ≡ true) own leads) in
        (k, anew_above (setup_of first) t.id T V (does_then (setup_of first) _ W V reached x.came) role.state x.store p1.core.in_step leads m.core.state.vote refl)))

    -- and its blank entry is proposed, where the log has none of its leader
    pub carried_anew : m.candidate ≡ None → Orderly nat_cmp (lead_anew nat_cmp entry_meaning config m).core.state → CarriedIn (setup_of first) t u W m → CarriedIn (setup_of first) t u W (lead_anew nat_cmp entry_meaning config m)
    unfolding lead_anew begin_lead rebuild_replication_streams update_role leader_append_entries proposed initiate_replication
    carried_anew none o h =
        cond_both (is_lt (last_id_cmp nat_cmp l.leader.last_log_id (Some l.leader.noop_log_id))) (leader_append_entries nat_cmp entry_meaning config (entry_meaning.blank l.leader.noop_log_id ∷ []) led) led
        (λ (z : WorldLed). Orderly nat_cmp z.core.state → CarriedIn (setup_of first) t u W (leading m z))
        (λ _ g. moved (leader_append_entries nat_cmp entry_meaning config (entry_meaning.blank l.leader.noop_log_id ∷ []) led)
        (carried_append (setup_of first) (means_setup first) t config own u W reached ordered (entry_meaning.blank l.leader.noop_log_id ∷ []) led p2 (record { committed = committed; own = mine }) (refl, tt) g base))
        (λ _ _. moved led base) o
      where
        committed : m.core.state.vote.committed ≡ true
        committed = (and_parts (is_leading nat_cmp m.core.state config.id) m.core.state.vote.committed leads).1

        base : Carried (setup_of first) t m.core.state.vote.leader_id u W led.core.output.items (KnowsIn (setup_of first) t led)
        base = carried_led (carry (setup_of first) t m.core.state.vote.leader_id u W m.core.output.items (Knows (setup_of first) t.id m) (KnowsAccepted (setup_of first) t.id m.core.state) h (λ V _ k. k.state))

        moved : (z : WorldLed) → Carried (setup_of first) t z.core.state.vote.leader_id u W z.core.output.items (KnowsIn (setup_of first) t z) → CarriedIn (setup_of first) t u W (leading m z)
        moved z k = machine_of_led (setup_of first) t u W m z none k

  module _ (m : WorldMachine) (p : PendingIn nat_cmp entry_meaning (λ es. es) u m) (sound : IsSound nat_cmp config m) (ordered : Ordered nat_cmp entry_meaning u) (full : blank_is_at_end nat_cmp config m.core.state.vote m ≡ false) where
    inner_sound : IsSound nat_cmp config (update_internal_server_state nat_cmp entry_meaning config m)
    inner_sound = internal_is_sound nat_cmp nat_cmp_total nat_same entry_meaning takes_ids config m full sound

    orderly : Orderly nat_cmp (update_internal_server_state nat_cmp entry_meaning config m).core.state
    orderly =
        let st : WorldState = (update_internal_server_state nat_cmp entry_meaning config m).core.state in
        in_order nat_cmp st.vote.leader_id st.ids st.purged inner_sound.sound.log

    -- a leader of the state's vote keeps its place
    on_role : is_leader nat_cmp m.core.state config.id ≡ true → (l : WorldLeader) → m.leader ≡ Some l → CarriedIn (setup_of first) t u W m → CarriedIn (setup_of first) t u W (on_core (update_role nat_cmp config) (record m { leader = Some (record l { vote = m.core.state.vote }) }))
    unfolding update_role
    on_role leads l e h =
        carry (setup_of first) t m.core.state.vote.leader_id u W n.core.output.items (KnowsIn (setup_of first) t z) (Knows (setup_of first) t.id n)
        (carried_role first t config u W m.core (KnowsIn (setup_of first) t z) own p.core.in_step (stable_led (setup_of first) t z) (λ f. absurd (f (role_of_leader m.core.state config.id leads)))
        (carry (setup_of first) t m.core.state.vote.leader_id u W m.core.output.items (Knows (setup_of first) t.id m) (KnowsIn (setup_of first) t z) h
        (λ V _ k.
        let q : KnowsLed (setup_of first) t.id m.core.state l V = subst (λ o. IfSome o (λ l. KnowsLed (setup_of first) t.id m.core.state l V)) e k.leader in
        (k.state, record { vote = refl; session = q.session; rows = subst (λ (v : Vote ℕ). AllByRecursion (KnowsMatch t.id (number v.leader_id) V) l.progress.rows) q.vote q.rows; above = subst (λ (v : Vote ℕ). StaysAbove (setup_of first) V (number v.leader_id) l.noop_log_id.index) q.vote q.above }))))
        (λ V _ k. record {
          state = k.0;
          leader = record { vote = k.1.vote; session = k.1.session; rows = k.1.rows; above = k.1.above };
          candidate = subst (λ c. IfSome c (λ c. KnowsGrants t.id c V)) (sym none) tt;
          alone = none;
        })
      where
        z : WorldLed
        z = record { leader = record l { vote = m.core.state.vote }; core = m.core }

        n : WorldMachine
        n = on_core (update_role nat_cmp config) (record m { leader = Some (record l { vote = m.core.state.vote }) })

        none : m.candidate ≡ None
        none = no_candidate (setup_of first) t u W m l e h

    -- a node leads, waits for votes, or follows
    pub carried_internal : (m.leader ≡ None → m.candidate ≡ None) → CarriedIn (setup_of first) t u W m → CarriedIn (setup_of first) t u W (update_internal_server_state nat_cmp entry_meaning config m)
    unfolding update_internal_server_state become_leader
    carried_internal alone h =
        cond_both (is_leader nat_cmp m.core.state config.id) (become_leader nat_cmp entry_meaning config m) (if is_leading nat_cmp m.core.state config.id then m else become_following nat_cmp config m)
        (λ (z : WorldMachine). Orderly nat_cmp z.core.state → CarriedIn (setup_of first) t u W z)
        (λ leads o. go leads m.leader refl o)
        (λ _ _. cond_both (is_leading nat_cmp m.core.state config.id) m (become_following nat_cmp config m) (CarriedIn (setup_of first) t u W) (λ _. h)
        (λ _. carried_following first t config own u W m p.core.in_step (carry (setup_of first) t m.core.state.vote.leader_id u W m.core.output.items (Knows (setup_of first) t.id m) (KnowsAccepted (setup_of first) t.id m.core.state) h (λ V _ k. k.state))))
        orderly
      where
        go : is_leader nat_cmp m.core.state config.id ≡ true → (o : Option WorldLeader) → m.leader ≡ o
            → Orderly nat_cmp (elim o as (λ _. WorldMachine) [
              | None ↦ lead_anew nat_cmp entry_meaning config m
              | Some l ↦
                  (if is_eq (leader_id_cmp nat_cmp l.vote.leader_id m.core.state.vote.leader_id)
                  then on_core (update_role nat_cmp config) (record m { leader = Some (record l { vote = m.core.state.vote }) })
                  else lead_anew nat_cmp entry_meaning config m)
            ]).core.state
            → CarriedIn (setup_of first) t u W (elim o as (λ _. WorldMachine) [
              | None ↦ lead_anew nat_cmp entry_meaning config m
              | Some l ↦
                  (if is_eq (leader_id_cmp nat_cmp l.vote.leader_id m.core.state.vote.leader_id)
                  then on_core (update_role nat_cmp config) (record m { leader = Some (record l { vote = m.core.state.vote }) })
                  else lead_anew nat_cmp entry_meaning config m)
            ])
        go leads None e o = carried_anew m p.core ordered leads (alone e) o h
        go leads (Some l) e o =
            let q : KnowsLed (setup_of first) t.id m.core.state l h.end = subst (λ o. IfSome o (λ l. KnowsLed (setup_of first) t.id m.core.state l h.end)) e h.knows.leader in
            let same : is_eq (leader_id_cmp nat_cmp l.vote.leader_id m.core.state.vote.leader_id) ≡ true = ap (λ (v : Vote ℕ). is_eq (leader_id_cmp nat_cmp v.leader_id m.core.state.vote.leader_id)) q.vote ∙ ap is_eq (tied_itself (leader_total nat_cmp nat_cmp_total) m.core.state.vote.leader_id) in
            cond_both (is_eq (leader_id_cmp nat_cmp l.vote.leader_id m.core.state.vote.leader_id)) (on_core (update_role nat_cmp config) (record m { leader = Some (record l { vote = m.core.state.vote }) })) (lead_anew nat_cmp entry_meaning config m) (CarriedIn (setup_of first) t u W)
            (λ _. on_role leads l e h) (λ f. absurd (both_ways (is_eq (leader_id_cmp nat_cmp l.vote.leader_id m.core.state.vote.leader_id)) f same))

  -- it stands then
  pub internal_stands : (m : WorldMachine) → Stands (setup_of first) t config u W m → blank_is_at_end nat_cmp config m.core.state.vote m ≡ false → (m.leader ≡ None → m.candidate ≡ None)
      → Stands (setup_of first) t config u W (update_internal_server_state nat_cmp entry_meaning config m)
  internal_stands m h full alone = record {
    id = h.id;
    node = h.node;
    reached = h.reached;
    ordered = h.ordered;
    sound = inner_sound m h.pending h.sound h.ordered full;
    pending = pending_internal nat_cmp entry_meaning takes_id (λ es. es) config u m h.pending (orderly m h.pending h.sound h.ordered full);
    carried = carried_internal m h.pending h.sound h.ordered full alone h.carried;
  }

  -- once the effective membership is committed, a leader that is no member follows
  pub carried_step_down : (m : WorldMachine) → PendingIn nat_cmp entry_meaning (λ es. es) u m → IsSound nat_cmp config m → Ordered nat_cmp entry_meaning u → refusals_of_step_down nat_cmp config m ≡ None → (m.leader ≡ None → m.candidate ≡ None)
      → CarriedIn (setup_of first) t u W m → CarriedIn (setup_of first) t u W (leader_step_down nat_cmp entry_meaning config m)
  unfolding leader_step_down
  carried_step_down m p sound ordered asks alone h =
      cond_both (is_settled nat_cmp m.core.state) (let z : WorldMachine = update_internal_server_state nat_cmp entry_meaning config m in z) m (λ (z : WorldMachine). is_settled nat_cmp m.core.state ≡ is_settled nat_cmp m.core.state → CarriedIn (setup_of first) t u W z)
      (λ e _. carried_internal m p sound ordered (second_fails (is_spent m) (blank_is_at_end nat_cmp config m.core.state.vote m) Spent IndexEnd None (sym (ap (λ b. if b then refusals_of_lead nat_cmp config m else refusals_of_spent m) e) ∙ asks)) alone h)
      (λ _ _. h) refl

  local_vote : (x : Option (LogId ℕ)) (l : WorldLed) → (update_local_progress nat_cmp config x l).leader.vote ≡ l.leader.vote
  unfolding update_local_progress
  local_vote None l = refl
  local_vote (Some x) l = go (get nat_cmp l.leader.progress config.id) where
    go : (r : Option (ProgressEntry ℕ)) → (let n = (elim r as (λ _. WorldLed) [
      | None ↦ l
      | Some e ↦ (if is_ge (last_id_cmp nat_cmp e.matching (Some x)) then l else commit_granted nat_cmp config (with_entry nat_cmp l config.id (own_matched nat_cmp (Some x) e)))
    ]) in n.leader.vote ≡ l.leader.vote)
    go None = refl
    go (Some e) =
        cond_both (is_ge (last_id_cmp nat_cmp e.matching (Some x))) l (commit_granted nat_cmp config (with_entry nat_cmp l config.id (own_matched nat_cmp (Some x) e))) (λ (z : WorldLed). z.leader.vote ≡ l.leader.vote) (λ _. refl) (λ _. refl)

  -- a leader's own log is its whole log, and each other node is sent what comes next
  leads_on : (w : WorldMachine) → Waits u w.core → IsSound nat_cmp config w → Ordered nat_cmp entry_meaning u → CarriedIn (setup_of first) t u W w → (o : Option WorldLeader) → w.leader ≡ o
      → CarriedIn (setup_of first) t u W (elim o as (λ _. WorldMachine) [ None ↦ w | Some l ↦ leading w (lead_on nat_cmp config (record { leader = l; core = w.core })) ])
  leads_on w p sound ordered h None e = h
  leads_on w p sound ordered h (Some l) e =
      let z : WorldLed = record { leader = l; core = w.core } in
      let k : IsSoundLed nat_cmp config z = record { sound = sound.sound; leader_fits = subst (λ o. IfSome o (LeaderFits nat_cmp config.id w.core.state.ids w.core.state.purged w.core.state.em.membership)) e sound.lead.leader_fits } in
      let f : fits nat_cmp w.core.state.ids w.core.state.purged (last w.core.state.ids) ≡ true = last_fits w.core.state sound.sound in
      let o : Owns (setup_of first) t z = owns_of (setup_of first) t config z own k in
      let n : WorldLed = update_local_progress nat_cmp config (last w.core.state.ids) z in
      let c : CarriedLed (setup_of first) t u W n = carried_local (setup_of first) (means_setup first) t config own u W (last w.core.state.ids) z p.in_step k o f (led_of_machine (setup_of first) t u W w l e h) in
      let q : PendingLed nat_cmp entry_meaning (λ es. es) u n = pending_own nat_cmp nat_cmp_total nat_same entry_meaning (λ es. es) config u (last w.core.state.ids) z p k f in
      let v : n.leader.vote ≡ l.vote = local_vote (last w.core.state.ids) z in
      let o2 : Owns (setup_of first) t n = record { committed = ap (λ (v : Vote ℕ). v.committed) v ∙ o.committed; own = ap (λ (v : Vote ℕ). v.leader_id.node_id) v ∙ o.own } in
      machine_of_led (setup_of first) t u W w (lead_on nat_cmp config z) (no_candidate (setup_of first) t u W w l e h)
      (carried_initiate (setup_of first) refl t config own u W reached ordered false n q o2 c)

  -- A start of an engine without leader and candidate
  pub carried_startup : (m : WorldMachine) → PendingIn nat_cmp entry_meaning (λ es. es) u m → IsSound nat_cmp config m → Ordered nat_cmp entry_meaning u → m.candidate ≡ None → blank_is_at_end nat_cmp config m.core.state.vote m ≡ false
      → CarriedIn (setup_of first) t u W m → CarriedIn (setup_of first) t u W (startup nat_cmp entry_meaning config m)
  unfolding startup
  carried_startup m p sound ordered none full h =
      let w : WorldMachine = update_internal_server_state nat_cmp entry_meaning config m in
      let k : IsSound nat_cmp config w = inner_sound m p sound ordered full in
      let q : PendingIn nat_cmp entry_meaning (λ es. es) u w = pending_internal nat_cmp entry_meaning takes_id (λ es. es) config u m p (orderly m p sound ordered full) in
      cond_both (is_leader nat_cmp m.core.state config.id) (on_leader (lead_on nat_cmp config) w) (on_core (λ c. with_state c (record c.state { role = started_role nat_cmp config c.state })) m) (CarriedIn (setup_of first) t u W)
      (λ _. leads_on w q.core k ordered (carried_internal m p sound ordered full (λ _. none) h) w.leader refl)
      (λ _. carried_state (setup_of first) t u W m (record m.core.state { role = started_role nat_cmp config m.core.state }) refl refl h)
