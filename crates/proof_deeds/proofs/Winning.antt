-- A candidate with a quorum: it leads.
use Rattle.std.proofs.Common.{ℕ, ◌<◌, ◌≡◌, ◌⊎◌, ⊎_elim, Bool, true, false, cond, List, [], ◌∷◌, length, map, arith, refl, sym, ap, ap₂, ◌∙◌, subst, true≢false, Option, Some, None}
use Rattle.std.specs.Prelude.{IfSome, if◌then◌else◌, filter, unwrap_or, Contains}
use Rattle.std.specs.List.{AllByRecursion}
use Rattle.std.specs.declared.cmp.Ordering.TheVariants.{Equal, Greater}
use Rattle.std.specs.Ordering.{is_eq, is_ge, is_gt, is_lt, nat_cmp, bool_cmp, ordering_then}
use Rattle.std.proofs.lemmas.Bool.{both_ways}
use Rattle.std.proofs.lemmas.List.{length-map}
use Rattle.raft_node.specs.raft_state.declared.ids.LeaderId.{LeaderId}
use Rattle.raft_node.specs.raft_state.declared.ids.LogId.{LogId}
use Rattle.raft_node.specs.raft_state.declared.ids.Vote.{Vote}
use Rattle.raft_node.specs.raft_state.declared.membership.Members.{Members}
use Rattle.raft_node.specs.raft_state.declared.membership.StoredMembership.{StoredMembership}
use Rattle.raft_node.specs.raft_state.Log.{last}
use Rattle.raft_node.specs.raft_state.Members.{contains}
use Rattle.raft_node.specs.raft_state.Order.{leader_id_cmp, next, vote_cmp}
use Rattle.raft_node.specs.raft_state.Same.{nat_same}
use Rattle.raft_node.specs.raft_state.State.{is_leader, is_leading}
use Rattle.raft_node.proofs.raft_state_proofs.Orders.{both_and, is_equal}
use Rattle.raft_node.specs.raft_progress.Quorum.{is_quorum}
use Rattle.raft_node.specs.raft_progress.Table.{holders, voter_rows}
use Rattle.raft_node.proofs.raft_progress_proofs.GrantedLaws.{granted_is_reached, granted_of, is_reached, voter_values}
use Rattle.raft_node.specs.raft_command.declared.command.Command.TheVariants as command
use Rattle.raft_node.specs.raft_command.declared.config.EngineConfig.{EngineConfig}
use Rattle.raft_node.specs.raft_proposer.Candidate.{as_committed, into_leader, is_granted}
use Rattle.raft_node.specs.raft_steps.FollowingHandler.{memberships_in}
use Rattle.raft_node.specs.raft_store.Mirror.{last_two}
use Rattle.raft_node.specs.raft_steps.Parts.{led_machine, leading, on_core, then_command, with_state}
use Rattle.raft_node.specs.raft_steps.ReplicationHandler.{initiate_replication, rebuild_replication_streams}
use Rattle.std.specs.Cmp.{nat_cmp_is}
use Rattle.raft_node.specs.raft_steps.ServerStateHandler.{update_role}
use Rattle.raft_node.specs.raft_steps.VoteHandler.{take_vote, become_following, become_leader, lead_anew, update_internal_server_state, update_vote}
use Rattle.raft_node.proofs.raft_proposer_proofs.Elements.{In}
use Rattle.proof_agreement.specs.Machine.{Includes, IsQuorum}
use Rattle.proof_agreement.specs.Stores.{VoteGranted, whole, effective_membership_of}
use Rattle.proof_agreement.specs.Deeds.{BuildStreams, MayWin, put, does, Leads}
use Rattle.raft_node.specs.raft_store.declared.entry.Entry.{Entry}
use Rattle.raft_node.specs.raft_store.Entries.{entry_meaning}
use Rattle.raft_node.specs.raft_store.Store as store
use Rattle.raft_node.specs.raft_store.Types.{WorldStore, WorldMachine, WorldLeader, WorldCandidate}
use Rattle.proof_mirror.specs.Ready.{InStep, Ordered, Pending, PendingIn, PendingLed}
use Rattle.proof_mirror.proofs.Elections.{made_knows, pending_vote}
use Rattle.proof_mirror.proofs.Orders.{Orderly}
use Rattle.proof_mirror.proofs.Queued.{pending_role}
use Rattle.proof_mirror.proofs.Sends.{pending_rebuild}
use Rattle.proof_mirror.proofs.Shape.{shaped_of}
use Rattle.raft_node.specs.declared.node.Turn.{Turn}
use Rattle.raft_node.specs.raft_calls.Feeds.{WorldLed}
use Rattle.proof_deeds.proofs.Noops.{made_above}
use Rattle.proof_deeds.specs.Chains.{Carried, Reached, left_by}
use Rattle.proof_deeds.specs.Follows.{StoreIs}
use Rattle.proof_deeds.specs.Images.{Ideal, IdealStore, IsNamed, image, number, setup_of}
use Rattle.proof_deeds.specs.Knows.{AllJoined, CarriedIn, Knows, KnowsAccepted, KnowsGrants}
use Rattle.proof_deeds.proofs.Quorums.{among, among_in, effective_quorum, means_setup}
use Rattle.proof_deeds.proofs.Keeps.{known_accepted, known_grants}
use Rattle.proof_deeds.proofs.LeaderSends.{KnowsIn, machine_of_led, stable_led}
use Rattle.proof_deeds.proofs.Proposing.{carried_append}
use Rattle.proof_deeds.proofs.Rebuilding.{Built, built_keeps, built_session, carried_rebuilt, fresh_rows}
use Rattle.proof_deeds.proofs.Stored.{each_take}
use Rattle.proof_deeds.proofs.Numbers.{number_node}
use Rattle.proof_deeds.proofs.Pushes.{carry, push}
use Rattle.proof_deeds.proofs.VotePushes.{done_win}
use Rattle.proof_deeds.proofs.Voting.{followed_accepted}
use Rattle.proof_deeds.proofs.Worlds.{at_put, does_then, within_does}
use Rattle.raft_node.specs.raft_state.Invariants.{IsSoundState}
use Rattle.raft_node.specs.raft_steps.LeaderHandler.{leader_append_entries, proposed}
use Rattle.proof_deeds.proofs.Roles.{WorldCore, WorldState, carried_role, role_of_leader, tail_leads}
use Rattle.proof_deeds.proofs.Tails.{tail_named, tail_vote, tail_vote_committed, tail_whole, whole_fit}

-- who has granted
abbrev pub granting : WorldCandidate → List ℕ
granting c = holders bool_cmp (λ g. g) (voter_rows c.progress) true

-- a quorum has granted, where without grants there is none
pub granted_by : (c : WorldCandidate) → c.progress.default ≡ false → is_granted (is_quorum nat_cmp) c ≡ true → is_quorum nat_cmp c.progress.set (granting c) ≡ true
granted_by c d g = go (granted_of (is_quorum nat_cmp) bool_cmp (λ b. b) c.progress) (granted_is_reached (is_quorum nat_cmp) bool_cmp (λ b. b) c.progress) g where
  go : (o : Option Bool) → IfSome o (λ p. (is_reached (is_quorum nat_cmp) bool_cmp (λ b. b) c.progress p ≡ true) × Contains (voter_values (is_quorum nat_cmp) bool_cmp (λ b. b) c.progress) p) → unwrap_or o c.progress.default ≡ true → is_quorum nat_cmp c.progress.set (granting c) ≡ true
  go None k e = absurd (both_ways c.progress.default d e)
  go (Some true) k e = k.0
  go (Some false) k e = absurd (true≢false (sym e))

-- each of them
holder_has : (P : ℕ → Type 0) (m : ℕ) (rows : List (ℕ × Bool)) → AllByRecursion (λ row. row.1 ≡ true → P row.0) rows → In m (holders bool_cmp (λ g. g) rows true) → P m
holder_has P m [] a h = elim h [ ]
holder_has P m (row ∷ rows) a h = go row.1 refl (holder_has P m rows a.1) h where
  go : (b : Bool) → row.1 ≡ b → (In m (holders bool_cmp (λ g. g) rows true) → P m) → In m (map (λ r. r.0) (cond (is_ge (bool_cmp b true)) (row ∷ filter (λ r. is_ge (bool_cmp r.1 true)) rows) (filter (λ r. is_ge (bool_cmp r.1 true)) rows))) → P m
  go true e f k = ⊎_elim (λ (q : row.0 ≡ m). subst P q (a.0 e)) f k
  go false e f k = f k

-- what a candidate of the state's vote is: the node's own, a member, over the effective groups
pub record IsCurrent (id : ℕ) (st : WorldState) (c : WorldCandidate) : Type 0 where
  pub own : is_eq (nat_cmp c.vote.leader_id.node_id id) ≡ true
  pub member : contains nat_cmp st.em.membership id ≡ true
  pub groups : c.progress.set ≡ st.em.membership.groups

module _ (first : Members ℕ (Unit {0})) (t : Turn) (config : EngineConfig ℕ) (own : config.id ≡ t.id) where
  -- a candidate with a quorum wins in the ideal world
  pub tail_wins : (T : WorldStore) (V : Ideal) (st : WorldState) (c : WorldCandidate) → StoreIs (setup_of first) T (V.store t.id) → InStep entry_meaning T st → c.vote ≡ st.vote → c.vote.committed ≡ false → IsCurrent config.id st c → KnowsGrants t.id c V
      → is_granted (is_quorum nat_cmp) c ≡ true → MayWin (setup_of first) V t.id (among (granting c))
  tail_wins T V st c h j e pending cur k g = record {
    candidate = record {
      own = ap (setup_of first).owner vote ∙ (number_node st.vote.leader_id (tail_named (setup_of first) T (V.store t.id) st h j) ∙ (ap (λ (v : Vote ℕ). v.leader_id.node_id) (sym e) ∙ (nat_same c.vote.leader_id.node_id config.id (is_equal _ cur.own) ∙ own)));
      not_committed = tail_vote_committed (setup_of first) T (V.store t.id) st h j ∙ (ap (λ (v : Vote ℕ). v.committed) (sym e) ∙ pending);
      positive = subst (λ d. 0 < d) (sym to_c) k.positive;
    };
    some = not_empty (store.whole T) refl;
    quorum =
        subst (λ xs. IsQuorum (setup_of first) (effective_membership_of (setup_of first) xs) (among (granting c))) (sym (tail_whole (setup_of first) T (V.store t.id) st h j))
        (effective_quorum (setup_of first) (means_setup first) (store.whole T) st.em (granting c) (whole_fit (setup_of first) T (V.store t.id) h (shaped_of entry_meaning T st j)) j.mirrors.em
        (λ e. true≢false (sym cur.member ∙ ap (λ (y : StoredMembership ℕ (Unit {0})). contains nat_cmp y.membership config.id) e))
        (subst (λ gs. is_quorum nat_cmp gs (granting c) ≡ true) cur.groups (granted_by c k.ungranted g)));
    each = λ m q.
        subst (λ d. (m ≡ t.id) ⊎ Includes V.messages (VoteGranted m d)) (sym to_c)
        (holder_has (λ x. (x ≡ t.id) ⊎ Includes V.messages (VoteGranted x (number c.vote.leader_id))) m (voter_rows c.progress) (each_take _ c.progress.voters c.progress.rows k.rows) (among_in (granting c) m q));
  } where
    vote : (V.store t.id).vote ≡ number st.vote.leader_id
    vote = tail_vote (setup_of first) T (V.store t.id) st h j

    to_c : (V.store t.id).vote ≡ number c.vote.leader_id
    to_c = vote ∙ ap (λ (v : Vote ℕ). number v.leader_id) (sym e)

    not_empty : (es : List Entry) → store.whole T ≡ es → 0 < length (whole (V.store t.id))
    not_empty [] q = absurd (true≢false (sym cur.member ∙ ap (λ (y : StoredMembership ℕ (Unit {0})). contains nat_cmp y.membership config.id) (j.mirrors.em ∙ ap (λ es. (last_two (memberships_in entry_meaning es)).1) q)))
    not_empty (x ∷ xs) q = let n : length (whole (V.store t.id)) ≡ length (x ∷ xs) = ap (λ ys. length ys) (tail_whole (setup_of first) T (V.store t.id) st h j) ∙ (length-map (store.whole T) image ∙ ap (λ ys. length ys) q) in omega (arith, n)

nat_self : (n : ℕ) → nat_cmp n n ≡ Equal
nat_self n = sym (nat_cmp_is n n Equal refl)

leader_self : (l : LeaderId ℕ) → leader_id_cmp nat_cmp l l ≡ Equal
leader_self l = ap₂ ordering_then (nat_self l.term) (nat_self l.node_id)

-- a committed vote is above the same one that isn't
pub won_above : (v : Vote ℕ) → v.committed ≡ false → vote_cmp nat_cmp (as_committed v) v ≡ Greater
won_above v e = ap₂ ordering_then (leader_self v.leader_id) (ap (bool_cmp true) e)

module _ (first : Members ℕ (Unit {0})) (t : Turn) (config : EngineConfig ℕ) (own : config.id ≡ t.id) (u : WorldStore) (W : Ideal) (reached : Reached (setup_of first) W) (joined : AllJoined (setup_of first)) where
  module _ (c : WorldCandidate) (now : ℕ) (m : WorldMachine) (vote : c.vote ≡ m.core.state.vote) (pending : c.vote.committed ≡ false) (cur : IsCurrent config.id m.core.state c) where
    -- the leader, with its streams built
    abbrev pub built : WorldLed
    built = rebuild_replication_streams nat_cmp config (record { leader = into_leader nat_cmp c; core = m.core })

    -- its vote is saved
    abbrev pub saved : WorldCore
    saved = then_command (with_state (rebuild_replication_streams nat_cmp config (record { leader = into_leader nat_cmp c; core = m.core })).core (record m.core.state { vote = as_committed c.vote; time = Some now })) (command.SaveVote (as_committed c.vote))

    abbrev pub leader : WorldLeader
    leader = record (rebuild_replication_streams nat_cmp config (record { leader = into_leader nat_cmp c; core = m.core })).leader { vote = as_committed c.vote }

    -- it has its role
    abbrev pub led : WorldLed
    led = record { leader = leader; core = update_role nat_cmp config saved }

    abbrev pub led_by : WorldMachine
    led_by = leading (record m { candidate = None }) (rebuild_replication_streams nat_cmp config (record { leader = into_leader nat_cmp c; core = m.core }))

    leads : is_leader nat_cmp (record m.core.state { vote = as_committed c.vote; time = Some now }) config.id ≡ true
    leads = both_and (is_leading nat_cmp (record m.core.state { vote = as_committed c.vote; time = Some now }) config.id) true (both_and (is_eq (nat_cmp c.vote.leader_id.node_id config.id)) (contains nat_cmp m.core.state.em.membership config.id) cur.own cur.member) refl

    greater : vote_cmp nat_cmp (as_committed c.vote) m.core.state.vote ≡ Greater
    greater = subst (λ v. vote_cmp nat_cmp (as_committed c.vote) v ≡ Greater) vote (won_above c.vote pending)

    pub won_is : update_vote nat_cmp entry_meaning config (as_committed c.vote) now led_by ≡ led_machine led None
    unfolding update_vote update_internal_server_state become_leader rebuild_replication_streams
    won_is =
        ap (λ r. if is_lt r then led_by else update_internal_server_state nat_cmp entry_meaning config (on_core (take_vote nat_cmp config (as_committed c.vote) now) led_by)) greater
        ∙ (ap (λ r. update_internal_server_state nat_cmp entry_meaning config
        (on_core (λ k. if is_gt r then then_command (with_state k (record k.state { vote = as_committed c.vote; time = Some now })) (command.SaveVote (as_committed c.vote)) else with_state k (record k.state { time = Some now })) led_by)) greater
        ∙ (ap (λ b. let w : WorldMachine = on_core (λ k. then_command (with_state k (record k.state { vote = as_committed c.vote; time = Some now })) (command.SaveVote (as_committed c.vote))) led_by in
        if b then become_leader nat_cmp entry_meaning config w else if is_leading nat_cmp w.core.state config.id then w else become_following nat_cmp config w) leads
        ∙ ap (λ r. let w : WorldMachine = on_core (λ k. then_command (with_state k (record k.state { vote = as_committed c.vote; time = Some now })) (command.SaveVote (as_committed c.vote))) led_by in
        if is_eq r then on_core (update_role nat_cmp config) (record w { leader = Some leader }) else lead_anew nat_cmp entry_meaning config w) (leader_self c.vote.leader_id)))

    mine : m.core.state.vote.leader_id.node_id ≡ t.id
    mine = ap (λ (v : Vote ℕ). v.leader_id.node_id) (sym vote) ∙ (nat_same c.vote.leader_id.node_id config.id (is_equal _ cur.own) ∙ own)

    taken_is : take_vote nat_cmp config (as_committed c.vote) now built.core ≡ saved
    unfolding rebuild_replication_streams
    taken_is = ap (λ r. let z : WorldCore = if is_gt r then saved else with_state built.core (record m.core.state { time = Some now }) in z) greater

    -- what is known once the vote is saved
    abbrev Saved : Ideal → Type 0
    Saved V = KnowsAccepted (setup_of first) t.id led.core.state V × Built (setup_of first) t.id V

    -- what is known once the streams are built
    abbrev Before : Ideal → Type 0
    Before V = KnowsAccepted (setup_of first) t.id m.core.state V × KnowsGrants t.id c V × Built (setup_of first) t.id V

    module _ (p : PendingIn nat_cmp entry_meaning (λ es. es) u m) (sound : IsSoundState nat_cmp m.core.state) (ask : c.last_log_id ≡ last m.core.state.ids) (g : is_granted (is_quorum nat_cmp) c ≡ true) where
      p1 : PendingLed nat_cmp entry_meaning (λ es. es) u built
      p1 = pending_rebuild nat_cmp entry_meaning (λ es. es) config u (record { leader = into_leader nat_cmp c; core = m.core }) (record { core = p.core; knows = made_knows nat_cmp c m.core.state.ids (ap next ask) })

      p2 : Pending nat_cmp entry_meaning (λ es. es) u saved
      p2 = subst (λ (z : WorldCore). Pending nat_cmp entry_meaning (λ es. es) u z) taken_is (pending_vote nat_cmp entry_meaning (λ es. es) config u (as_committed c.vote) now built.core p1.core)

      p3 : PendingLed nat_cmp entry_meaning (λ es. es) u led
      unfolding rebuild_replication_streams update_role
      p3 = record { core = pending_role nat_cmp entry_meaning (λ es. es) config u saved p2; knows = record { end = p1.knows.end; rows = p1.knows.rows } }

      h1 : Carried (setup_of first) t m.core.state.vote.leader_id u W m.core.output.items (λ V. Knows (setup_of first) t.id m V × KnowsGrants t.id c V) → Carried (setup_of first) t m.core.state.vote.leader_id u W built.core.output.items Before
      h1 k =
          carried_rebuilt (setup_of first) t config own u W (record { leader = into_leader nat_cmp c; core = m.core }) (λ V. Knows (setup_of first) t.id m V × KnowsGrants t.id c V) Before p.core.in_step (λ _ _. mine)
          (λ V y.
          let X : Ideal = does (setup_of first) V (BuildStreams t.id) in (
            known_accepted (setup_of first) t.id V X (within_does (setup_of first) V (BuildStreams t.id) tt) m.core.state (built_keeps (setup_of first) t.id V) y.0.state,
            known_grants (setup_of first) t.id V X (within_does (setup_of first) V (BuildStreams t.id) tt) c y.1,
            built_session (setup_of first) t.id V,
          )) k

      h2 : Carried (setup_of first) t m.core.state.vote.leader_id u W built.core.output.items Before → Carried (setup_of first) t m.core.state.vote.leader_id u W saved.output.items (KnowsIn (setup_of first) t led)
      unfolding rebuild_replication_streams update_role
      h2 k =
          carry (setup_of first) t m.core.state.vote.leader_id u W saved.output.items Saved (KnowsIn (setup_of first) t led)
          (push (setup_of first) t m.core.state.vote.leader_id u W built.core.output.items (command.SaveVote (as_committed c.vote)) Before Saved k
          (λ V x y.
          let T : WorldStore = left_by u built.core.output.items in
          let X : Ideal = put V t.id (record (V.store t.id) { vote_committed = true }) in
          let n : IsNamed c.vote.leader_id = subst (λ (w : Vote ℕ). IsNamed w.leader_id) (sym vote) (tail_named (setup_of first) T (V.store t.id) m.core.state x.store p1.core.in_step) in
          let e : (V.store t.id).vote ≡ number c.vote.leader_id = tail_vote (setup_of first) T (V.store t.id) m.core.state x.store p1.core.in_step ∙ ap (λ (w : Vote ℕ). number w.leader_id) (sym vote) in (
            X,
            done_win (setup_of first) t m.core.state.vote.leader_id T (as_committed c.vote) (among (granting c)) V x.store n refl e (tail_wins first t config own T V m.core.state c x.store p1.core.in_step vote pending cur y.1 g),
            (
              followed_accepted first t config own u W (as_committed c.vote) now built.core p1.core.in_step sound n refl (ap is_gt greater) V X x.store (let z : (X.store t.id).committed ≡ (V.store t.id).committed = ap (λ (S : IdealStore). S.committed) (at_put V t.id _) in omega (arith, z)) y.0,
              subst (λ (S : IdealStore). S.session.leader ≡ S.vote) (sym (at_put V t.id _)) y.2,
            ),
          )))
          (λ V x y.
          let T : WorldStore = left_by u saved.output.items in
          let leads : Leads (setup_of first) (V.store t.id) t.id = tail_leads first t T (V.store t.id) saved.state x.store p2.in_step (subst (λ id. is_leader nat_cmp saved.state id ≡ true) own leads) in (
            y.0,
            record {
              vote = refl;
              session = y.1;
              rows = fresh_rows (setup_of first) t config own u W (number c.vote.leader_id) V _ _;
              above = made_above (setup_of first) t.id T V (does_then (setup_of first) _ W V reached x.came) saved.state x.store p2.in_step leads (as_committed c.vote) refl c.last_log_id ask;
            },
          ))

      h3 : Carried (setup_of first) t m.core.state.vote.leader_id u W saved.output.items (KnowsIn (setup_of first) t led) → Carried (setup_of first) t c.vote.leader_id u W led.core.output.items (KnowsIn (setup_of first) t led)
      h3 k =
          carried_role first t config u W saved (KnowsIn (setup_of first) t led) own p2.in_step (stable_led (setup_of first) t led) (λ f. absurd (f (role_of_leader saved.state config.id leads)))
          (subst (λ d. Carried (setup_of first) t d u W saved.output.items (KnowsIn (setup_of first) t led)) (ap (λ (w : Vote ℕ). w.leader_id) (sym vote)) k)

      -- the new leader's blank entry
      pub h4 : (x : LogId ℕ) → Ordered nat_cmp entry_meaning u → Orderly nat_cmp (leader_append_entries nat_cmp entry_meaning config (entry_meaning.blank x ∷ []) led).core.state
          → Carried (setup_of first) t m.core.state.vote.leader_id u W m.core.output.items (λ V. Knows (setup_of first) t.id m V × KnowsGrants t.id c V)
          → CarriedIn (setup_of first) t u W (led_machine (leader_append_entries nat_cmp entry_meaning config (entry_meaning.blank x ∷ []) led) None)
      unfolding update_role leader_append_entries proposed initiate_replication
      h4 x ord o k =
          machine_of_led (setup_of first) t u W (led_machine (leader_append_entries nat_cmp entry_meaning config (entry_meaning.blank x ∷ []) led) None) (leader_append_entries nat_cmp entry_meaning config (entry_meaning.blank x ∷ []) led) refl
          (carried_append (setup_of first) (means_setup first) t config own u W reached ord (entry_meaning.blank x ∷ []) led p3 (record { committed = refl; own = nat_same c.vote.leader_id.node_id config.id (is_equal _ cur.own) ∙ own }) (refl, tt) o (h3 (h2 (h1 k))))
