-- A membership that a leader proposes takes effect.
use Rattle.std.proofs.Common.{ℕ, ◌-◌, ◌≡◌, inl, inr, ⊎_elim, Bool, false, List, [], ◌∷◌, ◌++◌, length, map, refl, sym, ap, ◌∙◌, subst, Option, None, Some}
use Rattle.std.specs.Prelude.{IfSome, unwrap_or, slice_get}
use Rattle.std.specs.List.{AllByRecursion}
use Rattle.std.specs.Ordering.{nat_cmp}
use Rattle.std.proofs.lemmas.Bool.{cond_both}
use Rattle.raft_node.specs.raft_state.declared.membership.Members.{Members}
use Rattle.raft_node.specs.raft_state.declared.membership.StoredMembership.{StoredMembership}
use Rattle.raft_node.specs.raft_state.Log.{last}
use Rattle.raft_node.specs.raft_state.Members.{voter_ids, learner_ids}
use Rattle.raft_node.specs.raft_state.Order.{next}
use Rattle.raft_node.specs.raft_state.State.{append_membership, extend}
use Rattle.raft_node.specs.raft_progress_entry.declared.entry.ProgressEntry.{ProgressEntry}
use Rattle.raft_node.specs.raft_progress_entry.Entry.{empty, silenced}
use Rattle.raft_node.specs.raft_progress.Table.{kept_row, row_of}
use Rattle.raft_node.specs.raft_command.declared.command.Command.TheVariants as command
use Rattle.raft_node.specs.raft_command.declared.config.EngineConfig.{EngineConfig}
use Rattle.raft_node.specs.raft_steps.FollowingHandler.{memberships_in}
use Rattle.raft_node.specs.raft_steps.LeaderHandler.{proposed, last_proposed, joined, leader_append_entries}
use Rattle.raft_node.specs.raft_steps.Parts.{with_state, under}
use Rattle.raft_node.specs.raft_steps.ReplicationHandler.{is_other, silenced_row, rebuild_progresses, rebuild_replication_streams, append_membership_led, initiate_replication}
use Rattle.raft_node.proofs.raft_steps_proofs.KeptLead.{each_image}
use Rattle.proof_agreement.specs.Machine.{Setup}
use Rattle.proof_agreement.specs.Deeds.{BuildStreams, MayAppendOwn, does}
use Rattle.raft_node.specs.raft_store.declared.entry.Entry.{Entry}
use Rattle.raft_node.specs.raft_store.Entries.{entry_meaning, members_of}
use Rattle.raft_node.specs.raft_store.Types.{WorldStore}
use Rattle.proof_mirror.specs.Ready.{Ordered, InStep, KnowsLog, Pending, PendingLed}
use Rattle.proof_mirror.proofs.Orders.{Orderly, may_put}
use Rattle.proof_mirror.proofs.Proposes.{pending_progresses, pending_join, joined_ids}
use Rattle.proof_mirror.proofs.Queued.{awaits_one}
use Rattle.proof_mirror.proofs.Sends.{pending_rebuild}
use Rattle.raft_node.specs.declared.node.Turn.{Turn}
use Rattle.raft_node.specs.raft_calls.Feeds.{WorldLed}
use Rattle.proof_deeds.specs.Chains.{Reached, Does, stored, left_by}
use Rattle.proof_deeds.specs.Follows.{StoreIs}
use Rattle.proof_deeds.specs.Images.{Ideal, IsNamed, IsWellFormedEntry, number}
use Rattle.proof_deeds.specs.Knows.{KnowsMatch}
use Rattle.proof_deeds.proofs.Acknowledging.{row_known}
use Rattle.proof_deeds.proofs.Keeps.{known_accepted, above_on}
use Rattle.proof_deeds.proofs.LeaderSends.{KnowsIn, CarriedLed, Owns, carried_initiate}
use Rattle.proof_deeds.proofs.Proposing.{given, given_step, given_run, given_knows, with_ends, carried_proposed, proposed_owns}
use Rattle.proof_deeds.proofs.Pushes.{carry}
use Rattle.proof_deeds.proofs.Quorums.{Means}
use Rattle.proof_deeds.proofs.Rebuilding.{built_keeps, built_session, carried_rebuilt}
use Rattle.proof_deeds.proofs.Worlds.{within_does, accepted_on, each_on, if_some, does_one}

module _ (t : Turn) (d : ℕ) (V : Ideal) where
  -- rows of other nodes: those that stay keep their values
  kept_match : (old : List (ℕ × ProgressEntry ℕ)) (k : ℕ) (ids : List ℕ) → AllByRecursion (KnowsMatch t.id d V) old → AllByRecursion (KnowsMatch t.id d V) (map (kept_row nat_cmp old) (map (λ id. (id, empty k)) ids))
  kept_match old k [] a = tt
  kept_match old k (id ∷ ids) a = (go (row_of nat_cmp id old) (row_known (KnowsMatch t.id d V) id old a), kept_match old k ids a) where
    go : (o : Option (ProgressEntry ℕ)) → IfSome o (λ e. KnowsMatch t.id d V (id, e)) → KnowsMatch t.id d V (id, unwrap_or o (empty k))
    go None h = tt
    go (Some e) h = h

  silenced_match : (config : EngineConfig ℕ) (rows : List (ℕ × ProgressEntry ℕ)) → AllByRecursion (KnowsMatch t.id d V) rows → AllByRecursion (KnowsMatch t.id d V) (map (silenced_row nat_cmp config) rows)
  silenced_match config rows h =
      each_image (KnowsMatch t.id d V) (KnowsMatch t.id d V) (silenced_row nat_cmp config)
      (λ row k. cond_both (is_other nat_cmp config row) (row.0, silenced row.1) row (KnowsMatch t.id d V) (λ _. k) (λ _. k)) rows h

module _ (s : Setup Entry) (means : Means s) (t : Turn) (config : EngineConfig ℕ) (own : config.id ≡ t.id) (u : WorldStore) (W : Ideal) where
  -- another membership in the state
  carried_effect : (m : StoredMembership ℕ (Unit {0})) (l : WorldLed) → CarriedLed s t u W l → CarriedLed s t u W (under (λ c. with_state c (append_membership c.state m)) l)
  carried_effect m l h =
      carry s t l.core.state.vote.leader_id u W l.core.output.items (KnowsIn s t l) (KnowsIn s t (under (λ c. with_state c (append_membership c.state m)) l)) h
      (λ V _ k. (k.0, record { vote = k.1.vote; session = k.1.session; rows = k.1.rows; above = k.1.above }))

  -- tables of its nodes
  carried_progresses : (l : WorldLed) → CarriedLed s t u W l → CarriedLed s t u W (rebuild_progresses nat_cmp l)
  unfolding rebuild_progresses
  carried_progresses l h =
      carry s t l.core.state.vote.leader_id u W l.core.output.items (KnowsIn s t l) (KnowsIn s t (rebuild_progresses nat_cmp l)) h
      (λ V _ k. (
        k.0,
        record {
          vote = k.1.vote;
          session = k.1.session;
          rows = kept_match t (number l.leader.vote.leader_id) V l.leader.progress.rows (next (last l.core.state.ids)) (voter_ids nat_cmp l.core.state.em.membership ++ learner_ids nat_cmp l.core.state.em.membership) k.1.rows;
          above = k.1.above;
        },
      ))

  progresses_owns : (l : WorldLed) → Owns s t l → Owns s t (rebuild_progresses nat_cmp l)
  unfolding rebuild_progresses
  progresses_owns l o = record { committed = o.committed; own = o.own }

  rebuild_owns : (l : WorldLed) → Owns s t l → Owns s t (rebuild_replication_streams nat_cmp config l)
  unfolding rebuild_replication_streams
  rebuild_owns l o = record { committed = o.committed; own = o.own }

  initiate_owns : (force : Bool) (l : WorldLed) → Owns s t l → Owns s t (initiate_replication nat_cmp config force l)
  unfolding initiate_replication
  initiate_owns force l o = record { committed = o.committed; own = o.own }

  -- the streams begin anew
  pub carried_rebuild : (l : WorldLed) → InStep entry_meaning (left_by u l.core.output.items) l.core.state → Owns s t l → CarriedLed s t u W l → CarriedLed s t u W (rebuild_replication_streams nat_cmp config l)
  unfolding rebuild_replication_streams
  carried_rebuild l j o h =
      carried_rebuilt s t config own u W l (KnowsIn s t l) (KnowsIn s t (rebuild_replication_streams nat_cmp config l)) j (λ V k. ap (λ v. v.leader_id.node_id) (sym k.1.vote) ∙ o.own) knows h
    where
      knows : (V : Ideal) → KnowsIn s t l V → KnowsIn s t (rebuild_replication_streams nat_cmp config l) (does s V (BuildStreams t.id))
      knows V k = (
        known_accepted s t.id V (does s V (BuildStreams t.id)) (within_does s V (BuildStreams t.id) tt) l.core.state (built_keeps s t.id V) k.0,
        record {
          vote = k.1.vote;
          session = built_session s t.id V;
          rows = silenced_match t (number l.leader.vote.leader_id) (does s V (BuildStreams t.id)) config l.leader.progress.rows
              (each_on (KnowsMatch t.id (number l.leader.vote.leader_id) V) (KnowsMatch t.id (number l.leader.vote.leader_id) (does s V (BuildStreams t.id)))
              (λ row. if_some _ _ (λ y p. ⊎_elim inl (λ a. inr (accepted_on V (does s V (BuildStreams t.id)) row.0 (number l.leader.vote.leader_id) y.index (within_does s V (BuildStreams t.id) tt) a)) p) row.1.matching) l.leader.progress.rows k.1.rows);
          above = above_on s t.id V (does s V (BuildStreams t.id)) (does_one s V (BuildStreams t.id) tt tt) (number l.leader.vote.leader_id) l.leader.noop_log_id.index k.1.above;
        },
      )

  -- a leader that has taken entries stands at its log's end
  proposed_knows : (es : List Entry) (l : WorldLed) (p : PendingLed nat_cmp entry_meaning (λ es. es) u l) → KnowsLog (proposed entry_meaning es l).core.state.ids (proposed entry_meaning es l).leader
  unfolding proposed
  proposed_knows es l p = let k = given_knows s means t config own u W es l p in record { end = k.end; rows = k.rows }

  -- one membership among them is ready to take effect
  proposed_ready : (es : List Entry) (l : WorldLed) (p : PendingLed nat_cmp entry_meaning (λ es. es) u l) (x : StoredMembership ℕ (Unit {0})) → memberships_in entry_meaning (given s means t config own u W es l p) ≡ x ∷ []
      → Orderly nat_cmp (proposed entry_meaning es l).core.state → Pending nat_cmp entry_meaning (λ es. es) u (with_state (proposed entry_meaning es l).core (append_membership (proposed entry_meaning es l).core.state x))
  unfolding proposed
  proposed_ready es l p x one ord =
      let xs : List Entry = given s means t config own u W es l p in
      awaits_one nat_cmp entry_meaning (λ es. es) u l.core.output.items (command.AppendInputEntries l.leader.vote (given s means t config own u W es l p)) l.core.state (append_membership (extend l.core.state (map (λ (e : Entry). e.log_id) (given s means t config own u W es l p))) x) p.core
      (may_put nat_cmp entry_meaning (left_by u l.core.output.items) l.core.state (given s means t config own u W es l p) p.core.in_step (given_run s means t config own u W es l p) ord)
      (subst (λ ms. InStep entry_meaning (stored (command.AppendInputEntries l.leader.vote (given s means t config own u W es l p)) (left_by u l.core.output.items)) (with_ends l.core.state (given s means t config own u W es l p) ms)) one (given_step s means t config own u W es l p))

  module _ (reached : Reached s W) (ordered : Ordered nat_cmp entry_meaning u) where
    -- a membership takes effect, once its entry is queued
    pub carried_join : (m : StoredMembership ℕ (Unit {0})) (l : WorldLed) → Pending nat_cmp entry_meaning (λ es. es) u (with_state l.core (append_membership l.core.state m)) → KnowsLog l.core.state.ids l.leader → Owns s t l
        → CarriedLed s t u W l → CarriedLed s t u W (append_membership_led nat_cmp config m l)
    unfolding append_membership_led
    carried_join m l p k o h =
        let j : WorldLed = under (λ c. with_state c (append_membership c.state m)) l in
        let a : PendingLed nat_cmp entry_meaning (λ es. es) u (rebuild_progresses nat_cmp (under (λ c. with_state c (append_membership c.state m)) l)) = pending_progresses nat_cmp entry_meaning (λ es. es) u (under (λ c. with_state c (append_membership c.state m)) l) p k in
        let b : PendingLed nat_cmp entry_meaning (λ es. es) u (rebuild_replication_streams nat_cmp config (rebuild_progresses nat_cmp (under (λ c. with_state c (append_membership c.state m)) l))) =
        pending_rebuild nat_cmp entry_meaning (λ es. es) config u (rebuild_progresses nat_cmp (under (λ c. with_state c (append_membership c.state m)) l)) a in
        let q : Owns s t (rebuild_progresses nat_cmp (under (λ c. with_state c (append_membership c.state m)) l)) = progresses_owns (under (λ c. with_state c (append_membership c.state m)) l) (record { committed = o.committed; own = o.own }) in
        carried_initiate s means.owner t config own u W reached ordered false (rebuild_replication_streams nat_cmp config (rebuild_progresses nat_cmp (under (λ c. with_state c (append_membership c.state m)) l))) b
        (rebuild_owns (rebuild_progresses nat_cmp (under (λ c. with_state c (append_membership c.state m)) l)) q)
        (carried_rebuild (rebuild_progresses nat_cmp (under (λ c. with_state c (append_membership c.state m)) l)) a.core.in_step q (carried_progresses (under (λ c. with_state c (append_membership c.state m)) l) (carried_effect m l h)))

    join_owns : (m : StoredMembership ℕ (Unit {0})) (l : WorldLed) → Owns s t l → Owns s t (append_membership_led nat_cmp config m l)
    unfolding append_membership_led
    join_owns m l o =
        initiate_owns false (rebuild_replication_streams nat_cmp config (rebuild_progresses nat_cmp (under (λ c. with_state c (append_membership c.state m)) l)))
        (rebuild_owns (rebuild_progresses nat_cmp (under (λ c. with_state c (append_membership c.state m)) l)) (progresses_owns (under (λ c. with_state c (append_membership c.state m)) l) (record { committed = o.committed; own = o.own })))

    join_pending : (m : StoredMembership ℕ (Unit {0})) (l : WorldLed) → Pending nat_cmp entry_meaning (λ es. es) u (with_state l.core (append_membership l.core.state m)) → KnowsLog l.core.state.ids l.leader → PendingLed nat_cmp entry_meaning (λ es. es) u (append_membership_led nat_cmp config m l)
    join_pending m l p k = pending_join nat_cmp entry_meaning (λ es. es) config u m l p k

    -- the entry of a membership, as the leader gives it
    abbrev pub changed : Entry → WorldLed → Entry
    changed e l = record e { log_id = record { leader_id = l.leader.vote.leader_id; index = next l.leader.last_log_id } }

    abbrev stored_as : Members ℕ (Unit {0}) → Entry → WorldLed → StoredMembership ℕ (Unit {0})
    stored_as m e l = record { log_id = Some (changed e l).log_id; membership = m }

    -- a membership is appended where it may be, takes effect, and is sent
    pub carried_change : (e : Entry) (m : Members ℕ (Unit {0})) (l : WorldLed) → PendingLed nat_cmp entry_meaning (λ es. es) u l → Owns s t l → members_of e.payload ≡ Some m
        → (IsNamed l.leader.vote.leader_id → IsWellFormedEntry s (changed e l))
        → ((V : Ideal) → Does s W V → StoreIs s (left_by u l.core.output.items) (V.store t.id) → KnowsIn s t l V → MayAppendOwn s (V.store t.id) t.id (changed e l))
        → Orderly nat_cmp (leader_append_entries nat_cmp entry_meaning config (e ∷ []) l).core.state → CarriedLed s t u W l → CarriedLed s t u W (leader_append_entries nat_cmp entry_meaning config (e ∷ []) l)
    unfolding leader_append_entries
    carried_change e m l p o holds fit may ord h =
        let j : WorldLed = proposed entry_meaning (e ∷ []) l in
        let x : StoredMembership ℕ (Unit {0}) = stored_as m e l in
        subst (λ o. CarriedLed s t u W (initiate_replication nat_cmp config false (joined nat_cmp config o (proposed entry_meaning (e ∷ []) l)))) (sym last)
        (carried_initiate s means.owner t config own u W reached ordered false (append_membership_led nat_cmp config (stored_as m e l) (proposed entry_meaning (e ∷ []) l))
        (join_pending (stored_as m e l) (proposed entry_meaning (e ∷ []) l) ready knows) (join_owns (stored_as m e l) (proposed entry_meaning (e ∷ []) l) (proposed_owns s means t config own u W (e ∷ []) l o))
        (carried_join (stored_as m e l) (proposed entry_meaning (e ∷ []) l) ready knows (proposed_owns s means t config own u W (e ∷ []) l o)
        (carried_proposed s means t config own u W (e ∷ []) l p o (λ n. (fit n, tt)) (λ V d z k _. (may V d z k, tt)) h)))
      where
        among : memberships_in entry_meaning (changed e l ∷ []) ≡ stored_as m e l ∷ []
        among = rw holds refl

        last : last_proposed entry_meaning l.leader (e ∷ []) ≡ Some (stored_as m e l)
        last = ap (λ ms. slice_get ms (length ms - 1)) among

        order : Orderly nat_cmp (proposed entry_meaning (e ∷ []) l).core.state
        order = joined_ids nat_cmp entry_meaning (λ es. es) config (last_proposed entry_meaning l.leader (e ∷ [])) (proposed entry_meaning (e ∷ []) l) ord

        knows : KnowsLog (proposed entry_meaning (e ∷ []) l).core.state.ids (proposed entry_meaning (e ∷ []) l).leader
        knows = proposed_knows (e ∷ []) l p

        ready : Pending nat_cmp entry_meaning (λ es. es) u (with_state (proposed entry_meaning (e ∷ []) l).core (append_membership (proposed entry_meaning (e ∷ []) l).core.state (stored_as m e l)))
        ready = proposed_ready (e ∷ []) l p (stored_as m e l) among order
