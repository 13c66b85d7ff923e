-- A build that ends: what a node had noted is its snapshot, or is dropped where it is no more than that.
use Rattle.std.proofs.Common.{ℕ, ◌<◌, ◌≤◌, ◌≡◌, true, false, List, [], length, take, arith, refl, sym, ap, ◌∙◌, subst}
use Rattle.std.specs.Prelude.{nat_lt}
use Rattle.std.specs.Ordering.{nat_cmp}
use Rattle.std.proofs.lemmas.Bool.{cond_both, ltb-false, ltb-true}
use Rattle.std.proofs.lemmas.Cmp.{nat_cmp_total}
use Rattle.raft_node.specs.raft_state.declared.membership.Members.{Members}
use Rattle.raft_node.specs.raft_state.declared.membership.SnapshotMeta.{SnapshotMeta}
use Rattle.raft_node.specs.raft_state.Fits.{fits, is_within}
use Rattle.raft_node.specs.raft_state.Order.{next}
use Rattle.raft_node.specs.raft_state.Same.{nat_same}
use Rattle.raft_node.specs.raft_command.declared.config.EngineConfig.{EngineConfig}
use Rattle.raft_node.specs.raft_steps.Parts.{with_state}
use Rattle.raft_node.specs.raft_steps.SnapshotCalls.{finish_building_snapshot}
use Rattle.raft_node.specs.raft_steps.SnapshotHandler.{is_newer_snapshot}
use Rattle.raft_node.proofs.raft_steps_proofs.KeptPurge.{finished_is_sound}
use Rattle.raft_node.specs.raft_store.declared.entry.Entry.{Entry}
use Rattle.raft_node.specs.raft_store.Built.{keep_snapshot, meta_of}
use Rattle.raft_node.specs.raft_store.Entries.{entry_meaning}
use Rattle.raft_node.specs.raft_store.Mirror.{Tells}
use Rattle.raft_node.specs.raft_store.Store as store
use Rattle.raft_node.specs.raft_store.Types.{WorldCommand, WorldMachine, WorldStore}
use Rattle.raft_node.proofs.raft_store_proofs.Memberships.{meta_tells}
use Rattle.proof_mirror.specs.Ready.{Awaits, InStep, Ordered, Pending, PendingIn, Shaped}
use Rattle.proof_mirror.proofs.Purging.{pending_finish, pending_older}
use Rattle.proof_mirror.proofs.Restarting.{built_ordered, step_built}
use Rattle.proof_mirror.proofs.Shape.{shaped_of}
use Rattle.raft_node.specs.declared.node.Turn.{Turn}
use Rattle.proof_deeds.specs.Chains.{Carried, Does, Reached}
use Rattle.proof_deeds.specs.Follows.{StoreIs}
use Rattle.proof_deeds.specs.Images.{Ideal, images, setup_of}
use Rattle.proof_deeds.specs.Knows.{CarriedIn, Knows, Stands}
use Rattle.proof_deeds.specs.SnapshotDeeds.{StandsOn}
use Rattle.proof_deeds.proofs.Built.{Ended, built_followed, dropped_followed}
use Rattle.proof_deeds.proofs.Keeps.{known_in}
use Rattle.proof_deeds.proofs.Noted.{noted_begins, noted_committed, noted_fits, noted_newer, noted_older, noted_within}
use Rattle.proof_deeds.proofs.Restarts.{as_does}
use Rattle.proof_deeds.proofs.Roles.{WorldState}
use Rattle.proof_deeds.proofs.SnapshotLaws.{carried_finish, carried_older}
use Rattle.proof_deeds.proofs.Worlds.{does_then, other_run}

module _ (first : Members ℕ (Unit {0})) (config : EngineConfig ℕ) (t : Turn) (u : WorldStore) (W : Ideal) (m : WorldMachine) (st : Stands (setup_of first) t config u W m) (empty : m.core.output.items ≡ []) (es : List Entry) (noted : (W.store t.id).noted ≡ images es) where
  abbrev meta : SnapshotMeta ℕ (Unit {0})
  meta = meta_of entry_meaning es

  abbrev after : WorldMachine
  after = finish_building_snapshot nat_cmp config (meta_of entry_meaning es) m

  abbrev nothing : List WorldCommand
  nothing = []

  -- what the empty queue says of the store and of the world now
  awaits : Awaits nat_cmp entry_meaning (λ es. es) u nothing m.core.state
  awaits = subst (λ cs. Awaits nat_cmp entry_meaning (λ es. es) u cs m.core.state) empty st.pending.core

  carried : Carried (setup_of first) t m.core.state.vote.leader_id u W [] (Knows (setup_of first) t.id m)
  carried = subst (λ cs. Carried (setup_of first) t m.core.state.vote.leader_id u W cs (Knows (setup_of first) t.id m)) empty st.carried

  stored : StoreIs (setup_of first) u (W.store t.id)
  stored = subst (λ (V : Ideal). StoreIs (setup_of first) u (V.store t.id)) (sym carried.chain) carried.store

  knows : Knows (setup_of first) t.id m W
  knows = subst (Knows (setup_of first) t.id m) (sym carried.chain) carried.knows

  fits_log : fits nat_cmp m.core.state.ids m.core.state.purged (meta_of entry_meaning es).last_log_id ≡ true
  fits_log = noted_fits (setup_of first) t.id u W m.core.state stored awaits.in_step st.sound.sound st.reached es noted

  within : is_within nat_cmp (meta_of entry_meaning es).last_log_id m.core.state.committed ≡ true
  within = noted_within (setup_of first) t.id u W m.core.state stored awaits.in_step st.sound.sound st.reached es noted

  abbrev End : WorldStore → Type 0
  End v = Ended (setup_of first) t.id u W stored awaits.ready st.reached es noted v

  came : (v : WorldStore) (z : End v) → Does (setup_of first) W z.world
  came v z = as_does (setup_of first) t.id W z.world z.did

  reached : (v : WorldStore) (z : End v) → Reached (setup_of first) z.world
  reached v z = does_then (setup_of first) _ W z.world st.reached (came v z)

  -- the empty queue is carried in the world then
  carried_now : (v : WorldStore) (z : End v) → CarriedIn (setup_of first) t v z.world m
  carried_now v z =
      subst (λ cs. Carried (setup_of first) t m.core.state.vote.leader_id v z.world cs (Knows (setup_of first) t.id m)) (sym empty)
      (record { end = z.world; chain = refl; store = z.store; knows = known_in (setup_of first) t.id W z.world (came v z) m z.keeps z.session knows })

  -- the node with this store
  ended : (v : WorldStore) (z : End v) → Shaped entry_meaning v → Ordered nat_cmp entry_meaning v → PendingIn nat_cmp entry_meaning (λ es. es) v after → CarriedIn (setup_of first) t v z.world after → StandsOn first config t v W after
  ended v z shaped ordered p c = record {
    end = z.world;
    came = came v z;
    quiet = z.did.quiet;
    apart = λ k d. ap (λ (X : Ideal). X.store k) (sym z.did.result) ∙ other_run (setup_of first) t.id z.did.deeds W k z.did.by d;
    session = z.session;
    store = z.store;
    shaped = shaped;
    stands = record {
      id = st.id;
      node = st.node;
      reached = reached v z;
      ordered = ordered;
      sound = finished_is_sound nat_cmp nat_cmp_total nat_same config meta m fits_log within st.sound;
      pending = p;
      carried = c;
    };
  }

  -- more is noted than the snapshot has
  built : length u.snap < length es → StandsOn first config t (record u { meta = meta; snap = es }) W after
  built l =
      let now : WorldState = m.core.state in
      let begins : es ≡ take (length es) (store.whole u) = noted_begins (setup_of first) t.id u W now stored awaits.in_step st.sound.sound st.reached es noted in
      let tells : Tells entry_meaning meta (take (length es) (store.whole u)) = subst (Tells entry_meaning meta) begins (meta_tells entry_meaning es) in
      let upto : length es ≤ next now.committed = noted_committed (setup_of first) t.id u W now stored awaits.in_step st.sound.sound st.reached es noted in
      let v : WorldStore = record u { meta = meta; snap = es } in
      let j : InStep entry_meaning v (record now { snap = meta }) =
      subst (λ ys. InStep entry_meaning (record u { meta = meta; snap = ys }) (record now { snap = meta })) (sym begins) (step_built entry_meaning u now meta (length es) awaits.in_step (omega (arith, l)) upto tells) in
      let ordered : Ordered nat_cmp entry_meaning v =
      subst (λ ys. Ordered nat_cmp entry_meaning (record u { meta = meta; snap = ys })) (sym begins) (built_ordered nat_cmp nat_cmp_total nat_same entry_meaning u now meta (length es) awaits.in_step st.ordered st.sound.sound (omega (arith, l)) upto tells) in
      let shaped : Shaped entry_meaning v = shaped_of entry_meaning v (record now { snap = meta }) j in
      let newer : is_newer_snapshot nat_cmp now meta ≡ true = noted_newer (setup_of first) t.id u W now stored awaits.in_step st.sound.sound st.reached es noted l in
      let waits : Pending nat_cmp entry_meaning (λ es. es) v (with_state m.core (record now { snap = meta })) =
      subst (λ cs. Awaits nat_cmp entry_meaning (λ es. es) v cs (record now { snap = meta })) (sym empty) (record { ready = shaped; in_step = j }) in
      let z : End v = built_followed (setup_of first) t.id u W stored awaits.ready st.reached es noted meta (omega (arith, l)) in
      ended v z shaped ordered (pending_finish nat_cmp nat_cmp_total nat_same entry_meaning (λ es. es) config v meta m newer waits st.sound fits_log)
      (carried_finish (setup_of first) t v z.world (reached v z) config meta m newer waits st.sound fits_log (carried_now v z))

  -- no more is noted than it has
  dropped : length es ≤ length u.snap → StandsOn first config t u W after
  dropped l =
      let older : is_newer_snapshot nat_cmp m.core.state meta ≡ false = noted_older (setup_of first) t.id u W m.core.state stored awaits.in_step st.sound.sound st.reached es noted l in
      let z : End u = dropped_followed (setup_of first) t.id u W stored awaits.ready st.reached es noted in
      ended u z awaits.ready st.ordered (pending_older nat_cmp nat_cmp_total nat_same entry_meaning (λ es. es) config u meta m older st.pending)
      (carried_older (setup_of first) t u z.world (reached u z) config meta m older (carried_now u z))

  -- the law
  pub build_ends : StandsOn first config t (keep_snapshot entry_meaning es u) W after
  build_ends =
      cond_both (nat_lt (length u.snap) (length es)) (record u { meta = meta; snap = es }) u (λ (v : WorldStore). StandsOn first config t v W after)
      (λ l. built (ltb-true (length u.snap) (length es) l)) (λ l. dropped (ltb-false (length u.snap) (length es) l))
