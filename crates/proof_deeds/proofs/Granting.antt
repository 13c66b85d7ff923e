-- A leader commits what its table grants.
use Rattle.std.proofs.Common.{ℕ, zero, suc, ◌+◌, ◌<◌, ◌≤◌, ◌≡◌, inl, inr, ⊎_elim, Bool, true, List, [], ◌∷◌, ◌++◌, length, take, arith, refl, sym, ap, ◌∙◌, subst, Option, None, Some}
use Rattle.std.specs.Prelude.{if◌then◌else◌}
use Rattle.std.specs.List.{AllByRecursion}
use Rattle.std.specs.Ordering.{is_eq, nat_cmp}
use Rattle.std.proofs.lemmas.Bool.{cond_both}
use Rattle.raft_node.specs.raft_state.declared.ids.LeaderId.{LeaderId}
use Rattle.raft_node.specs.raft_state.declared.ids.LogId.{LogId}
use Rattle.raft_node.specs.raft_state.declared.membership.StoredMembership.{StoredMembership}
use Rattle.raft_node.specs.raft_state.Log.{at}
use Rattle.raft_node.specs.raft_state.Order.{next, leader_id_cmp}
use Rattle.raft_node.specs.raft_state.Policy.{should_snapshot}
use Rattle.raft_node.specs.raft_state.Same.{nat_same, leader_id_same}
use Rattle.raft_node.specs.raft_state.Sorted.{has_id}
use Rattle.raft_node.specs.raft_state.State.{commit, commits, settle}
use Rattle.raft_node.proofs.raft_state_proofs.Orders.{is_equal}
use Rattle.raft_node.specs.raft_progress.Quorum.{is_quorum}
use Rattle.raft_node.specs.raft_command.Push.{ordered, committed_upto}
use Rattle.raft_node.specs.raft_command.Queue.{queued}
use Rattle.raft_node.specs.raft_command.declared.command.Command.TheVariants as command
use Rattle.raft_node.specs.raft_command.declared.config.EngineConfig.{EngineConfig}
use Rattle.raft_node.specs.raft_command.declared.sm.CommandPayload.TheVariants as payload
use Rattle.raft_node.specs.raft_steps.Commit.{commit_by}
use Rattle.raft_node.specs.raft_steps.Invariants.{IsSoundLed}
use Rattle.raft_node.specs.raft_proposer.Leader.{granted_id}
use Rattle.raft_node.specs.raft_steps.Parts.{under}
use Rattle.raft_node.specs.raft_steps.ReplicationHandler.{try_commit_quorum_accepted, commit_granted}
use Rattle.raft_node.specs.raft_steps.SnapshotHandler.{trigger_snapshot, snapshot_where_due}
use Rattle.proof_agreement.specs.Machine.{Setup, Includes}
use Rattle.proof_agreement.specs.Stores.{AppendRequest, whole, entry_at}
use Rattle.proof_agreement.specs.Deeds.{CommitByQuorum, LeaderCommit, MayCommitAsLeader, heartbeat, with_committed, does}
use Rattle.raft_node.specs.raft_store.declared.entry.Entry.{Entry}
use Rattle.raft_node.specs.raft_store.Entries.{entry_meaning}
use Rattle.raft_node.specs.raft_store.Store as store
use Rattle.raft_node.specs.raft_store.Store.{due}
use Rattle.raft_node.specs.raft_store.Types.{WorldStore, WorldCommand, WorldLeader}
use Rattle.raft_node.proofs.raft_store_proofs.Lists.{Run}
use Rattle.proof_mirror.specs.Ready.{InStep}
use Rattle.proof_mirror.proofs.Commits.{settled_parts, step_commit}
use Rattle.proof_mirror.proofs.Shape.{shape_of, whole_run, applied_length}
use Rattle.raft_node.specs.declared.node.Turn.{Turn}
use Rattle.raft_node.specs.raft_calls.Feeds.{WorldLed}
use Rattle.proof_deeds.specs.Chains.{stored, left_by, Done, Carried}
use Rattle.proof_deeds.specs.Follows.{StoreIs}
use Rattle.proof_deeds.specs.Images.{Ideal, IdealStore, IsNamed, number, image, images}
use Rattle.proof_deeds.specs.Knows.{KnowsLed}
use Rattle.proof_deeds.proofs.CommitPushes.{each_behind, stands_at, done_decide, done_commit}
use Rattle.proof_deeds.proofs.Decides.{by, tail_at, tail_inside, fits_x, may_decide}
use Rattle.proof_deeds.proofs.Keeps.{Keeps, known_accepted, known_led}
use Rattle.proof_deeds.proofs.LeaderSends.{KnowsIn, CarriedLed, Owns, stable_led, tail_streams}
use Rattle.proof_deeds.proofs.Noting.{carried_noted}
use Rattle.proof_deeds.proofs.Pushes.{left_more, push}
use Rattle.proof_deeds.proofs.Quorums.{Means}
use Rattle.proof_deeds.proofs.Roles.{WorldCore, WorldState}
use Rattle.proof_deeds.proofs.Stored.{each_take}
use Rattle.proof_deeds.proofs.Tails.{index, tail_whole, tail_vote, tail_committed}
use Rattle.proof_deeds.proofs.Worlds.{Within, done_does, within_of}

-- of another state of the same vote
led_on : (s : Setup Entry) (n : ℕ) (st st2 : WorldState) (l : WorldLeader) (V : Ideal) → st2.vote ≡ st.vote → KnowsLed s n st l V → KnowsLed s n st2 l V
led_on s n st st2 l V e k = record { vote = k.vote ∙ sym e; session = k.session; rows = k.rows; above = k.above }

-- the first entries of a run are below its end
take_low : (k n : ℕ) (xs : List Entry) → Run index n xs → AllByRecursion (λ e. index e < n + k) (take k xs)
take_low zero n xs r = tt
take_low (suc k) n [] r = tt
take_low (suc k) n (x ∷ xs) r = (omega (arith, r.0), let e : (n + 1) + k ≡ n + suc k = omega arith in subst (λ m. AllByRecursion (λ e. index e < m) (take k xs)) e (take_low k (n + 1) xs r.1))

module _ (s : Setup Entry) (t : Turn) (u : WorldStore) (W : Ideal) where
  -- what is due stands in the ideal whole log
  pub due_stands : (T : WorldStore) (S : IdealStore) (st : WorldState) (x : LogId ℕ) → StoreIs s T S → InStep entry_meaning T st → at st.ids x.index ≡ Some x → next st.committed ≤ x.index
      → (length (T.applied ++ due T x) ≡ suc x.index) × (AllByRecursion (λ e. entry_at s (whole S) (index e) ≡ image e) (due T x) × AllByRecursion (λ e. index e < suc x.index) (due T x))
  due_stands T S st x h j a l =
      let st2 : WorldState = record (settle nat_cmp st (Some x)) { committed = Some x } in
      let k : InStep entry_meaning (record T { saved = Some x; applied = T.applied ++ due T x }) (record (settle nat_cmp st (Some x)) { committed = Some x }) = step_commit entry_meaning nat_cmp T st x j a l in
      let r : Run index 0 (store.whole T) = whole_run entry_meaning T st (shape_of entry_meaning T st j.mirrors j.marks) in
      let d : T.applied ++ due T x ≡ take (x.index + 1) (store.whole T) = k.applied in
      let n : length (T.applied ++ due T x) ≡ x.index + 1 = applied_length entry_meaning (record T { saved = Some x; applied = T.applied ++ due T x }) (record (settle nat_cmp st (Some x)) { committed = Some x }) k in
      let p : AllByRecursion (λ e. entry_at s (images (store.whole T)) (index e) ≡ image e) (store.whole T) = stands_at s [] (store.whole T) r in
      let e : 0 + (x.index + 1) ≡ suc x.index = omega arith in (
        omega (arith, n),
        (
          each_behind (λ e. entry_at s (whole S) (index e) ≡ image e) T.applied (due T x)
              (subst (AllByRecursion (λ e. entry_at s (whole S) (index e) ≡ image e)) (sym d)
              (each_take (λ e. entry_at s (whole S) (index e) ≡ image e) (x.index + 1) (store.whole T) (subst (λ ys. AllByRecursion (λ e. entry_at s ys (index e) ≡ image e) (store.whole T)) (sym (tail_whole s T S st h j)) p))),
          each_behind (λ e. index e < suc x.index) T.applied (due T x)
              (subst (AllByRecursion (λ e. index e < suc x.index)) (sym d) (subst (λ m. AllByRecursion (λ e. index e < m) (take (x.index + 1) (store.whole T))) e (take_low (x.index + 1) 0 (store.whole T) r))),
        ),
      )

  -- a snapshot is built, where it is due
  pub carried_trigger : (l : WorldLed) → InStep entry_meaning (left_by u l.core.output.items) l.core.state → CarriedLed s t u W l → CarriedLed s t u W (under trigger_snapshot l)
  unfolding trigger_snapshot
  carried_trigger l j h =
      cond_both l.core.state.building l.core (record { state = record l.core.state { building = true }; output = ordered l.core.output payload.BuildSnapshot }) (λ (c : WorldCore). CarriedLed s t u W (record l { core = c }))
      (λ _. h) (λ _. noted)
    where
      built : WorldLed
      built = record l { core = record { state = record l.core.state { building = true }; output = ordered l.core.output payload.BuildSnapshot } }

      noted : CarriedLed s t u W built
      noted =
          carried_noted s t u W l.core.state.vote.leader_id l.core (KnowsIn s t l) (KnowsIn s t built) j
          (λ V X came e q k. (
            known_accepted s t.id V X (within_of s V X came) l.core.state e k.0,
            led_on s t.id l.core.state built.core.state l.leader X refl (known_led s t.id V X came l.core.state l.leader e.vote q k.1),
          )) h

  pub carried_due : (config : EngineConfig ℕ) (l : WorldLed) → InStep entry_meaning (left_by u l.core.output.items) l.core.state → CarriedLed s t u W l → CarriedLed s t u W (under (snapshot_where_due config) l)
  unfolding snapshot_where_due
  carried_due config l j h =
      cond_both (should_snapshot config.snapshot_policy l.core.state) (trigger_snapshot l.core) l.core (λ (c : WorldCore). CarriedLed s t u W (record l { core = c }))
      (λ _. carried_trigger l j h) (λ _. h)

module _ (s : Setup Entry) (means : Means s) (t : Turn) (config : EngineConfig ℕ) (u : WorldStore) (W : Ideal) where
  module _ (l : WorldLed) (j : InStep entry_meaning (left_by u l.core.output.items) l.core.state) (sound : IsSoundLed nat_cmp config l) (o : Owns s t l) (x : LogId ℕ) (granted_x : granted_id nat_cmp (is_quorum nat_cmp) l.leader ≡ Some x)
      (mine : x.leader_id ≡ l.core.state.vote.leader_id) (g : commits nat_cmp l.core.state (Some x) ≡ true) where
    abbrev v : LeaderId ℕ
    v = l.core.state.vote.leader_id

    abbrev T : WorldStore
    T = left_by u l.core.output.items

    abbrev quorum : ℕ → Bool
    quorum = has_id nat_cmp (by s means t config l sound x granted_x)

    abbrev decide : WorldCommand
    decide = command.ReplicateCommitted (Some x)

    placed : (at l.core.state.ids x.index ≡ Some x) × (next l.core.state.committed ≤ x.index)
    placed = fits_x s means t config l sound x granted_x g

    -- the heartbeat that tells it was sent
    abbrev KnowsDecided : Ideal → Type 0
    KnowsDecided V = KnowsIn s t l V × Includes V.messages (AppendRequest (heartbeat (V.store t.id) (suc x.index)))

    decided : CarriedLed s t u W l → Carried s t v u W (l.core.output.items ++ decide ∷ []) KnowsDecided
    decided h =
        push s t v u W l.core.output.items decide (KnowsIn s t l) KnowsDecided h
        (λ V y k.
        let X : Ideal = does s V (CommitByQuorum t.id x.index quorum) in
        let d : Done s t v T decide V (does s V (CommitByQuorum t.id x.index quorum)) =
        done_decide s t v T x quorum V y.store (tail_whole s T (V.store t.id) l.core.state y.store j) (tail_at s T (V.store t.id) l.core.state y.store j x placed.0 placed.1).1
        (tail_vote s T (V.store t.id) l.core.state y.store j ∙ ap number (sym mine)) (may_decide s means t config l sound x granted_x T V y.store j k.1 o g mine) in (
          X,
          d,
          (stable_led s t l V X (done_does s t v T decide V X d) refl k, inl refl),
        ))

    -- with what commit the queue goes on
    abbrev told : WorldCommand
    told = command.Commit (l.core.output.seq + 1) l.core.state.committed x

    abbrev led_then : StoredMembership ℕ (Unit {0}) → WorldLed
    led_then cm = record l { core = record { state = record l.core.state { cm = cm; committed = Some x }; output = committed_upto (queued l.core.output (decide ∷ [])) l.core.state.committed x } }

    same_store : left_by u (l.core.output.items ++ decide ∷ []) ≡ T
    same_store = left_more u l.core.output.items (decide ∷ [])

    committed : CarriedLed s t u W l → (cm : StoredMembership ℕ (Unit {0})) → CarriedLed s t u W (led_then cm)
    committed h cm =
        push s t v u W (l.core.output.items ++ decide ∷ []) told KnowsDecided (KnowsIn s t (led_then cm)) (decided h)
        (λ V y k. subst (λ w. (X : Ideal) × Done s t v w told V X × KnowsIn s t (led_then cm) X) (sym same_store) (one V (subst (λ w. StoreIs s w (V.store t.id)) same_store y.store) k))
      where
        one : (V : Ideal) → StoreIs s T (V.store t.id) → KnowsDecided V → (X : Ideal) × Done s t v T told V X × KnowsIn s t (led_then cm) X
        one V z k =
            let S : IdealStore = V.store t.id in
            let d : (length (T.applied ++ due T x) ≡ suc x.index) × (AllByRecursion (λ e. entry_at s (whole (V.store t.id)) (index e) ≡ image e) (due T x) × AllByRecursion (λ e. index e < suc x.index) (due T x)) = due_stands s t u W T (V.store t.id) l.core.state x z j placed.0 placed.1 in
            let a : ((entry_at s (whole (V.store t.id)) x.index).leader ≡ number x.leader_id) × IsNamed x.leader_id = tail_at s T (V.store t.id) l.core.state z j x placed.0 placed.1 in
            let q : (V.store t.id).committed ≡ next l.core.state.committed = tail_committed s T (V.store t.id) l.core.state z j in
            let inside : x.index < length (whole (V.store t.id)) = tail_inside s T (V.store t.id) l.core.state z j x placed.0 in
            let m : MayCommitAsLeader s V t.id (heartbeat (V.store t.id) (suc x.index)) (suc x.index) = record {
              leads = (tail_streams s means.owner t T V l z j k.0.1 o).leads;
              told_by_leader = record { sent = k.1; session = k.0.1.session };
              held = omega (arith, inside);
              told_so = omega arith;
              higher = omega (arith, q, placed.1);
            } in
            let y : (X : Ideal) × Done s t v T told V X × Within V X × (X.store t.id ≡ with_committed s (V.store t.id) (suc x.index)) =
            done_commit s t v T (l.core.output.seq + 1) l.core.state.committed x (LeaderCommit t.id (heartbeat (V.store t.id) (suc x.index)) (suc x.index)) V z refl m tt tt refl a.0 a.1 d.0 d.1.0 d.1.1 in (
              y.0,
              y.1,
              (
                known_accepted s t.id V y.0 y.2 l.core.state (subst (Keeps s (V.store t.id)) (sym y.3) (keeps (V.store t.id) (omega (arith, q, placed.1)))) k.0.0,
                led_on s t.id l.core.state (led_then cm).core.state l.leader y.0 refl (known_led s t.id V y.0 (done_does s t v T told V y.0 y.1) l.core.state l.leader (ap (λ (Z : IdealStore). Z.vote) y.3) (ap (λ (Z : IdealStore). Z.session) y.3) k.0.1),
              ),
            )
          where
            keeps : (S : IdealStore) → S.committed ≤ suc x.index → Keeps s S (with_committed s S (suc x.index))
            keeps S b = record { vote = refl; vote_committed = refl; committed = b; holds = λ k y h. ⊎_elim (λ l. inl (omega (arith, l, b))) (λ p. inr p) h }

    -- the state once it is committed
    abbrev led_committed : WorldLed
    led_committed = record l { core = record { state = commit nat_cmp l.core.state (Some x); output = committed_upto (queued l.core.output (decide ∷ [])) l.core.state.committed x } }

    carried_committed : CarriedLed s t u W l → CarriedLed s t u W led_committed
    carried_committed h =
        subst (λ b. CarriedLed s t u W (record l { core = record { state = (if b then record (settle nat_cmp l.core.state (Some x)) { committed = Some x } else l.core.state); output = committed_upto (queued l.core.output (decide ∷ [])) l.core.state.committed x } })) (sym g)
        (settled_parts entry_meaning nat_cmp (λ (st : WorldState). CarriedLed s t u W (record l { core = record { state = st; output = committed_upto (queued l.core.output (decide ∷ [])) l.core.state.committed x } })) l.core.state x (committed h l.core.state.cm) (committed h l.core.state.em))

    step_committed : InStep entry_meaning (left_by u led_committed.core.output.items) led_committed.core.state
    step_committed =
        subst (λ w. InStep entry_meaning w (commit nat_cmp l.core.state (Some x))) (sym (left_more u (l.core.output.items ++ decide ∷ []) (told ∷ [])))
        (subst (λ w. InStep entry_meaning (stored told w) (commit nat_cmp l.core.state (Some x))) (sym same_store)
        (subst (λ b. InStep entry_meaning (stored told T) (if b then record (settle nat_cmp l.core.state (Some x)) { committed = Some x } else l.core.state)) (sym g) (step_commit entry_meaning nat_cmp T l.core.state x j placed.0 placed.1)))

  -- what the table grants is committed
  pub carried_granted : (l : WorldLed) → InStep entry_meaning (left_by u l.core.output.items) l.core.state → IsSoundLed nat_cmp config l → Owns s t l → CarriedLed s t u W l → CarriedLed s t u W (commit_granted nat_cmp config l)
  unfolding try_commit_quorum_accepted commit_by
  carried_granted l j sound o h = go (granted_id nat_cmp (is_quorum nat_cmp) l.leader) refl where
    go : (x : Option (LogId ℕ)) → granted_id nat_cmp (is_quorum nat_cmp) l.leader ≡ x → CarriedLed s t u W (under (try_commit_quorum_accepted nat_cmp config x) l)
    go None e = h
    go (Some x) e =
        cond_both (is_eq (leader_id_cmp nat_cmp x.leader_id l.core.state.vote.leader_id)) (commit_by nat_cmp config (command.ReplicateCommitted (Some x) ∷ []) (Some x) l.core) l.core (λ (c : WorldCore). CarriedLed s t u W (record l { core = c }))
        (λ m. let mine : x.leader_id ≡ l.core.state.vote.leader_id = leader_id_same nat_cmp nat_same x.leader_id l.core.state.vote.leader_id (is_equal _ m) in
        cond_both (commits nat_cmp l.core.state (Some x))
        (snapshot_where_due config (record { state = commit nat_cmp l.core.state (Some x); output = committed_upto (queued l.core.output (command.ReplicateCommitted (Some x) ∷ [])) l.core.state.committed x })) l.core (λ (c : WorldCore). CarriedLed s t u W (record l { core = c }))
        (λ g. carried_due s t u W config (led_committed l j sound o x e mine g) (step_committed l j sound o x e mine g) (carried_committed l j sound o x e mine g h))
        (λ _. h))
        (λ _. h)
