-- A node that is prepared for a step does in it what it would have done.
use Rattle.std.specs.Prelude.{ℕ, ◌≡◌, Bool, true, false, not, ◌&&◌, Option, None, Some, Result, Ok, Err, OnOk, is_some, nat_lt, refl, if◌then◌else◌}
use Rattle.std.proofs.Common.{ap, arith, subst, sym, ◌∙◌}
use Rattle.std.proofs.lemmas.Bool.Decides.{nat_tests}
use Rattle.std.specs.Ordering.{nat_cmp}
use Rattle.raft_error.specs.declared.error.EngineError.{EngineError}
use Rattle.raft_steps.specs.Refusals.{refusals_of_spent}
use Rattle.raft_steps.specs.SnapshotCalls.{finish_building_snapshot}
use Rattle.raft_store.specs.Types.{EngineView}
use Rattle.raft_schedule.specs.declared.event.Event.{Event}
use Rattle.raft_schedule.specs.declared.event.Start.{Start}
use Rattle.raft_node.specs.declared.act.Act.{Act}
use Rattle.raft_node.specs.declared.act.Act.TheVariants.{Initialize, Elect, Take, Propose, SendHeartbeat, Fail, TriggerSnapshot, FinishSnapshot, TriggerPurge, Restart, ChangeLearners, ChangeMembership, Read, StepDown, Stop}
use Rattle.raft_node.specs.declared.given.Given.{Given}
use Rattle.raft_node.specs.Events.{answer_at, moment_of, turn_of}
use Rattle.raft_calls.specs.Deliveries.{answered, with_machine}
use Rattle.raft_calls.specs.Weights.{weight_at}
use Rattle.proof_packed.specs.Nodes.{PackedNode, PackedRecords, PackedScene, packed_called_at, packed_calls, packed_finish, packed_finish_snapshot, packed_kept_built}
use Rattle.proof_packed.specs.Nodes.{packed_played, packed_with_answer, packed_work_of, without_store}
use Rattle.proof_packed.specs.Records.{packed_commands_at, packed_executed}
use Rattle.proof_packed.specs.Stores.{Application, Packed, PackedStore, packed_keep_snapshot, packed_meta}
use Rattle.raft_packed_wire.specs.raft_packed_node.Builds.{packed_kept_early}
use Rattle.raft_packed_wire.specs.raft_packed_node.Effects.{scene}
use Rattle.raft_packed_wire.specs.raft_packed_node.Held.{IsPackedAtRest, PackedMayCall}
use Rattle.raft_packed_wire.proofs.raft_packed_node_proofs.Ready.{may_call}
use Rattle.raft_packed_wire.specs.raft_packed.Kept.{IsNamedByEnd, folded, kept_if_noted}
use Rattle.raft_packed_wire.specs.declared.named.Named.{Named}
use Rattle.raft_packed_wire.specs.declared.named.Named.TheVariants.{Whole, Folded}
use Rattle.raft_packed_wire.specs.Named.{IsBeganBy}
use Rattle.raft_packed_wire.specs.declared.record.PackedBegan.{PackedBegan}
use Rattle.raft_packed_wire.specs.declared.record.PackedBegan.TheVariants.{Built, Settled, Unchanged}
use Rattle.proof_packed_servers.specs.Servers.{packed_call_effect}
use Rattle.raft_packed_server.specs.Began.{built_end, prepared_for}

not_below : (a : ℕ) → nat_lt a a ≡ false
not_below a = grind (arith, nat_tests)

-- what holds anyway, and what isn't there
pub on_any : {T E P : Type 0} (r : Result T E) → P → OnOk r P
on_any (Ok x) p = p
on_any (Err e) p = tt

pub none_there : {A : Type 0} (o : Option A) → ((x : A) → o ≡ Some x → ⊥) → o ≡ None
none_there None h = refl
none_there (Some x) h = absurd (h x refl)

module _ {S : Type 0} where
  -- a node with this engine, and this noted
  abbrev with_parts : Option EngineView → Option (Packed S) → PackedNode S → PackedNode S
  with_parts o q n = record n { engine = o; noted = q }

  abbrev replaced : Packed S → PackedStore S → PackedStore S
  replaced p t = record t { meta = packed_meta p; snap = p }

  -- a snapshot that is kept is kept no other way a second time
  kept_twice : (p : Packed S) (t : PackedStore S) → packed_keep_snapshot p (packed_keep_snapshot p t) ≡ packed_keep_snapshot p t
  kept_twice p t = go (nat_lt t.snap.end p.end) refl
    where
      same : (b : Bool) → ◌≡◌ {A = PackedStore S} (if b then replaced p t else replaced p t) (replaced p t)
      same true = refl
      same false = refl

      go : (b : Bool) → nat_lt t.snap.end p.end ≡ b
          → ◌≡◌ {A = PackedStore S} (packed_keep_snapshot p (if b then replaced p t else t)) (if b then replaced p t else t)
      go true is = same (nat_lt p.end p.end)
      go false is = ap (λ (b : Bool). if b then replaced p t else t) is

  -- What the end of a build keeps: nothing, or what is noted, which ends there
  pub record Ends (n : PackedNode S) (end : ℕ) : Type 0 where
    pub noted : Packed S
    pub is : n.noted ≡ Some noted
    pub at : noted.end ≡ end
    pub built : packed_call_effect FinishSnapshot n ≡ Built noted
    pub prepared : prepared_for FinishSnapshot n ≡ packed_kept_early n

  none_by : (o : Option EngineView) (q : Option (Packed S)) (n : PackedNode S) → built_end (with_parts o q n) ≡ None
      → (packed_call_effect FinishSnapshot (with_parts o q n) ≡ Unchanged) × (prepared_for FinishSnapshot (with_parts o q n) ≡ with_parts o q n)
  none_by None q n h = (refl, refl)
  none_by (Some e) None n h = (refl, refl)
  none_by (Some e) (Some p) n h = go (is_some (refusals_of_spent e.machine)) h
    where
      go : (b : Bool) → ◌≡◌ {A = Option ℕ} (if true && not b then Some p.end else None) None
          → ◌≡◌ {A = PackedBegan (Packed S)} (if b then Unchanged else Built p) Unchanged
          × ◌≡◌ {A = PackedNode S} (if true && not b then packed_kept_early (with_parts (Some e) (Some p) n) else with_parts (Some e) (Some p) n)
          (with_parts (Some e) (Some p) n)
      go true h = (refl, refl)
      go false h = absurd cc

  some_by : (o : Option EngineView) (q : Option (Packed S)) (n : PackedNode S) (end : ℕ) → built_end (with_parts o q n) ≡ Some end
      → Ends (with_parts o q n) end
  some_by None q n end h = absurd cc
  some_by (Some e) None n end h = absurd cc
  some_by (Some e) (Some p) n end h = record { noted = p; is = refl; at = at; built = both.0; prepared = both.1 }
    where
      begun_if : Bool → PackedBegan (Packed S)
      begun_if b = if b then Unchanged else Built p

      kept_if : Bool → PackedNode S
      kept_if b = if true && not b then packed_kept_early (with_parts (Some e) (Some p) n) else with_parts (Some e) (Some p) n

      end_if : Bool → Option ℕ
      end_if b = if true && not b then Some p.end else None

      fine : (b : Bool) → end_if b ≡ Some end → b ≡ false
      fine true h = absurd cc
      fine false h = refl

      ends : (b : Bool) → end_if b ≡ Some end → p.end ≡ end
      ends true h = absurd cc
      ends false h = cc

      at : p.end ≡ end
      at = ends (is_some (refusals_of_spent e.machine)) h

      both : (begun_if (is_some (refusals_of_spent e.machine)) ≡ Built p)
          × (kept_if (is_some (refusals_of_spent e.machine)) ≡ packed_kept_early (with_parts (Some e) (Some p) n))
      both =
          let no : is_some (refusals_of_spent e.machine) ≡ false = fine (is_some (refusals_of_spent e.machine)) h in
          (ap begun_if no, ap kept_if no)

  pub nothing_ends : (n : PackedNode S) → built_end n ≡ None
      → (packed_call_effect FinishSnapshot n ≡ Unchanged) × (prepared_for FinishSnapshot n ≡ n)
  nothing_ends n h = none_by n.engine n.noted n h

  pub ends : (n : PackedNode S) (end : ℕ) → built_end n ≡ Some end → Ends n end
  ends n end h = some_by n.engine n.noted n end h

  -- What is the same of a node that is to end a build, and of one that has kept what it noted, is the same of one that is prepared
  by_parts : {X : Type 0} (f : PackedNode S → X) (o : Option EngineView) (q : Option (Packed S)) (n : PackedNode S)
      → ((e : EngineView) (p : Packed S) → refusals_of_spent e.machine ≡ None
      → f (record n { store = packed_keep_snapshot p n.store; engine = Some e; noted = Some p }) ≡ f (with_parts (Some e) (Some p) n))
      → f (prepared_for FinishSnapshot (with_parts o q n)) ≡ f (with_parts o q n)
  by_parts f None q n h = refl
  by_parts f (Some e) None n h = refl
  by_parts f (Some e) (Some p) n h = go (refusals_of_spent e.machine) refl
    where
      set : PackedNode S
      set = with_parts (Some e) (Some p) n

      go : (r : Option (EngineError ℕ (Unit {0}))) → refusals_of_spent e.machine ≡ r
          → f (if true && not (is_some r) then packed_kept_early set else set) ≡ f set
      go None is = h e p is
      go (Some k) is = refl

  prepared_same : {X : Type 0} (f : Act → PackedNode S → X) (act : Act) (n : PackedNode S)
      → ((e : EngineView) (p : Packed S) → refusals_of_spent e.machine ≡ None
      → f FinishSnapshot (record n { store = packed_keep_snapshot p n.store; engine = Some e; noted = Some p }) ≡ f FinishSnapshot (with_parts (Some e) (Some p) n))
      → f act (prepared_for act n) ≡ f act n
  prepared_same f Initialize n finishes = refl
  prepared_same f (Elect candidates) n finishes = refl
  prepared_same f (Take m) n finishes = refl
  prepared_same f (Propose values) n finishes = refl
  prepared_same f SendHeartbeat n finishes = refl
  prepared_same f (Fail target) n finishes = refl
  prepared_same f TriggerSnapshot n finishes = refl
  prepared_same f FinishSnapshot n finishes = by_parts (f FinishSnapshot) n.engine n.noted n finishes
  prepared_same f (TriggerPurge i) n finishes = refl
  prepared_same f (Restart start) n finishes = refl
  prepared_same f (ChangeLearners learners) n finishes = refl
  prepared_same f (ChangeMembership groups learners) n finishes = refl
  prepared_same f Read n finishes = refl
  prepared_same f StepDown n finishes = refl
  prepared_same f Stop n finishes = refl

  pub engine_stays : (act : Act) (n : PackedNode S) → (prepared_for act n).engine ≡ n.engine
  engine_stays act n = prepared_same (λ act m. m.engine) act n (λ e p fine. refl)

  engine_same : (n : PackedNode S) → (prepared_for FinishSnapshot n).engine ≡ n.engine
  engine_same n = engine_stays FinishSnapshot n

  noted_same : (n : PackedNode S) → (prepared_for FinishSnapshot n).noted ≡ n.noted
  noted_same n = prepared_same (λ act m. m.noted) FinishSnapshot n (λ e p fine. refl)

  -- an act that neither starts a node nor ends a build
  pub others_begin_nothing : (act : Act) (n : PackedNode S) → ((start : Start) → act ≡ Restart start → ⊥) → (act ≡ FinishSnapshot → ⊥)
      → packed_call_effect act n ≡ Unchanged
  others_begin_nothing Initialize n starts ends = refl
  others_begin_nothing (Elect candidates) n starts ends = refl
  others_begin_nothing (Take m) n starts ends = refl
  others_begin_nothing (Propose values) n starts ends = refl
  others_begin_nothing SendHeartbeat n starts ends = refl
  others_begin_nothing (Fail target) n starts ends = refl
  others_begin_nothing TriggerSnapshot n starts ends = refl
  others_begin_nothing FinishSnapshot n starts ends = absurd (ends refl)
  others_begin_nothing (TriggerPurge i) n starts ends = refl
  others_begin_nothing (Restart start) n starts ends = absurd (starts start refl)
  others_begin_nothing (ChangeLearners learners) n starts ends = refl
  others_begin_nothing (ChangeMembership groups learners) n starts ends = refl
  others_begin_nothing Read n starts ends = refl
  others_begin_nothing StepDown n starts ends = refl
  others_begin_nothing Stop n starts ends = refl

-- How the log names that
module _ {S : Type 0} (app : Application S) where
  -- what has no snapshot names itself
  pub unchanged_names : (t : PackedStore S) (b : PackedBegan (Named S)) (d : PackedBegan (Packed S)) → d ≡ Unchanged → b ≡ Unchanged
      → IsBeganBy app t b d
  unchanged_names t b d effect is =
      subst (λ (x : PackedBegan (Packed S)). IsBeganBy app t b x) (sym effect) (subst (λ (x : PackedBegan (Named S)). IsBeganBy app t x Unchanged) (sym is) tt)

  pub settled_names : (t : PackedStore S) (b : PackedBegan (Named S)) (d : PackedBegan (Packed S)) → d ≡ Settled → b ≡ Settled
      → IsBeganBy app t b d
  settled_names t b d effect is =
      subst (λ (x : PackedBegan (Packed S)). IsBeganBy app t b x) (sym effect) (subst (λ (x : PackedBegan (Named S)). IsBeganBy app t x Settled) (sym is) tt)

  pub nothing_names : (n : PackedNode S) (b : PackedBegan (Named S)) → built_end n ≡ None → b ≡ Unchanged
      → IsBeganBy app n.store b (packed_call_effect FinishSnapshot n)
  nothing_names n b none is =
      unchanged_names n.store b (packed_call_effect FinishSnapshot n) (nothing_ends n none).0 is

  pub end_names : (n : PackedNode S) (end : ℕ) (b : PackedBegan (Named S)) → built_end n ≡ Some end → IsNamedByEnd app n.store n.noted
      → b ≡ Built (Folded end) → IsBeganBy app n.store b (packed_call_effect FinishSnapshot n)
  end_names n end b some named is =
      let e : Ends n end = ends n end some in
      let own : IsNamedByEnd app n.store (Some e.noted) = subst (λ o. IsNamedByEnd app n.store o) e.is named in
      subst (λ d. IsBeganBy app n.store b d) (sym e.built)
      (subst (λ x. IsBeganBy app n.store x (Built e.noted)) (sym is)
      (subst (λ i. packed_keep_snapshot (folded app n.store i) n.store ≡ packed_keep_snapshot e.noted n.store) e.at own))

  -- what was kept leaves the same, kept again
  kept_is : (p : Packed S) (t : PackedStore S) → packed_keep_snapshot (packed_keep_snapshot p t).snap t ≡ packed_keep_snapshot p t
  kept_is p t = go (nat_lt t.snap.end p.end) refl
    where
      go : (b : Bool) → nat_lt t.snap.end p.end ≡ b
          → ◌≡◌ {A = PackedStore S} (packed_keep_snapshot (if b then replaced p t else t).snap t) (if b then replaced p t else t)
      go true is = ap (λ (b : Bool). if b then replaced p t else t) is
      go false is = ap (λ (b : Bool). if b then replaced t.snap t else t) (not_below t.snap.end)

  kept_noted : (t : PackedStore S) (o : Option (Packed S)) (p : Packed S) → o ≡ Some p → kept_if_noted o t ≡ packed_keep_snapshot p t
  kept_noted t o p is = ap (λ x. kept_if_noted x t) is

  pub whole_names : (n m : PackedNode S) (end : ℕ) (b : PackedBegan (Named S)) → built_end n ≡ Some end → m ≡ packed_kept_early n
      → b ≡ Built (Whole m.store.snap) → IsBeganBy app n.store b (packed_call_effect FinishSnapshot n)
  whole_names n m end b some early is =
      let e : Ends n end = ends n end some in
      let there : m.store ≡ packed_keep_snapshot e.noted n.store =
      ap (λ (x : PackedNode S). x.store) early ∙ kept_noted n.store n.noted e.noted e.is in
      subst (λ d. IsBeganBy app n.store b d) (sym e.built)
      (subst (λ x. IsBeganBy app n.store x (Built e.noted)) (sym is)
      (ap (λ (u : PackedStore S). packed_keep_snapshot u.snap n.store) there ∙ kept_is e.noted n.store))

module _ {S : Type 0} (app : Application S) where
  abbrev pair_of : Option ℕ → PackedNode S → Option ℕ × PackedNode S
  pair_of refusal n = (refusal, n)

  -- it has what the act's calls ask for
  pub prepared_may : (act : Act) (n : PackedNode S) → PackedMayCall app act n → PackedMayCall app act (prepared_for act n)
  prepared_may Initialize n h = h
  prepared_may (Elect candidates) n h = h
  prepared_may (Take m) n h = h
  prepared_may (Propose values) n h = h
  prepared_may SendHeartbeat n h = h
  prepared_may (Fail target) n h = h
  prepared_may TriggerSnapshot n h = h
  prepared_may FinishSnapshot n h = λ e p runs noted. h e p (sym (engine_same n) ∙ runs) (sym (noted_same n) ∙ noted)
  prepared_may (TriggerPurge i) n h = h
  prepared_may (Restart start) n h = h
  prepared_may (ChangeLearners learners) n h = h
  prepared_may (ChangeMembership groups learners) n h = h
  prepared_may Read n h = h
  prepared_may StepDown n h = h
  prepared_may Stop n h = h

  -- so does one at rest
  pub prepared_rests : (act : Act) (n m : PackedNode S) → m ≡ prepared_for act n → IsPackedAtRest app n → PackedMayCall app act m
  prepared_rests act n m is h = subst (PackedMayCall app act) (sym is) (prepared_may act n (may_call app act n h))

  module _ (given : Given) where
    module _ (e : EngineView) (p : Packed S) (fine : refusals_of_spent e.machine ≡ None) where
      abbrev set : PackedNode S → PackedNode S
      set n = record n { engine = Some e; noted = Some p }

      abbrev kept : PackedNode S → PackedNode S
      kept n = record n { store = packed_keep_snapshot p n.store; engine = Some e; noted = Some p }

      told : (n : PackedNode S) → packed_finish_snapshot app (kept n) ≡ packed_finish_snapshot app (set n)
      told n =
          let after : EngineView = with_machine e (finish_building_snapshot nat_cmp e.config (packed_meta p) e.machine) in
          subst (λ (r : Option (EngineError ℕ (Unit {0}))). packed_kept_built app p (kept n) (answered r e after) ≡ packed_kept_built app p (set n) (answered r e after))
          (sym fine)
          (ap (λ (t : PackedStore S). pair_of None (record n { store = t; engine = Some after; noted = None })) (kept_twice p n.store))

      called : (moment : ℕ) (n : PackedNode S) (w : PackedRecords S)
          → packed_calls app given FinishSnapshot (packed_called_at app moment (scene (kept n) w)) ≡ packed_calls app given FinishSnapshot (packed_called_at app moment (scene (set n) w))
      called moment n w =
          ap (λ (r : Option ℕ × PackedNode S). scene_after r) (told (record n { moment = moment }))
        where
          scene_after : Option ℕ × PackedNode S → Option ℕ × PackedScene S
          scene_after r = (r.0, record { node = r.1; records = packed_with_answer app (answer_at FinishSnapshot (without_store app r.1)) w })

    module _ (brought : Packed S) (event : Event) (w : PackedRecords S) where
      pub prepared_plays : (act : Act) (n : PackedNode S)
          → packed_played app given act brought event (scene (prepared_for act n) w) ≡ packed_played app given act brought event (scene n w)
      unfolding packed_played
      prepared_plays act n =
          prepared_same (λ act m. packed_played app given act brought event (scene m w)) act n (λ e p fine. played e p fine n)
        where
          played : (e : EngineView) (p : Packed S) (fine : refusals_of_spent e.machine ≡ None) (n : PackedNode S)
              → packed_played app given FinishSnapshot brought event (scene (kept e p fine n) w) ≡ packed_played app given FinishSnapshot brought event (scene (set e p fine n) w)
          played e p fine n =
              let moment : ℕ = moment_of event (without_store app n) in
              ap (λ (r : Option ℕ × PackedScene S). packed_finish app (turn_of FinishSnapshot (without_store app (record n { moment = moment }))) brought event.stop r.0 r.1)
              (called e p fine moment n w)

      pub prepared_commands : (act : Act) (n : PackedNode S)
          → packed_commands_at app given act brought event (scene (prepared_for act n) w) ≡ packed_commands_at app given act brought event (scene n w)
      prepared_commands act n =
          prepared_same (λ act m. packed_commands_at app given act brought event (scene m w)) act n (λ e p fine. commanded e p fine n)
        where
          commanded : (e : EngineView) (p : Packed S) (fine : refusals_of_spent e.machine ≡ None) (n : PackedNode S)
              → packed_commands_at app given FinishSnapshot brought event (scene (kept e p fine n) w) ≡ packed_commands_at app given FinishSnapshot brought event (scene (set e p fine n) w)
          commanded e p fine n =
              let moment : ℕ = moment_of event (without_store app n) in
              ap (λ (r : Option ℕ × PackedScene S).
              packed_executed app (turn_of FinishSnapshot (without_store app (record n { moment = moment }))) brought
              (weight_at (packed_work_of app event.stop r.1).engine) (packed_work_of app event.stop r.1))
              (called e p fine moment n w)
