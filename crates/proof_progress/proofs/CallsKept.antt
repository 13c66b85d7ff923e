-- The calls of an event leave a node's whole log.
use Rattle.std.proofs.Common.{ℕ, zero, suc, ◌+◌, ◌<◌, ◌≤◌, ◌≡◌, Bool, true, false, List, [], ◌∷◌, ◌++◌, arith, drop, length, refl, sym, ap, ◌∙◌, subst, take, Option, None, Some}
use Rattle.std.specs.Prelude.{IfSome, if◌then◌else◌, nat_lt}
use Rattle.std.proofs.lemmas.Bool.{ltb-true}
use Rattle.std.proofs.Common.{take-append-drop}
use Rattle.std.specs.Map.{values_of}
use Rattle.std.specs.Ordering.{nat_cmp}
use Rattle.std.proofs.lemmas.Cmp.{nat_cmp_total}
use Rattle.proof_deeds.specs.raft_state.declared.ids.LogId.{LogId}
use Rattle.proof_deeds.specs.raft_state.declared.state.RaftState.{RaftState}
use Rattle.proof_deeds.specs.raft_state.Log.{last}
use Rattle.proof_deeds.specs.raft_state.Order.{next}
use Rattle.proof_deeds.specs.raft_state.Same.{nat_same}
use Rattle.proof_deeds.specs.raft_store.declared.entry.Entry.{Entry}
use Rattle.proof_deeds.specs.raft_store.Built.{meta_of}
use Rattle.proof_deeds.specs.raft_store.Entries.{entry_meaning}
use Rattle.proof_deeds.specs.raft_store.Restart.{forgotten, is_outrun, restarted, settled_by, started}
use Rattle.proof_deeds.specs.raft_store.Store.{past, whole}
use Rattle.proof_deeds.specs.raft_store.Types.{EngineView, WorldStore}
use Rattle.proof_deeds.proofs.raft_store_proofs.Lists.{Run, onward}
use Rattle.proof_deeds.specs.raft_schedule.declared.event.SkipReason.{SkipReason}
use Rattle.proof_deeds.specs.raft_schedule.declared.event.SkipReason.TheVariants.{NotRunning}
use Rattle.proof_deeds.specs.raft_schedule.declared.event.Start.TheVariants.{Plain, Saved, Bare}
use Rattle.proof_deeds.specs.raft_calls.Snapshots.{told_built}
use Rattle.proof_deeds.specs.raft_node.declared.act.Act.{Act}
use Rattle.proof_deeds.specs.raft_node.declared.act.Act.TheVariants.{ChangeLearners, ChangeMembership, Elect, Fail, FinishSnapshot, Initialize, Propose, Read, Restart, SendHeartbeat, StepDown, Stop, Take, TriggerPurge, TriggerSnapshot}
use Rattle.proof_deeds.specs.raft_node.declared.given.Given.{Given}
use Rattle.proof_deeds.specs.raft_node.Events.{calls_at, on_engine, skip_reason, skip_running, skip_stopped}
use Rattle.proof_deeds.specs.raft_node.Net.{NodeView, Records, stopped_node}
use Rattle.proof_deeds.specs.raft_node.Snapshots.{finish_snapshot, kept_built}
use Rattle.proof_deeds.specs.proof_mirror.Ready.{InStep, Ordered, Shaped}
use Rattle.proof_deeds.proofs.proof_mirror_proofs.Restarting.{restart_in_step}
use Rattle.proof_deeds.proofs.proof_mirror_proofs.Shape.{Shape, onward_whole, past_keyed, shape_of, whole_end, whole_run}
use Rattle.proof_deeds.specs.proof_agreement.Machine.{Setup}
use Rattle.proof_deeds.specs.Chains.{Reached}
use Rattle.proof_deeds.specs.Images.{Ideal, images, setup_of}
use Rattle.proof_deeds.specs.Nets.{EngineFollows, NodeFollows}
use Rattle.proof_deeds.proofs.Built.{built_begins}
use Rattle.proof_deeds.proofs.Overlap.{laps}
use Rattle.proof_deeds.proofs.Tails.{index, onward_drop}
use Rattle.proof_progress.proofs.FoundWhole.{settled_whole}
use Rattle.proof_progress.proofs.Growing.{Reaches}

-- it is the same, and the entries reach the snapshot's end
pub record Stays (n m : NodeView) : Type 0 where
  pub log : whole m.store ≡ whole n.store
  pub reaches : Reaches m.store

abbrev node_of : Option ℕ × NodeView → NodeView
node_of r = r.1

in_step_reaches : (u : WorldStore) (st : RaftState ℕ (Unit {0})) → InStep entry_meaning u st → Reaches u
in_step_reaches u st i = let h : Shape entry_meaning u st = shape_of entry_meaning u st i.mirrors i.marks in omega (arith, h.end, h.settled, h.top)

-- no more is taken than there is
short : (m : ℕ) (xs : List Entry) → m ≡ length (take m xs) → m ≤ length xs
short zero xs q = omega arith
short (suc m) [] q = omega (arith, q)
short (suc m) (x ∷ xs) q = let k : m ≤ length xs = short m xs (omega (arith, q)) in omega (arith, k)

-- a stopped node only starts
stopped_skips : (act : Act) (n : NodeView) → skip_stopped act ≡ Some NotRunning → skip_reason act n ≡ None → n.engine ≡ None → ⊥
stopped_skips act n k none q =
    let z : skip_stopped act ≡ None = sym (ap (λ o. elim o as (λ _. Option SkipReason) [ None ↦ skip_stopped act | Some e ↦ skip_running act n e ]) q) ∙ none in
    none_some (sym k ∙ z)
  where
    none_some : ◌≡◌ {A = Option SkipReason} (Some NotRunning) None → ⊥
    none_some q = cc

module _ (given : Given) (W : Ideal) (r : Records (List Entry)) (reached : Reached (setup_of given.membership) W) (n : NodeView) (f : NodeFollows (setup_of given.membership) W r n) where
  running : (e : EngineView) → n.engine ≡ Some e → EngineFollows (setup_of given.membership) n W e
  running e q = subst (λ o. IfSome o (EngineFollows (setup_of given.membership) n W)) q f.engine

  -- a running node's store
  here : (e : EngineView) → n.engine ≡ Some e → (m : NodeView) → m.store ≡ n.store → Stays n m
  here e q m s = record { log = ap whole s; reaches = subst Reaches (sym s) (in_step_reaches n.store e.machine.core.state (running e q).in_step) }

  calls_on : (g : EngineView → Option ℕ × EngineView) → (n.engine ≡ None → ⊥) → Stays n (node_of (on_engine g n))
  calls_on g runs = go n.engine refl
    where
      go : (o : Option EngineView) → n.engine ≡ o → Stays n (node_of (elim o as (λ _. Option ℕ × NodeView) [ None ↦ (None, n) | Some x ↦ (let r = g x in (r.0, record n { engine = Some r.1 })) ]))
      go None q = absurd (runs q)
      go (Some x) q = here x q (record n { engine = Some (g x).1 }) refl

  -- a snapshot that was built is the beginning of the log
  built_stays : (e : EngineView) → n.engine ≡ Some e → (es : List Entry) → n.noted ≡ Some es → length n.store.snap < length es → (m : NodeView) → m.store ≡ record n.store { meta = meta_of entry_meaning es; snap = es } → Stays n m
  built_stays e q es noted l m same =
      let s : Setup Entry = setup_of given.membership in
      let st : RaftState ℕ (Unit {0}) = e.machine.core.state in
      let i : InStep entry_meaning n.store e.machine.core.state = (running e q).in_step in
      let h : Shape entry_meaning n.store e.machine.core.state = shape_of entry_meaning n.store e.machine.core.state i.mirrors i.marks in
      let known : (W.store n.id).noted ≡ images es = subst (λ o. IfSome o (λ es. (W.store n.id).noted ≡ images es)) noted f.rest.noted in
      let begins : es ≡ take (length es) (whole n.store) = built_begins (setup_of given.membership) n.id n.store W f.store f.shaped reached es known in
      let k : Run index 0 (whole n.store) = whole_run entry_meaning n.store e.machine.core.state h in
      let a : past (length es) n.store.log ≡ onward index (length es) (values_of n.store.log) = ap (past (length es)) f.shaped.keys ∙ past_keyed entry_meaning (length es) (values_of n.store.log) in
      let b : onward index (length es) (whole n.store) ≡ onward index (length es) (values_of n.store.log) = onward_whole entry_meaning n.store e.machine.core.state (length es) h (omega (arith, l)) in
      let c : onward index (length es) (whole n.store) ≡ drop (length es) (whole n.store) =
      ap (λ m. onward index m (whole n.store)) (let z : length es ≡ 0 + length es = omega arith in z) ∙ onward_drop (length es) 0 (whole n.store) k in
      let d : length es ≤ length (whole n.store) = short (length es) (whole n.store) (ap (λ xs. length xs) begins) in
      let w : length (whole n.store) ≡ next (last e.machine.core.state.ids) = whole_end entry_meaning n.store e.machine.core.state h in
      record {
        log = ap whole same ∙ (ap (λ xs. xs ++ past (length es) n.store.log) begins ∙ (ap (λ ys. take (length es) (whole n.store) ++ ys) (a ∙ (sym b ∙ c)) ∙ take-append-drop (length es) (whole n.store)));
        reaches = subst Reaches (sym same) (let z : length es ≤ next n.store.front + length (values_of n.store.log) = omega (arith, d, w, h.end) in z);
      }

  finish_stays : (n.engine ≡ None → ⊥) → Stays n (node_of (finish_snapshot n))
  finish_stays runs = go n.engine refl
    where
      snapped : (e : EngineView) → n.engine ≡ Some e → (es : List Entry) → n.noted ≡ Some es → (m : EngineView) (b : Bool) → nat_lt (length n.store.snap) (length es) ≡ b
          → Stays n (record n { store = if b then record n.store { meta = meta_of entry_meaning es; snap = es } else n.store; engine = Some m; noted = None })
      snapped e q es noted m true z =
          built_stays e q es noted (ltb-true (length n.store.snap) (length es) z) (record n { store = record n.store { meta = meta_of entry_meaning es; snap = es }; engine = Some m; noted = None }) refl
      snapped e q es noted m false z = here e q (record n { engine = Some m; noted = None }) refl

      told : (e : EngineView) → n.engine ≡ Some e → (es : List Entry) → n.noted ≡ Some es → (r : Option ℕ × EngineView) → Stays n (node_of (kept_built es n r))
      told e q es noted (Some x, m) = here e q n refl
      told e q es noted (None, m) = snapped e q es noted m (nat_lt (length n.store.snap) (length es)) refl

      noted : (e : EngineView) → n.engine ≡ Some e → (o : Option (List Entry)) → n.noted ≡ o
          → Stays n (node_of (elim o as (λ _. Option ℕ × NodeView) [ None ↦ (None, n) | Some es ↦ kept_built es n (told_built es e) ]))
      noted e q None z = here e q n refl
      noted e q (Some es) z = told e q es z (told_built es e)

      go : (o : Option EngineView) → n.engine ≡ o
          → Stays n (node_of (elim o as (λ _. Option ℕ × NodeView) [ None ↦ (None, n) | Some e ↦ elim n.noted as (λ _. Option ℕ × NodeView) [ None ↦ (None, n) | Some es ↦ kept_built es n (told_built es e) ] ]))
      go None q = absurd (runs q)
      go (Some e) q = noted e q n.noted refl

  -- a start settles the store, which keeps the whole log
  started_stays : (saved : Bool) (m : NodeView) → m.store ≡ restarted nat_cmp entry_meaning saved n.store → Stays n m
  started_stays saved m same =
      let i : InStep entry_meaning (restarted nat_cmp entry_meaning saved n.store) (started nat_cmp entry_meaning saved n.store) = (restart_in_step nat_cmp nat_cmp_total nat_same entry_meaning saved n.store f.shaped f.ordered).0 in
      record {
        log = ap whole same ∙ settled_whole (setup_of given.membership) n.store (W.store n.id) f.store f.shaped (laps (setup_of given.membership) W reached n.id);
        reaches = subst Reaches (sym same) (in_step_reaches (restarted nat_cmp entry_meaning saved n.store) (started nat_cmp entry_meaning saved n.store) i);
      }

  shaped_bare : Shaped entry_meaning (forgotten n.store)
  shaped_bare = record { keys = f.shaped.keys; run = f.shaped.run; front = f.shaped.front; tells = f.shaped.tells; snap_run = f.shaped.snap_run; applied = f.shaped.applied; recorded = f.shaped.recorded }

  bare_stays : (m : NodeView) → m.store ≡ restarted nat_cmp entry_meaning false (forgotten n.store) → Stays n m
  bare_stays m same =
      let ordered : Ordered nat_cmp entry_meaning (forgotten n.store) = record { log = f.ordered.log; snapshot = f.ordered.snapshot; front = f.ordered.front } in
      let i : InStep entry_meaning (restarted nat_cmp entry_meaning false (forgotten n.store)) (started nat_cmp entry_meaning false (forgotten n.store)) =
      (restart_in_step nat_cmp nat_cmp_total nat_same entry_meaning false (forgotten n.store) shaped_bare ordered).0 in
      record {
        log = ap whole same ∙ (settles n.store.meta.last_log_id ∙ settled_whole (setup_of given.membership) n.store (W.store n.id) f.store f.shaped (laps (setup_of given.membership) W reached n.id));
        reaches = subst Reaches (sym same) (in_step_reaches (restarted nat_cmp entry_meaning false (forgotten n.store)) (started nat_cmp entry_meaning false (forgotten n.store)) i);
      }
    where
      -- the saved committed id is no part of it
      settles : (o : Option (LogId ℕ)) → whole (settled_by nat_cmp entry_meaning (forgotten n.store) o) ≡ whole (settled_by nat_cmp entry_meaning n.store o)
      settles None = refl
      settles (Some x) = go (is_outrun nat_cmp entry_meaning n.store x)
        where
          go : (b : Bool) → whole (if b then record n.store { log = []; front = Some x; saved = None } else forgotten n.store) ≡ whole (if b then record n.store { log = []; front = Some x } else n.store)
          go true = refl
          go false = refl

  pub calls_stay : (act : Act) → skip_reason act n ≡ None → Stays n (node_of (calls_at given act n))
  calls_stay Initialize none = calls_on _ (stopped_skips Initialize n refl none)
  calls_stay (Elect candidates) none = calls_on _ (stopped_skips (Elect candidates) n refl none)
  calls_stay (Take m) none = calls_on _ (stopped_skips (Take m) n refl none)
  calls_stay (Propose values) none = calls_on _ (stopped_skips (Propose values) n refl none)
  calls_stay SendHeartbeat none = calls_on _ (stopped_skips SendHeartbeat n refl none)
  calls_stay (Fail target) none = calls_on _ (stopped_skips (Fail target) n refl none)
  calls_stay TriggerSnapshot none = calls_on _ (stopped_skips TriggerSnapshot n refl none)
  calls_stay FinishSnapshot none = finish_stays (stopped_skips FinishSnapshot n refl none)
  calls_stay (TriggerPurge i) none = calls_on _ (stopped_skips (TriggerPurge i) n refl none)
  calls_stay (Restart Plain) none = started_stays false (node_of (calls_at given (Restart Plain) n)) refl
  calls_stay (Restart Saved) none = started_stays true (node_of (calls_at given (Restart Saved) n)) refl
  calls_stay (Restart Bare) none = bare_stays (node_of (calls_at given (Restart Bare) n)) refl
  calls_stay (ChangeLearners learners) none = calls_on _ (stopped_skips (ChangeLearners learners) n refl none)
  calls_stay (ChangeMembership groups learners) none = calls_on _ (stopped_skips (ChangeMembership groups learners) n refl none)
  calls_stay Read none = calls_on _ (stopped_skips Read n refl none)
  calls_stay StepDown none = calls_on _ (stopped_skips StepDown n refl none)
  calls_stay Stop none = go n.engine refl
    where
      go : (o : Option EngineView) → n.engine ≡ o → Stays n (stopped_node n)
      go None q = absurd (stopped_skips Stop n refl none q)
      go (Some e) q = here e q (stopped_node n) refl
