-- The entries that nodes store and send stay of a kind in each run, if the memberships that leaders propose are.
use Rattle.std.proofs.Common.{ℕ, zero, suc, append-nil, append_assoc, ◌-◌, ◌≡◌, Bool, true, false, List, [], ◌∷◌, ◌++◌, length, map, refl, sym, ap, ◌∙◌, subst, Option, None, Some}
use Rattle.std.specs.Prelude.{Contains, if◌then◌else◌, nat_eq, nat_lt, slice_get, slice_set}
use Rattle.std.specs.List.{AllByRecursion}
use Rattle.std.specs.Option.{option_map}
use Rattle.std.specs.Ordering.{nat_cmp}
use Rattle.std.proofs.lemmas.List.Elements.{All-contains, All-contains_itself, recursion_from_All}
use Rattle.proof_deeds.specs.raft_state.declared.ids.LogId.{LogId}
use Rattle.proof_deeds.specs.raft_state.Order.{next}
use Rattle.proof_deeds.proofs.raft_state_proofs.LogLists.{each_append}
use Rattle.proof_deeds.specs.raft_store.declared.entry.Entry.{Entry}
use Rattle.proof_deeds.specs.raft_store.Built.{meta_of}
use Rattle.proof_deeds.specs.raft_store.Entries.{entry_meaning}
use Rattle.proof_deeds.specs.raft_store.Restart.{forgotten, is_outrun, restarted, settled, settled_by, start_committed}
use Rattle.proof_deeds.specs.raft_store.Store.{whole}
use Rattle.proof_deeds.specs.raft_store.Types.{EngineView, WorldLeader, WorldStore}
use Rattle.proof_deeds.specs.raft_schedule.declared.event.Event.{Event}
use Rattle.proof_deeds.specs.raft_schedule.declared.event.EventKind.{EventKind}
use Rattle.proof_deeds.specs.raft_schedule.declared.event.EventKind.TheVariants as kinds
use Rattle.proof_deeds.specs.raft_schedule.declared.event.Outcome.{Outcome}
use Rattle.proof_deeds.specs.raft_schedule.declared.event.Outcome.TheVariants.{Skipped}
use Rattle.proof_deeds.specs.raft_schedule.declared.event.SkipReason.{SkipReason}
use Rattle.proof_deeds.specs.raft_schedule.declared.event.SkipReason.TheVariants.{NoMessage, NotRunning}
use Rattle.proof_deeds.specs.raft_schedule.declared.event.Start.TheVariants.{Plain, Saved, Bare}
use Rattle.proof_deeds.specs.raft_node.declared.act.Act.{Act}
use Rattle.proof_deeds.specs.raft_node.declared.act.Act.TheVariants.{ChangeLearners, ChangeMembership, Elect, Fail, FinishSnapshot, Initialize, Propose, Read, Restart, SendHeartbeat, StepDown, Stop, Take, TriggerPurge, TriggerSnapshot}
use Rattle.proof_deeds.specs.raft_node.declared.act.Aim.{Aim}
use Rattle.proof_deeds.specs.raft_node.declared.given.Given.{Given}
use Rattle.proof_deeds.specs.raft_calls.declared.elections.Candidates.TheVariants.{AllMembers, Voters}
use Rattle.proof_deeds.specs.raft_calls.declared.message.Message.{Message}
use Rattle.proof_deeds.specs.raft_node.Events.{Scene, called_at, calls, moment_of, aim_of, at_node, at_place, calls_at, finish, happens, message_at, on_engine, place_of, played, skip_reason, turn_of, work_of}
use Rattle.proof_deeds.specs.raft_calls.Elections.{first_entry}
use Rattle.proof_deeds.specs.raft_calls.Memberships.{groups_in, members_with, membership_entry}
use Rattle.proof_deeds.specs.raft_node.Net.{Net, NodeView, empty_net, new_node}
use Rattle.proof_deeds.specs.raft_node.Runs.{whole_logs, world_after}
use Rattle.proof_deeds.specs.raft_node.Snapshots.{finish_snapshot, kept_built}
use Rattle.proof_deeds.specs.raft_calls.Snapshots.{told_built}
use Rattle.proof_deeds.specs.raft_node.WellFormed.{IsWellFormed}
use Rattle.proof_deeds.specs.raft_node.Work.{weight, worked}
use Rattle.proof_deeds.specs.raft_node.Held.{IsAtRest}
use Rattle.proof_deeds.specs.raft_calls.Held.{IsRestingWhereRunning}
use Rattle.proof_deeds.proofs.Nodes.{each_at, placed_id}
use Rattle.proof_deeds.proofs.Proved.{after_resting}
use Rattle.proof_deeds.proofs.Stored.{each_take}
use Rattle.proof_progress.proofs.CanElect.{goes_after}
use Rattle.proof_progress.proofs.EntriesCalled.{ActOf, QueueBrings, Rested, calls_leave, proposed_by}
use Rattle.proof_progress.proofs.EntriesQueued.{BodyOf, IsCommon}
use Rattle.proof_progress.proofs.EntriesStored.{StoreOf, WorkOf, whole_keeps, worked_keeps}

module _ (K : Entry → Type 0) where
  -- Stores between events

  pub record NodeOf (n : NodeView) : Type 0 where
    pub store : StoreOf K n.store
    pub noted : (es : List Entry) → n.noted ≡ Some es → AllByRecursion K es

  pub record NetOf (net : Net (List Entry)) : Type 0 where
    pub nodes : AllByRecursion NodeOf net.nodes
    pub bag : AllByRecursion (λ (m : Message). BodyOf K m.body) net.records.bag

  -- what calls change of a node besides its engine
  engine_keeps : (f : EngineView → Option ℕ × EngineView) (n : NodeView) → NodeOf n → NodeOf (on_engine f n).1
  engine_keeps f n h = go n.engine
    where
      second : Option ℕ × NodeView → NodeView
      second r = r.1

      go : (o : Option EngineView) → NodeOf (second (elim o as (λ _. Option ℕ × NodeView) [ None ↦ (None, n) | Some e ↦ (let r = f e in (r.0, record n { engine = Some r.1 })) ]))
      go None = h
      go (Some e) = record { store = h.store; noted = h.noted }

  built_keeps : (n : NodeView) → NodeOf n → NodeOf (finish_snapshot n).1
  built_keeps n h = go n.engine
    where
      second : Option ℕ × NodeView → NodeView
      second r = r.1

      snapped : (es : List Entry) → AllByRecursion K es → (b : Bool) → StoreOf K (if b then record n.store { meta = meta_of entry_meaning es; snap = es } else n.store)
      snapped es k true = record { log = h.store.log; snap = k; applied = h.store.applied }
      snapped es k false = h.store

      told : (es : List Entry) → AllByRecursion K es → (r : Option ℕ × EngineView) → NodeOf (second (kept_built es n r))
      told es k (Some x, e) = h
      told es k (None, e) = record { store = snapped es k (nat_lt (length n.store.snap) (length es)); noted = λ fs z. cc }

      noted : (e : EngineView) (o : Option (List Entry)) → n.noted ≡ o → NodeOf (second (elim o as (λ _. Option ℕ × NodeView) [ None ↦ (None, n) | Some es ↦ kept_built es n (told_built es e) ]))
      noted e None q = h
      noted e (Some es) q = told es (h.noted es q) (told_built es e)

      go : (o : Option EngineView) → NodeOf (second (elim o as (λ _. Option ℕ × NodeView) [ None ↦ (None, n) | Some e ↦ elim n.noted as (λ _. Option ℕ × NodeView) [ None ↦ (None, n) | Some es ↦ kept_built es n (told_built es e) ] ]))
      go None = h
      go (Some e) = noted e n.noted refl

  pub settles_keeps : (t : WorldStore) → StoreOf K t → StoreOf K (settled nat_cmp entry_meaning t)
  settles_keeps t h = by t.meta.last_log_id
    where
      go : (x : LogId ℕ) (b : Bool) → StoreOf K (if b then record t { log = []; front = Some x } else t)
      go x true = record { log = tt; snap = h.snap; applied = h.applied }
      go x false = h

      by : (o : Option (LogId ℕ)) → StoreOf K (settled_by nat_cmp entry_meaning t o)
      by None = h
      by (Some x) = go x (is_outrun nat_cmp entry_meaning t x)

  starts_keeps : (saved : Bool) (t : WorldStore) → StoreOf K t → StoreOf K (restarted nat_cmp entry_meaning saved t)
  starts_keeps saved t h =
      let k : StoreOf K (settled nat_cmp entry_meaning t) = settles_keeps t h in
      record { log = k.log; snap = k.snap; applied = each_take K (next (start_committed nat_cmp entry_meaning saved (settled nat_cmp entry_meaning t))) (whole (settled nat_cmp entry_meaning t)) (whole_keeps K (settled nat_cmp entry_meaning t) k) }

  pub calls_keep : (given : Given) (act : Act) (n : NodeView) → NodeOf n → NodeOf (calls_at given act n).1
  calls_keep given Initialize n h = engine_keeps _ n h
  calls_keep given (Elect candidates) n h = engine_keeps _ n h
  calls_keep given (Take m) n h = engine_keeps _ n h
  calls_keep given (Propose values) n h = engine_keeps _ n h
  calls_keep given SendHeartbeat n h = engine_keeps _ n h
  calls_keep given (Fail target) n h = engine_keeps _ n h
  calls_keep given TriggerSnapshot n h = engine_keeps _ n h
  calls_keep given FinishSnapshot n h = built_keeps n h
  calls_keep given (TriggerPurge i) n h = engine_keeps _ n h
  calls_keep given (Restart Plain) n h = record { store = starts_keeps false n.store h.store; noted = λ es z. cc }
  calls_keep given (Restart Saved) n h = record { store = starts_keeps true n.store h.store; noted = λ es z. cc }
  calls_keep given (Restart Bare) n h = record {
    store = starts_keeps false (forgotten n.store) (record { log = h.store.log; snap = h.store.snap; applied = h.store.applied });
    noted = λ es z. cc;
  }
  calls_keep given (ChangeLearners learners) n h = engine_keeps _ n h
  calls_keep given (ChangeMembership groups learners) n h = engine_keeps _ n h
  calls_keep given Read n h = engine_keeps _ n h
  calls_keep given StepDown n h = engine_keeps _ n h
  calls_keep given Stop n h = record { store = h.store; noted = λ es z. cc }

  -- An event

  pub record SceneOf (s : Scene (List Entry)) : Type 0 where
    pub node : NodeOf s.node
    pub bag : AllByRecursion (λ (m : Message). BodyOf K m.body) s.records.bag

  module _ (common : IsCommon K) (given : Given) (first : K (first_entry given.membership)) where
    abbrev scene_in : Outcome × Scene (List Entry) → Scene (List Entry)
    scene_in r = r.1

    finish_keeps : (t : _) (stop refusal : Option ℕ) (s : Scene (List Entry)) → SceneOf s → QueueBrings K common s.node.engine → SceneOf (finish whole_logs weight t stop refusal s).1
    unfolding finish
    finish_keeps t stop refusal s h q =
        let w : WorkOf K (worked whole_logs (weight (work_of stop s)) t (work_of stop s)) =
        worked_keeps K common t (weight (work_of stop s)) (work_of stop s) (record { effects = record { store = h.node.store; noted = h.node.noted; bag = h.bag }; queue = q }) in
        record { node = record { store = w.effects.store; noted = w.effects.noted }; bag = w.effects.bag }

    played_keeps : (act : Act) (event : Event) (s : Scene (List Entry)) → SceneOf s → (skip_reason act s.node ≡ None → ((m : ℕ) → ActOf K act (record s.node { moment = m }))) → Rested s.node → SceneOf (played whole_logs weight given act event s).1
    unfolding played
    played_keeps act event s h k r = go (skip_reason act s.node) refl
      where
        now : NodeView
        now = record s.node { moment = moment_of event s.node }

        go : (o : Option SkipReason) → skip_reason act s.node ≡ o
            → SceneOf (scene_in (elim o as (λ _. Outcome × Scene (List Entry)) [
              | Some reason ↦ (Skipped reason, s)
              | None ↦ finish whole_logs weight (turn_of act (record s.node { moment = moment_of event s.node })) event.stop
                  (calls given act (called_at (moment_of event s.node) s)).0
                  (calls given act (called_at (moment_of event s.node) s)).1
            ]))
        go (Some reason) q = h
        go None q =
            finish_keeps _ event.stop _ (calls given act (called_at (moment_of event s.node) s)).1
            (record { node = calls_keep given act now (record { store = h.node.store; noted = h.node.noted }); bag = h.bag })
            (calls_leave K common given first act now (k q (moment_of event s.node)) r)

  -- In a world

  put_keeps : (nodes : List NodeView) (i : ℕ) (n : NodeView) → NodeOf n → AllByRecursion NodeOf nodes → AllByRecursion NodeOf (slice_set nodes i n)
  put_keeps [] i n k a = tt
  put_keeps (x ∷ xs) zero n k a = (k, a.1)
  put_keeps (x ∷ xs) (suc i) n k a = (a.0, put_keeps xs i n k a.1)

  -- what the events of leaders propose at a node
  abbrev pub Proposing : EventKind → NodeView → Type 0
  Proposing (kinds.Member k learners) n =
      skip_reason (ChangeLearners learners) n ≡ None → (e : EngineView) → n.engine ≡ Some e → (l : WorldLeader) → e.machine.leader ≡ Some l → K (proposed_by l (membership_entry (members_with (groups_in e) learners)))
  Proposing (kinds.Change k groups learners) n =
      n.id ≡ k → skip_reason (ChangeMembership groups learners) n ≡ None → (e : EngineView) → n.engine ≡ Some e → (l : WorldLeader) → e.machine.leader ≡ Some l → K (proposed_by l (membership_entry (members_with groups learners)))
  Proposing _ n = Unit {0}

  -- what an event brings
  module _ (bag : List Message) (kept : AllByRecursion (λ (m : Message). BodyOf K m.body) bag) (n : NodeView) where
    abbrev Brought : Aim → Type 0
    Brought aim = skip_reason aim.act n ≡ None → (m : ℕ) → ActOf K aim.act (record n { moment = m })

    here : (id : ℕ) (act : Act) → (skip_reason act n ≡ None → (m : ℕ) → ActOf K act (record n { moment = m })) → (aim : Aim) → ◌≡◌ {A = Option Aim} (Some (record { id = id; act = act })) (Some aim) → Brought aim
    here id act f aim q = let same : ◌≡◌ {A = Aim} (record { id = id; act = act }) aim = cc in subst Brought same f

    named : (id : ℕ) (act : Act) (aim : Aim) → ◌≡◌ {A = Option Aim} (Some (record { id = id; act = act })) (Some aim) → aim.id ≡ id
    named id act aim q = let same : ◌≡◌ {A = Aim} aim (record { id = id; act = act }) = cc in ap (λ (a : Aim). a.id) same

    brought : (kind : EventKind) → Proposing kind n → (aim : Aim) → aim_of bag kind ≡ Some aim → n.id ≡ aim.id → Brought aim
    brought (kinds.Init k) v aim q own = here k Initialize (λ s m. tt) aim q
    brought (kinds.Timeout k) v aim q own = here k (Elect Voters) (λ s m. tt) aim q
    brought (kinds.Stand k) v aim q own = here k (Elect AllMembers) (λ s m. tt) aim q
    brought (kinds.Deliver k) v aim q own = go (message_at bag k) refl q
      where
        go : (o : Option Message) → message_at bag k ≡ o → ◌≡◌ {A = Option Aim} (option_map (λ (m : Message). record { id = m.to; act = Take m }) o) (Some aim) → Brought aim
        go None e z = cc
        go (Some m) e z = here m.to (Take m) (λ s x. sent (nat_eq k 0) e) aim z
          where
            sent : (b : Bool) → (if b then None else slice_get bag (k - 1)) ≡ Some m → BodyOf K m.body
            sent true e = cc
            sent false e = each_at (λ (m : Message). BodyOf K m.body) bag (k - 1) m e kept
    brought (kinds.Propose k values) v aim q own = here k (Propose values) (λ s m. tt) aim q
    brought (kinds.Heartbeat k) v aim q own = here k SendHeartbeat (λ s m. tt) aim q
    brought (kinds.Fail k target) v aim q own = here k (Fail target) (λ s m. tt) aim q
    brought (kinds.Snapshot k) v aim q own = here k TriggerSnapshot (λ s m. tt) aim q
    brought (kinds.Built k) v aim q own = here k FinishSnapshot (λ s m. tt) aim q
    brought (kinds.Purge k i) v aim q own = here k (TriggerPurge i) (λ s m. tt) aim q
    brought (kinds.Restart k start) v aim q own = here k (Restart start) (λ s m. tt) aim q
    brought (kinds.Member k learners) v aim q own = here k (ChangeLearners learners) (λ s m. v s) aim q
    brought (kinds.Change k groups learners) v aim q own = here k (ChangeMembership groups learners) (λ s m. v (own ∙ named k (ChangeMembership groups learners) aim q) s) aim q
    brought (kinds.Read k) v aim q own = here k Read (λ s m. tt) aim q
    brought (kinds.Down k) v aim q own = here k StepDown (λ s m. tt) aim q
    brought (kinds.Stop k) v aim q own = here k Stop (λ s m. tt) aim q

  module _ (common : IsCommon K) (given : Given) (first : K (first_entry given.membership)) where
    abbrev net_in : Outcome × Net (List Entry) → Net (List Entry)
    net_in r = r.1

    happens_keeps : (event : Event) (net : Net (List Entry)) → NetOf net → ((n : NodeView) → Contains net.nodes n → Proposing event.kind n × Rested n) → NetOf (happens whole_logs weight given event net).1
    unfolding happens
    happens_keeps event net h c = by_aim (aim_of net.records.bag event.kind) refl
      where
        by_place : (aim : Aim) → aim_of net.records.bag event.kind ≡ Some aim → (i : ℕ) → place_of net.nodes aim.id ≡ Some i → (o : Option NodeView) → slice_get net.nodes i ≡ o
            → NetOf (net_in (elim o as (λ _. Outcome × Net (List Entry)) [
              | None ↦ (Skipped NotRunning, net)
              | Some n ↦ (let r = played whole_logs weight given aim.act event (record { node = n; records = net.records }) in (r.0, record { nodes = slice_set net.nodes i r.1.node; records = r.1.records }))
            ]))
        by_place aim q i p None z = h
        by_place aim q i p (Some n) z =
            let there : Contains net.nodes n = each_at (Contains net.nodes) net.nodes i n z (recursion_from_All (Contains net.nodes) net.nodes (All-contains_itself net.nodes)) in
            let k : NodeOf n = each_at NodeOf net.nodes i n z h.nodes in
            let s : SceneOf (played whole_logs weight given aim.act event (record { node = n; records = net.records })).1 =
            played_keeps common given first aim.act event (record { node = n; records = net.records }) (record { node = k; bag = h.bag }) (brought net.records.bag h.bag n event.kind (c n there).0 aim q (placed_id net.nodes aim.id i n p z)) (c n there).1 in
            record { nodes = put_keeps net.nodes i _ s.node h.nodes; bag = s.bag }

        by_id : (aim : Aim) → aim_of net.records.bag event.kind ≡ Some aim → (o : Option ℕ) → place_of net.nodes aim.id ≡ o
            → NetOf (net_in (elim o as (λ _. Outcome × Net (List Entry)) [ None ↦ (Skipped NotRunning, net) | Some i ↦ at_place net i (played whole_logs weight given aim.act event) ]))
        by_id aim q None p = h
        by_id aim q (Some i) p = by_place aim q i p (slice_get net.nodes i) refl

        by_aim : (o : Option Aim) → aim_of net.records.bag event.kind ≡ o
            → NetOf (net_in (elim o as (λ _. Outcome × Net (List Entry)) [ None ↦ (Skipped NoMessage, net) | Some aim ↦ at_node net aim.id (played whole_logs weight given aim.act event) ]))
        by_aim None q = h
        by_aim (Some aim) q = by_id aim q (place_of net.nodes aim.id) refl

    empty_keeps : NetOf (empty_net given.settings given.ids)
    empty_keeps = record { nodes = go given.ids; bag = tt }
      where
        go : (ids : List ℕ) → AllByRecursion NodeOf (map (new_node given.settings) ids)
        go [] = tt
        go (x ∷ xs) = (record { store = record { log = tt; snap = tt; applied = tt }; noted = λ es z. cc }, go xs)

    -- in each world that such events make
    module _ (wf : IsWellFormed given) (Allowed : Event → Type 0)
        (proposes : (done : List Event) (event : Event) → AllByRecursion Allowed done → Allowed event → NetOf (world_after given done) → (n : NodeView) → Contains (world_after given done).nodes n → Proposing event.kind n) where
      rested : (past : List Event) (n : NodeView) → Contains (world_after given past).nodes n → Rested n
      rested past n there e is =
          let a : IsAtRest n = All-contains IsAtRest (world_after given past).nodes n (after_resting given wf past) there in
          (subst IsRestingWhereRunning is a.resting).queue

      more : (done rest : List Event) → AllByRecursion Allowed done → NetOf (world_after given done) → AllByRecursion Allowed rest → NetOf (world_after given (done ++ rest))
      more done [] d h v = subst (λ es. NetOf (world_after given es)) (sym (append-nil done)) h
      more done (e ∷ es) d h v =
          subst (λ xs. NetOf (world_after given xs)) (append_assoc done (e ∷ []) es)
          (more (done ++ e ∷ []) es (each_append Allowed done (e ∷ []) d (v.0, tt))
          (subst NetOf (sym (goes_after given done (e ∷ []))) (happens_keeps e (world_after given done) h (λ n there. (proposes done e d v.0 h n there, rested done n there)))) v.1)

      pub run_keeps : (past : List Event) → AllByRecursion Allowed past → NetOf (world_after given past)
      run_keeps past v = more [] past tt empty_keeps v
