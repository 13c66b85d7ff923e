-- A step that proposes values at a server's node: if it is done, the first command appends an entry for each of them, with the ids
-- from the next one on. Else nothing is stored.
use Rattle.std.proofs.Common.{ℕ, zero, suc, ◌+◌, ◌≤◌, ◌≡◌, ◌≢◌, ◌⊎◌, inl, inr, ⊎_elim, Bool, true, false, List, [], ◌∷◌, ◌++◌, length, map, arith, refl, sym, ap, ◌∙◌, subst, Option, None, Some}
use Rattle.std.specs.Prelude.{Contains, IfSome, nat_eq, nat_lt, slice_get, if◌then◌else◌}
use Rattle.std.specs.Ordering.{is_eq, nat_cmp}
use Rattle.std.specs.Option.{option_map, option_or}
use Rattle.std.proofs.lemmas.Bool.Decides.{nat_tests}
use Rattle.std.proofs.lemmas.List.{length-map}
use Rattle.raft_state.specs.declared.ids.LeaderId.{LeaderId}
use Rattle.raft_state.specs.declared.ids.LogId.{LogId}
use Rattle.raft_state.specs.declared.ids.Vote.{Vote}
use Rattle.raft_state.specs.Order.{next, vote_cmp}
use Rattle.raft_error.specs.declared.error.EngineError.{EngineError}
use Rattle.raft_error.specs.Number.{first_refusal, number_of}
use Rattle.raft_command.specs.Queue.{Queue, popped}
use Rattle.raft_proposer.specs.Leader.{numbered}
use Rattle.raft_steps.specs.Invariants.{LeaderFits}
use Rattle.raft_steps.specs.LeaderHandler.{leader_append_entries}
use Rattle.raft_steps.specs.Parts.{led_of, leading}
use Rattle.raft_steps.specs.Refusals.{refusals_of_counter_led, refusals_of_propose}
use Rattle.raft_store.specs.declared.entry.Entry.{Entry}
use Rattle.raft_store.specs.declared.entry.Value.{Value}
use Rattle.raft_store.specs.Entries.{entry_meaning}
use Rattle.raft_store.specs.Store as store
use Rattle.raft_store.specs.Types.{EngineView, WorldCommand, WorldLeader, WorldStore}
use Rattle.raft_store.proofs.Lists.{Run}
use Rattle.proof_mirror.proofs.Proposes.{run_numbered}
use Rattle.proof_mirror.proofs.Puts.{put_whole}
use Rattle.proof_mirror.proofs.Shape.{shape_of}
use Rattle.raft_schedule.specs.declared.event.Event.{Event}
use Rattle.raft_schedule.specs.declared.event.EventKind.TheVariants as event
use Rattle.raft_schedule.specs.declared.event.Outcome.{Outcome}
use Rattle.raft_schedule.specs.declared.event.Outcome.TheVariants.{Done, Refused, Skipped}
use Rattle.raft_schedule.specs.declared.event.SkipReason.TheVariants.{NotOwnVote}
use Rattle.raft_node.specs.declared.act.Act.TheVariants.{Propose}
use Rattle.raft_node.specs.declared.given.Given.{Given}
use Rattle.raft_node.specs.declared.node.Turn.{Turn}
use Rattle.raft_calls.specs.Deliveries.{answered, unled_number, with_machine}
use Rattle.raft_calls.specs.Engines.{with_queue}
use Rattle.raft_calls.specs.Feeds.{feed}
use Rattle.raft_calls.specs.LeaderCalls.{value_entry}
use Rattle.raft_node.specs.Events.{Scene, finish, moment_of, outcome_of, played, turn_of, with_answer, work_of}
use Rattle.raft_node.specs.Execute.{Effects, exec}
use Rattle.raft_node.specs.Net.{NodeView, Records, no_records, node_at}
use Rattle.raft_node.specs.Runs.{whole_logs, world_after}
use Rattle.raft_node.specs.Until.{until}
use Rattle.raft_node.specs.WellFormed.{IsWellFormed}
use Rattle.raft_node.specs.Work.{Work, idle, is_idle, step_of, weight, work_step, worked}
use Rattle.proof_agreement.specs.Stores as stores
use Rattle.proof_deeds.specs.Images.{setup_of}
use Rattle.proof_deeds.specs.Knows.{KnowsLed}
use Rattle.proof_deeds.specs.Nets.{EngineFollows, NodeFollows}
use Rattle.proof_deeds.proofs.AppendFitting.{Settled}
use Rattle.proof_deeds.proofs.Joined.{Followed}
use Rattle.proof_deeds.proofs.Nodes.{node_found}
use Rattle.proof_deeds.proofs.Proved.{followed}
use Rattle.proof_deeds.proofs.Tails.{index}
use Rattle.proof_clients.specs.Appends.{HasRun}
use Rattle.proof_clients.proofs.Proposals.{made, proposes}
use Rattle.proof_servers.specs.Servers.{Action, AllMayAct, Step, after_actions, event_at, new_cluster}
use Rattle.proof_servers.proofs.Follow.{ahead, servers_follow}
use Rattle.proof_answers.specs.Answers.{StepAppends, node_within}
use Rattle.raft_core.specs.Calls.{IsNext}
use Rattle.proof_requests.specs.Entries.{entries_at, value_at}
use Rattle.proof_requests.specs.Requests.{server_after}
use Rattle.proof_requests.proofs.Lists.{slot_none}

some_same : {A : Type 0} (a b : A) → ◌≡◌ {A = Option A} (Some a) (Some b) → a ≡ b
some_same a b e = cc

-- a node whose queue is empty does nothing more, and one that doesn't stop runs on
module _ (t : Turn) where
  worked_idle : (k : ℕ) (w : Work (List Entry)) (e : EngineView) → w.engine ≡ Some e → e.machine.core.output.items ≡ [] → worked whole_logs k t w ≡ w
  unfolding worked
  worked_idle zero w e r q = refl
  worked_idle (suc k) w e r q = go (idle w) (ap is_idle r ∙ ap (λ (xs : List WorldCommand). nat_eq (length xs) 0) q)
    where
      go : (b : Bool) → b ≡ true → ◌≡◌ {A = Work (List Entry)} (if b then w else until idle (work_step whole_logs t) k (work_step whole_logs t w)) w
      go true h = refl
      go false h = cc

  RunsOn : Work (List Entry) → Type 0
  RunsOn w = (e : EngineView) × (w.engine ≡ Some e)

  on_by : (k : ℕ) (e : EngineView) (f : Effects (List Entry)) → RunsOn (until idle (work_step whole_logs t) k (record { engine = Some e; effects = f; left = None }))
  unfolding RunsOn
  on_by zero e f = (e, refl)
  on_by (suc k) e f = go (nat_eq (length e.machine.core.output.items) 0) (on_by k)
    where
      w : Work (List Entry)
      w = record { engine = Some e; effects = f; left = None }

      by_popped : (o : Option WorldCommand) (q : Queue WorldCommand)
          → ((e : EngineView) (f : Effects (List Entry)) → RunsOn (until idle (work_step whole_logs t) k (record { engine = Some e; effects = f; left = None })))
          → RunsOn (until idle (work_step whole_logs t) k (step_of whole_logs t (record { engine = Some e; effects = f; left = None }) e (o, q)))
      by_popped None q rest = rest e f
      by_popped (Some c) q rest = rest (feed t.moment c (with_queue e q)) (exec whole_logs t (with_queue e q) c f)

      go : (b : Bool)
          → ((e : EngineView) (f : Effects (List Entry)) → RunsOn (until idle (work_step whole_logs t) k (record { engine = Some e; effects = f; left = None })))
          → RunsOn (if b then record { engine = Some e; effects = f; left = None } else until idle (work_step whole_logs t) k (work_step whole_logs t (record { engine = Some e; effects = f; left = None })))
      go true rest = (e, refl)
      go false rest = by_popped (popped e.machine.core.output).0 (popped e.machine.core.output).1 rest

-- a proposal at a node
module _ (given : Given) (N : NodeView) (at : ℕ) (values : List Value) (records : Records (List Entry)) where
  abbrev moved : Event
  moved = event_at (event.Read 0) at

  abbrev with_engine : Option EngineView → Scene (List Entry)
  with_engine o = record { node = record N { engine = o }; records = records }

  abbrev result : (Work (List Entry) → ℕ) → Option EngineView → Outcome × Scene (List Entry)
  result f o = played whole_logs f given (Propose values) moved (with_engine o)

  abbrev store_in : Outcome × Scene (List Entry) → WorldStore
  store_in r = r.1.node.store

  abbrev outcome_in : Outcome × Scene (List Entry) → Outcome
  outcome_in r = r.0

  abbrev refusal_at : EngineView → WorldLeader → Option (EngineError ℕ (Unit {0}))
  refusal_at e l = refusals_of_propose (length (map value_entry values)) (led_of l e.machine.core.state e.machine.core.output)

  -- it is done by a leader, which doesn't refuse it
  pub record DoneBy (o : Option EngineView) : Type 0 where
    pub done : outcome_in (result weight o) ≡ Done
    pub engine : EngineView
    pub runs : o ≡ Some engine
    pub leader : WorldLeader
    pub leads : engine.machine.leader ≡ Some leader
    pub passes : refusal_at engine leader ≡ None

  -- it isn't done, and nothing is stored
  pub record Nothing (o : Option EngineView) : Type 0 where
    pub not_done : outcome_in (result weight o) ≢ Done
    pub same : (k : ℕ) → store_in (result (λ _. k) o) ≡ N.store

  finish_idle : (t : Turn) (stop refusal : Option ℕ) (m : NodeView) (rs : Records (List Entry)) (e : EngineView) (k : ℕ) → m.engine ≡ Some e → e.machine.core.output.items ≡ []
      → store_in (finish whole_logs (λ _. k) t stop refusal (record { node = m; records = rs })) ≡ m.store
  unfolding finish
  finish_idle t stop refusal m rs e k r q = ap (λ (w : Work (List Entry)). w.effects.store) (worked_idle t k (work_of stop (record { node = m; records = rs })) e r q)

  finish_refused : (t : Turn) (stop : Option ℕ) (number : ℕ) (s : Scene (List Entry)) → outcome_in (finish whole_logs weight t stop (Some number) s) ≢ Done
  unfolding finish
  finish_refused t stop number s h = let z : ◌≡◌ {A = Outcome} (Refused number) Done = h in cc

  finish_done : (t : Turn) (m : NodeView) (rs : Records (List Entry)) (e : EngineView) → m.engine ≡ Some e → outcome_in (finish whole_logs weight t None None (record { node = m; records = rs })) ≡ Done
  unfolding finish worked RunsOn
  finish_done t m rs e r = go m.engine r
    where
      ends : (w : Work (List Entry)) → RunsOn t w → outcome_of None w.engine ≡ Done
      ends w x = ap (outcome_of None) x.1

      go : (o : Option EngineView) → o ≡ Some e → outcome_in (finish whole_logs weight t None None (record { node = record m { engine = o }; records = rs })) ≡ Done
      go None q = cc
      go (Some f) q =
          let w : Work (List Entry) = work_of None (record { node = record m { engine = Some f }; records = rs }) in
          ends (until idle (work_step whole_logs t) (weight w) w) (on_by t (weight w) f w.effects)

  module _ (e : EngineView) (l : WorldLeader) (empty : e.machine.core.output.items ≡ []) where
    abbrev led : EngineView
    led = record e { machine = record e.machine { leader = Some l } }

    abbrev now : NodeView
    now = record N { engine = Some led; moment = moment_of moved (record N { engine = Some led }) }

    abbrev made_of : Option (EngineError ℕ (Unit {0})) → Option ℕ × Scene (List Entry)
    made_of r =
        let x = answered r led (with_machine led (leading led.machine (leader_append_entries nat_cmp entry_meaning led.config (map value_entry values) (led_of l led.machine.core.state led.machine.core.output)))) in
        (x.0, record { node = record now { engine = Some x.1 }; records = with_answer None records })

    abbrev ends : (Work (List Entry) → ℕ) → Bool → Option (EngineError ℕ (Unit {0})) → Outcome × Scene (List Entry)
    ends f b r =
        elim (if b then None else Some NotOwnVote) as (λ _. Outcome × Scene (List Entry)) [
          | Some reason ↦ (Skipped reason, with_engine (Some led))
          | None ↦ finish whole_logs f (turn_of (Propose values) now) moved.stop (made_of r).0 (made_of r).1
        ]

    by_ends : (b : Bool) (r : Option (EngineError ℕ (Unit {0}))) → refusal_at led l ≡ r
        → ((outcome_in (ends weight b r) ≡ Done) × (refusal_at led l ≡ None)) ⊎ ((outcome_in (ends weight b r) ≢ Done) × ((k : ℕ) → store_in (ends (λ _. k) b r) ≡ N.store))
    by_ends false r q = inr (λ h. cc, λ k. refl)
    by_ends true (Some r) q = inr (finish_refused (turn_of (Propose values) now) moved.stop (number_of r) (made_of (Some r)).1, λ k. finish_idle (turn_of (Propose values) now) moved.stop (made_of (Some r)).0 (made_of (Some r)).1.node (made_of (Some r)).1.records led k refl empty)
    by_ends true None q = inl (finish_done (turn_of (Propose values) now) (made_of None).1.node (made_of None).1.records _ refl, q)

  by_leader : (e : EngineView) → e.machine.core.output.items ≡ [] → (o : Option WorldLeader)
      → DoneBy (Some (record e { machine = record e.machine { leader = o } })) ⊎ Nothing (Some (record e { machine = record e.machine { leader = o } }))
  unfolding played
  by_leader e q None = inr (record {
    not_done = (let n : EngineView = record e { machine = record e.machine { leader = None } } in
        let m : NodeView = record N { engine = Some n; moment = moment_of moved (record N { engine = Some n }) } in
        finish_refused (turn_of (Propose values) m) moved.stop (unled_number n) (record { node = m; records = with_answer None records }));
    same = λ k.
        let n : EngineView = record e { machine = record e.machine { leader = None } } in
        let m : NodeView = record N { engine = Some n; moment = moment_of moved (record N { engine = Some n }) } in
        finish_idle (turn_of (Propose values) m) moved.stop (Some (unled_number n)) m (with_answer None records) n k refl q;
  })
  by_leader e q (Some l) =
      ⊎_elim
      (λ d. inl (record { done = d.0; engine = led e l q; runs = refl; leader = l; leads = refl; passes = d.1 }))
      (λ d. inr (record { not_done = d.0; same = d.1 }))
      (by_ends e l q (is_eq (vote_cmp nat_cmp l.vote e.machine.core.state.vote)) (refusal_at (led e l q) l) refl)

  pub comes : (o : Option EngineView) → IfSome o (λ e. e.machine.core.output.items ≡ []) → DoneBy o ⊎ Nothing o
  unfolding played
  comes None q = inr (record { not_done = λ h. cc; same = λ k. refl })
  comes (Some e) q = by_leader e q e.machine.leader

-- entries by their places
made_is : (leader : LeaderId ℕ) (n : ℕ) (values : List Value) → numbered entry_meaning leader n (map value_entry values) ≡ entries_at leader n values
made_is leader n [] = refl
made_is leader n (v ∷ values) = ap (λ (xs : List Entry). value_at leader n v ∷ xs) (made_is leader (n + 1) values)

pub entry_slot : (leader : LeaderId ℕ) (n : ℕ) (values : List Value) (i : ℕ) (v : Value) → slice_get values i ≡ Some v → slice_get (entries_at leader n values) i ≡ Some (value_at leader (n + i) v)
entry_slot leader n [] i v e = absurd (slot_none i v e)
entry_slot leader n (w ∷ values) zero v e =
    let z : w ≡ v = some_same w v e in
    let q : n ≡ n + 0 = omega arith in
    ap (λ (y : Value). Some (value_at leader n y)) z ∙ ap (λ j. Some (value_at leader j v)) q
entry_slot leader n (w ∷ values) (suc i) v e =
    let q : (n + 1) + i ≡ n + suc i = omega arith in
    entry_slot leader (n + 1) values i v e ∙ ap (λ j. Some (value_at leader j v)) q

cancelled : {A : Type 0} (xs ys zs : List A) → xs ++ ys ≡ xs ++ zs → ys ≡ zs
cancelled [] ys zs e = e
cancelled (x ∷ xs) ys zs e = cancelled xs ys zs (let z : xs ++ ys ≡ xs ++ zs = cc in z)

no_slot : {A : Type 0} (xs ys : List A) (k : ℕ) (x : A) → xs ≡ xs ++ ys → slice_get ys k ≡ Some x → ⊥
no_slot {A} [] ys k x e q = slot_none k x (ap (λ (zs : List A). slice_get zs k) e ∙ q)
no_slot {A} (y ∷ xs) ys k x e q = no_slot xs ys k x (let z : xs ≡ xs ++ ys = cc in z) q

-- what the refusal asks: the indexes don't end
or_none : {A : Type 0} (a b : Option A) → option_or a b ≡ None → b ≡ None
or_none None b q = q
or_none (Some x) b q = cc

first_none : {A : Type 0} (t : Bool) (x : A) → first_refusal ((t, x) ∷ []) ≡ None → t ≡ false
first_none true x q = cc
first_none false x q = refl

not_less : (a b : ℕ) → nat_lt a b ≡ false → b ≤ a
not_less a b e = grind (arith, nat_tests)

module _ (given : Given) (wf : IsWellFormed given) (actions : List Action) (may : AllMayAct given actions (new_cluster given)) (id : ℕ) (member : Contains given.ids id) where
  abbrev pub node_now : NodeView
  node_now = (server_after given actions id).node

  -- the node is one of a world
  past : (es : List Event) × (node_at (world_after given es).nodes id ≡ Some node_now)
  past =
      let f = servers_follow given actions may in
      let more = ahead given f.0 (after_actions given actions (new_cluster given)) id member f.1 in
      (f.0 ++ more.0, more.1)

  F : Followed given (Settled (setup_of given.membership)) (stores.empty (setup_of given.membership)) (world_after given past.0)
  F = followed given wf past.0

  node_follows : NodeFollows (setup_of given.membership) F.world (world_after given past.0).records node_now × (node_now.id ≡ id)
  node_follows = node_found (world_after given past.0).nodes id node_now (NodeFollows (setup_of given.membership) F.world (world_after given past.0).records) F.follows.nodes past.1

  queue_empty : IfSome node_now.engine (λ e. e.machine.core.output.items ≡ [])
  queue_empty = go node_now.engine node_follows.0.engine
    where
      go : (o : Option EngineView) → IfSome o (EngineFollows (setup_of given.membership) node_now F.world) → IfSome o (λ e. e.machine.core.output.items ≡ [])
      go None h = tt
      go (Some e) h = h.queue

  module _ (at : ℕ) (values : List Value) where
    abbrev pub proposing : Step
    proposing = record { act = Propose values; at = at }

    pub come : DoneBy given node_now at values no_records node_now.engine ⊎ Nothing given node_now at values no_records node_now.engine
    come = comes given node_now at values no_records node_now.engine queue_empty

    -- what the step appends
    pub record Appends (first : LogId ℕ) : Type 0 where
      pub appended : store.whole (node_within given node_now proposing 1).store ≡ store.whole (node_within given node_now proposing 0).store ++ entries_at first.leader_id first.index values
      pub leads : (node_within given node_now proposing 0).store.vote ≡ record { leader_id = first.leader_id; committed = true }
      pub small : first.index + length values ≤ 18446744073709551615
      pub own : first.leader_id.node_id ≡ id

    -- one of its values
    pub one_appended : (first : LogId ℕ) → Appends first → (i : ℕ) (v : Value) → slice_get values i ≡ Some v → StepAppends given node_now proposing i (value_at first.leader_id (first.index + i) v)
    one_appended first a i v e = record {
      entries = entries_at first.leader_id first.index values;
      slot = entry_slot first.leader_id first.index values i v e;
      leads = a.leads;
      appended = a.appended;
    }

    -- and nothing else
    pub only_appended : (first : LogId ℕ) → Appends first → (i : ℕ) (v : Value) (x : Entry) → slice_get values i ≡ Some v → StepAppends given node_now proposing i x → value_at first.leader_id (first.index + i) v ≡ x
    only_appended first a i v x e b =
        let z : entries_at first.leader_id first.index values ≡ b.entries = cancelled (store.whole (node_within given node_now proposing 0).store) (entries_at first.leader_id first.index values) b.entries (sym a.appended ∙ b.appended) in
        some_same (value_at first.leader_id (first.index + i) v) x (sym (entry_slot first.leader_id first.index values i v e) ∙ (ap (λ (xs : List Entry). slice_get xs i) z ∙ b.slot))

    pub nothing_appended : Nothing given node_now at values no_records node_now.engine → (i : ℕ) (x : Entry) → StepAppends given node_now proposing i x → ⊥
    nothing_appended h i x b =
        no_slot (store.whole (node_within given node_now proposing 0).store) b.entries i x
        (ap (λ (s : WorldStore). store.whole s) (h.same 0 ∙ sym (h.same 1)) ∙ b.appended) b.slot

  pub appends : (at : ℕ) (v : Value) (vs : List Value) (first : LogId ℕ) → (d : DoneBy given node_now at (v ∷ vs) no_records node_now.engine) → IfSome node_now.engine (λ e. IsNext e first) → Appends at (v ∷ vs) first
  appends at v vs first d next_if =
      let event : Event = event_at (event.Read 0) at in
      let p = proposes given node_now event v vs no_records (subst HasRun (sym d.done) tt) in
      let same_engine : p.engine ≡ d.engine = some_same p.engine d.engine (sym p.runs ∙ d.runs) in
      let same_leader : p.leader ≡ d.leader = some_same p.leader d.leader (sym p.leads ∙ (ap (λ (e : EngineView). e.machine.leader) same_engine ∙ d.leads)) in
      let is_next : IsNext p.engine first = subst (λ o. IfSome o (λ e. IsNext e first)) p.runs next_if in
      let g : EngineFollows (setup_of given.membership) node_now F.world p.engine = subst (λ o. IfSome o (EngineFollows (setup_of given.membership) node_now F.world)) p.runs node_follows.0.engine in
      let fits : LeaderFits nat_cmp p.engine.config.id p.engine.machine.core.state.ids p.engine.machine.core.state.purged p.engine.machine.core.state.em.membership p.leader =
      subst (λ o. IfSome o (LeaderFits nat_cmp p.engine.config.id p.engine.machine.core.state.ids p.engine.machine.core.state.purged p.engine.machine.core.state.em.membership)) p.leads g.sound.lead.leader_fits in
      let knows : KnowsLed (setup_of given.membership) node_now.id p.engine.machine.core.state p.leader F.world =
      subst (λ o. IfSome o (λ l. KnowsLed (setup_of given.membership) node_now.id p.engine.machine.core.state l F.world)) p.leads g.knows.leader in
      let own : p.leader.vote.leader_id.node_id ≡ node_now.id = alike p.leader.vote.leader_id.node_id p.engine.config.id fits.own ∙ g.id in
      let vote : node_now.store.vote ≡ record { leader_id = p.leader.vote.leader_id; committed = true } =
      sym g.in_step.mirrors.log.vote_is ∙ (sym knows.vote ∙ ap (λ b. let w : Vote ℕ = record { leader_id = p.leader.vote.leader_id; committed = b } in w) fits.committed) in
      let leader_is : p.leader.vote.leader_id ≡ first.leader_id = some_same p.leader.vote.leader_id first.leader_id (sym (ap (option_map (λ (l : WorldLeader). l.vote.leader_id)) p.leads) ∙ is_next.leads) in
      let index_is : next p.leader.last_log_id ≡ first.index = ap next fits.last_id ∙ sym is_next.index in
      let entries_are : made (v ∷ vs) p.leader ≡ entries_at first.leader_id first.index (v ∷ vs) =
      made_is p.leader.vote.leader_id (next p.leader.last_log_id) (v ∷ vs)
      ∙ (ap (λ (d : LeaderId ℕ). entries_at d (next p.leader.last_log_id) (v ∷ vs)) leader_is ∙ ap (λ i. entries_at first.leader_id i (v ∷ vs)) index_is) in
      let room : next d.leader.last_log_id + length (map value_entry (v ∷ vs)) ≤ 18446744073709551615 =
      not_less 18446744073709551615 (next d.leader.last_log_id + length (map value_entry (v ∷ vs)))
      (first_none _ _ (or_none (refusals_of_counter_led (led_of d.leader d.engine.machine.core.state d.engine.machine.core.output)) _ d.passes)) in
      let here : next d.leader.last_log_id ≡ first.index = sym (ap (λ (l : WorldLeader). next l.last_log_id) same_leader) ∙ index_is in
      record {
        appended =
            ap (λ (u : WorldStore). store.whole u) (p.after g.queue)
            ∙ (put_whole entry_meaning node_now.store p.engine.machine.core.state (made (v ∷ vs) p.leader) g.in_step.mirrors (shape_of entry_meaning node_now.store p.engine.machine.core.state g.in_step.mirrors g.in_step.marks)
            (subst (λ k. Run index k (made (v ∷ vs) p.leader)) (ap next fits.last_id) (run_numbered entry_meaning (λ e x. refl) p.leader.vote.leader_id (next p.leader.last_log_id) (map value_entry (v ∷ vs))))
            ∙ (ap (λ (u : WorldStore). store.whole u ++ made (v ∷ vs) p.leader) (sym p.before)
            ∙ ap (λ (xs : List Entry). store.whole (node_within given node_now (proposing at (v ∷ vs)) 0).store ++ xs) entries_are));
        leads = ap (λ (u : WorldStore). u.vote) p.before ∙ (vote ∙ ap (λ (d : LeaderId ℕ). let w : Vote ℕ = record { leader_id = d; committed = true } in w) leader_is);
        small = (let z = room in let y = here in let x : length (map value_entry (v ∷ vs)) ≡ length (v ∷ vs) = length-map (v ∷ vs) value_entry in omega (arith, z, y, x));
        own = sym (ap (λ (d : LeaderId ℕ). d.node_id) leader_is) ∙ (own ∙ node_follows.1);
      }
    where
      alike : (a b : ℕ) → is_eq (nat_cmp a b) ≡ true → a ≡ b
      alike a b e = grind (arith, nat_tests)
