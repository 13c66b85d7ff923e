-- What clients asked for and were told, in the world that servers follow.
use Rattle.std.proofs.Common.{ℕ, zero, suc, ◌<◌, ◌≤◌, ◌≡◌, ◌≢◌, ◌⊎◌, inl, inr, ⊎_elim, List, [], ◌∷◌, length, take, arith, refl, sym, ap, ◌∙◌, subst, Option, Some}
use Rattle.std.specs.Prelude.{Contains, max, slice_get}
use Rattle.std.specs.List.{slice_index_or}
use Rattle.std.proofs.lemmas.Bool.{cases_eq, cases_lt}
use Rattle.std.proofs.lemmas.List.Elements.{All-contains_itself, recursion_from_All}
use Rattle.proof_deeds.specs.raft_store.declared.entry.Entry.{Entry}
use Rattle.proof_deeds.specs.raft_store.declared.entry.Payload.TheVariants as payload
use Rattle.proof_deeds.specs.raft_store.declared.entry.Value.{Value}
use Rattle.proof_deeds.specs.raft_schedule.declared.event.Event.{Event}
use Rattle.proof_deeds.specs.raft_schedule.declared.event.EventKind.TheVariants as kinds
use Rattle.proof_deeds.specs.raft_schedule.declared.event.Outcome.{Outcome}
use Rattle.proof_deeds.specs.raft_schedule.declared.event.Start.TheVariants.{Bare}
use Rattle.proof_deeds.specs.raft_node.declared.act.Act.{Act}
use Rattle.proof_deeds.specs.raft_node.declared.act.Act.TheVariants.{Propose, Restart}
use Rattle.proof_deeds.specs.raft_node.declared.act.Aim.{Aim}
use Rattle.proof_deeds.specs.raft_node.declared.given.Given.{Given}
use Rattle.proof_deeds.specs.raft_node.Events.{Scene, aim_of}
use Rattle.proof_deeds.specs.raft_node.Net.{NodeView, node_at}
use Rattle.proof_deeds.specs.raft_node.Runs.{moment, world_after}
use Rattle.proof_deeds.specs.raft_node.WellFormed.{IsWellFormed}
use Rattle.proof_deeds.proofs.Nodes.{node_found}
use Rattle.proof_clients.specs.Appends.{Appended}
use Rattle.proof_clients.specs.Validity.{IsProposal}
use Rattle.proof_clients.proofs.OneLogs.{InEnd, applied_in_end, index_in_end}
use Rattle.proof_clients.proofs.OnlyProposed.{only_proposed}
use Rattle.proof_clients.proofs.Order.{before_it, one_entry}
use Rattle.proof_clients.proofs.Sequences.{first_or}
use Rattle.proof_clients.proofs.Slots.{slot_below}
use Rattle.proof_servers.specs.Servers.{Action, AllMayAct, Crashes, Disk, Flushes, Step, Takes, flushed_first, new_cluster, stopped_node}
use Rattle.proof_servers.proofs.AtNode.{node_id}
use Rattle.proof_servers.proofs.Disk.{played_upto_same}
use Rattle.proof_answers.specs.Answers.{Executes, Proposed, StepAppends, TakesAt, Told, node_then, node_within, server_then}
use Rattle.proof_answers.specs.Laws.{TellExecuted, TellInOrder, TellProposed}
use Rattle.proof_answers.specs.Waiting.{waiting}
use Rattle.proof_answers.proofs.Moments.{node_moment, to_step, to_world}
use Rattle.proof_answers.proofs.Outputs.{executed_applied}
use Rattle.proof_answers.proofs.Prefixes.{CameByFlush, behind_later, waits_or_came}
use Rattle.proof_answers.proofs.Traces.{Happened, IsStart, Stamp, Traced, WasTaken, stamped, traced}

-- the event of a stamp, and the stamp of an event
pub stamp_event : (ss : List Stamp) (k : ℕ) (s : Stamp) → slice_get ss k ≡ Some s → slice_get (stamped ss) k ≡ Some s.event
stamp_event [] k s e = cc
stamp_event (x ∷ ss) zero s e = let z : x ≡ s = cc in ap (λ (y : Stamp). Some y.event) z
stamp_event (x ∷ ss) (suc k) s e = stamp_event ss k s e

pub event_stamp : (ss : List Stamp) (k : ℕ) (e : Event) → slice_get (stamped ss) k ≡ Some e → (s : Stamp) × (slice_get ss k ≡ Some s) × (s.event ≡ e)
event_stamp [] k e q = cc
event_stamp (x ∷ ss) zero e q = (x, refl, (let z : x.event ≡ e = cc in z))
event_stamp (x ∷ ss) (suc k) e q = event_stamp ss k e q

-- two ways to say what an action is
takes_same : (a b : ℕ) (s t : Step) → ◌≡◌ {A = Option Action} (Some (Takes a s)) (Some (Takes b t)) → (a ≡ b) × (s ≡ t)
takes_same a b s t e = ((let z : a ≡ b = cc in z), (let z : s ≡ t = cc in z))

takes_no_crash : (a b k at : ℕ) (s : Step) → ◌≡◌ {A = Option Action} (Some (Takes a s)) (Some (Crashes b k at)) → ⊥
takes_no_crash a b k at s e = cc

crash_same : (a b j k l m : ℕ) → ◌≡◌ {A = Option Action} (Some (Crashes a j l)) (Some (Crashes b k m)) → (a ≡ b) × (j ≡ k) × (l ≡ m)
crash_same a b j k l m e = ((let z : a ≡ b = cc in z), (let z : j ≡ k = cc in z), (let z : l ≡ m = cc in z))

pub aim_same : (a b : ℕ) (x y : Act) → ◌≡◌ {A = Option Aim} (Some (record { id = a; act = x })) (Some (record { id = b; act = y })) → (a ≡ b) × (x ≡ y)
aim_same a b x y e =
    let z : ◌≡◌ {A = Aim} (record { id = a; act = x }) (record { id = b; act = y }) = cc in
    (ap (λ (w : Aim). w.id) z, ap (λ (w : Aim). w.act) z)

module _ (given : Given) (wf : IsWellFormed given) (actions : List Action) (may : AllMayAct given actions (new_cluster given)) where
  pub T : Traced given actions
  T = traced given actions may

  abbrev pub es : List Event
  es = stamped T.stamps

  -- the event, by its number, whose step this action took
  pub record Came (call : ℕ) : Type 0 where
    pub event : ℕ
    pub stamp : Stamp
    pub is : slice_get T.stamps event ≡ Some stamp
    pub taken : stamp.taken ≡ call

  happened : (k : ℕ) (s : Stamp) → slice_get T.stamps k ≡ Some s → Happened given actions (take k es) s
  happened k s e = T.each k s e

  module _ (k : ℕ) (s : Stamp) (is : slice_get T.stamps k ≡ Some s) where
    pub h : Happened given actions (take k es) s
    h = happened k s is

    pub own : h.node.id ≡ h.id
    own = node_id (world_after given (take k es)).nodes h.id h.node h.is

    at_moment : (commands : ℕ) → node_at (moment given es k commands).nodes h.id ≡ Some (node_within given h.node h.step commands)
    at_moment commands = node_moment given es k s.event (stamp_event T.stamps k s is) h.id h.step h.node h.kind h.event h.aims h.is own commands

    appends : (place : ℕ) (x : Entry) → h.id ≡ x.log_id.leader_id.node_id → StepAppends given h.node h.step place x → Appended given es k place x
    appends place x q a = to_world given es k s.event (stamp_event T.stamps k s is) h.id h.step h.node h.kind h.event h.aims h.is own place x q a

    appended_step : (place : ℕ) (x : Entry) → h.id ≡ x.log_id.leader_id.node_id → (a : Appended given es k place x) → a.commands ≡ 0 → StepAppends given h.node h.step place x
    appended_step place x q a first = to_step given es k s.event (stamp_event T.stamps k s is) h.id h.step h.node h.kind h.event h.aims h.is own place x q a first

    -- if its action takes a step, it is that step, at the server's node
    pub record IsStep (id : ℕ) (step : Step) : Type 0 where
      pub same_id : h.id ≡ id
      pub same_step : h.step ≡ step
      pub node : node_then given actions s.taken id ≡ h.node

    pub is_step : (t id : ℕ) (step : Step) → s.taken ≡ t → slice_get actions t ≡ Some (Takes id step) → IsStep id step
    is_step t id step q e = go h.taken
      where
        at : slice_get actions s.taken ≡ Some (Takes id step)
        at = ap (slice_get actions) q ∙ e

        go : WasTaken given actions h.id h.node h.step s.taken → IsStep id step
        go (inl (f, n)) =
            let z = takes_same h.id id h.step step (sym f ∙ at) in
            record { same_id = z.0; same_step = z.1; node = subst (λ d. node_then given actions s.taken d ≡ h.node) z.0 n }
        go (inr (c, m, f, starts)) = absurd (takes_no_crash id h.id c m step (sym at ∙ f))

    -- within its step the node is what the server's is
    record IsWithin (id : ℕ) (step : Step) (node : NodeView) : Type 0 where
      own_id : h.id ≡ id
      same : (commands : ℕ) → node_within given h.node h.step commands ≡ node_within given node step commands

    within_step : (t id : ℕ) (step : Step) (node : NodeView) → s.taken ≡ t → TakesAt given actions t id step node → IsWithin id step node
    within_step t id step node q (inl (e, n)) =
        let z = is_step t id step q e in
        record {
          own_id = z.same_id;
          same = λ commands.
              ap (λ (y : Step). node_within given h.node y commands) z.same_step
              ∙ ap (λ (m : NodeView). node_within given m step commands) (sym z.node ∙ (ap (λ j. node_then given actions j id) q ∙ sym n));
        }
    within_step t id step node q (inr (k, m, e, w, n)) = go h.taken
      where
        at : slice_get actions s.taken ≡ Some (Crashes id k m)
        at = ap (slice_get actions) q ∙ e

        go : WasTaken given actions h.id h.node h.step s.taken → IsWithin id step node
        go (inl (f, z)) = absurd (takes_no_crash h.id id k m h.step (sym f ∙ at))
        go (inr (j, a, f, starts)) =
            let c = crash_same h.id id j k a m (sym f ∙ at) in
            let disk : Disk = (flushed_first k (server_then given actions t id)).disk in
            let begins : IsStart given actions m disk h.node h.step =
            subst (λ x. IsStart given actions x disk h.node h.step) c.2
            (subst (λ i. IsStart given actions a (flushed_first k (server_then given actions i id)).disk h.node h.step) q
            (subst (λ i. IsStart given actions a (flushed_first i (server_then given actions s.taken id)).disk h.node h.step) c.1
            (subst (λ i. IsStart given actions a (flushed_first j (server_then given actions s.taken i)).disk h.node h.step) c.0 starts))) in
            let now : ℕ = max m disk.moment in
            let moment : max now disk.moment ≡ max now h.node.moment = omega (arith, begins.on.moment) in
            record {
              own_id = c.0;
              same = λ commands.
                  ap (λ (y : Step). node_within given h.node y commands) begins.is
                  ∙ (sym (ap (λ (p : Outcome × Scene (List Entry)). p.1.node) (played_upto_same given now now (stopped_node id disk) h.node (sym (own ∙ c.0)) moment begins.on.store (λ _. commands)))
                  ∙ (ap (λ (y : Step). node_within given (stopped_node id disk) y commands) (sym w)
                  ∙ ap (λ (y : NodeView). node_within given y step commands) (sym n)));
            }

  -- A proposal whose step came on disk

  pub proposal_appended : (call : ℕ) (v : Value) (x : Entry) → (p : Proposed given actions call v x) → (c : Came call) → Appended given es c.event p.place x
  proposal_appended call v x p c =
      let z = is_step c.event c.stamp c.is call x.log_id.leader_id.node_id p.step c.taken p.takes in
      appends c.event c.stamp c.is p.place x z.same_id
      (subst (λ (n : NodeView). StepAppends given n (h c.event c.stamp c.is).step p.place x) (ap (λ t. node_then given actions t x.log_id.leader_id.node_id) (sym c.taken) ∙ z.node)
      (subst (λ (y : Step). StepAppends given (node_then given actions call x.log_id.leader_id.node_id) y p.place x) (sym z.same_step) p.appended))

  -- each decided value was proposed by an action
  pub record FromAction (x : Entry) (v : Value) : Type 0 where
    pub call : ℕ
    pub proposed : Proposed given actions call v x
    pub came : Came call

  pub from_action : (i : ℕ) (x : Entry) → InEnd given wf es i x → (v : Value) → x.payload ≡ payload.Value v → FromAction x v
  from_action i x z v e = by h_is.taken
    where
      p : IsProposal given es x v
      p = only_proposed given wf es x v (inr (z.by, z.there, i, z.slot)) e

      found : (s : Stamp) × (slice_get T.stamps p.call ≡ Some s) × (s.event ≡ p.proposal)
      found = event_stamp T.stamps p.call p.proposal p.invoked

      h_is : Happened given actions (take p.call es) found.0
      h_is = h p.call found.0 found.1

      kind : h_is.kind ≡ kinds.Propose x.log_id.leader_id.node_id p.values
      kind = sym (ap (λ (y : Event). y.kind) h_is.event) ∙ (ap (λ (y : Event). y.kind) found.2 ∙ p.proposed)

      aim : (h_is.id ≡ x.log_id.leader_id.node_id) × (h_is.step.act ≡ Propose p.values)
      aim = aim_same h_is.id x.log_id.leader_id.node_id h_is.step.act (Propose p.values) (sym h_is.aims ∙ ap (aim_of (world_after given (take p.call es)).records.bag) kind)

      no_start : Propose p.values ≡ Restart Bare → ⊥
      no_start q = cc

      by : WasTaken given actions h_is.id h_is.node h_is.step found.0.taken → FromAction x v
      by (inl (f, n)) = record {
        call = found.0.taken;
        proposed = record {
          step = h_is.step;
          takes = f ∙ ap (λ d. Some (Takes d h_is.step)) aim.0;
          values = p.values;
          proposes = aim.1;
          place = p.place;
          value = p.value;
          appended = subst (λ (m : NodeView). StepAppends given m h_is.step p.place x) (sym (subst (λ d. node_then given actions found.0.taken d ≡ h_is.node) aim.0 n))
              (appended_step p.call found.0 found.1 p.place x aim.0 p.appended p.first);
          payload = e;
        };
        came = record { event = p.call; stamp = found.0; is = found.1; taken = refl };
      }
      by (inr (c, m, f, starts)) = absurd (no_start (sym aim.1 ∙ ap (λ (y : Step). y.act) starts.is))

  -- What clients were told

  pub record AtMoment (flush commands : ℕ) (taken : List Entry) : Type 0 where
    pub event : ℕ
    pub stamp : Stamp
    pub is : slice_get T.stamps event ≡ Some stamp
    pub told : stamp.told ≡ flush
    pub node : NodeView
    pub there : Contains (moment given es event commands).nodes node
    pub applied : node.store.applied ≡ taken

  pub told_then : (id flush commands : ℕ) (taken : List Entry) → (t : Told given actions id flush commands taken) → (m : AtMoment flush commands taken) × (m.stamp.taken ≡ t.by)
  told_then id flush commands taken t =
      let f = T.flushed flush id t.by t.behind t.flushes t.oldest in
      let z = within_step f.0 f.1 f.2 t.by id t.step t.node f.3 t.takes in
      let n : NodeView = node_within given (h f.0 f.1 f.2).node (h f.0 f.1 f.2).step commands in
      let ns : List NodeView = (moment given es f.0 commands).nodes in
      let there = node_found ns (h f.0 f.1 f.2).id n (Contains ns) (recursion_from_All (Contains ns) ns (All-contains_itself ns)) (at_moment f.0 f.1 f.2 commands) in (
        record {
          event = f.0;
          stamp = f.1;
          is = f.2;
          told = f.4;
          node = n;
          there = there.0;
          applied = ap (λ (y : NodeView). y.store.applied) (z.same commands) ∙ t.applied;
        },
        f.3,
      )

  pub told_in_end : (flush commands : ℕ) (taken : List Entry) → AtMoment flush commands taken → (i : ℕ) (y : Entry) → slice_get taken i ≡ Some y → InEnd given wf es i y
  told_in_end flush commands taken m i y e = applied_in_end given wf es m.event commands m.node i y m.there (ap (λ xs. slice_get xs i) m.applied ∙ e)

  -- a step that was taken no later than one that was told of, in the same start, had come on disk
  pub record CameThen (call flush : ℕ) : Type 0 where
    pub came : Came call
    pub early : came.stamp.told ≤ flush

  pub came_then : (id flush commands : ℕ) (taken : List Entry) → (t : Told given actions id flush commands taken) → (call : ℕ) (step : Step) → slice_get actions call ≡ Some (Takes id step)
      → call ≤ t.by → ((number k at : ℕ) → call < number → number < flush → slice_get actions number ≢ Some (Crashes id k at)) → CameThen call flush
  came_then id flush commands taken t call step takes since runs =
      ⊎_elim waits flushed
      (waits_or_came actions id call step takes flush (let l = before in omega (arith, l, since))
      (let l : flush < length actions = slot_below actions flush (Flushes id) t.flushes in omega (arith, l)) runs)
    where
      before : t.by < flush
      before =
          let m = told_then id flush commands taken t in
          let l : m.0.stamp.taken < m.0.stamp.told = (h m.0.event m.0.stamp m.0.is).order in
          let a : m.0.stamp.taken ≡ t.by = m.1 in
          let b : m.0.stamp.told ≡ flush = m.0.told in
          omega (arith, l, a, b)

      stamp_of : (f by : ℕ) (rest : List ℕ) → f ≤ flush → slice_get actions f ≡ Some (Flushes id) → waiting id (take f actions) ≡ by ∷ rest → by ≡ call → CameThen call flush
      stamp_of f by rest l e o q =
          let z = T.flushed f id by rest e o in
          record { came = record { event = z.0; stamp = z.1; is = z.2; taken = z.3 ∙ q }; early = (let a = z.4 in omega (arith, a, l)) }

      flushed : CameByFlush actions id call step takes flush → CameThen call flush
      flushed f = stamp_of f.flush call f.behind (let l = f.early in omega (arith, l)) f.is f.oldest refl

      waits : Contains (waiting id (take flush actions)) call → CameThen call flush
      waits c =
          ⊎_elim
          (λ q. stamp_of flush t.by t.behind (omega arith) t.flushes t.oldest q)
          (λ d. let l : t.by < call = behind_later id (take flush actions) t.by call t.behind t.oldest d in absurd (omega (arith, l, since)))
          (first_or t.by t.behind call (subst (λ ts. Contains ts call) t.oldest c))

  -- what was told of was proposed in the same start
  module _ (call : ℕ) (v : Value) (x : Entry) (p : Proposed given actions call v x) (flush commands : ℕ) (t : Executes given actions call x flush commands) where
    pub executed_at : AtMoment flush commands t.taken
    executed_at = (told_then x.log_id.leader_id.node_id flush commands t.taken t.told).0

    executed_then : CameThen call flush
    executed_then = came_then x.log_id.leader_id.node_id flush commands t.taken t.told call p.step p.takes t.since t.runs

    pub executed_came : Came call
    executed_came = executed_then.came

    -- after it was proposed
    pub executed_later : call < flush
    unfolding executed_came
    executed_later =
        let l : executed_came.stamp.taken < executed_came.stamp.told = (h executed_came.event executed_came.stamp executed_came.is).order in
        let a : executed_came.stamp.taken ≡ call = executed_came.taken in
        let b : executed_came.stamp.told ≤ flush = executed_then.early in
        omega (arith, l, a, b)

    pub executed_in_end : InEnd given wf es x.log_id.index x
    executed_in_end =
        let z : InEnd given wf es x.log_id.index t.entry = told_in_end flush commands t.taken executed_at x.log_id.index t.entry t.there in
        let same : x ≡ t.entry = one_entry given wf es executed_came.event p.place x (proposal_appended call v x p executed_came) x.log_id.index t.entry z (sym t.same) in
        subst (InEnd given wf es x.log_id.index) (sym same) z

  -- events come on disk in the order of their actions
  pub told_before : (j k : ℕ) (s u : Stamp) → slice_get T.stamps j ≡ Some s → slice_get T.stamps k ≡ Some u → s.told < u.taken → j < k
  told_before j k s u e f l =
      let o : u.taken < u.told = (h k u f).order in
      ⊎_elim (λ g. g) (λ (g : k ≤ j). let b : u.told ≤ s.told = T.sorted k j u s f e g in absurd (omega (arith, l, o, b))) (cases_lt j k)

  -- whether the step that this action took came on disk
  pub came_or_not : (call : ℕ) → Came call ⊎ (Came call → ⊥)
  came_or_not call = ⊎_elim (λ z. inl (record { event = z.0; stamp = z.1; is = z.2; taken = z.3 })) (λ never. inr (λ c. never c.event c.stamp c.is c.taken)) (search T.stamps)
    where
      search : (ss : List Stamp) → ((k : ℕ) × (s : Stamp) × (slice_get ss k ≡ Some s) × (s.taken ≡ call)) ⊎ ((k : ℕ) (s : Stamp) → slice_get ss k ≡ Some s → s.taken ≡ call → ⊥)
      search [] = inr (λ k s e q. cc)
      search (s ∷ ss) =
          ⊎_elim
          (λ q. inl (0, s, refl, q))
          (λ d. ⊎_elim (λ z. inl (suc z.0, z.1, z.2, z.3)) (λ never. inr (missing d never)) (search ss))
          (cases_eq s.taken call)
        where
          missing : (s.taken ≢ call) → ((k : ℕ) (u : Stamp) → slice_get ss k ≡ Some u → u.taken ≡ call → ⊥) → (k : ℕ) (u : Stamp) → slice_get (s ∷ ss) k ≡ Some u → u.taken ≡ call → ⊥
          missing d never zero u e q = let z : s ≡ u = cc in d (ap (λ (y : Stamp). y.taken) z ∙ q)
          missing d never (suc k) u e q = never k u e q

  -- What a step executed it has told of, once it is on disk

  slot_of : (xs : List Entry) (k : ℕ) (x : Entry) → k < length xs → slice_index_or xs k x ≡ x → slice_get xs k ≡ Some x
  slot_of [] k x l e = absurd (omega (arith, l))
  slot_of (y ∷ xs) zero x l e = ap Some e
  slot_of (y ∷ xs) (suc k) x l e = slot_of xs k x (omega (arith, l)) e

  pub tell_executed : TellExecuted given actions
  tell_executed id by flush step node behind takes flushes oldest y c =
      let z = executed_applied given node step y c in
      let taken : List Entry = (node_within given node step z.0).store.applied in
      let told : Told given actions id flush z.0 taken = record { by = by; step = step; node = node; takes = takes; applied = refl; flushes = flushes; behind = behind; oldest = oldest } in
      let slot : slice_get taken z.1.0 ≡ Some y.entry = slot_of taken z.1.0 y.entry z.1.1 z.1.2 in
      let index : y.entry.log_id.index ≡ z.1.0 = index_in_end given wf es z.1.0 y.entry (told_in_end flush z.0 taken (told_then id flush z.0 taken told).0 z.1.0 y.entry slot) in
      (z.0, taken, told, ap (slice_get taken) index ∙ slot)

  -- It was proposed by an earlier action, and stands below what is proposed later

  pub told_proposed : TellProposed given actions
  told_proposed id flush commands taken t i x v slot e =
      let m = (told_then id flush commands taken t).0 in
      let end : InEnd given wf es i x = told_in_end flush commands taken m i x slot in
      let f = from_action i x end v e in
      let applied : slice_get m.node.store.applied i ≡ Some x = ap (λ xs. slice_get xs i) m.applied ∙ slot in
      let l : f.came.stamp.told ≤ m.stamp.told =
      ⊎_elim
      (λ (g : m.event < f.came.event).
      let k : i < i = before_it given wf es f.came.event f.proposed.place x (proposal_appended f.call v x f.proposed f.came) m.event commands m.node i x m.there applied g i end in absurd (omega (arith, k)))
      (λ (g : f.came.event ≤ m.event). T.sorted f.came.event m.event f.came.stamp m.stamp f.came.is m.is g)
      (cases_lt m.event f.came.event) in
      let o : f.came.stamp.taken < f.came.stamp.told = (h f.came.event f.came.stamp f.came.is).order in
      let a : f.came.stamp.taken ≡ f.call = f.came.taken in
      let b : m.stamp.told ≡ flush = m.told in
      (f.call, omega (arith, l, o, a, b), f.proposed)

  pub told_in_order : TellInOrder given actions
  told_in_order id flush commands taken t i x slot call v y early p later after e =
      let m = (told_then id flush commands taken t).0 in
      let came : Came call = executed_came call v y p later after e in
      let l : m.stamp.told < came.stamp.taken = let a = m.told in let b = came.taken in omega (arith, a, b, early) in
      let k : m.event < came.event = told_before m.event came.event m.stamp came.stamp m.is came.is l in
      before_it given wf es came.event p.place y (proposal_appended call v y p came) m.event commands m.node i x m.there (ap (λ xs. slice_get xs i) m.applied ∙ slot) k y.log_id.index (executed_in_end call v y p later after e)
