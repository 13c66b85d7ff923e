-- Servers follow a world, and each event is a step that an action took: at the moment of the event its node in the world is what the
-- server's node was when it took the step.
use Rattle.std.specs.Prelude.{◌≡◌, ◌≢◌, ◌<◌, ◌≤◌, ◌⊎◌, ℕ, Bool, true, false, List, [], ◌∷◌, ◌++◌, length, map, max, take, nat_eq, slice_get, Contains, Some, refl, if◌then◌else◌}
use Rattle.std.proofs.Common.{◌∙◌, inl, inr, sym, ap, subst, arith, zero, suc}
use Rattle.std.proofs.lemmas.Bool.{cases_eq, cases_lt, eq-eqb, eqb-true, ne_eqb}
use Rattle.std.proofs.lemmas.List.{append-nil, append_assoc, length-map, map-append}
use Rattle.proof_deeds.specs.raft_schedule.declared.event.Event.{Event}
use Rattle.proof_deeds.specs.raft_schedule.declared.event.EventKind.{EventKind}
use Rattle.proof_deeds.specs.raft_node.declared.given.Given.{Given}
use Rattle.proof_deeds.specs.raft_calls.declared.message.Message.{Message}
use Rattle.proof_deeds.specs.raft_node.Events.{aim_of}
use Rattle.proof_deeds.specs.raft_node.Net.{NodeView, node_at}
use Rattle.proof_deeds.specs.raft_node.Runs.{world_after}
use Rattle.raft_wire.specs.Records.{on_disk}
use Rattle.proof_servers.specs.Follows.{AreIncluded, Follows, ServerFollows}
use Rattle.proof_servers.specs.Recorded.{joined}
use Rattle.proof_servers.specs.Servers.{Action, AllMayAct, Cluster, Crashes, Disk, Flushes, MayAct, MayTake, Server, Step, Takes, WaitingStep, after_action, after_actions, crashed, event_at, flushed, flushed_first, new_cluster, node_after, node_after_all, waiting_step, with_server, with_step}
use Rattle.proof_servers.proofs.AtNode.{node_id}
use Rattle.proof_servers.proofs.Disk.{start_step}
use Rattle.proof_servers.proofs.Follow.{Changes, came, came_aims, came_follows, came_kind, changes, crash_follows, kept_follows, new_follows, other_came, own_came, some_same, step_follows, steps_of}
use Rattle.proof_servers.proofs.HasEvents.{event_for, may_take_more}
use Rattle.proof_servers.proofs.Included.{included_left, included_self}
use Rattle.proof_answers.specs.Answers.{node_then, server_then}
use Rattle.proof_answers.specs.Waiting.{but_oldest, waiting, waiting_on}
use Rattle.proof_answers.proofs.Prefixes.{after_next, may_next, slot_cases, slot_last, slot_more, take_all, take_more, take_none, waiting_next}
use Rattle.proof_clients.proofs.Slots.{slot_at, slot_below}

-- Traces

-- an event, by which action its step was taken, and by which it came on disk
pub record Stamp : Type 0 where
  pub event : Event
  pub taken : ℕ
  pub told : ℕ

abbrev pub stamped : List Stamp → List Event
stamped stamps = map (λ (s : Stamp). s.event) stamps

module _ (given : Given) (actions : List Action) where
  -- a node has the store that is on a disk, which reserves its moment
  pub record HasDisk (n : NodeView) (d : Disk) : Type 0 where
    pub store : on_disk d.store ≡ on_disk n.store
    pub moment : n.moment ≤ d.moment

  -- a step is the start on a disk, at a moment that is above all that the disk reserves
  pub record IsStart (at : ℕ) (d : Disk) (n : NodeView) (step : Step) : Type 0 where
    pub is : step ≡ start_step (max at d.moment)
    pub on : HasDisk n d

  -- this action took the step at this node; or it is a crash, and the step the start after it, on a node with what is on disk
  abbrev pub WasTaken : ℕ → NodeView → Step → ℕ → Type 0
  WasTaken id n step t =
      ((slice_get actions t ≡ Some (Takes id step)) × (node_then given actions t id ≡ n))
      ⊎ ((k : ℕ) × (at : ℕ) × (slice_get actions t ≡ Some (Crashes id k at)) × IsStart at (flushed_first k (server_then given actions t id)).disk n step)

  -- so with the steps that wait behind a node, all taken before the action with number `now`
  abbrev WaitTaken : ℕ → ℕ → NodeView → List WaitingStep → List ℕ → Type 0
  WaitTaken now id n [] [] = Unit {0}
  WaitTaken now id n [] (t ∷ ts) = ⊥
  WaitTaken now id n (w ∷ ws) [] = ⊥
  WaitTaken now id n (w ∷ ws) (t ∷ ts) = (t < now) × WasTaken id n w.step t × WaitTaken now id (node_after given n w.step) ws ts

  -- the event after these is a step that its action took
  pub record Happened (past : List Event) (s : Stamp) : Type 0 where
    pub id : ℕ
    pub step : Step
    pub node : NodeView
    pub kind : EventKind
    pub event : s.event ≡ event_at kind step.at
    pub aims : aim_of (world_after given past).records.bag kind ≡ Some (record { id = id; act = step.act })
    pub is : node_at (world_after given past).nodes id ≡ Some node
    pub taken : WasTaken id node step s.taken
    pub order : s.taken < s.told

  -- servers follow the events of these stamps, each told before the action `end`; their steps wait as the lists say
  record Trace (end now : ℕ) (c : Cluster) (lists : ℕ → List ℕ) : Type 0 where
    stamps : List Stamp
    follows : Follows given (stamped stamps) c
    waits : (id : ℕ) (n : NodeView) → node_at (world_after given (stamped stamps)).nodes id ≡ Some n → WaitTaken now id n (c.servers id).waiting (lists id)
    each : (k : ℕ) (s : Stamp) → slice_get stamps k ≡ Some s → Happened (take k (stamped stamps)) s
    bound : (k : ℕ) (s : Stamp) → slice_get stamps k ≡ Some s → s.told < end
    sorted : (j k : ℕ) (s t : Stamp) → slice_get stamps j ≡ Some s → slice_get stamps k ≡ Some t → j ≤ k → s.told ≤ t.told

  -- each flush before this action has its stamp
  abbrev Flushed : ℕ → List Stamp → Type 0
  Flushed i stamps =
      (f id t : ℕ) (rest : List ℕ) → f < i → slice_get actions f ≡ Some (Flushes id) → waiting id (take f actions) ≡ t ∷ rest
      → (k : ℕ) × (s : Stamp) × (slice_get stamps k ≡ Some s) × (s.taken ≡ t) × (s.told ≡ f)

  waits_on : (now later id : ℕ) (n : NodeView) (ws : List WaitingStep) (ts : List ℕ) → now ≤ later → WaitTaken now id n ws ts → WaitTaken later id n ws ts
  waits_on now later id n [] [] l h = tt
  waits_on now later id n [] (t ∷ ts) l h = absurd h
  waits_on now later id n (w ∷ ws) [] l h = absurd h
  waits_on now later id n (w ∷ ws) (t ∷ ts) l h = ((let k = h.0 in omega (arith, l, k)), h.1, waits_on now later id (node_after given n w.step) ws ts l h.2)

  waits_last : (now id : ℕ) (n m : NodeView) (ws : List WaitingStep) (ts : List ℕ) (w : WaitingStep) → m ≡ node_after_all given n (steps_of ws) → WasTaken id m w.step now
      → WaitTaken now id n ws ts → WaitTaken (suc now) id n (ws ++ w ∷ []) (ts ++ now ∷ [])
  waits_last now id n m [] [] w q p h = (omega arith, subst (λ x. WasTaken id x w.step now) q p, tt)
  waits_last now id n m [] (t ∷ ts) w q p h = absurd h
  waits_last now id n m (x ∷ ws) [] w q p h = absurd h
  waits_last now id n m (x ∷ ws) (t ∷ ts) w q p h = ((let k = h.0 in omega (arith, k)), h.1, waits_last now id (node_after given n x.step) m ws ts w q p h.2)

  -- the lists of one server change
  record Lists (id : ℕ) (own : List ℕ) (before after : ℕ → List ℕ) : Type 0 where
    is : after id ≡ own
    others : (other : ℕ) → id ≢ other → after other ≡ before other

  more_lists : (id : ℕ) (own : List ℕ) (before : ℕ → List ℕ) → Lists id own before (λ x. if nat_eq id x then own else before x)
  more_lists id own before = record {
    is = (let y : nat_eq id id ≡ true = eq-eqb id id refl in rw y refl);
    others = λ other d. (let y : nat_eq id other ≡ false = ne_eqb id other d in rw y refl);
  }

  -- nothing happens in the world
  kept_trace : (end now later : ℕ) (c d : Cluster) (lists lists' : ℕ → List ℕ) (id : ℕ) (s : Server) (own : List ℕ) → now ≤ later → (t : Trace end now c lists) → Changes id s c d → Lists id own lists lists'
      → ((n : NodeView) → node_at (world_after given (stamped t.stamps)).nodes id ≡ Some n → ServerFollows given (world_after given (stamped t.stamps)).records.bag id n s)
      → ((n : NodeView) → node_at (world_after given (stamped t.stamps)).nodes id ≡ Some n → WaitTaken later id n s.waiting own)
      → AreIncluded d.released c.released
      → (u : Trace end later d lists') × (u.stamps ≡ t.stamps)
  kept_trace end now later c d lists lists' id s own l t ch ls follows waits within = (
    record {
      stamps = t.stamps;
      follows = kept_follows given (world_after given (stamped t.stamps)) c d id s t.follows ch follows within;
      waits = λ x n e. by_id x n e (cases_eq id x);
      each = t.each;
      bound = t.bound;
      sorted = t.sorted;
    },
    refl,
  )
    where
      by_id : (x : ℕ) (n : NodeView) → node_at (world_after given (stamped t.stamps)).nodes x ≡ Some n → (id ≡ x) ⊎ (id ≢ x) → WaitTaken later x n (d.servers x).waiting (lists' x)
      by_id x n e (inl q) =
          subst (λ y. WaitTaken later y n (d.servers y).waiting (lists' y)) q
          (subst (λ ts. WaitTaken later id n (d.servers id).waiting ts) (sym ls.is)
          (subst (λ (y : Server). WaitTaken later id n y.waiting own) (sym ch.own) (waits n (ap (node_at (world_after given (stamped t.stamps)).nodes) q ∙ e))))
      by_id x n e (inr q) =
          subst (λ ts. WaitTaken later x n (d.servers x).waiting ts) (sym (ls.others x q))
          (subst (λ (y : Server). WaitTaken later x n y.waiting (lists x)) (sym (ch.others x q)) (waits_on now later x n (c.servers x).waiting (lists x) l (t.waits x n e)))

  -- The oldest waiting step of a server comes on disk, by the action with number `now`
  module _ (now : ℕ) (c d : Cluster) (lists : ℕ → List ℕ) (T : Trace (suc now) now c lists) (id : ℕ) (member : Contains given.ids id) (w : WaitingStep) (ws : List WaitingStep) (t : ℕ) (rest : List ℕ)
      (q : (c.servers id).waiting ≡ w ∷ ws) (ql : lists id ≡ t ∷ rest) (ch : Changes id (flushed w ws (c.servers id)) c d)
      (within : AreIncluded d.released (joined c.released w.outputs)) where
    abbrev es : List Event
    es = stamped T.stamps

    n : NodeView
    n = (T.follows.there id member).0

    n_is : node_at (world_after given es).nodes id ≡ Some n
    unfolding n
    n_is = (T.follows.there id member).1

    wait : WaitTaken now id n (w ∷ ws) (t ∷ rest)
    wait = subst (λ ts. WaitTaken now id n (w ∷ ws) ts) ql (subst (λ xs. WaitTaken now id n xs (lists id)) q (T.waits id n n_is))

    abbrev new_event : Event
    new_event = came given es c d id w ws n n_is T.follows q ch within

    abbrev new_stamp : Stamp
    new_stamp = record { event = new_event; taken = t; told = now }

    abbrev new_stamps : List Stamp
    new_stamps = T.stamps ++ new_stamp ∷ []

    stamped_is : stamped new_stamps ≡ es ++ new_event ∷ []
    stamped_is = map-append (λ (s : Stamp). s.event) T.stamps (new_stamp ∷ [])

    abbrev new_lists : ℕ → List ℕ
    new_lists x = if nat_eq id x then rest else lists x

    ls : Lists id rest lists new_lists
    ls = more_lists id rest lists

    long : (k : ℕ) (s : Stamp) → slice_get T.stamps k ≡ Some s → k ≤ length es
    long k s e = let a : k < length T.stamps = slot_below T.stamps k s e in let b : length es ≡ length T.stamps = length-map T.stamps (λ (s : Stamp). s.event) in omega (arith, a, b)

    waits_new : (x : ℕ) (m : NodeView) → node_at (world_after given (es ++ new_event ∷ [])).nodes x ≡ Some m → (id ≡ x) ⊎ (id ≢ x) → WaitTaken now x m (d.servers x).waiting (new_lists x)
    waits_new x m e (inl z) =
        let same : node_after given n w.step ≡ m = some_same (node_after given n w.step) m (sym (own_came given es c d id w ws n n_is T.follows q ch within) ∙ (ap (node_at (world_after given (es ++ new_event ∷ [])).nodes) z ∙ e)) in
        subst (λ y. WaitTaken now y m (d.servers y).waiting (new_lists y)) z
        (subst (λ y. WaitTaken now id y (d.servers id).waiting (new_lists id)) same
        (subst (λ ts. WaitTaken now id (node_after given n w.step) (d.servers id).waiting ts) (sym ls.is)
        (subst (λ (y : Server). WaitTaken now id (node_after given n w.step) y.waiting rest) (sym ch.own) wait.2)))
    waits_new x m e (inr z) =
        subst (λ ts. WaitTaken now x m (d.servers x).waiting ts) (sym (ls.others x z))
        (subst (λ (y : Server). WaitTaken now x m y.waiting (lists x)) (sym (ch.others x z))
        (T.waits x m (sym (other_came given es c d id w ws n n_is T.follows q ch within x z) ∙ e)))

    new_happened : Happened es new_stamp
    new_happened = record {
      id = id;
      step = w.step;
      node = n;
      kind = came_kind given es c d id w ws n n_is T.follows q ch within;
      event = refl;
      aims = came_aims given es c d id w ws n n_is T.follows q ch within;
      is = n_is;
      taken = wait.1;
      order = wait.0;
    }

    each_new : (k : ℕ) (s : Stamp) → (slice_get T.stamps k ≡ Some s) ⊎ ((k ≡ length T.stamps) × (new_stamp ≡ s)) → Happened (take k (stamped new_stamps)) s
    each_new k s (inl e) = subst (λ xs. Happened xs s) (sym (ap (take k) stamped_is ∙ take_more es (new_event ∷ []) k (long k s e))) (T.each k s e)
    each_new k s (inr (z, e)) =
        let a : k ≡ length es = z ∙ sym (length-map T.stamps (λ (s : Stamp). s.event)) in
        subst (λ xs. Happened xs s) (sym (ap (take k) stamped_is ∙ (ap (λ j. take j (es ++ new_event ∷ [])) a ∙ (take_more es (new_event ∷ []) (length es) (omega arith) ∙ take_all es))))
        (subst (Happened es) e new_happened)

    bound_new : (k : ℕ) (s : Stamp) → (slice_get T.stamps k ≡ Some s) ⊎ ((k ≡ length T.stamps) × (new_stamp ≡ s)) → s.told < suc now
    bound_new k s (inl e) = T.bound k s e
    bound_new k s (inr (z, e)) = let a : now ≡ s.told = ap (λ (x : Stamp). x.told) e in omega (arith, a)

    sorted_new : (j k : ℕ) (s u : Stamp) → (slice_get T.stamps j ≡ Some s) ⊎ ((j ≡ length T.stamps) × (new_stamp ≡ s)) → (slice_get T.stamps k ≡ Some u) ⊎ ((k ≡ length T.stamps) × (new_stamp ≡ u)) → j ≤ k → s.told ≤ u.told
    sorted_new j k s u (inl e) (inl f) l = T.sorted j k s u e f l
    sorted_new j k s u (inl e) (inr f) l = let a : now ≡ u.told = ap (λ (x : Stamp). x.told) f.1 in let b : s.told < suc now = T.bound j s e in omega (arith, a, b)
    sorted_new j k s u (inr e) (inl f) l = let a : k < length T.stamps = slot_below T.stamps k u f in let b = e.0 in absurd (omega (arith, a, b, l))
    sorted_new j k s u (inr e) (inr f) l = let a : now ≡ u.told = ap (λ (x : Stamp). x.told) f.1 in let b : now ≡ s.told = ap (λ (x : Stamp). x.told) e.1 in omega (arith, a, b)

    came_trace : (u : Trace (suc now) now d new_lists) × (u.stamps ≡ T.stamps ++ new_stamp ∷ [])
    came_trace = (
      record {
        stamps = new_stamps;
        follows = subst (λ xs. Follows given xs d) (sym stamped_is) (came_follows given es c d id w ws n n_is T.follows q ch within);
        waits = λ x m e. waits_new x m (subst (λ xs. node_at (world_after given xs).nodes x ≡ Some m) stamped_is e) (cases_eq id x);
        each = λ k s e. each_new k s (slot_cases T.stamps new_stamp k s e);
        bound = λ k s e. bound_new k s (slot_cases T.stamps new_stamp k s e);
        sorted = λ j k s u e f l. sorted_new j k s u (slot_cases T.stamps new_stamp j s e) (slot_cases T.stamps new_stamp k u f) l;
      },
      refl,
    )

  -- some steps came on disk
  record Survived (now : ℕ) (d : Cluster) (lists : ℕ → List ℕ) (id : ℕ) (stamps : List Stamp) : Type 0 where
    lists' : ℕ → List ℕ
    others : (other : ℕ) → id ≢ other → lists' other ≡ lists other
    trace : Trace (suc now) now d lists'
    more : List Stamp
    grows : trace.stamps ≡ stamps ++ more

  waits_of : (now id : ℕ) (n : NodeView) (w : WaitingStep) (ws : List WaitingStep) (ts : List ℕ) → WaitTaken now id n (w ∷ ws) ts → (t : ℕ) × (rest : List ℕ) × (ts ≡ t ∷ rest)
  waits_of now id n w ws [] h = absurd h
  waits_of now id n w ws (t ∷ rest) h = (t, rest, refl)

  survived_kept : (now : ℕ) (c d : Cluster) (lists : ℕ → List ℕ) (id : ℕ) → Contains given.ids id → (T : Trace (suc now) now c lists) → Changes id (c.servers id) c d → AreIncluded d.released c.released → Survived now d lists id T.stamps
  survived_kept now c d lists id member T ch within =
      let one = kept_trace (suc now) now now c d lists lists id (c.servers id) (lists id) (omega arith) T ch (record { is = refl; others = λ x e. refl }) (λ n e. T.follows.each id n e) (λ n e. T.waits id n e) within in
      record { lists' = lists; others = λ x e. refl; trace = one.0; more = []; grows = one.1 ∙ sym (append-nil T.stamps) }

  survive : (k now : ℕ) (c d : Cluster) (lists : ℕ → List ℕ) (id : ℕ) → Contains given.ids id → (T : Trace (suc now) now c lists) → Changes id (flushed_first k (c.servers id)) c d → AreIncluded d.released c.released → Survived now d lists id T.stamps
  survive zero now c d lists id member T ch within = survived_kept now c d lists id member T ch within
  survive (suc k) now c d lists id member T ch within =
      go (c.servers id).waiting refl ch (λ c2 lists2 traced ch2 within2. survive k now c2 d lists2 id member traced ch2 within2)
    where
      go : (xs : List WaitingStep) → (c.servers id).waiting ≡ xs
          → Changes id (elim xs as (λ _. Server) [ [] ↦ c.servers id | w ∷ ws ↦ flushed_first k (flushed w ws (c.servers id)) ]) c d
          → ((c2 : Cluster) (lists2 : ℕ → List ℕ) (traced : Trace (suc now) now c2 lists2) → Changes id (flushed_first k (c2.servers id)) c2 d → AreIncluded d.released c2.released → Survived now d lists2 id traced.stamps)
          → Survived now d lists id T.stamps
      go [] q ch2 rest = survived_kept now c d lists id member T ch2 within
      go (w ∷ ws) q ch2 rest =
          let mid : Cluster = with_server id (flushed w ws (c.servers id)) c in
          let now_is : Changes id (flushed w ws (c.servers id)) c mid = changes id (flushed w ws (c.servers id)) c in
          let at = T.follows.there id member in
          let z = waits_of now id at.0 w ws (lists id) (subst (λ xs. WaitTaken now id at.0 xs (lists id)) q (T.waits id at.0 at.1)) in
          let one = came_trace now c mid lists T id member w ws z.0 z.1 q z.2 now_is (included_left c.released w.outputs) in
          let later = rest mid (λ x. if nat_eq id x then z.1 else lists x) one.0 (record {
            own = ch2.own ∙ ap (flushed_first k) (sym now_is.own);
            others = λ x e. ch2.others x e ∙ sym (now_is.others x e);
          }) within in
          record {
            lists' = later.lists';
            others = λ x e. later.others x e ∙ (more_lists id z.1 lists).others x e;
            trace = later.trace;
            more = new_stamp now c mid lists T id member w ws z.0 z.1 q z.2 now_is (included_left c.released w.outputs) ∷ later.more;
            grows = later.grows ∙ (ap (λ xs. xs ++ later.more) one.1 ∙ append_assoc T.stamps _ later.more);
          }

  -- After the first actions

  more_trace : (end now later : ℕ) (c : Cluster) (lists lists' : ℕ → List ℕ) (t : Trace end now c lists) → now ≤ later → ((x : ℕ) → lists' x ≡ lists x) → (u : Trace end later c lists') × (u.stamps ≡ t.stamps)
  more_trace end now later c lists lists' t l same = (
    record {
      stamps = t.stamps;
      follows = t.follows;
      waits = λ id n e. subst (λ ts. WaitTaken later id n (c.servers id).waiting ts) (sym (same id)) (waits_on now later id n (c.servers id).waiting (lists id) l (t.waits id n e));
      each = t.each;
      bound = t.bound;
      sorted = t.sorted;
    },
    refl,
  )

  open_trace : (i : ℕ) (c : Cluster) (lists : ℕ → List ℕ) (t : Trace i i c lists) → (u : Trace (suc i) i c lists) × (u.stamps ≡ t.stamps)
  open_trace i c lists t = (
    record {
      stamps = t.stamps;
      follows = t.follows;
      waits = t.waits;
      each = t.each;
      bound = λ k s e. let l : s.told < i = t.bound k s e in omega (arith, l);
      sorted = t.sorted;
    },
    refl,
  )

  -- flushes stay stamped
  flushed_more : (i : ℕ) (stamps more all : List Stamp) → all ≡ stamps ++ more → Flushed i stamps → Flushed i all
  flushed_more i stamps more all q h f id t rest l e o =
      let z = h f id t rest l e o in
      (z.0, z.1, subst (λ xs. slice_get xs z.0 ≡ Some z.1) (sym q) (slot_more stamps more z.0 z.1 z.2), z.3, z.4)

  -- another action than a flush
  abbrev NoFlush : Action → Type 0
  NoFlush a = (id : ℕ) → a ≡ Flushes id → ⊥

  flushed_next : (i : ℕ) (a : Action) (stamps : List Stamp) → slice_get actions i ≡ Some a → NoFlush a → Flushed i stamps → Flushed (suc i) stamps
  flushed_next i a stamps is other h f id t rest l e o = go (cases_lt f i)
    where
      go : (f < i) ⊎ (i ≤ f) → (k : ℕ) × (s : Stamp) × (slice_get stamps k ≡ Some s) × (s.taken ≡ t) × (s.told ≡ f)
      go (inl k) = h f id t rest k e o
      go (inr k) =
          let q : f ≡ i = omega (arith, l, k) in
          absurd (other id (some_same a (Flushes id) (sym is ∙ subst (λ j. slice_get actions j ≡ Some (Flushes id)) q e)))

  record Next (i : ℕ) (a : Action) (c : Cluster) (lists : ℕ → List ℕ) : Type 0 where
    trace : Trace (suc i) (suc i) (after_action given a c) (λ x. waiting_on x i a (lists x))
    flushed : Flushed (suc i) trace.stamps

  if_is : {A : Type 0} (id x : ℕ) (a b : A) → id ≡ x → (if nat_eq id x then a else b) ≡ a
  if_is id x a b e = (let y : nat_eq id x ≡ true = eq-eqb id x e in rw y refl)

  if_not : {A : Type 0} (id x : ℕ) (a b : A) → id ≢ x → (if nat_eq id x then a else b) ≡ b
  if_not id x a b d = (let y : nat_eq id x ≡ false = ne_eqb id x d in rw y refl)

  module _ (i : ℕ) (c : Cluster) (same : (id : ℕ) → c.servers id ≡ server_then given actions i id) (T : Trace (suc i) i c (λ id. waiting id (take i actions))) (done : Flushed i T.stamps) where
    abbrev lists : ℕ → List ℕ
    lists id = waiting id (take i actions)

    next_takes : (id : ℕ) (step : Step) → slice_get actions i ≡ Some (Takes id step) → MayTake c.released.bag id step.act → Next i (Takes id step) c lists
    next_takes id step is may =
        let bag : List Message = (world_after given (stamped T.stamps)).records.bag in
        let s : Server = with_step given step (c.servers id) in
        let one = kept_trace (suc i) i (suc i) c (with_server id s c) lists (λ x. waiting_on x i (Takes id step) (lists x)) id s (lists id ++ i ∷ []) (omega arith) T (changes id s c)
        (record {
          is = if_is id id (lists id ++ i ∷ []) (lists id) refl;
          others = λ x d. if_not id x (lists x ++ i ∷ []) (lists x) d;
        })
        (λ n e. step_follows given bag id n (c.servers id) step (event_for bag id step.act (may_take_more c.released.bag bag id step.act T.follows.released.bag may)) (T.follows.each id n e))
        (λ n e. waits_last i id n (c.servers id).node (c.servers id).waiting (lists id) (waiting_step given (c.servers id).reserved (c.servers id).node step) (T.follows.each id n e).node (inl (is, sym (ap (λ (y : Server). y.node) (same id)))) (T.waits id n e))
        (included_self c.released) in
        record { trace = one.0; flushed = subst (Flushed (suc i)) (sym one.1) (flushed_next i (Takes id step) T.stamps is (λ x e. cc) done) }

    none_of : (id : ℕ) (n : NodeView) (ts : List ℕ) → WaitTaken i id n [] ts → ts ≡ []
    none_of id n [] h = refl
    none_of id n (t ∷ ts) h = absurd h

    one_behind : (t : ℕ) (rest ts : List ℕ) → ts ≡ t ∷ rest → but_oldest ts ≡ rest
    one_behind t rest ts e = ap but_oldest e

    head_same : (a b : ℕ) (xs ys : List ℕ) → ◌≡◌ {A = List ℕ} (a ∷ xs) (b ∷ ys) → a ≡ b
    head_same a b xs ys e = cc

    id_same : (a b : ℕ) → ◌≡◌ {A = Action} (Flushes a) (Flushes b) → a ≡ b
    id_same a b e = cc

    -- the cluster after a flush, by what waits
    abbrev cluster_of : ℕ → List WaitingStep → Cluster
    cluster_of id xs = elim xs as (λ _. Cluster) [ [] ↦ c | w ∷ ws ↦ record (with_server id (flushed w ws (c.servers id)) c) { released = joined c.released w.outputs } ]

    abbrev NextIn : ℕ → List WaitingStep → Type 0
    NextIn id xs = (trace : Trace (suc i) (suc i) (cluster_of id xs) (λ x. waiting_on x i (Flushes id) (lists x))) × Flushed (suc i) trace.stamps

    next_flushes : (id : ℕ) → slice_get actions i ≡ Some (Flushes id) → Contains given.ids id → Next i (Flushes id) c lists
    next_flushes id is member = go (c.servers id).waiting refl
      where
        no_list : (c.servers id).waiting ≡ [] → lists id ≡ []
        no_list q = let at = T.follows.there id member in none_of id at.0 (lists id) (subst (λ xs. WaitTaken i id at.0 xs (lists id)) q (T.waits id at.0 at.1))

        by_waiting : (xs : List WaitingStep) → (c.servers id).waiting ≡ xs → NextIn id xs
        by_waiting [] q =
            let empty : lists id ≡ [] = no_list q in
            let one = kept_trace (suc i) i (suc i) c c lists (λ x. waiting_on x i (Flushes id) (lists x)) id (c.servers id) [] (omega arith) T (record { own = refl; others = λ x d. refl })
            (record {
              is = if_is id id (but_oldest (lists id)) (lists id) refl ∙ ap but_oldest empty;
              others = λ x d. if_not id x (but_oldest (lists x)) (lists x) d;
            })
            (λ n e. T.follows.each id n e)
            (λ n e. subst (λ xs. WaitTaken (suc i) id n xs []) (sym q) tt)
            (included_self c.released) in
            (one.0, subst (Flushed (suc i)) (sym one.1) all)
          where
            all : Flushed (suc i) T.stamps
            all f x t rest l e o = by (cases_lt f i)
              where
                by : (f < i) ⊎ (i ≤ f) → (k : ℕ) × (s : Stamp) × (slice_get T.stamps k ≡ Some s) × (s.taken ≡ t) × (s.told ≡ f)
                by (inl k) = done f x t rest k e o
                by (inr k) =
                    let z : f ≡ i = omega (arith, l, k) in
                    let y : id ≡ x = id_same id x (some_same (Flushes id) (Flushes x) (sym is ∙ subst (λ j. slice_get actions j ≡ Some (Flushes x)) z e)) in
                    let v : ◌≡◌ {A = List ℕ} [] (t ∷ rest) = sym (no_list q) ∙ (ap (λ j. waiting j (take i actions)) y ∙ subst (λ j. waiting x (take j actions) ≡ t ∷ rest) z o) in
                    cc
        by_waiting (w ∷ ws) q =
            let d : Cluster = record (with_server id (flushed w ws (c.servers id)) c) { released = joined c.released w.outputs } in
            let ch : Changes id (flushed w ws (c.servers id)) c d = (let y = changes id (flushed w ws (c.servers id)) c in record { own = y.own; others = y.others }) in
            let at = T.follows.there id member in
            let z = waits_of i id at.0 w ws (lists id) (subst (λ xs. WaitTaken i id at.0 xs (lists id)) q (T.waits id at.0 at.1)) in
            let one = came_trace i c d lists T id member w ws z.0 z.1 q z.2 ch (included_self (joined c.released w.outputs)) in
            let two = more_trace (suc i) i (suc i) d (λ x. if nat_eq id x then z.1 else lists x) (λ x. waiting_on x i (Flushes id) (lists x)) one.0 (omega arith) (pointwise z.0 z.1 z.2) in
            let stamp : Stamp = new_stamp i c d lists T id member w ws z.0 z.1 q z.2 ch (included_self (joined c.released w.outputs)) in
            (two.0, subst (Flushed (suc i)) (sym (two.1 ∙ one.1)) (all stamp z.0 z.1 z.2 refl refl))
          where
            pointwise : (t : ℕ) (rest : List ℕ) → lists id ≡ t ∷ rest → (x : ℕ) → waiting_on x i (Flushes id) (lists x) ≡ (if nat_eq id x then rest else lists x)
            pointwise t rest r x = by (nat_eq id x) refl
              where
                by : (b : Bool) → nat_eq id x ≡ b → (if b then but_oldest (lists x) else lists x) ≡ (if b then rest else lists x)
                by true y = ap (λ j. but_oldest (lists j)) (sym (eqb-true id x y)) ∙ one_behind t rest (lists id) r
                by false y = refl

            all : (stamp : Stamp) (t : ℕ) (rest : List ℕ) → lists id ≡ t ∷ rest → stamp.taken ≡ t → stamp.told ≡ i → Flushed (suc i) (T.stamps ++ stamp ∷ [])
            all stamp t rest r a b f x u behind l e o = by (cases_lt f i)
              where
                by : (f < i) ⊎ (i ≤ f) → (k : ℕ) × (s : Stamp) × (slice_get (T.stamps ++ stamp ∷ []) k ≡ Some s) × (s.taken ≡ u) × (s.told ≡ f)
                by (inl k) = flushed_more i T.stamps (stamp ∷ []) (T.stamps ++ stamp ∷ []) refl done f x u behind k e o
                by (inr k) =
                    let z : f ≡ i = omega (arith, l, k) in
                    let y : id ≡ x = id_same id x (some_same (Flushes id) (Flushes x) (sym is ∙ subst (λ j. slice_get actions j ≡ Some (Flushes x)) z e)) in
                    let v : ◌≡◌ {A = List ℕ} (t ∷ rest) (u ∷ behind) = sym r ∙ (ap (λ j. waiting j (take i actions)) y ∙ subst (λ j. waiting x (take j actions) ≡ u ∷ behind) z o) in
                    (length T.stamps, stamp, slot_last T.stamps stamp, a ∙ head_same t u rest behind v, b ∙ sym z)

        go : (xs : List WaitingStep) → (c.servers id).waiting ≡ xs → Next i (Flushes id) c lists
        go xs q = let z = subst (NextIn id) (sym q) (by_waiting xs q) in record { trace = z.0; flushed = z.1 }

    next_crashes : (id k at : ℕ) → slice_get actions i ≡ Some (Crashes id k at) → Contains given.ids id → Next i (Crashes id k at) c lists
    next_crashes id k at is member =
        let s : Server = flushed_first k (c.servers id) in
        let mid : Cluster = with_server id s c in
        let now_is : Changes id s c mid = changes id s c in
        let one = survive k i c mid lists id member T now_is (included_self c.released) in
        let d : Cluster = with_server id (crashed given id k at (c.servers id)) c in
        let ch : Changes id (crashed given id k at (c.servers id)) c d = changes id (crashed given id k at (c.servers id)) c in
        let es : List Event = stamped one.trace.stamps in
        let two = kept_trace (suc i) i (suc i) mid d one.lists' (λ x. waiting_on x i (Crashes id k at) (lists x)) id (crashed given id k at (c.servers id)) (i ∷ []) (omega arith) one.trace
        (record { own = ch.own; others = λ x e. ch.others x e ∙ sym (now_is.others x e) })
        (record {
          is = if_is id id (i ∷ []) (lists id) refl;
          others = λ x e. if_not id x (i ∷ []) (lists x) e ∙ sym (one.others x e);
        })
        (λ n e. crash_follows given (world_after given es).records.bag id n at s (node_id (world_after given es).nodes id n e)
        (subst (ServerFollows given (world_after given es).records.bag id n) now_is.own (one.trace.follows.each id n e)))
        (λ n e.
        let on = subst (ServerFollows given (world_after given es).records.bag id n) now_is.own (one.trace.follows.each id n e) in
        (omega arith, inr (k, at, is, subst (λ (y : Server). IsStart at (flushed_first k y).disk n (start_step (max at s.disk.moment))) (same id) (record { is = refl; on = record { store = on.disk; moment = on.moment } })), tt))
        (included_self c.released) in
        record { trace = two.0; flushed = subst (Flushed (suc i)) (sym two.1) (flushed_next i (Crashes id k at) one.trace.stamps is (λ x e. cc) (flushed_more i T.stamps one.more one.trace.stamps one.grows done)) }

    next : (a : Action) → slice_get actions i ≡ Some a → MayAct given a c → Next i a c lists
    next (Takes id step) is may = next_takes id step is may.1
    next (Flushes id) is may = next_flushes id is may
    next (Crashes id k at) is may = next_crashes id k at is may

  record StageOf (i : ℕ) (first : List Action) : Type 0 where
    trace : Trace i i (after_actions given first (new_cluster given)) (λ id. waiting id first)
    flushed : Flushed i trace.stamps

  first_stage : StageOf 0 []
  first_stage = record {
    trace = record {
      stamps = [];
      follows = new_follows given;
      waits = λ id n e. tt;
      each = λ k s e. cc;
      bound = λ k s e. cc;
      sorted = λ j k s t e f l. cc;
    };
    flushed = λ f id t rest l e o. absurd (omega (arith, l));
  }

  next_stage : (i : ℕ) (a : Action) → slice_get actions i ≡ Some a → AllMayAct given actions (new_cluster given) → StageOf i (take i actions) → StageOf (suc i) (take (suc i) actions)
  next_stage i a is may s =
      let c : Cluster = after_actions given (take i actions) (new_cluster given) in
      let open_is = open_trace i c (λ id. waiting id (take i actions)) s.trace in
      let n = next i c (λ id. refl) open_is.0 (subst (Flushed i) (sym open_is.1) s.flushed) a is (may_next given actions i a (new_cluster given) is may) in
      let m = more_trace (suc i) (suc i) (suc i) (after_action given a c) (λ x. waiting_on x i a (waiting x (take i actions))) (λ x. waiting x (take (suc i) actions)) n.trace (omega arith) (λ x. waiting_next x actions i a is) in
      let z : (t : Trace (suc i) (suc i) (after_action given a c) (λ x. waiting x (take (suc i) actions))) × Flushed (suc i) t.stamps = (m.0, subst (Flushed (suc i)) (sym m.1) n.flushed) in
      let y = subst (λ d. (t : Trace (suc i) (suc i) d (λ x. waiting x (take (suc i) actions))) × Flushed (suc i) t.stamps) (sym (after_next given actions i a (new_cluster given) is)) z in
      record { trace = y.0; flushed = y.1 }

  stage : (i : ℕ) → i ≤ length actions → AllMayAct given actions (new_cluster given) → StageOf i (take i actions)
  stage zero l may = subst (StageOf 0) (sym (take_none actions)) first_stage
  stage (suc i) l may = let a = slot_at actions i (omega (arith, l)) in next_stage i a.0 a.1 may (stage i (omega (arith, l)) may)

  -- All actions: the events that servers follow, with the actions that took and told them
  pub record Traced : Type 0 where
    pub stamps : List Stamp
    pub follows : Follows given (stamped stamps) (after_actions given actions (new_cluster given))
    pub each : (k : ℕ) (s : Stamp) → slice_get stamps k ≡ Some s → Happened (take k (stamped stamps)) s
    pub sorted : (j k : ℕ) (s t : Stamp) → slice_get stamps j ≡ Some s → slice_get stamps k ≡ Some t → j ≤ k → s.told ≤ t.told
    pub flushed : (f id t : ℕ) (rest : List ℕ) → slice_get actions f ≡ Some (Flushes id) → waiting id (take f actions) ≡ t ∷ rest
        → (k : ℕ) × (s : Stamp) × (slice_get stamps k ≡ Some s) × (s.taken ≡ t) × (s.told ≡ f)

  pub traced : AllMayAct given actions (new_cluster given) → Traced
  traced may =
      let s = stage (length actions) (omega arith) may in
      record {
        stamps = s.trace.stamps;
        follows = subst (λ first. Follows given (stamped s.trace.stamps) (after_actions given first (new_cluster given))) (take_all actions) s.trace.follows;
        each = s.trace.each;
        sorted = s.trace.sorted;
        flushed = λ f id t rest e o. s.flushed f id t rest (slot_below actions f (Flushes id) e) e o;
      }
