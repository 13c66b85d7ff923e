-- Servers follow a world, whatever they do.
use Rattle.std.specs.Prelude.{◌≡◌, ◌≢◌, ◌<◌, ◌≤◌, ◌⊎◌, ℕ, Bool, true, false, List, [], ◌∷◌, ◌++◌, length, map, max, nat_eq, slice_set, Contains, Option, Some, refl}
use Rattle.std.specs.List.{slice_index_or}
use Rattle.std.proofs.Common.{◌∙◌, inl, inr, sym, ap, subst, arith, cond, zero, suc}
use Rattle.std.proofs.lemmas.Bool.{cases_eq, eq-eqb, eqb-true, ne_eqb}
use Rattle.std.proofs.lemmas.List.{append-nil, append_assoc}
use Rattle.proof_deeds.specs.raft_command.declared.config.EngineConfig.{EngineConfig}
use Rattle.proof_deeds.specs.raft_store.declared.entry.Entry.{Entry}
use Rattle.proof_deeds.specs.raft_schedule.declared.event.Event.{Event}
use Rattle.proof_deeds.specs.raft_schedule.declared.event.EventKind.{EventKind}
use Rattle.proof_deeds.specs.raft_schedule.declared.event.EventKind.TheVariants as event
use Rattle.proof_deeds.specs.raft_schedule.declared.event.Start.TheVariants.{Bare}
use Rattle.proof_deeds.specs.raft_node.declared.given.Given.{Given}
use Rattle.proof_deeds.specs.raft_calls.declared.message.Message.{Message}
use Rattle.proof_deeds.specs.raft_node.Events.{aim_of}
use Rattle.proof_deeds.specs.raft_node.Net.{Net, NodeView, new_node, no_records, node_at}
use Rattle.proof_deeds.specs.raft_node.Runs.{net_of, world_after}
use Rattle.raft_wire.specs.Records.{on_disk}
use Rattle.proof_servers.specs.Follows.{AreIncluded, ClusterFollows, Follows, HasEvent, ServerFollows, WaitBehind}
use Rattle.proof_servers.specs.Recorded.{joined, records_behind}
use Rattle.proof_servers.specs.Servers.{Action, AllMayAct, Cluster, Crashes, Flushes, MayAct, MayTake, Server, Step, Takes, WaitingStep, after_action, after_actions, crashed, disk_records, event_at, flushed, flushed_first, new_cluster, new_disk, node_after, node_after_all, outputs_of, played_alone, reserved_after, reserved_after_all, reserved_for, started, stopped_node, waiting_step, with_records, with_server, with_step}
use Rattle.proof_servers.proofs.AtNode.{Spot, happens_at, node_id, other_set, own_set, played_at, spot_of, step_id, world_more}
use Rattle.proof_servers.proofs.Disk.{disk_records_same, played_same, reserves, start_step, step_reserves, step_stored}
use Rattle.proof_servers.proofs.HasEvents.{aims_more, event_for, may_take_more}
use Rattle.proof_servers.proofs.Included.{behind_same, included_both, included_left, included_self, included_then}

abbrev pub steps_of : List WaitingStep → List Step
steps_of ws = map (λ w. w.step) ws

module _ (given : Given) where
  waiting_more : (bag more : List Message) (id reserved : ℕ) (n : NodeView) (ws : List WaitingStep) → WaitBehind given bag id reserved n ws → WaitBehind given (bag ++ more) id reserved n ws
  waiting_more bag more id reserved n [] h = tt
  waiting_more bag more id reserved n (w ∷ ws) h = (
    h.0,
    h.1,
    record { kind = h.2.kind; aims = aims_more bag more h.2.kind _ h.2.aims },
    waiting_more bag more id (reserved_after given reserved n w.step) (node_after given n w.step) ws h.3,
  )

  one_more : (bag : List Message) (id reserved upto : ℕ) (n m : NodeView) (ws : List WaitingStep) (step : Step) → m ≡ node_after_all given n (steps_of ws)
      → upto ≡ reserved_after_all given reserved n (steps_of ws) → HasEvent bag id step.act → WaitBehind given bag id reserved n ws
      → WaitBehind given bag id reserved n (ws ++ waiting_step given upto m step ∷ [])
  one_more bag id reserved upto n m [] step q e p h = ((λ i. disk_records given (e i) (q i) step), ap (λ x. outputs_of given x step) q, p, tt)
  one_more bag id reserved upto n m (w ∷ ws) step q e p h =
      (h.0, h.1, h.2, one_more bag id (reserved_after given reserved n w.step) upto (node_after given n w.step) m ws step q e p h.3)

  after_step : (n : NodeView) (ws : List WaitingStep) (w : WaitingStep) → node_after_all given n (steps_of (ws ++ w ∷ [])) ≡ node_after given (node_after_all given n (steps_of ws)) w.step
  after_step n [] w = refl
  after_step n (x ∷ ws) w = after_step (node_after given n x.step) ws w

  reserved_step : (reserved : ℕ) (n : NodeView) (ws : List WaitingStep) (w : WaitingStep)
      → reserved_after_all given reserved n (steps_of (ws ++ w ∷ []))
      ≡ reserved_after given (reserved_after_all given reserved n (steps_of ws)) (node_after_all given n (steps_of ws)) w.step
  reserved_step reserved n [] w = refl
  reserved_step reserved n (x ∷ ws) w = reserved_step (reserved_after given reserved n x.step) (node_after given n x.step) ws w

  -- a step is taken
  pub step_follows : (bag : List Message) (id : ℕ) (n : NodeView) (s : Server) (step : Step) → HasEvent bag id step.act → ServerFollows given bag id n s → ServerFollows given bag id n (with_step given step s)
  step_follows bag id n s step p f = record {
    node = ap (λ x. node_after given x step) f.node ∙ sym (after_step n s.waiting (waiting_step given s.reserved s.node step));
    reserved = (λ i. reserved_after given (f.reserved i) (f.node i) step) ∙ sym (reserved_step s.disk.moment n s.waiting (waiting_step given s.reserved s.node step));
    disk = f.disk;
    moment = f.moment;
    waiting = one_more bag id s.disk.moment s.reserved n s.node s.waiting step f.node f.reserved p f.waiting;
  }

  more_follows : (bag more : List Message) (id : ℕ) (n : NodeView) (s : Server) → ServerFollows given bag id n s → ServerFollows given (bag ++ more) id n s
  more_follows bag more id n s f =
      record { node = f.node; reserved = f.reserved; disk = f.disk; moment = f.moment; waiting = waiting_more bag more id s.disk.moment n s.waiting f.waiting }

  -- what the oldest waiting step leaves is on disk
  flushed_follows : (bag more : List Message) (id : ℕ) (n : NodeView) (s : Server) (w : WaitingStep) (ws : List WaitingStep) → s.waiting ≡ w ∷ ws → ServerFollows given bag id n s
      → ServerFollows given (bag ++ more) id (node_after given n w.step) (flushed w ws s)
  flushed_follows bag more id n s w ws q f =
      let waiting : WaitBehind given bag id s.disk.moment n (w ∷ ws) = subst (WaitBehind given bag id s.disk.moment n) q f.waiting in
      let upto : (with_records w.disk_records s.disk).moment ≡ reserved_after given s.disk.moment n w.step =
      ap (λ rs. (with_records rs s.disk).moment) waiting.0 ∙ step_reserves given n w.step s.disk in
      record {
        node = f.node ∙ ap (λ xs. node_after_all given n (steps_of xs)) q;
        reserved = f.reserved
            ∙ (ap (λ xs. reserved_after_all given s.disk.moment n (steps_of xs)) q
            ∙ ap (λ r. reserved_after_all given r (node_after given n w.step) (steps_of ws)) (sym upto));
        disk = ap (λ rs. on_disk (with_records rs s.disk).store) waiting.0 ∙ step_stored given n w.step s.disk f.disk;
        moment = subst (λ r. (node_after given n w.step).moment ≤ r) (sym upto) (reserves (node_after given n w.step).moment s.disk.moment);
        waiting = subst (λ r. WaitBehind given (bag ++ more) id r (node_after given n w.step) ws) (sym upto)
            (waiting_more bag more id (reserved_after given s.disk.moment n w.step) (node_after given n w.step) ws waiting.3);
      }

-- under one id there is this server, and the others are as before
pub record Changes (id : ℕ) (s : Server) (c d : Cluster) : Type 0 where
  pub own : d.servers id ≡ s
  pub others : (other : ℕ) → id ≢ other → d.servers other ≡ c.servers other

pub changes : (id : ℕ) (s : Server) (c : Cluster) → Changes id s c (with_server id s c)
changes id s c = record {
  own = (let y : nat_eq id id ≡ true = eq-eqb id id refl in rw y refl);
  others = λ other d. (let y : nat_eq other id ≡ false = ne_eqb other id (λ e. d (sym e)) in rw y refl);
}

pub some_same : {A : Type 0} (a b : A) → Some a ≡ Some b → a ≡ b
some_same a b e = cc

-- a server changes, and nothing happens in the world
pub kept_follows : (given : Given) (net : Net (List Entry)) (c d : Cluster) (id : ℕ) (s : Server) → ClusterFollows given net c → Changes id s c d
    → ((n : NodeView) → node_at net.nodes id ≡ Some n → ServerFollows given net.records.bag id n s)
    → AreIncluded d.released c.released → ClusterFollows given net d
kept_follows given net c d id s f ch own within = record {
  there = f.there;
  each = λ x n e. by_id x n e (cases_eq id x);
  released = included_then d.released c.released net.records within f.released;
}
  where
    by_id : (x : ℕ) (n : NodeView) → node_at net.nodes x ≡ Some n → (id ≡ x) ⊎ (id ≢ x) → ServerFollows given net.records.bag x n (d.servers x)
    by_id x n e (inl q) =
        subst (λ y. ServerFollows given net.records.bag y n (d.servers y)) q
        (subst (ServerFollows given net.records.bag id n) (sym ch.own) (own n (ap (node_at net.nodes) q ∙ e)))
    by_id x n e (inr q) = subst (ServerFollows given net.records.bag x n) (sym (ch.others x q)) (f.each x n e)

-- what the oldest waiting step of a server leaves is on disk: an event of the world
module _ (given : Given) (es : List Event) (c d : Cluster) (id : ℕ) (w : WaitingStep) (ws : List WaitingStep) (n : NodeView) (is : node_at (world_after given es).nodes id ≡ Some n)
    (f : Follows given es c) (q : (c.servers id).waiting ≡ w ∷ ws) (ch : Changes id (flushed w ws (c.servers id)) c d)
    (within : AreIncluded d.released (joined c.released w.outputs)) where
  abbrev pub net : Net (List Entry)
  net = world_after given es

  abbrev bag : List Message
  bag = net.records.bag

  server : ServerFollows given bag id n (c.servers id)
  server = f.each id n is

  behind : WaitBehind given bag id (c.servers id).disk.moment n (w ∷ ws)
  behind = subst (WaitBehind given bag id (c.servers id).disk.moment n) q server.waiting

  was : n.id ≡ id
  was = node_id net.nodes id n is

  spot : Spot net.nodes id n
  spot = spot_of net.nodes id n is

  abbrev stepped : Net (List Entry)
  stepped = net_of (slice_set net.nodes spot.place (node_after given n w.step)) (records_behind (λ es. es) net.records (played_alone given n w.step).1.records)

  pub came_kind : EventKind
  came_kind = behind.2.kind

  pub came_aims : aim_of bag came_kind ≡ Some (record { id = id; act = w.step.act })
  unfolding came_kind
  came_aims = behind.2.aims

  abbrev pub came : Event
  came = event_at came_kind w.step.at

  came_is : world_after given (es ++ came ∷ []) ≡ stepped
  came_is =
      world_more given es came
      ∙ (happens_at given came net (record { id = id; act = w.step.act }) came_aims n spot
      ∙ ap (λ x. net_of (slice_set net.nodes spot.place x.node) x.records) (played_at given came_kind w.step n net.records))

  own_stepped : node_at stepped.nodes id ≡ Some (node_after given n w.step)
  own_stepped = own_set net.nodes id n (node_after given n w.step) spot (step_id given n w.step ∙ was)

  other_stepped : (x : ℕ) → id ≢ x → node_at stepped.nodes x ≡ node_at net.nodes x
  other_stepped x d = other_set net.nodes id x n (node_after given n w.step) spot was (step_id given n w.step ∙ was) d

  -- its node is the next one, and the others are as before
  pub own_came : node_at (world_after given (es ++ came ∷ [])).nodes id ≡ Some (node_after given n w.step)
  own_came = ap (λ (x : Net (List Entry)). node_at x.nodes id) came_is ∙ own_stepped

  pub other_came : (x : ℕ) → id ≢ x → node_at (world_after given (es ++ came ∷ [])).nodes x ≡ node_at net.nodes x
  other_came x d = ap (λ (y : Net (List Entry)). node_at y.nodes x) came_is ∙ other_stepped x d

  there_by : (x : ℕ) → Contains given.ids x → (id ≡ x) ⊎ (id ≢ x) → (k : NodeView) × (node_at stepped.nodes x ≡ Some k)
  there_by x h (inl e) = (node_after given n w.step, ap (node_at stepped.nodes) (sym e) ∙ own_stepped)
  there_by x h (inr e) = ((f.there x h).0, other_stepped x e ∙ (f.there x h).1)

  each_by : (x : ℕ) (k : NodeView) → node_at stepped.nodes x ≡ Some k → (id ≡ x) ⊎ (id ≢ x) → ServerFollows given stepped.records.bag x k (d.servers x)
  each_by x k h (inl e) =
      let same : node_after given n w.step ≡ k = some_same (node_after given n w.step) k (sym own_stepped ∙ (ap (node_at stepped.nodes) e ∙ h)) in
      let there : ServerFollows given stepped.records.bag id (node_after given n w.step) (flushed w ws (c.servers id)) =
      flushed_follows given bag (outputs_of given n w.step).bag id n (c.servers id) w ws q server in
      subst (λ y. ServerFollows given stepped.records.bag y k (d.servers y)) e
      (subst (λ y. ServerFollows given stepped.records.bag id y (d.servers id)) same
      (subst (ServerFollows given stepped.records.bag id (node_after given n w.step)) (sym ch.own) there))
  each_by x k h (inr e) =
      subst (ServerFollows given stepped.records.bag x k) (sym (ch.others x e))
      (more_follows given bag (outputs_of given n w.step).bag x k (c.servers x) (f.each x k (sym (other_stepped x e) ∙ h)))

  released_by : AreIncluded d.released stepped.records
  released_by =
      subst (AreIncluded d.released) (sym (behind_same net.records (outputs_of given n w.step)))
      (included_then d.released (joined c.released w.outputs) (joined net.records (outputs_of given n w.step)) within
      (subst (λ q. AreIncluded (joined c.released w.outputs) (joined net.records q)) behind.1 (included_both c.released net.records w.outputs f.released)))

  pub came_follows : Follows given (es ++ came ∷ []) d
  came_follows = subst (λ x. ClusterFollows given x d) (sym came_is) (record {
    there = λ x h. there_by x h (cases_eq id x);
    each = λ x k h. each_by x k h (cases_eq id x);
    released = released_by;
  })

  pub release : (e : Event) × Follows given (es ++ e ∷ []) d
  release = (came, came_follows)

-- after some more events servers are followed
abbrev Further : Given → List Event → Cluster → Type 0
Further given es d = (more : List Event) × Follows given (es ++ more) d

still_further : (given : Given) (es : List Event) (d : Cluster) → Follows given es d → Further given es d
still_further given es d f = ([], subst (λ x. Follows given x d) (sym (append-nil es)) f)

-- what the k oldest waiting steps leave is on disk
abbrev server_of : Server → Server
server_of s = s

flushed_node : (k : ℕ) (s : Server) → (flushed_first k s).node ≡ s.node
flushed_node zero s = refl
flushed_node (suc k) s = go s.waiting (λ w ws. flushed_node k (flushed w ws s))
  where
    go : (xs : List WaitingStep) → ((w : WaitingStep) (ws : List WaitingStep) → (flushed_first k (flushed w ws s)).node ≡ s.node)
        → (server_of (elim xs as (λ _. Server) [ [] ↦ s | w ∷ ws ↦ flushed_first k (flushed w ws s) ])).node ≡ s.node
    go [] rest = refl
    go (w ∷ ws) rest = rest w ws

survive : (given : Given) (k : ℕ) (es : List Event) (c d : Cluster) (id : ℕ) → Contains given.ids id → Follows given es c → Changes id (flushed_first k (c.servers id)) c d
    → AreIncluded d.released c.released → Further given es d
survive given zero es c d id member f ch within = still_further given es d (kept_follows given (world_after given es) c d id (c.servers id) f ch (λ n e. f.each id n e) within)
survive given (suc k) es c d id member f ch within =
    go (c.servers id).waiting refl ch (λ es2 c2 f2 ch2 within2. survive given k es2 c2 d id member f2 ch2 within2)
  where
    go : (xs : List WaitingStep) → (c.servers id).waiting ≡ xs
        → Changes id (elim xs as (λ _. Server) [ [] ↦ c.servers id | w ∷ ws ↦ flushed_first k (flushed w ws (c.servers id)) ]) c d
        → ((es2 : List Event) (c2 : Cluster) → Follows given es2 c2 → Changes id (flushed_first k (c2.servers id)) c2 d → AreIncluded d.released c2.released → Further given es2 d)
        → Further given es d
    go [] q ch2 rest = still_further given es d (kept_follows given (world_after given es) c d id (c.servers id) f ch2 (λ n e. f.each id n e) within)
    go (w ∷ ws) q ch2 rest =
        let mid : Cluster = with_server id (flushed w ws (c.servers id)) c in
        let now : Changes id (flushed w ws (c.servers id)) c mid = changes id (flushed w ws (c.servers id)) c in
        let one : (e : Event) × Follows given (es ++ e ∷ []) mid =
        release given es c mid id w ws (f.there id member).0 (f.there id member).1 f q now (included_left c.released w.outputs) in
        let later : Further given (es ++ one.0 ∷ []) d = rest (es ++ one.0 ∷ []) mid one.1 (record {
          own = ch2.own ∙ ap (flushed_first k) (sym now.own);
          others = λ x e. ch2.others x e ∙ sym (now.others x e);
        }) within in
        (one.0 ∷ later.0, subst (λ x. Follows given x d) (append_assoc es (one.0 ∷ []) later.0) later.1)

-- A server that has crashed starts on its disk: the world's node does so at a moment that is above all that it used.
pub crash_follows : (given : Given) (bag : List Message) (id : ℕ) (n : NodeView) (at : ℕ) (s : Server) → n.id ≡ id → ServerFollows given bag id n s → ServerFollows given bag id n (started given id at s.disk)
crash_follows given bag id n at s was f =
    let now : ℕ = max at s.disk.moment in
    let first : NodeView = stopped_node id s.disk in
    let same : max now first.moment ≡ max now n.moment = omega (arith, f.moment) in
    let played : played_alone given first (start_step now) ≡ played_alone given n (start_step now) = played_same given now now first n (sym was) same f.disk in
    record {
      node = ap (λ p. p.1.node) played;
      reserved = ap (λ p. reserved_for p.1.node.moment s.disk.moment) played;
      disk = f.disk;
      moment = f.moment;
      waiting = (
        disk_records_same given now now first n (sym was) same f.disk s.disk.moment,
        ap (λ p. p.1.records) played,
        record { kind = event.Restart id Bare; aims = refl },
        tt,
      );
    }

-- if what all waiting steps leave is on disk, none waits
flushed_all : (ws : List WaitingStep) (s : Server) → s.waiting ≡ ws → (flushed_first (length ws) s).waiting ≡ []
flushed_all [] s q = q
flushed_all (w ∷ ws) s q =
    ap (λ (xs : List WaitingStep). (server_of (elim xs as (λ _. Server) [ [] ↦ s | w ∷ ws' ↦ flushed_first (length ws) (flushed w ws' s) ])).waiting) q
    ∙ flushed_all ws (flushed w ws s) refl

-- a server's node, ahead of its disk as it is, is its node in the world after some more events
pub ahead : (given : Given) (es : List Event) (c : Cluster) (id : ℕ) → Contains given.ids id → Follows given es c
    → (more : List Event) × (node_at (world_after given (es ++ more)).nodes id ≡ Some (c.servers id).node)
ahead given es c id member f =
    let k : ℕ = length (c.servers id).waiting in
    let s : Server = flushed_first k (c.servers id) in
    let mid : Cluster = with_server id s c in
    let now : Changes id s c mid = changes id s c in
    let one : Further given es mid = survive given k es c mid id member f now (included_self c.released) in
    let n : (n : NodeView) × (node_at (world_after given (es ++ one.0)).nodes id ≡ Some n) = one.1.there id member in
    let server : ServerFollows given (world_after given (es ++ one.0)).records.bag id n.0 s =
    subst (ServerFollows given (world_after given (es ++ one.0)).records.bag id n.0) now.own (one.1.each id n.0 n.1) in
    let none : s.waiting ≡ [] = flushed_all (c.servers id).waiting (c.servers id) refl in
    let same : s.node ≡ n.0 = server.node ∙ ap (λ ws. node_after_all given n.0 (steps_of ws)) none in
    (one.0, n.1 ∙ ap Some (sym same ∙ flushed_node k (c.servers id)))

-- whatever a server does, the world can do
module _ (given : Given) (es : List Event) (c : Cluster) (f : Follows given es c) where
  takes : (id : ℕ) (step : Step) → Contains given.ids id → MayTake c.released.bag id step.act → Further given es (with_server id (with_step given step (c.servers id)) c)
  takes id step member may =
      still_further given es (with_server id (with_step given step (c.servers id)) c)
      (kept_follows given (world_after given es) c (with_server id (with_step given step (c.servers id)) c) id (with_step given step (c.servers id)) f (changes id (with_step given step (c.servers id)) c)
      (λ n e. step_follows given (world_after given es).records.bag id n (c.servers id) step
      (event_for (world_after given es).records.bag id step.act (may_take_more c.released.bag (world_after given es).records.bag id step.act f.released.bag may)) (f.each id n e)) (included_self c.released))

  flushes : (id : ℕ) → Contains given.ids id → (ws : List WaitingStep) → (c.servers id).waiting ≡ ws
      → Further given es (elim ws as (λ _. Cluster) [ [] ↦ c | w ∷ ws ↦ record (with_server id (flushed w ws (c.servers id)) c) { released = joined c.released w.outputs } ])
  flushes id member [] q = still_further given es c f
  flushes id member (w ∷ ws) q =
      let ch : Changes id (flushed w ws (c.servers id)) c (with_server id (flushed w ws (c.servers id)) c) = changes id (flushed w ws (c.servers id)) c in
      let one : (e : Event) × Follows given (es ++ e ∷ []) (record (with_server id (flushed w ws (c.servers id)) c) { released = joined c.released w.outputs }) =
      release given es c (record (with_server id (flushed w ws (c.servers id)) c) { released = joined c.released w.outputs }) id w ws (f.there id member).0 (f.there id member).1 f q
      (record { own = ch.own; others = ch.others }) (included_self (joined c.released w.outputs)) in
      (one.0 ∷ [], one.1)

  crashes : (id k at : ℕ) → Contains given.ids id → Further given es (with_server id (crashed given id k at (c.servers id)) c)
  crashes id k at member =
      let s : Server = flushed_first k (c.servers id) in
      let mid : Cluster = with_server id s c in
      let now : Changes id s c mid = changes id s c in
      let one : Further given es mid = survive given k es c mid id member f now (included_self c.released) in
      let d : Cluster = with_server id (crashed given id k at (c.servers id)) c in
      let after_crash : Changes id (crashed given id k at (c.servers id)) c d = changes id (crashed given id k at (c.servers id)) c in (
        one.0,
        kept_follows given (world_after given (es ++ one.0)) mid d id (crashed given id k at (c.servers id)) one.1
            (record { own = after_crash.own; others = λ x e. after_crash.others x e ∙ sym (now.others x e) })
            (λ n e. crash_follows given (world_after given (es ++ one.0)).records.bag id n at s (node_id (world_after given (es ++ one.0)).nodes id n e)
            (subst (ServerFollows given (world_after given (es ++ one.0)).records.bag id n) now.own (one.1.each id n e)))
            (included_self c.released),
      )

act_follows : (given : Given) (es : List Event) (c : Cluster) (a : Action) → MayAct given a c → Follows given es c → Further given es (after_action given a c)
act_follows given es c (Takes id step) may f = takes given es c f id step may.0 may.1
act_follows given es c (Flushes id) may f = flushes given es c f id may (c.servers id).waiting refl
act_follows given es c (Crashes id k at) may f = crashes given es c f id k at may

-- servers that start empty
new_there : (settings : EngineConfig ℕ) (ids : List ℕ) (id : ℕ) → Contains ids id → (n : NodeView) × (node_at (map (new_node settings) ids) id ≡ Some n)
new_there settings [] id h = absurd (let l : h.0 < 0 = h.1 in omega arith)
new_there settings (x ∷ ids) id h = go (nat_eq x id) refl h.0 h.1 h.2 (new_there settings ids id)
  where
    go : (b : Bool) → nat_eq x id ≡ b → (k : ℕ) → k < length (x ∷ ids) → slice_index_or (x ∷ ids) k id ≡ id
        → (Contains ids id → (n : NodeView) × (node_at (map (new_node settings) ids) id ≡ Some n))
        → (n : NodeView) × (node_at (map (new_node settings) (x ∷ ids)) id ≡ Some n)
    go true q k l e rest = (new_node settings x, rw q refl)
    go false q zero l e rest = (let y : nat_eq x id ≡ true = eq-eqb x id e in cc)
    go false q (suc k) l e rest = (let r : (n : NodeView) × (node_at (map (new_node settings) ids) id ≡ Some n) = rest (k, omega arith, e) in (r.0, rw q r.1))

new_is : (settings : EngineConfig ℕ) (ids : List ℕ) (id : ℕ) (n : NodeView) → node_at (map (new_node settings) ids) id ≡ Some n → new_node settings id ≡ n
new_is settings [] id n e = cc
new_is settings (x ∷ ids) id n e = go (nat_eq x id) refl e (new_is settings ids id n)
  where
    go : (b : Bool) → nat_eq x id ≡ b → ◌≡◌ {A = Option NodeView} (cond b (Some (new_node settings x)) (node_at (map (new_node settings) ids) id)) (Some n)
        → (node_at (map (new_node settings) ids) id ≡ Some n → new_node settings id ≡ n) → new_node settings id ≡ n
    go true q h rest = let same : x ≡ id = eqb-true x id q in ap (new_node settings) (sym same) ∙ some_same (new_node settings x) n h
    go false q h rest = rest h

pub new_follows : (given : Given) → Follows given [] (new_cluster given)
new_follows given = record {
  there = λ id h. new_there given.settings given.ids id h;
  each = λ id n e. subst (λ m. ServerFollows given [] id m (record { node = new_node given.settings id; reserved = 0; waiting = []; disk = new_disk })) (new_is given.settings given.ids id n e)
      (record { node = refl; reserved = refl; disk = refl; moment = omega arith; waiting = tt });
  released = included_self no_records;
}

all_follow : (given : Given) (es : List Event) (c : Cluster) (actions : List Action) → AllMayAct given actions c → Follows given es c → (more : List Event) × Follows given more (after_actions given actions c)
all_follow given es c [] may f = (es, f)
all_follow given es c (a ∷ rest) may f =
    let one : Further given es (after_action given a c) = act_follows given es c a may.0 f in
    all_follow given (es ++ one.0) (after_action given a c) rest may.1 one.1

pub servers_follow : (given : Given) (actions : List Action) → AllMayAct given actions (new_cluster given) → (es : List Event) × Follows given es (after_actions given actions (new_cluster given))
servers_follow given actions may = all_follow given [] (new_cluster given) actions may (new_follows given)
