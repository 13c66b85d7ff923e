-- A read by the rule is a read of the world that servers follow, whose leader leads on: so it has all that was told before.
use Rattle.std.specs.Prelude.{◌≡◌, ◌≢◌, ◌<◌, ◌≤◌, ◌⊎◌, ℕ, All, Bool, true, false, List, [], ◌∷◌, ◌++◌, length, take, nat_eq, slice_get, Contains, Option, None, Some, refl}
use Rattle.std.specs.List.{AllByRecursion}
use Rattle.std.specs.Option.{option_map}
use Rattle.std.specs.Ordering.{nat_cmp}
use Rattle.std.proofs.Common.{◌∙◌, inl, inr, ⊎_elim, sym, ap, subst, arith, zero, suc, length-append, length-take, drop}
use Rattle.std.proofs.lemmas.Bool.{cases_eq, cases_lt, true≢false}
use Rattle.std.proofs.lemmas.List.{append_assoc, length-map}
use Rattle.std.proofs.lemmas.List.Elements.{All-from_recursion, recursion_from_All}
use Rattle.proof_deeds.specs.raft_state.declared.ids.LeaderId.{LeaderId}
use Rattle.proof_deeds.specs.raft_state.declared.ids.Vote.{Vote}
use Rattle.proof_deeds.specs.raft_state.Order.{next}
use Rattle.proof_deeds.specs.raft_progress.Quorum.{is_quorum}
use Rattle.proof_deeds.specs.raft_store.declared.entry.Entry.{Entry}
use Rattle.proof_deeds.specs.raft_store.Store.{whole}
use Rattle.proof_deeds.specs.raft_schedule.declared.event.Event.{Event}
use Rattle.proof_deeds.specs.raft_schedule.declared.event.EventKind.{EventKind}
use Rattle.proof_deeds.specs.raft_schedule.declared.event.EventKind.TheVariants as kinds
use Rattle.proof_deeds.specs.raft_schedule.declared.event.Start.{Start}
use Rattle.proof_deeds.specs.raft_schedule.declared.event.Start.TheVariants.{Bare}
use Rattle.proof_deeds.specs.raft_calls.declared.lead.Answer.{Answer}
use Rattle.proof_deeds.specs.raft_calls.declared.message.Message.{Message}
use Rattle.proof_deeds.specs.raft_node.declared.act.Act.{Act}
use Rattle.proof_deeds.specs.raft_node.declared.act.Act.TheVariants as acts
use Rattle.proof_deeds.specs.raft_node.declared.act.Aim.{Aim}
use Rattle.proof_deeds.specs.raft_node.declared.given.Given.{Given}
use Rattle.proof_deeds.specs.raft_node.Chosen.{effective_in}
use Rattle.proof_deeds.specs.raft_node.Events.{aim_of, message_at}
use Rattle.proof_deeds.specs.raft_node.Net.{Net, NodeView, new_node, node_at}
use Rattle.proof_deeds.specs.raft_node.Runs.{world_after}
use Rattle.proof_deeds.specs.raft_node.WellFormed.{IsWellFormed}
use Rattle.proof_deeds.specs.OwnReads.{Leaves}
use Rattle.proof_deeds.proofs.LeadsAnew.{was_there}
use Rattle.proof_clients.specs.Reads.{LeadsOn, Reaches, StillUnder}
use Rattle.proof_clients.specs.Reads.{IsRead as IsWorldRead, ReachesLog}
use Rattle.proof_clients.proofs.Answering.{answering, leads_by_store}
use Rattle.proof_clients.proofs.ReadsSee.{reads_see_all}
use Rattle.proof_clients.proofs.Sequences.{each_of}
use Rattle.proof_clients.proofs.Slots.{slot_below}
use Rattle.proof_servers.specs.Servers.{Action, AllMayAct, Crashes, Step, Takes, new_cluster, node_after, outputs_of}
use Rattle.proof_servers.proofs.Follow.{new_follows}
use Rattle.proof_answers.specs.Answers.{Told, node_then}
use Rattle.proof_answers.specs.Reads.{Hears, IsRead}
use Rattle.proof_answers.proofs.Came.{AtMoment, Came, CameThen, IsStep, T, aim_same, came_then, es, event_stamp, h, is_step, stamp_event, told_before, told_then}
use Rattle.proof_answers.proofs.Heard.{event_is, heard_under, take_next}
use Rattle.proof_answers.proofs.Traces.{Happened, IsStart, Stamp, WasTaken}

module _ {A : Type 0} where
  split : (xs : List A) (k : ℕ) (x : A) → slice_get xs k ≡ Some x → (rest : List A) × (xs ≡ take k xs ++ x ∷ rest)
  split [] k x e = cc
  split (y ∷ xs) zero x e = let z : y ≡ x = cc in (xs, ap (λ w. w ∷ xs) z)
  split (y ∷ xs) (suc k) x e = let r = split xs k x e in (r.0, ap (λ ys. y ∷ ys) r.1)

  taken_length : (xs : List A) (k : ℕ) (x : A) → slice_get xs k ≡ Some x → length (take k xs) ≡ k
  taken_length [] k x e = cc
  taken_length (y ∷ xs) zero x e = refl
  taken_length (y ∷ xs) (suc k) x e = ap suc (taken_length xs k x e)

  slot_behind : (xs : List A) (x : A) (ys : List A) → slice_get (xs ++ x ∷ ys) (length xs) ≡ Some x
  slot_behind [] x ys = refl
  slot_behind (z ∷ xs) x ys = slot_behind xs x ys

  is_some_long : (x : A) (xs : List A) → 0 < length (x ∷ xs)
  is_some_long x xs = omega arith

-- whether an event starts a node
leaves_or : (n : ℕ) (e : Event) → Leaves n e ⊎ ((start : Start) × (e.kind ≡ kinds.Restart n start))
leaves_or n e = go e.kind
  where
    node_same : (i j : ℕ) (s t : Start) → ◌≡◌ {A = EventKind} (kinds.Restart i s) (kinds.Restart j t) → i ≡ j
    node_same i j s t q = cc

    go : (k : EventKind) → ((start : Start) → k ≢ kinds.Restart n start) ⊎ ((start : Start) × (k ≡ kinds.Restart n start))
    go (kinds.Restart m start) = ⊎_elim (λ (z : m ≡ n). inr (start, ap (λ j. kinds.Restart j start) z)) (λ d. inl (λ t q. d (node_same m n start t q))) (cases_eq m n)
    go _ = inl (λ t q. cc)

-- some events end with those behind the last start of a node, or it never starts again
record LastStart (n : ℕ) (xs : List Event) : Type 0 where
  before : List Event
  first : Event
  since : List Event
  all : xs ≡ before ++ (first ∷ since)
  leaves : AllByRecursion (Leaves n) since
  starts : (before ≡ []) ⊎ ((start : Start) × (first.kind ≡ kinds.Restart n start))

last_start : (n : ℕ) (xs : List Event) → 0 < length xs → LastStart n xs
last_start n [] l = absurd (omega (arith, l))
last_start n (x ∷ []) l = record { before = []; first = x; since = []; all = refl; leaves = tt; starts = inl refl }
last_start n (x ∷ (y ∷ xs)) l = go (last_start n (y ∷ xs) (is_some_long y xs))
  where
    go : LastStart n (y ∷ xs) → LastStart n (x ∷ (y ∷ xs))
    go t = by t.starts
      where
        later : (start : Start) × (t.first.kind ≡ kinds.Restart n start) → LastStart n (x ∷ (y ∷ xs))
        later r = record { before = x ∷ t.before; first = t.first; since = t.since; all = ap (λ zs. x ∷ zs) t.all; leaves = t.leaves; starts = inr r }

        by : (t.before ≡ []) ⊎ ((start : Start) × (t.first.kind ≡ kinds.Restart n start)) → LastStart n (x ∷ (y ∷ xs))
        by (inr r) = later r
        by (inl e) =
            ⊎_elim
            (λ (up : Leaves n t.first). record {
              before = [];
              first = x;
              since = t.first ∷ t.since;
              all = ap (λ zs. x ∷ zs) (t.all ∙ ap (λ zs. zs ++ (t.first ∷ t.since)) e);
              leaves = (up, t.leaves);
              starts = inl refl;
            })
            later
            (leaves_or n t.first)

abbrev reads : Act → Bool
reads acts.Read = true
reads _ = false

abbrev asks_node : Option Aim → Bool
asks_node o = elim o [ None ↦ false | Some aim ↦ reads aim.act ]

-- only a read asks its node
read_kind : (bag : List Message) (kind : EventKind) (id : ℕ) → aim_of bag kind ≡ Some (record { id = id; act = acts.Read }) → kind ≡ kinds.Read id
read_kind bag (kinds.Read n) id e = let z : n ≡ id = (aim_same n id acts.Read acts.Read e).0 in ap kinds.Read z
read_kind bag (kinds.Deliver number) id e = go (message_at bag number) e
  where
    go : (o : Option Message) → option_map (λ (m : Message). let a : Aim = record { id = m.to; act = acts.Take m } in a) o ≡ Some (record { id = id; act = acts.Read }) → kinds.Deliver number ≡ kinds.Read id
    go None q = absurd (true≢false (sym (ap asks_node q)))
    go (Some m) q = absurd (true≢false (sym (ap asks_node q)))
read_kind bag _ id e = absurd (true≢false (sym (ap asks_node e)))

start_same : (s t : Start) → ◌≡◌ {A = Act} (acts.Restart s) (acts.Restart t) → s ≡ t
start_same s t e = cc

module _ (given : Given) (wf : IsWellFormed given) (actions : List Action) (may : AllMayAct given actions (new_cluster given))
    (id read upto : ℕ) (a : Answer) (x : IsRead given actions id read upto a) (c : Came given wf actions may read) (early : c.stamp.told ≤ upto) where
  abbrev run : List Event
  run = es given wf actions may

  abbrev past : List Event
  past = take c.event (es given wf actions may)

  abbrev H : Happened given actions (take c.event (es given wf actions may)) c.stamp
  H = h given wf actions may c.event c.stamp c.is

  same : IsStep given wf actions may c.event c.stamp c.is id x.step
  same = is_step given wf actions may c.event c.stamp c.is read id x.step c.taken x.takes

  node_is : node_then given actions read id ≡ H.node
  node_is = ap (λ t. node_then given actions t id) (sym c.taken) ∙ same.node

  kind_is : c.stamp.event.kind ≡ kinds.Read id
  kind_is =
      let act : H.step.act ≡ acts.Read = ap (λ (s : Step). s.act) same.same_step ∙ x.is in
      ap (λ (e : Event). e.kind) H.event
      ∙ read_kind (world_after given past).records.bag H.kind id
      (H.aims ∙ (ap (λ j. let z : Aim = record { id = j; act = H.step.act } in Some z) same.same_id ∙ ap (λ act. let z : Aim = record { id = id; act = act } in Some z) act))

  slot : slice_get run c.event ≡ Some c.stamp.event
  slot = stamp_event (T given wf actions may).stamps c.event c.stamp c.is

  after : (rest : List Event) × (run ≡ past ++ c.stamp.event ∷ rest)
  after = split run c.event c.stamp.event slot

  long : length past ≡ c.event
  long = taken_length run c.event c.stamp.event slot

  -- the event answers it in the world
  answered : (world_after given (past ++ c.stamp.event ∷ [])).records.answers ≡ (world_after given past).records.answers ++ a ∷ []
  answered =
      let out : (outputs_of given H.node H.step).answers ≡ a ∷ [] =
      ap (λ (n : NodeView). (outputs_of given n H.step).answers) (sym node_is) ∙ (ap (λ (s : Step). (outputs_of given (node_then given actions read id) s).answers) same.same_step ∙ x.answered) in
      ap (λ fs. (world_after given fs).records.answers) (sym (take_next run c.event c.stamp.event slot))
      ∙ (ap (λ (n : Net (List Entry)). n.records.answers) (event_is given wf actions may c.event c.stamp c.is) ∙ ap (λ xs. (world_after given past).records.answers ++ xs) out)

  mine : a.leader_id.node_id ≡ id
  mine = let z = answering given wf past c.stamp.event id a kind_is answered in sym z.own ∙ z.is

  there : node_at (world_after given past).nodes a.leader_id.node_id ≡ Some H.node
  there = ap (node_at (world_after given past).nodes) (mine ∙ sym same.same_id) ∙ H.is

  held : H.node.store.vote ≡ record { leader_id = a.leader_id; committed = true }
  held = leads_by_store given wf past c.stamp.event id a kind_is answered H.node there

  -- at first no node leads, and none has a log
  is_new : (n : NodeView) (j : ℕ) → node_at (world_after given []).nodes j ≡ Some n → new_node given.settings j ≡ n
  is_new n j e = ((new_follows given).each j n e).node

  some : 0 < length past
  some = ⊎_elim (λ l. l) (λ l. absurd (nothing l)) (cases_lt 0 (length past))
    where
      empty : (fs : List Event) → length fs ≤ 0 → fs ≡ []
      empty [] l = refl
      empty (f ∷ fs) l = absurd (omega (arith, l))

      nothing : length past ≤ 0 → ⊥
      nothing l =
          let n : new_node given.settings a.leader_id.node_id ≡ H.node = is_new H.node a.leader_id.node_id (subst (λ fs. node_at (world_after given fs).nodes a.leader_id.node_id ≡ Some H.node) (empty past l) there) in
          let v : false ≡ true = ap (λ (n : NodeView). n.store.vote.committed) n ∙ ap (λ (v : Vote ℕ). v.committed) held in
          true≢false (sym v)

  last : LastStart id past
  last = last_start id past some

  -- who counts stores no later vote
  abbrev Counts : ℕ → Type 0
  Counts n = (n ≡ id) ⊎ Hears actions id upto (node_after given (node_then given actions read id) x.step).moment a.leader_id n

  abbrev Under : ℕ → Type 0
  Under n = (n ≡ a.leader_id.node_id) ⊎ StillUnder given (past ++ c.stamp.event ∷ after.0) (length past) n a.leader_id

  leads_on : LeadsOn given past (c.stamp.event ∷ after.0) a.leader_id
  leads_on = record {
    node = H.node;
    is = there;
    nodes = x.nodes;
    quorum = subst (λ (n : NodeView). is_quorum nat_cmp (effective_in n.store).groups x.nodes ≡ true) node_is x.quorum;
    each = All-from_recursion Under x.nodes (each_of Counts Under counts x.nodes (recursion_from_All Counts x.nodes x.each));
  }
    where
      counts : (n : ℕ) → Counts n → Under n
      counts n (inl e) = inl (e ∙ sym mine)
      counts n (inr y) =
          let z : Hears actions H.id upto (node_after given H.node H.step).moment a.leader_id n =
          subst (λ (s : Step). Hears actions H.id upto (node_after given H.node s).moment a.leader_id n) (sym same.same_step)
          (subst (λ (m : NodeView). Hears actions H.id upto (node_after given m x.step).moment a.leader_id n) node_is
          (subst (λ j. Hears actions j upto (node_after given (node_then given actions read id) x.step).moment a.leader_id n) (sym same.same_id) y)) in
          inr (subst (λ j. StillUnder given (past ++ c.stamp.event ∷ after.0) j n a.leader_id) (sym long)
          (subst (λ fs. StillUnder given fs c.event n a.leader_id) after.1 (heard_under given wf actions may c.event c.stamp c.is upto a.leader_id n z)))

  is_read : IsWorldRead given last.before last.first last.since c.stamp.event after.0 a
  is_read = record {
    node = id;
    is = kind_is;
    runs = last.leaves;
    answered = subst (λ fs. (world_after given fs).records.answers ≡ (world_after given (last.before ++ (last.first ∷ last.since))).records.answers ++ a ∷ []) (append_assoc last.before (last.first ∷ last.since) (c.stamp.event ∷ []))
        (subst (λ fs. (world_after given (fs ++ c.stamp.event ∷ [])).records.answers ≡ (world_after given fs).records.answers ++ a ∷ []) last.all answered);
    leads_on = subst (λ fs. LeadsOn given fs (c.stamp.event ∷ after.0) a.leader_id) last.all leads_on;
  }

  part : run ≡ last.before ++ (last.first ∷ (last.since ++ c.stamp.event ∷ after.0))
  part = after.1 ∙ (ap (λ fs. fs ++ c.stamp.event ∷ after.0) last.all ∙ append_assoc last.before (last.first ∷ last.since) (c.stamp.event ∷ after.0))

  -- each start was bare
  bare : (start : Start) → last.first.kind ≡ kinds.Restart id start → start ≡ Bare
  bare start q = by H'.taken
    where
      before_read : length last.before ≤ c.event
      before_read = let l = ap (λ fs. length fs) last.all in let z = length-append last.before (last.first ∷ last.since) in let y = long in omega (arith, l, z, y)

      found : (s : Stamp) × (slice_get (T given wf actions may).stamps (length last.before) ≡ Some s) × (s.event ≡ last.first)
      found =
          event_stamp (T given wf actions may).stamps (length last.before) last.first
          (ap (λ fs. slice_get fs (length last.before)) part ∙ slot_behind last.before last.first (last.since ++ c.stamp.event ∷ after.0))

      H' : Happened given actions (take (length last.before) (es given wf actions may)) found.0
      H' = h given wf actions may (length last.before) found.0 found.1

      kind : H'.kind ≡ kinds.Restart id start
      kind = sym (ap (λ (e : Event). e.kind) H'.event) ∙ (ap (λ (e : Event). e.kind) found.2 ∙ q)

      aim : (H'.id ≡ id) × (H'.step.act ≡ acts.Restart start)
      aim = aim_same H'.id id H'.step.act (acts.Restart start) (sym H'.aims ∙ ap (aim_of (world_after given (take (length last.before) (es given wf actions may))).records.bag) kind)

      in_time : found.0.taken < upto
      in_time =
          let o : found.0.taken < found.0.told = H'.order in
          let l : found.0.told ≤ c.stamp.told = (T given wf actions may).sorted (length last.before) c.event found.0 c.stamp found.1 c.is before_read in
          omega (arith, o, l, early)

      by : WasTaken given actions H'.id H'.node H'.step found.0.taken → start ≡ Bare
      by (inl (f, n)) =
          x.bare found.0.taken H'.step.at start in_time
          (f ∙ (ap (λ j. Some (Takes j H'.step)) aim.0 ∙ ap (λ act. let s : Step = record { act = act; at = H'.step.at } in Some (Takes id s)) aim.1))
      by (inr (k, m, f, starts)) = start_same start Bare (sym aim.1 ∙ ap (λ (s : Step). s.act) starts.is)

  reaches : (entries : List Entry) → next a.log_id ≤ length entries → Reaches given last.before last.first a entries
  reaches entries l = record { answer = l; log = go last.starts }
    where
      go : (last.before ≡ []) ⊎ ((start : Start) × (last.first.kind ≡ kinds.Restart id start)) → (last.first.kind ≡ kinds.Restart a.leader_id.node_id Bare) ⊎ ReachesLog given last.before a entries
      go (inl e) =
          let old = was_there given [] past a.leader_id.node_id H.node there in
          let n : new_node given.settings a.leader_id.node_id ≡ old.0 = is_new old.0 a.leader_id.node_id old.1 in
          let none : length (whole old.0.store) ≡ 0 = ap (λ (n : NodeView). length (whole n.store)) (sym n) in
          inr (subst (λ fs. ReachesLog given fs a entries) (sym e) (record { node = old.0; is = old.1; log = omega (arith, none) }))
      go (inr (start, q)) = inl (q ∙ (ap (kinds.Restart id) (bare start q) ∙ ap (λ j. kinds.Restart j Bare) (sym mine)))

  -- so what reaches the answer's id has all that was told before
  pub sees : (flush commands : ℕ) (taken : List Entry) (p : AtMoment given wf actions may flush commands taken) → p.stamp.told < read
      → (later after : ℕ) (entries : List Entry) (b : AtMoment given wf actions may later after entries) → next a.log_id ≤ length entries → length taken ≤ length entries
  sees flush commands taken p l later behind entries b r =
      let k : p.event < c.event = told_before given wf actions may p.event c.event p.stamp c.stamp p.is c.is (let q = c.taken in omega (arith, l, q)) in
      let m : p.event < length (last.before ++ (last.first ∷ last.since)) = let q = ap (λ fs. length fs) last.all in let y = long in omega (arith, k, q, y) in
      let z : take (length p.node.store.applied) b.node.store.applied ≡ p.node.store.applied =
      reads_see_all given wf run last.before last.since after.0 last.first c.stamp.event part a is_read p.event commands p.node m p.there b.event behind b.node b.there
      (reaches b.node.store.applied (let q = ap (λ (ys : List Entry). length ys) b.applied in omega (arith, q, r))) in
      let u : length p.node.store.applied ≡ length taken = ap (λ (ys : List Entry). length ys) p.applied in
      let v : length b.node.store.applied ≡ length entries = ap (λ (ys : List Entry). length ys) b.applied in
      let w = ap (λ (ys : List Entry). length ys) z in
      let y = length-take (length p.node.store.applied) b.node.store.applied in
      omega (arith, u, v, w, y)
