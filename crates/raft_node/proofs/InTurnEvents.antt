-- An event changes nothing and has no commands, or its node executes its commands after the event's calls.
use Rattle.std.specs.Prelude.{◌≡◌, ◌≢◌, ◌≤◌, ℕ, Bool, true, false, List, [], ◌∷◌, All, length, nat_eq, nat_lt, slice_get, slice_set, Option, None, Some, refl}
use Rattle.std.specs.List.{position_or_len}
use Rattle.std.proofs.Common.{◌∙◌, ◌⊎◌, inl, inr, sym, ap, subst, arith, cond, zero, suc}
use Rattle.std.proofs.lemmas.Bool.Decides.{nat_tests}
use Rattle.std.proofs.lemmas.List.Elements.{All-get_or, All-set}
use Rattle.std.proofs.lemmas.List.Folds.{find_at, find-set, find_past}
use Rattle.std.proofs.lemmas.Option.{get_or_from_slice_get, slice_get_past, slice_get_within}
use Rattle.raft_store.specs.declared.entry.Entry.{Entry}
use Rattle.raft_store.specs.Types.{EngineView, WorldCommand}
use Rattle.raft_schedule.specs.declared.event.Event.{Event}
use Rattle.raft_schedule.specs.declared.event.Outcome.{Outcome}
use Rattle.raft_schedule.specs.declared.event.Outcome.TheVariants.{Skipped}
use Rattle.raft_schedule.specs.declared.event.SkipReason.{SkipReason}
use Rattle.raft_schedule.specs.declared.event.SkipReason.TheVariants.{NoMessage, NotRunning}
use Rattle.raft_node.specs.declared.act.Act.{Act}
use Rattle.raft_node.specs.declared.act.Aim.{Aim}
use Rattle.raft_node.specs.declared.given.Given.{Given}
use Rattle.raft_node.specs.declared.node.Turn.{Turn}
use Rattle.raft_node.specs.Commands.{commands_at, commands_of, executed}
use Rattle.raft_node.specs.Events.{Scene, aim_of, at_node, at_place, called_at, calls, finish, happens, moment_of, place_of, played, scene, scene_of, skip_reason, turn_of, work_of}
use Rattle.raft_node.specs.Net.{Net, NodeView, node_at}
use Rattle.raft_node.specs.Runs.{net_of, whole_logs}
use Rattle.raft_node.specs.Work.{Work, is_idle, weight, worked}
use Rattle.raft_node.proofs.InTurnQueue.{QueueAwaited}
use Rattle.raft_node.proofs.InTurnStarts.{Rested, calls_id, calls_leave}
use Rattle.raft_node.proofs.Worked.{worked-ends}

-- the node with an id, and its place
abbrev has_id : ℕ → NodeView → Bool
has_id id n = nat_eq n.id id

placed : (nodes : List NodeView) (id i : ℕ) → place_of nodes id ≡ Some i → position_or_len (has_id id) nodes ≡ i
unfolding place_of
placed nodes id i e = go (nat_lt (position_or_len (has_id id) nodes) (length nodes)) e
  where
    go : (b : Bool) → ◌≡◌ {A = Option ℕ} (cond b (Some (position_or_len (has_id id) nodes)) None) (Some i) → position_or_len (has_id id) nodes ≡ i
    go true q = cc
    go false q = cc

node_there : (nodes : List NodeView) (id i : ℕ) → place_of nodes id ≡ Some i → node_at nodes id ≡ slice_get nodes i
node_there nodes id i e = find_at (has_id id) nodes ∙ ap (slice_get nodes) (placed nodes id i e)

node_nowhere : (nodes : List NodeView) (id : ℕ) → place_of nodes id ≡ None → node_at nodes id ≡ None
unfolding place_of
node_nowhere nodes id e = find_at (has_id id) nodes ∙ slice_get_past nodes (position_or_len (has_id id) nodes) (go (nat_lt (position_or_len (has_id id) nodes) (length nodes)) refl e)
  where
    past : (a b : ℕ) → nat_lt a b ≡ false → b ≤ a
    past a b e = grind (arith, nat_tests)

    go : (b : Bool) → nat_lt (position_or_len (has_id id) nodes) (length nodes) ≡ b → ◌≡◌ {A = Option ℕ} (cond b (Some (position_or_len (has_id id) nodes)) None) None → length nodes ≤ position_or_len (has_id id) nodes
    go true l q = cc
    go false l q = past _ _ l

same_id : (a b : ℕ) → nat_eq a b ≡ true → a ≡ b
same_id a b e = grind (arith, nat_tests)

id_same : (a b : ℕ) → a ≡ b → nat_eq a b ≡ true
id_same a b e = grind (arith, nat_tests)

id_other : (a b : ℕ) → a ≢ b → nat_eq a b ≡ false
id_other a b d = grind (arith, nat_tests)

found_id : (nodes : List NodeView) (id : ℕ) (n : NodeView) → node_at nodes id ≡ Some n → n.id ≡ id
found_id [] id n e = cc
found_id (m ∷ ms) id n e = go (has_id id m) refl e (found_id ms id n)
  where
    go : (b : Bool) → has_id id m ≡ b → ◌≡◌ {A = Option NodeView} (cond b (Some m) (node_at ms id)) (Some n) → (node_at ms id ≡ Some n → n.id ≡ id) → n.id ≡ id
    go true q k rest = let same : m ≡ n = cc in ap (λ (x : NodeView). x.id) (sym same) ∙ same_id m.id id q
    go false q k rest = rest k

set_same : (nodes : List NodeView) (i : ℕ) (n : NodeView) → slice_get nodes i ≡ Some n → slice_set nodes i n ≡ nodes
set_same [] i n e = cc
set_same (m ∷ ms) zero n e = let same : m ≡ n = cc in ap (λ x. x ∷ ms) (sym same)
set_same (m ∷ ms) (suc i) n e = ap (λ xs. m ∷ xs) (set_same ms i n e)

abbrev net_after : Outcome × Net (List Entry) → Net (List Entry)
net_after r = r.1

module _ (given : Given) (event : Event) (net : Net (List Entry)) where
  -- a node at the event's moment, and after the event's calls
  abbrev pub called : NodeView → Scene (List Entry)
  called n = called_at (moment_of event n) (scene n net.records)

  abbrev pub made : Act → NodeView → Scene (List Entry)
  made act n = (calls given act (called n)).1

  -- its turn and its work
  abbrev pub turn_at : Act → NodeView → Turn
  turn_at act n = turn_of act (called n).node

  abbrev pub work_at : Act → NodeView → Work (List Entry)
  work_at act n = work_of event.stop (made act n)

  -- a world with the node's work done
  abbrev pub with_work : ℕ → NodeView → Work (List Entry) → Net (List Entry)
  with_work i n w = net_of (slice_set net.nodes i (scene_of n w).node) w.effects.records

  -- nothing happens
  pub record Still : Type 0 where
    pub after : (fuel : Work (List Entry) → ℕ) → (happens whole_logs fuel given event net).1 ≡ net
    pub commands : commands_of whole_logs given event net ≡ []

  -- or a node executes commands
  pub record Plays : Type 0 where
    pub aim : Aim
    pub aimed : aim_of net.records.bag event.kind ≡ Some aim
    pub place : ℕ
    pub there : place_of net.nodes aim.id ≡ Some place
    pub node : NodeView
    pub is : slice_get net.nodes place ≡ Some node
    pub after : (fuel : Work (List Entry) → ℕ) → (happens whole_logs fuel given event net).1
        ≡ with_work place (made aim.act node).node (worked whole_logs (fuel (work_at aim.act node)) (turn_at aim.act node) (work_at aim.act node))
    pub commands : commands_of whole_logs given event net ≡ executed whole_logs (turn_at aim.act node) (weight (work_at aim.act node)) (work_at aim.act node)

  -- the world after an event, by its parts
  unaimed : (fuel : Work (List Entry) → ℕ) → aim_of net.records.bag event.kind ≡ None → (happens whole_logs fuel given event net).1 ≡ net
  unfolding happens
  unaimed fuel q = ap (λ (o : Option Aim). net_after (elim o as (λ _. Outcome × Net (List Entry)) [ None ↦ (Skipped NoMessage, net) | Some aim ↦ at_node net aim.id (played whole_logs fuel given aim.act event) ])) q

  to_node : (fuel : Work (List Entry) → ℕ) (aim : Aim) → aim_of net.records.bag event.kind ≡ Some aim
      → (happens whole_logs fuel given event net).1 ≡ net_after (at_node net aim.id (played whole_logs fuel given aim.act event))
  unfolding happens
  to_node fuel aim q = ap (λ (o : Option Aim). net_after (elim o as (λ _. Outcome × Net (List Entry)) [ None ↦ (Skipped NoMessage, net) | Some aim ↦ at_node net aim.id (played whole_logs fuel given aim.act event) ])) q

  to_place : (f : Scene (List Entry) → Outcome × Scene (List Entry)) (id : ℕ) (o : Option ℕ) → place_of net.nodes id ≡ o
      → at_node net id f ≡ elim o as (λ _. Outcome × Net (List Entry)) [ None ↦ (Skipped NotRunning, net) | Some i ↦ at_place net i f ]
  to_place f id o q = ap (λ (o : Option ℕ). elim o as (λ _. Outcome × Net (List Entry)) [ None ↦ (Skipped NotRunning, net) | Some i ↦ at_place net i f ]) q

  to_scene : (f : Scene (List Entry) → Outcome × Scene (List Entry)) (i : ℕ) (o : Option NodeView) → slice_get net.nodes i ≡ o
      → at_place net i f ≡ elim o as (λ _. Outcome × Net (List Entry)) [
        | None ↦ (Skipped NotRunning, net)
        | Some n ↦ (let r = f (record { node = n; records = net.records }) in (r.0, record { nodes = slice_set net.nodes i r.1.node; records = r.1.records }))
      ]
  to_scene f i o q = ap (λ (o : Option NodeView). elim o as (λ _. Outcome × Net (List Entry)) [
    | None ↦ (Skipped NotRunning, net)
    | Some n ↦ (let r = f (record { node = n; records = net.records }) in (r.0, record { nodes = slice_set net.nodes i r.1.node; records = r.1.records }))
  ]) q

  plays : (fuel : Work (List Entry) → ℕ) (act : Act) (n : NodeView) → skip_reason act n ≡ None
      → (played whole_logs fuel given act event (scene n net.records)).1 ≡ scene_of (made act n).node (worked whole_logs (fuel (work_at act n)) (turn_at act n) (work_at act n))
  unfolding played finish
  plays fuel act n q =
      ap (λ (o : Option SkipReason). scene_in (elim o as (λ _. Outcome × Scene (List Entry)) [
        | Some reason ↦ (Skipped reason, scene n net.records)
        | None ↦ finish whole_logs fuel (turn_at act n) event.stop (calls given act (called n)).0 (made act n)
      ])) q
    where
      scene_in : Outcome × Scene (List Entry) → Scene (List Entry)
      scene_in r = r.1

  skips : (fuel : Work (List Entry) → ℕ) (act : Act) (n : NodeView) (reason : SkipReason) → skip_reason act n ≡ Some reason → (played whole_logs fuel given act event (scene n net.records)).1 ≡ scene n net.records
  unfolding played
  skips fuel act n reason q =
      ap (λ (o : Option SkipReason). scene_in (elim o as (λ _. Outcome × Scene (List Entry)) [
        | Some reason ↦ (Skipped reason, scene n net.records)
        | None ↦ finish whole_logs fuel (turn_at act n) event.stop (calls given act (called n)).0 (made act n)
      ])) q
    where
      scene_in : Outcome × Scene (List Entry) → Scene (List Entry)
      scene_in r = r.1

  -- its commands, by their parts
  commands_aimed : (o : Option Aim) → aim_of net.records.bag event.kind ≡ o
      → commands_of whole_logs given event net
      ≡ elim o as (λ _. List WorldCommand) [
        | None ↦ []
        | Some aim ↦ elim (node_at net.nodes aim.id) as (λ _. List WorldCommand) [ None ↦ [] | Some n ↦ commands_at whole_logs given aim.act event (scene n net.records) ]
      ]
  commands_aimed o q = ap (λ (o : Option Aim). elim o as (λ _. List WorldCommand) [
    | None ↦ []
    | Some aim ↦ elim (node_at net.nodes aim.id) as (λ _. List WorldCommand) [ None ↦ [] | Some n ↦ commands_at whole_logs given aim.act event (scene n net.records) ]
  ]) q

  commands_there : (act : Act) (id : ℕ) (o : Option NodeView) → node_at net.nodes id ≡ o
      → elim (node_at net.nodes id) as (λ _. List WorldCommand) [ None ↦ [] | Some n ↦ commands_at whole_logs given act event (scene n net.records) ]
      ≡ elim o as (λ _. List WorldCommand) [ None ↦ [] | Some n ↦ commands_at whole_logs given act event (scene n net.records) ]
  commands_there act id o q = ap (λ (o : Option NodeView). elim o as (λ _. List WorldCommand) [ None ↦ [] | Some n ↦ commands_at whole_logs given act event (scene n net.records) ]) q

  commands_skip : (act : Act) (n : NodeView) (o : Option SkipReason) → skip_reason act n ≡ o
      → commands_at whole_logs given act event (scene n net.records)
      ≡ elim o as (λ _. List WorldCommand) [ Some reason ↦ [] | None ↦ executed whole_logs (turn_at act n) (weight (work_at act n)) (work_at act n) ]
  commands_skip act n o q = ap (λ (o : Option SkipReason). elim o as (λ _. List WorldCommand) [ Some reason ↦ [] | None ↦ executed whole_logs (turn_at act n) (weight (work_at act n)) (work_at act n) ]) q

  -- one of the two
  at_scene : (aim : Aim) → aim_of net.records.bag event.kind ≡ Some aim → (i : ℕ) → place_of net.nodes aim.id ≡ Some i → (n : NodeView) → slice_get net.nodes i ≡ Some n
      → (o : Option SkipReason) → skip_reason aim.act n ≡ o → Still ⊎ Plays
  at_scene aim q i p n g (Some reason) s = inl (record {
    after = λ fuel. to_node fuel aim q
        ∙ ap net_after (to_place (played whole_logs fuel given aim.act event) aim.id (Some i) p ∙ to_scene (played whole_logs fuel given aim.act event) i (Some n) g)
        ∙ ap (λ (x : Scene (List Entry)). net_of (slice_set net.nodes i x.node) x.records) (skips fuel aim.act n reason s)
        ∙ ap (λ nodes. net_of nodes net.records) (set_same net.nodes i n g);
    commands = commands_aimed (Some aim) q ∙ commands_there aim.act aim.id (Some n) (node_there net.nodes aim.id i p ∙ g) ∙ commands_skip aim.act n (Some reason) s;
  })
  at_scene aim q i p n g None s = inr (record {
    aim = aim;
    aimed = q;
    place = i;
    there = p;
    node = n;
    is = g;
    after = λ fuel. to_node fuel aim q
        ∙ ap net_after (to_place (played whole_logs fuel given aim.act event) aim.id (Some i) p ∙ to_scene (played whole_logs fuel given aim.act event) i (Some n) g)
        ∙ ap (λ (x : Scene (List Entry)). net_of (slice_set net.nodes i x.node) x.records) (plays fuel aim.act n s);
    commands = commands_aimed (Some aim) q ∙ commands_there aim.act aim.id (Some n) (node_there net.nodes aim.id i p ∙ g) ∙ commands_skip aim.act n None s;
  })

  at_spot : (aim : Aim) → aim_of net.records.bag event.kind ≡ Some aim → (i : ℕ) → place_of net.nodes aim.id ≡ Some i → (o : Option NodeView) → slice_get net.nodes i ≡ o → Still ⊎ Plays
  at_spot aim q i p None g = inl (record {
    after = λ fuel. to_node fuel aim q ∙ ap net_after (to_place (played whole_logs fuel given aim.act event) aim.id (Some i) p ∙ to_scene (played whole_logs fuel given aim.act event) i None g);
    commands = commands_aimed (Some aim) q ∙ commands_there aim.act aim.id None (node_there net.nodes aim.id i p ∙ g);
  })
  at_spot aim q i p (Some n) g = at_scene aim q i p n g (skip_reason aim.act n) refl

  at_aim : (aim : Aim) → aim_of net.records.bag event.kind ≡ Some aim → (o : Option ℕ) → place_of net.nodes aim.id ≡ o → Still ⊎ Plays
  at_aim aim q None p = inl (record {
    after = λ fuel. to_node fuel aim q ∙ ap net_after (to_place (played whole_logs fuel given aim.act event) aim.id None p);
    commands = commands_aimed (Some aim) q ∙ commands_there aim.act aim.id None (node_nowhere net.nodes aim.id p);
  })
  at_aim aim q (Some i) p = at_spot aim q i p (slice_get net.nodes i) refl

  pub happened : Still ⊎ Plays
  happened = go (aim_of net.records.bag event.kind) refl
    where
      go : (o : Option Aim) → aim_of net.records.bag event.kind ≡ o → Still ⊎ Plays
      go None q = inl (record { after = λ fuel. unaimed fuel q; commands = commands_aimed None q })
      go (Some aim) q = at_aim aim q (place_of net.nodes aim.id) refl

  -- the nodes after it
  module _ (p : Plays) (w : Work (List Entry)) where
    abbrev pub after_work : NodeView
    after_work = (scene_of (made p.aim.act p.node).node w).node

    node_is : node_at net.nodes p.aim.id ≡ Some p.node
    node_is = node_there net.nodes p.aim.id p.place p.there ∙ p.is

    keeps_id : after_work.id ≡ p.aim.id
    keeps_id = calls_id given p.aim.act (called p.node).node ∙ found_id net.nodes p.aim.id p.node node_is

    pub own_after : node_at (slice_set net.nodes p.place after_work) p.aim.id ≡ Some after_work
    own_after =
        find-set (has_id p.aim.id) net.nodes p.place after_work (sym (placed net.nodes p.aim.id p.place p.there)) (slice_get_within net.nodes p.place p.node p.is) (id_same after_work.id p.aim.id keeps_id)

    pub other_after : (id : ℕ) → p.aim.id ≢ id → node_at (slice_set net.nodes p.place after_work) id ≡ node_at net.nodes id
    other_after id d =
        find_past (has_id id) net.nodes p.place after_work p.node
        (ap (has_id id) (get_or_from_slice_get net.nodes p.place p.node p.node p.is) ∙ id_other p.node.id id (λ e. d (sym (found_id net.nodes p.aim.id p.node node_is) ∙ e)))
        (id_other after_work.id id (λ e. d (sym keeps_id ∙ e)))

-- between two events no engine has a command queued
abbrev pub AllRested : Net (List Entry) → Type 0
AllRested net = All Rested net.nodes

module _ (given : Given) (event : Event) (net : Net (List Entry)) (rested : AllRested net) where
  -- what each queued reply waits for stands before it, where the event's commands begin
  pub starts_awaited : (p : Plays given event net) → QueueAwaited [] (work_at given event net p.aim.act p.node).engine
  starts_awaited p =
      let n : Rested p.node = subst Rested (get_or_from_slice_get net.nodes p.place p.node p.node p.is) (All-get_or Rested net.nodes p.place p.node (slice_get_within net.nodes p.place p.node p.is) rested) in
      calls_leave given p.aim.act (called given event net p.node).node n

  emptied : (w : Work (List Entry)) → is_idle w.engine ≡ true → (e : EngineView) → w.engine ≡ Some e → e.machine.core.output.items ≡ []
  emptied w idle e is = go e.machine.core.output.items (sym (ap is_idle is) ∙ idle)
    where
      go : (cs : List WorldCommand) → nat_eq (length cs) 0 ≡ true → cs ≡ []
      go [] h = refl
      go (c ∷ cs) h = let other : nat_eq (length (c ∷ cs)) 0 ≡ false = grind (arith, nat_tests) in cc

  pub happens_rested : AllRested (happens whole_logs weight given event net).1
  happens_rested = go (happened given event net)
    where
      go : Still given event net ⊎ Plays given event net → AllRested (happens whole_logs weight given event net).1
      go (inl s) = subst AllRested (sym (s.after weight)) rested
      go (inr p) =
          let w : Work (List Entry) = work_at given event net p.aim.act p.node in
          let t : Turn = turn_at given event net p.aim.act p.node in
          let done : Work (List Entry) = worked whole_logs (weight w) t w in
          subst AllRested (sym (p.after weight))
          (All-set Rested net.nodes p.place (scene_of (made given event net p.aim.act p.node).node done).node (emptied done (worked-ends whole_logs t w)) rested)
