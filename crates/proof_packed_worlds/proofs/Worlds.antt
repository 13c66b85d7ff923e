-- Runs of packed nodes.
use Rattle.std.specs.Prelude.{ℕ, ◌≡◌, ◌+◌, ◌-◌, ◌++◌, nat_eq, nat_lt, not, IfSome, Bool, true, false, List, [], ◌∷◌, Option, None, Some, length, map, refl, slice_get, slice_set, if◌then◌else◌}
use Rattle.std.specs.List.{AllByRecursion, position_or_len}
use Rattle.std.specs.Option.{option_map}
use Rattle.std.specs.Ordering.{nat_cmp}
use Rattle.std.proofs.Common.{◌∙◌, sym, ap, subst, zero, suc, cond, append_assoc, append-nil}
use Rattle.std.proofs.lemmas.List.{length-map}
use Rattle.std.proofs.lemmas.List.Sums.{fold-append}
use Rattle.std.proofs.lemmas.Option.{slice_get-map}
use Rattle.proof_deeds.specs.raft_command.declared.config.EngineConfig.{EngineConfig}
use Rattle.proof_deeds.specs.raft_store.declared.entry.Entry.{Entry}
use Rattle.proof_deeds.specs.raft_store.Entries.{entry_meaning}
use Rattle.proof_deeds.specs.raft_schedule.declared.event.Event.{Event}
use Rattle.proof_deeds.specs.raft_schedule.declared.event.EventKind.{EventKind}
use Rattle.proof_deeds.specs.raft_schedule.declared.event.EventKind.TheVariants as event
use Rattle.proof_deeds.specs.raft_schedule.declared.event.EventKind.TheVariants.{Init, Timeout, Stand, Deliver, Heartbeat, Snapshot, Built, Purge}
use Rattle.proof_deeds.specs.raft_schedule.declared.event.Outcome.{Outcome}
use Rattle.proof_deeds.specs.raft_schedule.declared.event.Outcome.TheVariants.{Skipped}
use Rattle.proof_deeds.specs.raft_schedule.declared.event.SkipReason.TheVariants.{NoMessage, NotRunning}
use Rattle.proof_deeds.specs.raft_node.declared.act.Act.TheVariants.{Take}
use Rattle.proof_deeds.specs.raft_node.declared.act.Aim.{Aim}
use Rattle.proof_deeds.specs.raft_node.declared.given.Given.{Given}
use Rattle.proof_deeds.specs.raft_calls.declared.message.Message.{Message}
use Rattle.proof_deeds.specs.raft_node.Events.{Scene, aim_of, at_node, at_place, happens, message_at, place_of, played}
use Rattle.proof_deeds.specs.raft_node.Net.{Net, NodeView, new_node, Records}
use Rattle.proof_deeds.specs.raft_node.Runs.{start, whole_logs, with_event, world_after}
use Rattle.proof_deeds.specs.raft_node.WellFormed.{IsWellFormed}
use Rattle.proof_deeds.specs.raft_node.Work.{weight}
use Rattle.proof_deeds.specs.proof_mirror.Ready.{Shaped, Ordered}
use Rattle.proof_deeds.specs.Nets.{EngineFollows, NodeFollows}
use Rattle.proof_deeds.proofs.Nodes.{each_at}
use Rattle.proof_deeds.proofs.Proved.{followed}
use Rattle.proof_deeds.specs.proof_agreement.Machine.{Setup}
use Rattle.proof_deeds.specs.Images.{Ideal}
use Rattle.proof_packed.specs.Laws.{HasEmptyQueue}
use Rattle.proof_packed.specs.Nodes.{PackedMessage, PackedNode, PackedScene, bare_act, brought_by_act, packed_message, packed_new_node, packed_node, packed_played, packed_records}
use Rattle.proof_packed.specs.Stores.{Application}
use Rattle.proof_packed_worlds.specs.Worlds.{PackedAim, PackedNet, packed_after, packed_aim_of, packed_at_node, packed_at_place, packed_empty, packed_happens, packed_message_at, packed_net, packed_place_of}
use Rattle.proof_packed.proofs.Played.{played_kept}

-- what `played_kept` asks of a node
record Fits (n : NodeView) : Type 0 where
  queue : HasEmptyQueue n
  shaped : Shaped entry_meaning n.store
  ordered : Ordered nat_cmp entry_meaning n.store

set_map : {X Y : Type 0} (f : X → Y) (xs : List X) (i : ℕ) (x : X) → slice_set (map f xs) i (f x) ≡ map f (slice_set xs i x)
set_map f [] i x = refl
set_map f (y ∷ ys) zero x = refl
set_map f (y ∷ ys) (suc i) x = ap (λ zs. f y ∷ zs) (set_map f ys i x)

module _ {S : Type 0} (app : Application S) where
  place_is : (nodes : List NodeView) (id : ℕ) → position_or_len (λ (n : PackedNode S). nat_eq n.id id) (map (packed_node app) nodes) ≡ position_or_len (λ (n : NodeView). nat_eq n.id id) nodes
  place_is [] id = refl
  place_is (n ∷ ns) id = ap (λ k. cond (not (nat_eq n.id id)) (1 + k) 0) (place_is ns id)

  place_kept : (nodes : List NodeView) (id : ℕ) → packed_place_of (map (packed_node app) nodes) id ≡ place_of nodes id
  unfolding place_of
  place_kept nodes id =
      ap (λ k. cond (nat_lt k (length (map (packed_node app) nodes))) (Some k) None) (place_is nodes id)
      ∙ ap (λ l. cond (nat_lt (position_or_len (λ (n : NodeView). nat_eq n.id id) nodes) l) (Some (position_or_len (λ (n : NodeView). nat_eq n.id id) nodes)) None) (length-map nodes (packed_node app))

  abbrev packed_aim : Aim → PackedAim S
  packed_aim a = record { id = a.id; act = bare_act a.act; brought = brought_by_act app a.act }

  message_kept : (bag : List Message) (k : ℕ) → packed_message_at (map (packed_message app) bag) k ≡ option_map (packed_message app) (message_at bag k)
  message_kept bag k = go (nat_eq k 0)
    where
      go : (b : Bool) → (if b then None else slice_get (map (packed_message app) bag) (k - 1)) ≡ option_map (packed_message app) (if b then None else slice_get bag (k - 1))
      go true = refl
      go false = slice_get-map (packed_message app) bag (k - 1)

  aim_kept : (bag : List Message) (kind : EventKind) → packed_aim_of app (map (packed_message app) bag) kind ≡ option_map packed_aim (aim_of bag kind)
  aim_kept bag (Init n) = refl
  aim_kept bag (Timeout n) = refl
  aim_kept bag (Stand n) = refl
  aim_kept bag (Deliver k) = ap (option_map (λ m. record { id = m.message.to; act = Take m.message; brought = m.brought })) (message_kept bag k) ∙ go (message_at bag k)
    where
      go : (o : Option Message)
          → option_map (λ (m : PackedMessage S). record { id = m.message.to; act = Take m.message; brought = m.brought }) (option_map (packed_message app) o)
          ≡ option_map packed_aim (option_map (λ m. record { id = m.to; act = Take m }) o)
      go None = refl
      go (Some m) = refl
  aim_kept bag (event.Propose n values) = refl
  aim_kept bag (Heartbeat n) = refl
  aim_kept bag (event.Fail n target) = refl
  aim_kept bag (Snapshot n) = refl
  aim_kept bag (Built n) = refl
  aim_kept bag (Purge n i) = refl
  aim_kept bag (event.Restart n start) = refl
  aim_kept bag (event.Member n learners) = refl
  aim_kept bag (event.Change n groups learners) = refl
  aim_kept bag (event.Read n) = refl
  aim_kept bag (event.Down n) = refl
  aim_kept bag (event.Stop n) = refl

  module _ {L : Type 0} (keep : List Entry → L) (given : Given) (ev : Event) (net : Net L) (fits : AllByRecursion Fits net.nodes) where
    abbrev packed_world : Outcome × Net L → Outcome × PackedNet S
    packed_world p = (p.0, packed_net app p.1)

    module _ (aim : Aim) where
      abbrev theirs : Scene L → Outcome × Scene L
      theirs = played keep weight given aim.act ev

      abbrev ours : PackedScene S → Outcome × PackedScene S
      ours = packed_played app given (bare_act aim.act) (brought_by_act app aim.act) ev

      at_place_kept : (i : ℕ) → packed_world (at_place net i theirs) ≡ packed_at_place (packed_net app net) i ours
      at_place_kept i = go (slice_get net.nodes i) refl ∙ sym (ap choose (slice_get-map (packed_node app) net.nodes i))
        where
          choose : Option (PackedNode S) → Outcome × PackedNet S
          choose o = elim o [
            | None ↦ (Skipped NotRunning, packed_net app net)
            | Some n ↦ (let r = ours (record { node = n; records = packed_records app net.records }) in (r.0, record { nodes = slice_set (map (packed_node app) net.nodes) i r.1.node; records = r.1.records }))
          ]

          go : (o : Option NodeView) → slice_get net.nodes i ≡ o
              → packed_world (elim o as (λ _. Outcome × Net L) [
                | None ↦ (Skipped NotRunning, net)
                | Some n ↦ (let r = theirs (record { node = n; records = net.records }) in (r.0, record { nodes = slice_set net.nodes i r.1.node; records = r.1.records }))
              ])
              ≡ choose (option_map (packed_node app) o)
          go None q = refl
          go (Some n) q =
              let f : Fits n = each_at Fits net.nodes i n q fits in
              let r : Outcome × Scene L = theirs (record { node = n; records = net.records }) in
              ap (λ (ns : List (PackedNode S)). (r.0, record { nodes = ns; records = packed_records app r.1.records })) (sym (set_map (packed_node app) net.nodes i r.1.node))
              ∙ ap (λ (p : Outcome × PackedScene S). (p.0, record { nodes = slice_set (map (packed_node app) net.nodes) i p.1.node; records = p.1.records }))
              (played_kept app keep given aim.act ev (record { node = n; records = net.records }) f.queue f.shaped f.ordered)

      at_node_kept : packed_world (at_node net aim.id theirs) ≡ packed_at_node (packed_net app net) aim.id ours
      at_node_kept = go (place_of net.nodes aim.id) ∙ sym (ap choose (place_kept net.nodes aim.id))
        where
          choose : Option ℕ → Outcome × PackedNet S
          choose o = elim o [ None ↦ (Skipped NotRunning, packed_net app net) | Some i ↦ packed_at_place (packed_net app net) i ours ]

          go : (o : Option ℕ) → packed_world (elim o as (λ _. Outcome × Net L) [ None ↦ (Skipped NotRunning, net) | Some i ↦ at_place net i theirs ]) ≡ choose o
          go None = refl
          go (Some i) = at_place_kept i

    happens_kept : packed_world (happens keep weight given ev net) ≡ packed_happens app given ev (packed_net app net)
    unfolding happens packed_happens
    happens_kept = go (aim_of net.records.bag ev.kind) ∙ sym (ap choose (aim_kept net.records.bag ev.kind))
      where
        choose : Option (PackedAim S) → Outcome × PackedNet S
        choose o = elim o [ None ↦ (Skipped NoMessage, packed_net app net) | Some a ↦ packed_at_node (packed_net app net) a.id (packed_played app given a.act a.brought ev) ]

        go : (o : Option Aim)
            → packed_world (elim o as (λ _. Outcome × Net L) [ None ↦ (Skipped NoMessage, net) | Some aim ↦ at_node net aim.id (played keep weight given aim.act ev) ])
            ≡ choose (option_map packed_aim o)
        go None = refl
        go (Some aim) = at_node_kept aim

  -- each node of a world meets it
  node_fits : (s : Setup Entry) (W : Ideal) (r : Records (List Entry)) (n : NodeView) → NodeFollows s W r n → Fits n
  node_fits s W r n h = record {
    queue = λ e q. (let g : EngineFollows s n W e = subst (λ p. IfSome p (EngineFollows s n W)) q h.engine in g.queue);
    shaped = h.shaped;
    ordered = h.ordered;
  }

  each_fits : (s : Setup Entry) (W : Ideal) (r : Records (List Entry)) (ns : List NodeView) → AllByRecursion (NodeFollows s W r) ns → AllByRecursion Fits ns
  each_fits s W r [] h = tt
  each_fits s W r (n ∷ ns) h = (node_fits s W r n h.0, each_fits s W r ns h.1)

  module _ (given : Given) (wf : IsWellFormed given) where
    new_kept : (settings : EngineConfig ℕ) (ids : List ℕ) → map (packed_node app) (map (new_node settings) ids) ≡ map (packed_new_node app settings) ids
    new_kept settings [] = refl
    new_kept settings (id ∷ ids) = ap (λ ns. packed_new_node app settings id ∷ ns) (new_kept settings ids)

    world_more : (es : List Event) (e : Event) → world_after given (es ++ e ∷ []) ≡ (happens whole_logs weight given e (world_after given es)).1
    unfolding with_event
    world_more es e = ap (λ h. h.net) (fold-append (with_event whole_logs given) (start given) es (e ∷ []))

    packed_more : (es : List Event) (e : Event) → packed_after app given (es ++ e ∷ []) ≡ (packed_happens app given e (packed_after app given es)).1
    packed_more es e = fold-append (λ net e. (packed_happens app given e net).1) (packed_empty app given) es (e ∷ [])

    one_event : (done : List Event) (e : Event) → packed_net app (world_after given done) ≡ packed_after app given done → packed_net app (world_after given (done ++ e ∷ [])) ≡ packed_after app given (done ++ e ∷ [])
    one_event done e h =
        let f = followed given wf done in
        ap (packed_net app) (world_more done e)
        ∙ (ap (λ p. p.1) (happens_kept whole_logs given e (world_after given done) (each_fits _ f.world (world_after given done).records (world_after given done).nodes f.follows.nodes))
        ∙ (ap (λ w. (packed_happens app given e w).1) h ∙ sym (packed_more done e)))

    all_events : (done es : List Event) → packed_net app (world_after given done) ≡ packed_after app given done → packed_net app (world_after given (done ++ es)) ≡ packed_after app given (done ++ es)
    all_events done [] h = subst (λ xs. packed_net app (world_after given xs) ≡ packed_after app given xs) (sym (append-nil done)) h
    all_events done (e ∷ es) h =
        subst (λ xs. packed_net app (world_after given xs) ≡ packed_after app given xs) (append_assoc done (e ∷ []) es) (all_events (done ++ e ∷ []) es (one_event done e h))

    -- a run of packed nodes is the run of the world, packed
    pub world_kept : (es : List Event) → packed_net app (world_after given es) ≡ packed_after app given es
    world_kept es = all_events [] es (ap (λ (ns : List (PackedNode S)). record { nodes = ns; records = packed_records app (world_after given []).records }) (new_kept given.settings given.ids))
