-- What an event changes in a world: one node, and the messages; who sent a new request has an entry of its own.
use Rattle.std.proofs.Common.{ℕ, ◌+◌, ◌≡◌, ◌≢◌, ◌⊎◌, inl, inr, ⊎_elim, Bool, true, false, cond, not, List, [], ◌∷◌, ◌++◌, append-nil, append_assoc, map, refl, sym, ap, ◌∙◌, subst, Option, None, Some}
use Rattle.std.specs.Prelude.{Contains, nat_eq, slice_get, slice_set}
use Rattle.std.proofs.lemmas.List.Elements.{All-contains_itself, recursion_from_All}
use Rattle.std.specs.List.{AllByRecursion}
use Rattle.proof_deeds.proofs.raft_state_proofs.LogLists.{each_append}
use Rattle.proof_deeds.specs.raft_store.declared.entry.Entry.{Entry}
use Rattle.proof_deeds.specs.raft_store.Store.{whole}
use Rattle.proof_deeds.specs.raft_schedule.declared.event.Event.{Event}
use Rattle.proof_deeds.specs.raft_schedule.declared.event.Outcome.{Outcome}
use Rattle.proof_deeds.specs.raft_schedule.declared.event.Outcome.TheVariants.{Skipped}
use Rattle.proof_deeds.specs.raft_schedule.declared.event.SkipReason.TheVariants.{NoMessage, NotRunning}
use Rattle.proof_deeds.specs.raft_calls.declared.message.Message.{Message}
use Rattle.proof_deeds.specs.raft_node.declared.act.Act.{Act}
use Rattle.proof_deeds.specs.raft_node.declared.act.Aim.{Aim}
use Rattle.proof_deeds.specs.raft_node.declared.given.Given.{Given}
use Rattle.proof_deeds.specs.raft_node.Events.{Scene, aim_of, at_node, at_place, happens, place_of, played}
use Rattle.proof_deeds.specs.raft_node.Net.{Net, NodeView, empty_net, new_node}
use Rattle.proof_deeds.specs.raft_node.Runs.{whole_logs, world_after}
use Rattle.proof_deeds.specs.raft_node.WellFormed.{IsWellFormed}
use Rattle.proof_deeds.specs.raft_node.Work.{weight}
use Rattle.proof_deeds.specs.proof_agreement.Stores as stores
use Rattle.proof_deeds.specs.Images.{setup_of}
use Rattle.proof_deeds.specs.Nets.{NodeFollows}
use Rattle.proof_deeds.proofs.AllLaws.{all_laws}
use Rattle.proof_deeds.proofs.AppendFitting.{Settled}
use Rattle.proof_deeds.proofs.Joined.{ExtraAt, Followed, PlayedOn, aimed, played_on}
use Rattle.proof_deeds.proofs.Events.{ActFits}
use Rattle.proof_deeds.proofs.Nodes.{each_at, placed_id}
use Rattle.proof_deeds.proofs.Promised.{one_of}
use Rattle.proof_deeds.proofs.Proved.{followed}
use Rattle.proof_progress.specs.Continuations.{At}
use Rattle.proof_progress.proofs.CanElect.{goes_after}
use Rattle.proof_progress.proofs.EntriesKept.{NodeOf}
use Rattle.proof_progress.proofs.Greatest.{sorted_at}
use Rattle.proof_progress.proofs.KeptChoices.{apart_at}
use Rattle.proof_progress.proofs.OwnFirst.{UpTo, all_ordered, end_leader, played_told, rested}
use Rattle.proof_progress.proofs.Places.{Changed, changes, happens_is, one_more, other_ids, placed, same_ids, spot, stands_at}
use Rattle.proof_progress.proofs.Top.{BagOf, Follows, Grows, IsFirst, IsOwn, Moves, Sorted, Top, Within, follows_top, grows_top}
use Rattle.proof_progress.proofs.VoteQueues.{Votes}
use Rattle.proof_progress.proofs.OwnCalled.{NodeInOrder}

-- another node was there before
put_back : (nodes : List NodeView) (id : ℕ) (N m : NodeView) (k : ℕ) (K : NodeView) → At nodes id N → m.id ≡ id → k ≢ id → At (slice_set nodes (spot nodes id) m) k K → At nodes k K
put_back [] id N m k K h e d a = absurd h
put_back (x ∷ xs) id N m k K h e d a =
    ⊎_elim (λ (p : (x.id ≡ id) × (x ≡ N)). here p.0 (nat_eq x.id id) (same_ids x.id id p.0) a)
    (λ (p : (x.id ≢ id) × At xs id N). there (nat_eq x.id id) (other_ids x.id id p.0) (put_back xs id N m k K p.1 e d) a) h
  where
    here : x.id ≡ id → (b : Bool) → b ≡ true → At (slice_set (x ∷ xs) (cond (not b) (1 + spot xs id) 0) m) k K → At (x ∷ xs) k K
    here q true z (inl p) = absurd (d (sym p.0 ∙ e))
    here q true z (inr p) = inr ((λ w. d (sym w ∙ q)), p.1)
    here q false z p = cc

    there : (b : Bool) → b ≡ false → (At (slice_set xs (spot xs id) m) k K → At xs k K) → At (slice_set (x ∷ xs) (cond (not b) (1 + spot xs id) 0) m) k K → At (x ∷ xs) k K
    there true z f p = cc
    there false z f p = by (subst (λ i. At (slice_set (x ∷ xs) i m) k K) (one_more (spot xs id)) p)
      where
        by : ((x.id ≡ k) × (x ≡ K)) ⊎ ((x.id ≢ k) × At (slice_set xs (spot xs id) m) k K) → At (x ∷ xs) k K
        by (inl q) = inl q
        by (inr q) = inr (q.0, f q.1)

-- an outcome, with its scene
both_parts : (r : Outcome × Scene (List Entry)) → ◌≡◌ {A = Outcome × Scene (List Entry)} r (r.0, r.1)
both_parts (o, s) = refl

module _ (given : Given) (wf : IsWellFormed given) (past : List Event) (event : Event) where
  abbrev net : Net (List Entry)
  net = world_after given past

  abbrev new : Net (List Entry)
  new = (happens whole_logs weight given event (world_after given past)).1

  -- the event's node after it, and the messages
  abbrev pub then_at : Act → NodeView → Scene (List Entry)
  then_at act N = (played whole_logs weight given act event (record { node = N; records = (world_after given past).records })).1

  -- the node at which it happens
  pub record EventAt : Type 0 where
    pub n : ℕ
    pub act : Act
    pub node : NodeView
    pub aim : ◌≡◌ {A = Option Aim} (aim_of (world_after given past).records.bag event.kind) (Some (record { id = n; act = act }))
    pub own : node.id ≡ n
    pub there : Contains (world_after given past).nodes node
    pub moves : Moves (world_after given past) (happens whole_logs weight given event (world_after given past)).1 n node (then_at act node).node
    pub records : (happens whole_logs weight given event (world_after given past)).1.records ≡ (then_at act node).records

  h : Followed given (Settled (setup_of given.membership)) (stores.empty (setup_of given.membership)) (world_after given past)
  h = followed given wf past

  at_own : (N : NodeView) → Contains (world_after given past).nodes N → At (world_after given past).nodes N.id N
  at_own N there = one_of (λ (N : NodeView). At (world_after given past).nodes N.id N) (world_after given past).nodes N (apart_at (setup_of given.membership) (world_after given past).nodes h.follows.apart) there

  event_at : (n : ℕ) (act : Act) → ◌≡◌ {A = Option Aim} (aim_of (world_after given past).records.bag event.kind) (Some (record { id = n; act = act })) → (N : NodeView) → Contains (world_after given past).nodes N → N.id ≡ n → EventAt
  event_at n act q N there own =
      let at : At (world_after given past).nodes n N = subst (λ i. At (world_after given past).nodes i N) own (at_own N there) in
      let fits : ActFits given.membership h.world N.id act = subst (λ d. ActFits given.membership h.world d act) (sym own) (aimed given (Settled (setup_of given.membership)) (all_laws given.membership) _ (world_after given past) h event.kind (record { id = n; act = act }) q) in
      let k : NodeFollows (setup_of given.membership) h.world (world_after given past).records N = one_of (NodeFollows (setup_of given.membership) h.world (world_after given past).records) (world_after given past).nodes N h.follows.nodes there in
      let x : ExtraAt given (Settled (setup_of given.membership)) h.world N = one_of (ExtraAt given (Settled (setup_of given.membership)) h.world) (world_after given past).nodes N h.extra there in
      let s : Scene (List Entry) = record { node = N; records = (world_after given past).records } in
      let p : PlayedOn given (Settled (setup_of given.membership)) h.world N (then_at act N) = played_on given (Settled (setup_of given.membership)) (all_laws given.membership) h.world h.follows.reached act event s fits k h.fit x in
      let c : Changed (world_after given past) (happens whole_logs weight given event (world_after given past)).1 n (then_at act N).node (then_at act N).records =
      changes given (world_after given past) event n act N (played whole_logs weight given act event s).0 (then_at act N) at q (both_parts (played whole_logs weight given act event s)) (p.same ∙ own) in
      let is : (happens whole_logs weight given event (world_after given past)).1.nodes ≡ slice_set (world_after given past).nodes (spot (world_after given past).nodes n) (then_at act N).node =
      ap (λ (r : Outcome × Net (List Entry)). r.1.nodes) (happens_is given (world_after given past) event n act N (spot (world_after given past).nodes n) q (placed (world_after given past).nodes n N at) (stands_at (world_after given past).nodes n N at)) in
      record {
        n = n;
        act = act;
        node = N;
        aim = q;
        own = own;
        there = there;
        records = c.records;
        moves = record {
          from = at;
          to = c.here;
          on = c.others;
          back = λ t T d a. put_back (world_after given past).nodes n N (then_at act N).node t T at (p.same ∙ own) d (subst (λ nodes. At nodes t T) is a);
          sent = subst (λ r. AllByRecursion (λ (m : Message). Contains (world_after given past).records.bag m ⊎ UpTo (end_leader (whole (then_at act N).node.store)) m.body) r) (sym (ap (λ r. r.bag) c.records))
              (played_told given h.world h.follows.reached act event s fits k h.fit x (rested given wf past N there)
              (one_of (λ (N : NodeView). NodeInOrder N.engine) (world_after given past).nodes N (all_ordered given wf past) there));
        };
      }

  -- an event changes nothing, or one node
  pub event_moves : ((happens whole_logs weight given event (world_after given past)).1 ≡ world_after given past) ⊎ EventAt
  unfolding happens
  event_moves = by_aim (aim_of (world_after given past).records.bag event.kind) refl
    where
      net_in : Outcome × Net (List Entry) → Net (List Entry)
      net_in r = r.1

      by_place : (aim : Aim) → aim_of (world_after given past).records.bag event.kind ≡ Some aim → (i : ℕ) → place_of (world_after given past).nodes aim.id ≡ Some i → (o : Option NodeView) → slice_get (world_after given past).nodes i ≡ o
          → (net_in (elim o as (λ _. Outcome × Net (List Entry)) [
            | None ↦ (Skipped NotRunning, net)
            | Some n ↦ (let r = played whole_logs weight given aim.act event (record { node = n; records = net.records }) in (r.0, record { nodes = slice_set net.nodes i r.1.node; records = r.1.records }))
          ]) ≡ net) ⊎ EventAt
      by_place aim q i place None z = inl refl
      by_place aim q i place (Some N) z =
          inr (event_at aim.id aim.act q N (each_at (Contains (world_after given past).nodes) (world_after given past).nodes i N z (recursion_from_All (Contains (world_after given past).nodes) (world_after given past).nodes (All-contains_itself (world_after given past).nodes)))
          (placed_id (world_after given past).nodes aim.id i N place z))

      by_id : (aim : Aim) → aim_of (world_after given past).records.bag event.kind ≡ Some aim → (o : Option ℕ) → place_of (world_after given past).nodes aim.id ≡ o
          → (net_in (elim o as (λ _. Outcome × Net (List Entry)) [ None ↦ (Skipped NotRunning, net) | Some i ↦ at_place net i (played whole_logs weight given aim.act event) ]) ≡ net) ⊎ EventAt
      by_id aim q None p = inl refl
      by_id aim q (Some i) p = by_place aim q i p (slice_get (world_after given past).nodes i) refl

      by_aim : (o : Option Aim) → aim_of (world_after given past).records.bag event.kind ≡ o
          → (net_in (elim o as (λ _. Outcome × Net (List Entry)) [ None ↦ (Skipped NoMessage, net) | Some aim ↦ at_node net aim.id (played whole_logs weight given aim.act event) ]) ≡ net) ⊎ EventAt
      by_aim None q = inl refl
      by_aim (Some aim) q = by_id aim q (place_of (world_after given past).nodes aim.id) refl

-- What an event is known to do: what it brings to its node, that all else is of what was there, and whose it is
pub record Does (net new : Net (List Entry)) (n : ℕ) (N M : NodeView) : Type 1 where
  pub brought : List Entry
  pub keeps : (P : Entry → Type 0) → NodeOf P N → BagOf P net.records.bag → AllByRecursion P brought → NodeOf P M × BagOf P new.records.bag
  pub does : Follows net n N M brought ⊎ (Grows n N M brought × ((before : List Entry) (y : Entry) → brought ≡ before ++ y ∷ [] → IsOwn n y → Votes n M.store))

-- So in each reached world there is such a node, if of each event it is known what it does
module _ (given : Given) (wf : IsWellFormed given) (Kept : Event → Type 0)
    (does : (done : List Event) → AllByRecursion Kept done → (event : Event) → Kept event → (E : EventAt given wf done event)
    → Does (world_after given done) (happens whole_logs weight given event (world_after given done)).1 E.n E.node (then_at given wf done event E.act E.node).node) where
  after : (done : List Event) (event : Event) → world_after given (done ++ event ∷ []) ≡ (happens whole_logs weight given event (world_after given done)).1
  after done event = goes_after given done (event ∷ [])

  top_step : (done : List Event) → AllByRecursion Kept done → (event : Event) → Kept event → Top (world_after given done) → Top (happens whole_logs weight given event (world_after given done)).1
  top_step done each event kept h = ⊎_elim (λ q. subst Top (sym q) h) (λ E. by E (does done each event kept E)) (event_moves given wf done event)
    where
      by : (E : EventAt given wf done event) → Does (world_after given done) (happens whole_logs weight given event (world_after given done)).1 E.n E.node (then_at given wf done event E.act E.node).node
          → Top (happens whole_logs weight given event (world_after given done)).1
      by E d = go d.does
        where
          sorted_then : Sorted (then_at given wf done event E.act E.node).node
          sorted_then =
              sorted_at given wf (done ++ event ∷ []) E.n (then_at given wf done event E.act E.node).node
              (subst (λ (w : Net (List Entry)). At w.nodes E.n (then_at given wf done event E.act E.node).node) (sym (after done event)) E.moves.to)

          go : Follows (world_after given done) E.n E.node (then_at given wf done event E.act E.node).node d.brought
              ⊎ (Grows E.n E.node (then_at given wf done event E.act E.node).node d.brought × ((before : List Entry) (y : Entry) → d.brought ≡ before ++ y ∷ [] → IsOwn E.n y → Votes E.n (then_at given wf done event E.act E.node).node.store))
              → Top (happens whole_logs weight given event (world_after given done)).1
          go (inl f) =
              follows_top (world_after given done) (happens whole_logs weight given event (world_after given done)).1 E.n E.node (then_at given wf done event E.act E.node).node d.brought E.moves d.keeps
              (sorted_at given wf done E.n E.node E.moves.from) h f
          go (inr g) =
              grows_top (world_after given done) (happens whole_logs weight given event (world_after given done)).1 E.n E.node (then_at given wf done event E.act E.node).node d.brought E.moves d.keeps
              sorted_then g.1 g.0 h

  more : (done rest : List Event) → AllByRecursion Kept done → AllByRecursion Kept rest → Top (world_after given done) → Top (world_after given (done ++ rest))
  more done [] each kept h = subst (λ es. Top (world_after given es)) (sym (append-nil done)) h
  more done (e ∷ es) each kept h =
      subst (λ xs. Top (world_after given xs)) (append_assoc done (e ∷ []) es)
      (more (done ++ e ∷ []) es (each_append Kept done (e ∷ []) each (kept.0, tt)) kept.1 (subst Top (sym (after done e)) (top_step done each e kept.0 h)))

  none : Within IsFirst 0 (empty_net given.settings given.ids)
  none = record { nodes = λ t T at. bare given.ids t T at; bag = tt; sent = tt }
    where
      bare : (ids : List ℕ) (t : ℕ) (T : NodeView) → At (map (new_node given.settings) ids) t T → NodeOf IsFirst T
      bare [] t T at = absurd at
      bare (x ∷ xs) t T (inl p) = subst (NodeOf IsFirst) p.1 (record { store = record { log = tt; snap = tt; applied = tt }; noted = λ es q. cc })
      bare (x ∷ xs) t T (inr p) = bare xs t T p.1

  pub top_run : (past : List Event) → AllByRecursion Kept past → Top (world_after given past)
  top_run past each = more [] past tt each (inl none)
