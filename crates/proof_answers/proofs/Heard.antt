-- A reply to a request that a server sent later than a read, by its clock, came after the read in the world that servers follow: so its
-- node took a request of the leader's after the read.
use Rattle.std.specs.Prelude.{◌≡◌, ◌≢◌, ◌<◌, ◌≤◌, ◌+◌, ◌-◌, ◌⊎◌, ℕ, Bool, true, false, List, [], ◌∷◌, ◌++◌, length, take, nat_eq, slice_get, slice_set, Contains, Option, None, Some, refl, if◌then◌else◌}
use Rattle.std.specs.List.{AllByRecursion}
use Rattle.std.specs.Option.{option_map}
use Rattle.std.proofs.Common.{◌∙◌, inl, inr, ⊎_elim, sym, ap, subst, arith, zero, suc, length-append}
use Rattle.std.proofs.lemmas.Bool.{cases_eq, cases_lt, true≢false}
use Rattle.std.proofs.lemmas.List.{append-nil, append_assoc, length-map}
use Rattle.std.proofs.lemmas.List.Elements.{Contains-append_left}
use Rattle.proof_deeds.proofs.raft_state_proofs.LogLists.{each_append}
use Rattle.proof_deeds.specs.raft_state.declared.ids.LeaderId.{LeaderId}
use Rattle.proof_deeds.specs.raft_store.declared.entry.Entry.{Entry}
use Rattle.proof_deeds.specs.raft_schedule.declared.event.Event.{Event}
use Rattle.proof_deeds.specs.raft_schedule.declared.event.EventKind.{EventKind}
use Rattle.proof_deeds.specs.raft_schedule.declared.event.EventKind.TheVariants as kinds
use Rattle.proof_deeds.specs.raft_calls.declared.message.Message.{Message}
use Rattle.proof_deeds.specs.raft_calls.declared.message.Origin.{Origin}
use Rattle.proof_deeds.specs.raft_node.declared.act.Act.{Act}
use Rattle.proof_deeds.specs.raft_node.declared.act.Act.TheVariants.{Take}
use Rattle.proof_deeds.specs.raft_node.declared.act.Aim.{Aim}
use Rattle.proof_deeds.specs.raft_node.declared.given.Given.{Given}
use Rattle.proof_deeds.specs.raft_node.Events.{aim_of, happens, message_at, scene}
use Rattle.proof_deeds.specs.raft_node.Net.{Net, NodeView, Records, node_at}
use Rattle.proof_deeds.specs.raft_node.Runs.{net_of, whole_logs, world_after}
use Rattle.proof_deeds.specs.raft_node.WellFormed.{IsWellFormed}
use Rattle.proof_deeds.specs.raft_node.Work.{weight}
use Rattle.proof_deeds.proofs.Nodes.{each_at}
use Rattle.proof_clients.specs.Reads.{IsRequestOf, StillUnder}
use Rattle.proof_clients.proofs.ReadsSee.{takers_are_under}
use Rattle.proof_clients.proofs.RepliesTell.{replies_tell}
use Rattle.proof_clients.proofs.Sequences.{each_of}
use Rattle.proof_clients.proofs.Slots.{slot_at, slot_below}
use Rattle.proof_servers.specs.Recorded.{joined, records_behind}
use Rattle.proof_servers.specs.Servers.{Action, AllMayAct, Cluster, Crashes, Flushes, MayAct, MayTake, Step, Takes, WaitingStep, after_action, after_actions, event_at, flushed, new_cluster, node_after, outputs_of, with_server}
use Rattle.proof_servers.proofs.AtNode.{Spot, happens_at, other_set, own_set, played_at, spot_of, step_id, world_more}
use Rattle.proof_answers.specs.Reads.{Hears}
use Rattle.proof_answers.proofs.Came.{T, aim_same, es, h, own, stamp_event}
use Rattle.proof_answers.proofs.Origins.{IsFrom, IsReplyOf, step_rises, step_sends, taking_replies}
use Rattle.proof_answers.proofs.Prefixes.{after_next, may_next, slot_more, take_all, take_more, take_none}
use Rattle.proof_answers.proofs.Traces.{Happened, Stamp}

module _ {A : Type 0} where
  pub take_next : (xs : List A) (k : ℕ) (x : A) → slice_get xs k ≡ Some x → take (suc k) xs ≡ take k xs ++ x ∷ []
  take_next [] k x q = cc
  take_next (y ∷ xs) zero x q = let z : y ≡ x = cc in ap (λ w. w ∷ []) z
  take_next (y ∷ xs) (suc k) x q = ap (λ ys. y ∷ ys) (take_next xs k x q)

  slot_front : (xs ys : List A) (i : ℕ) (x : A) → i < length xs → slice_get (xs ++ ys) i ≡ Some x → slice_get xs i ≡ Some x
  slot_front [] ys i x l e = absurd (omega (arith, l))
  slot_front (y ∷ xs) ys zero x l e = e
  slot_front (y ∷ xs) ys (suc i) x l e = slot_front xs ys i x (omega (arith, l)) e

  slot_in : (xs : List A) (x : A) → Contains xs x → (i : ℕ) × (slice_get xs i ≡ Some x)
  slot_in [] x (k, l, e) = absurd (omega (arith, l))
  slot_in (y ∷ xs) x (zero, l, e) = (0, ap Some e)
  slot_in (y ∷ xs) x (suc k, l, e) = let z = slot_in xs x (k, omega (arith, l), e) in (suc z.0, z.1)

pub some_same : {A : Type 0} (a b : A) → ◌≡◌ {A = Option A} (Some a) (Some b) → a ≡ b
some_same a b e = cc

take_same : (m q : Message) → ◌≡◌ {A = Act} (Take m) (Take q) → m ≡ q
take_same m q e = cc

no_aim : (id : ℕ) (q : Message) → ◌≡◌ {A = Option Aim} None (Some (record { id = id; act = Take q })) → ⊥
no_aim id q e = cc

abbrev takes : Act → Bool
takes (Take m) = true
takes _ = false

abbrev takes_message : Option Aim → Bool
takes_message o = elim o [ None ↦ false | Some aim ↦ takes aim.act ]

-- only a delivery takes a message
delivered : (bag : List Message) (kind : EventKind) (id : ℕ) (q : Message) → aim_of bag kind ≡ Some (record { id = id; act = Take q }) → (i : ℕ) × (slice_get bag i ≡ Some q)
delivered bag (kinds.Deliver number) id q e = go (nat_eq number 0) refl e
  where
    there : (o : Option Message) → slice_get bag (number - 1) ≡ o → option_map (λ (m : Message). let a : Aim = record { id = m.to; act = Take m } in a) o ≡ Some (record { id = id; act = Take q }) → (i : ℕ) × (slice_get bag i ≡ Some q)
    there None s f = absurd (no_aim id q f)
    there (Some m) s f = let z : m ≡ q = take_same m q (aim_same m.to id (Take m) (Take q) f).1 in (number - 1, s ∙ ap Some z)

    go : (b : Bool) → nat_eq number 0 ≡ b → option_map (λ (m : Message). let a : Aim = record { id = m.to; act = Take m } in a) (if b then None else slice_get bag (number - 1)) ≡ Some (record { id = id; act = Take q })
        → (i : ℕ) × (slice_get bag i ≡ Some q)
    go true s f = absurd (no_aim id q f)
    go false s f = there (slice_get bag (number - 1)) refl f
delivered bag _ id q e = absurd (true≢false (sym (ap takes_message e)))

-- a request was sent at no moment above its node's, and a reply goes to a node that had sent the request so
pub record IsPast (nodes : List NodeView) (m : Message) : Type 0 where
  pub asks : (o : Origin) (n : NodeView) → IsRequestOf m.body o → node_at nodes m.from ≡ Some n → o.sent_at ≤ n.moment
  pub answers : (o : Origin) (n : NodeView) → IsReplyOf m.body o → node_at nodes m.to ≡ Some n → o.sent_at ≤ n.moment

abbrev pub AllPast : Net (List Entry) → Type 0
AllPast net = AllByRecursion (IsPast net.nodes) net.records.bag

abbrev released_in : Cluster → List Message
released_in c = c.released.bag

module _ (given : Given) (wf : IsWellFormed given) (actions : List Action) (may : AllMayAct given actions (new_cluster given)) where
  abbrev run : List Event
  run = es given wf actions may

  abbrev pub world : ℕ → Net (List Entry)
  world k = world_after given (take k (es given wf actions may))

  module _ (k : ℕ) (s : Stamp) (is : slice_get (T given wf actions may).stamps k ≡ Some s) where
    abbrev H : Happened given actions (take k (es given wf actions may)) s
    H = h given wf actions may k s is

    pub spot : Spot (world k).nodes H.id H.node
    spot = spot_of (world k).nodes H.id H.node H.is

    -- the world after a step's event
    pub event_is : world (suc k) ≡ net_of (slice_set (world k).nodes spot.place (node_after given H.node H.step)) (records_behind (λ es. es) (world k).records (outputs_of given H.node H.step))
    event_is =
        ap (world_after given) (take_next run k s.event (stamp_event (T given wf actions may).stamps k s is))
        ∙ (world_more given (take k run) s.event
        ∙ (ap (λ (e : Event). (happens whole_logs weight given e (world k)).1) H.event
        ∙ (happens_at given (event_at H.kind H.step.at) (world k) (record { id = H.id; act = H.step.act }) H.aims H.node spot
        ∙ ap (λ r. net_of (slice_set (world k).nodes spot.place r.node) r.records) (played_at given H.kind H.step H.node (world k).records))))

    -- its node is the one after the step, and no other changes
    own_is : node_at (slice_set (world k).nodes spot.place (node_after given H.node H.step)) H.id ≡ Some (node_after given H.node H.step)
    own_is = own_set (world k).nodes H.id H.node (node_after given H.node H.step) spot (step_id given H.node H.step ∙ own given wf actions may k s is)

    pub node_next : node_at (world (suc k)).nodes H.id ≡ Some (node_after given H.node H.step)
    node_next = ap (λ (n : Net (List Entry)). node_at n.nodes H.id) event_is ∙ own_is

    abbrev next_nodes : List NodeView
    next_nodes = slice_set (world k).nodes spot.place (node_after given H.node H.step)

    rises : (id : ℕ) (n : NodeView) → node_at next_nodes id ≡ Some n → (m : NodeView) × (node_at (world k).nodes id ≡ Some m) × (m.moment ≤ n.moment)
    rises id n e =
        ⊎_elim
        (λ (q : H.id ≡ id).
        let z : node_after given H.node H.step ≡ n = some_same (node_after given H.node H.step) n (sym own_is ∙ (ap (node_at next_nodes) q ∙ e)) in
        (H.node, sym (ap (node_at (world k).nodes) q) ∙ H.is, (let l = step_rises given H.node H.step in let m : (node_after given H.node H.step).moment ≡ n.moment = ap (λ (x : NodeView). x.moment) z in omega (arith, l, m))))
        (λ q. (n, sym (other_set (world k).nodes H.id id H.node (node_after given H.node H.step) spot (own given wf actions may k s is) (step_id given H.node H.step ∙ own given wf actions may k s is) q) ∙ e, omega arith))
        (cases_eq H.id id)

    past_on : (m : Message) → IsPast (world k).nodes m → IsPast next_nodes m
    past_on m p = record {
      asks = λ o n r e. let z = rises m.from n e in let l = p.asks o z.0 r z.1 in let k = z.2 in omega (arith, l, k);
      answers = λ o n r e. let z = rises m.to n e in let l = p.answers o z.0 r z.1 in let k = z.2 in omega (arith, l, k);
    }

    past_now : AllPast (world k) → (m : Message) → IsFrom H.node H.step (node_after given H.node H.step).moment m → IsPast next_nodes m
    past_now all m f = record {
      asks = λ o n r e.
          let z = f.asks o r in
          let same : node_after given H.node H.step ≡ n = some_same (node_after given H.node H.step) n (sym own_is ∙ (ap (node_at next_nodes) (sym (z.0 ∙ own given wf actions may k s is)) ∙ e)) in
          let l = z.1 in
          let q : (node_after given H.node H.step).moment ≡ n.moment = ap (λ (x : NodeView). x.moment) same in
          omega (arith, l, q);
      answers = λ o n r e.
          let z = f.answers o r in
          let d = delivered (world k).records.bag H.kind H.id z.0 (H.aims ∙ ap (λ act. let a : Aim = record { id = H.id; act = act } in Some a) z.1) in
          let p : IsPast (world k).nodes z.0 = each_at (IsPast (world k).nodes) (world k).records.bag d.0 z.0 d.1 all in
          let u = rises z.0.from n (ap (node_at next_nodes) (sym z.2) ∙ e) in
          let l = p.asks o u.0 z.3 u.1 in
          let g = u.2 in
          omega (arith, l, g);
    }

    past_next : AllPast (world k) → AllPast (world (suc k))
    past_next all =
        subst AllPast (sym event_is)
        (each_append (IsPast next_nodes) (world k).records.bag (outputs_of given H.node H.step).bag
        (each_of (IsPast (world k).nodes) (IsPast next_nodes) past_on (world k).records.bag all)
        (each_of (IsFrom H.node H.step (node_after given H.node H.step).moment) (IsPast next_nodes) (past_now all) (outputs_of given H.node H.step).bag (step_sends given H.node H.step)))

  stamp_at : (k : ℕ) → k < length (T given wf actions may).stamps → (s : Stamp) × (slice_get (T given wf actions may).stamps k ≡ Some s)
  stamp_at k l = slot_at (T given wf actions may).stamps k l

  all_past : (k : ℕ) → k ≤ length (T given wf actions may).stamps → AllPast (world k)
  all_past zero l = subst (λ fs. AllPast (world_after given fs)) (sym (take_none run)) tt
  all_past (suc k) l = let s = stamp_at k (omega (arith, l)) in past_next k s.0 s.1 (all_past k (omega (arith, l)))

  -- messages stay
  bag_grows : (j k : ℕ) → j + k ≤ length (T given wf actions may).stamps → (rest : List Message) × ((world (j + k)).records.bag ≡ (world k).records.bag ++ rest)
  bag_grows zero k l = ([], ap (λ i. (world i).records.bag) (let z : zero + k ≡ k = omega arith in z) ∙ sym (append-nil (world k).records.bag))
  bag_grows (suc j) k l =
      let s = stamp_at (j + k) (omega (arith, l)) in
      let H : Happened given actions (take (j + k) run) s.0 = h given wf actions may (j + k) s.0 s.1 in
      let r = bag_grows j k (omega (arith, l)) in
      let out : List Message = (outputs_of given H.node H.step).bag in (
        r.0 ++ out,
        ap (λ i. (world i).records.bag) (let z : suc j + k ≡ suc (j + k) = omega arith in z)
            ∙ (ap (λ (n : Net (List Entry)). n.records.bag) (event_is (j + k) s.0 s.1)
            ∙ (ap (λ xs. xs ++ out) r.1 ∙ append_assoc (world k).records.bag r.0 out)),
      )

  whole_run : world (length (T given wf actions may).stamps) ≡ world_after given run
  whole_run =
      let q : length run ≡ length (T given wf actions may).stamps = length-map (T given wf actions may).stamps (λ (s : Stamp). s.event) in
      ap (λ n. world_after given (take n run)) (sym q) ∙ ap (world_after given) (take_all run)

  -- what left a server stays
  released_on : (m : Message) (a : Action) (c : Cluster) → Contains c.released.bag m → Contains (after_action given a c).released.bag m
  released_on m (Takes id step) c h = h
  released_on m (Flushes id) c h = go (c.servers id).waiting
    where
      go : (ws : List WaitingStep) → Contains (released_in (elim ws as (λ _. Cluster) [ [] ↦ c | w ∷ ws ↦ record (with_server id (flushed w ws (c.servers id)) c) { released = joined c.released w.outputs } ])) m
      go [] = h
      go (w ∷ ws) = Contains-append_left c.released.bag w.outputs.bag m h
  released_on m (Crashes id k at) c h = h

  released_stays : (m : Message) (j i : ℕ) → j + i ≤ length actions → Contains (after_actions given (take i actions) (new_cluster given)).released.bag m → Contains (after_actions given (take (j + i) actions) (new_cluster given)).released.bag m
  released_stays m zero i l h = subst (λ n. Contains (after_actions given (take n actions) (new_cluster given)).released.bag m) (let z : i ≡ zero + i = omega arith in z) h
  released_stays m (suc j) i l h =
      let a = slot_at actions (j + i) (omega (arith, l)) in
      let z = released_on m a.0 (after_actions given (take (j + i) actions) (new_cluster given)) (released_stays m j i (omega (arith, l)) h) in
      let y = subst (λ (c : Cluster). Contains c.released.bag m) (sym (after_next given actions (j + i) a.0 (new_cluster given) a.1)) z in
      subst (λ n. Contains (after_actions given (take n actions) (new_cluster given)).released.bag m) (let z : suc (j + i) ≡ suc j + i = omega arith in z) y

  -- a message that a server takes was sent in the world, to it
  taken_sent : (number id : ℕ) (step : Step) (m : Message) → slice_get actions number ≡ Some (Takes id step) → step.act ≡ Take m
      → (m.to ≡ id) × ((i : ℕ) × (slice_get (world_after given run).records.bag i ≡ Some m))
  taken_sent number id step m e act =
      let c : Cluster = after_actions given (take number actions) (new_cluster given) in
      let may_be = may_next given actions number (Takes id step) (new_cluster given) e may in
      let there : Contains c.released.bag m × (m.to ≡ id) = subst (MayTake c.released.bag id) act may_be.1 in
      let l : number < length actions = slot_below actions number (Takes id step) e in
      let q : (length actions - number) + number ≡ length actions = omega (arith, l) in
      let left : Contains (after_actions given (take (length actions) actions) (new_cluster given)).released.bag m =
      subst (λ n. Contains (after_actions given (take n actions) (new_cluster given)).released.bag m) q (released_stays m (length actions - number) number (omega (arith, q)) there.0) in
      let all : Contains (after_actions given actions (new_cluster given)).released.bag m =
      subst (λ first. Contains (after_actions given first (new_cluster given)).released.bag m) (take_all actions) left in
      (there.1, slot_in (world_after given run).records.bag m ((T given wf actions may).follows.released.bag m all))

  module _ (k : ℕ) (s : Stamp) (is : slice_get (T given wf actions may).stamps k ≡ Some s) where
    abbrev R : Happened given actions (take k (es given wf actions may)) s
    R = h given wf actions may k s is

    -- a reply to a request that was sent later than the step was sent after its event
    late : (i : ℕ) (m : Message) (o : Origin) → slice_get (world_after given run).records.bag i ≡ Some m → m.to ≡ R.id → IsReplyOf m.body o → (node_after given R.node R.step).moment < o.sent_at
        → length (world (suc k)).records.bag ≤ i
    late i m o slot to reply l = ⊎_elim early (λ g. g) (cases_lt i (length (world (suc k)).records.bag))
      where
        early : i < length (world (suc k)).records.bag → length (world (suc k)).records.bag ≤ i
        early g =
            let b : k < length (T given wf actions may).stamps = slot_below (T given wf actions may).stamps k s is in
            let q : (length (T given wf actions may).stamps - suc k) + suc k ≡ length (T given wf actions may).stamps = omega (arith, b) in
            let r = bag_grows (length (T given wf actions may).stamps - suc k) (suc k) (omega (arith, q)) in
            let whole : (world_after given run).records.bag ≡ (world (suc k)).records.bag ++ r.0 =
            ap (λ (n : Net (List Entry)). n.records.bag) (sym whole_run) ∙ (ap (λ n. (world n).records.bag) (sym q) ∙ r.1) in
            let there : slice_get (world (suc k)).records.bag i ≡ Some m = slot_front (world (suc k)).records.bag r.0 i m g (subst (λ xs. slice_get xs i ≡ Some m) whole slot) in
            let p : IsPast (world (suc k)).nodes m = each_at (IsPast (world (suc k)).nodes) (world (suc k)).records.bag i m there (all_past (suc k) (omega (arith, b))) in
            let y : o.sent_at ≤ (node_after given R.node R.step).moment = p.answers o (node_after given R.node R.step) reply (ap (node_at (world (suc k)).nodes) to ∙ node_next k s is) in
            absurd (omega (arith, y, l))

    -- so who is heard stores no later vote then
    pub heard_under : (upto : ℕ) (d : LeaderId ℕ) (n : ℕ) → Hears actions R.id upto (node_after given R.node R.step).moment d n → StillUnder given run k n d
    heard_under upto d n x =
        let z = taken_sent x.number R.id x.step x.message x.takes x.is in
        let l : length (world (suc k)).records.bag ≤ z.1.0 = late z.1.0 x.message x.origin z.1.1 z.0 (taking_replies x.message.body x.origin x.tells) x.later in
        let u : StillUnder given run (suc k) x.message.from x.origin.session_id.vote.leader_id =
        takers_are_under given wf run (suc k) x.message.from x.origin.session_id.vote.leader_id (replies_tell given wf run (suc k) z.1.0 x.message x.origin l z.1.1 x.tells) in
        let v : StillUnder given run (suc k) n d = subst (λ j. StillUnder given run (suc k) j d) x.from (subst (StillUnder given run (suc k) x.message.from) x.session u) in
        record { events = v.events; after = (let a = v.after in omega (arith, a)); node = v.node; is = v.is; vote = v.vote }
