-- A reply that was sent after some events tells that its node took a request since.
use Rattle.std.proofs.Common.{ℕ, zero, suc, ◌+◌, ◌≤◌, ◌≡◌, ◌≢◌, ◌⊎◌, inl, inr, ⊎_elim, Bool, true, false, List, [], ◌∷◌, ◌++◌, length, take, arith, refl, sym, ap, ◌∙◌, subst, Option, None, Some}
use Rattle.std.specs.Prelude.{IfSome, nat_eq, slice_get}
use Rattle.std.specs.List.{AllByRecursion}
use Rattle.std.specs.Ordering.{is_lt, nat_cmp}
use Rattle.std.proofs.lemmas.Bool.{true≢false}
use Rattle.proof_deeds.specs.raft_state.declared.ids.Vote.{Vote}
use Rattle.proof_deeds.specs.raft_state.Order.{vote_cmp}
use Rattle.std.proofs.lemmas.Bool.Decides.{nat_tests}
use Rattle.std.proofs.lemmas.Option.{slice_get_past}
use Rattle.proof_deeds.specs.raft_command.declared.message.AppendEntriesResponse.TheVariants.{Success, PartialSuccess, Conflict, HigherVote}
use Rattle.proof_deeds.specs.raft_steps.VoteHandler.{rejects_vote}
use Rattle.proof_deeds.specs.raft_store.declared.entry.Entry.{Entry}
use Rattle.proof_deeds.specs.raft_store.Types.{EngineView, WorldCommand}
use Rattle.proof_deeds.specs.raft_schedule.declared.event.Event.{Event}
use Rattle.proof_deeds.specs.raft_schedule.declared.event.EventKind.{EventKind}
use Rattle.proof_deeds.specs.raft_schedule.declared.event.EventKind.TheVariants as event
use Rattle.proof_deeds.specs.raft_node.declared.act.Act.{Act}
use Rattle.proof_deeds.specs.raft_node.declared.act.Act.TheVariants.{Take}
use Rattle.proof_deeds.specs.raft_node.declared.act.Aim.{Aim}
use Rattle.proof_deeds.specs.raft_node.declared.given.Given.{Given}
use Rattle.proof_deeds.specs.raft_calls.declared.message.Body.{Body}
use Rattle.proof_deeds.specs.raft_calls.declared.message.Body.TheVariants as body
use Rattle.proof_deeds.specs.raft_calls.declared.message.Message.{Message}
use Rattle.proof_deeds.specs.raft_calls.declared.message.Origin.{Origin}
use Rattle.proof_deeds.specs.raft_node.declared.node.Turn.{Turn}
use Rattle.proof_deeds.specs.raft_calls.Deliveries.{deliver}
use Rattle.proof_deeds.specs.raft_node.Events.{aim_of, happens, message_at, on_engine, requested}
use Rattle.proof_deeds.specs.raft_node.Net.{Net, NodeView, node_at}
use Rattle.proof_deeds.specs.raft_node.Runs.{History, start, whole_logs, with_event, world_after}
use Rattle.proof_deeds.specs.raft_node.WellFormed.{IsWellFormed}
use Rattle.proof_deeds.specs.raft_node.Work.{Work, weight, worked}
use Rattle.proof_deeds.proofs.raft_node_proofs.InTurnEvents.{Plays, Still, happened, turn_at, work_at}
use Rattle.proof_deeds.specs.proof_agreement.Stores as stores
use Rattle.proof_deeds.specs.Images.{setup_of}
use Rattle.proof_deeds.specs.Nets.{AllApart, EngineFollows, NodeFollows}
use Rattle.proof_deeds.proofs.AppendFitting.{Settled}
use Rattle.proof_deeds.proofs.Joined.{Followed}
use Rattle.proof_deeds.proofs.Nodes.{each_at, placed_id}
use Rattle.proof_deeds.proofs.Proved.{followed}
use Rattle.proof_clients.specs.Reads.{IsRequestOf, IsTaking, RepliesTell, Takes}
use Rattle.proof_clients.proofs.Later.{run_both}
use Rattle.proof_clients.proofs.Replies.{Tells, worked_tells}
use Rattle.proof_clients.proofs.Taking.{HasVote, IsRefusal, Never, Requested, each_any, refusals_feed, refusals_only, refused_install, refused_queue, requested_only}

itself : (k : ℕ) → nat_eq k k ≡ true
itself k = grind (arith, nat_tests)

other : (j k : ℕ) → j ≢ k → nat_eq j k ≡ false
other j k d = grind (arith, nat_tests)

found_at : (given : Given) (xs : List NodeView) (i : ℕ) (n : NodeView) → slice_get xs i ≡ Some n → AllApart (setup_of given.membership) xs → node_at xs n.id ≡ Some n
found_at given [] i n e a = cc
found_at given (x ∷ xs) zero n e a = let z : x ≡ n = cc in let q : nat_eq x.id n.id ≡ true = subst (λ (y : NodeView). nat_eq x.id y.id ≡ true) z (itself x.id) in rw q (ap Some z)
found_at given (x ∷ xs) (suc i) n e a =
    let d : n.id ≢ x.id = each_at (λ (y : NodeView). y.id ≢ x.id) xs i n e a.0 in
    let q : nat_eq x.id n.id ≡ false = other x.id n.id (λ z. d (sym z)) in
    rw q (found_at given xs i n e a.1)

-- a body is a reply to a request that tells no higher vote, or not
taking_or : (b : Body) → ((o : Origin) × IsTaking b o) ⊎ ((o : Origin) → IsTaking b o → ⊥)
taking_or (body.AppendReply o Success prev upto) = inl (o, (refl, tt))
taking_or (body.AppendReply o (PartialSuccess x) prev upto) = inl (o, (refl, tt))
taking_or (body.AppendReply o Conflict prev upto) = inl (o, (refl, tt))
taking_or (body.AppendReply o (HigherVote v) prev upto) = inr (λ p k. k.1)
taking_or (body.SnapshotReply o reply upto) = go (is_lt (vote_cmp nat_cmp o.session_id.vote reply.vote)) refl
  where
    go : (b : Bool) → is_lt (vote_cmp nat_cmp o.session_id.vote reply.vote) ≡ b
        → ((p : Origin) × ((o ≡ p) × (is_lt (vote_cmp nat_cmp o.session_id.vote reply.vote) ≡ false))) ⊎ ((p : Origin) → (o ≡ p) × (is_lt (vote_cmp nat_cmp o.session_id.vote reply.vote) ≡ false) → ⊥)
    go true e = inr (λ p k. true≢false (sym e ∙ k.1))
    go false e = inl (o, (refl, e))
taking_or _ = inr (λ p k. k)

-- of one request
one_taken : (b : Body) (o p : Origin) → IsTaking b o → IsTaking b p → o ≡ p
one_taken (body.AppendReply x r prev upto) o p h k = sym h.0 ∙ k.0
one_taken (body.SnapshotReply x r upto) o p h k = sym h.0 ∙ k.0
one_taken _ o p h k = absurd h

one_request : (b : Body) (o p : Origin) → IsRequestOf b o → IsRequestOf b p → o ≡ p
one_request (body.AppendRequest x prev es committed) o p h k = sym h ∙ k
one_request (body.SnapshotRequest x s) o p h k = sym h ∙ k
one_request _ o p h k = absurd h

-- this event delivers a request to the node, whose engine doesn't reject its vote
pub record Took (ev : Event) (net : Net (List Entry)) (n : ℕ) (o : Origin) : Type 0 where
  pub number : ℕ
  pub delivers : ev.kind ≡ event.Deliver number
  pub message : Message
  pub sent : message_at net.records.bag number ≡ Some message
  pub to : message.to ≡ n
  pub of : IsRequestOf message.body o
  pub node : NodeView
  pub is : node_at net.nodes n ≡ Some node
  pub engine : EngineView
  pub runs : node.engine ≡ Some engine
  pub taken : rejects_vote nat_cmp engine.machine.core.state o.session_id.vote ≡ false

-- only a delivery takes a message
delivery : (bag : List Message) (k : EventKind) (aim : Aim) (q : Message) → aim_of bag k ≡ Some aim → requested aim.act ≡ Some q → (number : ℕ) × (k ≡ event.Deliver number) × (message_at bag number ≡ Some q) × (aim.id ≡ q.to)
delivery bag (event.Deliver number) aim q e r = go (message_at bag number) refl e
  where
    go : (o : Option Message) → message_at bag number ≡ o → ◌≡◌ {A = Option Aim} (elim o [ None ↦ None | Some m ↦ Some (record { id = m.to; act = Take m }) ]) (Some aim)
        → (x : ℕ) × (event.Deliver number ≡ event.Deliver x) × (message_at bag x ≡ Some q) × (aim.id ≡ q.to)
    go None h f = cc
    go (Some m) h f =
        let z : ◌≡◌ {A = Aim} (record { id = m.to; act = Take m }) aim = cc in
        let y : requested (Take m) ≡ Some q = subst (λ (a : Aim). requested a.act ≡ Some q) (sym z) r in
        let x : m ≡ q = cc in
        (number, refl, h ∙ ap Some x, ap (λ (a : Aim). a.id) (sym z) ∙ ap (λ (w : Message). w.to) x)
delivery bag _ aim q e r = cc

act_is : (a : Act) (q : Message) → requested a ≡ Some q → a ≡ Take q
act_is (Take m) q e = let z : m ≡ q = cc in ap Take z
act_is _ q e = cc

any_queue : (o : Option EngineView) → IfSome o (λ e. AllByRecursion (λ (c : WorldCommand). Unit {0}) e.machine.core.output.items)
any_queue None = tt
any_queue (Some e) = each_any e.machine.core.output.items

abbrev engine_in : Option ℕ × NodeView → Option EngineView
engine_in r = r.1.engine

-- at its node a vote is rejected, or nothing runs
abbrev Rejects : Origin → EngineView → Type 0
Rejects o e = (rejects_vote nat_cmp e.machine.core.state o.session_id.vote ≡ true) × (e.machine.core.output.items ≡ [])

abbrev Refuses : Origin → EngineView → Type 0
Refuses o e = AllByRecursion (IsRefusal o.session_id.vote) e.machine.core.output.items

refused_there : (from now : ℕ) (b : Body) (o : Origin) → IsRequestOf b o → (n : NodeView) (eng : Option EngineView) → n.engine ≡ eng → IfSome eng (Rejects o) → IfSome (engine_in (on_engine (deliver from b now) n)) (Refuses o)
refused_there from now b o is n eng runs r = subst (λ (y : Option EngineView). IfSome (engine_in (delivered y)) (Refuses o)) (sym runs) (go eng runs r)
  where
    delivered : Option EngineView → Option ℕ × NodeView
    delivered y = elim y [ None ↦ (None, n) | Some e ↦ (let r = deliver from b now e in (r.0, record n { engine = Some r.1 })) ]

    queued : (b : Body) (e : EngineView) → IsRequestOf b o → Rejects o e → Refuses o (deliver from b now e).1
    queued (body.AppendRequest x prev es committed) e is k =
        subst (λ (w : Origin). Refuses w (deliver from (body.AppendRequest x prev es committed) now e).1) is
        (refused_queue x.session_id.vote prev es committed now e (subst (λ (w : Origin). rejects_vote nat_cmp e.machine.core.state w.session_id.vote ≡ true) (sym is) k.0) k.1)
    queued (body.SnapshotRequest x snapshot) e is k =
        subst (λ (w : Origin). Refuses w (deliver from (body.SnapshotRequest x snapshot) now e).1) is
        (refused_install x.session_id.vote snapshot now e (subst (λ (w : Origin). rejects_vote nat_cmp e.machine.core.state w.session_id.vote ≡ true) (sym is) k.0) k.1)
    queued _ e is k = absurd is

    go : (y : Option EngineView) → n.engine ≡ y → IfSome y (Rejects o) → IfSome (engine_in (delivered y)) (Refuses o)
    go None q k = subst (λ (z : Option EngineView). IfSome z (Refuses o)) (sym q) tt
    go (Some e) q k = queued b e is k

module _ (given : Given) (wf : IsWellFormed given) (past : List Event) (ev : Event) where
  F : Followed given (Settled (setup_of given.membership)) (stores.empty (setup_of given.membership)) (world_after given past)
  F = followed given wf past

  module _ (p : Plays given ev (world_after given past)) where
    abbrev T : Turn
    T = turn_at given ev (world_after given past) p.aim.act p.node

    abbrev W : Work (List Entry)
    W = work_at given ev (world_after given past) p.aim.act p.node

    abbrev done : Work (List Entry)
    done = worked whole_logs (weight (work_at given ev (world_after given past) p.aim.act p.node)) (turn_at given ev (world_after given past) p.aim.act p.node) (work_at given ev (world_after given past) p.aim.act p.node)

    by_request : (i : ℕ) (m : Message) → slice_get done.effects.records.bag i ≡ Some m → (slice_get (world_after given past).records.bag i ≡ Some m) ⊎ Tells (Requested T) m
    by_request i m e =
        (worked_tells (Requested T) (world_after given past).records.bag T (λ c. Unit {0}) (requested_only (world_after given past).records.bag T) (λ c e g k. each_any _) (weight W) W (record { engine = any_queue W.engine; bag = λ i m e. inl e })).bag i m e

    by_refusal : (o : Origin) → HasVote T o.session_id.vote → IfSome W.engine (Refuses o) → (i : ℕ) (m : Message) → slice_get done.effects.records.bag i ≡ Some m → (slice_get (world_after given past).records.bag i ≡ Some m) ⊎ Tells Never m
    by_refusal o fits h i m e =
        let v : Vote ℕ = o.session_id.vote in
        (worked_tells Never (world_after given past).records.bag T (IsRefusal v) (refusals_only (world_after given past).records.bag T v fits) (refusals_feed (world_after given past).records.bag T v fits) (weight W) W (record { engine = h; bag = λ i m e. inl e })).bag i m e

    main : (i : ℕ) (m : Message) (s : slice_get done.effects.records.bag i ≡ Some m) (o : Origin) → Requested T m.from o → (Tells Never m → ⊥) → (slice_get (world_after given past).records.bag i ≡ Some m) ⊎ Took ev (world_after given past) m.from o
    main i m s o t never = go p.node.engine refl
      where
        from : m.from ≡ T.id
        from = t.0

        q : Message
        q = t.1.0

        req : requested p.aim.act ≡ Some q
        req = t.1.1

        of : IsRequestOf q.body o
        of = t.1.2

        fits : HasVote T o.session_id.vote
        fits q' o' e k = let z : q' ≡ q = cc in ap (λ (w : Origin). w.session_id.vote) (one_request q.body o' o (subst (λ (w : Message). IsRequestOf w.body o') z k) of)

        d : (number : ℕ) × (ev.kind ≡ event.Deliver number) × (message_at (world_after given past).records.bag number ≡ Some q) × (p.aim.id ≡ q.to)
        d = delivery (world_after given past).records.bag ev.kind p.aim q p.aimed req

        refused : (eng : Option EngineView) → p.node.engine ≡ eng → IfSome eng (Rejects o) → (slice_get (world_after given past).records.bag i ≡ Some m) ⊎ Took ev (world_after given past) m.from o
        refused eng runs r =
            ⊎_elim (λ k. inl k) (λ k. absurd (never k))
            (by_refusal o fits (subst (λ (a : Act). IfSome (work_at given ev (world_after given past) a p.node).engine (Refuses o)) (sym (act_is p.aim.act q req)) (refused_there q.from _ q.body o of _ eng runs r)) i m s)

        go : (eng : Option EngineView) → p.node.engine ≡ eng → (slice_get (world_after given past).records.bag i ≡ Some m) ⊎ Took ev (world_after given past) m.from o
        go None e = refused None e tt
        go (Some x) e = pick (rejects_vote nat_cmp x.machine.core.state o.session_id.vote) refl
          where
            k : NodeFollows (setup_of given.membership) F.world (world_after given past).records p.node
            k = each_at (NodeFollows (setup_of given.membership) F.world (world_after given past).records) (world_after given past).nodes p.place p.node p.is F.follows.nodes

            g : EngineFollows (setup_of given.membership) p.node F.world x
            g = subst (λ o. IfSome o (EngineFollows (setup_of given.membership) p.node F.world)) e k.engine

            pick : (b : Bool) → rejects_vote nat_cmp x.machine.core.state o.session_id.vote ≡ b → (slice_get (world_after given past).records.bag i ≡ Some m) ⊎ Took ev (world_after given past) m.from o
            pick true r = refused (Some x) e (r, g.queue)
            pick false r = inr (record {
              number = d.0;
              delivers = d.1;
              message = q;
              sent = d.2;
              to = sym d.3 ∙ (sym (placed_id (world_after given past).nodes p.aim.id p.place p.node p.there p.is) ∙ sym from);
              of = of;
              node = p.node;
              is = subst (λ n. node_at (world_after given past).nodes n ≡ Some p.node) (sym from) (found_at given (world_after given past).nodes p.place p.node p.is F.follows.apart);
              engine = x;
              runs = e;
              taken = r;
            })

    tells_at : (i : ℕ) (m : Message) → slice_get done.effects.records.bag i ≡ Some m → (slice_get (world_after given past).records.bag i ≡ Some m) ⊎ Tells (Took ev (world_after given past)) m
    tells_at i m s = ⊎_elim (λ k. inl k) (λ t. go t (taking_or m.body)) (by_request i m s)
      where
        go : Tells (Requested T) m → ((o : Origin) × IsTaking m.body o) ⊎ ((o : Origin) → IsTaking m.body o → ⊥)
            → (slice_get (world_after given past).records.bag i ≡ Some m) ⊎ Tells (Took ev (world_after given past)) m
        go t (inl k) = ⊎_elim
            (λ x. inl x)
            (λ x. inr (λ p h. subst (Took ev (world_after given past) m.from) (one_taken m.body k.0 p k.1 h) x))
            (main i m s k.0 (t k.0 k.1) (λ never. never k.0 k.1))
        go t (inr untold) = inr (λ p h. absurd (untold p h))

  pub event_tells : (i : ℕ) (m : Message) → slice_get (happens whole_logs weight given ev (world_after given past)).1.records.bag i ≡ Some m → (slice_get (world_after given past).records.bag i ≡ Some m) ⊎ Tells (Took ev (world_after given past)) m
  event_tells i m e = go (happened given ev (world_after given past))
    where
      go : Still given ev (world_after given past) ⊎ Plays given ev (world_after given past) → (slice_get (world_after given past).records.bag i ≡ Some m) ⊎ Tells (Took ev (world_after given past)) m
      go (inl s) = inl (subst (λ (n : Net (List Entry)). slice_get n.records.bag i ≡ Some m) (s.after weight) e)
      go (inr p) = tells_at p i m (subst (λ (n : Net (List Entry)). slice_get n.records.bag i ≡ Some m) (p.after weight) e)

take_more : (es : List Event) (k : ℕ) (e : Event) → slice_get es k ≡ Some e → take (suc k) es ≡ take k es ++ e ∷ []
take_more [] k e q = cc
take_more (y ∷ es) zero e q = let z : y ≡ e = cc in ap (λ w. w ∷ []) z
take_more (y ∷ es) (suc k) e q = ap (λ ys. y ∷ ys) (take_more es k e q)

take_past : (es : List Event) (k : ℕ) → slice_get es k ≡ None → take (suc k) es ≡ take k es
take_past [] zero q = refl
take_past [] (suc k) q = refl
take_past (y ∷ es) zero q = cc
take_past (y ∷ es) (suc k) q = ap (λ ys. y ∷ ys) (take_past es k q)

take_all : (es : List Event) (n : ℕ) → length es ≤ n → take n es ≡ es
take_all [] zero l = refl
take_all [] (suc n) l = refl
take_all (e ∷ es) zero l = absurd (omega (arith, l))
take_all (e ∷ es) (suc n) l = ap (λ ys. e ∷ ys) (take_all es n (omega (arith, l)))

neither : (o : Option Message) (m : Message) → o ≡ None → o ≡ Some m → ⊥
neither None m q r = cc
neither (Some x) m q r = cc

step_is : (given : Given) (wf : IsWellFormed given) (ps : List Event) (e : Event) → world_after given (ps ++ e ∷ []) ≡ (happens whole_logs weight given e (world_after given ps)).1
unfolding with_event
step_is given wf ps e = ap (λ (x : History (List Entry)). x.net) (run_both given wf ps (e ∷ []) (start given))

pub replies_tell : (given : Given) → IsWellFormed given → (es : List Event) → RepliesTell given es
replies_tell given wf es k i m o old sent taking = down (length es) (subst (λ fs. slice_get (world_after given fs).records.bag i ≡ Some m) (sym (take_all es (length es + k) (omega arith))) sent)
  where
    takes : (j : ℕ) (e : Event) → k ≤ j → slice_get es j ≡ Some e → Took e (world_after given (take j es)) m.from o → Takes given es k m.from o.session_id.vote.leader_id
    takes j e l next t = record {
      events = j;
      after = l;
      delivery = e;
      next = next;
      number = t.number;
      delivers = t.delivers;
      message = t.message;
      sent = t.sent;
      to = t.to;
      origin = o;
      of = t.of;
      session = refl;
      node = t.node;
      is = t.is;
      engine = t.engine;
      runs = t.runs;
      taken = t.taken;
    }

    down : (n : ℕ) → slice_get (world_after given (take (n + k) es)).records.bag i ≡ Some m → Takes given es k m.from o.session_id.vote.leader_id
    down zero s =
        let c : zero + k ≡ k = omega arith in
        let z : slice_get (world_after given (take k es)).records.bag i ≡ None = slice_get_past (world_after given (take k es)).records.bag i old in absurd (neither (slice_get (world_after given (take k es)).records.bag i) m z (subst (λ j. slice_get (world_after given (take j es)).records.bag i ≡ Some m) c s))
    down (suc n) s = go (slice_get es (n + k)) refl (down n)
      where
        here : slice_get (world_after given (take (suc (n + k)) es)).records.bag i ≡ Some m
        here = let c : suc n + k ≡ suc (n + k) = omega arith in subst (λ j. slice_get (world_after given (take j es)).records.bag i ≡ Some m) c s

        go : (x : Option Event) → slice_get es (n + k) ≡ x → (slice_get (world_after given (take (n + k) es)).records.bag i ≡ Some m → Takes given es k m.from o.session_id.vote.leader_id) → Takes given es k m.from o.session_id.vote.leader_id
        go None q before = before (subst (λ fs. slice_get (world_after given fs).records.bag i ≡ Some m) (take_past es (n + k) q) here)
        go (Some e) q before =
            let z : slice_get (happens whole_logs weight given e (world_after given (take (n + k) es))).1.records.bag i ≡ Some m =
            subst (λ (w : Net (List Entry)). slice_get w.records.bag i ≡ Some m) (step_is given wf (take (n + k) es) e) (subst (λ fs. slice_get (world_after given fs).records.bag i ≡ Some m) (take_more es (n + k) e q) here) in
            ⊎_elim before (λ t. takes (n + k) e (omega arith) q (t o taking)) (event_tells given wf (take (n + k) es) e i m z)
