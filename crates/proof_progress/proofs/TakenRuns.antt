-- So after an event that takes a request, what held of all that its node had, of all messages and of the request's entries, holds of all
-- that it has and of all messages.
use Rattle.std.proofs.Common.{ℕ, ◌+◌, ◌-◌, ◌≡◌, inl, Bool, true, false, List, [], ◌∷◌, ◌++◌, refl, sym, ap, ◌∙◌, subst, Option, None, Some}
use Rattle.std.specs.Prelude.{Contains, IfSome, if◌then◌else◌, nat_eq, option_map, slice_get}
use Rattle.std.specs.List.{AllByRecursion}
use Rattle.std.specs.Ordering.{is_lt, nat_cmp}
use Rattle.std.proofs.lemmas.List.Elements.{All-contains_itself, recursion_from_All}
use Rattle.proof_deeds.specs.raft_state.declared.ids.Vote.{Vote}
use Rattle.proof_deeds.specs.raft_state.Order.{vote_cmp}
use Rattle.proof_deeds.specs.raft_command.Queue.{popped}
use Rattle.proof_deeds.specs.raft_steps.VoteHandler.{rejects_vote}
use Rattle.proof_deeds.specs.raft_store.declared.entry.Entry.{Entry}
use Rattle.proof_deeds.specs.raft_store.Types.{EngineView, WorldCommand}
use Rattle.proof_deeds.specs.raft_schedule.declared.event.Event.{Event}
use Rattle.proof_deeds.specs.raft_schedule.declared.event.EventKind.{EventKind}
use Rattle.proof_deeds.specs.raft_schedule.declared.event.EventKind.TheVariants as event
use Rattle.proof_deeds.specs.raft_schedule.declared.event.Outcome.{Outcome}
use Rattle.proof_deeds.specs.raft_schedule.declared.event.Outcome.TheVariants.{Skipped}
use Rattle.proof_deeds.specs.raft_schedule.declared.event.SkipReason.{SkipReason}
use Rattle.proof_deeds.specs.raft_calls.declared.elections.Candidates.TheVariants.{AllMembers, Voters}
use Rattle.proof_deeds.specs.raft_calls.declared.message.Body.{Body}
use Rattle.proof_deeds.specs.raft_calls.declared.message.Body.TheVariants as body
use Rattle.proof_deeds.specs.raft_calls.declared.message.Message.{Message}
use Rattle.proof_deeds.specs.raft_calls.Deliveries.{deliver}
use Rattle.proof_deeds.specs.raft_calls.Engines.{with_queue}
use Rattle.proof_deeds.specs.raft_calls.Feeds.{feed, feed_of}
use Rattle.proof_deeds.specs.raft_node.declared.act.Act.{Act}
use Rattle.proof_deeds.specs.raft_node.declared.act.Act.TheVariants.{ChangeLearners, ChangeMembership, Elect, Fail, FinishSnapshot, Initialize, Propose, Read, Restart, SendHeartbeat, StepDown, Stop, Take, TriggerPurge, TriggerSnapshot}
use Rattle.proof_deeds.specs.raft_node.declared.act.Aim.{Aim}
use Rattle.proof_deeds.specs.raft_node.declared.given.Given.{Given}
use Rattle.proof_deeds.specs.raft_node.declared.node.Turn.{Turn}
use Rattle.proof_deeds.specs.raft_node.Events.{Scene, aim_of, called_at, calls, calls_at, finish, happens, message_at, moment_of, played, skip_reason, turn_of, work_of}
use Rattle.proof_deeds.specs.raft_node.Execute.{exec}
use Rattle.proof_deeds.specs.raft_node.Net.{NodeView}
use Rattle.proof_deeds.specs.raft_node.Runs.{whole_logs, world_after}
use Rattle.proof_deeds.specs.raft_node.WellFormed.{IsWellFormed}
use Rattle.proof_deeds.specs.raft_node.Work.{Work, done_of, one_less, step_of, stopped, stops, weight, work_step, worked}
use Rattle.proof_deeds.proofs.raft_node_proofs.Ready.{scene_after}
use Rattle.proof_deeds.proofs.raft_node_proofs.Worked.{worked-keeps}
use Rattle.proof_deeds.specs.Follows.{BodyIs, IsLeaders, MessageIs}
use Rattle.proof_deeds.specs.proof_agreement.Stores as stores
use Rattle.proof_deeds.specs.Images.{setup_of}
use Rattle.proof_deeds.specs.Nets.{EngineFollows, NodeFollows}
use Rattle.proof_deeds.proofs.AllLaws.{all_laws}
use Rattle.proof_deeds.proofs.AppendFitting.{Settled, not_lower}
use Rattle.proof_deeds.proofs.Joined.{Followed, aimed}
use Rattle.proof_deeds.proofs.Nodes.{each_at}
use Rattle.proof_deeds.proofs.Promised.{one_of}
use Rattle.proof_deeds.proofs.Proved.{followed}
use Rattle.proof_progress.proofs.EntriesKept.{NodeOf, calls_keep}
use Rattle.proof_progress.proofs.EntriesQueued.{Brings}
use Rattle.proof_progress.proofs.EntriesStored.{EffectsOf, exec_keeps}
use Rattle.proof_progress.proofs.Grown.{IsAccepted, Taking}
use Rattle.proof_progress.proofs.OwnCalled.{engine_in, node_in}
use Rattle.proof_progress.proofs.Taken.{Gave, Rests, append_gave, fed_rests, install_gave}
use Rattle.proof_progress.proofs.Top.{BagOf, IsRequest}
use Rattle.proof_progress.proofs.TopEvents.{Does, EventAt, then_at}

-- Work

module _ (P : Entry → Type 0) where
  -- all entries of a node, and of the messages
  abbrev pub AllAt : Scene (List Entry) → Type 0
  AllAt s = NodeOf P s.node × BagOf P s.records.bag

  -- such an engine, with such commands queued
  abbrev pub Took : EngineView → Type 0
  Took e = AllByRecursion (Brings P) e.machine.core.output.items × Rests e.machine

  -- a node at work
  pub record HasTaken (w : Work (List Entry)) : Type 0 where
    pub all : EffectsOf P w.effects
    pub queue : IfSome w.engine Took

  step_takes : (t : Turn) (w : Work (List Entry)) → HasTaken w → HasTaken (work_step whole_logs t w)
  step_takes t w h = go w.engine h.queue
    where
      done : (e : EngineView) (c : WorldCommand) → EffectsOf P (exec whole_logs t e c w.effects) → Took e → HasTaken (done_of whole_logs t w e c)
      done e c a k = pick (stops w.left)
        where
          pick : (b : Bool) → HasTaken (if b then stopped (exec whole_logs t e c w.effects) else record { engine = Some (feed t.moment c e); effects = exec whole_logs t e c w.effects; left = one_less w.left })
          pick true = record { all = record { store = a.store; noted = λ es q. cc; bag = a.bag }; queue = tt }
          pick false = record { all = a; queue = subst Took (sym (fed_rests t.moment (feed_of c) e k.1)) k }

      first : (e : EngineView) (cs : List WorldCommand) → AllByRecursion (Brings P) cs × Rests e.machine → HasTaken (step_of whole_logs t w e (popped (record e.machine.core.output { items = cs })))
      first e [] k = h
      first e (c ∷ cs) k =
          let behind : EngineView = with_queue e (record e.machine.core.output { items = cs }) in
          done behind c (exec_keeps P t behind w.effects h.all c k.0.0) (k.0.1, k.1)

      go : (o : Option EngineView) → IfSome o Took → HasTaken (elim o as (λ _. Work (List Entry)) [ None ↦ w | Some e ↦ step_of whole_logs t w e (popped e.machine.core.output) ])
      go None k = h
      go (Some e) k = first e e.machine.core.output.items k

  finish_takes : (t : Turn) (stop refusal : Option ℕ) (s : Scene (List Entry)) → HasTaken (work_of stop s) → AllAt (finish whole_logs weight t stop refusal s).1
  unfolding finish
  finish_takes t stop refusal s h =
      let k : HasTaken (worked whole_logs (weight (work_of stop s)) t (work_of stop s)) = worked-keeps whole_logs t HasTaken (weight (work_of stop s)) (λ x busy p. step_takes t x p) (work_of stop s) h in
      (record { store = k.all.store; noted = k.all.noted }, k.all.bag)

  -- a request that is delivered
  delivers : (from : ℕ) (b : Body) (v : Vote ℕ) (es : List Entry) (now : ℕ) (e : EngineView) → e.machine.core.output.items ≡ [] → IsRequest b v es → IsAccepted b e → rejects_vote nat_cmp e.machine.core.state v ≡ false → AllByRecursion P es → Took (engine_in (deliver from b now e))
  delivers from b v es now e none r a low k = go b r a
    where
      took : (f : EngineView) → Gave P e f → Took f
      took f g = (subst (AllByRecursion (Brings P)) (sym (g.0.behind ∙ ap (λ cs. cs ++ g.0.added) none)) g.0.each, g.1)

      go : (b : Body) → IsRequest b v es → IsAccepted b e → Took (engine_in (deliver from b now e))
      go (body.VoteRequest q) r a = absurd r
      go (body.VoteReply q) r a = absurd r
      go (body.AppendRequest o prev fs committed) r a =
          took (engine_in (deliver from (body.AppendRequest o prev fs committed) now e))
          (append_gave P o.session_id.vote prev fs committed now e a (subst (λ w. rejects_vote nat_cmp e.machine.core.state w ≡ false) (sym r.0) low) (subst (AllByRecursion P) (sym r.1) k))
      go (body.AppendReply o q prev upto) r a = absurd r
      go (body.SnapshotRequest o s) r a =
          took (engine_in (deliver from (body.SnapshotRequest o s) now e))
          (install_gave P s o.session_id.vote now e a (subst (λ w. rejects_vote nat_cmp e.machine.core.state w ≡ false) (sym r.0) low) (subst (AllByRecursion P) (sym r.1) k))
      go (body.SnapshotReply o q upto) r a = absurd r

  -- at a node
  pub played_takes : (given : Given) (act : Act) (event : Event) (s : Scene (List Entry)) (T : Taking act s.node) → T.engine.machine.core.output.items ≡ [] → NodeOf P s.node → BagOf P s.records.bag → AllByRecursion P T.entries
      → AllAt (played whole_logs weight given act event s).1
  unfolding played
  played_takes given act event s T none all bag k = go (skip_reason act s.node)
    where
      now : Scene (List Entry)
      now = called_at (moment_of event s.node) s

      kept : NodeOf P (calls_at given act now.node).1
      kept = calls_keep P given act now.node (record { store = all.store; noted = all.noted })

      took : IfSome (calls_at given act now.node).1.engine Took
      took =
          subst (λ a. IfSome (calls_at given a now.node).1.engine Took) (sym T.is)
          (subst (λ o. IfSome (node_in (elim o as (λ _. Option ℕ × NodeView) [ None ↦ (None, now.node) | Some e ↦ (let r = deliver T.message.from T.message.body now.node.moment e in (r.0, record now.node { engine = Some r.1 })) ])).engine Took) (sym T.runs)
          (delivers T.message.from T.message.body T.vote T.entries now.node.moment T.engine none T.request T.accepted T.takes k))

      go : (o : Option SkipReason) → AllAt
          (scene_after {L = List Entry} (elim o as (λ _. Outcome × Scene (List Entry)) [
            | Some reason ↦ (Skipped reason, s)
            | None ↦ finish whole_logs weight (turn_of act now.node) event.stop (calls given act now).0 (calls given act now).1
          ]))
      go (Some reason) = (all, bag)
      go None = finish_takes (turn_of act now.node) event.stop (calls given act now).0 (calls given act now).1 (record { all = record { store = kept.store; noted = kept.noted; bag = bag }; queue = took })

-- Events

-- what it aims at
act_of : Option Aim → Act
act_of None = Stop
act_of (Some a) = a.act

-- a message that is delivered was sent
delivered_there : (bag : List Message) (kind : EventKind) (n : ℕ) (m : Message) → ◌≡◌ {A = Option Aim} (aim_of bag kind) (Some (record { id = n; act = Take m })) → Contains bag m
unfolding act_of
delivered_there bag (event.Init k) n m q = let z : ◌≡◌ {A = Act} Initialize (Take m) = ap act_of q in cc
delivered_there bag (event.Timeout k) n m q = let z : ◌≡◌ {A = Act} (Elect Voters) (Take m) = ap act_of q in cc
delivered_there bag (event.Stand k) n m q = let z : ◌≡◌ {A = Act} (Elect AllMembers) (Take m) = ap act_of q in cc
delivered_there bag (event.Propose k values) n m q = let z : ◌≡◌ {A = Act} (Propose values) (Take m) = ap act_of q in cc
delivered_there bag (event.Heartbeat k) n m q = let z : ◌≡◌ {A = Act} SendHeartbeat (Take m) = ap act_of q in cc
delivered_there bag (event.Fail k target) n m q = let z : ◌≡◌ {A = Act} (Fail target) (Take m) = ap act_of q in cc
delivered_there bag (event.Snapshot k) n m q = let z : ◌≡◌ {A = Act} TriggerSnapshot (Take m) = ap act_of q in cc
delivered_there bag (event.Built k) n m q = let z : ◌≡◌ {A = Act} FinishSnapshot (Take m) = ap act_of q in cc
delivered_there bag (event.Purge k i) n m q = let z : ◌≡◌ {A = Act} (TriggerPurge i) (Take m) = ap act_of q in cc
delivered_there bag (event.Member k learners) n m q = let z : ◌≡◌ {A = Act} (ChangeLearners learners) (Take m) = ap act_of q in cc
delivered_there bag (event.Change k groups learners) n m q = let z : ◌≡◌ {A = Act} (ChangeMembership groups learners) (Take m) = ap act_of q in cc
delivered_there bag (event.Read k) n m q = let z : ◌≡◌ {A = Act} Read (Take m) = ap act_of q in cc
delivered_there bag (event.Down k) n m q = let z : ◌≡◌ {A = Act} StepDown (Take m) = ap act_of q in cc
delivered_there bag (event.Stop k) n m q = let z : ◌≡◌ {A = Act} Stop (Take m) = ap act_of q in cc
delivered_there bag (event.Restart k start) n m q = let z : ◌≡◌ {A = Act} (Restart start) (Take m) = ap act_of q in cc
delivered_there bag (event.Deliver k) n m q = sent (message_at bag k) refl q
  where
    within : (b : Bool) (x : Message) → ◌≡◌ {A = Option Message} (if b then None else slice_get bag (k - 1)) (Some x) → Contains bag x
    within true x p = cc
    within false x p = each_at (Contains bag) bag (k - 1) x p (recursion_from_All (Contains bag) bag (All-contains_itself bag))

    sent : (o : Option Message) → message_at bag k ≡ o → ◌≡◌ {A = Option Aim} (option_map (λ (x : Message). let a : Aim = record { id = x.to; act = Take x } in a) o) (Some (record { id = n; act = Take m })) → Contains bag m
    sent None is p = cc
    sent (Some x) is p = let y : ◌≡◌ {A = Act} (Take x) (Take m) = ap act_of p in let z : x ≡ m = cc in subst (Contains bag) z (within (nat_eq k 0) x is)

module _ (given : Given) (wf : IsWellFormed given) (past : List Event) (event : Event) (E : EventAt given wf past event) where
  h : Followed given (Settled (setup_of given.membership)) (stores.empty (setup_of given.membership)) (world_after given past)
  h = followed given wf past

  -- it takes a request
  pub takes_does : Taking E.act E.node → Does (world_after given past) (happens whole_logs weight given event (world_after given past)).1 E.n E.node (then_at given wf past event E.act E.node).node
  takes_does T = record {
    brought = T.entries;
    keeps = λ P all bag k.
        let d = played_takes P given E.act event (record { node = E.node; records = (world_after given past).records }) T runs.queue all bag k in
        (d.0, subst (λ r. BagOf P r) (sym bag_is) d.1);
    does = inl (record {
      message = T.message;
      there = delivered_there (world_after given past).records.bag event.kind E.n T.message aims;
      vote = T.vote;
      request = T.request;
      other = λ q. leaders.away (q ∙ sym told.0);
      named = leaders.named;
      not_lower = not_lower T.vote E.node.store.vote leaders.named k.store.vote_named (subst (λ v. is_lt (vote_cmp nat_cmp T.vote v) ≡ false) runs.in_step.mirrors.log.vote_is T.takes);
    });
  }
    where
      bag_is : (happens whole_logs weight given event (world_after given past)).1.records.bag ≡ (then_at given wf past event E.act E.node).records.bag
      bag_is = ap (λ r. r.bag) E.records

      k : NodeFollows (setup_of given.membership) h.world (world_after given past).records E.node
      k = one_of (NodeFollows (setup_of given.membership) h.world (world_after given past).records) (world_after given past).nodes E.node h.follows.nodes E.there

      runs : EngineFollows (setup_of given.membership) E.node h.world T.engine
      runs = subst (λ o. IfSome o (EngineFollows (setup_of given.membership) E.node h.world)) T.runs k.engine

      aims : ◌≡◌ {A = Option Aim} (aim_of (world_after given past).records.bag event.kind) (Some (record { id = E.n; act = Take T.message }))
      aims = subst (λ a. ◌≡◌ {A = Option Aim} (aim_of (world_after given past).records.bag event.kind) (Some (record { id = E.n; act = a }))) T.is E.aim

      told : (T.message.to ≡ E.n) × MessageIs (setup_of given.membership) h.world T.message
      told = aimed given (Settled (setup_of given.membership)) (all_laws given.membership) _ (world_after given past) h event.kind (record { id = E.n; act = Take T.message }) aims

      leaders : IsLeaders T.message.to T.vote
      leaders = go T.message.body told.1 T.request
        where
          go : (b : Body) → BodyIs (setup_of given.membership) T.message.from T.message.to b h.world → IsRequest b T.vote T.entries → IsLeaders T.message.to T.vote
          go (body.VoteRequest q) i r = absurd r
          go (body.VoteReply q) i r = absurd r
          go (body.AppendRequest o prev fs committed) i r = subst (IsLeaders T.message.to) r.0 i.leaders
          go (body.AppendReply o q prev upto) i r = absurd r
          go (body.SnapshotRequest o s) i r = subst (IsLeaders T.message.to) r.0 i.leaders
          go (body.SnapshotReply o q upto) i r = absurd r
