-- Stores, replies and conditions are in turn in each run.
use Rattle.std.specs.Prelude.{◌≡◌, ◌≢◌, ◌≤◌, ◌+◌, ℕ, List, [], ◌∷◌, length, slice_get, slice_set, take, Option, None, Some, refl}
use Rattle.std.specs.Option.{option_map}
use Rattle.std.proofs.Common.{◌∙◌, ◌⊎◌, inl, inr, sym, ap, subst, arith, zero, suc}
use Rattle.std.proofs.lemmas.List.Elements.{All-map}
use Rattle.std.proofs.lemmas.Option.{slice_get_past}
use Rattle.raft_command.specs.declared.command.Command.TheVariants.{AppendInputEntries, BecomeLeader, Commit, DeleteConflictLog, PurgeLog, QuitLeader, RebuildReplicationStreams, Replicate, ReplicateCommitted, Respond, SaveVote, SendVote, StateMachine}
use Rattle.raft_command.specs.declared.command.Condition.{Condition}
use Rattle.raft_command.specs.declared.config.EngineConfig.{EngineConfig}
use Rattle.raft_store.specs.declared.entry.Entry.{Entry}
use Rattle.raft_store.specs.Entries.{entry_meaning}
use Rattle.raft_store.specs.Store.{exec_all}
use Rattle.raft_store.specs.Types.{EngineView, WorldCommand, WorldStore}
use Rattle.raft_schedule.specs.declared.event.Event.{Event}
use Rattle.raft_node.specs.declared.act.Aim.{Aim}
use Rattle.raft_node.specs.declared.given.Given.{Given}
use Rattle.raft_calls.specs.declared.message.Message.{Message}
use Rattle.raft_node.specs.declared.node.Turn.{Turn}
use Rattle.raft_node.specs.Commands.{commands_after, commands_of}
use Rattle.raft_node.specs.Events.{aim_of, happens}
use Rattle.raft_calls.specs.Engines.{WorldRespond}
use Rattle.raft_node.specs.InTurn.{EndsInTurn, IsReply, RepliesInTurn, Responded, StoresInTurn, WaitsInTurn, node_after, store_of}
use Rattle.raft_node.specs.Net.{Net, NodeView, new_node, node_at}
use Rattle.raft_calls.specs.Starts.{new_engine}
use Rattle.raft_node.specs.Runs.{History, moment, run, start, whole_logs, with_event, world_after}
use Rattle.raft_node.specs.Work.{Work, weight, worked}
use Rattle.raft_node.proofs.InTurnEvents.{AllRested, Plays, Still, after_work, happened, happens_rested, made, other_after, own_after, starts_awaited, turn_at, with_work, work_at}
use Rattle.raft_calls.proofs.InTurnInstalls.{AllAwaited}
use Rattle.raft_node.proofs.InTurnQueue.{awaits_earlier, executed_awaited}
use Rattle.raft_node.proofs.InTurnReplies.{SentBy, sent_by}
use Rattle.raft_node.proofs.InTurnStarts.{Rested}
use Rattle.raft_node.proofs.InTurnSteps.{IsRespond, executed_first, worked_all, worked_store}

-- what commands make of a store
abbrev made_of : List WorldCommand → WorldStore → WorldStore
made_of cs u = exec_all entry_meaning (λ es. es) u cs

take_none : (n : ℕ) → ◌≡◌ {A = List WorldCommand} (take n []) []
take_none zero = refl
take_none (suc n) = refl

map_same : (o : Option WorldStore) → o ≡ option_map (λ u. made_of [] u) o
map_same None = refl
map_same (Some u) = refl

module _ (given : Given) (event : Event) (net : Net (List Entry)) where
  -- the event's node
  abbrev node_of : Option ℕ
  node_of = option_map (λ (a : Aim). a.id) (aim_of net.records.bag event.kind)

  -- the world after some of its commands, and after all of them
  abbrev in_midst : ℕ → Net (List Entry)
  in_midst n = (happens whole_logs (λ _. n) given event net).1

  abbrev at_end : Net (List Entry)
  at_end = (happens whole_logs weight given event net).1

  store_found : (p : Plays given event net) (k id : ℕ) → p.aim.id ≡ id
      → store_of (in_midst k) id ≡ Some (worked whole_logs k (turn_at given event net p.aim.act p.node) (work_at given event net p.aim.act p.node)).effects.store
  store_found p k id same =
      let done : Work (List Entry) = worked whole_logs k (turn_at given event net p.aim.act p.node) (work_at given event net p.aim.act p.node) in
      ap (λ (x : Net (List Entry)). store_of x id) (p.after (λ _. k))
      ∙ subst (λ d. option_map (λ (m : NodeView). m.store) (node_at (slice_set net.nodes p.place (after_work given event net p done)) d) ≡ Some done.effects.store) same
      (ap (option_map (λ (m : NodeView). m.store)) (own_after given event net p done))

  stores_own : (n id : ℕ) → node_of ≡ Some id → store_of (in_midst n) id ≡ option_map (made_of (take n (commands_of whole_logs given event net))) (store_of (in_midst 0) id)
  stores_own n id e = go (happened given event net)
    where
      go : Still given event net ⊎ Plays given event net → store_of (in_midst n) id ≡ option_map (made_of (take n (commands_of whole_logs given event net))) (store_of (in_midst 0) id)
      go (inl s) =
          ap (λ (x : Net (List Entry)). store_of x id) (s.after (λ _. n) ∙ sym (s.after (λ _. 0)))
          ∙ (map_same (store_of (in_midst 0) id) ∙ ap (λ cs. option_map (made_of cs) (store_of (in_midst 0) id)) (sym (ap (take n) s.commands ∙ take_none n)))
      go (inr p) =
          let w : Work (List Entry) = work_at given event net p.aim.act p.node in
          let t : Turn = turn_at given event net p.aim.act p.node in
          let same : p.aim.id ≡ id = named p in
          store_found p n id same
          ∙ (ap Some (worked_store whole_logs t n w ∙ (ap (λ cs. made_of cs w.effects.store) (sym (ap (take n) p.commands ∙ executed_first whole_logs t n (weight w) w (omega arith)))
          ∙ ap (made_of (take n (commands_of whole_logs given event net))) (sym (worked_store whole_logs t 0 w))))
          ∙ ap (option_map (made_of (take n (commands_of whole_logs given event net)))) (sym (store_found p 0 id same)))
        where
          named : (p : Plays given event net) → p.aim.id ≡ id
          named p = let is : Some p.aim.id ≡ Some id = sym (ap (option_map (λ (a : Aim). a.id)) p.aimed) ∙ e in cc

  stores_other : (n id : ℕ) → node_of ≢ Some id → store_of (in_midst n) id ≡ store_of net id
  stores_other n id d = go (happened given event net)
    where
      go : Still given event net ⊎ Plays given event net → store_of (in_midst n) id ≡ store_of net id
      go (inl s) = ap (λ (x : Net (List Entry)). store_of x id) (s.after (λ _. n))
      go (inr p) =
          let w : Work (List Entry) = work_at given event net p.aim.act p.node in
          let t : Turn = turn_at given event net p.aim.act p.node in
          ap (λ (x : Net (List Entry)). store_of x id) (p.after (λ _. n))
          ∙ ap (option_map (λ (m : NodeView). m.store)) (other_after given event net p (worked whole_logs n t w) id (λ e. d (ap (option_map (λ (a : Aim). a.id)) p.aimed ∙ ap Some e)))

  -- all of its commands are done at the end
  ends : at_end ≡ in_midst (length (commands_of whole_logs given event net))
  ends = go (happened given event net)
    where
      go : Still given event net ⊎ Plays given event net → at_end ≡ in_midst (length (commands_of whole_logs given event net))
      go (inl s) = s.after weight ∙ sym (s.after (λ _. length (commands_of whole_logs given event net)))
      go (inr p) =
          let w : Work (List Entry) = work_at given event net p.aim.act p.node in
          let t : Turn = turn_at given event net p.aim.act p.node in
          let n : NodeView = (made given event net p.aim.act p.node).node in
          p.after weight
          ∙ (ap (with_work given event net p.place n) (sym (worked_all whole_logs t (weight w) w))
          ∙ (ap (λ (cs : List WorldCommand). with_work given event net p.place n (worked whole_logs (length cs) t w)) (sym p.commands) ∙ sym (p.after (λ _. length (commands_of whole_logs given event net)))))

  -- a reply that the event sends
  record Replied (i : ℕ) (m : Message) : Type 0 where
    turn : ℕ
    when : Option (Condition ℕ)
    reply : WorldRespond
    command : slice_get (commands_of whole_logs given event net) turn ≡ Some (Respond when reply)
    unsent : length (in_midst turn).records.bag ≤ i
    sent : slice_get (in_midst (suc turn)).records.bag i ≡ Some m

  -- a command that replies
  replies_by : (i turn : ℕ) (m : Message) (c : WorldCommand) → IsRespond c → slice_get (commands_of whole_logs given event net) turn ≡ Some c → length (in_midst turn).records.bag ≤ i
      → slice_get (in_midst (suc turn)).records.bag i ≡ Some m → Replied i m
  replies_by i turn m (Respond when reply) r is unsent sent = record { turn = turn; when = when; reply = reply; command = is; unsent = unsent; sent = sent }
  replies_by i turn m (SaveVote v) r is unsent sent = absurd r
  replies_by i turn m (AppendInputEntries v es) r is unsent sent = absurd r
  replies_by i turn m (DeleteConflictLog since) r is unsent sent = absurd r
  replies_by i turn m (PurgeLog upto) r is unsent sent = absurd r
  replies_by i turn m (Commit seq already upto) r is unsent sent = absurd r
  replies_by i turn m (StateMachine c) r is unsent sent = absurd r
  replies_by i turn m (SendVote req) r is unsent sent = absurd r
  replies_by i turn m (RebuildReplicationStreams targets) r is unsent sent = absurd r
  replies_by i turn m (Replicate target req) r is unsent sent = absurd r
  replies_by i turn m (ReplicateCommitted x) r is unsent sent = absurd r
  replies_by i turn m BecomeLeader r is unsent sent = absurd r
  replies_by i turn m QuitLeader r is unsent sent = absurd r

  replied : (i : ℕ) (m : Message) → length net.records.bag ≤ i → slice_get at_end.records.bag i ≡ Some m → IsReply m.body → Replied i m
  replied i m old e r = go (happened given event net)
    where
      go : Still given event net ⊎ Plays given event net → Replied i m
      go (inl s) =
          let none : slice_get net.records.bag i ≡ None = slice_get_past net.records.bag i old in
          let some : slice_get net.records.bag i ≡ Some m = sym (ap (λ (x : Net (List Entry)). slice_get x.records.bag i) (s.after weight)) ∙ e in
          cc
      go (inr p) =
          let w : Work (List Entry) = work_at given event net p.aim.act p.node in
          let t : Turn = turn_at given event net p.aim.act p.node in
          let x : SentBy whole_logs t (weight w) w i m = sent_by whole_logs t (weight w) w i m old (sym (ap (λ (x : Net (List Entry)). slice_get x.records.bag i) (p.after weight)) ∙ e) r in
          replies_by i x.turn m x.command x.responds (ap (λ cs. slice_get cs x.turn) p.commands ∙ x.is)
          (subst (λ (y : Net (List Entry)). length y.records.bag ≤ i) (sym (p.after (λ _. x.turn))) x.unsent)
          (ap (λ (y : Net (List Entry)). slice_get y.records.bag i) (p.after (λ _. suc x.turn)) ∙ x.sent)

  waits : AllRested net → AllAwaited [] (commands_of whole_logs given event net)
  waits rested = go (happened given event net)
    where
      go : Still given event net ⊎ Plays given event net → AllAwaited [] (commands_of whole_logs given event net)
      go (inl s) = subst (AllAwaited []) (sym s.commands) tt
      go (inr p) =
          let w : Work (List Entry) = work_at given event net p.aim.act p.node in
          let t : Turn = turn_at given event net p.aim.act p.node in
          subst (AllAwaited []) (sym p.commands) (executed_awaited whole_logs t (weight w) w [] (starts_awaited given event net rested p))

-- runs: one event more, and none
run_more : (given : Given) (es : List Event) (k : ℕ) (e : Event) (x : History (List Entry)) → slice_get es k ≡ Some e
    → run whole_logs given (take (suc k) es) x ≡ with_event whole_logs given (run whole_logs given (take k es) x) e
run_more given [] k e x q = cc
run_more given (y ∷ es) zero e x q = let same : y ≡ e = cc in ap (with_event whole_logs given x) same
run_more given (y ∷ es) (suc k) e x q = run_more given es k e (with_event whole_logs given x y) q

take_past : (es : List Event) (k : ℕ) → slice_get es k ≡ None → take (suc k) es ≡ take k es
take_past [] zero q = refl
take_past [] (suc k) q = refl
take_past (y ∷ es) zero q = cc
take_past (y ∷ es) (suc k) q = ap (λ ys. y ∷ ys) (take_past es k q)

-- no command is queued between two events
event_rested : (given : Given) (e : Event) (x : History (List Entry)) → AllRested x.net → AllRested (with_event whole_logs given x e).net
unfolding with_event
event_rested given e x h = happens_rested given e x.net h

run_rested : (given : Given) (es : List Event) (x : History (List Entry)) → AllRested x.net → AllRested (run whole_logs given es x).net
run_rested given [] x h = h
run_rested given (e ∷ es) x h = run_rested given es (with_event whole_logs given x e) (event_rested given e x h)

start_rested : (given : Given) → AllRested (start given).net
start_rested given = All-map Rested (new_node given.settings) given.ids (λ k d l. new_rested given.settings _)
  where
    new_rested : (settings : EngineConfig ℕ) (id : ℕ) → Rested (new_node settings id)
    new_rested settings id e is = let same : new_engine settings id ≡ e = cc in subst (λ (e : EngineView). e.machine.core.output.items ≡ []) same refl

module _ (given : Given) (es : List Event) (k : ℕ) where
  -- the world before the event
  abbrev world : Net (List Entry)
  world = world_after given (take k es)

  moment_is : (o : Option Event) → slice_get es k ≡ o → (n : ℕ) → moment given es k n ≡ elim o as (λ _. Net (List Entry)) [ None ↦ world | Some e ↦ (happens whole_logs (λ _. n) given e world).1 ]
  moment_is o q n = ap (λ (o : Option Event). elim o as (λ _. Net (List Entry)) [ None ↦ world | Some e ↦ (happens whole_logs (λ _. n) given e world).1 ]) q

  commands_are : (o : Option Event) → slice_get es k ≡ o → commands_after given es k ≡ elim o as (λ _. List WorldCommand) [ None ↦ [] | Some e ↦ commands_of whole_logs given e world ]
  commands_are o q = ap (λ (o : Option Event). elim o as (λ _. List WorldCommand) [ None ↦ [] | Some e ↦ commands_of whole_logs given e world ]) q

  node_is : (o : Option Event) → slice_get es k ≡ o → node_after given es k ≡ elim o as (λ _. Option ℕ) [ None ↦ None | Some e ↦ option_map (λ a. a.id) (aim_of world.records.bag e.kind) ]
  node_is o q = ap (λ (o : Option Event). elim o as (λ _. Option ℕ) [ None ↦ None | Some e ↦ option_map (λ a. a.id) (aim_of world.records.bag e.kind) ]) q

  after_is : (e : Event) → slice_get es k ≡ Some e → world_after given (take (k + 1) es) ≡ (happens whole_logs weight given e world).1
  unfolding with_event
  after_is e q =
      let next : k + 1 ≡ suc k = omega arith in
      ap (λ n. world_after given (take n es)) next ∙ ap (λ (x : History (List Entry)). x.net) (run_more given es k e (start given) q)

  ended : world_after given (take (k + 1) es) ≡ moment given es k (length (commands_after given es k))
  ended = go (slice_get es k) refl
    where
      go : (o : Option Event) → slice_get es k ≡ o → world_after given (take (k + 1) es) ≡ moment given es k (length (commands_after given es k))
      go None q =
          let next : k + 1 ≡ suc k = omega arith in
          ap (world_after given) (ap (λ n. take n es) next ∙ take_past es k q) ∙ sym (moment_is None q (length (commands_after given es k)))
      go (Some e) q =
          after_is e q
          ∙ (ends given e world ∙ (ap (λ (cs : List WorldCommand). in_midst given e world (length cs)) (sym (commands_are (Some e) q)) ∙ sym (moment_is (Some e) q (length (commands_after given es k)))))

  own : (n id : ℕ) → node_after given es k ≡ Some id
      → store_of (moment given es k n) id ≡ option_map (λ t. exec_all entry_meaning (λ es. es) t (take n (commands_after given es k))) (store_of (moment given es k 0) id)
  own n id h = go (slice_get es k) refl
    where
      go : (o : Option Event) → slice_get es k ≡ o
          → store_of (moment given es k n) id ≡ option_map (λ t. exec_all entry_meaning (λ es. es) t (take n (commands_after given es k))) (store_of (moment given es k 0) id)
      go None q = let never : ◌≡◌ {A = Option ℕ} None (Some id) = sym (node_is None q) ∙ h in cc
      go (Some e) q =
          ap (λ (x : Net (List Entry)). store_of x id) (moment_is (Some e) q n)
          ∙ (stores_own given e world n id (sym (node_is (Some e) q) ∙ h)
          ∙ (ap (λ cs. option_map (made_of (take n cs)) (store_of (in_midst given e world 0) id)) (sym (commands_are (Some e) q))
          ∙ ap (λ (x : Net (List Entry)). option_map (made_of (take n (commands_after given es k))) (store_of x id)) (sym (moment_is (Some e) q 0))))

  others : (n id : ℕ) → node_after given es k ≢ Some id → store_of (moment given es k n) id ≡ store_of world id
  others n id d = go (slice_get es k) refl
    where
      go : (o : Option Event) → slice_get es k ≡ o → store_of (moment given es k n) id ≡ store_of world id
      go None q = ap (λ (x : Net (List Entry)). store_of x id) (moment_is None q n)
      go (Some e) q = ap (λ (x : Net (List Entry)). store_of x id) (moment_is (Some e) q n) ∙ stores_other given e world n id (λ z. d (node_is (Some e) q ∙ z))

  responded : (i : ℕ) (m : Message) → length world.records.bag ≤ i → slice_get (world_after given (take (k + 1) es)).records.bag i ≡ Some m → IsReply m.body → Responded given es k i m
  responded i m old sent r = go (slice_get es k) refl
    where
      go : (o : Option Event) → slice_get es k ≡ o → Responded given es k i m
      go None q =
          let next : k + 1 ≡ suc k = omega arith in
          let same : take (k + 1) es ≡ take k es = ap (λ n. take n es) next ∙ take_past es k q in
          let none : slice_get world.records.bag i ≡ None = slice_get_past world.records.bag i old in
          let some : slice_get world.records.bag i ≡ Some m = sym (ap (λ es. slice_get (world_after given es).records.bag i) same) ∙ sent in
          cc
      go (Some e) q =
          let x : Replied given e world i m = replied given e world i m old (sym (ap (λ (y : Net (List Entry)). slice_get y.records.bag i) (after_is e q)) ∙ sent) r in
          let next : x.turn + 1 ≡ suc x.turn = omega arith in
          record {
            turn = x.turn;
            when = x.when;
            reply = x.reply;
            command = ap (λ cs. slice_get cs x.turn) (commands_are (Some e) q) ∙ x.command;
            unsent = subst (λ (y : Net (List Entry)). length y.records.bag ≤ i) (sym (moment_is (Some e) q x.turn)) x.unsent;
            sent = ap (λ n. slice_get (moment given es k n).records.bag i) next ∙ (ap (λ (y : Net (List Entry)). slice_get y.records.bag i) (moment_is (Some e) q (suc x.turn)) ∙ x.sent);
          }

  awaited : AllAwaited [] (commands_after given es k)
  awaited = go (slice_get es k) refl
    where
      go : (o : Option Event) → slice_get es k ≡ o → AllAwaited [] (commands_after given es k)
      go None q = subst (AllAwaited []) (sym (commands_are None q)) tt
      go (Some e) q = subst (AllAwaited []) (sym (commands_are (Some e) q)) (waits given e world (run_rested given (take k es) (start given) (start_rested given)))

-- the laws of runs
pub ends_in_turn : (given : Given) (es : List Event) → EndsInTurn given es
ends_in_turn given es k = ended given es k

pub stores_in_turn : (given : Given) (es : List Event) → StoresInTurn given es
stores_in_turn given es k n id = (own given es k n id, others given es k n id)

pub replies_in_turn : (given : Given) (es : List Event) → RepliesInTurn given es
replies_in_turn given es k i m old sent r = responded given es k i m old sent r

pub waits_in_turn : (given : Given) (es : List Event) → WaitsInTurn given es
waits_in_turn given es k j condition reply e = awaits_earlier (commands_after given es k) (awaited given es k) j condition reply e
