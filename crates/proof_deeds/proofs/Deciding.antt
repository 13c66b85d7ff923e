-- What a node decides while it works off its queue was chosen then.
use Rattle.std.proofs.Common.{ℕ, ◌+◌, ◌<◌, ◌≡◌, Bool, true, false, List, [], ◌∷◌, ◌++◌, refl, sym, ap, ◌∙◌, subst, append-nil, append_assoc, Option, None, Some}
use Rattle.std.specs.Prelude.{Contains, if◌then◌else◌}
use Rattle.std.specs.List.{AllByRecursion}
use Rattle.std.proofs.lemmas.List.Elements.{Contains-append_left}
use Rattle.raft_node.specs.raft_state.declared.ids.LogId.{LogId}
use Rattle.raft_node.specs.raft_state.declared.membership.Members.{Members}
use Rattle.raft_node.specs.raft_command.declared.command.Command.TheVariants as command
use Rattle.raft_node.specs.raft_command.declared.replication.ReplicationSessionId.{ReplicationSessionId}
use Rattle.raft_node.specs.raft_command.declared.sm.CommandPayload.TheVariants as payload
use Rattle.raft_node.specs.raft_command.Queue.{popped}
use Rattle.raft_node.specs.raft_store.declared.entry.Entry.{Entry}
use Rattle.raft_node.specs.raft_store.Entries.{entry_meaning}
use Rattle.raft_node.specs.raft_store.Store as store
use Rattle.raft_node.specs.raft_store.Types.{EngineView, WorldCommand, WorldPayload, WorldStore}
use Rattle.proof_mirror.specs.Ready.{Shaped}
use Rattle.raft_node.specs.raft_calls.declared.message.Body.TheVariants as body
use Rattle.raft_node.specs.raft_calls.declared.message.Message.{Message}
use Rattle.raft_node.specs.declared.node.Turn.{Turn}
use Rattle.raft_node.specs.declared.record.Decided.{Decided}
use Rattle.raft_node.specs.Execute.{Effects, exec, exec_payload, others, replicate_committed, replies, replication, sending, to_each}
use Rattle.raft_node.specs.raft_calls.Feeds.{fed, feed_of}
use Rattle.raft_node.specs.Runs.{whole_logs}
use Rattle.raft_node.specs.Until.{until}
use Rattle.raft_node.specs.Work.{Work, done_of, idle, one_less, step_of, stopped, stops, work_step, worked}
use Rattle.raft_node.specs.raft_calls.Engines.{with_queue}
use Rattle.raft_node.proofs.Worked.{worked-keeps}
use Rattle.proof_deeds.specs.Chains.{Carried, Commits, Reached}
use Rattle.proof_deeds.specs.Follows.{DecidedIs, StoreIs, StreamsAre}
use Rattle.proof_deeds.specs.Images.{Ideal, setup_of}
use Rattle.proof_deeds.specs.Knows.{Knows}
use Rattle.proof_deeds.proofs.Calls.{CallLaws, WorldState}
use Rattle.proof_deeds.proofs.ChosenBy.{ChosenBy, chosen_by, chosen_on}
use Rattle.proof_deeds.proofs.Drains.{EngineWorks, Works, step_works}
use Rattle.proof_deeds.proofs.Executed.{WorldOrder}
use Rattle.proof_deeds.proofs.Moments.{parted}
use Rattle.proof_deeds.proofs.Pushes.{Popped, pop}
use Rattle.proof_deeds.proofs.Runs.{AllAcknowledged}
use Rattle.proof_deeds.proofs.Told.{Decisions}
use Rattle.proof_deeds.proofs.Worlds.{each_more, each_on}

-- the last of some
last_of : (P : Decided (List Entry) → Type 0) (xs : Decisions) (x : Decided (List Entry)) → AllByRecursion P (xs ++ x ∷ []) → P x
last_of P [] x h = h.0
last_of P (y ∷ xs) x h = last_of P xs x h.1

-- one command more
one_more : (t : Turn) (n : ℕ) (v w : Work (List Entry)) → worked whole_logs n t v ≡ w → idle w ≡ false → worked whole_logs (n + 1) t v ≡ work_step whole_logs t w
unfolding worked
one_more t n v w is busy =
    parted t n 1 v ∙ (ap (until idle (work_step whole_logs t) 1) is ∙ ap (λ b. if b then w else work_step whole_logs t w) busy)

-- What a command decides, of this node and this store, and the bag grows
pub record Chooses (n : ℕ) (u : WorldStore) (w x : Effects (List Entry)) : Type 0 where
  pub more : Decisions
  pub are : x.records.decided ≡ w.records.decided ++ more
  pub here : AllByRecursion (λ r. r.leader_id.node_id ≡ n) more
  pub each : AllByRecursion (ChosenBy x.records.bag u) more
  pub kept : (m : Message) → Contains w.records.bag m → Contains x.records.bag m

quiet : (n : ℕ) (u : WorldStore) (w x : Effects (List Entry)) → x.records.decided ≡ w.records.decided → ((m : Message) → Contains w.records.bag m → Contains x.records.bag m) → Chooses n u w x
quiet n u w x e f = record { more = []; are = e ∙ sym (append-nil w.records.decided); here = tt; each = tt; kept = f }

module _ (first : Members ℕ (Unit {0})) (t : Turn) (e : EngineView) (w : Effects (List Entry)) (W : Ideal) (reached : Reached (setup_of first) W) (h : StoreIs (setup_of first) w.store (W.store t.id)) (z : Shaped entry_meaning w.store)
    (g : StreamsAre t.id w.streams.session_id (W.store t.id)) (a : AllAcknowledged W w.records.bag) (V X : Ideal) where
  abbrev By : Effects (List Entry) → Type 0
  By x = Chooses t.id w.store w x

  same : (x : Effects (List Entry)) → x.records.decided ≡ w.records.decided → x.records.bag ≡ w.records.bag → By x
  same x e f = quiet t.id w.store w x e (λ m c. subst (λ ms. Contains ms m) (sym f) c)

  sends : (ms : List Message) → By (sending ms w)
  sends ms = quiet t.id w.store w (sending ms w) refl (λ m c. Contains-append_left w.records.bag ms m c)

  ordered : (k : WorldOrder) (p : WorldPayload) → By (exec_payload whole_logs t (command.StateMachine k) p w)
  ordered k payload.BuildSnapshot = same _ refl refl
  ordered k (payload.GetSnapshot _) = same _ refl refl
  ordered k (payload.BeginReceivingSnapshot _) = same _ refl refl
  ordered k (payload.InstallFullSnapshot s) = same _ refl refl
  ordered k (payload.Apply _) = same _ refl refl

  replicated : (target : ℕ) (req : _) (o : Option (ReplicationSessionId ℕ)) → By (elim o as (λ _. Effects (List Entry)) [ None ↦ w | Some s ↦ sending (to_each t.id (target ∷ []) (replication t s w.store req)) w ])
  replicated target req None = same _ refl refl
  replicated target req (Some s) = sends (to_each t.id (target ∷ []) (replication t s w.store req))

  told : (x : LogId ℕ) → Commits (setup_of first) W X t.id (command.ReplicateCommitted (Some x)) → (o : Option (ReplicationSessionId ℕ)) → StreamsAre t.id o (W.store t.id)
      → AllByRecursion (DecidedIs V) (let y : Effects (List Entry) = (elim o as (λ _. Effects (List Entry)) [ None ↦ w | Some s ↦ replicate_committed whole_logs t (Some x) s w ]) in y.records.decided)
      → By (elim o as (λ _. Effects (List Entry)) [ None ↦ w | Some s ↦ replicate_committed whole_logs t (Some x) s w ])
  told x m None k b = same _ refl refl
  told x m (Some s) k b =
      let r : Decided (List Entry) = record { leader_id = s.vote.leader_id; log_id = x; log = store.whole_upto w.store x.index } in
      let own : DecidedIs V r = last_of (DecidedIs V) w.records.decided r b in
      record {
        more = r ∷ [];
        are = refl;
        here = (k.own, tt);
        each = (chosen_on w.records.bag _ w.store r (λ m c. Contains-append_left w.records.bag _ m c) (chosen_by first t.id w.store W reached h z s k w.records.bag a r refl own.own m.0 m.1), tt);
        kept = λ m c. Contains-append_left w.records.bag _ m c;
      }

  told_none : (o : Option (ReplicationSessionId ℕ)) → By (elim o as (λ _. Effects (List Entry)) [ None ↦ w | Some s ↦ replicate_committed whole_logs t None s w ])
  told_none None = same _ refl refl
  told_none (Some s) = quiet t.id w.store w _ (append-nil w.records.decided) (λ m c. Contains-append_left w.records.bag _ m c)

  -- what a command decides is chosen
  pub exec_chooses : (c : WorldCommand) → Commits (setup_of first) W X t.id c → AllByRecursion (DecidedIs V) (exec whole_logs t e c w).records.decided → By (exec whole_logs t e c w)
  exec_chooses (command.SaveVote v) m b = same _ refl refl
  exec_chooses (command.AppendInputEntries v es) m b = same _ refl refl
  exec_chooses (command.DeleteConflictLog since) m b = same _ refl refl
  exec_chooses (command.PurgeLog upto) m b = same _ refl refl
  exec_chooses (command.Commit seq already upto) m b = same _ refl refl
  exec_chooses (command.StateMachine c) m b = ordered c c.payload
  exec_chooses (command.SendVote req) m b = sends (to_each t.id (others t.id e.machine.core.state.em.membership) (body.VoteRequest req))
  exec_chooses (command.RebuildReplicationStreams targets) m b = same _ refl refl
  exec_chooses (command.Replicate target req) m b = replicated target req w.streams.session_id
  exec_chooses (command.ReplicateCommitted None) m b = told_none w.streams.session_id
  exec_chooses (command.ReplicateCommitted (Some x)) m b = told x m w.streams.session_id g b
  exec_chooses (command.Respond when reply) m b = sends (replies t reply)
  exec_chooses command.BecomeLeader m b = same _ refl refl
  exec_chooses command.QuitLeader m b = same _ refl refl

-- a decision of this node, chosen after so many commands of this work
abbrev pub ChosenIn : Turn → Work (List Entry) → List Message → Decided (List Entry) → Type 0
ChosenIn t v bag r = (r.leader_id.node_id ≡ t.id) × (j : ℕ) × ChosenBy bag (worked whole_logs j t v).effects.store r

-- what was decided since the work began was chosen in it
pub record Decides (t : Turn) (v w : Work (List Entry)) : Type 0 where
  pub commands : ℕ
  pub is : worked whole_logs commands t v ≡ w
  pub kept : (m : Message) → Contains v.effects.records.bag m → Contains w.effects.records.bag m
  pub new : Decisions
  pub are : w.effects.records.decided ≡ v.effects.records.decided ++ new
  pub each : AllByRecursion (ChosenIn t v w.effects.records.bag) new

pub decides_none : (t : Turn) (v : Work (List Entry)) → Decides t v v
unfolding worked
decides_none t v = record { commands = 0; is = refl; kept = λ m c. c; new = []; are = sym (append-nil v.effects.records.decided); each = tt }

-- a command more, and what it decides
pub decides_more : (t : Turn) (v w x : Work (List Entry)) → Decides t v w → idle w ≡ false → work_step whole_logs t w ≡ x → Chooses t.id w.effects.store w.effects x.effects → Decides t v x
decides_more t v w x p busy q c = record {
  commands = p.commands + 1;
  is = one_more t p.commands v w p.is busy ∙ q;
  kept = λ m k. c.kept m (p.kept m k);
  new = p.new ++ c.more;
  are = c.are ∙ (ap (λ rs. rs ++ c.more) p.are ∙ append_assoc v.effects.records.decided p.new c.more);
  each = each_more (ChosenIn t v x.effects.records.bag) p.new c.more
      (each_on (ChosenIn t v w.effects.records.bag) (ChosenIn t v x.effects.records.bag) (λ r k. (k.0, k.1, chosen_on w.effects.records.bag x.effects.records.bag (worked whole_logs k.1 t v).effects.store r c.kept k.2)) p.new p.each)
      (now c.more c.here c.each);
} where
  now : (rs : Decisions) → AllByRecursion (λ r. r.leader_id.node_id ≡ t.id) rs → AllByRecursion (ChosenBy x.effects.records.bag w.effects.store) rs → AllByRecursion (ChosenIn t v x.effects.records.bag) rs
  now [] h k = tt
  now (r ∷ rs) h k = ((h.0, p.commands, subst (λ (y : Work (List Entry)). ChosenBy x.effects.records.bag y.effects.store r) (sym p.is) k.0), now rs h.1 k.1)

module _ (first : Members ℕ (Unit {0})) (Extra : Ideal → WorldState → Type 0) (t : Turn) (laws : CallLaws first Extra) (node : t.id < 18446744073709551616) (since : Ideal) where
  done_chooses : (w : Work (List Entry)) (e : EngineView) (c : WorldCommand) (cs : List WorldCommand) → e.machine.core.output.items ≡ c ∷ cs → (h : Works first Extra t since w) → EngineWorks first Extra t w.effects.store h.world e
      → Works first Extra t since (done_of whole_logs t w (with_queue e (record e.machine.core.output { items = cs })) c)
      → Chooses t.id w.effects.store w.effects (done_of whole_logs t w (with_queue e (record e.machine.core.output { items = cs })) c).effects
  done_chooses w e c cs is h k q = go (stops w.left) q where
    p : Popped (setup_of first) t e.machine.core.state.vote.leader_id w.effects.store h.world c cs (Knows (setup_of first) t.id e.machine)
    p = pop (setup_of first) t e.machine.core.state.vote.leader_id w.effects.store h.world c cs (Knows (setup_of first) t.id e.machine) (subst (λ xs. Carried (setup_of first) t e.machine.core.state.vote.leader_id w.effects.store h.world xs (Knows (setup_of first) t.id e.machine)) is k.carried)

    chooses : (V : Ideal) → AllByRecursion (DecidedIs V) (exec whole_logs t (with_queue e (record e.machine.core.output { items = cs })) c w.effects).records.decided
        → Chooses t.id w.effects.store w.effects (exec whole_logs t (with_queue e (record e.machine.core.output { items = cs })) c w.effects)
    chooses V b = exec_chooses first t (with_queue e (record e.machine.core.output { items = cs })) w.effects h.world h.effects.reached h.effects.store h.effects.shaped h.effects.rest.session h.effects.fit.accepted V p.next c p.done.commits b

    go : (b : Bool)
        → Works first Extra t since (if b then stopped (exec whole_logs t (with_queue e (record e.machine.core.output { items = cs })) c w.effects) else record { engine = Some (fed t.moment (feed_of c) (with_queue e (record e.machine.core.output { items = cs }))); effects = exec whole_logs t (with_queue e (record e.machine.core.output { items = cs })) c w.effects; left = one_less w.left })
        → Chooses t.id w.effects.store w.effects
        (let x : Work (List Entry) = (if b then stopped (exec whole_logs t (with_queue e (record e.machine.core.output { items = cs })) c w.effects) else record { engine = Some (fed t.moment (feed_of c) (with_queue e (record e.machine.core.output { items = cs }))); effects = exec whole_logs t (with_queue e (record e.machine.core.output { items = cs })) c w.effects; left = one_less w.left }) in
        x.effects)
    go true q = let x = chooses q.world q.effects.rest.records.decided in record { more = x.more; are = x.are; here = x.here; each = x.each; kept = x.kept }
    go false q = chooses q.world q.effects.rest.records.decided

  items_choose : (w : Work (List Entry)) (e : EngineView) (cs : List WorldCommand) → e.machine.core.output.items ≡ cs → (h : Works first Extra t since w) → EngineWorks first Extra t w.effects.store h.world e
      → Works first Extra t since (step_of whole_logs t w e (popped (record e.machine.core.output { items = cs }))) → Chooses t.id w.effects.store w.effects (step_of whole_logs t w e (popped (record e.machine.core.output { items = cs }))).effects
  items_choose w e [] is h k q = quiet t.id w.effects.store w.effects w.effects refl (λ m c. c)
  items_choose w e (c ∷ cs) is h k q = done_chooses w e c cs is h k q

  step_chooses : (w : Work (List Entry)) → Works first Extra t since w → Works first Extra t since (work_step whole_logs t w) → Chooses t.id w.effects.store w.effects (work_step whole_logs t w).effects
  step_chooses w h q = go w.engine h q where
    go : (o : Option EngineView) → Works first Extra t since (record w { engine = o })
        → Works first Extra t since (elim o as (λ _. Work (List Entry)) [ None ↦ record w { engine = o } | Some e ↦ step_of whole_logs t (record w { engine = o }) e (popped e.machine.core.output) ])
        → Chooses t.id w.effects.store w.effects (let x : Work (List Entry) = (elim o as (λ _. Work (List Entry)) [ None ↦ record w { engine = o } | Some e ↦ step_of whole_logs t (record w { engine = o }) e (popped e.machine.core.output) ]) in x.effects)
    go None h q = quiet t.id w.effects.store w.effects w.effects refl (λ m c. c)
    go (Some e) h q = items_choose (record w { engine = Some e }) e e.machine.core.output.items refl h h.engine q

  -- so with the whole queue
  pub worked_decides : (fuel : ℕ) (v : Work (List Entry)) → Works first Extra t since v → Decides t v (worked whole_logs fuel t v)
  worked_decides fuel v h =
      let z : Works first Extra t since (worked whole_logs fuel t v) × Decides t v (worked whole_logs fuel t v) =
      worked-keeps whole_logs t (λ x. Works first Extra t since x × Decides t v x) fuel
      (λ x busy k. let y : Works first Extra t since (work_step whole_logs t x) = step_works first Extra t laws node since x k.0 in (y, decides_more t v x (work_step whole_logs t x) k.1 busy refl (step_chooses x k.0 y))) v (h, decides_none t v) in
      z.1
