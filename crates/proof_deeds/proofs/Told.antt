-- What a node decides is applied by it once its queue is worked off, unless it stops.
use Rattle.std.proofs.Common.{ℕ, ◌<◌, ◌≤◌, ◌≡◌, Bool, true, false, List, [], ◌∷◌, ◌++◌, length, arith, refl, sym, ap, ◌∙◌, subst, append-nil, append_assoc, Option, None, Some}
use Rattle.std.specs.Prelude.{IfSome, if◌then◌else◌}
use Rattle.std.specs.List.{AllByRecursion}
use Rattle.std.specs.Ordering.{is_eq, nat_cmp}
use Rattle.std.proofs.lemmas.Cmp.{nat_cmp_total}
use Rattle.raft_node.specs.raft_state.declared.ids.LogId.{LogId}
use Rattle.raft_node.specs.raft_state.declared.membership.Members.{Members}
use Rattle.raft_node.specs.raft_state.Order.{vote_cmp}
use Rattle.raft_node.specs.raft_command.declared.command.Command.TheVariants as command
use Rattle.raft_node.specs.raft_command.declared.replication.ReplicationSessionId.{ReplicationSessionId}
use Rattle.raft_node.specs.raft_command.declared.sm.CommandPayload.TheVariants as payload
use Rattle.raft_node.specs.raft_command.Queue.{popped}
use Rattle.raft_node.specs.raft_steps.Laws.{Queues}
use Rattle.raft_node.specs.raft_steps.Parts.{led_of}
use Rattle.raft_node.proofs.raft_steps_proofs.LawsQueue.{handle_vote_resp_queues, local_queues}
use Rattle.raft_node.specs.raft_steps.Refusals.{refusals_of_local_progress, refusals_of_vote_resp}
use Rattle.raft_node.specs.raft_store.declared.entry.Entry.{Entry}
use Rattle.raft_node.specs.raft_store.Entries.{entry_meaning}
use Rattle.raft_node.specs.raft_store.Types.{EngineView, WorldCandidate, WorldCommand, WorldLeader, WorldMachine, WorldPayload, WorldStore}
use Rattle.proof_mirror.specs.Ready.{FitsBefore, Ready}
use Rattle.proof_mirror.proofs.Queued.{applied_on}
use Rattle.raft_node.specs.raft_calls.declared.feed.Feed.{Feed}
use Rattle.raft_node.specs.raft_calls.declared.feed.Feed.TheVariants.{Nothing, Saved, Stored}
use Rattle.raft_node.specs.declared.node.Turn.{Turn}
use Rattle.raft_node.specs.declared.record.Decided.{Decided}
use Rattle.raft_node.specs.Execute.{Effects, exec, exec_payload, replicate_committed, sending, to_each, replication}
use Rattle.raft_node.specs.raft_calls.Feeds.{asks_itself, called, fed, feed_of, grant_own, hold_own, own_grant}
use Rattle.raft_node.specs.Runs.{whole_logs}
use Rattle.raft_node.specs.Work.{Work, done_of, one_less, step_of, stopped, stops, work_step, worked}
use Rattle.raft_node.specs.raft_calls.Engines.{with_queue}
use Rattle.raft_node.proofs.Worked.{worked-keeps}
use Rattle.proof_deeds.specs.Chains.{left_by, stored}
use Rattle.proof_deeds.specs.Images.{Ideal}
use Rattle.proof_deeds.specs.Follows.{StreamsAre}
use Rattle.proof_deeds.proofs.Calls.{CallLaws, WorldState}
use Rattle.proof_deeds.proofs.Drains.{EngineWorks, Works, step_works}
use Rattle.proof_deeds.proofs.Executed.{WorldOrder, exec_stores}
use Rattle.proof_deeds.proofs.Pushes.{left_more}
use Rattle.proof_deeds.proofs.Worlds.{each_more}

abbrev pub Decisions : Type 0
Decisions = List (Decided (List Entry))

-- how much is applied once these commands are done
abbrev pub applied_by : WorldStore → List WorldCommand → ℕ
applied_by u cs = length (left_by u cs).applied

abbrev pub EachIn : ℕ → Decisions → Type 0
EachIn n rs = AllByRecursion (λ r. r.leader_id.node_id ≡ n) rs

abbrev pub EachBelow : ℕ → Decisions → Type 0
EachBelow k rs = AllByRecursion (λ r. r.log_id.index < k) rs

pub below_more : (j k : ℕ) (rs : Decisions) → j ≤ k → EachBelow j rs → EachBelow k rs
below_more j k [] l h = tt
below_more j k (r ∷ rs) l h = (omega (arith, l, h.0), below_more j k rs l h.1)

-- the decisions of a command, of this node, below what will be applied
pub record Adds (n k : ℕ) (old new : Decisions) : Type 0 where
  pub more : Decisions
  pub are : new ≡ old ++ more
  pub own : EachIn n more
  pub below : EachBelow k more

no_more : (n k : ℕ) (old new : Decisions) → new ≡ old → Adds n k old new
no_more n k old new e = record { more = []; are = e ∙ sym (append-nil old); own = tt; below = tt }

-- ready commands behind others
ready_behind : (u : WorldStore) (cs ds : List WorldCommand) → Ready nat_cmp entry_meaning (λ es. es) u (cs ++ ds) → Ready nat_cmp entry_meaning (λ es. es) (left_by u cs) ds
ready_behind u [] ds h = h
ready_behind u (c ∷ cs) ds h = ready_behind (stored c u) cs ds h.2

decisions_in : Effects (List Entry) → Decisions
decisions_in w = w.records.decided

module _ (t : Turn) (e : EngineView) (w : Effects (List Entry)) (cs : List WorldCommand) (q : IfSome w.streams.session_id (λ s. s.vote.leader_id.node_id ≡ t.id)) where
  abbrev Told : Effects (List Entry) → ℕ → Type 0
  Told v k = Adds t.id k w.records.decided v.records.decided

  ordered : (k : WorldOrder) (p : WorldPayload) (i : ℕ) → Told (exec_payload whole_logs t (command.StateMachine k) p w) i
  ordered k payload.BuildSnapshot i = no_more t.id i w.records.decided _ refl
  ordered k (payload.GetSnapshot _) i = no_more t.id i w.records.decided _ refl
  ordered k (payload.BeginReceivingSnapshot _) i = no_more t.id i w.records.decided _ refl
  ordered k (payload.InstallFullSnapshot s) i = no_more t.id i w.records.decided _ refl
  ordered k (payload.Apply _) i = no_more t.id i w.records.decided _ refl

  replicated : (target : ℕ) (req : _) (o : Option (ReplicationSessionId ℕ)) (i : ℕ) → Told (elim o as (λ _. Effects (List Entry)) [ None ↦ w | Some s ↦ sending (to_each t.id (target ∷ []) (replication t s w.store req)) w ]) i
  replicated target req None i = no_more t.id i w.records.decided _ refl
  replicated target req (Some s) i = no_more t.id i w.records.decided _ refl

  told : (x : LogId ℕ) (o : Option (ReplicationSessionId ℕ)) → IfSome o (λ s. s.vote.leader_id.node_id ≡ t.id) → x.index < applied_by w.store cs → Told (elim o as (λ _. Effects (List Entry)) [ None ↦ w | Some s ↦ replicate_committed whole_logs t (Some x) s w ]) (applied_by w.store cs)
  told x None q l = no_more t.id (applied_by w.store cs) w.records.decided _ refl
  told x (Some s) q l = record { more = record { leader_id = s.vote.leader_id; log_id = x; log = _ } ∷ []; are = refl; own = (q, tt); below = (l, tt) }

  told_none : (o : Option (ReplicationSessionId ℕ)) (i : ℕ) → Told (elim o as (λ _. Effects (List Entry)) [ None ↦ w | Some s ↦ replicate_committed whole_logs t None s w ]) i
  told_none None i = no_more t.id i w.records.decided _ refl
  told_none (Some s) i = record { more = []; are = refl; own = tt; below = tt }

  -- what a command decides will be applied
  exec_adds : (c : WorldCommand) → FitsBefore nat_cmp entry_meaning (λ es. es) w.store cs c → Told (exec whole_logs t e c w) (applied_by (stored c w.store) cs)
  exec_adds (command.SaveVote v) f = no_more t.id (applied_by (stored (command.SaveVote v) w.store) cs) w.records.decided _ refl
  exec_adds (command.AppendInputEntries v es) f = no_more t.id (applied_by (stored (command.AppendInputEntries v es) w.store) cs) w.records.decided _ refl
  exec_adds (command.DeleteConflictLog since) f = no_more t.id (applied_by (stored (command.DeleteConflictLog since) w.store) cs) w.records.decided _ refl
  exec_adds (command.PurgeLog upto) f = no_more t.id (applied_by (stored (command.PurgeLog upto) w.store) cs) w.records.decided _ refl
  exec_adds (command.Commit seq already upto) f = no_more t.id (applied_by (stored (command.Commit seq already upto) w.store) cs) w.records.decided _ refl
  exec_adds (command.StateMachine c) f = ordered c c.payload (applied_by (stored (command.StateMachine c) w.store) cs)
  exec_adds (command.SendVote req) f = no_more t.id (applied_by w.store cs) w.records.decided _ refl
  exec_adds (command.RebuildReplicationStreams targets) f = no_more t.id (applied_by w.store cs) w.records.decided _ refl
  exec_adds (command.Replicate target req) f = replicated target req w.streams.session_id (applied_by w.store cs)
  exec_adds (command.ReplicateCommitted None) f = told_none w.streams.session_id (applied_by w.store cs)
  exec_adds (command.ReplicateCommitted (Some x)) f = told x w.streams.session_id q f
  exec_adds (command.Respond when reply) f = no_more t.id (applied_by w.store cs) w.records.decided _ refl
  exec_adds command.BecomeLeader f = no_more t.id (applied_by w.store cs) w.records.decided _ refl
  exec_adds command.QuitLeader f = no_more t.id (applied_by w.store cs) w.records.decided _ refl

-- What the engine is told puts commands behind its queue.
record Behind (e f : EngineView) : Type 0 where
  pub added : List WorldCommand
  pub is : f.machine.core.output.items ≡ e.machine.core.output.items ++ added

behind_self : (e : EngineView) → Behind e e
behind_self e = record { added = []; is = sym (append-nil e.machine.core.output.items) }

called_behind : {A : Type 0} (asks : Option A) (e : EngineView) (m : WorldMachine) → Queues nat_cmp e.machine.core m.core → Behind e (called asks e m)
called_behind None e m q = record { added = q.added; is = q.behind }
called_behind (Some x) e m q = behind_self e

fed_behind : (now : ℕ) (f : Feed) (e : EngineView) → Behind e (fed now f e)
fed_behind now (Saved v) e = go e.machine.candidate where
  pick : (b : Bool) → Behind e (if b then grant_own now v e else e)
  pick true = called_behind (refusals_of_vote_resp nat_cmp e.config e.config.id (own_grant v) e.machine) e _ (handle_vote_resp_queues nat_cmp nat_cmp_total entry_meaning e.config e.config.id (own_grant v) now e.machine)
  pick false = behind_self e

  go : (o : Option WorldCandidate) → Behind e (elim o as (λ _. EngineView) [ None ↦ e | Some c ↦ (if asks_itself v c e then grant_own now v e else e) ])
  go None = behind_self e
  go (Some c) = pick (asks_itself v c e)
fed_behind now (Stored v x) e = go e.machine.leader where
  pick : (l : WorldLeader) (b : Bool) → Behind e (if b then hold_own x l e else e)
  pick l true = called_behind (refusals_of_local_progress nat_cmp e.config x (led_of l e.machine.core.state e.machine.core.output)) e _ (local_queues nat_cmp nat_cmp_total e.config x (led_of l e.machine.core.state e.machine.core.output))
  pick l false = behind_self e

  go : (o : Option WorldLeader) → Behind e (elim o as (λ _. EngineView) [ None ↦ e | Some l ↦ (if is_eq (vote_cmp nat_cmp l.vote v) then hold_own x l e else e) ])
  go None = behind_self e
  go (Some l) = pick l (is_eq (vote_cmp nat_cmp l.vote v))
fed_behind now Nothing e = behind_self e

module _ (t : Turn) (before : Decisions) (low : ℕ) where
  -- what was decided in this turn, which will be applied while the node is at work, as will what was applied before
  pub record Tells (w : Work (List Entry)) : Type 0 where
    pub new : Decisions
    pub are : w.effects.records.decided ≡ before ++ new
    pub own : EachIn t.id new
    pub seen : IfSome w.engine (λ e. (low ≤ applied_by w.effects.store e.machine.core.output.items) × EachBelow (applied_by w.effects.store e.machine.core.output.items) new)

module _ (first : Members ℕ (Unit {0})) (Extra : Ideal → WorldState → Type 0) (t : Turn) (laws : CallLaws first Extra) (node : t.id < 18446744073709551616) (before : Decisions) (low : ℕ) (since : Ideal) where
  abbrev So : Work (List Entry) → Type 0
  So w = Tells t before low w

  done_tells : (w : Work (List Entry)) (e : EngineView) (c : WorldCommand) (cs : List WorldCommand) → e.machine.core.output.items ≡ c ∷ cs → (h : Works first Extra t since w) → EngineWorks first Extra t w.effects.store h.world e → (p : So w)
      → (low ≤ applied_by w.effects.store (c ∷ cs)) × EachBelow (applied_by w.effects.store (c ∷ cs)) p.new
      → Works first Extra t since (done_of whole_logs t w (with_queue e (record e.machine.core.output { items = cs })) c) → So (done_of whole_logs t w (with_queue e (record e.machine.core.output { items = cs })) c)
  done_tells w e c cs is h k p s q = go (stops w.left) q where
    ready : Ready nat_cmp entry_meaning (λ es. es) w.effects.store (c ∷ cs)
    ready = subst (Ready nat_cmp entry_meaning (λ es. es) w.effects.store) is k.pending.core.ready

    session : (o : Option (ReplicationSessionId ℕ)) → StreamsAre t.id o (h.world.store t.id) → IfSome o (λ s. s.vote.leader_id.node_id ≡ t.id)
    session None x = tt
    session (Some s) x = x.own

    adds : Adds t.id (applied_by (stored c w.effects.store) cs) w.effects.records.decided (exec whole_logs t (with_queue e (record e.machine.core.output { items = cs })) c w.effects).records.decided
    adds = exec_adds t (with_queue e (record e.machine.core.output { items = cs })) w.effects cs (session w.effects.streams.session_id h.effects.rest.session) c ready.1

    are : (exec whole_logs t (with_queue e (record e.machine.core.output { items = cs })) c w.effects).records.decided ≡ before ++ (p.new ++ adds.more)
    are = adds.are ∙ (ap (λ rs. rs ++ adds.more) p.are ∙ append_assoc before p.new adds.more)

    own : EachIn t.id (p.new ++ adds.more)
    own = each_more (λ r. r.leader_id.node_id ≡ t.id) p.new adds.more p.own adds.own

    on : (f : EngineView) → Behind (with_queue e (record e.machine.core.output { items = cs })) f → Ready nat_cmp entry_meaning (λ es. es) (exec whole_logs t (with_queue e (record e.machine.core.output { items = cs })) c w.effects).store f.machine.core.output.items
        → applied_by (stored c w.effects.store) cs ≤ applied_by (exec whole_logs t (with_queue e (record e.machine.core.output { items = cs })) c w.effects).store f.machine.core.output.items
    on f b r =
        let same : (exec whole_logs t (with_queue e (record e.machine.core.output { items = cs })) c w.effects).store ≡ stored c w.effects.store = exec_stores t (with_queue e (record e.machine.core.output { items = cs })) w.effects c in
        let r2 : Ready nat_cmp entry_meaning (λ es. es) (stored c w.effects.store) (cs ++ b.added) = subst (λ v. Ready nat_cmp entry_meaning (λ es. es) v (cs ++ b.added)) same (subst (Ready nat_cmp entry_meaning (λ es. es) (exec whole_logs t (with_queue e (record e.machine.core.output { items = cs })) c w.effects).store) b.is r) in
        let l : applied_by (stored c w.effects.store) cs ≤ applied_by (left_by (stored c w.effects.store) cs) b.added = applied_on nat_cmp entry_meaning (λ es. es) (left_by (stored c w.effects.store) cs) b.added (ready_behind (stored c w.effects.store) cs b.added r2) in
        let m : applied_by (stored c w.effects.store) (cs ++ b.added) ≡ applied_by (left_by (stored c w.effects.store) cs) b.added = ap (λ (v : WorldStore). length v.applied) (left_more (stored c w.effects.store) cs b.added) in
        let n : applied_by (exec whole_logs t (with_queue e (record e.machine.core.output { items = cs })) c w.effects).store f.machine.core.output.items ≡ applied_by (stored c w.effects.store) (cs ++ b.added) = ap (λ v. applied_by v f.machine.core.output.items) same ∙ ap (applied_by (stored c w.effects.store)) b.is in
        omega (arith, l, m, n)

    go : (b : Bool)
        → Works first Extra t since (if b then stopped (exec whole_logs t (with_queue e (record e.machine.core.output { items = cs })) c w.effects) else record { engine = Some (fed t.moment (feed_of c) (with_queue e (record e.machine.core.output { items = cs }))); effects = exec whole_logs t (with_queue e (record e.machine.core.output { items = cs })) c w.effects; left = one_less w.left })
        → So (if b then stopped (exec whole_logs t (with_queue e (record e.machine.core.output { items = cs })) c w.effects) else record { engine = Some (fed t.moment (feed_of c) (with_queue e (record e.machine.core.output { items = cs }))); effects = exec whole_logs t (with_queue e (record e.machine.core.output { items = cs })) c w.effects; left = one_less w.left })
    go true q = record { new = p.new ++ adds.more; are = are; own = own; seen = tt }
    go false q =
        let f : EngineView = fed t.moment (feed_of c) (with_queue e (record e.machine.core.output { items = cs })) in
        let l : applied_by (stored c w.effects.store) cs ≤ applied_by (exec whole_logs t (with_queue e (record e.machine.core.output { items = cs })) c w.effects).store f.machine.core.output.items =
        on f (fed_behind t.moment (feed_of c) (with_queue e (record e.machine.core.output { items = cs }))) q.engine.pending.core.ready in
        record {
          new = p.new ++ adds.more;
          are = are;
          own = own;
          seen = (
            omega (arith, s.0, l),
            each_more (λ r. r.log_id.index < applied_by (exec whole_logs t (with_queue e (record e.machine.core.output { items = cs })) c w.effects).store f.machine.core.output.items) p.new adds.more
                (below_more _ _ p.new l s.1) (below_more _ _ adds.more l adds.below),
          );
        }

  items_tell : (w : Work (List Entry)) (e : EngineView) (cs : List WorldCommand) → e.machine.core.output.items ≡ cs → (h : Works first Extra t since w) → EngineWorks first Extra t w.effects.store h.world e → (p : So w)
      → (low ≤ applied_by w.effects.store cs) × EachBelow (applied_by w.effects.store cs) p.new
      → Works first Extra t since (step_of whole_logs t w e (popped (record e.machine.core.output { items = cs }))) → So (step_of whole_logs t w e (popped (record e.machine.core.output { items = cs })))
  items_tell w e [] is h k p s q = p
  items_tell w e (c ∷ cs) is h k p s q = done_tells w e c cs is h k p s q

  step_tells : (w : Work (List Entry)) → Works first Extra t since w → So w → Works first Extra t since (work_step whole_logs t w) → So (work_step whole_logs t w)
  step_tells w h p q = go w.engine h p q where
    go : (o : Option EngineView) → Works first Extra t since (record w { engine = o }) → So (record w { engine = o })
        → Works first Extra t since (elim o as (λ _. Work (List Entry)) [ None ↦ record w { engine = o } | Some e ↦ step_of whole_logs t (record w { engine = o }) e (popped e.machine.core.output) ])
        → So (elim o as (λ _. Work (List Entry)) [ None ↦ record w { engine = o } | Some e ↦ step_of whole_logs t (record w { engine = o }) e (popped e.machine.core.output) ])
    go None h p q = p
    go (Some e) h p q = items_tell (record w { engine = Some e }) e e.machine.core.output.items refl h h.engine p p.seen q

  -- so with the whole queue
  pub worked_tells : (fuel : ℕ) (w : Work (List Entry)) → Works first Extra t since w → So w → So (worked whole_logs fuel t w)
  worked_tells fuel w h p =
      let z : Works first Extra t since (worked whole_logs fuel t w) × So (worked whole_logs fuel t w) =
      worked-keeps whole_logs t (λ x. Works first Extra t since x × So x) fuel
      (λ x busy k. let y : Works first Extra t since (work_step whole_logs t x) = step_works first Extra t laws node since x k.0 in (y, step_tells x k.0 k.1 y)) w (h, p) in
      z.1
