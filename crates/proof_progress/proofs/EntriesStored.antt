-- The entries that nodes store and send stay of a kind, as commands are executed.
use Rattle.std.proofs.Common.{ℕ, ◌+◌, ◌≡◌, length, Bool, true, false, not, ◌&&◌, List, [], ◌∷◌, fold, map, filter, refl, sym, subst, Option, None, Some}
use Rattle.std.specs.Prelude.{if◌then◌else◌, nat_le, nat_lt}
use Rattle.std.specs.List.{AllByRecursion}
use Rattle.std.specs.Map.{values_of}
use Rattle.std.specs.BTreeMap.{insert_entry}
use Rattle.std.specs.Option.{option_to_list}
use Rattle.std.specs.declared.cmp.Ordering.TheVariants.{Equal, Greater, Less}
use Rattle.std.specs.Ordering.{is_eq, match_ordering, nat_cmp}
use Rattle.proof_deeds.specs.raft_state.declared.ids.LogId.{LogId}
use Rattle.proof_deeds.specs.raft_state.Order.{next, vote_cmp}
use Rattle.proof_deeds.proofs.raft_state_proofs.LogLists.{each_append, each_filter}
use Rattle.proof_deeds.specs.raft_progress_entry.declared.entry.Inflight.{Inflight}
use Rattle.proof_deeds.specs.raft_progress_entry.declared.entry.Inflight.TheVariants as inflight
use Rattle.proof_deeds.specs.raft_error.declared.error.EngineError.{EngineError}
use Rattle.proof_deeds.specs.raft_command.declared.command.Command.TheVariants as command
use Rattle.proof_deeds.specs.raft_command.declared.replication.ReplicationSessionId.{ReplicationSessionId}
use Rattle.proof_deeds.specs.raft_command.declared.respond.Respond.TheVariants as respond
use Rattle.proof_deeds.specs.raft_command.declared.sm.CommandPayload.TheVariants as payload
use Rattle.proof_deeds.specs.raft_command.Queue.{popped}
use Rattle.proof_deeds.specs.raft_steps.Parts.{led_of, leading}
use Rattle.proof_deeds.specs.raft_steps.Refusals.{refusals_of_local_progress, refusals_of_vote_resp}
use Rattle.proof_deeds.specs.raft_steps.Engine.{handle_vote_resp}
use Rattle.proof_deeds.specs.raft_steps.ReplicationHandler.{update_local_progress}
use Rattle.proof_deeds.proofs.raft_steps_proofs.Allowed.{local_only}
use Rattle.proof_deeds.specs.raft_store.declared.entry.Entry.{Entry}
use Rattle.proof_deeds.specs.raft_store.Entries.{entry_meaning}
use Rattle.proof_deeds.specs.raft_store.Store.{between, due, index_of, past, put, whole}
use Rattle.proof_deeds.specs.raft_store.Types.{EngineView, WorldCandidate, WorldCommand, WorldLeader, WorldPayload, WorldStore}
use Rattle.proof_deeds.specs.raft_calls.declared.message.Body.{Body}
use Rattle.proof_deeds.specs.raft_calls.declared.message.Body.TheVariants as body
use Rattle.proof_deeds.specs.raft_calls.declared.message.Message.{Message}
use Rattle.proof_deeds.specs.raft_node.declared.node.Turn.{Turn}
use Rattle.proof_deeds.specs.raft_node.Execute.{Effects, exec, exec_payload, heartbeat, replication, replies, reply_to, replicate_committed, sending, to_each}
use Rattle.proof_deeds.specs.raft_calls.Engines.{WorldRespond, with_queue}
use Rattle.proof_deeds.specs.raft_calls.Feeds.{last_sent, asks_itself, called, feed, grant_own, hold_own, own_grant}
use Rattle.proof_deeds.specs.raft_node.Runs.{whole_logs}
use Rattle.proof_deeds.specs.raft_node.Work.{Work, done_of, one_less, step_of, stopped, stops, work_step, worked}
use Rattle.proof_deeds.proofs.raft_node_proofs.Worked.{worked-keeps}
use Rattle.proof_progress.proofs.EntriesQueued.{BodyOf, Brings, BringsIn, IsCommon, Only, brings_all, brings_leading, here, vote_resp-only}

module _ (K : Entry → Type 0) where
  -- a store's entries are of the kind
  pub record StoreOf (t : WorldStore) : Type 0 where
    pub log : AllByRecursion (λ (p : ℕ × Entry). K p.1) t.log
    pub snap : AllByRecursion K t.snap
    pub applied : AllByRecursion K t.applied

  -- so do those that are noted for a snapshot, and those of messages
  pub record EffectsOf (w : Effects (List Entry)) : Type 0 where
    pub store : StoreOf w.store
    pub noted : (es : List Entry) → w.noted ≡ Some es → AllByRecursion K es
    pub bag : AllByRecursion (λ (m : Message). BodyOf K m.body) w.records.bag

  -- Lists

  pub values_keep : (log : List (ℕ × Entry)) → AllByRecursion (λ (p : ℕ × Entry). K p.1) log → AllByRecursion K (values_of log)
  values_keep [] h = tt
  values_keep (x ∷ xs) h = (h.0, values_keep xs h.1)

  between_keep : (from end : ℕ) (log : List (ℕ × Entry)) → AllByRecursion (λ (p : ℕ × Entry). K p.1) log → AllByRecursion K (between from end log)
  between_keep from end log h = values_keep (filter (λ p. nat_le from p.0 && nat_lt p.0 end) log) (each_filter (λ (p : ℕ × Entry). K p.1) (λ p. nat_le from p.0 && nat_lt p.0 end) log h)

  pub whole_keeps : (t : WorldStore) → StoreOf t → AllByRecursion K (whole t)
  whole_keeps t h =
      each_append K t.snap (past (length t.snap) t.log) h.snap
      (values_keep (filter (λ p. not (nat_lt p.0 (length t.snap))) t.log) (each_filter (λ (p : ℕ × Entry). K p.1) (λ p. not (nat_lt p.0 (length t.snap))) t.log h.log))

  put_keeps : (log : List (ℕ × Entry)) (k : ℕ) (e : Entry) → AllByRecursion (λ (p : ℕ × Entry). K p.1) log → K e → AllByRecursion (λ (p : ℕ × Entry). K p.1) (insert_entry nat_cmp log k e)
  put_keeps [] k e h i = (i, tt)
  put_keeps (x ∷ xs) k e h i =
      elim (nat_cmp k x.0) as (λ r. AllByRecursion (λ (p : ℕ × Entry). K p.1) (match_ordering r ((k, e) ∷ x ∷ xs) ((x.0, e) ∷ xs) (x ∷ insert_entry nat_cmp xs k e))) [
        | Less ↦ (i, h)
        | Equal ↦ (i, h.1)
        | Greater ↦ (h.0, put_keeps xs k e h.1 i)
      ]

  puts_keep : (es : List Entry) (log : List (ℕ × Entry)) → AllByRecursion (λ (p : ℕ × Entry). K p.1) log → AllByRecursion K es → AllByRecursion (λ (p : ℕ × Entry). K p.1) (fold (put entry_meaning) log es)
  puts_keep [] log h k = h
  puts_keep (e ∷ es) log h k = puts_keep es (put entry_meaning log e) (put_keeps log (index_of entry_meaning e) e h k.0) k.1

  -- Messages

  sent_keep : (id : ℕ) (b : Body) (ids : List ℕ) → BodyOf K b → AllByRecursion (λ (m : Message). BodyOf K m.body) (to_each id ids b)
  sent_keep id b [] k = tt
  sent_keep id b (x ∷ xs) k = (k, sent_keep id b xs k)

  sends : (ms : List Message) (w : Effects (List Entry)) → AllByRecursion (λ (m : Message). BodyOf K m.body) ms → EffectsOf w → EffectsOf (sending ms w)
  sends ms w k h = record { store = h.store; noted = h.noted; bag = each_append (λ (m : Message). BodyOf K m.body) w.records.bag ms h.bag k }

  replication_keeps : (t : Turn) (s : ReplicationSessionId ℕ) (u : WorldStore) (f : Inflight ℕ) → StoreOf u → BodyOf K (replication t s u f)
  replication_keeps t s u inflight.None h = tt
  replication_keeps t s u (inflight.Logs id range) h = between_keep (next range.prev) (next range.last) u.log h.log
  replication_keeps t s u (inflight.Snapshot id last) h = h.snap

  reply_keeps : (b : Body) (r : WorldRespond) (id to : ℕ) → AllByRecursion (λ (m : Message). BodyOf K m.body) (map (λ c. record { from = id; to = to; body = c }) (option_to_list (reply_to b r)))
  reply_keeps (body.VoteRequest q) (respond.Vote r) id to = (tt, tt)
  reply_keeps (body.AppendRequest o prev es committed) (respond.AppendEntries r) id to = (tt, tt)
  reply_keeps (body.SnapshotRequest o s) (respond.InstallFullSnapshot r) id to = (tt, tt)
  reply_keeps _ _ id to = tt

  replies_keep : (t : Turn) (r : WorldRespond) → AllByRecursion (λ (m : Message). BodyOf K m.body) (replies t r)
  replies_keep t r = go t.request
    where
      go : (o : Option Message) → AllByRecursion (λ (m : Message). BodyOf K m.body)
          (elim o as (λ _. List Message) [ None ↦ [] | Some m ↦ map (λ b. record { from = t.id; to = m.from; body = b }) (option_to_list (reply_to m.body r)) ])
      go None = tt
      go (Some m) = reply_keeps m.body r t.id m.from

  -- Commands

  module _ (t : Turn) (e : EngineView) (w : Effects (List Entry)) (h : EffectsOf w) where
    store_as : (u : WorldStore) → StoreOf u → EffectsOf (record w { store = u })
    store_as u k = record { store = k; noted = h.noted; bag = h.bag }

    payload_keeps : (seq : ℕ) (p : WorldPayload) → BringsIn K p → EffectsOf (exec_payload whole_logs t (command.StateMachine (record { seq = seq; payload = p })) p w)
    payload_keeps seq payload.BuildSnapshot k = record { store = h.store; noted = λ es q. subst (AllByRecursion K) (let z : w.store.applied ≡ es = cc in z) h.store.applied; bag = h.bag }
    payload_keeps seq (payload.GetSnapshot x) k = h
    payload_keeps seq (payload.BeginReceivingSnapshot x) k = h
    payload_keeps seq (payload.InstallFullSnapshot s) k = record { store = record { log = h.store.log; snap = k; applied = k }; noted = h.noted; bag = h.bag }
    payload_keeps seq (payload.Apply x) k = h

    pub exec_keeps : (c : WorldCommand) → Brings K c → EffectsOf (exec whole_logs t e c w)
    exec_keeps (command.SaveVote v) k = record { store = record { log = h.store.log; snap = h.store.snap; applied = h.store.applied }; noted = h.noted; bag = h.bag }
    exec_keeps (command.AppendInputEntries v es) k = record { store = record { log = puts_keep es w.store.log h.store.log k; snap = h.store.snap; applied = h.store.applied }; noted = h.noted; bag = h.bag }
    exec_keeps (command.DeleteConflictLog since) k = record {
      store = record { log = each_filter (λ (p : ℕ × Entry). K p.1) (λ p. nat_lt p.0 since.index) w.store.log h.store.log; snap = h.store.snap; applied = h.store.applied };
      noted = h.noted;
      bag = h.bag;
    }
    exec_keeps (command.PurgeLog upto) k = record {
      store = record { log = each_filter (λ (p : ℕ × Entry). K p.1) (λ p. nat_lt upto.index p.0) w.store.log h.store.log; snap = h.store.snap; applied = h.store.applied };
      noted = h.noted;
      bag = h.bag;
    }
    exec_keeps (command.Commit seq already upto) k = record {
      store = record {
        log = h.store.log;
        snap = h.store.snap;
        applied = each_append K w.store.applied (due w.store upto) h.store.applied (between_keep (length w.store.applied) (upto.index + 1) w.store.log h.store.log);
      };
      noted = h.noted;
      bag = h.bag;
    }
    exec_keeps (command.StateMachine c) k = payload_keeps c.seq c.payload k
    exec_keeps (command.SendVote req) k = sends _ w (sent_keep t.id (body.VoteRequest req) _ tt) h
    exec_keeps (command.RebuildReplicationStreams targets) k = record { store = h.store; noted = h.noted; bag = h.bag }
    exec_keeps (command.Replicate target req) k = go w.streams.session_id
      where
        go : (o : Option (ReplicationSessionId ℕ)) → EffectsOf (elim o as (λ _. Effects (List Entry)) [ None ↦ w | Some s ↦ sending (to_each t.id (target ∷ []) (replication t s w.store req)) w ])
        go None = h
        go (Some s) = sends _ w (replication_keeps t s w.store req h.store, tt) h
    exec_keeps (command.ReplicateCommitted committed) k = go w.streams.session_id
      where
        go : (o : Option (ReplicationSessionId ℕ)) → EffectsOf (elim o as (λ _. Effects (List Entry)) [ None ↦ w | Some s ↦ replicate_committed whole_logs t committed s w ])
        go None = h
        go (Some s) =
            let told : EffectsOf (sending (to_each t.id w.streams.targets (heartbeat t s committed)) w) = sends _ w (sent_keep t.id (heartbeat t s committed) w.streams.targets tt) h in
            record { store = told.store; noted = told.noted; bag = told.bag }
    exec_keeps (command.Respond when reply) k = sends _ w (replies_keep t reply) h
    exec_keeps command.BecomeLeader k = record { store = h.store; noted = h.noted; bag = h.bag }
    exec_keeps command.QuitLeader k = record { store = h.store; noted = h.noted; bag = h.bag }

  -- What is fed back queues such commands alone

  module _ (common : IsCommon K) (e : EngineView) where
    abbrev OnlyFed : EngineView → Type 0
    OnlyFed f = Only (Brings K) e.machine.core f.machine.core

    still : OnlyFed e
    still = here (Brings K) e.machine.core e.machine.core refl

    granted : (now : ℕ) (v : _) → OnlyFed (grant_own now v e)
    granted now v = go (refusals_of_vote_resp nat_cmp e.config e.config.id (own_grant v) e.machine)
      where
        go : (r : Option (EngineError ℕ (Unit {0}))) → OnlyFed (called r e (handle_vote_resp nat_cmp entry_meaning e.config e.config.id (own_grant v) now e.machine))
        go None = vote_resp-only K (Brings K) (brings_all K common.blank).own e.config e.config.id (own_grant v) now e.machine
        go (Some r) = still

    held : (x : Option (LogId ℕ)) (l : WorldLeader) → OnlyFed (hold_own x l e)
    held x l = go (refusals_of_local_progress nat_cmp e.config x (led_of l e.machine.core.state e.machine.core.output))
      where
        go : (r : Option (EngineError ℕ (Unit {0}))) → OnlyFed (called r e (leading e.machine (update_local_progress nat_cmp e.config x (led_of l e.machine.core.state e.machine.core.output))))
        go None = local_only (Brings K) nat_cmp e.config (brings_leading K) x (led_of l e.machine.core.state e.machine.core.output)
        go (Some r) = still

    pub fed_only : (now : ℕ) (c : WorldCommand) → OnlyFed (feed now c e)
    fed_only now (command.SaveVote v) = go e.machine.candidate
      where
        of : (b : Bool) → OnlyFed (if b then grant_own now v e else e)
        of true = granted now v
        of false = still

        go : (o : Option WorldCandidate) → OnlyFed (elim o as (λ _. EngineView) [ None ↦ e | Some c ↦ (if asks_itself v c e then grant_own now v e else e) ])
        go None = still
        go (Some c) = of (asks_itself v c e)
    fed_only now (command.AppendInputEntries v es) = go e.machine.leader
      where
        of : (b : Bool) (l : WorldLeader) → OnlyFed (if b then hold_own (last_sent None es) l e else e)
        of true l = held (last_sent None es) l
        of false l = still

        go : (o : Option WorldLeader) → OnlyFed (elim o as (λ _. EngineView) [ None ↦ e | Some l ↦ (if is_eq (vote_cmp nat_cmp l.vote v) then hold_own (last_sent None es) l e else e) ])
        go None = still
        go (Some l) = of (is_eq (vote_cmp nat_cmp l.vote v)) l
    fed_only now (command.DeleteConflictLog since) = still
    fed_only now (command.PurgeLog upto) = still
    fed_only now (command.Commit seq already upto) = still
    fed_only now (command.StateMachine c) = still
    fed_only now (command.SendVote req) = still
    fed_only now (command.RebuildReplicationStreams targets) = still
    fed_only now (command.Replicate target req) = still
    fed_only now (command.ReplicateCommitted committed) = still
    fed_only now (command.Respond when reply) = still
    fed_only now command.BecomeLeader = still
    fed_only now command.QuitLeader = still

  -- Work

  pub record WorkOf (w : Work (List Entry)) : Type 0 where
    pub effects : EffectsOf w.effects
    pub queue : (e : EngineView) → w.engine ≡ Some e → AllByRecursion (Brings K) e.machine.core.output.items

  module _ (common : IsCommon K) (t : Turn) (w : Work (List Entry)) (h : WorkOf w) where
    done_keeps : (e : EngineView) (c : WorldCommand) → Brings K c → AllByRecursion (Brings K) e.machine.core.output.items → WorkOf (done_of whole_logs t w e c)
    done_keeps e c k q = by (stops w.left)
      where
        after : EffectsOf (exec whole_logs t e c w.effects)
        after = exec_keeps t e w.effects h.effects c k

        fed_keeps : AllByRecursion (Brings K) (feed t.moment c e).machine.core.output.items
        fed_keeps =
            let o : Only (Brings K) e.machine.core (feed t.moment c e).machine.core = fed_only common e t.moment c in
            subst (AllByRecursion (Brings K)) (sym o.behind) (each_append (Brings K) e.machine.core.output.items o.added q o.each)

        by : (b : Bool) → WorkOf (if b then stopped (exec whole_logs t e c w.effects) else record { engine = Some (feed t.moment c e); effects = exec whole_logs t e c w.effects; left = one_less w.left })
        by true = record { effects = record { store = after.store; noted = λ es z. cc; bag = after.bag }; queue = λ x z. cc }
        by false = record { effects = after; queue = λ x z. let same : feed t.moment c e ≡ x = cc in subst (λ (x : EngineView). AllByRecursion (Brings K) x.machine.core.output.items) same fed_keeps }

    pub step_keeps : WorkOf (work_step whole_logs t w)
    step_keeps = go w.engine refl
      where
        of : (e : EngineView) (cs : List WorldCommand) → AllByRecursion (Brings K) cs → WorkOf (step_of whole_logs t w e (popped (record e.machine.core.output { items = cs })))
        of e [] k = h
        of e (c ∷ cs) k = done_keeps (with_queue e (record e.machine.core.output { items = cs })) c k.0 k.1

        go : (o : Option EngineView) → w.engine ≡ o → WorkOf (elim o as (λ _. Work (List Entry)) [ None ↦ w | Some e ↦ step_of whole_logs t w e (popped e.machine.core.output) ])
        go None q = h
        go (Some e) q = of e e.machine.core.output.items (h.queue e q)

  pub worked_keeps : (common : IsCommon K) (t : Turn) (fuel : ℕ) (w : Work (List Entry)) → WorkOf w → WorkOf (worked whole_logs fuel t w)
  worked_keeps common t fuel w h = worked-keeps whole_logs t WorkOf fuel (λ w _ k. step_keeps common t w k) w h
