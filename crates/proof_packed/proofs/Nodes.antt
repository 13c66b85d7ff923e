-- What a command makes of a packed node.
use Rattle.std.specs.Prelude.{◌≡◌, ℕ, List, [], ◌∷◌, ◌++◌, map, Option, None, Some, refl}
use Rattle.std.specs.Option.{option_map, option_to_list}
use Rattle.std.proofs.Common.{◌∙◌, ap}
use Rattle.std.proofs.lemmas.List.{map-append}
use Rattle.raft_node.specs.raft_state.declared.ids.LogId.{LogId}
use Rattle.raft_node.specs.raft_progress_entry.declared.entry.Inflight.{Inflight}
use Rattle.raft_node.specs.raft_progress_entry.declared.entry.Inflight.TheVariants as inflight
use Rattle.raft_node.specs.raft_command.declared.command.Command.TheVariants.{AppendInputEntries, BecomeLeader, Commit, DeleteConflictLog, PurgeLog, QuitLeader, RebuildReplicationStreams, Replicate, ReplicateCommitted, Respond, SaveVote, SendVote, StateMachine}
use Rattle.raft_node.specs.raft_command.declared.replication.ReplicationSessionId.{ReplicationSessionId}
use Rattle.raft_node.specs.raft_command.declared.respond.Respond.TheVariants as respond
use Rattle.raft_node.specs.raft_command.declared.sm.CommandPayload.TheVariants.{BuildSnapshot, GetSnapshot, BeginReceivingSnapshot, InstallFullSnapshot, Apply}
use Rattle.raft_node.specs.raft_store.declared.entry.Entry.{Entry}
use Rattle.raft_node.specs.raft_store.Types.{WorldCommand, WorldPayload, WorldStore, EngineView}
use Rattle.raft_node.specs.raft_calls.declared.message.Body.{Body}
use Rattle.raft_node.specs.raft_calls.declared.message.Body.TheVariants as body
use Rattle.raft_node.specs.raft_calls.declared.message.Message.{Message}
use Rattle.raft_node.specs.declared.node.Turn.{Turn}
use Rattle.raft_node.specs.Execute.{Effects, decided_by, exec, exec_committed, exec_payload, heartbeat, others, replicate_committed, replication, replies, reply_to, sending, to_each}
use Rattle.raft_node.specs.raft_calls.Engines.{WorldRespond}
use Rattle.proof_packed.specs.Data.{payload_with}
use Rattle.proof_packed_stores.specs.Laws.{Brings, BringsPayload}
use Rattle.proof_packed.specs.Nodes.{PackedEffects, PackedMessage, bare_body, bare_command, bare_engine, bare_message, bare_turn, brought_by_body, node_exec, node_exec_payload, packed_effects, packed_message, packed_replication, plain_message, packed_replicate_committed, packed_to_each, decided_without_log, established_without_log, packed_sending}
use Rattle.proof_packed_stores.specs.Stores.{Application, Packed, packed, packed_exec, packed_store}
use Rattle.raft_node.specs.raft_store.Store as store
use Rattle.raft_node.specs.raft_store.Entries.{entry_meaning}
use Rattle.proof_packed_stores.proofs.Stores.{command_kept}

module _ {S : Type 0} (app : Application S) where
  abbrev reply_from : ℕ → ℕ → Body → Message
  reply_from id to b = record { from = id; to = to; body = b }

  -- a reply is the same whatever its request brought, and brings nothing
  replied : (id to : ℕ) (b : Body) (r : WorldRespond) → map (packed_message app) (map (reply_from id to) (option_to_list (reply_to b r))) ≡ map (plain_message app) (map (reply_from id to) (option_to_list (reply_to (bare_body b) r)))
  replied id to (body.VoteRequest q) (respond.Vote r) = refl
  replied id to (body.VoteRequest q) (respond.AppendEntries r) = refl
  replied id to (body.VoteRequest q) (respond.ReceiveSnapshotChunk r) = refl
  replied id to (body.VoteRequest q) (respond.InstallSnapshot r) = refl
  replied id to (body.VoteRequest q) (respond.InstallFullSnapshot r) = refl
  replied id to (body.VoteRequest q) (respond.Initialize r) = refl
  replied id to (body.VoteReply q) r = refl
  replied id to (body.AppendRequest o prev es committed) (respond.Vote r) = refl
  replied id to (body.AppendRequest o prev es committed) (respond.AppendEntries r) = refl
  replied id to (body.AppendRequest o prev es committed) (respond.ReceiveSnapshotChunk r) = refl
  replied id to (body.AppendRequest o prev es committed) (respond.InstallSnapshot r) = refl
  replied id to (body.AppendRequest o prev es committed) (respond.InstallFullSnapshot r) = refl
  replied id to (body.AppendRequest o prev es committed) (respond.Initialize r) = refl
  replied id to (body.AppendReply o q prev upto) r = refl
  replied id to (body.SnapshotRequest o s) (respond.Vote r) = refl
  replied id to (body.SnapshotRequest o s) (respond.AppendEntries r) = refl
  replied id to (body.SnapshotRequest o s) (respond.ReceiveSnapshotChunk r) = refl
  replied id to (body.SnapshotRequest o s) (respond.InstallSnapshot r) = refl
  replied id to (body.SnapshotRequest o s) (respond.InstallFullSnapshot r) = refl
  replied id to (body.SnapshotRequest o s) (respond.Initialize r) = refl
  replied id to (body.SnapshotReply o q upto) r = refl

  replies_kept : (t : Turn) (r : WorldRespond) → map (packed_message app) (replies t r) ≡ map (plain_message app) (replies (bare_turn t) r)
  replies_kept t r = go t.request
    where
      go : (o : Option Message)
          → map (packed_message app) (elim o as (λ _. List Message) [ None ↦ [] | Some m ↦ map (reply_from t.id m.from) (option_to_list (reply_to m.body r)) ])
          ≡ map (plain_message app) (elim (option_map bare_message o) as (λ _. List Message) [ None ↦ [] | Some m ↦ map (reply_from t.id m.from) (option_to_list (reply_to m.body r)) ])
      go None = refl
      go (Some m) = replied t.id m.from m.body r

  each_kept : (id : ℕ) (ids : List ℕ) (b : Body) → map (packed_message app) (to_each id ids b) ≡ packed_to_each app id ids (bare_body b, brought_by_body app b)
  each_kept id [] b = refl
  each_kept id (to ∷ ids) b = ap (λ ms. record { message = record { from = id; to = to; body = bare_body b }; brought = brought_by_body app b } ∷ ms) (each_kept id ids b)

  replication_kept : (t : Turn) (s : ReplicationSessionId ℕ) (w : WorldStore) (f : Inflight ℕ)
      → (let b = replication t s w f in (bare_body b, brought_by_body app b)) ≡ packed_replication app (bare_turn t) s (packed_store app w) f
  replication_kept t s w inflight.None = refl
  replication_kept t s w (inflight.Logs id range) = refl
  replication_kept t s w (inflight.Snapshot id last) = refl

module _ {S L : Type 0} (app : Application S) where
  sent_kept : (w : Effects L) (ms : List Message) → packed_effects app (sending ms w) ≡ packed_sending app (map (packed_message app) ms) (packed_effects app w)
  sent_kept w ms = ap (λ (b : List (PackedMessage S)). (let p = packed_effects app w in record p { records = record p.records { bag = b } })) (map-append (packed_message app) w.records.bag ms)

  sent_by : (w : Effects L) (ms : List Message) (ps : List (PackedMessage S)) → map (packed_message app) ms ≡ ps → packed_effects app (sending ms w) ≡ packed_sending app ps (packed_effects app w)
  sent_by w ms ps h = sent_kept w ms ∙ ap (λ xs. packed_sending app xs (packed_effects app w)) h

  module _ (keep : List Entry → L) (t : Turn) (brought : Packed S) where
    -- the store's part
    stored_kept : (c : WorldCommand) (w : Effects L) → Brings app brought c → packed_store app (store.exec entry_meaning (λ es. es) c w.store) ≡ packed_exec app brought c (packed_store app w.store)
    stored_kept c w h = command_kept app brought c w.store h

    payload_at : (seq : ℕ) (p : WorldPayload) (w : Effects L) → BringsPayload app brought p
        → packed_effects app (exec_payload keep t (StateMachine (record { seq = seq; payload = p })) p w)
        ≡ node_exec_payload app (bare_turn t) brought (StateMachine (record { seq = seq; payload = payload_with [] p })) (payload_with [] p) (packed_effects app w)
    payload_at seq BuildSnapshot w h = refl
    payload_at seq (GetSnapshot tx) w h = refl
    payload_at seq (BeginReceivingSnapshot tx) w h = refl
    payload_at seq (InstallFullSnapshot s) w h =
        ap (λ (xs : List _). (let done = exec_payload keep t (StateMachine (record { seq = seq; payload = InstallFullSnapshot s })) (InstallFullSnapshot s) w in
        record (packed_effects app done) { records = record (packed_effects app done).records { installed = xs } }))
        (map-append (λ x. record { node = x.node; snapshot = packed app x.entries }) w.records.installed _)
        ∙ ap (λ (p : Packed S). (let v = packed_effects app w in
        record v { store = record v.store { meta = s.meta; snap = p; applied = p }; records = record v.records { installed = v.records.installed ++ record { node = t.id; snapshot = p } ∷ [] } })) h
    payload_at seq (Apply es) w h = refl

    committed_at : (x : Option (LogId ℕ)) (w : Effects L)
        → packed_effects app (exec_committed keep t x w) ≡ (let v = packed_effects app w in elim v.streams.session_id [ None ↦ v | Some s ↦ packed_replicate_committed app (bare_turn t) x s v ])
    committed_at x w = go w.streams.session_id
      where
        decided : (s : ReplicationSessionId ℕ) (o : Option (LogId ℕ))
            → map decided_without_log (map (decided_by keep s w.store) (option_to_list o)) ≡ map (λ y. record { leader_id = s.vote.leader_id; log_id = y; log = tt }) (option_to_list o)
        decided s None = refl
        decided s (Some y) = refl

        go : (o : Option (ReplicationSessionId ℕ))
            → packed_effects app (elim o as (λ _. Effects L) [ None ↦ w | Some s ↦ replicate_committed keep t x s w ])
            ≡ (elim o as (λ _. PackedEffects S) [ None ↦ packed_effects app w | Some s ↦ packed_replicate_committed app (bare_turn t) x s (packed_effects app w) ])
        go None = refl
        go (Some s) =
            ap (λ ds. (let told = packed_effects app (sending (to_each t.id w.streams.targets (heartbeat t s x)) w) in record told { records = record told.records { decided = ds } }))
            (map-append decided_without_log w.records.decided (map (decided_by keep s w.store) (option_to_list x)) ∙ ap (λ ds. map decided_without_log w.records.decided ++ ds) (decided s x))
            ∙ ap (λ (told : PackedEffects S). record told { records = record told.records { decided = map decided_without_log w.records.decided ++ map (λ y. record { leader_id = s.vote.leader_id; log_id = y; log = tt }) (option_to_list x) } })
            (sent_by w (to_each t.id w.streams.targets (heartbeat t s x)) _ (each_kept app t.id w.streams.targets (heartbeat t s x)))

    pub exec_kept : (e : EngineView) (c : WorldCommand) (w : Effects L) → Brings app brought c → packed_effects app (exec keep t e c w) ≡ node_exec app (bare_turn t) brought (bare_engine e) (bare_command c) (packed_effects app w)
    exec_kept e (SaveVote v) w h = refl
    exec_kept e (AppendInputEntries v es) w h = refl
    exec_kept e (DeleteConflictLog since) w h = refl
    exec_kept e (PurgeLog upto) w h = refl
    exec_kept e (Commit seq already upto) w h = ap (λ p. record (packed_effects app (exec keep t e (Commit seq already upto) w)) { store = p }) (stored_kept (Commit seq already upto) w tt)
    exec_kept e (StateMachine c) w h = payload_at c.seq c.payload w h
    exec_kept e (SendVote req) w h = sent_by w _ _ (each_kept app t.id (others t.id e.machine.core.state.em.membership) (body.VoteRequest req))
    exec_kept e (RebuildReplicationStreams targets) w h = refl
    exec_kept e (Replicate target req) w h = go w.streams.session_id
      where
        go : (o : Option (ReplicationSessionId ℕ))
            → packed_effects app (elim o as (λ _. Effects L) [ None ↦ w | Some s ↦ sending (to_each t.id (target ∷ []) (replication t s w.store req)) w ])
            ≡ (elim o as (λ _. PackedEffects S) [ None ↦ packed_effects app w | Some s ↦ packed_sending app (packed_to_each app t.id (target ∷ []) (packed_replication app (bare_turn t) s (packed_store app w.store) req)) (packed_effects app w) ])
        go None = refl
        go (Some s) = sent_by w _ _ (each_kept app t.id (target ∷ []) (replication t s w.store req) ∙ ap (packed_to_each app t.id (target ∷ [])) (replication_kept app t s w.store req))
    exec_kept e (ReplicateCommitted x) w h = committed_at x w
    exec_kept e (Respond when reply) w h = sent_by w _ _ (replies_kept app t reply)
    exec_kept e BecomeLeader w h =
        ap (λ ds. (let v = packed_effects app w in record v { records = record v.records { established = ds } })) (map-append established_without_log w.records.established _)
    exec_kept e QuitLeader w h = refl
