-- What a step sends: each request at the moment of its node, and each reply to the sender of the request that it took.
use Rattle.std.specs.Prelude.{◌≡◌, ◌≤◌, ℕ, Bool, true, false, max, List, [], ◌∷◌, ◌++◌, map, Option, None, Some, refl, if◌then◌else◌}
use Rattle.std.specs.List.{AllByRecursion}
use Rattle.std.specs.Option.{option_to_list}
use Rattle.std.proofs.Common.{sym, ap, subst, arith, ◌∙◌}
use Rattle.proof_deeds.specs.raft_state.declared.ids.LogId.{LogId}
use Rattle.proof_deeds.proofs.raft_state_proofs.LogLists.{each_append}
use Rattle.proof_deeds.specs.raft_error.declared.error.EngineError.{EngineError}
use Rattle.proof_deeds.specs.raft_progress_entry.declared.entry.Inflight.{Inflight}
use Rattle.proof_deeds.specs.raft_progress_entry.declared.entry.Inflight.TheVariants as inflight
use Rattle.proof_deeds.specs.raft_command.declared.command.Command.TheVariants as command
use Rattle.proof_deeds.specs.raft_command.declared.replication.ReplicationSessionId.{ReplicationSessionId}
use Rattle.proof_deeds.specs.raft_command.declared.respond.Respond.TheVariants as respond
use Rattle.proof_deeds.specs.raft_command.declared.sm.CommandPayload.TheVariants as payload
use Rattle.proof_deeds.specs.raft_command.Queue.{popped}
use Rattle.proof_deeds.specs.raft_steps.SnapshotCalls.{finish_building_snapshot}
use Rattle.proof_deeds.specs.raft_steps.Refusals.{refusals_of_spent}
use Rattle.std.specs.Ordering.{nat_cmp}
use Rattle.proof_deeds.specs.raft_store.declared.entry.Entry.{Entry}
use Rattle.proof_deeds.specs.raft_store.Built.{meta_of}
use Rattle.proof_deeds.specs.raft_store.Entries.{entry_meaning}
use Rattle.proof_deeds.specs.raft_store.Types.{EngineView, WorldCommand, WorldPayload, WorldStore}
use Rattle.proof_deeds.specs.raft_schedule.declared.event.Outcome.{Outcome}
use Rattle.proof_deeds.specs.raft_schedule.declared.event.Outcome.TheVariants.{Skipped}
use Rattle.proof_deeds.specs.raft_schedule.declared.event.SkipReason.{SkipReason}
use Rattle.proof_deeds.specs.raft_schedule.declared.event.Start.TheVariants.{Plain, Saved, Bare}
use Rattle.proof_deeds.specs.raft_calls.declared.message.Body.{Body}
use Rattle.proof_deeds.specs.raft_calls.declared.message.Body.TheVariants as body
use Rattle.proof_deeds.specs.raft_calls.declared.message.Message.{Message}
use Rattle.proof_deeds.specs.raft_calls.declared.message.Origin.{Origin}
use Rattle.proof_deeds.specs.raft_calls.Deliveries.{answered, deliver, with_machine}
use Rattle.proof_deeds.specs.raft_calls.Elections.{elected, initialized}
use Rattle.proof_deeds.specs.raft_calls.Engines.{WorldRespond, with_queue}
use Rattle.proof_deeds.specs.raft_calls.Feeds.{feed}
use Rattle.proof_deeds.specs.raft_calls.LeaderCalls.{failed, heartbeats_sent, proposed, read_asked, stepped_down}
use Rattle.proof_deeds.specs.raft_calls.Memberships.{learners_changed, membership_changed}
use Rattle.proof_deeds.specs.raft_calls.Snapshots.{purge_triggered, snapshot_triggered, told_built}
use Rattle.proof_deeds.specs.raft_node.declared.act.Act.{Act}
use Rattle.proof_deeds.specs.raft_node.declared.act.Act.TheVariants.{Initialize, Elect, Take, Propose, SendHeartbeat, Fail, TriggerSnapshot, FinishSnapshot, TriggerPurge, Restart, ChangeLearners, ChangeMembership, Read, StepDown, Stop}
use Rattle.proof_deeds.specs.raft_node.declared.given.Given.{Given}
use Rattle.proof_deeds.specs.raft_node.declared.node.Turn.{Turn}
use Rattle.proof_deeds.specs.raft_node.Events.{Scene, calls, calls_at, finish, on_engine, played, requested, scene, skip_reason, turn_of, work_of}
use Rattle.proof_deeds.specs.raft_node.Execute.{Effects, exec, exec_payload, heartbeat, replicate_committed, replication, replies, reply_to, sending, to_each}
use Rattle.proof_deeds.specs.raft_node.Net.{NodeView, no_records}
use Rattle.proof_deeds.specs.raft_node.Runs.{whole_logs}
use Rattle.proof_deeds.specs.raft_node.Snapshots.{finish_snapshot, kept_built}
use Rattle.proof_deeds.specs.raft_node.Work.{Work, done_of, one_less, step_of, stopped, stops, weight, work_step, worked}
use Rattle.proof_deeds.proofs.raft_node_proofs.Worked.{worked-keeps}
use Rattle.proof_clients.specs.Reads.{IsRequestOf, IsTaking}
use Rattle.proof_servers.specs.Servers.{Step, node_after, outputs_of}

-- a reply to a request with this origin
abbrev pub IsReplyOf : Body → Origin → Type 0
IsReplyOf (body.AppendReply o reply prev upto) p = o ≡ p
IsReplyOf (body.SnapshotReply o reply upto) p = o ≡ p
IsReplyOf _ p = ⊥

pub taking_replies : (b : Body) (o : Origin) → IsTaking b o → IsReplyOf b o
taking_replies (body.AppendReply x reply prev upto) o h = h.0
taking_replies (body.SnapshotReply x reply upto) o h = h.0
taking_replies _ o h = absurd h

-- a message that is sent in this turn
record IsSent (t : Turn) (m : Message) : Type 0 where
  asks : (o : Origin) → IsRequestOf m.body o → (m.from ≡ t.id) × (o.sent_at ≡ t.moment)
  answers : (o : Origin) → IsReplyOf m.body o → (q : Message) × (t.request ≡ Some q) × (m.to ≡ q.from) × IsRequestOf q.body o

module _ (t : Turn) where
  abbrev Sent : Effects (List Entry) → Type 0
  Sent w = AllByRecursion (IsSent t) w.records.bag

  -- the same message to each of some nodes: a request of now, or no leader's
  record IsNow (b : Body) : Type 0 where
    asks : (o : Origin) → IsRequestOf b o → o.sent_at ≡ t.moment
    no_reply : (o : Origin) → IsReplyOf b o → ⊥

  to_each_sent : (ids : List ℕ) (b : Body) → IsNow b → AllByRecursion (IsSent t) (to_each t.id ids b)
  to_each_sent [] b q = tt
  to_each_sent (i ∷ ids) b q = (record { asks = λ o h. (refl, q.asks o h); answers = λ o h. absurd (q.no_reply o h) }, to_each_sent ids b q)

  heartbeat_now : (s : ReplicationSessionId ℕ) (committed : Option (LogId ℕ)) → IsNow (heartbeat t s committed)
  heartbeat_now s committed = record { asks = λ o h. ap (λ (p : Origin). p.sent_at) (sym h); no_reply = λ o h. h }

  replication_now : (s : ReplicationSessionId ℕ) (w : WorldStore) (req : Inflight ℕ) → IsNow (replication t s w req)
  replication_now s w inflight.None = record { asks = λ o h. ap (λ (p : Origin). p.sent_at) (sym h); no_reply = λ o h. h }
  replication_now s w (inflight.Logs id range) = record { asks = λ o h. ap (λ (p : Origin). p.sent_at) (sym h); no_reply = λ o h. h }
  replication_now s w (inflight.Snapshot id last) = record { asks = λ o h. ap (λ (p : Origin). p.sent_at) (sym h); no_reply = λ o h. h }

  replies_sent : (r : WorldRespond) → AllByRecursion (IsSent t) (replies t r)
  replies_sent r = go t.request refl
    where
      each : (q : Message) → t.request ≡ Some q → (b : Body) → q.body ≡ b → (r : WorldRespond) → AllByRecursion (IsSent t) (map (λ (b : Body). let m : Message = record { from = t.id; to = q.from; body = b } in m) (option_to_list (reply_to b r)))
      each q e (body.VoteRequest x) k (respond.Vote r) = (record { asks = λ o h. absurd h; answers = λ o h. absurd h }, tt)
      each q e (body.AppendRequest o prev es c) k (respond.AppendEntries r) = (record { asks = λ p h. absurd h; answers = λ p h. (q, e, refl, subst (λ (b : Body). IsRequestOf b p) (sym k) h) }, tt)
      each q e (body.SnapshotRequest o s) k (respond.InstallFullSnapshot r) = (record { asks = λ p h. absurd h; answers = λ p h. (q, e, refl, subst (λ (b : Body). IsRequestOf b p) (sym k) h) }, tt)
      each q e _ k _ = tt

      go : (o : Option Message) → t.request ≡ o → AllByRecursion (IsSent t) (elim o as (λ _. List Message) [ None ↦ [] | Some m ↦ map (λ b. record { from = t.id; to = m.from; body = b }) (option_to_list (reply_to m.body r)) ])
      go None e = tt
      go (Some m) e = each m e m.body refl r

  sending_sent : (ms : List Message) (w : Effects (List Entry)) → AllByRecursion (IsSent t) ms → Sent w → Sent (sending ms w)
  sending_sent ms w q h = each_append (IsSent t) w.records.bag ms h q

  exec_sent : (e : EngineView) (c : WorldCommand) (w : Effects (List Entry)) → Sent w → Sent (exec whole_logs t e c w)
  exec_sent e (command.SaveVote v) w h = h
  exec_sent e (command.AppendInputEntries v es) w h = h
  exec_sent e (command.DeleteConflictLog since) w h = h
  exec_sent e (command.PurgeLog upto) w h = h
  exec_sent e (command.Commit seq already upto) w h = h
  exec_sent e (command.StateMachine c) w h = go c.payload
    where
      go : (p : WorldPayload) → Sent (exec_payload whole_logs t (command.StateMachine c) p w)
      go payload.BuildSnapshot = h
      go (payload.GetSnapshot x) = h
      go (payload.BeginReceivingSnapshot x) = h
      go (payload.InstallFullSnapshot s) = h
      go (payload.Apply x) = h
  exec_sent e (command.SendVote req) w h = sending_sent _ w (to_each_sent _ (body.VoteRequest req) (record { asks = λ o k. absurd k; no_reply = λ o k. k })) h
  exec_sent e (command.RebuildReplicationStreams targets) w h = h
  exec_sent e (command.Replicate target req) w h = go w.streams.session_id
    where
      go : (o : Option (ReplicationSessionId ℕ)) → Sent (elim o as (λ _. Effects (List Entry)) [ None ↦ w | Some s ↦ sending (to_each t.id (target ∷ []) (replication t s w.store req)) w ])
      go None = h
      go (Some s) = sending_sent _ w (to_each_sent (target ∷ []) (replication t s w.store req) (replication_now s w.store req)) h
  exec_sent e (command.ReplicateCommitted committed) w h = go w.streams.session_id
    where
      go : (o : Option (ReplicationSessionId ℕ)) → Sent (elim o as (λ _. Effects (List Entry)) [ None ↦ w | Some s ↦ replicate_committed whole_logs t committed s w ])
      go None = h
      go (Some s) = sending_sent (to_each t.id w.streams.targets (heartbeat t s committed)) w (to_each_sent w.streams.targets (heartbeat t s committed) (heartbeat_now s committed)) h
  exec_sent e (command.Respond when reply) w h = sending_sent (replies t reply) w (replies_sent reply) h
  exec_sent e command.BecomeLeader w h = h
  exec_sent e command.QuitLeader w h = h

  abbrev SentBy : Work (List Entry) → Type 0
  SentBy w = Sent w.effects

  done_sent : (w : Work (List Entry)) (e : EngineView) (c : WorldCommand) → SentBy w → SentBy (done_of whole_logs t w e c)
  done_sent w e c h = go (stops w.left)
    where
      go : (b : Bool) → SentBy (if b then stopped (exec whole_logs t e c w.effects) else record { engine = Some (feed t.moment c e); effects = exec whole_logs t e c w.effects; left = one_less w.left })
      go true = exec_sent e c w.effects h
      go false = exec_sent e c w.effects h

  step_sent : (w : Work (List Entry)) → SentBy w → SentBy (work_step whole_logs t w)
  step_sent w h = go w.engine
    where
      first : (e : EngineView) (cs : List WorldCommand) → SentBy (step_of whole_logs t w e (popped (record e.machine.core.output { items = cs })))
      first e [] = h
      first e (c ∷ cs) = done_sent w (with_queue e (record e.machine.core.output { items = cs })) c h

      go : (o : Option EngineView) → SentBy (elim o as (λ _. Work (List Entry)) [ None ↦ w | Some e ↦ step_of whole_logs t w e (popped e.machine.core.output) ])
      go None = h
      go (Some e) = first e e.machine.core.output.items

  worked_sent : (n : ℕ) (w : Work (List Entry)) → SentBy w → SentBy (worked whole_logs n t w)
  worked_sent n w h = worked-keeps whole_logs t SentBy n (λ w busy k. step_sent w k) w h

-- calls keep a node's moment
abbrev SameMoment : NodeView → NodeView → Type 0
SameMoment n m = m.moment ≡ n.moment

abbrev node_in : Option ℕ × NodeView → NodeView
node_in r = r.1

on_engine_moment : (f : EngineView → Option ℕ × EngineView) (n : NodeView) → SameMoment n (on_engine f n).1
on_engine_moment f n = go n.engine
  where
    go : (o : Option EngineView) → SameMoment n (node_in (elim o as (λ _. Option ℕ × NodeView) [ None ↦ (None, n) | Some e ↦ (let r = f e in (r.0, record n { engine = Some r.1 })) ]))
    go None = refl
    go (Some e) = refl

finish_moment : (n : NodeView) → SameMoment n (finish_snapshot n).1
finish_moment n = go n.engine n.noted
  where
    told : (es : List Entry) (e : EngineView) (o : Option (EngineError ℕ (Unit {0})))
        → SameMoment n (node_in (kept_built es n (answered o e (with_machine e (finish_building_snapshot nat_cmp e.config (meta_of entry_meaning es) e.machine)))))
    told es e None = refl
    told es e (Some k) = refl

    go : (o : Option EngineView) (p : Option (List Entry))
        → SameMoment n (node_in (elim o as (λ _. Option ℕ × NodeView) [ None ↦ (None, n) | Some e ↦ elim p as (λ _. Option ℕ × NodeView) [ None ↦ (None, n) | Some es ↦ kept_built es n (told_built es e) ] ]))
    go None p = refl
    go (Some e) None = refl
    go (Some e) (Some es) = told es e (refusals_of_spent e.machine)

calls_moment : (given : Given) (act : Act) (n : NodeView) → SameMoment n (calls_at given act n).1
calls_moment given Initialize n = on_engine_moment (initialized given.membership n.moment) n
calls_moment given (Elect candidates) n = on_engine_moment (elected n.moment) n
calls_moment given (Take m) n = on_engine_moment (deliver m.from m.body n.moment) n
calls_moment given (Propose values) n = on_engine_moment (proposed values) n
calls_moment given SendHeartbeat n = on_engine_moment heartbeats_sent n
calls_moment given (Fail target) n = on_engine_moment (failed target) n
calls_moment given TriggerSnapshot n = on_engine_moment snapshot_triggered n
calls_moment given FinishSnapshot n = finish_moment n
calls_moment given (TriggerPurge i) n = on_engine_moment (purge_triggered i) n
calls_moment given (Restart Plain) n = refl
calls_moment given (Restart Saved) n = refl
calls_moment given (Restart Bare) n = refl
calls_moment given (ChangeLearners learners) n = on_engine_moment (learners_changed learners) n
calls_moment given (ChangeMembership groups learners) n = on_engine_moment (membership_changed groups learners) n
calls_moment given Read n = on_engine_moment read_asked n
calls_moment given StepDown n = on_engine_moment stepped_down n
calls_moment given Stop n = refl

-- a message that a step sends
pub record IsFrom (n : NodeView) (s : Step) (moment : ℕ) (m : Message) : Type 0 where
  pub asks : (o : Origin) → IsRequestOf m.body o → (m.from ≡ n.id) × (o.sent_at ≤ moment)
  pub answers : (o : Origin) → IsReplyOf m.body o → (q : Message) × (s.act ≡ Take q) × (m.to ≡ q.from) × IsRequestOf q.body o

act_is : (a : Act) (q : Message) → requested a ≡ Some q → a ≡ Take q
act_is (Take m) q e = let z : m ≡ q = cc in ap Take z
act_is _ q e = cc

abbrev bag_in : Outcome × Scene (List Entry) → List Message
bag_in p = p.1.records.bag

abbrev moment_in : Outcome × Scene (List Entry) → ℕ
moment_in p = p.1.node.moment

module _ (given : Given) (n : NodeView) (s : Step) where
  abbrev in_step : Option SkipReason → Outcome × Scene (List Entry)
  in_step o =
      elim o as (λ _. Outcome × Scene (List Entry)) [
        | Some reason ↦ (Skipped reason, scene n no_records)
        | None ↦ finish whole_logs weight (turn_of s.act (record n { moment = max s.at n.moment })) None
            (calls {L = List Entry} given s.act (scene (record n { moment = max s.at n.moment }) no_records)).0 (calls {L = List Entry} given s.act (scene (record n { moment = max s.at n.moment }) no_records)).1
      ]

  pub step_sends : AllByRecursion (IsFrom n s (node_after given n s).moment) (outputs_of given n s).bag
  unfolding played finish
  step_sends = go (skip_reason s.act n)
    where
      of_turn : (t : Turn) → t.id ≡ n.id → t.request ≡ requested s.act → (moment : ℕ) → t.moment ≡ moment → (ms : List Message) → AllByRecursion (IsSent t) ms → AllByRecursion (IsFrom n s moment) ms
      of_turn t i r moment e [] h = tt
      of_turn t i r moment e (m ∷ ms) h = (
        record {
          asks = λ o k. let z = h.0.asks o k in (z.0 ∙ i, (let a = z.1 in omega (arith, a, e)));
          answers = λ o k. let z = h.0.answers o k in (z.0, act_is s.act z.0 (sym r ∙ z.1), z.2, z.3);
        },
        of_turn t i r moment e ms h.1,
      )

      go : (o : Option SkipReason) → AllByRecursion (IsFrom n s (moment_in (in_step o))) (bag_in (in_step o))
      go (Some reason) = tt
      go None =
          let t : Turn = turn_of s.act (record n { moment = max s.at n.moment }) in
          let w : Work (List Entry) = work_of None (calls {L = List Entry} given s.act (scene (record n { moment = max s.at n.moment }) no_records)).1 in
          of_turn t refl refl (calls_at given s.act (record n { moment = max s.at n.moment })).1.moment (sym (calls_moment given s.act (record n { moment = max s.at n.moment }))) (worked whole_logs (weight w) t w).effects.records.bag
          (worked_sent t (weight w) w tt)

  -- moments never go back
  pub step_rises : n.moment ≤ (node_after given n s).moment
  unfolding played finish
  step_rises = go (skip_reason s.act n)
    where
      go : (o : Option SkipReason) → n.moment ≤ moment_in (in_step o)
      go (Some reason) = omega arith
      go None = let z = calls_moment given s.act (record n { moment = max s.at n.moment }) in omega (arith, z)
