-- What a reply to an append or snapshot request tells of its node.
use Rattle.std.proofs.Common.{ℕ, zero, suc, ◌≡◌, ◌⊎◌, inl, inr, ⊎_elim, Bool, true, false, List, [], ◌∷◌, ◌++◌, refl, subst, Option, None, Some}
use Rattle.std.specs.Prelude.{IfSome, slice_get, if◌then◌else◌}
use Rattle.std.specs.List.{AllByRecursion}
use Rattle.proof_deeds.specs.raft_progress_entry.declared.entry.Inflight.{Inflight}
use Rattle.proof_deeds.specs.raft_progress_entry.declared.entry.Inflight.TheVariants as inflight
use Rattle.proof_deeds.specs.raft_command.declared.command.Command.TheVariants as command
use Rattle.proof_deeds.specs.raft_command.declared.replication.ReplicationSessionId.{ReplicationSessionId}
use Rattle.proof_deeds.specs.raft_command.declared.sm.CommandPayload.TheVariants as payload
use Rattle.proof_deeds.specs.raft_command.Queue.{popped}
use Rattle.proof_deeds.specs.raft_store.declared.entry.Entry.{Entry}
use Rattle.proof_deeds.specs.raft_store.Types.{EngineView, WorldCommand, WorldPayload, WorldStore}
use Rattle.proof_deeds.specs.raft_calls.declared.message.Body.{Body}
use Rattle.proof_deeds.specs.raft_calls.declared.message.Body.TheVariants as body
use Rattle.proof_deeds.specs.raft_calls.declared.message.Message.{Message}
use Rattle.proof_deeds.specs.raft_calls.declared.message.Origin.{Origin}
use Rattle.proof_deeds.specs.raft_node.declared.node.Turn.{Turn}
use Rattle.proof_deeds.specs.raft_node.Execute.{Effects, exec, exec_payload, heartbeat, replicate_committed, replication, replies, sending, to_each}
use Rattle.proof_deeds.specs.raft_calls.Feeds.{feed}
use Rattle.proof_deeds.specs.raft_node.Runs.{whole_logs}
use Rattle.proof_deeds.specs.raft_node.Work.{Work, done_of, one_less, step_of, stopped, stops, work_step, worked}
use Rattle.proof_deeds.specs.raft_calls.Engines.{with_queue}
use Rattle.proof_deeds.proofs.raft_node_proofs.Worked.{worked-keeps}
use Rattle.proof_clients.specs.Reads.{IsTaking}

-- an entry of two lists is the first one's, or what holds of the second one's entries holds of it
either_slot : {X : Type 0} (P : X → Type 0) (xs ys : List X) → AllByRecursion P ys → (i : ℕ) (x : X) → slice_get (xs ++ ys) i ≡ Some x → (slice_get xs i ≡ Some x) ⊎ P x
either_slot P [] [] a i x e = cc
either_slot P [] (y ∷ ys) a zero x e = inr (let z : y ≡ x = cc in subst P z a.0)
either_slot P [] (y ∷ ys) a (suc i) x e = ⊎_elim (λ (k : slice_get [] i ≡ Some x). absurd (let z : ⊥ = cc in z)) (λ p. inr p) (either_slot P [] ys a.1 i x e)
either_slot P (z ∷ xs) ys a zero x e = inl e
either_slot P (z ∷ xs) ys a (suc i) x e = either_slot P xs ys a i x e

-- what replies to append and snapshot requests tell, by node and request, unless they tell a higher vote
module _ (T : ℕ → Origin → Type 0) where
  abbrev pub TellsIn : ℕ → Body → Type 0
  TellsIn n b = (o : Origin) → IsTaking b o → T n o

  abbrev pub Tells : Message → Type 0
  Tells m = TellsIn m.from m.body

  module _ (old : List Message) where
    abbrev Bag : List Message → Type 0
    Bag ms = (i : ℕ) (m : Message) → slice_get ms i ≡ Some m → (slice_get old i ≡ Some m) ⊎ Tells m

    abbrev BagOf : Effects (List Entry) → Type 0
    BagOf w = Bag w.records.bag

    to_each_tell : (id : ℕ) (ids : List ℕ) (b : Body) → TellsIn id b → AllByRecursion Tells (to_each id ids b)
    to_each_tell id [] b q = tt
    to_each_tell id (i ∷ ids) b q = (q, to_each_tell id ids b q)

    sending_tells : (ms : List Message) (w : Effects (List Entry)) → AllByRecursion Tells ms → BagOf w → BagOf (sending ms w)
    sending_tells ms w q h i m e = ⊎_elim (λ k. h i m k) (λ p. inr p) (either_slot Tells w.records.bag ms q i m e)

    replication_tells : (t : Turn) (s : ReplicationSessionId ℕ) (w : WorldStore) (req : Inflight ℕ) → TellsIn t.id (replication t s w req)
    replication_tells t s w inflight.None = λ o k. absurd k
    replication_tells t s w (inflight.Logs id range) = λ o k. absurd k
    replication_tells t s w (inflight.Snapshot id last) = λ o k. absurd k

    module _ (t : Turn) where
      abbrev pub Replies : WorldCommand → Type 0
      Replies (command.Respond when reply) = AllByRecursion Tells (replies t reply)
      Replies _ = Unit {0}

      exec_tells : (e : EngineView) (c : WorldCommand) (w : Effects (List Entry)) → Replies c → BagOf w → BagOf (exec whole_logs t e c w)
      exec_tells e (command.SaveVote v) w g h = h
      exec_tells e (command.AppendInputEntries v es) w g h = h
      exec_tells e (command.DeleteConflictLog since) w g h = h
      exec_tells e (command.PurgeLog upto) w g h = h
      exec_tells e (command.Commit seq already upto) w g h = h
      exec_tells e (command.StateMachine c) w g h = go c.payload
        where
          go : (p : WorldPayload) → BagOf (exec_payload whole_logs t (command.StateMachine c) p w)
          go payload.BuildSnapshot = h
          go (payload.GetSnapshot x) = h
          go (payload.BeginReceivingSnapshot x) = h
          go (payload.InstallFullSnapshot s) = h
          go (payload.Apply x) = h
      exec_tells e (command.SendVote req) w g h = sending_tells _ w (to_each_tell t.id _ (body.VoteRequest req) (λ o k. absurd k)) h
      exec_tells e (command.RebuildReplicationStreams targets) w g h = h
      exec_tells e (command.Replicate target req) w g h = go w.streams.session_id
        where
          go : (o : Option (ReplicationSessionId ℕ)) → BagOf (elim o as (λ _. Effects (List Entry)) [ None ↦ w | Some s ↦ sending (to_each t.id (target ∷ []) (replication t s w.store req)) w ])
          go None = h
          go (Some s) = sending_tells _ w (to_each_tell t.id (target ∷ []) (replication t s w.store req) (replication_tells t s w.store req)) h
      exec_tells e (command.ReplicateCommitted committed) w g h = go w.streams.session_id
        where
          go : (o : Option (ReplicationSessionId ℕ)) → BagOf (elim o as (λ _. Effects (List Entry)) [ None ↦ w | Some s ↦ replicate_committed whole_logs t committed s w ])
          go None = h
          go (Some s) = sending_tells (to_each t.id w.streams.targets (heartbeat t s committed)) w (to_each_tell t.id w.streams.targets (heartbeat t s committed) (λ o k. absurd k)) h
      exec_tells e (command.Respond when reply) w g h = sending_tells (replies t reply) w g h
      exec_tells e command.BecomeLeader w g h = h
      exec_tells e command.QuitLeader w g h = h

      -- a queue of such commands, which feed no others
      module _ (C : WorldCommand → Type 0) (tells : (c : WorldCommand) → C c → Replies c) (feeds : (c : WorldCommand) (e : EngineView) → C c → AllByRecursion C e.machine.core.output.items → AllByRecursion C (feed t.moment c e).machine.core.output.items) where
        abbrev Queued : EngineView → Type 0
        Queued e = AllByRecursion C e.machine.core.output.items

        pub record Telling (w : Work (List Entry)) : Type 0 where
          pub engine : IfSome w.engine Queued
          pub bag : BagOf w.effects

        done_tells : (w : Work (List Entry)) (e : EngineView) (c : WorldCommand) → C c → Queued e → BagOf w.effects → Telling (done_of whole_logs t w e c)
        done_tells w e c g k h = go (stops w.left)
          where
            go : (b : Bool) → Telling (if b then stopped (exec whole_logs t e c w.effects) else record { engine = Some (feed t.moment c e); effects = exec whole_logs t e c w.effects; left = one_less w.left })
            go true = record { engine = tt; bag = exec_tells e c w.effects (tells c g) h }
            go false = record { engine = feeds c e g k; bag = exec_tells e c w.effects (tells c g) h }

        step_tells : (w : Work (List Entry)) → Telling w → Telling (work_step whole_logs t w)
        step_tells w h = go w.engine h.engine
          where
            first : (e : EngineView) (cs : List WorldCommand) → e.machine.core.output.items ≡ cs → Queued e → Telling (step_of whole_logs t w e (popped (record e.machine.core.output { items = cs })))
            first e [] q k = h
            first e (c ∷ cs) q k = let a : AllByRecursion C (c ∷ cs) = subst (AllByRecursion C) q k in done_tells w (with_queue e (record e.machine.core.output { items = cs })) c a.0 a.1 h.bag

            go : (o : Option EngineView) → IfSome o Queued → Telling (elim o as (λ _. Work (List Entry)) [ None ↦ w | Some e ↦ step_of whole_logs t w e (popped e.machine.core.output) ])
            go None k = h
            go (Some e) k = first e e.machine.core.output.items refl k

        pub worked_tells : (n : ℕ) (w : Work (List Entry)) → Telling w → Telling (worked whole_logs n t w)
        worked_tells n w h = worked-keeps whole_logs t Telling n (λ w busy k. step_tells w k) w h
