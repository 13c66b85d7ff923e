-- A node works off a queue that feeds nothing back to its engine.
use Rattle.std.proofs.Common.{ℕ, zero, suc, ◌+◌, ◌-◌, ◌≡◌, inl, inr, Bool, true, cond, List, [], ◌∷◌, ◌++◌, filter, length, arith, refl, sym, ap, ◌∙◌, subst, Option, None, Some}
use Rattle.std.specs.Prelude.{if◌then◌else◌, nat_eq, nat_lt, slice_get, false}
use Rattle.std.proofs.lemmas.Bool.Decides.{nat_tests}
use Rattle.std.proofs.lemmas.List.{append-nil}
use Rattle.std.specs.List.{AllByRecursion}
use Rattle.proof_deeds.specs.raft_state.declared.ids.LogId.{LogId}
use Rattle.proof_deeds.specs.raft_progress_entry.declared.entry.Inflight.{Inflight}
use Rattle.proof_deeds.specs.raft_command.declared.command.Command.TheVariants as command
use Rattle.proof_deeds.specs.raft_command.declared.replication.ReplicationSessionId.{ReplicationSessionId}
use Rattle.proof_deeds.proofs.raft_steps_proofs.LawsQueue.{append_append}
use Rattle.proof_deeds.specs.raft_store.declared.entry.Entry.{Entry}
use Rattle.proof_deeds.specs.raft_store.Types.{EngineView, WorldCommand, WorldPayload, WorldStore}
use Rattle.proof_deeds.specs.raft_calls.declared.message.Message.{Message}
use Rattle.proof_deeds.specs.raft_node.declared.node.Streams.{Streams}
use Rattle.proof_deeds.specs.raft_node.declared.node.Turn.{Turn}
use Rattle.proof_deeds.specs.raft_node.Execute.{exec, exec_payload, heartbeat, replicate_committed, replication, sending, to_each}
use Rattle.proof_deeds.specs.raft_calls.Feeds.{feed}
use Rattle.proof_deeds.specs.raft_node.Events.{message_at}
use Rattle.proof_deeds.specs.raft_node.Runs.{whole_logs}
use Rattle.proof_deeds.specs.raft_node.Work.{Work, weight, work_step, worked}
use Rattle.proof_deeds.proofs.raft_node_proofs.InTurnSteps.{Turns, exec_turns}
use Rattle.proof_deeds.proofs.raft_node_proofs.Worked.{worked-idle, worked-step}
use Rattle.proof_progress.specs.Elections.{Listed}
use Rattle.proof_progress.specs.Exchanges.{HasEntry, IsLeft}
use Rattle.proof_progress.proofs.Messages.{request_number}
use Rattle.proof_progress.proofs.LedQueue.{IsLedCommand, Tells}
use Rattle.proof_progress.proofs.Works.{Effected, at_work, queueing}

-- a command that feeds nothing back to this engine
abbrev pub FeedsNothing : ℕ → EngineView → WorldCommand → Type 0
FeedsNothing now e c = (cs : List WorldCommand) → feed now c (queueing e cs) ≡ queueing e cs

-- so are those of a leader that handles an answer
pub led_feeds : (now : ℕ) (e : EngineView) (c : WorldCommand) → IsLedCommand c → FeedsNothing now e c
led_feeds now e (command.Commit seq already upto) h = λ cs. refl
led_feeds now e (command.StateMachine c) h = λ cs. refl
led_feeds now e (command.PurgeLog upto) h = λ cs. refl
led_feeds now e (command.Replicate target f) h = λ cs. refl
led_feeds now e (command.ReplicateCommitted x) h = λ cs. refl
led_feeds now e (command.SaveVote v) h = absurd h
led_feeds now e (command.AppendInputEntries v es) h = absurd h
led_feeds now e (command.DeleteConflictLog since) h = absurd h
led_feeds now e (command.SendVote req) h = absurd h
led_feeds now e (command.RebuildReplicationStreams targets) h = absurd h
led_feeds now e (command.Respond when reply) h = absurd h
led_feeds now e command.BecomeLeader h = absurd h
led_feeds now e command.QuitLeader h = absurd h

-- and all commands, if the engine neither leads nor stands
pub still_feeds : (now : ℕ) (e : EngineView) → e.machine.leader ≡ None → e.machine.candidate ≡ None → (c : WorldCommand) → FeedsNothing now e c
still_feeds now e l k (command.SaveVote v) = λ cs. rw k refl
still_feeds now e l k (command.AppendInputEntries v es) = λ cs. rw l refl
still_feeds now e l k (command.Commit seq already upto) = λ cs. refl
still_feeds now e l k (command.StateMachine c) = λ cs. refl
still_feeds now e l k (command.PurgeLog upto) = λ cs. refl
still_feeds now e l k (command.Replicate target f) = λ cs. refl
still_feeds now e l k (command.ReplicateCommitted x) = λ cs. refl
still_feeds now e l k (command.DeleteConflictLog since) = λ cs. refl
still_feeds now e l k (command.SendVote req) = λ cs. refl
still_feeds now e l k (command.RebuildReplicationStreams targets) = λ cs. refl
still_feeds now e l k (command.Respond when reply) = λ cs. refl
still_feeds now e l k command.BecomeLeader = λ cs. refl
still_feeds now e l k command.QuitLeader = λ cs. refl

pub each_feeds : (P : WorldCommand → Type 0) (now : ℕ) (e : EngineView) → ((c : WorldCommand) → P c → FeedsNothing now e c) → (cs : List WorldCommand) → AllByRecursion P cs → AllByRecursion (FeedsNothing now e) cs
each_feeds P now e f [] h = tt
each_feeds P now e f (c ∷ cs) h = (f c h.0, each_feeds P now e f cs h.1)

pub all_feed : (now : ℕ) (e : EngineView) → ((c : WorldCommand) → FeedsNothing now e c) → (cs : List WorldCommand) → AllByRecursion (FeedsNothing now e) cs
all_feed now e f [] = tt
all_feed now e f (c ∷ cs) = (f c, all_feed now e f cs)

-- a command that sends nothing
abbrev pub SendsNothing : WorldCommand → Type 0
SendsNothing c = (t : Turn) (e : EngineView) (E : Effected) → (exec whole_logs t e c E).records.bag ≡ E.records.bag

-- a message stays, as more are sent
pub message_stays : (bag more : List Message) (k : ℕ) (m : Message) → message_at bag k ≡ Some m → message_at (bag ++ more) k ≡ Some m
message_stays bag more k m h = go (nat_eq k 0) h
  where
    left : (xs : List Message) (i : ℕ) → slice_get xs i ≡ Some m → slice_get (xs ++ more) i ≡ Some m
    left [] i q = cc
    left (x ∷ xs) zero q = q
    left (x ∷ xs) (suc i) q = left xs i q

    go : (b : Bool) → (if b then None else slice_get bag (k - 1)) ≡ Some m → (if b then None else slice_get (bag ++ more) (k - 1)) ≡ Some m
    go true q = cc
    go false q = left bag (k - 1) q

-- What is left of a store

pub left_itself : (s : WorldStore) → IsLeft s s
left_itself s = record { snap = refl; log = λ p h. h }

pub left_then : {r s t : WorldStore} → IsLeft r s → IsLeft s t → IsLeft r t
left_then h k = record { snap = k.snap ∙ h.snap; log = λ p q. h.log p (k.log p q) }

pub filtered : (f : ℕ × Entry → Bool) (log : List (ℕ × Entry)) (p : ℕ × Entry) → HasEntry (filter f log) p → HasEntry log p
filtered f [] p h = absurd h
filtered f (x ∷ xs) p h = go (f x) (filtered f xs p) h
  where
    go : (b : Bool) → (HasEntry (filter f xs) p → HasEntry xs p) → HasEntry (cond b (x ∷ filter f xs) (filter f xs)) p → HasEntry (x ∷ xs) p
    go true g (inl q) = inl q
    go true g (inr q) = inr (g q)
    go false g q = inr (g q)

module _ (t : Turn) (e : EngineView) where
  -- commands are executed, one after another
  abbrev pub exec_each : List WorldCommand → Effected → Effected
  exec_each [] E = E
  exec_each (c ∷ cs) E = exec_each cs (exec whole_logs t e c E)

  -- whatever is queued behind
  exec_same : (c : WorldCommand) (cs : List WorldCommand) (E : Effected) → exec whole_logs t (queueing e cs) c E ≡ exec whole_logs t e c E
  exec_same (command.SaveVote v) cs E = refl
  exec_same (command.AppendInputEntries v es) cs E = refl
  exec_same (command.Commit seq already upto) cs E = refl
  exec_same (command.StateMachine c) cs E = refl
  exec_same (command.PurgeLog upto) cs E = refl
  exec_same (command.Replicate target f) cs E = refl
  exec_same (command.ReplicateCommitted x) cs E = refl
  exec_same (command.DeleteConflictLog since) cs E = refl
  exec_same (command.SendVote req) cs E = refl
  exec_same (command.RebuildReplicationStreams targets) cs E = refl
  exec_same (command.Respond when reply) cs E = refl
  exec_same command.BecomeLeader cs E = refl
  exec_same command.QuitLeader cs E = refl

  busy : (n : ℕ) → nat_eq (suc n) 0 ≡ false
  busy n = grind (arith, nat_tests)

  pub works_off : (cs : List WorldCommand) (E : Effected) → AllByRecursion (FeedsNothing t.moment e) cs
      → worked whole_logs (weight (at_work (queueing e cs) E)) t (at_work (queueing e cs) E) ≡ at_work (queueing e []) (exec_each cs E)
  works_off [] E h = worked-idle whole_logs t (at_work (queueing e []) E) refl
  works_off (c ∷ cs) E h =
      sym (worked-step whole_logs t (at_work (queueing e (c ∷ cs)) E) (busy (length cs)))
      ∙ (ap (λ (w : Work (List Entry)). worked whole_logs (weight w) t w) step ∙ works_off cs (exec whole_logs t e c E) h.1)
    where
      step : work_step whole_logs t (at_work (queueing e (c ∷ cs)) E) ≡ at_work (queueing e cs) (exec whole_logs t e c E)
      step = ap (λ (f : EngineView). at_work f (exec whole_logs t (queueing e cs) c E)) (h.0 cs) ∙ ap (at_work (queueing e cs)) (exec_same c cs E)

  pub exec_both : (xs ys : List WorldCommand) (E : Effected) → exec_each (xs ++ ys) E ≡ exec_each ys (exec_each xs E)
  exec_both [] ys E = refl
  exec_both (x ∷ xs) ys E = exec_both xs ys (exec whole_logs t e x E)

  -- the bag only grows
  pub bag_grows : (cs : List WorldCommand) (E : Effected) → (more : List Message) × ((exec_each cs E).records.bag ≡ E.records.bag ++ more)
  bag_grows [] E = ([], sym (append-nil E.records.bag))
  bag_grows (c ∷ cs) E =
      let k : Turns c E (exec whole_logs t e c E) = exec_turns whole_logs t e c E in
      let r = bag_grows cs (exec whole_logs t e c E) in
      (k.sent ++ r.0, r.1 ∙ (ap (λ (b : List Message). b ++ r.0) k.bag ∙ append_append E.records.bag k.sent r.0))

  -- and not by commands that send nothing
  pub none_sent : (cs : List WorldCommand) → AllByRecursion SendsNothing cs → (E : Effected) → (exec_each cs E).records.bag ≡ E.records.bag
  none_sent [] h E = refl
  none_sent (c ∷ cs) h E = none_sent cs h.1 (exec whole_logs t e c E) ∙ h.0 t e E

  -- the streams stay, by the commands of a leader that handles an answer
  streams_stay : (c : WorldCommand) → IsLedCommand c → (E : Effected) → (exec whole_logs t e c E).streams ≡ E.streams
  streams_stay (command.Commit seq already upto) h E = refl
  streams_stay (command.StateMachine c) h E = ap (λ (p : WorldPayload). (exec_payload whole_logs t (command.StateMachine c) p E).streams) h
  streams_stay (command.PurgeLog upto) h E = refl
  streams_stay (command.Replicate target f) h E = go E.streams.session_id
    where
      go : (o : Option (ReplicationSessionId ℕ)) → (let F : Effected = elim o as (λ _. Effected) [ None ↦ E | Some s ↦ sending (to_each t.id (target ∷ []) (replication t s E.store f)) E ] in F.streams ≡ E.streams)
      go None = refl
      go (Some s) = refl
  streams_stay (command.ReplicateCommitted x) h E = go E.streams.session_id
    where
      go : (o : Option (ReplicationSessionId ℕ)) → (let F : Effected = elim o as (λ _. Effected) [ None ↦ E | Some s ↦ replicate_committed whole_logs t x s E ] in F.streams ≡ E.streams)
      go None = refl
      go (Some s) = refl
  streams_stay (command.SaveVote v) h E = absurd h
  streams_stay (command.AppendInputEntries v es) h E = absurd h
  streams_stay (command.DeleteConflictLog since) h E = absurd h
  streams_stay (command.SendVote req) h E = absurd h
  streams_stay (command.RebuildReplicationStreams targets) h E = absurd h
  streams_stay (command.Respond when reply) h E = absurd h
  streams_stay command.BecomeLeader h E = absurd h
  streams_stay command.QuitLeader h E = absurd h

  -- and so is the store left
  left_by : (c : WorldCommand) → IsLedCommand c → (E : Effected) → IsLeft E.store (exec whole_logs t e c E).store
  left_by (command.Commit seq already upto) h E = record { snap = refl; log = λ p k. k }
  left_by (command.StateMachine c) h E = subst (λ (p : WorldPayload). IsLeft E.store (exec_payload whole_logs t (command.StateMachine c) p E).store) (sym h) (left_itself E.store)
  left_by (command.PurgeLog upto) h E = record { snap = refl; log = filtered (λ (p : ℕ × Entry). nat_lt upto.index p.0) E.store.log }
  left_by (command.Replicate target f) h E = go E.streams.session_id
    where
      go : (o : Option (ReplicationSessionId ℕ)) → (let F : Effected = elim o as (λ _. Effected) [ None ↦ E | Some s ↦ sending (to_each t.id (target ∷ []) (replication t s E.store f)) E ] in IsLeft E.store F.store)
      go None = left_itself E.store
      go (Some s) = left_itself E.store
  left_by (command.ReplicateCommitted x) h E = go E.streams.session_id
    where
      go : (o : Option (ReplicationSessionId ℕ)) → (let F : Effected = elim o as (λ _. Effected) [ None ↦ E | Some s ↦ replicate_committed whole_logs t x s E ] in IsLeft E.store F.store)
      go None = left_itself E.store
      go (Some s) = left_itself E.store
  left_by (command.SaveVote v) h E = absurd h
  left_by (command.AppendInputEntries v es) h E = absurd h
  left_by (command.DeleteConflictLog since) h E = absurd h
  left_by (command.SendVote req) h E = absurd h
  left_by (command.RebuildReplicationStreams targets) h E = absurd h
  left_by (command.Respond when reply) h E = absurd h
  left_by command.BecomeLeader h E = absurd h
  left_by command.QuitLeader h E = absurd h

  pub left_by_all : (cs : List WorldCommand) → AllByRecursion IsLedCommand cs → (E : Effected) → IsLeft E.store (exec_each cs E).store
  left_by_all [] h E = left_itself E.store
  left_by_all (c ∷ cs) h E = left_then (left_by c h.0 E) (left_by_all cs h.1 (exec whole_logs t e c E))

  pub all_streams_stay : (cs : List WorldCommand) → AllByRecursion IsLedCommand cs → (E : Effected) → (exec_each cs E).streams ≡ E.streams
  all_streams_stay [] h E = refl
  all_streams_stay (c ∷ cs) h E = all_streams_stay cs h.1 (exec whole_logs t e c E) ∙ streams_stay c h.0 E

  -- a request is sent in the session of the streams
  pub request_sent : (target : ℕ) (f : Inflight ℕ) (s : ReplicationSessionId ℕ) (E : Effected) → E.streams.session_id ≡ Some s
      → exec whole_logs t e (command.Replicate target f) E ≡ sending (record { from = t.id; to = target; body = replication t s E.store f } ∷ []) E
  request_sent target f s E h = go E.streams.session_id h
    where
      go : (o : Option (ReplicationSessionId ℕ)) → o ≡ Some s
          → elim o as (λ _. Effected) [ None ↦ E | Some s ↦ sending (to_each t.id (target ∷ []) (replication t s E.store f)) E ] ≡ sending (record { from = t.id; to = target; body = replication t s E.store f } ∷ []) E
      go None q = cc
      go (Some z) q = let w : z ≡ s = cc in ap (λ (s : ReplicationSessionId ℕ). sending (record { from = t.id; to = target; body = replication t s E.store f } ∷ []) E) w

  -- a committed id that is told is on its way to each target
  abbrev IsSent : List WorldCommand → Effected → ReplicationSessionId ℕ → Option (LogId ℕ) → ℕ → Type 0
  IsSent cs E s o u = (j : ℕ) × (message_at (exec_each cs E).records.bag j ≡ Some (record { from = t.id; to = u; body = heartbeat t s o }))

  told_now : (cs : List WorldCommand) (E : Effected) (s : ReplicationSessionId ℕ) → E.streams.session_id ≡ Some s → (o : Option (LogId ℕ)) (u : ℕ) → Listed E.streams.targets u → IsSent cs (exec whole_logs t e (command.ReplicateCommitted o) E) s o u
  told_now cs E s q o u l = after (sent E.streams.session_id q)
    where
      sent : (p : Option (ReplicationSessionId ℕ)) → p ≡ Some s
          → (let F : Effected = elim p as (λ _. Effected) [ None ↦ E | Some s ↦ replicate_committed whole_logs t o s E ] in (j : ℕ) × (message_at F.records.bag j ≡ Some (record { from = t.id; to = u; body = heartbeat t s o })))
      sent None z = cc
      sent (Some r) z =
          let w : s ≡ r = cc in
          let k = request_number E.records.bag t.id (heartbeat t s o) E.streams.targets u l in
          (length E.records.bag + k.0 + 1, subst (λ (r : ReplicationSessionId ℕ). message_at (replicate_committed whole_logs t o r E).records.bag (length E.records.bag + k.0 + 1) ≡ Some (record { from = t.id; to = u; body = heartbeat t s o })) w k.1)

      after : (j : ℕ) × (message_at (exec whole_logs t e (command.ReplicateCommitted o) E).records.bag j ≡ Some (record { from = t.id; to = u; body = heartbeat t s o })) → IsSent cs (exec whole_logs t e (command.ReplicateCommitted o) E) s o u
      after r =
          let g = bag_grows cs (exec whole_logs t e (command.ReplicateCommitted o) E) in
          (r.0, ap (λ (b : List Message). message_at b r.0) g.1 ∙ message_stays (exec whole_logs t e (command.ReplicateCommitted o) E).records.bag g.0 r.0 (record { from = t.id; to = u; body = heartbeat t s o }) r.1)

  -- at its turn, or later
  told_or : (c : WorldCommand) (cs : List WorldCommand) → IsLedCommand c → (E : Effected) (s : ReplicationSessionId ℕ) → E.streams.session_id ≡ Some s → (o : Option (LogId ℕ)) → Tells (c ∷ cs) o → (u : ℕ) → Listed E.streams.targets u
      → (Tells cs o → IsSent cs (exec whole_logs t e c E) s o u) → IsSent cs (exec whole_logs t e c E) s o u
  told_or (command.ReplicateCommitted y) cs i E s q o (inl z) u l f =
      subst (λ (y : Option (LogId ℕ)). IsSent cs (exec whole_logs t e (command.ReplicateCommitted y) E) s o u) (sym z) (told_now cs E s q o u l)
  told_or (command.ReplicateCommitted y) cs i E s q o (inr m) u l f = f m
  told_or (command.Commit seq already upto) cs i E s q o m u l f = f m
  told_or (command.StateMachine c) cs i E s q o m u l f = f m
  told_or (command.PurgeLog upto) cs i E s q o m u l f = f m
  told_or (command.Replicate target g) cs i E s q o m u l f = f m
  told_or (command.SaveVote v) cs i E s q o m u l f = absurd i
  told_or (command.AppendInputEntries v es) cs i E s q o m u l f = absurd i
  told_or (command.DeleteConflictLog since) cs i E s q o m u l f = absurd i
  told_or (command.SendVote req) cs i E s q o m u l f = absurd i
  told_or (command.RebuildReplicationStreams targets) cs i E s q o m u l f = absurd i
  told_or (command.Respond when reply) cs i E s q o m u l f = absurd i
  told_or command.BecomeLeader cs i E s q o m u l f = absurd i
  told_or command.QuitLeader cs i E s q o m u l f = absurd i

  pub tells_sent : (cs : List WorldCommand) → AllByRecursion IsLedCommand cs → (E : Effected) (s : ReplicationSessionId ℕ) → E.streams.session_id ≡ Some s → (o : Option (LogId ℕ)) → Tells cs o → (u : ℕ) → Listed E.streams.targets u
      → (j : ℕ) × (message_at (exec_each cs E).records.bag j ≡ Some (record { from = t.id; to = u; body = heartbeat t s o }))
  tells_sent [] h E s q o k u l = absurd k
  tells_sent (c ∷ cs) h E s q o k u l =
      told_or c cs h.0 E s q o k u l
      (λ m. tells_sent cs h.1 (exec whole_logs t e c E) s (ap (λ (x : Streams). x.session_id) (streams_stay c h.0 E) ∙ q) o m u (subst (λ (x : Streams). Listed x.targets u) (sym (streams_stay c h.0 E)) l))
