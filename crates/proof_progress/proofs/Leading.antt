-- A node that leads goes on as it works off its queue, and is recorded as established.
use Rattle.std.proofs.Common.{ℕ, zero, suc, ◌≡◌, Bool, true, false, List, [], ◌∷◌, ◌++◌, length, arith, refl, sym, ap, ◌∙◌, subst, Option, None, Some}
use Rattle.std.specs.Prelude.{if◌then◌else◌, nat_eq, slice_get}
use Rattle.std.proofs.lemmas.Bool.Decides.{nat_tests}
use Rattle.std.specs.Ordering.{is_eq, is_ge, nat_cmp}
use Rattle.proof_deeds.specs.raft_state.declared.ids.LogId.{LogId}
use Rattle.proof_deeds.specs.raft_state.declared.ids.Vote.{Vote}
use Rattle.proof_deeds.specs.raft_state.Order.{last_id_cmp, vote_cmp}
use Rattle.proof_deeds.specs.raft_progress.Table.{get}
use Rattle.proof_deeds.specs.raft_progress_entry.declared.entry.ProgressEntry.{ProgressEntry}
use Rattle.proof_deeds.specs.raft_error.declared.error.EngineError.{EngineError}
use Rattle.proof_deeds.specs.raft_command.declared.command.Command.TheVariants as command
use Rattle.proof_deeds.specs.raft_command.declared.config.EngineConfig.{EngineConfig}
use Rattle.proof_deeds.specs.raft_command.declared.sm.CommandPayload.TheVariants as payload
use Rattle.proof_deeds.specs.raft_command.declared.replication.ReplicationSessionId.{ReplicationSessionId}
use Rattle.proof_deeds.specs.raft_command.Queue.{Queue, popped}
use Rattle.proof_deeds.specs.raft_steps.Parts.{led_of, leading}
use Rattle.proof_deeds.specs.raft_steps.Refusals.{refusals_of_local_progress}
use Rattle.proof_deeds.specs.raft_steps.ReplicationHandler.{commit_granted, own_matched, update_local_progress, with_entry}
use Rattle.proof_deeds.specs.raft_store.declared.entry.Entry.{Entry}
use Rattle.proof_deeds.specs.raft_store.Store.{whole}
use Rattle.proof_deeds.specs.raft_store.Types.{EngineView, WorldCandidate, WorldCommand, WorldLeader, WorldPayload}
use Rattle.proof_deeds.specs.raft_node.declared.node.Turn.{Turn}
use Rattle.proof_deeds.specs.raft_node.declared.record.Established.{Established}
use Rattle.proof_deeds.specs.raft_node.Execute.{exec, exec_payload}
use Rattle.proof_deeds.specs.raft_calls.Feeds.{last_sent, WorldLed, called, feed, hold_own}
use Rattle.proof_deeds.specs.raft_node.Runs.{whole_logs}
use Rattle.proof_deeds.specs.raft_node.Work.{Work, step_of, weight, work_step, worked}
use Rattle.proof_deeds.specs.raft_calls.Engines.{with_queue}
use Rattle.proof_deeds.proofs.raft_node_proofs.Worked.{worked-keeps, worked-step}
use Rattle.proof_progress.proofs.Wins.{Won}
use Rattle.proof_progress.proofs.Works.{Effected, at_work}

-- an engine that leads by a vote
pub record LeadsBy (v : Vote ℕ) (e : EngineView) : Type 0 where
  pub leader : WorldLeader
  pub leads : e.machine.leader ≡ Some leader
  pub by : leader.vote ≡ v
  pub alone : e.machine.candidate ≡ None

pub local_vote : (config : EngineConfig ℕ) (x : Option (LogId ℕ)) (l : WorldLed) → (update_local_progress nat_cmp config x l).leader.vote ≡ l.leader.vote
unfolding update_local_progress
local_vote config None l = refl
local_vote config (Some x) l = go (get nat_cmp l.leader.progress config.id)
  where
    vote_in : WorldLed → Vote ℕ
    vote_in k = k.leader.vote

    of : (b : Bool) (e : ProgressEntry ℕ) → vote_in (if b then l else commit_granted nat_cmp config (with_entry nat_cmp l config.id (own_matched nat_cmp (Some x) e))) ≡ l.leader.vote
    of true e = refl
    of false e = refl

    go : (o : Option (ProgressEntry ℕ)) → vote_in (elim o [ None ↦ l | Some e ↦ (if is_ge (last_id_cmp nat_cmp e.matching (Some x)) then l else commit_granted nat_cmp config (with_entry nat_cmp l config.id (own_matched nat_cmp (Some x) e))) ]) ≡ l.leader.vote
    go None = refl
    go (Some e) = of (is_ge (last_id_cmp nat_cmp e.matching (Some x))) e

module _ (v : Vote ℕ) (e : EngineView) (h : LeadsBy v e) where
  held_leads : (x : Option (LogId ℕ)) → LeadsBy v (hold_own x h.leader e)
  held_leads x = go (refusals_of_local_progress nat_cmp e.config x (led_of h.leader e.machine.core.state e.machine.core.output))
    where
      go : (r : Option (EngineError ℕ (Unit {0}))) → LeadsBy v (called r e (leading e.machine (update_local_progress nat_cmp e.config x (led_of h.leader e.machine.core.state e.machine.core.output))))
      go None = record { leader = _; leads = refl; by = local_vote e.config x (led_of h.leader e.machine.core.state e.machine.core.output) ∙ h.by; alone = h.alone }
      go (Some r) = h

  pub fed_leads : (now : ℕ) (c : WorldCommand) → LeadsBy v (feed now c e)
  fed_leads now (command.SaveVote w) = rw h.alone h
  fed_leads now (command.AppendInputEntries w es) =
      rw h.leads (go (is_eq (vote_cmp nat_cmp h.leader.vote w)))
    where
      go : (b : Bool) → LeadsBy v (if b then hold_own (last_sent None es) h.leader e else e)
      go true = held_leads (last_sent None es)
      go false = h
  fed_leads now (command.DeleteConflictLog since) = h
  fed_leads now (command.PurgeLog upto) = h
  fed_leads now (command.Commit seq already upto) = h
  fed_leads now (command.StateMachine c) = h
  fed_leads now (command.SendVote req) = h
  fed_leads now (command.RebuildReplicationStreams targets) = h
  fed_leads now (command.Replicate target req) = h
  fed_leads now (command.ReplicateCommitted committed) = h
  fed_leads now (command.Respond when reply) = h
  fed_leads now command.BecomeLeader = h
  fed_leads now command.QuitLeader = h

-- with other items queued
pub queued_leads : (v : Vote ℕ) (e : EngineView) (q : Queue WorldCommand) → LeadsBy v e → LeadsBy v (with_queue e q)
queued_leads v e q h = record { leader = h.leader; leads = h.leads; by = h.by; alone = h.alone }

-- Records only grow
module _ {X : Type 0} where
  pub get_left : (xs ys : List X) (k : ℕ) (x : X) → slice_get xs k ≡ Some x → slice_get (xs ++ ys) k ≡ Some x
  get_left [] ys k x e = cc
  get_left (y ∷ xs) ys zero x e = e
  get_left (y ∷ xs) ys (suc k) x e = get_left xs ys k x e

  pub get_end : (xs : List X) (x : X) (ys : List X) → slice_get (xs ++ x ∷ ys) (length xs) ≡ Some x
  get_end [] x ys = refl
  get_end (y ∷ xs) x ys = get_end xs x ys

-- a leader is recorded
abbrev pub Recorded : Established (List Entry) → Effected → Type 0
Recorded x E = (k : ℕ) × (slice_get E.records.established k ≡ Some x)

module _ (t : Turn) (e : EngineView) (x : Established (List Entry)) (E : Effected) (h : Recorded x E) where
  pub exec_records : (c : WorldCommand) → Recorded x (exec whole_logs t e c E)
  exec_records (command.SaveVote w) = h
  exec_records (command.AppendInputEntries w es) = h
  exec_records (command.DeleteConflictLog since) = h
  exec_records (command.PurgeLog upto) = h
  exec_records (command.Commit seq already upto) = h
  exec_records (command.StateMachine c) = go c.payload
    where
      go : (p : WorldPayload) → Recorded x (exec_payload whole_logs t (command.StateMachine c) p E)
      go payload.BuildSnapshot = h
      go (payload.GetSnapshot _) = h
      go (payload.BeginReceivingSnapshot _) = h
      go (payload.InstallFullSnapshot s) = h
      go (payload.Apply _) = h
  exec_records (command.SendVote req) = h
  exec_records (command.RebuildReplicationStreams targets) = h
  exec_records (command.Replicate target req) = go E.streams.session_id
    where
      go : (o : Option (ReplicationSessionId ℕ)) → Recorded x (elim o [ None ↦ E | Some s ↦ Rattle.proof_deeds.specs.raft_node.Execute.sending (Rattle.proof_deeds.specs.raft_node.Execute.to_each t.id (target ∷ []) (Rattle.proof_deeds.specs.raft_node.Execute.replication t s E.store req)) E ])
      go None = h
      go (Some s) = h
  exec_records (command.ReplicateCommitted committed) = go E.streams.session_id
    where
      go : (o : Option (ReplicationSessionId ℕ)) → Recorded x (elim o [ None ↦ E | Some s ↦ Rattle.proof_deeds.specs.raft_node.Execute.replicate_committed whole_logs t committed s E ])
      go None = h
      go (Some s) = h
  exec_records (command.Respond when reply) = h
  exec_records command.BecomeLeader = (h.0, get_left E.records.established _ h.0 x h.1)
  exec_records command.QuitLeader = h

-- a node at work that leads by a vote, and is recorded so
pub record LeadsAtWork (v : Vote ℕ) (x : Established (List Entry)) (w : Work (List Entry)) : Type 0 where
  pub engine : EngineView
  pub runs : w.engine ≡ Some engine
  pub leads : LeadsBy v engine
  pub left : w.left ≡ None
  pub recorded : Recorded x w.effects

module _ (v : Vote ℕ) (x : Established (List Entry)) (t : Turn) where
  step_at : (e : EngineView) (E : Effected) → LeadsBy v e → Recorded x E → LeadsAtWork v x (work_step whole_logs t (at_work e E))
  step_at e E h r = of (popped e.machine.core.output)
    where
      of : (p : Option WorldCommand × Queue WorldCommand) → LeadsAtWork v x (step_of whole_logs t (at_work e E) e p)
      of (None, q) = record { engine = e; runs = refl; leads = h; left = refl; recorded = r }
      of (Some c, q) = record { engine = feed t.moment c (with_queue e q); runs = refl; leads = fed_leads v (with_queue e q) (queued_leads v e q h) t.moment c; left = refl; recorded = exec_records t (with_queue e q) x E r c }

  pub step_leads : (w : Work (List Entry)) → LeadsAtWork v x w → LeadsAtWork v x (work_step whole_logs t w)
  step_leads w h =
      subst (λ (u : Work (List Entry)). LeadsAtWork v x (work_step whole_logs t u))
      (sym (ap (λ (o : Option EngineView). let u : Work (List Entry) = record { engine = o; effects = w.effects; left = w.left } in u) h.runs ∙ ap (λ (o : Option ℕ). let u : Work (List Entry) = record { engine = Some h.engine; effects = w.effects; left = o } in u) h.left))
      (step_at h.engine w.effects h.leads h.recorded)

  pub leads_on : (fuel : ℕ) (w : Work (List Entry)) → LeadsAtWork v x w → LeadsAtWork v x (worked whole_logs fuel t w)
  leads_on fuel w h = worked-keeps whole_logs t (LeadsAtWork v x) fuel (λ w _ h. step_leads w h) w h

busy : (n : ℕ) → nat_eq (suc n) 0 ≡ false
busy n = grind (arith, nat_tests)

-- A candidate that has won works off its queue: it leads by its vote, and is recorded with its whole log.
module _ (v : Vote ℕ) (t : Turn) (E : Effected) where
  abbrev pub record_of : Established (List Entry)
  record_of = record { leader_id = v.leader_id; log = whole E.store }

  -- the engine, part by part
  abbrev pub parts : EngineView → List WorldCommand → Option WorldLeader → Option WorldCandidate → Vote ℕ → EngineView
  parts e cs l c w = record e { machine = record { core = record { state = record e.machine.core.state { vote = w }; output = record e.machine.core.output { items = cs } }; leader = l; candidate = c } }

  parts_works : (e : EngineView) (l : WorldLeader) (s : List (ℕ × ProgressEntry ℕ)) (ys : List WorldCommand) → l.vote ≡ v
      → LeadsAtWork v record_of (worked whole_logs (weight (at_work (parts e (command.RebuildReplicationStreams s ∷ command.SaveVote v ∷ command.BecomeLeader ∷ ys) (Some l) None v) E)) t (at_work (parts e (command.RebuildReplicationStreams s ∷ command.SaveVote v ∷ command.BecomeLeader ∷ ys) (Some l) None v) E))
  parts_works e l s ys by =
      let w0 : Work (List Entry) = at_work (parts e (command.RebuildReplicationStreams s ∷ command.SaveVote v ∷ command.BecomeLeader ∷ ys) (Some l) None v) E in
      let w1 : Work (List Entry) = work_step whole_logs t (at_work (parts e (command.RebuildReplicationStreams s ∷ command.SaveVote v ∷ command.BecomeLeader ∷ ys) (Some l) None v) E) in
      let w2 : Work (List Entry) = work_step whole_logs t (work_step whole_logs t (at_work (parts e (command.RebuildReplicationStreams s ∷ command.SaveVote v ∷ command.BecomeLeader ∷ ys) (Some l) None v) E)) in
      subst (λ (u : Work (List Entry)). LeadsAtWork v record_of u)
      (worked-step whole_logs t w2 (busy (length ys)) ∙ (worked-step whole_logs t w1 (busy (suc (length ys))) ∙ worked-step whole_logs t w0 (busy (suc (suc (length ys))))))
      (leads_on v record_of t (weight (work_step whole_logs t w2)) (work_step whole_logs t w2) (record { engine = _; runs = refl; leads = record { leader = l; leads = refl; by = by; alone = refl }; left = refl; recorded = (length E.records.established, get_end E.records.established record_of []) }))

  pub won_works : (e : EngineView) → Won v [] e.machine → LeadsAtWork v record_of (worked whole_logs (weight (at_work e E)) t (at_work e E))
  won_works e h =
      subst (λ (f : EngineView). LeadsAtWork v record_of (worked whole_logs (weight (at_work f E)) t (at_work f E)))
      (sym (ap (λ cs. parts e cs e.machine.leader e.machine.candidate e.machine.core.state.vote) h.builds.1
      ∙ (ap (λ l. parts e (command.RebuildReplicationStreams h.streams ∷ command.SaveVote v ∷ command.BecomeLeader ∷ h.builds.0) l e.machine.candidate e.machine.core.state.vote) h.leads
      ∙ (ap (λ c. parts e (command.RebuildReplicationStreams h.streams ∷ command.SaveVote v ∷ command.BecomeLeader ∷ h.builds.0) (Some h.leader) c e.machine.core.state.vote) h.alone
      ∙ ap (λ w. parts e (command.RebuildReplicationStreams h.streams ∷ command.SaveVote v ∷ command.BecomeLeader ∷ h.builds.0) (Some h.leader) None w) h.vote))))
      (parts_works e h.leader h.streams h.builds.0 h.by)
