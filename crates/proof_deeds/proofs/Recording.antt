-- What a leader decides in the ideal world is recorded, since it has its streams then.
use Rattle.std.proofs.Common.{ℕ, suc, ◌+◌, ◌≡◌, ⊎_elim, Bool, List, [], ◌∷◌, ◌++◌, map, take, arith, refl, sym, ap, ap₂, ◌∙◌, subst, Option, None, Some}
use Rattle.std.proofs.lemmas.List.{take-map}
use Rattle.std.proofs.lemmas.List.Elements.{Contains-push}
use Rattle.raft_node.specs.raft_state.declared.ids.LogId.{LogId}
use Rattle.raft_node.specs.raft_command.declared.command.Command.TheVariants as command
use Rattle.raft_node.specs.raft_command.declared.replication.ReplicationSessionId.{ReplicationSessionId}
use Rattle.proof_agreement.specs.Machine.{Setup, Includes}
use Rattle.proof_agreement.specs.Stores.{DecidedCommit, whole}
use Rattle.proof_agreement.specs.Deeds.{CommitByQuorum, MayCommitByQuorum, does}
use Rattle.raft_node.specs.raft_store.declared.entry.Entry.{Entry}
use Rattle.raft_node.specs.raft_store.Entries.{entry_meaning}
use Rattle.raft_node.specs.raft_store.Store as store
use Rattle.raft_node.specs.raft_store.Types.{WorldCommand, EngineView}
use Rattle.proof_mirror.specs.Ready.{Shaped}
use Rattle.raft_node.specs.declared.node.Turn.{Turn}
use Rattle.raft_node.specs.declared.record.Decided.{Decided}
use Rattle.raft_node.specs.Execute.{Effects, decided_by, exec, replicate_committed}
use Rattle.raft_node.specs.Runs.{whole_logs}
use Rattle.proof_deeds.specs.Chains.{Commits, Reached}
use Rattle.proof_deeds.specs.Follows.{SessionIs, StoreIs, StreamsAre}
use Rattle.proof_deeds.specs.Images.{Ideal, IdealEntry, image, images, number}
use Rattle.proof_deeds.proofs.Leading.{leader_has_session}
use Rattle.proof_deeds.proofs.Runs.{AllRecorded, IsRecorded, quiet_recorded, recorded_more}
use Rattle.proof_deeds.proofs.Tails.{whole_is}

module _ (s : Setup Entry) (t : Turn) (e : EngineView) (w : Effects (List Entry)) (W V : Ideal) (reached : Reached s W) (h : StoreIs s w.store (W.store t.id)) (z : Shaped entry_meaning w.store) (k : StreamsAre t.id w.streams.session_id (W.store t.id))
    (old : AllRecorded W w.records.decided) where
  -- the id that a leader tells as committed
  module _ (x : LogId ℕ) (q : ℕ → Bool) (m : MayCommitByQuorum s W t.id x.index q) (is : V.decided ≡ (does s W (CommitByQuorum t.id x.index q)).decided) where
    now : (p : ReplicationSessionId ℕ) → SessionIs t.id p (W.store t.id) → let c : DecidedCommit Entry = record { leader = (W.store t.id).session.leader; index = x.index; entries = take (suc x.index) (whole (W.store t.id)) } in
        c ≡ record { leader = number p.vote.leader_id; index = x.index; entries = images (store.whole_upto w.store x.index) }
    now p g =
        let one : suc x.index ≡ x.index + 1 = omega arith in
        ap₂ (λ d es. let c : DecidedCommit Entry = record { leader = d; index = x.index; entries = es } in c) g.leader
        (ap (take (suc x.index)) (whole_is s w.store (W.store t.id) h z) ∙ (take-map image (suc x.index) (store.whole w.store) ∙ ap (λ i. images (take i (store.whole w.store))) one))

    told : (o : Option (ReplicationSessionId ℕ)) → StreamsAre t.id o (W.store t.id) → AllRecorded V (let y : Effects (List Entry) = (elim o as (λ _. Effects (List Entry)) [ None ↦ w | Some p ↦ replicate_committed whole_logs t (Some x) p w ]) in y.records.decided)
    told None g c i = let a : (p : ReplicationSessionId ℕ) × (◌≡◌ {A = Option (ReplicationSessionId ℕ)} None (Some p)) = leader_has_session s W reached t.id m.streams None g in let b : ◌≡◌ {A = Option (ReplicationSessionId ℕ)} None (Some a.0) = a.1 in cc
    told (Some p) g c i =
        let r : Decided (List Entry) = decided_by whole_logs p w.store x in
        ⊎_elim
        (λ (e : record { leader = (W.store t.id).session.leader; index = x.index; entries = take (suc x.index) (whole (W.store t.id)) } ≡ c).
        let b : IsRecorded c (w.records.decided ++ r ∷ []) = record { by = r; there = Contains-push w.records.decided r; is = sym e ∙ now p g } in b)
        (λ j. recorded_more W w.records.decided (r ∷ []) old c j)
        (subst (λ (cs : List (DecidedCommit Entry)). Includes cs c) is i)

  -- as each command goes on
  pub exec_recorded : (c : WorldCommand) → Commits s W V t.id c → AllRecorded W (exec whole_logs t e c w).records.decided → AllRecorded V (exec whole_logs t e c w).records.decided
  exec_recorded (command.ReplicateCommitted (Some x)) m r = told x m.0 m.1 m.2 w.streams.session_id k
  exec_recorded (command.ReplicateCommitted None) m r = quiet_recorded W V _ m r
  exec_recorded (command.SaveVote _) m r = quiet_recorded W V _ m r
  exec_recorded (command.AppendInputEntries _ es) m r = quiet_recorded W V _ m r
  exec_recorded (command.DeleteConflictLog since) m r = quiet_recorded W V _ m r
  exec_recorded (command.PurgeLog upto) m r = quiet_recorded W V _ m r
  exec_recorded (command.Commit seq already upto) m r = quiet_recorded W V _ m r
  exec_recorded (command.StateMachine k) m r = quiet_recorded W V _ m r
  exec_recorded (command.SendVote req) m r = quiet_recorded W V _ m r
  exec_recorded (command.RebuildReplicationStreams targets) m r = quiet_recorded W V _ m r
  exec_recorded (command.Replicate target req) m r = quiet_recorded W V _ m r
  exec_recorded (command.Respond when reply) m r = quiet_recorded W V _ m r
  exec_recorded command.BecomeLeader m r = quiet_recorded W V _ m r
  exec_recorded command.QuitLeader m r = quiet_recorded W V _ m r
