-- What an executed command makes of the store and of the records, beside the ideal ones.
use Rattle.std.proofs.Common.{ℕ, ◌+◌, ◌≡◌, List, [], ◌∷◌, arith, map, refl, sym, ap, subst, Option, None, Some}
use Rattle.std.specs.Prelude.{Contains}
use Rattle.std.specs.List.{AllByRecursion}
use Rattle.std.specs.Option.{option_to_list}
use Rattle.std.specs.Ordering.{nat_cmp}
use Rattle.std.proofs.lemmas.List.Elements.{Contains-append_right}
use Rattle.raft_node.specs.raft_state.declared.ids.LogId.{LogId}
use Rattle.raft_node.specs.raft_command.declared.command.Command.TheVariants as command
use Rattle.raft_node.specs.raft_command.declared.sm.Command.{Command as Order}
use Rattle.raft_node.specs.raft_command.declared.sm.CommandPayload.TheVariants as payload
use Rattle.raft_node.specs.raft_command.declared.replication.ReplicationSessionId.{ReplicationSessionId}
use Rattle.proof_agreement.specs.Machine.{Setup}
use Rattle.raft_node.specs.raft_store.declared.config.WorldConfig.{WorldConfig}
use Rattle.raft_node.specs.raft_store.declared.entry.Entry.{Entry}
use Rattle.raft_node.specs.raft_store.Entries.{entry_meaning}
use Rattle.raft_node.specs.raft_store.Store as store
use Rattle.raft_node.specs.raft_store.Types.{WorldStore, WorldCommand, WorldPayload, EngineView}
use Rattle.proof_mirror.specs.Ready.{Shaped, Fits, CanOrder}
use Rattle.raft_node.specs.raft_calls.declared.message.Message.{Message}
use Rattle.raft_node.specs.declared.node.Turn.{Turn}
use Rattle.raft_node.specs.Execute.{Effects, exec, exec_payload, replicate_committed, decided_by, replies, sending, to_each, replication}
use Rattle.raft_node.specs.Net.{Records}
use Rattle.raft_node.specs.Runs.{whole_logs}
use Rattle.proof_deeds.specs.Chains.{replies_by, stored}
use Rattle.proof_deeds.specs.Follows.{StoreIs, StreamsAre}
use Rattle.proof_deeds.specs.Images.{IsWellFormedEntry, Ideal, IdealStore, IsNamed}
use Rattle.proof_deeds.proofs.Runs.{AllAcknowledged, AllRecorded, AnswerFits, RecordsFit, answered_more, recorded_more, InstalledFits, DecidedFits, EstablishedFits, whole_runs, run_taken}
use Rattle.proof_deeds.proofs.Stored.{each_take}
use Rattle.proof_deeds.proofs.Tails.{whole_fit}
use Rattle.proof_deeds.proofs.Worlds.{each_more, each_on}

abbrev pub WorldOrder : Type 0
WorldOrder = Order WorldConfig ℕ (Unit {0}) Entry ℕ ℕ (List Entry)

-- nothing is in an empty list
none_in : {A : Type 0} (m : A) → Contains [] m → ⊥
none_in m h = omega (arith, h.1)

abbrev store_in : Effects (List Entry) → WorldStore
store_in w = w.store

abbrev records_in : Effects (List Entry) → Records (List Entry)
records_in w = w.records

module _ (t : Turn) (e : EngineView) (w : Effects (List Entry)) where
  replicated : (target : ℕ) (req : _) (o : Option (ReplicationSessionId ℕ)) → store_in (elim o [ None ↦ w | Some s ↦ sending (to_each t.id (target ∷ []) (replication t s w.store req)) w ]) ≡ w.store
  replicated target req None = refl
  replicated target req (Some s) = refl

  told : (committed : Option (LogId ℕ)) (o : Option (ReplicationSessionId ℕ)) → store_in (elim o [ None ↦ w | Some s ↦ replicate_committed whole_logs t committed s w ]) ≡ w.store
  told committed None = refl
  told committed (Some s) = refl

  ordered_to : (k : WorldOrder) (p : WorldPayload) → k.payload ≡ p → (exec_payload whole_logs t (command.StateMachine k) p w).store ≡ store.exec_payload entry_meaning (λ es. es) p w.store
  ordered_to k payload.BuildSnapshot q = refl
  ordered_to k (payload.GetSnapshot _) q = refl
  ordered_to k (payload.BeginReceivingSnapshot _) q = refl
  ordered_to k (payload.InstallFullSnapshot s) q = ap (λ p. store.exec_payload entry_meaning (λ es. es) p w.store) q
  ordered_to k (payload.Apply _) q = refl

  -- the store is what the command makes of it
  pub exec_stores : (c : WorldCommand) → (exec whole_logs t e c w).store ≡ stored c w.store
  exec_stores (command.SaveVote _) = refl
  exec_stores (command.AppendInputEntries _ es) = refl
  exec_stores (command.DeleteConflictLog since) = refl
  exec_stores (command.PurgeLog upto) = refl
  exec_stores (command.Commit seq already upto) = refl
  exec_stores (command.StateMachine c) = ordered_to c c.payload refl
  exec_stores (command.SendVote req) = refl
  exec_stores (command.RebuildReplicationStreams targets) = refl
  exec_stores (command.Replicate target req) = replicated target req w.streams.session_id
  exec_stores (command.ReplicateCommitted committed) = told committed w.streams.session_id
  exec_stores (command.Respond when reply) = refl
  exec_stores command.BecomeLeader = refl
  exec_stores command.QuitLeader = refl

  -- the replies that it sends are in the bag
  pub exec_replies : (c : WorldCommand) (m : Message) → Contains (replies_by t c) m → Contains (exec whole_logs t e c w).records.bag m
  exec_replies (command.Respond when reply) m h = Contains-append_right w.records.bag (replies t reply) m h
  exec_replies (command.SaveVote _) m h = absurd (none_in m h)
  exec_replies (command.AppendInputEntries _ es) m h = absurd (none_in m h)
  exec_replies (command.DeleteConflictLog since) m h = absurd (none_in m h)
  exec_replies (command.PurgeLog upto) m h = absurd (none_in m h)
  exec_replies (command.Commit seq already upto) m h = absurd (none_in m h)
  exec_replies (command.StateMachine c) m h = absurd (none_in m h)
  exec_replies (command.SendVote req) m h = absurd (none_in m h)
  exec_replies (command.RebuildReplicationStreams targets) m h = absurd (none_in m h)
  exec_replies (command.Replicate target req) m h = absurd (none_in m h)
  exec_replies (command.ReplicateCommitted committed) m h = absurd (none_in m h)
  exec_replies command.BecomeLeader m h = absurd (none_in m h)
  exec_replies command.QuitLeader m h = absurd (none_in m h)

  -- the records stay in shape
  module _ (d : Setup Entry) (W : Ideal) (n : ℕ) (S : IdealStore) (h : StoreIs d w.store S) (z : Shaped entry_meaning w.store) (v : IsNamed e.machine.core.state.vote.leader_id) (q : StreamsAre n w.streams.session_id S) (r : RecordsFit d W w.records) where
    replicated_fits : (target : ℕ) (req : _) (o : Option (ReplicationSessionId ℕ)) → RecordsFit d W (records_in (elim o [ None ↦ w | Some s ↦ sending (to_each t.id (target ∷ []) (replication t s w.store req)) w ]))
    replicated_fits target req None = r
    replicated_fits target req (Some s) = record { installed = r.installed; decided = r.decided; established = r.established; answers = r.answers; accepted = answered_more W w.records.bag _ r.accepted; recorded = r.recorded }

    told_fits : (committed : Option (LogId ℕ)) (o : Option (ReplicationSessionId ℕ)) → StreamsAre n o S → RecordsFit d W (records_in (elim o [ None ↦ w | Some s ↦ replicate_committed whole_logs t committed s w ]))
    told_fits committed None k = r
    told_fits committed (Some s) k =
        record {
          installed = r.installed;
          decided = each_more DecidedFits w.records.decided (map (decided_by whole_logs s w.store) (option_to_list committed)) r.decided (all committed);
          established = r.established;
          answers = r.answers;
          accepted = answered_more W w.records.bag _ r.accepted;
          recorded = recorded_more W w.records.decided (map (decided_by whole_logs s w.store) (option_to_list committed)) r.recorded;
        }
      where
        all : (o : Option (LogId ℕ)) → AllByRecursion DecidedFits (map (decided_by whole_logs s w.store) (option_to_list o))
        all None = tt
        all (Some x) = (
          record {
            named = k.named;
            run = run_taken (x.index + 1) 0 (store.whole w.store) (whole_runs w.store z);
            all_named = each_take (λ (e : Entry). IsNamed e.log_id.leader_id) (x.index + 1) (store.whole w.store) (each_on (IsWellFormedEntry d) (λ (e : Entry). IsNamed e.log_id.leader_id) (λ e f. f.named) (store.whole w.store) (whole_fit d w.store S h z));
          },
          tt,
        )

    ordered_fits : (k : WorldOrder) (p : WorldPayload) → CanOrder nat_cmp entry_meaning (λ es. es) w.store p → RecordsFit d W (exec_payload whole_logs t (command.StateMachine k) p w).records
    ordered_fits k payload.BuildSnapshot f = r
    ordered_fits k (payload.GetSnapshot _) f = r
    ordered_fits k (payload.BeginReceivingSnapshot _) f = r
    ordered_fits k (payload.InstallFullSnapshot s) f = record { installed = each_more InstalledFits w.records.installed (record { node = t.id; entries = s.snapshot } ∷ []) r.installed (f.order.run, tt); decided = r.decided; established = r.established; answers = r.answers; accepted = r.accepted; recorded = r.recorded }
    ordered_fits k (payload.Apply _) f = r

    kept : (x : Records (List Entry)) → x.installed ≡ w.records.installed → x.decided ≡ w.records.decided → x.established ≡ w.records.established → x.answers ≡ w.records.answers → AllAcknowledged W x.bag → RecordsFit d W x
    kept x a b c y g = record { accepted = g; recorded = subst (AllRecorded W) (sym b) r.recorded; installed = subst (AllByRecursion InstalledFits) (sym a) r.installed; decided = subst (AllByRecursion DecidedFits) (sym b) r.decided; established = subst (AllByRecursion EstablishedFits) (sym c) r.established; answers = subst (AllByRecursion (AnswerFits d W)) (sym y) r.answers }

    pub exec_fits : (c : WorldCommand) → Fits nat_cmp entry_meaning (λ es. es) w.store c → RecordsFit d W (exec whole_logs t e c w).records
    exec_fits (command.SaveVote _) f = r
    exec_fits (command.AppendInputEntries _ es) f = r
    exec_fits (command.DeleteConflictLog since) f = r
    exec_fits (command.PurgeLog upto) f = r
    exec_fits (command.Commit seq already upto) f = kept _ refl refl refl refl r.accepted
    exec_fits (command.StateMachine c) f = ordered_fits c c.payload f
    exec_fits (command.SendVote req) f = kept _ refl refl refl refl (answered_more W w.records.bag _ r.accepted)
    exec_fits (command.RebuildReplicationStreams targets) f = r
    exec_fits (command.Replicate target req) f = replicated_fits target req w.streams.session_id
    exec_fits (command.ReplicateCommitted committed) f = told_fits committed w.streams.session_id q
    exec_fits (command.Respond when reply) f = kept _ refl refl refl refl (answered_more W w.records.bag _ r.accepted)
    exec_fits command.BecomeLeader f =
        record {
          installed = r.installed;
          decided = r.decided;
          established = each_more EstablishedFits w.records.established (record { leader_id = e.machine.core.state.vote.leader_id; log = store.whole w.store } ∷ []) r.established (record { named = v; run = whole_runs w.store z }, tt);
          answers = r.answers;
          accepted = r.accepted;
          recorded = r.recorded;
        }
    exec_fits command.QuitLeader f = r
