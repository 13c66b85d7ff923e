-- What a leader sends to one target, done by deeds.
use Rattle.std.proofs.Common.{ℕ, ◌+◌, ◌-◌, ◌≤◌, ◌≡◌, ◌≢◌, inl, true, List, [], ◌∷◌, length, map, arith, refl, sym, ap, ◌∙◌, subst, Option, None, Some}
use Rattle.std.specs.Prelude.{IfSome}
use Rattle.std.specs.Ordering.{nat_cmp}
use Rattle.std.proofs.lemmas.Bool.{eq-eqb}
use Rattle.raft_node.specs.raft_state.declared.ids.LeaderId.{LeaderId}
use Rattle.raft_node.specs.raft_state.declared.ids.LogId.{LogId}
use Rattle.raft_node.specs.raft_state.Consecutive.{follows_on}
use Rattle.raft_node.specs.raft_state.Invariants.{Rises}
use Rattle.raft_node.specs.raft_state.LogLaws.{IsRun}
use Rattle.raft_node.specs.raft_state.Order.{next}
use Rattle.raft_node.specs.raft_progress_entry.declared.entry.Inflight.{Inflight}
use Rattle.raft_node.specs.raft_progress_entry.declared.entry.Inflight.TheVariants as inflight
use Rattle.raft_node.specs.raft_command.declared.command.Command.TheVariants as command
use Rattle.raft_node.specs.raft_command.declared.replication.ReplicationSessionId.{ReplicationSessionId}
use Rattle.proof_agreement.specs.Machine.{Setup, last_leader}
use Rattle.proof_agreement.specs.Stores.{SnapshotRequest, whole, entry_at}
use Rattle.proof_agreement.specs.Deeds.{SendAppend, SendSnapshot, Streams, Reaches, segment, does}
use Rattle.raft_node.specs.raft_store.declared.entry.Entry.{Entry}
use Rattle.raft_node.specs.raft_store.Entries.{entry_meaning}
use Rattle.raft_node.specs.raft_store.Types.{WorldStore, EngineView}
use Rattle.proof_mirror.specs.Ready.{Shaped, Ordered, IsStored, HasWhatIsSent}
use Rattle.raft_node.specs.declared.node.Turn.{Turn}
use Rattle.raft_node.specs.Execute.{Effects, exec, sending, to_each, replication}
use Rattle.raft_node.specs.Runs.{whole_logs}
use Rattle.proof_deeds.specs.Chains.{Done}
use Rattle.proof_deeds.specs.Follows.{IsLeaders, StoreIs, BodyIs, RestIs, SessionIs, StreamsAre}
use Rattle.proof_deeds.specs.Images.{Ideal, IdNamed, last_number}
use Rattle.proof_deeds.proofs.Overlap.{Laps}
use Rattle.proof_deeds.proofs.Stored.{range_is, stored_within, stored_ends, range_run}
use Rattle.proof_deeds.proofs.Worlds.{Within, within_does, rest_on}
use Rattle.proof_deeds.proofs.VotePushes.{said_rest}

-- ids that rise and follow on by index
follow_of : (d : Option (LogId ℕ)) (ids : List (LogId ℕ)) → Rises nat_cmp d ids → IsRun (next d) ids → follows_on nat_cmp d ids ≡ true
follow_of d [] h r = refl
follow_of d (x ∷ xs) h r = rw (eq-eqb x.index (next d) r.0, h.0, follow_of (Some x) xs h.1 (subst (λ n. IsRun (n + 1) xs) (sym r.0) r.1)) refl

module _ (s : Setup Entry) (t : Turn) (v : LeaderId ℕ) where
  -- one to a target under the session, where there is one
  sent_rest : (W V : Ideal) (target : ℕ) (f : Inflight ℕ) (w : Effects (List Entry)) → Within W V → V.store t.id ≡ W.store t.id → RestIs s t.id w W
      → ((q : ReplicationSessionId ℕ) → SessionIs t.id q (W.store t.id) → BodyIs s t.id target (replication t q w.store f) V) → (e : EngineView) → RestIs s t.id (exec whole_logs t e (command.Replicate target f) w) V
  sent_rest W V target f w a g h k e = go w.streams.session_id h.session where
    go : (o : Option (ReplicationSessionId ℕ)) → StreamsAre t.id o (W.store t.id)
        → RestIs s t.id (elim o as (λ _. Effects (List Entry)) [ None ↦ w | Some q ↦ sending (to_each t.id (target ∷ []) (replication t q w.store f)) w ]) V
    go None z = rest_on s W V a t.id w (ap (λ x. x.session) g) (ap (λ x. x.noted) g) h
    go (Some q) z = said_rest s t v W V (to_each t.id (target ∷ []) (replication t q w.store f)) w a g h (k q z, tt)

  -- a request of the node's session goes to another one
  pub leaders_of : (target : ℕ) (q : ReplicationSessionId ℕ) (W : Ideal) → target ≢ t.id → SessionIs t.id q (W.store t.id) → IsLeaders target q.vote
  leaders_of target q W o z = record { committed = z.committed; named = z.named; away = λ e. o (sym e ∙ z.own) }

  -- a store that can send: its entries reach its snapshot's end, and are in order
  pub record Sends (u : WorldStore) (W : Ideal) : Type 0 where
    pub store : StoreIs s u (W.store t.id)
    pub shaped : Shaped entry_meaning u
    pub ordered : Ordered nat_cmp entry_meaning u
    pub laps : Laps (W.store t.id)
    pub reaches : Reaches (W.store t.id)
    pub streams : Streams s (W.store t.id) t.id

  -- a replicated range or heartbeat or snapshot: a message more in the ideal world
  pub done_send : (u : WorldStore) (target : ℕ) (f : Inflight ℕ) (W : Ideal) → Sends u W → target ≢ t.id → HasWhatIsSent entry_meaning u f
      → (V : Ideal) × Done s t v u (command.Replicate target f) W V × Within W V × (V.store ≡ W.store)
  done_send u target inflight.None W h o c =
      let V : Ideal = does s W (SendAppend t.id 0 0) in (
        V,
        record {
          deeds = SendAppend t.id 0 0 ∷ [];
          claimed = (tt, tt);
          answered = (tt, tt);
          commits = refl;
          by = (refl, tt);
          allowed = (record { streams = h.streams; fits = omega arith }, tt);
          result = refl;
          store = h.store;
          rest = λ w e q r _ _. sent_rest W V target inflight.None w (within_does s W (SendAppend t.id 0 0) tt) refl r
              (λ p z. record {
                leaders = leaders_of target p W o z;
                prev_named = tt;
                run = tt;
                entries_fit = tt;
                told_named = subst (λ (x : WorldStore). IdNamed x.saved) (sym q) h.store.saved_named;
                request = segment s (W.store t.id) 0 0;
                is = record { session = z.leader; from = refl; previous = refl; entries = refl; committed = h.store.saved ∙ ap (λ (x : WorldStore). next x.saved) (sym q); committed_leader = h.store.saved_leader ∙ ap (λ (x : WorldStore). last_number x.saved) (sym q) };
                sent = inl refl;
              })
              e;
        },
        within_does s W (SendAppend t.id 0 0) tt,
        refl,
      )
  done_send u target (inflight.Logs id range) W h o c =
      let i : ℕ = next range.prev in
      let m : ℕ = next range.last - next range.prev in
      let V : Ideal = does s W (SendAppend t.id i m) in (
        V,
        record {
          deeds = SendAppend t.id i m ∷ [];
          claimed = (tt, tt);
          answered = (tt, tt);
          commits = refl;
          by = (refl, tt);
          allowed = (record { streams = h.streams; fits = omega (arith, within range.last c.1, within range.prev c.0) }, tt);
          result = refl;
          store = h.store;
          rest = λ w e q r _ _. sent_rest W V target (inflight.Logs id range) w (within_does s W (SendAppend t.id i m) tt) refl r
              (λ p z. subst (λ (x : WorldStore). BodyIs s t.id target (replication t p x (inflight.Logs id range)) V) (sym q)
              (record {
                leaders = leaders_of target p W o z;
                prev_named = (previous range.prev c.0 c.2).1;
                run = range_run s u (W.store t.id) h.store h.shaped h.laps h.reaches i (next range.last) c.2;
                entries_fit = (range_is s u (W.store t.id) h.store h.shaped h.laps h.reaches i (next range.last) c.2).1;
                told_named = h.store.saved_named;
                request = segment s (W.store t.id) i m;
                is = record { session = z.leader; from = refl; previous = (previous range.prev c.0 c.2).0; entries = (range_is s u (W.store t.id) h.store h.shaped h.laps h.reaches i (next range.last) c.2).0; committed = h.store.saved; committed_leader = h.store.saved_leader };
                sent = inl refl;
              }))
              e;
        },
        within_does s W (SendAppend t.id i m) tt,
        refl,
      )
    where
      within : (x : Option (LogId ℕ)) → IfSome x (IsStored entry_meaning u) → next x ≤ length (whole (W.store t.id))
      within None k = omega arith
      within (Some x) k = stored_within s u (W.store t.id) h.store h.shaped h.laps h.reaches x k

      previous : (x : Option (LogId ℕ)) → IfSome x (IsStored entry_meaning u) → next u.front ≤ next x → (last_leader (entry_at s (whole (W.store t.id))) (next x) ≡ last_number x) × IdNamed x
      previous None k l = (refl, tt)
      previous (Some x) k l = stored_ends s u (W.store t.id) h.store h.shaped h.laps h.reaches x k l
  done_send u target (inflight.Snapshot id last) W h o c =
      let V : Ideal = does s W (SendSnapshot t.id) in (
        V,
        record {
          deeds = SendSnapshot t.id ∷ [];
          claimed = (tt, tt);
          answered = (tt, tt);
          commits = refl;
          by = (refl, tt);
          allowed = (h.streams, tt);
          result = refl;
          store = h.store;
          rest = λ w e q r _ _. sent_rest W V target (inflight.Snapshot id last) w (within_does s W (SendSnapshot t.id) tt) refl r
              (λ p z. subst (λ (x : WorldStore). BodyIs s t.id target (replication t p x (inflight.Snapshot id last)) V) (sym q)
              (record {
                leaders = leaders_of target p W o z;
                entries_fit = h.store.snapshot_fit;
                tells = record { tells = h.shaped.tells; follow = follow_of None (map (λ (e : Entry). e.log_id) u.snap) h.ordered.snapshot.rising h.shaped.snap_run };
                session = (W.store t.id).session;
                leader = z.leader;
                sent = inl (ap (SnapshotRequest (W.store t.id).session) h.store.snapshot);
              }))
              e;
        },
        within_does s W (SendSnapshot t.id) tt,
        refl,
      )
