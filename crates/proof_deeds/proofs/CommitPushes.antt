-- Commits, and what a leader tells of them, done by deeds; and the note for a snapshot.
use Rattle.std.proofs.Common.{ℕ, suc, ◌+◌, ◌<◌, ◌≡◌, ◌≢◌, inl, Bool, List, [], ◌∷◌, ◌++◌, length, map, take, arith, refl, sym, ap, ap₂, ◌∙◌, subst, Option, None, Some, length-append, append_assoc}
use Rattle.std.specs.List.{AllByRecursion}
use Rattle.std.proofs.lemmas.List.{length-map, take-map, get_or_at, map-append}
use Rattle.raft_node.specs.raft_state.declared.ids.LeaderId.{LeaderId}
use Rattle.raft_node.specs.raft_state.declared.ids.LogId.{LogId}
use Rattle.raft_node.specs.raft_command.declared.command.Command.TheVariants as command
use Rattle.raft_node.specs.raft_command.declared.sm.CommandPayload.TheVariants as payload
use Rattle.raft_node.specs.raft_command.declared.replication.ReplicationSessionId.{ReplicationSessionId}
use Rattle.proof_agreement.specs.Machine.{Setup}
use Rattle.proof_agreement.specs.Stores.{ExecutedCommit, DecidedCommit, whole, entry_at, first_entry}
use Rattle.proof_agreement.specs.Deeds.{CommitByQuorum, Apply, Note, MayCommitByQuorum, MayDo, AllMayDo, with_committed, heartbeat, put, does, run_all}
use Rattle.raft_node.specs.raft_store.declared.entry.Entry.{Entry}
use Rattle.raft_node.specs.raft_store.Store as store
use Rattle.raft_node.specs.raft_store.Store.{due}
use Rattle.raft_node.specs.raft_store.Types.{WorldStore, EngineView}
use Rattle.raft_node.proofs.raft_store_proofs.Lists.{Run}
use Rattle.raft_node.specs.declared.node.Turn.{Turn}
use Rattle.raft_node.specs.raft_calls.declared.message.Body.{Body}
use Rattle.raft_node.specs.declared.record.Executed.{Executed}
use Rattle.raft_node.specs.Execute.{Effects, exec, sending, to_each, replicate_committed, decided_by}
use Rattle.raft_node.specs.Execute as execute
use Rattle.raft_node.specs.Runs.{whole_logs}
use Rattle.proof_deeds.specs.Chains.{AllClaimed, AcceptsAcknowledged, SavesClaimed, doer, stored, Done}
use Rattle.proof_deeds.specs.Follows.{StoreIs, BodyIs, MessageIs, ExecutedIs, DecidedIs, RestIs, SessionIs, StreamsAre}
use Rattle.proof_deeds.specs.Images.{Ideal, IdealStore, IdealDeed, IsNamed, number, image, images}
use Rattle.proof_deeds.proofs.Numbers.{number_same}
use Rattle.proof_deeds.proofs.SendPushes.{leaders_of}
use Rattle.proof_deeds.proofs.Tails.{index}
use Rattle.proof_deeds.proofs.Worlds.{within_self, Within, within_put, within_does, within_then, at_put, each_more, each_mapped, records_on, rest_on, streams_on}
use Rattle.proof_deeds.proofs.VotePushes.{said_rest}

-- an entry of a run stands at its index
pub stands_at : (s : Setup Entry) (pre xs : List Entry) → Run index (length pre) xs → AllByRecursion (λ e. entry_at s (images (pre ++ xs)) (index e) ≡ image e) xs
stands_at s pre [] r = tt
stands_at s pre (x ∷ xs) r =
    let n : length (images pre) ≡ index x = length-map pre image ∙ sym r.0 in
    let l : length (pre ++ x ∷ []) ≡ length pre + 1 = length-append pre (x ∷ []) in (
      ap (λ ys. entry_at s ys (index x)) (map-append image pre (x ∷ xs)) ∙ get_or_at (images pre) (image x) (images xs) (first_entry s) (index x) n,
      subst (λ ys. AllByRecursion (λ e. entry_at s (images ys) (index e) ≡ image e) xs) (append_assoc pre (x ∷ []) xs) (stands_at s (pre ++ x ∷ []) xs (subst (λ k. Run index k xs) (sym l) r.1)),
    )

module _ {X : Type 0} (P : X → Type 0) where
  pub each_behind : (xs ys : List X) → AllByRecursion P (xs ++ ys) → AllByRecursion P ys
  each_behind [] ys a = a
  each_behind (x ∷ xs) ys a = each_behind xs ys a.1

module _ (s : Setup Entry) (t : Turn) where
  -- one message to each of the targets
  each_told : (ids : List ℕ) (b : Body) (V : Ideal) → AllByRecursion (λ x. x ≢ t.id) ids → ((to : ℕ) → to ≢ t.id → BodyIs s t.id to b V) → AllByRecursion (MessageIs s V) (to_each t.id ids b)
  each_told [] b V a f = tt
  each_told (x ∷ xs) b V a f = (f x a.0, each_told xs b V a.1 f)

module _ (s : Setup Entry) (t : Turn) (v : LeaderId ℕ) where
  -- a leader tells a committed id of its own, which is recorded as decided
  pub done_decide : (u : WorldStore) (x : LogId ℕ) (q : ℕ → Bool) (W : Ideal) → StoreIs s u (W.store t.id) → whole (W.store t.id) ≡ images (store.whole u) → IsNamed x.leader_id → (W.store t.id).vote ≡ number x.leader_id
      → MayCommitByQuorum s W t.id x.index q → Done s t v u (command.ReplicateCommitted (Some x)) W (does s W (CommitByQuorum t.id x.index q))
  done_decide u x q W h a n e m =
      record {
        deeds = CommitByQuorum t.id x.index q ∷ [];
        claimed = (tt, tt);
        answered = (tt, tt);
        commits = (q, m, refl);
        by = (refl, tt);
        allowed = (m, tt);
        result = refl;
        store = h;
        rest = λ w g o r _ _. go w o r w.streams.session_id r.session;
      }
    where
      V : Ideal
      V = does s W (CommitByQuorum t.id x.index q)

      one : x.index + 1 ≡ suc x.index
      one = omega arith

      told : (p : ReplicationSessionId ℕ) → SessionIs t.id p (W.store t.id) → (to : ℕ) → to ≢ t.id → BodyIs s t.id to (execute.heartbeat t p (Some x)) V
      told p z to d = record {
        leaders = leaders_of s t v to p W d z;
        prev_named = tt;
        run = tt;
        entries_fit = tt;
        told_named = n;
        request = heartbeat (W.store t.id) (suc x.index);
        is = record { session = z.leader; from = refl; previous = refl; entries = refl; committed = sym one; committed_leader = e };
        sent = inl refl;
      }

      decided : (p : ReplicationSessionId ℕ) (w : WorldStore) → w ≡ u → SessionIs t.id p (W.store t.id) → DecidedIs V (decided_by whole_logs p w x)
      decided p w o z = record {
        own = number_same x.leader_id p.vote.leader_id n z.named (sym e ∙ (sym m.streams.session ∙ z.leader));
        there = inl (ap₂ (λ d es. let c : DecidedCommit Entry = record { leader = d; index = x.index; entries = es } in c) z.leader
            (ap (take (suc x.index)) a ∙ (take-map image (suc x.index) (store.whole u) ∙ ap₂ (λ k (y : WorldStore). images (take k (store.whole y))) (sym one) (sym o))));
      }

      go : (w : Effects (List Entry)) → w.store ≡ u → RestIs s t.id w W → (o : Option (ReplicationSessionId ℕ)) → StreamsAre t.id o (W.store t.id)
          → RestIs s t.id (elim o as (λ _. Effects (List Entry)) [ None ↦ w | Some p ↦ replicate_committed whole_logs t (Some x) p w ]) V
      go w o r None z = rest_on s W V (within_does s W (CommitByQuorum t.id x.index q) tt) t.id w refl refl r
      go w o r (Some p) z =
          let k : RestIs s t.id (sending (to_each t.id w.streams.targets (execute.heartbeat t p (Some x))) w) V =
          said_rest s t v W V (to_each t.id w.streams.targets (execute.heartbeat t p (Some x))) w (within_does s W (CommitByQuorum t.id x.index q) tt) refl r (each_told s t w.streams.targets (execute.heartbeat t p (Some x)) V r.targets (told p z)) in
          record {
            session = k.session;
            targets = k.targets;
            noted = k.noted;
            records = record {
              bag = k.records.bag;
              executed = k.records.executed;
              installed = k.records.installed;
              decided = each_more (DecidedIs V) w.records.decided _ k.records.decided (decided p w.store o z, tt);
              established = k.records.established;
            };
          }

  -- Commits

  -- one deed for each entry that is applied
  abbrev pub applies : List Entry → List IdealDeed
  applies es = map (λ (e : Entry). Apply t.id (index e)) es

  applies_store : (es : List Entry) (V : Ideal) → (run_all s (applies es) V).store ≡ V.store
  applies_store [] V = refl
  applies_store (e ∷ es) V = applies_store es (does s V (Apply t.id (index e)))

  applies_decided : (es : List Entry) (V : Ideal) → (run_all s (applies es) V).decided ≡ V.decided
  applies_decided [] V = refl
  applies_decided (e ∷ es) V = applies_decided es (does s V (Apply t.id (index e)))

  applies_allowed : (es : List Entry) (V : Ideal) → AllByRecursion (λ e. index e < (V.store t.id).committed) es → AllMayDo s (applies es) V
  applies_allowed [] V a = tt
  applies_allowed (e ∷ es) V a = (a.0, applies_allowed es (does s V (Apply t.id (index e))) a.1)

  applies_claimed : (es : List Entry) (V : Ideal) → AllClaimed s (applies es) V
  applies_claimed [] V = tt
  applies_claimed (e ∷ es) V = (tt, applies_claimed es (does s V (Apply t.id (index e))))

  applies_within : (es : List Entry) (V : Ideal) → Within V (run_all s (applies es) V)
  applies_within [] V = within_self V
  applies_within (e ∷ es) V = within_then V (does s V (Apply t.id (index e))) (run_all s (applies es) (does s V (Apply t.id (index e)))) (within_does s V (Apply t.id (index e)) tt) (applies_within es (does s V (Apply t.id (index e))))

  applies_by : (es : List Entry) → AllByRecursion (λ d. doer d ≡ t.id) (applies es)
  applies_by es = each_mapped (λ d. doer d ≡ t.id) (λ (e : Entry). Apply t.id (index e)) (λ e. refl) es

  abbrev pub executed_of : Entry → Executed
  executed_of e = record { node = t.id; entry = e }

  applies_executed : (es : List Entry) (V : Ideal) → AllByRecursion (λ e. entry_at s (whole (V.store t.id)) (index e) ≡ image e) es → AllByRecursion (ExecutedIs (run_all s (applies es) V)) (map executed_of es)
  applies_executed [] V a = tt
  applies_executed (e ∷ es) V a =
      let N : Ideal = does s V (Apply t.id (index e)) in (
        (applies_within es (does s V (Apply t.id (index e)))).executed _ (inl (ap (λ y. let c : ExecutedCommit Entry = record { node = t.id; index = index e; entry = y } in c) a.0)),
        applies_executed es (does s V (Apply t.id (index e))) a.1,
      )

  -- a commit up to x by this deed, and what it applies
  pub done_commit : (u : WorldStore) (seq : ℕ) (already : Option (LogId ℕ)) (x : LogId ℕ) (d : IdealDeed) (W : Ideal) → StoreIs s u (W.store t.id) → doer d ≡ t.id → MayDo s W d → SavesClaimed s W d → AcceptsAcknowledged s [] d
      → does s W d ≡ put W t.id (with_committed s (W.store t.id) (suc x.index)) → (entry_at s (whole (W.store t.id)) x.index).leader ≡ number x.leader_id → IsNamed x.leader_id → length (u.applied ++ due u x) ≡ suc x.index
      → AllByRecursion (λ e. entry_at s (whole (W.store t.id)) (index e) ≡ image e) (due u x) → AllByRecursion (λ e. index e < suc x.index) (due u x)
      → (V : Ideal) × Done s t v u (command.Commit seq already x) W V × Within W V × (V.store t.id ≡ with_committed s (W.store t.id) (suc x.index))
  done_commit u seq already x d W h b m c g q l n k a f = (
    V,
    record {
      deeds = d ∷ applies (due u x);
      by = (b, applies_by (due u x));
      allowed = (m, subst (AllMayDo s (applies (due u x))) (sym q) (applies_allowed (due u x) P (subst (λ (Z : IdealStore). AllByRecursion (λ e. index e < Z.committed) (due u x)) (sym p) f)));
      answered = (g, each_mapped (AcceptsAcknowledged s []) (λ (e : Entry). Apply t.id (index e)) (λ e. tt) (due u x));
      commits = applies_decided (due u x) P;
      claimed = (c, subst (AllClaimed s (applies (due u x))) (sym q) (applies_claimed (due u x) P));
      result = ap (run_all s (applies (due u x))) q;
      store = subst (StoreIs s (stored (command.Commit seq already x) u)) (sym at) (record {
        vote = h.vote;
        vote_committed = h.vote_committed;
        front = h.front;
        entries = h.entries;
        snapshot = h.snapshot;
        saved = sym one;
        saved_leader = l;
        applied = sym k;
        vote_named = h.vote_named;
        entries_fit = h.entries_fit;
        snapshot_fit = h.snapshot_fit;
        front_is = h.front_is;
        saved_named = n;
      });
      rest = λ w g o r _ _. rest w o r g;
    },
    within,
    at,
  )
    where
      one : x.index + 1 ≡ suc x.index
      one = omega arith

      S : IdealStore
      S = with_committed s (W.store t.id) (suc x.index)

      P : Ideal
      P = put W t.id (with_committed s (W.store t.id) (suc x.index))

      p : P.store t.id ≡ S
      p = at_put W t.id S

      V : Ideal
      V = run_all s (applies (due u x)) P

      at : V.store t.id ≡ S
      at = ap (λ g. g t.id) (applies_store (due u x) P) ∙ p

      within : Within W V
      within = within_then W P V (within_put W t.id S (omega arith)) (applies_within (due u x) P)

      done : AllByRecursion (ExecutedIs V) (map executed_of (due u x))
      done = applies_executed (due u x) P (subst (λ (Z : IdealStore). AllByRecursion (λ e. entry_at s (whole Z) (index e) ≡ image e) (due u x)) (sym p) a)

      rest : (w : Effects (List Entry)) → w.store ≡ u → RestIs s t.id w W → (e : EngineView) → RestIs s t.id (exec whole_logs t e (command.Commit seq already x) w) V
      rest w o r e =
          let z : RestIs s t.id w V = rest_on s W V within t.id w (ap (λ (Z : IdealStore). Z.session) at) (ap (λ (Z : IdealStore). Z.noted) at) r in
          record {
            session = z.session;
            targets = z.targets;
            noted = z.noted;
            records = record {
              bag = z.records.bag;
              executed = each_more (ExecutedIs V) w.records.executed (map executed_of (due w.store x)) z.records.executed (subst (λ (y : WorldStore). AllByRecursion (ExecutedIs V) (map executed_of (due y x))) (sym o) done);
              installed = z.records.installed;
              decided = z.records.decided;
              established = z.records.established;
            };
          }

  -- what is applied is noted for a snapshot
  pub done_note : (u : WorldStore) (seq : ℕ) (W : Ideal) → StoreIs s u (W.store t.id) → whole (W.store t.id) ≡ images (store.whole u) → u.applied ≡ take (length u.applied) (store.whole u)
      → (V : Ideal) × Done s t v u (command.StateMachine (record { seq = seq; payload = payload.BuildSnapshot })) W V × Within W V × (V.store t.id ≡ record (W.store t.id) { noted = take (W.store t.id).committed (whole (W.store t.id)) })
  done_note u seq W h a b = (
    put W t.id S,
    record {
      deeds = Note t.id ∷ [];
      claimed = (tt, tt);
      answered = (tt, tt);
      commits = refl;
      by = (refl, tt);
      allowed = (tt, tt);
      result = refl;
      store = subst (StoreIs s u) (sym at) (record {
        vote = h.vote;
        vote_committed = h.vote_committed;
        front = h.front;
        entries = h.entries;
        snapshot = h.snapshot;
        saved = h.saved;
        saved_leader = h.saved_leader;
        applied = h.applied;
        vote_named = h.vote_named;
        entries_fit = h.entries_fit;
        snapshot_fit = h.snapshot_fit;
        front_is = h.front_is;
        saved_named = h.saved_named;
      });
      rest = λ w g o r _ _.
          record {
            session = streams_on t.id w.streams.session_id (W.store t.id) ((put W t.id S).store t.id) (ap (λ (Z : IdealStore). Z.session) at) r.session;
            targets = r.targets;
            noted = ap (λ (Z : IdealStore). Z.noted) at ∙ (ap₂ take h.applied a ∙ (take-map image (length u.applied) (store.whole u) ∙ (ap images (sym b) ∙ ap (λ (y : WorldStore). images y.applied) (sym o))));
            records = records_on s W (put W t.id S) (within_put W t.id S (omega arith)) w.records r.records;
          };
    },
    within_put W t.id S (omega arith),
    at,
  )
    where
      S : IdealStore
      S = record (W.store t.id) { noted = take (W.store t.id).committed (whole (W.store t.id)) }

      at : (put W t.id S).store t.id ≡ S
      at = at_put W t.id S
