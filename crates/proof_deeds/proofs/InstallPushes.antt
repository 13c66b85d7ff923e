-- An install and the cut before it, and the reply to a snapshot, done by deeds.
use Rattle.std.proofs.Common.{ℕ, zero, suc, ◌+◌, ◌-◌, ◌≤◌, ◌≡◌, ◌⊎◌, inl, ⊎_elim, true, true≢false, List, [], ◌∷◌, length, take, drop, arith, refl, sym, ap, ap₂, ◌∙◌, subst, Option, None, Some}
use Rattle.std.specs.Prelude.{Contains, nat_lt, filter}
use Rattle.std.specs.Map.{values_of}
use Rattle.std.proofs.lemmas.List.{length-map, take-map, get_or-take}
use Rattle.raft_node.specs.raft_state.declared.ids.LeaderId.{LeaderId}
use Rattle.raft_node.specs.raft_state.declared.ids.LogId.{LogId}
use Rattle.std.specs.Ordering.{is_gt, nat_cmp}
use Rattle.raft_node.specs.raft_state.Order.{next, vote_cmp}
use Rattle.raft_node.specs.raft_command.declared.command.Command.TheVariants as command
use Rattle.raft_node.specs.raft_command.declared.command.Condition.{Condition}
use Rattle.raft_node.specs.raft_command.declared.message.SnapshotResponse.{SnapshotResponse}
use Rattle.raft_node.specs.raft_command.declared.respond.Respond.TheVariants as respond
use Rattle.raft_node.specs.raft_command.declared.sm.CommandPayload.TheVariants as payload
use Rattle.raft_node.specs.raft_command.Sender.{Sender}
use Rattle.proof_agreement.specs.Machine.{World, Setup, Includes, Agree, leader_log, log_of, vote_of, last_leader}
use Rattle.proof_agreement.specs.Machine as machine
use Rattle.proof_agreement.specs.Stores.{Accepted, Stores, Session, SnapshotRequest, whole, entry_at, last_leader_of, of_list, first_entry}
use Rattle.proof_agreement.specs.Deeds.{TruncateForSnapshot, InstallSnapshot, AcceptSnapshot, MayTruncateForSnapshot, MayInstall, MayAcceptSnapshot, below, does, put}
use Rattle.proof_agreement.proofs.Logs.{Agree-sym, Agree-trans, Agree-less}
use Rattle.proof_agreement.proofs.Invariants.{Covered}
use Rattle.proof_agreement.proofs.Consequences.{decided_agree}
use Rattle.proof_agreement.proofs.StoresBridge.{front_low, snapshot_committed}
use Rattle.proof_agreement.proofs.StoresFollow.{StoreOk, SnapshotRequestOk, StoresFollow}
use Rattle.proof_agreement.proofs.WholeLogs.{whole_below, get_left}
use Rattle.raft_node.specs.raft_store.declared.entry.Entry.{Entry}
use Rattle.raft_node.specs.raft_store.Entries.{entry_meaning}
use Rattle.raft_node.specs.raft_store.Types.{WorldStore, WorldSnapshot}
use Rattle.raft_node.proofs.raft_store_proofs.Lists.{Run, under}
use Rattle.proof_mirror.specs.Ready.{Shaped}
use Rattle.proof_mirror.proofs.Cuts.{cut_values}
use Rattle.proof_mirror.proofs.Shape.{run_of_ids}
use Rattle.raft_node.specs.declared.node.Turn.{Turn}
use Rattle.raft_node.specs.raft_calls.declared.message.Body.TheVariants as body
use Rattle.raft_node.specs.raft_calls.declared.message.Message.{Message}
use Rattle.raft_node.specs.raft_calls.declared.message.Origin.{Origin}
use Rattle.raft_node.specs.Execute.{sending}
use Rattle.proof_deeds.specs.Chains.{stored, Done}
use Rattle.proof_deeds.specs.Follows.{FrontIs, StoreIs, InstalledIs, RestIs, AcceptedId, AcceptedUpTo, VoteTold}
use Rattle.proof_deeds.specs.Images.{Ideal, IdealMessage, IdealStore, IdealEntry, IsWellFormedEntry, EntriesFit, IsNamed, number, image, images}
use Rattle.proof_deeds.proofs.SnapshotPushes.{snap_length}
use Rattle.proof_deeds.proofs.Stored.{each_take, under_take}
use Rattle.proof_deeds.proofs.Tails.{index}
use Rattle.proof_deeds.proofs.VotePushes.{done_nothing, said_rest, replies_is, put_done, same_rest}
use Rattle.proof_deeds.proofs.Worlds.{within_does, within_self, at_put, each_more, rest_on, told_on}

module _ {A : Type 0} (s : Setup A) (since : World A) (W : Stores A) (K : StoresFollow s since W) where
  -- a snapshot that was sent agrees with what is committed here
  pub snapshot_agrees : (n : ℕ) (q : Session) (es : List (machine.Entry A)) → Includes W.messages (SnapshotRequest q es) → (W.store n).committed ≤ length es → Agree (W.store n).committed (of_list s es) (of_list s (whole (W.store n)))
  snapshot_agrees n q es sent l =
      let S : StoreOk s (K.world.node n) (W.store n) = K.store n in
      let o : SnapshotRequestOk s K.world q.leader es = K.told.message (SnapshotRequest q es) sent in
      let C : Covered K.world q.leader (of_list s es) (length es) = o.cover in
      let D : Covered K.world (vote_of K.world n) (log_of K.world n) (K.world.node n).committed = (K.inv.node n).cover in
      let m : ℕ = (W.store n).committed in
      let a : Agree m (leader_log K.world C.leader) (leader_log K.world D.leader) = decided_agree s K.world K.inv C.leader D.leader m (omega (arith, l, C.within)) (omega (arith, S.committed, D.within)) in
      Agree-trans (Agree-less m l C.agree) (Agree-trans a (Agree-trans (Agree-sym (Agree-less m (omega (arith, S.committed)) D.agree)) (Agree-less m (omega (arith, S.committed, D.agree.left)) S.log.agree)))

module _ (s : Setup Entry) where
  -- the leader before an index stays through a cut past it
  last_below : (xs : List IdealEntry) (f i : ℕ) → f ≤ i → last_leader (entry_at s (take i xs)) f ≡ last_leader (entry_at s xs) f
  last_below xs zero i l = refl
  last_below xs (suc f) i l = ap (λ (y : IdealEntry). y.leader) (get_or-take i xs f (first_entry s) (omega (arith, l)))

  -- a store that is cut past its snapshot
  pub store_cut : (u : WorldStore) (i : ℕ) (S : IdealStore) → StoreIs s u S → Shaped entry_meaning u → length u.snap ≤ i → StoreIs s (record u { log = filter (λ (p : ℕ × Entry). nat_lt p.0 i) u.log }) (record S { entries = below S i })
  store_cut u i S h z l =
      let xs : List Entry = values_of u.log in
      let r : Run index (next u.front) (values_of u.log) = run_of_ids entry_meaning (next u.front) (values_of u.log) z.run in
      let k : ℕ = i - next u.front in
      let q : next u.front + k ≡ i = omega (arith, l, z.front) in
      let p : values_of (filter (λ (p : ℕ × Entry). nat_lt p.0 i) u.log) ≡ take k (values_of u.log) = cut_values entry_meaning u i z.keys ∙ (ap (λ j. under index j (values_of u.log)) (sym q) ∙ under_take k (next u.front) (values_of u.log) r) in
      let n : length S.snapshot ≡ length u.snap = snap_length s u S h z in
      let low : S.front ≤ length S.snapshot = omega (arith, n, h.front, z.front) in
      let w : whole (record S { entries = below S i }) ≡ take i (whole S) = whole_below S low i (omega (arith, n, l)) in
      record {
        vote = h.vote;
        vote_committed = h.vote_committed;
        front = h.front;
        entries = ap₂ (λ j (ys : List IdealEntry). take (i - j) ys) h.front h.entries ∙ (take-map image k (values_of u.log) ∙ ap images (sym p));
        snapshot = h.snapshot;
        saved = h.saved;
        saved_leader = h.saved_leader;
        applied = h.applied;
        vote_named = h.vote_named;
        entries_fit = subst (EntriesFit s) (sym p) (each_take (IsWellFormedEntry s) k (values_of u.log) h.entries_fit);
        snapshot_fit = h.snapshot_fit;
        front_is = h.front_is;
        saved_named = h.saved_named;
      }

module _ (s : Setup Entry) (t : Turn) (v : LeaderId ℕ) where
  -- a cut before an install
  pub done_cut_install : (u : WorldStore) (since : LogId ℕ) (k : ℕ) (q : Session) (es : List IdealEntry) (W : Ideal) → StoreIs s u (W.store t.id) → Shaped entry_meaning u → length u.snap ≤ since.index → MayTruncateForSnapshot s W t.id since.index k q es
      → Done s t v u (command.DeleteConflictLog since) W (does s W (TruncateForSnapshot t.id since.index k q es))
  done_cut_install u since k q es W h z l m =
      let S : IdealStore = record (W.store t.id) { entries = below (W.store t.id) since.index } in
      put_done s t v u (command.DeleteConflictLog since) W S (TruncateForSnapshot t.id since.index k q es) refl m tt tt refl refl (store_cut s u since.index (W.store t.id) h z l)
      refl refl (omega arith) (λ y g o k. same_rest s t v y (stored (command.DeleteConflictLog since) y.store) (put W t.id S) k)

  -- an install
  pub done_install : (u : WorldStore) (seq k : ℕ) (snapshot : WorldSnapshot) (q : Session) (since : World Entry) (W : Ideal) → StoresFollow s since W → StoreIs s u (W.store t.id) → EntriesFit s snapshot.snapshot → MayInstall s W t.id k q (images snapshot.snapshot)
      → Done s t v u (command.StateMachine (record { seq = seq; payload = payload.InstallFullSnapshot snapshot })) W (does s W (InstallSnapshot t.id k q (images snapshot.snapshot)))
  done_install u seq k snapshot q since W K h fit m =
      let es : List IdealEntry = images snapshot.snapshot in
      let O : IdealStore = W.store t.id in
      let S : IdealStore = record (W.store t.id) { snapshot = images snapshot.snapshot; committed = suc k } in
      let V : Ideal = does s W (InstallSnapshot t.id k q (images snapshot.snapshot)) in
      let at : V.store t.id ≡ S = at_put W t.id S in
      record {
        deeds = InstallSnapshot t.id k q (images snapshot.snapshot) ∷ [];
        claimed = (tt, tt);
        answered = (tt, tt);
        commits = refl;
        by = (refl, tt);
        allowed = (m, tt);
        result = refl;
        store = subst (StoreIs s (stored (command.StateMachine (record { seq = seq; payload = payload.InstallFullSnapshot snapshot })) u)) (sym at) (record {
          vote = h.vote;
          vote_committed = h.vote_committed;
          front = h.front;
          entries = h.entries;
          snapshot = refl;
          saved = h.saved;
          saved_leader = h.saved_leader;
          applied = sym m.ends ∙ length-map snapshot.snapshot image;
          vote_named = h.vote_named;
          entries_fit = h.entries_fit;
          snapshot_fit = fit;
          front_is = front u.front (omega (arith, h.front, front_low s since W K t.id)) h.front_is;
          saved_named = h.saved_named;
        });
        rest = λ w g o r _ _.
            let z : RestIs s t.id w V = rest_on s W V (within_does s W (InstallSnapshot t.id k q (images snapshot.snapshot)) tt) t.id w (ap (λ (Z : IdealStore). Z.session) at) (ap (λ (Z : IdealStore). Z.noted) at) r in
            record {
              session = z.session;
              targets = z.targets;
              noted = z.noted;
              records = record {
                bag = z.records.bag;
                executed = z.records.executed;
                installed = each_more (InstalledIs V) w.records.installed _ z.records.installed (inl refl, tt);
                decided = z.records.decided;
                established = z.records.established;
              };
            };
      }
    where
      agrees : Agree (W.store t.id).committed (of_list s (images snapshot.snapshot)) (of_list s (whole (W.store t.id)))
      agrees = snapshot_agrees s since W K t.id q (images snapshot.snapshot) m.request.sent (omega (arith, m.past, m.ends))

      front : (o : Option (LogId ℕ)) → next o ≤ length (W.store t.id).snapshot → FrontIs s o (W.store t.id).snapshot → FrontIs s o (images snapshot.snapshot)
      front None l k = tt
      front (Some x) l k = (
        k.0,
        ap (λ (y : IdealEntry). y.leader) (agrees.same x.index (omega (arith, l, snapshot_committed s since W K t.id)) ∙ get_left s (W.store t.id).snapshot (drop (length (W.store t.id).snapshot - (W.store t.id).front) (W.store t.id).entries) x.index (omega (arith, l))) ∙ k.1,
      )

  -- a snapshot whose entries are all committed is accepted
  pub done_accept_snapshot : (u : WorldStore) (when : Option (Condition ℕ)) (sender : Sender (SnapshotResponse ℕ)) (m : Message) (o : Origin) (snapshot : WorldSnapshot) (q : Session) (W : Ideal) → StoreIs s u (W.store t.id) → t.request ≡ Some m → m.body ≡ body.SnapshotRequest o snapshot
      → q.leader ≡ number o.session_id.vote.leader_id → MayAcceptSnapshot W t.id q (images snapshot.snapshot) → VoteTold sender.value.vote W
      → (x : LogId ℕ) → snapshot.meta.last_log_id ≡ Some x → length (images snapshot.snapshot) ≡ suc x.index → last_leader_of s (images snapshot.snapshot) ≡ number x.leader_id → IsNamed x.leader_id → sender.value.vote ≡ o.session_id.vote → IsNamed o.session_id.vote.leader_id
      → Done s t v u (command.Respond when (respond.InstallFullSnapshot sender)) W (does s W (AcceptSnapshot t.id q (images snapshot.snapshot)))
  done_accept_snapshot u when sender m o snapshot q W h r b e k told x l size last upto_named same named =
      let V : Ideal = does s W (AcceptSnapshot t.id q (images snapshot.snapshot)) in
      record {
        deeds = AcceptSnapshot t.id q (images snapshot.snapshot) ∷ [];
        claimed = (tt, tt);
        answered = (
          (
            record { from = t.id; to = m.from; body = body.SnapshotReply o sender.value snapshot.meta.last_log_id },
            subst (λ ms. Contains ms (record { from = t.id; to = m.from; body = body.SnapshotReply o sender.value snapshot.meta.last_log_id })) (sym (replies_is s t v (respond.InstallFullSnapshot sender) m (body.SnapshotRequest o snapshot) r b)) (0, omega arith, refl),
            record { from = refl; leader = o.session_id.vote.leader_id; named = named; is = sym e; upto = x; upto_named = upto_named; last_is = sym last; ends = sym size; acknowledges = (refl, same, l) },
          ),
          tt,
        );
        commits = refl;
        by = (refl, tt);
        allowed = (k, tt);
        result = refl;
        store = h;
        rest = λ w g _ z _ _.
            subst (λ ms. RestIs s t.id (sending ms w) V) (sym (replies_is s t v (respond.InstallFullSnapshot sender) m (body.SnapshotRequest o snapshot) r b))
            (said_rest s t v W V (record { from = t.id; to = m.from; body = body.SnapshotReply o sender.value snapshot.meta.last_log_id } ∷ []) w (within_does s W (AcceptSnapshot t.id q (images snapshot.snapshot)) tt) refl z
            (record { told = told_on s W V (within_does s W (AcceptSnapshot t.id q (images snapshot.snapshot)) tt) sender.value.vote told; success = λ _. subst (λ y. AcceptedUpTo t.id o.session_id.vote y V) (sym l) accepted }, tt));
      }
    where
      accepted : AcceptedId t.id o.session_id.vote.leader_id x (does s W (AcceptSnapshot t.id q (images snapshot.snapshot)))
      accepted = record { named = upto_named; session = q; leader = e; sent = inl (ap₂ (λ i n. let a : IdealMessage = Accepted t.id q i n in a) last size) }

  -- a reply under a greater vote, or to an empty snapshot, accepts nothing
  pub done_unaccepted_snapshot : (u : WorldStore) (when : Option (Condition ℕ)) (sender : Sender (SnapshotResponse ℕ)) (m : Message) (o : Origin) (snapshot : WorldSnapshot) (W : Ideal) → StoreIs s u (W.store t.id) → t.request ≡ Some m → m.body ≡ body.SnapshotRequest o snapshot
      → VoteTold sender.value.vote W → (is_gt (vote_cmp nat_cmp sender.value.vote o.session_id.vote) ≡ true) ⊎ (snapshot.meta.last_log_id ≡ None) → Done s t v u (command.Respond when (respond.InstallFullSnapshot sender)) W W
  done_unaccepted_snapshot u when sender m o snapshot W h r b told n =
      done_nothing s t v u (command.Respond when (respond.InstallFullSnapshot sender)) W h refl refl
      (λ w g _ z _.
      subst (λ ms. RestIs s t.id (sending ms w) W) (sym (replies_is s t v (respond.InstallFullSnapshot sender) m (body.SnapshotRequest o snapshot) r b))
      (said_rest s t v W W (record { from = t.id; to = m.from; body = body.SnapshotReply o sender.value snapshot.meta.last_log_id } ∷ []) w (within_self W) refl z
      (record { told = told; success = λ p. ⊎_elim (λ f. absurd (true≢false (sym f ∙ p))) (λ e. subst (λ x. AcceptedUpTo t.id o.session_id.vote x W) (sym e) tt) n }, tt)))
