-- Commits in the queue, and this node's own acknowledgement.
use Rattle.std.proofs.Common.{◌+◌, ◌<◌, ◌≤◌, ◌≡◌, true, List, [], ◌∷◌, ◌++◌, length, map, arith, refl, sym, ap, ◌∙◌, subst, append_assoc, Option, Some, None}
use Rattle.std.specs.Prelude.{if◌then◌else◌, IfSome}
use Rattle.std.specs.declared.cmp.Ordering.{Ordering}
use Rattle.std.specs.Ordering.{is_eq, is_le}
use Rattle.std.proofs.lemmas.Bool.{cond_both}
use Rattle.raft_state.specs.declared.config.RaftEntry
use Rattle.raft_state.specs.declared.ids.LogId.{LogId}
use Rattle.raft_state.specs.declared.state.RaftState.{RaftState}
use Rattle.raft_state.specs.Log.{at}
use Rattle.raft_state.specs.Order.{next, last_id_cmp, leader_id_cmp}
use Rattle.raft_state.specs.Policy.{should_snapshot}
use Rattle.raft_state.specs.State.{commit, commits, settle}
use Rattle.raft_command.specs.Push.{ordered, committed_upto}
use Rattle.raft_command.specs.Queue.{queued}
use Rattle.raft_command.specs.declared.command.Command.{Command}
use Rattle.raft_command.specs.declared.command.Command.TheVariants as command
use Rattle.raft_command.specs.declared.config.EngineConfig.{EngineConfig}
use Rattle.raft_command.specs.declared.sm.CommandPayload.TheVariants as payload
use Rattle.raft_steps.specs.Commit.{commit_by}
use Rattle.raft_steps.specs.FollowingHandler.{commit_target, commit_entries}
use Rattle.raft_steps.specs.Parts.{Core}
use Rattle.raft_steps.specs.ReplicationHandler.{try_commit_quorum_accepted}
use Rattle.raft_steps.specs.SnapshotHandler.{trigger_snapshot, snapshot_where_due}
use Rattle.raft_store.specs.Store.{Store, whole, exec, exec_all}
use Rattle.proof_mirror.specs.Ready.{Shaped, FitsBefore, Ready, InStep, Awaits, Pending, CommitFits}
use Rattle.proof_mirror.proofs.Commits.{step_commit, whole_at}
use Rattle.proof_mirror.proofs.Queued.{step_alike, after, awaits_idle, awaits_more, ready_end}
use Rattle.proof_mirror.proofs.Shape.{Shape, shape_of, shaped_of, applied_length, applied_upto}

module _ {NID N : Type 0} (cmp : NID → NID → Ordering) where
  commit_ids : (s : RaftState NID N) (x : LogId NID) → (commit cmp s (Some x)).ids ≡ s.ids
  commit_ids s x = cond_both (commits cmp s (Some x)) (record (settle cmp s (Some x)) { committed = Some x }) s (λ z. z.ids ≡ s.ids) (λ _. by_settle) (λ _. refl) where
    by_settle : (record (settle cmp s (Some x)) { committed = Some x }).ids ≡ s.ids
    by_settle = cond_both (is_le (last_id_cmp cmp s.em.log_id (Some x))) (record s { cm = s.em }) s (λ z. z.ids ≡ s.ids) (λ _. refl) (λ _. refl)

module _ {C NID N E D R S : Type 0} (cmp : NID → NID → Ordering) (config : EngineConfig NID) where
  pub trigger_ids : (c : Core C NID N E D R S) → (trigger_snapshot c).state.ids ≡ c.state.ids
  unfolding trigger_snapshot
  trigger_ids c = cond_both c.state.building c (record { state = record c.state { building = true }; output = ordered c.output payload.BuildSnapshot }) (λ z. z.state.ids ≡ c.state.ids) (λ _. refl) (λ _. refl)

  due_ids : (c : Core C NID N E D R S) → (snapshot_where_due config c).state.ids ≡ c.state.ids
  unfolding snapshot_where_due
  due_ids c = cond_both (should_snapshot config.snapshot_policy c.state) (trigger_snapshot c) c (λ z. z.state.ids ≡ c.state.ids) (λ _. trigger_ids c) (λ _. refl)

  pub commit_by_ids : (first : List (Command C NID N E D R S)) (x : Option (LogId NID)) (c : Core C NID N E D R S) → (commit_by cmp config first x c).state.ids ≡ c.state.ids
  unfolding commit_by
  commit_by_ids first None c = refl
  commit_by_ids first (Some x) c =
      let done : Core C NID N E D R S = record { state = commit cmp c.state (Some x); output = committed_upto (queued c.output first) c.state.committed x } in
      cond_both (commits cmp c.state (Some x)) (snapshot_where_due config done) c (λ z. z.state.ids ≡ c.state.ids) (λ _. due_ids done ∙ commit_ids cmp c.state x) (λ _. refl)

module _ {C NID N E D R S : Type 0} (cmp : NID → NID → Ordering) (entry : RaftEntry.Ghosts E NID N) (entries_in : S → List E) where
  pub pending_trigger : (t : Store NID N E) (c : Core C NID N E D R S) → Pending cmp entry entries_in t c → Pending cmp entry entries_in t (trigger_snapshot c)
  unfolding trigger_snapshot
  pending_trigger t c p =
      let s2 : RaftState NID N = record c.state { building = true } in
      let build : Command C NID N E D R S = command.StateMachine (record { seq = c.output.seq + 1; payload = payload.BuildSnapshot }) in
      cond_both c.state.building c (record { state = s2; output = ordered c.output payload.BuildSnapshot }) (Pending cmp entry entries_in t)
      (λ _. p)
      (λ _. awaits_idle cmp entry entries_in t c.output.items (build ∷ []) c.state s2 p (refl, tt, tt)
      (step_alike entry (after cmp entry entries_in t c) c.state s2 (record { ids = refl; purged = refl; purge_to = refl; snap = refl; committed = refl; em = refl; cm = refl }) refl p.in_step))

module _ {C NID N E D R S : Type 0} (cmp : NID → NID → Ordering) (entry : RaftEntry.Ghosts E NID N) (entries_in : S → List E) (config : EngineConfig NID) where
  pending_due : (t : Store NID N E) (c : Core C NID N E D R S) → Pending cmp entry entries_in t c → Pending cmp entry entries_in t (snapshot_where_due config c)
  unfolding snapshot_where_due
  pending_due t c p = cond_both (should_snapshot config.snapshot_policy c.state) (trigger_snapshot c) c (Pending cmp entry entries_in t) (λ _. pending_trigger cmp entry entries_in t c p) (λ _. p)

  -- what is told of a commit, before it
  abbrev pub Tells : LogId NID → List (Command C NID N E D R S) → Type 0
  Tells x [] = Unit {0}
  Tells x (c ∷ cs) = (c ≡ command.ReplicateCommitted (Some x)) × Tells x cs

  told_after : (T : Store NID N E) (x : LogId NID) (cs : List (Command C NID N E D R S)) (d : Command C NID N E D R S) → Tells x cs → exec_all entry entries_in T (cs ++ d ∷ []) ≡ exec entry entries_in d T
  told_after T x [] d h = refl
  told_after T x (c ∷ cs) d h = subst (λ b. exec_all entry entries_in (exec entry entries_in b T) (cs ++ d ∷ []) ≡ exec entry entries_in d T) (sym h.0) (told_after T x cs d h.1)

  told_ready : (T : Store NID N E) (x : LogId NID) (cs : List (Command C NID N E D R S)) (d : Command C NID N E D R S) → Tells x cs → Shaped entry T → FitsBefore cmp entry entries_in T [] d → Shaped entry (exec entry entries_in d T)
      → x.index < length (exec entry entries_in d T).applied → Ready cmp entry entries_in T (cs ++ d ∷ [])
  told_ready T x [] d h z f y l = (z, f, y)
  told_ready T x (c ∷ cs) d h z f y l =
      let e : length (exec_all entry entries_in T (cs ++ d ∷ [])).applied ≡ length (exec entry entries_in d T).applied = ap (λ u. length u.applied) (told_after T x cs d h.1) in
      subst (λ b. Ready cmp entry entries_in T (b ∷ (cs ++ d ∷ []))) (sym h.0) (z, omega (arith, e, l), told_ready T x cs d h.1 z f y l)

  -- a commit, behind what is told of it
  pub pending_commit : (t : Store NID N E) (first : List (Command C NID N E D R S)) (x : LogId NID) (c : Core C NID N E D R S) → Pending cmp entry entries_in t c
      → Tells x first → CommitFits cmp c.state x → Pending cmp entry entries_in t (commit_by cmp config first (Some x) c)
  unfolding commit_by
  pending_commit t first x c p i f =
      let s : RaftState NID N = c.state in
      let U : Store NID N E = after cmp entry entries_in t c in
      let done : Core C NID N E D R S = record { state = commit cmp s (Some x); output = committed_upto (queued c.output first) s.committed x } in
      let told : Command C NID N E D R S = command.Commit (c.output.seq + 1) s.committed x in
      cond_both (commits cmp s (Some x)) (snapshot_where_due config done) c (Pending cmp entry entries_in t)
      (λ e.
      let g : (at s.ids x.index ≡ Some x) × (next s.committed ≤ x.index) = f e in
      let h : Shape entry U s = shape_of entry U s p.in_step.mirrors p.in_step.marks in
      let j : InStep entry (exec entry entries_in told U) (record (settle cmp s (Some x)) { committed = Some x }) = step_commit entry cmp U s x p.in_step g.0 g.1 in
      let j2 : InStep entry (exec entry entries_in told U) (commit cmp s (Some x)) =
      subst (λ b. InStep entry (exec entry entries_in told U) (if b then record (settle cmp s (Some x)) { committed = Some x } else s)) (sym e) j in
      let w : at (map entry.id_of (whole U)) x.index ≡ Some x = whole_at entry U s x.index p.in_step.mirrors h (omega (arith, h.settled, g.1)) ∙ g.0 in
      let z : x.index < length (exec entry entries_in told U).applied = (let q : length (exec entry entries_in told U).applied ≡ x.index + 1 = applied_length entry (exec entry entries_in told U) (record (settle cmp s (Some x)) { committed = Some x }) j in omega (arith, q)) in
      let r : Ready cmp entry entries_in U (first ++ told ∷ []) = told_ready U x first told i (ready_end cmp entry entries_in t c.output.items p.ready) (w, omega (arith, applied_upto entry U s p.in_step, g.1)) (shaped_of entry (exec entry entries_in told U) (commit cmp s (Some x)) j2) z in
      pending_due t done (subst (λ cs. Awaits cmp entry entries_in t cs (commit cmp s (Some x))) (sym (append_assoc c.output.items first (told ∷ [])))
      (awaits_more cmp entry entries_in t c.output.items (first ++ told ∷ []) s (commit cmp s (Some x)) p r
      (subst (λ u. InStep entry u (commit cmp s (Some x))) (sym (told_after U x first told i)) j2))))
      (λ _. p)

  -- a leader's
  pub pending_quorum : (t : Store NID N E) (x : Option (LogId NID)) (c : Core C NID N E D R S) → Pending cmp entry entries_in t c → IfSome x (CommitFits cmp c.state) → Pending cmp entry entries_in t (try_commit_quorum_accepted cmp config x c)
  unfolding try_commit_quorum_accepted
  pending_quorum t None c p f = p
  pending_quorum t (Some x) c p f =
      cond_both (is_eq (leader_id_cmp cmp x.leader_id c.state.vote.leader_id)) (commit_by cmp config (command.ReplicateCommitted (Some x) ∷ []) (Some x) c) c (Pending cmp entry entries_in t)
      (λ _. pending_commit t (command.ReplicateCommitted (Some x) ∷ []) x c p (refl, tt) f)
      (λ _. p)

  -- a follower's
  pub pending_commit_entries : (t : Store NID N E) (x : Option (LogId NID)) (c : Core C NID N E D R S) → Pending cmp entry entries_in t c → IfSome (commit_target cmp c.state x) (CommitFits cmp c.state) → Pending cmp entry entries_in t (commit_entries cmp config x c)
  unfolding commit_entries commit_by
  pending_commit_entries t x c p f = go (commit_target cmp c.state x) f where
    go : (o : Option (LogId NID)) → IfSome o (CommitFits cmp c.state) → Pending cmp entry entries_in t (commit_by cmp config [] o c)
    go None f = p
    go (Some y) f = pending_commit t [] y c p tt f
