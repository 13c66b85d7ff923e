-- Commands queued after others, and states that differ in parts that a store doesn't have.
use Rattle.std.proofs.Common.{◌+◌, ◌≤◌, ◌≡◌, inl, inr, ⊎_elim, List, [], ◌∷◌, ◌++◌, length, arith, refl, sym, ap, ◌∙◌, subst, take, Some, None, length-append}
use Rattle.std.specs.declared.cmp.Ordering.{Ordering}
use Rattle.raft_state.specs.declared.config.RaftEntry
use Rattle.raft_state.specs.declared.ids.Vote.{Vote}
use Rattle.raft_state.specs.declared.state.RaftState.{RaftState}
use Rattle.raft_state.specs.declared.state.ServerState.{ServerState}
use Rattle.raft_state.specs.declared.state.ServerState.TheVariants as role
use Rattle.raft_state.specs.Invariants.{first_index}
use Rattle.raft_state.specs.Log.{last}
use Rattle.raft_state.specs.LogLaws.{IsRun}
use Rattle.raft_state.specs.Order.{next}
use Rattle.raft_state.specs.State.{server_state}
use Rattle.raft_command.specs.declared.command.Command.{Command}
use Rattle.raft_command.specs.declared.command.Command.TheVariants.{SaveVote, AppendInputEntries, DeleteConflictLog, PurgeLog, Commit, StateMachine, BecomeLeader, QuitLeader, ReplicateCommitted, Replicate, RebuildReplicationStreams, SendVote, Respond}
use Rattle.raft_command.specs.declared.sm.CommandPayload.{CommandPayload}
use Rattle.raft_command.specs.declared.sm.CommandPayload.TheVariants.{BuildSnapshot, GetSnapshot, BeginReceivingSnapshot, InstallFullSnapshot, Apply}
use Rattle.raft_command.specs.declared.config.EngineConfig.{EngineConfig}
use Rattle.raft_steps.specs.Parts.{Core}
use Rattle.raft_steps.specs.ServerStateHandler.{role_commands, update_role}
use Rattle.raft_store.specs.Store.{Store, due, whole, exec, exec_all, exec_payload}
use Rattle.raft_store.specs.Mirror.{Mirrors}
use Rattle.proof_mirror.specs.Ready.{Shaped, CanOrder, Fits, FitsBefore, Ready, Marks, InStep, Awaits, Pending}
use Rattle.proof_mirror.proofs.Shape.{shaped_of}

-- the parts of a state that a store tells of stay, and the marks
pub record Alike {NID N : Type 0} (s s2 : RaftState NID N) : Type 0 where
  pub ids : s2.ids ≡ s.ids
  pub purged : s2.purged ≡ s.purged
  pub purge_to : s2.purge_to ≡ s.purge_to
  pub snap : s2.snap ≡ s.snap
  pub committed : s2.committed ≡ s.committed
  pub em : s2.em ≡ s.em
  pub cm : s2.cm ≡ s.cm

pub marks_alike : {NID N : Type 0} (s s2 : RaftState NID N) → Alike s s2 → Marks s → Marks s2
marks_alike s s2 a k =
    let p : next s2.purged ≡ next s.purged = ap next a.purged in
    let q : next s2.purge_to ≡ next s.purge_to = ap next a.purge_to in
    let n : next s2.snap.last_log_id ≡ next s.snap.last_log_id = ap (λ m. next m.last_log_id) a.snap in
    let x : next s2.committed ≡ next s.committed = ap next a.committed in
    let l : next (last s2.ids) ≡ next (last s.ids) = ap (λ ids. next (last ids)) a.ids in
    record {
      run = subst (λ f. IsRun (first_index f) s2.ids) (sym a.purged) (subst (IsRun (first_index s.purged)) (sym a.ids) k.run);
      purged = omega (arith, p, q, k.purged);
      target = omega (arith, q, n, k.target);
      snapshot = omega (arith, n, x, k.snapshot);
      committed = omega (arith, x, l, k.committed);
    }

module _ {NID N E : Type 0} (entry : RaftEntry.Ghosts E NID N) where
  -- such a state under another vote
  pub step_vote : (t : Store NID N E) (s s2 : RaftState NID N) (v : Vote NID) → Alike s s2 → s2.vote ≡ v → InStep entry t s → InStep entry (record t { vote = v }) s2
  step_vote t s s2 v a e j =
      let m : Mirrors entry t s = j.mirrors in
      record {
        mirrors = record {
          log = record { vote_is = e; ids_are = a.ids ∙ m.log.ids_are; purged_is = a.purged ∙ m.log.purged_is; keys = m.log.keys };
          meta = a.snap ∙ m.meta;
          tells = m.tells;
          snap_run = m.snap_run;
          em = a.em ∙ m.em;
          cm = ⊎_elim (λ e. inl (a.cm ∙ (e ∙ sym a.em))) (λ e. inr (a.cm ∙ e)) m.cm;
        };
        applied = j.applied ∙ ap (λ x. take (next x) (whole t)) (sym a.committed);
        marks = marks_alike s s2 a j.marks;
      }

  -- and under the same
  pub step_alike : (t : Store NID N E) (s s2 : RaftState NID N) → Alike s s2 → s2.vote ≡ s.vote → InStep entry t s → InStep entry t s2
  step_alike t s s2 a e j = step_vote t s s2 t.vote a (e ∙ j.mirrors.log.vote_is) j

module _ {C NID N E D R S : Type 0} (cmp : NID → NID → Ordering) (entry : RaftEntry.Ghosts E NID N) (entries_in : S → List E) where
  -- the store once the queued commands are done
  abbrev pub after : Store NID N E → Core C NID N E D R S → Store NID N E
  after t c = exec_all entry entries_in t c.output.items

  pub exec_all-append : (t : Store NID N E) (cs ds : List (Command C NID N E D R S)) → exec_all entry entries_in t (cs ++ ds) ≡ exec_all entry entries_in (exec_all entry entries_in t cs) ds
  exec_all-append t [] ds = refl
  exec_all-append t (c ∷ cs) ds = exec_all-append (exec entry entries_in c t) cs ds

  -- a command that finds what it needs leaves what was applied, or adds to it
  pub applied_more : (t : Store NID N E) (c : Command C NID N E D R S) → Fits cmp entry entries_in t c → length t.applied ≤ length (exec entry entries_in c t).applied
  applied_more t (SaveVote v) f = omega arith
  applied_more t (AppendInputEntries v es) f = omega arith
  applied_more t (DeleteConflictLog since) f = omega arith
  applied_more t (PurgeLog upto) f = omega arith
  applied_more t (Commit seq already upto) f = let e : length (t.applied ++ due t upto) ≡ length t.applied + length (due t upto) = length-append t.applied (due t upto) in omega (arith, e)
  applied_more t (StateMachine c) f = by c.payload f where
    by : (p : CommandPayload C NID N E D R S) → CanOrder cmp entry entries_in t p → length t.applied ≤ length (exec_payload entry entries_in p t).applied
    by BuildSnapshot f = omega arith
    by (GetSnapshot _) f = omega arith
    by (BeginReceivingSnapshot _) f = omega arith
    by (InstallFullSnapshot s) f = omega (arith, f.past)
    by (Apply _) f = omega arith
  applied_more t BecomeLeader f = omega arith
  applied_more t QuitLeader f = omega arith
  applied_more t (ReplicateCommitted _) f = omega arith
  applied_more t (Replicate _ _) f = omega arith
  applied_more t (RebuildReplicationStreams _) f = omega arith
  applied_more t (SendVote _) f = omega arith
  applied_more t (Respond _ _) f = omega arith

  pub fits_of : (t : Store NID N E) (cs : List (Command C NID N E D R S)) (c : Command C NID N E D R S) → FitsBefore cmp entry entries_in t cs c → Fits cmp entry entries_in t c
  fits_of t cs (SaveVote v) f = f
  fits_of t cs (AppendInputEntries v es) f = f
  fits_of t cs (DeleteConflictLog since) f = f
  fits_of t cs (PurgeLog upto) f = f
  fits_of t cs (Commit seq already upto) f = f
  fits_of t cs (StateMachine c) f = f
  fits_of t cs BecomeLeader f = tt
  fits_of t cs QuitLeader f = tt
  fits_of t cs (ReplicateCommitted _) f = tt
  fits_of t cs (Replicate target g) f = f
  fits_of t cs (RebuildReplicationStreams _) f = tt
  fits_of t cs (SendVote req) f = f
  fits_of t cs (Respond _ _) f = tt

  -- so do ready ones
  pub applied_on : (t : Store NID N E) (cs : List (Command C NID N E D R S)) → Ready cmp entry entries_in t cs → length t.applied ≤ length (exec_all entry entries_in t cs).applied
  applied_on t [] h = omega arith
  applied_on t (c ∷ cs) h = omega (arith, applied_more t c (fits_of t cs c h.1), applied_on (exec entry entries_in c t) cs h.2)

  pub ready_end : (t : Store NID N E) (cs : List (Command C NID N E D R S)) → Ready cmp entry entries_in t cs → Shaped entry (exec_all entry entries_in t cs)
  ready_end t [] h = h
  ready_end t (c ∷ cs) h = ready_end (exec entry entries_in c t) cs h.2

  -- what stands before commands stands before more of them
  pub fits_append : (t : Store NID N E) (cs ds : List (Command C NID N E D R S)) (c : Command C NID N E D R S) → FitsBefore cmp entry entries_in t cs c → Ready cmp entry entries_in (exec_all entry entries_in (exec entry entries_in c t) cs) ds → FitsBefore cmp entry entries_in t (cs ++ ds) c
  fits_append t cs ds (ReplicateCommitted None) f k = tt
  fits_append t cs ds (ReplicateCommitted (Some x)) f k =
      let l : length (exec_all entry entries_in t cs).applied ≤ length (exec_all entry entries_in (exec_all entry entries_in t cs) ds).applied = applied_on (exec_all entry entries_in t cs) ds k in
      let e : length (exec_all entry entries_in t (cs ++ ds)).applied ≡ length (exec_all entry entries_in (exec_all entry entries_in t cs) ds).applied = ap (λ u. length u.applied) (exec_all-append t cs ds) in
      omega (arith, e, l, f)
  fits_append t cs ds (SaveVote v) f k = f
  fits_append t cs ds (AppendInputEntries v es) f k = f
  fits_append t cs ds (DeleteConflictLog since) f k = f
  fits_append t cs ds (PurgeLog upto) f k = f
  fits_append t cs ds (Commit seq already upto) f k = f
  fits_append t cs ds (StateMachine c) f k = f
  fits_append t cs ds BecomeLeader f k = tt
  fits_append t cs ds QuitLeader f k = tt
  fits_append t cs ds (Replicate target g) f k = f
  fits_append t cs ds (RebuildReplicationStreams _) f k = tt
  fits_append t cs ds (SendVote req) f k = f
  fits_append t cs ds (Respond _ _) f k = tt

  pub ready_append : (t : Store NID N E) (cs ds : List (Command C NID N E D R S)) → Ready cmp entry entries_in t cs → Ready cmp entry entries_in (exec_all entry entries_in t cs) ds → Ready cmp entry entries_in t (cs ++ ds)
  ready_append t [] ds h k = k
  ready_append t (c ∷ cs) ds h k = (h.0, fits_append t cs ds c h.1 k, ready_append (exec entry entries_in c t) cs ds h.2 k)

  -- commands at the queue's end
  pub awaits_more : (t : Store NID N E) (cs ds : List (Command C NID N E D R S)) (s s2 : RaftState NID N) → Awaits cmp entry entries_in t cs s
      → Ready cmp entry entries_in (exec_all entry entries_in t cs) ds → InStep entry (exec_all entry entries_in (exec_all entry entries_in t cs) ds) s2
      → Awaits cmp entry entries_in t (cs ++ ds) s2
  awaits_more t cs ds s s2 p r j = record { ready = ready_append t cs ds p.ready r; in_step = subst (λ u. InStep entry u s2) (sym (exec_all-append t cs ds)) j }

  -- one more
  pub awaits_one : (t : Store NID N E) (cs : List (Command C NID N E D R S)) (c : Command C NID N E D R S) (s s2 : RaftState NID N) → Awaits cmp entry entries_in t cs s
      → FitsBefore cmp entry entries_in (exec_all entry entries_in t cs) [] c → InStep entry (exec entry entries_in c (exec_all entry entries_in t cs)) s2
      → Awaits cmp entry entries_in t (cs ++ c ∷ []) s2
  awaits_one t cs c s s2 p f j = awaits_more t cs (c ∷ []) s s2 p (ready_end t cs p.ready, f, shaped_of entry (exec entry entries_in c (exec_all entry entries_in t cs)) s2 j) j

  -- another state
  pub awaits_state : (t : Store NID N E) (cs : List (Command C NID N E D R S)) (s s2 : RaftState NID N) → Awaits cmp entry entries_in t cs s → InStep entry (exec_all entry entries_in t cs) s2 → Awaits cmp entry entries_in t cs s2
  awaits_state t cs s s2 p j = record { ready = p.ready; in_step = j }

  -- commands that find what they need, and leave the store as it is
  abbrev pub Idle : Store NID N E → List (Command C NID N E D R S) → Type 0
  Idle t [] = Unit {0}
  Idle t (c ∷ cs) = (exec entry entries_in c t ≡ t) × FitsBefore cmp entry entries_in t [] c × Idle t cs

  pub idle_ready : (t : Store NID N E) (cs : List (Command C NID N E D R S)) → Shaped entry t → Idle t cs → Ready cmp entry entries_in t cs
  idle_ready t [] h i = h
  idle_ready t (c ∷ cs) h i =
      let k : Ready cmp entry entries_in (exec entry entries_in c t) cs = subst (λ u. Ready cmp entry entries_in u cs) (sym i.0) (idle_ready t cs h i.2) in
      (h, fits_append t [] cs c i.1 k, k)

  pub idle_same : (t : Store NID N E) (cs : List (Command C NID N E D R S)) → Idle t cs → exec_all entry entries_in t cs ≡ t
  idle_same t [] i = refl
  idle_same t (c ∷ cs) i = ap (λ u. exec_all entry entries_in u cs) i.0 ∙ idle_same t cs i.2

  pub idle_append : (t : Store NID N E) (cs ds : List (Command C NID N E D R S)) → Idle t cs → Idle t ds → Idle t (cs ++ ds)
  idle_append t [] ds i k = k
  idle_append t (c ∷ cs) ds i k = (i.0, i.1, idle_append t cs ds i.2 k)

  pub awaits_idle : (t : Store NID N E) (cs ds : List (Command C NID N E D R S)) (s s2 : RaftState NID N) → Awaits cmp entry entries_in t cs s
      → Idle (exec_all entry entries_in t cs) ds → InStep entry (exec_all entry entries_in t cs) s2 → Awaits cmp entry entries_in t (cs ++ ds) s2
  awaits_idle t cs ds s s2 p i j =
      awaits_more t cs ds s s2 p (idle_ready (exec_all entry entries_in t cs) ds (ready_end t cs p.ready) i)
      (subst (λ u. InStep entry u s2) (sym (idle_same (exec_all entry entries_in t cs) ds i)) j)

  -- a command that is executed goes from the queue to the store
  pub awaits_pop : (t : Store NID N E) (c : Command C NID N E D R S) (cs : List (Command C NID N E D R S)) (s : RaftState NID N) → Awaits cmp entry entries_in t (c ∷ cs) s
      → Fits cmp entry entries_in t c × Awaits cmp entry entries_in (exec entry entries_in c t) cs s
  awaits_pop t c cs s p = (fits_of t cs c p.ready.1, record { ready = p.ready.2; in_step = p.in_step })

module _ (C D R : Type 0) {NID N E S : Type 0} (cmp : NID → NID → Ordering) (entry : RaftEntry.Ghosts E NID N) (entries_in : S → List E) where
  -- a change of role
  pub role_idle : (t : Store NID N E) (a b : ServerState) → Idle {C = C} {D = D} {R = R} cmp entry entries_in t (role_commands a b)
  role_idle t role.Learner role.Learner = tt
  role_idle t role.Learner role.Follower = tt
  role_idle t role.Learner role.Candidate = tt
  role_idle t role.Learner role.Leader = (refl, tt, tt)
  role_idle t role.Follower role.Learner = tt
  role_idle t role.Follower role.Follower = tt
  role_idle t role.Follower role.Candidate = tt
  role_idle t role.Follower role.Leader = (refl, tt, tt)
  role_idle t role.Candidate role.Learner = tt
  role_idle t role.Candidate role.Follower = tt
  role_idle t role.Candidate role.Candidate = tt
  role_idle t role.Candidate role.Leader = (refl, tt, tt)
  role_idle t role.Leader role.Learner = (refl, tt, tt)
  role_idle t role.Leader role.Follower = (refl, tt, tt)
  role_idle t role.Leader role.Candidate = (refl, tt, tt)
  role_idle t role.Leader role.Leader = tt

module _ {C NID N E D R S : Type 0} (cmp : NID → NID → Ordering) (entry : RaftEntry.Ghosts E NID N) (entries_in : S → List E) where
  pub pending_role : (config : EngineConfig NID) (t : Store NID N E) (c : Core C NID N E D R S) → Pending cmp entry entries_in t c → Pending cmp entry entries_in t (update_role cmp config c)
  unfolding update_role
  pending_role config t c p =
      let r : ServerState = server_state cmp c.state config.id in
      awaits_idle cmp entry entries_in t c.output.items (role_commands c.state.role r) c.state (record c.state { role = r }) p (role_idle C D R cmp entry entries_in (after cmp entry entries_in t c) c.state.role r)
      (step_alike entry (after cmp entry entries_in t c) c.state (record c.state { role = r }) (record { ids = refl; purged = refl; purge_to = refl; snap = refl; committed = refl; em = refl; cm = refl }) refl p.in_step)
