-- A leader's proposals.
use Rattle.std.proofs.Common.{ℕ, ◌+◌, ◌-◌, ◌≤◌, ◌≡◌, false, List, [], ◌∷◌, ◌++◌, length, arith, refl, ap, subst, Option, Some, None}
use Rattle.std.specs.Prelude.{◌==◌, map, slice_get, unwrap_or, IfSome}
use Rattle.std.specs.Option.{option_map}
use Rattle.std.specs.List.{AllByRecursion, cons_option}
use Rattle.std.specs.declared.cmp.Ordering.{Ordering}
use Rattle.std.proofs.lemmas.Bool.{cond_both}
use Rattle.raft_state.specs.declared.config.RaftEntry
use Rattle.raft_state.specs.declared.ids.LogId.{LogId}
use Rattle.raft_state.specs.declared.ids.LeaderId.{LeaderId}
use Rattle.raft_state.specs.declared.membership.Members.{Members}
use Rattle.raft_state.specs.declared.membership.StoredMembership.{StoredMembership}
use Rattle.raft_state.specs.declared.state.RaftState.{RaftState}
use Rattle.raft_state.specs.Log.{last}
use Rattle.raft_state.specs.Members.{voter_ids, learner_ids}
use Rattle.raft_state.specs.Order.{next}
use Rattle.raft_state.specs.State.{append_membership, extend}
use Rattle.raft_progress_entry.specs.Entry.{empty}
use Rattle.raft_progress.specs.Table.{kept_row, row_of}
use Rattle.raft_progress_entry.specs.declared.entry.ProgressEntry.{ProgressEntry}
use Rattle.raft_command.specs.declared.command.Command.{Command}
use Rattle.raft_command.specs.declared.command.Command.TheVariants as command
use Rattle.raft_command.specs.declared.config.EngineConfig.{EngineConfig}
use Rattle.raft_steps.specs.FollowingHandler.{memberships_in}
use Rattle.raft_proposer.specs.Leader.{numbered, assigned, last_assigned}
use Rattle.raft_steps.specs.LeaderHandler.{proposed, last_proposed, joined, leader_append_entries}
use Rattle.raft_steps.specs.Parts.{Led, with_state}
use Rattle.raft_proposer.specs.Joint.{JointLeader}
use Rattle.raft_steps.specs.ReplicationHandler.{rebuild_progresses, rebuild_replication_streams, append_membership_led, initiate_replication}
use Rattle.raft_steps.proofs.Kept.{TakesIds}
use Rattle.raft_steps.proofs.KeptCommit.{row_each}
use Rattle.raft_steps.proofs.KeptLead.{each_image, each_of}
use Rattle.raft_store.specs.Store.{Store, index_of, exec}
use Rattle.raft_store.specs.Mirror.{ends}
use Rattle.proof_mirror.specs.Ready.{InStep, Awaits, Pending, SearchFits, KnowsLog, PendingLed}
use Rattle.raft_store.proofs.Lists.{Run}
use Rattle.proof_mirror.proofs.Orders.{Orderly, may_put}
use Rattle.proof_mirror.proofs.Puts.{grown, grown_end, step_grown}
use Rattle.proof_mirror.proofs.Queued.{after, awaits_one}
use Rattle.proof_mirror.proofs.Sends.{pending_rebuild, pending_initiate}

module _ {NID N E : Type 0} (entry : RaftEntry.Ghosts E NID N) where
  -- an entry takes the id that it is given
  abbrev pub TakesId : Type 0
  TakesId = (e : E) (x : LogId NID) → entry.id_of (entry.with_id e x) ≡ x

  pub takes_id : TakesIds entry → TakesId
  takes_id named e x = (named e x).0

  -- proposed entries follow on
  pub run_numbered : TakesId → (leader : LeaderId NID) (n : ℕ) (es : List E) → Run (index_of entry) n (numbered entry leader n es)
  run_numbered law leader n [] = tt
  run_numbered law leader n (e ∷ es) = (ap (λ x. x.index) (law e (record { leader_id = leader; index = n })), run_numbered law leader (n + 1) es)

  length_numbered : (leader : LeaderId NID) (n : ℕ) (es : List E) → length (numbered entry leader n es) ≡ length es
  length_numbered leader n [] = refl
  length_numbered leader n (e ∷ es) = let q : length (numbered entry leader (n + 1) es) ≡ length es = length_numbered leader (n + 1) es in omega (arith, q)

  -- one entry has at most one membership
  pub one_membership : (e : E) → length (memberships_in entry (e ∷ [])) ≤ 1
  one_membership e = go (entry.membership_of e) where
    go : (o : Option (Members NID N)) → length (cons_option (option_map (λ m. let r : StoredMembership NID N = record { log_id = Some (entry.id_of e); membership = m } in r) o) []) ≤ 1
    go None = omega arith
    go (Some m) = omega arith

module _ {NID N E : Type 0} (entry : RaftEntry.Ghosts E NID N) where
  -- a state that took entries with these memberships
  abbrev with_ends : RaftState NID N → List E → List (StoredMembership NID N) → RaftState NID N
  with_ends s given ms = record s { ids = s.ids ++ map entry.id_of given; cm = (ends s.cm s.em ms).0; em = (ends s.cm s.em ms).1 }

module _ {C NID N E D R S : Type 0} where
  next_assigned : (l : JointLeader C NID N E D R S) (es : List E) → next (last_assigned l es) ≡ next l.last_log_id + length es
  next_assigned l [] = omega arith
  next_assigned l (e ∷ es) = omega arith

module _ {NID : Type 0} where
  -- a longer log
  search_more : (ids new : List (LogId NID)) (e : ProgressEntry NID) → next (last ids) ≤ next (last new) → SearchFits ids e → SearchFits new e
  search_more ids new e l f = record { above = f.above; below = omega (arith, l, f.below) }

  pub rows_more : (ids new : List (LogId NID)) (rows : List (NID × ProgressEntry NID)) → next (last ids) ≤ next (last new) → AllByRecursion (λ row. SearchFits ids row.1) rows → AllByRecursion (λ row. SearchFits new row.1) rows
  rows_more ids new [] l a = tt
  rows_more ids new (row ∷ rows) l a = (search_more ids new row.1 l a.0, rows_more ids new rows l a.1)

  -- a target of which nothing is known
  pub empty_fits : (ids : List (LogId NID)) → SearchFits ids (empty (next (last ids)))
  empty_fits ids = record { above = omega arith; below = omega arith }

module _ {NID : Type 0} (cmp : NID → NID → Ordering) where
  kept_fits : (ids : List (LogId NID)) (old : List (NID × ProgressEntry NID)) (row : NID × ProgressEntry NID) → AllByRecursion (λ row. SearchFits ids row.1) old → SearchFits ids row.1 → SearchFits ids (kept_row cmp old row).1
  kept_fits ids old row a f = go (row_of cmp row.0 old) (row_each cmp (SearchFits ids) row.0 old a) where
    go : (o : Option (ProgressEntry NID)) → IfSome o (SearchFits ids) → SearchFits ids (unwrap_or o row.1)
    go None h = f
    go (Some e) h = h

module _ {C NID N E D R S : Type 0} (cmp : NID → NID → Ordering) where
  -- tables of new nodes
  progresses_know : (l : Led C NID N E D R S) → KnowsLog l.core.state.ids l.leader → KnowsLog (rebuild_progresses cmp l).core.state.ids (rebuild_progresses cmp l).leader
  unfolding rebuild_progresses
  progresses_know l k =
      let ids : List (LogId NID) = l.core.state.ids in
      let nodes : List NID = voter_ids cmp l.core.state.em.membership ++ learner_ids cmp l.core.state.em.membership in
      let e : ProgressEntry NID = empty (next (last ids)) in
      record {
        end = k.end;
        rows = each_image (λ row. SearchFits ids row.1) (λ row. SearchFits ids row.1) (kept_row cmp l.leader.progress.rows)
            (λ row f. kept_fits cmp ids l.leader.progress.rows row k.rows f)
            (map (λ id. (id, e)) nodes)
            (each_of (λ row. SearchFits ids row.1) (λ id. (id, e)) (λ id. empty_fits ids) nodes);
      }

module _ {C NID N E D R S : Type 0} (cmp : NID → NID → Ordering) (entry : RaftEntry.Ghosts E NID N) (entries_in : S → List E) where
  -- tables of the effective membership's nodes
  pub pending_progresses : (t : Store NID N E) (j : Led C NID N E D R S) → Pending cmp entry entries_in t j.core → KnowsLog j.core.state.ids j.leader → PendingLed cmp entry entries_in t (rebuild_progresses cmp j)
  unfolding rebuild_progresses
  pending_progresses t j p k = record { core = p; knows = progresses_know cmp j k }

module _ {C NID N E D R S : Type 0} (cmp : NID → NID → Ordering) (entry : RaftEntry.Ghosts E NID N) (entries_in : S → List E) (config : EngineConfig NID) where
  -- a membership takes effect, once its entry is queued
  pub pending_join : (t : Store NID N E) (m : StoredMembership NID N) (l : Led C NID N E D R S) → Pending cmp entry entries_in t (with_state l.core (append_membership l.core.state m)) → KnowsLog l.core.state.ids l.leader
      → PendingLed cmp entry entries_in t (append_membership_led cmp config m l)
  unfolding append_membership_led
  pending_join t m l p k =
      let j : Led C NID N E D R S = record l { core = with_state l.core (append_membership l.core.state m) } in
      pending_initiate cmp entry entries_in config t false (rebuild_replication_streams cmp config (rebuild_progresses cmp j))
      (pending_rebuild cmp entry entries_in config t (rebuild_progresses cmp j) (pending_progresses cmp entry entries_in t j p k))

  -- the membership among the entries takes effect, where there is one
  pending_joined : (t : Store NID N E) (given : List E) (l : Led C NID N E D R S) (ms : List (StoredMembership NID N)) → length ms ≤ 1 → KnowsLog l.core.state.ids l.leader
      → ((x : StoredMembership NID N) → ms ≡ x ∷ [] → Pending cmp entry entries_in t (with_state l.core (append_membership l.core.state x)))
      → (ms ≡ [] → Pending cmp entry entries_in t l.core)
      → PendingLed cmp entry entries_in t (joined cmp config (slice_get ms (length ms - 1)) l)
  pending_joined t given l [] one k some none = record { core = none refl; knows = k }
  pending_joined t given l (x ∷ []) one k some none = pending_join t x l (some x refl) k
  pending_joined t given l (x ∷ y ∷ ms) one k some none = absurd (omega (arith, one))

  -- a membership that takes effect leaves the ids
  pub joined_ids : (o : Option (StoredMembership NID N)) (l : Led C NID N E D R S) → Orderly cmp (initiate_replication cmp config false (joined cmp config o l)).core.state → Orderly cmp l.core.state
  unfolding initiate_replication append_membership_led rebuild_replication_streams rebuild_progresses
  joined_ids None l h = h
  joined_ids (Some m) l h = h

  -- what a leader proposes behind its log's end, with at most one membership, where that leaves the ids in order
  pub pending_propose : TakesId entry → (t : Store NID N E) (es : List E) (l : Led C NID N E D R S) → PendingLed cmp entry entries_in t l → length (memberships_in entry (assigned entry l.leader es)) ≤ 1
      → Orderly cmp (leader_append_entries cmp entry config es l).core.state → PendingLed cmp entry entries_in t (leader_append_entries cmp entry config es l)
  unfolding leader_append_entries proposed
  pending_propose law t es l p one ordered =
      let s : RaftState NID N = l.core.state in
      let given : List E = assigned entry l.leader es in
      let T : Store NID N E = after cmp entry entries_in t l.core in
      let add : Command C NID N E D R S = command.AppendInputEntries l.leader.vote given in
      let ms : List (StoredMembership NID N) = memberships_in entry given in
      let taken : Led C NID N E D R S = proposed entry es l in
      let r : Run (index_of entry) (next (last s.ids)) given = subst (λ n. Run (index_of entry) n given) p.knows.end (run_numbered entry law l.leader.vote.leader_id (next l.leader.last_log_id) es) in
      let g : InStep entry (exec entry entries_in add T) (grown entry s given) = step_grown entry T s given p.core.in_step r in
      let e : next (last (s.ids ++ map entry.id_of given)) ≡ next (last s.ids) + length given = grown_end entry T s given p.core.in_step r in
      let n : length given ≡ length es = length_numbered entry l.leader.vote.leader_id (next l.leader.last_log_id) es in
      let q : next (last_assigned l.leader es) ≡ next l.leader.last_log_id + length es = next_assigned l.leader es in
      let k : KnowsLog taken.core.state.ids taken.leader = record {
        end = omega (arith, e, n, q, p.knows.end);
        rows = rows_more s.ids (s.ids ++ map entry.id_of given) l.leader.progress.rows (omega (arith, e)) p.knows.rows;
      } in
      let told : Orderly cmp taken.core.state → (s2 : RaftState NID N) → InStep entry (exec entry entries_in add T) s2 → Awaits cmp entry entries_in t (l.core.output.items ++ add ∷ []) s2 =
      λ o s2 j. awaits_one cmp entry entries_in t l.core.output.items add s s2 p.core (may_put cmp entry T s given p.core.in_step r o) j in
      let j : Led C NID N E D R S = joined cmp config (last_proposed entry l.leader es) taken in
      cond_both (length es == 0) l (initiate_replication cmp config false j) (λ z. Orderly cmp z.core.state → PendingLed cmp entry entries_in t z)
      (λ _ _. p)
      (λ _ o. pending_initiate cmp entry entries_in config t false j
      (pending_joined t given taken ms one k
      (λ x w. told (joined_ids (last_proposed entry l.leader es) taken o) (append_membership (extend s (map entry.id_of given)) x) (subst (λ ys. InStep entry (exec entry entries_in add T) (with_ends entry s given ys)) w g))
      (λ w. told (joined_ids (last_proposed entry l.leader es) taken o) (extend s (map entry.id_of given)) (subst (λ ys. InStep entry (exec entry entries_in add T) (with_ends entry s given ys)) w g))))
      ordered
