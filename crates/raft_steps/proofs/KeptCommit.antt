-- A leader and its log are sound after proposals, changes of membership and commits.
use Rattle.std.specs.Prelude.{◌≡◌, ℕ, ◌+◌, ◌<◌, ◌^◌, nat_lt, Bool, true, false, List, [], ◌∷◌, Option, None, Some, IfSome, refl, length, map, filter, fold, find, take, unwrap_or, if◌then◌else◌}
use Rattle.std.specs.List.{AllByRecursion}
use Rattle.std.proofs.Common.{sym, ◌∙◌, cond, arith, zero, suc, subst}
use Rattle.std.proofs.lemmas.Bool.Decides.{nat_tests}
use Rattle.std.specs.declared.cmp.Ordering.{Ordering}
use Rattle.std.specs.declared.cmp.Ordering.TheVariants.{Equal}
use Rattle.std.specs.Ordering.{is_eq, is_ge}
use Rattle.std.specs.Cmp.{IsTotalOrder}
use Rattle.raft_state.specs.declared.config.RaftEntry
use Rattle.raft_state.specs.declared.ids.LogId.{LogId}
use Rattle.raft_state.specs.declared.ids.Vote.{Vote}
use Rattle.raft_state.specs.declared.membership.StoredMembership.{StoredMembership}
use Rattle.raft_state.specs.Order.{last_id_cmp, vote_cmp, leader_id_cmp, next}
use Rattle.raft_state.specs.Log.{last}
use Rattle.raft_state.specs.Fits.{fits}
use Rattle.raft_state.specs.Invariants.{IsUnder}
use Rattle.raft_state.proofs.Orders.{eq_is_le, is_equal, vote_eq_leader}
use Rattle.raft_state.proofs.LogLists.{each_filter}
use Rattle.raft_state.proofs.StateLaws.{settled}
use Rattle.raft_progress_entry.specs.declared.entry.ProgressEntry.{ProgressEntry}
use Rattle.raft_proposer.specs.raft_progress.Quorum.{is_quorum}
use Rattle.raft_proposer.specs.raft_progress.Table.{Table, is_above, greater, greatest, granted, reached, voter_rows, row_of, get, with_value}
use Rattle.raft_command.specs.declared.config.EngineConfig.{EngineConfig}
use Rattle.raft_steps.specs.Parts.{Core, Led, Machine, under, on_leader}
use Rattle.raft_proposer.specs.Joint.{JointLeader, JointCandidate}
use Rattle.raft_steps.specs.Refusals.{refusals_of_propose, refusals_of_counter_led}
use Rattle.raft_proposer.specs.Joint.{u64_max}
use Rattle.raft_steps.specs.Conditions.{MayPropose}
use Rattle.raft_steps.specs.Invariants.{IsSoundLed, IsSound, EntryFits, LeaderFits, CandidateFits}
use Rattle.raft_proposer.specs.Leader.{granted_id}
use Rattle.raft_steps.specs.LeaderHandler.{leader_append_entries}
use Rattle.raft_steps.specs.ReplicationHandler.{own_matched, with_entry, initiate_replication, rebuild_progresses, rebuild_replication_streams, append_membership_led, try_commit_quorum_accepted, commit_granted, update_local_progress}
use Rattle.raft_steps.proofs.EntryLaws.{fits_end, newly_held, own_matched_fits}
use Rattle.raft_steps.proofs.Kept.{TakesIds, either, commit_by_case, MayGrow}
use Rattle.raft_steps.proofs.KeptLead.{each_image, join_kept, propose_kept}
use Rattle.raft_steps.proofs.Leads.{vote_same}
use Rattle.raft_proposer.proofs.Tables.{same_id, same_ids}
use Rattle.raft_steps.proofs.KeptEngine.{candidate_apart, on_leader_is_sound, propose_is_sound}
use Rattle.raft_steps.proofs.Room.{last_each}
use Rattle.raft_steps.proofs.Unrefused.{test_fails, neither}

-- the greatest of some values is one of them
greatest_each : {P : Type 0} (cmp : P → P → Ordering) (Q : P → Type 0) (best : Option P) (ps : List P) → IfSome best Q → AllByRecursion Q ps → IfSome (fold (greater cmp) best ps) Q
greatest_each cmp Q best [] b a = b
greatest_each cmp Q best (p ∷ ps) b a = greatest_each cmp Q (greater cmp best p) ps (either (λ o. IfSome o Q) (is_above cmp best p) _ _ a.0 b) a.1

pub each_taken : {X : Type 0} (P : X → Type 0) (n : ℕ) (xs : List X) → AllByRecursion P xs → AllByRecursion P (take n xs)
each_taken P zero xs a = tt
each_taken P (suc n) [] a = tt
each_taken P (suc n) (x ∷ xs) a = (a.0, each_taken P n xs a.1)

module _ {ID V P Q : Type 0} (has_quorum : Q → List ID → Bool) (cmp : P → P → Ordering) (measure : V → P) where
  -- what holds of the default and of each value holds of the granted one
  pub granted_each : (H : P → Type 0) (t : Table ID V P Q) → H t.default → AllByRecursion (λ row. H (measure row.1)) t.rows → H (granted has_quorum cmp measure t)
  granted_each H t d a = go (greatest cmp values) (greatest_each cmp H None values tt (each_filter H (λ p. has_quorum t.set (reached cmp measure t p)) (map (λ row. measure row.1) (voter_rows t)) each)) where
    values : List P
    values = filter (λ p. has_quorum t.set (reached cmp measure t p)) (map (λ row. measure row.1) (voter_rows t))

    each : AllByRecursion H (map (λ row. measure row.1) (voter_rows t))
    each = each_image (λ row. H (measure row.1)) H (λ row. measure row.1) (λ row h. h) (voter_rows t) (each_taken (λ row. H (measure row.1)) t.voters t.rows a)

    go : (o : Option P) → IfSome o H → H (unwrap_or o t.default)
    go None k = d
    go (Some p) k = k

module _ {ID V : Type 0} (cmp : ID → ID → Ordering) where
  -- what holds of each row's value holds of an id's
  pub row_each : (P : V → Type 0) (id : ID) (rows : List (ID × V)) → AllByRecursion (λ row. P row.1) rows → IfSome (row_of cmp id rows) P
  row_each P id [] a = tt
  row_each P id (r ∷ rs) a = go (is_eq (cmp id r.0)) (row_each P id rs a.1) where
    go : (b : Bool) → IfSome (row_of cmp id rs) P → IfSome (elim (cond b (Some r) (find (λ row. is_eq (cmp id row.0)) rs)) [ None ↦ None | Some q ↦ Some q.1 ]) P
    go true k = a.0
    go false k = k

module _ {C NID N E D R S : Type 0} (cmp : NID → NID → Ordering) (total : IsTotalOrder cmp) (same : (a b : NID) → cmp a b ≡ Equal → a ≡ b) (config : EngineConfig NID) where
  -- a leader of the state's vote, with room for some entries
  pub may_grow : (count : ℕ) (l : Led C NID N E D R S) → is_eq (vote_cmp cmp l.leader.vote l.core.state.vote) ≡ true → refusals_of_propose count l ≡ None
      → IsSoundLed cmp config l → MayGrow cmp l.leader l.core.state count
  may_grow count l own asks h =
      let e : l.leader.vote ≡ l.core.state.vote = vote_same cmp same l.leader.vote l.core.state.vote (is_equal _ own) in
      let free : nat_lt u64_max (next l.leader.last_log_id + count) ≡ false = (test_fails _ _ _ (neither (refusals_of_counter_led l) _ asks).1).0 in
      record {
        last_id = h.leader_fits.last_id;
        own = eq_is_le _ (vote_eq_leader cmp l.leader.vote l.core.state.vote own);
        under = subst (λ v. IfSome (last l.core.state.ids) (IsUnder cmp v.leader_id)) (sym e) (last_each (IsUnder cmp l.core.state.vote.leader_id) l.core.state.ids h.sound.log.by_vote);
        room = subst (λ o. next o + count < 2 ^ 64) h.leader_fits.last_id (below (next l.leader.last_log_id + count) free);
      } where
        below : (n : ℕ) → nat_lt u64_max n ≡ false → n < 2 ^ 64
        below n e = grind (arith, nat_tests)

  -- what is committed of an id that fits the log
  pub commit_kept : (x : Option (LogId NID)) (l : Led C NID N E D R S) → fits cmp l.core.state.ids l.core.state.purged x ≡ true
      → IsSoundLed cmp config l → IsSoundLed cmp config (under (try_commit_quorum_accepted cmp config x) l)
  unfolding try_commit_quorum_accepted
  commit_kept None l f h = h
  commit_kept (Some x) l f h =
      either (λ (c : Core C NID N E D R S). IsSoundLed cmp config (record l { core = c })) (is_eq (leader_id_cmp cmp x.leader_id l.core.state.vote.leader_id)) _ _
      (commit_by_case cmp total same config (λ (c : Core C NID N E D R S). IsSoundLed cmp config (record l { core = c })) _ x l.core (λ e. h)
      (λ e cm building q. record {
        sound = settled cmp total same _ _ _ _ _ _ _ h.sound x (newly_held cmp total same _ _ _ _ _ _ _ h.sound x f e) e;
        leader_fits = h.leader_fits;
      }))
      h

  -- a target's entry is another one that fits
  pub entry_kept : (id : NID) (e : ProgressEntry NID) (l : Led C NID N E D R S) → EntryFits cmp l.core.state.ids l.core.state.purged e
      → IsSoundLed cmp config l → IsSoundLed cmp config (with_entry cmp l id e)
  entry_kept id e l f h =
      let k = h.leader_fits in
      let Fits = λ (row : NID × ProgressEntry NID). EntryFits cmp l.core.state.ids l.core.state.purged row.1 in
      record {
        sound = h.sound;
        leader_fits = record {
          committed = k.committed;
          own = k.own;
          noop = k.noop;
          last_id = k.last_id;
          progress = record {
            set = k.progress.set;
            ids = same_ids (with_value cmp id e) (same_id cmp id e) l.leader.progress.rows ∙ k.progress.ids;
            voters = k.progress.voters;
          };
          clock = k.clock;
          ungranted = k.ungranted;
          entries = each_image Fits Fits (with_value cmp id e) (λ r g. either Fits (is_eq (cmp id r.0)) _ _ f g) l.leader.progress.rows k.entries;
        };
      }

  -- what is granted fits the log
  pub granted_fits : (l : Led C NID N E D R S) → IsSoundLed cmp config l → fits cmp l.core.state.ids l.core.state.purged (granted_id cmp (is_quorum cmp) l.leader) ≡ true
  granted_fits l h =
      granted_each (is_quorum cmp) (last_id_cmp cmp) (λ (e : ProgressEntry NID). e.matching) (λ x. fits cmp l.core.state.ids l.core.state.purged x ≡ true) l.leader.progress
      (rw h.leader_fits.ungranted refl)
      (each_weaker l.leader.progress.rows h.leader_fits.entries) where
        each_weaker : (rows : List (NID × ProgressEntry NID)) → AllByRecursion (λ row. EntryFits cmp l.core.state.ids l.core.state.purged row.1) rows
            → AllByRecursion (λ row. fits cmp l.core.state.ids l.core.state.purged row.1.matching ≡ true) rows
        each_weaker [] a = tt
        each_weaker (r ∷ rs) a = (a.0.matching, each_weaker rs a.1)

  -- this node's own log holds x, which fits it
  pub local_kept : (x : Option (LogId NID)) (l : Led C NID N E D R S) → fits cmp l.core.state.ids l.core.state.purged x ≡ true
      → IsSoundLed cmp config l → IsSoundLed cmp config (update_local_progress cmp config x l)
  unfolding update_local_progress
  local_kept None l f h = h
  local_kept (Some x) l f h = go (get cmp l.leader.progress config.id) (row_each cmp (EntryFits cmp l.core.state.ids l.core.state.purged) config.id l.leader.progress.rows h.leader_fits.entries) where
    taken : (e : ProgressEntry NID) → EntryFits cmp l.core.state.ids l.core.state.purged e → IsSoundLed cmp config (commit_granted cmp config (with_entry cmp l config.id (own_matched cmp (Some x) e)))
    taken e k =
        let after = entry_kept config.id (own_matched cmp (Some x) e) l
        (own_matched_fits cmp total same l.core.state.ids l.core.state.purged (Some x) e f (fits_end cmp total same _ _ _ _ _ _ _ h.sound (Some x) f) k) h in
        commit_kept (granted_id cmp (is_quorum cmp) (with_entry cmp l config.id (own_matched cmp (Some x) e)).leader) (with_entry cmp l config.id (own_matched cmp (Some x) e)) (granted_fits _ after) after

    go : (o : Option (ProgressEntry NID)) → IfSome o (EntryFits cmp l.core.state.ids l.core.state.purged)
        → IsSoundLed cmp config (elim o [
          | None ↦ l
          | Some e ↦ (if is_ge (last_id_cmp cmp e.matching (Some x)) then l else commit_granted cmp config (with_entry cmp l config.id (own_matched cmp (Some x) e)))
        ])
    go None k = h
    go (Some e) k = either (IsSoundLed cmp config) (is_ge (last_id_cmp cmp e.matching (Some x))) _ _ h (taken e k)

  -- a candidate beside a commit stays what it is
  commit_beside : (x : Option (LogId NID)) (c : Core C NID N E D R S) (o : Option (JointCandidate NID))
      → IfSome o (CandidateFits cmp config.id c.state.vote c.state.ids c.state.em.membership)
      → (let n = try_commit_quorum_accepted cmp config x c in IfSome o (CandidateFits cmp config.id n.state.vote n.state.ids n.state.em.membership))
  unfolding try_commit_quorum_accepted
  commit_beside None c o h = h
  commit_beside (Some x) c o h =
      either (λ (n : Core C NID N E D R S). IfSome o (CandidateFits cmp config.id n.state.vote n.state.ids n.state.em.membership)) (is_eq (leader_id_cmp cmp x.leader_id c.state.vote.leader_id)) _ _
      (commit_by_case cmp total same config (λ (n : Core C NID N E D R S). IfSome o (CandidateFits cmp config.id n.state.vote n.state.ids n.state.em.membership)) _ x c (λ e. h) (λ e cm building q. h))
      h

  local_beside : (x : Option (LogId NID)) (l : Led C NID N E D R S) (o : Option (JointCandidate NID))
      → IfSome o (CandidateFits cmp config.id l.core.state.vote l.core.state.ids l.core.state.em.membership)
      → (let n = (update_local_progress cmp config x l).core in IfSome o (CandidateFits cmp config.id n.state.vote n.state.ids n.state.em.membership))
  unfolding update_local_progress
  local_beside None l o h = h
  local_beside (Some x) l o h = go (get cmp l.leader.progress config.id) where
    go : (p : Option (ProgressEntry NID))
        → (let n = (elim p as (λ _. Led C NID N E D R S) [
          | None ↦ l
          | Some e ↦ (if is_ge (last_id_cmp cmp e.matching (Some x)) then l else commit_granted cmp config (with_entry cmp l config.id (own_matched cmp (Some x) e)))
        ]).core in IfSome o (CandidateFits cmp config.id n.state.vote n.state.ids n.state.em.membership))
    go None = h
    go (Some e) =
        either (λ (q : Led C NID N E D R S). IfSome o (CandidateFits cmp config.id q.core.state.vote q.core.state.ids q.core.state.em.membership)) (is_ge (last_id_cmp cmp e.matching (Some x))) _ _ h
        (commit_beside (granted_id cmp (is_quorum cmp) (with_entry cmp l config.id (own_matched cmp (Some x) e)).leader) l.core o h)

  -- in an engine: a commit of an id that fits the log
  pub commit_is_sound : (x : Option (LogId NID)) (m : Machine C NID N E D R S) → fits cmp m.core.state.ids m.core.state.purged x ≡ true
      → IsSound cmp config m → IsSound cmp config (on_leader (under (try_commit_quorum_accepted cmp config x)) m)
  commit_is_sound x m f h =
      on_leader_is_sound cmp total same config (under (try_commit_quorum_accepted cmp config x)) m h (λ l e k. commit_kept x _ f k) (λ l e. commit_beside x m.core m.candidate h.lead.candidate_fits)

  -- and this node's own progress
  pub local_is_sound : (x : Option (LogId NID)) (m : Machine C NID N E D R S) → fits cmp m.core.state.ids m.core.state.purged x ≡ true
      → IsSound cmp config m → IsSound cmp config (on_leader (update_local_progress cmp config x) m)
  local_is_sound x m f h =
      on_leader_is_sound cmp total same config (update_local_progress cmp config x) m h (λ l e k. local_kept x _ f k) (λ l e. local_beside x _ m.candidate h.lead.candidate_fits)

  -- the state's vote is the leader's, committed
  committed_vote : (l : Led C NID N E D R S) → is_eq (vote_cmp cmp l.leader.vote l.core.state.vote) ≡ true → LeaderFits cmp config.id l.core.state.ids l.core.state.purged l.core.state.em.membership l.leader
      → l.core.state.vote.committed ≡ true
  committed_vote l own h = subst (λ (v : Vote NID). v.committed ≡ true) (vote_same cmp same l.leader.vote l.core.state.vote (is_equal _ own)) h.committed

  -- a membership takes effect under a leader of the state's vote
  pub join_is_sound : (s : StoredMembership NID N) (m : Machine C NID N E D R S)
      → IfSome m.leader (λ l. is_eq (vote_cmp cmp l.vote m.core.state.vote) ≡ true)
      → IsSound cmp config m → IsSound cmp config (on_leader (append_membership_led cmp config s) m)
  unfolding append_membership_led initiate_replication rebuild_replication_streams rebuild_progresses
  join_is_sound s m own h =
      on_leader_is_sound cmp total same config (append_membership_led cmp config s) m h (λ l e k. join_kept cmp total same config s _ k)
      (λ l e. candidate_apart cmp total config.id m.core.state.vote m.core.state.ids m.core.state.ids m.core.state.em.membership s.membership m.candidate
      (committed_vote (record { leader = l; core = m.core }) (subst (λ o. IfSome o (λ q. is_eq (vote_cmp cmp q.vote m.core.state.vote) ≡ true)) e own)
      (subst (λ o. IfSome o (LeaderFits cmp config.id m.core.state.ids m.core.state.purged m.core.state.em.membership)) e h.lead.leader_fits)) h.lead.candidate_fits)

module _ {C NID N E D R S : Type 0} (cmp : NID → NID → Ordering) (total : IsTotalOrder cmp) (same : (a b : NID) → cmp a b ≡ Equal → a ≡ b) (entry : RaftEntry.Ghosts E NID N) (named : TakesIds entry) (config : EngineConfig NID) where
  -- a leader's entries are taken where they may be proposed and the call is not refused
  pub leader_append_kept : (es : List E) (l : Led C NID N E D R S) → MayPropose cmp entry l es → refusals_of_propose (length es) l ≡ None
      → IsSoundLed cmp config l → IsSoundLed cmp config (leader_append_entries cmp entry config es l)
  leader_append_kept es l may asks h = propose_kept cmp total same entry named config es l (may_grow cmp total same config (length es) l may.own_vote asks h) h

  -- the same in an engine
  pub leader_append_is_sound : (es : List E) (l : JointLeader C NID N E D R S) (m : Machine C NID N E D R S) → m.leader ≡ Some l
      → MayPropose cmp entry (record { leader = l; core = m.core }) es → refusals_of_propose (length es) (record { leader = l; core = m.core }) ≡ None
      → IsSound cmp config m → IsSound cmp config (on_leader (leader_append_entries cmp entry config es) m)
  leader_append_is_sound es l m e may asks h =
      let led : Led C NID N E D R S = record { leader = l; core = m.core } in
      let k : IsSoundLed cmp config led = record { sound = h.sound; leader_fits = subst (λ o. IfSome o (LeaderFits cmp config.id m.core.state.ids m.core.state.purged m.core.state.em.membership)) e h.lead.leader_fits } in
      propose_is_sound cmp total same entry named config es m
      (subst (λ o. IfSome o (λ q. MayGrow cmp q m.core.state (length es))) (sym e) (may_grow cmp total same config (length es) led may.own_vote asks k))
      (committed_vote cmp total same config led may.own_vote k.leader_fits) h
