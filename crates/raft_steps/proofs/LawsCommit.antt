-- What a leader commits after an acknowledgement.
use Rattle.std.specs.Prelude.{◌≡◌, Bool, true, false, not, ◌&&◌, List, [], ◌∷◌, Option, None, Some, IfSome, refl, map, filter, fold, unwrap_or, Contains, ◌⊎◌, cond, if◌then◌else◌}
use Rattle.std.specs.List.{AllByRecursion}
use Rattle.std.proofs.Common.{ap, sym, ◌∙◌, ⊎_elim, subst}
use Rattle.std.specs.declared.cmp.Ordering.{Ordering}
use Rattle.std.specs.declared.cmp.Ordering.TheVariants.{Less, Equal, Greater}
use Rattle.std.specs.Ordering.{is_eq, is_ge, is_gt, is_le, is_lt, ordering_reverse}
use Rattle.std.specs.Cmp.{IsTotalOrder}
use Rattle.raft_state.specs.declared.ids.LeaderId.{LeaderId}
use Rattle.raft_state.specs.declared.ids.LogId.{LogId}
use Rattle.raft_state.specs.declared.ids.Vote.{Vote}
use Rattle.raft_state.specs.Order.{last_id_cmp, leader_id_cmp}
use Rattle.raft_state.specs.Fits.{fits}
use Rattle.raft_state.specs.Same.{log_id_same}
use Rattle.raft_state.specs.Invariants.{IsUnder}
use Rattle.raft_state.proofs.Orders.{and_both, both_and, is_equal, le_antisymm, le_of_not_gt, le_refl, le_trans, lt_le, lt_of_gt, not_gt_of_le, eq_is_le, eq_swap, leader_total, last_total}
use Rattle.raft_state.proofs.LogLists.{each_map}
use Rattle.raft_progress_entry.specs.declared.entry.ProgressEntry.{ProgressEntry}
use Rattle.raft_proposer.specs.raft_progress.Quorum.{is_quorum}
use Rattle.raft_proposer.specs.raft_progress.Table.{Table, get, granted, reached, voter_rows}
use Rattle.raft_proposer.proofs.raft_progress_proofs.GrantedLaws.{AtLeast, is_reached, voter_values, granted_of, granted_is_reached, granted_is_greatest}
use Rattle.raft_command.specs.declared.command.Command.TheVariants.{ReplicateCommitted}
use Rattle.raft_command.specs.declared.config.EngineConfig.{EngineConfig}
use Rattle.raft_steps.specs.Parts.{Core, Led}
use Rattle.raft_steps.specs.Commit.{commit_by}
use Rattle.raft_steps.specs.Invariants.{EntryFits, IsSoundLed}
use Rattle.raft_steps.specs.Laws.{is_of, later, CommitsLatest, takes_local}
use Rattle.raft_proposer.specs.Leader.{granted_id}
use Rattle.raft_steps.specs.ReplicationHandler.{own_matched, with_entry, try_commit_quorum_accepted, commit_granted, update_local_progress}
use Rattle.raft_proposer.proofs.Elements.{In, contains_in, each_in}
use Rattle.raft_steps.proofs.EntryLaws.{log_le_leader, fits_end, fits_under, own_matched_fits}
use Rattle.raft_steps.proofs.Kept.{commit_by_case}
use Rattle.raft_steps.proofs.KeptLead.{each_image}
use Rattle.raft_steps.proofs.KeptCommit.{each_taken, entry_kept, row_each}

reversed_lt : (r : Ordering) → is_lt r ≡ true → is_gt (ordering_reverse r) ≡ true
reversed_lt Less e = refl
reversed_lt Equal e = cc
reversed_lt Greater e = cc

module _ {NID : Type 0} (cmp : NID → NID → Ordering) (total : IsTotalOrder cmp) (same : (a b : NID) → cmp a b ≡ Equal → a ≡ b) where
  ids_same : (a b : Option (LogId NID)) → is_eq (last_id_cmp cmp a b) ≡ true → a ≡ b
  ids_same None None e = refl
  ids_same None (Some y) e = cc
  ids_same (Some x) None e = cc
  ids_same (Some x) (Some y) e = ap Some (log_id_same cmp same x y (is_equal _ e))

  -- of two ids the later is the first, where it isn't below
  later_stays : (a g : Option (LogId NID)) → is_le (last_id_cmp cmp g a) ≡ true → later cmp a g ≡ a
  later_stays a g h = rw (not_gt_of_le _ h) refl

  later_high : (a g : Option (LogId NID)) → is_le (last_id_cmp cmp g (later cmp a g)) ≡ true
  later_high a g = go (is_gt (last_id_cmp cmp g a)) refl where
    go : (b : Bool) → is_gt (last_id_cmp cmp g a) ≡ b → is_le (last_id_cmp cmp g (if b then g else a)) ≡ true
    go true e = le_refl (last_total cmp total) g
    go false e = le_of_not_gt _ e

  later_over : (a y g : Option (LogId NID)) → is_le (last_id_cmp cmp y g) ≡ true → later cmp (later cmp a y) g ≡ later cmp a g
  later_over a y g h = go (is_gt (last_id_cmp cmp y a)) refl where
    up : is_gt (last_id_cmp cmp y a) ≡ true → is_gt (last_id_cmp cmp g a) ≡ true
    up e = ap is_gt ((last_total cmp total).antisymm g a) ∙ reversed_lt _ (lt_le (last_total cmp total) a y g (lt_of_gt (last_total cmp total) y a e) h)

    tie : (c : Bool) → is_gt (last_id_cmp cmp g y) ≡ c → (if c then g else y) ≡ g
    tie true f = refl
    tie false f = ids_same y g (le_antisymm (last_total cmp total) y g h (le_of_not_gt _ f))

    go : (b : Bool) → is_gt (last_id_cmp cmp y a) ≡ b → later cmp (if b then y else a) g ≡ later cmp a g
    go true e = tie (is_gt (last_id_cmp cmp g y)) refl ∙ (let u = up e in rw u refl)
    go false e = refl

  module _ (q : Option (LogId NID) → Bool) where
    -- where none that passes is above, the id stays
    stays : (xs : List (Option (LogId NID))) (a : Option (LogId NID)) → AllByRecursion (λ y. q y ≡ true → is_le (last_id_cmp cmp y a) ≡ true) xs → fold (later cmp) a (filter q xs) ≡ a
    stays [] a h = refl
    stays (y ∷ ys) a h = go (q y) refl (stays ys a h.1) where
      go : (b : Bool) → q y ≡ b → fold (later cmp) a (filter q ys) ≡ a → fold (later cmp) a (cond b (y ∷ filter q ys) (filter q ys)) ≡ a
      go true e r = subst (λ z. fold (later cmp) z (filter q ys) ≡ a) (sym (later_stays a y (h.0 e))) r
      go false e r = r

    -- where one passes that none is above, it is the later of that and the id
    reaches : (xs : List (Option (LogId NID))) (a g : Option (LogId NID)) → AllByRecursion (λ y. q y ≡ true → is_le (last_id_cmp cmp y g) ≡ true) xs → q g ≡ true → In g xs
        → fold (later cmp) a (filter q xs) ≡ later cmp a g
    reaches [] a g h e i = absurd i
    reaches (y ∷ ys) a g h e i = go (q y) refl (λ a. reaches ys a g h.1 e) i where
      go : (b : Bool) → q y ≡ b → ((a : Option (LogId NID)) → In g ys → fold (later cmp) a (filter q ys) ≡ later cmp a g) → (y ≡ g) ⊎ In g ys
          → fold (later cmp) a (cond b (y ∷ filter q ys) (filter q ys)) ≡ later cmp a g
      go true f r i =
          ⊎_elim
          (λ (s : y ≡ g). subst (λ z. fold (later cmp) (later cmp a z) (filter q ys) ≡ later cmp a g) (sym s)
          (stays ys (later cmp a g) (each_map (λ z. q z ≡ true → is_le (last_id_cmp cmp z g) ≡ true) (λ z. q z ≡ true → is_le (last_id_cmp cmp z (later cmp a g)) ≡ true)
          (λ z k p. le_trans (last_total cmp total) z g (later cmp a g) (k p) (later_high a g)) ys h.1)))
          (λ (m : In g ys). r (later cmp a y) m ∙ later_over a y g (h.0 f))
          i
      go false f r i = ⊎_elim (λ (s : y ≡ g). let z : false ≡ true = sym f ∙ ap q s ∙ e in cc) (λ (m : In g ys). r a m) i

  -- an id of the leader isn't at or below another's that the leader's id isn't below
  not_over : {X : Type 0} → (leader : LeaderId NID) (y g : Option (LogId NID)) → is_of cmp leader y ≡ true → is_of cmp leader g ≡ false → IfSome g (IsUnder cmp leader)
      → is_le (last_id_cmp cmp y g) ≡ true → X
  not_over leader None g o n u h = cc
  not_over leader (Some y) None o n u h = cc
  not_over leader (Some y) (Some g) o n u h =
      let low : is_le (leader_id_cmp cmp leader g.leader_id) ≡ true =
      le_trans (leader_total cmp total) leader y.leader_id g.leader_id (eq_is_le _ (eq_swap (leader_total cmp total) y.leader_id leader o)) (log_le_leader cmp y g h) in
      let z : false ≡ true = sym n ∙ le_antisymm (leader_total cmp total) g.leader_id leader u low in
      cc

  -- the granted id, where the leader wrote it, is the latest of its own ids that a quorum has reached; else none of its
  -- own is
  latest : (leader : LeaderId NID) (t : Table NID (ProgressEntry NID) (Option (LogId NID)) (List (List NID))) (a : Option (LogId NID)) → t.default ≡ None
      → AllByRecursion (λ x. IfSome x (IsUnder cmp leader)) (voter_values (is_quorum cmp) (last_id_cmp cmp) (λ (e : ProgressEntry NID). e.matching) t)
      → (let g = granted (is_quorum cmp) (last_id_cmp cmp) (λ (e : ProgressEntry NID). e.matching) t in if is_of cmp leader g then later cmp a g else a)
      ≡ fold (later cmp) a (filter (λ x. is_of cmp leader x && is_quorum cmp t.set (reached (last_id_cmp cmp) (λ (e : ProgressEntry NID). e.matching) t x)) (map (λ (row : NID × ProgressEntry NID). row.1.matching) (voter_rows t)))
  latest leader t a none low =
      go (granted_of (is_quorum cmp) (last_id_cmp cmp) (λ (e : ProgressEntry NID). e.matching) t)
      (granted_is_reached (is_quorum cmp) (last_id_cmp cmp) (λ (e : ProgressEntry NID). e.matching) t)
      (granted_is_greatest (is_quorum cmp) (last_id_cmp cmp) (λ (e : ProgressEntry NID). e.matching) (last_total cmp total) t) where
        values : List (Option (LogId NID))
        values = map (λ (row : NID × ProgressEntry NID). row.1.matching) (voter_rows t)

        has_quorum : Option (LogId NID) → Bool
        has_quorum x = is_quorum cmp t.set (reached (last_id_cmp cmp) (λ (e : ProgressEntry NID). e.matching) t x)

        passes : Option (LogId NID) → Bool
        passes x = is_of cmp leader x && has_quorum x

        go : (o : Option (Option (LogId NID)))
            → IfSome o (λ p. (is_reached (is_quorum cmp) (last_id_cmp cmp) (λ (e : ProgressEntry NID). e.matching) t p ≡ true) × Contains (voter_values (is_quorum cmp) (last_id_cmp cmp) (λ (e : ProgressEntry NID). e.matching) t) p)
            → AllByRecursion (λ p. is_reached (is_quorum cmp) (last_id_cmp cmp) (λ (e : ProgressEntry NID). e.matching) t p ≡ true → AtLeast (last_id_cmp cmp) o p) values
            → (if is_of cmp leader (unwrap_or o t.default) then later cmp a (unwrap_or o t.default) else a) ≡ fold (later cmp) a (filter passes values)
        go None f k =
            rw none (sym (stays passes values a (each_map (λ p. has_quorum p ≡ true → ⊥) (λ y. passes y ≡ true → is_le (last_id_cmp cmp y a) ≡ true)
            (λ y h p. absurd (h (and_both (is_of cmp leader y) (has_quorum y) p).1)) values k)))
        go (Some p) f k = by (is_of cmp leader p) refl where
          below : AllByRecursion (λ y. passes y ≡ true → is_le (last_id_cmp cmp y p) ≡ true) values
          below = each_map (λ y. has_quorum y ≡ true → is_le (last_id_cmp cmp y p) ≡ true) (λ y. passes y ≡ true → is_le (last_id_cmp cmp y p) ≡ true)
              (λ y h q. h (and_both (is_of cmp leader y) (has_quorum y) q).1) values k

          here : In p values
          here = contains_in values p f.1

          by : (b : Bool) → is_of cmp leader p ≡ b → (if b then later cmp a p else a) ≡ fold (later cmp) a (filter passes values)
          by true e = sym (reaches passes values a p below (both_and _ _ e f.0) here)
          by false e =
              sym (stays passes values a (each_map (λ y. passes y ≡ true → is_le (last_id_cmp cmp y p) ≡ true) (λ y. passes y ≡ true → is_le (last_id_cmp cmp y a) ≡ true)
              (λ y h q. not_over leader y p (and_both (is_of cmp leader y) (has_quorum y) q).0 e (each_in (λ x. IfSome x (IsUnder cmp leader)) p values low here) (h q)) values below))

module _ {C NID N E D R S : Type 0} (cmp : NID → NID → Ordering) (total : IsTotalOrder cmp) (same : (a b : NID) → cmp a b ≡ Equal → a ≡ b) (config : EngineConfig NID) where
  -- what a commit makes of the committed id and the vote
  committed_is : (x : Option (LogId NID)) (c : Core C NID N E D R S)
      → (let n = try_commit_quorum_accepted cmp config x c in
      (n.state.committed ≡ (if is_of cmp c.state.vote.leader_id x then later cmp c.state.committed x else c.state.committed)) × (n.state.vote ≡ c.state.vote))
  unfolding try_commit_quorum_accepted
  committed_is None c = (refl, refl)
  committed_is (Some x) c = go (is_eq (leader_id_cmp cmp x.leader_id c.state.vote.leader_id)) where
    go : (b : Bool) → (let n = (if b then commit_by cmp config (ReplicateCommitted (Some x) ∷ []) (Some x) c else c) in
        (n.state.committed ≡ (if b then later cmp c.state.committed (Some x) else c.state.committed)) × (n.state.vote ≡ c.state.vote))
    go true =
        commit_by_case cmp total same config (λ (n : Core C NID N E D R S). (n.state.committed ≡ later cmp c.state.committed (Some x)) × (n.state.vote ≡ c.state.vote)) (ReplicateCommitted (Some x) ∷ []) x c
        (λ e. (rw e refl, refl)) (λ e cm building q. (rw e refl, refl))
    go false = (refl, refl)

  -- the leader of a sound engine commits the latest of what may be committed
  pub granted_law : (l : Led C NID N E D R S) → IsSoundLed cmp config l → CommitsLatest cmp l.core.state.committed (commit_granted cmp config l)
  granted_law l h =
      let x = granted_id cmp (is_quorum cmp) l.leader in
      let n = try_commit_quorum_accepted cmp config x l.core in
      let is = committed_is x l.core in
      let low : AllByRecursion (λ x. IfSome x (IsUnder cmp l.core.state.vote.leader_id)) (map (λ (row : NID × ProgressEntry NID). row.1.matching) (voter_rows l.leader.progress)) =
      each_image (λ (row : NID × ProgressEntry NID). EntryFits cmp l.core.state.ids l.core.state.purged row.1) (λ x. IfSome x (IsUnder cmp l.core.state.vote.leader_id)) (λ (row : NID × ProgressEntry NID). row.1.matching)
      (λ row f. matching_under row.1.matching f.matching) (voter_rows l.leader.progress)
      (each_taken (λ (row : NID × ProgressEntry NID). EntryFits cmp l.core.state.ids l.core.state.purged row.1) l.leader.progress.voters l.leader.progress.rows h.leader_fits.entries) in
      subst (λ (v : Vote NID). n.state.committed ≡ fold (later cmp) l.core.state.committed
      (filter (λ x. is_of cmp v.leader_id x && is_quorum cmp l.leader.progress.set (reached (last_id_cmp cmp) (λ (e : ProgressEntry NID). e.matching) l.leader.progress x)) (map (λ (row : NID × ProgressEntry NID). row.1.matching) (voter_rows l.leader.progress))))
      (sym is.1) (is.0 ∙ latest cmp total same l.core.state.vote.leader_id l.leader.progress l.core.state.committed h.leader_fits.ungranted low) where
        matching_under : (x : Option (LogId NID)) → fits cmp l.core.state.ids l.core.state.purged x ≡ true → IfSome x (IsUnder cmp l.core.state.vote.leader_id)
        matching_under None f = tt
        matching_under (Some x) f = fits_under cmp total same _ _ _ _ _ _ _ h.sound x f

  -- after this node's own acknowledgement, where it is taken
  pub local_law : (x : Option (LogId NID)) (l : Led C NID N E D R S) → takes_local cmp config x l ≡ true → fits cmp l.core.state.ids l.core.state.purged x ≡ true
      → IsSoundLed cmp config l → CommitsLatest cmp l.core.state.committed (update_local_progress cmp config x l)
  unfolding update_local_progress
  local_law None l t f h = cc
  local_law (Some x) l t f h = go (get cmp l.leader.progress config.id) (row_each cmp (EntryFits cmp l.core.state.ids l.core.state.purged) config.id l.leader.progress.rows h.leader_fits.entries) t where
    taken : (e : ProgressEntry NID) → EntryFits cmp l.core.state.ids l.core.state.purged e → (b : Bool) → not b ≡ true
        → CommitsLatest cmp l.core.state.committed (if b then l else commit_granted cmp config (with_entry cmp l config.id (own_matched cmp (Some x) e)))
    taken e k true t = cc
    taken e k false t =
        granted_law (with_entry cmp l config.id (own_matched cmp (Some x) e))
        (entry_kept cmp total same config config.id (own_matched cmp (Some x) e) l
        (own_matched_fits cmp total same l.core.state.ids l.core.state.purged (Some x) e f (fits_end cmp total same _ _ _ _ _ _ _ h.sound (Some x) f) k) h)

    go : (o : Option (ProgressEntry NID)) → IfSome o (EntryFits cmp l.core.state.ids l.core.state.purged)
        → ◌≡◌ {A = Bool} (elim o [ None ↦ false | Some e ↦ not (is_ge (last_id_cmp cmp e.matching (Some x))) ]) true
        → CommitsLatest cmp l.core.state.committed (elim o [
          | None ↦ l
          | Some e ↦ (if is_ge (last_id_cmp cmp e.matching (Some x)) then l else commit_granted cmp config (with_entry cmp l config.id (own_matched cmp (Some x) e)))
        ])
    go None k t = cc
    go (Some e) k t = taken e k (is_ge (last_id_cmp cmp e.matching (Some x))) t
