-- With the answer by which a quorum's logs match, the leader's last entry is committed.
use Rattle.std.proofs.Common.{ℕ, zero, suc, ◌<◌, ◌≤◌, ◌≡◌, ◌≢◌, inl, inr, Bool, true, false, cond, ◌&&◌, List, [], ◌∷◌, map, arith, refl, sym, ap, ◌∙◌, subst, Option, None, Some, Result, Ok, Err}
use Rattle.std.specs.Prelude.{is_some, Contains, filter, fold, if◌then◌else◌}
use Rattle.std.specs.List.{AllByRecursion}
use Rattle.std.specs.Cmp.{IsTotalOrder}
use Rattle.std.specs.declared.cmp.Ordering.{Ordering}
use Rattle.std.specs.declared.cmp.Ordering.TheVariants.{Equal, Greater, Less}
use Rattle.std.specs.Ordering.{is_eq, is_ge, is_gt, is_le, ordering_reverse}
use Rattle.proof_deeds.specs.raft_state.declared.ids.LogId.{LogId}
use Rattle.proof_deeds.specs.raft_state.declared.state.RaftState.{RaftState}
use Rattle.proof_deeds.specs.raft_state.Invariants.{IsSoundState}
use Rattle.proof_deeds.specs.raft_state.Log.{last}
use Rattle.proof_deeds.specs.raft_state.Order.{last_id_cmp, next}
use Rattle.proof_deeds.specs.raft_state.Same.{log_id_same}
use Rattle.proof_deeds.proofs.raft_state_proofs.Orders.{both_and, is_equal, last_total, le_antisymm, le_of_not_gt, le_refl, le_trans, lt_is_le, lt_of_gt, within_le}
use Rattle.proof_deeds.specs.raft_progress_entry.declared.entry.ProgressEntry.{ProgressEntry}
use Rattle.proof_deeds.specs.raft_progress.Quorum.{is_quorum}
use Rattle.proof_deeds.specs.raft_progress.QuorumLaws.{quorum_grows}
use Rattle.proof_deeds.specs.raft_progress.Table.{get, reached, voter_rows}
use Rattle.proof_deeds.specs.raft_command.declared.config.EngineConfig.{EngineConfig}
use Rattle.proof_deeds.specs.raft_steps.ReplyLaws.{takes_matching}
use Rattle.proof_deeds.specs.raft_proposer.Joint.{JointLeader}
use Rattle.proof_deeds.proofs.raft_proposer_proofs.Elements.{In, contains_in, each_in}
use Rattle.proof_deeds.specs.raft_steps.Invariants.{IsSoundLed}
use Rattle.proof_deeds.specs.raft_steps.Laws.{CommitsLatest, committable, is_of, later}
use Rattle.proof_deeds.specs.raft_steps.Parts.{Led}
use Rattle.proof_deeds.proofs.raft_steps_proofs.LawsReply.{progress_law}
use Rattle.proof_progress.specs.Replication.{Handles, IsAsked, IsMatched, IsMatchedVoter, Replicates, Rounds, answered, request_of}
use Rattle.proof_progress.proofs.Nearing.{IsServed}
use Rattle.proof_progress.proofs.Rounds.{After, entry_unrefused, handled_after, narrowed, numbered, still_low, then_known}

module _ {K : Type 0} where
  pub in_contains : (xs : List K) (k : K) → In k xs → Contains xs k
  in_contains [] k h = absurd h
  in_contains (x ∷ xs) k (inl e) = (zero, omega arith, e)
  in_contains (x ∷ xs) k (inr r) = let c = in_contains xs k r in (suc c.0, (let l = c.1 in omega (arith, l)), c.2)

  in_filter : (p : K → Bool) (xs : List K) (k : K) → In k xs → p k ≡ true → In k (filter p xs)
  in_filter p [] k h e = absurd h
  in_filter p (x ∷ xs) k h e = go (p x) refl h (in_filter p xs k)
    where
      go : (b : Bool) → p x ≡ b → In k (x ∷ xs) → (In k xs → p k ≡ true → In k (filter p xs)) → In k (cond b (x ∷ filter p xs) (filter p xs))
      go true q (inl z) r = inl z
      go true q (inr m) r = inr (r m e)
      go false q (inl z) r = let w : p x ≡ true = subst (λ y. p y ≡ true) (sym z) e in cc
      go false q (inr m) r = r m e

in_map : {K J : Type 0} (f : K → J) (xs : List K) (k : K) → In k xs → In (f k) (map f xs)
in_map f [] k h = absurd h
in_map f (x ∷ xs) k (inl e) = inl (ap f e)
in_map f (x ∷ xs) k (inr r) = inr (in_map f xs k r)

ge_of_eq : (r : Ordering) → is_le (ordering_reverse r) ≡ true → is_ge r ≡ true
ge_of_eq Less h = cc
ge_of_eq Equal h = refl
ge_of_eq Greater h = refl

module _ {NID : Type 0} (cmp : NID → NID → Ordering) (total : IsTotalOrder cmp) (same : (a b : NID) → cmp a b ≡ Equal → a ≡ b) where
  pub same_last : (a b : Option (LogId NID)) → is_eq (last_id_cmp cmp a b) ≡ true → a ≡ b
  same_last None None e = refl
  same_last None (Some y) e = cc
  same_last (Some x) None e = cc
  same_last (Some x) (Some y) e = ap Some (log_id_same cmp same x y (is_equal _ e))

  pub later_new : (a g : Option (LogId NID)) → is_le (last_id_cmp cmp g (later cmp a g)) ≡ true
  later_new a g = go (is_gt (last_id_cmp cmp g a)) refl
    where
      go : (b : Bool) → is_gt (last_id_cmp cmp g a) ≡ b → is_le (last_id_cmp cmp g (if b then g else a)) ≡ true
      go true e = le_refl (last_total cmp total) g
      go false e = le_of_not_gt _ e

  pub later_old : (a g : Option (LogId NID)) → is_le (last_id_cmp cmp a (later cmp a g)) ≡ true
  later_old a g = go (is_gt (last_id_cmp cmp g a)) refl
    where
      go : (b : Bool) → is_gt (last_id_cmp cmp g a) ≡ b → is_le (last_id_cmp cmp a (if b then g else a)) ≡ true
      go true e = lt_is_le _ (lt_of_gt (last_total cmp total) g a e)
      go false e = le_refl (last_total cmp total) a

  fold_old : (xs : List (Option (LogId NID))) (a : Option (LogId NID)) → is_le (last_id_cmp cmp a (fold (later cmp) a xs)) ≡ true
  fold_old [] a = le_refl (last_total cmp total) a
  fold_old (x ∷ xs) a = le_trans (last_total cmp total) a (later cmp a x) (fold (later cmp) (later cmp a x) xs) (later_old a x) (fold_old xs (later cmp a x))

  -- the latest of some ids isn't below any of them
  fold_new : (xs : List (Option (LogId NID))) (a g : Option (LogId NID)) → In g xs → is_le (last_id_cmp cmp g (fold (later cmp) a xs)) ≡ true
  fold_new [] a g h = absurd h
  fold_new (x ∷ xs) a g (inl e) =
      le_trans (last_total cmp total) g (later cmp a x) (fold (later cmp) (later cmp a x) xs) (subst (λ y. is_le (last_id_cmp cmp y (later cmp a x)) ≡ true) e (later_new a x)) (fold_old xs (later cmp a x))
  fold_new (x ∷ xs) a g (inr m) = fold_new xs (later cmp a x) g m

  ge_itself : (x : Option (LogId NID)) → is_ge (last_id_cmp cmp x x) ≡ true
  ge_itself x = ge_of_eq (last_id_cmp cmp x x) (sym (ap is_le ((last_total cmp total).antisymm x x)) ∙ le_refl (last_total cmp total) x)

module _ {C NID N E D R S : Type 0} (cmp : NID → NID → Ordering) (total : IsTotalOrder cmp) (same : (a b : NID) → cmp a b ≡ Equal → a ≡ b) (config : EngineConfig NID) where
  -- where the latest that may be committed is, and a quorum's logs match, all of the leader's log is committed
  module _ (before : Option (LogId NID)) (l : Led C NID N E D R S) (sound : IsSoundState cmp l.core.state) (law : CommitsLatest cmp before l) (own : is_of cmp l.core.state.vote.leader_id (last l.core.state.ids) ≡ true) where
    held : (ts : List NID) → AllByRecursion (IsMatchedVoter l) ts → AllByRecursion (λ t. Contains (reached (last_id_cmp cmp) (λ (e : ProgressEntry NID). e.matching) l.leader.progress (last l.core.state.ids)) t) ts
    held [] a = tt
    held (t ∷ ts) a = (
      in_contains _ t
          (in_map (λ (row : NID × ProgressEntry NID). row.0) _ (t, a.0.0)
          (in_filter (λ (row : NID × ProgressEntry NID). is_ge (last_id_cmp cmp row.1.matching (last l.core.state.ids))) (voter_rows l.leader.progress) (t, a.0.0) (contains_in _ _ a.0.1)
          (subst (λ x. is_ge (last_id_cmp cmp x (last l.core.state.ids)) ≡ true) (sym a.0.2) (ge_itself cmp total same (last l.core.state.ids))))),
      held ts a.1,
    )

    pub all_committed : (t : NID) (ts : List NID) → AllByRecursion (IsMatchedVoter l) (t ∷ ts) → is_quorum cmp l.leader.progress.set (t ∷ ts) ≡ true → l.core.state.committed ≡ last l.core.state.ids
    all_committed t ts a q =
        let high : is_le (last_id_cmp cmp (last l.core.state.ids) l.core.state.committed) ≡ true =
        subst (λ x. is_le (last_id_cmp cmp (last l.core.state.ids) x) ≡ true) (sym law) (fold_new cmp total same (committable cmp l) before (last l.core.state.ids) may) in
        let low : is_le (last_id_cmp cmp l.core.state.committed (last l.core.state.ids)) ≡ true = within_le cmp total l.core.state.committed (last l.core.state.ids) sound.marks.at_committed in
        same_last cmp total same l.core.state.committed (last l.core.state.ids) (le_antisymm (last_total cmp total) l.core.state.committed (last l.core.state.ids) low high)
      where
        among : In (last l.core.state.ids) (map (λ (row : NID × ProgressEntry NID). row.1.matching) (voter_rows l.leader.progress))
        among = subst (λ x. In x (map (λ (row : NID × ProgressEntry NID). row.1.matching) (voter_rows l.leader.progress))) a.0.2
            (in_map (λ (row : NID × ProgressEntry NID). row.1.matching) (voter_rows l.leader.progress) (t, a.0.0) (contains_in _ _ a.0.1))

        quorum : is_quorum cmp l.leader.progress.set (reached (last_id_cmp cmp) (λ (e : ProgressEntry NID). e.matching) l.leader.progress (last l.core.state.ids)) ≡ true
        quorum = quorum_grows cmp same total l.leader.progress.set (t ∷ ts) _
            (λ id c. each_in (λ t. Contains (reached (last_id_cmp cmp) (λ (e : ProgressEntry NID). e.matching) l.leader.progress (last l.core.state.ids)) t) id (t ∷ ts) (held (t ∷ ts) a) (contains_in (t ∷ ts) id c)) q

        may : In (last l.core.state.ids) (committable cmp l)
        may = in_filter (λ x. is_of cmp l.core.state.vote.leader_id x && is_quorum cmp l.leader.progress.set (reached (last_id_cmp cmp) (λ (e : ProgressEntry NID). e.matching) l.leader.progress x)) _ (last l.core.state.ids) among (both_and _ _ own quorum)

  module _ (payload : 1 ≤ config.max_payload_entries) (target : NID) where
    -- the law of a step whose queue may be worked off
    moved_law : (before : Option (LogId NID)) (m new : Led C NID N E D R S) → new.leader ≡ m.leader → new.core.state ≡ m.core.state → CommitsLatest cmp before m → CommitsLatest cmp before new
    moved_law before m new p q h =
        subst (λ (g : JointLeader C NID N E D R S). CommitsLatest cmp before (record { leader = g; core = record new.core { state = new.core.state } })) (sym p)
        (subst (λ (s : RaftState NID N). CommitsLatest cmp before (record { leader = m.leader; core = record new.core { state = s } })) (sym q) h)

    -- the answer by which a log comes to match says so
    matches_law : (old new : Led C NID N E D R S) → IsSoundLed cmp config old → (u : next old.core.state.purge_to < next (last old.core.state.ids)) → (h : Handles cmp config target old new) → h.asked.entry.matching ≢ last old.core.state.ids → IsMatched cmp target new
        → CommitsLatest cmp old.core.state.committed new
    matches_law old new k u h b m = go h.result refl
      where
        go : (result : Result (Option (LogId NID)) (LogId NID)) → h.result ≡ result → CommitsLatest cmp old.core.state.committed new
        go (Ok x) e =
            moved_law old.core.state.committed (answered cmp config target (request_of h.asked.entry.inflight) h.time h.result old) new h.leader h.state
            (progress_law cmp total same config target (request_of h.asked.entry.inflight) (Ok (record { sending_time = h.time; result = h.result })) old
            (subst (λ (r : Result (Option (LogId NID)) (LogId NID)). takes_matching {T = Unit {0}} (request_of h.asked.entry.inflight) (Ok (record { sending_time = h.time; result = r })) ≡ true) (sym e)
            (subst (λ (o : Option ℕ). is_some o ≡ true) (sym (numbered h.asked.entry.inflight h.asked.busy).1) refl))
            (entry_unrefused cmp total same config payload target (request_of h.asked.entry.inflight) h.time h.result old h.unrefused) k)
        go (Err x) e =
            let a : After cmp total same config target old new (then_known cmp total same config payload target h) = handled_after cmp total same config payload target old new k u h in
            let one : m.entry ≡ a.entry = only (get cmp new.leader.progress target) m.entry a.entry m.has a.has in
            let stays : a.entry.matching ≡ h.asked.entry.matching = a.matching ∙ ap (λ (r : Result (Option (LogId NID)) (LogId NID)). (narrowed cmp h.asked.entry (numbered h.asked.entry.inflight h.asked.busy).0 r).matching) e in
            absurd (b (sym stays ∙ (sym (ap (λ (x : ProgressEntry NID). x.matching) one) ∙ (m.matching ∙ a.leaves.end))))
          where
            only : (o : Option (ProgressEntry NID)) (x y : ProgressEntry NID) → o ≡ Some x → o ≡ Some y → x ≡ y
            only o x y p q = cc

    -- the last of some answers
    pub last_commits : (k : ℕ) (old new : Led C NID N E D R S) → IsSoundLed cmp config old → next old.core.state.purge_to < next (last old.core.state.ids) → ((i : IsAsked cmp target old) → i.entry.matching ≢ last old.core.state.ids) → Rounds cmp config target (suc k) old new → IsMatched cmp target new
        → is_of cmp new.core.state.vote.leader_id (last new.core.state.ids) ≡ true → (t : NID) (ts : List NID) → AllByRecursion (IsMatchedVoter new) (t ∷ ts) → is_quorum cmp new.leader.progress.set (t ∷ ts) ≡ true
        → new.core.state.committed ≡ last new.core.state.ids
    last_commits zero old new s u b r m own t ts a q =
        let h : Handles cmp config target old r.0 = r.1 in
        let g : Handles cmp config target old new = subst (λ (l : Led C NID N E D R S). Handles cmp config target old l) (sym r.2) h in
        all_committed old.core.state.committed new (handled_after cmp total same config payload target old new s u g).sound.sound (matches_law old new s u g (b g.asked) m) own t ts a q
    last_commits (suc k) old new s u b r m own t ts a q =
        let h : Handles cmp config target old r.0 = r.1 in
        let f : After cmp total same config target old r.0 (then_known cmp total same config payload target h) = handled_after cmp total same config payload target old r.0 s u h in
        last_commits k r.0 new f.sound (still_low old r.0 f.leaves u) (behind f) r.2 m own t ts a q
      where
        only : (o : Option (ProgressEntry NID)) (x y : ProgressEntry NID) → o ≡ Some x → o ≡ Some y → x ≡ y
        only o x y p q = cc

        short : (m st en n : ℕ) → m ≤ st → st < en → en ≤ n → m ≡ n → ⊥
        short m st en n a b c e = omega (arith, a, b, c, e)

        shorter : (m en n : ℕ) → m < en → en ≤ n → m ≡ n → ⊥
        shorter m en n a b e = omega (arith, a, b, e)

        behind : {was : ProgressEntry NID} → After cmp total same config target old r.0 was → (i : IsAsked cmp target r.0) → i.entry.matching ≢ last r.0.core.state.ids
        behind f i e = go f.serves
          where
            one : i.entry ≡ f.entry
            one = only (get cmp r.0.leader.progress target) i.entry f.entry i.has f.has

            same_end : next f.entry.matching ≡ next (last old.core.state.ids)
            same_end = ap (λ (x : ProgressEntry NID). next x.matching) (sym one) ∙ ap next (e ∙ f.leaves.end)

            go : IsServed (last old.core.state.ids) f.entry → ⊥
            go (inl (inl g)) = short (next f.entry.matching) (next g.prev) (next g.upto) (next (last old.core.state.ids)) g.low g.some g.within same_end
            go (inl (inr g)) = shorter (next f.entry.matching) (next g.upto) (next (last old.core.state.ids)) g.low g.within same_end
            go (inr d) = i.busy (ap (λ (x : ProgressEntry NID). x.inflight) one ∙ d.free)

  pub quorums_commit : (target : NID) (k : ℕ) (old new : Led C NID N E D R S) → Replicates C N E D R S cmp config target old → Rounds cmp config target (suc k) old new → IsMatched cmp target new
      → is_of cmp new.core.state.vote.leader_id (last new.core.state.ids) ≡ true → (t : NID) (ts : List NID) → AllByRecursion (IsMatchedVoter new) (t ∷ ts) → is_quorum cmp new.leader.progress.set (t ∷ ts) ≡ true
      → new.core.state.committed ≡ last new.core.state.ids
  quorums_commit target k old new h r m own t ts a q = last_commits h.payload target k old new h.sound h.unpurged behind r m own t ts a q
    where
      only : (o : Option (ProgressEntry NID)) (x y : ProgressEntry NID) → o ≡ Some x → o ≡ Some y → x ≡ y
      only o x y p q = cc

      behind : (i : IsAsked cmp target old) → i.entry.matching ≢ last old.core.state.ids
      behind i e = h.behind (ap (λ (x : ProgressEntry NID). x.matching) (only (get cmp old.leader.progress target) h.asked.entry i.entry h.asked.has i.has) ∙ e)
