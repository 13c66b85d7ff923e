-- A state is sound after a leader's entries have been appended.
use Rattle.std.specs.Prelude.{◌≡◌, ℕ, ◌+◌, ◌-◌, ◌<◌, ◌≤◌, ◌^◌, ◌==◌, ◌⊎◌, nat_lt, nat_le, Bool, true, false, ◌&&◌, ◌||◌, not, List, [], ◌∷◌, ◌++◌, Option, None, Some, IfSome, refl, length, map, drop, if◌then◌else◌}
use Rattle.std.specs.List.{AllByRecursion, last_or, list_any, prefix_len}
use Rattle.std.specs.Option.{option_map, option_to_list}
use Rattle.std.proofs.Common.{ap, sym, ◌∙◌, cond, rules, arith, inl, inr, ⊎_elim, subst, suc}
use Rattle.std.proofs.lemmas.Bool.Decides.{nat_tests}
use Rattle.std.specs.declared.cmp.Ordering.{Ordering}
use Rattle.std.specs.declared.cmp.Ordering.TheVariants.{Equal}
use Rattle.std.specs.Ordering.{is_eq, is_lt, is_gt}
use Rattle.std.specs.Cmp.{IsTotalOrder}
use Rattle.raft_state.specs.declared.config.RaftEntry
use Rattle.raft_state.specs.declared.ids.LeaderId.{LeaderId}
use Rattle.raft_state.specs.declared.ids.LogId.{LogId}
use Rattle.raft_state.specs.declared.ids.Vote.{Vote}
use Rattle.raft_state.specs.declared.membership.StoredMembership.{StoredMembership}
use Rattle.raft_state.specs.declared.state.RaftState.{RaftState}
use Rattle.raft_state.specs.declared.state.ServerState.{ServerState}
use Rattle.raft_state.specs.Consecutive.{follows_on}
use Rattle.raft_state.specs.Fits.{fits, is_within, is_below}
use Rattle.raft_state.specs.Invariants.{AcceptedRecord, IsUnder, IsBelowEnd, IsSoundState, StateFits, first_index}
use Rattle.raft_state.specs.Log.{last, at, below}
use Rattle.raft_state.specs.LogLaws.{IsRun}
use Rattle.raft_state.specs.Order.{last_id_cmp, leader_id_cmp, next}
use Rattle.raft_state.specs.Same.{found_is}
use Rattle.raft_state.specs.State.{accept, accepted, accepted_under, commits, extend, has_log_id, is_found, truncate, undoes_membership}
use Rattle.raft_state.proofs.LogLists.{Has, run_low, run_none_below, last_is, each_map}
use Rattle.raft_state.proofs.Orders.{le_refl, leader_total, within_of, le_of_not_gt, within_next, and_both, both_and, last_total, lt_of_gt, or_cases, or_left, or_right, nat_lt_is, nat_lt_of}
use Rattle.raft_state.proofs.StateLaws.{is_found_at, fits_append, fits_below, purged_within, committed_has, cut, grown}
use Rattle.raft_progress_entry.specs.raft_error.declared.error.EngineError.TheVariants.{IndexEnd, NotFollowing, ContradictsHeld}
use Rattle.raft_command.specs.Push.{with_command}
use Rattle.raft_command.specs.Queue.{Queue}
use Rattle.raft_command.specs.declared.command.Command.{Command}
use Rattle.raft_command.specs.declared.command.Command.TheVariants.{DeleteConflictLog}
use Rattle.raft_command.specs.declared.config.EngineConfig.{EngineConfig}
use Rattle.raft_proposer.specs.Joint.{u64_max}
use Rattle.raft_steps.specs.FollowingHandler.{holds_previous, is_held, new_entries, truncate_logs, truncate_for, do_append_entries, append_entries, memberships_in}
use Rattle.raft_steps.specs.Laws.{later}
use Rattle.raft_steps.specs.Parts.{Core, with_state}
use Rattle.raft_steps.specs.Refusals.{is_at_end}
use Rattle.raft_steps.specs.RequestRefusals.{is_above_vote, is_above_committed, contradicts_committed, contradicts_accepted, refusals_of_follow}
use Rattle.raft_steps.specs.ServerStateHandler.{update_role}
use Rattle.raft_steps.proofs.Kept.{either, joined_sound}
use Rattle.raft_steps.proofs.KeptEngine.{else_of}
use Rattle.raft_steps.proofs.Unrefused.{test_fails}

-- where no element passes a test, each fails it
pub each_fails : {X : Type 0} (p : X → Bool) (xs : List X) → list_any p xs ≡ false → AllByRecursion (λ x. p x ≡ false) xs
each_fails p [] e = tt
each_fails p (x ∷ xs) e = go (p x) refl e (each_fails p xs) where
  go : (b : Bool) → p x ≡ b → (b || list_any p xs) ≡ false → (list_any p xs ≡ false → AllByRecursion (λ y. p y ≡ false) xs) → AllByRecursion (λ y. p y ≡ false) (x ∷ xs)
  go true q e rest = cc
  go false q e rest = (q, rest e)

-- what holds of each element of an id, where there is one, and of a list
before_each : {X : Type 0} (P : X → Type 0) (o : Option X) (xs : List X) → AllByRecursion P (option_to_list o ++ xs) → IfSome o P × AllByRecursion P xs
before_each P None xs h = (tt, h)
before_each P (Some x) xs h = (h.0, h.1)

option_each : {X : Type 0} (P : X → Type 0) (o : Option X) → AllByRecursion P (option_to_list o) → IfSome o P
option_each P None h = tt
option_each P (Some x) h = h.0

not_false : (b : Bool) → not b ≡ false → b ≡ true
not_false true e = refl
not_false false e = cc

module _ {NID N : Type 0} (cmp : NID → NID → Ordering) (s : RaftState NID N) (v : Vote NID) where
  -- what the refusals leave of an id
  pub record IsAllowed (x : LogId NID) : Type 0 where
    pub under : IsUnder cmp v.leader_id x
    pub below_end : IsBelowEnd x
    pub accepted : contradicts_accepted cmp s v x ≡ false

  -- what they leave of an append
  pub record IsFollowed (prev : Option (LogId NID)) (ids : List (LogId NID)) : Type 0 where
    pub follow : follows_on cmp prev ids ≡ true
    pub before : IfSome prev (λ p. is_above_committed cmp s p ≡ false)
    pub before_allowed : IfSome prev IsAllowed
    pub committed : AllByRecursion (λ x. contradicts_committed cmp s x ≡ false) ids
    pub allowed : AllByRecursion IsAllowed ids

  all_allowed : (ids : List (LogId NID)) → AllByRecursion (λ x. is_at_end x ≡ false) ids → AllByRecursion (λ x. is_above_vote cmp v x ≡ false) ids
      → AllByRecursion (λ x. contradicts_accepted cmp s v x ≡ false) ids → AllByRecursion IsAllowed ids
  all_allowed [] a b c = tt
  all_allowed (x ∷ xs) a b c = (record { under = le_of_not_gt _ b.0; below_end = below_max x.index a.0; accepted = c.0 }, all_allowed xs a.1 b.1 c.1) where
    below_max : (i : ℕ) → nat_le u64_max i ≡ false → i + 1 < 2 ^ 64
    below_max i e = grind (arith, nat_tests)

  pub followed : (prev : Option (LogId NID)) (ids : List (LogId NID)) → refusals_of_follow cmp s v prev ids ≡ None → IsFollowed prev ids
  followed prev ids asks =
      let all = option_to_list prev ++ ids in
      let a = test_fails (list_any is_at_end all) IndexEnd _ asks in
      let b = test_fails (not (follows_on cmp prev ids)) NotFollowing _ a.1 in
      let c = test_fails (list_any (is_above_vote cmp v) all) NotFollowing _ b.1 in
      let d = test_fails (list_any (is_above_committed cmp s) (option_to_list prev)) ContradictsHeld _ c.1 in
      let e = test_fails (list_any (contradicts_committed cmp s) ids) ContradictsHeld _ d.1 in
      let f = test_fails (list_any (contradicts_accepted cmp s v) all) ContradictsHeld _ e.1 in
      let k = before_each IsAllowed prev ids (all_allowed all (each_fails is_at_end all a.0) (each_fails (is_above_vote cmp v) all c.0) (each_fails (contradicts_accepted cmp s v) all f.0)) in
      record {
        follow = not_false _ b.0;
        before = option_each (λ p. is_above_committed cmp s p ≡ false) prev (each_fails (is_above_committed cmp s) (option_to_list prev) d.0);
        before_allowed = k.0;
        committed = each_fails (contradicts_committed cmp s) ids e.0;
        allowed = k.1;
      }

module _ {NID : Type 0} where
  same_at : (i : ℕ) (y z : LogId NID) (ys : List (LogId NID)) (b : Bool) → (y.index == i) ≡ b → cond b (Some y) (at ys i) ≡ Some z → ((y ≡ z) × (y.index ≡ i)) ⊎ (at ys i ≡ Some z)
  same_at i y z ys true e h = let q : y.index ≡ i = grind (arith, nat_tests) in inl (search (rules, h), q)
  same_at i y z ys false e h = inr h

  -- an index that finds an id in a run is at or past its first
  at_high : (n j : ℕ) (z : LogId NID) (ids : List (LogId NID)) → IsRun n ids → at ids j ≡ Some z → n ≤ j
  at_high n j z [] r h = cc
  at_high n j z (y ∷ ys) r h =
      ⊎_elim
      (λ (p : (y ≡ z) × (y.index ≡ j)). let i : y.index ≡ n = r.0 in omega (arith, p.1, i))
      (λ (p : at ys j ≡ Some z). let q : n + 1 ≤ j = at_high (n + 1) j z ys r.1 p in omega (arith, q))
      (same_at j y z ys (y.index == j) refl h)

  -- a log that is cut behind an id ends with it
  cut_last : (d : Option (LogId NID)) (n j : ℕ) (z : LogId NID) (ids : List (LogId NID)) → IsRun n ids → at ids j ≡ Some z → last_or d (below (j + 1) ids) ≡ Some z
  cut_last d n j z [] r h = cc
  cut_last d n j z (y ∷ ys) r h =
      ⊎_elim
      (λ (p : (y ≡ z) × (y.index ≡ j)).
      let k : nat_lt y.index (j + 1) ≡ true = nat_lt_of _ _ (omega (arith, p.1)) in
      let i : y.index ≡ n = r.0 in
      rw (k, run_none_below (n + 1) (j + 1) ys r.1 (omega (arith, p.1, i))) (ap Some p.0))
      (λ (p : at ys j ≡ Some z).
      let i : y.index ≡ n = r.0 in
      let low : n + 1 ≤ j = at_high (n + 1) j z ys r.1 p in
      let k : nat_lt y.index (j + 1) ≡ true = nat_lt_of _ _ (omega (arith, i, low)) in
      rw k (cut_last (Some y) (n + 1) j z ys r.1 p))
      (same_at j y z ys (y.index == j) refl h)

  -- where a run has no id at an index, all its ids are below it
  pub below_all : (n k : ℕ) (ids : List (LogId NID)) → IsRun n ids → n ≤ k → at ids k ≡ None → below k ids ≡ ids
  below_all n k [] r l e = refl
  below_all n k (y ∷ ys) r l e = go (y.index == k) refl e (λ m f. below_all (n + 1) k ys r.1 m f) where
    lower : (a n k : ℕ) → (a == k) ≡ false → a ≡ n → n ≤ k → a < k
    lower a n k q i l = grind (arith, nat_tests)

    go : (b : Bool) → (y.index == k) ≡ b → cond b (Some y) (at ys k) ≡ None → (n + 1 ≤ k → at ys k ≡ None → below k ys ≡ ys) → cond (nat_lt y.index k) (y ∷ below k ys) (below k ys) ≡ y ∷ ys
    go true q e rest = cc
    go false q e rest =
        let lt : y.index < k = lower y.index n k q r.0 l in
        let t : nat_lt y.index k ≡ true = nat_lt_of _ _ lt in
        let i : y.index ≡ n = r.0 in
        rw t (ap (λ xs. y ∷ xs) (rest (omega (arith, lt, i)) e))

  has_right : (x : LogId NID) (xs ys : List (LogId NID)) → Has x ys → Has x (xs ++ ys)
  has_right x [] ys h = h
  has_right x (z ∷ xs) ys h = inr (has_right x xs ys h)

  last_in : (x : LogId NID) (xs : List (LogId NID)) → (z : LogId NID) × (last_or (Some x) xs ≡ Some z) × Has z (x ∷ xs)
  last_in x [] = (x, refl, inl refl)
  last_in x (y ∷ ys) = let r = last_in y ys in (r.0, r.1, inr r.2)

  -- an id of a run is found at its index
  pub has_at : (n : ℕ) (x : LogId NID) (ids : List (LogId NID)) → IsRun n ids → Has x ids → at ids x.index ≡ Some x
  has_at n x [] r h = absurd h
  has_at n x (y ∷ ys) r h =
      ⊎_elim
      (λ (e : y ≡ x). let q : (y.index == x.index) ≡ true = equal y.index x.index (ap (λ z. z.index) e) in rw q (ap Some e))
      (λ (m : Has x ys). let q : (y.index == x.index) ≡ false = apart y.index n x.index r.0 (run_low (n + 1) x ys r.1 m) in rw q (has_at (n + 1) x ys r.1 m))
      h where
        equal : (a b : ℕ) → a ≡ b → (a == b) ≡ true
        equal a b e = grind (arith, nat_tests)

        apart : (a n b : ℕ) → a ≡ n → n + 1 ≤ b → (a == b) ≡ false
        apart a n b e l = grind (arith, nat_tests)

module _ {NID N : Type 0} (cmp : NID → NID → Ordering) (s : RaftState NID N) where
  -- an id that isn't held is past the committed ones
  pub past_committed : (x : LogId NID) → has_log_id cmp s x ≡ false → next s.committed ≤ x.index
  past_committed x n = go (nat_lt x.index (next s.committed)) refl n where
    over : (a b : ℕ) → nat_lt a b ≡ false → b ≤ a
    over a b q = grind (arith, nat_tests)

    go : (b : Bool) → nat_lt x.index (next s.committed) ≡ b → (b || is_found cmp (at s.ids x.index) x) ≡ false → next s.committed ≤ x.index
    go true q n = cc
    go false q n = over x.index (next s.committed) q

  -- and past what was accepted from the vote's leader, where it doesn't contradict that
  pub past_accepted : (x : LogId NID) → contradicts_accepted cmp s s.vote x ≡ false → has_log_id cmp s x ≡ false
      → IfSome s.accepted_by (λ r. is_eq (leader_id_cmp cmp r.0 s.vote.leader_id) ≡ true → (r.1.index < x.index) ⊎ (is_within cmp (Some r.1) s.committed ≡ true))
  past_accepted x c n = reach s.accepted_by (first_fails (nat_lt x.index (next (accepted_under cmp s.vote.leader_id s.accepted_by))) (has_log_id cmp s x) c n) where
    first_fails : (a b : Bool) → (a && not b) ≡ false → b ≡ false → a ≡ false
    first_fails true true c n = cc
    first_fails true false c n = cc
    first_fails false b c n = refl

    over : (a b : ℕ) → nat_lt a (b + 1) ≡ false → b < a
    over a b q = grind (arith, nat_tests)

    below_of : (r : LeaderId NID × LogId NID) (b : Bool) → b ≡ true → nat_lt x.index (next (if b then Some r.1 else None)) ≡ false → r.1.index < x.index
    below_of r true q k = over x.index r.1.index k
    below_of r false q k = cc

    reach : (o : Option (LeaderId NID × LogId NID)) → nat_lt x.index (next (accepted_under cmp s.vote.leader_id o)) ≡ false
        → IfSome o (λ r. is_eq (leader_id_cmp cmp r.0 s.vote.leader_id) ≡ true → (r.1.index < x.index) ⊎ (is_within cmp (Some r.1) s.committed ≡ true))
    reach None k = tt
    reach (Some r) k = λ q. inl (below_of r (is_eq (leader_id_cmp cmp r.0 s.vote.leader_id)) q k)

drop_one : {X : Type 0} (n : ℕ) (x : X) (xs : List X) → drop (1 + n) (x ∷ xs) ≡ drop n xs
drop_one n x xs = let e : 1 + n ≡ suc n = omega arith in ap (λ k. drop k (x ∷ xs)) e

module _ {NID N E : Type 0} (cmp : NID → NID → Ordering) (entry : RaftEntry.Ghosts E NID N) (s : RaftState NID N) where
  -- an entry that is held isn't new
  new_is : (e : E) (es : List E) → new_entries cmp entry s (e ∷ es) ≡ (if is_held cmp entry s e then new_entries cmp entry s es else e ∷ es)
  new_is e es = go (is_held cmp entry s e) where
    go : (b : Bool) → drop (cond b (1 + prefix_len (is_held cmp entry s) es) 0) (e ∷ es) ≡ (if b then new_entries cmp entry s es else e ∷ es)
    go true = drop_one (prefix_len (is_held cmp entry s) es) e es
    go false = refl

  -- the first new entry isn't held
  abbrev pub IsMissing : List E → Type 0
  IsMissing [] = Unit {0}
  IsMissing (e ∷ es) = is_held cmp entry s e ≡ false

  pub new_missing : (es : List E) → IsMissing (new_entries cmp entry s es)
  new_missing [] = tt
  new_missing (e ∷ es) = subst IsMissing (sym (new_is e es)) (go (is_held cmp entry s e) refl (new_missing es)) where
    go : (b : Bool) → is_held cmp entry s e ≡ b → IsMissing (new_entries cmp entry s es) → IsMissing (if b then new_entries cmp entry s es else e ∷ es)
    go true q rest = rest
    go false q rest = q

module _ {NID N : Type 0} (cmp : NID → NID → Ordering) (total : IsTotalOrder cmp) (same : (a b : NID) → cmp a b ≡ Equal → a ≡ b) (s : RaftState NID N) (h : IsSoundState cmp s) where
  -- an id that follows on the part of the log below its index, past the committed ids
  pub record Continues (e : LogId NID) : Type 0 where
    pub index : e.index ≡ next (last (below e.index s.ids))
    pub rises : is_lt (last_id_cmp cmp (last (below e.index s.ids)) (Some e)) ≡ true
    pub past : next s.committed ≤ e.index

  after_id : (p e z : LogId NID) → e.index ≡ p.index + 1 → z.index ≡ p.index → at s.ids p.index ≡ Some z → is_lt (last_id_cmp cmp (Some z) (Some e)) ≡ true → next s.committed ≤ e.index → Continues e
  after_id p e z i j a l c =
      let ends : last (below e.index s.ids) ≡ Some z = last_is (below e.index s.ids) ∙ subst (λ k. last_or None (below k s.ids) ≡ Some z) (sym i) (cut_last None (first_index s.purged) p.index z s.ids h.log.run a) in
      let q : next (last (below e.index s.ids)) ≡ z.index + 1 = ap next ends in
      record {
        index = omega (arith, i, j, q);
        rises = subst (λ d. is_lt (last_id_cmp cmp d (Some e)) ≡ true) (sym ends) l;
        past = c;
      }

  -- an entry that is not held, behind an id that is
  before_new : (prev : Option (LogId NID)) (e : LogId NID) → holds_previous cmp s prev ≡ true → e.index ≡ next prev → is_lt (last_id_cmp cmp prev (Some e)) ≡ true
      → has_log_id cmp s e ≡ false → contradicts_committed cmp s e ≡ false → Continues e
  before_new None e hp i l n c =
      let none : below e.index s.ids ≡ [] = run_none_below (first_index s.purged) e.index s.ids h.log.run (omega (arith, i)) in
      record { index = rw none i; rises = rw none refl; past = past_committed cmp s e n }
  before_new (Some p) e hp i l n c =
      let past = past_committed cmp s e n in
      ⊎_elim
      (λ (q : nat_lt p.index (next s.committed) ≡ true). behind s.committed refl (nat_lt_is _ _ q) past (is_new (nat_lt e.index (next s.committed)) refl past c))
      (λ (q : is_found cmp (at s.ids p.index) p ≡ true). after_id p e p i refl (found_is cmp same _ p q) l past)
      (or_cases (nat_lt p.index (next s.committed)) (is_found cmp (at s.ids p.index) p) hp) where
        is_new : (b : Bool) → nat_lt e.index (next s.committed) ≡ b → next s.committed ≤ e.index
            → (if b then commits cmp s (Some e) else not (commits cmp s (Some e))) ≡ false → is_lt (last_id_cmp cmp s.committed (Some e)) ≡ true
        is_new true q past c = absurd (let r : e.index < next s.committed = nat_lt_is _ _ q in omega (arith, r, past))
        is_new false q past c = lt_of_gt (last_total cmp total) (Some e) s.committed (not_false _ c)

        behind : (o : Option (LogId NID)) → s.committed ≡ o → p.index < next s.committed → next s.committed ≤ e.index → is_lt (last_id_cmp cmp s.committed (Some e)) ≡ true → Continues e
        behind None eo a b lt = absurd (let z : next s.committed ≡ 0 = ap next eo in omega (arith, a, z))
        behind (Some k) eo a b lt =
            let z : next s.committed ≡ k.index + 1 = ap next eo in
            let j : k.index ≡ p.index = omega (arith, a, b, z, i) in
            after_id p e k i j (subst (λ m. at s.ids m ≡ Some k) j (committed_has cmp total same _ _ _ _ _ _ _ h k eo))
            (subst (λ d. is_lt (last_id_cmp cmp d (Some e)) ≡ true) eo lt) b

module _ {NID N E : Type 0} (cmp : NID → NID → Ordering) (total : IsTotalOrder cmp) (same : (a b : NID) → cmp a b ≡ Equal → a ≡ b) (entry : RaftEntry.Ghosts E NID N) (s : RaftState NID N) (h : IsSoundState cmp s) where
  -- the new entries follow on the log that stays
  pub record AreNew (prev : Option (LogId NID)) (e : E) (rest : List E) : Type 0 where
    pub first : Continues cmp total same s h (entry.id_of e)
    pub above : next prev ≤ (entry.id_of e).index
    pub follow : follows_on cmp (Some (entry.id_of e)) (map entry.id_of rest) ≡ true
    pub allowed : AllByRecursion (IsAllowed cmp s s.vote) (map entry.id_of (e ∷ rest))
    pub missing : is_held cmp entry s e ≡ false

  abbrev NewFrom : Option (LogId NID) → List E → Type 0
  NewFrom prev [] = Unit {0}
  NewFrom prev (e ∷ rest) = AreNew prev e rest

  new_weaker : (a b : Option (LogId NID)) (es : List E) → next a ≤ next b → NewFrom b es → NewFrom a es
  new_weaker a b [] l n = tt
  new_weaker a b (e ∷ rest) l n = record { first = n.first; above = omega (arith, l, n.above); follow = n.follow; allowed = n.allowed; missing = n.missing }

  new_follow : (prev : Option (LogId NID)) (es : List E) → holds_previous cmp s prev ≡ true → follows_on cmp prev (map entry.id_of es) ≡ true
      → AllByRecursion (λ x. contradicts_committed cmp s x ≡ false) (map entry.id_of es) → AllByRecursion (IsAllowed cmp s s.vote) (map entry.id_of es) → NewFrom prev (new_entries cmp entry s es)
  new_follow prev [] hp f k a = tt
  new_follow prev (e ∷ es) hp f k a =
      let p = and_both ((entry.id_of e).index == next prev && is_lt (last_id_cmp cmp prev (Some (entry.id_of e)))) (follows_on cmp (Some (entry.id_of e)) (map entry.id_of es)) f in
      let q = and_both ((entry.id_of e).index == next prev) (is_lt (last_id_cmp cmp prev (Some (entry.id_of e)))) p.0 in
      subst (NewFrom prev) (sym (new_is cmp entry s e es))
      (go (is_held cmp entry s e) refl (is_number (entry.id_of e).index (next prev) q.0) q.1 p.1 (λ t. new_follow (Some (entry.id_of e)) es t p.1 k.1 a.1)) where
        is_number : (m n : ℕ) → (m == n) ≡ true → m ≡ n
        is_number m n t = grind (arith, nat_tests)

        go : (b : Bool) → is_held cmp entry s e ≡ b → (entry.id_of e).index ≡ next prev → is_lt (last_id_cmp cmp prev (Some (entry.id_of e))) ≡ true → follows_on cmp (Some (entry.id_of e)) (map entry.id_of es) ≡ true
            → (holds_previous cmp s (Some (entry.id_of e)) ≡ true → NewFrom (Some (entry.id_of e)) (new_entries cmp entry s es)) → NewFrom prev (if b then new_entries cmp entry s es else e ∷ es)
        go true t i l f rest = new_weaker prev (Some (entry.id_of e)) (new_entries cmp entry s es) (omega (arith, i)) (rest t)
        go false t i l f rest = record {
          first = before_new cmp total same s h prev (entry.id_of e) hp i l t k.0;
          above = omega (arith, i);
          follow = f;
          allowed = a;
          missing = t;
        }

  -- the log once the new entries have taken their places, under the old accepted record
  placed : (prev : Option (LogId NID)) (e : E) (rest : List E) → AreNew prev e rest
      → StateFits cmp s.vote.leader_id (below (entry.id_of e).index s.ids ++ map entry.id_of (e ∷ rest)) s.purged s.purge_to s.snap.last_log_id s.committed s.accepted_by
  placed prev e rest n =
      let t = cut cmp total same _ _ _ _ _ _ _ h (entry.id_of e).index n.first.past (past_accepted cmp s (entry.id_of e) n.allowed.0.accepted n.missing) in
      grown cmp total same _ _ _ _ _ _ _ t (map entry.id_of (e ∷ rest))
      (both_and _ _ (both_and _ _ (same_number (entry.id_of e).index (next (last (below (entry.id_of e).index s.ids))) n.first.index) n.first.rises) n.follow)
      (each_map (IsAllowed cmp s s.vote) (IsUnder cmp s.vote.leader_id) (λ x k. k.under) (map entry.id_of (e ∷ rest)) n.allowed)
      (each_map (IsAllowed cmp s s.vote) IsBelowEnd (λ x k. k.below_end) (map entry.id_of (e ∷ rest)) n.allowed) where
        same_number : (m n : ℕ) → m ≡ n → (m == n) ≡ true
        same_number m n t = grind (arith, nat_tests)

module _ {C NID N E D R S : Type 0} (cmp : NID → NID → Ordering) (config : EngineConfig NID) where
  -- a truncation changes the ids, the effective membership, the role and the queue, where there is an id at the index
  pub truncate_case : (P : Core C NID N E D R S → Type 0) (i : ℕ) (c : Core C NID N E D R S) → (at c.state.ids i ≡ None → P c)
      → ((first : LogId NID) → at c.state.ids i ≡ Some first → (em : StoredMembership NID N) (role : ServerState) (q : Queue (Command C NID N E D R S))
      → P (record { state = record c.state { ids = below i c.state.ids; em = em; role = role }; output = q }))
      → P (truncate_logs cmp config i c)
  unfolding truncate_logs update_role
  truncate_case P i c none cut = go (at c.state.ids i) refl where
    go : (o : Option (LogId NID)) → at c.state.ids i ≡ o
        → P (elim o as (λ _. Core C NID N E D R S) [
          | None ↦ c
          | Some first ↦
              (if not (undoes_membership c.state i) then record { state = truncate c.state i; output = with_command c.output (DeleteConflictLog first) }
              else update_role cmp config (record { state = truncate c.state i; output = with_command c.output (DeleteConflictLog first) }))
        ])
    go None e = none e
    go (Some first) e = by (undoes_membership c.state i) where
      by : (b : Bool) → (let t = if b then record c.state { ids = below i c.state.ids; em = c.state.cm } else record c.state { ids = below i c.state.ids } in
          P (if not b then record { state = t; output = with_command c.output (DeleteConflictLog first) }
          else update_role cmp config (record { state = t; output = with_command c.output (DeleteConflictLog first) })))
      by true = cut first e _ _ _
      by false = cut first e _ _ _

module _ {C NID N E D R S : Type 0} (cmp : NID → NID → Ordering) (total : IsTotalOrder cmp) (same : (a b : NID) → cmp a b ≡ Equal → a ≡ b) (entry : RaftEntry.Ghosts E NID N) (config : EngineConfig NID) where
  -- entries behind the last id, where the log is in order with them
  behind_kept : (e : E) (rest : List E) (c : Core C NID N E D R S) → IsSoundState cmp (extend c.state (map entry.id_of (e ∷ rest))) → IsSoundState cmp (do_append_entries cmp entry config (e ∷ rest) c).state
  unfolding do_append_entries update_role
  behind_kept e rest c h =
      let t = joined_sound cmp total same (drop (length (memberships_in entry (e ∷ rest)) - 2) (memberships_in entry (e ∷ rest))) (extend c.state (map entry.id_of (e ∷ rest))) h in
      else_of (λ (d : Core C NID N E D R S). IsSoundState cmp d.state) (length (e ∷ rest) == 0) _ _ (not_zero (length rest))
      (either (λ (d : Core C NID N E D R S). IsSoundState cmp d.state) (length (memberships_in entry (e ∷ rest)) == 0) _ _ t t) where
        not_zero : (n : ℕ) → (suc n == 0) ≡ false
        not_zero n = grind (arith, nat_tests)

module _ {C NID N E D R S : Type 0} (cmp : NID → NID → Ordering) (total : IsTotalOrder cmp) (same : (a b : NID) → cmp a b ≡ Equal → a ≡ b) (entry : RaftEntry.Ghosts E NID N) (config : EngineConfig NID) (s : RaftState NID N) (h : IsSoundState cmp s) where
  -- the truncation and the append, whatever the accepted record is in between
  place_kept : (output : Queue (Command C NID N E D R S)) (by : Option (LeaderId NID × LogId NID)) (prev : Option (LogId NID)) (e : E) (rest : List E) → AreNew cmp total same entry s h prev e rest
      → IfSome by (λ r. AcceptedRecord cmp s.vote.leader_id r.0 r.1 (below (entry.id_of e).index s.ids ++ map entry.id_of (e ∷ rest)) s.purged s.committed)
      → IsSoundState cmp (do_append_entries cmp entry config (e ∷ rest) (truncate_logs cmp config (entry.id_of e).index (record { state = record s { accepted_by = by }; output = output }))).state
  place_kept output by prev e rest n acc =
      let f = placed cmp total same entry s h prev e rest n in
      let g : StateFits cmp s.vote.leader_id (below (entry.id_of e).index s.ids ++ map entry.id_of (e ∷ rest)) s.purged s.purge_to s.snap.last_log_id s.committed by = record { log = f.log; marks = f.marks; accepted = acc } in
      truncate_case cmp config (λ (c : Core C NID N E D R S). IsSoundState cmp (do_append_entries cmp entry config (e ∷ rest) c).state) (entry.id_of e).index (record { state = record s { accepted_by = by }; output = output })
      (λ none. behind_kept cmp total same entry config e rest _ (subst (λ xs. StateFits cmp s.vote.leader_id (xs ++ map entry.id_of (e ∷ rest)) s.purged s.purge_to s.snap.last_log_id s.committed by) (whole none) g))
      (λ first found em role q. behind_kept cmp total same entry config e rest _ g) where
        first_low : (p : Option (LogId NID)) (k : ℕ) → next p ≤ k → first_index p ≤ k
        first_low None k l = omega arith
        first_low (Some y) k l = omega (arith, l)

        whole : at s.ids (entry.id_of e).index ≡ None → below (entry.id_of e).index s.ids ≡ s.ids
        whole none =
            let pw : next s.purged ≤ next s.committed = within_next cmp total s.purged s.committed (purged_within cmp total same _ _ _ _ _ _ _ h) in
            below_all (first_index s.purged) (entry.id_of e).index s.ids h.log.run (first_low s.purged (entry.id_of e).index (omega (arith, pw, n.first.past))) none

module _ {NID N : Type 0} (cmp : NID → NID → Ordering) (total : IsTotalOrder cmp) (same : (a b : NID) → cmp a b ≡ Equal → a ≡ b) (s : RaftState NID N) (h : IsSoundState cmp s) where
  -- an id that a log of these ids may have accepted
  abbrev IsAccepted : List (LogId NID) → Option (LogId NID) → Type 0
  IsAccepted ids o = IfSome o (λ x. (fits cmp ids s.purged (Some x) || is_within cmp (Some x) s.committed) ≡ true)

  -- an id that is held, and is not above the committed one where its index is within that
  held_accepted : (y : LogId NID) → has_log_id cmp s y ≡ true → (nat_lt y.index (next s.committed) ≡ true → commits cmp s (Some y) ≡ false) → IsAccepted s.ids (Some y)
  held_accepted y held g =
      ⊎_elim
      (λ (q : nat_lt y.index (next s.committed) ≡ true). or_right (fits cmp s.ids s.purged (Some y)) _
      (within_of cmp total (Some y) s.committed (le_of_not_gt _ (g q)) (let l : y.index < next s.committed = nat_lt_is _ _ q in omega (arith, l))))
      (λ (q : is_found cmp (at s.ids y.index) y ≡ true). or_left (fits cmp s.ids s.purged (Some y)) (is_within cmp (Some y) s.committed) (or_left _ (is_below cmp (Some y) s.purged) q))
      (or_cases (nat_lt y.index (next s.committed)) (is_found cmp (at s.ids y.index) y) held)

  -- it stays so below a cut, with more behind
  stays_accepted : (k : ℕ) (new : List (LogId NID)) (o : Option (LogId NID)) → next o ≤ k → IsAccepted s.ids o → IsAccepted (below k s.ids ++ new) o
  stays_accepted k new None l a = tt
  stays_accepted k new (Some y) l a =
      ⊎_elim
      (λ (f : fits cmp s.ids s.purged (Some y) ≡ true).
      or_left (fits cmp (below k s.ids ++ new) s.purged (Some y)) (is_within cmp (Some y) s.committed)
      (fits_append cmp total same s.purged (below k s.ids) new (Some y) (fits_below cmp total same s.purged s.ids k (Some y) l f)))
      (λ (w : is_within cmp (Some y) s.committed ≡ true). or_right (fits cmp (below k s.ids ++ new) s.purged (Some y)) _ w)
      (or_cases (fits cmp s.ids s.purged (Some y)) (is_within cmp (Some y) s.committed) a)

  previous_accepted : (prev : Option (LogId NID)) → holds_previous cmp s prev ≡ true → IfSome prev (λ p. is_above_committed cmp s p ≡ false) → IsAccepted s.ids prev
  previous_accepted None hp pa = tt
  previous_accepted (Some p) hp pa = held_accepted p hp (λ q. below_of (nat_lt p.index (next s.committed)) (commits cmp s (Some p)) q pa) where
    below_of : (a b : Bool) → a ≡ true → (a && b) ≡ false → b ≡ false
    below_of true b e f = f
    below_of false b e f = cc

  -- the record that an accept makes
  accept_record : (ids : List (LogId NID)) (o : Option (LogId NID)) → IsAccepted ids o
      → IfSome (option_map (λ id. (s.vote.leader_id, id)) o) (λ (r : LeaderId NID × LogId NID). AcceptedRecord cmp s.vote.leader_id r.0 r.1 ids s.purged s.committed)
  accept_record ids None a = tt
  accept_record ids (Some y) a = record { by_vote = le_refl (leader_total cmp total) s.vote.leader_id; held = λ e. a }

module _ {NID N E : Type 0} (cmp : NID → NID → Ordering) (total : IsTotalOrder cmp) (same : (a b : NID) → cmp a b ≡ Equal → a ≡ b) (entry : RaftEntry.Ghosts E NID N) (s : RaftState NID N) (h : IsSoundState cmp s) where
  -- where all entries are held, so is the last
  last_held : (d : Option (LogId NID)) (es : List E) → IsAccepted cmp total same s h s.ids d → AllByRecursion (λ x. contradicts_committed cmp s x ≡ false) (map entry.id_of es) → new_entries cmp entry s es ≡ []
      → IsAccepted cmp total same s h s.ids (last_or d (map entry.id_of es))
  last_held d [] k a e = k
  last_held d (x ∷ xs) k a e = go (is_held cmp entry s x) refl (sym (new_is cmp entry s x xs) ∙ e) (λ q r. last_held (Some (entry.id_of x)) xs q a.1 r) where
    go : (b : Bool) → is_held cmp entry s x ≡ b → (if b then new_entries cmp entry s xs else x ∷ xs) ≡ []
        → (IsAccepted cmp total same s h s.ids (Some (entry.id_of x)) → new_entries cmp entry s xs ≡ [] → IsAccepted cmp total same s h s.ids (last_or (Some (entry.id_of x)) (map entry.id_of xs)))
        → IsAccepted cmp total same s h s.ids (last_or (Some (entry.id_of x)) (map entry.id_of xs))
    go true t q rest = rest (held_accepted cmp total same s h (entry.id_of x) t (λ l. not_above (nat_lt (entry.id_of x).index (next s.committed)) l a.0)) q where
      not_above : (b : Bool) → b ≡ true → (if b then commits cmp s (Some (entry.id_of x)) else not (commits cmp s (Some (entry.id_of x)))) ≡ false → commits cmp s (Some (entry.id_of x)) ≡ false
      not_above true l k = k
      not_above false l k = cc
    go false t q rest = cc

  -- the last entry is the last new one
  abbrev EndsWith : Option (LogId NID) → List E → List E → Type 0
  EndsWith d es [] = Unit {0}
  EndsWith d es (e ∷ rest) = last_or d (map entry.id_of es) ≡ last_or None (map entry.id_of (e ∷ rest))

  ends_more : (d : Option (LogId NID)) (x : E) (xs n : List E) → EndsWith (Some (entry.id_of x)) xs n → EndsWith d (x ∷ xs) n
  ends_more d x xs [] k = tt
  ends_more d x xs (e ∷ rest) k = k

  ends_with : (d : Option (LogId NID)) (es : List E) → EndsWith d es (new_entries cmp entry s es)
  ends_with d [] = tt
  ends_with d (x ∷ xs) =
      subst (EndsWith d (x ∷ xs)) (sym (new_is cmp entry s x xs))
      (either (EndsWith d (x ∷ xs)) (is_held cmp entry s x) _ _ (ends_more d x xs (new_entries cmp entry s xs) (ends_with (Some (entry.id_of x)) xs)) refl)

  -- the new entries' last id is in the log once they are there
  new_accepted : (prev : Option (LogId NID)) (e : E) (rest : List E) → AreNew cmp total same entry s h prev e rest
      → IsAccepted cmp total same s h (below (entry.id_of e).index s.ids ++ map entry.id_of (e ∷ rest)) (last_or None (map entry.id_of (e ∷ rest)))
  new_accepted prev e rest n =
      let f = placed cmp total same entry s h prev e rest n in
      let z = last_in (entry.id_of e) (map entry.id_of rest) in
      let a = has_at (first_index s.purged) z.0 _ f.log.run (has_right z.0 (below (entry.id_of e).index s.ids) (map entry.id_of (e ∷ rest)) z.2) in
      subst (IsAccepted cmp total same s h (below (entry.id_of e).index s.ids ++ map entry.id_of (e ∷ rest))) (sym z.1)
      (or_left _ (is_within cmp (Some z.0) s.committed) (or_left _ (is_below cmp (Some z.0) s.purged) (is_found_at cmp total same s.ids z.0 _ a)))

module _ {C NID N E D R S : Type 0} (cmp : NID → NID → Ordering) (total : IsTotalOrder cmp) (same : (a b : NID) → cmp a b ≡ Equal → a ≡ b) (entry : RaftEntry.Ghosts E NID N) (config : EngineConfig NID) where
  -- a leader's entries behind a held id, which the refusals have let through
  pub append_sound : (prev : Option (LogId NID)) (es : List E) (c : Core C NID N E D R S) → holds_previous cmp c.state prev ≡ true → IsFollowed cmp c.state c.state.vote prev (map entry.id_of es)
      → IsSoundState cmp c.state → IsSoundState cmp (append_entries cmp entry config prev es c).state
  unfolding append_entries do_append_entries
  append_sound prev es c hp k h =
      go (new_entries cmp entry c.state es) refl (new_follow cmp total same entry c.state h prev es hp k.follow k.committed k.allowed) (ends_with cmp total same entry c.state h None es) where
        pk : IsAccepted cmp total same c.state h c.state.ids prev
        pk = previous_accepted cmp total same c.state h prev hp k.before

        go : (n : List E) → new_entries cmp entry c.state es ≡ n → NewFrom cmp total same entry c.state h prev n → EndsWith cmp total same entry c.state h None es n
            → IsSoundState cmp (do_append_entries cmp entry config n (truncate_for cmp entry config n (with_state c (accept cmp c.state (later cmp prev (last (map entry.id_of es))))))).state
        go [] q n w =
            let lk = subst (IsAccepted cmp total same c.state h c.state.ids) (sym (last_is (map entry.id_of es))) (last_held cmp total same entry c.state h None es tt k.committed q) in
            let a = either (IsAccepted cmp total same c.state h c.state.ids) (is_gt (last_id_cmp cmp (last (map entry.id_of es)) prev)) _ _ lk pk in
            either (IsSoundState cmp) (is_gt (last_id_cmp cmp (later cmp prev (last (map entry.id_of es))) (accepted cmp c.state))) _ _
            (record { log = h.log; marks = h.marks; accepted = accept_record cmp total same c.state h c.state.ids (later cmp prev (last (map entry.id_of es))) a }) h
        go (e ∷ rest) q n w =
            let final = below (entry.id_of e).index c.state.ids ++ map entry.id_of (e ∷ rest) in
            let lk = subst (IsAccepted cmp total same c.state h final) (sym (last_is (map entry.id_of es) ∙ w)) (new_accepted cmp total same entry c.state h prev e rest n) in
            let pk2 = stays_accepted cmp total same c.state h (entry.id_of e).index (map entry.id_of (e ∷ rest)) prev n.above pk in
            let a = either (IsAccepted cmp total same c.state h final) (is_gt (last_id_cmp cmp (last (map entry.id_of es)) prev)) _ _ lk pk2 in
            let old = placed cmp total same entry c.state h prev e rest n in
            either (λ (t : RaftState NID N). IsSoundState cmp (do_append_entries cmp entry config (e ∷ rest) (truncate_logs cmp config (entry.id_of e).index (with_state c t))).state)
            (is_gt (last_id_cmp cmp (later cmp prev (last (map entry.id_of es))) (accepted cmp c.state))) _ _
            (place_kept cmp total same entry config c.state h c.output _ prev e rest n (accept_record cmp total same c.state h final (later cmp prev (last (map entry.id_of es))) a))
            (place_kept cmp total same entry config c.state h c.output c.state.accepted_by prev e rest n old.accepted)
