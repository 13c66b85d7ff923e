-- What a node finds as it makes a bare start has a voter group, if it has a member; so a member that is a quorum alone is a voter.
use Rattle.std.proofs.Common.{ℕ, ◌+◌, ◌*◌, ◌<◌, ◌≤◌, ◌≡◌, ◌⊎◌, inl, inr, Bool, true, false, cond, not, ◌&&◌, List, [], ◌∷◌, length, filter, arith, refl, sym, subst, Option, None, Some}
use Rattle.std.specs.Prelude.{◌||◌, if◌then◌else◌, is_some, nat_lt}
use Rattle.std.specs.List.{cons_option, list_any}
use Rattle.std.specs.Map.{values_of}
use Rattle.std.specs.Ordering.{is_eq, nat_cmp}
use Rattle.std.proofs.lemmas.Bool.Decides.{nat_tests}
use Rattle.std.proofs.lemmas.List.Recursion.{is_count_by}
use Rattle.proof_deeds.specs.raft_state.declared.ids.LogId.{LogId}
use Rattle.proof_deeds.specs.raft_state.declared.membership.Members.{Members}
use Rattle.proof_deeds.specs.raft_state.declared.membership.StoredMembership.{StoredMembership}
use Rattle.proof_deeds.specs.raft_state.Members.{contains, is_voter, no_members, voter_ids}
use Rattle.proof_deeds.specs.raft_state.Sorted.{has_id}
use Rattle.proof_deeds.proofs.raft_state_proofs.LogLists.{each_append}
use Rattle.proof_deeds.proofs.raft_state_proofs.Orders.{and_both, or_left}
use Rattle.proof_deeds.specs.raft_progress.Quorum.{is_majority, is_quorum}
use Rattle.proof_deeds.specs.raft_steps.FollowingHandler.{memberships_in, stored_in}
use Rattle.proof_deeds.specs.raft_store.declared.entry.Entry.{Entry}
use Rattle.proof_deeds.specs.raft_store.declared.entry.Payload.{Payload}
use Rattle.proof_deeds.specs.raft_store.declared.entry.Payload.TheVariants.{Blank, Membership, Value}
use Rattle.proof_deeds.specs.raft_store.Entries.{entry_meaning, members_of}
use Rattle.proof_deeds.specs.raft_store.Mirror.{last_two, none}
use Rattle.proof_deeds.specs.raft_store.Restart.{is_outrun, settled, settled_by}
use Rattle.proof_deeds.specs.raft_store.Store.{past, whole}
use Rattle.proof_deeds.specs.raft_store.Types.{WorldStore}
use Rattle.proof_deeds.proofs.proof_mirror_proofs.Ends.{Each, ends_each}
use Rattle.proof_deeds.specs.raft_schedule.declared.event.Event.{Event}
use Rattle.proof_deeds.specs.raft_node.declared.given.Given.{Given}
use Rattle.proof_deeds.specs.raft_node.Net.{NodeView}
use Rattle.proof_deeds.specs.raft_node.Runs.{world_after}
use Rattle.proof_deeds.specs.raft_node.WellFormed.{IsWellFormed}
use Rattle.proof_deeds.specs.Images.{EntriesFit, IsWellFormedEntry, groups_in, setup_of}
use Rattle.proof_deeds.specs.Nets.{NodeFollows}
use Rattle.proof_deeds.proofs.Promised.{one_of}
use Rattle.proof_deeds.proofs.Proved.{followed}
use Rattle.proof_progress.specs.Choices.{leads_by_store}
use Rattle.proof_progress.specs.Continuations.{At}
use Rattle.proof_progress.specs.Elections.{Listed, members}
use Rattle.proof_progress.specs.GoesOn.{found}
use Rattle.proof_progress.proofs.BareStarts.{voter_listed}
use Rattle.proof_progress.proofs.Chosen.{at_contains}
use Rattle.proof_progress.proofs.Tables.{many}

-- A quorum alone

module _ (t : ℕ) where
  none_of : (g : List ℕ) → has_id nat_cmp g t ≡ false → many (has_id nat_cmp (t ∷ [])) g ≤ 0
  none_of [] h = omega arith
  none_of (x ∷ xs) h = go (is_eq (nat_cmp t x)) refl (none_of xs) h
    where
      other : (a b : ℕ) → is_eq (nat_cmp a b) ≡ false → is_eq (nat_cmp b a) ≡ false
      other a b e = grind (arith, nat_tests)

      skips : (b : Bool) → b ≡ false → many (has_id nat_cmp (t ∷ [])) xs ≤ 0 → cond (b || false) (1 + many (has_id nat_cmp (t ∷ [])) xs) (many (has_id nat_cmp (t ∷ [])) xs) ≤ 0
      skips true e l = cc
      skips false e l = l

      go : (b : Bool) → is_eq (nat_cmp t x) ≡ b → (has_id nat_cmp xs t ≡ false → many (has_id nat_cmp (t ∷ [])) xs ≤ 0) → (b || has_id nat_cmp xs t) ≡ false → many (has_id nat_cmp (t ∷ [])) (x ∷ xs) ≤ 0
      go true e f k = cc
      go false e f k = skips (is_eq (nat_cmp x t)) (other t x e) (f k)

  -- it is in each group of which it is a majority
  in_group : (g : List ℕ) → is_majority nat_cmp g (t ∷ []) ≡ true → has_id nat_cmp g t ≡ true
  in_group g m = go (has_id nat_cmp g t) refl
    where
      counted : nat_lt (length g) (2 * many (has_id nat_cmp (t ∷ [])) g) ≡ true
      counted = subst (λ c. nat_lt (length g) (2 * c) ≡ true) (sym (is_count_by (many (has_id nat_cmp (t ∷ []))) (has_id nat_cmp (t ∷ [])) refl (λ _ _. refl) g)) m

      some : (a b : ℕ) → nat_lt a (2 * b) ≡ true → b ≤ 0 → ⊥
      some a b e l = go2 (less a (2 * b) e)
        where
          less : (a b : ℕ) → nat_lt a b ≡ true → a < b
          less a b e = grind (arith, nat_tests)

          go2 : a < 2 * b → ⊥
          go2 h = omega (arith, l, h)

      go : (b : Bool) → has_id nat_cmp g t ≡ b → b ≡ true
      go true e = refl
      go false e = absurd (some (length g) (many (has_id nat_cmp (t ∷ [])) g) counted (none_of g e))

  pub alone_votes : (m : Members ℕ (Unit {0})) → 0 < length m.groups → is_quorum nat_cmp m.groups (t ∷ []) ≡ true → is_voter nat_cmp m t ≡ true
  alone_votes m l q = go m.groups l q
    where
      go : (groups : List (List ℕ)) → 0 < length groups → is_quorum nat_cmp groups (t ∷ []) ≡ true → list_any (λ group. has_id nat_cmp group t) groups ≡ true
      go [] l q = absurd (omega (arith, l))
      go (g ∷ gs) l q = or_left (has_id nat_cmp g t) _ (in_group g (and_both (is_majority nat_cmp g (t ∷ [])) (is_quorum nat_cmp gs (t ∷ [])) q).0)

-- Stored memberships

-- a membership has a voter group
abbrev pub HasGroup : StoredMembership ℕ (Unit {0}) → Type 0
HasGroup m = 0 < length m.membership.groups

-- the last of some memberships is one of them
pub last_each : (P : StoredMembership ℕ (Unit {0}) → Type 0) (ms : List (StoredMembership ℕ (Unit {0}))) → Each P ms → ((last_two ms).1 ≡ none) ⊎ P (last_two ms).1
last_each P [] k = inl refl
last_each P (m ∷ []) k = inr k.0
last_each P (m ∷ n ∷ ms) k = inr (ends_each P m n ms k.0 k.1.0 k.1.1).1

module _ (first : Members ℕ (Unit {0})) where
  abbrev AllFit : List Entry → Type 0
  AllFit es = EntriesFit (setup_of first) es

  each_some : (es : List Entry) → AllFit es → Each HasGroup (memberships_in entry_meaning es)
  each_some [] h = tt
  each_some (e ∷ es) h = go e.payload h.0.groups (each_some es h.1)
    where
      go : (p : Payload) → (is_some (members_of p) ≡ true → 0 < length (groups_in p)) → Each HasGroup (memberships_in entry_meaning es)
          → Each HasGroup (cons_option (stored_in entry_meaning (record { log_id = e.log_id; payload = p })) (memberships_in entry_meaning es))
      go Blank k r = r
      go (Value v) k r = r
      go (Membership m) k r = (k refl, r)

  past_fits : (k : ℕ) (log : List (ℕ × Entry)) → AllFit (values_of log) → AllFit (past k log)
  past_fits k [] h = tt
  past_fits k (x ∷ xs) h = go (nat_lt x.0 k) (past_fits k xs h.1)
    where
      go : (b : Bool) → AllFit (past k xs) → AllFit (values_of (cond (not b) (x ∷ filter (λ p. not (nat_lt p.0 k)) xs) (filter (λ p. not (nat_lt p.0 k)) xs)))
      go true r = r
      go false r = (h.0, r)

  whole_fits : (t : WorldStore) → AllFit (values_of t.log) → AllFit t.snap → AllFit (whole t)
  whole_fits t h k = each_append (IsWellFormedEntry (setup_of first)) t.snap (past (length t.snap) t.log) k (past_fits (length t.snap) t.log h)

  settled_fits : (t : WorldStore) → AllFit (values_of t.log) → AllFit t.snap → AllFit (whole (settled nat_cmp entry_meaning t))
  settled_fits t h k = by t.meta.last_log_id
    where
      go : (x : LogId ℕ) (b : Bool) → AllFit (whole (if b then record t { log = []; front = Some x } else t))
      go x true = whole_fits (record t { log = []; front = Some x }) tt k
      go x false = whole_fits t h k

      by : (o : Option (LogId ℕ)) → AllFit (whole (settled_by nat_cmp entry_meaning t o))
      by None = whole_fits t h k
      by (Some x) = go x (is_outrun nat_cmp entry_meaning t x)

-- In a reached world

module _ (given : Given) (wf : IsWellFormed given) (past : List Event) (id : ℕ) (N : NodeView) (at : At (world_after given past).nodes id N) where
  follows : NodeFollows (setup_of given.membership) (followed given wf past).world (world_after given past).records N
  follows = one_of (NodeFollows (setup_of given.membership) (followed given wf past).world (world_after given past).records) (world_after given past).nodes N (followed given wf past).follows.nodes (at_contains (world_after given past).nodes id N at)

  none_there : (t : ℕ) → contains {N = Unit {0}} nat_cmp no_members t ≡ true → ⊥
  none_there t e = cc

  -- where a node finds a member, there is a voter group
  finds_group : contains nat_cmp (members (found given N)) N.id ≡ true → 0 < length (members (found given N)).groups
  finds_group h = go (last_each HasGroup (memberships_in entry_meaning (whole (settled nat_cmp entry_meaning N.store))) (each_some given.membership (whole (settled nat_cmp entry_meaning N.store)) (settled_fits given.membership N.store follows.store.entries_fit follows.store.snapshot_fit)))
    where
      go : ((last_two (memberships_in entry_meaning (whole (settled nat_cmp entry_meaning N.store)))).1 ≡ none) ⊎ HasGroup (last_two (memberships_in entry_meaning (whole (settled nat_cmp entry_meaning N.store)))).1 → 0 < length (members (found given N)).groups
      go (inl z) = absurd (none_there N.id (subst (λ (m : StoredMembership ℕ (Unit {0})). contains nat_cmp m.membership N.id ≡ true) z h))
      go (inr k) = k

  -- one that leads by its stored vote, and is a quorum alone, is a voter
  pub alone_listed : leads_by_store false N ≡ true → is_quorum nat_cmp (members (found given N)).groups (N.id ∷ []) ≡ true → Listed (voter_ids nat_cmp (members (found given N))) N.id
  alone_listed l q =
      let b = and_both (is_eq (nat_cmp (found given N).machine.core.state.vote.leader_id.node_id N.id) && contains nat_cmp (members (found given N)) N.id) (found given N).machine.core.state.vote.committed l in
      let c : contains nat_cmp (members (found given N)) N.id ≡ true = (and_both (is_eq (nat_cmp (found given N).machine.core.state.vote.leader_id.node_id N.id)) (contains nat_cmp (members (found given N)) N.id) b.0).1 in
      voter_listed (members (found given N)) N.id c (alone_votes N.id (members (found given N)) (finds_group c) q)
