-- Where no event proposed other voter groups, a majority of each group goes on by itself: its voter with the greatest last id has the greatest log.
use Rattle.std.proofs.Common.{Less, ℕ, suc, ◌+◌, ◌*◌, ◌-◌, ◌<◌, ◌≤◌, ◌≡◌, ◌≢◌, ◌∙◌, inl, inr, Bool, true, false, cond, List, [], ◌∷◌, length, filter, map, arith, refl, sym, subst, Option, None, Some}
use Rattle.std.specs.Prelude.{nat_lt, ◌||◌}
use Rattle.std.specs.List.{AllByRecursion}
use Rattle.std.specs.List.Sorted.{IsStrictlySortedBy}
use Rattle.std.specs.Ordering.{is_eq, is_le, nat_cmp}
use Rattle.std.proofs.lemmas.Bool.Decides.{nat_tests}
use Rattle.std.proofs.lemmas.List.Elements.{recursion_from_All}
use Rattle.std.proofs.lemmas.List.Recursion.{is_count_by}
use Rattle.proof_deeds.specs.raft_state.declared.ids.LogId.{LogId}
use Rattle.proof_deeds.specs.raft_state.declared.membership.Members.{Members}
use Rattle.proof_deeds.specs.raft_state.Members.{learner_ids, no_members, voter_ids}
use Rattle.proof_deeds.specs.raft_state.Order.{last_id_cmp}
use Rattle.proof_deeds.specs.raft_state.Sorted.{IsSound, has_id}
use Rattle.proof_deeds.proofs.raft_state_proofs.Orders.{and_both}
use Rattle.proof_deeds.specs.raft_progress.Quorum.{is_majority, is_quorum}
use Rattle.proof_deeds.specs.raft_store.declared.entry.Entry.{Entry}
use Rattle.proof_deeds.specs.raft_store.declared.entry.Value.{Value}
use Rattle.proof_deeds.specs.raft_store.Types.{EngineView}
use Rattle.proof_deeds.specs.raft_schedule.declared.event.Event.{Event}
use Rattle.proof_deeds.specs.raft_node.declared.given.Given.{Given}
use Rattle.proof_deeds.specs.raft_node.Net.{Net, NodeView}
use Rattle.proof_deeds.specs.raft_node.Runs.{world_after}
use Rattle.proof_deeds.specs.raft_node.WellFormed.{IsWellFormed}
use Rattle.proof_progress.specs.Changes.{CanGoOnWith, HaveGoneOnWith, voters_among}
use Rattle.proof_progress.specs.Choices.{is_among}
use Rattle.proof_progress.specs.Continuations.{At}
use Rattle.proof_progress.specs.Elections.{Listed, log_end, members}
use Rattle.proof_progress.specs.GoesOn.{found}
use Rattle.proof_progress.specs.Groups.{HasVoters, LeavesVoters}
use Rattle.proof_progress.specs.Majorities.{CanGoOnAmong, HaveGoneOn, MajoritiesCommit}
use Rattle.proof_progress.proofs.ChangesGo.{goes_on_with}
use Rattle.proof_progress.proofs.Choosing.{Best, best, find_at, group_voter, has_of_listed, listed_of_has, quorum_within}
use Rattle.proof_progress.proofs.Elects.{itself}
use Rattle.proof_progress.proofs.Finding.{FindsGroups, finds}
use Rattle.proof_progress.proofs.Heard.{each_listed}
use Rattle.proof_progress.proofs.Tables.{eq_of, many}
use Rattle.proof_progress.proofs.Voters.{from_filter, to_filter, voter_votes}
use Rattle.proof_progress.proofs.WaysOn.{left_of_both}

-- A voter that is a majority of its groups alone is the only one

module _ (t : ℕ) where
  none_above : (xs : List ℕ) → AllByRecursion (λ y. nat_cmp t y ≡ Less) xs → many (has_id nat_cmp (t ∷ [])) xs ≤ 0
  none_above [] a = omega arith
  none_above (x ∷ xs) a = go (is_eq (nat_cmp x t)) (other x a.0) (none_above xs a.1)
    where
      other : (x : ℕ) → nat_cmp t x ≡ Less → is_eq (nat_cmp x t) ≡ false
      other x e = grind (arith, nat_tests)

      go : (b : Bool) → b ≡ false → many (has_id nat_cmp (t ∷ [])) xs ≤ 0 → cond (b || false) (1 + many (has_id nat_cmp (t ∷ [])) xs) (many (has_id nat_cmp (t ∷ [])) xs) ≤ 0
      go true e l = cc
      go false e l = l

  one_at_most : (xs : List ℕ) → IsStrictlySortedBy nat_cmp xs → many (has_id nat_cmp (t ∷ [])) xs ≤ 1
  unfolding IsStrictlySortedBy
  one_at_most [] s = omega arith
  one_at_most (x ∷ xs) s = go (is_eq (nat_cmp x t)) refl (one_at_most xs s.1)
    where
      go : (b : Bool) → is_eq (nat_cmp x t) ≡ b → many (has_id nat_cmp (t ∷ [])) xs ≤ 1 → cond (b || false) (1 + many (has_id nat_cmp (t ∷ [])) xs) (many (has_id nat_cmp (t ∷ [])) xs) ≤ 1
      go true e l =
          let k : many (has_id nat_cmp (t ∷ [])) xs ≤ 0 = none_above xs (subst (λ i. AllByRecursion (λ y. nat_cmp i y ≡ Less) xs) (eq_of x t e) s.0) in
          omega (arith, k)
      go false e l = l

  counted : (g : List ℕ) → is_majority nat_cmp g (t ∷ []) ≡ true → nat_lt (length g) (2 * many (has_id nat_cmp (t ∷ [])) g) ≡ true
  counted g m = subst (λ c. nat_lt (length g) (2 * c) ≡ true) (sym (is_count_by (many (has_id nat_cmp (t ∷ []))) (has_id nat_cmp (t ∷ [])) refl (λ _ _. refl) g)) m

  only_in : (n : ℕ) (g : List ℕ) → IsStrictlySortedBy nat_cmp g → is_majority nat_cmp g (t ∷ []) ≡ true → has_id nat_cmp g n ≡ true → n ≡ t
  only_in n [] s m h = cc
  only_in n (x ∷ []) s m h = go (is_eq (nat_cmp x t)) refl (counted (x ∷ []) m) (listed_of_has (x ∷ []) n h)
    where
      none_of_one : nat_lt 1 (2 * 0) ≡ true → ⊥
      none_of_one e = cc

      go : (b : Bool) → is_eq (nat_cmp x t) ≡ b → nat_lt (length (x ∷ [])) (2 * cond (b || false) (1 + 0) 0) ≡ true → Listed (x ∷ []) n → n ≡ t
      go true e k (inl q) = sym q ∙ eq_of x t e
      go true e k (inr q) = absurd q
      go false e k q = absurd (none_of_one k)
  only_in n (x ∷ y ∷ ys) s m h =
      let l : many (has_id nat_cmp (t ∷ [])) (x ∷ y ∷ ys) ≤ 1 = one_at_most (x ∷ y ∷ ys) s in
      absurd (long (length ys) (many (has_id nat_cmp (t ∷ [])) (x ∷ y ∷ ys)) l (counted (x ∷ y ∷ ys) m))
    where
      less : (a b : ℕ) → nat_lt a b ≡ true → a < b
      less a b e = grind (arith, nat_tests)

      long : (a b : ℕ) → b ≤ 1 → nat_lt (suc (suc a)) (2 * b) ≡ true → ⊥
      long a b l e = let k : suc (suc a) < 2 * b = less (suc (suc a)) (2 * b) e in omega (arith, l, k)

  pub only_voter : (n : ℕ) (groups : List (List ℕ)) → AllByRecursion (IsStrictlySortedBy nat_cmp) groups → is_quorum nat_cmp groups (t ∷ []) ≡ true → is_among groups n ≡ true → n ≡ t
  only_voter n [] s q h = cc
  only_voter n (g ∷ gs) s q h = go (has_id nat_cmp g n) refl (and_both (is_majority nat_cmp g (t ∷ [])) (is_quorum nat_cmp gs (t ∷ [])) q) (only_voter n gs s.1) h
    where
      go : (b : Bool) → has_id nat_cmp g n ≡ b → (is_majority nat_cmp g (t ∷ []) ≡ true) × (is_quorum nat_cmp gs (t ∷ []) ≡ true) → (is_quorum nat_cmp gs (t ∷ []) ≡ true → is_among gs n ≡ true → n ≡ t) → (b || is_among gs n) ≡ true → n ≡ t
      go true e k f z = only_in n g s.0 k.0 e
      go false e k f z = f k.1 z

-- The choice

module _ (given : Given) (wf : IsWellFormed given) (sound : IsSound nat_cmp given.membership.groups given.membership.nodes) (past : List Event) (kept : AllByRecursion (λ (e : Event). LeavesVoters e.kind) past) (up : List ℕ) (v : Value) (vs : List Value)
    (c : CanGoOnAmong given given.membership.groups (world_after given past) up (length (v ∷ vs))) where
  abbrev net : Net (List Entry)
  net = world_after given past

  abbrev groups : List (List ℕ)
  groups = given.membership.groups

  abbrev count : ℕ
  count = length (v ∷ vs)

  abbrev end_of : NodeView → Option (LogId ℕ)
  end_of N = log_end (found given N)

  -- the voters that are up
  abbrev present : List ℕ
  present = filter (is_among groups) up

  node_at : (t : ℕ) → Listed up t → (N : NodeView) × At net.nodes t N
  node_at t h = find_at net.nodes t (each_listed (Listed (map (λ N. N.id) net.nodes)) up t h c.nodes)

  there : Listed present c.log.voter
  there = to_filter (is_among groups) up c.log.voter c.log.one c.log.among

  greatest : Best net.nodes end_of present
  greatest = go present refl there
    where
      go : (ids : List ℕ) → ids ≡ present → Listed ids c.log.voter → Best net.nodes end_of ids
      go [] e h = absurd h
      go (x ∷ ids) e h = best net.nodes end_of x ids (λ t k. node_at t (from_filter (is_among groups) up t (subst (λ xs. Listed xs t) e k)).0)

  abbrev n : ℕ
  n = greatest.n

  abbrev e0 : EngineView
  e0 = found given greatest.node

  n_is : Listed up n × (is_among groups n ≡ true)
  n_is = from_filter (is_among groups) up n greatest.one

  -- it has a log, so it knows the groups
  has_log : log_end e0 ≢ None
  has_log z = c.log.some (none (end_of c.log.node) (subst (λ o. is_le (last_id_cmp nat_cmp (end_of c.log.node) o) ≡ true) z (greatest.top c.log.voter c.log.node there c.log.at)))
    where
      none : (o : Option (LogId ℕ)) → is_le (last_id_cmp nat_cmp o None) ≡ true → o ≡ None
      none None e = refl
      none (Some x) e = cc

  knows : HasVoters groups (members e0)
  knows = go (finds given wf sound past kept n greatest.node greatest.at)
    where
      go : FindsGroups given groups greatest.node → HasVoters groups (members e0)
      go (inl z) = absurd (has_log z.bare)
      go (inr h) = h

  sorted : AllByRecursion (IsStrictlySortedBy nat_cmp) groups
  sorted = recursion_from_All (IsStrictlySortedBy nat_cmp) groups sound.groups_ordered

  -- so it has the greatest log of its membership's voters
  can : CanGoOnWith given net up n count
  can = record {
    once = c.once;
    nodes = c.nodes;
    greatest = record {
      one = n_is.0;
      node = greatest.node;
      at = greatest.at;
      votes = group_voter groups (members e0) knows n n_is.1;
      top = λ t T h at.
          let f = from_filter (has_id nat_cmp (voter_ids nat_cmp (members e0))) up t h in
          greatest.top t T (to_filter (is_among groups) up t f.0 (subst (λ gs. is_among gs t ≡ true) knows.same (voter_votes (members e0) t (listed_of_has (voter_ids nat_cmp (members e0)) t f.1)))) at;
    };
    quorum = subst (λ gs. is_quorum nat_cmp gs (voters_among e0 up) ≡ true) (sym knows.same)
        (quorum_within up (voters_among e0 up) groups
        (λ g a h.
        has_of_listed (voters_among e0 up) g
        (to_filter (has_id nat_cmp (voter_ids nat_cmp (members e0))) up g (listed_of_has up g h) (has_of_listed (voter_ids nat_cmp (members e0)) g (group_voter groups (members e0) knows g a)))) c.quorum);
    reach = λ t T h at. c.reach n t greatest.node T n_is.0 h greatest.at at;
    payload = c.payload;
    terms = c.terms;
    room = c.room;
  }

  abbrev gone : HaveGoneOnWith given past up n (v ∷ vs)
  gone = goes_on_with given wf past up n v vs can

  -- whoever goes on knows the groups
  abbrev g0 : EngineView
  g0 = found given gone.node

  known : HasVoters groups (members g0)
  known = go (finds given wf sound past kept gone.n gone.node gone.at)
    where
      go : FindsGroups given groups gone.node → HasVoters groups (members g0)
      go (inl z) = let w : Listed (voter_ids {N = Unit {0}} nat_cmp no_members) gone.n = subst (λ (m : Members ℕ (Unit {0})). Listed (voter_ids nat_cmp m) gone.n) z.members_are gone.votes in absurd w
      go (inr h) = h

  is_alone : (b : Bool) → is_quorum nat_cmp groups (gone.n ∷ []) ≡ b → is_quorum nat_cmp (members g0).groups (gone.n ∷ []) ≡ b
  is_alone b q = subst (λ gs. is_quorum nat_cmp gs (gone.n ∷ []) ≡ b) (sym known.same) q

  voter_there : (t : ℕ) → Listed up t → is_among groups t ≡ true → Listed (gone.n ∷ gone.others) t
  voter_there t h a = go (is_quorum nat_cmp groups (gone.n ∷ [])) refl
    where
      go : (b : Bool) → is_quorum nat_cmp groups (gone.n ∷ []) ≡ b → Listed (gone.n ∷ gone.others) t
      go true q = inl (sym (only_voter gone.n t groups sorted q a))
      go false q = gone.all (is_alone false q) t h (left_of_both (voter_ids nat_cmp (members g0)) (learner_ids nat_cmp (members g0)) t (group_voter groups (members g0) known t a))

  pub go_on : HaveGoneOn given given.membership.groups past up (v ∷ vs)
  go_on = record {
    n = gone.n;
    one = gone.one;
    among = subst (λ gs. is_among gs gone.n ≡ true) known.same (voter_votes (members g0) gone.n gone.votes);
    node = gone.node;
    at = gone.at;
    others = gone.others;
    voters = voter_there;
    learners = λ few t h m. gone.all (is_alone false few) t h m;
    more = gone.more;
    few = gone.few;
    gone = gone.gone;
  }

pub majorities_commit : MajoritiesCommit
majorities_commit given wf sound past kept up v vs c = go_on given wf sound past kept up v vs c
