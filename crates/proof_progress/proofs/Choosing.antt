-- Where the logs have the same voter groups there is a choice: a voter with the greatest last id.
use Rattle.std.proofs.Common.{ℕ, ◌+◌, ◌*◌, ◌≤◌, ◌≡◌, ◌≢◌, ◌∙◌, inl, inr, ⊎_elim, Bool, true, false, cond, ◌&&◌, List, [], ◌∷◌, length, arith, refl, sym, ap, subst, Option, None, Some}
use Rattle.std.specs.Prelude.{◌||◌, count_by, filter, if◌then◌else◌, map, nat_eq, nat_lt}
use Rattle.std.specs.List.{AllByRecursion, list_all}
use Rattle.std.specs.Map.{keys_of}
use Rattle.std.specs.Ordering.{is_eq, is_le, is_lt, nat_cmp}
use Rattle.std.proofs.lemmas.Bool.Decides.{nat_tests}
use Rattle.std.proofs.lemmas.Cmp.{nat_cmp_total}
use Rattle.std.proofs.lemmas.List.Recursion.{is_count_by}
use Rattle.proof_deeds.specs.raft_state.declared.ids.LogId.{LogId}
use Rattle.proof_deeds.specs.raft_state.declared.membership.Members.{Members}
use Rattle.proof_deeds.specs.raft_state.Members.{is_voter, voter_ids}
use Rattle.proof_deeds.specs.raft_state.Order.{last_id_cmp}
use Rattle.proof_deeds.specs.raft_state.Sorted.{has_id}
use Rattle.proof_deeds.proofs.raft_state_proofs.Orders.{last_total, le_refl, le_trans, lt_is_le, lt_not_ge, lt_of_not_le, and_both, or_cases, or_left, or_right}
use Rattle.proof_deeds.specs.raft_progress.Quorum.{is_majority, is_quorum}
use Rattle.proof_deeds.specs.raft_store.declared.entry.Entry.{Entry}
use Rattle.proof_deeds.specs.raft_store.Types.{EngineView}
use Rattle.proof_deeds.specs.raft_node.declared.given.Given.{Given}
use Rattle.proof_deeds.specs.raft_node.Net.{Net, NodeView}
use Rattle.proof_progress.specs.Choices.{ChoicesExist, IsChoice, MayFollow, SomeLog, StartsWithGroups, engine_at_start, is_among}
use Rattle.proof_progress.specs.Continuations.{At}
use Rattle.proof_progress.specs.Elections.{Apart, Listed, log_end, members}
use Rattle.proof_progress.specs.Groups.{HasVoters}
use Rattle.proof_progress.proofs.Chosen.{each_at}
use Rattle.proof_progress.proofs.Elects.{itself}
use Rattle.proof_progress.proofs.Places.{same_ids, at_one}
use Rattle.proof_progress.proofs.Tables.{eq_of, many}
use Rattle.proof_progress.proofs.Voters.{from_filter, to_filter}

-- Ids in lists

pub has_of_listed : (xs : List ℕ) (t : ℕ) → Listed xs t → has_id nat_cmp xs t ≡ true
has_of_listed [] t h = absurd h
has_of_listed (x ∷ xs) t (inl q) = or_left (is_eq (nat_cmp t x)) _ (subst (λ i. is_eq (nat_cmp t i) ≡ true) (sym q) (ap is_eq (itself t)))
has_of_listed (x ∷ xs) t (inr q) = or_right (is_eq (nat_cmp t x)) _ (has_of_listed xs t q)

pub listed_of_has : (xs : List ℕ) (t : ℕ) → has_id nat_cmp xs t ≡ true → Listed xs t
listed_of_has [] t h = cc
listed_of_has (x ∷ xs) t h = go (is_eq (nat_cmp t x)) refl (listed_of_has xs t) h
  where
    go : (b : Bool) → is_eq (nat_cmp t x) ≡ b → (has_id nat_cmp xs t ≡ true → Listed xs t) → (b || has_id nat_cmp xs t) ≡ true → Listed (x ∷ xs) t
    go true e f k = inl (sym (eq_of t x e))
    go false e f k = inr (f k)

-- each once, and without one id
once : ℕ → List ℕ → List ℕ
once n [] = []
once n (x ∷ xs) = if nat_eq x n || has_id nat_cmp xs x then once n xs else x ∷ once n xs

listed_once : (n : ℕ) (xs : List ℕ) (t : ℕ) → Listed (once n xs) t → Listed xs t
unfolding once
listed_once n [] t h = absurd h
listed_once n (x ∷ xs) t h = go (nat_eq x n || has_id nat_cmp xs x) (listed_once n xs t) h
  where
    go : (b : Bool) → (Listed (once n xs) t → Listed xs t) → Listed (if b then once n xs else x ∷ once n xs) t → Listed (x ∷ xs) t
    go true f k = inr (f k)
    go false f (inl q) = inl q
    go false f (inr q) = inr (f q)

pub all_listed : (P : ℕ → Type 0) (xs : List ℕ) → ((t : ℕ) → Listed xs t → P t) → AllByRecursion P xs
all_listed P [] f = tt
all_listed P (x ∷ xs) f = (f x (inl refl), all_listed P xs (λ t h. f t (inr h)))

apart_once : (n : ℕ) (xs : List ℕ) → Apart n (once n xs)
unfolding once
apart_once n [] = tt
apart_once n (x ∷ xs) = go (nat_eq x n) (has_id nat_cmp xs x) refl refl (apart_once n xs)
  where
    go : (a b : Bool) → nat_eq x n ≡ a → has_id nat_cmp xs x ≡ b → Apart n (once n xs) → Apart n (if a || b then once n xs else x ∷ once n xs)
    go true b e f k = k
    go false true e f k = k
    go false false e f k = (
      (λ z. let w : true ≡ false = sym (same_ids x n z) ∙ e in cc),
      all_listed (λ u. u ≢ x) (once n xs) (λ t h z. let w : true ≡ false = sym (has_of_listed xs x (subst (Listed xs) z (listed_once n xs t h))) ∙ f in cc),
      k,
    )

has_once : (n : ℕ) (xs : List ℕ) (t : ℕ) → Listed xs t → has_id nat_cmp (n ∷ once n xs) t ≡ true
unfolding once
has_once n [] t h = absurd h
has_once n (x ∷ xs) t h = go (nat_eq x n) (has_id nat_cmp xs x) refl refl h (has_once n xs t)
  where
    more : (a b c : Bool) → (a || c) ≡ true → (a || (b || c)) ≡ true
    more true b c e = refl
    more false true c e = refl
    more false false c e = e

    named : (a b : ℕ) → nat_eq a b ≡ true → a ≡ b
    named a b e = grind (arith, nat_tests)

    go : (a b : Bool) → nat_eq x n ≡ a → has_id nat_cmp xs x ≡ b → Listed (x ∷ xs) t → (Listed xs t → has_id nat_cmp (n ∷ once n xs) t ≡ true) → has_id nat_cmp (n ∷ (if a || b then once n xs else x ∷ once n xs)) t ≡ true
    go true b e f (inl q) k = or_left (is_eq (nat_cmp t n)) _ (subst (λ i. is_eq (nat_cmp i n) ≡ true) (sym (named x n e) ∙ q) (ap is_eq (itself n)))
    go true b e f (inr q) k = k q
    go false true e f (inl q) k = k (subst (Listed xs) q (listed_of_has xs x f))
    go false true e f (inr q) k = k q
    go false false e f (inl q) k = or_right (is_eq (nat_cmp t n)) _ (or_left (is_eq (nat_cmp t x)) _ (subst (λ i. is_eq (nat_cmp t i) ≡ true) (sym q) (ap is_eq (itself t))))
    go false false e f (inr q) k = more (is_eq (nat_cmp t n)) (is_eq (nat_cmp t x)) (has_id nat_cmp (once n xs) t) (k q)

-- Quorums of voters

many_within : (p q : ℕ → Bool) (xs : List ℕ) → ((g : ℕ) → Listed xs g → p g ≡ true → q g ≡ true) → many p xs ≤ many q xs
many_within p q [] f = omega arith
many_within p q (x ∷ xs) f = go (p x) (q x) (f x (inl refl)) (many_within p q xs (λ g h. f g (inr h)))
  where
    go : (a b : Bool) → (a ≡ true → b ≡ true) → many p xs ≤ many q xs → cond a (1 + many p xs) (many p xs) ≤ cond b (1 + many q xs) (many q xs)
    go true true k l = omega (arith, l)
    go true false k l = let z : false ≡ true = k refl in cc
    go false true k l = omega (arith, l)
    go false false k l = l

majority_within : (G H group : List ℕ) → ((g : ℕ) → Listed group g → has_id nat_cmp G g ≡ true → has_id nat_cmp H g ≡ true) → is_majority nat_cmp group G ≡ true → is_majority nat_cmp group H ≡ true
majority_within G H group w e =
    let l : count_by (has_id nat_cmp G) group ≤ count_by (has_id nat_cmp H) group =
    subst (λ n. n ≤ count_by (has_id nat_cmp H) group) (is_count_by (many (has_id nat_cmp G)) (has_id nat_cmp G) refl (λ _ _. refl) group)
    (subst (λ n. many (has_id nat_cmp G) group ≤ n) (is_count_by (many (has_id nat_cmp H)) (has_id nat_cmp H) refl (λ _ _. refl) group) (many_within (has_id nat_cmp G) (has_id nat_cmp H) group w)) in
    more (length group) (count_by (has_id nat_cmp G) group) (count_by (has_id nat_cmp H) group) l e
  where
    more : (n a b : ℕ) → a ≤ b → nat_lt n (2 * a) ≡ true → nat_lt n (2 * b) ≡ true
    more n a b l e = grind (arith, nat_tests)

-- whoever has the voters of a quorum is one
pub quorum_within : (G H : List ℕ) (groups : List (List ℕ)) → ((g : ℕ) → is_among groups g ≡ true → has_id nat_cmp G g ≡ true → has_id nat_cmp H g ≡ true) → is_quorum nat_cmp groups G ≡ true → is_quorum nat_cmp groups H ≡ true
quorum_within G H [] w e = refl
quorum_within G H (group ∷ groups) w e =
    go (is_majority nat_cmp group G) (majority_within G H group (λ g h. w g (or_left (has_id nat_cmp group g) _ (has_of_listed group g h)))) (quorum_within G H groups (λ g h. w g (or_right (has_id nat_cmp group g) _ h))) e
  where
    go : (a : Bool) → (a ≡ true → is_majority nat_cmp group H ≡ true) → (is_quorum nat_cmp groups G ≡ true → is_quorum nat_cmp groups H ≡ true) → (a && is_quorum nat_cmp groups G) ≡ true → (is_majority nat_cmp group H && is_quorum nat_cmp groups H) ≡ true
    go true f k z = rw (f refl) (k z)
    go false f k z = cc

-- an id of a group that a membership has is one of its voters
all_in : (p : ℕ → Bool) (group : List ℕ) (t : ℕ) → list_all p group ≡ true → has_id nat_cmp group t ≡ true → p t ≡ true
all_in p [] t a h = cc
all_in p (x ∷ xs) t a h = go (is_eq (nat_cmp t x)) refl (and_both (p x) (list_all p xs) a) (all_in p xs t) h
  where
    go : (b : Bool) → is_eq (nat_cmp t x) ≡ b → (p x ≡ true) × (list_all p xs ≡ true) → (list_all p xs ≡ true → has_id nat_cmp xs t ≡ true → p t ≡ true) → (b || has_id nat_cmp xs t) ≡ true → p t ≡ true
    go true e k f q = subst (λ i. p i ≡ true) (sym (eq_of t x e)) k.0
    go false e k f q = f k.1 q

all_among : (p : ℕ → Bool) (groups : List (List ℕ)) (t : ℕ) → list_all (λ group. list_all p group) groups ≡ true → is_among groups t ≡ true → p t ≡ true
all_among p [] t a h = cc
all_among p (g ∷ gs) t a h =
    let k : (list_all p g ≡ true) × (list_all (λ group. list_all p group) gs ≡ true) = and_both (list_all p g) (list_all (λ group. list_all p group) gs) a in
    ⊎_elim (λ (q : has_id nat_cmp g t ≡ true). all_in p g t k.0 q) (λ (q : is_among gs t ≡ true). all_among p gs t k.1 q) (or_cases (has_id nat_cmp g t) (is_among gs t) h)

pub group_voter : (groups : List (List ℕ)) (m : Members ℕ (Unit {0})) → HasVoters groups m → (t : ℕ) → is_among groups t ≡ true → Listed (voter_ids nat_cmp m) t
group_voter groups m k t h =
    to_filter (is_voter nat_cmp m) (keys_of m.nodes) t (listed_of_has (keys_of m.nodes) t (all_among (has_id nat_cmp (keys_of m.nodes)) groups t k.nodes h)) (subst (λ gs. is_among gs t ≡ true) (sym k.same) h)

-- The greatest

-- the node of an id
pub find_at : (nodes : List NodeView) (t : ℕ) → Listed (map (λ N. N.id) nodes) t → (N : NodeView) × At nodes t N
find_at [] t h = absurd h
find_at (x ∷ xs) t h = go (nat_eq x.id t) refl h (find_at xs t)
  where
    named : (a b : ℕ) → nat_eq a b ≡ true → a ≡ b
    named a b e = grind (arith, nat_tests)

    go : (b : Bool) → nat_eq x.id t ≡ b → Listed (map (λ N. N.id) (x ∷ xs)) t → (Listed (map (λ N. N.id) xs) t → (N : NodeView) × At xs t N) → (N : NodeView) × At (x ∷ xs) t N
    go true e k f = (x, inl (named x.id t e, refl))
    go false e (inl q) f = let w : true ≡ false = sym (same_ids x.id t q) ∙ e in cc
    go false e (inr q) f = let r = f q in (r.0, inr ((λ z. let w : true ≡ false = sym (same_ids x.id t z) ∙ e in cc), r.1))

pub listed_at : (nodes : List NodeView) (t : ℕ) (N : NodeView) → At nodes t N → Listed (map (λ N. N.id) nodes) t
listed_at [] t N h = absurd h
listed_at (x ∷ xs) t N (inl p) = inl p.0
listed_at (x ∷ xs) t N (inr p) = inr (listed_at xs t N p.1)

module _ (nodes : List NodeView) (end : NodeView → Option (LogId ℕ)) where
  -- one of these ids, whose node's log none of theirs is above
  pub record Best (ids : List ℕ) : Type 0 where
    pub n : ℕ
    pub one : Listed ids n
    pub node : NodeView
    pub at : At nodes n node
    pub top : (t : ℕ) (T : NodeView) → Listed ids t → At nodes t T → is_le (last_id_cmp nat_cmp (end T) (end node)) ≡ true

  pub best : (id : ℕ) (ids : List ℕ) → ((t : ℕ) → Listed (id ∷ ids) t → (N : NodeView) × At nodes t N) → Best (id ∷ ids)
  best id [] each =
      let r = each id (inl refl) in
      record { n = id; one = inl refl; node = r.0; at = r.1; top = λ t T h at. own r.0 r.1 t T h at }
    where
      own : (N : NodeView) → At nodes id N → (t : ℕ) (T : NodeView) → Listed (id ∷ []) t → At nodes t T → is_le (last_id_cmp nat_cmp (end T) (end N)) ≡ true
      own N k t T (inl q) at = subst (λ M. is_le (last_id_cmp nat_cmp (end M) (end N)) ≡ true) (at_one nodes id N T k (subst (λ i. At nodes i T) (sym q) at)) (le_refl (last_total nat_cmp nat_cmp_total) (end N))
      own N k t T (inr q) at = absurd q
  best id (x ∷ ids) each = go (each id (inl refl)) (best x ids (λ t h. each t (inr h)))
    where
      own : (N : NodeView) → At nodes id N → (t : ℕ) (T : NodeView) → id ≡ t → At nodes t T → N ≡ T
      own N k t T q at = at_one nodes id N T k (subst (λ i. At nodes i T) (sym q) at)

      of : (N : NodeView) (k : At nodes id N) (b : Best (x ∷ ids)) (c : Bool) → is_le (last_id_cmp nat_cmp (end b.node) (end N)) ≡ c → Best (id ∷ x ∷ ids)
      of N k b true e = record { n = id; one = inl refl; node = N; at = k; top = top }
        where
          top : (t : ℕ) (T : NodeView) → Listed (id ∷ x ∷ ids) t → At nodes t T → is_le (last_id_cmp nat_cmp (end T) (end N)) ≡ true
          top t T (inl q) at = subst (λ M. is_le (last_id_cmp nat_cmp (end M) (end N)) ≡ true) (own N k t T q at) (le_refl (last_total nat_cmp nat_cmp_total) (end N))
          top t T (inr q) at = le_trans (last_total nat_cmp nat_cmp_total) (end T) (end b.node) (end N) (b.top t T q at) e
      of N k b false e = record { n = b.n; one = inr b.one; node = b.node; at = b.at; top = top }
        where
          top : (t : ℕ) (T : NodeView) → Listed (id ∷ x ∷ ids) t → At nodes t T → is_le (last_id_cmp nat_cmp (end T) (end b.node)) ≡ true
          top t T (inl q) at = subst (λ M. is_le (last_id_cmp nat_cmp (end M) (end b.node)) ≡ true) (own N k t T q at) (lt_is_le _ (lt_of_not_le (last_total nat_cmp nat_cmp_total) (end b.node) (end N) e))
          top t T (inr q) at = b.top t T q at

      go : (N : NodeView) × At nodes id N → Best (x ∷ ids) → Best (id ∷ x ∷ ids)
      go r b = of r.0 r.1 b (is_le (last_id_cmp nat_cmp (end b.node) (end r.0))) refl

-- a log that isn't above another isn't above: the other isn't behind it
pub not_behind : (x y : Option (LogId ℕ)) → is_le (last_id_cmp nat_cmp y x) ≡ true → is_lt (last_id_cmp nat_cmp x y) ≡ false
not_behind x y h = go (is_lt (last_id_cmp nat_cmp x y)) refl
  where
    go : (b : Bool) → is_lt (last_id_cmp nat_cmp x y) ≡ b → b ≡ false
    go true e = let w : true ≡ false = sym h ∙ lt_not_ge (last_total nat_cmp nat_cmp_total) x y e in cc
    go false e = refl

-- The choice

module _ (given : Given) (saved : Bool) (groups : List (List ℕ)) (net : Net (List Entry)) (agree : AllByRecursion (StartsWithGroups given saved groups) net.nodes) (enough : is_quorum nat_cmp groups (map (λ N. N.id) net.nodes) ≡ true) (some : SomeLog given saved groups net) where
  abbrev start_of : NodeView → EngineView
  start_of N = engine_at_start given.settings saved N

  abbrev end_of : NodeView → Option (LogId ℕ)
  end_of N = log_end (engine_at_start given.settings saved N)

  -- the voters that are nodes
  abbrev present : List ℕ
  present = filter (is_among groups) (map (λ N. N.id) net.nodes)

  present_at : (t : ℕ) → Listed present t → (N : NodeView) × At net.nodes t N
  present_at t h = find_at net.nodes t (from_filter (is_among groups) (map (λ N. N.id) net.nodes) t h).0

  there : Listed present some.voter
  there = to_filter (is_among groups) (map (λ N. N.id) net.nodes) some.voter (listed_at net.nodes some.voter some.node some.at) some.among

  greatest : Best net.nodes end_of present
  greatest = go present refl there
    where
      go : (ids : List ℕ) → ids ≡ present → Listed ids some.voter → Best net.nodes end_of ids
      go [] e h = absurd h
      go (x ∷ ids) e h = best net.nodes end_of x ids (λ t k. present_at t (subst (λ xs. Listed xs t) e k))

  -- it has a log, so it knows the groups
  has_log : (b : Best net.nodes end_of present) → end_of b.node ≢ None
  has_log b z = some.some (none (end_of some.node) (subst (λ o. is_le (last_id_cmp nat_cmp (end_of some.node) o) ≡ true) z (b.top some.voter some.node there some.at)))
    where
      none : (o : Option (LogId ℕ)) → is_le (last_id_cmp nat_cmp o None) ≡ true → o ≡ None
      none None e = refl
      none (Some x) e = cc

  knows : (b : Best net.nodes end_of present) → HasVoters groups (members (start_of b.node))
  knows b = go (each_at (StartsWithGroups given saved groups) net.nodes b.n b.node b.at agree)
    where
      go : StartsWithGroups given saved groups b.node → HasVoters groups (members (start_of b.node))
      go (inl z) = absurd (has_log b z)
      go (inr h) = h

  voter_of : (b : Best net.nodes end_of present) (t : ℕ) → Listed present t → Listed (voter_ids nat_cmp (members (start_of b.node))) t
  voter_of b t h = group_voter groups (members (start_of b.node)) (knows b) t (from_filter (is_among groups) (map (λ N. N.id) net.nodes) t h).1

  pub chooses : (n : ℕ) × IsChoice given saved net n
  chooses = (
    greatest.n,
    record {
      node = greatest.node;
      at = greatest.at;
      voter = voter_of greatest greatest.n greatest.one;
      voters = once greatest.n present;
      apart = apart_once greatest.n present;
      follow = all_listed (MayFollow given saved net (start_of greatest.node)) (once greatest.n present) (λ t h. follows t (listed_once greatest.n present t h));
      quorum = subst (λ gs. is_quorum nat_cmp gs (greatest.n ∷ once greatest.n present) ≡ true) (sym (knows greatest).same)
          (quorum_within (map (λ N. N.id) net.nodes) (greatest.n ∷ once greatest.n present) groups
          (λ g a h. has_once greatest.n present g (to_filter (is_among groups) (map (λ N. N.id) net.nodes) g (listed_of_has (map (λ N. N.id) net.nodes) g h) a)) enough);
    },
  )
    where
      follows : (t : ℕ) → Listed present t → MayFollow given saved net (start_of greatest.node) t
      follows t h =
          let r = present_at t h in
          record { voter = voter_of greatest t h; node = r.0; at = r.1; ahead = not_behind (end_of greatest.node) (end_of r.0) (greatest.top t r.0 h r.1) }

pub choices_exist : ChoicesExist
choices_exist given saved groups net agree enough some = chooses given saved groups net agree enough some
