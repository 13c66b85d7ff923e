-- Who has granted a candidate.
use Rattle.std.proofs.Common.{ℕ, zero, suc, ◌*◌, ◌≤◌, ◌≡◌, ◌⊎◌, inl, inr, Bool, true, false, cond, ◌&&◌, List, [], ◌∷◌, length, take, arith, refl, sym, ap, ◌∙◌, subst, Option, None, Some}
use Rattle.std.specs.Prelude.{◌+◌, count_by, fold, filter, map, nat_lt, unwrap_or, is_some, find}
use Rattle.std.specs.Option.{option_map}
use Rattle.std.specs.List.{AllByRecursion}
use Rattle.std.specs.Ordering.{bool_cmp, is_eq, is_ge, nat_cmp}
use Rattle.std.proofs.lemmas.Bool.Decides.{nat_tests}
use Rattle.std.proofs.lemmas.List.Recursion.{is_count_by}
use Rattle.proof_deeds.specs.raft_state.Sorted.{has_id}
use Rattle.proof_deeds.specs.raft_progress.Quorum.{is_majority, is_quorum}
use Rattle.proof_deeds.specs.raft_progress.Table.{greater, holders, is_row_of, row_of, voter_rows, with_value}
use Rattle.proof_deeds.specs.raft_proposer.Candidate.{grant_by, is_granted}
use Rattle.proof_deeds.specs.raft_store.Types.{WorldCandidate}
use Rattle.proof_progress.proofs.Elects.{itself}

-- a row of the first k is this id's, with a value that has the property
abbrev pub InRow : (Bool → Type 0) → ℕ → List (ℕ × Bool) → ℕ → Type 0
InRow P zero rows g = ⊥
InRow P (suc k) [] g = ⊥
InRow P (suc k) (row ∷ rows) g = ((row.0 ≡ g) × P row.1) ⊎ InRow P k rows g

abbrev pub Any : Bool → Type 0
Any b = Unit {0}

abbrev pub Yes : Bool → Type 0
Yes b = b ≡ true

pub eq_of : (a b : ℕ) → is_eq (nat_cmp a b) ≡ true → a ≡ b
eq_of a b e = grind (arith, nat_tests)

-- a grant is a voter's row
valued : (t : ℕ) (row : ℕ × Bool) → (with_value nat_cmp t true row).0 ≡ row.0
valued t row = go (is_row_of nat_cmp t row) where
  first : ℕ × Bool → ℕ
  first r = r.0

  go : (b : Bool) → first (cond b (row.0, true) row) ≡ row.0
  go true = refl
  go false = refl

valued_yes : (t : ℕ) (row : ℕ × Bool) → row.1 ≡ true → (with_value nat_cmp t true row).1 ≡ true
valued_yes t row e = go (is_row_of nat_cmp t row) where
  second : ℕ × Bool → Bool
  second r = r.1

  go : (b : Bool) → second (cond b (row.0, true) row) ≡ true
  go true = refl
  go false = e

valued_own : (t : ℕ) (row : ℕ × Bool) → row.0 ≡ t → (with_value nat_cmp t true row).1 ≡ true
valued_own t row e = go (is_row_of nat_cmp t row) (subst (λ i. is_eq (nat_cmp t i) ≡ true) (sym e) (ap is_eq (itself t))) where
  second : ℕ × Bool → Bool
  second r = r.1

  go : (b : Bool) → b ≡ true → second (cond b (row.0, true) row) ≡ true
  go true q = refl
  go false q = cc

-- and its ids stay
pub same_ids_granted : (t : ℕ) (rows : List (ℕ × Bool)) → map (λ (r : ℕ × Bool). r.0) (map (with_value nat_cmp t true) rows) ≡ map (λ (r : ℕ × Bool). r.0) rows
same_ids_granted t [] = refl
same_ids_granted t (row ∷ rows) = ap (λ i. i ∷ map (λ (r : ℕ × Bool). r.0) (map (with_value nat_cmp t true) rows)) (valued t row) ∙ ap (λ is. row.0 ∷ is) (same_ids_granted t rows)

pub any_stays : (t k : ℕ) (rows : List (ℕ × Bool)) (g : ℕ) → InRow Any k rows g → InRow Any k (map (with_value nat_cmp t true) rows) g
any_stays t zero rows g h = absurd h
any_stays t (suc k) [] g h = absurd h
any_stays t (suc k) (row ∷ rows) g (inl p) = inl (valued t row ∙ p.0, tt)
any_stays t (suc k) (row ∷ rows) g (inr p) = inr (any_stays t k rows g p)

pub yes_stays : (t k : ℕ) (rows : List (ℕ × Bool)) (g : ℕ) → InRow Yes k rows g → InRow Yes k (map (with_value nat_cmp t true) rows) g
yes_stays t zero rows g h = absurd h
yes_stays t (suc k) [] g h = absurd h
yes_stays t (suc k) (row ∷ rows) g (inl p) = inl (valued t row ∙ p.0, valued_yes t row p.1)
yes_stays t (suc k) (row ∷ rows) g (inr p) = inr (yes_stays t k rows g p)

pub yes_new : (t k : ℕ) (rows : List (ℕ × Bool)) → InRow Any k rows t → InRow Yes k (map (with_value nat_cmp t true) rows) t
yes_new t zero rows h = absurd h
yes_new t (suc k) [] h = absurd h
yes_new t (suc k) (row ∷ rows) (inl p) = inl (valued t row ∙ p.0, valued_own t row p.0)
yes_new t (suc k) (row ∷ rows) (inr p) = inr (yes_new t k rows p)

-- it has a row
pub row_in : (k : ℕ) (rows : List (ℕ × Bool)) (g : ℕ) → InRow Any k rows g → is_some (row_of nat_cmp g rows) ≡ true
row_in zero rows g h = absurd h
row_in (suc k) [] g h = absurd h
row_in (suc k) (row ∷ rows) g h = go (row_in k rows g) (is_eq (nat_cmp g row.0)) refl h where
  go : (InRow Any k rows g → is_some (row_of nat_cmp g rows) ≡ true) → (b : Bool) → is_eq (nat_cmp g row.0) ≡ b → ((row.0 ≡ g) × Unit {0}) ⊎ InRow Any k rows g → is_some (option_map (λ (r : ℕ × Bool). r.1) (cond b (Some row) (find (is_row_of nat_cmp g) rows))) ≡ true
  go f true e p = refl
  go f false e (inl p) = let z : is_eq (nat_cmp g row.0) ≡ true = subst (λ i. is_eq (nat_cmp g i) ≡ true) (sym p.0) (ap is_eq (itself g)) in let w : true ≡ false = sym z ∙ e in cc
  go f false e (inr p) = f p

-- who has granted holds
holds_yes : (k : ℕ) (rows : List (ℕ × Bool)) (g : ℕ) → InRow Yes k rows g → has_id nat_cmp (holders bool_cmp (λ b. b) (take k rows) true) g ≡ true
holds_yes zero rows g h = absurd h
holds_yes (suc k) [] g h = absurd h
holds_yes (suc k) (row ∷ rows) g h = go (holds_yes k rows g) row.1 refl h where
  or_right : (a b : Bool) → b ≡ true → Rattle.std.specs.Prelude.◌||◌ a b ≡ true
  or_right true b e = refl
  or_right false b e = e

  or_left : (a b : Bool) → a ≡ true → Rattle.std.specs.Prelude.◌||◌ a b ≡ true
  or_left true b e = refl
  or_left false b e = cc

  go : (InRow Yes k rows g → has_id nat_cmp (holders bool_cmp (λ b. b) (take k rows) true) g ≡ true) → (b : Bool) → row.1 ≡ b → ((row.0 ≡ g) × (row.1 ≡ true)) ⊎ InRow Yes k rows g
      → has_id nat_cmp (map (λ (r : ℕ × Bool). r.0) (cond (is_ge (bool_cmp b true)) (row ∷ filter (λ r. is_ge (bool_cmp r.1 true)) (take k rows)) (filter (λ r. is_ge (bool_cmp r.1 true)) (take k rows)))) g ≡ true
  go f true e (inl p) = or_left (is_eq (nat_cmp g row.0)) _ (subst (λ i. is_eq (nat_cmp g i) ≡ true) (sym p.0) (ap is_eq (itself g)))
  go f true e (inr p) = or_right (is_eq (nat_cmp g row.0)) _ (f p)
  go f false e (inl p) = let z : true ≡ false = sym p.1 ∙ e in cc
  go f false e (inr p) = f p

-- more ids have no fewer majorities
abbrev Within : List ℕ → List ℕ → Type 0
Within G H = (g : ℕ) → has_id nat_cmp G g ≡ true → has_id nat_cmp H g ≡ true

pub all_within : (G H : List ℕ) → AllByRecursion (λ g. has_id nat_cmp H g ≡ true) G → Within G H
all_within [] H a g e = cc
all_within (x ∷ G) H a g e = go (all_within G H a.1 g) (is_eq (nat_cmp g x)) refl e where
  go : (has_id nat_cmp G g ≡ true → has_id nat_cmp H g ≡ true) → (b : Bool) → is_eq (nat_cmp g x) ≡ b → Rattle.std.specs.Prelude.◌||◌ b (has_id nat_cmp G g) ≡ true → has_id nat_cmp H g ≡ true
  go f true q k = subst (λ i. has_id nat_cmp H i ≡ true) (sym (eq_of g x q)) a.0
  go f false q k = f k

abbrev pub many : (ℕ → Bool) → List ℕ → ℕ
many p [] = 0
many p (x ∷ xs) = cond (p x) (1 + many p xs) (many p xs)

many_more : (p q : ℕ → Bool) → ((g : ℕ) → p g ≡ true → q g ≡ true) → (xs : List ℕ) → many p xs ≤ many q xs
many_more p q f [] = omega arith
many_more p q f (x ∷ xs) = go (p x) (q x) (f x) (many_more p q f xs)
  where
    go : (a b : Bool) → (a ≡ true → b ≡ true) → many p xs ≤ many q xs → cond a (1 + many p xs) (many p xs) ≤ cond b (1 + many q xs) (many q xs)
    go true true k l = omega (arith, l)
    go true false k l = let z : false ≡ true = k refl in cc
    go false true k l = omega (arith, l)
    go false false k l = l

majority_more : (G H : List ℕ) → Within G H → (group : List ℕ) → is_majority nat_cmp group G ≡ true → is_majority nat_cmp group H ≡ true
majority_more G H w group e =
    let l : count_by (has_id nat_cmp G) group ≤ count_by (has_id nat_cmp H) group =
    subst (λ n. n ≤ count_by (has_id nat_cmp H) group) (is_count_by (many (has_id nat_cmp G)) (has_id nat_cmp G) refl (λ _ _. refl) group)
    (subst (λ n. many (has_id nat_cmp G) group ≤ n) (is_count_by (many (has_id nat_cmp H)) (has_id nat_cmp H) refl (λ _ _. refl) group) (many_more (has_id nat_cmp G) (has_id nat_cmp H) w group)) in
    more (length group) (count_by (has_id nat_cmp G) group) (count_by (has_id nat_cmp H) group) l e
  where
    more : (n a b : ℕ) → a ≤ b → nat_lt n (2 * a) ≡ true → nat_lt n (2 * b) ≡ true
    more n a b l e = grind (arith, nat_tests)

pub quorum_more : (G H : List ℕ) → Within G H → (groups : List (List ℕ)) → is_quorum nat_cmp groups G ≡ true → is_quorum nat_cmp groups H ≡ true
quorum_more G H w [] e = refl
quorum_more G H w (group ∷ groups) e = go (is_majority nat_cmp group G) (majority_more G H w group) (quorum_more G H w groups) e
  where
    go : (a : Bool) → (a ≡ true → is_majority nat_cmp group H ≡ true) → (is_quorum nat_cmp groups G ≡ true → is_quorum nat_cmp groups H ≡ true) → (a && is_quorum nat_cmp groups G) ≡ true → (is_majority nat_cmp group H && is_quorum nat_cmp groups H) ≡ true
    go true f k z = rw (f refl) (k z)
    go false f k z = cc

stays_true : (q : Bool → Bool) (ps : List Bool) → fold (greater bool_cmp) (Some true) (filter q ps) ≡ Some true
stays_true q [] = refl
stays_true q (p ∷ ps) = go (q p) p (stays_true q ps)
  where
    go : (b p : Bool) → fold (greater bool_cmp) (Some true) (filter q ps) ≡ Some true → fold (greater bool_cmp) (Some true) (cond b (p ∷ filter q ps) (filter q ps)) ≡ Some true
    go true true k = k
    go true false k = k
    go false p k = k

tops : (q : Bool → Bool) → q true ≡ true → (k : ℕ) (rows : List (ℕ × Bool)) (g : ℕ) → InRow Yes k rows g → (o : Option Bool) → fold (greater bool_cmp) o (filter q (map (λ (r : ℕ × Bool). r.1) (take k rows))) ≡ Some true
tops q e zero rows g h o = absurd h
tops q e (suc k) [] g h o = absurd h
tops q e (suc k) (row ∷ rows) g h o = go (tops q e k rows g) row.1 refl h
  where
    top : (o : Option Bool) → greater bool_cmp o true ≡ Some true
    top None = refl
    top (Some true) = refl
    top (Some false) = refl

    next : (b r : Bool) → ((o : Option Bool) → fold (greater bool_cmp) o (filter q (map (λ (r : ℕ × Bool). r.1) (take k rows))) ≡ Some true) → fold (greater bool_cmp) o (cond b (r ∷ filter q (map (λ (r : ℕ × Bool). r.1) (take k rows))) (filter q (map (λ (r : ℕ × Bool). r.1) (take k rows)))) ≡ Some true
    next true r f = f (greater bool_cmp o r)
    next false r f = f o

    go : (InRow Yes k rows g → (o : Option Bool) → fold (greater bool_cmp) o (filter q (map (λ (r : ℕ × Bool). r.1) (take k rows))) ≡ Some true) → (r : Bool) → row.1 ≡ r → ((row.0 ≡ g) × (row.1 ≡ true)) ⊎ InRow Yes k rows g
        → fold (greater bool_cmp) o (cond (q r) (r ∷ filter q (map (λ (r : ℕ × Bool). r.1) (take k rows))) (filter q (map (λ (r : ℕ × Bool). r.1) (take k rows)))) ≡ Some true
    go f true z p =
        rw e (ap (λ o. fold (greater bool_cmp) o (filter q (map (λ (r : ℕ × Bool). r.1) (take k rows)))) (top o) ∙ stays_true q (map (λ (r : ℕ × Bool). r.1) (take k rows)))
    go f false z (inl p) = let w : true ≡ false = sym p.1 ∙ z in cc
    go f false z (inr p) = next (q false) false (f p)

-- a candidate of which a quorum has granted
pub granted_if : (c : WorldCandidate) (g : ℕ) (G : List ℕ) → AllByRecursion (InRow Yes c.progress.voters c.progress.rows) (g ∷ G) → is_quorum nat_cmp c.progress.set (g ∷ G) ≡ true → is_granted (is_quorum nat_cmp) c ≡ true
granted_if c g G a q =
    ap (λ (o : Option Bool). unwrap_or o c.progress.default)
    (tops (λ p. is_quorum nat_cmp c.progress.set (holders bool_cmp (λ b. b) (voter_rows c.progress) p))
    (quorum_more (g ∷ G) (holders bool_cmp (λ b. b) (voter_rows c.progress) true) (all_within (g ∷ G) (holders bool_cmp (λ b. b) (voter_rows c.progress) true) (each (g ∷ G) a)) c.progress.set q)
    c.progress.voters c.progress.rows g a.0 None)
  where
    each : (G : List ℕ) → AllByRecursion (InRow Yes c.progress.voters c.progress.rows) G → AllByRecursion (λ g. has_id nat_cmp (holders bool_cmp (λ b. b) (voter_rows c.progress) true) g ≡ true) G
    each [] a = tt
    each (x ∷ G) a = (holds_yes c.progress.voters c.progress.rows x a.0, each G a.1)

-- a grant more
pub grant_more : (c : WorldCandidate) (t : ℕ) (G : List ℕ) → AllByRecursion (InRow Yes c.progress.voters c.progress.rows) G → AllByRecursion (InRow Yes c.progress.voters (grant_by nat_cmp c t).progress.rows) G
grant_more c t [] a = tt
grant_more c t (g ∷ G) a = (yes_stays t c.progress.voters c.progress.rows g a.0, grant_more c t G a.1)

pub rows_more : (c : WorldCandidate) (t : ℕ) (G : List ℕ) → AllByRecursion (InRow Any c.progress.voters c.progress.rows) G → AllByRecursion (InRow Any c.progress.voters (grant_by nat_cmp c t).progress.rows) G
rows_more c t [] a = tt
rows_more c t (g ∷ G) a = (any_stays t c.progress.voters c.progress.rows g a.0, rows_more c t G a.1)
