-- Entries with their indexes: what is put, cut, passed and found.
use Rattle.std.proofs.Common.{ℕ, ◌≡◌, ◌+◌, ◌-◌, ◌∙◌, ◌⊎◌, ⊎_elim, inl, inr, ◌<◌, ◌≤◌, true, false, List, [], ◌∷◌, ◌++◌, Option, Some, None, ap, arith, drop, length, map, refl, subst, suc, sym, take, zero, append_assoc, length-append}
use Rattle.std.specs.Prelude.{filter, fold, min, nat_le, nat_lt, slice_get, unwrap_or, ◌&&◌, ◌↔◌}
use Rattle.std.specs.Map.{lookup, values_of}
use Rattle.std.specs.BTreeMap.{is_at}
use Rattle.std.specs.Ordering.{nat_cmp}
use Rattle.std.proofs.lemmas.Bool.{cases_lt, eq-eqb, le-ltb, lt-ltb, ne_eqb}
use Rattle.std.proofs.lemmas.Bool.Decides.{nat_tests}
use Rattle.std.proofs.Math.Nat.{min-eq_left, min-eq_right, min-le_left, min-le_right}
use Rattle.std.proofs.Math.Seq.{take-nil}
use Rattle.std.proofs.lemmas.List.{append-nil, take_all}
use Rattle.raft_state.specs.LogLaws.{IsRun}
use Rattle.raft_store.specs.declared.entry.Entry.{Entry}
use Rattle.raft_store.specs.Entries.{entry_meaning}
use Rattle.raft_store.specs.Ring.{Continues, numbered}
use Rattle.raft_store.specs.Store.{between, past, put}

-- the lesser of two numbers
pub min_parts : (m a b : ℕ) → m ≡ min a b → (m ≤ a) × (m ≤ b) × (m < b → a ≤ m)
min_parts m a b is =
    let left : min a b ≤ a = min-le_left a b in
    let right : min a b ≤ b = min-le_right a b in (
      omega (arith, is, left),
      omega (arith, is, right),
      λ l.
          ⊎_elim
          (λ over. let e : min a b ≡ b = min-eq_right (omega (arith, over)) in omega (arith, is, e, l))
          (λ within. let e : min a b ≡ a = min-eq_left within in omega (arith, is, e))
          (cases_lt b a),
    )

-- an index between two others, or not
in_both : (from i end : ℕ) → from ≤ i → i < end → (nat_le from i && nat_lt i end) ≡ true
in_both from i end h l = grind (arith, nat_tests)

too_low : (from i end : ℕ) → i < from → (nat_le from i && nat_lt i end) ≡ false
too_low from i end h = grind (arith, nat_tests)

too_high : (from i end : ℕ) → end ≤ i → (nat_le from i && nat_lt i end) ≡ false
too_high from i end h = grind (arith, nat_tests)

module _ {A : Type 0} where
  pub length-numbered : (i : ℕ) (xs : List A) → length (numbered i xs) ≡ length xs
  length-numbered i [] = refl
  length-numbered i (x ∷ xs) = ap suc (length-numbered (i + 1) xs)

  pub values-numbered : (i : ℕ) (xs : List A) → values_of (numbered i xs) ≡ xs
  values-numbered i [] = refl
  values-numbered i (x ∷ xs) = ap (λ ys. x ∷ ys) (values-numbered (i + 1) xs)

  -- a cut keeps the front
  none_below : (i since : ℕ) (xs : List A) → since ≤ i → filter (λ p. nat_lt p.0 since) (numbered i xs) ≡ []
  none_below i since [] h = refl
  none_below i since (x ∷ xs) h = rw (le-ltb i since h) (none_below (i + 1) since xs (omega arith))

  pub cut-numbered : (keep i since : ℕ) (xs : List A) → keep ≡ since - i → filter (λ p. nat_lt p.0 since) (numbered i xs) ≡ numbered i (take keep xs)
  cut-numbered zero i since xs h = none_below i since xs (omega arith)
  cut-numbered (suc k) i since [] h = refl
  cut-numbered (suc k) i since (x ∷ xs) h =
      rw (lt-ltb i since (omega arith)) (ap (λ m. (i, x) ∷ m) (cut-numbered k (i + 1) since xs (omega arith)))

  -- a purge drops it
  past-none : (i upto : ℕ) (xs : List A) → upto < i → filter (λ p. nat_lt upto p.0) (numbered i xs) ≡ numbered i xs
  past-none i upto [] h = refl
  past-none i upto (x ∷ xs) h = rw (lt-ltb upto i h) (ap (λ m. (i, x) ∷ m) (past-none (i + 1) upto xs (omega arith)))

  -- so many of the first are dropped: those up to the index, or all
  dropped_upto : (gone i upto : ℕ) (xs : List A) → gone ≤ upto + 1 - i → (gone < length xs → upto + 1 ≤ i + gone) → filter (λ p. nat_lt upto p.0) (numbered i xs) ≡ numbered (i + gone) (drop gone xs)
  dropped_upto zero i upto [] h more = refl
  dropped_upto zero i upto (x ∷ xs) h more =
      let high : upto + 1 ≤ i + 0 = more (omega arith) in
      let at : i + 0 ≡ i = omega arith in
      rw at (past-none i upto (x ∷ xs) (omega (arith, high)))
  dropped_upto (suc k) i upto [] h more = refl
  dropped_upto (suc k) i upto (x ∷ xs) h more =
      let at : (i + 1) + k ≡ i + suc k = omega arith in
      rw (le-ltb upto i (omega arith))
      (subst (λ n. filter (λ p. nat_lt upto p.0) (numbered (i + 1) xs) ≡ numbered n (drop k xs)) at
      (dropped_upto k (i + 1) upto xs (omega arith) (λ l. let high : upto + 1 ≤ i + suc k = more (omega (arith, l)) in omega (arith, high))))

  pub purged : (gone i upto : ℕ) (xs : List A) → gone ≡ min (upto + 1 - i) (length xs) → filter (λ p. nat_lt upto p.0) (numbered i xs) ≡ numbered (i + gone) (drop gone xs)
  purged gone i upto xs is =
      let parts : (gone ≤ upto + 1 - i) × (gone ≤ length xs) × (gone < length xs → upto + 1 - i ≤ gone) = min_parts gone (upto + 1 - i) (length xs) is in
      dropped_upto gone i upto xs parts.0 (λ l. omega (arith, parts.2 l))

  -- all from a place on
  pub dropped : (n : ℕ) (xs : List A) → take (length xs - n) (drop n xs) ≡ drop n xs
  dropped zero xs = let all : length xs ≤ length xs - 0 = omega arith in take_all (length xs - 0) xs all
  dropped (suc n) [] = take-nil _
  dropped (suc n) (x ∷ xs) = let one : suc (length xs) - suc n ≡ length xs - n = omega arith in rw one (dropped n xs)

  -- the values from an index on
  from_none : (i from : ℕ) (xs : List A) → from ≤ i → past from (numbered i xs) ≡ xs
  from_none i from [] h = refl
  from_none i from (x ∷ xs) h = rw (le-ltb i from h) (ap (λ ys. x ∷ ys) (from_none (i + 1) from xs (omega arith)))

  -- so many of the first are dropped: those below the index, or all
  pub from-numbered : (gone i from : ℕ) (xs : List A) → gone ≤ from - i → (gone < length xs → from ≤ i + gone) → past from (numbered i xs) ≡ drop gone xs
  from-numbered zero i from [] h more = refl
  from-numbered zero i from (x ∷ xs) h more = let low : from ≤ i + 0 = more (omega arith) in from_none i from (x ∷ xs) (omega (arith, low))
  from-numbered (suc k) i from [] h more = refl
  from-numbered (suc k) i from (x ∷ xs) h more =
      rw (lt-ltb i from (omega arith))
      (from-numbered k (i + 1) from xs (omega arith) (λ l. let low : from ≤ i + suc k = more (omega (arith, l)) in omega (arith, low)))

  -- and the values from one index on and below another
  none_between : (i from end : ℕ) (xs : List A) → end ≤ i → between from end (numbered i xs) ≡ []
  none_between i from end [] h = refl
  none_between i from end (x ∷ xs) h = rw (too_high from i end h) (none_between (i + 1) from end xs (omega arith))

  pub between-numbered : (a b i from end : ℕ) (xs : List A) → a ≤ b → b ≤ end - i → (b < length xs → end ≤ i + b) → a ≤ from - i → (a < b → from ≤ i + a) → between from end (numbered i xs) ≡ take (b - a) (drop a xs)
  between-numbered zero b i from end [] ab h more low under = sym (take-nil (b - 0))
  between-numbered (suc a) b i from end [] ab h more low under = sym (take-nil (b - suc a))
  between-numbered zero zero i from end (x ∷ xs) ab h more low under = let top : end ≤ i + 0 = more (omega arith) in none_between i from end (x ∷ xs) (omega (arith, top))
  between-numbered (suc a) zero i from end (x ∷ xs) ab h more low under =
      let top : end ≤ i + 0 = more (omega arith) in
      let none : 0 - suc a ≡ 0 = omega arith in
      rw none (none_between i from end (x ∷ xs) (omega (arith, top)))
  between-numbered zero (suc b) i from end (x ∷ xs) ab h more low under =
      let first : from ≤ i + 0 = under (omega arith) in
      let rest : between from end (numbered (i + 1) xs) ≡ take (b - 0) (drop 0 xs) =
      between-numbered 0 b (i + 1) from end xs (omega arith) (omega arith) (λ l. let top : end ≤ i + suc b = more (omega (arith, l)) in omega (arith, top)) (omega arith) (λ l. omega (arith, first)) in
      let one : suc b - 0 ≡ suc (b - 0) = omega arith in
      rw (in_both from i end (omega (arith, first)) (omega arith), one) (ap (λ ys. x ∷ ys) rest)
  between-numbered (suc a) (suc b) i from end (x ∷ xs) ab h more low under =
      let rest : between from end (numbered (i + 1) xs) ≡ take (b - a) (drop a xs) =
      between-numbered a b (i + 1) from end xs (omega arith) (omega arith) (λ l. let top : end ≤ i + suc b = more (omega (arith, l)) in omega (arith, top)) (omega arith)
      (λ l. let first : from ≤ i + suc a = under (omega (arith, l)) in omega (arith, first)) in
      let one : suc b - suc a ≡ b - a = omega arith in
      rw (too_low from i end (omega arith), one) rest

  -- the one at an index
  missed : (index i : ℕ) (xs : List A) → index < i → lookup (is_at (nat_cmp index)) (numbered i xs) ≡ None
  missed index i [] h = refl
  missed index i (x ∷ xs) h = rw (lt-ltb index i h) (missed index (i + 1) xs (omega arith))

  pub none-numbered : (index i : ℕ) (xs : List A) → index < i → lookup (is_at (nat_cmp index)) (numbered i xs) ≡ None
  none-numbered index i xs h = missed index i xs h

  pub at-numbered : (k i index : ℕ) (xs : List A) → index ≡ i + k → lookup (is_at (nat_cmp index)) (numbered i xs) ≡ slice_get xs k
  at-numbered k i index [] h = refl
  at-numbered zero i index (x ∷ xs) h =
      let same : index ≡ i = omega arith in
      rw (le-ltb index i (omega arith), eq-eqb index i same) refl
  at-numbered (suc k) i index (x ∷ xs) h = rw (le-ltb index i (omega arith), ne_eqb index i (λ e. omega (arith, e))) (at-numbered k (i + 1) index xs (omega arith))

-- an entry past all others stands last
put_end : (i : ℕ) (xs : List Entry) (e : Entry) → e.log_id.index ≡ i + length xs → put entry_meaning (numbered i xs) e ≡ numbered i (xs ++ e ∷ [])
put_end i [] e h = let at : e.log_id.index ≡ i = omega arith in rw at refl
put_end i (x ∷ xs) e h =
    rw (le-ltb e.log_id.index i (omega arith), ne_eqb e.log_id.index i (λ q. omega (arith, q))) (ap (λ m. (i, x) ∷ m) (put_end (i + 1) xs e (omega arith)))

put_run : (i n : ℕ) (xs es : List Entry) → n ≡ i + length xs → IsRun n (map entry_meaning.id_of es) → fold (put entry_meaning) (numbered i xs) es ≡ numbered i (xs ++ es)
put_run i n xs [] h r = ap (numbered i) (sym (append-nil xs))
put_run i n xs (e ∷ es) h r =
    ap (λ m. fold (put entry_meaning) m es) (put_end i xs e (omega (arith, r.0, h)))
    ∙ (put_run i (n + 1) (xs ++ e ∷ []) es (omega (arith, h, length-append xs (e ∷ []))) r.1 ∙ ap (numbered i) (append_assoc xs (e ∷ []) es))

-- a run up to a place, and the entry there
pub run_more : (n k : ℕ) (es : List Entry) (e : Entry) → slice_get es k ≡ Some e → e.log_id.index ≡ n + k → IsRun n (map entry_meaning.id_of (take k es)) → IsRun n (map entry_meaning.id_of (take (k + 1) es))
run_more n k es e get at r = let one : k + 1 ≡ suc k = omega arith in rw one (go n k es e get at r)
  where
    go : (n k : ℕ) (es : List Entry) (e : Entry) → slice_get es k ≡ Some e → e.log_id.index ≡ n + k → IsRun n (map entry_meaning.id_of (take k es)) → IsRun n (map entry_meaning.id_of (take (suc k) es))
    go n k [] e get at r = cc
    go n zero (x ∷ xs) e get at r = let same : x ≡ e = ap (λ o. unwrap_or o x) get in (omega (arith, at, ap (λ (y : Entry). y.log_id.index) same), tt)
    go n (suc k) (x ∷ xs) e get at r = (r.0, go (n + 1) k xs e get (omega (arith, at)) r.1)

-- the index of a run's entry
pub run_at : (n k : ℕ) (es : List Entry) (e : Entry) → slice_get es k ≡ Some e → IsRun n (map entry_meaning.id_of es) → e.log_id.index ≡ n + k
run_at n k [] e get r = cc
run_at n zero (x ∷ xs) e get r = let same : x ≡ e = ap (λ o. unwrap_or o x) get in omega (arith, r.0, ap (λ (y : Entry). y.log_id.index) same)
run_at n (suc k) (x ∷ xs) e get r = let at : e.log_id.index ≡ (n + 1) + k = run_at (n + 1) k xs e get r.1 in omega (arith, at)

-- what continues a ring: a run that begins after it, or, where it is empty, anywhere
pub continued : (f n : ℕ) (xs es : List Entry) (e : Entry) → n ≡ length xs → slice_get es 0 ≡ Some e
    → Continues entry_meaning (numbered f xs) es ↔ (((n ≡ 0) ⊎ (f + n ≡ e.log_id.index)) × IsRun e.log_id.index (map entry_meaning.id_of es))
continued f n xs [] e len get = cc
continued f n [] (y ∷ es) e len get =
    let same : y.log_id.index ≡ e.log_id.index = ap (λ (o : Option Entry). (unwrap_or o y).log_id.index) get in
    (λ r. (inl len, subst (λ k. IsRun k (map entry_meaning.id_of (y ∷ es))) same r), λ r. subst (λ k. IsRun k (map entry_meaning.id_of (y ∷ es))) (sym same) r.1)
continued f n (x ∷ xs) (y ∷ es) e len get =
    let same : y.log_id.index ≡ e.log_id.index = ap (λ (o : Option Entry). (unwrap_or o y).log_id.index) get in
    let all : length (numbered f (x ∷ xs)) ≡ length (x ∷ xs) = length-numbered f (x ∷ xs) in (
      λ r.
          let here : f + length (numbered f (x ∷ xs)) ≡ e.log_id.index = omega (arith, same, r.0) in
          (inr (omega (arith, here, all, len)), subst (λ k. IsRun k (map entry_meaning.id_of (y ∷ es))) here r),
      λ r.
          let here : e.log_id.index ≡ f + length (numbered f (x ∷ xs)) =
          ⊎_elim (λ none. absurd (omega (arith, none, len))) (λ next. omega (arith, next, all, len)) r.0 in
          subst (λ k. IsRun k (map entry_meaning.id_of (y ∷ es))) here r.1,
    )

-- the last of a run
run_end : (n : ℕ) (es : List Entry) (e : Entry) → IsRun n (map entry_meaning.id_of es) → slice_get es (length es - 1) ≡ Some e → e.log_id.index + 1 ≡ n + length es
run_end n [] e r h = cc
run_end n (x ∷ []) e r h =
    let same : x ≡ e = ap (λ o. unwrap_or o x) h in
    omega (arith, r.0, ap (λ (y : Entry). y.log_id.index) same)
run_end n (x ∷ y ∷ ys) e r h =
    let at : length (x ∷ y ∷ ys) - 1 ≡ suc (length (y ∷ ys) - 1) = omega arith in
    let rest : e.log_id.index + 1 ≡ (n + 1) + length (y ∷ ys) = run_end (n + 1) (y ∷ ys) e r.1 (subst (λ k. slice_get (x ∷ y ∷ ys) k ≡ Some e) at h) in
    omega (arith, rest)

-- entries that continue a ring
pub appended : (f n : ℕ) (xs es : List Entry) (e : Entry) → Continues entry_meaning (numbered f xs) es → slice_get es (length es - 1) ≡ Some e → n ≡ e.log_id.index - (length (xs ++ es) - 1)
    → (numbered n (xs ++ es) ≡ fold (put entry_meaning) (numbered f xs) es) × (n + length (xs ++ es) ≡ e.log_id.index + 1)
appended f n [] [] e r last is = cc
appended f n [] (y ∷ es) e r last is =
    let end : e.log_id.index + 1 ≡ y.log_id.index + length (y ∷ es) = run_end y.log_id.index (y ∷ es) e r last in
    let here : n ≡ y.log_id.index = omega (arith, end, is) in
    (ap (λ k. numbered k (y ∷ es)) here ∙ sym (put_run y.log_id.index y.log_id.index [] (y ∷ es) (omega arith) r), omega (arith, end, is))
appended f n (x ∷ xs) es e r last is =
    let len : length (numbered f (x ∷ xs)) ≡ length (x ∷ xs) = length-numbered f (x ∷ xs) in
    let run : IsRun (f + length (x ∷ xs)) (map entry_meaning.id_of es) = subst (λ k. IsRun (f + k) (map entry_meaning.id_of es)) len r in
    let end : e.log_id.index + 1 ≡ (f + length (x ∷ xs)) + length es = run_end (f + length (x ∷ xs)) es e run last in
    let all : length ((x ∷ xs) ++ es) ≡ length (x ∷ xs) + length es = length-append (x ∷ xs) es in
    let here : n ≡ f = omega (arith, end, all, is) in
    (ap (λ k. numbered k ((x ∷ xs) ++ es)) here ∙ sym (put_run f (f + length (x ∷ xs)) (x ∷ xs) es refl run), omega (arith, end, all, is))
