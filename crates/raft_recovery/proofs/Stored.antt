-- What copies of a store's entries have: all of them, or the whole log.
use Rattle.std.proofs.Common.{ℕ, zero, suc, ◌+◌, ◌-◌, ◌<◌, ◌≤◌, ◌≡◌, ◌∙◌, Bool, true, false, cond, not, ◌&&◌}
use Rattle.std.proofs.Common.{List, [], ◌∷◌, ◌++◌, length, map, filter, arith, refl, ap, Option, None, Some}
use Rattle.std.specs.Prelude.{nat_le, nat_lt, slice_get}
use Rattle.std.proofs.lemmas.List.{length-map}
use Rattle.std.specs.List.{AllByRecursion}
use Rattle.std.specs.Map.{values_of}
use Rattle.std.specs.Option.{option_to_list}
use Rattle.std.proofs.lemmas.Bool.Decides.{nat_tests}
use Rattle.raft_state.specs.declared.ids.LogId.{LogId}
use Rattle.raft_state.specs.Log.{last}
use Rattle.raft_state.proofs.Orders.{and_both}
use Rattle.raft_store.specs.declared.entry.Entry.{Entry}
use Rattle.raft_store.specs.Entries.{entry_meaning}
use Rattle.raft_store.specs.Store.{between, past}

module _ (n : ℕ) where
  abbrev pub IsBelow : ℕ × Entry → Type 0
  IsBelow p = p.0 < n

  abbrev stands : ℕ → ℕ × Entry → Bool
  stands from p = nat_le from p.0 && nat_lt p.0 n

  abbrev later : ℕ → ℕ × Entry → Bool
  later from p = not (nat_lt p.0 from)

  few : (from : ℕ) (log : List (ℕ × Entry)) → length (values_of (filter (stands from) log)) ≤ length log
  few from [] = omega arith
  few from (p ∷ ps) = go (few from ps) (stands from p)
    where
      go : length (values_of (filter (stands from) ps)) ≤ length ps → (b : Bool)
          → length (values_of (cond b (p ∷ filter (stands from) ps) (filter (stands from) ps))) ≤ length (p ∷ ps)
      go r true = omega (arith, r)
      go r false = omega (arith, r)

  less : (a b : ℕ) → nat_lt a b ≡ true → a < b
  less a b e = grind (arith, nat_tests)

  -- if none is left out, all stand below the end, and these are all
  pub all_stored : (log : List (ℕ × Entry)) → length (between 0 n log) ≡ length log → AllByRecursion IsBelow log × (between 0 n log ≡ values_of log)
  all_stored [] e = (tt, refl)
  all_stored (p ∷ ps) e = go (all_stored ps) (few 0 ps) (stands 0 p) refl e
    where
      go : (length (between 0 n ps) ≡ length ps → AllByRecursion IsBelow ps × (between 0 n ps ≡ values_of ps))
          → length (values_of (filter (stands 0) ps)) ≤ length ps → (b : Bool) → stands 0 p ≡ b
          → length (values_of (cond b (p ∷ filter (stands 0) ps) (filter (stands 0) ps))) ≡ length (p ∷ ps)
          → AllByRecursion IsBelow (p ∷ ps) × (values_of (cond b (p ∷ filter (stands 0) ps) (filter (stands 0) ps)) ≡ values_of (p ∷ ps))
      go rest le true k q =
          let r : AllByRecursion IsBelow ps × (between 0 n ps ≡ values_of ps) = rest (omega (arith, q)) in
          ((less p.0 n (and_both (nat_le 0 p.0) (nat_lt p.0 n) k).1, r.0), ap (λ xs. p.1 ∷ xs) r.1)
      go rest le false k q = absurd (omega (arith, q, le))

  same : (from x : ℕ) → x < n → (nat_le from x && nat_lt x n) ≡ not (nat_lt x from)
  same from x l = grind (arith, nat_tests)

  -- then those from an index on are these
  pub past_is : (from : ℕ) (log : List (ℕ × Entry)) → AllByRecursion IsBelow log → between from n log ≡ past from log
  past_is from [] h = refl
  past_is from (p ∷ ps) h = go (stands from p) (not (nat_lt p.0 from)) (same from p.0 h.0) (past_is from ps h.1)
    where
      go : (a b : Bool) → a ≡ b → values_of (filter (stands from) ps) ≡ values_of (filter (later from) ps)
          → values_of (cond a (p ∷ filter (stands from) ps) (filter (stands from) ps))
          ≡ values_of (cond b (p ∷ filter (later from) ps) (filter (later from) ps))
      go true true e r = ap (λ xs. p.1 ∷ xs) r
      go true false e r = cc
      go false true e r = cc
      go false false e r = r

-- The last id

id_there : (es : List Entry) (i : ℕ) (e : Entry) → slice_get es i ≡ Some e → slice_get (map entry_meaning.id_of es) i ≡ Some e.log_id
id_there [] i e h = cc
id_there (x ∷ es) zero e h = let q : x ≡ e = cc in ap (λ (y : Entry). Some y.log_id) q
id_there (x ∷ es) (suc i) e h = id_there es i e h

id_last : (es : List Entry) (e : Entry) → slice_get es (length es - 1) ≡ Some e → last (map entry_meaning.id_of es) ≡ Some e.log_id
id_last es e h =
    ap (λ n. slice_get (map entry_meaning.id_of es) (n - 1)) (length-map es entry_meaning.id_of) ∙ id_there es (length es - 1) e h

behind : (f : LogId ℕ) (x : LogId ℕ) (ids : List (LogId ℕ)) → last (f ∷ x ∷ ids) ≡ last (x ∷ ids)
behind f x ids =
    let n : length (f ∷ x ∷ ids) - 1 ≡ suc (length (x ∷ ids) - 1) = omega arith in
    ap (slice_get (f ∷ x ∷ ids)) n

-- that of the last entry
pub last_stored : (front : Option (LogId ℕ)) (es : List Entry) (e : Entry) → slice_get es (length es - 1) ≡ Some e
    → last (option_to_list front ++ map entry_meaning.id_of es) ≡ Some e.log_id
last_stored front [] e h = cc
last_stored None (x ∷ es) e h = id_last (x ∷ es) e h
last_stored (Some f) (x ∷ es) e h = behind f x.log_id (map entry_meaning.id_of es) ∙ id_last (x ∷ es) e h
