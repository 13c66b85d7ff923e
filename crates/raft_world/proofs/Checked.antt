-- A table of entries by index shows whether they agree.
use Rattle.std.specs.Prelude.{ℕ, ◌≡◌, ◌≢◌, ◌+◌, ◌-◌, ◌<◌, ◌≤◌, ◌==◌, nat_eq, nat_le, Bool, true, false, not, ◌&&◌, List, length, Contains, refl, ◌⊎◌}
use Rattle.std.proofs.Common.{arith, sym, ◌∙◌, ap, suc, zero, inl, inr}
use Rattle.std.specs.List.{AllAdjacentBelow, slice_index_or}
use Rattle.std.specs.List.Sorted.{IsNonDecreasingBy}
use Rattle.std.proofs.lemmas.List.{get_or_default}
use Rattle.std.proofs.lemmas.List.Sorted.{Contains-permutation, IsPermutation-sym}
use Rattle.std.proofs.lemmas.List.Elements.{Contains-get_or}
use Rattle.std.proofs.lemmas.Bool.Decides.{nat_tests}
use Rattle.raft_store.specs.declared.entry.Entry.{Entry}
use Rattle.raft_store.specs.Entries.{same_entry}
use Rattle.raft_store.proofs.SameEntries.{entry-is, entry-self}
use Rattle.raft_node.specs.declared.record.Executed.{Executed}
use Rattle.raft_node.specs.declared.record.Installed.{Installed}
use Rattle.raft_node.specs.Safety.{AllAgree, entries_of}
use Rattle.raft_world.specs.Agreed.{DiffersAt, clash}
use Rattle.raft_world.specs.Clashes.{Apart}
use Rattle.raft_world.specs.Reported.{Table}

abbrev index : Entry → ℕ
index e = e.log_id.index

same_number : (a b : ℕ) → a ≡ b → (a == b) ≡ true
same_number a b e = grind (arith, nat_tests)

second : (a b : Bool) → (a && not b) ≡ false → a ≡ true → b ≡ true
second true true h e = refl
second true false h e = cc
second false b h e = cc

both : (a b : Bool) → (a && not b) ≡ true → (a ≡ true) × (b ≡ false)
both true true h = cc
both true false h = (refl, refl)
both false b h = cc

-- two entries of one index that do not clash are the same
apart-same : (x y : Entry) → clash x y ≡ false → index x ≡ index y → x ≡ y
apart-same x y h e = entry-is x y (second (index x == index y) (same_entry x y) h (same_number (index x) (index y) e))

is_number : (a b : ℕ) → (a == b) ≡ true → a ≡ b
is_number a b e = grind (arith, nat_tests)

-- two that clash have one index, and are not the same
clash-index : (x y : Entry) → clash x y ≡ true → index x ≡ index y
clash-index x y h = is_number (index x) (index y) (both (index x == index y) (same_entry x y) h).0

clash-apart : (x y : Entry) → clash x y ≡ true → x ≢ y
clash-apart x y h e =
    let same : same_entry x y ≡ true = ap (same_entry x) (sym e) ∙ entry-self x in
    let other : same_entry x y ≡ false = (both (index x == index y) (same_entry x y) h).1 in
    let no : true ≡ false = sym same ∙ other in
    cc

le_either : (a b : ℕ) → (a ≤ b) ⊎ (b ≤ a)
le_either a b = go (nat_le a b) refl
  where
    go : (t : Bool) → nat_le a b ≡ t → (a ≤ b) ⊎ (b ≤ a)
    go true h = let le : a ≤ b = grind (arith, nat_tests) in inl le
    go false h = let le : b ≤ a = grind (arith, nat_tests) in inr le

module _ (es : List Entry) (rising : IsNonDecreasingBy index es) where
  abbrev at : Entry → ℕ → Entry
  at d k = slice_index_or es k d

  -- where no neighbours clash, entries of one index are the same
  meet : (m i n : ℕ) (d : Entry) → m ≤ length es → AllAdjacentBelow Apart es m → i + n < m → index (at d i) ≡ index (at d (i + n)) → at d i ≡ at d (i + n)
  meet m i zero d len apart below e = ap (at d) (omega arith)
  meet m i (suc n) d len apart below e =
      let lo : index (at d i) ≤ index (at d (i + n)) = rising i (i + n) d (omega arith) (omega arith) in
      let hi : index (at d (i + n)) ≤ index (at d (i + suc n)) = rising (i + n) (i + suc n) d (omega arith) (omega arith) in
      let mid : index (at d i) ≡ index (at d (i + n)) = omega arith in
      let before : at d i ≡ at d (i + n) = meet m i n d len apart (omega arith) mid in
      let next : (i + n) + 1 ≡ i + suc n = omega arith in
      let c : clash (at d (i + n)) (at d ((i + n) + 1)) ≡ false = apart (i + n) d (omega arith) in
      let same : index (at d (i + n)) ≡ index (at d ((i + n) + 1)) = rw next (sym mid ∙ e) in
      before ∙ apart-same _ _ c same ∙ ap (at d) next

  -- the same of two places, in either order
  meet_both : (m i j : ℕ) (d : Entry) → m ≤ length es → AllAdjacentBelow Apart es m → i < m → j < m → index (at d i) ≡ index (at d j) → at d i ≡ at d j
  meet_both m i j d len apart il jl e = go (le_either i j)
    where
      go : (i ≤ j) ⊎ (j ≤ i) → at d i ≡ at d j
      go (inl h) =
          let s : i + (j - i) ≡ j = omega arith in
          let k : index (at d i) ≡ index (at d (i + (j - i))) = rw s e in
          meet m i (j - i) d len apart (omega arith) k ∙ ap (at d) s
      go (inr h) =
          let s : j + (i - j) ≡ i = omega arith in
          let k : index (at d j) ≡ index (at d (j + (i - j))) = rw s (sym e) in
          sym (meet m j (i - j) d len apart (omega arith) k ∙ ap (at d) s)

  -- the same of two entries that stand at places below m
  same_below : (m : ℕ) → m ≤ length es → AllAdjacentBelow Apart es m → (x y : Entry) (hx : Contains es x) (hy : Contains es y) → hx.0 < m → hy.0 < m → index x ≡ index y → x ≡ y
  same_below m len apart x y hx hy xl yl e =
      let xd : at y hx.0 ≡ x = get_or_default es hx.0 y x hx.1 ∙ hx.2 in
      let xe : index (at y hx.0) ≡ index (at y hy.0) = ap index xd ∙ e ∙ sym (ap index hy.2) in
      sym xd ∙ meet_both m hx.0 hy.0 y len apart xl yl xe ∙ hy.2

  -- a place of an index below that of place k is below k
  place_below : (k : ℕ) (d : Entry) (x : Entry) (hx : Contains es x) → k < length es → index x < index (at d k) → hx.0 < k
  place_below k d x hx kl lt = go (le_either k hx.0)
    where
      go : (k ≤ hx.0) ⊎ (hx.0 ≤ k) → hx.0 < k
      go (inl h) =
          let r : index (at d k) ≤ index (at d hx.0) = rising k hx.0 d h hx.1 in
          let xd : index (at d hx.0) ≡ index x = ap index (get_or_default es hx.0 d x hx.1 ∙ hx.2) in
          let no : index x < index x = omega arith in
          absurd (omega arith)
      go (inr h) = strict (nat_eq hx.0 k) refl
        where
          strict : (t : Bool) → nat_eq hx.0 k ≡ t → hx.0 < k
          strict true t =
              let e : hx.0 ≡ k = grind (arith, nat_tests) in
              let xd : index (at d hx.0) ≡ index x = ap index (get_or_default es hx.0 d x hx.1 ∙ hx.2) in
              let ke : index (at d hx.0) ≡ index (at d k) = ap (λ n. index (at d n)) e in
              absurd (omega arith)
          strict false t = let ne : hx.0 ≢ k = grind (arith, nat_tests) in omega arith

module _ (executed : List Executed) (installed : List Installed) (table : List Entry) (t : Table executed installed table) where
  abbrev all : List Entry
  all = entries_of executed installed

  there : (x : Entry) → Contains all x → Contains table x
  there x h = Contains-permutation all table x t.same h

  here : (x : Entry) → Contains table x → Contains all x
  here x h = Contains-permutation table all x (IsPermutation-sym all table t.same) h

  -- no neighbours clash: they agree
  pub agrees_where : AllAdjacentBelow Apart table (length table) → AllAgree all
  agrees_where apart x y hx hy e =
      let tx : Contains table x = there x hx in
      let ty : Contains table y = there y hy in
      same_below table t.rising (length table) (omega arith) apart x y tx ty tx.1 ty.1 e

  -- the first neighbours that clash have the least index at which they differ
  pub differs_where : (k : ℕ) (d : Entry) → k + 1 < length table → AllAdjacentBelow Apart table (k + 1)
      → clash (slice_index_or table k d) (slice_index_or table (k + 1) d) ≡ true
      → DiffersAt all (index (slice_index_or table k d)) × ((j : ℕ) → DiffersAt all j → index (slice_index_or table k d) ≤ j)
  differs_where k d len apart c = (differs, least)
    where
      differs : DiffersAt all (index (slice_index_or table k d))
      differs = record {
        one = slice_index_or table k d;
        other = slice_index_or table (k + 1) d;
        has_one = here (slice_index_or table k d) (Contains-get_or table k d (omega arith));
        has_other = here (slice_index_or table (k + 1) d) (Contains-get_or table (k + 1) d len);
        one_at = refl;
        other_at = sym (clash-index (slice_index_or table k d) (slice_index_or table (k + 1) d) c);
        apart = clash-apart (slice_index_or table k d) (slice_index_or table (k + 1) d) c;
      }

      least : (j : ℕ) → DiffersAt all j → index (slice_index_or table k d) ≤ j
      least j w = go (le_either (index (slice_index_or table k d)) j)
        where
          go : (index (slice_index_or table k d) ≤ j) ⊎ (j ≤ index (slice_index_or table k d)) → index (slice_index_or table k d) ≤ j
          go (inl h) = h
          go (inr h) = low (nat_eq j (index (slice_index_or table k d))) refl
            where
              low : (b : Bool) → nat_eq j (index (slice_index_or table k d)) ≡ b → index (slice_index_or table k d) ≤ j
              low true b = let e : j ≡ index (slice_index_or table k d) = grind (arith, nat_tests) in omega arith
              low false b =
                  let ne : j ≢ index (slice_index_or table k d) = grind (arith, nat_tests) in
                  let tx : Contains table w.one = there w.one w.has_one in
                  let ty : Contains table w.other = there w.other w.has_other in
                  let xe : index w.one ≡ j = w.one_at in
                  let ye : index w.other ≡ j = w.other_at in
                  let xl : tx.0 < k = place_below table t.rising k d w.one tx (omega arith) (omega arith) in
                  let yl : ty.0 < k = place_below table t.rising k d w.other ty (omega arith) (omega arith) in
                  let same : w.one ≡ w.other = same_below table t.rising (k + 1) (omega arith) apart w.one w.other tx ty (omega arith) (omega arith) (xe ∙ sym ye) in
                  absurd (w.apart same)
