-- What one row, or one id, more adds to a list that is made of rows or of ids.
use Rattle.std.specs.Prelude.{◌≡◌, ◌+◌, ◌<◌, ◌++◌, ℕ, Bool, true, false, List, [], ◌∷◌, length, filter, take}
use Rattle.std.proofs.Common.{sym, ap, ◌∙◌, cond, get_or}
use Rattle.std.proofs.lemmas.List.{map_more, append-nil, append_assoc, length-map, length-append}
use Rattle.std.proofs.lemmas.List.Elements.{filter_more}
use Rattle.raft_progress.specs.Table.{measures, rows_of}

-- what the first rows are measured by, and one more
module _ {ID V P : Type 0} (measure : V → P) (rows : List (ID × V)) (i : ℕ) (row : ID × V) (inside : i < length rows) (is : row ≡ get_or rows i row) where
  pub measures_more : measures measure (take (i + 1) rows) ≡ measures measure (take i rows) ++ (row.0, measure row.1) ∷ []
  measures_more =
      map_more (λ (row : ID × V). (row.0, measure row.1)) rows i row inside ∙ ap (λ (row : ID × V). measures measure (take i rows) ++ (row.0, measure row.1) ∷ []) (sym is)

-- rows of the first ids, and of one more
module _ {ID V : Type 0} (v : V) (before : List (ID × V)) (ids : List ID) (i : ℕ) (id : ID) (inside : i < length ids) (is : id ≡ get_or ids i id) where
  pub rows_more : before ++ rows_of v (take (i + 1) ids) ≡ (before ++ rows_of v (take i ids)) ++ (id, v) ∷ []
  rows_more =
      ap (λ rows. before ++ rows) (map_more (λ (id : ID). (id, v)) ids i id inside ∙ ap (λ (id : ID). rows_of v (take i ids) ++ (id, v) ∷ []) (sym is))
      ∙ sym (append_assoc before (rows_of v (take i ids)) ((id, v) ∷ []))

-- each id has a row
module _ {ID V : Type 0} (v : V) (voters learners : List ID) where
  pub rows_long : length (rows_of v (voters ++ learners)) ≡ length voters + length learners
  rows_long = length-map (voters ++ learners) (λ (id : ID). (id, v)) ∙ length-append voters learners

module _ {ID : Type 0} (p : ID → Bool) (ids : List ID) (i : ℕ) (id : ID) (inside : i < length ids) (is : id ≡ get_or ids i id) where
  more : filter p (take (i + 1) ids) ≡ filter p (take i ids) ++ cond (p id) (id ∷ []) []
  more = filter_more p ids i id inside ∙ ap (λ x. filter p (take i ids) ++ cond (p x) (x ∷ []) []) (sym is)

  -- an id that passes is one more
  pub filter_kept : p id ≡ true → filter p (take (i + 1) ids) ≡ filter p (take i ids) ++ id ∷ []
  filter_kept e = more ∙ ap (λ b. filter p (take i ids) ++ cond b (id ∷ []) []) e

  -- one that doesn't pass adds nothing
  pub filter_passed : p id ≡ false → filter p (take (i + 1) ids) ≡ filter p (take i ids)
  filter_passed e = more ∙ (ap (λ b. filter p (take i ids) ++ cond b (id ∷ []) []) e ∙ append-nil (filter p (take i ids)))
