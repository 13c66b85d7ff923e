-- What changes of a table leave of its rows.
use Rattle.std.proofs.Common.{◌≡◌, ◌∙◌, refl, ap, Bool, true, false, List, [], ◌∷◌, ◌++◌, append-nil, map, Option, None, Some}
use Rattle.std.specs.Prelude.{is_some, if◌then◌else◌}
use Rattle.std.specs.Ordering.{is_ge, is_eq, is_lt, bool_cmp}
use Rattle.std.specs.declared.cmp.Ordering.{Ordering}
use Rattle.raft_progress.specs.raft_state.declared.ids.LogId.{LogId}
use Rattle.raft_progress.specs.raft_state.declared.ids.Vote.{Vote}
use Rattle.raft_proposer.specs.declared.leader.Leader.{Leader}
use Rattle.raft_proposer.specs.Leader.{leader_over, leader_of}
use Rattle.raft_progress.specs.Table.{Table, row_ids, rows_of, table_of, updated, increased, get, is_in, with_value}

-- a grant is never taken back
pub grant_rises : (was : Bool) → is_ge (bool_cmp true was) ≡ true
grant_rises true = refl
grant_rises false = refl

module _ {ID V : Type 0} where
  -- a new row for each id has that id
  pub ids_of_rows : (v : V) (ids : List ID) → map (λ row. row.0) (rows_of v ids) ≡ ids
  ids_of_rows v [] = refl
  ids_of_rows v (id ∷ ids) = ap (λ xs. id ∷ xs) (ids_of_rows v ids)

  -- a change that leaves each row's id leaves the ids
  pub same_ids : (f : ID × V → ID × V) → ((row : ID × V) → (f row).0 ≡ row.0) → (rows : List (ID × V)) → map (λ row. row.0) (map f rows) ≡ map (λ row. row.0) rows
  same_ids f same [] = refl
  same_ids f same (row ∷ rows) = λ i. same row i ∷ same_ids f same rows i

module _ {ID V P Q : Type 0} (measure : V → P) where
  -- a table without learners has the voters' ids
  pub ids_of_voters : (t : Table ID V P Q) (set : Q) (ids : List ID) (v : V) → t ≡ table_of measure set ids [] v → row_ids t ≡ ids
  ids_of_voters t set ids v e = rw e (ids_of_rows v (ids ++ []) ∙ append-nil ids)

module _ {ID V : Type 0} (cmp : ID → ID → Ordering) where
  chosen : (b : Bool) (r row : ID × V) → r.0 ≡ row.0 → (if b then r else row).0 ≡ row.0
  chosen true r row e = e
  chosen false r row e = refl

  -- another value leaves a row's id
  pub same_id : (id : ID) (v : V) (row : ID × V) → (with_value cmp id v row).0 ≡ row.0
  same_id id v row = chosen (is_eq (cmp id row.0)) (row.0, v) row refl

module _ {ID V P Q : Type 0} (cmp : ID → ID → Ordering) where
  -- and the ids of a table
  pub row_ids_updated : (t : Table ID V P Q) (id : ID) (v : V) → row_ids (updated cmp t id v) ≡ row_ids t
  row_ids_updated t id v = same_ids (with_value cmp id v) (same_id cmp id v) t.rows

module _ {ID V P Q : Type 0} (id_cmp : ID → ID → Ordering) (cmp : P → P → Ordering) (measure : V → P) where
  nothing : (t : Table ID V P Q) (id : ID) (v : V) (o : Option V) → is_some o ≡ false → elim o [ None ↦ t | Some old ↦ (if is_lt (cmp (measure old) (measure v)) then updated id_cmp t id v else t) ] ≡ t
  nothing t id v None e = refl
  nothing t id v (Some x) e = cc

  -- a value isn't raised where the id has no row
  pub increased_absent : (t : Table ID V P Q) (id : ID) (v : V) → is_in id_cmp t id ≡ false → increased id_cmp cmp measure t id v ≡ t
  increased_absent t id v e = nothing t id v (get id_cmp t id) e

module _ {C NID N E D R S QS : Type 0} (cmp : NID → NID → Ordering) where
  -- a leader whose clocks stand over a copy that is the set itself
  pub over_one_set : (l : Leader C QS NID N E D R S) (vote : Vote NID) (set copied : QS) (voters learners : List NID) (ids : List (LogId NID))
      → copied ≡ set → l ≡ leader_over cmp vote set copied voters learners ids → l ≡ leader_of cmp vote set voters learners ids
  over_one_set l vote set copied voters learners ids h e = e ∙ ap (λ s. leader_over cmp vote set s voters learners ids) h
