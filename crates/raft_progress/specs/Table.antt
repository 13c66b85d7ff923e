-- Tables: a value for each node, and the value that a quorum grants (openraft's `Progress` and `VecProgress`).
use Rattle.std.specs.Prelude.{ℕ, Bool, true, List, ◌++◌, Option, None, Some, map, filter, fold, find, take, length, is_some, unwrap_or, not, nat_eq, ◌&&◌, if◌then◌else◌}
use Rattle.std.specs.Cmp.Lexicographic.{pointwise}
use Rattle.std.specs.Option.{option_map}
use Rattle.std.specs.declared.cmp.Ordering.{Ordering}
use Rattle.std.specs.Ordering.{is_eq, is_lt, is_ge}
use Rattle.raft_state.specs.Sorted.{has_id}
use Rattle.raft_state.specs.Members.{group_of}

-- who decides, the rows (first the voters, then the learners, each ascending by id), how many rows are voters', and
-- what is granted if no quorum has reached a voter's value
pub record Table (ID V P Q : Type 0) : Type 0 where
  pub set : Q
  pub rows : List (ID × V)
  pub voters : ℕ
  pub default : P

-- the ids of a table
abbrev pub row_ids : {ID V P Q : Type 0} → Table ID V P Q → List ID
row_ids t = map (λ row. row.0) t.rows

-- the rows of the voters
abbrev pub voter_rows : {ID V P Q : Type 0} → Table ID V P Q → List (ID × V)
voter_rows t = take t.voters t.rows

-- a value is above the greatest so far
abbrev pub is_above : {P : Type 0} → (P → P → Ordering) → Option P → P → Bool
is_above cmp None p = true
is_above cmp (Some best) p = is_lt (cmp best p)

-- the greater of a value and the greatest so far
abbrev pub greater : {P : Type 0} → (P → P → Ordering) → Option P → P → Option P
greater cmp best p = if is_above cmp best p then Some p else best

-- the greatest of some values
abbrev pub greatest : {P : Type 0} → (P → P → Ordering) → List P → Option P
greatest cmp ps = fold (greater cmp) None ps

module _ {ID V P : Type 0} (cmp : P → P → Ordering) (measure : V → P) where
  -- the ids of the rows whose value is at least p
  abbrev pub holders : List (ID × V) → P → List ID
  holders rows p = map (λ row. row.0) (filter (λ row. is_ge (cmp (measure row.1) p)) rows)

module _ {ID V P Q : Type 0} (is_quorum : Q → List ID → Bool) (cmp : P → P → Ordering) (measure : V → P) where
  -- the greatest value of these rows that a quorum of them has reached, or else the default
  abbrev pub granted_among : Q → List (ID × V) → P → P
  granted_among set rows default = unwrap_or (greatest cmp (filter (λ p. is_quorum set (holders cmp measure rows p)) (map (λ row. measure row.1) rows))) default

  -- the greatest value of a voter that a quorum has reached, or else the default
  abbrev pub granted : Table ID V P Q → P
  granted t = granted_among t.set (voter_rows t) t.default

module _ {ID V P Q : Type 0} (cmp : P → P → Ordering) (measure : V → P) where
  -- the voters whose value is at least p
  abbrev pub reached : Table ID V P Q → P → List ID
  reached t p = holders cmp measure (voter_rows t) p

module _ {ID V : Type 0} (cmp : ID → ID → Ordering) where
  -- the row is the id's
  abbrev pub is_row_of : ID → ID × V → Bool
  is_row_of id row = is_eq (cmp id row.0)

  -- the value of an id among rows
  abbrev pub row_of : ID → List (ID × V) → Option V
  row_of id rows = option_map (λ row. row.1) (find (is_row_of id) rows)

  -- a row with another value where it is the id's
  abbrev pub with_value : ID → V → ID × V → ID × V
  with_value id v row = if is_row_of id row then (row.0, v) else row

  -- an old value, if the id had one
  abbrev pub kept_row : List (ID × V) → ID × V → ID × V
  kept_row old row = (row.0, unwrap_or (row_of row.0 old) row.1)

-- what each row's value is measured by
abbrev pub measures : {ID V P : Type 0} → (V → P) → List (ID × V) → List (ID × P)
measures measure rows = map (λ row. (row.0, measure row.1)) rows

-- a row for each id, with a value
abbrev pub rows_of : {ID V : Type 0} → V → List ID → List (ID × V)
rows_of v ids = map (λ id. (id, v)) ids

-- the learners that are not voters, ascending, each once
abbrev pub learners_beside : {ID : Type 0} → (ID → ID → Ordering) → List ID → List ID → List ID
learners_beside cmp voters learners = filter (λ id. not (has_id cmp voters id)) (group_of cmp learners)

module _ {ID V P Q : Type 0} (cmp : ID → ID → Ordering) where
  -- the value of an id
  abbrev pub get : Table ID V P Q → ID → Option V
  get t id = row_of cmp id t.rows

  -- the id has a row
  abbrev pub is_in : Table ID V P Q → ID → Bool
  is_in t id = is_some (get t id)

  -- the value of an id is v
  abbrev pub updated : Table ID V P Q → ID → V → Table ID V P Q
  updated t id v = record t { rows = map (with_value cmp id v) t.rows }

module _ {ID V P Q : Type 0} (measure : V → P) where
  -- a new table of voters and learners
  abbrev pub table_of : Q → List ID → List ID → V → Table ID V P Q
  table_of set voters learners v = record { set = set; rows = rows_of v (voters ++ learners); voters = length voters; default = measure v }

module _ {ID V P Q : Type 0} (id_cmp : ID → ID → Ordering) (cmp : P → P → Ordering) (measure : V → P) where
  -- a table of other voters and learners: ids that stay keep their values
  abbrev pub upgraded : Table ID V P Q → Q → List ID → List ID → V → Table ID V P Q
  upgraded t set voters learners v = let new = table_of measure set voters learners v in record new { rows = map (kept_row id_cmp t.rows) new.rows }

  -- the value of an id is at least v
  abbrev pub increased : Table ID V P Q → ID → V → Table ID V P Q
  increased t id v = elim (get id_cmp t id) [ None ↦ t | Some old ↦ (if is_lt (cmp (measure old) (measure v)) then updated id_cmp t id v else t) ]

-- two tables are equal: quorum set, rows, which of them are voters', and default
abbrev pub same_table : {ID V P Q : Type 0} → (Q → Q → Bool) → (ID → ID → Bool) → (V → V → Bool) → (P → P → Bool) → Table ID V P Q → Table ID V P Q → Bool
same_table set_eq id_eq value_eq default_eq a b =
    set_eq a.set b.set && (pointwise (λ r s. id_eq r.0 s.0 && value_eq r.1 s.1) a.rows b.rows && (nat_eq a.voters b.voters && default_eq a.default b.default))
