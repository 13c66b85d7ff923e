-- Whether state machines agree, as a report's records tell it.
use Rattle.std.specs.Prelude.{ℕ, ◌==◌, ◌≡◌, ◌≢◌, ◌≤◌, Bool, not, ◌&&◌, List, Contains}
use Rattle.raft_store.specs.declared.entry.Entry.{Entry}
use Rattle.raft_store.specs.Entries.{same_entry}
use Rattle.raft_node.specs.Safety.{AllAgree}
use Rattle.raft_world.specs.declared.agreement.Agreement.{Agreement}
use Rattle.raft_world.specs.declared.agreement.Agreement.TheVariants.{Agree, Differ}

-- two of the entries are different entries at this index
pub record DiffersAt (es : List Entry) (i : ℕ) : Type 0 where
  pub one : Entry
  pub other : Entry
  pub has_one : Contains es one
  pub has_other : Contains es other
  pub one_at : one.log_id.index ≡ i
  pub other_at : other.log_id.index ≡ i
  pub apart : one ≢ other

-- what a check of agreement answers: that they agree, or the least index at which they don't
abbrev pub Checks : List Entry → Agreement → Type 0
Checks es Agree = AllAgree es
Checks es (Differ i) = DiffersAt es i × ((j : ℕ) → DiffersAt es j → i ≤ j)

-- two entries with the same index that differ
abbrev pub clash : Entry → Entry → Bool
clash x y = (x.log_id.index == y.log_id.index) && not (same_entry x y)
