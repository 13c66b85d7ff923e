-- The text of a range of log ids.
use Rattle.std.specs.Prelude.{ℕ, List, Option, Some, codes}
use Rattle.std.specs.Fmt.{◌++?◌}
use Rattle.raft_error.specs.raft_state.Texts.{optional_id_text}
use Rattle.raft_progress_entry.specs.declared.entry.LogIdRange.{LogIdRange}

-- `(L, L]`, with the texts of its nodes, each L a log id's text or `None` (openraft's `LogIdRange`)
abbrev pub range_text : {NID : Type 0} → (NID → Option (List ℕ)) → LogIdRange NID → Option (List ℕ)
range_text text range = Some (codes "(") ++? optional_id_text text range.prev ++? Some (codes ", ") ++? optional_id_text text range.last ++? Some (codes "]")
