-- The text of a candidate, over the text of a node id.
use Rattle.std.specs.Prelude.{ℕ, Bool, List, [], ◌∷◌, ◌++◌, codes, Option, Some, if◌then◌else◌}
use Rattle.std.specs.Fmt.{decimal, ◌++?◌}
use Rattle.raft_command.specs.Texts.{id_shown, vote_shown}
use Rattle.raft_proposer.specs.Candidacy.{Candidacy}

module _ {NID : Type 0} (node_text : NID → Option (List ℕ)) where
  -- `1: true`
  abbrev pub grant_text : NID × Bool → Option (List ℕ)
  grant_text row = node_text row.0 ++? Some (codes ": ") ++? Some (if row.1 then codes "true" else codes "false")

  -- `, 1: true, 2: false`
  abbrev pub more_grants_text : List (NID × Bool) → Option (List ℕ)
  more_grants_text [] = Some []
  more_grants_text (row ∷ rows) = (Some (codes ", ") ++? grant_text row) ++? more_grants_text rows

  -- `1: true, 2: false`
  abbrev pub grants_text : List (NID × Bool) → Option (List ℕ)
  grants_text [] = Some []
  grants_text (row ∷ rows) = grant_text row ++? more_grants_text rows

  -- `{V@T, last_log_id:L progress:{1: true, 2: false}}`
  abbrev pub candidate_text : {QS : Type 0} → Candidacy NID QS → Option (List ℕ)
  candidate_text c =
      Some (codes "{") ++? vote_shown node_text c.vote ++? Some (codes "@" ++ decimal c.starting_time ++ codes ", last_log_id:")
      ++? id_shown node_text c.last_log_id ++? Some (codes " progress:{") ++? grants_text c.progress.rows ++? Some (codes "}}")
