-- The texts of ids, votes and snapshots.
use Rattle.std.specs.Prelude.{ℕ, Bool, List, ◌++◌, codes, Option, None, Some, if◌then◌else◌}
use Rattle.std.specs.Option.{option_map}
use Rattle.std.specs.Fmt.{decimal, ◌++?◌}
use Rattle.raft_state.specs.declared.ids.LogId.{LogId}

-- a leader id, with the text of its node: `T-N`
abbrev pub leader_id_text : ℕ → List ℕ → List ℕ
leader_id_text term node = decimal term ++ codes "-" ++ node

-- a log id, with the text of its node: `T-N-I`
abbrev pub log_id_text : ℕ → List ℕ → ℕ → List ℕ
log_id_text term node index = leader_id_text term node ++ codes "-" ++ decimal index

-- a vote, with the text of its node: `<T-N:Q>` if it is committed, else `<T-N:->`
abbrev pub vote_text : ℕ → List ℕ → Bool → List ℕ
vote_text term node committed = codes "<" ++ leader_id_text term node ++ codes ":" ++ (if committed then codes "Q" else codes "-") ++ codes ">"

-- an optional value, with its text: `None` without one
abbrev pub optional_text : {T : Type 0} → (T → Option (List ℕ)) → Option T → Option (List ℕ)
optional_text text None = Some (codes "None")
optional_text text (Some x) = text x

-- an optional log id, with the text of its node
abbrev pub optional_id_text : {NID : Type 0} → (NID → Option (List ℕ)) → Option (LogId NID) → Option (List ℕ)
optional_id_text text = optional_text (λ id. option_map (λ node. log_id_text id.leader_id.term node id.index) (text id.leader_id.node_id))

-- a snapshot: `{id:S, last:L, membership:L}`, each L a log id's text or `None`
abbrev pub meta_text : List ℕ → Option (List ℕ) → Option (List ℕ) → Option (List ℕ)
meta_text id last membership = Some (codes "{id:") ++? Some id ++? Some (codes ", last:") ++? last ++? Some (codes ", membership:") ++? membership ++? Some (codes "}")
