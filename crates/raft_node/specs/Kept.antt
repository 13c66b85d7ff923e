-- How records keep the whole logs of leaders: of each leader the longest one that is recorded, and of each record how
-- many of its leader's entries it has.
use Rattle.std.specs.Prelude.{ℕ, ◌≡◌, ◌≤◌, ◌⊎◌, List, [], length, map, take}
use Rattle.std.specs.List.{AllByRecursion}
use Rattle.raft_state.specs.declared.ids.LeaderId.{LeaderId}
use Rattle.raft_store.specs.declared.entry.Entry.{Entry}
use Rattle.raft_store.specs.LeaderLogs.{log_of}
use Rattle.raft_node.specs.declared.record.Decided.{Decided}
use Rattle.raft_node.specs.declared.record.Established.{Established}
use Rattle.raft_node.specs.Net.{Records, no_records}
use Rattle.raft_node.specs.Safety.{IsRecordOf}

module _ {L M : Type 0} (f : LeaderId ℕ → L → M) where
  -- a record whose log is read by its leader
  abbrev pub decided_by_leader : Decided L → Decided M
  decided_by_leader r = record { leader_id = r.leader_id; log_id = r.log_id; log = f r.leader_id r.log }

  abbrev pub established_by_leader : Established L → Established M
  established_by_leader r = record { leader_id = r.leader_id; log = f r.leader_id r.log }

module _ (logs : List (LeaderId ℕ × List Entry)) where
  -- the log of a record that has so many of its leader's entries
  abbrev pub log_in : LeaderId ℕ → ℕ → List Entry
  log_in d n = take n (log_of logs d)

  abbrev pub decided_in : List (Decided ℕ) → List (Decided (List Entry))
  decided_in decided = map (decided_by_leader log_in) decided

  abbrev pub established_in : List (Established ℕ) → List (Established (List Entry))
  established_in established = map (established_by_leader log_in) established

  -- what is decided and established, with its logs
  abbrev pub kept_in : List (Decided ℕ) → List (Established ℕ) → Records (List Entry)
  kept_in decided established = record no_records { decided = decided_in decided; established = established_in established }

  -- no record has more entries than its leader's log, and that log is one of the records, or empty
  pub record AreKept (decided : List (Decided ℕ)) (established : List (Established ℕ)) : Type 0 where
    pub decided_within : AllByRecursion (λ r. r.log ≤ length (log_of logs r.leader_id)) decided
    pub established_within : AllByRecursion (λ r. r.log ≤ length (log_of logs r.leader_id)) established
    pub recorded : (d : LeaderId ℕ) → (log_of logs d ≡ []) ⊎ IsRecordOf (kept_in decided established) d (log_of logs d)
