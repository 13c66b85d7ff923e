-- How a follower handles a leader's entries.
use Rattle.std.specs.Prelude.{ℕ, ◌-◌, ◌==◌, Bool, true, not, List, [], ◌∷◌, Option, None, Some, Result, Ok, Err, map, filter_map, fold, drop, length, if◌then◌else◌}
use Rattle.std.specs.List.{prefix_len}
use Rattle.std.specs.Option.{option_map}
use Rattle.std.specs.Ordering.{is_lt}
use Rattle.raft_state.specs.Log.{last, at}
use Rattle.raft_state.specs.Order.{last_id_cmp}
use Rattle.raft_state.specs.State.{accept, accepted, append_membership, extend, has_log_id, truncate, undoes_membership}
use Rattle.raft_command.specs.Push.{with_command}
use Rattle.raft_command.specs.declared.command.Command.TheVariants.{AppendInputEntries, DeleteConflictLog}
use Rattle.raft_steps.specs.Commit.{commit_by}
use Rattle.raft_steps.specs.Laws.{later}
use Rattle.raft_steps.specs.ServerStateHandler.{update_role}
use Rattle.std.specs.declared.cmp.Ordering.{Ordering}
use Rattle.raft_state.specs.declared.ids.LogId.{LogId}
use Rattle.raft_state.specs.declared.membership.StoredMembership.{StoredMembership}
use Rattle.raft_state.specs.declared.policy.RejectAppendEntries.{RejectAppendEntries}
use Rattle.raft_state.specs.declared.policy.RejectAppendEntries.TheVariants as reject
use Rattle.raft_state.specs.declared.state.RaftState.{RaftState}
use Rattle.raft_command.specs.declared.config.EngineConfig.{EngineConfig}
use Rattle.raft_steps.specs.Parts.{Core, then_command, with_state}
use Rattle.raft_state.specs.declared.config.RaftEntry

module _ {NID N E : Type 0} (entry : RaftEntry.Ghosts E NID N) where
  -- the membership of an entry, with the entry's id
  abbrev pub stored_in : E → Option (StoredMembership NID N)
  stored_in e = option_map (λ m. record { log_id = Some (entry.id_of e); membership = m }) (entry.membership_of e)

  -- the memberships of entries
  abbrev pub memberships_in : List E → List (StoredMembership NID N)
  memberships_in es = filter_map stored_in es

  -- the membership of an entry takes effect, if it has one
  abbrev pub with_membership_of : RaftState NID N → E → RaftState NID N
  with_membership_of s e = elim (stored_in e) [ None ↦ s | Some m ↦ append_membership s m ]

  -- the state with the entries' ids, and with the last two of their memberships in effect
  abbrev pub with_entries : RaftState NID N → List E → RaftState NID N
  with_entries s es =
      let ms = memberships_in es in
      fold append_membership (extend s (map entry.id_of es)) (drop (length ms - 2) ms)

module _ {C NID N E D R S : Type 0} (cmp : NID → NID → Ordering) (entry : RaftEntry.Ghosts E NID N) (config : EngineConfig NID) where
  -- entries are appended after the last one
  unfoldable pub do_append_entries : List E → Core C NID N E D R S → Core C NID N E D R S
  do_append_entries es c =
      let taken = with_state c (with_entries entry c.state es) in
      let settled = if length (memberships_in entry es) == 0 then taken else update_role cmp config taken in
      if length es == 0 then c else then_command settled (AppendInputEntries c.state.vote es)

module _ {NID : Type 0} (cmp : NID → NID → Ordering) where
  -- the earlier of two ids
  abbrev pub earlier : Option (LogId NID) → Option (LogId NID) → Option (LogId NID)
  earlier a b = if is_lt (last_id_cmp cmp b a) then b else a

module _ {NID N : Type 0} (cmp : NID → NID → Ordering) where
  -- the id before an append's entries is held, or there is none
  abbrev pub holds_previous : RaftState NID N → Option (LogId NID) → Bool
  holds_previous s None = true
  holds_previous s (Some x) = has_log_id cmp s x

  -- why an append after this id is rejected, or that it is not (Raft paper, figure 2: AppendEntries, step 2)
  abbrev pub consecutive_answer : RaftState NID N → Option (LogId NID) → Result (Unit {0}) (RejectAppendEntries NID)
  consecutive_answer s None = Ok tt
  consecutive_answer s (Some x) = if has_log_id cmp s x then Ok tt else Err (reject.ByConflictingLogId (at s.ids x.index) x)

  -- what a follower commits up to: at most what it has accepted (Raft paper, figure 2: AppendEntries, step 5)
  abbrev pub commit_target : RaftState NID N → Option (LogId NID) → Option (LogId NID)
  commit_target s x = earlier cmp (accepted cmp s) x

module _ {NID N E : Type 0} (cmp : NID → NID → Ordering) (entry : RaftEntry.Ghosts E NID N) where
  -- an entry is held
  abbrev pub is_held : RaftState NID N → E → Bool
  is_held s e = has_log_id cmp s (entry.id_of e)

  -- the entries from the first one on that isn't held (openraft's `first_conflicting_index`)
  abbrev pub new_entries : RaftState NID N → List E → List E
  new_entries s es = drop (prefix_len (is_held s) es) es

module _ {C NID N E D R S : Type 0} (cmp : NID → NID → Ordering) (config : EngineConfig NID) where
  -- the log is deleted from an index on, if it has an id there, and with it a membership from there on
  unfoldable pub truncate_logs : ℕ → Core C NID N E D R S → Core C NID N E D R S
  truncate_logs i c =
      elim (at c.state.ids i) [
        | None ↦ c
        | Some first ↦
            let cut : Core C NID N E D R S = record { state = truncate c.state i; output = with_command c.output (DeleteConflictLog first) } in
            if not (undoes_membership c.state i) then cut else update_role cmp config cut
      ]

  -- if the id before an append's entries isn't held, the log is deleted from its index on
  unfoldable pub ensure_log_consecutive : Option (LogId NID) → Core C NID N E D R S → Core C NID N E D R S
  ensure_log_consecutive None c = c
  ensure_log_consecutive (Some x) c = if has_log_id cmp c.state x then c else truncate_logs x.index c

  -- a leader's committed id is committed, as far as this node has accepted
  unfoldable pub commit_entries : Option (LogId NID) → Core C NID N E D R S → Core C NID N E D R S
  commit_entries x c = commit_by cmp config [] (commit_target cmp c.state x) c

module _ {C NID N E D R S : Type 0} (cmp : NID → NID → Ordering) (entry : RaftEntry.Ghosts E NID N) (config : EngineConfig NID) where
  -- the log is deleted from the first of these entries on
  abbrev pub truncate_for : List E → Core C NID N E D R S → Core C NID N E D R S
  truncate_for [] c = c
  truncate_for (e ∷ es) c = truncate_logs cmp config (entry.id_of e).index c

  -- entries after a held id: all are accepted, and from the first one on that isn't held they replace the log
  -- (Raft paper, figure 2: AppendEntries, steps 3 and 4)
  unfoldable pub append_entries : Option (LogId NID) → List E → Core C NID N E D R S → Core C NID N E D R S
  append_entries prev es c =
      let noted = with_state c (accept cmp c.state (later cmp prev (last (map entry.id_of es)))) in
      let new = new_entries cmp entry c.state es in
      do_append_entries cmp entry config new (truncate_for new noted)
