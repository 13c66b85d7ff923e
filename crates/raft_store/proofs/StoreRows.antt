-- Computed examples of stores: what they keep of commands, and their whole logs.
use Rattle.std.specs.Prelude.{◌≡◌, false, true, [], ◌∷◌, Some, refl}
use Rattle.std.specs.Ordering.{nat_cmp}
use Rattle.raft_steps.specs.raft_command.declared.command.Command.TheVariants.{AppendInputEntries, DeleteConflictLog, PurgeLog}
use Rattle.raft_store.specs.Entries.{entry_meaning}
use Rattle.raft_store.specs.Store.{holds, whole, whole_upto, due}
use Rattle.raft_store.proofs.StoreExample.{alone, first, blank, holding, keeping, after, snapshot, conflicting, unpurged}
use Rattle.raft_steps.proofs.Example.{lid, pending, committed, three}

-- the first run, stopped after each of its commands
a_stop_after_the_first_command_keeps_the_entry : after 1 ≡ holding (pending 0 0) (first alone ∷ [])
a_stop_after_the_first_command_keeps_the_entry = refl

the_second_saves_the_vote : after 2 ≡ holding (pending 1 1) (first alone ∷ [])
the_second_saves_the_vote = refl

the_third_and_the_fourth_leave_the_store : after 4 ≡ after 2
the_third_and_the_fourth_leave_the_store = refl

the_fifth_saves_the_committed_vote : after 5 ≡ holding (committed 1 1) (first alone ∷ [])
the_fifth_saves_the_committed_vote = refl

the_sixth_leaves_the_store : after 6 ≡ after 5
the_sixth_leaves_the_store = refl

the_seventh_stores_the_blank_entry : after 7 ≡ holding (committed 1 1) (first alone ∷ blank 1 1 1 ∷ [])
the_seventh_stores_the_blank_entry = refl

the_eighth_leaves_the_store : after 8 ≡ after 7
the_eighth_leaves_the_store = refl

the_ninth_applies_both_entries : after 9 ≡ record (after 7) { saved = Some (lid 1 1 1); applied = first alone ∷ blank 1 1 1 ∷ [] }
the_ninth_applies_both_entries = refl

-- an entry takes the place of the one at its index
an_entry_replaces_the_one_at_its_index : keeping (AppendInputEntries (committed 2 2) (blank 2 2 1 ∷ [])) (after 7) ≡ holding (committed 1 1) (first alone ∷ blank 2 2 1 ∷ [])
an_entry_replaces_the_one_at_its_index = refl

a_conflict_deletes_from_its_index_on : keeping (DeleteConflictLog (lid 1 1 1)) (after 7) ≡ holding (committed 1 1) (first alone ∷ [])
a_conflict_deletes_from_its_index_on = refl

-- a stop between the two commands of an install over a log that contradicts it: what is below its last index is still there
an_install_that_is_cut_short_keeps_what_is_below :
    keeping (DeleteConflictLog (lid 3 3 3)) (holding (committed 4 2) (first three ∷ blank 1 1 1 ∷ blank 1 1 2 ∷ blank 3 3 3 ∷ blank 3 3 4 ∷ []))
    ≡ holding (committed 4 2) (first three ∷ blank 1 1 1 ∷ blank 1 1 2 ∷ [])
an_install_that_is_cut_short_keeps_what_is_below = refl

-- the purged entry itself goes too, and is the front
a_purge_keeps_what_is_past_it : keeping (PurgeLog (lid 0 0 0)) (after 7) ≡ record (holding (committed 1 1) (blank 1 1 1 ∷ [])) { front = Some (lid 0 0 0) }
a_purge_keeps_what_is_past_it = refl

nothing_is_applied_twice : due (after 9) (lid 1 1 1) ≡ []
nothing_is_applied_twice = refl

-- the snapshot stands before the map, also where the map has other entries at its indexes
the_whole_log_begins_with_the_snapshot : whole conflicting ≡ snapshot
the_whole_log_begins_with_the_snapshot = refl

the_whole_log_goes_on_with_the_map : whole (unpurged (blank 4 2 6 ∷ blank 4 2 7 ∷ [])) ≡ first three ∷ blank 1 1 1 ∷ blank 4 2 2 ∷ blank 4 2 3 ∷ blank 4 2 4 ∷ blank 4 2 5 ∷ blank 4 2 6 ∷ blank 4 2 7 ∷ []
the_whole_log_goes_on_with_the_map = refl

the_whole_log_up_to_an_index_has_it : whole_upto conflicting 1 ≡ first three ∷ blank 1 1 1 ∷ []
the_whole_log_up_to_an_index_has_it = refl

what_the_snapshot_replaces_is_not_held : holds nat_cmp entry_meaning conflicting (lid 5 3 2) ≡ false
what_the_snapshot_replaces_is_not_held = refl

what_the_snapshot_has_is_held : holds nat_cmp entry_meaning conflicting (lid 4 2 2) ≡ true
what_the_snapshot_has_is_held = refl
