-- Computed examples of starts.
use Rattle.std.specs.Prelude.{◌≡◌, false, true, [], ◌∷◌, ◌++◌, None, Some, refl}
use Rattle.std.specs.Ordering.{nat_cmp}
use Rattle.std.proofs.Common.{arith, lit<}
use Rattle.raft_state.specs.Invariants.{IsSoundState}
use Rattle.raft_state.specs.State.{empty}
use Rattle.raft_store.specs.Entries.{entry_meaning}
use Rattle.proof_mirror.specs.Ready.{Shaped, Ordered}
use Rattle.raft_store.specs.Restart.{restarted, start_committed, started}
use Rattle.raft_store.specs.Store.{no_store}
use Rattle.raft_store.specs.Types.{WorldStore}
use Rattle.raft_store.proofs.StoreExample.{alone, first, blank, meta_upto, holding, after, snapshot, unpurged, conflicting}
use Rattle.raft_steps.proofs.Example.{lid, committed, stored, three}

-- an installed snapshot whose purge was not done: a map that contradicts it goes, and the snapshot's last id is the
-- front
a_conflicting_log_goes : restarted nat_cmp entry_meaning false conflicting ≡ record conflicting { log = []; front = Some (lid 4 2 6) }
a_conflicting_log_goes = refl

its_start_has_the_snapshots_last_id_alone : started nat_cmp entry_meaning false conflicting ≡ record (empty 0) {
  vote = committed 5 3;
  ids = lid 4 2 6 ∷ [];
  purged = Some (lid 4 2 6);
  purge_to = Some (lid 4 2 6);
  committed = Some (lid 4 2 6);
  snap = meta_upto (lid 4 2 6) three;
  cm = stored (Some (lid 0 0 0)) three;
  em = stored (Some (lid 0 0 0)) three;
}
its_start_has_the_snapshots_last_id_alone = refl

-- a longer log goes too, where it has another entry at the snapshot's last index
abbrev longer : WorldStore
longer = unpurged (first three ∷ blank 1 1 1 ∷ blank 5 3 2 ∷ blank 5 3 3 ∷ blank 5 3 4 ∷ blank 5 3 5 ∷ blank 5 3 6 ∷ blank 5 3 7 ∷ [])

a_longer_conflicting_log_goes : restarted nat_cmp entry_meaning false longer ≡ record longer { log = []; front = Some (lid 4 2 6) }
a_longer_conflicting_log_goes = refl

-- a log that has the snapshot's last entry stays, with what stands past it
abbrev ahead : WorldStore
ahead = unpurged (snapshot ++ (blank 4 2 7 ∷ []))

a_log_that_has_the_snapshots_last_entry_stays : restarted nat_cmp entry_meaning false ahead ≡ ahead
a_log_that_has_the_snapshots_last_entry_stays = refl

nothing_is_purged_of_it : (started nat_cmp entry_meaning false ahead).purged ≡ None
nothing_is_purged_of_it = refl

-- once it is purged the map need not have it
abbrev purged : WorldStore
purged = record (unpurged (blank 4 2 7 ∷ [])) { front = Some (lid 4 2 6) }

a_purged_log_stays : restarted nat_cmp entry_meaning false purged ≡ purged
a_purged_log_stays = refl

its_start_begins_with_the_front : (started nat_cmp entry_meaning false purged).ids ≡ lid 4 2 6 ∷ lid 4 2 7 ∷ []
its_start_begins_with_the_front = refl

-- the first run, stopped after each command: what is not committed is not applied
a_start_after_the_first_entry : started nat_cmp entry_meaning false (after 1) ≡ record (empty 0) { ids = lid 0 0 0 ∷ []; cm = stored (Some (lid 0 0 0)) alone; em = stored (Some (lid 0 0 0)) alone }
a_start_after_the_first_entry = refl

a_start_after_the_blank_entry : started nat_cmp entry_meaning false (after 7) ≡ record (empty 0) {
  vote = committed 1 1;
  ids = lid 0 0 0 ∷ lid 1 1 1 ∷ [];
  cm = stored (Some (lid 0 0 0)) alone;
  em = stored (Some (lid 0 0 0)) alone;
}
a_start_after_the_blank_entry = refl

a_start_after_the_commit_applies_nothing : restarted nat_cmp entry_meaning false (after 9) ≡ record (after 9) { applied = [] }
a_start_after_the_commit_applies_nothing = refl

-- unless the saved id is wanted
with_the_saved_id_it_applies_both_entries : restarted nat_cmp entry_meaning true (after 9) ≡ after 9
with_the_saved_id_it_applies_both_entries = refl

-- of the saved id and the snapshot's last one the greater counts, where the whole log holds it
a_saved_id_above_the_snapshot_counts : start_committed nat_cmp entry_meaning true (record ahead { saved = Some (lid 4 2 7) }) ≡ Some (lid 4 2 7)
a_saved_id_above_the_snapshot_counts = refl

a_saved_id_below_the_snapshot_does_not_count : start_committed nat_cmp entry_meaning true (record ahead { saved = Some (lid 1 1 1) }) ≡ Some (lid 4 2 6)
a_saved_id_below_the_snapshot_does_not_count = refl

a_saved_id_that_is_not_held_does_not_count : start_committed nat_cmp entry_meaning true (record purged { saved = Some (lid 4 2 9) }) ≡ Some (lid 4 2 6)
a_saved_id_that_is_not_held_does_not_count = refl

-- a snapshot of one leader's first entries, without any log
abbrev installed : WorldStore
installed = record (holding (committed 1 1) []) { meta = meta_upto (lid 1 1 1) three; snap = first three ∷ blank 1 1 1 ∷ []; applied = first three ∷ blank 1 1 1 ∷ [] }

a_snapshot_without_a_log_is_the_front : restarted nat_cmp entry_meaning false installed ≡ record installed { front = Some (lid 1 1 1) }
a_snapshot_without_a_log_is_the_front = refl

an_empty_store_stays_empty : restarted nat_cmp entry_meaning false (no_store 0) ≡ no_store 0
an_empty_store_stays_empty = refl

an_empty_store_starts_empty : started nat_cmp entry_meaning false (no_store 0) ≡ empty 0
an_empty_store_starts_empty = refl

-- what holds of a store at any moment holds of these
the_conflicting_store_is_shaped : Shaped entry_meaning conflicting
the_conflicting_store_is_shaped = record {
  keys = refl;
  run = (refl, (refl, (refl, tt)));
  front = omega arith;
  tells = record { last_id = refl; membership = refl };
  snap_run = (refl, (refl, (refl, (refl, (refl, (refl, (refl, tt)))))));
  applied = refl;
  recorded = omega arith;
}

the_purged_store_is_shaped : Shaped entry_meaning purged
the_purged_store_is_shaped = record {
  keys = refl;
  run = (refl, tt);
  front = omega arith;
  tells = record { last_id = refl; membership = refl };
  snap_run = (refl, (refl, (refl, (refl, (refl, (refl, (refl, tt)))))));
  applied = refl;
  recorded = omega arith;
}

-- and their ids are in order, also where the map contradicts the snapshot
the_conflicting_store_is_ordered : Ordered nat_cmp entry_meaning conflicting
the_conflicting_store_is_ordered = record {
  log = record { by_vote = (refl, (refl, (refl, tt))); rising = (refl, (refl, (refl, tt))); run = (refl, (refl, (refl, tt))); below_end = (lit< tt, (lit< tt, (lit< tt, tt))); first = tt };
  snapshot = record {
    by_vote = (refl, (refl, (refl, (refl, (refl, (refl, (refl, tt)))))));
    rising = (refl, (refl, (refl, (refl, (refl, (refl, (refl, tt)))))));
    run = (refl, (refl, (refl, (refl, (refl, (refl, (refl, tt)))))));
    below_end = (lit< tt, (lit< tt, (lit< tt, (lit< tt, (lit< tt, (lit< tt, (lit< tt, tt)))))));
    first = tt;
  };
  front = λ q. absurd (omega (arith, q));
}

-- a start on it meets what a new engine asks
its_start_is_sound : IsSoundState nat_cmp (started nat_cmp entry_meaning false conflicting)
its_start_is_sound = record {
  log = record { by_vote = (refl, tt); rising = (refl, tt); run = (refl, tt); below_end = (lit< tt, tt); first = refl };
  marks = record { at_purged = refl; at_target = refl; at_snapshot = refl; at_committed = refl; target_fits = refl; snapshot_fits = refl; committed_fits = refl };
  accepted = tt;
}
