-- What a store gives to a bare start, as far as elections and requests ask for it.
use Rattle.std.specs.Prelude.{false}
use Rattle.std.specs.Ordering.{nat_cmp}
use Rattle.raft_state.specs.Log.{last}
use Rattle.raft_store.specs.Entries.{entry_meaning}
use Rattle.raft_store.specs.Restart.{started}
use Rattle.raft_store.specs.Types.{WorldStore}
use Rattle.raft_recovery.specs.declared.starting.Found.{Found}

-- the last id, the effective membership, the last purged id, and what is committed
abbrev pub found_in : WorldStore → Found
found_in t =
    let s = started nat_cmp entry_meaning false t in
    record { last = last s.ids; membership = s.em.membership; purged = s.purge_to; committed = s.committed }
