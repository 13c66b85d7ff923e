-- A packed store does what the store does that it stands for: to pack after a command or a start is the packed command or start after packing.
use Rattle.std.specs.Prelude.{◌≡◌, Bool, List, ◌++◌}
use Rattle.std.specs.Ordering.{nat_cmp}
use Rattle.raft_command.specs.declared.command.Command.TheVariants.{StateMachine}
use Rattle.raft_command.specs.declared.sm.CommandPayload.TheVariants.{InstallFullSnapshot}
use Rattle.raft_state.specs.Order.{next}
use Rattle.raft_store.specs.declared.entry.Entry.{Entry}
use Rattle.raft_store.specs.Built.{keep_snapshot, meta_of}
use Rattle.raft_store.specs.Entries.{entry_meaning}
use Rattle.raft_store.specs.Restart.{restarted, settled, started}
use Rattle.raft_store.specs.Store.{exec}
use Rattle.raft_store.specs.Types.{WorldCommand, WorldPayload, WorldStore}
use Rattle.proof_mirror.specs.Ready.{Shaped, Ordered}
use Rattle.proof_packed_stores.specs.Stores.{Application, Packed, PackedStore, packed_keep_snapshot, packed, packed_exec, packed_meta, packed_restarted, packed_settled, packed_started, packed_store, with_entries}

-- if a command installs a snapshot, it is this one
abbrev pub BringsPayload : {S : Type 0} → Application S → Packed S → WorldPayload → Type 0
BringsPayload app brought (InstallFullSnapshot s) = packed app s.snapshot ≡ brought
BringsPayload app brought _ = Unit {0}

abbrev pub Brings : {S : Type 0} → Application S → Packed S → WorldCommand → Type 0
Brings app brought (StateMachine c) = BringsPayload app brought c.payload
Brings app brought _ = Unit {0}

module _ {S : Type 0} (app : Application S) where
  pub record PacksStoresOf : Type 0 where
    -- what is kept of more entries comes of what was kept and of the entries
    pub more : (xs ys : List Entry) → packed app (xs ++ ys) ≡ with_entries app (packed app xs) ys
    -- each command, on every store
    pub commands : (brought : Packed S) (c : WorldCommand) (t : WorldStore) → Brings app brought c → packed_store app (exec entry_meaning (λ es. es) c t) ≡ packed_exec app brought c (packed_store app t)
    -- the end of a build
    pub metas : (es : List Entry) → meta_of entry_meaning es ≡ packed_meta (packed app es)
    pub keeps : (es : List Entry) (t : WorldStore) → packed_store app (keep_snapshot entry_meaning es t) ≡ packed_keep_snapshot (packed app es) (packed_store app t)
    -- a snapshot's meta has its last id, its last membership and its end: what a snapshot carries beside it is the membership
    -- before the last, and the state
    pub told : (t : WorldStore) → Shaped entry_meaning t
        → ((packed app t.snap).last_id ≡ t.meta.last_log_id) × ((packed app t.snap).effective ≡ t.meta.last_membership) × ((packed app t.snap).end ≡ next t.meta.last_log_id)
    -- a start on a store that is shaped and in order, as in a run each is: the store that it leaves, and the engine's state
    pub starts : (saved : Bool) (t : WorldStore) → Shaped entry_meaning t → Ordered nat_cmp entry_meaning t
        → (packed_store app (restarted nat_cmp entry_meaning saved t) ≡ packed_restarted app saved (packed_store app t)) × (started nat_cmp entry_meaning saved t ≡ packed_started app saved (packed_store app t))
    -- entries are made to fit the snapshot; and a start doesn't read what was applied, so a disk need not keep it
    pub settles : (t : WorldStore) → packed_store app (settled nat_cmp entry_meaning t) ≡ packed_settled app (packed_store app t)
    pub forgets : (saved : Bool) (t : PackedStore S) (p : Packed S)
        → (packed_restarted app saved (record t { applied = p }) ≡ packed_restarted app saved t) × (packed_started app saved (record t { applied = p }) ≡ packed_started app saved t)

abbrev pub PacksStores : Type 0 → Type 0
PacksStores S = (app : Application S) → PacksStoresOf app
