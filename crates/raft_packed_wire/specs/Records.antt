-- What one step of a server whose snapshots are states leaves on its disk, and its bytes. Each definition is that of `raft_wire` which its
-- name says after `packed_`; P is what a snapshot is.
use Rattle.std.specs.Prelude.{ℕ, ◌≡◌, ◌==◌, List, [], ◌∷◌, ◌++◌, Option, None, Some, Result, Ok, OnOk, fold, map, unwrap_or, if◌then◌else◌}
use Rattle.std.specs.List.{AllByRecursion, flat_map}
use Rattle.std.specs.Option.{option_map}
use Rattle.raft_state.specs.declared.membership.SnapshotMeta.{SnapshotMeta}
use Rattle.raft_command.specs.declared.command.Command.TheVariants as command
use Rattle.raft_command.specs.declared.sm.CommandPayload.TheVariants as machine
use Rattle.raft_store.specs.Types.{WorldCommand, WorldPayload}
use Rattle.raft_codec.specs.declared.error.DecodeError.{DecodeError}
use Rattle.raft_codec.specs.Codec.{Codec, ◌>>=◌, number, list, pair, by_parts, tag_at, unknown_tag}
use Rattle.raft_wire.specs.declared.record.Began.{Began}
use Rattle.raft_wire.specs.declared.record.Began.TheVariants as began
use Rattle.raft_wire.specs.declared.record.Change.{Change}
use Rattle.raft_wire.specs.declared.record.Change.TheVariants as change
use Rattle.raft_wire.specs.declared.record.Record.{Record}
use Rattle.raft_wire.specs.Values.{log_id, snapshot_meta, vote}
use Rattle.raft_wire.specs.Entries.{entry}
use Rattle.raft_wire.specs.Records.{change_of, changes_of, command_of}
use Rattle.raft_packed_node.specs.proof_packed.Nodes.{of_no_entries}
use Rattle.raft_packed_node.specs.proof_packed.Records.{packed_exec_all}
use Rattle.raft_packed_node.specs.proof_packed.Stores.{Application, Packed, PackedStore, packed, packed_exec, packed_keep_snapshot, packed_settled}
use Rattle.raft_packed_wire.specs.declared.named.Named.{Named}
use Rattle.raft_packed_wire.specs.declared.named.Named.TheVariants.{Whole, Folded}
use Rattle.raft_packed_wire.specs.declared.record.NamedRecord.{NamedRecord}
use Rattle.raft_packed_wire.specs.declared.record.PackedBegan.{PackedBegan}
use Rattle.raft_packed_wire.specs.declared.record.PackedBegan.TheVariants.{Unchanged, Settled, Built}
use Rattle.raft_packed_wire.specs.declared.record.PackedChange.{PackedChange}
use Rattle.raft_packed_wire.specs.declared.record.PackedChange.TheVariants.{Vote, Append, Delete, Purge, Install}
use Rattle.raft_packed_wire.specs.declared.record.PackedRecord.{PackedRecord}

module _ {P : Type 0} (c : Codec P) where
  -- a change: 0 a saved vote, 1 appended entries, 2 the first id that is deleted, 3 the last id that is purged, 4 an installed snapshot
  -- behind its meta
  unfoldable pub packed_change : Codec (PackedChange P)
  packed_change = record { fits = fits; bytes = bytes; read = read } where
    fits : PackedChange P → Type 0
    fits (Vote v) = vote.fits v
    fits (Append entries) = (list entry).fits entries
    fits (Delete since) = log_id.fits since
    fits (Purge upto) = log_id.fits upto
    fits (Install meta p) = (pair snapshot_meta c).fits (meta, p)

    bytes : PackedChange P → List ℕ
    bytes (Vote v) = 0 ∷ vote.bytes v
    bytes (Append entries) = 1 ∷ (list entry).bytes entries
    bytes (Delete since) = 2 ∷ log_id.bytes since
    bytes (Purge upto) = 3 ∷ log_id.bytes upto
    bytes (Install meta p) = 4 ∷ (pair snapshot_meta c).bytes (meta, p)

    read : List ℕ → Result (PackedChange P × List ℕ) DecodeError
    read front = do
      tag ← tag_at front
      if tag.0 == 0 then (vote.read tag.1 >>= λ v. Ok (Vote v.0, v.1))
          else if tag.0 == 1 then ((list entry).read tag.1 >>= λ entries. Ok (Append entries.0, entries.1))
          else if tag.0 == 2 then (log_id.read tag.1 >>= λ since. Ok (Delete since.0, since.1))
          else if tag.0 == 3 then (log_id.read tag.1 >>= λ upto. Ok (Purge upto.0, upto.1))
          else if tag.0 == 4 then ((pair snapshot_meta c).read tag.1 >>= λ s. Ok (Install s.0.0 s.0.1, s.1))
          else unknown_tag tag.1

  -- a writer of changes appends the bytes of each
  abbrev pub WritesPackedChanges : {E : Type 0} → List (PackedChange P) → Result (Unit {0}) E → List ℕ → List ℕ → Type 0
  WritesPackedChanges changes result old new =
      OnOk result (AllByRecursion packed_change.fits changes × (new ≡ old ++ flat_map packed_change.bytes changes))

module _ {S : Type 0} (c : Codec (Packed S)) where
  -- what a step's calls made of the store: 0 nothing, 1 it was settled, 2 and a built snapshot, 3 and the end of one that the log names by it
  unfoldable pub named_began : Codec (PackedBegan (Named S))
  named_began = record { fits = fits; bytes = bytes; read = read } where
    fits : PackedBegan (Named S) → Type 0
    fits Unchanged = Unit {0}
    fits Settled = Unit {0}
    fits (Built (Whole p)) = c.fits p
    fits (Built (Folded end)) = number.fits end

    bytes : PackedBegan (Named S) → List ℕ
    bytes Unchanged = 0 ∷ []
    bytes Settled = 1 ∷ []
    bytes (Built (Whole p)) = 2 ∷ c.bytes p
    bytes (Built (Folded end)) = 3 ∷ number.bytes end

    read : List ℕ → Result (PackedBegan (Named S) × List ℕ) DecodeError
    read front = do
      tag ← tag_at front
      if tag.0 == 0 then Ok (Unchanged, tag.1)
          else if tag.0 == 1 then Ok (Settled, tag.1)
          else if tag.0 == 2 then (c.read tag.1 >>= λ p. Ok (Built (Whole p.0), p.1))
          else if tag.0 == 3 then (number.read tag.1 >>= λ end. Ok (Built (Folded end.0), end.1))
          else unknown_tag tag.1

  -- a record: the moment up to which moments are reserved, what the step's calls made of the store, and each change
  unfoldable pub named_logged : Codec (NamedRecord S)
  named_logged = by_parts
      (λ r. (r.moment, (r.began, r.changes)))
      (λ q. record { moment = q.0; began = q.1.0; changes = q.1.1 })
      (pair number (pair named_began (list (packed_change c))))

-- ---- what a record stands for

-- the meta of the snapshot that a command installs, if it does
abbrev pub meta_in : WorldPayload → Option (SnapshotMeta ℕ (Unit {0}))
meta_in (machine.InstallFullSnapshot s) = Some s.meta
meta_in _ = None

abbrev pub meta_installed : WorldCommand → Option (SnapshotMeta ℕ (Unit {0}))
meta_installed (command.StateMachine c) = meta_in c.payload
meta_installed _ = None

-- the command that installs a snapshot with this meta, without its data
abbrev pub bare_install : SnapshotMeta ℕ (Unit {0}) → WorldCommand
bare_install meta = command_of (change.Install (record { meta = meta; snapshot = [] }))

module _ {P : Type 0} where
  -- a change, where a snapshot that is installed is this one
  abbrev pub with_snapshot : P → Change → PackedChange P
  with_snapshot p (change.Vote v) = Vote v
  with_snapshot p (change.Append entries) = Append entries
  with_snapshot p (change.Delete since) = Delete since
  with_snapshot p (change.Purge upto) = Purge upto
  with_snapshot p (change.Install s) = Install s.meta p

  -- what a command changes on disk, and what a step's commands do: a snapshot that is installed is the one that the message brought
  abbrev pub packed_change_of : P → WorldCommand → Option (PackedChange P)
  packed_change_of brought c = option_map (with_snapshot brought) (change_of c)

  abbrev pub packed_changes_of : P → List WorldCommand → List (PackedChange P)
  packed_changes_of brought commands = map (with_snapshot brought) (changes_of commands)

  -- the record of a step
  abbrev pub packed_record_of : ℕ → PackedBegan P → P → List WorldCommand → PackedRecord P
  packed_record_of moment b brought commands = record { moment = moment; began = b; changes = packed_changes_of brought commands }

  -- the command that makes a change, without a snapshot's data; and the snapshot that it installs
  abbrev pub packed_command_of : PackedChange P → WorldCommand
  packed_command_of (Vote v) = command_of (change.Vote v)
  packed_command_of (Append entries) = command_of (change.Append entries)
  packed_command_of (Delete since) = command_of (change.Delete since)
  packed_command_of (Purge upto) = command_of (change.Purge upto)
  packed_command_of (Install meta p) = bare_install meta

  abbrev pub installed_by : PackedChange P → Option P
  installed_by (Install meta p) = Some p
  installed_by _ = None

module _ {S : Type 0} (app : Application S) where
  -- the store after what a step's calls made of it, and after a step with these commands
  abbrev pub packed_begun : PackedBegan (Packed S) → PackedStore S → PackedStore S
  packed_begun Unchanged t = t
  packed_begun Settled t = packed_settled app t
  packed_begun (Built p) t = packed_keep_snapshot p t

  abbrev pub packed_stepped : PackedBegan (Packed S) → Packed S → List WorldCommand → PackedStore S → PackedStore S
  packed_stepped b brought commands t = packed_exec_all app brought (packed_begun b t) commands

  -- what is on disk of a store: all but the saved committed id, and what the state machine has applied
  abbrev pub packed_on_disk : PackedStore S → PackedStore S
  packed_on_disk t = record t { saved = None; applied = of_no_entries app }

  -- the store after a change, and after a record
  abbrev pub packed_changed : PackedStore S → PackedChange (Packed S) → PackedStore S
  packed_changed t c = packed_exec app (unwrap_or (installed_by c) (of_no_entries app)) (packed_command_of c) t

  abbrev pub packed_replayed : PackedRecord (Packed S) → PackedStore S → PackedStore S
  packed_replayed r t = fold packed_changed (packed_begun r.began t) r.changes

  -- A record replays to a store: on disk it is what each step with this record makes of a store that was the same on disk.
  abbrev pub PackedReplays : PackedRecord (Packed S) → PackedStore S → PackedStore S → Type 0
  PackedReplays r old new =
      (t : PackedStore S) (brought : Packed S) (commands : List WorldCommand)
      → packed_on_disk t ≡ packed_on_disk old → r.changes ≡ packed_changes_of brought commands
      → packed_on_disk new ≡ packed_on_disk (packed_stepped r.began brought commands t)

  -- a record of a server whose snapshots are entries, packed: what its calls made, each change, and the whole
  abbrev pub began_packed : Began → PackedBegan (Packed S)
  began_packed began.Unchanged = Unchanged
  began_packed began.Settled = Settled
  began_packed (began.Built entries) = Built (packed app entries)

  abbrev pub change_packed : Change → PackedChange (Packed S)
  change_packed (change.Install s) = Install s.meta (packed app s.snapshot)
  change_packed c = with_snapshot (of_no_entries app) c

  abbrev pub record_packed : Record → PackedRecord (Packed S)
  record_packed r = record { moment = r.moment; began = began_packed r.began; changes = map change_packed r.changes }
