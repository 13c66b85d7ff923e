-- What one step of a server leaves on its disk, and its bytes.
use Rattle.std.specs.Prelude.{ℕ, ◌≡◌, ◌==◌, List, [], ◌∷◌, ◌++◌, Option, None, Some, Result, Ok, OnOk, Bool, true, false, fold, if◌then◌else◌}
use Rattle.std.specs.Option.{option_to_list}
use Rattle.std.specs.List.{AllByRecursion, flat_map}
use Rattle.std.specs.Ordering.{nat_cmp}
use Rattle.raft_command.specs.declared.command.Command.TheVariants as command
use Rattle.raft_command.specs.declared.sm.CommandPayload.TheVariants as machine
use Rattle.raft_store.specs.Built.{keep_snapshot}
use Rattle.raft_store.specs.Entries.{entry_meaning}
use Rattle.raft_store.specs.Restart.{settled}
use Rattle.raft_store.specs.Store.{exec, exec_all}
use Rattle.raft_store.specs.Types.{WorldCommand, WorldPayload, WorldStore}
use Rattle.raft_codec.specs.declared.error.DecodeError.{DecodeError}
use Rattle.raft_wire.specs.declared.record.Began.{Began}
use Rattle.raft_wire.specs.declared.record.Began.TheVariants.{Unchanged, Settled, Built}
use Rattle.raft_wire.specs.declared.record.Change.{Change}
use Rattle.raft_wire.specs.declared.record.Change.TheVariants.{Vote, Append, Delete, Purge, Install}
use Rattle.raft_wire.specs.declared.record.Record.{Record}
use Rattle.raft_codec.specs.Codec.{Codec, ◌>>=◌, number, list, pair, by_parts, tag_at, unknown_tag}
use Rattle.raft_wire.specs.Values.{log_id, vote}
use Rattle.raft_wire.specs.Entries.{entry, snapshot}

-- what a step's calls made of the store: 0 nothing, 1 it was settled, 2 and the entries of a built snapshot
unfoldable pub began : Codec Began
began = record { fits = fits; bytes = bytes; read = read } where
  fits : Began → Type 0
  fits Unchanged = Unit {0}
  fits Settled = Unit {0}
  fits (Built entries) = (list entry).fits entries

  bytes : Began → List ℕ
  bytes Unchanged = 0 ∷ []
  bytes Settled = 1 ∷ []
  bytes (Built entries) = 2 ∷ (list entry).bytes entries

  read : List ℕ → Result (Began × List ℕ) DecodeError
  read front = do
    tag ← tag_at front
    if tag.0 == 0 then Ok (Unchanged, tag.1)
        else if tag.0 == 1 then Ok (Settled, tag.1)
        else if tag.0 == 2 then ((list entry).read tag.1 >>= λ entries. Ok (Built entries.0, entries.1))
        else unknown_tag tag.1

-- a change: 0 a saved vote, 1 appended entries, 2 the first id that is deleted, 3 the last id that is purged, 4 an installed
-- snapshot
unfoldable pub change : Codec Change
change = record { fits = fits; bytes = bytes; read = read } where
  fits : Change → Type 0
  fits (Vote v) = vote.fits v
  fits (Append entries) = (list entry).fits entries
  fits (Delete since) = log_id.fits since
  fits (Purge upto) = log_id.fits upto
  fits (Install s) = snapshot.fits s

  bytes : Change → List ℕ
  bytes (Vote v) = 0 ∷ vote.bytes v
  bytes (Append entries) = 1 ∷ (list entry).bytes entries
  bytes (Delete since) = 2 ∷ log_id.bytes since
  bytes (Purge upto) = 3 ∷ log_id.bytes upto
  bytes (Install s) = 4 ∷ snapshot.bytes s

  read : List ℕ → Result (Change × List ℕ) DecodeError
  read front = do
    tag ← tag_at front
    if tag.0 == 0 then (vote.read tag.1 >>= λ v. Ok (Vote v.0, v.1))
        else if tag.0 == 1 then ((list entry).read tag.1 >>= λ entries. Ok (Append entries.0, entries.1))
        else if tag.0 == 2 then (log_id.read tag.1 >>= λ since. Ok (Delete since.0, since.1))
        else if tag.0 == 3 then (log_id.read tag.1 >>= λ upto. Ok (Purge upto.0, upto.1))
        else if tag.0 == 4 then (snapshot.read tag.1 >>= λ s. Ok (Install s.0, s.1))
        else unknown_tag tag.1

-- a record: the moment up to which moments are reserved, what the step's calls made of the store, and each change
unfoldable pub logged : Codec Record
logged = by_parts
    (λ r. (r.moment, (r.began, r.changes)))
    (λ p. record { moment = p.0; began = p.1.0; changes = p.1.1 })
    (pair number (pair began (list change)))

-- ---- what a record stands for

-- what a command to the state machine changes on disk: an installed snapshot is kept
abbrev pub payload_change : WorldPayload → Option Change
payload_change machine.BuildSnapshot = None
payload_change (machine.GetSnapshot _) = None
payload_change (machine.BeginReceivingSnapshot _) = None
payload_change (machine.InstallFullSnapshot s) = Some (Install s)
payload_change (machine.Apply _) = None

-- What a command changes on disk. A commit changes nothing there: the saved committed id isn't kept.
abbrev pub change_of : WorldCommand → Option Change
change_of (command.SaveVote v) = Some (Vote v)
change_of (command.AppendInputEntries v entries) = Some (Append entries)
change_of (command.DeleteConflictLog since) = Some (Delete since)
change_of (command.PurgeLog upto) = Some (Purge upto)
change_of (command.StateMachine c) = payload_change c.payload
change_of (command.Commit seq already upto) = None
change_of command.BecomeLeader = None
change_of command.QuitLeader = None
change_of (command.ReplicateCommitted _) = None
change_of (command.Replicate _ _) = None
change_of (command.RebuildReplicationStreams _) = None
change_of (command.SendVote _) = None
change_of (command.Respond _ _) = None

-- the changes of a step's commands, in their order
abbrev pub changes_of : List WorldCommand → List Change
changes_of commands = flat_map (λ c. option_to_list (change_of c)) commands

-- the record of a step
abbrev pub record_of : ℕ → Began → List WorldCommand → Record
record_of moment began commands = record { moment = moment; began = began; changes = changes_of commands }

-- whether a record changes nothing of a store
abbrev pub no_changes : Began → List Change → Bool
no_changes Unchanged [] = true
no_changes _ _ = false

abbrev pub is_unchanging : Record → Bool
is_unchanging r = no_changes r.began r.changes

-- the store after what a step's calls made of it
abbrev pub begun : Began → WorldStore → WorldStore
begun Unchanged t = t
begun Settled t = settled nat_cmp entry_meaning t
begun (Built entries) t = keep_snapshot entry_meaning entries t

-- the store after a step with these commands
abbrev pub stepped : Began → List WorldCommand → WorldStore → WorldStore
stepped b commands t = exec_all entry_meaning (λ es. es) (begun b t) commands

-- what is on disk of a store: all but the saved committed id, and the entries that the state machine has applied
abbrev pub on_disk : WorldStore → WorldStore
on_disk t = record t { saved = None; applied = [] }

-- the command that makes a change
abbrev pub command_of : Change → WorldCommand
command_of (Vote v) = command.SaveVote v
command_of (Append entries) = command.AppendInputEntries (record { leader_id = record { term = 0; node_id = 0 }; committed = false }) entries
command_of (Delete since) = command.DeleteConflictLog since
command_of (Purge upto) = command.PurgeLog upto
command_of (Install s) = command.StateMachine (record { seq = 0; payload = machine.InstallFullSnapshot s })

-- the store after a change
abbrev pub changed : WorldStore → Change → WorldStore
changed t c = exec entry_meaning (λ es. es) (command_of c) t

-- the store after a record
abbrev pub replayed : Record → WorldStore → WorldStore
replayed r t = fold changed (begun r.began t) r.changes

-- A record replays to a store: on disk it is what each step with this record makes of a store that was the same on disk.
abbrev pub Replays : Record → WorldStore → WorldStore → Type 0
Replays r old new = (t : WorldStore) (commands : List WorldCommand) → on_disk t ≡ on_disk old → r.changes ≡ changes_of commands → on_disk new ≡ on_disk (stepped r.began commands t)

-- a writer of changes appends the bytes of each
abbrev pub WritesChanges : {E : Type 0} → List Change → Result (Unit {0}) E → List ℕ → List ℕ → Type 0
WritesChanges changes result old new = OnOk result (AllByRecursion change.fits changes × (new ≡ old ++ flat_map change.bytes changes))
