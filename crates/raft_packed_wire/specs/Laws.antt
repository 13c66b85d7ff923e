-- What is written is read back. A record, packed, is the packed step's; and what it replays to, packed, is what the packed record does.
use Rattle.std.specs.Prelude.{ℕ, ◌≡◌, List, map}
use Rattle.std.specs.List.{AllByRecursion}
use Rattle.raft_store.specs.Types.{WorldCommand, WorldStore}
use Rattle.raft_codec.specs.Codec.{Codec, IsCodec}
use Rattle.raft_wire.specs.declared.record.Began.{Began}
use Rattle.raft_wire.specs.declared.record.Record.{Record}
use Rattle.raft_wire.specs.Records.{record_of, replayed}
use Rattle.raft_packed_node.specs.proof_packed_stores.Laws.{Brings}
use Rattle.raft_packed_node.specs.proof_packed.Nodes.{bare_command}
use Rattle.raft_packed_node.specs.proof_packed.Stores.{Application, Packed, PackedStore, packed_store}
use Rattle.raft_packed_wire.specs.Records.{PackedReplays, began_packed, named_began, named_logged, packed_change, packed_record_of, packed_replayed, record_packed}
use Rattle.raft_packed_wire.specs.Messages.{packed_packet}
use Rattle.raft_packed_wire.specs.Values.{kept}
use Rattle.raft_packed_wire.specs.declared.record.PackedRecord.{PackedRecord}

-- whatever form a machine's states have, as long as that is inverse to its writer
pub record AreReadBackOf {S : Type 0} (c : Codec S) : Type 0 where
  pub snapshots : IsCodec (kept c)
  pub began : IsCodec (named_began (kept c))
  pub changes : IsCodec (packed_change (kept c))
  pub records : IsCodec (named_logged (kept c))
  pub packets : IsCodec (packed_packet (kept c))

pub record PacksReplaysOf {S : Type 0} (app : Application S) : Type 0 where
  -- a step's record, packed, is that of its commands without data, and of what was brought
  pub steps : (moment : ℕ) (b : Began) (brought : Packed S) (commands : List WorldCommand) → AllByRecursion (Brings app brought) commands
      → record_packed app (record_of moment b commands) ≡ packed_record_of moment (began_packed app b) brought (map bare_command commands)
  -- each record, on every store
  pub records : (r : Record) (t : WorldStore) → packed_store app (replayed r t) ≡ packed_replayed app (record_packed app r) (packed_store app t)
  -- a packed record makes of each packed store what its step made of one that was the same on disk
  pub replays : (r : PackedRecord (Packed S)) (t : PackedStore S) → PackedReplays app r t (packed_replayed app r t)

abbrev pub PacksReplays : Type 0 → Type 0
PacksReplays S = (app : Application S) → PacksReplaysOf app
