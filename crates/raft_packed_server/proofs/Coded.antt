-- Records and changes are read back, since a machine's states are.
use Rattle.std.specs.Prelude.{◌≡◌, ◌≢◌, ◌≤◌, List, [], ◌∷◌, Option, None, Some, is_some, length, refl, true}
use Rattle.std.specs.Option.{option_map, option_to_list}
use Rattle.std.proofs.Common.{arith}
use Rattle.std.proofs.lemmas.List.{length-append}
use Rattle.raft_store.specs.Types.{WorldCommand}
use Rattle.raft_codec.specs.Codec.{Codec, IsCodec}
use Rattle.raft_wire.specs.declared.record.Change.{Change}
use Rattle.raft_wire.specs.Records.{change_of}
use Rattle.proof_logs.specs.Batches.{bytes_of}
use Rattle.proof_packed.specs.Stores.{Packed}
use Rattle.raft_packed_wire.specs.Records.{packed_change_of, with_snapshot}
use Rattle.raft_packed_wire.specs.Values.{kept}
use Rattle.raft_packed_wire.proofs.RecordLaws.{named_logged_is}
use Rattle.raft_packed_wire.proofs.ValueLaws.{kept_is}
use Rattle.raft_packed_server.specs.Logs.{logged_by}

pub logged_by_is : {S : Type 0} (c : Codec S) → IsCodec c → IsCodec (logged_by c)
logged_by_is c inverse = named_logged_is (kept c) (kept_is c inverse)

-- records that are some have bytes
pub some_bytes : {R : Type 0} (c : Codec R) → IsCodec c → (records : List R) → records ≢ [] → 1 ≤ length (bytes_of c records)
some_bytes c inverse [] some = absurd (some refl)
some_bytes c inverse (r ∷ records) some = omega (arith, inverse.some r, length-append (c.bytes r) (bytes_of c records))

-- a command that makes a change makes one
mapped_there : {S : Type 0} (p : Packed S) (o : Option Change) → is_some o ≡ true → length (option_to_list (option_map (with_snapshot p) o)) ≡ 1
mapped_there p None some = cc
mapped_there p (Some x) some = refl

pub change_there : {S : Type 0} (p : Packed S) (command : WorldCommand) → is_some (change_of command) ≡ true
    → length (option_to_list (packed_change_of p command)) ≡ 1
change_there p command some = mapped_there p (change_of command) some
