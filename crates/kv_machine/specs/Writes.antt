-- Puts and deletes (etcd's API: PutRequest, DeleteRangeRequest).
use Rattle.std.specs.Prelude.{ℕ, ◌+◌, ◌==◌, Bool, true, false, List, [], ◌∷◌, length, map, Option, Some, None, option_map, unwrap_or, if◌then◌else◌}
use Rattle.std.specs.FinMap as keys
use Rattle.kv_machine.specs.declared.key_value.Stored.{Stored}
use Rattle.kv_machine.specs.declared.key_value.KeyValue.{KeyValue}
use Rattle.kv_machine.specs.declared.key_value.Event.{Event}
use Rattle.kv_machine.specs.declared.key_value.Event.TheVariants.{Put, Delete}
use Rattle.kv_machine.specs.declared.request.PutRequest.{PutRequest}
use Rattle.kv_machine.specs.declared.request.RangeRequest.{RangeRequest}
use Rattle.kv_machine.specs.declared.request.DeleteRangeRequest.{DeleteRangeRequest}
use Rattle.kv_machine.specs.declared.answer.DeleteRangeResponse.{DeleteRangeResponse}
use Rattle.kv_machine.specs.declared.answer.RangeResponse.{RangeResponse}
use Rattle.kv_machine.specs.Store.{Key, Map, Store, keys, keys_at, with, next, header}
use Rattle.kv_machine.specs.Ranges.{found, range}

-- A key that doesn't exist is created; each further put is a version more (etcd, Data model).
abbrev pub put_on : Option Stored → ℕ → List ℕ → ℕ → Stored
put_on None revision value lease = record { create_revision = revision; mod_revision = revision; version = 1; lease = lease; value = value }
put_on (Some old) revision value lease =
    record { create_revision = old.create_revision; mod_revision = revision; version = old.version + 1; lease = lease; value = value }

-- what is ignored stays
abbrev pub value_by : Bool → List ℕ → Option Stored → List ℕ
value_by false value old = value
value_by true value old = unwrap_or (option_map (λ s. s.value) old) []

abbrev pub lease_by : Bool → ℕ → Option Stored → ℕ
lease_by false lease old = lease
lease_by true lease old = unwrap_or (option_map (λ s. s.lease) old) 0

-- what a put stores
abbrev pub stored_by : PutRequest → ℕ → Option Stored → Stored
stored_by p revision old = put_on old revision (value_by p.ignore_value p.value old) (lease_by p.ignore_lease p.lease old)

abbrev pub prev_kv : Bool → Key → Option Stored → Option KeyValue
prev_kv false k old = None
prev_kv true k old = option_map (λ s. record { key = k; stored = s }) old

unfoldable pub put : Store → PutRequest → Store × Option KeyValue
put s p =
    let old = keys.get (keys s) p.key in
    (with s (Put p.key (stored_by p (next s) old) ∷ []), prev_kv p.prev_kv p.key old)

abbrev pub deletes : List KeyValue → List Event
deletes kvs = map (λ kv. Delete kv.key) kvs

unfoldable pub delete_range : Store → DeleteRangeRequest → Store × DeleteRangeResponse
delete_range s d =
    let kvs = found (keys s) d.key d.range_end in
    let after = with s (deletes kvs) in
    (after, record { revision = header after; deleted = length kvs; prev_kvs = if d.prev_kv then kvs else [] })

-- the keys that a range sees: those of its revision, or of now
abbrev pub seen : Store → ℕ → Map
seen s r = if r == 0 then keys s else keys_at s r

abbrev pub range_of : Store → RangeRequest → RangeResponse
range_of s r = range (seen s r.revision) (header s) r
