-- A store as a tuple of its fields.
use Rattle.std.specs.Prelude.{◌≡◌, ℕ, List, Option, Some, None, refl}
use Rattle.std.specs.Coded.{Coded, code_by, coded×, coded_list, coded_option, coded_ℕ}
use Rattle.std.specs.FinMap.{code}
use Rattle.kv_machine.specs.declared.key_value.Stored.{Stored}
use Rattle.kv_machine.specs.declared.key_value.Event.{Event}
use Rattle.kv_machine.specs.declared.key_value.Event.TheVariants.{Put, Delete}
use Rattle.kv_machine.specs.Codes.{stored_code}
use Rattle.kv_machine.specs.History.{happened}
use Rattle.kv_machine.specs.Store.{Map, Store}

-- an event, as its key with what is stored there since
abbrev pub event_parts : Event → List ℕ × Option Stored
event_parts (Put k s) = (k, Some s)
event_parts (Delete k) = (k, None)

abbrev pub event_back : (e : Event) → happened (event_parts e).0 (event_parts e).1 ≡ e
event_back (Put k s) = refl
event_back (Delete k) = refl

abbrev pub event_code : Coded Event
event_code = code_by (List ℕ × Option Stored) (coded× (coded_list coded_ℕ) (coded_option stored_code)) event_parts (λ p. happened p.0 p.1) event_back

abbrev pub events_code : Coded (List Event)
events_code = coded_list event_code

abbrev pub store_code : Coded Store
store_code =
    code_by (Map × (Option ℕ × (List (List Event) × List Event)))
    (coded× (code (coded_list coded_ℕ) stored_code) (coded× (coded_option coded_ℕ) (coded× (coded_list events_code) events_code)))
    (λ s. (s.base, (s.compacted, (s.revisions, s.pending))))
    (λ p. record { base = p.0; compacted = p.1.0; revisions = p.1.1.0; pending = p.1.1.1 }) (λ _. refl)
