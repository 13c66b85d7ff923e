-- The key-value service as a state machine (Raft paper, section 2).
use Rattle.std.specs.Prelude.{ℕ, List, Option, Some, None, Result, Ok, Err, refl}
use Rattle.std.specs.Coded.{Coded, code_by, coded×, coded_ℕ}
use Rattle.std.specs.declared.alloc.Global.{Global}
use Rattle.std.specs.declared.rc.Rc.{Rc}
use Rattle.lru.specs.LruCache.{LruCache, lru_cache_code}
use Rattle.raft_codec.specs.Codec.{whole_at}
use Rattle.raft_codec.specs.declared.error.DecodeError.{DecodeError}
use Rattle.raft_machine.specs.Machine.{State, apply, started, state_of}
use Rattle.raft_machine.specs.Space.{Space, space_code}
use Rattle.raft_machine.specs.contracts.machine.Answered as answered
use Rattle.raft_machine.specs.declared.machine.Answered.{Answered}
use Rattle.raft_machine.specs.declared.machine.Machine.{Machine}
use Rattle.raft_machine.specs.declared.machine.Outcome.{Outcome}
use Rattle.raft_machine.specs.declared.machine.Request.{Request}
use Rattle.raft_request_codec.specs.Requests.{request}
use Rattle.raft_store.specs.declared.entry.Payload.{Payload}
use Rattle.raft_store.specs.declared.entry.Payload.TheVariants.{Blank, Value, Membership}
use Rattle.raft_store.specs.declared.entry.Value.TheVariants.{Number, Bytes}
use Rattle.raft_machine.specs.declared.place.Place as machine
use Rattle.raft_machine.specs.declared.place.Place.TheVariants as places
use Rattle.raft_packed.specs.declared.place.Place.{Place}
use Rattle.raft_packed.specs.declared.place.Place.TheVariants.{Front, Item, Count, End}
use Rattle.raft_packed.specs.proof_packed_stores.Stores.{Application}
use Rattle.raft_executor.specs.declared.key_value.TheConstants.{SESSIONS}

-- the request that an entry holds, if it holds one
abbrev pub found : Result Request DecodeError → Option Request
found (Ok r) = Some r
found (Err e) = None

abbrev pub request_at : List ℕ → Option Request
request_at bytes = found (whole_at request bytes)

abbrev pub request_in : Payload → Option Request
request_in (Value (Bytes bytes)) = request_at bytes
request_in (Value (Number n)) = None
request_in Blank = None
request_in (Membership m) = None

-- it is run, and anything else does nothing
abbrev pub ran : State → Option Request → State × Option Outcome
ran st None = (st, None)
ran st (Some r) = let after = apply st r in (after.0, Some after.1)

-- before the first entry nothing is stored, and nobody was answered; an entry's request is run
abbrev pub application : Application State
application = record { first = started SESSIONS; apply = λ st e. (ran st (request_in e.payload)).0 }

-- as the pair of its parts
abbrev pub state_code : Coded State
state_code =
    code_by (Space × LruCache ℕ Answered) (coded× space_code (lru_cache_code coded_ℕ answered.the_row.coded)) (λ s. (s.space, s.sessions))
    (λ p. record { space = p.0; sessions = p.1 }) (λ _. refl)

-- no machine is made before the first request
abbrev pub state_in : Option (Rc Machine Global) → State
state_in None = started SESSIONS
state_in (Some shared) = state_of shared.value

-- a place of a state, by the machine's names
abbrev pub place_in : Place → machine.Place
place_in Front = places.Front
place_in (Item key) = places.From key
place_in (Count n) = places.Sessions n
place_in End = places.End
