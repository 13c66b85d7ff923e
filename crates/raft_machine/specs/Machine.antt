-- A request is run once, and answered the same each time.
use Rattle.std.specs.Prelude.{ℕ, List, [], Option, Some, None, nat_eq, nat_lt, ◌==◌, if◌then◌else◌}
use Rattle.std.specs.Map.{lookup}
use Rattle.std.specs.FinMap.{empty}
use Rattle.std.specs.Option.{option_map_or}
use Rattle.lru.specs.LruCache.{LruCache, lru_cache, put_entries}
use Rattle.raft_machine.specs.declared.command.Reply.{Reply}
use Rattle.raft_machine.specs.declared.machine.Session.{Session}
use Rattle.raft_machine.specs.declared.machine.Request.{Request}
use Rattle.raft_machine.specs.declared.machine.Outcome.{Outcome}
use Rattle.raft_machine.specs.declared.machine.Outcome.TheVariants as outcome
use Rattle.raft_machine.specs.declared.machine.Answered.{Answered}
use Rattle.raft_machine.specs.declared.machine.Machine.{Machine}
use Rattle.raft_machine.specs.Space.{Space, advanced}
use Rattle.raft_machine.specs.Commands.{run_all}

-- the keys, and each client with its last request that was run, the latest of them first
pub record State : Type 0 where
  pub space : Space
  pub sessions : LruCache ℕ Answered

abbrev pub state_of : Machine → State
state_of machine = record { space = machine.keyspace; sessions = machine.sessions }

-- no keys at the first of all moments, and no clients
abbrev pub started : ℕ → State
started clients = record { space = record { map = empty; moment = 0 }; sessions = lru_cache [] clients }

-- What a client's request is answered without being run: a repeat as it was, and one that comes after a later one by a refusal
-- (Ongaro, Consensus: Bridging Theory and Practice, 6.3).
abbrev pub known : ℕ → Option Answered → Option Outcome
known number None = None
known number (Some last) =
    if number == last.number then Some (outcome.Answered last.replies)
    else (if nat_lt number last.number then Some outcome.Outdated else None)

-- the latest of the requests that were run goes first, and the oldest goes where there are too many
abbrev pub remembered : LruCache ℕ Answered → Option Session → List Reply → LruCache ℕ Answered
remembered sessions None replies = sessions
remembered sessions (Some s) replies = lru_cache (put_entries nat_eq sessions s.id (record { number = s.number; replies = replies })) sessions.cap

abbrev pub ran : State → Request → State × Outcome
ran st request =
    let after = run_all (advanced st.space request.moment) request.commands in
    (record { space = after.0; sessions = remembered st.sessions request.session after.1 }, outcome.Answered after.1)

abbrev pub known_of : LruCache ℕ Answered → Option Session → Option Outcome
known_of sessions None = None
known_of sessions (Some s) = known s.number (lookup (nat_eq s.id) sessions.entries)

-- what is known already changes nothing
unfoldable pub apply : State → Request → State × Outcome
apply st request = option_map_or (λ o. (st, o)) (known_of st.sessions request.session) (ran st request)
