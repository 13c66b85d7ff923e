-- Inputs as numbers and bytes.
use Rattle.std.specs.Prelude.{ℕ, ◌≡◌, List}
use Rattle.service_host.specs.declared.inputs.Input.{Input}
use Rattle.service_host.specs.declared.inputs.Input.TheVariants.{BeginLog, Idle, LogPiece, Settings, Open, Peer, Tick, Connect, Client}
use Rattle.service_host.specs.declared.inputs.Input.TheVariants.{Disconnect, Write, Flushed, Initialize, Members, Status, TakeOver, GiveUpLog}

-- what the input of a number is made of; the time and the members are read from the bytes
abbrev pub IsInput : ℕ → ℕ → ℕ → List ℕ → Input → Type 0
IsInput number first second bytes (Settings given) = (number ≡ 1) × (given.now ≡ bytes)
IsInput number first second bytes (Open log) = (number ≡ 2) × (log.now ≡ bytes)
IsInput number first second bytes (Peer frame) = (number ≡ 3) × (frame.now ≡ bytes)
IsInput number first second bytes (Tick elapsed random now) = (number ≡ 4) × (elapsed ≡ first) × (random ≡ second)
IsInput number first second bytes (Connect client) = (number ≡ 5) × (client ≡ first)
IsInput number first second bytes (Client client sent) = (number ≡ 6) × (client ≡ first) × (sent.now ≡ bytes)
IsInput number first second bytes (Disconnect client) = (number ≡ 7) × (client ≡ first)
IsInput number first second bytes Write = number ≡ 8
IsInput number first second bytes (Flushed position) = (number ≡ 9) × (position ≡ first)
IsInput number first second bytes Initialize = number ≡ 10
IsInput number first second bytes (Members voters learners) = number ≡ 11
IsInput number first second bytes Status = number ≡ 12
IsInput number first second bytes BeginLog = number ≡ 13
IsInput number first second bytes Idle = number ≡ 14
IsInput number first second bytes TakeOver = number ≡ 15
IsInput number first second bytes GiveUpLog = number ≡ 16
IsInput number first second bytes LogPiece = number ≡ 17
