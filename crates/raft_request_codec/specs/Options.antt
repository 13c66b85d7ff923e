-- How values are set, and when keys expire, as bytes.
use Rattle.std.specs.Prelude.{ℕ, ◌==◌, List, [], ◌∷◌, Result, Ok, if◌then◌else◌}
use Rattle.raft_codec.specs.declared.error.DecodeError.{DecodeError}
use Rattle.raft_codec.specs.Codec.{Codec, ◌>>=◌, number, pair, by_parts, tag_at, unknown_tag}
use Rattle.raft_machine.specs.declared.command.Condition.{Condition}
use Rattle.raft_machine.specs.declared.command.Condition.TheVariants as conditions
use Rattle.raft_machine.specs.declared.command.ExpireCondition.{ExpireCondition}
use Rattle.raft_machine.specs.declared.command.ExpireCondition.TheVariants as expires
use Rattle.raft_machine.specs.declared.command.Expiry.{Expiry}
use Rattle.raft_machine.specs.declared.command.Expiry.TheVariants.{Never, Keep, At}
use Rattle.raft_machine.specs.declared.command.SetOptions.{SetOptions}
use Rattle.raft_machine.specs.declared.command.SetReply.{SetReply}
use Rattle.raft_machine.specs.declared.command.SetReply.TheVariants.{Status, Old, Flag}

-- whether a value is set
unfoldable pub condition : Codec Condition
condition = record { fits = fits; bytes = bytes; read = read } where
  fits : Condition → Type 0
  fits conditions.Always = Unit {0}
  fits conditions.IfAbsent = Unit {0}
  fits conditions.IfPresent = Unit {0}

  bytes : Condition → List ℕ
  bytes conditions.Always = 0 ∷ []
  bytes conditions.IfAbsent = 1 ∷ []
  bytes conditions.IfPresent = 2 ∷ []

  read : List ℕ → Result (Condition × List ℕ) DecodeError
  read front = do
    tag ← tag_at front
    if tag.0 == 0 then Ok (conditions.Always, tag.1)
        else if tag.0 == 1 then Ok (conditions.IfAbsent, tag.1)
        else if tag.0 == 2 then Ok (conditions.IfPresent, tag.1)
        else unknown_tag tag.1

-- when a value expires
unfoldable pub expiry : Codec Expiry
expiry = record { fits = fits; bytes = bytes; read = read } where
  fits : Expiry → Type 0
  fits Never = Unit {0}
  fits Keep = Unit {0}
  fits (At n) = number.fits n

  bytes : Expiry → List ℕ
  bytes Never = 0 ∷ []
  bytes Keep = 1 ∷ []
  bytes (At n) = 2 ∷ number.bytes n

  read : List ℕ → Result (Expiry × List ℕ) DecodeError
  read front = do
    tag ← tag_at front
    if tag.0 == 0 then Ok (Never, tag.1)
        else if tag.0 == 1 then Ok (Keep, tag.1)
        else if tag.0 == 2 then (number.read tag.1 >>= λ x. Ok (At x.0, x.1))
        else unknown_tag tag.1

-- what setting a value answers
unfoldable pub set_reply : Codec SetReply
set_reply = record { fits = fits; bytes = bytes; read = read } where
  fits : SetReply → Type 0
  fits Status = Unit {0}
  fits Old = Unit {0}
  fits Flag = Unit {0}

  bytes : SetReply → List ℕ
  bytes Status = 0 ∷ []
  bytes Old = 1 ∷ []
  bytes Flag = 2 ∷ []

  read : List ℕ → Result (SetReply × List ℕ) DecodeError
  read front = do
    tag ← tag_at front
    if tag.0 == 0 then Ok (Status, tag.1)
        else if tag.0 == 1 then Ok (Old, tag.1)
        else if tag.0 == 2 then Ok (Flag, tag.1)
        else unknown_tag tag.1

-- how a value is set
unfoldable pub set_options : Codec SetOptions
set_options = by_parts
    (λ o. (o.condition, (o.expiry, o.reply)))
    (λ p. record { condition = p.0; expiry = p.1.0; reply = p.1.1 })
    (pair condition (pair expiry set_reply))

-- whether a key is to expire
unfoldable pub expire_condition : Codec ExpireCondition
expire_condition = record { fits = fits; bytes = bytes; read = read } where
  fits : ExpireCondition → Type 0
  fits expires.Always = Unit {0}
  fits expires.IfPersistent = Unit {0}
  fits expires.IfVolatile = Unit {0}
  fits expires.IfLater = Unit {0}
  fits expires.IfEarlier = Unit {0}
  fits expires.IfVolatileAndEarlier = Unit {0}

  bytes : ExpireCondition → List ℕ
  bytes expires.Always = 0 ∷ []
  bytes expires.IfPersistent = 1 ∷ []
  bytes expires.IfVolatile = 2 ∷ []
  bytes expires.IfLater = 3 ∷ []
  bytes expires.IfEarlier = 4 ∷ []
  bytes expires.IfVolatileAndEarlier = 5 ∷ []

  read : List ℕ → Result (ExpireCondition × List ℕ) DecodeError
  read front = do
    tag ← tag_at front
    if tag.0 == 0 then Ok (expires.Always, tag.1)
        else if tag.0 == 1 then Ok (expires.IfPersistent, tag.1)
        else if tag.0 == 2 then Ok (expires.IfVolatile, tag.1)
        else if tag.0 == 3 then Ok (expires.IfLater, tag.1)
        else if tag.0 == 4 then Ok (expires.IfEarlier, tag.1)
        else if tag.0 == 5 then Ok (expires.IfVolatileAndEarlier, tag.1)
        else unknown_tag tag.1
