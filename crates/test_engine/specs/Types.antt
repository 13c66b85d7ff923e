-- What an entry of a plain application means.
use Rattle.std.specs.Prelude.{ℕ, Option, None, Some}
use Rattle.raft_state.specs.declared.membership.Members.{Members}
use Rattle.test_engine.specs.declared.types.Payload.{Payload}
use Rattle.test_engine.specs.declared.types.Payload.TheVariants.{Blank, Value, Membership}

-- the membership that a payload holds
abbrev pub members : Payload → Option (Members ℕ ℕ)
members Blank = None
members (Value v) = None
members (Membership m) = Some m
