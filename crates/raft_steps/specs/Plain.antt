-- The membership of an entry of a plain application.
use Rattle.std.specs.Prelude.{ℕ, Option, None, Some}
use Rattle.raft_state.specs.declared.membership.Members.{Members}
use Rattle.raft_steps.specs.declared.plain.Payload.{Payload}
use Rattle.raft_steps.specs.declared.plain.Payload.TheVariants.{Blank, Value, Membership}

-- the membership that a payload holds
abbrev pub members : Payload → Option (Members ℕ (Unit {0}))
members Blank = None
members (Value v) = None
members (Membership m) = Some m
