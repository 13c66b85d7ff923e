-- The entries of the world's logs.
use Rattle.std.specs.Prelude.{ℕ, nat_eq, Bool, true, false, ◌&&◌, Option, None, Some}
use Rattle.std.specs.Ordering.{is_eq, nat_cmp}
use Rattle.std.specs.Cmp.Lexicographic.{pointwise}
use Rattle.raft_state.specs.Order.{log_id_cmp}
use Rattle.raft_state.specs.declared.config.RaftEntry
use Rattle.raft_state.specs.declared.membership.Members.{Members}
use Rattle.raft_steps.specs.raft_command.Equality.{membership_eq}
use Rattle.raft_store.specs.declared.entry.Entry.{Entry}
use Rattle.raft_store.specs.declared.entry.Payload.{Payload}
use Rattle.raft_store.specs.declared.entry.Payload.TheVariants as payload
use Rattle.raft_store.specs.declared.entry.Value.{Value}
use Rattle.raft_store.specs.declared.entry.Value.TheVariants.{Number, Bytes}

-- the membership that an entry holds
abbrev pub members_of : Payload → Option (Members ℕ (Unit {0}))
members_of payload.Blank = None
members_of (payload.Value v) = None
members_of (payload.Membership m) = Some m

-- the same groups, and the same nodes
abbrev pub same_members : Members ℕ (Unit {0}) → Members ℕ (Unit {0}) → Bool
same_members = membership_eq nat_eq (λ _ _. true)

-- the same number, or the same bytes
abbrev pub same_value : Value → Value → Bool
same_value (Number n) (Number m) = nat_eq n m
same_value (Bytes bs) (Bytes cs) = pointwise nat_eq bs cs
same_value _ _ = false

abbrev pub same_payload : Payload → Payload → Bool
same_payload payload.Blank payload.Blank = true
same_payload (payload.Value v) (payload.Value w) = same_value v w
same_payload (payload.Membership m) (payload.Membership n) = same_members m n
same_payload _ _ = false

-- the same id, and the same payload
abbrev pub same_entry : Entry → Entry → Bool
same_entry x y = is_eq (log_id_cmp nat_cmp x.log_id y.log_id) && same_payload x.payload y.payload

-- an entry as the engine sees it
abbrev pub entry_meaning : RaftEntry.Ghosts Entry ℕ (Unit {0})
entry_meaning = record {
  id_of = λ e. e.log_id;
  membership_of = λ e. members_of e.payload;
  blank = λ id. record { log_id = id; payload = payload.Blank };
  with_id = λ e id. record e { log_id = id };
}
