-- Memberships that the test finds the same are the same, since entries of them are.
use Rattle.std.specs.Prelude.{ℕ, true, ◌≡◌}
use Rattle.std.proofs.Common.{ap}
use Rattle.raft_state.specs.declared.membership.Members.{Members}
use Rattle.raft_store.specs.declared.entry.Entry.{Entry}
use Rattle.raft_store.specs.declared.entry.Payload.{Payload}
use Rattle.raft_store.specs.declared.entry.Payload.TheVariants.{Blank, Value, Membership}
use Rattle.raft_store.specs.Entries.{same_members}
use Rattle.raft_store.proofs.SameEntries.{entry-is}

entry_of : Members ℕ (Unit {0}) → Entry
entry_of m = record { log_id = record { leader_id = record { term = 0; node_id = 0 }; index = 0 }; payload = Membership m }

members_in : Members ℕ (Unit {0}) → Payload → Members ℕ (Unit {0})
members_in other Blank = other
members_in other (Value v) = other
members_in other (Membership m) = m

pub members_is : (m n : Members ℕ (Unit {0})) → same_members m n ≡ true → m ≡ n
unfolding entry_of members_in
members_is m n h = ap (λ e. members_in m e.payload) (entry-is (entry_of m) (entry_of n) h)
