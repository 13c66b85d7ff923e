-- Leases (etcd's API: LeaseGrantRequest and those beside it). Their deadlines are moments that requests tell.
use Rattle.std.specs.Prelude.{ℕ, ◌+◌, ◌-◌, ◌*◌, ◌/◌, Bool, not, ◌==◌, List, [], ◌∷◌, map, filter, Option, Some, None, option_map, nat_lt, nat_le, max, min, if◌then◌else◌, ◌^◌}
use Rattle.std.specs.Ordering.{nat_cmp}
use Rattle.std.specs.FinMap as table
use Rattle.std.specs.FinMap.{FinMap}
use Rattle.kv_machine.specs.declared.key_value.KeyValue.{KeyValue}
use Rattle.kv_machine.specs.declared.key_value.Lease.{Lease}
use Rattle.kv_machine.specs.declared.error.StoreError.TheVariants.{LeaseNotFound, LeaseExists, LeaseTtlTooLarge}
use Rattle.kv_machine.specs.declared.answer.LeaseStatus.{LeaseStatus}
use Rattle.kv_machine.specs.Store.{Map, Store, keys, with, closed}
use Rattle.kv_machine.specs.Ranges.{key_value}
use Rattle.kv_machine.specs.Writes.{deletes}
use Rattle.kv_machine.specs.Checks.{Refusals}

-- the leases by their ids
abbrev pub Leases : Type 0
Leases = FinMap nat_cmp Lease

-- the keys, the leases, and the moment, in milliseconds since the Unix epoch
pub record State : Type 0 where
  pub store : Store
  pub leases : Leases
  pub moment : ℕ

abbrev pub is_lease : Leases → ℕ → Bool
is_lease leases id = table.contains_key leases id

-- the keys that are attached to a lease, ascending
abbrev pub attached : Map → ℕ → List KeyValue
attached m id = filter (λ kv. kv.stored.lease == id) (map key_value (table.entries m))

-- a lease's keys are deleted in one revision, and it is none any more
unfoldable pub revoked : State → ℕ → State
revoked st id = record {
  store = closed (with st.store (deletes (attached (keys st.store) id)));
  leases = table.remove st.leases id;
  moment = st.moment;
}

abbrev pub revoked_all : State → List ℕ → State
revoked_all st [] = st
revoked_all st (id ∷ ids) = revoked_all (revoked st id) ids

-- the ids of the leases that have expired, ascending
abbrev pub expired : ℕ → Leases → List ℕ
expired moment leases = map (λ e. e.0) (filter (λ e. nat_le e.1.deadline moment) (table.entries leases))

-- The moment goes on, and never back. Leases that have expired then are revoked, one after the other.
unfoldable pub advanced : State → ℕ → State
advanced st moment =
    let now = max st.moment moment in
    revoked_all (record { store = st.store; leases = st.leases; moment = now }) (expired now st.leases)

-- ---- grants

-- the fewest seconds that are granted (with etcd's election timeout of a second), and the most
abbrev pub least_ttl : ℕ
least_ttl = 2

abbrev pub most_ttl : ℕ
most_ttl = 9000000000

abbrev pub last_moment : ℕ
last_moment = 2 ^ 64 - 1

abbrev pub lasting : ℕ → ℕ → Lease
lasting moment ttl = record { ttl = ttl; deadline = min (moment + 1000 * ttl) last_moment }

abbrev pub refusals_of_grant : Leases → ℕ → ℕ → Refusals
refusals_of_grant leases id ttl =
    (id == 0, LeaseNotFound) ∷ (nat_lt most_ttl ttl, LeaseTtlTooLarge) ∷ (is_lease leases id, LeaseExists) ∷ []

abbrev pub with_lease : State → ℕ → Lease → State
with_lease st id lease = record { store = st.store; leases = table.insert st.leases id lease; moment = st.moment }

abbrev pub granted : State → ℕ → ℕ → State × ℕ
granted st id ttl = let given = max least_ttl ttl in (with_lease st id (lasting st.moment given), given)

abbrev pub refusals_of_revoke : Leases → ℕ → Refusals
refusals_of_revoke leases id = (not (is_lease leases id), LeaseNotFound) ∷ []

-- from now on the lease lasts as long as it was granted
abbrev pub kept_alive : State → ℕ → Option Lease → State × ℕ
kept_alive st id None = (st, 0)
kept_alive st id (Some lease) = (with_lease st id (lasting st.moment lease.ttl), lease.ttl)

abbrev pub status : State → Bool → ℕ → Option LeaseStatus
status st with_keys id = option_map (λ l. record {
  ttl = (l.deadline - st.moment) / 1000;
  granted_ttl = l.ttl;
  keys = if with_keys then map (λ kv. kv.key) (attached (keys st.store) id) else [];
}) (table.get st.leases id)
