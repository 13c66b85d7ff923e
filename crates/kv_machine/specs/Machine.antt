-- What a request does and answers.
use Rattle.std.specs.Prelude.{List, [], ◌∷◌, ◌++◌, Option, Some, None, Ok, Err}
use Rattle.std.specs.FinMap as map
use Rattle.kv_machine.specs.declared.error.StoreError.{StoreError}
use Rattle.kv_machine.specs.declared.request.Operation.{Operation}
use Rattle.kv_machine.specs.declared.request.Operation.TheVariants.{Range, Put, DeleteRange, Txn, Compact, LeaseGrant, LeaseRevoke, LeaseKeepAlive, LeaseTimeToLive, LeaseLeases}
use Rattle.kv_machine.specs.declared.request.Request.{Request}
use Rattle.kv_machine.specs.declared.answer.Answer.{Answer}
use Rattle.kv_machine.specs.declared.answer.Response.{Response}
use Rattle.kv_machine.specs.declared.answer.Response.TheVariants as response
use Rattle.kv_machine.specs.Store.{Store, empty, keys, current, closed, compact}
use Rattle.kv_machine.specs.Writes.{put, delete_range, range_of}
use Rattle.kv_machine.specs.Checks.{Refusals, first_refusal, refusals_of_range, refusals_of_put, refusals_of_delete_range, refusals_of_revision, refusals_of_compact, refusals_of_txn, refusals_of_claims}
use Rattle.kv_machine.specs.Txns.{txn, refusals_of_run, refusals_of_kept, refusals_of_lease}
use Rattle.kv_machine.specs.Leases.{State, advanced, granted, revoked, kept_alive, status, is_lease, refusals_of_grant, refusals_of_revoke}

-- no keys and no leases, at the first of all moments
abbrev pub started : State
started = record { store = empty; leases = map.empty; moment = 0 }

-- why a request is refused, the first reason that holds
abbrev pub refusals : State → Operation → Refusals
refusals st (Range r) = refusals_of_range r ++ refusals_of_revision st.store r.revision
refusals st (Put p) = refusals_of_put p ++ refusals_of_lease (is_lease st.leases) p.lease ++ refusals_of_kept (keys st.store) p
refusals st (DeleteRange d) = refusals_of_delete_range d
refusals st (Txn t) = refusals_of_txn t ++ refusals_of_claims t ++ refusals_of_run (is_lease st.leases) st.store t
refusals st (Compact r) = refusals_of_compact st.store r
refusals st (LeaseGrant id ttl) = refusals_of_grant st.leases id ttl
refusals st (LeaseRevoke id) = refusals_of_revoke st.leases id
refusals st (LeaseKeepAlive id) = []
refusals st (LeaseTimeToLive id with_keys) = []
refusals st LeaseLeases = []

-- what happens to the keys is one revision, or none
abbrev pub with_store : State → Store → State
with_store st s = record { store = closed s; leases = st.leases; moment = st.moment }

-- what one does that isn't refused, and its responses
abbrev pub performed : State → Operation → State × List Response
performed st (Range r) = (st, response.Range (range_of st.store r) ∷ [])
performed st (Put p) = let after = put st.store p in (with_store st after.0, response.Put (current (closed after.0)) after.1 ∷ [])
performed st (DeleteRange d) = let after = delete_range st.store d in (with_store st after.0, response.DeleteRange after.1 ∷ [])
performed st (Txn t) = let after = txn st.store t in (with_store st after.0, after.1)
performed st (Compact r) = (with_store st (compact st.store r), response.Compacted ∷ [])
performed st (LeaseGrant id ttl) = let after = granted st id ttl in (after.0, response.Granted after.1 ∷ [])
performed st (LeaseRevoke id) = (revoked st id, response.Revoked ∷ [])
performed st (LeaseKeepAlive id) = let after = kept_alive st id (map.get st.leases id) in (after.0, response.KeptAlive after.1 ∷ [])
performed st (LeaseTimeToLive id with_keys) = (st, response.TimeToLive (status st with_keys id) ∷ [])
performed st LeaseLeases = (st, response.Leases (map.keys st.leases) ∷ [])

abbrev pub answered : State × List Response → State × Answer
answered after = (after.0, record { revision = current after.0.store; result = Ok after.1 })

-- one that is refused changes nothing
abbrev pub decided : State → Operation → Option StoreError → State × Answer
decided st op (Some e) = (st, record { revision = current st.store; result = Err e })
decided st op None = answered (performed st op)

-- First what has expired is gone, then the request is refused or done.
unfoldable pub apply : State → Request → State × Answer
apply st r =
    let now = advanced st r.moment in
    decided now r.operation (first_refusal (refusals now r.operation))
