-- Transactions (etcd's API: TxnRequest, Compare). All comparisons are of the keys before; then its operations run one after the other.
use Rattle.std.specs.Prelude.{ℕ, Bool, true, false, not, ◌&&◌, ◌||◌, ◌==◌, List, [], ◌∷◌, ◌++◌, length, if◌then◌else◌}
use Rattle.std.specs.List.{list_all, flat_map}
use Rattle.std.specs.Ordering.{nat_cmp, is_lt, is_eq, is_gt}
use Rattle.std.specs.declared.cmp.Ordering.{Ordering}
use Rattle.std.specs.Cmp.Lexicographic.{slice_cmp}
use Rattle.std.specs.FinMap as keys
use Rattle.kv_machine.specs.declared.key_value.Stored.{Stored}
use Rattle.kv_machine.specs.declared.key_value.KeyValue.{KeyValue}
use Rattle.kv_machine.specs.declared.error.StoreError.TheVariants.{KeyNotFound, LeaseNotFound}
use Rattle.kv_machine.specs.declared.request.PutRequest.{PutRequest}
use Rattle.kv_machine.specs.declared.request.Compare.{Compare}
use Rattle.kv_machine.specs.declared.request.CompareResult.{CompareResult}
use Rattle.kv_machine.specs.declared.request.CompareResult.TheVariants.{Equal, Greater, Less, NotEqual}
use Rattle.kv_machine.specs.declared.request.CompareTarget.{CompareTarget}
use Rattle.kv_machine.specs.declared.request.CompareTarget.TheVariants.{Version, Create, Mod, Value, Lease}
use Rattle.kv_machine.specs.declared.request.TxnRequest.{TxnRequest}
use Rattle.kv_machine.specs.declared.request.RequestOp.{RequestOp, Range, Put, DeleteRange, Txn', Row_of-RequestOp, end_of-RequestOp, more_of-RequestOp}
use Rattle.kv_machine.specs.declared.answer.Response.{Response}
use Rattle.kv_machine.specs.declared.answer.Response.TheVariants as response
use Rattle.kv_machine.specs.Store.{Map, Store, keys as keys_of, header}
use Rattle.kv_machine.specs.Ranges.{found}
use Rattle.kv_machine.specs.Writes.{put, delete_range, range_of}
use Rattle.kv_machine.specs.Checks.{Refusals, refusals_of_revision}

-- ---- comparisons

abbrev pub is_result : CompareResult → Ordering → Bool
is_result Equal o = is_eq o
is_result Greater o = is_gt o
is_result Less o = is_lt o
is_result NotEqual o = not (is_eq o)

abbrev pub against : CompareTarget → Stored → Ordering
against (Version n) s = nat_cmp s.version n
against (Create n) s = nat_cmp s.create_revision n
against (Mod n) s = nat_cmp s.mod_revision n
against (Value bytes) s = slice_cmp nat_cmp s.value bytes
against (Lease n) s = nat_cmp s.lease n

-- a key that doesn't exist compares as 0, and no value does
abbrev pub nothing : Stored
nothing = record { create_revision = 0; mod_revision = 0; version = 0; lease = 0; value = [] }

abbrev pub holds_of_none : CompareTarget → CompareResult → Bool
holds_of_none (Version n) r = is_result r (nat_cmp 0 n)
holds_of_none (Create n) r = is_result r (nat_cmp 0 n)
holds_of_none (Mod n) r = is_result r (nat_cmp 0 n)
holds_of_none (Value bytes) r = false
holds_of_none (Lease n) r = is_result r (nat_cmp 0 n)

abbrev pub holds_of : Compare → List KeyValue → Bool
holds_of c [] = holds_of_none c.target c.result
holds_of c (kv ∷ kvs) = list_all (λ x. is_result c.result (against c.target x.stored)) (kv ∷ kvs)

abbrev pub holds : Map → Compare → Bool
holds m c = holds_of c (found m c.key c.range_end)

abbrev pub succeeds : Map → List Compare → Bool
succeeds m cs = list_all (holds m) cs

-- ---- refusals of the operations that are to run

abbrev pub refusals_of_kept : Map → PutRequest → Refusals
refusals_of_kept m p = ((p.ignore_value || p.ignore_lease) && not (keys.contains_key m p.key), KeyNotFound) ∷ []

-- whether there are such leases is asked of their ids
abbrev pub refusals_of_lease : (ℕ → Bool) → ℕ → Refusals
refusals_of_lease is_lease lease = (not (lease == 0) && not (is_lease lease), LeaseNotFound) ∷ []

abbrev mutual
  pub refusals_of_puts : (ℕ → Bool) → Map → RequestOp → Refusals
  refusals_of_puts is_lease m (Range r) = []
  refusals_of_puts is_lease m (Put p) = refusals_of_kept m p ++ refusals_of_lease is_lease p.lease
  refusals_of_puts is_lease m (DeleteRange d) = []
  refusals_of_puts is_lease m (Txn' compares n success k failure) =
      if succeeds m compares then refusals_of_puts_in is_lease m success else refusals_of_puts_in is_lease m failure

  pub refusals_of_puts_in : (ℕ → Bool) → Map → {n : _} → Row_of-RequestOp n → Refusals
  refusals_of_puts_in is_lease m end_of-RequestOp = []
  refusals_of_puts_in is_lease m (more_of-RequestOp op rest) = refusals_of_puts is_lease m op ++ refusals_of_puts_in is_lease m rest

abbrev mutual
  pub refusals_of_ranges : Store → RequestOp → Refusals
  refusals_of_ranges s (Range r) = refusals_of_revision s r.revision
  refusals_of_ranges s (Put p) = []
  refusals_of_ranges s (DeleteRange d) = []
  refusals_of_ranges s (Txn' compares n success k failure) =
      if succeeds (keys_of s) compares then refusals_of_ranges_in s success else refusals_of_ranges_in s failure

  pub refusals_of_ranges_in : Store → {n : _} → Row_of-RequestOp n → Refusals
  refusals_of_ranges_in s end_of-RequestOp = []
  refusals_of_ranges_in s (more_of-RequestOp op rest) = refusals_of_ranges s op ++ refusals_of_ranges_in s rest

-- those of the operations that are to run: first each put's, then each range's (etcd, checkRequests)
abbrev pub to_run : Map → TxnRequest → List RequestOp
to_run m t = if succeeds m t.compare then t.success.items else t.failure.items

abbrev pub refusals_of_run : (ℕ → Bool) → Store → TxnRequest → Refusals
refusals_of_run is_lease s t =
    let ops = to_run (keys_of s) t in
    flat_map (refusals_of_puts is_lease (keys_of s)) ops ++ flat_map (refusals_of_ranges s) ops

-- ---- running

abbrev pub within : Bool → Store × List (List Response) → Store × List Response
within succeeded ran = (ran.0, response.Txn succeeded (length ran.1) ∷ flat_map (λ r. r) ran.1)

-- what an operation does, and its responses: its own, behind which those within stand
abbrev mutual
  pub run : Map → Store → RequestOp → Store × List Response
  run before s (Range r) = (s, response.Range (range_of s r) ∷ [])
  run before s (Put p) = let after = put s p in (after.0, response.Put (header after.0) after.1 ∷ [])
  run before s (DeleteRange d) = let after = delete_range s d in (after.0, response.DeleteRange after.1 ∷ [])
  run before s (Txn' compares n success k failure) =
      if succeeds before compares then within true (run_row before s success) else within false (run_row before s failure)

  pub run_row : Map → Store → {n : _} → Row_of-RequestOp n → Store × List (List Response)
  run_row before s end_of-RequestOp = (s, [])
  run_row before s (more_of-RequestOp op rest) =
      let first = run before s op in
      let after = run_row before first.0 rest in
      (after.0, first.1 ∷ after.1)

abbrev pub run_ops : Map → Store → List RequestOp → Store × List (List Response)
run_ops before s [] = (s, [])
run_ops before s (op ∷ ops) =
    let first = run before s op in
    let after = run_ops before first.0 ops in
    (after.0, first.1 ∷ after.1)

-- a transaction that isn't refused
unfoldable pub txn : Store → TxnRequest → Store × List Response
txn s t = let before = keys_of s in within (succeeds before t.compare) (run_ops before s (to_run before t))
