-- Why requests are refused before they are run, in etcd's order.
use Rattle.std.specs.Prelude.{ℕ, ◌+◌, ◌-◌, Bool, false, not, ◌&&◌, ◌||◌, ◌==◌, List, [], ◌∷◌, ◌++◌, length, map, Option, Some, None, nat_lt, nat_le, max, if◌then◌else◌}
use Rattle.std.specs.List.{list_any, flat_map}
use Rattle.std.specs.Option.{option_and_then, is_none}
use Rattle.std.specs.Str.{bytes_eq}
use Rattle.kv_machine.specs.declared.error.StoreError.{StoreError}
use Rattle.kv_machine.specs.declared.error.StoreError.TheVariants.{EmptyKey, ValueProvided, LeaseProvided, TooManyOps, DuplicateKey, Compacted, FutureRevision}
use Rattle.kv_machine.specs.declared.request.RangeRequest.{RangeRequest}
use Rattle.kv_machine.specs.declared.request.PutRequest.{PutRequest}
use Rattle.kv_machine.specs.declared.request.DeleteRangeRequest.{DeleteRangeRequest}
use Rattle.kv_machine.specs.declared.request.Compare.{Compare}
use Rattle.kv_machine.specs.declared.request.TxnRequest.{TxnRequest}
use Rattle.kv_machine.specs.declared.request.RequestOp.{RequestOp, Range, Put, DeleteRange, Txn', Row_of-RequestOp, end_of-RequestOp, more_of-RequestOp}
use Rattle.kv_machine.specs.Store.{Key, Store, current}
use Rattle.kv_machine.specs.Ranges.{is_between}

-- the first whose condition holds is the answer
abbrev pub Refusals : Type 0
Refusals = List (Bool × StoreError)

abbrev pub first_refusal : Refusals → Option StoreError
first_refusal [] = None
first_refusal (r ∷ rs) = if r.0 then Some r.1 else first_refusal rs

abbrev pub is_empty : List ℕ → Bool
is_empty bytes = length bytes == 0

abbrev pub refusals_of_range : RangeRequest → Refusals
refusals_of_range r = (is_empty r.key, EmptyKey) ∷ []

abbrev pub refusals_of_put : PutRequest → Refusals
refusals_of_put p =
    (is_empty p.key, EmptyKey) ∷ (p.ignore_value && not (is_empty p.value), ValueProvided)
    ∷ (p.ignore_lease && not (p.lease == 0), LeaseProvided) ∷ []

abbrev pub refusals_of_delete_range : DeleteRangeRequest → Refusals
refusals_of_delete_range d = (is_empty d.key, EmptyKey) ∷ []

-- of a revision that is asked for; 0 asks for the current one
abbrev pub is_compacted : Option ℕ → ℕ → Bool
is_compacted None r = false
is_compacted (Some c) r = nat_lt r c

abbrev pub refusals_of_revision : Store → ℕ → Refusals
refusals_of_revision s r = (nat_lt (current s) r, FutureRevision) ∷ (not (r == 0) && is_compacted s.compacted r, Compacted) ∷ []

-- one at or below the compacted is compacted already
abbrev pub is_done : Option ℕ → ℕ → Bool
is_done None r = false
is_done (Some c) r = nat_le r c

abbrev pub refusals_of_compact : Store → ℕ → Refusals
refusals_of_compact s r = (is_done s.compacted r, Compacted) ∷ (nat_lt (current s) r, FutureRevision) ∷ []

-- ---- operations of a transaction

abbrev pub most_ops : ℕ
most_ops = 128

abbrev pub row_length : {n : _} → Row_of-RequestOp n → ℕ
row_length end_of-RequestOp = 0
row_length (more_of-RequestOp op rest) = row_length rest + 1

abbrev pub refusals_of_compares : List Compare → Refusals
refusals_of_compares cs = map (λ c. (is_empty c.key, EmptyKey)) cs

abbrev pub larger : ℕ → ℕ → ℕ → ℕ
larger a b c = max a (max b c)

-- A transaction counts as many operations as the longest of its lists; those within it have the rest (etcd, checkTxnRequest).
abbrev mutual
  pub refusals_of_op : ℕ → RequestOp → Refusals
  refusals_of_op most (Range r) = refusals_of_range r
  refusals_of_op most (Put p) = refusals_of_put p
  refusals_of_op most (DeleteRange d) = refusals_of_delete_range d
  refusals_of_op most (Txn' compares n success m failure) =
      let count = larger (length compares) (row_length success) (row_length failure) in
      (nat_lt most count, TooManyOps) ∷ refusals_of_compares compares ++ refusals_of_row (most - count) success ++ refusals_of_row (most - count) failure

  pub refusals_of_row : ℕ → {n : _} → Row_of-RequestOp n → Refusals
  refusals_of_row most end_of-RequestOp = []
  refusals_of_row most (more_of-RequestOp op rest) = refusals_of_op most op ++ refusals_of_row most rest

abbrev pub refusals_of_ops : ℕ → List RequestOp → Refusals
refusals_of_ops most ops = flat_map (refusals_of_op most) ops

abbrev pub refusals_of_txn : TxnRequest → Refusals
refusals_of_txn t =
    let count = larger (length t.compare) (length t.success.items) (length t.failure.items) in
    (nat_lt most_ops count, TooManyOps) ∷ refusals_of_compares t.compare
    ++ refusals_of_ops (most_ops - count) t.success.items ++ refusals_of_ops (most_ops - count) t.failure.items

-- ---- what its operations put and delete

-- the keys that are put, and the ranges that are deleted
pub record Claims : Type 0 where
  pub puts : List Key
  pub deleted : List (Key × List ℕ)

-- An end of one zero byte is no end of all keys here, but one before each key (etcd, checkIntervals).
abbrev pub is_deleted : Key → Key × List ℕ → Bool
is_deleted k range = is_between range.0 range.1 k

abbrev pub is_claimed : Claims → Key → Bool
is_claimed c k = list_any (bytes_eq k) c.puts || list_any (is_deleted k) c.deleted

abbrev pub joined : Claims → Claims → Claims
joined c d = record { puts = c.puts ++ d.puts; deleted = c.deleted ++ d.deleted }

-- what an operation does: nothing, a put, a delete, or what a transaction does in each case, unless that one is refused
pub data Part : Type 0 where
  Reads : Part
  Puts : Key → Part
  Deletes : Key → List ℕ → Part
  Within : Option Claims → Option Claims → Part

abbrev pub deleted_by : Part → List (Key × List ℕ)
deleted_by Reads = []
deleted_by (Puts k) = []
deleted_by (Deletes key range_end) = (key, range_end) ∷ []
deleted_by (Within t e) = []

-- a transaction puts no key that is claimed before it
abbrev pub claimed_within : Claims → Option Claims → Option Claims → Option Claims
claimed_within c None e = None
claimed_within c (Some t) None = None
claimed_within c (Some t) (Some e) = if list_any (is_claimed c) (t.puts ++ e.puts) then None else Some (joined c (joined t e))

abbrev pub claimed_put : Claims → Key → Option Claims
claimed_put c k = if is_claimed c k then None else Some (record { puts = c.puts ++ k ∷ []; deleted = c.deleted })

abbrev pub claim_within : Claims → List Part → Option Claims
claim_within c [] = Some c
claim_within c (Reads ∷ ps) = claim_within c ps
claim_within c (Puts k ∷ ps) = claim_within c ps
claim_within c (Deletes key range_end ∷ ps) = claim_within c ps
claim_within c (Within t e ∷ ps) = option_and_then (λ d. claim_within d ps) (claimed_within c t e)

abbrev pub claim_puts : Claims → List Part → Option Claims
claim_puts c [] = Some c
claim_puts c (Reads ∷ ps) = claim_puts c ps
claim_puts c (Puts k ∷ ps) = option_and_then (λ d. claim_puts d ps) (claimed_put c k)
claim_puts c (Deletes key range_end ∷ ps) = claim_puts c ps
claim_puts c (Within t e ∷ ps) = claim_puts c ps

-- First the deletes, then transactions in their order, and then the puts: none puts what is claimed by those before (etcd, checkIntervals).
abbrev pub claims_of : List Part → Option Claims
claims_of ps = option_and_then (λ c. claim_puts c ps) (claim_within (record { puts = []; deleted = flat_map deleted_by ps }) ps)

abbrev mutual
  pub part_of : RequestOp → Part
  part_of (Range r) = Reads
  part_of (Put p) = Puts p.key
  part_of (DeleteRange d) = Deletes d.key d.range_end
  part_of (Txn' compares n success m failure) = Within (claims_of (parts_of success)) (claims_of (parts_of failure))

  pub parts_of : {n : _} → Row_of-RequestOp n → List Part
  parts_of end_of-RequestOp = []
  parts_of (more_of-RequestOp op rest) = part_of op ∷ parts_of rest

abbrev pub is_claimed_twice : List RequestOp → Bool
is_claimed_twice ops = is_none (claims_of (map part_of ops))

abbrev pub refusals_of_claims : TxnRequest → Refusals
refusals_of_claims t = (is_claimed_twice t.success.items, DuplicateKey) ∷ (is_claimed_twice t.failure.items, DuplicateKey) ∷ []
