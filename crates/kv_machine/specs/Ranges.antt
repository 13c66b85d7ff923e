-- Ranges of keys (etcd's API: RangeRequest, RangeResponse).
use Rattle.std.specs.Prelude.{ℕ, ◌+◌, Bool, true, false, not, ◌&&◌, ◌||◌, ◌==◌, List, [], ◌∷◌, length, map, filter, take, nat_le, nat_lt, if◌then◌else◌}
use Rattle.std.specs.Ordering.{nat_cmp, is_lt, is_le, is_gt}
use Rattle.std.specs.declared.cmp.Ordering.{Ordering}
use Rattle.std.specs.Cmp.Lexicographic.{slice_cmp}
use Rattle.std.specs.Str.{bytes_eq}
use Rattle.std.specs.FinMap as keys
use Rattle.kv_machine.specs.declared.key_value.Stored.{Stored}
use Rattle.kv_machine.specs.declared.key_value.KeyValue.{KeyValue}
use Rattle.kv_machine.specs.declared.request.RangeRequest.{RangeRequest}
use Rattle.kv_machine.specs.declared.request.SortOrder.{SortOrder}
use Rattle.kv_machine.specs.declared.request.SortOrder.TheVariants as order
use Rattle.kv_machine.specs.declared.request.SortTarget.{SortTarget}
use Rattle.kv_machine.specs.declared.request.SortTarget.TheVariants as target
use Rattle.kv_machine.specs.declared.answer.RangeResponse.{RangeResponse}
use Rattle.kv_machine.specs.Store.{Key, Map}

abbrev pub is_key_le : Key → Key → Bool
is_key_le a b = is_le (slice_cmp nat_cmp a b)

-- the end of all keys from one on: a zero byte
abbrev pub is_endless : List ℕ → Bool
is_endless range_end = bytes_eq range_end (0 ∷ [])

-- whether a key is the first key, or from it on and before the end
abbrev pub is_between : Key → List ℕ → Key → Bool
is_between key [] k = bytes_eq k key
is_between key (b ∷ bs) k = is_key_le key k && not (is_key_le (b ∷ bs) k)

abbrev pub is_within : Key → List ℕ → Key → Bool
is_within key range_end k = if is_endless range_end then is_key_le key k else is_between key range_end k

abbrev pub key_value : Key × Stored → KeyValue
key_value e = record { key = e.0; stored = e.1 }

-- the keys of a range, ascending
abbrev pub found : Map → Key → List ℕ → List KeyValue
found m key range_end = map key_value (filter (λ e. is_within key range_end e.0) (keys.entries m))

-- ---- which of them

abbrev pub is_at_least : ℕ → ℕ → Bool
is_at_least least n = nat_le least n

-- 0 is no bound
abbrev pub is_at_most : ℕ → ℕ → Bool
is_at_most most n = most == 0 || nat_le n most

abbrev pub is_asked : RangeRequest → KeyValue → Bool
is_asked r kv =
    is_at_most r.max_mod_revision kv.stored.mod_revision && is_at_least r.min_mod_revision kv.stored.mod_revision
    && is_at_most r.max_create_revision kv.stored.create_revision && is_at_least r.min_create_revision kv.stored.create_revision

-- ---- in which order

abbrev pub compare_by : SortTarget → KeyValue → KeyValue → Ordering
compare_by target.Key a b = slice_cmp nat_cmp a.key b.key
compare_by target.Version a b = nat_cmp a.stored.version b.stored.version
compare_by target.Create a b = nat_cmp a.stored.create_revision b.stored.create_revision
compare_by target.Mod a b = nat_cmp a.stored.mod_revision b.stored.mod_revision
compare_by target.Value a b = slice_cmp nat_cmp a.stored.value b.stored.value

abbrev pub is_descending : SortOrder → Bool
is_descending order.None = false
is_descending order.Ascend = false
is_descending order.Descend = true

-- whether the first comes before the second
abbrev pub is_before : SortOrder → SortTarget → KeyValue → KeyValue → Bool
is_before o t a b = if is_descending o then is_lt (compare_by t b a) else is_lt (compare_by t a b)

-- before the first that doesn't come before it
abbrev pub inserted : {X : Type 0} → (X → X → Bool) → X → List X → List X
inserted before x [] = x ∷ []
inserted before x (y ∷ ys) = if before y x then y ∷ inserted before x ys else x ∷ y ∷ ys

-- those that tie stay as they were
abbrev pub sorted : {X : Type 0} → (X → X → Bool) → List X → List X
sorted before [] = []
sorted before (x ∷ xs) = inserted before x (sorted before xs)

-- ---- how many

abbrev pub is_unordered : SortOrder → Bool
is_unordered order.None = true
is_unordered order.Ascend = false
is_unordered order.Descend = false

abbrev pub is_unbounded : RangeRequest → Bool
is_unbounded r = r.min_mod_revision == 0 && r.max_mod_revision == 0 && r.min_create_revision == 0 && r.max_create_revision == 0

-- With no order and no bound etcd takes no more keys than it needs, so it sorts these alone.
abbrev pub is_cut : RangeRequest → Bool
is_cut r = is_unordered r.sort_order && is_unbounded r && nat_lt 0 r.limit

abbrev pub taken : RangeRequest → List KeyValue → List KeyValue
taken r kvs = if is_cut r then take (r.limit + 1) kvs else kvs

abbrev pub limited : ℕ → List KeyValue → List KeyValue
limited limit kvs = if limit == 0 then kvs else take limit kvs

abbrev pub without_value : KeyValue → KeyValue
without_value kv = record kv { stored = record kv.stored { value = [] } }

abbrev pub shown : Bool → List KeyValue → List KeyValue
shown false kvs = kvs
shown true kvs = map without_value kvs

-- ---- the response

abbrev pub chosen : RangeRequest → List KeyValue → List KeyValue
chosen r kvs = sorted (is_before r.sort_order r.sort_target) (filter (is_asked r) (taken r kvs))

abbrev pub response : ℕ → RangeRequest → List KeyValue → List KeyValue → RangeResponse
response revision r all kvs = record {
  revision = revision;
  kvs = shown r.keys_only (limited r.limit kvs);
  more = nat_lt 0 r.limit && nat_lt r.limit (length kvs);
  count = length all;
}

abbrev pub counted : ℕ → ℕ → RangeResponse
counted revision n = record { revision = revision; kvs = []; more = false; count = n }

unfoldable pub range : Map → ℕ → RangeRequest → RangeResponse
range m revision r =
    let all = found m r.key r.range_end in
    if r.count_only then counted revision (length all) else response revision r all (chosen r all)
