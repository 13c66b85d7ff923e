-- The keys of a range are deleted one after the other.
use Rattle.std.proofs.Common.{◌≡◌, ℕ, Bool, true, false, cond, ◌&&◌, List, [], ◌∷◌, ◌++◌, Option, Some, None, refl, sym, ap, subst, ◌∙◌, T}
use Rattle.std.specs.Prelude.{map, filter, is_some}
use Rattle.std.specs.List.{AllByRecursion}
use Rattle.std.specs.Ordering.{nat_cmp, is_eq, is_lt, eq_by_cmp}
use Rattle.std.specs.declared.cmp.Ordering.{Ordering}
use Rattle.std.specs.declared.cmp.Ordering.TheVariants.{Less, Equal, Greater}
use Rattle.std.specs.Cmp.{eq_by_cmp_equiv}
use Rattle.std.specs.Cmp.Lexicographic.{slice_cmp, nat_list_cmp_total}
use Rattle.std.specs.FinMap.{get, contains_key, remove, entries, entries_sorted, get-entries, get-remove, find}
use Rattle.std.specs.FinMap.Entries.{below_all, is_sorted, is_sorted-where_key}
use Rattle.std.proofs.lemmas.List.{append_assoc}
use Rattle.kv_machine.specs.declared.key_value.Stored.{Stored}
use Rattle.kv_machine.specs.declared.key_value.KeyValue.{KeyValue}
use Rattle.kv_machine.specs.declared.key_value.Event.{Event}
use Rattle.kv_machine.specs.declared.key_value.Event.TheVariants.{Delete}
use Rattle.kv_machine.specs.Store.{Key, Map, Store, keys, with, done, all_done, revised}
use Rattle.kv_machine.specs.Ranges.{is_within, key_value, found}
use Rattle.kv_machine.specs.Deletable.{Deletable}
use Rattle.kv_machine.specs.Writes.{deletes}
use Rattle.kv_machine.proofs.Histories.{same}

abbrev Entries : Type 0
Entries = List (List ℕ × Stored)

first : (a b : Bool) → T (a && b) → T a
first true b h = tt
first false b h = h

second : (a b : Bool) → T (a && b) → T b
second true b h = h
second false b h = absurd h

same_itself : (k : List ℕ) → same k k ≡ true
same_itself k = (eq_by_cmp_equiv nat_list_cmp_total).refl k

found_in : (b : Bool) (v : Stored) (o : Option Stored) → is_some o ≡ true → is_some (cond b (Some v) o) ≡ true
found_in true v o h = refl
found_in false v o h = h

further : (e : List ℕ × Stored) (es fs : Entries) → AllByRecursion (λ f. is_some (find (slice_cmp nat_cmp) f.0 es) ≡ true) fs
    → AllByRecursion (λ f. is_some (find (slice_cmp nat_cmp) f.0 (e ∷ es)) ≡ true) fs
further e es [] h = tt
further e es (f ∷ fs) h = (found_in (same f.0 e.0) e.1 _ h.0, further e es fs h.1)

all_found : (es : Entries) → AllByRecursion (λ f. is_some (find (slice_cmp nat_cmp) f.0 es) ≡ true) es
all_found [] = tt
all_found (e ∷ es) =
    (ap (λ b. is_some (cond b (Some e.1) (find (slice_cmp nat_cmp) e.0 es))) (same_itself e.0), further e es es (all_found es))

in_map : (m : Map) (es : Entries) → AllByRecursion (λ f. is_some (find (slice_cmp nat_cmp) f.0 (entries m)) ≡ true) es → AllByRecursion (λ f. contains_key m f.0 ≡ true) es
in_map m [] h = tt
in_map m (e ∷ es) h = (ap is_some (get-entries m e.0) ∙ h.0, in_map m es h.1)

all_filter : {X : Type 0} (P : X → Type 0) (p : X → Bool) (xs : List X) → AllByRecursion P xs → AllByRecursion P (filter p xs)
all_filter P p [] h = tt
all_filter P p (x ∷ xs) h =
    elim (p x) as (λ b. AllByRecursion P (cond b (x ∷ filter p xs) (filter p xs))) [
      | true ↦ (h.0, all_filter P p xs h.1)
      | false ↦ all_filter P p xs h.1
    ]

less_apart : (o : Ordering) → T (is_lt o) → is_eq o ≡ false
less_apart Less h = refl
less_apart Equal h = absurd h
less_apart Greater h = absurd h

apart : (k q : List ℕ) → T (is_lt (slice_cmp nat_cmp k q)) → same q k ≡ false
apart k q h = (eq_by_cmp_equiv nat_list_cmp_total).symm q k ∙ less_apart (slice_cmp nat_cmp k q) h

kept_at : (b : Bool) (o : Option Stored) → b ≡ false → is_some o ≡ true → is_some (cond b None o) ≡ true
kept_at true o e h = absurd cc
kept_at false o e h = h

left_in : (m : Map) (k : List ℕ) (es : Entries) → T (below_all (slice_cmp nat_cmp) k es) → AllByRecursion (λ f. contains_key m f.0 ≡ true) es
    → AllByRecursion (λ f. contains_key (remove m k) f.0 ≡ true) es
left_in m k [] b h = tt
left_in m k (e ∷ es) b h =
    (ap is_some (get-remove nat_list_cmp_total m k e.0) ∙ kept_at (same e.0 k) (get m e.0) (apart k e.0 (first _ _ b)) h.0, left_in m k es (second _ _ b) h.1)

deletable : (m : Map) (es : Entries) → T (is_sorted (slice_cmp nat_cmp) es) → AllByRecursion (λ f. contains_key m f.0 ≡ true) es → Deletable m (map key_value es)
deletable m [] s h = tt
deletable m (e ∷ es) s h = (h.0, deletable (remove m e.0) es (second _ _ s) (left_in m e.0 es (first _ _ s) h.1))

pub deletable-found : (m : Map) (key range_end : List ℕ) → Deletable m (found m key range_end)
deletable-found m key range_end =
    let es = filter (λ (e : List ℕ × Stored). is_within key range_end e.0) (entries m) in
    deletable m es (is_sorted-where_key (slice_cmp nat_cmp) (is_within key range_end) (entries m) (entries_sorted m))
    (all_filter (λ f. contains_key m f.0 ≡ true) (λ e. is_within key range_end e.0) (entries m) (in_map m (entries m) (all_found (entries m))))

all_done-append : (m : Map) (es fs : List Event) → all_done m (es ++ fs) ≡ all_done (all_done m es) fs
all_done-append m [] fs = refl
all_done-append m (e ∷ es) fs = all_done-append (done m e) es fs

pub keys-with : (s : Store) (es : List Event) → keys (with s es) ≡ all_done (keys s) es
keys-with s es = all_done-append (revised s.base s.revisions) s.pending es

pub with-with : (s : Store) (es fs : List Event) → with (with s es) fs ≡ with s (es ++ fs)
with-with s es fs = λ i. record { base = s.base; compacted = s.compacted; revisions = s.revisions; pending = append_assoc s.pending es fs i }

-- ---- one of them is deleted

deleted : (s n : Store) (k : Key) (kv : KeyValue) (after left : List KeyValue) → n ≡ cond (contains_key (keys s) k) (with s (Delete k ∷ [])) s → k ≡ kv.key
    → left ≡ kv ∷ after → Deletable (keys s) left → n ≡ with s (Delete kv.key ∷ [])
deleted s n k kv after left e f l h =
    let there = (subst (λ (kvs : List KeyValue). Deletable (keys s) kvs) l h).0 in
    e ∙ ap (λ q. cond (contains_key (keys s) q) (with s (Delete q ∷ [])) s) f ∙ ap (λ b. cond b (with s (Delete kv.key ∷ [])) s) there

pub delete-all : (s n : Store) (k : Key) (kv : KeyValue) (after left : List KeyValue) (to : Store) → n ≡ cond (contains_key (keys s) k) (with s (Delete k ∷ [])) s → k ≡ kv.key
    → left ≡ kv ∷ after → Deletable (keys s) left → with s (deletes left) ≡ to → with n (deletes after) ≡ to
delete-all s n k kv after left to e f l h t =
    ap (λ (x : Store). with x (deletes after)) (deleted s n k kv after left e f l h)
    ∙ with-with s (Delete kv.key ∷ []) (deletes after)
    ∙ ap (λ kvs. with s (deletes kvs)) (sym l) ∙ t

pub delete-rest : (s n : Store) (k : Key) (kv : KeyValue) (after left : List KeyValue) → n ≡ cond (contains_key (keys s) k) (with s (Delete k ∷ [])) s → k ≡ kv.key
    → left ≡ kv ∷ after → Deletable (keys s) left → Deletable (keys n) after
delete-rest s n k kv after left e f l h =
    subst (λ (m : Map). Deletable m after)
    (sym (ap keys (deleted s n k kv after left e f l h) ∙ keys-with s (Delete kv.key ∷ [])))
    (subst (λ (kvs : List KeyValue). Deletable (keys s) kvs) l h).1
