-- Sessions that are put from the last to the first make the cache of all.
use Rattle.std.proofs.Common.{◌≡◌, ℕ, ◌<◌, ◌≤◌, ◌-◌, Bool, true, false, cond, not, ◌&&◌, List, [], ◌∷◌, ◌++◌, length, take, Option, Some, None, Result, Ok, Err, refl, sym, ap, subst, ◌∙◌, append_assoc, arith, leb, ltb}
use Rattle.std.specs.Prelude.{nat_eq, is_some, ◌||◌}
use Rattle.std.specs.List.{list_any, AllByRecursion, IsDistinct}
use Rattle.std.specs.Map.{keys_of, lookup, lookup_entry, remove_entry}
use Rattle.std.specs.Option.{option_map_or}
use Rattle.std.proofs.lemmas.Bool.{lt-ltb}
use Rattle.std.proofs.lemmas.Bool.Decides.{nat_tests}
use Rattle.std.proofs.lemmas.List.{take_all, length-append}
use Rattle.lru.specs.LruCache.{LruCache, lru_cache, put_entries, IsValid}
use Rattle.raft_codec.specs.Codec.{Writes, WritesEach, number, list}
use Rattle.raft_machine.specs.declared.machine.Answered.{Answered}
use Rattle.raft_machine.specs.Bytes.{are_bounded, are_distinct, session, sessions}
use Rattle.raft_machine.proofs.Written.{behind_length}

abbrev Sessions : Type 0
Sessions = List (ℕ × Answered)

abbrev among : ℕ → Sessions → Bool
among k xs = list_any (λ y. nat_eq k y.0) xs

pub looked_up : (k : ℕ) (xs : List (ℕ × Answered)) → is_some (lookup (nat_eq k) xs) ≡ list_any (λ y. nat_eq k y.0) xs
looked_up k [] = refl
looked_up k (x ∷ xs) = elim (nat_eq k x.0) as (λ b. is_some (cond b (Some x.1) (lookup (nat_eq k) xs)) ≡ (b || among k xs)) [ true ↦ refl | false ↦ looked_up k xs ]

no_entry : (k : ℕ) (xs : Sessions) → is_some (lookup (nat_eq k) xs) ≡ false → lookup_entry (nat_eq k) xs ≡ None
no_entry k [] h = refl
no_entry k (x ∷ xs) h =
    elim (nat_eq k x.0) as (λ b. is_some (cond b (Some x.1) (lookup (nat_eq k) xs)) ≡ false → cond b (Some x) (lookup_entry (nat_eq k) xs) ≡ None) [
      | true ↦ λ e. absurd cc
      | false ↦ λ e. no_entry k xs e
    ] h

-- a new client goes first, and nobody is forgotten where there is room
pub put_new : (c : LruCache ℕ Answered) (k : ℕ) (v : Answered) → is_some (lookup (nat_eq k) c.entries) ≡ false → length c.entries < c.cap → put_entries nat_eq c k v ≡ (k, v) ∷ c.entries
put_new c k v new room =
    ap (λ o. option_map_or (λ e. (e.0, v) ∷ remove_entry (nat_eq k) c.entries) o ((k, v) ∷ take (c.cap - 1) c.entries)) (no_entry k c.entries new)
    ∙ ap (λ es. (k, v) ∷ es) (take_all (c.cap - 1) c.entries (omega arith))

pub room_left : (xs ys all : List (ℕ × Answered)) (e : ℕ × Answered) (cap : ℕ) → (xs ++ e ∷ []) ++ ys ≡ all → length all ≤ cap → length ys < cap
room_left xs ys all e cap h l = omega (arith, ap length h, length-append (xs ++ e ∷ []) ys, length-append xs (e ∷ []))

pub regrouped : (xs ys all : List (ℕ × Answered)) (e : ℕ × Answered) → (xs ++ e ∷ []) ++ ys ≡ all → xs ++ e ∷ ys ≡ all
regrouped xs ys all e h = sym (append_assoc xs (e ∷ []) ys) ∙ h

both_false : (a b : Bool) → b ≡ false → (a && b) ≡ false
both_false true b h = h
both_false false b h = refl

pub twice : (xs ys : List (ℕ × Answered)) (e : ℕ × Answered) → is_some (lookup (nat_eq e.0) ys) ≡ true → are_distinct (xs ++ e ∷ ys) ≡ false
twice [] ys e h = ap (λ b. not b && are_distinct ys) (sym (looked_up e.0 ys) ∙ h)
twice (x ∷ xs) ys e h = both_false (not (among x.0 (xs ++ e ∷ ys))) _ (twice xs ys e h)

pub once_more : (ys : List (ℕ × Answered)) (e : ℕ × Answered) → is_some (lookup (nat_eq e.0) ys) ≡ false → are_distinct ys ≡ true → are_distinct (e ∷ ys) ≡ true
once_more ys e h d = ap (λ b. not b && are_distinct ys) (sym (looked_up e.0 ys) ∙ h) ∙ d

-- a client that is there twice
pub refused : {A : Type 0} (x : A) (xs ys es all : List (ℕ × Answered)) (e : ℕ × Answered) → es ≡ xs ++ e ∷ [] → es ++ ys ≡ all → is_some (lookup (nat_eq e.0) ys) ≡ true → None ≡ cond (are_distinct all) (Some x) None
refused x xs ys es all e popped h t =
    let joined = regrouped xs ys all e (ap (λ (zs : Sessions). zs ++ ys) (sym popped) ∙ h) in
    sym (ap (λ (zs : Sessions). cond (are_distinct zs) (Some x) None) (sym joined) ∙ ap (λ b. cond b (Some x) None) (twice xs ys e t))

-- one that is there once
pub one_more : (c d : LruCache ℕ Answered) (xs es all : List (ℕ × Answered)) (k : ℕ) (v : Answered) (cap : ℕ) → es ≡ xs ++ (k, v) ∷ [] → es ++ c.entries ≡ all → length all ≤ cap → c.cap ≡ cap
    → are_distinct c.entries ≡ true → is_some (lookup (nat_eq k) c.entries) ≡ false → d.entries ≡ put_entries nat_eq c k v
    → (xs ++ d.entries ≡ all) × (are_distinct d.entries ≡ true)
one_more c d xs es all k v cap popped h l same distinct new stored =
    let joined : (xs ++ (k, v) ∷ []) ++ c.entries ≡ all = ap (λ (zs : Sessions). zs ++ c.entries) (sym popped) ∙ h in
    let room : length c.entries < c.cap = subst (λ n. length c.entries < n) (sym same) (room_left xs c.entries all (k, v) cap joined l) in
    let now : d.entries ≡ (k, v) ∷ c.entries = stored ∙ put_new c k v new room in (
      ap (λ (zs : Sessions). xs ++ zs) now ∙ regrouped xs c.entries all (k, v) joined,
      ap are_distinct now ∙ once_more c.entries (k, v) new distinct,
    )

-- ---- a cache has each client once

apart : (k : ℕ) (xs : Sessions) → AllByRecursion (λ y. nat_eq k y ≡ false) (keys_of xs) → among k xs ≡ false
apart k [] h = refl
apart k (x ∷ xs) h = ap (λ b. b || among k xs) h.0 ∙ apart k xs h.1

pub distinct : (xs : List (ℕ × Answered)) → IsDistinct nat_eq (keys_of xs) → are_distinct xs ≡ true
unfolding IsDistinct
distinct [] h = refl
distinct (x ∷ xs) h = ap (λ b. not b && are_distinct xs) (apart x.0 xs h.0) ∙ distinct xs h.1

all_three : (a b c : Bool) → a ≡ true → b ≡ true → c ≡ true → ((a && b) && c) ≡ true
all_three true b c p q r = rw q r
all_three false b c p q r = absurd cc

-- a cache of a cache's entries is the same
pub made_again : (c : LruCache ℕ Answered) (es : List (ℕ × Answered)) (n : ℕ) (o : Option (LruCache ℕ Answered)) → es ≡ c.entries → n ≡ c.cap
    → IsValid nat_eq c → o ≡ cond (are_distinct es) (Some (lru_cache es n)) None → o ≡ Some c
made_again c es n o same cap valid made =
    made
    ∙ ap (λ b. cond b (Some (lru_cache es n)) None) (ap are_distinct same ∙ distinct c.entries valid.0)
    ∙ ap (λ (xs : Sessions). Some (lru_cache xs n)) same
    ∙ ap (λ k. Some (lru_cache c.entries k)) cap

pub kept : (c : LruCache ℕ Answered) → IsValid nat_eq c → (are_bounded c.cap c.entries && are_distinct c.entries) ≡ true
kept c v =
    let some : ltb 0 c.cap ≡ true = lt-ltb 0 c.cap v.2 in
    let l = v.1 in
    let few : leb (length c.entries) c.cap ≡ true = grind (arith, nat_tests) in
    all_three (ltb 0 c.cap) (leb (length c.entries) c.cap) (are_distinct c.entries) some few (distinct c.entries v.0)

pub sessions_written : {E : Type 0} (c : LruCache ℕ Answered) (n k : ℕ) (old mid later new : List ℕ) (r : Result (Unit {0}) E) → n ≡ c.cap → k ≡ length c.entries → IsValid nat_eq c
    → number.fits n × (mid ≡ old ++ number.bytes n) → number.fits k × (later ≡ mid ++ number.bytes k) → WritesEach session c.entries r later new → Writes sessions c r old new
unfolding sessions
sessions_written {E = E} c n k old mid later new (Ok u) e f valid first second each =
    let w = behind_length {E = E} session c.entries c.entries k mid later new (Ok u) f refl second each in (
      ((subst number.fits e first.0, w.0), kept c valid),
      w.1
          ∙ ap (λ (bs : List ℕ). bs ++ (list session).bytes c.entries) (first.1 ∙ ap (λ m. old ++ number.bytes m) e)
          ∙ append_assoc old (number.bytes c.cap) ((list session).bytes c.entries),
    )
sessions_written c n k old mid later new (Err d) e f valid first second each = tt
