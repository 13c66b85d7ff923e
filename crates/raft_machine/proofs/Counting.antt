-- What adding to the number at a key leaves of the keys.
use Rattle.std.proofs.Common.{◌≡◌, ℕ, Bool, true, false, cond, List, Option, Some, None, Result, Ok, Err, refl, sym, ap, subst, ◌∙◌}
use Rattle.std.specs.Prelude.{ℤ, IfOk, IfSome, OnErr}
use Rattle.std.specs.Fmt.{signed_decimal}
use Rattle.std.specs.Map.{lookup}
use Rattle.std.specs.Option.{option_and_then, option_map}
use Rattle.std.specs.Ordering.{nat_cmp}
use Rattle.std.specs.Cmp.Lexicographic.{slice_cmp, nat_list_cmp_total}
use Rattle.std.specs.BTreeMap as tree
use Rattle.std.specs.FinMap.{get, insert, get-insert}
use Rattle.std.proofs.lemmas.Option.{none-some}
use Rattle.raft_machine.specs.declared.stored.Stored.{Stored}
use Rattle.raft_machine.specs.declared.command.Failure.{Failure}
use Rattle.raft_machine.specs.Deadlines.{Noted}
use Rattle.raft_machine.specs.Numbers.{integer_of}
use Rattle.raft_machine.specs.Space.{Map, deadline_of, IsTimely}
use Rattle.raft_machine.specs.Commands.{stored, added, added_at, sum_at, counted, sum_of}
use Rattle.raft_machine.proofs.Tables.{Tree, at, key_cmp, table_of, get-table_of, inserted}
use Rattle.raft_machine.proofs.Spaces.{same, same_keys, alike, lives_later, timely-insert}
use Rattle.raft_machine.proofs.Loaded.{made}

pub on_err : {X E P : Type 0} (r : Result X E) → P → OnErr r P
on_err (Ok v) p = tt
on_err (Err e) p = p

again : (b : Bool) (o : Option Stored) (s : Stored) → (b ≡ true → o ≡ Some s) → cond b (Some s) o ≡ o
again true o s h = sym (h refl)
again false o s h = refl

-- what is there is stored again
pub insert-again : (m : Map) (k : List ℕ) (s : Stored) → get m k ≡ Some s → insert m k s ≡ m
insert-again m k s h = alike _ _ (λ q. get-insert nat_list_cmp_total m k s q ∙ again (same q k) (get m q) s (λ e. ap (get m) (same_keys q k e) ∙ h))

-- ---- in a table

abbrev pub Writes : List ℕ → Tree → Tree → Stored → Type 0
Writes k m n s = tree.UpdatesBy key_cmp (λ (x : List ℕ). slice_cmp nat_cmp k x) m n (Some s)

pub table-again : (m n : Tree) (k : List ℕ) (s t : Stored) → lookup (at k) m.entries ≡ Some s → t ≡ s → Writes k m n t → table_of n.entries ≡ table_of m.entries
table-again m n k s t found same h =
    inserted k m n t h ∙ ap (insert (table_of m.entries) k) same ∙ insert-again (table_of m.entries) k s (get-table_of m.entries k ∙ found)

to_added : (m n : Tree) (k : List ℕ) (s : Stored) (r : Result ℤ Failure) → lookup (at k) m.entries ≡ Some s → Writes k m n (added s r) → table_of n.entries ≡ added_at (table_of m.entries) k (Some r)
to_added m n k s (Ok x) found h =
    inserted k m n (added s (Ok x)) h
    ∙ ap (λ e. insert (table_of m.entries) k (stored (signed_decimal x) e)) (sym (ap (option_and_then (λ (t : Stored). t.expires)) (get-table_of m.entries k ∙ found)))
to_added m n k s (Err f) found h = table-again m n k s s found refl h

pub table-added : (m n : Tree) (k : List ℕ) (s t : Stored) (r : Result ℤ Failure) → lookup (at k) m.entries ≡ Some s → t ≡ added s r → Writes k m n t → table_of n.entries ≡ added_at (table_of m.entries) k (Some r)
table-added m n k s t r found e h = to_added m n k s r found (subst (Writes k m n) e h)

pub table-sum : (m : Tree) (k : List ℕ) (o : Option Stored) (by : ℤ) → lookup (at k) m.entries ≡ o → sum_at (table_of m.entries) k by ≡ option_map (λ (s : Stored). sum_of (integer_of s.bytes) by) o
table-sum m k o by found = ap (option_map (λ (s : Stored). sum_of (integer_of s.bytes) by)) (get-table_of m.entries k ∙ found)

-- ---- in a space

pub timely-added : {E : Type 0} (m n : Map) (d : Noted) (now : ℕ) (k : List ℕ) (r : Result (Option (Result ℤ Failure)) E) → IsTimely m d now → IfOk r (λ s. n ≡ added_at m k s) → OnErr r (n ≡ m) → IsTimely n d now
timely-added m n d now k (Ok None) h done kept = subst (λ (x : Map). IsTimely x d now) (sym done) h
timely-added m n d now k (Ok (Some (Err f))) h done kept = subst (λ (x : Map). IsTimely x d now) (sym done) h
timely-added m n d now k (Ok (Some (Ok x))) h done kept =
    subst (λ (x : Map). IsTimely x d now) (sym done) (timely-insert m d now k (stored (signed_decimal x) (deadline_of m k)) h (lives_later now (deadline_of m k) (h.later k)) (h.noted k))
timely-added m n d now k (Err e) h done kept = subst (λ (x : Map). IsTimely x d now) (sym kept) h

to_counted : (m n : Map) (d : Noted) (now : ℕ) (k : List ℕ) (r : Result ℤ Failure) → IsTimely m d now → n ≡ added_at m k (Some r) → made n now ≡ (counted (made m now) k r).0
to_counted m n d now k (Ok x) h e = ap (λ (y : Map). made y now) e ∙ rw (lives_later now (deadline_of m k) (h.later k)) refl
to_counted m n d now k (Err f) h e = ap (λ (y : Map). made y now) e

pub space-counted : {E : Type 0} (m n : Map) (d : Noted) (now : ℕ) (k : List ℕ) (r : Result (Option (Result ℤ Failure)) E) → IsTimely m d now → IfOk r (λ s. n ≡ added_at m k s) → IfOk r (λ s. IfSome s (λ x. made n now ≡ (counted (made m now) k x).0))
space-counted m n d now k (Ok None) h done = tt
space-counted m n d now k (Ok (Some r)) h done = to_counted m n d now k r h done
space-counted m n d now k (Err e) h done = tt

pub space-stays : {E : Type 0} (m n : Map) (now : ℕ) (k : List ℕ) (r : Result (Option (Result ℤ Failure)) E) → IfOk r (λ s. n ≡ added_at m k s) → IfOk r (λ s. s ≡ None → made n now ≡ made m now)
space-stays m n now k (Ok None) done = λ e. ap (λ (y : Map). made y now) done
space-stays m n now k (Ok (Some r)) done = λ e. absurd (none-some r (sym e))
space-stays m n now k (Err e) done = tt
