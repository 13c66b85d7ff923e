-- The map that a table's entries make, after each call of the tree.
use Rattle.std.proofs.Common.{◌≡◌, ℕ, Bool, true, false, cond, List, [], ◌∷◌, Option, Some, None, length, refl, sym, ap, subst, ◌∙◌, ⊎_elim}
use Rattle.std.specs.Prelude.{IfSome}
use Rattle.std.specs.Ordering.{nat_cmp, is_eq, eq_by_cmp}
use Rattle.std.specs.declared.cmp.Ordering.{Ordering}
use Rattle.std.specs.declared.cmp.Ordering.TheVariants.{Less, Equal}
use Rattle.std.specs.List.{AllByRecursion}
use Rattle.std.specs.List.Sorted.{IsStrictlySortedBy}
use Rattle.std.proofs.lemmas.List.{nil_from_length}
use Rattle.std.specs.Cmp.{eq_by_cmp_equiv}
use Rattle.std.specs.Cmp.Lexicographic.{slice_cmp, nat_list_cmp_total, nat_list_eq_equiv, bytes_decides}
use Rattle.std.specs.Str.{bytes_eq}
use Rattle.std.specs.Map.{keys_of, lookup, IsKeyTest, AreApart, KeepsOthers}
use Rattle.std.specs.BTreeMap as tree
use Rattle.std.specs.BTreeMap.{BTreeMap}
use Rattle.std.specs.FinMap.{FinMap, entries, len, len-entries, len-empty, empty, put, entries-insert, find, get, insert, remove, from_entries, get-from_entries, get-insert, get-remove, same_map, slice_cmp-IsAntisymmetric, nat_cmp-IsAntisymmetric}
use Rattle.std.proofs.lemmas.Bool.{cases_Bool, cond-true, cond-false}
use Rattle.std.proofs.lemmas.Map.Text.{is_eq-slice_cmp}
use Rattle.kv_machine.specs.declared.key_value.Stored.{Stored}

abbrev pub Tree : Type 0
Tree = BTreeMap (List ℕ) Stored

-- what a tree has at the key with these bytes
abbrev pub at : List ℕ → List ℕ → Bool
at q k = is_eq (slice_cmp nat_cmp q k)

abbrev pub key_cmp : List ℕ → List ℕ → Ordering
key_cmp = slice_cmp nat_cmp

find-lookup : (es : List (List ℕ × Stored)) (q : List ℕ) → find (slice_cmp nat_cmp) q es ≡ lookup (at q) es
find-lookup [] q = refl
find-lookup (e ∷ es) q = ap (cond (at q e.0) (Some e.1)) (find-lookup es q)

abbrev pub table_of : List (List ℕ × Stored) → FinMap (slice_cmp nat_cmp) Stored
table_of es = from_entries es

pub get-table_of : (es : List (List ℕ × Stored)) (q : List ℕ) → get (table_of es) q ≡ lookup (at q) es
get-table_of es q = get-from_entries nat_list_cmp_total es q ∙ find-lookup es q

pub same_bytes : (x y : List ℕ) → is_eq (slice_cmp nat_cmp x y) ≡ true → x ≡ y
same_bytes x y e = (bytes_decides x y).0 (sym (is_eq-slice_cmp x y) ∙ e)

apart : (bs cs ks : List ℕ) → bytes_eq bs cs ≡ false → bytes_eq bs ks ≡ true → bytes_eq cs ks ≡ false
apart bs cs ks n y = nat_list_eq_equiv.symm cs ks ∙ sym (nat_list_eq_equiv.congr bs ks cs y) ∙ n

apart_in_order : (bs cs ks : List ℕ) → bytes_eq bs cs ≡ false → is_eq (slice_cmp nat_cmp bs ks) ≡ true → is_eq (slice_cmp nat_cmp cs ks) ≡ false
apart_in_order bs cs ks n y = is_eq-slice_cmp cs ks ∙ apart bs cs ks n (sym (is_eq-slice_cmp bs ks) ∙ y)

others : {X : Type 0} (test : List ℕ → Bool) (old new : List (List ℕ × X)) → KeepsOthers (eq_by_cmp key_cmp) test old new → (other : List ℕ → Bool) → IsKeyTest (eq_by_cmp key_cmp) other → AreApart test other → lookup other new ≡ lookup other old
unfolding KeepsOthers
others test old new h = h

-- what a change at some bytes leaves at any bytes
pub after_update : (bs : List ℕ) (m n : Tree) (w : Option Stored) → tree.UpdatesBy key_cmp (λ k. slice_cmp nat_cmp bs k) m n w → (cs : List ℕ) → lookup (at cs) n.entries ≡ cond (bytes_eq bs cs) w (lookup (at cs) m.entries)
after_update bs m n w h cs =
    ⊎_elim
    (λ y. subst (λ l. lookup (at l) n.entries ≡ w) ((bytes_decides bs cs).0 y) h.1 ∙ sym (cond-true (bytes_eq bs cs) w (lookup (at cs) m.entries) y))
    (λ e. others (at bs) m.entries n.entries h.3 (at cs) (λ x y. (eq_by_cmp_equiv nat_list_cmp_total).congr cs x y) (λ k. apart_in_order bs cs k e) ∙ sym (cond-false (bytes_eq bs cs) w (lookup (at cs) m.entries) e))
    (cases_Bool (bytes_eq bs cs))

turned : (bs cs : List ℕ) → bytes_eq bs cs ≡ eq_by_cmp (slice_cmp nat_cmp) cs bs
turned bs cs = nat_list_eq_equiv.symm bs cs ∙ sym (is_eq-slice_cmp cs bs)

pub inserted : (bs : List ℕ) (m n : Tree) (s : Stored) → tree.UpdatesBy key_cmp (λ k. slice_cmp nat_cmp bs k) m n (Some s) → table_of n.entries ≡ insert (table_of m.entries) bs s
inserted bs m n s h = same_map nat_list_cmp_total (slice_cmp-IsAntisymmetric nat_cmp-IsAntisymmetric) _ _ (λ q.
    get-table_of n.entries q ∙ after_update bs m n (Some s) h q ∙ ap (λ b. cond b (Some s) (lookup (at q) m.entries)) (turned bs q)
    ∙ sym (get-insert nat_list_cmp_total (table_of m.entries) bs s q ∙ ap (cond (eq_by_cmp (slice_cmp nat_cmp) q bs) (Some s)) (get-table_of m.entries q)))

pub removed : (bs : List ℕ) (m n : Tree) → tree.UpdatesBy key_cmp (λ k. slice_cmp nat_cmp bs k) m n None → table_of n.entries ≡ remove (table_of m.entries) bs
removed bs m n h = same_map nat_list_cmp_total (slice_cmp-IsAntisymmetric nat_cmp-IsAntisymmetric) _ _ (λ q.
    get-table_of n.entries q ∙ after_update bs m n None h q ∙ ap (λ b. cond b None (lookup (at q) m.entries)) (turned bs q)
    ∙ sym (get-remove nat_list_cmp_total (table_of m.entries) bs q ∙ ap (cond (eq_by_cmp (slice_cmp nat_cmp) q bs) None) (get-table_of m.entries q)))

-- ---- the entries in the keys' order

entries-empty : entries (empty {X = Stored} {R = slice_cmp nat_cmp}) ≡ []
entries-empty = nil_from_length _ (sym (len-entries (empty {X = Stored} {R = slice_cmp nat_cmp})) ∙ len-empty (slice_cmp nat_cmp) Stored)

put_first : (k : List ℕ) (v : Stored) (es : List (List ℕ × Stored)) → AllByRecursion (λ (y : List ℕ). slice_cmp nat_cmp k y ≡ Less) (keys_of es) → put (slice_cmp nat_cmp) k v es ≡ (k, v) ∷ es
put_first k v [] h = refl
put_first k v (e ∷ es) h = rw h.0 refl

-- a table has its tree's entries, in order
pub entries-table_of : (es : List (List ℕ × Stored)) → IsStrictlySortedBy key_cmp (keys_of es) → entries (table_of es) ≡ es
unfolding IsStrictlySortedBy
entries-table_of [] h = entries-empty
entries-table_of (e ∷ es) h = entries-insert nat_list_cmp_total (table_of es) e.0 e.1 ∙ ap (put (slice_cmp nat_cmp) e.0 e.1) (entries-table_of es h.1) ∙ put_first e.0 e.1 es h.0

pub len-table_of : (es : List (List ℕ × Stored)) → IsStrictlySortedBy key_cmp (keys_of es) → len (table_of es) ≡ length es
len-table_of es h = len-entries (table_of es) ∙ ap length (entries-table_of es h)
