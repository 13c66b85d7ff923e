-- Entries that stand at their indexes, in their order: they stay so, and put one after the other they stand there again.
use Rattle.std.proofs.Common.{ℕ, ◌≡◌, ◌<◌, ◌≤◌, ◌+◌, ◌∙◌, refl, sym, ap, arith, append_assoc, List, [], ◌∷◌, ◌++◌}
use Rattle.std.specs.Prelude.{Bool, true, false, filter, fold, if◌then◌else◌}
use Rattle.std.specs.declared.cmp.Ordering.{Ordering}
use Rattle.std.specs.declared.cmp.Ordering.TheVariants.{Less, Equal, Greater}
use Rattle.std.specs.BTreeMap.{insert_entry}
use Rattle.std.specs.Map.{values_of}
use Rattle.std.specs.Ordering.{match_ordering, nat_cmp}
use Rattle.std.proofs.lemmas.Bool.Decides.{nat_tests}
use Rattle.std.proofs.lemmas.List.{append-nil}
use Rattle.raft_store.specs.declared.entry.Entry.{Entry}
use Rattle.raft_store.specs.Entries.{entry_meaning}
use Rattle.raft_store.specs.Store.{put}
use Rattle.raft_packed_wire.specs.Checkpoints.{AreInOrder}

is_below : (a b : ℕ) → nat_cmp a b ≡ Less → a < b
is_below a b h = grind (arith, nat_tests)

is_same : (a b : ℕ) → nat_cmp a b ≡ Equal → a ≡ b
is_same a b h = grind (arith, nat_tests)

is_above : (a b : ℕ) → nat_cmp a b ≡ Greater → b < a
is_above a b h = grind (arith, nat_tests)

weaker : (from to : ℕ) (log : List (ℕ × Entry)) → to ≤ from → AreInOrder from log → AreInOrder to log
weaker from to [] h o = tt
weaker from to (x ∷ log) h o = (omega (arith, h, o.0), o.1)

pub filtered_in_order : (p : ℕ × Entry → Bool) (from : ℕ) (log : List (ℕ × Entry)) → AreInOrder from log → AreInOrder from (filter p log)
filtered_in_order p from [] o = tt
filtered_in_order p from (x ∷ log) o = go (p x) (filtered_in_order p (x.0 + 1) log o.1.1)
  where
    go : (b : Bool) → AreInOrder (x.0 + 1) (filter p log) → AreInOrder from (if b then x ∷ filter p log else filter p log)
    go true rest = (o.0, (o.1.0, rest))
    go false rest = weaker (x.0 + 1) from (filter p log) (omega (arith, o.0)) rest

put_in_order : (from k : ℕ) (e : Entry) (log : List (ℕ × Entry)) → from ≤ k → e.log_id.index ≡ k → AreInOrder from log
    → AreInOrder from (insert_entry nat_cmp log k e)
put_in_order from k e [] h is o = (h, (is, tt))
put_in_order from k e (x ∷ log) h is o = go (nat_cmp k x.0) refl (λ le. put_in_order (x.0 + 1) k e log le is o.1.1)
  where
    go : (c : Ordering) → nat_cmp k x.0 ≡ c → (x.0 + 1 ≤ k → AreInOrder (x.0 + 1) (insert_entry nat_cmp log k e))
        → AreInOrder from (match_ordering c ((k, e) ∷ x ∷ log) ((x.0, e) ∷ log) (x ∷ insert_entry nat_cmp log k e))
    go Less q rest = (h, (is, (omega (arith, is_below k x.0 q), o.1)))
    go Equal q rest = (o.0, (is ∙ is_same k x.0 q, o.1.1))
    go Greater q rest = (o.0, (o.1.0, rest (omega (arith, is_above k x.0 q))))

pub appended_in_order : (log : List (ℕ × Entry)) (es : List Entry) → AreInOrder 0 log → AreInOrder 0 (fold (put entry_meaning) log es)
appended_in_order log [] o = o
appended_in_order log (e ∷ es) o =
    appended_in_order (put entry_meaning log e) es (put_in_order 0 e.log_id.index e log (omega arith) refl o)

-- ---- put again

abbrev AllBelow : ℕ → List (ℕ × Entry) → Type 0
AllBelow k [] = Unit {0}
AllBelow k (x ∷ xs) = (x.0 < k) × AllBelow k xs

one_more : (k m : ℕ) (e : Entry) (xs : List (ℕ × Entry)) → k ≤ m → AllBelow k xs → AllBelow (m + 1) (xs ++ (m, e) ∷ [])
one_more k m e [] h b = (omega arith, tt)
one_more k m e (x ∷ xs) h b = (omega (arith, h, b.0), one_more k m e xs h b.1)

last_put : (k m : ℕ) (e : Entry) (xs : List (ℕ × Entry)) → k ≤ m → AllBelow k xs → insert_entry nat_cmp xs m e ≡ xs ++ (m, e) ∷ []
last_put k m e [] h b = refl
last_put k m e (x ∷ xs) h b = go (nat_cmp m x.0) refl (last_put k m e xs h b.1)
  where
    go : (c : Ordering) → nat_cmp m x.0 ≡ c → insert_entry nat_cmp xs m e ≡ xs ++ (m, e) ∷ []
        → match_ordering c ((m, e) ∷ x ∷ xs) ((x.0, e) ∷ xs) (x ∷ insert_entry nat_cmp xs m e) ≡ x ∷ (xs ++ (m, e) ∷ [])
    go Less q rest = absurd (omega (arith, is_below m x.0 q, h, b.0))
    go Equal q rest = absurd (omega (arith, is_same m x.0 q, h, b.0))
    go Greater q rest = ap (λ ys. x ∷ ys) rest

put_behind : (from : ℕ) (xs ys : List (ℕ × Entry)) → AllBelow from xs → AreInOrder from ys → fold (put entry_meaning) xs (values_of ys) ≡ xs ++ ys
put_behind from xs [] b o = sym (append-nil xs)
put_behind from xs (y ∷ ys) b o =
    ap (λ l. fold (put entry_meaning) l (values_of ys)) (ap (λ k. insert_entry nat_cmp xs k y.1) o.1.0 ∙ last_put from y.0 y.1 xs o.0 b)
    ∙ (put_behind (y.0 + 1) (xs ++ (y.0, y.1) ∷ []) ys (one_more from y.0 y.1 xs o.0 b) o.1.1 ∙ append_assoc xs ((y.0, y.1) ∷ []) ys)

pub put_again_in_order : (log : List (ℕ × Entry)) → AreInOrder 0 log → fold (put entry_meaning) [] (values_of log) ≡ log
put_again_in_order log o = put_behind 0 [] log tt o
