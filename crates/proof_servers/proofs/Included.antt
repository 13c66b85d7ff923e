-- What is included in records: what is recorded stays recorded, and its entries are among theirs.
use Rattle.std.specs.Prelude.{◌≡◌, ◌<◌, ◌⊎◌, ℕ, List, [], ◌∷◌, ◌++◌, flat_map, length, map, Contains, refl}
use Rattle.std.specs.List.{slice_index_or}
use Rattle.std.proofs.Common.{inl, inr, sym, ap, subst, arith, zero, suc}
use Rattle.std.proofs.lemmas.List.Concat.{flat_map_single}
use Rattle.std.proofs.lemmas.List.Elements.{Contains-append_cases, Contains-append_left, Contains-append_right}
use Rattle.proof_deeds.specs.raft_store.declared.entry.Entry.{Entry}
use Rattle.proof_deeds.specs.raft_node.declared.record.Decided.{Decided}
use Rattle.proof_deeds.specs.raft_node.declared.record.Established.{Established}
use Rattle.proof_deeds.specs.raft_node.declared.record.Executed.{Executed}
use Rattle.proof_deeds.specs.raft_node.declared.record.Installed.{Installed}
use Rattle.proof_deeds.specs.raft_node.Net.{Records}
use Rattle.proof_deeds.specs.raft_node.Safety.{entries_of}
use Rattle.proof_servers.specs.Follows.{AreIncluded, IsSubset}
use Rattle.proof_servers.specs.Recorded.{decided_as, established_as, joined, records_behind}

subset_left : {A : Type 0} (xs ys zs : List A) → IsSubset xs ys → IsSubset xs (ys ++ zs)
subset_left xs ys zs h x c = Contains-append_left ys zs x (h x c)

subset_both : {A : Type 0} (xs ys zs : List A) → IsSubset xs ys → IsSubset (xs ++ zs) (ys ++ zs)
subset_both {A} xs ys zs h x c = go (Contains-append_cases xs zs x c)
  where
    go : (Contains xs x ⊎ Contains zs x) → Contains (ys ++ zs) x
    go (inl d) = Contains-append_left ys zs x (h x d)
    go (inr d) = Contains-append_right ys zs x d

pub included_left : (r q : Records (List Entry)) → AreIncluded r (joined r q)
included_left r q = record {
  bag = subset_left r.bag r.bag q.bag (λ x c. c);
  executed = subset_left r.executed r.executed q.executed (λ x c. c);
  installed = subset_left r.installed r.installed q.installed (λ x c. c);
  decided = subset_left r.decided r.decided q.decided (λ x c. c);
  established = subset_left r.established r.established q.established (λ x c. c);
  answers = subset_left r.answers r.answers q.answers (λ x c. c);
}

pub included_both : (r s q : Records (List Entry)) → AreIncluded r s → AreIncluded (joined r q) (joined s q)
included_both r s q h = record {
  bag = subset_both r.bag s.bag q.bag h.bag;
  executed = subset_both r.executed s.executed q.executed h.executed;
  installed = subset_both r.installed s.installed q.installed h.installed;
  decided = subset_both r.decided s.decided q.decided h.decided;
  established = subset_both r.established s.established q.established h.established;
  answers = subset_both r.answers s.answers q.answers h.answers;
}

pub included_then : (r s q : Records (List Entry)) → AreIncluded r s → AreIncluded s q → AreIncluded r q
included_then r s q h k = record {
  bag = λ x c. k.bag x (h.bag x c);
  executed = λ x c. k.executed x (h.executed x c);
  installed = λ x c. k.installed x (h.installed x c);
  decided = λ x c. k.decided x (h.decided x c);
  established = λ x c. k.established x (h.established x c);
  answers = λ x c. k.answers x (h.answers x c);
}

pub included_self : (r : Records (List Entry)) → AreIncluded r r
included_self r = record { bag = λ x c. c; executed = λ x c. c; installed = λ x c. c; decided = λ x c. c; established = λ x c. c; answers = λ x c. c }

-- records that keep whole logs stay as they are, also behind others
same_decided : (ds : List (Decided (List Entry))) → map (decided_as (λ es. es)) ds ≡ ds
same_decided [] = refl
same_decided (d ∷ ds) = ap (λ xs. d ∷ xs) (same_decided ds)

same_established : (ds : List (Established (List Entry))) → map (established_as (λ es. es)) ds ≡ ds
same_established [] = refl
same_established (d ∷ ds) = ap (λ xs. d ∷ xs) (same_established ds)

pub behind_same : (r q : Records (List Entry)) → records_behind (λ es. es) r q ≡ joined r q
behind_same r q = λ i. record (joined r q) { decided = r.decided ++ same_decided q.decided i; established = r.established ++ same_established q.established i }

-- what is gathered of the elements of a subset, or mapped, is a subset
is_first : {A : Type 0} (a : A) (xs : List A) → Contains (a ∷ xs) a
is_first a xs = (0, omega arith, refl)

gathered : {A B : Type 0} (f : A → List B) (zs : List A) (a : A) (x : B) → Contains zs a → Contains (f a) x → Contains (flat_map f zs) x
gathered f [] a x c d = absurd (let l : c.0 < 0 = c.1 in omega arith)
gathered f (z ∷ zs) a x c d = go c.0 c.1 c.2 (gathered f zs a x)
  where
    go : (k : ℕ) → k < length (z ∷ zs) → slice_index_or (z ∷ zs) k a ≡ a → (Contains zs a → Contains (f a) x → Contains (flat_map f zs) x) → Contains (f z ++ flat_map f zs) x
    go zero l e rest = Contains-append_left (f z) (flat_map f zs) x (subst (λ b. Contains (f b) x) (sym e) d)
    go (suc k) l e rest = Contains-append_right (f z) (flat_map f zs) x (rest (k, omega arith, e) d)

subset_gathered : {A B : Type 0} (f : A → List B) (xs ys : List A) → IsSubset xs ys → IsSubset (flat_map f xs) (flat_map f ys)
subset_gathered f [] ys h x c = absurd (let l : c.0 < 0 = c.1 in omega arith)
subset_gathered f (a ∷ xs) ys h x c = go (Contains-append_cases (f a) (flat_map f xs) x c) (subset_gathered f xs ys (λ y e. h y (Contains-append_right (a ∷ []) xs y e)) x)
  where
    go : (Contains (f a) x ⊎ Contains (flat_map f xs) x) → (Contains (flat_map f xs) x → Contains (flat_map f ys) x) → Contains (flat_map f ys) x
    go (inl d) rest = gathered f ys a x (h a (is_first a xs)) d
    go (inr d) rest = rest d

-- a map gathers one element of each
pub contains_map : {A B : Type 0} (f : A → B) (xs : List A) (x : A) → Contains xs x → Contains (map f xs) (f x)
contains_map f xs x c = subst (λ ys. Contains ys (f x)) (flat_map_single f xs) (gathered (λ y. f y ∷ []) xs x (f x) c (is_first (f x) []))

subset_map : {A B : Type 0} (f : A → B) (xs ys : List A) → IsSubset xs ys → IsSubset (map f xs) (map f ys)
subset_map f xs ys h =
    subst (λ zs. IsSubset zs (map f ys)) (flat_map_single f xs)
    (subst (IsSubset (flat_map (λ y. f y ∷ []) xs)) (flat_map_single f ys) (subset_gathered (λ y. f y ∷ []) xs ys h))

abbrev of_executed : Executed → Entry
of_executed x = x.entry

abbrev of_installed : Installed → List Entry
of_installed x = x.entries

-- so the entries of records that are included are among the entries of the others
pub entries_included : (r q : Records (List Entry)) → AreIncluded r q → IsSubset (entries_of r.executed r.installed) (entries_of q.executed q.installed)
entries_included r q h x c = go (Contains-append_cases (map of_executed r.executed) (flat_map of_installed r.installed) x c)
  where
    go : (Contains (map of_executed r.executed) x ⊎ Contains (flat_map of_installed r.installed) x) → Contains (entries_of q.executed q.installed) x
    go (inl d) = Contains-append_left (map of_executed q.executed) (flat_map of_installed q.installed) x (subset_map of_executed r.executed q.executed h.executed x d)
    go (inr d) = Contains-append_right (map of_executed q.executed) (flat_map of_installed q.installed) x (subset_gathered of_installed r.installed q.installed h.installed x d)
