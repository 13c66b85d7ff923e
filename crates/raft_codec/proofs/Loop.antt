-- Reading items one after the other, as a loop does.
use Rattle.std.proofs.Common.{◌≡◌, ℕ, suc, ◌-◌, ◌+◌, ◌≤◌, ◌<◌, List, [], ◌∷◌, ◌++◌, Result, Ok, Err, refl, sym, ap, subst, ◌∙◌, append_assoc, arith}
use Rattle.std.proofs.lemmas.List.{append-nil}
use Rattle.raft_codec.specs.declared.error.DecodeError.{DecodeError}
use Rattle.raft_codec.specs.declared.error.DecodeError.TheVariants.{OutOfMemory, Malformed}
use Rattle.raft_codec.specs.Codec.{Codec, ◌>>=◌, Refuses, length_at, items_at, list}

-- what was read before, and what is still read
abbrev pub with_front : {X : Type 0} → List X → Result (List X × List ℕ) DecodeError → Result (List X × List ℕ) DecodeError
with_front front read = read >>= λ x. Ok (front ++ x.0, x.1)

module _ {X : Type 0} (c : Codec X) where
  regroup : (front : List X) (x : X) (read : Result (List X × List ℕ) DecodeError) → with_front front (read >>= λ xs. Ok (x ∷ xs.0, xs.1)) ≡ with_front (front ++ x ∷ []) read
  regroup front x (Ok xs) = ap (λ (ys : List X). Ok (ys, xs.1)) (simp append_assoc)
  regroup front x (Err e) = refl

  pub goes_on : (front : List X) (count i : ℕ) (bytes : List ℕ) (x : X) (after : List ℕ) (total : Result (List X × List ℕ) DecodeError) → i < count → c.read bytes ≡ Ok (x, after)
      → with_front front (items_at c (count - i) bytes) ≡ total → with_front (front ++ x ∷ []) (items_at c (count - (i + 1)) after) ≡ total
  unfolding items_at
  goes_on front count i bytes x after total lt h so_far =
      let k : count - i ≡ suc (count - (i + 1)) = omega arith in
      let one : with_front front (items_at c (count - i) bytes) ≡ with_front (front ++ x ∷ []) (items_at c (count - (i + 1)) after) = rw (k, h) (regroup front x (items_at c (count - (i + 1)) after)) in
      sym one ∙ so_far

  pub ends : (e : DecodeError) (front : List X) (count i : ℕ) (bytes : List ℕ) (total : Result (List X × List ℕ) DecodeError) → i < count → Refuses (c.read bytes) e
      → with_front front (items_at c (count - i) bytes) ≡ total → Refuses total e
  unfolding items_at
  ends OutOfMemory front count i bytes total lt h so_far = tt
  ends (Malformed fault left) front count i bytes total lt h so_far =
      let k : count - i ≡ suc (count - (i + 1)) = omega arith in
      let one : with_front front (items_at c (count - i) bytes) ≡ Err (Malformed fault left) = rw (k, h) refl in
      sym so_far ∙ one

  pub is_done : (front : List X) (count i : ℕ) (bytes : List ℕ) (total : Result (List X × List ℕ) DecodeError) → count ≤ i → with_front front (items_at c (count - i) bytes) ≡ total → total ≡ Ok (front, bytes)
  unfolding items_at
  is_done front count i bytes total le so_far =
      let k : count - i ≡ 0 = omega arith in
      let one : with_front front (items_at c (count - i) bytes) ≡ Ok (front, bytes) = rw k (ap (λ (xs : List X). Ok (xs, bytes)) (append-nil front)) in
      sym so_far ∙ one

  -- a list is its length and so many items
  pub listed : (front : List ℕ) (count : ℕ) (rest : List ℕ) → length_at front ≡ Ok (count, rest) → (list c).read front ≡ items_at c count rest
  unfolding list
  listed front count rest h = rw h refl

  pub refused : (front : List ℕ) (count : ℕ) (rest : List ℕ) (e : DecodeError) → length_at front ≡ Ok (count, rest) → Refuses (items_at c count rest) e → Refuses ((list c).read front) e
  refused front count rest e h r = subst (λ found. Refuses found e) (sym (listed front count rest h)) r
