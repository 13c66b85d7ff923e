-- Pieces of three lists that stand one behind the other.
use Rattle.std.proofs.Common.{ℕ, ◌≡◌, ◌+◌, ◌-◌, ◌≤◌, ◌∙◌, suc, zero, List, [], ◌∷◌, ◌++◌, length, min, take, drop, refl, sym, ap, arith}
use Rattle.std.proofs.Common.{append_assoc, length-append}
use Rattle.std.proofs.lemmas.List.{length-take}
use Rattle.service_host.specs.declared.frames.OutputKind.TheVariants.{LogPiece}
use Rattle.service_host.specs.Frames.{framed, head_of, piece_of}
use Rattle.service_host.specs.Pieces.{Left}

take_through : (n : ℕ) (xs ys : List ℕ) → take n (xs ++ ys) ≡ take n xs ++ take (n - length xs) ys
take_through zero xs ys =
    let none : 0 ≡ 0 - length xs = omega arith in
    ap (λ k. take k ys) none
take_through (suc n) [] ys =
    let all : suc n ≡ suc n - 0 = omega arith in
    ap (λ k. take k ys) all
take_through (suc n) (x ∷ xs) ys =
    let less : n - length xs ≡ suc n - suc (length xs) = omega arith in
    ap (λ zs. x ∷ zs) (take_through n xs ys ∙ ap (λ k. take n xs ++ take k ys) less)

drop_through : (n : ℕ) (xs ys : List ℕ) → drop n (xs ++ ys) ≡ drop n xs ++ drop (n - length xs) ys
drop_through zero xs ys =
    let none : 0 ≡ 0 - length xs = omega arith in
    ap (λ k. xs ++ drop k ys) none
drop_through (suc n) [] ys =
    let all : suc n ≡ suc n - 0 = omega arith in
    ap (λ k. drop k ys) all
drop_through (suc n) (x ∷ xs) ys =
    let less : n - length xs ≡ suc n - suc (length xs) = omega arith in
    drop_through n xs ys ∙ ap (λ k. drop n xs ++ drop k ys) less

-- a piece that has any bytes
piece_is : (at : ℕ) (bytes : List ℕ) → 1 ≤ length bytes → piece_of at bytes ≡ framed LogPiece at bytes
piece_is at [] l = absurd (omega (arith, l))
piece_is at (b ∷ bytes) l = refl

-- so many of the first list, of the second as many as there is room for then, and so on
module _ (most : ℕ) (f s r : List ℕ) (lf nf ls ns lr nr : ℕ) (lf_is : lf ≡ length f) (nf_is : nf ≡ min lf most)
    (ls_is : ls ≡ length s) (ns_is : ns ≡ min ls (most - nf)) (lr_is : lr ≡ length r) (nr_is : nr ≡ min lr ((most - nf) - ns)) where
  second : most - nf ≡ most - length f
  second = omega (arith, lf_is, nf_is)

  third : (most - nf) - ns ≡ (most - nf) - length s
  third = omega (arith, ls_is, ns_is)

  takes : take most (f ++ (s ++ r)) ≡ take most f ++ (take (most - nf) s ++ take ((most - nf) - ns) r)
  takes =
      take_through most f (s ++ r)
      ∙ ap (λ x. take most f ++ x) (ap (λ k. take k (s ++ r)) (sym second)
      ∙ (take_through (most - nf) s r ∙ ap (λ k. take (most - nf) s ++ take k r) (sym third)))

  pub drops : drop most (f ++ (s ++ r)) ≡ drop most f ++ (drop (most - nf) s ++ drop ((most - nf) - ns) r)
  drops =
      drop_through most f (s ++ r)
      ∙ ap (λ x. drop most f ++ x) (ap (λ k. drop k (s ++ r)) (sym second)
      ∙ (drop_through (most - nf) s r ∙ ap (λ k. drop (most - nf) s ++ drop k r) (sym third)))

  -- how many they are
  abbrev count : ℕ
  count = most - (((most - nf) - ns) - nr)

  count_is : count ≡ min most (length (f ++ (s ++ r)))
  count_is =
      let all : length (f ++ (s ++ r)) ≡ length f + (length s + length r) =
      length-append f (s ++ r) ∙ ap (λ k. length f + k) (length-append s r) in
      omega (arith, all, lf_is, nf_is, ls_is, ns_is, lr_is, nr_is)

  pub put_is : (at : ℕ) (old o1 o2 o3 o4 : List ℕ) → 1 ≤ most - (((most - nf) - ns) - nr)
      → o1 ≡ old ++ head_of LogPiece at (most - (((most - nf) - ns) - nr)) → o2 ≡ o1 ++ take most f
      → o3 ≡ o2 ++ take (most - nf) s → o4 ≡ o3 ++ take ((most - nf) - ns) r
      → o4 ≡ old ++ piece_of at (take most (f ++ (s ++ r)))
  put_is at old o1 o2 o3 o4 some w1 w2 w3 w4 =
      let a = take most f in
      let b = take (most - nf) s in
      let d = take ((most - nf) - ns) r in
      let head = head_of LogPiece at count in
      let bytes = take most (f ++ (s ++ r)) in
      let n : length bytes ≡ count = length-take most (f ++ (s ++ r)) ∙ sym count_is in
      let piece : piece_of at bytes ≡ head ++ (a ++ (b ++ d)) =
      piece_is at bytes (omega (arith, n, some))
      ∙ (ap (λ k. head_of LogPiece at k ++ bytes) n ∙ ap (λ x. head ++ x) takes) in
      let written : o4 ≡ (((old ++ head) ++ a) ++ b) ++ d =
      w4 ∙ ap (λ x. x ++ d) (w3 ∙ ap (λ x. x ++ b) (w2 ∙ ap (λ x. x ++ a) w1)) in
      written
      ∙ (append_assoc ((old ++ head) ++ a) b d
      ∙ (append_assoc (old ++ head) a (b ++ d) ∙ (append_assoc old head (a ++ (b ++ d)) ∙ ap (λ x. old ++ x) (sym piece))))

  pub left_is : (at end : ℕ) (f' s' r' : List ℕ) → end ≡ at + (most - (((most - nf) - ns) - nr)) → f' ≡ drop most f
      → s' ≡ drop (most - nf) s → r' ≡ drop ((most - nf) - ns) r
      → ◌≡◌ {A = Left} (record { at = end; bytes = f' ++ (s' ++ r') })
      (record { at = at + min most (length (f ++ (s ++ r))); bytes = drop most (f ++ (s ++ r)) })
  left_is at end f' s' r' end_is f_is s_is r_is =
      let bytes : f' ++ (s' ++ r') ≡ drop most (f ++ (s ++ r)) = rw (f_is, s_is, r_is) (sym drops) in
      let place : end ≡ at + min most (length (f ++ (s ++ r))) = end_is ∙ ap (λ k. at + k) count_is in
      rw (bytes, place) refl
