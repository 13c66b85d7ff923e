-- Cursors rise with keys, and the first key at a cursor is the least of those that aren't below it.
use Rattle.std.proofs.Common.{◌≡◌, ℕ, zero, suc, ◌+◌, ◌-◌, ◌*◌, ◌/◌, ◌%◌, ◌^◌, ◌<◌, ◌≤◌, min, Bool, true, false, cond, eqb, leb, List, [], ◌∷◌, ◌++◌, length, refl, sym, ap, subst, ◌∙◌, append_assoc, lit<, lit≤, arith}
use Rattle.std.proofs.Math.Nat.{one-le-pow, pow-succ', mul-le-mul_left}
use Rattle.std.proofs.lemmas.List.{append-nil}
use Rattle.std.proofs.lemmas.Bool.{eqb-true, eqb-false, eq-eqb, ne_eqb, le-leb, lt-leb, leb-true, leb-false}
use Rattle.std.specs.Ordering.{nat_cmp, ordering_then, is_le}
use Rattle.std.specs.declared.cmp.Ordering.{Ordering}
use Rattle.std.specs.declared.cmp.Ordering.TheVariants.{Less, Equal, Greater}
use Rattle.std.specs.Cmp.{ranked}
use Rattle.std.specs.Cmp.Lexicographic.{slice_cmp}
use Rattle.raft_machine.specs.Cursors.{AreBytes, AreHeads, leading, cursor_of, first_within, first_at, next}

-- ---- worths

pub positive : (n : ℕ) → 0 < 256 ^ n
positive n = let p : 1 ≤ 256 ^ n = one-le-pow n 256 (lit< tt) in omega arith

pub more : (n : ℕ) → 256 ^ suc n ≡ 256 * 256 ^ n
more n = pow-succ' 256 n

-- what a byte and n others come to
room : (b P : ℕ) → b < 256 → P * b + P ≤ 256 * P
room b P h = let m : P * suc b ≤ P * 256 = mul-le-mul_left P h in omega arith

pub above : (a b P : ℕ) → a < b → P * a + P ≤ P * b
above a b P h = let m : P * suc a ≤ P * b = mul-le-mul_left P h in omega arith

-- ---- the first bytes as a number

pub leading_none : (n : ℕ) → leading n [] ≡ 0
unfolding leading
leading_none zero = refl
leading_none (suc n) = refl

pub leading-below : (n : ℕ) (k : List ℕ) → leading n k < 256 ^ n
unfolding leading
leading-below zero k = lit< tt
leading-below (suc n) [] = positive (suc n)
leading-below (suc n) (b ∷ k) = let p = positive (suc n) in omega arith

leading_cons : (n b : ℕ) (k : List ℕ) → leading (suc n) (b ∷ k) ≡ min (b * 256 ^ n + leading n k) (256 ^ suc n - 1)
unfolding leading
leading_cons n b k = refl

capped : (b P Q l : ℕ) → b < 256 → Q ≡ 256 * P → l < P → min (b * P + l) (Q - 1) ≡ b * P + l
capped b P Q l h e s = let r = room b P h in omega arith

leading_byte : (n b : ℕ) (k : List ℕ) → b < 256 → leading (suc n) (b ∷ k) ≡ b * 256 ^ n + leading n k
leading_byte n b k h = leading_cons n b k ∙ capped b (256 ^ n) (256 ^ suc n) (leading n k) h (more n) (leading-below n k)

pub leading_next : (n : ℕ) (k : List ℕ) → (next k).0 < 256 → leading (suc n) k ≡ (next k).0 * 256 ^ n + leading n (next k).1
leading_next n [] h = let z = leading_none (suc n) in let y = leading_none n in omega arith
leading_next n (b ∷ k) h = leading_byte n b k h

-- ---- a loop over the bytes

stepped : (P Q M l c b all : ℕ) → 0 < P → Q ≡ 256 * P → b < 256 → c * Q + (b * P + l) ≡ all → (c + 1) * Q ≤ M → ((c * 256 + b) * P + l ≡ all) × ((c * 256 + b + 1) * P ≤ M) × (c * 256 + b < M)
stepped P Q M l c b all p e h s r =
    let wide : (c + 1) * (256 * P) ≤ M = subst (λ (q : ℕ). (c + 1) * q ≤ M) e r in
    let same : c * (256 * P) + (b * P + l) ≡ all = subst (λ (q : ℕ). c * q + (b * P + l) ≡ all) e s in
    let one = room b P h in
    let grows : (c * 256 + b + 1) * 1 ≤ (c * 256 + b + 1) * P = mul-le-mul_left (c * 256 + b + 1) p in
    (omega arith, omega arith, omega arith)

-- what is known of a number that is read byte by byte, of which n are to come
pub record Reads (n cursor : ℕ) (rest : List ℕ) (all : ℕ) : Type 0 where
  pub sum : cursor * 256 ^ n + leading n rest ≡ all
  pub room : (cursor + 1) * 256 ^ n ≤ 2 ^ 64

pub reads_start : (k : List ℕ) → Reads 8 0 k (cursor_of k)
reads_start k = record { sum = omega arith; room = lit≤ tt }

reads_next : (n cursor : ℕ) (rest : List ℕ) (all : ℕ) → Reads (suc n) cursor rest all → (next rest).0 < 256
    → ((cursor * 256 + (next rest).0) * 256 ^ n + leading n (next rest).1 ≡ all) × ((cursor * 256 + (next rest).0 + 1) * 256 ^ n ≤ 2 ^ 64) × (cursor * 256 + (next rest).0 < 2 ^ 64)
reads_next n cursor rest all h s =
    stepped (256 ^ n) (256 ^ suc n) (2 ^ 64) (leading n (next rest).1) cursor (next rest).0 all (positive n) (more n) s
    (ap (λ (l : ℕ). cursor * 256 ^ suc n + l) (sym (leading_next n rest s)) ∙ h.sum) h.room

pub reads_more : (i cursor : ℕ) (rest : List ℕ) (all b : ℕ) (after : List ℕ) → i < 8 → Reads (8 - i) cursor rest all → (b, after) ≡ next rest → b < 256 → Reads (8 - (i + 1)) (cursor * 256 + b) after all
reads_more i cursor rest all b after l h e s =
    let n = 8 - (i + 1) in
    let eight : 8 - i ≡ suc n = omega arith in
    let whole : Reads (suc n) cursor rest all = subst (λ (m : ℕ). Reads m cursor rest all) eight h in
    let byte : b ≡ (next rest).0 = ap (λ (x : ℕ × List ℕ). x.0) e in
    let r = reads_next n cursor rest all whole (subst (λ (x : ℕ). x < 256) byte s) in
    let first : Reads n (cursor * 256 + (next rest).0) (next rest).1 all = record { sum = r.0; room = r.1 } in
    subst (λ (x : ℕ × List ℕ). Reads n (cursor * 256 + x.0) x.1 all) (sym e) first

pub reads_fit : (i cursor : ℕ) (rest : List ℕ) (all b : ℕ) (after : List ℕ) → i < 8 → Reads (8 - i) cursor rest all → (b, after) ≡ next rest → b < 256 → cursor * 256 + b < 2 ^ 64
reads_fit i cursor rest all b after l h e s =
    let n = 8 - (i + 1) in
    let eight : 8 - i ≡ suc n = omega arith in
    let whole : Reads (suc n) cursor rest all = subst (λ (m : ℕ). Reads m cursor rest all) eight h in
    let byte : b ≡ (next rest).0 = ap (λ (x : ℕ × List ℕ). x.0) e in
    let r = reads_next n cursor rest all whole (subst (λ (x : ℕ). x < 256) byte s) in
    subst (λ (x : ℕ). cursor * 256 + x < 2 ^ 64) (sym byte) r.2

pub reads_end : (i cursor : ℕ) (rest : List ℕ) (all : ℕ) → 8 ≤ i → Reads (8 - i) cursor rest all → cursor ≡ all
unfolding leading
reads_end i cursor rest all l h =
    let none : 8 - i ≡ 0 = omega arith in
    let whole : Reads 0 cursor rest all = subst (λ (n : ℕ). Reads n cursor rest all) none h in
    let s = whole.sum in
    omega arith

-- What is known of two such numbers, of which i bytes of the first are read: it is the number that the bytes of both are.
abbrev pub ReadsHeads : ℕ → ℕ → List ℕ → List ℕ → Type 0
ReadsHeads i word rest k = word * 256 ^ (16 - i) + leading (16 - i) rest ≡ leading 16 k

pub heads_start : (k : List ℕ) → ReadsHeads 0 0 k k
heads_start k = omega arith

shifted : (P Q l c b all : ℕ) → Q ≡ 256 * P → c * Q + (b * P + l) ≡ all → (c * 256 + b) * P + l ≡ all
shifted P Q l c b all e s = let same : c * (256 * P) + (b * P + l) ≡ all = subst (λ (q : ℕ). c * q + (b * P + l) ≡ all) e s in omega arith

pub heads_more : (i word : ℕ) (rest k : List ℕ) (b : ℕ) (after : List ℕ) → i < 8 → ReadsHeads i word rest k → (b, after) ≡ next rest → b < 256 → ReadsHeads (i + 1) (word * 256 + b) after k
heads_more i word rest k b after l h e s =
    let n = 16 - (i + 1) in
    let left : 16 - i ≡ suc n = omega arith in
    let whole : word * 256 ^ suc n + leading (suc n) rest ≡ leading 16 k = subst (λ (m : ℕ). word * 256 ^ m + leading m rest ≡ leading 16 k) left h in
    let byte : b ≡ (next rest).0 = ap (λ (x : ℕ × List ℕ). x.0) e in
    let small : (next rest).0 < 256 = subst (λ (x : ℕ). x < 256) byte s in
    let first = shifted (256 ^ n) (256 ^ suc n) (leading n (next rest).1) word (next rest).0 (leading 16 k) (more n) (ap (λ (x : ℕ). word * 256 ^ suc n + x) (sym (leading_next n rest small)) ∙ whole) in
    subst (λ (x : ℕ × List ℕ). (word * 256 + x.0) * 256 ^ n + leading n x.1 ≡ leading 16 k) (sym e) first

pub heads_end : (i word : ℕ) (rest k : List ℕ) → i ≡ 8 → ReadsHeads i word rest k → AreHeads word (cursor_of rest) k
heads_end i word rest k e h = subst (λ (j : ℕ). ReadsHeads j word rest k) e h

-- bytes behind a byte
pub bytes_more : (rest : List ℕ) (b : ℕ) (after : List ℕ) → (b, after) ≡ next rest → b < 256 → AreBytes after → AreBytes rest
bytes_more [] b after e s h = tt
bytes_more (a ∷ rest) b after e s h = (subst (λ (x : ℕ). x < 256) (ap (λ (x : ℕ × List ℕ). x.0) e) s, subst AreBytes (ap (λ (x : ℕ × List ℕ). x.1) e) h)

pub left_more : (rest : List ℕ) (b : ℕ) (after : List ℕ) → (b, after) ≡ next rest → length after ≡ length rest - 1
left_more [] b after e = ap (λ (x : ℕ × List ℕ). length x.1) e
left_more (a ∷ rest) b after e = ap (λ (x : ℕ × List ℕ). length x.1) e ∙ omega arith

pub left_after : (m n i : ℕ) → m ≡ n - i → m - 1 ≡ n - (i + 1)
left_after m n i e = omega arith

-- ---- the first key at a cursor

first_zero : (n c : ℕ) → c ≡ 0 → first_within n c ≡ []
unfolding first_within
first_zero zero c e = refl
first_zero (suc n) c e = ap (λ t. cond t [] ((c / 256 ^ n) ∷ first_within n (c % 256 ^ n))) (eq-eqb c 0 e)

first_more : (n c : ℕ) → (c ≡ 0 → ⊥) → first_within (suc n) c ≡ (c / 256 ^ n) ∷ first_within n (c % 256 ^ n)
unfolding first_within
first_more n c h = ap (λ t. cond t [] ((c / 256 ^ n) ∷ first_within n (c % 256 ^ n))) (ne_eqb c 0 h)

-- whether it isn't behind a key
abbrev at_most : List ℕ → List ℕ → Bool
at_most j k = is_le (slice_cmp nat_cmp j k)

first_of_all : (k : List ℕ) → at_most [] k ≡ true
first_of_all [] = refl
first_of_all (b ∷ k) = refl

at_most_zero : (n c : ℕ) (k : List ℕ) → c ≡ 0 → at_most (first_within n c) k ≡ leb c (leading n k)
at_most_zero n c k e = ap (λ (j : List ℕ). at_most j k) (first_zero n c e) ∙ first_of_all k ∙ sym (le-leb c (leading n k) (omega arith))

-- a number is its first byte and the others
divided : (P c : ℕ) → 0 < P → (c / P) * P + c % P ≡ c
divided P c p = omega arith

rest_below : (P c : ℕ) → 0 < P → c % P < P
rest_below P c p = omega arith

digit : (P Q c : ℕ) → 0 < P → Q ≡ 256 * P → c < Q → c / P < 256
digit P Q c p e h =
    let d = divided P c p in
    elim (leb 256 (c / P)) as (λ t. leb 256 (c / P) ≡ t → c / P < 256) [
      | true ↦ λ t. let l : 256 ≤ c / P = leb-true 256 (c / P) t in let m : P * 256 ≤ P * (c / P) = mul-le-mul_left P l in absurd (omega arith)
      | false ↦ λ t. leb-false 256 (c / P) t
    ] refl

by_first : (P Q q r b l : ℕ) (rest : Bool) → 0 < P → Q ≡ 256 * P → r < P → l < P → q < 256 → rest ≡ leb r l
    → is_le (ordering_then (nat_cmp q b) (cond rest Less Greater)) ≡ leb (q * P + r) (min (b * P + l) (Q - 1))
by_first P Q q r b l rest p e hr hl hq same =
    elim (nat_cmp q b) as (λ o. o ≡ nat_cmp q b → is_le (ordering_then o (cond rest Less Greater)) ≡ leb (q * P + r) (min (b * P + l) (Q - 1))) [
      | Less ↦ λ o. let lt = ranked q b Less o in let m = above q b P lt in let n = room q P hq in sym (le-leb _ _ (omega arith))
      | Equal ↦ λ o. let eq : q ≡ b = ranked q b Equal o in let n = room q P hq in
          let whole : min (q * P + l) (Q - 1) ≡ q * P + l = capped q P Q l hq e hl in
          let shifted : leb r l ≡ leb (q * P + r) (q * P + l) = same_test r l (q * P) in
          simple rest ∙ same ∙ shifted ∙ ap (leb (q * P + r)) (sym whole) ∙ ap (λ (x : ℕ). leb (q * P + r) (min (x * P + l) (Q - 1))) eq
      | Greater ↦ λ o. let gt = ranked q b Greater o in let m = above b q P gt in sym (lt-leb _ _ (omega arith))
    ] refl
  where
    simple : (t : Bool) → is_le (cond t Less Greater) ≡ t
    simple true = refl
    simple false = refl

    same_test : (r l x : ℕ) → leb r l ≡ leb (x + r) (x + l)
    same_test r l x =
        elim (leb r l) as (λ t. leb r l ≡ t → t ≡ leb (x + r) (x + l)) [
          | true ↦ λ t. let h : r ≤ l = leb-true r l t in sym (le-leb (x + r) (x + l) (omega arith))
          | false ↦ λ t. let h : l < r = leb-false r l t in sym (lt-leb (x + r) (x + l) (omega arith))
        ] refl

-- of an order only whether it is at most counts
le_alone : (o p : Ordering) → is_le (ordering_then o p) ≡ is_le (ordering_then o (cond (is_le p) Less Greater))
le_alone Less p = refl
le_alone Equal Less = refl
le_alone Equal Equal = refl
le_alone Equal Greater = refl
le_alone Greater p = refl

pub first-order : (n c : ℕ) (k : List ℕ) → c < 256 ^ n → at_most (first_within n c) k ≡ leb c (leading n k)
first-order zero c k h = at_most_zero zero c k (omega arith)
first-order (suc n) c [] h =
    elim (eqb c 0) as (λ t. eqb c 0 ≡ t → at_most (first_within (suc n) c) [] ≡ leb c (leading (suc n) [])) [
      | true ↦ λ t. at_most_zero (suc n) c [] (eqb-true c 0 t)
      | false ↦ λ t.
          let some = eqb-false c 0 t in
          let none = leading_none (suc n) in
          ap (λ (j : List ℕ). at_most j []) (first_more n c some) ∙ sym (lt-leb c (leading (suc n) []) (omega arith))
    ] refl
first-order (suc n) c (b ∷ k) h =
    elim (eqb c 0) as (λ t. eqb c 0 ≡ t → at_most (first_within (suc n) c) (b ∷ k) ≡ leb c (leading (suc n) (b ∷ k))) [
      | true ↦ λ t. at_most_zero (suc n) c (b ∷ k) (eqb-true c 0 t)
      | false ↦ λ t.
          let P = 256 ^ n in
          let p = positive n in
          let r = rest_below P c p in
          ap (λ (j : List ℕ). at_most j (b ∷ k)) (first_more n c (eqb-false c 0 t))
          ∙ le_alone (nat_cmp (c / P) b) (slice_cmp nat_cmp (first_within n (c % P)) k)
          ∙ by_first P (256 ^ suc n) (c / P) (c % P) b (leading n k) (at_most (first_within n (c % P)) k) p (more n) r (leading-below n k) (digit P (256 ^ suc n) c p (more n) h) (first-order n (c % P) k r)
          ∙ ap (λ (x : ℕ). leb x (min (b * P + leading n k) (256 ^ suc n - 1))) (divided P c p)
          ∙ ap (leb c) (sym (leading_cons n b k))
    ] refl

-- ---- cursors rise with keys

pub leading-rises : (n : ℕ) (j k : List ℕ) → slice_cmp nat_cmp j k ≡ Less → leading n j ≤ leading n k
unfolding leading
leading-rises zero j k h = omega arith
leading-rises (suc n) [] k h = omega arith
leading-rises (suc n) (a ∷ j) [] h = absurd cc
leading-rises (suc n) (a ∷ j) (b ∷ k) h =
    let P = 256 ^ n in
    let l = leading-below n j in
    elim (nat_cmp a b) as (λ o. o ≡ nat_cmp a b → ordering_then o (slice_cmp nat_cmp j k) ≡ Less → min (a * P + leading n j) (256 ^ suc n - 1) ≤ min (b * P + leading n k) (256 ^ suc n - 1)) [
      | Less ↦ λ o e. let lt = ranked a b Less o in let m = above a b P lt in omega arith
      | Equal ↦ λ o e. let eq : a ≡ b = ranked a b Equal o in let later = leading-rises n j k e in let m : a * P ≡ b * P = ap (λ (x : ℕ). x * P) eq in omega arith
      | Greater ↦ λ o e. absurd cc
    ] refl h

pub cursor-below : (k : List ℕ) → cursor_of k < 2 ^ 64
cursor-below k = leading-below 8 k

-- ---- a loop over a cursor's bytes

worth_is : (m : ℕ) → 256 ^ suc m / 256 ≡ 256 ^ m
worth_is m = let e = more m in omega arith

-- what is known of the first key at a cursor, of which at most n bytes are to come
pub record Writes (n cursor left worth : ℕ) (key : List ℕ) : Type 0 where
  pub bytes : key ++ first_within n left ≡ first_at cursor
  pub below : left < 256 ^ n
  pub is : worth ≡ 256 ^ n / 256

pub writes_done : (n cursor left worth : ℕ) (key : List ℕ) → Writes n cursor left worth key → left ≡ 0 → key ≡ first_at cursor
writes_done n cursor left worth key h e = sym (append-nil key) ∙ ap (λ (k : List ℕ). key ++ k) (sym (first_zero n left e)) ∙ h.bytes

pub writes_end : (cursor left worth : ℕ) (key : List ℕ) → Writes 0 cursor left worth key → key ≡ first_at cursor
writes_end cursor left worth key h = let b = h.below in writes_done 0 cursor left worth key h (omega arith)

pub writes_worth : (i cursor left worth : ℕ) (key : List ℕ) → i < 8 → Writes (8 - i) cursor left worth key → worth ≡ 256 ^ (8 - (i + 1))
writes_worth i cursor left worth key l h =
    let n = 8 - (i + 1) in
    let eight : 8 - i ≡ suc n = omega arith in
    h.is ∙ ap (λ (m : ℕ). 256 ^ m / 256) eight ∙ worth_is n

pub writes_divides : (i cursor left worth : ℕ) (key : List ℕ) → i < 8 → Writes (8 - i) cursor left worth key → 0 < worth
writes_divides i cursor left worth key l h = let e = writes_worth i cursor left worth key l h in let p = positive (8 - (i + 1)) in omega arith

pub writes_byte : (i cursor left worth : ℕ) (key : List ℕ) → i < 8 → Writes (8 - i) cursor left worth key → left / worth < 256
writes_byte i cursor left worth key l h =
    let n = 8 - (i + 1) in
    let eight : 8 - i ≡ suc n = omega arith in
    let e = writes_worth i cursor left worth key l h in
    subst (λ (w : ℕ). left / w < 256) (sym e) (digit (256 ^ n) (256 ^ suc n) left (positive n) (more n) (subst (λ (m : ℕ). left < 256 ^ m) eight h.below))

pub writes_more : (i cursor left worth : ℕ) (key longer : List ℕ) → i < 8 → Writes (8 - i) cursor left worth key → (left ≡ 0 → ⊥) → longer ≡ key ++ (left / worth) ∷ []
    → Writes (8 - (i + 1)) cursor (left % worth) (worth / 256) longer
writes_more i cursor left worth key longer l h some grown =
    let n = 8 - (i + 1) in
    let eight : 8 - i ≡ suc n = omega arith in
    let e : worth ≡ 256 ^ n = writes_worth i cursor left worth key l h in
    let whole : key ++ first_within (suc n) left ≡ first_at cursor = subst (λ (m : ℕ). key ++ first_within m left ≡ first_at cursor) eight h.bytes in
    let next : Writes n cursor (left % 256 ^ n) (256 ^ n / 256) (key ++ (left / 256 ^ n) ∷ []) = record {
      bytes = append_assoc key ((left / 256 ^ n) ∷ []) (first_within n (left % 256 ^ n)) ∙ ap (λ (k : List ℕ). key ++ k) (sym (first_more n left some)) ∙ whole;
      below = rest_below (256 ^ n) left (positive n);
      is = refl;
    } in
    subst (Writes n cursor (left % worth) (worth / 256)) (sym grown) (subst (λ (w : ℕ). Writes n cursor (left % w) (w / 256) (key ++ (left / w) ∷ [])) (sym e) next)
