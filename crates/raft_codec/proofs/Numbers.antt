-- Reading a number one byte after the other, as a loop does.
use Rattle.std.proofs.Common.{ℕ, zero, suc, ◌≡◌, ◌≢◌, ◌<◌, ◌≤◌, ◌^◌, ◌+◌, ◌*◌, ◌-◌, Bool, true, false, cond, ltb, eqb, List, [], ◌∷◌, Result, Ok, Err, refl, sym, ap, ◌∙◌, arith}
use Rattle.std.proofs.Math.Nat.{mul-add, mul_comm, mul_assoc, mul-le-mul_right, pow-le-pow_right, pow-suc}
use Rattle.std.proofs.lemmas.Bool.{lt-ltb, le-ltb, eqb-false, ne_eqb}
use Rattle.raft_codec.specs.declared.error.Fault.{Fault}
use Rattle.raft_codec.specs.declared.error.Fault.TheVariants.{TooShort, TooLarge, NotShortest}
use Rattle.raft_codec.specs.Codec.{leb128_at, ◌>>=◌}

abbrev Read : Type 0
Read = Result (ℕ × List ℕ) Fault

abbrev num : ℕ → List ℕ → Read
num n rest = Ok (n, rest)

-- what is read behind bytes that hold `low`: it counts `unit` times as much
abbrev pub behind : ℕ → ℕ → Read → Read
behind low unit read = read >>= λ high. cond (eqb high.0 0) (Err NotShortest) (Ok (low + unit * high.0, high.1))

pub no_byte : (more : ℕ) → leb128_at more [] ≡ Err TooShort
unfolding leb128_at
no_byte zero = refl
no_byte (suc more) = refl

pub last_byte : (more b : ℕ) (rest : List ℕ) → b < 128 → leb128_at (suc more) (b ∷ rest) ≡ Ok (b, rest)
unfolding leb128_at
last_byte more b rest h = rw (lt-ltb b 128 h) refl

pub first_byte : (more b : ℕ) (rest : List ℕ) → 128 ≤ b → b < 256 → leb128_at (suc more) (b ∷ rest) ≡ behind (b - 128) 128 (leb128_at more rest)
unfolding leb128_at
first_byte more b rest l u = rw (le-ltb b 128 l, lt-ltb b 256 u) refl

sum : (low unit here high : ℕ) → low + unit * (here + 128 * high) ≡ (low + here * unit) + (unit * 128) * high
sum low unit here high =
    let a : unit * (here + 128 * high) ≡ unit * here + unit * (128 * high) = mul-add unit here (128 * high) in
    let b : unit * here ≡ here * unit = mul_comm unit here in
    let c : unit * 128 * high ≡ unit * (128 * high) = mul_assoc unit 128 high in
    omega (arith, a, b, c)

twice : (low unit here : ℕ) (read : Read) → behind low unit (behind here 128 read) ≡ behind (low + here * unit) (unit * 128) read
twice low unit here (Err fault) = refl
twice low unit here (Ok high) = go (eqb high.0 0) refl where
  go : (t : Bool) → eqb high.0 0 ≡ t → behind low unit (cond t (Err NotShortest) (Ok (here + 128 * high.0, high.1))) ≡ cond t (Err NotShortest) (Ok ((low + here * unit) + (unit * 128) * high.0, high.1))
  go true e = refl
  go false e =
      let n : high.0 ≢ 0 = eqb-false high.0 0 e in
      rw (ne_eqb (here + 128 * high.0) 0 (λ z. n (omega (arith, z)))) (ap (λ (m : ℕ). Ok (m, high.1)) (sum low unit here high.0))

-- ---- the loop: a byte at place i behind the first, of `more`

module _ (low unit i : ℕ) (all : Read) (lt : i < 8) where
  pub goes_on : (b : ℕ) (front rest : List ℕ) → front ≡ b ∷ rest → 128 ≤ b → b < 256 → behind low unit (leb128_at (8 - i) front) ≡ all
      → behind (low + (b - 128) * unit) (unit * 128) (leb128_at (8 - (i + 1)) rest) ≡ all
  goes_on b front rest is l u so_far =
      let k : 8 - i ≡ suc (8 - (i + 1)) = omega arith in
      sym (twice low unit (b - 128) (leb128_at (8 - (i + 1)) rest))
      ∙ ap (behind low unit) (sym (first_byte (8 - (i + 1)) b rest l u))
      ∙ ap (λ m. behind low unit (leb128_at m (b ∷ rest))) (sym k)
      ∙ ap (λ bs. behind low unit (leb128_at (8 - i) bs)) (sym is)
      ∙ so_far

  last : (b : ℕ) (front rest : List ℕ) → front ≡ b ∷ rest → b < 128 → behind low unit (leb128_at (8 - i) front) ≡ all → behind low unit (Ok (b, rest)) ≡ all
  last b front rest is l so_far =
      let k : 8 - i ≡ suc (8 - (i + 1)) = omega arith in
      ap (behind low unit) (sym (last_byte (8 - (i + 1)) b rest l))
      ∙ ap (λ m. behind low unit (leb128_at m (b ∷ rest))) (sym k)
      ∙ ap (λ bs. behind low unit (leb128_at (8 - i) bs)) (sym is)
      ∙ so_far

  pub last_is_zero : (b : ℕ) (front rest : List ℕ) → front ≡ b ∷ rest → b ≡ 0 → behind low unit (leb128_at (8 - i) front) ≡ all → all ≡ Err NotShortest
  last_is_zero b front rest is z so_far = sym (last b front rest is (omega arith) so_far) ∙ ap (λ n. behind low unit (Ok (n, rest))) z

  pub last_is : (b : ℕ) (front rest : List ℕ) → front ≡ b ∷ rest → b ≢ 0 → b < 128 → behind low unit (leb128_at (8 - i) front) ≡ all → all ≡ Ok (low + b * unit, rest)
  last_is b front rest is n l so_far =
      sym (last b front rest is l so_far) ∙ (rw (ne_eqb b 0 n) (ap (λ m. num (low + m) rest) (mul_comm unit b)))

pub cut_off : (low unit more : ℕ) (all : Read) (front : List ℕ) → front ≡ [] → behind low unit (leb128_at more front) ≡ all → all ≡ Err TooShort
cut_off low unit more all front is so_far = sym so_far ∙ ap (λ bs. behind low unit (leb128_at more bs)) is ∙ ap (behind low unit) (no_byte more)

-- ---- the tenth byte

module _ (low unit i : ℕ) (all : Read) (ge : 8 ≤ i) where
  tenth : (b : ℕ) (front rest : List ℕ) → front ≡ b ∷ rest → behind low unit (leb128_at (8 - i) front) ≡ all → all ≡ behind low unit (cond (ltb b 2) (num b rest) (Err TooLarge))
  unfolding leb128_at
  tenth b front rest is so_far =
      let k : 8 - i ≡ zero = omega arith in
      sym so_far ∙ ap (λ bs. behind low unit (leb128_at (8 - i) bs)) is ∙ ap (λ m. behind low unit (leb128_at m (b ∷ rest))) k

  pub tenth_is_zero : (b : ℕ) (front rest : List ℕ) → front ≡ b ∷ rest → b ≡ 0 → behind low unit (leb128_at (8 - i) front) ≡ all → all ≡ Err NotShortest
  tenth_is_zero b front rest is z so_far = tenth b front rest is so_far ∙ ap (λ n. behind low unit (cond (ltb n 2) (num n rest) (Err TooLarge))) z

  pub tenth_is_one : (b : ℕ) (front rest : List ℕ) → front ≡ b ∷ rest → b ≡ 1 → behind low unit (leb128_at (8 - i) front) ≡ all → all ≡ Ok (low + unit, rest)
  tenth_is_one b front rest is o so_far =
      let e : low + unit * 1 ≡ low + unit = omega arith in
      tenth b front rest is so_far ∙ ap (λ n. behind low unit (cond (ltb n 2) (num n rest) (Err TooLarge))) o ∙ ap (λ m. num m rest) e

  pub tenth_is_more : (b : ℕ) (front rest : List ℕ) → front ≡ b ∷ rest → 2 ≤ b → behind low unit (leb128_at (8 - i) front) ≡ all → all ≡ Err TooLarge
  tenth_is_more b front rest is l so_far = tenth b front rest is so_far ∙ rw (le-ltb b 2 l) refl

-- ---- what fits

pub within : (low unit b : ℕ) → low < unit → b < 128 → low + b * unit < unit * 128
within low unit b l u =
    let m : b ≤ 127 = omega arith in
    let p : b * unit ≤ 127 * unit = mul-le-mul_right unit m in
    omega (arith, p)

pub next_unit : (unit i : ℕ) → unit ≡ 128 ^ (i + 1) → unit * 128 ≡ 128 ^ (i + 1 + 1)
next_unit unit i e =
    let k : i + 1 + 1 ≡ suc (i + 1) = omega arith in
    rw k (sym (pow-suc 128 (i + 1) ∙ ap (λ u. u * 128) (sym e)))

pub unit_fits : (unit i : ℕ) → unit ≡ 128 ^ (i + 1) → i < 9 → unit ≤ 128 ^ 9
unit_fits unit i e l =
    let one : 0 < 128 = omega arith in
    let le : i + 1 ≤ 9 = omega arith in
    let p : 128 ^ (i + 1) ≤ 128 ^ 9 = pow-le-pow_right one le in
    omega (arith, p)
