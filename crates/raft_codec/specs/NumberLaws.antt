-- Numbers in LEB128.
use Rattle.std.proofs.Common.{ℕ, ◌⊎◌, zero, suc, ◌≡◌, ◌≢◌, ◌<◌, ◌≤◌, ◌^◌, ◌+◌, ◌*◌, ◌-◌, ◌/◌, ◌%◌, Bool, true, false, cond, ltb, eqb, List, [], ◌∷◌, ◌++◌, Result, Ok, Err, refl, ap, subst, ◌∙◌, arith, inl, inr}
use Rattle.std.proofs.Math.Nat.{pow-le-pow_right, pow-suc}
use Rattle.std.proofs.lemmas.Bool.{cases_lt, ltb-false, ltb-true, lt-ltb, le-ltb, eqb-false, ne_eqb}
use Rattle.raft_codec.specs.declared.error.Fault.{Fault}
use Rattle.raft_codec.specs.declared.error.Fault.TheVariants.{NotShortest, TooLarge}
use Rattle.raft_codec.specs.Codec.{leb128, leb128_at, ◌>>=◌}

-- a number below 128 is one byte
pub one_byte : (more n : ℕ) → n < 128 → leb128 more n ≡ n ∷ []
unfolding leb128
one_byte zero n h = refl
one_byte (suc more) n h = rw (lt-ltb n 128 h) refl

-- behind the first byte of a greater one, the rest of the number follows
pub more_bytes : (more n : ℕ) → 128 ≤ n → n < 2 * 128 ^ more → (m : ℕ) × (n / 128 < 2 * 128 ^ m) × (leb128 more n ≡ (n % 128 + 128) ∷ leb128 m (n / 128))
unfolding leb128
more_bytes zero n h l = absurd (omega arith)
more_bytes (suc more) n h l =
    let p : 128 ^ suc more ≡ 128 ^ more * 128 = pow-suc 128 more in
    (more, omega (arith, p), rw (le-ltb n 128 h) refl)

fits_one : (more n : ℕ) → n < 128 → more ≢ 0 → n < 2 * 128 ^ more
fits_one zero n l h = absurd (h refl)
fits_one (suc more) n l h =
    let p : 128 ^ suc more ≡ 128 ^ more * 128 = pow-suc 128 more in
    let z : 0 ≤ more = omega arith in
    let o : 0 < 128 = omega arith in
    let q : 128 ^ 0 ≤ 128 ^ more = pow-le-pow_right o z in
    omega (arith, p, q)

-- ---- what is read stood there

bind_ok : {A B E : Type 0} (r : Result A E) (f : A → Result B E) (y : B) → (r >>= f) ≡ Ok y → (x : A) × (r ≡ Ok x) × (f x ≡ Ok y)
bind_ok (Ok x) f y e = (x, refl, e)
bind_ok (Err d) f y e = absurd cc

pub record Stood (more n : ℕ) (front rest : List ℕ) : Type 0 where
  pub fits : n < 2 * 128 ^ more
  pub stood : front ≡ leb128 more n ++ rest

abbrev found : ℕ → List ℕ → Result (ℕ × List ℕ) Fault
found n rest = Ok (n, rest)

found_is : (x y : ℕ × List ℕ) → found x.0 x.1 ≡ Ok y → x ≡ y
found_is x y e = cc

-- a byte, and what stands behind it
abbrev put : ℕ → ℕ × List ℕ → Result (ℕ × List ℕ) Fault
put b high = cond (eqb high.0 0) (Err NotShortest) (Ok (b - 128 + 128 * high.0, high.1))

last_byte : (b : ℕ) (bs : List ℕ) (x : ℕ × List ℕ) (t : Bool) → ltb b 2 ≡ t → cond t (found b bs) (Err TooLarge) ≡ Ok x → Stood 0 x.0 (b ∷ bs) x.1
unfolding leb128
last_byte b bs x true t e =
    let l : b < 2 = ltb-true b 2 t in
    let y : ℕ × List ℕ = (b, bs) in
    subst (λ (z : ℕ × List ℕ). Stood 0 z.0 (b ∷ bs) z.1) (found_is y x e) (record { fits = omega arith; stood = refl })
last_byte b bs x false t e = absurd cc

one_more : (more b high : ℕ) (bs after : List ℕ) → high ≢ 0 → 128 ≤ b → b < 256 → Stood more high bs after → Stood (suc more) (b - 128 + 128 * high) (b ∷ bs) after
unfolding leb128
one_more more b high bs after h l u s =
    let n : ℕ = b - 128 + 128 * high in
    let w : 128 ^ suc more ≡ 128 ^ more * 128 = pow-suc 128 more in
    let f : high < 2 * 128 ^ more = s.fits in
    let big : 128 ≤ n = omega arith in
    let low : n % 128 + 128 ≡ b = omega arith in
    let quotient : n / 128 ≡ high = omega arith in
    record { fits = omega (arith, w, f); stood = rw (le-ltb n 128 big, low, quotient) (ap (λ t. b ∷ t) s.stood) }

high_part : (more b : ℕ) (high x : ℕ × List ℕ) (bs : List ℕ) (t : Bool) → eqb high.0 0 ≡ t → 128 ≤ b → b < 256
    → cond t (Err NotShortest) (found (b - 128 + 128 * high.0) high.1) ≡ Ok x → Stood more high.0 bs high.1 → Stood (suc more) x.0 (b ∷ bs) x.1
high_part more b high x bs true t l u e s = absurd cc
high_part more b high x bs false t l u e s =
    let y : ℕ × List ℕ = (b - 128 + 128 * high.0, high.1) in
    subst (λ (z : ℕ × List ℕ). Stood (suc more) z.0 (b ∷ bs) z.1) (found_is y x e) (one_more more b high.0 bs high.1 (eqb-false high.0 0 t) l u s)

first_byte : (more b : ℕ) (bs : List ℕ) (x : ℕ × List ℕ) (t u : Bool) → ltb b 128 ≡ t → ltb b 256 ≡ u
    → cond t (found b bs) (cond u (leb128_at more bs >>= put b) (Err TooLarge)) ≡ Ok x
    → ((high : ℕ × List ℕ) → leb128_at more bs ≡ Ok high → Stood more high.0 bs high.1)
    → Stood (suc more) x.0 (b ∷ bs) x.1
first_byte more b bs x true u t v e later =
    let l : b < 128 = ltb-true b 128 t in
    let s : suc more ≢ 0 = λ z. absurd (omega (arith, z)) in
    let y : ℕ × List ℕ = (b, bs) in
    subst (λ (z : ℕ × List ℕ). Stood (suc more) z.0 (b ∷ bs) z.1) (found_is y x e)
    (record { fits = fits_one (suc more) b l s; stood = rw (one_byte (suc more) b l) refl })
first_byte more b bs x false true t v e later =
    let r = bind_ok (leb128_at more bs) (put b) x e in
    high_part more b r.0 x bs (eqb r.0.0 0) refl (ltb-false b 128 t) (ltb-true b 256 v) r.2 (later r.0 r.1)
first_byte more b bs x false false t v e later = absurd cc

pub stood : (more : ℕ) (front : List ℕ) (x : ℕ × List ℕ) → leb128_at more front ≡ Ok x → Stood more x.0 front x.1
unfolding leb128_at
stood zero [] x e = absurd cc
stood zero (b ∷ bs) x e = last_byte b bs x (ltb b 2) refl e
stood (suc more) [] x e = absurd cc
stood (suc more) (b ∷ bs) x e = first_byte more b bs x (ltb b 128) (ltb b 256) refl refl e (λ high h. stood more bs high h)

-- ---- what is written is read back

-- the byte of a number of 128 or more
behind : (more b : ℕ) (bs : List ℕ) (high : ℕ × List ℕ) → 128 ≤ b → b < 256 → high.0 ≢ 0 → leb128_at more bs ≡ Ok high → leb128_at (suc more) (b ∷ bs) ≡ Ok (b - 128 + 128 * high.0, high.1)
unfolding leb128_at
behind more b bs high l u h e = rw (le-ltb b 128 l, lt-ltb b 256 u, e, ne_eqb high.0 0 h) refl

pub read_back : (more n : ℕ) (rest : List ℕ) → n < 2 * 128 ^ more → leb128_at more (leb128 more n ++ rest) ≡ Ok (n, rest)
unfolding leb128 leb128_at
read_back zero n rest l = rw (lt-ltb n 2 (omega arith)) refl
read_back (suc more) n rest l = go (cases_lt n 128) (λ k. read_back more (n / 128) rest k) where
  go : (n < 128) ⊎ (128 ≤ n) → (n / 128 < 2 * 128 ^ more → leb128_at more (leb128 more (n / 128) ++ rest) ≡ Ok (n / 128, rest)) → leb128_at (suc more) (leb128 (suc more) n ++ rest) ≡ Ok (n, rest)
  go (inl h) later = rw (lt-ltb n 128 h) (rw (lt-ltb n 128 h) refl)
  go (inr h) later =
      let p : 128 ^ suc more ≡ 128 ^ more * 128 = pow-suc 128 more in
      let k : n / 128 < 2 * 128 ^ more = omega (arith, p) in
      let high : ℕ × List ℕ = (n / 128, rest) in
      let same : n % 128 + 128 - 128 + 128 * (n / 128) ≡ n = omega arith in
      rw (le-ltb n 128 h) (behind more (n % 128 + 128) (leb128 more (n / 128) ++ rest) high (omega arith) (omega arith) (omega arith) (later k) ∙ ap (λ m. found m rest) same)
