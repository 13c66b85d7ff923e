-- The sum is linear: what zero bytes make of `x ^ y` is what they make of x, `^` what they make of y.
use Rattle.std.specs.Prelude.{ℕ, ◌≡◌, ◌<◌, ◌+◌, ◌*◌, ◌/◌, ◌%◌, ◌^◌, ◌⊎◌, List, [], ◌∷◌, ◌++◌, bit_xor, refl}
use Rattle.std.proofs.Common.{suc, zero, arith, length, get_or, ◌∙◌, ap, sym, inl, inr, mul_assoc, pow-suc}
use Rattle.std.specs.Int.Bits.{xor_assoc, xor_comm, xor_self, xor_zero_r, xor_shr, xor_mod, xor_shifted}
use Rattle.std.proofs.lemmas.Nat.{div-add-mod', shl-shr}
use Rattle.raft_frames.specs.Crc.{bit_step, shift, append, crc32c, more}

pub step_even : (c : ℕ) → c % 2 ≡ 0 → bit_step c ≡ c / 2
unfolding bit_step
step_even c h = rw h refl

pub step_odd : (c : ℕ) → c % 2 ≡ 1 → bit_step c ≡ bit_xor (c / 2) 0x82F63B78
unfolding bit_step
step_odd c h = rw h refl

pub parity : (c : ℕ) → (c % 2 ≡ 0) ⊎ (c % 2 ≡ 1)
parity c = grind arith

half_xor : (x y : ℕ) → bit_xor x y / 2 ≡ bit_xor (x / 2) (y / 2)
half_xor x y = xor_shr x y 1

odd_xor : (x y a b : ℕ) → x % 2 ≡ a → y % 2 ≡ b → bit_xor x y % 2 ≡ bit_xor a b
odd_xor x y a b h k = xor_mod x y 1 ∙ (ap (λ n. bit_xor n (y % 2)) h ∙ ap (λ n. bit_xor a n) k)

-- (a ^ p) ^ b
middle_last : (a b p : ℕ) → bit_xor (bit_xor a p) b ≡ bit_xor (bit_xor a b) p
middle_last a b p = xor_assoc a p b ∙ (ap (bit_xor a) (xor_comm p b) ∙ sym (xor_assoc a b p))

both_cancel : (a b p : ℕ) → bit_xor (bit_xor a p) (bit_xor b p) ≡ bit_xor a b
both_cancel a b p =
    xor_assoc a p (bit_xor b p)
    ∙ ap (bit_xor a) (ap (bit_xor p) (xor_comm b p) ∙ (sym (xor_assoc p p b) ∙ ap (λ n. bit_xor n b) (xor_self p)))

pub bit_step-xor : (x y : ℕ) → bit_step (bit_xor x y) ≡ bit_xor (bit_step x) (bit_step y)
bit_step-xor x y = go (parity x) (parity y)
  where
    go : ((x % 2 ≡ 0) ⊎ (x % 2 ≡ 1)) → ((y % 2 ≡ 0) ⊎ (y % 2 ≡ 1)) → bit_step (bit_xor x y) ≡ bit_xor (bit_step x) (bit_step y)
    go (inl h) (inl k) =
        step_even (bit_xor x y) (odd_xor x y 0 0 h k)
        ∙ (half_xor x y ∙ (ap (λ n. bit_xor n (y / 2)) (sym (step_even x h)) ∙ ap (bit_xor (bit_step x)) (sym (step_even y k))))
    go (inl h) (inr k) =
        step_odd (bit_xor x y) (odd_xor x y 0 1 h k)
        ∙ (ap (λ n. bit_xor n 0x82F63B78) (half_xor x y)
        ∙ (xor_assoc (x / 2) (y / 2) 0x82F63B78
        ∙ (ap (λ n. bit_xor n (bit_xor (y / 2) 0x82F63B78)) (sym (step_even x h)) ∙ ap (bit_xor (bit_step x)) (sym (step_odd y k)))))
    go (inr h) (inl k) =
        step_odd (bit_xor x y) (odd_xor x y 1 0 h k)
        ∙ (ap (λ n. bit_xor n 0x82F63B78) (half_xor x y)
        ∙ (sym (middle_last (x / 2) (y / 2) 0x82F63B78)
        ∙ (ap (λ n. bit_xor n (y / 2)) (sym (step_odd x h)) ∙ ap (bit_xor (bit_step x)) (sym (step_even y k)))))
    go (inr h) (inr k) =
        step_even (bit_xor x y) (odd_xor x y 1 1 h k)
        ∙ (half_xor x y
        ∙ (sym (both_cancel (x / 2) (y / 2) 0x82F63B78)
        ∙ (ap (λ n. bit_xor n (bit_xor (y / 2) 0x82F63B78)) (sym (step_odd x h)) ∙ ap (bit_xor (bit_step x)) (sym (step_odd y k)))))

-- n steps
steps : ℕ → ℕ → ℕ
steps zero c = c
steps (suc n) c = steps n (bit_step c)

steps-xor : (n x y : ℕ) → steps n (bit_xor x y) ≡ bit_xor (steps n x) (steps n y)
unfolding steps
steps-xor zero x y = refl
steps-xor (suc n) x y = ap (steps n) (bit_step-xor x y) ∙ steps-xor n (bit_step x) (bit_step y)

shift_is : (c : ℕ) → shift c ≡ steps 8 c
unfolding shift steps
shift_is c = refl

pub shift-xor : (x y : ℕ) → shift (bit_xor x y) ≡ bit_xor (shift x) (shift y)
shift-xor x y = shift_is (bit_xor x y) ∙ (steps-xor 8 x y ∙ (ap (λ n. bit_xor n (steps 8 y)) (sym (shift_is x)) ∙ ap (bit_xor (shift x)) (sym (shift_is y))))

bit_step-double : (n : ℕ) → bit_step (n * 2) ≡ n
bit_step-double n = step_even (n * 2) (omega arith) ∙ shl-shr n 1

steps-shl : (n a : ℕ) → steps n (a * 2 ^ n) ≡ a
unfolding steps
steps-shl zero a = omega arith
steps-shl (suc n) a = ap (steps n) (ap bit_step (regrouped (2 ^ n)) ∙ bit_step-double (a * 2 ^ n)) ∙ steps-shl n a
  where
    regrouped : (m : ℕ) → a * 2 ^ suc n ≡ a * 2 ^ n * 2
    regrouped m = grind arith

-- a whole byte more is shifted out
pub shift-shl : (a : ℕ) → shift (a * 256) ≡ a
shift-shl a = shift_is (a * 256) ∙ steps-shl 8 a

-- a sum by its low byte and the others
pub apart : (c : ℕ) → c ≡ bit_xor (c / 256 * 256) (c % 256)
apart c = sym (xor_shifted (c / 256) 8 (c % 256) (omega arith) ∙ div-add-mod' c 256)

pub shift_low : (c : ℕ) → shift c ≡ bit_xor (shift (c % 256)) (c / 256)
shift_low c =
    ap shift (apart c)
    ∙ (shift-xor (c / 256 * 256) (c % 256)
    ∙ (ap (λ n. bit_xor n (shift (c % 256))) (shift-shl (c / 256)) ∙ xor_comm (c / 256) (shift (c % 256))))

-- n bytes shifted out
shifts : ℕ → ℕ → ℕ
shifts zero c = c
shifts (suc n) c = shifts n (shift c)

shifts-xor : (n x y : ℕ) → shifts n (bit_xor x y) ≡ bit_xor (shifts n x) (shifts n y)
unfolding shifts
shifts-xor zero x y = refl
shifts-xor (suc n) x y = ap (shifts n) (shift-xor x y) ∙ shifts-xor n (shift x) (shift y)

shifts_low : (n c : ℕ) → shifts (suc n) c ≡ bit_xor (shifts (suc n) (c % 256)) (shifts n (c / 256))
unfolding shifts
shifts_low n c = ap (shifts n) (shift_low c) ∙ shifts-xor n (shift (c % 256)) (c / 256)

-- a number of four bytes, byte by byte
four_bytes : (n c : ℕ) → c < 2 ^ 32
    → bit_xor (bit_xor (bit_xor (shifts (suc (suc (suc (suc n)))) (c % 256)) (shifts (suc (suc (suc n))) (c / 256 % 256))) (shifts (suc (suc n)) (c / 65536 % 256)))
    (shifts (suc n) (c / 16777216 % 256))
    ≡ shifts (suc (suc (suc (suc n)))) c
four_bytes n c h =
    let top : c / 16777216 % 256 ≡ c / 16777216 = omega (arith, h) in
    let third : c / 65536 / 256 ≡ c / 16777216 = omega arith in
    let second : c / 256 / 256 ≡ c / 65536 = omega arith in
    let x4 = shifts (suc (suc (suc (suc n)))) (c % 256) in
    let x3 = shifts (suc (suc (suc n))) (c / 256 % 256) in
    let x2 = shifts (suc (suc n)) (c / 65536 % 256) in
    ap (λ t. bit_xor (bit_xor (bit_xor x4 x3) x2) (shifts (suc n) t)) (top ∙ sym third)
    ∙ (xor_assoc (bit_xor x4 x3) x2 (shifts (suc n) (c / 65536 / 256))
    ∙ (ap (bit_xor (bit_xor x4 x3)) (sym (shifts_low (suc n) (c / 65536)))
    ∙ (ap (λ t. bit_xor (bit_xor x4 x3) (shifts (suc (suc n)) t)) (sym second)
    ∙ (xor_assoc x4 x3 (shifts (suc (suc n)) (c / 256 / 256))
    ∙ (ap (bit_xor x4) (sym (shifts_low (suc (suc n)) (c / 256)))
    ∙ sym (shifts_low (suc (suc (suc n))) c))))))

pub four_shifts : (c : ℕ) → c < 2 ^ 32
    → bit_xor (bit_xor (bit_xor (shift (shift (shift (shift (c % 256))))) (shift (shift (shift (c / 256 % 256))))) (shift (shift (c / 65536 % 256)))) (shift (c / 16777216 % 256))
    ≡ shift (shift (shift (shift c)))
unfolding shifts
four_shifts c h = four_bytes 0 c h

pub eight_shifts : (c : ℕ) → c < 2 ^ 32
    → bit_xor (bit_xor (bit_xor (shift (shift (shift (shift (shift (shift (shift (shift (c % 256))))))))) (shift (shift (shift (shift (shift (shift (shift (c / 256 % 256)))))))))
    (shift (shift (shift (shift (shift (shift (c / 65536 % 256)))))))) (shift (shift (shift (shift (shift (c / 16777216 % 256))))))
    ≡ shift (shift (shift (shift (shift (shift (shift (shift c)))))))
unfolding shifts
eight_shifts c h = four_bytes 4 c h

-- a byte that is taken later stands higher
later_byte : (n c b : ℕ) → bit_xor (shifts n c) b ≡ shifts n (bit_xor c (b * 256 ^ n))
unfolding shifts
later_byte zero c b = ap (bit_xor c) (omega arith)
later_byte (suc n) c b =
    later_byte n (shift c) b
    ∙ ap (shifts n) (ap (bit_xor (shift c)) (sym (shift-shl (b * 256 ^ n))) ∙ (sym (shift-xor c (b * 256 ^ n * 256)) ∙ ap (λ x. shift (bit_xor c x)) higher))
  where
    higher : b * 256 ^ n * 256 ≡ b * 256 ^ suc n
    higher = mul_assoc b (256 ^ n) 256 ∙ ap (◌*◌ b) (sym (pow-suc 256 n))

joined : (c low high k : ℕ) → low < 2 ^ k → bit_xor (bit_xor c low) (high * 2 ^ k) ≡ bit_xor c (low + high * 2 ^ k)
joined c low high k h = xor_assoc c low (high * 2 ^ k) ∙ ap (bit_xor c) (xor_comm low (high * 2 ^ k) ∙ (xor_shifted high k low h ∙ omega arith))

-- four bytes that are taken one by one are a number that is taken at once
pub four_taken : (c b0 b1 b2 b3 : ℕ) → b0 < 256 → b1 < 256 → b2 < 256
    → shift (bit_xor (shift (bit_xor (shift (bit_xor (shift (bit_xor c b0)) b1)) b2)) b3) ≡ shift (shift (shift (shift (bit_xor c (b0 + b1 * 256 + b2 * 65536 + b3 * 16777216)))))
unfolding shifts
four_taken c b0 b1 b2 b3 h0 h1 h2 =
    let one = later_byte 1 (bit_xor c b0) b1 ∙ ap shift (joined c b0 b1 8 h0) in
    let two = ap (λ x. bit_xor (shift x) b2) one ∙ (later_byte 2 (bit_xor c (b0 + b1 * 256)) b2 ∙ ap (λ x. shift (shift x)) (joined c (b0 + b1 * 256) b2 16 (omega (arith, h0, h1)))) in
    let three = ap (λ x. bit_xor (shift x) b3) two
    ∙ (later_byte 3 (bit_xor c (b0 + b1 * 256 + b2 * 65536)) b3 ∙ ap (λ x. shift (shift (shift x))) (joined c (b0 + b1 * 256 + b2 * 65536) b3 24 (omega (arith, h0, h1, h2)))) in
    ap shift three

-- eight bytes that are taken one by one
pub eight_taken : (c b0 b1 b2 b3 b4 b5 b6 b7 low high : ℕ) → b0 < 256 → b1 < 256 → b2 < 256 → b4 < 256 → b5 < 256 → b6 < 256
    → low ≡ b0 + b1 * 256 + b2 * 65536 + b3 * 16777216 → high ≡ b4 + b5 * 256 + b6 * 65536 + b7 * 16777216
    → more c (b0 ∷ b1 ∷ b2 ∷ b3 ∷ b4 ∷ b5 ∷ b6 ∷ b7 ∷ [])
    ≡ bit_xor (shift (shift (shift (shift (shift (shift (shift (shift (bit_xor c low))))))))) (shift (shift (shift (shift high))))
unfolding shifts
eight_taken c b0 b1 b2 b3 b4 b5 b6 b7 low high h0 h1 h2 h4 h5 h6 is_low is_high =
    let front = four_taken c b0 b1 b2 b3 h0 h1 h2 ∙ ap (λ x. shift (shift (shift (shift (bit_xor c x))))) (sym is_low) in
    ap (λ x. shift (bit_xor (shift (bit_xor (shift (bit_xor (shift (bit_xor x b4)) b5)) b6)) b7)) front
    ∙ (four_taken (shifts 4 (bit_xor c low)) b4 b5 b6 b7 h4 h5 h6
    ∙ (ap (λ x. shifts 4 (bit_xor (shifts 4 (bit_xor c low)) x)) (sym is_high)
    ∙ shifts-xor 4 (shifts 4 (bit_xor c low)) high))

pub of_eight : (c : ℕ) (bytes : List ℕ) (low high : ℕ) → length bytes ≡ 8 → ((i : ℕ) → get_or bytes i 0 < 256)
    → low ≡ get_or bytes 0 0 + get_or bytes 1 0 * 256 + get_or bytes 2 0 * 65536 + get_or bytes 3 0 * 16777216
    → high ≡ get_or bytes 4 0 + get_or bytes 5 0 * 256 + get_or bytes 6 0 * 65536 + get_or bytes 7 0 * 16777216
    → bit_xor (shift (shift (shift (shift (shift (shift (shift (shift (bit_xor c low))))))))) (shift (shift (shift (shift high)))) ≡ more c bytes
of_eight c (b0 ∷ b1 ∷ b2 ∷ b3 ∷ b4 ∷ b5 ∷ b6 ∷ b7 ∷ []) low high eight fits is_low is_high =
    sym (eight_taken c b0 b1 b2 b3 b4 b5 b6 b7 low high (fits 0) (fits 1) (fits 2) (fits 4) (fits 5) (fits 6) is_low is_high)
of_eight c bytes low high eight fits is_low is_high = absurd (omega (arith, eight))

pub more-append : (c : ℕ) (front back : List ℕ) → more c (front ++ back) ≡ more (more c front) back
more-append c [] back = refl
more-append c (b ∷ front) back = more-append (shift (bit_xor c b)) front back

pub xor_twice : (a b : ℕ) → bit_xor (bit_xor a b) b ≡ a
xor_twice a b = xor_assoc a b b ∙ (ap (bit_xor a) (xor_self b) ∙ xor_zero_r a)

-- a sum that goes on is the sum of the whole
pub append-crc32c : (front back : List ℕ) → append (crc32c front) back ≡ crc32c (front ++ back)
append-crc32c front back =
    ap (λ c. bit_xor (more c back) 0xFFFFFFFF) (xor_twice (more (bit_xor 0 0xFFFFFFFF) front) 0xFFFFFFFF)
    ∙ ap (λ c. bit_xor c 0xFFFFFFFF) (sym (more-append (bit_xor 0 0xFFFFFFFF) front back))
