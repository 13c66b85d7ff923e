-- Changes that no sum overlooks: a sum leads back to the one before it, so bytes that differ in one place have different sums.
use Rattle.std.specs.Prelude.{ℕ, ◌≡◌, ◌<◌, ◌/◌, ◌%◌, ◌^◌, ◌⊎◌, List, [], ◌∷◌, ◌++◌, length, bit_xor}
use Rattle.std.specs.List.{AllByRecursion}
use Rattle.std.proofs.Common.{suc, zero, arith, ◌∙◌, ap, sym, subst, inl, inr}
use Rattle.std.specs.Int.Bits.{xor_comm, xor_lt, xor_self}
use Rattle.std.proofs.lemmas.List.{append_assoc, length-append}
use Rattle.raft_frames.specs.Crc.{bit_step, crc32c, more, shift}
use Rattle.raft_frames.specs.Format.{check_of, double_word, sum_of, word}
use Rattle.raft_frames.specs.Laws.{IsByte, TellsChanges, headed}
use Rattle.raft_frames.proofs.Bytes.{all-append, bit_step-lt, check_of-lt, double_word-bytes, more-lt, number-word, shift-lt, sum_of-lt, word-bytes}
use Rattle.raft_frames.proofs.CrcLemmas.{bit_step-xor, four_taken, more-append, parity, step_even, step_odd, xor_twice}
use Rattle.raft_frames.proofs.Frames.{head_of}

-- `^` leads back
xor_back : (a b c : ℕ) → bit_xor a c ≡ bit_xor b c → a ≡ b
xor_back a b c h = sym (xor_twice a c) ∙ (ap (λ n. bit_xor n c) h ∙ xor_twice b c)

xor_front : (a b c : ℕ) → bit_xor c a ≡ bit_xor c b → a ≡ b
xor_front a b c h = xor_back a b c (xor_comm a c ∙ (h ∙ xor_comm c b))

-- a bit's step makes 0 of 0 alone, so it leads back too
step_zero : (c : ℕ) → c < 2 ^ 32 → bit_step c ≡ 0 → c ≡ 0
step_zero c h is = go (parity c)
  where
    go : ((c % 2 ≡ 0) ⊎ (c % 2 ≡ 1)) → c ≡ 0
    go (inl even) = let half : c / 2 ≡ 0 = sym (step_even c even) ∙ is in omega (arith, half, even)
    go (inr odd) =
        let half : c / 2 ≡ 0x82F63B78 = xor_back (c / 2) 0x82F63B78 0x82F63B78 (sym (step_odd c odd) ∙ (is ∙ sym (xor_self 0x82F63B78))) in
        absurd (omega (arith, half, h))

step_back : (c d : ℕ) → c < 2 ^ 32 → d < 2 ^ 32 → bit_step c ≡ bit_step d → c ≡ d
step_back c d h k is =
    let none : bit_xor c d ≡ 0 = step_zero (bit_xor c d) (xor_lt 32 c d h k) (bit_step-xor c d ∙ (ap (λ n. bit_xor n (bit_step d)) is ∙ xor_self (bit_step d))) in
    sym (xor_twice c d) ∙ ap (λ n. bit_xor n d) none

steps_of : ℕ → ℕ → ℕ
steps_of zero c = c
steps_of (suc n) c = steps_of n (bit_step c)

steps_back : (n c d : ℕ) → c < 2 ^ 32 → d < 2 ^ 32 → steps_of n c ≡ steps_of n d → c ≡ d
unfolding steps_of
steps_back zero c d h k is = is
steps_back (suc n) c d h k is = step_back c d h k (steps_back n (bit_step c) (bit_step d) (bit_step-lt c h) (bit_step-lt d k) is)

shift_back : (c d : ℕ) → c < 2 ^ 32 → d < 2 ^ 32 → shift c ≡ shift d → c ≡ d
unfolding steps_of shift
shift_back c d h k is = steps_back 8 c d h k is

more_back : (c d : ℕ) (bytes : List ℕ) → c < 2 ^ 32 → d < 2 ^ 32 → AllByRecursion IsByte bytes → more c bytes ≡ more d bytes → c ≡ d
more_back c d [] h k each is = is
more_back c d (b ∷ bytes) h k each is =
    let p : bit_xor c b < 2 ^ 32 = xor_lt 32 c b h (omega (arith, each.0)) in
    let q : bit_xor d b < 2 ^ 32 = xor_lt 32 d b k (omega (arith, each.0)) in
    xor_back c d b (shift_back (bit_xor c b) (bit_xor d b) p q (more_back (shift (bit_xor c b)) (shift (bit_xor d b)) bytes (shift-lt (bit_xor c b) p) (shift-lt (bit_xor d b) q) each.1 is))

all_front : (xs ys : List ℕ) → AllByRecursion IsByte (xs ++ ys) → AllByRecursion IsByte xs
all_front [] ys h = tt
all_front (x ∷ xs) ys h = (h.0, all_front xs ys h.1)

all_back : (xs ys : List ℕ) → AllByRecursion IsByte (xs ++ ys) → AllByRecursion IsByte ys
all_back [] ys h = h
all_back (x ∷ xs) ys h = all_back xs ys h.1

-- one byte decides
crc32c-byte : (front back : List ℕ) (b other : ℕ) → AllByRecursion IsByte front → AllByRecursion IsByte back → IsByte b → IsByte other
    → crc32c (front ++ b ∷ back) ≡ crc32c (front ++ other ∷ back) → b ≡ other
crc32c-byte front back b other fronts backs byte other_byte is =
    let c = more 0xFFFFFFFF front in
    let fits : c < 2 ^ 32 = more-lt 0xFFFFFFFF front (omega arith) fronts in
    let p : bit_xor c b < 2 ^ 32 = xor_lt 32 c b fits (omega (arith, byte)) in
    let q : bit_xor c other < 2 ^ 32 = xor_lt 32 c other fits (omega (arith, other_byte)) in
    let wholes : more 0xFFFFFFFF (front ++ b ∷ back) ≡ more 0xFFFFFFFF (front ++ other ∷ back) = xor_back _ _ 0xFFFFFFFF is in
    let rests : more (shift (bit_xor c b)) back ≡ more (shift (bit_xor c other)) back =
    sym (more-append 0xFFFFFFFF front (b ∷ back)) ∙ (wholes ∙ more-append 0xFFFFFFFF front (other ∷ back)) in
    xor_front b other c
    (shift_back (bit_xor c b) (bit_xor c other) p q (more_back (shift (bit_xor c b)) (shift (bit_xor c other)) back (shift-lt (bit_xor c b) p) (shift-lt (bit_xor c other) q) backs rests))

-- and so do four bytes of a number, at the end
more-word : (c n : ℕ) → n < 2 ^ 32 → more c (word n) ≡ shift (shift (shift (shift (bit_xor c n))))
more-word c n h =
    four_taken c (n % 256) (n / 256 % 256) (n / 65536 % 256) (n / 16777216 % 256) (omega arith) (omega arith) (omega arith)
    ∙ ap (λ v. shift (shift (shift (shift (bit_xor c v))))) (number-word n h)

crc32c-word : (front : List ℕ) (n other : ℕ) → AllByRecursion IsByte front → n < 2 ^ 32 → other < 2 ^ 32 → crc32c (front ++ word n) ≡ crc32c (front ++ word other) → n ≡ other
crc32c-word front n other fronts h k is =
    let c = more 0xFFFFFFFF front in
    let fits : c < 2 ^ 32 = more-lt 0xFFFFFFFF front (omega arith) fronts in
    let p : bit_xor c n < 2 ^ 32 = xor_lt 32 c n fits h in
    let q : bit_xor c other < 2 ^ 32 = xor_lt 32 c other fits k in
    let p1 = shift-lt (bit_xor c n) p in
    let q1 = shift-lt (bit_xor c other) q in
    let p2 = shift-lt (shift (bit_xor c n)) p1 in
    let q2 = shift-lt (shift (bit_xor c other)) q1 in
    let p3 = shift-lt (shift (shift (bit_xor c n))) p2 in
    let q3 = shift-lt (shift (shift (bit_xor c other))) q2 in
    let wholes : more 0xFFFFFFFF (front ++ word n) ≡ more 0xFFFFFFFF (front ++ word other) = xor_back (more 0xFFFFFFFF (front ++ word n)) (more 0xFFFFFFFF (front ++ word other)) 0xFFFFFFFF is in
    let rests : shift (shift (shift (shift (bit_xor c n)))) ≡ shift (shift (shift (shift (bit_xor c other)))) =
    sym (more-append 0xFFFFFFFF front (word n) ∙ more-word c n h) ∙ (wholes ∙ (more-append 0xFFFFFFFF front (word other) ∙ more-word c other k)) in
    xor_front n other c
    (shift_back (bit_xor c n) (bit_xor c other) p q
    (shift_back (shift (bit_xor c n)) (shift (bit_xor c other)) p1 q1
    (shift_back (shift (shift (bit_xor c n))) (shift (shift (bit_xor c other))) p2 q2
    (shift_back (shift (shift (shift (bit_xor c n)))) (shift (shift (shift (bit_xor c other)))) p3 q3 rests))))

check_of-back : (seed position len other : ℕ) → len < 2 ^ 32 → other < 2 ^ 32 → check_of seed position len ≡ check_of seed position other → len ≡ other
unfolding check_of
check_of-back seed position len other h k is =
    crc32c-word (word seed ++ double_word position) len other (all-append (word seed) (double_word position) (word-bytes seed) (double_word-bytes position)) h k is

sum_of-back : (before : ℕ) (front back : List ℕ) (b other : ℕ) → AllByRecursion IsByte (front ++ b ∷ back) → IsByte other
    → sum_of before (front ++ b ∷ back) ≡ sum_of before (front ++ other ∷ back) → b ≡ other
unfolding sum_of
sum_of-back before front back b other each byte is =
    let size : length (front ++ other ∷ back) ≡ length (front ++ b ∷ back) = omega (arith, length-append front (other ∷ back), length-append front (b ∷ back)) in
    let head = word before ++ word (length (front ++ b ∷ back)) in
    let rest : AllByRecursion IsByte (b ∷ back) = all_back front (b ∷ back) each in
    let same_size : sum_of before (front ++ other ∷ back) ≡ crc32c (head ++ (front ++ other ∷ back)) = ap (λ n. crc32c (word before ++ (word n ++ (front ++ other ∷ back)))) size in
    crc32c-byte (head ++ front) back b other
    (all-append head front (all-append (word before) (word (length (front ++ b ∷ back))) (word-bytes before) (word-bytes (length (front ++ b ∷ back)))) (all_front front (b ∷ back) each))
    rest.1 rest.0 byte
    (ap crc32c (append_assoc head front (b ∷ back)) ∙ (is ∙ (same_size ∙ ap crc32c (sym (append_assoc head front (other ∷ back))))))

pub tells_changes : TellsChanges
tells_changes tail payload fits =
    let len = length payload in
    let check = check_of tail.seed tail.position len in
    let sum = sum_of tail.sum payload in
    let short : len < 2 ^ 32 = omega (arith, fits.short) in
    let checked : check < 2 ^ 32 = check_of-lt tail.seed tail.position len in
    let summed : sum < 2 ^ 32 = sum_of-lt tail.sum payload fits.bytes in
    record {
      another_length = λ other h apart head.
          let says = (head_of tail.seed tail.position (headed other check sum payload) head).checked in
          let same : check ≡ check_of tail.seed tail.position other = sym (number-word check checked) ∙ (says ∙ ap (check_of tail.seed tail.position) (number-word other h)) in
          absurd (apart (sym (check_of-back tail.seed tail.position len other short h same)));
      another_check = λ other h apart head.
          let says = (head_of tail.seed tail.position (headed len other sum payload) head).checked in
          absurd (apart (sym (number-word other h) ∙ (says ∙ ap (check_of tail.seed tail.position) (number-word len short))));
      another_sum = λ other h apart head. (number-word len short, λ is. apart (sym (number-word other h) ∙ is));
      another_byte = λ front back b other is byte apart head. (
        number-word len short,
        λ same.
            apart (sym (sum_of-back tail.sum front back b other (subst (AllByRecursion IsByte) is fits.bytes) byte (ap (sum_of tail.sum) (sym is) ∙ (sym (number-word sum summed) ∙ same)))),
      );
    }
