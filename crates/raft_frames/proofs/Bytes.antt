-- Bytes of numbers, and sums that fit four bytes.
use Rattle.std.specs.Prelude.{ℕ, ◌≡◌, ◌<◌, ◌/◌, ◌%◌, ◌^◌, ◌⊎◌, List, [], ◌∷◌, ◌++◌, length, bit_xor}
use Rattle.std.specs.List.{AllByRecursion}
use Rattle.std.specs.Int.{from_le_bytes, w32}
use Rattle.std.proofs.Common.{arith, sym, subst, inl, inr}
use Rattle.std.specs.Int.Bits.{xor_lt}
use Rattle.std.proofs.lemmas.Nat.{from_le_bytes-to_le_bytes_4}
use Rattle.raft_frames.specs.Crc.{bit_step, crc32c, more, shift}
use Rattle.raft_frames.specs.Format.{check_of, double_word, fields, seed_of, sum_of, word}
use Rattle.raft_frames.specs.declared.header.LogId.{LogId}
use Rattle.raft_frames.specs.declared.header.TheConstants.{MAGIC, VERSION}
use Rattle.raft_frames.specs.Laws.{IsByte}
use Rattle.raft_frames.proofs.CrcLemmas.{parity, step_even, step_odd}

-- a sum stays below 2 ^ 32
pub bit_step-lt : (c : ℕ) → c < 2 ^ 32 → bit_step c < 2 ^ 32
bit_step-lt c h = go (parity c)
  where
    go : ((c % 2 ≡ 0) ⊎ (c % 2 ≡ 1)) → bit_step c < 2 ^ 32
    go (inl even) = subst (λ n. n < 2 ^ 32) (sym (step_even c even)) (omega (arith, h))
    go (inr odd) = subst (λ n. n < 2 ^ 32) (sym (step_odd c odd)) (xor_lt 32 (c / 2) 0x82F63B78 (omega (arith, h)) (omega arith))

pub shift-lt : (c : ℕ) → c < 2 ^ 32 → shift c < 2 ^ 32
unfolding shift
shift-lt c h =
    bit_step-lt _ (bit_step-lt _ (bit_step-lt _ (bit_step-lt _ (bit_step-lt _ (bit_step-lt _ (bit_step-lt _ (bit_step-lt c h)))))))

pub more-lt : (c : ℕ) (bytes : List ℕ) → c < 2 ^ 32 → AllByRecursion IsByte bytes → more c bytes < 2 ^ 32
more-lt c [] h each = h
more-lt c (b ∷ bytes) h each = more-lt (shift (bit_xor c b)) bytes (shift-lt (bit_xor c b) (xor_lt 32 c b h (omega (arith, each.0)))) each.1

crc32c-lt : (bytes : List ℕ) → AllByRecursion IsByte bytes → crc32c bytes < 2 ^ 32
crc32c-lt bytes each = xor_lt 32 (more 0xFFFFFFFF bytes) 0xFFFFFFFF (more-lt 0xFFFFFFFF bytes (omega arith) each) (omega arith)

pub all-append : (xs ys : List ℕ) → AllByRecursion IsByte xs → AllByRecursion IsByte ys → AllByRecursion IsByte (xs ++ ys)
all-append [] ys h k = k
all-append (x ∷ xs) ys h k = (h.0, all-append xs ys h.1 k)

pub word-bytes : (n : ℕ) → AllByRecursion IsByte (word n)
word-bytes n = (omega arith, (omega arith, (omega arith, (omega arith, tt))))

pub double_word-bytes : (n : ℕ) → AllByRecursion IsByte (double_word n)
double_word-bytes n = (omega arith, (omega arith, (omega arith, (omega arith, (omega arith, (omega arith, (omega arith, (omega arith, tt))))))))

pub check_of-lt : (seed position len : ℕ) → check_of seed position len < 2 ^ 32
unfolding check_of
check_of-lt seed position len =
    crc32c-lt (word seed ++ (double_word position ++ word len))
    (all-append (word seed) (double_word position ++ word len) (word-bytes seed) (all-append (double_word position) (word len) (double_word-bytes position) (word-bytes len)))

pub sum_of-lt : (before : ℕ) (payload : List ℕ) → AllByRecursion IsByte payload → sum_of before payload < 2 ^ 32
unfolding sum_of
sum_of-lt before payload each =
    crc32c-lt (word before ++ (word (length payload) ++ payload))
    (all-append (word before) (word (length payload) ++ payload) (word-bytes before) (all-append (word (length payload)) payload (word-bytes (length payload)) each))

-- four bytes of a number that fits are the number
pub number-word : (n : ℕ) → n < 2 ^ 32 → from_le_bytes w32 (word n) ≡ n
number-word n h = from_le_bytes-to_le_bytes_4 n h

pub seed_of-lt : (id : LogId) → seed_of id < 2 ^ 32
unfolding seed_of
seed_of-lt id =
    crc32c-lt (fields id)
    (all-append MAGIC (word VERSION ++ (double_word id.cluster ++ double_word id.node)) magic-bytes
    (all-append (word VERSION) (double_word id.cluster ++ double_word id.node) (word-bytes VERSION)
    (all-append (double_word id.cluster) (double_word id.node) (double_word-bytes id.cluster) (double_word-bytes id.node))))
  where
    magic-bytes : AllByRecursion IsByte MAGIC
    magic-bytes = (omega arith, (omega arith, (omega arith, (omega arith, (omega arith, (omega arith, (omega arith, (omega arith, tt))))))))
