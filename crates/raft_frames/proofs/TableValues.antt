-- The numbers of the tables, computed.
use Rattle.std.specs.Prelude.{ℕ, ◌≡◌, ◌<◌, ◌+◌, List, [], ◌∷◌, map, length, refl}
use Rattle.std.proofs.Common.{suc, zero, arith, get_or, ◌∙◌, ap, sym, subst}
use Rattle.std.proofs.lemmas.List.{get_or-map}
use Rattle.raft_frames.specs.Crc.{bit_step, shift}
use Rattle.raft_frames.specs.declared.tables.TheConstants.{SHIFT_1, SHIFT_2, SHIFT_3, SHIFT_4, SHIFT_5, SHIFT_6, SHIFT_7, SHIFT_8}

numbers : ℕ → ℕ → List ℕ
numbers zero from = []
numbers (suc n) from = from ∷ numbers n (suc from)

first : SHIFT_1 ≡ map shift (numbers 256 0)
unfolding bit_step shift numbers
first = refl

second : SHIFT_2 ≡ map shift SHIFT_1
unfolding bit_step shift
second = refl

third : SHIFT_3 ≡ map shift SHIFT_2
unfolding bit_step shift
third = refl

fourth : SHIFT_4 ≡ map shift SHIFT_3
unfolding bit_step shift
fourth = refl

fifth : SHIFT_5 ≡ map shift SHIFT_4
unfolding bit_step shift
fifth = refl

sixth : SHIFT_6 ≡ map shift SHIFT_5
unfolding bit_step shift
sixth = refl

seventh : SHIFT_7 ≡ map shift SHIFT_6
unfolding bit_step shift
seventh = refl

eighth : SHIFT_8 ≡ map shift SHIFT_7
unfolding bit_step shift
eighth = refl

numbers-length : (n from : ℕ) → length (numbers n from) ≡ n
unfolding numbers
numbers-length zero from = refl
numbers-length (suc n) from = ap suc (numbers-length n (suc from))

numbers_at : (n from i : ℕ) → i < n → get_or (numbers n from) i 0 ≡ from + i
unfolding numbers
numbers_at zero from i h = absurd (omega arith)
numbers_at (suc n) from zero h = omega arith
numbers_at (suc n) from (suc i) h = numbers_at n (suc from) i (omega arith) ∙ omega arith

-- a table that is another's, each number shifted once more
shifted_at : (f : ℕ → ℕ) (table before : List ℕ) → table ≡ map shift before → length before ≡ 256 → ((b : ℕ) → b < 256 → get_or before b 0 ≡ f b)
    → (b : ℕ) → b < 256 → get_or table b 0 ≡ shift (f b)
shifted_at f table before is long earlier b h =
    let within : b < length before = subst (λ n. b < n) (sym long) h in
    ap (λ t. get_or t b 0) is ∙ (get_or-map shift before b 0 0 within ∙ ap shift (earlier b h))

pub at_1 : (b : ℕ) → b < 256 → get_or SHIFT_1 b 0 ≡ shift b
at_1 = shifted_at (λ b. b) SHIFT_1 (numbers 256 0) first (numbers-length 256 0) (λ b h. numbers_at 256 0 b h ∙ omega arith)

pub at_2 : (b : ℕ) → b < 256 → get_or SHIFT_2 b 0 ≡ shift (shift b)
at_2 = shifted_at shift SHIFT_2 SHIFT_1 second refl at_1

pub at_3 : (b : ℕ) → b < 256 → get_or SHIFT_3 b 0 ≡ shift (shift (shift b))
at_3 = shifted_at (λ b. shift (shift b)) SHIFT_3 SHIFT_2 third refl at_2

pub at_4 : (b : ℕ) → b < 256 → get_or SHIFT_4 b 0 ≡ shift (shift (shift (shift b)))
at_4 = shifted_at (λ b. shift (shift (shift b))) SHIFT_4 SHIFT_3 fourth refl at_3

pub at_5 : (b : ℕ) → b < 256 → get_or SHIFT_5 b 0 ≡ shift (shift (shift (shift (shift b))))
at_5 = shifted_at (λ b. shift (shift (shift (shift b)))) SHIFT_5 SHIFT_4 fifth refl at_4

pub at_6 : (b : ℕ) → b < 256 → get_or SHIFT_6 b 0 ≡ shift (shift (shift (shift (shift (shift b)))))
at_6 = shifted_at (λ b. shift (shift (shift (shift (shift b))))) SHIFT_6 SHIFT_5 sixth refl at_5

pub at_7 : (b : ℕ) → b < 256 → get_or SHIFT_7 b 0 ≡ shift (shift (shift (shift (shift (shift (shift b))))))
at_7 = shifted_at (λ b. shift (shift (shift (shift (shift (shift b)))))) SHIFT_7 SHIFT_6 seventh refl at_6

pub at_8 : (b : ℕ) → b < 256 → get_or SHIFT_8 b 0 ≡ shift (shift (shift (shift (shift (shift (shift (shift b)))))))
at_8 = shifted_at (λ b. shift (shift (shift (shift (shift (shift (shift b))))))) SHIFT_8 SHIFT_7 eighth refl at_7
