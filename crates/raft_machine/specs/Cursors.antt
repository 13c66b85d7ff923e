-- Where a step through the keys begins: a cursor tells the first bytes of a key.
use Rattle.std.specs.Prelude.{◌≡◌, ℕ, zero, suc, ◌+◌, ◌-◌, ◌*◌, ◌/◌, ◌%◌, ◌^◌, ◌<◌, ◌≤◌, ◌==◌, min, List, [], ◌∷◌, length, if◌then◌else◌}
use Rattle.std.specs.List.{AllByRecursion}

-- The first n bytes as a number, the first of them the greatest; each that isn't there counts as 0. It is no more than n bytes can say, so
-- that it never falls as keys rise, whatever numbers their lists have.
unfoldable pub leading : ℕ → List ℕ → ℕ
leading zero k = 0
leading (suc n) [] = 0
leading (suc n) (b ∷ k) = min (b * 256 ^ n + leading n k) (256 ^ suc n - 1)

-- a key's first eight bytes
abbrev pub cursor_of : List ℕ → ℕ
cursor_of k = leading 8 k

-- a key's first sixteen bytes, as two numbers of eight bytes
abbrev pub AreHeads : ℕ → ℕ → List ℕ → Type 0
AreHeads first second k = first * 256 ^ 8 + second ≡ leading 16 k

abbrev pub AreBytes : List ℕ → Type 0
AreBytes k = AllByRecursion (λ b. b < 256) k

-- what a key has beside its bytes: its heads; and a short one is known to be of bytes, so that its heads and its length tell all of it
pub record IsHeaded (first second : ℕ) (k : List ℕ) : Type 0 where
  pub heads : AreHeads first second k
  pub small : second < 2 ^ 64
  pub bytes : length k ≤ 16 → AreBytes k

-- the first of the keys that a cursor of n bytes may tell: its bytes, without zeros at their end
unfoldable pub first_within : ℕ → ℕ → List ℕ
first_within zero cursor = []
first_within (suc n) cursor = if cursor == 0 then [] else (cursor / 256 ^ n) ∷ first_within n (cursor % 256 ^ n)

abbrev pub first_at : ℕ → List ℕ
first_at cursor = first_within 8 cursor

-- the byte at the front, or 0, and those behind it
abbrev pub next : List ℕ → ℕ × List ℕ
next [] = (0, [])
next (b ∷ k) = (b, k)
