-- What a pattern matches (Redis 7.0, util.c, stringmatchlen).
use Rattle.std.specs.Prelude.{ℕ, zero, suc, min, max, ◌==◌, ◌&&◌, ◌||◌, Bool, true, false, not, List, [], ◌∷◌, length, nat_le, if◌then◌else◌}
use Rattle.std.specs.List.{list_any}

-- bytes from one end to the other, in either order
abbrev pub Ends : Type 0
Ends = ℕ × ℕ

abbrev pub between : ℕ → Ends → Bool
between b ends = nat_le (min ends.0 ends.1) b && nat_le b (max ends.0 ends.1)

-- a part of a pattern: a run of any bytes, or one byte, which is among these or else is none of them
pub data Part : Type 0 where
  Run : Part
  Among : List Ends → Part
  Outside : List Ends → Part

-- ---- the first part of a pattern, and the pattern behind it

-- What a class has first: behind `\` a byte as it is, and around `-` bytes from one to another.
abbrev pub item : ℕ → List ℕ → Ends × List ℕ
item c [] = ((c, c), [])
item c (d ∷ []) = if c == 92 then ((d, d), []) else ((c, c), d ∷ [])
item c (d ∷ e ∷ p) = if c == 92 then ((d, d), e ∷ p) else if d == 45 then ((c, e), p) else ((c, c), d ∷ e ∷ p)

abbrev pub joined : Ends → List Ends × List ℕ → List Ends × List ℕ
joined ends class = (ends ∷ class.0, class.1)

-- a class, item by item, goes on to `]`, or to the pattern's end
abbrev pub class_at : List ℕ → List Ends × List ℕ
class_at [] = ([], [])
class_at (c ∷ []) = if c == 93 then ([], []) else ((c, c) ∷ [], [])
class_at (c ∷ d ∷ []) = if c == 93 then ([], d ∷ []) else if c == 92 then ((d, d) ∷ [], []) else joined (c, c) (class_at (d ∷ []))
class_at (c ∷ d ∷ e ∷ p) =
    if c == 93 then ([], d ∷ e ∷ p)
    else if c == 92 then joined (d, d) (class_at (e ∷ p))
    else if d == 45 then joined (c, e) (class_at p)
    else joined (c, c) (class_at (d ∷ e ∷ p))

abbrev pub among : List Ends × List ℕ → Part × List ℕ
among class = (Among class.0, class.1)

abbrev pub outside : List Ends × List ℕ → Part × List ℕ
outside class = (Outside class.0, class.1)

-- behind `[`: `^` takes the bytes that aren't in the class
abbrev pub bracket : List ℕ → Part × List ℕ
bracket [] = (Among [], [])
bracket (c ∷ p) = if c == 94 then outside (class_at p) else among (class_at (c ∷ p))

abbrev pub byte : ℕ → List ℕ → Part × List ℕ
byte c p = (Among ((c, c) ∷ []), p)

-- behind `\`: the byte as it is
abbrev pub escaped : List ℕ → Part × List ℕ
escaped [] = byte 92 []
escaped (c ∷ p) = byte c p

-- `*`, `?`, `[`, `\`, and any other byte as it is
abbrev pub first : ℕ → List ℕ → Part × List ℕ
first c p =
    if c == 42 then (Run, p)
    else if c == 63 then (Outside [], p)
    else if c == 91 then bracket p
    else if c == 92 then escaped p
    else byte c p

-- at most so many parts
abbrev pub parts_within : ℕ → List ℕ → List Part
parts_within zero p = []
parts_within (suc n) [] = []
parts_within (suc n) (c ∷ p) = (first c p).0 ∷ parts_within n (first c p).1

-- a pattern's parts, of which each has a byte at least
unfoldable pub parts : List ℕ → List Part
parts p = parts_within (length p) p

-- ---- what parts match

-- whether a part takes a byte
abbrev pub takes_byte : Part → ℕ → Bool
takes_byte Run b = false
takes_byte (Among class) b = list_any (between b) class
takes_byte (Outside class) b = not (list_any (between b) class)

-- whether a test holds of bytes, or of what is left of them behind some
abbrev pub of_rest : (List ℕ → Bool) → List ℕ → Bool
of_rest test [] = test []
of_rest test (b ∷ k) = test (b ∷ k) || of_rest test k

-- whether parts match bytes, all of them: a run takes any bytes, and each other part takes one
abbrev pub match : List Part → List ℕ → Bool
match [] [] = true
match [] (b ∷ k) = false
match (Run ∷ ps) k = of_rest (match ps) k
match (Among class ∷ ps) [] = false
match (Among class ∷ ps) (b ∷ k) = takes_byte (Among class) b && match ps k
match (Outside class ∷ ps) [] = false
match (Outside class ∷ ps) (b ∷ k) = takes_byte (Outside class) b && match ps k

-- Redis tries no pattern on the empty key, which so has the empty one alone.
unfoldable pub matches : List ℕ → List ℕ → Bool
matches p [] = length p == 0
matches p (b ∷ k) = match (parts p) (b ∷ k)
