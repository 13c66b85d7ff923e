-- How a pattern is tried on a key: the parts up to the next run, at the first place at which they take their bytes.
use Rattle.std.specs.Prelude.{ℕ, ◌==◌, ◌||◌, Bool, true, not, List, [], ◌∷◌, length, Option, Some, None, if◌then◌else◌}
use Rattle.std.specs.List.{list_any}
use Rattle.std.specs.Option.{option_and_then}
use Rattle.raft_patterns.specs.Patterns.{Part, Ends, between, first, takes_byte}

-- whether a class has a byte, and what stands behind it
abbrev pub has : ℕ → List Ends × List ℕ → Bool × List ℕ
has b class = (list_any (between b) class.0, class.1)

-- whether a part takes a byte, and what stands behind it
abbrev pub told : ℕ → Part × List ℕ → Bool × List ℕ
told b x = (takes_byte x.0 b, x.1)

-- the pattern behind its first part, if that takes this byte
unfoldable pub takes : List ℕ → ℕ → Option (List ℕ)
takes [] b = None
takes (c ∷ p) b = if takes_byte (first c p).0 b then Some (first c p).1 else None

-- a pattern ends, or goes on with a run
abbrev pub stops : List ℕ → Bool
stops [] = true
stops (c ∷ p) = c == 42

-- what is left of a pattern and a key behind the parts up to there, if each takes its byte
abbrev pub stripped : List ℕ → List ℕ → Option (List ℕ × List ℕ)
stripped p [] = if stops p then Some (p, []) else None
stripped p (b ∷ k) = if stops p then Some (p, b ∷ k) else option_and_then (λ q. stripped q k) (takes p b)

-- the pattern goes on, or ends with the key
abbrev pub ends_well : List ℕ × List ℕ → Bool
ends_well x = not (length x.0 == 0) || length x.1 == 0

abbrev pub well : Option (List ℕ × List ℕ) → Option (List ℕ × List ℕ)
well None = None
well (Some x) = if ends_well x then Some x else None

unfoldable pub fitting : List ℕ → List ℕ → Option (List ℕ × List ℕ)
fitting p k = well (stripped p k)

abbrev pub or_else : Option (List ℕ × List ℕ) → Option (List ℕ × List ℕ) → Option (List ℕ × List ℕ)
or_else None other = other
or_else (Some x) other = Some x

-- the same at the first place of the key at which it can be done
abbrev pub found : List ℕ → List ℕ → Option (List ℕ × List ℕ)
found p [] = fitting p []
found p (b ∷ k) = or_else (fitting p (b ∷ k)) (found p k)
