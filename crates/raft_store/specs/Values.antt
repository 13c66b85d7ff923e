-- Bytes as text.
use Rattle.std.specs.Prelude.{ℕ, ◌/◌, ◌%◌, List, ◌++◌, false, flat_map}
use Rattle.std.specs.Fmt.{digits}

-- two digits to the base 16 for each byte, in small letters
abbrev pub hex_text : List ℕ → List ℕ
hex_text bytes = flat_map (λ b. digits 16 false (b / 16) ++ digits 16 false (b % 16)) bytes
