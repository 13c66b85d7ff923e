-- Numbers as texts. A number has one text: what it is printed as.
use Rattle.std.specs.Prelude.{ℕ, ◌^◌, List, [], ◌∷◌, Option, Some, None, nat_lt, nat_le, ℤ, ◌==◌, ◌&&◌, if◌then◌else◌, pos, ◌-ℤ◌}
use Rattle.std.specs.Option.{option_and_then}
use Rattle.std.specs.Fmt.{decimal}
use Rattle.std.specs.Str.{bytes_eq}
use Rattle.std.specs.Str.Parse.{digits_value}

-- the number below 2^64 that is printed so
abbrev pub natural_of : List ℕ → Option ℕ
natural_of bytes =
    let n = digits_value 10 bytes in
    if nat_lt n (2 ^ 64) && bytes_eq bytes (decimal n) then Some n else None

abbrev pub positive : ℕ → Option ℤ
positive n = if nat_lt n (2 ^ 63) then Some (pos n) else None

abbrev pub negative : ℕ → Option ℤ
negative n = if nat_lt 0 n && nat_le n (2 ^ 63) then Some (pos 0 -ℤ pos n) else None

-- the number of 64 bits with a sign that is printed so
unfoldable pub integer_of : List ℕ → Option ℤ
integer_of [] = None
integer_of (b ∷ bytes) = if b == 45 then option_and_then negative (natural_of bytes) else option_and_then positive (natural_of (b ∷ bytes))
