-- What requests' words spell.
use Rattle.std.specs.Prelude.{ℕ, ◌||◌, ◌&&◌, Bool, true, not, nat_lt, List, codes, take, Option, Some, None}
use Rattle.std.specs.List.{list_any}
use Rattle.std.specs.Str.{bytes_eq, str_eq_ignore_ascii_case}

abbrev pub Word : Type 0
Word = List ℕ

-- whether a word is another, in any case
abbrev pub is : List ℕ → Word → Bool
is name word = str_eq_ignore_ascii_case word name

-- what an error tells of a word
abbrev pub told : Word → List ℕ
told word = take 128 word

-- whether a byte may not stand in a client's name: it is no sign of ASCII (Redis, validateClientName)
abbrev pub is_no_sign : ℕ → Bool
is_no_sign b = nat_lt b 33 || nat_lt 126 b

abbrev pub is_name : Word → Bool
is_name word = not (list_any is_no_sign word)

-- whether a word is the secret, if one is set
abbrev pub is_secret : Option (List ℕ) → Word → Bool
is_secret None word = true
is_secret (Some secret) word = bytes_eq secret word

-- the only user is `default` (Redis, ACLAuthenticateUser)
abbrev pub is_login : Option (List ℕ) → Word → Word → Bool
is_login secret user word = bytes_eq user (codes "default") && is_secret secret word
