-- The words of HELLO (Redis, helloCommand).
use Rattle.std.specs.Prelude.{ℕ, ◌==◌, ℤ, pos, negsuc, List, [], ◌∷◌, Option, Some, None, Result, Ok, Err, codes, if◌then◌else◌}
use Rattle.raft_machine.specs.Numbers.{integer_of}
use Rattle.raft_resp.specs.declared.replies.Protocol.{Protocol}
use Rattle.raft_resp.specs.declared.replies.Protocol.TheVariants.{Resp2, Resp3}
use Rattle.raft_connection.specs.declared.hello.HelloOptions.{HelloOptions}
use Rattle.raft_connection.specs.declared.hello.HelloRequest.{HelloRequest}
use Rattle.raft_connection.specs.declared.refusal.Refusal.{Refusal}
use Rattle.raft_connection.specs.declared.refusal.Refusal.TheVariants.{NoVersion, UnsupportedVersion, ClientName, HelloOption}
use Rattle.raft_connection.specs.Stops.{◌>>=◌}
use Rattle.raft_connection.specs.Words.{Word, is, told, is_name, is_login}

abbrev pub version_in : Option ℤ → Result Protocol Refusal
version_in None = Err NoVersion
version_in (Some (pos n)) = if n == 2 then Ok Resp2 else if n == 3 then Ok Resp3 else Err UnsupportedVersion
version_in (Some (negsuc n)) = Err UnsupportedVersion

abbrev pub version : Word → Result Protocol Refusal
version word = version_in (integer_of word)

abbrev pub unsaid : HelloOptions
unsaid = record { login = None; name = None }

abbrev pub with_name : HelloOptions → Word → Result HelloOptions Refusal
with_name o word = if is_name word then Ok (record { login = o.login; name = Some word }) else Err ClientName

abbrev pub with_login : Option (List ℕ) → HelloOptions → Word → Word → HelloOptions
with_login secret o user word = record { login = Some (is_login secret user word); name = o.name }

abbrev pub named : HelloOptions → Word → List Word → Result (HelloOptions × List Word) Refusal
named o word rest = with_name o word >>= λ p. Ok (p, rest)

-- an option: its name, and the words behind it, of which it takes the first ones
abbrev pub option_at : Option (List ℕ) → HelloOptions → Word → List Word → Result (HelloOptions × List Word) Refusal
option_at secret o name [] = Err (HelloOption (told name))
option_at secret o name (w ∷ []) = if is (codes "setname") name then named o w [] else Err (HelloOption (told name))
option_at secret o name (v ∷ w ∷ rest) =
    if is (codes "auth") name then Ok (with_login secret o v w, rest)
    else if is (codes "setname") name then named o v (w ∷ rest)
    else Err (HelloOption (told name))

-- the options that words spell, one after the other
abbrev pub options : Option (List ℕ) → HelloOptions → List Word → Result HelloOptions Refusal
options secret o [] = Ok o
options secret o (name ∷ []) = Err (HelloOption (told name))
options secret o (name ∷ w ∷ []) = if is (codes "setname") name then with_name o w else Err (HelloOption (told name))
options secret o (name ∷ v ∷ w ∷ rest) =
    if is (codes "auth") name then options secret (with_login secret o v w) rest
    else if is (codes "setname") name then (with_name o v >>= λ p. options secret p (w ∷ rest))
    else Err (HelloOption (told name))

-- HELLO with these words: a version, if there is one, and options
abbrev pub hello_request : Option (List ℕ) → List Word → Result HelloRequest Refusal
hello_request secret [] = Ok (record { protocol = None; options = unsaid })
hello_request secret (word ∷ words) = version word >>= λ p. options secret unsaid words >>= λ o. Ok (record { protocol = Some p; options = o })
