-- Values as bytes, one behind the other: what is seen as the list of the values.
use Rattle.std.specs.Prelude.{ℕ, ◌≡◌, List, [], Result, Ok, Err, length}
use Rattle.std.specs.List.{AllByRecursion, flat_map}
use Rattle.raft_codec.specs.declared.error.DecodeError.{DecodeError}
use Rattle.raft_codec.specs.Codec.{Codec, items_at}

abbrev pub found_in : {X : Type 0} → Result (List X × List ℕ) DecodeError → List X
found_in (Ok found) = found.0
found_in (Err e) = []

module _ {X : Type 0} (c : Codec X) where
  -- the values that bytes are, so many
  abbrev pub values_in : ℕ → List ℕ → List X
  values_in count bytes = found_in (items_at c count bytes)

  -- bytes are those of these values, which can be read back, and are so many
  pub record AreBytesOf (xs : List X) (n : ℕ) (bs : List ℕ) : Type 0 where
    pub count : n ≡ length xs
    pub fit : AllByRecursion c.fits xs
    pub bytes : bs ≡ flat_map c.bytes xs
