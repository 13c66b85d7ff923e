-- What is left of a state's bytes at a place, if it is encoded at once.
use Rattle.std.specs.Prelude.{ℕ, List, []}
use Rattle.raft_codec.specs.Codec.{Codec}
use Rattle.raft_packed.specs.declared.place.Place.{Place}
use Rattle.raft_packed.specs.declared.place.Place.TheVariants.{Front, Item, Count, End}

module _ {S : Type 0} (c : Codec S) where
  abbrev pub whole_left : S → Place → List ℕ
  whole_left state Front = c.bytes state
  whole_left state (Item key) = []
  whole_left state (Count n) = []
  whole_left state End = []

  abbrev pub fits_whole : S → Place → Type 0
  fits_whole state Front = c.fits state
  fits_whole state (Item key) = Unit {0}
  fits_whole state (Count n) = Unit {0}
  fits_whole state End = Unit {0}
