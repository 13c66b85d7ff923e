-- A snapshot's state that is encoded in steps, as the end of a frame's payload.
use Rattle.std.specs.Prelude.{ℕ, ◌≡◌, ◌⊎◌, ◌≤◌, ◌++◌, List, Option, IfSome, length, take}
use Rattle.raft_codec.specs.Codec.{Codec}
use Rattle.raft_frames.specs.Crc.{crc32c}
use Rattle.raft_frames.specs.Format.{word}
use Rattle.raft_frames.specs.declared.tail.TheConstants.{MAX_FRAME}
use Rattle.raft_packed.specs.declared.encoding.Encoded.{Encoded as Whole}
use Rattle.raft_packed.specs.declared.encoding.Encoding.{Encoding}
use Rattle.raft_packed.specs.declared.encoding.Progress.{Progress}
use Rattle.raft_packed.specs.declared.encoding.Progress.TheVariants.{Encoded, Summed}
use Rattle.raft_packed.specs.declared.place.Place.{Place}
use Rattle.raft_packed.specs.declared.place.Place.TheVariants.{Front, End}

-- the sum of a payload's frame, taken on through so many of its bytes
abbrev pub sum_upto : ℕ → List ℕ → ℕ → ℕ
sum_upto before payload len = crc32c ((word before ++ word (length payload)) ++ take len payload)

-- what is done when a place is reached: at the end the sum begins, if a frame can have the payload
pub record BeginsSum (before : ℕ) (payload : List ℕ) (at : Place) (p : Progress) : Type 0 where
  pub ends : at ≡ End
  pub short : length payload ≤ MAX_FRAME
  pub begins : p ≡ Summed (sum_upto before payload 0) 0

abbrev pub IsReached : ℕ → List ℕ → Place → Progress → Type 0
IsReached before payload at p = (p ≡ Encoded at) ⊎ BeginsSum before payload at p

-- nothing but the front is encoded
pub record IsBegun (before : ℕ) (front : List ℕ) (e : Encoding) : Type 0 where
  pub after : e.before ≡ before
  pub behind : e.front.items ≡ front
  pub bytes : e.bytes.items ≡ front
  pub progress : e.progress ≡ Encoded Front

-- all is encoded and summed
pub record IsFinished (before : ℕ) (front : List ℕ) (e : Encoding) (made : Whole) : Type 0 where
  pub after : e.before ≡ before
  pub behind : e.front.items ≡ front
  pub bytes : made.bytes ≡ e.bytes
  pub summed : (len : ℕ) × (e.progress ≡ Summed made.sum len) × (length e.bytes.items ≤ len)

-- by what is left of a state at a place, and whether that can be written
module _ {S : Type 0} (c : Codec S) (left : S → Place → List ℕ) (fits_left : S → Place → Type 0) where
  -- a payload is a front and the state's bytes up to a place
  pub record IsUpto (state : S) (front payload : List ℕ) (at : Place) : Type 0 where
    pub fits : fits_left state at → c.fits state
    pub bytes : payload ++ left state at ≡ front ++ c.bytes state

  -- it is a front and all of the state's bytes, and the sum of its frame is taken on through so many of them
  pub record IsSummed (before : ℕ) (state : S) (front payload : List ℕ) (sum len : ℕ) : Type 0 where
    pub fits : c.fits state
    pub bytes : payload ≡ front ++ c.bytes state
    pub short : length payload ≤ MAX_FRAME
    pub within : len ≤ length payload
    pub summed : sum ≡ sum_upto before payload len

  abbrev pub IsAt : ℕ → S → List ℕ → List ℕ → Progress → Type 0
  IsAt before state front payload (Encoded at) = IsUpto state front payload at
  IsAt before state front payload (Summed sum len) = IsSummed before state front payload sum len

  -- what is encoded is of this state
  abbrev pub IsOf : S → Encoding → Type 0
  IsOf state e = IsAt e.before state e.front.items e.bytes.items e.progress

  abbrev pub IsOfSome : S → Option Encoding → Type 0
  IsOfSome state encoding = IfSome encoding (λ e. IsOf state e)
