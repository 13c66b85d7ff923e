-- How values stand in bytes, and what a writer and a reader of them promise.
use Rattle.std.specs.Prelude.{ℕ, zero, suc, ◌≡◌, ◌<◌, ◌^◌, ◌+◌, ◌*◌, ◌-◌, ◌/◌, ◌%◌, ◌==◌, nat_lt, Bool, true, false, List, [], ◌∷◌, ◌++◌, length, take, drop, Option, None, Some, Result, Ok, Err, OnOk, if◌then◌else◌}
use Rattle.std.specs.List.{AllByRecursion, flat_map}
use Rattle.raft_codec.specs.declared.error.DecodeError.{DecodeError}
use Rattle.raft_codec.specs.declared.error.DecodeError.TheVariants.{OutOfMemory, Malformed}
use Rattle.raft_codec.specs.declared.error.Fault.{Fault}
use Rattle.raft_codec.specs.declared.error.Fault.TheVariants.{TooShort, TooLong, NotShortest, TooLarge, UnknownTag, Inconsistent}

-- How the values of a type are written: which can be, by which bytes, and what a reader finds at the front of bytes: a
-- value and the bytes after it, or a fault. IsCodec says what the three have to do with one another.
pub record Codec (X : Type 0) : Type 1 where
  pub fits : X → Type 0
  pub bytes : X → List ℕ
  pub read : List ℕ → Result (X × List ℕ) DecodeError

-- A reader is the inverse of its writer.
pub record IsCodec {X : Type 0} (c : Codec X) : Type 0 where
  -- what is read can be written, and stood there as it is written
  pub written : (front : List ℕ) (found : X × List ℕ) → c.read front ≡ Ok found → c.fits found.0 × (front ≡ c.bytes found.0 ++ found.1)
  -- each value takes a byte at least
  pub some : (x : X) → 0 < length (c.bytes x)
  -- what can be written is read, whatever follows it
  pub read_back : (x : X) (rest : List ℕ) → c.fits x → c.read (c.bytes x ++ rest) ≡ Ok (x, rest)

-- A writer appends exactly the value's bytes, which can be read back, unless memory runs out.
abbrev pub Writes : {X E : Type 0} → Codec X → X → Result (Unit {0}) E → List ℕ → List ℕ → Type 0
Writes c x result old new = OnOk result (c.fits x × (new ≡ old ++ c.bytes x))

-- the same of values, one behind the other
abbrev pub WritesEach : {X E : Type 0} → Codec X → List X → Result (Unit {0}) E → List ℕ → List ℕ → Type 0
WritesEach c xs result old new = OnOk result (AllByRecursion c.fits xs × (new ≡ old ++ flat_map c.bytes xs))

-- What a reader of c answers, unless memory runs out: the value that stands at the front, and leaves what follows it; or
-- the fault.
abbrev pub Refuses : {X : Type 0} → Result X DecodeError → DecodeError → Type 0
Refuses found OutOfMemory = Unit {0}
Refuses found (Malformed fault left) = found ≡ Err (Malformed fault left)

abbrev pub Finds : {X Y : Type 0} → (Y → X) → Result Y DecodeError → Result (X × List ℕ) DecodeError → List ℕ → Type 0
Finds view (Ok y) found new = found ≡ Ok (view y, new)
Finds view (Err e) found new = Refuses found e

abbrev pub Reads : {X : Type 0} → Codec X → Result X DecodeError → List ℕ → List ℕ → Type 0
Reads c result old new = Finds (λ x. x) result (c.read old) new

-- no bytes are left
abbrev pub Ends : Result (Unit {0}) DecodeError → List ℕ → Type 0
Ends (Ok _) rest = rest ≡ []
Ends (Err e) rest = (0 < length rest) × (e ≡ Malformed TooLong (length rest))

-- What a reader of a whole input answers, unless memory runs out: the value that was written, if one was.
abbrev pub IsFoundBy : {X Y : Type 0} → (Y → X) → Result Y DecodeError → X → Type 0
IsFoundBy view (Ok y) x = view y ≡ x
IsFoundBy view (Err OutOfMemory) x = Unit {0}
IsFoundBy view (Err (Malformed fault left)) x = ⊥

abbrev pub IsFound : {X : Type 0} → Result X DecodeError → X → Type 0
IsFound result x = IsFoundBy (λ y. y) result x

-- ---- what codecs are made of

infixl 10 ◌>>=◌
abbrev pub ◌>>=◌ : {A B E : Type 0} → Result A E → (A → Result B E) → Result B E
(Ok x) >>= f = f x
(Err e) >>= f = Err e

-- A number's bytes in LEB128 (DWARF standard, section 7.6): seven bits a byte, the lowest first, and each byte but the last
-- is 128 or more. At most `more` bytes follow the first.
unfoldable pub leb128 : ℕ → ℕ → List ℕ
leb128 zero n = n ∷ []
leb128 (suc more) n = if nat_lt n 128 then n ∷ [] else (n % 128 + 128) ∷ leb128 more (n / 128)

-- the number at the front, of which each has one form, the shortest: a last byte of 0 is refused behind others
unfoldable pub leb128_at : ℕ → List ℕ → Result (ℕ × List ℕ) Fault
leb128_at zero [] = Err TooShort
leb128_at zero (b ∷ rest) = if nat_lt b 2 then Ok (b, rest) else Err TooLarge
leb128_at (suc more) [] = Err TooShort
leb128_at (suc more) (b ∷ rest) =
    if nat_lt b 128 then Ok (b, rest)
    else if nat_lt b 256 then (leb128_at more rest >>= λ high. if high.0 == 0 then Err NotShortest else Ok (b - 128 + 128 * high.0, high.1))
    else Err TooLarge

-- a fault of the item that begins at the front
abbrev pub at_front : {X : Type 0} → List ℕ → Result X Fault → Result X DecodeError
at_front front (Ok x) = Ok x
at_front front (Err fault) = Err (Malformed fault (length front))

-- a number of 64 bits: LEB128, at most ten bytes
unfoldable pub number : Codec ℕ
number = record { fits = λ n. n < 2 ^ 64; bytes = leb128 9; read = λ front. at_front front (leb128_at 9 front) }

-- the byte at the front, which tells values apart
unfoldable pub tag_at : List ℕ → Result (ℕ × List ℕ) DecodeError
tag_at [] = Err (Malformed TooShort 0)
tag_at (tag ∷ rest) = Ok (tag, rest)

-- no value begins with the byte before these
abbrev pub unknown_tag : {X : Type 0} → List ℕ → Result X DecodeError
unknown_tag rest = Err (Malformed UnknownTag (length rest + 1))

-- a length: at most as many as there are bytes behind it
unfoldable pub length_at : List ℕ → Result (ℕ × List ℕ) DecodeError
length_at front = do
  n ← number.read front
  if nat_lt (length n.1) n.0 then Err (Malformed TooShort (length front)) else Ok n

-- 0 or 1
unfoldable pub flag : Codec Bool
flag = record {
  fits = λ _. Unit {0};
  bytes = λ b. (if b then 1 else 0) ∷ [];
  read = λ front. do
    tag ← tag_at front
    if tag.0 == 0 then Ok (false, tag.1) else if tag.0 == 1 then Ok (true, tag.1) else unknown_tag tag.1;
}

-- bytes as they are, behind their number
unfoldable pub raw : Codec (List ℕ)
raw = record {
  fits = λ bytes. number.fits (length bytes);
  bytes = λ bytes. number.bytes (length bytes) ++ bytes;
  read = λ front. do
    n ← length_at front
    Ok (take n.0 n.1, drop n.0 n.1);
}

module _ {X : Type 0} (c : Codec X) where
  -- 0, or 1 and the value
  unfoldable pub optional : Codec (Option X)
  optional = record { fits = fits; bytes = bytes; read = read } where
    fits : Option X → Type 0
    fits None = Unit {0}
    fits (Some x) = c.fits x

    bytes : Option X → List ℕ
    bytes None = 0 ∷ []
    bytes (Some x) = 1 ∷ c.bytes x

    read : List ℕ → Result (Option X × List ℕ) DecodeError
    read front = do
      tag ← tag_at front
      if tag.0 == 0 then Ok (None, tag.1)
          else if tag.0 == 1 then (c.read tag.1 >>= λ x. Ok (Some x.0, x.1))
          else unknown_tag tag.1

  -- so many items
  unfoldable pub items_at : ℕ → List ℕ → Result (List X × List ℕ) DecodeError
  items_at zero front = Ok ([], front)
  items_at (suc n) front = do
    first ← c.read front
    others ← items_at n first.1
    Ok (first.0 ∷ others.0, others.1)

  -- how many, and each
  unfoldable pub list : Codec (List X)
  list = record {
    fits = λ xs. number.fits (length xs) × AllByRecursion c.fits xs;
    bytes = λ xs. number.bytes (length xs) ++ flat_map c.bytes xs;
    read = λ front. do
      n ← length_at front
      items_at n.0 n.1;
  }

-- one value behind another
abbrev pub pair : {X Y : Type 0} → Codec X → Codec Y → Codec (X × Y)
pair a b = record {
  fits = λ p. a.fits p.0 × b.fits p.1;
  bytes = λ p. a.bytes p.0 ++ b.bytes p.1;
  read = λ front. do
    x ← a.read front
    y ← b.read x.1
    Ok ((x.0, y.0), y.1);
}

-- a value by its parts
abbrev pub by_parts : {X Y : Type 0} → (Y → X) → (X → Y) → Codec X → Codec Y
by_parts parts whole c = record {
  fits = λ y. c.fits (parts y);
  bytes = λ y. c.bytes (parts y);
  read = λ front. do
    x ← c.read front
    Ok (whole x.0, x.1);
}

-- a value by parts that pass a test
abbrev pub by_tested : {X Y : Type 0} → (Y → X) → (X → Y) → (X → Bool) → Codec X → Codec Y
by_tested parts whole test c = record {
  fits = λ y. c.fits (parts y) × (test (parts y) ≡ true);
  bytes = λ y. c.bytes (parts y);
  read = λ front. do
    x ← c.read front
    if test x.0 then Ok (whole x.0, x.1) else Err (Malformed Inconsistent (length front));
}

-- ---- a whole input

-- the value whose bytes these are, all of them
abbrev pub whole_at : {X : Type 0} → Codec X → List ℕ → Result X DecodeError
whole_at c bytes = c.read bytes >>= λ x. if length x.1 == 0 then Ok x.0 else Err (Malformed TooLong (length x.1))

-- what a reader of it answers, unless memory runs out: that value, or the fault
abbrev pub FindsWhole : {X Y : Type 0} → (Y → X) → Result Y DecodeError → Codec X → List ℕ → Type 0
FindsWhole view (Ok y) c bytes = whole_at c bytes ≡ Ok (view y)
FindsWhole view (Err e) c bytes = Refuses (whole_at c bytes) e
