-- A state's bytes in pieces: what of them is left at a place.
use Rattle.std.specs.Prelude.{ℕ, ◌≡◌, List, [], ◌∷◌, ◌++◌, drop, Option, None, Some}
use Rattle.std.specs.List.{AllByRecursion, flat_map}
use Rattle.std.specs.Ordering.{nat_cmp}
use Rattle.std.specs.Cmp.Lexicographic.{slice_cmp}
use Rattle.std.specs.BTreeMap.Range.{entries_between}
use Rattle.std.specs.declared.ops.Bound.TheVariants.{Included, Unbounded}
use Rattle.std.specs.FinMap.{entries}
use Rattle.lru.specs.LruCache.{LruCache}
use Rattle.raft_codec.specs.Codec.{Codec}
use Rattle.raft_machine.specs.declared.machine.Answered.{Answered}
use Rattle.raft_machine.specs.declared.stored.Stored.{Stored}
use Rattle.raft_machine.specs.declared.place.Place.{Place}
use Rattle.raft_machine.specs.declared.place.Place.TheVariants.{Front, From, Sessions, End}
use Rattle.raft_machine.specs.Bytes.{entry, session, sessions, space, state}
use Rattle.raft_machine.specs.Machine.{State}
use Rattle.raft_machine.specs.Space.{Space}

abbrev pub Entries : Type 0
Entries = List (List ℕ × Stored)

-- the entries from a key on, or none
abbrev pub from : List ℕ → Entries → Entries
from key es = entries_between (slice_cmp nat_cmp) (Included key) Unbounded es

abbrev pub from_next : Option (List ℕ) → Entries → Entries
from_next None es = []
from_next (Some key) es = from key es

-- a writer of values has appended all but the rest: they fit if the rest does
abbrev pub WritesUpto : {X : Type 0} → Codec X → List X → List X → List ℕ → List ℕ → Type 0
WritesUpto c xs rest old new = (AllByRecursion c.fits rest → AllByRecursion c.fits xs) × (new ++ flat_map c.bytes rest ≡ old ++ flat_map c.bytes xs)

-- xs end with these
abbrev pub EndsWith : {X : Type 0} → List X → List X → Type 0
EndsWith {X} xs rest = (front : List X) × (front ++ rest ≡ xs)

-- these begin with a key, or there are none
abbrev pub BeginsAt : Entries → Option (List ℕ) → Type 0
BeginsAt es None = es ≡ []
BeginsAt es (Some key) = (stored : Stored) × (more : Entries) × (es ≡ (key, stored) ∷ more)

-- what stands before the entries was appended, or before the sessions
abbrev pub WritesFront : Space → List ℕ → List ℕ → Type 0
WritesFront s old new =
    (AllByRecursion entry.fits (entries s.map) → space.fits s) × (new ++ flat_map entry.bytes (entries s.map) ≡ old ++ space.bytes s)

abbrev pub WritesSessionsFront : LruCache ℕ Answered → List ℕ → List ℕ → Type 0
WritesSessionsFront c old new =
    (AllByRecursion session.fits c.entries → sessions.fits c) × (new ++ flat_map session.bytes c.entries ≡ old ++ sessions.bytes c)

-- what of a state's bytes is left at a place, and whether that can be written
abbrev pub left : State → Place → List ℕ
left st Front = state.bytes st
left st (From key) = flat_map entry.bytes (from key (entries st.space.map)) ++ sessions.bytes st.sessions
left st (Sessions n) = flat_map session.bytes (drop n st.sessions.entries)
left st End = []

abbrev pub FitsLeft : State → Place → Type 0
FitsLeft st Front = state.fits st
FitsLeft st (From key) = AllByRecursion entry.fits (from key (entries st.space.map)) × sessions.fits st.sessions
FitsLeft st (Sessions n) = AllByRecursion session.fits (drop n st.sessions.entries)
FitsLeft st End = Unit {0}

-- what stands between two places was appended
abbrev pub GoesOn : State → Place → Place → List ℕ → List ℕ → Type 0
GoesOn st at next old new = (FitsLeft st next → FitsLeft st at) × (new ++ left st next ≡ old ++ left st at)
