-- What holds of chunks and their assembly: laws of the definitions that the code equals.
use Rattle.std.specs.Prelude.{ℕ, ◌≡◌, ◌≢◌, ◌<◌, ◌≤◌, ◌+◌, ◌*◌, zero, suc, true, List, [], ◌∷◌, ◌++◌, length, take, drop, Option, None, Some, Result, Ok, Err}
use Rattle.std.specs.List.{AllByRecursion}
use Rattle.raft_codec.specs.Codec.{Codec}
use Rattle.raft_frames.specs.Crc.{crc32c}
use Rattle.raft_frames.specs.Laws.{IsByte}
use Rattle.raft_chunks.specs.declared.cursor.Title.{Title}
use Rattle.raft_chunks.specs.declared.error.Refusal.{Refusal}
use Rattle.raft_chunks.specs.declared.error.Refusal.TheVariants.{Damaged}
use Rattle.raft_chunks.specs.Assembled.{Assembled}
use Rattle.raft_chunks.specs.Assembly.{cursor_of, nothing, taken}
use Rattle.raft_chunks.specs.Chunks.{Piece, chunk_at, same_title, title_of}
use Rattle.raft_chunks.specs.Form.{cursor, opened, piece, sealed}

-- ---- bytes

-- what is written is read
abbrev pub ReadsBackOf : {X : Type 0} → Codec X → Type 0
ReadsBackOf c = (x : _) → c.fits x → AllByRecursion IsByte (c.bytes x) → opened c (sealed c x) ≡ Ok x

abbrev pub ReadsBack : Type 0
ReadsBack = ReadsBackOf cursor × ReadsBackOf piece

-- what is read of bytes is spelled so, and can be written
abbrev pub ReadsWhatIsThereOf : {X : Type 0} → Codec X → Type 0
ReadsWhatIsThereOf c = (x : _) (bytes : List ℕ) → AllByRecursion IsByte bytes → opened c bytes ≡ Ok x → c.fits x × (bytes ≡ sealed c x)

abbrev pub ReadsWhatIsThere : Type 0
ReadsWhatIsThere = ReadsWhatIsThereOf cursor × ReadsWhatIsThereOf piece

-- ---- runs of chunks

-- a snapshot that is handed out: its title and its bytes
abbrev pub Handed : Type 0
Handed = List (Title × List ℕ)

abbrev pub handed : Title → Result (Option (List ℕ)) Refusal → Handed
handed title (Ok (Some bytes)) = (title, bytes) ∷ []
handed title (Ok None) = []
handed title (Err refusal) = []

-- all that is handed out as chunks come
abbrev pub handed_by : Assembled → List Piece → Handed
handed_by a [] = []
handed_by a (p ∷ ps) = handed p.at.title (taken a p).0 ++ handed_by (taken a p).1 ps

-- It has its title's length and sum, whatever chunks come.
pub record IsTitled (out : Title × List ℕ) : Type 0 where
  pub len : length out.1 ≡ out.0.len
  pub sum : crc32c out.1 ≡ out.0.sum

abbrev pub AssemblesByTitle : Type 0
AssemblesByTitle = (held : ℕ) (ps : List Piece) → AllByRecursion IsTitled (handed_by (nothing held) ps)

-- A chunk is a part of the snapshot that its title names; `bytes_of` says which bytes that are.
pub record IsSent (bytes_of : Title → List ℕ) (p : Piece) : Type 0 where
  pub len : p.at.title.len ≡ length (bytes_of p.at.title)
  pub part : p.bytes ≡ take (length p.bytes) (drop p.at.offset (bytes_of p.at.title))

-- If each chunk is, in whatever order they come, however often, and from whomever: what is handed out is what was sent.
abbrev pub AssemblesWhatWasSent : Type 0
AssemblesWhatWasSent = (bytes_of : Title → List ℕ) (held : ℕ) (ps : List Piece) → AllByRecursion (IsSent bytes_of) ps
    → AllByRecursion (λ out. out.1 ≡ bytes_of out.0) (handed_by (nothing held) ps)

-- A chunk that is refused loses nothing, unless the snapshot was damaged.
abbrev pub KeepsWhatItHas : Type 0
KeepsWhatItHas = (a : Assembled) (p : Piece) (refusal : Refusal) → (taken a p).0 ≡ Err refusal → refusal ≢ Damaged → (taken a p).1 ≡ a

-- ---- a transfer

-- so many chunks of a snapshot, each at the receiver's answer
abbrev pub handed_after : ℕ → ℕ → Title → List ℕ → Assembled → Handed
handed_after zero most title bytes a = []
handed_after (suc n) most title bytes a =
    let r = taken a (chunk_at (cursor_of a title) bytes most) in
    handed title r.0 ++ handed_after n most title bytes r.1

-- what is there of this snapshot, if anything, is its front
abbrev pub HasFront : Title → List ℕ → Assembled → Type 0
HasFront title bytes a = same_title a.title title ≡ true → a.bytes ≡ take (length a.bytes) bytes

-- From whatever is there of a newer snapshot, as many chunks as its other bytes need complete it, and it is handed out once.
abbrev pub Arrives : Type 0
Arrives = (number : ℕ) (bytes : List ℕ) (a : Assembled) (most n : ℕ) → let title = title_of number bytes in
    a.held < number → HasFront title bytes a → 1 ≤ most → 1 ≤ n → length bytes ≤ (cursor_of a title).offset + n * most
    → handed_after n most title bytes a ≡ (title, bytes) ∷ []
