-- Parts of snapshots, as they leave.
use Rattle.std.proofs.Common.{ℕ, ◌≡◌, ◌<◌, Bool, true, false, if◌then◌else◌, List, [], ◌∷◌, ◌++◌, Ok, Err, refl, sym, subst, ap, ◌∙◌, get_or}
use Rattle.std.specs.Prelude.{◌≢◌, IfOk, None, OnOk, Option, Result, Some}
use Rattle.std.specs.Global.{Vec}
use Rattle.std.specs.List.{AllByRecursion}
use Rattle.std.proofs.lemmas.List.Elements.{All-from_get_or, recursion_from_All}
use Rattle.raft_frames.specs.Crc.{crc32c}
use Rattle.raft_frames.specs.Format.{word}
use Rattle.raft_frames.specs.Laws.{IsByte}
use Rattle.raft_codec.specs.declared.error.DecodeError.{DecodeError}
use Rattle.raft_codec.specs.declared.error.DecodeError.TheVariants.{Malformed}
use Rattle.raft_codec.specs.declared.error.Fault.{Fault}
use Rattle.raft_codec.specs.Codec.{Codec, IsFound}
use Rattle.raft_chunks.specs.declared.cursor.Chunk.{Chunk}
use Rattle.raft_chunks.specs.declared.cursor.Cursor.{Cursor}
use Rattle.raft_chunks.specs.declared.cursor.Title.{Title}
use Rattle.raft_chunks.specs.declared.error.Refusal.{Refusal}
use Rattle.raft_chunks.specs.declared.error.TakeError.{TakeError}
use Rattle.raft_chunks.specs.declared.error.TakeError.TheVariants.{OutOfMemory, Refused}
use Rattle.raft_chunks.specs.Assembled.{Assembled}
use Rattle.raft_chunks.specs.Assembly.{Takes}
use Rattle.raft_chunks.specs.Chunks.{Piece, chunk_at, followed, piece_of, same_title, start_of, title_of}
use Rattle.raft_chunks.specs.Form.{Opens, opened, piece, sealed}
use Rattle.raft_chunks.proofs.Forms.{reads_back}
use Rattle.raft_packed_server.specs.proof_packed.Stores.{Packed}
use Rattle.raft_packed_server.specs.raft_packed_wire.Values.{kept}
use Rattle.raft_peers.specs.Parts.{IsWhole}

front : (xs ys : List ℕ) → AllByRecursion IsByte (xs ++ ys) → AllByRecursion IsByte xs
front [] ys h = tt
front (x ∷ xs) ys h = (h.0, front xs ys h.1)

-- a chunk is read back from its bytes
pub sealed_back : (x : Piece) (bytes : List ℕ) → piece.fits x → bytes ≡ sealed piece x → AllByRecursion IsByte bytes → opened piece bytes ≡ Ok x
sealed_back x bytes fits is each =
    ap (opened piece) is
    ∙ reads_back.1 x fits (front (piece.bytes x) (word (crc32c (piece.bytes x))) (subst (AllByRecursion IsByte) is each))

-- bytes, as `AllByRecursion` says it
pub all_bytes : (bytes : List ℕ) → ((k : ℕ) → get_or bytes k 0 < 256) → AllByRecursion IsByte bytes
all_bytes bytes each = recursion_from_All IsByte bytes (All-from_get_or IsByte bytes 0 (λ k within. each k))

-- a transfer begins in front of its snapshot's bytes
pub started : (number : ℕ) (bytes : List ℕ) (title : Title) (at : Cursor) → title ≡ title_of number bytes → at ≡ start_of title
    → (at.title ≡ title_of at.title.number bytes) × (at.title.number ≡ number)
started number bytes title at is begins =
    let titled : at.title ≡ title_of number bytes = ap (λ (c : Cursor). c.title) begins ∙ is in
    let named : at.title.number ≡ number = ap (λ (t : Title). t.number) titled in
    (titled ∙ ap (λ (n : ℕ). title_of n bytes) (sym named), named)

-- a cursor of the same title is as well one of these bytes
pub still_titled : (at next : Cursor) (bytes : List ℕ) → next.title ≡ at.title → at.title ≡ title_of at.title.number bytes
    → next.title ≡ title_of next.title.number bytes
still_titled at next bytes same titled = same ∙ (titled ∙ ap (λ (t : Title). title_of t.number bytes) (sym same))

-- wherever it goes on, its title stays
pub followed_title : (at answer : Cursor) → (followed at answer).title ≡ at.title
followed_title at answer = go (same_title at.title answer.title)
  where
    go : (b : Bool) → (if b then record at { offset = answer.offset } else at).title ≡ at.title
    go true = refl
    go false = refl

-- the sealed chunk at a cursor of its title is read back as that
pub chunk_back : (at : Cursor) (bytes sent : List ℕ) (most : ℕ) (p : Piece) → at.title ≡ title_of at.title.number bytes → p ≡ chunk_at at bytes most
    → piece.fits p → sent ≡ sealed piece p → AllByRecursion IsByte sent
    → opened piece sent ≡ Ok (chunk_at (record { title = title_of at.title.number bytes; offset = at.offset }) bytes most)
chunk_back at bytes sent most p titled is fits seals each =
    sealed_back p sent fits seals each
    ∙ ap (λ (q : Piece). Ok q) (is ∙ ap (λ (t : Title). chunk_at (record { title = t; offset = at.offset }) bytes most) titled)

-- ---- chunks that come

-- what is decoded is read so
pub decoded : (r : Result Chunk DecodeError) (bytes : List ℕ) → Opens piece_of r piece bytes → IfOk r (λ y. opened piece bytes ≡ Ok (piece_of y))
decoded (Ok y) bytes h = h
decoded (Err e) bytes h = tt

-- what an assembly has after a chunk, if memory didn't run out
pub took : (r : Result (Option (Vec ℕ)) TakeError) (given : Result (Option (List ℕ)) Refusal × Assembled) (old new : Assembled)
    → Takes r given old new → r ≢ Err OutOfMemory → new ≡ given.1
took (Ok bytes) given old new h n = sym (ap (λ (q : Result (Option (List ℕ)) Refusal × Assembled). q.1) h)
took (Err (Refused refusal)) given old new h n = sym (ap (λ (q : Result (Option (List ℕ)) Refusal × Assembled). q.1) h)
took (Err OutOfMemory) given old new h n = absurd (n refl)

-- and what it hands out
pub handed_out : (bytes : Vec ℕ) (given : Result (Option (List ℕ)) Refusal × Assembled) (old new : Assembled) → Takes (Ok (Some bytes)) given old new
    → given.0 ≡ Ok (Some bytes.items)
handed_out bytes given old new h = ap (λ (q : Result (Option (List ℕ)) Refusal × Assembled). q.0) h

-- or that it hands nothing out
pub nothing_out : (given : Result (Option (List ℕ)) Refusal × Assembled) (old new : Assembled) → Takes (Ok None) given old new → given.0 ≡ Ok None
nothing_out given old new h = ap (λ (q : Result (Option (List ℕ)) Refusal × Assembled). q.0) h

-- or refuses the chunk
pub refused : (refusal : Refusal) (given : Result (Option (List ℕ)) Refusal × Assembled) (old new : Assembled)
    → Takes (Err (Refused refusal)) given old new
    → given.0 ≡ Err refusal
refused refusal given old new h = ap (λ (q : Result (Option (List ℕ)) Refusal × Assembled). q.0) h

same_out : (one other : List ℕ) → ◌≡◌ {A = Result (Option (List ℕ)) Refusal} (Ok (Some one)) (Ok (Some other)) → one ≡ other
same_out one other e = cc

-- no snapshot has bytes from which none is read
pub none_has : {S : Type 0} (c : Codec S) (r : Result (Packed S) DecodeError) (e : DecodeError) (fault : Fault) (left : ℕ) (bytes : List ℕ)
    → r ≡ Err e
    → e ≡ Malformed fault left → ((p : Packed S) → (kept c).fits p → bytes ≡ (kept c).bytes p → IsFound r p) → IsWhole c (Ok (Some bytes)) None
none_has c r e fault left bytes is malformed read_back = λ p fits whole.
    subst (λ (d : DecodeError). IsFound {X = Packed _} (Err d) p) malformed
    (subst (λ (q : Result (Packed _) DecodeError). IsFound q p) is (read_back p fits (same_out bytes ((kept c).bytes p) whole)))

-- what holds whatever a call gives
pub on_any : {T E P : Type 0} (r : Result T E) → P → OnOk r P
on_any (Ok x) h = h
on_any (Err e) h = tt
