-- What is handed out as chunks come.
use Rattle.std.proofs.Common.{ℕ, zero, suc, ◌≡◌, ◌<◌, ◌≤◌, ◌+◌, ◌*◌, ◌⊎◌, Bool, true, false, cond, List, [], ◌∷◌, ◌++◌, length, take, drop, refl, sym, ap, subst, ◌∙◌, arith, inl, inr}
use Rattle.std.specs.Prelude.{Option, Some, Result, Ok}
use Rattle.std.specs.List.{AllByRecursion}
use Rattle.std.proofs.lemmas.Bool.{cases_eq, cases_lt}
use Rattle.std.proofs.lemmas.List.{take_all, take-take, drop-take, take-append-drop, length-take, length-drop}
use Rattle.raft_frames.specs.Crc.{crc32c}
use Rattle.raft_chunks.specs.declared.cursor.Title.{Title}
use Rattle.raft_chunks.specs.Assembled.{Assembled}
use Rattle.raft_chunks.specs.declared.error.Refusal.{Refusal}
use Rattle.raft_chunks.specs.Assembly.{cursor_of, joined, nothing, taken, wanted}
use Rattle.raft_chunks.specs.Chunks.{Piece, chunk_at, same_title, title_of}
use Rattle.raft_chunks.specs.Laws.{Arrives, AssemblesByTitle, AssemblesWhatWasSent, HasFront, IsSent, IsTitled, handed, handed_after, handed_by}
use Rattle.raft_chunks.proofs.Steps.{Answer, Fits, finish, fits_none, joined-length, step, wanted-newer}

-- ---- by title

by_title : (a : Assembled) (ps : List Piece) → AllByRecursion IsTitled (handed_by a ps)
by_title a [] = tt
by_title a (p ∷ ps) =
    let Q : Answer → Type 0 = λ r. AllByRecursion IsTitled (handed p.at.title r.0 ++ handed_by r.1 ps) in
    step Q a p (λ r e. by_title a ps) (λ f.
    finish Q (joined a p) (λ l. by_title (joined a p) ps)
    (λ l s. (record { len = omega (arith, l, joined-length a p f, f.within); sum = s }, by_title (record (joined a p) { held = p.at.title.number; bytes = [] }) ps))
    (λ l s. by_title (record (joined a p) { bytes = [] }) ps))

pub assembles_by_title : AssemblesByTitle
assembles_by_title held ps = by_title (nothing held) ps

-- ---- what was sent

pub take_both : (n m : ℕ) (xs : List ℕ) → take n xs ++ take m (drop n xs) ≡ take (n + m) xs
take_both n m xs =
    let le : n ≤ n + m = omega arith in
    sym (ap (λ front. front ++ take m (drop n xs)) (take-take n (n + m) xs le))
    ∙ ap (λ back. take n (take (n + m) xs) ++ back) (sym (drop-take n m xs))
    ∙ take-append-drop n (take (n + m) xs)

abbrev title_by : ℕ → ℕ → ℕ → Title
title_by number len sum = record { number = number; len = len; sum = sum }

pub same_titles : (a b : Title) → same_title a b ≡ true → a ≡ b
same_titles a b h = go (cases_eq a.number b.number) (cases_eq a.len b.len) (cases_eq a.sum b.sum)
  where
    go : ((a.number ≡ b.number) ⊎ (a.number ≡ b.number → ⊥)) → ((a.len ≡ b.len) ⊎ (a.len ≡ b.len → ⊥)) → ((a.sum ≡ b.sum) ⊎ (a.sum ≡ b.sum → ⊥)) → a ≡ b
    go (inl n) (inl l) (inl s) = ap (λ x. title_by x a.len a.sum) n ∙ ap (λ x. title_by b.number x a.sum) l ∙ ap (λ x. title_by b.number b.len x) s
    go (inl n) (inl l) (inr s) = absurd (grind arith)
    go (inl n) (inr l) _ = absurd (grind arith)
    go (inr n) _ _ = absurd (grind arith)

-- bytes are a front of a snapshot's, if those before the chunk were, and the chunk is a part of it
front_of : (whole bytes more : List ℕ) (offset : ℕ) (same : Bool) → (same ≡ true → bytes ≡ take (length bytes) whole) → offset ≡ cond same (length bytes) 0 → more ≡ take (length more) (drop offset whole)
    → (cond same bytes []) ++ more ≡ take (offset + length more) whole
front_of whole bytes more offset true front at part =
    ap (λ xs. xs ++ more) (front refl)
    ∙ ap (λ xs. take (length bytes) whole ++ xs) (part ∙ ap (λ n. take (length more) (drop n whole)) at)
    ∙ take_both (length bytes) (length more) whole
    ∙ ap (λ n. take (n + length more) whole) (sym at)
front_of whole bytes more offset false front at part =
    part ∙ ap (λ n. take (length more) (drop n whole)) at ∙ ap (λ n. take n whole) (let e : length more ≡ offset + length more = omega (arith, at) in e)

-- what is there is a front of what its title names
abbrev IsFront : (Title → List ℕ) → Assembled → Type 0
IsFront bytes_of a = a.bytes ≡ take (length a.bytes) (bytes_of a.title)

joined-front : (bytes_of : Title → List ℕ) (a : Assembled) (p : Piece) → IsFront bytes_of a → IsSent bytes_of p → Fits a p → IsFront bytes_of (joined a p)
joined-front bytes_of a p front sent f =
    front_of (bytes_of p.at.title) a.bytes p.bytes p.at.offset (same_title a.title p.at.title)
    (λ same. subst (λ title. a.bytes ≡ take (length a.bytes) (bytes_of title)) (same_titles a.title p.at.title same) front)
    (f.placed ∙ wanted-newer a p.at.title f.newer) sent.part
    ∙ ap (λ n. take n (bytes_of p.at.title)) (sym (joined-length a p f))

sent : (bytes_of : Title → List ℕ) (a : Assembled) (ps : List Piece) → IsFront bytes_of a → AllByRecursion (IsSent bytes_of) ps → AllByRecursion (λ (out : Title × List ℕ). out.1 ≡ bytes_of out.0) (handed_by a ps)
sent bytes_of a [] front each = tt
sent bytes_of a (p ∷ ps) front each =
    let Q : Answer → Type 0 = λ r. AllByRecursion (λ (out : Title × List ℕ). out.1 ≡ bytes_of out.0) (handed p.at.title r.0 ++ handed_by r.1 ps) in
    step Q a p (λ r e. sent bytes_of a ps front each.1) (λ f.
    let there = joined-front bytes_of a p front each.0 f in
    finish Q (joined a p) (λ l. sent bytes_of (joined a p) ps there each.1)
    (λ l s. (
      there ∙ take_all (length (joined a p).bytes) (bytes_of p.at.title) (omega (arith, l, each.0.len)),
      sent bytes_of (record (joined a p) { held = p.at.title.number; bytes = [] }) ps refl each.1,
    ))
    (λ l s. sent bytes_of (record (joined a p) { bytes = [] }) ps refl each.1))

pub assembles_what_was_sent : AssemblesWhatWasSent
assembles_what_was_sent bytes_of held ps each = sent bytes_of (nothing held) ps refl each

-- ---- a transfer

same_self : (title : Title) → same_title title title ≡ true
same_self title = grind arith

-- a snapshot that is there is refused
held-refused : (n most : ℕ) (title : Title) (bytes : List ℕ) (a : Assembled) → title.number ≤ a.held → handed_after n most title bytes a ≡ []
held-refused zero most title bytes a h = refl
held-refused (suc n) most title bytes a h =
    let Q : Answer → Type 0 = λ r. handed title r.0 ++ handed_after n most title bytes r.1 ≡ [] in
    step Q a (chunk_at (cursor_of a title) bytes most) (λ r e. held-refused n most title bytes a h) (λ f. absurd (omega (arith, f.newer, h)))

-- what is wanted is within the snapshot
wanted-within : (same : Bool) (bytes whole : List ℕ) → (same ≡ true → bytes ≡ take (length bytes) whole) → cond same (length bytes) 0 ≤ length whole
wanted-within true bytes whole front =
    let e : length bytes ≡ length (take (length bytes) whole) = ap length (front refl) in
    omega (arith, e, length-take (length bytes) whole)
wanted-within false bytes whole front = omega arith

chunk-fits : (number : ℕ) (bytes : List ℕ) (a : Assembled) (most : ℕ) → a.held < number → HasFront (title_of number bytes) bytes a
    → Fits a (chunk_at (cursor_of a (title_of number bytes)) bytes most)
chunk-fits number bytes a most h front =
    let title = title_of number bytes in
    let at = wanted a title in
    let w : at ≤ length bytes = subst (λ n. n ≤ length bytes) (sym (wanted-newer a title h)) (wanted-within (same_title a.title title) a.bytes bytes front) in
    record { newer = h; placed = refl; within = omega (arith, w, length-take most (drop at bytes), length-drop at bytes) }

-- the chunk is a part of the snapshot
chunk-part : (at most : ℕ) (bytes : List ℕ) → take most (drop at bytes) ≡ take (length (take most (drop at bytes))) (drop at bytes)
chunk-part at most bytes = go (cases_lt most (length (drop at bytes)))
  where
    go : ((most < length (drop at bytes)) ⊎ (length (drop at bytes) ≤ most)) → take most (drop at bytes) ≡ take (length (take most (drop at bytes))) (drop at bytes)
    go (inl h) = let e : length (take most (drop at bytes)) ≡ most = omega (arith, h, length-take most (drop at bytes)) in ap (λ n. take n (drop at bytes)) (sym e)
    go (inr h) =
        let e : take most (drop at bytes) ≡ drop at bytes = take_all most (drop at bytes) h in
        let l : length (drop at bytes) ≤ length (take most (drop at bytes)) = omega (arith, h, length-take most (drop at bytes)) in
        e ∙ sym (take_all (length (take most (drop at bytes))) (drop at bytes) l)

-- after a chunk of it the snapshot's front is longer
joined-longer : (number : ℕ) (bytes : List ℕ) (a : Assembled) (most : ℕ) → a.held < number → HasFront (title_of number bytes) bytes a
    → let p = chunk_at (cursor_of a (title_of number bytes)) bytes most in (joined a p).bytes ≡ take (length (joined a p).bytes) bytes
joined-longer number bytes a most h front =
    let title = title_of number bytes in
    let at = wanted a title in
    let p = chunk_at (cursor_of a title) bytes most in
    front_of bytes a.bytes p.bytes at (same_title a.title title) front (wanted-newer a title h) (chunk-part at most bytes)
    ∙ ap (λ n. take n bytes) (sym (joined-length a p (chunk-fits number bytes a most h front)))

-- one chunk: the snapshot is handed out, or the others bring it
one : (n number : ℕ) (bytes : List ℕ) (a : Assembled) (most : ℕ) → a.held < number → HasFront (title_of number bytes) bytes a
    → let title = title_of number bytes in let p = chunk_at (cursor_of a title) bytes most in
    (length (joined a p).bytes < length bytes → handed_after n most title bytes (joined a p) ≡ (title, bytes) ∷ []) → handed_after (suc n) most title bytes a ≡ (title, bytes) ∷ []
one n number bytes a most h front others =
    let title = title_of number bytes in
    let p = chunk_at (cursor_of a title) bytes most in
    let f = chunk-fits number bytes a most h front in
    let longer = joined-longer number bytes a most h front in
    let Q : Answer → Type 0 = λ r. handed title r.0 ++ handed_after n most title bytes r.1 ≡ (title, bytes) ∷ [] in
    step Q a p (λ r e. let none = fits_none a p f in absurd cc) (λ _.
    finish Q (joined a p) others
    (λ l s.
    let all : (joined a p).bytes ≡ bytes = longer ∙ take_all (length (joined a p).bytes) bytes l in
    ap (λ xs. (title, xs) ∷ handed_after n most title bytes (record { held = number; title = title; bytes = [] })) all
    ∙ ap (λ out. (title, bytes) ∷ out) (held-refused n most title bytes (record { held = number; title = title; bytes = [] }) (omega arith)))
    (λ l s.
    let all : (joined a p).bytes ≡ bytes = longer ∙ take_all (length (joined a p).bytes) bytes l in
    absurd (s (ap crc32c all))))

-- how many bytes are there after a chunk that isn't the last
joined-size : (number : ℕ) (bytes : List ℕ) (a : Assembled) (most : ℕ) → a.held < number → HasFront (title_of number bytes) bytes a
    → let title = title_of number bytes in let p = chunk_at (cursor_of a title) bytes most in
    length (joined a p).bytes < length bytes → length (joined a p).bytes ≡ wanted a title + most
joined-size number bytes a most h front less =
    let title = title_of number bytes in
    let at = wanted a title in
    let size = joined-length a (chunk_at (cursor_of a title) bytes most) (chunk-fits number bytes a most h front) in
    omega (arith, size, less, length-take most (drop at bytes), length-drop at bytes)

arrives : (n number : ℕ) (bytes : List ℕ) (a : Assembled) (most : ℕ) → a.held < number → HasFront (title_of number bytes) bytes a
    → length bytes ≤ wanted a (title_of number bytes) + (most + n * most) → handed_after (suc n) most (title_of number bytes) bytes a ≡ (title_of number bytes, bytes) ∷ []
arrives zero number bytes a most h front enough =
    one zero number bytes a most h front (λ less. let size = joined-size number bytes a most h front less in absurd (omega (arith, size, less, enough)))
arrives (suc n) number bytes a most h front enough =
    one (suc n) number bytes a most h front (λ less.
    let title = title_of number bytes in
    let p = chunk_at (cursor_of a title) bytes most in
    let size = joined-size number bytes a most h front less in
    let there : wanted (joined a p) title ≡ length (joined a p).bytes = wanted-newer (joined a p) title h ∙ ap (λ same. cond same (length (joined a p).bytes) 0) (same_self title) in
    arrives n number bytes (joined a p) most h (λ same. joined-longer number bytes a most h front) (omega (arith, size, there, enough)))

pub snapshots_arrive : Arrives
snapshots_arrive number bytes a most zero h front some one_more enough = absurd (omega (arith, one_more))
snapshots_arrive number bytes a most (suc n) h front some one_more enough = arrives n number bytes a most h front (omega (arith, enough))

-- ---- one chunk of a snapshot, wherever it begins

abbrev handed_out : List ℕ → Result (Option (List ℕ)) Refusal
handed_out bytes = Ok (Some bytes)

same_handed : (one other : List ℕ) → handed_out one ≡ handed_out other → one ≡ other
same_handed one other e = cc

-- what is there of the snapshot stays a front of it, and what is handed out is all of it
pub record TookPart (title : Title) (bytes : List ℕ) (a : Assembled) (r : Answer) : Type 0 where
  pub whole : (all : List ℕ) → r.0 ≡ handed_out all → all ≡ bytes
  pub left : (r.1 ≡ a) ⊎ ((r.1.bytes ≡ []) ⊎ ((r.1.title ≡ title) × (r.1.bytes ≡ take (length r.1.bytes) bytes)))

pub part_taken : (number : ℕ) (bytes : List ℕ) (a : Assembled) (offset most : ℕ) → HasFront (title_of number bytes) bytes a
    → TookPart (title_of number bytes) bytes a (taken a (chunk_at (record { title = title_of number bytes; offset = offset }) bytes most))
part_taken number bytes a offset most front =
    let title = title_of number bytes in
    let p : Piece = chunk_at (record { title = title; offset = offset }) bytes most in
    step (TookPart title bytes a) a p (λ r e. record { whole = λ all x. absurd cc; left = inl refl }) (λ f.
    let there : (joined a p).bytes ≡ take (length (joined a p).bytes) bytes =
    front_of bytes a.bytes p.bytes offset (same_title a.title title) front (f.placed ∙ wanted-newer a title f.newer) (chunk-part offset most bytes)
    ∙ ap (λ n. take n bytes) (sym (joined-length a p f)) in
    finish (TookPart title bytes a) (joined a p) (λ l. record { whole = λ all x. absurd cc; left = inr (inr (refl, there)) })
    (λ l s. record {
      whole = λ all x. sym (same_handed (joined a p).bytes all x) ∙ (there ∙ take_all (length (joined a p).bytes) bytes l);
      left = inr (inl refl);
    })
    (λ l s. record { whole = λ all x. absurd cc; left = inr (inl refl) }))
