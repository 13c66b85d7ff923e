-- What taking a chunk comes to, case by case.
use Rattle.std.proofs.Common.{ℕ, ◌≡◌, ◌<◌, ◌≤◌, ◌+◌, ◌⊎◌, Bool, true, false, cond, eqb, leb, ltb, List, [], ◌++◌, length, Option, None, Some, Result, Ok, Err, refl, sym, ap, subst, ◌∙◌, arith, eq-eqb, inl, inr, length-append}
use Rattle.std.specs.Prelude.{not}
use Rattle.std.proofs.lemmas.Bool.{cases_Bool, cases_eq, cases_lt, eqb-true, leb-false, le-ltb, lt-ltb, lt-leb, ltb-false, ne_eqb}
use Rattle.raft_frames.specs.Crc.{crc32c}
use Rattle.raft_chunks.specs.declared.cursor.Title.{Title}
use Rattle.raft_chunks.specs.declared.error.Refusal.{Refusal}
use Rattle.raft_chunks.specs.declared.error.Refusal.TheVariants.{Held, Misplaced, TooLong, Damaged}
use Rattle.raft_chunks.specs.Assembled.{Assembled}
use Rattle.raft_chunks.specs.Assembly.{finished, joined, refusal_of, taken, wanted}
use Rattle.raft_chunks.specs.Chunks.{Piece, same_title}

abbrev pub Answer : Type 0
Answer = Result (Option (List ℕ)) Refusal × Assembled

abbrev pub answer : Result (Option (List ℕ)) Refusal → Assembled → Answer
answer r a = (r, a)

-- a chunk that is taken
pub record Fits (a : Assembled) (p : Piece) : Type 0 where
  pub newer : a.held < p.at.title.number
  pub placed : p.at.offset ≡ wanted a p.at.title
  pub within : p.at.offset + length p.bytes ≤ p.at.title.len

-- the refusal by what is tested, and the answer by the refusal
abbrev refusal_by : Bool → Bool → Bool → Option Refusal
refusal_by held placed long = cond held (Some Held) (cond (not placed) (Some Misplaced) (cond long (Some TooLong) None))

abbrev taken_by : Option Refusal → Assembled → Piece → Answer
taken_by refusal a p = elim refusal [ Some r ↦ answer (Err r) a | None ↦ finished (joined a p) ]

tested : (a : Assembled) (p : Piece) (held placed long : Bool) → leb p.at.title.number a.held ≡ held → eqb p.at.offset (wanted a p.at.title) ≡ placed
    → ltb p.at.title.len (p.at.offset + length p.bytes) ≡ long → refusal_of a p ≡ refusal_by held placed long
tested a p held placed long h k l =
    let b : Bool = eqb p.at.offset (wanted a p.at.title) in
    let c : Bool = ltb p.at.title.len (p.at.offset + length p.bytes) in
    ap (λ x. refusal_by x b c) h ∙ ap (λ x. refusal_by held x c) k ∙ ap (λ x. refusal_by held placed x) l

pub fits_none : (a : Assembled) (p : Piece) → Fits a p → refusal_of a p ≡ None
fits_none a p f = tested a p false true false newer (eq-eqb p.at.offset (wanted a p.at.title) f.placed) (le-ltb p.at.title.len (p.at.offset + length p.bytes) f.within)
  where
    newer : leb p.at.title.number a.held ≡ false
    newer = lt-leb p.at.title.number a.held f.newer

tried : (a : Assembled) (p : Piece) → ((r : Refusal) × (refusal_of a p ≡ Some r)) ⊎ Fits a p
tried a p =
    go (cases_Bool (leb p.at.title.number a.held)) (cases_Bool (eqb p.at.offset (wanted a p.at.title))) (cases_Bool (ltb p.at.title.len (p.at.offset + length p.bytes)))
  where
    go : ((leb p.at.title.number a.held ≡ true) ⊎ (leb p.at.title.number a.held ≡ false))
        → ((eqb p.at.offset (wanted a p.at.title) ≡ true) ⊎ (eqb p.at.offset (wanted a p.at.title) ≡ false))
        → ((ltb p.at.title.len (p.at.offset + length p.bytes) ≡ true) ⊎ (ltb p.at.title.len (p.at.offset + length p.bytes) ≡ false))
        → ((r : Refusal) × (refusal_of a p ≡ Some r)) ⊎ Fits a p
    go (inl h) k l = inl (Held, tested a p true _ _ h refl refl)
    go (inr h) (inr k) l = inl (Misplaced, tested a p false false _ h k refl)
    go (inr h) (inl k) (inl l) = inl (TooLong, tested a p false true true h k l)
    go (inr h) (inl k) (inr l) =
        inr (record { newer = leb-false p.at.title.number a.held h; placed = eqb-true p.at.offset (wanted a p.at.title) k; within = ltb-false p.at.title.len (p.at.offset + length p.bytes) l })

-- a chunk is refused, or taken
pub step : (Q : Answer → Type 0) (a : Assembled) (p : Piece) → ((r : Refusal) → refusal_of a p ≡ Some r → Q (answer (Err r) a)) → (Fits a p → Q (finished (joined a p))) → Q (taken a p)
step Q a p refused fits = go (tried a p)
  where
    go : (((r : Refusal) × (refusal_of a p ≡ Some r)) ⊎ Fits a p) → Q (taken a p)
    go (inl r) = subst (λ (o : Option Refusal). Q (taken_by o a p)) (sym r.1) (refused r.0 r.1)
    go (inr f) = subst (λ (o : Option Refusal). Q (taken_by o a p)) (sym (fits_none a p f)) (fits f)

-- the snapshot isn't whole, or is handed out, or is damaged
pub finish : (Q : Answer → Type 0) (a : Assembled) → (length a.bytes < a.title.len → Q (answer (Ok None) a))
    → (a.title.len ≤ length a.bytes → crc32c a.bytes ≡ a.title.sum → Q (answer (Ok (Some a.bytes)) (record a { held = a.title.number; bytes = [] })))
    → (a.title.len ≤ length a.bytes → (crc32c a.bytes ≡ a.title.sum → ⊥) → Q (answer (Err Damaged) (record a { bytes = [] }))) → Q (finished a)
finish Q a more whole damaged = go (cases_lt (length a.bytes) a.title.len) (cases_eq (crc32c a.bytes) a.title.sum)
  where
    go : ((length a.bytes < a.title.len) ⊎ (a.title.len ≤ length a.bytes)) → ((crc32c a.bytes ≡ a.title.sum) ⊎ (crc32c a.bytes ≡ a.title.sum → ⊥)) → Q (finished a)
    go (inl h) _ = rw (lt-ltb (length a.bytes) a.title.len h) (more h)
    go (inr h) (inl k) = let e : eqb (crc32c a.bytes) a.title.sum ≡ true = eq-eqb (crc32c a.bytes) a.title.sum k in rw (le-ltb (length a.bytes) a.title.len h, e) (whole h k)
    go (inr h) (inr k) = rw (le-ltb (length a.bytes) a.title.len h, ne_eqb (crc32c a.bytes) a.title.sum k) (damaged h k)

-- of a newer snapshot there is what is there of its title
pub wanted-newer : (a : Assembled) (title : Title) → a.held < title.number → wanted a title ≡ (cond (same_title a.title title) (length a.bytes) 0)
wanted-newer a title h = ap (λ b. cond b title.len (cond (same_title a.title title) (length a.bytes) 0)) (lt-leb title.number a.held h)

front_length : (same : Bool) (bytes more : List ℕ) → length ((cond same bytes []) ++ more) ≡ (cond same (length bytes) 0) + length more
front_length true bytes more = length-append bytes more
front_length false bytes more = omega arith

pub joined-length : (a : Assembled) (p : Piece) → Fits a p → length (joined a p).bytes ≡ p.at.offset + length p.bytes
joined-length a p f =
    front_length (same_title a.title p.at.title) a.bytes p.bytes ∙ ap (λ n. n + length p.bytes) (sym (wanted-newer a p.at.title f.newer) ∙ sym f.placed)
