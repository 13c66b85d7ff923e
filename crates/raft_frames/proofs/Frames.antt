-- Frames that are whole, cut, or damaged.
use Rattle.std.specs.Prelude.{ℕ, ◌≡◌, ◌<◌, ◌≤◌, ◌+◌, ◌-◌, ◌⊎◌, ◌==◌, ◌&&◌, true, false, List, [], ◌∷◌, ◌++◌, length, take, drop, None, Some, Ok, Err, nat_le, if◌then◌else◌, refl}
use Rattle.std.proofs.Common.{suc, zero, arith, ◌∙◌, ap, sym, subst, inl, inr}
use Rattle.std.proofs.lemmas.Bool.{eq-eqb, eqb-true, ne_eqb, false_from_ne_true, le-leb, le-ltb, lt-ltb, leb-true, true≢false, cases_lt, and_parts, or_left, or_right}
use Rattle.std.proofs.lemmas.List.{length-append, length-take-le, take_at}
use Rattle.raft_frames.specs.Format.{check_of, frame, sum_of, word}
use Rattle.raft_frames.specs.Laws.{IsPayload}
use Rattle.raft_frames.specs.Reading.{believed, end_unless_later, has_head, is_head, next, number_at}
use Rattle.raft_frames.specs.declared.error.Fault.TheVariants.{Damaged}
use Rattle.raft_frames.specs.declared.tail.Tail.{Tail}
use Rattle.raft_frames.specs.declared.tail.TheConstants.{MAX_FRAME}
use Rattle.raft_frames.proofs.Bytes.{check_of-lt, number-word, sum_of-lt}

pub frame-length : (tail : Tail) (payload : List ℕ) → length (frame tail payload) ≡ 12 + length payload
frame-length tail payload = omega arith

-- a frame's first twelve bytes, and others behind them
abbrev pub headed : Tail → List ℕ → List ℕ → List ℕ
headed tail payload body = word (length payload) ++ (word (check_of tail.seed tail.position (length payload)) ++ (word (sum_of tail.sum payload) ++ body))

-- what is a head
pub is_head-from : (seed position : ℕ) (bytes : List ℕ) (len : ℕ) → 12 ≤ length bytes → number_at 0 bytes ≡ len → 1 ≤ len → len ≤ MAX_FRAME → number_at 4 bytes ≡ check_of seed position len
    → is_head seed position bytes ≡ true
unfolding is_head
is_head-from seed position bytes len long is some short checked =
    let a : nat_le 12 (length bytes) ≡ true = le-leb 12 (length bytes) long in
    let b : nat_le 1 (number_at 0 bytes) ≡ true = le-leb 1 (number_at 0 bytes) (subst (λ n. 1 ≤ n) (sym is) some) in
    let c : nat_le (number_at 0 bytes) MAX_FRAME ≡ true = le-leb (number_at 0 bytes) MAX_FRAME (subst (λ n. n ≤ MAX_FRAME) (sym is) short) in
    let d : (number_at 4 bytes == check_of seed position (number_at 0 bytes)) ≡ true = eq-eqb (number_at 4 bytes) (check_of seed position (number_at 0 bytes)) (checked ∙ ap (check_of seed position) (sym is)) in
    ap (λ t. t && (nat_le 1 (number_at 0 bytes) && (nat_le (number_at 0 bytes) MAX_FRAME && (number_at 4 bytes == check_of seed position (number_at 0 bytes))))) a
    ∙ (ap (λ t. t && (nat_le (number_at 0 bytes) MAX_FRAME && (number_at 4 bytes == check_of seed position (number_at 0 bytes)))) b
    ∙ (ap (λ t. t && (number_at 4 bytes == check_of seed position (number_at 0 bytes))) c ∙ d))

-- and what it says
pub record Head (seed position : ℕ) (bytes : List ℕ) : Type 0 where
  pub long : 12 ≤ length bytes
  pub some : 1 ≤ number_at 0 bytes
  pub short : number_at 0 bytes ≤ MAX_FRAME
  pub checked : number_at 4 bytes ≡ check_of seed position (number_at 0 bytes)

pub head_of : (seed position : ℕ) (bytes : List ℕ) → is_head seed position bytes ≡ true → Head seed position bytes
unfolding is_head
head_of seed position bytes h =
    let a = and_parts (nat_le 12 (length bytes)) (nat_le 1 (number_at 0 bytes) && (nat_le (number_at 0 bytes) MAX_FRAME && (number_at 4 bytes == check_of seed position (number_at 0 bytes)))) h in
    let b = and_parts (nat_le 1 (number_at 0 bytes)) (nat_le (number_at 0 bytes) MAX_FRAME && (number_at 4 bytes == check_of seed position (number_at 0 bytes))) a.1 in
    let c = and_parts (nat_le (number_at 0 bytes) MAX_FRAME) (number_at 4 bytes == check_of seed position (number_at 0 bytes)) b.1 in
    record {
      long = leb-true 12 (length bytes) a.0;
      some = leb-true 1 (number_at 0 bytes) b.0;
      short = leb-true (number_at 0 bytes) MAX_FRAME c.0;
      checked = eqb-true (number_at 4 bytes) (check_of seed position (number_at 0 bytes)) c.1;
    }

pub headed-head : (tail : Tail) (payload body : List ℕ) → IsPayload payload → is_head tail.seed tail.position (headed tail payload body) ≡ true
headed-head tail payload body fits =
    is_head-from tail.seed tail.position (headed tail payload body) (length payload) (omega arith) (number-word (length payload) (omega (arith, fits.short))) fits.some fits.short
    (number-word (check_of tail.seed tail.position (length payload)) (check_of-lt tail.seed tail.position (length payload)))

-- the steps of reading, by what the bytes are
pub next-short : (tail : Tail) (bytes : List ℕ) → length bytes < 12 → next tail bytes ≡ Ok None
unfolding next
next-short tail bytes short =
    ap (λ t. if t then Ok None else if is_head tail.seed tail.position bytes then believed tail (number_at 0 bytes) bytes else end_unless_later tail 12 bytes) (lt-ltb (length bytes) 12 short)

pub next-head : (tail : Tail) (bytes : List ℕ) → is_head tail.seed tail.position bytes ≡ true → next tail bytes ≡ believed tail (number_at 0 bytes) bytes
unfolding next
next-head tail bytes head =
    ap (λ t. if t then Ok None else if is_head tail.seed tail.position bytes then believed tail (number_at 0 bytes) bytes else end_unless_later tail 12 bytes)
    (le-ltb (length bytes) 12 (head_of tail.seed tail.position bytes head).long)
    ∙ ap (λ t. if t then believed tail (number_at 0 bytes) bytes else end_unless_later tail 12 bytes) head

pub next-no_head : (tail : Tail) (bytes : List ℕ) → 12 ≤ length bytes → is_head tail.seed tail.position bytes ≡ false → next tail bytes ≡ end_unless_later tail 12 bytes
unfolding next
next-no_head tail bytes long head =
    ap (λ t. if t then Ok None else if is_head tail.seed tail.position bytes then believed tail (number_at 0 bytes) bytes else end_unless_later tail 12 bytes) (le-ltb (length bytes) 12 long)
    ∙ ap (λ t. if t then believed tail (number_at 0 bytes) bytes else end_unless_later tail 12 bytes) head

pub believed-cut : (tail : Tail) (len : ℕ) (bytes : List ℕ) → length bytes < 12 + len → believed tail len bytes ≡ Ok None
believed-cut tail len bytes short =
    ap (λ t. if t then Ok None else if number_at 8 bytes == sum_of tail.sum (take len (drop 12 bytes)) then Ok (Some (take len (drop 12 bytes))) else end_unless_later tail (12 + len) bytes)
    (lt-ltb (length bytes) (12 + len) short)

pub believed-whole : (tail : Tail) (len : ℕ) (bytes : List ℕ) → 12 + len ≤ length bytes → number_at 8 bytes ≡ sum_of tail.sum (take len (drop 12 bytes))
    → believed tail len bytes ≡ Ok (Some (take len (drop 12 bytes)))
believed-whole tail len bytes long summed =
    ap (λ t. if t then Ok None else if number_at 8 bytes == sum_of tail.sum (take len (drop 12 bytes)) then Ok (Some (take len (drop 12 bytes))) else end_unless_later tail (12 + len) bytes)
    (le-ltb (length bytes) (12 + len) long)
    ∙ ap (λ t. if t then Ok (Some (take len (drop 12 bytes))) else end_unless_later tail (12 + len) bytes) (eq-eqb (number_at 8 bytes) (sum_of tail.sum (take len (drop 12 bytes))) summed)

pub believed-wrong : (tail : Tail) (len : ℕ) (bytes : List ℕ) → 12 + len ≤ length bytes → (number_at 8 bytes ≡ sum_of tail.sum (take len (drop 12 bytes)) → ⊥)
    → believed tail len bytes ≡ end_unless_later tail (12 + len) bytes
believed-wrong tail len bytes long summed =
    ap (λ t. if t then Ok None else if number_at 8 bytes == sum_of tail.sum (take len (drop 12 bytes)) then Ok (Some (take len (drop 12 bytes))) else end_unless_later tail (12 + len) bytes)
    (le-ltb (length bytes) (12 + len) long)
    ∙ ap (λ t. if t then Ok (Some (take len (drop 12 bytes))) else end_unless_later tail (12 + len) bytes) (ne_eqb (number_at 8 bytes) (sum_of tail.sum (take len (drop 12 bytes))) summed)

pub end-none : (tail : Tail) (n : ℕ) (bytes : List ℕ) → has_head tail.seed (tail.position + n) (drop n bytes) ≡ false → end_unless_later tail n bytes ≡ Ok None
end-none tail n bytes none = ap (λ t. if t then Err (Damaged tail.position) else Ok None) none

pub end-damaged : (tail : Tail) (n : ℕ) (bytes : List ℕ) → has_head tail.seed (tail.position + n) (drop n bytes) ≡ true → end_unless_later tail n bytes ≡ Err (Damaged tail.position)
end-damaged tail n bytes later = ap (λ t. if t then Err (Damaged tail.position) else Ok None) later

-- a whole frame is read, whatever follows
pub next-frame : (tail : Tail) (payload rest : List ℕ) → IsPayload payload → next tail (frame tail payload ++ rest) ≡ Ok (Some payload)
next-frame tail payload rest fits =
    let bytes = headed tail payload (payload ++ rest) in
    let len : number_at 0 bytes ≡ length payload = number-word (length payload) (omega (arith, fits.short)) in
    let same : take (length payload) (payload ++ rest) ≡ payload = take_at payload rest (length payload) refl in
    let summed : number_at 8 bytes ≡ sum_of tail.sum (take (length payload) (drop 12 bytes)) = number-word (sum_of tail.sum payload) (sum_of-lt tail.sum payload fits.bytes) ∙ ap (sum_of tail.sum) (sym same) in
    next-head tail bytes (headed-head tail payload (payload ++ rest) fits)
    ∙ (ap (λ n. believed tail n bytes) len
    ∙ (believed-whole tail (length payload) bytes (omega (arith, length-append payload rest)) summed ∙ ap (λ p. Ok (Some p)) same))

-- a frame whose bytes end early isn't
pub take-frame : (tail : Tail) (payload : List ℕ) (n : ℕ) → 12 ≤ n → take n (frame tail payload) ≡ headed tail payload (take (n - 12) payload)
take-frame tail payload n long = ap (λ k. take k (frame tail payload)) (split n long)
  where
    split : (n : ℕ) → 12 ≤ n → n ≡ suc (suc (suc (suc (suc (suc (suc (suc (suc (suc (suc (suc (n - 12))))))))))))
    split n long = omega (arith, long)

pub next-cut : (tail : Tail) (payload : List ℕ) (n : ℕ) → IsPayload payload → n < length (frame tail payload) → next tail (take n (frame tail payload)) ≡ Ok None
next-cut tail payload n fits cut = go (cases_lt n 12)
  where
    len : length (frame tail payload) ≡ 12 + length payload
    len = frame-length tail payload

    go : ((n < 12) ⊎ (12 ≤ n)) → next tail (take n (frame tail payload)) ≡ Ok None
    go (inl few) = next-short tail (take n (frame tail payload)) (omega (arith, length-take-le n (frame tail payload) (omega (arith, cut)), few))
    go (inr many) =
        let bytes = headed tail payload (take (n - 12) payload) in
        let there : length (take (n - 12) payload) ≡ n - 12 = length-take-le (n - 12) payload (omega (arith, cut, len)) in
        ap (next tail) (take-frame tail payload n many)
        ∙ (next-head tail bytes (headed-head tail payload (take (n - 12) payload) fits)
        ∙ (ap (λ m. believed tail m bytes) (number-word (length payload) (omega (arith, fits.short)))
        ∙ believed-cut tail (length payload) bytes (omega (arith, there, cut, len, many))))

-- where a frame begins, and where none does
pub has_head-here : (seed position : ℕ) (bytes : List ℕ) → is_head seed position bytes ≡ true → has_head seed position bytes ≡ true
has_head-here seed position [] head = absurd (omega (arith, (head_of seed position [] head).long))
has_head-here seed position (b ∷ bytes) head = or_left (is_head seed position (b ∷ bytes)) (has_head seed (suc position) bytes) head

pub has_head-later : (n seed position : ℕ) (bytes : List ℕ) → has_head seed (position + n) (drop n bytes) ≡ true → has_head seed position bytes ≡ true
has_head-later zero seed position bytes later = subst (λ p. has_head seed p bytes ≡ true) (omega arith) later
has_head-later (suc n) seed position [] later = later
has_head-later (suc n) seed position (b ∷ bytes) later =
    let same : position + suc n ≡ suc position + n = omega arith in
    or_right (is_head seed position (b ∷ bytes)) (has_head seed (suc position) bytes)
    (has_head-later n seed (suc position) bytes (subst (λ p. has_head seed p (drop n bytes) ≡ true) same later))

pub no_head-later : (n seed position : ℕ) (bytes : List ℕ) → has_head seed position bytes ≡ false → has_head seed (position + n) (drop n bytes) ≡ false
no_head-later n seed position bytes none =
    false_from_ne_true (has_head seed (position + n) (drop n bytes)) (λ later. true≢false (sym (has_head-later n seed position bytes later) ∙ none))

pub no_head-here : (seed position : ℕ) (bytes : List ℕ) → has_head seed position bytes ≡ false → is_head seed position bytes ≡ false
no_head-here seed position bytes none = false_from_ne_true (is_head seed position bytes) (λ head. true≢false (sym (has_head-here seed position bytes head) ∙ none))

-- where no frame begins from here on, the log ends
pub next-none : (tail : Tail) (bytes : List ℕ) → has_head tail.seed tail.position bytes ≡ false → next tail bytes ≡ Ok None
next-none tail bytes none = go (cases_lt (length bytes) 12)
  where
    go : ((length bytes < 12) ⊎ (12 ≤ length bytes)) → next tail bytes ≡ Ok None
    go (inl few) = next-short tail bytes few
    go (inr many) =
        next-no_head tail bytes many (no_head-here tail.seed tail.position bytes none) ∙ end-none tail 12 bytes (no_head-later 12 tail.seed tail.position bytes none)
