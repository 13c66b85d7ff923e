-- What is left once something was read is the end of the bytes.
use Rattle.std.specs.Prelude.{ℕ, ◌≡◌, ◌<◌, ◌≤◌, ◌+◌, ◌-◌, ◌==◌, ◌&&◌, Bool, true, false, List, [], ◌∷◌, length, nat_lt, take, drop, position, Option, Some, None, Result, Ok, Err, refl}
use Rattle.std.proofs.Common.{suc, zero, cond, arith, ap, sym, subst, ◌∙◌, inl, inr, ◌⊎◌}
use Rattle.std.proofs.lemmas.Bool.{cases_lt}
use Rattle.std.proofs.lemmas.List.{drop_all, drop-drop, length-drop}
use Rattle.raft_resp.specs.declared.error.Fault.{Fault}
use Rattle.raft_resp.specs.declared.error.Fault.TheVariants.{End, LongCount, LongLength, LongLine, Mark}
use Rattle.raft_resp.specs.declared.error.Stop.{Stop}
use Rattle.raft_resp.specs.declared.error.Stop.TheVariants.{Unfinished, Malformed}
use Rattle.raft_resp.specs.declared.requests.Limits.{Limits}
use Rattle.raft_resp.specs.Requests.{Found, ◌>>=◌, array_at, before, behind, body_at, count_of, end_line, inline_at, inline_words, length_at, length_of, line_at, max_line, parted, request_at, word_at, words_at}

-- these bytes are the others without some at their front
abbrev pub IsEnd : List ℕ → List ℕ → Type 0
IsEnd bytes rest = (n : ℕ) × (rest ≡ drop n bytes)

-- so is what was found behind a value
abbrev pub Leaves : {X : Type 0} → List ℕ → Found X → Type 0
Leaves bytes (Ok x) = IsEnd bytes x.1
Leaves bytes (Err e) = ◌≡◌ {A = ℕ} 0 0

abbrev Ends : {X : Type 0} → (List ℕ → Found X) → Type 0
Ends read = (bytes : List ℕ) → Leaves bytes (read bytes)

-- the end of an end
later : {X : Type 0} (bytes rest : List ℕ) (r : Found X) → IsEnd bytes rest → Leaves rest r → Leaves bytes r
later bytes rest (Ok x) a b = (a.0 + b.0, b.1 ∙ (ap (drop b.0) a.1 ∙ drop-drop b.0 a.0 bytes))
later bytes rest (Err e) a b = refl

-- what isn't read from bytes
given_ends : {X : Type 0} → (read : Result X Stop) → Ends (λ bytes. read >>= λ x. Ok (x, bytes))
given_ends (Ok x) bytes = (0, refl)
given_ends (Err e) bytes = refl

-- one reader after another
module _ {X Y : Type 0} (f : List ℕ → Found X) (g : X → List ℕ → Found Y) where
  bind_ends : Ends f → ((x : X) → Ends (g x)) → Ends (λ bytes. f bytes >>= λ x. g x.0 x.1)
  bind_ends s t bytes = go (f bytes) (s bytes)
    where
      go : (r : Found X) → Leaves bytes r → Leaves bytes (r >>= λ x. g x.0 x.1)
      go (Ok x) h = later bytes x.1 (g x.0 x.1) h (t x.0 x.1)
      go (Err e) h = refl

if_ends : {X : Type 0} (b : Bool) (bytes : List ℕ) (r s : Found X) → Leaves bytes r → Leaves bytes s → Leaves bytes (cond b r s)
if_ends true bytes r s h k = h
if_ends false bytes r s h k = k

-- behind a byte
inside : {X : Type 0} (b : ℕ) (bytes : List ℕ) (r : Found X) → Leaves bytes r → Leaves (b ∷ bytes) r
inside b bytes r h = later (b ∷ bytes) bytes r (1, refl) h

parted_ends : (long : Fault) (o : Option ℕ) → Ends (λ bytes. parted long bytes o)
parted_ends long None bytes = if_ends (nat_lt max_line (length bytes)) bytes (Err (Malformed long)) (Err Unfinished) refl refl
parted_ends long (Some i) bytes = (i + 1, refl)

before_ends : (mark : ℕ) (long : Fault) → Ends (before mark long)
unfolding before
before_ends mark long bytes = parted_ends long (position (λ b. b == mark) (take (max_line + 1) bytes)) bytes

end_ends : (text : List ℕ) → Ends (end_line text)
end_ends text [] = refl
end_ends text (b ∷ rest) = if_ends (b == 10) (b ∷ rest) (Ok (text, rest)) (Err (Malformed End)) (1, refl) refl

line_ends : (long : Fault) → Ends (line_at long)
unfolding line_at
line_ends long = bind_ends (before 13 long) end_line (before_ends 13 long) end_ends

length_ends : (most : ℕ) → Ends (length_at most)
unfolding length_at
length_ends most = bind_ends (line_at LongLength) (λ line rest. length_of most line >>= λ n. Ok (n, rest)) (line_ends LongLength) (λ line. given_ends (length_of most line))

behind_ends : (body : List ℕ) → Ends (behind body)
behind_ends body [] = refl
behind_ends body (b ∷ []) = if_ends (b == 13) (b ∷ []) (Err Unfinished) (Err (Malformed End)) refl refl
behind_ends body (b ∷ c ∷ rest) = if_ends (b == 13 && c == 10) (b ∷ c ∷ rest) (Ok (body, rest)) (Err (Malformed End)) (2, refl) refl

body_ends : (n : ℕ) → Ends (body_at n)
unfolding body_at
body_ends n bytes =
    if_ends (nat_lt (length bytes) n) bytes (Err Unfinished) (behind (take n bytes) (drop n bytes)) refl
    (later bytes (drop n bytes) (behind (take n bytes) (drop n bytes)) (n, refl) (behind_ends (take n bytes) (drop n bytes)))

word_ends : (most : ℕ) → Ends (word_at most)
unfolding word_at
word_ends most [] = refl
word_ends most (b ∷ rest) =
    let after : Found (List ℕ) = length_at most rest >>= λ n. body_at n.0 n.1 in
    if_ends (b == 36) (b ∷ rest) after (Err (Malformed (Mark b))) (inside b rest after (bind_ends (length_at most) body_at (length_ends most) body_ends rest)) refl

words_ends : (most n : ℕ) → Ends (words_at most n)
words_ends most zero bytes = (0, refl)
words_ends most (suc n) bytes =
    bind_ends (word_at most) (λ word rest. words_at most n rest >>= λ words. Ok (word ∷ words.0, words.1)) (word_ends most)
    (λ word. bind_ends (words_at most n) (λ words rest. Ok (word ∷ words, rest)) (words_ends most n) (λ words rest. (0, refl))) bytes

counted_ends : (most : ℕ) (count : Result ℕ Stop) → Ends (λ rest. count >>= λ n. words_at most n rest)
counted_ends most (Ok n) bytes = words_ends most n bytes
counted_ends most (Err e) bytes = refl

array_ends : (limits : Limits) → Ends (array_at limits)
unfolding array_at
array_ends limits =
    bind_ends (line_at LongCount) (λ line rest. count_of limits.words line >>= λ n. words_at limits.word n rest) (line_ends LongCount)
    (λ line. counted_ends limits.word (count_of limits.words line))

inline_ends : Ends inline_at
unfolding inline_at
inline_ends = bind_ends (before 10 LongLine) (λ line rest. inline_words line >>= λ words. Ok (words, rest)) (before_ends 10 LongLine) (λ line. given_ends (inline_words line))

request_ends : (limits : Limits) → Ends (request_at limits)
request_ends limits [] = refl
request_ends limits (b ∷ rest) = if_ends (b == 42) (b ∷ rest) (array_at limits rest) (inline_at (b ∷ rest)) (inside b rest (array_at limits rest) (array_ends limits rest)) (inline_ends (b ∷ rest))

by_length : (bytes rest : List ℕ) → IsEnd bytes rest → rest ≡ drop (length bytes - length rest) bytes
by_length bytes rest h = go (cases_lt (length bytes) h.0)
  where
    go : ((length bytes < h.0) ⊎ (h.0 ≤ length bytes)) → rest ≡ drop (length bytes - length rest) bytes
    go (inl l) =
        let none : rest ≡ [] = h.1 ∙ drop_all h.0 bytes (omega (arith, l)) in
        let zero_long : length rest ≡ 0 = ap length none in
        none ∙ sym (drop_all (length bytes - length rest) bytes (omega (arith, zero_long)))
    go (inr l) =
        let long : length rest ≡ length bytes - h.0 = ap length h.1 ∙ length-drop h.0 bytes in
        let place : length bytes - length rest ≡ h.0 = omega (arith, long, l) in
        h.1 ∙ ap (λ n. drop n bytes) (sym place)

-- a request's bytes are those before what is left
pub left_is_end : (limits : Limits) (bytes : List ℕ) (words : List (List ℕ)) (rest : List ℕ) → request_at limits bytes ≡ Ok (words, rest) → rest ≡ drop (length bytes - length rest) bytes
left_is_end limits bytes words rest e = by_length bytes rest (subst (λ r. Leaves bytes r) e (request_ends limits bytes))
