-- What is read doesn't depend on the pieces in which it comes.
use Rattle.std.specs.Prelude.{ℕ, ◌≡◌, ◌≢◌, ◌<◌, ◌≤◌, ◌+◌, ◌-◌, ◌==◌, ◌&&◌, Bool, true, false, List, [], ◌∷◌, ◌++◌, length, take, drop, position, Option, Some, None, Result, Ok, Err, refl}
use Rattle.std.specs.List.{position_or_len}
use Rattle.std.proofs.Common.{suc, zero, cond, arith, ap, sym, ◌∙◌, inl, inr, ◌⊎◌}
use Rattle.std.proofs.lemmas.Bool.{cases_lt, le-ltb, lt-ltb}
use Rattle.std.proofs.lemmas.List.{drop-append-le, length-append, length-take-le, take-append-le, take_all}
use Rattle.raft_resp.specs.declared.error.Fault.{Fault}
use Rattle.raft_resp.specs.declared.error.Fault.TheVariants.{End, LongCount, LongLength, LongLine, Mark}
use Rattle.raft_resp.specs.declared.error.Stop.{Stop}
use Rattle.raft_resp.specs.declared.error.Stop.TheVariants.{OutOfMemory, Unfinished, Malformed}
use Rattle.raft_resp.specs.declared.requests.Limits.{Limits}
use Rattle.raft_resp.specs.Requests.{Found, ◌>>=◌, array_at, before, behind, body_at, count_of, end_line, inline_at, inline_words, length_at, length_of, line_at, max_line, parted, word_at, words_at}
use Rattle.raft_resp.specs.Written.{RequestsComeInPieces, Stays, with_more}
use Rattle.raft_resp.proofs.Places.{front_place, place_within, take_past}

-- what isn't read from bytes
given_stays : {X : Type 0} → (read : Result X Stop) → Stays (λ bytes. read >>= λ x. Ok (x, bytes))
given_stays (Ok x) bytes more h = refl
given_stays (Err e) bytes more h = refl

-- one reader after another
module _ {X Y : Type 0} (f : List ℕ → Found X) (g : X → List ℕ → Found Y) where
  pub bind_stays : Stays f → ((x : X) → Stays (g x)) → Stays (λ bytes. f bytes >>= λ x. g x.0 x.1)
  bind_stays s t bytes more h = go (f bytes) refl h
    where
      go : (r : Found X) → f bytes ≡ r → (r >>= λ x. g x.0 x.1) ≢ Err Unfinished → (f (bytes ++ more) >>= λ x. g x.0 x.1) ≡ with_more more (r >>= λ x. g x.0 x.1)
      go (Ok x) e k = ap (λ (r : Found X). r >>= λ x. g x.0 x.1) (s bytes more (λ q. let z : ◌≡◌ {A = Found X} (Ok x) (Err Unfinished) = sym e ∙ q in cc) ∙ ap (with_more more) e) ∙ t x.0 x.1 more k
      go (Err Unfinished) e k = absurd (k refl)
      go (Err OutOfMemory) e k = ap (λ (r : Found X). r >>= λ x. g x.0 x.1) (s bytes more (λ q. let z : ◌≡◌ {A = Found X} (Err OutOfMemory) (Err Unfinished) = sym e ∙ q in cc) ∙ ap (with_more more) e)
      go (Err (Malformed fault)) e k = ap (λ (r : Found X). r >>= λ x. g x.0 x.1) (s bytes more (λ q. let z : ◌≡◌ {A = Found X} (Err (Malformed fault)) (Err Unfinished) = sym e ∙ q in cc) ∙ ap (with_more more) e)

before_stays : (mark : ℕ) (long : Fault) → Stays (before mark long)
unfolding before
before_stays mark long bytes more h = go (cases_lt (length bytes) (max_line + 1))
  where
    p : ℕ → Bool
    p = λ b. b == mark

    -- all that is looked at is there
    whole : max_line + 1 ≤ length bytes → (o : Option ℕ) → position p (take (max_line + 1) bytes) ≡ o → parted long (bytes ++ more) o ≡ with_more more (parted long bytes o)
    whole l None e = rw (lt-ltb max_line (length (bytes ++ more)) (omega (arith, l, length-append bytes more)), lt-ltb max_line (length bytes) (omega (arith, l))) refl
    whole l (Some i) e =
        let w = place_within p (take (max_line + 1) bytes) i e in
        let k : i < length bytes = omega (arith, w.1, length-take-le (max_line + 1) bytes l, l) in
        rw (take-append-le i bytes more (omega (arith, k)), drop-append-le (i + 1) bytes more (omega (arith, k))) refl

    -- it ends early
    early : length bytes ≤ max_line → (o : Option ℕ) → position p bytes ≡ o → (parted long bytes o ≡ Err Unfinished → ⊥)
        → parted long (bytes ++ more) (position p (take (max_line + 1) (bytes ++ more))) ≡ with_more more (parted long bytes o)
    early l None e k = absurd (k (rw (le-ltb max_line (length bytes) l) refl))
    early l (Some i) e k =
        let w = place_within p bytes i e in
        let rest : List ℕ = take (max_line + 1 - length bytes) more in
        let t : take (max_line + 1) (bytes ++ more) ≡ bytes ++ rest = take_past bytes more (max_line + 1) (omega (arith, l)) in
        let f : position_or_len p (bytes ++ rest) ≡ i = front_place p bytes rest (omega (arith, w.0, w.1)) ∙ sym w.0 in
        let at : position p (bytes ++ rest) ≡ Some i = rw (f, lt-ltb i (length (bytes ++ rest)) (omega (arith, w.1, length-append bytes rest))) refl in
        ap (λ xs. parted long (bytes ++ more) (position p xs)) t
        ∙ (ap (parted long (bytes ++ more)) at
        ∙ rw (take-append-le i bytes more (omega (arith, w.1)), drop-append-le (i + 1) bytes more (omega (arith, w.1))) refl)

    go : ((length bytes < max_line + 1) ⊎ (max_line + 1 ≤ length bytes)) → before mark long (bytes ++ more) ≡ with_more more (before mark long bytes)
    go (inl l) =
        let t : take (max_line + 1) bytes ≡ bytes = take_all (max_line + 1) bytes (omega (arith, l)) in
        let e : before mark long bytes ≡ parted long bytes (position p bytes) = ap (λ xs. parted long bytes (position p xs)) t in
        early (omega (arith, l)) (position p bytes) refl (λ q. h (e ∙ q)) ∙ ap (with_more more) (sym e)
    go (inr l) = ap (λ xs. parted long (bytes ++ more) (position p xs)) (take-append-le (max_line + 1) bytes more l) ∙ whole l (position p (take (max_line + 1) bytes)) refl

end_stays : (text : List ℕ) → Stays (end_line text)
end_stays text [] more h = absurd (h refl)
end_stays text (b ∷ rest) more h = go (b == 10) where
  go : (t : Bool) → cond {A = Found (List ℕ)} t (Ok (text, rest ++ more)) (Err (Malformed End)) ≡ with_more {X = List ℕ} more (cond {A = Found (List ℕ)} t (Ok (text, rest)) (Err (Malformed End)))
  go true = refl
  go false = refl

line_stays : (long : Fault) → Stays (line_at long)
unfolding line_at
line_stays long = bind_stays (before 13 long) end_line (before_stays 13 long) end_stays

length_stays : (most : ℕ) → Stays (length_at most)
unfolding length_at
length_stays most = bind_stays (line_at LongLength) (λ line rest. length_of most line >>= λ n. Ok (n, rest)) (line_stays LongLength) (λ line. given_stays (length_of most line))

behind_stays : (body : List ℕ) → Stays (behind body)
behind_stays body [] more h = absurd (h refl)
behind_stays body (b ∷ []) [] h = go (b == 13) h where
  go : (t : Bool) → cond {A = Found (List ℕ)} t (Err Unfinished) (Err (Malformed End)) ≢ Err Unfinished → cond {A = Found (List ℕ)} t (Err Unfinished) (Err (Malformed End)) ≡ with_more {X = List ℕ} [] (cond {A = Found (List ℕ)} t (Err Unfinished) (Err (Malformed End)))
  go true k = absurd (k refl)
  go false k = refl
behind_stays body (b ∷ []) (c ∷ more) h = go (b == 13) h where
  go : (t : Bool) → cond {A = Found (List ℕ)} t (Err Unfinished) (Err (Malformed End)) ≢ Err Unfinished
      → cond {A = Found (List ℕ)} (t && c == 10) (Ok (body, more)) (Err (Malformed End)) ≡ with_more {X = List ℕ} (c ∷ more) (cond {A = Found (List ℕ)} t (Err Unfinished) (Err (Malformed End)))
  go true k = absurd (k refl)
  go false k = refl
behind_stays body (b ∷ c ∷ rest) more h = go (b == 13 && c == 10) where
  go : (t : Bool) → cond {A = Found (List ℕ)} t (Ok (body, rest ++ more)) (Err (Malformed End)) ≡ with_more {X = List ℕ} more (cond {A = Found (List ℕ)} t (Ok (body, rest)) (Err (Malformed End)))
  go true = refl
  go false = refl

body_stays : (n : ℕ) → Stays (body_at n)
unfolding body_at
body_stays n bytes more h = go (cases_lt (length bytes) n)
  where
    go : ((length bytes < n) ⊎ (n ≤ length bytes)) → body_at n (bytes ++ more) ≡ with_more more (body_at n bytes)
    go (inl l) = absurd (h (rw (lt-ltb (length bytes) n l) refl))
    go (inr l) =
        let e : body_at n bytes ≡ behind (take n bytes) (drop n bytes) = rw (le-ltb (length bytes) n l) refl in
        let k : behind (take n bytes) (drop n bytes) ≢ Err Unfinished = λ q. h (e ∙ q) in
        rw (le-ltb (length (bytes ++ more)) n (omega (arith, l, length-append bytes more)), le-ltb (length bytes) n l, take-append-le n bytes more l, drop-append-le n bytes more l)
        (behind_stays (take n bytes) (drop n bytes) more k)

word_stays : (most : ℕ) → Stays (word_at most)
unfolding word_at
word_stays most [] more h = absurd (h refl)
word_stays most (b ∷ rest) more h = go (b == 36) h where
  after : List ℕ → Found (List ℕ)
  after bytes = length_at most bytes >>= λ n. body_at n.0 n.1

  go : (t : Bool) → cond {A = Found (List ℕ)} t (after rest) (Err (Malformed (Mark b))) ≢ Err Unfinished → cond {A = Found (List ℕ)} t (after (rest ++ more)) (Err (Malformed (Mark b))) ≡ with_more more (cond {A = Found (List ℕ)} t (after rest) (Err (Malformed (Mark b))))
  go true k = bind_stays (length_at most) body_at (length_stays most) body_stays rest more k
  go false k = refl

words_stays : (most n : ℕ) → Stays (words_at most n)
words_stays most zero bytes more h = refl
words_stays most (suc n) bytes more h =
    bind_stays (word_at most) (λ word rest. words_at most n rest >>= λ words. Ok (word ∷ words.0, words.1)) (word_stays most)
    (λ word. bind_stays (words_at most n) (λ words rest. Ok (word ∷ words, rest)) (words_stays most n) (λ words others after k. refl)) bytes more h

counted_stays : (most : ℕ) (count : Result ℕ Stop) → Stays (λ rest. count >>= λ n. words_at most n rest)
counted_stays most (Ok n) bytes more h = words_stays most n bytes more h
counted_stays most (Err e) bytes more h = refl

array_stays : (limits : Limits) → Stays (array_at limits)
unfolding array_at
array_stays limits =
    bind_stays (line_at LongCount) (λ line rest. count_of limits.words line >>= λ n. words_at limits.word n rest) (line_stays LongCount)
    (λ line. counted_stays limits.word (count_of limits.words line))

inline_stays : Stays inline_at
unfolding inline_at
inline_stays = bind_stays (before 10 LongLine) (λ line rest. inline_words line >>= λ words. Ok (words, rest)) (before_stays 10 LongLine) (λ line. given_stays (inline_words line))

pub come_in_pieces : RequestsComeInPieces
come_in_pieces limits [] more h = absurd (h refl)
come_in_pieces limits (b ∷ rest) more h = go (b == 42) h where
  go : (t : Bool) → cond {A = Found (List (List ℕ))} t (array_at limits rest) (inline_at (b ∷ rest)) ≢ Err Unfinished
      → cond {A = Found (List (List ℕ))} t (array_at limits (rest ++ more)) (inline_at (b ∷ rest ++ more)) ≡ with_more more (cond {A = Found (List (List ℕ))} t (array_at limits rest) (inline_at (b ∷ rest)))
  go true k = array_stays limits rest more k
  go false k = inline_stays (b ∷ rest) more k
