-- What stands at the front of a client's bytes (Redis' protocol specification; refusals: Redis 7.0, networking.c).
use Rattle.std.specs.Prelude.{ℕ, ◌+◌, ◌==◌, ◌||◌, ◌&&◌, Bool, nat_le, nat_lt, List, [], ◌∷◌, length, take, drop, filter, position, Option, None, Some, Result, Ok, Err, ℤ, pos, negsuc, if◌then◌else◌}
use Rattle.std.specs.List.{list_any, slice_split}
use Rattle.std.proofs.Common.{suc, zero}
use Rattle.raft_machine.specs.Numbers.{integer_of, natural_of}
use Rattle.raft_resp.specs.declared.error.Fault.{Fault}
use Rattle.raft_resp.specs.declared.error.Fault.TheVariants.{Count, Length, Mark, LongCount, LongLength, LongLine, Quotes, End}
use Rattle.raft_resp.specs.declared.error.Stop.{Stop}
use Rattle.raft_resp.specs.declared.error.Stop.TheVariants.{Unfinished, Malformed}
use Rattle.raft_resp.specs.declared.requests.Limits.{Limits}

-- a value, and the bytes behind it; or that more bytes have to come, or what is wrong
abbrev pub Found : Type 0 → Type 0
Found X = Result (X × List ℕ) Stop

infixl 10 ◌>>=◌
abbrev pub ◌>>=◌ : {A B : Type 0} → Result A Stop → (A → Result B Stop) → Result B Stop
(Ok x) >>= f = f x
(Err e) >>= f = Err e

-- a line is at most so long
abbrev pub max_line : ℕ
max_line = 65536

-- no end of a line is there yet: it may come, unless the line is too long
abbrev pub endless : {X : Type 0} → Fault → List ℕ → Result X Stop
endless long bytes = if nat_lt max_line (length bytes) then Err (Malformed long) else Err Unfinished

-- what stands before a place, and behind the byte there
abbrev pub parted : Fault → List ℕ → Option ℕ → Found (List ℕ)
parted long bytes None = endless long bytes
parted long bytes (Some i) = Ok (take i bytes, drop (i + 1) bytes)

-- what stands before the first byte that ends a line, and what stands behind that byte
unfoldable pub before : ℕ → Fault → List ℕ → Found (List ℕ)
before mark long bytes = parted long bytes (position (λ b. b == mark) (take (max_line + 1) bytes))

-- behind CR stands LF
abbrev pub end_line : List ℕ → List ℕ → Found (List ℕ)
end_line text [] = Err Unfinished
end_line text (b ∷ rest) = if b == 10 then Ok (text, rest) else Err (Malformed End)

-- a line that CR and LF end, without them
unfoldable pub line_at : Fault → List ℕ → Found (List ℕ)
line_at long bytes = do
  line ← before 13 long bytes
  end_line line.0 line.1

-- the number of bytes of a word, at most so many
abbrev pub length_in : ℕ → Option ℕ → Result ℕ Stop
length_in most None = Err (Malformed Length)
length_in most (Some n) = if nat_le n most then Ok n else Err (Malformed Length)

abbrev pub length_of : ℕ → List ℕ → Result ℕ Stop
length_of most line = length_in most (natural_of line)

unfoldable pub length_at : ℕ → List ℕ → Found ℕ
length_at most bytes = do
  line ← line_at LongLength bytes
  n ← length_of most line.0
  Ok (n, line.1)

-- what follows a word: CR and LF, and the bytes behind them
abbrev pub behind : List ℕ → List ℕ → Found (List ℕ)
behind body [] = Err Unfinished
behind body (b ∷ []) = if b == 13 then Err Unfinished else Err (Malformed End)
behind body (b ∷ c ∷ rest) = if b == 13 && c == 10 then Ok (body, rest) else Err (Malformed End)

-- so many bytes, and CR and LF
unfoldable pub body_at : ℕ → List ℕ → Found (List ℕ)
body_at n bytes = if nat_lt (length bytes) n then Err Unfinished else behind (take n bytes) (drop n bytes)

-- a word: `$`, its length in a line, and its bytes
unfoldable pub word_at : ℕ → List ℕ → Found (List ℕ)
word_at most [] = Err Unfinished
word_at most (b ∷ rest) = if b == 36 then (length_at most rest >>= λ n. body_at n.0 n.1) else Err (Malformed (Mark b))

-- so many words
abbrev pub words_at : ℕ → ℕ → List ℕ → Found (List (List ℕ))
words_at most zero bytes = Ok ([], bytes)
words_at most (suc n) bytes = do
  word ← word_at most bytes
  words ← words_at most n word.1
  Ok (word.0 ∷ words.0, words.1)

-- how many words an array has, at most so many; a negative number is none
abbrev pub count_in : ℕ → Option ℤ → Result ℕ Stop
count_in most None = Err (Malformed Count)
count_in most (Some (pos n)) = if nat_le n most then Ok n else Err (Malformed Count)
count_in most (Some (negsuc n)) = Ok 0

abbrev pub count_of : ℕ → List ℕ → Result ℕ Stop
count_of most line = count_in most (integer_of line)

-- an array behind its mark `*`: the number of its words in a line, and the words
unfoldable pub array_at : Limits → List ℕ → Found (List (List ℕ))
array_at limits bytes = do
  line ← line_at LongCount bytes
  count ← count_of limits.words line.0
  words_at limits.word count line.1

-- space, tab, and the ends of lines and pages
abbrev pub is_space : ℕ → Bool
is_space b = b == 32 || (nat_le 9 b && nat_le b 13)

abbrev pub is_quote : ℕ → Bool
is_quote b = b == 34 || b == 39

-- the words of a line, which spaces separate; there are no quotes
abbrev pub inline_words : List ℕ → Result (List (List ℕ)) Stop
inline_words line =
    if list_any is_quote line then Err (Malformed Quotes)
    else Ok (filter (λ word. nat_lt 0 (length word)) (slice_split is_space line))

-- a line that LF ends
unfoldable pub inline_at : List ℕ → Found (List (List ℕ))
inline_at bytes = do
  line ← before 10 LongLine bytes
  words ← inline_words line.0
  Ok (words, line.1)

-- a request: an array of words, or else a line of them
abbrev pub request_at : Limits → List ℕ → Found (List (List ℕ))
request_at limits [] = Err Unfinished
request_at limits (b ∷ rest) = if b == 42 then array_at limits rest else inline_at (b ∷ rest)
