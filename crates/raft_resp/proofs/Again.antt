-- What is written is read.
use Rattle.std.specs.Prelude.{ℕ, ◌≡◌, ◌<◌, ◌≤◌, ◌+◌, ◌-◌, ◌%◌, ◌^◌, ◌==◌, nat_le, nat_lt, true, false, List, [], ◌∷◌, ◌++◌, length, take, drop, position, Some, Result, Ok, pos, refl}
use Rattle.std.specs.Option.{option_and_then}
use Rattle.std.specs.Fmt.{decimal}
use Rattle.std.specs.List.{AllByRecursion, flat_map, position_or_len}
use Rattle.std.proofs.Common.{suc, arith, ap, sym, ◌∙◌}
use Rattle.std.proofs.lemmas.Bool.{le-ltb, lt-ltb}
use Rattle.std.proofs.lemmas.Bool.Decides.{nat_tests}
use Rattle.std.proofs.lemmas.Fmt.{decimal_by_steps, length-decimal-le}
use Rattle.std.proofs.lemmas.List.{append_assoc, drop_at, length-append, take_at}
use Rattle.raft_machine.specs.Numbers.{integer_of, natural_of, positive}
use Rattle.raft_machine.proofs.Numerals.{natural_is}
use Rattle.raft_resp.specs.declared.error.Fault.{Fault}
use Rattle.raft_resp.specs.declared.error.Fault.TheVariants.{LongCount, LongLength}
use Rattle.raft_resp.specs.declared.error.Stop.{Stop}
use Rattle.raft_resp.specs.Replies.{array, bulk, end, line}
use Rattle.raft_resp.specs.Requests.{Found, ◌>>=◌, array_at, before, body_at, count_in, count_of, length_at, length_in, length_of, line_at, max_line, request_at, word_at, words_at}
use Rattle.raft_resp.specs.Written.{RequestsAreRead, request_bytes}
use Rattle.raft_resp.proofs.Places.{later_place, take_past}

-- a number's text has no CR, and begins with a digit
record IsText (ds : List ℕ) : Type 0 where
  no_cr : position_or_len (λ b. b == 13) ds ≡ length ds
  first : ℕ
  others : List ℕ
  begins : ds ≡ first ∷ others
  digit : 48 ≤ first

digits : (n : ℕ) → n < 2 ^ 64 → IsText (decimal n)
digits = decimal_by_steps (λ n ds. IsText ds) one more
  where
    alone : (b : ℕ) → 48 ≤ b → position_or_len (λ c. c == 13) (b ∷ []) ≡ 1
    alone b l = let e : (b == 13) ≡ false = grind (arith, nat_tests) in rw e refl

    one : (n : ℕ) → n < 10 → IsText ((48 + n) ∷ [])
    one n l = record { no_cr = alone (48 + n) (omega arith); first = 48 + n; others = []; begins = refl; digit = omega arith }

    more : (n : ℕ) (ds : List ℕ) → 10 ≤ n → IsText ds → IsText (ds ++ ((48 + n % 10) ∷ []))
    more n ds l h =
        let last : List ℕ = (48 + n % 10) ∷ [] in
        record {
          no_cr = later_place (λ b. b == 13) ds last h.no_cr ∙ (ap (λ k. length ds + k) (alone (48 + n % 10) (omega arith)) ∙ sym (length-append ds last));
          first = h.first;
          others = h.others ++ last;
          begins = ap (λ xs. xs ++ last) h.begins;
          digit = h.digit;
        }

-- a line is read
line_read : (long : Fault) (text rest : List ℕ) → length text ≤ max_line → position_or_len (λ b. b == 13) text ≡ length text → line_at long (text ++ 13 ∷ 10 ∷ rest) ≡ Ok (text, rest)
unfolding line_at before
line_read long text rest l none =
    let k : ℕ = max_line - length text in
    let e : max_line + 1 - length text ≡ suc k = omega (arith, l) in
    let t : take (max_line + 1) (text ++ 13 ∷ 10 ∷ rest) ≡ text ++ 13 ∷ take k (10 ∷ rest) = take_past text (13 ∷ 10 ∷ rest) (max_line + 1) (omega (arith, l)) ∙ ap (λ m. text ++ take m (13 ∷ 10 ∷ rest)) e in
    let p : position_or_len (λ b. b == 13) (text ++ 13 ∷ take k (10 ∷ rest)) ≡ length text = later_place (λ b. b == 13) text (13 ∷ take k (10 ∷ rest)) none ∙ omega arith in
    let i : length text < length (text ++ 13 ∷ take k (10 ∷ rest)) = omega (arith, length-append text (13 ∷ take k (10 ∷ rest))) in
    let at : position (λ b. b == 13) (take (max_line + 1) (text ++ 13 ∷ 10 ∷ rest)) ≡ Some (length text) = ap (position (λ b. b == 13)) t ∙ rw (p, lt-ltb (length text) _ i) refl in
    let d : drop (length text + 1) (text ++ 13 ∷ 10 ∷ rest) ≡ 10 ∷ rest =
    ap (drop (length text + 1)) (sym (append_assoc text (13 ∷ []) (10 ∷ rest))) ∙ drop_at (text ++ 13 ∷ []) (10 ∷ rest) (length text + 1) (length-append text (13 ∷ [])) in
    rw (at, take_at text (13 ∷ 10 ∷ rest) (length text) refl, d) refl

-- so is the line of a number
number_line : (long : Fault) (n : ℕ) (rest : List ℕ) → n < 2 ^ 64 → line_at long (decimal n ++ 13 ∷ 10 ∷ rest) ≡ Ok (decimal n, rest)
number_line long n rest l = line_read long (decimal n) rest (omega (arith, length-decimal-le 20 n (omega arith) (omega (arith, l)) l)) (digits n l).no_cr

length_read : (most n : ℕ) → n ≤ most → n < 2 ^ 64 → length_of most (decimal n) ≡ Ok n
length_read most n l small =
    let fits : nat_le n most ≡ true = grind (arith, nat_tests) in
    ap (length_in most) (natural_is (decimal n) n small refl) ∙ rw fits refl

word_read : (most : ℕ) (word rest : List ℕ) → length word ≤ most → length word < 2 ^ 64 → word_at most (bulk word ++ rest) ≡ Ok (word, rest)
unfolding word_at length_at body_at
word_read most word rest l small =
    let n : ℕ = length word in
    let shape : bulk word ++ rest ≡ 36 ∷ (decimal n ++ 13 ∷ 10 ∷ (word ++ 13 ∷ 10 ∷ rest)) =
    append_assoc (line 36 (decimal n) ++ word) end rest
    ∙ (append_assoc (line 36 (decimal n)) word (13 ∷ 10 ∷ rest)
    ∙ ap (λ xs. 36 ∷ xs) (append_assoc (decimal n) end (word ++ 13 ∷ 10 ∷ rest))) in
    let there : nat_lt (length (word ++ 13 ∷ 10 ∷ rest)) n ≡ false = le-ltb (length (word ++ 13 ∷ 10 ∷ rest)) n (omega (arith, length-append word (13 ∷ 10 ∷ rest))) in
    let body : body_at n (word ++ 13 ∷ 10 ∷ rest) ≡ Ok (word, rest) = rw (there, take_at word (13 ∷ 10 ∷ rest) n refl, drop_at word (13 ∷ 10 ∷ rest) n refl) refl in
    let behind_it : List ℕ = word ++ 13 ∷ 10 ∷ rest in
    let measured : Found (List ℕ) → Found ℕ = λ r. r >>= λ x. length_of most x.0 >>= λ k. Ok (k, x.1) in
    let numbered : Result ℕ Stop → Found ℕ = λ r. r >>= λ k. Ok (k, behind_it) in
    let taken : Found ℕ → Found (List ℕ) = λ r. r >>= λ x. body_at x.0 x.1 in
    ap (word_at most) shape
    ∙ (ap (λ r. taken (measured r)) (number_line LongLength n behind_it small)
    ∙ (ap (λ r. taken (numbered r)) (length_read most n l small)
    ∙ body))

words_read : (most : ℕ) (words : List (List ℕ)) (rest : List ℕ) → AllByRecursion (λ word. length word ≤ most) words → AllByRecursion (λ word. length word < 2 ^ 64) words
    → words_at most (length words) (flat_map bulk words ++ rest) ≡ Ok (words, rest)
words_read most [] rest a b = refl
words_read most (word ∷ words) rest a b =
    ap (words_at most (suc (length words))) (append_assoc (bulk word) (flat_map bulk words) rest)
    ∙ rw (word_read most word (flat_map bulk words ++ rest) a.0 b.0, words_read most words rest a.1 b.1) refl

counted : (most b : ℕ) (bs : List ℕ) (n : ℕ) → (b == 45) ≡ false → natural_of (b ∷ bs) ≡ Some n → n ≤ most → n < 2 ^ 63 → count_of most (b ∷ bs) ≡ Ok n
unfolding integer_of
counted most b bs n other number l small =
    let half : nat_lt n (2 ^ 63) ≡ true = lt-ltb n (2 ^ 63) small in
    let fits : nat_le n most ≡ true = grind (arith, nat_tests) in
    let whole : integer_of (b ∷ bs) ≡ Some (pos n) = rw other (ap (option_and_then positive) number ∙ rw half refl) in
    ap (count_in most) whole ∙ rw fits refl

count_read : (most n : ℕ) → n ≤ most → n < 2 ^ 63 → count_of most (decimal n) ≡ Ok n
count_read most n l small = go (digits n (omega (arith, small)))
  where
    go : IsText (decimal n) → count_of most (decimal n) ≡ Ok n
    go d =
        let other : (d.first == 45) ≡ false = grind (arith, nat_tests, d.digit) in
        ap (count_of most) d.begins ∙ counted most d.first d.others n other (ap natural_of (sym d.begins) ∙ natural_is (decimal n) n (omega (arith, small)) refl) l small

pub are_read : RequestsAreRead
unfolding array_at
are_read limits words rest f =
    let n : ℕ = length words in
    let shape : request_bytes words ++ rest ≡ 42 ∷ (decimal n ++ 13 ∷ 10 ∷ (flat_map bulk words ++ rest)) =
    append_assoc (array n) (flat_map bulk words) rest ∙ ap (λ xs. 42 ∷ xs) (append_assoc (decimal n) end (flat_map bulk words ++ rest)) in
    let all : List ℕ = flat_map bulk words ++ rest in
    let counts : Found (List ℕ) → Found (List (List ℕ)) = λ r. r >>= λ x. count_of limits.words x.0 >>= λ k. words_at limits.word k x.1 in
    let taken : Result ℕ Stop → Found (List (List ℕ)) = λ r. r >>= λ k. words_at limits.word k all in
    ap (request_at limits) shape
    ∙ (ap counts (number_line LongCount n all (omega (arith, f.small)))
    ∙ (ap taken (count_read limits.words n f.count f.small)
    ∙ words_read limits.word words rest f.each f.short))
