-- Words and lines that are read one after the other.
use Rattle.std.proofs.Common.{◌≡◌, ◌≢◌, ℕ, zero, suc, ◌+◌, ◌-◌, ◌<◌, ◌≤◌, ◌^◌, min, Bool, true, false, cond, Bor, length, take, drop, get_or, List, [], ◌∷◌, ◌++◌, Option, Some, None, Result, Ok, Err, OnOk, IfErr, fold, eqb, ◌==◌, codes, refl, ap, sym, ◌∙◌, append_assoc, subst, arith}
use Rattle.std.proofs.lemmas.Bool.{ne_eqb, eqb-true, le-leb}
use Rattle.std.proofs.lemmas.List.{append-nil, at_drop_more, at_drop_all, get_or-map, length-map, length-take-le, take-map, take_rest}
use Rattle.std.proofs.lemmas.List.Splits.{length-slice_split}
use Rattle.std.proofs.lemmas.List.Sums.{count_by-le-length}
use Rattle.std.specs.List.{between, slice_split, onto_first}
use Rattle.std.specs.Option.{option_map, ok_or, MatchOption}
use Rattle.raft_store.specs.declared.entry.Value.{Value}
use Rattle.raft_schedule.specs.declared.schedule.Draft.{Draft}
use Rattle.raft_schedule.specs.declared.schedule.Language.{Language}
use Rattle.raft_schedule.specs.declared.schedule.Language.TheVariants.{Second}
use Rattle.raft_schedule.specs.declared.schedule.LineError.{LineError}
use Rattle.raft_schedule.specs.declared.schedule.LineError.TheVariants as errors
use Rattle.raft_schedule.specs.declared.schedule.Place.{Place}
use Rattle.raft_schedule.specs.declared.schedule.Place.TheVariants.{Start, Voters, Learners, Settings, Events}
use Rattle.raft_schedule.specs.Line.{Statement, Speaks, words, is, number, numbers, value, each_value, is_count, values, one_or_more, group, groups_and_learners, trailing}
use Rattle.raft_schedule.specs.Line as line
use Rattle.raft_schedule.specs.Reading.{texts, so_far, is_out_of_memory, Fails, Gives, state, with_said, line_after}
use Rattle.raft_schedule.specs.Text.{Said, lines, is_skipped, begins_second, said_at, behind, ended, statements, and_said, schedule_of, ◌>>=◌}

-- ---- numbers

-- the numbers so far, and those of the words that are left
abbrev pub after_numbers : List ℕ → Option (List ℕ) → Option (List ℕ)
after_numbers front rest = option_map (λ ns. front ++ ns) rest

more : (front : List ℕ) (n : ℕ) (rest : Option (List ℕ)) → after_numbers front (line.◌>>=◌ rest (λ ns. Some (n ∷ ns))) ≡ after_numbers (front ++ n ∷ []) rest
more front n None = refl
more front n (Some ns) = ap Some (sym (append_assoc front (n ∷ []) ns))

numbers_more : (front : List ℕ) (word : List ℕ) (rest : List (List ℕ)) (n : ℕ) → number word ≡ Some n → after_numbers front (numbers (word ∷ rest)) ≡ after_numbers (front ++ n ∷ []) (numbers rest)
unfolding numbers
numbers_more front word rest n h = rw h (more front n (numbers rest))

numbers_none : (front : List ℕ) (word : List ℕ) (rest : List (List ℕ)) → number word ≡ None → after_numbers front (numbers (word ∷ rest)) ≡ None
unfolding numbers
numbers_none front word rest h = rw h refl

-- one number more, behind the first i words
pub numbers_step : (front : List ℕ) (words : List (Bor (List ℕ))) (i : ℕ) (word : Bor (List ℕ)) (n : ℕ) → i < length words → number (get_or words i word).now ≡ Some n
    → after_numbers front (numbers (texts (drop i words))) ≡ after_numbers (front ++ n ∷ []) (numbers (texts (drop (i + 1) words)))
numbers_step front words i word n at h =
    at_drop_more (λ ws. after_numbers front (numbers (texts ws))) words i word at ∙ numbers_more front (get_or words i word).now (texts (drop (i + 1) words)) n h

-- a word there that is no number
pub numbers_stop : (front : List ℕ) (words : List (Bor (List ℕ))) (i : ℕ) (word : Bor (List ℕ)) → i < length words → number (get_or words i word).now ≡ None
    → after_numbers front (numbers (texts (drop i words))) ≡ None
numbers_stop front words i word at h =
    at_drop_more (λ ws. after_numbers front (numbers (texts ws))) words i word at ∙ numbers_none front (get_or words i word).now (texts (drop (i + 1) words)) h

-- all words are read
pub numbers_end : (front : List ℕ) → after_numbers front (numbers []) ≡ Some front
unfolding numbers
numbers_end front = ap Some (append-nil front)

-- ---- values

-- the values so far, and those of the words that are left
abbrev pub after_values : List Value → Option (List Value) → Option (List Value)
after_values front rest = option_map (λ vs. front ++ vs) rest

more_values : (front : List Value) (v : Value) (rest : Option (List Value)) → after_values front (line.◌>>=◌ rest (λ vs. Some (v ∷ vs))) ≡ after_values (front ++ v ∷ []) rest
more_values front v None = refl
more_values front v (Some vs) = ap Some (sym (append_assoc front (v ∷ []) vs))

values_more : (language : Language) (front : List Value) (word : List ℕ) (rest : List (List ℕ)) (v : Value) → value language word ≡ Some v
    → after_values front (each_value language (word ∷ rest)) ≡ after_values (front ++ v ∷ []) (each_value language rest)
unfolding each_value
values_more language front word rest v h = rw h (more_values front v (each_value language rest))

values_none : (language : Language) (front : List Value) (word : List ℕ) (rest : List (List ℕ)) → value language word ≡ None → after_values front (each_value language (word ∷ rest)) ≡ None
unfolding each_value
values_none language front word rest h = rw h refl

-- one value more, behind the first i words
pub values_step : (language : Language) (front : List Value) (words : List (Bor (List ℕ))) (i : ℕ) (word : Bor (List ℕ)) (v : Value) → i < length words → value language (get_or words i word).now ≡ Some v
    → after_values front (each_value language (texts (drop i words))) ≡ after_values (front ++ v ∷ []) (each_value language (texts (drop (i + 1) words)))
values_step language front words i word v at h =
    at_drop_more (λ ws. after_values front (each_value language (texts ws))) words i word at ∙ values_more language front (get_or words i word).now (texts (drop (i + 1) words)) v h

-- a word there that is no value
pub values_fail : (e : LineError) (language : Language) (front : List Value) (words : List (Bor (List ℕ))) (i : ℕ) (word : Bor (List ℕ)) → i < length words
    → Fails e (value language (get_or words i word).now) → Fails e (after_values front (each_value language (texts (drop i words))))
values_fail errors.OutOfMemory language front words i word at h = tt
values_fail errors.Bad language front words i word at h =
    at_drop_more (λ ws. after_values front (each_value language (texts ws))) words i word at ∙ values_none language front (get_or words i word).now (texts (drop (i + 1) words)) h

-- all words are values
pub values_end : (language : Language) (front : List Value) → after_values front (each_value language []) ≡ Some front
unfolding each_value
values_end language front = ap Some (append-nil front)

-- so many words, and so many values
pub values_counted : (language : Language) (words : List (Bor (List ℕ))) → is_count language (length words) ≡ true → values language (texts words) ≡ each_value language (texts words)
unfolding values
values_counted language words h = rw (length-map words (λ w. w.now), h) refl

pub values_uncounted : (language : Language) (words : List (Bor (List ℕ))) → is_count language (length words) ≡ false → values language (texts words) ≡ None
unfolding values
values_uncounted language words h = rw (length-map words (λ w. w.now), h) refl

-- ---- groups and learners

-- the groups so far, and what the words that are left say
abbrev pub after_groups : List (List ℕ) → Option (List (List ℕ) × List ℕ) → Option (List (List ℕ) × List ℕ)
after_groups front rest = option_map (λ members. (front ++ members.0, members.1)) rest

more_groups : (front : List (List ℕ)) (ids : List ℕ) (rest : Option (List (List ℕ) × List ℕ)) → after_groups front (line.◌>>=◌ rest (λ others. Some (ids ∷ others.0, others.1))) ≡ after_groups (front ++ ids ∷ []) rest
more_groups front ids None = refl
more_groups front ids (Some members) = ap (λ all. Some (all, members.1)) (sym (append_assoc front (ids ∷ []) members.0))

groups_more : (front : List (List ℕ)) (word : List ℕ) (rest : List (List ℕ)) (ids : List ℕ) → is word (codes "learners") ≡ false → group word ≡ Some ids
    → after_groups front (groups_and_learners (word ∷ rest)) ≡ after_groups (front ++ ids ∷ []) (groups_and_learners rest)
unfolding groups_and_learners
groups_more front word rest ids plain h = rw (plain, h) (more_groups front ids (groups_and_learners rest))

groups_none : (front : List (List ℕ)) (word : List ℕ) (rest : List (List ℕ)) → is word (codes "learners") ≡ false → group word ≡ None → after_groups front (groups_and_learners (word ∷ rest)) ≡ None
unfolding groups_and_learners
groups_none front word rest plain h = rw (plain, h) refl

-- one group more, behind the first i words
pub groups_step : (front : List (List ℕ)) (words : List (Bor (List ℕ))) (i : ℕ) (word : Bor (List ℕ)) (ids : List ℕ) → i < length words → is (get_or words i word).now (codes "learners") ≡ false → group (get_or words i word).now ≡ Some ids
    → after_groups front (groups_and_learners (texts (drop i words))) ≡ after_groups (front ++ ids ∷ []) (groups_and_learners (texts (drop (i + 1) words)))
groups_step front words i word ids at plain h =
    at_drop_more (λ ws. after_groups front (groups_and_learners (texts ws))) words i word at ∙ groups_more front (get_or words i word).now (texts (drop (i + 1) words)) ids plain h

-- a word there that is no group
pub groups_fail : (e : LineError) (front : List (List ℕ)) (words : List (Bor (List ℕ))) (i : ℕ) (word : Bor (List ℕ)) → i < length words → is (get_or words i word).now (codes "learners") ≡ false
    → Fails e (group (get_or words i word).now) → Fails e (after_groups front (groups_and_learners (texts (drop i words))))
groups_fail errors.OutOfMemory front words i word at plain h = tt
groups_fail errors.Bad front words i word at plain h =
    at_drop_more (λ ws. after_groups front (groups_and_learners (texts ws))) words i word at ∙ groups_none front (get_or words i word).now (texts (drop (i + 1) words)) plain h

-- all words are groups
pub groups_end : (front : List (List ℕ)) → after_groups front (groups_and_learners []) ≡ Some (front, [])
unfolding groups_and_learners
groups_end front = ap (λ all. Some (all, [])) (append-nil front)

-- the ids behind the word `learners`
abbrev learners_of : Option (List ℕ) → Option (List (List ℕ) × List ℕ)
learners_of ids = line.◌>>=◌ ids (λ ids. line.◌>>=◌ (one_or_more ids) (λ learners. Some ([], learners)))

learners_there : (word : List ℕ) (rest : List (List ℕ)) → is word (codes "learners") ≡ true → groups_and_learners (word ∷ rest) ≡ learners_of (numbers rest)
unfolding groups_and_learners
learners_there word rest h = rw h refl

-- the words behind the first i and one more
abbrev words_behind : ℕ → List (Bor (List ℕ)) → List (List ℕ)
words_behind i words = texts (between (i + 1) (length words) words)

learners_after : (front : List (List ℕ)) (words : List (Bor (List ℕ))) (i : ℕ) (word : Bor (List ℕ)) → i < length words → is (get_or words i word).now (codes "learners") ≡ true
    → after_groups front (groups_and_learners (texts (drop i words))) ≡ after_groups front (learners_of (numbers (words_behind i words)))
learners_after front words i word at h =
    at_drop_more (λ ws. after_groups front (groups_and_learners (texts ws))) words i word at ∙ ap (after_groups front) (learners_there (get_or words i word).now (texts (drop (i + 1) words)) h)
    ∙ ap (λ ws. after_groups front (learners_of (numbers (texts ws)))) (sym (take_rest words (i + 1)))

-- behind the word `learners` there are no ids
pub learners_fail : (e : LineError) (front : List (List ℕ)) (words : List (Bor (List ℕ))) (i : ℕ) (word : Bor (List ℕ)) → i < length words → is (get_or words i word).now (codes "learners") ≡ true
    → Fails e (numbers (words_behind i words)) → Fails e (after_groups front (groups_and_learners (texts (drop i words))))
learners_fail errors.OutOfMemory front words i word at h none = tt
learners_fail errors.Bad front words i word at h none = learners_after front words i word at h ∙ ap (λ ids. after_groups front (learners_of ids)) none

empty_none : (front : List (List ℕ)) (ids : List ℕ) → true ≡ (length ids == 0) → after_groups front (learners_of (Some ids)) ≡ None
empty_none front [] none = refl
empty_none front (n ∷ ids) none = absurd (omega (arith, eqb-true (length (n ∷ ids)) 0 (sym none)))

some_all : (front : List (List ℕ)) (ids : List ℕ) → false ≡ (length ids == 0) → after_groups front (learners_of (Some ids)) ≡ Some (front, ids)
some_all front [] some = cc
some_all front (n ∷ ids) some = ap (λ all. Some (all, n ∷ ids)) (append-nil front)

-- there is nothing
pub learners_empty : (front : List (List ℕ)) (words : List (Bor (List ℕ))) (i : ℕ) (word : Bor (List ℕ)) (ids : List ℕ) → i < length words → is (get_or words i word).now (codes "learners") ≡ true
    → numbers (words_behind i words) ≡ Some ids → true ≡ (length ids == 0) → after_groups front (groups_and_learners (texts (drop i words))) ≡ None
learners_empty front words i word ids at h read none = learners_after front words i word at h ∙ ap (λ ids. after_groups front (learners_of ids)) read ∙ empty_none front ids none

-- there are the learners
pub learners_end : (front : List (List ℕ)) (words : List (Bor (List ℕ))) (i : ℕ) (word : Bor (List ℕ)) (ids : List ℕ) → i < length words → is (get_or words i word).now (codes "learners") ≡ true
    → numbers (words_behind i words) ≡ Some ids → false ≡ (length ids == 0) → after_groups front (groups_and_learners (texts (drop i words))) ≡ Some (front, ids)
learners_end front words i word ids at h read some = learners_after front words i word at h ∙ ap (λ ids. after_groups front (learners_of ids)) read ∙ some_all front ids some

-- ---- words at the end

-- a name and a number are split off
pub split_off : (name : List ℕ) (words : List (Bor (List ℕ))) (n : ℕ) (d e : Bor (List ℕ)) → 3 ≤ length words → true ≡ is (get_or words (length words - 2) d).now name → Some n ≡ number (get_or words (length words - 1) e).now
    → Some (texts (take (length words - 2) words), Some n) ≡ trailing name (texts words)
unfolding trailing
split_off name words n d e two named counted =
    let size : length (texts words) ≡ length words = length-map words (λ w. w.now) in
    let before : get_or (texts words) (length words - 2) [] ≡ (get_or words (length words - 2) d).now = get_or-map (λ (w : Bor (List ℕ)). w.now) words (length words - 2) d [] (omega arith) in
    let last : get_or (texts words) (length words - 1) [] ≡ (get_or words (length words - 1) e).now = get_or-map (λ (w : Bor (List ℕ)). w.now) words (length words - 1) e [] (omega arith) in
    rw (size, le-leb 3 (length words) two, before, sym named, last, sym counted, take-map (λ (w : Bor (List ℕ)). w.now) (length words - 2) words) refl

-- behind one word or more there are three
pub three_of : (words : List (Bor (List ℕ))) → 2 ≤ length words → false ≡ (length (take (length words - 2) words) == 0) → 3 ≤ length words
three_of words two some = go (length words - 2) refl (subst (λ n. false ≡ (n == 0)) (length-take-le (length words - 2) words (omega (arith, two))) some)
  where
    go : (n : ℕ) → length words - 2 ≡ n → false ≡ (n == 0) → 3 ≤ length words
    go zero is h = cc
    go (suc n) is h = omega (arith, is, two)

-- ---- a line

pub skipped_by_first : (line : List ℕ) → false ≡ (length line == 0) → is_skipped line ≡ (get_or line 0 0 == 35)
skipped_by_first [] some = cc
skipped_by_first (b ∷ line) some = refl

pub skipped_empty : (line : List ℕ) → true ≡ (length line == 0) → true ≡ is_skipped line
skipped_empty [] none = refl
skipped_empty (b ∷ line) none = absurd (omega (arith, eqb-true (length (b ∷ line)) 0 (sym none)))

-- it can't stand there
pub refused : (e : LineError) (n : ℕ) (line : List ℕ) (d : Draft) → is_skipped line ≡ false → begins_second d.language d.place line ≡ false → Fails e (said_at d.language d.place (words d.language line)) → Fails e (line_after n line (state d))
refused errors.OutOfMemory n line d read plain h = tt
refused errors.Bad n line d read plain h = rw (read, plain, h) refl

-- it begins the second language
pub headed : (n : ℕ) (line : List ℕ) (d : Draft) → is_skipped line ≡ false → begins_second d.language d.place line ≡ true → line_after n line (state d) ≡ Some (Second, d.place, and_said (so_far d) (n, Speaks))
headed n line d read head = rw (read, head) refl

-- it is added
pub added : (n : ℕ) (line : List ℕ) (old new : Draft) (s : Statement) (r : Result (Unit {0}) LineError) → is_skipped line ≡ false → begins_second old.language old.place line ≡ false
    → said_at old.language old.place (words old.language line) ≡ Some s → OnOk r (so_far new ≡ and_said (so_far old) (n, s)) → new.language ≡ old.language → OnOk r (new.place ≡ behind s)
    → IfErr r is_out_of_memory → Gives (λ (_ : Unit {0}). state new) r (line_after n line (state old))
added n line old new s (Ok x) read plain h said language place memory = rw (read, plain, h) (λ i. Some (sym language i, sym place i, sym said i))
added n line old new s (Err e) read plain h said language place memory = rw memory tt

-- ---- lines

-- what is said behind d by lines from number n on, in its language and at its place
abbrev pub reading : ℕ → Language × Place × Said → List (List ℕ) → Result Said ℕ
reading n d rest = statements n d.0 d.1 rest >>= λ all. Ok (fold and_said d.2 all)

with_first : (d : Said) (s : ℕ × Statement) (rest : Result (List (ℕ × Statement)) ℕ) → (rest >>= λ others. Ok (s ∷ others)) >>= (λ all. Ok (fold and_said d all)) ≡ (rest >>= λ all. Ok (fold and_said (and_said d s) all))
with_first d s (Ok all) = refl
with_first d s (Err n) = refl

some_same : {A : Type 0} {x y : A} → Some x ≡ Some y → x ≡ y
some_same h = cc

-- what is said behind d by a line and the rest
abbrev line_and_rest : ℕ → Language × Place × Said → Bool → Bool → Option Statement → List (List ℕ) → Result Said ℕ
line_and_rest n d skipped head o rest =
    cond skipped (statements (n + 1) d.0 d.1 rest)
    (cond head (statements (n + 1) Second d.1 rest >>= λ others. Ok ((n, Speaks) ∷ others)) (ok_or o n >>= λ first. statements (n + 1) d.0 (behind first) rest >>= λ others. Ok ((n, first) ∷ others)))
    >>= λ all. Ok (fold and_said d.2 all)

abbrev line_and : ℕ → Language × Place × Said → Bool → Bool → Option Statement → Option (Language × Place × Said)
line_and n d skipped head o = cond skipped (Some d) (cond head (Some (Second, d.1, and_said d.2 (n, Speaks))) (with_said d.0 d.2 n o))

goes_on : (n : ℕ) (d e : Language × Place × Said) (skipped head : Bool) (o : Option Statement) (rest : List (List ℕ)) → line_and n d skipped head o ≡ Some e → line_and_rest n d skipped head o rest ≡ reading (n + 1) e rest
goes_on n d e true head o rest h = ap (λ x. reading (n + 1) x rest) (some_same h)
goes_on n d e false true o rest h = with_first d.2 (n, Speaks) (statements (n + 1) Second d.1 rest) ∙ ap (λ x. reading (n + 1) x rest) (some_same h)
goes_on n d e false false None rest h = cc
goes_on n d e false false (Some s) rest h = with_first d.2 (n, s) (statements (n + 1) d.0 (behind s) rest) ∙ ap (λ x. reading (n + 1) x rest) (some_same h)

stops : (n : ℕ) (d : Language × Place × Said) (skipped head : Bool) (o : Option Statement) (rest : List (List ℕ)) → line_and n d skipped head o ≡ None → line_and_rest n d skipped head o rest ≡ Err n
stops n d true head o rest h = cc
stops n d false true o rest h = cc
stops n d false false None rest h = refl
stops n d false false (Some s) rest h = cc

-- a line that is taken, behind the first i
pub lines_step : (i : ℕ) (d e : Language × Place × Said) (all : List (List ℕ)) (line : List ℕ) → (i < length all) × (line ≡ get_or all i line) → line_after (i + 1) line d ≡ Some e → reading (i + 1) d (drop i all) ≡ reading (i + 1 + 1) e (drop (i + 1) all)
unfolding statements
lines_step i d e all line at h =
    at_drop_more (reading (i + 1) d) all i line at.0 ∙ goes_on (i + 1) d e (is_skipped (get_or all i line)) (begins_second d.0 d.1 (get_or all i line)) (said_at d.0 d.1 (words d.0 (get_or all i line))) (drop (i + 1) all) (ap (λ l. line_after (i + 1) l d) (sym at.1) ∙ h)

-- one that isn't
pub lines_stop : (i : ℕ) (d : Language × Place × Said) (all : List (List ℕ)) (line : List ℕ) → (i < length all) × (line ≡ get_or all i line) → line_after (i + 1) line d ≡ None → reading (i + 1) d (drop i all) ≡ Err (i + 1)
unfolding statements
lines_stop i d all line at h =
    at_drop_more (reading (i + 1) d) all i line at.0 ∙ stops (i + 1) d (is_skipped (get_or all i line)) (begins_second d.0 d.1 (get_or all i line)) (said_at d.0 d.1 (words d.0 (get_or all i line))) (drop (i + 1) all) (ap (λ l. line_after (i + 1) l d) (sym at.1) ∙ h)

nobody : (n : ℕ) (p : Place) (d : Said) → p ≡ Start → ended n p >>= (λ all. Ok (fold and_said d all)) ≡ Err n
nobody n p d h = rw h refl

somebody : (n : ℕ) (p : Place) (d : Said) → (p ≡ Start → ⊥) → ended n p >>= (λ all. Ok (fold and_said d all)) ≡ Ok d
somebody n Start d h = absurd (h refl)
somebody n Voters d h = refl
somebody n Learners d h = refl
somebody n Settings d h = refl
somebody n Events d h = refl

-- behind all lines
pub lines_none : (i : ℕ) (d : Language × Place × Said) (all : List (List ℕ)) → length all ≤ i → d.1 ≡ Start → reading (i + 1) d (drop i all) ≡ Err (i + 1)
unfolding statements
lines_none i d all end h = at_drop_all (reading (i + 1) d) all i end ∙ nobody (i + 1) d.1 d.2 h

pub lines_all : (i : ℕ) (d : Language × Place × Said) (all : List (List ℕ)) → length all ≤ i → (d.1 ≡ Start → ⊥) → reading (i + 1) d (drop i all) ≡ Ok d.2
unfolding statements
lines_all i d all end h = at_drop_all (reading (i + 1) d) all i end ∙ somebody (i + 1) d.1 d.2 h

-- they are fewer than can be counted
pub counts : (text : List ℕ) (i : ℕ) → length text < 2 ^ 63 → i ≤ length (slice_split (λ b. eqb b 10) text) → min (i + 1) (2 ^ 64 - 1) ≡ i + 1
counts text i short at = omega (arith, length-slice_split (λ b. eqb b 10) text, count_by-le-length (λ b. eqb b 10) text)

-- of no text
pub no_text : (text : List ℕ) → true ≡ (length text == 0) → schedule_of text ≡ Err 1
unfolding statements
no_text [] none = refl
no_text (b ∷ text) none = absurd (omega (arith, eqb-true (length (b ∷ text)) 0 (sym none)))

-- ---- the lines of a text

pub lines_ended : (text : List ℕ) → lines (text ++ 10 ∷ []) ≡ slice_split (λ b. eqb b 10) text
lines_ended [] = refl
lines_ended (b ∷ text) = ap (λ rest. cond (eqb b 10) ([] ∷ rest) (onto_first b rest)) (lines_ended text)

pub lines_open : (text : List ℕ) → 0 < length text → ((front : List ℕ) → text ≢ front ++ 10 ∷ []) → lines text ≡ slice_split (λ b. eqb b 10) text
lines_open [] some bare = absurd (omega arith)
lines_open (b ∷ []) some bare = rw (ne_eqb b 10 (λ e. bare [] (ap (λ x. x ∷ []) e))) refl
lines_open (b ∷ c ∷ text) some bare = ap (λ rest. cond (eqb b 10) ([] ∷ rest) (onto_first b rest)) (lines_open (c ∷ text) (omega arith) (λ front e. bare (b ∷ front) (ap (λ rest. b ∷ rest) e)))

-- the text before its last LF, or all of it
pub lines_stripped : (text : List ℕ) (r : Option (Bor (List ℕ))) (x : Bor (List ℕ)) → MatchOption r ((front : List ℕ) → text ≢ front ++ 10 ∷ []) (λ y. text ≡ y.now ++ 10 ∷ []) → r ≡ Some x
    → slice_split (λ b. eqb b 10) x.now ≡ lines text
lines_stripped text None x h e = cc
lines_stripped text (Some y) x h e = let same : y.now ≡ x.now = ap (λ (z : Bor (List ℕ)). z.now) (some_same e) in ap (slice_split (λ b. eqb b 10)) (sym same) ∙ sym (ap lines h ∙ lines_ended y.now)

pub lines_kept : (text : List ℕ) (r : Option (Bor (List ℕ))) → MatchOption r ((front : List ℕ) → text ≢ front ++ 10 ∷ []) (λ y. text ≡ y.now ++ 10 ∷ []) → r ≡ None → 0 < length text → slice_split (λ b. eqb b 10) text ≡ lines text
lines_kept text None h e some = sym (lines_open text some h)
lines_kept text (Some y) h e some = cc
