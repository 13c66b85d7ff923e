-- Reads that are answered first come, first answered.
use Rattle.std.proofs.Common.{ℕ, zero, suc, ◌≡◌, ◌∙◌, List, [], ◌∷◌, ◌++◌, None, Some, length, take, drop, refl, sym, ap, append_assoc}
use Rattle.std.specs.Prelude.{map, Option}
use Rattle.std.proofs.lemmas.List.{map-append}
use Rattle.raft_calls.specs.declared.lead.Answer as node_answer
use Rattle.raft_answers.specs.declared.answer.Answer.{Answer}
use Rattle.raft_answers.specs.declared.answer.Answer.TheVariants.{Failed, NotLeader, Ok}
use Rattle.raft_answers.specs.declared.answer.Reply.{Reply}
use Rattle.raft_answers.specs.declared.request.Token.{Token}
use Rattle.raft_reads.specs.declared.reads.Reader.{Reader}
use Rattle.raft_reads.specs.Reads.{ReadsView, RoundView, answer_left, count_over, count_overdue, failed_left, failed_replies, read_left, read_replies}
use Rattle.raft_reads.specs.Reads.{read_tokens, refused_left, refused_replies, told, with_left}

-- ---- answers of the node that leave

pub left_both : (a b : List node_answer.Answer) (r : ReadsView) → with_left (a ++ b) r ≡ with_left b (with_left a r)
left_both [] b r = refl
left_both (x ∷ a) [] r = refl
left_both (x ∷ a) (y ∷ b) r = ap (λ (os : List RoundView). record r { rounds = os }) (twice r.rounds)
  where
    twice : (os : List RoundView) → map answer_left os ≡ map answer_left (map answer_left os)
    twice [] = refl
    twice (o ∷ os) = ap (λ more. answer_left o ∷ more) (twice os)

pub left_keeps : (a : List node_answer.Answer) (r : ReadsView) → (with_left a r).readers ≡ r.readers
left_keeps [] r = refl
left_keeps (x ∷ a) r = refl

-- ---- who is answered

-- the first of the reads got these replies, in their order, and the others are left
abbrev pub ReadsFirst : ReadsView → List Reply → ReadsView → Type 0
ReadsFirst old replies new = read_tokens old ≡ map (λ r. r.token) replies ++ read_tokens new

abbrev of_reader : Reader → Token
of_reader x = x.token

abbrev of_reply : Reply → Token
of_reply r = r.token

first_told : (a : Answer) (n : ℕ) (xs : List Reader) → map of_reader xs ≡ map of_reply (told a (take n xs)) ++ map of_reader (drop n xs)
first_told a zero xs = refl
first_told a (suc n) [] = refl
first_told a (suc n) (x ∷ xs) = ap (λ ts. x.token ∷ ts) (first_told a n xs)

all_told : (a : Answer) (xs : List Reader) → map of_reader xs ≡ map of_reply (told a xs) ++ []
all_told a [] = refl
all_told a (x ∷ xs) = ap (λ ts. x.token ∷ ts) (all_told a xs)

drop_all : {A : Type 0} (xs : List A) → drop (length xs) xs ≡ []
drop_all [] = refl
drop_all (x ∷ xs) = drop_all xs

pub both_reads : (old mid new : ReadsView) (first second : List Reply) → ReadsFirst old first mid → ReadsFirst mid second new
    → ReadsFirst old (first ++ second) new
both_reads old mid new first second a b =
    a
    ∙ (ap (λ ts. map of_reply first ++ ts) b
    ∙ (sym (append_assoc (map of_reply first) (map of_reply second) (read_tokens new))
    ∙ ap (λ ts. ts ++ read_tokens new) (sym (map-append of_reply first second))))

pub fails_first : (upto : ℕ) (r : ReadsView) → ReadsFirst r (failed_replies upto r) (failed_left upto r)
fails_first upto r = first_told Failed (count_overdue upto r) r.readers

pub refuses_first : (gone : Option (Option ℕ)) (r : ReadsView) → ReadsFirst r (refused_replies gone r) (refused_left gone r)
refuses_first None r = refl
refuses_first (Some leader) r =
    all_told (NotLeader leader) r.readers
    ∙ ap (λ xs. map of_reply (told (NotLeader leader) r.readers) ++ map of_reader xs) (sym (drop_all r.readers))

pub reads_first : (executed : Option ℕ) (r : ReadsView) → ReadsFirst r (read_replies executed r) (read_left executed r)
reads_first None r = refl
reads_first (Some index) r = first_told (Ok index) (count_over index r.rounds) r.readers
