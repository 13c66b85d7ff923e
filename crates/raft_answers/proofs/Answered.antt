-- Each request is answered once.
use Rattle.std.proofs.Common.{◌≡◌, ℕ, suc, zero, ◌∙◌, false, arith, List, [], ◌∷◌, ◌++◌, length, take, drop, refl, sym, ap, append_assoc}
use Rattle.std.specs.Prelude.{map, if◌then◌else◌, ◌==◌}
use Rattle.std.specs.List.{fold, prefix_len, take_while}
use Rattle.std.proofs.lemmas.List.{map-append, append-nil}
use Rattle.std.proofs.lemmas.Bool.Decides.{nat_tests}
use Rattle.raft_state.specs.declared.ids.LogId.{LogId}
use Rattle.raft_answers.specs.declared.answer.Answer.{Answer}
use Rattle.raft_answers.specs.declared.answer.Answer.TheVariants.{Failed}
use Rattle.raft_answers.specs.declared.answer.Reply.{Reply}
use Rattle.raft_answers.specs.declared.batch.Place.{Place}
use Rattle.raft_answers.specs.declared.request.Proposal.{Proposal}
use Rattle.raft_answers.specs.declared.request.Request.{Request}
use Rattle.raft_answers.specs.declared.request.Token.{Token}
use Rattle.raft_answers.specs.Answers.{came_upto, count_expired, ended, expired, expired_replies, failed, proposed_left, proposed_upto, refused, settled, settled_replies, waits_upto}
use Rattle.raft_answers.specs.Laws.{AnswersFirst, EachIsAnsweredOnce, with_places}
use Rattle.raft_answers.specs.Requests.{Batched, IsBatched, Open, batch_of, no_batch, proposal_at, tokens_of, with_request}

-- what is said of the first n, and the others
split : {X T : Type 0} (t : X → T) (n : ℕ) (xs : List X) → map t xs ≡ map t (take n xs) ++ map t (drop n xs)
split t zero xs = refl
split t (suc n) [] = refl
split t (suc n) (x ∷ xs) = ap (λ ts. t x ∷ ts) (split t n xs)

-- replies of the same tokens
tokens_told : {X : Type 0} (t : X → Token) (f : X → Reply) (xs : List X) → ((x : X) → (f x).token ≡ t x) → map (λ r. r.token) (map f xs) ≡ map t xs
tokens_told t f [] same = refl
tokens_told t f (x ∷ xs) same = ap (λ ts. (f x).token ∷ ts) (tokens_told t f xs same) ∙ ap (λ y. y ∷ map t xs) (same x)

-- the first n are answered
first_answered : {X : Type 0} (t : X → Token) (f : X → Reply) (n : ℕ) (xs : List X) (others : List Token) → ((x : X) → (f x).token ≡ t x)
    → map t xs ++ others ≡ map (λ r. r.token) (map f (take n xs)) ++ (map t (drop n xs) ++ others)
first_answered t f n xs others same =
    ap (λ ts. ts ++ others) (split t n xs)
    ∙ (append_assoc (map t (take n xs)) (map t (drop n xs)) others
    ∙ ap (λ ts. ts ++ (map t (drop n xs) ++ others)) (sym (tokens_told t f (take n xs) same)))

-- all are
all_answered : {X : Type 0} (t : X → Token) (f : X → Reply) (xs : List X) (others : List Token) → ((x : X) → (f x).token ≡ t x)
    → map t xs ++ others ≡ map (λ r. r.token) (map f xs) ++ others
all_answered t f xs others same = ap (λ ts. ts ++ others) (sym (tokens_told t f xs same))

abbrev pub of_proposal : Proposal → Token
of_proposal p = p.token

abbrev pub of_request : Request → Token
of_request r = r.token

pub settles : (id : LogId ℕ) (o : Open) → AnswersFirst o (settled_replies id o.proposed) (settled id o)
settles id o = first_answered of_proposal _ (prefix_len (waits_upto id.index) o.proposed) o.proposed (map of_request o.waiting) (λ p. refl)

pub ends : (o : Open) → AnswersFirst o (ended o.proposed) (record o { proposed = [] })
ends o = all_answered of_proposal _ o.proposed (map of_request o.waiting) (λ p. refl)

pub refuses : (answer : Answer) (o : Open) → o.proposed ≡ [] → AnswersFirst o (refused answer o.waiting) (record o { waiting = [] })
refuses answer o none =
    ap (λ ps. map of_proposal ps ++ map of_request o.waiting) none
    ∙ (sym (tokens_told of_request _ o.waiting (λ r. refl))
    ∙ (sym (append-nil (map (λ r. r.token) (refused answer o.waiting)))
    ∙ ap (λ ps. map (λ r. r.token) (refused answer o.waiting) ++ (map of_proposal ps ++ [])) (sym none)))

-- two answer one after the other
pub both : (old mid new : Open) (first second : List Reply) → AnswersFirst old first mid → AnswersFirst mid second new
    → AnswersFirst old (first ++ second) new
both old mid new first second a b =
    a
    ∙ (ap (λ ts. map (λ r. r.token) first ++ ts) b
    ∙ (sym (append_assoc (map (λ r. r.token) first) (map (λ r. r.token) second) (tokens_of new))
    ∙ ap (λ ts. ts ++ tokens_of new) (sym (map-append (λ r. r.token) first second))))

-- those that wait expire if none is proposed
expired_second : (ps : List Proposal) (w : List Request) (m : ℕ)
    → (let k = if length ps == 0 then m else 0 in AnswersFirst (record { proposed = ps; waiting = w }) (refused Failed (take k w))
    (record { proposed = ps; waiting = drop k w }))
expired_second [] w m = split of_request m w ∙ ap (λ ts. ts ++ map of_request (drop m w)) (sym (tokens_told of_request _ (take m w) (λ r. refl)))
expired_second (p ∷ ps) w m =
    let some : (length (p ∷ ps) == 0) ≡ false = grind (arith, nat_tests) in
    rw some refl

pub expires : (upto : ℕ) (o : Open) → AnswersFirst o (expired_replies upto o) (expired upto o)
expires upto o =
    both o (record { proposed = proposed_left upto o.proposed; waiting = o.waiting }) (expired upto o)
    (ended (take_while (proposed_upto upto) o.proposed)) (refused Failed (take (count_expired upto o) o.waiting))
    (first_answered of_proposal _ (prefix_len (proposed_upto upto) o.proposed) o.proposed (map of_request o.waiting) (λ p. refl))
    (expired_second (proposed_left upto o.proposed) o.waiting (prefix_len (came_upto upto) o.waiting))

abbrev pub of_place : Place → Token
of_place p = p.token

-- a batch has the tokens of its requests
fold_tokens : (b : Batched) (rs : List Request)
    → map of_place (fold (λ b r. with_request r b) b rs).places ≡ map of_place b.places ++ map of_request rs
fold_tokens b [] = sym (append-nil (map of_place b.places))
fold_tokens b (r ∷ rs) =
    fold_tokens (with_request r b) rs
    ∙ (ap (λ ts. ts ++ map of_request rs) (map-append of_place b.places _)
    ∙ append_assoc (map of_place b.places) (r.token ∷ []) (map of_request rs))

pub batch_tokens : (rs : List Request) → map of_place (batch_of rs).places ≡ map of_request rs
batch_tokens rs = fold_tokens no_batch rs

pub fails : (old taken : Open) (b : Batched) → IsBatched old taken b
    → AnswersFirst old (ended old.proposed ++ failed b.places) (record taken { proposed = [] })
fails old taken b is =
    both old (record old { proposed = [] }) (record taken { proposed = [] }) (ended old.proposed) (failed b.places) (ends old)
    (split of_request is.count old.waiting
    ∙ (ap (λ ts. ts ++ map of_request (drop is.count old.waiting)) (sym (batch_tokens (take is.count old.waiting)))
    ∙ (ap (λ (x : Batched). map of_place x.places ++ map of_request (drop is.count old.waiting)) (sym is.batch)
    ∙ (ap (λ ts. ts ++ map of_request (drop is.count old.waiting)) (sym (tokens_told of_place _ b.places (λ p. refl)))
    ∙ ap (λ (x : Open). map (λ r. r.token) (failed b.places) ++ map of_request x.waiting) (sym is.left)))))

pub proposes : (first : LogId ℕ) (old taken : Open) (b : Batched) → IsBatched old taken b
    → tokens_of (with_places first b.places taken) ≡ tokens_of old
proposes first old taken b is =
    ap (λ (x : Open). map of_proposal (x.proposed ++ map (proposal_at first) b.places) ++ map of_request x.waiting) is.left
    ∙ (ap (λ ts. ts ++ map of_request (drop is.count old.waiting)) (map-append of_proposal old.proposed (map (proposal_at first) b.places))
    ∙ (append_assoc (map of_proposal old.proposed) (map of_proposal (map (proposal_at first) b.places)) (map of_request (drop is.count old.waiting))
    ∙ ap (λ ts. map of_proposal old.proposed ++ ts)
    (ap (λ ts. ts ++ map of_request (drop is.count old.waiting)) (proposed_tokens b.places
    ∙ (ap (λ (x : Batched). map of_place x.places) is.batch ∙ batch_tokens (take is.count old.waiting)))
    ∙ sym (split of_request is.count old.waiting))))
  where
    proposed_tokens : (places : List Place) → map of_proposal (map (proposal_at first) places) ≡ map of_place places
    proposed_tokens [] = refl
    proposed_tokens (p ∷ places) = ap (λ ts. p.token ∷ ts) (proposed_tokens places)

pub each_is_answered_once : EachIsAnsweredOnce
each_is_answered_once = record { settles = settles; ends = ends; refuses = refuses; expires = expires; fails = fails; proposes = proposes }
