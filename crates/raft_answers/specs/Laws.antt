-- Each request that was taken is answered once.
use Rattle.std.specs.Prelude.{ℕ, ◌≡◌, ◌≢◌, List, [], ◌++◌, map}
use Rattle.raft_state.specs.declared.ids.LogId.{LogId}
use Rattle.raft_answers.specs.declared.answer.Answer.{Answer}
use Rattle.raft_answers.specs.declared.answer.Answer.TheVariants as answers
use Rattle.raft_answers.specs.declared.answer.Reply.{Reply}
use Rattle.raft_answers.specs.declared.batch.Place.{Place}
use Rattle.raft_answers.specs.declared.request.Proposal.{Proposal}
use Rattle.raft_answers.specs.Answers.{answer_at, ended, expired, expired_replies, failed, refused, settled, settled_replies}
use Rattle.raft_answers.specs.Requests.{Batched, IsBatched, Open, proposal_at, tokens_of}

-- The first of the requests without an answer got one each, in their order, and the others are left. So none is answered twice, and none is
-- forgotten.
abbrev pub AnswersFirst : Open → List Reply → Open → Type 0
AnswersFirst old replies new = tokens_of old ≡ map (λ r. r.token) replies ++ tokens_of new

-- a batch's proposal was accepted
abbrev pub with_places : LogId ℕ → List Place → Open → Open
with_places first places o = record o { proposed = o.proposed ++ map (proposal_at first) places }

-- Each call answers the first: an entry was executed; the lead is over; those that wait are refused, once none is proposed; those that came long ago;
-- a proposal was refused, and with it the lead is over. One that is accepted answers none.
pub record EachIsAnsweredOnce : Type 0 where
  pub settles : (id : LogId ℕ) (o : Open) → AnswersFirst o (settled_replies id o.proposed) (settled id o)
  pub ends : (o : Open) → AnswersFirst o (ended o.proposed) (record o { proposed = [] })
  pub refuses : (answer : Answer) (o : Open) → o.proposed ≡ [] → AnswersFirst o (refused answer o.waiting) (record o { waiting = [] })
  pub expires : (upto : ℕ) (o : Open) → AnswersFirst o (expired_replies upto o) (expired upto o)
  pub fails : (old taken : Open) (b : Batched) → IsBatched old taken b
      → AnswersFirst old (ended old.proposed ++ failed b.places) (record taken { proposed = [] })
  pub proposes : (first : LogId ℕ) (old taken : Open) (b : Batched) → IsBatched old taken b
      → tokens_of (with_places first b.places taken) ≡ tokens_of old

-- Of those that were proposed, `Ok` is answered only to one whose own entry was executed, and `Failed` only to one at whose index another
-- entry was executed.
pub record AnswersAreTrue : Type 0 where
  pub ok : (id : LogId ℕ) (p : Proposal) (index : ℕ) → answer_at id p ≡ answers.Ok index → (p.log_id ≡ id) × (index ≡ id.index)
  pub failed : (id : LogId ℕ) (p : Proposal) → answer_at id p ≡ answers.Failed → (p.log_id.index ≡ id.index) × (p.log_id ≢ id)
