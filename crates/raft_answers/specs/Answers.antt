-- Answers to requests.
use Rattle.std.specs.Prelude.{ℕ, Bool, List, ◌++◌, length, map, drop, take, nat_eq, nat_le, nat_lt, ◌==◌, if◌then◌else◌}
use Rattle.std.specs.List.{prefix_len, take_while}
use Rattle.raft_state.specs.declared.ids.LogId.{LogId}
use Rattle.raft_state.specs.IdEquality.{log_id_eq}
use Rattle.raft_answers.specs.declared.answer.Answer.{Answer}
use Rattle.raft_answers.specs.declared.answer.Answer.TheVariants.{Failed, Unknown}
use Rattle.raft_answers.specs.declared.answer.Answer.TheVariants as answers
use Rattle.raft_answers.specs.declared.answer.Reply.{Reply}
use Rattle.raft_answers.specs.declared.batch.Place.{Place}
use Rattle.raft_answers.specs.declared.request.Proposal.{Proposal}
use Rattle.raft_answers.specs.declared.request.Request.{Request}
use Rattle.raft_answers.specs.Requests.{Open}

-- An entry with this id was executed, and the request waits for one at its index or below: for this one, or for another that
-- can't be executed any more; or for one below that nobody was told of.
abbrev pub answer_at : LogId ℕ → Proposal → Answer
answer_at id p = if log_id_eq nat_eq p.log_id id then answers.Ok id.index else if nat_eq p.log_id.index id.index then Failed else Unknown

-- a request that was proposed waits for the entry at this index, or for one below
abbrev pub waits_upto : ℕ → Proposal → Bool
waits_upto index p = nat_le p.log_id.index index

-- an entry was executed
abbrev pub settled_left : ℕ → List Proposal → List Proposal
settled_left index ps = drop (prefix_len (waits_upto index) ps) ps

abbrev pub settled : LogId ℕ → Open → Open
settled id o = record o { proposed = settled_left id.index o.proposed }

abbrev pub settled_replies : LogId ℕ → List Proposal → List Reply
settled_replies id ps = map (λ p. record { token = p.token; answer = answer_at id p }) (take_while (waits_upto id.index) ps)

-- the lead is over
abbrev pub ended : List Proposal → List Reply
ended ps = map (λ p. record { token = p.token; answer = Unknown }) ps

-- requests that wait get this answer
abbrev pub refused : Answer → List Request → List Reply
refused answer rs = map (λ r. record { token = r.token; answer = answer }) rs

-- a proposal was refused
abbrev pub failed : List Place → List Reply
failed places = map (λ p. record { token = p.token; answer = Failed }) places

-- Those that came before a moment: the proposed ones, and if none of these is left, those that wait
abbrev pub proposed_upto : ℕ → Proposal → Bool
proposed_upto upto p = nat_lt p.since upto

abbrev pub came_upto : ℕ → Request → Bool
came_upto upto r = nat_lt r.since upto

abbrev pub proposed_left : ℕ → List Proposal → List Proposal
proposed_left upto ps = drop (prefix_len (proposed_upto upto) ps) ps

abbrev pub count_expired : ℕ → Open → ℕ
count_expired upto o = if length (proposed_left upto o.proposed) == 0 then prefix_len (came_upto upto) o.waiting else 0

abbrev pub expired : ℕ → Open → Open
expired upto o = record { proposed = proposed_left upto o.proposed; waiting = drop (count_expired upto o) o.waiting }

-- whether a proposed one is done is not known; one that waits has failed
abbrev pub expired_replies : ℕ → Open → List Reply
expired_replies upto o = ended (take_while (proposed_upto upto) o.proposed) ++ refused Failed (take (count_expired upto o) o.waiting)
