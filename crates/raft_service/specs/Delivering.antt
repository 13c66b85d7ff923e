-- What outputs of the server come to.
use Rattle.std.specs.Prelude.{ℕ, ◌≡◌, ◌==◌, length, List, [], ◌∷◌, ◌++◌, Option, Some, None, if◌then◌else◌}
use Rattle.raft_answers.specs.declared.answer.Answer as raft_answer
use Rattle.raft_answers.specs.declared.answer.Answer.TheVariants as answers
use Rattle.raft_answers.specs.declared.answer.Reply.{Reply}
use Rattle.raft_answers.specs.declared.request.Token.{Token}
use Rattle.raft_clients.specs.Clients.{Answers}
use Rattle.raft_connection.specs.declared.answer.Answer.{Answer}
use Rattle.raft_connection.specs.declared.answer.Answer.TheVariants.{Replies, NoLeader, Outdated, Reused, Interrupted}
use Rattle.raft_core.specs.raft_peers.declared.output.Output.TheVariants as core
use Rattle.raft_executor.specs.Executor.{Executed, executed, executed_of, installed, without_outcome}
use Rattle.raft_machine.specs.Commands.{answer}
use Rattle.raft_machine.specs.declared.machine.Outcome.{Outcome}
use Rattle.raft_machine.specs.declared.machine.Outcome.TheVariants as outcome
use Rattle.raft_service.specs.Core.{CoreOutput}
use Rattle.raft_service.specs.Intake.{Addresses, TakesFirst, TakesRead, not_leader}
use Rattle.raft_service.specs.declared.intake.Intake.{Intake}
use Rattle.raft_service.specs.declared.output.Output.{Output}
use Rattle.raft_service.specs.declared.output.Output.TheVariants as outputs
use Rattle.raft_service.specs.declared.question.Question.{Question}
use Rattle.raft_service.specs.declared.question.Wanted.{Wanted}
use Rattle.raft_service.specs.declared.question.Wanted.TheVariants as wanted
use Rattle.raft_service.specs.declared.service.Service.{Service}

-- ---- answers

-- What the last entry's request of so many commands is answered. One that had other commands when it was run has another number of replies.
abbrev pub last_answer : ℕ → Option Outcome → Answer
last_answer count None = Interrupted
last_answer count (Some outcome.Outdated) = Outdated
last_answer count (Some (outcome.Answered replies)) = if length replies == count then Replies replies else Reused

-- An update is answered by what its own entry's commands answered, which was executed last; a query by the state after that entry.
abbrev pub executed_answer : Executed → Wanted → Answer
executed_answer x (wanted.Replies count) = last_answer count x.outcome
executed_answer x (wanted.Query q) = Replies (answer x.state.space q ∷ [])

abbrev pub answer_to : Addresses → Executed → Wanted → raft_answer.Answer → Answer
answer_to addresses x w (answers.Ok index) = executed_answer x w
answer_to addresses x w answers.Failed = NoLeader
answer_to addresses x w (answers.NotLeader leader) = not_leader addresses leader
answer_to addresses x w answers.Unknown = Interrupted

-- an outcome is told once
abbrev pub told : Executed → Wanted → raft_answer.Answer → Executed
told x (wanted.Replies count) (answers.Ok index) = without_outcome x
told x w other = x

-- A client's question is answered, if it is still connected.
pub record Answered (q : Question) (a : raft_answer.Answer) (old new : Service) : Type 0 where
  pub executor : executed_of new.executor ≡ told (executed_of old.executor) q.wanted a
  pub clients : Answers q.client q.number (answer_to old.intake.addresses (executed_of old.executor) q.wanted a) old.clients new.clients
  pub rest : new ≡ record old { executor = new.executor; clients = new.clients }

abbrev pub AnswersIf : Option Question → raft_answer.Answer → Service → Service → Type 0
AnswersIf None a old new = new ≡ old
AnswersIf (Some q) a old new = Answered q a old new

-- a reply answers the first question of those from which `Takes` takes, whose token it has
pub record Replied (Takes : Token → Intake → Intake → Option Question → Type 0) (reply : Reply) (old new : Service) : Type 0 where
  pub middle : Service
  pub taken : Option Question
  pub takes : Takes reply.token old.intake middle.intake taken
  pub rest : middle ≡ record old { intake = middle.intake }
  pub answered : AnswersIf taken reply.answer middle new

-- ---- outputs

-- what the state machine is after it
pub record Machine (after : Executed) (old new : Service) : Type 0 where
  pub becomes : executed_of new.executor ≡ after
  pub rest : new ≡ record old { executor = new.executor }

-- Messages and bytes for the log leave; a snapshot's state is put in place; an entry is executed; a reply answers a
-- question.
abbrev pub Delivers : CoreOutput → Service → List Output → Service → List Output → Type 0
Delivers (core.Send to bytes) old before new after = (new ≡ old) × (after ≡ before ++ outputs.Send to bytes ∷ [])
Delivers (core.Append bytes end next) old before new after = (new ≡ old) × (after ≡ before ++ outputs.Append bytes end next ∷ [])
Delivers (core.Install snapshot) old before new after = Machine (installed snapshot) old new × (after ≡ before)
Delivers (core.Execute entry) old before new after = Machine (executed (executed_of old.executor) entry) old new × (after ≡ before)
Delivers (core.Reply reply) old before new after = Replied TakesFirst reply old new × (after ≡ before)
Delivers (core.Read reply) old before new after = Replied TakesRead reply old new × (after ≡ before)

-- outputs, in their order
abbrev pub DeliversAll : List CoreOutput → Service → List Output → Service → List Output → Type 0
DeliversAll [] old before new after = (new ≡ old) × (after ≡ before)
DeliversAll (o ∷ os) old before new after = (middle : Service) × (out : List Output) × Delivers o old before middle out × DeliversAll os middle out new after
