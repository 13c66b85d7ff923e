-- The state machine is what is executed.
use Rattle.std.proofs.Common.{ℕ, ◌≡◌, List, [], ◌∷◌, ◌++◌, Option, Some, None, refl, sym, ap, ◌∙◌}
use Rattle.std.specs.List.{fold}
use Rattle.std.proofs.lemmas.List.Sums.{fold-append}
use Rattle.raft_answers.specs.declared.answer.Answer as raft_answer
use Rattle.raft_answers.specs.declared.answer.Answer.TheVariants as answers
use Rattle.raft_core.specs.raft_peers.declared.output.Output.TheVariants as core
use Rattle.raft_executor.specs.Executor.{Executed, executed_of}
use Rattle.raft_executor.specs.KeyValue.{application}
use Rattle.raft_machine.specs.Machine.{State}
use Rattle.raft_store.specs.declared.entry.Entry.{Entry}
use Rattle.raft_executor.specs.proof_packed_stores.Stores.{Packed}
use Rattle.raft_service.specs.Core.{CoreOutput}
use Rattle.raft_service.specs.Delivering.{AnswersIf, Delivers, DeliversAll, told}
use Rattle.raft_service.specs.Laws.{GoesOn, GoOn, MachineIsWhatIsExecuted, moved, state_after, state_of}
use Rattle.raft_service.specs.declared.output.Output.{Output}
use Rattle.raft_service.specs.declared.question.Question.{Question}
use Rattle.raft_service.specs.declared.question.Wanted.{Wanted}
use Rattle.raft_service.specs.declared.question.Wanted.TheVariants as wanted
use Rattle.raft_service.specs.declared.service.Service.{Service}

-- that an outcome was told changes no state
told_keeps : (x : Executed) (w : Wanted) (a : raft_answer.Answer) → (told x w a).state ≡ x.state
told_keeps x (wanted.Replies count) (answers.Ok index) = refl
told_keeps x (wanted.Replies count) answers.Failed = refl
told_keeps x (wanted.Replies count) (answers.NotLeader leader) = refl
told_keeps x (wanted.Replies count) answers.Unknown = refl
told_keeps x (wanted.Query q) a = refl

answer_keeps : (q : Option Question) (a : raft_answer.Answer) (old new : Service) → AnswersIf q a old new → state_of new ≡ state_of old
answer_keeps None a old new h = ap state_of h
answer_keeps (Some q) a old new h = ap (λ (x : Executed). x.state) h.executor ∙ told_keeps (executed_of old.executor) q.wanted a

-- one output
delivered_state : (o : CoreOutput) (old new : Service) (before after : List Output) → Delivers o old before new after
    → state_of new ≡ moved (state_of old) o
delivered_state (core.Send to bytes) old new before after h = ap state_of h.0
delivered_state (core.Append bytes end next) old new before after h = ap state_of h.0
delivered_state (core.Install snapshot) old new before after h = ap (λ (x : Executed). x.state) h.0.becomes
delivered_state (core.Execute entry) old new before after h = ap (λ (x : Executed). x.state) h.0.becomes
delivered_state (core.Reply reply) old new before after h =
    answer_keeps h.0.taken reply.answer h.0.middle new h.0.answered ∙ ap state_of h.0.rest
delivered_state (core.Read reply) old new before after h =
    answer_keeps h.0.taken reply.answer h.0.middle new h.0.answered ∙ ap state_of h.0.rest

delivered_states : (out : List CoreOutput) (old new : Service) (before after : List Output) → DeliversAll out old before new after
    → state_of new ≡ fold moved (state_of old) out
delivered_states [] old new before after h = ap state_of h.0
delivered_states (o ∷ os) old new before after h =
    delivered_states os h.0 new h.1 after h.3 ∙ ap (λ (st : State). fold moved st os) (delivered_state o old h.0 before h.1 h.2)

-- ---- the entries that were executed

abbrev after : List Entry → State
after es = state_after application.first es

moved_after : (o : CoreOutput) (es fs : List Entry) → GoesOn o es fs → moved (after es) o ≡ after fs
moved_after (core.Send to bytes) es fs h = ap after (sym h)
moved_after (core.Append bytes end next) es fs h = ap after (sym h)
moved_after (core.Install snapshot) es fs h = ap (λ (p : Packed State). p.state) h
moved_after (core.Execute entry) es fs h = sym (ap after h ∙ fold-append application.apply application.first es (entry ∷ []))
moved_after (core.Reply reply) es fs h = ap after (sym h)
moved_after (core.Read reply) es fs h = ap after (sym h)

all_after : (out : List CoreOutput) (es fs : List Entry) → GoOn out es fs → fold moved (after es) out ≡ after fs
all_after [] es fs h = ap after (sym h)
all_after (o ∷ os) es fs h = ap (λ (st : State). fold moved st os) (moved_after o es h.0 h.1) ∙ all_after os h.0 fs h.2

pub machine : MachineIsWhatIsExecuted
machine = record {
  opens = λ settings log opened o es h. ap (λ (x : Executed). x.state) o.executed ∙ ap (λ (p : Packed State). p.state) h;
  moves = delivered_states;
  executes = λ out old new before after' es fs h goes executed.
      delivered_states out old new before after' h ∙ ap (λ (st : State). fold moved st out) executed ∙ all_after out es fs goes;
}
