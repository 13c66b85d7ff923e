-- A question waits for each request of the server that has no answer, and for each of its reads.
use Rattle.std.proofs.Common.{ℕ, zero, suc, ◌≡◌, Bool, true, false, inl, inr, List, [], ◌∷◌, ◌++◌, map, Option, Some, None, refl, sym, ap, subst, ◌∙◌, append_assoc}
use Rattle.std.proofs.lemmas.List.{map-append}
use Rattle.raft_answers.specs.Requests.{tokens_of}
use Rattle.raft_answers.specs.declared.answer.Answer as raft_answer
use Rattle.raft_answers.specs.declared.answer.Reply.{Reply}
use Rattle.raft_answers.specs.declared.request.Operation.{Operation}
use Rattle.raft_answers.specs.declared.request.Request.{Request}
use Rattle.raft_answers.specs.declared.request.Proposal.{Proposal}
use Rattle.raft_answers.specs.declared.request.Token.{Token}
use Rattle.raft_clients.specs.declared.clients.Clients.{Clients}
use Rattle.raft_connection.specs.declared.connection.Asked.{Asked}
use Rattle.raft_connection.specs.declared.connection.Step.{Step}
use Rattle.raft_connection.specs.declared.connection.Step.TheVariants as step_is
use Rattle.raft_connection.specs.declared.session.Work.{Work}
use Rattle.raft_connection.specs.declared.session.Work.TheVariants as work
use Rattle.raft_core.specs.Laws.{AnswersOnce, AnswersReads, ClientsAreAnsweredOnce, ReadsAreAnsweredOnce, read_replies_of, replies_of}
use Rattle.raft_core.specs.raft_reads.Reads.{ReadsView, read_tokens}
use Rattle.raft_core.specs.raft_peers.declared.output.Output.TheVariants as core
use Rattle.raft_core.specs.Calls.{Receives, Releases, Ticks, Writes}
use Rattle.raft_core.specs.raft_reads.declared.reads.Reader.{Reader}
use Rattle.raft_executor.specs.KeyValue.{application}
use Rattle.raft_machine.specs.Bytes.{state}
use Rattle.raft_service.specs.Calls.{Calls, at_moment, with_core}
use Rattle.raft_service.specs.Core.{Core, CoreOutput}
use Rattle.raft_service.specs.Delivering.{AnswersIf, DeliversAll}
use Rattle.raft_service.specs.Intake.{Admitted, AdmitsBy, AsksRound, EntersLog, TakesFirstOf, goes_by_round, question_of}
use Rattle.raft_service.specs.Plans.{planned}
use Rattle.raft_service.specs.Laws.{IsAligned, KeepsAligned, QuestionsWaitForReplies, tokens_in}
use Rattle.raft_service.specs.Serving.{AsksOrAnswers, Does, Front, Rounds, Serves, ServesAll, front}
use Rattle.raft_service.specs.declared.intake.Intake.{Intake}
use Rattle.raft_service.specs.declared.output.Output.{Output}
use Rattle.raft_service.specs.declared.plan.Way.{Way}
use Rattle.raft_service.specs.declared.plan.Way.TheVariants.{Entry, Round}
use Rattle.raft_service.specs.declared.question.Question.{Question}
use Rattle.raft_service.specs.declared.service.Service.{Service}

-- ---- replies take questions

abbrev tail_of : {X : Type 0} → List X → List X
tail_of [] = []
tail_of (x ∷ xs) = xs

answer_keeps : (q : Option Question) (a : raft_answer.Answer) (old new : Service) → AnswersIf q a old new → new.intake ≡ old.intake
answer_keeps None a old new h = ap (λ (s : Service). s.intake) h
answer_keeps (Some q) a old new h = ap (λ (s : Service). s.intake) h.rest

abbrev token_of : Question → Token
token_of q = q.token

-- the first question goes
taken : (qs left : List Question) (token : Token) (q : Option Question) (rest : List Token) → TakesFirstOf qs token left q
    → map token_of qs ≡ token ∷ rest → tokens_in left ≡ rest
taken [] left token q rest h e = absurd cc
taken (p ∷ qs) left token q rest h e = ap (map token_of) h.1 ∙ ap tail_of e

abbrev token_told : Reply → Token
token_told r = r.token

-- what leaves answers the first questions, of those in the log and of those by rounds
pub record Awaits (out : List CoreOutput) (requests reads : List Token) (s : Intake) : Type 0 where
  pub logged : tokens_in s.waiting.items ≡ map token_told (replies_of out) ++ requests
  pub read : tokens_in s.reading.items ≡ map token_told (read_replies_of out) ++ reads

awaits_same : (out : List CoreOutput) (requests reads : List Token) (s t : Intake) → t ≡ s → Awaits out requests reads s
    → Awaits out requests reads t
awaits_same out requests reads s t same h = record {
  logged = ap (λ (i : Intake). tokens_in i.waiting.items) same ∙ h.logged;
  read = ap (λ (i : Intake). tokens_in i.reading.items) same ∙ h.read;
}

-- one output less, which is no reply
awaits_next : (o : CoreOutput) (os : List CoreOutput) (requests reads : List Token) (s : Intake)
    → replies_of (o ∷ os) ≡ replies_of os → read_replies_of (o ∷ os) ≡ read_replies_of os → Awaits (o ∷ os) requests reads s
    → Awaits os requests reads s
awaits_next o os requests reads s e f h = record {
  logged = h.logged ∙ ap (λ (rs : List Reply). map token_told rs ++ requests) e;
  read = h.read ∙ ap (λ (rs : List Reply). map token_told rs ++ reads) f;
}

-- what is left once all of them were answered
pub record Answers (requests reads : List Token) (old new : Intake) : Type 0 where
  pub logged : tokens_in new.waiting.items ≡ requests
  pub read : tokens_in new.reading.items ≡ reads
  pub core : new.core ≡ old.core

through : (requests reads : List Token) (old middle new : Intake) → middle.core ≡ old.core → Answers requests reads middle new
    → Answers requests reads old new
through requests reads old middle new same h = record { logged = h.logged; read = h.read; core = h.core ∙ same }

-- an output that changes no question
passed : (o : CoreOutput) (os : List CoreOutput) (requests reads : List Token) (s t : Intake)
    → replies_of (o ∷ os) ≡ replies_of os → read_replies_of (o ∷ os) ≡ read_replies_of os → t ≡ s → Awaits (o ∷ os) requests reads s
    → Awaits os requests reads t
passed o os requests reads s t e f same h = awaits_same os requests reads s t same (awaits_next o os requests reads s e f h)

pub delivered : (out : List CoreOutput) (old new : Service) (before after : List Output) (requests reads : List Token)
    → DeliversAll out old before new after → Awaits out requests reads old.intake → Answers requests reads old.intake new.intake
delivered [] old new before after requests reads h e =
    let same : new.intake ≡ old.intake = ap (λ (s : Service). s.intake) h.0 in
    let there = awaits_same [] requests reads old.intake new.intake same e in
    record { logged = there.logged; read = there.read; core = ap (λ (i : Intake). i.core) same }
delivered (core.Send to bytes ∷ os) old new before after requests reads h e =
    let same : h.0.intake ≡ old.intake = ap (λ (s : Service). s.intake) h.2.0 in
    through requests reads old.intake h.0.intake new.intake (ap (λ (i : Intake). i.core) same)
    (delivered os h.0 new h.1 after requests reads h.3 (passed (core.Send to bytes) os requests reads old.intake h.0.intake refl refl same e))
delivered (core.Append bytes end next ∷ os) old new before after requests reads h e =
    let same : h.0.intake ≡ old.intake = ap (λ (s : Service). s.intake) h.2.0 in
    through requests reads old.intake h.0.intake new.intake (ap (λ (i : Intake). i.core) same)
    (delivered os h.0 new h.1 after requests reads h.3 (passed (core.Append bytes end next) os requests reads old.intake h.0.intake refl refl same e))
delivered (core.Install entries ∷ os) old new before after requests reads h e =
    let same : h.0.intake ≡ old.intake = ap (λ (s : Service). s.intake) h.2.0.rest in
    through requests reads old.intake h.0.intake new.intake (ap (λ (i : Intake). i.core) same)
    (delivered os h.0 new h.1 after requests reads h.3 (passed (core.Install entries) os requests reads old.intake h.0.intake refl refl same e))
delivered (core.Execute entry ∷ os) old new before after requests reads h e =
    let same : h.0.intake ≡ old.intake = ap (λ (s : Service). s.intake) h.2.0.rest in
    through requests reads old.intake h.0.intake new.intake (ap (λ (i : Intake). i.core) same)
    (delivered os h.0 new h.1 after requests reads h.3 (passed (core.Execute entry) os requests reads old.intake h.0.intake refl refl same e))
delivered (core.Reply reply ∷ os) old new before after requests reads h e =
    let r = h.2.0 in
    let m : Intake = r.middle.intake in
    let same : h.0.intake ≡ m = answer_keeps r.taken reply.answer r.middle h.0 r.answered in
    let left : tokens_in m.waiting.items ≡ map token_told (replies_of os) ++ requests =
    taken old.intake.waiting.items m.waiting.items reply.token r.taken (map token_told (replies_of os) ++ requests) r.takes.first e.logged in
    let there : Awaits os requests reads m = record { logged = left; read = ap (λ (i : Intake). tokens_in i.reading.items) r.takes.rest ∙ e.read } in
    through requests reads old.intake h.0.intake new.intake (ap (λ (i : Intake). i.core) same ∙ ap (λ (i : Intake). i.core) r.takes.rest)
    (delivered os h.0 new h.1 after requests reads h.3 (awaits_same os requests reads m h.0.intake same there))
delivered (core.Read reply ∷ os) old new before after requests reads h e =
    let r = h.2.0 in
    let m : Intake = r.middle.intake in
    let same : h.0.intake ≡ m = answer_keeps r.taken reply.answer r.middle h.0 r.answered in
    let left : tokens_in m.reading.items ≡ map token_told (read_replies_of os) ++ reads =
    taken old.intake.reading.items m.reading.items reply.token r.taken (map token_told (read_replies_of os) ++ reads) r.takes.first e.read in
    let there : Awaits os requests reads m =
    record { logged = ap (λ (i : Intake). tokens_in i.waiting.items) r.takes.rest ∙ e.logged; read = left } in
    through requests reads old.intake h.0.intake new.intake (ap (λ (i : Intake). i.core) same ∙ ap (λ (i : Intake). i.core) r.takes.rest)
    (delivered os h.0 new h.1 after requests reads h.3 (awaits_same os requests reads m h.0.intake same there))

-- ---- requests add questions

entered : (operation : Operation) (q : Question) (old new : Intake) → EntersLog operation q old new → IsAligned old → IsAligned new
entered operation q old new h e =
    let r : Request = record { token = q.token; since = old.core.clock; operation = operation } in
    let proposed : List Token = map (λ (p : Proposal). p.token) old.core.requests.proposed in
    record {
      requests =
          ap (map token_of) h.waits
          ∙ map-append token_of old.waiting.items (q ∷ [])
          ∙ ap (λ (ts : List Token). ts ++ q.token ∷ []) e.requests
          ∙ append_assoc proposed (map (λ (x : Request). x.token) old.core.requests.waiting) (q.token ∷ [])
          ∙ ap (λ (ts : List Token). proposed ++ ts) (sym (map-append (λ (x : Request). x.token) old.core.requests.waiting (r ∷ [])))
          ∙ ap (λ (v : Core). tokens_of v.requests) (sym h.admits);
      reads = ap (λ (i : Intake). tokens_in i.reading.items) h.rest ∙ e.reads ∙ ap (λ (v : Core). read_tokens v.reads) (sym h.admits);
    }

asked_round : (q : Question) (old new : Intake) → AsksRound q old new → IsAligned old → IsAligned new
asked_round q old new h e =
    let r : Reader = record { token = q.token; since = old.core.clock } in
    record {
      requests = ap (λ (i : Intake). tokens_in i.waiting.items) h.rest ∙ e.requests ∙ ap (λ (v : Core). tokens_of v.requests) (sym h.admits);
      reads =
          ap (map token_of) h.waits
          ∙ map-append token_of old.reading.items (q ∷ [])
          ∙ ap (λ (ts : List Token). ts ++ q.token ∷ []) e.reads
          ∙ sym (map-append (λ (x : Reader). x.token) old.core.reads.readers (r ∷ []))
          ∙ ap (λ (v : Core). read_tokens v.reads) (sym h.admits);
    }

by_way : (way : Way) (q : Question) (old new : Intake) → AdmitsBy way q old new → IsAligned old → IsAligned new
by_way (Entry operation) q old new h e = entered operation q old new h e
by_way Round q old new h e = asked_round q old new h e

-- intakes with the same questions and the same server
kept : (old new : Intake) → new ≡ old → IsAligned old → IsAligned new
kept old new same e = subst IsAligned (sym same) e

admitted : (client : ℕ) (asked : Asked) (is_alone : Bool) (old new : Intake) → Admitted client asked is_alone old new → IsAligned old → IsAligned new
admitted client asked is_alone old new h e =
    let there : IsAligned h.middle = by_way _ _ old h.middle h.goes e in
    kept _ new h.rest (record { requests = there.requests; reads = there.reads })

asks_or_answers : (client : ℕ) (asked : Asked) (clients clients' : Clients) (old new : Intake) → AsksOrAnswers client asked clients old clients' new
    → IsAligned old → IsAligned new
asks_or_answers client asked clients clients' old new h e = elim h [
  | inl a ↦ admitted client asked _ old new a.1 e
  | inr r ↦ kept old new r.1.same e
]

does : (came : Step) (client : ℕ) (clients : Clients) (old new : Front) → Does client came clients old new → IsAligned old.intake
    → IsAligned new.intake
does step_is.Answered client clients old new h e = kept old.intake new.intake (ap (λ (f : Front). f.intake) h) e
does (step_is.Asks asked) client clients old new h e = asks_or_answers client asked clients new.clients old.intake new.intake h.0 e
does step_is.Waits client clients old new h e = kept old.intake new.intake h.1 e

rounds : (n client : ℕ) (old new : Front) → Rounds client n old new → IsAligned old.intake → IsAligned new.intake
rounds zero client old new h e = kept old.intake new.intake (ap (λ (f : Front). f.intake) h) e
rounds (suc n) client old new h e = does h.2.came client h.2.stepped h.0 new h.2.does (rounds n client old h.0 h.1 e)

served : (client : ℕ) (old new : Clients) (i j : Intake) (before after : List Output) → Serves client old i before new j after → IsAligned i
    → IsAligned j
served client old new i j before after h e = rounds h.count client (front old i []) (front h.served j h.sent) h.rounds e

served_all : (cs : List ℕ) (old new : Clients) (i j : Intake) (before after : List Output) → ServesAll cs old i before new j after → IsAligned i
    → IsAligned j
served_all [] old new i j before after h e = kept i j h.1 e
served_all (c ∷ cs) old new i j before after h e = served_all cs h.0 new h.1 j h.2 after h.4 (served c old h.0 i h.1 before h.2 h.3 e)

called : (R : Core → List CoreOutput → Core → Type 0)
    → (ClientsAreAnsweredOnce application state → (a b : Core) (out : List CoreOutput) → R a out b → AnswersOnce a out b)
    → (ReadsAreAnsweredOnce application state → (a b : Core) (out : List CoreOutput) → R a out b → AnswersReads a out b)
    → (old new : Service) (outputs : List Output) → Calls R old new outputs → KeepsAligned old new
called R once reads_once old new outputs h clients reads e =
    let m = h.handles in
    let v : Core = h.server in
    let awaits : Awaits h.out (tokens_of v.requests) (read_tokens v.reads) (with_core old v).intake = record {
      logged = e.requests ∙ once clients old.intake.core v h.out h.called;
      read = e.reads ∙ reads_once reads old.intake.core v h.out h.called;
    } in
    let d = delivered h.out (with_core old v) m.middle [] m.so_far (tokens_of v.requests) (read_tokens v.reads) m.delivers awaits in
    served_all m.finishes.answered m.middle.clients new.clients (at_moment m.middle).intake new.intake m.so_far outputs m.finishes.serves
    (record {
      requests = d.logged ∙ ap (λ (u : Core). tokens_of u.requests) (sym d.core);
      reads = d.read ∙ ap (λ (u : Core). read_tokens u.reads) (sym d.core);
    })

pub questions : QuestionsWaitForReplies
questions = record {
  opens = λ settings log opened h. record {
    requests =
        let none : tokens_in opened.service.intake.waiting.items ≡ [] = ap (map token_of) h.intake.waiting in
        none ∙ ap tokens_of (sym h.begins.requests) ∙ ap (λ (v : Core). tokens_of v.requests) (sym h.intake.server);
    reads =
        let none : tokens_in opened.service.intake.reading.items ≡ [] = ap (map token_of) h.intake.reading in
        none ∙ ap read_tokens (sym h.begins.reads) ∙ ap (λ (v : Core). read_tokens v.reads) (sym h.intake.server);
  };
  ticks = called (Ticks application) (λ once a b out r. once.ticks a b out r) (λ once a b out r. once.ticks a b out r);
  receives = λ bytes.
      called (Receives application state bytes) (λ once a b out r. once.receives bytes a b out r) (λ once a b out r. once.receives bytes a b out r);
  writes = called (Writes application state) (λ once a b out r. once.writes a b out r) (λ once a b out r. once.writes a b out r);
  releases = λ position.
      called (Releases application state position) (λ once a b out r. once.releases position a b out r)
      (λ once a b out r. once.releases position a b out r);
  feeds = λ client bytes old new count outputs h clients reads e. served client h.fed new.clients old.intake new.intake [] outputs h.serves e;
}
