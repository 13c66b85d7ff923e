-- A client's requests keep their order.
use Rattle.std.proofs.Common.{ℕ, zero, suc, ◌≡◌, ◌+◌, ◌≤◌, ◌<◌, ◌&&◌, Bool, true, false, inl, inr, List, [], ◌∷◌, ◌++◌, length, Option, Some, None, Result, Ok, Err, arith, refl, sym, ap, subst, ◌∙◌}
use Rattle.std.specs.Prelude.{nat_eq, unwrap_or, if◌then◌else◌}
use Rattle.std.specs.BTreeMap.{is_at}
use Rattle.std.specs.List.{list_any}
use Rattle.std.specs.BTreeSet.{BTreeSet, contains}
use Rattle.std.specs.Ordering.{MatchOrdering, is_eq, nat_cmp}
use Rattle.std.specs.declared.cmp.Ordering.{Ordering}
use Rattle.std.specs.declared.cmp.Ordering.TheVariants.{Less, Equal, Greater}
use Rattle.std.proofs.lemmas.Bool.{cases_eq, eq-eqb, eqb-true}
use Rattle.std.proofs.lemmas.Bool.Decides.{eqb_tells}
use Rattle.std.proofs.lemmas.Cmp.{ranked}
use Rattle.std.proofs.lemmas.Option.{none-some}
use Rattle.raft_answers.specs.declared.answer.Answer as raft_answer
use Rattle.raft_answers.specs.declared.answer.Reply.{Reply}
use Rattle.raft_answers.specs.declared.request.Operation.{Operation}
use Rattle.raft_answers.specs.declared.request.Token.{Token}
use Rattle.raft_clients.specs.Clients.{Changes, ChangesAt, Connects, Disconnects, Puts, ThroughAt, connection_at, given, is_alone_at, is_alone_in, is_closing_at}
use Rattle.raft_clients.specs.declared.clients.Clients.{Clients}
use Rattle.raft_connection.proofs.Counted.{Counts, answered_counts, count_push, none_before, step_counts, taken_counts}
use Rattle.raft_connection.specs.Connection.{answered, is_alone, opened, receive, step, taken}
use Rattle.raft_connection.specs.Pending.{waiting_count}
use Rattle.raft_connection.specs.declared.answer.Answer as client_answer
use Rattle.raft_connection.specs.declared.answer.AnswerError.{AnswerError}
use Rattle.raft_connection.specs.declared.connection.Asked.{Asked}
use Rattle.raft_connection.specs.declared.connection.Connection.{Connection}
use Rattle.raft_connection.specs.declared.connection.Step.{Step}
use Rattle.raft_connection.specs.declared.connection.Step.TheVariants as step_is
use Rattle.raft_connection.specs.declared.limits.Settings.{Settings}
use Rattle.raft_connection.specs.declared.pending.Slot.{Slot}
use Rattle.raft_connection.specs.declared.pending.Slot.TheVariants as slot
use Rattle.raft_connection.specs.declared.pending.Waiting.{Waiting}
use Rattle.raft_connection.specs.declared.session.Work.{Work}
use Rattle.raft_connection.specs.declared.session.Work.TheVariants as work
use Rattle.raft_core.specs.Calls.{Receives, Releases, Ticks, Writes}
use Rattle.raft_core.specs.raft_peers.declared.output.Output.TheVariants as core
use Rattle.raft_executor.specs.KeyValue.{application}
use Rattle.raft_machine.specs.Bytes.{state}
use Rattle.raft_service.specs.Calls.{Calls, Feeds, Joins, Leaves, Opens, at_moment, with_core}
use Rattle.raft_executor.specs.Executor.{executed_of}
use Rattle.raft_service.specs.Core.{Core, CoreOutput}
use Rattle.raft_service.specs.Delivering.{AnswersIf, answer_to, DeliversAll, Replied}
use Rattle.raft_service.specs.Intake.{Admitted, AdmitsBy, AsksRound, EntersLog, FreesFirst, TakesFirst, TakesFirstOf, TakesRead, goes_by_round, is_reading, plan_for, question_of, with_token}
use Rattle.raft_service.specs.Laws.{IsInOrder, KeepsOrder, ReadsAlone, ReadsIf, RequestsKeepTheirOrder, count_of_client, logged, read, under_way}
use Rattle.raft_service.specs.Plans.{planned}
use Rattle.raft_service.specs.Serving.{AsksOrAnswers, ClosesIf, Does, Front, Round, Rounds, Serves, ServesAll, StepsIf, front}
use Rattle.raft_service.specs.declared.intake.Intake.{Intake}
use Rattle.raft_service.specs.declared.output.Output.{Output}
use Rattle.raft_service.specs.declared.question.Question.{Question}
use Rattle.raft_service.specs.declared.service.OpenedService.{OpenedService}
use Rattle.raft_service.specs.declared.service.Service.{Service}
use Rattle.raft_service.specs.declared.settings.Settings.{Settings as Setup}

-- ---- numbers

at_most : (n m : ℕ) → n ≡ m → n ≤ m
at_most n m e = omega arith

at_once : (a b c : ℕ) → a ≤ b → b ≤ c → a ≤ c
at_once a b c l m = omega arith

none_under : (a b : ℕ) → a ≤ b → b ≡ 0 → a ≡ 0
none_under a b l e = omega arith

none_left : (a b : ℕ) → a + b ≡ 0 → a ≡ 0
none_left a b e = omega arith

none_right : (a b : ℕ) → a + b ≡ 0 → b ≡ 0
none_right a b e = omega arith

one_less : (a b : ℕ) → a + 1 ≤ b → b ≤ 1 → a ≡ 0
one_less a b l m = omega arith

add_left : (a b c : ℕ) → a ≤ b → a + c ≤ b + c
add_left a b c l = omega arith

add_right : (a b c : ℕ) → a ≤ b → c + a ≤ c + b
add_right a b c l = omega arith

more_left : (a b c : ℕ) → a + 1 ≤ b → a + c + 1 ≤ b + c
more_left a b c l = omega arith

more_right : (a b c : ℕ) → a + 1 ≤ b → c + a + 1 ≤ c + b
more_right a b c l = omega arith

still : (a b c d : ℕ) → a + 1 ≤ b → b ≤ c → c ≤ 1 + d → a ≤ d
still a b c d l m n = omega arith

-- ---- clients are equal or not

apart : (a b : ℕ) → (a ≡ b → ⊥) → is_at (nat_cmp a) b ≡ false
apart a b ne = go (nat_cmp a b) (ranked a b (nat_cmp a b) refl)
  where
    go : (r : Ordering) → MatchOrdering r (a < b) (a ≡ b) (b < a) → is_eq r ≡ false
    go Less h = refl
    go Equal h = absurd (ne h)
    go Greater h = refl

not_equal : (a b : ℕ) → (a ≡ b → ⊥) → nat_eq b a ≡ false
not_equal a b ne = elim (eqb_tells b a) [ inl p ↦ absurd (ne (sym p.1)) | inr p ↦ p.0 ]

both_hold : (a b : Bool) → (a && b) ≡ true → a ≡ true
both_hold true b h = refl
both_hold false b h = h

-- ---- how many questions are a client's

plus_assoc : (a b c d : ℕ) → d ≡ b + c → a + d ≡ a + b + c
plus_assoc a b c d e = omega arith

zero_first : (n : ℕ) → 0 + n ≡ n
zero_first n = omega arith

count_more : (client : ℕ) (qs : List Question) (q : Question)
    → count_of_client client (qs ++ q ∷ []) ≡ count_of_client client qs + count_of_client client (q ∷ [])
count_more client [] q = sym (zero_first _)
count_more client (p ∷ qs) q =
    plus_assoc (if nat_eq p.client client then 1 else 0) (count_of_client client qs) (count_of_client client (q ∷ [])) _ (count_more client qs q)

count_own : (client : ℕ) (q : Question) → q.client ≡ client → count_of_client client (q ∷ []) ≡ 1
count_own client q e = ap (λ (b : Bool). (if b then 1 else 0) + 0) (eq-eqb q.client client e)

count_other : (client : ℕ) (q : Question) → (q.client ≡ client → ⊥) → count_of_client client (q ∷ []) ≡ 0
count_other client q ne = ap (λ (b : Bool). (if b then 1 else 0) + 0) (not_equal client q.client (λ e. ne (sym e)))

-- ---- clients whose questions stay

pub record Same (s t : Intake) (client : ℕ) : Type 0 where
  pub reading_same : is_reading t client ≡ is_reading s client
  pub logged_same : logged t client ≡ logged s client
  pub read_same : read t client ≡ read s client

reads_same : (b : Bool) (s t : Intake) (client : ℕ) → logged t client ≤ logged s client → read t client ≡ read s client → ReadsIf b s client
    → ReadsIf b t client
reads_same true s t client l e h = record { one_read = e ∙ h.one_read; none_logged = none_under _ _ l h.none_logged }
reads_same false s t client l e h = e ∙ h

order_same : (s t : Intake) (client : ℕ) → is_reading t client ≡ is_reading s client → logged t client ≤ logged s client
    → read t client ≡ read s client
    → ReadsIf (is_reading s client) s client → ReadsIf (is_reading t client) t client
order_same s t client r l e h = subst (λ (b : Bool). ReadsIf b t client) (sym r) (reads_same (is_reading s client) s t client l e h)

under_way_same : (s t : Intake) (client : ℕ) → Same s t client → under_way t client ≡ under_way s client
under_way_same s t client h = ap (λ n. n + read t client) h.logged_same ∙ ap (λ n. logged s client + n) h.read_same

-- fewer questions are under way
fewer : (cs : Clients) (s t : Intake) → ((client : ℕ) → under_way t client ≤ under_way s client)
    → ((client : ℕ) → ReadsIf (is_reading t client) t client) → IsInOrder cs s → IsInOrder cs t
fewer cs s t less order h = record {
  order = order;
  waits = λ client c e. at_once _ _ _ (less client) (h.waits client c e);
  comes = λ client l. ((h.comes client l).0, none_under _ _ (less client) (h.comes client l).1);
}

-- the same questions
alike : (cs : Clients) (s t : Intake) → ((client : ℕ) → Same s t client) → IsInOrder cs s → IsInOrder cs t
alike cs s t same h =
    fewer cs s t (λ k. at_most _ _ (under_way_same s t k (same k)))
    (λ k. order_same s t k (same k).reading_same (at_most _ _ (same k).logged_same) (same k).read_same (h.order k)) h

-- more of one client are, and its connection waits for them
grown : (client : ℕ) (c : Connection) (cs : Clients) (s t : Intake) → connection_at cs client ≡ Some c
    → under_way t client ≤ waiting_count c.pending.slots
    → ((other : ℕ) → (client ≡ other → ⊥) → Same s t other) → ReadsIf (is_reading t client) t client → IsInOrder cs s → IsInOrder cs t
grown client c cs s t at fits others mine h = record {
  order = λ other. elim (cases_eq client other) [
    | inl e ↦ subst (λ (k : ℕ). ReadsIf (is_reading t k) t k) e mine
    | inr ne ↦ let o = others other ne in order_same s t other o.reading_same (at_most _ _ o.logged_same) o.read_same (h.order other)
  ];
  waits = λ other d there. elim (cases_eq client other) [
    | inl e ↦
        let both : Some c ≡ Some d = sym at ∙ (ap (connection_at cs) e ∙ there) in
        let same : c ≡ d = ap (λ (o : Option Connection). unwrap_or o c) both in
        let there : under_way t client ≤ waiting_count d.pending.slots =
        subst (λ (x : Connection). under_way t client ≤ waiting_count x.pending.slots) same fits in
        subst (λ (k : ℕ). under_way t k ≤ waiting_count d.pending.slots) e there
    | inr ne ↦ at_once _ _ _ (at_most _ _ (under_way_same s t other (others other ne))) (h.waits other d there)
  ];
  comes = λ other l. (
    (h.comes other l).0,
    elim (cases_eq client other) [
      | inl e ↦ absurd (none-some c (sym (h.comes other l).0 ∙ (sym (ap (connection_at cs) e) ∙ at)))
      | inr ne ↦ under_way_same s t other (others other ne) ∙ (h.comes other l).1
    ],
  );
}

-- ---- connections change

-- a client's connection is put, which waits for all that are under way
put : (client : ℕ) (c d : Connection) (cs cs' : Clients) (s : Intake) → connection_at cs client ≡ Some c → Puts client (Some d) cs cs'
    → under_way s client ≤ waiting_count d.pending.slots → IsInOrder cs s → IsInOrder cs' s
put client c d cs cs' s at p fits h = record {
  order = h.order;
  waits = λ other x there. elim (cases_eq client other) [
    | inl e ↦
        let both : Some d ≡ Some x = sym p.at ∙ (ap (connection_at cs') e ∙ there) in
        let same : d ≡ x = ap (λ (o : Option Connection). unwrap_or o d) both in
        let there : under_way s client ≤ waiting_count x.pending.slots =
        subst (λ (y : Connection). under_way s client ≤ waiting_count y.pending.slots) same fits in
        subst (λ (k : ℕ). under_way s k ≤ waiting_count x.pending.slots) e there
    | inr ne ↦ h.waits other x (sym (p.others other (apart client other ne)) ∙ there)
  ];
  comes = λ other l.
      let before = h.comes other (subst (λ (n : ℕ). n ≤ other) (ap (λ (x : Clients). x.next) p.rest) l) in (
        elim (cases_eq client other) [
          | inl e ↦ absurd (none-some c (sym before.0 ∙ (sym (ap (connection_at cs) e) ∙ at)))
          | inr ne ↦ p.others other (apart client other ne) ∙ before.0
        ],
        before.1,
      );
}

-- a client's connection goes
gone : (client : ℕ) (cs cs' : Clients) (s : Intake) → Disconnects client cs cs' → IsInOrder cs s → IsInOrder cs' s
gone client cs cs' s p h = record {
  order = h.order;
  waits = λ other x there. elim (cases_eq client other) [
    | inl e ↦ absurd (none-some x (sym p.at ∙ (ap (connection_at cs') e ∙ there)))
    | inr ne ↦ h.waits other x (sym (p.others other (apart client other ne)) ∙ there)
  ];
  comes = λ other l.
      let before = h.comes other (subst (λ (n : ℕ). n ≤ other) (ap (λ (x : Clients). x.next) p.rest) l) in (
        elim (cases_eq client other) [
          | inl e ↦ sym (ap (connection_at cs') e) ∙ p.at
          | inr ne ↦ p.others other (apart client other ne) ∙ before.0
        ],
        before.1,
      );
}

-- one that is there changes so that it waits for all that are under way
changed : (client : ℕ) (f : Connection → Connection) (cs cs' : Clients) (s : Intake) → Changes client f cs cs'
    → ((c : Connection) → connection_at cs client ≡ Some c → under_way s client ≤ waiting_count (f c).pending.slots) → IsInOrder cs s
    → IsInOrder cs' s
changed client f cs cs' s h fits order = go (connection_at cs client) refl h
  where
    go : (o : Option Connection) → connection_at cs client ≡ o → ChangesAt o client f cs cs' → IsInOrder cs' s
    go None e same = subst (λ (x : Clients). IsInOrder x s) (sym same) order
    go (Some c) e p = put client c (f c) cs cs' s e p (fits c e) order

-- an answer is one request's, or none's
given_counts : (c : Connection) (number : ℕ) (answer : client_answer.Answer)
    → waiting_count c.pending.slots ≤ 1 + waiting_count (given c (answered c number answer)).pending.slots
given_counts c number answer = go (answered c number answer) refl
  where
    more : (n : ℕ) → n ≤ 1 + n
    more n = omega arith

    go : (r : Result Connection AnswerError) → answered c number answer ≡ r
        → waiting_count c.pending.slots ≤ 1 + waiting_count (given c r).pending.slots
    go (Ok after) e = answered_counts c number answer after e
    go (Err x) e = more _

-- ---- replies take questions

-- the first question goes
left_counts : (qs left : List Question) (token : Token) (q : Option Question) (client : ℕ) → TakesFirstOf qs token left q
    → count_of_client client left ≤ count_of_client client qs
left_counts [] left token q client h = at_most _ _ (ap (count_of_client client) h.1)
left_counts (p ∷ qs) left token q client h = less (if nat_eq p.client client then 1 else 0) _ _ (ap (count_of_client client) h.1)
  where
    less : (w a b : ℕ) → a ≡ b → a ≤ w + b
    less w a b e = omega arith

-- that of its own client
own_counts : (p : Question) (qs left : List Question) → left ≡ qs → count_of_client p.client left + 1 ≤ count_of_client p.client (p ∷ qs)
own_counts p qs left e =
    less (if nat_eq p.client p.client then 1 else 0) _ _
    (ap (λ (b : Bool). if b then 1 else 0) (eq-eqb p.client p.client refl)) (ap (count_of_client p.client) e)
  where
    less : (w a b : ℕ) → w ≡ 1 → a ≡ b → a + 1 ≤ w + b
    less w a b h e = omega arith

with_is : (b : Bool) (p q : Question) → Some p ≡ (if b then Some q else None) → q ≡ p
with_is true p q h = ap (λ (o : Option Question). unwrap_or o q) (sym h)
with_is false p q h = absurd (none-some p (sym h))

taken_counts_less : (qs left : List Question) (token : Token) (p : Question) → TakesFirstOf qs token left (Some p)
    → count_of_client p.client left + 1 ≤ count_of_client p.client qs
taken_counts_less [] left token p h = absurd (none-some p (sym h.0))
taken_counts_less (q ∷ qs) left token p h =
    let same : q ≡ p = with_is (nat_eq q.token.0 token.0) p q h.0 in
    subst (λ (x : Question). count_of_client x.client left + 1 ≤ count_of_client x.client (q ∷ qs)) same (own_counts q qs left h.1)

-- what a reply makes of the questions
pub record Took (s t : Intake) (taken_now : Option Question) : Type 0 where
  pub keeps : (cs : Clients) → IsInOrder cs s → IsInOrder cs t
  pub less : (p : Question) → taken_now ≡ Some p → under_way t p.client + 1 ≤ under_way s p.client

took_first : (token : Token) (s t : Intake) (q : Option Question) → TakesFirst token s t q → Took s t q
took_first token s t q h =
    let reading_same : (k : ℕ) → is_reading t k ≡ is_reading s k = λ k. ap (λ (i : Intake). is_reading i k) h.rest in
    let read_same : (k : ℕ) → read t k ≡ read s k = λ k. ap (λ (i : Intake). read i k) h.rest in
    let logged_less : (k : ℕ) → logged t k ≤ logged s k = λ k. left_counts s.waiting.items t.waiting.items token q k h.first in
    record {
      keeps = λ cs order.
          fewer cs s t (λ k. at_once _ _ _ (add_left _ _ (read t k) (logged_less k)) (at_most _ _ (ap (λ n. logged s k + n) (read_same k))))
          (λ k. order_same s t k (reading_same k) (logged_less k) (read_same k) (order.order k)) order;
      less = λ p e.
          let first : TakesFirstOf s.waiting.items token t.waiting.items (Some p) =
          subst (λ (x : Option Question). TakesFirstOf s.waiting.items token t.waiting.items x) e h.first in
          let one_less_left : count_of_client p.client t.waiting.items + 1 ≤ count_of_client p.client s.waiting.items =
          taken_counts_less s.waiting.items t.waiting.items token p first in
          at_once _ _ _ (more_left _ _ (read t p.client) one_less_left) (at_most _ _ (ap (λ n. logged s p.client + n) (read_same p.client)));
    }

one_at_most : (b : Bool) (s : Intake) (client : ℕ) → ReadsIf b s client → read s client ≤ 1
one_at_most true s client h = at_most _ _ h.one_read
one_at_most false s client h = below (read s client) h
  where
    below : (n : ℕ) → n ≡ 0 → n ≤ 1
    below n e = omega arith

none_read_now : (b : Bool) (s : Intake) (client : ℕ) → b ≡ false → read s client ≡ 0 → ReadsIf b s client
none_read_now b s client e h = subst (λ (x : Bool). ReadsIf x s client) (sym e) h

took_read : (token : Token) (s t : Intake) (q : Option Question) → TakesRead token s t q → Took s t q
took_read token s t q h =
    let logged_same : (k : ℕ) → logged t k ≡ logged s k = λ k. ap (λ (i : Intake). logged i k) h.rest in
    let read_less : (k : ℕ) → read t k ≤ read s k = λ k. left_counts s.reading.items t.reading.items token q k h.first in
    record {
      keeps = λ cs order.
          fewer cs s t (λ k. at_once _ _ _ (add_right _ _ (logged t k) (read_less k)) (at_most _ _ (ap (λ n. n + read s k) (logged_same k))))
          (λ k. freed s.reading.items t.reading.items h.first h.frees refl refl k (order.order k)) order;
      less = λ p e.
          let first : TakesFirstOf s.reading.items token t.reading.items (Some p) =
          subst (λ (x : Option Question). TakesFirstOf s.reading.items token t.reading.items x) e h.first in
          let one_less_left : count_of_client p.client t.reading.items + 1 ≤ count_of_client p.client s.reading.items =
          taken_counts_less s.reading.items t.reading.items token p first in
          at_once _ _ _ (more_right _ _ (logged t p.client) one_less_left) (at_most _ _ (ap (λ n. n + read s p.client) (logged_same p.client)));
    }
  where
    freed : (qs left : List Question) → TakesFirstOf qs token left q → FreesFirst qs s.readers t.readers → s.reading.items ≡ qs
        → t.reading.items ≡ left
        → (k : ℕ) → ReadsIf (is_reading s k) s k → ReadsIf (is_reading t k) t k
    freed [] left first frees was is k o =
        let none : read t k ≡ read s k = ap (count_of_client k) (is ∙ (first.1 ∙ sym was)) in
        order_same s t k (ap (λ (x : BTreeSet ℕ). contains nat_cmp x k) frees) (at_most _ _ (ap (λ (i : Intake). logged i k) h.rest)) none o
    freed (p ∷ qs) left first frees was is k o = elim (cases_eq p.client k) [
      | inl e ↦
          let less : count_of_client p.client left + 1 ≤ count_of_client p.client (p ∷ qs) = own_counts p qs left first.1 in
          let less_of_k : count_of_client k left + 1 ≤ count_of_client k (p ∷ qs) =
          subst (λ (j : ℕ). count_of_client j left + 1 ≤ count_of_client j (p ∷ qs)) e less in
          let less_there : read t k + 1 ≤ read s k =
          subst (λ (xs : List Question). read t k + 1 ≤ count_of_client k xs) (sym was)
          (subst (λ (xs : List Question). count_of_client k xs + 1 ≤ count_of_client k (p ∷ qs)) (sym is) less_of_k) in
          none_read_now (is_reading t k) t k (sym (ap (λ (j : ℕ). contains nat_cmp t.readers j) e) ∙ frees.1)
          (one_less _ _ less_there (one_at_most (is_reading s k) s k o))
      | inr ne ↦
          let not_its : count_of_client k (p ∷ qs) ≡ count_of_client k qs =
          ap (λ (b : Bool). (if b then 1 else 0) + count_of_client k qs) (not_equal k p.client (λ e. ne (sym e))) ∙ zero_first _ in
          let same : read t k ≡ read s k = ap (count_of_client k) (is ∙ first.1) ∙ (sym not_its ∙ ap (count_of_client k) (sym was)) in
          order_same s t k (frees.2 k (apart p.client k ne)) (at_most _ _ (ap (λ (i : Intake). logged i k) h.rest)) same o
    ]

-- the question that was taken is answered
answered_if : (q : Option Question) (a : raft_answer.Answer) (m new : Service) → AnswersIf q a m new
    → ((p : Question) → q ≡ Some p → (c : Connection) → connection_at m.clients p.client ≡ Some c
    → under_way m.intake p.client + 1 ≤ waiting_count c.pending.slots)
    → IsInOrder m.clients m.intake → IsInOrder new.clients new.intake
answered_if None a m new h spare order = subst (λ (s : Service). IsInOrder s.clients s.intake) (sym h) order
answered_if (Some p) a m new h spare order =
    let x : client_answer.Answer = answer_to m.intake.addresses (executed_of m.executor) p.wanted a in
    let there : IsInOrder new.clients m.intake =
    changed p.client (λ c. given c (answered c p.number x)) m.clients new.clients m.intake h.clients
    (λ c e. still _ _ _ _ (spare p refl c e) (at_most _ _ refl) (given_counts c p.number x)) order in
    subst (λ (i : Intake). IsInOrder new.clients i) (sym (ap (λ (s : Service). s.intake) h.rest)) there

replied : (Takes : Token → Intake → Intake → Option Question → Type 0)
    → ((token : Token) (s t : Intake) (q : Option Question) → Takes token s t q → Took s t q)
    → (reply : Reply) (old new : Service) → Replied Takes reply old new → KeepsOrder old new
replied Takes took reply old new r order =
    let m : Service = r.middle in
    let w : Took old.intake m.intake r.taken = took reply.token old.intake m.intake r.taken r.takes in
    let same : m.clients ≡ old.clients = ap (λ (s : Service). s.clients) r.rest in
    let there : IsInOrder m.clients m.intake = subst (λ (cs : Clients). IsInOrder cs m.intake) (sym same) (w.keeps old.clients order) in
    answered_if r.taken reply.answer m new r.answered
    (λ p e c at. at_once _ _ _ (w.less p e) (order.waits p.client c (ap (λ (cs : Clients). connection_at cs p.client) (sym same) ∙ at))) there

delivered : (out : List CoreOutput) (old new : Service) (before after : List Output) → DeliversAll out old before new after
    → KeepsOrder old new
delivered [] old new before after h order = subst (λ (s : Service). IsInOrder s.clients s.intake) (sym h.0) order
delivered (core.Send to bytes ∷ os) old new before after h order =
    delivered os h.0 new h.1 after h.3 (subst (λ (s : Service). IsInOrder s.clients s.intake) (sym h.2.0) order)
delivered (core.Append bytes end next ∷ os) old new before after h order =
    delivered os h.0 new h.1 after h.3 (subst (λ (s : Service). IsInOrder s.clients s.intake) (sym h.2.0) order)
delivered (core.Install entries ∷ os) old new before after h order =
    delivered os h.0 new h.1 after h.3 (subst (λ (s : Service). IsInOrder s.clients s.intake) (sym h.2.0.rest) order)
delivered (core.Execute entry ∷ os) old new before after h order =
    delivered os h.0 new h.1 after h.3 (subst (λ (s : Service). IsInOrder s.clients s.intake) (sym h.2.0.rest) order)
delivered (core.Reply reply ∷ os) old new before after h order =
    delivered os h.0 new h.1 after h.3 (replied TakesFirst took_first reply old h.0 h.2.0 order)
delivered (core.Read reply ∷ os) old new before after h order =
    delivered os h.0 new h.1 after h.3 (replied TakesRead took_read reply old h.0 h.2.0 order)

-- ---- requests add questions

-- with a place for one more question of a client at its connection
entered : (client : ℕ) (c : Connection) (cs : Clients) (operation : Operation) (q : Question) (s t : Intake) → q.client ≡ client
    → EntersLog operation q s t
    → connection_at cs client ≡ Some c → under_way s client + 1 ≤ waiting_count c.pending.slots → is_reading s client ≡ false → IsInOrder cs s
    → IsInOrder cs t
entered client c cs operation q s t own h at fits idle order =
    let reading_same : (k : ℕ) → is_reading t k ≡ is_reading s k = λ k. ap (λ (i : Intake). is_reading i k) h.rest in
    let read_same : (k : ℕ) → read t k ≡ read s k = λ k. ap (λ (i : Intake). read i k) h.rest in
    let logged_more : (k : ℕ) → logged t k ≡ logged s k + count_of_client k (q ∷ []) =
    λ k. ap (count_of_client k) h.waits ∙ count_more k s.waiting.items q in
    let none_read : read s client ≡ 0 = subst (λ (b : Bool). ReadsIf b s client) idle (order.order client) in
    grown client c cs s t at (more _ _ _ _ _ _ (logged_more client) (count_own client q own) (read_same client) fits)
    (λ k ne. record {
      reading_same = reading_same k;
      logged_same = logged_more k ∙ plus_none _ _ (count_other k q (λ e. ne (sym own ∙ e)));
      read_same = read_same k;
    })
    (none_read_now (is_reading t client) t client (reading_same client ∙ idle) (read_same client ∙ none_read)) order
  where
    more : (l l' w r r' n : ℕ) → l' ≡ l + w → w ≡ 1 → r' ≡ r → l + r + 1 ≤ n → l' + r' ≤ n
    more l l' w r r' n a b d e = omega arith

    plus_none : (n w : ℕ) → w ≡ 0 → n + w ≡ n
    plus_none n w e = omega arith

-- a client has no other request under way
asked_round : (client : ℕ) (c : Connection) (cs : Clients) (q : Question) (s t : Intake) → q.client ≡ client → AsksRound q s t
    → connection_at cs client ≡ Some c → 1 ≤ waiting_count c.pending.slots → under_way s client ≡ 0 → IsInOrder cs s → IsInOrder cs t
asked_round client c cs q s t own h at fits alone order =
    let logged_same : (k : ℕ) → logged t k ≡ logged s k = λ k. ap (λ (i : Intake). logged i k) h.rest in
    let read_more : (k : ℕ) → read t k ≡ read s k + count_of_client k (q ∷ []) =
    λ k. ap (count_of_client k) h.waits ∙ count_more k s.reading.items q in
    let now_read : read t client ≡ 1 = first _ _ _ (read_more client) (count_own client q own) (none_right _ _ alone) in
    let none_logged : logged t client ≡ 0 = logged_same client ∙ none_left _ _ alone in
    let reading_now : is_reading t client ≡ true = sym (ap (λ (k : ℕ). contains nat_cmp t.readers k) own) ∙ h.reads.1 in
    grown client c cs s t at (only _ _ _ none_logged now_read fits)
    (λ k ne. record {
      reading_same = h.reads.2 k (apart q.client k (λ e. ne (sym own ∙ e)));
      logged_same = logged_same k;
      read_same = read_more k ∙ plus_none _ _ (count_other k q (λ e. ne (sym own ∙ e)));
    })
    (subst (λ (b : Bool). ReadsIf b t client) (sym reading_now) (record { one_read = now_read; none_logged = none_logged })) order
  where
    first : (r r' w : ℕ) → r' ≡ r + w → w ≡ 1 → r ≡ 0 → r' ≡ 1
    first r r' w a b d = omega arith

    only : (l r n : ℕ) → l ≡ 0 → r ≡ 1 → 1 ≤ n → l + r ≤ n
    only l r n a b d = omega arith

    plus_none : (n w : ℕ) → w ≡ 0 → n + w ≡ n
    plus_none n w e = omega arith

-- what a connection hands out goes its way
admitted : (client : ℕ) (asked : Asked) (alone : Bool) (c : Connection) (cs : Clients) (s t : Intake) → Admitted client asked alone s t
    → connection_at cs client ≡ Some c → under_way s client + 1 ≤ waiting_count c.pending.slots → (alone ≡ true → under_way s client ≡ 0)
    → is_reading s client ≡ false
    → IsInOrder cs s → IsInOrder cs t
admitted client asked alone c cs s t h at fits none idle order =
    let q : Question = question_of s client asked alone in
    let there : IsInOrder cs h.middle = by_way asked.work (goes_by_round s alone) q refl refl h.goes in
    let after : Intake = record h.middle { next = t.next; told = (plan_for s asked alone).told } in
    subst (λ (i : Intake). IsInOrder cs i) (sym h.rest)
    (alike cs h.middle after (λ k. record { reading_same = refl; logged_same = refl; read_same = refl }) there)
  where
    some : (n m : ℕ) → n + 1 ≤ m → 1 ≤ m
    some n m l = omega arith

    by_way : (w : Work) (b : Bool) (q : Question) → q.client ≡ client → goes_by_round s alone ≡ b
        → AdmitsBy (planned s.time s.told b w).way q s h.middle → IsInOrder cs h.middle
    by_way (work.Query x) true q own e g = asked_round client c cs q s h.middle own g at (some _ _ fits) (none (both_hold alone _ e)) order
    by_way (work.Query x) false q own e g = entered client c cs _ q s h.middle own g at fits idle order
    by_way (work.Command session x) b q own e g = entered client c cs _ q s h.middle own g at fits idle order
    by_way (work.Transaction session xs) b q own e g = entered client c cs _ q s h.middle own g at fits idle order

-- ---- clients are served

alone_has_none : (client : ℕ) (cs : Clients) (d : Connection) (slots : List Slot) (w : Waiting) → connection_at cs client ≡ Some d
    → d.pending.slots ≡ slots ++ slot.Waits w ∷ []
    → is_alone_at cs client ≡ true → waiting_count slots ≡ 0
alone_has_none client cs d slots w at e alone =
    let there : is_alone d ≡ true = sym (ap is_alone_in at) ∙ alone in
    let one : length d.pending.slots ≡ 1 = eqb-true (length d.pending.slots) 1 (both_hold _ _ there) in
    none_before slots (slot.Waits w) (sym (ap (λ (ss : List Slot). length ss) e) ∙ one)

-- it waits, and sends
sends : (client : ℕ) (stepped : Clients) (old new : Front) → Does client step_is.Waits stepped old new → IsInOrder stepped old.intake
    → IsInOrder new.clients new.intake
sends client stepped old new h order =
    subst (λ (i : Intake). IsInOrder new.clients i) (sym h.1)
    (changed client taken stepped new.clients old.intake h.0
    (λ c e. at_once _ _ _ (order.waits client c e) (at_most _ _ (sym (taken_counts c.pending.first c.pending.slots)))) order)

-- A connection that took a step, and is put.
module _ (client : ℕ) (c d : Connection) (stepped : Clients) (old new : Front)
    (at : connection_at old.clients client ≡ Some c) (p : Puts client (Some d) old.clients stepped)
    (idle : is_reading old.intake client ≡ false) (order : IsInOrder old.clients old.intake) where
  -- it waits for no fewer
  put_back : waiting_count d.pending.slots ≡ waiting_count c.pending.slots → IsInOrder stepped old.intake
  put_back e = put client c d old.clients stepped old.intake at p (at_once _ _ _ (order.waits client c at) (at_most _ _ (sym e))) order

  one_more : (w : Waiting) → d.pending.slots ≡ c.pending.slots ++ slot.Waits w ∷ []
      → waiting_count d.pending.slots ≡ waiting_count c.pending.slots + 1
  one_more w e = ap waiting_count e ∙ count_push c.pending.slots (slot.Waits w)

  room_for_one : (n m k : ℕ) → n ≤ m → k ≡ m + 1 → n + 1 ≤ k
  room_for_one n m k l e = omega arith

  up_to : (n k : ℕ) → n + 1 ≤ k → n ≤ k
  up_to n k l = omega arith

  asks : (asked : Asked) (w : Waiting) → d.pending.slots ≡ c.pending.slots ++ slot.Waits w ∷ []
      → AsksOrAnswers client asked stepped old.intake new.clients new.intake
      → IsInOrder new.clients new.intake
  asks asked w e h =
      let fits : under_way old.intake client + 1 ≤ waiting_count d.pending.slots = room_for_one _ _ _ (order.waits client c at) (one_more w e) in
      let there : IsInOrder stepped old.intake = put client c d old.clients stepped old.intake at p (up_to _ _ fits) order in
      elim h [
        | inl a ↦
            subst (λ (cs : Clients). IsInOrder cs new.intake) (sym a.0)
            (admitted client asked (is_alone_at stepped client) d stepped old.intake new.intake a.1 p.at fits
            (λ alone. none_under _ _ (order.waits client c at) (alone_has_none client stepped d c.pending.slots w p.at e alone)) idle there)
        | inr a ↦
            subst (λ (i : Intake). IsInOrder new.clients i) (sym a.1.same)
            (changed client (λ x. given x (answered x asked.number a.0)) stepped new.clients old.intake a.2
            (λ x found.
            let both : Some d ≡ Some x = sym p.at ∙ found in
            let same : d ≡ x = ap (λ (o : Option Connection). unwrap_or o d) both in
            subst (λ (y : Connection). under_way old.intake client ≤ waiting_count (given y (answered y asked.number a.0)).pending.slots) same
            (still _ _ _ _ fits (at_most _ _ refl) (given_counts d asked.number a.0))) there)
      ]

  did : (came : Step) → Counts came c.pending.slots d.pending.slots → Does client came stepped old new → IsInOrder new.clients new.intake
  did step_is.Answered e h = subst (λ (f : Front). IsInOrder f.clients f.intake) (sym h) (put_back e)
  did step_is.Waits e h = sends client stepped old new h (put_back e)
  did (step_is.Asks asked) e h = asks asked e.0 e.1 h.0

round : (client : ℕ) (old new : Front) → Round client old new → IsInOrder old.clients old.intake → IsInOrder new.clients new.intake
round client old new r order = by_reading (is_reading old.intake client) refl r.steps
  where
    waited : r.came ≡ step_is.Waits → r.stepped ≡ old.clients → IsInOrder new.clients new.intake
    waited e same =
        sends client r.stepped old new (subst (λ (x : Step). Does client x r.stepped old new) e r.does)
        (subst (λ (cs : Clients). IsInOrder cs old.intake) (sym same) order)

    by_connection : (o : Option Connection) → is_reading old.intake client ≡ false → connection_at old.clients client ≡ o
        → ThroughAt o client (step old.clients.settings old.intake.time) step_is.Waits old.clients r.stepped r.came → IsInOrder new.clients new.intake
    by_connection None idle e h = waited h.0 h.1
    by_connection (Some c) idle e h =
        let n : Connection × Step = step old.clients.settings old.intake.time c in
        did client c n.0 r.stepped old new e h.1 idle order r.came
        (subst (λ (x : Step). Counts x c.pending.slots n.0.pending.slots) (sym h.0) (step_counts old.clients.settings old.intake.time c)) r.does

    by_reading : (b : Bool) → is_reading old.intake client ≡ b → StepsIf b client old.intake.time old.clients r.stepped r.came
        → IsInOrder new.clients new.intake
    by_reading true e h = waited h.0 h.1
    by_reading false e h = by_connection (connection_at old.clients client) e refl h

rounds : (n client : ℕ) (old new : Front) → Rounds client n old new → IsInOrder old.clients old.intake → IsInOrder new.clients new.intake
rounds zero client old new h order = subst (λ (f : Front). IsInOrder f.clients f.intake) (sym h) order
rounds (suc n) client old new h order = round client h.0 new h.2 (rounds n client old h.0 h.1 order)

closed : (b : Bool) (client : ℕ) (cs cs' : Clients) (s : Intake) (out : List Output) → ClosesIf b client cs cs' out → IsInOrder cs s → IsInOrder cs' s
closed false client cs cs' s out h order = subst (λ (x : Clients). IsInOrder x s) (sym h.0) order
closed true client cs cs' s out h order = gone client cs cs' s h.0 order

served : (client : ℕ) (old new : Clients) (i j : Intake) (before after : List Output) → Serves client old i before new j after → IsInOrder old i
    → IsInOrder new j
served client old new i j before after h order =
    closed (is_closing_at h.served client) client h.served new j h.closing h.closes
    (rounds h.count client (front old i []) (front h.served j h.sent) h.rounds order)

served_all : (clients : List ℕ) (old new : Clients) (i j : Intake) (before after : List Output) → ServesAll clients old i before new j after
    → IsInOrder old i → IsInOrder new j
served_all [] old new i j before after h order =
    subst (λ (cs : Clients). IsInOrder cs j) (sym h.0) (subst (λ (x : Intake). IsInOrder old x) (sym h.1) order)
served_all (c ∷ more) old new i j before after h order = served_all more h.0 new h.1 j h.2 after h.4 (served c old h.0 i h.1 before h.2 h.3 order)

-- ---- calls

called : (R : Core → List CoreOutput → Core → Type 0) (old new : Service) (outputs : List Output) → Calls R old new outputs
    → KeepsOrder old new
called R old new outputs h order =
    let m = h.handles in
    let begun : IsInOrder (with_core old h.server).clients (with_core old h.server).intake =
    alike old.clients old.intake (with_core old h.server).intake
    (λ k. record { reading_same = refl; logged_same = refl; read_same = refl }) order in
    let done : IsInOrder m.middle.clients m.middle.intake = delivered h.out (with_core old h.server) m.middle [] m.so_far m.delivers begun in
    served_all m.finishes.answered m.middle.clients new.clients (at_moment m.middle).intake new.intake m.so_far outputs m.finishes.serves
    (alike m.middle.clients m.middle.intake (at_moment m.middle).intake
    (λ k. record { reading_same = refl; logged_same = refl; read_same = refl }) done)

fed : (client : ℕ) (bytes : List ℕ) (old new : Service) (count : ℕ) (outputs : List Output) → Feeds client bytes old new count outputs
    → KeepsOrder old new
fed client bytes old new count outputs h order =
    served client h.fed new.clients old.intake new.intake [] outputs h.serves (go (connection_at old.clients client) refl h.takes)
  where
    go : (o : Option Connection) → connection_at old.clients client ≡ o
        → ThroughAt o client (λ c. receive old.clients.settings.limits c bytes) (length bytes) old.clients h.fed count → IsInOrder h.fed old.intake
    go None e x = subst (λ (cs : Clients). IsInOrder cs old.intake) (sym x.1) order
    go (Some c) e x = put client c (receive old.clients.settings.limits c bytes).0 old.clients h.fed old.intake e x.1 (order.waits client c e) order

joined : (client : ℕ) (cs cs' : Clients) (s : Intake) → Connects client cs cs' → IsInOrder cs s → IsInOrder cs' s
joined client cs cs' s p order = record {
  order = order.order;
  waits = λ other x there. elim (cases_eq client other) [
    | inl e ↦
        let none : under_way s other ≡ 0 = subst (λ (k : ℕ). under_way s k ≡ 0) e (order.comes client p.ascends).1 in
        no_more _ _ none
    | inr ne ↦ order.waits other x (sym (p.others other (apart client other ne)) ∙ there)
  ];
  comes = λ other l.
      let above : client + 1 ≤ other = subst (λ (n : ℕ). n ≤ other) p.next l in
      let before = order.comes other (later _ _ _ p.ascends above) in
      (p.others other (apart client other (λ e. past client other above e)) ∙ before.0, before.1);
}
  where
    no_more : (a n : ℕ) → a ≡ 0 → a ≤ n
    no_more a n e = omega arith

    later : (a b d : ℕ) → a ≤ b → b + 1 ≤ d → a ≤ d
    later a b d l m = omega arith

    past : (a b : ℕ) → a + 1 ≤ b → a ≡ b → ⊥
    past a b l e = omega arith

begun_in_order : (settings : Setup) (log : List ℕ) (opened_now : OpenedService) → Opens settings log opened_now
    → IsInOrder opened_now.service.clients opened_now.service.intake
begun_in_order settings log o h =
    let i : Intake = o.service.intake in
    let none_logged : (k : ℕ) → logged i k ≡ 0 = λ k. ap (count_of_client k) h.intake.waiting in
    let none_read : (k : ℕ) → read i k ≡ 0 = λ k. ap (count_of_client k) h.intake.reading in
    let idle : (k : ℕ) → is_reading i k ≡ false = λ k. none_there k i.readers.keys h.intake.readers in
    record {
      order = λ k. none_read_now (is_reading i k) i k (idle k) (none_read k);
      waits = λ k c e. absurd (none-some c (sym (h.clients.none k) ∙ e));
      comes = λ k l. (h.clients.none k, both_none _ _ (none_logged k) (none_read k));
    }
  where
    both_none : (a b : ℕ) → a ≡ 0 → b ≡ 0 → a + b ≡ 0
    both_none a b d e = omega arith

    none_there : (k : ℕ) (ks : List ℕ) → ks ≡ [] → list_any (is_at (nat_cmp k)) ks ≡ false
    none_there k ks e = ap (list_any (is_at (nat_cmp k))) e

pub in_order : RequestsKeepTheirOrder
in_order = record {
  opens = begun_in_order;
  ticks = called (Ticks application);
  receives = λ bytes. called (Receives application state bytes);
  writes = called (Writes application state);
  releases = λ position. called (Releases application state position);
  feeds = fed;
  joins = λ client old new h order.
      subst (λ (i : Intake). IsInOrder new.clients i) (sym (ap (λ (s : Service). s.intake) h.rest))
      (joined client old.clients new.clients old.intake h.connects order);
  leaves = λ client old new h order.
      subst (λ (i : Intake). IsInOrder new.clients i) (sym (ap (λ (s : Service). s.intake) h.rest))
      (gone client old.clients new.clients old.intake h.disconnects order);
}
