-- The attempts of a request as one operation.
use Rattle.std.proofs.Common.{ℕ, ◌<◌, ◌≤◌, ◌≡◌, ◌≢◌, ◌⊎◌, inl, inr, ⊎_elim, Bool, true, false, cond, ◌&&◌, eqb, List, [], ◌∷◌, Option, Some, None, arith, refl, sym, ap, ap₂, ◌∙◌, subst}
use Rattle.std.specs.Prelude.{min}
use Rattle.std.proofs.lemmas.Bool.{and_from, and_parts, cases_lt, eq-eqb, eqb-true}
use Rattle.raft_machine.specs.declared.machine.Outcome.TheVariants as outcome
use Rattle.raft_machine.specs.declared.machine.Session.{Session}
use Rattle.proof_clients.specs.Objects.{Operation, Return}
use Rattle.proof_sessions.specs.Laws.{Ends}
use Rattle.proof_sessions.specs.Service.{Answer, session_of}
use Rattle.proof_sessions.proofs.Lists.{Has}

abbrev pub Op : Type 0
Op = Operation Answer

-- ---- tests

abbrev pub is_session : Session → Option Session → Bool
is_session s None = false
is_session s (Some t) = eqb s.id t.id && eqb s.number t.number

abbrev pub is_attempt : Session → Op → Bool
is_attempt s o = is_session s (session_of o.ask)

pub same_sessions : (s t : Session) → s.id ≡ t.id → s.number ≡ t.number → s ≡ t
same_sessions s t p q = ap₂ (λ i n. let r : Session = record { id = i; number = n } in r) p q

attempt_true : (s : Session) (o : Op) → is_attempt s o ≡ true → session_of o.ask ≡ Some s
attempt_true s o h = go (session_of o.ask) refl h where
  go : (x : Option Session) → session_of o.ask ≡ x → is_session s x ≡ true → session_of o.ask ≡ Some s
  go None e t = absurd cc
  go (Some u) e t =
      let parts = and_parts (eqb s.id u.id) (eqb s.number u.number) t in
      e ∙ ap (λ (w : Session). Some w) (sym (same_sessions s u (eqb-true s.id u.id parts.0) (eqb-true s.number u.number parts.1)))

attempt_from : (s : Session) (o : Op) → session_of o.ask ≡ Some s → is_attempt s o ≡ true
attempt_from s o e = ap (is_session s) e ∙ and_from (eqb s.id s.id) (eqb s.number s.number) (eq-eqb s.id s.id refl) (eq-eqb s.number s.number refl)

abbrev pub ends : Answer → Bool
ends None = true
ends (Some (outcome.Answered replies)) = true
ends (Some outcome.Outdated) = false

ends_true : (r : Answer) → ends r ≡ true → Ends r
ends_true None h e = cc
ends_true (Some (outcome.Answered replies)) h e = cc
ends_true (Some outcome.Outdated) h e = cc

ends_from : (r : Answer) → Ends r → ends r ≡ true
ends_from None h = refl
ends_from (Some (outcome.Answered replies)) h = refl
ends_from (Some outcome.Outdated) h = absurd (h refl)

-- ---- the first call

abbrev pub earliest : Session → ℕ → List Op → ℕ
earliest s d [] = d
earliest s d (o ∷ os) = cond (is_attempt s o) (min o.call (earliest s d os)) (earliest s d os)

pub earliest_default : (s : Session) (d : ℕ) (os : List Op) → earliest s d os ≤ d
earliest_default s d [] = omega arith
earliest_default s d (o ∷ os) = go (is_attempt s o) (earliest_default s d os) where
  go : (b : Bool) → earliest s d os ≤ d → cond b (min o.call (earliest s d os)) (earliest s d os) ≤ d
  go true l = omega (arith, l)
  go false l = l

pub earliest_least : (s : Session) (d : ℕ) (os : List Op) (p : Op) → Has os p → session_of p.ask ≡ Some s → earliest s d os ≤ p.call
earliest_least s d [] p h e = absurd h
earliest_least s d (o ∷ os) p (inl q) e =
    let mine : is_attempt s o ≡ true = attempt_from s o (ap (λ (x : Op). session_of x.ask) q ∙ e) in
    let call = ap (λ (x : Op). x.call) q in
    let first : earliest s d (o ∷ os) ≡ min o.call (earliest s d os) = ap (λ b. cond b (min o.call (earliest s d os)) (earliest s d os)) mine in
    omega (arith, first, call)
earliest_least s d (o ∷ os) p (inr h) e = go (is_attempt s o) (earliest_least s d os p h e) where
  go : (b : Bool) → earliest s d os ≤ p.call → cond b (min o.call (earliest s d os)) (earliest s d os) ≤ p.call
  go true l = omega (arith, l)
  go false l = l

pub record IsCall (s : Session) (os : List Op) (n : ℕ) : Type 0 where
  pub operation : Op
  pub there : Has os operation
  pub session : session_of operation.ask ≡ Some s
  pub call : n ≡ operation.call

pub earliest_is : (s : Session) (d : ℕ) (os : List Op) → (earliest s d os ≡ d) ⊎ IsCall s os (earliest s d os)
earliest_is s d [] = inl refl
earliest_is s d (o ∷ os) = go (is_attempt s o) refl (earliest_is s d os) where
  further : (n : ℕ) → IsCall s os n → IsCall s (o ∷ os) n
  further n h = record { operation = h.operation; there = inr h.there; session = h.session; call = h.call }

  either : (a b : ℕ) → (min a b ≡ a) ⊎ (min a b ≡ b)
  either a b = ⊎_elim (λ l. inl (omega (arith, l))) (λ l. inr (omega (arith, l))) (order a b) where
    order : (m n : ℕ) → (m ≤ n) ⊎ (n < m)
    order m n = ⊎_elim (λ l. inr l) (λ l. inl l) (cases_lt n m)

  go : (b : Bool) → is_attempt s o ≡ b → (earliest s d os ≡ d) ⊎ IsCall s os (earliest s d os)
      → (cond b (min o.call (earliest s d os)) (earliest s d os) ≡ d) ⊎ IsCall s (o ∷ os) (cond b (min o.call (earliest s d os)) (earliest s d os))
  go true t h =
      ⊎_elim
      (λ q. inr (record { operation = o; there = inl refl; session = attempt_true s o t; call = q }))
      (λ q. ⊎_elim (λ r. inl (q ∙ r)) (λ r. inr (subst (IsCall s (o ∷ os)) (sym q) (further (earliest s d os) r))) h)
      (either o.call (earliest s d os))
  go false t h = ⊎_elim (λ r. inl r) (λ r. inr (further (earliest s d os) r)) h

-- ---- an answer

abbrev pub ending : Option (Return Answer) → Option (Return Answer) → Option (Return Answer)
ending None rest = rest
ending (Some r) rest = cond (ends r.result) (Some r) rest

abbrev pub told : Session → List Op → Option (Return Answer)
told s [] = None
told s (o ∷ os) = cond (is_attempt s o) (ending o.returned (told s os)) (told s os)

pub record IsTold (s : Session) (os : List Op) (r : Return Answer) : Type 0 where
  pub operation : Op
  pub there : Has os operation
  pub session : session_of operation.ask ≡ Some s
  pub returned : operation.returned ≡ Some r
  pub ends : Ends r.result

pub told_is : (s : Session) (os : List Op) (r : Return Answer) → told s os ≡ Some r → IsTold s os r
told_is s [] r e = absurd cc
told_is s (o ∷ os) r e = go (is_attempt s o) refl (told_is s os r) e where
  further : IsTold s os r → IsTold s (o ∷ os) r
  further h = record { operation = h.operation; there = inr h.there; session = h.session; returned = h.returned; ends = h.ends }

  by_end : (q : Return Answer) → session_of o.ask ≡ Some s → o.returned ≡ Some q → (c : Bool) → ends q.result ≡ c → (told s os ≡ Some r → IsTold s os r)
      → cond c (Some q) (told s os) ≡ Some r → IsTold s (o ∷ os) r
  by_end q a f true t ih g =
      let same : q ≡ r = cc in
      record { operation = o; there = inl refl; session = a; returned = f ∙ ap (λ (x : Return Answer). Some x) same; ends = subst (λ (x : Return Answer). Ends x.result) same (ends_true q.result t) }
  by_end q a f false t ih g = further (ih g)

  by_return : session_of o.ask ≡ Some s → (z : Option (Return Answer)) → o.returned ≡ z → (told s os ≡ Some r → IsTold s os r) → ending z (told s os) ≡ Some r → IsTold s (o ∷ os) r
  by_return a None f ih g = further (ih g)
  by_return a (Some q) f ih g = by_end q a f (ends q.result) refl ih g

  go : (b : Bool) → is_attempt s o ≡ b → (told s os ≡ Some r → IsTold s os r) → cond b (ending o.returned (told s os)) (told s os) ≡ Some r → IsTold s (o ∷ os) r
  go true t ih g = by_return (attempt_true s o t) o.returned refl ih g
  go false t ih g = further (ih g)

pub told_some : (s : Session) (os : List Op) (p : Op) (r : Return Answer) → Has os p → session_of p.ask ≡ Some s → p.returned ≡ Some r → Ends r.result → told s os ≢ None
told_some s [] p r h e f n z = absurd h
told_some s (o ∷ os) p r (inl q) e f n z =
    let mine : is_attempt s o ≡ true = attempt_from s o (ap (λ (x : Op). session_of x.ask) q ∙ e) in
    let first : told s (o ∷ os) ≡ ending o.returned (told s os) = ap (λ b. cond b (ending o.returned (told s os)) (told s os)) mine in
    let second : ending o.returned (told s os) ≡ cond (ends r.result) (Some r) (told s os) = ap (λ (x : Option (Return Answer)). ending x (told s os)) (ap (λ (x : Op). x.returned) q ∙ f) in
    let third : cond (ends r.result) (Some r) (told s os) ≡ Some r = ap (λ b. cond b (Some r) (told s os)) (ends_from r.result n) in
    let none : ◌≡◌ {A = Option (Return Answer)} (Some r) None = sym (first ∙ (second ∙ third)) ∙ z in
    cc
told_some s (o ∷ os) p r (inr h) e f n z = go (is_attempt s o) (told_some s os p r h e f n) z where
  by_return : (x : Option (Return Answer)) → told s os ≢ None → ending x (told s os) ≡ None → ⊥
  by_return None ih g = ih g
  by_return (Some q) ih g = by (ends q.result) g where
    by : (c : Bool) → cond c (Some q) (told s os) ≡ None → ⊥
    by true k = cc
    by false k = ih k

  go : (b : Bool) → told s os ≢ None → cond b (ending o.returned (told s os)) (told s os) ≡ None → ⊥
  go true ih g = by_return o.returned ih g
  go false ih g = ih g

-- ---- the operation

module _ (ops : List Op) where
  -- of the attempts of a request, one of which ran
  abbrev pub merged : Session → Op → Op
  merged s o = record { call = earliest s o.call ops; ask = o.ask; returned = told s ops }
