-- What an operation makes of the keys, and of what is remembered of sessions.
use Rattle.std.proofs.Common.{ℕ, ◌<◌, ◌≤◌, ◌≡◌, ◌≢◌, ◌⊎◌, inl, inr, ⊎_elim, Bool, true, false, cond, eqb, ltb, List, Option, Some, None, arith, refl, sym, ap, ◌∙◌, subst}
use Rattle.std.specs.Prelude.{nat_eq, IfSome}
use Rattle.std.specs.Option.{option_map_or}
use Rattle.std.proofs.lemmas.Bool.{cases_eq, eqb-true, eqb-false, ltb-true, ltb-false}
use Rattle.lru.specs.LruCache.{LruCache, lru_cache, put_entries}
use Rattle.raft_executor.specs.KeyValue as key_value
use Rattle.raft_machine.specs.Commands.{run_all}
use Rattle.raft_machine.specs.Machine.{State, apply, known, known_of, remembered}
use Rattle.raft_machine.specs.Space.{advanced}
use Rattle.raft_machine.specs.declared.command.Query as queries
use Rattle.raft_machine.specs.declared.command.Reply.{Reply}
use Rattle.raft_machine.specs.declared.machine.Answered.{Answered}
use Rattle.raft_machine.specs.declared.machine.Outcome.{Outcome}
use Rattle.raft_machine.specs.declared.machine.Outcome.TheVariants as outcome
use Rattle.raft_machine.specs.declared.machine.Request.{Request}
use Rattle.raft_machine.specs.declared.machine.Session.{Session}
use Rattle.proof_clients.specs.Objects.{Ask, Query, Update, after, answer}
use Rattle.proof_sessions.specs.Service.{Answer, keys, request_in, run_request, service, session_in, session_of}
use Rattle.proof_sessions.proofs.Lists.{Has}
use Rattle.proof_sessions.proofs.Remembered.{HasRoom, at, fits, put_other, put_same, room_kept}

-- ---- a request

module _ (st : State) where
  -- by whose it is
  abbrev applied : Request → Option Session → State × Outcome
  applied r o =
      let ran = run_all (advanced st.space r.moment) r.commands in
      option_map_or (λ x. (st, x)) (known_of st.sessions o) (record { space = ran.0; sessions = remembered st.sessions o ran.1 }, outcome.Answered ran.1)

  applied_is : (r : Request) → apply st r ≡ applied r r.session
  unfolding apply
  applied_is r = refl

  -- what is known of a session's request
  abbrev pub known_at : Session → Option Outcome
  known_at s = known s.number (at s.id st.sessions.entries)

  -- nobody's request is run
  pub record IsIdle (q : Option Request) : Type 0 where
    pub sessions : (key_value.ran st q).0.sessions ≡ st.sessions
    pub space : (key_value.ran st q).0.space ≡ (run_request st.space q).0
    pub told : (key_value.ran st q).1 ≡ (run_request st.space q).1

  idle_request : (q : Option Request) → session_in q ≡ None → IsIdle q
  idle_request None e = record { sessions = refl; space = refl; told = refl }
  idle_request (Some r) e =
      let same : apply st r ≡ applied r None = applied_is r ∙ ap (applied r) e in
      record {
        sessions = ap (λ (p : State × Outcome). p.0.sessions) same;
        space = ap (λ (p : State × Outcome). p.0.space) same;
        told = ap (λ (p : State × Outcome). Some p.1) same;
      }

  -- a session's request is run, and remembered
  pub record IsRun (q : Option Request) (s : Session) : Type 0 where
    pub replies : List Reply
    pub space : (key_value.ran st q).0.space ≡ (run_request st.space q).0
    pub told : (key_value.ran st q).1 ≡ (run_request st.space q).1
    pub answered : (key_value.ran st q).1 ≡ Some (outcome.Answered replies)
    pub sessions : (key_value.ran st q).0.sessions ≡ lru_cache (put_entries nat_eq st.sessions s.id (record { number = s.number; replies = replies })) st.sessions.cap

  run_request_of : (q : Option Request) (s : Session) → session_in q ≡ Some s → known_at s ≡ None → IsRun q s
  run_request_of None s e k = absurd cc
  run_request_of (Some r) s e k =
      let ran = run_all (advanced st.space r.moment) r.commands in
      let new : State × Outcome = (record { space = ran.0; sessions = remembered st.sessions (Some s) ran.1 }, outcome.Answered ran.1) in
      let same : apply st r ≡ new = applied_is r ∙ (ap (applied r) e ∙ ap (λ (o : Option Outcome). option_map_or (λ x. (st, x)) o new) k) in
      record {
        replies = ran.1;
        space = ap (λ (p : State × Outcome). p.0.space) same;
        told = ap (λ (p : State × Outcome). Some p.1) same;
        answered = ap (λ (p : State × Outcome). Some p.1) same;
        sessions = ap (λ (p : State × Outcome). p.0.sessions) same;
      }

  -- a session's request is known
  known_request : (q : Option Request) (s : Session) (x : Outcome) → session_in q ≡ Some s → known_at s ≡ Some x → key_value.ran st q ≡ (st, Some x)
  known_request None s x e k = absurd cc
  known_request (Some r) s x e k =
      let ran = run_all (advanced st.space r.moment) r.commands in
      let new : State × Outcome = (record { space = ran.0; sessions = remembered st.sessions (Some s) ran.1 }, outcome.Answered ran.1) in
      let same : apply st r ≡ (st, x) = applied_is r ∙ (ap (applied r) e ∙ ap (λ (o : Option Outcome). option_map_or (λ y. (st, y)) o new) k) in
      ap (λ (p : State × Outcome). (p.0, Some p.1)) same

-- ---- what is known

pub record IsKnown (n : ℕ) (o : Option Answered) (x : Outcome) : Type 0 where
  pub last : Answered
  pub there : o ≡ Some last
  pub how : ((n ≡ last.number) × (x ≡ outcome.Answered last.replies)) ⊎ ((n < last.number) × (x ≡ outcome.Outdated))

pub known_some : (n : ℕ) (o : Option Answered) (x : Outcome) → known n o ≡ Some x → IsKnown n o x
known_some n None x k = absurd cc
known_some n (Some last) x k = go (eqb n last.number) refl k where
  later : (c : Bool) → ltb n last.number ≡ c → cond c (Some outcome.Outdated) None ≡ Some x → IsKnown n (Some last) x
  later true f g = record { last = last; there = refl; how = inr (ltb-true n last.number f, let y : x ≡ outcome.Outdated = cc in y) }
  later false f g = absurd cc

  go : (b : Bool) → eqb n last.number ≡ b → cond b (Some (outcome.Answered last.replies)) (cond (ltb n last.number) (Some outcome.Outdated) None) ≡ Some x → IsKnown n (Some last) x
  go true e g = record { last = last; there = refl; how = inl (eqb-true n last.number e, let y : x ≡ outcome.Answered last.replies = cc in y) }
  go false e g = later (ltb n last.number) refl g

pub known_none : (n : ℕ) (last : Answered) → known n (Some last) ≡ None → last.number < n
known_none n last k = go (eqb n last.number) refl k where
  later : (c : Bool) → eqb n last.number ≡ false → ltb n last.number ≡ c → cond c (Some outcome.Outdated) None ≡ None → last.number < n
  later true e f g = absurd cc
  later false e f g =
      let other = eqb-false n last.number e in
      let not_less = ltb-false n last.number f in
      omega (arith, other, not_less)

  go : (b : Bool) → eqb n last.number ≡ b → cond b (Some (outcome.Answered last.replies)) (cond (ltb n last.number) (Some outcome.Outdated) None) ≡ None → last.number < n
  go true e g = absurd cc
  go false e g = later (ltb n last.number) e refl g

pub is_known : (o : Option Outcome) → (o ≡ None) ⊎ ((x : Outcome) × (o ≡ Some x))
is_known None = inl refl
is_known (Some x) = inr (x, refl)

-- this request of a session was run, or a later one
pub record Seen (s : Session) (st : State) : Type 0 where
  pub last : Answered
  pub there : at s.id st.sessions.entries ≡ Some last
  pub reached : s.number ≤ last.number

pub seen_known : (s : Session) (st : State) → Seen s st → known_at st s ≡ None → ⊥
seen_known s st h k = let less = known_none s.number h.last (ap (known s.number) (sym h.there) ∙ k) in omega (arith, less, h.reached)

pub known_seen : (s : Session) (st : State) (x : Outcome) → known_at st s ≡ Some x → Seen s st
known_seen s st x k = let h = known_some s.number (at s.id st.sessions.entries) x k in record { last = h.last; there = h.there; reached = by h.how } where
  by : {last : Answered} → ((s.number ≡ last.number) × (x ≡ outcome.Answered last.replies)) ⊎ ((s.number < last.number) × (x ≡ outcome.Outdated)) → s.number ≤ last.number
  by (inl a) = omega (arith, a.0)
  by (inr a) = omega (arith, a.0)

-- ---- an operation

module _ (cap : ℕ) (query_of : ℕ → queries.Query) where
  pub record Idle (st : State) (a : Ask) : Type 0 where
    pub sessions : (after (service cap query_of) st a).sessions ≡ st.sessions
    pub space : (after (service cap query_of) st a).space ≡ after (keys query_of) st.space a
    pub told : answer (service cap query_of) st a ≡ answer (keys query_of) st.space a

  pub idle : (st : State) (a : Ask) → session_of a ≡ None → Idle st a
  idle st (Update v x) e = let h = idle_request st (request_in v) e in record { sessions = h.sessions; space = h.space; told = h.told }
  idle st (Query q) e = record { sessions = refl; space = refl; told = refl }

  pub record Runs (st : State) (a : Ask) (s : Session) : Type 0 where
    pub replies : List Reply
    pub space : (after (service cap query_of) st a).space ≡ after (keys query_of) st.space a
    pub told : answer (service cap query_of) st a ≡ answer (keys query_of) st.space a
    pub answered : answer (service cap query_of) st a ≡ Some (outcome.Answered replies)
    pub sessions : (after (service cap query_of) st a).sessions
        ≡ lru_cache (put_entries nat_eq st.sessions s.id (record { number = s.number; replies = replies })) st.sessions.cap

  pub runs : (st : State) (a : Ask) (s : Session) → session_of a ≡ Some s → known_at st s ≡ None → Runs st a s
  runs st (Update v x) s e k =
      let h = run_request_of st (request_in v) s e k in
      record { replies = h.replies; space = h.space; told = h.told; answered = h.answered; sessions = h.sessions }
  runs st (Query q) s e k = absurd cc

  pub record Knows (st : State) (a : Ask) (x : Outcome) : Type 0 where
    pub same : after (service cap query_of) st a ≡ st
    pub told : answer (service cap query_of) st a ≡ Some x

  pub knows : (st : State) (a : Ask) (s : Session) (x : Outcome) → session_of a ≡ Some s → known_at st s ≡ Some x → Knows st a x
  knows st (Update v y) s x e k =
      let h = known_request st (request_in v) s x e k in
      record { same = ap (λ (p : State × Answer). p.0) h; told = ap (λ (p : State × Answer). p.1) h }
  knows st (Query q) s x e k = absurd cc

  -- what is remembered stays, or one more request is remembered
  pub moves : (st : State) (a : Ask)
      → ((after (service cap query_of) st a).sessions ≡ st.sessions) ⊎ ((s : Session) × (session_of a ≡ Some s) × (known_at st s ≡ None) × Runs st a s)
  moves st a = go (session_of a) refl where
    by : (s : Session) (o : Option Outcome) → session_of a ≡ Some s → known_at st s ≡ o
        → ((after (service cap query_of) st a).sessions ≡ st.sessions) ⊎ ((t : Session) × (session_of a ≡ Some t) × (known_at st t ≡ None) × Runs st a t)
    by s None e k = inr (s, e, k, runs st a s e k)
    by s (Some x) e k = inl (ap (λ (z : State). z.sessions) (knows st a s x e k).same)

    go : (o : Option Session) → session_of a ≡ o
        → ((after (service cap query_of) st a).sessions ≡ st.sessions) ⊎ ((t : Session) × (session_of a ≡ Some t) × (known_at st t ≡ None) × Runs st a t)
    go None e = inl (idle st a e).sessions
    go (Some s) e = by s (known_at st s) e refl

  module _ (ids : List ℕ) where
    -- its session is among these
    abbrev pub IsNamed : Ask → Type 0
    IsNamed a = IfSome (session_of a) (λ s. Has ids s.id)

    named_as : (a : Ask) (s : Session) → IsNamed a → session_of a ≡ Some s → Has ids s.id
    named_as a s n e = subst (λ (o : Option Session). IfSome o (λ t. Has ids t.id)) e n

    module _ (st : State) (a : Ask) (room : HasRoom ids st.sessions) (named : IsNamed a) where
      -- a session's request that is run is remembered, and what is remembered of other sessions stays
      pub own : (s : Session) → session_of a ≡ Some s → (h : Runs st a s) → at s.id (after (service cap query_of) st a).sessions.entries ≡ Some (record { number = s.number; replies = h.replies })
      own s e h = ap (λ (c : LruCache ℕ Answered). at s.id c.entries) h.sessions ∙ put_same st.sessions s.id (record { number = s.number; replies = h.replies })

      pub other : (s : Session) → session_of a ≡ Some s → (h : Runs st a s) → (j : ℕ) → j ≢ s.id → at j (after (service cap query_of) st a).sessions.entries ≡ at j st.sessions.entries
      other s e h j d =
          ap (λ (c : LruCache ℕ Answered). at j c.entries) h.sessions
          ∙ put_other st.sessions s.id (record { number = s.number; replies = h.replies }) j d
          (fits ids st.sessions s.id (record { number = s.number; replies = h.replies }) room (named_as a s named e))

      pub room_after : HasRoom ids (after (service cap query_of) st a).sessions
      room_after =
          ⊎_elim
          (λ same. subst (HasRoom ids) (sym same) room)
          (λ (s, e, k, h). subst (HasRoom ids) (sym h.sessions) (room_kept ids st.sessions s.id (record { number = s.number; replies = h.replies }) room (named_as a s named e)))
          (moves st a)

      -- what was seen stays seen
      pub seen_after : (t : Session) → Seen t st → Seen t (after (service cap query_of) st a)
      seen_after t h =
          ⊎_elim
          (λ same. record { last = h.last; there = ap (λ (c : LruCache ℕ Answered). at t.id c.entries) same ∙ h.there; reached = h.reached })
          (λ (s, e, k, r).
          ⊎_elim
          (λ (q : t.id ≡ s.id).
          let less = known_none s.number h.last (ap (known s.number) (sym h.there ∙ ap (λ i. at i st.sessions.entries) q) ∙ k) in
          record { last = record { number = s.number; replies = r.replies }; there = ap (λ i. at i (after (service cap query_of) st a).sessions.entries) q ∙ own s e r; reached = omega (arith, less, h.reached) })
          (λ (d : t.id ≢ s.id). record { last = h.last; there = other s e r t.id d ∙ h.there; reached = h.reached })
          (cases_eq t.id s.id))
          (moves st a)

      pub seen_own : (s : Session) → session_of a ≡ Some s → Seen s (after (service cap query_of) st a)
      seen_own s e =
          ⊎_elim
          (λ k. let r = runs st a s e k in record { last = record { number = s.number; replies = r.replies }; there = own s e r; reached = omega arith })
          (λ (x, k). subst (Seen s) (sym (knows st a s x e k).same) (known_seen s st x k))
          (is_known (known_at st s))
