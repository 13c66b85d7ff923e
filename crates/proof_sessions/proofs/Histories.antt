-- A history of requests is linearizable on the keys alone.
use Rattle.std.proofs.Common.{ℕ, ◌<◌, ◌≤◌, ◌≡◌, ◌≢◌, ◌⊎◌, inl, inr, ⊎_elim, Bool, true, false, cond, List, [], ◌∷◌, ◌++◌, length, Option, Some, None, arith, refl, sym, ap, ◌∙◌, subst}
use Rattle.std.specs.Prelude.{Contains, IfSome, filter, is_some, is_none, map}
use Rattle.std.specs.List.{AllByRecursion}
use Rattle.std.proofs.lemmas.Bool.{cases_eq}
use Rattle.lru.specs.LruCache.{LruCache}
use Rattle.raft_machine.specs.Machine.{State, started}
use Rattle.raft_machine.specs.declared.command.Query as queries
use Rattle.raft_machine.specs.declared.machine.Answered.{Answered}
use Rattle.raft_machine.specs.declared.machine.Outcome.{Outcome}
use Rattle.raft_machine.specs.declared.machine.Outcome.TheVariants as outcome
use Rattle.raft_machine.specs.declared.machine.Session.{Session}
use Rattle.proof_clients.specs.Objects.{Ask, IsDistinct, IsLegal, IsLinearizable, IsTimely, Precedes, Return, after, answer}
use Rattle.proof_sessions.specs.Laws.{AreOf, AreRequests, Ends, IsAttempt, IsRequest, RequestsTakeEffectOnce}
use Rattle.proof_sessions.specs.Service.{Answer, keys, service, session_of}
use Rattle.proof_sessions.proofs.Holding.{Holds, held_after, held_answer, held_first, named_of, room_first}
use Rattle.proof_sessions.proofs.Lists.{Has, contains, each, element, has, has_either, has_left, has_right}
use Rattle.proof_sessions.proofs.Merging.{IsCall, IsTold, Op, earliest_default, earliest_is, earliest_least, merged, same_sessions, told, told_is, told_some}
use Rattle.proof_sessions.proofs.Remembered.{HasRoom, at}
use Rattle.proof_sessions.proofs.Steps.{IsNamed, Seen, idle, is_known, known_at, known_seen, knows, moves, other, own, room_after, runs, seen_after, seen_known, seen_own}

-- ---- sequences

abbrev before : Option (Return Answer) → ℕ → Type 0
before z n = elim z [ None ↦ ⊥ | Some r ↦ r.events < n ]

precedes_how : (o p : Op) → Precedes o p → (r : Return Answer) × (o.returned ≡ Some r) × (r.events < p.call)
precedes_how o p h = go o.returned refl h where
  go : (z : Option (Return Answer)) → o.returned ≡ z → before z p.call → (r : Return Answer) × (o.returned ≡ Some r) × (r.events < p.call)
  go None e k = absurd k
  go (Some r) e k = (r, e, k)

precedes_from : (o p : Op) (r : Return Answer) → o.returned ≡ Some r → r.events < p.call → Precedes o p
precedes_from o p r e l = subst (λ (z : Option (Return Answer)). before z p.call) (sym e) l

-- what a session is told at its return
told_at : (P : Return Answer → Type 0) (z : Option (Return Answer)) (r : Return Answer) → IfSome z P → z ≡ Some r → P r
told_at P z r h e = subst (λ (x : Option (Return Answer)). IfSome x P) e h

-- two sessions of one operation are one
one_session : (a : Ask) (s t : Session) → session_of a ≡ Some s → session_of a ≡ Some t → s ≡ t
one_session a s t e f = let z : ◌≡◌ {A = Option Session} (Some s) (Some t) = sym e ∙ f in cc

no_session : (a : Ask) (s : Session) → session_of a ≡ None → session_of a ≡ Some s → ⊥
no_session a s e f = let z : ◌≡◌ {A = Option Session} None (Some s) = sym e ∙ f in cc

module _ {X : Type 0} (test : X → Bool) where
  has_filter : (xs : List X) (x : X) → Has xs x → test x ≡ true → Has (filter test xs) x
  has_filter [] x h t = absurd h
  has_filter (y ∷ ys) x (inl e) t = subst (λ b. Has (cond b (y ∷ filter test ys) (filter test ys)) x) (sym (ap test e ∙ t)) (inl e)
  has_filter (y ∷ ys) x (inr h) t = go (test y) (has_filter ys x h t) where
    go : (b : Bool) → Has (filter test ys) x → Has (cond b (y ∷ filter test ys) (filter test ys)) x
    go true k = inr k
    go false k = k

  filter_has : (xs : List X) (x : X) → Has (filter test xs) x → Has xs x × (test x ≡ true)
  filter_has [] x h = absurd h
  filter_has (y ∷ ys) x h = go (test y) refl (filter_has ys x) h where
    go : (b : Bool) → test y ≡ b → (Has (filter test ys) x → Has ys x × (test x ≡ true)) → Has (cond b (y ∷ filter test ys) (filter test ys)) x → Has (y ∷ ys) x × (test x ≡ true)
    go true t f (inl e) = (inl e, sym (ap test e) ∙ t)
    go true t f (inr k) = let r = f k in (inr r.0, r.1)
    go false t f k = let r = f k in (inr r.0, r.1)

module _ (cap : ℕ) (query_of : ℕ → queries.Query) (ids : List ℕ) (ops order : List Op) where
  abbrev AreNamed : List Op → Type 0
  AreNamed os = (o : Op) → Has os o → IsNamed cap query_of ids o.ask

  abbrev next : State → Op → State
  next st o = after (service cap query_of) st o.ask

  -- ---- the operations that stand: those without a session, and for each request the attempt that ran

  abbrev choose : Option Outcome → List Op → List Op → List Op
  choose None ran rest = ran
  choose (Some x) ran rest = rest

  abbrev kept_by : State → Op → Option Session → List Op → List Op
  kept_by st o None rest = o ∷ rest
  kept_by st o (Some s) rest = choose (known_at st s) (merged ops s o ∷ rest) rest

  kept : State → List Op → List Op
  kept st [] = []
  kept st (o ∷ os) = kept_by st o (session_of o.ask) (kept (next st o) os)

  module _ (P : List Op → Type 0) (st : State) (o : Op) (rest : List Op) (plain : session_of o.ask ≡ None → P (o ∷ rest))
      (ran : (s : Session) → session_of o.ask ≡ Some s → known_at st s ≡ None → P (merged ops s o ∷ rest))
      (repeated : (s : Session) (x : Outcome) → session_of o.ask ≡ Some s → known_at st s ≡ Some x → P rest) where
    by_kind : P (kept_by st o (session_of o.ask) rest)
    by_kind = go (session_of o.ask) refl where
      by_known : (s : Session) → session_of o.ask ≡ Some s → (k : Option Outcome) → known_at st s ≡ k → P (choose k (merged ops s o ∷ rest) rest)
      by_known s e None k = ran s e k
      by_known s e (Some x) k = repeated s x e k

      go : (z : Option Session) → session_of o.ask ≡ z → P (kept_by st o z rest)
      go None e = plain e
      go (Some s) e = by_known s e (known_at st s) refl

  -- what stands is an operation without a session, or a request that ran then or later
  abbrev IsKept : State → List Op → Op → Type 0
  IsKept st os p =
      ((session_of p.ask ≡ None) × Has os p)
      ⊎ ((s : Session) × (o : Op) × Has os o × (session_of o.ask ≡ Some s) × (p ≡ merged ops s o) × (Seen s st → ⊥))

  are_kept : (st : State) (os : List Op) → HasRoom ids st.sessions → AreNamed os → (p : Op) → Has (kept st os) p → IsKept st os p
  unfolding kept
  are_kept st [] room n p h = absurd h
  are_kept st (o ∷ os) room n p h =
      let ih = are_kept (next st o) os (room_after cap query_of ids st o.ask room (n o (inl refl))) (λ q g. n q (inr g)) p in
      let further : IsKept (next st o) os p → IsKept st (o ∷ os) p =
      ⊎_elim
      (λ a. inl (a.0, inr a.1))
      (λ (s, q, g, e, f, k). inr (s, q, inr g, e, f, λ z. k (seen_after cap query_of ids st o.ask room (n o (inl refl)) s z)))
      in
      by_kind (λ ps. Has ps p → IsKept st (o ∷ os) p) st o (kept (next st o) os)
      (λ e g. ⊎_elim (λ q. inl (ap (λ (x : Op). session_of x.ask) (sym q) ∙ e, inl q)) (λ k. further (ih k)) g)
      (λ s e k g. ⊎_elim (λ q. inr (s, o, inl refl, e, sym q, seen_known' s k)) (λ k. further (ih k)) g)
      (λ s x e k g. further (ih g))
      h
    where
      seen_known' : (s : Session) → known_at st s ≡ None → Seen s st → ⊥
      seen_known' s k z = seen_known s st z k

  -- an operation without a session stands
  plain_kept : (st : State) (os : List Op) (p : Op) → Has os p → session_of p.ask ≡ None → Has (kept st os) p
  unfolding kept
  plain_kept st [] p h e = absurd h
  plain_kept st (o ∷ os) p (inl q) e =
      let none : session_of o.ask ≡ None = ap (λ (x : Op). session_of x.ask) q ∙ e in
      by_kind (λ ps. Has ps p) st o (kept (next st o) os)
      (λ f. inl q)
      (λ s f k. absurd (no_session o.ask s none f))
      (λ s x f k. absurd (no_session o.ask s none f))
  plain_kept st (o ∷ os) p (inr h) e =
      let ih = plain_kept (next st o) os p h e in
      by_kind (λ ps. Has ps p) st o (kept (next st o) os) (λ f. inr ih) (λ s f k. inr ih) (λ s x f k. ih)

  -- a request stands once
  kept_once : (st : State) (os : List Op) → HasRoom ids st.sessions → AreNamed os → (s : Session) (p q : Op) → session_of p.ask ≡ Some s → session_of q.ask ≡ Some s
      → Has (kept st os) p → Has (kept st os) q → p ≡ q
  unfolding kept
  kept_once st [] room n s p q e f h k = absurd h
  kept_once st (o ∷ os) room n s p q e f h k =
      let later = room_after cap query_of ids st o.ask room (n o (inl refl)) in
      let ih = kept_once (next st o) os later (λ x g. n x (inr g)) s p q e f in
      let alone : (t : Session) → session_of o.ask ≡ Some t → (x : Op) → Has (kept (next st o) os) x → session_of x.ask ≡ Some t → ⊥ =
      λ t e' x hx ex.
      ⊎_elim
      (λ a. no_session x.ask t a.0 ex)
      (λ (u, y, hy, ey, g, unseen).
      let same : u ≡ t = one_session x.ask u t (ap (λ (z : Op). session_of z.ask) g ∙ ey) ex in
      unseen (subst (λ v. Seen v (next st o)) (sym same) (seen_own cap query_of ids st o.ask room (n o (inl refl)) t e')))
      (are_kept (next st o) os later (λ z g. n z (inr g)) x hx)
      in
      by_kind (λ ps. Has ps p → Has ps q → p ≡ q) st o (kept (next st o) os)
      (λ none hp hq.
      ⊎_elim
      (λ a. absurd (no_session p.ask s (ap (λ (x : Op). session_of x.ask) (sym a) ∙ none) e))
      (λ a. ⊎_elim (λ b. absurd (no_session q.ask s (ap (λ (x : Op). session_of x.ask) (sym b) ∙ none) f)) (λ b. ih a b) hq)
      hp)
      (λ t e' k' hp hq.
      ⊎_elim
      (λ a. ⊎_elim (λ b. sym a ∙ b) (λ b. absurd (alone t e' q b (f ∙ ap (λ (z : Session). Some z) (one_session p.ask s t e (ap (λ (x : Op). session_of x.ask) (sym a) ∙ e'))))) hq)
      (λ a. ⊎_elim (λ b. absurd (alone t e' p a (e ∙ ap (λ (z : Session). Some z) (one_session q.ask s t f (ap (λ (x : Op). session_of x.ask) (sym b) ∙ e'))))) (λ b. ih a b) hq)
      hp)
      (λ t x e' k' hp hq. ih hp hq)
      h k

  -- ---- what comes later in the order

  -- an attempt that is answered later is answered the same
  later_answer : (L : Type 0) (s : Session) (r : Answer) (st : State) (os : List Op) → HasRoom ids st.sessions → AreNamed os → IsLegal (service cap query_of) st os
      → ((t : Session) → t.id ≡ s.id → s.number < t.number → L) → Holds L s r st
      → (p : Op) (w : Return Answer) → Has os p → session_of p.ask ≡ Some s → p.returned ≡ Some w → (w.result ≡ r) ⊎ (w.result ≡ Some outcome.Outdated)
  later_answer L s r st [] room n l later h p w k e f = absurd k
  later_answer L s r st (o ∷ os) room n l later h p w (inl q) e f =
      let mine : session_of o.ask ≡ Some s = ap (λ (x : Op). session_of x.ask) q ∙ e in
      let result = told_at (λ x. x.result ≡ answer (service cap query_of) st o.ask) o.returned w l.0 (ap (λ (x : Op). x.returned) q ∙ f) in
      ⊎_elim (λ a. inl (result ∙ a)) (λ a. inr (result ∙ a.0)) (held_answer cap query_of L s r st o.ask mine h).1
  later_answer L s r st (o ∷ os) room n l later h p w (inr k) e f =
      later_answer L s r (next st o) os (room_after cap query_of ids st o.ask room (n o (inl refl))) (λ q g. n q (inr g)) l.1 later
      (held_after cap query_of L s ids st o.ask room (n o (inl refl)) r (λ t e' a b. later t a b) h)
      p w k e f

  module _ (complete : (o : Op) (r : Return Answer) → Has ops o → o.returned ≡ Some r → Has order o) where
    -- each operation comes later, or its request was seen
    abbrev Past : State → List Op → Type 0
    Past st os = (p : Op) → Has order p → Has os p ⊎ IfSome (session_of p.ask) (λ s. Seen s st)

    past_after : (st : State) (o : Op) (os : List Op) → HasRoom ids st.sessions → AreNamed (o ∷ os) → Past st (o ∷ os) → Past (next st o) os
    past_after st o os room n past p h =
        ⊎_elim
        (λ k. ⊎_elim (λ q. inr (subst (λ (x : Op). IfSome (session_of x.ask) (λ s. Seen s (next st o))) q (mine (session_of o.ask) refl))) (λ g. inl g) k)
        (λ k. inr (still (session_of p.ask) k))
        (past p h)
      where
        mine : (z : Option Session) → session_of o.ask ≡ z → IfSome z (λ s. Seen s (next st o))
        mine None e = tt
        mine (Some s) e = seen_own cap query_of ids st o.ask room (n o (inl refl)) s e

        still : (z : Option Session) → IfSome z (λ s. Seen s st) → IfSome z (λ s. Seen s (next st o))
        still None k = tt
        still (Some s) k = seen_after cap query_of ids st o.ask room (n o (inl refl)) s k

    -- the attempt whose answer a request returns comes later
    told_later : (st : State) (os : List Op) → Past st os → (s : Session) → (Seen s st → ⊥) → (r : Return Answer) → told s ops ≡ Some r → IsTold s os r
    told_later st os past s unseen r e =
        let t = told_is s ops r e in
        ⊎_elim
        (λ h. record { operation = t.operation; there = h; session = t.session; returned = t.returned; ends = t.ends })
        (λ k. absurd (unseen (subst (λ (z : Option Session). IfSome z (λ u. Seen u st)) t.session k)))
        (past t.operation (complete t.operation r t.there t.returned))

    -- ---- what stands is a linearization

    kept_distinct : (st : State) (os : List Op) → HasRoom ids st.sessions → AreNamed os → IsDistinct os → IsDistinct (kept st os)
    unfolding kept
    kept_distinct st [] room n d = tt
    kept_distinct st (o ∷ os) room n d =
        let later = room_after cap query_of ids st o.ask room (n o (inl refl)) in
        let are = are_kept (next st o) os later (λ q g. n q (inr g)) in
        let ih = kept_distinct (next st o) os later (λ q g. n q (inr g)) d.1 in
        by_kind IsDistinct st o (kept (next st o) os)
        (λ e. (
          each (λ p. p ≢ o) (kept (next st o) os) (λ p h q.
              ⊎_elim
              (λ a. element (λ x. x ≢ o) os p d.0 a.1 q)
              (λ (s, x, hx, ex, f, g). no_session o.ask s e (ap (λ (z : Op). session_of z.ask) (sym q ∙ f) ∙ ex))
              (are p h)),
          ih,
        ))
        (λ s e k. (
          each (λ p. p ≢ merged ops s o) (kept (next st o) os) (λ p h q.
              let mine : session_of p.ask ≡ Some s = ap (λ (z : Op). session_of z.ask) q ∙ e in
              ⊎_elim
              (λ a. no_session p.ask s a.0 mine)
              (λ (t, x, hx, ex, f, g).
              let same : t ≡ s = one_session p.ask t s (ap (λ (z : Op). session_of z.ask) f ∙ ex) mine in
              g (subst (λ u. Seen u (next st o)) (sym same) (seen_own cap query_of ids st o.ask room (n o (inl refl)) s e)))
              (are p h)),
          ih,
        ))
        (λ s x e k. ih)

    kept_timely : (st : State) (os : List Op) → HasRoom ids st.sessions → AreNamed os → Past st os → IsTimely os → IsTimely (kept st os)
    unfolding kept
    kept_timely st [] room n past t = tt
    kept_timely st (o ∷ os) room n past t =
        let later = room_after cap query_of ids st o.ask room (n o (inl refl)) in
        let then = past_after st o os room n past in
        let ih = kept_timely (next st o) os later (λ q g. n q (inr g)) then t.1 in
        let not_before : (h : Op) → h.call ≤ o.call → AllByRecursion (λ p. Precedes p h → ⊥) (kept (next st o) os) =
        λ h l. each (λ p. Precedes p h → ⊥) (kept (next st o) os) (λ p hp q.
        let w = precedes_how p h q in
        ⊎_elim
        (λ a. element (λ x. Precedes x o → ⊥) os p t.0 a.1 (precedes_from p o w.0 w.1 (omega (arith, w.2, l))))
        (λ (s, x, hx, ex, f, g).
        let a = told_later (next st o) os then s g w.0 (ap (λ (z : Op). z.returned) (sym f) ∙ w.1) in
        element (λ y. Precedes y o → ⊥) os a.operation t.0 a.there (precedes_from a.operation o w.0 a.returned (omega (arith, w.2, l))))
        (are_kept (next st o) os later (λ z g. n z (inr g)) p hp))
        in
        by_kind IsTimely st o (kept (next st o) os)
        (λ e. (not_before o (omega arith), ih))
        (λ s e k. (not_before (merged ops s o) (earliest_default s o.call ops), ih))
        (λ s x e k. ih)

    kept_legal : (st : State) (os : List Op) → HasRoom ids st.sessions → AreNamed os → Past st os → IsLegal (service cap query_of) st os → IsLegal (keys query_of) st.space (kept st os)
    unfolding kept
    kept_legal st [] room n past l = tt
    kept_legal st (o ∷ os) room n past l =
        let later = room_after cap query_of ids st o.ask room (n o (inl refl)) in
        let ih = kept_legal (next st o) os later (λ q g. n q (inr g)) (past_after st o os room n past) l.1 in
        by_kind (λ ps. IsLegal (keys query_of) st.space ps) st o (kept (next st o) os)
        (λ e.
        let i = idle cap query_of st o.ask e in
        (subst (λ (a : Answer). IfSome o.returned (λ r. r.result ≡ a)) i.told l.0, subst (λ z. IsLegal (keys query_of) z (kept (next st o) os)) i.space ih))
        (λ s e k.
        let i = runs cap query_of st o.ask s e k in
        (answers s e k (told s ops) refl, subst (λ z. IsLegal (keys query_of) z (kept (next st o) os)) i.space ih))
        (λ s x e k. subst (λ (z : State). IsLegal (keys query_of) z.space (kept (next st o) os)) (knows cap query_of st o.ask s x e k).same ih)
      where
        answers : (s : Session) → session_of o.ask ≡ Some s → known_at st s ≡ None → (z : Option (Return Answer)) → told s ops ≡ z → IfSome z (λ r. r.result ≡ answer (keys query_of) st.space o.ask)
        answers s e k None f = tt
        answers s e k (Some r) f =
            let i = runs cap query_of st o.ask s e k in
            let t = told_later st (o ∷ os) past s (λ z. seen_known s st z k) r f in
            ⊎_elim
            (λ q. told_at (λ x. x.result ≡ answer (service cap query_of) st o.ask) o.returned r l.0 (ap (λ (x : Op). x.returned) q ∙ t.returned) ∙ i.told)
            (λ h.
            ⊎_elim
            (λ a. a ∙ i.told)
            (λ a. absurd (t.ends a))
            (later_answer (Unit {0}) s (answer (service cap query_of) st o.ask) (next st o) os (room_after cap query_of ids st o.ask room (n o (inl refl))) (λ q g. n q (inr g)) l.1 (λ u a b. tt)
            (held_first cap query_of (Unit {0}) s ids st o.ask room (n o (inl refl)) e) t.operation r h t.session t.returned))
            t.there

    -- a request of which an attempt was answered stands
    found : (st : State) (os : List Op) → HasRoom ids st.sessions → AreNamed os → IsLegal (service cap query_of) st os → (s : Session) → (Seen s st → ⊥)
        → (p : Op) (r : Return Answer) → Has os p → session_of p.ask ≡ Some s → p.returned ≡ Some r → Ends r.result → (q : Op) × Has (kept st os) q × (session_of q.ask ≡ Some s)
    unfolding kept
    found st [] room n l s unseen p r h e f g = absurd h
    found st (o ∷ os) room n l s unseen p r h e f g =
        let later = room_after cap query_of ids st o.ask room (n o (inl refl)) in
        let ih = λ (u : Seen s (next st o) → ⊥) (k : Has os p). found (next st o) os later (λ q z. n q (inr z)) l.1 s u p r k e f g in
        ⊎_elim
        (λ k.
        let still : Seen s (next st o) → ⊥ = (λ z. seen_known s (next st o) z k) in
        ⊎_elim
        (λ q. absurd (still (seen_own cap query_of ids st o.ask room (n o (inl refl)) s (ap (λ (x : Op). session_of x.ask) q ∙ e))))
        (λ z.
        let w = ih still z in
        (w.0, by_kind (λ ps. Has ps w.0) st o (kept (next st o) os) (λ a. inr w.1) (λ t a b. inr w.1) (λ t x a b. w.1), w.2))
        h)
        (λ (x, k).
        let seen = known_seen s (next st o) x k in
        ⊎_elim
        (λ same. absurd (unseen (record { last = seen.last; there = ap (λ (c : LruCache ℕ Answered). at s.id c.entries) (sym same) ∙ seen.there; reached = seen.reached })))
        (λ (t, a, b, run).
        ⊎_elim
        (λ (q : s.id ≡ t.id). ran t a b q run.replies (own cap query_of ids st o.ask room (n o (inl refl)) t a run) seen)
        (λ (d : s.id ≢ t.id). absurd (unseen (record { last = seen.last; there = sym (other cap query_of ids st o.ask room (n o (inl refl)) t a run s.id d) ∙ seen.there; reached = seen.reached })))
        (cases_eq s.id t.id))
        (moves cap query_of st o.ask))
        (is_known (known_at (next st o) s))
      where
        -- o is an attempt of it that ran, or a later request, behind which none of its attempts is answered
        ran : (t : Session) → session_of o.ask ≡ Some t → known_at st t ≡ None → s.id ≡ t.id → (replies : List _)
            → at t.id (next st o).sessions.entries ≡ Some (record { number = t.number; replies = replies }) → Seen s (next st o)
            → (q : Op) × Has (kept_by st o (session_of o.ask) (kept (next st o) os)) q × (session_of q.ask ≡ Some s)
        ran t a b q replies there seen =
            let last : Answered = record { number = t.number; replies = replies } in
            let mine : at s.id (next st o).sessions.entries ≡ Some last = ap (λ i. at i (next st o).sessions.entries) q ∙ there in
            let one : seen.last ≡ last = (let z : ◌≡◌ {A = Option Answered} (Some seen.last) (Some last) = sym seen.there ∙ mine in cc) in
            let number = ap (λ (y : Answered). y.number) one in
            ⊎_elim
            (λ (same : s.number ≡ t.number).
            let is : t ≡ s = sym (same_sessions s t q same) in
            let own_is : session_of o.ask ≡ Some s = a ∙ ap (λ (z : Session). Some z) is in
            by_kind (λ ps. (y : Op) × Has ps y × (session_of y.ask ≡ Some s)) st o (kept (next st o) os)
            (λ none. absurd (no_session o.ask t none a))
            (λ u e' k'. (merged ops u o, inl refl, own_is))
            (λ u x e' k'.
            let v : t ≡ u = one_session o.ask t u a e' in
            let z : ◌≡◌ {A = Option Outcome} None (Some x) = sym b ∙ (ap (known_at st) v ∙ k') in cc))
            (λ (d : s.number ≢ t.number).
            let less : s.number < t.number = (let reach = seen.reached in omega (arith, reach, number, d)) in
            let outdated : Holds (Unit {0}) s (Some outcome.Outdated) (next st o) = record { last = last; there = mine; how = inr (less, inl tt) } in
            ⊎_elim
            (λ z.
            let same = one_session o.ask t s a (ap (λ (x : Op). session_of x.ask) z ∙ e) in
            absurd (d (ap (λ (x : Session). x.number) (sym same))))
            (λ z.
            absurd (g (⊎_elim (λ y. y) (λ y. y) (later_answer (Unit {0}) s (Some outcome.Outdated) (next st o) os (room_after cap query_of ids st o.ask room (n o (inl refl))) (λ y w. n y (inr w)) l.1 (λ u y w. tt) outdated p r z e f))))
            h)
            (cases_eq s.number t.number)

-- ---- all together

abbrev has_session : Op → Bool
has_session o = is_some (session_of o.ask)

abbrev has_none : Op → Bool
has_none o = is_none (session_of o.ask)

module _ (cap : ℕ) (query_of : ℕ → queries.Query) (ids : List ℕ) (ops : List Op) (enough : length ids ≤ cap) (of : AreOf ids (map (λ o. o.ask) ops)) (lin : IsLinearizable (service cap query_of) ops) where
  abbrev first : State
  first = started cap

  abbrev stands : List Op
  stands = kept cap query_of ids ops lin.order first lin.order

  requests : List Op
  requests = filter has_none ops ++ filter has_session stands

  room : HasRoom ids first.sessions
  room = room_first cap query_of ids enough

  in_ops : (o : Op) → Has lin.order o → Has ops o
  in_ops o h = has ops o (element (Contains ops) lin.order o lin.only h)

  complete : (o : Op) (r : Return Answer) → Has ops o → o.returned ≡ Some r → Has lin.order o
  complete o r h e = has lin.order o (lin.complete o r (contains ops o h) e)

  named : (o : Op) → Has lin.order o → IsNamed cap query_of ids o.ask
  named o h = named_of cap query_of ids (session_of o.ask) (go ops of (in_ops o h)) where
    go : (os : List Op) → AreOf ids (map (λ p. p.ask) os) → Has os o → IfSome (session_of o.ask) (λ s. Contains ids s.id)
    go [] a k = absurd k
    go (p ∷ os) a (inl q) = subst (λ (x : Op). IfSome (session_of x.ask) (λ s. Contains ids s.id)) q a.0
    go (p ∷ os) a (inr k) = go os a.1 k

  past : (p : Op) → Has lin.order p → Has lin.order p ⊎ IfSome (session_of p.ask) (λ s. Seen s first)
  past p h = inl h

  are : (p : Op) → Has stands p → IsKept cap query_of ids ops lin.order first lin.order p
  are p h = are_kept cap query_of ids ops lin.order first lin.order room named p h

  unseen : (s : Session) → Seen s first → ⊥
  unseen s z = let none : ◌≡◌ {A = Option Answered} None (Some z.last) = z.there in cc

  -- ---- of which operations they are

  some_session : (z : Option Session) (s : Session) → z ≡ Some s → is_some z ≡ true
  some_session z s e = ap is_some e

  none_session : (z : Option Session) → z ≡ None → is_none z ≡ true
  none_session z e = ap is_none e

  not_none : (z : Option Session) (s : Session) → is_none z ≡ true → z ≡ Some s → ⊥
  not_none z s t e = let f : ◌≡◌ {A = Bool} false true = sym (ap is_none e) ∙ t in cc

  not_some : (z : Option Session) → is_some z ≡ true → z ≡ None → ⊥
  not_some z t e = let f : ◌≡◌ {A = Bool} false true = sym (ap is_some e) ∙ t in cc

  -- a request of a session stands
  session_stands : (s : Session) (o : Op) → session_of o.ask ≡ Some s → Contains requests o → Has stands o
  unfolding requests
  session_stands s o e c =
      ⊎_elim
      (λ h. absurd (not_none (session_of o.ask) s (filter_has has_none ops o h).1 e))
      (λ h. (filter_has has_session stands o h).0)
      (has_either (filter has_none ops) (filter has_session stands) o (has requests o c))

  stands_session : (s : Session) (o : Op) → session_of o.ask ≡ Some s → Has stands o → Contains requests o
  unfolding requests
  stands_session s o e h = contains requests o (has_right (filter has_none ops) (filter has_session stands) o (has_filter has_session stands o h (some_session (session_of o.ask) s e)))

  plain_ops : (o : Op) → session_of o.ask ≡ None → Contains requests o → Has ops o
  unfolding requests
  plain_ops o e c =
      ⊎_elim
      (λ h. (filter_has has_none ops o h).0)
      (λ h. absurd (not_some (session_of o.ask) (filter_has has_session stands o h).1 e))
      (has_either (filter has_none ops) (filter has_session stands) o (has requests o c))

  ops_plain : (o : Op) → session_of o.ask ≡ None → Has ops o → Contains requests o
  unfolding requests
  ops_plain o e h = contains requests o (has_left (filter has_none ops) (filter has_session stands) o (has_filter has_none ops o h (none_session (session_of o.ask) e)))

  -- the attempts of a request together
  request_of : (s : Session) (x : Op) → Has lin.order x → session_of x.ask ≡ Some s → IsRequest ops s (merged ops s x)
  request_of s x h e =
      let attempt : IsAttempt ops s x = (contains ops x (in_ops x h), e) in
      let first_is : (p : Op) × IsAttempt ops s p × ((merged ops s x).call ≡ p.call) =
      ⊎_elim
      (λ q. (x, attempt, q))
      (λ (c : IsCall s ops (merged ops s x).call). (c.operation, (contains ops c.operation c.there, c.session), c.call))
      (earliest_is s x.call ops)
      in
      record {
        one = x;
        attempt = attempt;
        ask = refl;
        first = first_is.0;
        earliest = first_is.1;
        call = first_is.2;
        no_earlier = λ p a. earliest_least s x.call ops p (has ops p a.0) a.1;
        returned = λ r f. let t = told_is s ops r f in (t.operation, (contains ops t.operation t.there, t.session), t.returned, t.ends);
        ended = λ p r a f g. told_some s ops p r (has ops p a.0) a.1 f g;
      }

  are_requests : AreRequests ops requests
  are_requests = record {
    others = λ o e. (λ c. contains ops o (plain_ops o e c), λ c. ops_plain o e (has ops o c));
    only = λ s o e c.
        ⊎_elim
        (λ a. absurd (no_session o.ask s a.0 e))
        (λ (t, x, hx, ex, f, g).
        let same : t ≡ s = one_session o.ask t s (ap (λ (z : Op). session_of z.ask) f ∙ ex) e in
        subst (λ z. IsRequest ops s z) (sym f) (subst (λ u. IsRequest ops u (merged ops t x)) same (request_of t x hx ex)))
        (are o (session_stands s o e c));
    once = λ s o p e f c d. kept_once cap query_of ids ops lin.order first lin.order room named s o p e f (session_stands s o e c) (session_stands s p f d);
    all = λ s p r a f g.
        let w = found cap query_of ids ops lin.order complete first lin.order room named lin.legal s (unseen s) p r (complete p r (has ops p a.0) f) a.1 f g in
        (w.0, stands_session s w.0 w.2 w.1, w.2);
  }

  linearizable : IsLinearizable (keys query_of) requests
  linearizable = record {
    order = stands;
    only = each (Contains requests) stands (λ p h.
        ⊎_elim
        (λ a. ops_plain p a.0 (in_ops p a.1))
        (λ (s, x, hx, ex, f, g). stands_session s p (ap (λ (z : Op). session_of z.ask) f ∙ ex) h)
        (are p h));
    complete = λ o r c e. contains stands o (by (session_of o.ask) o r c e refl);
    once = kept_distinct cap query_of ids ops lin.order complete first lin.order room named lin.once;
    legal = kept_legal cap query_of ids ops lin.order complete first lin.order room named past lin.legal;
    timely = kept_timely cap query_of ids ops lin.order complete first lin.order room named past lin.timely;
  }
    where
      by : (z : Option Session) (o : Op) (r : Return Answer) → Contains requests o → o.returned ≡ Some r → session_of o.ask ≡ z → Has stands o
      by None o r c e f = plain_kept cap query_of ids ops lin.order first lin.order o (complete o r (plain_ops o f c) e) f
      by (Some s) o r c e f = session_stands s o f c

pub requests_once : RequestsTakeEffectOnce
requests_once cap query_of ids ops enough of lin =
    (requests cap query_of ids ops enough of lin, are_requests cap query_of ids ops enough of lin, linearizable cap query_of ids ops enough of lin)
