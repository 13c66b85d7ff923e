-- What is open at servers, once the first have their answers, or all have ended.
use Rattle.std.proofs.Common.{ℕ, ◌<◌, ◌≡◌, ◌≢◌, ◌⊎◌, inl, inr, ⊎_elim, true, false, List, [], ◌∷◌, ◌++◌, length, drop, arith, refl, sym, ap, ◌∙◌, subst, None, Some}
use Rattle.std.specs.Prelude.{Contains, nat_eq}
use Rattle.std.proofs.lemmas.Bool.{cases_eq, eq-eqb, ne_eqb}
use Rattle.std.proofs.lemmas.List.Elements.{Contains-append_cases, Contains-append_left, Contains-append_right}
use Rattle.raft_answers.specs.declared.answer.Reply.{Reply}
use Rattle.proof_clients.proofs.Sequences.{element, first_or}
use Rattle.proof_clients.proofs.Slots.{here, there}
use Rattle.proof_requests.specs.Clients.{AnswerFirst, AreOver, AreTwoRequests, Exchange, answered_with, unanswered, with_one}
use Rattle.proof_requests.specs.Requests.{AllPairs, Asked, Rises}
use Rattle.proof_requests.proofs.Lists.{all_append, all_in, none_in, rises_apart, rises_left}

-- one value in another's place
pub one_own : {A : Type 0} (id : ℕ) (x : A) (f : ℕ → A) → with_one id x f id ≡ x
one_own id x f = (let e : nat_eq id id ≡ true = eq-eqb id id refl in rw e refl)

pub one_other : {A : Type 0} (id other : ℕ) (x : A) (f : ℕ → A) → other ≢ id → with_one id x f other ≡ f other
one_other id other x f d = (let e : nat_eq other id ≡ false = ne_eqb other id d in rw e refl)

-- exchanges that are over now, behind others
pub over_once : (es fs : List Exchange) → AreOver es → AreOver fs → ((e f : Exchange) → Contains es e → Contains fs f → AreTwoRequests e f) → AreOver (es ++ fs)
over_once [] fs a b f = b
over_once (e ∷ es) fs a b f = (
  all_append (AreTwoRequests e) es fs a.0 (all_in (AreTwoRequests e) fs (λ x c. f e x (here e es) c)),
  over_once es fs a.1 b (λ x y c d. f x y (there e es x c) d),
)

-- Answers

module _ (id told : ℕ) where
  drop_is : (P : Asked → Reply → Type 0) (closed left : List Asked) (rs : List Reply) → AllPairs P closed rs → drop (length rs) (closed ++ left) ≡ left
  drop_is P [] [] [] h = refl
  drop_is P [] (x ∷ left) [] h = refl
  drop_is P [] left (r ∷ rs) h = absurd h
  drop_is P (c ∷ closed) left [] h = absurd h
  drop_is P (c ∷ closed) left (r ∷ rs) h = drop_is P closed left rs h.1

  -- the exchanges of these replies
  pub record Tells (P : Asked → Reply → Type 0) (closed : List Asked) (e : Exchange) : Type 0 where
    pub server : e.server ≡ id
    pub asked : Contains closed e.asked
    pub reply : Reply
    pub is : P e.asked reply
    pub answer : e.answer ≡ Some reply.answer
    pub at : e.told ≡ told

  answered_in : (P : Asked → Reply → Type 0) (closed left : List Asked) (rs : List Reply) → AllPairs P closed rs → (e : Exchange) → Contains (answered_with id told (closed ++ left) rs) e → Tells P closed e
  answered_in P [] [] [] h e c = absurd (none_in e c)
  answered_in P [] (x ∷ left) [] h e c = absurd (none_in e c)
  answered_in P [] left (r ∷ rs) h e c = absurd h
  answered_in P (a ∷ closed) left [] h e c = absurd h
  answered_in P (a ∷ closed) left (r ∷ rs) h e c =
      ⊎_elim
      (λ q. subst (Tells P (a ∷ closed)) q (record { server = refl; asked = here a closed; reply = r; is = h.0; answer = refl; at = refl }))
      (λ d. let z = answered_in P closed left rs h.1 e d in record { server = z.server; asked = there a closed e.asked z.asked; reply = z.reply; is = z.is; answer = z.answer; at = z.at })
      (first_or (record { server = id; asked = a; answer = Some r.answer; told = told }) (answered_with id told (closed ++ left) rs) e c)

  closed_in : (P : Asked → Reply → Type 0) (closed left : List Asked) (rs : List Reply) → AllPairs P closed rs → (a : Asked) → Contains closed a
      → (e : Exchange) × Contains (answered_with id told (closed ++ left) rs) e × (e.server ≡ id) × (e.asked ≡ a)
  closed_in P [] left rs h a c = absurd (none_in a c)
  closed_in P (b ∷ closed) left [] h a c = absurd h
  closed_in P (b ∷ closed) left (r ∷ rs) h a c =
      let one : Exchange = record { server = id; asked = b; answer = Some r.answer; told = told } in
      ⊎_elim
      (λ q. (one, here one (answered_with id told (closed ++ left) rs), refl, q))
      (λ d. let z = closed_in P closed left rs h.1 a d in (z.0, there one (answered_with id told (closed ++ left) rs) z.0 z.1, z.2, z.3))
      (first_or b closed a c)

  pub answered_once : (asks : List Asked) (rs : List Reply) → Rises asks → AreOver (answered_with id told asks rs)
  answered_once [] rs r = tt
  answered_once (a ∷ asks) [] r = tt
  answered_once (a ∷ asks) (x ∷ rs) r = (
    all_in (AreTwoRequests (record { server = id; asked = a; answer = Some x.answer; told = told })) (answered_with id told asks rs)
        (λ e c. let l : a.number < e.asked.number = element (λ (b : Asked). a.number < b.number) asks e.asked r.0 (among asks rs e c) in inr (λ q. omega (arith, l, q))),
    answered_once asks rs r.1,
  )
    where
      among : (asks : List Asked) (rs : List Reply) (e : Exchange) → Contains (answered_with id told asks rs) e → Contains asks e.asked
      among [] rs e c = absurd (none_in e c)
      among (a ∷ asks) [] e c = absurd (none_in e c)
      among (a ∷ asks) (x ∷ rs) e c =
          ⊎_elim
          (λ q. subst (λ (y : Exchange). Contains (a ∷ asks) y.asked) q (here a asks))
          (λ d. there a asks e.asked (among asks rs e d))
          (first_or (record { server = id; asked = a; answer = Some x.answer; told = told }) (answered_with id told asks rs) e c)

  -- No answers

  -- the exchange of one that ended
  pub record Ended (asks : List Asked) (e : Exchange) : Type 0 where
    pub server : e.server ≡ id
    pub asked : Contains asks e.asked
    pub none : e.answer ≡ None
    pub at : e.told ≡ told

  pub unanswered_in : (asks : List Asked) (e : Exchange) → Contains (unanswered id told asks) e → Ended asks e
  unanswered_in [] e c = absurd (none_in e c)
  unanswered_in (a ∷ asks) e c =
      ⊎_elim
      (λ q. subst (Ended (a ∷ asks)) q (record { server = refl; asked = here a asks; none = refl; at = refl }))
      (λ d. let z = unanswered_in asks e d in record { server = z.server; asked = there a asks e.asked z.asked; none = z.none; at = z.at })
      (first_or (record { server = id; asked = a; answer = None; told = told }) (unanswered id told asks) e c)

  pub in_unanswered : (asks : List Asked) (a : Asked) → Contains asks a → (e : Exchange) × Contains (unanswered id told asks) e × (e.server ≡ id) × (e.asked ≡ a)
  in_unanswered [] a c = absurd (none_in a c)
  in_unanswered (b ∷ asks) a c =
      let one : Exchange = record { server = id; asked = b; answer = None; told = told } in
      ⊎_elim
      (λ q. (one, here one (unanswered id told asks), refl, q))
      (λ d. let z = in_unanswered asks a d in (z.0, there one (unanswered id told asks) z.0 z.1, z.2, z.3))
      (first_or b asks a c)

  pub unanswered_once : (asks : List Asked) → Rises asks → AreOver (unanswered id told asks)
  unanswered_once [] r = tt
  unanswered_once (a ∷ asks) r = (
    all_in (AreTwoRequests (record { server = id; asked = a; answer = None; told = told })) (unanswered id told asks)
        (λ e c. let l : a.number < e.asked.number = element (λ (b : Asked). a.number < b.number) asks e.asked r.0 (unanswered_in asks e c).asked in inr (λ q. omega (arith, l, q))),
    unanswered_once asks r.1,
  )

-- Queues

-- the first of these got these replies, and the others are left
pub record FirstAnswered (P : Asked → Reply → Type 0) (asks : List Asked) (rs : List Reply) : Type 0 where
  pub closed : List Asked
  pub left : List Asked
  pub all : asks ≡ closed ++ left
  pub each : AllPairs P closed rs

-- what is open at each server then
abbrev pub left_at : ℕ → (ℕ → List Asked) → List Reply → ℕ → List Asked
left_at id queue rs = with_one id (drop (length rs) (queue id)) queue

module _ (id told : ℕ) (P : Asked → Reply → Type 0) (queue : ℕ → List Asked) (rs : List Reply) (f : FirstAnswered P (queue id) rs) where
  abbrev fresh : List Exchange
  fresh = answered_with id told (queue id) rs

  pub own_left : left_at id queue rs id ≡ f.left
  own_left = one_own id (drop (length rs) (queue id)) queue ∙ (ap (drop (length rs)) f.all ∙ drop_is id told P f.closed f.left rs f.each)

  other_left : (i : ℕ) → i ≢ id → left_at id queue rs i ≡ queue i
  other_left i d = one_other id i (drop (length rs) (queue id)) queue d

  left_was : (a : Asked) → Contains (left_at id queue rs id) a → Contains (queue id) a
  left_was a c = subst (λ xs. Contains xs a) (sym f.all) (Contains-append_right f.closed f.left a (subst (λ xs. Contains xs a) own_left c))

  pub still_open : (i : ℕ) (a : Asked) → Contains (left_at id queue rs i) a → Contains (queue i) a
  still_open i a c =
      ⊎_elim
      (λ (q : i ≡ id). subst (λ (j : ℕ). Contains (queue j) a) (sym q) (left_was a (subst (λ (j : ℕ). Contains (left_at id queue rs j) a) q c)))
      (λ d. subst (λ xs. Contains xs a) (other_left i d) c)
      (cases_eq i id)

  -- what was open is so still, or over now
  pub open_or_over : (i : ℕ) (a : Asked) → Contains (queue i) a → Contains (left_at id queue rs i) a ⊎ ((e : Exchange) × Contains fresh e × (e.server ≡ i) × (e.asked ≡ a))
  open_or_over i a c =
      ⊎_elim
      (λ (q : i ≡ id).
      let y : Contains (f.closed ++ f.left) a = subst (λ xs. Contains xs a) f.all (subst (λ (j : ℕ). Contains (queue j) a) q c) in
      ⊎_elim
      (λ z.
      let x = closed_in id told P f.closed f.left rs f.each a z in
      inr (x.0, subst (λ xs. Contains (answered_with id told xs rs) x.0) (sym f.all) x.1, x.2 ∙ sym q, x.3))
      (λ z. inl (subst (λ (j : ℕ). Contains (left_at id queue rs j) a) (sym q) (subst (λ xs. Contains xs a) (sym own_left) z)))
      (Contains-append_cases f.closed f.left a y))
      (λ d. inl (subst (λ xs. Contains xs a) (sym (other_left i d)) c))
      (cases_eq i id)

  pub tells_of : (e : Exchange) → Contains fresh e → Tells id told P f.closed e
  tells_of e c = answered_in id told P f.closed f.left rs f.each e (subst (λ xs. Contains (answered_with id told xs rs) e) f.all c)

  pub was_open : (e : Exchange) → Contains fresh e → Contains (queue id) e.asked
  was_open e c = subst (λ xs. Contains xs e.asked) (sym f.all) (Contains-append_left f.closed f.left e.asked (tells_of e c).asked)

  pub queues_rise : ((i : ℕ) → Rises (queue i)) → (i : ℕ) → Rises (left_at id queue rs i)
  queues_rise r i =
      ⊎_elim
      (λ (q : i ≡ id). subst (λ (j : ℕ). Rises (left_at id queue rs j)) (sym q) (subst Rises (sym own_left) (rises_left f.closed f.left (subst Rises f.all (r id)))))
      (λ d. subst Rises (sym (other_left i d)) (r i))
      (cases_eq i id)

  -- what is over has lower numbers
  pub over_below : Rises (queue id) → (e : Exchange) → Contains fresh e → (a : Asked) → Contains (left_at id queue rs id) a → e.asked.number < a.number
  over_below r e c a d = rises_apart f.closed f.left e.asked a (subst Rises f.all r) (tells_of e c).asked (subst (λ xs. Contains xs a) own_left d)

  pub tokens_first : ((a : Asked) (r : Reply) → P a r → r.token ≡ a.token) → AnswerFirst rs (queue id)
  tokens_first token = subst (AnswerFirst rs) (sym f.all) (go f.closed rs f.each)
    where
      go : (closed : List Asked) (qs : List Reply) → AllPairs P closed qs → AnswerFirst qs (closed ++ f.left)
      go [] [] h = tt
      go [] (r ∷ qs) h = absurd h
      go (a ∷ closed) [] h = absurd h
      go (a ∷ closed) (r ∷ qs) h = (token a r h.0, go closed qs h.1)

-- One more waits at a server

abbrev pub more_at : ℕ → (ℕ → List Asked) → Asked → ℕ → List Asked
more_at id queue one = with_one id (queue id ++ one ∷ []) queue

module _ (id : ℕ) (queue : ℕ → List Asked) (one : Asked) where
  pub was_or_one : (i : ℕ) (a : Asked) → Contains (more_at id queue one i) a → Contains (queue i) a ⊎ ((i ≡ id) × (a ≡ one))
  was_or_one i a c =
      ⊎_elim
      (λ (q : i ≡ id).
      let y : Contains (queue id ++ one ∷ []) a = subst (λ xs. Contains xs a) (one_own id (queue id ++ one ∷ []) queue) (subst (λ (j : ℕ). Contains (more_at id queue one j) a) q c) in
      ⊎_elim
      (λ z. inl (subst (λ (j : ℕ). Contains (queue j) a) (sym q) z))
      (λ z. ⊎_elim (λ e. inr (q, sym e)) (λ e. absurd (none_in a e)) (first_or one [] a z))
      (Contains-append_cases (queue id) (one ∷ []) a y))
      (λ d. inl (subst (λ xs. Contains xs a) (one_other id i (queue id ++ one ∷ []) queue d) c))
      (cases_eq i id)

  pub more_still : (i : ℕ) (a : Asked) → Contains (queue i) a → Contains (more_at id queue one i) a
  more_still i a c =
      ⊎_elim
      (λ (q : i ≡ id).
      subst (λ (j : ℕ). Contains (more_at id queue one j) a) (sym q)
      (subst (λ xs. Contains xs a) (sym (one_own id (queue id ++ one ∷ []) queue)) (Contains-append_left (queue id) (one ∷ []) a (subst (λ (j : ℕ). Contains (queue j) a) q c))))
      (λ d. subst (λ xs. Contains xs a) (sym (one_other id i (queue id ++ one ∷ []) queue d)) c)
      (cases_eq i id)

-- All of a server's end

abbrev pub none_at : ℕ → (ℕ → List Asked) → ℕ → List Asked
none_at id queue = with_one id [] queue

module _ (id told : ℕ) (queue : ℕ → List Asked) where
  pub none_own : (a : Asked) → Contains (none_at id queue id) a → ⊥
  none_own a c = none_in a (subst (λ xs. Contains xs a) (one_own id [] queue) c)

  pub end_was : (i : ℕ) (a : Asked) → Contains (none_at id queue i) a → Contains (queue i) a
  end_was i a c =
      ⊎_elim
      (λ (q : i ≡ id). absurd (none_own a (subst (λ (j : ℕ). Contains (none_at id queue j) a) q c)))
      (λ d. subst (λ xs. Contains xs a) (one_other id i [] queue d) c)
      (cases_eq i id)

  pub open_or_ended : (i : ℕ) (a : Asked) → Contains (queue i) a
      → Contains (none_at id queue i) a ⊎ ((e : Exchange) × Contains (unanswered id told (queue id)) e × (e.server ≡ i) × (e.asked ≡ a))
  open_or_ended i a c =
      ⊎_elim
      (λ (q : i ≡ id).
      let z = in_unanswered id told (queue id) a (subst (λ (j : ℕ). Contains (queue j) a) q c) in
      inr (z.0, z.1, z.2 ∙ sym q, z.3))
      (λ d. inl (subst (λ xs. Contains xs a) (sym (one_other id i [] queue d)) c))
      (cases_eq i id)

  pub ends_rise : ((i : ℕ) → Rises (queue i)) → (i : ℕ) → Rises (none_at id queue i)
  ends_rise r i =
      ⊎_elim
      (λ (q : i ≡ id). subst (λ (j : ℕ). Rises (none_at id queue j)) (sym q) (subst Rises (sym (one_own id [] queue)) tt))
      (λ d. subst Rises (sym (one_other id i [] queue d)) (r i))
      (cases_eq i id)
