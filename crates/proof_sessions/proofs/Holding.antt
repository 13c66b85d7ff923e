-- What is remembered of a request that was answered.
use Rattle.std.proofs.Common.{ℕ, ◌<◌, ◌≤◌, ◌≡◌, ◌≢◌, ◌⊎◌, inl, inr, ⊎_elim, List, [], ◌∷◌, ◌++◌, length, Option, Some, None, arith, refl, sym, ap, ◌∙◌, subst}
use Rattle.std.specs.Prelude.{Contains, IfSome}
use Rattle.std.specs.List.{fold}
use Rattle.std.proofs.lemmas.Bool.{cases_eq}
use Rattle.lru.specs.LruCache.{LruCache}
use Rattle.raft_machine.specs.Machine.{State, known}
use Rattle.raft_machine.specs.declared.command.Query as queries
use Rattle.raft_machine.specs.declared.machine.Answered.{Answered}
use Rattle.raft_machine.specs.declared.machine.Outcome.{Outcome}
use Rattle.raft_machine.specs.declared.machine.Outcome.TheVariants as outcome
use Rattle.raft_machine.specs.declared.machine.Session.{Session}
use Rattle.proof_clients.specs.Objects.{Ask, after, answer}
use Rattle.proof_sessions.specs.Laws.{HasLater, RepeatsChangeNothing}
use Rattle.proof_sessions.specs.Service.{Answer, service, session_of}
use Rattle.proof_sessions.proofs.Lists.{Has, contains, element, has, has_left, has_right}
use Rattle.proof_sessions.proofs.Remembered.{HasRoom, at, none_seen}
use Rattle.proof_sessions.proofs.Steps.{IsNamed, Seen, is_known, known_at, known_none, known_some, knows, moves, other, own, room_after, runs, seen_known}

-- Of a request that was answered so: its answer, or a later request. L says what holds if there was a later one.
pub record Holds (L : Type 0) (s : Session) (r : Answer) (st : State) : Type 0 where
  pub last : Answered
  pub there : at s.id st.sessions.entries ≡ Some last
  pub how : ((s.number ≡ last.number) × (r ≡ Some (outcome.Answered last.replies))) ⊎ ((s.number < last.number) × (L ⊎ (r ≡ Some outcome.Outdated)))

module _ (L : Type 0) (s : Session) (r : Answer) where
  pub held_seen : (st : State) → Holds L s r st → Seen s st
  held_seen st h = record { last = h.last; there = h.there; reached = ⊎_elim (λ a. omega (arith, a.0)) (λ a. omega (arith, a.0)) h.how }

module _ (cap : ℕ) (query_of : ℕ → queries.Query) where
  module _ (L : Type 0) (s : Session) where
    -- what a repeat is answered
    pub held_answer : (r : Answer) (st : State) (b : Ask) → session_of b ≡ Some s → Holds L s r st
        → (after (service cap query_of) st b ≡ st) × ((answer (service cap query_of) st b ≡ r) ⊎ ((answer (service cap query_of) st b ≡ Some outcome.Outdated) × L))
    held_answer r st b e h =
        ⊎_elim
        (λ k. absurd (seen_known s st (held_seen L s r st h) k))
        (λ (x, k).
        let n = knows cap query_of st b s x e k in
        let f = known_some s.number (at s.id st.sessions.entries) x k in
        let one : f.last ≡ h.last = (let z : ◌≡◌ {A = Option Answered} (Some f.last) (Some h.last) = sym f.there ∙ h.there in cc) in
        (n.same, told x n.told f.last one f.how h.how))
        (is_known (known_at st s))
      where
        told : (x : Outcome) → answer (service cap query_of) st b ≡ Some x → (last : Answered) → last ≡ h.last
            → ((s.number ≡ last.number) × (x ≡ outcome.Answered last.replies)) ⊎ ((s.number < last.number) × (x ≡ outcome.Outdated))
            → ((s.number ≡ h.last.number) × (r ≡ Some (outcome.Answered h.last.replies))) ⊎ ((s.number < h.last.number) × (L ⊎ (r ≡ Some outcome.Outdated)))
            → (answer (service cap query_of) st b ≡ r) ⊎ ((answer (service cap query_of) st b ≡ Some outcome.Outdated) × L)
        told x t last one (inl a) (inl c) = inl (t ∙ (ap (λ (y : Outcome). Some y) a.1 ∙ (ap (λ (l : Answered). Some (outcome.Answered l.replies)) one ∙ sym c.1)))
        told x t last one (inl a) (inr c) = let n = ap (λ (l : Answered). l.number) one in absurd (omega (arith, a.0, c.0, n))
        told x t last one (inr a) (inl c) = let n = ap (λ (l : Answered). l.number) one in absurd (omega (arith, a.0, c.0, n))
        told x t last one (inr a) (inr (l, inl later)) = inr (t ∙ ap (λ (y : Outcome). Some y) a.1, later)
        told x t last one (inr a) (inr (l, inr outdated)) = inl (t ∙ (ap (λ (y : Outcome). Some y) a.1 ∙ sym outdated))

    module _ (ids : List ℕ) (st : State) (a : Ask) (room : HasRoom ids st.sessions) (named : IsNamed cap query_of ids a) where
      -- it stays
      pub held_after : (r : Answer) → ((t : Session) → session_of a ≡ Some t → t.id ≡ s.id → s.number < t.number → L) → Holds L s r st → Holds L s r (after (service cap query_of) st a)
      held_after r later h =
          ⊎_elim
          (λ same. record { last = h.last; there = ap (λ (c : LruCache ℕ Answered). at s.id c.entries) same ∙ h.there; how = h.how })
          (λ (t, e, k, run).
          ⊎_elim
          (λ (q : s.id ≡ t.id).
          let newer = known_none t.number h.last (ap (known t.number) (sym h.there ∙ ap (λ i. at i st.sessions.entries) q) ∙ k) in
          let reach = (held_seen L s r st h).reached in
          let less : s.number < t.number = omega (arith, newer, reach) in
          record {
            last = record { number = t.number; replies = run.replies };
            there = ap (λ i. at i (after (service cap query_of) st a).sessions.entries) q ∙ own cap query_of ids st a room named t e run;
            how = inr (less, inl (later t e (sym q) less));
          })
          (λ (d : s.id ≢ t.id). record { last = h.last; there = other cap query_of ids st a room named t e run s.id d ∙ h.there; how = h.how })
          (cases_eq s.id t.id))
          (moves cap query_of st a)

      -- it begins
      pub held_first : session_of a ≡ Some s → Holds L s (answer (service cap query_of) st a) (after (service cap query_of) st a)
      held_first e =
          ⊎_elim
          (λ k.
          let run = runs cap query_of st a s e k in
          record { last = record { number = s.number; replies = run.replies }; there = own cap query_of ids st a room named s e run; how = inl (refl, run.answered) })
          (λ (x, k).
          let n = knows cap query_of st a s x e k in
          let f = known_some s.number (at s.id st.sessions.entries) x k in
          subst (Holds L s (answer (service cap query_of) st a)) (sym n.same)
          (record {
            last = f.last;
            there = f.there;
            how = ⊎_elim (λ b. inl (b.0, n.told ∙ ap (λ (y : Outcome). Some y) b.1)) (λ b. inr (b.0, inr (n.told ∙ ap (λ (y : Outcome). Some y) b.1))) f.how;
          }))
          (is_known (known_at st s))

  -- ---- over operations

  module _ (ids : List ℕ) where
    pub named_of : (o : Option Session) → IfSome o (λ s. Contains ids s.id) → IfSome o (λ s. Has ids s.id)
    named_of None h = tt
    named_of (Some s) h = has ids s.id h

    pub room_first : length ids ≤ cap → HasRoom ids (service cap query_of).first.sessions
    room_first l = let all = none_seen ids in omega (arith, all, l)

    room_through : (asks : List Ask) (st : State) → HasRoom ids st.sessions → ((a : Ask) → Has asks a → IsNamed cap query_of ids a) → HasRoom ids (fold (after (service cap query_of)) st asks).sessions
    room_through [] st room n = room
    room_through (a ∷ asks) st room n = room_through asks (after (service cap query_of) st a) (room_after cap query_of ids st a room (n a (inl refl))) (λ b h. n b (inr h))

    held_through : (L : Type 0) (s : Session) (r : Answer) (asks : List Ask) (st : State) → HasRoom ids st.sessions → ((a : Ask) → Has asks a → IsNamed cap query_of ids a)
        → ((a : Ask) (t : Session) → Has asks a → session_of a ≡ Some t → t.id ≡ s.id → s.number < t.number → L) → Holds L s r st → Holds L s r (fold (after (service cap query_of)) st asks)
    held_through L s r [] st room n later h = h
    held_through L s r (a ∷ asks) st room n later h =
        held_through L s r asks (after (service cap query_of) st a) (room_after cap query_of ids st a room (n a (inl refl))) (λ b g. n b (inr g)) (λ b t g. later b t (inr g))
        (held_after L s ids st a room (n a (inl refl)) r (λ t. later a t (inl refl)) h)

fold_both : {A B : Type 0} (f : B → A → B) (b : B) (xs ys : List A) → fold f b (xs ++ ys) ≡ fold f (fold f b xs) ys
fold_both f b [] ys = refl
fold_both f b (x ∷ xs) ys = fold_both f (f b x) xs ys

pub repeats : RepeatsChangeNothing
repeats cap query_of ids before between first again s l named e f =
    let m = service cap query_of in
    let asks : List Ask = before ++ first ∷ between in
    let n : (a : Ask) → Has asks a → IsNamed cap query_of ids a = (λ a h. named_of cap query_of ids (session_of a) (element (λ b. IfSome (session_of b) (λ t. Contains ids t.id)) asks a named h)) in
    let then : State = fold (after m) m.first before in
    let room = room_through cap query_of ids before m.first (room_first cap query_of ids l) (λ a h. n a (has_left before (first ∷ between) a h)) in
    let is_named = n first (has_right before (first ∷ between) first (inl refl)) in
    let held = held_first cap query_of (HasLater s asks) s ids then first room is_named e in
    let now = held_through cap query_of ids (HasLater s asks) s (answer m then first) between (after m then first) (room_after cap query_of ids then first room is_named)
    (λ a h. n a (has_right before (first ∷ between) a (inr h)))
    (λ a t h p q less. (a, t, contains asks a (has_right before (first ∷ between) a (inr h)), p, q, less))
    held in
    subst
    (λ (st : State). (after m st again ≡ st) × ((answer m st again ≡ answer m then first) ⊎ ((answer m st again ≡ Some outcome.Outdated) × HasLater s asks)))
    (sym (fold_both (after m) m.first before (first ∷ between)))
    (held_answer cap query_of (HasLater s asks) s (answer m then first) (fold (after m) (after m then first) between) again f now)
