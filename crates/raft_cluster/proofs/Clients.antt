-- What clients asked and were told stays what they asked servers, and were told by them.
use Rattle.std.proofs.Common.{ℕ, zero, suc, ◌+◌, ◌-◌, ◌<◌, ◌≤◌, ◌≡◌, ◌∙◌, ◌⊎◌, inl, inr, ⊎_elim, List, [], ◌∷◌, ◌++◌, length, drop, None, Some, Option, arith, refl, sym, ap, subst}
use Rattle.std.specs.Prelude.{Contains, slice_get}
use Rattle.std.specs.List.{AllByRecursion}
use Rattle.std.proofs.lemmas.Bool.{cases_eq, cases_lt}
use Rattle.std.proofs.lemmas.List.{length-append, map-append}
use Rattle.std.proofs.lemmas.List.Elements.{Contains-append_cases}
use Rattle.raft_answers.specs.declared.answer.Reply.{Reply}
use Rattle.raft_answers.specs.declared.answer.Answer.{Answer}
use Rattle.raft_answers.specs.declared.request.Operation.{Operation}
use Rattle.raft_answers.specs.declared.request.Operation.TheVariants.{Read}
use Rattle.raft_answers.specs.declared.request.Token.{Token}
use Rattle.proof_requests.specs.raft_core.raft_peers.declared.output.Output.{Output}
use Rattle.proof_requests.specs.raft_core.Laws.{read_replies_of, replies_of}
use Rattle.proof_requests.specs.raft_core.Views.{CoreView}
use Rattle.proof_clients.proofs.Sequences.{each_of, element, first_or}
use Rattle.proof_clients.proofs.Slots.{here, slot_below, there}
use Rattle.proof_requests.proofs.proof_answers_proofs.Prefixes.{slot_cases, slot_last, slot_more}
use Rattle.proof_requests.specs.Clients.{AnswerFirst, Cores, Exchange, IsOpen, after_call, after_end, after_read, after_request, answered_with, no_cores, unanswered, with_one}
use Rattle.proof_requests.specs.Requests.{AllPairs, Asked}
use Rattle.proof_requests.proofs.Lists.{all_append, all_in, contains_slot, none_in, pairs_append, slot_behind, slot_less}
use Rattle.proof_requests.proofs.Queues.{end_was, more_at, one_other, one_own, unanswered_in, was_or_one}
use Rattle.raft_cluster.specs.declared.told.Asked.{Asked as Noted}
use Rattle.raft_cluster.specs.Clients.{AreClients, HasPlace, IsNoted, IsToldBy, those_answered}
use Rattle.raft_cluster.specs.Clusters.{answers_of}

pub pairs_length : {A B : Type 0} (P : A → B → Type 0) (xs : List A) (ys : List B) → AllPairs P xs ys → length xs ≡ length ys
pairs_length P [] [] h = refl
pairs_length P [] (y ∷ ys) h = absurd h
pairs_length P (x ∷ xs) [] h = absurd h
pairs_length P (x ∷ xs) (y ∷ ys) h = ap suc (pairs_length P xs ys h.1)

contains_drop : {A : Type 0} (k : ℕ) (xs : List A) (x : A) → Contains (drop k xs) x → Contains xs x
contains_drop zero [] x c = c
contains_drop zero (y ∷ xs) x c = c
contains_drop (suc k) [] x c = c
contains_drop (suc k) (y ∷ xs) x c = there y xs x (contains_drop k xs x c)

-- no requests
pub clients_first : {S : Type 0} → AreClients {S = S} 0 no_cores [] []
clients_first = record {
  requests = [];
  each = tt;
  numbers = λ i row a p q. cc;
  single = λ i k row other a b p q r t u v. cc;
  opened = λ id a c. absurd (⊎_elim (none_in a) (none_in a) c);
  over = λ e c. absurd (none_in e c);
  answered = tt;
  before = λ j e c. cc;
  early = tt;
  within = tt;
  since = λ i j row a e c. cc;
}

-- a place stays
place_on : (noted more : List Noted) (requests news : List Asked) (id : ℕ) (a : Asked) (before later : ℕ) → before ≤ later → HasPlace noted requests id a before → HasPlace (noted ++ more) (requests ++ news) id a later
place_on noted more requests news id a before later l p = record {
  place = p.place;
  row = p.row;
  there = slot_more noted more p.place p.row p.there;
  is = slot_more requests news p.place a p.is;
  node = p.node;
  after = (let k = p.after in omega (arith, k, l));
}

place_later : (noted : List Noted) (requests : List Asked) (id : ℕ) (a : Asked) (before later : ℕ) → before ≤ later → HasPlace noted requests id a before → HasPlace noted requests id a later
place_later noted requests id a before later l p = record { place = p.place; row = p.row; there = p.there; is = p.is; node = p.node; after = (let k = p.after in omega (arith, k, l)) }

-- exchanges that have an answer
answered_both : (xs ys : List Exchange) → those_answered (xs ++ ys) ≡ those_answered xs ++ those_answered ys
answered_both [] ys = refl
answered_both (x ∷ xs) ys = go x.answer (answered_both xs ys)
  where
    go : (o : Option Answer) → those_answered (xs ++ ys) ≡ those_answered xs ++ those_answered ys
        → ◌≡◌ {A = List Exchange} (elim o as (λ _. List Exchange) [ None ↦ those_answered (xs ++ ys) | Some y ↦ x ∷ those_answered (xs ++ ys) ]) ((elim o as (λ _. List Exchange) [ None ↦ those_answered xs | Some y ↦ x ∷ those_answered xs ]) ++ those_answered ys)
    go None rest = rest
    go (Some y) rest = ap (λ zs. x ∷ zs) rest

all_answered : (id told : ℕ) (asks : List Asked) (rs : List Reply) → those_answered (answered_with id told asks rs) ≡ answered_with id told asks rs
all_answered id told [] rs = refl
all_answered id told (a ∷ asks) [] = refl
all_answered id told (a ∷ asks) (r ∷ rs) = ap (λ es. record { server = id; asked = a; answer = Some r.answer; told = told } ∷ es) (all_answered id told asks rs)

none_answered : (id told : ℕ) (asks : List Asked) → those_answered (unanswered id told asks) ≡ []
none_answered id told [] = refl
none_answered id told (a ∷ asks) = none_answered id told asks

-- one of the first requests
record IsFresh (id told : ℕ) (asks : List Asked) (e : Exchange) : Type 0 where
  server : e.server ≡ id
  asked : Contains asks e.asked
  at : e.told ≡ told

fresh_of : (id told : ℕ) (asks : List Asked) (rs : List Reply) (e : Exchange) → Contains (answered_with id told asks rs) e → IsFresh id told asks e
fresh_of id told [] rs e c = absurd (none_in e c)
fresh_of id told (a ∷ asks) [] e c = absurd (none_in e c)
fresh_of id told (a ∷ asks) (r ∷ rs) e c =
    ⊎_elim
    (λ q. subst (IsFresh id told (a ∷ asks)) q (record { server = refl; asked = here a asks; at = refl }))
    (λ d. let z = fresh_of id told asks rs e d in record { server = z.server; asked = there a asks e.asked z.asked; at = z.at })
    (first_or (record { server = id; asked = a; answer = Some r.answer; told = told }) (answered_with id told asks rs) e c)

told_by : (id told : ℕ) (rs : List Reply) (asks : List Asked) → AnswerFirst rs asks → AllPairs IsToldBy (answers_of id rs) (answered_with id told asks rs)
told_by id told [] [] h = tt
told_by id told [] (a ∷ asks) h = tt
told_by id told (r ∷ rs) [] h = absurd h
told_by id told (r ∷ rs) (a ∷ asks) h = (record { node = refl; token = h.0; answer = refl }, told_by id told rs asks h.1)

told_by_both : (id told : ℕ) (rs qs : List Reply) (asks reads : List Asked) → AnswerFirst rs asks → AnswerFirst qs reads
    → AllPairs IsToldBy (answers_of id (rs ++ qs)) (answered_with id told asks rs ++ answered_with id told reads qs)
told_by_both id told rs qs asks reads h k =
    subst (λ ys. AllPairs IsToldBy ys (answered_with id told asks rs ++ answered_with id told reads qs)) (sym (map-append (λ (r : Reply). (id, r)) rs qs))
    (pairs_append IsToldBy (answers_of id rs) (answered_with id told asks rs) (answers_of id qs) (answered_with id told reads qs) (told_by id told rs asks h) (told_by id told qs reads k))

-- where the first were answered, the others were there
left_was : (id k : ℕ) (queue : ℕ → List Asked) (i : ℕ) (a : Asked) → Contains (with_one id (drop k (queue id)) queue i) a → Contains (queue i) a
left_was id k queue i a c =
    ⊎_elim
    (λ (q : i ≡ id).
    subst (λ (j : ℕ). Contains (queue j) a) (sym q)
    (contains_drop k (queue id) a (subst (λ xs. Contains xs a) (one_own id (drop k (queue id)) queue) (subst (λ (j : ℕ). Contains (with_one id (drop k (queue id)) queue j) a) q c))))
    (λ d. subst (λ xs. Contains xs a) (one_other id i (drop k (queue id)) queue d) c)
    (cases_eq i id)

module _ {S : Type 0} (count : ℕ) (s : Cores S) (noted : List Noted) (answers : List (ℕ × Reply)) (h : AreClients count s noted answers) where
  lengths : length answers ≡ length (those_answered s.done)
  lengths = pairs_length IsToldBy answers (those_answered s.done) h.answered

  rows : length noted ≡ length h.requests
  rows = pairs_length IsNoted noted h.requests h.each

  -- replies of a server, to requests and to reads
  module _ (id : ℕ) (out : List (Output S)) (new : CoreView S) (later : ℕ) (up : count ≤ later) (first : AnswerFirst (replies_of out) (s.open_at id)) (first_reads : AnswerFirst (read_replies_of out) (s.reads_at id)) where
    abbrev rs : List Reply
    rs = replies_of out

    abbrev qs : List Reply
    qs = read_replies_of out

    abbrev after : Cores S
    after = after_call id out new later s

    abbrev fresh : List Exchange
    fresh = answered_with id later (s.open_at id) rs ++ answered_with id later (s.reads_at id) qs

    abbrev told : List (ℕ × Reply)
    told = answers ++ answers_of id (rs ++ qs)

    more : length answers ≤ length told
    more = (let m : length told ≡ length answers + length (answers_of id (rs ++ qs)) = length-append answers (answers_of id (rs ++ qs)) in omega (arith, m))

    fresh_answered : those_answered fresh ≡ fresh
    fresh_answered =
        answered_both (answered_with id later (s.open_at id) rs) (answered_with id later (s.reads_at id) qs)
        ∙ (λ i. all_answered id later (s.open_at id) rs i ++ all_answered id later (s.reads_at id) qs i)

    are : those_answered (s.done ++ fresh) ≡ those_answered s.done ++ fresh
    are = answered_both s.done fresh ∙ ap (λ es. those_answered s.done ++ es) fresh_answered

    fresh_is : (e : Exchange) → Contains fresh e → (e.server ≡ id) × IsOpen s id e.asked × (e.told ≡ later)
    fresh_is e c =
        ⊎_elim
        (λ d. let f = fresh_of id later (s.open_at id) rs e d in (f.server, inl f.asked, f.at))
        (λ d. let f = fresh_of id later (s.reads_at id) qs e d in (f.server, inr f.asked, f.at))
        (Contains-append_cases (answered_with id later (s.open_at id) rs) (answered_with id later (s.reads_at id) qs) e c)

    fresh_place : (e : Exchange) → Contains fresh e → HasPlace noted h.requests e.server e.asked (length answers)
    fresh_place e c = let f = fresh_is e c in subst (λ i. HasPlace noted h.requests i e.asked (length answers)) (sym f.0) (h.opened id e.asked f.1)

    slot_of : (j : ℕ) (e : Exchange) → slice_get (those_answered (s.done ++ fresh)) j ≡ Some e → (slice_get (those_answered s.done) j ≡ Some e) ⊎ ((length answers ≤ j) × Contains fresh e)
    slot_of j e q =
        let p : slice_get (those_answered s.done ++ fresh) j ≡ Some e = ap (λ es. slice_get es j) (sym are) ∙ q in
        ⊎_elim
        (λ (l : j < length (those_answered s.done)). inl (sym (slot_less (those_answered s.done) fresh j l) ∙ p))
        (λ (l : length (those_answered s.done) ≤ j).
        let k : ℕ = j - length (those_answered s.done) in
        let at : j ≡ length (those_answered s.done) + k = omega (arith, l) in
        inr ((let m = lengths in omega (arith, m, l)), contains_slot fresh k e (sym (slot_behind (those_answered s.done) fresh k j at) ∙ p)))
        (cases_lt j (length (those_answered s.done)))

    -- what is open then was so before
    was_open : (i : ℕ) (a : Asked) → IsOpen after i a → IsOpen s i a
    was_open i a (inl c) = inl (left_was id (length rs) s.open_at i a c)
    was_open i a (inr c) = inr (left_was id (length qs) s.reads_at i a c)

    pub clients_call : AreClients later after noted told
    clients_call = record {
      requests = h.requests;
      each = h.each;
      numbers = h.numbers;
      single = h.single;
      opened = λ i a c. place_later noted h.requests i a (length answers) (length told) more (h.opened i a (was_open i a c));
      over = λ e c.
          place_later noted h.requests e.server e.asked (length answers) (length told) more
          (⊎_elim (λ d. h.over e d) (λ d. fresh_place e d) (Contains-append_cases s.done fresh e c));
      answered = subst (AllPairs IsToldBy told) (sym are)
          (pairs_append IsToldBy answers (those_answered s.done) (answers_of id (rs ++ qs)) fresh h.answered (told_by_both id later rs qs (s.open_at id) (s.reads_at id) first first_reads));
      before = λ j e q. ⊎_elim (λ d. h.before j e d) (λ d. place_later noted h.requests e.server e.asked (length answers) j d.0 (fresh_place e d.1)) (slot_of j e q);
      early = subst (AllByRecursion (λ (e : Exchange). e.told ≤ later)) (sym are)
          (all_append (λ (e : Exchange). e.told ≤ later) (those_answered s.done) fresh
          (each_of (λ (e : Exchange). e.told ≤ count) (λ (e : Exchange). e.told ≤ later) (λ e l. omega (arith, l, up)) (those_answered s.done) h.early)
          (all_in (λ (e : Exchange). e.told ≤ later) fresh (λ e c. let t : e.told ≡ later = (fresh_is e c).2 in omega (arith, t))));
      within = each_of (λ (row : Noted). row.after ≤ length answers) (λ (row : Noted). row.after ≤ length told) (λ row l. let m = more in omega (arith, l, m)) noted h.within;
      since = λ i j row a e p q r l.
          ⊎_elim
          (λ d. h.since i j row a e p q d l)
          (λ d. let k : row.after ≤ length answers = element (λ (row : Noted). row.after ≤ length answers) noted row h.within (contains_slot noted i row p) in let m = d.0 in absurd (omega (arith, l, k, m)))
          (slot_of j e r);
    }

  -- a request comes, or a read: by it alone more is open
  module _ (id : ℕ) (token : Token) (operation : Operation) (after : ℕ) (told_before : after ≡ length answers) (cores : ℕ → Option (CoreView S)) (open_now reads_now : ℕ → List Asked)
      (was : (i : ℕ) (a : Asked) → Contains (open_now i) a ⊎ Contains (reads_now i) a → IsOpen s i a ⊎ ((i ≡ id) × (a ≡ record { number = s.next id; token = token; operation = operation; came = count }))) where
    abbrev with_one_more : Cores S
    with_one_more = record s { cores = cores; open_at = open_now; reads_at = reads_now; next = with_one id (s.next id + 1) s.next }

    abbrev row : Noted
    row = record { node = id; token = token; operation = operation; after = after }

    abbrev one : Asked
    one = record { number = s.next id; token = token; operation = operation; came = count }

    one_place : HasPlace (noted ++ row ∷ []) (h.requests ++ one ∷ []) id one (length answers)
    one_place = record {
      place = length noted;
      row = row;
      there = slot_last noted row;
      is = ap (slice_get (h.requests ++ one ∷ [])) rows ∙ slot_last h.requests one;
      node = refl;
      after = omega (arith, told_before);
    }

    next_up : (i : ℕ) → s.next i ≤ with_one id (s.next id + 1) s.next i
    next_up i =
        ⊎_elim
        (λ (q : i ≡ id). subst (λ (j : ℕ). s.next j ≤ with_one id (s.next id + 1) s.next j) (sym q) (let e : with_one id (s.next id + 1) s.next id ≡ s.next id + 1 = one_own id (s.next id + 1) s.next in omega (arith, e)))
        (λ d. let e : with_one id (s.next id + 1) s.next i ≡ s.next i = one_other id i (s.next id + 1) s.next d in omega (arith, e))
        (cases_eq i id)

    -- a row is an old one, or this one
    both_slots : (i : ℕ) (x : Noted) (a : Asked) → slice_get (noted ++ row ∷ []) i ≡ Some x → slice_get (h.requests ++ one ∷ []) i ≡ Some a
        → ((slice_get noted i ≡ Some x) × (slice_get h.requests i ≡ Some a)) ⊎ ((i ≡ length noted) × (row ≡ x) × (one ≡ a))
    both_slots i x a p q =
        ⊎_elim
        (λ z.
        let k : i < length noted = slot_below noted i x z in
        let n = rows in
        inl (z, sym (slot_less h.requests (one ∷ []) i (omega (arith, k, n))) ∙ q))
        (λ z.
        ⊎_elim
        (λ w. let k : i < length h.requests = slot_below h.requests i a w in let n = rows in let m = z.0 in absurd (omega (arith, k, n, m)))
        (λ w. inr (z.0, z.1, w.1))
        (slot_cases h.requests one i a q))
        (slot_cases noted row i x p)

    newer : (i : ℕ) (x : Noted) (a : Asked) → slice_get noted i ≡ Some x → slice_get h.requests i ≡ Some a → x.node ≡ id → a.number ≡ s.next id → ⊥
    newer i x a p q u v = let l : a.number < s.next id = subst (λ (j : ℕ). a.number < s.next j) u (h.numbers i x a p q) in omega (arith, l, v)

    placed_on : (i : ℕ) (a : Asked) (before : ℕ) → HasPlace noted h.requests i a before → HasPlace (noted ++ row ∷ []) (h.requests ++ one ∷ []) i a before
    placed_on i a before p = place_on noted (row ∷ []) h.requests (one ∷ []) i a before before (omega arith) p

    pub clients_more : AreClients count with_one_more (noted ++ row ∷ []) answers
    clients_more = record {
      requests = h.requests ++ one ∷ [];
      each = pairs_append IsNoted noted h.requests (row ∷ []) (one ∷ []) h.each (record { token = refl; operation = refl }, tt);
      numbers = λ i x a p q.
          ⊎_elim
          (λ z. let l = h.numbers i x a z.0 z.1 in let u = next_up x.node in omega (arith, l, u))
          (λ z.
          let n : s.next id ≡ a.number = ap (λ (b : Asked). b.number) z.2 in
          let u : with_one id (s.next id + 1) s.next id ≡ s.next id + 1 = one_own id (s.next id + 1) s.next in
          subst (λ (j : ℕ). a.number < with_one id (s.next id + 1) s.next j) (ap (λ (y : Noted). y.node) z.1) (omega (arith, n, u)))
          (both_slots i x a p q);
      single = λ i k x y a b p q r t u v.
          ⊎_elim
          (λ z. ⊎_elim
          (λ w. h.single i k x y a b z.0 z.1 w.0 w.1 u v)
          (λ w. absurd (newer i x a z.0 z.1 (u ∙ sym (ap (λ (y : Noted). y.node) w.1)) (v ∙ sym (ap (λ (y : Asked). y.number) w.2))))
          (both_slots k y b r t))
          (λ z. ⊎_elim
          (λ w. absurd (newer k y b w.0 w.1 (sym u ∙ sym (ap (λ (y : Noted). y.node) z.1)) (sym v ∙ sym (ap (λ (y : Asked). y.number) z.2))))
          (λ w. let c = z.0 in let d = w.0 in omega (arith, c, d))
          (both_slots k y b r t))
          (both_slots i x a p q);
      opened = λ i a c.
          ⊎_elim
          (λ d. placed_on i a (length answers) (h.opened i a d))
          (λ d.
          subst (λ (j : ℕ). HasPlace (noted ++ row ∷ []) (h.requests ++ one ∷ []) j a (length answers)) (sym d.0)
          (subst (λ (x : Asked). HasPlace (noted ++ row ∷ []) (h.requests ++ one ∷ []) id x (length answers)) (sym d.1) one_place))
          (was i a c);
      over = λ e c. placed_on e.server e.asked (length answers) (h.over e c);
      answered = h.answered;
      before = λ j e q. placed_on e.server e.asked j (h.before j e q);
      early = h.early;
      within = all_append (λ (row : Noted). row.after ≤ length answers) noted (row ∷ []) h.within (omega (arith, told_before), tt);
      since = λ i j x a e p q r l.
          ⊎_elim
          (λ z. h.since i j x a e z.0 z.1 r l)
          (λ z.
          let c : count ≡ a.came = ap (λ (b : Asked). b.came) z.2 in
          let t : e.told ≤ count = element (λ (e : Exchange). e.told ≤ count) (those_answered s.done) e h.early (contains_slot (those_answered s.done) j e r) in
          omega (arith, c, t))
          (both_slots i x a p q);
    }

  -- a request
  pub clients_request : (id : ℕ) (token : Token) (operation : Operation) (new : CoreView S) (after : ℕ) → after ≡ length answers
      → AreClients count (after_request id token operation new count s) (noted ++ record { node = id; token = token; operation = operation; after = after } ∷ []) answers
  clients_request id token operation new after told_before =
      let one : Asked = record { number = s.next id; token = token; operation = operation; came = count } in
      clients_more id token operation after told_before (with_one id (Some new) s.cores) (more_at id s.open_at one) s.reads_at
      (λ i a. ⊎_elim (λ c. ⊎_elim (λ d. inl (inl d)) inr (was_or_one id s.open_at one i a c)) (λ c. inl (inr c)))

  -- a read that needs no entry
  pub clients_read : (id : ℕ) (token : Token) (new : CoreView S) (after : ℕ) → after ≡ length answers
      → AreClients count (after_read id token new count s) (noted ++ record { node = id; token = token; operation = Read; after = after } ∷ []) answers
  clients_read id token new after told_before =
      let one : Asked = record { number = s.next id; token = token; operation = Read; came = count } in
      clients_more id token Read after told_before (with_one id (Some new) s.cores) s.open_at (more_at id s.reads_at one)
      (λ i a. ⊎_elim (λ c. inl (inl c)) (λ c. ⊎_elim (λ d. inl (inr d)) inr (was_or_one id s.reads_at one i a c)))

  -- a server ends, and may start again
  module _ (id : ℕ) (new : Option (CoreView S)) (later : ℕ) (up : count ≤ later) where
    abbrev gone : List Exchange
    gone = unanswered id later (s.open_at id)

    abbrev gone_reads : List Exchange
    gone_reads = unanswered id later (s.reads_at id)

    abbrev over_now : List Exchange
    over_now = gone ++ gone_reads

    abbrev ended : Cores S
    ended = after_end id new later s

    none_now : those_answered over_now ≡ []
    none_now = answered_both gone gone_reads ∙ (λ i. none_answered id later (s.open_at id) i ++ none_answered id later (s.reads_at id) i)

    still : those_answered (s.done ++ over_now) ≡ those_answered s.done
    still = answered_both s.done over_now ∙ (ap (λ es. those_answered s.done ++ es) none_now ∙ nil (those_answered s.done))
      where
        nil : (es : List Exchange) → es ++ [] ≡ es
        nil [] = refl
        nil (e ∷ es) = ap (λ xs. e ∷ xs) (nil es)

    slot_still : (j : ℕ) (e : Exchange) → slice_get (those_answered (s.done ++ over_now)) j ≡ Some e → slice_get (those_answered s.done) j ≡ Some e
    slot_still j e q = ap (λ es. slice_get es j) (sym still) ∙ q

    was_there : (i : ℕ) (a : Asked) → IsOpen ended i a → IsOpen s i a
    was_there i a (inl c) = inl (end_was id later s.open_at i a c)
    was_there i a (inr c) = inr (end_was id later s.reads_at i a c)

    gone_is : (e : Exchange) → Contains over_now e → (e.server ≡ id) × IsOpen s id e.asked
    gone_is e c =
        ⊎_elim
        (λ d. let f = unanswered_in id later (s.open_at id) e d in (f.server, inl f.asked))
        (λ d. let f = unanswered_in id later (s.reads_at id) e d in (f.server, inr f.asked))
        (Contains-append_cases gone gone_reads e c)

    pub clients_end : AreClients later ended noted answers
    clients_end = record {
      requests = h.requests;
      each = h.each;
      numbers = h.numbers;
      single = h.single;
      opened = λ i a c. h.opened i a (was_there i a c);
      over = λ e c.
          ⊎_elim
          (λ d. h.over e d)
          (λ d. let f = gone_is e d in subst (λ i. HasPlace noted h.requests i e.asked (length answers)) (sym f.0) (h.opened id e.asked f.1))
          (Contains-append_cases s.done over_now e c);
      answered = subst (AllPairs IsToldBy answers) (sym still) h.answered;
      before = λ j e q. h.before j e (slot_still j e q);
      early = subst (AllByRecursion (λ (e : Exchange). e.told ≤ later)) (sym still) (each_of (λ (e : Exchange). e.told ≤ count) (λ (e : Exchange). e.told ≤ later) (λ e l. omega (arith, l, up)) (those_answered s.done) h.early);
      within = h.within;
      since = λ i j row a e p q r l. h.since i j row a e p q (slot_still j e r) l;
    }

-- another core runs, of which clients hear nothing
pub clients_still : {S : Type 0} (count : ℕ) (s : Cores S) (noted : List Noted) (answers : List (ℕ × Reply)) (cores : ℕ → Option (CoreView S))
    → AreClients count s noted answers → AreClients count (record s { cores = cores }) noted answers
clients_still count s noted answers cores h = record {
  requests = h.requests;
  each = h.each;
  numbers = h.numbers;
  single = h.single;
  opened = h.opened;
  over = h.over;
  answered = h.answered;
  before = h.before;
  early = h.early;
  within = h.within;
  since = h.since;
}
