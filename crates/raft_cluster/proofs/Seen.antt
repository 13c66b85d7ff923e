-- What clients of a cluster asked and were told is a history of one object.
use Rattle.std.proofs.Common.{ℕ, zero, suc, ◌<◌, ◌≤◌, ◌≡◌, ◌∙◌, ◌⊎◌, inl, inr, ⊎_elim, Bool, true, false, List, [], ◌∷◌, ◌++◌, length, None, Some, Option, arith, refl, sym, ap, subst}
use Rattle.std.specs.Prelude.{Contains, if◌then◌else◌, map, nat_eq, slice_get}
use Rattle.std.specs.List.{AllByRecursion}
use Rattle.std.proofs.lemmas.Bool.{eqb-false, eqb-true}
use Rattle.std.proofs.lemmas.List.{length-map}
use Rattle.raft_store.specs.declared.entry.Entry.{Entry}
use Rattle.raft_store.specs.declared.entry.Payload.TheVariants as payload
use Rattle.raft_store.specs.declared.entry.Value.TheVariants.{Bytes}
use Rattle.raft_node.specs.declared.given.Given.{Given}
use Rattle.raft_node.specs.WellFormed.{IsWellFormed}
use Rattle.raft_answers.specs.declared.answer.Answer.{Answer}
use Rattle.raft_answers.specs.declared.answer.Answer.TheVariants.{Ok}
use Rattle.raft_answers.specs.declared.answer.Reply.{Reply}
use Rattle.raft_answers.specs.declared.request.Operation.{Operation as Asks}
use Rattle.raft_answers.specs.declared.request.Operation.TheVariants.{Read, Write}
use Rattle.raft_codec.specs.Codec.{Codec}
use Rattle.proof_packed.specs.Stores.{Application}
use Rattle.proof_clients.specs.Objects.{Object, Operation, Query, Update}
use Rattle.proof_clients.proofs.Sequences.{element, first_or}
use Rattle.proof_clients.proofs.Slots.{here, slot_at, slot_below, there}
use Rattle.proof_servers.specs.Servers.{Action}
use Rattle.proof_requests.specs.proof_answers.Answers.{Proposed}
use Rattle.proof_requests.specs.Answered.{entries_left}
use Rattle.proof_requests.specs.Clients.{AreBeside, AreNames, AreOver, AreTwoRequests, Cores, Exchange, HasWrite as HasUpdate, IsNo, IsOver, IsToldHistory, IsWritten, WasDone, WasTold, WasWritten}
use Rattle.proof_requests.specs.Requests.{AllPairs, AreOfTwo, AreSingle, Asked, IsOwn, Placed, Wrote}
use Rattle.proof_requests.proofs.Lists.{all_in, contains_slot, none_in, slot_map, slot_none}
use Rattle.proof_requests.proofs.Promises.{cores_see_one}
use Rattle.raft_cluster.specs.declared.told.Answered.{Answered}
use Rattle.raft_cluster.specs.declared.told.Asked.{Asked as Noted}
use Rattle.raft_cluster.specs.declared.told.Told.{Told}
use Rattle.raft_cluster.specs.Clients.{AreClients, HasPlace, IsNoted, IsToldBy, answers_told, those_answered, with_answer}
use Rattle.raft_cluster.specs.Histories.{Acknowledges, HasBytesAt, HasRead, HasWrite, IsAnswerTo, IsOf, IsRead, IsWriteOf, IsWrittenBy, KeepsWrites, Moments, SeesOne}
use Rattle.raft_cluster.proofs.Clients.{pairs_length}

-- what goes with the element at a place
pub pairs_slot : {A B : Type 0} (P : A → B → Type 0) (xs : List A) (ys : List B) → AllPairs P xs ys → (i : ℕ) (x : A) → slice_get xs i ≡ Some x → (y : B) × (slice_get ys i ≡ Some y) × P x y
pairs_slot P [] [] h i x e = absurd (slot_none i x e)
pairs_slot P [] (y ∷ ys) h i x e = absurd h
pairs_slot P (x ∷ xs) [] h i z e = absurd h
pairs_slot P (x ∷ xs) (y ∷ ys) h zero z e = let q : x ≡ z = cc in (y, refl, subst (λ v. P v y) q h.0)
pairs_slot P (x ∷ xs) (y ∷ ys) h (suc i) z e = pairs_slot P xs ys h.1 i z e

some_same : {A : Type 0} (a b : A) → ◌≡◌ {A = Option A} (Some a) (Some b) → a ≡ b
some_same a b e = cc

same_slot : {A : Type 0} (xs : List A) (i : ℕ) (a b : A) → slice_get xs i ≡ Some a → slice_get xs i ≡ Some b → a ≡ b
same_slot xs i a b p q = some_same a b (sym p ∙ q)

-- exchanges with an answer are exchanges
answered_in : (es : List Exchange) (e : Exchange) → Contains (those_answered es) e → Contains es e
answered_in [] e c = absurd (none_in e c)
answered_in (x ∷ es) e c = go x.answer (λ d. answered_in es e d) c
  where
    go : (o : Option Answer) → (Contains (those_answered es) e → Contains es e)
        → Contains (elim o as (λ _. List Exchange) [ None ↦ those_answered es | Some y ↦ x ∷ those_answered es ]) e → Contains (x ∷ es) e
    go None rest d = there x es e (rest d)
    go (Some y) rest d = ⊎_elim (λ q. subst (Contains (x ∷ es)) q (here x es)) (λ k. there x es e (rest k)) (first_or x (those_answered es) e d)

answered_once : (es : List Exchange) → AreOver es → AreOver (those_answered es)
answered_once [] h = tt
answered_once (x ∷ es) h = go x.answer (answered_once es h.1)
  where
    go : (o : Option Answer) → AreOver (those_answered es) → AreOver (elim o as (λ _. List Exchange) [ None ↦ those_answered es | Some y ↦ x ∷ those_answered es ])
    go None rest = rest
    go (Some y) rest = (all_in (AreTwoRequests x) (those_answered es) (λ e c. element (AreTwoRequests x) es e h.0 (answered_in es e c)), rest)

two_apart : (e f : Exchange) → AreTwoRequests e f → e.server ≡ f.server → e.asked.number ≡ f.asked.number → ⊥
two_apart e f (inl d) p q = d p
two_apart e f (inr d) p q = d q

one_place : (es : List Exchange) → AreOver es → (j k : ℕ) (e f : Exchange) → slice_get es j ≡ Some e → slice_get es k ≡ Some f → e.server ≡ f.server → e.asked.number ≡ f.asked.number → j ≡ k
one_place [] h j k e f p q r t = absurd (slot_none j e p)
one_place (x ∷ es) h zero zero e f p q r t = refl
one_place (x ∷ es) h zero (suc k) e f p q r t =
    let z : x ≡ e = cc in
    absurd (two_apart e f (subst (λ (y : Exchange). AreTwoRequests y f) z (element (AreTwoRequests x) es f h.0 (contains_slot es k f q))) r t)
one_place (x ∷ es) h (suc j) zero e f p q r t =
    let z : x ≡ f = cc in
    absurd (two_apart f e (subst (λ (y : Exchange). AreTwoRequests y e) z (element (AreTwoRequests x) es e h.0 (contains_slot es j e p))) (sym r) (sym t))
one_place (x ∷ es) h (suc j) (suc k) e f p q r t = ap suc (one_place es h.1 j k e f p q r t)

-- the place of a request, by its server and number
abbrev place_in : List Noted → List Asked → ℕ → ℕ → ℕ
place_in [] requests id n = 0
place_in (row ∷ rows) [] id n = 0
place_in (row ∷ rows) (a ∷ requests) id n = if nat_eq row.node id then (if nat_eq a.number n then 0 else suc (place_in rows requests id n)) else suc (place_in rows requests id n)

abbrev IsSingle : List Noted → List Asked → Type 0
IsSingle rows requests =
    (i k : ℕ) (row other : Noted) (a b : Asked) → slice_get rows i ≡ Some row → slice_get requests i ≡ Some a → slice_get rows k ≡ Some other → slice_get requests k ≡ Some b
    → row.node ≡ other.node → a.number ≡ b.number → i ≡ k

place_found : (rows : List Noted) (requests : List Asked) (id n : ℕ) → IsSingle rows requests → (i : ℕ) (row : Noted) (a : Asked) → slice_get rows i ≡ Some row → slice_get requests i ≡ Some a → row.node ≡ id → a.number ≡ n
    → place_in rows requests id n ≡ i
place_found [] requests id n single i row a p q u v = absurd (slot_none i row p)
place_found (x ∷ rows) [] id n single i row a p q u v = absurd (slot_none i a q)
place_found (x ∷ rows) (b ∷ requests) id n single zero row a p q u v = go (nat_eq x.node id) (nat_eq b.number n) refl refl
  where
    go : (s t : Bool) → nat_eq x.node id ≡ s → nat_eq b.number n ≡ t → (if s then (if t then 0 else suc (place_in rows requests id n)) else suc (place_in rows requests id n)) ≡ 0
    go true true k l = refl
    go true false k l = let e : b ≡ a = cc in absurd (eqb-false b.number n l (ap (λ (y : Asked). y.number) e ∙ v))
    go false t k l = let e : x ≡ row = cc in absurd (eqb-false x.node id k (ap (λ (y : Noted). y.node) e ∙ u))
place_found (x ∷ rows) (b ∷ requests) id n single (suc i) row a p q u v =
    go (nat_eq x.node id) (nat_eq b.number n) refl refl
    (place_found rows requests id n (λ i k y z c d e f g h r s. let w : suc i ≡ suc k = single (suc i) (suc k) y z c d e f g h r s in omega (arith, w)) i row a p q u v)
  where
    go : (s t : Bool) → nat_eq x.node id ≡ s → nat_eq b.number n ≡ t → place_in rows requests id n ≡ i → (if s then (if t then 0 else suc (place_in rows requests id n)) else suc (place_in rows requests id n)) ≡ suc i
    go true true k l rest =
        let z : 0 ≡ suc i = single 0 (suc i) x row b a refl refl p q (eqb-true x.node id k ∙ sym u) (eqb-true b.number n l ∙ sym v) in
        absurd (omega (arith, z))
    go true false k l rest = ap suc rest
    go false t k l rest = ap suc rest

-- values of two requests
single_place : (ws : List Placed) → AreSingle ws → (k l : ℕ) (v w : Placed) (by : ℕ × ℕ) → slice_get ws k ≡ Some v → slice_get ws l ≡ Some w → v.by ≡ Some by → w.by ≡ Some by → k ≡ l
single_place [] h k l v w by p q r t = absurd (slot_none k v p)
single_place (x ∷ ws) h zero zero v w by p q r t = refl
single_place (x ∷ ws) h zero (suc l) v w by p q r t =
    let z : x ≡ v = cc in
    absurd (element (AreOfTwo x) ws w h.0 (contains_slot ws l w q) by (ap (λ (y : Placed). y.by) z ∙ r) t)
single_place (x ∷ ws) h (suc k) zero v w by p q r t =
    let z : x ≡ w = cc in
    absurd (element (AreOfTwo x) ws v h.0 (contains_slot ws k v p) by (ap (λ (y : Placed). y.by) z ∙ t) r)
single_place (x ∷ ws) h (suc k) (suc l) v w by p q r t = ap suc (single_place ws h.1 k l v w by p q r t)

module _ {A : Type 0} (app : Application A) (codec : Codec A) (given : Given) (wf : IsWellFormed given) (actions : List Action) (placed : List Placed)
    (s : Cores A) (beside : AreBeside app codec given actions placed s) (told : Told A) (count : ℕ) (h : AreClients count s told.asked.items (answers_told told)) where
  abbrev noted : List Noted
  noted = told.asked.items

  abbrev es : List Exchange
  es = those_answered s.done

  abbrev came_in : Option Asked → ℕ
  came_in o = elim o as (λ _. ℕ) [ None ↦ 0 | Some a ↦ a.came ]

  abbrev came : ℕ → ℕ
  came i = came_in (slice_get h.requests i)

  abbrev told_in : Option Exchange → ℕ
  told_in o = elim o as (λ _. ℕ) [ None ↦ 0 | Some e ↦ e.told ]

  abbrev left : ℕ → ℕ
  left j = told_in (slice_get es j)

  of_from : (j : ℕ) (o : Option Exchange) → slice_get es j ≡ o → ℕ
  of_from j None q = 0
  of_from j (Some e) q = (h.before j e q).place

  pub of : ℕ → ℕ
  of j = of_from j (slice_get es j) refl

  -- this request has this place
  record IsAt (i id : ℕ) (a : Asked) (before : ℕ) : Type 0 where
    row : Noted
    there : slice_get noted i ≡ Some row
    is : slice_get h.requests i ≡ Some a
    node : row.node ≡ id
    after : row.after ≤ before

  at_place : (id : ℕ) (a : Asked) (before : ℕ) (p : HasPlace noted h.requests id a before) → IsAt p.place id a before
  at_place id a before p = record { row = p.row; there = p.there; is = p.is; node = p.node; after = p.after }

  of_is : (j : ℕ) (e : Exchange) → slice_get es j ≡ Some e → IsAt (of j) e.server e.asked j
  unfolding of of_from
  of_is j e q = go (slice_get es j) refl q
    where
      go : (o : Option Exchange) (r : slice_get es j ≡ o) → o ≡ Some e → IsAt (of_from j o r) e.server e.asked j
      go None r p = cc
      go (Some x) r p =
          let z : x ≡ e = cc in
          subst (λ (y : Exchange). IsAt (h.before j x r).place y.server y.asked j) z (at_place x.server x.asked j (h.before j x r))

  came_is : (i : ℕ) (a : Asked) → slice_get h.requests i ≡ Some a → came i ≡ a.came
  came_is i a q = ap came_in q

  left_is : (j : ℕ) (e : Exchange) → slice_get es j ≡ Some e → left j ≡ e.told
  left_is j e q = ap told_in q

  -- the exchange of an answer
  record Answers (j : ℕ) (x : Answered) : Type 0 where
    by : Exchange
    there : slice_get es j ≡ Some by
    is : IsToldBy (x.node, x.reply) by
    at : IsAt (of j) by.server by.asked j

  answers : (j : ℕ) (x : Answered) → slice_get told.answered.items j ≡ Some x → Answers j x
  answers j x q =
      let p = pairs_slot IsToldBy (answers_told told) es h.answered j (x.node, x.reply) (slot_map (λ (y : Answered). (y.node, y.reply)) told.answered.items j x q) in
      record { by = p.0; there = p.1; is = p.2; at = of_is j p.0 p.1 }

  -- what was noted at a place
  noted_at : (i : ℕ) (row : Noted) (a : Asked) → slice_get noted i ≡ Some row → slice_get h.requests i ≡ Some a → IsNoted row a
  noted_at i row a p q =
      let z = pairs_slot IsNoted noted h.requests h.each i row p in
      subst (IsNoted row) (same_slot h.requests i z.0 a z.1 q) z.2

  pub answer_to : (j : ℕ) (x : Answered) → slice_get told.answered.items j ≡ Some x → IsAnswerTo told (of j) j x
  answer_to j x q =
      let a = answers j x q in
      record {
        request = a.at.row;
        there = a.at.there;
        node = a.at.node ∙ sym a.is.node;
        token = (noted_at (of j) a.at.row a.by.asked a.at.there a.at.is).token ∙ sym a.is.token;
        after = a.at.after;
      }

  pub answers_once : (j k : ℕ) (x y : Answered) → slice_get told.answered.items j ≡ Some x → slice_get told.answered.items k ≡ Some y → of j ≡ of k → j ≡ k
  answers_once j k x y p q r =
      let a = answers j x p in
      let b = answers k y q in
      let asked : a.by.asked ≡ b.by.asked = same_slot h.requests (of j) a.by.asked b.by.asked a.at.is (ap (slice_get h.requests) r ∙ b.at.is) in
      let row : a.at.row ≡ b.at.row = same_slot noted (of j) a.at.row b.at.row a.at.there (ap (slice_get noted) r ∙ b.at.there) in
      one_place es (answered_once s.done beside.once) j k a.by b.by a.there b.there (sym a.at.node ∙ (ap (λ (z : Noted). z.node) row ∙ b.at.node)) (ap (λ (z : Asked). z.number) asked)

  pub before : (i j : ℕ) (row : Noted) → slice_get noted i ≡ Some row → j < row.after → left j ≤ came i
  before i j row p l =
      let z = pairs_slot IsNoted noted h.requests h.each i row p in
      let w : row.after ≤ length (answers_told told) = element (λ (row : Noted). row.after ≤ length (answers_told told)) noted row h.within (contains_slot noted i row p) in
      let n : length (answers_told told) ≡ length es = pairs_length IsToldBy (answers_told told) es h.answered in
      let e = slot_at es j (omega (arith, l, w, n)) in
      let k : e.0.told ≤ z.0.came = h.since i j row z.0 e.0 p z.1 e.1 l in
      let a : came i ≡ z.0.came = came_is i z.0 z.1 in
      let b : left j ≡ e.0.told = left_is j e.0 e.1 in
      omega (arith, k, a, b)

  abbrev pub moments : Moments told
  moments = record { came = came; left = left; of = of; answers = answer_to; once = answers_once; before = before }

  -- an acknowledged request, and its exchange
  record Acknowledged (j index : ℕ) (operation : Asks) : Type 0 where
    by : Exchange
    at_end : slice_get es j ≡ Some by
    there : Contains s.done by
    at : IsAt (of j) by.server by.asked j
    asks : by.asked.operation ≡ operation
    ok : by.answer ≡ Some (Ok index)

  acknowledged : (j index : ℕ) (operation : Asks) → Acknowledges told moments j (λ a. a.operation ≡ operation) index → Acknowledged j index operation
  acknowledged j index operation k =
      let a = answers j k.answered k.there in
      let row : a.at.row ≡ k.asked = same_slot noted (of j) a.at.row k.asked a.at.there k.request in
      record {
        by = a.by;
        at_end = a.there;
        there = answered_in s.done a.by (contains_slot es j a.by a.there);
        at = a.at;
        asks = sym (noted_at (of j) a.at.row a.by.asked a.at.there a.at.is).operation ∙ (ap (λ (z : Noted). z.operation) row ∙ k.asks);
        ok = a.is.answer ∙ ap (λ (z : Answer). Some z) k.ok;
      }

  -- what was noted of a request has its place
  abbrev name : Exchange → ℕ
  name e = place_in noted h.requests e.server e.asked.number

  name_is : (e : Exchange) (i early : ℕ) → IsAt i e.server e.asked early → name e ≡ i
  name_is e i early at = place_found noted h.requests e.server e.asked.number h.single i at.row e.asked at.there at.is at.node refl

  named : AreNames s.done name
  named e f c d q =
      let p = h.over e c in
      let r = h.over f d in
      let a = at_place e.server e.asked (length (answers_told told)) p in
      let b = at_place f.server f.asked (length (answers_told told)) r in
      let same : p.place ≡ r.place = sym (name_is e p.place (length (answers_told told)) a) ∙ (q ∙ name_is f r.place (length (answers_told told)) b) in
      let asked : e.asked ≡ f.asked = same_slot h.requests r.place e.asked f.asked (ap (slice_get h.requests) (sym same) ∙ a.is) b.is in
      let row : a.row ≡ b.row = same_slot noted r.place a.row b.row (ap (slice_get noted) (sym same) ∙ a.there) b.there in
      (sym a.node ∙ (ap (λ (y : Noted). y.node) row ∙ b.node), ap (λ (y : Asked). y.number) asked)

  told_of : (e : Exchange) → Contains s.done e → (x : Answer) → e.answer ≡ Some x → WasTold given actions placed e x
  told_of e c x q = (element (IsOver given actions placed s) s.done e beside.over c).was_told x q

  -- a write that was acknowledged is done by its entry
  done_of : (bytes : List ℕ) (index : ℕ) (e : Exchange) → Contains s.done e → e.asked.operation ≡ Write bytes → e.answer ≡ Some (Ok index) → WasDone given actions placed e index
  done_of bytes index e c o a = ⊎_elim (λ t. t) (λ t. let z : ◌≡◌ {A = Asks} (Write bytes) Read = sym o ∙ t.0 in cc) (told_of e c (Ok index) a)

  -- acknowledged writes were executed
  pub keeps_writes : (entries : List Entry) → entries ≡ entries_left given actions → KeepsWrites entries told
  keeps_writes entries same = record {
    moments = moments;
    writes = λ j bytes index k.
        let a = acknowledged j index (Write bytes) k in
        let d = (done_of bytes index a.by a.there a.asks a.ok).0 in
        let own : (d.awaits.by ≡ Some (a.by.server, a.by.asked.number)) × (d.awaits.value ≡ Bytes bytes) = subst (λ o. IsOwn a.by.server a.by.asked.number o d.awaits) a.asks d.own in
        let p : Proposed given actions d.awaits.call d.awaits.value d.awaits.entry = element (λ (w : Placed). Proposed given actions w.call w.value w.entry) placed d.awaits beside.placed_are.each d.there in
        record {
          entry = d.awaits.entry;
          among = subst (λ (xs : List Entry). Contains xs d.awaits.entry) (sym same) d.left;
          at = d.index_is;
          value = p.payload ∙ ap payload.Value own.1;
        };
  }

  -- Updates, and the places of their requests

  -- a value is of the request with this place, or no request's
  record IsOwner (w : Placed) (i : ℕ) : Type 0 where
    id : ℕ
    asked : Asked
    by : w.by ≡ Some (id, asked.number)
    wrote : Wrote asked w.value
    came_before : asked.came ≤ w.call
    at : IsAt i id asked (length (answers_told told))

  abbrev IsOwned : Placed → Option ℕ → Type 0
  IsOwned w None = w.by ≡ None
  IsOwned w (Some i) = IsOwner w i

  owned : (w : Placed) → ((id n : ℕ) → w.by ≡ Some (id, n) → WasWritten s id n w.call w.value) → (o : Option ℕ) × IsOwned w o
  owned w written = go w.by refl
    where
      place : (id : ℕ) (a : Asked) → Contains (s.open_at id) a ⊎ ((e : Exchange) × Contains s.done e × (e.server ≡ id) × (e.asked ≡ a)) → HasPlace noted h.requests id a (length (answers_told told))
      place id a (inl c) = h.opened id a (inl c)
      place id a (inr (e, c, p, q)) =
          subst (λ (i : ℕ). HasPlace noted h.requests i a (length (answers_told told))) p (subst (λ (b : Asked). HasPlace noted h.requests e.server b (length (answers_told told))) q (h.over e c))

      go : (o : Option (ℕ × ℕ)) → w.by ≡ o → (o : Option ℕ) × IsOwned w o
      go None q = (None, q)
      go (Some by) q =
          let z = written by.0 by.1 q in
          let p = place by.0 z.asked z.there in (
            Some p.place,
            record { id = by.0; asked = z.asked; by = q ∙ ap (λ n. Some (by.0, n)) (sym z.number_is); wrote = z.wrote; came_before = z.came; at = at_place by.0 z.asked (length (answers_told told)) p },
          )

  module _ {S R : Type 0} (m : Object S R) where
    owners : (ops : List (Operation R)) (ws : List Placed) → AllPairs (IsWritten given actions placed m s) ops ws → (os : List (Option ℕ)) × AllPairs IsOwned ws os
    owners [] [] k = ([], tt)
    owners [] (w ∷ ws) k = absurd k
    owners (o ∷ ops) [] k = absurd k
    owners (o ∷ ops) (w ∷ ws) k =
        let z = owned w k.0.written in
        let rest = owners ops ws k.1 in
        (z.0 ∷ rest.0, (z.1, rest.1))

    is_of : (o : Operation R) (w : Placed) (owner : Option ℕ) → IsWritten given actions placed m s o w → IsOwned w owner → IsOf told moments o owner
    is_of o w None k z = (w.entry, k.ask ∙ ap (λ v. Update v w.entry) (k.marker z))
    is_of o w (Some i) k z =
        let bytes : List ℕ = z.wrote.0 in
        record {
          asked = z.at.row;
          there = z.at.there;
          bytes = bytes;
          writes = (noted_at i z.at.row z.asked z.at.there z.at.is).operation ∙ z.wrote.1;
          entry = w.entry;
          ask = k.ask ∙ ap (λ v. Update v w.entry) z.wrote.2;
          later = later_call;
          may_be = refused;
        }
      where
        later_call : moments.came i ≤ o.call
        later_call = let a : came i ≡ z.asked.came = came_is i z.asked z.at.is in let b = z.came_before in let c = k.call in omega (arith, a, b, c)

        refused : (j : ℕ) (x : Answered) → slice_get told.answered.items j ≡ Some x → moments.of j ≡ i → IsNo x.reply.answer → ⊥
        refused j x p q refusal =
            let a = answers j x p in
            let asked : a.by.asked ≡ z.asked = same_slot h.requests (of j) a.by.asked z.asked a.at.is (ap (slice_get h.requests) q ∙ z.at.is) in
            let row : a.at.row ≡ z.at.row = same_slot noted (of j) a.at.row z.at.row a.at.there (ap (slice_get noted) q ∙ z.at.there) in
            let server : a.by.server ≡ z.id = sym a.at.node ∙ (ap (λ (y : Noted). y.node) row ∙ z.at.node) in
            k.may_be a.by x.reply.answer (answered_in s.done a.by (contains_slot es j a.by a.there)) a.is.answer
            (z.by ∙ (λ u. Some (sym server u, sym (ap (λ (y : Asked). y.number) asked) u))) refusal

    all_of : (ops : List (Operation R)) (ws : List Placed) (owners : List (Option ℕ)) → AllPairs (IsWritten given actions placed m s) ops ws → AllPairs IsOwned ws owners → AllPairs (IsOf told moments) ops owners
    all_of [] [] [] k z = tt
    all_of [] [] (o ∷ os) k z = absurd z
    all_of [] (w ∷ ws) os k z = absurd k
    all_of (o ∷ ops) [] os k z = absurd k
    all_of (o ∷ ops) (w ∷ ws) [] k z = absurd z
    all_of (o ∷ ops) (w ∷ ws) (x ∷ os) k z = (is_of o w x k.0 z.0, all_of ops ws os k.1 z.1)

    module _ (updates queries : List (Operation R)) (history : IsToldHistory given actions placed m s name updates queries) where
      the_owners : (os : List (Option ℕ)) × AllPairs IsOwned history.values os
      the_owners = owners updates history.values history.written

      abbrev writers : List (Option ℕ)
      writers = the_owners.0

      back : (ws : List Placed) (os : List (Option ℕ)) → AllPairs IsOwned ws os → (k : ℕ) (o : Option ℕ) → slice_get os k ≡ Some o → (w : Placed) × (slice_get ws k ≡ Some w) × IsOwned w o
      back [] [] z k o q = absurd (slot_none k o q)
      back [] (x ∷ os) z k o q = absurd z
      back (w ∷ ws) [] z k o q = absurd z
      back (w ∷ ws) (x ∷ os) z zero o q = let e : x ≡ o = cc in (w, refl, subst (IsOwned w) e z.0)
      back (w ∷ ws) (x ∷ os) z (suc k) o q = back ws os z.1 k o q

      writers_once : (k l i : ℕ) → slice_get writers k ≡ Some (Some i) → slice_get writers l ≡ Some (Some i) → k ≡ l
      writers_once k l i p q =
          let a = back history.values writers the_owners.1 k (Some i) p in
          let b = back history.values writers the_owners.1 l (Some i) q in
          let x : IsOwner a.0 i = a.2 in
          let y : IsOwner b.0 i = b.2 in
          let asked : x.asked ≡ y.asked = same_slot h.requests i x.asked y.asked x.at.is y.at.is in
          let row : x.at.row ≡ y.at.row = same_slot noted i x.at.row y.at.row x.at.there y.at.there in
          let id : x.id ≡ y.id = sym x.at.node ∙ (ap (λ (r : Noted). r.node) row ∙ y.at.node) in
          single_place history.values history.single k l a.0 b.0 (y.id, y.asked.number) a.1 b.1 (x.by ∙ (λ u. Some (id u, (asked u).number))) y.by

      module _ (j : ℕ) (bytes : List ℕ) (index : ℕ) (a : Acknowledged j index (Write bytes)) where
        its_write : HasUpdate given actions placed m s updates history.values a.by bytes index
        its_write = history.writes a.by bytes index a.there a.asks a.ok

        is_its : (o : Option ℕ) → IsOwned its_write.of o → o ≡ Some (of j)
        is_its None z = let q : ◌≡◌ {A = Option (ℕ × ℕ)} None (Some (a.by.server, a.by.asked.number)) = sym z ∙ its_write.by in cc
        is_its (Some i) z =
            let q : ◌≡◌ {A = ℕ × ℕ} (z.id, z.asked.number) (a.by.server, a.by.asked.number) = some_same (z.id, z.asked.number) (a.by.server, a.by.asked.number) (sym z.by ∙ its_write.by) in
            let id : z.id ≡ a.by.server = ap (λ (x : ℕ × ℕ). x.0) q in
            let number : z.asked.number ≡ a.by.asked.number = ap (λ (x : ℕ × ℕ). x.1) q in
            ap (λ (n : ℕ). Some n) (h.single i (of j) z.at.row a.at.row z.asked a.by.asked z.at.there z.at.is a.at.there a.at.is (z.at.node ∙ (id ∙ sym a.at.node)) number)

        has_write : HasWrite told moments updates writers j bytes index
        has_write =
            let p = pairs_slot IsOwned history.values writers the_owners.1 its_write.place its_write.of its_write.value in
            let l = its_write.early in
            let b : left j ≡ a.by.told = left_is j a.by a.at_end in
            record {
              place = its_write.place;
              operation = its_write.operation;
              there = its_write.there;
              writer = p.1 ∙ ap (λ (o : Option ℕ). Some o) (is_its p.0 p.2);
              entry = its_write.entry;
              ask = its_write.ask;
              index_is = its_write.index_is;
              how = its_write.how;
              returned = its_write.returned;
              early = omega (arith, l, b);
            }

      has_writes : (j : ℕ) (bytes : List ℕ) (index : ℕ) → Acknowledges told moments j (IsWriteOf bytes) index → HasWrite told moments updates writers j bytes index
      has_writes j bytes index k = has_write j bytes index (acknowledged j index (Write bytes) k)

      has_reads : (j index : ℕ) → Acknowledges told moments j IsRead index → HasRead told moments queries j index
      has_reads j index k =
          let a = acknowledged j index Read k in
          let r = history.reads a.by index a.there a.asks a.ok in
          let l = r.early in
          let b : left j ≡ a.by.told = left_is j a.by a.at_end in
          record {
            operation = r.operation;
            there = r.there;
            call = r.call ∙ sym (came_is (of j) a.by.asked a.at.is);
            ask = r.ask ∙ ap (λ i. Query i) (name_is a.by (of j) j a.at);
            how = r.how;
            returned = r.returned;
            taken = r.taken;
            early = omega (arith, l, b);
          }

    pub sees_one : SeesOne m told
    sees_one =
        let z = cores_see_one app codec m given wf actions placed s beside name named in
        record {
          moments = moments;
          updates = z.0;
          writers = (the_owners z.0 z.1 z.2).0;
          queries = z.1;
          each = all_of z.0 z.2.values (the_owners z.0 z.1 z.2).0 z.2.written (the_owners z.0 z.1 z.2).1;
          once = writers_once z.0 z.1 z.2;
          writes = has_writes z.0 z.1 z.2;
          reads = has_reads z.0 z.1 z.2;
          linearizable = z.3;
        }
