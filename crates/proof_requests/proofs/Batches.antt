-- A batch of requests: the values that are proposed for it, and which each request waits for.
use Rattle.std.proofs.Common.{ℕ, zero, suc, ◌+◌, ◌-◌, ◌<◌, ◌≤◌, ◌≡◌, ◌⊎◌, inl, inr, ⊎_elim, List, [], ◌∷◌, ◌++◌, length, map, arith, refl, sym, ap, ◌∙◌, subst, Option, None, Some, append_assoc}
use Rattle.std.specs.Prelude.{Contains, slice_get}
use Rattle.std.specs.List.{AllByRecursion, fold}
use Rattle.std.proofs.lemmas.Bool.{cases_lt}
use Rattle.std.proofs.lemmas.List.{append-nil, length-append, length-map, map-append}
use Rattle.std.proofs.lemmas.List.Elements.{Contains-append_cases, Contains-append_left, Contains-append_right}
use Rattle.raft_state.specs.declared.ids.LogId.{LogId}
use Rattle.raft_store.specs.declared.entry.Value.TheVariants.{Bytes}
use Rattle.raft_answers.specs.declared.batch.Place.{Place}
use Rattle.raft_answers.specs.declared.request.Operation.{Operation}
use Rattle.raft_answers.specs.declared.request.Operation.TheVariants.{Read, Write}
use Rattle.raft_answers.specs.declared.request.Request.{Request}
use Rattle.raft_answers.specs.Requests.{Batched, batch_of, no_batch, place_of, with_request, with_value}
use Rattle.proof_answers.proofs.Prefixes.{slot_last, slot_more}
use Rattle.proof_clients.proofs.Sequences.{element, first_or}
use Rattle.proof_clients.proofs.Slots.{here, slot_at, slot_below, there}
use Rattle.raft_node.specs.declared.given.Given.{Given}
use Rattle.proof_servers.specs.Servers.{Action}
use Rattle.proof_requests.specs.Entries.{value_at}
use Rattle.proof_requests.specs.Requests.{AllPairs, AreApart, AreOfTwo, AreOnce, AreSingle, Asked, IsWaiting, Placed, Rises}
use Rattle.proof_requests.proofs.Lists.{none_in, pairs_append, pairs_of, slot_behind, slot_less, slot_none}

-- a value, and whose it is
abbrev pub Mark : Type 0
Mark = List ℕ × Option (ℕ × ℕ)

abbrev pub bytes_of : Mark → List ℕ
bytes_of m = m.0

module _ (id : ℕ) where
  -- of a write the value is its own
  abbrev pub IsOf : Operation → ℕ → Mark → Type 0
  IsOf (Write bytes) number m = (m.1 ≡ Some (id, number)) × (m.0 ≡ bytes)
  IsOf Read number m = Unit {0}

  -- the request has its place at one of the values, and at no other that is its own
  pub record HasPlace (marks : List Mark) (pl : Place) (a : Asked) : Type 0 where
    pub token : pl.token ≡ a.token
    pub mark : Mark
    pub slot : slice_get marks pl.value ≡ Some mark
    pub own : IsOf a.operation a.number mark
    pub only : (k : ℕ) (m : Mark) → slice_get marks k ≡ Some m → m.1 ≡ Some (id, a.number) → k ≡ pl.value

  pub record Marked (b : Batched) (asks : List Asked) : Type 0 where
    pub marks : List Mark
    pub values : b.values ≡ map bytes_of marks
    pub places : AllPairs (HasPlace marks) b.places asks
    pub numbers : (k : ℕ) (m : Mark) (by : ℕ × ℕ) → slice_get marks k ≡ Some m → m.1 ≡ Some by → (a : Asked) × Contains asks a × (by ≡ (id, a.number)) × (a.operation ≡ Write m.0)
    pub markers : (k : ℕ) (m : Mark) → slice_get marks k ≡ Some m → m.1 ≡ None → m.0 ≡ []

  -- at most one mark is of each request
  pub marks_single : (b : Batched) (asks : List Asked) (h : Marked b asks) (k l : ℕ) (m n : Mark) (by : ℕ × ℕ) → slice_get h.marks k ≡ Some m → slice_get h.marks l ≡ Some n → m.1 ≡ Some by → n.1 ≡ Some by → k ≡ l
  marks_single b asks h k l m n by e d q r =
      let a = h.numbers k m by e q in
      let p = pairs_of (HasPlace h.marks) b.places asks h.places a.0 a.1 in
      p.1.only k m e (q ∙ ap (λ (x : ℕ × ℕ). Some x) a.2) ∙ sym (p.1.only l n d (r ∙ ap (λ (x : ℕ × ℕ). Some x) a.2))

  -- what a request adds
  abbrev extra : ℕ → Operation → List Mark → List Mark
  extra number (Write bytes) marks = (bytes, Some (id, number)) ∷ []
  extra number Read [] = ([], None) ∷ []
  extra number Read (m ∷ marks) = []

  extra_values : (number : ℕ) (o : Operation) (marks : List Mark) → with_value o (map bytes_of marks) ≡ map bytes_of (marks ++ extra number o marks)
  extra_values number (Write bytes) marks = sym (map-append bytes_of marks ((bytes, Some (id, number)) ∷ []))
  extra_values number Read [] = refl
  extra_values number Read (m ∷ marks) = ap (map bytes_of) (sym (append-nil (m ∷ marks)))

  by_same : (a b : ℕ × ℕ) → ◌≡◌ {A = Option (ℕ × ℕ)} (Some a) (Some b) → a ≡ b
  by_same a b e = cc

  extra_number : (number : ℕ) (o : Operation) (marks : List Mark) (k : ℕ) (m : Mark) (by : ℕ × ℕ) → slice_get (extra number o marks) k ≡ Some m → m.1 ≡ Some by → (by ≡ (id, number)) × (o ≡ Write m.0)
  extra_number number (Write bytes) marks zero m by e q =
      let z : ◌≡◌ {A = Mark} (bytes, Some (id, number)) m = cc in
      (sym (by_same (id, number) by (ap (λ (x : Mark). x.1) z ∙ q)), ap (λ (x : Mark). Write x.0) z)
  extra_number number (Write bytes) marks (suc k) m by e q = absurd (slot_none k m e)
  extra_number number Read [] zero m by e q = let z : ◌≡◌ {A = Mark} ([], None) m = cc in let w : ◌≡◌ {A = Option (ℕ × ℕ)} None (Some by) = ap (λ (x : Mark). x.1) z ∙ q in cc
  extra_number number Read [] (suc k) m by e q = absurd (slot_none k m e)
  extra_number number Read (x ∷ marks) k m by e q = absurd (slot_none k m e)

  extra_marker : (number : ℕ) (o : Operation) (marks : List Mark) (k : ℕ) (m : Mark) → slice_get (extra number o marks) k ≡ Some m → m.1 ≡ None → m.0 ≡ []
  extra_marker number (Write bytes) marks zero m e q =
      let z : ◌≡◌ {A = Mark} (bytes, Some (id, number)) m = cc in let w : ◌≡◌ {A = Option (ℕ × ℕ)} (Some (id, number)) None = ap (λ (x : Mark). x.1) z ∙ q in cc
  extra_marker number (Write bytes) marks (suc k) m e q = absurd (slot_none k m e)
  extra_marker number Read [] zero m e q = let z : ◌≡◌ {A = Mark} ([], None) m = cc in sym (ap (λ (x : Mark). x.0) z)
  extra_marker number Read [] (suc k) m e q = absurd (slot_none k m e)
  extra_marker number Read (x ∷ marks) k m e q = absurd (slot_none k m e)

  -- the last value then
  extra_slot : (number : ℕ) (o : Operation) (marks : List Mark)
      → (m : Mark) × (slice_get (marks ++ extra number o marks) (place_of (with_value o (map bytes_of marks))) ≡ Some m) × IsOf o number m
      × ((k : ℕ) (n : Mark) → slice_get (extra number o marks) k ≡ Some n → n.1 ≡ Some (id, number) → length marks + k ≡ place_of (with_value o (map bytes_of marks)))
  extra_slot number (Write bytes) marks =
      let at : length (map bytes_of marks ++ bytes ∷ []) - 1 ≡ length marks =
      (let a : length (map bytes_of marks ++ bytes ∷ []) ≡ length (map bytes_of marks) + 1 = length-append (map bytes_of marks) (bytes ∷ []) in let b : length (map bytes_of marks) ≡ length marks = length-map marks bytes_of in omega (arith, a, b)) in (
        (bytes, Some (id, number)),
        ap (slice_get (marks ++ (bytes, Some (id, number)) ∷ [])) at ∙ slot_last marks (bytes, Some (id, number)),
        (refl, refl),
        λ k n e q. let l : k < 1 = slot_below ((bytes, Some (id, number)) ∷ []) k n e in omega (arith, l, at),
      )
  extra_slot number Read [] = (([], None), refl, tt, λ k n e q. let l : k < 1 = slot_below (([], None) ∷ []) k n e in omega (arith, l))
  extra_slot number Read (x ∷ marks) =
      let at : length (map bytes_of (x ∷ marks)) ≡ length (x ∷ marks) = length-map (x ∷ marks) bytes_of in
      let z = slot_at (x ∷ marks) (length (map bytes_of (x ∷ marks)) - 1) (omega (arith, at)) in
      (z.0, slot_more (x ∷ marks) [] (length (map bytes_of (x ∷ marks)) - 1) z.0 z.1, tt, λ k n e q. absurd (slot_none k n e))

  -- one more request
  module _ (given : Given) (actions : List Action) (placed : List Placed) where
    marked_more : (b : Batched) (asks : List Asked) (r : Request) (a : Asked) → Marked b asks → IsWaiting given actions placed id r a → ((c : Asked) → Contains asks c → c.number < a.number) → Marked (with_request r b) (asks ++ a ∷ [])
    marked_more b asks r a h w less =
        let more : List Mark = extra a.number r.operation h.marks in
        let z = extra_slot a.number r.operation h.marks in
        record {
          marks = h.marks ++ more;
          values = ap (with_value r.operation) h.values ∙ extra_values a.number r.operation h.marks;
          places = pairs_append (HasPlace (h.marks ++ more)) b.places asks _ (a ∷ [])
              (olds b.places asks h.places less) (
                record {
                  token = w.token;
                  mark = z.0;
                  slot = ap (λ (vs : List (List ℕ)). slice_get (h.marks ++ more) (place_of (with_value r.operation vs))) h.values ∙ z.1;
                  own = subst (λ o. IsOf o a.number z.0) w.operation z.2;
                  only = λ k m e q.
                      ⊎_elim
                      (λ (l : k < length h.marks). let y = h.numbers k m (id, a.number) (sym (slot_less h.marks more k l) ∙ e) q in let s : a.number ≡ y.0.number = ap (λ (p : ℕ × ℕ). p.1) y.2 in let d = less y.0 y.1 in absurd (omega (arith, s, d)))
                      (λ (l : length h.marks ≤ k).
                      let s : k ≡ length h.marks + (k - length h.marks) = omega (arith, l) in
                      s ∙ (z.3 (k - length h.marks) m (sym (slot_behind h.marks more (k - length h.marks) k s) ∙ e) q ∙ ap (λ (vs : List (List ℕ)). place_of (with_value r.operation vs)) (sym h.values)))
                      (cases_lt k (length h.marks));
                },
                tt,
              );
          numbers = λ k m by e q.
              ⊎_elim
              (λ (l : k < length h.marks). let y = h.numbers k m by (sym (slot_less h.marks more k l) ∙ e) q in (y.0, Contains-append_left asks (a ∷ []) y.0 y.1, y.2, y.3))
              (λ (l : length h.marks ≤ k).
              let s : k ≡ length h.marks + (k - length h.marks) = omega (arith, l) in
              let y = extra_number a.number r.operation h.marks (k - length h.marks) m by (sym (slot_behind h.marks more (k - length h.marks) k s) ∙ e) q in
              (a, Contains-append_right asks (a ∷ []) a (here a []), y.0, sym w.operation ∙ y.1))
              (cases_lt k (length h.marks));
          markers = λ k m e q.
              ⊎_elim
              (λ (l : k < length h.marks). h.markers k m (sym (slot_less h.marks more k l) ∙ e) q)
              (λ (l : length h.marks ≤ k).
              let s : k ≡ length h.marks + (k - length h.marks) = omega (arith, l) in
              extra_marker a.number r.operation h.marks (k - length h.marks) m (sym (slot_behind h.marks more (k - length h.marks) k s) ∙ e) q)
              (cases_lt k (length h.marks));
        }
      where
        olds : (pls : List Place) (cs : List Asked) → AllPairs (HasPlace h.marks) pls cs → ((c : Asked) → Contains cs c → c.number < a.number) → AllPairs (HasPlace (h.marks ++ extra a.number r.operation h.marks)) pls cs
        olds [] [] p f = tt
        olds [] (c ∷ cs) p f = absurd p
        olds (pl ∷ pls) [] p f = absurd p
        olds (pl ∷ pls) (c ∷ cs) p f = (
          record {
            token = p.0.token;
            mark = p.0.mark;
            slot = slot_more h.marks (extra a.number r.operation h.marks) pl.value p.0.mark p.0.slot;
            own = p.0.own;
            only = λ k m e q.
                ⊎_elim
                (λ (l : k < length h.marks). p.0.only k m (sym (slot_less h.marks (extra a.number r.operation h.marks) k l) ∙ e) q)
                (λ (l : length h.marks ≤ k).
                let s : k ≡ length h.marks + (k - length h.marks) = omega (arith, l) in
                let y = extra_number a.number r.operation h.marks (k - length h.marks) m (id, c.number) (sym (slot_behind h.marks (extra a.number r.operation h.marks) (k - length h.marks) k s) ∙ e) q in
                let n : c.number ≡ a.number = ap (λ (x : ℕ × ℕ). x.1) y.0 in
                let d = f c (here c cs) in
                absurd (omega (arith, n, d)))
                (cases_lt k (length h.marks));
          },
          olds pls cs p.1 (λ x m. f x (there c cs x m)),
        )

    marked_all : (rs : List Request) (more : List Asked) (b : Batched) (asks : List Asked) → Marked b asks → AllPairs (IsWaiting given actions placed id) rs more → Rises more → ((c d : Asked) → Contains asks c → Contains more d → c.number < d.number)
        → Marked (fold (λ b r. with_request r b) b rs) (asks ++ more)
    marked_all [] [] b asks h w r f = subst (Marked b) (sym (append-nil asks)) h
    marked_all [] (a ∷ more) b asks h w r f = absurd w
    marked_all (x ∷ rs) [] b asks h w r f = absurd w
    marked_all (x ∷ rs) (a ∷ more) b asks h w r f =
        subst (Marked (fold (λ b r. with_request r b) (with_request x b) rs)) (append_assoc asks (a ∷ []) more)
        (marked_all rs more (with_request x b) (asks ++ a ∷ []) (marked_more b asks x a h w.0 (λ c m. f c a m (here a more))) w.1 r.1
        (λ c d m n. ⊎_elim (λ k. f c d k (there a more d n)) (λ k. below c d n (first_or a [] c k)) (Contains-append_cases asks (a ∷ []) c m)))
      where
        below : (c d : Asked) → Contains more d → (a ≡ c) ⊎ Contains {X = Asked} [] c → c.number < d.number
        below c d n (inl e) = subst (λ (y : Asked). y.number < d.number) e (element (λ (y : Asked). a.number < y.number) more d r.0 n)
        below c d n (inr k) = absurd (none_in c k)

    pub batch_marked : (rs : List Request) (more : List Asked) → AllPairs (IsWaiting given actions placed id) rs more → Rises more → Marked (batch_of rs) more
    batch_marked rs more w r = marked_all rs more no_batch [] (record { marks = []; values = refl; places = tt; numbers = λ k m by e q. absurd (slot_none k m e); markers = λ k m e q. absurd (slot_none k m e) }) w r (λ c d m n. absurd (none_in c m))

-- the values that are proposed by an action, the first with this id
module _ (call : ℕ) (first : LogId ℕ) where
  abbrev pub placed_at : ℕ → Mark → Placed
  placed_at i m = record { call = call; value = Bytes m.0; entry = value_at first.leader_id (first.index + i) (Bytes m.0); by = m.1 }

  abbrev pub placed_from : ℕ → List Mark → List Placed
  placed_from i [] = []
  placed_from i (m ∷ marks) = placed_at i m ∷ placed_from (suc i) marks

  pub placed_in : (i : ℕ) (marks : List Mark) (w : Placed) → Contains (placed_from i marks) w → (k : ℕ) × (m : Mark) × (slice_get marks k ≡ Some m) × (placed_at (i + k) m ≡ w)
  placed_in i [] w c = absurd (none_in w c)
  placed_in i (m ∷ marks) w c =
      ⊎_elim
      (λ e. (0, m, refl, (let q : i + 0 ≡ i = omega arith in ap (λ j. placed_at j m) q ∙ e)))
      (λ d. let z = placed_in (suc i) marks w d in let q : i + suc z.0 ≡ suc i + z.0 = omega arith in (suc z.0, z.1, z.2, ap (λ j. placed_at j z.1) q ∙ z.3))
      (first_or (placed_at i m) (placed_from (suc i) marks) w c)

  pub placed_there : (i : ℕ) (marks : List Mark) (k : ℕ) (m : Mark) → slice_get marks k ≡ Some m → Contains (placed_from i marks) (placed_at (i + k) m)
  placed_there i [] k m e = absurd (slot_none k m e)
  placed_there i (x ∷ marks) zero m e =
      let z : x ≡ m = cc in
      let q : i ≡ i + 0 = omega arith in
      subst (λ j. Contains (placed_from i (x ∷ marks)) (placed_at j m)) q (subst (λ (y : Mark). Contains (placed_from i (x ∷ marks)) (placed_at i y)) z (here (placed_at i x) (placed_from (suc i) marks)))
  placed_there i (x ∷ marks) (suc k) m e =
      let q : suc i + k ≡ i + suc k = omega arith in
      there (placed_at i x) (placed_from (suc i) marks) (placed_at (i + suc k) m) (subst (λ j. Contains (placed_from (suc i) marks) (placed_at j m)) q (placed_there (suc i) marks k m e))

  -- at most one of each request, if so are the marks
  pub placed_single : (i : ℕ) (marks : List Mark) → ((k l : ℕ) (m n : Mark) (by : ℕ × ℕ) → slice_get marks k ≡ Some m → slice_get marks l ≡ Some n → m.1 ≡ Some by → n.1 ≡ Some by → k ≡ l)
      → AreSingle (placed_from i marks)
  placed_single i [] f = tt
  placed_single i (m ∷ marks) f = (
    go marks (suc i) (λ l n by e q r. f 0 (suc l) m n by refl e q r),
    placed_single (suc i) marks (λ k l x y by e d q r. let z : suc k ≡ suc l = f (suc k) (suc l) x y by e d q r in omega (arith, z)),
  )
    where
      go : (ms : List Mark) (j : ℕ) → ((l : ℕ) (n : Mark) (by : ℕ × ℕ) → slice_get ms l ≡ Some n → m.1 ≡ Some by → n.1 ≡ Some by → 0 ≡ suc l) → AllByRecursion (AreOfTwo (placed_at i m)) (placed_from j ms)
      go [] j g = tt
      go (n ∷ ms) j g = (
        λ by q r. let z : 0 ≡ 1 = g 0 n by refl q r in absurd (omega (arith, z)),
        go ms (suc j) (λ l x by e q r. let z : 0 ≡ suc (suc l) = g (suc l) x by e q r in absurd (omega (arith, z))),
      )

  pub placed_once : (i : ℕ) (marks : List Mark) → AreOnce (placed_from i marks)
  placed_once i [] = tt
  placed_once i (m ∷ marks) = (go (suc i) marks (omega arith), placed_once (suc i) marks)
    where
      go : (j : ℕ) (ms : List Mark) → i < j → AllByRecursion (AreApart (placed_at i m)) (placed_from j ms)
      go j [] l = tt
      go j (n ∷ ms) l = (inr (λ e. let q : first.index + i ≡ first.index + j = ap (λ (x : LogId ℕ). x.index) e in omega (arith, q, l)), go (suc j) ms (omega (arith, l)))
