-- What clients asked and were told is a history: an update for each value that was proposed and hasn't failed, and a query for each read
-- that was answered.
use Rattle.std.proofs.Common.{ℕ, suc, ◌+◌, ◌<◌, ◌≡◌, ◌≢◌, ◌⊎◌, inl, inr, ⊎_elim, List, [], ◌∷◌, take, arith, refl, sym, ap, ◌∙◌, subst, Option, None, Some}
use Rattle.std.specs.Prelude.{Contains, slice_get}
use Rattle.std.specs.List.{AllByRecursion}
use Rattle.std.proofs.lemmas.Bool.{cases_eq}
use Rattle.raft_store.specs.declared.entry.Entry.{Entry}
use Rattle.raft_store.specs.declared.entry.Value.{Value}
use Rattle.raft_store.specs.declared.entry.Value.TheVariants.{Bytes}
use Rattle.raft_codec.specs.Codec.{Codec}
use Rattle.raft_node.specs.declared.given.Given.{Given}
use Rattle.proof_packed.specs.Stores.{Application}
use Rattle.raft_answers.specs.declared.answer.Answer.{Answer}
use Rattle.raft_answers.specs.declared.answer.Answer.TheVariants.{Failed, NotLeader, Ok, Unknown}
use Rattle.raft_answers.specs.declared.request.Operation.{Operation as Asks}
use Rattle.raft_answers.specs.declared.request.Operation.TheVariants.{Read, Write}
use Rattle.proof_clients.specs.Objects.{AreTwo, Ask, HaveTwoEntries, IsDistinct, IsOnce, Object, Operation, Query, Return, Update, state_after}
use Rattle.proof_clients.proofs.Sequences.{each_of, element, first_or}
use Rattle.proof_clients.proofs.Slots.{here, there}
use Rattle.proof_servers.specs.Servers.{Action}
use Rattle.proof_answers.specs.Answers.{Executes, Fails, Proposed}
use Rattle.proof_answers.specs.Histories.{IsQuery, IsUpdate, QueryReturns}
use Rattle.proof_requests.specs.Clients.{AreBeside, AreNames, AreOver, AreTwoRequests, Cores, Exchange, HasRead, HasWrite, IsNo, IsOver, IsToldHistory, IsWritten, WasDone, WasTold}
use Rattle.proof_requests.specs.Requests.{AllPairs, AreApart, AreOfTwo, AreOnce, AreSingle, Asked, IsMarked, IsOwn, Placed}
use Rattle.proof_requests.proofs.Lists.{contains_slot, none_in}
use Rattle.proof_requests.proofs.Reading.{done_returns}

some_same : {A : Type 0} (a b : A) → ◌≡◌ {A = Option A} (Some a) (Some b) → a ≡ b
some_same a b e = cc

write_read : (bytes : List ℕ) → ◌≡◌ {A = Asks} (Write bytes) Read → ⊥
write_read bytes q = cc

module _ {S T R : Type 0} (m : Object T R) (app : Application S) (codec : Codec S) (given : Given) (actions : List Action) (placed : List Placed)
    (s : Cores S) (h : AreBeside app codec given actions placed s) (name : Exchange → ℕ) (named : AreNames s.done name) where
  -- an exchange tells of this value's request
  abbrev Tells : Placed → Exchange → Type 0
  Tells w e = w.by ≡ Some (e.server, e.asked.number)

  decides : (w : Placed) (e : Exchange) → Tells w e ⊎ (Tells w e → ⊥)
  decides w e = go w.by
    where
      pair : (a b : ℕ × ℕ) → ◌≡◌ {A = Option (ℕ × ℕ)} (Some a) (Some b) → (a.0 ≡ b.0) × (a.1 ≡ b.1)
      pair a b q = let z : a ≡ b = some_same a b q in (ap (λ (x : ℕ × ℕ). x.0) z, ap (λ (x : ℕ × ℕ). x.1) z)

      go : (o : Option (ℕ × ℕ)) → (o ≡ Some (e.server, e.asked.number)) ⊎ (o ≡ Some (e.server, e.asked.number) → ⊥)
      go None = inr (λ q. cc)
      go (Some by) =
          ⊎_elim
          (λ (a : by.0 ≡ e.server). ⊎_elim
          (λ (b : by.1 ≡ e.asked.number). inl (λ i. Some (a i, b i)))
          (λ b. inr (λ q. b (pair by (e.server, e.asked.number) q).1))
          (cases_eq by.1 e.asked.number))
          (λ a. inr (λ q. a (pair by (e.server, e.asked.number) q).0))
          (cases_eq by.0 e.server)

  -- what clients were told of a value: that it is done, or that it has failed, or neither
  record Done (es : List Exchange) (w : Placed) : Type 0 where
    by : Exchange
    there : Contains es by
    tells : Tells w by
    index : ℕ
    answer : by.answer ≡ Some (Ok index)

  record Failure (es : List Exchange) (w : Placed) : Type 0 where
    by : Exchange
    there : Contains es by
    tells : Tells w by
    answer : Answer
    told : by.answer ≡ Some answer
    no : IsNo answer

  record Neither (es : List Exchange) (w : Placed) : Type 0 where
    no_ok : (e : Exchange) (index : ℕ) → Contains es e → Tells w e → e.answer ≢ Some (Ok index)
    no_no : (e : Exchange) (x : Answer) → Contains es e → Tells w e → e.answer ≡ Some x → IsNo x → ⊥

  abbrev Fate : List Exchange → Placed → Type 0
  Fate es w = Done es w ⊎ (Failure es w ⊎ Neither es w)

  ok_same : (i j : ℕ) → ◌≡◌ {A = Option Answer} (Some (Ok i)) (Some (Ok j)) → i ≡ j
  ok_same i j e = cc

  ok_no : (i : ℕ) (x : Answer) → ◌≡◌ {A = Option Answer} (Some (Ok i)) (Some x) → IsNo x → ⊥
  ok_no i x q n = let z : x ≡ Ok i = sym (some_same (Ok i) x q) in subst IsNo z n

  fate : (w : Placed) (es : List Exchange) → Fate es w
  fate w [] = inr (inr (record { no_ok = λ e i c t a. absurd (none_in e c); no_no = λ e x c t a n. absurd (none_in e c) }))
  fate w (e ∷ es) = go (fate w es)
    where
      quiet : ((i : ℕ) → e.answer ≢ Some (Ok i)) → ((x : Answer) → e.answer ≡ Some x → IsNo x → ⊥) → Neither es w → Neither (e ∷ es) w
      quiet f g n = record {
        no_ok = λ x i c t a. ⊎_elim (λ z. f i (ap (λ (y : Exchange). y.answer) z ∙ a)) (λ z. n.no_ok x i z t a) (first_or e es x c);
        no_no = λ x y c t a k. ⊎_elim (λ z. g y (ap (λ (y : Exchange). y.answer) z ∙ a) k) (λ z. n.no_no x y z t a k) (first_or e es x c);
      }

      now : (x : Option Answer) → e.answer ≡ x → Tells w e → Neither es w → Fate (e ∷ es) w
      now None q t n =
          inr (inr (quiet (λ i a. let z : ◌≡◌ {A = Option Answer} None (Some (Ok i)) = sym q ∙ a in cc) (λ x a k. let z : ◌≡◌ {A = Option Answer} None (Some x) = sym q ∙ a in cc) n))
      now (Some (Ok i)) q t n = inl (record { by = e; there = here e es; tells = t; index = i; answer = q })
      now (Some Failed) q t n = inr (inl (record { by = e; there = here e es; tells = t; answer = Failed; told = q; no = tt }))
      now (Some (NotLeader l)) q t n = inr (inl (record { by = e; there = here e es; tells = t; answer = NotLeader l; told = q; no = tt }))
      now (Some Unknown) q t n =
          inr (inr (quiet (λ i a. let z : ◌≡◌ {A = Option Answer} (Some Unknown) (Some (Ok i)) = sym q ∙ a in cc)
          (λ x a k. let z : x ≡ Unknown = sym (some_same Unknown x (sym q ∙ a)) in subst IsNo z k) n))

      go : Fate es w → Fate (e ∷ es) w
      go (inl d) = inl (record { by = d.by; there = there e es d.by d.there; tells = d.tells; index = d.index; answer = d.answer })
      go (inr (inl d)) = inr (inl (record { by = d.by; there = there e es d.by d.there; tells = d.tells; answer = d.answer; told = d.told; no = d.no }))
      go (inr (inr n)) =
          ⊎_elim
          (λ t. now e.answer refl t n)
          (λ d. inr (inr (record {
            no_ok = λ x i c u a. ⊎_elim (λ z. d (subst (Tells w) (sym z) u)) (λ z. n.no_ok x i z u a) (first_or e es x c);
            no_no = λ x y c u a k. ⊎_elim (λ z. d (subst (Tells w) (sym z) u)) (λ z. n.no_no x y z u a k) (first_or e es x c);
          })))
          (decides w e)

  told_of : (e : Exchange) → Contains s.done e → (x : Answer) → e.answer ≡ Some x → WasTold given actions placed e x
  told_of e c x q = (element (IsOver given actions placed s) s.done e h.over c).was_told x q

  -- one exchange tells of a value
  one_over : (es : List Exchange) → AreOver es → (e f : Exchange) → Contains es e → Contains es f → e.server ≡ f.server → e.asked.number ≡ f.asked.number → e ≡ f
  one_over [] o e f c d p q = absurd (none_in e c)
  one_over (x ∷ es) o e f c d p q =
      ⊎_elim
      (λ (y : x ≡ e). ⊎_elim (λ (z : x ≡ f). sym y ∙ z)
      (λ z. absurd (two e f (subst (λ (u : Exchange). AreTwoRequests u f) y (element (AreTwoRequests x) es f o.0 z)) p q)) (first_or x es f d))
      (λ y. ⊎_elim
      (λ (z : x ≡ f). absurd (two f e (subst (λ (u : Exchange). AreTwoRequests u e) z (element (AreTwoRequests x) es e o.0 y)) (sym p) (sym q)))
      (λ z. one_over es o.1 e f y z p q) (first_or x es f d))
      (first_or x es e c)
    where
      two : (e f : Exchange) → AreTwoRequests e f → e.server ≡ f.server → e.asked.number ≡ f.asked.number → ⊥
      two e f (inl d) p q = d p
      two e f (inr d) p q = d q

  one_tells : (w : Placed) (e f : Exchange) → Contains s.done e → Contains s.done f → Tells w e → Tells w f → e ≡ f
  one_tells w e f c d t u =
      let z : ◌≡◌ {A = ℕ × ℕ} (e.server, e.asked.number) (f.server, f.asked.number) = some_same (e.server, e.asked.number) (f.server, f.asked.number) (sym t ∙ u) in
      one_over s.done h.once e f c d (ap (λ (x : ℕ × ℕ). x.0) z) (ap (λ (x : ℕ × ℕ). x.1) z)

  proposed : (w : Placed) → Contains placed w → Proposed given actions w.call w.value w.entry
  proposed w c = element (λ (w : Placed). Proposed given actions w.call w.value w.entry) placed w h.placed_are.each c

  fails_of : (w : Placed) → Contains placed w → Failure s.done w → Fails given actions w.entry
  fails_of w c f = go f.answer f.no (told_of f.by f.there f.answer f.told)
    where
      go : (x : Answer) → IsNo x → WasTold given actions placed f.by x → Fails given actions w.entry
      go Failed n t = t w c f.tells
      go (NotLeader l) n t = t w c f.tells
      go (Ok i) n t = absurd n
      go Unknown n t = absurd n

  -- an update returned, if a client was told that it is done
  abbrev Returned : Placed → Operation R → Type 0
  Returned w o = (e : Exchange) (index : ℕ) → Contains s.done e → e.answer ≡ Some (Ok index) → Tells w e → (r : Return R) × (o.returned ≡ Some r) × (r.events < e.told)

  record Made (w : Placed) : Type 0 where
    op : Operation R
    call : op.call ≡ w.call
    ask : op.ask ≡ Update w.value w.entry
    is : IsUpdate m given actions op
    returned : Returned w op
    may_be : (e : Exchange) (x : Answer) → Contains s.done e → e.answer ≡ Some x → Tells w e → IsNo x → ⊥

  -- no value is a read's
  no_read : (w : Placed) (e : Exchange) → Contains placed w → Contains s.done e → Tells w e → e.asked.operation ≡ Read → ⊥
  no_read w e c d t r =
      let z = h.values w e.server e.asked.number c t in
      let wrote : z.asked.operation ≡ Write z.wrote.0 = z.wrote.1 in
      ⊎_elim
      (λ o. (element (IsOver given actions placed s) s.done e h.over d).apart z.asked (inl o) (sym z.number_is))
      (λ x.
      let same : x.0 ≡ e = one_over s.done h.once x.0 e x.1 d x.2 (ap (λ (a : Asked). a.number) x.3 ∙ z.number_is) in
      write_read z.wrote.0 (sym wrote ∙ (ap (λ (a : Asked). a.operation) (sym x.3) ∙ (ap (λ (y : Exchange). y.asked.operation) same ∙ r))))
      z.there

  -- a value whose request was answered by Ok is done
  done_of : (w : Placed) → Contains placed w → (d : Done s.done w) → WasDone given actions placed d.by d.index
  done_of w c d = ⊎_elim (λ t. t) (λ t. absurd (no_read w d.by c d.there d.tells t.0)) (told_of d.by d.there (Ok d.index) d.answer)

  made_done : (w : Placed) → Contains placed w → Done s.done w → Made w
  made_done w c d =
      let t : WasDone given actions placed d.by d.index = done_of w c d in
      let is : w ≡ t.0.awaits = t.0.only w c d.tells in
      let e : Executes given actions w.call w.entry t.0.flush t.0.commands = subst (λ (p : Placed). Executes given actions p.call p.entry t.0.flush t.0.commands) (sym is) t.0.executes in
      let r : Return R = record {
        events = t.0.flush;
        commands = t.0.commands;
        taken = w.entry.log_id.index + 1;
        result = (m.update (state_after m m.first (take w.entry.log_id.index e.taken)) w.value).1;
      } in
      record {
        op = record { call = w.call; ask = Update w.value w.entry; returned = Some r };
        call = refl;
        ask = refl;
        is = record { value = w.value; entry = w.entry; ask = refl; proposed = proposed w c; returned = record { executes = e; result = refl } };
        returned = λ f index k a u. (r, refl, subst (λ (x : Exchange). t.0.flush < x.told) (one_tells w d.by f d.there k d.tells u) t.1);
        may_be = λ f x k a u n. ok_no d.index x (sym d.answer ∙ (ap (λ (y : Exchange). y.answer) (one_tells w d.by f d.there k d.tells u) ∙ a)) n;
      }

  made_open : (w : Placed) → Contains placed w → Neither s.done w → Made w
  made_open w c n = record {
    op = record { call = w.call; ask = Update w.value w.entry; returned = None };
    call = refl;
    ask = refl;
    is = record { value = w.value; entry = w.entry; ask = refl; proposed = proposed w c; returned = tt };
    returned = λ e index k a t. absurd (n.no_ok e index k t a);
    may_be = λ e x k a t q. n.no_no e x k t a q;
  }

  made : (w : Placed) → Contains placed w → Made w ⊎ Failure s.done w
  made w c = ⊎_elim (λ d. inl (made_done w c d)) (λ f. ⊎_elim inr (λ n. inl (made_open w c n)) f) (fate w s.done)

  record Updates (ws : List Placed) : Type 0 where
    ops : List (Operation R)
    of : List Placed
    each : AllByRecursion (IsUpdate m given actions) ops
    written : AllPairs (IsWritten given actions placed m s) ops of
    within : AllByRecursion (Contains ws) of
    once : IsOnce ops
    single : AreSingle of
    has : (w : Placed) → Contains ws w → ((k : ℕ) × (o : Operation R) × (slice_get ops k ≡ Some o) × (slice_get of k ≡ Some w) × (o.call ≡ w.call) × (o.ask ≡ Update w.value w.entry) × Returned w o) ⊎ Failure s.done w

  are_two : (v w : Placed) (o p : Operation R) → o.call ≡ v.call → o.ask ≡ Update v.value v.entry → p.call ≡ w.call → p.ask ≡ Update w.value w.entry → AreApart v w → AreTwo o p
  are_two v w o p a b c d (inl x) = inl (λ q. x (sym a ∙ (q ∙ c)))
  are_two v w o p a b c d (inr x) = inr (subst (λ (y : Ask). HaveTwoEntries o.ask y) (sym d) (subst (λ (y : Ask). HaveTwoEntries y (Update w.value w.entry)) (sym b) x))

  -- each is another operation than that of a value that is apart from all
  all_two : (w : Placed) (o : Operation R) → o.call ≡ w.call → o.ask ≡ Update w.value w.entry → (ops : List (Operation R)) (of : List Placed) → AllPairs (IsWritten given actions placed m s) ops of → AllByRecursion (AreApart w) of
      → AllByRecursion (AreTwo o) ops
  all_two w o a b [] [] h k = tt
  all_two w o a b [] (v ∷ of) h k = absurd h
  all_two w o a b (p ∷ ops) [] h k = absurd h
  all_two w o a b (p ∷ ops) (v ∷ of) h k = (are_two w v o p a b h.0.call h.0.ask k.0, all_two w o a b ops of h.1 k.1)

  updates_of : (ws : List Placed) → ((w : Placed) → Contains ws w → Contains placed w) → AreOnce ws → AreSingle ws → Updates ws
  updates_of [] f o t = record { ops = []; of = []; each = tt; written = tt; within = tt; once = tt; single = tt; has = λ w c. absurd (none_in w c) }
  updates_of (w ∷ ws) f o t = go (made w (f w (here w ws))) (updates_of ws (λ v c. f v (there w ws v c)) o.1 t.1)
    where
      go : Made w ⊎ Failure s.done w → Updates ws → Updates (w ∷ ws)
      go (inl k) u = record {
        ops = k.op ∷ u.ops;
        of = w ∷ u.of;
        each = (k.is, u.each);
        written = (record { there = f w (here w ws); written = λ i n e. h.values w i n (f w (here w ws)) e; marker = element IsMarked placed w h.placed_are.markers (f w (here w ws)); call = k.call; ask = k.ask; may_be = k.may_be }, u.written);
        within = (here w ws, each_of (Contains ws) (Contains (w ∷ ws)) (λ v c. there w ws v c) u.of u.within);
        once = (
          all_two w k.op k.call k.ask u.ops u.of u.written (each_of (Contains ws) (AreApart w) (λ v c. element (AreApart w) ws v o.0 c) u.of u.within),
          u.once,
        );
        single = (each_of (Contains ws) (AreOfTwo w) (λ v c. element (AreOfTwo w) ws v t.0 c) u.of u.within, u.single);
        has = λ v c.
            ⊎_elim
            (λ (e : w ≡ v). inl (subst (λ (v : Placed). (i : ℕ) × (o : Operation R) × (slice_get (k.op ∷ u.ops) i ≡ Some o) × (slice_get (w ∷ u.of) i ≡ Some v) × (o.call ≡ v.call) × (o.ask ≡ Update v.value v.entry) × Returned v o) e
            (0, k.op, refl, refl, k.call, k.ask, k.returned)))
            (λ d. ⊎_elim (λ z. inl (suc z.0, z.1, z.2, z.3, z.4, z.5, z.6)) inr (u.has v d))
            (first_or w ws v c);
      }
      go (inr k) u = record {
        ops = u.ops;
        of = u.of;
        each = u.each;
        written = u.written;
        within = each_of (Contains ws) (Contains (w ∷ ws)) (λ v c. there w ws v c) u.of u.within;
        once = u.once;
        single = u.single;
        has = λ v c. ⊎_elim (λ (e : w ≡ v). inr (subst (Failure s.done) e k)) (λ d. u.has v d) (first_or w ws v c);
      }

  -- Reads

  -- how a read returned
  record Returns (e : Exchange) (i : ℕ) : Type 0 where
    how : Return R
    by : QueryReturns m given actions e.asked.came (name e) how
    taken : how.taken ≡ i + 1
    early : how.events < e.told

  returns : (e : Exchange) (i : ℕ) → WasTold given actions placed e (Ok i) → Returns e i
  returns e i (inl (d, l)) = record {
    how = record {
      events = d.flush;
      commands = d.commands;
      taken = d.awaits.entry.log_id.index + 1;
      result = m.query (state_after m m.first (take (d.awaits.entry.log_id.index + 1) d.executes.taken)) (name e);
    };
    by = inl (record {
      proposal = d.awaits.call;
      later = d.later;
      value = d.awaits.value;
      marker = d.awaits.entry;
      proposed = proposed d.awaits d.there;
      executes = d.executes;
      taken = refl;
      result = refl;
    });
    taken = (let u : d.awaits.entry.log_id.index ≡ i = d.index_is in omega (arith, u));
    early = l;
  }
  returns e i (inr (r, d, l)) = record {
    how = record { events = d.upto; commands = d.commands; taken = i + 1; result = m.query (state_after m m.first d.entries) (name e) };
    by = inr (done_returns m given actions e.server e.asked i (name e) d);
    taken = refl;
    early = l;
  }

  record Queries (es : List Exchange) : Type 0 where
    ops : List (Operation R)
    each : AllByRecursion (IsQuery m given actions) ops
    from : AllByRecursion (λ (o : Operation R). (f : Exchange) × Contains es f × (o.ask ≡ Query (name f))) ops
    distinct : IsDistinct ops
    has : (e : Exchange) (index : ℕ) → Contains es e → e.asked.operation ≡ Read → e.answer ≡ Some (Ok index) → HasRead given actions placed m s name ops e index

  query_same : (a b : ℕ) → ◌≡◌ {A = Ask} (Query a) (Query b) → a ≡ b
  query_same a b e = cc

  queries_of : (es : List Exchange) → ((e : Exchange) → Contains es e → Contains s.done e) → AreOver es → Queries es
  queries_of [] f o = record { ops = []; each = tt; from = tt; distinct = tt; has = λ e i c. absurd (none_in e c) }
  queries_of (e ∷ es) f once = by e.asked.operation refl (queries_of es (λ x c. f x (there e es x c)) once.1)
    where
      wider : (qs : List (Operation R)) → AllByRecursion (λ (o : Operation R). (x : Exchange) × Contains es x × (o.ask ≡ Query (name x))) qs
          → AllByRecursion (λ (o : Operation R). (x : Exchange) × Contains (e ∷ es) x × (o.ask ≡ Query (name x))) qs
      wider qs a = each_of (λ (o : Operation R). (x : Exchange) × Contains es x × (o.ask ≡ Query (name x))) (λ (o : Operation R). (x : Exchange) × Contains (e ∷ es) x × (o.ask ≡ Query (name x))) (λ o z. (z.0, there e es z.0 z.1, z.2)) qs a

      apart : (x : Exchange) → Contains es x → name x ≡ name e → ⊥
      apart x c q = let z = named e x (f e (here e es)) (f x (there e es x c)) (sym q) in two_of (element (AreTwoRequests e) es x once.0 c) z
        where
          two_of : AreTwoRequests e x → (e.server ≡ x.server) × (e.asked.number ≡ x.asked.number) → ⊥
          two_of (inl d) z = d z.0
          two_of (inr d) z = d z.1

      passed : Queries es → ((index : ℕ) → e.asked.operation ≡ Read → e.answer ≡ Some (Ok index) → ⊥) → Queries (e ∷ es)
      passed q none_such = record {
        ops = q.ops;
        each = q.each;
        from = wider q.ops q.from;
        distinct = q.distinct;
        has = λ x i c r a. ⊎_elim (λ (z : e ≡ x). absurd (none_such i (ap (λ (y : Exchange). y.asked.operation) z ∙ r) (ap (λ (y : Exchange). y.answer) z ∙ a))) (λ z. q.has x i z r a) (first_or e es x c);
      }

      asks_write : (bytes : List ℕ) → e.asked.operation ≡ Write bytes → (index : ℕ) → e.asked.operation ≡ Read → e.answer ≡ Some (Ok index) → ⊥
      asks_write bytes q index r a = let z : ◌≡◌ {A = Asks} (Write bytes) Read = sym q ∙ r in cc

      other : (x : Option Answer) → e.answer ≡ x → ((index : ℕ) → x ≢ Some (Ok index)) → (index : ℕ) → e.asked.operation ≡ Read → e.answer ≡ Some (Ok index) → ⊥
      other x q never index r a = never index (sym q ∙ a)

      added : Queries es → e.asked.operation ≡ Read → (i : ℕ) → e.answer ≡ Some (Ok i) → Queries (e ∷ es)
      added q r i a =
          let t : Returns e i = returns e i (told_of e (f e (here e es)) (Ok i) a) in
          let how : Return R = t.how in
          let o : Operation R = record { call = e.asked.came; ask = Query (name e); returned = Some how } in
          record {
            ops = o ∷ q.ops;
            each = (record { query = name e; ask = refl; returned = t.by }, q.each);
            from = ((e, here e es, refl), wider q.ops q.from);
            distinct = (
              each_of (λ (p : Operation R). (x : Exchange) × Contains es x × (p.ask ≡ Query (name x))) (λ (p : Operation R). p ≢ o)
                  (λ p z same. apart z.0 z.1 (query_same (name z.0) (name e) (sym z.2 ∙ ap (λ (u : Operation R). u.ask) same))) q.ops q.from,
              q.distinct,
            );
            has = λ x j c rx ax.
                ⊎_elim
                (λ (z : e ≡ x). subst (λ (x : Exchange). HasRead given actions placed m s name (o ∷ q.ops) x j) z (record {
                  operation = o;
                  there = here o q.ops;
                  call = refl;
                  ask = refl;
                  how = how;
                  returned = refl;
                  taken = (let u : how.taken ≡ i + 1 = t.taken in let v : i ≡ j = ok_same i j (sym a ∙ (ap (λ (y : Exchange). y.answer) z ∙ ax)) in omega (arith, u, v));
                  early = t.early;
                }))
                (λ z.
                let k = q.has x j z rx ax in
                record { operation = k.operation; there = there o q.ops k.operation k.there; call = k.call; ask = k.ask; how = k.how; returned = k.returned; taken = k.taken; early = k.early })
                (first_or e es x c);
          }

      by_answer : (x : Option Answer) → e.answer ≡ x → e.asked.operation ≡ Read → Queries es → Queries (e ∷ es)
      by_answer None a r q = passed q (other None a (λ i z. cc))
      by_answer (Some (Ok i)) a r q = added q r i a
      by_answer (Some Failed) a r q = passed q (other (Some Failed) a (λ i z. cc))
      by_answer (Some (NotLeader l)) a r q = passed q (other (Some (NotLeader l)) a (λ i z. cc))
      by_answer (Some Unknown) a r q = passed q (other (Some Unknown) a (λ i z. cc))

      by : (x : Asks) → e.asked.operation ≡ x → Queries es → Queries (e ∷ es)
      by (Write bytes) r q = passed q (asks_write bytes r)
      by Read r q = by_answer e.answer refl r q

  -- The history

  the_updates : Updates placed
  the_updates = updates_of placed (λ w c. c) h.placed_are.once h.placed_are.single

  the_queries : Queries s.done
  the_queries = queries_of s.done (λ e c. c) h.once

  has_all : (call : ℕ) (v : Value) (x : Entry) → Proposed given actions call v x
      → ((o : Operation R) × Contains the_updates.ops o × (o.call ≡ call) × (o.ask ≡ Update v x)) ⊎ Fails given actions x
  has_all call v x p =
      let z = h.placed_are.all call v x p in
      ⊎_elim
      (λ y. inl (y.1, contains_slot the_updates.ops y.0 y.1 y.2, y.4 ∙ z.2, y.5 ∙ (ap (λ u. Update u z.0.entry) z.3 ∙ ap (Update v) z.4)))
      (λ y. inr (subst (Fails given actions) z.4 (fails_of z.0 z.1 y)))
      (the_updates.has z.0 z.1)

  has_writes : (e : Exchange) (bytes : List ℕ) (index : ℕ) → Contains s.done e → e.asked.operation ≡ Write bytes → e.answer ≡ Some (Ok index) → HasWrite given actions placed m s the_updates.ops the_updates.of e bytes index
  has_writes e bytes index c o a =
      let t : WasDone given actions placed e index = ⊎_elim (λ x. x) (λ x. absurd (write_read bytes (sym o ∙ x.0))) (told_of e c (Ok index) a) in
      let own : (t.0.awaits.by ≡ Some (e.server, e.asked.number)) × (t.0.awaits.value ≡ Bytes bytes) = subst (λ x. IsOwn e.server e.asked.number x t.0.awaits) o t.0.own in
      ⊎_elim
      (λ y.
      let r = y.6 e index c a own.0 in
      record {
        place = y.0;
        operation = y.1;
        there = y.2;
        of = t.0.awaits;
        value = y.3;
        by = own.0;
        entry = t.0.awaits.entry;
        ask = y.5 ∙ ap (λ v. Update v t.0.awaits.entry) own.1;
        index_is = t.0.index_is;
        later = (let l = t.0.later in let q = y.4 in omega (arith, l, q));
        how = r.0;
        returned = r.1;
        early = r.2;
      })
      (λ f. absurd (ok_no index f.answer (sym a ∙ (ap (λ (x : Exchange). x.answer) (one_tells t.0.awaits e f.by c f.there own.0 f.tells) ∙ f.told)) f.no))
      (the_updates.has t.0.awaits t.0.there)

  told_history : IsToldHistory given actions placed m s name the_updates.ops the_queries.ops
  told_history = record {
    history = record { are_updates = the_updates.each; are_queries = the_queries.each; once = the_updates.once; distinct = the_queries.distinct; all = has_all };
    values = the_updates.of;
    written = the_updates.written;
    single = the_updates.single;
    writes = has_writes;
    reads = the_queries.has;
  }

  pub ops_told : (updates : List (Operation R)) × (queries : List (Operation R)) × IsToldHistory given actions placed m s name updates queries
  ops_told = (the_updates.ops, the_queries.ops, told_history)
