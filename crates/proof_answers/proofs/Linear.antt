-- Histories of clients of servers are linearizable: updates in the order of the longest log that was ever decided, and each query
-- behind the entries that its server had taken.
use Rattle.std.proofs.Common.{ℕ, suc, ◌+◌, ◌-◌, ◌<◌, ◌≤◌, ◌≡◌, ◌≢◌, ◌⊎◌, inl, inr, ⊎_elim, List, [], ◌∷◌, ◌++◌, length, take, arith, refl, sym, ap, ◌∙◌, subst, Option, None, Some}
use Rattle.std.specs.Prelude.{Contains, IfSome, slice_get}
use Rattle.std.specs.List.{AllByRecursion}
use Rattle.std.proofs.lemmas.Bool.{cases_lt}
use Rattle.std.proofs.lemmas.List.Elements.{Contains-append_cases, Contains-append_left, Contains-append_right}
use Rattle.proof_deeds.specs.raft_store.declared.entry.Entry.{Entry}
use Rattle.proof_deeds.specs.raft_store.declared.entry.Payload.TheVariants as payload
use Rattle.proof_deeds.specs.raft_store.declared.entry.Value.{Value}
use Rattle.proof_deeds.specs.raft_schedule.declared.event.Event.{Event}
use Rattle.proof_deeds.specs.raft_node.declared.given.Given.{Given}
use Rattle.proof_deeds.specs.raft_node.declared.record.Decided.{Decided}
use Rattle.proof_deeds.specs.raft_node.Runs.{world_after}
use Rattle.proof_deeds.specs.raft_node.WellFormed.{IsWellFormed}
use Rattle.proof_clients.specs.Appends.{Appended}
use Rattle.proof_clients.specs.Objects.{AreTwo, Ask, HaveTwoEntries, IsDistinct, IsLinearizable, Object, Operation, Precedes, Query, Return, Update, answer, state_after}
use Rattle.proof_clients.proofs.OneLogs.{InEnd, end_is_one, index_in_end, same_in_end}
use Rattle.proof_clients.proofs.Order.{appends_once, before_it}
use Rattle.proof_clients.proofs.Sequences.{Carries, IsBefore, Looks, Ordered, Orders, Placed, Queries, Updates, distinct, each_of, element, first_or, found, legal, one_of_once, ordered, placed, rank, rank_carried, rank_looked}
use Rattle.proof_clients.proofs.Slots.{begins_by, here, slot_at, slot_below, slot_on, take_same, there}
use Rattle.proof_servers.specs.Servers.{Action, AllMayAct, new_cluster}
use Rattle.proof_answers.specs.Answers.{Executes, Fails, Proposed}
use Rattle.proof_answers.specs.Histories.{IsHistory, IsQuery, IsUpdate, MarkerReturns, QueryReturns, RuleReturns, UpdateReturns}
use Rattle.proof_answers.specs.Laws.{OfAllActions, SeeOne}
use Rattle.proof_answers.proofs.Came.{AtMoment, Came, CameThen, T, came_or_not, came_then, es, executed_at, executed_came, executed_in_end, executed_later, from_action, h as happened, proposal_appended, told_before, told_in_end, told_then}
use Rattle.proof_answers.proofs.Places.{IsSorted, insert, strict_sorted, timely}
use Rattle.proof_answers.proofs.Rule.{sees}
use Rattle.proof_answers.proofs.Traces.{Stamp}

-- the longest of decided logs
record Longest (rs : List (Decided (List Entry))) : Type 0 where
  log : List Entry
  above : AllByRecursion (λ (q : Decided (List Entry)). length q.log ≤ length log) rs
  from : 0 < length log → (r : Decided (List Entry)) × Contains rs r × (r.log ≡ log)

longest : (rs : List (Decided (List Entry))) → Longest rs
longest [] = record { log = []; above = tt; from = λ l. absurd (omega (arith, l)) }
longest (r ∷ rs) = go (longest rs) where
  go : Longest rs → Longest (r ∷ rs)
  go t =
      ⊎_elim
      (λ (l : length t.log < length r.log). record {
        log = r.log;
        above = (omega arith, each_of (λ (q : Decided (List Entry)). length q.log ≤ length t.log) (λ (q : Decided (List Entry)). length q.log ≤ length r.log) (λ q k. omega (arith, k, l)) rs t.above);
        from = λ _. (r, here r rs, refl);
      })
      (λ (l : length r.log ≤ length t.log). record {
        log = t.log;
        above = (l, t.above);
        from = λ k. let z = t.from k in (z.0, there r rs z.0 z.1, z.2);
      })
      (cases_lt (length t.log) (length r.log))

ask_same : (a b : Value) (x y : Entry) → ◌≡◌ {A = Ask} (Update a x) (Update b y) → (a ≡ b) × (x ≡ y)
ask_same a b x y e = ((let z : a ≡ b = cc in z), (let z : x ≡ y = cc in z))

query_same : (q r : ℕ) → ◌≡◌ {A = Ask} (Query q) (Query r) → q ≡ r
query_same q r e = cc

other_ask : (q : ℕ) (v : Value) (x : Entry) → ◌≡◌ {A = Ask} (Query q) (Update v x) → ⊥
other_ask q v x e = cc

some_same : {A : Type 0} (a b : A) → ◌≡◌ {A = Option A} (Some a) (Some b) → a ≡ b
some_same a b e = cc

module _ {S R : Type 0} (m : Object S R) (given : Given) (wf : IsWellFormed given) (actions : List Action) (may : AllMayAct given actions (new_cluster given)) where
  abbrev run : List Event
  run = es given wf actions may

  top : Longest (world_after given run).records.decided
  top = longest (world_after given run).records.decided

  -- what is decided at a place stands there in the longest log, and the other way round
  at_top : (i : ℕ) (x : Entry) → InEnd given wf run i x → slice_get top.log i ≡ Some x
  at_top i x a =
      let l : length a.by.log ≤ length top.log = element (λ (q : Decided (List Entry)). length q.log ≤ length top.log) (world_after given run).records.decided a.by top.above a.there in
      let k : i < length a.by.log = slot_below a.by.log i x a.slot in
      let z = top.from (omega (arith, l, k)) in
      subst (λ xs. slice_get xs i ≡ Some x) z.2
      (slot_on a.by.log z.0.log (end_is_one given wf run a.by z.0 a.there z.1 (subst (λ xs. length a.by.log ≤ length xs) (sym z.2) l)) i x a.slot)

  in_end : (i : ℕ) (x : Entry) → slice_get top.log i ≡ Some x → InEnd given wf run i x
  in_end i x e =
      let k : i < length top.log = slot_below top.log i x e in
      let z = top.from (omega (arith, k)) in
      record { by = z.0; there = z.1; slot = subst (λ xs. slice_get xs i ≡ Some x) (sym z.2) e }

  -- what was told is how the longest log begins, up to an entry that was taken
  upto : (flush commands : ℕ) (taken : List Entry) → AtMoment given wf actions may flush commands taken → (k : ℕ) (y : Entry) → slice_get taken k ≡ Some y → take k taken ≡ take k top.log
  upto flush commands taken a k y e =
      let l : k < length taken = slot_below taken k y e in
      let t : k < length top.log = slot_below top.log k y (at_top k y (told_in_end given wf actions may flush commands taken a k y e)) in
      take_same k taken top.log (omega (arith, l)) (omega (arith, t))
      (λ p u w b f g. same_in_end given wf run p u w (told_in_end given wf actions may flush commands taken a p u f) (in_end p w g))

  -- and with it
  through : (flush commands : ℕ) (taken : List Entry) → AtMoment given wf actions may flush commands taken → (k : ℕ) (y : Entry) → slice_get taken k ≡ Some y → take (k + 1) taken ≡ take (k + 1) top.log
  through flush commands taken a k y e =
      let l : k < length taken = slot_below taken k y e in
      let t : k < length top.log = slot_below top.log k y (at_top k y (told_in_end given wf actions may flush commands taken a k y e)) in
      take_same (k + 1) taken top.log (omega (arith, l)) (omega (arith, t))
      (λ p u w b f g. same_in_end given wf run p u w (told_in_end given wf actions may flush commands taken a p u f) (in_end p w g))

  -- all that was told is so
  module _ (flush commands : ℕ) (taken : List Entry) (a : AtMoment given wf actions may flush commands taken) where
    short : length taken ≤ length top.log
    short =
        ⊎_elim
        (λ (l : 0 < length taken).
        let y = slot_at taken (length taken - 1) (omega (arith, l)) in
        let k : length taken - 1 < length top.log = slot_below top.log (length taken - 1) y.0 (at_top (length taken - 1) y.0 (told_in_end given wf actions may flush commands taken a (length taken - 1) y.0 y.1)) in
        omega (arith, k, l))
        (λ (l : length taken ≤ 0). omega (arith, l))
        (cases_lt 0 (length taken))

    begins_top : take (length taken) top.log ≡ taken
    begins_top = begins_by taken top.log short (λ p u w f g. same_in_end given wf run p u w (told_in_end given wf actions may flush commands taken a p u f) (in_end p w g))

  module _ (updates queries : List (Operation R)) (h : IsHistory m given actions updates queries) where
    -- The updates whose step came on disk

    record Kept (os : List (Operation R)) : Type 0 where
      list : List (Operation R)
      from : AllByRecursion (λ o. Contains os o × Came given wf actions may o.call) list
      has : (o : Operation R) → Contains os o → Came given wf actions may o.call → Contains list o

    keep : (os : List (Operation R)) → Kept os
    keep [] = record { list = []; from = tt; has = λ o c d. c }
    keep (o ∷ os) = go (came_or_not given wf actions may o.call) (keep os)
      where
        on : (ps : List (Operation R)) → AllByRecursion (λ p. Contains os p × Came given wf actions may p.call) ps → AllByRecursion (λ p. Contains (o ∷ os) p × Came given wf actions may p.call) ps
        on ps a = each_of (λ p. Contains os p × Came given wf actions may p.call) (λ p. Contains (o ∷ os) p × Came given wf actions may p.call) (λ p z. (there o os p z.0, z.1)) ps a

        go : Came given wf actions may o.call ⊎ (Came given wf actions may o.call → ⊥) → Kept os → Kept (o ∷ os)
        go (inl c) t = record {
          list = o ∷ t.list;
          from = ((here o os, c), on t.list t.from);
          has = λ p d k. ⊎_elim (λ z. subst (Contains (o ∷ t.list)) z (here o t.list)) (λ z. there o t.list p (t.has p z k)) (first_or o os p d);
        }
        go (inr never) t = record {
          list = t.list;
          from = on t.list t.from;
          has = λ p d k. ⊎_elim (λ z. absurd (never (subst (λ (y : Operation R). Came given wf actions may y.call) (sym z) k))) (λ z. t.has p z k) (first_or o os p d);
        }

    kept : Kept updates
    kept = keep updates

    ops : List (Operation R)
    ops = kept.list ++ queries

    -- How operations were asked for, and returned

    record Asked (o : Operation R) (v : Value) (x : Entry) : Type 0 where
      proposed : Proposed given actions o.call v x
      returned : IfSome o.returned (UpdateReturns m given actions o.call v x)

    asked : (o : Operation R) (v : Value) (x : Entry) → Contains updates o → o.ask ≡ Update v x → Asked o v x
    asked o v x c e =
        let u = element (IsUpdate m given actions) updates o h.are_updates c in
        let z = ask_same u.value v u.entry x (sym u.ask ∙ e) in
        subst (λ w. Asked o w x) z.0 (subst (λ y. Asked o u.value y) z.1 (record { proposed = u.proposed; returned = u.returned }))

    update_returned : (o : Operation R) (v : Value) (x : Entry) (r : Return R) → Contains updates o → o.ask ≡ Update v x → o.returned ≡ Some r → UpdateReturns m given actions o.call v x r
    update_returned o v x r c e q = subst (λ z. IfSome z (UpdateReturns m given actions o.call v x)) q (asked o v x c e).returned

    query_returned : (o : Operation R) (w : ℕ) (r : Return R) → Contains queries o → o.ask ≡ Query w → o.returned ≡ Some r → QueryReturns m given actions o.call w r
    query_returned o w r c e q =
        let u = element (IsQuery m given actions) queries o h.are_queries c in
        subst (λ y. QueryReturns m given actions o.call y r) (query_same u.query w (sym u.ask ∙ e))
        (subst (λ z. IfSome z (QueryReturns m given actions o.call u.query)) q u.returned)

    -- an update is one of the kept ones, a query one of the queries
    is_update : (o : Operation R) (v : Value) (x : Entry) → Contains ops o → o.ask ≡ Update v x → Contains updates o × Came given wf actions may o.call
    unfolding ops
    is_update o v x c e =
        ⊎_elim
        (λ k. element (λ o. Contains updates o × Came given wf actions may o.call) kept.list o kept.from k)
        (λ k. let u = element (IsQuery m given actions) queries o h.are_queries k in absurd (other_ask u.query v x (sym u.ask ∙ e)))
        (Contains-append_cases kept.list queries o c)

    is_query : (o : Operation R) (w : ℕ) → Contains ops o → o.ask ≡ Query w → Contains queries o
    unfolding ops
    is_query o w c e =
        ⊎_elim
        (λ k.
        let z = element (λ o. Contains updates o × Came given wf actions may o.call) kept.list o kept.from k in
        let u = element (IsUpdate m given actions) updates o h.are_updates z.0 in absurd (other_ask w u.value u.entry (sym e ∙ u.ask)))
        (λ k. k)
        (Contains-append_cases kept.list queries o c)

    kept_in : (o : Operation R) → Contains updates o → Came given wf actions may o.call → Contains ops o
    unfolding ops
    kept_in o c k = Contains-append_left kept.list queries o (kept.has o c k)

    query_in : (o : Operation R) → Contains queries o → Contains ops o
    unfolding ops
    query_in o c = Contains-append_right kept.list queries o c

    -- two updates by one action and one entry are one operation
    one : (o p : Operation R) (v w : Value) (x : Entry) → o.ask ≡ Update v x → p.ask ≡ Update w x → Contains updates o → Contains updates p → o.call ≡ p.call → o ≡ p
    one o p v w x e f c d q = one_of_once updates h.once o p c d (alike o p v w e f q) (alike p o w v f e (sym q))
      where
        alike : (a b : Operation R) (v w : Value) → a.ask ≡ Update v x → b.ask ≡ Update w x → a.call ≡ b.call → AreTwo a b → ⊥
        alike a b v w e f q (inl d) = d q
        alike a b v w e f q (inr d) = subst (λ z. HaveTwoEntries z (Update w x)) e (subst (HaveTwoEntries a.ask) f d) refl

    -- The updates, in the order of the longest log

    no_failure : (i : ℕ) (x : Entry) → InEnd given wf run i x → Fails given actions x → ⊥
    no_failure i x z f =
        let a = (told_then given wf actions may f.id f.flush f.commands f.taken f.told).0 in
        let q : x.log_id.index ≡ i = index_in_end given wf run i x z in
        let same : f.entry ≡ x =
        same_in_end given wf run i f.entry x (subst (λ j. InEnd given wf run j f.entry) q (told_in_end given wf actions may f.flush f.commands f.taken a x.log_id.index f.entry f.there)) z in
        f.other (ap (λ (y : Entry). y.log_id) same)

    carried : (i : ℕ) (x : Entry) (v : Value) → slice_get top.log i ≡ Some x → x.payload ≡ payload.Value v → (o : Operation R) × Carries ops (0 + i) x o
    carried i x v e q =
        let z : InEnd given wf run i x = in_end i x e in
        let k : x.log_id.index ≡ 0 + i = let w : x.log_id.index ≡ i = index_in_end given wf run i x z in omega (arith, w) in
        let f = from_action given wf actions may i x z v q in
        ⊎_elim
        (λ a. (a.0, record { there = kept_in a.0 a.1 (subst (Came given wf actions may) (sym a.2) f.came); index = k; value = v; payload = q; ask = a.3 }))
        (λ a. absurd (no_failure i x z a))
        (h.all f.call v x f.proposed)

    base : Ordered ops 0 top.log
    base = ordered ops 0 top.log carried

    -- What a query by the rule was told, and when its step came on disk

    module _ (call q : ℕ) (r : Return R) (y : RuleReturns m given actions call q r) where
      rule_at : AtMoment given wf actions may y.flush r.commands y.entries
      rule_at = (told_then given wf actions may y.id y.flush r.commands y.entries y.told).0

      rule_came : CameThen given wf actions may y.read y.flush
      rule_came =
          came_then given wf actions may y.id y.flush r.commands y.entries y.told y.read y.is.step y.is.takes y.since
          (λ number k at a b. y.is.runs number k at a (let l = y.early in omega (arith, b, l)))

      rule_early : rule_came.came.stamp.told ≤ r.events
      rule_early = let a = rule_came.early in let b = y.early in omega (arith, a, b)

    -- it looks at no more than the longest log
    within : (call q : ℕ) (r : Return R) → QueryReturns m given actions call q r → r.taken ≤ length top.log
    within call q r (inl y) =
        let s : y.marker.log_id.index < length top.log =
        slot_below top.log y.marker.log_id.index y.marker (at_top y.marker.log_id.index y.marker (executed_in_end given wf actions may y.proposal y.value y.marker y.proposed r.events r.commands y.executes)) in
        let t = y.taken in omega (arith, s, t)
    within call q r (inr y) = let s = short y.flush r.commands y.entries (rule_at call q r y) in let t = y.taken in omega (arith, s, t)

    -- and each query at its place

    abbrev IsOf : List (Operation R) → Operation R → Type 0
    IsOf rs o = ((v : Value) × (x : Entry) × (o.ask ≡ Update v x)) ⊎ Contains rs o

    record Full (rs : List (Operation R)) : Type 0 where
      order : List (Operation R)
      is : Orders ops 0 top.log order
      distinct : IsDistinct order
      sorted : IsSorted order
      has : (o : Operation R) (r : Return R) → Contains rs o → o.returned ≡ Some r → Contains order o
      keeps : (o : Operation R) → Contains base.order o → Contains order o
      from : AllByRecursion (IsOf rs) order

    none_returned : (r : Return R) → ◌≡◌ {A = Option (Return R)} None (Some r) → ⊥
    none_returned r e = cc

    passed : (o : Operation R) (rs : List (Operation R)) → Full rs → o.returned ≡ None → Full (o ∷ rs)
    passed o rs t never = record {
      order = t.order;
      is = t.is;
      distinct = t.distinct;
      sorted = t.sorted;
      has = λ p r c w. ⊎_elim (λ z. absurd (none_returned r (sym never ∙ (ap (λ (y : Operation R). y.returned) z ∙ w)))) (λ z. t.has p r z w) (first_or o rs p c);
      keeps = t.keeps;
      from = each_of (IsOf rs) (IsOf (o ∷ rs)) (λ p k. ⊎_elim inl (λ z. inr (there o rs p z)) k) t.order t.from;
    }

    looked : (o : Operation R) (rs : List (Operation R)) → Full rs → Contains queries o → AllByRecursion (λ p. p ≢ o) rs → (q : ℕ) (r : Return R) → o.ask ≡ Query q → o.returned ≡ Some r → Full (o ∷ rs)
    looked o rs t c fresh q r e w =
        let s : r.taken ≤ length top.log = within o.call q r (query_returned o q r c e w) in
        let k : Looks ops r.taken o = record { there = query_in o c; query = q; ask = e; how = r; returned = w; taken = refl } in
        let i = insert ops o r.taken k (omega arith) (omega (arith, s)) t.is (each_of (IsOf rs) (λ p. p ≢ o) other t.order t.from) t.distinct t.sorted in
        record {
          order = i.order;
          is = i.is;
          distinct = i.distinct;
          sorted = i.sorted;
          has = λ p r2 c2 w2. ⊎_elim (λ z. subst (Contains i.order) z i.has) (λ z. i.keeps p (t.has p r2 z w2)) (first_or o rs p c2);
          keeps = λ p z. i.keeps p (t.keeps p z);
          from = each_of (Contains (o ∷ t.order)) (IsOf (o ∷ rs))
              (λ p z. ⊎_elim (λ u. inr (subst (Contains (o ∷ rs)) u (here o rs))) (λ u. ⊎_elim inl (λ a. inr (there o rs p a)) (element (IsOf rs) t.order p t.from u)) (first_or o t.order p z)) i.order i.only;
        }
      where
        other : (p : Operation R) → IsOf rs p → p ≢ o
        other p (inl a) = λ z. other_ask q a.0 a.1 (sym e ∙ (ap (λ (y : Operation R). y.ask) (sym z) ∙ a.2))
        other p (inr a) = element (λ p. p ≢ o) rs p fresh a

    add : (o : Operation R) (rs : List (Operation R)) → Full rs → Contains queries o → AllByRecursion (λ p. p ≢ o) rs → (z : Option (Return R)) → o.returned ≡ z → Full (o ∷ rs)
    add o rs t c d None w = passed o rs t w
    add o rs t c d (Some r) w = let u = element (IsQuery m given actions) queries o h.are_queries c in looked o rs t c d u.query r u.ask w

    full : (rs : List (Operation R)) → ((o : Operation R) → Contains rs o → Contains queries o) → IsDistinct rs → Full rs
    full [] f k = record {
      order = base.order;
      is = base.is;
      distinct = distinct base.order base.sorted;
      sorted = strict_sorted base.order base.sorted;
      has = λ o r c w. absurd (let l : c.0 < 0 = c.1 in omega (arith, l));
      keeps = λ o c. c;
      from = each_of (λ p. (v : Value) × (x : Entry) × (p.ask ≡ Update v x)) (IsOf []) (λ p z. inl z) base.order base.updates;
    }
    full (o ∷ rs) f k = add o rs (full rs (λ p c. f p (there o rs p c)) k.1) (f o (here o rs)) k.0 o.returned refl

    line : Full queries
    line = full queries (λ o c. c) h.distinct

    -- Results are those over the longest log

    over : (call : ℕ) (v : Value) (x : Entry) (p : Proposed given actions call v x) (flush commands : ℕ) (t : Executes given actions call x flush commands) → take x.log_id.index t.taken ≡ take x.log_id.index top.log
    over call v x p flush commands t = upto flush commands t.taken (executed_at given wf actions may call v x p flush commands t) x.log_id.index t.entry t.there

    results : Updates m ops 0 m.first top.log
    results j x o r e c q =
        let z = is_update o c.value x c.there c.ask in
        let k = update_returned o c.value x r z.0 c.ask q in
        let p = (asked o c.value x z.0 c.ask).proposed in
        let i : x.log_id.index ≡ j = index_in_end given wf run j x (in_end j x e) in
        let s : take x.log_id.index k.executes.taken ≡ take j top.log = over o.call c.value x p r.events r.commands k.executes ∙ ap (λ n. take n top.log) i in
        k.result ∙ (ap (λ ys. (m.update (state_after m m.first ys) c.value).1) s ∙ ap (answer m (state_after m m.first (take j top.log))) (sym c.ask))

    looks : Queries m ops 0 m.first top.log
    looks j o r l c q = c_result (query_returned o c.query r (is_query o c.query c.there c.ask) c.ask q)
      where
        taken_is : r.taken ≡ j
        taken_is = let w = ap (λ (y : Return R). y.taken) (some_same c.how r (sym c.returned ∙ q)) in let b = c.taken in omega (arith, w, b)

        over_top : (ys : List Entry) → ys ≡ take j top.log → m.query (state_after m m.first ys) c.query ≡ answer m (state_after m m.first (take j top.log)) o.ask
        over_top ys s = ap (λ ys. m.query (state_after m m.first ys) c.query) s ∙ ap (answer m (state_after m m.first (take j top.log))) (sym c.ask)

        c_result : QueryReturns m given actions o.call c.query r → r.result ≡ answer m (state_after m m.first (take j top.log)) o.ask
        c_result (inl k) =
            let t : k.marker.log_id.index + 1 ≡ j = let a = k.taken in let b = taken_is in omega (arith, a, b) in
            k.result
            ∙ over_top (take (k.marker.log_id.index + 1) k.executes.taken)
            (through r.events r.commands k.executes.taken (executed_at given wf actions may k.proposal k.value k.marker k.proposed r.events r.commands k.executes) k.marker.log_id.index k.executes.entry k.executes.there
            ∙ ap (λ n. take n top.log) t)
        c_result (inr k) =
            let t : length k.entries ≡ j = sym k.taken ∙ taken_is in
            k.result ∙ over_top k.entries (sym (begins_top k.flush r.commands k.entries (rule_at o.call c.query r k)) ∙ ap (λ n. take n top.log) t)

    -- What returned before another operation was asked for stands before it

    -- what had been told when an operation returned, and a rank
    record Returned (call : ℕ) (r : Return R) (n : ℕ) : Type 0 where
      flush : ℕ
      commands : ℕ
      taken : List Entry
      at : AtMoment given wf actions may flush commands taken
      early : flush ≤ r.events
      high : n ≤ length taken + length taken
      later : call ≤ r.events

    -- an entry that was appended later than a call, and a rank
    record Called (call n : ℕ) : Type 0 where
      proposal : ℕ
      entry : Entry
      index : ℕ
      end : InEnd given wf run index entry
      came : Came given wf actions may proposal
      later : call ≤ proposal
      place : ℕ
      appended : Appended given run came.event place entry
      low : suc (index + index) ≤ n

    -- or a read that came later, and a rank
    record Reads (call n : ℕ) : Type 0 where
      query : ℕ
      how : Return R
      by : RuleReturns m given actions call query how
      low : length by.entries + length by.entries ≤ n

    returned : (p : Operation R) (r : Return R) → p.returned ≡ Some r → Placed ops 0 top.log p → Returned p.call r (rank p)
    returned p r q (inl (i, y, e, l)) =
        let z = is_update p l.value y l.there l.ask in
        let k = update_returned p l.value y r z.0 l.ask q in
        let proposed = (asked p l.value y z.0 l.ask).proposed in
        let s : y.log_id.index < length k.executes.taken = slot_below k.executes.taken y.log_id.index k.executes.entry k.executes.there in
        record {
          flush = r.events;
          commands = r.commands;
          taken = k.executes.taken;
          at = executed_at given wf actions may p.call l.value y proposed r.events r.commands k.executes;
          early = omega arith;
          high = (let a = rank_carried ops (0 + i) y p l in let b = l.index in omega (arith, a, b, s));
          later = (let a = executed_later given wf actions may p.call l.value y proposed r.events r.commands k.executes in omega (arith, a));
        }
    returned p r q (inr (n, w)) = by (query_returned p w.query r (is_query p w.query w.there w.ask) w.ask q)
      where
        rank_is : rank p ≡ r.taken + r.taken
        rank_is = let a = rank_looked ops n p w in let b = ap (λ (y : Return R). y.taken) (some_same w.how r (sym w.returned ∙ q)) in let d = w.taken in omega (arith, a, b, d)

        by : QueryReturns m given actions p.call w.query r → Returned p.call r (rank p)
        by (inl k) =
            let s : k.marker.log_id.index < length k.executes.taken = slot_below k.executes.taken k.marker.log_id.index k.executes.entry k.executes.there in
            record {
              flush = r.events;
              commands = r.commands;
              taken = k.executes.taken;
              at = executed_at given wf actions may k.proposal k.value k.marker k.proposed r.events r.commands k.executes;
              early = omega arith;
              high = (let a = rank_is in let c = k.taken in omega (arith, a, c, s));
              later = (let a = executed_later given wf actions may k.proposal k.value k.marker k.proposed r.events r.commands k.executes in let b = k.later in omega (arith, a, b));
            }
        by (inr k) =
            let c = rule_came p.call w.query r k in
            record {
              flush = k.flush;
              commands = r.commands;
              taken = k.entries;
              at = rule_at p.call w.query r k;
              early = k.early;
              high = (let a = rank_is in let c = k.taken in omega (arith, a, c));
              later =
                  let a : c.came.stamp.taken < c.came.stamp.told = (happened given wf actions may c.came.event c.came.stamp c.came.is).order in
                  let b = c.came.taken in
                  let d = rule_early p.call w.query r k in
                  let e = k.later in
                  omega (arith, a, b, d, e);
            }

    called : (o : Operation R) → Placed ops 0 top.log o → Called o.call (rank o) ⊎ Reads o.call (rank o)
    called o (inl (j, x, e, l)) =
        let z = is_update o l.value x l.there l.ask in
        let p = (asked o l.value x z.0 l.ask).proposed in
        inl (record {
          proposal = o.call;
          entry = x;
          index = j;
          end = in_end j x e;
          came = z.1;
          later = omega arith;
          place = p.place;
          appended = proposal_appended given wf actions may o.call l.value x p z.1;
          low = (let a = rank_carried ops (0 + j) x o l in omega (arith, a));
        })
    called o (inr (n, w)) = by (query_returned o w.query w.how (is_query o w.query w.there w.ask) w.ask w.returned)
      where
        by : QueryReturns m given actions o.call w.query w.how → Called o.call (rank o) ⊎ Reads o.call (rank o)
        by (inl k) =
            let came : Came given wf actions may k.proposal = executed_came given wf actions may k.proposal k.value k.marker k.proposed w.how.events w.how.commands k.executes in
            inl (record {
              proposal = k.proposal;
              entry = k.marker;
              index = k.marker.log_id.index;
              end = executed_in_end given wf actions may k.proposal k.value k.marker k.proposed w.how.events w.how.commands k.executes;
              came = came;
              later = k.later;
              place = k.proposed.place;
              appended = proposal_appended given wf actions may k.proposal k.value k.marker k.proposed came;
              low = (let a = rank_looked ops n o w in let b = k.taken in let c = w.taken in omega (arith, a, b, c));
            })
        by (inr k) = inr (record { query = w.query; how = w.how; by = k; low = (let a = rank_looked ops n o w in let b = k.taken in let c = w.taken in omega (arith, a, b, c)) })

    ahead : (before : ℕ) (r : Return R) (a b call : ℕ) → r.events < call → Returned before r a → Called call b → a ≤ b
    ahead before r a b call early p o =
        let l : p.at.stamp.told < o.came.stamp.taken = let q = p.at.told in let u = o.came.taken in let v = o.later in let w = p.early in omega (arith, early, q, u, v, w) in
        let k : p.at.event < o.came.event = told_before given wf actions may p.at.event o.came.event p.at.stamp o.came.stamp p.at.is o.came.is l in
        let i : length p.taken ≤ o.index =
        ⊎_elim
        (λ (g : 0 < length p.taken).
        let y = slot_at p.taken (length p.taken - 1) (omega (arith, g)) in
        let i : length p.taken - 1 < o.index =
        before_it given wf run o.came.event o.place o.entry o.appended p.at.event p.commands p.at.node (length p.taken - 1) y.0 p.at.there (ap (λ xs. slice_get xs (length p.taken - 1)) p.at.applied ∙ y.1) k o.index o.end in
        omega (arith, i, g))
        (λ (g : length p.taken ≤ 0). omega (arith, g))
        (cases_lt 0 (length p.taken)) in
        let x = p.high in let y = o.low in omega (arith, i, x, y)

    ahead_of_read : (before : ℕ) (r : Return R) (a b call : ℕ) → r.events < call → Returned before r a → Reads call b → a ≤ b
    ahead_of_read before r a b call early p o =
        let k = o.by in
        let l : p.at.stamp.told < k.read = let q = p.at.told in let v = k.later in let w = p.early in omega (arith, early, q, v, w) in
        let i : length p.taken ≤ length k.entries =
        sees given wf actions may k.id k.read o.how.events k.answer k.is (rule_came call o.query o.how k).came (rule_early call o.query o.how k) p.flush p.commands p.taken p.at l
        k.flush o.how.commands k.entries (rule_at call o.query o.how k) k.reaches in
        let x = p.high in let y = o.low in omega (arith, i, x, y)

    in_order : (o : Operation R) → Contains line.order o → Placed ops 0 top.log o
    in_order o c = element (Placed ops 0 top.log) line.order o (placed ops line.is) c

    in_time : (o p : Operation R) → Contains line.order o → Contains line.order p → Precedes p o → IsBefore p o
    in_time o p c d = go p.returned refl where
      by : (r : Return R) → r.events < o.call → Returned p.call r (rank p) → rank p ≤ rank o → IsBefore p o
      by r k z l =
          ⊎_elim
          (λ (g : rank p < rank o). inl g)
          (λ (g : rank o ≤ rank p). inr (let e : rank p ≡ rank o = omega (arith, l, g) in e, (let a = z.later in omega (arith, a, k))))
          (cases_lt (rank p) (rank o))

      go : (z : Option (Return R)) → p.returned ≡ z → elim z as (λ _. Type 0) [ None ↦ ⊥ | Some r ↦ r.events < o.call ] → IsBefore p o
      go None q k = absurd k
      go (Some r) q k =
          let z = returned p r q (in_order p d) in
          by r k z (⊎_elim (λ u. ahead p.call r (rank p) (rank o) o.call k z u) (λ u. ahead_of_read p.call r (rank p) (rank o) o.call k z u) (called o (in_order o c)))

    -- An operation that returned stands in the sequence

    update_stands : (o : Operation R) (v : Value) (x : Entry) (r : Return R) → Contains updates o → o.ask ≡ Update v x → o.returned ≡ Some r → Contains line.order o
    update_stands o v x r c e q =
        let p = (asked o v x c e).proposed in
        let k = update_returned o v x r c e q in
        let came : Came given wf actions may o.call = executed_came given wf actions may o.call v x p r.events r.commands k.executes in
        let s : slice_get top.log x.log_id.index ≡ Some x = at_top x.log_id.index x (executed_in_end given wf actions may o.call v x p r.events r.commands k.executes) in
        let z = found ops base.is x.log_id.index x v s p.payload in
        let u = is_update z.0 z.2.value x z.2.there z.2.ask in
        let w = (asked z.0 z.2.value x u.0 z.2.ask).proposed in
        let a : u.1.event ≡ came.event =
        (appends_once given wf run u.1.event came.event w.place p.place x x (proposal_appended given wf actions may z.0.call z.2.value x w u.1) (proposal_appended given wf actions may o.call v x p came) refl).0 in
        let b : u.1.stamp ≡ came.stamp = some_same u.1.stamp came.stamp (sym u.1.is ∙ (ap (λ n. slice_get (T given wf actions may).stamps n) a ∙ came.is)) in
        let d : z.0.call ≡ o.call = sym u.1.taken ∙ (ap (λ (y : Stamp). y.taken) b ∙ came.taken) in
        line.keeps o (subst (Contains base.order) (one z.0 o z.2.value v x z.2.ask e u.0 c d) z.1)

    stands : (o : Operation R) (r : Return R) → Contains (updates ++ queries) o → o.returned ≡ Some r → Contains line.order o
    stands o r c q =
        ⊎_elim
        (λ k. let u = element (IsUpdate m given actions) updates o h.are_updates k in update_stands o u.value u.entry r k u.ask q)
        (λ k. line.has o r k q)
        (Contains-append_cases updates queries o c)

    in_all : (o : Operation R) → Placed ops 0 top.log o → Contains (updates ++ queries) o
    in_all o (inl z) = Contains-append_left updates queries o (is_update o z.3.value z.1 z.3.there z.3.ask).0
    in_all o (inr z) = Contains-append_right updates queries o (is_query o z.1.query z.1.there z.1.ask)

    linearizable : IsLinearizable m (updates ++ queries)
    linearizable = record {
      order = line.order;
      only = each_of (Placed ops 0 top.log) (Contains (updates ++ queries)) in_all line.order (placed ops line.is);
      complete = stands;
      once = line.distinct;
      legal = legal m ops m.first line.is results looks;
      timely = timely line.order in_time line.sorted;
    }

pub see_one : {S R : Type 0} (m : Object S R) → OfAllActions (SeeOne m)
see_one m given wf actions may updates queries h = linearizable m given wf actions may updates queries h
