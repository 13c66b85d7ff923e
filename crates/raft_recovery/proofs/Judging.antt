-- What the judge looks at shows that nodes have recovered.
use Rattle.std.proofs.Common.{ℕ, ◌+◌, ◌-◌, ◌<◌, ◌≤◌, ◌≡◌, ◌⊎◌, ◌∙◌, inl, inr, Bool, true, false, not, ◌&&◌}
use Rattle.std.proofs.Common.{List, [], ◌∷◌, ◌++◌, length, take, drop, get_or, filter, arith, refl, ap, sym, subst, Option, None, Some}
use Rattle.std.specs.Prelude.{◌↔◌, IfOk, Result, is_some, map, nat_eq, nat_lt, slice_get}
use Rattle.std.specs.List.{AllByRecursion, list_any}
use Rattle.std.specs.Option.{option_map}
use Rattle.std.specs.Ordering.{is_eq, nat_cmp}
use Rattle.std.proofs.lemmas.Bool.Decides.{nat_tests}
use Rattle.std.proofs.lemmas.Option.{slice_get_within}
use Rattle.std.proofs.lemmas.Result.{IfOk-weaker}
use Rattle.raft_state.specs.declared.ids.LogId.{LogId}
use Rattle.raft_state.specs.declared.membership.Members.{Members}
use Rattle.raft_state.specs.Members.{contains, is_voter, learner_ids, voter_ids}
use Rattle.raft_state.specs.Order.{next}
use Rattle.raft_state.proofs.Orders.{and_both, or_left, or_right}
use Rattle.raft_progress.specs.Quorum.{is_quorum}
use Rattle.raft_store.specs.declared.entry.Entry.{Entry}
use Rattle.raft_store.specs.declared.entry.Payload.TheVariants as payload
use Rattle.raft_store.specs.declared.entry.Value.{Value}
use Rattle.raft_store.specs.Entries.{same_entry}
use Rattle.raft_store.specs.Types.{EngineView}
use Rattle.raft_store.proofs.SameEntries.{entry-is, entry-self}
use Rattle.raft_node.specs.declared.given.Given.{Given}
use Rattle.raft_node.specs.Net.{Net, NodeView, node_at}
use Rattle.proof_progress.specs.Continuations.{At}
use Rattle.proof_progress.specs.Elections.{Listed}
use Rattle.proof_progress.specs.GoesOn.{greatest_term, most_of}
use Rattle.proof_progress.proofs.BareStarts.{member_listed}
use Rattle.proof_progress.proofs.ChangesGo.{right_of_both}
use Rattle.proof_progress.proofs.Elects.{itself}
use Rattle.proof_progress.proofs.Heard.{each_listed}
use Rattle.proof_progress.proofs.Voters.{from_filter, listed_voter, to_filter, voter_is_member, voter_votes}
use Rattle.proof_progress.proofs.WaysOn.{left_of_both}
use Rattle.raft_recovery.specs.declared.starting.Found.{Found}
use Rattle.raft_recovery.specs.Choosing.{found_at}
use Rattle.raft_recovery.specs.Recoveries.{HasApplied, HasExecutedAt, LacksSnapshot, Recovers}
use Rattle.raft_recovery.specs.Starting.{found_in}
use Rattle.raft_recovery.proofs.Electing.{both, by_first, finds_at, listed_both}
use Rattle.raft_recovery.proofs.Nodes.{at_of, is_same, node_is, none_there, same}

-- One node

-- what is there
pub present : {X : Type 0} (o : Option X) → is_some o ≡ true → (x : X) × (o ≡ Some x)
present None e = cc
present (Some x) e = (x, refl)

pub absent : {X : Type 0} (o : Option X) → is_some o ≡ false → o ≡ None
absent None e = refl
absent (Some x) e = cc

-- ids that the program finds the same are the same
abbrev pub are_same_ids : LogId ℕ → LogId ℕ → Bool
are_same_ids x y = (nat_eq x.leader_id.term y.leader_id.term && nat_eq x.leader_id.node_id y.leader_id.node_id) && nat_eq x.index y.index

pub same_ids : (x y : LogId ℕ) → are_same_ids x y ≡ true → x ≡ y
same_ids x y e =
    let p = and_both (nat_eq x.leader_id.term y.leader_id.term && nat_eq x.leader_id.node_id y.leader_id.node_id) (nat_eq x.index y.index) e in
    let q = and_both (nat_eq x.leader_id.term y.leader_id.term) (nat_eq x.leader_id.node_id y.leader_id.node_id) p.0 in
    let term : x.leader_id.term ≡ y.leader_id.term = same x.leader_id.term y.leader_id.term q.0 in
    let node : x.leader_id.node_id ≡ y.leader_id.node_id = same x.leader_id.node_id y.leader_id.node_id q.1 in
    let index : x.index ≡ y.index = same x.index y.index p.1 in
    let leader : x.leader_id ≡ y.leader_id = λ i. record { term = term i; node_id = node i } in
    λ i. record { leader_id = leader i; index = index i }

-- a test answers one thing; and nothing that can't be is found
pub clash : (b : Bool) → b ≡ true → b ≡ false → ⊥
clash b holds lacks = let k : true ≡ false = sym holds ∙ lacks in cc

pub never : {P : Type 0} → (P → ⊥) → (false ≡ true) ↔ P
never n = (λ e. cc, λ p. absurd (n p))

same_itself : (x : LogId ℕ) → are_same_ids x x ≡ true
same_itself x =
    both (nat_eq x.leader_id.term x.leader_id.term && nat_eq x.leader_id.node_id x.leader_id.node_id) (nat_eq x.index x.index)
    (both (nat_eq x.leader_id.term x.leader_id.term) (nat_eq x.leader_id.node_id x.leader_id.node_id)
    (is_same x.leader_id.term x.leader_id.term refl) (is_same x.leader_id.node_id x.leader_id.node_id refl))
    (is_same x.index x.index refl)

-- what a node that is there has applied is what was found
applied_is : (net : Net (List Entry)) (t i : ℕ) (N M : NodeView) → node_at net.nodes t ≡ Some N → At net.nodes t M
    → slice_get N.store.applied i ≡ slice_get M.store.applied i
applied_is net t i N M n at = ap (λ (K : NodeView). slice_get K.store.applied i) (node_is net.nodes t N M n at)

module _ (net : Net (List Entry)) (t : ℕ) (id : LogId ℕ) where
  pub applies_nowhere : node_at net.nodes t ≡ None → (false ≡ true) ↔ HasApplied net t id
  applies_nowhere n = never (λ (h : HasApplied net t id). none_there net.nodes t h.node n h.at)

  pub applies_nothing : (N : NodeView) → node_at net.nodes t ≡ Some N → slice_get N.store.applied id.index ≡ None
      → (false ≡ true) ↔ HasApplied net t id
  applies_nothing N n s = never (λ (h : HasApplied net t id).
      let r : slice_get N.store.applied id.index ≡ Some h.entry = applied_is net t id.index N h.node n h.at ∙ h.has in cc)

  pub applies : (N : NodeView) (e : Entry) (is : Bool) → node_at net.nodes t ≡ Some N → slice_get N.store.applied id.index ≡ Some e
      → is ≡ are_same_ids e.log_id id → (is ≡ true) ↔ HasApplied net t id
  applies N e is n s tested = (there, tests)
    where
      there : is ≡ true → HasApplied net t id
      there q = record { node = N; at = at_of net.nodes t N n; entry = e; has = s; is = same_ids e.log_id id (sym tested ∙ q) }

      tests : HasApplied net t id → is ≡ true
      tests h =
          let r : slice_get N.store.applied id.index ≡ Some h.entry = applied_is net t id.index N h.node n h.at ∙ h.has in
          let one : e ≡ h.entry = cc in
          let id_is : e.log_id ≡ id = ap (λ (x : Entry). x.log_id) one ∙ h.is in
          tested ∙ subst (λ (x : LogId ℕ). are_same_ids x id ≡ true) (sym id_is) (same_itself id)

module _ (net : Net (List Entry)) (id : LogId ℕ) (value : Value) (t : ℕ) where
  pub executes_nowhere : node_at net.nodes t ≡ None → (false ≡ true) ↔ HasExecutedAt net id value t
  executes_nowhere n = never (λ (h : HasExecutedAt net id value t). none_there net.nodes t h.node n h.at)

  pub executes_stopped : (N : NodeView) → node_at net.nodes t ≡ Some N → N.engine ≡ None → (false ≡ true) ↔ HasExecutedAt net id value t
  executes_stopped N n s = never (λ (h : HasExecutedAt net id value t).
      let r : N.engine ≡ Some h.engine = ap (λ (K : NodeView). K.engine) (node_is net.nodes t N h.node n h.at) ∙ h.runs in cc)

  pub executes_nothing : (N : NodeView) → node_at net.nodes t ≡ Some N → slice_get N.store.applied id.index ≡ None
      → (false ≡ true) ↔ HasExecutedAt net id value t
  executes_nothing N n s = never (λ (h : HasExecutedAt net id value t).
      let r : slice_get N.store.applied id.index ≡ Some h.has.0.0 = applied_is net t id.index N h.node n h.at ∙ h.has.0.1 in cc)

  pub executes : (N : NodeView) (g : EngineView) (e : Entry) (has : Bool) → node_at net.nodes t ≡ Some N → N.engine ≡ Some g
      → slice_get N.store.applied id.index ≡ Some e → (has ≡ true) ↔ (e.payload ≡ payload.Value value)
      → (has ≡ true) ↔ HasExecutedAt net id value t
  executes N g e has n r s is = (there, tests)
    where
      there : has ≡ true → HasExecutedAt net id value t
      there q = record {
        node = N;
        at = at_of net.nodes t N n;
        engine = g;
        runs = r;
        applied = slice_get_within N.store.applied id.index e s;
        has = ((e, s, is.0 q), tt);
      }

      tests : HasExecutedAt net id value t → has ≡ true
      tests h =
          let x : slice_get N.store.applied id.index ≡ Some h.has.0.0 = applied_is net t id.index N h.node n h.at ∙ h.has.0.1 in
          let one : e ≡ h.has.0.0 = cc in
          is.1 (ap (λ (y : Entry). y.payload) one ∙ h.has.0.2)

-- an entry is compared with one that has its id
pub has_value : (e : Entry) (v w : Value) (is : Bool) → v ≡ w → is ≡ same_entry e (record { log_id = e.log_id; payload = payload.Value v })
    → (is ≡ true) ↔ (e.payload ≡ payload.Value w)
has_value e v w is copied tested = (there, tests)
  where
    other : Entry
    other = record { log_id = e.log_id; payload = payload.Value v }

    there : is ≡ true → e.payload ≡ payload.Value w
    there q = ap (λ (x : Entry). x.payload) (entry-is e other (sym tested ∙ q)) ∙ ap payload.Value copied

    tests : e.payload ≡ payload.Value w → is ≡ true
    tests p =
        let q : e.payload ≡ payload.Value v = p ∙ ap payload.Value (sym copied) in
        let one : e ≡ other = λ i. record { log_id = e.log_id; payload = q i } in
        tested ∙ subst (λ (x : Entry). same_entry e x ≡ true) one (entry-self e)

-- The ids of a slice, as its pattern reads them

pub all_of_none : (P : ℕ → Type 0) (ids : List ℕ) → length ids ≡ 0 → (true ≡ true) ↔ AllByRecursion P ids
all_of_none P [] l = (λ _. tt, λ _. refl)
all_of_none P (x ∷ xs) l = absurd (omega (arith, l))

module _ (P : ℕ → Type 0) (ids : List ℕ) (l : 1 ≤ length ids) where
  abbrev rest : List ℕ
  rest = take (length ids - 1) (drop 1 ids)

  parts : AllByRecursion P ids → P (get_or ids 0 0) × AllByRecursion P rest
  parts a = subst (AllByRecursion P) (sym (by_first ids l)) a

  pub all_but_one : (has : Bool) → (has ≡ true) ↔ P (get_or ids 0 0) → has ≡ false → (false ≡ true) ↔ AllByRecursion P ids
  all_but_one has is lacks = never (λ a. clash has (is.1 (parts a).0) lacks)

  pub all_of_rest : {E : Type 0} (has : Bool) → (has ≡ true) ↔ P (get_or ids 0 0) → has ≡ true → (r : Result Bool E)
      → IfOk r (λ have. (have ≡ true) ↔ AllByRecursion P rest) → IfOk r (λ have. (have ≡ true) ↔ AllByRecursion P ids)
  all_of_rest has is holds r h =
      IfOk-weaker r (λ have. (have ≡ true) ↔ AllByRecursion P rest) (λ have. (have ≡ true) ↔ AllByRecursion P ids)
      (λ have k. (λ q. subst (AllByRecursion P) (by_first ids l) (is.0 holds, k.0 q), λ a. k.1 (parts a).1)) h

all_listed : (P : ℕ → Type 0) (ts : List ℕ) → ((t : ℕ) → Listed ts t → P t) → AllByRecursion P ts
all_listed P [] h = tt
all_listed P (t ∷ ts) h = (h t (inl refl), all_listed P ts (λ u l. h u (inr l)))

-- Members

among : (nodes : List (ℕ × Unit {0})) (t : ℕ) → Listed (map (λ entry. entry.0) nodes) t → list_any (λ entry. is_eq (nat_cmp t entry.0)) nodes ≡ true
among [] t h = absurd h
among (x ∷ xs) t (inl q) = or_left (is_eq (nat_cmp t x.0)) _ (subst (λ i. is_eq (nat_cmp t i) ≡ true) (sym q) (ap is_eq (itself t)))
among (x ∷ xs) t (inr q) = or_right (is_eq (nat_cmp t x.0)) _ (among xs t q)

pub is_member : (m : Members ℕ (Unit {0})) (t : ℕ) → Listed (voter_ids nat_cmp m ++ learner_ids nat_cmp m) t → contains nat_cmp m t ≡ true
is_member m t h = go (listed_both (voter_ids nat_cmp m) (learner_ids nat_cmp m) t h)
  where
    go : Listed (voter_ids nat_cmp m) t ⊎ Listed (learner_ids nat_cmp m) t → contains nat_cmp m t ≡ true
    go (inl k) = among m.nodes t (from_filter _ (map (λ entry. entry.0) m.nodes) t k).0
    go (inr k) = among m.nodes t (from_filter _ (map (λ entry. entry.0) m.nodes) t k).0

-- and a member is a voter or a learner
pub member_is : (m : Members ℕ (Unit {0})) (t : ℕ) → contains nat_cmp m t ≡ true → Listed (voter_ids nat_cmp m ++ learner_ids nat_cmp m) t
member_is m t k = go (is_voter nat_cmp m t) refl
  where
    go : (b : Bool) → is_voter nat_cmp m t ≡ b → Listed (voter_ids nat_cmp m ++ learner_ids nat_cmp m) t
    go true e = left_of_both (voter_ids nat_cmp m) (learner_ids nat_cmp m) t (listed_voter m t k e)
    go false e =
        right_of_both (voter_ids nat_cmp m) (learner_ids nat_cmp m) t
        (to_filter (λ id. not (is_voter nat_cmp m id)) (map (λ entry. entry.0) m.nodes) t (member_listed m.nodes t k) (ap not e))

-- a voter that is a member is among the voters
pub votes_if_member : (m : Members ℕ (Unit {0})) (t : ℕ) (is : Bool) → is_voter nat_cmp m t ≡ true → is ≡ contains nat_cmp m t
    → (is ≡ true) ↔ Listed (voter_ids nat_cmp m) t
votes_if_member m t is v tested = (λ q. listed_voter m t (sym tested ∙ q) v, λ l. tested ∙ voter_is_member m t l)

pub votes_not : (m : Members ℕ (Unit {0})) (t : ℕ) → is_voter nat_cmp m t ≡ false → (false ≡ true) ↔ Listed (voter_ids nat_cmp m) t
votes_not m t v = never (λ (l : Listed (voter_ids nat_cmp m) t). let k : is_voter nat_cmp m t ≡ true = voter_votes m t l in cc)

-- All of it

pub found_of : (nodes : List NodeView) (id : ℕ) (f : Found) → found_at nodes id ≡ Some f → (N : NodeView) × At nodes id N × (f ≡ found_in N.store)
found_of nodes id f h = go (node_at nodes id) refl h
  where
    go : (o : Option NodeView) → node_at nodes id ≡ o → option_map (λ N. found_in N.store) o ≡ Some f
        → (N : NodeView) × At nodes id N × (f ≡ found_in N.store)
    go None e k = cc
    go (Some N) e k = let q : f ≡ found_in N.store = cc in (N, at_of nodes id N e, q)

-- what one node has purged another's own snapshot lacks
pub lacks_there : (given : Given) (net : Net (List Entry)) (n t : ℕ) (f g : Found) → found_at net.nodes n ≡ Some f → found_at net.nodes t ≡ Some g
    → nat_lt (next g.committed) (next f.purged) ≡ true
    → LacksSnapshot given net n t
lacks_there given net n t f g p q above = go (found_of net.nodes n f p) (found_of net.nodes t g q)
  where
    less : (a b : ℕ) → nat_lt a b ≡ true → a < b
    less a b e = grind (arith, nat_tests)

    go : (N : NodeView) × At net.nodes n N × (f ≡ found_in N.store) → (T : NodeView) × At net.nodes t T × (g ≡ found_in T.store)
        → LacksSnapshot given net n t
    go v w = record {
      node = v.0;
      at = v.1;
      behind = w.0;
      there = w.1;
      lacks = λ r.
          let d : next f.purged ≡ next (found_in v.0.store).purged = ap (λ (x : Found). next x.purged) v.2 in
          let e : next g.committed ≡ next (found_in w.0.store).committed = ap (λ (x : Found). next x.committed) w.2 in
          let h : next g.committed < next f.purged = less (next g.committed) (next f.purged) above in
          let reaches : next (found_in v.0.store).purged ≤ next (found_in w.0.store).committed = r in
          absurd (omega (arith, d, e, h, reaches));
    }

module _ (old new : Net (List Entry)) (up : List ℕ) (id : LogId ℕ) (value : Value) (count : ℕ) where
  abbrev n : ℕ
  n = id.leader_id.node_id

  -- what was looked at, by what the node finds
  pub record Seen (f : Found) : Type 0 where
    pub one : Listed up n
    pub votes : Listed (voter_ids nat_cmp f.membership) n
    pub new_there : next f.last + 1 ≤ id.index
    pub first : is_quorum nat_cmp f.membership.groups (n ∷ []) ≡ false → id.index ≡ next f.last + 1
    pub few : count ≤ most_of (greatest_term old.nodes) (length up) (length up) (next f.last + 1 + 1)
    pub entry : HasApplied new n id
    pub own : HasExecutedAt new id value n
    pub others : AllByRecursion (HasExecutedAt new id value) (filter (contains nat_cmp f.membership) up)

  pub recovered : (given : Given) (f : Found) → found_at old.nodes n ≡ Some f → Seen f → Recovers given old new up id value count
  recovered given f h seen = go (found_of old.nodes n f h)
    where
      go : (N : NodeView) × At old.nodes n N × (f ≡ found_in N.store) → Recovers given old new up id value count
      go w =
          let s : Seen (found_in w.0.store) = subst Seen w.2 seen in
          record {
            one = s.one;
            node = w.0;
            at = w.1;
            votes = s.votes;
            others = filter (contains nat_cmp (found_in w.0.store).membership) up;
            all = λ t l m. inr (to_filter (contains nat_cmp (found_in w.0.store).membership) up t l (is_member (found_in w.0.store).membership t m));
            new = s.new_there;
            first = s.first;
            entry = s.entry;
            each = (s.own, s.others);
            few = s.few;
          }

  -- and of nodes that have recovered all of it is seen
  pub seen_of : (given : Given) (f : Found) → found_at old.nodes n ≡ Some f → Recovers given old new up id value count → Seen f
  seen_of given f h r =
      let there : found_at old.nodes n ≡ Some (found_in r.node.store) = finds_at old.nodes n r.node r.at in
      let one : found_in r.node.store ≡ f = cc in
      subst Seen one (record {
        one = r.one;
        votes = r.votes;
        new_there = r.new;
        first = r.first;
        few = r.few;
        entry = r.entry;
        own = r.each.0;
        others = all_listed (HasExecutedAt new id value) (filter (contains nat_cmp (found_in r.node.store).membership) up) each;
      })
    where
      each : (t : ℕ) → Listed (filter (contains nat_cmp (found_in r.node.store).membership) up) t → HasExecutedAt new id value t
      each t l =
          let k = from_filter (contains nat_cmp (found_in r.node.store).membership) up t l in
          each_listed (HasExecutedAt new id value) (n ∷ r.others) t (r.all t k.0 (member_is (found_in r.node.store).membership t k.1)) r.each

  pub unseen : (given : Given) (f : Found) → found_at old.nodes n ≡ Some f → (Seen f → ⊥)
      → (false ≡ true) ↔ Recovers given old new up id value count
  unseen given f h u = never (λ (r : Recovers given old new up id value count). u (seen_of given f h r))

  pub not_there : (given : Given) → found_at old.nodes n ≡ None → Recovers given old new up id value count → ⊥
  not_there given h r = let there : found_at old.nodes n ≡ Some (found_in r.node.store) = finds_at old.nodes n r.node r.at in cc
