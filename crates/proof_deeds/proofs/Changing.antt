-- When a leader may propose a membership.
use Rattle.std.proofs.Common.{ℕ, zero, suc, ◌+◌, ◌-◌, ◌<◌, ◌≤◌, ◌≡◌, inl, inr, ⊎_elim, Bool, true, List, [], ◌∷◌, length, get_or, arith, refl, sym, ap, ◌∙◌, subst, true≢false, Option, None, Some}
use Rattle.std.specs.Prelude.{IfSome, ◌&&◌, slice_get, nat_lt, drop}
use Rattle.std.specs.List.{AllByRecursion, list_any}
use Rattle.std.specs.declared.cmp.Ordering.{Ordering}
use Rattle.std.specs.declared.cmp.Ordering.TheVariants.{Less, Equal, Greater}
use Rattle.std.specs.Ordering.{is_eq, is_le, is_lt, nat_cmp, ordering_then}
use Rattle.std.proofs.lemmas.Bool.{and_parts, cases_lt}
use Rattle.std.proofs.lemmas.Bool.Decides.{nat_tests}
use Rattle.raft_node.proofs.raft_state_proofs.StateLaws.{committed_has}
use Rattle.std.proofs.lemmas.Cmp.{nat_cmp_total}
use Rattle.std.proofs.lemmas.List.{length-map}
use Rattle.raft_node.specs.raft_state.declared.ids.LeaderId.{LeaderId}
use Rattle.raft_node.specs.raft_state.declared.ids.LogId.{LogId}
use Rattle.raft_node.specs.raft_state.declared.membership.Members.{Members}
use Rattle.raft_node.specs.raft_state.Fits.{fits, is_below}
use Rattle.raft_node.specs.raft_state.Invariants.{IsSoundState, IsUnder, first_index}
use Rattle.raft_node.specs.raft_state.Log.{at}
use Rattle.raft_node.specs.raft_state.Order.{next, last_id_cmp, leader_id_cmp}
use Rattle.raft_node.specs.raft_state.Same.{nat_same, leader_id_same, log_id_same}
use Rattle.raft_node.specs.raft_state.State.{is_found}
use Rattle.raft_node.proofs.raft_state_proofs.LogLists.{Has, at_has, run_low}
use Rattle.raft_node.proofs.raft_state_proofs.Orders.{is_equal, le_antisymm, leader_total, or_cases}
use Rattle.raft_node.specs.raft_steps.Conditions.{is_same_group}
use Rattle.proof_agreement.specs.Machine.{start, Setup, Includes, IncludesGroup, ShareGroup, last_leader}
use Rattle.proof_agreement.specs.Stores.{whole, entry_at, effective_membership_of}
use Rattle.proof_agreement.specs.Deeds.{MayAppendOwn, Leads, last_membership_of}
use Rattle.proof_agreement.proofs.StoresBridge.{ids_rise}
use Rattle.proof_agreement.proofs.WholeLogs.{get_left}
use Rattle.raft_node.specs.raft_store.declared.entry.Entry.{Entry}
use Rattle.raft_node.specs.raft_store.Entries.{entry_meaning, members_of}
use Rattle.raft_node.specs.raft_store.Store as store
use Rattle.raft_node.specs.raft_store.Types.{WorldStore}
use Rattle.raft_node.proofs.raft_store_proofs.Lists.{Run}
use Rattle.proof_mirror.specs.Ready.{InStep, IsStored}
use Rattle.proof_mirror.proofs.Shape.{Shape, shape_of, shaped_of, whole_run}
use Rattle.proof_deeds.specs.Follows.{FrontIs, StoreIs}
use Rattle.proof_deeds.specs.Images.{Ideal, IsNamed, EntriesFit, IdealStore, number, groups_in, head_group, tail_groups, images}
use Rattle.proof_deeds.specs.Chains.{Reached}
use Rattle.proof_deeds.proofs.Numbers.{Order, ordered, below, same, above}
use Rattle.proof_deeds.proofs.Overlap.{Laps}
use Rattle.proof_deeds.proofs.Quorums.{Means, Placed, last_among, place, payload_at, effective_is, effective_groups}
use Rattle.proof_deeds.proofs.Roles.{WorldState}
use Rattle.proof_deeds.proofs.Stored.{stored_ends}
use Rattle.proof_deeds.proofs.Tails.{whole_fit, index, tail_whole, tail_vote, tail_committed, tail_reaches}
use Rattle.proof_deeds.proofs.Worlds.{stores_follow}

-- an entry of a run has its place as index
run_place : (n k : ℕ) (xs : List Entry) (e : Entry) → Run index n xs → k < length xs → index (get_or xs k e) ≡ n + k
run_place n k [] e r l = absurd (omega (arith, l))
run_place n zero (x ∷ xs) e r l = r.0 ∙ omega arith
run_place n (suc k) (x ∷ xs) e r l = run_place (n + 1) k xs e r.1 (omega (arith, l)) ∙ omega arith

then_le : (a b : Ordering) → is_lt (ordering_then a b) ≡ true → is_le a ≡ true
then_le Less b e = refl
then_le Equal b e = refl
then_le Greater b e = cc

-- the first id of a log is of no greater leader
first_under : (leader : LeaderId ℕ) (ids : List (LogId ℕ)) (y : LogId ℕ) → slice_get ids 0 ≡ Some y → AllByRecursion (IsUnder nat_cmp leader) ids → IsUnder nat_cmp leader y
first_under leader [] y e a = cc
first_under leader (x ∷ xs) y e a = let q : x ≡ y = cc in subst (IsUnder nat_cmp leader) q a.0

le_is : (a b : ℕ) → is_le (nat_cmp a b) ≡ true → a ≤ b
le_is a b e = grind (arith, nat_tests)

-- an ideal entry of a whole log is under the leader of the entry that it holds, which is named
leader_at : (s : Setup Entry) (es : List Entry) (k : ℕ) → k < length es → (entry_at s (images es) k).leader ≡ number (entry_at s (images es) k).payload.log_id.leader_id
leader_at s [] k l = absurd (omega (arith, l))
leader_at s (x ∷ xs) zero l = refl
leader_at s (x ∷ xs) (suc k) l = leader_at s xs k (omega (arith, l))

named_at : (s : Setup Entry) (es : List Entry) (k : ℕ) → EntriesFit s es → k < length es → IsNamed (entry_at s (images es) k).payload.log_id.leader_id
named_at s [] k a l = absurd (omega (arith, l))
named_at s (x ∷ xs) zero a l = a.0.named
named_at s (x ∷ xs) (suc k) a l = named_at s xs k a.1 (omega (arith, l))

-- two memberships' groups have one in common
pub record SharedGroup (a b : List (List ℕ)) : Type 0 where
  pub group : List ℕ
  pub left : Includes a group
  pub right : Includes b group

-- so it is where a test says so
same_group : (g h : List ℕ) → is_same_group nat_cmp g h ≡ true → g ≡ h
same_group [] [] e = refl
same_group [] (y ∷ ys) e = cc
same_group (x ∷ xs) [] e = cc
same_group (x ∷ xs) (y ∷ ys) e = let p = and_parts (is_eq (nat_cmp x y)) (is_same_group nat_cmp xs ys) e in λ i. nat_same x y (is_equal _ p.0) i ∷ same_group xs ys p.1 i

any_same : (g : List ℕ) (hs : List (List ℕ)) → list_any (is_same_group nat_cmp g) hs ≡ true → Includes hs g
any_same g [] e = cc
any_same g (h ∷ hs) e = ⊎_elim (λ q. inl (sym (same_group g h q))) (λ q. inr (any_same g hs q)) (or_cases (is_same_group nat_cmp g h) (list_any (is_same_group nat_cmp g) hs) e)

pub shared_group : (a b : List (List ℕ)) → list_any (λ group. list_any (is_same_group nat_cmp group) b) a ≡ true → SharedGroup a b
shared_group [] b e = cc
shared_group (g ∷ gs) b e =
    ⊎_elim (λ q. record { group = g; left = inl refl; right = any_same g b q })
    (λ q. let k : SharedGroup gs b = shared_group gs b q in record { group = k.group; left = inr k.left; right = k.right })
    (or_cases (list_any (is_same_group nat_cmp g) b) (list_any (λ group. list_any (is_same_group nat_cmp group) b) gs) e)

pub included : (gs : List (List ℕ)) (g : List ℕ) → Includes gs g → 0 < length gs
included [] g h = absurd h
included (x ∷ xs) g h = omega arith

pub three_parts : (a b c : Bool) → (a && (b && c)) ≡ true → (a ≡ true) × (b ≡ true) × (c ≡ true)
three_parts a b c e = let p = and_parts a (b && c) e in let q = and_parts b c p.1 in (p.0, q.0, q.1)

-- a committed id of the vote's own leader
pub record OwnCommitted (st : WorldState) : Type 0 where
  pub id : LogId ℕ
  pub fit : fits nat_cmp st.ids st.purged (Some id) ≡ true
  pub own : id.leader_id ≡ st.vote.leader_id
  pub low : id.index < next st.committed

then_first : (a b : Ordering) → is_le (ordering_then a b) ≡ true → is_le a ≡ true
then_first Less b e = refl
then_first Equal b e = refl
then_first Greater b e = cc

pub has_each : (P : LogId ℕ → Type 0) (x : LogId ℕ) (ids : List (LogId ℕ)) → AllByRecursion P ids → Has x ids → P x
has_each P x [] a h = absurd h
has_each P x (y ∷ ys) a (inl q) = subst P q a.0
has_each P x (y ∷ ys) a (inr r) = has_each P x ys a.1 r

-- what is committed at or above an id of the vote's own leader is its own
pub own_committed : (st : WorldState) → IsSoundState nat_cmp st → (noop : LogId ℕ) → noop.leader_id ≡ st.vote.leader_id → is_le (last_id_cmp nat_cmp (Some noop) st.committed) ≡ true → OwnCommitted st
own_committed st sound noop mine le = go st.committed refl where
  go : (o : Option (LogId ℕ)) → st.committed ≡ o → OwnCommitted st
  go None e = let z : is_le (last_id_cmp nat_cmp (Some noop) None) ≡ true = subst (λ o. is_le (last_id_cmp nat_cmp (Some noop) o) ≡ true) e le in absurd (true≢false (sym z))
  go (Some x) e =
      let z : is_le (ordering_then (leader_id_cmp nat_cmp noop.leader_id x.leader_id) (nat_cmp noop.index x.index)) ≡ true = subst (λ o. is_le (last_id_cmp nat_cmp (Some noop) o) ≡ true) e le in
      let a : is_le (leader_id_cmp nat_cmp st.vote.leader_id x.leader_id) ≡ true = subst (λ d. is_le (leader_id_cmp nat_cmp d x.leader_id) ≡ true) mine (then_first _ _ z) in
      let b : IsUnder nat_cmp st.vote.leader_id x = has_each (IsUnder nat_cmp st.vote.leader_id) x st.ids sound.log.by_vote (at_has x.index x st.ids (committed_has nat_cmp nat_cmp_total nat_same _ _ _ _ _ _ _ sound x e)) in
      record {
        id = x;
        fit = subst (λ o. fits nat_cmp st.ids st.purged o ≡ true) e sound.marks.committed_fits;
        own = leader_id_same nat_cmp nat_same x.leader_id st.vote.leader_id (is_equal _ (le_antisymm (leader_total nat_cmp nat_cmp_total) x.leader_id st.vote.leader_id b a));
        low = let n : next st.committed ≡ x.index + 1 = ap next e in omega (arith, n);
      }

module _ (s : Setup Entry) (means : Means s) where
  -- a group of a membership
  includes_group : (x : Entry) (g : List ℕ) (gs : List (List ℕ)) → groups_in x.payload ≡ gs → Includes gs g → IncludesGroup s x g
  includes_group x g [] e h = absurd h
  includes_group x g (y ∷ ys) e (inl q) = inl (means.first_group x ∙ (ap head_group e ∙ q))
  includes_group x g (y ∷ ys) e (inr r) = inr (subst (λ gs. Includes gs g) (sym (means.other_groups x ∙ ap tail_groups e)) r)

  module _ (u : WorldStore) (S : IdealStore) (st : WorldState) (h : StoreIs s u S) (j : InStep entry_meaning u st) where
    em : st.em ≡ last_among s means (store.whole u)
    em = j.mirrors.em

    w : whole S ≡ images (store.whole u)
    w = tail_whole s u S st h j

    -- the effective membership is committed, and so is an entry at all
    pub tail_settled : next st.em.log_id ≤ next st.committed → 0 < next st.committed → last_membership_of s (whole S) < S.committed
    tail_settled l z =
        let c : S.committed ≡ next st.committed = tail_committed s u S st h j in
        let q : last_membership_of s (whole S) ≡ last_membership_of s (images (store.whole u)) = ap (last_membership_of s) w in
        ⊎_elim (λ p. omega (arith, p.1, z, c, q))
        (λ p.
        let es : List Entry = store.whole u in
        let k : ℕ = place s means (store.whole u) (length (store.whole u)) in
        let i : st.em.log_id ≡ Some (entry_at s (images (store.whole u)) (place s means (store.whole u) (length (store.whole u)))).payload.log_id = ap (λ m. m.log_id) em ∙ p.id in
        let e : Entry = (entry_at s (images (store.whole u)) (place s means (store.whole u) (length (store.whole u)))).payload in
        let n : next st.em.log_id ≡ index (entry_at s (images (store.whole u)) (place s means (store.whole u) (length (store.whole u)))).payload + 1 = ap next i in
        let r : Run index 0 (store.whole u) = whole_run entry_meaning u st (shape_of entry_meaning u st j.mirrors j.marks) in
        let a : index (entry_at s (images (store.whole u)) (place s means (store.whole u) (length (store.whole u)))).payload ≡ place s means (store.whole u) (length (store.whole u)) =
        ap index (payload_at s means (store.whole u) (place s means (store.whole u) (length (store.whole u))) e p.within) ∙ (run_place 0 (place s means (store.whole u) (length (store.whole u))) (store.whole u) e r p.within ∙ omega arith) in
        let b : last_membership_of s (images (store.whole u)) ≡ place s means (store.whole u) (length (store.whole u)) = ap (place s means (store.whole u)) (length-map (store.whole u) _) in
        omega (arith, n, a, b, l, c, q))
        (effective_is s means (store.whole u))

    -- where the last membership stands, and its entry
    abbrev spot : ℕ
    spot = place s means (store.whole u) (length (store.whole u))

    abbrev entry : Entry
    entry = (entry_at s (images (store.whole u)) (place s means (store.whole u) (length (store.whole u)))).payload

    -- by the order of ids: in the whole log of a reached world they rise
    pub tail_em_within : (W : Ideal) (n : ℕ) → Reached s W → W.store n ≡ S → Laps S → IsSoundState nat_cmp st → is_le (last_id_cmp nat_cmp st.em.log_id st.committed) ≡ true → next st.em.log_id ≤ next st.committed
    tail_em_within W n reached at_n laps sound le = ⊎_elim (λ p. let q : next st.em.log_id ≡ 0 = ap (λ m. next m.log_id) (em ∙ p.0) in omega (arith, q)) (λ p. go p st.committed refl le) (effective_is s means (store.whole u)) where
      rise : (i j : ℕ) → i ≤ j → j < length (whole S) → (entry_at s (whole S) i).leader ≤ (entry_at s (whole S) j).leader
      rise i j a b = ids_rise s (start s) W (stores_follow s W reached) (whole S) i j (inl (n, ap whole at_n)) a b

      id_of : Placed s means (store.whole u) (length (store.whole u)) (last_among s means (store.whole u)) → st.em.log_id ≡ Some entry.log_id
      id_of p = ap (λ m. m.log_id) em ∙ p.id

      shape : Shape entry_meaning u st
      shape = shape_of entry_meaning u st j.mirrors j.marks

      place_of : Placed s means (store.whole u) (length (store.whole u)) (last_among s means (store.whole u)) → index entry ≡ spot
      place_of p = ap index (payload_at s means (store.whole u) spot entry p.within) ∙ (run_place 0 spot (store.whole u) entry (whole_run entry_meaning u st shape) p.within ∙ omega arith)

      -- the committed id is below the membership's, where its index is
      apart : Placed s means (store.whole u) (length (store.whole u)) (last_among s means (store.whole u)) → (c : LogId ℕ) → st.committed ≡ Some c → is_le (last_id_cmp nat_cmp (Some entry.log_id) (Some c)) ≡ true → c.index < spot → ⊥
      apart p c q a l =
          let m : next st.committed ≡ c.index + 1 = ap next q in
          let b : IsStored entry_meaning u c = subst (λ ids. at ids c.index ≡ Some c) j.mirrors.log.ids_are (committed_has nat_cmp nat_cmp_total nat_same _ _ _ _ _ _ _ sound c q) in
          let f : (last_leader (entry_at s (whole S)) (c.index + 1) ≡ number c.leader_id) × IsNamed c.leader_id = stored_ends s u S h (shaped_of entry_meaning u st j) laps (tail_reaches s u S st h j) c b (omega (arith, shape.front, shape.settled, m)) in
          let one : c.index + 1 ≡ suc c.index = omega arith in
          let x : (entry_at s (whole S) c.index).leader ≡ number c.leader_id = ap (last_leader (entry_at s (whole S))) (sym one) ∙ f.0 in
          let y : (entry_at s (whole S) spot).leader ≡ number entry.log_id.leader_id = ap (λ ys. (entry_at s ys spot).leader) w ∙ leader_at s (store.whole u) spot p.within in
          let size : length (whole S) ≡ length (store.whole u) = ap (λ ys. length ys) w ∙ length-map (store.whole u) _ in
          let g : number c.leader_id ≤ number entry.log_id.leader_id = omega (arith, rise c.index spot (omega (arith, l)) (omega (arith, size, p.within)), x, y) in
          by (ordered entry.log_id.leader_id c.leader_id (named_at s (store.whole u) spot (whole_fit s u S h (shaped_of entry_meaning u st j)) p.within) f.1) g
        where
          by : Order entry.log_id.leader_id c.leader_id → number c.leader_id ≤ number entry.log_id.leader_id → ⊥
          by (below r i) g = absurd (omega (arith, i, g))
          by (same r i) g = let z : is_le (nat_cmp (index entry) c.index) ≡ true = subst (λ o. is_le (ordering_then o (nat_cmp (index entry) c.index)) ≡ true) r a in absurd (omega (arith, le_is (index entry) c.index z, l, place_of p))
          by (above r i) g = let z : is_le (ordering_then Greater (nat_cmp (index entry) c.index)) ≡ true = subst (λ o. is_le (ordering_then o (nat_cmp (index entry) c.index)) ≡ true) r a in absurd (true≢false (sym z))

      go : Placed s means (store.whole u) (length (store.whole u)) (last_among s means (store.whole u)) → (o : Option (LogId ℕ)) → st.committed ≡ o → is_le (last_id_cmp nat_cmp st.em.log_id st.committed) ≡ true → next st.em.log_id ≤ next st.committed
      go p None c a =
          let z : is_le (last_id_cmp nat_cmp (Some entry.log_id) None) ≡ true = subst (λ o. is_le (last_id_cmp nat_cmp (Some entry.log_id) o) ≡ true) c (subst (λ o. is_le (last_id_cmp nat_cmp o st.committed) ≡ true) (id_of p) a) in
          absurd (true≢false (sym z))
      go p (Some c) q a =
          let z : is_le (last_id_cmp nat_cmp (Some entry.log_id) (Some c)) ≡ true = subst (λ o. is_le (last_id_cmp nat_cmp (Some entry.log_id) o) ≡ true) q (subst (λ o. is_le (last_id_cmp nat_cmp o st.committed) ≡ true) (id_of p) a) in
          let n : next st.em.log_id ≡ index entry + 1 = ap next (id_of p) in
          let m : next st.committed ≡ c.index + 1 = ap next q in
          ⊎_elim (λ l. absurd (apart p c q z l)) (λ l. omega (arith, n, m, l, place_of p)) (cases_lt c.index spot)

    -- a group in common
    pub tail_shares : (e : Entry) (m : Members ℕ (Unit {0})) (g : List ℕ) → members_of e.payload ≡ Some m → Includes st.em.membership.groups g → Includes m.groups g → ShareGroup s (effective_membership_of s (whole S)) e
    tail_shares e m g f a b = record {
      group = g;
      left = ⊎_elim
          (λ p. let z : st.em.membership.groups ≡ [] = ap (λ m. m.membership.groups) (em ∙ p.0) in absurd (subst (λ gs. Includes gs g) z a))
          (λ p. includes_group (effective_membership_of s (whole S)) g st.em.membership.groups (ap (λ ys. groups_in (effective_membership_of s ys).payload) w ∙ (effective_groups s means (store.whole u) p ∙ ap (λ m. m.membership.groups) (sym em))) a)
          (effective_is s means (store.whole u));
      right = includes_group e g m.groups (ap (λ o. elim o as (λ _. List (List ℕ)) [ None ↦ [] | Some m ↦ m.groups ]) f) b;
    }

    -- an id of the vote's leader that fits the log, at a committed index: some entry of it is committed in the ideal
    -- world
    pub tail_own : Laps S → IsSoundState nat_cmp st → (x : LogId ℕ) → fits nat_cmp st.ids st.purged (Some x) ≡ true → x.leader_id ≡ st.vote.leader_id → x.index < next st.committed
        → (mine : ℕ) × (mine < S.committed) × ((entry_at s (whole S) mine).leader ≡ S.vote)
    tail_own laps sound x f own l = ⊎_elim found past (or_cases (is_found nat_cmp (at st.ids x.index) x) (is_below nat_cmp (Some x) st.purged) f) where
      c : S.committed ≡ next st.committed
      c = tail_committed s u S st h j

      v : S.vote ≡ number st.vote.leader_id
      v = tail_vote s u S st h j

      front_of : (o : Option (LogId ℕ)) (i : ℕ) → first_index o ≤ i → next o ≤ i + 1
      front_of None i b = omega arith
      front_of (Some y) i b = omega (arith, b)

      held : (o : Option (LogId ℕ)) → at st.ids x.index ≡ o → is_found nat_cmp o x ≡ true → at st.ids x.index ≡ Some x
      held None e q = absurd (true≢false (sym q))
      held (Some y) e q = e ∙ ap Some (log_id_same nat_cmp nat_same y x (is_equal _ q))

      found : is_found nat_cmp (at st.ids x.index) x ≡ true → (mine : ℕ) × (mine < S.committed) × ((entry_at s (whole S) mine).leader ≡ S.vote)
      found q =
          let a : at st.ids x.index ≡ Some x = held (at st.ids x.index) refl q in
          let b : IsStored entry_meaning u x = subst (λ ids. at ids x.index ≡ Some x) j.mirrors.log.ids_are a in
          let low : first_index st.purged ≤ x.index = run_low (first_index st.purged) x st.ids j.marks.run (at_has x.index x st.ids a) in
          let n : next u.front ≤ x.index + 1 = subst (λ o. next o ≤ x.index + 1) j.mirrors.log.purged_is (front_of st.purged x.index low) in
          let z = stored_ends s u S h (shaped_of entry_meaning u st j) laps (tail_reaches s u S st h j) x b n in
          let one : x.index + 1 ≡ suc x.index = omega arith in
          (x.index, omega (arith, l, c), leader_at x.index one z.0 ∙ (ap number own ∙ sym v))
        where
          leader_at : (i : ℕ) → i + 1 ≡ suc i → last_leader (entry_at s (whole S)) (i + 1) ≡ number x.leader_id → (entry_at s (whole S) i).leader ≡ number x.leader_id
          leader_at i one z = ap (last_leader (entry_at s (whole S))) (sym one) ∙ z

      past : is_below nat_cmp (Some x) st.purged ≡ true → (mine : ℕ) × (mine < S.committed) × ((entry_at s (whole S) mine).leader ≡ S.vote)
      past q = go st.purged refl q where
        go : (o : Option (LogId ℕ)) → st.purged ≡ o → is_below nat_cmp (Some x) o ≡ true → (mine : ℕ) × (mine < S.committed) × ((entry_at s (whole S) mine).leader ≡ S.vote)
        go None e q = absurd (true≢false (sym q))
        go (Some y) e q =
            let p = and_parts (is_lt (last_id_cmp nat_cmp (Some x) (Some y))) (nat_lt (x.index + 1) (y.index + 1)) q in
            let a : is_le (leader_id_cmp nat_cmp x.leader_id y.leader_id) ≡ true = then_le (leader_id_cmp nat_cmp x.leader_id y.leader_id) (nat_cmp x.index y.index) p.0 in
            let b : is_le (leader_id_cmp nat_cmp y.leader_id x.leader_id) ≡ true = subst (λ d. is_le (leader_id_cmp nat_cmp y.leader_id d) ≡ true) (sym own) (first_under st.vote.leader_id st.ids y (subst (λ o. IfSome o (λ y. slice_get st.ids 0 ≡ Some y)) e sound.log.first) sound.log.by_vote) in
            let g : x.leader_id ≡ y.leader_id = leader_id_same nat_cmp nat_same x.leader_id y.leader_id (is_equal _ (le_antisymm (leader_total nat_cmp nat_cmp_total) x.leader_id y.leader_id a b)) in
            let k : u.front ≡ Some y = sym j.mirrors.log.purged_is ∙ e in
            let i : FrontIs s (Some y) S.snapshot = subst (λ o. FrontIs s o S.snapshot) k h.front_is in
            let z : Shape entry_meaning u st = shape_of entry_meaning u st j.mirrors j.marks in
            let n : next u.front ≡ y.index + 1 = ap next k in
            let m : length S.snapshot ≡ length u.snap = ap (λ xs. length xs) h.snapshot ∙ length-map u.snap _ in (
              y.index,
              omega (arith, n, z.front, z.settled, c),
              ap (λ e. e.leader) (get_left s S.snapshot (drop (length S.snapshot - S.front) S.entries) y.index (omega (arith, n, z.front, m))) ∙ (i.1 ∙ (ap number (sym g) ∙ (ap number own ∙ sym v))),
            )

    -- what a leader may propose: a membership that shares a group with the effective one, which is committed, and so is
    -- an entry of its own
    pub tail_may : (n : ℕ) → Laps S → IsSoundState nat_cmp st → Leads s S n → (e : Entry) (m : Members ℕ (Unit {0})) → members_of e.payload ≡ Some m → (s.is_membership e ≡ true → s.groups_kept ≡ true → s.first_group e ≡ s.first_group s.first_payload)
        → next st.em.log_id ≤ next st.committed → (g : List ℕ) → Includes st.em.membership.groups g → Includes m.groups g
        → (x : LogId ℕ) → fits nat_cmp st.ids st.purged (Some x) ≡ true → x.leader_id ≡ st.vote.leader_id → x.index < next st.committed → MayAppendOwn s S n e
    tail_may n laps sound leads e m holds groups l g a b x f own k =
        let z : last_membership_of s (whole S) < S.committed = tail_settled l (omega (arith, k)) in
        let o : (mine : ℕ) × (mine < S.committed) × ((entry_at s (whole S) mine).leader ≡ S.vote) = tail_own laps sound x f own k in
        record {
          leads = leads;
          reaches = tail_reaches s u S st h j;
          same = groups;
          settled = λ _ _. z;
          change = λ _ _. record { mine = o.0; own = o.1; own_is = o.2; last = z; share = tail_shares e m g holds a b };
        }
