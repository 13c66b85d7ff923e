-- Whatever voter groups events proposed: a node whose log isn't behind those of the voters of its own membership goes on with them, if
-- none of them goes on alone.
use Rattle.std.proofs.Common.{ℕ, ◌+◌, ◌*◌, ◌-◌, ◌≤◌, ◌≡◌, ◌≢◌, ◌∙◌, ◌⊎◌, inl, inr, Bool, true, false, cond, not, ◌&&◌, List, [], ◌∷◌, ◌++◌, length, filter, map, arith, refl, sym, ap, subst, Option, None, Some}
use Rattle.std.specs.Prelude.{nat_eq}
use Rattle.std.specs.List.{AllByRecursion}
use Rattle.std.specs.Ordering.{nat_cmp}
use Rattle.std.proofs.Math.Nat.{mul-le-mul_right}
use Rattle.std.proofs.lemmas.Bool.Decides.{nat_tests}
use Rattle.std.proofs.lemmas.List.{length-append}
use Rattle.proof_deeds.specs.raft_state.declared.membership.Members.{Members}
use Rattle.proof_deeds.specs.raft_state.Members.{learner_ids, voter_ids}
use Rattle.proof_deeds.specs.raft_state.Sorted.{has_id}
use Rattle.proof_deeds.proofs.raft_state_proofs.LogLists.{each_filter}
use Rattle.proof_deeds.proofs.raft_state_proofs.Orders.{and_both}
use Rattle.proof_deeds.specs.raft_progress.Quorum.{is_quorum}
use Rattle.proof_deeds.specs.raft_proposer.Joint.{u64_max}
use Rattle.proof_deeds.specs.raft_store.declared.entry.Entry.{Entry}
use Rattle.proof_deeds.specs.raft_store.declared.entry.Value.{Value}
use Rattle.proof_deeds.specs.raft_store.Types.{EngineView}
use Rattle.proof_deeds.specs.raft_schedule.declared.event.Event.{Event}
use Rattle.proof_deeds.specs.raft_node.declared.given.Given.{Given}
use Rattle.proof_deeds.specs.raft_node.Net.{Net, NodeView, node_at}
use Rattle.proof_deeds.specs.raft_node.Runs.{world_after}
use Rattle.proof_deeds.specs.raft_node.WellFormed.{IsWellFormed}
use Rattle.proof_progress.specs.Changes.{CanGoOnWith, ChangedCommit, HaveGoneOnWith}
use Rattle.proof_progress.specs.Choices.{leads_by_store}
use Rattle.proof_progress.specs.Continuations.{At}
use Rattle.proof_progress.specs.Elections.{Listed, log_end, members}
use Rattle.proof_progress.specs.GoesOn.{CanGoOn, CanGoOnAlone, HasGoneOn, HasTerms, MayServe, MayVote, NeedsOthers, all_members, first_new, found, greatest_term, last_moment, log_then, most_of, way_of}
use Rattle.proof_progress.specs.Majorities.{HasIndexes}
use Rattle.proof_progress.specs.Proposals.{EachOnce}
use Rattle.proof_progress.specs.GoneByPlan.{AloneHaveNoOthers, GoneByPlan, PlansGoOn, is_learner_in, is_voter_in, other_learners, other_voters, plan}
use Rattle.proof_progress.specs.Plans.{way_on}
use Rattle.proof_progress.proofs.AloneGoes.{alone_by_plan, alone_ends, way_alone}
use Rattle.proof_progress.proofs.Campaigns.{at_id}
use Rattle.proof_progress.proofs.Chosen.{each_at}
use Rattle.proof_progress.proofs.Choosing.{all_listed, find_at, has_of_listed, listed_of_has, not_behind, quorum_within}
use Rattle.proof_progress.proofs.Executes.{both_of}
use Rattle.proof_progress.proofs.Heard.{each_listed}
use Rattle.proof_progress.proofs.Numbered.{node_there}
use Rattle.proof_progress.proofs.Places.{at_one, same_ids}
use Rattle.proof_progress.proofs.SomeGroups.{alone_listed}
use Rattle.proof_progress.proofs.Voters.{from_filter, to_filter}
use Rattle.proof_progress.proofs.WaysOn.{cluster_ends, cluster_goes_on, left_of_both}

-- Parts of a list of ids

pub once_filter : (p : ℕ → Bool) (xs : List ℕ) → EachOnce xs → EachOnce (filter p xs)
once_filter p [] h = tt
once_filter p (x ∷ xs) h = go (p x) (each_filter (λ y. y ≢ x) p xs h.0) (once_filter p xs h.1)
  where
    go : (b : Bool) → AllByRecursion (λ y. y ≢ x) (filter p xs) → EachOnce (filter p xs) → EachOnce (cond b (x ∷ filter p xs) (filter p xs))
    go true a k = (a, k)
    go false a k = k

pub once_both : (xs ys : List ℕ) → EachOnce xs → EachOnce ys → ((t : ℕ) → Listed xs t → Listed ys t → ⊥) → EachOnce (xs ++ ys)
once_both [] ys h k apart = k
once_both (x ∷ xs) ys h k apart = (
  both_of (λ y. y ≢ x) xs ys h.0 (all_listed (λ y. y ≢ x) ys (λ t there z. apart x (inl refl) (subst (Listed ys) z there))),
  once_both xs ys h.1 k (λ t a b. apart t (inr a) b),
)

pub right_of_both : (xs ys : List ℕ) (t : ℕ) → Listed ys t → Listed (xs ++ ys) t
right_of_both [] ys t h = h
right_of_both (x ∷ xs) ys t h = inr (right_of_both xs ys t h)

pub filters_fit : (p q : ℕ → Bool) → ((t : ℕ) → p t ≡ true → q t ≡ false) → (xs : List ℕ) → length (filter p xs) + length (filter q xs) ≤ length xs
filters_fit p q apart [] = omega arith
filters_fit p q apart (x ∷ xs) = go (p x) (q x) (apart x) (filters_fit p q apart xs)
  where
    go : (a b : Bool) → (a ≡ true → b ≡ false) → length (filter p xs) + length (filter q xs) ≤ length xs → length (cond a (x ∷ filter p xs) (filter p xs)) + length (cond b (x ∷ filter q xs) (filter q xs)) ≤ length (x ∷ xs)
    go true true f l = let z : true ≡ false = f refl in cc
    go true false f l = omega (arith, l)
    go false true f l = omega (arith, l)
    go false false f l = omega (arith, l)

pub apart_ids : (a b : ℕ) → not (nat_eq a b) ≡ true → a ≢ b
apart_ids a b h z = let w : true ≡ false = sym h ∙ ap not (same_ids a b z) in cc

pub and_true : (a b : Bool) → a ≡ true → b ≡ true → (a && b) ≡ true
and_true true b e f = f
and_true false b e f = cc

pub not_true : (b : Bool) → not b ≡ true → b ≡ false
not_true true e = cc
not_true false e = refl

pub same_or_not : (a b : ℕ) → (a ≡ b) ⊎ (not (nat_eq a b) ≡ true)
same_or_not a b = go (nat_eq a b) refl
  where
    named : (a b : ℕ) → nat_eq a b ≡ true → a ≡ b
    named a b e = grind (arith, nat_tests)

    go : (c : Bool) → nat_eq a b ≡ c → (a ≡ b) ⊎ (not c ≡ true)
    go true e = inl (named a b e)
    go false e = inr refl

-- none is left where none passes
filter_none : (p : ℕ → Bool) (xs : List ℕ) → ((t : ℕ) → Listed xs t → p t ≡ false) → filter p xs ≡ []
filter_none p [] f = refl
filter_none p (x ∷ xs) f = go (p x) (f x (inl refl)) (filter_none p xs (λ t h. f t (inr h)))
  where
    go : (b : Bool) → b ≡ false → filter p xs ≡ [] → cond b (x ∷ filter p xs) (filter p xs) ≡ []
    go true e q = cc
    go false e q = q

and_off : (a b : Bool) → (a ≡ true → b ≡ false) → (a && b) ≡ false
and_off true b f = f refl
and_off false b f = refl

-- the plan of a node, by what it finds
pub plan_is : (given : Given) (net : Net (List Entry)) (up : List ℕ) (t : ℕ) (T : NodeView) → At net.nodes t T → (values : List Value)
    → plan given net up t values
    ≡ way_on given (last_moment net.nodes) t (greatest_term net.nodes + 1) (other_voters (members (found given T)) up t)
    (other_learners (members (found given T)) up t) values net
plan_is given net up t T at values = by (node_at net.nodes t) (node_there net.nodes t T at)
  where
    way : NodeView → List Event
    way N =
        way_on given (last_moment net.nodes) t (greatest_term net.nodes + 1) (other_voters (members (found given N)) up t)
        (other_learners (members (found given N)) up t) values net

    by : (o : Option NodeView) → o ≡ Some T → ◌≡◌ {A = List Event} (elim o [ None ↦ [] | Some N ↦ way N ]) (way T)
    by None q = cc
    by (Some N) q = let z : N ≡ T = cc in ap way z

-- One of some nodes leads alone by its stored vote, or each needs others

record LeadsAlone (given : Given) (net : Net (List Entry)) (ts : List ℕ) : Type 0 where
  t : ℕ
  one : Listed ts t
  node : NodeView
  at : At net.nodes t node
  leads : leads_by_store false node ≡ true
  alone : is_quorum nat_cmp (members (found given node)).groups (node.id ∷ []) ≡ true

abbrev AllNeed : Given → Net (List Entry) → List ℕ → Type 0
AllNeed given net ts = AllByRecursion (λ t. (T : NodeView) → At net.nodes t T → NeedsOthers given T) ts

need_or_not : (given : Given) (net : Net (List Entry)) (ts : List ℕ) → ((t : ℕ) → Listed ts t → (T : NodeView) × At net.nodes t T) → AllNeed given net ts ⊎ LeadsAlone given net ts
need_or_not given net [] f = inl tt
need_or_not given net (t ∷ ts) f = go (f t (inl refl)) (need_or_not given net ts (λ u h. f u (inr h)))
  where
    of : (T : NodeView) → At net.nodes t T → (b d : Bool) → leads_by_store false T ≡ b → is_quorum nat_cmp (members (found given T)).groups (T.id ∷ []) ≡ d → AllNeed given net ts → AllNeed given net (t ∷ ts) ⊎ LeadsAlone given net (t ∷ ts)
    of T at false d p q a = inl ((λ U k. subst (NeedsOthers given) (at_one net.nodes t T U at k) (inl p)), a)
    of T at true false p q a = inl ((λ U k. subst (NeedsOthers given) (at_one net.nodes t T U at k) (inr q)), a)
    of T at true true p q a = inr (record { t = t; one = inl refl; node = T; at = at; leads = p; alone = q })

    go : (T : NodeView) × At net.nodes t T → AllNeed given net ts ⊎ LeadsAlone given net ts → AllNeed given net (t ∷ ts) ⊎ LeadsAlone given net (t ∷ ts)
    go r (inl a) = of r.0 r.1 (leads_by_store false r.0) (is_quorum nat_cmp (members (found given r.0)).groups (r.0.id ∷ [])) refl refl a
    go r (inr x) = inr (record { t = x.t; one = inr x.one; node = x.node; at = x.at; leads = x.leads; alone = x.alone })

-- The node with the greatest log, and those of its members that are up

module _ (given : Given) (wf : IsWellFormed given) (past : List Event) (up : List ℕ) (n : ℕ) (v : Value) (vs : List Value) (c : CanGoOnWith given (world_after given past) up n (length (v ∷ vs))) where
  abbrev net : Net (List Entry)
  net = world_after given past

  abbrev count : ℕ
  count = length (v ∷ vs)

  abbrev e0 : EngineView
  e0 = found given c.greatest.node

  -- a voter of its membership
  abbrev votes : ℕ → Bool
  votes = has_id nat_cmp (voter_ids nat_cmp (members e0))

  up_node : (t : ℕ) → Listed up t → (N : NodeView) × At net.nodes t N
  up_node t h = find_at net.nodes t (each_listed (Listed (map (λ N. N.id) net.nodes)) up t h c.nodes)

  -- A quorum alone

  module _ (t : ℕ) (T : NodeView) (one : Listed up t) (at : At net.nodes t T) (listed : Listed (voter_ids nat_cmp (members (found given T))) t) (alone : is_quorum nat_cmp (members (found given T)).groups (t ∷ []) ≡ true) where
    own_terms : HasTerms given T
    own_terms = each_at (HasTerms given) net.nodes t T at c.terms

    own_room : HasIndexes given (length up) count T
    own_room = each_at (HasIndexes given (length up) count) net.nodes t T at c.room

    abbrev can_alone : CanGoOnAlone given net t count
    can_alone = record { node = T; at = at; votes = listed; alone = alone; payload = c.payload; terms = own_terms.terms; indexes = own_room.indexes }

    abbrev alone_way : List Event
    alone_way = way_alone given net t (greatest_term net.nodes + 1) (v ∷ vs)

    abbrev gone_alone : (length alone_way ≤ (greatest_term net.nodes + 1) + 3)
        × HasGoneOn given t (first_new (found given T)) (v ∷ vs) [] (past ++ alone_way)
    gone_alone = alone_by_plan given wf past t v vs can_alone (greatest_term net.nodes + 1)

    few_alone : length alone_way ≤ most_of (greatest_term net.nodes) (length up) (length up) (log_then (found given T) (length (v ∷ vs)))
    few_alone =
        within (length alone_way) (length up) (greatest_term net.nodes) (length up * (4 * log_then (found given T) (length (v ∷ vs)) + 2))
        gone_alone.0
      where
        within : (w u g m : ℕ) → w ≤ (g + 1) + 3 → w ≤ (1 + u) + (g + 2 + 2 * u) + (1 + m)
        within w u g m l = omega (arith, l)

    abbrev by_one : HaveGoneOnWith given past up n (v ∷ vs)
    by_one = record {
      n = t;
      one = one;
      node = T;
      at = at;
      votes = listed;
      by = inr alone;
      others = [];
      all = λ few u h k. let z : true ≡ false = sym alone ∙ few in cc;
      more = alone_way;
      few = few_alone;
      gone = gone_alone.1;
    }

    -- if no other member of it is among them, that is its plan
    module _ (none : (u : ℕ) → Listed up u → Listed (all_members (found given T)) u → u ≡ t) where
      own_id : (u : ℕ) → Listed up u → Listed (all_members (found given T)) u → not (nat_eq u t) ≡ false
      own_id u h m = ap not (same_ids u t (none u h m))

      abbrev own : Members ℕ (Unit {0})
      own = members (found given T)

      no_voters : other_voters (members (found given T)) up t ≡ []
      no_voters =
          filter_none (λ u. is_voter_in own u && not (nat_eq u t)) up
          (λ u h. and_off (is_voter_in own u) (not (nat_eq u t))
          (λ e. own_id u h (left_of_both (voter_ids nat_cmp own) (learner_ids nat_cmp own) u (listed_of_has (voter_ids nat_cmp own) u e))))

      no_learners : other_learners (members (found given T)) up t ≡ []
      no_learners =
          filter_none (λ u. is_learner_in own u && not (nat_eq u t)) up
          (λ u h. and_off (is_learner_in own u) (not (nat_eq u t))
          (λ e. own_id u h
          (listed_of_has (all_members (found given T)) u (and_both (not (is_voter_in own u)) (has_id nat_cmp (all_members (found given T)) u) e).1)))

      planned_alone : alone_way ≡ plan given net up t (v ∷ vs)
      planned_alone =
          sym
          (plan_is given net up t T at (v ∷ vs)
          ∙ (ap (λ (ws : List ℕ). way_with ws (other_learners (members (found given T)) up t)) no_voters ∙ ap (way_with []) no_learners))
        where
          way_with : List ℕ → List ℕ → List Event
          way_with ws ls = way_on given (last_moment net.nodes) t (greatest_term net.nodes + 1) ws ls (v ∷ vs) net

      plan_one : GoneByPlan given past up n (v ∷ vs)
      plan_one = record {
        gone = by_one;
        planned = planned_alone;
        ends = alone_ends given wf past t v vs can_alone (greatest_term net.nodes + 1);
        all = λ u h m. inl (sym (none u h m));
        among = subst (AllByRecursion (Listed up)) (sym no_voters) tt;
        follow = subst (AllByRecursion (MayVote given net (found given T))) (sym no_voters) tt;
        quorum = subst (λ (ws : List ℕ). is_quorum nat_cmp (members (found given T)).groups (t ∷ ws) ≡ true) (sym no_voters) alone;
      }

  -- With others

  abbrev voters : List ℕ
  voters = filter (λ t. votes t && not (nat_eq t n)) up

  abbrev learners : List ℕ
  learners = filter (λ t. (not (votes t) && has_id nat_cmp (all_members e0) t) && not (nat_eq t n)) up

  record IsVoterUp (t : ℕ) : Type 0 where
    one : Listed up t
    votes : votes t ≡ true
    other : t ≢ n

  voter_up : (t : ℕ) → Listed voters t → IsVoterUp t
  voter_up t h =
      let f = from_filter (λ t. votes t && not (nat_eq t n)) up t h in
      let b = and_both (votes t) (not (nat_eq t n)) f.1 in record { one = f.0; votes = b.0; other = apart_ids t n b.1 }

  record IsLearnerUp (t : ℕ) : Type 0 where
    one : Listed up t
    learns : votes t ≡ false
    member : Listed (all_members e0) t
    other : t ≢ n

  learner_up : (t : ℕ) → Listed learners t → IsLearnerUp t
  learner_up t h =
      let f = from_filter (λ t. (not (votes t) && has_id nat_cmp (all_members e0) t) && not (nat_eq t n)) up t h in
      let b = and_both (not (votes t) && has_id nat_cmp (all_members e0) t) (not (nat_eq t n)) f.1 in
      let d = and_both (not (votes t)) (has_id nat_cmp (all_members e0) t) b.0 in
      record { one = f.0; learns = not_true (votes t) d.0; member = listed_of_has (all_members e0) t d.1; other = apart_ids t n b.1 }

  is_voter_up : (t : ℕ) → Listed up t → votes t ≡ true → not (nat_eq t n) ≡ true → Listed voters t
  is_voter_up t h a d = to_filter (λ t. votes t && not (nat_eq t n)) up t h (and_true (votes t) (not (nat_eq t n)) a d)

  -- each member that is up is the node or one of the others
  members_there : (t : ℕ) → Listed up t → Listed (all_members e0) t → Listed (n ∷ voters ++ learners) t
  members_there t h m = go (votes t) refl (same_or_not t n)
    where
      go : (b : Bool) → votes t ≡ b → (t ≡ n) ⊎ (not (nat_eq t n) ≡ true) → Listed (n ∷ voters ++ learners) t
      go b a (inl q) = inl (sym q)
      go true a (inr d) = inr (left_of_both voters learners t (is_voter_up t h a d))
      go false a (inr d) =
          inr
          (right_of_both voters learners t
          (to_filter (λ t. (not (votes t) && has_id nat_cmp (all_members e0) t) && not (nat_eq t n)) up t h
          (and_true (not (votes t) && has_id nat_cmp (all_members e0) t) (not (nat_eq t n)) (and_true (not (votes t)) (has_id nat_cmp (all_members e0) t) (ap not a) (has_of_listed (all_members e0) t m)) d)))

  quorum : is_quorum nat_cmp (members e0).groups (n ∷ voters) ≡ true
  quorum = quorum_within (filter votes up) (n ∷ voters) (members e0).groups (λ g a h. has_of_listed (n ∷ voters) g (by g (from_filter votes up g (listed_of_has (filter votes up) g h)) (same_or_not g n))) c.quorum
    where
      by : (g : ℕ) → Listed up g × (votes g ≡ true) → (g ≡ n) ⊎ (not (nat_eq g n) ≡ true) → Listed (n ∷ voters) g
      by g h (inl q) = inl (sym q)
      by g h (inr d) = inr (is_voter_up g h.0 h.1 d)

  once : EachOnce (n ∷ voters ++ learners)
  once = (
    both_of (λ u. u ≢ n) voters learners (all_listed (λ u. u ≢ n) voters (λ t h. (voter_up t h).other)) (all_listed (λ u. u ≢ n) learners (λ t h. (learner_up t h).other)),
    once_both voters learners (once_filter (λ t. votes t && not (nat_eq t n)) up c.once) (once_filter (λ t. (not (votes t) && has_id nat_cmp (all_members e0) t) && not (nat_eq t n)) up c.once)
        (λ t h k. let z : true ≡ false = sym (voter_up t h).votes ∙ (learner_up t k).learns in cc),
  )

  short : length voters + length learners ≤ length up
  short =
      filters_fit (λ t. votes t && not (nat_eq t n)) (λ t. (not (votes t) && has_id nat_cmp (all_members e0) t) && not (nat_eq t n))
      (λ t h. off (votes t) (has_id nat_cmp (all_members e0) t) (not (nat_eq t n)) (and_both (votes t) (not (nat_eq t n)) h).0) up
    where
      off : (a b d : Bool) → a ≡ true → ((not a && b) && d) ≡ false
      off true b d e = refl
      off false b d e = cc

  -- its log isn't behind theirs
  follows : (t : ℕ) → Listed voters t → MayVote given net e0 t
  follows t h =
      let u = voter_up t h in
      let r = up_node t u.one in
      record {
        voter = listed_of_has (voter_ids nat_cmp (members e0)) t u.votes;
        node = r.0;
        at = r.1;
        ahead = not_behind (log_end e0) (log_end (found given r.0)) (c.greatest.top t r.0 (to_filter votes up t u.one u.votes) r.1);
      }

  up_at : (t : ℕ) → Listed (voters ++ learners) t → Listed up t
  up_at t h = go voters (λ u k. (voter_up u k).one) h
    where
      go : (xs : List ℕ) → ((u : ℕ) → Listed xs u → Listed up u) → Listed (xs ++ learners) t → Listed up t
      go [] f k = (learner_up t k).one
      go (x ∷ xs) f (inl q) = f t (inl q)
      go (x ∷ xs) f (inr q) = go xs (λ u k. f u (inr k)) q

  module _ (few : is_quorum nat_cmp (members e0).groups (n ∷ []) ≡ false) (needs : AllNeed given net (voters ++ learners)) where
    serve : (t : ℕ) → Listed (voters ++ learners) t → Listed (all_members e0) t → MayServe given net e0 t
    serve t h m =
        let r = up_node t (up_at t h) in
        record { member = m; node = r.0; at = r.1; others = each_listed (λ t. (T : NodeView) → At net.nodes t T → NeedsOthers given T) (voters ++ learners) t h needs r.0 r.1; reaches = c.reach t r.0 (up_at t h) r.1 }

    serves_voter : (t : ℕ) → Listed voters t → MayServe given net e0 t
    serves_voter t h =
        serve t (left_of_both voters learners t h) (left_of_both (voter_ids nat_cmp (members e0)) (learner_ids nat_cmp (members e0)) t (listed_of_has (voter_ids nat_cmp (members e0)) t (voter_up t h).votes))

    serves_learner : (t : ℕ) → Listed learners t → MayServe given net e0 t
    serves_learner t h = serve t (right_of_both voters learners t h) (learner_up t h).member

    room : HasIndexes given (length up) count c.greatest.node
    room = each_at (HasIndexes given (length up) count) net.nodes n c.greatest.node c.greatest.at c.room

    -- some voters of them, and the learners
    module _ (w : ℕ) (ws : List ℕ) (f : AllByRecursion (MayVote given net e0) (w ∷ ws)) (s : AllByRecursion (MayServe given net e0) (w ∷ ws ++ learners)) (o : EachOnce (n ∷ w ∷ ws ++ learners))
        (q : is_quorum nat_cmp (members e0).groups (n ∷ w ∷ ws) ≡ true) (l : length (w ∷ ws) + length learners ≤ length up) where
      len : length (w ∷ ws ++ learners) ≤ length up
      len = let x : length (w ∷ ws ++ learners) ≡ length (w ∷ ws) + length learners = length-append (w ∷ ws) learners in omega (arith, l, x)

      product : length (w ∷ ws ++ learners) * (4 * log_then e0 (length (v ∷ vs)) + 2) ≤ length up * (4 * log_then e0 (length (v ∷ vs)) + 2)
      product = mul-le-mul_right (4 * log_then e0 (length (v ∷ vs)) + 2) len

      less : (a b : ℕ) → a ≤ b → b + 8 ≤ u64_max - 8 → a + 8 ≤ u64_max - 8
      less a b h k = omega (arith, h, k)

      abbrev can : CanGoOn given net n count
      can = record {
        node = c.greatest.node;
        at = c.greatest.at;
        voter = w;
        voters = ws;
        others = learners;
        once = o;
        votes = c.greatest.votes;
        follow = f;
        quorum = q;
        few = few;
        serve = s;
        payload = c.payload;
        terms = c.terms;
        indexes = room.indexes;
        numbers = less (length (w ∷ ws ++ learners) * (4 * log_then e0 (length (v ∷ vs)) + 2)) (length up * (4 * log_then e0 (length (v ∷ vs)) + 2)) product room.numbers;
      }

      abbrev way : List Event
      way = way_of can (v ∷ vs)

      abbrev goes : (length way ≤ most_of (greatest_term net.nodes) (length (w ∷ ws)) (length (w ∷ ws ++ learners)) (log_then e0 (length (v ∷ vs)))) × HasGoneOn given n (first_new e0) (v ∷ vs) (w ∷ ws ++ learners) (past ++ way)
      goes = cluster_goes_on given wf past n v vs can

      counts : length way ≤ most_of (greatest_term net.nodes) (length up) (length up) (log_then e0 (length (v ∷ vs)))
      counts =
          let h : length way ≤ most_of (greatest_term net.nodes) (length (w ∷ ws)) (length (w ∷ ws ++ learners)) (log_then e0 (length (v ∷ vs))) = goes.0 in
          more_of (length way) (greatest_term net.nodes) (length (w ∷ ws)) (length up) (length (w ∷ ws ++ learners)) (length (w ∷ ws ++ learners) * (4 * log_then e0 (length (v ∷ vs)) + 2)) (length up * (4 * log_then e0 (length (v ∷ vs)) + 2)) h
          (let k : length (w ∷ ws) + length learners ≤ length up = l in omega (arith, k)) len product
        where
          more_of : (x g a u b m p : ℕ) → x ≤ (1 + b) + (g + 2 + 2 * a) + (1 + m) → a ≤ u → b ≤ u → m ≤ p → x ≤ (1 + u) + (g + 2 + 2 * u) + (1 + p)
          more_of x g a u b m p h k l r = omega (arith, h, k, l, r)

    -- they are some voters, as a majority of each group isn't one
    by_some : (ws : List ℕ) → AllByRecursion (MayVote given net e0) ws → AllByRecursion (MayServe given net e0) (ws ++ learners) → EachOnce (n ∷ ws ++ learners) → is_quorum nat_cmp (members e0).groups (n ∷ ws) ≡ true
        → length ws + length learners ≤ length up → ((t : ℕ) → Listed up t → Listed (all_members e0) t → Listed (n ∷ ws ++ learners) t)
        → ws ≡ voters → GoneByPlan given past up n (v ∷ vs)
    by_some [] f s o q l a e = let z : true ≡ false = sym q ∙ few in cc
    by_some (w ∷ ws) f s o q l a e = record {
      gone = record {
        n = n;
        one = c.greatest.one;
        node = c.greatest.node;
        at = c.greatest.at;
        votes = c.greatest.votes;
        by = inl refl;
        others = w ∷ ws ++ learners;
        all = λ few. a;
        more = way w ws f s o q l;
        few = counts w ws f s o q l;
        gone = (goes w ws f s o q l).1;
      };
      planned = ap (λ (xs : List ℕ). way_on given (last_moment net.nodes) n (greatest_term net.nodes + 1) xs learners (v ∷ vs) net) e
          ∙ sym (plan_is given net up n c.greatest.node c.greatest.at (v ∷ vs));
      ends = cluster_ends given wf past n v vs (can w ws f s o q l);
      all = a;
      among = all_listed (Listed up) voters (λ t h. (voter_up t h).one);
      follow = all_listed (MayVote given net e0) voters follows;
      quorum = quorum;
    }

    by_all : GoneByPlan given past up n (v ∷ vs)
    by_all =
        by_some voters (all_listed (MayVote given net e0) voters follows) (both_of (MayServe given net e0) voters learners (all_listed (MayServe given net e0) voters serves_voter) (all_listed (MayServe given net e0) learners serves_learner)) once quorum short
        members_there refl

  -- one of the others is a quorum alone, and leads by its stored vote
  module _ (x : LeadsAlone given net (voters ++ learners)) where
    alone_votes : Listed (voter_ids nat_cmp (members (found given x.node))) x.t
    alone_votes =
        subst (Listed (voter_ids nat_cmp (members (found given x.node)))) (at_id net.nodes x.t x.node x.at)
        (alone_listed given wf past x.t x.node x.at x.leads x.alone)

    alone_quorum : is_quorum nat_cmp (members (found given x.node)).groups (x.t ∷ []) ≡ true
    alone_quorum = subst (λ i. is_quorum nat_cmp (members (found given x.node)).groups (i ∷ []) ≡ true) (at_id net.nodes x.t x.node x.at) x.alone

    by_alone : HaveGoneOnWith given past up n (v ∷ vs)
    by_alone = by_one x.t x.node (up_at x.t x.one) x.at alone_votes alone_quorum

    plan_alone : AloneHaveNoOthers given net up → GoneByPlan given past up n (v ∷ vs)
    plan_alone none = plan_one x.t x.node (up_at x.t x.one) x.at alone_votes alone_quorum (none x.t x.node (up_at x.t x.one) x.at alone_quorum)

  one_or_more : AllNeed given net (voters ++ learners) ⊎ LeadsAlone given net (voters ++ learners)
  one_or_more = need_or_not given net (voters ++ learners) (λ t h. up_node t (up_at t h))

  pub goes_on_with : HaveGoneOnWith given past up n (v ∷ vs)
  goes_on_with = go (is_quorum nat_cmp (members e0).groups (n ∷ [])) refl one_or_more
    where
      go : (b : Bool) → is_quorum nat_cmp (members e0).groups (n ∷ []) ≡ b → AllNeed given net (voters ++ learners) ⊎ LeadsAlone given net (voters ++ learners) → HaveGoneOnWith given past up n (v ∷ vs)
      go true q r = by_one n c.greatest.node c.greatest.one c.greatest.at c.greatest.votes q
      go false q (inl a) = (by_all q a).gone
      go false q (inr x) = by_alone x

  -- By a plan

  pub gone_by_plan : AloneHaveNoOthers given net up → GoneByPlan given past up n (v ∷ vs)
  gone_by_plan none = go (is_quorum nat_cmp (members e0).groups (n ∷ [])) refl one_or_more
    where
      go : (b : Bool) → is_quorum nat_cmp (members e0).groups (n ∷ []) ≡ b → AllNeed given net (voters ++ learners) ⊎ LeadsAlone given net (voters ++ learners) → GoneByPlan given past up n (v ∷ vs)
      go true q r = plan_one n c.greatest.node c.greatest.one c.greatest.at c.greatest.votes q (none n c.greatest.node c.greatest.one c.greatest.at q)
      go false q (inl a) = by_all q a
      go false q (inr x) = plan_alone x none

pub changed_commit : ChangedCommit
changed_commit given wf past up n v vs c = goes_on_with given wf past up n v vs c

pub plans_go_on : PlansGoOn
plans_go_on given wf past up n v vs c none = gone_by_plan given wf past up n v vs c none
