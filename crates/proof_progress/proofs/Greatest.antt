-- Whoever has the greatest log in a world finds it as it starts. And no id of a node's log is above its last one.
use Rattle.std.proofs.Common.{ℕ, suc, ◌+◌, ◌<◌, ◌≤◌, ◌≡◌, ◌⊎◌, inl, inr, ⊎_elim, true, List, [], ◌∷◌, ◌++◌, length, map, arith, refl, sym, ap, ◌∙◌, subst, Option, None, Some}
use Rattle.std.proofs.lemmas.Bool.{cases_lt}
use Rattle.std.proofs.lemmas.Bool.Decides.{nat_tests}
use Rattle.std.proofs.lemmas.List.{length-append, length-map, map-append}
use Rattle.std.specs.List.{AllByRecursion}
use Rattle.std.specs.Ordering.{is_le, nat_cmp, ordering_then}
use Rattle.proof_deeds.specs.raft_state.declared.ids.LogId.{LogId}
use Rattle.proof_deeds.specs.raft_state.declared.membership.Members.{Members}
use Rattle.proof_deeds.specs.raft_state.Log.{at, last}
use Rattle.proof_deeds.specs.raft_state.LogLaws.{IsRun}
use Rattle.proof_deeds.specs.raft_state.Members.{voter_ids}
use Rattle.proof_deeds.specs.raft_state.Order.{last_id_cmp}
use Rattle.proof_deeds.specs.raft_store.declared.entry.Entry.{Entry}
use Rattle.proof_deeds.specs.raft_store.Entries.{entry_meaning}
use Rattle.proof_deeds.specs.raft_store.Store.{past, whole}
use Rattle.proof_deeds.specs.raft_store.Store as store
use Rattle.proof_deeds.specs.raft_node.declared.given.Given.{Given}
use Rattle.proof_deeds.specs.raft_schedule.declared.event.Event.{Event}
use Rattle.proof_deeds.specs.raft_node.Net.{NodeView}
use Rattle.proof_deeds.specs.raft_node.Runs.{world_after}
use Rattle.proof_deeds.specs.raft_node.WellFormed.{IsWellFormed}
use Rattle.proof_deeds.specs.proof_agreement.Machine.{Setup, leader_log, start}
use Rattle.proof_deeds.specs.proof_agreement.Stores.{entry_at}
use Rattle.proof_deeds.specs.proof_agreement.Stores as stores
use Rattle.proof_deeds.specs.proof_agreement.LeaderNumbers.{leader_node}
use Rattle.proof_deeds.proofs.proof_agreement_proofs.Invariants.{FollowsAt, IsPast}
use Rattle.proof_deeds.proofs.proof_agreement_proofs.LeaderNumbers.{leader_node-number}
use Rattle.proof_deeds.proofs.proof_agreement_proofs.StoresFollow.{StoreOk, StoresFollow}
use Rattle.proof_deeds.specs.proof_mirror.Ready.{Shaped}
use Rattle.proof_deeds.specs.Chains.{Reached}
use Rattle.proof_deeds.specs.Follows.{StoreIs}
use Rattle.proof_deeds.specs.Images.{Ideal, IdealEntry, IsNamed, IsWellFormedEntry, image, images, number, setup_of}
use Rattle.proof_deeds.specs.Nets.{NodeFollows}
use Rattle.proof_deeds.proofs.Nodes.{each_both}
use Rattle.proof_deeds.proofs.Numbers.{Order, above, below, number_same, ordered, same}
use Rattle.proof_deeds.proofs.Promised.{one_of}
use Rattle.proof_deeds.proofs.Proved.{followed}
use Rattle.proof_deeds.proofs.Runs.{ids_in, whole_runs}
use Rattle.proof_deeds.proofs.Tails.{whole_fit, whole_is}
use Rattle.proof_deeds.proofs.Worlds.{each_on, stores_follow}
use Rattle.proof_progress.specs.Changes.{FindsStored, HasGreatestLog}
use Rattle.proof_progress.specs.Continuations.{At}
use Rattle.proof_progress.specs.Elections.{Listed, log_end}
use Rattle.proof_progress.specs.GoesOn.{found}
use Rattle.proof_progress.proofs.Choosing.{listed_at}
use Rattle.proof_progress.proofs.Chosen.{at_contains, each_at}
use Rattle.proof_progress.proofs.EntriesStored.{whole_keeps}
use Rattle.proof_progress.proofs.FoundEnd.{starts_find_stored}
use Rattle.proof_progress.proofs.OwnFirst.{end_leader}
use Rattle.proof_progress.proofs.Top.{Below, IsTop, IsUnder, Sorted, behind_all, below_number}
use Rattle.proof_progress.proofs.WaysOn.{last_of}

-- A node in a reached world

module _ (s : Setup Entry) where
  all_at : (P : IdealEntry → Type 0) (es : List Entry) → ((k : ℕ) → k < length es → P (entry_at s (images es) k)) → AllByRecursion (λ (e : Entry). P (image e)) es
  all_at P [] f = tt
  all_at P (e ∷ es) f = (f 0 (omega arith), all_at P es (λ k l. f (suc k) (omega (arith, l))))

  end_at : (before : List Entry) (y : Entry) → entry_at s (images (before ++ y ∷ [])) (length before) ≡ image y
  end_at [] y = refl
  end_at (e ∷ es) y = let n : length (e ∷ es) ≡ suc (length es) = omega arith in ap (entry_at s (images (e ∷ (es ++ y ∷ [])))) n ∙ end_at es y

-- indexes rise by one
run_low : (n : ℕ) (es : List Entry) (y : Entry) → IsRun n (ids_in (es ++ y ∷ [])) → (y.log_id.index ≡ n + length es) × AllByRecursion (λ (e : Entry). e.log_id.index ≤ n + length es) (es ++ y ∷ [])
run_low n [] y r = let q : y.log_id.index ≡ n = r.0 in (omega (arith, q), (omega (arith, q), tt))
run_low n (e ∷ es) y r =
    let q : e.log_id.index ≡ n = r.0 in
    let k : (y.log_id.index ≡ (n + 1) + length es) × AllByRecursion (λ (e : Entry). e.log_id.index ≤ (n + 1) + length es) (es ++ y ∷ []) = run_low (n + 1) es y r.1 in
    let m : length (e ∷ es) ≡ suc (length es) = omega arith in (
      let z : y.log_id.index ≡ (n + 1) + length es = k.0 in omega (arith, z, m),
      (omega (arith, q), each_on (λ (e : Entry). e.log_id.index ≤ (n + 1) + length es) (λ (f : Entry). f.log_id.index ≤ n + length (e ∷ es)) (λ f l. omega (arith, l, m)) (es ++ y ∷ []) k.1),
    )

module _ (given : Given) (W : Ideal) (reached : Reached (setup_of given.membership) W) (N : NodeView) (store : StoreIs (setup_of given.membership) N.store (W.store N.id)) (shaped : Shaped entry_meaning N.store) where
  K : StoresFollow (setup_of given.membership) (start (setup_of given.membership)) W
  K = stores_follow (setup_of given.membership) W reached

  same_log : stores.whole (W.store N.id) ≡ images (whole N.store)
  same_log = whole_is (setup_of given.membership) N.store (W.store N.id) store shaped

  ok : StoreOk (setup_of given.membership) (K.world.node N.id) (W.store N.id)
  ok = K.store N.id

  long : length (whole N.store) ≡ (K.world.node N.id).log.len
  long = sym (ok.log.len ∙ (ap (λ xs. length xs) same_log ∙ length-map (whole N.store) image))

  stands : (k : ℕ) → k < length (whole N.store) → (K.world.node N.id).log.at k ≡ entry_at (setup_of given.membership) (images (whole N.store)) k
  stands k l = ok.log.agree.same k (let n : length (whole N.store) ≡ (K.world.node N.id).log.len = long in omega (arith, l, n)) ∙ ap (λ xs. entry_at (setup_of given.membership) xs k) same_log

  pub sorted : Sorted N
  sorted = record {
    named = each_on (IsWellFormedEntry (setup_of given.membership)) (λ (e : Entry). IsNamed e.log_id.leader_id) (λ e f. f.named) (whole N.store) (whole_fit (setup_of given.membership) N.store (W.store N.id) store shaped);
    low = all_at (setup_of given.membership) (λ i. i.leader ≤ number N.store.vote.leader_id) (whole N.store)
        (λ k l.
        let a : ((K.world.node N.id).log.at k).leader ≤ (K.world.node N.id).vote = (K.inv.node N.id).low k (let n : length (whole N.store) ≡ (K.world.node N.id).log.len = long in omega (arith, l, n)) in
        let v : (K.world.node N.id).vote ≡ number N.store.vote.leader_id = ok.vote ∙ store.vote in
        subst (λ (i : IdealEntry). i.leader ≤ number N.store.vote.leader_id) (stands k l) (omega (arith, a, v)));
    rises = rises;
  }
    where
      rises : (before : List Entry) (y : Entry) → whole N.store ≡ before ++ y ∷ [] → AllByRecursion (IsUnder y.log_id) (whole N.store)
      rises before y q =
          each_both (λ (e : Entry). number e.log_id.leader_id ≤ number y.log_id.leader_id) (λ (e : Entry). e.log_id.index ≤ y.log_id.index) (IsUnder y.log_id) under (whole N.store) leaders indexes
        where
          m : ℕ
          m = length before

          total : length (whole N.store) ≡ length before + 1
          total = ap (λ xs. length xs) q ∙ length-append before (y ∷ [])

          under : (e : Entry) → number e.log_id.leader_id ≤ number y.log_id.leader_id → e.log_id.index ≤ y.log_id.index → IsUnder y.log_id e
          under e a b = ⊎_elim (λ l. inl l) (λ g. inr (omega (arith, a, g), b)) (cases_lt (number e.log_id.leader_id) (number y.log_id.leader_id))

          last_leader_is : ((K.world.node N.id).log.at (length before)).leader ≡ number y.log_id.leader_id
          last_leader_is =
              ap (λ (i : IdealEntry). i.leader) (stands (length before) (omega (arith, total)) ∙ (ap (λ es. entry_at (setup_of given.membership) (images es) (length before)) q ∙ end_at (setup_of given.membership) before y))

          f : FollowsAt K.world (K.world.node N.id).log (length before)
          f = (K.inv.node N.id).follows (length before) (let n : length (whole N.store) ≡ (K.world.node N.id).log.len = long in omega (arith, total, n))

          leaders : AllByRecursion (λ (e : Entry). number e.log_id.leader_id ≤ number y.log_id.leader_id) (whole N.store)
          leaders =
              all_at (setup_of given.membership) (λ i. i.leader ≤ number y.log_id.leader_id) (whole N.store)
              (λ k l.
              let d : ℕ = ((K.world.node N.id).log.at (length before)).leader in
              let inside : k < suc (length before) = omega (arith, l, total) in
              let a : ((leader_log K.world ((K.world.node N.id).log.at (length before)).leader).at k).leader ≤ ((K.world.node N.id).log.at (length before)).leader =
              (K.inv.leader ((K.world.node N.id).log.at (length before)).leader).low k (let r : suc (length before) ≤ (leader_log K.world ((K.world.node N.id).log.at (length before)).leader).len = f.agree.right in omega (arith, inside, r)) in
              let b : (K.world.node N.id).log.at k ≡ (leader_log K.world ((K.world.node N.id).log.at (length before)).leader).at k = f.agree.same k inside in
              let c : ((K.world.node N.id).log.at k).leader ≤ number y.log_id.leader_id = subst (λ n. ((K.world.node N.id).log.at k).leader ≤ n) last_leader_is (subst (λ (i : IdealEntry). i.leader ≤ ((K.world.node N.id).log.at (length before)).leader) (sym b) a) in
              subst (λ (i : IdealEntry). i.leader ≤ number y.log_id.leader_id) (stands k l) c)

          indexes : AllByRecursion (λ (e : Entry). e.log_id.index ≤ y.log_id.index) (whole N.store)
          indexes =
              let r : IsRun 0 (ids_in (before ++ y ∷ [])) = subst (λ es. IsRun 0 (ids_in es)) q (whole_runs N.store shaped) in
              let k : (y.log_id.index ≡ 0 + length before) × AllByRecursion (λ (e : Entry). e.log_id.index ≤ 0 + length before) (before ++ y ∷ []) = run_low 0 before y r in
              let z : y.log_id.index ≡ 0 + length before = k.0 in
              subst (AllByRecursion (λ (e : Entry). e.log_id.index ≤ y.log_id.index)) (sym q)
              (each_on (λ (e : Entry). e.log_id.index ≤ 0 + length before) (λ (e : Entry). e.log_id.index ≤ y.log_id.index) (λ e l. omega (arith, l, z)) (before ++ y ∷ []) k.1)

  -- a node that wrote its last entry under its vote's leader id, or a later one, was elected by that vote
  pub owns : (before : List Entry) (y : Entry) → whole N.store ≡ before ++ y ∷ [] → y.log_id.leader_id.node_id ≡ N.id → 0 < number y.log_id.leader_id → number N.store.vote.leader_id ≤ number y.log_id.leader_id
      → (N.store.vote.committed ≡ true) × (N.store.vote.leader_id.node_id ≡ N.id)
  owns before y q own positive l = by (subst (λ i. IsPast (K.world.node i) (number y.log_id.leader_id)) owner (K.inv.owned (number y.log_id.leader_id) positive established))
    where
      total : length (whole N.store) ≡ length before + 1
      total = ap (λ xs. length xs) q ∙ length-append before (y ∷ [])

      f : FollowsAt K.world (K.world.node N.id).log (length before)
      f = (K.inv.node N.id).follows (length before) (let n : length (whole N.store) ≡ (K.world.node N.id).log.len = long in omega (arith, total, n))

      leader_is : ((K.world.node N.id).log.at (length before)).leader ≡ number y.log_id.leader_id
      leader_is =
          ap (λ (i : IdealEntry). i.leader) (stands (length before) (omega (arith, total)) ∙ (ap (λ es. entry_at (setup_of given.membership) (images es) (length before)) q ∙ end_at (setup_of given.membership) before y))

      established : (K.world.leader (number y.log_id.leader_id)).established ≡ true
      established = subst (λ d. (K.world.leader d).established ≡ true) leader_is f.established

      named : IsNamed y.log_id.leader_id
      named = (behind_all (λ (e : Entry). IsNamed e.log_id.leader_id) before (y ∷ []) (subst (AllByRecursion (λ (e : Entry). IsNamed e.log_id.leader_id)) q sorted.named)).0

      owner : leader_node (number y.log_id.leader_id) ≡ N.id
      owner = leader_node-number y.log_id.leader_id.term y.log_id.leader_id.node_id named ∙ own

      vote_is : (K.world.node N.id).vote ≡ number N.store.vote.leader_id
      vote_is = ok.vote ∙ store.vote

      by : IsPast (K.world.node N.id) (number y.log_id.leader_id) → (N.store.vote.committed ≡ true) × (N.store.vote.leader_id.node_id ≡ N.id)
      by (inl k) = absurd (let v : (K.world.node N.id).vote ≡ number N.store.vote.leader_id = vote_is in omega (arith, k, v, l))
      by (inr p) = (
        sym store.vote_committed ∙ (sym ok.vote_committed ∙ p.1),
        ap (λ d. d.node_id) (number_same N.store.vote.leader_id y.log_id.leader_id store.vote_named named (sym vote_is ∙ p.0)) ∙ own,
      )

-- The greatest

-- an id that isn't above another comes at or before it
not_above : (x y : LogId ℕ) → IsNamed x.leader_id → IsNamed y.leader_id → Below x y → is_le (last_id_cmp nat_cmp (Some y) (Some x)) ≡ true
not_above x y h k b = go (ordered y.leader_id x.leader_id k h)
  where
    at_most : (a b : ℕ) → a ≤ b → is_le (nat_cmp a b) ≡ true
    at_most a b l = grind (arith, nat_tests)

    go : Order y.leader_id x.leader_id → is_le (last_id_cmp nat_cmp (Some y) (Some x)) ≡ true
    go (below q l) = ap (λ o. is_le (ordering_then o (nat_cmp y.index x.index))) q
    go (same q l) = ap (λ o. is_le (ordering_then o (nat_cmp y.index x.index))) q ∙ at_most y.index x.index (by b)
      where
        by : Below x y → y.index ≤ x.index
        by (inl g) = let e : number y.leader_id ≡ number x.leader_id = ap number l in absurd (omega (arith, g, e))
        by (inr p) = p.1
    go (above q l) = absurd (let m : number y.leader_id ≤ number x.leader_id = below_number x y b in omega (arith, m, l))

-- where a log ends
pub end_of : (before : List Entry) (y : Entry) → end_leader (before ++ y ∷ []) ≡ number y.log_id.leader_id
end_of [] y = refl
end_of (e ∷ []) y = refl
end_of (e ∷ f ∷ es) y = end_of (f ∷ es) y

last_id : (before : List Entry) (y : Entry) → last (map (λ (e : Entry). e.log_id) (before ++ y ∷ [])) ≡ Some y.log_id
last_id before y = ap last (map-append (λ (e : Entry). e.log_id) before (y ∷ [])) ∙ last_of (map (λ (e : Entry). e.log_id) before) y.log_id

-- a log is empty, or ends
pub data EndsOrNot (es : List Entry) : Type 0 where
  none : es ≡ [] → EndsOrNot es
  ends : (before : List Entry) (y : Entry) → es ≡ before ++ y ∷ [] → EndsOrNot es

pub ends_or_not : (es : List Entry) → EndsOrNot es
ends_or_not [] = none refl
ends_or_not (e ∷ es) = go (ends_or_not es)
  where
    go : EndsOrNot es → EndsOrNot (e ∷ es)
    go (none q) = ends [] e (ap (λ xs. e ∷ xs) q)
    go (ends before y q) = ends (e ∷ before) y (ap (λ xs. e ∷ xs) q)

module _ (given : Given) (wf : IsWellFormed given) (past : List Event) where
  follows : (t : ℕ) (T : NodeView) → At (world_after given past).nodes t T → NodeFollows (setup_of given.membership) (followed given wf past).world (world_after given past).records T
  follows t T at = one_of (NodeFollows (setup_of given.membership) (followed given wf past).world (world_after given past).records) (world_after given past).nodes T (followed given wf past).follows.nodes (at_contains (world_after given past).nodes t T at)

  pub sorted_at : (t : ℕ) (T : NodeView) → At (world_after given past).nodes t T → Sorted T
  sorted_at t T at = let f = follows t T at in sorted given (followed given wf past).world (followed given wf past).follows.reached T f.store f.shaped

  pub owns_at : (t : ℕ) (T : NodeView) → At (world_after given past).nodes t T → (before : List Entry) (y : Entry) → whole T.store ≡ before ++ y ∷ [] → y.log_id.leader_id.node_id ≡ T.id → 0 < number y.log_id.leader_id
      → number T.store.vote.leader_id ≤ number y.log_id.leader_id → (T.store.vote.committed ≡ true) × (T.store.vote.leader_id.node_id ≡ T.id)
  owns_at t T at before y = let f = follows t T at in owns given (followed given wf past).world (followed given wf past).follows.reached T f.store f.shaped before y

  -- what a node finds as it starts is its log's last id
  pub finds_at : (t : ℕ) (T : NodeView) → At (world_after given past).nodes t T → FindsStored given T
  finds_at t T at = each_at (FindsStored given) (world_after given past).nodes t T at (starts_find_stored given wf past)

  pub ends_at : (t : ℕ) (T : NodeView) → At (world_after given past).nodes t T → (before : List Entry) (y : Entry) → whole T.store ≡ before ++ y ∷ [] → log_end (found given T) ≡ Some y.log_id
  ends_at t T at before y q = (finds_at t T at).1 ∙ (ap (λ (es : List Entry). last (map (λ (e : Entry). e.log_id) es)) q ∙ last_id before y)

  named_at : (t : ℕ) (T : NodeView) → At (world_after given past).nodes t T → (before : List Entry) (y : Entry) → whole T.store ≡ before ++ y ∷ [] → IsNamed y.log_id.leader_id
  named_at t T at before y q =
      (behind_all (λ (e : Entry). IsNamed e.log_id.leader_id) before (y ∷ []) (subst (AllByRecursion (λ (e : Entry). IsNamed e.log_id.leader_id)) q (sorted_at t T at).named)).0

  -- the node that the greatest last id names has the greatest log among all nodes
  pub greatest_of : (o : ℕ) (x : LogId ℕ) → IsTop (world_after given past) o x → (n : ℕ) × HasGreatestLog given (world_after given past) (map (λ N. N.id) (world_after given past).nodes) n
  greatest_of o x h = (
    o,
    record {
      one = listed_at (world_after given past).nodes o h.node h.at;
      node = h.node;
      at = h.at;
      votes = subst (λ (m : Members ℕ (Unit {0})). Listed (voter_ids nat_cmp m) o) (sym (finds_at o h.node h.at).0) h.votes;
      top = λ u U i k. top u U k;
    },
  )
    where
      end_is : log_end (found given h.node) ≡ Some x
      end_is = subst (λ (y : LogId ℕ). log_end (found given h.node) ≡ Some y) h.is (ends_at o h.node h.at h.before h.last h.ends)

      named : IsNamed x.leader_id
      named = subst (λ (y : LogId ℕ). IsNamed y.leader_id) h.is (named_at o h.node h.at h.before h.last h.ends)

      top : (u : ℕ) (U : NodeView) → At (world_after given past).nodes u U → is_le (last_id_cmp nat_cmp (log_end (found given U)) (log_end (found given h.node))) ≡ true
      top u U k = go (ends_or_not (whole U.store))
        where
          by : (a : Option (LogId ℕ)) → log_end (found given U) ≡ a → is_le (last_id_cmp nat_cmp a (Some x)) ≡ true → is_le (last_id_cmp nat_cmp (log_end (found given U)) (log_end (found given h.node))) ≡ true
          by a q l = subst (λ o. is_le (last_id_cmp nat_cmp o (log_end (found given h.node))) ≡ true) (sym q) (subst (λ o. is_le (last_id_cmp nat_cmp a o) ≡ true) (sym end_is) l)

          go : EndsOrNot (whole U.store) → is_le (last_id_cmp nat_cmp (log_end (found given U)) (log_end (found given h.node))) ≡ true
          go (none q) = by None ((finds_at u U k).1 ∙ ap (λ (es : List Entry). last (map (λ (e : Entry). e.log_id) es)) q) refl
          go (ends before y q) =
              by (Some y.log_id) (ends_at u U k before y q)
              (not_above x y.log_id named (named_at u U k before y q) (behind_all (IsUnder x) before (y ∷ []) (subst (AllByRecursion (IsUnder x)) q (whole_keeps (IsUnder x) U.store (h.within.nodes u U k).store))).0)
