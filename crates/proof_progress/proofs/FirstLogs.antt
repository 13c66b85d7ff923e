-- Where no log has an entry of an elected leader, all logs have the first membership, and of its voters one has the greatest log.
use Rattle.std.proofs.Common.{ℕ, ◌<◌, ◌≡◌, ◌≢◌, ◌⊎◌, ◌∙◌, inl, inr, ⊎_elim, true, List, [], ◌∷◌, filter, map, ap, arith, refl, sym, subst, Option, None, Some}
use Rattle.std.specs.Prelude.{slice_get}
use Rattle.std.specs.List.{AllByRecursion, cons_option}
use Rattle.std.specs.Ordering.{is_le, nat_cmp}
use Rattle.std.proofs.lemmas.List.Elements.{All-contains, All-from_recursion}
use Rattle.proof_deeds.specs.raft_state.declared.ids.LogId.{LogId}
use Rattle.proof_deeds.specs.raft_state.declared.membership.Members.{Members}
use Rattle.proof_deeds.specs.raft_state.declared.membership.StoredMembership.{StoredMembership}
use Rattle.proof_deeds.specs.raft_state.Log.{last}
use Rattle.proof_deeds.specs.raft_state.Members.{no_members, voter_ids}
use Rattle.proof_deeds.specs.raft_state.Order.{last_id_cmp}
use Rattle.proof_deeds.specs.raft_state.Sorted.{has_id}
use Rattle.proof_deeds.specs.raft_steps.FollowingHandler.{memberships_in, stored_in}
use Rattle.proof_deeds.specs.raft_store.declared.entry.Entry.{Entry}
use Rattle.proof_deeds.specs.raft_store.declared.entry.Payload.{Payload}
use Rattle.proof_deeds.specs.raft_store.declared.entry.Payload.TheVariants as payload
use Rattle.proof_deeds.specs.raft_store.Built.{last_membership}
use Rattle.proof_deeds.specs.raft_store.Entries.{entry_meaning}
use Rattle.proof_deeds.specs.raft_store.Mirror.{last_two}
use Rattle.proof_deeds.specs.raft_store.Store.{whole}
use Rattle.proof_deeds.proofs.proof_mirror_proofs.Ends.{Each, ends_each}
use Rattle.proof_deeds.specs.raft_schedule.declared.event.Event.{Event}
use Rattle.proof_deeds.specs.raft_calls.Elections.{first_entry}
use Rattle.proof_deeds.specs.raft_node.declared.given.Given.{Given}
use Rattle.proof_deeds.specs.raft_node.Net.{Net, NodeView}
use Rattle.proof_deeds.specs.raft_node.Runs.{world_after}
use Rattle.proof_deeds.specs.raft_node.WellFormed.{IsWellFormed}
use Rattle.proof_deeds.specs.Images.{number}
use Rattle.proof_progress.specs.Changes.{FindsStored, HasGreatestLog}
use Rattle.proof_progress.specs.Continuations.{At}
use Rattle.proof_progress.specs.Elections.{Listed, log_end, members}
use Rattle.proof_progress.specs.GoesOn.{found}
use Rattle.proof_progress.proofs.Choosing.{Best, best, find_at, has_of_listed, listed_at, listed_of_has}
use Rattle.proof_progress.proofs.Chosen.{at_contains}
use Rattle.proof_progress.proofs.EntriesKept.{NetOf, NodeOf}
use Rattle.proof_progress.proofs.EntriesStored.{whole_keeps}
use Rattle.proof_progress.proofs.Finding.{starts_first}
use Rattle.proof_progress.proofs.Greatest.{EndsOrNot, ends, ends_at, ends_or_not, finds_at, none}
use Rattle.proof_progress.proofs.MembershipsLed.{Keeps, all_proposed}
use Rattle.proof_progress.proofs.Top.{IsFirst, Within}
use Rattle.proof_progress.proofs.Voters.{from_filter, to_filter}

-- Memberships

-- the membership that is in effect by some entries
abbrev members_by : List Entry → Members ℕ (Unit {0})
members_by es = (last_membership entry_meaning es).membership

module _ (first : Members ℕ (Unit {0})) where
  -- a membership is the first one, or of an elected leader
  abbrev PayloadKnown : LogId ℕ → Payload → Type 0
  PayloadKnown x payload.Blank = Unit {0}
  PayloadKnown x (payload.Value v) = Unit {0}
  PayloadKnown x (payload.Membership m) = (m ≡ first) ⊎ (0 < number x.leader_id)

  abbrev IsKnown : Entry → Type 0
  IsKnown e = PayloadKnown e.log_id e.payload

  -- it is the first one
  abbrev IsTheFirst : StoredMembership ℕ (Unit {0}) → Type 0
  IsTheFirst m = m.membership ≡ first

  all_first : (es : List Entry) → AllByRecursion IsKnown es → AllByRecursion IsFirst es → Each IsTheFirst (memberships_in entry_meaning es)
  all_first [] h k = tt
  all_first (e ∷ es) h k = go e.payload h.0 k.0 (all_first es h.1 k.1)
    where
      go : (p : Payload) → PayloadKnown e.log_id p → IsFirst e → Each IsTheFirst (memberships_in entry_meaning es)
          → Each IsTheFirst (cons_option (stored_in entry_meaning (record { log_id = e.log_id; payload = p })) (memberships_in entry_meaning es))
      go payload.Blank a l r = r
      go (payload.Value v) a l r = r
      go (payload.Membership m) (inl q) l r = (q, r)
      go (payload.Membership m) (inr p) l r = absurd (omega (arith, p, l))

  -- so it is in effect where a log begins with it
  in_effect : (es : List Entry) → AllByRecursion IsKnown es → AllByRecursion IsFirst es → members_by (first_entry first ∷ es) ≡ first
  in_effect es h k = go (memberships_in entry_meaning es) (all_first es h k)
    where
      x : LogId ℕ
      x = (first_entry first).log_id

      go : (ms : List (StoredMembership ℕ (Unit {0}))) → Each IsTheFirst ms → IsTheFirst (last_two (record { log_id = Some x; membership = first } ∷ ms)).1
      go [] r = refl
      go (m ∷ ms) r = (ends_each IsTheFirst (record { log_id = Some x; membership = first }) m ms refl r.0 r.1).1

-- In such a world

module _ (given : Given) (wf : IsWellFormed given) (past : List Event) (kept : AllByRecursion Keeps past) (low : Within IsFirst 0 (world_after given past)) where
  abbrev net : Net (List Entry)
  net = world_after given past

  abbrev end_of : NodeView → Option (LogId ℕ)
  end_of N = log_end (found given N)

  known : NetOf (IsKnown given.membership) (world_after given past)
  known = all_proposed given wf (IsKnown given.membership) (record { blank = λ x. tt; value = λ x v. tt }) (inl refl) (λ n e l k groups learners h. inr k.positive) past kept

  -- a node that has a log finds the first membership
  finds_first : (id : ℕ) (N : NodeView) → At net.nodes id N → (whole N.store ≡ []) ⊎ (members (found given N) ≡ given.membership)
  finds_first id N at = go (whole N.store) refl
    where
      node : NodeOf (IsKnown given.membership) N
      node = All-contains (NodeOf (IsKnown given.membership)) (world_after given past).nodes N (All-from_recursion (NodeOf (IsKnown given.membership)) (world_after given past).nodes known.nodes) (at_contains (world_after given past).nodes id N at)

      go : (es : List Entry) → whole N.store ≡ es → (whole N.store ≡ []) ⊎ (members (found given N) ≡ given.membership)
      go [] q = inl q
      go (x ∷ es) q =
          let is : x ≡ first_entry given.membership = starts_first given wf past id N at x (ap (λ (ys : List Entry). slice_get ys 0) q) in
          let begun : whole N.store ≡ first_entry given.membership ∷ es = q ∙ ap (λ y. y ∷ es) is in
          let k : AllByRecursion (IsKnown given.membership) (first_entry given.membership ∷ es) = subst (AllByRecursion (IsKnown given.membership)) begun (whole_keeps (IsKnown given.membership) N.store node.store) in
          let f : AllByRecursion IsFirst (first_entry given.membership ∷ es) = subst (AllByRecursion IsFirst) begun (whole_keeps IsFirst N.store (low.nodes id N at).store) in
          inr ((finds_at given wf past id N at).0 ∙ (ap members_by begun ∙ in_effect given.membership es k.1 f.1))

  finds_empty : (id : ℕ) (N : NodeView) → At net.nodes id N → whole N.store ≡ [] → (members (found given N) ≡ no_members) × (end_of N ≡ None)
  finds_empty id N at q = let F : FindsStored given N = finds_at given wf past id N at in (F.0 ∙ ap members_by q, F.1 ∙ ap (λ (es : List Entry). last (map (λ (e : Entry). e.log_id) es)) q)

  module _ (t : ℕ) (T : NodeView) (at : At net.nodes t T) (votes : Listed (voter_ids nat_cmp (members (found given T))) t) where
    -- the voters of the first membership
    abbrev present : List ℕ
    present = filter (has_id nat_cmp (voter_ids nat_cmp given.membership)) (map (λ N. N.id) net.nodes)

    some : whole T.store ≢ []
    some q = let w : Listed (voter_ids {N = Unit {0}} nat_cmp no_members) t = subst (λ (m : Members ℕ (Unit {0})). Listed (voter_ids nat_cmp m) t) (finds_empty t T at q).0 votes in absurd w

    first_is : members (found given T) ≡ given.membership
    first_is = ⊎_elim (λ q. absurd (some q)) (λ q. q) (finds_first t T at)

    there : Listed present t
    there =
        to_filter (has_id nat_cmp (voter_ids nat_cmp given.membership)) (map (λ N. N.id) net.nodes) t (listed_at net.nodes t T at)
        (has_of_listed (voter_ids nat_cmp given.membership) t (subst (λ (m : Members ℕ (Unit {0})). Listed (voter_ids nat_cmp m) t) first_is votes))

    greatest : Best net.nodes end_of present
    greatest = go present refl there
      where
        go : (ids : List ℕ) → ids ≡ present → Listed ids t → Best net.nodes end_of ids
        go [] e h = absurd h
        go (x ∷ ids) e h =
            best net.nodes end_of x ids
            (λ u k. find_at net.nodes u (from_filter (has_id nat_cmp (voter_ids nat_cmp given.membership)) (map (λ N. N.id) net.nodes) u (subst (λ xs. Listed xs u) e k)).0)

    -- the greatest has a log, as one of them has
    has_log : whole greatest.node.store ≢ []
    has_log q = go (ends_or_not (whole T.store))
      where
        none_below : (a : Option (LogId ℕ)) → is_le (last_id_cmp nat_cmp a None) ≡ true → a ≡ None
        none_below None e = refl
        none_below (Some x) e = cc

        bare : end_of T ≡ None
        bare = none_below (end_of T) (subst (λ o. is_le (last_id_cmp nat_cmp (end_of T) o) ≡ true) (finds_empty greatest.n greatest.node greatest.at q).1 (greatest.top t T there at))

        go : EndsOrNot (whole T.store) → ⊥
        go (none z) = some z
        go (ends before y z) = let w : ◌≡◌ {A = Option (LogId ℕ)} (Some y.log_id) None = sym (ends_at given wf past t T at before y z) ∙ bare in cc

    knows : members (found given greatest.node) ≡ given.membership
    knows = ⊎_elim (λ q. absurd (has_log q)) (λ q. q) (finds_first greatest.n greatest.node greatest.at)

    n_is : Listed (map (λ N. N.id) net.nodes) greatest.n × (has_id nat_cmp (voter_ids nat_cmp given.membership) greatest.n ≡ true)
    n_is = from_filter (has_id nat_cmp (voter_ids nat_cmp given.membership)) (map (λ N. N.id) net.nodes) greatest.n greatest.one

    pub first_greatest : (n : ℕ) × HasGreatestLog given (world_after given past) (map (λ N. N.id) (world_after given past).nodes) n
    first_greatest = (
      greatest.n,
      record {
        one = n_is.0;
        node = greatest.node;
        at = greatest.at;
        votes = subst (λ (m : Members ℕ (Unit {0})). Listed (voter_ids nat_cmp m) greatest.n) (sym knows) (listed_of_has (voter_ids nat_cmp given.membership) greatest.n n_is.1);
        top = λ u U h k.
            let f = from_filter (has_id nat_cmp (voter_ids nat_cmp (members (found given greatest.node)))) (map (λ N. N.id) net.nodes) u h in
            greatest.top u U (to_filter (has_id nat_cmp (voter_ids nat_cmp given.membership)) (map (λ N. N.id) net.nodes) u f.0 (subst (λ (m : Members ℕ (Unit {0})). has_id nat_cmp (voter_ids nat_cmp m) u ≡ true) knows f.1)) k;
      },
    )
