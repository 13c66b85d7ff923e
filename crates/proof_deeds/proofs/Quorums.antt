-- The effective membership of an engine is the ideal one, and a quorum of its voters is an ideal one.
use Rattle.std.proofs.Common.{ℕ, zero, suc, ◌+◌, ◌*◌, ◌<◌, ◌≤◌, ◌≡◌, ◌≢◌, ◌⊎◌, inl, inr, ⊎_elim, Bool, true, false, cond, List, [], ◌∷◌, ◌++◌, length, take, get_or, arith, refl, sym, ap, ◌∙◌, subst, true≢false, Option, None, Some, append-nil}
use Rattle.std.specs.Prelude.{is_some}
use Rattle.std.specs.List.{count_by}
use Rattle.std.specs.Ordering.{nat_cmp}
use Rattle.std.proofs.lemmas.Bool.{and_parts, ltb-true}
use Rattle.std.proofs.lemmas.List.{length-map, take_all, take_more}
use Rattle.std.proofs.lemmas.List.Sums.{sum_by-cons}
use Rattle.raft_node.specs.raft_state.declared.membership.Members.{Members}
use Rattle.raft_node.specs.raft_state.declared.membership.StoredMembership.{StoredMembership}
use Rattle.raft_node.specs.raft_state.Same.{nat_same}
use Rattle.raft_node.specs.raft_state.Sorted.{has_id}
use Rattle.raft_node.specs.raft_progress.Quorum.{is_majority, is_quorum}
use Rattle.raft_node.specs.raft_progress.QuorumLaws.{contains_from_has}
use Rattle.raft_node.specs.raft_steps.FollowingHandler.{memberships_in}
use Rattle.raft_node.proofs.raft_proposer_proofs.Elements.{In, contains_in}
use Rattle.proof_agreement.specs.LeaderNumbers.{leader_node}
use Rattle.proof_agreement.specs.Machine.{Setup, IsQuorum, IsMajority, IsMajorityOfEach, count, last_membership}
use Rattle.proof_agreement.specs.Stores.{entry_at, effective_membership_of}
use Rattle.proof_agreement.specs.Deeds.{last_membership_of}
use Rattle.raft_node.specs.raft_store.declared.entry.Entry.{Entry}
use Rattle.raft_node.specs.raft_store.Entries.{entry_meaning, members_of}
use Rattle.raft_node.specs.raft_store.Mirror.{none, last_two, ends}
use Rattle.proof_mirror.proofs.Ends.{ends-append, memberships-append}
use Rattle.proof_deeds.specs.Images.{IsWellFormedEntry, EntriesFit, head_group, tail_groups, groups_in, image, images, setup_of}

-- what a setup of the world's entries says, whichever of the two rules for groups it has
pub record Means (s : Setup Entry) : Type 0 where
  pub owner : s.owner ≡ leader_node
  pub is_membership : (e : Entry) → s.is_membership e ≡ is_some (members_of e.payload)
  pub first_group : (e : Entry) → s.first_group e ≡ head_group (groups_in e.payload)
  pub other_groups : (e : Entry) → s.other_groups e ≡ tail_groups (groups_in e.payload)

pub means_setup : (first : Members ℕ (Unit {0})) → Means (setup_of first)
means_setup first = record { owner = refl; is_membership = λ e. refl; first_group = λ e. refl; other_groups = λ e. refl }

-- Quorums

pub counts : (q : ℕ → Bool) (g : List ℕ) → count q g ≡ count_by q g
counts q [] = refl
counts q (x ∷ xs) = go (q x) (counts q xs) ∙ sym (sum_by-cons (λ y. cond (q y) 1 0) x xs) where
  go : (b : Bool) → count q xs ≡ count_by q xs → cond b (suc (count q xs)) (count q xs) ≡ cond b 1 0 + count_by q xs
  go true h = omega (arith, h)
  go false h = omega (arith, h)

majority : (ids group : List ℕ) → is_majority nat_cmp group ids ≡ true → IsMajority (has_id nat_cmp ids) group
majority ids group e =
    let l : length group < 2 * count_by (has_id nat_cmp ids) group = ltb-true _ _ e in
    let c : count (has_id nat_cmp ids) group ≡ count_by (has_id nat_cmp ids) group = counts (has_id nat_cmp ids) group in
    omega (arith, l, c)

majorities : (ids : List ℕ) (groups : List (List ℕ)) → is_quorum nat_cmp groups ids ≡ true → IsMajorityOfEach (has_id nat_cmp ids) groups
majorities ids [] e = tt
majorities ids (g ∷ gs) e = let p : (is_majority nat_cmp g ids ≡ true) × (is_quorum nat_cmp gs ids ≡ true) = and_parts (is_majority nat_cmp g ids) (is_quorum nat_cmp gs ids) e in (majority ids g p.0, majorities ids gs p.1)

-- who is among some ids
abbrev pub among : List ℕ → ℕ → Bool
among ids m = has_id nat_cmp ids m

-- whoever is among them is an element
pub among_in : (ids : List ℕ) (m : ℕ) → among ids m ≡ true → In m ids
among_in ids m e = contains_in ids m (contains_from_has nat_cmp nat_same ids m e)

module _ (s : Setup Entry) (means : Means s) where
  -- where there is a group
  pub quorum_is : (x : Entry) (g : List ℕ) (gs : List (List ℕ)) (ids : List ℕ) → groups_in x.payload ≡ g ∷ gs → is_quorum nat_cmp (g ∷ gs) ids ≡ true → IsQuorum s x (has_id nat_cmp ids)
  quorum_is x g gs ids e q =
      let m : IsMajorityOfEach (has_id nat_cmp ids) (g ∷ gs) = majorities ids (g ∷ gs) q in
      record {
        first = subst (IsMajority (has_id nat_cmp ids)) (sym (means.first_group x ∙ ap head_group e)) m.0;
        rest = subst (IsMajorityOfEach (has_id nat_cmp ids)) (sym (means.other_groups x ∙ ap tail_groups e)) m.1;
      }

  -- Effective memberships

  -- the last membership among entries
  abbrev pub last_among : List Entry → StoredMembership ℕ (Unit {0})
  last_among es = (last_two (memberships_in entry_meaning es)).1

  -- where it stands in the ideal log
  abbrev pub place : List Entry → ℕ → ℕ
  place es k = last_membership s (entry_at s (images es)) k

  pub payload_at : (es : List Entry) (k : ℕ) (e : Entry) → k < length es → (entry_at s (images es) k).payload ≡ get_or es k e
  payload_at [] k e l = absurd (omega (arith, l))
  payload_at (x ∷ xs) zero e l = refl
  payload_at (x ∷ xs) (suc k) e l = payload_at xs k e (omega (arith, l))

  last_more : (es : List Entry) (e : Entry) → members_of e.payload ≡ None → last_among (es ++ e ∷ []) ≡ last_among es
  last_more es e h =
      let q : memberships_in entry_meaning (e ∷ []) ≡ [] = rw h refl in
      ap (λ ms. (last_two ms).1) (memberships-append entry_meaning es (e ∷ []) ∙ (ap (λ ms. memberships_in entry_meaning es ++ ms) q ∙ append-nil (memberships_in entry_meaning es)))

  last_new : (es : List Entry) (e : Entry) (m : Members ℕ (Unit {0})) → members_of e.payload ≡ Some m → last_among (es ++ e ∷ []) ≡ record { log_id = Some e.log_id; membership = m }
  last_new es e m h =
      let r : StoredMembership ℕ (Unit {0}) = record { log_id = Some e.log_id; membership = m } in
      let q : memberships_in entry_meaning (e ∷ []) ≡ record { log_id = Some e.log_id; membership = m } ∷ [] = rw h refl in
      ap (λ ms. (last_two ms).1) (memberships-append entry_meaning es (e ∷ []) ∙ ap (λ ms. memberships_in entry_meaning es ++ ms) q)
      ∙ ap (λ p. p.1) (ends-append none none (memberships_in entry_meaning es) (record { log_id = Some e.log_id; membership = m } ∷ []))

  -- behind a first membership there is always one
  ends_some : (c e : StoredMembership ℕ (Unit {0})) (es : List Entry) → is_some e.log_id ≡ true → is_some (ends c e (memberships_in entry_meaning es)).1.log_id ≡ true
  ends_some c e [] h = h
  ends_some c e (x ∷ es) h = go (members_of x.payload) refl (ends_some c e es h) (λ m. ends_some e (record { log_id = Some x.log_id; membership = m }) es refl) where
    go : (o : Option (Members ℕ (Unit {0}))) → members_of x.payload ≡ o → is_some (ends c e (memberships_in entry_meaning es)).1.log_id ≡ true
        → ((m : Members ℕ (Unit {0})) → is_some (ends e (record { log_id = Some x.log_id; membership = m }) (memberships_in entry_meaning es)).1.log_id ≡ true)
        → is_some (ends c e (memberships_in entry_meaning (x ∷ es))).1.log_id ≡ true
    go None q k f = rw q k
    go (Some m) q k f = rw q (f m)

  pub some_among : (e : Entry) (es : List Entry) (m : Members ℕ (Unit {0})) → members_of e.payload ≡ Some m → last_among (e ∷ es) ≢ none
  some_among e es m h z =
      let q : is_some (ends none none (memberships_in entry_meaning (e ∷ es))).1.log_id ≡ true = rw h (ends_some none (record { log_id = Some e.log_id; membership = m }) es refl) in
      true≢false (sym q ∙ ap (λ (y : StoredMembership ℕ (Unit {0})). is_some y.log_id) z)

  -- there is none, or the ideal one has its groups and stands where its id says
  pub record Placed (es : List Entry) (k : ℕ) (m : StoredMembership ℕ (Unit {0})) : Type 0 where
    pub within : place es k < k
    pub groups : groups_in (entry_at s (images es) (place es k)).payload.payload ≡ m.membership.groups
    pub id : m.log_id ≡ Some (entry_at s (images es) (place es k)).payload.log_id
    pub holds : members_of (entry_at s (images es) (place es k)).payload.payload ≡ Some m.membership

  placed : (es : List Entry) (k : ℕ) → k ≤ length es → ((last_among (take k es) ≡ none) × (place es k ≡ 0)) ⊎ Placed es k (last_among (take k es))
  placed es zero l = inl (refl, refl)
  placed es (suc k) l = go (members_of e.payload) refl (placed es k (omega (arith, l))) where
    e : Entry
    e = (entry_at s (images es) k).payload

    more : take (suc k) es ≡ take k es ++ e ∷ []
    more =
        let w : k < length es = omega (arith, l) in
        ap (λ i. take i es) (let z : suc k ≡ k + 1 = omega arith in z) ∙ (take_more es k e w ∙ ap (λ x. take k es ++ x ∷ []) (sym (payload_at es k e w)))

    go : (o : Option (Members ℕ (Unit {0}))) → members_of e.payload ≡ o → ((last_among (take k es) ≡ none) × (place es k ≡ 0)) ⊎ Placed es k (last_among (take k es)) → ((last_among (take (suc k) es) ≡ none) × (place es (suc k) ≡ 0)) ⊎ Placed es (suc k) (last_among (take (suc k) es))
    go None h old =
        let b : s.is_membership e ≡ false = means.is_membership e ∙ ap is_some h in
        let a : last_among (take k es) ≡ last_among (take (suc k) es) = sym (ap last_among more ∙ last_more (take k es) e h) in
        let q : place es k ≡ place es (suc k) = sym (ap (λ c. cond c k (place es k)) b) in
        ⊎_elim (λ p. inl (sym a ∙ p.0, sym q ∙ p.1))
        (λ p. inr (record {
          within = omega (arith, p.within, q);
          groups = subst (λ i. groups_in (entry_at s (images es) i).payload.payload ≡ (last_among (take (suc k) es)).membership.groups) q (p.groups ∙ ap (λ m. m.membership.groups) a);
          id = subst (λ i. (last_among (take (suc k) es)).log_id ≡ Some (entry_at s (images es) i).payload.log_id) q (ap (λ m. m.log_id) (sym a) ∙ p.id);
          holds = subst (λ i. members_of (entry_at s (images es) i).payload.payload ≡ Some (last_among (take (suc k) es)).membership) q (p.holds ∙ ap (λ m. Some m.membership) a);
        }))
        old
    go (Some m) h old =
        let b : s.is_membership e ≡ true = means.is_membership e ∙ ap is_some h in
        let q : k ≡ place es (suc k) = sym (ap (λ c. cond c k (place es k)) b) in
        let a : last_among (take (suc k) es) ≡ record { log_id = Some e.log_id; membership = m } = ap last_among more ∙ last_new (take k es) e m h in
        inr (record {
          within = omega (arith, q);
          groups = subst (λ i. groups_in (entry_at s (images es) i).payload.payload ≡ (last_among (take (suc k) es)).membership.groups) q (ap (λ o. elim o as (λ _. List (List ℕ)) [ None ↦ [] | Some m ↦ m.groups ]) h ∙ ap (λ m. m.membership.groups) (sym a));
          id = subst (λ i. (last_among (take (suc k) es)).log_id ≡ Some (entry_at s (images es) i).payload.log_id) q (ap (λ m. m.log_id) a);
          holds = subst (λ i. members_of (entry_at s (images es) i).payload.payload ≡ Some (last_among (take (suc k) es)).membership) q (h ∙ ap (λ m. Some m.membership) (sym a));
        })

  -- of a whole log
  pub effective_is : (es : List Entry) → ((last_among es ≡ none) × (last_membership_of s (images es) ≡ 0)) ⊎ Placed es (length es) (last_among es)
  effective_is es =
      let n : length (images es) ≡ length es = length-map es image in
      let a : take (length es) es ≡ es = take_all (length es) es (omega arith) in
      ⊎_elim (λ p. inl (ap last_among (sym a) ∙ p.0, ap (place es) n ∙ p.1)) (λ p. inr (subst (λ xs. Placed es (length es) (last_among xs)) a p)) (placed es (length es) (omega arith))

  pub effective_groups : (es : List Entry) → Placed es (length es) (last_among es) → groups_in (effective_membership_of s (images es)).payload ≡ (last_among es).membership.groups
  effective_groups es p = ap (λ k. groups_in (entry_at s (images es) (place es k)).payload.payload) (length-map es image) ∙ p.groups

  slot_fits : (es : List Entry) (i : ℕ) (d : Entry) → i < length es → EntriesFit s es → IsWellFormedEntry s (get_or es i d)
  slot_fits [] i d l a = absurd (omega (arith, l))
  slot_fits (e ∷ es) zero d l a = a.0
  slot_fits (e ∷ es) (suc i) d l a = slot_fits es i d (omega (arith, l)) a.1

  -- a quorum of the effective membership, where there is one
  pub effective_quorum : (es : List Entry) (m : StoredMembership ℕ (Unit {0})) (ids : List ℕ) → EntriesFit s es → m ≡ last_among es → m ≢ none
      → is_quorum nat_cmp m.membership.groups ids ≡ true → IsQuorum s (effective_membership_of s (images es)) (among ids)
  effective_quorum es m ids a e there_is q =
      ⊎_elim (λ p. absurd (there_is (e ∙ p.0)))
      (λ p. go m.membership.groups (effective_groups es p ∙ ap (λ (y : StoredMembership ℕ (Unit {0})). y.membership.groups) (sym e)) p q) (effective_is es)
    where
      x : Entry
      x = effective_membership_of s (images es)

      there : (entry_at s (images es) (place es (length es))).payload ≡ x
      there = ap (λ k. (entry_at s (images es) (place es k)).payload) (sym (length-map es image))

      fits : Placed es (length es) (last_among es) → IsWellFormedEntry s x
      fits p = subst (IsWellFormedEntry s) (sym (payload_at es (place es (length es)) x p.within) ∙ there) (slot_fits es (place es (length es)) x p.within a)

      marked : Placed es (length es) (last_among es) → s.is_membership x ≡ true
      marked p = means.is_membership x ∙ ap is_some (ap (λ (y : Entry). members_of y.payload) (sym there) ∙ p.holds)

      go : (gs : List (List ℕ)) → groups_in x.payload ≡ gs → Placed es (length es) (last_among es) → is_quorum nat_cmp gs ids ≡ true → IsQuorum s x (among ids)
      go [] h p q =
          let z : length (groups_in x.payload) ≡ 0 = ap (λ gs. length gs) h in
          absurd (omega (arith, (fits p).groups (marked p), z))
      go (g ∷ gs) h p q = quorum_is x g gs ids h q
