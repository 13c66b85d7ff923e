-- What a leader decides was chosen by it at its node's store then.
use Rattle.std.proofs.Common.{ℕ, zero, suc, ◌+◌, ◌<◌, ◌≤◌, ◌≡◌, ◌⊎◌, inl, inr, ⊎_elim, Bool, true, false, cond, List, [], ◌∷◌, ◌++◌, length, arith, refl, sym, ap, ap₂, ◌∙◌, subst, true≢false, Some}
use Rattle.std.specs.Prelude.{Contains, filter, slice_get}
use Rattle.std.specs.List.{AllByRecursion, count_by}
use Rattle.std.specs.Ordering.{nat_cmp}
use Rattle.std.proofs.lemmas.Bool.{lt-ltb}
use Rattle.std.proofs.lemmas.Cmp.{nat_cmp_total}
use Rattle.std.proofs.lemmas.List.{length-map}
use Rattle.raft_node.specs.raft_state.declared.ids.LeaderId.{LeaderId}
use Rattle.raft_node.specs.raft_state.declared.ids.LogId.{LogId}
use Rattle.raft_node.specs.raft_state.declared.ids.Vote.{Vote}
use Rattle.raft_node.specs.raft_state.declared.membership.Members.{Members}
use Rattle.raft_node.specs.raft_state.declared.membership.StoredMembership.{StoredMembership}
use Rattle.raft_node.specs.raft_state.Log.{at}
use Rattle.raft_node.specs.raft_state.LogLaws.{IsRun, at-run}
use Rattle.raft_node.specs.raft_state.Same.{nat_same}
use Rattle.raft_node.specs.raft_state.Sorted.{has_id}
use Rattle.raft_node.proofs.raft_state_proofs.StateLaws.{is_found_at}
use Rattle.raft_node.specs.raft_progress.Quorum.{is_majority, is_quorum}
use Rattle.raft_node.specs.raft_progress.QuorumLaws.{has_from_contains}
use Rattle.raft_node.specs.raft_command.declared.replication.ReplicationSessionId.{ReplicationSessionId}
use Rattle.raft_node.proofs.raft_proposer_proofs.Elements.{In}
use Rattle.proof_agreement.specs.Machine.{IsMajority, IsMajorityOfEach, IsQuorum, count, start}
use Rattle.proof_agreement.specs.Stores.{effective_membership_of, entry_at, whole}
use Rattle.proof_agreement.specs.Deeds.{HasAccepted, MayCommitByQuorum}
use Rattle.proof_agreement.proofs.StoresBridge.{accepted_own}
use Rattle.raft_node.specs.raft_store.declared.entry.Entry.{Entry}
use Rattle.raft_node.specs.raft_store.Entries.{entry_meaning}
use Rattle.raft_node.specs.raft_store.Store as store
use Rattle.raft_node.specs.raft_store.Types.{WorldStore}
use Rattle.proof_mirror.specs.Ready.{Shaped}
use Rattle.raft_node.specs.raft_calls.declared.message.Message.{Message}
use Rattle.raft_node.specs.declared.record.Decided.{Decided}
use Rattle.raft_node.specs.Chosen.{Acknowledges, AcknowledgedUpTo, effective_in}
use Rattle.proof_deeds.specs.Chains.{IsAcknowledged, IsAcknowledgement, Reached}
use Rattle.proof_deeds.specs.Follows.{SessionIs, StoreIs}
use Rattle.proof_deeds.specs.Images.{Ideal, IdealEntry, groups_in, head_group, tail_groups, image, images, number, setup_of}
use Rattle.proof_deeds.proofs.Numbers.{number_same, one_leader_reaches}
use Rattle.proof_deeds.proofs.Quorums.{counts, effective_groups, effective_is, last_among, means_setup}
use Rattle.proof_deeds.proofs.Runs.{AllAcknowledged, ids_in, whole_runs}
use Rattle.proof_deeds.proofs.Tails.{entry_of_id, named_of_id, whole_fit, whole_is}
use Rattle.proof_deeds.proofs.Worlds.{stores_follow}

-- Quorums: who passes a test, as a list

in_contains : (xs : List ℕ) (k : ℕ) → In k xs → Contains xs k
in_contains [] k h = absurd h
in_contains (x ∷ xs) k h =
    ⊎_elim (λ (q : x ≡ k). (0, omega arith, q)) (λ (i : In k xs). let c : Contains xs k = in_contains xs k i in (suc c.0, omega (arith, c.1), c.2)) h

-- all of some groups that pass
abbrev picked : (ℕ → Bool) → List (List ℕ) → List ℕ
picked q [] = []
picked q (g ∷ gs) = filter q g ++ picked q gs

in_left : (m : ℕ) (xs ys : List ℕ) → In m xs → In m (xs ++ ys)
in_left m [] ys i = absurd i
in_left m (x ∷ xs) ys i = ⊎_elim (λ (e : x ≡ m). inl e) (λ (k : In m xs). inr (in_left m xs ys k)) i

in_right : (m : ℕ) (xs ys : List ℕ) → In m ys → In m (xs ++ ys)
in_right m [] ys i = i
in_right m (x ∷ xs) ys i = inr (in_right m xs ys i)

in_filter : (q : ℕ → Bool) (m : ℕ) (g : List ℕ) → In m g → q m ≡ true → In m (filter q g)
in_filter q m [] i h = absurd i
in_filter q m (x ∷ xs) i h = go (q x) refl (λ k. in_filter q m xs k h) where
  go : (b : Bool) → q x ≡ b → (In m xs → In m (filter q xs)) → In m (cond b (x ∷ filter q xs) (filter q xs))
  go true e f = ⊎_elim (λ (z : x ≡ m). inl z) (λ (k : In m xs). inr (f k)) i
  go false e f = ⊎_elim (λ (z : x ≡ m). absurd (true≢false (sym h ∙ (ap q (sym z) ∙ e)))) (λ (k : In m xs). f k) i

each_filtered : (P : ℕ → Type 0) (q : ℕ → Bool) (xs : List ℕ) → ((m : ℕ) → q m ≡ true → P m) → AllByRecursion P (filter q xs)
each_filtered P q [] f = tt
each_filtered P q (x ∷ xs) f = go (q x) refl (each_filtered P q xs f) where
  go : (b : Bool) → q x ≡ b → AllByRecursion P (filter q xs) → AllByRecursion P (cond b (x ∷ filter q xs) (filter q xs))
  go true e k = (f x e, k)
  go false e k = k

each_joined : (P : ℕ → Type 0) (xs ys : List ℕ) → AllByRecursion P xs → AllByRecursion P ys → AllByRecursion P (xs ++ ys)
each_joined P [] ys h k = k
each_joined P (x ∷ xs) ys h k = (h.0, each_joined P xs ys h.1 k)

each_picked : (P : ℕ → Type 0) (q : ℕ → Bool) (gs : List (List ℕ)) → ((m : ℕ) → q m ≡ true → P m) → AllByRecursion P (picked q gs)
each_picked P q [] f = tt
each_picked P q (g ∷ gs) f = each_joined P (filter q g) (picked q gs) (each_filtered P q g f) (each_picked P q gs f)

count_less : (q r : ℕ → Bool) (g : List ℕ) → ((m : ℕ) → In m g → q m ≡ true → r m ≡ true) → count q g ≤ count r g
count_less q r [] f = omega arith
count_less q r (x ∷ xs) f = go (q x) (r x) (f x (inl refl)) (count_less q r xs (λ m i. f m (inr i))) where
  go : (a b : Bool) → (a ≡ true → b ≡ true) → count q xs ≤ count r xs → cond a (suc (count q xs)) (count q xs) ≤ cond b (suc (count r xs)) (count r xs)
  go true true k l = omega (arith, l)
  go true false k l = absurd (true≢false (sym (k refl)))
  go false true k l = omega (arith, l)
  go false false k l = l

-- a list that has all of a group that pass has a majority where they are one
majority_of : (q : ℕ → Bool) (ids g : List ℕ) → ((m : ℕ) → In m g → q m ≡ true → In m ids) → IsMajority q g → is_majority nat_cmp g ids ≡ true
majority_of q ids g f h =
    let l : count q g ≤ count (has_id nat_cmp ids) g = count_less q (has_id nat_cmp ids) g (λ m i e. has_from_contains nat_cmp nat_same nat_cmp_total ids m (in_contains ids m (f m i e))) in
    let c : count (has_id nat_cmp ids) g ≡ count_by (has_id nat_cmp ids) g = counts (has_id nat_cmp ids) g in
    lt-ltb _ _ (omega (arith, h, l, c))

quorum_of : (q : ℕ → Bool) (ids : List ℕ) (gs : List (List ℕ)) → ((m : ℕ) → In m (picked q gs) → In m ids) → IsMajorityOfEach q gs → is_quorum nat_cmp gs ids ≡ true
quorum_of q ids [] f h = refl
quorum_of q ids (g ∷ gs) f h =
    let first : is_majority nat_cmp g ids ≡ true = majority_of q ids g (λ m i e. f m (in_left m (filter q g) (picked q gs) (in_filter q m g i e))) h.0 in
    rw first (quorum_of q ids gs (λ m i. f m (in_right m (filter q g) (picked q gs) i)) h.1)

-- of the groups of an ideal membership
quorum_picked : (first : Members ℕ (Unit {0})) (x : Entry) (q : ℕ → Bool) (gs : List (List ℕ)) → groups_in x.payload ≡ gs → IsQuorum (setup_of first) x q → is_quorum nat_cmp gs (picked q gs) ≡ true
quorum_picked first x q [] e h = refl
quorum_picked first x q (g ∷ gs) e h =
    quorum_of q (picked q (g ∷ gs)) (g ∷ gs) (λ m i. i)
    (subst (IsMajority q) (ap head_group e) h.first, subst (IsMajorityOfEach q) (ap tail_groups e) h.rest)

-- the effective membership of a whole log; without one there is no group
quorum_effective : (first : Members ℕ (Unit {0})) (es : List Entry) (q : ℕ → Bool) → IsQuorum (setup_of first) (effective_membership_of (setup_of first) (images es)) q
    → is_quorum nat_cmp (last_among (setup_of first) (means_setup first) es).membership.groups (picked q (last_among (setup_of first) (means_setup first) es).membership.groups) ≡ true
quorum_effective first es q h =
    ⊎_elim
    (λ p. subst (λ (m : StoredMembership ℕ (Unit {0})). is_quorum nat_cmp m.membership.groups (picked q m.membership.groups) ≡ true) (sym p.0) refl)
    (λ p. quorum_picked first (effective_membership_of (setup_of first) (images es)) q _ (effective_groups (setup_of first) (means_setup first) es p) h)
    (effective_is (setup_of first) (means_setup first) es)

-- Ids: what stands at a place of a run

some_at : (es : List Entry) (n k : ℕ) → IsRun n (ids_in es) → k < length es → (y : LogId ℕ) × (slice_get (ids_in es) k ≡ Some y) × (y.index ≡ n + k)
some_at [] n k r l = absurd (omega (arith, l))
some_at (e ∷ es) n zero r l = (e.log_id, refl, r.0 ∙ omega arith)
some_at (e ∷ es) n (suc k) r l = let z : (y : LogId ℕ) × (slice_get (ids_in es) k ≡ Some y) × (y.index ≡ (n + 1) + k) = some_at es (n + 1) k r.1 (omega (arith, l)) in (z.0, z.1, z.2 ∙ omega arith)

-- A decision, of this store: the leader's vote is stored there, it holds the id, and a quorum of its effective membership
-- consists of its node, and of nodes that have acknowledged the id in the bag.
pub record ChosenBy (bag : List Message) (u : WorldStore) (r : Decided (List Entry)) : Type 0 where
  pub vote : u.vote ≡ record { leader_id = r.leader_id; committed = true }
  pub own : r.log_id.leader_id ≡ r.leader_id
  pub holds_it : store.holds nat_cmp entry_meaning u r.log_id ≡ true
  pub nodes : List ℕ
  pub quorum : is_quorum nat_cmp (effective_in u).groups nodes ≡ true
  pub each : AllByRecursion (λ n. (n ≡ r.leader_id.node_id) ⊎ AcknowledgedUpTo bag n r.leader_id r.log_id) nodes

-- a reply stays in a bag that grows
replied_on : (a b : List Message) (n : ℕ) (d : LeaderId ℕ) (x : LogId ℕ) → ((m : Message) → Contains a m → Contains b m) → AcknowledgedUpTo a n d x → AcknowledgedUpTo b n d x
replied_on a b n d x f r = record { message = r.message; sent = f r.message r.sent; from = r.from; upto = r.upto; reaches = r.reaches; acknowledges = r.acknowledges }

each_same : (P Q : ℕ → Type 0) (xs : List ℕ) → ((n : ℕ) → P n → Q n) → AllByRecursion P xs → AllByRecursion Q xs
each_same P Q [] f h = tt
each_same P Q (x ∷ xs) f h = (f x h.0, each_same P Q xs f h.1)

pub chosen_on : (a b : List Message) (u : WorldStore) (r : Decided (List Entry)) → ((m : Message) → Contains a m → Contains b m) → ChosenBy a u r → ChosenBy b u r
chosen_on a b u r f h = record {
  vote = h.vote;
  own = h.own;
  holds_it = h.holds_it;
  nodes = h.nodes;
  quorum = h.quorum;
  each = each_same (λ n. (n ≡ r.leader_id.node_id) ⊎ AcknowledgedUpTo a n r.leader_id r.log_id) (λ n. (n ≡ r.leader_id.node_id) ⊎ AcknowledgedUpTo b n r.leader_id r.log_id) h.nodes
      (λ n. ⊎_elim (λ (e : n ≡ r.leader_id.node_id). inl e) (λ (k : AcknowledgedUpTo a n r.leader_id r.log_id). inr (replied_on a b n r.leader_id r.log_id f k))) h.each;
}

module _ (first : Members ℕ (Unit {0})) (n : ℕ) (u : WorldStore) (W : Ideal) (reached : Reached (setup_of first) W) (h : StoreIs (setup_of first) u (W.store n)) (z : Shaped entry_meaning u) (p : ReplicationSessionId ℕ) (g : SessionIs n p (W.store n))
    (bag : List Message) (a : AllAcknowledged W bag) (r : Decided (List Entry)) (by : r.leader_id ≡ p.vote.leader_id) (own : r.log_id.leader_id ≡ r.leader_id) (q : ℕ → Bool) (m : MayCommitByQuorum (setup_of first) W n r.log_id.index q) where
  whole_of : whole (W.store n) ≡ images (store.whole u)
  whole_of = whole_is (setup_of first) u (W.store n) h z

  vote_is : (W.store n).vote ≡ number p.vote.leader_id
  vote_is = sym m.streams.session ∙ g.leader

  same_leader : u.vote.leader_id ≡ p.vote.leader_id
  same_leader = number_same u.vote.leader_id p.vote.leader_id h.vote_named g.named (sym h.vote ∙ vote_is)

  inside : r.log_id.index < length (store.whole u)
  inside =
      let l : length (whole (W.store n)) ≡ length (images (store.whole u)) = ap (λ (xs : List IdealEntry). length xs) whole_of in
      let k : length (images (store.whole u)) ≡ length (store.whole u) = length-map (store.whole u) image in
      omega (arith, m.inside, l, k)

  there : (y : LogId ℕ) × (slice_get (ids_in (store.whole u)) r.log_id.index ≡ Some y) × (y.index ≡ 0 + r.log_id.index)
  there = some_at (store.whole u) 0 r.log_id.index (whole_runs u z) inside

  -- the entry there is the decided one
  is_there : there.0 ≡ r.log_id
  is_there =
      let leader : number there.0.leader_id ≡ number p.vote.leader_id =
      sym (entry_of_id (setup_of first) (store.whole u) r.log_id.index there.0 there.1) ∙ (ap (λ (xs : List IdealEntry). (entry_at (setup_of first) xs r.log_id.index).leader) (sym whole_of) ∙ (m.own ∙ vote_is)) in
      let named = named_of_id (setup_of first) (store.whole u) r.log_id.index there.0 (whole_fit (setup_of first) u (W.store n) h z) there.1 in
      let e : there.0.leader_id ≡ r.log_id.leader_id = number_same there.0.leader_id p.vote.leader_id named g.named leader ∙ sym (own ∙ by) in
      let i : there.0.index ≡ r.log_id.index = there.2 ∙ omega arith in
      ap₂ (λ l k. let x : LogId ℕ = record { leader_id = l; index = k } in x) e i

  found : at (ids_in (store.whole u)) r.log_id.index ≡ Some r.log_id
  found =
      let k : r.log_id.index ≡ 0 + r.log_id.index = omega arith in
      ap (at (ids_in (store.whole u))) k ∙ (at-run 0 r.log_id.index (ids_in (store.whole u)) (whole_runs u z) ∙ (there.1 ∙ ap (λ x. Some x) is_there))

  -- who has accepted it has acknowledged it, or a later id of this leader's own
  replied : (k : ℕ) → HasAccepted W k (W.store n).vote r.log_id.index → AcknowledgedUpTo bag k r.leader_id r.log_id
  replied k c =
      let o : IsAcknowledged bag k c.session.leader c.last c.upto = a k c.session c.last c.upto c.sent in
      let i : IsAcknowledgement k c.session.leader c.last c.upto o.0 = o.2 in
      let e : i.leader ≡ r.leader_id = number_same i.leader p.vote.leader_id i.named g.named (i.is ∙ (c.leader ∙ vote_is)) ∙ sym by in
      let last : c.last ≡ (W.store n).vote =
      accepted_own (setup_of first) (start (setup_of first)) W (stores_follow (setup_of first) W reached) n k c.session c.last c.upto r.log_id.index m.streams.leads c.sent c.leader c.past m.own in
      let f : i.upto.leader_id ≡ r.log_id.leader_id = number_same i.upto.leader_id p.vote.leader_id i.upto_named g.named (i.last_is ∙ (last ∙ vote_is)) ∙ sym (own ∙ by) in
      record {
        message = o.0;
        sent = o.1;
        from = i.from;
        upto = i.upto;
        reaches = one_leader_reaches r.log_id i.upto (sym f) (omega (arith, c.past, i.ends));
        acknowledges = subst (λ l. Acknowledges o.0.body l i.upto) e i.acknowledges;
      }

  pub chosen_by : ChosenBy bag u r
  chosen_by = record {
    vote = ap₂ (λ l b. let v : Vote ℕ = record { leader_id = l; committed = b } in v) (same_leader ∙ sym by) (sym h.vote_committed ∙ m.streams.leads.vote_committed);
    own = own;
    holds_it = is_found_at nat_cmp nat_cmp_total nat_same (ids_in (store.whole u)) r.log_id (at (ids_in (store.whole u)) r.log_id.index) found;
    nodes = picked q (last_among (setup_of first) (means_setup first) (store.whole u)).membership.groups;
    quorum = quorum_effective first (store.whole u) q (subst (λ (xs : List IdealEntry). IsQuorum (setup_of first) (effective_membership_of (setup_of first) xs) q) whole_of m.quorum);
    each = each_picked (λ k. (k ≡ r.leader_id.node_id) ⊎ AcknowledgedUpTo bag k r.leader_id r.log_id) q (last_among (setup_of first) (means_setup first) (store.whole u)).membership.groups
        (λ k e. ⊎_elim (λ (i : k ≡ n). inl (i ∙ (sym g.own ∙ ap (λ (l : LeaderId ℕ). l.node_id) (sym by)))) (λ (c : HasAccepted W k (W.store n).vote r.log_id.index). inr (replied k c)) (m.each k e));
  }
