-- What a quorum has acknowledged to a leader is never lost (Raft paper, section 5.4: leader completeness of chosen
-- entries).
use Rattle.std.proofs.Common.{ℕ, suc, ◌+◌, ◌<◌, ◌≤◌, ◌≡◌, ◌≢◌, ◌⊎◌, inl, inr, ⊎_elim, true, false, List, [], ◌∷◌, ◌++◌, length, take, arith, refl, sym, ap, ◌∙◌, subst, Some, length-take}
use Rattle.std.specs.Prelude.{slice_get}
use Rattle.std.specs.Cmp.{tied_itself}
use Rattle.std.specs.List.{AllByRecursion}
use Rattle.std.specs.Ordering.{is_gt, is_le, nat_cmp}
use Rattle.std.proofs.lemmas.Cmp.{nat_cmp_total}
use Rattle.raft_node.specs.raft_state.declared.ids.LeaderId.{LeaderId}
use Rattle.raft_node.specs.raft_state.declared.ids.LogId.{LogId}
use Rattle.raft_node.specs.raft_state.declared.ids.Vote.{Vote}
use Rattle.raft_node.specs.raft_state.declared.membership.Members.{Members}
use Rattle.raft_node.specs.raft_state.Order.{log_id_cmp, vote_cmp}
use Rattle.raft_node.proofs.raft_state_proofs.Orders.{vote_total}
use Rattle.raft_node.specs.raft_command.declared.message.AppendEntriesResponse.{AppendEntriesResponse}
use Rattle.raft_node.specs.raft_command.Message.{is_success}
use Rattle.raft_node.specs.raft_steps.FollowingHandler.{memberships_in}
use Rattle.raft_node.proofs.raft_proposer_proofs.Elements.{In}
use Rattle.proof_agreement.specs.Machine.{Setup, Includes, IsQuorum, start as start_world}
use Rattle.proof_agreement.specs.Stores.{EstablishedLeader, empty, entry_at, whole, effective_membership_of}
use Rattle.proof_agreement.specs.Deeds.{AllMayDo, HasAccepted, run_all}
use Rattle.proof_agreement.specs.StoresLaws.{BeginsWith, IsChosen, LedWith, leader_store}
use Rattle.proof_agreement.proofs.StoresBridge.{accepted_low, begins_first}
use Rattle.proof_agreement.proofs.StoresTheorems.{all_join, chosen_complete, run_all-append}
use Rattle.raft_node.specs.raft_store.declared.entry.Entry.{Entry}
use Rattle.raft_node.specs.raft_store.Entries.{entry_meaning, members_of}
use Rattle.raft_node.specs.raft_store.Mirror.{last_two, none}
use Rattle.raft_node.specs.raft_store.Store as store
use Rattle.raft_node.specs.raft_schedule.declared.event.Event.{Event}
use Rattle.raft_node.specs.raft_calls.declared.message.Body.{Body}
use Rattle.raft_node.specs.raft_calls.declared.message.Body.TheVariants as body
use Rattle.raft_node.specs.raft_calls.declared.message.Message.{Message}
use Rattle.raft_node.specs.declared.given.Given.{Given}
use Rattle.raft_node.specs.Runs.{moment, world_after}
use Rattle.raft_node.specs.Chosen.{Acknowledges, KeepsChosen, AcknowledgedUpTo}
use Rattle.raft_node.specs.WellFormed.{IsWellFormed}
use Rattle.raft_node.specs.raft_calls.Elections.{first_entry}
use Rattle.proof_deeds.specs.Chains.{Does, Reached}
use Rattle.proof_deeds.specs.Follows.{AcceptedId, AcceptedUpTo, BodyIs, EstablishedIs, MessageIs}
use Rattle.proof_deeds.specs.Images.{Ideal, IdealEntry, IdealStore, IsNamed, number, images, setup_of, image}
use Rattle.proof_deeds.proofs.Calls.{CallLaws, WorldState}
use Rattle.proof_deeds.proofs.Quorums.{among, among_in, effective_quorum, last_among, means_setup, some_among}
use Rattle.proof_deeds.proofs.Moments.{Passed}
use Rattle.proof_deeds.proofs.Nodes.{node_found}
use Rattle.proof_deeds.proofs.Numbers.{number_below, number_node, reached_index}
use Rattle.proof_deeds.proofs.Promised.{NodeStands, one_of, within_slot}
use Rattle.proof_deeds.proofs.Runs.{EstablishedFits, found_id, ids_in, whole_runs}
use Rattle.proof_deeds.proofs.Tails.{entry_of_id, whole_fit, whole_is, images_same}
use Rattle.proof_deeds.proofs.Worldly.{world_passed}
use Rattle.proof_deeds.proofs.Worlds.{stores_follow}
use Rattle.std.proofs.lemmas.List.{take-map}
use Rattle.std.proofs.lemmas.List.Elements.{recursion_from_All}

each_in : (P : ℕ → Type 0) (x : ℕ) (xs : List ℕ) → AllByRecursion P xs → In x xs → P x
each_in P x [] a i = absurd i
each_in P x (y ∷ ys) a i = ⊎_elim (λ (e : y ≡ x). subst P e a.0) (λ (k : In x ys). each_in P x ys a.1 k) i

-- a whole log that isn't empty begins with the one first entry
begun : (s : Setup Entry) (W : Ideal) → Reached s W → (n : ℕ) → 0 < length (whole (W.store n)) → entry_at s (whole (W.store n)) 0 ≡ record { leader = 0; payload = s.first_payload }
begun s W r n l = begins_first s (start_world s) W (stores_follow s W r) n l

-- so it has a membership
has_membership : (first : Members ℕ (Unit {0})) (es : List Entry) (k : ℕ) (x : LogId ℕ) → slice_get (ids_in es) k ≡ Some x
    → (0 < length (images es) → entry_at (setup_of first) (images es) 0 ≡ record { leader = 0; payload = first_entry first }) → last_among (setup_of first) (means_setup first) es ≢ none
has_membership first [] k x e f = cc
has_membership first (e ∷ es) k x q f =
    some_among (setup_of first) (means_setup first) e es first (ap (λ (i : IdealEntry). members_of i.payload.payload) (f (omega arith)))

module _ (first : Members ℕ (Unit {0})) (W : Ideal) where
  -- the id that a reply acknowledges was accepted
  accepted_of : (m : Message) (d : LeaderId ℕ) (x : LogId ℕ) (b : Body) → BodyIs (setup_of first) m.from m.to b W → Acknowledges b d x → AcceptedId m.from d x W
  accepted_of m d x (body.AppendReply o reply prev upto) h a =
      let s : is_success reply ≡ true = subst (λ (r : AppendEntriesResponse ℕ). is_success r ≡ true) (sym a.1) refl in
      subst (λ (e : LeaderId ℕ). AcceptedId m.from e x W) a.0 (subst (λ u. AcceptedUpTo m.from o.session_id.vote u W) a.2 (h.success s))
  accepted_of m d x (body.SnapshotReply o reply upto) h a =
      let s : is_gt (vote_cmp nat_cmp reply.vote o.session_id.vote) ≡ false = ap (λ (v : Vote ℕ). is_gt (vote_cmp nat_cmp v o.session_id.vote)) a.1 ∙ ap is_gt (tied_itself (vote_total nat_cmp nat_cmp_total) o.session_id.vote) in
      subst (λ (e : LeaderId ℕ). AcceptedId m.from e x W) a.0 (subst (λ u. AcceptedUpTo m.from o.session_id.vote u W) a.2 (h.success s))
  accepted_of m d x (body.VoteRequest req) h a = absurd a
  accepted_of m d x (body.VoteReply resp) h a = absurd a
  accepted_of m d x (body.AppendRequest o prev es told) h a = absurd a
  accepted_of m d x (body.SnapshotRequest o snapshot) h a = absurd a

  -- an id at or above one of the leader's own is of the leader's own, since no id of its log is of a later leader
  own_accepted : Reached (setup_of first) W → (n : ℕ) (d : LeaderId ℕ) (x y : LogId ℕ) → IsNamed d → x.leader_id ≡ d → is_le (log_id_cmp nat_cmp x y) ≡ true → AcceptedId n d y W → HasAccepted W n (number d) x.index
  own_accepted reached n d x y named own reaches h =
      let low : number y.leader_id ≤ h.session.leader = accepted_low (setup_of first) (start_world (setup_of first)) W (stores_follow (setup_of first) W reached) n h.session (number y.leader_id) (suc y.index) h.sent in
      let i : x.index ≤ y.index = reached_index x y (subst IsNamed (sym own) named) h.named (omega (arith, low, h.leader, ap number own)) reaches in
      record { session = h.session; last = number y.leader_id; upto = suc y.index; past = omega (arith, i); leader = h.leader; sent = h.sent }

  replied_accepted : Reached (setup_of first) W → (bag : List Message) (n : ℕ) (d : LeaderId ℕ) (x : LogId ℕ) → IsNamed d → x.leader_id ≡ d → AllByRecursion (MessageIs (setup_of first) W) bag → AcknowledgedUpTo bag n d x → HasAccepted W n (number d) x.index
  replied_accepted reached bag n d x named own all r =
      own_accepted reached n d x r.upto named own r.reaches
      (subst (λ j. AcceptedId j d r.upto W) r.from
      (accepted_of r.message d r.upto r.message.body (one_of (MessageIs (setup_of first) W) bag r.message all r.sent) r.acknowledges))

module _ (given : Given) (wf : IsWellFormed given)
    (Extra : Ideal → WorldState → Type 0) (laws : CallLaws given.membership Extra) (es : List Event) where
  pub world_keeps_chosen : KeepsChosen given es
  world_keeps_chosen d x c l in_established lower = kept
    where
      s : Setup Entry
      s = setup_of given.membership

      p : Passed given Extra laws c.commands (empty (setup_of given.membership)) (moment given es c.events c.commands) (world_after given es)
      p = world_passed given wf Extra laws es c.events c.commands

      V : Ideal
      V = p.stood.world

      W : Ideal
      W = p.after.world

      a : Does (setup_of given.membership) (empty (setup_of given.membership)) p.stood.world
      a = p.stood.came

      b : Does (setup_of given.membership) p.stood.world p.after.world
      b = p.after.came

      all : AllMayDo (setup_of given.membership) (p.stood.came.deeds ++ p.after.came.deeds) (empty (setup_of given.membership))
      all = all_join (setup_of given.membership) a.deeds b.deeds (empty (setup_of given.membership)) a.allowed (subst (AllMayDo (setup_of given.membership) b.deeds) (sym a.result) b.allowed)

      result : run_all (setup_of given.membership) (p.stood.came.deeds ++ p.after.came.deeds) (empty (setup_of given.membership)) ≡ p.after.world
      result = run_all-append (setup_of given.membership) a.deeds b.deeds (empty (setup_of given.membership)) ∙ (ap (run_all (setup_of given.membership) b.deeds) a.result ∙ b.result)

      found : NodeStands (setup_of given.membership) p.stood.world c.node × (c.node.id ≡ d.node_id)
      found = node_found (moment given es c.events c.commands).nodes d.node_id c.node (NodeStands (setup_of given.membership) p.stood.world) p.stood.stands.nodes c.is

      n : NodeStands (setup_of given.membership) p.stood.world c.node
      n = found.0

      is_d : c.node.store.vote.leader_id ≡ d
      is_d = ap (λ v. v.leader_id) c.vote

      named_d : IsNamed d
      named_d = subst IsNamed (ap (λ v. v.leader_id) c.vote) found.0.store.vote_named

      log : List Entry
      log = store.whole c.node.store

      -- d's node in the ideal world of that moment
      there : leader_store (setup_of given.membership) p.stood.came.deeds (number d) ≡ p.stood.world.store c.node.id
      there = ap (λ (Z : Ideal). Z.store ((setup_of given.membership).owner (number d))) a.result ∙ ap p.stood.world.store (number_node d named_d ∙ sym found.1)

      whole_of : whole (p.stood.world.store c.node.id) ≡ images (store.whole c.node.store)
      whole_of = whole_is (setup_of given.membership) c.node.store (p.stood.world.store c.node.id) found.0.store found.0.shaped

      whole_there : whole (leader_store (setup_of given.membership) p.stood.came.deeds (number d)) ≡ images (store.whole c.node.store)
      whole_there = ap (λ (S : IdealStore). whole S) there ∙ whole_of

      slot : slice_get (ids_in (store.whole c.node.store)) x.index ≡ Some x
      slot = found_id (store.whole c.node.store) x (whole_runs c.node.store found.0.shaped) c.holds_it

      led : LedWith (setup_of given.membership) (p.stood.came.deeds ++ p.after.came.deeds) (number d) x.index
      led = record {
        before = a.deeds;
        rest = b.deeds;
        all = refl;
        vote = ap (λ (S : IdealStore). S.vote) there ∙ (found.0.store.vote ∙ ap number is_d);
        vote_committed = ap (λ (S : IdealStore). S.vote_committed) there ∙ (found.0.store.vote_committed ∙ ap (λ v. v.committed) c.vote);
        past = subst (λ (xs : List IdealEntry). x.index < length xs) (sym whole_there) (within_slot (store.whole c.node.store) x.index x slot);
        own = ap (λ (xs : List IdealEntry). (entry_at (setup_of given.membership) xs x.index).leader) whole_there ∙ (entry_of_id (setup_of given.membership) (store.whole c.node.store) x.index x slot ∙ ap number c.own);
      }

      chosen : IsChosen (setup_of given.membership) (p.stood.came.deeds ++ p.after.came.deeds) (number d) x.index
      chosen = record {
        moment = record { before = a.deeds; rest = b.deeds; all = refl; vote = led.vote; vote_committed = led.vote_committed; past = led.past; own = led.own };
        by = among c.nodes;
        quorum = subst (λ xs. IsQuorum (setup_of given.membership) (effective_membership_of (setup_of given.membership) xs) (among c.nodes)) (sym whole_there)
            (effective_quorum (setup_of given.membership) (means_setup given.membership) (store.whole c.node.store) (last_two (memberships_in entry_meaning (store.whole c.node.store))).1 c.nodes
            (whole_fit (setup_of given.membership) c.node.store (p.stood.world.store c.node.id) found.0.store found.0.shaped) refl
            (has_membership given.membership (store.whole c.node.store) x.index x slot (λ l. ap (λ xs. entry_at (setup_of given.membership) xs 0) (sym whole_of) ∙ begun (setup_of given.membership) p.stood.world p.stood.stands.reached c.node.id (subst (λ (xs : List IdealEntry). 0 < length xs) (sym whole_of) l)))
            c.quorum);
        each = λ m e. ⊎_elim (λ (q : m ≡ d.node_id). inl (q ∙ sym (number_node d named_d)))
            (λ (r : AcknowledgedUpTo (world_after given es).records.bag m d x).
            inr (subst (λ (Z : Ideal). HasAccepted Z m (number d) x.index) (sym result)
            (replied_accepted given.membership p.after.world p.after.follows.reached (world_after given es).records.bag m d x named_d c.own p.after.follows.records.bag r)))
            (each_in (λ n. (n ≡ d.node_id) ⊎ AcknowledgedUpTo (world_after given es).records.bag n d x) m c.nodes (recursion_from_All (λ n. (n ≡ d.node_id) ⊎ AcknowledgedUpTo (world_after given es).records.bag n d x) c.nodes c.each) (among_in c.nodes m e));
      }

      ideal : EstablishedLeader Entry
      ideal = record { leader = number l.leader_id; entries = images l.log }

      begins : BeginsWith (images l.log) (take (suc x.index) (whole (leader_store (setup_of given.membership) p.stood.came.deeds (number d))))
      begins =
          chosen_complete (setup_of given.membership) (p.stood.came.deeds ++ p.after.came.deeds) all (number d) x.index chosen (record { leader = number l.leader_id; entries = images l.log })
          (subst (λ (Z : Ideal). Includes Z.established (record { leader = number l.leader_id; entries = images l.log })) (sym result) (one_of (EstablishedIs p.after.world) (world_after given es).records.established l p.after.follows.records.established in_established))
          (number_below d l.leader_id named_d (one_of EstablishedFits (world_after given es).records.established l p.after.fit.established in_established).named lower)

      kept : take (x.index + 1) l.log ≡ store.whole_upto c.node.store x.index
      kept =
          let w : List IdealEntry = images (store.whole c.node.store) in
          let z : take (length (take (suc x.index) (images (store.whole c.node.store)))) (images l.log) ≡ take (suc x.index) (images (store.whole c.node.store)) = subst (λ xs. BeginsWith (images l.log) (take (suc x.index) xs)) whole_there begins in
          let q : x.index < length (images (store.whole c.node.store)) = within_slot (store.whole c.node.store) x.index x slot in
          let k : length (take (suc x.index) (images (store.whole c.node.store))) ≡ suc x.index = omega (arith, length-take (suc x.index) (images (store.whole c.node.store)), q) in
          let e : take (suc x.index) (images l.log) ≡ take (suc x.index) (images (store.whole c.node.store)) = ap (λ i. take i (images l.log)) (sym k) ∙ z in
          let one : x.index + 1 ≡ suc x.index = omega arith in
          ap (λ i. take i l.log) one
          ∙ (images_same (take (suc x.index) l.log) (take (suc x.index) (store.whole c.node.store)) (sym (take-map image (suc x.index) l.log) ∙ (e ∙ take-map image (suc x.index) (store.whole c.node.store)))
          ∙ ap (λ i. take i (store.whole c.node.store)) (sym one))
