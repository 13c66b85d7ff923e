-- Where no event proposes other voter groups, all that nodes store and send keeps those of the first membership.
use Rattle.std.proofs.Common.{ℕ, ◌-◌, ◌≡◌, ◌⊎◌, inl, inr, true, List, [], ◌∷◌, map, refl, sym, ap, ◌∙◌, subst, Option, None, Some}
use Rattle.std.specs.Prelude.{All, Contains}
use Rattle.std.specs.List.{AllByRecursion, cons_option, list_all}
use Rattle.std.specs.List.Sorted.{IsStrictlySortedBy}
use Rattle.std.specs.Map.{keys_of}
use Rattle.std.specs.Option.{option_or}
use Rattle.std.specs.Ordering.{nat_cmp}
use Rattle.std.proofs.lemmas.Cmp.{nat_cmp_total}
use Rattle.std.proofs.lemmas.List.Elements.{All-contains, All-from_recursion, recursion_from_All}
use Rattle.proof_deeds.specs.raft_state.declared.ids.LogId.{LogId}
use Rattle.proof_deeds.specs.raft_state.declared.membership.Members.{Members}
use Rattle.proof_deeds.specs.raft_state.declared.membership.StoredMembership.{StoredMembership}
use Rattle.proof_deeds.specs.raft_state.Members.{group_of, no_members, placed_nodes}
use Rattle.proof_deeds.specs.raft_state.Same.{nat_same}
use Rattle.proof_deeds.specs.raft_state.Sorted.{has_id}
use Rattle.proof_deeds.proofs.raft_state_proofs.Voters.{voters_placed}
use Rattle.proof_deeds.proofs.raft_progress_proofs.Memberships.{group_of_ascending}
use Rattle.proof_deeds.specs.raft_steps.FollowingHandler.{memberships_in, stored_in}
use Rattle.proof_deeds.specs.raft_store.declared.entry.Entry.{Entry}
use Rattle.proof_deeds.specs.raft_store.declared.entry.Payload.{Payload}
use Rattle.proof_deeds.specs.raft_store.declared.entry.Payload.TheVariants.{Blank, Membership, Value}
use Rattle.proof_deeds.specs.raft_store.Entries.{entry_meaning}
use Rattle.proof_deeds.specs.raft_store.Mirror.{Mirrors, last_two, none}
use Rattle.proof_deeds.specs.raft_store.Store.{whole}
use Rattle.proof_deeds.specs.raft_store.Types.{EngineView, WorldLeader}
use Rattle.proof_deeds.proofs.proof_mirror_proofs.Ends.{Each, ends_each}
use Rattle.proof_deeds.specs.raft_schedule.declared.event.Event.{Event}
use Rattle.proof_deeds.specs.raft_schedule.declared.event.EventKind.{EventKind}
use Rattle.proof_deeds.specs.raft_schedule.declared.event.EventKind.TheVariants as kinds
use Rattle.proof_deeds.specs.raft_schedule.declared.event.SkipReason.{SkipReason}
use Rattle.proof_deeds.specs.raft_schedule.declared.event.SkipReason.TheVariants.{NotRunning}
use Rattle.proof_deeds.specs.raft_node.declared.act.Act.TheVariants.{ChangeLearners, Fail, Propose, Read, Restart, Stop}
use Rattle.proof_deeds.specs.raft_node.declared.given.Given.{Given}
use Rattle.proof_deeds.specs.raft_node.Events.{skip_reason}
use Rattle.proof_deeds.specs.raft_calls.Elections.{first_entry}
use Rattle.proof_deeds.specs.raft_calls.LeaderCalls.{skip_propose}
use Rattle.proof_deeds.specs.raft_calls.Memberships.{groups_in, members_with, skip_learners, skip_members, skip_pending}
use Rattle.proof_deeds.specs.raft_node.Net.{NodeView}
use Rattle.proof_deeds.specs.raft_node.Runs.{world_after}
use Rattle.proof_deeds.specs.raft_node.WellFormed.{IsWellFormed}
use Rattle.proof_deeds.proofs.Proved.{after_mirrored}
use Rattle.proof_progress.specs.Groups.{HasVoters, Keeps, LeavesVoters}
use Rattle.proof_progress.proofs.EntriesKept.{NetOf, NodeOf, Proposing, run_keeps}
use Rattle.proof_progress.proofs.EntriesQueued.{IsCommon}
use Rattle.proof_progress.proofs.EntriesStored.{whole_keeps}

-- Memberships

module _ (G : List (List ℕ)) where
  -- a stored membership has the groups, or is none
  abbrev pub Known : StoredMembership ℕ (Unit {0}) → Type 0
  Known m = HasVoters G m.membership

  all_known : (es : List Entry) → AllByRecursion (Keeps G) es → Each Known (memberships_in entry_meaning es)
  all_known [] h = tt
  all_known (e ∷ es) h = go e.payload h.0 (all_known es h.1)
    where
      go : (p : Payload) → Keeps G (record { log_id = e.log_id; payload = p }) → Each Known (memberships_in entry_meaning es)
          → Each Known (cons_option (stored_in entry_meaning (record { log_id = e.log_id; payload = p })) (memberships_in entry_meaning es))
      go Blank k r = r
      go (Value v) k r = r
      go (Membership m) k r = (k, r)

  -- the last membership of entries that keep the groups
  pub last_known : (es : List Entry) → AllByRecursion (Keeps G) es → ((last_two (memberships_in entry_meaning es)).1 ≡ none) ⊎ Known (last_two (memberships_in entry_meaning es)).1
  last_known es h = go (memberships_in entry_meaning es) (all_known es h)
    where
      go : (ms : List (StoredMembership ℕ (Unit {0}))) → Each Known ms → ((last_two ms).1 ≡ none) ⊎ Known (last_two ms).1
      go [] k = inl refl
      go (m ∷ []) k = inr k.0
      go (m ∷ n ∷ ms) k = inr (ends_each Known m n ms k.0 k.1.0 k.1.1).1

  -- where the first one is a membership, it is known
  pub begun_known : (m : Members ℕ (Unit {0})) (id : LogId ℕ) (es : List Entry) → AllByRecursion (Keeps G) (record { log_id = id; payload = Membership m } ∷ es) → Known (last_two (memberships_in entry_meaning (record { log_id = id; payload = Membership m } ∷ es))).1
  begun_known m id es h = go (memberships_in entry_meaning es) (all_known es h.1)
    where
      go : (ms : List (StoredMembership ℕ (Unit {0}))) → Each Known ms → Known (last_two (record { log_id = Some id; membership = m } ∷ ms)).1
      go [] k = h.0
      go (n ∷ ms) k = (ends_each Known (record { log_id = Some id; membership = m }) n ms h.0 k.0 k.1).1

  -- other learners keep the groups
  module _ (sorted : All (IsStrictlySortedBy nat_cmp) G) where
    regrouped : (gs : List (List ℕ)) → AllByRecursion (IsStrictlySortedBy nat_cmp) gs → map (group_of nat_cmp) gs ≡ gs
    regrouped [] a = refl
    regrouped (g ∷ gs) a = rw (group_of_ascending nat_cmp nat_cmp_total nat_same g a.0) (ap (λ xs. g ∷ xs) (regrouped gs a.1))

    with_learners : (learners : List ℕ) → HasVoters G (members_with G learners)
    with_learners learners =
        let same : map (group_of nat_cmp) G ≡ G = regrouped G (recursion_from_All (IsStrictlySortedBy nat_cmp) G sorted) in
        record {
          same = same;
          nodes = subst (λ gs. list_all (λ group. list_all (has_id nat_cmp (keys_of (members_with G learners).nodes)) group) gs ≡ true) same
              (voters_placed nat_cmp nat_cmp_total (record {}) (map (group_of nat_cmp) G) (placed_nodes nat_cmp (map (λ id. (id, record {})) learners)) (has_id nat_cmp (keys_of (members_with G learners).nodes)) (λ q h. h));
        }

    -- at a leader that may propose them
    pub learners_known : (m : Members ℕ (Unit {0})) (learners : List ℕ) → (m ≡ no_members) ⊎ HasVoters G m → skip_members m m.groups learners ≡ None → HasVoters G (members_with m.groups learners)
    learners_known m learners (inl e) s = absurd (none_shared (subst (λ k. skip_members k k.groups learners ≡ None) e s))
      where
        none_shared : skip_members no_members [] learners ≡ None → ⊥
        none_shared z = cc
    learners_known m learners (inr k) s = subst (λ gs. HasVoters G (members_with gs learners)) (sym k.same) (with_learners learners)

  common : IsCommon (Keeps G)
  common = record { blank = λ x. tt; value = λ x v. tt }

  -- a leader that may propose other learners keeps the groups
  learns : (sorted : All (IsStrictlySortedBy nat_cmp) G) (learners : List ℕ) (n : NodeView) → NodeOf (Keeps G) n → ((e : EngineView) → n.engine ≡ Some e → Mirrors entry_meaning n.store e.machine.core.state) → skip_reason (ChangeLearners learners) n ≡ None
      → (e : EngineView) → n.engine ≡ Some e → (l : WorldLeader) → e.machine.leader ≡ Some l → HasVoters G (members_with (groups_in e) learners)
  learns sorted learners n h mirrors skip e is l led =
      learners_known sorted e.machine.core.state.em.membership learners known (third (skip_propose e) (skip_pending l.noop_log_id e.machine.core.state) _ (by_leader e.machine.leader led (by_engine n.engine is skip)))
    where
      known : (e.machine.core.state.em.membership ≡ no_members) ⊎ HasVoters G e.machine.core.state.em.membership
      known = of (last_known (whole n.store) (whole_keeps (Keeps G) n.store h.store))
        where
          em : e.machine.core.state.em ≡ (last_two (memberships_in entry_meaning (whole n.store))).1
          em = (mirrors e is).em

          of : ((last_two (memberships_in entry_meaning (whole n.store))).1 ≡ none) ⊎ Known (last_two (memberships_in entry_meaning (whole n.store))).1 → (e.machine.core.state.em.membership ≡ no_members) ⊎ HasVoters G e.machine.core.state.em.membership
          of (inl z) = inl (ap (λ (m : StoredMembership ℕ (Unit {0})). m.membership) (em ∙ z))
          of (inr k) = inr (subst (λ (m : StoredMembership ℕ (Unit {0})). HasVoters G m.membership) (sym em) k)

      third : (a b c : Option SkipReason) → option_or a (option_or b c) ≡ None → c ≡ None
      third None None c z = z
      third None (Some x) c z = cc
      third (Some x) b c z = cc

      by_engine : (o : Option EngineView) → o ≡ Some e → elim o as (λ _. Option SkipReason) [ None ↦ Some NotRunning | Some x ↦ skip_learners learners x ] ≡ None → skip_learners learners e ≡ None
      by_engine None q z = cc
      by_engine (Some x) q z = let same : x ≡ e = cc in subst (λ (x : EngineView). skip_learners learners x ≡ None) same z

      by_leader : (o : Option WorldLeader) → o ≡ Some l
          → elim o as (λ _. Option SkipReason) [ None ↦ None | Some k ↦ option_or (skip_propose e) (option_or (skip_pending k.noop_log_id e.machine.core.state) (skip_members e.machine.core.state.em.membership (groups_in e) learners)) ] ≡ None
          → option_or (skip_propose e) (option_or (skip_pending l.noop_log_id e.machine.core.state) (skip_members e.machine.core.state.em.membership (groups_in e) learners)) ≡ None
      by_leader None q z = cc
      by_leader (Some k) q z =
          let same : k ≡ l = cc in
          subst (λ (k : WorldLeader). option_or (skip_propose e) (option_or (skip_pending k.noop_log_id e.machine.core.state) (skip_members e.machine.core.state.em.membership (groups_in e) learners)) ≡ None) same z

  module _ (given : Given) (first : Keeps G (first_entry given.membership)) (sorted : All (IsStrictlySortedBy nat_cmp) G) (wf : IsWellFormed given) where
    proposes : (done : List Event) (event : Event) → LeavesVoters event.kind → NetOf (Keeps G) (world_after given done) → (n : NodeView) → Contains (world_after given done).nodes n → Proposing (Keeps G) event.kind n
    proposes done event v h n there = go event.kind v
      where
        k : NodeOf (Keeps G) n
        k = All-contains (NodeOf (Keeps G)) (world_after given done).nodes n (All-from_recursion (NodeOf (Keeps G)) (world_after given done).nodes h.nodes) there

        go : (kind : EventKind) → LeavesVoters kind → Proposing (Keeps G) kind n
        go (kinds.Member i learners) v = learns sorted learners n k (λ e is. after_mirrored given wf done n e there is)
        go (kinds.Change i groups learners) v = absurd v
        go (kinds.Init i) v = tt
        go (kinds.Timeout i) v = tt
        go (kinds.Stand i) v = tt
        go (kinds.Deliver i) v = tt
        go (kinds.Propose i values) v = tt
        go (kinds.Heartbeat i) v = tt
        go (kinds.Fail i target) v = tt
        go (kinds.Snapshot i) v = tt
        go (kinds.Built i) v = tt
        go (kinds.Purge i x) v = tt
        go (kinds.Restart i start) v = tt
        go (kinds.Read i) v = tt
        go (kinds.Down i) v = tt
        go (kinds.Stop i) v = tt

    -- in each world that such events make
    pub groups_kept : (past : List Event) → AllByRecursion (λ (e : Event). LeavesVoters e.kind) past → NetOf (Keeps G) (world_after given past)
    groups_kept past v = run_keeps (Keeps G) common given first wf (λ (e : Event). LeavesVoters e.kind) (λ done event d a. proposes done event a) past v
