-- What a node finds as it makes a bare start, where no event proposed other voter groups: no log, or these groups.
use Rattle.std.proofs.Common.{append-nil, Bool, List, None, Option, Some, [], ap, false, inl, inr, length, map, refl, subst, sym, true, ℕ, ◌++◌, ◌∙◌, ◌∷◌, ◌≡◌, ◌⊎◌}
use Rattle.std.specs.Prelude.{Contains, if◌then◌else◌, slice_get}
use Rattle.std.specs.List.{AllByRecursion}
use Rattle.std.specs.Ordering.{nat_cmp}
use Rattle.std.proofs.lemmas.List.Elements.{All-contains, All-from_recursion}
use Rattle.proof_deeds.specs.raft_state.declared.ids.LogId.{LogId}
use Rattle.proof_deeds.specs.raft_state.declared.membership.StoredMembership.{StoredMembership}
use Rattle.proof_deeds.specs.raft_state.Log.{last}
use Rattle.proof_deeds.specs.raft_state.Members.{no_members}
use Rattle.proof_deeds.specs.raft_state.Sorted.{IsSound}
use Rattle.proof_deeds.specs.raft_steps.FollowingHandler.{memberships_in}
use Rattle.proof_deeds.specs.raft_store.declared.entry.Entry.{Entry}
use Rattle.proof_deeds.specs.raft_store.Entries.{entry_meaning}
use Rattle.proof_deeds.specs.raft_store.Mirror.{ids_of, last_two}
use Rattle.proof_deeds.specs.raft_store.Restart.{is_outrun, settled, settled_by}
use Rattle.proof_deeds.specs.raft_store.Store.{past, whole}
use Rattle.proof_deeds.specs.raft_store.Types.{WorldStore}
use Rattle.proof_deeds.specs.proof_mirror.Ready.{Shaped}
use Rattle.proof_deeds.specs.raft_schedule.declared.event.Event.{Event}
use Rattle.proof_deeds.specs.raft_node.declared.given.Given.{Given}
use Rattle.proof_deeds.specs.raft_calls.Elections.{first_entry}
use Rattle.proof_deeds.specs.raft_node.Net.{NodeView}
use Rattle.proof_deeds.specs.raft_node.Runs.{world_after}
use Rattle.proof_deeds.specs.raft_node.WellFormed.{IsWellFormed}
use Rattle.proof_deeds.specs.Images.{setup_of}
use Rattle.proof_deeds.specs.Nets.{NodeFollows}
use Rattle.proof_deeds.proofs.AppendFitting.{Settled}
use Rattle.proof_deeds.proofs.Moments.{Stood, stood_of}
use Rattle.proof_deeds.proofs.Promised.{begins, one_of}
use Rattle.proof_deeds.proofs.Proved.{followed}
use Rattle.proof_progress.specs.Continuations.{At}
use Rattle.proof_progress.specs.Elections.{log_end, members}
use Rattle.proof_progress.specs.GoesOn.{found}
use Rattle.proof_progress.specs.Groups.{HasVoters, Keeps, LeavesVoters}
use Rattle.proof_progress.proofs.Chosen.{at_contains}
use Rattle.proof_progress.proofs.EntriesKept.{NetOf, NodeOf, settles_keeps}
use Rattle.proof_progress.proofs.GroupsKept.{begun_known, groups_kept}
use Rattle.proof_progress.proofs.EntriesStored.{whole_keeps}
use Rattle.proof_progress.proofs.KeptChoices.{no_ids}

-- A store that is made ready for a start

-- without entries it has no ids
fit_bare : (t : WorldStore) → Shaped entry_meaning t → whole (settled nat_cmp entry_meaning t) ≡ [] → ids_of entry_meaning (settled nat_cmp entry_meaning t) ≡ []
fit_bare t z = by t.meta.last_log_id refl
  where
    described : (es : List Entry) (x : LogId ℕ) → Some x ≡ last (map entry_meaning.id_of es) → es ≡ [] → ids_of entry_meaning (record t { log = []; front = Some x }) ≡ []
    described [] x h q = cc
    described (e ∷ es) x h q = cc

    of : (x : LogId ℕ) → t.meta.last_log_id ≡ Some x → (b : Bool) → whole (if b then record t { log = []; front = Some x } else t) ≡ [] → ids_of entry_meaning (if b then record t { log = []; front = Some x } else t) ≡ []
    of x e true h = described t.snap x (sym e ∙ z.tells.last_id) (sym (append-nil t.snap) ∙ h)
    of x e false h = no_ids t z h

    by : (o : Option (LogId ℕ)) → t.meta.last_log_id ≡ o → whole (settled_by nat_cmp entry_meaning t o) ≡ [] → ids_of entry_meaning (settled_by nat_cmp entry_meaning t o) ≡ []
    by None e h = no_ids t z h
    by (Some x) e h = of x e (is_outrun nat_cmp entry_meaning t x) h

-- its first entry is the store's
fit_begins : (t : WorldStore) (x : Entry) → slice_get (whole (settled nat_cmp entry_meaning t)) 0 ≡ Some x → slice_get (whole t) 0 ≡ Some x
fit_begins t x = by t.meta.last_log_id
  where
    snapped : (es rest : List Entry) → slice_get (es ++ []) 0 ≡ Some x → slice_get (es ++ rest) 0 ≡ Some x
    snapped [] rest h = cc
    snapped (e ∷ es) rest h = h

    of : (y : LogId ℕ) (b : Bool) → slice_get (whole (if b then record t { log = []; front = Some y } else t)) 0 ≡ Some x → slice_get (whole t) 0 ≡ Some x
    of y true h = snapped t.snap (past (length t.snap) t.log) h
    of y false h = h

    by : (o : Option (LogId ℕ)) → slice_get (whole (settled_by nat_cmp entry_meaning t o)) 0 ≡ Some x → slice_get (whole t) 0 ≡ Some x
    by None h = h
    by (Some y) h = of y (is_outrun nat_cmp entry_meaning t y) h

-- A node

-- its log begins with the first entry
pub starts_first : (given : Given) → IsWellFormed given → (past : List Event) (id : ℕ) (N : NodeView) → At (world_after given past).nodes id N → (x : Entry) → slice_get (whole N.store) 0 ≡ Some x → x ≡ first_entry given.membership
starts_first given wf past id N at x q =
    let h : Stood given (Settled (setup_of given.membership)) _ (world_after given past) = stood_of given (Settled (setup_of given.membership)) _ (world_after given past) (followed given wf past) in
    begins (setup_of given.membership) (world_after given past) h.world h.stands N x (at_contains (world_after given past).nodes id N at) q

-- no log, and no membership
pub record FindsNothing (given : Given) (N : NodeView) : Type 0 where
  pub members_are : members (found given N) ≡ no_members
  pub bare : log_end (found given N) ≡ None

-- or these groups
abbrev pub FindsGroups : Given → List (List ℕ) → NodeView → Type 0
FindsGroups given groups N = FindsNothing given N ⊎ HasVoters groups (members (found given N))

module _ (given : Given) (wf : IsWellFormed given) (sound : IsSound nat_cmp given.membership.groups given.membership.nodes) (past : List Event) (kept : AllByRecursion (λ (e : Event). LeavesVoters e.kind) past) where
  first : Keeps given.membership.groups (first_entry given.membership)
  first = record { same = refl; nodes = sound.voters }

  module _ (id : ℕ) (N : NodeView) (at : At (world_after given past).nodes id N) where
    there : Contains (world_after given past).nodes N
    there = at_contains (world_after given past).nodes id N at

    keeps : NodeOf (Keeps given.membership.groups) N
    keeps =
        let k : NetOf (Keeps given.membership.groups) (world_after given past) = groups_kept given.membership.groups given first sound.groups_ordered wf past kept in
        All-contains (NodeOf (Keeps given.membership.groups)) (world_after given past).nodes N (All-from_recursion (NodeOf (Keeps given.membership.groups)) (world_after given past).nodes k.nodes) there

    shaped : Shaped entry_meaning N.store
    shaped = (one_of (NodeFollows (setup_of given.membership) (followed given wf past).world (world_after given past).records) (world_after given past).nodes N (followed given wf past).follows.nodes there).shaped

    abbrev fit : WorldStore
    fit = settled nat_cmp entry_meaning N.store

    pub finds : FindsGroups given given.membership.groups N
    finds = go (whole fit) refl
      where
        go : (es : List Entry) → whole (settled nat_cmp entry_meaning N.store) ≡ es → FindsGroups given given.membership.groups N
        go [] q = inl (record {
          members_are = ap (λ ys. let m : StoredMembership ℕ (Unit {0}) = (last_two (memberships_in entry_meaning ys)).1 in m.membership) q;
          bare = ap last (fit_bare N.store shaped q);
        })
        go (x ∷ es) q =
            let is_first : x ≡ first_entry given.membership = starts_first given wf past id N at x (fit_begins N.store x (ap (λ (ys : List Entry). slice_get ys 0) q)) in
            let begun : whole (settled nat_cmp entry_meaning N.store) ≡ first_entry given.membership ∷ es = q ∙ ap (λ y. y ∷ es) is_first in
            let k : AllByRecursion (Keeps given.membership.groups) (first_entry given.membership ∷ es) =
            subst (AllByRecursion (Keeps given.membership.groups)) begun (whole_keeps (Keeps given.membership.groups) (settled nat_cmp entry_meaning N.store) (settles_keeps (Keeps given.membership.groups) N.store keeps.store)) in
            inr (subst (λ (m : StoredMembership ℕ (Unit {0})). HasVoters given.membership.groups m.membership) (ap (λ ys. (last_two (memberships_in entry_meaning ys)).1) (sym begun)) (begun_known given.membership.groups given.membership (first_entry given.membership).log_id es k))
