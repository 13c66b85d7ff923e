-- Where no event proposes other voter groups, and a voter has a log, there is a choice.
use Rattle.std.proofs.Common.{Bool, List, None, Option, Some, [], ap, arith, cond, false, filter, inl, inr, length, map, not, refl, subst, sym, true, ℕ, ◌++◌, ◌∙◌, ◌∷◌, ◌≡◌, ◌≢◌, ◌≤◌, ◌⊎◌}
use Rattle.std.specs.Prelude.{Contains, nat_lt, slice_get}
use Rattle.std.specs.List.{AllByRecursion}
use Rattle.std.specs.Map.{values_of}
use Rattle.std.specs.Option.{option_to_list}
use Rattle.std.specs.Ordering.{is_gt, nat_cmp}
use Rattle.std.proofs.lemmas.Bool.Decides.{nat_tests}
use Rattle.std.proofs.lemmas.List.Elements.{All-contains, All-from_recursion}
use Rattle.proof_deeds.specs.raft_state.declared.ids.LogId.{LogId}
use Rattle.proof_deeds.specs.raft_state.declared.membership.StoredMembership.{StoredMembership}
use Rattle.proof_deeds.specs.raft_state.Log.{last}
use Rattle.proof_deeds.specs.raft_state.Order.{leader_id_cmp, next}
use Rattle.proof_deeds.specs.raft_state.Sorted.{IsSound}
use Rattle.proof_deeds.proofs.raft_state_proofs.LogLists.{each_append}
use Rattle.proof_deeds.specs.raft_steps.FollowingHandler.{memberships_in}
use Rattle.proof_deeds.specs.raft_store.declared.entry.Entry.{Entry}
use Rattle.proof_deeds.specs.raft_store.Entries.{entry_meaning}
use Rattle.proof_deeds.specs.raft_store.Mirror.{Mirrors, ids_of, last_two}
use Rattle.proof_deeds.specs.raft_store.Store.{past, whole}
use Rattle.proof_deeds.specs.raft_store.Types.{WorldStore}
use Rattle.proof_deeds.specs.proof_mirror.Ready.{Shaped}
use Rattle.proof_deeds.specs.raft_schedule.declared.event.Event.{Event}
use Rattle.proof_deeds.specs.raft_node.declared.given.Given.{Given}
use Rattle.proof_deeds.specs.raft_calls.Elections.{first_entry}
use Rattle.proof_deeds.specs.raft_node.Events.{happens}
use Rattle.proof_deeds.specs.raft_node.Net.{Net, NodeView}
use Rattle.proof_deeds.specs.raft_node.Runs.{whole_logs, world_after}
use Rattle.proof_deeds.specs.raft_node.WellFormed.{IsWellFormed}
use Rattle.proof_deeds.specs.raft_node.Work.{weight}
use Rattle.proof_deeds.specs.Images.{setup_of}
use Rattle.proof_deeds.specs.Nets.{AllApart, NodeFollows}
use Rattle.proof_deeds.proofs.AppendFitting.{Settled}
use Rattle.proof_deeds.proofs.Moments.{Stood, stood_of}
use Rattle.proof_deeds.proofs.Nodes.{each_both}
use Rattle.proof_deeds.proofs.Promised.{begins, one_of}
use Rattle.proof_deeds.proofs.Proved.{after_mirrored, followed}
use Rattle.proof_deeds.proofs.Worlds.{each_on}
use Rattle.proof_deeds.specs.proof_agreement.Machine.{Setup}
use Rattle.proof_progress.specs.Choices.{DeposedHear, HearsOf, IsChoice, IsUndisputed, KeptWorldsLead, MayFollow, MayHear, StartsWithGroups, VotesUpTo, WorldsChoose, engine_at_start, leads_by_store}
use Rattle.proof_progress.specs.Continuations.{At, restart}
use Rattle.proof_progress.specs.Elections.{Listed}
use Rattle.proof_progress.specs.Groups.{HasVoters, Keeps, LeavesVoters}
use Rattle.proof_progress.proofs.CanElect.{goes_after}
use Rattle.proof_progress.proofs.Choosing.{choices_exist}
use Rattle.proof_progress.proofs.Chosen.{at_contains}
use Rattle.proof_progress.proofs.Heard.{each_listed, worlds_elect}
use Rattle.proof_progress.proofs.EntriesKept.{NetOf, NodeOf}
use Rattle.proof_progress.proofs.GroupsKept.{begun_known, groups_kept}
use Rattle.proof_progress.proofs.EntriesStored.{whole_keeps}
use Rattle.proof_progress.proofs.Places.{Changed, at_one}
use Rattle.proof_progress.proofs.StartWorks.{HasStarted, has_started, node_left, restarts}

-- where ids stand once, each node is the one of its id
pub apart_at : (s : Setup Entry) (nodes : List NodeView) → AllApart s nodes → AllByRecursion (λ (N : NodeView). At nodes N.id N) nodes
apart_at s [] a = tt
apart_at s (x ∷ xs) a = (
  inl (refl, refl),
  each_both (λ (N : NodeView). N.id ≢ x.id) (λ (N : NodeView). At xs N.id N) (λ (N : NodeView). At (x ∷ xs) N.id N) (λ N d at. inr ((λ z. d (sym z)), at)) xs a.0 (apart_at s xs a.1),
)

-- a store whose whole log is empty has no ids
all_past : (log : List (ℕ × Entry)) → past 0 log ≡ values_of log
all_past [] = refl
all_past (x ∷ xs) = go (nat_lt x.0 0) (none x.0) (all_past xs)
  where
    none : (n : ℕ) → nat_lt n 0 ≡ false
    none n = grind (arith, nat_tests)

    go : (b : Bool) → b ≡ false → past 0 xs ≡ values_of xs → values_of (cond (not b) (x ∷ filter (λ p. not (nat_lt p.0 0)) xs) (filter (λ p. not (nat_lt p.0 0)) xs)) ≡ values_of (x ∷ xs)
    go true e f = cc
    go false e f = ap (λ ys. x.1 ∷ ys) f

pub no_ids : (t : WorldStore) → Shaped entry_meaning t → whole t ≡ [] → ids_of entry_meaning t ≡ []
no_ids t z e = go t.snap refl e
  where
    unpurged : (o : Option (LogId ℕ)) → next o ≤ 0 → option_to_list o ≡ []
    unpurged None l = refl
    unpurged (Some x) l = absurd (omega (arith, l))

    go : (es : List Entry) → t.snap ≡ es → es ++ past (length es) t.log ≡ [] → ids_of entry_meaning t ≡ []
    go [] q k =
        let l : next t.front ≤ 0 = subst (λ (es : List Entry). next t.front ≤ length es) q z.front in
        let v : values_of t.log ≡ [] = sym (all_past t.log) ∙ k in
        ap (λ xs. xs ++ map (λ (e : Entry). e.log_id) (values_of t.log)) (unpurged t.front l) ∙ ap (λ (es : List Entry). map (λ (e : Entry). e.log_id) es) v
    go (x ∷ es) q k = cc

module _ (given : Given) (wf : IsWellFormed given) (sound : IsSound nat_cmp given.membership.groups given.membership.nodes) (past : List Event) (v : AllByRecursion (λ (e : Event). LeavesVoters e.kind) past) (saved : Bool) where
  first : Keeps given.membership.groups (first_entry given.membership)
  first = record { same = refl; nodes = sound.voters }

  -- a node, once it has started
  module _ (id : ℕ) (N : NodeView) (at : At (world_after given past).nodes id N) where
    abbrev more : List Event
    more = past ++ restart id saved N.moment ∷ []

    abbrev after : NodeView
    after = node_left given saved N.moment N (world_after given past).records

    there : Contains (world_after given more).nodes after
    there =
        let c : Changed (world_after given past) (happens whole_logs weight given (restart id saved N.moment) (world_after given past)).1 id after _ = restarts given saved N.moment N (world_after given past) id at (omega arith) in
        subst (λ (w : Net (List Entry)). Contains w.nodes after) (sym (goes_after given past (restart id saved N.moment ∷ []))) (at_contains (happens whole_logs weight given (restart id saved N.moment) (world_after given past)).1.nodes id after c.here)

    started : HasStarted (engine_at_start given.settings saved N) N.moment after
    started = has_started given saved N.moment N (world_after given past).records

    keeps : NodeOf (Keeps given.membership.groups) after
    keeps =
        let k : NetOf (Keeps given.membership.groups) (world_after given more) =
        groups_kept given.membership.groups given first sound.groups_ordered wf more (each_append (λ (e : Event). LeavesVoters e.kind) past (restart id saved N.moment ∷ []) v (tt, tt)) in
        All-contains (NodeOf (Keeps given.membership.groups)) (world_after given more).nodes after (All-from_recursion (NodeOf (Keeps given.membership.groups)) (world_after given more).nodes k.nodes) there

    mirrors : Mirrors entry_meaning after.store started.engine.machine.core.state
    mirrors = after_mirrored given wf more after started.engine there started.runs

    shaped : Shaped entry_meaning after.store
    shaped =
        (one_of (NodeFollows (setup_of given.membership) (followed given wf more).world (world_after given more).records) (world_after given more).nodes after (followed given wf more).follows.nodes there).shaped

    starts_first : (x : Entry) → slice_get (whole after.store) 0 ≡ Some x → x ≡ first_entry given.membership
    starts_first x q =
        let h : Stood given (Settled (setup_of given.membership)) _ (world_after given more) = stood_of given (Settled (setup_of given.membership)) _ (world_after given more) (followed given wf more) in
        begins (setup_of given.membership) (world_after given more) h.world h.stands after x there q

    knows : StartsWithGroups given saved given.membership.groups N
    knows = go (whole after.store) refl
      where
        go : (es : List Entry) → whole after.store ≡ es → StartsWithGroups given saved given.membership.groups N
        go [] q = inl (ap last (sym started.goes.state.ids ∙ (mirrors.log.ids_are ∙ no_ids after.store shaped q)))
        go (x ∷ es) q =
            let is_first : x ≡ first_entry given.membership = starts_first x (ap (λ (ys : List Entry). slice_get ys 0) q) in
            let begun : whole after.store ≡ first_entry given.membership ∷ es = q ∙ ap (λ y. y ∷ es) is_first in
            let k : AllByRecursion (Keeps given.membership.groups) (first_entry given.membership ∷ es) = subst (AllByRecursion (Keeps given.membership.groups)) begun (whole_keeps (Keeps given.membership.groups) after.store keeps.store) in
            inr
            (subst (λ (m : StoredMembership ℕ (Unit {0})). HasVoters given.membership.groups m.membership) (ap (λ ys. (last_two (memberships_in entry_meaning ys)).1) (sym begun) ∙ (sym mirrors.em ∙ started.goes.state.em))
            (begun_known given.membership.groups given.membership (first_entry given.membership).log_id es k))

  all_know : AllByRecursion (StartsWithGroups given saved given.membership.groups) (world_after given past).nodes
  all_know =
      each_on (λ (N : NodeView). At (world_after given past).nodes N.id N) (StartsWithGroups given saved given.membership.groups) (λ N at. knows N.id N at) (world_after given past).nodes
      (apart_at (setup_of given.membership) (world_after given past).nodes (followed given wf past).follows.apart)

pub worlds_choose : WorldsChoose
worlds_choose given wf sound past v saved enough some = choices_exist given saved given.membership.groups (world_after given past) (all_know given wf sound past v saved) enough some

-- one of some nodes has stored a later vote
record Later (net : Net (List Entry)) (N : NodeView) (ts : List ℕ) : Type 0 where
  from : ℕ
  one : Listed ts from
  node : NodeView
  at : At net.nodes from node
  later : is_gt (leader_id_cmp nat_cmp node.store.vote.leader_id N.store.vote.leader_id) ≡ true

abbrev AllUpTo : Net (List Entry) → NodeView → List ℕ → Type 0
AllUpTo net N ts = AllByRecursion (λ t. (T : NodeView) → At net.nodes t T → VotesUpTo N.store.vote.leader_id T) ts

-- or none has
later_or_not : (net : Net (List Entry)) (N : NodeView) (ts : List ℕ) → ((t : ℕ) → Listed ts t → (T : NodeView) × At net.nodes t T) → AllUpTo net N ts ⊎ Later net N ts
later_or_not net N [] f = inl tt
later_or_not net N (t ∷ ts) f = go (f t (inl refl)) (later_or_not net N ts (λ u h. f u (inr h)))
  where
    of : (T : NodeView) → At net.nodes t T → (b : Bool) → is_gt (leader_id_cmp nat_cmp T.store.vote.leader_id N.store.vote.leader_id) ≡ b → AllUpTo net N ts → AllUpTo net N (t ∷ ts) ⊎ Later net N (t ∷ ts)
    of T at true q a = inr (record { from = t; one = inl refl; node = T; at = at; later = q })
    of T at false q a = inl ((λ U k. subst (VotesUpTo N.store.vote.leader_id) (at_one net.nodes t T U at k) q), a)

    go : (T : NodeView) × At net.nodes t T → AllUpTo net N ts ⊎ Later net N ts → AllUpTo net N (t ∷ ts) ⊎ Later net N (t ∷ ts)
    go r (inl a) = of r.0 r.1 (is_gt (leader_id_cmp nat_cmp r.0.store.vote.leader_id N.store.vote.leader_id)) refl a
    go r (inr x) = inr (record { from = x.from; one = inr x.one; node = x.node; at = x.at; later = x.later })

-- so a choice isn't disputed, or may hear of a later vote
settled : (given : Given) (saved : Bool) (net : Net (List Entry)) (n : ℕ) (c : IsChoice given saved net n) → DeposedHear given saved net → IsUndisputed given saved net c ⊎ MayHear given saved net n c
settled given saved net n c d = go (leads_by_store saved c.node) refl
  where
    voter : (t : ℕ) → Listed c.voters t → MayFollow given saved net (engine_at_start given.settings saved c.node) t
    voter t h = each_listed (MayFollow given saved net (engine_at_start given.settings saved c.node)) c.voters t h c.follow

    by : leads_by_store saved c.node ≡ true → AllUpTo net c.node c.voters ⊎ Later net c.node c.voters → IsUndisputed given saved net c ⊎ MayHear given saved net n c
    by q (inl a) = inl (inr a)
    by q (inr x) =
        let h : HearsOf given saved c.node x.from = d n x.from c.node x.node c.at x.at (voter x.from x.one).voter q x.later in
        inr (record { from = x.from; one = x.one; node = x.node; at = x.at; later = x.later; asked = h.asked; room = h.room })

    go : (b : Bool) → leads_by_store saved c.node ≡ b → IsUndisputed given saved net c ⊎ MayHear given saved net n c
    go false q = inl (inl q)
    go true q = by q (later_or_not net c.node c.voters (λ t h. ((voter t h).node, (voter t h).at)))

pub kept_worlds_lead : KeptWorldsLead
kept_worlds_lead given wf sound past v saved enough some d room =
    let c = worlds_choose given wf sound past v saved enough some in
    (c.0, _, worlds_elect given wf past saved c.0 c.1 (settled given saved (world_after given past) c.0 c.1 d) room)
