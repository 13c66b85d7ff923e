-- Each membership that a world holds has one to four groups, which ascend: so a change of the learners alone, which keeps the
-- groups, isn't skipped because of them.
use Rattle.std.proofs.Common.{ℕ, zero, suc, append-nil, append_assoc, ◌+◌, ◌<◌, ◌≤◌, ◌≡◌, ◌≢◌, Bool, true, false, not, List, [], ◌∷◌, ◌++◌, length, map, take, arith, refl, sym, ap, ◌∙◌, subst, true≢false, Option, None, Some}
use Rattle.std.specs.Prelude.{Contains, IfSome, nat_lt, slice_get, slice_set, ◌&&◌, ◌||◌, ◌==◌, if◌then◌else◌}
use Rattle.std.specs.Cmp.{tied_itself}
use Rattle.std.specs.List.{AllByRecursion, cons_option, list_any}
use Rattle.std.specs.List.Sorted.{IsStrictlySortedBy}
use Rattle.std.specs.Option.{option_or}
use Rattle.std.specs.Ordering.{is_eq, is_gt, nat_cmp}
use Rattle.std.proofs.lemmas.Bool.Decides.{nat_tests}
use Rattle.std.proofs.lemmas.Cmp.{nat_cmp_total}
use Rattle.std.proofs.lemmas.List.{length-map}
use Rattle.std.proofs.lemmas.List.Elements.{All-contains_itself, All-from_recursion, recursion_from_All}
use Rattle.proof_deeds.specs.raft_state.declared.ids.LeaderId.{LeaderId}
use Rattle.proof_deeds.specs.raft_state.declared.ids.LogId.{LogId}
use Rattle.proof_deeds.specs.raft_state.declared.membership.Members.{Members}
use Rattle.proof_deeds.specs.raft_state.declared.membership.StoredMembership.{StoredMembership}
use Rattle.proof_deeds.specs.raft_state.declared.state.RaftState.{RaftState}
use Rattle.proof_deeds.specs.raft_state.Members.{group_of, is_voter}
use Rattle.proof_deeds.specs.raft_state.Order.{last_id_cmp, next, vote_cmp}
use Rattle.proof_deeds.specs.raft_state.Same.{nat_same}
use Rattle.proof_deeds.specs.raft_state.Sorted.{IsSound}
use Rattle.proof_deeds.proofs.raft_state_proofs.Groups.{groups_ascend}
use Rattle.proof_deeds.proofs.raft_state_proofs.LogLists.{each_append}
use Rattle.proof_deeds.proofs.raft_state_proofs.Orders.{or_left}
use Rattle.proof_deeds.proofs.raft_progress_proofs.Memberships.{group_of_ascending}
use Rattle.proof_deeds.specs.raft_proposer.Leader.{numbered}
use Rattle.proof_deeds.specs.raft_steps.Conditions.{is_same_group, shares_group}
use Rattle.proof_deeds.specs.raft_steps.FollowingHandler.{memberships_in, stored_in}
use Rattle.proof_deeds.specs.raft_store.declared.entry.Entry.{Entry}
use Rattle.proof_deeds.specs.raft_store.declared.entry.Payload.{Payload}
use Rattle.proof_deeds.specs.raft_store.declared.entry.Payload.TheVariants as payload
use Rattle.proof_deeds.specs.raft_store.declared.entry.Value.{Value}
use Rattle.proof_deeds.specs.raft_store.Entries.{entry_meaning}
use Rattle.proof_deeds.specs.raft_store.Mirror.{last_two}
use Rattle.proof_deeds.specs.raft_store.Store.{whole}
use Rattle.proof_deeds.specs.raft_store.Types.{EngineView, WorldLeader}
use Rattle.proof_deeds.specs.raft_schedule.declared.event.AppliedEvent.{AppliedEvent}
use Rattle.proof_deeds.specs.raft_schedule.declared.event.Event.{Event}
use Rattle.proof_deeds.specs.raft_schedule.declared.event.EventKind.{EventKind}
use Rattle.proof_deeds.specs.raft_schedule.declared.event.EventKind.TheVariants as kinds
use Rattle.proof_deeds.specs.raft_schedule.declared.event.Outcome.{Outcome}
use Rattle.proof_deeds.specs.raft_schedule.declared.event.Outcome.TheVariants.{Skipped}
use Rattle.proof_deeds.specs.raft_schedule.declared.event.SkipReason.{SkipReason}
use Rattle.proof_deeds.specs.raft_schedule.declared.event.SkipReason.TheVariants.{BadGroups, BadLearners, BlankPending, MembershipPending, NoMessage, NoSharedGroup, NotOwnVote, NotRunning}
use Rattle.proof_deeds.specs.raft_node.declared.act.Act.{Act}
use Rattle.proof_deeds.specs.raft_node.declared.act.Act.TheVariants.{ChangeLearners, ChangeMembership}
use Rattle.proof_deeds.specs.raft_node.declared.act.Aim.{Aim}
use Rattle.proof_deeds.specs.raft_node.declared.given.Given.{Given}
use Rattle.proof_deeds.specs.raft_node.declared.node.Turn.{Turn}
use Rattle.proof_deeds.specs.raft_node.Events.{Scene, aim_of, at_node, at_place, called_at, calls, finish, happens, moment_of, outcome_of, place_of, played, skip_reason, skip_running, skip_stopped, turn_of, work_of}
use Rattle.proof_deeds.specs.raft_calls.Elections.{first_entry}
use Rattle.proof_deeds.specs.raft_calls.LeaderCalls.{skip_propose, value_entry}
use Rattle.proof_deeds.specs.raft_calls.Memberships.{groups_in, members_with, skip_change, skip_learners, skip_members, skip_pending}
use Rattle.proof_deeds.specs.raft_node.Net.{Net, NodeView}
use Rattle.proof_deeds.specs.raft_node.Runs.{History, run, start, whole_logs, with_event, world_after}
use Rattle.proof_deeds.specs.raft_node.WellFormed.{IsWellFormed}
use Rattle.proof_deeds.specs.raft_node.Work.{weight, worked}
use Rattle.proof_deeds.specs.proof_mirror.Ready.{InStep}
use Rattle.proof_deeds.proofs.proof_mirror_proofs.Ends.{Each, ends_each}
use Rattle.proof_deeds.proofs.proof_mirror_proofs.Shape.{shape_of, whole_end}
use Rattle.proof_deeds.specs.Images.{setup_of}
use Rattle.proof_deeds.specs.Nets.{EngineFollows, NodeFollows}
use Rattle.proof_deeds.proofs.AppendFitting.{Settled}
use Rattle.proof_deeds.proofs.Moments.{Stood, stood_of}
use Rattle.proof_deeds.proofs.Nodes.{each_at}
use Rattle.proof_deeds.proofs.Promised.{begins}
use Rattle.proof_deeds.proofs.Proved.{followed}
use Rattle.proof_clients.specs.Learners.{KeepsGroups, LearnersKeepGroups}
use Rattle.proof_clients.proofs.Brought.{Brings, NetGood, NodeGood, run_one, world_good}
use Rattle.proof_clients.proofs.Provenance.{whole_good}
use Rattle.proof_clients.proofs.Sources.{AllQ}

-- one to four groups, each ascending
record FewGroups (groups : List (List ℕ)) : Type 0 where
  some : 0 < length groups
  few : length groups ≤ 4
  ascend : AllByRecursion (IsStrictlySortedBy nat_cmp) groups

abbrev PayloadFits : Payload → Type 0
PayloadFits payload.Blank = Unit {0}
PayloadFits (payload.Value v) = Unit {0}
PayloadFits (payload.Membership m) = FewGroups m.groups

abbrev Fits : Entry → Type 0
Fits e = PayloadFits e.payload

-- Memberships that are proposed

up_to_four : (n : ℕ) → nat_lt 4 n ≡ false → n ≤ 4
up_to_four n e = grind (arith, nat_tests)

four_at_most : (n : ℕ) → n ≤ 4 → nat_lt 4 n ≡ false
four_at_most n l = grind (arith, nat_tests)

positive : (n : ℕ) → (n == 0) ≡ false → 0 < n
positive zero e = cc
positive (suc n) e = omega arith

-- the first membership
neither : (a b c : Bool) → (a || b || c) ≡ false → (a ≡ false) × (c ≡ false)
neither true b c e = cc
neither false true c e = cc
neither false false true e = cc
neither false false false e = (refl, refl)

first_fits : (given : Given) → IsWellFormed given → IsSound nat_cmp given.membership.groups given.membership.nodes → FewGroups given.membership.groups
first_fits given wf sound =
    let p : ((length given.membership.groups == 0) ≡ false) × (nat_lt 4 (length given.membership.groups) ≡ false) =
    neither (length given.membership.groups == 0) (list_any (λ group. length group == 0) given.membership.groups) (nat_lt 4 (length given.membership.groups)) wf.voters in
    record { some = positive (length given.membership.groups) p.0; few = up_to_four (length given.membership.groups) p.1; ascend = recursion_from_All (IsStrictlySortedBy nat_cmp) given.membership.groups sound.groups_ordered }

-- a shared group is one
none_shared : (gs : List (List ℕ)) → list_any (λ group. list_any (is_same_group nat_cmp group) []) gs ≡ true → ⊥
none_shared [] e = true≢false (sym e)
none_shared (g ∷ gs) e = none_shared gs e

some_shared : (gs hs : List (List ℕ)) → list_any (λ group. list_any (is_same_group nat_cmp group) hs) gs ≡ true → 0 < length hs
some_shared gs [] e = absurd (none_shared gs e)
some_shared gs (h ∷ hs) e = omega arith

proposed_fits : (present : Members ℕ (Unit {0})) (groups : List (List ℕ)) (learners : List ℕ) → skip_members present groups learners ≡ None → FewGroups (members_with groups learners).groups
proposed_fits present groups learners = go (nat_lt 4 (length groups)) refl (shares_group nat_cmp present (members_with groups learners)) refl
  where
    size : length (map (group_of nat_cmp) groups) ≡ length groups
    size = length-map groups (group_of nat_cmp)

    go : (a : Bool) → nat_lt 4 (length groups) ≡ a → (b : Bool) → shares_group nat_cmp present (members_with groups learners) ≡ b
        → ◌≡◌ {A = Option SkipReason} (if a then Some BadGroups else if not b then Some NoSharedGroup else if list_any (is_voter nat_cmp (members_with groups learners)) learners then Some BadLearners else None) None
        → FewGroups (members_with groups learners).groups
    go true p b q z = cc
    go false p false q z = cc
    go false p true q z =
        let l : length (map (group_of nat_cmp) groups) ≤ 4 = omega (arith, size, up_to_four (length groups) p) in
        record {
          some = some_shared present.groups (members_with groups learners).groups q;
          few = l;
          ascend = recursion_from_All (IsStrictlySortedBy nat_cmp) (map (group_of nat_cmp) groups) (groups_ascend nat_cmp nat_cmp_total groups);
        }

third : (a b c : Option SkipReason) → option_or a (option_or b c) ≡ None → c ≡ None
third None None c z = z
third None (Some x) c z = cc
third (Some x) b c z = cc

change_fits : (groups : List (List ℕ)) (learners : List ℕ) (e : EngineView) (l : WorldLeader) → e.machine.leader ≡ Some l → skip_change groups learners e ≡ None → FewGroups (members_with groups learners).groups
change_fits groups learners e l leads = go e.machine.leader leads
  where
    go : (o : Option WorldLeader) → o ≡ Some l
        → elim o as (λ _. Option SkipReason) [ None ↦ None | Some k ↦ option_or (skip_propose e) (option_or (skip_pending k.noop_log_id e.machine.core.state) (skip_members e.machine.core.state.em.membership groups learners)) ] ≡ None
        → FewGroups (members_with groups learners).groups
    go None q z = cc
    go (Some k) q z = proposed_fits e.machine.core.state.em.membership groups learners (third (skip_propose e) (skip_pending k.noop_log_id e.machine.core.state) (skip_members e.machine.core.state.em.membership groups learners) z)

runs : (act : Act) (n : NodeView) (e : EngineView) → n.engine ≡ Some e → skip_reason act n ≡ None → skip_running act n e ≡ None
runs act n e = go n.engine
  where
    go : (o : Option EngineView) → o ≡ Some e → elim o as (λ _. Option SkipReason) [ None ↦ skip_stopped act | Some f ↦ skip_running act n f ] ≡ None → skip_running act n e ≡ None
    go None q z = cc
    go (Some f) q z = let same : f ≡ e = cc in subst (λ (f : EngineView). skip_running act n f ≡ None) same z

brings : (net : Net (List Entry)) (kind : EventKind) → Brings Fits net kind
brings net (kinds.Propose n values) = λ i m p q s e l a b c. values_fit l.vote.leader_id (next l.last_log_id) values
  where
    values_fit : (leader : LeaderId ℕ) (k : ℕ) (vs : List Value) → AllByRecursion Fits (numbered entry_meaning leader k (map value_entry vs))
    values_fit leader k [] = tt
    values_fit leader k (v ∷ vs) = (tt, values_fit leader (k + 1) vs)
brings net (kinds.Member n learners) = λ i m p q s e l a b c. (change_fits (groups_in e) learners e l b (runs (ChangeLearners learners) m e a s), tt)
brings net (kinds.Change n groups learners) = λ i m p q s e l a b c. (change_fits groups learners e l b (runs (ChangeMembership groups learners) m e a s), tt)
brings net (kinds.Init n) = tt
brings net (kinds.Timeout n) = tt
brings net (kinds.Stand n) = tt
brings net (kinds.Deliver k) = tt
brings net (kinds.Heartbeat n) = tt
brings net (kinds.Fail n target) = tt
brings net (kinds.Snapshot n) = tt
brings net (kinds.Built n) = tt
brings net (kinds.Purge n i) = tt
brings net (kinds.Restart n start) = tt
brings net (kinds.Read n) = tt
brings net (kinds.Down n) = tt
brings net (kinds.Stop n) = tt

-- The last membership of a log that begins with one

stored_fits : (e : Entry) → Fits e → IfSome (stored_in entry_meaning e) (λ (m : StoredMembership ℕ (Unit {0})). FewGroups m.membership.groups)
stored_fits e = go e.payload
  where
    go : (p : Payload) → PayloadFits p → IfSome (stored_in entry_meaning (record { log_id = e.log_id; payload = p })) (λ (m : StoredMembership ℕ (Unit {0})). FewGroups m.membership.groups)
    go payload.Blank k = tt
    go (payload.Value v) k = tt
    go (payload.Membership m) k = k

abbrev Known : StoredMembership ℕ (Unit {0}) → Type 0
Known m = FewGroups m.membership.groups

each_known : (es : List Entry) → AllQ Fits es → Each Known (memberships_in entry_meaning es)
each_known [] h = tt
each_known (e ∷ es) h = go (stored_in entry_meaning e) (stored_fits e h.0) (each_known es h.1)
  where
    go : (o : Option (StoredMembership ℕ (Unit {0}))) → IfSome o Known → Each Known (memberships_in entry_meaning es) → Each Known (cons_option o (memberships_in entry_meaning es))
    go None k r = r
    go (Some m) k r = (k, r)

last_known : (m : StoredMembership ℕ (Unit {0})) (es : List Entry) → Known m → AllQ Fits es → Known (last_two (m ∷ memberships_in entry_meaning es)).1
last_known m es k h = go (memberships_in entry_meaning es) (each_known es h)
  where
    go : (ms : List (StoredMembership ℕ (Unit {0}))) → Each Known ms → Known (last_two (m ∷ ms)).1
    go [] r = k
    go (n ∷ ms) r = (ends_each Known m n ms k r.0 r.1).1

-- Why a change of the learners is skipped

abbrev NotGroups : SkipReason → Type 0
NotGroups r = (r ≢ BadGroups) × (r ≢ NoSharedGroup)

both : (a b : Bool) → a ≡ true → b ≡ true → (a && b) ≡ true
both true true h k = refl
both true false h k = cc
both false b h k = cc

same_itself : (g : List ℕ) → is_same_group nat_cmp g g ≡ true
same_itself [] = refl
same_itself (x ∷ xs) = both (is_eq (nat_cmp x x)) (is_same_group nat_cmp xs xs) (ap is_eq (tied_itself nat_cmp_total x)) (same_itself xs)

shared_itself : (gs : List (List ℕ)) → 0 < length gs → list_any (λ group. list_any (is_same_group nat_cmp group) gs) gs ≡ true
shared_itself [] l = absurd (omega (arith, l))
shared_itself (g ∷ gs) l = or_left (list_any (is_same_group nat_cmp g) (g ∷ gs)) _ (or_left (is_same_group nat_cmp g g) _ (same_itself g))

regrouped : (gs : List (List ℕ)) → AllByRecursion (IsStrictlySortedBy nat_cmp) gs → map (group_of nat_cmp) gs ≡ gs
regrouped [] a = refl
regrouped (g ∷ gs) a = rw (group_of_ascending nat_cmp nat_cmp_total nat_same g a.0) (ap (λ xs. g ∷ xs) (regrouped gs a.1))

-- not because of its groups, if these are the present ones
members_kept : (present : Members ℕ (Unit {0})) (learners : List ℕ) → FewGroups present.groups → IfSome (skip_members present present.groups learners) NotGroups
members_kept present learners f =
    go (nat_lt 4 (length present.groups)) (four_at_most (length present.groups) f.few) (shares_group nat_cmp present (members_with present.groups learners)) shared (list_any (is_voter nat_cmp (members_with present.groups learners)) learners)
  where
    shared : shares_group nat_cmp present (members_with present.groups learners) ≡ true
    shared =
        subst (λ (hs : List (List ℕ)). list_any (λ group. list_any (is_same_group nat_cmp group) hs) present.groups ≡ true) (sym (regrouped present.groups f.ascend)) (shared_itself present.groups f.some)

    go : (a : Bool) → a ≡ false → (b : Bool) → b ≡ true → (c : Bool) → IfSome (if a then Some BadGroups else if not b then Some NoSharedGroup else if c then Some BadLearners else None) NotGroups
    go true p b q c = absurd (true≢false p)
    go false p false q c = absurd (true≢false (sym q))
    go false p true q true = (λ z. cc, λ z. cc)
    go false p true q false = tt

or_kept : (a b : Option SkipReason) → IfSome a NotGroups → (a ≡ None → IfSome b NotGroups) → IfSome (option_or a b) NotGroups
or_kept None b h k = k refl
or_kept (Some r) b h k = h

propose_kept : (e : EngineView) → IfSome (skip_propose e) NotGroups
propose_kept e = go e.machine.leader
  where
    of : (b : Bool) → IfSome (if b then None else Some NotOwnVote) NotGroups
    of true = tt
    of false = (λ z. cc, λ z. cc)

    go : (o : Option WorldLeader) → IfSome (elim o as (λ _. Option SkipReason) [ None ↦ None | Some l ↦ (if is_eq (vote_cmp nat_cmp l.vote e.machine.core.state.vote) then None else Some NotOwnVote) ]) NotGroups
    go None = tt
    go (Some l) = of (is_eq (vote_cmp nat_cmp l.vote e.machine.core.state.vote))

pending_kept : (noop : LogId ℕ) (s : RaftState ℕ (Unit {0})) → IfSome (skip_pending noop s) NotGroups
pending_kept noop s = go (is_gt (last_id_cmp nat_cmp s.em.log_id s.committed)) (is_gt (last_id_cmp nat_cmp (Some noop) s.committed))
  where
    go : (a b : Bool) → IfSome (if a then Some MembershipPending else if b then Some BlankPending else None) NotGroups
    go true b = (λ z. cc, λ z. cc)
    go false true = (λ z. cc, λ z. cc)
    go false false = tt

-- nothing is pending once the leader has committed its no-op entry
none_pending : (noop : LogId ℕ) (s : RaftState ℕ (Unit {0})) → skip_pending noop s ≡ None → s.committed ≢ None
none_pending noop s q none =
    go (is_gt (last_id_cmp nat_cmp s.em.log_id None))
    (subst (λ (c : Option (LogId ℕ)). ◌≡◌ {A = Option SkipReason} (if is_gt (last_id_cmp nat_cmp s.em.log_id c) then Some MembershipPending else if is_gt (last_id_cmp nat_cmp (Some noop) c) then Some BlankPending else None) None) none q)
  where
    go : (b : Bool) → ◌≡◌ {A = Option SkipReason} (if b then Some MembershipPending else Some BlankPending) None → ⊥
    go true z = cc
    go false z = cc

learners_kept : (learners : List ℕ) (e : EngineView) → (e.machine.core.state.committed ≢ None → FewGroups e.machine.core.state.em.membership.groups) → IfSome (skip_learners learners e) NotGroups
learners_kept learners e f = go e.machine.leader
  where
    go : (o : Option WorldLeader)
        → IfSome (elim o as (λ _. Option SkipReason) [ None ↦ None | Some l ↦ option_or (skip_propose e) (option_or (skip_pending l.noop_log_id e.machine.core.state) (skip_members e.machine.core.state.em.membership (groups_in e) learners)) ]) NotGroups
    go None = tt
    go (Some l) =
        or_kept (skip_propose e) _ (propose_kept e)
        (λ _. or_kept (skip_pending l.noop_log_id e.machine.core.state) _ (pending_kept l.noop_log_id e.machine.core.state)
        (λ q. members_kept e.machine.core.state.em.membership learners (f (none_pending l.noop_log_id e.machine.core.state q))))

-- Outcomes

abbrev Kept : Outcome → Type 0
Kept o = (o ≢ Skipped BadGroups) × (o ≢ Skipped NoSharedGroup)

abbrev outcome_in : {X : Type 0} → Outcome × X → Outcome
outcome_in p = p.0

same_reason : (r s : SkipReason) → ◌≡◌ {A = Outcome} (Skipped r) (Skipped s) → r ≡ s
same_reason r s e = cc

skipped_kept : (r : SkipReason) → NotGroups r → Kept (Skipped r)
skipped_kept r h = (λ z. h.0 (same_reason r BadGroups z), λ z. h.1 (same_reason r NoSharedGroup z))

outcome_kept : (r : Option ℕ) (e : Option EngineView) → Kept (outcome_of r e)
outcome_kept (Some k) e = (λ z. cc, λ z. cc)
outcome_kept None (Some e) = (λ z. cc, λ z. cc)
outcome_kept None None = (λ z. cc, λ z. cc)

finish_kept : (t : Turn) (stop refusal : Option ℕ) (s : Scene (List Entry)) → Kept (finish whole_logs weight t stop refusal s).0
unfolding finish
finish_kept t stop refusal s = outcome_kept refusal (worked whole_logs (weight (work_of stop s)) t (work_of stop s)).engine

module _ (given : Given) where
  played_kept : (act : Act) (event : Event) (s : Scene (List Entry)) → IfSome (skip_reason act s.node) NotGroups → Kept (played whole_logs weight given act event s).0
  unfolding played
  played_kept act event s = go (skip_reason act s.node)
    where
      now : Scene (List Entry)
      now = called_at (moment_of event s.node) s

      go : (o : Option SkipReason) → IfSome o NotGroups
          → Kept (outcome_in {X = Scene (List Entry)} (elim o [
            | Some reason ↦ (Skipped reason, s)
            | None ↦ finish whole_logs weight (turn_of act now.node) event.stop (calls given act now).0 (calls given act now).1
          ]))
      go (Some reason) h = skipped_kept reason h
      go None h = finish_kept (turn_of act now.node) event.stop (calls given act now).0 (calls given act now).1

  -- a change of the learners, where each running engine that has committed something knows few groups
  member_kept : (event : Event) (net : Net (List Entry)) (id : ℕ) (learners : List ℕ) → event.kind ≡ kinds.Member id learners
      → ((i : ℕ) (n : NodeView) → slice_get net.nodes i ≡ Some n → (e : EngineView) → n.engine ≡ Some e → e.machine.core.state.committed ≢ None → FewGroups e.machine.core.state.em.membership.groups)
      → Kept (happens whole_logs weight given event net).0
  unfolding happens
  member_kept event net id learners kind known = by (aim_of net.records.bag event.kind) (ap (aim_of net.records.bag) kind)
    where
      reason : (i : ℕ) (n : NodeView) → slice_get net.nodes i ≡ Some n → (o : Option EngineView) → n.engine ≡ o → IfSome (elim o as (λ _. Option SkipReason) [ None ↦ Some NotRunning | Some e ↦ skip_learners learners e ]) NotGroups
      reason i n q None r = (λ z. cc, λ z. cc)
      reason i n q (Some e) r = learners_kept learners e (known i n q e r)

      by_place : (i : ℕ) (o : Option NodeView) → slice_get net.nodes i ≡ o
          → Kept (outcome_in {X = Net (List Entry)} (elim o [
            | None ↦ (Skipped NotRunning, net)
            | Some n ↦
                (let r = played whole_logs weight given (ChangeLearners learners) event (record { node = n; records = net.records }) in
                (r.0, record { nodes = slice_set net.nodes i r.1.node; records = r.1.records }))
          ]))
      by_place i None q = (λ z. cc, λ z. cc)
      by_place i (Some n) q = played_kept (ChangeLearners learners) event (record { node = n; records = net.records }) (reason i n q n.engine refl)

      by_id : (o : Option ℕ) → Kept (outcome_in {X = Net (List Entry)} (elim o [ None ↦ (Skipped NotRunning, net) | Some i ↦ at_place net i (played whole_logs weight given (ChangeLearners learners) event) ]))
      by_id None = (λ z. cc, λ z. cc)
      by_id (Some i) = by_place i (slice_get net.nodes i) refl

      by : (o : Option Aim) → o ≡ Some (record { id = id; act = ChangeLearners learners }) → Kept (outcome_in {X = Net (List Entry)} (elim o [ None ↦ (Skipped NoMessage, net) | Some aim ↦ at_node net aim.id (played whole_logs weight given aim.act event) ]))
      by None q = (λ z. cc, λ z. cc)
      by (Some aim) q =
          let same : ◌≡◌ {A = Aim} aim (record { id = id; act = ChangeLearners learners }) = cc in
          subst (λ (a : Aim). Kept (outcome_in {X = Net (List Entry)} (at_node net a.id (played whole_logs weight given a.act event)))) (sym same) (by_id (place_of net.nodes id))

-- Runs

none_committed : (o : Option (LogId ℕ)) → next o ≤ 0 → o ≡ None
none_committed None l = refl
none_committed (Some x) l = absurd (omega (arith, l))

module _ (given : Given) (wf : IsWellFormed given) (sound : IsSound nat_cmp given.membership.groups given.membership.nodes) where
  held : (past : List Event) → NetGood Fits (world_after given past)
  held past = world_good Fits (λ x. tt) given (first_fits given wf sound) past (λ k e q. brings (world_after given (take k past)) e.kind)

  -- what an engine knows that has committed something
  knows_few : (past : List Event) (i : ℕ) (n : NodeView) → slice_get (world_after given past).nodes i ≡ Some n → (e : EngineView) → n.engine ≡ Some e → e.machine.core.state.committed ≢ None → FewGroups e.machine.core.state.em.membership.groups
  knows_few past i n is e running some = go (whole n.store) refl
    where
      follows : NodeFollows (setup_of given.membership) (followed given wf past).world (world_after given past).records n
      follows = each_at (NodeFollows (setup_of given.membership) (followed given wf past).world (world_after given past).records) (world_after given past).nodes i n is (followed given wf past).follows.nodes

      engine : EngineFollows (setup_of given.membership) n (followed given wf past).world e
      engine = subst (λ (o : Option EngineView). IfSome o (EngineFollows (setup_of given.membership) n (followed given wf past).world)) running follows.engine

      in_step : InStep entry_meaning n.store e.machine.core.state
      in_step = engine.in_step

      there : Contains (world_after given past).nodes n
      there =
          each_at (Contains (world_after given past).nodes) (world_after given past).nodes i n is
          (recursion_from_All (Contains (world_after given past).nodes) (world_after given past).nodes (All-contains_itself (world_after given past).nodes))

      kept : NodeGood Fits n
      kept = each_at (NodeGood Fits) (world_after given past).nodes i n is (held past).nodes

      reaches : next e.machine.core.state.committed ≤ length (whole n.store)
      reaches = omega (arith, in_step.marks.committed, whole_end entry_meaning n.store e.machine.core.state (shape_of entry_meaning n.store e.machine.core.state in_step.mirrors in_step.marks))

      first : (x : Entry) → slice_get (whole n.store) 0 ≡ Some x → x ≡ first_entry given.membership
      first x q =
          let h : Stood given (Settled (setup_of given.membership)) _ (world_after given past) = stood_of given (Settled (setup_of given.membership)) _ (world_after given past) (followed given wf past) in
          begins (setup_of given.membership) (world_after given past) h.world h.stands n x there q

      go : (es : List Entry) → whole n.store ≡ es → FewGroups e.machine.core.state.em.membership.groups
      go [] q = absurd (some (none_committed e.machine.core.state.committed (subst (λ (es : List Entry). next e.machine.core.state.committed ≤ length es) q reaches)))
      go (x ∷ es) q =
          let begun : whole n.store ≡ first_entry given.membership ∷ es = q ∙ ap (λ y. y ∷ es) (first x (ap (λ (ys : List Entry). slice_get ys 0) q)) in
          let k : AllQ Fits (first_entry given.membership ∷ es) = subst (AllQ Fits) begun (whole_good Fits n.store kept.store) in
          subst Known (ap (λ ys. (last_two (memberships_in entry_meaning ys)).1) (sym begun) ∙ sym in_step.mirrors.em)
          (last_known (record { log_id = Some (first_entry given.membership).log_id; membership = given.membership }) es k.0 k.1)

  event_kept : (past : List Event) (event : Event) → KeepsGroups event.kind (happens whole_logs weight given event (world_after given past)).0
  event_kept past event = go event.kind refl
    where
      go : (kind : EventKind) → event.kind ≡ kind → KeepsGroups kind (happens whole_logs weight given event (world_after given past)).0
      go (kinds.Member n learners) q = member_kept given event (world_after given past) n learners q (knows_few past)
      go (kinds.Init n) q = tt
      go (kinds.Timeout n) q = tt
      go (kinds.Stand n) q = tt
      go (kinds.Deliver k) q = tt
      go (kinds.Propose n values) q = tt
      go (kinds.Heartbeat n) q = tt
      go (kinds.Fail n target) q = tt
      go (kinds.Snapshot n) q = tt
      go (kinds.Built n) q = tt
      go (kinds.Purge n i) q = tt
      go (kinds.Restart n start) q = tt
      go (kinds.Change n groups learners) q = tt
      go (kinds.Read n) q = tt
      go (kinds.Down n) q = tt
      go (kinds.Stop n) q = tt

  abbrev Keeps : AppliedEvent → Type 0
  Keeps p = KeepsGroups p.event.kind p.outcome

  one_more : (x : History (List Entry)) (e : Event) → KeepsGroups e.kind (happens whole_logs weight given e x.net).0 → AllByRecursion Keeps x.past → AllByRecursion Keeps (with_event whole_logs given x e).past
  unfolding with_event
  one_more x e k h = each_append Keeps x.past _ h (k, tt)

  all_kept : (past rest : List Event) → AllByRecursion Keeps (run whole_logs given past (start given)).past → AllByRecursion Keeps (run whole_logs given (past ++ rest) (start given)).past
  all_kept past [] h = subst (λ es. AllByRecursion Keeps (run whole_logs given es (start given)).past) (sym (append-nil past)) h
  all_kept past (e ∷ rest) h =
      subst (λ es. AllByRecursion Keeps (run whole_logs given es (start given)).past) (append_assoc past (e ∷ []) rest)
      (all_kept (past ++ e ∷ []) rest
      (subst (λ (x : History (List Entry)). AllByRecursion Keeps x.past) (sym (run_one given past e (start given))) (one_more (run whole_logs given past (start given)) e (event_kept past e) h)))

  pub learners_keep_groups : (es : List Event) → LearnersKeepGroups given es
  learners_keep_groups es = All-from_recursion Keeps (run whole_logs given es (start given)).past (all_kept [] es tt)
