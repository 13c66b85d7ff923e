-- Engines of the cases that are in order, what their leaders may propose, and what they lend.
use Rattle.std.specs.Prelude.{◌≡◌, ◌≤◌, ◌⊎◌, ◌==◌, ◌||◌, ℕ, Bool, suc, List, [], ◌∷◌, Option, None, Some, IfSome, is_some, length, filter_map, not, true, false, refl}
use Rattle.std.specs.List.{AllByRecursion, list_all, list_any, cons_option}
use Rattle.std.specs.Option.{option_map}
use Rattle.std.proofs.lemmas.Bool.{and_parts}
use Rattle.std.proofs.Common.{sym, ap, ◌∙◌, subst, arith, inl, inr}
use Rattle.std.proofs.lemmas.Bool.Decides.{nat_tests}
use Rattle.std.proofs.lemmas.Cmp.{nat_cmp_total}
use Rattle.std.specs.Ordering.{nat_cmp, is_eq}
use Rattle.raft_state.specs.declared.config.RaftEntry
use Rattle.raft_state.specs.declared.ids.LeaderId.{LeaderId}
use Rattle.raft_state.specs.declared.ids.LogId.{LogId}
use Rattle.raft_state.specs.declared.membership.Members.{Members}
use Rattle.raft_state.specs.declared.state.RaftState.{RaftState}
use Rattle.raft_state.specs.Fits.{fits, is_below}
use Rattle.raft_state.specs.Invariants.{StateFits}
use Rattle.raft_state.specs.Log.{at}
use Rattle.raft_state.specs.Order.{vote_cmp}
use Rattle.raft_state.specs.Same.{nat_same}
use Rattle.raft_state.specs.State.{empty}
use Rattle.raft_state.proofs.StateLaws.{is_found_at}
use Rattle.raft_command.specs.declared.config.EngineConfig.{EngineConfig}
use Rattle.raft_steps.specs.Conditions.{MayPropose, may_change_membership}
use Rattle.raft_steps.specs.FollowingHandler.{memberships_in, stored_in}
use Rattle.raft_steps.specs.Invariants.{CandidateFits, LeaderFits, IsSoundUnlessSpent, EntryFits, IsSoundLedUnlessSpent, StaysSoundLed}
use Rattle.raft_steps.specs.Parts.{Led, Machine, Core, core_of, led_in, led_machine, led_of, machine_of, unboxed}
use Rattle.raft_steps.proofs.Memberships.{has_memberships}
use Rattle.std.proofs.lemmas.Map.Lookups.{exact_unsigned}
use Rattle.std.specs.declared.alloc.Global.{Global}
use Rattle.std.specs.declared.boxed.Box.{Box}
use Rattle.raft_command.specs.declared.command.Command.{Command}
use Rattle.raft_command.specs.Queue.{Queue}
use Rattle.raft_progress.specs.Table.{get}
use Rattle.raft_progress_entry.specs.declared.entry.ProgressEntry.{ProgressEntry}
use Rattle.raft_proposer.specs.Joint.{JointCandidate, JointLeader}
use Rattle.raft_steps.specs.ReplicationHandler.{with_entry}
use Rattle.raft_steps.proofs.KeptCommit.{entry_kept, row_each}

-- a state without a log is in order, whichever vote it has
no_log : (leader : LeaderId ℕ) → StateFits nat_cmp leader [] None None None None None
no_log leader = record {
  log = record { by_vote = tt; rising = tt; run = tt; below_end = tt; first = tt };
  marks = record { at_purged = refl; at_target = refl; at_snapshot = refl; at_committed = refl; target_fits = refl; snapshot_fits = refl; committed_fits = refl };
  accepted = tt;
}

-- so is a new node's state that has got a vote
pub voted : (s : RaftState ℕ ℕ) (first : ℕ) (leader : LeaderId ℕ) → s ≡ empty first → StateFits nat_cmp leader s.ids s.purged s.purge_to s.snap.last_log_id s.committed s.accepted_by
voted s first leader e = subst (λ (x : RaftState ℕ ℕ). StateFits nat_cmp leader x.ids x.purged x.purge_to x.snap.last_log_id x.committed x.accepted_by) (sym e) (no_log leader)

-- an id at its place in a log fits it
pub held_fits : (ids : List (LogId ℕ)) (purged : Option (LogId ℕ)) (x : LogId ℕ) (index : ℕ) → x.index ≡ index → at ids index ≡ Some x
    → fits nat_cmp ids purged (Some x) ≡ true
held_fits ids purged x index place held =
    let there : at ids x.index ≡ Some x = subst (λ i. at ids i ≡ Some x) (sym place) held in
    ap (λ b. b || is_below nat_cmp (Some x) purged) (is_found_at nat_cmp nat_cmp_total nat_same ids x _ there)

-- an engine stays in order under settings that name the same node
pub settings_sound : {C N E D R S : Type 0} (config given : EngineConfig ℕ) (m : Machine C ℕ N E D R S) → config.id ≡ given.id
    → IsSoundUnlessSpent nat_cmp config m → IsSoundUnlessSpent nat_cmp given m
settings_sound config given m same h = λ unspent.
    let s = h unspent in
    record {
      sound = s.sound;
      lead = record {
        leader_fits = subst (λ id. IfSome m.leader (LeaderFits nat_cmp id m.core.state.ids m.core.state.purged m.core.state.em.membership)) same s.lead.leader_fits;
        candidate_fits = subst (λ id. IfSome m.candidate (CandidateFits nat_cmp id m.core.state.vote m.core.state.ids m.core.state.em.membership)) same s.lead.candidate_fits;
      };
    }

-- at most as many of a list's items give something as there are
one_more : {X : Type 0} (o : Option X) (xs : List X) (n : ℕ) → length xs ≤ n → length (cons_option o xs) ≤ suc n
one_more None xs n h = omega (arith, h)
one_more (Some x) xs n h = omega (arith, h)

given_by : {X Y : Type 0} (f : X → Option Y) (xs : List X) → length (filter_map f xs) ≤ length xs
given_by f [] = omega (arith)
given_by f (x ∷ xs) = one_more (f x) (filter_map f xs) (length xs) (given_by f xs)

none_is_few : (n : ℕ) → (n == 0) ≡ true → n ≤ 1
none_is_few n h = grind (arith, nat_tests)

-- one entry has one membership at most, and so have entries without one
at_most_one : {NID N E : Type 0} (own : RaftEntry.Ghosts E NID N) (es : List E)
    → (length es ≤ 1) ⊎ (list_any (λ e. is_some (own.membership_of e)) es ≡ false) → length (memberships_in own es) ≤ 1
at_most_one own es (inl few) = omega (arith, given_by (stored_in own) es, few)
at_most_one own es (inr none) = none_is_few (length (memberships_in own es)) (has_memberships own es ∙ ap not none)

-- memberships each of which may follow the effective one
each_may : {NID N E : Type 0} (own : RaftEntry.Ghosts E NID N) (may : Members NID N → Bool) (es : List E)
    → list_all (λ e. elim (own.membership_of e) as (λ _. Bool) [ None ↦ true | Some m ↦ may m ]) es ≡ true → AllByRecursion (λ m. may m.membership ≡ true) (memberships_in own es)
each_may own may [] h = tt
each_may {NID = NID} {N = N} own may (e ∷ es) h =
    let p = and_parts (elim (own.membership_of e) as (λ _. Bool) [ None ↦ true | Some m ↦ may m ]) _ h in
    by (own.membership_of e) p.0 (each_may own may es p.1) where
      by : (o : Option (Members NID N)) → elim o as (λ _. Bool) [ None ↦ true | Some m ↦ may m ] ≡ true → AllByRecursion (λ m. may m.membership ≡ true) (memberships_in own es)
          → AllByRecursion (λ m. may m.membership ≡ true) (cons_option (option_map (λ m. record { log_id = Some (own.id_of e); membership = m }) o) (memberships_in own es))
      by None h k = k
      by (Some m) h k = (h, k)

-- what the leader, where there is one, may propose
pub may_propose : {C N E D R S : Type 0} (own : RaftEntry.Ghosts E ℕ N) (o : Option (Led C ℕ N E D R S)) (es : List E)
    → IfSome o (λ l. is_eq (vote_cmp nat_cmp l.leader.vote l.core.state.vote) ≡ true)
    → (length es ≤ 1) ⊎ (list_any (λ e. is_some (own.membership_of e)) es ≡ false)
    → list_all (λ e. elim (own.membership_of e) as (λ _. Bool) [ None ↦ true | Some m ↦ elim o as (λ _. Bool) [ None ↦ false | Some l ↦ may_change_membership nat_cmp l m ] ]) es ≡ true
    → IfSome o (λ l. MayPropose nat_cmp own l es)
may_propose own None es vote few may = tt
may_propose own (Some l) es vote few may = record {
  own_vote = vote;
  at_most_one = at_most_one own es few;
  change = each_may own (may_change_membership nat_cmp l) es may;
}

-- the leader of an engine in order is in order
pub led_sound : {C N E D R S : Type 0} (config : EngineConfig ℕ) (l : Led C ℕ N E D R S) (candidate : Option (JointCandidate ℕ))
    → IsSoundUnlessSpent nat_cmp config (led_machine l candidate) → IsSoundLedUnlessSpent nat_cmp config l
led_sound config l candidate h = λ unspent. let s = h unspent in record { sound = s.sound; leader_fits = s.lead.leader_fits }

-- so is the leader of an engine's parts, where there is one
each_led : {C N E D R S : Type 0} (config : EngineConfig ℕ) (core : Core C ℕ N E D R S) (leader : Option (JointLeader C ℕ N E D R S)) (candidate : Option (JointCandidate ℕ))
    → IsSoundUnlessSpent nat_cmp config (record { core = core; leader = leader; candidate = candidate })
    → IfSome (led_in (record { core = core; leader = leader; candidate = candidate })) (IsSoundLedUnlessSpent nat_cmp config)
each_led config core None candidate h = tt
each_led config core (Some l) candidate h = led_sound config (record { leader = l; core = core }) candidate h

-- what an engine in order lends to its leader's handlers is in order
pub lent_sound : {C N E D R S : Type 0} (config given : EngineConfig ℕ) (m : Machine C ℕ N E D R S) (l seen : Led C ℕ N E D R S)
    → given ≡ config → led_in m ≡ Some l → seen ≡ l → IsSoundUnlessSpent nat_cmp config m → IsSoundLedUnlessSpent nat_cmp given seen
lent_sound {C} {N} {E} {D} {R} {S} config given m l seen same lent is h =
    let led : IsSoundLedUnlessSpent nat_cmp config l =
    subst (λ (o : Option (Led C ℕ N E D R S)). IfSome o (IsSoundLedUnlessSpent nat_cmp config)) lent (each_led config m.core m.leader m.candidate h) in
    subst (λ (x : EngineConfig ℕ). IsSoundLedUnlessSpent nat_cmp x seen) (sym same)
    (subst (λ (x : Led C ℕ N E D R S). IsSoundLedUnlessSpent nat_cmp config x) (sym is) led)

-- an engine stays in order by what keeps its leader in order
pub stays_led : {C N E D R S : Type 0} (config : EngineConfig ℕ) (o : Option (Box (JointLeader C ℕ N E D R S) Global)) (b : Box (JointLeader C ℕ N E D R S) Global)
    (seen new : JointLeader C ℕ N E D R S) (s t : RaftState ℕ N) (q r : Queue (Command C ℕ N E D R S)) (candidate : Option (JointCandidate ℕ))
    → o ≡ Some b → seen ≡ b.value → StaysSoundLed nat_cmp config (led_of seen s q) (led_of new t r)
    → IsSoundUnlessSpent nat_cmp config (machine_of s q o candidate) → IsSoundUnlessSpent nat_cmp config (led_machine (led_of new t r) candidate)
stays_led {C} {N} {E} {D} {R} {S} config o b seen new s t q r candidate is same stays h =
    let lead : unboxed o ≡ Some seen = ap unboxed is ∙ ap Some (sym same) in
    stays candidate
    (subst (λ (l : Option (JointLeader C ℕ N E D R S)). IsSoundUnlessSpent nat_cmp config (record { core = core_of s q; leader = l; candidate = candidate })) lead h)

-- a candidate that was taken out of an engine in order
pub taken_sound : {C N E D R S : Type 0} (config given : EngineConfig ℕ) (m seen : Machine C ℕ N E D R S) (c : JointCandidate ℕ) → given ≡ config → m.candidate ≡ Some c
    → seen ≡ record m { candidate = None } → IsSoundUnlessSpent nat_cmp config m → IsSoundUnlessSpent nat_cmp given (record seen { candidate = Some c })
taken_sound {C} {N} {E} {D} {R} {S} config given m seen c same held lent h =
    let with_it : m ≡ record m { candidate = Some c } = ap (λ (o : Option (JointCandidate ℕ)). record m { candidate = o }) held in
    let whole : m ≡ record seen { candidate = Some c } = with_it ∙ ap (λ (x : Machine C ℕ N E D R S). record x { candidate = Some c }) (sym lent) in
    subst (λ (x : Machine C ℕ N E D R S). IsSoundUnlessSpent nat_cmp given x) whole (subst (λ (x : EngineConfig ℕ). IsSoundUnlessSpent nat_cmp x m) (sym same) h)

-- a leader stays in order whose last request to a node has another number
pub numbered : {C N E D R S : Type 0} (config : EngineConfig ℕ) (l : Led C ℕ N E D R S) (new : JointLeader C ℕ N E D R S) (target n : ℕ) (e v : ProgressEntry ℕ)
    → get nat_cmp l.leader.progress target ≡ Some e → v ≡ record e { last_inflight_id = n } → new ≡ (with_entry nat_cmp l target v).leader
    → StaysSoundLed nat_cmp config l (record l { leader = new })
numbered {C} {N} {E} {D} {R} {S} config l new target n e v held same is = λ candidate h unspent.
    let s = h unspent in
    let Fits = EntryFits nat_cmp l.core.state.ids l.core.state.purged in
    let k : Fits e = subst (λ o. IfSome o Fits) held (row_each nat_cmp Fits target l.leader.progress.rows s.lead.leader_fits.entries) in
    let fit : Fits (record e { last_inflight_id = n }) = record { matching = k.matching; above = k.above; below = k.below; ahead = k.ahead } in
    let kept = entry_kept nat_cmp nat_cmp_total exact_unsigned config target v l (subst Fits (sym same) fit) (record { sound = s.sound; leader_fits = s.lead.leader_fits }) in
    record {
      sound = kept.sound;
      lead = record {
        leader_fits = subst (LeaderFits nat_cmp config.id l.core.state.ids l.core.state.purged l.core.state.em.membership) (sym is) kept.leader_fits;
        candidate_fits = s.lead.candidate_fits;
      };
    }
