-- The calls of changes of membership, and of a leader that steps down, leave a node at work.
use Rattle.std.proofs.Common.{ℕ, ◌<◌, ◌≡◌, List, [], ◌∷◌, refl, subst, Option, None, Some}
use Rattle.std.specs.Prelude.{is_some, if◌then◌else◌, IfSome}
use Rattle.std.specs.Ordering.{nat_cmp}
use Rattle.std.proofs.lemmas.Cmp.{nat_cmp_total}
use Rattle.raft_node.specs.raft_state.declared.membership.Members.{Members}
use Rattle.raft_node.specs.raft_state.Same.{nat_same}
use Rattle.raft_node.specs.raft_steps.Conditions.{MayPropose}
use Rattle.raft_node.specs.raft_steps.LeaderHandler.{leader_append_entries}
use Rattle.raft_node.specs.raft_steps.Parts.{led_of}
use Rattle.raft_node.specs.raft_steps.Refusals.{refusals_of_propose}
use Rattle.raft_node.specs.raft_steps.Starts.{leader_step_down, refusals_of_step_down}
use Rattle.raft_node.specs.raft_store.declared.entry.Entry.{Entry}
use Rattle.raft_node.specs.raft_store.Entries.{entry_meaning}
use Rattle.raft_node.specs.raft_store.Types.{EngineView, WorldLeader, WorldStore}
use Rattle.proof_mirror.specs.Ready.{Ordered}
use Rattle.proof_mirror.proofs.Starting.{pending_step_down}
use Rattle.raft_node.specs.raft_schedule.declared.event.SkipReason.{SkipReason}
use Rattle.raft_node.specs.raft_schedule.declared.event.SkipReason.TheVariants.{NotLeader}
use Rattle.raft_node.specs.declared.node.Turn.{Turn}
use Rattle.raft_node.specs.raft_calls.Held.{IsReady}
use Rattle.raft_node.specs.raft_calls.LeaderCalls.{skip_step_down, stepped_down}
use Rattle.raft_node.specs.raft_calls.Memberships.{members_with, membership_changed, membership_entry, skip_change}
use Rattle.proof_deeds.specs.Chains.{Reached}
use Rattle.proof_deeds.specs.Images.{Ideal, setup_of}
use Rattle.proof_deeds.proofs.Calls.{CallLaws, WorldState}
use Rattle.proof_deeds.proofs.Drains.{EngineWorks, takes}
use Rattle.proof_deeds.proofs.LeaderEvents.{membership_pending}
use Rattle.proof_deeds.proofs.LeaderLaws.{ordered_by}
use Rattle.proof_deeds.proofs.LeaderWorks.{at_work, call_works, led_works}
use Rattle.proof_deeds.proofs.Quorums.{means_setup}
use Rattle.raft_node.proofs.raft_calls_proofs.LeaderReady.{change_may}
use Rattle.std.specs.Option.{option_map}
use Rattle.raft_node.specs.raft_calls.Feeds.{WorldLed}

-- a node that leads
leads_of : (o : Option WorldLeader) → ◌≡◌ {A = Option SkipReason} (if is_some o then None else Some NotLeader) None → (l : WorldLeader) × (o ≡ Some l)
leads_of None q = cc
leads_of (Some l) q = (l, refl)

module _ (first : Members ℕ (Unit {0})) (Extra : Ideal → WorldState → Type 0) (laws : CallLaws first Extra) (t : Turn) (node : t.id < 18446744073709551616)
    (u : WorldStore) (W : Ideal) (r : Reached (setup_of first) W) (o : Ordered nat_cmp entry_meaning u)
    (e : EngineView) (h : EngineWorks first Extra t u W e) where
  abbrev Working : EngineView → Type 0
  Working f = EngineWorks first Extra t u W f

  -- the leader may propose a membership
  abbrev May : Entry → Option WorldLeader → Type 0
  May entry o = IfSome (option_map {U = WorldLed} (λ (l : WorldLeader). record { leader = l; core = e.machine.core }) o) (λ l. MayPropose nat_cmp entry_meaning l (entry ∷ []))

  -- it proposes it
  pub changed_works : (groups : List (List ℕ)) (learners : List ℕ) → skip_change groups learners e ≡ None → IsReady (membership_changed groups learners e).1 → Working (membership_changed groups learners e).1
  changed_works groups learners none k =
      led_works first Extra laws t node u W r o e h (refusals_of_propose 1) (leader_append_entries nat_cmp entry_meaning e.config (membership_entry (members_with groups learners) ∷ []))
      (λ l is a.
      let entry : Entry = membership_entry (members_with groups learners) in
      let may : MayPropose nat_cmp entry_meaning (led_of l e.machine.core.state e.machine.core.output) (membership_entry (members_with groups learners) ∷ []) =
      subst (May (membership_entry (members_with groups learners))) is (change_may groups learners e none) in (
        membership_pending first t e.config u W e.machine (at_work first Extra laws t node u W r o e h) l is entry (members_with groups learners) refl
            (ordered_by (setup_of first) (means_setup first) t e.config u W e.machine (at_work first Extra laws t node u W r o e h) l is (entry ∷ []) may a),
        laws.by_membership t e.config u W e.machine (at_work first Extra laws t node u W r o e h) entry (members_with groups learners) refl l is may a h.extra,
      ))
      k

  -- a leader steps down
  pub stepped_works : skip_step_down e ≡ None → IsReady (stepped_down e).1 → Working (stepped_down e).1
  stepped_works none k =
      let p : (l : WorldLeader) × (e.machine.leader ≡ Some l) = leads_of e.machine.leader none in
      call_works first Extra laws t node u W r o e h (refusals_of_step_down nat_cmp e.config e.machine) (leader_step_down nat_cmp entry_meaning e.config e.machine)
      (λ asks. (
        pending_step_down nat_cmp nat_cmp_total nat_same entry_meaning takes (λ es. es) e.config u e.machine h.pending h.ready.sound asks,
        laws.by_step_down t e.config u W e.machine (at_work first Extra laws t node u W r o e h) p.0 p.1 asks h.extra,
      ))
      k
