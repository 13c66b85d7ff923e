-- So it is in each reached world in which no learner stood, and each proposer of a membership stayed a voter.
use Rattle.std.proofs.Common.{ℕ, ◌≡◌, ◌∙◌, Bool, true, false, List, [], ◌∷◌, ◌++◌, refl, sym, ap, subst, Option, None, Some}
use Rattle.std.specs.Prelude.{Err, IfSome, if◌then◌else◌, is_some}
use Rattle.std.specs.List.{AllByRecursion}
use Rattle.std.specs.Option.{option_map}
use Rattle.std.specs.Ordering.{is_gt, nat_cmp}
use Rattle.std.proofs.lemmas.Cmp.{nat_cmp_total}
use Rattle.proof_deeds.specs.raft_state.declared.ids.LogId.{LogId}
use Rattle.proof_deeds.specs.raft_state.declared.membership.SnapshotMeta.{SnapshotMeta}
use Rattle.proof_deeds.specs.raft_state.declared.membership.StoredMembership.{StoredMembership}
use Rattle.proof_deeds.specs.raft_state.declared.state.RaftState.{RaftState}
use Rattle.proof_deeds.specs.raft_state.Members.{voter_ids}
use Rattle.proof_deeds.specs.raft_state.Order.{last_id_cmp}
use Rattle.proof_deeds.specs.raft_state.Same.{nat_same}
use Rattle.proof_deeds.proofs.raft_state_proofs.Orders.{is_equal}
use Rattle.proof_deeds.specs.raft_error.declared.error.EngineError.{EngineError}
use Rattle.proof_deeds.specs.raft_command.declared.config.EngineConfig.{EngineConfig}
use Rattle.proof_deeds.specs.raft_command.Queue.{popped}
use Rattle.proof_deeds.specs.raft_progress_entry.declared.entry.ProgressEntry.{ProgressEntry}
use Rattle.proof_deeds.specs.raft_steps.Invariants.{IsSound, LeaderFits}
use Rattle.proof_deeds.specs.raft_steps.LogHandler.{is_target_inflight, purge_log, schedule_policy_based_purge, try_purge_log}
use Rattle.proof_deeds.specs.raft_steps.Refusals.{refusals_of_spent, rows_in}
use Rattle.proof_deeds.specs.raft_steps.SnapshotCalls.{built, finish_building_snapshot}
use Rattle.proof_deeds.specs.raft_steps.SnapshotHandler.{is_newer_snapshot, update_snapshot}
use Rattle.proof_deeds.specs.raft_steps.Laws.{QueuesOnly}
use Rattle.proof_deeds.proofs.raft_steps_proofs.Kept.{either, either_option}
use Rattle.proof_deeds.proofs.raft_steps_proofs.LawsReply.{purge_leaves}
use Rattle.proof_deeds.specs.raft_store.declared.entry.Entry.{Entry}
use Rattle.proof_deeds.specs.raft_store.Built.{keep_snapshot, last_membership, meta_of}
use Rattle.proof_deeds.specs.raft_store.Entries.{entry_meaning}
use Rattle.proof_deeds.specs.raft_store.Mirror.{Mirrors}
use Rattle.proof_deeds.specs.raft_store.Restart.{forgotten, is_outrun, restarted, settled, settled_by}
use Rattle.proof_deeds.specs.raft_store.Store.{whole}
use Rattle.proof_deeds.specs.raft_store.Types.{EngineView, WorldCommand, WorldLeader, WorldMachine, WorldStore}
use Rattle.proof_deeds.specs.raft_schedule.declared.event.Event.{Event}
use Rattle.proof_deeds.specs.raft_schedule.declared.event.EventKind.{EventKind}
use Rattle.proof_deeds.specs.raft_schedule.declared.event.EventKind.TheVariants as kinds
use Rattle.proof_deeds.specs.raft_schedule.declared.event.SkipReason.{SkipReason}
use Rattle.proof_deeds.specs.raft_schedule.declared.event.SkipReason.TheVariants.{NotLeader}
use Rattle.proof_deeds.specs.raft_schedule.declared.event.Start.{Start}
use Rattle.proof_deeds.specs.raft_schedule.declared.event.Start.TheVariants as starts
use Rattle.proof_deeds.specs.raft_calls.declared.elections.Candidates.TheVariants.{AllMembers, Voters}
use Rattle.proof_deeds.specs.raft_calls.declared.message.Body.{Body}
use Rattle.proof_deeds.specs.raft_calls.declared.message.Body.TheVariants as body
use Rattle.proof_deeds.specs.raft_calls.declared.message.Message.{Message}
use Rattle.proof_deeds.specs.raft_calls.Deliveries.{answered, deliver, with_machine}
use Rattle.proof_deeds.specs.raft_calls.Elections.{elected, initialized}
use Rattle.proof_deeds.specs.raft_calls.Engines.{with_queue}
use Rattle.proof_deeds.specs.raft_calls.Feeds.{feed}
use Rattle.proof_deeds.specs.raft_calls.LeaderCalls.{failed, heartbeats_sent, inflight_to, proposed, read_asked, request_of, stepped_down}
use Rattle.proof_deeds.specs.raft_calls.Memberships.{groups_in, learners_changed, membership_changed}
use Rattle.proof_deeds.specs.raft_calls.Snapshots.{purge_triggered, snapshot_triggered, told_built}
use Rattle.proof_deeds.specs.raft_calls.Starts.{begun_anew, resumed}
use Rattle.proof_deeds.proofs.raft_calls_proofs.Falls.{WorldCore}
use Rattle.proof_deeds.specs.raft_node.declared.act.Act.{Act}
use Rattle.proof_deeds.specs.raft_node.declared.act.Act.TheVariants.{ChangeLearners, ChangeMembership, Elect, Fail, FinishSnapshot, Initialize, Propose, Read, Restart, SendHeartbeat, StepDown, Stop, Take, TriggerPurge, TriggerSnapshot}
use Rattle.proof_deeds.specs.raft_node.declared.act.Aim.{Aim}
use Rattle.proof_deeds.specs.raft_node.declared.given.Given.{Given}
use Rattle.proof_deeds.specs.raft_node.declared.node.Turn.{Turn}
use Rattle.proof_deeds.specs.raft_node.Events.{aim_of, calls_at, message_at, on_engine, skip_reason, turn_of}
use Rattle.proof_deeds.specs.raft_node.Execute.{exec}
use Rattle.proof_deeds.specs.raft_node.Net.{NodeView}
use Rattle.proof_deeds.specs.raft_node.Runs.{whole_logs, world_after}
use Rattle.proof_deeds.specs.raft_node.Snapshots.{finish_snapshot, kept_built}
use Rattle.proof_deeds.specs.raft_node.Starts.{engine_on, restart}
use Rattle.proof_deeds.specs.raft_node.WellFormed.{IsWellFormed}
use Rattle.proof_deeds.specs.raft_node.Work.{Work, done_of, one_less, step_of, stopped, stops, work_step}
use Rattle.proof_deeds.proofs.raft_node_proofs.Ready.{node_after, runs_unskipped, skip_moved}
use Rattle.proof_deeds.specs.proof_agreement.Stores as stores
use Rattle.proof_deeds.specs.proof_mirror.Ready.{Awaits, Ordered, Shaped}
use Rattle.proof_deeds.proofs.proof_mirror_proofs.Restarting.{restart_in_step}
use Rattle.proof_deeds.specs.Chains.{left_by, stored}
use Rattle.proof_deeds.specs.Follows.{BodyIs}
use Rattle.proof_deeds.specs.Images.{Ideal, setup_of}
use Rattle.proof_deeds.specs.Knows.{KnowsLed}
use Rattle.proof_deeds.specs.Nets.{EngineFollows, NodeFollows}
use Rattle.proof_deeds.proofs.AppendFitting.{Settled}
use Rattle.proof_deeds.proofs.Drains.{EngineWorks, both_some}
use Rattle.proof_deeds.proofs.Events.{ActFits}
use Rattle.proof_deeds.proofs.Executed.{exec_stores}
use Rattle.proof_deeds.proofs.Joined.{Followed, aimed}
use Rattle.proof_deeds.proofs.AllLaws.{all_laws}
use Rattle.proof_deeds.proofs.Nodes.{moved_follows}
use Rattle.proof_deeds.proofs.Overlap.{laps}
use Rattle.proof_deeds.proofs.Promised.{one_of}
use Rattle.proof_deeds.proofs.Proved.{followed}
use Rattle.proof_deeds.proofs.Worlds.{each_on}
use Rattle.proof_progress.specs.Changes.{KeepsProposer, LeaderVotes, LeadersVote, OnlyVotersStand, OwnsVote}
use Rattle.proof_progress.specs.Choices.{is_among}
use Rattle.proof_progress.specs.Elections.{Listed, members}
use Rattle.proof_progress.proofs.EntriesQueued.{finish-only}
use Rattle.proof_progress.proofs.FoundWhole.{settled_whole}
use Rattle.proof_progress.proofs.LeadersVote.{Good, IsOthers, Knows, Waits, after_of, begun_good, changed_good, deliver_good, elected_good, fed_good, heartbeats_good, initialized_good, led_votes, none_grows, progressed_good, proposed_good, purged_good, resumed_good, stepped_good, triggered_good}
use Rattle.proof_progress.proofs.Throughout.{AllHold, AtWork, CallsKeep, CommandsKeep, run_holds}
use Rattle.proof_progress.proofs.VoteQueues.{Adds, Fine, Mild, Plain, Safely, Votes, mild_end, plain_safely, safely_end, safely_here, safely_then}
use Rattle.proof_progress.proofs.Voters.{voter_votes}
use Rattle.proof_progress.proofs.VotersStand.{Among, HasStood, LetsNone, aimed_none, calls_stood, commands_stood, stood_votes}

-- a node is fine, and stays so while its queue is executed
abbrev Safe : ℕ → WorldStore → Option EngineView → Type 0
Safe id t None = Fine id t
Safe id t (Some e) = Safely id t e.machine.core.output.items

abbrev HasLed : ℕ → WorldStore → Option EngineView → Type 0
HasLed id t o = HasStood id t o × Safe id t o

safe_now : (id : ℕ) (t : WorldStore) (o : Option EngineView) → Safe id t o → Fine id t
safe_now id t None h = h
safe_now id t (Some e) h = safely_here id t e.machine.core.output.items h

abbrev work_in : Work (List Entry) → Work (List Entry)
work_in w = w

abbrev store_in : WorldStore → WorldStore
store_in t = t

mild_of : (cs : List WorldCommand) → AllByRecursion Plain cs → AllByRecursion Mild cs
mild_of [] h = tt
mild_of (c ∷ cs) h = (h.0.0, mild_of cs h.1)

-- what is known of an engine
knows_of : (id : ℕ) (u : WorldStore) (e : EngineView) → e.config.id ≡ id → IsSound nat_cmp e.config e.machine
    → Mirrors entry_meaning u e.machine.core.state → IfSome e.machine.leader (λ l. l.vote ≡ e.machine.core.state.vote)
    → IfSome e.machine.candidate (Among id) → Fine id u → Knows id u e
knows_of id u e own sound mirrors led stood fine = record {
  own = own;
  mirrors = mirrors;
  fine = fine;
  candidate = stood_votes id e own sound stood;
  leader = both_some (λ (l : WorldLeader). l.vote ≡ e.machine.core.state.vote) (LeaderFits nat_cmp e.config.id e.machine.core.state.ids e.machine.core.state.purged (members e)) (λ (l : WorldLeader). (l.vote ≡ e.machine.core.state.vote) × OwnsVote id l.vote)
      (λ l q f. (q, (f.committed, nat_same l.vote.leader_id.node_id e.config.id (is_equal (nat_cmp l.vote.leader_id.node_id e.config.id) f.own) ∙ own))) e.machine.leader led sound.lead.leader_fits;
}

-- what a call adds to a queue that is safe
safe_after : (id : ℕ) (t : WorldStore) (old new : WorldCore) → Safely id t old.output.items → Adds id (left_by t old.output.items) old new
    → Safely id t new.output.items
safe_after id t old new h a = subst (Safely id t) (sym a.items) (safely_then id t old.output.items a.added h a.safe)

module _ (given : Given) where
  abbrev Engine : Turn → WorldStore → Ideal → EngineView → Type 0
  Engine t u W e = EngineWorks given.membership (Settled (setup_of given.membership)) t u W e

  -- the engine's leader has the state's vote
  led_vote : (t : Turn) (u : WorldStore) (W : Ideal) (e : EngineView) → Engine t u W e
      → IfSome e.machine.leader (λ l. l.vote ≡ e.machine.core.state.vote)
  led_vote t u W e k = go e.machine.leader k.carried.knows.leader
    where
      go : (o : Option WorldLeader) → IfSome o (λ l. KnowsLed (setup_of given.membership) t.id e.machine.core.state l k.carried.end)
          → IfSome o (λ l. l.vote ≡ e.machine.core.state.vote)
      go None h = tt
      go (Some l) h = h.vote

  -- Commands

  commands_safe : (t : Turn) (since : Ideal) (w : Work (List Entry)) → AtWork given t since w → AtWork given t since (work_step whole_logs t w)
      → HasLed t.id w.effects.store w.engine → Safe t.id (work_step whole_logs t w).effects.store (work_step whole_logs t w).engine
  commands_safe t since w works next h = go w.engine works.engine h next
    where
      u : WorldStore
      u = w.effects.store

      done : (e : EngineView) (c : WorldCommand) (cs : List WorldCommand) → e.machine.core.output.items ≡ c ∷ cs
          → Engine t w.effects.store works.world e → HasLed t.id w.effects.store (Some e)
          → AtWork given t since (done_of whole_logs t w (with_queue e (record e.machine.core.output { items = cs })) c)
          → Safe t.id (done_of whole_logs t w (with_queue e (record e.machine.core.output { items = cs })) c).effects.store (done_of whole_logs t w (with_queue e (record e.machine.core.output { items = cs })) c).engine
      done e c cs is k h n = by (stops w.left) n
        where
          behind : EngineView
          behind = with_queue e (record e.machine.core.output { items = cs })

          fed : EngineView
          fed = feed t.moment c (with_queue e (record e.machine.core.output { items = cs }))

          storing : (exec whole_logs t (with_queue e (record e.machine.core.output { items = cs })) c w.effects).store ≡ stored c w.effects.store
          storing = exec_stores t (with_queue e (record e.machine.core.output { items = cs })) w.effects c

          rest : Safely t.id (stored c w.effects.store) cs
          rest = (subst (Safely t.id w.effects.store) is h.1).1

          waits : Awaits nat_cmp entry_meaning (λ es. es) w.effects.store (c ∷ cs) e.machine.core.state
          waits = subst (λ ds. Awaits nat_cmp entry_meaning (λ es. es) w.effects.store ds e.machine.core.state) is k.pending.core

          knows : Knows t.id (left_by (stored c w.effects.store) cs) (with_queue e (record e.machine.core.output { items = cs }))
          knows = knows_of t.id (left_by (stored c w.effects.store) cs) behind k.id (record { sound = k.ready.sound.sound; lead = k.ready.sound.lead }) waits.in_step.mirrors (led_vote t w.effects.store works.world e k) h.0 (safely_end t.id (stored c w.effects.store) cs rest)

          by : (b : Bool)
              → AtWork given t since (if b then stopped (exec whole_logs t behind c w.effects) else record { engine = Some fed; effects = exec whole_logs t behind c w.effects; left = one_less w.left })
              → Safe t.id (work_in (if b then stopped (exec whole_logs t behind c w.effects) else record { engine = Some fed; effects = exec whole_logs t behind c w.effects; left = one_less w.left })).effects.store
              (work_in (if b then stopped (exec whole_logs t behind c w.effects) else record { engine = Some fed; effects = exec whole_logs t behind c w.effects; left = one_less w.left })).engine
          by true n = subst (Fine t.id) (sym storing) (safely_here t.id (stored c w.effects.store) cs rest)
          by false n =
              let a : Waits (stored c w.effects.store) fed.machine.core = subst (λ x. Waits x fed.machine.core) storing n.engine.pending.core in
              subst (λ x. Safely t.id x fed.machine.core.output.items) (sym storing)
              (safe_after t.id (stored c w.effects.store) behind.machine.core fed.machine.core rest
              (fed_good t.id (left_by (stored c w.effects.store) cs) behind knows t.moment c (after_of (stored c w.effects.store) behind.machine.core fed.machine.core a)))

      of : (e : EngineView) (cs : List WorldCommand) → e.machine.core.output.items ≡ cs → Engine t w.effects.store works.world e
          → HasLed t.id w.effects.store (Some e)
          → AtWork given t since (step_of whole_logs t w e (popped (record e.machine.core.output { items = cs })))
          → Safe t.id (step_of whole_logs t w e (popped (record e.machine.core.output { items = cs }))).effects.store (step_of whole_logs t w e (popped (record e.machine.core.output { items = cs }))).engine
      of e [] is k h' n = h.1
      of e (c ∷ cs) is k h' n = done e c cs is k h' n

      go : (o : Option EngineView) → IfSome o (Engine t w.effects.store works.world) → HasLed t.id w.effects.store o
          → AtWork given t since (elim o as (λ _. Work (List Entry)) [ None ↦ w | Some e ↦ step_of whole_logs t w e (popped e.machine.core.output) ])
          → Safe t.id (work_in (elim o as (λ _. Work (List Entry)) [ None ↦ w | Some e ↦ step_of whole_logs t w e (popped e.machine.core.output) ])).effects.store
          (work_in (elim o as (λ _. Work (List Entry)) [ None ↦ w | Some e ↦ step_of whole_logs t w e (popped e.machine.core.output) ])).engine
      go None k h' n = h.1
      go (Some e) k h' n = of e e.machine.core.output.items refl k h' n

  commands_led : CommandsKeep given HasLed
  commands_led t since w works next h = (commands_stood given t since w works next h.0, commands_safe t since w works next h)

  -- Calls

  -- an act that changes the voters leaves its node one
  abbrev Proposes : ℕ → Act → Type 0
  Proposes id (ChangeMembership groups learners) = is_among groups id ≡ true
  Proposes id _ = Unit {0}

  aimed_proposes : (bag : List Message) (kind : EventKind) → KeepsProposer kind → (aim : Aim) → aim_of bag kind ≡ Some aim → Proposes aim.id aim.act
  aimed_proposes bag kind v aim q = go kind v q
    where
      here : (a : Aim) → Proposes a.id a.act → ◌≡◌ {A = Option Aim} (Some a) (Some aim) → Proposes aim.id aim.act
      here a k z = let same : ◌≡◌ {A = Aim} a aim = cc in subst (λ (b : Aim). Proposes b.id b.act) same k

      go : (kind : EventKind) → KeepsProposer kind → aim_of bag kind ≡ Some aim → Proposes aim.id aim.act
      go (kinds.Init k) v = here (record { id = k; act = Initialize }) tt
      go (kinds.Timeout k) v = here (record { id = k; act = Elect Voters }) tt
      go (kinds.Stand k) v = here (record { id = k; act = Elect AllMembers }) tt
      go (kinds.Deliver k) v = sent (message_at bag k)
        where
          sent : (o : Option Message) → ◌≡◌ {A = Option Aim} (option_map (λ (m : Message). record { id = m.to; act = Take m }) o) (Some aim)
              → Proposes aim.id aim.act
          sent None z = cc
          sent (Some m) z = here (record { id = m.to; act = Take m }) tt z
      go (kinds.Propose k values) v = here (record { id = k; act = Propose values }) tt
      go (kinds.Heartbeat k) v = here (record { id = k; act = SendHeartbeat }) tt
      go (kinds.Fail k target) v = here (record { id = k; act = Fail target }) tt
      go (kinds.Snapshot k) v = here (record { id = k; act = TriggerSnapshot }) tt
      go (kinds.Built k) v = here (record { id = k; act = FinishSnapshot }) tt
      go (kinds.Purge k i) v = here (record { id = k; act = TriggerPurge i }) tt
      go (kinds.Restart k start) v = here (record { id = k; act = Restart start }) tt
      go (kinds.Member k learners) v = here (record { id = k; act = ChangeLearners learners }) tt
      go (kinds.Change k groups learners) v = here (record { id = k; act = ChangeMembership groups learners }) v
      go (kinds.Read k) v = here (record { id = k; act = Read }) tt
      go (kinds.Down k) v = here (record { id = k; act = StepDown }) tt
      go (kinds.Stop k) v = here (record { id = k; act = Stop }) tt

  -- a request that is delivered is another's
  others : (id : ℕ) (u : WorldStore) (e : EngineView) (k : Knows id u e) (W : Ideal) (m : Message) → ActFits given.membership W id (Take m)
      → IsOthers id u e k m.body
  others id u e k W m f = go m.body f.1
    where
      go : (b : Body) → BodyIs (setup_of given.membership) m.from m.to b W → IsOthers id u e k b
      go (body.VoteRequest req) h = h.pending
      go (body.VoteReply resp) h = tt
      go (body.AppendRequest o prev es committed) h = λ w. h.leaders.away (w.1 ∙ sym f.0)
      go (body.AppendReply o reply prev upto) h = tt
      go (body.SnapshotRequest o s) h = λ w. h.leaders.away (w.1 ∙ sym f.0)
      go (body.SnapshotReply o reply upto) h = tt

  -- the end of a build leaves the effective membership
  purge_em : (c : WorldCore) → (purge_log nat_cmp c).state.em ≡ c.state.em
  unfolding purge_log
  purge_em c =
      either_option (λ (d : WorldCore). d.state.em ≡ c.state.em) c.state.purge_to _ _ refl
      (λ x. either (λ (d : WorldCore). d.state.em ≡ c.state.em) (is_gt (last_id_cmp nat_cmp (Some x) c.state.purged)) _ _
      (purge_leaves nat_cmp (λ (s : RaftState ℕ (Unit {0})). s.em ≡ c.state.em) c.state x refl refl) refl)

  finish_em : (config : EngineConfig ℕ) (meta : SnapshotMeta ℕ (Unit {0})) (m : WorldMachine)
      → (finish_building_snapshot nat_cmp config meta m).core.state.em ≡ m.core.state.em
  unfolding finish_building_snapshot update_snapshot schedule_policy_based_purge try_purge_log
  finish_em config meta m =
      either (λ (d : WorldCore). d.state.em ≡ m.core.state.em) (is_newer_snapshot nat_cmp (built m.core).state meta) _ _
      (tried (rows_in m) scheduled (either (λ (d : WorldCore). d.state.em ≡ m.core.state.em) (is_newer_snapshot nat_cmp (built m.core).state meta) _ _ refl refl)) refl
    where
      scheduled : WorldCore
      scheduled = schedule_policy_based_purge nat_cmp config (update_snapshot nat_cmp meta (built m.core))

      tried : (rows : List (ℕ × ProgressEntry ℕ)) (c : WorldCore) → c.state.em ≡ m.core.state.em
          → (try_purge_log nat_cmp rows c).state.em ≡ m.core.state.em
      tried rows c e = either (λ (d : WorldCore). d.state.em ≡ m.core.state.em) (is_target_inflight nat_cmp rows c.state) _ _ e (purge_em c ∙ e)

  module _ (n : NodeView) (W : Ideal) (shaped : Shaped entry_meaning n.store) (ordered : Ordered nat_cmp entry_meaning n.store) (fits : whole (settled nat_cmp entry_meaning n.store) ≡ whole n.store)
      (follows : (e : EngineView) → n.engine ≡ Some e → EngineFollows (setup_of given.membership) n W e) (h : HasLed n.id n.store n.engine) (t : Turn) (V : Ideal) where
    -- what is known of the engine
    knows : (e : EngineView) → n.engine ≡ Some e → Knows n.id (left_by n.store e.machine.core.output.items) e
    knows e is =
        let f : EngineFollows (setup_of given.membership) n W e = follows e is in
        let k : HasLed n.id n.store (Some e) = subst (HasLed n.id n.store) is h in
        knows_of n.id (left_by n.store e.machine.core.output.items) e f.id f.sound (subst (λ cs. Mirrors entry_meaning (left_by n.store cs) e.machine.core.state) (sym f.queue) f.in_step.mirrors) (led e f) k.0 (safely_end n.id n.store e.machine.core.output.items k.1)
      where
        led : (e : EngineView) → EngineFollows (setup_of given.membership) n W e → IfSome e.machine.leader (λ l. l.vote ≡ e.machine.core.state.vote)
        led e f = go e.machine.leader f.knows.leader
          where
            go : (o : Option WorldLeader) → IfSome o (λ l. KnowsLed (setup_of given.membership) n.id e.machine.core.state l W)
                → IfSome o (λ l. l.vote ≡ e.machine.core.state.vote)
            go None h = tt
            go (Some l) h = h.vote

    abbrev Ends : NodeView → Type 0
    Ends m = IfSome m.engine (Engine t m.store V) → Safe n.id m.store m.engine

    on_led : (f : EngineView → Option ℕ × EngineView)
        → ((e : EngineView) (is : n.engine ≡ Some e) → Good n.id (left_by n.store e.machine.core.output.items) e (knows e is) (f e))
        → Ends (on_engine f n).1
    on_led f good = go n.engine refl h.1
      where
        go : (o : Option EngineView) → n.engine ≡ o → Safe n.id n.store o
            → Ends (node_after (elim o as (λ _. Option ℕ × NodeView) [ None ↦ (None, n) | Some e ↦ (let r = f e in (r.0, record n { engine = Some r.1 })) ]))
        go None q k w = h.1
        go (Some e) q k w = safe_after n.id n.store e.machine.core (f e).1.machine.core k (good e q (after_of n.store e.machine.core (f e).1.machine.core w.pending.core))

    kept_vote : (es : List Entry) → (keep_snapshot entry_meaning es n.store).vote ≡ n.store.vote
    kept_vote es = either (λ (x : WorldStore). x.vote ≡ n.store.vote) _ _ _ refl refl

    finish_led : Ends (finish_snapshot n).1
    finish_led = go n.engine refl
      where
        told : (e : EngineView) → n.engine ≡ Some e → (es : List Entry) (o : Option (EngineError ℕ (Unit {0})))
            → Ends (node_after (kept_built es n (answered o e (with_machine e (finish_building_snapshot nat_cmp e.config (meta_of entry_meaning es) e.machine)))))
        told e is es (Some r) w = h.1
        told e is es None w =
            let f : EngineFollows (setup_of given.membership) n W e = follows e is in
            let a : WorldCore = (finish_building_snapshot nat_cmp e.config (meta_of entry_meaning es) e.machine).core in
            let x : WorldStore = keep_snapshot entry_meaning es n.store in
            let o : QueuesOnly Plain e.machine.core a = finish-only Plain e.config (λ y. (tt, refl)) (meta_of entry_meaning es) e.machine in
            let queued : a.output.items ≡ o.added = o.behind ∙ ap (λ cs. cs ++ o.added) f.queue in
            let y : Awaits nat_cmp entry_meaning (λ es. es) x o.added a.state =
            subst (λ cs. Awaits nat_cmp entry_meaning (λ es. es) x cs a.state) queued w.pending.core in
            let same : last_membership entry_meaning (whole n.store) ≡ last_membership entry_meaning (whole x) =
            sym f.in_step.mirrors.em ∙ (sym (finish_em e.config (meta_of entry_meaning es) e.machine) ∙ (y.in_step.mirrors.em ∙ ap (last_membership entry_meaning) (mild_end x o.added y.ready (mild_of o.added o.each)))) in
            let fine : Fine n.id x =
            λ p. subst (λ (m : StoredMembership ℕ (Unit {0})). Listed (voter_ids nat_cmp m.membership) n.id) same (safe_now n.id n.store n.engine h.1 (subst (OwnsVote n.id) (kept_vote es) p)) in
            subst (Safely n.id x) (sym queued) (plain_safely n.id x o.added y.ready o.each fine)

        noted : (e : EngineView) → n.engine ≡ Some e → (o : Option (List Entry))
            → Ends (node_after (elim o as (λ _. Option ℕ × NodeView) [ None ↦ (None, n) | Some es ↦ kept_built es n (told_built es e) ]))
        noted e is None = λ w. h.1
        noted e is (Some es) = told e is es (refusals_of_spent e.machine)

        go : (o : Option EngineView) → n.engine ≡ o
            → Ends (node_after (elim o as (λ _. Option ℕ × NodeView) [ None ↦ (None, n) | Some e ↦ elim n.noted as (λ _. Option ℕ × NodeView) [ None ↦ (None, n) | Some es ↦ kept_built es n (told_built es e) ] ]))
        go None q = λ w. h.1
        go (Some e) q = noted e q n.noted

    -- a start, on a store that has the same whole log and vote
    module _ (x : WorldStore) (xs : Shaped entry_meaning x) (xo : Ordered nat_cmp entry_meaning x) (vote : x.vote ≡ n.store.vote) (log : whole (settled nat_cmp entry_meaning x) ≡ whole n.store) (saved : Bool) where
      fit_vote : (settled nat_cmp entry_meaning x).vote ≡ x.vote
      fit_vote = by x.meta.last_log_id
        where
          by : (o : _) → (settled_by nat_cmp entry_meaning x o).vote ≡ x.vote
          by None = refl
          by (Some y) = either (λ (z : WorldStore). z.vote ≡ x.vote) (is_outrun nat_cmp entry_meaning x y) _ _ refl refl

      abbrev begun : EngineView
      begun = engine_on given.settings saved (record n { store = x })

      fine : Fine n.id (restarted nat_cmp entry_meaning saved x)
      fine p = subst (λ (es : List Entry). Listed (voter_ids nat_cmp (last_membership entry_meaning es).membership) n.id) (sym log) (safe_now n.id n.store n.engine h.1 (subst (OwnsVote n.id) (fit_vote ∙ vote) p))

      begun_knows : Knows n.id (restarted nat_cmp entry_meaning saved x) (engine_on given.settings saved (record n { store = x }))
      begun_knows = record {
        own = refl;
        mirrors = (restart_in_step nat_cmp nat_cmp_total nat_same entry_meaning saved x xs xo).0.mirrors;
        fine = fine;
        candidate = tt;
        leader = tt;
      }

      start_led : (f : EngineView → Option ℕ × EngineView)
          → Good n.id (restarted nat_cmp entry_meaning saved x) (engine_on given.settings saved (record n { store = x })) begun_knows (f (engine_on given.settings saved (record n { store = x })))
          → Engine t (restarted nat_cmp entry_meaning saved x) V (f (engine_on given.settings saved (record n { store = x }))).1
          → Safely n.id (restarted nat_cmp entry_meaning saved x) (f (engine_on given.settings saved (record n { store = x }))).1.machine.core.output.items
      start_led f good w =
          safe_after n.id (restarted nat_cmp entry_meaning saved x) begun.machine.core (f begun).1.machine.core fine (good (after_of (restarted nat_cmp entry_meaning saved x) begun.machine.core (f begun).1.machine.core w.pending.core))

    bare_shaped : Shaped entry_meaning (forgotten n.store)
    bare_shaped = record { keys = shaped.keys; run = shaped.run; front = shaped.front; tells = shaped.tells; snap_run = shaped.snap_run; applied = shaped.applied; recorded = shaped.recorded }

    bare_ordered : Ordered nat_cmp entry_meaning (forgotten n.store)
    bare_ordered = record { log = ordered.log; snapshot = ordered.snapshot; front = ordered.front }

    bare_fits : whole (settled nat_cmp entry_meaning (forgotten n.store)) ≡ whole n.store
    bare_fits = by n.store.meta.last_log_id fits
      where
        two : (b : Bool) (y : LogId ℕ) → whole (store_in (if b then record n.store { log = []; front = Some y } else n.store)) ≡ whole n.store
            → whole (store_in (if b then record (forgotten n.store) { log = []; front = Some y } else forgotten n.store)) ≡ whole n.store
        two true y q = q
        two false y q = q

        by : (o : Option (LogId ℕ)) → whole (settled_by nat_cmp entry_meaning n.store o) ≡ whole n.store
            → whole (settled_by nat_cmp entry_meaning (forgotten n.store) o) ≡ whole n.store
        by None q = q
        by (Some y) q = two (is_outrun nat_cmp entry_meaning n.store y) y q

    restart_led : (start : Start) → Ends (restart given.settings start n).1
    restart_led starts.Plain w = start_led n.store shaped ordered refl fits false resumed (resumed_good n.id _ _ (begun_knows n.store shaped ordered refl fits false)) w
    restart_led starts.Saved w = start_led n.store shaped ordered refl fits true resumed (resumed_good n.id _ _ (begun_knows n.store shaped ordered refl fits true)) w
    restart_led starts.Bare w =
        start_led (forgotten n.store) bare_shaped bare_ordered refl bare_fits false (begun_anew n.moment) (begun_good n.id _ _ (begun_knows (forgotten n.store) bare_shaped bare_ordered refl bare_fits false) n.moment) w

    -- a leader that may step down
    stepped : (e : EngineView) → n.engine ≡ Some e → skip_reason StepDown n ≡ None → (k : Knows n.id (left_by n.store e.machine.core.output.items) e)
        → Votes n.id (left_by n.store e.machine.core.output.items)
    stepped e is none k = go e.machine.leader refl (runs_unskipped StepDown n e is none)
      where
        go : (o : Option WorldLeader) → e.machine.leader ≡ o → ◌≡◌ {A = Option SkipReason} (if is_some o then None else Some NotLeader) None
            → Votes n.id (left_by n.store e.machine.core.output.items)
        go None q z = cc
        go (Some l) q z = led_votes n.id (left_by n.store e.machine.core.output.items) e k l q

    -- its groups have the node, if it is a voter
    same_groups : (e : EngineView) (k : Knows n.id (left_by n.store e.machine.core.output.items) e)
        → Votes n.id (left_by n.store e.machine.core.output.items) → is_among (groups_in e) n.id ≡ true
    same_groups e k v = voter_votes (members e) n.id (subst (λ (m : StoredMembership ℕ (Unit {0})). Listed (voter_ids nat_cmp m.membership) n.id) (sym k.mirrors.em) v)

    acts_led : (act : Act) → LetsNone act → Proposes n.id act → ActFits given.membership W n.id act → skip_reason act n ≡ None
        → Ends (calls_at given act n).1
    acts_led Initialize v p f none = on_led (initialized given.membership n.moment) (λ e is. initialized_good n.id _ e (knows e is) given.membership n.moment)
    acts_led (Elect Voters) v p f none = on_led (elected n.moment) (λ e is. elected_good n.id _ e (knows e is) n.moment)
    acts_led (Elect AllMembers) v p f none = absurd v
    acts_led (Take m) v p f none = on_led (deliver m.from m.body n.moment) (λ e is. deliver_good n.id _ e (knows e is) m.from m.body n.moment (others n.id _ e (knows e is) W m f))
    acts_led (Propose values) v p f none = on_led (proposed values) (λ e is. proposed_good n.id _ e (knows e is) values)
    acts_led SendHeartbeat v p f none = on_led heartbeats_sent (λ e is. heartbeats_good n.id _ e (knows e is))
    acts_led (Fail target) v p f none = on_led (failed target) (λ e is. progressed_good n.id _ e (knows e is) target (request_of (inflight_to target e)) (Err tt))
    acts_led TriggerSnapshot v p f none = on_led snapshot_triggered (λ e is. triggered_good n.id _ e (knows e is))
    acts_led FinishSnapshot v p f none = finish_led
    acts_led (TriggerPurge i) v p f none = on_led (purge_triggered i) (λ e is. purged_good n.id _ e (knows e is) i)
    acts_led (Restart start) v p f none = restart_led start
    acts_led (ChangeLearners learners) v p f none = on_led (learners_changed learners) (λ e is. changed_good n.id _ e (knows e is) (groups_in e) learners (same_groups e (knows e is)))
    acts_led (ChangeMembership groups learners) v p f none = on_led (membership_changed groups learners) (λ e is. changed_good n.id _ e (knows e is) groups learners (λ _. p))
    acts_led Read v p f none = on_led read_asked (λ e is a. none_grows n.id _ e (knows e is) e.machine.core refl)
    acts_led StepDown v p f none = on_led stepped_down (λ e is. stepped_good n.id _ e (knows e is) (stepped e is none (knows e is)))
    acts_led Stop v p f none = λ w. safe_now n.id n.store n.engine h.1

-- In a run

module _ (given : Given) (wf : IsWellFormed given) where
  calls_led : (done : List Event) (event : Event) → OnlyVotersStand event.kind × KeepsProposer event.kind
      → CallsKeep given HasLed (world_after given done) event
  calls_led done event v n aim there q same none h now since rs works =
      let f : Followed given (Settled (setup_of given.membership)) (stores.empty (setup_of given.membership)) (world_after given done) =
      followed given wf done in
      let node : NodeFollows (setup_of given.membership) f.world (world_after given done).records n =
      one_of (NodeFollows (setup_of given.membership) f.world (world_after given done).records) (world_after given done).nodes n f.follows.nodes there in
      let moved : NodeFollows (setup_of given.membership) f.world (world_after given done).records (record n { moment = now }) =
      moved_follows (setup_of given.membership) f.world (world_after given done).records n now node in
      let engine : (e : EngineView) → n.engine ≡ Some e → EngineFollows (setup_of given.membership) (record n { moment = now }) f.world e =
      λ e is. subst (λ o. IfSome o (EngineFollows (setup_of given.membership) (record n { moment = now }) f.world)) is moved.engine in
      let lets : LetsNone aim.act = aimed_none (world_after given done).records.bag event.kind v.0 aim q in
      let skip : skip_reason aim.act (record n { moment = now }) ≡ None = skip_moved aim.act n now ∙ none in (
        calls_stood given (record n { moment = now }) (λ e is. (engine e is).id) h.0 aim.act lets skip,
        acts_led given (record n { moment = now }) f.world node.shaped node.ordered
            (settled_whole (setup_of given.membership) n.store (f.world.store n.id) node.store node.shaped (laps (setup_of given.membership) f.world f.follows.reached n.id))
            engine h (turn_of aim.act (record n { moment = now })) works.world aim.act lets
            (subst (λ d. Proposes given d aim.act) (sym same) (aimed_proposes given (world_after given done).records.bag event.kind v.1 aim q))
            (subst (λ d. ActFits given.membership f.world d aim.act) (sym same) (aimed given (Settled (setup_of given.membership)) (all_laws given.membership) _ (world_after given done) f event.kind aim q))
            skip works.engine,
      )

  -- at each node
  led : (past : List Event) → AllByRecursion (λ (e : Event). OnlyVotersStand e.kind × KeepsProposer e.kind) past
      → AllHold given HasLed (world_after given past)
  led past v =
      run_holds given HasLed (commands_led given) wf (λ (e : Event). OnlyVotersStand e.kind × KeepsProposer e.kind) (λ done event d a. calls_led done event a) (λ id. (tt, λ o. let z : false ≡ true = o.0 in cc)) past v

-- so it is in each reached world
pub leaders_vote : LeadersVote
leaders_vote given wf past v =
    each_on (λ (n : NodeView). HasLed n.id n.store n.engine) LeaderVotes (λ n h. safe_now n.id n.store n.engine h.1) (world_after given past).nodes (led given wf past v)
