-- A node works off its queue: each command is done by deeds when its turn comes, its feed is a call, and a stop may
-- fall anywhere.
use Rattle.std.proofs.Common.{ℕ, ◌<◌, ◌≡◌, ◌≢◌, Bool, true, false, List, [], ◌∷◌, refl, sym, ap, ◌∙◌, subst, Option, None, Some}
use Rattle.std.specs.Prelude.{IfSome, if◌then◌else◌}
use Rattle.std.specs.List.{AllByRecursion}
use Rattle.std.specs.Ordering.{is_eq, nat_cmp}
use Rattle.std.proofs.lemmas.Bool.{and_parts}
use Rattle.std.proofs.lemmas.Cmp.{nat_cmp_total}
use Rattle.raft_node.specs.raft_state.declared.ids.LogId.{LogId}
use Rattle.raft_node.specs.raft_state.declared.ids.LeaderId.{LeaderId}
use Rattle.raft_node.specs.raft_state.declared.ids.Vote.{Vote}
use Rattle.raft_node.specs.raft_state.declared.membership.Members.{Members}
use Rattle.raft_node.specs.raft_state.Fits.{fits}
use Rattle.raft_node.specs.raft_state.Order.{vote_cmp}
use Rattle.raft_node.specs.raft_state.Same.{nat_same}
use Rattle.raft_node.specs.raft_progress.Table.{is_in}
use Rattle.raft_node.specs.raft_command.Queue.{popped}
use Rattle.raft_node.specs.raft_steps.Refusals.{refusals_of_local_progress, refusals_of_vote_resp}
use Rattle.raft_node.specs.raft_steps.Engine.{handle_vote_resp}
use Rattle.raft_node.specs.raft_steps.Invariants.{IsSound}
use Rattle.raft_node.specs.raft_steps.Parts.{led_of, leading}
use Rattle.raft_node.specs.raft_steps.ReplicationHandler.{update_local_progress}
use Rattle.raft_node.proofs.raft_steps_proofs.Kept.{TakesIds}
use Rattle.raft_node.proofs.raft_steps_proofs.KeptEngine.{handle_vote_resp_is_sound}
use Rattle.raft_node.specs.raft_store.declared.entry.Entry.{Entry}
use Rattle.raft_node.specs.raft_store.Entries.{entry_meaning}
use Rattle.raft_node.specs.raft_store.Types.{WorldCandidate, WorldCommand, WorldLeader, WorldMachine, WorldStore, EngineView}
use Rattle.proof_mirror.specs.Ready.{Shaped, Ordered, Fits, Awaits, PendingIn, PendingLed}
use Rattle.proof_mirror.proofs.Elections.{pending_vote_resp}
use Rattle.proof_mirror.proofs.Orders.{ordered_exec}
use Rattle.proof_mirror.proofs.Proposes.{takes_id}
use Rattle.proof_mirror.proofs.Queued.{awaits_pop}
use Rattle.proof_mirror.proofs.Replying.{pending_own}
use Rattle.proof_mirror.proofs.Sound.{machine_asks}
use Rattle.proof_mirror.proofs.Starting.{sound_order}
use Rattle.raft_node.specs.raft_calls.declared.feed.Feed.{Feed}
use Rattle.raft_node.specs.raft_calls.declared.feed.Feed.TheVariants.{Saved, Stored, Nothing}
use Rattle.raft_node.specs.declared.node.Turn.{Turn}
use Rattle.raft_node.specs.Execute.{Effects, exec}
use Rattle.raft_node.specs.raft_calls.Feeds.{asks_itself, called, fed, feed_of, grant_own, hold_own, own_grant}
use Rattle.raft_node.specs.raft_calls.Held.{Held, IsReady}
use Rattle.raft_node.specs.Work.{Work, done_of, one_less, step_of, stopped, stops, work_step, worked}
use Rattle.raft_node.specs.raft_calls.Engines.{with_queue}
use Rattle.raft_node.proofs.raft_calls_proofs.Ready.{Taken, contained_fits, grant_own_ready, hold_own_ready, popped_ready}
use Rattle.raft_node.proofs.Worked.{worked-keeps}
use Rattle.raft_node.specs.Runs.{whole_logs}
use Rattle.proof_agreement.specs.Deeds.{EndStreams, does}
use Rattle.proof_deeds.specs.Chains.{Carried, Does, Done, Reached, Reads, left_by, replies_by, stored}
use Rattle.proof_deeds.specs.Follows.{StoreIs, RestIs}
use Rattle.proof_deeds.specs.Images.{Ideal, IdealStore, IsNamed, setup_of}
use Rattle.proof_deeds.specs.Knows.{CarriedIn, Knows, KnowsLed, Stands}
use Rattle.proof_deeds.proofs.Calls.{CallLaws, WorldState}
use Rattle.proof_deeds.proofs.Acceptances.{run_answered}
use Rattle.proof_deeds.proofs.BuildsCalled.{fed_builds, leader_for}
use Rattle.proof_deeds.proofs.Executed.{exec_fits, exec_replies, exec_stores}
use Rattle.proof_deeds.proofs.LedBuilds.{BuildsLed, NoRebuild}
use Rattle.proof_deeds.proofs.Pushes.{Popped, pop}
use Rattle.proof_deeds.proofs.Recording.{exec_recorded}
use Rattle.proof_deeds.proofs.Runs.{AllAcknowledged, RecordsFit, fit_on}
use Rattle.proof_deeds.proofs.Tails.{tail_named}
use Rattle.proof_deeds.proofs.Worlds.{at_put, does_one, does_self, does_then, done_does, ended_store, other_does, other_run, records_on, stopped_rest, within_of}

-- an entry takes the id that it is given
pub takes : TakesIds entry_meaning
takes e id = (refl, refl)

abbrev with_candidate : EngineView → Option WorldCandidate → EngineView
with_candidate e o = record e { machine = record e.machine { candidate = o } }

abbrev with_leader : EngineView → Option WorldLeader → EngineView
with_leader e o = record e { machine = record e.machine { leader = o } }

-- what both know of a leader
pub both_some : {X : Type 0} (P Q R : X → Type 0) → ((x : X) → P x → Q x → R x) → (o : Option X) → IfSome o P → IfSome o Q → IfSome o R
both_some P Q R f None h k = tt
both_some P Q R f (Some x) h k = f x h k

module _ (first : Members ℕ (Unit {0})) (Extra : Ideal → WorldState → Type 0) (t : Turn) where
  -- one ideal world came of another by deeds of this turn's node
  pub record Came (W V : Ideal) : Type 0 where
    pub does : Does (setup_of first) W V
    pub others : (m : ℕ) → m ≢ t.id → V.store m ≡ W.store m

  pub came_self : (W : Ideal) → Came W W
  came_self W = record { does = does_self (setup_of first) W; others = λ m h. refl }

  pub came_done : (U : Ideal) (v : LeaderId ℕ) (u : WorldStore) (c : WorldCommand) (W V : Ideal) → Came U W → Done (setup_of first) t v u c W V → Came U V
  came_done U v u c W V a d = record {
    does = does_then (setup_of first) U W V a.does (record { deeds = d.deeds; allowed = d.allowed; claimed = d.claimed; result = d.result });
    others = λ m h. ap (λ (Z : Ideal). Z.store m) (sym d.result) ∙ (other_run (setup_of first) t.id d.deeds W m d.by h ∙ a.others m h);
  }

  -- an engine at work, with its node's store now and the ideal world now
  pub record EngineWorks (u : WorldStore) (W : Ideal) (e : EngineView) : Type 0 where
    pub id : e.config.id ≡ t.id
    pub ready : IsReady e
    pub pending : PendingIn nat_cmp entry_meaning (λ es. es) u e.machine
    pub carried : CarriedIn (setup_of first) t u W e.machine
    pub extra : Extra W e.machine.core.state

  -- what holds of a store, of all that commands change, and of the ideal world, between two commands of the turn
  pub record EffectsWork (since : Ideal) (w : Effects (List Entry)) (W : Ideal) : Type 0 where
    pub came : Came since W
    pub reached : Reached (setup_of first) W
    pub store : StoreIs (setup_of first) w.store (W.store t.id)
    pub shaped : Shaped entry_meaning w.store
    pub ordered : Ordered nat_cmp entry_meaning w.store
    pub rest : RestIs (setup_of first) t.id w W
    pub fit : RecordsFit (setup_of first) W w.records

  -- a node at work
  pub record Works (since : Ideal) (w : Work (List Entry)) : Type 0 where
    pub world : Ideal
    pub effects : EffectsWork since w.effects world
    pub engine : IfSome w.engine (EngineWorks w.effects.store world)
    -- streams to build are queued only where there is a leader
    pub builds : IfSome w.engine (λ e. BuildsLed e.machine)

  knows_queue : (e : EngineView) (q : _) (W : Ideal) → Knows (setup_of first) t.id e.machine W → Knows (setup_of first) t.id (with_queue e q).machine W
  knows_queue e q W k = record { state = k.state; leader = k.leader; candidate = k.candidate; alone = k.alone }

  -- an engine whose leader is sound, and is of the state's vote, reads that
  pub reads_of : (e : EngineView) (W : Ideal) → IsSound nat_cmp e.config e.machine → Knows (setup_of first) t.id e.machine W → Reads e.machine.core.state.vote.leader_id e
  reads_of e W h k = record {
    vote = refl;
    leader = both_some _ (λ l. KnowsLed (setup_of first) t.id e.machine.core.state l W) (λ l. (l.vote.leader_id ≡ e.machine.core.state.vote.leader_id) × (l.vote.committed ≡ true)) (λ l f q. (ap (λ (v : Vote ℕ). v.leader_id) q.vote, f.committed)) e.machine.leader h.lead.leader_fits k.leader;
  }

  -- the vote of a state whose queue is carried names a u64
  pub carried_named : (u : WorldStore) (W : Ideal) (e : EngineView) → EngineWorks u W e → IsNamed e.machine.core.state.vote.leader_id
  carried_named u W e h = tail_named (setup_of first) (left_by u e.machine.core.output.items) (h.carried.end.store t.id) e.machine.core.state h.carried.store h.pending.core.in_step

  module _ (laws : CallLaws first Extra) (node : t.id < 18446744073709551616) where
    -- what the laws ask of an engine at work
    pub stands : (u : WorldStore) (W : Ideal) (e : EngineView) → Reached (setup_of first) W → Ordered nat_cmp entry_meaning u → EngineWorks u W e → Stands (setup_of first) t e.config u W e.machine
    stands u W e r o h = record { id = h.id; node = node; reached = r; ordered = o; sound = h.ready.sound; pending = h.pending; carried = h.carried }

    module _ (u : WorldStore) (W : Ideal) (r : Reached (setup_of first) W) (o : Ordered nat_cmp entry_meaning u) where
      -- a call that isn't refused
      called_works : {A : Type 0} (asks : Option A) (e : EngineView) (m : WorldMachine) → EngineWorks u W e → (asks ≡ None → PendingIn nat_cmp entry_meaning (λ es. es) u m × (CarriedIn (setup_of first) t u W m × Extra W m.core.state)) → IsReady (called asks e m) → EngineWorks u W (called asks e m)
      called_works None e m h f k = let p : PendingIn nat_cmp entry_meaning (λ es. es) u m × (CarriedIn (setup_of first) t u W m × Extra W m.core.state) = f refl in record { id = h.id; ready = k; pending = p.0; carried = p.1.0; extra = p.1.1 }
      called_works (Some x) e m h f k = h

      granted_works : (v : Vote ℕ) (c : WorldCandidate) (e : EngineView) → e.machine.candidate ≡ Some c → is_eq (vote_cmp nat_cmp c.vote v) ≡ true → EngineWorks u W e → EngineWorks u W (grant_own t.moment v e)
      granted_works v c e some own h =
          called_works (refusals_of_vote_resp nat_cmp e.config e.config.id (own_grant v) e.machine) e (handle_vote_resp nat_cmp entry_meaning e.config e.config.id (own_grant v) t.moment e.machine) h
          (λ asks. (
            pending_vote_resp nat_cmp entry_meaning (takes_id entry_meaning takes) (λ es. es) e.config u e.config.id (own_grant v) t.moment e.machine h.pending (machine_asks nat_cmp e.config e.machine h.ready.sound)
                (sound_order nat_cmp e.config (handle_vote_resp nat_cmp entry_meaning e.config e.config.id (own_grant v) t.moment e.machine)
                (handle_vote_resp_is_sound nat_cmp nat_cmp_total nat_same entry_meaning takes e.config e.config.id (own_grant v) t.moment e.machine asks h.ready.sound)),
            laws.by_own_grant t e.config u W e.machine (stands u W e r o h) v c some own asks h.extra,
          ))
          (grant_own_ready t.moment v e h.ready)

      saved_works : (v : Vote ℕ) (e : EngineView) → EngineWorks u W e → EngineWorks u W (fed t.moment (Saved v) e)
      saved_works v e h = go e.machine.candidate h where
        pick : (c : WorldCandidate) (b : Bool) → asks_itself v c (with_candidate e (Some c)) ≡ b → EngineWorks u W (with_candidate e (Some c))
            → EngineWorks u W (if b then grant_own t.moment v (with_candidate e (Some c)) else with_candidate e (Some c))
        pick c true q k = granted_works v c (with_candidate e (Some c)) refl (and_parts (is_eq (vote_cmp nat_cmp c.vote v)) (is_in nat_cmp c.progress e.config.id) q).0 k
        pick c false q k = k

        go : (o : Option WorldCandidate) → EngineWorks u W (with_candidate e o)
            → EngineWorks u W (elim o as (λ x. EngineView) [ None ↦ with_candidate e o | Some c ↦ (if asks_itself v c (with_candidate e o) then grant_own t.moment v (with_candidate e o) else with_candidate e o) ])
        go None k = k
        go (Some c) k = pick c _ refl k

      held_works : (v : Vote ℕ) (x : Option (LogId ℕ)) (l : WorldLeader) (e : EngineView) → is_eq (vote_cmp nat_cmp l.vote v) ≡ true → EngineWorks u W (with_leader e (Some l)) → Held e.machine.core.state.ids (Stored v x)
          → EngineWorks u W (hold_own x l (with_leader e (Some l)))
      held_works v x l e own h held =
          called_works (refusals_of_local_progress nat_cmp e.config x (led_of l e.machine.core.state e.machine.core.output)) (with_leader e (Some l)) (leading e.machine (update_local_progress nat_cmp e.config x (led_of l e.machine.core.state e.machine.core.output))) h
          (λ _.
          let p : PendingLed nat_cmp entry_meaning (λ es. es) u (update_local_progress nat_cmp e.config x (led_of l e.machine.core.state e.machine.core.output)) =
          pending_own nat_cmp nat_cmp_total nat_same entry_meaning (λ es. es) e.config u x (led_of l e.machine.core.state e.machine.core.output) h.pending.core (record { sound = h.ready.sound.sound; leader_fits = h.ready.sound.lead.leader_fits }) (fit x held) in
          (record { core = p.core; knows = p.knows }, laws.by_own_log t e.config u W (with_leader e (Some l)).machine (stands u W (with_leader e (Some l)) r o h) x l refl (fit x held) h.extra))
          (hold_own_ready v x l e h.ready held)
        where
          fit : (x : Option (LogId ℕ)) → Held e.machine.core.state.ids (Stored v x) → fits nat_cmp e.machine.core.state.ids e.machine.core.state.purged x ≡ true
          fit None k = refl
          fit (Some y) k = contained_fits e.machine.core.state y h.ready.sound.sound k

      stored_works : (v : Vote ℕ) (x : Option (LogId ℕ)) (e : EngineView) → EngineWorks u W e → Held e.machine.core.state.ids (Stored v x) → EngineWorks u W (fed t.moment (Stored v x) e)
      stored_works v x e h held = go e.machine.leader h where
        pick : (l : WorldLeader) (b : Bool) → is_eq (vote_cmp nat_cmp l.vote v) ≡ b → EngineWorks u W (with_leader e (Some l)) → EngineWorks u W (if b then hold_own x l (with_leader e (Some l)) else with_leader e (Some l))
        pick l true q k = held_works v x l e q k held
        pick l false q k = k

        go : (o : Option WorldLeader) → EngineWorks u W (with_leader e o)
            → EngineWorks u W (elim o as (λ x. EngineView) [ None ↦ with_leader e o | Some l ↦ (if is_eq (vote_cmp nat_cmp l.vote v) then hold_own x l (with_leader e o) else with_leader e o) ])
        go None k = k
        go (Some l) k = pick l _ refl k

      -- what the engine is told
      pub fed_works : (f : Feed) (e : EngineView) → EngineWorks u W e → Held e.machine.core.state.ids f → EngineWorks u W (fed t.moment f e)
      fed_works (Saved v) e h held = saved_works v e h
      fed_works (Stored v x) e h held = stored_works v x e h held
      fed_works Nothing e h held = h

    -- a stop ends the streams
    pub ended : (since : Ideal) (w : Effects (List Entry)) (W : Ideal) → EffectsWork since w W → Works since (stopped w)
    ended since w W h =
        let V : Ideal = does (setup_of first) W (EndStreams t.id) in
        let one : Does (setup_of first) W (does (setup_of first) W (EndStreams t.id)) = does_one (setup_of first) W (EndStreams t.id) tt tt in
        record {
          world = V;
          effects = record {
            came = record { does = does_then (setup_of first) since W V h.came.does one; others = λ m d. other_does (setup_of first) W (EndStreams t.id) m d ∙ h.came.others m d };
            reached = does_then (setup_of first) _ W V h.reached one;
            store = ended_store (setup_of first) w.store W t.id h.store;
            shaped = h.shaped;
            ordered = h.ordered;
            rest = stopped_rest (setup_of first) t.id w.store w.records V (ap (λ (S : IdealStore). S.session.leader) (at_put W t.id _)) (records_on (setup_of first) W V (within_of (setup_of first) W V one) w.records h.rest.records);
            fit = fit_on (setup_of first) W V one w.records h.fit.accepted h.fit.recorded h.fit;
          };
          engine = tt;
          builds = tt;
        }

    -- a command is done, and then the node stops or its engine is told
    done_works : (since : Ideal) (w : Work (List Entry)) (e : EngineView) (c : WorldCommand) (cs : List WorldCommand) → e.machine.core.output.items ≡ c ∷ cs → (h : Works since w) → EngineWorks w.effects.store h.world e → BuildsLed e.machine
        → Works since (done_of whole_logs t w (with_queue e (record e.machine.core.output { items = cs })) c)
    done_works since w e c cs is h k b = pick (stops w.left) where
      u : WorldStore
      u = w.effects.store

      W : Ideal
      W = h.world

      v : LeaderId ℕ
      v = e.machine.core.state.vote.leader_id

      behind : EngineView
      behind = with_queue e (record e.machine.core.output { items = cs })

      p : Popped (setup_of first) t e.machine.core.state.vote.leader_id w.effects.store h.world c cs (Knows (setup_of first) t.id e.machine)
      p = pop (setup_of first) t e.machine.core.state.vote.leader_id w.effects.store h.world c cs (Knows (setup_of first) t.id e.machine) (subst (λ xs. Carried (setup_of first) t e.machine.core.state.vote.leader_id w.effects.store h.world xs (Knows (setup_of first) t.id e.machine)) is k.carried)

      q : Fits nat_cmp entry_meaning (λ es. es) w.effects.store c × Awaits nat_cmp entry_meaning (λ es. es) (stored c w.effects.store) cs e.machine.core.state
      q = awaits_pop nat_cmp entry_meaning (λ es. es) w.effects.store c cs e.machine.core.state (subst (λ xs. Awaits nat_cmp entry_meaning (λ es. es) w.effects.store xs e.machine.core.state) is k.pending.core)

      taken : Taken (with_queue e (record e.machine.core.output { items = cs })) c
      taken = popped_ready e c cs is k.ready

      storing : (exec whole_logs t (with_queue e (record e.machine.core.output { items = cs })) c w.effects).store ≡ stored c w.effects.store
      storing = exec_stores t (with_queue e (record e.machine.core.output { items = cs })) w.effects c

      reads : Reads e.machine.core.state.vote.leader_id (with_queue e (record e.machine.core.output { items = cs }))
      reads = let x : Reads e.machine.core.state.vote.leader_id e = reads_of e k.carried.end k.ready.sound k.carried.knows in record { vote = x.vote; leader = x.leader }

      shaped_next : (cs : List WorldCommand) → Awaits nat_cmp entry_meaning (λ es. es) (stored c w.effects.store) cs e.machine.core.state → Shaped entry_meaning (stored c w.effects.store)
      shaped_next [] a = a.ready
      shaped_next (d ∷ ds) a = a.ready.0

      after : EffectsWork since (exec whole_logs t (with_queue e (record e.machine.core.output { items = cs })) c w.effects) p.next
      after =
          let came : Came since p.next = came_done since e.machine.core.state.vote.leader_id w.effects.store c h.world p.next h.effects.came p.done in
          record {
            came = came;
            reached = does_then (setup_of first) _ h.world p.next h.effects.reached (record { deeds = p.done.deeds; allowed = p.done.allowed; claimed = p.done.claimed; result = p.done.result });
            store = subst (λ x. StoreIs (setup_of first) x (p.next.store t.id)) (sym storing) p.done.store;
            shaped = subst (Shaped entry_meaning) (sym storing) (shaped_next cs q.1);
            ordered = subst (Ordered nat_cmp entry_meaning) (sym storing) (ordered_exec nat_cmp nat_cmp_total nat_same entry_meaning (λ es. es) w.effects.store c h.effects.shaped h.effects.ordered q.0);
            rest = p.done.rest w.effects (with_queue e (record e.machine.core.output { items = cs })) refl h.effects.rest reads (leader_for c cs e is b);
            fit =
                let f : RecordsFit (setup_of first) h.world (exec whole_logs t (with_queue e (record e.machine.core.output { items = cs })) c w.effects).records =
                exec_fits t (with_queue e (record e.machine.core.output { items = cs })) w.effects (setup_of first) h.world t.id (h.world.store t.id) h.effects.store h.effects.shaped (carried_named w.effects.store h.world e k) h.effects.rest.session h.effects.fit c q.0 in
                fit_on (setup_of first) h.world p.next (done_does (setup_of first) t e.machine.core.state.vote.leader_id w.effects.store c h.world p.next p.done) (exec whole_logs t (with_queue e (record e.machine.core.output { items = cs })) c w.effects).records
                (subst (λ (Z : Ideal). AllAcknowledged Z (exec whole_logs t (with_queue e (record e.machine.core.output { items = cs })) c w.effects).records.bag) p.done.result
                (run_answered (setup_of first) (replies_by t c) (exec whole_logs t (with_queue e (record e.machine.core.output { items = cs })) c w.effects).records.bag
                (exec_replies t (with_queue e (record e.machine.core.output { items = cs })) w.effects c) p.done.deeds h.world p.done.answered f.accepted))
                (exec_recorded (setup_of first) t (with_queue e (record e.machine.core.output { items = cs })) w.effects h.world p.next h.effects.reached h.effects.store h.effects.shaped h.effects.rest.session h.effects.fit.recorded c p.done.commits f.recorded)
                f;
          }

      popped_works : EngineWorks (stored c w.effects.store) p.next (with_queue e (record e.machine.core.output { items = cs }))
      popped_works = record {
        id = k.id;
        ready = taken.ready;
        pending = record { core = q.1; knows = k.pending.knows };
        carried = record { end = p.carried.end; chain = p.carried.chain; store = p.carried.store; knows = knows_queue e (record e.machine.core.output { items = cs }) p.carried.end p.carried.knows };
        extra = laws.extra_on h.world p.next e.machine.core.state (record { deeds = p.done.deeds; allowed = p.done.allowed; claimed = p.done.claimed; result = p.done.result }) k.extra;
      }

      pick : (b : Bool) → Works since
          (if b then stopped (exec whole_logs t (with_queue e (record e.machine.core.output { items = cs })) c w.effects)
          else record { engine = Some (fed t.moment (feed_of c) (with_queue e (record e.machine.core.output { items = cs }))); effects = exec whole_logs t (with_queue e (record e.machine.core.output { items = cs })) c w.effects; left = one_less w.left })
      pick true = ended since (exec whole_logs t (with_queue e (record e.machine.core.output { items = cs })) c w.effects) p.next after
      pick false = record {
        world = p.next;
        effects = after;
        engine = fed_works (exec whole_logs t (with_queue e (record e.machine.core.output { items = cs })) c w.effects).store p.next after.reached after.ordered (feed_of c) (with_queue e (record e.machine.core.output { items = cs }))
            (subst (λ x. EngineWorks x p.next (with_queue e (record e.machine.core.output { items = cs }))) (sym storing) popped_works) taken.held;
        builds = fed_builds t.moment (feed_of c) (with_queue e (record e.machine.core.output { items = cs })) taken.ready.sound k.carried.knows.alone (λ q. (subst (AllByRecursion NoRebuild) is (b q)).1);
      }

    items_work : (since : Ideal) (w : Work (List Entry)) (e : EngineView) (cs : List WorldCommand) → e.machine.core.output.items ≡ cs → (h : Works since w) → EngineWorks w.effects.store h.world e → BuildsLed e.machine
        → Works since (step_of whole_logs t w e (popped (record e.machine.core.output { items = cs })))
    items_work since w e [] is h k b = h
    items_work since w e (c ∷ cs) is h k b = done_works since w e c cs is h k b

    -- each command keeps a node at work
    pub step_works : (since : Ideal) (w : Work (List Entry)) → Works since w → Works since (work_step whole_logs t w)
    step_works since w h = go w.engine h where
      go : (o : Option EngineView) → Works since (record w { engine = o })
          → Works since (elim o as (λ x. Work (List Entry)) [ None ↦ record w { engine = o } | Some e ↦ step_of whole_logs t (record w { engine = o }) e (popped e.machine.core.output) ])
      go None k = k
      go (Some e) k = items_work since (record w { engine = Some e }) e e.machine.core.output.items refl k k.engine k.builds

    -- so does the whole queue
    pub worked_works : (since : Ideal) (fuel : ℕ) (w : Work (List Entry)) → Works since w → Works since (worked whole_logs fuel t w)
    worked_works since fuel w h = worked-keeps whole_logs t (Works since) fuel (λ x busy k. step_works since x k) w h
