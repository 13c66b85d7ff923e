-- A packed node at work.
use Rattle.std.specs.Prelude.{◌≡◌, ℕ, Bool, true, false, nat_eq, List, [], ◌∷◌, Option, None, Some, refl, if◌then◌else◌}
use Rattle.std.specs.List.{AllByRecursion}
use Rattle.std.specs.Option.{option_map}
use Rattle.std.specs.Ordering.{is_eq, nat_cmp}
use Rattle.std.proofs.Common.{◌∙◌, ◌⊎◌, inl, inr, sym, ap, subst, zero, suc}
use Rattle.std.proofs.lemmas.List.{length-map}
use Rattle.raft_node.specs.raft_state.Order.{vote_cmp}
use Rattle.raft_node.proofs.raft_state_proofs.LogLists.{each_append}
use Rattle.raft_node.specs.raft_command.declared.command.Command.TheVariants.{AppendInputEntries, BecomeLeader, Commit, DeleteConflictLog, PurgeLog, QuitLeader, RebuildReplicationStreams, Replicate, ReplicateCommitted, Respond, SaveVote, SendVote, StateMachine}
use Rattle.raft_node.specs.raft_command.declared.sm.CommandPayload.TheVariants.{BuildSnapshot, GetSnapshot, BeginReceivingSnapshot, InstallFullSnapshot, Apply}
use Rattle.raft_node.specs.raft_command.Queue.{popped}
use Rattle.raft_node.specs.raft_store.declared.entry.Entry.{Entry}
use Rattle.raft_node.specs.raft_store.Types.{EngineView, WorldCandidate, WorldCommand, WorldLeader, WorldPayload}
use Rattle.raft_node.specs.raft_calls.declared.feed.Feed.{Feed}
use Rattle.raft_node.specs.raft_calls.declared.feed.Feed.TheVariants.{Saved, Stored, Nothing}
use Rattle.raft_node.specs.declared.node.Turn.{Turn}
use Rattle.raft_node.specs.Execute.{exec}
use Rattle.raft_node.specs.raft_calls.Feeds.{asks_itself, fed, feed, feed_of, grant_own, hold_own}
use Rattle.raft_node.specs.Until.{until}
use Rattle.raft_node.specs.Work.{Work, done_of, idle, is_idle, one_less, step_of, stopped, stops, work_step, worked}
use Rattle.raft_node.specs.raft_calls.Engines.{with_queue}
use Rattle.proof_packed.specs.Data.{is_install}
use Rattle.proof_packed_stores.specs.Laws.{Brings, BringsPayload}
use Rattle.proof_packed.specs.Nodes.{PackedEffects, PackedWork, bare_command, bare_engine, bare_queue, bare_turn, node_exec, packed_done_of, packed_effects, packed_idle, packed_work_step, packed_step_of, packed_stopped, packed_work, packed_worked}
use Rattle.proof_packed_stores.specs.Stores.{Application, Packed}
use Rattle.raft_node.proofs.raft_calls_proofs.Queues.{fed_only}
use Rattle.proof_packed.proofs.Calls.{IsNoInstall, none_installs}
use Rattle.proof_packed.proofs.Installs.{all_same}
use Rattle.proof_packed.proofs.Nodes.{exec_kept}

-- what a command feeds back is the same without data
feed_of_bare : (c : WorldCommand) → feed_of (bare_command c) ≡ feed_of c
feed_of_bare (SaveVote v) = refl
feed_of_bare (AppendInputEntries v es) = refl
feed_of_bare (DeleteConflictLog since) = refl
feed_of_bare (PurgeLog upto) = refl
feed_of_bare (Commit seq already upto) = refl
feed_of_bare (StateMachine c) = refl
feed_of_bare BecomeLeader = refl
feed_of_bare QuitLeader = refl
feed_of_bare (ReplicateCommitted x) = refl
feed_of_bare (Replicate target f) = refl
feed_of_bare (RebuildReplicationStreams targets) = refl
feed_of_bare (SendVote req) = refl
feed_of_bare (Respond when reply) = refl

-- an engine that neither leads nor asks for votes
pub record Follows (e : EngineView) : Type 0 where
  pub leader : e.machine.leader ≡ None
  pub candidate : e.machine.candidate ≡ None

-- does nothing when it is fed
fed_none : (now : ℕ) (f : Feed) (e : EngineView) → Follows e → fed now f e ≡ e
fed_none now (Saved v) e h = ap (λ (o : Option WorldCandidate). elim o as (λ _. EngineView) [ None ↦ e | Some c ↦ (if asks_itself v c e then grant_own now v e else e) ]) h.candidate
fed_none now (Stored v x) e h = ap (λ (o : Option WorldLeader). elim o as (λ _. EngineView) [ None ↦ e | Some l ↦ (if is_eq (vote_cmp nat_cmp l.vote v) then hold_own x l e else e) ]) h.leader
fed_none now Nothing e h = refl

-- an engine whose queue installs nothing is the same without data
pub engine_bare : (e : EngineView) → AllByRecursion IsNoInstall e.machine.core.output.items → bare_engine e ≡ e
engine_bare e h = ap (λ cs. with_queue e (record e.machine.core.output { items = cs })) (all_same [] e.machine.core.output.items h)

pub fed_bare : (now : ℕ) (f : Feed) (e : EngineView) → AllByRecursion IsNoInstall e.machine.core.output.items → AllByRecursion IsNoInstall (fed now f e).machine.core.output.items
fed_bare now f e h =
    let k = fed_only IsNoInstall none_installs now f e in
    subst (AllByRecursion IsNoInstall) (sym k.behind) (each_append IsNoInstall e.machine.core.output.items k.added h k.each)

module _ {S : Type 0} (app : Application S) (brought : Packed S) where
  brings_payload : (p : WorldPayload) → is_install p ≡ false → BringsPayload app brought p
  brings_payload BuildSnapshot h = tt
  brings_payload (GetSnapshot tx) h = tt
  brings_payload (BeginReceivingSnapshot tx) h = tt
  brings_payload (InstallFullSnapshot s) h = cc
  brings_payload (Apply es) h = tt

  pub brings : (c : WorldCommand) → IsNoInstall c → Brings app brought c
  brings (SaveVote v) h = tt
  brings (AppendInputEntries v es) h = tt
  brings (DeleteConflictLog since) h = tt
  brings (PurgeLog upto) h = tt
  brings (Commit seq already upto) h = tt
  brings (StateMachine c) h = brings_payload c.payload h
  brings BecomeLeader h = tt
  brings QuitLeader h = tt
  brings (ReplicateCommitted x) h = tt
  brings (Replicate target f) h = tt
  brings (RebuildReplicationStreams targets) h = tt
  brings (SendVote req) h = tt
  brings (Respond when reply) h = tt

  -- an engine is ready to work as a packed one: its queue installs nothing; or it follows, and what is installed is what was
  -- brought. (So what it is fed before an install changes nothing)
  abbrev pub Ready : EngineView → Type 0
  Ready e = AllByRecursion IsNoInstall e.machine.core.output.items ⊎ (Follows e × AllByRecursion (Brings app brought) e.machine.core.output.items)

  abbrev pub IsReady : Option EngineView → Type 0
  IsReady None = Unit {0}
  IsReady (Some e) = Ready e

  -- the first of its commands is executed, and fed back
  module _ (e : EngineView) (c : WorldCommand) (cs : List WorldCommand) (now : ℕ) where
    abbrev left_with : EngineView
    left_with = with_queue e (record e.machine.core.output { items = cs })

    abbrev FirstReady : Type 0
    FirstReady = AllByRecursion IsNoInstall (c ∷ cs) ⊎ (Follows e × AllByRecursion (Brings app brought) (c ∷ cs))

    first_brings : FirstReady → Brings app brought c
    first_brings (inl h) = brings c h.0
    first_brings (inr h) = h.1.0

    fed_ready : FirstReady → Ready (feed now c left_with)
    fed_ready (inl h) = inl (fed_bare now (feed_of c) left_with h.1)
    fed_ready (inr h) =
        let f : Follows left_with = record { leader = h.0.leader; candidate = h.0.candidate } in
        subst Ready (sym (fed_none now (feed_of c) left_with f)) (inr (f, h.1.1))

    fed_kept : FirstReady → feed now (bare_command c) (bare_engine left_with) ≡ bare_engine (feed now c left_with)
    fed_kept h = ap (λ f. fed now f (bare_engine left_with)) (feed_of_bare c) ∙ go h
      where
        go : FirstReady → fed now (feed_of c) (bare_engine left_with) ≡ bare_engine (fed now (feed_of c) left_with)
        go (inl k) = ap (fed now (feed_of c)) (engine_bare left_with k.1) ∙ sym (engine_bare (fed now (feed_of c) left_with) (fed_bare now (feed_of c) left_with k.1))
        go (inr k) =
            let f : Follows left_with = record { leader = k.0.leader; candidate = k.0.candidate } in
            let g : Follows (bare_engine left_with) = record { leader = k.0.leader; candidate = k.0.candidate } in
            fed_none now (feed_of c) (bare_engine left_with) g ∙ ap bare_engine (sym (fed_none now (feed_of c) left_with f))

  module _ {L : Type 0} (keep : List Entry → L) (t : Turn) where
    done_kept : (w : Work L) (e : EngineView) (c : WorldCommand) (cs : List WorldCommand) → FirstReady e c cs t.moment
        → packed_work app (done_of keep t w (left_with e c cs t.moment) c) ≡ packed_done_of app (bare_turn t) brought (packed_work app w) (bare_engine (left_with e c cs t.moment)) (bare_command c)
    done_kept w e c cs h = go (stops w.left)
      where
        after_kept : packed_effects app (exec keep t (left_with e c cs t.moment) c w.effects) ≡ node_exec app (bare_turn t) brought (bare_engine (left_with e c cs t.moment)) (bare_command c) (packed_effects app w.effects)
        after_kept = exec_kept app keep t brought (left_with e c cs t.moment) c w.effects (first_brings e c cs t.moment h)

        go : (b : Bool)
            → packed_work app (if b then stopped (exec keep t (left_with e c cs t.moment) c w.effects) else record { engine = Some (feed t.moment c (left_with e c cs t.moment)); effects = exec keep t (left_with e c cs t.moment) c w.effects; left = one_less w.left })
            ≡ (let after = node_exec app (bare_turn t) brought (bare_engine (left_with e c cs t.moment)) (bare_command c) (packed_effects app w.effects) in
            if b then packed_stopped app (bare_turn t) brought after else record { engine = Some (feed t.moment (bare_command c) (bare_engine (left_with e c cs t.moment))); effects = after; left = one_less w.left })
        go true = ap (packed_stopped app (bare_turn t) brought) after_kept
        go false =
            ap (λ (v : PackedEffects S). record { engine = Some (bare_engine (feed t.moment c (left_with e c cs t.moment))); effects = v; left = one_less w.left }) after_kept
            ∙ ap (λ (x : EngineView). record { engine = Some x; effects = node_exec app (bare_turn t) brought (bare_engine (left_with e c cs t.moment)) (bare_command c) (packed_effects app w.effects); left = one_less w.left }) (sym (fed_kept e c cs t.moment h))

    -- a command at work
    pub step_kept : (w : Work L) → IsReady w.engine → packed_work app (work_step keep t w) ≡ packed_work_step app (bare_turn t) brought (packed_work app w)
    step_kept w h = go w.engine h
      where
        by_items : (e : EngineView) (cs : List WorldCommand) → AllByRecursion IsNoInstall cs ⊎ (Follows e × AllByRecursion (Brings app brought) cs)
            → packed_work app (step_of keep t w e (popped (record e.machine.core.output { items = cs }))) ≡ packed_step_of app (bare_turn t) brought (packed_work app w) (bare_engine e) (popped (bare_queue (record e.machine.core.output { items = cs })))
        by_items e [] k = refl
        by_items e (c ∷ cs) k = done_kept w e c cs k

        go : (o : Option EngineView) → IsReady o
            → packed_work app (elim o as (λ _. Work L) [ None ↦ w | Some e ↦ step_of keep t w e (popped e.machine.core.output) ])
            ≡ (elim (option_map bare_engine o) as (λ _. PackedWork S) [ None ↦ packed_work app w | Some e ↦ packed_step_of app (bare_turn t) brought (packed_work app w) e (popped e.machine.core.output) ])
        go None k = refl
        go (Some e) k = by_items e e.machine.core.output.items k

    -- the engine is ready again
    pub step_ready : (w : Work L) → IsReady w.engine → IsReady (work_step keep t w).engine
    step_ready w h = go w.engine refl h
      where
        stopping : (e : EngineView) (c : WorldCommand) (cs : List WorldCommand) (b : Bool) → FirstReady e c cs t.moment
            → IsReady (if b then stopped (exec keep t (left_with e c cs t.moment) c w.effects) else record { engine = Some (feed t.moment c (left_with e c cs t.moment)); effects = exec keep t (left_with e c cs t.moment) c w.effects; left = one_less w.left }).engine
        stopping e c cs true k = tt
        stopping e c cs false k = fed_ready e c cs t.moment k

        by_items : (e : EngineView) (cs : List WorldCommand) → w.engine ≡ Some e → Ready e → AllByRecursion IsNoInstall cs ⊎ (Follows e × AllByRecursion (Brings app brought) cs)
            → IsReady (step_of keep t w e (popped (record e.machine.core.output { items = cs }))).engine
        by_items e [] q r k = subst IsReady (sym q) r
        by_items e (c ∷ cs) q r k = stopping e c cs (stops w.left) k

        go : (o : Option EngineView) → w.engine ≡ o → IsReady o → IsReady (elim o as (λ _. Work L) [ None ↦ w | Some e ↦ step_of keep t w e (popped e.machine.core.output) ]).engine
        go None q k = subst IsReady (sym q) k
        go (Some e) q k = by_items e e.machine.core.output.items q k k

    idle_kept : (w : Work L) → packed_idle app (bare_turn t) brought (packed_work app w) ≡ idle w
    idle_kept w = go w.engine
      where
        go : (o : Option EngineView) → is_idle (option_map bare_engine o) ≡ is_idle o
        go None = refl
        go (Some e) = ap (λ n. nat_eq n 0) (length-map e.machine.core.output.items bare_command)

    -- the whole queue
    pub worked_kept : (n : ℕ) (w : Work L) → IsReady w.engine → packed_work app (worked keep n t w) ≡ packed_worked app (bare_turn t) brought n (packed_work app w)
    unfolding worked packed_worked
    worked_kept n w h = go n w h
      where
        go : (n : ℕ) (w : Work L) → IsReady w.engine
            → packed_work app (until idle (work_step keep t) n w) ≡ until (packed_idle app (bare_turn t) brought) (packed_work_step app (bare_turn t) brought) n (packed_work app w)
        go zero w h = refl
        go (suc n) w h = by (idle w) refl (go n (work_step keep t w) (step_ready w h))
          where
            by : (b : Bool) → idle w ≡ b
                → packed_work app (until idle (work_step keep t) n (work_step keep t w)) ≡ until (packed_idle app (bare_turn t) brought) (packed_work_step app (bare_turn t) brought) n (packed_work app (work_step keep t w))
                → packed_work app (until idle (work_step keep t) (suc n) w) ≡ until (packed_idle app (bare_turn t) brought) (packed_work_step app (bare_turn t) brought) (suc n) (packed_work app w)
            by true q along = rw (idle_kept w, q) refl
            by false q along = rw (idle_kept w, q) (along ∙ ap (until (packed_idle app (bare_turn t) brought) (packed_work_step app (bare_turn t) brought) n) (step_kept w h))
