-- No event of a world is refused for what a message asks of a node: neither for its vote, nor for what doesn't fit, nor
-- for a committed id that isn't held.
use Rattle.std.proofs.Common.{ℕ, ◌<◌, ◌≡◌, inl, inr, Bool, true, false, not, List, [], ◌∷◌, map, arith, refl, Option, None, Some}
use Rattle.std.specs.Prelude.{IfSome, is_none, if◌then◌else◌, ◌&&◌, ◌==◌}
use Rattle.std.specs.Ordering.{nat_cmp}
use Rattle.std.specs.Result.{is_ok}
use Rattle.raft_node.specs.raft_state.declared.ids.LogId.{LogId}
use Rattle.raft_node.specs.raft_state.declared.membership.Members.{Members}
use Rattle.raft_node.specs.raft_state.Log.{last}
use Rattle.raft_node.specs.raft_state.Members.{is_voter}
use Rattle.raft_node.specs.raft_state.Order.{next}
use Rattle.raft_node.specs.raft_state.State.{is_initialized}
use Rattle.raft_node.specs.raft_error.Number.{first_refusal, number_of}
use Rattle.raft_node.specs.raft_progress.Quorum.{is_quorum}
use Rattle.raft_node.specs.raft_progress.Table.{get}
use Rattle.raft_node.specs.raft_error.declared.error.EngineError.{EngineError}
use Rattle.raft_node.specs.raft_error.declared.error.EngineError.TheVariants.{CounterEnd, IndexEnd, NotAllowed, NotInMembers, Spent, TermEnd, UnknownTarget}
use Rattle.raft_node.specs.raft_command.Message.{is_granted_to}
use Rattle.raft_node.specs.raft_command.declared.config.EngineConfig.{EngineConfig}
use Rattle.raft_node.specs.raft_command.declared.message.VoteRequest.{VoteRequest}
use Rattle.raft_node.specs.raft_command.declared.message.VoteResponse.{VoteResponse}
use Rattle.raft_node.specs.raft_steps.Refusals.{refusals_of_counter, refusals_of_elect, refusals_of_grant, refusals_of_initialize, refusals_of_reply_of, refusals_of_spent, refusals_of_trigger_snapshot, refusals_of_vote_resp, blank_is_at_end, is_counter_end, is_near_end, is_spent}
use Rattle.raft_node.specs.raft_proposer.Joint.{u64_max}
use Rattle.raft_node.specs.raft_proposer.Candidate.{grant_by, is_granted}
use Rattle.raft_node.specs.raft_steps.Engine.{elect, initialize, may_establish}
use Rattle.raft_node.specs.raft_steps.InstallRefusals.{refusals_of_install}
use Rattle.raft_node.specs.raft_steps.Installs.{handle_install_full_snapshot}
use Rattle.raft_node.specs.raft_steps.Parts.{on_core}
use Rattle.raft_node.specs.raft_steps.RequestRefusals.{refusals_of_append, refusals_of_commit, refusals_of_vote_req}
use Rattle.raft_node.specs.raft_steps.Requests.{append_answer, handle_commit_entries, refuses_vote_req}
use Rattle.raft_node.specs.raft_steps.SnapshotCalls.{finish_building_snapshot, trigger_purge_log}
use Rattle.raft_node.specs.raft_steps.SnapshotHandler.{trigger_snapshot}
use Rattle.raft_node.specs.raft_steps.Starts.{refusals_of_startup, startup}
use Rattle.raft_node.specs.raft_steps.VoteHandler.{rejects_vote}
use Rattle.raft_node.specs.raft_store.Built.{meta_of}
use Rattle.raft_node.specs.raft_store.declared.entry.Entry.{Entry}
use Rattle.raft_node.specs.raft_store.Entries.{entry_meaning}
use Rattle.raft_node.specs.raft_store.Types.{WorldCandidate, WorldMachine, WorldStore, EngineView}
use Rattle.proof_mirror.specs.Ready.{Ordered}
use Rattle.raft_node.specs.raft_schedule.declared.event.Start.{Start}
use Rattle.raft_node.specs.raft_schedule.declared.event.Start.TheVariants.{Plain, Saved, Bare}
use Rattle.raft_node.specs.declared.act.Act.{Act}
use Rattle.raft_node.specs.declared.act.Act.TheVariants.{ChangeLearners, ChangeMembership, Elect, Fail, FinishSnapshot, Initialize, Propose, Read, Restart, SendHeartbeat, StepDown, Stop, Take, TriggerPurge, TriggerSnapshot}
use Rattle.raft_node.specs.raft_calls.declared.message.Body.{Body}
use Rattle.raft_node.specs.raft_calls.declared.message.Body.TheVariants as body
use Rattle.raft_node.specs.raft_calls.declared.message.Message.{Message}
use Rattle.raft_node.specs.raft_calls.declared.message.Origin.{Origin}
use Rattle.raft_node.specs.declared.node.Turn.{Turn}
use Rattle.raft_node.specs.declared.given.Given.{Given}
use Rattle.raft_node.specs.raft_calls.Deliveries.{answered, appended, deliver, reply_token, take_append, take_commit, vote_replied, vote_requested, with_machine}
use Rattle.raft_node.specs.Events.{calls_at, turn_of}
use Rattle.raft_node.specs.raft_calls.Elections.{elected, first_entry}
use Rattle.raft_node.specs.raft_calls.Memberships.{groups_in}
use Rattle.raft_node.specs.Net.{NodeView, Records}
use Rattle.raft_node.specs.Snapshots.{kept_built}
use Rattle.raft_node.specs.raft_calls.Snapshots.{told_built}
use Rattle.raft_node.specs.Safety.{IsOtherRefusal}
use Rattle.raft_node.specs.raft_calls.Starts.{begun_anew, resumed}
use Rattle.raft_node.specs.Starts.{engine_on, unsaved}
use Rattle.raft_node.proofs.raft_calls_proofs.StartReady.{begun_one}
use Rattle.proof_deeds.specs.Chains.{Reached}
use Rattle.proof_deeds.specs.Images.{Ideal, setup_of}
use Rattle.proof_deeds.specs.Knows.{Delivered}
use Rattle.proof_deeds.specs.Nets.{EngineFollows, NodeFollows}
use Rattle.proof_deeds.proofs.AppendUnrefused.{append_plain, commit_plain}
use Rattle.proof_deeds.proofs.Calls.{CallLaws, WorldState}
use Rattle.proof_deeds.proofs.Drains.{EngineWorks, stands}
use Rattle.proof_deeds.proofs.Events.{ActFits, appended_vote, entries_works, rests_works}
use Rattle.proof_deeds.proofs.PlainReplies.{changed_number, failed_number, heartbeat_number, proposed_number, read_number, reply_number, snapshot_reply_number, stepped_number}
use Rattle.proof_deeds.proofs.PlainRefusals.{IsPlain, plain_answered, plain_first, plain_or}

-- The refusals of votes and of the first entry

initialize_plain : (first : Members ℕ (Unit {0})) (config : EngineConfig ℕ) (m : WorldMachine) → IsPlain (refusals_of_initialize nat_cmp entry_meaning config 0 (first_entry first) m)
initialize_plain first config m =
    plain_or _ (if is_voter nat_cmp first config.id then None else Some (NotInMembers config.id))
    (plain_first ((is_spent m, Spent) ∷ (is_initialized nat_cmp 0 m.core.state, NotAllowed (last m.core.state.ids) m.core.state.vote) ∷ []) (inr (inr (omega arith)), (inr (inl (omega arith)), tt)))
    (go (is_voter nat_cmp first config.id))
  where
    go : (b : Bool) → IsPlain (if b then None else Some (NotInMembers config.id))
    go true = tt
    go false = inl (omega arith)

elect_plain : (config : EngineConfig ℕ) (m : WorldMachine) → IsPlain (refusals_of_elect nat_cmp config m)
elect_plain config m = plain_first ((is_spent m, Spent) ∷ (m.core.state.vote.leader_id.term == u64_max, TermEnd) ∷ []) (inr (inr (omega arith)), (inr (inl (omega arith)), tt))

vote_req_plain : (config : EngineConfig ℕ) (req : VoteRequest ℕ) (now : ℕ) (m : WorldMachine) → IsPlain (refusals_of_vote_req nat_cmp config req now m)
vote_req_plain config req now m =
    plain_first ((is_spent m, Spent) ∷ (not (refuses_vote_req nat_cmp config m.core.state req now) && (not (rejects_vote nat_cmp m.core.state req.vote) && blank_is_at_end nat_cmp config req.vote m), IndexEnd) ∷ []) (inr (inr (omega arith)), (inr (inl (omega arith)), tt))

vote_resp_plain : (config : EngineConfig ℕ) (target : ℕ) (resp : VoteResponse ℕ) (m : WorldMachine) → IsPlain (refusals_of_vote_resp nat_cmp config target resp m)
vote_resp_plain config target resp m =
    plain_or (refusals_of_spent m) (refusals_of_reply_of nat_cmp target resp m.candidate m.core.state m.leader) (plain_first ((is_spent m, Spent) ∷ []) (inr (inr (omega arith)), tt)) (go m.candidate)
  where
    grant : (c : WorldCandidate) → IsPlain (refusals_of_grant nat_cmp target c m.core.state m.leader)
    grant c =
        plain_first
        ((is_none (get nat_cmp c.progress target), UnknownTarget)
        ∷ (is_granted (is_quorum nat_cmp) (grant_by nat_cmp c target) && may_establish nat_cmp m.core.state m.leader c && (next c.last_log_id == u64_max), IndexEnd)
        ∷ []) (inr (inl (omega arith)), (inr (inl (omega arith)), tt))

    go : (o : Option WorldCandidate) → IsPlain (refusals_of_reply_of nat_cmp target resp o m.core.state m.leader)
    go None = tt
    go (Some c) = of (is_granted_to nat_cmp resp c.vote) where
      of : (b : Bool) → IsPlain (if b then refusals_of_grant nat_cmp target c m.core.state m.leader else None)
      of true = grant c
      of false = tt

module _ (first : Members ℕ (Unit {0})) (Extra : Ideal → WorldState → Type 0) (laws : CallLaws first Extra) (t : Turn) (node : t.id < 18446744073709551616)
    (u : WorldStore) (W : Ideal) (r : Reached (setup_of first) W) (o : Ordered nat_cmp entry_meaning u)
    (e : EngineView) (h : EngineWorks first Extra t u W e) (queue : e.machine.core.output.items ≡ []) where
  module _ (msg : Message) (d : Delivered (setup_of first) t W msg) where
    append_number : (origin : Origin) (prev : Option (LogId ℕ)) (es : List Entry) (told : Option (LogId ℕ)) → msg.body ≡ body.AppendRequest origin prev es told → IfSome (take_append origin.session_id.vote prev es told t.moment e).0 IsOtherRefusal
    append_number origin prev es told is =
        go (refusals_of_append nat_cmp e.config origin.session_id.vote prev (map entry_meaning.id_of es) e.machine) refl (append_plain first t e.config u W msg origin prev es told d is e.machine (stands first Extra t laws node u W e r o h))
      where
        after : EngineView
        after = appended origin.session_id.vote prev es t.moment e

        pick : refusals_of_append nat_cmp e.config origin.session_id.vote prev (map entry_meaning.id_of es) e.machine ≡ None → (b : Bool) → is_ok (append_answer nat_cmp entry_meaning e.config origin.session_id.vote prev t.moment e.machine) ≡ b
            → IfSome (let z : Option ℕ × EngineView = if b then take_commit told (appended origin.session_id.vote prev es t.moment e) else (None, appended origin.session_id.vote prev es t.moment e) in z).0 IsOtherRefusal
        pick asks false ok = tt
        pick asks true ok =
            plain_answered (refusals_of_commit nat_cmp told (appended origin.session_id.vote prev es t.moment e).machine) (appended origin.session_id.vote prev es t.moment e)
            (with_machine (appended origin.session_id.vote prev es t.moment e) (handle_commit_entries nat_cmp entry_meaning e.config told (appended origin.session_id.vote prev es t.moment e).machine))
            (commit_plain first t e.config u W msg origin prev es told d is (appended origin.session_id.vote prev es t.moment e).machine
            (stands first Extra t laws node u W (appended origin.session_id.vote prev es t.moment e) r o (entries_works first Extra laws t node u W r o e h queue msg d origin prev es told is asks))
            (appended_vote origin.session_id.vote prev es t.moment e asks ok))

        go : (x : Option (EngineError ℕ (Unit {0}))) → refusals_of_append nat_cmp e.config origin.session_id.vote prev (map entry_meaning.id_of es) e.machine ≡ x → IsPlain x
            → IfSome (let z : Option ℕ × EngineView = elim x [
              | Some r ↦ (Some (number_of r), e)
              | None ↦
                  (if is_ok (append_answer nat_cmp entry_meaning e.config origin.session_id.vote prev t.moment e.machine) then take_commit told (appended origin.session_id.vote prev es t.moment e)
                  else (None, appended origin.session_id.vote prev es t.moment e))
            ] in z).0 IsOtherRefusal
        go (Some x) asks p = p
        go None asks p = pick asks (is_ok (append_answer nat_cmp entry_meaning e.config origin.session_id.vote prev t.moment e.machine)) refl

    pub deliver_number : (b : Body) → msg.body ≡ b → IfSome (deliver msg.from b t.moment e).0 IsOtherRefusal
    deliver_number (body.VoteRequest req) is = plain_answered (refusals_of_vote_req nat_cmp e.config req t.moment e.machine) e (vote_requested req t.moment e) (vote_req_plain e.config req t.moment e.machine)
    deliver_number (body.VoteReply resp) is = plain_answered (refusals_of_vote_resp nat_cmp e.config msg.from resp e.machine) e (vote_replied msg.from resp t.moment e) (vote_resp_plain e.config msg.from resp e.machine)
    deliver_number (body.AppendRequest origin prev es told) is = append_number origin prev es told is
    deliver_number (body.AppendReply origin reply prev upto) is = reply_number e msg.from origin reply prev upto t.moment
    deliver_number (body.SnapshotRequest origin snapshot) is =
        plain_answered (refusals_of_install nat_cmp e.config origin.session_id.vote snapshot.meta e.machine) e (with_machine e (handle_install_full_snapshot nat_cmp entry_meaning e.config origin.session_id.vote snapshot reply_token t.moment e.machine))
        (laws.plain_install t e.config u W e.machine (stands first Extra t laws node u W e r o h) msg origin snapshot d is h.extra)
    deliver_number (body.SnapshotReply origin reply upto) is = snapshot_reply_number e msg.from origin reply upto t.moment

-- The refusals of calls for snapshots and purges

trigger_plain : (m : WorldMachine) → IsPlain (refusals_of_trigger_snapshot m.core)
trigger_plain m = plain_first ((m.core.output.spent, Spent) ∷ (not m.core.state.building && is_near_end m.core.output.seq, CounterEnd) ∷ []) (inr (inr (omega arith)), (inr (inl (omega arith)), tt))

startup_plain : (config : EngineConfig ℕ) (m : WorldMachine) → IsPlain (refusals_of_startup nat_cmp config m)
startup_plain config m =
    plain_or (refusals_of_counter m) (first_refusal ((blank_is_at_end nat_cmp config m.core.state.vote m, IndexEnd) ∷ []))
    (plain_first ((is_spent m, Spent) ∷ (is_counter_end m, CounterEnd) ∷ []) (inr (inr (omega arith)), (inr (inl (omega arith)), tt)))
    (plain_first ((blank_is_at_end nat_cmp config m.core.state.vote m, IndexEnd) ∷ []) (inr (inl (omega arith)), tt))

spent_plain : (m : WorldMachine) → IsPlain (refusals_of_spent m)
spent_plain m = plain_first ((m.core.output.spent, Spent) ∷ []) (inr (inr (omega arith)), tt)

module _ (given : Given) (Extra : Ideal → WorldState → Type 0) (laws : CallLaws given.membership Extra) (W : Ideal) (r : Reached (setup_of given.membership) W) (rs : Records (List Entry)) (n : NodeView) where
  -- the end of a build
  ended_number : (e : EngineView) (es : List Entry) → IfSome (kept_built es (record n { engine = Some e }) (told_built es e)).0 IsOtherRefusal
  ended_number e es = go (refusals_of_spent e.machine) (spent_plain e.machine) where
    go : (a : Option (EngineError ℕ (Unit {0}))) → IsPlain a → IfSome (kept_built es (record n { engine = Some e }) (answered a e (with_machine e (finish_building_snapshot nat_cmp e.config (meta_of entry_meaning es) e.machine)))).0 IsOtherRefusal
    go None p = tt
    go (Some x) p = p

  finished_number : (e : EngineView) (o : Option (List Entry)) → IfSome (let z : Option ℕ × NodeView = elim o [ None ↦ (None, record n { engine = Some e }) | Some es ↦ kept_built es (record n { engine = Some e }) (told_built es e) ] in z).0 IsOtherRefusal
  finished_number e None = tt
  finished_number e (Some es) = ended_number e es

  -- a start
  resumed_number : (e : EngineView) → IfSome (resumed e).0 IsOtherRefusal
  resumed_number e = plain_answered (refusals_of_startup nat_cmp e.config e.machine) e (with_machine e (startup nat_cmp entry_meaning e.config e.machine)) (startup_plain e.config e.machine)

  elected_number : (now : ℕ) (e : EngineView) → IfSome (elected now e).0 IsOtherRefusal
  elected_number now e = plain_answered (refusals_of_elect nat_cmp e.config e.machine) e (with_machine e (elect nat_cmp entry_meaning e.config now e.machine)) (elect_plain e.config e.machine)

  begun_number : (now : ℕ) (e : EngineView) → IfSome (begun_anew now e).0 IsOtherRefusal
  begun_number now e = begun_one (λ r. IfSome r.0 IsOtherRefusal) now e (λ _. elected_number now e) tt (resumed_number e)

  started_number : (start : Start) (m : NodeView) → IfSome (calls_at given (Restart start) m).0 IsOtherRefusal
  started_number Plain m = resumed_number (engine_on given.settings false m)
  started_number Saved m = resumed_number (engine_on given.settings true m)
  started_number Bare m = begun_number m.moment (engine_on given.settings false (unsaved m))

  module _ (e : EngineView) (h : NodeFollows (setup_of given.membership) W rs (record n { engine = Some e })) (x : Extra W e.machine.core.state) where
    abbrev running : NodeView
    running = record n { engine = Some e }

    running_number : (act : Act) → ActFits given.membership W n.id act → IfSome (calls_at given act running).0 IsOtherRefusal
    running_number Initialize told = plain_answered (refusals_of_initialize nat_cmp entry_meaning e.config 0 (first_entry given.membership) e.machine) e (with_machine e (initialize nat_cmp entry_meaning e.config 0 (first_entry given.membership) n.moment e.machine)) (initialize_plain given.membership e.config e.machine)
    running_number (Elect candidates) told = elected_number n.moment e
    running_number (Take m) told =
        let g : EngineFollows (setup_of given.membership) running W e = h.engine in
        let t : Turn = turn_of (Take m) running in
        deliver_number given.membership Extra laws t h.node n.store W r h.ordered e (rests_works given.membership Extra laws t h.node n.store W r h.ordered running e refl refl h.shaped h.store g x) g.queue m
        (record { request = refl; here = told.0; is = told.1 }) m.body refl
    running_number (Propose values) told = proposed_number e values
    running_number SendHeartbeat told = heartbeat_number e
    running_number (Fail target) told = failed_number e target
    running_number TriggerSnapshot told = plain_answered (refusals_of_trigger_snapshot e.machine.core) e (with_machine e (on_core trigger_snapshot e.machine)) (trigger_plain e.machine)
    running_number FinishSnapshot told = finished_number e n.noted
    running_number (TriggerPurge i) told = plain_answered (refusals_of_spent e.machine) e (with_machine e (trigger_purge_log nat_cmp i e.machine)) (spent_plain e.machine)
    running_number (ChangeLearners learners) told = changed_number e (groups_in e) learners
    running_number (ChangeMembership groups learners) told = changed_number e groups learners
    running_number Read told = read_number e
    running_number StepDown told = stepped_number e
    running_number Stop told = tt
    running_number (Restart start) told = started_number start running

  -- a stopped node has no calls but a start
  stopped_number : (act : Act) → IfSome (calls_at given act (record n { engine = None })).0 IsOtherRefusal
  stopped_number Initialize = tt
  stopped_number (Elect candidates) = tt
  stopped_number (Take m) = tt
  stopped_number (Propose values) = tt
  stopped_number SendHeartbeat = tt
  stopped_number (Fail target) = tt
  stopped_number TriggerSnapshot = tt
  stopped_number FinishSnapshot = tt
  stopped_number (TriggerPurge i) = tt
  stopped_number (ChangeLearners learners) = tt
  stopped_number (ChangeMembership groups learners) = tt
  stopped_number Read = tt
  stopped_number StepDown = tt
  stopped_number Stop = tt
  stopped_number (Restart start) = started_number start (record n { engine = None })

  -- the calls of an event
  pub calls_number : (act : Act) → ActFits given.membership W n.id act → NodeFollows (setup_of given.membership) W rs n → IfSome n.engine (λ e. Extra W e.machine.core.state) → IfSome (calls_at given act n).0 IsOtherRefusal
  calls_number act told h x = go n.engine h x where
    go : (o : Option EngineView) → NodeFollows (setup_of given.membership) W rs (record n { engine = o }) → IfSome o (λ e. Extra W e.machine.core.state) → IfSome (calls_at given act (record n { engine = o })).0 IsOtherRefusal
    go None j b = stopped_number act
    go (Some e) j b = running_number e j b act told
