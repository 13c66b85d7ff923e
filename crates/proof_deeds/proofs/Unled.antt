-- An engine that neither leads nor stands for election leads only in a later term: it has to stand first.
use Rattle.std.proofs.Common.{ℕ, ◌+◌, ◌<◌, ◌≤◌, ◌≡◌, ◌≢◌, ◌⊎◌, inl, inr, ⊎_elim, Bool, true, false, List, [], ◌∷◌, map, length, arith, refl, sym, ap, subst, true≢false, Option, None, Some}
use Rattle.std.specs.Prelude.{IfSome, is_some, nat_lt, Result, Err, ◌==◌, ◌&&◌, if◌then◌else◌}
use Rattle.std.specs.Option.{option_map}
use Rattle.std.specs.Ordering.{bool_cmp, is_eq, is_gt, is_le, nat_cmp, ordering_then}
use Rattle.std.specs.Result.{is_ok}
use Rattle.std.specs.declared.cmp.Ordering.TheVariants.{Greater}
use Rattle.std.proofs.lemmas.Bool.{cases_lt}
use Rattle.std.proofs.lemmas.Bool.Decides.{nat_tests}
use Rattle.std.proofs.lemmas.Cmp.{nat_cmp_total}
use Rattle.raft_node.specs.raft_state.declared.ids.LogId.{LogId}
use Rattle.raft_node.specs.raft_state.declared.ids.Vote.{Vote}
use Rattle.raft_node.specs.raft_state.Log.{last}
use Rattle.raft_node.specs.raft_state.Order.{vote_cmp}
use Rattle.raft_node.specs.raft_state.Same.{nat_same}
use Rattle.raft_node.specs.raft_state.State.{is_leading}
use Rattle.raft_node.specs.raft_error.Number.{number_of}
use Rattle.raft_node.specs.raft_error.declared.error.EngineError.{EngineError}
use Rattle.raft_node.specs.raft_command.declared.command.Command.TheVariants.{SaveVote}
use Rattle.raft_node.specs.raft_command.declared.config.EngineConfig.{EngineConfig}
use Rattle.raft_node.specs.raft_command.declared.message.VoteRequest.{VoteRequest}
use Rattle.raft_node.specs.raft_command.declared.message.VoteResponse.{VoteResponse}
use Rattle.raft_node.specs.raft_command.declared.replication.ReplicationResult.{ReplicationResult}
use Rattle.raft_node.specs.raft_command.declared.replication.ReplicationSessionId.{ReplicationSessionId}
use Rattle.raft_node.specs.raft_command.Message.{is_granted_to}
use Rattle.raft_node.specs.raft_command.Queue.{popped}
use Rattle.raft_node.specs.raft_proposer.Candidate.{candidate_of}
use Rattle.raft_node.specs.raft_steps.Engine.{default_log_id, elect, handle_vote_resp, initialize, take_grant, take_rejection}
use Rattle.raft_node.specs.raft_steps.FollowingHandler.{do_append_entries}
use Rattle.raft_node.specs.raft_steps.InstallRefusals.{refusals_of_fit, refusals_of_install}
use Rattle.raft_node.specs.raft_steps.Installs.{handle_install_full_snapshot, install_and_reply, reply_install}
use Rattle.raft_node.specs.raft_steps.Laws.{Queues}
use Rattle.raft_node.specs.raft_steps.LeaderHandler.{leader_append_entries}
use Rattle.raft_node.specs.raft_steps.Parts.{led_of, leading, on_core, then_command, with_state}
use Rattle.raft_node.specs.raft_steps.Refusals.{refusals_of_counter_led, refusals_of_elect, refusals_of_initialize, refusals_of_local_progress, refusals_of_propose, refusals_of_spent, refusals_of_trigger_snapshot, refusals_of_vote_resp}
use Rattle.raft_node.specs.raft_steps.Replies.{update_progress}
use Rattle.raft_node.specs.raft_steps.ReplicationHandler.{initiate_replication, update_local_progress}
use Rattle.raft_node.specs.raft_steps.ReplyRefusals.{refusals_of_progress}
use Rattle.raft_node.specs.raft_steps.RequestRefusals.{refusals_of_append, refusals_of_commit, refusals_of_follow, refusals_of_vote_req}
use Rattle.raft_node.specs.raft_steps.Requests.{append_answer, append_entries, follow, handle_append_entries, handle_commit_entries, handle_vote_req, refuses_vote_req}
use Rattle.raft_node.specs.raft_steps.ServerStateHandler.{update_role}
use Rattle.raft_node.specs.raft_steps.SnapshotCalls.{finish_building_snapshot, trigger_purge_log}
use Rattle.raft_node.specs.raft_steps.SnapshotHandler.{trigger_snapshot}
use Rattle.raft_node.specs.raft_steps.VoteHandler.{become_following, become_leader, rejects_vote, update_internal_server_state, update_vote}
use Rattle.raft_node.proofs.raft_steps_proofs.Kept.{either}
use Rattle.raft_node.proofs.raft_steps_proofs.KeptFollow.{heard_case, not_own}
use Rattle.raft_node.proofs.raft_steps_proofs.LawsQueue.{do_append_queues, handle_vote_resp_queues, local_queues}
use Rattle.raft_node.proofs.raft_steps_proofs.Leads.{no_order, vote_same}
use Rattle.raft_node.proofs.raft_steps_proofs.Marks.{internal_marks}
use Rattle.raft_node.specs.raft_store.declared.entry.Entry.{Entry}
use Rattle.raft_node.specs.raft_store.Built.{meta_of}
use Rattle.raft_node.specs.raft_store.Entries.{entry_meaning}
use Rattle.raft_node.specs.raft_store.Types.{EngineView, WorldCandidate, WorldCommand, WorldLeader, WorldMachine, WorldSnapshot}
use Rattle.raft_node.specs.raft_schedule.declared.event.SkipReason.{SkipReason}
use Rattle.raft_node.specs.raft_schedule.declared.event.SkipReason.TheVariants.{NotLeader, StaleSession}
use Rattle.raft_node.specs.raft_schedule.declared.event.Start.{Start}
use Rattle.raft_node.specs.raft_calls.declared.feed.Feed.{Feed}
use Rattle.raft_node.specs.raft_calls.declared.feed.Feed.TheVariants.{Saved, Stored, Nothing}
use Rattle.raft_node.specs.raft_calls.declared.message.Body.{Body}
use Rattle.raft_node.specs.raft_calls.declared.message.Body.TheVariants as body
use Rattle.raft_node.specs.raft_calls.declared.message.Origin.{Origin}
use Rattle.raft_node.specs.raft_calls.Deliveries.{answered, appended, deliver, leads_in, led_call, reply_token, same_session, skip_delivery, skip_reply, take_append, take_commit, unled_number, vote_replied, vote_requested, with_machine}
use Rattle.raft_node.specs.raft_calls.Elections.{elected, first_entry}
use Rattle.raft_node.specs.raft_calls.Engines.{with_queue}
use Rattle.raft_node.specs.raft_calls.Feeds.{WorldLed, asks_itself, called, fed, feed_of, grant_own, hold_own, own_grant}
use Rattle.raft_node.specs.raft_calls.LeaderCalls.{inflight_to, request_of, skip_step_down, value_entry}
use Rattle.raft_node.specs.raft_calls.Memberships.{groups_in, members_with, membership_entry}
use Rattle.raft_node.specs.raft_calls.Snapshots.{told_built}
use Rattle.raft_node.specs.declared.act.Act.{Act}
use Rattle.raft_node.specs.declared.act.Act.TheVariants.{ChangeLearners, ChangeMembership, Elect, Fail, FinishSnapshot, Initialize, Propose, Read, Restart, SendHeartbeat, StepDown, Stop, Take, TriggerPurge, TriggerSnapshot}
use Rattle.raft_node.specs.declared.given.Given.{Given}
use Rattle.raft_node.specs.declared.node.Turn.{Turn}
use Rattle.raft_node.specs.Events.{calls_at, skip_running}
use Rattle.raft_node.specs.Execute.{exec}
use Rattle.raft_node.specs.Net.{NodeView}
use Rattle.raft_node.specs.Runs.{whole_logs}
use Rattle.raft_node.specs.Snapshots.{kept_built}
use Rattle.raft_node.specs.Work.{Work, done_of, one_less, step_of, stopped, stops, work_step}
use Rattle.raft_node.proofs.Ready.{node_after}
use Rattle.proof_deeds.specs.Follows.{BodyIs}
use Rattle.proof_deeds.specs.Images.{Ideal, setup_of}
use Rattle.proof_deeds.proofs.Events.{ActFits}
use Rattle.proof_deeds.proofs.Kept.{queues_rise}

-- Terms rise with votes

greater : (a b : ℕ) → b < a → nat_cmp a b ≡ Greater
greater a b h =
    let l : nat_lt a b ≡ false = grind (arith, nat_tests, h) in
    let e : (a == b) ≡ false = grind (arith, nat_tests, h) in
    rw (l, e) refl

term_at_least : (v w : Vote ℕ) → is_le (vote_cmp nat_cmp v w) ≡ true → v.leader_id.term ≤ w.leader_id.term
term_at_least v w h = ⊎_elim (λ l. absurd (above l)) (λ l. l) (cases_lt w.leader_id.term v.leader_id.term)
  where
    above : w.leader_id.term < v.leader_id.term → ⊥
    above l =
        let z : is_le (ordering_then (ordering_then Greater (nat_cmp v.leader_id.node_id w.leader_id.node_id)) (bool_cmp v.committed w.committed)) ≡ true =
        subst (λ o. is_le (ordering_then (ordering_then o (nat_cmp v.leader_id.node_id w.leader_id.node_id)) (bool_cmp v.committed w.committed)) ≡ true) (greater v.leader_id.term w.leader_id.term l) h in
        true≢false (sym z)

-- an engine's vote is of a later term
abbrev pub Later : ℕ → EngineView → Type 0
Later term e = term < e.machine.core.state.vote.leader_id.term

called_later : {E : Type 0} (term : ℕ) (o : Option E) (e : EngineView) (m : WorldMachine) → Queues nat_cmp e.machine.core m.core → Later term e → Later term (called o e m)
called_later term None e m q h = let l : e.machine.core.state.vote.leader_id.term ≤ m.core.state.vote.leader_id.term = term_at_least e.machine.core.state.vote m.core.state.vote (queues_rise e.machine.core m.core q) in omega (arith, h, l)
called_later term (Some x) e m q h = h

fed_later : (term now : ℕ) (f : Feed) (e : EngineView) → Later term e → Later term (fed now f e)
fed_later term now Nothing e h = h
fed_later term now (Stored v x) e h = go e.machine.leader
  where
    own : (l : WorldLeader) (b : Bool) → Later term (if b then hold_own x l e else e)
    own l true =
        called_later term (refusals_of_local_progress nat_cmp e.config x (led_of l e.machine.core.state e.machine.core.output)) e (leading e.machine (update_local_progress nat_cmp e.config x (led_of l e.machine.core.state e.machine.core.output)))
        (local_queues nat_cmp nat_cmp_total e.config x (led_of l e.machine.core.state e.machine.core.output)) h
    own l false = h

    go : (o : Option WorldLeader) → Later term (elim o as (λ _. EngineView) [ None ↦ e | Some l ↦ (if is_eq (vote_cmp nat_cmp l.vote v) then hold_own x l e else e) ])
    go None = h
    go (Some l) = own l (is_eq (vote_cmp nat_cmp l.vote v))
fed_later term now (Saved v) e h = go e.machine.candidate
  where
    own : (b : Bool) → Later term (if b then grant_own now v e else e)
    own true =
        called_later term (refusals_of_vote_resp nat_cmp e.config e.config.id (own_grant v) e.machine) e (handle_vote_resp nat_cmp entry_meaning e.config e.config.id (own_grant v) now e.machine)
        (handle_vote_resp_queues nat_cmp nat_cmp_total entry_meaning e.config e.config.id (own_grant v) now e.machine) h
    own false = h

    go : (o : Option WorldCandidate) → Later term (elim o as (λ _. EngineView) [ None ↦ e | Some c ↦ (if asks_itself v c e then grant_own now v e else e) ])
    go None = h
    go (Some c) = own (asks_itself v c e)

-- While the queue is executed

-- no leader and no candidate
abbrev pub Unled : WorldMachine → Type 0
Unled m = (m.leader ≡ None) × (m.candidate ≡ None)

-- an engine that leads only in later terms: it neither leads nor stands, and its vote isn't of an earlier term, or it is of a
-- later one
abbrev pub Anew : ℕ → EngineView → Type 0
Anew term e = (Unled e.machine × (term ≤ e.machine.core.state.vote.leader_id.term)) ⊎ Later term e

fed_still : (now : ℕ) (f : Feed) (e : EngineView) → Unled e.machine → fed now f e ≡ e
fed_still now Nothing e h = refl
fed_still now (Stored v x) e h = go e.machine.leader h.0
  where
    go : (o : Option WorldLeader) → o ≡ None → (elim o as (λ _. EngineView) [ None ↦ e | Some l ↦ (if is_eq (vote_cmp nat_cmp l.vote v) then hold_own x l e else e) ]) ≡ e
    go None q = refl
    go (Some l) q = cc
fed_still now (Saved v) e h = go e.machine.candidate h.1
  where
    go : (o : Option WorldCandidate) → o ≡ None → (elim o as (λ _. EngineView) [ None ↦ e | Some c ↦ (if asks_itself v c e then grant_own now v e else e) ]) ≡ e
    go None q = refl
    go (Some c) q = cc

fed_anew : (term now : ℕ) (f : Feed) (e : EngineView) → Anew term e → Anew term (fed now f e)
fed_anew term now f e (inl h) = subst (Anew term) (sym (fed_still now f e h.0)) (inl h)
fed_anew term now f e (inr h) = inr (fed_later term now f e h)

abbrev pub AnewAt : ℕ → Work (List Entry) → Type 0
AnewAt term w = IfSome w.engine (Anew term)

pub step_anew : (term : ℕ) (t : Turn) (w : Work (List Entry)) → AnewAt term w → AnewAt term (work_step whole_logs t w)
step_anew term t w h = go w.engine h
  where
    done : (e : EngineView) (c : WorldCommand) → Anew term e → AnewAt term (done_of whole_logs t w e c)
    done e c k = pick (stops w.left)
      where
        pick : (b : Bool) → AnewAt term (if b then stopped (exec whole_logs t e c w.effects) else record { engine = Some (fed t.moment (feed_of c) e); effects = exec whole_logs t e c w.effects; left = one_less w.left })
        pick true = tt
        pick false = fed_anew term t.moment (feed_of c) e k

    first : (e : EngineView) (cs : List WorldCommand) → Anew term e → AnewAt term (step_of whole_logs t w e (popped (record e.machine.core.output { items = cs })))
    first e [] k = h
    first e (c ∷ cs) k = done (with_queue e (record e.machine.core.output { items = cs })) c k

    go : (o : Option EngineView) → IfSome o (Anew term) → AnewAt term (elim o as (λ _. Work (List Entry)) [ None ↦ w | Some e ↦ step_of whole_logs t w e (popped e.machine.core.output) ])
    go None k = h
    go (Some e) k = first e e.machine.core.output.items k

-- Steps

module _ (config : EngineConfig ℕ) where
  -- an election is in the next term
  pub elect_term : (now : ℕ) (m : WorldMachine) → (elect nat_cmp entry_meaning config now m).core.state.vote.leader_id.term ≡ m.core.state.vote.leader_id.term + 1
  unfolding elect update_role update_vote
  elect_term now m =
      rw (greater (m.core.state.vote.leader_id.term + 1) m.core.state.vote.leader_id.term (omega arith))
      (ap (λ (w : Vote ℕ). w.leader_id.term) (internal_marks nat_cmp entry_meaning config raised).vote)
    where
      v : Vote ℕ
      v = record { leader_id = record { term = m.core.state.vote.leader_id.term + 1; node_id = config.id }; committed = false }

      raised : WorldMachine
      raised = on_core (λ c. then_command (with_state c (record c.state { vote = v; time = Some now })) (SaveVote v)) (record m { candidate = Some (candidate_of nat_cmp now v (last m.core.state.ids) m.core.state.em.membership) })

  initialize_term : (first : ℕ) (x : Entry) (now : ℕ) (m : WorldMachine) → m.core.state.vote.leader_id.term < (initialize nat_cmp entry_meaning config first x now m).core.state.vote.leader_id.term
  unfolding initialize
  initialize_term first x now m =
      let es : List Entry = entry_meaning.with_id x (default_log_id first) ∷ [] in
      let l : m.core.state.vote.leader_id.term ≤ (do_append_entries nat_cmp entry_meaning config es m.core).state.vote.leader_id.term =
      term_at_least m.core.state.vote (do_append_entries nat_cmp entry_meaning config es m.core).state.vote
      (queues_rise m.core (do_append_entries nat_cmp entry_meaning config es m.core) (do_append_queues nat_cmp nat_cmp_total entry_meaning config es m.core)) in
      let t : (elect nat_cmp entry_meaning config now (on_core (do_append_entries nat_cmp entry_meaning config es) m)).core.state.vote.leader_id.term ≡ (do_append_entries nat_cmp entry_meaning config es m.core).state.vote.leader_id.term + 1 =
      elect_term now (on_core (do_append_entries nat_cmp entry_meaning config es) m) in
      omega (arith, l, t)

  -- nobody leads by a vote that isn't committed
  internal_unled : (m : WorldMachine) → m.core.state.vote.committed ≡ false → Unled m → Unled (update_internal_server_state nat_cmp entry_meaning config m)
  unfolding update_internal_server_state become_following
  internal_unled m c h = go (is_leading nat_cmp m.core.state config.id) m.core.state.vote.committed c
    where
      go : (l b : Bool) → b ≡ false → Unled (if l && b then become_leader nat_cmp entry_meaning config m else if l then m else become_following nat_cmp config m)
      go l true q = cc
      go true false q = h
      go false false q = (refl, refl)

  pending_unled : (v : Vote ℕ) (now : ℕ) (m : WorldMachine) → v.committed ≡ false → Unled m → Unled (update_vote nat_cmp entry_meaning config v now m)
  unfolding update_vote
  pending_unled v now m c h = go (rejects_vote nat_cmp m.core.state v) refl
    where
      taken : rejects_vote nat_cmp m.core.state v ≡ false → (g : Bool) → is_gt (vote_cmp nat_cmp v m.core.state.vote) ≡ g
          → Unled (update_internal_server_state nat_cmp entry_meaning config
          (on_core (λ c. if g then then_command (with_state c (record c.state { vote = v; time = Some now })) (SaveVote v) else with_state c (record c.state { time = Some now })) m))
      taken low true e = internal_unled (on_core (λ c. then_command (with_state c (record c.state { vote = v; time = Some now })) (SaveVote v)) m) c h
      taken low false e =
          let own : v ≡ m.core.state.vote = vote_same nat_cmp nat_same v m.core.state.vote (no_order _ low e) in
          internal_unled (on_core (λ c. with_state c (record c.state { time = Some now })) m) (subst (λ (w : Vote ℕ). w.committed ≡ false) own c) h

      go : (b : Bool) → rejects_vote nat_cmp m.core.state v ≡ b
          → Unled (if b then m
          else update_internal_server_state nat_cmp entry_meaning config
          (on_core (λ c. if is_gt (vote_cmp nat_cmp v c.state.vote) then then_command (with_state c (record c.state { vote = v; time = Some now })) (SaveVote v) else with_state c (record c.state { time = Some now })) m))
      go true low = h
      go false low = taken low (is_gt (vote_cmp nat_cmp v m.core.state.vote)) refl

  -- votes that are asked for, and replies
  vote_req_unled : (req : VoteRequest ℕ) (now : ℕ) (m : WorldMachine) → req.vote.committed ≡ false → Unled m → Unled (handle_vote_req nat_cmp entry_meaning config req now m)
  unfolding handle_vote_req
  vote_req_unled req now m c h = either Unled (refuses_vote_req nat_cmp config m.core.state req now) _ _ h (pending_unled req.vote now m c h)

  vote_resp_unled : (target : ℕ) (resp : VoteResponse ℕ) (now : ℕ) (m : WorldMachine) → Unled m → Unled (handle_vote_resp nat_cmp entry_meaning config target resp now m)
  unfolding handle_vote_resp
  vote_resp_unled target resp now m h = go m.candidate h.1
    where
      go : (o : Option WorldCandidate) → o ≡ None → Unled (elim o as (λ _. WorldMachine) [
        | None ↦ m
        | Some c ↦ (if is_granted_to nat_cmp resp c.vote then take_grant nat_cmp entry_meaning config c target now m else take_rejection nat_cmp entry_meaning config resp now m)
      ])
      go None q = h
      go (Some c) q = cc

  -- requests of leaders: of other nodes, as the engine asks
  append_unled : (v : Vote ℕ) (prev : Option (LogId ℕ)) (es : List Entry) (now : ℕ) (m : WorldMachine) → refusals_of_append nat_cmp config v prev (map entry_meaning.id_of es) m ≡ None → Unled m
      → Unled (handle_append_entries nat_cmp entry_meaning config v prev es (Some reply_token) now m)
  unfolding handle_append_entries append_entries
  append_unled v prev es now m asks h = go (rejects_vote nat_cmp m.core.state v) refl
    where
      go : (b : Bool) → rejects_vote nat_cmp m.core.state v ≡ b → Unled (if b then m else on_core (follow nat_cmp entry_meaning config prev es) (update_vote nat_cmp entry_meaning config v now m))
      go true low = h
      go false low =
          heard_case nat_cmp nat_cmp_total nat_same entry_meaning config Unled v now m low
          (not_own nat_cmp nat_cmp_total nat_same entry_meaning config v (refusals_of_follow nat_cmp m.core.state v prev (map entry_meaning.id_of es)) m asks) (λ role q. (refl, refl))

  commit_unled : (x : Option (LogId ℕ)) (m : WorldMachine) → Unled m → Unled (handle_commit_entries nat_cmp entry_meaning config x m)
  unfolding handle_commit_entries
  commit_unled x m h = h

  install_unled : (v : Vote ℕ) (snapshot : WorldSnapshot) (now : ℕ) (m : WorldMachine) → refusals_of_install nat_cmp config v snapshot.meta m ≡ None → Unled m
      → Unled (handle_install_full_snapshot nat_cmp entry_meaning config v snapshot reply_token now m)
  unfolding handle_install_full_snapshot
  install_unled v snapshot now m asks h = go (rejects_vote nat_cmp m.core.state v) refl
    where
      go : (b : Bool) → rejects_vote nat_cmp m.core.state v ≡ b
          → Unled (if b then on_core (reply_install None reply_token) m else on_core (install_and_reply nat_cmp entry_meaning config snapshot reply_token) (update_vote nat_cmp entry_meaning config v now m))
      go true low = h
      go false low =
          heard_case nat_cmp nat_cmp_total nat_same entry_meaning config Unled v now m low
          (not_own nat_cmp nat_cmp_total nat_same entry_meaning config v (refusals_of_fit nat_cmp m.core.state v snapshot.meta) m asks) (λ role q. (refl, refl))

  -- purges and builds
  purge_unled : (i : ℕ) (m : WorldMachine) → Unled m → Unled (trigger_purge_log nat_cmp i m)
  unfolding trigger_purge_log
  purge_unled i m h = h

  built_unled : (es : List Entry) (m : WorldMachine) → Unled m → Unled (finish_building_snapshot nat_cmp config (meta_of entry_meaning es) m)
  unfolding finish_building_snapshot
  built_unled es m h = h

-- The calls of an event

-- what calls make of an engine that neither leads nor stands: such an engine, or one with a vote of a later term
abbrev pub Stays : EngineView → EngineView → Type 0
Stays e f = Unled f.machine ⊎ Later e.machine.core.state.vote.leader_id.term f

abbrev engine_in : Option ℕ × EngineView → EngineView
engine_in r = r.1

module _ (e : EngineView) (h : Unled e.machine) where
  -- a call, refused or not
  answered_stays : (asks : Option (EngineError ℕ (Unit {0}))) (after : EngineView) → (asks ≡ None → Stays e after) → Stays e (answered asks e after).1
  answered_stays None after k = k refl
  answered_stays (Some x) after k = inl h

  -- one of a leader
  led_stays : (asks : WorldLed → Option (EngineError ℕ (Unit {0}))) (step : WorldLed → WorldLed) → Stays e (led_call asks step e).1
  led_stays asks step = go e.machine.leader h.0
    where
      go : (o : Option WorldLeader) → o ≡ None → Stays e (engine_in (elim o as (λ _. Option ℕ × EngineView) [
        | None ↦ (Some (unled_number e), e)
        | Some l ↦
            (let led = led_of l e.machine.core.state e.machine.core.output in
            answered (asks led) e (with_machine e (leading e.machine (step led))))
      ]))
      go None q = inl h
      go (Some l) q = cc

  elected_stays : (now : ℕ) → Stays e (elected now e).1
  elected_stays now =
      answered_stays (refusals_of_elect nat_cmp e.config e.machine) (with_machine e (elect nat_cmp entry_meaning e.config now e.machine))
      (λ asks. inr (let t : (elect nat_cmp entry_meaning e.config now e.machine).core.state.vote.leader_id.term ≡ e.machine.core.state.vote.leader_id.term + 1 = elect_term e.config now e.machine in omega (arith, t)))

  -- requests
  append_stays : (v : Vote ℕ) (prev : Option (LogId ℕ)) (es : List Entry) (told : Option (LogId ℕ)) (now : ℕ) → Stays e (take_append v prev es told now e).1
  append_stays v prev es told now = go (refusals_of_append nat_cmp e.config v prev (map entry_meaning.id_of es) e.machine) refl
    where
      new : EngineView
      new = appended v prev es now e

      committed : Unled (appended v prev es now e).machine → (asks : Option (EngineError ℕ (Unit {0})))
          → Stays e (answered asks (appended v prev es now e) (with_machine (appended v prev es now e) (handle_commit_entries nat_cmp entry_meaning e.config told (appended v prev es now e).machine))).1
      committed k None = inl (commit_unled e.config told new.machine k)
      committed k (Some x) = inl k

      by : Unled (appended v prev es now e).machine → (b : Bool) → Stays e (engine_in (if b then take_commit told (appended v prev es now e) else (None, appended v prev es now e)))
      by k true = committed k (refusals_of_commit nat_cmp told (appended v prev es now e).machine)
      by k false = inl k

      go : (o : Option (EngineError ℕ (Unit {0}))) → refusals_of_append nat_cmp e.config v prev (map entry_meaning.id_of es) e.machine ≡ o → Stays e (engine_in (elim o as (λ _. Option ℕ × EngineView) [
        | Some r ↦ (Some (number_of r), e)
        | None ↦ (if is_ok (append_answer nat_cmp entry_meaning e.config v prev now e.machine) then take_commit told (appended v prev es now e) else (None, appended v prev es now e))
      ]))
      go (Some r) asks = inl h
      go None asks = by (append_unled e.config v prev es now e.machine asks h) (is_ok (append_answer nat_cmp entry_meaning e.config v prev now e.machine))

  -- it is in no leader's session
  stale : (s : ReplicationSessionId ℕ) → leads_in s e ≡ false
  stale s = go e.machine.leader h.0
    where
      go : (o : Option WorldLeader) → o ≡ None
          → (elim (option_map (λ (l : WorldLeader). let t : ReplicationSessionId ℕ = record { vote = l.vote; membership_log_id = e.machine.core.state.em.log_id } in t) o) as (λ _. Bool) [ None ↦ false | Some t ↦ same_session t s ]) ≡ false
      go None q = refl
      go (Some l) q = cc

  skips : (o : Origin) → skip_reply o e ≢ None
  skips o q = go (leads_in o.session_id e) (stale o.session_id) q
    where
      go : (b : Bool) → b ≡ false → ◌≡◌ {A = Option SkipReason} (if b then None else Some StaleSession) None → ⊥
      go true l q = cc
      go false l q = cc

  delivered_stays : (given : Given) (W : Ideal) (from to now : ℕ) (b : Body) → BodyIs (setup_of given.membership) from to b W → skip_delivery b e ≡ None → Stays e (deliver from b now e).1
  delivered_stays given W from to now (body.VoteRequest req) is none =
      answered_stays (refusals_of_vote_req nat_cmp e.config req now e.machine) (vote_requested req now e) (λ asks. inl (vote_req_unled e.config req now e.machine is.pending h))
  delivered_stays given W from to now (body.VoteReply resp) is none =
      answered_stays (refusals_of_vote_resp nat_cmp e.config from resp e.machine) (vote_replied from resp now e) (λ asks. inl (vote_resp_unled e.config from resp now e.machine h))
  delivered_stays given W from to now (body.AppendRequest o prev es told) is none = append_stays o.session_id.vote prev es told now
  delivered_stays given W from to now (body.AppendReply o reply prev upto) is none = absurd (skips o none)
  delivered_stays given W from to now (body.SnapshotRequest o snapshot) is none =
      answered_stays (refusals_of_install nat_cmp e.config o.session_id.vote snapshot.meta e.machine) (with_machine e (handle_install_full_snapshot nat_cmp entry_meaning e.config o.session_id.vote snapshot reply_token now e.machine))
      (λ asks. inl (install_unled e.config o.session_id.vote snapshot now e.machine asks h))
  delivered_stays given W from to now (body.SnapshotReply o reply upto) is none = absurd (skips o none)

  -- a leader that isn't there doesn't step down
  no_leader_down : skip_step_down e ≢ None
  no_leader_down q = go e.machine.leader h.0 q
    where
      go : (o : Option WorldLeader) → o ≡ None → ◌≡◌ {A = Option SkipReason} (if is_some o then None else Some NotLeader) None → ⊥
      go None l q = cc
      go (Some x) l q = cc

  -- the calls of an event that isn't skipped, and starts no node
  pub calls_stay : (given : Given) (W : Ideal) (n : NodeView) (act : Act) → ((start : Start) → act ≢ Restart start) → skip_running act (record n { engine = Some e }) e ≡ None → ActFits given.membership W n.id act
      → IfSome (calls_at given act (record n { engine = Some e })).1.engine (Stays e)
  calls_stay given W n Initialize other none told =
      answered_stays (refusals_of_initialize nat_cmp entry_meaning e.config 0 (first_entry given.membership) e.machine) (with_machine e (initialize nat_cmp entry_meaning e.config 0 (first_entry given.membership) n.moment e.machine))
      (λ asks. inr (initialize_term e.config 0 (first_entry given.membership) n.moment e.machine))
  calls_stay given W n (Elect candidates) other none told = elected_stays n.moment
  calls_stay given W n (Take m) other none told = delivered_stays given W m.from m.to n.moment m.body told.1 none
  calls_stay given W n (Propose values) other none told = led_stays (refusals_of_propose (length (map value_entry values))) (leader_append_entries nat_cmp entry_meaning e.config (map value_entry values))
  calls_stay given W n SendHeartbeat other none told = led_stays refusals_of_counter_led (initiate_replication nat_cmp e.config true)
  calls_stay given W n (Fail target) other none told =
      let failed : Result (ReplicationResult ℕ) (Unit {0}) = Err tt in
      led_stays (refusals_of_progress nat_cmp e.config target (request_of (inflight_to target e)) failed) (update_progress nat_cmp e.config target (request_of (inflight_to target e)) failed)
  calls_stay given W n TriggerSnapshot other none told = answered_stays (refusals_of_trigger_snapshot e.machine.core) (with_machine e (on_core trigger_snapshot e.machine)) (λ asks. inl h)
  calls_stay given W n FinishSnapshot other none told = noted n.noted
    where
      built : (es : List Entry) (asks : Option (EngineError ℕ (Unit {0})))
          → IfSome (kept_built es (record n { engine = Some e }) (answered asks e (with_machine e (finish_building_snapshot nat_cmp e.config (meta_of entry_meaning es) e.machine)))).1.engine (Stays e)
      built es None = inl (built_unled e.config es e.machine h)
      built es (Some x) = inl h

      noted : (o : Option (List Entry))
          → IfSome (node_after (elim o as (λ _. Option ℕ × NodeView) [ None ↦ (None, record n { engine = Some e }) | Some es ↦ kept_built es (record n { engine = Some e }) (told_built es e) ])).engine (Stays e)
      noted None = inl h
      noted (Some es) = built es (refusals_of_spent e.machine)
  calls_stay given W n (TriggerPurge i) other none told = answered_stays (refusals_of_spent e.machine) (with_machine e (trigger_purge_log nat_cmp i e.machine)) (λ asks. inl (purge_unled e.config i e.machine h))
  calls_stay given W n (ChangeLearners learners) other none told =
      led_stays (refusals_of_propose 1) (leader_append_entries nat_cmp entry_meaning e.config (membership_entry (members_with (groups_in e) learners) ∷ []))
  calls_stay given W n (ChangeMembership groups learners) other none told =
      led_stays (refusals_of_propose 1) (leader_append_entries nat_cmp entry_meaning e.config (membership_entry (members_with groups learners) ∷ []))
  calls_stay given W n Read other none told = inl h
  calls_stay given W n StepDown other none told = absurd (no_leader_down none)
  calls_stay given W n Stop other none told = tt
  calls_stay given W n (Restart start) other none told = absurd (other start refl)
