-- A leader that was deposed: the voter that has stored a later vote answers its request with that, and it follows.
use Rattle.std.proofs.Common.{ℕ, ◌+◌, ◌≤◌, ◌≡◌, Bool, true, false, not, ◌&&◌, List, [], ◌∷◌, ◌++◌, length, map, refl, sym, ap, ◌∙◌, subst, Option, None, Some, Ok, Err, Result}
use Rattle.std.specs.Prelude.{if◌then◌else◌}
use Rattle.std.specs.Option.{option_map, option_or}
use Rattle.std.specs.Result.{is_ok}
use Rattle.std.specs.Cmp.{tied_itself}
use Rattle.std.specs.declared.cmp.Ordering.{Ordering}
use Rattle.std.specs.declared.cmp.Ordering.TheVariants.{Equal, Greater, Less}
use Rattle.std.specs.Ordering.{bool_cmp, is_eq, is_gt, nat_cmp, ordering_then}
use Rattle.std.proofs.lemmas.Cmp.{nat_cmp_total}
use Rattle.proof_deeds.specs.raft_state.declared.ids.LogId.{LogId}
use Rattle.proof_deeds.specs.raft_state.declared.ids.Vote.{Vote}
use Rattle.proof_deeds.specs.raft_state.declared.policy.RejectAppendEntries.{RejectAppendEntries}
use Rattle.proof_deeds.specs.raft_state.declared.policy.RejectAppendEntries.TheVariants as reject
use Rattle.proof_deeds.specs.raft_state.declared.state.ServerState.{ServerState}
use Rattle.proof_deeds.specs.raft_state.declared.state.ServerState.TheVariants.{Candidate, Follower, Leader, Learner}
use Rattle.proof_deeds.specs.raft_state.Log.{last}
use Rattle.proof_deeds.specs.raft_state.Order.{last_id_cmp, leader_id_cmp, vote_cmp}
use Rattle.proof_deeds.proofs.raft_state_proofs.Orders.{last_total}
use Rattle.proof_deeds.specs.raft_error.declared.error.EngineError.{EngineError}
use Rattle.proof_deeds.specs.raft_error.declared.error.EngineError.TheVariants.{CounterEnd, IndexEnd, OwnVote, Spent, VoteNotCommitted}
use Rattle.proof_deeds.specs.raft_error.Number.{first_refusal, number_of}
use Rattle.proof_deeds.specs.raft_command.declared.command.Command.TheVariants.{Respond, SaveVote}
use Rattle.proof_deeds.specs.raft_command.declared.message.AppendEntriesResponse.{AppendEntriesResponse}
use Rattle.proof_deeds.specs.raft_command.declared.message.AppendEntriesResponse.TheVariants.{HigherVote}
use Rattle.proof_deeds.specs.raft_command.declared.replication.ReplicationSessionId.{ReplicationSessionId}
use Rattle.proof_deeds.specs.raft_command.declared.respond.Respond.TheVariants as respond
use Rattle.proof_deeds.specs.raft_command.Message.{append_response}
use Rattle.proof_deeds.specs.raft_steps.Engine.{as_uncommitted}
use Rattle.proof_deeds.specs.raft_steps.InstallRefusals.{refusals_of_install}
use Rattle.proof_deeds.specs.raft_steps.Installs.{handle_install_full_snapshot}
use Rattle.proof_deeds.specs.raft_steps.Parts.{on_core}
use Rattle.proof_deeds.specs.raft_steps.Refusals.{is_counter_end, refusals_of_update_vote}
use Rattle.proof_deeds.specs.raft_steps.RequestRefusals.{refusals_of_append, refusals_of_request}
use Rattle.proof_deeds.specs.raft_steps.Requests.{append_answer, append_entries, handle_append_entries, replied}
use Rattle.proof_deeds.specs.raft_steps.VoteHandler.{rejects_vote, update_vote}
use Rattle.proof_deeds.specs.raft_store.declared.entry.Entry.{Entry}
use Rattle.proof_deeds.specs.raft_store.Entries.{entry_meaning}
use Rattle.proof_deeds.specs.raft_store.Types.{EngineView, WorldCommand, WorldMachine, WorldSnapshot}
use Rattle.proof_deeds.specs.raft_schedule.declared.event.SkipReason.{SkipReason}
use Rattle.proof_deeds.specs.raft_schedule.declared.event.SkipReason.TheVariants.{NotRunning, StaleSession}
use Rattle.proof_deeds.specs.raft_node.declared.act.Act.TheVariants.{Take}
use Rattle.proof_deeds.specs.raft_node.declared.act.Aim.{Aim}
use Rattle.proof_deeds.specs.raft_node.declared.given.Given.{Given}
use Rattle.proof_deeds.specs.raft_calls.declared.message.Body.{Body}
use Rattle.proof_deeds.specs.raft_calls.declared.message.Body.TheVariants as body
use Rattle.proof_deeds.specs.raft_calls.declared.message.Message.{Message}
use Rattle.proof_deeds.specs.raft_calls.declared.message.Origin.{Origin}
use Rattle.proof_deeds.specs.raft_node.declared.node.Turn.{Turn}
use Rattle.proof_deeds.specs.raft_calls.Deliveries.{appended, deliver as delivered, reply_token, take_append, take_append_reply, take_commit, take_higher_vote, take_result, take_snapshot, with_machine, leads_in, same_session, skip_delivery, skip_reply, session_of}
use Rattle.proof_deeds.specs.raft_node.Events.{happens, message_at}
use Rattle.proof_deeds.specs.raft_calls.Engines.{WorldRespond}
use Rattle.proof_deeds.specs.raft_calls.Feeds.{last_sent}
use Rattle.proof_deeds.specs.raft_node.Execute.{replies, sending}
use Rattle.proof_deeds.specs.raft_node.Net.{Net, NodeView, Records}
use Rattle.proof_deeds.specs.raft_node.Runs.{whole_logs}
use Rattle.proof_deeds.specs.raft_node.Work.{weight, worked}
use Rattle.proof_deeds.proofs.raft_node_proofs.Worked.{worked-idle, worked-step}
use Rattle.proof_progress.specs.Continuations.{At, deliver}
use Rattle.proof_progress.specs.Elections.{pending}
use Rattle.proof_progress.proofs.Campaigns.{at_id, message_last}
use Rattle.proof_progress.proofs.Conditions.{EngineGrants}
use Rattle.proof_progress.proofs.Elects.{and_yes, if_true, other_taken, unrefused_is}
use Rattle.proof_progress.proofs.Grants.{followed}
use Rattle.proof_progress.proofs.Images.{granted_with, quits}
use Rattle.proof_progress.proofs.Places.{Changed, changes}
use Rattle.proof_progress.proofs.Plays.{latest, node_after, plays, work_begins}
use Rattle.proof_progress.proofs.Works.{Effected, at_work, queueing, quit, vote_itself, voted}

-- a request of a session
abbrev pub AsksIn : ReplicationSessionId ℕ → Body → Type 0
AsksIn s (body.AppendRequest o prev es told) = o.session_id ≡ s
AsksIn s (body.SnapshotRequest o snapshot) = o.session_id ≡ s
AsksIn s _ = ⊥

-- a reply to one, by which a node tells its vote
abbrev pub Tells : ReplicationSessionId ℕ → Vote ℕ → Body → Type 0
Tells s w (body.AppendReply o reply prev upto) = (o.session_id ≡ s) × (reply ≡ HigherVote w)
Tells s w (body.SnapshotReply o reply upto) = (o.session_id ≡ s) × (reply.vote ≡ w)
Tells s w _ = ⊥

-- The request is rejected

-- an engine at rest that doesn't lead, with its counters far from their ends
pub record IsQuiet (e : EngineView) : Type 0 where
  pub rest : e.machine.core.output.items ≡ []
  pub unspent : e.machine.core.output.spent ≡ false
  pub unled : e.machine.leader ≡ None
  pub counter : is_counter_end e.machine ≡ false

module _ (e : EngineView) (quiet : IsQuiet e) (s : ReplicationSessionId ℕ) (low : rejects_vote nat_cmp e.machine.core.state s.vote ≡ true) (committed : s.vote.committed ≡ true) (other : is_eq (nat_cmp s.vote.leader_id.node_id e.config.id) ≡ false) where
  unasked : (more : Option (EngineError ℕ (Unit {0}))) → refusals_of_request nat_cmp e.config s.vote more e.machine ≡ None
  unasked more = go e.machine.core.output.spent (is_counter_end e.machine) s.vote.committed (is_eq (nat_cmp s.vote.leader_id.node_id e.config.id)) (rejects_vote nat_cmp e.machine.core.state s.vote) quiet.unspent quiet.counter committed other low
    where
      go : (a b c d r : Bool) → a ≡ false → b ≡ false → c ≡ true → d ≡ false → r ≡ true
          → ◌≡◌ {A = Option (EngineError ℕ (Unit {0}))} (option_or (first_refusal ((a, Spent) ∷ (b, CounterEnd) ∷ (not c, VoteNotCommitted) ∷ (d, OwnVote) ∷ [])) (if r then None else more)) None
      go a b c d r p q u v w = rw (p, q, u, v, w) refl

  -- an append request, and what it answers
  abbrev append_reply : WorldCommand
  append_reply = Respond None (respond.AppendEntries (record { value = HigherVote e.machine.core.state.vote; token = reply_token }))

  append_rejected : (prev : Option (LogId ℕ)) (es : List Entry) (told : Option (LogId ℕ)) (now : ℕ) → ◌≡◌ {A = Option ℕ × EngineView} (take_append s.vote prev es told now e) (None, queueing e (append_reply ∷ []))
  unfolding handle_append_entries append_entries append_answer
  append_rejected prev es told now =
      by_refusal (refusals_of_append nat_cmp e.config s.vote prev (map (λ x. x.log_id) es) e.machine) (unasked _)
      ∙ (by_answer (append_answer nat_cmp entry_meaning e.config s.vote prev now e.machine) answer ∙ ap (λ (f : EngineView). let x : Option ℕ × EngineView = (None, f) in x) appended_is)
    where
      answer : append_answer nat_cmp entry_meaning e.config s.vote prev now e.machine ≡ Err (reject.ByVote e.machine.core.state.vote)
      answer = if_true (rejects_vote nat_cmp e.machine.core.state s.vote) _ _ low

      by_refusal : (r : Option (EngineError ℕ (Unit {0}))) → r ≡ None
          → ◌≡◌ {A = Option ℕ × EngineView}
          (elim r as (λ _. Option ℕ × EngineView) [
            | Some r ↦ (Some (number_of r), e)
            | None ↦ (if is_ok (append_answer nat_cmp entry_meaning e.config s.vote prev now e.machine) then take_commit told (appended s.vote prev es now e) else (None, appended s.vote prev es now e))
          ])
          (if is_ok (append_answer nat_cmp entry_meaning e.config s.vote prev now e.machine) then take_commit told (appended s.vote prev es now e) else (None, appended s.vote prev es now e))
      by_refusal None q = refl
      by_refusal (Some r) q = cc

      by_answer : (a : Result (Unit {0}) (RejectAppendEntries ℕ)) → a ≡ Err (reject.ByVote e.machine.core.state.vote)
          → ◌≡◌ {A = Option ℕ × EngineView} (if is_ok a then take_commit told (appended s.vote prev es now e) else (None, appended s.vote prev es now e)) (None, appended s.vote prev es now e)
      by_answer (Ok x) q = cc
      by_answer (Err x) q = refl

      replying : Result (Unit {0}) (RejectAppendEntries ℕ) → WorldMachine → EngineView
      replying a m = with_machine e (on_core (λ c. record c { output = replied (Some reply_token) (append_response a) c.output }) m)

      appended_is : appended s.vote prev es now e ≡ queueing e (append_reply ∷ [])
      appended_is =
          ap (replying (append_answer nat_cmp entry_meaning e.config s.vote prev now e.machine)) (if_true (rejects_vote nat_cmp e.machine.core.state s.vote) e.machine _ low)
          ∙ (ap (λ a. replying a e.machine) answer ∙ ap (λ (xs : List WorldCommand). queueing e (xs ++ append_reply ∷ [])) quiet.rest)

  -- a snapshot
  abbrev snapshot_reply : WorldCommand
  snapshot_reply = Respond None (respond.InstallFullSnapshot (record { value = record { vote = e.machine.core.state.vote }; token = reply_token }))

  snapshot_rejected : (snapshot : WorldSnapshot) (now : ℕ) → ◌≡◌ {A = Option ℕ × EngineView} (take_snapshot s.vote snapshot now e) (None, queueing e (snapshot_reply ∷ []))
  unfolding handle_install_full_snapshot
  snapshot_rejected snapshot now =
      unrefused_is (refusals_of_install nat_cmp e.config s.vote snapshot.meta e.machine) e (with_machine e (handle_install_full_snapshot nat_cmp entry_meaning e.config s.vote snapshot reply_token now e.machine)) (unasked _)
      ∙ (ap (λ (m : WorldMachine). let x : Option ℕ × EngineView = (None, with_machine e m) in x) (if_true (rejects_vote nat_cmp e.machine.core.state s.vote) (queueing e (e.machine.core.output.items ++ snapshot_reply ∷ [])).machine _ low)
      ∙ ap (λ (xs : List WorldCommand). let x : Option ℕ × EngineView = (None, queueing e (xs ++ snapshot_reply ∷ [])) in x) quiet.rest)

  -- either of them, from a node
  record Rejection (n : ℕ) (b : Body) : Type 0 where
    reply : WorldRespond
    answer : Body
    tells : Tells s e.machine.core.state.vote answer
    skip : skip_delivery b e ≡ None
    call : (now : ℕ) → ◌≡◌ {A = Option ℕ × EngineView} (delivered n b now e) (None, queueing e (Respond None reply ∷ []))
    sends : (id to now : ℕ) → replies (record { id = id; moment = now; request = Some (record { from = n; to = to; body = b }) }) reply ≡ record { from = id; to = n; body = answer } ∷ []

  rejection : (n : ℕ) (b : Body) → AsksIn s b → Rejection n b
  rejection n (body.VoteRequest req) a = absurd a
  rejection n (body.VoteReply resp) a = absurd a
  rejection n (body.AppendRequest o prev es told) a = record {
    reply = respond.AppendEntries (record { value = HigherVote e.machine.core.state.vote; token = reply_token });
    answer = body.AppendReply o (HigherVote e.machine.core.state.vote) prev (last_sent prev es);
    tells = (a, refl);
    skip = refl;
    call = λ now. subst (λ (q : ReplicationSessionId ℕ). ◌≡◌ {A = Option ℕ × EngineView} (take_append q.vote prev es told now e) (None, queueing e (append_reply ∷ []))) (sym a) (append_rejected prev es told now);
    sends = λ id to now. refl;
  }
  rejection n (body.AppendReply o reply prev upto) a = absurd a
  rejection n (body.SnapshotRequest o snapshot) a = record {
    reply = respond.InstallFullSnapshot (record { value = record { vote = e.machine.core.state.vote }; token = reply_token });
    answer = body.SnapshotReply o (record { vote = e.machine.core.state.vote }) snapshot.meta.last_log_id;
    tells = (a, refl);
    skip = refl;
    call = λ now. subst (λ (q : ReplicationSessionId ℕ). ◌≡◌ {A = Option ℕ × EngineView} (take_snapshot q.vote snapshot now e) (None, queueing e (snapshot_reply ∷ []))) (sym a) (snapshot_rejected snapshot now);
    sends = λ id to now. refl;
  }
  rejection n (body.SnapshotReply o reply upto) a = absurd a

  -- in a world: the node stays as it is, and its reply is the last message
  module _ (given : Given) (now : ℕ) (net : Net (List Entry)) (n h k : ℕ) (N : NodeView) (b : Body) (at : At net.nodes h N) (moment : N.moment ≤ now) (runs : N.engine ≡ Some e) (asks : AsksIn s b)
      (sent : message_at net.records.bag k ≡ Some (record { from = n; to = h; body = b })) where
    abbrev asked_by : Message
    asked_by = record { from = n; to = h; body = b }

    abbrev turn : Turn
    turn = record { id = N.id; moment = now; request = Some asked_by }

    abbrev answering : Rejection n b → Effected
    answering r = sending (record { from = N.id; to = n; body = r.answer } ∷ []) (work_begins N net.records)

    answers : (r : Rejection n b) (E : Effected)
        → worked whole_logs (weight (at_work (queueing e (Respond None r.reply ∷ [])) E)) turn (at_work (queueing e (Respond None r.reply ∷ [])) E) ≡ at_work (queueing e []) (sending (record { from = N.id; to = n; body = r.answer } ∷ []) E)
    answers r E =
        sym (worked-step whole_logs turn (at_work (queueing e (Respond None r.reply ∷ [])) E) refl)
        ∙ (ap (λ (ms : List Message). worked whole_logs (weight (at_work (queueing e []) (sending ms E))) turn (at_work (queueing e []) (sending ms E))) (r.sends N.id h now)
        ∙ worked-idle whole_logs turn (at_work (queueing e []) (sending (record { from = N.id; to = n; body = r.answer } ∷ []) E)) refl)

    unskipped : (r : Rejection n b) (o : Option EngineView) → o ≡ Some e → ◌≡◌ {A = Option SkipReason} (elim o [ None ↦ Some NotRunning | Some f ↦ skip_delivery b f ]) None
    unskipped r None q = cc
    unskipped r (Some f) q = let z : e ≡ f = cc in subst (λ (f : EngineView). ◌≡◌ {A = Option SkipReason} (skip_delivery b f) None) z r.skip

    rejects_with : (r : Rejection n b) → Changed net (happens whole_logs weight given (deliver k now) net).1 h (node_after N now (queueing e []) (answering r)) (answering r).records
    rejects_with r =
        changes given net (deliver k now) h (Take asked_by) N _ (record { node = node_after N now (queueing e []) (answering r); records = (answering r).records }) at
        (ap (λ (o : Option Message). let z : Option Aim = option_map (λ (m : Message). record { id = m.to; act = Take m }) o in z) sent)
        (plays given (Take asked_by) (deliver k now) (λ k e. delivered n b k e) N net.records now e (queueing e (Respond None r.reply ∷ [])) (queueing e []) (answering r) (λ n. refl) (λ n. refl) runs
        (unskipped r N.engine runs) (latest now N.moment moment) refl (r.call now) (answers r (work_begins N net.records)))
        (at_id net.nodes h N at)

    pub record WasRejected : Type 0 where
      pub node : NodeView
      pub records : Records (List Entry)
      pub changed : Changed net (happens whole_logs weight given (deliver k now) net).1 h node records
      pub engine : node.engine ≡ Some (queueing e [])
      pub time : node.moment ≡ now
      pub answer : Body
      pub tells : Tells s e.machine.core.state.vote answer
      pub replied : message_at records.bag (length net.records.bag + 1) ≡ Some (record { from = h; to = n; body = answer })

    pub was_rejected : WasRejected
    was_rejected =
        let r : Rejection n b = rejection n b asks in
        record {
          node = node_after N now (queueing e []) (answering r);
          records = (answering r).records;
          changed = rejects_with r;
          engine = refl;
          time = refl;
          answer = r.answer;
          tells = r.tells;
          replied =
              message_last net.records.bag (record { from = N.id; to = n; body = r.answer }) []
              ∙ ap (λ i. let z : Option Message = Some (record { from = i; to = n; body = r.answer }) in z) (at_id net.nodes h N at);
        }

-- The reply is taken

last_itself : (x : Option (LogId ℕ)) → is_eq (last_id_cmp nat_cmp x x) ≡ true
last_itself x = ap is_eq (tied_itself (last_total nat_cmp nat_cmp_total) x)

-- a later leader id
pub is_later : (o p : Ordering) → is_gt o ≡ true → ordering_then o p ≡ Greater
is_later Less p h = cc
is_later Equal p h = cc
is_later Greater p h = refl

-- a node that leads in a session
pub record LeadsSession (s : ReplicationSessionId ℕ) (e : EngineView) : Type 0 where
  pub session : session_of e ≡ Some s
  pub vote : s.vote ≡ e.machine.core.state.vote

module _ (e : EngineView) (s : ReplicationSessionId ℕ) (leads : LeadsSession s e) (w : Vote ℕ) (later : is_gt (leader_id_cmp nat_cmp w.leader_id s.vote.leader_id) ≡ true) (now : ℕ) (may : EngineGrants w.leader_id (last e.machine.core.state.ids) now e) where
  -- an engine that follows the later vote
  abbrev adopting : List WorldCommand → EngineView
  adopting cs = granted_with w.leader_id now cs e

  fresh : leads_in s e ≡ true
  fresh = go (session_of e) leads.session
    where
      go : (o : Option (ReplicationSessionId ℕ)) → o ≡ Some s → elim o as (λ _. Bool) [ None ↦ false | Some t ↦ same_session t s ] ≡ true
      go None q = cc
      go (Some t) q =
          let z : s ≡ t = cc in
          subst (λ t. same_session t s ≡ true) z (and_yes (is_eq (vote_cmp nat_cmp s.vote s.vote)) (is_eq (last_id_cmp nat_cmp s.membership_log_id s.membership_log_id)) (ap is_eq (vote_itself s.vote)) (last_itself s.membership_log_id))

  unskipped_reply : (o : Origin) → o.session_id ≡ s → skip_reply o e ≡ None
  unskipped_reply o q = if_true (leads_in o.session_id e) None (Some StaleSession) (subst (λ t. leads_in t e ≡ true) (sym q) fresh)

  adopted : ◌≡◌ {A = Option ℕ × EngineView} (take_higher_vote w now e) (None, adopting (SaveVote (pending w.leader_id) ∷ quits e.machine.core.state.role))
  adopted =
      unrefused_is (refusals_of_update_vote nat_cmp e.config (as_uncommitted w) e.machine) e (with_machine e (update_vote nat_cmp entry_meaning e.config (as_uncommitted w) now e.machine)) unrefused
      ∙ ap (λ (m : WorldMachine). let x : Option ℕ × EngineView = (None, with_machine e m) in x) (other_taken e.config w.leader_id now e.machine may.greater may.other ∙ followed w.leader_id (last e.machine.core.state.ids) now e may)
    where
      unrefused : refusals_of_update_vote nat_cmp e.config (as_uncommitted w) e.machine ≡ None
      unrefused = go e.machine.core.output.spent (not (rejects_vote nat_cmp e.machine.core.state (pending w.leader_id))) may.unspent
        where
          go : (a b : Bool) → a ≡ false → ◌≡◌ {A = Option (EngineError ℕ (Unit {0}))} (first_refusal ((a, Spent) ∷ (b && false, IndexEnd) ∷ [])) None
          go true b q = cc
          go false true q = refl
          go false false q = refl

  -- either reply
  record Adoption (h : ℕ) (b : Body) : Type 0 where
    skip : skip_delivery b e ≡ None
    call : ◌≡◌ {A = Option ℕ × EngineView} (delivered h b now e) (None, adopting (SaveVote (pending w.leader_id) ∷ quits e.machine.core.state.role))

  adoption : (h : ℕ) (b : Body) → Tells s w b → Adoption h b
  adoption h (body.VoteRequest req) t = absurd t
  adoption h (body.VoteReply resp) t = absurd t
  adoption h (body.AppendRequest o prev es told) t = absurd t
  adoption h (body.AppendReply o reply prev upto) t = record {
    skip = unskipped_reply o t.0;
    call =
        subst (λ (r : AppendEntriesResponse ℕ). ◌≡◌ {A = Option ℕ × EngineView} (take_append_reply h o r prev upto now e) (None, adopting (SaveVote (pending w.leader_id) ∷ quits e.machine.core.state.role))) (sym t.1) adopted;
  }
  adoption h (body.SnapshotRequest o snapshot) t = absurd t
  adoption h (body.SnapshotReply o reply upto) t = record {
    skip = unskipped_reply o t.0;
    call =
        if_true (is_gt (vote_cmp nat_cmp reply.vote o.session_id.vote)) (take_higher_vote reply.vote now e) (take_result h o (Ok upto) e)
        (subst (λ (x : Vote ℕ). is_gt (vote_cmp nat_cmp x o.session_id.vote) ≡ true) (sym t.1)
        (subst (λ (q : ReplicationSessionId ℕ). is_gt (vote_cmp nat_cmp w q.vote) ≡ true) (sym t.0) (ap is_gt (is_later (leader_id_cmp nat_cmp w.leader_id s.vote.leader_id) (bool_cmp w.committed s.vote.committed) later))))
        ∙ subst (λ (x : Vote ℕ). ◌≡◌ {A = Option ℕ × EngineView} (take_higher_vote x now e) (None, adopting (SaveVote (pending w.leader_id) ∷ quits e.machine.core.state.role))) (sym t.1) adopted;
  }

  -- what it works off
  follows_works : (r : ServerState) (t : Turn) (E : Effected)
      → worked whole_logs (weight (at_work (adopting (SaveVote (pending w.leader_id) ∷ quits r)) E)) t (at_work (adopting (SaveVote (pending w.leader_id) ∷ quits r)) E) ≡ at_work (adopting []) (quit r (voted (pending w.leader_id) E))
  follows_works Leader t E =
      sym (worked-step whole_logs t (at_work (adopting (SaveVote (pending w.leader_id) ∷ quits Leader)) E) refl)
      ∙ (sym (worked-step whole_logs t (at_work (adopting (quits Leader)) (voted (pending w.leader_id) E)) refl) ∙ worked-idle whole_logs t (at_work (adopting []) (quit Leader (voted (pending w.leader_id) E))) refl)
  follows_works Learner t E = sym (worked-step whole_logs t (at_work (adopting (SaveVote (pending w.leader_id) ∷ quits Learner)) E) refl) ∙ worked-idle whole_logs t (at_work (adopting []) (quit Learner (voted (pending w.leader_id) E))) refl
  follows_works Follower t E = sym (worked-step whole_logs t (at_work (adopting (SaveVote (pending w.leader_id) ∷ quits Follower)) E) refl) ∙ worked-idle whole_logs t (at_work (adopting []) (quit Follower (voted (pending w.leader_id) E))) refl
  follows_works Candidate t E = sym (worked-step whole_logs t (at_work (adopting (SaveVote (pending w.leader_id) ∷ quits Candidate)) E) refl) ∙ worked-idle whole_logs t (at_work (adopting []) (quit Candidate (voted (pending w.leader_id) E))) refl

  -- in a world
  module _ (given : Given) (net : Net (List Entry)) (n h k : ℕ) (N : NodeView) (b : Body) (at : At net.nodes n N) (moment : N.moment ≤ now) (runs : N.engine ≡ Some e) (tells : Tells s w b) (sent : message_at net.records.bag k ≡ Some (record { from = h; to = n; body = b })) where
    abbrev told_by : Message
    told_by = record { from = h; to = n; body = b }

    abbrev following : Effected
    following = quit e.machine.core.state.role (voted (pending w.leader_id) (work_begins N net.records))

    unskipped_at : (r : Adoption h b) (o : Option EngineView) → o ≡ Some e → ◌≡◌ {A = Option SkipReason} (elim o [ None ↦ Some NotRunning | Some f ↦ skip_delivery b f ]) None
    unskipped_at r None q = cc
    unskipped_at r (Some f) q = let z : e ≡ f = cc in subst (λ (f : EngineView). ◌≡◌ {A = Option SkipReason} (skip_delivery b f) None) z r.skip

    pub follows : Changed net (happens whole_logs weight given (deliver k now) net).1 n (node_after N now (adopting []) following) following.records
    follows =
        let r : Adoption h b = adoption h b tells in
        changes given net (deliver k now) n (Take told_by) N _ (record { node = node_after N now (adopting []) following; records = following.records }) at
        (ap (λ (o : Option Message). let z : Option Aim = option_map (λ (m : Message). record { id = m.to; act = Take m }) o in z) sent)
        (plays given (Take told_by) (deliver k now) (λ k e. delivered h b k e) N net.records now e (adopting (SaveVote (pending w.leader_id) ∷ quits e.machine.core.state.role)) (adopting []) following (λ n. refl) (λ n. refl) runs
        (unskipped_at r N.engine runs) (latest now N.moment moment) refl r.call (follows_works e.machine.core.state.role (record { id = N.id; moment = now; request = Some told_by }) (work_begins N net.records)))
        (at_id net.nodes n N at)
