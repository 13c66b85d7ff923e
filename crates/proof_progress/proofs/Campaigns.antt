-- A candidate asks voter after voter, until it leads.
use Rattle.std.proofs.Common.{ℕ, suc, ◌+◌, ◌*◌, ◌-◌, ◌≤◌, ◌≡◌, ◌≢◌, inl, inr, Bool, true, false, List, [], ◌∷◌, ◌++◌, length, arith, refl, sym, ap, ◌∙◌, subst, Option, None, Some}
use Rattle.std.specs.Prelude.{◌==◌, if◌then◌else◌, is_some, nat_eq, slice_get}
use Rattle.std.specs.Option.{option_map}
use Rattle.std.specs.List.{AllByRecursion}
use Rattle.std.specs.Ordering.{is_eq, nat_cmp}
use Rattle.std.proofs.lemmas.Bool.Decides.{nat_tests}
use Rattle.std.proofs.lemmas.List.{length-append}
use Rattle.proof_deeds.specs.raft_state.declared.ids.LeaderId.{LeaderId}
use Rattle.proof_deeds.specs.raft_state.declared.ids.LogId.{LogId}
use Rattle.proof_deeds.specs.raft_state.declared.ids.Vote.{Vote}
use Rattle.proof_deeds.specs.raft_state.declared.membership.StoredMembership.{StoredMembership}
use Rattle.proof_deeds.specs.raft_state.Log.{last}
use Rattle.proof_deeds.specs.raft_state.Members.{learner_ids, voter_ids}
use Rattle.proof_deeds.specs.raft_state.Order.{next, vote_cmp}
use Rattle.proof_deeds.specs.raft_progress.Quorum.{is_quorum}
use Rattle.proof_deeds.specs.raft_progress.Table.{row_ids}
use Rattle.proof_deeds.specs.raft_command.declared.command.Command.TheVariants.{AppendInputEntries, BecomeLeader, RebuildReplicationStreams, SaveVote}
use Rattle.proof_deeds.specs.raft_command.declared.config.EngineConfig.{EngineConfig}
use Rattle.proof_deeds.specs.raft_command.declared.message.VoteResponse.{VoteResponse}
use Rattle.proof_deeds.specs.raft_command.declared.replication.ReplicationSessionId.{ReplicationSessionId}
use Rattle.proof_deeds.specs.raft_proposer.Candidate.{as_committed, grant_by, is_granted}
use Rattle.proof_deeds.specs.raft_proposer.Joint.{u64_max}
use Rattle.proof_deeds.specs.raft_steps.Engine.{lead_by_votes}
use Rattle.proof_deeds.specs.raft_steps.Refusals.{refusals_of_vote_resp}
use Rattle.proof_deeds.specs.raft_store.declared.entry.Entry.{Entry}
use Rattle.proof_deeds.specs.raft_store.Types.{EngineView, WorldCandidate, WorldCommand, WorldLeader, WorldMachine}
use Rattle.proof_deeds.specs.raft_schedule.declared.event.Event.{Event}
use Rattle.proof_deeds.specs.raft_node.declared.act.Act.TheVariants.{Take}
use Rattle.proof_deeds.specs.raft_node.declared.act.Aim.{Aim}
use Rattle.proof_deeds.specs.raft_node.declared.given.Given.{Given}
use Rattle.proof_deeds.specs.raft_calls.declared.message.Body.TheVariants as body
use Rattle.proof_deeds.specs.raft_calls.declared.message.Message.{Message}
use Rattle.proof_deeds.specs.raft_node.declared.node.Streams.{Streams}
use Rattle.proof_deeds.specs.raft_node.declared.node.Turn.{Turn}
use Rattle.proof_deeds.specs.raft_calls.Deliveries.{take_vote_reply, take_vote_request, vote_replied, vote_reply}
use Rattle.proof_deeds.specs.raft_node.Events.{happens, message_at}
use Rattle.proof_deeds.specs.raft_node.Execute.{sending}
use Rattle.proof_deeds.specs.raft_node.Net.{Net, NodeView, Records}
use Rattle.proof_deeds.specs.raft_node.Runs.{whole_logs}
use Rattle.proof_deeds.specs.raft_node.Work.{Work, weight, worked}
use Rattle.proof_deeds.proofs.raft_node_proofs.Worked.{worked-idle}
use Rattle.proof_progress.specs.Continuations.{At, deliver, goes_on}
use Rattle.proof_progress.specs.Elections.{Apart, Listed, pending}
use Rattle.proof_progress.specs.Plans.{asks_vote, collect, exchange, is_leading, number_of, sends, world_then}
use Rattle.proof_progress.proofs.Afresh.{Ends, LeadsSince, Since, WonAfresh, elected_works, won_afresh}
use Rattle.proof_progress.proofs.Beside.{Beside, Elected, beside_changed, beside_granted, beside_then}
use Rattle.proof_progress.proofs.Conditions.{EngineGrants, over}
use Rattle.proof_progress.proofs.Images.{grant_reply, granted_with, quits}
use Rattle.proof_progress.proofs.Elects.{if_false, if_true, unrefused_is}
use Rattle.proof_progress.proofs.Grants.{request_granted}
use Rattle.proof_progress.proofs.Leading.{LeadsAtWork, get_end, get_left, record_of, won_works}
use Rattle.proof_progress.proofs.Numbered.{FirstOf, asked_for, asks_for, first_found, leads_is}
use Rattle.proof_progress.proofs.Places.{Changed, changes}
use Rattle.proof_progress.proofs.Plays.{latest, node_after, plays, work_begins}
use Rattle.proof_progress.proofs.Tables.{Any, InRow, Yes, any_stays, grant_more, granted_if, row_in, same_ids_granted, yes_new}
use Rattle.proof_progress.proofs.Wins.{MayWin, Won, counts, waits_on, wins, won, won_is, won_machine}
use Rattle.proof_progress.proofs.Works.{Effected, at_work, grant_unrefused, grant_works, quit, vote_itself, voted}

-- Messages by number
nonzero : (n : ℕ) → nat_eq (n + 1) 0 ≡ false
nonzero n = grind (arith, nat_tests)

back : (n : ℕ) → n + 1 - 1 ≡ n
back n = omega arith

pub message_last : (bag : List Message) (m : Message) (more : List Message) → message_at (bag ++ m ∷ more) (length bag + 1) ≡ Some m
message_last bag m more =
    if_false (nat_eq (length bag + 1) 0) None (slice_get (bag ++ m ∷ more) (length bag + 1 - 1)) (nonzero (length bag))
    ∙ (ap (slice_get (bag ++ m ∷ more)) (back (length bag)) ∙ get_end bag m more)

pub message_stays : (bag more : List Message) (k : ℕ) (m : Message) → message_at bag k ≡ Some m → message_at (bag ++ more) k ≡ Some m
message_stays bag more k m e = go (nat_eq k 0) e
  where
    go : (b : Bool) → (if b then None else slice_get bag (k - 1)) ≡ Some m → (if b then None else slice_get (bag ++ more) (k - 1)) ≡ Some m
    go true z = cc
    go false z = get_left bag more (k - 1) m z

-- the node at an id has it
pub at_id : (nodes : List NodeView) (id : ℕ) (N : NodeView) → At nodes id N → N.id ≡ id
at_id [] id N h = absurd h
at_id (x ∷ xs) id N (inl p) = ap (λ (n : NodeView). n.id) (sym p.1) ∙ p.0
at_id (x ∷ xs) id N (inr p) = at_id xs id N p.1

-- Engines

-- an engine that waits for votes under a leader id, at rest: it was granted by these
pub record Asks (d : LeaderId ℕ) (gs : List (List ℕ)) (G : List ℕ) (e : EngineView) : Type 0 where
  pub candidate : WorldCandidate
  pub is : e.machine.candidate ≡ Some candidate
  pub may : MayWin e.config candidate e.machine
  pub vote : candidate.vote ≡ pending d
  pub unspent : e.machine.core.output.spent ≡ false
  pub rest : e.machine.core.output.items ≡ []
  pub room : (next candidate.last_log_id == u64_max) ≡ false
  pub last_id : candidate.last_log_id ≡ last e.machine.core.state.ids
  pub voters : row_ids candidate.progress ≡ voter_ids nat_cmp e.machine.core.state.em.membership
  pub learners : candidate.learner_ids ≡ learner_ids nat_cmp e.machine.core.state.em.membership
  pub groups : candidate.progress.set ≡ gs
  pub granted : AllByRecursion (InRow Yes candidate.progress.voters candidate.progress.rows) G
  pub waits : is_granted (is_quorum nat_cmp) candidate ≡ false

-- a grant of a voter
abbrev pub grant : LeaderId ℕ → Option (LogId ℕ) → VoteResponse ℕ
grant d y = record { vote = pending d; vote_granted = true; last_log_id = y }

module _ (d : LeaderId ℕ) (gs : List (List ℕ)) (G : List ℕ) (e : EngineView) (h : Asks d gs G e) (t now : ℕ) (y : Option (LogId ℕ)) (row : InRow Any h.candidate.progress.voters h.candidate.progress.rows t) where
  abbrev after : EngineView
  after = vote_replied t (grant d y) now e

  granted_to : Rattle.proof_deeds.specs.raft_command.Message.is_granted_to nat_cmp (grant d y) h.candidate.vote ≡ true
  granted_to = subst (λ v. is_eq (vote_cmp nat_cmp (pending d) v) ≡ true) (sym h.vote) (ap is_eq (vote_itself (pending d)))

  pub reply_taken : ◌≡◌ {A = Option ℕ × EngineView} (take_vote_reply t (grant d y) now e) (None, vote_replied t (grant d y) now e)
  reply_taken = unrefused_is (refusals_of_vote_resp nat_cmp e.config t (grant d y) e.machine) e (vote_replied t (grant d y) now e)
      (grant_unrefused e.config t (grant d y) h.candidate e.machine h.unspent h.is (row_in h.candidate.progress.voters h.candidate.progress.rows t row) h.room)

  may_more : MayWin e.config (grant_by nat_cmp h.candidate t) e.machine
  may_more = record { vote = h.may.vote; uncommitted = h.may.uncommitted; own = h.may.own; member = h.may.member; unled = h.may.unled; role = h.may.role }

  -- without a quorum it asks on
  pub asks_on : is_granted (is_quorum nat_cmp) (grant_by nat_cmp h.candidate t) ≡ false → Asks d gs (t ∷ G) (vote_replied t (grant d y) now e)
  asks_on q =
      let is : (vote_replied t (grant d y) now e).machine ≡ record e.machine { candidate = Some (grant_by nat_cmp h.candidate t) } = counts e.config t now (grant d y) h.candidate e.machine h.is granted_to ∙ waits_on e.config t now h.candidate e.machine q in
      record {
        candidate = grant_by nat_cmp h.candidate t;
        is = ap (λ (m : WorldMachine). m.candidate) is;
        may = subst (λ (m : WorldMachine). MayWin e.config (grant_by nat_cmp h.candidate t) m) (sym is) (record { vote = h.may.vote; uncommitted = h.may.uncommitted; own = h.may.own; member = h.may.member; unled = h.may.unled; role = h.may.role });
        vote = h.vote;
        unspent = ap (λ (m : WorldMachine). m.core.output.spent) is ∙ h.unspent;
        rest = ap (λ (m : WorldMachine). m.core.output.items) is ∙ h.rest;
        room = h.room;
        last_id = h.last_id ∙ sym (ap (λ (m : WorldMachine). last m.core.state.ids) is);
        voters = same_ids_granted t h.candidate.progress.rows ∙ (h.voters ∙ sym (ap (λ (m : WorldMachine). voter_ids nat_cmp m.core.state.em.membership) is));
        learners = h.learners ∙ sym (ap (λ (m : WorldMachine). learner_ids nat_cmp m.core.state.em.membership) is);
        groups = h.groups;
        granted = (yes_new t h.candidate.progress.voters h.candidate.progress.rows row, grant_more h.candidate t G h.granted);
        waits = q;
      }

  -- nothing else of it changes
  pub since_granted : (b : EngineView) → Since b e → is_granted (is_quorum nat_cmp) (grant_by nat_cmp h.candidate t) ≡ false → Since b (vote_replied t (grant d y) now e)
  since_granted b s q =
      let is : (vote_replied t (grant d y) now e).machine ≡ record e.machine { candidate = Some (grant_by nat_cmp h.candidate t) } = counts e.config t now (grant d y) h.candidate e.machine h.is granted_to ∙ waits_on e.config t now h.candidate e.machine q in
      record {
        settings = s.settings;
        em = ap (λ (m : WorldMachine). m.core.state.em) is ∙ s.em;
        ids = ap (λ (m : WorldMachine). m.core.state.ids) is ∙ s.ids;
        purge_to = ap (λ (m : WorldMachine). m.core.state.purge_to) is ∙ s.purge_to;
        seq = ap (λ (m : WorldMachine). m.core.output.seq) is ∙ s.seq;
      }

  -- the leader that it becomes
  pub leads_afresh : is_granted (is_quorum nat_cmp) (grant_by nat_cmp h.candidate t) ≡ true → WonAfresh e.config (grant_by nat_cmp h.candidate t) e.machine (record { leader_id = d; committed = true }) (vote_replied t (grant d y) now e).machine
  leads_afresh q =
      subst (λ (m : WorldMachine). WonAfresh e.config (grant_by nat_cmp h.candidate t) e.machine (record { leader_id = d; committed = true }) m)
      (sym (counts e.config t now (grant d y) h.candidate e.machine h.is granted_to ∙ (wins e.config t now h.candidate e.machine q ∙ won_is e.config (grant_by nat_cmp h.candidate t) now e.machine may_more)))
      (subst (λ (v : Vote ℕ). WonAfresh e.config (grant_by nat_cmp h.candidate t) e.machine (as_committed v) (won_machine e.config (grant_by nat_cmp h.candidate t) now e.machine may_more)) h.vote
      (won_afresh e.config (grant_by nat_cmp h.candidate t) now e.machine may_more))

  -- with one it wins
  pub then_wins : is_granted (is_quorum nat_cmp) (grant_by nat_cmp h.candidate t) ≡ true → Won (record { leader_id = d; committed = true }) [] (vote_replied t (grant d y) now e).machine
  then_wins q =
      subst (λ (m : WorldMachine). Won (record { leader_id = d; committed = true }) [] m)
      (sym (counts e.config t now (grant d y) h.candidate e.machine h.is granted_to ∙ wins e.config t now h.candidate e.machine q))
      (subst (λ (xs : List WorldCommand). Won (record { leader_id = d; committed = true }) xs (lead_by_votes nat_cmp Rattle.proof_deeds.specs.raft_store.Entries.entry_meaning e.config (grant_by nat_cmp h.candidate t) now e.machine)) h.rest
      (subst (λ (v : Vote ℕ). Won (as_committed v) e.machine.core.output.items (lead_by_votes nat_cmp Rattle.proof_deeds.specs.raft_store.Entries.entry_meaning e.config (grant_by nat_cmp h.candidate t) now e.machine)) h.vote
      (won e.config (grant_by nat_cmp h.candidate t) now e.machine may_more)))

-- Worlds

-- a voter that will grant: it was asked by a message of the bag, runs, and may grant at this moment
pub record WillGrant (net : Net (List Entry)) (now n : ℕ) (d : LeaderId ℕ) (x : Option (LogId ℕ)) (t : ℕ) : Type 0 where
  pub number : ℕ
  pub asked : message_at net.records.bag number ≡ Some (record { from = n; to = t; body = body.VoteRequest (record { vote = pending d; last_log_id = x }) })
  pub node : NodeView
  pub at : At net.nodes t node
  pub moment : node.moment ≤ now
  pub engine : EngineView
  pub runs : node.engine ≡ Some engine
  pub may : EngineGrants d x now engine

module _ (given : Given) (now : ℕ) where
  -- the message is delivered: the voter stores the vote, and its reply is the last message
  module _ (net : Net (List Entry)) (n : ℕ) (d : LeaderId ℕ) (x : Option (LogId ℕ)) (t : ℕ) (h : WillGrant net now n d x t) where
    abbrev pub voter_after : NodeView
    voter_after = node_after h.node now (granted_with d now [] h.engine) (sending (record { from = h.node.id; to = n; body = body.VoteReply (grant_reply d h.engine) } ∷ []) (quit h.engine.machine.core.state.role (voted (pending d) (work_begins h.node net.records))))

    pub grants : Changed net (happens whole_logs weight given (deliver h.number now) net).1 t voter_after (sending (record { from = h.node.id; to = n; body = body.VoteReply (grant_reply d h.engine) } ∷ []) (quit h.engine.machine.core.state.role (voted (pending d) (work_begins h.node net.records)))).records
    grants =
        let msg : Message = record { from = n; to = h.node.id; body = body.VoteRequest (record { vote = pending d; last_log_id = x }) } in
        let id : h.node.id ≡ t = at_id net.nodes t h.node h.at in
        changes given net (deliver h.number now) t (Take (record { from = n; to = h.node.id; body = body.VoteRequest (record { vote = pending d; last_log_id = x }) })) h.node _ (record { node = voter_after; records = _ }) h.at
        (ap (λ (o : Option Message). let z : Option Aim = option_map (λ (m : Message). record { id = m.to; act = Take m }) o in z) h.asked ∙ ap (λ k. let z : Option Aim = Some (record { id = t; act = Take (record { from = n; to = k; body = body.VoteRequest (record { vote = pending d; last_log_id = x }) }) }) in z) (sym id))
        (plays given (Take msg) (deliver h.number now) (λ k e. take_vote_request (record { vote = pending d; last_log_id = x }) k e) h.node net.records now h.engine (granted_with d now (SaveVote (pending d) ∷ (quits h.engine.machine.core.state.role ++ vote_reply (grant_reply d h.engine) ∷ [])) h.engine) (granted_with d now [] h.engine) _ (λ n. refl) (λ n. refl) h.runs
        (running h.node.engine h.runs) (latest now h.node.moment h.moment) refl (request_granted d x now h.engine h.may)
        (grant_works h.node.id n now now (record { vote = pending d; last_log_id = x }) d h.engine (work_begins h.node net.records)))
        id
      where
        running : (o : Option EngineView) → o ≡ Some h.engine → ◌≡◌ {A = Option Rattle.proof_deeds.specs.raft_schedule.declared.event.SkipReason.SkipReason} (elim o [ None ↦ Some Rattle.proof_deeds.specs.raft_schedule.declared.event.SkipReason.TheVariants.NotRunning | Some e ↦ None ]) None
        running None e = cc
        running (Some e) z = refl

  -- a grant is delivered to the candidate
  module _ (net : Net (List Entry)) (n : ℕ) (d : LeaderId ℕ) (gs : List (List ℕ)) (G : List ℕ) (node : NodeView) (e : EngineView) (k t : ℕ) (y : Option (LogId ℕ))
      (at : At net.nodes n node) (moment : node.moment ≤ now) (runs : node.engine ≡ Some e) (h : Asks d gs G e) (row : InRow Any h.candidate.progress.voters h.candidate.progress.rows t)
      (sent : message_at net.records.bag k ≡ Some (record { from = t; to = n; body = body.VoteReply (grant d y) })) where
    abbrev reply : Message
    reply = record { from = t; to = n; body = body.VoteReply (grant d y) }

    abbrev turn : Turn
    turn = record { id = node.id; moment = now; request = Some (record { from = t; to = n; body = body.VoteReply (grant d y) }) }

    counted : (e'' : EngineView) (E : Effected) → worked whole_logs (weight (at_work (vote_replied t (grant d y) now e) (work_begins node net.records))) turn (at_work (vote_replied t (grant d y) now e) (work_begins node net.records)) ≡ at_work e'' E
        → Changed net (happens whole_logs weight given (deliver k now) net).1 n (node_after node now e'' E) E.records
    counted e'' E w =
        changes given net (deliver k now) n (Take reply) node _ (record { node = node_after node now e'' E; records = E.records }) at
        (ap (λ (o : Option Message). let z : Option Aim = option_map (λ (m : Message). record { id = m.to; act = Take m }) o in z) sent)
        (plays given (Take reply) (deliver k now) (λ k e. take_vote_reply t (grant d y) k e) node net.records now e (vote_replied t (grant d y) now e) e'' E (λ n. refl) (λ n. refl) runs
        (running node.engine runs) (latest now node.moment moment) refl (reply_taken d gs G e h t now y row) w)
        (at_id net.nodes n node at)
      where
        running : (o : Option EngineView) → o ≡ Some e → ◌≡◌ {A = Option Rattle.proof_deeds.specs.raft_schedule.declared.event.SkipReason.SkipReason} (elim o [ None ↦ Some Rattle.proof_deeds.specs.raft_schedule.declared.event.SkipReason.TheVariants.NotRunning | Some e ↦ None ]) None
        running None e = cc
        running (Some e) z = refl

    -- it is counted, and the candidate asks on
    pub counts_on : is_granted (is_quorum nat_cmp) (grant_by nat_cmp h.candidate t) ≡ false
        → Changed net (happens whole_logs weight given (deliver k now) net).1 n (node_after node now (vote_replied t (grant d y) now e) (work_begins node net.records)) (work_begins node net.records).records
    counts_on q = counted (vote_replied t (grant d y) now e) (work_begins node net.records) (worked-idle whole_logs turn (at_work (vote_replied t (grant d y) now e) (work_begins node net.records)) (ap (λ (xs : List WorldCommand). nat_eq (length xs) 0) (asks_on d gs G e h t now y row q).rest))

    -- or it leads
    pub counts_last : (b : EngineView) → Since b e → is_granted (is_quorum nat_cmp) (grant_by nat_cmp h.candidate t) ≡ true → LeadsSince b d (happens whole_logs weight given (deliver k now) net).1 now n
    counts_last b s q =
        let v : Vote ℕ = record { leader_id = d; committed = true } in
        let w : Work (List Entry) = worked whole_logs (weight (at_work (vote_replied t (grant d y) now e) (work_begins node net.records))) turn (at_work (vote_replied t (grant d y) now e) (work_begins node net.records)) in
        let r : LeadsAtWork (record { leader_id = d; committed = true }) (record_of (record { leader_id = d; committed = true }) turn (work_begins node net.records)) w =
        won_works (record { leader_id = d; committed = true }) turn (work_begins node net.records) (vote_replied t (grant d y) now e) (then_wins d gs G e h t now y row q) in
        let f : WonAfresh e.config (grant_by nat_cmp h.candidate t) e.machine (record { leader_id = d; committed = true }) (vote_replied t (grant d y) now e).machine = leads_afresh d gs G e h t now y row q in
        let a =
        elected_works e.config (grant_by nat_cmp h.candidate t) e.machine (record { leader_id = d; committed = true }) (vote_replied t (grant d y) now e) f h.unspent turn (work_begins node net.records)
        (f.items ∙ ap (λ (xs : List WorldCommand). xs ++ RebuildReplicationStreams f.streams ∷ SaveVote (record { leader_id = d; committed = true }) ∷ BecomeLeader ∷ AppendInputEntries (record { leader_id = d; committed = true }) f.entries ∷ f.sends) h.rest) in
        let c = counted a.engine a.effects a.is in
        let x = subst (LeadsAtWork (record { leader_id = d; committed = true }) (record_of (record { leader_id = d; committed = true }) turn (work_begins node net.records))) a.is r in
        record {
          leads = record {
            node = node_after node now a.engine a.effects;
            at = c.here;
            moment = omega arith;
            engine = a.engine;
            runs = refl;
            leader = a.fresh.leader;
            leads = a.fresh.leads;
            session = record { vote = f.leader.vote; membership_log_id = (vote_replied t (grant d y) now e).machine.core.state.em.log_id };
            in_session =
                ap (λ (o : Option WorldLeader). let z : Option (ReplicationSessionId ℕ) = option_map (λ (l : WorldLeader). record { vote = l.vote; membership_log_id = a.engine.machine.core.state.em.log_id }) o in z) a.fresh.leads
                ∙ (ap (λ (w : Vote ℕ). let z : Option (ReplicationSessionId ℕ) = Some (record { vote = w; membership_log_id = a.engine.machine.core.state.em.log_id }) in z) (a.fresh.by ∙ sym f.by)
                ∙ ap (λ (m : StoredMembership ℕ (Unit {0})). let z : Option (ReplicationSessionId ℕ) = Some (record { vote = f.leader.vote; membership_log_id = m.log_id }) in z) a.fresh.state.em);
            streams = ap (λ (s : Streams). s.session_id) a.streams;
            unspent = a.fresh.unspent;
          };
          by = a.fresh.by;
          log = _;
          number = x.recorded.0;
          established = ap (λ (r : Records (List Entry)). slice_get r.established x.recorded.0) c.records ∙ x.recorded.1;
          settings = a.fresh.settings ∙ s.settings;
          em = a.fresh.state.em ∙ (f.em ∙ s.em);
          purge_to = a.fresh.state.purge_to ∙ (f.purge_to ∙ s.purge_to);
          noop = f.noop;
          at_end = f.at_end ∙ ap next (h.last_id ∙ ap (λ xs. last xs) s.ids);
          ids = a.fresh.state.ids ∙ (f.ids ∙ ap (λ xs. xs ++ f.noop ∷ []) s.ids);
          seq = subst (λ j. a.engine.machine.core.output.seq ≤ j + 2) (f.seq ∙ s.seq) a.fresh.seq;
          drawn = a.fresh.drawn;
          ends = subst (λ o. Ends (next o) a.fresh.leader.progress.rows) (h.last_id ∙ ap (λ xs. last xs) s.ids) a.fresh.ends;
          targets = λ u apart l.
              subst (λ (s : Streams). Listed s.targets u) (sym a.streams)
              (f.targets u (λ z. apart (z ∙ ap (λ (c : EngineConfig ℕ). c.id) s.settings))
              (subst (λ xs. Listed xs u)
              (sym (ap (λ xs. xs ++ h.candidate.learner_ids) (same_ids_granted t h.candidate.progress.rows ∙ (h.voters ∙ ap (λ (m : StoredMembership ℕ (Unit {0})). voter_ids nat_cmp m.membership) s.em))
              ∙ ap (λ xs. voter_ids nat_cmp b.machine.core.state.em.membership ++ xs) (h.learners ∙ ap (λ (m : StoredMembership ℕ (Unit {0})). learner_ids nat_cmp m.membership) s.em))) l));
        }

    pub beside_last : is_granted (is_quorum nat_cmp) (grant_by nat_cmp h.candidate t) ≡ true → Beside d now n net (happens whole_logs weight given (deliver k now) net).1
    beside_last q =
        let l : LeadsAtWork (record { leader_id = d; committed = true }) (record_of (record { leader_id = d; committed = true }) turn (work_begins node net.records)) (worked whole_logs (weight (at_work (vote_replied t (grant d y) now e) (work_begins node net.records))) turn (at_work (vote_replied t (grant d y) now e) (work_begins node net.records))) =
        won_works (record { leader_id = d; committed = true }) turn (work_begins node net.records) (vote_replied t (grant d y) now e) (then_wins d gs G e h t now y row q) in
        let w : Work (List Entry) = worked whole_logs (weight (at_work (vote_replied t (grant d y) now e) (work_begins node net.records))) turn (at_work (vote_replied t (grant d y) now e) (work_begins node net.records)) in
        beside_changed d now n net (happens whole_logs weight given (deliver k now) net).1 _ _
        (counted l.engine w.effects (ap (λ (o : Option EngineView). let u : Work (List Entry) = record { engine = o; effects = w.effects; left = w.left } in u) l.runs ∙ ap (λ (o : Option ℕ). let u : Work (List Entry) = record { engine = Some l.engine; effects = w.effects; left = o } in u) l.left))

  -- A campaign: the candidate, whom these have granted, and the voters that are still to grant
  pub record Campaign (b : EngineView) (net : Net (List Entry)) (n : ℕ) (d : LeaderId ℕ) (x : Option (LogId ℕ)) (gs : List (List ℕ)) (G rest : List ℕ) : Type 0 where
    pub node : NodeView
    pub at : At net.nodes n node
    pub moment : node.moment ≤ now
    pub engine : EngineView
    pub runs : node.engine ≡ Some engine
    pub asks : Asks d gs G engine
    pub since : Since b engine
    pub rows : AllByRecursion (InRow Any asks.candidate.progress.voters asks.candidate.progress.rows) rest
    pub will : AllByRecursion (WillGrant net now n d x) rest

  -- where one node changes, and the bag grows, the other voters still will grant
  will_stays : (net new : Net (List Entry)) (n : ℕ) (d : LeaderId ℕ) (x : Option (LogId ℕ)) (id : ℕ) (m : NodeView) (r : Records (List Entry)) (more : List Message) → Changed net new id m r → r.bag ≡ net.records.bag ++ more
      → (u : ℕ) → u ≢ id → WillGrant net now n d x u → WillGrant new now n d x u
  will_stays net new n d x id m r more c b u ne w = record {
    number = w.number;
    asked = subst (λ (bag : List Message). message_at bag w.number ≡ Some (record { from = n; to = u; body = body.VoteRequest (record { vote = pending d; last_log_id = x }) })) (sym (ap (λ (r : Records (List Entry)). r.bag) c.records ∙ b)) (message_stays net.records.bag more w.number _ w.asked);
    node = w.node;
    at = c.others u w.node ne w.at;
    moment = w.moment;
    engine = w.engine;
    runs = w.runs;
    may = w.may;
  }

  all_will : (net new : Net (List Entry)) (n : ℕ) (d : LeaderId ℕ) (x : Option (LogId ℕ)) (id : ℕ) (m : NodeView) (r : Records (List Entry)) (more : List Message) → Changed net new id m r → r.bag ≡ net.records.bag ++ more
      → (us : List ℕ) → AllByRecursion (λ u. u ≢ id) us → AllByRecursion (WillGrant net now n d x) us → AllByRecursion (WillGrant new now n d x) us
  all_will net new n d x id m r more c b [] a w = tt
  all_will net new n d x id m r more c b (u ∷ us) a w = (will_stays net new n d x id m r more c b u a.0 w.0, all_will net new n d x id m r more c b us a.1 w.1)

  not_it : (n : ℕ) (us : List ℕ) → Apart n us → AllByRecursion (λ u. u ≢ n) us
  not_it n [] a = tt
  not_it n (u ∷ us) a = (a.0, not_it n us a.2)

  nil_right : {X : Type 0} (xs : List X) → xs ++ [] ≡ xs
  nil_right [] = refl
  nil_right (x ∷ xs) = ap (λ ys. x ∷ ys) (nil_right xs)

  rows_after : (c : WorldCandidate) (t : ℕ) (us : List ℕ) → AllByRecursion (InRow Any c.progress.voters c.progress.rows) us → AllByRecursion (InRow Any c.progress.voters (grant_by nat_cmp c t).progress.rows) us
  rows_after c t [] a = tt
  rows_after c t (u ∷ us) a = (any_stays t c.progress.voters c.progress.rows u a.0, rows_after c t us a.1)

  -- a voter that will grant was asked by the plan's number as well
  pub asks_first : (net : Net (List Entry)) (n : ℕ) (d : LeaderId ℕ) (x : Option (LogId ℕ)) (t : ℕ) → WillGrant net now n d x t
      → (w : WillGrant net now n d x t) × (number_of (sends n t (asks_vote (pending d) x)) net.records.bag ≡ Some w.number)
  asks_first net n d x t w =
      let request : Message = record { from = n; to = t; body = body.VoteRequest (record { vote = pending d; last_log_id = x }) } in
      let f : FirstOf (sends n t (asks_vote (pending d) x)) net.records.bag =
      first_found (sends n t (asks_vote (pending d) x)) net.records.bag w.number request w.asked (asks_for n t (pending d) x) in (
        record {
          number = f.number;
          asked = f.there ∙ ap (λ (m : Message). let o : Option Message = Some m in o) (asked_for n t (pending d) x f.message f.passes);
          node = w.node;
          at = w.at;
          moment = w.moment;
          engine = w.engine;
          runs = w.runs;
          may = w.may;
        },
        f.found,
      )

  -- the plan asks a voter unless the candidate leads
  collects : (net : Net (List Entry)) (n : ℕ) (v : Vote ℕ) (x : Option (LogId ℕ)) (t : ℕ) (ts : List ℕ) (k : ℕ) → is_leading net n ≡ false
      → number_of (sends n t (asks_vote v x)) net.records.bag ≡ Some k
      → collect given now n v x (t ∷ ts) net ≡ exchange given now k net ++ collect given now n v x ts (goes_on given (exchange given now k net) net)
  collects net n v x t ts k unled found =
      if_false (is_leading net n) [] (asked (number_of (sends n t (asks_vote v x)) net.records.bag)) unled ∙ ap asked found
    where
      asked : Option ℕ → List Event
      asked o = elim o as (λ _. List Event) [
        | None ↦ []
        | Some k ↦ exchange given now k net ++ collect given now n v x ts (goes_on given (exchange given now k net) net)
      ]

  collects_none : (net : Net (List Entry)) (n : ℕ) (v : Vote ℕ) (x : Option (LogId ℕ)) (ts : List ℕ) → is_leading net n ≡ true
      → collect given now n v x ts net ≡ []
  collects_none net n v x [] leads = refl
  collects_none net n v x (t ∷ ts) leads = if_true (is_leading net n) [] _ leads

  -- it ends: the events of one voter after another, until the candidate leads
  pub campaign_ends : (b : EngineView) (net : Net (List Entry)) (n : ℕ) (d : LeaderId ℕ) (x : Option (LogId ℕ)) (gs : List (List ℕ)) (g : ℕ) (G rest : List ℕ) → Campaign b net n d x gs (g ∷ G) rest → Apart n rest → is_quorum nat_cmp gs (over rest (g ∷ G)) ≡ true
      → Elected given now n d b (2 * length rest) net (collect given now n (pending d) x rest net)
  unfolding asks_on
  campaign_ends b net n d x gs g G [] h a q =
      let z : is_granted (is_quorum nat_cmp) h.asks.candidate ≡ true = granted_if h.asks.candidate g G h.asks.granted (subst (λ s. is_quorum nat_cmp s (g ∷ G) ≡ true) (sym h.asks.groups) q) in
      let w : true ≡ false = sym z ∙ h.asks.waits in cc
  campaign_ends b net n d x gs g G (t ∷ rest) h a q =
      subst (λ (es : List Event). Elected given now n d b (2 * length (t ∷ rest)) net es)
      (sym (collects net n (pending d) x t rest asked.0.number (leads_is net n h.node h.engine h.at h.runs ∙ ap is_some h.asks.may.unled) asked.1))
      (go (is_granted (is_quorum nat_cmp) (grant_by nat_cmp h.asks.candidate t)) refl (λ c. campaign_ends b net2 n d x gs t (g ∷ G) rest c a.2 q))
    where
      asked : (w : WillGrant net now n d x t) × (number_of (sends n t (asks_vote (pending d) x)) net.records.bag ≡ Some w.number)
      asked = asks_first net n d x t h.will.0

      net1 : Net (List Entry)
      net1 = world_then given now (deliver asked.0.number now) net

      net2 : Net (List Entry)
      net2 = world_then given now (deliver (length net1.records.bag) now) net1

      at1 : At net1.nodes n h.node
      at1 = (grants net n d x t asked.0).others n h.node (λ e. a.0 (sym e)) h.at

      answer : Message
      answer = record { from = asked.0.node.id; to = n; body = body.VoteReply (grant_reply d asked.0.engine) }

      bag1 : net1.records.bag ≡ net.records.bag ++ answer ∷ []
      bag1 = ap (λ (r : Records (List Entry)). r.bag) (grants net n d x t asked.0).records

      sent1 : message_at net1.records.bag (length net1.records.bag)
          ≡ Some (record { from = t; to = n; body = body.VoteReply (grant d (grant_reply d asked.0.engine).last_log_id) })
      sent1 =
          ap (λ (bag : List Message). message_at bag (length bag)) bag1
          ∙ (ap (message_at (net.records.bag ++ answer ∷ [])) (length-append net.records.bag (answer ∷ []))
          ∙ (message_last net.records.bag answer []
          ∙ ap (λ k. let z : Option Message = Some (record { from = k; to = n; body = body.VoteReply (grant_reply d asked.0.engine) }) in z)
          (at_id net.nodes t asked.0.node asked.0.at)))

      beside1 : Beside d now n net net1
      beside1 =
          beside_granted d now n net net1 t asked.0.node (voter_after net n d x t asked.0) _ (grants net n d x t asked.0) asked.0.at
          (record { engine = asked.0.engine; ran = asked.0.runs; moment = refl; runs = refl })

      go : (c : Bool) → is_granted (is_quorum nat_cmp) (grant_by nat_cmp h.asks.candidate t) ≡ c
          → (Campaign b net2 n d x gs (t ∷ g ∷ G) rest → Elected given now n d b (2 * length rest) net2 (collect given now n (pending d) x rest net2))
          → Elected given now n d b (2 * length (t ∷ rest)) net (exchange given now asked.0.number net ++ collect given now n (pending d) x rest net2)
      go true e f =
          let won : LeadsSince b d net2 now n =
          counts_last net1 n d gs (g ∷ G) h.node h.engine (length net1.records.bag) t _ at1 h.moment h.runs h.asks h.rows.0 sent1 b h.since e in
          let leads : is_leading net2 n ≡ true = leads_is net2 n won.leads.node won.leads.engine won.leads.at won.leads.runs ∙ ap is_some won.leads.leads in
          subst (λ (es : List Event). Elected given now n d b (2 * length (t ∷ rest)) net (exchange given now asked.0.number net ++ es))
          (sym (collects_none net2 n (pending d) x rest leads))
          (record {
            won = won;
            beside = beside_then d now n net net1 net2 beside1
                (beside_last net1 n d gs (g ∷ G) h.node h.engine (length net1.records.bag) t _ at1 h.moment h.runs h.asks h.rows.0 sent1 e);
            count = let l : 2 ≤ 2 * length (t ∷ rest) = omega arith in l;
          })
      go false e f =
          let c2 = counts_on net1 n d gs (g ∷ G) h.node h.engine (length net1.records.bag) t _ at1 h.moment h.runs h.asks h.rows.0 sent1 e in
          let r = f (record {
            node = _;
            at = c2.here;
            moment = omega arith;
            engine = vote_replied t (grant d (grant_reply d asked.0.engine).last_log_id) now h.engine;
            runs = refl;
            asks = asks_on d gs (g ∷ G) h.engine h.asks t now _ h.rows.0 e;
            since = since_granted d gs (g ∷ G) h.engine h.asks t now _ h.rows.0 b h.since e;
            rows = rows_after h.asks.candidate t rest h.rows.1;
            will = all_will net1 _ n d x n _ _ [] c2 (sym (nil_right net1.records.bag)) rest (not_it n rest a.2)
                (all_will net net1 n d x t _ _ _ (grants net n d x t asked.0) refl rest a.1 h.will.1);
          }) in
          record {
            won = r.won;
            beside = beside_then d now n net net1 _ beside1 (beside_then d now n net1 net2 _ (beside_changed d now n net1 net2 _ _ c2) r.beside);
            count = let l : length (collect given now n (pending d) x rest net2) ≤ 2 * length rest = r.count in
                let m : suc (suc (length (collect given now n (pending d) x rest net2))) ≤ 2 * length (t ∷ rest) = omega (arith, l) in m;
          }
