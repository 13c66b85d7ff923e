-- A voter that is a quorum alone leads at its timeout.
use Rattle.std.proofs.Common.{ℕ, suc, ◌≡◌, Bool, true, false, List, [], ◌∷◌, length, arith, refl, sym, ap, ◌∙◌, subst, Option, None, Some, ◌+◌, ◌≤◌, ◌++◌}
use Rattle.std.specs.Prelude.{if◌then◌else◌, is_some, nat_eq, slice_get, ◌==◌}
use Rattle.std.specs.Ordering.{is_eq, nat_cmp}
use Rattle.std.proofs.lemmas.Bool.Decides.{nat_tests}
use Rattle.proof_deeds.specs.raft_state.declared.ids.Vote.{Vote}
use Rattle.proof_deeds.specs.raft_state.Members.{is_voter, voter_ids, learner_ids}
use Rattle.proof_deeds.specs.raft_state.Order.{vote_cmp, next}
use Rattle.proof_deeds.specs.raft_progress.Table.{is_in}
use Rattle.proof_deeds.specs.raft_progress_entry.declared.entry.ProgressEntry.{ProgressEntry}
use Rattle.proof_deeds.specs.raft_error.declared.error.EngineError.{EngineError}
use Rattle.proof_deeds.specs.raft_command.declared.command.Command.TheVariants.{BecomeLeader, RebuildReplicationStreams, SaveVote, SendVote, AppendInputEntries}
use Rattle.proof_deeds.specs.raft_command.declared.message.VoteRequest.{VoteRequest}
use Rattle.proof_deeds.specs.raft_proposer.Candidate.{grant_by}
use Rattle.proof_deeds.specs.raft_steps.Engine.{handle_vote_resp, lead_by_votes}
use Rattle.proof_deeds.specs.raft_store.declared.entry.Entry.{Entry}
use Rattle.proof_deeds.specs.raft_store.Entries.{entry_meaning}
use Rattle.proof_deeds.specs.raft_store.Types.{EngineView, WorldCandidate, WorldCommand, WorldLeader, WorldMachine}
use Rattle.proof_deeds.specs.raft_schedule.declared.event.SkipReason.{SkipReason}
use Rattle.proof_deeds.specs.raft_schedule.declared.event.SkipReason.TheVariants.{HasLeader, NotRunning, NotVoter}
use Rattle.proof_deeds.specs.raft_node.declared.act.Act.TheVariants.{Elect}
use Rattle.proof_deeds.specs.raft_calls.declared.elections.Candidates.TheVariants.{Voters}
use Rattle.proof_deeds.specs.raft_node.declared.given.Given.{Given}
use Rattle.proof_deeds.specs.raft_node.declared.node.Turn.{Turn}
use Rattle.proof_deeds.specs.raft_calls.Elections.{elected, skip_elect}
use Rattle.proof_deeds.specs.raft_node.Events.{happens}
use Rattle.proof_deeds.specs.raft_calls.Feeds.{asks_itself, called, feed, grant_own, own_grant}
use Rattle.proof_deeds.specs.raft_node.Net.{Net, Records, NodeView}
use Rattle.proof_deeds.specs.raft_node.Runs.{whole_logs}
use Rattle.proof_deeds.specs.raft_node.Work.{Work, weight, work_step, worked}
use Rattle.proof_deeds.specs.raft_calls.Engines.{with_queue}
use Rattle.proof_deeds.proofs.raft_node_proofs.Worked.{worked-step}
use Rattle.std.specs.Option.{option_map}
use Rattle.proof_deeds.specs.raft_state.declared.membership.StoredMembership.{StoredMembership}
use Rattle.proof_deeds.specs.raft_state.Log.{last}
use Rattle.proof_deeds.specs.raft_command.declared.replication.ReplicationSessionId.{ReplicationSessionId}
use Rattle.proof_deeds.specs.raft_proposer.Joint.{u64_max}
use Rattle.proof_deeds.specs.raft_node.declared.node.Streams.{Streams}
use Rattle.proof_deeds.specs.raft_node.Execute.{exec}
use Rattle.proof_progress.specs.Elections.{Listed}
use Rattle.proof_progress.proofs.Afresh.{LeadsSince, WonAfresh, elected_works, leads_in, won_afresh}
use Rattle.proof_progress.specs.Continuations.{LeadsIn, timeout, At}
use Rattle.proof_progress.proofs.Conditions.{NodeStands, is_enough, EngineStands}
use Rattle.proof_progress.proofs.Images.{standing, stood, stood_request, stood_vote}
use Rattle.proof_progress.proofs.Campaigns.{at_id}
use Rattle.proof_progress.proofs.CanElect.{listed_row, ids_new}
use Rattle.proof_progress.proofs.Elects.{and_yes, elected_is, if_true, itself}
use Rattle.proof_progress.proofs.Leading.{LeadsAtWork, get_end, leads_on, record_of}
use Rattle.proof_progress.proofs.Places.{changes}
use Rattle.proof_progress.proofs.Plays.{latest, node_after, plays, work_begins}
use Rattle.proof_progress.proofs.Tables.{row_in, same_ids_granted}
use Rattle.proof_progress.proofs.Wins.{Won, counts, wins, won, MayWin, won_is}
use Rattle.proof_progress.proofs.Works.{Effected, at_work, grant_unrefused, vote_itself, voted, queueing}

busy : (n : ℕ) → nat_eq (suc n) 0 ≡ false
busy n = grind (arith, nat_tests)

-- the winner's queue, behind its requests
module _ (v : Vote ℕ) (r : VoteRequest ℕ) (t : Turn) (E : Effected) where
  abbrev parts : EngineView → List WorldCommand → Option WorldLeader → Option WorldCandidate → Vote ℕ → EngineView
  parts e cs l c w = record e { machine = record { core = record { state = record e.machine.core.state { vote = w }; output = record e.machine.core.output { items = cs } }; leader = l; candidate = c } }

  parts_works : (e : EngineView) (l : WorldLeader) (s : List (ℕ × ProgressEntry ℕ)) (ys : List WorldCommand) → l.vote ≡ v
      → LeadsAtWork v (record_of v t E) (worked whole_logs (weight (at_work (parts e (SendVote r ∷ RebuildReplicationStreams s ∷ SaveVote v ∷ BecomeLeader ∷ ys) (Some l) None v) E)) t (at_work (parts e (SendVote r ∷ RebuildReplicationStreams s ∷ SaveVote v ∷ BecomeLeader ∷ ys) (Some l) None v) E))
  parts_works e l s ys by =
      let w0 : Work (List Entry) = at_work (parts e (SendVote r ∷ RebuildReplicationStreams s ∷ SaveVote v ∷ BecomeLeader ∷ ys) (Some l) None v) E in
      let w1 : Work (List Entry) = work_step whole_logs t w0 in
      let w2 : Work (List Entry) = work_step whole_logs t w1 in
      let w3 : Work (List Entry) = work_step whole_logs t w2 in
      subst (λ (u : Work (List Entry)). LeadsAtWork v (record_of v t E) u)
      (worked-step whole_logs t w3 (busy (length ys)) ∙ (worked-step whole_logs t w2 (busy (suc (length ys))) ∙ (worked-step whole_logs t w1 (busy (suc (suc (length ys)))) ∙ worked-step whole_logs t w0 (busy (suc (suc (suc (length ys))))))))
      (leads_on v (record_of v t E) t (weight (work_step whole_logs t w3)) (work_step whole_logs t w3) (record { engine = _; runs = refl; leads = record { leader = l; leads = refl; by = by; alone = refl }; left = refl; recorded = (length E.records.established, get_end E.records.established (record_of v t E) []) }))

  won_works : (e : EngineView) → Won v (SendVote r ∷ []) e.machine → LeadsAtWork v (record_of v t E) (worked whole_logs (weight (at_work e E)) t (at_work e E))
  won_works e h =
      subst (λ (f : EngineView). LeadsAtWork v (record_of v t E) (worked whole_logs (weight (at_work f E)) t (at_work f E)))
      (sym (ap (λ cs. parts e cs e.machine.leader e.machine.candidate e.machine.core.state.vote) h.builds.1
      ∙ (ap (λ l. parts e (SendVote r ∷ RebuildReplicationStreams h.streams ∷ SaveVote v ∷ BecomeLeader ∷ h.builds.0) l e.machine.candidate e.machine.core.state.vote) h.leads
      ∙ (ap (λ c. parts e (SendVote r ∷ RebuildReplicationStreams h.streams ∷ SaveVote v ∷ BecomeLeader ∷ h.builds.0) (Some h.leader) c e.machine.core.state.vote) h.alone
      ∙ ap (λ w. parts e (SendVote r ∷ RebuildReplicationStreams h.streams ∷ SaveVote v ∷ BecomeLeader ∷ h.builds.0) (Some h.leader) None w) h.vote))))
      (parts_works e h.leader h.streams h.builds.0 h.by)

module _ (now id : ℕ) (e : EngineView) (may : EngineStands e) (listed : Listed (voter_ids nat_cmp e.machine.core.state.em.membership) e.config.id) (room : (next (last e.machine.core.state.ids) == u64_max) ≡ false) (enough : is_enough now e ≡ true) (E : Effected) where
  abbrev left : EngineView
  left = with_queue (stood now e) (record e.machine.core.output { items = SendVote (stood_request e) ∷ [] })

  abbrev winner : WorldCandidate
  winner = grant_by nat_cmp (standing now e) e.config.id

  abbrev leading : EngineView
  leading = record left { machine = lead_by_votes nat_cmp entry_meaning e.config (grant_by nat_cmp (standing now e) e.config.id) now left.machine }

  voter : is_in nat_cmp (standing now e).progress e.config.id ≡ true
  voter = row_in (standing now e).progress.voters (standing now e).progress.rows e.config.id (listed_row (voter_ids nat_cmp e.machine.core.state.em.membership) [] e.config.id listed)

  own_wins : feed now (SaveVote (stood_vote e)) left ≡ leading
  own_wins =
      if_true (asks_itself (stood_vote e) (standing now e) left) (grant_own now (stood_vote e) left) left
      (and_yes (is_eq (vote_cmp nat_cmp (stood_vote e) (stood_vote e))) (is_in nat_cmp (standing now e).progress e.config.id) (ap is_eq (vote_itself (stood_vote e))) voter)
      ∙ (ap (λ (r : Option (EngineError ℕ (Unit {0}))). called r left (handle_vote_resp nat_cmp entry_meaning e.config e.config.id (own_grant (stood_vote e)) now left.machine))
      (grant_unrefused e.config e.config.id (own_grant (stood_vote e)) (standing now e) left.machine may.unspent refl voter room)
      ∙ ap (λ (m : WorldMachine). let z : EngineView = record left { machine = m } in z)
      (counts e.config e.config.id now (own_grant (stood_vote e)) (standing now e) left.machine refl (ap is_eq (vote_itself (stood_vote e)))
      ∙ wins e.config e.config.id now (standing now e) left.machine enough))

  abbrev pub turn : Turn
  turn = record { id = id; moment = now; request = None }

  abbrev pub vote : Vote ℕ
  vote = record { leader_id = (stood_vote e).leader_id; committed = true }

  may_win : MayWin e.config (grant_by nat_cmp (standing now e) e.config.id) left.machine
  may_win = record { vote = refl; uncommitted = refl; own = ap is_eq (itself e.config.id); member = may.member; unled = refl; role = λ z. cc }

  saved : worked whole_logs (weight (at_work (stood now e) E)) turn (at_work (stood now e) E) ≡ worked whole_logs (weight (at_work leading (voted (stood_vote e) E))) turn (at_work leading (voted (stood_vote e) E))
  saved =
      sym (worked-step whole_logs turn (at_work (stood now e) E) refl)
      ∙ ap (λ (f : EngineView). worked whole_logs (weight (at_work f (voted (stood_vote e) E))) turn (at_work f (voted (stood_vote e) E))) own_wins

  pub works : LeadsAtWork (record { leader_id = (stood_vote e).leader_id; committed = true }) (record_of (record { leader_id = (stood_vote e).leader_id; committed = true }) turn (voted (stood_vote e) E))
      (worked whole_logs (weight (at_work (stood now e) E)) turn (at_work (stood now e) E))
  works =
      subst (λ (u : Work (List Entry)). LeadsAtWork (record { leader_id = (stood_vote e).leader_id; committed = true }) (record_of (record { leader_id = (stood_vote e).leader_id; committed = true }) turn (voted (stood_vote e) E)) u) (sym saved)
      (won_works (record { leader_id = (stood_vote e).leader_id; committed = true }) (stood_request e) turn (voted (stood_vote e) E) leading (won e.config (grant_by nat_cmp (standing now e) e.config.id) now left.machine may_win))

  -- the leader that it becomes
  won_so : WonAfresh e.config (grant_by nat_cmp (standing now e) e.config.id) left.machine (record { leader_id = (stood_vote e).leader_id; committed = true }) leading.machine
  won_so =
      subst (λ (m : WorldMachine). WonAfresh e.config (grant_by nat_cmp (standing now e) e.config.id) left.machine (record { leader_id = (stood_vote e).leader_id; committed = true }) m)
      (sym (won_is e.config (grant_by nat_cmp (standing now e) e.config.id) now left.machine may_win)) (won_afresh e.config (grant_by nat_cmp (standing now e) e.config.id) now left.machine may_win)

  abbrev behind : List WorldCommand
  behind =
      RebuildReplicationStreams won_so.streams ∷ SaveVote (record { leader_id = (stood_vote e).leader_id; committed = true }) ∷ BecomeLeader ∷ AppendInputEntries (record { leader_id = (stood_vote e).leader_id; committed = true }) won_so.entries ∷ won_so.sends

  -- its requests are sent first
  abbrev asked : Effected
  asked = exec whole_logs turn (queueing leading behind) (SendVote (stood_request e)) (voted (stood_vote e) E)

  then_won : WonAfresh e.config (grant_by nat_cmp (standing now e) e.config.id) (queueing left []).machine (record { leader_id = (stood_vote e).leader_id; committed = true }) (queueing leading behind).machine
  then_won = record {
    leader = won_so.leader;
    leads = won_so.leads;
    by = won_so.by;
    alone = won_so.alone;
    vote = won_so.vote;
    em = won_so.em;
    purge_to = won_so.purge_to;
    noop = won_so.noop;
    at_end = won_so.at_end;
    ids = won_so.ids;
    unspent = won_so.unspent;
    seq = won_so.seq;
    drawn = won_so.drawn;
    ends = won_so.ends;
    streams = won_so.streams;
    targets = won_so.targets;
    entries = won_so.entries;
    sends = won_so.sends;
    each = won_so.each;
    items = refl;
  }

  sent : worked whole_logs (weight (at_work leading (voted (stood_vote e) E))) turn (at_work leading (voted (stood_vote e) E)) ≡ worked whole_logs (weight (at_work (queueing leading behind) asked)) turn (at_work (queueing leading behind) asked)
  sent =
      ap (λ (cs : List WorldCommand). let u : Work (List Entry) = at_work (queueing leading cs) (voted (stood_vote e) E) in worked whole_logs (weight u) turn u) won_so.items
      ∙ sym (worked-step whole_logs turn (at_work (queueing leading (SendVote (stood_request e) ∷ behind)) (voted (stood_vote e) E)) (busy (length behind)))

  -- the node, its streams and its table then
  pub record AloneWorks : Type 0 where
    pub engine : EngineView
    pub effects : Effected
    pub is : worked whole_logs (weight (at_work (stood now e) E)) turn (at_work (stood now e) E) ≡ at_work engine effects
    pub since : (net : Net (List Entry)) (n : ℕ) (node : NodeView) → At net.nodes n node → node.moment ≡ now → node.engine ≡ Some engine → node.streams ≡ effects.streams → net.records ≡ effects.records → LeadsSince e (stood_vote e).leader_id net now n

  pub alone_works : AloneWorks
  unfolding then_won won_so
  alone_works =
      let a = elected_works e.config (grant_by nat_cmp (standing now e) e.config.id) (queueing left []).machine (record { leader_id = (stood_vote e).leader_id; committed = true }) (queueing leading behind) then_won may.unspent turn asked refl in
      let r = subst (LeadsAtWork (record { leader_id = (stood_vote e).leader_id; committed = true }) (record_of (record { leader_id = (stood_vote e).leader_id; committed = true }) turn (voted (stood_vote e) E))) (saved ∙ (sent ∙ a.is)) works in
      record {
        engine = a.engine;
        effects = a.effects;
        is = saved ∙ (sent ∙ a.is);
        since = λ net n node at moment runs streams records. record {
          leads = record {
            node = node;
            at = at;
            moment = omega (arith, moment);
            engine = a.engine;
            runs = runs;
            leader = a.fresh.leader;
            leads = a.fresh.leads;
            session = record { vote = then_won.leader.vote; membership_log_id = (queueing leading behind).machine.core.state.em.log_id };
            in_session =
                ap (λ (o : Option WorldLeader). let z : Option (ReplicationSessionId ℕ) = option_map (λ (l : WorldLeader). record { vote = l.vote; membership_log_id = a.engine.machine.core.state.em.log_id }) o in z) a.fresh.leads
                ∙ (ap (λ (w : Vote ℕ). let z : Option (ReplicationSessionId ℕ) = Some (record { vote = w; membership_log_id = a.engine.machine.core.state.em.log_id }) in z) (a.fresh.by ∙ sym then_won.by)
                ∙ ap (λ (m : StoredMembership ℕ (Unit {0})). let z : Option (ReplicationSessionId ℕ) = Some (record { vote = then_won.leader.vote; membership_log_id = m.log_id }) in z) a.fresh.state.em);
            streams = ap (λ (s : Streams). s.session_id) (streams ∙ a.streams);
            unspent = a.fresh.unspent;
          };
          by = a.fresh.by;
          log = _;
          number = r.recorded.0;
          established = ap (λ (x : Records (List Entry)). slice_get x.established r.recorded.0) records ∙ r.recorded.1;
          settings = a.fresh.settings;
          em = a.fresh.state.em ∙ then_won.em;
          purge_to = a.fresh.state.purge_to ∙ then_won.purge_to;
          noop = then_won.noop;
          at_end = then_won.at_end;
          ids = a.fresh.state.ids ∙ then_won.ids;
          seq = subst (λ j. a.engine.machine.core.output.seq ≤ j + 2) then_won.seq a.fresh.seq;
          drawn = a.fresh.drawn;
          ends = a.fresh.ends;
          targets = λ u apart l.
              subst (λ (s : Streams). Listed s.targets u) (sym (streams ∙ a.streams))
              (then_won.targets u apart
              (subst (λ xs. Listed xs u) (sym (ap (λ xs. xs ++ learner_ids nat_cmp e.machine.core.state.em.membership) (same_ids_granted e.config.id (standing now e).progress.rows ∙ ids_new (voter_ids nat_cmp e.machine.core.state.em.membership)))) l));
        };
      }

module _ (given : Given) (net : Net (List Entry)) (now n : ℕ) (h : NodeStands net now n) (enough : is_enough now h.engine ≡ true) where
  done : AloneWorks now h.node.id h.engine h.may h.listed h.room enough (work_begins h.node net.records)
  done = alone_works now h.node.id h.engine h.may h.listed h.room enough (work_begins h.node net.records)

  pub leads_since : LeadsSince h.engine (stood_vote h.engine).leader_id (happens whole_logs weight given (timeout n now) net).1 now n
  leads_since =
      let c =
      changes given net (timeout n now) n (Elect Voters) h.node _ (record { node = node_after h.node now done.engine done.effects; records = done.effects.records }) h.at refl
      (plays given (Elect Voters) (timeout n now) (λ k e. elected k e) h.node net.records now h.engine (stood now h.engine) done.engine done.effects (λ n. refl) (λ n. refl) h.runs
      (unskipped h.node.engine h.runs) (latest now h.node.moment h.moment) refl (elected_is now h.engine h.may) done.is)
      (at_id net.nodes n h.node h.at) in
      done.since (happens whole_logs weight given (timeout n now) net).1 n (node_after h.node now done.engine done.effects) c.here refl refl refl c.records
    where
      by_leader : (o : Option WorldLeader) (b : Bool) → o ≡ None → b ≡ true → ◌≡◌ {A = Option SkipReason} (if is_some o then Some HasLeader else if b then None else Some NotVoter) None
      by_leader None true e q = refl
      by_leader None false e q = cc
      by_leader (Some l) b e q = cc

      unskipped : (o : Option EngineView) → o ≡ Some h.engine → ◌≡◌ {A = Option SkipReason} (elim o [ None ↦ Some NotRunning | Some e ↦ skip_elect Voters e ]) None
      unskipped None q = cc
      unskipped (Some e) q = let z : h.engine ≡ e = cc in subst (λ (e : EngineView). ◌≡◌ {A = Option SkipReason} (skip_elect Voters e) None) z (by_leader h.engine.machine.leader (is_voter nat_cmp h.engine.machine.core.state.em.membership h.engine.config.id) h.may.unled h.voter)

  pub leads_alone : LeadsIn (happens whole_logs weight given (timeout n now) net).1 (stood_vote h.engine).leader_id n
  leads_alone = leads_in leads_since
