-- A leader's proposal is committed: it is made, and then the logs of voters come to match, one after another.
use Rattle.std.proofs.Common.{ℕ, suc, ◌+◌, ◌*◌, ◌<◌, ◌≤◌, ◌≡◌, ◌≢◌, true, false, List, [], ◌∷◌, ◌++◌, length, map, arith, refl, sym, ap, ◌∙◌, subst, Option, None, Some}
use Rattle.std.specs.List.{AllByRecursion}
use Rattle.std.specs.Ordering.{nat_cmp}
use Rattle.std.proofs.lemmas.Cmp.{nat_cmp_total}
use Rattle.proof_deeds.specs.raft_state.declared.ids.LogId.{LogId}
use Rattle.proof_deeds.specs.raft_state.declared.ids.Vote.{Vote}
use Rattle.proof_deeds.specs.raft_state.Log.{last}
use Rattle.proof_deeds.specs.raft_state.Order.{next}
use Rattle.proof_deeds.specs.raft_state.Same.{nat_same}
use Rattle.proof_deeds.specs.raft_progress.Quorum.{is_quorum}
use Rattle.proof_deeds.specs.raft_command.declared.config.EngineConfig.{EngineConfig}
use Rattle.proof_deeds.specs.raft_proposer.Joint.{u64_max}
use Rattle.proof_deeds.specs.raft_steps.VoteHandler.{rejects_vote}
use Rattle.proof_deeds.proofs.raft_steps_proofs.LawsQueue.{append_append}
use Rattle.proof_deeds.specs.raft_store.declared.entry.Entry.{Entry}
use Rattle.proof_deeds.specs.raft_store.declared.entry.Value.{Value}
use Rattle.proof_deeds.specs.raft_store.Entries.{entry_meaning}
use Rattle.proof_deeds.specs.raft_schedule.declared.event.Event.{Event}
use Rattle.proof_deeds.specs.raft_calls.LeaderCalls.{value_entry}
use Rattle.proof_deeds.specs.raft_node.declared.given.Given.{Given}
use Rattle.proof_deeds.specs.raft_node.Runs.{world_after}
use Rattle.proof_deeds.specs.raft_node.WellFormed.{IsWellFormed}
use Rattle.proof_deeds.proofs.Drains.{takes}
use Rattle.proof_progress.specs.CatchUps.{AllMatchAfter, CanServe, HasCaughtUp, MayCatchUp, log_len}
use Rattle.proof_progress.specs.Commits.{CanCatchUp, CommitsAfter, IsBehind, ProposedAfter, WorldsCommit, needed}
use Rattle.proof_progress.specs.Continuations.{propose}
use Rattle.proof_progress.specs.Exchanges.{HasNumbers, LeadsAt, MayTake, led}
use Rattle.proof_progress.specs.Plans.{bring_all}
use Rattle.proof_progress.specs.Proposals.{EachOnce, IsVoter, ReplicatedTo, id_past}
use Rattle.proof_progress.proofs.AllCatchUp.{worlds_all_match}
use Rattle.proof_progress.proofs.Campaigns.{at_id}
use Rattle.proof_progress.proofs.CatchesUp.{less_numbers, on_then}
use Rattle.proof_progress.proofs.LeadersKnow.{follows, knows, sound_led}
use Rattle.proof_progress.proofs.Planned.{planned_then}
use Rattle.proof_progress.proofs.ProposalEvents.{plain, same_length, worlds_propose}
use Rattle.proof_progress.proofs.Proposed.{ends, proposal_commits, purge_stays, vote_stays}
use Rattle.proof_progress.proofs.Values.{holds_left}

module _ (given : Given) (wf : IsWellFormed given) (past : List Event) (now n k : ℕ) (l : LeadsAt (world_after given past) now n) (v : Value) (vs : List Value) (t : ℕ) (ts : List ℕ) (once : EachOnce (n ∷ t ∷ ts))
    (voters : AllByRecursion (IsVoter (led l)) (n ∷ t ∷ ts)) (quorum : is_quorum nat_cmp l.leader.progress.set (n ∷ t ∷ ts) ≡ true) (keeps : CanServe l) (room : log_len l + length (v ∷ vs) ≤ u64_max)
    (numbers : HasNumbers (needed l k (length (v ∷ vs)) (length (t ∷ ts))) l.engine.machine) (may : AllByRecursion (CanCatchUp l (needed l k (length (v ∷ vs)) (length (t ∷ ts)))) (t ∷ ts)) where
  abbrev config : EngineConfig ℕ
  config = l.engine.config

  abbrev count : ℕ
  count = length (v ∷ vs)

  abbrev rest : ℕ
  rest = k + length (t ∷ ts) * (4 * (log_len l + length (v ∷ vs)) + 2)

  abbrev past1 : List Event
  past1 = past ++ propose n (v ∷ vs) now ∷ []

  made : ProposedAfter given past now n (k + length (t ∷ ts) * (4 * (log_len l + length (v ∷ vs)) + 2)) l v vs past1
  made = worlds_propose given wf past now n (k + length (t ∷ ts) * (4 * (log_len l + length (v ∷ vs)) + 2)) l v vs keeps numbers room

  plain_values : AllByRecursion (λ (x : Entry). entry_meaning.membership_of x ≡ None) (value_entry v ∷ map value_entry vs)
  plain_values = plain (v ∷ vs)

  abbrev new_id : LogId ℕ
  new_id = id_past (length vs) (led l)

  id_is : ◌≡◌ {A = Option (LogId ℕ)} (Some (id_past (length (map value_entry vs)) (led l))) (Some (id_past (length vs) (led l)))
  id_is = ap (λ i. let o : Option (LogId ℕ) = Some (id_past i (led l)) in o) (same_length vs)

  end1 : last made.leads.engine.machine.core.state.ids ≡ Some (id_past (length vs) (led l))
  end1 = ends nat_cmp nat_cmp_total nat_same entry_meaning takes config keeps.payload (value_entry v) (map value_entry vs) (led l) (sound_led given wf past now n l) plain_values (led made.leads) made.proposes ∙ id_is

  len1 : log_len made.leads ≡ log_len l + length (v ∷ vs)
  len1 = ap next end1 ∙ plus (next (last l.engine.machine.core.state.ids)) (length vs)
    where
      plus : (a b : ℕ) → (a + b) + 1 ≡ a + suc b
      plus a b = omega arith

  vote1 : made.leads.leader.vote ≡ l.leader.vote
  vote1 = (knows given wf past1 now n made.leads).vote ∙ (vote_stays nat_cmp nat_cmp_total nat_same entry_meaning takes config keeps.payload (value_entry v) (map value_entry vs) (led l) (sound_led given wf past now n l) plain_values (led made.leads) made.proposes ∙ sym (knows given wf past now n l).vote)

  purge1 : made.leads.engine.machine.core.state.purge_to ≡ l.engine.machine.core.state.purge_to
  purge1 = purge_stays nat_cmp nat_cmp_total nat_same entry_meaning takes config keeps.payload (value_entry v) (map value_entry vs) (led l) (sound_led given wf past now n l) plain_values (led made.leads) made.proposes

  serves1 : CanServe made.leads
  serves1 = record {
    payload = subst (λ (c : EngineConfig ℕ). 1 ≤ c.max_payload_entries) (sym made.config) keeps.payload;
    unpurged =
        let p : next made.leads.engine.machine.core.state.purge_to ≡ next l.engine.machine.core.state.purge_to = ap next purge1 in
        let e : next (last made.leads.engine.machine.core.state.ids) ≡ next (last l.engine.machine.core.state.ids) + length (v ∷ vs) = len1 in
        let h : next l.engine.machine.core.state.purge_to < next (last l.engine.machine.core.state.ids) = keeps.unpurged in
        omega (arith, p, e, h);
  }

  -- the voters may be brought up to date
  each_may : (us : List ℕ) → AllByRecursion (λ u. u ≢ n) us → AllByRecursion (CanCatchUp l (needed l k (length (v ∷ vs)) (length (t ∷ ts)))) us
      → AllByRecursion (MayCatchUp made.leads (k + length (t ∷ ts) * (4 * (log_len l + length (v ∷ vs)) + 2))) us
  each_may [] d m = tt
  each_may (u ∷ us) d m = (one, each_may us d.1 m.1)
    where
      f : MayTake (world_after given past) now l.leader.vote (needed l k (length (v ∷ vs)) (length (t ∷ ts))) u
      f = m.0.takes

      b : (b : IsBehind made.leads u) × (b.asked.entry.searching_end ≡ m.0.row.searching_end)
      b = made.sends u m.0.row d.0 m.0.has

      one : MayCatchUp made.leads (k + length (t ∷ ts) * (4 * (log_len l + length (v ∷ vs)) + 2)) u
      one = record {
        asked = b.0.asked;
        behind = b.0.behind;
        takes = record {
          node = m.0.takes.node;
          at = made.others u m.0.takes.node d.0 m.0.takes.at;
          moment = m.0.takes.moment;
          engine = m.0.takes.engine;
          runs = m.0.takes.runs;
          unspent = m.0.takes.unspent;
          numbers = less_numbers (k + length (t ∷ ts) * (4 * (log_len l + length (v ∷ vs)) + 2)) 2 m.0.takes.engine.machine m.0.takes.numbers;
          low = subst (λ (w : Vote ℕ). rejects_vote nat_cmp m.0.takes.engine.machine.core.state w ≡ false) (sym vote1) m.0.takes.low;
        };
        searched = subst (λ (o : Option (LogId ℕ)). next o ≤ b.0.asked.entry.searching_end) (sym purge1) (subst (λ i. next l.engine.machine.core.state.purge_to ≤ i) (sym b.1) m.0.searched);
        reaches = subst (λ (o : Option (LogId ℕ)). next o ≤ next m.0.takes.engine.machine.core.state.committed) (sym purge1) m.0.reaches;
      }

  matched : (more : List Event) × (length more ≤ length (t ∷ ts) * (4 * log_len made.leads + 1)) × AllMatchAfter given past1 now n k made.leads (t ∷ ts) (past1 ++ more)
  matched =
      worlds_all_match given wf (t ∷ ts) past1 now n k made.leads once serves1 (subst (λ len. HasNumbers (k + length (t ∷ ts) * (4 * len + 2)) made.leads.engine.machine) (sym len1) made.numbers)
      (subst (λ len. AllByRecursion (MayCatchUp made.leads (k + length (t ∷ ts) * (4 * len + 2))) (t ∷ ts)) (sym len1) (each_may (t ∷ ts) once.0 may))

  own_id : config.id ≡ n
  own_id = (follows given wf past now n l).id ∙ at_id (world_after given past).nodes n l.node l.at

  committed : matched.2.leads.engine.machine.core.state.committed ≡ Some (id_past (length vs) (led l))
  committed =
      proposal_commits nat_cmp nat_cmp_total nat_same entry_meaning takes config keeps.payload (value_entry v) (map value_entry vs) (led l) (sound_led given wf past now n l) plain_values (led made.leads) made.proposes t ts
      (subst (λ i. EachOnce (i ∷ t ∷ ts)) (sym own_id) once) (subst (λ i. AllByRecursion (IsVoter (led l)) (i ∷ t ∷ ts)) (sym own_id) voters) (subst (λ i. is_quorum nat_cmp l.leader.progress.set (i ∷ t ∷ ts) ≡ true) (sym own_id) quorum) (led matched.2.leads)
      (subst (λ (c : EngineConfig ℕ). ReplicatedTo nat_cmp c (t ∷ ts) (led made.leads) (led matched.2.leads)) made.config matched.2.replicated)
      ∙ id_is

  pub commits : (more : List Event) × (length more ≤ 1 + length (t ∷ ts) * (4 * (log_len l + length (v ∷ vs)) + 1)) × CommitsAfter given past now n k l v vs (t ∷ ts) (past ++ more)
  commits = (
    propose n (v ∷ vs) now ∷ matched.0,
    counted (length matched.0) (length (t ∷ ts) * (4 * log_len made.leads + 1)) (length (t ∷ ts) * (4 * (log_len l + length (v ∷ vs)) + 1)) matched.1 (ap (λ len. length (t ∷ ts) * (4 * len + 1)) len1),
    subst (CommitsAfter given past now n k l v vs (t ∷ ts)) (append_append past (propose n (v ∷ vs) now ∷ []) matched.0) all,
  )
    where
      counted : (a b c : ℕ) → a ≤ b → b ≡ c → suc a ≤ 1 + c
      counted a b c h e = omega (arith, h, e)

      m : AllMatchAfter given past1 now n k made.leads (t ∷ ts) (past1 ++ matched.0)
      m = matched.2

      vote2 : m.leads.leader.vote ≡ made.leads.leader.vote
      vote2 = (knows given wf (past1 ++ matched.0) now n m.leads).vote ∙ (m.vote ∙ sym (knows given wf past1 now n made.leads).vote)

      behind_on : (u : ℕ) → IsBehind made.leads u → AllByRecursion (λ t. u ≢ t) (t ∷ ts) → IsBehind m.leads u
      behind_on u b f = record { asked = record { entry = b.asked.entry; has = m.rows u f ∙ b.asked.has; busy = b.asked.busy }; behind = λ q. b.behind (q ∙ m.end) }

      all : CommitsAfter given past now n k l v vs (t ∷ ts) (past1 ++ matched.0)
      all = record {
        planned = planned_then given past (propose n (v ∷ vs) now ∷ []) (bring_all given now n (t ∷ ts)) past1 (past1 ++ matched.0) refl m.planned;
        leads = m.leads;
        config = m.config ∙ made.config;
        numbers = m.numbers;
        on = on_then l made.leads m.leads vote1 made.on m.on;
        vote = vote2 ∙ vote1;
        serves = record {
          payload = subst (λ (c : EngineConfig ℕ). 1 ≤ c.max_payload_entries) (sym m.config) serves1.payload;
          unpurged = subst (λ (o : Option (LogId ℕ)). next o < next (last m.leads.engine.machine.core.state.ids)) (sym m.purge_to)
              (subst (λ (o : Option (LogId ℕ)). next made.leads.engine.machine.core.state.purge_to < next o) (sym m.end) serves1.unpurged);
        };
        stored = holds_left (log_len l) (v ∷ vs) m.left made.stored;
        purge_to = m.purge_to ∙ purge1;
        end = m.end ∙ end1;
        behind = λ u e d f h. (behind_on u (made.sends u e d h).0 f, (made.sends u e d h).1);
        committed = committed;
        caught = subst (λ (w : Vote ℕ). AllByRecursion (HasCaughtUp (world_after given (past1 ++ matched.0)) now w (Some (id_past (length vs) (led l))) k) (t ∷ ts)) vote1
            (subst (λ (o : Option (LogId ℕ)). AllByRecursion (HasCaughtUp (world_after given (past1 ++ matched.0)) now made.leads.leader.vote o k) (t ∷ ts)) end1 m.caught);
        others = λ i I d e a. m.others i I d e (made.others i I d a);
      }

pub worlds_commit : WorldsCommit
worlds_commit given wf past now n k l v vs t ts once voters quorum keeps room numbers may = commits given wf past now n k l v vs t ts once voters quorum keeps room numbers may
