-- A voter that is a quorum alone goes on alone, by its plan: a start, timeouts that are skipped once it leads, and the proposal.
use Rattle.std.proofs.Common.{ℕ, zero, suc, ◌+◌, ◌-◌, ◌<◌, ◌≤◌, ◌≡◌, Bool, true, false, List, [], ◌∷◌, ◌++◌, length, map, take, arith, refl, sym, ap, ◌∙◌, subst, Option, None, Some}
use Rattle.std.specs.Prelude.{Contains, if◌then◌else◌, is_some, slice_get}
use Rattle.std.specs.List.{AllByRecursion}
use Rattle.std.specs.Ordering.{nat_cmp}
use Rattle.std.proofs.lemmas.List.{append-nil, length-append}
use Rattle.proof_deeds.specs.raft_state.declared.ids.LeaderId.{LeaderId}
use Rattle.proof_deeds.specs.raft_state.declared.ids.LogId.{LogId}
use Rattle.proof_deeds.specs.raft_state.declared.ids.Vote.{Vote}
use Rattle.proof_deeds.specs.raft_state.declared.membership.StoredMembership.{StoredMembership}
use Rattle.proof_deeds.specs.raft_state.Log.{last}
use Rattle.proof_deeds.specs.raft_state.Members.{learner_ids, voter_ids}
use Rattle.proof_deeds.specs.raft_state.Order.{next}
use Rattle.proof_deeds.specs.raft_state.State.{is_leader}
use Rattle.proof_deeds.specs.raft_progress.Quorum.{is_quorum}
use Rattle.proof_deeds.specs.raft_progress_entry.declared.entry.ProgressEntry.{ProgressEntry}
use Rattle.proof_deeds.specs.raft_command.declared.config.EngineConfig.{EngineConfig}
use Rattle.proof_deeds.specs.raft_proposer.Candidate.{grant_by}
use Rattle.proof_deeds.specs.raft_proposer.Joint.{u64_max}
use Rattle.proof_deeds.specs.raft_steps.Invariants.{HoldsNodes}
use Rattle.proof_deeds.proofs.raft_steps_proofs.LawsQueue.{append_append}
use Rattle.proof_deeds.specs.raft_store.declared.entry.Entry.{Entry}
use Rattle.proof_deeds.specs.raft_store.declared.entry.Value.{Value}
use Rattle.proof_deeds.specs.raft_store.Entries.{entry_meaning}
use Rattle.proof_deeds.specs.raft_store.Restart.{started}
use Rattle.proof_deeds.specs.raft_store.Types.{EngineView, WorldLeader}
use Rattle.proof_deeds.specs.raft_schedule.declared.event.Event.{Event}
use Rattle.proof_deeds.specs.raft_schedule.declared.event.Outcome.{Outcome}
use Rattle.proof_deeds.specs.raft_schedule.declared.event.SkipReason.{SkipReason}
use Rattle.proof_deeds.specs.raft_schedule.declared.event.SkipReason.TheVariants.{HasLeader, NotRunning}
use Rattle.proof_deeds.specs.raft_calls.declared.elections.Candidates.TheVariants.{Voters}
use Rattle.proof_deeds.specs.raft_calls.Elections.{skip_candidate, skip_elect}
use Rattle.proof_deeds.specs.raft_node.declared.act.Act.TheVariants.{Elect}
use Rattle.proof_deeds.specs.raft_node.declared.given.Given.{Given}
use Rattle.proof_deeds.specs.raft_node.Events.{happens}
use Rattle.proof_deeds.specs.raft_node.Net.{Net}
use Rattle.proof_deeds.specs.raft_node.Runs.{whole_logs, world_after}
use Rattle.proof_deeds.specs.raft_node.WellFormed.{IsWellFormed}
use Rattle.proof_deeds.specs.raft_node.Work.{weight}
use Rattle.proof_progress.specs.CatchUps.{CanServe, log_len}
use Rattle.proof_progress.specs.Commits.{ExecutesAfter, HasValues}
use Rattle.proof_progress.specs.Continuations.{goes_on, propose, restart_bare, timeout}
use Rattle.proof_progress.specs.Elections.{Listed, log_end, members}
use Rattle.proof_progress.specs.Exchanges.{HasNumbers, LeadsAt, led}
use Rattle.proof_progress.specs.GoesOn.{CanCommitAlone, CanGoOnAlone, HasExecuted, HasGoneOn, first_new, found, last_moment, log_then}
use Rattle.proof_progress.specs.GoneByPlan.{EndsWith}
use Rattle.proof_progress.specs.Plans.{replicate, start_bare, timeouts, times, way_on}
use Rattle.proof_progress.specs.Proposals.{IsVoter, id_past}
use Rattle.proof_progress.proofs.Afresh.{LeadsSince, since_then}
use Rattle.proof_progress.proofs.Alone.{leads_since}
use Rattle.proof_progress.proofs.AloneCommits.{worlds_commit_alone}
use Rattle.proof_progress.proofs.AppliedEnds.{applied_end}
use Rattle.proof_progress.proofs.BareStarts.{BareStarted, bare_leads, bare_starts, enough_same, starts_at_last}
use Rattle.proof_progress.proofs.Campaigns.{at_id}
use Rattle.proof_progress.proofs.CanElect.{goes_after, listed_row}
use Rattle.proof_progress.proofs.Conditions.{NodeStands, is_enough}
use Rattle.proof_progress.proofs.Images.{standing}
use Rattle.proof_progress.proofs.InFlight.{leader_runs}
use Rattle.proof_progress.proofs.LeaderStarts.{starts_under as kept_vote}
use Rattle.proof_progress.proofs.LeadersKnow.{sound_led}
use Rattle.proof_progress.proofs.Numbered.{running_is}
use Rattle.proof_progress.proofs.Numbers.{Left}
use Rattle.proof_progress.proofs.Places.{skips}
use Rattle.proof_progress.proofs.Planned.{none_asked, planned_then, same_behind, timeouts_at}
use Rattle.proof_progress.proofs.Rises.{not_end}
use Rattle.proof_progress.proofs.Starting.{up_to_moment}
use Rattle.proof_progress.proofs.Tables.{granted_if, yes_new}
use Rattle.proof_progress.proofs.Voters.{voter_is_member, voter_votes}
use Rattle.proof_progress.proofs.WaysOn.{contained, first_ids, last_of, purged_within, rows_left}

-- a quorum alone wins with its own vote
enough_alone : (now : ℕ) (e : EngineView) → Listed (voter_ids nat_cmp (members e)) e.config.id → is_quorum nat_cmp (members e).groups (e.config.id ∷ []) ≡ true → is_enough now e ≡ true
enough_alone now e l q =
    granted_if (grant_by nat_cmp (standing now e) e.config.id) e.config.id []
    (yes_new e.config.id (standing now e).progress.voters (standing now e).progress.rows (listed_row (voter_ids nat_cmp (members e)) [] e.config.id l), tt) q

abbrev term_of : EngineView → ℕ
term_of e = e.machine.core.state.vote.leader_id.term

-- a node that leads, at a later moment
at_later : (b : EngineView) (d : LeaderId ℕ) (net : Net (List Entry)) (m now n : ℕ) → m ≤ now → LeadsSince b d net m n → LeadsSince b d net now n
at_later b d net m now n l h = record {
  leads = record {
    node = h.leads.node;
    at = h.leads.at;
    moment = let k : h.leads.node.moment ≤ m = h.leads.moment in omega (arith, k, l);
    engine = h.leads.engine;
    runs = h.leads.runs;
    leader = h.leads.leader;
    leads = h.leads.leads;
    session = h.leads.session;
    in_session = h.leads.in_session;
    streams = h.leads.streams;
    unspent = h.leads.unspent;
  };
  by = h.by;
  log = h.log;
  number = h.number;
  established = h.established;
  settings = h.settings;
  em = h.em;
  purge_to = h.purge_to;
  noop = h.noop;
  at_end = h.at_end;
  ids = h.ids;
  seq = h.seq;
  drawn = h.drawn;
  ends = h.ends;
  targets = h.targets;
}

-- timeouts of a node that leads are skipped
module _ (given : Given) (now n : ℕ) where
  timeout_skipped : (net : Net (List Entry)) → LeadsAt net now n → (happens whole_logs weight given (timeout n now) net).1 ≡ net
  timeout_skipped net l = skips given net (timeout n now) n (Elect Voters) l.node HasLeader l.at refl (skipped l.node.engine l.runs)
    where
      by_leader : (o : Option WorldLeader) (z : Option SkipReason) → o ≡ Some l.leader
          → ◌≡◌ {A = Option SkipReason} (if is_some o then Some HasLeader else z) (Some HasLeader)
      by_leader None z q = cc
      by_leader (Some x) z q = refl

      skipped : (o : Option EngineView) → o ≡ Some l.engine
          → ◌≡◌ {A = Option SkipReason} (elim o [ None ↦ Some NotRunning | Some e ↦ skip_elect Voters e ]) (Some HasLeader)
      skipped None q = cc
      skipped (Some e) q =
          let z : l.engine ≡ e = cc in
          subst (λ (e : EngineView). ◌≡◌ {A = Option SkipReason} (skip_elect Voters e) (Some HasLeader)) z
          (by_leader l.engine.machine.leader (skip_candidate Voters l.engine) l.leads)

  timeouts_skipped : (k : ℕ) (net : Net (List Entry)) → LeadsAt net now n → goes_on given (times k (timeout n now)) net ≡ net
  timeouts_skipped zero net l = refl
  timeouts_skipped (suc k) net l = ap (goes_on given (times k (timeout n now))) (timeout_skipped net l) ∙ timeouts_skipped k net l

-- a node's way on without others
abbrev pub way_alone : Given → Net (List Entry) → ℕ → ℕ → List Value → List Event
way_alone given net n top values = way_on given (last_moment net.nodes) n top [] [] values net

times_length : (k : ℕ) (e : Event) → length (times k e) ≡ k
times_length zero e = refl
times_length (suc k) e = ap (λ n. suc n) (times_length k e)

module _ (given : Given) (wf : IsWellFormed given) (past : List Event) (n : ℕ) (v : Value) (vs : List Value) (c : CanGoOnAlone given (world_after given past) n (length (v ∷ vs))) where
  abbrev net : Net (List Entry)
  net = world_after given past

  abbrev e0 : EngineView
  e0 = found given c.node

  abbrev now : ℕ
  now = last_moment net.nodes

  in_time : c.node.moment ≤ now
  in_time = up_to_moment net.nodes n c.node c.at

  is_n : c.node.id ≡ n
  is_n = at_id net.nodes n c.node c.at

  room : next (log_end e0) < u64_max
  room = let l : log_then e0 (length (v ∷ vs)) ≤ u64_max = c.indexes in omega (arith, l)

  term : c.node.store.vote.leader_id.term < u64_max
  term = let l : c.node.store.vote.leader_id.term + 1 < u64_max = c.terms in omega (arith, l)

  votes : Listed (voter_ids nat_cmp (members e0)) e0.config.id
  votes = subst (Listed (voter_ids nat_cmp (members e0))) (sym is_n) c.votes

  enough : (k : ℕ) → is_enough k e0 ≡ true
  enough k = enough_alone k e0 votes (subst (λ i. is_quorum nat_cmp (members e0).groups (i ∷ []) ≡ true) (sym is_n) c.alone)

  -- it starts at its last moment
  abbrev net1 : Net (List Entry)
  net1 = (happens whole_logs weight given (start_bare n) net).1

  at_last : (happens whole_logs weight given (restart_bare n c.node.moment) net).1 ≡ net1
  at_last = ap (λ (x : Outcome × Net (List Entry)). x.1) (sym (starts_at_last given n c.node net c.at))

  itself : c.node.moment ≤ c.node.moment
  itself = omega arith

  abbrev led_in : ℕ → LeaderId ℕ
  led_in term = record { term = term; node_id = n }

  -- it leads after its timeouts up to a term, of which all but the first are skipped
  record Begins (top : ℕ) : Type 0 where
    more : ℕ
    few : more ≤ top
    timed : timeouts given now n top net1 ≡ times (suc more) (timeout n now)
    in_term : ℕ
    won : LeadsSince e0 (led_in in_term) (goes_on given (timeouts given now n top net1) net1) now n

  few_of : (top term : ℕ) → top - term ≤ top
  few_of top term = omega arith

  by_start : (top : ℕ) → is_leader nat_cmp (started nat_cmp entry_meaning false c.node.store) c.node.id ≡ true → Begins top
  by_start top q = record {
    more = top - term_of led_at.leads.engine;
    few = few_of top (term_of led_at.leads.engine);
    timed = timeouts_at given now n top net1 led_at.leads.engine (leader_runs led_at.leads);
    in_term = term_of e0 + 1;
    won = subst (λ (w : Net (List Entry)). LeadsSince e0 (led_in (term_of e0 + 1)) w now n)
        (sym (ap (λ (es : List Event). goes_on given es net1) (timeouts_at given now n top net1 led_at.leads.engine (leader_runs led_at.leads))
        ∙ timeouts_skipped given now n (suc (top - term_of led_at.leads.engine)) net1 led_at.leads)) led_at;
  }
    where
      led_at : LeadsSince e0 (led_in (term_of e0 + 1)) net1 now n
      led_at =
          at_later e0 (led_in (term_of e0 + 1)) net1 c.node.moment now n in_time
          (subst (λ (w : Net (List Entry)). LeadsSince e0 (led_in (term_of e0 + 1)) w c.node.moment n) at_last
          (subst (λ i. LeadsSince e0 (record { term = term_of e0 + 1; node_id = i }) (happens whole_logs weight given (restart_bare n c.node.moment) net).1 c.node.moment n) is_n
          (bare_leads given c.node.moment c.node net n c.at itself term room q (voter_votes (members e0) e0.config.id votes) (enough c.node.moment))))

  by_timeout : (top : ℕ) → is_leader nat_cmp (started nat_cmp entry_meaning false c.node.store) c.node.id ≡ false → Begins top
  by_timeout top q = record {
    more = top - term_of b.engine;
    few = few_of top (term_of b.engine);
    timed = timeouts_at given now n top net1 b.engine (running_is net1 n b.node b.engine b.changed.here b.runs);
    in_term = term_of b.engine + 1;
    won = subst (λ (w : Net (List Entry)). LeadsSince e0 (led_in (term_of b.engine + 1)) w now n)
        (sym (ap (λ (es : List Event). goes_on given es net1) (timeouts_at given now n top net1 b.engine (running_is net1 n b.node b.engine b.changed.here b.runs))
        ∙ timeouts_skipped given now n (top - term_of b.engine) net2 led_at.leads)) led_at;
  }
    where
      net2 : Net (List Entry)
      net2 = (happens whole_logs weight given (timeout n now) net1).1

      b : BareStarted net net1 c.node.moment n e0
      b =
          subst (λ (w : Net (List Entry)). BareStarted net w c.node.moment n e0) at_last
          (bare_starts given c.node.moment c.node net n c.at itself term room (λ p. let z : true ≡ false = sym p ∙ q in cc))

      own_id : b.engine.config.id ≡ n
      own_id = ap (λ (x : EngineConfig ℕ). x.id) b.starts.settings ∙ is_n

      listed : Listed (voter_ids nat_cmp (members b.engine)) b.engine.config.id
      listed = subst (λ i. Listed (voter_ids nat_cmp (members b.engine)) i) (sym own_id) (subst (λ (m : StoredMembership ℕ (Unit {0})). Listed (voter_ids nat_cmp m.membership) n) (sym b.starts.em) c.votes)

      enough1 : is_enough now b.engine ≡ true
      enough1 = enough_same now e0 b.engine b.starts.em b.starts.settings ∙ enough now

      low : b.engine.machine.core.state.vote.leader_id.term < u64_max
      low =
          let x : b.engine.machine.core.state.vote.leader_id.term ≤ e0.machine.core.state.vote.leader_id.term + 1 = b.starts.term in
          let y : e0.machine.core.state.vote.leader_id.term ≡ c.node.store.vote.leader_id.term = ap (λ (w : Vote ℕ). w.leader_id.term) (kept_vote given.settings false c.node) in
          let z : c.node.store.vote.leader_id.term + 1 < u64_max = c.terms in
          omega (arith, x, y, z)

      stands : NodeStands net1 now n
      stands = record {
        node = b.node;
        at = b.changed.here;
        moment = let m : b.node.moment ≡ c.node.moment = b.moment in let h : c.node.moment ≤ now = in_time in omega (arith, m, h);
        engine = b.engine;
        runs = b.runs;
        own = own_id;
        may = record {
          unspent = b.starts.unspent;
          term = not_end b.engine.machine.core.state.vote.leader_id.term low;
          unled = b.starts.unled;
          rest = b.starts.rest;
          role = b.starts.role;
          member = voter_is_member (members b.engine) b.engine.config.id listed;
        };
        voter = voter_votes (members b.engine) b.engine.config.id listed;
        listed = listed;
        room = not_end (next (last b.engine.machine.core.state.ids)) (subst (λ (xs : List (LogId ℕ)). next (last xs) < u64_max) (sym b.starts.ids) room);
      }

      led_at : LeadsSince e0 (led_in (term_of b.engine + 1)) net2 now n
      led_at =
          since_then e0 b.engine
          (record { settings = b.starts.settings; em = b.starts.em; ids = b.starts.ids; purge_to = b.starts.purge_to; seq = b.starts.seq })
          (led_in (term_of b.engine + 1)) net2 now n
          (subst (λ i. LeadsSince b.engine (record { term = term_of b.engine + 1; node_id = i }) net2 now n) own_id
          (leads_since given net1 now n stands enough1))

  begins : (top : ℕ) → Begins top
  begins top = go (is_leader nat_cmp (started nat_cmp entry_meaning false c.node.store) c.node.id) refl
    where
      go : (b : Bool) → is_leader nat_cmp (started nat_cmp entry_meaning false c.node.store) c.node.id ≡ b → Begins top
      go true q = by_start top q
      go false q = by_timeout top q

  -- By its plan, above a term
  module _ (top : ℕ) where
    abbrev starting : List Event
    starting = start_bare n ∷ timeouts given now n top net1

    abbrev past1 : List Event
    past1 = past ++ starting

    won : LeadsSince e0 (led_in (begins top).in_term) (world_after given past1) now n
    won =
        subst (λ (w : Net (List Entry)). LeadsSince e0 (led_in (begins top).in_term) w now n) (sym (goes_after given past starting))
        (begins top).won

    abbrev l : LeadsAt (world_after given past1) now n
    l = won.leads

    -- and commits
    len_is : log_len won.leads ≡ next (log_end e0) + 1
    len_is = ap (λ (xs : List (LogId ℕ)). next (last xs)) won.ids ∙ (ap next (last_of e0.machine.core.state.ids won.noop) ∙ ap (λ i. i + 1) won.at_end)

    numbers : HasNumbers (0 + 2) l.engine.machine
    numbers = ((let q : l.engine.machine.core.output.seq ≤ e0.machine.core.output.seq + 2 = won.seq in plain l.engine.machine.core.output.seq q), into l.engine.machine.leader l.leads)
      where
        plain : (a : ℕ) → a ≤ 0 + 2 → a + (0 + 2) ≤ u64_max - 8
        plain a q = omega (arith, q)

        into : (o : Option WorldLeader) → o ≡ Some l.leader → Left (u64_max - 8) (0 + 2) (elim o [ None ↦ [] | Some g ↦ g.progress.rows ])
        into None q = cc
        into (Some x) q = let z : l.leader ≡ x = cc in subst (λ (x : WorldLeader). Left (u64_max - 8) (0 + 2) x.progress.rows) z (rows_left (u64_max - 8) (0 + 2) (omega arith) l.leader.progress.rows won.drawn)

    nodes : HoldsNodes nat_cmp l.engine.machine.core.state.em.membership l.leader.progress
    nodes = (sound_led given wf past1 now n l).leader_fits.progress

    voter : IsVoter (led l) n
    voter =
        subst (λ xs. Contains xs n)
        (sym (ap (λ i. map (λ (row : ℕ × ProgressEntry ℕ). row.0) (take i l.leader.progress.rows)) (nodes.voters ∙ ap (λ (m : StoredMembership ℕ (Unit {0})). length (voter_ids nat_cmp m.membership)) won.em)
        ∙ first_ids (voter_ids nat_cmp (members e0)) (learner_ids nat_cmp (members e0)) l.leader.progress.rows
        (nodes.ids ∙ ap (λ (m : StoredMembership ℕ (Unit {0})). voter_ids nat_cmp m.membership ++ learner_ids nat_cmp m.membership) won.em)))
        (contained (voter_ids nat_cmp (members e0)) n c.votes)

    quorum : is_quorum nat_cmp l.leader.progress.set (n ∷ []) ≡ true
    quorum = subst (λ gs. is_quorum nat_cmp gs (n ∷ []) ≡ true) (sym (nodes.set ∙ ap (λ (m : StoredMembership ℕ (Unit {0})). m.membership.groups) won.em)) c.alone

    serves : CanServe l
    serves = record {
      payload = subst (λ (x : EngineConfig ℕ). 1 ≤ x.max_payload_entries) (sym won.settings) c.payload;
      unpurged =
          let a : next l.engine.machine.core.state.purge_to ≡ next e0.machine.core.state.purge_to = ap next won.purge_to in
          let b : next e0.machine.core.state.purge_to ≤ next (log_end e0) = purged_within given wf past n c.node c.at in
          let z : next (last l.engine.machine.core.state.ids) ≡ next (log_end e0) + 1 = len_is in
          omega (arith, a, b, z);
    }

    commits : ExecutesAfter given past1 now n 0 l v vs [] (past1 ++ propose n (v ∷ vs) now ∷ [])
    commits = worlds_commit_alone given wf past1 now n 0 l v vs voter quorum serves (subst (λ i. i + length (v ∷ vs) ≤ u64_max) (sym len_is) c.indexes) numbers

    abbrev way : List Event
    way = way_alone given net n top (v ∷ vs)

    abbrev proposing : List Event → List Event
    proposing es = (start_bare n ∷ es) ++ replicate given now n (v ∷ vs) [] (goes_on given (start_bare n ∷ es) net)

    way_is : way ≡ starting ++ replicate given now n (v ∷ vs) [] (goes_on given starting net)
    way_is =
        ap (λ (es : List Event). proposing (timeouts given now n top net1 ++ es)) (none_asked given now n (goes_on given (timeouts given now n top net1) net1))
        ∙ ap (λ (es : List Event). proposing es) (append-nil (timeouts given now n top net1))

    all_events : past1 ++ propose n (v ∷ vs) now ∷ [] ≡ past ++ way
    all_events =
        planned_then given past starting (replicate given now n (v ∷ vs) []) past1 (past1 ++ propose n (v ∷ vs) now ∷ []) refl commits.planned
        ∙ ap (λ (es : List Event). past ++ es) (sym way_is)

    -- it takes a start, the timeouts and the proposal
    counted : length way ≤ top + 3
    counted =
        let e : length way ≡ length (starting ++ propose n (v ∷ vs) now ∷ []) =
        ap length
        (same_behind past way (starting ++ propose n (v ∷ vs) now ∷ []) (sym all_events ∙ append_append past starting (propose n (v ∷ vs) now ∷ []))) in
        let a : length (starting ++ propose n (v ∷ vs) now ∷ []) ≡ length starting + 1 = length-append starting (propose n (v ∷ vs) now ∷ []) in
        let t : length (timeouts given now n top net1) ≡ suc (begins top).more =
        ap length (begins top).timed ∙ times_length (suc (begins top).more) (timeout n now) in
        let f : (begins top).more ≤ top = (begins top).few in
        few_events (length way) (length (starting ++ propose n (v ∷ vs) now ∷ [])) (length (timeouts given now n top net1)) (begins top).more e a t f
      where
        few_events : (w s t m : ℕ) → w ≡ s → s ≡ suc t + 1 → t ≡ suc m → m ≤ top → w ≤ top + 3
        few_events w s t m e a b f = omega (arith, e, a, b, f)

    pub gone : HasGoneOn given n (first_new e0) (v ∷ vs) [] (past ++ way)
    gone = record {
      id = id_past (length vs) (led l);
      own = ap (λ (w : Vote ℕ). w.leader_id.node_id) won.by;
      new = plain (log_len won.leads) (next (log_end e0)) (length vs) len_is;
      each = subst (λ (es : List Event). AllByRecursion (HasExecuted (world_after given es) (id_past (length vs) (led l)) (first_new e0) (v ∷ vs)) (n ∷ [])) all_events (
        record {
          node = commits.leads.node;
          at = commits.leads.at;
          engine = commits.leads.engine;
          runs = commits.leads.runs;
          applied = let a : length commits.leads.node.store.applied ≡ next (Some (id_past (length vs) (led l))) = commits.applied in omega (arith, a);
          has = subst (λ i. HasValues commits.leads.node.store.applied i (v ∷ vs)) len_is commits.values;
        },
        tt,
      );
    }
      where
        plain : (a b j : ℕ) → a ≡ b + 1 → a + j + 1 ≡ b + 1 + suc j
        plain a b j q = omega (arith, q)

    pub goes : (length way ≤ top + 3) × HasGoneOn given n (first_new e0) (v ∷ vs) [] (past ++ way)
    goes = (counted, gone)

    -- its log ends with the last new entry, which it has applied
    ends : EndsWith (world_after given (past ++ way)) n (id_past (length vs) (led l))
    ends = subst (λ (es : List Event). EndsWith (world_after given es) n (id_past (length vs) (led l))) all_events there
      where
        last_id : LogId ℕ
        last_id = id_past (length vs) (led l)

        applied : (x : Entry) × (slice_get commits.leads.node.store.applied last_id.index ≡ Some x) × (x.log_id ≡ last_id)
        applied =
            applied_end given wf (past1 ++ propose n (v ∷ vs) now ∷ []) n commits.leads.node commits.leads.at commits.leads.engine commits.leads.runs
            last_id commits.committed commits.end

        there : EndsWith (world_after given (past1 ++ propose n (v ∷ vs) now ∷ [])) n last_id
        there = record {
          node = commits.leads.node;
          at = commits.leads.at;
          engine = commits.leads.engine;
          runs = commits.leads.runs;
          end = commits.end;
          entry = applied.0;
          has = applied.1;
          is = applied.2;
        }

-- A quorum alone goes on by its plan, above any term

pub alone_by_plan : (given : Given) (wf : IsWellFormed given) (past : List Event) (n : ℕ) (v : Value) (vs : List Value)
    → (c : CanGoOnAlone given (world_after given past) n (length (v ∷ vs))) (top : ℕ) → (length (way_alone given (world_after given past) n top (v ∷ vs)) ≤ top + 3)
    × HasGoneOn given n (first_new (found given c.node)) (v ∷ vs) [] (past ++ way_alone given (world_after given past) n top (v ∷ vs))
alone_by_plan given wf past n v vs c top = goes given wf past n v vs c top

pub alone_ends : (given : Given) (wf : IsWellFormed given) (past : List Event) (n : ℕ) (v : Value) (vs : List Value)
    → (c : CanGoOnAlone given (world_after given past) n (length (v ∷ vs))) (top : ℕ)
    → EndsWith (world_after given (past ++ way_alone given (world_after given past) n top (v ∷ vs))) n (alone_by_plan given wf past n v vs c top).1.id
unfolding alone_by_plan goes gone
alone_ends given wf past n v vs c top = ends given wf past n v vs c top

pub alone_goes_on : CanCommitAlone
alone_goes_on given wf past n v vs c =
    let g = alone_by_plan given wf past n v vs c 0 in (way_alone given (world_after given past) n 0 (v ∷ vs), g.0, g.1)
