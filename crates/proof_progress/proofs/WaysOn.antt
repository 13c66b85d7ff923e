-- From every reached world the cluster can go on: nodes start, one of them is elected, and commits new entries.
use Rattle.std.proofs.Common.{Greater, ℕ, suc, ◌+◌, ◌*◌, ◌-◌, ◌<◌, ◌≤◌, ◌≡◌, ◌≢◌, ◌⊎◌, inl, inr, Bool, true, false, cond, List, [], ◌∷◌, ◌++◌, length, map, take, arith, refl, sym, ap, ◌∙◌, subst, Option, None, Some}
use Rattle.std.specs.Prelude.{Contains, find, slice_get}
use Rattle.std.specs.List.{AllByRecursion}
use Rattle.std.specs.Option.{option_map}
use Rattle.std.specs.declared.cmp.Ordering.{Ordering}
use Rattle.std.specs.Ordering.{bool_cmp, is_eq, is_lt, nat_cmp, ordering_then}
use Rattle.std.proofs.lemmas.Bool.Decides.{nat_tests}
use Rattle.std.proofs.lemmas.Cmp.{nat_cmp_total}
use Rattle.std.proofs.lemmas.List.{length-append}
use Rattle.std.proofs.lemmas.List.Elements.{All-contains}
use Rattle.proof_deeds.specs.raft_state.declared.ids.LeaderId.{LeaderId}
use Rattle.proof_deeds.specs.raft_state.declared.ids.LogId.{LogId}
use Rattle.proof_deeds.specs.raft_state.declared.ids.Vote.{Vote}
use Rattle.proof_deeds.specs.raft_state.declared.membership.StoredMembership.{StoredMembership}
use Rattle.proof_deeds.specs.raft_state.Invariants.{IsSoundState}
use Rattle.proof_deeds.specs.raft_state.Log.{last}
use Rattle.proof_deeds.specs.raft_state.Members.{learner_ids, voter_ids}
use Rattle.proof_deeds.specs.raft_state.Order.{last_id_cmp, next, vote_cmp}
use Rattle.proof_deeds.proofs.raft_state_proofs.Orders.{within_next}
use Rattle.proof_deeds.specs.raft_progress.Quorum.{is_quorum}
use Rattle.proof_deeds.specs.raft_progress.Table.{is_row_of, row_of}
use Rattle.proof_deeds.specs.raft_progress_entry.declared.entry.ProgressEntry.{ProgressEntry}
use Rattle.proof_deeds.specs.raft_command.declared.config.EngineConfig.{EngineConfig}
use Rattle.proof_deeds.specs.raft_proposer.Joint.{u64_max}
use Rattle.proof_deeds.specs.raft_steps.Invariants.{HoldsNodes}
use Rattle.proof_deeds.specs.raft_steps.VoteHandler.{rejects_vote}
use Rattle.proof_deeds.proofs.raft_steps_proofs.LawsQueue.{append_append}
use Rattle.proof_deeds.specs.raft_store.declared.entry.Entry.{Entry}
use Rattle.proof_deeds.specs.raft_store.declared.entry.Value.{Value}
use Rattle.proof_deeds.specs.raft_store.Types.{EngineView, WorldLeader}
use Rattle.proof_deeds.specs.raft_schedule.declared.event.Event.{Event}
use Rattle.proof_deeds.specs.raft_node.declared.given.Given.{Given}
use Rattle.proof_deeds.specs.raft_node.Events.{happens}
use Rattle.proof_deeds.specs.raft_node.Held.{IsAtRest}
use Rattle.proof_deeds.specs.raft_node.Net.{Net, NodeView}
use Rattle.proof_deeds.specs.raft_node.Runs.{whole_logs, world_after}
use Rattle.proof_deeds.specs.raft_node.WellFormed.{IsWellFormed}
use Rattle.proof_deeds.specs.raft_node.Work.{weight}
use Rattle.proof_deeds.proofs.Proved.{after_resting}
use Rattle.proof_progress.specs.CatchUps.{CanServe, log_len}
use Rattle.proof_progress.specs.Commits.{CanCatchUp, ExecutesAfter, HasCommitted, HasValues, needed}
use Rattle.proof_progress.specs.Continuations.{At, goes_on}
use Rattle.proof_progress.specs.Elections.{Apart, Listed, log_end, members}
use Rattle.proof_progress.specs.Exchanges.{HasNumbers, LeadsAt, MayTake, led}
use Rattle.proof_progress.specs.GoesOn.{CanCommit, CanGoOn, HasExecuted, HasGoneOn, HasTerms, MayServe, MayVote, all_members, first_new, found, greatest_term, last_moment, log_then, most, way_of}
use Rattle.proof_progress.specs.GoneByPlan.{EndsWith}
use Rattle.proof_progress.specs.Plans.{elect, replicate, start_bare, starts}
use Rattle.proof_progress.specs.Proposals.{EachOnce, IsVoter, id_past}
use Rattle.proof_progress.proofs.Afresh.{LeadsSince, Rows}
use Rattle.proof_progress.proofs.AppliedEnds.{applied_end}
use Rattle.proof_progress.proofs.BareStarts.{BareStarted, enough_same}
use Rattle.proof_progress.proofs.Beside.{Beside, BesideAt, Elected, Granted}
use Rattle.proof_progress.proofs.Campaigns.{at_id}
use Rattle.proof_progress.proofs.CanElect.{goes_after}
use Rattle.proof_progress.proofs.Chosen.{at_contains, both_run, each_at}
use Rattle.proof_progress.proofs.Conditions.{NodeGrantsAbove, NodeStands, is_enough}
use Rattle.proof_progress.proofs.Electable.{differs}
use Rattle.proof_progress.proofs.Elects.{itself}
use Rattle.proof_progress.proofs.Executes.{away, left_of, worlds_execute}
use Rattle.proof_progress.proofs.HeldMatches.{row_known}
use Rattle.proof_progress.proofs.Images.{granted_with}
use Rattle.proof_progress.proofs.LeaderStarts.{starts_under as kept_vote}
use Rattle.proof_progress.proofs.LeadersKnow.{sound_led}
use Rattle.proof_progress.proofs.Leading.{get_end}
use Rattle.proof_progress.proofs.Numbers.{Left, unled_left}
use Rattle.proof_progress.proofs.Places.{at_one}
use Rattle.proof_progress.proofs.Planned.{same_behind}
use Rattle.proof_progress.proofs.Rises.{climb, not_end}
use Rattle.proof_progress.proofs.Values.{values_agree}
use Rattle.proof_progress.proofs.Starting.{AllReady, Ready, Waits, all_start, not_enough, starts_at, terms_left, up_to_moment, up_to_term}
use Rattle.proof_progress.proofs.Voters.{quorum_over, voter_is_member, voter_is_other, voter_votes}

-- Lists

apart_once : (n : ℕ) (ts us : List ℕ) → AllByRecursion (λ u. u ≢ n) (ts ++ us) → EachOnce (ts ++ us) → Apart n ts
apart_once n [] us d once = tt
apart_once n (t ∷ ts) us d once = (d.0, left_of (λ u. u ≢ t) ts us once.0, apart_once n ts us d.1 once.1)

pub left_of_both : (xs ys : List ℕ) (t : ℕ) → Listed xs t → Listed (xs ++ ys) t
left_of_both [] ys t h = absurd h
left_of_both (x ∷ xs) ys t (inl q) = inl q
left_of_both (x ∷ xs) ys t (inr q) = inr (left_of_both xs ys t q)

pub contained : (xs : List ℕ) (t : ℕ) → Listed xs t → Contains xs t
contained [] t h = absurd h
contained (x ∷ xs) t (inl q) = (0, omega arith, q)
contained (x ∷ xs) t (inr q) = let c : Contains xs t = contained xs t q in (suc c.0, (let l : c.0 < length xs = c.1 in omega (arith, l)), c.2)

pub last_of : (xs : List (LogId ℕ)) (x : LogId ℕ) → last (xs ++ x ∷ []) ≡ Some x
last_of xs x =
    let l : length (xs ++ x ∷ []) - 1 ≡ length xs = omega (arith, length-append xs (x ∷ [])) in
    ap (slice_get (xs ++ x ∷ [])) l ∙ get_end xs x []

-- Tables

pub first_ids : (V L : List ℕ) (rows : Rows) → map (λ (row : ℕ × ProgressEntry ℕ). row.0) rows ≡ V ++ L → map (λ (row : ℕ × ProgressEntry ℕ). row.0) (take (length V) rows) ≡ V
first_ids [] L rows e = refl
first_ids (x ∷ V) L [] e = cc
first_ids (x ∷ V) L (row ∷ rows) e =
    let p : row.0 ≡ x = cc in
    let q : map (λ (row : ℕ × ProgressEntry ℕ). row.0) rows ≡ V ++ L = cc in
    ap (λ i. i ∷ map (λ (row : ℕ × ProgressEntry ℕ). row.0) (take (length V) rows)) p ∙ ap (λ is. x ∷ is) (first_ids V L rows q)

pub rows_left : (b j : ℕ) → 2 + j ≤ b → (rows : Rows) → Left 2 0 rows → Left b j rows
rows_left b j h [] a = tt
rows_left b j h (row ∷ rows) a = ((let q : row.1.last_inflight_id + 0 ≤ 2 = a.0 in omega (arith, q, h)), rows_left b j h rows a.1)

row_there : (t : ℕ) (rows : Rows) → Listed (map (λ (row : ℕ × ProgressEntry ℕ). row.0) rows) t → (e : ProgressEntry ℕ) × (row_of nat_cmp t rows ≡ Some e)
row_there t [] h = absurd h
row_there t (row ∷ rows) h = go (is_row_of nat_cmp t row) refl h (row_there t rows)
  where
    own : (a b : ℕ) → a ≡ b → is_eq (nat_cmp b a) ≡ true
    own a b e = grind (arith, nat_tests)

    go : (b : Bool) → is_row_of nat_cmp t row ≡ b → Listed (map (λ (r : ℕ × ProgressEntry ℕ). r.0) (row ∷ rows)) t → (Listed (map (λ (r : ℕ × ProgressEntry ℕ). r.0) rows) t → (e : ProgressEntry ℕ) × (row_of nat_cmp t rows ≡ Some e))
        → (e : ProgressEntry ℕ) × (option_map (λ (r : ℕ × ProgressEntry ℕ). r.1) (cond b (Some row) (find (is_row_of nat_cmp t) rows)) ≡ Some e)
    go true q k f = (row.1, refl)
    go false q (inl p) f = let z : true ≡ false = sym (own row.0 t p) ∙ q in cc
    go false q (inr p) f = f p

-- Votes

later_term : (a b : ℕ) → b < a → nat_cmp a b ≡ Greater
later_term a b l = grind (arith, nat_tests)

-- a vote of an earlier term, or the same that isn't committed, is below an established leader's
below_leader : (d : LeaderId ℕ) (v : Vote ℕ) → v.leader_id.term < d.term → is_lt (vote_cmp nat_cmp (record { leader_id = d; committed = true }) v) ≡ false
below_leader d v l =
    ap (λ (o : Ordering). is_lt (ordering_then (ordering_then o (nat_cmp d.node_id v.leader_id.node_id)) (bool_cmp true v.committed))) (later_term d.term v.leader_id.term l)

granted_below : (d : LeaderId ℕ) → is_lt (vote_cmp nat_cmp (record { leader_id = d; committed = true }) (record { leader_id = d; committed = false })) ≡ false
granted_below d = rw (itself d.term, itself d.node_id) refl

-- what was purged of a node's log is within it
pub purged_within : (given : Given) → IsWellFormed given → (past : List Event) (n : ℕ) (N : NodeView) → At (world_after given past).nodes n N → next (found given N).machine.core.state.purge_to ≤ next (log_end (found given N))
purged_within given wf past n N at =
    let r : IsAtRest N = All-contains IsAtRest (world_after given past).nodes N (after_resting given wf past) (at_contains (world_after given past).nodes n N at) in
    let s : IsSoundState nat_cmp (found given N).machine.core.state = r.starts false in
    let x : next (found given N).machine.core.state.purge_to ≤ next (found given N).machine.core.state.snap.last_log_id =
    within_next nat_cmp nat_cmp_total (found given N).machine.core.state.purge_to (found given N).machine.core.state.snap.last_log_id s.marks.at_target in
    let y : next (found given N).machine.core.state.snap.last_log_id ≤ next (found given N).machine.core.state.committed =
    within_next nat_cmp nat_cmp_total (found given N).machine.core.state.snap.last_log_id (found given N).machine.core.state.committed s.marks.at_snapshot in
    let z : next (found given N).machine.core.state.committed ≤ next (log_end (found given N)) = within_next nat_cmp nat_cmp_total (found given N).machine.core.state.committed (log_end (found given N)) s.marks.at_committed in
    omega (arith, x, y, z)

module _ (given : Given) (wf : IsWellFormed given) (past : List Event) (n : ℕ) (v : Value) (vs : List Value) (c : CanGoOn given (world_after given past) n (length (v ∷ vs))) where
  abbrev net : Net (List Entry)
  net = world_after given past

  abbrev e0 : EngineView
  e0 = found given c.node

  abbrev all : List ℕ
  all = c.voter ∷ c.voters ++ c.others

  abbrev now : ℕ
  now = last_moment net.nodes

  moments : (id : ℕ) (N : NodeView) → At net.nodes id N → N.moment ≤ now
  moments id N at = up_to_moment net.nodes id N at

  abbrev top : ℕ
  top = greatest_term net.nodes + 1

  top_room : top < u64_max
  top_room = terms_left given net.nodes c.terms

  is_n : c.node.id ≡ n
  is_n = at_id net.nodes n c.node c.at

  own_terms : HasTerms given c.node
  own_terms = each_at (HasTerms given) net.nodes n c.node c.at c.terms

  few : is_quorum nat_cmp (members e0).groups (c.node.id ∷ []) ≡ false
  few = subst (λ i. is_quorum nat_cmp (members e0).groups (i ∷ []) ≡ false) (sym is_n) c.few

  -- it starts, and the others do
  abbrev net1 : Net (List Entry)
  net1 = (happens whole_logs weight given (start_bare n) net).1

  b0 : BareStarted net net1 c.node.moment n e0
  b0 = starts_at given net now moments c.terms net n c.node c.at c.at (inr few)

  waits : (ts : List ℕ) → AllByRecursion (λ t. t ≢ n) ts → AllByRecursion (MayServe given net e0) ts → AllByRecursion (Waits given net now moments c.terms net1) ts
  waits [] d w = tt
  waits (t ∷ ts) d w = (record { node = w.0.node; was = w.0.at; at = b0.changed.others t w.0.node d.0 w.0.at; others = w.0.others }, waits ts d.1 w.1)

  starting : List Event
  starting = starts all

  started : AllReady given net now moments c.terms net1 (goes_on given starting net1) all starting
  unfolding starting
  started = all_start given net now moments c.terms all net1 c.once.1 (waits all c.once.0 c.serve)

  abbrev net2 : Net (List Entry)
  net2 = goes_on given starting net1

  here : At net2.nodes n b0.node
  here = started.frame n b0.node (away n all c.once.0) b0.changed.here

  abbrev e : EngineView
  e = b0.engine

  own_id : e.config.id ≡ n
  own_id = ap (λ (x : EngineConfig ℕ). x.id) b0.starts.settings ∙ is_n

  term_low : e.machine.core.state.vote.leader_id.term ≤ top
  term_low =
      let a : e.machine.core.state.vote.leader_id.term ≤ e0.machine.core.state.vote.leader_id.term + 1 = b0.starts.term in
      let b : e0.machine.core.state.vote.leader_id.term ≡ c.node.store.vote.leader_id.term = ap (λ (w : Vote ℕ). w.leader_id.term) (kept_vote given.settings false c.node) in
      let d : c.node.store.vote.leader_id.term ≤ greatest_term net.nodes = up_to_term net.nodes n c.node c.at in
      omega (arith, a, b, d)

  listed : Listed (voter_ids nat_cmp (members e)) e.config.id
  listed = subst (λ i. Listed (voter_ids nat_cmp (members e)) i) (sym own_id) (subst (λ (m : StoredMembership ℕ (Unit {0})). Listed (voter_ids nat_cmp m.membership) n) (sym b0.starts.em) c.votes)

  stands : NodeStands net2 now n
  stands = record {
    node = b0.node;
    at = here;
    moment = let m : b0.node.moment ≡ c.node.moment = b0.moment in let l : c.node.moment ≤ now = moments n c.node c.at in omega (arith, m, l);
    engine = e;
    runs = b0.runs;
    own = own_id;
    may = record {
      unspent = b0.starts.unspent;
      term = not_end e.machine.core.state.vote.leader_id.term (let l : top < u64_max = top_room in let k : e.machine.core.state.vote.leader_id.term ≤ top = term_low in omega (arith, l, k));
      unled = b0.starts.unled;
      rest = b0.starts.rest;
      role = b0.starts.role;
      member = voter_is_member (members e) e.config.id listed;
    };
    voter = voter_votes (members e) e.config.id listed;
    listed = listed;
    room = not_end (next (last e.machine.core.state.ids)) (subst (λ (xs : List (LogId ℕ)). next (last xs) < u64_max) (sym b0.starts.ids) own_terms.index);
  }

  few2 : is_enough now e ≡ false
  few2 = enough_same now e0 e b0.starts.em b0.starts.settings ∙ not_enough now e0 few

  -- the voters will grant
  grants : (ts : List ℕ) → AllByRecursion (λ t. t ≢ n) ts → AllByRecursion (MayVote given net e0) ts → AllByRecursion (Ready given net now moments c.terms net2) ts → AllByRecursion (NodeGrantsAbove net2 now n top e) ts
  grants [] d w r = tt
  grants (t ∷ ts) d w r = (one, grants ts d.1 w.1 r.1)
    where
      same : w.0.node ≡ r.0.was
      same = at_one net.nodes t w.0.node r.0.was w.0.at r.0.before

      voter : Listed (voter_ids nat_cmp (members e)) t
      voter = subst (λ (m : StoredMembership ℕ (Unit {0})). Listed (voter_ids nat_cmp m.membership) t) (sym b0.starts.em) w.0.voter

      its_id : r.0.engine.config.id ≡ t
      its_id = ap (λ (x : EngineConfig ℕ). x.id) r.0.starts.settings ∙ at_id net.nodes t r.0.was r.0.before

      low : r.0.engine.machine.core.state.vote.leader_id.term ≤ top
      low =
          let a : r.0.engine.machine.core.state.vote.leader_id.term ≤ (found given r.0.was).machine.core.state.vote.leader_id.term + 1 = r.0.starts.term in
          let b : (found given r.0.was).machine.core.state.vote.leader_id.term ≡ r.0.was.store.vote.leader_id.term = ap (λ (w : Vote ℕ). w.leader_id.term) (kept_vote given.settings false r.0.was) in
          let d : r.0.was.store.vote.leader_id.term ≤ greatest_term net.nodes = up_to_term net.nodes t r.0.was r.0.before in
          omega (arith, a, b, d)

      ahead : is_lt (last_id_cmp nat_cmp (last e.machine.core.state.ids) (last r.0.engine.machine.core.state.ids)) ≡ false
      ahead =
          subst (λ (xs : List (LogId ℕ)). is_lt (last_id_cmp nat_cmp (last xs) (last r.0.engine.machine.core.state.ids)) ≡ false) (sym b0.starts.ids)
          (subst (λ (xs : List (LogId ℕ)). is_lt (last_id_cmp nat_cmp (log_end e0) (last xs)) ≡ false) (sym r.0.starts.ids)
          (subst (λ (N : NodeView). is_lt (last_id_cmp nat_cmp (log_end e0) (log_end (found given N))) ≡ false) same w.0.ahead))

      one : NodeGrantsAbove net2 now n top e t
      one = record {
        other = voter_is_other (members e) t voter n d.0;
        voter = voter;
        node = r.0.node;
        at = r.0.at;
        moment = r.0.moment;
        engine = r.0.engine;
        runs = r.0.runs;
        may = record { unspent = r.0.starts.unspent; low = low; other = differs n r.0.engine.config.id (λ z. d.0 (sym its_id ∙ sym z)); unleased = r.0.starts.unleased now; ahead = ahead; rest = r.0.starts.rest };
      }

  -- so it is elected
  abbrev k : ℕ
  k = top - e.machine.core.state.vote.leader_id.term

  voting : List Event
  voting = elect given now n top (c.voter ∷ c.voters) net2

  elected : Elected given now n (record { term = top + 1; node_id = n }) e (1 + k + 2 * length (c.voter ∷ c.voters)) net2 voting
  unfolding stands voting
  elected =
      climb given now n top top_room k net2 stands few2 (let l : e.machine.core.state.vote.leader_id.term ≤ top = term_low in omega (arith, l)) (c.voter ∷ c.voters)
      (apart_once n (c.voter ∷ c.voters) c.others c.once.0 c.once.1)
      (grants (c.voter ∷ c.voters) (left_of (λ t. t ≢ n) (c.voter ∷ c.voters) c.others c.once.0) c.follow (left_of (Ready given net now moments c.terms net2) (c.voter ∷ c.voters) c.others started.ready))
      (quorum_over (members e).groups n (c.voter ∷ c.voters) (subst (λ (m : StoredMembership ℕ (Unit {0})). is_quorum nat_cmp m.membership.groups (n ∷ c.voter ∷ c.voters) ≡ true) (sym b0.starts.em) c.quorum))

  abbrev past3 : List Event
  past3 = past ++ (start_bare n ∷ (starting ++ voting))

  world_is : world_after given past3 ≡ goes_on given voting net2
  world_is = goes_after given past (start_bare n ∷ (starting ++ voting)) ∙ both_run given starting voting net1

  won : LeadsSince e (record { term = top + 1; node_id = n }) (world_after given past3) now n
  won = subst (λ (w : Net (List Entry)). LeadsSince e (record { term = top + 1; node_id = n }) w now n) (sym world_is) elected.won

  beside : Beside (record { term = top + 1; node_id = n }) now n net2 (world_after given past3)
  beside = subst (λ (w : Net (List Entry)). Beside (record { term = top + 1; node_id = n }) now n net2 w) (sym world_is) elected.beside

  abbrev l : LeadsAt (world_after given past3) now n
  l = won.leads

  -- the length of its log
  len_is : log_len won.leads ≡ next (log_end e0) + 1
  len_is =
      ap (λ (xs : List (LogId ℕ)). next (last xs)) won.ids
      ∙ (ap next (last_of e.machine.core.state.ids won.noop) ∙ (ap (λ i. i + 1) won.at_end ∙ ap (λ (xs : List (LogId ℕ)). next (last xs) + 1) b0.starts.ids))

  abbrev enough : ℕ
  enough = needed won.leads (0 + 2) (length (v ∷ vs)) (length all)

  -- numbers are left
  enough_left : enough + 2 ≤ u64_max - 8
  enough_left =
      let q : length all * (4 * (log_len won.leads + length (v ∷ vs)) + 2) ≡ length all * (4 * log_then e0 (length (v ∷ vs)) + 2) = ap (λ i. length all * (4 * (i + length (v ∷ vs)) + 2)) len_is in
      plain (length all * (4 * (log_len won.leads + length (v ∷ vs)) + 2)) (length all * (4 * log_then e0 (length (v ∷ vs)) + 2)) q c.numbers
    where
      plain : (a b : ℕ) → a ≡ b → b + 8 ≤ u64_max - 8 → ((0 + 2) + a) + 2 + 2 ≤ u64_max - 8
      plain a b q h = omega (arith, q, h)

  leader_numbers : HasNumbers enough l.engine.machine
  leader_numbers = (
    (let q : l.engine.machine.core.output.seq ≤ e.machine.core.output.seq + 2 = won.seq in let z : e.machine.core.output.seq ≡ 0 = b0.starts.seq in let h : enough + 2 ≤ u64_max - 8 = enough_left in plain l.engine.machine.core.output.seq e.machine.core.output.seq enough q z h),
    into l.engine.machine.leader l.leads,
  )
    where
      plain : (a b j : ℕ) → a ≤ b + 2 → b ≡ 0 → j + 2 ≤ u64_max - 8 → a + j ≤ u64_max - 8
      plain a b j q z h = omega (arith, q, z, h)

      turned : (j : ℕ) → j + 2 ≤ u64_max - 8 → 2 + j ≤ u64_max - 8
      turned j h = omega (arith, h)

      into : (o : Option WorldLeader) → o ≡ Some l.leader → Left (u64_max - 8) enough (elim o [ None ↦ [] | Some g ↦ g.progress.rows ])
      into None q = cc
      into (Some x) q = let z : l.leader ≡ x = cc in subst (λ (x : WorldLeader). Left (u64_max - 8) enough x.progress.rows) z (rows_left (u64_max - 8) enough (turned enough enough_left) l.leader.progress.rows won.drawn)

  -- what it knows of the others
  nodes : HoldsNodes nat_cmp l.engine.machine.core.state.em.membership l.leader.progress
  nodes = (sound_led given wf past3 now n l).leader_fits.progress

  same_em : l.engine.machine.core.state.em ≡ e0.machine.core.state.em
  same_em = won.em ∙ b0.starts.em

  row_ids_are : map (λ (row : ℕ × ProgressEntry ℕ). row.0) l.leader.progress.rows ≡ all_members e0
  row_ids_are = nodes.ids ∙ ap (λ (m : StoredMembership ℕ (Unit {0})). voter_ids nat_cmp m.membership ++ learner_ids nat_cmp m.membership) same_em

  voter_row : (t : ℕ) → Listed (voter_ids nat_cmp (members e0)) t → IsVoter (led l) t
  voter_row t h =
      subst (λ xs. Contains xs t)
      (sym (ap (λ i. map (λ (row : ℕ × ProgressEntry ℕ). row.0) (take i l.leader.progress.rows)) (nodes.voters ∙ ap (λ (m : StoredMembership ℕ (Unit {0})). length (voter_ids nat_cmp m.membership)) same_em)
      ∙ first_ids (voter_ids nat_cmp (members e0)) (learner_ids nat_cmp (members e0)) l.leader.progress.rows row_ids_are))
      (contained (voter_ids nat_cmp (members e0)) t h)

  voter_rows_are : (ts : List ℕ) → AllByRecursion (MayVote given net e0) ts → AllByRecursion (IsVoter (led l)) ts
  voter_rows_are [] w = tt
  voter_rows_are (t ∷ ts) w = (voter_row t w.0.voter, voter_rows_are ts w.1)

  same_groups : l.leader.progress.set ≡ (members e0).groups
  same_groups = nodes.set ∙ ap (λ (m : StoredMembership ℕ (Unit {0})). m.membership.groups) same_em

  same_purge : l.engine.machine.core.state.purge_to ≡ e0.machine.core.state.purge_to
  same_purge = won.purge_to ∙ b0.starts.purge_to

  -- not all of its log was purged: the no-op entry is new
  purged_low : next e0.machine.core.state.purge_to ≤ next (log_end e0)
  purged_low = purged_within given wf past n c.node c.at

  serves : CanServe l
  serves = record {
    payload = subst (λ (x : EngineConfig ℕ). 1 ≤ x.max_payload_entries) (sym (won.settings ∙ b0.starts.settings)) c.payload;
    unpurged =
        let a : next l.engine.machine.core.state.purge_to ≡ next e0.machine.core.state.purge_to = ap next same_purge in
        let b : next e0.machine.core.state.purge_to ≤ next (log_end e0) = purged_low in
        let z : next (last l.engine.machine.core.state.ids) ≡ next (log_end e0) + 1 = len_is in
        omega (arith, a, b, z);
  }

  -- a node that has started takes its requests
  one : (o : Option EngineView) (x y : EngineView) → o ≡ Some x → o ≡ Some y → x ≡ y
  one o x y p q = cc

  module _ (t : ℕ) (apart : t ≢ n) (r : Ready given net now moments c.terms net2 t) where
    low : r.engine.machine.core.state.vote.leader_id.term < top + 1
    low =
        let a : r.engine.machine.core.state.vote.leader_id.term ≤ (found given r.was).machine.core.state.vote.leader_id.term + 1 = r.starts.term in
        let b : (found given r.was).machine.core.state.vote.leader_id.term ≡ r.was.store.vote.leader_id.term = ap (λ (w : Vote ℕ). w.leader_id.term) (kept_vote given.settings false r.was) in
        let d : r.was.store.vote.leader_id.term ≤ greatest_term net.nodes = up_to_term net.nodes t r.was r.before in
        omega (arith, a, b, d)

    few_drawn : r.engine.machine.core.output.seq + enough ≤ u64_max - 8
    few_drawn = let z : r.engine.machine.core.output.seq ≡ 0 = r.starts.seq in let h : enough + 2 ≤ u64_max - 8 = enough_left in plain r.engine.machine.core.output.seq enough z h
      where
        plain : (a j : ℕ) → a ≡ 0 → j + 2 ≤ u64_max - 8 → a + j ≤ u64_max - 8
        plain a j z h = omega (arith, z, h)

    record TakesFrom : Type 0 where
      takes : MayTake (world_after given past3) now l.leader.vote enough t
      same : takes.engine.machine.core.state.committed ≡ r.engine.machine.core.state.committed

    takes_from : TakesFrom
    takes_from = go (beside t r.node apart r.at)
      where
        go : BesideAt (record { term = top + 1; node_id = n }) now (world_after given past3) t r.node → TakesFrom
        go x = by x.was
          where
            by : (x.node ≡ r.node) ⊎ Granted (record { term = top + 1; node_id = n }) now r.node x.node → TakesFrom
            by (inl p) = record {
              takes = record {
                node = x.node;
                at = x.at;
                moment = subst (λ (N : NodeView). N.moment ≤ now) (sym p) r.moment;
                engine = r.engine;
                runs = ap (λ (N : NodeView). N.engine) p ∙ r.runs;
                unspent = r.starts.unspent;
                numbers = unled_left enough r.engine.machine r.starts.unled few_drawn;
                low = subst (λ (w : Vote ℕ). rejects_vote nat_cmp r.engine.machine.core.state w ≡ false) (sym won.by) (below_leader (record { term = top + 1; node_id = n }) r.engine.machine.core.state.vote low);
              };
              same = refl;
            }
            by (inr g) =
                let z : g.engine ≡ r.engine = one r.node.engine g.engine r.engine g.ran r.runs in
                record {
                  takes = record {
                    node = x.node;
                    at = x.at;
                    moment = let m : x.node.moment ≡ now = g.moment in omega (arith, m);
                    engine = granted_with (record { term = top + 1; node_id = n }) now [] r.engine;
                    runs = subst (λ (f : EngineView). x.node.engine ≡ Some (granted_with (record { term = top + 1; node_id = n }) now [] f)) z g.runs;
                    unspent = r.starts.unspent;
                    numbers = (few_drawn, tt);
                    low = subst (λ (w : Vote ℕ). rejects_vote nat_cmp (granted_with (record { term = top + 1; node_id = n }) now [] r.engine).machine.core.state w ≡ false) (sym won.by) (granted_below (record { term = top + 1; node_id = n }));
                  };
                  same = refl;
                }

  catches : (ts : List ℕ) → AllByRecursion (λ t. t ≢ n) ts → AllByRecursion (MayServe given net e0) ts → AllByRecursion (Ready given net now moments c.terms net2) ts → AllByRecursion (CanCatchUp l enough) ts
  catches [] d w r = tt
  catches (t ∷ ts) d w r = (caught, catches ts d.1 w.1 r.1)
    where
      row : (f : ProgressEntry ℕ) × (row_of nat_cmp t l.leader.progress.rows ≡ Some f)
      row = row_there t l.leader.progress.rows (subst (λ xs. Listed xs t) (sym row_ids_are) w.0.member)

      from : TakesFrom t d.0 r.0
      from = takes_from t d.0 r.0

      same : w.0.node ≡ r.0.was
      same = at_one net.nodes t w.0.node r.0.was w.0.at r.0.before

      ends : next (last e.machine.core.state.ids) ≤ row.0.searching_end
      ends = row_known (λ (x : ℕ × ProgressEntry ℕ). next (last e.machine.core.state.ids) ≤ x.1.searching_end) t row.0 l.leader.progress.rows won.ends row.1

      caught : CanCatchUp l enough t
      caught = record {
        row = row.0;
        has = row.1;
        searched =
            let a : next l.engine.machine.core.state.purge_to ≡ next e0.machine.core.state.purge_to = ap next same_purge in
            let b : next e0.machine.core.state.purge_to ≤ next (log_end e0) = purged_low in
            let x : next (last e.machine.core.state.ids) ≡ next (log_end e0) = ap (λ (xs : List (LogId ℕ)). next (last xs)) b0.starts.ids in
            let y : next (last e.machine.core.state.ids) ≤ row.0.searching_end = ends in
            omega (arith, a, b, x, y);
        takes = from.takes;
        reaches =
            let a : next l.engine.machine.core.state.purge_to ≡ next e0.machine.core.state.purge_to = ap next same_purge in
            let b : next e0.machine.core.state.purge_to ≤ next (found given r.0.was).machine.core.state.committed = subst (λ (N : NodeView). next e0.machine.core.state.purge_to ≤ next (found given N).machine.core.state.committed) same w.0.reaches in
            let z : next from.takes.engine.machine.core.state.committed ≡ next (found given r.0.was).machine.core.state.committed = ap next (from.same ∙ r.0.starts.committed) in
            omega (arith, a, b, z);
      }

  targets : (ts : List ℕ) → AllByRecursion (λ t. t ≢ n) ts → AllByRecursion (MayServe given net e0) ts → AllByRecursion (Listed l.node.streams.targets) ts
  targets [] d w = tt
  targets (t ∷ ts) d w = (
    won.targets t (λ z. d.0 (z ∙ own_id)) (subst (λ (m : StoredMembership ℕ (Unit {0})). Listed (voter_ids nat_cmp m.membership ++ learner_ids nat_cmp m.membership) t) (sym b0.starts.em) w.0.member),
    targets ts d.1 w.1,
  )

  -- it commits
  commits : (more : List Event) × (length more ≤ 1 + length all * (4 * (log_len won.leads + length (v ∷ vs)) + 2)) × ExecutesAfter given past3 now n 0 l v vs all (past3 ++ more)
  commits =
      worlds_execute given wf past3 now n 0 l v vs c.voter c.voters c.others c.once
      (voter_row n c.votes, voter_rows_are (c.voter ∷ c.voters) c.follow)
      (subst (λ gs. is_quorum nat_cmp gs (n ∷ c.voter ∷ c.voters) ≡ true) (sym same_groups) c.quorum)
      (targets all c.once.0 c.serve) serves (subst (λ i. i + length (v ∷ vs) ≤ u64_max) (sym len_is) c.indexes) leader_numbers (catches all c.once.0 c.serve started.ready)

  abbrev whole : List Event
  whole = (start_bare n ∷ (starting ++ voting)) ++ commits.0

  -- these are the events of its way on
  planned : whole ≡ way_of c (v ∷ vs)
  unfolding starting voting
  planned =
      ap (λ es. (start_bare n ∷ (starting ++ voting)) ++ es)
      (same_behind past3 commits.0 (replicate given now n (v ∷ vs) all (world_after given past3)) commits.2.planned
      ∙ ap (replicate given now n (v ∷ vs) all) (goes_after given past (start_bare n ∷ (starting ++ voting))))

  all_events : past3 ++ commits.0 ≡ past ++ way_of c (v ∷ vs)
  all_events = append_append past (start_bare n ∷ (starting ++ voting)) commits.0 ∙ ap (λ es. past ++ es) planned

  -- the values are those of the leader's log, at the index after its no-op entry
  leader_values : HasValues commits.2.leads.node.store.applied (first_new e0) (v ∷ vs)
  leader_values = subst (λ i. HasValues commits.2.leads.node.store.applied i (v ∷ vs)) len_is commits.2.values

  executed : (ts : List ℕ) → AllByRecursion (HasCommitted (world_after given (past3 ++ commits.0)) now l.leader.vote (Some (id_past (length vs) (led l))) 0) ts
      → AllByRecursion (HasExecuted (world_after given (past3 ++ commits.0)) (id_past (length vs) (led l)) (first_new e0) (v ∷ vs)) ts
  executed [] h = tt
  executed (t ∷ ts) h = (
    record {
      node = h.0.follows.node;
      at = h.0.follows.at;
      engine = h.0.follows.engine;
      runs = h.0.follows.runs;
      applied = let a : next (Some (id_past (length vs) (led l))) ≤ length h.0.follows.node.store.applied = h.0.applied in omega (arith, a);
      has = values_agree given wf (past3 ++ commits.0) n t commits.2.leads.node h.0.follows.node commits.2.leads.at h.0.follows.at
          (let a : next (Some (id_past (length vs) (led l))) ≤ length h.0.follows.node.store.applied = h.0.applied in let b : length commits.2.leads.node.store.applied ≡ next (Some (id_past (length vs) (led l))) = commits.2.applied in omega (arith, a, b))
          (first_new e0) (v ∷ vs) leader_values;
    },
    executed ts h.1,
  )

  gone : HasGoneOn given n (first_new e0) (v ∷ vs) all (past ++ way_of c (v ∷ vs))
  gone = record {
    id = id_past (length vs) (led l);
    own = ap (λ (w : Vote ℕ). w.leader_id.node_id) won.by;
    new = plain (log_len won.leads) (next (log_end e0)) (length vs) len_is;
    each = subst (λ es. AllByRecursion (HasExecuted (world_after given es) (id_past (length vs) (led l)) (first_new e0) (v ∷ vs)) (n ∷ all)) all_events (
      record {
        node = commits.2.leads.node;
        at = commits.2.leads.at;
        engine = commits.2.leads.engine;
        runs = commits.2.leads.runs;
        applied = let a : length commits.2.leads.node.store.applied ≡ next (Some (id_past (length vs) (led l))) = commits.2.applied in omega (arith, a);
        has = leader_values;
      },
      executed all commits.2.each,
    );
  }
    where
      plain : (a b j : ℕ) → a ≡ b + 1 → a + j + 1 ≡ b + 1 + suc j
      plain a b j q = omega (arith, q)

  counted : length whole ≤ most c
  counted =
      let a : length (starting ++ voting) ≡ length starting + length voting = length-append starting voting in
      let b : length ((start_bare n ∷ (starting ++ voting)) ++ commits.0) ≡ length (start_bare n ∷ (starting ++ voting)) + length commits.0 = length-append (start_bare n ∷ (starting ++ voting)) commits.0 in
      let x : length starting ≤ length all = started.count in
      let y : length voting ≤ 1 + k + 2 * length (c.voter ∷ c.voters) = elected.count in
      let z : length commits.0 ≤ 1 + length all * (4 * log_then e0 (length (v ∷ vs)) + 2) = subst (λ i. length commits.0 ≤ 1 + length all * (4 * (i + length (v ∷ vs)) + 2)) len_is commits.1 in
      summed (length whole) (length (starting ++ voting)) (length starting) (length voting) (length commits.0) (length all) (greatest_term net.nodes) e.machine.core.state.vote.leader_id.term (2 * length (c.voter ∷ c.voters)) (length all * (4 * log_then e0 (length (v ∷ vs)) + 2)) b a x y z
    where
      summed : (w se s el co m g te tv mm : ℕ) → w ≡ suc se + co → se ≡ s + el → s ≤ m → el ≤ 1 + ((g + 1) - te) + tv → co ≤ 1 + mm → w ≤ (1 + m) + (g + 2 + tv) + (1 + mm)
      summed w se s el co m g te tv mm b a x y z = omega (arith, b, a, x, y, z)

  pub goes : (length (way_of c (v ∷ vs)) ≤ most c) × HasGoneOn given n (first_new e0) (v ∷ vs) all (past ++ way_of c (v ∷ vs))
  goes = (subst (λ (es : List Event). length es ≤ most c) planned counted, gone)

  -- its log ends with the last new entry, which it has applied
  ends : EndsWith (world_after given (past ++ way_of c (v ∷ vs))) n (id_past (length vs) (led l))
  ends = subst (λ es. EndsWith (world_after given es) n (id_past (length vs) (led l))) all_events there
    where
      applied : (x : Entry) × (slice_get commits.2.leads.node.store.applied (id_past (length vs) (led l)).index ≡ Some x) × (x.log_id ≡ id_past (length vs) (led l))
      applied = applied_end given wf (past3 ++ commits.0) n commits.2.leads.node commits.2.leads.at commits.2.leads.engine commits.2.leads.runs (id_past (length vs) (led l)) commits.2.committed commits.2.end

      there : EndsWith (world_after given (past3 ++ commits.0)) n (id_past (length vs) (led l))
      there = record {
        node = commits.2.leads.node;
        at = commits.2.leads.at;
        engine = commits.2.leads.engine;
        runs = commits.2.leads.runs;
        end = commits.2.end;
        entry = applied.0;
        has = applied.1;
        is = applied.2;
      }

pub cluster_goes_on : CanCommit
cluster_goes_on given wf past n v vs c = goes given wf past n v vs c

pub cluster_ends : (given : Given) (wf : IsWellFormed given) (past : List Event) (n : ℕ) (v : Value) (vs : List Value) (c : CanGoOn given (world_after given past) n (length (v ∷ vs)))
    → EndsWith (world_after given (past ++ way_of c (v ∷ vs))) n (cluster_goes_on given wf past n v vs c).1.id
unfolding cluster_goes_on goes gone
cluster_ends given wf past n v vs c = ends given wf past n v vs c
