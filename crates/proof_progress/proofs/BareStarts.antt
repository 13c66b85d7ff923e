-- A bare start, as a server makes it: a node follows, or stands for election if it led by its stored vote; it never leads at once.
use Rattle.std.proofs.Common.{Option, ℕ, ◌+◌, ◌≤◌, ◌<◌, ◌≡◌, ◌≢◌, inl, inr, Bool, true, false, ◌&&◌, List, [], ◌∷◌, arith, refl, sym, ap, ◌∙◌, subst, None, Some}
use Rattle.std.specs.Prelude.{◌==◌, ◌||◌, if◌then◌else◌, map, max, slice_set}
use Rattle.std.specs.List.{list_any}
use Rattle.std.specs.Ordering.{bool_cmp, is_eq, nat_cmp}
use Rattle.std.proofs.lemmas.Bool.Decides.{nat_tests}
use Rattle.proof_deeds.specs.raft_state.declared.ids.LogId.{LogId}
use Rattle.proof_deeds.specs.raft_state.declared.ids.Vote.{Vote}
use Rattle.proof_deeds.specs.raft_state.declared.membership.Members.{Members}
use Rattle.proof_deeds.specs.raft_state.declared.membership.StoredMembership.{StoredMembership}
use Rattle.proof_deeds.specs.raft_state.declared.state.RaftState.{RaftState}
use Rattle.proof_deeds.specs.raft_state.declared.state.ServerState.TheVariants.{Leader}
use Rattle.proof_deeds.specs.raft_state.Log.{last}
use Rattle.proof_deeds.specs.raft_state.Members.{contains, is_voter, voter_ids}
use Rattle.proof_deeds.specs.raft_state.Order.{next}
use Rattle.proof_deeds.specs.raft_state.State.{is_leader, is_leading}
use Rattle.proof_deeds.proofs.raft_state_proofs.Orders.{and_both}
use Rattle.proof_deeds.specs.raft_progress.Quorum.{is_quorum}
use Rattle.proof_deeds.specs.raft_progress.Table.{granted, table_of, updated}
use Rattle.proof_deeds.specs.raft_command.declared.config.EngineConfig.{EngineConfig}
use Rattle.proof_deeds.specs.raft_proposer.Joint.{u64_max}
use Rattle.proof_deeds.specs.raft_steps.Requests.{is_leased, is_within_lease}
use Rattle.proof_deeds.specs.raft_store.declared.entry.Entry.{Entry}
use Rattle.proof_deeds.specs.raft_store.Entries.{entry_meaning}
use Rattle.proof_deeds.specs.raft_store.Restart.{forgotten, is_outrun, rebuilt, restarted, settled_by, start_committed, started}
use Rattle.proof_deeds.specs.raft_store.Types.{EngineView, WorldStore}
use Rattle.proof_deeds.specs.raft_schedule.declared.event.Event.{Event}
use Rattle.proof_deeds.specs.raft_schedule.declared.event.EventKind.TheVariants as kinds
use Rattle.proof_deeds.specs.raft_schedule.declared.event.Outcome.{Outcome}
use Rattle.proof_deeds.specs.raft_schedule.declared.event.Outcome.TheVariants.{Done, Skipped}
use Rattle.proof_deeds.specs.raft_schedule.declared.event.SkipReason.{SkipReason}
use Rattle.proof_deeds.specs.raft_schedule.declared.event.Start.TheVariants.{Bare}
use Rattle.proof_deeds.specs.raft_node.declared.act.Act.TheVariants.{Restart}
use Rattle.proof_deeds.specs.raft_node.declared.given.Given.{Given}
use Rattle.proof_deeds.specs.raft_node.declared.node.Turn.{Turn}
use Rattle.proof_deeds.specs.raft_calls.declared.message.Body.TheVariants as body
use Rattle.proof_deeds.specs.raft_calls.Elections.{elected}
use Rattle.proof_deeds.specs.raft_calls.Starts.{begun_anew, resumed}
use Rattle.proof_deeds.specs.raft_node.Events.{Scene, aim_of, called_at, calls, finish, happens, moment_of, outcome_of, played, scene, scene_of, skip_reason, with_answer}
use Rattle.proof_deeds.specs.raft_node.Execute.{effects, others, sending, to_each}
use Rattle.proof_deeds.specs.raft_node.Net.{Net, NodeView, Records, no_streams}
use Rattle.proof_deeds.specs.raft_node.Runs.{whole_logs}
use Rattle.proof_deeds.specs.raft_node.Starts.{engine_on, started_with, unsaved}
use Rattle.proof_deeds.specs.raft_node.Work.{Work, weight, worked}
use Rattle.proof_deeds.proofs.raft_node_proofs.Worked.{worked-idle}
use Rattle.proof_progress.specs.Continuations.{At, restart_bare}
use Rattle.proof_progress.specs.Elections.{Listed}
use Rattle.proof_progress.specs.Plans.{start_bare}
use Rattle.proof_progress.proofs.Afresh.{LeadsSince}
use Rattle.proof_progress.proofs.Alone.{AloneWorks, alone_works}
use Rattle.proof_progress.proofs.Campaigns.{at_id}
use Rattle.proof_progress.proofs.CanElect.{listed_row}
use Rattle.proof_progress.proofs.Conditions.{EngineStands, is_enough}
use Rattle.proof_progress.proofs.Elects.{elected_is, if_false, if_true}
use Rattle.proof_progress.proofs.Images.{asking, standing, started_engine, stood, stood_request, stood_vote}
use Rattle.proof_progress.proofs.LeaderStarts.{starts_under as kept_vote}
use Rattle.proof_progress.proofs.Places.{Changed, changes, happens_is, placed, spot, stands_at}
use Rattle.proof_progress.proofs.Plays.{latest}
use Rattle.proof_progress.proofs.Restarts.{starting, starts_unled}
use Rattle.proof_progress.proofs.Tables.{row_in}
use Rattle.proof_progress.proofs.Voters.{to_filter}
use Rattle.proof_progress.proofs.Works.{Effected, at_work, stand_works, voted}

-- a member is among the nodes
pub member_listed : (nodes : List (ℕ × Unit {0})) (t : ℕ) → list_any (λ entry. is_eq (nat_cmp t entry.0)) nodes ≡ true → Listed (map (λ entry. entry.0) nodes) t
member_listed [] t h = cc
member_listed (x ∷ xs) t h = go (is_eq (nat_cmp t x.0)) refl h (member_listed xs t)
  where
    named : (a b : ℕ) → is_eq (nat_cmp a b) ≡ true → b ≡ a
    named a b q = grind (arith, nat_tests)

    go : (b : Bool) → is_eq (nat_cmp t x.0) ≡ b → (b || list_any (λ entry. is_eq (nat_cmp t entry.0)) xs) ≡ true → (list_any (λ entry. is_eq (nat_cmp t entry.0)) xs ≡ true → Listed (map (λ entry. entry.0) xs) t) → Listed (map (λ entry. entry.0) (x ∷ xs)) t
    go true q k f = inl (named t x.0 q)
    go false q k f = inr (f k)

-- a member that votes is one of the voters
pub voter_listed : (m : Members ℕ (Unit {0})) (t : ℕ) → contains nat_cmp m t ≡ true → is_voter nat_cmp m t ≡ true → Listed (voter_ids nat_cmp m) t
voter_listed m t h k = to_filter (is_voter nat_cmp m) (map (λ entry. entry.0) m.nodes) t (member_listed m.nodes t h) k

-- whether a node is a quorum alone depends on its membership
pub enough_same : (now : ℕ) (e g : EngineView) → g.machine.core.state.em ≡ e.machine.core.state.em → g.config ≡ e.config → is_enough now g ≡ is_enough now e
enough_same now e g m c =
    ap (λ (x : StoredMembership ℕ (Unit {0})). of x.membership g.config.id) m ∙ ap (λ (x : EngineConfig ℕ). of e.machine.core.state.em.membership x.id) c
  where
    of : Members ℕ (Unit {0}) → ℕ → Bool
    of x id = granted (is_quorum nat_cmp) bool_cmp (λ (b : Bool). b) (updated nat_cmp (table_of (λ (b : Bool). b) x.groups (voter_ids nat_cmp x) [] false) id true)

-- an engine after a bare start from another, which has nothing queued: it doesn't lead, has no lease and has drawn no numbers
pub record StartsBare (raw e : EngineView) : Type 0 where
  pub settings : e.config ≡ raw.config
  pub ids : e.machine.core.state.ids ≡ raw.machine.core.state.ids
  pub em : e.machine.core.state.em ≡ raw.machine.core.state.em
  pub purge_to : e.machine.core.state.purge_to ≡ raw.machine.core.state.purge_to
  pub committed : e.machine.core.state.committed ≡ raw.machine.core.state.committed
  pub term : e.machine.core.state.vote.leader_id.term ≤ raw.machine.core.state.vote.leader_id.term + 1
  pub seq : e.machine.core.output.seq ≡ 0
  pub unspent : e.machine.core.output.spent ≡ false
  pub rest : e.machine.core.output.items ≡ []
  pub unled : e.machine.leader ≡ None
  pub role : e.machine.core.state.role ≢ Leader
  pub unleased : (now : ℕ) → is_leased e.config e.machine.core.state now ≡ false

no_lease : (config : EngineConfig ℕ) (s : RaftState ℕ (Unit {0})) (now : ℕ) → s.time ≡ None → is_leased config s now ≡ false
no_lease config s now h = ap (λ o. s.vote.committed && is_within_lease o config.timer_config.leader_lease now) h ∙ and_off s.vote.committed
  where
    and_off : (b : Bool) → (b && false) ≡ false
    and_off true = refl
    and_off false = refl

-- a start without the saved committed id doesn't read it
pub forgets : (t : WorldStore) → started nat_cmp entry_meaning false (forgotten t) ≡ started nat_cmp entry_meaning false t
forgets t = by t.meta.last_log_id
  where
    state_of : WorldStore → RaftState ℕ (Unit {0})
    state_of u = rebuilt nat_cmp entry_meaning u (start_committed nat_cmp entry_meaning false u)

    of : (b : Bool) (x : LogId ℕ) → state_of (if b then record (forgotten t) { log = []; front = Some x } else forgotten t) ≡ state_of (if b then record t { log = []; front = Some x } else t)
    of true x = refl
    of false x = refl

    by : (o : Option (LogId ℕ)) → state_of (settled_by nat_cmp entry_meaning (forgotten t) o) ≡ state_of (settled_by nat_cmp entry_meaning t o)
    by None = refl
    by (Some x) = of (is_outrun nat_cmp entry_meaning t x) x

-- a node after a bare start
pub record BareStarted (net new : Net (List Entry)) (now n : ℕ) (raw : EngineView) : Type 0 where
  pub node : NodeView
  pub records : Records (List Entry)
  pub changed : Changed net new n node records
  pub moment : node.moment ≡ now
  pub engine : EngineView
  pub runs : node.engine ≡ Some engine
  pub starts : StartsBare raw engine

-- without a moment of its own it happens at the node's last
module _ (given : Given) (n : ℕ) (N : NodeView) where
  plays_at_last : (rs : Records (List Entry))
      → ◌≡◌ {A = Outcome × Scene (List Entry)} (played whole_logs weight given (Restart Bare) (start_bare n) (record { node = N; records = rs }))
      (played whole_logs weight given (Restart Bare) (restart_bare n N.moment) (record { node = N; records = rs }))
  unfolding played
  plays_at_last rs = ap plays_at (only N.moment)
    where
      only : (a : ℕ) → max 0 a ≡ max a a
      only a = grind (arith, nat_tests)

      plays_at : ℕ → Outcome × Scene (List Entry)
      plays_at k =
          let r : Option ℕ × Scene (List Entry) = calls given (Restart Bare) (called_at k (record { node = N; records = rs })) in
          elim (skip_reason (Restart Bare) N) as (λ _. Outcome × Scene (List Entry)) [
            | Some reason ↦ (Skipped reason, record { node = N; records = rs })
            | None ↦ finish whole_logs weight (record { id = N.id; moment = k; request = None }) None r.0 r.1
          ]

  pub starts_at_last : (net : Net (List Entry)) → At net.nodes n N
      → happens whole_logs weight given (start_bare n) net ≡ happens whole_logs weight given (restart_bare n N.moment) net
  starts_at_last net at = is (start_bare n) refl ∙ (ap put (plays_at_last net.records) ∙ sym (is (restart_bare n N.moment) refl))
    where
      place : ℕ
      place = spot net.nodes n

      put : Outcome × Scene (List Entry) → Outcome × Net (List Entry)
      put r = (r.0, record { nodes = slice_set net.nodes place r.1.node; records = r.1.records })

      is : (e : Event) → e.kind ≡ kinds.Restart n Bare
          → happens whole_logs weight given e net ≡ put (played whole_logs weight given (Restart Bare) e (record { node = N; records = net.records }))
      is e kind = happens_is given net e n (Restart Bare) N place (ap (aim_of net.records.bag) kind) (placed net.nodes n N at) (stands_at net.nodes n N at)

module _ (given : Given) (now : ℕ) (N : NodeView) where
  -- the node without its saved committed id
  abbrev U : NodeView
  U = unsaved N

  abbrev raw : EngineView
  raw = engine_on given.settings false (unsaved N)

  abbrev turn : Turn
  turn = record { id = N.id; moment = now; request = None }

  abbrev taken_up : Records (List Entry) → Effected
  taken_up rs = effects (restarted nat_cmp entry_meaning false (forgotten N.store)) no_streams None (with_answer None rs)

  abbrev called : EngineView → NodeView
  called e = record (unsaved N) { moment = now; store = restarted nat_cmp entry_meaning false (forgotten N.store); engine = Some e; streams = no_streams; noted = None }

  abbrev left : EngineView → Effected → NodeView
  left e E = record (unsaved N) { moment = now; store = E.store; engine = Some e; streams = E.streams; noted = E.noted }

  -- the event, by its call and its work
  module _ (e' e : EngineView) (E : Effected) (rs : Records (List Entry)) (l : N.moment ≤ now) (makes : ◌≡◌ {A = Option ℕ × EngineView} (begun_anew now (engine_on given.settings false (unsaved N))) (None, e'))
      (works : worked whole_logs (weight (at_work e' (taken_up rs))) turn (at_work e' (taken_up rs)) ≡ at_work e E) where
    called_scene : ◌≡◌ {A = Option ℕ × Scene (List Entry)} (calls given (Restart Bare) (called_at now (record { node = N; records = rs }))) (None, record { node = called e'; records = with_answer None rs })
    called_scene =
        ap (λ (r : Option ℕ × EngineView). let p : Option ℕ × NodeView = started_with false (unsaved (record N { moment = now })) r in let z : Option ℕ × Scene (List Entry) = (p.0, scene p.1 (with_answer None rs)) in z) makes

    plays_bare : (n : ℕ) → ◌≡◌ {A = Outcome × Scene (List Entry)} (played whole_logs weight given (Restart Bare) (restart_bare n now) (record { node = N; records = rs })) (Done, record { node = left e E; records = E.records })
    unfolding played finish
    plays_bare n =
        ap (λ (o : Option SkipReason). after o (moment_of (restart_bare n now) N)) (unskipped N.engine)
        ∙ (ap (after None) (latest now N.moment l)
        ∙ (ap (λ (r : Option ℕ × Scene (List Entry)). finish whole_logs weight turn None r.0 r.1) called_scene
        ∙ ap (λ (w : Work (List Entry)). let z : Outcome × Scene (List Entry) = (outcome_of None w.engine, scene_of (called e') w) in z) works))
      where
        after : Option SkipReason → ℕ → Outcome × Scene (List Entry)
        after o k = elim o as (λ _. Outcome × Scene (List Entry)) [
          | Some reason ↦ (Skipped reason, record { node = N; records = rs })
          | None ↦ finish whole_logs weight (record { id = N.id; moment = k; request = None }) None (calls given (Restart Bare) (called_at k (record { node = N; records = rs }))).0 (calls given (Restart Bare) (called_at k (record { node = N; records = rs }))).1
        ]

        unskipped : (o : Option EngineView) → ◌≡◌ {A = Option SkipReason} (elim o [ None ↦ None | Some e ↦ None ]) None
        unskipped None = refl
        unskipped (Some e) = refl

    started_so : (net : Net (List Entry)) (n : ℕ) → net.records ≡ rs → At net.nodes n N → StartsBare raw e
        → BareStarted net (happens whole_logs weight given (restart_bare n now) net).1 now n raw
    started_so net n same at s = record {
      node = left e E;
      records = E.records;
      changed = changes given net (restart_bare n now) n (Restart Bare) N Done (record { node = left e E; records = E.records }) at refl
          (ap (λ (r : Records (List Entry)). played whole_logs weight given (Restart Bare) (restart_bare n now) (let z : Scene (List Entry) = record { node = N; records = r } in z)) same ∙ plays_bare n) (at_id net.nodes n N at);
      moment = refl;
      engine = e;
      runs = refl;
      starts = s;
    }

  module _ (net : Net (List Entry)) (n : ℕ) (at : At net.nodes n N) (l : N.moment ≤ now) (term : N.store.vote.leader_id.term < u64_max) (room : next (last (started nat_cmp entry_meaning false (forgotten N.store)).ids) < u64_max) where
    abbrev state : RaftState ℕ (Unit {0})
    state = started nat_cmp entry_meaning false (forgotten N.store)

    below : (a : ℕ) → a < u64_max → (a == u64_max) ≡ false
    below a l = grind (arith, nat_tests)

    vote_is : state.vote ≡ N.store.vote
    vote_is = kept_vote given.settings false (unsaved N)

    one_more : (a : ℕ) → a ≤ a + 1
    one_more a = omega arith

    -- it doesn't lead by its stored vote
    by_following : is_leader nat_cmp (started nat_cmp entry_meaning false (forgotten N.store)) N.id ≡ false → BareStarted net (happens whole_logs weight given (restart_bare n now) net).1 now n raw
    by_following q =
        let e : EngineView = started_engine given.settings false (unsaved N) in
        started_so e e (taken_up net.records) net.records l
        (if_false (is_leader nat_cmp state N.id) (if is_voter nat_cmp state.em.membership N.id then elected now raw else (None, raw)) (resumed raw) q ∙ starting given false now (unsaved N) q)
        (worked-idle whole_logs turn (at_work e (taken_up net.records)) refl) net n refl at
        (record {
          settings = refl;
          ids = refl;
          em = refl;
          purge_to = refl;
          committed = refl;
          term = one_more state.vote.leader_id.term;
          seq = refl;
          unspent = refl;
          rest = refl;
          unled = refl;
          role = starts_unled given.settings false (unsaved N);
          unleased = λ k. no_lease e.config e.machine.core.state k refl;
        })

    -- it does, but is no voter: it waits
    by_waiting : is_leader nat_cmp (started nat_cmp entry_meaning false (forgotten N.store)) N.id ≡ true → is_voter nat_cmp (started nat_cmp entry_meaning false (forgotten N.store)).em.membership N.id ≡ false
        → BareStarted net (happens whole_logs weight given (restart_bare n now) net).1 now n raw
    by_waiting q v =
        started_so raw raw (taken_up net.records) net.records l
        (if_true (is_leader nat_cmp state N.id) (if is_voter nat_cmp state.em.membership N.id then elected now raw else (None, raw)) (resumed raw) q ∙ if_false (is_voter nat_cmp state.em.membership N.id) (elected now raw) (None, raw) v)
        (worked-idle whole_logs turn (at_work raw (taken_up net.records)) refl) net n refl at
        (record {
          settings = refl;
          ids = refl;
          em = refl;
          purge_to = refl;
          committed = refl;
          term = one_more state.vote.leader_id.term;
          seq = refl;
          unspent = refl;
          rest = refl;
          unled = refl;
          role = λ z. cc;
          unleased = λ k. no_lease raw.config raw.machine.core.state k refl;
        })

    -- it does, and stands: with others it asks for their votes
    by_standing : is_leader nat_cmp (started nat_cmp entry_meaning false (forgotten N.store)) N.id ≡ true → is_voter nat_cmp (started nat_cmp entry_meaning false (forgotten N.store)).em.membership N.id ≡ true → is_enough now raw ≡ false
        → BareStarted net (happens whole_logs weight given (restart_bare n now) net).1 now n raw
    by_standing q v few =
        let E : Effected = sending (to_each N.id (others N.id raw.machine.core.state.em.membership) (body.VoteRequest (stood_request raw))) (voted (stood_vote raw) (taken_up net.records)) in
        let member : contains nat_cmp state.em.membership N.id ≡ true = (and_both (is_eq (nat_cmp state.vote.leader_id.node_id N.id)) (contains nat_cmp state.em.membership N.id) (and_both (is_leading nat_cmp state N.id) state.vote.committed q).0).1 in
        let may : EngineStands raw = record {
          unspent = refl;
          term = subst (λ (v : Vote ℕ). (v.leader_id.term == u64_max) ≡ false) (sym vote_is) (below N.store.vote.leader_id.term term);
          unled = refl;
          rest = refl;
          role = λ z. cc;
          member = member;
        } in
        started_so (stood now raw) (asking now [] raw) E net.records l
        (if_true (is_leader nat_cmp state N.id) (if is_voter nat_cmp state.em.membership N.id then elected now raw else (None, raw)) (resumed raw) q
        ∙ (if_true (is_voter nat_cmp state.em.membership N.id) (elected now raw) (None, raw) v ∙ elected_is now raw may))
        (stand_works now raw
        (record {
          unspent = refl;
          voter = row_in (standing now raw).progress.voters (standing now raw).progress.rows raw.config.id (listed_row (voter_ids nat_cmp raw.machine.core.state.em.membership) [] raw.config.id (voter_listed state.em.membership N.id member v));
          room = below (next (last state.ids)) room;
          few = few;
        }) turn (taken_up net.records) refl) net n refl at
        (record {
          settings = refl;
          ids = refl;
          em = refl;
          purge_to = refl;
          committed = refl;
          term = omega arith;
          seq = refl;
          unspent = refl;
          rest = refl;
          unled = refl;
          role = λ z. cc;
          unleased = λ k. refl;
        })

    -- alone it leads at once
    by_winning : (q : is_leader nat_cmp (started nat_cmp entry_meaning false (forgotten N.store)) N.id ≡ true) → is_voter nat_cmp (started nat_cmp entry_meaning false (forgotten N.store)).em.membership N.id ≡ true → is_enough now raw ≡ true
        → LeadsSince raw (stood_vote raw).leader_id (happens whole_logs weight given (restart_bare n now) net).1 now n
    by_winning q v enough =
        let member : contains nat_cmp state.em.membership N.id ≡ true = (and_both (is_eq (nat_cmp state.vote.leader_id.node_id N.id)) (contains nat_cmp state.em.membership N.id) (and_both (is_leading nat_cmp state N.id) state.vote.committed q).0).1 in
        let may : EngineStands raw = record {
          unspent = refl;
          term = subst (λ (v : Vote ℕ). (v.leader_id.term == u64_max) ≡ false) (sym vote_is) (below N.store.vote.leader_id.term term);
          unled = refl;
          rest = refl;
          role = λ z. cc;
          member = member;
        } in
        let w : AloneWorks now N.id raw may (voter_listed state.em.membership N.id member v) (below (next (last state.ids)) room) enough (taken_up net.records) = alone_works now N.id raw may (voter_listed state.em.membership N.id member v) (below (next (last state.ids)) room) enough (taken_up net.records) in
        let c : Changed net (happens whole_logs weight given (restart_bare n now) net).1 n (left w.engine w.effects) w.effects.records =
        changes given net (restart_bare n now) n (Restart Bare) N Done (record { node = left w.engine w.effects; records = w.effects.records }) at refl
        (plays_bare (stood now raw) w.engine w.effects net.records l
        (if_true (is_leader nat_cmp state N.id) (if is_voter nat_cmp state.em.membership N.id then elected now raw else (None, raw)) (resumed raw) q
        ∙ (if_true (is_voter nat_cmp state.em.membership N.id) (elected now raw) (None, raw) v ∙ elected_is now raw may)) w.is n)
        (at_id net.nodes n N at) in
        w.since (happens whole_logs weight given (restart_bare n now) net).1 n (left w.engine w.effects) c.here refl refl refl c.records

    started_unsaved : (is_leader nat_cmp (started nat_cmp entry_meaning false (forgotten N.store)) N.id ≡ true → is_enough now raw ≡ false) → BareStarted net (happens whole_logs weight given (restart_bare n now) net).1 now n raw
    started_unsaved few = go (is_leader nat_cmp (started nat_cmp entry_meaning false (forgotten N.store)) N.id) (is_voter nat_cmp (started nat_cmp entry_meaning false (forgotten N.store)).em.membership N.id) refl refl
      where
        go : (a b : Bool) → is_leader nat_cmp (started nat_cmp entry_meaning false (forgotten N.store)) N.id ≡ a → is_voter nat_cmp (started nat_cmp entry_meaning false (forgotten N.store)).em.membership N.id ≡ b
            → BareStarted net (happens whole_logs weight given (restart_bare n now) net).1 now n raw
        go false b q v = by_following q
        go true false q v = by_waiting q v
        go true true q v = by_standing q v (few q)

-- In a world: a node that doesn't lead by its stored vote, or isn't a quorum alone, makes a bare start
pub bare_starts : (given : Given) (now : ℕ) (N : NodeView) (net : Net (List Entry)) (n : ℕ) → At net.nodes n N → N.moment ≤ now → N.store.vote.leader_id.term < u64_max → next (last (started nat_cmp entry_meaning false N.store).ids) < u64_max
    → (is_leader nat_cmp (started nat_cmp entry_meaning false N.store) N.id ≡ true → is_enough now (engine_on given.settings false N) ≡ false)
    → BareStarted net (happens whole_logs weight given (restart_bare n now) net).1 now n (engine_on given.settings false N)
bare_starts given now N net n at l term room few =
    subst (λ (s : RaftState ℕ (Unit {0})). BareStarted net (happens whole_logs weight given (restart_bare n now) net).1 now n (let e : EngineView = record (engine_on given.settings false N) { machine = Rattle.proof_deeds.specs.raft_steps.Parts.idle s } in e)) (forgets N.store)
    (started_unsaved given now N net n at l term (subst (λ (s : RaftState ℕ (Unit {0})). next (last s.ids) < u64_max) (sym (forgets N.store)) room)
    (λ q. subst (λ (s : RaftState ℕ (Unit {0})). is_enough now (let e : EngineView = record (engine_on given.settings false N) { machine = Rattle.proof_deeds.specs.raft_steps.Parts.idle s } in e) ≡ false) (sym (forgets N.store))
    (few (subst (λ (s : RaftState ℕ (Unit {0})). is_leader nat_cmp s N.id ≡ true) (forgets N.store) q))))

-- One that leads by its stored vote, is a voter and a quorum alone, leads at once, in a new term
pub bare_leads : (given : Given) (now : ℕ) (N : NodeView) (net : Net (List Entry)) (n : ℕ) → At net.nodes n N → N.moment ≤ now → N.store.vote.leader_id.term < u64_max → next (last (started nat_cmp entry_meaning false N.store).ids) < u64_max
    → is_leader nat_cmp (started nat_cmp entry_meaning false N.store) N.id ≡ true → is_voter nat_cmp (started nat_cmp entry_meaning false N.store).em.membership N.id ≡ true → is_enough now (engine_on given.settings false N) ≡ true
    → LeadsSince (engine_on given.settings false N) (stood_vote (engine_on given.settings false N)).leader_id (happens whole_logs weight given (restart_bare n now) net).1 now n
bare_leads given now N net n at l term room q v enough =
    subst
    (λ (s : RaftState ℕ (Unit {0})). let e : EngineView = record (engine_on given.settings false N) { machine = Rattle.proof_deeds.specs.raft_steps.Parts.idle s } in LeadsSince e (stood_vote e).leader_id (happens whole_logs weight given (restart_bare n now) net).1 now n) (forgets N.store)
    (by_winning given now N net n at l term (subst (λ (s : RaftState ℕ (Unit {0})). next (last s.ids) < u64_max) (sym (forgets N.store)) room)
    (subst (λ (s : RaftState ℕ (Unit {0})). is_leader nat_cmp s N.id ≡ true) (sym (forgets N.store)) q) (subst (λ (s : RaftState ℕ (Unit {0})). is_voter nat_cmp s.em.membership N.id ≡ true) (sym (forgets N.store)) v)
    (subst (λ (s : RaftState ℕ (Unit {0})). is_enough now (let e : EngineView = record (engine_on given.settings false N) { machine = Rattle.proof_deeds.specs.raft_steps.Parts.idle s } in e) ≡ true) (sym (forgets N.store)) enough))
