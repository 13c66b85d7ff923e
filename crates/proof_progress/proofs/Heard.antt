-- A choice that leads by its stored vote, and was deposed, is elected: it hears of a later vote, follows, and stands again.
use Rattle.std.proofs.Common.{Less, ℕ, ◌+◌, ◌*◌, ◌-◌, ◌<◌, ◌≤◌, ◌≡◌, ◌≢◌, ◌⊎◌, inl, inr, Bool, true, false, List, [], ◌∷◌, ◌++◌, length, arith, refl, sym, ap, ◌∙◌, subst, Option, None, Some}
use Rattle.std.specs.Prelude.{nat_eq}
use Rattle.std.specs.List.{AllByRecursion}
use Rattle.std.specs.Cmp.{tied_itself}
use Rattle.std.specs.Ordering.{bool_cmp, is_eq, is_gt, is_le, is_lt, nat_cmp, ordering_then}
use Rattle.std.proofs.lemmas.Bool.Decides.{nat_tests}
use Rattle.std.proofs.lemmas.Cmp.{nat_cmp_total}
use Rattle.proof_deeds.specs.raft_state.declared.ids.LeaderId.{LeaderId}
use Rattle.proof_deeds.specs.raft_state.declared.ids.LogId.{LogId}
use Rattle.proof_deeds.specs.raft_state.declared.ids.Vote.{Vote}
use Rattle.proof_deeds.specs.raft_state.declared.membership.StoredMembership.{StoredMembership}
use Rattle.proof_deeds.specs.raft_state.Log.{last}
use Rattle.proof_deeds.specs.raft_state.Members.{contains, voter_ids}
use Rattle.proof_deeds.specs.raft_state.Order.{last_id_cmp, leader_id_cmp, next, vote_cmp}
use Rattle.proof_deeds.specs.raft_state.Same.{nat_same}
use Rattle.proof_deeds.proofs.raft_state_proofs.Orders.{and_both, is_equal, is_less, last_total, le_lt, le_of_not_lt, leader_total, lt_le, lt_of_gt}
use Rattle.proof_deeds.specs.raft_progress.Quorum.{is_quorum}
use Rattle.proof_deeds.specs.raft_command.declared.config.EngineConfig.{EngineConfig}
use Rattle.proof_deeds.specs.raft_command.declared.replication.ReplicationSessionId.{ReplicationSessionId}
use Rattle.proof_deeds.specs.raft_proposer.Joint.{u64_max}
use Rattle.proof_deeds.specs.raft_steps.VoteHandler.{rejects_vote}
use Rattle.proof_deeds.specs.raft_store.declared.entry.Entry.{Entry}
use Rattle.proof_deeds.specs.raft_store.Types.{EngineView}
use Rattle.proof_deeds.specs.raft_schedule.declared.event.Event.{Event}
use Rattle.proof_deeds.specs.raft_node.declared.given.Given.{Given}
use Rattle.proof_deeds.specs.raft_calls.declared.message.Message.{Message}
use Rattle.proof_deeds.specs.raft_node.Events.{happens, message_at, with_answer}
use Rattle.proof_deeds.specs.raft_calls.Deliveries.{session_of}
use Rattle.proof_deeds.specs.raft_node.Net.{Net, NodeView, Records}
use Rattle.proof_deeds.specs.raft_node.Runs.{whole_logs, world_after}
use Rattle.proof_deeds.specs.raft_node.Work.{weight}
use Rattle.proof_deeds.specs.raft_node.WellFormed.{IsWellFormed}
use Rattle.proof_deeds.specs.Chains.{IsClaimed}
use Rattle.proof_deeds.specs.Images.{number, setup_of}
use Rattle.proof_deeds.specs.Nets.{NodeFollows}
use Rattle.proof_deeds.proofs.Claims.{claimed_node, votes_claimed}
use Rattle.proof_deeds.proofs.Numbers.{number_below}
use Rattle.proof_deeds.proofs.Promised.{one_of}
use Rattle.proof_deeds.proofs.Nodes.{each_at as each_slot}
use Rattle.proof_deeds.proofs.Proved.{after_resting, followed}
use Rattle.proof_deeds.specs.raft_node.Held.{IsAtRest}
use Rattle.proof_deeds.specs.raft_calls.Held.{IsRestingWhereRunning}
use Rattle.proof_deeds.specs.raft_state.Invariants.{IsSoundState, IsUnder}
use Rattle.std.proofs.lemmas.List.Elements.{All-contains}
use Rattle.std.specs.Prelude.{Contains}
use Rattle.proof_progress.specs.Choices.{AsksFirst, HasRoom, IsChoice, IsElected, MayFollow, MayHear, WorldsElect, engine_at_start, leads_by_store}
use Rattle.proof_progress.specs.Continuations.{At, LeadsIn, deliver, goes_on, restart, timeout}
use Rattle.proof_progress.specs.Elections.{Apart, Listed, asked_id, log_end, members, pending}
use Rattle.proof_progress.specs.Plans.{elect}
use Rattle.proof_progress.proofs.Afresh.{leads_in}
use Rattle.proof_progress.proofs.Alone.{leads_alone}
use Rattle.proof_progress.proofs.Beside.{Elected}
use Rattle.proof_progress.proofs.Campaigns.{at_id}
use Rattle.proof_progress.proofs.CanElect.{goes_after}
use Rattle.proof_progress.proofs.Chosen.{Joins, apart_from, at_contains, below_end, both_run, chosen, each_at, each_latest, enough_is_quorum, id, in_time, moment_in, now, own_latest, own_room, start_all, term_in, top, unleased_if, up_to_greatest, votes_before}
use Rattle.proof_progress.proofs.Conditions.{EngineGrants, NodeStands, is_enough}
use Rattle.proof_progress.proofs.Deposed.{IsQuiet, LeadsSession, WasRejected, follows, is_later, was_rejected}
use Rattle.proof_progress.proofs.DeposedStarts.{Asked, SendsOn, session_at, starts_sending}
use Rattle.proof_progress.proofs.Electable.{differs}
use Rattle.proof_progress.proofs.Elects.{no_and, role_follows}
use Rattle.proof_progress.proofs.Images.{granted_with, started_engine}
use Rattle.proof_progress.proofs.LeaderStarts.{LeadsAtOnce, Starts, leads_at_once, starts, starts_under}
use Rattle.proof_progress.proofs.Places.{Changed, at_one}
use Rattle.proof_progress.proofs.Plays.{node_after, work_begins}
use Rattle.proof_progress.proofs.Restarts.{restarts as restarts_unled, started_node, starting}
use Rattle.proof_progress.proofs.Rises.{climb, not_end}
use Rattle.proof_progress.proofs.StartWorks.{HasStarted, done, has_started, node_left, own_vote, restarts, taken_up, turn}
use Rattle.proof_progress.proofs.Works.{Effected, quit, voted}
use Rattle.proof_progress.proofs.Voters.{quorum_over, voter_is_member, voter_is_other, voter_votes}

-- the term of a later leader id isn't smaller
later_terms : (a b : LeaderId ℕ) → is_gt (leader_id_cmp nat_cmp a b) ≡ true → b.term ≤ a.term
later_terms a b h = grind (arith, nat_tests)

-- a later leader id's vote is greater, so one of the earlier is rejected
earlier_rejected : (a b : Vote ℕ) → is_gt (leader_id_cmp nat_cmp b.leader_id a.leader_id) ≡ true → is_lt (vote_cmp nat_cmp a b) ≡ true
earlier_rejected a b h =
    ap (λ o. is_lt (ordering_then o (bool_cmp a.committed b.committed))) (is_less (leader_id_cmp nat_cmp a.leader_id b.leader_id) (lt_of_gt (leader_total nat_cmp nat_cmp_total) b.leader_id a.leader_id h))

-- one of some other nodes
apart_of : (n : ℕ) (ts : List ℕ) (t : ℕ) → Listed ts t → Apart n ts → t ≢ n
apart_of n [] t h a = absurd h
apart_of n (x ∷ xs) t (inl q) a = λ z. a.0 (q ∙ z)
apart_of n (x ∷ xs) t (inr q) a = apart_of n xs t q a.2

pub each_listed : (P : ℕ → Type 0) (ts : List ℕ) (t : ℕ) → Listed ts t → AllByRecursion P ts → P t
each_listed P [] t h a = absurd h
each_listed P (x ∷ xs) t (inl q) a = subst P q a.0
each_listed P (x ∷ xs) t (inr q) a = each_listed P xs t q a.1

module _ (given : Given) (wf : IsWellFormed given) (past : List Event) (saved : Bool) (n : ℕ) (c : IsChoice given saved (world_after given past) n) (room : AllByRecursion (HasRoom saved) (world_after given past).nodes) (lead : leads_by_store saved c.node ≡ true) (m : MayHear given saved (world_after given past) n c) where
  abbrev w0 : Net (List Entry)
  w0 = world_after given past

  abbrev T : ℕ
  T = now given past saved n c room

  abbrev e0 : EngineView
  e0 = engine_at_start given.settings saved c.node

  abbrev eh : EngineView
  eh = started_engine given.settings saved m.node

  s0 : Starts given.settings c.node e0
  s0 = starts given.settings saved c.node

  leads : LeadsAtOnce c.node.store.vote e0
  leads = leads_at_once given.settings saved c.node lead (not_end _ (own_room given past saved n c room).index)

  abbrev session : ReplicationSessionId ℕ
  session = session_at c.node.store.vote e0 leads

  is_n : c.node.id ≡ n
  is_n = id given past saved n c room

  is_h : m.node.id ≡ m.from
  is_h = at_id w0.nodes m.from m.node m.at

  apart : m.from ≢ n
  apart = apart_of n c.voters m.from m.one c.apart

  follow : MayFollow given saved w0 e0 m.from
  follow = each_listed (MayFollow given saved w0 e0) c.voters m.from m.one c.follow

  -- the leader starts, and asks
  abbrev w1 : Net (List Entry)
  w1 = (happens whole_logs weight given (restart n saved T) w0).1

  abbrev n1 : NodeView
  n1 = node_left given saved T c.node w0.records

  c1 : Changed w0 w1 n n1 (done given saved T c.node w0.records).effects.records
  c1 = restarts given saved T c.node w0 n c.at (in_time given past saved n c room)

  has : HasStarted e0 T n1
  has = has_started given saved T c.node w0.records

  abbrev en : EngineView
  en = has.engine

  -- its log is of leaders up to its vote
  abbrev more : List Event
  more = past ++ restart n saved T ∷ []

  sound : IsSoundState nat_cmp has.engine.machine.core.state
  sound =
      let there : Contains (world_after given more).nodes n1 = subst (λ (w : Net (List Entry)). Contains w.nodes n1) (sym (goes_after given past (restart n saved T ∷ []))) (at_contains w1.nodes n n1 c1.here) in
      let a : IsAtRest n1 = All-contains IsAtRest (world_after given more).nodes n1 (after_resting given wf more) there in
      (subst IsRestingWhereRunning has.runs a.resting).ready.sound.sound

  state_vote : has.engine.machine.core.state.vote ≡ c.node.store.vote
  state_vote = has.goes.state.vote ∙ s0.vote

  -- so it is behind any id of a later leader
  behind_later : (x : LogId ℕ) → is_gt (leader_id_cmp nat_cmp x.leader_id c.node.store.vote.leader_id) ≡ true → is_lt (last_id_cmp nat_cmp (log_end e0) (Some x)) ≡ true
  behind_later x l = subst (λ (ids : List (LogId ℕ)). is_lt (last_id_cmp nat_cmp (last ids) (Some x)) ≡ true) has.goes.state.ids (go (last has.engine.machine.core.state.ids) refl)
    where
      go : (o : Option (LogId ℕ)) → last has.engine.machine.core.state.ids ≡ o → is_lt (last_id_cmp nat_cmp o (Some x)) ≡ true
      go None q = refl
      go (Some y) q =
          let under : is_le (leader_id_cmp nat_cmp y.leader_id has.engine.machine.core.state.vote.leader_id) ≡ true = each_slot (IsUnder nat_cmp has.engine.machine.core.state.vote.leader_id) has.engine.machine.core.state.ids (length has.engine.machine.core.state.ids - 1) y q sound.log.by_vote in
          let lower : is_le (leader_id_cmp nat_cmp y.leader_id c.node.store.vote.leader_id) ≡ true = subst (λ (v : Vote ℕ). is_le (leader_id_cmp nat_cmp y.leader_id v.leader_id) ≡ true) state_vote under in
          let below : leader_id_cmp nat_cmp y.leader_id x.leader_id ≡ Less =
          is_less _ (le_lt (leader_total nat_cmp nat_cmp_total) y.leader_id c.node.store.vote.leader_id x.leader_id lower (lt_of_gt (leader_total nat_cmp nat_cmp_total) x.leader_id c.node.store.vote.leader_id l)) in
          ap (λ o. is_lt (ordering_then o (nat_cmp y.index x.index))) below

  -- the voter of the later vote doesn't lead by that: then its log would end with an entry of that leader
  unled : leads_by_store saved m.node ≡ false
  unled = go (leads_by_store saved m.node) refl
    where
      same : follow.node ≡ m.node
      same = at_one w0.nodes m.from follow.node m.node follow.at m.at

      ahead : is_lt (last_id_cmp nat_cmp (log_end e0) (log_end (engine_at_start given.settings saved m.node))) ≡ false
      ahead = subst (λ (x : NodeView). is_lt (last_id_cmp nat_cmp (log_end e0) (log_end (engine_at_start given.settings saved x))) ≡ false) same follow.ahead

      go : (b : Bool) → leads_by_store saved m.node ≡ b → b ≡ false
      go false q = refl
      go true q =
          let l : LeadsAtOnce m.node.store.vote (engine_at_start given.settings saved m.node) = leads_at_once given.settings saved m.node q (not_end _ (each_at (HasRoom saved) w0.nodes m.from m.node m.at room).index) in
          let below : is_lt (last_id_cmp nat_cmp (log_end e0) (Some l.own_end.id)) ≡ true =
          behind_later l.own_end.id (subst (λ (d : LeaderId ℕ). is_gt (leader_id_cmp nat_cmp d c.node.store.vote.leader_id) ≡ true) (sym l.own_end.own) m.later) in
          let up : is_le (last_id_cmp nat_cmp (Some l.own_end.id) (log_end (engine_at_start given.settings saved m.node))) ≡ true = le_of_not_lt (last_total nat_cmp nat_cmp_total) (log_end (engine_at_start given.settings saved m.node)) (Some l.own_end.id) l.own_end.end in
          let w : true ≡ false = sym (lt_le (last_total nat_cmp nat_cmp_total) (log_end e0) (Some l.own_end.id) (log_end (engine_at_start given.settings saved m.node)) below up) ∙ ahead in
          cc

  sends : SendsOn m.from session (turn given saved T c.node) (done given saved T c.node w0.records)
  sends = starts_sending c.node.store.vote (turn given saved T c.node) (taken_up given saved T c.node w0.records) m.from e0 leads s0.alone s0.vote m.asked

  same_engine : sends.engine ≡ has.engine
  same_engine = one n1.engine sends.runs has.runs
    where
      one : (o : Option EngineView) → o ≡ Some sends.engine → o ≡ Some has.engine → sends.engine ≡ has.engine
      one o p q = cc

  asked : Asked (done given saved T c.node w0.records).effects.records.bag c.node.id m.from session
  asked = go sends.asks
    where
      go : Asked (done given saved T c.node w0.records).effects.records.bag c.node.id m.from session ⊎ AsksFirst m.from sends.engine.machine.core.output.items → Asked (done given saved T c.node w0.records).effects.records.bag c.node.id m.from session
      go (inl a) = a
      go (inr a) = absurd (subst (AsksFirst m.from) (ap (λ (e : EngineView). e.machine.core.output.items) same_engine ∙ has.rest) a)

  -- the other node starts
  abbrev w2 : Net (List Entry)
  w2 = (happens whole_logs weight given (restart m.from saved T) w1).1

  c2 : Changed w1 w2 m.from (started_node given.settings saved T m.node) (with_answer None w1.records)
  c2 = restarts_unled given saved T m.node unled w1 m.from (c1.others m.from m.node apart m.at) (up_to_greatest (moment_in given past saved n c room) w0.nodes m.from m.node m.at)

  sent : message_at w2.records.bag asked.number ≡ Some (record { from = n; to = m.from; body = asked.body })
  sent =
      ap (λ (r : Records (List Entry)). message_at r.bag asked.number) c2.records
      ∙ (ap (λ (r : Records (List Entry)). message_at r.bag asked.number) c1.records ∙ (asked.is ∙ ap (λ i. let z : Option Message = Some (record { from = i; to = m.from; body = asked.body }) in z) is_n))

  -- it rejects the request
  under_vote : session.vote ≡ c.node.store.vote
  under_vote = leads.by

  over_vote : eh.machine.core.state.vote ≡ m.node.store.vote
  over_vote = starts_under given.settings saved m.node

  later : is_gt (leader_id_cmp nat_cmp eh.machine.core.state.vote.leader_id session.vote.leader_id) ≡ true
  later = subst (λ (v : Vote ℕ). is_gt (leader_id_cmp nat_cmp v.leader_id session.vote.leader_id) ≡ true) (sym over_vote) (subst (λ (v : Vote ℕ). is_gt (leader_id_cmp nat_cmp m.node.store.vote.leader_id v.leader_id) ≡ true) (sym under_vote) m.later)

  committed : session.vote.committed ≡ true
  committed = ap (λ (v : Vote ℕ). v.committed) (under_vote ∙ own_vote given saved T c.node lead (not_end _ (own_room given past saved n c room).index))

  own_node : session.vote.leader_id.node_id ≡ c.node.id
  own_node =
      ap (λ (v : Vote ℕ). v.leader_id.node_id) (under_vote ∙ sym (starts_under given.settings saved c.node))
      ∙ nat_same _ c.node.id (is_equal _ (and_both _ _ (and_both _ _ lead).0).0)

  other : is_eq (nat_cmp session.vote.leader_id.node_id eh.config.id) ≡ false
  other = differs session.vote.leader_id.node_id m.node.id (λ z. apart (sym is_h ∙ (sym z ∙ (own_node ∙ is_n))))

  quiet : IsQuiet eh
  quiet = record { rest = refl; unspent = refl; unled = refl; counter = refl }

  rejected : rejects_vote nat_cmp eh.machine.core.state session.vote ≡ true
  rejected = earlier_rejected session.vote eh.machine.core.state.vote later

  was : WasRejected eh quiet session rejected committed other given T w2 n m.from asked.number (started_node given.settings saved T m.node) asked.body c2.here (omega arith) refl asked.asks sent
  was = was_rejected eh quiet session rejected committed other given T w2 n m.from asked.number (started_node given.settings saved T m.node) asked.body c2.here (omega arith) refl asked.asks sent

  abbrev w3 : Net (List Entry)
  w3 = (happens whole_logs weight given (deliver asked.number T) w2).1

  abbrev answer_number : ℕ
  answer_number = length w2.records.bag + 1

  replied : message_at w3.records.bag answer_number ≡ Some (record { from = m.from; to = n; body = was.answer })
  replied = ap (λ (r : Records (List Entry)). message_at r.bag answer_number) was.changed.records ∙ was.replied

  -- the leader hears of the later vote, and follows
  n_not_h : n ≢ m.from
  n_not_h z = apart (sym z)

  at3 : At w3.nodes n n1
  at3 = was.changed.others n n1 n_not_h (c2.others n n1 n_not_h c1.here)

  own_id : has.engine.config.id ≡ c.node.id
  own_id = ap (λ (x : EngineConfig ℕ). x.id) (has.goes.config ∙ s0.config)

  in_session : LeadsSession session has.engine
  in_session = record { session = subst (λ (e : EngineView). session_of e ≡ Some session) same_engine sends.in_session.session; vote = under_vote ∙ sym state_vote }

  abbrev d : LeaderId ℕ
  d = eh.machine.core.state.vote.leader_id

  -- the later vote isn't one of the leader's own, since it would have stored that first
  not_its_own : m.node.store.vote.leader_id.node_id ≢ n
  not_its_own z =
      let f = followed given wf past in
      let first : NodeFollows (setup_of given.membership) f.world w0.records c.node = one_of (NodeFollows (setup_of given.membership) f.world w0.records) w0.nodes c.node f.follows.nodes (at_contains w0.nodes n c.node c.at) in
      let second : NodeFollows (setup_of given.membership) f.world w0.records m.node = one_of (NodeFollows (setup_of given.membership) f.world w0.records) w0.nodes m.node f.follows.nodes (at_contains w0.nodes m.from m.node m.at) in
      let told : number m.node.store.vote.leader_id ≤ (f.world.store m.node.store.vote.leader_id.node_id).vote =
      claimed_node given.membership f.world f.follows.reached m.node.store.vote second.store.vote_named (subst (λ k. IsClaimed (setup_of given.membership) f.world k) second.store.vote (votes_claimed (setup_of given.membership) f.world f.follows.reached m.node.id)) in
      let here : (f.world.store m.node.store.vote.leader_id.node_id).vote ≡ number c.node.store.vote.leader_id = ap (λ i. (f.world.store i).vote) (z ∙ sym is_n) ∙ first.store.vote in
      let below : number c.node.store.vote.leader_id < number m.node.store.vote.leader_id =
      number_below c.node.store.vote.leader_id m.node.store.vote.leader_id first.store.vote_named second.store.vote_named (is_less _ (lt_of_gt (leader_total nat_cmp nat_cmp_total) m.node.store.vote.leader_id c.node.store.vote.leader_id m.later)) in
      absurd (omega (arith, told, here, below))

  foreign : is_eq (nat_cmp d.node_id has.engine.config.id) ≡ false
  foreign = differs d.node_id has.engine.config.id (λ z. not_its_own (ap (λ (v : Vote ℕ). v.leader_id.node_id) (sym over_vote) ∙ (z ∙ (own_id ∙ is_n))))

  may : EngineGrants d (last has.engine.machine.core.state.ids) T has.engine
  may = record {
    unspent = has.goes.spent ∙ s0.spent;
    greater = is_later (leader_id_cmp nat_cmp d has.engine.machine.core.state.vote.leader_id) (bool_cmp false has.engine.machine.core.state.vote.committed)
        (subst (λ (v : Vote ℕ). is_gt (leader_id_cmp nat_cmp d v.leader_id) ≡ true) (under_vote ∙ sym state_vote) later);
    other = foreign;
    unleased = unleased_if has.engine.config has.engine.machine.core.state T (has.goes.state.time ∙ s0.time);
    ahead = ap is_lt (tied_itself (last_total nat_cmp nat_cmp_total) (last has.engine.machine.core.state.ids));
    rest = has.rest;
  }

  abbrev w4 : Net (List Entry)
  w4 = (happens whole_logs weight given (deliver answer_number T) w3).1

  abbrev taken : Effected
  taken = quit has.engine.machine.core.state.role (voted (pending d) (work_begins n1 w3.records))

  abbrev n4 : NodeView
  n4 = node_after n1 T (granted_with d T [] has.engine) taken

  c4 : Changed w3 w4 n n4 taken.records
  c4 = follows has.engine session in_session eh.machine.core.state.vote later T may given w3 n m.from answer_number n1 was.answer at3 (omega (arith, has.moment)) has.runs was.tells replied

  -- it may stand
  abbrev candidate : EngineView
  candidate = granted_with d T [] has.engine

  same_em : has.engine.machine.core.state.em ≡ e0.machine.core.state.em
  same_em = has.goes.state.em

  listed : Listed (voter_ids nat_cmp (members candidate)) has.engine.config.id
  listed = subst (λ (x : StoredMembership ℕ (Unit {0})). Listed (voter_ids nat_cmp x.membership) has.engine.config.id) (sym same_em) (subst (λ i. Listed (voter_ids nat_cmp (members e0)) i) (sym (own_id ∙ is_n)) c.voter)

  low : d.term ≤ top given past saved n c room
  low = subst (λ (v : Vote ℕ). v.leader_id.term ≤ top given past saved n c room) (sym over_vote) (up_to_greatest (term_in given past saved n c room) w0.nodes m.from m.node m.at)

  stands : NodeStands w4 T n
  stands = record {
    node = n4;
    at = c4.here;
    moment = omega arith;
    engine = candidate;
    runs = refl;
    own = own_id ∙ is_n;
    may = record {
      unspent = has.goes.spent ∙ s0.spent;
      term = not_end d.term (let l : top given past saved n c room < u64_max = below_end given past saved n c room in omega (arith, low, l));
      unled = refl;
      rest = refl;
      role = role_follows (record has.engine.machine.core.state { vote = pending d; time = Some T }) has.engine.config.id refl (no_and (is_eq (nat_cmp d.node_id has.engine.config.id)) (contains nat_cmp has.engine.machine.core.state.em.membership has.engine.config.id) foreign);
      member = voter_is_member (members candidate) has.engine.config.id listed;
    };
    voter = voter_votes (members candidate) has.engine.config.id listed;
    listed = listed;
    room = not_end (next (log_end candidate)) (subst (λ (ids : List (LogId ℕ)). next (last ids) < u64_max) (sym has.goes.state.ids) m.room);
  }

  -- its voters join
  joins : (t : ℕ) → t ≢ n → MayFollow given saved w0 e0 t → Joins given saved T n (top given past saved n c room) candidate w4 t
  joins t a f = go (nat_eq t m.from) refl
    where
      voter : Listed (voter_ids nat_cmp (members candidate)) t
      voter = subst (λ (x : StoredMembership ℕ (Unit {0})). Listed (voter_ids nat_cmp x.membership) t) (sym same_em) f.voter

      behind : (e : EngineView) → is_lt (last_id_cmp nat_cmp (log_end e0) (log_end e)) ≡ false → is_lt (last_id_cmp nat_cmp (log_end candidate) (log_end e)) ≡ false
      behind e k = subst (λ (ids : List (LogId ℕ)). is_lt (last_id_cmp nat_cmp (last ids) (log_end e)) ≡ false) (sym has.goes.state.ids) k

      named : (x y : ℕ) → nat_eq x y ≡ true → x ≡ y
      named x y e = grind (arith, nat_tests)

      unnamed : (x y : ℕ) → nat_eq x y ≡ false → x ≢ y
      unnamed x y e = grind (arith, nat_tests)

      go : (b : Bool) → nat_eq t m.from ≡ b → Joins given saved T n (top given past saved n c room) candidate w4 t
      go true q =
          let t_is : t ≡ m.from = named t m.from q in
          let same : f.node ≡ m.node = at_one w0.nodes t f.node m.node f.at (subst (λ i. At w0.nodes i m.node) (sym t_is) m.at) in
          let start : engine_at_start given.settings saved m.node ≡ eh = ap (λ (r : Option ℕ × EngineView). r.1) (starting given saved T m.node unled) in
          inr (record {
            other = voter_is_other (members candidate) t voter n a;
            voter = voter;
            node = was.node;
            at = subst (λ i. At w4.nodes i was.node) (sym t_is) (c4.others m.from was.node apart was.changed.here);
            moment = omega (arith, was.time);
            engine = eh;
            runs = was.engine;
            may = record {
              unspent = refl;
              low = low;
              other = differs n m.node.id (λ z. apart (sym is_h ∙ sym z));
              unleased = unleased_if eh.config eh.machine.core.state T refl;
              ahead = behind eh (subst (λ (e : EngineView). is_lt (last_id_cmp nat_cmp (log_end e0) (log_end e)) ≡ false) start (subst (λ (x : NodeView). is_lt (last_id_cmp nat_cmp (log_end e0) (log_end (engine_at_start given.settings saved x))) ≡ false) same f.ahead));
              rest = refl;
            };
          })
      go false q =
          let other_one : t ≢ m.from = unnamed t m.from q in
          inl (record {
            voter = voter;
            node = f.node;
            at = c4.others t f.node a (was.changed.others t f.node other_one (c2.others t f.node other_one (c1.others t f.node a f.at)));
            moment = up_to_greatest (moment_in given past saved n c room) w0.nodes t f.node f.at;
            low = up_to_greatest (term_in given past saved n c room) w0.nodes t f.node f.at;
            ahead = behind (engine_at_start given.settings saved f.node) f.ahead;
          })

  all_join : (ts : List ℕ) → AllByRecursion (λ t. t ≢ n) ts → AllByRecursion (MayFollow given saved w0 e0) ts → AllByRecursion (Joins given saved T n (top given past saved n c room) candidate w4) ts
  all_join [] a f = tt
  all_join (t ∷ ts) a f = (joins t a.0 f.0, all_join ts a.1 f.1)

  -- so it is elected
  abbrev heard : List Event
  heard = restart n saved T ∷ restart m.from saved T ∷ deliver asked.number T ∷ deliver answer_number T ∷ []

  groups_are : (members candidate).groups ≡ (members e0).groups
  groups_are = ap (λ (x : StoredMembership ℕ (Unit {0})). x.membership.groups) same_em

  with_others : is_enough T candidate ≡ false → IsElected given past (members e0).groups n
  unfolding stands
  with_others few =
      let r = start_all given saved T n (top given past saved n c room) candidate c.voters w4 c.apart (all_join c.voters (apart_from n c.voters c.apart) c.follow) in
      let w5 : Net (List Entry) = goes_on given r.0 w4 in
      let voted : List Event = elect given T n (top given past saved n c room) c.voters w5 in
      let z : Elected given T n (record { term = top given past saved n c room + 1; node_id = n }) candidate (1 + (top given past saved n c room - d.term) + 2 * length c.voters) w5 voted =
      climb given T n (top given past saved n c room) (below_end given past saved n c room) (top given past saved n c room - d.term) w5
      (record { node = n4; at = r.1.frame n n4 (apart_from n c.voters c.apart) c4.here; moment = omega arith; engine = candidate; runs = refl; own = stands.own; may = stands.may; voter = stands.voter; listed = stands.listed; room = stands.room }) few
      (omega (arith, low)) c.voters c.apart r.1.grants (quorum_over (members candidate).groups n c.voters (subst (λ gs. is_quorum nat_cmp gs (n ∷ c.voters) ≡ true) (sym groups_are) c.quorum)) in
      record {
        events = heard ++ (r.0 ++ voted);
        leader_id = record { term = top given past saved n c room + 1; node_id = n };
        leads = subst (λ (w : Net (List Entry)). LeadsIn w (record { term = top given past saved n c room + 1; node_id = n }) n) (sym (goes_after given past (heard ++ (r.0 ++ voted)) ∙ both_run given r.0 voted w4)) (leads_in z.won);
        by = n ∷ c.voters;
        quorum = c.quorum;
        latest = each_latest given past saved n c room (record { term = top given past saved n c room + 1; node_id = n })
            (λ N t at. votes_before (record { term = top given past saved n c room + 1; node_id = n }) N (let l : N.store.vote.leader_id.term ≤ top given past saved n c room = up_to_greatest (term_in given past saved n c room) w0.nodes t N at in omega (arith, l))) (n ∷ c.voters);
      }

  by_itself : is_enough T candidate ≡ true → IsElected given past (members e0).groups n
  unfolding stands
  by_itself enough = record {
    events = heard ++ timeout n T ∷ [];
    leader_id = asked_id candidate;
    leads = subst (λ (w : Net (List Entry)). LeadsIn w (asked_id candidate) n) (sym (goes_after given past (heard ++ timeout n T ∷ []))) (leads_alone given w4 T n stands enough);
    by = n ∷ [];
    quorum = subst (λ gs. is_quorum nat_cmp gs (n ∷ []) ≡ true) groups_are (subst (λ i. is_quorum nat_cmp (members candidate).groups (i ∷ []) ≡ true) (own_id ∙ is_n) (enough_is_quorum T candidate enough));
    latest = (
      own_latest given past saved n c room (asked_id candidate)
          (votes_before (asked_id candidate) c.node
          (let l : session.vote.leader_id.term ≤ d.term = later_terms d session.vote.leader_id later in
          let k : session.vote.leader_id.term ≡ c.node.store.vote.leader_id.term = ap (λ (v : Vote ℕ). v.leader_id.term) under_vote in
          omega (arith, l, k))),
      tt,
    );
  }

  pub hears_then : IsElected given past (members e0).groups n
  hears_then = go (is_enough T candidate) refl
    where
      go : (b : Bool) → is_enough T candidate ≡ b → IsElected given past (members e0).groups n
      go true q = by_itself q
      go false q = with_others q

pub worlds_elect : WorldsElect
worlds_elect given wf past saved n c (inl u) room = chosen given past saved n c room u
worlds_elect given wf past saved n c (inr m) room = go (leads_by_store saved c.node) refl
  where
    go : (b : Bool) → leads_by_store saved c.node ≡ b → IsElected given past (members (engine_at_start given.settings saved c.node)).groups n
    go true q = hears_then given wf past saved n c room q m
    go false q = chosen given past saved n c room (inl q)
