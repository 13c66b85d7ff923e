-- A choice is elected: it restarts, and so do its voters; then its term rises with each timeout, until they grant it.
use Rattle.std.proofs.Common.{Option, ℕ, zero, suc, ◌+◌, ◌*◌, ◌-◌, ◌<◌, ◌≤◌, ◌≡◌, ◌≢◌, ◌⊎◌, inl, inr, ⊎_elim, Bool, true, false, ◌&&◌, List, [], ◌∷◌, ◌++◌, length, take, arith, refl, sym, ap, ◌∙◌, subst, None}
use Rattle.std.specs.Prelude.{◌||◌, if◌then◌else◌, map, max}
use Rattle.std.specs.List.{AllByRecursion}
use Rattle.std.specs.Prelude.{Contains}
use Rattle.std.proofs.lemmas.List.Elements.{All-contains_itself, recursion_from_All}
use Rattle.std.specs.declared.cmp.Ordering.{Ordering}
use Rattle.std.specs.declared.cmp.Ordering.TheVariants.{Less}
use Rattle.std.specs.Ordering.{bool_cmp, is_eq, is_gt, is_lt, nat_cmp, ordering_then}
use Rattle.std.proofs.lemmas.Bool.Decides.{nat_tests}
use Rattle.proof_deeds.specs.raft_state.declared.ids.LeaderId.{LeaderId}
use Rattle.proof_deeds.specs.raft_state.declared.ids.LogId.{LogId}
use Rattle.proof_deeds.specs.raft_state.declared.ids.Vote.{Vote}
use Rattle.proof_deeds.specs.raft_state.declared.state.RaftState.{RaftState}
use Rattle.proof_deeds.specs.raft_state.Log.{last}
use Rattle.proof_deeds.specs.raft_state.Members.{voter_ids}
use Rattle.proof_deeds.specs.raft_state.Order.{last_id_cmp, next}
use Rattle.proof_deeds.specs.raft_state.Sorted.{has_id}
use Rattle.proof_deeds.proofs.raft_state_proofs.Orders.{or_left}
use Rattle.proof_deeds.specs.raft_progress.Quorum.{is_quorum}
use Rattle.proof_deeds.specs.raft_progress.Table.{holders, rows_of, with_value}
use Rattle.proof_deeds.specs.raft_command.declared.config.EngineConfig.{EngineConfig}
use Rattle.proof_deeds.specs.raft_proposer.Candidate.{grant_by}
use Rattle.proof_deeds.specs.raft_proposer.Joint.{u64_max}
use Rattle.proof_deeds.specs.raft_steps.Requests.{is_leased, is_within_lease}
use Rattle.proof_deeds.specs.raft_store.declared.entry.Entry.{Entry}
use Rattle.proof_deeds.specs.raft_store.Entries.{entry_meaning}
use Rattle.proof_deeds.specs.raft_store.Restart.{started}
use Rattle.proof_deeds.specs.raft_store.Types.{EngineView}
use Rattle.proof_deeds.specs.raft_schedule.declared.event.Event.{Event}
use Rattle.proof_deeds.specs.raft_node.declared.given.Given.{Given}
use Rattle.proof_deeds.specs.raft_node.Events.{happens, with_answer}
use Rattle.proof_deeds.specs.raft_node.Net.{Net, NodeView}
use Rattle.proof_deeds.specs.raft_node.Runs.{whole_logs, world_after}
use Rattle.proof_deeds.specs.raft_node.Work.{weight}
use Rattle.proof_deeds.proofs.Winning.{granted_by}
use Rattle.proof_progress.specs.Choices.{HasRoom, IsChoice, IsElected, IsUndisputed, MayFollow, VotesUpTo, engine_at_start, leads_by_store}
use Rattle.proof_progress.specs.Continuations.{At, LeadsIn, goes_on, restart, timeout}
use Rattle.proof_progress.specs.Elections.{Apart, Listed, asked_id, log_end, members}
use Rattle.proof_progress.specs.Plans.{elect}
use Rattle.proof_progress.proofs.Afresh.{leads_in}
use Rattle.proof_progress.proofs.Alone.{leads_alone}
use Rattle.proof_progress.proofs.Beside.{Elected}
use Rattle.proof_progress.proofs.Campaigns.{at_id}
use Rattle.proof_progress.proofs.CanElect.{goes_after}
use Rattle.proof_progress.proofs.Conditions.{NodeGrantsAbove, NodeStands, is_enough}
use Rattle.proof_progress.proofs.Electable.{differs}
use Rattle.proof_progress.proofs.Elects.{itself}
use Rattle.proof_progress.proofs.Images.{standing, started_engine}
use Rattle.proof_progress.proofs.LeaderStarts.{Starts, starts}
use Rattle.proof_progress.proofs.Places.{Changed, at_one}
use Rattle.proof_progress.proofs.Restarts.{restarts as restarts_unled, starting, started_node, starts_standing, starts_under}
use Rattle.proof_progress.proofs.Rises.{climb, not_end}
use Rattle.proof_progress.proofs.StartWorks.{HasStarted, done, has_started, leads_again, node_left, restarts}
use Rattle.proof_progress.proofs.Tables.{quorum_more}
use Rattle.proof_progress.proofs.Voters.{quorum_over, voter_is_member, voter_is_other, voter_votes}

-- Numbers of nodes

-- the greatest, and that it is so
pub greatest : (NodeView → ℕ) → List NodeView → ℕ
greatest f [] = 0
greatest f (x ∷ xs) = max (f x) (greatest f xs)

left_of_max : (a b : ℕ) → a ≤ max a b
left_of_max a b = grind (arith, nat_tests)

right_of_max : (a b c : ℕ) → a ≤ c → a ≤ max b c
right_of_max a b c l = grind (arith, nat_tests)

max_below : (a b c : ℕ) → a < c → b < c → max a b < c
max_below a b c l m = grind (arith, nat_tests)

pub up_to_greatest : (f : NodeView → ℕ) (nodes : List NodeView) (id : ℕ) (N : NodeView) → At nodes id N → f N ≤ greatest f nodes
unfolding greatest
up_to_greatest f [] id N h = absurd h
up_to_greatest f (x ∷ xs) id N (inl p) = subst (λ M. f M ≤ max (f x) (greatest f xs)) p.1 (left_of_max (f x) (greatest f xs))
up_to_greatest f (x ∷ xs) id N (inr p) = right_of_max (f N) (f x) (greatest f xs) (up_to_greatest f xs id N p.1)

pub greatest_below : (f : NodeView → ℕ) (end : ℕ) → 0 < end → (nodes : List NodeView) → AllByRecursion (λ N. f N < end) nodes → greatest f nodes < end
unfolding greatest
greatest_below f end some [] a = some
greatest_below f end some (x ∷ xs) a = max_below (f x) (greatest f xs) end a.0 (greatest_below f end some xs a.1)

pub each_at : (P : NodeView → Type 0) (nodes : List NodeView) (id : ℕ) (N : NodeView) → At nodes id N → AllByRecursion P nodes → P N
each_at P [] id N h a = absurd h
each_at P (x ∷ xs) id N (inl p) a = subst P p.1 a.0
each_at P (x ∷ xs) id N (inr p) a = each_at P xs id N p.1 a.1

-- it is one of the nodes
pub at_contains : (nodes : List NodeView) (id : ℕ) (N : NodeView) → At nodes id N → Contains nodes N
at_contains nodes id N h = go nodes h (recursion_from_All (Contains nodes) nodes (All-contains_itself nodes))
  where
    go : (xs : List NodeView) → At xs id N → AllByRecursion (Contains nodes) xs → Contains nodes N
    go [] h a = absurd h
    go (x ∷ xs) (inl p) a = subst (Contains nodes) p.1 a.0
    go (x ∷ xs) (inr p) a = go xs p.1 a.1

pub both_run : (given : Given) (xs ys : List Event) (net : Net (List Entry)) → goes_on given (xs ++ ys) net ≡ goes_on given ys (goes_on given xs net)
both_run given [] ys net = refl
both_run given (x ∷ xs) ys net = both_run given xs ys (happens whole_logs weight given x net).1

-- an earlier term, and the same leader id
earlier_term : (a b : ℕ) → a < b → nat_cmp a b ≡ Less
earlier_term a b l = grind (arith, nat_tests)

pub votes_before : (d : LeaderId ℕ) (N : NodeView) → N.store.vote.leader_id.term < d.term → VotesUpTo d N
votes_before d N l = ap (λ (o : Ordering). is_gt (ordering_then o (nat_cmp N.store.vote.leader_id.node_id d.node_id))) (earlier_term N.store.vote.leader_id.term d.term l)

votes_itself : (N : NodeView) → VotesUpTo N.store.vote.leader_id N
votes_itself N = rw (itself N.store.vote.leader_id.term, itself N.store.vote.leader_id.node_id) refl

-- Voters start

pub unleased_if : (config : EngineConfig ℕ) (s : RaftState ℕ (Unit {0})) (now : ℕ) → s.time ≡ None → is_leased config s now ≡ false
unleased_if config s now h = ap (λ o. s.vote.committed && is_within_lease o config.timer_config.leader_lease now) h ∙ and_off s.vote.committed
  where
    and_off : (b : Bool) → (b && false) ≡ false
    and_off true = refl
    and_off false = refl

pub apart_from : (n : ℕ) (ts : List ℕ) → Apart n ts → AllByRecursion (λ u. u ≢ n) ts
apart_from n [] a = tt
apart_from n (t ∷ ts) a = (a.0, apart_from n ts a.2)

module _ (given : Given) (saved : Bool) (now n top : ℕ) (e : EngineView) where
  -- a voter that is to start: it votes up to a term, and its log isn't ahead of the candidate's
  pub record Follows (net : Net (List Entry)) (t : ℕ) : Type 0 where
    pub voter : Listed (voter_ids nat_cmp (members e)) t
    pub node : NodeView
    pub at : At net.nodes t node
    pub moment : node.moment ≤ now
    pub low : node.store.vote.leader_id.term ≤ top
    pub ahead : is_lt (last_id_cmp nat_cmp (log_end e) (log_end (engine_at_start given.settings saved node))) ≡ false

  -- these voters have started, and the other nodes are as they were
  pub record AllStarted (net new : Net (List Entry)) (ts : List ℕ) : Type 0 where
    pub frame : (k : ℕ) (K : NodeView) → AllByRecursion (λ u. u ≢ k) ts → At net.nodes k K → At new.nodes k K
    pub grants : AllByRecursion (NodeGrantsAbove new now n top e) ts

  -- or one that may grant already
  abbrev pub Joins : Net (List Entry) → ℕ → Type 0
  Joins net t = Follows net t ⊎ NodeGrantsAbove net now n top e t

  stays : (net new : Net (List Entry)) (t : ℕ) → ((K : NodeView) → At net.nodes t K → At new.nodes t K) → Joins net t → Joins new t
  stays net new t f (inl w) = inl (record { voter = w.voter; node = w.node; at = f w.node w.at; moment = w.moment; low = w.low; ahead = w.ahead })
  stays net new t f (inr w) = inr (record { other = w.other; voter = w.voter; node = w.node; at = f w.node w.at; moment = w.moment; engine = w.engine; runs = w.runs; may = w.may })

  pub wait_beside : (net new : Net (List Entry)) (t : ℕ) → ((k : ℕ) (K : NodeView) → k ≢ t → At net.nodes k K → At new.nodes k K) → (ts : List ℕ) → AllByRecursion (λ u. u ≢ t) ts → AllByRecursion (Joins net) ts → AllByRecursion (Joins new) ts
  wait_beside net new t f [] a w = tt
  wait_beside net new t f (u ∷ ts) a w = (stays net new u (λ K at. f u K a.0 at) w.0, wait_beside net new t f ts a.1 w.1)

  -- a voter that has started grants
  grants_now : (new : Net (List Entry)) (t : ℕ) (N m : NodeView) → N.id ≡ t → t ≢ n → Listed (voter_ids nat_cmp (members e)) t → N.store.vote.leader_id.term ≤ top
      → is_lt (last_id_cmp nat_cmp (log_end e) (log_end (engine_at_start given.settings saved N))) ≡ false → At new.nodes t m → HasStarted (engine_at_start given.settings saved N) now m → NodeGrantsAbove new now n top e t
  grants_now new t N m id d voter low ahead at h =
      let s : Starts given.settings N (engine_at_start given.settings saved N) = starts given.settings saved N in
      record {
        other = voter_is_other (members e) t voter n d;
        voter = voter;
        node = m;
        at = at;
        moment = omega (arith, h.moment);
        engine = h.engine;
        runs = h.runs;
        may = record {
          unspent = h.goes.spent ∙ s.spent;
          low = subst (λ (v : Vote ℕ). v.leader_id.term ≤ top) (sym (h.goes.state.vote ∙ s.vote)) low;
          other = differs n h.engine.config.id (λ z. d (sym id ∙ (sym (ap (λ (c : EngineConfig ℕ). c.id) (h.goes.config ∙ s.config)) ∙ sym z)));
          unleased = unleased_if h.engine.config h.engine.machine.core.state now (h.goes.state.time ∙ s.time);
          ahead = subst (λ (ids : List (LogId ℕ)). is_lt (last_id_cmp nat_cmp (log_end e) (last ids)) ≡ false) (sym h.goes.state.ids) ahead;
          rest = h.rest;
        };
      }

  pub start_all : (ts : List ℕ) (net : Net (List Entry)) → Apart n ts → AllByRecursion (Joins net) ts → (es : List Event) × AllStarted net (goes_on given es net) ts
  start_all [] net a w = ([], record { frame = λ k K d at. at; grants = tt })
  start_all (t ∷ ts) net a w =
      ⊎_elim
      (λ (s : Follows net t).
      let c : Changed net (happens whole_logs weight given (restart t saved now) net).1 t (node_left given saved now s.node net.records) _ = restarts given saved now s.node net t s.at s.moment in
      starting s c (start_all ts (happens whole_logs weight given (restart t saved now) net).1 a.2 (wait_beside net (happens whole_logs weight given (restart t saved now) net).1 t c.others ts a.1 w.1)))
      (λ (s : NodeGrantsAbove net now n top e t). running s (start_all ts net a.2 w.1)) w.0
    where
      starting : (s : Follows net t) → Changed net (happens whole_logs weight given (restart t saved now) net).1 t (node_left given saved now s.node net.records) (done given saved now s.node net.records).effects.records
          → (es : List Event) × AllStarted (happens whole_logs weight given (restart t saved now) net).1 (goes_on given es (happens whole_logs weight given (restart t saved now) net).1) ts
          → (es : List Event) × AllStarted net (goes_on given es net) (t ∷ ts)
      starting s c r = (
        restart t saved now ∷ r.0,
        record {
          frame = λ k K d at. r.1.frame k K d.1 (c.others k K (λ z. d.0 (sym z)) at);
          grants = (
            grants_now (goes_on given r.0 (happens whole_logs weight given (restart t saved now) net).1) t s.node (node_left given saved now s.node net.records) (at_id net.nodes t s.node s.at) a.0 s.voter s.low s.ahead
                (r.1.frame t (node_left given saved now s.node net.records) a.1 c.here) (has_started given saved now s.node net.records),
            r.1.grants,
          );
        },
      )

      running : (s : NodeGrantsAbove net now n top e t) → (es : List Event) × AllStarted net (goes_on given es net) ts → (es : List Event) × AllStarted net (goes_on given es net) (t ∷ ts)
      running s r = (
        r.0,
        record {
          frame = λ k K d at. r.1.frame k K d.1 at;
          grants = (record { other = s.other; voter = s.voter; node = s.node; at = r.1.frame t s.node a.1 s.at; moment = s.moment; engine = s.engine; runs = s.runs; may = s.may }, r.1.grants);
        },
      )

-- A node that is a quorum alone

-- only its own row has granted
only_own : (t k : ℕ) (ids : List ℕ) (g : ℕ) → has_id nat_cmp (holders bool_cmp (λ (b : Bool). b) (take k (map (with_value nat_cmp t true) (rows_of false ids))) true) g ≡ true → has_id nat_cmp (t ∷ []) g ≡ true
only_own t zero [] g h = cc
only_own t zero (x ∷ ids) g h = cc
only_own t (suc k) [] g h = cc
only_own t (suc k) (x ∷ ids) g h = go (only_own t k ids g) (is_eq (nat_cmp t x)) refl h
  where
    same : (a b c : ℕ) → is_eq (nat_cmp a b) ≡ true → is_eq (nat_cmp c b) ≡ true → is_eq (nat_cmp c a) ≡ true
    same a b c p q = grind (arith, nat_tests)

    found : (b : Bool) → is_eq (nat_cmp g x) ≡ b → is_eq (nat_cmp t x) ≡ true → (r : Bool) → (r ≡ true → has_id nat_cmp (t ∷ []) g ≡ true) → (b || r) ≡ true → has_id nat_cmp (t ∷ []) g ≡ true
    found true p e r f q = or_left (is_eq (nat_cmp g t)) false (same t x g e p)
    found false p e r f q = f q

    go : (has_id nat_cmp (holders bool_cmp (λ (b : Bool). b) (take k (map (with_value nat_cmp t true) (rows_of false ids))) true) g ≡ true → has_id nat_cmp (t ∷ []) g ≡ true) → (b : Bool) → is_eq (nat_cmp t x) ≡ b
        → has_id nat_cmp (holders bool_cmp (λ (b : Bool). b) ((if b then (x, true) else (x, false)) ∷ take k (map (with_value nat_cmp t true) (rows_of false ids))) true) g ≡ true → has_id nat_cmp (t ∷ []) g ≡ true
    go f true e q = found (is_eq (nat_cmp g x)) refl e (has_id nat_cmp (holders bool_cmp (λ (b : Bool). b) (take k (map (with_value nat_cmp t true) (rows_of false ids))) true) g) f q
    go f false e q = f q

pub enough_is_quorum : (now : ℕ) (e : EngineView) → is_enough now e ≡ true → is_quorum nat_cmp (members e).groups (e.config.id ∷ []) ≡ true
enough_is_quorum now e h =
    quorum_more (holders bool_cmp (λ (b : Bool). b) (take (grant_by nat_cmp (standing now e) e.config.id).progress.voters (grant_by nat_cmp (standing now e) e.config.id).progress.rows) true) (e.config.id ∷ [])
    (λ g q. only_own e.config.id (grant_by nat_cmp (standing now e) e.config.id).progress.voters (voter_ids nat_cmp (members e) ++ []) g q) (members e).groups (granted_by (grant_by nat_cmp (standing now e) e.config.id) refl h)

-- The choice

module _ (given : Given) (past : List Event) (saved : Bool) (n : ℕ) (c : IsChoice given saved (world_after given past) n) (room : AllByRecursion (HasRoom saved) (world_after given past).nodes) where
  abbrev pub net : Net (List Entry)
  net = world_after given past

  -- the latest moment, and the greatest stored term
  abbrev pub moment_in : NodeView → ℕ
  moment_in N = N.moment

  abbrev pub term_in : NodeView → ℕ
  term_in N = N.store.vote.leader_id.term

  abbrev pub now : ℕ
  now = greatest moment_in net.nodes

  abbrev pub top : ℕ
  top = greatest term_in net.nodes

  pub below_end : top < u64_max
  below_end = greatest_below term_in u64_max (omega arith) net.nodes (terms net.nodes room)
    where
      terms : (nodes : List NodeView) → AllByRecursion (HasRoom saved) nodes → AllByRecursion (λ N. N.store.vote.leader_id.term < u64_max) nodes
      terms [] a = tt
      terms (x ∷ xs) a = (a.0.term, terms xs a.1)

  pub own_room : HasRoom saved c.node
  own_room = each_at (HasRoom saved) net.nodes n c.node c.at room

  pub id : c.node.id ≡ n
  id = at_id net.nodes n c.node c.at

  pub in_time : c.node.moment ≤ now
  in_time = up_to_greatest moment_in net.nodes n c.node c.at

  pub each_latest : (d : LeaderId ℕ) → ((N : NodeView) → (t : ℕ) → At net.nodes t N → VotesUpTo d N) → (ts : List ℕ) → AllByRecursion (λ t. (N : NodeView) → At net.nodes t N → VotesUpTo d N) ts
  each_latest d f [] = tt
  each_latest d f (t ∷ ts) = ((λ N at. f N t at), each_latest d f ts)

  pub own_latest : (d : LeaderId ℕ) → VotesUpTo d c.node → (N : NodeView) → At net.nodes n N → VotesUpTo d N
  own_latest d v N at = subst (VotesUpTo d) (at_one net.nodes n c.node N c.at at) v

  -- it doesn't lead by its stored vote
  module _ (unled : leads_by_store saved c.node ≡ false) where
    abbrev engine : EngineView
    engine = started_engine given.settings saved c.node

    same : engine_at_start given.settings saved c.node ≡ engine
    same = ap (λ (r : Option ℕ × EngineView). r.1) (starting given saved now c.node unled)

    listed : Listed (voter_ids nat_cmp (members engine)) c.node.id
    listed = subst (λ i. Listed (voter_ids nat_cmp (members engine)) i) (sym id) (subst (λ e. Listed (voter_ids nat_cmp (members e)) n) same c.voter)

    all_follow : (ts : List ℕ) → AllByRecursion (MayFollow given saved net (engine_at_start given.settings saved c.node)) ts → AllByRecursion (Joins given saved now n top engine net) ts
    all_follow [] w = tt
    all_follow (t ∷ ts) w = (
      inl (record {
        voter = subst (λ e. Listed (voter_ids nat_cmp (members e)) t) same w.0.voter;
        node = w.0.node;
        at = w.0.at;
        moment = up_to_greatest moment_in net.nodes t w.0.node w.0.at;
        low = up_to_greatest term_in net.nodes t w.0.node w.0.at;
        ahead = subst (λ e. is_lt (last_id_cmp nat_cmp (log_end e) (log_end (engine_at_start given.settings saved w.0.node))) ≡ false) same w.0.ahead;
      }),
      all_follow ts w.1,
    )

    starts_first : Changed net (happens whole_logs weight given (restart n saved now) net).1 n (started_node given.settings saved now c.node) (with_answer None net.records)
    starts_first = restarts_unled given saved now c.node unled net n c.at in_time

    abbrev one : Net (List Entry)
    one = (happens whole_logs weight given (restart n saved now) net).1

    may_stand : (new : Net (List Entry)) → At new.nodes n (started_node given.settings saved now c.node) → NodeStands new now n
    may_stand new at = record {
      node = started_node given.settings saved now c.node;
      at = at;
      moment = omega arith;
      engine = engine;
      runs = refl;
      own = id;
      may = starts_standing given.settings saved c.node (not_end c.node.store.vote.leader_id.term own_room.term) (voter_is_member (members engine) c.node.id listed);
      voter = voter_votes (members engine) c.node.id listed;
      listed = listed;
      room = not_end (next (log_end engine)) own_room.index;
    }

    with_others : is_enough now engine ≡ false → IsElected given past (members (engine_at_start given.settings saved c.node)).groups n
    unfolding may_stand
    with_others few =
        let r = start_all given saved now n top engine c.voters one c.apart (wait_beside given saved now n top engine net one n starts_first.others c.voters (apart_from n c.voters c.apart) (all_follow c.voters c.follow)) in
        let two : Net (List Entry) = goes_on given r.0 one in
        let low : engine.machine.core.state.vote.leader_id.term ≤ top = subst (λ (v : Vote ℕ). v.leader_id.term ≤ top) (sym (starts_under given.settings saved c.node)) (up_to_greatest term_in net.nodes n c.node c.at) in
        let voted : List Event = elect given now n top c.voters two in
        let z : Elected given now n (record { term = top + 1; node_id = n }) engine (1 + (top - engine.machine.core.state.vote.leader_id.term) + 2 * length c.voters) two voted =
        climb given now n top below_end (top - engine.machine.core.state.vote.leader_id.term) two (may_stand two (r.1.frame n (started_node given.settings saved now c.node) (apart_from n c.voters c.apart) starts_first.here)) few (omega (arith, low)) c.voters c.apart r.1.grants
        (quorum_over (members engine).groups n c.voters (subst (λ e. is_quorum nat_cmp (members e).groups (n ∷ c.voters) ≡ true) same c.quorum)) in
        record {
          events = restart n saved now ∷ (r.0 ++ voted);
          leader_id = record { term = top + 1; node_id = n };
          leads = subst (λ (w : Net (List Entry)). LeadsIn w (record { term = top + 1; node_id = n }) n) (sym (goes_after given past (restart n saved now ∷ (r.0 ++ voted)) ∙ both_run given r.0 voted one)) (leads_in z.won);
          by = n ∷ c.voters;
          quorum = c.quorum;
          latest = each_latest (record { term = top + 1; node_id = n }) (λ N t at. votes_before (record { term = top + 1; node_id = n }) N (let l : N.store.vote.leader_id.term ≤ top = up_to_greatest term_in net.nodes t N at in omega (arith, l))) (n ∷ c.voters);
        }

    by_itself : is_enough now engine ≡ true → IsElected given past (members (engine_at_start given.settings saved c.node)).groups n
    unfolding may_stand
    by_itself enough = record {
      events = restart n saved now ∷ timeout n now ∷ [];
      leader_id = asked_id engine;
      leads = subst (λ (w : Net (List Entry)). LeadsIn w (asked_id engine) n) (sym (goes_after given past (restart n saved now ∷ timeout n now ∷ []))) (leads_alone given one now n (may_stand one starts_first.here) enough);
      by = n ∷ [];
      quorum = subst (λ e. is_quorum nat_cmp (members e).groups (n ∷ []) ≡ true) (sym same) (subst (λ i. is_quorum nat_cmp (members engine).groups (i ∷ []) ≡ true) id (enough_is_quorum now engine enough));
      latest = (
        own_latest (asked_id engine)
            (votes_before (asked_id engine) c.node (let l : engine.machine.core.state.vote.leader_id.term ≡ c.node.store.vote.leader_id.term = ap (λ (v : Vote ℕ). v.leader_id.term) (starts_under given.settings saved c.node) in omega (arith, l))),
        tt,
      );
    }

    pub stands_then : IsElected given past (members (engine_at_start given.settings saved c.node)).groups n
    stands_then = go (is_enough now engine) refl
      where
        go : (b : Bool) → is_enough now engine ≡ b → IsElected given past (members (engine_at_start given.settings saved c.node)).groups n
        go true q = by_itself q
        go false q = with_others q

  -- or it leads at once
  pub leads_then : leads_by_store saved c.node ≡ true → AllByRecursion (λ t. (N : NodeView) → At net.nodes t N → VotesUpTo c.node.store.vote.leader_id N) c.voters → IsElected given past (members (engine_at_start given.settings saved c.node)).groups n
  leads_then lead low = record {
    events = restart n saved now ∷ [];
    leader_id = c.node.store.vote.leader_id;
    leads = subst (λ (w : Net (List Entry)). LeadsIn w c.node.store.vote.leader_id n) (sym (goes_after given past (restart n saved now ∷ []))) (leads_again given saved now c.node lead (not_end (next (last (started nat_cmp entry_meaning saved c.node.store).ids)) own_room.index) net n c.at in_time);
    by = n ∷ c.voters;
    quorum = c.quorum;
    latest = (own_latest c.node.store.vote.leader_id (votes_itself c.node), low);
  }

  pub chosen : IsUndisputed given saved net c → IsElected given past (members (engine_at_start given.settings saved c.node)).groups n
  chosen u = go (leads_by_store saved c.node) refl u
    where
      go : (b : Bool) → leads_by_store saved c.node ≡ b → IsUndisputed given saved net c → IsElected given past (members (engine_at_start given.settings saved c.node)).groups n
      go false q w = stands_then q
      go true q (inl w) = let z : true ≡ false = sym q ∙ w in cc
      go true q (inr w) = leads_then q w
