-- A new leader's engine: what it knows of each node's log, the numbers that it has drawn, and what it has queued. It works that off.
use Rattle.std.proofs.Common.{ℕ, suc, ◌+◌, ◌≤◌, ◌≡◌, ◌≢◌, inl, inr, Bool, true, false, not, cond, List, [], ◌∷◌, ◌++◌, filter, length, map, arith, refl, sym, ap, ◌∙◌, subst, Option, None, Some, Result, Ok, Err}
use Rattle.std.specs.Prelude.{flat_map, if◌then◌else◌, max, nat_eq, slice_get}
use Rattle.std.specs.List.{AllByRecursion}
use Rattle.std.specs.Option.{option_to_list}
use Rattle.std.specs.Ordering.{is_eq, is_ge, nat_cmp}
use Rattle.std.proofs.lemmas.Bool.Decides.{nat_tests}
use Rattle.proof_deeds.specs.raft_state.declared.ids.LeaderId.{LeaderId}
use Rattle.proof_deeds.specs.raft_state.declared.ids.LogId.{LogId}
use Rattle.proof_deeds.specs.raft_state.declared.ids.Vote.{Vote}
use Rattle.proof_deeds.specs.raft_state.declared.membership.StoredMembership.{StoredMembership}
use Rattle.proof_deeds.specs.raft_state.declared.state.ServerState.TheVariants.{Leader}
use Rattle.proof_deeds.specs.raft_state.Log.{last}
use Rattle.proof_deeds.specs.raft_state.Members.{learner_ids, voter_ids}
use Rattle.proof_deeds.specs.raft_state.Order.{last_id_cmp, next, vote_cmp}
use Rattle.proof_deeds.proofs.raft_state_proofs.LogLists.{each_append}
use Rattle.proof_deeds.specs.raft_progress.Table.{get, is_row_of, row_ids, row_of, rows_of, with_value}
use Rattle.proof_deeds.specs.raft_progress_entry.declared.entry.Inflight.{Inflight}
use Rattle.proof_deeds.specs.raft_progress_entry.declared.entry.ProgressEntry.{ProgressEntry}
use Rattle.proof_deeds.specs.raft_progress_entry.Entry.{empty, next_send, sent, silenced}
use Rattle.proof_deeds.specs.raft_error.declared.error.EngineError.{EngineError}
use Rattle.proof_deeds.specs.raft_command.declared.command.Command.TheVariants.{AppendInputEntries, BecomeLeader, RebuildReplicationStreams, SaveVote}
use Rattle.proof_deeds.specs.raft_command.declared.config.EngineConfig.{EngineConfig}
use Rattle.proof_deeds.specs.raft_proposer.Candidate.{as_committed}
use Rattle.proof_deeds.specs.raft_steps.LeaderHandler.{leader_append_entries, proposed}
use Rattle.proof_deeds.specs.raft_steps.Parts.{led_of, leading}
use Rattle.proof_deeds.specs.raft_steps.Refusals.{refusals_of_local_progress}
use Rattle.proof_deeds.specs.raft_steps.ReplicationHandler.{commit_granted, initiate_replication, is_other, own_matched, rebuild_replication_streams, sends_of, sent_row, silenced_row, update_local_progress, with_entry}
use Rattle.proof_deeds.proofs.raft_steps_proofs.Kept.{either}
use Rattle.proof_deeds.specs.raft_store.declared.entry.Entry.{Entry}
use Rattle.proof_deeds.specs.raft_store.Types.{EngineView, WorldCandidate, WorldCommand, WorldLeader, WorldMachine}
use Rattle.proof_deeds.specs.raft_calls.Feeds.{WorldLed, called, feed, hold_own, last_sent}
use Rattle.proof_deeds.specs.raft_node.declared.node.Turn.{Turn}
use Rattle.proof_deeds.specs.raft_node.Execute.{exec}
use Rattle.proof_deeds.specs.raft_node.Runs.{whole_logs}
use Rattle.proof_deeds.specs.raft_node.Work.{Work, weight, work_step, worked}
use Rattle.proof_deeds.proofs.raft_node_proofs.Worked.{worked-step}
use Rattle.proof_deeds.specs.raft_node.Net.{Net}
use Rattle.proof_progress.specs.Continuations.{LeadsIn}
use Rattle.proof_progress.specs.Elections.{Listed}
use Rattle.proof_progress.specs.Exchanges.{LeadsAt}
use Rattle.proof_progress.proofs.Appending.{all_led, local_left, local_queues, sent_left}
use Rattle.proof_progress.proofs.HeldMatches.{row_known}
use Rattle.proof_progress.proofs.KeptVotes.{KeepsCore, KeepsState, WorldState, local_keeps, same_state, state_then}
use Rattle.proof_progress.proofs.Leading.{local_vote, parts}
use Rattle.proof_progress.proofs.LedQueue.{IsLedCommand, LedQueues}
use Rattle.proof_progress.proofs.Numbers.{Left}
use Rattle.proof_progress.proofs.Wins.{MayWin, won_machine}
use Rattle.proof_progress.proofs.Works.{Effected, at_work, queueing}
use Rattle.proof_progress.proofs.WorksOff.{all_streams_stay, each_feeds, exec_each, led_feeds, works_off}

abbrev pub Rows : Type 0
Rows = List (ℕ × ProgressEntry ℕ)

-- the search for each node's log ends no lower than here
abbrev pub Ends : ℕ → Rows → Type 0
Ends p rows = AllByRecursion (λ (row : ℕ × ProgressEntry ℕ). p ≤ row.1.searching_end) rows

module _ (p : ℕ) where
  each_row : (f : ℕ × ProgressEntry ℕ → ℕ × ProgressEntry ℕ) → ((row : ℕ × ProgressEntry ℕ) → p ≤ row.1.searching_end → p ≤ (f row).1.searching_end) → (rows : Rows) → Ends p rows → Ends p (map f rows)
  each_row f g [] a = tt
  each_row f g (row ∷ rows) a = (g row a.0, each_row f g rows a.1)

  pub ends_new : (end : ℕ) → p ≤ end → (ids : List ℕ) → Ends p (rows_of (empty end) ids)
  ends_new end l [] = tt
  ends_new end l (x ∷ ids) = (l, ends_new end l ids)

  pub ends_silenced : (config : EngineConfig ℕ) (rows : Rows) → Ends p rows → Ends p (map (silenced_row nat_cmp config) rows)
  ends_silenced config rows a =
      each_row (silenced_row nat_cmp config) (λ row l. either (λ (r : ℕ × ProgressEntry ℕ). p ≤ r.1.searching_end) (is_other nat_cmp config row) (row.0, silenced row.1) row l l) rows a

  pub ends_sent : (config : EngineConfig ℕ) (s : WorldState) (rows : Rows) → Ends p rows → Ends p (map (sent_row nat_cmp config s) rows)
  ends_sent config s rows a =
      each_row (sent_row nat_cmp config s)
      (λ row l. either (λ (r : ℕ × ProgressEntry ℕ). p ≤ r.1.searching_end) (is_other nat_cmp config row) (row.0, sent row.1 (next_send s config.max_payload_entries row.1)) row (one row.1 (next_send s config.max_payload_entries row.1) l) l) rows a
    where
      one : (e : ProgressEntry ℕ) (r : Result (Inflight ℕ) (Inflight ℕ)) → p ≤ e.searching_end → p ≤ (sent e r).searching_end
      one e (Ok f) l = l
      one e (Err f) l = l

  ends_put : (t : ℕ) (w e : ProgressEntry ℕ) → e.searching_end ≤ w.searching_end → (rows : Rows) → row_of nat_cmp t rows ≡ Some e → Ends p rows → Ends p (map (with_value nat_cmp t w) rows)
  ends_put t w e l rows h a =
      each_row (with_value nat_cmp t w) (λ row m. either (λ (r : ℕ × ProgressEntry ℕ). p ≤ r.1.searching_end) (is_row_of nat_cmp t row) (row.0, w) row bound m) rows a
    where
      bound : p ≤ w.searching_end
      bound = let k : p ≤ e.searching_end = row_known (λ (row : ℕ × ProgressEntry ℕ). p ≤ row.1.searching_end) t e rows a h in omega (arith, k, l)

  pub ends_local : (config : EngineConfig ℕ) (o : Option (LogId ℕ)) (l : WorldLed) → Ends p l.leader.progress.rows → Ends p (update_local_progress nat_cmp config o l).leader.progress.rows
  unfolding update_local_progress
  ends_local config None l a = a
  ends_local config (Some x) l a = go (get nat_cmp l.leader.progress config.id) refl
    where
      left_of_max : (a b : ℕ) → a ≤ max a b
      left_of_max a b = grind (arith, nat_tests)

      by : (c : Bool) (e : ProgressEntry ℕ) → get nat_cmp l.leader.progress config.id ≡ Some e → (let n : WorldLed = if c then l else commit_granted nat_cmp config (with_entry nat_cmp l config.id (own_matched nat_cmp (Some x) e)) in Ends p n.leader.progress.rows)
      by true e q = a
      by false e q = ends_put config.id (own_matched nat_cmp (Some x) e) e (left_of_max e.searching_end (next (Some x))) l.leader.progress.rows q a

      go : (o : Option (ProgressEntry ℕ)) → get nat_cmp l.leader.progress config.id ≡ o → (let n : WorldLed = elim o as (λ _. WorldLed) [
        | None ↦ l
        | Some e ↦ (if is_ge (last_id_cmp nat_cmp e.matching (Some x)) then l else commit_granted nat_cmp config (with_entry nat_cmp l config.id (own_matched nat_cmp (Some x) e)))
      ] in Ends p n.leader.progress.rows)
      go None q = a
      go (Some e) q = by (is_ge (last_id_cmp nat_cmp e.matching (Some x))) e q

-- at most so many requests to each node were numbered
abbrev pub Drawn : ℕ → Rows → Type 0
Drawn j rows = Left j 0 rows

pub drawn_silenced : (b k : ℕ) (config : EngineConfig ℕ) (rows : Rows) → Left b k rows → Left b k (map (silenced_row nat_cmp config) rows)
drawn_silenced b k config [] a = tt
drawn_silenced b k config (row ∷ rows) a =
    (either (λ (r : ℕ × ProgressEntry ℕ). r.1.last_inflight_id + k ≤ b) (is_other nat_cmp config row) (row.0, silenced row.1) row a.0 a.0, drawn_silenced b k config rows a.1)

-- An engine that leads by a vote, of this state but for what is committed: it has drawn few numbers
pub record LeadsAfresh (config : EngineConfig ℕ) (v : Vote ℕ) (s : WorldState) (q p : ℕ) (e : EngineView) : Type 0 where
  pub leader : WorldLeader
  pub leads : e.machine.leader ≡ Some leader
  pub by : leader.vote ≡ v
  pub settings : e.config ≡ config
  pub state : KeepsState s e.machine.core.state
  pub unspent : e.machine.core.output.spent ≡ false
  pub seq : e.machine.core.output.seq ≤ q
  pub drawn : Drawn 2 leader.progress.rows
  pub ends : Ends p leader.progress.rows

module _ (config : EngineConfig ℕ) (v : Vote ℕ) (s : WorldState) (q p : ℕ) (e : EngineView) (h : LeadsAfresh config v s q p e) where
  pub with_items : (cs : List WorldCommand) → LeadsAfresh config v s q p (queueing e cs)
  with_items cs = record {
    leader = h.leader;
    leads = h.leads;
    by = h.by;
    settings = h.settings;
    state = record { vote = h.state.vote; ids = h.state.ids; em = h.state.em; time = h.state.time; purge_to = h.state.purge_to };
    unspent = h.unspent;
    seq = h.seq;
    drawn = h.drawn;
    ends = h.ends;
  }

  -- it acknowledges its own log
  acknowledges : (x : Option (LogId ℕ)) → LeadsAfresh config v s (q + 2) p (hold_own x h.leader e)
  acknowledges x = go (refusals_of_local_progress nat_cmp e.config x led)
    where
      led : WorldLed
      led = led_of h.leader e.machine.core.state e.machine.core.output

      more : (a b c : ℕ) → a ≤ b + 2 → b ≤ c → a ≤ c + 2
      more a b c l m = omega (arith, l, m)

      same : (a c : ℕ) → a ≤ c → a ≤ c + 2
      same a c l = omega (arith, l)

      go : (r : Option (EngineError ℕ (Unit {0}))) → LeadsAfresh config v s (q + 2) p (called r e (leading e.machine (update_local_progress nat_cmp e.config x (led_of h.leader e.machine.core.state e.machine.core.output))))
      go None =
          let k : KeepsCore led.core (update_local_progress nat_cmp e.config x led).core = local_keeps e.config x led in
          let n : LedQueues 2 led.core (update_local_progress nat_cmp e.config x led).core = local_queues e.config x led in
          record {
            leader = (update_local_progress nat_cmp e.config x led).leader;
            leads = refl;
            by = local_vote e.config x led ∙ h.by;
            settings = h.settings;
            state = state_then s e.machine.core.state _ h.state k.state;
            unspent = k.spent ∙ h.unspent;
            seq = more _ _ q n.seq h.seq;
            drawn = local_left 2 e.config 0 x led h.drawn;
            ends = ends_local p e.config x led h.ends;
          }
      go (Some r) = record { leader = h.leader; leads = h.leads; by = h.by; settings = h.settings; state = h.state; unspent = h.unspent; seq = same _ q h.seq; drawn = h.drawn; ends = h.ends }

-- so it does once its entries are stored; behind what it has queued, it queues commands that feed nothing back
module _ (config : EngineConfig ℕ) (v : Vote ℕ) (s : WorldState) (q p : ℕ) (f : EngineView) (h : LeadsAfresh config v s q p f) (now : ℕ) (w : Vote ℕ) (es : List Entry) (sends : List WorldCommand) (each : AllByRecursion (λ (c : WorldCommand). IsLedCommand c) sends) where
  record FedAfresh (g : EngineView) : Type 0 where
    fresh : LeadsAfresh config v s (q + 2) p g
    queue : AllByRecursion (λ (c : WorldCommand). IsLedCommand c) g.machine.core.output.items

  abbrev pub acknowledged : EngineView
  acknowledged = feed now (AppendInputEntries w es) (queueing f sends)

  fed_afresh : FedAfresh (feed now (AppendInputEntries w es) (queueing f sends))
  unfolding with_items
  fed_afresh = of f.machine.leader h.leads
    where
      here : LeadsAfresh config v s q p (queueing f sends)
      here = with_items config v s q p f h sends

      items_led : (r : Option (EngineError ℕ (Unit {0}))) → (let g = called r (queueing f sends) (leading (queueing f sends).machine (update_local_progress nat_cmp f.config (last_sent None es) (led_of h.leader f.machine.core.state (queueing f sends).machine.core.output))) in
          AllByRecursion (λ (c : WorldCommand). IsLedCommand c) g.machine.core.output.items)
      items_led None =
          let l : WorldLed = led_of h.leader f.machine.core.state (queueing f sends).machine.core.output in
          let n : LedQueues 2 l.core (update_local_progress nat_cmp f.config (last_sent None es) l).core = local_queues f.config (last_sent None es) l in
          subst (AllByRecursion (λ (c : WorldCommand). IsLedCommand c)) (sym n.behind) (each_append (λ (c : WorldCommand). IsLedCommand c) sends n.added each n.each)
      items_led (Some r) = each

      same : (a c : ℕ) → a ≤ c → a ≤ c + 2
      same a c l = omega (arith, l)

      go : (b : Bool) → FedAfresh (if b then hold_own (last_sent None es) h.leader (queueing f sends) else queueing f sends)
      go true = record {
        fresh = acknowledges config v s q p (queueing f sends) here (last_sent None es);
        queue = items_led (refusals_of_local_progress nat_cmp f.config (last_sent None es) (led_of h.leader f.machine.core.state (queueing f sends).machine.core.output));
      }
      go false = record {
        fresh = record { leader = here.leader; leads = here.leads; by = here.by; settings = here.settings; state = here.state; unspent = here.unspent; seq = same _ q here.seq; drawn = here.drawn; ends = here.ends };
        queue = each;
      }

      of : (o : Option WorldLeader) → o ≡ Some h.leader
          → FedAfresh (elim o as (λ _. EngineView) [ None ↦ queueing f sends | Some l ↦ (if is_eq (vote_cmp nat_cmp l.vote w) then hold_own (last_sent None es) l (queueing f sends) else queueing f sends) ])
      of None q = cc
      of (Some l) q =
          let z : h.leader ≡ l = cc in
          subst (λ (l : WorldLeader). FedAfresh (if is_eq (vote_cmp nat_cmp l.vote w) then hold_own (last_sent None es) l (queueing f sends) else queueing f sends)) z (go (is_eq (vote_cmp nat_cmp h.leader.vote w)))

  -- the queue is worked off
  pub record WorkedAfresh (E : Effected) (x : Work (List Entry)) : Type 0 where
    pub engine : EngineView
    pub effects : Effected
    pub is : x ≡ at_work engine effects
    pub fresh : LeadsAfresh config v s (q + 2) p engine
    pub streams : effects.streams ≡ E.streams

  busy : (n : ℕ) → nat_eq (suc n) 0 ≡ false
  busy n = grind (arith, nat_tests)

  pub works_afresh : (t : Turn) (E : Effected) → t.moment ≡ now
      → WorkedAfresh E (worked whole_logs (weight (at_work (queueing f (AppendInputEntries w es ∷ sends)) E)) t (at_work (queueing f (AppendInputEntries w es ∷ sends)) E))
  works_afresh t E m =
      let g : EngineView = acknowledged in
      let F : Effected = exec whole_logs t (queueing f sends) (AppendInputEntries w es) E in
      let cs : List WorldCommand = acknowledged.machine.core.output.items in
      record {
        engine = queueing g [];
        effects = exec_each t g cs F;
        is =
            sym (worked-step whole_logs t (at_work (queueing f (AppendInputEntries w es ∷ sends)) E) (busy (length sends)))
            ∙ (ap (λ (k : ℕ). let u : Work (List Entry) = at_work (feed k (AppendInputEntries w es) (queueing f sends)) F in worked whole_logs (weight u) t u) m
            ∙ works_off t g cs F (each_feeds (λ (c : WorldCommand). IsLedCommand c) t.moment g (led_feeds t.moment g) cs fed_afresh.queue));
        fresh = with_items config v s (q + 2) p g fed_afresh.fresh [];
        streams = all_streams_stay t g cs fed_afresh.queue F;
      }

-- A candidate that has won

-- its streams go to all others of its membership
targets_in : (config : EngineConfig ℕ) (e : ProgressEntry ℕ) (ids : List ℕ) (t : ℕ) → t ≢ config.id → Listed ids t → Listed (map (λ (x : ℕ × ProgressEntry ℕ). x.0) (filter (is_other nat_cmp config) (map (silenced_row nat_cmp config) (rows_of e ids)))) t
targets_in config e [] t d h = absurd h
targets_in config e (x ∷ ids) t d h = go (is_eq (nat_cmp config.id x)) refl h (targets_in config e ids t d)
  where
    rest : Rows
    rest = filter (is_other nat_cmp config) (map (silenced_row nat_cmp config) (rows_of e ids))

    named : (a b : ℕ) → is_eq (nat_cmp a b) ≡ true → a ≡ b
    named a b q = grind (arith, nat_tests)

    go : (b : Bool) → is_eq (nat_cmp config.id x) ≡ b → Listed (x ∷ ids) t → (Listed ids t → Listed (map (λ (y : ℕ × ProgressEntry ℕ). y.0) rest) t)
        → Listed (map (λ (y : ℕ × ProgressEntry ℕ). y.0) (cond (is_other nat_cmp config (if not b then (x, silenced e) else (x, e))) ((if not b then (x, silenced e) else (x, e)) ∷ filter (is_other nat_cmp config) (map (silenced_row nat_cmp config) (rows_of e ids))) (filter (is_other nat_cmp config) (map (silenced_row nat_cmp config) (rows_of e ids))))) t
    go true q (inl z) f = absurd (d (sym z ∙ sym (named config.id x q)))
    go true q (inr z) f = rw q (f z)
    go false q (inl z) f = rw q (inl z)
    go false q (inr z) f = rw q (inr (f z))

pub record WonAfresh (config : EngineConfig ℕ) (c : WorldCandidate) (m : WorldMachine) (v : Vote ℕ) (made : WorldMachine) : Type 0 where
  pub leader : WorldLeader
  pub leads : made.leader ≡ Some leader
  pub by : leader.vote ≡ v
  pub alone : made.candidate ≡ None
  pub vote : made.core.state.vote ≡ v
  pub em : made.core.state.em ≡ m.core.state.em
  pub purge_to : made.core.state.purge_to ≡ m.core.state.purge_to
  pub noop : LogId ℕ
  pub at_end : noop.index ≡ next c.last_log_id
  pub ids : made.core.state.ids ≡ m.core.state.ids ++ noop ∷ []
  pub unspent : made.core.output.spent ≡ m.core.output.spent
  pub seq : made.core.output.seq ≡ m.core.output.seq
  pub drawn : Drawn 2 leader.progress.rows
  pub ends : Ends (next c.last_log_id) leader.progress.rows
  pub streams : Rows
  pub targets : (t : ℕ) → t ≢ config.id → Listed (row_ids c.progress ++ c.learner_ids) t → Listed (map (λ (x : ℕ × ProgressEntry ℕ). x.0) streams) t
  pub entries : List Entry
  pub sends : List WorldCommand
  pub each : AllByRecursion (λ (c : WorldCommand). IsLedCommand c) sends
  pub items : made.core.output.items ≡ m.core.output.items ++ RebuildReplicationStreams streams ∷ SaveVote v ∷ BecomeLeader ∷ AppendInputEntries v entries ∷ sends

module _ (config : EngineConfig ℕ) (c : WorldCandidate) (now : ℕ) (m : WorldMachine) (h : MayWin config c m) where
  joined_up : {X : Type 0} (xs : List X) (a b c d : X) (ys : List X) → ((((xs ++ a ∷ []) ++ b ∷ []) ++ c ∷ []) ++ d ∷ []) ++ ys ≡ xs ++ a ∷ b ∷ c ∷ d ∷ ys
  joined_up [] a b c d ys = refl
  joined_up (x ∷ xs) a b c d ys = ap (λ t. x ∷ t) (joined_up xs a b c d ys)

  one_last : (o : Option (LogId ℕ)) → next o ≤ next (last (option_to_list o))
  one_last None = omega arith
  one_last (Some x) = omega arith

  same_last : (o : Option (LogId ℕ)) → next (last (option_to_list o)) ≡ next o
  same_last None = refl
  same_last (Some x) = refl

  abbrev first : LogId ℕ
  first = record { leader_id = c.vote.leader_id; index = next (last (option_to_list c.last_log_id)) }

  abbrev state : WorldState
  state = record m.core.state { vote = as_committed c.vote; time = Some now; role = Leader; ids = m.core.state.ids ++ first ∷ [] }

  abbrev new_rows : Rows
  new_rows = rows_of (empty (next (last (option_to_list c.last_log_id)))) (row_ids c.progress ++ c.learner_ids)

  abbrev silent_rows : Rows
  silent_rows = map (silenced_row nat_cmp config) (rows_of (empty (next (last (option_to_list c.last_log_id)))) (row_ids c.progress ++ c.learner_ids))

  drawn_most : (ids : List ℕ) → Left 2 1 (rows_of (empty (next (last (option_to_list c.last_log_id)))) ids)
  drawn_most [] = tt
  drawn_most (x ∷ ids) = (omega arith, drawn_most ids)

  pub won_afresh : WonAfresh config c m (as_committed c.vote) (won_machine config c now m h)
  unfolding leader_append_entries proposed initiate_replication rebuild_replication_streams
  won_afresh = record {
    leader = _;
    leads = refl;
    by = refl;
    alone = refl;
    vote = refl;
    em = refl;
    purge_to = refl;
    noop = first;
    at_end = same_last c.last_log_id;
    ids = refl;
    unspent = refl;
    seq = refl;
    drawn = sent_left config state 2 0 silent_rows (drawn_silenced 2 1 config new_rows (drawn_most (row_ids c.progress ++ c.learner_ids)));
    ends = ends_sent (next c.last_log_id) config state silent_rows (ends_silenced (next c.last_log_id) config new_rows (ends_new (next c.last_log_id) (next (last (option_to_list c.last_log_id))) (one_last c.last_log_id) (row_ids c.progress ++ c.learner_ids)));
    streams = filter (is_other nat_cmp config) silent_rows;
    targets = λ t d l. targets_in config (empty (next (last (option_to_list c.last_log_id)))) (row_ids c.progress ++ c.learner_ids) t d l;
    entries = _;
    sends = flat_map (sends_of nat_cmp config false state) silent_rows;
    each = all_led config state silent_rows;
    items = joined_up m.core.output.items _ _ _ _ _;
  }

-- It works off its queue: its streams begin, its vote is saved, it is recorded, and then it is a leader that stores its no-op entry
module _ (config : EngineConfig ℕ) (c : WorldCandidate) (m : WorldMachine) (v : Vote ℕ) (e : EngineView) (h : WonAfresh config c m v e.machine) (clean : m.core.output.spent ≡ false) (t : Turn) (E : Effected) where
  abbrev pub behind : List WorldCommand
  behind = AppendInputEntries v h.entries ∷ h.sends

  -- the engine then, with other items queued
  abbrev pub settled : List WorldCommand → EngineView
  settled cs = parts v t E e cs (Some h.leader) None v

  abbrev pub begun : Effected
  begun =
      exec whole_logs t (settled behind) BecomeLeader
      (exec whole_logs t (settled (BecomeLeader ∷ behind)) (SaveVote v) (exec whole_logs t (settled (SaveVote v ∷ BecomeLeader ∷ behind)) (RebuildReplicationStreams h.streams) E))

  pub leads_first : LeadsAfresh e.config v (settled h.sends).machine.core.state e.machine.core.output.seq (next c.last_log_id) (settled h.sends)
  leads_first = record {
    leader = h.leader;
    leads = refl;
    by = h.by;
    settings = refl;
    state = same_state (settled h.sends).machine.core.state;
    unspent = h.unspent ∙ clean;
    seq = omega arith;
    drawn = h.drawn;
    ends = h.ends;
  }

  busy_still : (n : ℕ) → nat_eq (suc n) 0 ≡ false
  busy_still n = grind (arith, nat_tests)

  canonical : e.machine.core.output.items ≡ RebuildReplicationStreams h.streams ∷ SaveVote v ∷ BecomeLeader ∷ behind → e ≡ settled (RebuildReplicationStreams h.streams ∷ SaveVote v ∷ BecomeLeader ∷ behind)
  canonical items =
      ap (λ cs. parts v t E e cs e.machine.leader e.machine.candidate e.machine.core.state.vote) items
      ∙ (ap (λ l. parts v t E e (RebuildReplicationStreams h.streams ∷ SaveVote v ∷ BecomeLeader ∷ behind) l e.machine.candidate e.machine.core.state.vote) h.leads
      ∙ (ap (λ k. parts v t E e (RebuildReplicationStreams h.streams ∷ SaveVote v ∷ BecomeLeader ∷ behind) (Some h.leader) k e.machine.core.state.vote) h.alone
      ∙ ap (λ w. parts v t E e (RebuildReplicationStreams h.streams ∷ SaveVote v ∷ BecomeLeader ∷ behind) (Some h.leader) None w) h.vote))

  steps : e.machine.core.output.items ≡ RebuildReplicationStreams h.streams ∷ SaveVote v ∷ BecomeLeader ∷ behind
      → worked whole_logs (weight (at_work e E)) t (at_work e E) ≡ worked whole_logs (weight (at_work (queueing (settled h.sends) behind) begun)) t (at_work (queueing (settled h.sends) behind) begun)
  steps items =
      let w0 : Work (List Entry) = at_work (settled (RebuildReplicationStreams h.streams ∷ SaveVote v ∷ BecomeLeader ∷ behind)) E in
      let w1 : Work (List Entry) = work_step whole_logs t w0 in
      let w2 : Work (List Entry) = work_step whole_logs t w1 in
      ap (λ (f : EngineView). worked whole_logs (weight (at_work f E)) t (at_work f E)) (canonical items)
      ∙ (sym (worked-step whole_logs t w0 (busy_still (suc (suc (length behind)))))
      ∙ (sym (worked-step whole_logs t w1 (busy_still (suc (length behind)))) ∙ sym (worked-step whole_logs t w2 (busy_still (length behind)))))

  pub elected_works : e.machine.core.output.items ≡ RebuildReplicationStreams h.streams ∷ SaveVote v ∷ BecomeLeader ∷ behind
      → WorkedAfresh e.config v (settled h.sends).machine.core.state e.machine.core.output.seq (next c.last_log_id) (settled h.sends) leads_first t.moment v h.entries h.sends h.each begun (worked whole_logs (weight (at_work e E)) t (at_work e E))
  elected_works items =
      let a =
      works_afresh e.config v (settled h.sends).machine.core.state e.machine.core.output.seq (next c.last_log_id) (settled h.sends) leads_first t.moment v h.entries h.sends h.each t begun refl in
      record { engine = a.engine; effects = a.effects; is = steps items ∙ a.is; fresh = a.fresh; streams = a.streams }

-- A node that leads since an election, which it began with this engine
pub record LeadsSince (b : EngineView) (d : LeaderId ℕ) (net : Net (List Entry)) (now n : ℕ) : Type 0 where
  pub leads : LeadsAt net now n
  pub by : leads.leader.vote ≡ record { leader_id = d; committed = true }
  pub log : List Entry
  pub number : ℕ
  pub established : slice_get net.records.established number ≡ Some (record { leader_id = d; log = log })
  pub settings : leads.engine.config ≡ b.config
  pub em : leads.engine.machine.core.state.em ≡ b.machine.core.state.em
  pub purge_to : leads.engine.machine.core.state.purge_to ≡ b.machine.core.state.purge_to
  pub noop : LogId ℕ
  pub at_end : noop.index ≡ next (last b.machine.core.state.ids)
  pub ids : leads.engine.machine.core.state.ids ≡ b.machine.core.state.ids ++ noop ∷ []
  pub seq : leads.engine.machine.core.output.seq ≤ b.machine.core.output.seq + 2
  pub drawn : Drawn 2 leads.leader.progress.rows
  pub ends : Ends (next (last b.machine.core.state.ids)) leads.leader.progress.rows
  pub targets : (t : ℕ) → t ≢ b.config.id → Listed (voter_ids nat_cmp b.machine.core.state.em.membership ++ learner_ids nat_cmp b.machine.core.state.em.membership) t → Listed leads.node.streams.targets t

pub leads_in : {b : EngineView} {d : LeaderId ℕ} {net : Net (List Entry)} {now n : ℕ} → LeadsSince b d net now n → LeadsIn net d n
leads_in h = record {
  node = h.leads.node;
  at = h.leads.at;
  engine = h.leads.engine;
  runs = h.leads.runs;
  leader = h.leads.leader;
  leads = h.leads.leads;
  vote = h.by;
  log = h.log;
  number = h.number;
  established = h.established;
}

-- an engine has the settings, the log and the membership of an earlier one, and has drawn no number since
pub record Since (b e : EngineView) : Type 0 where
  pub settings : e.config ≡ b.config
  pub em : e.machine.core.state.em ≡ b.machine.core.state.em
  pub ids : e.machine.core.state.ids ≡ b.machine.core.state.ids
  pub purge_to : e.machine.core.state.purge_to ≡ b.machine.core.state.purge_to
  pub seq : e.machine.core.output.seq ≡ b.machine.core.output.seq

pub since_then : (a b : EngineView) → Since a b → (d : LeaderId ℕ) (net : Net (List Entry)) (now n : ℕ) → LeadsSince b d net now n → LeadsSince a d net now n
since_then a b s d net now n h = record {
  leads = h.leads;
  by = h.by;
  log = h.log;
  number = h.number;
  established = h.established;
  settings = h.settings ∙ s.settings;
  em = h.em ∙ s.em;
  purge_to = h.purge_to ∙ s.purge_to;
  noop = h.noop;
  at_end = h.at_end ∙ ap (λ (xs : List (LogId ℕ)). next (last xs)) s.ids;
  ids = h.ids ∙ ap (λ xs. xs ++ h.noop ∷ []) s.ids;
  seq = subst (λ k. h.leads.engine.machine.core.output.seq ≤ k + 2) s.seq h.seq;
  drawn = h.drawn;
  ends = subst (λ (xs : List (LogId ℕ)). Ends (next (last xs)) h.leads.leader.progress.rows) s.ids h.ends;
  targets = λ t d l. h.targets t (λ z. d (z ∙ ap (λ (c : EngineConfig ℕ). c.id) s.settings))
      (subst (λ (x : StoredMembership ℕ (Unit {0})). Listed (voter_ids nat_cmp x.membership ++ learner_ids nat_cmp x.membership) t) (sym s.em) l);
}
