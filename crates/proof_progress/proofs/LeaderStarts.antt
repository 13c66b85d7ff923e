-- A node that leads by its stored vote leads at once as it starts; any node that starts has its stored vote, and no lease.
use Rattle.std.proofs.Common.{ℕ, ◌+◌, ◌-◌, ◌^◌, ◌≡◌, Bool, true, false, not, ◌&&◌, List, [], ◌∷◌, ◌++◌, refl, sym, ap, ◌∙◌, subst, Option, None, Some}
use Rattle.std.specs.Prelude.{◌==◌, Err, Ok, Result, flat_map, if◌then◌else◌}
use Rattle.std.specs.List.{AllByRecursion}
use Rattle.std.specs.Ordering.{is_eq, is_lt, nat_cmp}
use Rattle.std.specs.Cmp.{tied_itself}
use Rattle.std.specs.Prelude.{slice_get}
use Rattle.std.proofs.Common.{arith, length}
use Rattle.std.proofs.lemmas.Cmp.{nat_cmp_total}
use Rattle.std.proofs.lemmas.List.{length-append}
use Rattle.proof_deeds.specs.raft_state.declared.ids.LeaderId.{LeaderId}
use Rattle.proof_deeds.specs.raft_state.Same.{leader_id_same, nat_same}
use Rattle.proof_deeds.proofs.raft_state_proofs.Orders.{is_equal, last_total}
use Rattle.proof_deeds.specs.raft_state.declared.ids.LogId.{LogId}
use Rattle.proof_deeds.specs.raft_state.declared.ids.Vote.{Vote}
use Rattle.proof_deeds.specs.raft_state.declared.state.ServerState.TheVariants.{Leader, Learner}
use Rattle.proof_deeds.specs.raft_state.Log.{last}
use Rattle.proof_deeds.specs.raft_state.Order.{last_id_cmp, leader_id_cmp, next}
use Rattle.proof_deeds.specs.raft_state.State.{by_last_leader, is_leader, server_state}
use Rattle.proof_deeds.proofs.raft_state_proofs.LogLists.{each_append}
use Rattle.proof_deeds.specs.raft_progress_entry.declared.entry.Inflight.{Inflight}
use Rattle.proof_deeds.specs.raft_progress_entry.declared.entry.Inflight.TheVariants as inflight
use Rattle.proof_deeds.specs.raft_progress_entry.declared.entry.ProgressEntry.{ProgressEntry}
use Rattle.proof_deeds.specs.raft_progress_entry.Entry.{next_send}
use Rattle.proof_deeds.specs.raft_error.declared.error.EngineError.{EngineError}
use Rattle.proof_deeds.specs.raft_error.declared.error.EngineError.TheVariants.{IndexEnd}
use Rattle.proof_deeds.specs.raft_error.Number.{first_refusal}
use Rattle.proof_deeds.specs.raft_proposer.Joint.{u64_max}
use Rattle.proof_deeds.specs.raft_proposer.Leader.{blank_id, leader_in}
use Rattle.proof_deeds.specs.raft_command.declared.config.EngineConfig.{EngineConfig}
use Rattle.proof_deeds.specs.raft_command.declared.command.Command.TheVariants.{BecomeLeader, RebuildReplicationStreams}
use Rattle.proof_deeds.specs.raft_steps.LeaderHandler.{leader_append_entries, proposed}
use Rattle.proof_deeds.specs.raft_steps.Parts.{idle, leading, on_leader, under}
use Rattle.proof_deeds.specs.raft_steps.ReplicationHandler.{initiate_replication, is_other, rebuild_replication_streams, send_commands, sends_of, update_local_progress}
use Rattle.proof_deeds.specs.raft_steps.ServerStateHandler.{role_commands, update_role}
use Rattle.proof_deeds.proofs.raft_steps_proofs.Ends.{by_last_leader_ends}
use Rattle.proof_deeds.specs.raft_steps.Room.{is_full, leads_anew}
use Rattle.proof_deeds.specs.raft_steps.Starts.{lead_on, refusals_of_startup, started_role, startup}
use Rattle.proof_deeds.specs.raft_steps.VoteHandler.{become_leader, begin_lead, lead_anew, update_internal_server_state}
use Rattle.proof_deeds.specs.raft_store.Entries.{entry_meaning}
use Rattle.proof_deeds.specs.raft_store.Restart.{is_outrun, settled_by, started}
use Rattle.proof_deeds.specs.raft_store.Types.{EngineView, WorldCommand, WorldLeader, WorldMachine, WorldStore}
use Rattle.proof_deeds.specs.raft_calls.Deliveries.{answered, with_machine}
use Rattle.proof_deeds.specs.raft_calls.Feeds.{WorldLed}
use Rattle.proof_deeds.specs.raft_node.Net.{NodeView}
use Rattle.proof_deeds.specs.raft_node.Starts.{engine_on}
use Rattle.proof_progress.specs.Choices.{engine_at_start}
use Rattle.proof_progress.proofs.Elects.{if_false, if_true}
use Rattle.proof_progress.proofs.KeptVotes.{KeepsCore, Stays, WorldState, local_keeps}
use Rattle.proof_progress.proofs.Leading.{get_end, local_vote}

-- an engine that has just this state
abbrev pub resting : WorldState → WorldMachine
resting s = idle s

-- A leader begins

longer : {X : Type 0} (xs : List X) (a : X) (ys zs : List X) → (xs ++ a ∷ ys) ++ zs ≡ xs ++ a ∷ (ys ++ zs)
longer [] a ys zs = refl
longer (x ∷ xs) a ys zs = ap (λ t. x ∷ t) (longer xs a ys zs)

-- what is sent to other nodes leaves the streams
send_stays : (target : ℕ) (r : Result (Inflight ℕ) (Inflight ℕ)) → AllByRecursion Stays (send_commands false target r)
send_stays target (Ok f) = (tt, tt)
send_stays target (Err inflight.None) = tt
send_stays target (Err (inflight.Logs i range)) = tt
send_stays target (Err (inflight.Snapshot i x)) = tt

all_stay : (config : EngineConfig ℕ) (s : WorldState) (rows : List (ℕ × ProgressEntry ℕ)) → AllByRecursion Stays (flat_map (sends_of nat_cmp config false s) rows)
all_stay config s [] = tt
all_stay config s (row ∷ rows) = each_append Stays (sends_of nat_cmp config false s row) (flat_map (sends_of nat_cmp config false s) rows) (one (is_other nat_cmp config row)) (all_stay config s rows)
  where
    one : (b : Bool) → AllByRecursion Stays (if b then send_commands false row.0 (next_send s config.max_payload_entries row.1) else [])
    one true = send_stays row.0 (next_send s config.max_payload_entries row.1)
    one false = tt

-- a no-op entry's id is its leader's
pub blank_own : (v : Vote ℕ) (ids : List (LogId ℕ)) → (blank_id nat_cmp v ids).leader_id ≡ v.leader_id
blank_own v [] = refl
blank_own v (x ∷ ids) = go (is_eq (leader_id_cmp nat_cmp x.leader_id v.leader_id)) refl
  where
    leader_in_id : LogId ℕ → LeaderId ℕ
    leader_in_id y = y.leader_id

    go : (b : Bool) → is_eq (leader_id_cmp nat_cmp x.leader_id v.leader_id) ≡ b → leader_in_id (if b then x else record { leader_id = v.leader_id; index = next (last (x ∷ ids)) }) ≡ v.leader_id
    go true q = leader_id_same nat_cmp nat_same x.leader_id v.leader_id (is_equal _ q)
    go false q = refl

module _ (config : EngineConfig ℕ) (s : WorldState) where
  -- a new leader of this state
  abbrev anew : WorldLed
  anew = record { leader = leader_in nat_cmp s.vote s.em.membership (by_last_leader nat_cmp s.ids); core = (resting s).core }

  -- a log ends at or above an id of the state's leader
  pub record EndsOwn (ids : List (LogId ℕ)) : Type 0 where
    pub id : LogId ℕ
    pub own : id.leader_id ≡ s.vote.leader_id
    pub end : is_lt (last_id_cmp nat_cmp (last ids) (Some id)) ≡ false

  pushed_end : (ids : List (LogId ℕ)) (x : LogId ℕ) → x.leader_id ≡ s.vote.leader_id → EndsOwn (ids ++ x ∷ [])
  pushed_end ids x q =
      let l : length (ids ++ x ∷ []) - 1 ≡ length ids = omega (arith, length-append ids (x ∷ [])) in
      record {
        id = x;
        own = q;
        end = subst (λ o. is_lt (last_id_cmp nat_cmp o (Some x)) ≡ false) (sym (ap (slice_get (ids ++ x ∷ [])) l ∙ get_end ids x [])) (ap is_lt (tied_itself (last_total nat_cmp nat_cmp_total) (Some x)));
      }

  -- it leads under the state's vote, and its queue begins with its role and its streams
  record Begun (l : WorldLed) : Type 0 where
    by : l.leader.vote ≡ s.vote
    vote : l.core.state.vote ≡ s.vote
    em : l.core.state.em ≡ s.em
    time : l.core.state.time ≡ s.time
    spent : l.core.output.spent ≡ false
    streams : List (ℕ × ProgressEntry ℕ)
    more : List WorldCommand
    items : l.core.output.items ≡ role_commands s.role (server_state nat_cmp s config.id) ++ RebuildReplicationStreams streams ∷ more
    stays : AllByRecursion Stays more
    own_end : EndsOwn l.core.state.ids

  -- sending to the other nodes it goes on so
  sends : (l : WorldLed) → Begun l → Begun (initiate_replication nat_cmp config false l)
  unfolding initiate_replication
  sends l h =
      let cs : List WorldCommand = flat_map (sends_of nat_cmp config false l.core.state) l.leader.progress.rows in
      record {
        by = h.by;
        vote = h.vote;
        em = h.em;
        time = h.time;
        spent = h.spent;
        streams = h.streams;
        more = h.more ++ cs;
        items = ap (λ xs. xs ++ cs) h.items ∙ longer (role_commands s.role (server_state nat_cmp s config.id)) (RebuildReplicationStreams h.streams) h.more cs;
        stays = each_append Stays h.more cs h.stays (all_stay config l.core.state l.leader.progress.rows);
        own_end = h.own_end;
      }

  begins : Begun (begin_lead nat_cmp entry_meaning config anew)
  unfolding begin_lead rebuild_replication_streams update_role leader_append_entries proposed initiate_replication
  begins = go (is_lt (last_id_cmp nat_cmp anew.leader.last_log_id (Some anew.leader.noop_log_id))) refl
    where
      go : (b : Bool) → is_lt (last_id_cmp nat_cmp anew.leader.last_log_id (Some anew.leader.noop_log_id)) ≡ b
          → Begun (if b then leader_append_entries nat_cmp entry_meaning config (entry_meaning.blank anew.leader.noop_log_id ∷ []) (rebuild_replication_streams nat_cmp config (under (update_role nat_cmp config) anew)) else rebuild_replication_streams nat_cmp config (under (update_role nat_cmp config) anew))
      go true q =
          sends (proposed entry_meaning (entry_meaning.blank anew.leader.noop_log_id ∷ []) (rebuild_replication_streams nat_cmp config (under (update_role nat_cmp config) anew)))
          (record {
            by = refl;
            vote = refl;
            em = refl;
            time = refl;
            spent = refl;
            streams = _;
            more = _ ∷ [];
            items = longer (role_commands s.role (server_state nat_cmp s config.id)) _ [] (_ ∷ []);
            stays = (tt, tt);
            own_end = pushed_end s.ids (record { leader_id = s.vote.leader_id; index = next anew.leader.last_log_id }) refl;
          })
      go false q = record {
        by = refl;
        vote = refl;
        em = refl;
        time = refl;
        spent = refl;
        streams = _;
        more = [];
        items = refl;
        stays = tt;
        own_end = record { id = anew.leader.noop_log_id; own = blank_own s.vote (by_last_leader nat_cmp s.ids); end = subst (λ o. is_lt (last_id_cmp nat_cmp o (Some anew.leader.noop_log_id)) ≡ false) (by_last_leader_ends nat_cmp s.ids) q };
      }

  -- so it does acknowledging its log
  tells : (l : WorldLed) → Begun l → Begun (update_local_progress nat_cmp config (last l.core.state.ids) l)
  tells l h =
      let k : KeepsCore l.core (update_local_progress nat_cmp config (last l.core.state.ids) l).core = local_keeps config (last l.core.state.ids) l in
      record {
        by = local_vote config (last l.core.state.ids) l ∙ h.by;
        vote = k.state.vote ∙ h.vote;
        em = k.state.em ∙ h.em;
        time = k.state.time ∙ h.time;
        spent = k.spent ∙ h.spent;
        streams = h.streams;
        more = h.more ++ k.more;
        items = k.items ∙ (ap (λ xs. xs ++ k.more) h.items ∙ longer (role_commands s.role (server_state nat_cmp s config.id)) (RebuildReplicationStreams h.streams) h.more k.more);
        stays = each_append Stays h.more k.more h.stays k.stays;
        own_end = subst EndsOwn (sym k.state.ids) h.own_end;
      }

  goes_on : (l : WorldLed) → Begun l → Begun (lead_on nat_cmp config l)
  goes_on l h = sends (update_local_progress nat_cmp config (last l.core.state.ids) l) (tells l h)

  startup_is : is_leader nat_cmp s config.id ≡ true → startup nat_cmp entry_meaning config (resting s) ≡ leading (resting s) (lead_on nat_cmp config (begin_lead nat_cmp entry_meaning config anew))
  unfolding startup update_internal_server_state become_leader lead_anew
  startup_is lead =
      if_true (is_leader nat_cmp s config.id) (on_leader (lead_on nat_cmp config) (update_internal_server_state nat_cmp entry_meaning config (resting s))) _ lead
      ∙ ap (on_leader (lead_on nat_cmp config)) (if_true (is_leader nat_cmp s config.id) (become_leader nat_cmp entry_meaning config (resting s)) _ lead)

  -- without the vote of a leader it follows
  follows_is : is_leader nat_cmp s config.id ≡ false → startup nat_cmp entry_meaning config (resting s) ≡ resting (record s { role = started_role nat_cmp config s })
  unfolding startup
  follows_is q = if_false (is_leader nat_cmp s config.id) _ _ q

-- Any node that starts

-- it keeps the stored vote, whatever its entries
stored_vote : (t : WorldStore) (o : Option (LogId ℕ)) → (settled_by nat_cmp entry_meaning t o).vote ≡ t.vote
stored_vote t None = refl
stored_vote t (Some x) = go (is_outrun nat_cmp entry_meaning t x)
  where
    vote_in : WorldStore → Vote ℕ
    vote_in u = u.vote

    go : (b : Bool) → vote_in (if b then record t { log = []; front = Some x } else t) ≡ t.vote
    go true = refl
    go false = refl

-- it has the stored vote and its own id; it has no lease, asks for no votes, and its queue isn't spent
pub record Starts (settings : EngineConfig ℕ) (N : NodeView) (e : EngineView) : Type 0 where
  pub config : e.config ≡ record settings { id = N.id }
  pub vote : e.machine.core.state.vote ≡ N.store.vote
  pub time : e.machine.core.state.time ≡ None
  pub spent : e.machine.core.output.spent ≡ false
  pub alone : e.machine.candidate ≡ None

-- where it leads by its stored vote, its log ends at or above an id of its own
pub record OwnEnd (d : LeaderId ℕ) (x : Option (LogId ℕ)) : Type 0 where
  pub id : LogId ℕ
  pub own : id.leader_id ≡ d
  pub end : is_lt (last_id_cmp nat_cmp x (Some id)) ≡ false

-- it leads by this vote, and will be recorded as established first
pub record LeadsAtOnce (v : Vote ℕ) (e : EngineView) : Type 0 where
  pub leader : WorldLeader
  pub leads : e.machine.leader ≡ Some leader
  pub by : leader.vote ≡ v
  pub streams : List (ℕ × ProgressEntry ℕ)
  pub more : List WorldCommand
  pub items : e.machine.core.output.items ≡ BecomeLeader ∷ RebuildReplicationStreams streams ∷ more
  pub stays : AllByRecursion Stays more
  pub own_end : OwnEnd v.leader_id (last e.machine.core.state.ids)

module _ (settings : EngineConfig ℕ) (saved : Bool) (N : NodeView) where
  abbrev state : WorldState
  state = started nat_cmp entry_meaning saved N.store

  abbrev own : EngineConfig ℕ
  own = record settings { id = N.id }

  -- the engine that startup makes
  abbrev resuming : WorldMachine → EngineView
  resuming m = with_machine (engine_on settings saved N) m

  pub starts_under : state.vote ≡ N.store.vote
  starts_under = stored_vote N.store N.store.meta.last_log_id

  begun : Begun own state (lead_on nat_cmp own (begin_lead nat_cmp entry_meaning own (anew own state)))
  begun = goes_on own state (begin_lead nat_cmp entry_meaning own (anew own state)) (begins own state)

  resumes : Starts settings N (resuming (startup nat_cmp entry_meaning own (resting state)))
  resumes = go (is_leader nat_cmp state N.id) refl
    where
      go : (b : Bool) → is_leader nat_cmp state N.id ≡ b → Starts settings N (resuming (startup nat_cmp entry_meaning own (resting state)))
      go true q =
          subst (λ (m : WorldMachine). Starts settings N (resuming m)) (sym (startup_is own state q))
          (record { config = refl; vote = begun.vote ∙ starts_under; time = begun.time; spent = begun.spent; alone = refl })
      go false q =
          subst (λ (m : WorldMachine). Starts settings N (resuming m)) (sym (follows_is own state q))
          (record { config = refl; vote = starts_under; time = refl; spent = refl; alone = refl })

  pub starts : Starts settings N (engine_at_start settings saved N)
  starts = go (refusals_of_startup nat_cmp own (resting state))
    where
      go : (r : Option (EngineError ℕ (Unit {0}))) → Starts settings N (answered r (engine_on settings saved N) (resuming (startup nat_cmp entry_meaning own (resting state)))).1
      go None = resumes
      go (Some r) = record { config = refl; vote = starts_under; time = refl; spent = refl; alone = refl }

  -- by a vote of its own, and with an index left for its no-op entry, it leads
  module _ (lead : is_leader nat_cmp state N.id ≡ true) (room : (next (last state.ids) == u64_max) ≡ false) where
    unfilled : is_full nat_cmp state.vote state.ids ≡ false
    unfilled = go (last state.ids) room
      where
        and_off : (a b : Bool) → b ≡ false → (a && b) ≡ false
        and_off true b e = e
        and_off false b e = refl

        go : (o : Option (LogId ℕ)) → (next o == u64_max) ≡ false → elim o as (λ _. Bool) [ None ↦ false | Some x ↦ not (is_eq (leader_id_cmp nat_cmp x.leader_id state.vote.leader_id)) && (x.index + 1 == 2 ^ 64 - 1) ] ≡ false
        go None e = refl
        go (Some x) e = and_off (not (is_eq (leader_id_cmp nat_cmp x.leader_id state.vote.leader_id))) (x.index + 1 == u64_max) e

    unrefused : refusals_of_startup nat_cmp own (resting state) ≡ None
    unrefused = go (leads_anew nat_cmp own state.vote state.em.membership (resting state).leader) (is_full nat_cmp state.vote state.ids) unfilled
      where
        go : (a b : Bool) → b ≡ false → ◌≡◌ {A = Option (EngineError ℕ (Unit {0}))} (first_refusal ((a && b, IndexEnd) ∷ [])) None
        go true true e = cc
        go true false e = refl
        go false b e = refl

    pub leads_at_once : LeadsAtOnce N.store.vote (engine_at_start settings saved N)
    leads_at_once =
        subst (LeadsAtOnce N.store.vote)
        (sym (ap (λ (r : Option (EngineError ℕ (Unit {0}))). (answered r (engine_on settings saved N) (resuming (startup nat_cmp entry_meaning own (resting state)))).1) unrefused ∙ ap resuming (startup_is own state lead)))
        (record {
          leader = _;
          leads = refl;
          by = begun.by ∙ starts_under;
          streams = begun.streams;
          more = begun.more;
          stays = begun.stays;
          own_end = record { id = begun.own_end.id; own = begun.own_end.own ∙ ap (λ (v : Vote ℕ). v.leader_id) starts_under; end = begun.own_end.end };
          items = begun.items ∙ ap (λ r. role_commands Learner r ++ RebuildReplicationStreams begun.streams ∷ begun.more) (if_true (is_leader nat_cmp state N.id) Leader _ lead);
        })
