-- Worked runs, computed: one server takes a client's value, and answers once its record is on disk; after a crash it doesn't.
use Rattle.std.specs.Prelude.{◌≡◌, ℕ, List, [], ◌∷◌, ◌++◌, Option, None, Some, refl, slice_get, take}
use Rattle.std.proofs.Common.{◌∙◌, inl, inr, sym, ap, subst, arith, suc, zero}
use Rattle.proof_deeds.specs.raft_steps.Commit.{commit_by}
use Rattle.proof_deeds.specs.raft_steps.Engine.{elect, handle_vote_resp, initialize, lead_by_votes, take_grant}
use Rattle.proof_deeds.specs.raft_steps.FollowingHandler.{do_append_entries}
use Rattle.proof_deeds.specs.raft_steps.LeaderHandler.{leader_append_entries, proposed}
use Rattle.proof_deeds.specs.raft_steps.ReplicationHandler.{initiate_replication, rebuild_replication_streams, try_commit_quorum_accepted, update_local_progress}
use Rattle.proof_deeds.specs.raft_steps.ServerStateHandler.{update_role}
use Rattle.proof_deeds.specs.raft_steps.SnapshotHandler.{snapshot_where_due, trigger_snapshot}
use Rattle.proof_deeds.specs.raft_steps.VoteHandler.{become_following, become_leader, begin_lead, lead_anew, update_internal_server_state, update_vote}
use Rattle.proof_deeds.proofs.raft_steps_proofs.Example.{committed, lid, settings}
use Rattle.proof_deeds.specs.raft_store.declared.entry.Entry.{Entry}
use Rattle.proof_deeds.specs.raft_store.declared.entry.Payload.TheVariants as payload
use Rattle.proof_deeds.specs.raft_store.declared.entry.Value.{Value}
use Rattle.proof_deeds.specs.raft_store.declared.entry.Value.TheVariants.{Number}
use Rattle.proof_deeds.specs.raft_store.Store.{whole}
use Rattle.proof_deeds.specs.raft_node.declared.act.Act.{Act}
use Rattle.proof_deeds.specs.raft_node.declared.act.Act.TheVariants.{Initialize, Propose}
use Rattle.proof_deeds.specs.raft_node.declared.given.Given.{Given}
use Rattle.proof_deeds.specs.raft_calls.Elections.{first_entry}
use Rattle.proof_deeds.specs.raft_node.Events.{finish, place_of, played}
use Rattle.proof_deeds.specs.raft_node.Net.{NodeView}
use Rattle.proof_deeds.specs.raft_node.Work.{worked}
use Rattle.proof_deeds.proofs.RunRows.{alone, blank}
use Rattle.proof_clients.specs.Objects.{Operation, Query, Update, state_after}
use Rattle.proof_clients.proofs.Rows.{counter}
use Rattle.proof_clients.proofs.Slots.{here}
use Rattle.proof_servers.specs.Servers.{Action, AllMayAct, Crashes, Flushes, Step, Takes, new_cluster}
use Rattle.proof_answers.specs.Answers.{Executes, Proposed, StepAppends, TakesAt, Told, node_then, node_within}
use Rattle.proof_answers.specs.Histories.{IsHistory, IsQuery, IsUpdate, UpdateReturns}
use Rattle.proof_answers.specs.Waiting.{waiting}

abbrev pub one : Given
one = record { ids = 1 ∷ []; membership = alone; settings = settings 1 }

abbrev pub proposal : Step
proposal = record { act = Propose (Number 7 ∷ []); at = 5 }

abbrev pub asked : List Action
asked = Takes 1 (record { act = Initialize; at = 0 }) ∷ Flushes 1 ∷ Takes 1 proposal ∷ []

abbrev pub answers : List Action
answers = asked ++ Flushes 1 ∷ []

abbrev pub value : Entry
value = record { log_id = lid 1 1 2; payload = payload.Value (Number 7) }

-- its node leads when it takes the value, and has appended and executed it within the step
abbrev within : ℕ → NodeView
within k = node_within one (node_then one answers 2 1) proposal k

it_leads : (within 0).store.vote ≡ committed 1 1
unfolding finish played worked place_of initialize elect do_append_entries update_vote update_internal_server_state become_following become_leader begin_lead lead_anew update_role handle_vote_resp take_grant lead_by_votes rebuild_replication_streams initiate_replication leader_append_entries proposed update_local_progress try_commit_quorum_accepted commit_by snapshot_where_due trigger_snapshot
it_leads = refl

before : whole (within 0).store ≡ first_entry alone ∷ blank 1 1 1 ∷ []
unfolding finish played worked place_of initialize elect do_append_entries update_vote update_internal_server_state become_following become_leader begin_lead lead_anew update_role handle_vote_resp take_grant lead_by_votes rebuild_replication_streams initiate_replication leader_append_entries proposed update_local_progress try_commit_quorum_accepted commit_by snapshot_where_due trigger_snapshot
before = refl

after_one : whole (within 1).store ≡ first_entry alone ∷ blank 1 1 1 ∷ value ∷ []
unfolding finish played worked place_of initialize elect do_append_entries update_vote update_internal_server_state become_following become_leader begin_lead lead_anew update_role handle_vote_resp take_grant lead_by_votes rebuild_replication_streams initiate_replication leader_append_entries proposed update_local_progress try_commit_quorum_accepted commit_by snapshot_where_due trigger_snapshot
after_one = refl

applied : (within 9).store.applied ≡ first_entry alone ∷ blank 1 1 1 ∷ value ∷ []
unfolding finish played worked place_of initialize elect do_append_entries update_vote update_internal_server_state become_following become_leader begin_lead lead_anew update_role handle_vote_resp take_grant lead_by_votes rebuild_replication_streams initiate_replication leader_append_entries proposed update_local_progress try_commit_quorum_accepted commit_by snapshot_where_due trigger_snapshot
applied = refl

appends : StepAppends one (node_then one answers 2 1) proposal 0 value
appends = record { entries = value ∷ []; slot = refl; leads = it_leads; appended = after_one ∙ ap (λ es. es ++ value ∷ []) (sym before) }

pub is_proposed : Proposed one answers 2 (Number 7) value
is_proposed = record { step = proposal; takes = refl; values = Number 7 ∷ []; proposes = refl; place = 0; value = refl; appended = appends; payload = refl }

pub is_executed : Executes one answers 2 value 3 9
is_executed = record {
  taken = first_entry alone ∷ blank 1 1 1 ∷ value ∷ [];
  told = record { by = 2; step = proposal; node = node_then one answers 2 1; takes = inl (refl, refl); applied = applied; flushes = refl; behind = []; oldest = refl };
  since = omega arith;
  runs = λ number k at l h e. omega (arith, l, h);
  entry = value;
  there = refl;
  same = refl;
}

-- the client's update, with an answer; and a query for which this value is the marker
abbrev adds_seven : ℕ → Operation ℕ
adds_seven result = record { call = 2; ask = Update (Number 7) value; returned = Some (record { events = 3; commands = 9; taken = 3; result = result }) }

abbrev asks : Operation ℕ
asks = record { call = 2; ask = Query 0; returned = Some (record { events = 3; commands = 9; taken = 3; result = 7 }) }

is_update : IsUpdate counter one answers (adds_seven 0)
unfolding is_executed
is_update = record { value = Number 7; entry = value; ask = refl; proposed = is_proposed; returned = record { executes = is_executed; result = refl } }

is_query : IsQuery counter one answers asks
unfolding is_executed
is_query = record {
  query = 0;
  ask = refl;
  returned = inl (record { proposal = 2; later = omega arith; value = Number 7; marker = value; proposed = is_proposed; executes = is_executed; taken = refl; result = refl });
}

-- no other value was proposed

one_entry : (entries : List Entry) (x : Entry) → ◌≡◌ {A = List Entry} (first_entry alone ∷ blank 1 1 1 ∷ value ∷ []) (first_entry alone ∷ blank 1 1 1 ∷ entries) → slice_get entries 0 ≡ Some x → value ≡ x
one_entry [] x e q = cc
one_entry (y ∷ ys) x e q = let z : value ≡ y = cc in let w : y ≡ x = cc in z ∙ w

only_value : (x : Entry) (place : ℕ) → place ≡ 0 → StepAppends one (node_then one answers 2 1) proposal place x → value ≡ x
only_value x place p a = one_entry a.entries x (sym after_one ∙ (a.appended ∙ ap (λ es. es ++ a.entries) before)) (subst (λ j. slice_get a.entries j ≡ Some x) p a.slot)

no_act : (values : List Value) → Initialize ≡ Propose values → ⊥
no_act values e = cc

takes_step : (a b : ℕ) (s t : Step) → ◌≡◌ {A = Option Action} (Some (Takes a s)) (Some (Takes b t)) → (a ≡ b) × (s ≡ t)
takes_step a b s t e = ((let z : a ≡ b = cc in z), (let z : s ≡ t = cc in z))

takes_none : (b id : ℕ) (t : Step) → ◌≡◌ {A = Option Action} (Some (Flushes id)) (Some (Takes b t)) → ⊥
takes_none b id t e = cc

one_value : (values : List Value) (place : ℕ) (v : Value) → ◌≡◌ {A = Act} (Propose (Number 7 ∷ [])) (Propose values) → slice_get values place ≡ Some v → (place ≡ 0) × (Number 7 ≡ v)
one_value [] place v e q = cc
one_value (w ∷ []) zero v e q = (refl, (let a : Number 7 ≡ w = cc in let b : w ≡ v = cc in a ∙ b))
one_value (w ∷ []) (suc k) v e q = cc
one_value (w ∷ (y ∷ ys)) place v e q = absurd (let z : ◌≡◌ {A = List Value} (Number 7 ∷ []) (w ∷ (y ∷ ys)) = cc in cc)

all : (call : ℕ) (v : Value) (x : Entry) → Proposed one answers call v x → (call ≡ 2) × (Number 7 ≡ v) × (value ≡ x)
all zero v x p = absurd (let z = (takes_step 1 x.log_id.leader_id.node_id (record { act = Initialize; at = 0 }) p.step p.takes).1 in no_act p.values (ap (λ (s : Step). s.act) z ∙ p.proposes))
all (suc zero) v x p = absurd (takes_none x.log_id.leader_id.node_id 1 p.step p.takes)
all (suc (suc zero)) v x p =
    let z = takes_step 1 x.log_id.leader_id.node_id proposal p.step p.takes in
    let w = one_value p.values p.place v (ap (λ (s : Step). s.act) z.1 ∙ p.proposes) p.value in
    let a : StepAppends one (node_then one answers 2 x.log_id.leader_id.node_id) proposal p.place x = subst (λ (s : Step). StepAppends one (node_then one answers 2 x.log_id.leader_id.node_id) s p.place x) (sym z.1) p.appended in
    (refl, w.1, only_value x p.place w.0 (subst (λ d. StepAppends one (node_then one answers 2 d) proposal p.place x) (sym z.0) a))
all (suc (suc (suc zero))) v x p = absurd (takes_none x.log_id.leader_id.node_id 1 p.step p.takes)
all (suc (suc (suc (suc k)))) v x p = let e : ◌≡◌ {A = Option Action} None (Some (Takes x.log_id.leader_id.node_id p.step)) = p.takes in cc

-- so these are a history
is_history : IsHistory counter one answers (adds_seven 0 ∷ []) (asks ∷ [])
is_history = record {
  are_updates = (is_update, tt);
  are_queries = (is_query, tt);
  once = (tt, tt);
  distinct = (tt, tt);
  all = λ call v x p. (let z = all call v x p in inl (adds_seven 0, here (adds_seven 0) [], sym z.0, ap (λ w. Update w value) z.1 ∙ ap (Update v) z.2));
}

-- another answer is none
told_is : (taken : List Entry) → Told one answers 1 3 9 taken → first_entry alone ∷ blank 1 1 1 ∷ value ∷ [] ≡ taken
told_is taken t =
    let by : 2 ≡ t.by = first_is 2 t.by [] t.behind t.oldest in go by t.takes
  where
    no_crash : (k at : ℕ) → ◌≡◌ {A = Option Action} (Some (Takes 1 proposal)) (Some (Crashes 1 k at)) → ⊥
    no_crash k at e = cc

    go : 2 ≡ t.by → TakesAt one answers t.by 1 t.step t.node → first_entry alone ∷ blank 1 1 1 ∷ value ∷ [] ≡ taken
    go by (inl (e, n)) =
        let step : proposal ≡ t.step = (takes_step 1 1 proposal t.step (ap (slice_get answers) by ∙ e)).1 in
        sym applied
        ∙ (ap (λ (n : ℕ). (node_within one (node_then one answers n 1) proposal 9).store.applied) by
        ∙ (ap (λ (s : Step). (node_within one (node_then one answers t.by 1) s 9).store.applied) step
        ∙ (ap (λ (m : NodeView). (node_within one m t.step 9).store.applied) (sym n) ∙ t.applied)))
    go by (inr (k, at, e, w, n)) = absurd (no_crash k at (ap (slice_get answers) by ∙ e))

    first_is : (a b : ℕ) (xs ys : List ℕ) → ◌≡◌ {A = List ℕ} (a ∷ xs) (b ∷ ys) → a ≡ b
    first_is a b xs ys e = cc

no_other_answer : UpdateReturns counter one answers 2 (Number 7) value (record { events = 3; commands = 9; taken = 3; result = 5 }) → ⊥
no_other_answer r =
    let z : 5 ≡ 0 = r.result ∙ ap (λ es. state_after counter 0 (take 2 es)) (sym (told_is r.executes.taken r.executes.told)) in
    omega (arith, z)

-- the server may do all this
it_may_happen : AllMayAct one answers (new_cluster one)
unfolding finish played worked place_of initialize elect do_append_entries update_vote update_internal_server_state become_following become_leader begin_lead lead_anew update_role handle_vote_resp take_grant lead_by_votes rebuild_replication_streams initiate_replication leader_append_entries proposed update_local_progress try_commit_quorum_accepted commit_by snapshot_where_due trigger_snapshot
it_may_happen = ((here 1 [], tt), (here 1 [], ((here 1 [], tt), (here 1 [], tt))))

-- After a crash that the record survives, the start executes the value again; but it is no answer

abbrev crashes : List Action
crashes = asked ++ Crashes 1 1 9 ∷ Flushes 1 ∷ []

no_answer : (commands : ℕ) → Executes one crashes 2 value 4 commands → ⊥
no_answer commands t = t.runs 3 1 9 (omega arith) (omega arith) refl

-- an answer before the record is on disk
pub no_early_answer : (flush commands : ℕ) → Executes one asked 2 value flush commands → ⊥
no_early_answer flush commands t = go flush t.told.flushes t.told.oldest
  where
    go : (f : ℕ) → slice_get asked f ≡ Some (Flushes 1) → waiting 1 (take f asked) ≡ t.told.by ∷ t.told.behind → ⊥
    go zero e o = cc
    go (suc zero) e o = let z : 0 ≡ t.told.by = cc in let l = t.since in omega (arith, z, l)
    go (suc (suc zero)) e o = cc
    go (suc (suc (suc k))) e o = cc
