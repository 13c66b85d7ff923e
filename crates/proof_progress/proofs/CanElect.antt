-- From where a node can be elected, events elect it.
use Rattle.std.proofs.Common.{ℕ, suc, ◌+◌, ◌*◌, ◌≡◌, ◌≤◌, map, ◌≢◌, inl, inr, Bool, true, false, List, [], ◌∷◌, ◌++◌, length, arith, refl, sym, ap, ◌∙◌, subst, Option, None, Some}
use Rattle.std.specs.Prelude.{if◌then◌else◌, is_some}
use Rattle.std.specs.List.{AllByRecursion}
use Rattle.std.specs.Ordering.{is_eq, nat_cmp}
use Rattle.proof_deeds.specs.raft_state.Log.{last}
use Rattle.proof_deeds.specs.raft_state.Members.{is_voter, voter_ids}
use Rattle.proof_deeds.specs.raft_progress.Quorum.{is_quorum}
use Rattle.proof_deeds.specs.raft_progress.Table.{rows_of}
use Rattle.proof_deeds.specs.raft_proposer.Candidate.{grant_by}
use Rattle.proof_deeds.specs.raft_store.declared.entry.Entry.{Entry}
use Rattle.proof_deeds.specs.raft_store.Types.{EngineView, WorldLeader}
use Rattle.proof_deeds.specs.raft_schedule.declared.event.Event.{Event}
use Rattle.proof_deeds.specs.raft_schedule.declared.event.SkipReason.{SkipReason}
use Rattle.proof_deeds.specs.raft_schedule.declared.event.SkipReason.TheVariants.{HasLeader, NotRunning, NotVoter}
use Rattle.proof_deeds.specs.raft_node.declared.act.Act.TheVariants.{Elect}
use Rattle.proof_deeds.specs.raft_calls.declared.elections.Candidates.TheVariants.{Voters}
use Rattle.proof_deeds.specs.raft_node.declared.given.Given.{Given}
use Rattle.proof_deeds.specs.raft_calls.declared.message.Body.TheVariants as body
use Rattle.proof_deeds.specs.raft_calls.declared.message.Message.{Message}
use Rattle.proof_deeds.specs.raft_calls.Elections.{elected, skip_elect}
use Rattle.proof_deeds.specs.raft_node.Events.{happens, message_at}
use Rattle.proof_deeds.specs.raft_node.Execute.{others, sending, to_each}
use Rattle.proof_deeds.specs.raft_node.Net.{Net, Records}
use Rattle.proof_deeds.specs.raft_node.Runs.{History, run, start, whole_logs, with_event, world_after}
use Rattle.proof_deeds.specs.raft_node.Work.{weight}
use Rattle.proof_progress.specs.Continuations.{goes_on, timeout}
use Rattle.proof_progress.proofs.Beside.{Elected, beside_changed, beside_then}
use Rattle.proof_progress.specs.Elections.{Apart, Listed, log_end}
use Rattle.proof_progress.specs.Plans.{collect, votes_from, world_then}
use Rattle.proof_progress.proofs.Conditions.{NodeGrants, NodeStands, is_enough, over}
use Rattle.proof_progress.proofs.Images.{asking, standing, stood, stood_request, stood_vote}
use Rattle.proof_progress.proofs.Campaigns.{Asks, WillGrant, at_id, campaign_ends}
use Rattle.proof_progress.proofs.Elects.{elected_is, itself}
use Rattle.proof_progress.proofs.Messages.{request_number}
use Rattle.proof_progress.proofs.Numbered.{running_is}
use Rattle.proof_progress.proofs.Places.{Changed, changes}
use Rattle.proof_progress.proofs.Plays.{latest, node_after, plays, work_begins}
use Rattle.proof_progress.proofs.Tables.{Any, InRow, any_stays, row_in, yes_new, same_ids_granted}
use Rattle.proof_progress.proofs.Works.{Effected, NeedsOthers, stand_works, voted}

-- a voter has a row
pub listed_row : (ids more : List ℕ) (t : ℕ) → Listed ids t → InRow Any (length ids) (rows_of false (ids ++ more)) t
listed_row [] more t h = absurd h
listed_row (x ∷ ids) more t (inl p) = inl (p, tt)
listed_row (x ∷ ids) more t (inr p) = inr (listed_row ids more t p)

pub ids_new : (ids : List ℕ) → map (λ (r : ℕ × Bool). r.0) (rows_of false (ids ++ [])) ≡ ids
ids_new [] = refl
ids_new (x ∷ ids) = ap (λ is. x ∷ is) (ids_new ids)

module _ (given : Given) (now : ℕ) (net : Net (List Entry)) (n : ℕ) (c : NodeStands net now n) (few : is_enough now c.engine ≡ false) where
  own_row : InRow Any (standing now c.engine).progress.voters (standing now c.engine).progress.rows c.engine.config.id
  own_row = listed_row (voter_ids nat_cmp c.engine.machine.core.state.em.membership) [] c.engine.config.id c.listed

  needs : NeedsOthers now c.engine
  needs = record { unspent = c.may.unspent; voter = row_in (standing now c.engine).progress.voters (standing now c.engine).progress.rows c.engine.config.id own_row; room = c.room; few = few }

  -- what its timeout changes
  abbrev pub stood_effects : Effected
  stood_effects = sending (to_each c.node.id (others c.node.id c.engine.machine.core.state.em.membership) (body.VoteRequest (stood_request c.engine))) (voted (stood_vote c.engine) (work_begins c.node net.records))

  pub stands : Changed net (happens whole_logs weight given (timeout n now) net).1 n (node_after c.node now (asking now [] c.engine) stood_effects) stood_effects.records
  stands =
      changes given net (timeout n now) n (Elect Voters) c.node _ (record { node = node_after c.node now (asking now [] c.engine) stood_effects; records = stood_effects.records }) c.at refl
      (plays given (Elect Voters) (timeout n now) (λ k e. elected k e) c.node net.records now c.engine (stood now c.engine) (asking now [] c.engine) stood_effects (λ n. refl) (λ n. refl) c.runs
      (unskipped c.node.engine c.runs) (latest now c.node.moment c.moment) refl (elected_is now c.engine c.may)
      (stand_works now c.engine needs (record { id = c.node.id; moment = now; request = None }) (work_begins c.node net.records) refl))
      (at_id net.nodes n c.node c.at)
    where
      by_leader : (o : Option WorldLeader) (b : Bool) → o ≡ None → b ≡ true → ◌≡◌ {A = Option SkipReason} (if is_some o then Some HasLeader else if b then None else Some NotVoter) None
      by_leader None true e q = refl
      by_leader None false e q = cc
      by_leader (Some l) b e q = cc

      unskipped : (o : Option EngineView) → o ≡ Some c.engine → ◌≡◌ {A = Option SkipReason} (elim o [ None ↦ Some NotRunning | Some e ↦ skip_elect Voters e ]) None
      unskipped None q = cc
      unskipped (Some e) q = let z : c.engine ≡ e = cc in subst (λ (e : EngineView). ◌≡◌ {A = Option SkipReason} (skip_elect Voters e) None) z (by_leader c.engine.machine.leader (is_voter nat_cmp c.engine.machine.core.state.em.membership c.engine.config.id) c.may.unled c.voter)

  asks : Asks (stood_vote c.engine).leader_id c.engine.machine.core.state.em.membership.groups (c.engine.config.id ∷ []) (asking now [] c.engine)
  asks = record {
    candidate = grant_by nat_cmp (standing now c.engine) c.engine.config.id;
    is = refl;
    may = record { vote = refl; uncommitted = refl; own = ap is_eq (itself c.engine.config.id); member = c.may.member; unled = refl; role = λ z. cc };
    vote = refl;
    unspent = c.may.unspent;
    rest = refl;
    room = c.room;
    last_id = refl;
    voters = same_ids_granted c.engine.config.id (standing now c.engine).progress.rows ∙ ids_new (voter_ids nat_cmp c.engine.machine.core.state.em.membership);
    learners = refl;
    groups = refl;
    granted = (yes_new c.engine.config.id (standing now c.engine).progress.voters (standing now c.engine).progress.rows own_row, tt);
    waits = few;
  }

  rows : (ts : List ℕ) → AllByRecursion (NodeGrants net now n c.engine) ts → AllByRecursion (InRow Any (grant_by nat_cmp (standing now c.engine) c.engine.config.id).progress.voters (grant_by nat_cmp (standing now c.engine) c.engine.config.id).progress.rows) ts
  rows [] w = tt
  rows (t ∷ ts) w =
      (any_stays c.engine.config.id (standing now c.engine).progress.voters (standing now c.engine).progress.rows t (listed_row (voter_ids nat_cmp c.engine.machine.core.state.em.membership) [] t w.0.voter), rows ts w.1)

  will : (t : ℕ) → t ≢ n → NodeGrants net now n c.engine t → WillGrant (happens whole_logs weight given (timeout n now) net).1 now n (stood_vote c.engine).leader_id (last c.engine.machine.core.state.ids) t
  will t d w =
      let id : c.node.id ≡ n = at_id net.nodes n c.node c.at in
      let k = request_number net.records.bag c.node.id (body.VoteRequest (stood_request c.engine)) (others c.node.id c.engine.machine.core.state.em.membership) t (subst (λ i. Listed (others i c.engine.machine.core.state.em.membership) t) (sym id) w.other) in
      record {
        number = length net.records.bag + k.0 + 1;
        asked =
            ap (λ (r : Records (List Entry)). message_at r.bag (length net.records.bag + k.0 + 1)) stands.records
            ∙ (k.1 ∙ ap (λ i. let z : Option Message = Some (record { from = i; to = t; body = body.VoteRequest (stood_request c.engine) }) in z) id);
        node = w.node;
        at = stands.others t w.node d w.at;
        moment = w.moment;
        engine = w.engine;
        runs = w.runs;
        may = w.may;
      }

  all_will : (ts : List ℕ) → Apart n ts → AllByRecursion (NodeGrants net now n c.engine) ts → AllByRecursion (WillGrant (happens whole_logs weight given (timeout n now) net).1 now n (stood_vote c.engine).leader_id (last c.engine.machine.core.state.ids)) ts
  all_will [] a w = tt
  all_will (t ∷ ts) a w = (will t a.0 w.0, all_will ts a.2 w.1)

  -- the node asks by the plan's vote and last id
  votes_are : (ts : List ℕ) → votes_from given now n ts (world_then given now (timeout n now) net)
      ≡ collect given now n (stood_vote c.engine) (last c.engine.machine.core.state.ids) ts (world_then given now (timeout n now) net)
  votes_are ts =
      ap votes (running_is net1 n (node_after c.node now (asking now [] c.engine) stood_effects) (asking now [] c.engine) stands.here refl)
    where
      net1 : Net (List Entry)
      net1 = world_then given now (timeout n now) net

      votes : Option EngineView → List Event
      votes o = elim o as (λ _. List Event) [ None ↦ [] | Some e ↦ collect given now n e.machine.core.state.vote (log_end e) ts net1 ]

  pub elected_then : (ts : List ℕ) → Apart n ts → AllByRecursion (NodeGrants net now n c.engine) ts → is_quorum nat_cmp c.engine.machine.core.state.em.membership.groups (over ts (n ∷ [])) ≡ true
      → Elected given now n (stood_vote c.engine).leader_id c.engine (1 + 2 * length ts) net
      (timeout n now ∷ votes_from given now n ts (world_then given now (timeout n now) net))
  unfolding asks
  elected_then ts a w q =
      let net1 : Net (List Entry) = world_then given now (timeout n now) net in
      let es : List Event = collect given now n (stood_vote c.engine) (last c.engine.machine.core.state.ids) ts net1 in
      let r : Elected given now n (stood_vote c.engine).leader_id c.engine (2 * length ts) net1 es =
      campaign_ends given now c.engine net1 n (stood_vote c.engine).leader_id (last c.engine.machine.core.state.ids)
      c.engine.machine.core.state.em.membership.groups c.engine.config.id [] ts
      (record {
        node = _;
        at = stands.here;
        moment = omega arith;
        engine = asking now [] c.engine;
        runs = refl;
        asks = asks;
        since = record { settings = refl; em = refl; ids = refl; purge_to = refl; seq = refl };
        rows = rows ts w;
        will = all_will ts a w;
      })
      a (subst (λ i. is_quorum nat_cmp c.engine.machine.core.state.em.membership.groups (over ts (i ∷ [])) ≡ true) (sym c.own) q) in
      subst (λ (xs : List Event). Elected given now n (stood_vote c.engine).leader_id c.engine (1 + 2 * length ts) net (timeout n now ∷ xs))
      (sym (votes_are ts))
      (record {
        won = r.won;
        beside = beside_then (stood_vote c.engine).leader_id now n net net1 _
            (beside_changed (stood_vote c.engine).leader_id now n net net1 _ _ stands) r.beside;
        count = let l : length es ≤ 2 * length ts = r.count in let m : suc (length es) ≤ 1 + 2 * length ts = omega (arith, l) in m;
      })

-- In runs
pub goes_run : (given : Given) (es : List Event) (t : History (List Entry)) → (run whole_logs given es t).net ≡ goes_on given es t.net
unfolding with_event
goes_run given [] t = refl
goes_run given (e ∷ es) t = goes_run given es (with_event whole_logs given t e)

run_more : (given : Given) (xs ys : List Event) (t : History (List Entry)) → run whole_logs given (xs ++ ys) t ≡ run whole_logs given ys (run whole_logs given xs t)
run_more given [] ys t = refl
run_more given (x ∷ xs) ys t = run_more given xs ys (with_event whole_logs given t x)

pub goes_after : (given : Given) (past es : List Event) → world_after given (past ++ es) ≡ goes_on given es (world_after given past)
goes_after given past es = ap (λ (h : History (List Entry)). h.net) (run_more given past es (start given)) ∙ goes_run given es (run whole_logs given past (start given))
