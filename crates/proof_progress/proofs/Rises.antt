-- Whatever the votes: a candidate's term rises with each timeout.
use Rattle.std.proofs.Common.{ℕ, zero, suc, ◌+◌, ◌*◌, ◌-◌, length, ◌<◌, ◌≤◌, ◌≡◌, true, false, List, [], ◌∷◌, ◌++◌, arith, refl, sym, ap, ◌∙◌, subst, Option, None, Some}
use Rattle.std.specs.Prelude.{◌==◌}
use Rattle.std.specs.declared.cmp.Ordering.{Ordering}
use Rattle.std.specs.declared.cmp.Ordering.TheVariants.{Greater}
use Rattle.std.specs.List.{AllByRecursion}
use Rattle.std.specs.Ordering.{bool_cmp, is_eq, nat_cmp, ordering_then}
use Rattle.std.proofs.lemmas.Bool.Decides.{nat_tests}
use Rattle.proof_deeds.specs.raft_state.declared.ids.LeaderId.{LeaderId}
use Rattle.proof_deeds.specs.raft_state.declared.ids.Vote.{Vote}
use Rattle.proof_deeds.specs.raft_state.Order.{vote_cmp}
use Rattle.proof_deeds.specs.raft_progress.Quorum.{is_quorum}
use Rattle.proof_deeds.specs.raft_proposer.Joint.{u64_max}
use Rattle.proof_deeds.specs.raft_store.declared.entry.Entry.{Entry}
use Rattle.proof_deeds.specs.raft_store.Types.{EngineView}
use Rattle.proof_deeds.specs.raft_schedule.declared.event.Event.{Event}
use Rattle.proof_deeds.specs.raft_node.declared.given.Given.{Given}
use Rattle.proof_deeds.specs.raft_node.Events.{happens}
use Rattle.proof_deeds.specs.raft_node.Net.{Net}
use Rattle.proof_deeds.specs.raft_node.Runs.{whole_logs}
use Rattle.proof_deeds.specs.raft_node.Work.{weight}
use Rattle.proof_progress.specs.Continuations.{goes_on, timeout}
use Rattle.proof_progress.proofs.Afresh.{since_then}
use Rattle.proof_progress.proofs.Beside.{Elected, beside_changed, beside_then}
use Rattle.proof_progress.specs.Elections.{Apart, pending}
use Rattle.proof_progress.specs.Plans.{elect, timeouts, times, votes_from}
use Rattle.proof_progress.proofs.Conditions.{NodeGrants, NodeGrantsAbove, NodeStands, is_enough, over}
use Rattle.proof_progress.proofs.Images.{asking, stood_vote}
use Rattle.proof_progress.proofs.CanElect.{elected_then, stands}
use Rattle.proof_progress.proofs.Numbered.{running_is}

-- a vote of a later term is greater
later_term : (a b : ℕ) → b < a → nat_cmp a b ≡ Greater
later_term a b l = grind (arith, nat_tests)

vote_of_later : (d : LeaderId ℕ) (v : Vote ℕ) → v.leader_id.term < d.term → vote_cmp nat_cmp (pending d) v ≡ Greater
vote_of_later d v l = ap (λ (o : Ordering). ordering_then (ordering_then o (nat_cmp d.node_id v.leader_id.node_id)) (bool_cmp false v.committed)) (later_term d.term v.leader_id.term l)

pub not_end : (a : ℕ) → a < u64_max → (a == u64_max) ≡ false
not_end a l = grind (arith, nat_tests)

module _ (given : Given) (now n top : ℕ) (room : top < u64_max) where
  module _ (net : Net (List Entry)) (c : NodeStands net now n) (few : is_enough now c.engine ≡ false) where
    -- at the greatest term they will grant
    would : c.engine.machine.core.state.vote.leader_id.term ≡ top → (ts : List ℕ) → AllByRecursion (NodeGrantsAbove net now n top c.engine) ts → AllByRecursion (NodeGrants net now n c.engine) ts
    would e [] w = tt
    would e (t ∷ ts) w = (
      record {
        other = w.0.other;
        voter = w.0.voter;
        node = w.0.node;
        at = w.0.at;
        moment = w.0.moment;
        engine = w.0.engine;
        runs = w.0.runs;
        may = record {
          unspent = w.0.may.unspent;
          greater = vote_of_later (stood_vote c.engine).leader_id w.0.engine.machine.core.state.vote (let l : w.0.engine.machine.core.state.vote.leader_id.term ≤ top = w.0.may.low in omega (arith, l, e));
          other = subst (λ i. is_eq (nat_cmp i w.0.engine.config.id) ≡ false) (sym c.own) w.0.may.other;
          unleased = w.0.may.unleased;
          ahead = w.0.may.ahead;
          rest = w.0.may.rest;
        };
      },
      would e ts w.1,
    )

    -- after a timeout it may stand again
    again : c.engine.machine.core.state.vote.leader_id.term < top → NodeStands (happens whole_logs weight given (timeout n now) net).1 now n
    again l = record {
      node = _;
      at = (stands given now net n c few).here;
      moment = omega arith;
      engine = asking now [] c.engine;
      runs = refl;
      own = c.own;
      may = record { unspent = c.may.unspent; term = not_end (c.engine.machine.core.state.vote.leader_id.term + 1) (omega (arith, l, room)); unled = refl; rest = refl; role = λ z. cc; member = c.may.member };
      voter = c.voter;
      listed = c.listed;
      room = c.room;
    }

    stay : (l : c.engine.machine.core.state.vote.leader_id.term < top) (ts : List ℕ) → Apart n ts → AllByRecursion (NodeGrantsAbove net now n top c.engine) ts → AllByRecursion (NodeGrantsAbove (happens whole_logs weight given (timeout n now) net).1 now n top (asking now [] c.engine)) ts
    unfolding again
    stay l [] a w = tt
    stay l (t ∷ ts) a w = (
      record {
        other = w.0.other;
        voter = w.0.voter;
        node = w.0.node;
        at = (stands given now net n c few).others t w.0.node a.0 w.0.at;
        moment = w.0.moment;
        engine = w.0.engine;
        runs = w.0.runs;
        may = w.0.may;
      },
      stay l ts a.2 w.1,
    )

  -- so many timeouts, and then it asks
  abbrev climbs : ℕ → List ℕ → Net (List Entry) → List Event
  climbs k ts net = times (suc k) (timeout n now) ++ votes_from given now n ts (goes_on given (times (suc k) (timeout n now)) net)

  rise : (k : ℕ) (net : Net (List Entry)) (c : NodeStands net now n) → is_enough now c.engine ≡ false
      → c.engine.machine.core.state.vote.leader_id.term + k ≡ top → (ts : List ℕ) → Apart n ts → AllByRecursion (NodeGrantsAbove net now n top c.engine) ts
      → is_quorum nat_cmp c.engine.machine.core.state.em.membership.groups (over ts (n ∷ [])) ≡ true
      → Elected given now n (record { term = top + 1; node_id = n }) c.engine (1 + k + 2 * length ts) net (climbs k ts net)
  unfolding again
  rise zero net c few e ts a w q =
      let z : c.engine.machine.core.state.vote.leader_id.term ≡ top = omega (arith, e) in
      let x : Elected given now n (record { term = top + 1; node_id = n }) c.engine (1 + 2 * length ts) net (climbs zero ts net) =
      subst (λ (d : LeaderId ℕ). Elected given now n d c.engine (1 + 2 * length ts) net (climbs zero ts net))
      (ap (λ k. let d : LeaderId ℕ = record { term = k + 1; node_id = c.engine.config.id } in d) z
      ∙ ap (λ i. let d : LeaderId ℕ = record { term = top + 1; node_id = i } in d) c.own)
      (elected_then given now net n c few ts a (would net c few z ts w) q) in
      record { won = x.won; beside = x.beside; count = let l : length (climbs zero ts net) ≤ 1 + 2 * length ts = x.count in omega (arith, l) }
  rise (suc k) net c few e ts a w q =
      let l : c.engine.machine.core.state.vote.leader_id.term < top = omega (arith, e) in
      let net1 : Net (List Entry) = (happens whole_logs weight given (timeout n now) net).1 in
      let r : Elected given now n (record { term = top + 1; node_id = n }) (asking now [] c.engine) (1 + k + 2 * length ts) net1 (climbs k ts net1) =
      rise k net1 (again net c few l) few (omega (arith, e)) ts a (stay net c few l ts a w) q in
      record {
        won = since_then c.engine (asking now [] c.engine) (record { settings = refl; em = refl; ids = refl; purge_to = refl; seq = refl })
            (record { term = top + 1; node_id = n }) _ now n r.won;
        beside = beside_then (record { term = top + 1; node_id = n }) now n net net1 _
            (beside_changed (record { term = top + 1; node_id = n }) now n net net1 _ _ (stands given now net n c few)) r.beside;
        count = let m : length (climbs k ts net1) ≤ 1 + k + 2 * length ts = r.count in
            let i : suc (length (climbs k ts net1)) ≤ 1 + suc k + 2 * length ts = omega (arith, m) in i;
      }

  -- these are the plan's events
  climbs_are : (k : ℕ) (net : Net (List Entry)) (c : NodeStands net now n) → c.engine.machine.core.state.vote.leader_id.term + k ≡ top
      → (ts : List ℕ) → climbs k ts net ≡ elect given now n top ts net
  climbs_are k net c e ts = ap (λ (es : List Event). es ++ votes_from given now n ts (goes_on given es net)) (sym (by_engine ∙ by_term))
    where
      left : (a b c : ℕ) → a + b ≡ c → c - a ≡ b
      left a b c e = omega (arith, e)

      term : ℕ
      term = c.engine.machine.core.state.vote.leader_id.term

      by_running : Option EngineView → List Event
      by_running o = elim o as (λ _. List Event) [
        | None ↦ []
        | Some f ↦ times (suc (top - f.machine.core.state.vote.leader_id.term)) (timeout n now)
      ]

      by_engine : timeouts given now n top net ≡ times (suc (top - term)) (timeout n now)
      by_engine = ap by_running (running_is net n c.node c.engine c.at c.runs)

      by_term : times (suc (top - term)) (timeout n now) ≡ times (suc k) (timeout n now)
      by_term = ap (λ j. times (suc j) (timeout n now)) (left term k top e)

  pub climb : (k : ℕ) (net : Net (List Entry)) (c : NodeStands net now n) → is_enough now c.engine ≡ false
      → c.engine.machine.core.state.vote.leader_id.term + k ≡ top → (ts : List ℕ) → Apart n ts → AllByRecursion (NodeGrantsAbove net now n top c.engine) ts
      → is_quorum nat_cmp c.engine.machine.core.state.em.membership.groups (over ts (n ∷ [])) ≡ true
      → Elected given now n (record { term = top + 1; node_id = n }) c.engine (1 + k + 2 * length ts) net (elect given now n top ts net)
  climb k net c few e ts a w q =
      subst (λ (es : List Event). Elected given now n (record { term = top + 1; node_id = n }) c.engine (1 + k + 2 * length ts) net es)
      (climbs_are k net c e ts) (rise k net c few e ts a w q)
