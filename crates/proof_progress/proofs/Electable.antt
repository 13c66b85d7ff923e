-- From where a node can be elected, events elect it.
use Rattle.std.proofs.Common.{ℕ, ◌≡◌, ◌≢◌, Bool, true, false, List, [], ◌∷◌, refl, sym, ◌∙◌}
use Rattle.std.specs.List.{AllByRecursion}
use Rattle.std.specs.Ordering.{is_eq, nat_cmp}
use Rattle.std.proofs.lemmas.Bool.Decides.{nat_tests}
use Rattle.std.proofs.Common.{arith}
use Rattle.proof_deeds.specs.raft_store.declared.entry.Entry.{Entry}
use Rattle.proof_deeds.specs.raft_schedule.declared.event.Event.{Event}
use Rattle.proof_deeds.specs.raft_node.declared.given.Given.{Given}
use Rattle.proof_deeds.specs.raft_node.Net.{Net}
use Rattle.proof_progress.specs.Continuations.{LeadsIn, goes_on, timeout}
use Rattle.proof_progress.specs.Elections.{Apart, CanBeElected, ElectableLead, WouldGrant, asked_id, members}
use Rattle.proof_progress.specs.Plans.{votes_from, world_then}
use Rattle.proof_progress.proofs.Alone.{leads_alone}
use Rattle.proof_progress.proofs.Afresh.{leads_in}
use Rattle.proof_progress.proofs.CanElect.{elected_then}
use Rattle.proof_progress.proofs.Conditions.{NodeGrants, NodeStands, is_enough}
use Rattle.proof_progress.proofs.Voters.{quorum_over, voter_is_member, voter_is_other, voter_votes}

pub differs : (a b : ℕ) → a ≢ b → is_eq (nat_cmp a b) ≡ false
differs a b d = grind (arith, nat_tests)

module _ (given : Given) (net : Net (List Entry)) (now n : ℕ) (h : CanBeElected net now n) where
  stands : NodeStands net now n
  stands = record {
    node = h.runs.node;
    at = h.runs.at;
    moment = h.runs.moment;
    engine = h.engine;
    runs = h.runs.runs;
    own = h.runs.own;
    may = record {
      unspent = h.may.idle.unspent;
      term = h.may.term;
      unled = h.may.unled;
      rest = h.may.idle.rest;
      role = h.may.role;
      member = voter_is_member (members h.engine) h.engine.config.id h.may.voter;
    };
    voter = voter_votes (members h.engine) h.engine.config.id h.may.voter;
    listed = h.may.voter;
    room = h.may.index;
  }

  grants : (ts : List ℕ) → Apart n ts → AllByRecursion (WouldGrant net now h.engine) ts → AllByRecursion (NodeGrants net now n h.engine) ts
  grants [] a w = tt
  grants (t ∷ ts) a w = (
    record {
      other = voter_is_other (members h.engine) t w.0.voter n a.0;
      voter = w.0.voter;
      node = w.0.runs.node;
      at = w.0.runs.at;
      moment = w.0.runs.moment;
      engine = w.0.engine;
      runs = w.0.runs.runs;
      may = record {
        unspent = w.0.may.idle.unspent;
        greater = w.0.may.greater;
        other = differs h.engine.config.id w.0.engine.config.id (λ z. a.0 (sym w.0.runs.own ∙ (sym z ∙ h.runs.own)));
        unleased = w.0.may.unleased;
        ahead = w.0.may.ahead;
        rest = w.0.may.idle.rest;
      };
    },
    grants ts a.2 w.1,
  )

  elected : (es : List Event) × LeadsIn (goes_on given es net) (asked_id h.engine) n
  unfolding stands
  elected = go (is_enough now h.engine) refl
    where
      go : (b : Bool) → is_enough now h.engine ≡ b → (es : List Event) × LeadsIn (goes_on given es net) (asked_id h.engine) n
      go true q = (timeout n now ∷ [], leads_alone given net now n stands q)
      go false q = (
        timeout n now ∷ votes_from given now n h.voters (world_then given now (timeout n now) net),
        leads_in (elected_then given now net n stands q h.voters h.apart (grants h.voters h.apart h.would)
            (quorum_over (members h.engine).groups n h.voters h.quorum)).won,
      )

pub electable_lead : ElectableLead
electable_lead given net now n h = elected given net now n h
