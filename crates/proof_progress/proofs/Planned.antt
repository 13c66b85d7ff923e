-- Plans, one step after another.
use Rattle.std.proofs.Common.{ℕ, zero, suc, ◌-◌, ◌*◌, ◌≡◌, List, [], ◌∷◌, ◌++◌, refl, sym, ap, ◌∙◌, Option, None, Some}
use Rattle.std.specs.Prelude.{drop}
use Rattle.proof_deeds.specs.raft_state.declared.ids.LogId.{LogId}
use Rattle.proof_deeds.specs.raft_state.declared.ids.Vote.{Vote}
use Rattle.proof_deeds.specs.raft_state.Order.{next}
use Rattle.proof_deeds.proofs.raft_steps_proofs.LawsQueue.{append_append}
use Rattle.proof_deeds.specs.raft_store.declared.entry.Entry.{Entry}
use Rattle.proof_deeds.specs.raft_store.Types.{EngineView}
use Rattle.proof_deeds.specs.raft_schedule.declared.event.Event.{Event}
use Rattle.proof_deeds.specs.raft_node.declared.given.Given.{Given}
use Rattle.proof_deeds.specs.raft_node.Net.{Net}
use Rattle.proof_deeds.specs.raft_node.Runs.{world_after}
use Rattle.proof_progress.specs.Continuations.{deliver, fail, goes_on, timeout}
use Rattle.proof_progress.specs.Elections.{log_end}
use Rattle.proof_progress.specs.Plans.{bring, bring_all, collect, exchange, exchanges, number_of, request_to, running, sends, tell, tell_all, tells}
use Rattle.proof_progress.specs.Plans.{timeouts, times, votes_from, world_then}
use Rattle.proof_progress.proofs.CanElect.{goes_after}
use Rattle.proof_progress.proofs.Chosen.{both_run}

-- what is planned from the world after some events, behind these
pub planned_then : (given : Given) (past events : List Event) (plan : Net (List Entry) → List Event) (some all : List Event)
    → some ≡ past ++ events → all ≡ some ++ plan (world_after given some) → all ≡ past ++ (events ++ plan (goes_on given events (world_after given past)))
planned_then given past events plan some all p q =
    q
    ∙ (ap (λ (es : List Event). es ++ plan (world_after given es)) p
    ∙ (append_append past events (plan (world_after given (past ++ events)))
    ∙ ap (λ (w : Net (List Entry)). past ++ (events ++ plan w)) (goes_after given past events)))

-- events behind the same events
pub same_behind : (past xs ys : List Event) → past ++ xs ≡ past ++ ys → xs ≡ ys
same_behind [] xs ys q = q
same_behind (e ∷ past) xs ys q = same_behind past xs ys (ap (drop 1) q)

module _ (given : Given) (now n : ℕ) where
  -- A node's timeouts, by its term
  pub timeouts_at : (top : ℕ) (net : Net (List Entry)) (e : EngineView) → running net n ≡ Some e
      → timeouts given now n top net ≡ times (suc (top - e.machine.core.state.vote.leader_id.term)) (timeout n now)
  timeouts_at top net e q = ap timed q
    where
      timed : Option EngineView → List Event
      timed o = elim o as (λ _. List Event) [ None ↦ [] | Some e ↦ times (suc (top - e.machine.core.state.vote.leader_id.term)) (timeout n now) ]

  -- no voter is asked
  pub none_asked : (net : Net (List Entry)) → votes_from given now n [] net ≡ []
  none_asked net = go (running net n)
    where
      go : (o : Option EngineView)
          → ◌≡◌ {A = List Event} (elim o [ None ↦ [] | Some e ↦ collect given now n e.machine.core.state.vote (log_end e) [] net ]) []
      go None = refl
      go (Some e) = refl

  -- Exchanges, by what is requested
  module _ (t : ℕ) (net : Net (List Entry)) where
    abbrev by_request : ℕ → Option ℕ → List Event
    by_request fuel o =
        elim o as (λ _. List Event) [
          | None ↦ []
          | Some k ↦ exchange given now k net ++ exchanges given now fuel n t (goes_on given (exchange given now k net) net)
        ]

    pub exchanges_next : (fuel k : ℕ) → request_to net n t ≡ Some k
        → exchanges given now (suc fuel) n t net ≡ exchange given now k net ++ exchanges given now fuel n t (goes_on given (exchange given now k net) net)
    exchanges_next fuel k q = ap (by_request fuel) q

    pub exchanges_none : (fuel : ℕ) → request_to net n t ≡ None → exchanges given now fuel n t net ≡ []
    exchanges_none zero q = refl
    exchanges_none (suc fuel) q = ap (by_request fuel) q

    -- as many as the leader's log is long
    pub bring_is : (e : EngineView) → running net n ≡ Some e
        → bring given now n t net ≡ fail n t now ∷ exchanges given now (2 * next (log_end e)) n t (world_then given now (fail n t now) net)
    bring_is e q = ap (λ len. fail n t now ∷ exchanges given now (2 * len) n t (world_then given now (fail n t now) net)) (ap len_at q)
      where
        len_at : Option EngineView → ℕ
        len_at o = elim o as (λ _. ℕ) [ None ↦ 0 | Some e ↦ next (log_end e) ]

  -- some nodes are brought up to date, and then others
  pub bring_both : (ts us : List ℕ) (net : Net (List Entry))
      → bring_all given now n (ts ++ us) net ≡ bring_all given now n ts net ++ bring_all given now n us (goes_on given (bring_all given now n ts net) net)
  bring_both [] us net = refl
  bring_both (t ∷ ts) us net =
      ap (λ (es : List Event). bring given now n t net ++ es) (bring_both ts us then)
      ∙ (sym (append_append (bring given now n t net) (bring_all given now n ts then) _)
      ∙ ap (λ (w : Net (List Entry)). (bring given now n t net ++ bring_all given now n ts then) ++ bring_all given now n us w)
      (sym (both_run given (bring given now n t net) (bring_all given now n ts then) net)))
    where
      then : Net (List Entry)
      then = goes_on given (bring given now n t net) net

  -- What nodes are told, by the first message that tells it
  pub tells_next : (v : Vote ℕ) (x : Option (LogId ℕ)) (t : ℕ) (ts : List ℕ) (net : Net (List Entry)) (k : ℕ) → number_of (sends n t (tells v x)) net.records.bag ≡ Some k
      → tell_all given now n v x (t ∷ ts) net ≡ deliver k now ∷ tell_all given now n v x ts (world_then given now (deliver k now) net)
  tells_next v x t ts net k q = ap by_number q
    where
      by_number : Option ℕ → List Event
      by_number o =
          elim o as (λ _. List Event) [
            | None ↦ []
            | Some k ↦ deliver k now ∷ tell_all given now n v x ts (world_then given now (deliver k now) net)
          ]

  pub tell_is : (ts : List ℕ) (net : Net (List Entry)) (e : EngineView) → running net n ≡ Some e
      → tell given now n ts net ≡ tell_all given now n e.machine.core.state.vote e.machine.core.state.committed ts net
  tell_is ts net e q = ap told q
    where
      told : Option EngineView → List Event
      told o =
          elim o as (λ _. List Event) [
            | None ↦ []
            | Some e ↦ tell_all given now n e.machine.core.state.vote e.machine.core.state.committed ts net
          ]

  -- a leader that is alone has no one to tell
  pub none_told : (net : Net (List Entry)) → tell given now n [] net ≡ []
  none_told net = go (running net n)
    where
      go : (o : Option EngineView)
          → ◌≡◌ {A = List Event} (elim o [ None ↦ [] | Some e ↦ tell_all given now n e.machine.core.state.vote e.machine.core.state.committed [] net ]) []
      go None = refl
      go (Some e) = refl
