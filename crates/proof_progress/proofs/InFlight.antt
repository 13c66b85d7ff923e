-- What is in flight to a node, and the request that a plan delivers for it: the first that carries it.
use Rattle.std.proofs.Common.{ℕ, ◌+◌, ◌≡◌, Bool, true, false, ◌&&◌, List, [], ◌∷◌, refl, ap, ◌∙◌, subst, Option, None, Some}
use Rattle.std.specs.Prelude.{if◌then◌else◌, nat_eq}
use Rattle.std.specs.Option.{option_and_then}
use Rattle.std.specs.Ordering.{nat_cmp}
use Rattle.proof_deeds.specs.raft_progress_entry.declared.entry.Inflight.{Inflight}
use Rattle.proof_deeds.specs.raft_progress_entry.declared.entry.Inflight.TheVariants as inflight
use Rattle.proof_deeds.specs.raft_progress_entry.declared.entry.ProgressEntry.{ProgressEntry}
use Rattle.proof_deeds.specs.raft_progress_entry.Entry.{next_send, sent}
use Rattle.proof_deeds.specs.raft_progress.Table.{get}
use Rattle.proof_deeds.specs.raft_command.declared.replication.ReplicationSessionId.{ReplicationSessionId}
use Rattle.proof_deeds.specs.raft_store.declared.entry.Entry.{Entry}
use Rattle.proof_deeds.specs.raft_store.Types.{EngineView, WorldLeader}
use Rattle.proof_deeds.specs.raft_calls.declared.message.Body.{Body}
use Rattle.proof_deeds.specs.raft_calls.declared.message.Message.{Message}
use Rattle.proof_deeds.specs.raft_calls.Deliveries.{session_of}
use Rattle.proof_deeds.specs.raft_calls.LeaderCalls.{inflight_to}
use Rattle.proof_deeds.specs.raft_node.Net.{Net}
use Rattle.proof_progress.specs.Exchanges.{AreEntries, IsFree, IsOnItsWay, LeadsAt}
use Rattle.proof_progress.specs.Plans.{carries, first_from, number_of, request_to, running, sends}
use Rattle.proof_progress.proofs.Numbered.{CarriesFirst, carries_first, running_is}

module _ {net : Net (List Entry)} {now n : ℕ} (l : LeadsAt net now n) where
  pub leader_runs : running net n ≡ Some l.engine
  leader_runs = running_is net n l.node l.engine l.at l.runs

  module _ (t : ℕ) where
    pub in_flight : (e : ProgressEntry ℕ) → get nat_cmp l.leader.progress t ≡ Some e → inflight_to t l.engine ≡ e.inflight
    in_flight e has = go l.engine.machine.leader l.leads
      where
        in_row : Option (ProgressEntry ℕ) → Inflight ℕ
        in_row o = elim o as (λ _. Inflight ℕ) [ None ↦ inflight.None | Some p ↦ p.inflight ]

        row : (o : Option (ProgressEntry ℕ)) → o ≡ Some e → in_row o ≡ e.inflight
        row None q = cc
        row (Some p) q = let z : p ≡ e = cc in ap (λ (e : ProgressEntry ℕ). e.inflight) z

        go : (p : Option WorldLeader) → p ≡ Some l.leader → ◌≡◌ {A = Inflight ℕ} (elim p [ None ↦ inflight.None | Some k ↦ in_row (get nat_cmp k.progress t) ]) e.inflight
        go None q = cc
        go (Some k) q =
            let z : l.leader ≡ k = cc in
            subst (λ (k : WorldLeader). in_row (get nat_cmp k.progress t) ≡ e.inflight) z (row (get nat_cmp l.leader.progress t) has)

    -- the plan's request is the first that carries it
    first_carrying : Inflight ℕ → Option ℕ
    first_carrying i = number_of (sends n t (carries l.session i)) net.records.bag

    request_is : (e : ProgressEntry ℕ) → get nat_cmp l.leader.progress t ≡ Some e → request_to net n t ≡ number_of (sends n t (carries l.session e.inflight)) net.records.bag
    unfolding first_carrying
    request_is e has = ap in_engine leader_runs ∙ (ap in_session l.in_session ∙ ap first_carrying (in_flight e has))
      where
        in_session : Option (ReplicationSessionId ℕ) → Option ℕ
        in_session o = option_and_then (λ (s : ReplicationSessionId ℕ). number_of (sends n t (carries s (inflight_to t l.engine))) net.records.bag) o

        in_engine : Option EngineView → Option ℕ
        in_engine o =
            option_and_then
            (λ (e : EngineView). option_and_then (λ (s : ReplicationSessionId ℕ). number_of (sends n t (carries s (inflight_to t e))) net.records.bag) (session_of e))
            o

    -- nothing is in flight: there is no request
    pub none_requested : IsFree l t → request_to net n t ≡ None
    unfolding first_carrying
    none_requested f = request_is f.entry f.has ∙ (ap first_carrying f.free ∙ none_from 1 net.records.bag)
      where
        carries_none : Message → Bool
        carries_none m = sends n t (carries l.session inflight.None) m

        no_body : (b : Body) → carries l.session inflight.None b ≡ false
        no_body b = refl

        unsent : (a c : Bool) → c ≡ false → (a && c) ≡ false
        unsent true c e = e
        unsent false c e = refl

        skipped : (b : Bool) (k : ℕ) (o : Option ℕ) → b ≡ false → o ≡ None → ◌≡◌ {A = Option ℕ} (if b then Some k else o) None
        skipped true k o e q = cc
        skipped false k o e q = q

        none_from : (k : ℕ) (bag : List Message) → first_from k (sends n t (carries l.session inflight.None)) bag ≡ None
        none_from k [] = refl
        none_from k (m ∷ bag) =
            skipped (carries_none m) k (first_from (k + 1) (sends n t (carries l.session inflight.None)) bag)
            (unsent (nat_eq m.from n && nat_eq m.to t) (carries l.session inflight.None m.body) (no_body m.body)) (none_from (k + 1) bag)

    -- the first request that carries the entries in flight is on its way
    module _ (a : IsOnItsWay l t) where
      abbrev pub asked_of : ProgressEntry ℕ
      asked_of = sent a.was (next_send l.engine.machine.core.state l.engine.config.max_payload_entries a.was)

      module _ (entries : AreEntries (sent a.was (next_send l.engine.machine.core.state l.engine.config.max_payload_entries a.was)).inflight) where
        pub first_request : CarriesFirst net.records.bag n t l.session asked_of.inflight
        first_request = carries_first net.records.bag n t l.session asked_of.inflight entries a.number a.body a.there a.carries

        abbrev pub first_on_its_way : IsOnItsWay l t
        first_on_its_way = record {
          was = a.was;
          free = a.free;
          has = a.has;
          number = first_request.number;
          body = first_request.body;
          there = first_request.there;
          carries = first_request.carries;
        }

        pub first_requested : request_to net n t ≡ Some first_on_its_way.number
        first_requested = request_is asked_of a.has ∙ first_request.found
