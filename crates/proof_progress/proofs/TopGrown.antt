-- An event that takes no request makes its node's log grow by the first entry, or by entries of its own; so such a node stays, if who
-- wrote the last entry under its vote is a voter then.
use Rattle.std.proofs.Common.{ℕ, ◌+◌, ◌<◌, ◌≤◌, ◌≡◌, arith, ◌⊎◌, inl, inr, ⊎_elim, List, [], ◌∷◌, ◌++◌, sym, ap, ◌∙◌, subst}
use Rattle.std.proofs.lemmas.Bool.{cases_lt}
use Rattle.std.proofs.lemmas.List.{append_cancel_left}
use Rattle.std.specs.List.{AllByRecursion}
use Rattle.proof_deeds.specs.raft_store.declared.entry.Entry.{Entry}
use Rattle.proof_deeds.specs.raft_store.Store.{whole}
use Rattle.proof_deeds.specs.raft_schedule.declared.event.Event.{Event}
use Rattle.proof_deeds.specs.raft_calls.declared.message.Body.{Body}
use Rattle.proof_deeds.specs.raft_calls.declared.message.Body.TheVariants as body
use Rattle.proof_deeds.specs.raft_calls.declared.message.Message.{Message}
use Rattle.proof_deeds.specs.raft_node.declared.given.Given.{Given}
use Rattle.proof_deeds.specs.raft_node.Events.{happens}
use Rattle.proof_deeds.specs.raft_node.Net.{NodeView}
use Rattle.proof_deeds.specs.raft_node.Runs.{whole_logs, world_after}
use Rattle.proof_deeds.specs.raft_node.WellFormed.{IsWellFormed}
use Rattle.proof_deeds.specs.raft_node.Work.{weight}
use Rattle.proof_deeds.specs.proof_agreement.Stores as stores
use Rattle.proof_deeds.specs.Images.{number, setup_of}
use Rattle.proof_deeds.specs.Nets.{NodeFollows}
use Rattle.proof_deeds.proofs.AllLaws.{all_laws}
use Rattle.proof_deeds.proofs.AppendFitting.{Settled}
use Rattle.proof_deeds.proofs.Joined.{ExtraAt, Followed, aimed}
use Rattle.proof_deeds.proofs.Events.{ActFits}
use Rattle.proof_deeds.proofs.Promised.{one_of}
use Rattle.proof_deeds.proofs.Proved.{followed}
use Rattle.proof_deeds.proofs.Worlds.{each_on}
use Rattle.proof_progress.proofs.Bringing.{Brought}
use Rattle.proof_progress.proofs.BringingCalled.{ActTakesNone}
use Rattle.proof_progress.proofs.EntriesKept.{NodeOf}
use Rattle.proof_progress.proofs.EntriesQueued.{BodyOf}
use Rattle.proof_progress.proofs.Grown.{GrownTo, played_grown}
use Rattle.proof_progress.proofs.Top.{BagOf, IsFirst, IsOwn, behind_all}
use Rattle.proof_progress.proofs.VoteQueues.{Votes}
use Rattle.proof_progress.proofs.TopEvents.{Does, EventAt, then_at}

-- each entry is one
abbrev Any : Entry → Type 0
Any e = Unit {0}

module _ {X : Type 0} where
  all_any : (xs : List X) → AllByRecursion (λ _. Unit {0}) xs
  all_any [] = tt
  all_any (x ∷ xs) = (tt, all_any xs)

node_any : (N : NodeView) → NodeOf Any N
node_any N = record { store = record { log = all_any N.store.log; snap = all_any N.store.snap; applied = all_any N.store.applied }; noted = λ es q. all_any es }

bag_any : (ms : List Message) → BagOf Any ms
bag_any [] = tt
bag_any (m ∷ ms) = (by m.body, bag_any ms)
  where
    by : (b : Body) → BodyOf Any b
    by (body.VoteRequest q) = tt
    by (body.VoteReply r) = tt
    by (body.AppendRequest o prev es committed) = all_any es
    by (body.AppendReply o r prev upto) = tt
    by (body.SnapshotRequest o s) = all_any s.snapshot
    by (body.SnapshotReply o r upto) = tt

-- no later one than the first, or the node's own
own_or_first : (n low : ℕ) (e : Entry) → Brought n low e → IsFirst e ⊎ IsOwn n e
own_or_first n low e (inl h) = inl h
own_or_first n low e (inr h) = ⊎_elim (λ l. inr (record { own = h.0; positive = l })) (λ k. inl k) (cases_lt 0 (number e.log_id.leader_id))

-- an own one is under the vote that the node has then
not_lower : (n low vote : ℕ) (e : Entry) → vote ≤ low → Brought n low e → IsOwn n e → vote ≤ number e.log_id.leader_id
not_lower n low vote e l (inl h) i = let p : 0 < number e.log_id.leader_id = i.positive in absurd (omega (arith, h, p))
not_lower n low vote e l (inr h) i = let k : low ≤ number e.log_id.leader_id = h.1 in omega (arith, l, k)

module _ (given : Given) (wf : IsWellFormed given) (past : List Event) (event : Event) (E : EventAt given wf past event) where
  h : Followed given (Settled (setup_of given.membership)) (stores.empty (setup_of given.membership)) (world_after given past)
  h = followed given wf past

  grown : (P : Entry → Type 0) → ActTakesNone E.act E.node → NodeOf P E.node → BagOf P (world_after given past).records.bag
      → GrownTo P (record { node = E.node; records = (world_after given past).records }) (then_at given wf past event E.act E.node)
  grown P takes all bag =
      let fits : ActFits given.membership h.world E.node.id E.act =
      subst (λ d. ActFits given.membership h.world d E.act) (sym E.own) (aimed given (Settled (setup_of given.membership)) (all_laws given.membership) _ (world_after given past) h event.kind (record { id = E.n; act = E.act }) E.aim) in
      let k : NodeFollows (setup_of given.membership) h.world (world_after given past).records E.node = one_of (NodeFollows (setup_of given.membership) h.world (world_after given past).records) (world_after given past).nodes E.node h.follows.nodes E.there in
      let x : ExtraAt given (Settled (setup_of given.membership)) h.world E.node = one_of (ExtraAt given (Settled (setup_of given.membership)) h.world) (world_after given past).nodes E.node h.extra E.there in
      played_grown given P h.world h.follows.reached E.act event (record { node = E.node; records = (world_after given past).records }) fits k h.fit x takes all bag

  pub grows_does : ActTakesNone E.act E.node
      → ((added : List Entry) (y : Entry) → whole (then_at given wf past event E.act E.node).node.store ≡ whole E.node.store ++ (added ++ y ∷ []) → IsOwn E.n y
      → number (then_at given wf past event E.act E.node).node.store.vote.leader_id ≤ number y.log_id.leader_id → Votes E.n (then_at given wf past event E.act E.node).node.store)
      → Does (world_after given past) (happens whole_logs weight given event (world_after given past)).1 E.n E.node (then_at given wf past event E.act E.node).node
  grows_does takes voter =
      let g = grown Any takes (node_any E.node) (bag_any (world_after given past).records.bag) in
      record {
        brought = g.added;
        keeps = λ P all bag a.
            let k = grown P takes all bag in
            let d = k.all (subst (AllByRecursion P) (append_cancel_left (whole E.node.store) g.added k.added (sym g.log ∙ k.log)) a) in
            (d.0, subst (λ r. BagOf P r) (sym bag_is) d.1);
        does = inr (
          record {
            log = g.log;
            each = each_on (Brought E.node.id g.low) (λ (e : Entry). IsFirst e ⊎ IsOwn E.n e) (λ e b. own_or_first E.n g.low e (subst (λ n. Brought n g.low e) E.own b)) g.added g.each;
          },
          λ before y q o.
              let b : Brought E.node.id g.low y = (behind_all (Brought E.node.id g.low) before (y ∷ []) (subst (AllByRecursion (Brought E.node.id g.low)) q g.each)).0 in
              voter before y (g.log ∙ ap (λ es. whole E.node.store ++ es) q) o
              (not_lower E.n g.low (number (then_at given wf past event E.act E.node).node.store.vote.leader_id) y g.vote (subst (λ n. Brought n g.low y) E.own b) o),
        );
      }
    where
      bag_is : (happens whole_logs weight given event (world_after given past)).1.records.bag ≡ (then_at given wf past event E.act E.node).records.bag
      bag_is = ap (λ r. r.bag) E.records
