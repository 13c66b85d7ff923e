-- Where nodes can go on no premise lacks, and something is found.
use Rattle.std.proofs.Common.{ℕ, zero, suc, ◌+◌, ◌-◌, ◌<◌, ◌≡◌, List, [], ◌∷◌, length, map, arith, refl, sym, ap, ◌∙◌, subst, None, Some}
use Rattle.std.specs.Prelude.{slice_get}
use Rattle.std.specs.Ordering.{nat_cmp}
use Rattle.raft_state.specs.declared.ids.LogId.{LogId}
use Rattle.raft_state.specs.declared.membership.Members.{Members}
use Rattle.raft_state.specs.Log.{last}
use Rattle.raft_state.specs.Members.{no_members, voter_ids}
use Rattle.raft_store.specs.declared.entry.Entry.{Entry}
use Rattle.raft_store.specs.declared.entry.Value.{Value}
use Rattle.raft_store.specs.declared.entry.Value.TheVariants.{Number}
use Rattle.raft_store.specs.Built.{last_membership}
use Rattle.raft_store.specs.Entries.{entry_meaning}
use Rattle.raft_store.specs.Store.{whole}
use Rattle.raft_node.specs.Net.{Net, NodeView}
use Rattle.raft_node.specs.Runs.{History, world_after}
use Rattle.raft_world.specs.Worlds.{IsWorldOfRun, WorldView, events_in}
use Rattle.proof_progress.specs.Changes.{CanGoOnWith, FindsStored}
use Rattle.proof_progress.specs.Continuations.{At}
use Rattle.proof_progress.specs.Elections.{Listed, log_end, members}
use Rattle.proof_progress.specs.GoesOn.{found}
use Rattle.proof_progress.specs.GoneByPlan.{AloneHaveNoOthers, GoneByPlan}
use Rattle.proof_progress.specs.Proposals.{EachOnce}
use Rattle.proof_progress.proofs.ChangesGo.{plans_go_on}
use Rattle.proof_progress.proofs.Chosen.{each_at}
use Rattle.proof_progress.proofs.FoundEnd.{starts_find_stored}
use Rattle.proof_progress.proofs.Heard.{each_listed}
use Rattle.raft_recovery.specs.Recoveries.{CanRecover, IsElectable, LackLogs}
use Rattle.raft_recovery.specs.Ways.{RecoversBy}
use Rattle.raft_recovery.proofs.Recovering.{electable, ways_recover}

-- a log without a last id is empty
no_entries : (es : List Entry) → last (map (λ (e : Entry). e.log_id) es) ≡ None → es ≡ []
no_entries [] q = refl
no_entries (x ∷ es) q = absurd (some (map (λ (e : Entry). e.log_id) (x ∷ es)) (length (map (λ (e : Entry). e.log_id) (x ∷ es)) - 1) (omega arith) q)
  where
    some : (xs : List (LogId ℕ)) (k : ℕ) → k < length xs → slice_get xs k ≡ None → ⊥
    some [] k l q = absurd (omega (arith, l))
    some (y ∷ xs) zero l q = cc
    some (y ∷ xs) (suc k) l q = some xs k (omega (arith, l)) q

module _ (w : WorldView) (up : List ℕ) (h : CanRecover w up) where
  pub each_once : (EachOnce up → ⊥) → ⊥
  each_once twice = twice h.can.once

  pub all_nodes : (n : ℕ) → Listed up n × (Listed (map (λ (N : NodeView). N.id) w.history.net.nodes) n → ⊥) → ⊥
  all_nodes n k = k.1 (each_listed (Listed (map (λ (N : NodeView). N.id) w.history.net.nodes)) up n k.0 h.can.nodes)

  module _ (run : IsWorldOfRun w) where
    net_is : w.history.net ≡ world_after w.given (events_in w)
    net_is = ap (λ (x : History (List Entry)). x.net) (run.is h.unspent)

    can : CanGoOnWith w.given (world_after w.given (events_in w)) up h.greatest 1
    can = subst (λ (net : Net (List Entry)). CanGoOnWith w.given net up h.greatest 1) net_is h.can

    alone : AloneHaveNoOthers w.given (world_after w.given (events_in w)) up
    alone = subst (λ (net : Net (List Entry)). AloneHaveNoOthers w.given net up) net_is h.alone

    -- one of them has a log: a voter of its membership
    pub some_log : LackLogs w.given w.history.net up → ⊥
    some_log lacks = absurd none
      where
        stored : FindsStored w.given h.can.greatest.node
        stored =
            each_at (FindsStored w.given) (world_after w.given (events_in w)).nodes h.greatest h.can.greatest.node
            (subst (λ (net : Net (List Entry)). At net.nodes h.greatest h.can.greatest.node) net_is h.can.greatest.at)
            (starts_find_stored w.given run.made.well_formed (events_in w))

        empty : whole h.can.greatest.node.store ≡ []
        empty = no_entries (whole h.can.greatest.node.store) (sym stored.1 ∙ lacks h.greatest h.can.greatest.one h.can.greatest.node h.can.greatest.at)

        none : Listed (voter_ids {N = Unit {0}} nat_cmp no_members) h.greatest
        none =
            subst (λ (m : Members ℕ (Unit {0})). Listed (voter_ids nat_cmp m) h.greatest)
            (stored.0 ∙ ap (λ (es : List Entry). (last_membership entry_meaning es).membership) empty) h.can.greatest.votes

    -- one of them can be elected
    pub some_electable : ((n : ℕ) → IsElectable w.given w.history.net up n → ⊥) → ⊥
    some_electable none =
        let g : GoneByPlan w.given (events_in w) up h.greatest (Number 0 ∷ []) = plans_go_on w.given run.made.well_formed (events_in w) up h.greatest (Number 0) [] can alone in
        none g.gone.n (subst (λ (net : Net (List Entry)). IsElectable w.given net up g.gone.n) (sym net_is) (electable w.given (events_in w) up h.greatest (Number 0) g))

    -- they recover by the way on of one of them
    pub some_recover : (value : Value) → ((n : ℕ) → Listed up n → RecoversBy w.given w.history.net up value n → ⊥) → ⊥
    some_recover value none =
        let r : (t : ℕ) × Listed up t × RecoversBy w.given (world_after w.given (events_in w)) up value t = ways_recover w.given run.made.well_formed (events_in w) up h.greatest value can alone in
        none r.0 r.1 (subst (λ (net : Net (List Entry)). RecoversBy w.given net up value r.0) (sym net_is) r.2)
