-- What is executed later, and not before, stands above what was executed before with all below it.
use Rattle.std.specs.Prelude.{◌≡◌, ◌<◌, ◌≤◌, ◌⊎◌, ℕ, List, [], ◌∷◌, ◌++◌, map, flat_map, slice_get, slice_set, Contains, Option, None, Some}
use Rattle.std.proofs.Common.{◌∙◌, inl, inr, ap, subst, sym}
use Rattle.std.proofs.lemmas.Bool.{cases_lt}
use Rattle.std.proofs.lemmas.List.{append-nil, append_assoc}
use Rattle.std.proofs.lemmas.List.Elements.{Contains-append_left}
use Rattle.proof_deeds.specs.raft_store.declared.entry.Entry.{Entry}
use Rattle.proof_deeds.specs.raft_schedule.declared.event.Event.{Event}
use Rattle.proof_deeds.specs.raft_schedule.declared.event.Outcome.{Outcome}
use Rattle.proof_deeds.specs.raft_schedule.declared.event.Outcome.TheVariants.{Skipped}
use Rattle.proof_deeds.specs.raft_schedule.declared.event.SkipReason.TheVariants.{NoMessage, NotRunning}
use Rattle.proof_deeds.specs.raft_node.declared.act.Act.{Act}
use Rattle.proof_deeds.specs.raft_node.declared.act.Aim.{Aim}
use Rattle.proof_deeds.specs.raft_node.declared.given.Given.{Given}
use Rattle.proof_deeds.specs.raft_node.declared.record.Executed.{Executed}
use Rattle.proof_deeds.specs.raft_node.Events.{Scene, aim_of, at_node, at_place, happens, place_of, played, scene}
use Rattle.proof_deeds.specs.raft_node.Net.{Net, NodeView, Records, no_records}
use Rattle.proof_deeds.specs.raft_node.Runs.{whole_logs, world_after}
use Rattle.proof_deeds.specs.raft_node.Safety.{entries_of}
use Rattle.proof_deeds.specs.raft_node.WellFormed.{IsWellFormed}
use Rattle.proof_deeds.specs.raft_node.Work.{weight}
use Rattle.proof_deeds.proofs.Proved.{after_agrees}
use Rattle.proof_servers.specs.Follows.{AreIncluded}
use Rattle.proof_servers.specs.Laws.{IsCovered}
use Rattle.proof_servers.specs.Recorded.{records_behind}
use Rattle.proof_servers.proofs.AtNode.{behind_none, world_more}
use Rattle.proof_servers.proofs.Frame.{played_behind}
use Rattle.proof_servers.proofs.Included.{behind_same, contains_map, entries_included, included_left, included_self, included_then}

-- an event at a node only adds to the records
played_more : (given : Given) (act : Act) (event : Event) (n : NodeView) (r : Records (List Entry)) → AreIncluded r (played whole_logs weight given act event (scene n r)).1.records
played_more given act event n r =
    let q : Records (List Entry) = (played whole_logs weight given act event (scene n no_records)).1.records in
    let is : (played whole_logs weight given act event (scene n r)).1.records ≡ records_behind (λ es. es) r q =
    subst (λ (x : Records (List Entry)). (played whole_logs weight given act event (scene n x)).1.records ≡ records_behind (λ es. es) r q) (behind_none r)
    (ap (λ (p : Outcome × Scene (List Entry)). p.1.records) (played_behind (λ es. es) r whole_logs given event act (scene n no_records))) in
    subst (AreIncluded r) (sym (is ∙ behind_same r q)) (included_left r q)

abbrev records_after : Outcome × Net (List Entry) → Records (List Entry)
records_after r = r.1.records

event_more : (given : Given) (event : Event) (net : Net (List Entry)) → AreIncluded net.records (happens whole_logs weight given event net).1.records
unfolding happens
event_more given event net = by_aim (aim_of net.records.bag event.kind)
  where
    by_node : (act : Act) (i : ℕ) (o : Option NodeView)
        → AreIncluded net.records (records_after (elim o as (λ _. Outcome × Net (List Entry)) [
          | None ↦ (Skipped NotRunning, net)
          | Some n ↦ (let r = played whole_logs weight given act event (record { node = n; records = net.records }) in (r.0, record { nodes = slice_set net.nodes i r.1.node; records = r.1.records }))
        ]))
    by_node act i None = included_self net.records
    by_node act i (Some n) = played_more given act event n net.records

    by_place : (act : Act) (o : Option ℕ)
        → AreIncluded net.records (records_after (elim o as (λ _. Outcome × Net (List Entry)) [ None ↦ (Skipped NotRunning, net) | Some i ↦ at_place net i (played whole_logs weight given act event) ]))
    by_place act None = included_self net.records
    by_place act (Some i) = by_node act i (slice_get net.nodes i)

    by_aim : (o : Option Aim)
        → AreIncluded net.records (records_after (elim o as (λ _. Outcome × Net (List Entry)) [ None ↦ (Skipped NoMessage, net) | Some aim ↦ at_node net aim.id (played whole_logs weight given aim.act event) ]))
    by_aim None = included_self net.records
    by_aim (Some aim) = by_place aim.act (place_of net.nodes aim.id)

-- and so does a run
run_more : (given : Given) (es more : List Event) → AreIncluded (world_after given es).records (world_after given (es ++ more)).records
run_more given es [] = subst (λ x. AreIncluded (world_after given es).records (world_after given x).records) (sym (append-nil es)) (included_self (world_after given es).records)
run_more given es (e ∷ more) =
    let one : AreIncluded (world_after given es).records (world_after given (es ++ e ∷ [])).records =
    subst (λ (x : Net (List Entry)). AreIncluded (world_after given es).records x.records) (sym (world_more given es e)) (event_more given e (world_after given es)) in
    let rest : AreIncluded (world_after given (es ++ e ∷ [])).records (world_after given ((es ++ e ∷ []) ++ more)).records = run_more given (es ++ e ∷ []) more in
    subst (λ x. AreIncluded (world_after given es).records (world_after given x).records) (append_assoc es (e ∷ []) more)
    (included_then (world_after given es).records (world_after given (es ++ e ∷ [])).records (world_after given ((es ++ e ∷ []) ++ more)).records one rest)

-- were the later one not above, the earlier world would have had an entry at its index: that entry, by agreement
pub in_order : (given : Given) → IsWellFormed given → (es more : List Event) (x y : Executed)
    → Contains (world_after given es).records.executed x → IsCovered (world_after given es) x.entry.log_id.index
    → Contains (world_after given (es ++ more)).records.executed y
    → (Contains (entries_of (world_after given es).records.executed (world_after given es).records.installed) y.entry → ⊥)
    → x.entry.log_id.index < y.entry.log_id.index
in_order given wf es more x y c cover d fresh = go (cases_lt x.entry.log_id.index y.entry.log_id.index)
  where
    go : ((x.entry.log_id.index < y.entry.log_id.index) ⊎ (y.entry.log_id.index ≤ x.entry.log_id.index)) → x.entry.log_id.index < y.entry.log_id.index
    go (inl l) = l
    go (inr l) =
        let z : (z : Entry) × Contains (entries_of (world_after given es).records.executed (world_after given es).records.installed) z × (z.log_id.index ≡ y.entry.log_id.index) = cover y.entry.log_id.index l in
        let z_there : Contains (entries_of (world_after given (es ++ more)).records.executed (world_after given (es ++ more)).records.installed) z.0 =
        entries_included (world_after given es).records (world_after given (es ++ more)).records (run_more given es more) z.0 z.1 in
        let y_there : Contains (entries_of (world_after given (es ++ more)).records.executed (world_after given (es ++ more)).records.installed) y.entry =
        Contains-append_left (map (λ x. x.entry) (world_after given (es ++ more)).records.executed) (flat_map (λ x. x.entries) (world_after given (es ++ more)).records.installed) y.entry
        (contains_map (λ x. x.entry) (world_after given (es ++ more)).records.executed y d) in
        let same : z.0 ≡ y.entry = after_agrees given wf (es ++ more) z.0 y.entry z_there y_there z.2 in
        absurd (fresh (subst (Contains (entries_of (world_after given es).records.executed (world_after given es).records.installed)) same z.1))
