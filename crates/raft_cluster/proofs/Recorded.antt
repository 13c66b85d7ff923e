-- What k flushes in a row make of what clients were told, packed.
use Rattle.std.proofs.Common.{◌≡◌, ◌∙◌, List, [], ◌∷◌, ◌++◌, sym, ap}
use Rattle.std.proofs.lemmas.List.{map-append}
use Rattle.std.specs.Prelude.{map}
use Rattle.raft_store.specs.declared.entry.Entry.{Entry}
use Rattle.raft_node.specs.declared.record.Executed.{Executed}
use Rattle.raft_node.specs.Net.{Records}
use Rattle.proof_servers.specs.Recorded.{joined}
use Rattle.proof_servers.specs.Servers.{WaitingStep}
use Rattle.proof_requests.proofs.proof_logs_proofs.Runs.{told_by}
use Rattle.proof_packed.specs.Nodes.{PackedInstalled, PackedRecords, packed_message, packed_records}
use Rattle.proof_packed.specs.Stores.{Application}
use Rattle.proof_requests.specs.proof_packed_servers.Servers.{packed_joined, waiting_packed}
use Rattle.proof_requests.proofs.proof_packed_servers_proofs.Clusters.{joined_kept}
use Rattle.proof_requests.specs.raft_packed_server.Represents.{said_by}
use Rattle.proof_requests.proofs.raft_packed_server_proofs.Waiting.{joined_both, joined_none}

module _ {S : Type 0} (app : Application S) where
  abbrev saying : List WaitingStep → PackedRecords S
  saying ws = said_by (map (waiting_packed app) ws)

  told_said : (ws : List WaitingStep) (r : Records (List Entry)) → packed_records app (told_by ws r) ≡ packed_joined (packed_records app r) (saying ws)
  told_said [] r = sym (joined_none (packed_records app r))
  told_said (w ∷ ws) r =
      told_said ws (joined r w.outputs)
      ∙ (ap (λ (q : PackedRecords S). packed_joined q (saying ws)) (joined_kept app r w.outputs)
      ∙ sym (joined_both (packed_records app r) (packed_records app w.outputs) (saying ws)))

  module _ (ws : List WaitingStep) (r : Records (List Entry)) (said : PackedRecords S) (says : said ≡ saying ws) where
    abbrev told : PackedRecords S
    told = packed_records app (told_by ws r)

    pub bag_more : told.bag ≡ map (packed_message app) r.bag ++ said.bag
    bag_more = ap (λ (q : PackedRecords S). q.bag) (told_said ws r) ∙ (λ i. map (packed_message app) r.bag ++ (sym says i).bag)

    pub executed_more : map (λ (x : Executed). x.entry) r.executed ++ map (λ (x : Executed). x.entry) said.executed ≡ map (λ (x : Executed). x.entry) told.executed
    executed_more =
        sym (map-append (λ (x : Executed). x.entry) r.executed said.executed)
        ∙ ap (map (λ (x : Executed). x.entry))
        ((λ i. r.executed ++ (says i).executed) ∙ sym (ap (λ (q : PackedRecords S). q.executed) (told_said ws r)))

    pub installed_more : map (λ (x : PackedInstalled S). x.snapshot) (packed_records app r).installed ++ map (λ (x : PackedInstalled S). x.snapshot) said.installed
        ≡ map (λ (x : PackedInstalled S). x.snapshot) told.installed
    installed_more =
        sym (map-append (λ (x : PackedInstalled S). x.snapshot) (packed_records app r).installed said.installed)
        ∙ ap (map (λ (x : PackedInstalled S). x.snapshot))
        ((λ i. (packed_records app r).installed ++ (says i).installed) ∙ sym (ap (λ (q : PackedRecords S). q.installed) (told_said ws r)))
