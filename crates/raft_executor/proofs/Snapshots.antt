-- A snapshot of entries is what executing them leaves.
use Rattle.std.proofs.Common.{ℕ, ◌≡◌, List, [], ◌∷◌, Option, Some, None, refl, ap, ◌∙◌}
use Rattle.std.specs.Option.{option_map}
use Rattle.raft_state.specs.declared.ids.LogId.{LogId}
use Rattle.raft_state.specs.declared.membership.Members.{Members}
use Rattle.raft_machine.specs.Machine.{State}
use Rattle.raft_store.specs.Entries.{members_of}
use Rattle.raft_store.specs.declared.entry.Entry.{Entry}
use Rattle.raft_packed.specs.proof_packed_stores.Stores.{Packed, WorldMembership, packed, with_entries, with_entry}
use Rattle.raft_packed.proofs.proof_packed_stores_proofs.Stores.{packs_stores}
use Rattle.raft_executor.specs.Executor.{Executed, begun, executed, executed_all, held, installed, latest, without_outcome}
use Rattle.raft_executor.specs.KeyValue.{application, ran, request_in}
use Rattle.raft_executor.specs.Laws.{SnapshotsAreWhatWasExecuted}

members_more : (stored : WorldMembership) (id : LogId ℕ) (o : Option (Members ℕ (Unit {0})))
    → held (elim (option_map (λ m. record { log_id = Some id; membership = m }) o) [ None ↦ stored | Some m ↦ m ]) ≡ latest o (held stored)
members_more stored id None = refl
members_more stored id (Some m) = refl

one_more : (p : Packed State) (e : Entry) → installed (with_entry application p e) ≡ without_outcome (executed (installed p) e)
one_more p e =
    ap
    (λ (ms : Option (Members ℕ (Unit {0}))).
    let x : Executed = record { state = (ran p.state (request_in e.payload)).0; outcome = None; applied = Some e.log_id; members = ms } in
    x)
    (members_more p.effective e.log_id (members_of e.payload))

-- what came before is no part of what comes of the next entry
forgotten : (es : List Entry) (x : Executed) → without_outcome (executed_all (without_outcome x) es) ≡ without_outcome (executed_all x es)
forgotten [] x = refl
forgotten (e ∷ es) x = refl

more : (es : List Entry) (p : Packed State) → installed (with_entries application p es) ≡ without_outcome (executed_all (installed p) es)
more [] p = refl
more (e ∷ es) p =
    more es (with_entry application p e)
    ∙ ap (λ x. without_outcome (executed_all x es)) (one_more p e)
    ∙ forgotten es (executed (installed p) e)

pub snapshots : SnapshotsAreWhatWasExecuted
snapshots es = ap installed ((packs_stores application).more [] es) ∙ more es (packed application [])
