use Rattle.std.proofs.Common.{ℕ, ◌≡◌, ◌∙◌, ◌++◌, ap, map}
use Rattle.std.specs.Map.{values_of}
use Rattle.std.specs.Option.{option_to_list}
use Rattle.raft_state.specs.declared.membership.SnapshotMeta.{SnapshotMeta}
use Rattle.raft_state.specs.Log.{last}
use Rattle.raft_store.specs.Built.{last_membership}
use Rattle.raft_store.specs.Entries.{entry_meaning}
use Rattle.raft_recovery.proofs.Starts.{found_by}
use Rattle.raft_recovery.proofs.starting.found_whole.Goals as goal

pub returns : goal.returns
returns c =
    let t = c.args.store.now in
    found_by t t c.last_of.result c.in_ok-meta.meta.last_membership.membership c.front-2.result c.snapshot_last.result c.requires.fit
    (c.last_of.ensures ∙ (ap (λ front. last (option_to_list front ++ map entry_meaning.id_of c.args.stored.now)) c.front.ensures
    ∙ ap (λ es. last (option_to_list t.front ++ map entry_meaning.id_of es)) c.requires.entries))
    (ap (λ (m : SnapshotMeta ℕ (Unit {0})). m.last_membership.membership) c.in_ok-meta.ensures
    ∙ ap (λ es. (last_membership entry_meaning es).membership) (c.deref.ensures.value ∙ c.in_ok-whole.ensures))
    c.front-2.ensures c.snapshot_last.ensures
