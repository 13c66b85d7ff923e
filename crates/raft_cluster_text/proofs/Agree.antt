-- A check of what clients were told finds that it agrees.
use Rattle.std.proofs.Common.{◌≡◌, ◌∙◌, List, [], ◌∷◌, ◌++◌, ap, refl, subst, sym}
use Rattle.std.specs.Prelude.{false, fold, map}
use Rattle.std.specs.List.{flat_map}
use Rattle.std.proofs.lemmas.List.{append-nil, append_assoc}
use Rattle.std.proofs.lemmas.List.Folds.{flat_map-map}
use Rattle.raft_node.specs.declared.record.Installed.{Installed}
use Rattle.raft_node.specs.Safety.{AllAgree, entries_of}
use Rattle.raft_store.specs.declared.entry.Entry.{Entry}
use Rattle.raft_codec.specs.Codec.{list}
use Rattle.raft_wire.specs.Entries.{entry}
use Rattle.raft_world.specs.declared.agreement.Agreement.{Agreement}
use Rattle.raft_world.specs.declared.agreement.Agreement.TheVariants.{Agree, Differ}
use Rattle.raft_world.specs.Agreed.{Checks, DiffersAt}
use Rattle.raft_cluster.specs.declared.told.Installed.{Installed as InstalledTold}
use Rattle.proof_packed.specs.Stores.{Packed, packed}
use Rattle.raft_cluster.specs.declared.cluster.Cluster.{Cluster}
use Rattle.raft_cluster.specs.declared.told.Told.{Told}
use Rattle.raft_cluster.specs.Clusters.{snapshots_told}
use Rattle.raft_cluster.specs.Laws.{Agrees}
use Rattle.raft_cluster.proofs.Agree.{clusters_agree}
use Rattle.raft_cluster_text.specs.Entries.{HoldsAt, application, installed_told}

-- the state of entries is they
applied_is : (before es : List Entry) → fold application.apply before es ≡ before ++ es
applied_is before [] = sym (append-nil before)
applied_is before (e ∷ es) = applied_is (before ++ e ∷ []) es ∙ append_assoc before (e ∷ []) es

abbrev state_of : Packed (List Entry) → List Entry
state_of p = p.state

states : (xs : List Installed) → map state_of (map (λ (x : Installed). packed application x.entries) xs) ≡ map (λ (x : Installed). x.entries) xs
states [] = refl
states (x ∷ xs) = λ i. applied_is [] x.entries i ∷ states xs i

told_states : (xs : List (InstalledTold (List Entry)))
    → map (λ (x : Installed). x.entries) (map (λ (x : InstalledTold (List Entry)). let y : Installed = record { node = x.node; entries = x.snapshot.state } in y) xs)
    ≡ map state_of (map (λ (x : InstalledTold (List Entry)). x.snapshot) xs)
told_states [] = refl
told_states (x ∷ xs) = ap (λ ys. x.snapshot.state ∷ ys) (told_states xs)

-- so what was installed are the entries of the snapshots
installed_are : (told : Told (List Entry)) (a : Agrees application told)
    → map (λ (x : Installed). x.entries) (installed_told told) ≡ map (λ (x : Installed). x.entries) a.installed
installed_are told a = told_states told.installed.items ∙ (ap (map state_of) a.packs ∙ states a.installed)

same_entries : (xs ys : List Installed) → map (λ (z : Installed). z.entries) xs ≡ map (λ (z : Installed). z.entries) ys
    → flat_map (λ (z : Installed). z.entries) xs ≡ flat_map (λ (z : Installed). z.entries) ys
same_entries xs ys same =
    let each : (zs : List Installed) → flat_map (λ (es : List Entry). es) (map (λ (z : Installed). z.entries) zs) ≡ flat_map (λ (z : Installed). z.entries) zs =
    flat_map-map (λ (es : List Entry). es) (λ (z : Installed). z.entries) in
    sym (each xs) ∙ (ap (flat_map (λ (es : List Entry). es)) same ∙ each ys)

told_agree : (told : Told (List Entry)) → Agrees application told → AllAgree (entries_of told.executed.items (installed_told told))
told_agree told a =
    subst AllAgree (ap (λ es. map (λ x. x.entry) told.executed.items ++ es) (sym (same_entries (installed_told told) a.installed (installed_are told a)))) a.agree

is_agree : (es : List Entry) (agreement : Agreement) → Checks es agreement → AllAgree es → agreement ≡ Agree
is_agree es Agree checks agree = refl
is_agree es (Differ i) checks agree =
    let d : DiffersAt es i = checks.0 in
    absurd (d.apart (agree d.one d.other d.has_one d.has_other (d.one_at ∙ sym d.other_at)))

pub agrees : (c : Cluster (List Entry)) (agreement : Agreement) → Checks (entries_of c.told.executed.items (installed_told c.told)) agreement → HoldsAt c
    → c.damaged ≡ false → agreement ≡ Agree
agrees c agreement checks h undamaged =
    is_agree (entries_of c.told.executed.items (installed_told c.told)) agreement checks
    (told_agree c.told (clusters_agree application (list entry) c (h.follows undamaged)))
