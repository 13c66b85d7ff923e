-- Disks, and the waiting steps whose records come there, packed.
use Rattle.std.specs.Prelude.{ℕ, ◌≡◌, Bool, true, false, List, [], ◌∷◌, map, refl, if◌then◌else◌}
use Rattle.std.proofs.Common.{◌∙◌, sym, ap, zero, suc}
use Rattle.raft_wire.specs.declared.record.Began.{Began}
use Rattle.raft_wire.specs.declared.record.Began.TheVariants as began
use Rattle.raft_wire.specs.declared.record.Change.{Change}
use Rattle.raft_wire.specs.declared.record.Record.{Record}
use Rattle.raft_wire.specs.Records.{is_unchanging, no_changes}
use Rattle.proof_servers.specs.Servers.{Disk, Server, WaitingStep, flushed, flushed_first, left_of, with_record, with_records}
use Rattle.proof_packed.specs.Stores.{Application, PackedStore}
use Rattle.raft_packed_wire.specs.Records.{began_packed, change_packed, record_packed}
use Rattle.raft_packed_wire.proofs.Replays.{packs_replays}
use Rattle.proof_packed_servers.specs.Servers.{PackedDisk, PackedServer, disk_packed, packed_flushed, packed_flushed_first}
use Rattle.proof_packed_servers.specs.Servers.{packed_left_of, packed_no_changes, packed_with_record, packed_with_records, server_packed}
use Rattle.proof_packed_servers.specs.Servers.{waiting_packed}

module _ {S : Type 0} (app : Application S) where
  -- a record that changes nothing, packed, changes nothing
  no_changes_kept : (b : Began) (cs : List Change) → packed_no_changes (began_packed app b) (map (change_packed app) cs) ≡ no_changes b cs
  no_changes_kept began.Unchanged [] = refl
  no_changes_kept began.Unchanged (c ∷ cs) = refl
  no_changes_kept began.Settled cs = refl
  no_changes_kept (began.Built es) cs = refl

  -- what is left of a record
  pub left_kept : (is_reserved : Bool) (r : Record)
      → map (record_packed app) (left_of is_reserved r) ≡ packed_left_of is_reserved (record_packed app r)
  left_kept false r = refl
  left_kept true r = go (is_unchanging r) ∙ ap (λ b. if b then [] else record_packed app r ∷ []) (sym (no_changes_kept r.began r.changes))
    where
      go : (b : Bool) → map (record_packed app) (if b then [] else r ∷ []) ≡ (if b then [] else record_packed app r ∷ [])
      go true = refl
      go false = refl

  -- records come on disk
  record_kept : (r : Record) (d : Disk) → disk_packed app (with_record r d) ≡ packed_with_record app (record_packed app r) (disk_packed app d)
  record_kept r d = ap (λ (t : PackedStore S). record { store = t; moment = r.moment }) ((packs_replays app).records r d.store)

  all_records_kept : (rs : List Record) (d : Disk) (p : PackedDisk S) → disk_packed app d ≡ p
      → disk_packed app (with_records rs d) ≡ packed_with_records app (map (record_packed app) rs) p
  all_records_kept [] d p h = h
  all_records_kept (r ∷ rs) d p h =
      all_records_kept rs (with_record r d) (packed_with_record app (record_packed app r) p)
      (record_kept r d ∙ ap (packed_with_record app (record_packed app r)) h)

  -- what the oldest waiting step leaves, and what the k oldest do
  pub flushed_kept : (w : WaitingStep) (ws : List WaitingStep) (s : Server)
      → server_packed app (flushed w ws s) ≡ packed_flushed app (waiting_packed app w) (map (waiting_packed app) ws) (server_packed app s)
  flushed_kept w ws s =
      ap (λ (d : PackedDisk S). record (server_packed app s) { waiting = map (waiting_packed app) ws; disk = d })
      (all_records_kept w.disk_records s.disk (disk_packed app s.disk) refl)

  abbrev server_of : PackedServer S → PackedServer S
  server_of s = s

  pub first_kept : (k : ℕ) (s : Server) → server_packed app (flushed_first k s) ≡ packed_flushed_first app k (server_packed app s)
  first_kept zero s = refl
  first_kept (suc k) s = go s.waiting (λ w ws. first_kept k (flushed w ws s) ∙ ap (packed_flushed_first app k) (flushed_kept w ws s))
    where
      go : (xs : List WaitingStep)
          → ((w : WaitingStep) (ws : List WaitingStep)
          → server_packed app (flushed_first k (flushed w ws s))
          ≡ packed_flushed_first app k (packed_flushed app (waiting_packed app w) (map (waiting_packed app) ws) (server_packed app s)))
          → server_packed app (elim xs as (λ _. Server) [ [] ↦ s | w ∷ ws ↦ flushed_first k (flushed w ws s) ])
          ≡ (elim (map (waiting_packed app) xs) as (λ _. PackedServer S) [
            | [] ↦ server_packed app s
            | w ∷ ws ↦ packed_flushed_first app k (packed_flushed app w ws (server_packed app s))
          ])
      go [] rest = refl
      go (w ∷ ws) rest = rest w ws
