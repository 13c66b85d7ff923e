-- What a crash leaves of a server's log.
use Rattle.std.specs.Prelude.{ℕ, ◌≡◌, ◌⊎◌, List, [], ◌∷◌, ◌++◌, refl}
use Rattle.std.proofs.Common.{◌∙◌, ap, inl, inr, suc, sym, zero}
use Rattle.std.proofs.lemmas.List.Sums.{fold-append}
use Rattle.raft_frames.specs.declared.header.LogId.{LogId}
use Rattle.raft_wire.specs.declared.record.Record.{Record}
use Rattle.raft_wire.specs.Records.{logged}
use Rattle.raft_wire.specs.RecordLaws.{logged_is}
use Rattle.raft_node.specs.declared.given.Given.{Given}
use Rattle.proof_servers.specs.Servers.{Disk, Server, WaitingStep, flushed, flushed_first, new_disk, started, with_record, with_records}
use Rattle.proof_logs.specs.BatchLaws.{IsCutOf, Leaves, ReadsByChanceOf}
use Rattle.proof_logs.specs.Laws.{IsCut, LogsReadBack, LogsRestore, LogsRestoreFilled, LogsTellDamage, ReadsByChance, Restores}
use Rattle.proof_logs.specs.Logs.{first_batch, first_records, records_of, restored}
use Rattle.proof_logs.proofs.Cuts.{cuts_leave, damage_told, filled_cuts_leave, read_back}
use Rattle.proof_logs.proofs.Records.{all_more}

pub logs_read_back : LogsReadBack
logs_read_back log batches are = read_back logged logged_is log batches are

pub tell_damage : LogsTellDamage
tell_damage log batches batch behind front back rest b other are fits later is byte another =
    damage_told logged log batches batch behind front back rest b other are fits later is byte another

-- what the k oldest waiting steps leave is on disk: what those records make of it
abbrev server_of : Server → Server
server_of s = s

with_more : (rs more : List Record) (d : Disk) → with_records more (with_records rs d) ≡ with_records (rs ++ more) d
with_more rs more d = sym (fold-append (λ (disk : Disk) (r : Record). with_record r disk) d rs more)

pub flushed_disk : (k : ℕ) (s : Server) → (flushed_first k s).disk ≡ with_records (first_records k s.waiting) s.disk
flushed_disk zero s = refl
flushed_disk (suc k) s = go s.waiting (λ w ws. flushed_disk k (flushed w ws s))
  where
    go : (xs : List WaitingStep)
        → ((w : WaitingStep) (ws : List WaitingStep) → (flushed_first k (flushed w ws s)).disk ≡ with_records (first_records k ws) (with_records w.disk_records s.disk))
        → (server_of (elim xs as (λ _. Server) [ [] ↦ s | w ∷ ws ↦ flushed_first k (flushed w ws s) ])).disk ≡ with_records (first_records (suc k) xs) s.disk
    go [] rest = refl
    go (w ∷ ws) rest = rest w ws ∙ with_more w.disk_records (first_records k ws) s.disk

-- so a disk that batches made is made by one batch more
pub flushed_made : (k : ℕ) (s : Server) (batches : List (List Record)) → s.disk ≡ restored (records_of batches) → (flushed_first k s).disk ≡ restored (records_of (batches ++ first_batch k s.waiting))
flushed_made k s batches made =
    flushed_disk k s
    ∙ (ap (with_records (first_records k s.waiting)) made
    ∙ (with_more (records_of batches) (first_records k s.waiting) new_disk
    ∙ ap restored (sym (all_more batches (first_records k s.waiting)))))

-- A server starts on what is read.
module _ (given : Given) (log : LogId) (id k at : ℕ) (s : Server) (batches : List (List Record)) (n : ℕ) (cut : IsCut log k s batches n) where
  cut_is : IsCutOf logged log batches (first_records k s.waiting) n
  cut_is = record { writable = cut.has.writable; more = cut.next; file = cut.file; is = cut.is; there = cut.there }

  -- with as many records on disk as make the batches that are left
  restores : (bytes : List ℕ) (survive : ℕ) → (survive ≡ 0) ⊎ (survive ≡ k) → (l : Leaves logged log batches (first_records k s.waiting) bytes)
      → (flushed_first survive s).disk ≡ restored (records_of l.left) → Restores given log id k at s bytes
  restores bytes survive whole l disk = record {
    survive = survive;
    whole = whole;
    batches = l.left;
    found = l.found;
    starts = ap (started given id at) (sym disk);
    has = record { writable = l.writable; disk = disk };
    kept = l.kept;
  }

  pub left_restores : (bytes : List ℕ) → Leaves logged log batches (first_records k s.waiting) bytes → Restores given log id k at s bytes
  left_restores bytes l = go l.whole
    where
      go : (l.left ≡ batches) ⊎ (l.left ≡ batches ++ first_batch k s.waiting) → Restores given log id k at s bytes
      go (inl none) = restores bytes 0 (inl refl) l (cut.has.disk ∙ ap (λ bs. restored (records_of bs)) (sym none))
      go (inr all) = restores bytes k (inr refl) l (flushed_made k s batches cut.has.disk ∙ ap (λ bs. restored (records_of bs)) (sym all))

  pub chance_restores : (bytes : List ℕ)
      → Leaves logged log batches (first_records k s.waiting) bytes ⊎ ReadsByChanceOf logged log batches (first_records k s.waiting) bytes
      → Restores given log id k at s bytes ⊎ ReadsByChance log k s batches bytes
  chance_restores bytes (inl l) = inl (left_restores bytes l)
  chance_restores bytes (inr chance) = inr chance

pub restore : LogsRestore
restore given log id k at s batches n cut =
    left_restores given log id k at s batches n cut _
    (cuts_leave logged logged_is log batches (first_records k s.waiting) n (cut_is given log id k at s batches n cut))

pub restore_filled : LogsRestoreFilled
restore_filled given log id k at s batches n zeros cut =
    chance_restores given log id k at s batches n cut _
    (filled_cuts_leave logged logged_is log batches (first_records k s.waiting) n zeros (cut_is given log id k at s batches n cut))
