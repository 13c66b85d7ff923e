-- A server stands for one of the model, whatever its calls do to both.
use Rattle.std.proofs.Common.{ℕ, zero, suc, ◌≡◌, ◌∙◌, List, [], ◌∷◌, ◌++◌, length, take, drop, Option, None, Some, refl, sym, ap, subst, append_assoc}
use Rattle.std.proofs.Common.{arith}
use Rattle.std.specs.Prelude.{◌≢◌, ◌≤◌, ◌+◌, ◌⊎◌, Bool, true, false, is_some, nat_le, if◌then◌else◌}
use Rattle.std.proofs.lemmas.List.Sums.{fold-append}
use Rattle.std.proofs.lemmas.List.{append-nil, length-append, take_all, take-append-le, drop_all, drop-append-le}
use Rattle.raft_frames.specs.declared.header.LogId.{LogId}
use Rattle.raft_frames.specs.declared.tail.Tail.{Tail}
use Rattle.raft_schedule.specs.declared.event.Outcome.{Outcome}
use Rattle.raft_node.specs.declared.given.Given.{Given}
use Rattle.raft_codec.specs.Codec.{Codec}
use Rattle.proof_packed.specs.Nodes.{PackedNode, PackedRecords}
use Rattle.proof_packed.specs.Stores.{Application, Packed}
use Rattle.raft_packed_wire.specs.raft_packed_node.Effects.{nothing_recorded}
use Rattle.raft_packed_wire.specs.declared.record.NamedRecord.{NamedRecord}
use Rattle.raft_packed_wire.specs.declared.record.PackedBegan.{PackedBegan}
use Rattle.raft_packed_wire.specs.declared.record.PackedBegan.TheVariants.{Unchanged, Settled, Built}
use Rattle.raft_packed_wire.specs.declared.record.PackedChange.{PackedChange}
use Rattle.raft_packed_wire.specs.declared.record.PackedRecord.{PackedRecord}
use Rattle.raft_packed_wire.specs.Checkpoints.{AreInOrder}
use Rattle.raft_packed_wire.specs.Named.{StandFor, whole_record}
use Rattle.raft_packed_wire.specs.Records.{packed_on_disk, packed_replayed}
use Rattle.raft_packed_wire.proofs.Standing.{none_stand, replayed_all, replayed_all_same, replayed_by, stand_join, stand_same, wholes}
use Rattle.raft_packed_wire.proofs.Replays.{all_replayed}
use Rattle.proof_logs.specs.Batches.{file_of}
use Rattle.proof_packed_servers.specs.Servers.{PackedDisk, PackedServer, PackedStep, PackedWaitingStep, packed_disk_record, packed_disk_records}
use Rattle.proof_packed_servers.specs.Servers.{packed_flushed, packed_flushed_first, packed_joined, packed_left_of, packed_no_changes}
use Rattle.proof_packed_servers.specs.Servers.{packed_node_after, packed_step_commands, packed_with_record, packed_with_records}
use Rattle.proof_packed_servers.specs.Servers.{packed_outputs_of, packed_played_alone, packed_reserved_after, packed_waiting_step, packed_with_step}
use Rattle.raft_packed_server.specs.declared.batch.Batch.{Batch}
use Rattle.raft_packed_server.specs.declared.batch.Written.{Written}
use Rattle.raft_packed_server.specs.declared.serving.Serving.{Serving}
use Rattle.raft_packed_server.specs.Laws.{IsAtEnd}
use Rattle.raft_packed_server.specs.Logs.{first_records, left_by, logged_by}
use Rattle.raft_packed_server.specs.Represents.{AreUnwritten, AreWaiting, AreWritten, HandsOut, Stands, StandsFor, said_by}
use Rattle.raft_packed_server.specs.Views.{IsTaken, batch_released, is_clear, is_flushed, released, rest_released, steps_cleared, steps_flushed}
use Rattle.raft_packed_server.specs.Views.{steps_released, with_batch, with_taken}
use Rattle.raft_packed_server.proofs.Ordered.{stays_in_order}
use Rattle.raft_packed_server.proofs.Stored.{step_stored}

one_more : (k more : ℕ) → suc k + more ≡ suc (k + more)
one_more k more = omega arith

none_before : (more : ℕ) → 0 + more ≡ more
none_before more = omega arith

module _ {S : Type 0} where
  -- ---- what is said

  pub joined_both : (a b c : PackedRecords S) → packed_joined a (packed_joined b c) ≡ packed_joined (packed_joined a b) c
  joined_both a b c = λ i. record {
    bag = sym (append_assoc a.bag b.bag c.bag) i;
    executed = sym (append_assoc a.executed b.executed c.executed) i;
    installed = sym (append_assoc a.installed b.installed c.installed) i;
    decided = sym (append_assoc a.decided b.decided c.decided) i;
    established = sym (append_assoc a.established b.established c.established) i;
    answers = sym (append_assoc a.answers b.answers c.answers) i;
  }

  pub joined_none : (a : PackedRecords S) → packed_joined a nothing_recorded ≡ a
  joined_none a = λ i. record {
    bag = append-nil a.bag i;
    executed = append-nil a.executed i;
    installed = append-nil a.installed i;
    decided = append-nil a.decided i;
    established = append-nil a.established i;
    answers = append-nil a.answers i;
  }

  none_joined : (a : PackedRecords S) → packed_joined nothing_recorded a ≡ a
  none_joined a = refl

  said_more : (ws : List (PackedWaitingStep S)) (w : PackedWaitingStep S) → said_by (ws ++ w ∷ []) ≡ packed_joined (said_by ws) w.outputs
  said_more [] w = joined_none w.outputs ∙ sym (none_joined w.outputs)
  said_more (v ∷ ws) w = ap (packed_joined v.outputs) (said_more ws w) ∙ joined_both v.outputs (said_by ws) w.outputs

  said_both : (ws vs : List (PackedWaitingStep S)) → said_by (ws ++ vs) ≡ packed_joined (said_by ws) (said_by vs)
  said_both [] vs = sym (none_joined (said_by vs))
  said_both (w ∷ ws) vs = ap (packed_joined w.outputs) (said_both ws vs) ∙ joined_both w.outputs (said_by ws) (said_by vs)

  left_more : (ws : List (PackedWaitingStep S)) (w : PackedWaitingStep S) → left_by (ws ++ w ∷ []) ≡ left_by ws ++ w.disk_records
  left_more [] w = append-nil w.disk_records
  left_more (v ∷ ws) w = ap (λ rs. v.disk_records ++ rs) (left_more ws w) ∙ sym (append_assoc v.disk_records (left_by ws) w.disk_records)

  written_more : (b : Batch S) (ws : List (PackedWaitingStep S)) (w : PackedWaitingStep S) → AreWritten b ws → AreWritten b (ws ++ w ∷ [])
  written_more b ws w are = record {
    steps = omega (arith, are.steps, length-append ws (w ∷ []));
    outputs = are.outputs ∙ ap said_by (sym (take-append-le b.steps ws (w ∷ []) are.steps));
  }

  left_both : (ws vs : List (PackedWaitingStep S)) → left_by (ws ++ vs) ≡ left_by ws ++ left_by vs
  left_both [] vs = refl
  left_both (w ∷ ws) vs = ap (λ rs. w.disk_records ++ rs) (left_both ws vs) ∙ sym (append_assoc w.disk_records (left_by ws) (left_by vs))

  -- what the other steps say, and the server without them, if they leave
  abbrev rest_by : Serving S → Bool → PackedRecords S × Serving S
  rest_by v b = if b then (v.outputs, record v { steps = 0; outputs = nothing_recorded }) else (nothing_recorded, v)

  -- none leave while a batch is on its way, or a record waits
  batch_unclear : (o : Option (Batch S)) (rs : List (NamedRecord S)) → is_some o ≡ true → is_clear o rs ≡ false
  batch_unclear None rs some = cc
  batch_unclear (Some b) rs some = refl

  record_unclear : (o : Option (Batch S)) (rs : List (NamedRecord S)) → rs ≢ [] → is_clear o rs ≡ false
  record_unclear None [] some = absurd (some refl)
  record_unclear None (r ∷ rs) some = refl
  record_unclear (Some b) rs some = refl

  unclear_kept : (v : Serving S) (said : PackedRecords S) → is_clear v.written v.records ≡ false → said ≡ nothing_recorded
      → ◌≡◌ {A = PackedRecords S × Serving S} (said, v) (rest_released v)
  unclear_kept v said unclear none = (λ i. (none i, v)) ∙ sym (ap (rest_by v) unclear)

  pub kept_behind_batch : (v : Serving S) (said : PackedRecords S) → is_some v.written ≡ true → said ≡ nothing_recorded
      → ◌≡◌ {A = PackedRecords S × Serving S} (said, v) (rest_released v)
  kept_behind_batch v said some none = unclear_kept v said (batch_unclear v.written v.records some) none

  pub kept_behind_record : (v : Serving S) (said : PackedRecords S) → v.records ≢ [] → said ≡ nothing_recorded
      → ◌≡◌ {A = PackedRecords S × Serving S} (said, v) (rest_released v)
  kept_behind_record v said some none = unclear_kept v said (record_unclear v.written v.records some) none

  -- a server that goes on at the same places, behind the same batch
  pub record IsBeside (v u : Serving S) : Type 0 where
    pub header : u.header ≡ v.header
    pub tail : u.tail ≡ v.tail
    pub written : u.written ≡ v.written
    pub next : u.next ≡ v.next

  pub rest_beside : (v : Serving S) → IsBeside v (rest_released v).1
  rest_beside v = go (is_clear v.written v.records)
    where
      go : (b : Bool) → IsBeside v (rest_by v b).1
      go true = record { header = refl; tail = refl; written = refl; next = refl }
      go false = record { header = refl; tail = refl; written = refl; next = refl }

  -- the node stays as it is
  abbrev batch_by : ℕ → Serving S → Option (Batch S) → PackedRecords S × Serving S
  batch_by position v o =
      elim o as (λ _. PackedRecords S × Serving S) [
        | None ↦ (nothing_recorded, v)
        | Some b ↦ if is_flushed position b then (b.outputs, record v { written = None }) else (nothing_recorded, v)
      ]

  abbrev batch_judged : Serving S → Batch S → Bool → PackedRecords S × Serving S
  batch_judged v b flag = if flag then (b.outputs, record v { written = None }) else (nothing_recorded, v)

  batch_node : (position : ℕ) (v : Serving S) → (batch_released position v).1.node ≡ v.node
  batch_node position v = go v.written
    where
      judged : (b : Batch S) (flag : Bool) → (batch_judged v b flag).1.node ≡ v.node
      judged b true = refl
      judged b false = refl

      go : (o : Option (Batch S)) → (batch_by position v o).1.node ≡ v.node
      go None = refl
      go (Some b) = judged b (is_flushed position b)

  rest_node : (v : Serving S) → (rest_released v).1.node ≡ v.node
  rest_node v = go (is_clear v.written v.records)
    where
      go : (b : Bool) → (rest_by v b).1.node ≡ v.node
      go true = refl
      go false = refl

  pub released_node : (position : ℕ) (v : Serving S) → (released position v).1.node ≡ v.node
  released_node position v = rest_node (batch_released position v).1 ∙ batch_node position v

  -- so the one and the other
  first_more : (k more : ℕ) (ws : List (PackedWaitingStep S)) → k ≤ length ws → take (k + more) ws ≡ take k ws ++ take more (drop k ws)
  first_more zero more ws within = ap (λ n. take n ws) (none_before more)
  first_more (suc k) more [] within = absurd (omega (arith, within))
  first_more (suc k) more (w ∷ ws) within =
      ap (λ n. take n (w ∷ ws)) (one_more k more) ∙ ap (λ vs. w ∷ vs) (first_more k more ws (omega (arith, within)))

  drop_none : (k : ℕ) → drop {A = PackedWaitingStep S} k [] ≡ []
  drop_none zero = refl
  drop_none (suc k) = refl

  last_more : (k more : ℕ) (ws : List (PackedWaitingStep S)) → drop (k + more) ws ≡ drop more (drop k ws)
  last_more zero more ws = ap (λ n. drop n ws) (none_before more)
  last_more (suc k) more [] = drop_none (suc k + more) ∙ sym (drop_none more)
  last_more (suc k) more (w ∷ ws) = ap (λ n. drop n (w ∷ ws)) (one_more k more) ∙ last_more k more ws

module _ {S : Type 0} (app : Application S) where
  -- ---- what is on disk once records are

  pub with_more : (rs more : List (PackedRecord (Packed S))) (d : PackedDisk S)
      → packed_with_records app more (packed_with_records app rs d) ≡ packed_with_records app (rs ++ more) d
  with_more rs more d = sym (fold-append (λ (disk : PackedDisk S) (r : PackedRecord (Packed S)). packed_with_record app r disk) d rs more)

  pub store_made : (rs : List (PackedRecord (Packed S))) (d : PackedDisk S) → (packed_with_records app rs d).store ≡ replayed_all app d.store rs
  store_made [] d = refl
  store_made (r ∷ rs) d = store_made rs (packed_with_record app r d)

  -- records of a log make what those do that they stand for
  pub stand_makes : (rs : List (NamedRecord S)) (qs : List (PackedRecord (Packed S))) (d : PackedDisk S) → StandFor app d.store rs qs
      → packed_with_records app qs d ≡ packed_with_records app (wholes app d.store rs) d
  stand_makes [] [] d h = refl
  stand_makes [] (q ∷ qs) d h = absurd h
  stand_makes (r ∷ rs) [] d h = absurd h
  stand_makes (r ∷ rs) (q ∷ qs) d h =
      let one : packed_with_record app q d ≡ packed_with_record app (whole_record app d.store r) d =
      λ i. record { store = sym (replayed_by app d.store r q h.0) i; moment = sym h.0.moment i } in
      stand_makes rs qs (packed_with_record app q d) h.1
      ∙ ap (λ (e : PackedDisk S). packed_with_records app (wholes app e.store rs) e) one

  -- what the first steps leave, and then what the others do
  all_made : (k : ℕ) (ws : List (PackedWaitingStep S)) (d : PackedDisk S)
      → packed_with_records app (left_by (drop k ws)) (packed_with_records app (first_records k ws) d) ≡ packed_with_records app (left_by ws) d
  all_made zero ws d = refl
  all_made (suc k) [] d = refl
  all_made (suc k) (w ∷ ws) d =
      ap (packed_with_records app (left_by (drop k ws))) (sym (with_more w.disk_records (first_records k ws) d))
      ∙ (all_made k ws (packed_with_records app w.disk_records d) ∙ with_more w.disk_records (left_by ws) d)

  -- while no batch is on its way, they are those of all waiting steps
  pub unwritten : (s : PackedServer S) (v : Serving S) → v.written ≡ None → Stands app s v → AreUnwritten app s.disk v s.waiting
  unwritten s v none is = subst (λ o. AreWaiting app o s.disk v s.waiting) none is.waiting

  -- records that are none stand for those of steps that leave none
  none_by_none : (d : PackedDisk S) (v : Serving S) (ws : List (PackedWaitingStep S)) → AreUnwritten app d v ws → v.records ≡ [] → left_by ws ≡ []
  none_by_none d v ws are clear = none_stand app d.store (left_by ws) (subst (λ rs. StandFor app d.store rs (left_by ws)) clear are.records)

  -- ---- the log is on disk up to a position

  -- the first steps leave, and what the server has waits behind them
  record Leaves (k : ℕ) (d : PackedDisk S) (ws : List (PackedWaitingStep S)) (v : Serving S) (p : PackedRecords S × Serving S) : Type 0 where
    pub within : k ≤ length ws
    pub outputs : p.0 ≡ said_by (take k ws)
    pub node : p.1.node ≡ v.node
    pub reserved : p.1.reserved ≡ v.reserved
    pub waiting : AreWaiting app p.1.written (packed_with_records app (first_records k ws) d) p.1 (drop k ws)

  none_leaves : (d : PackedDisk S) (ws : List (PackedWaitingStep S)) (v : Serving S) → AreWaiting app v.written d v ws
      → Leaves 0 d ws v (nothing_recorded, v)
  none_leaves d ws v are = record { within = omega arith; outputs = refl; node = refl; reserved = refl; waiting = are }

  batch_leaves : (position : ℕ) (d : PackedDisk S) (ws : List (PackedWaitingStep S)) (v : Serving S) → AreWaiting app v.written d v ws
      → Leaves (steps_flushed position v.written) d ws v (batch_released position v)
  batch_leaves position d ws v waiting = go v.written waiting
    where
      judged : (b : Batch S) (flag : Bool) → AreWaiting app (Some b) d v ws
          → Leaves (if flag then b.steps else 0) d ws v (if flag then (b.outputs, record v { written = None }) else (nothing_recorded, v))
      judged b true are = record {
        within = are.0.steps;
        outputs = are.0.outputs;
        node = refl;
        reserved = refl;
        waiting = record { steps = are.1.steps; records = are.1.records; outputs = are.1.outputs };
      }
      judged b false are = none_leaves d ws v waiting

      go : (o : Option (Batch S)) → AreWaiting app o d v ws
          → Leaves (steps_flushed position o) d ws v (elim o as (λ _. PackedRecords S × Serving S) [
            | None ↦ (nothing_recorded, v)
            | Some b ↦ if is_flushed position b then (b.outputs, record v { written = None }) else (nothing_recorded, v)
          ])
      go None are = none_leaves d ws v waiting
      go (Some b) are = judged b (is_flushed position b) are

  -- all leave if no record is on its way, or waits
  rest_leaves : (d : PackedDisk S) (ws : List (PackedWaitingStep S)) (v : Serving S) → AreWaiting app v.written d v ws
      → Leaves (steps_cleared v) d ws v (rest_released v)
  rest_leaves d ws v waiting = go v.written v.records refl refl
    where
      cleared : Serving S
      cleared = record v { steps = 0; outputs = nothing_recorded }

      all_leave : v.written ≡ None → v.records ≡ [] → Leaves v.steps d ws v (v.outputs, record v { steps = 0; outputs = nothing_recorded })
      all_leave none clear =
          let are : AreUnwritten app d v ws = subst (λ o. AreWaiting app o d v ws) none waiting in
          let there : PackedDisk S = packed_with_records app (first_records v.steps ws) d in
          record {
            within = omega (arith, are.steps);
            outputs = are.outputs ∙ ap said_by (sym (take_all v.steps ws (omega (arith, are.steps))));
            node = refl;
            reserved = refl;
            waiting =
                subst (λ o. AreWaiting app o there cleared (drop v.steps ws)) (sym none)
                (subst (AreUnwritten app there cleared) (sym (drop_all v.steps ws (omega (arith, are.steps))))
                (record { steps = refl; records = subst (λ rs. StandFor app there.store rs []) (sym clear) tt; outputs = refl }));
          }

      go : (o : Option (Batch S)) (rs : List (NamedRecord S)) → v.written ≡ o → v.records ≡ rs
          → Leaves (if is_clear o rs then v.steps else 0) d ws v (rest_by v (is_clear o rs))
      go None [] none clear = all_leave none clear
      go None (x ∷ rs) none some = none_leaves d ws v waiting
      go (Some b) rs some there = none_leaves d ws v waiting

  -- the others leave no record
  none_left_by : (d : PackedDisk S) (ws : List (PackedWaitingStep S)) (v : Serving S) → AreWaiting app v.written d v ws
      → first_records (steps_cleared v) ws ≡ []
  none_left_by d ws v waiting = go v.written v.records refl refl
    where
      go : (o : Option (Batch S)) (rs : List (NamedRecord S)) → v.written ≡ o → v.records ≡ rs
          → first_records (if is_clear o rs then v.steps else 0) ws ≡ []
      go None [] none clear =
          let are : AreUnwritten app d v ws = subst (λ o. AreWaiting app o d v ws) none waiting in
          ap left_by (take_all v.steps ws (omega (arith, are.steps))) ∙ none_by_none d v ws are clear
      go None (x ∷ rs) none some = refl
      go (Some b) rs some there = refl

  -- so what is on disk is what the steps of the batch leave
  pub released_records : (position : ℕ) (s : PackedServer S) (v : Serving S) → Stands app s v
      → first_records (steps_released position (Some v)) s.waiting ≡ first_records (steps_flushed position v.written) s.waiting
  released_records position s v is =
      let j : ℕ = steps_flushed position v.written in
      let u : Serving S = (batch_released position v).1 in
      let first : Leaves j s.disk s.waiting v (batch_released position v) = batch_leaves position s.disk s.waiting v is.waiting in
      ap left_by (first_more j (steps_cleared u) s.waiting first.within)
      ∙ (left_both (take j s.waiting) (take (steps_cleared u) (drop j s.waiting))
      ∙ (ap (λ rs. first_records j s.waiting ++ rs)
      (none_left_by (packed_with_records app (first_records j s.waiting) s.disk) (drop j s.waiting) u first.waiting)
      ∙ append-nil (first_records j s.waiting)))

module _ {S : Type 0} (c : Codec S) where
  -- ---- the records that wait are handed out

  pub handed_out : (app : Application S) (s : PackedServer S) (v : Serving S) → v.written ≡ None → Stands app s v → Stands app s (with_batch c v)
  handed_out app s v none is =
      record { node = is.node; reserved = is.reserved; waiting = (written, none_left); same = is.same; ordered = is.ordered }
    where
      are : AreUnwritten app s.disk v s.waiting
      are = unwritten app s v none is

      there : PackedDisk S
      there = packed_with_records app (first_records v.steps s.waiting) s.disk

      written : AreWritten (record { end = (with_batch c v).tail.position; steps = v.steps; outputs = v.outputs }) s.waiting
      written = record {
        steps = omega (arith, are.steps);
        outputs = are.outputs ∙ ap said_by (sym (take_all v.steps s.waiting (omega (arith, are.steps))));
      }

      none_left : AreUnwritten app there (with_batch c v) (drop v.steps s.waiting)
      none_left = subst (AreUnwritten app there (with_batch c v)) (sym (drop_all v.steps s.waiting (omega (arith, are.steps))))
          (record { steps = refl; records = tt; outputs = refl })

  -- whatever is handed out, it stands for the same server
  pub hands_stay : (app : Application S) (old new : Option (Serving S)) (w : Option Written) → HandsOut c old w new → (s : PackedServer S)
      → StandsFor app s old → StandsFor app s new
  hands_stay app None new w out s is = absurd is
  hands_stay app (Some v) new None out s is = subst (StandsFor app s) (sym out.1) is
  hands_stay app (Some v) new (Some w) out s is = subst (StandsFor app s) (sym out.1) (handed_out app s v out.0.none_before is)

  pub at_end_beside : (log : LogId) (batches : List (List (NamedRecord S))) (bytes : List ℕ) (v u : Serving S) → IsBeside v u
      → IsAtEnd c log batches bytes v → IsAtEnd c log batches bytes u
  at_end_beside log batches bytes v u on ends = record {
    file = subst (λ h. ((bytes ≡ []) × (batches ≡ []) × (h ≡ Some log)) ⊎ ((bytes ≡ file_of (logged_by c) log batches) × (h ≡ None)))
        (sym on.header) ends.file;
    tail = on.tail ∙ ends.tail;
  }

module _ {S : Type 0} (app : Application S) where
  -- ---- a step is taken

  -- what is left of a record makes what the record does
  left_makes : (b : Bool) (q : PackedRecord (Packed S)) (d : PackedDisk S)
      → (packed_with_records app (packed_left_of b q) d).store ≡ packed_replayed app q d.store
  left_makes false q d = refl
  left_makes true q d = go q.began q.changes
    where
      go : (b : PackedBegan (Packed S)) (cs : List (PackedChange (Packed S)))
          → (packed_with_records app (if packed_no_changes b cs then [] else record { moment = q.moment; began = b; changes = cs } ∷ []) d).store
          ≡ packed_replayed app (record { moment = q.moment; began = b; changes = cs }) d.store
      go Unchanged [] = refl
      go Unchanged (c ∷ cs) = refl
      go Settled cs = refl
      go (Built p) cs = refl

  -- once what a step leaves is on disk too, the disk has what the step's node has
  step_same : (given : Given) (step : PackedStep S) (reserved : ℕ) (n : PackedNode S) (d : PackedDisk S)
      → packed_on_disk app d.store ≡ packed_on_disk app n.store
      → packed_on_disk app (packed_with_records app (packed_disk_records app given reserved n step) d).store
      ≡ packed_on_disk app (packed_node_after app given n step).store
  step_same given step reserved n d same =
      let q : PackedRecord (Packed S) = packed_disk_record app given reserved n step in
      ap (packed_on_disk app) (left_makes (nat_le (packed_node_after app given n step).moment reserved) q d)
      ∙ (all_replayed app q d.store n.store step.brought (packed_step_commands app given n step) (sym same) refl ∙ sym (step_stored app given n step))

  unwritten_more : (given : Given) (step : PackedStep S) (reserved : ℕ) (n : PackedNode S) (named : List (NamedRecord S)) (d : PackedDisk S)
      (v : Serving S) (ws : List (PackedWaitingStep S))
      → v.node ≡ n → v.reserved ≡ reserved → StandFor app n.store named (packed_disk_records app given reserved n step)
      → packed_on_disk app (packed_with_records app (left_by ws) d).store ≡ packed_on_disk app n.store → AreUnwritten app d v ws
      → AreUnwritten app d (with_taken app given step named v) (ws ++ packed_waiting_step app given reserved n step ∷ [])
  unwritten_more given step reserved n named d v ws same upto stand disk are = record {
    steps = omega (arith, are.steps, length-append ws (packed_waiting_step app given reserved n step ∷ []));
    records =
        subst (StandFor app d.store (v.records ++ named)) (sym (left_more ws (packed_waiting_step app given reserved n step)))
        (stand_join app d.store v.records named (left_by ws) (packed_disk_records app given reserved n step) are.records
        (stand_same app n.store (replayed_all app d.store (left_by ws)) (sym disk ∙ ap (packed_on_disk app) (store_made app (left_by ws) d)) named
        (packed_disk_records app given reserved n step) stand));
    outputs =
        ap (λ q. packed_joined q (packed_outputs_of app given v.node step)) are.outputs
        ∙ (ap (λ m. packed_joined (said_by ws) (packed_outputs_of app given m step)) same
        ∙ sym (said_more ws (packed_waiting_step app given reserved n step)));
  }

  waiting_more : (given : Given) (step : PackedStep S) (reserved : ℕ) (n : PackedNode S) (named : List (NamedRecord S)) (d : PackedDisk S)
      (v : Serving S) (ws : List (PackedWaitingStep S)) (o : Option (Batch S))
      → v.node ≡ n → v.reserved ≡ reserved → StandFor app n.store named (packed_disk_records app given reserved n step)
      → packed_on_disk app (packed_with_records app (left_by ws) d).store ≡ packed_on_disk app n.store → AreWaiting app o d v ws
      → AreWaiting app o d (with_taken app given step named v) (ws ++ packed_waiting_step app given reserved n step ∷ [])
  waiting_more given step reserved n named d v ws None same upto stand disk are =
      unwritten_more given step reserved n named d v ws same upto stand disk are
  waiting_more given step reserved n named d v ws (Some b) same upto stand disk are = (
    written_more b ws more are.0,
    subst (λ rs. AreUnwritten app (packed_with_records app rs d) (with_taken app given step named v) (drop b.steps (ws ++ more ∷ [])))
        (ap left_by (sym (take-append-le b.steps ws (more ∷ []) are.0.steps)))
        (subst (AreUnwritten app there (with_taken app given step named v)) (sym (drop-append-le b.steps ws (more ∷ []) are.0.steps))
        (unwritten_more given step reserved n named there v (drop b.steps ws) same upto stand
        (ap (λ (x : PackedDisk S). packed_on_disk app x.store) (all_made app b.steps ws d) ∙ disk) are.1)),
  )
    where
      more : PackedWaitingStep S
      more = packed_waiting_step app given reserved n step

      there : PackedDisk S
      there = packed_with_records app (first_records b.steps ws) d

  pub takes : (given : Given) (step : PackedStep S) (named : List (NamedRecord S)) (s : PackedServer S) (v : Serving S) → Stands app s v
      → StandFor app v.node.store named (packed_disk_records app given v.reserved v.node step)
      → Stands app (packed_with_step app given step s) (with_taken app given step named v)
  takes given step named s v is stand = record {
    node = ap (λ n. packed_node_after app given n step) is.node;
    reserved = λ i. packed_reserved_after app given (is.reserved i) (is.node i) step;
    waiting = waiting_more given step s.reserved s.node named s.disk v s.waiting v.written is.node is.reserved
        (subst (λ n. StandFor app n.store named (packed_disk_records app given s.reserved n step)) is.node
        (subst (λ r. StandFor app v.node.store named (packed_disk_records app given r v.node step)) is.reserved stand)) is.same is.waiting;
    same =
        ap (λ rs. packed_on_disk app (packed_with_records app rs s.disk).store) (left_more s.waiting more)
        ∙ (ap (λ (d : PackedDisk S). packed_on_disk app d.store) (sym (with_more app (left_by s.waiting) more.disk_records s.disk))
        ∙ step_same given step s.reserved s.node (packed_with_records app (left_by s.waiting) s.disk) is.same);
    ordered = stays_in_order app given step s.node is.ordered;
  }
    where
      more : PackedWaitingStep S
      more = packed_waiting_step app given s.reserved s.node step

  -- ---- the log is on disk up to a position

  abbrev server_of : PackedServer S → PackedServer S
  server_of s = s

  flushed_node : (k : ℕ) (s : PackedServer S) → (packed_flushed_first app k s).node ≡ s.node
  flushed_node zero s = refl
  flushed_node (suc k) s = go s.waiting (λ w ws. flushed_node k (packed_flushed app w ws s))
    where
      go : (xs : List (PackedWaitingStep S))
          → ((w : PackedWaitingStep S) (ws : List (PackedWaitingStep S)) → (packed_flushed_first app k (packed_flushed app w ws s)).node ≡ s.node)
          → (server_of (elim xs as (λ _. PackedServer S) [ [] ↦ s | w ∷ ws ↦ packed_flushed_first app k (packed_flushed app w ws s) ])).node ≡ s.node
      go [] rest = refl
      go (w ∷ ws) rest = rest w ws

  flushed_reserved : (k : ℕ) (s : PackedServer S) → (packed_flushed_first app k s).reserved ≡ s.reserved
  flushed_reserved zero s = refl
  flushed_reserved (suc k) s = go s.waiting (λ w ws. flushed_reserved k (packed_flushed app w ws s))
    where
      go : (xs : List (PackedWaitingStep S))
          → ((w : PackedWaitingStep S) (ws : List (PackedWaitingStep S))
          → (packed_flushed_first app k (packed_flushed app w ws s)).reserved ≡ s.reserved)
          → (server_of (elim xs as (λ _. PackedServer S) [ [] ↦ s | w ∷ ws ↦ packed_flushed_first app k (packed_flushed app w ws s) ])).reserved
          ≡ s.reserved
      go [] rest = refl
      go (w ∷ ws) rest = rest w ws

  pub flushed_waiting : (k : ℕ) (s : PackedServer S) → (packed_flushed_first app k s).waiting ≡ drop k s.waiting
  flushed_waiting zero s = refl
  flushed_waiting (suc k) s = go s.waiting refl (λ w ws. flushed_waiting k (packed_flushed app w ws s))
    where
      go : (xs : List (PackedWaitingStep S)) → s.waiting ≡ xs
          → ((w : PackedWaitingStep S) (ws : List (PackedWaitingStep S))
          → (packed_flushed_first app k (packed_flushed app w ws s)).waiting ≡ drop k ws)
          → (server_of (elim xs as (λ _. PackedServer S) [ [] ↦ s | w ∷ ws ↦ packed_flushed_first app k (packed_flushed app w ws s) ])).waiting
          ≡ drop (suc k) xs
      go [] is rest = is
      go (w ∷ ws) is rest = rest w ws

  pub flushed_disk : (k : ℕ) (s : PackedServer S) → (packed_flushed_first app k s).disk ≡ packed_with_records app (first_records k s.waiting) s.disk
  flushed_disk zero s = refl
  flushed_disk (suc k) s = go s.waiting (λ w ws. flushed_disk k (packed_flushed app w ws s))
    where
      go : (xs : List (PackedWaitingStep S))
          → ((w : PackedWaitingStep S) (ws : List (PackedWaitingStep S)) → (packed_flushed_first app k (packed_flushed app w ws s)).disk
          ≡ packed_with_records app (first_records k ws) (packed_with_records app w.disk_records s.disk))
          → (server_of (elim xs as (λ _. PackedServer S) [ [] ↦ s | w ∷ ws ↦ packed_flushed_first app k (packed_flushed app w ws s) ])).disk
          ≡ packed_with_records app (first_records (suc k) xs) s.disk
      go [] rest = refl
      go (w ∷ ws) rest = rest w ws ∙ with_more app w.disk_records (first_records k ws) s.disk

  -- what is on disk, with what waits, stays the same
  flushed_same : (k : ℕ) (s : PackedServer S)
      → packed_with_records app (left_by (packed_flushed_first app k s).waiting) (packed_flushed_first app k s).disk
      ≡ packed_with_records app (left_by s.waiting) s.disk
  flushed_same k s =
      (λ i. packed_with_records app (left_by (flushed_waiting k s i)) (flushed_disk k s i)) ∙ all_made app k s.waiting s.disk

  pub leaves : (position : ℕ) (s : PackedServer S) (v : Serving S) → Stands app s v
      → ((released position v).0 ≡ said_by (take (steps_released position (Some v)) s.waiting))
      × Stands app (packed_flushed_first app (steps_released position (Some v)) s) (released position v).1
  leaves position s v is =
      let j : ℕ = steps_flushed position v.written in
      let u : Serving S = (batch_released position v).1 in
      let k : ℕ = steps_cleared u in
      let there : PackedDisk S = packed_with_records app (first_records j s.waiting) s.disk in
      let first : Leaves app j s.disk s.waiting v (batch_released position v) = batch_leaves app position s.disk s.waiting v is.waiting in
      let rest : Leaves app k there (drop j s.waiting) u (rest_released u) = rest_leaves app there (drop j s.waiting) u first.waiting in
      let disk : packed_with_records app (first_records k (drop j s.waiting)) there ≡ (packed_flushed_first app (j + k) s).disk =
      with_more app (first_records j s.waiting) (first_records k (drop j s.waiting)) s.disk
      ∙ (ap (λ rs. packed_with_records app rs s.disk)
      (sym (left_both (take j s.waiting) (take k (drop j s.waiting))) ∙ ap left_by (sym (first_more j k s.waiting first.within)))
      ∙ sym (flushed_disk (j + k) s)) in (
        (λ i. packed_joined (first.outputs i) (rest.outputs i))
            ∙ (sym (said_both (take j s.waiting) (take k (drop j s.waiting))) ∙ ap said_by (sym (first_more j k s.waiting first.within))),
        record {
          node = rest.node ∙ (first.node ∙ (is.node ∙ sym (flushed_node (j + k) s)));
          reserved = rest.reserved ∙ (first.reserved ∙ (is.reserved ∙ sym (flushed_reserved (j + k) s)));
          waiting =
              subst (λ d. AreWaiting app (released position v).1.written d (released position v).1 (packed_flushed_first app (j + k) s).waiting) disk
              (subst (AreWaiting app (released position v).1.written (packed_with_records app (first_records k (drop j s.waiting)) there) (released position v).1)
              (sym (last_more j k s.waiting) ∙ sym (flushed_waiting (j + k) s)) rest.waiting);
          same =
              ap (λ (d : PackedDisk S). packed_on_disk app d.store) (flushed_same (j + k) s)
              ∙ (is.same ∙ ap (λ (n : PackedNode S). packed_on_disk app n.store) (sym (flushed_node (j + k) s)));
          ordered = subst (λ (n : PackedNode S). AreInOrder 0 n.store.log) (sym (flushed_node (j + k) s)) is.ordered;
        },
      )

  -- ---- where logs end is nothing to the model's server

  abbrev placed : Option LogId → Tail → Option Tail → Serving S → Serving S
  placed header tail next v = record v { header = header; tail = tail; next = next }

  unwritten_placed : (header : Option LogId) (tail : Tail) (next : Option Tail) (d : PackedDisk S) (v : Serving S) (ws : List (PackedWaitingStep S))
      → AreUnwritten app d v ws → AreUnwritten app d (placed header tail next v) ws
  unwritten_placed header tail next d v ws are = record { steps = are.steps; records = are.records; outputs = are.outputs }

  waiting_placed : (header : Option LogId) (tail : Tail) (next : Option Tail) (o : Option (Batch S)) (d : PackedDisk S) (v : Serving S)
      (ws : List (PackedWaitingStep S)) → AreWaiting app o d v ws → AreWaiting app o d (placed header tail next v) ws
  waiting_placed header tail next None d v ws are = unwritten_placed header tail next d v ws are
  waiting_placed header tail next (Some b) d v ws are =
      (are.0, unwritten_placed header tail next (packed_with_records app (first_records b.steps ws) d) v (drop b.steps ws) are.1)

  pub stands_placed : (header : Option LogId) (tail : Tail) (next : Option Tail) (s : PackedServer S) (v : Serving S) → Stands app s v
      → Stands app s (placed header tail next v)
  stands_placed header tail next s v is = record {
    node = is.node;
    reserved = is.reserved;
    waiting = waiting_placed header tail next v.written s.disk v s.waiting is.waiting;
    same = is.same;
    ordered = is.ordered;
  }

  -- ---- another disk that is the same, but for what no start reads

  records_alike : (qs : List (PackedRecord (Packed S))) (d e : PackedDisk S) → packed_on_disk app d.store ≡ packed_on_disk app e.store
      → packed_on_disk app (packed_with_records app qs d).store ≡ packed_on_disk app (packed_with_records app qs e).store
  records_alike qs d e same =
      ap (packed_on_disk app) (store_made app qs d)
      ∙ (replayed_all_same app d.store e.store same qs ∙ sym (ap (packed_on_disk app) (store_made app qs e)))

  unwritten_alike : (d e : PackedDisk S) (v : Serving S) (ws : List (PackedWaitingStep S))
      → packed_on_disk app d.store ≡ packed_on_disk app e.store → AreUnwritten app d v ws → AreUnwritten app e v ws
  unwritten_alike d e v ws same are =
      record { steps = are.steps; records = stand_same app d.store e.store same v.records (left_by ws) are.records; outputs = are.outputs }

  waiting_alike : (o : Option (Batch S)) (d e : PackedDisk S) (v : Serving S) (ws : List (PackedWaitingStep S))
      → packed_on_disk app d.store ≡ packed_on_disk app e.store → AreWaiting app o d v ws → AreWaiting app o e v ws
  waiting_alike None d e v ws same are = unwritten_alike d e v ws same are
  waiting_alike (Some b) d e v ws same are = (
    are.0,
    unwritten_alike (packed_with_records app (first_records b.steps ws) d) (packed_with_records app (first_records b.steps ws) e) v (drop b.steps ws)
        (records_alike (first_records b.steps ws) d e same) are.1,
  )

  pub stands_alike : (s : PackedServer S) (e : PackedDisk S) (v : Serving S) → packed_on_disk app s.disk.store ≡ packed_on_disk app e.store
      → Stands app s v → Stands app (record s { disk = e }) v
  stands_alike s e v same is = record {
    node = is.node;
    reserved = is.reserved;
    waiting = waiting_alike v.written s.disk e v s.waiting same is.waiting;
    same = sym (records_alike (left_by s.waiting) s.disk e same) ∙ is.same;
    ordered = is.ordered;
  }

  -- ---- the calls of a server that serves

  module _ (s : PackedServer S) (o : Option (Serving S)) (v : Serving S) (serves : o ≡ Some v) (is : StandsFor app s o) where
    here : Stands app s v
    here = subst (StandsFor app s) serves is

    pub step_stands : (given : Given) (step : PackedStep S) (outcome : Outcome) (new : Serving S) → IsTaken app given step v outcome new
        → (outcome ≡ (packed_played_alone app given s.node step).0) × Stands app (packed_with_step app given step s) new
    step_stands given step outcome new done = (
      ap (λ p. p.0) done.is ∙ ap (λ n. (packed_played_alone app given n step).0) here.node,
      subst (λ (p : Outcome × Serving S). Stands app (packed_with_step app given step s) p.1) (sym done.is) (takes given step done.named s v here done.stand),
    )

    pub flush_stands : (position : ℕ) (said : PackedRecords S) (new : Serving S)
        → ◌≡◌ {A = PackedRecords S × Serving S} (said, new) (released position v)
        → (said ≡ said_by (take (steps_released position o) s.waiting)) × Stands app (packed_flushed_first app (steps_released position o) s) new
    flush_stands position said new done =
        subst (λ x. (said ≡ said_by (take (steps_released position x) s.waiting))
        × Stands app (packed_flushed_first app (steps_released position x) s) new) (sym serves)
        (subst (λ (p : PackedRecords S × Serving S). (p.0 ≡ said_by (take (steps_released position (Some v)) s.waiting))
        × Stands app (packed_flushed_first app (steps_released position (Some v)) s) p.1) (sym done)
        (leaves position s v here))
