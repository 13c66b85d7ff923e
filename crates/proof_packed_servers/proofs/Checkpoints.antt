-- Clusters that are alike stay so, and a server goes on from a checkpoint.
use Rattle.std.specs.Prelude.{ℕ, ◌≡◌, max, Bool, true, false, List, [], ◌∷◌, ◌++◌, Contains, Some, map, nat_eq, refl, if◌then◌else◌}
use Rattle.std.specs.List.{flat_map}
use Rattle.std.proofs.Common.{◌∙◌, sym, ap, subst, zero, suc}
use Rattle.std.proofs.lemmas.Bool.{eqb-true}
use Rattle.proof_packed.specs.raft_store.Entries.{entry_meaning}
use Rattle.proof_packed.specs.raft_store.Types.{WorldStore}
use Rattle.proof_packed.specs.raft_schedule.declared.event.Event.{Event}
use Rattle.proof_packed.specs.raft_node.declared.given.Given.{Given}
use Rattle.proof_packed.specs.raft_node.Net.{NodeView, node_at}
use Rattle.proof_packed.specs.raft_node.Runs.{world_after}
use Rattle.proof_packed.specs.raft_node.WellFormed.{IsWellFormed}
use Rattle.raft_wire.specs.declared.record.Record.{Record}
use Rattle.raft_wire.specs.Records.{on_disk}
use Rattle.proof_packed.specs.proof_mirror.Ready.{Shaped}
use Rattle.proof_servers.specs.Follows.{Follows, ServerFollows}
use Rattle.proof_servers.specs.Servers as model
use Rattle.proof_servers.specs.Servers.{Action, Cluster, Server, WaitingStep, after_actions, flushed_first, new_cluster}
use Rattle.proof_servers.specs.Servers.{reserved_for}
use Rattle.proof_packed.specs.Nodes.{PackedRecords}
use Rattle.proof_packed.specs.Stores.{Application, Packed, PackedStore, packed_store}
use Rattle.raft_packed_wire.specs.declared.record.PackedRecord.{PackedRecord}
use Rattle.raft_packed_wire.specs.Checkpoints.{IsKeyed}
use Rattle.raft_packed_wire.specs.Records.{packed_on_disk, record_packed}
use Rattle.raft_packed_wire.proofs.Checkpoints.{checkpoints_restore}
use Rattle.raft_packed_wire.proofs.Replays.{replayed_same}
use Rattle.proof_packed_servers.specs.Checkpoints.{AreAlike, AreSameDisks, packed_checkpointed, packed_left_by, with_disks}
use Rattle.proof_packed_servers.specs.Laws.{IsPackedRun}
use Rattle.proof_packed_servers.specs.Servers.{Crashes, Flushes, PackedAction, PackedAllMayAct, PackedCluster, PackedDisk, PackedServer, PackedWaitingStep}
use Rattle.proof_packed_servers.specs.Servers.{Takes, cluster_packed, disk_packed, packed_after_action, packed_after_actions}
use Rattle.proof_packed_servers.specs.Servers.{packed_crashed, packed_flushed, packed_flushed_first, packed_joined, packed_new_cluster}
use Rattle.proof_packed_servers.specs.Servers.{packed_started, packed_with_record, packed_with_records, packed_with_server}
use Rattle.proof_packed_servers.specs.Servers.{packed_with_step, server_packed, waiting_packed}
use Rattle.proof_packed_servers.proofs.Clusters.{Made, MadeWith, all_flushed, made_follows, server_fits}
use Rattle.proof_packed_servers.proofs.Starts.{same_played, same_waiting, start, stopped}
use Rattle.proof_packed_servers.proofs.Steps.{Fits}
use Rattle.proof_packed_servers.proofs.Unpacking.{runs_unpacked}

-- ---- clusters that are alike

module _ {S : Type 0} (app : Application S) where
  -- records come on disk
  records_alike : (rs : List (PackedRecord (Packed S))) (d e : PackedDisk S) → AreSameDisks app d e
      → AreSameDisks app (packed_with_records app rs d) (packed_with_records app rs e)
  records_alike [] d e same = same
  records_alike (r ∷ rs) d e same =
      records_alike rs (packed_with_record app r d) (packed_with_record app r e)
      (record { store = replayed_same app r d.store e.store same.store; moment = refl })

  abbrev server_of : PackedServer S → PackedServer S
  server_of s = s

  -- what the k oldest waiting steps leave
  pub first_alike : (k : ℕ) (s : PackedServer S) (e : PackedDisk S) → AreSameDisks app s.disk e
      → AreSameDisks app (packed_flushed_first app k s).disk (packed_flushed_first app k (record s { disk = e })).disk
  first_alike zero s e same = same
  first_alike (suc k) s e same =
      go s.waiting (λ w ws.
      first_alike k (packed_flushed app w ws s) (packed_with_records app w.disk_records e) (records_alike w.disk_records s.disk e same))
    where
      go : (xs : List (PackedWaitingStep S))
          → ((w : PackedWaitingStep S) (ws : List (PackedWaitingStep S))
          → AreSameDisks app (packed_flushed_first app k (packed_flushed app w ws s)).disk
          (packed_flushed_first app k (packed_flushed app w ws (record s { disk = e }))).disk)
          → AreSameDisks app
          (server_of (elim xs as (λ _. PackedServer S) [ [] ↦ s | w ∷ ws ↦ packed_flushed_first app k (packed_flushed app w ws s) ])).disk
          (server_of (elim xs as (λ _. PackedServer S) [
            | [] ↦ record s { disk = e }
            | w ∷ ws ↦ packed_flushed_first app k (packed_flushed app w ws (record s { disk = e }))
          ])).disk
      go [] rest = same
      go (w ∷ ws) rest = rest w ws

  module _ (given : Given) where
    -- a start does the same
    module _ (id at : ℕ) (d e : PackedDisk S) (same : AreSameDisks app d e) where
      -- on the other disk's store, at this moment
      abbrev start_at : ℕ → PackedServer S
      start_at moment =
          packed_with_step app given (start app given id (max at moment))
          (record { node = stopped app given id moment e.store; reserved = moment; waiting = []; disk = e })

      is : e.store ≡ record d.store { saved = e.store.saved; applied = e.store.applied }
      is = ap (λ (t : PackedStore S). record t { saved = e.store.saved; applied = e.store.applied }) (sym same.store)

      at_one_moment : start_at d.moment ≡ record (packed_started app given id at d) { disk = e }
      at_one_moment = λ i. record {
        node = (same_played app given id d.store e.store e.store.saved e.store.applied is (max at d.moment) d.moment i).1.node;
        reserved = reserved_for
            (same_played app given id d.store e.store e.store.saved e.store.applied is (max at d.moment) d.moment i).1.node.moment d.moment;
        waiting = same_waiting app given id d.store e.store e.store.saved e.store.applied is (max at d.moment) d.moment d.moment i ∷ [];
        disk = e;
      }

      started_alike : packed_started app given id at e ≡ record (packed_started app given id at d) { disk = e }
      started_alike = ap start_at (sym same.moment) ∙ at_one_moment

    -- nor does a crash tell them apart
    pub crashed_alike : (id k at : ℕ) (s : PackedServer S) (e : PackedDisk S) → AreSameDisks app s.disk e
        → packed_crashed app given id k at (record s { disk = e })
        ≡ record (packed_crashed app given id k at s) { disk = (packed_flushed_first app k (record s { disk = e })).disk }
    crashed_alike id k at s e same =
        started_alike id at (packed_flushed_first app k s).disk (packed_flushed_first app k (record s { disk = e })).disk (first_alike k s e same)

    module _ (c : PackedCluster S) (disks : ℕ → PackedDisk S) (each : (id : ℕ) → AreSameDisks app (c.servers id).disk (disks id)) where
      -- one server in another's place
      module _ (id : ℕ) (s : PackedServer S) (e : PackedDisk S) (same : AreSameDisks app s.disk e) (said : PackedRecords S) where
        abbrev placed_disks : ℕ → PackedDisk S
        placed_disks other = if nat_eq other id then e else disks other

        placed : AreAlike app (record (packed_with_server id s c) { released = said })
            (record (packed_with_server id (record s { disk = e }) (with_disks disks c)) { released = said })
        placed = record { disks = placed_disks; is = λ i. record { servers = λ other. at other (nat_eq other id) i; released = said }; same = both }
          where
            at : (other : ℕ) (b : Bool)
                → server_of (if b then record s { disk = e } else record (c.servers other) { disk = disks other })
                ≡ record (server_of (if b then s else c.servers other)) { disk = (if b then e else disks other) }
            at other true = refl
            at other false = refl

            both_by : (other : ℕ) (b : Bool) → AreSameDisks app (server_of (if b then s else c.servers other)).disk (if b then e else disks other)
            both_by other true = same
            both_by other false = each other

            both : (other : ℕ) → AreSameDisks app ((packed_with_server id s c).servers other).disk (placed_disks other)
            both other = both_by other (nat_eq other id)

      action_alike : (a : PackedAction S) → AreAlike app (packed_after_action app given a c) (packed_after_action app given a (with_disks disks c))
      action_alike (Takes id step) = placed id (packed_with_step app given step (c.servers id)) (disks id) (each id) c.released
      action_alike (Flushes id) = go (c.servers id).waiting
        where
          go : (xs : List (PackedWaitingStep S))
              → AreAlike app
              (elim xs as (λ _. PackedCluster S) [
                | [] ↦ c
                | w ∷ ws ↦ record (packed_with_server id (packed_flushed app w ws (c.servers id)) c)
                    { released = packed_joined c.released w.outputs }
              ])
              (elim xs as (λ _. PackedCluster S) [
                | [] ↦ with_disks disks c
                | w ∷ ws ↦ record (packed_with_server id (packed_flushed app w ws (record (c.servers id) { disk = disks id })) (with_disks disks c))
                    { released = packed_joined c.released w.outputs }
              ])
          go [] = record { disks = disks; is = refl; same = each }
          go (w ∷ ws) =
              placed id (packed_flushed app w ws (c.servers id)) (packed_with_records app w.disk_records (disks id))
              (records_alike w.disk_records (c.servers id).disk (disks id) (each id)) (packed_joined c.released w.outputs)
      action_alike (Crashes id k at) =
          let now : PackedServer S = packed_crashed app given id k at (c.servers id) in
          let e : PackedDisk S = (packed_flushed_first app k (record (c.servers id) { disk = disks id })).disk in
          subst
          (λ (u : PackedServer S). AreAlike app (packed_with_server id now c) (packed_with_server id u (with_disks disks c)))
          (sym (crashed_alike id k at (c.servers id) (disks id) (each id)))
          (placed id now e (first_alike k (c.servers id) (disks id) (each id)) c.released)

    pub all_alike : (actions : List (PackedAction S)) (c d : PackedCluster S) → AreAlike app c d
        → AreAlike app (packed_after_actions app given actions c) (packed_after_actions app given actions d)
    all_alike [] c d h = h
    all_alike (a ∷ rest) c d h =
        all_alike rest (packed_after_action app given a c) (packed_after_action app given a d)
        (subst (λ (x : PackedCluster S). AreAlike app (packed_after_action app given a c) (packed_after_action app given a x)) (sym h.is)
        (action_alike c h.disks h.same a))

  -- a server has another disk that is the same
  pub with_other : (c : PackedCluster S) (id : ℕ) (e : PackedDisk S) → AreSameDisks app (c.servers id).disk e
      → AreAlike app c (packed_with_server id (record (c.servers id) { disk = e }) c)
  with_other c id e same = record {
    disks = λ other. if nat_eq other id then e else (c.servers other).disk;
    is = λ i. record { servers = λ other. at other (nat_eq other id) refl i; released = c.released };
    same = λ other. disk_at other (nat_eq other id) refl;
  }
    where
      at : (other : ℕ) (b : Bool) → nat_eq other id ≡ b
          → (if b then record (c.servers id) { disk = e } else c.servers other)
          ≡ record (c.servers other) { disk = (if b then e else (c.servers other).disk) }
      at other true q = ap (λ x. record (c.servers x) { disk = e }) (sym (eqb-true other id q))
      at other false q = refl

      disk_at : (other : ℕ) (b : Bool) → nat_eq other id ≡ b → AreSameDisks app (c.servers other).disk (if b then e else (c.servers other).disk)
      disk_at other true q = subst (λ x. AreSameDisks app (c.servers x).disk e) (sym (eqb-true other id q)) same
      disk_at other false q = record { store = refl; moment = refl }

-- ---- checkpoints

-- nothing is of nothing
none_first : {A : Type 0} (xs ys : List A) → xs ++ ys ≡ [] → (xs ≡ []) × (ys ≡ [])
none_first [] ys none = (refl, none)
none_first (x ∷ xs) ys none = absurd cc

none_mapped : {A B : Type 0} (f : A → B) (xs : List A) → map f xs ≡ [] → xs ≡ []
none_mapped f [] none = refl
none_mapped f (x ∷ xs) none = absurd cc

abbrev left_by : List WaitingStep → List Record
left_by ws = flat_map (λ w. w.disk_records) ws

none_left : {S : Type 0} (app : Application S) (ws : List WaitingStep) → packed_left_by (map (waiting_packed app) ws) ≡ [] → left_by ws ≡ []
none_left app [] none = refl
none_left app (w ∷ ws) none =
    let both = none_first (map (record_packed app) w.disk_records) (packed_left_by (map (waiting_packed app) ws)) none in
    ap (λ (rs : List Record). rs ++ left_by ws) (none_mapped (record_packed app) w.disk_records both.0) ∙ none_left app ws both.1

-- what leaves nothing is flushed
abbrev count : List WaitingStep → ℕ
count [] = zero
count (w ∷ ws) = suc (count ws)

drained : (ws : List WaitingStep) (s : Server) → left_by ws ≡ []
    → flushed_first (count ws) (record s { waiting = ws }) ≡ record s { waiting = [] }
drained [] s none = refl
drained (w ∷ ws) s none =
    let both = none_first w.disk_records (left_by ws) none in
    ap (λ (rs : List Record). flushed_first (count ws) (record s { waiting = ws; disk = model.with_records rs s.disk })) both.0 ∙ drained ws s both.1

-- a server of a run whose disk has all that its steps leave
record IsDrained (s : Server) : Type 0 where
  pub store : on_disk s.disk.store ≡ on_disk s.node.store
  pub reserved : s.reserved ≡ s.disk.moment

module _ (given : Given) (c : Cluster) (id : ℕ) (member : Contains given.ids id) (made : Made given c) (none : left_by (c.servers id).waiting ≡ []) where
  is_drained : IsDrained (c.servers id)
  is_drained =
      let s : Server = c.servers id in
      let d : MadeWith given id (flushed_first (count s.waiting) s) = all_flushed given (count s.waiting) id c member made in
      let f : (es : List Event) × Follows given es d.0 = made_follows given d.0 d.1 in
      let n : (n : NodeView) × (node_at (world_after given f.0).nodes id ≡ Some n) = f.1.there id member in
      let server : ServerFollows given (world_after given f.0).records.bag id n.0 (record s { waiting = [] }) =
      subst (ServerFollows given (world_after given f.0).records.bag id n.0) (d.2 ∙ drained s.waiting s none) (f.1.each id n.0 n.1) in
      record { store = server.disk ∙ ap (λ (m : NodeView). on_disk m.store) (sym server.node); reserved = server.reserved }

-- the entries of a store of a run stand at their indexes
keyed_packed : {S : Type 0} (app : Application S) (t : WorldStore) → Shaped entry_meaning t → IsKeyed (packed_store app t)
keyed_packed app t shaped = record { keys = shaped.keys; run = shaped.run }

module _ {S : Type 0} (app : Application S) (given : Given) (wf : IsWellFormed given) where
  -- the disk of a new log that begins with a checkpoint is the same
  checkpoint_same : (c : Cluster) (id : ℕ) → Contains given.ids id → Made given c → left_by (c.servers id).waiting ≡ []
      → AreSameDisks app (disk_packed app (c.servers id).disk) (packed_checkpointed app (server_packed app (c.servers id))).disk
  checkpoint_same c id member made none =
      let s : Server = c.servers id in
      let all : IsDrained s = is_drained given c id member made none in
      let fits : Fits s.node = server_fits given wf c id member made in
      record {
        store =
            ap (λ (t : WorldStore). packed_on_disk app (packed_store app t)) all.store
            ∙ sym (checkpoints_restore app s.reserved (packed_store app s.node.store) (keyed_packed app s.node.store fits.shaped));
        moment = sym all.reserved;
      }

  go_on_packed : (c : Cluster) (id : ℕ) → Contains given.ids id → Made given c
      → packed_left_by ((cluster_packed app c).servers id).waiting ≡ []
      → AreAlike app (cluster_packed app c)
      (packed_with_server id (packed_checkpointed app ((cluster_packed app c).servers id)) (cluster_packed app c))
  go_on_packed c id member made none =
      with_other app (cluster_packed app c) id (packed_checkpointed app ((cluster_packed app c).servers id)).disk
      (checkpoint_same c id member made (none_left app (c.servers id).waiting none))

  pub go_on : (actions : List (PackedAction S)) → PackedAllMayAct app given actions (packed_new_cluster app given) → (id : ℕ)
      → Contains given.ids id
      → let c = packed_after_actions app given actions (packed_new_cluster app given) in
      packed_left_by (c.servers id).waiting ≡ [] → AreAlike app c (packed_with_server id (packed_checkpointed app (c.servers id)) c)
  go_on actions may id member =
      let run : (theirs : List Action) × IsPackedRun app given theirs actions = runs_unpacked app given wf actions may in
      let c : Cluster = after_actions given run.0 (new_cluster given) in
      subst (λ (d : PackedCluster S). packed_left_by (d.servers id).waiting ≡ []
      → AreAlike app d (packed_with_server id (packed_checkpointed app (d.servers id)) d)) run.1.ends
      (go_on_packed c id member (record { actions = run.0; may = run.1.may; is = refl }))
