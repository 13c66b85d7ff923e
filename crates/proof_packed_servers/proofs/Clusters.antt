-- Clusters, packed: after any actions.
use Rattle.std.specs.Prelude.{ℕ, ◌≡◌, Bool, true, false, List, [], ◌∷◌, ◌++◌, map, nat_eq, Contains, Some, IfSome, refl, if◌then◌else◌}
use Rattle.std.proofs.Common.{◌∙◌, sym, ap, subst, zero, suc}
use Rattle.std.proofs.lemmas.List.{map-append}
use Rattle.proof_packed.specs.raft_store.declared.entry.Entry.{Entry}
use Rattle.proof_packed.specs.raft_schedule.declared.event.Event.{Event}
use Rattle.proof_packed.specs.raft_node.declared.given.Given.{Given}
use Rattle.proof_packed.specs.raft_node.Net.{NodeView, Records, node_at}
use Rattle.proof_packed.specs.raft_node.Runs.{world_after}
use Rattle.proof_packed.specs.raft_node.WellFormed.{IsWellFormed}
use Rattle.raft_wire.specs.Records.{on_disk}
use Rattle.proof_packed_worlds.specs.proof_agreement.Machine.{Setup}
use Rattle.proof_packed_worlds.specs.proof_deeds.Images.{Ideal}
use Rattle.proof_packed_worlds.specs.proof_deeds.Nets.{EngineFollows, NodeFollows}
use Rattle.proof_packed_worlds.proofs.proof_deeds_proofs.Nodes.{each_at}
use Rattle.proof_packed_worlds.proofs.proof_deeds_proofs.Proved.{followed}
use Rattle.proof_servers.specs.Follows.{Follows, ServerFollows}
use Rattle.proof_servers.specs.Recorded.{joined}
use Rattle.proof_servers.specs.Servers as model
use Rattle.proof_servers.specs.Servers.{Action, AllMayAct, Cluster, MayAct, Server, WaitingStep, after_action, after_actions, crashed, flushed}
use Rattle.proof_servers.specs.Servers.{flushed_first, new_cluster, with_server}
use Rattle.proof_servers.proofs.AtNode.{Spot, spot_of}
use Rattle.proof_servers.proofs.Follow.{Changes, ahead, changes, servers_follow}
use Rattle.proof_packed.specs.Nodes.{decided_without_log, established_without_log, packed_message, packed_records}
use Rattle.proof_packed.specs.Stores.{Application, packed}
use Rattle.proof_packed_servers.specs.Servers.{PackedCluster, PackedServer, action_packed, cluster_packed, disk_packed}
use Rattle.proof_packed_servers.specs.Servers.{packed_after_action, packed_after_actions, packed_flushed, packed_joined, packed_new_cluster}
use Rattle.proof_packed_servers.specs.Servers.{packed_started, packed_with_server, server_packed, waiting_packed}
use Rattle.proof_packed_servers.proofs.Disks.{first_kept, flushed_kept}
use Rattle.proof_packed_servers.proofs.Starts.{started_kept}
use Rattle.proof_packed_servers.proofs.Steps.{Fits, step_kept}

module _ {S : Type 0} (app : Application S) where
  pub joined_kept : (r q : Records (List Entry)) → packed_records app (joined r q) ≡ packed_joined (packed_records app r) (packed_records app q)
  joined_kept r q = λ i. record {
    bag = map-append (packed_message app) r.bag q.bag i;
    executed = r.executed ++ q.executed;
    installed = map-append (λ x. record { node = x.node; snapshot = packed app x.entries }) r.installed q.installed i;
    decided = map-append decided_without_log r.decided q.decided i;
    established = map-append established_without_log r.established q.established i;
    answers = r.answers ++ q.answers;
  }

  -- one server in another's place
  placed_kept : (id : ℕ) (s : Server) (p : PackedServer S) (c : Cluster) → server_packed app s ≡ p
      → cluster_packed app (with_server id s c) ≡ packed_with_server id p (cluster_packed app c)
  placed_kept id s p c h = λ i. record { servers = λ other. at other (nat_eq other id) i; released = packed_records app c.released }
    where
      at : (other : ℕ) (b : Bool) → server_packed app (if b then s else c.servers other) ≡ (if b then p else server_packed app (c.servers other))
      at other true = h
      at other false = refl

  flush_kept : (id : ℕ) (c : Cluster) (given : Given)
      → cluster_packed app (after_action given (model.Flushes id) c)
      ≡ packed_after_action app given (action_packed app (model.Flushes id)) (cluster_packed app c)
  flush_kept id c given = go (c.servers id).waiting
    where
      go : (xs : List WaitingStep)
          → cluster_packed app (elim xs as (λ _. Cluster) [
            | [] ↦ c
            | w ∷ ws ↦ record (with_server id (flushed w ws (c.servers id)) c) { released = joined c.released w.outputs }
          ])
          ≡ (elim (map (waiting_packed app) xs) as (λ _. PackedCluster S) [
            | [] ↦ cluster_packed app c
            | w ∷ ws ↦ record (packed_with_server id (packed_flushed app w ws (server_packed app (c.servers id))) (cluster_packed app c))
                { released = packed_joined (packed_records app c.released) w.outputs }
          ])
      go [] = refl
      go (w ∷ ws) = λ i. record {
        servers = (placed_kept id (flushed w ws (c.servers id)) _ c (flushed_kept app w ws (c.servers id)) i).servers;
        released = joined_kept c.released w.outputs i;
      }

-- actions, and one more
after_more : (given : Given) (xs : List Action) (a : Action) (c : Cluster)
    → after_actions given (xs ++ a ∷ []) c ≡ after_action given a (after_actions given xs c)
after_more given [] a c = refl
after_more given (x ∷ xs) a c = after_more given xs a (after_action given x c)

may_more : (given : Given) (xs : List Action) (a : Action) (c : Cluster) → AllMayAct given xs c → MayAct given a (after_actions given xs c)
    → AllMayAct given (xs ++ a ∷ []) c
may_more given [] a c h may = (may, tt)
may_more given (x ∷ xs) a c h may = (h.0, may_more given xs a (after_action given x c) h.1 may)

module _ (given : Given) where
  -- some actions make this cluster
  pub record Made (c : Cluster) : Type 0 where
    pub actions : List Action
    pub may : AllMayAct given actions (new_cluster given)
    pub is : after_actions given actions (new_cluster given) ≡ c

  pub new_made : Made (new_cluster given)
  new_made = record { actions = []; may = tt; is = refl }

  pub made_more : (c : Cluster) (a : Action) → Made c → MayAct given a c → Made (after_action given a c)
  made_more c a m may = record {
    actions = m.actions ++ a ∷ [];
    may = may_more given m.actions a (new_cluster given) m.may (subst (MayAct given a) (sym m.is) may);
    is = after_more given m.actions a (new_cluster given) ∙ ap (after_action given a) m.is;
  }

  pub made_follows : (c : Cluster) → Made c → (es : List Event) × Follows given es c
  made_follows c m =
      let f : (es : List Event) × Follows given es (after_actions given m.actions (new_cluster given)) = servers_follow given m.actions m.may in
      (f.0, subst (Follows given f.0) m.is f.1)

  -- a server's node is one of a world
  pub server_world : (c : Cluster) (id : ℕ) → Contains given.ids id → Made c
      → (es : List Event) × (node_at (world_after given es).nodes id ≡ Some (c.servers id).node)
  server_world c id member m =
      let f : (es : List Event) × Follows given es c = made_follows c m in
      let a : (more : List Event) × (node_at (world_after given (f.0 ++ more)).nodes id ≡ Some (c.servers id).node) =
      ahead given f.0 c id member f.1 in
      (f.0 ++ a.0, a.1)

  -- some actions make a cluster in which this server has the id
  abbrev pub MadeWith : ℕ → Server → Type 0
  MadeWith id s = (d : Cluster) × Made d × (d.servers id ≡ s)

  -- what the k oldest waiting steps of a server leave comes on disk by as many flushes
  pub all_flushed : (k id : ℕ) (c : Cluster) → Contains given.ids id → Made c → MadeWith id (flushed_first k (c.servers id))
  all_flushed zero id c member m = (c, m, refl)
  all_flushed (suc k) id c member m = go (c.servers id).waiting (made_more c (model.Flushes id) m member) (λ d n. all_flushed k id d member n)
    where
      go : (xs : List WaitingStep)
          → Made (elim xs as (λ _. Cluster) [
            | [] ↦ c
            | w ∷ ws ↦ record (with_server id (flushed w ws (c.servers id)) c) { released = joined c.released w.outputs }
          ])
          → ((d : Cluster) → Made d → MadeWith id (flushed_first k (d.servers id)))
          → MadeWith id (elim xs as (λ _. Server) [ [] ↦ c.servers id | w ∷ ws ↦ flushed_first k (flushed w ws (c.servers id)) ])
      go [] n rest = (c, n, refl)
      go (w ∷ ws) n rest =
          let now : Changes id (flushed w ws (c.servers id)) c (with_server id (flushed w ws (c.servers id)) c) =
          changes id (flushed w ws (c.servers id)) c in
          let d : Cluster = record (with_server id (flushed w ws (c.servers id)) c) { released = joined c.released w.outputs } in
          let f : MadeWith id (flushed_first k (d.servers id)) = rest d n in
          (f.0, f.1, f.2 ∙ ap (flushed_first k) now.own)

  module _ (wf : IsWellFormed given) where
    node_fits : (s : Setup Entry) (W : Ideal) (r : Records (List Entry)) (n : NodeView) → NodeFollows s W r n → Fits n
    node_fits s W r n h = record {
      queue = λ e q. (let g : EngineFollows s n W e = subst (λ p. IfSome p (EngineFollows s n W)) q h.engine in g.queue);
      shaped = h.shaped;
      ordered = h.ordered;
    }

    -- each node of a world fits
    world_fits : (es : List Event) (id : ℕ) (n : NodeView) → node_at (world_after given es).nodes id ≡ Some n → Fits n
    world_fits es id n e =
        let f = followed given wf es in
        let net = world_after given es in
        let spot : Spot net.nodes id n = spot_of net.nodes id n e in
        node_fits _ f.world net.records n (each_at (NodeFollows _ f.world net.records) net.nodes spot.place n spot.is f.follows.nodes)

    -- and so does a server's
    pub server_fits : (c : Cluster) (id : ℕ) → Contains given.ids id → Made c → Fits (c.servers id).node
    server_fits c id member m =
        let w : (es : List Event) × (node_at (world_after given es).nodes id ≡ Some (c.servers id).node) = server_world c id member m in
        world_fits w.0 id (c.servers id).node w.1

    module _ {S : Type 0} (app : Application S) where
      -- a server crashes, and starts on a disk that has the store of a world's node
      pub crash_kept : (id k at : ℕ) (c : Cluster) → Contains given.ids id → Made c
          → server_packed app (crashed given id k at (c.servers id))
          ≡ packed_started app given id at (disk_packed app (flushed_first k (c.servers id)).disk)
      crash_kept id k at c member m =
          let d : MadeWith id (flushed_first k (c.servers id)) = all_flushed k id c member m in
          let f : (es : List Event) × Follows given es d.0 = made_follows d.0 d.1 in
          let n : (n : NodeView) × (node_at (world_after given f.0).nodes id ≡ Some n) = f.1.there id member in
          let fits : Fits n.0 = world_fits f.0 id n.0 n.1 in
          let server : ServerFollows given (world_after given f.0).records.bag id n.0 (d.0.servers id) = f.1.each id n.0 n.1 in
          let same : on_disk (flushed_first k (c.servers id)).disk.store ≡ on_disk n.0.store =
          ap (λ (s : Server). on_disk s.disk.store) (sym d.2) ∙ server.disk in
          started_kept app given id at (flushed_first k (c.servers id)).disk n.0.store fits.shaped fits.ordered same

      pub action_kept : (a : Action) (c : Cluster) → MayAct given a c → Made c
          → cluster_packed app (after_action given a c)
          ≡ packed_after_action app given (action_packed app a) (cluster_packed app c)
      action_kept (model.Takes id step) c may m =
          placed_kept app id (model.with_step given step (c.servers id)) _ c
          (step_kept app given step (c.servers id) (server_fits c id may.0 m))
      action_kept (model.Flushes id) c may m = flush_kept app id c given
      action_kept (model.Crashes id k at) c may m =
          placed_kept app id (crashed given id k at (c.servers id)) _ c
          (crash_kept id k at c may m ∙ ap (λ (s : PackedServer S). packed_started app given id at s.disk) (first_kept app k (c.servers id)))

      all_kept : (actions : List Action) (c : Cluster) → AllMayAct given actions c → Made c
          → cluster_packed app (after_actions given actions c)
          ≡ packed_after_actions app given (map (action_packed app) actions) (cluster_packed app c)
      all_kept [] c may m = refl
      all_kept (a ∷ rest) c may m =
          all_kept rest (after_action given a c) may.1 (made_more c a m may.0)
          ∙ ap (packed_after_actions app given (map (action_packed app) rest)) (action_kept a c may.0 m)

      pub clusters_kept : (actions : List Action) → AllMayAct given actions (new_cluster given)
          → cluster_packed app (after_actions given actions (new_cluster given))
          ≡ packed_after_actions app given (map (action_packed app) actions) (packed_new_cluster app given)
      clusters_kept actions may = all_kept actions (new_cluster given) may new_made
