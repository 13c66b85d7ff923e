-- A machine stands for a server of the model, whatever its calls do to both: it has that server, but for what no start reads on disk.
use Rattle.std.proofs.Common.{ℕ, ◌≡◌, List, [], ◌∷◌, take, None, Some, refl, subst}
use Rattle.raft_node.specs.declared.given.Given.{Given}
use Rattle.raft_codec.specs.Codec.{Codec}
use Rattle.proof_packed.specs.Nodes.{PackedRecords}
use Rattle.proof_packed.specs.Stores.{Application}
use Rattle.proof_packed.specs.Nodes.{packed_new_node}
use Rattle.proof_requests.specs.proof_packed_servers.Checkpoints.{AreSameDisks, packed_checkpointed, packed_left_by}
use Rattle.proof_requests.specs.proof_packed_servers.Servers.{PackedServer, PackedStep, packed_crashed}
use Rattle.proof_requests.specs.proof_packed_servers.Servers.{packed_flushed_first, packed_new_disk, packed_with_step}
use Rattle.proof_requests.specs.raft_packed_server.declared.batch.Written.{Written}
use Rattle.proof_requests.specs.raft_packed_server.declared.serving.Serving.{Serving}
use Rattle.proof_requests.specs.raft_packed_server.Laws.{OpensCrashed}
use Rattle.proof_requests.specs.raft_packed_server.Represents.{HandsOut, said_by}
use Rattle.proof_requests.specs.raft_packed_server.Views.{IsWithTaken}
use Rattle.proof_requests.specs.raft_core.declared.driver.OpenedCore.{OpenedCore}
use Rattle.proof_requests.specs.raft_core.raft_peers.declared.output.Output.{Output}
use Rattle.proof_requests.specs.raft_core.Steps.{IsWithAllTaken, with_steps}
use Rattle.proof_requests.specs.raft_core.Calls.{GivesUpLog}
use Rattle.proof_requests.specs.raft_core.Views.{CoreView}
use Rattle.raft_cluster.specs.declared.machine.Machine.{Machine}
use Rattle.raft_cluster.specs.Calls.{ByNewLog, ByTakeOver}
use Rattle.raft_cluster.specs.Disks.{torn}
use Rattle.raft_cluster.specs.Servers.{HasServer, IsServer, log_on}
use Rattle.raft_cluster.proofs.Alike.{Crashed, crashed, flushed_alike, flushed_but, same_back, same_both}
use Rattle.raft_cluster.proofs.Machines as machines
use Rattle.raft_cluster.proofs.Machines.{handed}

module _ {S : Type 0} (app : Application S) (codec : Codec S) where
  -- ---- a server that is made

  pub made : (given : Given) (m : Machine S) → m.core ≡ None → m.written ≡ None → m.disk.items ≡ []
      → IsServer app codec given (record { node = packed_new_node app given.settings m.id; reserved = 0; waiting = []; disk = packed_new_disk app }) m
  made given m closed none empty = record {
    disk = packed_new_disk app;
    same = record { store = refl; moment = refl };
    has = machines.made app codec given m closed none empty;
  }

  -- ---- the calls of a machine

  module _ (given : Given) (s : PackedServer S) (m : Machine S) (is : IsServer app codec given s m) where
    -- the server that the machine has
    abbrev own : PackedServer S
    own = record s { disk = is.disk }

    -- nothing is done at the server
    pub recored : (core new : CoreView S) → m.core ≡ Some core → new.server ≡ core.server → new.id ≡ core.id
        → IsServer app codec given s (record m { core = Some new })
    recored core new is_open same same_id = record {
      disk = is.disk;
      same = is.same;
      has = machines.recored app codec given own m is.has core new is_open same same_id;
    }

    -- a step is taken
    stepped : (step : PackedStep S) (core new : CoreView S) → m.core ≡ Some core
        → IsWithTaken app core.server.given step core.server.serving new.server.serving → new.server.given ≡ core.server.given
        → new.id ≡ core.id → IsServer app codec given (packed_with_step app given step s) (record m { core = Some new })
    stepped step core new is_open taken given_same same_id = record {
      disk = is.disk;
      same = record { store = is.same.store; moment = is.same.moment };
      has = machines.stepped app codec given own m is.has step core new is_open taken given_same same_id;
    }

    -- the records that wait are handed out
    pub wrote : (core new : CoreView S) (w : Written) → m.core ≡ Some core → HandsOut codec core.server.serving (Some w) new.server.serving
        → new.server.given ≡ core.server.given → new.id ≡ core.id → IsServer app codec given s (record m { core = Some new; written = Some (handed w) })
    wrote core new w is_open out given_same same_id = record {
      disk = is.disk;
      same = is.same;
      has = machines.wrote app codec given own m is.has core new w is_open out given_same same_id;
    }

    -- so many of the oldest waiting steps have left, and this is what they say
    pub record Flushed (k : ℕ) (said : PackedRecords S) (n : Machine S) : Type 0 where
      pub says : said ≡ said_by (take k s.waiting)
      pub stands : IsServer app codec given (packed_flushed_first app k s) n

    pub flushed_too : (k : ℕ) (said : PackedRecords S) (n : Machine S) → machines.Flushed app codec given own m is.has k said n → Flushed k said n
    flushed_too k said n f = record {
      says = f.says;
      stands = record {
        disk = (packed_flushed_first app k own).disk;
        same = flushed_alike app given s is.disk is.same k;
        has = subst (λ (t : PackedServer S). HasServer app codec given t n) (flushed_but app k s is.disk) f.stands;
      };
    }

    -- the server stops
    pub left : (count : ℕ) (n : Machine S) → n.id ≡ m.id → n.core ≡ None → n.written ≡ None → n.disk.items ≡ torn count m → IsServer app codec given s n
    left count n same_id closed none items = record {
      disk = is.disk;
      same = is.same;
      has = machines.left app codec given own m is.has count n same_id closed none items;
    }

    -- the server is opened on its disk: the model's has crashed
    pub opened : (o : OpenedCore S) (n : Machine S) → m.core ≡ None
        → (crash : OpensCrashed app codec given (log_on m) is.has.k 0 own m.disk.items (record { server = o.core.server; end = o.end }))
        → ((v : Serving S) → o.core.server.serving ≡ Some v → v.next ≡ None)
        → o.core.server.given ≡ given → o.core.id ≡ m.id → n.id ≡ m.id → n.core ≡ Some o.core → n.written ≡ m.written
        → n.disk.items ≡ take o.end m.disk.items → IsServer app codec given (packed_crashed app given m.id crash.survive 0 s) n
    opened o n is_closed crash alone given_same core_id same_id now same_written items =
        let both : Crashed app given s is.disk is.same m.id crash.survive 0 = crashed app given s is.disk is.same m.id crash.survive 0 in
        record {
          disk = both.disk;
          same = both.disks;
          has = subst (λ (t : PackedServer S). HasServer app codec given t n) both.is
              (machines.opened app codec given own m is.has o n is_closed crash alone given_same core_id same_id now same_written items);
        }

    -- a new log has begun: its checkpoint makes a disk that is the same, as long as nothing is still to come on disk
    pub begun : (out : List (Output S)) (n : Machine S) → ByNewLog codec m out n
        → (packed_left_by s.waiting ≡ [] → AreSameDisks app s.disk (packed_checkpointed app s).disk) → IsServer app codec given s n
    begun out n b same = record {
      disk = is.disk;
      same = is.same;
      has = machines.begun app codec given own m is.has out n b
          (λ waits. same_both app is.disk s.disk (packed_checkpointed app s).disk (same_back app s.disk is.disk is.same) (same waits));
    }

    -- it has taken the old one's place
    pub taken_over : (out : List (Output S)) (n : Machine S) → ByTakeOver m out n → IsServer app codec given s n
    taken_over out n b =
        let over = machines.taken_over app codec given own m is.has out n b in
        record { disk = over.disk; same = same_both app s.disk is.disk over.disk is.same over.same; has = over.stands }

    -- or it is given up
    pub given_up : (core new : CoreView S) → m.core ≡ Some core → GivesUpLog core new → IsServer app codec given s (record m { core = Some new })
    given_up core new is_open gives = record { disk = is.disk; same = is.same; has = machines.given_up app codec given own m is.has core new is_open gives }

  -- steps are taken, in order
  pub steps_taken : (given : Given) (steps : List (PackedStep S)) (s : PackedServer S) (m : Machine S) (core new : CoreView S) → IsServer app codec given s m → m.core ≡ Some core
      → IsWithAllTaken app core.server.given steps core.server.serving new.server.serving → new.server.given ≡ core.server.given → new.id ≡ core.id
      → IsServer app codec given (with_steps app given steps s) (record m { core = Some new })
  steps_taken given [] s m core new is is_open taken given_same same_id =
      recored given s m is core new is_open (λ i. record { given = given_same i; serving = taken i }) same_id
  steps_taken given (step ∷ steps) s m core new is is_open taken given_same same_id =
      let mid : CoreView S = record core { server = record { given = core.server.given; serving = taken.0 } } in
      steps_taken given steps (packed_with_step app given step s) (record m { core = Some mid }) mid new
      (stepped given s m is step core mid is_open taken.1.0 refl refl) refl taken.1.1 given_same same_id
