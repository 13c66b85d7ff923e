-- Records behind other records: what an event at a node records is the same whatever was recorded before, and whatever is
-- kept of whole logs (`Laws`, `Frames`).
use Rattle.std.specs.Prelude.{◌++◌, map}
use Rattle.proof_deeds.specs.raft_node.declared.record.Decided.{Decided}
use Rattle.proof_deeds.specs.raft_node.declared.record.Established.{Established}
use Rattle.proof_deeds.specs.raft_node.Events.{Scene, scene}
use Rattle.proof_deeds.specs.raft_node.Execute.{Effects, effects}
use Rattle.proof_deeds.specs.raft_node.Net.{Records}
use Rattle.proof_deeds.specs.raft_node.Work.{Work}

-- records, and then others
abbrev pub joined : {L : Type 0} → Records L → Records L → Records L
joined r q = record {
  bag = r.bag ++ q.bag;
  executed = r.executed ++ q.executed;
  installed = r.installed ++ q.installed;
  decided = r.decided ++ q.decided;
  established = r.established ++ q.established;
  answers = r.answers ++ q.answers;
}

-- `f` is what the second kind of records keeps of what the first kind keeps of a whole log
module _ {L M : Type 0} (f : L → M) where
  abbrev pub decided_as : Decided L → Decided M
  decided_as d = record { leader_id = d.leader_id; log_id = d.log_id; log = f d.log }

  abbrev pub established_as : Established L → Established M
  established_as d = record { leader_id = d.leader_id; log = f d.log }

  -- the same records, of the second kind
  abbrev pub records_as : Records L → Records M
  records_as q = record {
    bag = q.bag;
    executed = q.executed;
    installed = q.installed;
    decided = map decided_as q.decided;
    established = map established_as q.established;
    answers = q.answers;
  }

  -- the same behind records of the second kind: alone, and in effects, in a node's work and in a scene
  module _ (r : Records M) where
    abbrev pub records_behind : Records L → Records M
    records_behind q = joined r (records_as q)

    abbrev pub effects_behind : Effects L → Effects M
    effects_behind w = effects w.store w.streams w.noted (records_behind w.records)

    abbrev pub work_behind : Work L → Work M
    work_behind w = record { engine = w.engine; effects = effects_behind w.effects; left = w.left }

    abbrev pub scene_behind : Scene L → Scene M
    scene_behind s = scene s.node (records_behind s.records)
