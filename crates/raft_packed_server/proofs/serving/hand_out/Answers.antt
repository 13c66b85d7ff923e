use Rattle.std.proofs.Common.{List, [], ◌++◌, None, Option, Some, ap, false, is_some, refl, sym, ◌≡◌, ◌∙◌, ℕ}
use Rattle.std.specs.Option.{option_map}
use Rattle.raft_frames.specs.declared.header.LogId.{LogId}
use Rattle.raft_frames.specs.declared.tail.Tail.{Tail}
use Rattle.raft_frames.specs.Format.{after, frame}
use Rattle.raft_codec.specs.Codec.{Codec}
use Rattle.proof_logs.specs.Batches.{IsBatchOf, bytes_of}
use Rattle.proof_packed.specs.Nodes.{PackedRecords}
use Rattle.raft_packed_wire.specs.raft_packed_node.Effects.{nothing_recorded}
use Rattle.raft_packed_wire.specs.declared.record.NamedRecord.{NamedRecord}
use Rattle.raft_packed_server.specs.declared.batch.Written.{Written}
use Rattle.raft_packed_server.specs.declared.serving.Serving.{Serving}
use Rattle.raft_packed_server.specs.Logs.{logged_by}
use Rattle.raft_packed_server.specs.Represents.{IsHandedOut}
use Rattle.raft_packed_server.specs.Views.{bytes_beside, header_of, with_batch}
use Rattle.raft_packed_server.proofs.serving.hand_out.Goals as goal

none_there : {A : Type 0} (o : Option A) → is_some o ≡ false → o ≡ None
none_there None there = refl
none_there (Some x) there = absurd cc

-- what was written, and what is left of the server, are as the model's
handed : {S : Type 0} (c : Codec S) (v : Serving S) (w : Written) (bytes : List ℕ) (tail : Tail) (said left : PackedRecords S)
    (records : List (NamedRecord S)) (header : Option LogId) (next : Option Tail)
    → is_some v.written ≡ false
    → IsBatchOf (logged_by c) v.records
    → w.bytes.items ≡ bytes ++ frame v.tail (bytes_of (logged_by c) v.records)
    → bytes ≡ header_of v.header
    → w.end ≡ tail.position
    → tail ≡ after v.tail (bytes_of (logged_by c) v.records)
    → said ≡ v.outputs
    → left ≡ nothing_recorded
    → records ≡ []
    → header ≡ None
    → option_map (λ b. b.items) w.next ≡ bytes_beside c v
    → next ≡ option_map (λ t. after t (bytes_of (logged_by c) v.records)) v.next
    → IsHandedOut c v w
    × ◌≡◌ {A = Option (Serving S)}
    (Some (record v {
      written = Some (record { end = tail.position; steps = v.steps; outputs = said });
      steps = 0;
      records = records;
      outputs = left;
      header = header;
      tail = tail;
      next = next;
    })) (Some (with_batch c v))
handed c v w bytes tail said left records header next idle batch wrote head end place all empty cleared once beside behind = (
  record {
    none_before = none_there v.written idle;
    batch = batch;
    bytes = wrote ∙ ap (λ b. b ++ frame v.tail (bytes_of (logged_by c) v.records)) head;
    end = end ∙ ap (λ (t : Tail). t.position) place;
    next = beside;
  },
  λ i. Some (record v {
    written = Some (record { end = (place i).position; steps = v.steps; outputs = all i });
    steps = 0;
    records = cleared i;
    outputs = empty i;
    header = once i;
    tail = place i;
    next = behind i;
  }),
)

pub returns-clause-hands_out : goal.returns-clause-hands_out
returns-clause-hands_out g c =
    let wrote = c.in_ok-write_frame.ensures in
    let next = c.in_ok-next.next in
    handed g.M.Machine.codec c.args.serving.now (record { bytes = c.write_frame.new.out; end = c.write_frame.new.tail.position; next = next })
    c.in_ok-bytes.bytes.items c.write_frame.new.tail c.take.result c.take.new.self c.clear.new.self c.take_header.new.header
    c.write_beside.new.next (sym c.is_some.ensures ∙ c.if-is_some.false) wrote.batch wrote.frame c.in_ok-bytes.ensures.header refl wrote.tail
    c.take.ensures.all c.take.ensures.empty c.clear.ensures c.in_ok-bytes.ensures.once c.in_ok-next.ensures.frame c.in_ok-next.ensures.tail
