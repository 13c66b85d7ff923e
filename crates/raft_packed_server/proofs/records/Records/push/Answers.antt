use Rattle.std.proofs.Common.{ap, arith, [], ◌++◌, ◌∙◌, ◌∷◌}
use Rattle.raft_packed_wire.specs.declared.record.NamedRecord.{NamedRecord}
use Rattle.raft_packed_server.specs.Logs.{logged_by}
use Rattle.raft_packed_server.proofs.Coded.{logged_by_is}
use Rattle.raft_packed_server.proofs.Kept.{count_short, none_kept, one_kept, one_seen}
use Rattle.raft_packed_server.proofs.records.Records.push.Goals as goal

pub invariant_of-self : goal.invariant_of-self
invariant_of-self g c =
    let codec = logged_by g.M.Machine.codec in
    let inverse = logged_by_is g.M.Machine.codec g.met.M.Machine.is_codec in
    none_kept codec inverse c.clear.new.self.items c.clear.ensures.items

pub overflow_add-self : goal.overflow_add-self
overflow_add-self g c =
    let codec = logged_by g.M.Machine.codec in
    let inverse = logged_by_is g.M.Machine.codec g.met.M.Machine.is_codec in
    omega (
      arith,
      count_short codec inverse c.self.inside.count c.self.inside.bytes.items c.self.invariant,
      c.self.inside.bytes.ok.0,
    )

pub invariant_of-self-2 : goal.invariant_of-self-2
invariant_of-self-2 g c =
    let codec = logged_by g.M.Machine.codec in
    let inverse = logged_by_is g.M.Machine.codec g.met.M.Machine.is_codec in
    let pushed : NamedRecord g.row.M.Denot =
    record { moment = c.args.moment; began = c.args.began.now; changes = c.args.changes.now.changes } in
    one_kept codec inverse
    c.self.inside.count c.self.inside.bytes.items c.write_record.new.out.items pushed c.self.invariant c.in_default.ensures

pub returns : goal.returns
returns g c =
    let codec = logged_by g.M.Machine.codec in
    let inverse = logged_by_is g.M.Machine.codec g.met.M.Machine.is_codec in
    let pushed : NamedRecord g.row.M.Denot =
    record { moment = c.args.moment; began = c.args.began.now; changes = c.args.changes.now.changes } in
    one_seen codec inverse
    c.self.inside.count c.self.inside.bytes.items c.write_record.new.out.items pushed c.self.invariant c.in_default.ensures
    ∙ ap (λ rs. rs ++ pushed ∷ []) c.self.view_is
