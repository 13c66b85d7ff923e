use Rattle.std.proofs.Common.{ap, arith, length, sym, ◌+◌, ◌++◌, ◌≡◌, ◌∙◌}
use Rattle.std.specs.Option.{option_to_list}
use Rattle.raft_packed_wire.specs.Records.{packed_change, packed_change_of}
use Rattle.raft_packed_wire.specs.Values.{kept}
use Rattle.raft_packed_wire.proofs.RecordLaws.{packed_change_is}
use Rattle.raft_packed_wire.proofs.ValueLaws.{kept_is}
use Rattle.raft_packed_server.proofs.Kept.{count_short, more_kept, more_seen, none_kept}
use Rattle.raft_packed_server.specs.Views.{ChangesView}
use Rattle.raft_packed_server.proofs.Coded.{change_there}
use Rattle.raft_packed_server.proofs.changes.ChangesWatch.see.Goals as goal

pub invariant_of-self : goal.invariant_of-self
invariant_of-self g c =
    let codec = packed_change (kept g.M.Machine.codec) in
    let inverse = packed_change_is (kept g.M.Machine.codec) (kept_is g.M.Machine.codec g.met.M.Machine.is_codec) in
    none_kept codec inverse c.clear.new.self.items c.clear.ensures.items

pub overflow_add-self : goal.overflow_add-self
overflow_add-self g c =
    let codec = packed_change (kept g.M.Machine.codec) in
    let inverse = packed_change_is (kept g.M.Machine.codec) (kept_is g.M.Machine.codec g.met.M.Machine.is_codec) in
    omega (
      arith,
      count_short codec inverse
          c.self.inside.count c.self.inside.bytes.items c.self.invariant,
      c.self.inside.bytes.ok.0,
    )

pub invariant_of-self-then-is_change : goal.invariant_of-self-then-is_change
invariant_of-self-then-is_change g c =
    let codec = packed_change (kept g.M.Machine.codec) in
    let inverse = packed_change_is (kept g.M.Machine.codec) (kept_is g.M.Machine.codec g.met.M.Machine.is_codec) in
    let n = c.self.inside.count in
    let brought = c.self.inside.brought in
    let ys = option_to_list (packed_change_of brought c.args.command.now) in
    let one : length ys ≡ 1 = change_there brought c.args.command.now (sym c.is_change.ensures ∙ c.if-is_change.true) in
    more_kept codec inverse
    n (n + 1) c.self.inside.bytes.items c.write_change.new.out.items ys c.self.invariant (ap (λ k. n + k) (sym one)) c.in_default.ensures

pub returns-then-is_change : goal.returns-then-is_change
returns-then-is_change g c =
    let codec = packed_change (kept g.M.Machine.codec) in
    let inverse = packed_change_is (kept g.M.Machine.codec) (kept_is g.M.Machine.codec g.met.M.Machine.is_codec) in
    let n = c.self.inside.count in
    let brought = c.self.inside.brought in
    let ys = option_to_list (packed_change_of brought c.args.command.now) in
    let one : length ys ≡ 1 = change_there brought c.args.command.now (sym c.is_change.ensures ∙ c.if-is_change.true) in
    ap (λ xs. record { brought = brought; changes = xs })
    (more_seen codec inverse
    n (n + 1) c.self.inside.bytes.items c.write_change.new.out.items ys c.self.invariant (ap (λ k. n + k) (sym one)) c.in_default.ensures)
    ∙ ap (λ (v : ChangesView g.row.M.Denot). record v { changes = v.changes ++ option_to_list (packed_change_of v.brought c.args.command.now) })
    c.self.view_is
