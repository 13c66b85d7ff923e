use Rattle.std.proofs.Common.{◌∙◌}
use Rattle.raft_wire.proofs.Memberships.{membership_written}
use Rattle.raft_wire.proofs.state.MembershipU64UnitWire.write.Goals as goal

pub returns : goal.returns
returns c =
    membership_written c.args.self.now c.groups.result.now c.as_slice.result.now c.args.out.now.items c.write_items.new.out.items c.write_items-2.new.out.items c.write_items-2.result
    c.groups.ensures.sound c.groups.ensures.groups (c.as_slice.ensures.value ∙ c.in_ok-learner_ids.ensures.ids) c.in_ok-write_items.ensures c.write_items-2.ensures
