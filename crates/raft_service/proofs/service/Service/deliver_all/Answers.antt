use Rattle.std.proofs.Common.{ℕ, List, refl, subst}
use Rattle.raft_service.specs.Delivering.{DeliversAll}
use Rattle.raft_service.specs.Serving.{ServesAll}
use Rattle.raft_service.specs.declared.output.Output.{Output}
use Rattle.raft_service.proofs.service.Service.deliver_all.Goals as goal

pub returns : goal.returns
returns c = record {
  middle = c.deliver_each.new.self;
  so_far = c.deliver_each.new.outputs.items;
  delivers = subst (λ (before : List Output). DeliversAll c.args.done.items c.args.self.now before c.deliver_each.new.self c.deliver_each.new.outputs.items)
      c.new-outputs.ensures.items c.in_ok-deliver_each.ensures;
  finishes = record {
    answered = c.deliver_each.new.answered.items;
    serves = subst (λ (reached : ℕ). ServesAll c.deliver_each.new.answered.items c.deliver_each.new.self.clients (record c.deliver_each.new.self.intake { reached = reached })
        c.deliver_each.new.outputs.items c.serve_all.new.clients c.serve_all.new.intake c.serve_all.new.outputs.items) c.moment-self.ensures c.in_ok-serve_all.ensures;
    rest = refl;
  };
}
