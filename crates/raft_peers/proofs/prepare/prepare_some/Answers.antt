use Rattle.std.proofs.Common.{List, ◌≡◌, ◌++◌, ◌∷◌, [], ◌∙◌, ap, sym}
use Rattle.std.specs.Prelude.{Option}
use Rattle.std.specs.Option.{option_to_list}
use Rattle.raft_packed_server.specs.proof_packed.Nodes.{PackedMessage}
use Rattle.raft_peers.proofs.Preparing.{begins, goes_on, popped}
use Rattle.raft_peers.proofs.prepare.prepare_some.Goals as goal

pub returns-in_default : goal.returns-in_default
returns-in_default g c =
    popped g.M.Machine.application g.M.Machine.codec c.args.start c.args.preparing.now.items c.pop.new.self.items c.pop.result
    c.args.outgoing.now.items c.args.outputs.now.items c.pop.ensures.items

pub returns-in-Ok : goal.returns-in-Ok
returns-in-Ok g c =
    let mid = c.pop.new.self.items in
    let was = c.pop.ensures.items ∙ ap (λ (r : Option (PackedMessage g.row.M.Denot)). mid ++ option_to_list r) c.in-Some.is in
    let next = c.in_ok-next.next in
    let there = was ∙ ap (λ (m : PackedMessage g.row.M.Denot). mid ++ m ∷ []) (sym c.in_ok-next.ensures) in
    let found = c.in-Ok.ensures.ok in
    begins g.M.Machine.application g.M.Machine.codec c.args.start c.begin.result c.args.preparing.now.items mid next c.in-Ok.one
    c.args.outgoing.now.items c.begin.new.outgoing.items c.args.outputs.now.items c.begin.new.outputs.items there found.0 found.1 found.2
    c.begin.ensures.outgoing c.begin.ensures.outputs

pub returns-in_ok-push-in-Err : goal.returns-in_ok-push-in-Err
returns-in_ok-push-in-Err g c =
    let mid = c.pop.new.self.items in
    let was = c.pop.ensures.items ∙ ap (λ (r : Option (PackedMessage g.row.M.Denot)). mid ++ option_to_list r) c.in-Some.is in
    let same = c.in-Err.ensures.err ∙ c.in_ok-next.ensures in
    goes_on g.M.Machine.application g.M.Machine.codec c.args.start c.args.preparing.now.items mid c.push.new.self.items c.in-Some.one
    c.args.outgoing.now.items c.args.outputs.now.items was
    (c.in_ok-push-in-Err.ensures.items ∙ ap (λ (m : PackedMessage g.row.M.Denot). mid ++ m ∷ []) same)
