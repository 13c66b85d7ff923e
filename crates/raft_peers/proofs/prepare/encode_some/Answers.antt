use Rattle.std.proofs.Common.{List, ◌≡◌, ◌++◌, ◌∷◌, [], ◌∙◌, ap, sym}
use Rattle.std.specs.Prelude.{Option}
use Rattle.std.specs.Option.{option_to_list}
use Rattle.raft_packed_server.specs.proof_packed.Nodes.{PackedMessage}
use Rattle.raft_peers.proofs.prepare.encode_some.Goals as goal

pub returns : goal.returns
returns g c =
    let mid = c.pop.new.self.items in
    let was = c.pop.ensures.items ∙ ap (λ (r : Option (PackedMessage g.row.M.Denot)). mid ++ option_to_list r) c.in-Some.is in
    c.in_ok-push.ensures.items ∙ (ap (λ (m : PackedMessage g.row.M.Denot). mid ++ m ∷ []) c.in_ok-one.ensures ∙ sym was)
