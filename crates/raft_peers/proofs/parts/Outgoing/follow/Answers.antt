use Rattle.std.proofs.Common.{◌≡◌, ◌∙◌, ap}
use Rattle.raft_chunks.specs.declared.cursor.Cursor.{Cursor}
use Rattle.raft_chunks.specs.declared.cursor.Title.{Title}
use Rattle.raft_peers.specs.Parts.{Outgoing}
use Rattle.raft_peers.proofs.Parting.{followed_title, still_titled}
use Rattle.raft_peers.proofs.parts.Outgoing.follow.Goals as goal

pub invariant_of-self : goal.invariant_of-self
invariant_of-self c =
    let same = ap (λ (a : Cursor). a.title) c.follow.ensures ∙ followed_title c.self.inside.at c.args.answer.now in
    still_titled c.self.inside.at c.follow.new.self c.self.inside.bytes.items same c.self.invariant

pub returns : goal.returns
returns c =
    let same = ap (λ (a : Cursor). a.title) c.follow.ensures ∙ followed_title c.self.inside.at c.args.answer.now in
    ap (λ (t : Title). let o : Outgoing = record { message = c.self.inside.message; number = t.number; bytes = c.self.inside.bytes.items } in o) same
    ∙ c.self.view_is
