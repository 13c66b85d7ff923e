use Rattle.std.proofs.Common.{◌∙◌, ap, sym}
use Rattle.std.specs.Map.{values_of}
use Rattle.raft_store.proofs.Numbered.{values-numbered}
use Rattle.raft_store.proofs.ring.Ring.values.Goals as goal

pub returns : goal.returns
returns c = c.iter.ensures.rest ∙ (sym (values-numbered c.self.inside.first c.self.inside.items.items) ∙ ap values_of c.self.view_is)
