use Rattle.std.proofs.Common.{◌∙◌, sym, refl}
use Rattle.raft_state.proofs.Places.{at_before, at_place, no_first}
use Rattle.raft_state.proofs.log.id_by_place.Goals as goal

pub returns-in-None : goal.returns-in-None
returns-in-None g c = rw (no_first c.args.ids.now.items (sym c.id_at.ensures ∙ c.in-None.is)) refl

pub returns-then-first-index : goal.returns-then-first-index
returns-then-first-index g c =
    c.id_at-then-first-index.ensures ∙ at_place c.in-Some.first c.args.ids.now.items c.args.index c.requires (sym c.id_at.ensures ∙ c.in-Some.is) c.if-first-index.true

pub returns-else-first-index : goal.returns-else-first-index
returns-else-first-index g c = at_before c.in-Some.first c.args.ids.now.items c.args.index c.requires (sym c.id_at.ensures ∙ c.in-Some.is) c.if-first-index.false
