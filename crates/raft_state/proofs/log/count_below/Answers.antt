use Rattle.std.proofs.Common.{rules, ◌∙◌, sym, refl}
use Rattle.raft_state.proofs.Places.{first_below, rest_from, none_below, all_from, no_first}
use Rattle.raft_state.proofs.log.count_below.Goals as goal

pub returns-in-None-clause-below : goal.returns-in-None-clause-below
returns-in-None-clause-below g c = rw (no_first c.args.ids.now.items (sym c.id_at.ensures ∙ c.in-None.is)) refl

pub returns-in-None-clause-from : goal.returns-in-None-clause-from
returns-in-None-clause-from g c = rw (no_first c.args.ids.now.items (sym c.id_at.ensures ∙ c.in-None.is)) refl

pub returns-then-first-index-clause-below : goal.returns-then-first-index-clause-below
returns-then-first-index-clause-below g c =
    first_below c.in-Some.first c.args.ids.now.items c.args.index c.requires (sym c.id_at.ensures ∙ c.in-Some.is) c.min.result (search rules) c.if-first-index.true

pub returns-then-first-index-clause-from : goal.returns-then-first-index-clause-from
returns-then-first-index-clause-from g c =
    rest_from c.in-Some.first c.args.ids.now.items c.args.index c.requires (sym c.id_at.ensures ∙ c.in-Some.is) c.min.result (search rules) c.if-first-index.true

pub returns-else-first-index-clause-below : goal.returns-else-first-index-clause-below
returns-else-first-index-clause-below g c = none_below c.in-Some.first c.args.ids.now.items c.args.index c.requires (sym c.id_at.ensures ∙ c.in-Some.is) c.if-first-index.false

pub returns-else-first-index-clause-from : goal.returns-else-first-index-clause-from
returns-else-first-index-clause-from g c = all_from c.in-Some.first c.args.ids.now.items c.args.index c.requires (sym c.id_at.ensures ∙ c.in-Some.is) c.if-first-index.false
