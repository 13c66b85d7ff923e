use Rattle.std.proofs.Common.{◌≡◌, ap, subst, ◌∙◌, rules}
use Rattle.std.specs.Prelude.{IfOk}
use Rattle.std.specs.FinMap as map
use Rattle.raft_machine.specs.declared.command.Page.{Page}
use Rattle.raft_machine.specs.Scans.{scan}
use Rattle.raft_machine.proofs.Scanning.{walk_scan}
use Rattle.raft_machine.proofs.table.Table.scan.Goals as goal

pub returns : goal.returns
returns c =
    let options = c.args.options.now in
    subst (λ (y : Page). IfOk c.page.result (λ p. p ≡ y))
    (walk_scan options c.from_vec-first.result c.self.inside.entries.entries c.range.result (search rules) (c.from_vec-first.ensures ∙ c.in_ok-first_at.ensures) c.range.ensures.ordered (c.range.ensures.between tt)
    ∙ ap (λ m. scan (map.keys m) options) c.self.view_is)
    c.page.ensures
