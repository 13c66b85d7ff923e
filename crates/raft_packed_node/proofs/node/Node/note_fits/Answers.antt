use Rattle.std.proofs.Common.{Some, ap, sym, ◌≡◌, ◌∙◌}
use Rattle.std.specs.Option.{option_copied, option_map}
use Rattle.raft_calls.specs.Engines.{view_of}
use Rattle.raft_packed.specs.Kept.{summary_of}
use Rattle.raft_packed_node.proofs.Noted.{note_fits, summary_fits}
use Rattle.raft_packed_node.proofs.node.Node.note_fits.Goals as goal

pub returns-in-Some-Some-clause-fits : goal.returns-in-Some-Some-clause-fits
returns-in-Some-Some-clause-fits g c =
    let n = c.args.self.now in
    let runs : n.engine ≡ Some (view_of c.in-Some-Some.engine.now) =
    sym c.engine.ensures ∙ ap (λ o. option_map view_of (option_copied o)) c.in-Some-Some.is-0 in
    let kept : option_map summary_of n.noted ≡ Some c.in-Some-Some.noted.now = sym c.noted.ensures ∙ ap option_copied c.in-Some-Some.is-1 in
    λ h. note_fits (view_of c.in-Some-Some.engine.now) n.engine n.noted c.in-Some-Some.noted.now runs kept (c.note_fits.ensures.fits h)

pub returns-in-Some-Some-clause-all : goal.returns-in-Some-Some-clause-all
returns-in-Some-Some-clause-all g c =
    let n = c.args.self.now in
    let runs : n.engine ≡ Some (view_of c.in-Some-Some.engine.now) =
    sym c.engine.ensures ∙ ap (λ o. option_map view_of (option_copied o)) c.in-Some-Some.is-0 in
    let kept : option_map summary_of n.noted ≡ Some c.in-Some-Some.noted.now = sym c.noted.ensures ∙ ap option_copied c.in-Some-Some.is-1 in
    λ h. c.note_fits.ensures.all (summary_fits (view_of c.in-Some-Some.engine.now) n.engine n.noted c.in-Some-Some.noted.now h runs kept)
