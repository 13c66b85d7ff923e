use Rattle.std.proofs.Common.{◌≡◌, ◌∙◌, refl, subst}
use Rattle.std.proofs.Output.{displays_on_IsOk_append, then_text_assoc}
use Rattle.std.specs.Prelude.{codes, Ok, Some}
use Rattle.std.specs.Fmt.{◌++?◌}
use Rattle.std.specs.Slice.Iter.{iter_rest}
use Rattle.raft_proposer.specs.Texts.{grant_text, grants_text, more_grants_text}
use Rattle.raft_proposer.proofs.candidate.GrantsDisplay.fmt.Goals as goal

pub loop-row-init : goal.loop-row-init
loop-row-init g c = (
  grant_text g.NID.Display.output c.in-Some.first.now,
  c.in_ok-write_grant.ensures,
  rw (c.into_iter-row-iterator.ensures.into_iter_gives, ← c.iter-rows.ensures, c.in-Some.ensures.steps) refl,
)

pub loop-row-preserved : goal.loop-row-preserved
loop-row-preserved g c =
    let text = g.NID.Display.output in
    let so_far = c.loop-row.invariant in
    let row = grant_text text c.in-Some-row.row.now in
    let comma = Some (codes ", ") in (
      so_far.0 ++? (comma ++? row),
      displays_on_IsOk_append g.W.Write.write_str_gives _ _ _ (Ok tt) (Ok tt) so_far.0 (comma ++? row) (λ ok. ok) so_far.1
          (displays_on_IsOk_append g.W.Write.write_str_gives _ _ _ (Ok tt) (Ok tt) comma row (λ ok. ok) c.in_ok-write_str.ensures.writes c.in_ok-write_grant-2.ensures),
      then_text_assoc so_far.0 (comma ++? row) (more_grants_text text (iter_rest c.next-in-loop-row.new.self.inner))
          ∙ subst (λ rows. so_far.0 ++? more_grants_text text rows ≡ grants_text text c.args.self.now.0.now.rows) c.in-Some-row.ensures.steps so_far.2,
    )
