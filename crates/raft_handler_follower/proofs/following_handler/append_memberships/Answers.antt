use Rattle.std.proofs.Common.{◌≡◌, ◌∙◌, sym, ap, ℕ, ◌+◌, ◌<◌, List, length, get_or, take, fold}
use Rattle.std.proofs.lemmas.List.Sums.{fold_more}
use Rattle.raft_handler_follower.proofs.following_handler.append_memberships.Goals as goal

-- one more is folded in
folded_next : {X A : Type 0} (f : A → X → A) (a before after : A) (xs : List X) (i : ℕ) (x : X) → i < length xs → x ≡ get_or xs i x → before ≡ fold f a (take i xs) → after ≡ f before x → after ≡ fold f a (take (i + 1) xs)
folded_next f a before after xs i x inside is kept step = step ∙ ap (λ b. f b x) kept ∙ ap (f (fold f a (take i xs))) is ∙ sym (fold_more f a xs i x inside)

pub loop-entry-preserved : goal.loop-entry-preserved
loop-entry-preserved g c =
    let step = c.in_ok-append_membership_of.ensures in
    let kept = c.loop-entry.invariant in
    (step.vote ∙ kept.0, step.ids ∙ kept.1, folded_next _ _ _ _ c.args.entries.now c.loop-entry.entry-index c.entry-item.result c.loop-entry-test.true c.entry-item.is kept.2 step.step)
