use Rattle.std.proofs.Common.{◌≡◌, ◌∷◌, [], sym, ◌∙◌, arith}
use Rattle.std.proofs.lemmas.List.{nil_from_length}
use Rattle.raft_patterns.proofs.Matching.{no_key, begun_none, begun, run_none, run_some, ended}
use Rattle.raft_patterns.proofs.patterns.matches.Goals as goal

pub returns-then-is_empty : goal.returns-then-is_empty
returns-then-is_empty c = c.is_empty-then-is_empty.ensures ∙ sym (no_key c.args.pattern.now c.args.key.now (sym c.if-is_empty.ensures))

pub returns-in_default : goal.returns-in_default
returns-in_default c = sym (begun_none c.args.pattern.now c.args.key.now (sym c.if-is_empty.ensures) (sym c.in_default.ensures.stripped))

pub loop-behind-init : goal.loop-behind-init
loop-behind-init c = record {
  same = sym (begun c.args.pattern.now c.args.key.now (c.in-Some.rest.now, c.in-Some.left.now) (sym c.if-is_empty.ensures) (sym c.in-Some.ensures.stripped));
  stops = c.in-Some.ensures.stops;
}

pub returns-in_default-find : goal.returns-in_default-find
returns-in_default-find c =
    let front : c.loop-behind.rest.now ≡ c.in-Some-split_first.field-0-0.now ∷ c.in-Some-split_first.behind.now = grind arith in
    sym (run_none _ _ _ c.loop-behind.left.now front c.loop-behind.invariant.stops (sym c.in_default-find.ensures.found)) ∙ c.loop-behind.invariant.same

pub loop-behind-preserved : goal.loop-behind-preserved
loop-behind-preserved c =
    let front : c.loop-behind.rest.now ≡ c.in-Some-split_first.field-0-0.now ∷ c.in-Some-split_first.behind.now = grind arith in
    let found = c.in-Some-find.found in
    record {
      same = sym (run_some _ _ _ c.loop-behind.left.now (found.0.now, found.1.now) front c.loop-behind.invariant.stops (sym c.in-Some-find.ensures.found)) ∙ c.loop-behind.invariant.same;
      stops = c.in-Some-find.ensures.stops;
    }

pub returns : goal.returns
returns c =
    let nil : c.loop-behind.rest.now ≡ [] = nil_from_length _ (omega (arith, c.in_default-split_first.ensures.cases)) in
    c.is_empty-2.ensures ∙ sym (ended c.loop-behind.rest.now c.loop-behind.left.now nil) ∙ c.loop-behind.invariant.same
