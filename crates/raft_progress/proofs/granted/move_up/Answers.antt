use Rattle.std.proofs.Common.{◌≡◌, ℕ, ◌+◌, ◌<◌, ◌-◌, Bool, List, length, get_or, sym, ◌∙◌, arith}
use Rattle.std.specs.declared.cmp.Ordering.{Ordering}
use Rattle.std.specs.Ordering.{is_lt}
use Rattle.std.specs.Cmp.{IsStrictWeakOrder}
use Rattle.std.proofs.lemmas.List.{get_or_default}
use Rattle.std.proofs.lemmas.List.Sorted.{IsPermutation-trans, ranks_by, IsStrictWeakOrder-flip}
use Rattle.raft_progress.proofs.Insertions.{settling_swapped, settled}
use Rattle.raft_progress.proofs.granted.move_up.Goals as goal

-- what the test says of the voters at two places, of which the later has the value
compared : {ID P : Type 0} (cmp : P → P → Ordering) (xs : List (ID × P)) (before at : ℕ) (voter : ID × P) (value : P) (order : Ordering) (answer : Bool) → before < length xs
    → ((d : ID × P) → (get_or xs at d).1 ≡ value) → order ≡ cmp (get_or xs before voter).1 value → is_lt order ≡ answer → (d : ID × P) → is_lt (cmp (get_or xs before d).1 (get_or xs at d).1) ≡ answer
compared cmp xs before at voter value order answer inside moves o a d =
    let e = get_or_default xs before d voter inside in
    rw (e, moves d, ← o) a

pub loop-at-preserved : goal.loop-at-preserved
loop-at-preserved g c =
    let l = c.loop-at in
    let s = c.swap.ensures in
    let before = l.at - 1 in
    let next : before + 1 ≡ l.at = omega arith in
    let order : IsStrictWeakOrder (λ (later earlier : g.row.ID.Denot × g.row.P.Denot). is_lt (g.P.Ord.cmp earlier.1 later.1)) = IsStrictWeakOrder-flip _ (ranks_by g.met.P.Ord.total (λ voter. voter.1)) in
    let risen = compared g.P.Ord.cmp l.voters before l.at c.index-voters-at.result _ c.cmp.result _ (omega arith) l.invariant.moves c.cmp.ensures (sym c.is_lt.ensures ∙ c.if-is_lt.true) in
    record {
      inside = omega arith;
      moves = λ d. rw (s.by_index.0 d) (l.invariant.moves d);
      same = IsPermutation-trans _ _ _ l.invariant.same s.permutation;
      settling = settling_swapped (λ (later earlier : g.row.ID.Denot × g.row.P.Denot). is_lt (g.P.Ord.cmp earlier.1 later.1)) order.one_way before l.at (c.args.from + 1) l.voters c.swap.new.self next l.invariant.settling s.by_index risen;
    }

pub returns-else-is_lt-clause-falling : goal.returns-else-is_lt-clause-falling
returns-else-is_lt-clause-falling g c =
    let l = c.loop-at in
    settled (λ (later earlier : g.row.ID.Denot × g.row.P.Denot). is_lt (g.P.Ord.cmp earlier.1 later.1)) l.at (c.args.from + 1) l.voters l.invariant.settling (λ k d e.
    let k_is : l.at - 1 ≡ k = omega (arith, e) in
    let place : l.at - 1 < length l.voters = omega arith in
    rw (← k_is) (compared g.P.Ord.cmp l.voters (l.at - 1) l.at c.index-voters-at.result _ c.cmp.result _ place l.invariant.moves c.cmp.ensures (sym c.is_lt.ensures ∙ c.if-is_lt.false) d))

pub returns-after-loop-at-clause-same : goal.returns-after-loop-at-clause-same
returns-after-loop-at-clause-same g c = c.loop-at.invariant.same

pub returns-after-loop-at-clause-falling : goal.returns-after-loop-at-clause-falling
returns-after-loop-at-clause-falling g c =
    let l = c.loop-at in
    settled (λ (later earlier : g.row.ID.Denot × g.row.P.Denot). is_lt (g.P.Ord.cmp earlier.1 later.1)) l.at (c.args.from + 1) l.voters l.invariant.settling (λ k d e. absurd (omega (arith, e, c.loop-at-test.false)))
