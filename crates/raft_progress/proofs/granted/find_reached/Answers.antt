use Rattle.std.proofs.Common.{◌≡◌, ◌∙◌, sym, ap, set, rules, ℕ, ◌+◌, ◌<◌, Bool, List, [], ◌∷◌, ◌++◌, Some, cond, length, map, take, drop, get_or, arith}
use Rattle.std.proofs.lemmas.List.{length-set, take_more_set, map_more, drop_more, drop_all}
use Rattle.raft_progress.specs.Ranking.{first_reached}
use Rattle.raft_progress.proofs.granted.find_reached.Goals as goal

module _ {ID P Q : Type 0} (is_quorum : Q → List ID → Bool) (quorum_set : Q) (ranked : List (ID × P)) (i : ℕ) (voter : ID × P) (inside : i < length ranked) where
  abbrev ids : ℕ → List ID
  ids n = map (λ voter. voter.0) (take n ranked)

  -- what is found goes by what the set answers for one voter more
  found : first_reached is_quorum quorum_set (ids i) (drop i ranked) ≡ cond (is_quorum quorum_set (ids (i + 1))) (Some (get_or ranked i voter).1) (first_reached is_quorum quorum_set (ids (i + 1)) (drop (i + 1) ranked))
  found =
      ap (first_reached is_quorum quorum_set (ids i)) (drop_more ranked i voter inside)
      ∙ ap (λ next. cond (is_quorum quorum_set next) (Some (get_or ranked i voter).1) (first_reached is_quorum quorum_set next (drop (i + 1) ranked))) (sym (map_more (λ (voter : ID × P). voter.0) ranked i voter inside))

-- the ids in the room, one more of which is written
module _ {ID P : Type 0} (room : List ID) (ranked : List (ID × P)) (i : ℕ) (voter : ID × P) (inside : i < length ranked) (fits : i < length room) where
  written : take i room ≡ map (λ voter. voter.0) (take i ranked) → take (i + 1) (set room i (get_or ranked i voter).0) ≡ map (λ voter. voter.0) (take (i + 1) ranked)
  written was = take_more_set room i (get_or ranked i voter).0 fits ∙ ap (λ ids. ids ++ (get_or ranked i voter).0 ∷ []) was ∙ sym (map_more (λ (voter : ID × P). voter.0) ranked i voter inside)

pub loop-i-preserved : goal.loop-i-preserved
loop-i-preserved g c =
    let l = c.loop-i in let voter = c.index-ranked-i.result in let inside = c.loop-i-test.true in
    let more = written l.room c.args.ranked.now l.i voter inside (omega (arith, inside, l.invariant.room)) l.invariant.written in record {
      room = rw (length-set l.room l.i (get_or c.args.ranked.now l.i voter).0) l.invariant.room;
      written = more;
      asked = l.invariant.asked ∙ found g.QS.QuorumSet.has_quorum c.args.set.now c.args.ranked.now l.i voter inside ∙ rw (← more) (search rules);
    }

pub returns : goal.returns
returns g c =
    let l = c.loop-i in let ids = map (λ (voter : g.row.ID.Denot × g.row.P.Denot). voter.0) (take l.i c.args.ranked.now) in
    sym (l.invariant.asked ∙ ap (first_reached g.QS.QuorumSet.has_quorum c.args.set.now ids) (drop_all l.i c.args.ranked.now c.loop-i-test.false))

pub bounds-room-i : goal.bounds-room-i
bounds-room-i g c = omega (arith, c.loop-i-test.true, c.loop-i.invariant.room)
