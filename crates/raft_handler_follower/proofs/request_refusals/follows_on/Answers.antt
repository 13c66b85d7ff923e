use Rattle.std.proofs.Common.{◌≡◌, ◌∙◌, sym, ap, refl, ℕ, ◌+◌, ◌<◌, true, false, ◌&&◌, ◌==◌, Bool, List, ◌∷◌, length, get_or, drop, map}
use Rattle.std.proofs.lemmas.List.{at_drop_more, at_drop_all}
use Rattle.std.specs.Prelude.{Option, Some}
use Rattle.std.specs.Ordering.{is_lt}
use Rattle.std.specs.declared.cmp.Ordering.{Ordering}
use Rattle.raft_state.specs.declared.ids.LogId.{LogId}
use Rattle.raft_state.specs.Consecutive.{follows_on}
use Rattle.raft_state.specs.Order.{last_id_cmp, next}
use Rattle.raft_handler_follower.proofs.request_refusals.follows_on.Goals as goal

-- one id after another
follow_rest : {X NID : Type 0} (cmp : NID → NID → Ordering) (name : X → LogId NID) (before : Option (LogId NID)) (xs : List X) (i : ℕ) (x : X) (id : LogId NID) (b : Bool)
    → i < length xs → x ≡ get_or xs i x → id ≡ name x → b ≡ ((id.index == next before) && is_lt (last_id_cmp cmp before (Some id)))
    → follows_on cmp before (map name (drop i xs)) ≡ (b && follows_on cmp (Some id) (map name (drop (i + 1) xs)))
follow_rest cmp name before xs i x id b inside is named test =
    let rest = map name (drop (i + 1) xs) in
    at_drop_more (λ l. follows_on cmp before (map name l)) xs i x inside
    ∙ ap (λ y. follows_on cmp before (y ∷ rest)) (ap name (sym is) ∙ sym named)
    ∙ (both (id.index == next before) (is_lt (last_id_cmp cmp before (Some id))) (follows_on cmp (Some id) rest) ∙ ap (λ c. c && follows_on cmp (Some id) rest) (sym test)) where
      both : (a b c : Bool) → (a && b && c) ≡ ((a && b) && c)
      both true b c = refl
      both false b c = refl

pub loop-entry-preserved : goal.loop-entry-preserved
loop-entry-preserved g c =
    c.loop-entry.invariant
    ∙ follow_rest g.C.NodeId.Ord.cmp g.C.Entry.RaftEntry.id_of c.loop-entry.before c.args.entries.now c.loop-entry.entry-index c.entry-item.result c.get_log_id.result.now true
    c.loop-entry-test.true c.entry-item.is c.get_log_id.ensures (sym c.if-not-follows.false ∙ c.follows.ensures)

pub returns-then-not-follows : goal.returns-then-not-follows
returns-then-not-follows g c =
    sym (c.loop-entry.invariant
    ∙ follow_rest g.C.NodeId.Ord.cmp g.C.Entry.RaftEntry.id_of c.loop-entry.before c.args.entries.now c.loop-entry.entry-index c.entry-item.result c.get_log_id.result.now false
    c.loop-entry-test.true c.entry-item.is c.get_log_id.ensures (sym c.if-not-follows.true ∙ c.follows.ensures))

pub returns : goal.returns
returns g c =
    sym (c.loop-entry.invariant
    ∙ at_drop_all (λ l. follows_on g.C.NodeId.Ord.cmp c.loop-entry.before (map g.C.Entry.RaftEntry.id_of l)) c.args.entries.now c.loop-entry.entry-index c.loop-entry-test.false)
