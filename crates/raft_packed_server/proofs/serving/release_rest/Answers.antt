use Rattle.std.proofs.Common.{ap, sym, ◌∙◌, ◌≡◌, Bool, Option, is_some, not, true, false}
use Rattle.raft_packed_server.proofs.Waiting.{kept_behind_batch, kept_behind_record}
use Rattle.raft_packed_server.proofs.serving.release_rest.Goals as goal
use Rattle.raft_packed_server.proofs.serving.release_rest.Goals.{else-is_none-via-then-is_none+else-is_empty, else-is_none-via-else-is_none}

untrue : (b : Bool) → b ≡ false → b ≡ true → ⊥
untrue b fails holds = cc (sym fails ∙ holds)

some_by : {A : Type 0} (o : Option A) (none : Bool) → is_some o ≡ not none → none ≡ false → is_some o ≡ true
some_by o none is fails = is ∙ ap not fails

pub returns-else-is_none : goal.returns-else-is_none
returns-else-is_none g c =
    let v = c.args.serving.now in
    elim c.else-is_none.branch [
      | else-is_none-via-then-is_none+else-is_empty w ↦
          kept_behind_record v c.new.result (λ none. untrue w.is_empty.result w.if-is_empty.false (w.is_empty.ensures.1 none)) c.new.ensures
      | else-is_none-via-else-is_none w ↦
          kept_behind_batch v c.new.result (some_by v.written c.is_none.result c.is_none.ensures w.if-is_none.false) c.new.ensures
    ]
