use Rattle.std.proofs.Common.{rules, arith, ◌≡◌, ◌≤◌, ◌<◌, ◌∷◌, ◌∙◌, [], length}
use Rattle.raft_machine.specs.Bytes.{session}
use Rattle.raft_machine.proofs.Pieces.{all_out, drop_next, session_before, session_more, sessions_all}
use Rattle.raft_machine.proofs.sessions.write_upto.Goals as goal
use Rattle.raft_machine.proofs.sessions.write_upto.Goals.{then-next-count+else-len-limit+in_ok-write_session, else-next-count}

pub loop-client-preserved : goal.loop-client-preserved
loop-client-preserved c =
    let step : c.loop-client.client-iterator ≡ (c.in-Some.client.now, c.in-Some.answered.now) ∷ c.next.new.self = search rules in
    record {
      place = drop_next c.loop-client.next c.args.cache.now.entries _ _ _ c.loop-client.invariant.place step;
      written = elim c.if-next-count.branch [
        | then-next-count+else-len-limit+in_ok-write_session w ↦
            let le : c.args.count ≤ c.loop-client.next = omega (arith, w.if-next-count.true) in
            rw w.out-is
            (session_more session c.loop-client.next c.args.count c.args.cache.now.entries _ _ _ _ _ _ le c.loop-client.invariant.place step c.loop-client.invariant.written
            w.in_ok-write_session.ensures)
        | else-next-count w ↦
            let lt : c.loop-client.next < c.args.count = omega (arith, w.if-next-count.false) in
            rw w.out-is (session_before session c.loop-client.next c.args.count c.args.cache.now.entries _ _ lt c.loop-client.invariant.written)
      ];
    }

pub returns-clause-next : goal.returns-clause-next
returns-clause-next c =
    let none : c.loop-client.client-iterator ≡ [] = search rules in
    sessions_all session c.loop-client.next c.args.count c.args.cache.now.entries _ _ _ c.loop-client.invariant.place none c.loop-client.invariant.written

pub returns-clause-full : goal.returns-clause-full
returns-clause-full c = λ left.
    let none : c.loop-client.client-iterator ≡ [] = search rules in
    let all : length c.args.cache.now.entries ≤ c.loop-client.next = all_out c.loop-client.next c.args.cache.now.entries (c.loop-client.invariant.place ∙ none) in
    omega (arith, left, all)
