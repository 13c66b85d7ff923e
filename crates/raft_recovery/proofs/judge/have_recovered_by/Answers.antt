use Rattle.std.proofs.Common.{ℕ, ◌≡◌, ◌≤◌, ◌+◌, ◌∙◌, ◌↔◌, List, Bool, true, length, subst, sym}
use Rattle.std.specs.List.{AllByRecursion}
use Rattle.std.proofs.lemmas.Result.{IfOk-weaker}
use Rattle.raft_node.specs.Net.{NodeView}
use Rattle.raft_state.specs.Order.{next}
use Rattle.proof_progress.specs.GoesOn.{greatest_term, most_of}
use Rattle.raft_recovery.specs.declared.starting.Found.{Found}
use Rattle.raft_recovery.specs.Recoveries.{HasExecutedAt, Recovers}
use Rattle.raft_recovery.proofs.Electing.{any_listed, listed_any}
use Rattle.raft_recovery.proofs.Judging.{clash, recovered, seen_of, unseen}
use Rattle.raft_recovery.proofs.judge.have_recovered_by.Goals as goal

abbrev AreFew : ℕ → List ℕ → Found → List NodeView → Type 0
AreFew count up f nodes = count ≤ most_of (greatest_term nodes) (length up) (length up) (next f.last + 1 + 1)

pub returns-then-not-contains : goal.returns-then-not-contains
returns-then-not-contains c =
    unseen _ _ _ _ _ _ _ _ c.requires
    (λ s. clash c.contains.result (c.contains.ensures.value ∙ any_listed c.args.up.now c.args.log_id.now.leader_id.node_id s.one)
    c.if-not-contains.true)

pub returns-then-not-are_few : goal.returns-then-not-are_few
returns-then-not-are_few c =
    unseen _ _ _ _ _ _ _ _ c.requires
    (λ s. clash c.are_few.result (c.are_few.ensures.1 (subst (AreFew c.args.count c.args.up.now c.args.found.now) (sym c.nodes.ensures) s.few))
    c.if-not-are_few.true)

pub returns-then-not-is_own : goal.returns-then-not-is_own
returns-then-not-is_own c =
    unseen _ _ _ _ _ _ _ _ c.requires
    (λ s. clash c.in_ok-is_own.is_own (c.in_ok-is_own.ensures.exact s.votes s.new_there s.first) c.if-not-is_own.true)

pub returns-then-not-has_applied : goal.returns-then-not-has_applied
returns-then-not-has_applied c =
    unseen _ _ _ _ _ _ _ _ c.requires (λ s. clash c.in_ok-has_applied.has_applied (c.in_ok-has_applied.ensures.1 s.entry) c.if-not-has_applied.true)

pub returns-then-not-has_executed : goal.returns-then-not-has_executed
returns-then-not-has_executed c =
    unseen _ _ _ _ _ _ _ _ c.requires (λ s. clash c.in_ok-has_executed.has_executed (c.in_ok-has_executed.ensures.1 s.own) c.if-not-has_executed.true)

pub returns : goal.returns
returns c =
    let old = c.args.old.now.history.net in
    let new = c.args.new.now.history.net in
    let id = c.args.log_id.now in
    let up : List ℕ = c.args.up.now in
    let value = c.args.value.now in
    let same = c.deref.ensures.value ∙ c.in_ok-others.ensures in
    IfOk-weaker c.have_executed.result
    (λ (have : Bool). (have ≡ true) ↔ AllByRecursion (HasExecutedAt new id value) c.deref.result.now)
    (λ (have : Bool). (have ≡ true) ↔ Recovers c.args.old.now.given old new up id value c.args.count)
    (λ have each. (
      λ e.
          recovered old new up id value c.args.count c.args.old.now.given c.args.found.now c.requires
          (record {
            one = listed_any up id.leader_id.node_id (sym c.contains.ensures.value ∙ c.if-not-contains.false);
            votes = c.in_ok-is_own.ensures.votes c.if-not-is_own.false;
            new_there = c.in_ok-is_own.ensures.new c.if-not-is_own.false;
            first = c.in_ok-is_own.ensures.first c.if-not-is_own.false;
            few = subst (AreFew c.args.count up c.args.found.now) c.nodes.ensures (c.are_few.ensures.0 c.if-not-are_few.false);
            entry = c.in_ok-has_applied.ensures.0 c.if-not-has_applied.false;
            own = c.in_ok-has_executed.ensures.0 c.if-not-has_executed.false;
            others = subst (AllByRecursion (HasExecutedAt new id value)) same (each.0 e);
          }),
      λ r. each.1
          (subst (AllByRecursion (HasExecutedAt new id value)) (sym same)
          (seen_of old new up id value c.args.count c.args.old.now.given c.args.found.now c.requires r).others),
    ))
    c.have_executed.ensures
