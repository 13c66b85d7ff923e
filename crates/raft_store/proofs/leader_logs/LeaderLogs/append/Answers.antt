use Rattle.std.proofs.Common.{rules, ◌≡◌, ◌∙◌, ◌++◌, [], OnOk, OnErr, None, Some, List, sym, ap, subst}
use Rattle.std.specs.Prelude.{IsSome, unwrap_or}
use Rattle.std.specs.Map.{lookup}
use Rattle.std.specs.Option.{option_copied_mut}
use Rattle.raft_store.specs.declared.entry.Entry.{Entry}
use Rattle.raft_store.specs.LeaderLogs.{Adds, is_leader}
use Rattle.raft_store.proofs.Logged.{adds_by, adds_err, adds_ok}
use Rattle.raft_store.proofs.leader_logs.LeaderLogs.append.Goals as goal

pub returns-in-Some-clause-ok : goal.returns-in-Some-clause-ok
returns-in-Some-clause-ok c =
    let found : lookup (is_leader c.args.leader_id) c.self.inside.map.entries ≡ Some c.log.inside.entries.items =
    sym c.get_mut.ensures.value ∙ (ap option_copied_mut c.in-Some.is ∙ ap Some (sym c.log.view_is)) in
    let there : IsSome (lookup (is_leader c.args.leader_id) c.self.inside.map.entries) = subst IsSome (sym found) (search rules) in
    subst (λ old. OnOk c.append.result (Adds c.args.leader_id c.args.more.items old (c.get_mut.follows.lender c.append.new.self.items).entries)) c.self.view_is
    (adds_ok c.args.leader_id c.args.more.items c.self.inside.map.entries (c.get_mut.follows.lender c.append.new.self.items).entries c.log.inside.entries.items c.append.new.self.items found
    ((c.get_mut.follows.holds c.append.new.self.items).3 there).0 c.append.result c.append.ensures.items)

pub returns-in-Some-clause-err : goal.returns-in-Some-clause-err
returns-in-Some-clause-err c =
    let found : lookup (is_leader c.args.leader_id) c.self.inside.map.entries ≡ Some c.log.inside.entries.items =
    sym c.get_mut.ensures.value ∙ (ap option_copied_mut c.in-Some.is ∙ ap Some (sym c.log.view_is)) in
    let there : IsSome (lookup (is_leader c.args.leader_id) c.self.inside.map.entries) = subst IsSome (sym found) (search rules) in
    subst (λ old. OnErr c.append.result (Adds c.args.leader_id [] old (c.get_mut.follows.lender c.append.new.self.items).entries)) c.self.view_is
    (adds_err c.args.leader_id c.args.more.items c.self.inside.map.entries (c.get_mut.follows.lender c.append.new.self.items).entries c.log.inside.entries.items c.append.new.self.items found
    ((c.get_mut.follows.holds c.append.new.self.items).3 there).0 c.append.result c.append.ensures.items)

pub returns-in_ok-insert-in-None-clause-ok : goal.returns-in_ok-insert-in-None-clause-ok
returns-in_ok-insert-in-None-clause-ok c =
    let none : lookup (is_leader c.args.leader_id) c.self.inside.map.entries ≡ None =
    sym c.get_mut.ensures.value ∙ ap option_copied_mut c.in-None.is in
    let still : lookup (is_leader c.args.leader_id) c.get_mut.follows.lender-at-none.entries ≡ None =
    subst (λ m. lookup (is_leader c.args.leader_id) m.entries ≡ None) (sym c.get_mut.follows.holds-at-none) none in
    subst (λ old. Adds c.args.leader_id c.args.more.items old c.insert.new.self.entries) c.self.view_is
    (subst (λ m. Adds c.args.leader_id c.args.more.items m.entries c.insert.new.self.entries) c.get_mut.follows.holds-at-none
    (adds_by c.args.leader_id c.args.more.items c.get_mut.follows.lender-at-none.entries c.insert.new.self.entries c.args.more.items
    (sym (ap (λ (es : List Entry). es ++ c.args.more.items) (ap (λ o. unwrap_or o []) still)))
    c.in_ok-insert-in-None.ensures.updates.0))
