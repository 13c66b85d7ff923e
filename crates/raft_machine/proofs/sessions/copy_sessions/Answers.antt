use Rattle.std.proofs.Common.{ℕ, ◌≡◌, ◌≤◌, List, ◌++◌, length, refl, sym, ap, subst, ◌∙◌}
use Rattle.std.specs.Prelude.{IsSome, Option, unwrap_or}
use Rattle.lru.specs.LruCache.{LruCache}
use Rattle.raft_machine.specs.declared.machine.Answered.{Answered}
use Rattle.raft_machine.proofs.Recalled.{made_again}
use Rattle.raft_machine.proofs.sessions.copy_sessions.Goals as goal

abbrev Sessions : Type 0
Sessions = List (ℕ × Answered)

pub unwrap-requires : goal.unwrap-requires
unwrap-requires c =
    let all = c.in_ok-copy_each.ensures ∙ ap (λ (before : Sessions). before ++ c.args.cache.now.entries) c.in_ok-entries.ensures.items in
    subst IsSome (sym (made_again c.args.cache.now _ _ _ all c.cap.ensures c.len.ensures.valid c.in_ok-copied.ensures)) refl

pub returns : goal.returns
returns c =
    let all = c.in_ok-copy_each.ensures ∙ ap (λ (before : Sessions). before ++ c.args.cache.now.entries) c.in_ok-entries.ensures.items in
    let made = made_again c.args.cache.now _ _ _ all c.cap.ensures c.len.ensures.valid c.in_ok-copied.ensures in
    ap (λ (o : Option (LruCache ℕ Answered)). unwrap_or o c.args.cache.now) (sym c.unwrap.ensures ∙ made)
