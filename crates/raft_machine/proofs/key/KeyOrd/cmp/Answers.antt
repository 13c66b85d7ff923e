use Rattle.std.proofs.Common.{List, ℕ, sym, ap, ◌∙◌}
use Rattle.std.specs.Ordering.{nat_cmp}
use Rattle.std.specs.Cmp.Lexicographic.{slice_cmp}
use Rattle.raft_machine.proofs.Keys.{by_first, by_second}
use Rattle.raft_machine.proofs.key.KeyOrd.cmp.Goals as goal

pub returns-in_default-cmp : goal.returns-in_default-cmp
returns-in_default-cmp c =
    by_second c.self.inside.first c.self.inside.second c.other.inside.first c.other.inside.second c.self.inside.bytes.items c.other.inside.bytes.items c.cmp-in-Equal.result
    c.self.invariant.heads c.other.invariant.heads (sym c.in-Equal.is ∙ c.cmp.ensures) c.cmp-in-Equal.ensures c.in_default-cmp.not-Equal
    ∙ ap (λ (j : List ℕ). slice_cmp nat_cmp j c.other.inside.bytes.items) c.self.view_is
    ∙ ap (λ (k : List ℕ). slice_cmp nat_cmp c.args.self.now k) c.other.view_is

pub returns-in_default : goal.returns-in_default
returns-in_default c =
    by_first c.self.inside.first c.self.inside.second c.other.inside.first c.other.inside.second c.self.inside.bytes.items c.other.inside.bytes.items c.cmp.result
    c.self.invariant.small c.other.invariant.small c.self.invariant.heads c.other.invariant.heads c.cmp.ensures c.in_default.not-Equal
    ∙ ap (λ (j : List ℕ). slice_cmp nat_cmp j c.other.inside.bytes.items) c.self.view_is
    ∙ ap (λ (k : List ℕ). slice_cmp nat_cmp c.args.self.now k) c.other.view_is
