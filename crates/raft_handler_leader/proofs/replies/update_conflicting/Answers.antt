use Rattle.std.proofs.Common.{◌≡◌, ◌∙◌, ap, sym, is_some, refl, ℕ, Option, None, Some}
use Rattle.raft_progress.specs.Table.{get}
use Rattle.raft_progress_entry.specs.Entry.{conflicted}
use Rattle.raft_progress_entry.specs.declared.entry.ProgressEntry.{ProgressEntry}
use Rattle.raft_steps.proofs.Replied.{same_rises}
use Rattle.raft_handler_leader.proofs.replies.update_conflicting.Goals as goal

-- a conflict leaves what matches
same_matching : {NID : Type 0} (number : Option ℕ) (x : ℕ) (e v : ProgressEntry NID) → v ≡ conflicted e number x → v.matching ≡ e.matching
same_matching None x e v h = rw h refl
same_matching (Some n) x e v h = rw h refl

pub acknowledge-requires-clause-known : goal.acknowledge-requires-clause-known
acknowledge-requires-clause-known g c = ap is_some (sym c.entry_of.ensures ∙ c.in-Some.is)

pub acknowledge-requires-clause-rises : goal.acknowledge-requires-clause-rises
acknowledge-requires-clause-rises g c =
    let cmp = g.C.NodeId.Ord.cmp in
    let held : get cmp c.args.leader.now.progress c.args.target.now ≡ Some c.in-Some.entry = sym c.entry_of.ensures ∙ c.in-Some.is in
    same_rises cmp g.met.C.NodeId.Ord.total c.args.leader.now.progress c.args.target.now c.in-Some.entry c.conflicted-entry.result held
    (same_matching c.args.number c.args.conflict.now.index c.in-Some.entry c.conflicted-entry.result c.conflicted-entry.ensures)
