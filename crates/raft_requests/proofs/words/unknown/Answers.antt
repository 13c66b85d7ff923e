use Rattle.std.proofs.Common.{◌∙◌}
use Rattle.raft_requests.proofs.Told.{all_told}
use Rattle.raft_requests.proofs.words.unknown.Goals as goal

pub returns : goal.returns
returns c =
    c.from_vec.ensures
    ∙ all_told c.args.name.now c.args.args.now c.in_ok-text.ensures.items c.front.ensures c.in_ok-push_told.ensures c.in_ok-extend_from_slice.ensures.items
    (c.deref.ensures.value ∙ c.in_ok-args_told.ensures) c.in_ok-extend_from_slice-2.ensures.items
