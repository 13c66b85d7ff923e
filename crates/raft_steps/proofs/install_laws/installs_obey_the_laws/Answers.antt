use Rattle.raft_steps.proofs.LawsInstall.{handle_install_cuts, handle_install_first, handle_install_keeps, handle_install_queues, handle_install_within, install_cuts, install_first, install_keeps, install_members, install_queues, install_records, install_within}
use Rattle.raft_steps.proofs.Unrefused.{neither}
use Rattle.raft_steps.proofs.install_laws.installs_obey_the_laws.Goals as goal

pub returns-clause-queue : goal.returns-clause-queue
returns-clause-queue g c =
    let cmp = g.C.NodeId.Ord.cmp in
    let total = g.met.C.NodeId.Ord.total in
    let entry = g.C.Entry.RaftEntry in
    record {
      by_install = λ config snapshot k. install_queues cmp config total snapshot k;
      by_handle_install = λ config v snapshot token now m. handle_install_queues cmp total entry config v snapshot token now m;
    }

pub returns-clause-cut : goal.returns-clause-cut
returns-clause-cut g c =
    let cmp = g.C.NodeId.Ord.cmp in
    let total = g.met.C.NodeId.Ord.total in
    let entry = g.C.Entry.RaftEntry in
    record {
      by_install = λ config snapshot x k e. install_cuts cmp config total snapshot k x e;
      by_handle_install = λ config v snapshot x token now m e. handle_install_cuts cmp total entry config v snapshot token now m x e;
    }

pub returns-clause-keep : goal.returns-clause-keep
returns-clause-keep g c =
    let cmp = g.C.NodeId.Ord.cmp in
    let total = g.met.C.NodeId.Ord.total in
    let entry = g.C.Entry.RaftEntry in
    record {
      by_install = λ config snapshot k asks. install_keeps cmp config total snapshot k k.state.vote (neither _ _ asks).1;
      by_handle_install = λ config v snapshot token now m asks. handle_install_keeps cmp total entry config v snapshot token now m asks;
      purges_by_install = λ config snapshot k. install_within cmp config total snapshot k;
      purges_by_handle_install = λ config v snapshot token now m. handle_install_within cmp total entry config v snapshot token now m;
    }

pub returns-clause-order : goal.returns-clause-order
returns-clause-order g c =
    let cmp = g.C.NodeId.Ord.cmp in
    let total = g.met.C.NodeId.Ord.total in
    let entry = g.C.Entry.RaftEntry in
    record {
      by_install = λ config snapshot k i. install_first cmp config snapshot k i;
      by_handle_install = λ config v snapshot token now m taken i. handle_install_first cmp total entry config v snapshot token now m taken i;
    }

pub returns-clause-leave : goal.returns-clause-leave
returns-clause-leave g c =
    let cmp = g.C.NodeId.Ord.cmp in
    record {
      recorded = λ config snapshot k i. install_records cmp config snapshot k i;
      members = λ config snapshot x k e i gone. install_members cmp config snapshot k i x e gone;
    }
