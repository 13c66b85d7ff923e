-- Computed examples of the mirror: the first run.
use Rattle.std.specs.Prelude.{ℕ, [], ◌∷◌, Some, refl}
use Rattle.std.specs.Ordering.{nat_cmp}
use Rattle.std.proofs.Common.{inl, arith, lit<}
use Rattle.raft_state.specs.declared.state.RaftState.{RaftState}
use Rattle.raft_state.specs.declared.state.ServerState.TheVariants.{Leader}
use Rattle.raft_state.specs.State.{empty}
use Rattle.raft_store.specs.Entries.{entry_meaning}
use Rattle.proof_mirror.specs.Ready.{InStep, Ordered}
use Rattle.raft_store.proofs.StoreExample.{alone, after}
use Rattle.raft_steps.proofs.Example.{lid, committed, stored}

-- the leader of one voter, once its blank entry is committed
abbrev leading : RaftState ℕ (Unit {0})
leading = record (empty 0) {
  vote = committed 1 1;
  time = Some 0;
  ids = lid 0 0 0 ∷ lid 1 1 1 ∷ [];
  committed = Some (lid 1 1 1);
  cm = stored (Some (lid 0 0 0)) alone;
  em = stored (Some (lid 0 0 0)) alone;
  role = Leader;
}

the_first_run_ends_in_step : InStep entry_meaning (after 9) leading
the_first_run_ends_in_step = record {
  mirrors = record {
    log = record { vote_is = refl; ids_are = refl; purged_is = refl; keys = refl };
    meta = refl;
    tells = record { last_id = refl; membership = refl };
    snap_run = tt;
    em = refl;
    cm = inl refl;
  };
  applied = refl;
  marks = record { run = (refl, (refl, tt)); purged = omega arith; target = omega arith; snapshot = omega arith; committed = omega arith };
}

its_store_is_ordered : Ordered nat_cmp entry_meaning (after 9)
its_store_is_ordered = record {
  log = record { by_vote = (refl, (refl, tt)); rising = (refl, (refl, tt)); run = (refl, (refl, tt)); below_end = (lit< tt, (lit< tt, tt)); first = tt };
  snapshot = record { by_vote = tt; rising = tt; run = tt; below_end = tt; first = tt };
  front = λ _. refl;
}

-- after its first command too, when the vote is the first one
the_first_store_is_ordered : Ordered nat_cmp entry_meaning (after 1)
the_first_store_is_ordered = record {
  log = record { by_vote = (refl, tt); rising = (refl, tt); run = (refl, tt); below_end = (lit< tt, tt); first = tt };
  snapshot = record { by_vote = tt; rising = tt; run = tt; below_end = tt; first = tt };
  front = λ _. refl;
}
