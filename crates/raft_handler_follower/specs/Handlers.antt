-- What the handlers borrow, and that they keep their borrows.
use Rattle.std.specs.Prelude.{◌≡◌}
use Rattle.raft_handler_follower.specs.declared.following_handler.FollowingHandler.{FollowingHandler}
use Rattle.raft_steps.specs.Parts.{Core, core_of}

module _ {C NID N E D R S : Type 0} where
  abbrev pub view_of_following : FollowingHandler C NID N E D R S → Core C NID N E D R S
  view_of_following h = core_of h.state.now h.output.now

  pub record SameFollowingBorrows (old new : FollowingHandler C NID N E D R S) : Type 0 where
    pub config : new.config ≡ old.config
    pub state : new.state.ghost_name ≡ old.state.ghost_name
    pub output : new.output.ghost_name ≡ old.output.ghost_name
