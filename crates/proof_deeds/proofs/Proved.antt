-- Any number of voters: what each run of a world promises, with nothing assumed.
use Rattle.std.proofs.Common.{List, subst}
use Rattle.std.specs.Prelude.{IfSome}
use Rattle.raft_node.specs.raft_schedule.declared.event.Event.{Event}
use Rattle.raft_node.specs.raft_store.declared.entry.Entry.{Entry}
use Rattle.raft_node.specs.Chosen.{KeepsChosen}
use Rattle.raft_node.specs.Held.{AllResting}
use Rattle.raft_node.specs.MayKeep.{AllMayKeep}
use Rattle.raft_node.specs.Net.{Net}
use Rattle.raft_node.specs.declared.given.Given.{Given}
use Rattle.raft_node.specs.Runs.{moment, world_after}
use Rattle.raft_node.specs.Safety.{Agrees, AppendsOnly, AppliedAgree, AppliedAreDecided, AtEachMoment, BeginsFirst, DecidedEnd, ExecutedAreDecided, IsComplete, Matches, Mirrored, ReadsSee, StandsAbove}
use Rattle.raft_node.specs.WellFormed.{IsWellFormed}
use Rattle.proof_agreement.specs.Stores as stores
use Rattle.proof_deeds.specs.Images.{setup_of}
use Rattle.proof_deeds.specs.Nets.{EngineFollows, NodeFollows}
use Rattle.proof_deeds.proofs.AllLaws.{all_laws}
use Rattle.proof_deeds.proofs.AppendFitting.{Settled}
use Rattle.proof_deeds.proofs.Chosen.{world_keeps_chosen}
use Rattle.proof_deeds.proofs.Joined.{Followed}
use Rattle.proof_deeds.proofs.Moments.{Stood, stood_of}
use Rattle.proof_deeds.proofs.Resting.{nodes_rest}
use Rattle.proof_deeds.proofs.Promised.{NetStands, one_of, agrees, appends_only, applied_agree, applied_decided, begins, complete, decided_end, executed_decided, matches, may_keep, reads_see, stands_above}
use Rattle.proof_deeds.proofs.Worldly.{world_followed, world_passed}

module _ (given : Given) (wf : IsWellFormed given) (es : List Event) where
  pub followed : Followed given (Settled (setup_of given.membership)) (stores.empty (setup_of given.membership)) (world_after given es)
  followed = world_followed given wf (Settled (setup_of given.membership)) (all_laws given.membership) es

  -- what is promised of each world that is followed at a moment holds at each moment
  at_each_moment : (P : Net (List Entry) → Type 0) → ((net : Net (List Entry)) (W : _) → NetStands (setup_of given.membership) net W → P net) → AtEachMoment P given es
  at_each_moment P f k n =
      let h : Stood given (Settled (setup_of given.membership)) (stores.empty (setup_of given.membership)) (moment given es k n) =
      (world_passed given wf (Settled (setup_of given.membership)) (all_laws given.membership) es k n).stood in
      f (moment given es k n) h.world h.stands

  -- state machine safety, after the last event too
  pub run_agrees : AtEachMoment Agrees given es
  run_agrees = at_each_moment Agrees (agrees (setup_of given.membership))

  pub after_agrees : Agrees (world_after given es)
  after_agrees =
      let h : Stood given (Settled (setup_of given.membership)) (stores.empty (setup_of given.membership)) (world_after given es) = stood_of given (Settled (setup_of given.membership)) _ (world_after given es) followed in
      agrees (setup_of given.membership) (world_after given es) h.world h.stands

  -- engines mirror their stores
  pub after_mirrored : Mirrored (world_after given es)
  after_mirrored n e c is =
      let k : NodeFollows (setup_of given.membership) followed.world (world_after given es).records n = one_of (NodeFollows (setup_of given.membership) followed.world (world_after given es).records) (world_after given es).nodes n followed.follows.nodes c in
      let g : EngineFollows (setup_of given.membership) n followed.world e = subst (λ p. IfSome p (EngineFollows (setup_of given.membership) n followed.world)) is k.engine in
      g.in_step.mirrors

  -- nodes are at rest
  pub after_resting : AllResting (world_after given es).nodes
  after_resting =
      nodes_rest (setup_of given.membership) followed.world followed.follows.reached (world_after given es).records (world_after given es).nodes followed.follows.nodes

  -- leader completeness
  pub run_complete : AtEachMoment IsComplete given es
  run_complete = at_each_moment IsComplete (complete (setup_of given.membership))

  -- decided logs end with their ids
  pub run_ends : AtEachMoment DecidedEnd given es
  run_ends = at_each_moment DecidedEnd (decided_end (setup_of given.membership))

  -- only what was decided is executed or installed
  pub run_executes_decided : AtEachMoment ExecutedAreDecided given es
  run_executes_decided = at_each_moment ExecutedAreDecided (executed_decided (setup_of given.membership))

  -- log matching
  pub run_matches : AtEachMoment Matches given es
  run_matches = at_each_moment Matches (matches (setup_of given.membership))

  -- leaders only append
  pub run_appends_only : AtEachMoment AppendsOnly given es
  run_appends_only = at_each_moment AppendsOnly (appends_only (setup_of given.membership))

  -- records may keep whole logs
  pub run_may_keep : AtEachMoment AllMayKeep given es
  run_may_keep = at_each_moment AllMayKeep (may_keep (setup_of given.membership))

  -- state machines, reads, and what a quorum has acknowledged
  pub run_applied : AtEachMoment AppliedAgree given es
  run_applied = at_each_moment AppliedAgree (applied_agree (setup_of given.membership))

  pub run_applies_decided : AtEachMoment AppliedAreDecided given es
  run_applies_decided = at_each_moment AppliedAreDecided (applied_decided (setup_of given.membership))

  -- logs begin with the first entry
  pub run_begins : AtEachMoment (BeginsFirst given) given es
  run_begins = at_each_moment (BeginsFirst given) (begins (setup_of given.membership))

  pub run_stands_above : AtEachMoment StandsAbove given es
  run_stands_above = at_each_moment StandsAbove (stands_above (setup_of given.membership))

  pub run_reads_see : AtEachMoment ReadsSee given es
  run_reads_see = at_each_moment ReadsSee (reads_see (setup_of given.membership))

  pub run_keeps_chosen : KeepsChosen given es
  run_keeps_chosen = world_keeps_chosen given wf (Settled (setup_of given.membership)) (all_laws given.membership) es
