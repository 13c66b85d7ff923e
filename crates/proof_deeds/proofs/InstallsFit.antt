-- In a followed world no snapshot request that was sent is refused for what its node has, and no append request that was
-- sent cuts its node's committed membership.
use Rattle.std.proofs.Common.{ℕ, ◌≡◌, List, map, refl, subst, None, Some}
use Rattle.std.specs.Prelude.{Contains, IfSome}
use Rattle.std.specs.Ordering.{nat_cmp}
use Rattle.raft_node.proofs.raft_state_proofs.LogLists.{follow_run}
use Rattle.raft_node.specs.raft_store.Entries.{entry_meaning}
use Rattle.raft_node.specs.raft_store.declared.entry.Entry.{Entry}
use Rattle.raft_node.specs.raft_store.Types.{EngineView}
use Rattle.raft_node.specs.raft_schedule.declared.event.Event.{Event}
use Rattle.raft_node.specs.raft_calls.declared.message.Message.{Message}
use Rattle.raft_node.specs.declared.node.Turn.{Turn}
use Rattle.raft_node.specs.Net.{Net, NodeView}
use Rattle.raft_node.specs.declared.given.Given.{Given}
use Rattle.raft_node.specs.Runs.{world_after}
use Rattle.raft_node.specs.WellFormed.{IsWellFormed}
use Rattle.proof_deeds.proofs.AppendFitting.{Settled}
use Rattle.proof_deeds.specs.Follows.{BodyIs, MessageIs, SnapshotSent}
use Rattle.proof_deeds.specs.Images.{Ideal, setup_of}
use Rattle.proof_deeds.specs.Knows.{Delivered, Stands}
use Rattle.proof_deeds.specs.Nets.{EngineFollows, NodeFollows}
use Rattle.proof_deeds.specs.Unrefused.{CutsLeaveMemberships, SnapshotsTell, TakesSnapshots}
use Rattle.proof_deeds.proofs.AllLaws.{all_laws}
use Rattle.proof_deeds.proofs.Calls.{CallLaws}
use Rattle.proof_deeds.proofs.Drains.{EngineWorks, stands}
use Rattle.proof_deeds.proofs.Events.{rests_works}
use Rattle.proof_deeds.proofs.InstallPlain.{install_plain}
use Rattle.proof_deeds.proofs.Joined.{ExtraAt, Followed}
use Rattle.proof_deeds.proofs.Promised.{one_of}
use Rattle.proof_deeds.proofs.Proved.{followed}

module _ (given : Given) (since : Ideal) (laws : CallLaws given.membership (Settled (setup_of given.membership))) (net : Net (List Entry)) (h : Followed given (Settled (setup_of given.membership)) since net) where
  -- a running node to which a message was sent, at its delivery
  module _ (n : NodeView) (e : EngineView) (m : Message) (a : Contains net.nodes n) (f : n.engine ≡ Some e) (b : Contains net.records.bag m) (to : m.to ≡ n.id) (now : ℕ) where
    abbrev turn : Turn
    turn = record { id = n.id; moment = now; request = Some m }

    follows : NodeFollows (setup_of given.membership) h.world net.records n
    follows = one_of (NodeFollows (setup_of given.membership) h.world net.records) net.nodes n h.follows.nodes a

    running : EngineFollows (setup_of given.membership) n h.world e
    running = subst (λ p. IfSome p (EngineFollows (setup_of given.membership) n h.world)) f follows.engine

    settled : Settled (setup_of given.membership) h.world e.machine.core.state
    settled = subst (λ p. IfSome p (λ (e : EngineView). Settled (setup_of given.membership) h.world e.machine.core.state)) f (one_of (ExtraAt given (Settled (setup_of given.membership)) h.world) net.nodes n h.extra a)

    delivered : Delivered (setup_of given.membership) turn h.world m
    delivered = record { request = refl; here = to; is = one_of (MessageIs (setup_of given.membership) h.world) net.records.bag m h.follows.records.bag b }

    works : EngineWorks given.membership (Settled (setup_of given.membership)) turn n.store h.world e
    works = rests_works given.membership (Settled (setup_of given.membership)) laws turn follows.node n.store h.world h.follows.reached follows.ordered n e refl refl follows.shaped follows.store running settled

    standing : Stands (setup_of given.membership) turn e.config n.store h.world e.machine
    standing = stands given.membership (Settled (setup_of given.membership)) turn laws follows.node n.store h.world e h.follows.reached follows.ordered works

  pub takes_snapshots : TakesSnapshots net
  takes_snapshots n e m o snapshot a f b to is =
      install_plain given.membership (turn n e m a f b to 0) e.config n.store h.world m o snapshot (delivered n e m a f b to 0) is e.machine (standing n e m a f b to 0) (settled n e m a f b to 0)

  pub cuts_leave : CutsLeaveMemberships net
  cuts_leave n e m o prev es told now a f b to is asks low =
      laws.fits_append (turn n e m a f b to now) e.config n.store h.world e.machine (standing n e m a f b to now) (running n e m a f b to now).queue m o prev es told (delivered n e m a f b to now) is asks low (settled n e m a f b to now)

  -- each tells of its entries
  pub snapshots_tell : SnapshotsTell net
  snapshots_tell m o snapshot b is =
      let k : SnapshotSent (setup_of given.membership) m.to o snapshot h.world = subst (λ c. BodyIs (setup_of given.membership) m.from m.to c h.world) is (one_of (MessageIs (setup_of given.membership) h.world) net.records.bag m h.follows.records.bag b) in
      record { tells = k.tells.tells; run = follow_run nat_cmp None 0 (map entry_meaning.id_of snapshot.snapshot) refl k.tells.follow }

module _ (given : Given) (wf : IsWellFormed given) (es : List Event) where
  pub world_takes_snapshots : TakesSnapshots (world_after given es)
  world_takes_snapshots = takes_snapshots given _ (all_laws given.membership) _ (followed given wf es)

  pub world_snapshots_tell : SnapshotsTell (world_after given es)
  world_snapshots_tell = snapshots_tell given _ (all_laws given.membership) _ (followed given wf es)

  pub world_cuts_leave : CutsLeaveMemberships (world_after given es)
  world_cuts_leave = cuts_leave given _ (all_laws given.membership) _ (followed given wf es)
