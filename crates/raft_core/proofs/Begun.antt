-- What an opened server goes on from, and how it goes on with a new log, which takes the old one's place.
use Rattle.std.proofs.Common.{ℕ, ◌≡◌, ◌∙◌, refl, sym, ap, subst}
use Rattle.std.specs.Prelude.{IfSome, None, Option, Some}
use Rattle.std.specs.Option.{option_map}
use Rattle.raft_frames.specs.declared.header.LogId.{LogId}
use Rattle.raft_frames.specs.declared.tail.Tail.{Tail}
use Rattle.raft_codec.specs.Codec.{Codec}
use Rattle.raft_peers.specs.proof_packed.Nodes.{PackedNode}
use Rattle.raft_peers.specs.proof_packed.Stores.{Packed}
use Rattle.raft_peers.specs.raft_packed_server.declared.batch.NewLog.{NewLog}
use Rattle.raft_peers.specs.raft_packed_server.declared.serving.Serving.{Serving}
use Rattle.raft_peers.specs.raft_packed_server.Checkpoints.{BeginsLog, TakesOver, without_next_log}
use Rattle.raft_peers.specs.raft_packed_server.Recovery.{GoesOn}
use Rattle.raft_peers.specs.raft_packed_server.Views.{ServerView}
use Rattle.raft_core.specs.Calls.{GivesUpLog, MayBeginLog, TakesOverLog}
use Rattle.raft_core.specs.Views.{CoreView}

-- what a copy is of, at the server of its node
pub snapshot_at : {S : Type 0} (n : Option (PackedNode S)) (serving : Option (Serving S)) (p : Packed S)
    → n ≡ option_map (λ v. v.node) serving → IfSome n (λ m. p ≡ m.store.snap) → IfSome serving (λ v. p ≡ v.node.store.snap)
snapshot_at n None p same is = tt
snapshot_at n (Some v) p same is = subst (λ m. IfSome m (λ n. p ≡ n.store.snap)) same is

-- a server that goes on runs: so it has a snapshot
pub has_snapshot : {S : Type 0} (serving : Option (Serving S)) (header : Option LogId) (tail : Tail) (p : Packed S) → GoesOn serving header tail
    → IfSome serving (λ v. p ≡ v.node.store.snap) → option_map (λ v. v.node.store.snap) serving ≡ Some p
has_snapshot None header tail p goes is = absurd goes
has_snapshot (Some v) header tail p goes is = ap Some (sym is)

module _ {S : Type 0} (c : Codec S) where
  -- a new log is begun at the server, or not
  begins_at : (log : LogId) (old : CoreView S) (serving : Option (Serving S)) → old.server.serving ≡ serving
      → (written : Option NewLog) (server : ServerView S) → BeginsLog c log serving written server.serving → server.given ≡ old.server.given
      → MayBeginLog c log old written (record old { server = server })
  begins_at log old None is written server begins given = absurd begins
  begins_at log old (Some v) is None server begins given =
      λ i. record old { server = record { given = given i; serving = (begins.1 ∙ sym is) i } }
  begins_at log old (Some v) is (Some w) server begins given = record {
    serving = v;
    serves = is;
    is_new = begins.0;
    rest = λ i. record old { server = record { given = given i; serving = begins.1 i } };
  }

  pub begins : (log : LogId) (old : CoreView S) (written : Option NewLog) (server : ServerView S)
      → BeginsLog c log old.server.serving written server.serving → server.given ≡ old.server.given
      → MayBeginLog c log old written (record old { server = server })
  begins log old written server = begins_at log old old.server.serving refl written server

module _ {S : Type 0} where
  -- it takes the old one's place at the server, or not, or is given up
  pub takes_over : (old : CoreView S) (end : Option ℕ) (server : ServerView S) → TakesOver old.server.serving end server.serving
      → server.given ≡ old.server.given → TakesOverLog old end (record old { server = server })
  takes_over old end server took given =
      record { takes_over = took; rest = λ i. record old { server = record { given = given i; serving = server.serving } } }

  pub gives_up : (old : CoreView S) (server : ServerView S)
      → server ≡ record old.server { serving = option_map without_next_log old.server.serving } → GivesUpLog old (record old { server = server })
  gives_up old server gave = λ i. record old { server = gave i }
