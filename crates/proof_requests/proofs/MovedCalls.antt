-- Snapshots that go out and come in parts, call by call.
use Rattle.std.proofs.Common.{ℕ, ◌≡◌, inl, inr, ⊎_elim, List, ◌∷◌, ◌++◌, ◌∙◌, refl, sym, ap, subst}
use Rattle.std.specs.Prelude.{Contains, Option, Some}
use Rattle.std.specs.List.{AllByRecursion}
use Rattle.std.proofs.lemmas.Bool.{cases_eq}
use Rattle.raft_calls.specs.declared.message.Message.{Message}
use Rattle.raft_codec.specs.Codec.{Codec, IsCodec}
use Rattle.raft_node.specs.declared.given.Given.{Given}
use Rattle.raft_node.specs.WellFormed.{IsWellFormed}
use Rattle.proof_packed.specs.Nodes.{PackedMessage}
use Rattle.proof_packed.specs.Stores.{Application, Packed}
use Rattle.raft_core.specs.raft_packed_wire.declared.packet.PackedContent.{PackedContent}
use Rattle.raft_core.specs.raft_packed_wire.declared.packet.PackedContent.TheVariants as content
use Rattle.raft_core.specs.raft_packed_wire.declared.packet.PackedPacket.{PackedPacket}
use Rattle.raft_core.specs.raft_packed_wire.Messages.{packed_packet}
use Rattle.raft_core.specs.raft_packed_wire.Values.{kept}
use Rattle.raft_core.specs.raft_peers.declared.frame.Frame.TheVariants as frames
use Rattle.raft_core.specs.raft_peers.declared.output.Output.{Output}
use Rattle.raft_core.specs.Calls.{Receives, Releases, TakesContent, Ticks, Writes}
use Rattle.raft_core.specs.raft_peers.Parts.{IsPartOf, Outgoing}
use Rattle.raft_core.specs.Views.{CoreView}
use Rattle.proof_deeds.proofs.Promised.{one_of}
use Rattle.proof_servers.specs.Servers.{Action, AllMayAct, after_actions, new_cluster}
use Rattle.proof_snapshots.proofs.Agreed.{agreed as snapshots_agree}
use Rattle.proof_requests.specs.Actions.{Initializes}
use Rattle.proof_requests.specs.Clients.{with_one}
use Rattle.proof_requests.specs.Frames.{IsSent}
use Rattle.proof_requests.specs.Moving.{HasLeft, IsComing, IsGoing, IsMoving}
use Rattle.proof_requests.proofs.Left.{bag_more}
use Rattle.proof_requests.proofs.Lists.{all_in}
use Rattle.proof_requests.proofs.Moved.{begun_going, moving_on, part_comes}
use Rattle.proof_requests.proofs.Queues.{one_other, one_own}
use Rattle.proof_requests.proofs.Sent.{part_sent}

-- nothing is done with parts
pub record StayMoving {S : Type 0} (old new : CoreView S) : Type 0 where
  pub preparing : new.preparing ≡ old.preparing
  pub outgoing : new.outgoing ≡ old.outgoing
  pub incoming : new.incoming ≡ old.incoming

pub stays : {S : Type 0} (old new same : CoreView S) → new ≡ same → same.preparing ≡ old.preparing → same.outgoing ≡ old.outgoing
    → same.incoming ≡ old.incoming → StayMoving old new
stays old new same is preparing outgoing incoming = record {
  preparing = ap (λ (v : CoreView _). v.preparing) is ∙ preparing;
  outgoing = ap (λ (v : CoreView _). v.outgoing) is ∙ outgoing;
  incoming = ap (λ (v : CoreView _). v.incoming) is ∙ incoming;
}

module _ {S : Type 0} (app : Application S) (c : Codec S) where
  pub initialized_same : (old : CoreView S) (out : List (Output S)) (new : CoreView S) → Initializes app old out new → StayMoving old new
  initialized_same old out new m =
      stays old new _ m.1.rest refl refl refl

  pub ticked_same : (old : CoreView S) (out : List (Output S)) (new : CoreView S) → Ticks app old out new → StayMoving old new
  ticked_same old out new t =
      stays old new _ t.rest refl refl refl

  pub written_same : (old : CoreView S) (out : List (Output S)) (new : CoreView S) → Writes app c old out new → StayMoving old new
  written_same old out new (inl none) =
      stays old new _ none.1 refl refl refl
  written_same old out new (inr w) =
      stays old new _ w.rest refl refl refl

  pub moving_same : (bag : List Message) (old new : CoreView S) → StayMoving old new → IsMoving app c bag old → IsMoving app c bag new
  moving_same bag old new k h = record {
    preparing = subst (AllByRecursion (HasLeft app c bag)) (sym k.preparing) h.preparing;
    going = subst (AllByRecursion (IsGoing app c bag)) (sym k.outgoing) h.going;
    coming = subst (IsComing app c bag) (sym k.incoming) h.coming;
  }

  -- after more actions
  pub moving_later : (given : Given) (actions took : List Action) (v : CoreView S)
      → IsMoving app c (after_actions given actions (new_cluster given)).released.bag v
      → IsMoving app c (after_actions given (actions ++ took) (new_cluster given)).released.bag v
  moving_later given actions took v h =
      moving_on app c (after_actions given actions (new_cluster given)).released.bag (after_actions given (actions ++ took) (new_cluster given)).released.bag
      (λ m k. bag_more given actions took m k) v h

  module _ (inverse : IsCodec c) (given : Given) (wf : IsWellFormed given) (actions : List Action) (may : AllMayAct given actions (new_cluster given))
      (old new : CoreView S) (out : List (Output S)) where
    abbrev bag : List Message
    bag = (after_actions given actions (new_cluster given)).released.bag

    content_moving : (bytes : List ℕ) (p : PackedPacket (Packed S)) → IsSent app c bag bytes → (packed_packet (kept c)).fits p
        → bytes ≡ 0 ∷ (packed_packet (kept c)).bytes p → (x : PackedContent (Packed S)) → p.content ≡ x → TakesContent app c x old out new
        → IsMoving app c bag old → IsMoving app c bag new
    content_moving bytes p from fits is (content.Message m) e t h =
        moving_same bag old new
        (stays old new _ t.rest refl refl refl) h
    content_moving bytes p from fits is (content.Part x) e (inl k) h =
        let o : (o : Outgoing) × IsGoing app c bag o × IsPartOf o x = part_sent app c inverse bag bytes p x from fits is e in
        record {
          preparing = subst (AllByRecursion (HasLeft app c bag)) (sym (ap (λ (v : CoreView S). v.preparing) k.rest)) h.preparing;
          going = subst (AllByRecursion (IsGoing app c bag)) (sym (ap (λ (v : CoreView S). v.outgoing) k.rest)) h.going;
          coming = subst (IsComing app c bag) (sym (ap (λ (v : CoreView S). v.incoming) k.rest))
              (part_comes app c bag (snapshots_agree given wf actions may) x old.incoming k.comes h.coming o.0 o.1 o.2).0;
        }
    content_moving bytes p from fits is (content.Part x) e (inr t) h =
        let o : (o : Outgoing) × IsGoing app c bag o × IsPartOf o x = part_sent app c inverse bag bytes p x from fits is e in
        record {
          preparing = subst (AllByRecursion (HasLeft app c bag)) (sym (ap (λ (v : CoreView S). v.preparing) t.takes.rest)) h.preparing;
          going = subst (AllByRecursion (IsGoing app c bag)) (sym (ap (λ (v : CoreView S). v.outgoing) t.takes.rest)) h.going;
          coming = subst (IsComing app c bag) (sym (ap (λ (v : CoreView S). v.incoming) t.takes.rest))
              (part_comes app c bag (snapshots_agree given wf actions may) x old.incoming t.comes h.coming o.0 o.1 o.2).0;
        }

    pub received_moving : (bytes : List ℕ) → IsSent app c bag bytes → Receives app c bytes old out new → IsMoving app c bag old → IsMoving app c bag new
    received_moving bytes from (frames.Packet p, is, t) h = content_moving bytes p from is.0 is.1 p.content refl t h
    received_moving bytes from (frames.PreVote ask, is, t) h =
        moving_same bag old new
        (stays old new _ t.rest refl refl refl) h
    received_moving bytes from (frames.PreVoteReply reply, is, t) h =
        moving_same bag old new
        (stays old new _ t.moved.rest refl refl refl) h
    received_moving bytes from (frames.PartReply reply, is, t) h = record {
      preparing = subst (AllByRecursion (HasLeft app c bag)) (sym (ap (λ (v : CoreView S). v.preparing) t.rest)) h.preparing;
      going = all_in (IsGoing app c bag) new.outgoing (λ o there. one_of (IsGoing app c bag) old.outgoing o h.going (t.outgoing o there));
      coming = subst (IsComing app c bag) (sym (ap (λ (v : CoreView S). v.incoming) t.rest)) h.coming;
    }

  -- after a release, by which what is encoded from now on has left a server
  pub released_moving : (bag : List Message) (position : ℕ) (old new : CoreView S) (out : List (Output S)) (r : Releases app c position old out new)
      → ((p : PackedMessage S) → Contains r.said.bag p → HasLeft app c bag p) → IsMoving app c bag old → IsMoving app c bag new
  released_moving bag position old new out r left h =
      let waiting : (p : PackedMessage S) → Contains r.sends.waiting p → HasLeft app c bag p =
      λ p there. ⊎_elim (λ k. one_of (HasLeft app c bag) old.preparing p h.preparing k) (λ k. left p k) (r.sends.sends.preparing p there) in
      record {
        preparing = all_in (HasLeft app c bag) new.preparing (λ p there. waiting p (r.sends.prepares.preparing p there));
        going = all_in (IsGoing app c bag) new.outgoing
            (λ o there. ⊎_elim (λ k. one_of (IsGoing app c bag) old.outgoing o h.going k)
            (λ k. begun_going app c bag old.start r.sends.waiting waiting o k) (r.sends.prepares.outgoing o there));
        coming = subst (IsComing app c bag) (sym (ap (λ (v : CoreView S). v.incoming) r.rest)) h.coming;
      }

some_same : {A : Type 0} (a b : A) → ◌≡◌ {A = Option A} (Some a) (Some b) → a ≡ b
some_same a b e = cc

-- servers, of which one is another now
pub each_core : {S : Type 0} (P : ℕ → CoreView S → Type 0) (cores : ℕ → Option (CoreView S)) (id : ℕ) (new : Option (CoreView S))
    → ((v : CoreView S) → new ≡ Some v → P id v) → ((i : ℕ) (v : CoreView S) → cores i ≡ Some v → P i v)
    → (i : ℕ) (v : CoreView S) → with_one id new cores i ≡ Some v → P i v
each_core {S} P cores id new own others i v e =
    ⊎_elim
    (λ (q : i ≡ id).
    subst (λ (j : ℕ). P j v) (sym q) (own v (sym (one_own id new cores) ∙ subst (λ (j : ℕ). with_one id new cores j ≡ Some v) q e)))
    (λ d. others i v (sym (one_other id i new cores d) ∙ e))
    (cases_eq i id)

-- the same, of one that runs
pub with_core : {S : Type 0} (P : ℕ → CoreView S → Type 0) (cores : ℕ → Option (CoreView S)) (id : ℕ) (new : CoreView S) → P id new
    → ((i : ℕ) (v : CoreView S) → cores i ≡ Some v → P i v) → (i : ℕ) (v : CoreView S) → with_one id (Some new) cores i ≡ Some v → P i v
with_core {S} P cores id new own others =
    each_core P cores id (Some new) (λ v e. subst (P id) (some_same new v e) own) others
