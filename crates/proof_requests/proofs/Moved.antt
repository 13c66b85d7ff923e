-- Snapshots that go out and come in parts, call by call.
use Rattle.std.proofs.Common.{ℕ, ◌≡◌, ◌∙◌, inl, inr, ⊎_elim, List, [], ◌∷◌, ◌++◌, length, take, refl, sym, ap, subst}
use Rattle.std.specs.Prelude.{Contains, Ok, Result, Some}
use Rattle.std.specs.List.{AllByRecursion}
use Rattle.raft_calls.specs.declared.message.Body.{Body}
use Rattle.raft_calls.specs.declared.message.Body.TheVariants.{AppendReply, AppendRequest, SnapshotReply, SnapshotRequest, VoteReply, VoteRequest}
use Rattle.raft_calls.specs.declared.message.Message.{Message}
use Rattle.raft_chunks.specs.declared.cursor.Title.{Title}
use Rattle.raft_chunks.specs.Assembled.{Assembled}
use Rattle.raft_chunks.specs.Assembly.{taken}
use Rattle.raft_chunks.specs.Chunks.{Piece, chunk_at, title_of}
use Rattle.raft_chunks.specs.Laws.{HasFront}
use Rattle.raft_chunks.proofs.Runs.{TookPart, part_taken, same_titles}
use Rattle.raft_codec.specs.declared.error.DecodeError.{DecodeError}
use Rattle.raft_codec.specs.Codec.{Codec, IsCodec}
use Rattle.proof_packed.specs.Nodes.{PackedMessage, brought_by_body, packed_message}
use Rattle.proof_packed.specs.Stores.{Application, Packed, packed}
use Rattle.raft_core.specs.raft_packed_wire.declared.packet.SentPart.{SentPart}
use Rattle.raft_core.specs.raft_packed_wire.Values.{kept}
use Rattle.raft_core.proofs.raft_packed_wire_proofs.ValueLaws.{kept_is}
use Rattle.raft_core.specs.raft_peers.Parts.{Comes, IsPartOf, Outgoing, assembled, handed_out, outgoing_of}
use Rattle.raft_core.specs.raft_peers.Sends.{IsBegun}
use Rattle.raft_core.specs.Views.{CoreView}
use Rattle.proof_snapshots.specs.Laws.{entries_in}
use Rattle.proof_requests.specs.Moving.{HasLeft, IsComing, IsGoing, IsMoving}

module _ {S : Type 0} (app : Application S) (c : Codec S) where
  -- more messages have left
  module _ (bag more : List Message) (f : (m : Message) → Contains bag m → Contains more m) where
    pub going_on : (o : Outgoing) → IsGoing app c bag o → IsGoing app c more o
    going_on o h = record { message = h.message; left = f h.message h.left; fits = h.fits; is = h.is }

    all_going_on : (os : List Outgoing) → AllByRecursion (IsGoing app c bag) os → AllByRecursion (IsGoing app c more) os
    all_going_on [] h = tt
    all_going_on (o ∷ os) h = (going_on o h.0, all_going_on os h.1)

    coming_on : (a : Assembled) → IsComing app c bag a → IsComing app c more a
    coming_on a (inl none) = inl none
    coming_on a (inr h) = inr (record { outgoing = h.outgoing; going = going_on h.outgoing h.going; title = h.title; front = h.front })

    pub left_on : (p : PackedMessage S) → HasLeft app c bag p → HasLeft app c more p
    left_on p h = record { message = h.message; left = f h.message h.left; is = h.is }

    pub all_left_on : (ps : List (PackedMessage S)) → AllByRecursion (HasLeft app c bag) ps → AllByRecursion (HasLeft app c more) ps
    all_left_on [] h = tt
    all_left_on (p ∷ ps) h = (left_on p h.0, all_left_on ps h.1)

    pub moving_on : (v : CoreView S) → IsMoving app c bag v → IsMoving app c more v
    moving_on v h = record {
      preparing = all_left_on v.preparing h.preparing;
      going = all_going_on v.outgoing h.going;
      coming = coming_on v.incoming h.coming;
    }

  module _ (bag : List Message) where
    -- what begins to go out has left a server
    pub going_of : (p : PackedMessage S) → HasLeft app c bag p → (kept c).fits p.brought → IsGoing app c bag (outgoing_of c p)
    going_of p h fits = record {
      message = h.message;
      left = h.left;
      fits = subst (λ (q : PackedMessage S). (kept c).fits q.brought) h.is fits;
      is = ap (outgoing_of c) h.is;
    }

    pub begun_going : (start : ℕ) (ps : List (PackedMessage S)) → ((p : PackedMessage S) → Contains ps p → HasLeft app c bag p) → (o : Outgoing)
        → IsBegun app c start ps o → IsGoing app c bag o
    begun_going start ps h o b =
        subst (IsGoing app c bag) (sym b.is) (going_of b.message (h b.message b.among) b.fits)

    -- Messages that bring as many entries bring the same.
    abbrev pub BringAlike : Type 0
    BringAlike = (m n : Message) → Contains bag m → Contains bag n → length (entries_in m.body) ≡ length (entries_in n.body)
        → entries_in m.body ≡ entries_in n.body

    brought_is : (b : Body) → brought_by_body app b ≡ packed app (entries_in b)
    brought_is (VoteRequest r) = refl
    brought_is (VoteReply r) = refl
    brought_is (AppendRequest o prev entries commit) = refl
    brought_is (AppendReply o reply prev upto) = refl
    brought_is (SnapshotRequest o snapshot) = refl
    brought_is (SnapshotReply o reply upto) = refl

    module _ (alike : BringAlike) where
      -- so parts of as many entries are of the same bytes
      going_alike : (o p : Outgoing) → IsGoing app c bag o → IsGoing app c bag p → o.number ≡ p.number → o.bytes ≡ p.bytes
      going_alike o p g h e =
          ap (λ (x : Outgoing). x.bytes) g.is
          ∙ (ap (λ (q : Packed S). (kept c).bytes q) same ∙ sym (ap (λ (x : Outgoing). x.bytes) h.is))
        where
          count : (x : Outgoing) (k : IsGoing app c bag x) → x.number ≡ length (entries_in k.message.body)
          count x k = ap (λ (y : Outgoing). y.number) k.is ∙ ap (λ (q : Packed S). q.end) (brought_is k.message.body)

          same : brought_by_body app g.message.body ≡ brought_by_body app h.message.body
          same =
              brought_is g.message.body
              ∙ (ap (packed app) (alike g.message h.message g.left h.left (sym (count o g) ∙ (e ∙ count p h))) ∙ sym (brought_is h.message.body))

      front_of : (a : Assembled) → IsComing app c bag a → (o : Outgoing) → IsGoing app c bag o → HasFront (title_of o.number o.bytes) o.bytes a
      front_of a (inl none) o g same = none ∙ sym (ap (λ (n : ℕ). take n o.bytes) (ap length none))
      front_of a (inr h) o g same =
          let titles : title_of h.outgoing.number h.outgoing.bytes ≡ title_of o.number o.bytes =
          sym h.title ∙ same_titles a.title (title_of o.number o.bytes) same in
          h.front ∙ ap (take (length a.bytes)) (going_alike h.outgoing o h.going g (ap (λ (t : Title). t.number) titles))

      ok_same : (x y : Piece) → ◌≡◌ {A = Result Piece DecodeError} (Ok x) (Ok y) → x ≡ y
      ok_same x y e = cc

      -- what a part makes of what had come is a front; and if the snapshot is whole with it, it is that part's
      pub part_comes : (x : SentPart) (old : Assembled) (k : Comes x old) → IsComing app c bag old → (o : Outgoing) → IsGoing app c bag o
          → IsPartOf o x → IsComing app c bag (assembled k) × ((all : List ℕ) → handed_out k ≡ Ok (Some all) → all ≡ o.bytes)
      part_comes x old k h o g q =
          let before : IsComing app c bag k.before =
          ⊎_elim (λ e. subst (IsComing app c bag) (sym e) h) (λ e. subst (IsComing app c bag) (sym e.0) (inl refl)) k.begun in
          let piece : Piece = chunk_at (record { title = title_of o.number o.bytes; offset = q.offset }) o.bytes q.most in
          let same : k.piece ≡ piece = ok_same k.piece piece (sym k.reads ∙ q.reads) in
          let t : TookPart (title_of o.number o.bytes) o.bytes k.before (taken k.before k.piece) =
          subst (λ (p : Piece). TookPart (title_of o.number o.bytes) o.bytes k.before (taken k.before p)) (sym same)
          (part_taken o.number o.bytes k.before q.offset q.most (front_of k.before before o g)) in (
            ⊎_elim (λ e. subst (IsComing app c bag) (sym e) before)
                (λ r. ⊎_elim (λ e. inl e) (λ e. inr (record { outgoing = o; going = g; title = e.0; front = e.1 })) r) t.left,
            t.whole,
          )

      -- then it is the snapshot that the part's message brings
      pub part_completes : IsCodec c → (x : SentPart) (old : Assembled) (k : Comes x old) → IsComing app c bag old → (o : Outgoing)
          → (g : IsGoing app c bag o) → IsPartOf o x → (snapshot : Packed S) → (kept c).fits snapshot → handed_out k ≡ Ok (Some ((kept c).bytes snapshot))
          → packed_message app g.message ≡ record { message = x.message; brought = snapshot }
      part_completes inverse x old k h o g q snapshot fits whole =
          let bytes : (kept c).bytes snapshot ≡ (kept c).bytes (brought_by_body app g.message.body) =
          (part_comes x old k h o g q).1 ((kept c).bytes snapshot) whole ∙ ap (λ (y : Outgoing). y.bytes) g.is in
          let back : IsCodec (kept c) = kept_is c inverse in
          let brought : snapshot ≡ brought_by_body app g.message.body =
          first_same snapshot (brought_by_body app g.message.body)
          (sym (back.read_back snapshot [] fits)
          ∙ (ap (λ (bs : List ℕ). (kept c).read (bs ++ [])) bytes ∙ back.read_back (brought_by_body app g.message.body) [] g.fits)) in
          let message : (packed_message app g.message).message ≡ x.message = sym (q.message ∙ ap (λ (y : Outgoing). y.message) g.is) in
          λ i. record { message = message i; brought = sym brought i }
        where
          first_same : (a b : Packed S) → ◌≡◌ {A = Result (Packed S × List ℕ) DecodeError} (Ok (a, [])) (Ok (b, [])) → a ≡ b
          first_same a b e = let z : ◌≡◌ {A = Packed S × List ℕ} (a, []) (b, []) = cc in ap (λ (p : Packed S × List ℕ). p.0) z
