-- Snapshots that are encoded in steps.
use Rattle.std.proofs.Common.{ℕ, ◌≡◌, ◌∙◌, ⊎_elim, inl, inr, List, [], ◌∷◌, ◌++◌, Err, Ok, refl, sym, ap, subst, append_assoc}
use Rattle.std.specs.Prelude.{◌⊎◌, Contains, OnOk, Option, Result}
use Rattle.std.specs.Option.{option_to_list}
use Rattle.std.proofs.lemmas.List.{append-nil}
use Rattle.std.proofs.lemmas.List.Elements.{Contains-append_left, Contains-push}
use Rattle.raft_codec.specs.Codec.{Codec}
use Rattle.raft_chunks.specs.declared.cursor.Title.{Title}
use Rattle.raft_chunks.specs.Chunks.{title_of}
use Rattle.raft_packed_server.specs.proof_packed.Nodes.{PackedMessage}
use Rattle.raft_packed_server.specs.proof_packed.Stores.{Application}
use Rattle.raft_packed_server.specs.raft_packed_wire.declared.packed.PackedPlace.{PackedPlace}
use Rattle.raft_packed_server.specs.raft_packed_wire.declared.packed.PackedPlace.TheVariants.{Front, State}
use Rattle.raft_packed_server.specs.raft_packed_wire.Pieces.{PackedGoesOn, packed_left}
use Rattle.raft_packed_server.specs.raft_packed_wire.Values.{kept}
use Rattle.raft_packed_server.specs.raft_packed_wire.raft_packed.declared.place.Place.{Place}
use Rattle.raft_packed_server.specs.raft_packed_wire.raft_packed.declared.place.Place.TheVariants.{End}
use Rattle.raft_packed_server.proofs.raft_packed_wire_proofs.Pieces.{pieces_are_whole}
use Rattle.raft_peers.specs.declared.output.Output.{Output}
use Rattle.raft_peers.specs.Parts.{AreParts, Outgoing, outgoing_of}
use Rattle.raft_peers.specs.Preparing.{IsEncodedUpto}
use Rattle.raft_peers.specs.Sends.{BringsSnapshot, IsBegun, LeavesInParts, Prepares}

module _ {S : Type 0} (c : Codec S) (left : S → Place → List ℕ) (fits : S → Place → Type 0) where
  -- nothing is encoded
  pub none_encoded : (m : PackedMessage S) (bytes : List ℕ) (title : Title) → BringsSnapshot m.message.body → bytes ≡ []
      → title ≡ title_of m.brought.end bytes → IsEncodedUpto c left fits m Front bytes title
  none_encoded m bytes title brings none titled = record {
    brings = brings;
    encoded = ((λ f. f), ap (λ (bs : List ℕ). bs ++ (kept c).bytes m.brought) none);
    titled = titled;
  }

  -- a piece more is
  pub more_encoded : (m : PackedMessage S) (at next : PackedPlace) (bytes piece more : List ℕ) (title title' : Title)
      → IsEncodedUpto c left fits m at bytes title → PackedGoesOn c left fits m.brought at next [] piece → more ≡ bytes ++ piece
      → title' ≡ title_of m.brought.end (bytes ++ piece) → IsEncodedUpto c left fits m next more title'
  more_encoded m at next bytes piece more title title' h g is titled = record {
    brings = h.brings;
    encoded = (
      (λ f. h.encoded.0 (g.0 f)),
      ap (λ (bs : List ℕ). bs ++ packed_left c left fits m.brought next) is
          ∙ append_assoc bytes piece (packed_left c left fits m.brought next)
          ∙ ap (λ (bs : List ℕ). bytes ++ bs) g.1
          ∙ h.encoded.1,
    );
    titled = titled ∙ ap (title_of m.brought.end) (sym is);
  }

  -- all is
  pub all_encoded : ((state : S) → (left state End ≡ []) × fits state End) → (m : PackedMessage S) (at : PackedPlace) (bytes : List ℕ) (title : Title)
      → IsEncodedUpto c left fits m at bytes title → at ≡ State End → (kept c).fits m.brought × (bytes ≡ (kept c).bytes m.brought)
  all_encoded ends m at bytes title h is =
      (pieces_are_whole c left fits ends).whole m.brought [] bytes
      (subst (λ (p : PackedPlace). PackedGoesOn c left fits m.brought Front p [] bytes) is h.encoded)

module _ {S : Type 0} (app : Application S) (c : Codec S) (start : ℕ) where
  -- what leaves of those that are prepared
  abbrev pub Leave : List (PackedMessage S) → List Outgoing → List (Output S) → List (PackedMessage S) → List Outgoing → List (Output S) → Type 0
  Leave old going before new going' after =
      (frames : List (Output S)) × Prepares app c start old going frames new going' × (after ≡ before ++ frames)

  quiet : (old new : List (PackedMessage S)) (going : List Outgoing) (out : List (Output S))
      → ((m : PackedMessage S) → Contains new m → Contains old m) → Leave old going out new going out
  quiet old new going out kept = ([], record { preparing = kept; outgoing = λ o there. inl there; leaves = inl refl }, sym (append-nil out))

  -- nothing, if none is
  pub popped : (old new : List (PackedMessage S)) (last : Option (PackedMessage S)) (going : List Outgoing) (out : List (Output S))
      → old ≡ new ++ option_to_list last → Leave old going out new going out
  popped old new last going out is =
      quiet old new going out
      (λ m there. subst (λ (xs : List (PackedMessage S)). Contains xs m) (sym is) (Contains-append_left new (option_to_list last) m there))

  -- or if more of one is to be encoded
  pub goes_on : (old mid new : List (PackedMessage S)) (one : PackedMessage S) (going : List Outgoing) (out : List (Output S))
      → old ≡ mid ++ one ∷ [] → new ≡ mid ++ one ∷ [] → Leave old going out new going out
  goes_on old mid new one going out was is =
      quiet old new going out (λ m there. subst (λ (xs : List (PackedMessage S)). Contains xs m) (is ∙ sym was) there)

  -- or the first part of one of which all is encoded
  pub begins : {T E : Type 0} (r : Result T E) (old mid : List (PackedMessage S)) (m : PackedMessage S) (o : Outgoing) (going going' : List Outgoing)
      (before after : List (Output S)) → old ≡ mid ++ m ∷ [] → o ≡ outgoing_of c m → BringsSnapshot m.message.body → (kept c).fits m.brought
      → OnOk r ((x : Outgoing) → Contains going' x → Contains going x ⊎ (x ≡ o))
      → OnOk r ((out : List (Output S)) × AreParts c start o out × (after ≡ before ++ out)) → OnOk r (Leave old going before mid going' after)
  begins (Ok y) old mid m o going going' before after was is brings fits comes leaves =
      let among : Contains old m = subst (λ (xs : List (PackedMessage S)). Contains xs m) (sym was) (Contains-push mid m) in
      let parts : AreParts c start (outgoing_of c m) leaves.0 = subst (λ (x : Outgoing). AreParts c start x leaves.0) is leaves.1 in (
        leaves.0,
        record {
          preparing = λ x there. subst (λ (xs : List (PackedMessage S)). Contains xs x) (sym was) (Contains-append_left mid (m ∷ []) x there);
          outgoing = λ x there. ⊎_elim (λ d. inl d) (λ e. inr (record { message = m; among = among; fits = fits; is = e ∙ is })) (comes x there);
          leaves = inr (m, among, record { brings = brings; fits = fits; parts = parts });
        },
        leaves.2,
      )
  begins (Err e) old mid m o going going' before after was is brings fits comes leaves = tt
