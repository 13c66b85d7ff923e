-- What was appended in pieces, from the first byte to behind the last one, is whole.
use Rattle.std.proofs.Common.{◌≡◌, ℕ, List, [], ◌++◌, ap, sym, ◌∙◌}
use Rattle.std.proofs.lemmas.List.{append-nil}
use Rattle.raft_codec.specs.Codec.{Codec}
use Rattle.raft_packed_node.specs.raft_packed.declared.place.Place.{Place}
use Rattle.raft_packed_node.specs.raft_packed.declared.place.Place.TheVariants.{End}
use Rattle.raft_packed_wire.specs.Pieces.{PiecesAreWholeOf}

module _ {S : Type 0} (c : Codec S) (left : S → Place → List ℕ) (fits : S → Place → Type 0) where
  pub pieces_are_whole : ((state : S) → (left state End ≡ []) × fits state End) → PiecesAreWholeOf c left fits
  pieces_are_whole ends = record {
    joined = λ p at mid next old between new first second. ((λ f. first.0 (second.0 f)), second.1 ∙ first.1);
    whole = λ p old new steps. (steps.0 (ends p.state).1, sym (append-nil new) ∙ ap (λ bs. new ++ bs) (sym (ends p.state).0) ∙ steps.1);
  }
