-- What a step's calls make of the store, by its bytes; and how a node is prepared for a step.
use Rattle.std.specs.Prelude.{ℕ, ◌≡◌, Bool, true, false, List, [], ◌∷◌, Option, None, Some, is_some, nat_lt, not, ◌&&◌, if◌then◌else◌}
use Rattle.std.specs.Option.{option_map}
use Rattle.raft_codec.specs.Codec.{Codec}
use Rattle.raft_steps.specs.Refusals.{refusals_of_spent}
use Rattle.raft_node.specs.declared.act.Act.{Act}
use Rattle.raft_node.specs.declared.act.Act.TheVariants.{FinishSnapshot}
use Rattle.proof_packed.specs.Nodes.{PackedNode}
use Rattle.proof_packed.specs.Stores.{Packed}
use Rattle.raft_packed_wire.specs.raft_packed.Kept.{summary_of}
use Rattle.raft_packed_wire.specs.raft_packed_node.Builds.{packed_kept_early}
use Rattle.raft_packed_wire.specs.declared.record.PackedBegan.{PackedBegan}
use Rattle.raft_packed_wire.specs.declared.record.PackedBegan.TheVariants.{Unchanged}
use Rattle.raft_packed_wire.specs.declared.named.Named.{Named}
use Rattle.raft_packed_wire.specs.declared.record.NamedRecord.{NamedRecord}
use Rattle.raft_packed_wire.specs.declared.record.PackedChange.{PackedChange}
use Rattle.raft_packed_wire.specs.Records.{named_began}
use Rattle.raft_packed_wire.specs.Values.{kept}
use Rattle.raft_packed_server.specs.Encoded.{AreBytesOf, values_in}

abbrev pub is_unchanged : {P : Type 0} → PackedBegan P → Bool
is_unchanged Unchanged = true
is_unchanged _ = false

module _ {S : Type 0} where
  -- what bytes are
  abbrev pub first_began : List (PackedBegan (Named S)) → PackedBegan (Named S)
  first_began [] = Unchanged
  first_began (began ∷ others) = began

  abbrev pub began_in : Codec S → List ℕ → PackedBegan (Named S)
  began_in c bytes = first_began (values_in (named_began (kept c)) 1 bytes)

  -- they are the bytes of what they are, and this says whether it is nothing
  pub record AreBytesOfBegan (c : Codec S) (same : Bool) (bytes : List ℕ) : Type 0 where
    pub one : AreBytesOf (named_began (kept c)) (began_in c bytes ∷ []) 1 bytes
    pub nothing : same ≡ is_unchanged (began_in c bytes)

  -- a record, as the log names it, changes nothing of a store; it is left, unless its moment was reserved and it changes nothing
  abbrev pub named_no_changes : PackedBegan (Named S) → List (PackedChange (Packed S)) → Bool
  named_no_changes Unchanged [] = true
  named_no_changes _ _ = false

  abbrev pub named_left_of : Bool → NamedRecord S → List (NamedRecord S)
  named_left_of is_reserved r = if is_reserved then (if named_no_changes r.began r.changes then [] else r ∷ []) else r ∷ []

  -- the end of a build would keep something, and that is longer than the stored snapshot
  abbrev pub ends_build : PackedNode S → Bool
  ends_build n = elim n.engine [ None ↦ false | Some e ↦ is_some (option_map summary_of n.noted) && not (is_some (refusals_of_spent e.machine)) ]

  abbrev pub built_end : PackedNode S → Option ℕ
  built_end n = if ends_build n then option_map (λ k. k.end) (option_map summary_of n.noted) else None

  -- a node before a step: what is noted is kept before the step that ends its build, unless the engine is spent
  abbrev pub prepared_for : Act → PackedNode S → PackedNode S
  prepared_for FinishSnapshot n = if ends_build n then packed_kept_early n else n
  prepared_for _ n = n
