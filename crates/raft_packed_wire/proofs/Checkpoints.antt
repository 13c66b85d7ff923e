-- A checkpoint makes a store again; and its bytes.
use Rattle.std.proofs.Common.{ℕ, ◌≡◌, ◌∙◌, refl, sym, ap, subst, arith, append_assoc, List, [], ◌∷◌, ◌++◌, Option, None, Some, ◌+◌, length}
use Rattle.std.specs.Prelude.{Err, Ok, OnOk, Result, fold, is_some, map, if◌then◌else◌}
use Rattle.std.specs.List.{AllByRecursion, flat_map}
use Rattle.std.specs.Map.{values_of}
use Rattle.std.specs.Option.{option_to_list}
use Rattle.std.proofs.lemmas.List.{append-nil}
use Rattle.raft_state.specs.declared.ids.LogId.{LogId}
use Rattle.raft_state.specs.LogLaws.{IsRun}
use Rattle.raft_state.specs.Order.{next}
use Rattle.raft_store.specs.declared.entry.Entry.{Entry}
use Rattle.raft_store.specs.Entries.{entry_meaning}
use Rattle.raft_store.specs.Mirror.{keyed}
use Rattle.raft_store.specs.Store.{index_of, no_store, put}
use Rattle.raft_store.proofs.Lists.{put_all}
use Rattle.proof_mirror.proofs.Shape.{run_of_ids}
use Rattle.raft_packed_node.specs.proof_packed.Nodes.{of_no_entries}
use Rattle.raft_packed_node.specs.proof_packed.Stores.{Application, Packed, PackedStore, packed_store}
use Rattle.raft_codec.specs.Codec.{Codec, Writes, list, number}
use Rattle.raft_packed_wire.specs.declared.record.PackedBegan.TheVariants.{Unchanged}
use Rattle.raft_packed_wire.specs.declared.record.PackedChange.{PackedChange}
use Rattle.raft_packed_wire.specs.declared.record.PackedChange.TheVariants.{Vote, Append, Purge, Install}
use Rattle.raft_packed_wire.specs.Checkpoints.{AreInOrder, CheckpointsRestore, Restores, checkpoint, rest_changes}
use Rattle.raft_packed_wire.specs.Pieces.{WritesInstallFront, WritesSnapshotFront}
use Rattle.raft_packed_wire.specs.Records.{named_began, named_logged, packed_change, packed_on_disk}
use Rattle.raft_packed_wire.specs.Values.{kept}
use Rattle.raft_packed_wire.proofs.Ordered.{put_again_in_order}
use Rattle.raft_packed_wire.proofs.Standing.{replayed_all}

-- entries that follow on, put one after the other, stand at their indexes
put_again : (n : ℕ) (es : List Entry) → IsRun n (map entry_meaning.id_of es) → fold (put entry_meaning) [] es ≡ keyed entry_meaning es
put_again n es r = put_all (index_of entry_meaning) n n [] es tt (omega arith) (run_of_ids entry_meaning n es r)

module _ {S : Type 0} (app : Application S) where
  -- a store on disk with this last purged id and these entries
  abbrev with_log : PackedStore S → Option (LogId ℕ) → List (ℕ × Entry) → PackedStore S
  with_log t front log = record t { front = front; log = log; saved = None; applied = of_no_entries app }

  replayed_as : (moment : ℕ) (t : PackedStore S)
      → packed_on_disk app (replayed_all app (packed_store app (no_store 0)) (checkpoint moment t))
      ≡ with_log t t.front (fold (put entry_meaning) [] (values_of t.log))
  replayed_as moment t = go t.front
    where
      go : (o : Option (LogId ℕ))
          → packed_on_disk app (replayed_all app (packed_store app (no_store 0)) (checkpoint moment (record t { front = o })))
          ≡ with_log t o (fold (put entry_meaning) [] (values_of t.log))
      go None = refl
      go (Some x) = refl

pub checkpoints_restore : {S : Type 0} → CheckpointsRestore S
checkpoints_restore app moment t h =
    replayed_as app moment t
    ∙ ap (with_log app t t.front) (put_again (next t.front) (values_of t.log) h.run ∙ sym h.keys)

-- it is enough that the entries are in order
pub order_restores : {S : Type 0} (app : Application S) (moment : ℕ) (t : PackedStore S) → AreInOrder 0 t.log → Restores app moment t
order_restores app moment t h = replayed_as app moment t ∙ ap (with_log app t t.front) (put_again_in_order t.log h)

-- ---- its bytes

-- bytes behind others
behind : (old mid new x y : List ℕ) → new ≡ mid ++ y → mid ≡ old ++ x → new ≡ old ++ (x ++ y)
behind old mid new x y second first = second ∙ (ap (λ l. l ++ y) first ∙ append_assoc old x y)

module _ {S : Type 0} (c : Codec S) (t : PackedStore S) where
  -- what stands before the state in the record of the snapshot: its moment, what began, how many changes, and the front of the one
  pub front_written : {E : Type 0} (r : Result (Unit {0}) E) (old reserved began counted new : List ℕ)
      → number.fits 0 × (reserved ≡ old ++ number.bytes 0)
      → (named_began (kept c)).fits Unchanged × (began ≡ reserved ++ (named_began (kept c)).bytes Unchanged)
      → number.fits 1 × (counted ≡ began ++ number.bytes 1)
      → OnOk r (WritesInstallFront c t counted new) → OnOk r (WritesSnapshotFront c t old new)
  unfolding list named_logged
  front_written (Ok x) old reserved began counted new a b d e =
      let install : List ℕ = (packed_change (kept c)).bytes (Install t.meta t.snap) in
      let unchanged : List ℕ = (named_began (kept c)).bytes Unchanged in
      let all : List ℕ = new ++ c.bytes t.snap.state in (
        (λ f. (a.0, (b.0, (d.0, (e.0 f, tt))))),
        behind old reserved all (number.bytes 0) (unchanged ++ (number.bytes 1 ++ (install ++ [])))
            (behind reserved began all unchanged (number.bytes 1 ++ (install ++ []))
            (behind began counted all (number.bytes 1) (install ++ []) (e.1 ∙ ap (λ l. counted ++ l) (sym (append-nil install))) d.1) b.1) a.1,
      )
  front_written (Err x) old reserved began counted new a b d e = e

module _ {S : Type 0} (c : Codec (Packed S)) (t : PackedStore S) where
  abbrev change : Codec (PackedChange (Packed S))
  change = packed_change c

  -- how many changes a checkpoint has, and each, written one behind the other
  changes_written : (n : ℕ) (old counted voted purged new : List ℕ)
      → n ≡ (if is_some t.front then 3 else 2)
      → number.fits n × (counted ≡ old ++ number.bytes n)
      → change.fits (Vote t.vote) × (voted ≡ counted ++ change.bytes (Vote t.vote))
      → AllByRecursion change.fits (map (λ x. Purge x) (option_to_list t.front))
      × (purged ≡ voted ++ flat_map change.bytes (map (λ x. Purge x) (option_to_list t.front)))
      → change.fits (Append (values_of t.log)) × (new ≡ purged ++ change.bytes (Append (values_of t.log)))
      → (list change).fits (rest_changes t) × (new ≡ old ++ (list change).bytes (rest_changes t))
  unfolding list
  changes_written n old counted voted purged new = go t.front
    where
      vote : List ℕ
      vote = change.bytes (Vote t.vote)

      append : List ℕ
      append = change.bytes (Append (values_of t.log))

      with_front : Option (LogId ℕ) → List (PackedChange (Packed S))
      with_front o = Vote t.vote ∷ (map (λ x. Purge x) (option_to_list o) ++ Append (values_of t.log) ∷ [])

      -- the bytes from the vote on, with these behind it
      joined : (more : List ℕ) → counted ≡ old ++ number.bytes n → voted ≡ counted ++ vote → new ≡ voted ++ more
          → new ≡ old ++ (number.bytes n ++ (vote ++ more))
      joined more a b e = behind old counted new (number.bytes n) (vote ++ more) (behind counted voted new vote more e b) a

      go : (o : Option (LogId ℕ)) → n ≡ (if is_some o then 3 else 2)
          → number.fits n × (counted ≡ old ++ number.bytes n)
          → change.fits (Vote t.vote) × (voted ≡ counted ++ vote)
          → AllByRecursion change.fits (map (λ x. Purge x) (option_to_list o))
          × (purged ≡ voted ++ flat_map change.bytes (map (λ x. Purge x) (option_to_list o)))
          → change.fits (Append (values_of t.log)) × (new ≡ purged ++ append)
          → (number.fits (length (with_front o)) × AllByRecursion change.fits (with_front o))
          × (new ≡ old ++ (number.bytes (length (with_front o)) ++ flat_map change.bytes (with_front o)))
      go None is a b e f =
          let last : new ≡ voted ++ (append ++ []) =
          behind voted purged new [] (append ++ []) (f.1 ∙ ap (λ l. purged ++ l) (sym (append-nil append))) e.1 in (
            (subst number.fits is a.0, (b.0, (f.0, tt))),
            joined (append ++ []) a.1 b.1 last ∙ ap (λ k. old ++ (number.bytes k ++ (vote ++ (append ++ [])))) is,
          )
      go (Some x) is a b e f =
          let purge : List ℕ = change.bytes (Purge x) in
          let last : new ≡ voted ++ (purge ++ (append ++ [])) =
          behind voted purged new purge (append ++ []) (f.1 ∙ ap (λ l. purged ++ l) (sym (append-nil append)))
          (e.1 ∙ ap (λ l. voted ++ l) (append-nil purge)) in (
            (subst number.fits is a.0, (b.0, (e.0.0, (f.0, tt)))),
            joined (purge ++ (append ++ [])) a.1 b.1 last
                ∙ ap (λ k. old ++ (number.bytes k ++ (vote ++ (purge ++ (append ++ []))))) is,
          )

  pub all_written : {E : Type 0} (r : Result (Unit {0}) E) (n : ℕ) (old counted voted purged new : List ℕ)
      → n ≡ (if is_some t.front then 3 else 2)
      → number.fits n × (counted ≡ old ++ number.bytes n)
      → change.fits (Vote t.vote) × (voted ≡ counted ++ change.bytes (Vote t.vote))
      → AllByRecursion change.fits (map (λ x. Purge x) (option_to_list t.front))
      × (purged ≡ voted ++ flat_map change.bytes (map (λ x. Purge x) (option_to_list t.front)))
      → Writes change (Append (values_of t.log)) r purged new
      → Writes (list change) (rest_changes t) r old new
  all_written (Ok x) n old counted voted purged new is a b e f = changes_written n old counted voted purged new is a b e f
  all_written (Err x) n old counted voted purged new is a b e f = f
