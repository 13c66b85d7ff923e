-- The memberships of a request's entries: the one before the last that a node takes is decided.
use Rattle.std.proofs.Common.{ℕ, zero, suc, ◌+◌, ◌<◌, ◌≤◌, ◌≡◌, ◌⊎◌, inl, inr, ⊎_elim, true, false, cond, List, [], ◌∷◌, ◌++◌, length, arith, refl, sym, ap, ◌∙◌, subst, Option, None, Some, get_or-append-add, append_assoc, length-append}
use Rattle.std.specs.Prelude.{IfSome, is_some, slice_get}
use Rattle.std.specs.List.{cons_option}
use Rattle.std.specs.Option.{option_map}
use Rattle.raft_node.specs.raft_state.declared.ids.LogId.{LogId}
use Rattle.raft_node.specs.raft_state.declared.membership.Members.{Members}
use Rattle.raft_node.specs.raft_state.declared.membership.StoredMembership.{StoredMembership}
use Rattle.raft_node.specs.raft_state.Order.{next}
use Rattle.raft_node.specs.raft_steps.FollowingHandler.{memberships_in}
use Rattle.proof_agreement.specs.Machine.{last_membership}
use Rattle.proof_agreement.specs.Stores.{entry_at, first_entry}
use Rattle.raft_node.specs.raft_store.declared.entry.Entry.{Entry}
use Rattle.raft_node.specs.raft_store.Entries.{entry_meaning, members_of}
use Rattle.raft_node.specs.raft_store.Mirror.{none, ends, last_two}
use Rattle.raft_node.proofs.raft_store_proofs.Lists.{Run}
use Rattle.proof_deeds.specs.Images.{IdealEntry, image, images, setup_of}
use Rattle.proof_deeds.proofs.AppendFitting.{StandsIn}
use Rattle.proof_deeds.proofs.AppendTails.{log_ids}
use Rattle.proof_deeds.proofs.Tails.{index}

abbrev pub WorldMembership : Type 0
WorldMembership = StoredMembership ℕ (Unit {0})

weaker_stands : (e : Entry) (es : List Entry) (m : WorldMembership) → StandsIn es m → StandsIn (e ∷ es) m
weaker_stands e es m f x q = let z : (j : ℕ) × (slice_get (log_ids es) j ≡ Some x) = f x q in (suc z.0, z.1)

-- the last of a run's memberships is one of them, above the one before
abbrev pub Risen : List Entry → WorldMembership × WorldMembership → Type 0
Risen es p = (next p.0.log_id < next p.1.log_id) × StandsIn es p.1

pub rises : (n : ℕ) (es : List Entry) (c e : WorldMembership) → Run index n es → next e.log_id ≤ n → (memberships_in entry_meaning es ≡ []) ⊎ Risen es (ends c e (memberships_in entry_meaning es))
rises n [] c e r l = inl refl
rises n (y ∷ ys) c e r l = go (members_of y.payload) (λ c2 e2 k. rises (n + 1) ys c2 e2 r.1 k) where
  go : (o : Option (Members ℕ (Unit {0}))) → ((c2 e2 : WorldMembership) → next e2.log_id ≤ n + 1 → (memberships_in entry_meaning ys ≡ []) ⊎ Risen ys (ends c2 e2 (memberships_in entry_meaning ys)))
      → (cons_option (option_map (λ m. let z : WorldMembership = record { log_id = Some y.log_id; membership = m } in z) o) (memberships_in entry_meaning ys) ≡ [])
      ⊎ Risen (y ∷ ys) (ends c e (cons_option (option_map (λ m. let z : WorldMembership = record { log_id = Some y.log_id; membership = m } in z) o) (memberships_in entry_meaning ys)))
  go None rec =
      ⊎_elim (λ q. inl q)
      (λ (q : Risen ys (ends c e (memberships_in entry_meaning ys))). inr (q.0, weaker_stands y ys (ends c e (memberships_in entry_meaning ys)).1 q.1))
      (rec c e (omega (arith, l)))
  go (Some m) rec =
      let M : WorldMembership = record { log_id = Some y.log_id; membership = m } in
      ⊎_elim
      (λ q. inr (subst (λ ms. Risen (y ∷ ys) (ends e M ms)) (sym q) (omega (arith, l, r.0), λ x f. (zero, f))))
      (λ (q : Risen ys (ends e M (memberships_in entry_meaning ys))). inr (q.0, weaker_stands y ys (ends e M (memberships_in entry_meaning ys)).1 q.1))
      (rec e M (omega (arith, r.0)))

-- where the last two memberships of a log stand
module _ (first : Members ℕ (Unit {0})) (ws : List IdealEntry) where
  -- the last one of the first entries, and the one before
  abbrev pub LastTwo : ℕ → WorldMembership × WorldMembership → Type 0
  LastTwo i p = IfSome p.1.log_id (λ y. (last_membership (setup_of first) (entry_at (setup_of first) ws) i ≡ y.index) × (y.index < i) × IfSome p.0.log_id (λ x. last_membership (setup_of first) (entry_at (setup_of first) ws) y.index ≡ x.index))

  later_two : (i : ℕ) (p : WorldMembership × WorldMembership) → (setup_of first).is_membership (entry_at (setup_of first) ws i).payload ≡ false → LastTwo i p → LastTwo (i + 1) p
  later_two i p f h = go p.1.log_id h where
    go : (o : Option (LogId ℕ)) → IfSome o (λ y. (last_membership (setup_of first) (entry_at (setup_of first) ws) i ≡ y.index) × (y.index < i) × IfSome p.0.log_id (λ x. last_membership (setup_of first) (entry_at (setup_of first) ws) y.index ≡ x.index))
        → IfSome o (λ y. (last_membership (setup_of first) (entry_at (setup_of first) ws) (i + 1) ≡ y.index) × (y.index < i + 1) × IfSome p.0.log_id (λ x. last_membership (setup_of first) (entry_at (setup_of first) ws) y.index ≡ x.index))
    go None h = tt
    go (Some y) h =
        let e : i + 1 ≡ suc i = omega arith in
        (ap (last_membership (setup_of first) (entry_at (setup_of first) ws)) e ∙ (ap (λ b. cond b i (last_membership (setup_of first) (entry_at (setup_of first) ws) i)) f ∙ h.0), omega (arith, h.1), h.2)

  newer_two : (i : ℕ) (c e : WorldMembership) (y : LogId ℕ) (m : Members ℕ (Unit {0})) → y.index ≡ i → (setup_of first).is_membership (entry_at (setup_of first) ws i).payload ≡ true → LastTwo i (c, e) → LastTwo (i + 1) (e, record { log_id = Some y; membership = m })
  newer_two i c e y m n f h =
      let k : i + 1 ≡ suc i = omega arith in
      (ap (last_membership (setup_of first) (entry_at (setup_of first) ws)) k ∙ (ap (λ b. cond b i (last_membership (setup_of first) (entry_at (setup_of first) ws) i)) f ∙ sym n), omega (arith, n), before e.log_id h)
    where
      before : (o : Option (LogId ℕ)) → IfSome o (λ z. (last_membership (setup_of first) (entry_at (setup_of first) ws) i ≡ z.index) × (z.index < i) × IfSome c.log_id (λ x. last_membership (setup_of first) (entry_at (setup_of first) ws) z.index ≡ x.index))
          → IfSome o (λ x. last_membership (setup_of first) (entry_at (setup_of first) ws) y.index ≡ x.index)
      before None h = tt
      before (Some z) h = ap (last_membership (setup_of first) (entry_at (setup_of first) ws)) n ∙ h.0

  pub last_two_at : (i : ℕ) (ps : List IdealEntry) (es : List Entry) (c e : WorldMembership) → ws ≡ ps ++ images es → length ps ≡ i → Run index i es → LastTwo i (c, e) → LastTwo (i + length es) (ends c e (memberships_in entry_meaning es))
  last_two_at i ps [] c e w n r h = let q : i ≡ i + 0 = omega arith in subst (λ k. LastTwo k (c, e)) q h
  last_two_at i ps (y ∷ ys) c e w n r h =
      subst (λ k. LastTwo k (ends c e (memberships_in entry_meaning (y ∷ ys)))) (let q : (i + 1) + length ys ≡ i + length (y ∷ ys) = omega arith in q)
      (go (members_of y.payload) refl (λ c2 e2 k. last_two_at (i + 1) (ps ++ image y ∷ []) ys c2 e2 (w ∙ sym (append_assoc ps (image y ∷ []) (images ys))) (length-append ps (image y ∷ []) ∙ omega (arith, n)) r.1 k))
    where
      here : (entry_at (setup_of first) ws i) ≡ image y
      here =
          let k : i ≡ length ps + 0 = omega (arith, n) in
          ap (λ xs. entry_at (setup_of first) xs i) w ∙ (ap (entry_at (setup_of first) (ps ++ images (y ∷ ys))) k ∙ get_or-append-add ps (images (y ∷ ys)) 0 (first_entry (setup_of first)))

      go : (o : Option (Members ℕ (Unit {0}))) → members_of y.payload ≡ o → ((c2 e2 : WorldMembership) → LastTwo (i + 1) (c2, e2) → LastTwo ((i + 1) + length ys) (ends c2 e2 (memberships_in entry_meaning ys)))
          → LastTwo ((i + 1) + length ys) (ends c e (cons_option (option_map (λ m. let z : WorldMembership = record { log_id = Some y.log_id; membership = m } in z) o) (memberships_in entry_meaning ys)))
      go None q rec = rec c e (later_two i (c, e) (ap (λ (z : IdealEntry). is_some (members_of z.payload.payload)) here ∙ ap (λ o. is_some o) q) h)
      go (Some m) q rec = rec e (record { log_id = Some y.log_id; membership = m }) (newer_two i c e y.log_id m r.0 (ap (λ (z : IdealEntry). is_some (members_of z.payload.payload)) here ∙ ap (λ o. is_some o) q) h)

  -- of a whole log
  pub whole_two : (es : List Entry) → ws ≡ images es → Run index 0 es → LastTwo (length es) (last_two (memberships_in entry_meaning es))
  whole_two es w r = let q : 0 + length es ≡ length es = omega arith in subst (λ k. LastTwo k (last_two (memberships_in entry_meaning es))) q (last_two_at 0 [] es none none w refl r tt)
