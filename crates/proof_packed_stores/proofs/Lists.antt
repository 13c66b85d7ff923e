-- What is kept of a list of entries, as entries are added.
use Rattle.std.specs.Prelude.{ℕ, ◌≡◌, ◌≤◌, ◌+◌, ◌-◌, nat_le, true, List, [], ◌∷◌, ◌++◌, Option, None, Some, length, map, take, is_some, refl, if◌then◌else◌}
use Rattle.std.specs.List.{AllByRecursion, cons_option}
use Rattle.std.specs.Option.{option_map}
use Rattle.std.proofs.Common.{◌∙◌, sym, ap, arith, suc, append_assoc, append-nil}
use Rattle.std.proofs.Math.Seq.{take-append-add}
use Rattle.std.proofs.lemmas.List.{length-append, map-append}
use Rattle.std.proofs.lemmas.List.Sums.{fold-append}
use Rattle.std.proofs.lemmas.Bool.{le-leb}
use Rattle.std.proofs.lemmas.Bool.Decides.{nat_tests}
use Rattle.raft_state.specs.declared.ids.LogId.{LogId}
use Rattle.raft_state.specs.declared.membership.Members.{Members}
use Rattle.raft_state.specs.Log.{last}
use Rattle.raft_state.proofs.LogLists.{last_append, last_is}
use Rattle.raft_steps.specs.FollowingHandler.{memberships_in, stored_in}
use Rattle.raft_store.specs.declared.entry.Entry.{Entry}
use Rattle.raft_store.specs.Entries.{entry_meaning, members_of}
use Rattle.raft_store.specs.Mirror.{ends, last_two, none}
use Rattle.raft_store.specs.Restart.{memberships_of}
use Rattle.proof_mirror.proofs.Ends.{ends-append, memberships-append}
use Rattle.proof_packed_stores.specs.Stores.{Application, Packed, WorldMembership, packed, packed_memberships, with_entries, with_entry}

-- the last of a list with one more id
last_more : (xs : List (LogId ℕ)) (x : LogId ℕ) → last (xs ++ x ∷ []) ≡ Some x
last_more xs x = last_is (xs ++ x ∷ []) ∙ last_append None xs (x ∷ [])

-- the last two of memberships, with those of one entry more
abbrev pushed : WorldMembership × WorldMembership → Option WorldMembership → WorldMembership × WorldMembership
pushed p o = (elim o [ None ↦ p.0 | Some m ↦ p.1 ], elim o [ None ↦ p.1 | Some m ↦ m ])

pushed_is : (p : WorldMembership × WorldMembership) (o : Option WorldMembership) → ends p.0 p.1 (cons_option o []) ≡ pushed p o
pushed_is p None = refl
pushed_is p (Some m) = refl

two_more : (xs : List Entry) (x : Entry) → last_two (memberships_in entry_meaning (xs ++ x ∷ [])) ≡ pushed (last_two (memberships_in entry_meaning xs)) (stored_in entry_meaning x)
two_more xs x =
    ap last_two (memberships-append entry_meaning xs (x ∷ []))
    ∙ (ends-append none none (memberships_in entry_meaning xs) (memberships_in entry_meaning (x ∷ []))
    ∙ pushed_is (last_two (memberships_in entry_meaning xs)) (stored_in entry_meaning x))

-- the front of two lists that reaches into the second
pub take_past : {A : Type 0} (n : ℕ) (xs ys : List A) → length xs ≤ n → take n (xs ++ ys) ≡ xs ++ take (n - length xs) ys
take_past n xs ys h =
    let e : n ≡ length xs + (n - length xs) = omega (arith, h) in
    ap (λ k. take k (xs ++ ys)) e ∙ take-append-add xs ys (n - length xs)

-- memberships of entries have ids
abbrev HasId : WorldMembership → Type 0
HasId m = is_some m.log_id ≡ true

one_has : (e : Entry) (o : Option (Members ℕ (Unit {0}))) (ms : List WorldMembership) → AllByRecursion HasId ms
    → AllByRecursion HasId (cons_option (option_map (λ m. record { log_id = Some e.log_id; membership = m }) o) ms)
one_has e None ms h = h
one_has e (Some m) ms h = (refl, h)

all_have : (es : List Entry) → AllByRecursion HasId (memberships_in entry_meaning es)
all_have [] = tt
all_have (e ∷ es) = one_has e (members_of e.payload) (memberships_in entry_meaning es) (all_have es)

after_two : (c e : WorldMembership) (ms : List WorldMembership) → HasId c → HasId e → AllByRecursion HasId ms → is_some (ends c e ms).0.log_id ≡ true
after_two c e [] p q h = p
after_two c e (m ∷ ms) p q h = after_two e m ms q h.0 h.1

after_one : (e : WorldMembership) (ms : List WorldMembership) → HasId e → AllByRecursion HasId ms → is_some (ends none e ms).0.log_id ≡ nat_le 1 (length ms)
after_one e [] q h = refl
after_one e (m ∷ ms) q h = after_two e m ms q h.0 h.1 ∙ sym (le-leb 1 (suc (length ms)) (omega arith))

after_none : (ms : List WorldMembership) → AllByRecursion HasId ms → is_some (last_two ms).0.log_id ≡ nat_le 2 (length ms)
after_none [] h = refl
after_none (m ∷ ms) h = after_one m ms h.0 h.1 ∙ grind (arith, nat_tests)

module _ {S : Type 0} (app : Application S) where
  abbrev made : ℕ → Option (LogId ℕ) → WorldMembership × WorldMembership → S → Packed S
  made n x two s = record { end = n; last_id = x; before = two.0; effective = two.1; state = s }

  made_is : (n m : ℕ) (x y : Option (LogId ℕ)) (p q : WorldMembership × WorldMembership) (s t : S) → n ≡ m → x ≡ y → p ≡ q → s ≡ t → made n x p s ≡ made m y q t
  made_is n m x y p q s t a b c d = ap (λ k. made k x p s) a ∙ (ap (λ k. made m k p s) b ∙ (ap (λ k. made m y k s) c ∙ ap (λ k. made m y q k) d))

  one_more : (xs : List Entry) (x : Entry) → packed app (xs ++ x ∷ []) ≡ with_entry app (packed app xs) x
  one_more xs x =
      made_is _ _ _ _ _ _ _ _ (length-append xs (x ∷ []))
      (ap last (map-append entry_meaning.id_of xs (x ∷ [])) ∙ last_more (map entry_meaning.id_of xs) x.log_id)
      (two_more xs x) (fold-append app.apply app.first xs (x ∷ []))

  -- what is kept of more entries comes of what was kept and of the entries
  pub packed_more : (xs ys : List Entry) → packed app (xs ++ ys) ≡ with_entries app (packed app xs) ys
  packed_more xs [] = ap (packed app) (append-nil xs)
  packed_more xs (y ∷ ys) =
      ap (packed app) (sym (append_assoc xs (y ∷ []) ys))
      ∙ (packed_more (xs ++ y ∷ []) ys ∙ ap (λ p. with_entries app p ys) (one_more xs y))

  -- the memberships that a start takes
  pub memberships_kept : (es : List Entry) → memberships_of entry_meaning es ≡ packed_memberships (packed app es)
  memberships_kept es =
      ap (λ b. (if b then (last_two (memberships_in entry_meaning es)).0 else (last_two (memberships_in entry_meaning es)).1, (last_two (memberships_in entry_meaning es)).1))
      (sym (after_none (memberships_in entry_meaning es) (all_have es)))
