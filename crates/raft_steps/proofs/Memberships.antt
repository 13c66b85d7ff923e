-- The memberships of entries, put into effect one by one, and the last two of them.
use Rattle.std.proofs.Common.{◌≡◌, ℕ, ◌-◌, suc, List, [], ◌∷◌, Option, None, Some, refl, ap, sym, ◌∙◌, arith, length, drop}
use Rattle.std.specs.Prelude.{slice_get, false, not, fold, is_some, ◌==◌}
use Rattle.std.proofs.lemmas.Bool.Decides.{nat_tests}
use Rattle.std.specs.List.{list_any, cons_option, last_or}
use Rattle.raft_state.specs.declared.config.RaftEntry
use Rattle.raft_state.specs.declared.membership.StoredMembership.{StoredMembership}
use Rattle.raft_state.specs.declared.membership.Members.{Members}
use Rattle.raft_state.specs.declared.state.RaftState.{RaftState}
use Rattle.raft_state.specs.State.{append_membership}
use Rattle.raft_steps.specs.FollowingHandler.{stored_in, memberships_in, with_membership_of}
use Rattle.raft_steps.specs.LeaderHandler.{later_membership}

two_less : (n : ℕ) → suc (suc n) - 2 ≡ n
two_less n = omega arith

not_none : (n : ℕ) → (suc n == 0) ≡ false
not_none n = grind (arith, nat_tests)

next_place : (n : ℕ) → suc (suc n) - 1 ≡ suc (suc n - 1)
next_place n = omega arith

-- the last of a list
ends : {X : Type 0} (xs : List X) → slice_get xs (length xs - 1) ≡ last_or None xs
ends [] = refl
ends (x ∷ []) = refl
ends (x ∷ y ∷ ys) = ap (slice_get (x ∷ y ∷ ys)) (next_place (length ys)) ∙ ends (y ∷ ys)

module _ {NID N : Type 0} where
  forgotten : (s : RaftState NID N) (a b c : StoredMembership NID N) (ms : List (StoredMembership NID N))
      → fold append_membership s (a ∷ b ∷ c ∷ ms) ≡ fold append_membership s (b ∷ c ∷ ms)
  forgotten s a b c ms = refl

  -- only the last two memberships count
  last_two : (s : RaftState NID N) (ms : List (StoredMembership NID N)) → fold append_membership s ms ≡ fold append_membership s (drop (length ms - 2) ms)
  last_two s [] = refl
  last_two s (a ∷ []) = refl
  last_two s (a ∷ b ∷ []) = refl
  last_two s (a ∷ b ∷ c ∷ ms) = forgotten s a b c ms ∙ last_two s (b ∷ c ∷ ms) ∙ rw (two_less (length ms), two_less (suc (length ms))) refl

module _ {NID N E : Type 0} (entry : RaftEntry.Ghosts E NID N) where
  taken : (s : RaftState NID N) (es : List E) (o : Option (StoredMembership NID N))
      → ((s : RaftState NID N) → fold (with_membership_of entry) s es ≡ fold append_membership s (memberships_in entry es))
      → fold (with_membership_of entry) (elim o [ None ↦ s | Some m ↦ append_membership s m ]) es
      ≡ fold append_membership s (cons_option o (memberships_in entry es))
  taken s es None rest = rest s
  taken s es (Some m) rest = rest (append_membership s m)

  all_taken : (s : RaftState NID N) (es : List E) → fold (with_membership_of entry) s es ≡ fold append_membership s (memberships_in entry es)
  all_taken s [] = refl
  all_taken s (e ∷ es) = taken s es (stored_in entry e) (λ s. all_taken s es)

  -- the memberships of entries, taken one by one, leave what the last two leave
  pub memberships_folded :
      (s : RaftState NID N) (es : List E)
      → fold (with_membership_of entry) s es ≡ fold append_membership s (drop (length (memberships_in entry es) - 2) (memberships_in entry es))
  memberships_folded s es = all_taken s es ∙ last_two s (memberships_in entry es)

  counted : (e : E) (es : List E) (o : Option (Members NID N))
      → (length (memberships_in entry es) == 0) ≡ not (list_any (λ e. is_some (entry.membership_of e)) es)
      → entry.membership_of e ≡ o
      → (length (memberships_in entry (e ∷ es)) == 0) ≡ not (list_any (λ e. is_some (entry.membership_of e)) (e ∷ es))
  counted e es None rest is = rw is rest
  counted e es (Some m) rest is = rw is (not_none _)

  -- there are none where no entry has one
  pub has_memberships : (es : List E) → (length (memberships_in entry es) == 0) ≡ not (list_any (λ e. is_some (entry.membership_of e)) es)
  has_memberships [] = refl
  has_memberships (e ∷ es) = counted e es (entry.membership_of e) (has_memberships es) refl

  ended : (earlier : Option (StoredMembership NID N)) (es : List E) (o : Option (StoredMembership NID N))
      → ((earlier : Option (StoredMembership NID N)) → fold (later_membership entry) earlier es ≡ last_or earlier (memberships_in entry es))
      → fold (later_membership entry) (elim o [ None ↦ earlier | Some m ↦ Some m ]) es ≡ last_or earlier (cons_option o (memberships_in entry es))
  ended earlier es None rest = rest earlier
  ended earlier es (Some m) rest = rest (Some m)

  all_ended : (earlier : Option (StoredMembership NID N)) (es : List E) → fold (later_membership entry) earlier es ≡ last_or earlier (memberships_in entry es)
  all_ended earlier [] = refl
  all_ended earlier (e ∷ es) = ended earlier es (stored_in entry e) (λ earlier. all_ended earlier es)

  -- the membership of the last entry that has one
  pub last_membership : (es : List E) → fold (later_membership entry) None es ≡ slice_get (memberships_in entry es) (length (memberships_in entry es) - 1)
  last_membership es = all_ended None es ∙ sym (ends (memberships_in entry es))
