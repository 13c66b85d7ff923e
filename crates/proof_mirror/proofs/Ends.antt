-- The last two memberships of a log.
use Rattle.std.proofs.Common.{ℕ, suc, ◌+◌, ◌-◌, ◌<◌, ◌≤◌, ◌≡◌, ◌⊎◌, inl, inr, ⊎_elim, List, [], ◌∷◌, ◌++◌, length, drop, arith, refl, sym, ap, ◌∙◌, subst, Option, Some, None, append-nil}
use Rattle.std.specs.Prelude.{nat_lt, fold, if◌then◌else◌}
use Rattle.std.specs.Option.{option_map}
use Rattle.std.specs.List.{cons_option}
use Rattle.std.proofs.lemmas.Bool.{cases_lt, lt-ltb, le-ltb}
use Rattle.std.proofs.lemmas.List.Elements.{filter_map-append}
use Rattle.raft_state.specs.declared.config.RaftEntry
use Rattle.raft_state.specs.declared.membership.Members.{Members}
use Rattle.raft_state.specs.declared.membership.StoredMembership.{StoredMembership}
use Rattle.raft_state.specs.declared.state.RaftState.{RaftState}
use Rattle.raft_state.specs.State.{append_membership}
use Rattle.raft_state.specs.Order.{next}
use Rattle.raft_steps.specs.FollowingHandler.{stored_in, memberships_in}
use Rattle.raft_store.specs.Store.{index_of}
use Rattle.raft_store.specs.Mirror.{ends, last_two, none}
use Rattle.raft_store.proofs.Lists.{Run, under}

-- what holds of each item
abbrev pub Each : {A : Type 0} → (A → Type 0) → List A → Type 0
Each P [] = Unit {0}
Each P (x ∷ xs) = P x × Each P xs

module _ {A : Type 0} where
  pub ends-append : (c e : A) (xs ys : List A) → ends c e (xs ++ ys) ≡ ends (ends c e xs).0 (ends c e xs).1 ys
  ends-append c e [] ys = refl
  ends-append c e (x ∷ xs) ys = ends-append e x xs ys

  pub ends_each : (P : A → Type 0) (c e : A) (xs : List A) → P c → P e → Each P xs → P (ends c e xs).0 × P (ends c e xs).1
  ends_each P c e [] p q r = (p, q)
  ends_each P c e (x ∷ xs) p q r = ends_each P e x xs q r.0 r.1

  two_or_more : (c e c2 e2 a b : A) (r : List A) → ends c e (drop (length (a ∷ b ∷ r) - 2) (a ∷ b ∷ r)) ≡ ends c2 e2 (a ∷ b ∷ r)
  two_or_more c e c2 e2 a b [] = refl
  two_or_more c e c2 e2 a b (x ∷ r) =
      let k : length (a ∷ b ∷ x ∷ r) - 2 ≡ suc (length r) = omega arith in
      let j : length r ≡ length (b ∷ x ∷ r) - 2 = omega arith in
      ap (λ n. ends c e (drop n (a ∷ b ∷ x ∷ r))) k ∙ ap (λ n. ends c e (drop n (b ∷ x ∷ r))) j ∙ two_or_more c e c2 e2 b x r

  -- the last two of a list give its ends
  pub ends-drop : (c e : A) (xs : List A) → ends c e (drop (length xs - 2) xs) ≡ ends c e xs
  ends-drop c e [] = refl
  ends-drop c e (x ∷ []) = refl
  ends-drop c e (x ∷ y ∷ xs) = two_or_more c e c e x y xs

-- memberships that take effect one after another
pub fold_memberships : {NID N : Type 0} (s : RaftState NID N) (ms : List (StoredMembership NID N)) → fold append_membership s ms ≡ record s { cm = (ends s.cm s.em ms).0; em = (ends s.cm s.em ms).1 }
fold_memberships s [] = refl
fold_memberships s (m ∷ ms) = fold_memberships (append_membership s m) ms

module _ {NID N : Type 0} where
  -- a membership below an index, and one from it on
  abbrev pub IsUnder : ℕ → StoredMembership NID N → Type 0
  IsUnder i m = next m.log_id ≤ i

  abbrev pub IsOnward : ℕ → StoredMembership NID N → Type 0
  IsOnward i m = i < next m.log_id

  -- two memberships are the last one of a list and that one or the one before it
  pub record Two (cm em : StoredMembership NID N) (ms : List (StoredMembership NID N)) : Type 0 where
    pub em_is : em ≡ (last_two ms).1
    pub cm_is : (cm ≡ em) ⊎ (cm ≡ (last_two ms).0)

  -- a list that is cut
  pub record Cut (cm em : StoredMembership NID N) (i : ℕ) (A B : List (StoredMembership NID N)) : Type 0 where
    pub undone : IsOnward i em → cm ≡ (last_two A).1
    pub whole : IsUnder i em → B ≡ []

  ends_under : (i : ℕ) (A : List (StoredMembership NID N)) → Each (IsUnder i) A → IsUnder i (last_two A).0 × IsUnder i (last_two A).1
  ends_under i A a = ends_each (IsUnder i) none none A (omega arith) (omega arith) a

  -- a cut above the committed membership
  pub cut_two : (cm em : StoredMembership NID N) (i : ℕ) (A B : List (StoredMembership NID N)) → Each (IsUnder i) A → Each (IsOnward i) B → Two cm em (A ++ B) → IsUnder i cm → Cut cm em i A B
  cut_two cm em i A [] a b t u =
      let q : em ≡ (last_two A).1 = t.em_is ∙ ap (λ ms. (last_two ms).1) (append-nil A) in
      let l : next em.log_id ≤ i = subst (IsUnder i) (sym q) (ends_under i A a).1 in
      record { undone = λ h. absurd (omega (arith, h, l)); whole = λ _. refl }
  cut_two cm em i A (x ∷ []) a b t u =
      let p : last_two (A ++ x ∷ []) ≡ ((last_two A).1, x) = ends-append none none A (x ∷ []) in
      let q : em ≡ x = t.em_is ∙ ap (λ z. z.1) p in
      let l : i < next em.log_id = subst (IsOnward i) (sym q) b.0 in
      record {
        undone = λ _. ⊎_elim (λ e. let k : i < next cm.log_id = subst (IsOnward i) (sym e) l in absurd (omega (arith, k, u))) (λ e. e ∙ ap (λ z. z.0) p) t.cm_is;
        whole = λ h. absurd (omega (arith, h, l));
      }
  cut_two cm em i A (x ∷ y ∷ B) a b t u =
      let p : last_two (A ++ x ∷ y ∷ B) ≡ ends x y B = ends-append none none A (x ∷ y ∷ B) in
      let o : IsOnward i (ends x y B).0 × IsOnward i (ends x y B).1 = ends_each (IsOnward i) x y B b.0 b.1.0 b.1.1 in
      let l : i < next em.log_id = subst (IsOnward i) (sym (t.em_is ∙ ap (λ z. z.1) p)) o.1 in
      let k : i < next cm.log_id = ⊎_elim (λ e. subst (IsOnward i) (sym e) l) (λ e. subst (IsOnward i) (sym (e ∙ ap (λ z. z.0) p)) o.0) t.cm_is in
      absurd (omega (arith, k, u))

  -- a list that grows
  pub push_two : (cm em : StoredMembership NID N) (M ms : List (StoredMembership NID N)) → Two cm em M → Two (ends cm em ms).0 (ends cm em ms).1 (M ++ ms)
  push_two cm em M [] t =
      let p : M ++ [] ≡ M = append-nil M in
      record {
        em_is = t.em_is ∙ ap (λ l. (last_two l).1) (sym p);
        cm_is = ⊎_elim (λ e. inl e) (λ e. inr (e ∙ ap (λ l. (last_two l).0) (sym p))) t.cm_is;
      }
  push_two cm em M (x ∷ ms) t =
      let p : last_two (M ++ x ∷ ms) ≡ ends (last_two M).1 x ms = ends-append none none M (x ∷ ms) in
      let q : ends em x ms ≡ ends (last_two M).1 x ms = ap (λ e. ends e x ms) t.em_is in
      record { em_is = ap (λ z. z.1) (q ∙ sym p); cm_is = inr (ap (λ z. z.0) (q ∙ sym p)) }

  -- a membership from an index on stays, another is the given one
  abbrev pub kept_or : ℕ → StoredMembership NID N → StoredMembership NID N → StoredMembership NID N
  kept_or i m d = if nat_lt i (next m.log_id) then m else d

  pub kept : (i : ℕ) (m d : StoredMembership NID N) → IsOnward i m → kept_or i m d ≡ m
  kept i m d h = rw (lt-ltb i (next m.log_id) h) refl

  pub dropped : (i : ℕ) (m d : StoredMembership NID N) → IsUnder i m → kept_or i m d ≡ d
  dropped i m d h = rw (le-ltb i (next m.log_id) h) refl

  -- the front of a list is replaced
  pub join_two : (cm em d : StoredMembership NID N) (i : ℕ) (A B L : List (StoredMembership NID N)) → Each (IsUnder i) A → Each (IsOnward i) B → Two cm em (A ++ B) → d ≡ (last_two L).1 → Two (kept_or i cm d) (kept_or i em d) (L ++ B)
  join_two cm em d i A [] L a b t h =
      let e : em ≡ (last_two A).1 = t.em_is ∙ ap (λ ms. (last_two ms).1) (append-nil A) in
      let l : next em.log_id ≤ i = subst (IsUnder i) (sym e) (ends_under i A a).1 in
      let k : next cm.log_id ≤ i = ⊎_elim (λ q. subst (IsUnder i) (sym q) l) (λ q. subst (IsUnder i) (sym (q ∙ ap (λ ms. (last_two ms).0) (append-nil A))) (ends_under i A a).0) t.cm_is in
      record {
        em_is = dropped i em d l ∙ (h ∙ ap (λ ms. (last_two ms).1) (sym (append-nil L)));
        cm_is = inl (dropped i cm d k ∙ sym (dropped i em d l));
      }
  join_two cm em d i A (x ∷ []) L a b t h =
      let p : last_two (A ++ x ∷ []) ≡ ((last_two A).1, x) = ends-append none none A (x ∷ []) in
      let r : last_two (L ++ x ∷ []) ≡ ((last_two L).1, x) = ends-append none none L (x ∷ []) in
      let q : em ≡ x = t.em_is ∙ ap (λ z. z.1) p in
      let l : i < next em.log_id = subst (IsOnward i) (sym q) b.0 in
      record {
        em_is = kept i em d l ∙ (q ∙ sym (ap (λ z. z.1) r));
        cm_is = ⊎_elim
            (λ e. inl (ap (λ m. kept_or i m d) e))
            (λ e. inr (dropped i cm d (subst (IsUnder i) (sym (e ∙ ap (λ z. z.0) p)) (ends_under i A a).1) ∙ (h ∙ sym (ap (λ z. z.0) r))))
            t.cm_is;
      }
  join_two cm em d i A (x ∷ y ∷ B) L a b t h =
      let p : last_two (A ++ x ∷ y ∷ B) ≡ ends x y B = ends-append none none A (x ∷ y ∷ B) in
      let r : last_two (L ++ x ∷ y ∷ B) ≡ ends x y B = ends-append none none L (x ∷ y ∷ B) in
      let o : IsOnward i (ends x y B).0 × IsOnward i (ends x y B).1 = ends_each (IsOnward i) x y B b.0 b.1.0 b.1.1 in
      let q : em ≡ (ends x y B).1 = t.em_is ∙ ap (λ z. z.1) p in
      let l : i < next em.log_id = subst (IsOnward i) (sym q) o.1 in
      record {
        em_is = kept i em d l ∙ (q ∙ sym (ap (λ z. z.1) r));
        cm_is = ⊎_elim
            (λ e. inl (ap (λ m. kept_or i m d) e))
            (λ e. let f : cm ≡ (ends x y B).0 = e ∙ ap (λ z. z.0) p in inr (kept i cm d (subst (IsOnward i) (sym f) o.0) ∙ (f ∙ sym (ap (λ z. z.0) r))))
            t.cm_is;
      }

module _ {NID N E : Type 0} (entry : RaftEntry.Ghosts E NID N) where
  one_more : (P : StoredMembership NID N → Type 0) (e : E) (o : Option (Members NID N)) (ms : List (StoredMembership NID N)) → ((m : Members NID N) → P (record { log_id = Some (entry.id_of e); membership = m })) → Each P ms → Each P (cons_option (option_map (λ m. record { log_id = Some (entry.id_of e); membership = m }) o) ms)
  one_more P e None ms f h = h
  one_more P e (Some m) ms f h = (f m, h)

  -- the memberships of entries below an index, and from one on
  pub under_each : (i : ℕ) (es : List E) → Each (IsUnder i) (memberships_in entry (under (index_of entry) i es))
  under_each i [] = tt
  under_each i (e ∷ es) =
      ⊎_elim
      (λ l. rw (lt-ltb (index_of entry e) i l) (one_more (IsUnder i) e (entry.membership_of e) (memberships_in entry (under (index_of entry) i es)) (λ m. omega (arith, l)) (under_each i es)))
      (λ l. rw (le-ltb (index_of entry e) i l) (under_each i es))
      (cases_lt (index_of entry e) i)

  pub onward_each : (n i : ℕ) (es : List E) → Run (index_of entry) n es → i ≤ n → Each (IsOnward i) (memberships_in entry es)
  onward_each n i [] r l = tt
  onward_each n i (e ∷ es) r l = one_more (IsOnward i) e (entry.membership_of e) (memberships_in entry es) (λ m. omega (arith, r.0)) (onward_each (n + 1) i es r.1 (omega arith))

  pub memberships-append : (xs ys : List E) → memberships_in entry (xs ++ ys) ≡ memberships_in entry xs ++ memberships_in entry ys
  memberships-append xs ys = filter_map-append (stored_in entry) xs ys
