-- The last membership of a list of entries, as entries are added one by one.
use Rattle.std.proofs.Common.{◌≡◌, ℕ, ◌+◌, ◌<◌, true, cond, nat_le, map, arith, List, [], ◌∷◌, ◌++◌, length, take, get_or, Option, None, Some, Bor, refl, ap, sym, ◌∙◌, append-nil}
use Rattle.std.proofs.lemmas.Bool.{le-leb}
use Rattle.std.proofs.lemmas.List.{take_more, map-append}
use Rattle.std.proofs.lemmas.List.Elements.{filter_map-append}
use Rattle.std.specs.List.{cons_option}
use Rattle.std.specs.Option.{option_map, option_or}
use Rattle.raft_state.specs.declared.config.RaftEntry
use Rattle.raft_state.specs.declared.ids.LogId.{LogId}
use Rattle.raft_state.specs.declared.membership.Members.{Members}
use Rattle.raft_state.specs.declared.membership.StoredMembership.{StoredMembership}
use Rattle.raft_steps.specs.FollowingHandler.{stored_in, memberships_in}
use Rattle.raft_store.specs.declared.entry.Entry.{Entry}
use Rattle.raft_store.specs.declared.entry.Payload.{Payload}
use Rattle.raft_store.specs.declared.entry.Payload.TheVariants.{Blank, Value, Membership}
use Rattle.raft_store.specs.Entries.{entry_meaning, members_of}
use Rattle.raft_store.specs.Built.{last_membership, meta_of}
use Rattle.raft_store.specs.Mirror.{Tells, ends, last_two, none}
use Rattle.raft_store.specs.Restart.{memberships_of}
use Rattle.raft_store.specs.Starting.{entries_of, stored_of}

module _ {NID N E : Type 0} (entry : RaftEntry.Ghosts E NID N) where
  -- the meta of a snapshot of entries describes them
  pub meta_tells : (es : List E) → Tells entry (meta_of entry es) es
  meta_tells es = record { last_id = refl; membership = refl }

  ends_push : (c e m : StoredMembership NID N) (ms : List (StoredMembership NID N)) → (ends c e (ms ++ m ∷ [])).1 ≡ m
  ends_push c e m [] = refl
  ends_push c e m (x ∷ ms) = ends_push e x m ms

  added : (ms : List (StoredMembership NID N)) (o : Option (StoredMembership NID N)) → (last_two (ms ++ cons_option o [])).1 ≡ elim o [ None ↦ (last_two ms).1 | Some m ↦ m ]
  added ms None = ap (λ xs. (last_two xs).1) (append-nil ms)
  added ms (Some m) = ends_push none none m ms

  -- an entry's membership, or the last one before it
  pub last_membership_push : (es : List E) (e : E) → last_membership entry (es ++ e ∷ []) ≡ elim (stored_in entry e) [ None ↦ last_membership entry es | Some m ↦ m ]
  last_membership_push es e = ap (λ xs. (last_two xs).1) (filter_map-append (stored_in entry) es (e ∷ [])) ∙ added (memberships_in entry es) (stored_in entry e)

-- the membership of each entry is looked at, in their order
next_entry : (es : List Entry) (i : ℕ) (e : Entry) → i < length es → e ≡ get_or es i e
    → last_membership entry_meaning (take (i + 1) es) ≡ elim (stored_in entry_meaning e) [ None ↦ last_membership entry_meaning (take i es) | Some m ↦ m ]
next_entry es i e at here =
    ap (last_membership entry_meaning) (take_more es i e at ∙ ap (λ x. take i es ++ x ∷ []) (sym here)) ∙ last_membership_push entry_meaning (take i es) e

-- it has one
pub one_more : (es : List Entry) (i : ℕ) (e : Entry) (m : Members ℕ (Unit {0})) → i < length es → e ≡ get_or es i e → e.payload ≡ Membership m
    → record { log_id = Some e.log_id; membership = m } ≡ last_membership entry_meaning (take (i + 1) es)
one_more es i e m at here is = sym (next_entry es i e at here ∙ rw is refl)

-- it has none
pub none_more : (es : List Entry) (i : ℕ) (e : Entry) (l : StoredMembership ℕ (Unit {0})) → i < length es → e ≡ get_or es i e → members_of e.payload ≡ None → l ≡ last_membership entry_meaning (take i es)
    → l ≡ last_membership entry_meaning (take (i + 1) es)
none_more es i e l at here bare is = is ∙ sym (next_entry es i e at here ∙ rw bare refl)

-- a payload that holds no membership
pub no_membership : (p : Payload) → ((m : Members ℕ (Unit {0})) → p ≡ Membership m → ⊥) → members_of p ≡ None
no_membership Blank h = refl
no_membership (Value v) h = refl
no_membership (Membership m) h = absurd (h m refl)

-- the membership of an entry that was found, none if there was none
abbrev pub found : Option (LogId ℕ × Bor (Members ℕ (Unit {0}))) → StoredMembership ℕ (Unit {0})
found None = none
found (Some p) = record { log_id = Some p.0; membership = p.1.now }

-- ---- the last two

-- a membership that was found
abbrev pub stored_some : Option (LogId ℕ × Bor (Members ℕ (Unit {0}))) → Option (StoredMembership ℕ (Unit {0}))
stored_some found = option_map (λ p. record { log_id = Some p.0; membership = p.1.now }) found

-- the last two memberships of entries, as far as there are any
abbrev pub last_found : List Entry → Option (StoredMembership ℕ (Unit {0})) × Option (StoredMembership ℕ (Unit {0}))
last_found es = ends None None (map Some (memberships_in entry_meaning es))

ends_more : {A : Type 0} (c e m : A) (ms : List A) → ends c e (ms ++ m ∷ []) ≡ ((ends c e ms).1, m)
ends_more c e m [] = refl
ends_more c e m (x ∷ ms) = ends_more e x m ms

found_more : (ms : List (StoredMembership ℕ (Unit {0}))) (o : Option (StoredMembership ℕ (Unit {0})))
    → ends None None (map Some (ms ++ cons_option o [])) ≡ elim o [ None ↦ ends None None (map Some ms) | Some m ↦ ((ends None None (map Some ms)).1, Some m) ]
found_more ms None = ap (λ xs. ends None None (map Some xs)) (append-nil ms)
found_more ms (Some m) = ap (ends None None) (map-append Some ms (m ∷ [])) ∙ ends_more None None (Some m) (map Some ms)

next_found : (log : List (Bor Entry)) (i : ℕ) (e : Bor Entry) → i < length log → e ≡ get_or log i e
    → last_found (entries_of (take (i + 1) log)) ≡ elim (stored_in entry_meaning e.now) [ None ↦ last_found (entries_of (take i log)) | Some m ↦ ((last_found (entries_of (take i log))).1, Some m) ]
next_found log i e at here =
    ap (λ xs. last_found (entries_of xs)) (take_more log i e at ∙ ap (λ x. take i log ++ x ∷ []) (sym here))
    ∙ ap last_found (map-append (λ (x : Bor Entry). x.now) (take i log) (e ∷ []))
    ∙ ap (λ xs. ends None None (map Some xs)) (filter_map-append (stored_in entry_meaning) (entries_of (take i log)) (e.now ∷ []))
    ∙ found_more (memberships_in entry_meaning (entries_of (take i log))) (stored_in entry_meaning e.now)

-- one more
pub one_found : (log : List (Bor Entry)) (i : ℕ) (e : Bor Entry) (m : Members ℕ (Unit {0})) (b l : Option (StoredMembership ℕ (Unit {0}))) → i < length log → e ≡ get_or log i e → e.now.payload ≡ Membership m
    → (b, l) ≡ last_found (entries_of (take i log)) → (l, Some (record { log_id = Some e.now.log_id; membership = m })) ≡ last_found (entries_of (take (i + 1) log))
one_found log i e m b l at here is so = ap (λ (p : Option (StoredMembership ℕ (Unit {0})) × Option (StoredMembership ℕ (Unit {0}))). (p.1, Some (record { log_id = Some e.now.log_id; membership = m }))) so ∙ sym (next_found log i e at here ∙ rw is refl)

-- none more
pub none_found : (log : List (Bor Entry)) (i : ℕ) (e : Bor Entry) (b l : Option (StoredMembership ℕ (Unit {0}))) → i < length log → e ≡ get_or log i e → members_of e.now.payload ≡ None
    → (b, l) ≡ last_found (entries_of (take i log)) → (b, l) ≡ last_found (entries_of (take (i + 1) log))
none_found log i e b l at here bare so = so ∙ sym (next_found log i e at here ∙ rw bare refl)

-- those of a whole log: the one before the last, if there is one, and the last
ends_found : {A : Type 0} (a b : A) (ms : List A) → ends (Some a) (Some b) (map Some ms) ≡ (Some (ends a b ms).0, Some (ends a b ms).1)
ends_found a b [] = refl
ends_found a b (m ∷ ms) = ends_found b m ms

abbrev some_of : Option (StoredMembership ℕ (Unit {0})) → StoredMembership ℕ (Unit {0})
some_of None = none
some_of (Some m) = m

-- the last two that a start has of these memberships
abbrev begun : List (StoredMembership ℕ (Unit {0})) → StoredMembership ℕ (Unit {0}) × StoredMembership ℕ (Unit {0})
begun ms = (cond (nat_le 2 (length ms)) (last_two ms).0 (last_two ms).1, (last_two ms).1)

abbrev chosen : Option (StoredMembership ℕ (Unit {0})) × Option (StoredMembership ℕ (Unit {0})) → StoredMembership ℕ (Unit {0}) × StoredMembership ℕ (Unit {0})
chosen p = (some_of (option_or p.0 p.1), some_of p.1)

both_of : (ms : List (StoredMembership ℕ (Unit {0}))) → chosen (ends None None (map Some ms)) ≡ begun ms
both_of [] = refl
both_of (a ∷ []) = refl
both_of (a ∷ b ∷ ms) =
    let two : nat_le 2 (length (a ∷ b ∷ ms)) ≡ true = le-leb 2 (length (a ∷ b ∷ ms)) (omega arith) in
    ap chosen (ends_found a b ms) ∙ rw two refl

stored_is : (found : Option (LogId ℕ × Bor (Members ℕ (Unit {0})))) → stored_of found ≡ some_of (stored_some found)
stored_is None = refl
stored_is (Some p) = refl

or_is : (b l : Option (LogId ℕ × Bor (Members ℕ (Unit {0})))) → stored_some (option_or b l) ≡ option_or (stored_some b) (stored_some l)
or_is None l = refl
or_is (Some p) l = refl

pub found_all : (es : List Entry) (b l : Option (LogId ℕ × Bor (Members ℕ (Unit {0})))) → (stored_some b, stored_some l) ≡ last_found es → memberships_of entry_meaning es ≡ (stored_of (option_or b l), stored_of l)
found_all es b l h =
    sym (both_of (memberships_in entry_meaning es)) ∙ ap chosen (sym h)
    ∙ ap (λ x. (some_of x, some_of (stored_some l))) (sym (or_is b l)) ∙ ap (λ x. (x, some_of (stored_some l))) (sym (stored_is (option_or b l))) ∙ ap (λ x. (stored_of (option_or b l), x)) (sym (stored_is l))
