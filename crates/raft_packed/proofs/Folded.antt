-- What is noted is the snapshot with entries of the log, by the parts of both.
use Rattle.std.specs.Prelude.{ℕ, ◌≡◌, ◌≤◌, ◌+◌, ◌-◌, ◌++◌, Bool, true, false, List, [], ◌∷◌, Option, None, Some, fold, if◌then◌else◌, is_some, nat_lt, not, unwrap_or}
use Rattle.std.specs.Prelude.{refl}
use Rattle.std.specs.Option.{option_map}
use Rattle.std.proofs.Common.{◌∙◌, zero, suc, ap, arith, sym}
use Rattle.std.proofs.lemmas.Bool.Decides.{nat_tests}
use Rattle.raft_store.specs.declared.entry.Entry.{Entry}
use Rattle.raft_store.specs.Store.{between}
use Rattle.proof_packed_stores.specs.Stores.{Application, Packed, PackedStore, packed_keep_snapshot, packed_memberships, packed_meta}
use Rattle.proof_packed_stores.specs.Stores.{with_entries, with_entry}
use Rattle.raft_packed.specs.Kept.{IsNamedByEnd, IsNotedFolded, NotedStore, StatesView, SummaryView, folded, folded_from, is_longer, kept_if_noted}
use Rattle.raft_packed.specs.Kept.{no_state, state_past, summary_of, with_late, with_state}
use Rattle.raft_packed.proofs.Ranges.{between_none}

-- what is tested for nothing
pub none_by : {A : Type 0} (o : Option A) (none : Bool) → is_some o ≡ not none → none ≡ true → o ≡ None
none_by None none is holds = refl
none_by (Some x) none is holds = absurd (let e : true ≡ false = is ∙ ap not holds in cc)

above : (a b : ℕ) → nat_lt a b ≡ false → b ≤ a
above a b h = grind (arith, nat_tests)

not_below : (a : ℕ) → nat_lt a a ≡ false
not_below a = grind (arith, nat_tests)

-- the last index below an end, if there is one
pub upto_end : (last end : ℕ) → (1 ≤ end) × (last ≡ end - 1) → last + 1 ≡ end
upto_end last end h = omega (arith, h.0, h.1)

pub none_upto : (end : ℕ) → (1 ≤ end → ⊥) → end ≤ 0
none_upto zero h = omega arith
none_upto (suc n) h = absurd (h (omega arith))

below_all : (end n : ℕ) → end ≤ 0 → end ≤ n
below_all end n h = omega arith

module _ {S : Type 0} (app : Application S) where
  -- what is kept of more entries, but their state, and their state
  by_parts : (p : Packed S) (es : List Entry) → with_entries app p es ≡ with_state (with_entries no_state (summary_of p) es) (fold app.apply p.state es)
  by_parts p [] = refl
  by_parts p (e ∷ es) = by_parts (with_entry app p e) es

  -- memberships are the same whatever the state
  pub memberships_by_parts : (p : Packed S) (es : List Entry)
      → packed_memberships (with_entries no_state (summary_of p) es) ≡ packed_memberships (with_entries app p es)
  memberships_by_parts p es = sym (ap packed_memberships (by_parts p es))

  pub noted_is : (snap : Packed S) (k : SummaryView) (first : List Entry) (log : List (ℕ × Entry))
      → first ≡ between snap.end k.end log → k ≡ with_entries no_state (summary_of snap) first
      → with_state k (fold app.apply snap.state first) ≡ folded_from app snap log k.end
  noted_is snap k first log same sums =
      ap (λ (s : SummaryView). with_state s (fold app.apply snap.state first)) sums
      ∙ (sym (by_parts snap first) ∙ ap (with_entries app snap) same)

  -- to keep a snapshot changes nothing of what was applied
  pub kept_beside : (p : Packed S) (t : PackedStore S)
      → packed_keep_snapshot p (record t { applied = p }) ≡ record (packed_keep_snapshot p t) { applied = p }
  kept_beside p t = go (nat_lt t.snap.end p.end)
    where
      go : (b : Bool)
          → ◌≡◌ {A = PackedStore S} (if b then record t { meta = packed_meta p; snap = p; applied = p } else record t { applied = p })
          (record (if b then record t { meta = packed_meta p; snap = p } else t) { applied = p })
      go true = refl
      go false = refl

  -- a store whose applied entries are those of a snapshot is noted, and what is noted is kept
  pub folds : (t : PackedStore S) (p : Packed S) (one two three : NotedStore S) → one.store ≡ record t { applied = p }
      → two ≡ record one { noted = Some one.store.applied } → three ≡ record two { store = kept_if_noted two.noted two.store }
      → three.store ≡ record (packed_keep_snapshot p t) { applied = p }
  folds t p one two three first noted kept =
      ap (λ (s : NotedStore S). s.store) kept
      ∙ (ap (λ (s : NotedStore S). kept_if_noted s.noted s.store) noted
      ∙ (ap (λ (u : PackedStore S). packed_keep_snapshot u.applied u) first ∙ kept_beside p t))

  -- what was applied is what the snapshot has, and nothing is noted
  abbrev restarted : StatesView S → StatesView S
  restarted st = record { snap = st.snap; noted = None; applied = st.snap }

  -- and then the entries up to an index
  abbrev folded_states : StatesView S → List (ℕ × Entry) → ℕ → StatesView S
  folded_states st log end = record { snap = st.snap; noted = None; applied = folded_from app st.snap log end }

  restarted_is : (st one : StatesView S) (es : List Entry) → es ≡ []
      → one ≡ record { snap = st.snap; noted = None; applied = with_entries app st.snap es } → one ≡ restarted st
  restarted_is st one es none is =
      is ∙ ap (λ (xs : List Entry). record { snap = st.snap; noted = None; applied = with_entries app st.snap xs }) none

  pub applied_upto : (st one two : StatesView S) (es : List Entry) (log : List (ℕ × Entry)) (last end : ℕ) → es ≡ []
      → one ≡ record { snap = st.snap; noted = None; applied = with_entries app st.snap es } → last + 1 ≡ end
      → two ≡ record one { applied = with_entries app one.applied (between one.applied.end (last + 1) log) }
      → two ≡ folded_states st log end
  applied_upto st one two es log last end none is same more =
      more
      ∙ (ap (λ (s : StatesView S). record s { applied = with_entries app s.applied (between s.applied.end (last + 1) log) }) (restarted_is st one es none is)
      ∙ ap (folded_states st log) same)

  pub applied_none : (st one : StatesView S) (es : List Entry) (log : List (ℕ × Entry)) (end : ℕ) → es ≡ []
      → one ≡ record { snap = st.snap; noted = None; applied = with_entries app st.snap es } → end ≤ 0 → one ≡ folded_states st log end
  applied_none st one es log end none is short =
      restarted_is st one es none is
      ∙ ap (λ (xs : List Entry). record { snap = st.snap; noted = None; applied = with_entries app st.snap xs })
      (sym (between_none st.snap.end end log (below_all end st.snap.end short)))

  -- what is noted is named by its end if it isn't longer than the snapshot, since that stays as it is
  none_more : (t : PackedStore S) (end : ℕ) → end ≤ t.snap.end → folded app t end ≡ t.snap
  none_more t end short = ap (with_entries app t.snap) (between_none t.snap.end end t.log short)

  own_kept : (t : PackedStore S) → packed_keep_snapshot t.snap t ≡ t
  own_kept t = ap (λ (b : Bool). if b then record t { meta = packed_meta t.snap; snap = t.snap } else t) (not_below t.snap.end)

  pub shorter_named : (t : PackedStore S) (noted : Option (Packed S)) → is_longer (option_map summary_of noted) t.snap.end ≡ false → IsNamedByEnd app t noted
  shorter_named t None short = tt
  shorter_named t (Some p) short =
      ap (λ (q : Packed S). packed_keep_snapshot q t) (none_more t p.end (above t.snap.end p.end short))
      ∙ (own_kept t ∙ sym (ap (λ (b : Bool). if b then record t { meta = packed_meta p; snap = p } else t) short))

  -- or if it is the snapshot with those entries
  pub folded_named : (t : PackedStore S) (noted : Option (Packed S)) → IsNotedFolded app t.snap t.log noted → IsNamedByEnd app t noted
  folded_named t None is = tt
  folded_named t (Some p) is = ap (λ (q : Packed S). packed_keep_snapshot q t) (sym is)

  -- late entries behind others are late behind them
  pub late_behind : (p : Packed S) (late more : List Entry) → with_late app p (late ++ more) ≡ with_late app (with_late app p late) more
  late_behind p [] more = refl
  late_behind p (e ∷ late) more = late_behind (record p { state = app.apply p.state e }) late more

  -- a snapshot takes what is kept of more entries, which are late then
  pub taken_noted : (old new : Packed S) (late mid all first : List Entry) (base : Option S) (k : SummaryView)
      → with_late app new mid ≡ with_state k (unwrap_or base (with_late app old late).state) → all ≡ mid ++ first
      → with_late app new all ≡ with_state k (state_past app base (with_late app old late) first)
  taken_noted old new late mid all first base k taken is =
      ap (with_late app new) is ∙ (late_behind new mid first ∙ ap (λ (p : Packed S). with_late app p first) taken)
