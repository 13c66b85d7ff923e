-- The codecs of ids, votes and memberships are inverse to their writers.
use Rattle.std.proofs.Common.{ℕ, ◌≡◌, Bool, true, false, List, [], ◌∷◌, ◌++◌, Ok, refl, sym, ap, subst, ◌∙◌, inl, inr, ◌&&◌}
use Rattle.std.specs.Prelude.{nat_eq}
use Rattle.std.specs.Cmp.Lexicographic.{pointwise, same_text}
use Rattle.std.specs.Ordering.{nat_cmp}
use Rattle.std.specs.Str.{is_utf8}
use Rattle.std.proofs.lemmas.Bool.{eq-eqb}
use Rattle.raft_state.specs.declared.membership.Members.{Members}
use Rattle.raft_state.specs.Members.{learner_ids}
use Rattle.raft_codec.specs.Codec.{IsCodec, number, flag, raw, optional, list, pair}
use Rattle.raft_codec.specs.CodecLaws.{Stands, bind_ok, chosen, same_answer, number_is, flag_is, raw_is, optional_is, list_is, pair_is, by_parts_is}
use Rattle.raft_wire.specs.Values.{log_id, vote, text, Sent, sent_lists, sent, made, is_sent, membership, stored_membership, snapshot_meta}

pub log_id_is : IsCodec log_id
unfolding log_id
log_id_is = by_parts_is _ _ _ (λ id. refl) (λ p. refl) (pair_is number (pair number number) number_is (pair_is number number number_is number_is))

pub vote_is : IsCodec vote
unfolding vote
vote_is = by_parts_is _ _ _ (λ v. refl) (λ p. refl) (pair_is number (pair number flag) number_is (pair_is number flag number_is flag_is))

pub text_is : IsCodec text
unfolding text
text_is = record {
  written = λ front found e.
      let t = bind_ok (raw.read front) _ found e in
      elim (chosen (is_utf8 t.0.0) _ _ _ t.2) [
        | inl h ↦
            let w = raw_is.written front t.0 t.1 in
            subst (Stands text front) (same_answer t.0 found h.1) ((w.0, h.0), w.1)
        | inr h ↦ absurd cc
      ];
  some = raw_is.some;
  read_back = λ t rest f. rw (raw_is.read_back t rest f.0, f.1) refl;
}

-- ---- memberships

both_hold : (a b : Bool) → (a && b) ≡ true → (a ≡ true) × (b ≡ true)
both_hold true true e = (refl, refl)
both_hold true false e = absurd cc
both_hold false b e = absurd cc

same_lists : (xs ys : List (List ℕ)) → pointwise (pointwise nat_eq) xs ys ≡ true → xs ≡ ys
same_lists [] [] e = refl
same_lists [] (y ∷ ys) e = absurd cc
same_lists (x ∷ xs) [] e = absurd cc
same_lists (x ∷ xs) (y ∷ ys) e =
    let p = both_hold (pointwise nat_eq x y) (pointwise (pointwise nat_eq) xs ys) e in
    let q : x ≡ y = same_text x y (sym p.0) in
    let r : xs ≡ ys = same_lists xs ys p.1 in
    cc

list_itself : (xs : List ℕ) → pointwise nat_eq xs xs ≡ true
list_itself [] = refl
list_itself (x ∷ xs) = rw (eq-eqb x x refl, list_itself xs) refl

lists_itself : (xs : List (List ℕ)) → pointwise (pointwise nat_eq) xs xs ≡ true
lists_itself [] = refl
lists_itself (x ∷ xs) = rw (list_itself x, lists_itself xs) refl

was_sent : (m : Members ℕ (Unit {0})) (s : Sent) → is_sent m s ≡ true → sent m ≡ s
was_sent m s e =
    let p = both_hold (pointwise (pointwise nat_eq) m.groups s.0) (pointwise nat_eq (learner_ids nat_cmp m) s.1) e in
    let g : m.groups ≡ s.0 = same_lists m.groups s.0 p.0 in
    let l : learner_ids nat_cmp m ≡ s.1 = same_text (learner_ids nat_cmp m) s.1 (sym p.1) in
    λ i. (g i, l i)

sent_itself : (m : Members ℕ (Unit {0})) → is_sent m (sent m) ≡ true
sent_itself m = rw (lists_itself m.groups, list_itself (learner_ids nat_cmp m)) refl

sent_lists_is : IsCodec sent_lists
sent_lists_is = pair_is (list (list number)) (list number) (list_is (list number) (list_is number number_is)) (list_is number number_is)

pub membership_is : IsCodec membership
unfolding membership
membership_is = record {
  written = λ front found e.
      let s = bind_ok (sent_lists.read front) _ found e in
      elim (chosen (is_sent (made s.0.0) s.0.0) _ _ _ s.2) [
        | inl h ↦
            let w = sent_lists_is.written front s.0 s.1 in
            let same = was_sent (made s.0.0) s.0.0 h.0 in
            subst (Stands membership front) (same_answer (made s.0.0, s.0.1) found h.1) (
              (subst sent_lists.fits (sym same) w.0, ap made same),
              w.1 ∙ ap (λ (t : Sent). sent_lists.bytes t ++ s.0.1) (sym same),
            )
        | inr h ↦ absurd cc
      ];
  some = λ m. sent_lists_is.some (sent m);
  read_back = λ m rest f.
      let itself : is_sent (made (sent m)) (sent m) ≡ true = subst (λ n. is_sent n (sent m) ≡ true) (sym f.1) (sent_itself m) in
      rw (sent_lists_is.read_back (sent m) rest f.0, itself) (ap (λ n. Ok (n, rest)) f.1);
}

pub stored_membership_is : IsCodec stored_membership
unfolding stored_membership
stored_membership_is = by_parts_is _ _ _ (λ m. refl) (λ p. refl) (pair_is (optional log_id) membership (optional_is log_id log_id_is) membership_is)

pub snapshot_meta_is : IsCodec snapshot_meta
unfolding snapshot_meta
snapshot_meta_is = by_parts_is _ _ _ (λ m. refl) (λ p. refl)
    (pair_is (optional log_id) (pair stored_membership text) (optional_is log_id log_id_is) (pair_is stored_membership text stored_membership_is text_is))
