-- Answers to those who wait for an entry are true.
use Rattle.std.proofs.Common.{◌≡◌, ℕ, Bool, true, false, refl, sym, subst, eq-eqb, nat_eq}
use Rattle.std.specs.Prelude.{◌≢◌, if◌then◌else◌}
use Rattle.std.proofs.lemmas.Bool.{and_parts, eqb-true}
use Rattle.raft_state.specs.declared.ids.LogId.{LogId}
use Rattle.raft_state.specs.IdEquality.{log_id_eq}
use Rattle.raft_answers.specs.declared.answer.Answer.TheVariants as answers
use Rattle.raft_answers.specs.Laws.{AnswersAreTrue}

pub same_id : (a b : LogId ℕ) → log_id_eq nat_eq a b ≡ true → a ≡ b
same_id a b h =
    let parts = and_parts _ _ h in
    let leader = and_parts _ _ parts.0 in
    λ i. record {
      leader_id = record {
        term = eqb-true a.leader_id.term b.leader_id.term leader.0 i;
        node_id = eqb-true a.leader_id.node_id b.leader_id.node_id leader.1 i;
      };
      index = eqb-true a.index b.index parts.1 i;
    }

pub equal_id : (a : LogId ℕ) → log_id_eq nat_eq a a ≡ true
equal_id a = rw (eq-eqb a.leader_id.term a.leader_id.term refl, eq-eqb a.leader_id.node_id a.leader_id.node_id refl, eq-eqb a.index a.index refl) refl

is_ok : (b c : Bool) (i index : ℕ) → (if b then answers.Ok i else if c then answers.Failed else answers.Unknown) ≡ answers.Ok index
    → (b ≡ true) × (index ≡ i)
is_ok true c i index e = (refl, cc)
is_ok false true i index e = cc
is_ok false false i index e = cc

is_failed : (b c : Bool) (i : ℕ) → (if b then answers.Ok i else if c then answers.Failed else answers.Unknown) ≡ answers.Failed
    → (b ≡ false) × (c ≡ true)
is_failed true c i e = cc
is_failed false true i e = (refl, refl)
is_failed false false i e = cc

other : (a b : LogId ℕ) → log_id_eq nat_eq a b ≡ false → a ≢ b
other a b h same =
    let h2 : log_id_eq nat_eq a a ≡ false = subst (λ x. log_id_eq nat_eq a x ≡ false) (sym same) h in
    let t : log_id_eq nat_eq a a ≡ true = equal_id a in
    cc

pub answers_are_true : AnswersAreTrue
answers_are_true = record {
  ok = λ id p index e.
      (let f = is_ok (log_id_eq nat_eq p.log_id id) (nat_eq p.log_id.index id.index) id.index index e in (same_id p.log_id id f.0, f.1));
  failed = λ id p e. (let f = is_failed (log_id_eq nat_eq p.log_id id) (nat_eq p.log_id.index id.index) id.index e in
      (eqb-true p.log_id.index id.index f.1, other p.log_id id f.0));
}
