-- Two entries are the same exactly if their test says so.
use Rattle.std.specs.Prelude.{ℕ, nat_eq, Bool, true, false, ◌&&◌, List, [], ◌∷◌, ◌≡◌, refl}
use Rattle.std.proofs.Common.{ap, rules}
use Rattle.std.specs.Ordering.{is_eq, nat_cmp}
use Rattle.std.specs.Cmp.Lexicographic.{pointwise}
use Rattle.raft_state.specs.declared.ids.LogId.{LogId}
use Rattle.raft_state.specs.declared.membership.Members.{Members}
use Rattle.raft_state.specs.Order.{log_id_cmp}
use Rattle.raft_state.specs.Same.{log_id_same, equal_of_is_eq, nat_same}
use Rattle.raft_store.specs.declared.entry.Entry.{Entry}
use Rattle.raft_store.specs.declared.entry.Payload.{Payload}
use Rattle.raft_store.specs.declared.entry.Payload.TheVariants.{Blank, Value, Membership}
use Rattle.raft_store.specs.declared.entry.Value as value
use Rattle.raft_store.specs.declared.entry.Value.TheVariants.{Number, Bytes}
use Rattle.raft_store.specs.Entries.{same_members, same_value, same_payload, same_entry}

both : (a b : Bool) → (a && b) ≡ true → (a ≡ true) × (b ≡ true)
both true b h = (refl, h)
both false b h = cc

join : (a b : Bool) → a ≡ true → b ≡ true → (a && b) ≡ true
join a b h k = rw (h, k) refl

module _ {X : Type 0} (E : X → X → Bool) where
  pub pointwise-is : ((x y : X) → E x y ≡ true → x ≡ y) → (xs ys : List X) → pointwise E xs ys ≡ true → xs ≡ ys
  pointwise-is same [] [] h = refl
  pointwise-is same [] (y ∷ ys) h = cc
  pointwise-is same (x ∷ xs) [] h = cc
  pointwise-is same (x ∷ xs) (y ∷ ys) h =
      let p : (E x y ≡ true) × (pointwise E xs ys ≡ true) = both (E x y) (pointwise E xs ys) h in
      let first : x ≡ y = same x y p.0 in
      let rest : xs ≡ ys = pointwise-is same xs ys p.1 in
      λ i. first i ∷ rest i

  pub pointwise-self : ((x : X) → E x x ≡ true) → (xs : List X) → pointwise E xs xs ≡ true
  pointwise-self self [] = refl
  pointwise-self self (x ∷ xs) = join _ _ (self x) (pointwise-self self xs)

nat-is : (a b : ℕ) → nat_eq a b ≡ true → a ≡ b
nat-is a b h = search (rules, h)

nat-self : (a : ℕ) → nat_eq a a ≡ true
nat-self a = search rules

pair-is : (a b : ℕ × Unit {0}) → (nat_eq a.0 b.0 && true) ≡ true → a ≡ b
pair-is a b h = let e : a.0 ≡ b.0 = nat-is a.0 b.0 (both (nat_eq a.0 b.0) true h).0 in λ i. (e i, tt)

pair-self : (a : ℕ × Unit {0}) → (nat_eq a.0 a.0 && true) ≡ true
pair-self a = join (nat_eq a.0 a.0) true (nat-self a.0) refl

members-is : (m n : Members ℕ (Unit {0})) → same_members m n ≡ true → m ≡ n
members-is m n h =
    let p : (pointwise (pointwise nat_eq) m.groups n.groups ≡ true) × (pointwise (λ a b. nat_eq a.0 b.0 && true) m.nodes n.nodes ≡ true) = both _ _ h in
    let g : m.groups ≡ n.groups = pointwise-is (pointwise nat_eq) (pointwise-is nat_eq nat-is) m.groups n.groups p.0 in
    let d : m.nodes ≡ n.nodes = pointwise-is (λ a b. nat_eq a.0 b.0 && true) pair-is m.nodes n.nodes p.1 in
    λ i. record { groups = g i; nodes = d i }

members-self : (m : Members ℕ (Unit {0})) → same_members m m ≡ true
members-self m =
    join _ _ (pointwise-self (pointwise nat_eq) (pointwise-self nat_eq nat-self) m.groups) (pointwise-self (λ a b. nat_eq a.0 b.0 && true) pair-self m.nodes)

value-is : (v w : value.Value) → same_value v w ≡ true → v ≡ w
value-is (Number n) (Number m) h = ap Number (nat-is n m h)
value-is (Number n) (Bytes cs) h = cc
value-is (Bytes bs) (Number m) h = cc
value-is (Bytes bs) (Bytes cs) h = ap Bytes (pointwise-is nat_eq nat-is bs cs h)

value-self : (v : value.Value) → same_value v v ≡ true
value-self (Number n) = nat-self n
value-self (Bytes bs) = pointwise-self nat_eq nat-self bs

payload-is : (p q : Payload) → same_payload p q ≡ true → p ≡ q
payload-is Blank Blank h = refl
payload-is Blank (Value w) h = cc
payload-is Blank (Membership n) h = cc
payload-is (Value v) Blank h = cc
payload-is (Value v) (Value w) h = ap Value (value-is v w h)
payload-is (Value v) (Membership n) h = cc
payload-is (Membership m) Blank h = cc
payload-is (Membership m) (Value w) h = cc
payload-is (Membership m) (Membership n) h = ap Membership (members-is m n h)

payload-self : (p : Payload) → same_payload p p ≡ true
payload-self Blank = refl
payload-self (Value v) = value-self v
payload-self (Membership m) = members-self m

id-self : (x : LogId ℕ) → is_eq (log_id_cmp nat_cmp x x) ≡ true
id-self x = search rules

-- entries that the test finds the same are the same
pub entry-is : (x y : Entry) → same_entry x y ≡ true → x ≡ y
entry-is x y h =
    let p : (is_eq (log_id_cmp nat_cmp x.log_id y.log_id) ≡ true) × (same_payload x.payload y.payload ≡ true) = both _ _ h in
    let d : x.log_id ≡ y.log_id = log_id_same nat_cmp nat_same x.log_id y.log_id (equal_of_is_eq _ p.0) in
    let e : x.payload ≡ y.payload = payload-is x.payload y.payload p.1 in
    λ i. record { log_id = d i; payload = e i }

-- an entry is the same as itself
pub entry-self : (x : Entry) → same_entry x x ≡ true
entry-self x = join _ _ (id-self x.log_id) (payload-self x.payload)
