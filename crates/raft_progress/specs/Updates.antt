-- What an update of a table requires and answers.
use Rattle.std.specs.Prelude.{Bool, true, false, List, Some, ◌≡◌, Result, Ok, Err}
use Rattle.std.specs.Borrow.{Bor}
use Rattle.std.specs.Fn.{Once}
use Rattle.std.specs.declared.cmp.Ordering.{Ordering}
use Rattle.std.specs.Ordering.{is_ge}
use Rattle.raft_progress.specs.Table.{Table, get, is_in, updated, granted}

module _ {ID V P Q : Type 0} (id_cmp : ID → ID → Ordering) (cmp : P → P → Ordering) (measure : V → P) where
  -- the id's value, if it has one, is not above v
  abbrev pub Rises : Table ID V P Q → ID → V → Type 0
  Rises t id v = (was : V) → get id_cmp t id ≡ Some was → is_ge (cmp (measure v) (measure was)) ≡ true

  -- the closure may be called on the id's value, and what it gives is not below it
  pub record Raises {F : Type 0} (g : Once F (V × Unit {0}) V) (f : F) (t : Table ID V P Q) (id : ID) : Type 0 where
    pub callable : (was : V) → get id_cmp t id ≡ Some was → g.pre f (was, tt)
    pub rises : (was is : V) → get id_cmp t id ≡ Some was → g.post f (was, tt) is → is_ge (cmp (measure is) (measure was)) ≡ true

module _ {ID V P Q F : Type 0} (id_cmp : ID → ID → Ordering) (g : Once F (V × Unit {0}) V) (f : F) where
  -- the id has a row, and the new table has there what the closure gave for its value
  pub record Given (old : Table ID V P Q) (id : ID) (new : Table ID V P Q) : Type 0 where
    pub was : V
    pub is : V
    pub stood : get id_cmp old id ≡ Some was
    pub given : g.post f (was, tt) is
    pub stands : new ≡ updated id_cmp old id is

  -- nothing changes if the id has no row
  abbrev pub Replaces : Table ID V P Q → ID → Bool → Table ID V P Q → Type 0
  Replaces old id true new = Given old id new
  Replaces old id false new = (is_in id_cmp old id ≡ false) × (new ≡ old)

module _ {ID V P Q : Type 0} (id_cmp : ID → ID → Ordering) (is_quorum : Q → List ID → Bool) (cmp : P → P → Ordering) (measure : V → P) where
  -- an update's answer: the new table's granted value; if the id has no row it is an error, and nothing changed
  abbrev pub Answers : Table ID V P Q → ID → Table ID V P Q → Result (Bor P) (Bor P) → Table ID V P Q → Type 0
  Answers old id changed (Ok p) new = (is_in id_cmp old id ≡ true) × (new ≡ changed) × (p.now ≡ granted is_quorum cmp measure new)
  Answers old id changed (Err p) new = (is_in id_cmp old id ≡ false) × (new ≡ old) × (p.now ≡ granted is_quorum cmp measure new)

  -- the same for an update by a closure
  abbrev pub AnswersWith : {F : Type 0} → Once F (V × Unit {0}) V → F → Table ID V P Q → ID → Result (Bor P) (Bor P) → Table ID V P Q → Type 0
  AnswersWith g f old id (Ok p) new = Given id_cmp g f old id new × (p.now ≡ granted is_quorum cmp measure new)
  AnswersWith g f old id (Err p) new = (is_in id_cmp old id ≡ false) × (new ≡ old) × (p.now ≡ granted is_quorum cmp measure new)
