-- What several reads or writes move, and how they fail.
use Rattle.std.specs.Prelude.{◌≡◌, ◌⊎◌, Bool, false, Err, ℕ, ◌+◌, ◌-◌, List, [], ◌++◌, take, drop, length, Option}
use Rattle.std.proofs.Common.{sym, ap, ◌∙◌, subst, inl, inr, arith}
use Rattle.std.proofs.Math.Seq.{take-add}
use Rattle.std.proofs.lemmas.List.{length-drop, take_all}
use Rattle.std.proofs.KnownBytes.{Appends-trans, Consumes-whole}
use Rattle.std.specs.Io.KnownBytes.{Appends, IsAtEnd}
use Rattle.raft_world.specs.declared.streams.Failure.{Failure}
use Rattle.raft_world.specs.declared.streams.Failure.TheVariants as failure
use Rattle.raft_world.specs.Simulated.{Takes, IsInput, ReadsBy}

pub takes_all : (known rest : Option (List ℕ)) (old new : List ℕ) → old ≡ [] → Takes known rest old new → IsAtEnd rest → IsInput known new
takes_all known rest old new none taken end = Consumes-whole known rest taken.0 (λ xs. new ≡ xs) taken.2 end (taken.1 ∙ ap (λ l. l ++ taken.0) none)

pub appends_more : (a b c : Option (List ℕ)) (text : List ℕ) (at n : ℕ) → Appends a b (take at text) → Appends b c (take n (take (length text - at) (drop at text)))
    → Appends a c (take (at + n) text)
appends_more a b c text at n first then =
    let rest : take (length text - at) (drop at text) ≡ drop at text = take_all _ (drop at text) (omega (arith, length-drop at text)) in
    subst (Appends a c) (ap (λ l. take at text ++ take n l) rest ∙ sym (take-add at n text)) (Appends-trans a b c _ _ first then)

either : (before mid after : Bool) → (mid ≡ before) ⊎ (mid ≡ false) → after ≡ mid → (after ≡ before) ⊎ (after ≡ false)
either before mid after (inl p) q = inl (q ∙ p)
either before mid after (inr p) q = inr (q ∙ p)

last : (before mid after : Bool) → (mid ≡ before) ⊎ (mid ≡ false) → (after ≡ mid) ⊎ (after ≡ false) → (after ≡ before) ⊎ (after ≡ false)
last before mid after h (inl q) = either before mid after h q
last before mid after h (inr q) = inr q

-- a read after reads that didn't fail
pub reads_on : (before mid after : Bool) (e : Failure) → (mid ≡ before) ⊎ (mid ≡ false) → ReadsBy {X = Unit {0}} mid after (Err e) → ReadsBy {X = Unit {0}} before after (Err e)
reads_on before mid after failure.Read h read = read
reads_on before mid after failure.Write h read = read
reads_on before mid after (failure.Schedule e) h read = read
reads_on before mid after (failure.World e) h read = last before mid after h read
reads_on before mid after (failure.Unmet u) h read = read
