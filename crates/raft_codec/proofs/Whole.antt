-- Reading a whole input.
use Rattle.std.proofs.Common.{ℕ, ◌≡◌, ◌<◌, List, [], ◌++◌, length, Ok, Err, sym, ap, ◌∙◌, arith}
use Rattle.std.proofs.lemmas.List.{append-nil}
use Rattle.raft_codec.specs.declared.error.DecodeError.{DecodeError}
use Rattle.raft_codec.specs.declared.error.DecodeError.TheVariants.{OutOfMemory, Malformed}
use Rattle.raft_codec.specs.Codec.{Codec, IsCodec, Refuses, IsFound}
use Rattle.raft_codec.specs.CodecLaws.{same_answer}

module _ {X : Type 0} (c : Codec X) (h : IsCodec c) where
  pub stands : (bytes : List ℕ) (value : X) (rest : List ℕ) → c.read bytes ≡ Ok (value, rest) → rest ≡ [] → c.fits value × (bytes ≡ c.bytes value)
  stands bytes value rest e n =
      let found : X × List ℕ = (value, rest) in
      let w = h.written bytes found e in
      (w.0, w.1 ∙ ap (λ r. c.bytes value ++ r) n ∙ append-nil (c.bytes value))

  back : (value : X) (bytes : List ℕ) → c.fits value → bytes ≡ c.bytes value → c.read bytes ≡ Ok (value, [])
  back value bytes f b = ap c.read (b ∙ sym (append-nil (c.bytes value))) ∙ h.read_back value [] f

  pub refused : (e : DecodeError) (value : X) (bytes : List ℕ) → Refuses (c.read bytes) e → c.fits value → bytes ≡ c.bytes value → IsFound (Err e) value
  refused OutOfMemory value bytes r f b = tt
  refused (Malformed fault left) value bytes r f b = let k = back value bytes f b in absurd cc

  pub same : (one other : X) (bytes rest : List ℕ) → c.read bytes ≡ Ok (one, rest) → c.fits other → bytes ≡ c.bytes other → (one ≡ other) × (rest ≡ [])
  same one other bytes rest e f b =
      let x : X × List ℕ = (one, rest) in
      let y : X × List ℕ = (other, []) in
      let p = same_answer x y (sym e ∙ back other bytes f b) in
      (ap (λ (z : X × List ℕ). z.0) p, ap (λ (z : X × List ℕ). z.1) p)

  pub not_ended : (one other : X) (bytes rest : List ℕ) → c.read bytes ≡ Ok (one, rest) → 0 < length rest → c.fits other → bytes ≡ c.bytes other → ⊥
  not_ended one other bytes rest e l f b =
      let p = ap length (same one other bytes rest e f b).1 in
      absurd (omega (arith, p))
