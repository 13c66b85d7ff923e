-- A variant stands behind its tag.
use Rattle.std.proofs.Common.{ℕ, ◌≡◌, true, eqb, List, [], ◌∷◌, ◌++◌, Ok, sym, ap, subst, ◌∙◌}
use Rattle.raft_codec.specs.Codec.{Codec, IsCodec, ◌>>=◌, tag_at}
use Rattle.raft_codec.specs.CodecLaws.{Stands, bind_ok, answered, same_answer, tag_is}

module _ {Y : Type 0} (whole : Codec Y) (front : List ℕ) (found : Y × List ℕ) (tag : ℕ × List ℕ) (k : ℕ) where
  -- a variant that holds nothing
  pub bare_stands : (y : Y) → tag_at front ≡ Ok tag → eqb tag.0 k ≡ true → answered (y, tag.1) ≡ Ok found → whole.fits y → whole.bytes y ≡ k ∷ [] → Stands whole front found
  bare_stands y t e r f b = subst (Stands whole front) (same_answer (y, tag.1) found r) (f, tag_is front tag k t e ∙ ap (λ bs. bs ++ tag.1) (sym b))

  -- a variant that holds a value
  pub variant_stands : {X : Type 0} (c : Codec X) → IsCodec c → (make : X → Y) → tag_at front ≡ Ok tag → eqb tag.0 k ≡ true → (c.read tag.1 >>= λ x. answered (make x.0, x.1)) ≡ Ok found
      → ((x : X) → c.fits x → whole.fits (make x)) → ((x : X) → whole.bytes (make x) ≡ k ∷ c.bytes x) → Stands whole front found
  variant_stands c h make t e r f b =
      let x = bind_ok (c.read tag.1) _ found r in
      let w = h.written tag.1 x.0 x.1 in
      subst (Stands whole front) (same_answer (make x.0.0, x.0.1) found x.2)
      (f x.0.0 w.0, tag_is front tag k t e ∙ ap (λ bs. k ∷ bs) w.1 ∙ ap (λ bs. bs ++ x.0.1) (sym (b x.0.0)))
