-- Texts are written and read as their bytes.
use Rattle.std.proofs.Common.{ℕ, ◌≡◌, List, length, Ok, Err, Result, subst, refl}
use Rattle.std.specs.Str.{IsUtf8, is_utf8}
use Rattle.std.proofs.lemmas.Bool.{false_from_ne_true}
use Rattle.std.proofs.lemmas.Result.{on_ok_weaker}
use Rattle.std.proofs.lemmas.Str.{IsUtf8-from_is_utf8, is_utf8-from_IsUtf8}
use Rattle.raft_codec.specs.declared.error.DecodeError.TheVariants.{Malformed}
use Rattle.raft_codec.specs.declared.error.Fault.TheVariants.{NotUtf8}
use Rattle.raft_codec.specs.Codec.{Writes, raw}
use Rattle.raft_wire.specs.Values.{text}

pub text_written : {E : Type 0} (bytes t old new : List ℕ) (r : Result (Unit {0}) E) → bytes ≡ t → IsUtf8 bytes → Writes raw bytes r old new → Writes text t r old new
unfolding text
text_written bytes t old new r e u w =
    subst (λ (x : List ℕ). Writes text x r old new) e (on_ok_weaker r (λ h. ((h.0, is_utf8-from_IsUtf8 bytes u), h.1)) w)

pub text_found : (front bytes new t : List ℕ) → raw.read front ≡ Ok (bytes, new) → IsUtf8 bytes → t ≡ bytes → text.read front ≡ Ok (t, new)
unfolding text
text_found front bytes new t r u e = rw (r, is_utf8-from_IsUtf8 bytes u, e) refl

pub text_refused : (front bytes new : List ℕ) → raw.read front ≡ Ok (bytes, new) → ¬ (IsUtf8 bytes) → text.read front ≡ Err (Malformed NotUtf8 (length front))
unfolding text
text_refused front bytes new r u = rw (r, false_from_ne_true (is_utf8 bytes) (λ h. u (IsUtf8-from_is_utf8 bytes h))) refl
