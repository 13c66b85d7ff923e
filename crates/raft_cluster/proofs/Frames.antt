-- The messages in frames that leave.
use Rattle.std.proofs.Common.{ℕ, ◌≡◌, ◌∙◌, List, [], ◌∷◌, ◌++◌, Option, None, Some, refl, sym, ap, subst, inl, inr, ⊎_elim}
use Rattle.std.specs.Prelude.{◌⊎◌}
use Rattle.std.specs.List.{flat_map}
use Rattle.std.specs.Option.{option_to_list}
use Rattle.std.proofs.lemmas.Grind.{flat_map-append}
use Rattle.std.proofs.lemmas.List.{append-nil}
use Rattle.raft_codec.specs.Codec.{Codec}
use Rattle.proof_packed.specs.Nodes.{PackedMessage}
use Rattle.proof_packed.specs.Stores.{Application}
use Rattle.proof_requests.specs.raft_core.raft_peers.declared.output.Output.{Output}
use Rattle.proof_requests.specs.raft_core.raft_peers.declared.output.Output.TheVariants as outputs
use Rattle.proof_requests.specs.raft_core.raft_peers.Sends.{IsPreparing, LeaveAll, LeavesWhole, Prepares, Sends}
use Rattle.proof_requests.specs.raft_core.raft_peers.Parts.{Outgoing, outgoing_of}
use Rattle.raft_cluster.specs.Clusters.{AreAllBut, AreOf, Carries}
use Rattle.proof_requests.specs.Frames.{frames_of as frames_in}
use Rattle.proof_requests.proofs.Sent.{frames_more}
use Rattle.raft_cluster.specs.Outputs.{AreQuiet}
use Rattle.raft_cluster.proofs.Leaving.{quiet_parts}

module _ {S : Type 0} (app : Application S) (codec : Codec S) where
  pub carries_none : Carries app codec [] []
  carries_none = record { carried = []; each = tt; messages = refl }

  of_more : (xs ys : List (Option (PackedMessage S))) (fs gs : List (List ℕ)) → AreOf app codec xs fs → AreOf app codec ys gs
      → AreOf app codec (xs ++ ys) (fs ++ gs)
  of_more [] ys [] gs a b = b
  of_more [] ys (f ∷ fs) gs a b = absurd a
  of_more (x ∷ xs) ys [] gs a b = absurd a
  of_more (x ∷ xs) ys (f ∷ fs) gs a b = (a.0, of_more xs ys fs gs a.1 b)

  all_but_both : (sent more bag bags : List (PackedMessage S)) → AreAllBut app codec sent bag → AreAllBut app codec more bags
      → AreAllBut app codec (sent ++ more) (bag ++ bags)
  all_but_both sent more [] bags a b = subst (λ (xs : List (PackedMessage S)). AreAllBut app codec (xs ++ more) bags) (sym a) b
  all_but_both sent more (m ∷ bag) bags (inl (brings, a)) b = inl (brings, all_but_both sent more bag bags a b)
  all_but_both sent more (m ∷ bag) bags (inr (rest, is, a)) b = inr (rest ++ more, ap (λ xs. xs ++ more) is, all_but_both rest more bag bags a b)

  -- more frames leave
  pub carries_more : (bag more : List (PackedMessage S)) (fs gs : List (List ℕ)) → Carries app codec bag fs → Carries app codec more gs
      → Carries app codec (bag ++ more) (fs ++ gs)
  carries_more bag more fs gs a b = record {
    carried = a.carried ++ b.carried;
    each = of_more a.carried b.carried fs gs a.each b.each;
    messages = subst (λ (ms : List (PackedMessage S)). AreAllBut app codec ms (bag ++ more)) (sym (flat_map-append option_to_list a.carried b.carried))
        (all_but_both (flat_map option_to_list a.carried) (flat_map option_to_list b.carried) bag more a.messages b.messages);
  }

  -- what leaves before a record is on disk has no message
  pub carries_quiet : (out : List (Output S)) → AreQuiet codec out → Carries app codec [] (frames_in out)
  carries_quiet [] q = carries_none
  carries_quiet (outputs.Send to bytes ∷ out) q =
      (let rest = carries_quiet out q.1 in record { carried = None ∷ rest.carried; each = (q.0, rest.each); messages = rest.messages })
  carries_quiet (outputs.Append bytes end next ∷ out) q = absurd q.0
  carries_quiet (outputs.Install p ∷ out) q = absurd q.0
  carries_quiet (outputs.Execute e ∷ out) q = absurd q.0
  carries_quiet (outputs.Reply r ∷ out) q = carries_quiet out q.1
  carries_quiet (outputs.Read r ∷ out) q = carries_quiet out q.1

  -- a message leaves whole, or not yet
  one_carried : (start : ℕ) (m : PackedMessage S) (out : List (Output S)) → LeavesWhole app codec start m out ⊎ IsPreparing app codec start m out
      → Carries app codec (m ∷ []) (frames_in out)
  one_carried start m out (inl w) =
      subst (λ (o : List (Output S)). Carries app codec (m ∷ []) (frames_in o)) (sym w.leaves)
      (record {
        carried = Some m ∷ [];
        each = (record { start = start; sent = w.packet; brings = w.of_message; fits = w.fits; is = refl }, tt);
        messages = inr ([], refl, refl);
      })
  one_carried start m out (inr p) =
      subst (λ (o : List (Output S)). Carries app codec (m ∷ []) (frames_in o)) (sym p.leaves)
      (record { carried = []; each = tt; messages = inl (p.brings, refl) })

  all_carried : (start : ℕ) (ms : List (PackedMessage S)) (out : List (Output S)) → LeaveAll app codec start ms out
      → Carries app codec ms (frames_in out)
  all_carried start [] out h = subst (λ (o : List (Output S)). Carries app codec [] (frames_in o)) (sym h) carries_none
  all_carried start (m ∷ ms) out (front, rest, is, one, others) =
      subst (λ (o : List (Output S)). Carries app codec (m ∷ ms) (frames_in o)) (sym is)
      (subst (Carries app codec (m ∷ ms)) (sym (frames_more front rest))
      (carries_more (m ∷ []) ms (frames_in front) (frames_in rest) (one_carried start m front one) (all_carried start ms rest others)))

  -- parts of one whose snapshot is encoded
  prepared_carried : (start : ℕ) (old new : List (PackedMessage S)) (going going' : List Outgoing) (out : List (Output S))
      → Prepares app codec start old going out new going' → Carries app codec [] (frames_in out)
  prepared_carried start old new going going' out p =
      ⊎_elim (λ none. subst (λ (o : List (Output S)). Carries app codec [] (frames_in o)) (sym none) carries_none)
      (λ one. carries_quiet out (quiet_parts codec start (outgoing_of codec one.0) out one.2.parts)) p.leaves

  pub carries_said : (start : ℕ) (old new : List (PackedMessage S)) (going going' : List Outgoing) (ms : List (PackedMessage S))
      (out : List (Output S)) → Sends app codec start ms old going out new going' → Carries app codec ms (frames_in out)
  carries_said start old new going going' ms out s =
      subst (λ (o : List (Output S)). Carries app codec ms (frames_in o)) (sym s.leaves)
      (subst (Carries app codec ms) (sym (frames_more s.frames s.parts))
      (subst (λ (sent : List (PackedMessage S)). Carries app codec sent (frames_in s.frames ++ frames_in s.parts)) (append-nil ms)
      (carries_more ms [] (frames_in s.frames) (frames_in s.parts) (all_carried start ms s.frames s.sends.leave)
      (prepared_carried start s.waiting new going going' s.parts s.prepares))))
