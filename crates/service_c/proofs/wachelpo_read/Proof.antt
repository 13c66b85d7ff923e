-- `wachelpo_read` meets its contract: a walk of its MIR. The host is lent to `read` for a lifetime that is made for the call, and comes back once it is ended.
use Rattle.std.proofs.Common.{ℕ, ◌≤◌, List, [], ◌∷◌, ◌++◌, length, refl, sym, w64, MutBor}
use seplogic.Ra.Ura.{Ura}
use base.Fraction.{full_share}
use mir.Syntax.{named}
use mir.Val.{Val, vptr}
use base.Logic.{SProp, ent, sep, via, snd∗, never, never_e, id⊢}
use base.Fml.{Lft, GName, Share, ftrue, flft, flent, fsep}
use prog.Memory.{Memory}
use prog.Routine.{Routine}
use prog.Wp.{Calls, Loops, WpFn, Tables}
use types.Logic.{Logic, sem}
use types.SemTy.{Body}
use contract.Monad.{Fun, fact}
use contract.Running.{tables, tables_of}
use types.Kit.{‵, raw, ◌⊛◌, some, later, ◌$◌, ◌∵◌, !, qed, by, move, drop, keep, use1, split, join, pick, fsplit, fjoin, fpick, rewrite, show, suffices, frame, await, done}
use types.Tokens.{lft_new, lft_end, lent_back, res_agree}
use types.Part.{agg, whole, sub}
use types.Run.{and_then, no_more, addr, fld, from, hop, stop, returns, enter}
use types.ByLocal.{alloc_all, pass_all, free_all, look_at, look_in_at, get, get_in, through, sets, lands_as}
use sound.WpLaws.{FmC, fm_of, WpFn-mono}
use denote.Exit.{yes, left, Last}
use denote.RattleType.{RattleType, owns}
use denote.Laws.{Is, shows}
use denote.Memory.{part_at, mem}
use denote.Plain.{uint_Lawful}
use denote.Builtin.{u8, usize}
use denote.Signature.{Slot, plain, mut_slice_of}
use denote.Slice.{MutSlice, Room, slice_val, mut_slice_vals, mut_slice_Tells}
use denote.Ref.{MutRef}
use denote.Lend.{lends_ref}
use denote.RawPtr.{Ptr, block_ptr, null_ptr, RawPtr, rawptr_vals, rawptr_Tells, lies_at}
use denote.Steps.{peeks, heard, nothing}
use denote.Triple.Statement.{Contract, Triple}
use denote.Triple.Call.{calls_at}
use denote.Triple.Clauses.{ensured, Lasts, lasts}
use denote.Triple.Entry.{Args, on_entry}
use denote.Triple.Spec.{Meets, triple_of}
use denote.Triple.Table.{entered}
use denote.Triple.Walked.{says, Stay, Stays, walk_of, stay_dropped, Goes-dropped, ends_at, walked, walk_Meets}
use Rattle.service_host.specs.declared.host.Host.{Host}
use Rattle.service_host.specs.contracts.host.Host.{the_row}
use Rattle.service_c.specs.contracts.read as of
use Rattle.service_c.proofs.read.Symbol.{name as #callee}
use Rattle.service_c.proofs.read.Met as of_thm
use Rattle.service_c.specs.contracts.wachelpo_read.Key.{name as key}
use Rattle.service_c.specs.contracts.wachelpo_read as f
use Rattle.service_c.proofs.wachelpo_read.Statement as stated
use Rattle.service_c.proofs.wachelpo_read.Code as code

-- what is said of the slice at the end is what the call of `read` says of it
abbrev slice : Slot 1
slice = mut_slice_of (0 ∷ []) tt (plain (λ _. u8))

abbrev passes : Stay slice yes
passes = record { fit = λ κs y w. Unit {0}; has = λ κs y w vs. left ((slice.row κs).exit yes) y w }

abbrev stayed : Stays (f.ended).signature.params (f.ended).kept
stayed = (stay_dropped _ yes, (passes, tt))

abbrev R : RattleType
R = the_row

module _ {M : Type 1} {𝓤 : Ura M} (𝓛 : Logic 𝓤) (at_mem : Memory → SProp 𝓤) (run : Routine → Fun 𝓤) where
  abbrev Of : Contract 𝓤
  Of = triple_of 𝓛 of.signature (of.spec 𝓛 at_mem run)

module _ {M : Type 1} {𝓤 : Ura M} (𝓛 : Logic 𝓤) (at_mem : Memory → SProp 𝓤) (run : Routine → Fun 𝓤) (C : Calls 𝓤 𝓛.H) (Λ : Loops 𝓤 𝓛.H) (fm : FmC 𝓤 𝓛.H 𝓛.laws C)
    (known : Triple 𝓤 (C #callee) (Of 𝓛 at_mem run)) (λ₀ : Lft) (q : Share) (bs : MutBor (List ℕ)) (room : Room u8 (length bs.now)) (x : Host) where
  open 𝓛 use {H}

  abbrev passed : Ptr → List Val × (List Val × Unit {0})
  passed p = (rawptr_vals p, (mut_slice_vals bs, tt))

  abbrev bound : Ptr → (walk_of 𝓛 f.ended stayed (f.clauses 𝓛 at_mem run)).Ghost
  bound p = (((λ₀, tt), (q, tt), tt, (p, (bs, tt)), passed p), x)

  abbrev Entry : Ptr → SProp 𝓤
  Entry p = on_entry 𝓛 f.signature (λ₀, tt) (q, tt) (p, (bs, tt)) (passed p)

  abbrev Runs : Ptr → SProp 𝓤
  Runs p = WpFn 𝓤 H C Λ code.function (rawptr_vals p ++ (slice_val bs.ref_ptr (length bs.now) ∷ [])) ((walk_of 𝓛 f.ended stayed (f.clauses 𝓛 at_mem run)).post (bound p))

  module _ (b o : ℕ) where
    -- the end: a host lies there again
    exits : (r : ℕ) (v : Val) (y : Host) (w : Last ((MutSlice (named 0) λ₀ u8).exit yes) bs) → r ≤ length bs.now
        → ent 𝓤 (sep 𝓤 (sem 𝓛 (part_at R full_share y b o)) (sep 𝓤 (sem 𝓛 (usize.own_val r (v ∷ []))) (sep 𝓤 (sep 𝓤 (sem 𝓛 (flft λ₀ q)) (sem 𝓛 ftrue)) (sem 𝓛 (fsep (left ((MutSlice (named 0) λ₀ u8).exit yes) bs w) ftrue)))))
        ((walk_of 𝓛 f.ended stayed (f.clauses 𝓛 at_mem run)).post (bound (block_ptr b o)) v)
    exits r v y w low =
        qed 𝓛 (‵ (part_at R full_share y b o) ∷ ‵ (usize.own_val r (v ∷ [])) ∷ (‵ (flft λ₀ q) ⊛ ‵ ftrue) ∷ ‵ (fsep (left ((MutSlice (named 0) λ₀ u8).exit yes) bs w) ftrue) ∷ []) ∵
        suffices ! _ (ends_at 𝓛 f.ended stayed (f.clauses 𝓛 at_mem run) (bound (block_ptr b o)) v r (tt, (w, tt)) (tt, (tt, tt))) $
        move ! (3 ∷ []) $ nothing ! $ join ! $
        -- [what is had of the parameters; the host; the result; the token]
        move ! (0 ∷ 2 ∷ []) $ join ! $ move ! (2 ∷ 0 ∷ []) $ join ! $ frame ! $
        show ! (λ (h : Host). sep 𝓤 (sem 𝓛 (lies_at R full_share (block_ptr b o) h)) (fact 𝓤 (r ≤ length bs.now))) y $ says ! low $ done !

    walk : ent 𝓤 (sep 𝓤 (sem 𝓛 (part_at R full_share x b o)) (Entry (block_ptr b o))) (Runs (block_ptr b o))
    walk =
        qed 𝓛 (‵ (part_at R full_share x b o) ∷ (‵ (flft λ₀ q) ⊛ ‵ ftrue) ∷ ‵ (owns (RawPtr ∷ MutSlice (named 0) λ₀ u8 ∷ []) (block_ptr b o, (bs, tt)) (passed (block_ptr b o))) ∷ []) ∵
        enter ! C Λ code.function (vptr b o ∷ slice_val bs.ref_ptr (length bs.now) ∷ []) _ $
        alloc_all ! (λ l. pass_all ! refl ((tt, tt), ((tt, (tt, (record { fits = room.0 }, tt))), tt)) $
        -- &mut *node.cast()
        sets ! (addr ! (through ! refl (stop !))) refl (tt, tt) $
        -- room
        sets ! (addr ! (from ! (fld ! refl (hop ! (look_in_at ! 2 (sub ! 0 refl (whole !))) (stop !))))) refl (tt, tt) $
        sets ! (agg ! (and_then ! (get ! refl) (and_then ! (get_in ! (fld ! refl (stop !)) (sub ! 1 refl (whole !))) (no_more !)))) refl (tt, (tt, (record { fits = room.0 }, tt))) $
        lft_new ! tt (λ α. let κ : Lft = α ∷ [] in move ! (1 ∷ 0 ∷ []) $
        use1 𝓛 (later (some (λ (γ : GName). ‵ ((MutRef (named 0) κ R).own_val (record { ref_ptr = (b, o); ghost_name = γ; now = x }) (vptr b o ∷ [])) ⊛ ‵ (flent κ (Body (mem R) b o γ)))))
        (lends_ref 𝓛 R (named 0) κ x b o) $ await ! tt $ pick ! (λ γ. split ! $
        -- [the reference; the right to the host; its token; the slice's token; what the parameters own; the locals]
        let s : MutBor Host = record { ref_ptr = (b, o); ghost_name = γ; now = x } in
        let a : Args of.signature (κ, (λ₀, tt)) = (s, (bs, tt)) in
        let y : (Of 𝓛 at_mem run).Ghost = (((κ, (λ₀, tt)), (full_share, (q, tt)), tt, a, (vptr b o ∷ [], (mut_slice_vals bs, tt))), tt) in
        move ! (4 ∷ []) $ fsplit ! $ drop ! $ fsplit ! $ move ! (1 ∷ []) $ drop ! $
        -- [the slice; the reference; ..]
        nothing ! $ move ! (1 ∷ 0 ∷ []) $ fjoin ! $ move ! (1 ∷ 0 ∷ []) $ fjoin ! $
        -- [the arguments; the right to the host; its token; the slice's token; ..]
        move ! (2 ∷ 3 ∷ []) $ join ! $ join ! $ nothing ! $ move ! (1 ∷ 0 ∷ []) $ join ! $ use1 𝓛 (raw ((Of 𝓛 at_mem run).pre y)) (id⊢ 𝓤 ((Of 𝓛 at_mem run).pre y)) $
        -- read(.., room)
        calls_at ! fm (Of 𝓛 at_mem run) known y (and_then ! (get ! refl) (and_then ! (get ! refl) (no_more !))) (λ v.
        use1 𝓛 (later (some (λ (r : ℕ). ((‵ (flft κ full_share) ⊛ (‵ (flft λ₀ q) ⊛ ‵ ftrue)) ⊛ ‵ (usize.own_val r (v ∷ []))) ⊛ raw (ensured 𝓛 of.ended (of.clauses 𝓛 at_mem run) (κ, (λ₀, tt)) a tt r)))) (id⊢ 𝓤 _) $ await ! tt $ pick ! (λ r.
        split ! $ move ! (1 ∷ []) $ use1 𝓛 (some (λ (ws : Lasts of.ended (κ, (λ₀, tt)) a). ‵ (lasts of.ended (κ, (λ₀, tt)) a ws) ⊛ raw (fact 𝓤 (r ≤ length bs.now)))) (id⊢ 𝓤 _) $ pick ! (λ ws. split ! $ move ! (1 ∷ []) $
        heard ! (r ≤ length bs.now) (λ low. fsplit ! $ fsplit ! $ move ! (3 ∷ []) $ split ! $ split ! $ lft_end ! tt $
        -- [†κ; the slice's token; the result; the reference's last value; its borrow; true; the right to the host; ..]
        move ! (0 ∷ 6 ∷ 3 ∷ []) $ lent_back ! tt $ fpick ! (λ z. fsplit ! $ move ! (2 ∷ 1 ∷ []) $ res_agree ! R.coded (λ e. rewrite ! 2 (λ (u : Host). ‵ ((mem R).own_at u b o)) (sym e) refl $
        move ! (4 ∷ 2 ∷ []) $
        peeks ! usize (Is usize) (shows 𝓛 usize) r (v ∷ []) (λ is. lands_as ! refl refl ((uint_Lawful 𝓛 w64).typed r _ is).0 $
        returns ! (look_at ! 0 refl) $ free_all ! refl $ keep ! (1 ∷ 0 ∷ 4 ∷ 6 ∷ []) $ by ! (exits r v ws.0 ws.1.0 low)))))))))))

  -- by the pointer's form: nothing lies at null
  at_each : (p : Ptr) → ent 𝓤 (sep 𝓤 (Entry p) (sem 𝓛 (lies_at R full_share p x))) (Runs p)
  at_each (block_ptr b o) = qed 𝓛 (raw (Entry (block_ptr b o)) ∷ ‵ (part_at R full_share x b o) ∷ []) ∵ move ! (1 ∷ []) $ by ! (walk b o)
  at_each null_ptr = via 𝓤 (never 𝓤) (snd∗ 𝓤 (Entry null_ptr) (never 𝓤)) (never_e 𝓤 _)

meets : {M : Type 1} {𝓤 : Ura M} (𝓛 : Logic 𝓤) (at_mem : Memory → SProp 𝓤) (run : Routine → Fun 𝓤) (𝓣 : Tables 𝓤 𝓛.H)
    → Triple 𝓤 (𝓣.C #callee) (Of 𝓛 at_mem run) → Meets 𝓛 f.signature (WpFn 𝓤 𝓛.H 𝓣.C 𝓣.Λ code.function) (f.spec 𝓛 at_mem run)
meets {𝓤 = 𝓤} 𝓛 at_mem run 𝓣 known =
    walk_Meets 𝓛 f.ended stayed
    (Goes-dropped 𝓛 1 (plain (λ _. RawPtr)) yes (λ κs a g. refl), ((λ κs y w vs fits. 𝓛.laws.⇛_intro _), tt))
    (f.clauses 𝓛 at_mem run) (WpFn 𝓤 𝓛.H 𝓣.C 𝓣.Λ code.function) (WpFn-mono 𝓤 𝓛.H 𝓛.laws 𝓣 code.function)
    (walked 𝓛 f.ended stayed (f.clauses 𝓛 at_mem run) (WpFn 𝓤 𝓛.H 𝓣.C 𝓣.Λ code.function) (λ κs. (rawptr_vals, (mut_slice_vals, tt)))
    (λ κs. (rawptr_Tells, (mut_slice_Tells (named 0) κs.0 u8, tt)))
    (λ κs qs bounds a g are. at_each 𝓛 at_mem run 𝓣.C 𝓣.Λ (fm_of 𝓤 𝓛.H 𝓛.laws 𝓣) known κs.0 qs.0 a.1.0 are.1.0.0.1 g a.0))

pub wachelpo_read_spec : {M : Type 1} → stated.statement M
unfolding tables_of
wachelpo_read_spec 𝓤 𝓛 𝓜 𝓡 wired =
    entered 𝓤 𝓛.H (triple_of 𝓛 f.signature (f.spec 𝓛 𝓜.mem 𝓡.returns))
    (tables 𝓤 𝓛.H 𝓜 𝓡 𝓡.env).C (tables 𝓤 𝓛.H 𝓜 𝓡 𝓡.env).Λ key code.function (code.unfolded 𝓤 𝓛.H 𝓜 𝓡 wired)
    (meets 𝓛 𝓜.mem 𝓡.returns (tables_of 𝓤 𝓛.H 𝓜 (tables 𝓤 𝓛.H 𝓜 𝓡 𝓡.env))
    (of_thm.met 𝓤 𝓛 𝓜 𝓡 (code.calls-service_c::read 𝓡.env wired)))
