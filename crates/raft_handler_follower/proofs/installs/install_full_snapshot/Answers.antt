use Rattle.std.proofs.Common.{◌≡◌, ◌∙◌, sym, refl, ℕ, ◌+◌, Bool, true, false}
use Rattle.std.specs.Prelude.{Option, None, Some, if◌then◌else◌}
use Rattle.raft_command.specs.declared.command.Condition.TheVariants.{StateMachineCommand}
use Rattle.raft_steps.specs.Installs.{install_full_snapshot, install_upto, installs}
use Rattle.raft_steps.specs.Parts.{core_of}
use Rattle.raft_handler_follower.proofs.installs.install_full_snapshot.Goals as goal

-- what is found where a test passes
passed : {X : Type 0} (b : Bool) (o : Option X) (x : X) → (if b then o else None) ≡ Some x → b ≡ true
passed true o x e = refl
passed false o x e = cc

found : {X : Type 0} (b : Bool) (o : Option X) (x : X) → (if b then o else None) ≡ Some x → o ≡ Some x
found true o x e = e
found false o x e = cc

stepped : {X M : Type 0} (b : Bool) (o : Option X) (x : X) (f : X → M) (m : M) → (if b then o else None) ≡ Some x → f x ≡ elim o [ None ↦ m | Some y ↦ (if b then f y else m) ]
stepped b o x f m e = rw (found b o x e, passed b o x e) refl

told : {A : Type 0} (b : Bool) (f : ℕ → A) (n k : ℕ) → b ≡ true → n ≡ k → Some (f (n + 1)) ≡ (if b then Some (f (k + 1)) else None)
told b f n k e h = rw (e, h) refl

pub returns-clause-answer : goal.returns-clause-answer
returns-clause-answer g c =
    told (installs g.C.NodeId.Ord.cmp c.args.state.now c.args.snapshot.meta) StateMachineCommand _ c.args.output.now.seq
    (passed _ c.args.snapshot.meta.last_log_id c.in-Some.last (sym c.last_installed.ensures ∙ c.in-Some.is)) c.last_sm_seq-command_seq.ensures

pub returns-clause-step : goal.returns-clause-step
unfolding install_full_snapshot
returns-clause-step g c =
    c.in_ok-install_upto.ensures
    ∙ stepped (installs g.C.NodeId.Ord.cmp c.args.state.now c.args.snapshot.meta) c.args.snapshot.meta.last_log_id c.in-Some.last
    (λ x. install_upto g.C.NodeId.Ord.cmp c.args.config.now x c.args.snapshot (core_of c.args.state.now c.args.output.now)) _ (sym c.last_installed.ensures ∙ c.in-Some.is)
