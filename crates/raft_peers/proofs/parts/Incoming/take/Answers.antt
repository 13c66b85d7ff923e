use Rattle.std.proofs.Common.{◌∙◌, List, ap, sym, subst}
use Rattle.std.specs.Prelude.{ℕ, Err, IfOk, Ok, Option, Result, Some}
use Rattle.std.specs.Global.{Vec}
use Rattle.raft_chunks.specs.declared.error.Refusal.{Refusal}
use Rattle.raft_chunks.specs.declared.error.TakeError.{TakeError}
use Rattle.raft_chunks.specs.Assembly.{Takes, taken}
use Rattle.raft_chunks.specs.Chunks.{piece_of}
use Rattle.raft_peers.specs.Parts.{IsWhole}
use Rattle.raft_peers.proofs.Parting.{handed_out, nothing_out, on_any, refused, took}
use Rattle.raft_peers.proofs.parts.Incoming.take.Goals as goal

pub returns-in-Ok-Some-clause-taken : goal.returns-in-Ok-Some-clause-taken
returns-in-Ok-Some-clause-taken g c =
    let old = c.args.self.now.assembly in
    on_any c.find_snapshot.result
    (took c.take.result (taken old (piece_of c.args.chunk.now)) old c.take.new.self c.take.ensures (λ e. cc))

pub returns-in-Ok-Some-clause-whole : goal.returns-in-Ok-Some-clause-whole
returns-in-Ok-Some-clause-whole g c =
    let old = c.args.self.now.assembly in
    let given = taken old (piece_of c.args.chunk.now) in
    let takes =
    subst (λ (o : Option (Vec ℕ)). Takes (Ok o) given old c.take.new.self) c.in-Ok-Some.field-0-is
    (subst (λ (r : Result (Option (Vec ℕ)) TakeError). Takes r given old c.take.new.self) c.in-Ok-Some.is c.take.ensures) in
    let whole =
    handed_out c.in-Ok-Some.bytes given old c.take.new.self takes
    ∙ ap (λ (bs : List ℕ). let w : Result (Option (List ℕ)) Refusal = Ok (Some bs) in w) (sym c.deref.ensures.value) in
    subst (λ (a : Result (Option (List ℕ)) Refusal). IfOk c.find_snapshot.result (IsWhole g.M.Machine.codec a)) (sym whole) c.find_snapshot.ensures

pub returns-in-Ok-None-clause-taken : goal.returns-in-Ok-None-clause-taken
returns-in-Ok-None-clause-taken g c =
    let old = c.args.self.now.assembly in
    took c.take.result (taken old (piece_of c.args.chunk.now)) old c.take.new.self c.take.ensures (λ e. cc)

pub returns-in-Ok-None-clause-whole : goal.returns-in-Ok-None-clause-whole
returns-in-Ok-None-clause-whole g c =
    let old = c.args.self.now.assembly in
    let given = taken old (piece_of c.args.chunk.now) in
    let takes =
    subst (λ (o : Option (Vec ℕ)). Takes (Ok o) given old c.take.new.self) c.in-Ok-None.field-0-is
    (subst (λ (r : Result (Option (Vec ℕ)) TakeError). Takes r given old c.take.new.self) c.in-Ok-None.is c.take.ensures) in
    λ p fits whole.
    let none = nothing_out given old c.take.new.self takes in absurd cc

pub returns-in-Err-Refused-clause-whole : goal.returns-in-Err-Refused-clause-whole
returns-in-Err-Refused-clause-whole g c =
    let old = c.args.self.now.assembly in
    let given = taken old (piece_of c.args.chunk.now) in
    let takes =
    subst (λ (e : TakeError). Takes (Err e) given old c.take.new.self) c.in-Err-Refused.field-0-is
    (subst (λ (r : Result (Option (Vec ℕ)) TakeError). Takes r given old c.take.new.self) c.in-Err-Refused.is c.take.ensures) in
    λ p fits whole.
    let none = refused c.in-Err-Refused.field-0-0 given old c.take.new.self takes in absurd cc

pub returns-in-Err-Refused-clause-taken : goal.returns-in-Err-Refused-clause-taken
returns-in-Err-Refused-clause-taken g c =
    let old = c.args.self.now.assembly in
    took c.take.result (taken old (piece_of c.args.chunk.now)) old c.take.new.self c.take.ensures (λ e. cc)
