use Rattle.std.proofs.Common.{◌++◌, ◌≡◌, ◌∙◌, None, Option, Some, ap, inl, inr, refl, rules, subst, sym}
use Rattle.std.specs.Prelude.{IfSome}
use Rattle.std.proofs.lemmas.List.{append-nil}
use Rattle.raft_cluster.specs.declared.machine.Handed.{Handed}
use Rattle.raft_cluster.specs.declared.machine.Machine.{Machine}
use Rattle.raft_cluster.specs.Calls.{ByFlush}
use Rattle.raft_cluster.specs.Disks.{bytes_of, next_bytes_of}
use Rattle.raft_cluster.proofs.Cores.{disk_flushed, stops_flushed}
use Rattle.raft_cluster.proofs.machine.Machine.flush.Goals as goal

-- nothing was on its way
pub returns-in-Ok-clause-does : goal.returns-in-Ok-clause-does
returns-in-Ok-clause-does g c =
    let m : Machine g.row.M.Denot = c.args.self.now in
    let none : m.written ≡ None = search rules in
    inr (inr (record {
      core = c.in-Some.core;
      is_open = c.in-Some.is;
      next = c.flushed.new.self;
      position = c.len.result;
      end = subst (λ (o : Option Handed). IfSome o (λ w. c.len.result ≡ w.end)) (sym none) tt;
      does = c.in-Ok.ensures;
      id = refl;
      now = refl;
      written = c.take.ensures.after;
      disk = sym (append-nil m.disk.items) ∙ ap (λ (o : Option Handed). m.disk.items ++ bytes_of o) (sym none);
      beside = sym (append-nil m.beside.items) ∙ ap (λ (o : Option Handed). m.beside.items ++ next_bytes_of o) (sym none);
    }))

pub returns-in-Ok-flushed-clause-does : goal.returns-in-Ok-flushed-clause-does
returns-in-Ok-flushed-clause-does g c =
    let way : c.args.self.now.written ≡ Some c.in-Some-take.written = search rules in
    inr (inr (record {
      core = c.in-Some.core;
      is_open = c.in-Some.is;
      next = c.flushed-2.new.self;
      position = c.in-Some-take.written.end;
      end = subst (λ (o : Option Handed). IfSome o (λ w. c.in-Some-take.written.end ≡ w.end)) (sym way) refl;
      does = c.in-Ok-flushed.ensures;
      id = refl;
      now = refl;
      written = c.take.ensures.after;
      disk = disk_flushed c.args.self.now _ c.in-Some-take.written way (search rules);
      beside = c.in_ok-append_beside.ensures ∙ ap (λ (o : Option Handed). c.args.self.now.beside.items ++ next_bytes_of o) (sym way);
    }))

pub returns-clause-does : goal.returns-clause-does
returns-clause-does g c =
    let e = c.close-in-Err-flushed.ensures in
    stops_flushed (ByFlush g.M.Machine.application g.M.Machine.codec) c.args.self.now c.close-in-Err-flushed.new.self c.in-Some-take.written _ c.quiet-in-Err-flushed.ensures.outputs (search rules)
    (ap (λ (x : Machine g.row.M.Denot). x.id) e) (ap (λ (x : Machine g.row.M.Denot). x.core) e) (ap (λ (x : Machine g.row.M.Denot). x.written) e) (ap (λ (x : Machine g.row.M.Denot). x.disk.items) e ∙ search rules)
