use Rattle.std.proofs.Common.{ℕ, ◌≡◌, ◌+◌, ◌++◌, ◌∷◌, ◌∙◌, [], List, ap, subst, sym, take}
use Rattle.std.specs.Prelude.{OnOk}
use Rattle.raft_store.specs.declared.entry.Entry.{Entry}
use Rattle.raft_store.specs.Store.{whole, whole_upto}
use Rattle.raft_node.specs.Kept.{decided_in, established_in, kept_in}
use Rattle.raft_node.specs.Net.{Records}
use Rattle.raft_node.specs.Safety.{RecordsGrow}
use Rattle.raft_store.proofs.WholeLogs.{take_own}
use Rattle.raft_node.proofs.Recorded.{decide_kept, decide_view}
use Rattle.raft_node.proofs.record.Records.decide.Goals as goal

pub invariant_of-self : goal.invariant_of-self
invariant_of-self c =
    let es : List Entry = whole_upto c.args.store.now c.args.log_id.index in
    let grow : RecordsGrow (record (kept_in c.self.inside.logs c.self.inside.decided.items c.self.inside.established.items) { decided = decided_in c.self.inside.logs c.self.inside.decided.items ++ record { leader_id = c.args.leader_id; log_id = c.args.log_id; log = es } ∷ [] }) =
    subst (λ (v : Records (List Entry)). RecordsGrow (record v { decided = v.decided ++ record { leader_id = c.args.leader_id; log_id = c.args.log_id; log = es } ∷ [] })) (sym c.self.view_is) c.requires.grows in
    decide_kept c.args.leader_id c.args.log_id es (whole c.args.store.now) c.whole_upto_len-log.result c.whole_upto_len-log.ensures
    (ap (λ (m : ℕ). take m (whole c.args.store.now)) c.whole_upto_len-log.ensures ∙ take_own (c.args.log_id.index + 1) (whole c.args.store.now))
    c.self.inside.logs c.push_record.new.logs c.self.inside.decided.items c.push_record.new.records.items c.self.inside.established.items c.self.invariant grow
    c.push_record.result c.push_record.ensures.pushed c.push_record.ensures.added c.push_record.ensures.kept c.push_record.ensures.same

pub returns : goal.returns
returns c =
    let es : List Entry = whole_upto c.args.store.now c.args.log_id.index in
    let grow : RecordsGrow (record (kept_in c.self.inside.logs c.self.inside.decided.items c.self.inside.established.items) { decided = decided_in c.self.inside.logs c.self.inside.decided.items ++ record { leader_id = c.args.leader_id; log_id = c.args.log_id; log = es } ∷ [] }) =
    subst (λ (v : Records (List Entry)). RecordsGrow (record v { decided = v.decided ++ record { leader_id = c.args.leader_id; log_id = c.args.log_id; log = es } ∷ [] })) (sym c.self.view_is) c.requires.grows in
    subst
    (λ (v : Records (List Entry)).
    OnOk c.push_record.result
    (◌≡◌ {A = Records (List Entry)}
    (record {
      bag = c.self.inside.bag;
      executed = c.self.inside.executed.items;
      installed = c.self.inside.installed.items;
      decided = decided_in c.push_record.new.logs c.push_record.new.records.items;
      established = established_in c.push_record.new.logs c.self.inside.established.items;
      answers = c.self.inside.answers.items;
    })
    (record v { decided = v.decided ++ record { leader_id = c.args.leader_id; log_id = c.args.log_id; log = es } ∷ [] })))
    c.self.view_is
    (decide_view c.args.leader_id c.args.log_id es (whole c.args.store.now) c.whole_upto_len-log.result c.whole_upto_len-log.ensures
    (ap (λ (m : ℕ). take m (whole c.args.store.now)) c.whole_upto_len-log.ensures ∙ take_own (c.args.log_id.index + 1) (whole c.args.store.now))
    c.self.inside.logs c.push_record.new.logs c.self.inside.decided.items c.push_record.new.records.items c.self.inside.established.items c.self.invariant grow
    c.push_record.result
    (record {
      bag = c.self.inside.bag;
      executed = c.self.inside.executed.items;
      installed = c.self.inside.installed.items;
      decided = [];
      established = [];
      answers = c.self.inside.answers.items;
    })
    c.push_record.ensures.pushed c.push_record.ensures.added)
