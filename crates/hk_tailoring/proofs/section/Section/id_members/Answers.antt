use Rattle.std.proofs.Common.{sym, map, arith}
use Rattle.toml.specs.View.{view}
use Rattle.std.specs.Prelude.{filter_map}
use Rattle.hk_tailoring.specs.Keys.{section_of, natural_of, members_checks}
use Rattle.hk_tailoring.proofs.CheckLemmas.{answers-exit}
use Rattle.hk_tailoring.proofs.ListLemmas.{members-stopped, members-passed, naturals-more}
use Rattle.hk_tailoring.proofs.section.Section.id_members.Goals as goal

pub returns-in_err-id-clause-ids : goal.returns-in_err-id-clause-ids
returns-in_err-id-clause-ids c =
    let s = section_of c.args.self.now in
    let key = c.args.key.now in
    let vs = c.args.values.now in
    let v = c.index-values-n.result in
    let fault = c.in_err-id.field-0.0 in
    answers-exit (λ ids. ids.items) (members_checks s key c.args.greatest 0 (map view vs)) (filter_map natural_of (map view vs)) c.from_residual.result fault
    c.from_residual.ensures.1
    (λ not_memory.
    members-stopped s key c.args.greatest c.loop-n.n vs v fault c.loop-n.invariant.checks c.index-values-n.is c.loop-n-test.true
    (c.in_err-id.ensures.number not_memory))

pub loop-n-preserved : goal.loop-n-preserved
loop-n-preserved c =
    let s = section_of c.args.self.now in
    let vs = c.args.values.now in
    let n = c.loop-n.n in
    let v = c.index-values-n.result in
    let within = c.loop-n-test.true in
    record {
      checks =
          members-passed s c.args.key.now c.args.greatest n vs v c.loop-n.invariant.checks c.index-values-n.is within c.in_ok-id.ensures.number.0;
      ids =
          rw c.in_ok-push.ensures.items
          (naturals-more c.loop-n.ids.items n vs v c.in_ok-id.id c.loop-n.invariant.ids c.index-values-n.is within (sym c.in_ok-id.ensures.number.1));
      count = omega (arith, c.in_ok-push.ensures.len);
    }
