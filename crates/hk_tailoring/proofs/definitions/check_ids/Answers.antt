use Rattle.std.proofs.Common.{◌∙◌, [], ap, refl, sym, take, get_or}
use Rattle.std.proofs.lemmas.List.{take_more}
use Rattle.hk_tailoring.specs.Ids.{has_id}
use Rattle.hk_tailoring.specs.Structures.{ids_checks}
use Rattle.hk_tailoring.proofs.CheckLemmas.{passes-exit}
use Rattle.hk_tailoring.proofs.DefinitionLemmas.{id-stopped, id-passed}
use Rattle.hk_tailoring.proofs.IdLemmas.{one-more}
use Rattle.hk_tailoring.proofs.definitions.check_ids.Goals as goal

pub loop-id-init : goal.loop-id-init
loop-id-init c = record { checks = λ params are. refl; earlier = λ x. ap (λ xs. has_id xs x) c.new-earlier.ensures }

pub loop-id-preserved : goal.loop-id-preserved
loop-id-preserved c =
    let ids = c.args.ids.now in
    let i = c.loop-id.id-index in
    let before = c.loop-id.invariant in
    record {
      checks = λ params are.
          id-passed params ids i (before.checks params are) c.loop-id-test.true (c.in_ok-check_id.ensures.checked params (take i ids) are before.earlier);
      earlier = λ x.
          one-more (λ n. n) (take i ids) (get_or ids i 0) c.loop-id.earlier c.check_id.new.earlier before.earlier c.in_ok-check_id.ensures.earlier x
          ∙ ap (λ xs. has_id xs x) (sym (take_more ids i 0 c.loop-id-test.true));
    }

pub returns-in_err-check_id : goal.returns-in_err-check_id
returns-in_err-check_id c =
    let ids = c.args.ids.now in
    let i = c.loop-id.id-index in
    let before = c.loop-id.invariant in
    let fault = c.in_err-check_id.field-0.0 in
    record {
      checked = λ params are.
          passes-exit (ids_checks params [] ids) c.from_residual.result fault c.from_residual.ensures.1
          (λ not_memory.
          id-stopped params ids i fault (before.checks params are) c.loop-id-test.true
          (c.in_err-check_id.ensures.checked params (take i ids) are before.earlier not_memory));
    }
