use Rattle.std.proofs.Common.{◌∙◌, ◌-◌, ◌+◌, [], List, ap, sym, subst, arith}
use Rattle.std.specs.Prelude.{reverse}
use Rattle.std.proofs.lemmas.Result.{err_from_is_err_and}
use Rattle.body_fields.specs.Reading.{list_of}
use Rattle.body_fields.specs.Outcomes.{Fails}
use Rattle.body_fields.proofs.ListReading.{behind, goes_on, stops}
use Rattle.body_fields.proofs.list.read_members.Goals as goal

pub returns-in_err-next-clause-gives : goal.returns-in_err-next-clause-gives
returns-in_err-next-clause-gives g c =
    let reader = g.M.ReadMember.reader c.args.member.now in
    let p = err_from_is_err_and c.from_residual.result c.from_residual.ensures.1 in
    let fault = c.in_err-next.field-0.0 in
    let fails : Fails fault (reader (reverse c.loop-count.members.items) c.loop-count.rest.now) =
    subst (λ (xs : List g.row.M-Member.Denot). Fails fault (reader (reverse xs) c.loop-count.rest.now)) c.as_slice.ensures.value c.in_err-next.ensures.gives in
    let whole = list_of reader c.args.count [] c.args.octets.now in
    rw (p.1, p.2) (stops reader c.loop-count.members.items c.args.count c.loop-count._count c.loop-count.rest.now fault whole c.loop-count-test.true fails c.loop-count.invariant.read)

pub loop-count-preserved : goal.loop-count-preserved
loop-count-preserved g c =
    let reader = g.M.ReadMember.reader c.args.member.now in
    let count = c.args.count in
    let i = c.loop-count._count in
    let after = c.in_ok-next.after.now in
    let found = ap (λ (xs : List g.row.M-Member.Denot). reader (reverse xs) c.loop-count.rest.now) (sym c.as_slice.ensures.value) ∙ c.in_ok-next.ensures.gives in
    record {
      read =
          ap (λ (xs : List g.row.M-Member.Denot). behind xs (list_of reader (count - (i + 1)) (reverse xs) after)) c.in_ok-push.ensures.items
          ∙ goes_on reader c.loop-count.members.items count i c.loop-count.rest.now after c.in_ok-next.next _ c.loop-count-test.true found c.loop-count.invariant.read;
      left = omega (arith, c.in_ok-next.ensures.left, c.loop-count.invariant.left);
    }
