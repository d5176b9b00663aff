use Rattle.std.proofs.Common.{◌≡◌, ◌≤◌, ◌++◌, ◌∷◌, [], length, rules, sym, ◌∙◌, subst, arith}
use Rattle.std.proofs.lemmas.List.{length-append}
use Rattle.rtrb.specs.Ring.{known_items, consumer_capacity}
use Rattle.sampler_threads.specs.Deeds.{TookItems}
use Rattle.sampler_threads.specs.Rings.{Drained}
use Rattle.sampler_threads.proofs.RunLemmas.{items_snoc, takes_tailoring}
use Rattle.sampler_threads.proofs.RingLemmas.{drained_looked, drained_next, drained_all}
use Rattle.sampler_threads.proofs.rings.drain_one.Goals as goal

pub returns-in_err-take_one-clause-taken : goal.returns-in_err-take_one-clause-taken
returns-in_err-take_one-clause-taken c =
    let i = c.loop-taken.invariant.1 in
    let e = c.in_err-take_one.ensures.err in
    let looked = drained_looked c.args.ring.now c.loop-taken.ring c.is_empty.new.self i.0 i.2 c.is_empty.ensures.looked in (
      i.0,
      subst (λ z. TookItems c.args.core.now i.0 z) (sym e.1) i.1,
      subst (λ z. Drained c.args.ring.now i.0 z) (sym e.0) looked,
      omega (arith, i.3, c.capacity-taken-end.ensures, c.loop-taken-test.true),
      search rules,
    )

pub loop-taken-preserved : goal.loop-taken-preserved
loop-taken-preserved c =
    let i = c.loop-taken.invariant.1 in
    let k = c.in_ok-take_one.ensures.ok in
    let looked = drained_looked c.args.ring.now c.loop-taken.ring c.is_empty.new.self i.0 i.2 c.is_empty.ensures.looked in (
      c.loop-taken.invariant.0 ∙ sym (takes_tailoring c.loop-taken.core k.0 c.take_one.new.core k.3),
      (
        i.0 ++ k.0 ∷ [],
        items_snoc c.args.core.now c.loop-taken.core c.take_one.new.core i.0 k.0 i.1 k.3,
        drained_next c.args.ring.now c.is_empty.new.self c.take_one.new.ring i.0 k.0 looked c.take_one.ensures.same k.1 k.2,
        omega (arith, length-append i.0 (k.0 ∷ []), i.3),
      ),
    )

pub returns-after-loop-taken-clause-taken : goal.returns-after-loop-taken-clause-taken
returns-after-loop-taken-clause-taken c =
    let i = c.loop-taken.invariant.1 in
    let most : length (known_items c.args.ring.now) ≤ consumer_capacity c.args.ring.now = c.args.ring.now.counts in
    let le : length (known_items c.args.ring.now) ≤ length i.0 = omega (arith, most, c.capacity-taken-end.ensures, i.3, c.loop-taken-test.false) in
    (i.0, i.1, i.2, omega (arith, i.3, c.capacity-taken-end.ensures), drained_all c.args.ring.now c.loop-taken.ring i.0 i.2 le)
