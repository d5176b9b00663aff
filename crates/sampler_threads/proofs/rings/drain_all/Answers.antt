use Rattle.std.proofs.Common.{◌≡◌, ◌++◌, ◌<◌, [], length, map, rules, refl, sym, ◌∙◌, subst, arith}
use Rattle.std.specs.List.{slice_index_or}
use Rattle.std.proofs.lemmas.List.{get_or_default}
use Rattle.sampler_threads.proofs.ListLemmas.{rest_as_it_was}
use Rattle.sampler_threads.proofs.RunLemmas.{took_append, took_items, items_tailoring}
use Rattle.sampler_threads.proofs.RingLemmas.{received_none, received_next, known_next, none_next, turn_next, below_next, most_next}
use Rattle.sampler_threads.proofs.rings.drain_all.Goals as goal

pub returns-in_err-drain_one-clause-taken : goal.returns-in_err-drain_one-clause-taken
returns-in_err-drain_one-clause-taken c =
    let i = c.loop-k.invariant.1 in
    let d = c.drain_one.ensures.taken in
    let k = c.loop-k.k in
    let within : k < length c.loop-k.rings = search rules in
    let one = slice_index_or c.loop-k.rings k c.index-rings-k.result in (
      i.0 ++ map (λ item. (k, item)) d.0,
      took_append c.args.core.now c.loop-k.core c.drain_one.new.core i.0 (map (λ item. (k, item)) d.0) i.1
          (took_items k c.loop-k.core c.drain_one.new.core d.0 d.1),
      received_next c.args.rings.now c.loop-k.rings i.0 k c.drain_one.new.ring c.index-rings-k.result d.0 i.2 within d.2,
      record {
        turn = turn_next k i.0 d.0 i.7 i.6;
        most = most_next c.args.rings.now i.0 k d.0 one (i.5 k (omega arith))
            (λ e. sym (i.4 k e (omega arith)) ∙ get_or_default c.loop-k.rings k e c.index-rings-k.result within) d.3 i.8;
      },
      search rules,
    )

pub loop-k-preserved : goal.loop-k-preserved
loop-k-preserved c =
    let i = c.loop-k.invariant.1 in
    let d = c.in_ok-drain_one.ensures.taken in
    let k = c.loop-k.k in
    let within : k < length c.loop-k.rings = search rules in
    let one = slice_index_or c.loop-k.rings k c.index-rings-k.result in (
      c.loop-k.invariant.0 ∙ sym (items_tailoring c.loop-k.core c.drain_one.new.core d.0 d.1),
      (
        i.0 ++ map (λ item. (k, item)) d.0,
        took_append c.args.core.now c.loop-k.core c.drain_one.new.core i.0 (map (λ item. (k, item)) d.0) i.1
            (took_items k c.loop-k.core c.drain_one.new.core d.0 d.1),
        received_next c.args.rings.now c.loop-k.rings i.0 k c.drain_one.new.ring c.index-rings-k.result d.0 i.2 within d.2,
        known_next c.args.rings.now i.0 k d.0 one i.3 (i.5 k (omega arith))
            (λ e. sym (i.4 k e (omega arith)) ∙ get_or_default c.loop-k.rings k e c.index-rings-k.result within) d.4,
        rest_as_it_was c.args.rings.now c.loop-k.rings k c.drain_one.new.ring i.4,
        none_next i.0 k d.0 i.5,
        turn_next k i.0 d.0 i.7 i.6,
        below_next k i.0 d.0 i.7,
        most_next c.args.rings.now i.0 k d.0 one (i.5 k (omega arith))
            (λ e. sym (i.4 k e (omega arith)) ∙ get_or_default c.loop-k.rings k e c.index-rings-k.result within) d.3 i.8,
      ),
    )

pub loop-k-init : goal.loop-k-init
loop-k-init c = (
  c.requires,
  (
    [],
    refl,
    received_none c.args.rings.now,
    λ j d below. absurd (omega (arith, below)),
    λ j d above. refl,
    λ j above. refl,
    tt,
    tt,
    λ j d below. omega arith,
  ),
)

pub returns-clause-taken : goal.returns-clause-taken
returns-clause-taken c =
    let i = c.loop-k.invariant.1 in
    (i.0, i.1, i.2, record { turn = i.6; most = i.8 }, λ j d below. i.3 j d (omega (arith, below, c.loop-k-test.false)))
