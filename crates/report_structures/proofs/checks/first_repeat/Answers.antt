use Rattle.std.proofs.Common.{◌≡◌, ◌+◌, ◌||◌, ◌++◌, take, drop, get_or, ap, sym, ◌∙◌, false}
use Rattle.std.proofs.lemmas.List.{take_more, drop_more}
use Rattle.hk_base.specs.Definitions.{first_repeat}
use Rattle.report_structures.proofs.RepeatLemmas.{among, among-append, repeat-later}
use Rattle.report_structures.proofs.checks.first_repeat.Goals as goal

pub loop-number-preserved : goal.loop-number-preserved
loop-number-preserved c =
    let ids = c.args.ids.now in
    let earlier = c.args.earlier.now in
    let n = c.loop-number.number in
    let id = get_or ids n 0 in
    let before : among id (take n ids) ≡ false = sym c.is_among.ensures ∙ c.if-is_among.false in
    let long_before : among id earlier ≡ false = sym c.is_among-else-is_among.ensures ∙ c.if-is_among-2.false in
    let new : among id (take n ids ++ earlier) ≡ false = among-append id (take n ids) earlier ∙ (ap (λ b. b || among id earlier) before ∙ long_before) in
    ap (λ l. first_repeat (l ++ earlier) (drop (n + 1) ids)) (take_more ids n 0 c.loop-number-test.true)
    ∙ (sym (repeat-later (take n ids) earlier (drop (n + 1) ids) id new)
    ∙ (ap (first_repeat (take n ids ++ earlier)) (sym (drop_more ids n 0 c.loop-number-test.true)) ∙ c.loop-number.invariant))
