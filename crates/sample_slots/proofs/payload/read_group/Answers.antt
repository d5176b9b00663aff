use Rattle.std.proofs.Common.{◌≡◌, ◌+◌, ◌*◌, ◌/◌, ◌∷◌, ℕ, List, false, true, take, drop, arith, ap, sym, ◌∙◌}
use Rattle.std.proofs.lemmas.Result.{err_from_is_err_and}
use Rattle.hk_base.specs.Payload.{bits_of, ids_bits}
use Rattle.sample_slots.specs.Reading.{is_set, values_after, groups_after}
use Rattle.sample_slots.proofs.BitsLemmas.{drop-bits_of}
use Rattle.sample_slots.proofs.ReadingLemmas.{group-ok, group-dirty, group-fails, fails-on}
use Rattle.sample_slots.proofs.payload.read_group.Goals as goal

pub returns-clause-values : goal.returns-clause-values
returns-clause-values c =
    let t = c.args.tailoring.now in
    let ids = c.args.ids.now in
    let bits = bits_of c.args.bytes.now in
    let at = c.in_ok-position.ensures.position in
    let count : c.div_ceil.result ≡ (ids_bits t.params ids + 7) / 8 = omega (arith, c.div_ceil.ensures, at) in
    let clean : is_set (drop (ids_bits t.params ids) (take (8 * ((ids_bits t.params ids + 7) / 8)) bits)) ≡ false =
    ap (λ (n : ℕ). is_set (drop n (take (8 * ((n + 7) / 8)) bits))) (sym at) ∙ (sym c.is_dirty.ensures ∙ c.if-is_dirty.false) in
    let behind : drop (8 * ((ids_bits t.params ids + 7) / 8)) bits ≡ bits_of c.split_at.result.1.now =
    drop-bits_of ((ids_bits t.params ids + 7) / 8) c.args.bytes.now
    ∙ ap (λ (xs : List ℕ). bits_of xs) (ap (λ (n : ℕ). drop n c.args.bytes.now) (sym count) ∙ sym c.split_at.ensures.back) in
    λ lag more.
    group-ok t c.args.values.now.items c.read_values.new.values.items c.args.group (record { lag = lag; params = ids }) more bits c.requires.known c.in_ok-position.ensures.values clean
    ∙ ap (λ (bs : List ℕ). groups_after t c.read_values.new.values.items (c.args.group + 1) more bs) behind

pub returns-then-is_dirty-clause-values : goal.returns-then-is_dirty-clause-values
returns-then-is_dirty-clause-values c =
    let t = c.args.tailoring.now in
    let ids = c.args.ids.now in
    let bits = bits_of c.args.bytes.now in
    let dirty : is_set (drop (ids_bits t.params ids) (take (8 * ((ids_bits t.params ids + 7) / 8)) bits)) ≡ true =
    ap (λ (n : ℕ). is_set (drop n (take (8 * ((n + 7) / 8)) bits))) (sym c.in_ok-position.ensures.position) ∙ (sym c.is_dirty.ensures ∙ c.if-is_dirty.true) in
    λ lag more. group-dirty t c.args.values.now.items c.read_values.new.values.items c.args.group (record { lag = lag; params = ids }) more bits c.in_ok-position.ensures.values dirty

pub returns-in_err-position-clause-values : goal.returns-in_err-position-clause-values
returns-in_err-position-clause-values c =
    let t = c.args.tailoring.now in
    let old = c.args.values.now.items in
    let e = c.in_err-position.field-0.0 in
    let p = err_from_is_err_and c.from_residual.result c.from_residual.ensures.1 in
    rw (p.1, p.2)
    (λ lag more.
    fails-on e (values_after t old c.args.ids.now (bits_of c.args.bytes.now)) (groups_after t old c.args.group (record { lag = lag; params = c.args.ids.now } ∷ more) (bits_of c.args.bytes.now))
    (group-fails t old c.args.group (record { lag = lag; params = c.args.ids.now }) more (bits_of c.args.bytes.now)) c.in_err-position.ensures.values)
