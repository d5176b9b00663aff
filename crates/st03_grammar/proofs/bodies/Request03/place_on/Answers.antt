use Rattle.std.proofs.Common.{◌∙◌, ℕ}
use Rattle.hk_base.specs.Parameters.{key_eq}
use Rattle.hk_base.specs.declared.types.Key.{Key}
use Rattle.st03_grammar.specs.Instructions.{StructureChange, plain, set_interval, key_of}
use Rattle.st03_grammar.specs.declared.bodies.Pair.{Pair}
use Rattle.st03_grammar.proofs.Places.{position_mapped}
use Rattle.st03_grammar.proofs.bodies.Request03.place_on.Goals as goal

pub returns-in-OnEach-clause-place : goal.returns-in-OnEach-clause-place
returns-in-OnEach-clause-place c =
    let test = λ (x : Key × StructureChange). key_eq x.0 c.args.key in
    rw c.in-OnEach.is (c.place_of_id.ensures.place ∙ position_mapped test (λ (id : ℕ). (key_of c.in-OnEach.kind id, plain c.in-OnEach.field-0)) c.in-OnEach.ids)

pub returns-in-Intervals-clause-place : goal.returns-in-Intervals-clause-place
returns-in-Intervals-clause-place c =
    let test = λ (x : Key × StructureChange). key_eq x.0 c.args.key in
    rw c.in-Intervals.is (c.place_of_pair.ensures.place ∙ position_mapped test (λ (p : Pair). (key_of c.in-Intervals.kind p.id, set_interval p.interval)) c.in-Intervals.pairs)
