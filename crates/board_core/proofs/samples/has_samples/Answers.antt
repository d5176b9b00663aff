use Rattle.std.proofs.Common.{Bool, sym, ◌∙◌, ap}
use Rattle.std.specs.Prelude.{is_some}
use Rattle.hk_base.specs.Payload.{places}
use Rattle.hk_base.specs.declared.types.Place.{Place}
use Rattle.board_core.specs.Closing.{held_sample}
use Rattle.board_core.proofs.EndSampleLemmas.{none-found, some-found}
use Rattle.board_core.proofs.samples.has_samples.Goals as goal

pub returns-then-is_none : goal.returns-then-is_none
returns-then-is_none c =
    let f : Place → Bool = λ p. is_some (held_sample c.args.channels.now c.args.slot p) in
    none-found f (places c.args.def.now c.args.slot) c.loop-number.number c.in-Some.place (sym c.in-Some.ensures) (ap is_some (sym c.sample.ensures) ∙ c.if-is_none.ensures) c.loop-number.invariant

pub loop-number-preserved : goal.loop-number-preserved
loop-number-preserved c =
    let f : Place → Bool = λ p. is_some (held_sample c.args.channels.now c.args.slot p) in
    some-found f (places c.args.def.now c.args.slot) c.loop-number.number c.in-Some.place (sym c.in-Some.ensures) (ap is_some (sym c.sample.ensures) ∙ c.if-is_none.ensures) c.loop-number.invariant
