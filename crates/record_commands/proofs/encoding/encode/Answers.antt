use Rattle.std.proofs.Common.{List, ℕ, Option, Some, Ok, sym, ap, subst, ◌∙◌}
use Rattle.std.specs.Prelude.{IfSome}
use Rattle.program_edge.specs.Inputs.{IsWhole}
use Rattle.record_commands.specs.Encoding.{most_lines_octets}
use Rattle.record_commands.proofs.EncodeLemmas.{encodes_causes, on_any, read_whole, too_long_encoded, whole_encoded}
use Rattle.record_commands.proofs.encoding.encode.Goals as goal

pub returns-in-Some-clause-outcome : goal.returns-in-Some-clause-outcome
returns-in-Some-clause-outcome g c =
    let P : Option (List ℕ) → Type 0 = λ o. IfSome (g.F.Shelf.rest c.args.shelf.now) (λ octets. IsWhole most_lines_octets octets (Ok o)) in
    whole_encoded c.args.tailoring.now (g.F.Shelf.rest c.args.shelf.now) c.as_slice.result.now c.encode_text.result
    (subst P (c.in-Some.is ∙ ap Some (sym c.as_slice.ensures)) c.in_ok-text.ensures.whole) c.encode_text.ensures.record

pub returns-in-None-clause-outcome : goal.returns-in-None-clause-outcome
returns-in-None-clause-outcome g c =
    let P : Option (List ℕ) → Type 0 = λ o. IfSome (g.F.Shelf.rest c.args.shelf.now) (λ octets. IsWhole most_lines_octets octets (Ok o)) in
    too_long_encoded c.args.tailoring.now (g.F.Shelf.rest c.args.shelf.now) (subst P c.in-None.is c.in_ok-text.ensures.whole)

pub returns-in-Some-clause-causes : goal.returns-in-Some-clause-causes
returns-in-Some-clause-causes g c = encodes_causes c.encode_text.result _ c.encode_text.ensures.record

pub returns-in-Some-clause-end : goal.returns-in-Some-clause-end
returns-in-Some-clause-end g c =
    on_any c.encode_text.result _ (read_whole c.as_slice.result.now _ (g.F.Shelf.rest c.args.shelf.now) (g.F.Shelf.rest c.input_octets.new.shelf)
    (c.in-Some.is ∙ ap Some (sym c.as_slice.ensures)) c.in_ok-text.ensures.end)
