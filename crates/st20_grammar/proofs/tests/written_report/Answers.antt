use Rattle.std.proofs.Common.{◌≡◌, lit≤, lit<, refl, sym, subst, List, [], ◌∷◌, pos}
use Rattle.hk_base.specs.TailoringParts.{TailoringParts}
use Rattle.hk_base.specs.Builtin.{builtin}
use Rattle.body_fields.specs.Reading.{param_fault}
use Rattle.st20_grammar.specs.Spelling.{AreSettings}
use Rattle.st20_grammar.specs.declared.bodies.Setting.{Setting}
use Rattle.st20_grammar.proofs.tests.written_report.Goals as goal

abbrev seven : List Setting
seven = record { param = 7; value = pos 500 } ∷ []

fine : AreSettings builtin (param_fault builtin) seven
fine = record { count = (lit≤ tt, lit≤ tt, lit< tt); ids = (refl, tt); values = (refl, tt) }

pub encode_report-requires : goal.encode_report-requires
encode_report-requires c =
    subst (λ (t : TailoringParts). AreSettings t (param_fault t) c.in_ok-pairs.pairs) (sym c.in_ok-tailoring.ensures)
    (subst (λ (xs : List Setting). AreSettings builtin (param_fault builtin) xs) (sym c.in_ok-pairs.ensures) fine)
