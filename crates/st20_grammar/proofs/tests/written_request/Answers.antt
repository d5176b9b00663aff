use Rattle.std.proofs.Common.{◌≡◌, lit≤, lit<, refl, sym, subst, List, [], ◌∷◌, pos}
use Rattle.hk_base.specs.TailoringParts.{TailoringParts}
use Rattle.hk_base.specs.Builtin.{builtin}
use Rattle.st20_grammar.specs.Bodies.{settable_fault}
use Rattle.st20_grammar.specs.Spelling.{AreSettings}
use Rattle.st20_grammar.specs.declared.bodies.Setting.{Setting}
use Rattle.st20_grammar.proofs.tests.written_request.Goals as goal

abbrev seven : List Setting
seven = record { param = 7; value = pos 500 } ∷ []

fine : AreSettings builtin (settable_fault builtin) seven
fine = record { count = (lit≤ tt, lit≤ tt, lit< tt); ids = (refl, tt); values = (refl, tt) }

pub encode_request-requires : goal.encode_request-requires
encode_request-requires c =
    subst (λ (t : TailoringParts). AreSettings t (settable_fault t) c.in_ok-settings.settings) (sym c.in_ok-tailoring.ensures)
    (subst (λ (xs : List Setting). AreSettings builtin (settable_fault builtin) xs) (sym c.in_ok-settings.ensures) fine)
