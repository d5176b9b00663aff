use Rattle.std.proofs.Common.{List, map, sym, subst, ap, ◌∙◌, ◌≡◌}
use Rattle.std.proofs.lemmas.Result.{IfOk-weaker}
use Rattle.hk_base.specs.TailoringParts.{TailoringParts}
use Rattle.hk_base.specs.declared.types.Param.{Param}
use Rattle.hk_base.specs.declared.types.Boot.{Boot}
use Rattle.hk_base.specs.Fit.{IsFit}
use Rattle.hk_base.specs.Builtin.{builtin_widths}
use Rattle.generated_sessions.specs.Generated.{numbers_from, made_boot, made_tailoring}
use Rattle.generated_sessions.specs.Parts.{made_param}
use Rattle.generated_sessions.proofs.MadeFit.{made_fit, made_parts}
use Rattle.generated_sessions.proofs.structures.tailoring.Goals as goal

-- the tailoring of these parts
abbrev of_parts : List Param → List Boot → TailoringParts
of_parts ps bs = record { widths = builtin_widths; params = ps; boots = bs }

-- parts that are those of the session make its tailoring
is_made : (ps : List Param) (bs : List Boot) → ps ≡ map made_param (numbers_from 1 40) → bs ≡ map made_boot (numbers_from 1 6) → of_parts ps bs ≡ made_tailoring
is_made ps bs params boots = ap (λ xs. of_parts xs bs) params ∙ (ap (λ xs. of_parts (map made_param (numbers_from 1 40)) xs) boots ∙ sym made_parts)

pub new-requires : goal.new-requires
new-requires c = subst IsFit (sym (is_made c.in_ok-params.params c.in_ok-boots.boots c.in_ok-params.ensures c.in_ok-boots.ensures)) made_fit

pub returns : goal.returns
returns c =
    IfOk-weaker c.new.result (λ t. t ≡ of_parts c.in_ok-params.params c.in_ok-boots.boots) (λ t. t ≡ made_tailoring)
    (λ t e. e ∙ is_made c.in_ok-params.params c.in_ok-boots.boots c.in_ok-params.ensures c.in_ok-boots.ensures) c.new.ensures
