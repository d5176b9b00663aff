use Rattle.std.proofs.Common.{ℕ, List, [], sym, subst}
use Rattle.std.specs.Prelude.{IsSome}
use Rattle.std.specs.List.{AllByRecursion}
use Rattle.hk_base.specs.Parameters.{parameter}
use Rattle.body_fields.specs.Reading.{param_fault}
use Rattle.body_fields.proofs.NamedLemmas.{ids_known}
use Rattle.st20_grammar.specs.Bodies.{settable_fault}
use Rattle.st20_grammar.specs.Spelling.{AreIds, AreSettings, IsRequest, IsSetting}
use Rattle.st20_grammar.specs.declared.bodies.Setting.{Setting}
use Rattle.st20_grammar.proofs.SpellingLemmas.{set_fits}
use Rattle.st20_grammar.proofs.writing.encode_request.Goals as goal

pub write_list-requires-clause-members : goal.write_list-requires-clause-members
write_list-requires-clause-members c =
    let t = c.args.tailoring.now in
    let is : AreIds t c.in-Report.ids = subst (IsRequest t) c.in-Report.is c.requires in
    subst (λ (ids : List ℕ). AllByRecursion (λ id. IsSome (parameter t id)) ids) (sym c.as_slice.ensures)
    (ids_known t (param_fault t) [] c.in-Report.ids (λ before id fine. fine) is.stand)

pub write_list-requires-in-Set-clause-members : goal.write_list-requires-in-Set-clause-members
write_list-requires-in-Set-clause-members c =
    let t = c.args.tailoring.now in
    let are : AreSettings t (settable_fault t) c.in-Set.settings = subst (IsRequest t) c.in-Set.is c.requires in
    subst (λ (xs : List Setting). AllByRecursion (IsSetting t) xs) (sym c.as_slice-in-Set.ensures) (set_fits t c.in-Set.settings are)
