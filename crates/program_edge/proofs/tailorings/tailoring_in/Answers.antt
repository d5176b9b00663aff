use Rattle.std.proofs.Common.{◌≡◌, List, ℕ, Some, sym, subst}
use Rattle.hk_tailoring.specs.Files.{file_fault}
use Rattle.hk_tailoring.specs.declared.fault.TailoringFault.TheVariants as fault
use Rattle.program_edge.specs.Tailorings.{EndsWithout}
use Rattle.program_edge.proofs.TailoringLemmas.{fault_meant}
use Rattle.program_edge.proofs.tailorings.tailoring_in.Goals as goal

pub returns-in-Err-clause-meant : goal.returns-in-Err-clause-meant
returns-in-Err-clause-meant c = λ meant m.
    subst (λ f. EndsWithout f meant) (sym c.into.ensures)
    (fault_meant c.args.octets.now c.in-Err.fault c.requires
    (subst (λ (xs : List ℕ). ¬ (c.in-Err.fault ≡ fault.Memory) → file_fault xs ≡ Some c.in-Err.fault) c.as_slice.ensures c.in-Err.ensures.fault) meant m)
