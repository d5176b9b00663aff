use Rattle.std.proofs.Common.{◌∙◌, ap, sym}
use Rattle.std.proofs.lemmas.Bool.{false≢true}
use Rattle.toml.specs.View.{table_view}
use Rattle.hk_tailoring.specs.Files.{fault_by_tree}
use Rattle.hk_tailoring.proofs.FileLemmas.{tree-is, no-tree, met-from, fault-from, stated-from}
use Rattle.hk_tailoring.proofs.file.read.Goals as goal

pub returns-in-Ok-clause-tailoring : goal.returns-in-Ok-clause-tailoring
returns-in-Ok-clause-tailoring c =
    let octets = c.args.bytes.now in
    let members = table_view c.in-Ok.table in
    let tree = tree-is octets members c.in-Ok.ensures.ok.0 c.in-Ok.ensures.ok.1 in
    stated-from octets members c.tailoring_of.result tree c.tailoring_of.ensures.tailoring

pub returns-in-Ok-clause-met : goal.returns-in-Ok-clause-met
returns-in-Ok-clause-met c =
    let octets = c.args.bytes.now in
    let members = table_view c.in-Ok.table in
    let tree = tree-is octets members c.in-Ok.ensures.ok.0 c.in-Ok.ensures.ok.1 in
    met-from octets members c.tailoring_of.result tree c.tailoring_of.ensures.checked

pub returns-in-Ok-clause-fault : goal.returns-in-Ok-clause-fault
returns-in-Ok-clause-fault c =
    let octets = c.args.bytes.now in
    let members = table_view c.in-Ok.table in
    let tree = tree-is octets members c.in-Ok.ensures.ok.0 c.in-Ok.ensures.ok.1 in
    fault-from octets members c.tailoring_of.result tree c.tailoring_of.ensures.checked

pub returns-else-is_memory-clause-fault : goal.returns-else-is_memory-clause-fault
returns-else-is_memory-clause-fault c =
    let refused = c.in-Err.ensures.refused (λ memory. false≢true (sym c.if-is_memory.false ∙ c.is_memory.ensures.1 memory)) in
    λ _. ap (λ tree. fault_by_tree tree) (no-tree c.args.bytes.now refused)
