-- What a document states, as the code has read it.
use Rattle.std.proofs.Common.{◌≡◌, ℕ, List, Bool, true, false, cond, Some, None, Result, Ok, Err, OnOk, IfOk, IfErr, IfSome, IsSome, refl, ap, sym, subst, ◌∙◌}
use Rattle.std.specs.Str.{is_utf8, IsUtf8}
use Rattle.std.proofs.lemmas.Str.{IsUtf8-from_is_utf8, is_utf8-from_IsUtf8}
use Rattle.toml.specs.Data.{Members}
use Rattle.toml.specs.Parse.{parse_document}
use Rattle.hk_base.specs.TailoringParts.{TailoringParts}
use Rattle.hk_tailoring.specs.declared.fault.TailoringFault.{TailoringFault}
use Rattle.hk_tailoring.specs.declared.fault.TailoringFault.TheVariants.{Memory}
use Rattle.hk_tailoring.specs.Checks.{Passes}
use Rattle.hk_base.specs.declared.types.Widths.{Widths}
use Rattle.hk_tailoring.specs.Keys.{Section}
use Rattle.hk_tailoring.specs.Widths.{AreWidths}
use Rattle.hk_tailoring.specs.Structures.{Bounds, bounds_of}
use Rattle.hk_tailoring.specs.Files.{bounds_in, document, document_checks, tree_of, fault_by_tree, file_fault, Stands, IsOf}

make : ℕ → ℕ → ℕ → ℕ → ℕ → Bounds
make a b c d e = record { structure_octets = a; parameter_octets = b; repetition_octets = c; max_interval = d; max_payload = e }

-- the bounds in the widths of a document are those that it states
pub bounds-stated : (s : Section) (w : Widths) → AreWidths s w → bounds_of w ≡ bounds_in s
unfolding make
bounds-stated s w a =
    let t = bounds_in s in
    ap (λ n. make n w.parameter_octets w.repetition_octets w.max_interval w.max_payload) a.structure_octets
    ∙ (ap (λ n. make t.structure_octets n w.repetition_octets w.max_interval w.max_payload) a.parameter_octets
    ∙ (ap (λ n. make t.structure_octets t.parameter_octets n w.max_interval w.max_payload) a.repetition_octets
    ∙ (ap (λ n. make t.structure_octets t.parameter_octets t.repetition_octets n w.max_payload) a.max_interval
    ∙ ap (λ n. make t.structure_octets t.parameter_octets t.repetition_octets t.max_interval n) a.max_payload)))

-- the document of octets that are text
pub tree-is : (octets : List ℕ) (ms : Members) → IsUtf8 octets → parse_document octets ≡ Some ms → tree_of octets ≡ Some ms
tree-is octets ms text parsed = ap (λ b. cond b (parse_document octets) None) (is_utf8-from_IsUtf8 octets text) ∙ parsed

-- octets that are no text, or no document, have no tree
pub no-tree : (octets : List ℕ) → (IsUtf8 octets → parse_document octets ≡ None) → tree_of octets ≡ None
no-tree octets refused = go (is_utf8 octets) refl
  where
    go : (b : Bool) → is_utf8 octets ≡ b → cond b (parse_document octets) None ≡ None
    go true e = refused (IsUtf8-from_is_utf8 octets e)
    go false e = refl

-- an answer to the checks of a file's document
pub met-from : {A : Type 0} (octets : List ℕ) (ms : Members) (r : Result A TailoringFault) → tree_of octets ≡ Some ms
    → Passes (document_checks (document ms)) r → OnOk r (file_fault octets ≡ None)
met-from octets ms (Ok x) tree none = ap (λ t. fault_by_tree t) tree ∙ none
met-from octets ms (Err f) tree none = tt

-- a fault in the checks of a file's document
pub fault-from : {A : Type 0} (octets : List ℕ) (ms : Members) (r : Result A TailoringFault) → tree_of octets ≡ Some ms
    → Passes (document_checks (document ms)) r → IfErr r (λ fault. ¬ (fault ≡ Memory) → file_fault octets ≡ Some fault)
fault-from octets ms (Ok x) tree some = tt
fault-from octets ms (Err f) tree some = λ not_memory. ap (λ t. fault_by_tree t) tree ∙ some not_memory

-- what a file's document states
pub stated-from : (octets : List ℕ) (ms : Members) (r : Result TailoringParts TailoringFault) → tree_of octets ≡ Some ms
    → IfOk r (Stands (document ms)) → IfOk r (IsOf octets)
stated-from octets ms (Ok t) tree stands =
    subst (λ o. IfSome o (λ root. Stands (document root) t) × IsSome o) (sym tree) (stands, refl)
stated-from octets ms (Err f) tree stands = tt
