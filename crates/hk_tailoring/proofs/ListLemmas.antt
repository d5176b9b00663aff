-- The values of a list in a document.
use Rattle.std.proofs.Common.{◌≡◌, refl, ap, sym, ◌∙◌, List, [], ◌∷◌, Bool, map, Some, None, cond, is_some, ℕ, ◌+◌, ◌<◌, ◌++◌, length, drop, get_or, append_assoc, ℤ, pos, ◌≤◌, ◌-◌, ◌^◌, ◌≤ℤ◌, ◌<ℤ◌, arith}
use Rattle.std.proofs.lemmas.Int.{ints}
use Rattle.std.proofs.Math.Nat.{one-le-pow}
use Rattle.std.proofs.lemmas.List.{drop_more}
use Rattle.std.proofs.lemmas.List.Folds.{list_all-map}
use Rattle.std.specs.Prelude.{filter_map}
use Rattle.std.specs.List.{list_all, cons_option, AllByRecursion}
use Rattle.toml.specs.Data.{Data, as_table}
use Rattle.toml.specs.View.{view, items_of}
use Rattle.toml.specs.declared.value.Value.{Value}
use Rattle.hk_tailoring.specs.Checks.{first_fault}
use Rattle.hk_tailoring.specs.declared.fault.TailoringFault.{TailoringFault}
use Rattle.hk_tailoring.proofs.CheckLemmas.{stopped-here, passed-here}
use Rattle.hk_tailoring.specs.Keys.{Section, values_of, list_of, table_list_of, natural_of, member_checks, members_checks}

-- the values of an array, as the crate of documents sees it
pub values_of-items_of : (ds : List Data) → values_of (items_of ds) ≡ ds
values_of-items_of [] = refl
values_of-items_of (d ∷ ds) = ap (λ rest. d ∷ rest) (values_of-items_of ds)

-- a list whose members are tables or not, as the code tells
pub table_list_of-list : (d : Data) (vs : List Value) (tables : Bool) → list_of d ≡ Some (map view vs)
    → list_all (λ v. is_some (as_table (view v))) vs ≡ tables → table_list_of d ≡ cond tables (Some (map view vs)) None
table_list_of-list d vs tables list test = rw (list, list_all-map (λ x. is_some (as_table x)) view vs, test) refl

-- the first member of what is left of a list, and those after it
pub members_checks-step : (s : Section) (key : List ℕ) (greatest i : ℕ) (vs : List Value) (v : Value) → v ≡ get_or vs i v → i < length vs
    → members_checks s key greatest i (map view (drop i vs))
    ≡ member_checks s key greatest (i, view v) ++ members_checks s key greatest (i + 1) (map view (drop (i + 1) vs))
members_checks-step s key greatest i vs v e h =
    ap (λ ws. members_checks s key greatest i (map view ws)) (drop_more vs i v h ∙ ap (λ w. w ∷ drop (i + 1) vs) (sym e))

-- the first number of what is left of a list, and those after it
pub naturals-step : (i : ℕ) (vs : List Value) (v : Value) (n : ℕ) → v ≡ get_or vs i v → i < length vs → natural_of (view v) ≡ Some n
    → filter_map natural_of (map view (drop i vs)) ≡ n ∷ filter_map natural_of (map view (drop (i + 1) vs))
naturals-step i vs v n e h number =
    ap (λ ws. filter_map natural_of (map view ws)) (drop_more vs i v h ∙ ap (λ w. w ∷ drop (i + 1) vs) (sym e))
    ∙ ap (λ o. cons_option o (filter_map natural_of (map view (drop (i + 1) vs)))) number

-- the checks of a list's members from this place on have the first fault of all
abbrev pub SameFault : Section → List ℕ → ℕ → ℕ → List Value → Type 0
SameFault s key greatest i vs =
    first_fault (members_checks s key greatest i (map view (drop i vs))) ≡ first_fault (members_checks s key greatest 0 (map view vs))

-- a member's fault is the first of its list
pub members-stopped : (s : Section) (key : List ℕ) (greatest i : ℕ) (vs : List Value) (v : Value) (fault : TailoringFault)
    → SameFault s key greatest i vs → v ≡ get_or vs i v → i < length vs
    → first_fault (member_checks s key greatest (i, view v)) ≡ Some fault
    → first_fault (members_checks s key greatest 0 (map view vs)) ≡ Some fault
members-stopped s key greatest i vs v fault same e h found =
    stopped-here (members_checks s key greatest 0 (map view vs)) (members_checks s key greatest i (map view (drop i vs)))
    (member_checks s key greatest (i, view v)) (members_checks s key greatest (i + 1) (map view (drop (i + 1) vs))) fault same
    (members_checks-step s key greatest i vs v e h) found

-- a member whose checks are met is passed by
pub members-passed : (s : Section) (key : List ℕ) (greatest i : ℕ) (vs : List Value) (v : Value)
    → SameFault s key greatest i vs → v ≡ get_or vs i v → i < length vs
    → first_fault (member_checks s key greatest (i, view v)) ≡ None
    → SameFault s key greatest (i + 1) vs
members-passed s key greatest i vs v same e h met =
    passed-here (members_checks s key greatest 0 (map view vs)) (members_checks s key greatest i (map view (drop i vs)))
    (member_checks s key greatest (i, view v)) (members_checks s key greatest (i + 1) (map view (drop (i + 1) vs))) same
    (members_checks-step s key greatest i vs v e h) met

-- a number more, and those that are left
pub naturals-more : (front : List ℕ) (i : ℕ) (vs : List Value) (v : Value) (n : ℕ)
    → front ++ filter_map natural_of (map view (drop i vs)) ≡ filter_map natural_of (map view vs)
    → v ≡ get_or vs i v → i < length vs → natural_of (view v) ≡ Some n
    → (front ++ n ∷ []) ++ filter_map natural_of (map view (drop (i + 1) vs)) ≡ filter_map natural_of (map view vs)
naturals-more front i vs v n so_far e h number =
    append_assoc front (n ∷ []) (filter_map natural_of (map view (drop (i + 1) vs)))
    ∙ (ap (λ more. front ++ more) (sym (naturals-step i vs v n e h number)) ∙ so_far)

-- a value more, and those that are left
pub values-more : (front : List ℤ) (i : ℕ) (vs : List Value) (v : Value) (n : ℕ) (z : ℤ)
    → front ++ map pos (filter_map natural_of (map view (drop i vs))) ≡ map pos (filter_map natural_of (map view vs))
    → v ≡ get_or vs i v → i < length vs → natural_of (view v) ≡ Some n → z ≡ pos n
    → (front ++ z ∷ []) ++ map pos (filter_map natural_of (map view (drop (i + 1) vs))) ≡ map pos (filter_map natural_of (map view vs))
values-more front i vs v n z so_far e h number same =
    append_assoc front (z ∷ []) (map pos (filter_map natural_of (map view (drop (i + 1) vs))))
    ∙ (ap (λ y. front ++ y ∷ map pos (filter_map natural_of (map view (drop (i + 1) vs)))) same
    ∙ (ap (λ more. front ++ map pos more) (sym (naturals-step i vs v n e h number)) ∙ so_far))

-- a property of all, and of one more
pub AllByRecursion-push : {X : Type 0} (P : X → Type 0) (xs : List X) (x : X) → AllByRecursion P xs → P x → AllByRecursion P (xs ++ x ∷ [])
AllByRecursion-push P [] x all h = (h, tt)
AllByRecursion-push P (y ∷ xs) x all h = (all.0, AllByRecursion-push P xs x all.1 h)

-- a number that so many bits hold, as a value
pub small-value : (bits n : ℕ) (z : ℤ) → z ≡ pos n → n ≤ 2 ^ bits - 1 → (pos 0 ≤ℤ z) × (z <ℤ pos (2 ^ bits))
small-value bits n z same h =
    let one = one-le-pow bits 2 (omega arith) in
    rw same (omega (arith, ints), omega (arith, ints, one))
