-- What is found in a list.
use Rattle.std.proofs.Common.{◌≡◌, Bool, true, false, cond, List, [], ◌∷◌, Option, Some, subst}
use Rattle.std.specs.Prelude.{find, slice_get, ℕ, zero, suc}
use Rattle.std.specs.List.{AllByRecursion}
use Rattle.std.proofs.lemmas.Option.{same_Some, none-some}

found : {X : Type 0} (P : X → Type 0) (y x : X) (rest : Option X) (b : Bool) → cond b (Some y) rest ≡ Some x → P y → (rest ≡ Some x → P x) → P x
found P y x rest true e here later = subst P (same_Some y x e) here
found P y x rest false e here later = later e

-- what is found is one of those that are searched
pub find_each : {X : Type 0} (P : X → Type 0) (test : X → Bool) (xs : List X) (x : X) → find test xs ≡ Some x → AllByRecursion P xs → P x
find_each P test [] x e all = absurd (none-some x e)
find_each P test (y ∷ xs) x e all = found P y x (find test xs) (test y) e all.0 (λ f. find_each P test xs x f all.1)

-- what stands at a place is one of them
pub slice_get_each : {X : Type 0} (P : X → Type 0) (xs : List X) (i : ℕ) (x : X) → slice_get xs i ≡ Some x → AllByRecursion P xs → P x
slice_get_each P [] i x e all = absurd (none-some x e)
slice_get_each P (y ∷ xs) zero x e all = subst P (same_Some y x e) all.0
slice_get_each P (y ∷ xs) (suc i) x e all = slice_get_each P xs i x e all.1
