-- The IDs of parameters with values, in a list that was read.
use Rattle.std.proofs.Common.{◌≡◌, ◌∙◌, refl, ap, ℕ, List, [], ◌∷◌}
use Rattle.std.specs.Prelude.{reverse, ◌==◌, ◌||◌}
use Rattle.std.specs.List.{list_any}
use Rattle.body_fields.proofs.ListReading.{list_any-reverse}
use Rattle.st20_grammar.specs.Spelling.{ids_of}
use Rattle.st20_grammar.specs.declared.bodies.Setting.{Setting}

among : (id : ℕ) (xs : List Setting) → list_any (λ (x : Setting). x.param == id) xs ≡ list_any (λ e. e == id) (ids_of xs)
among id [] = refl
among id (x ∷ xs) = ap (λ b. x.param == id || b) (among id xs)

-- whether an ID is one of them, in whatever order
pub listed : (id : ℕ) (xs : List Setting) → list_any (λ (x : Setting). x.param == id) xs ≡ list_any (λ e. e == id) (ids_of (reverse xs))
listed id xs = list_any-reverse (λ (x : Setting). x.param == id) xs ∙ among id (reverse xs)
