-- The newest of a list of members.
use Rattle.std.proofs.Common.{arith, ◌≡◌, ◌∙◌, sym, ap, refl, ℕ, ◌-◌, ◌<◌, List, [], ◌∷◌, length, get_or, Some}
use Rattle.std.specs.Prelude.{reverse, slice_get}
use Rattle.std.proofs.lemmas.List.{get_or-reverse, length-reverse}
use Rattle.std.proofs.lemmas.Option.{slice_get-get_or}

pub newest_is : (xs : List ℕ) → slice_get xs (length xs - 1) ≡ slice_get (reverse xs) 0
newest_is [] = refl
newest_is (x ∷ xs) =
    let ys = x ∷ xs in
    let some : 0 < length ys = omega arith in
    let last : slice_get ys (length ys - 1) ≡ Some (get_or ys (length ys - 1) x) = slice_get-get_or ys (length ys - 1) x (omega arith) in
    let first : slice_get (reverse ys) 0 ≡ Some (get_or (reverse ys) 0 x) = slice_get-get_or (reverse ys) 0 x (omega (arith, length-reverse ys)) in
    let place : length ys - 1 - 0 ≡ length ys - 1 = omega arith in
    let same : get_or (reverse ys) 0 x ≡ get_or ys (length ys - 1) x = get_or-reverse ys 0 x some ∙ ap (λ i. get_or ys i x) place in
    last ∙ (ap (λ n. Some n) (sym same) ∙ sym first)
