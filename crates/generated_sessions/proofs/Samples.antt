-- The samples of a report.
use Rattle.std.proofs.Common.{◌≡◌, ◌+◌, ℕ, List, ◌∷◌, ◌++◌, drop, Some, sym, ap, ◌∙◌, append_assoc}
use Rattle.std.specs.Prelude.{flat_map}
use Rattle.std.specs.List.{slice_get}
use Rattle.std.proofs.lemmas.List.{drop_more}
use Rattle.std.proofs.lemmas.Option.{slice_get_within, get_or_from_slice_get}
use Rattle.hk_base.specs.declared.types.Place.{Place}

-- one sample more
pub sample_more : (f : Place → List ℕ) (ps : List Place) (i : ℕ) (p : Place) (front mid new : List ℕ) → slice_get ps i ≡ Some p → new ≡ mid ++ f p
    → mid ++ flat_map f (drop i ps) ≡ front ++ flat_map f ps → new ++ flat_map f (drop (i + 1) ps) ≡ front ++ flat_map f ps
sample_more f ps i p front mid new here e so_far =
    let rest : List ℕ = flat_map f (drop (i + 1) ps) in
    let next : drop i ps ≡ p ∷ drop (i + 1) ps =
    drop_more ps i p (slice_get_within ps i p here) ∙ ap (λ q. q ∷ drop (i + 1) ps) (get_or_from_slice_get ps i p p here) in
    ap (λ xs. xs ++ rest) e ∙ (append_assoc mid (f p) rest ∙ (ap (λ xs. mid ++ flat_map f xs) (sym next) ∙ so_far))
