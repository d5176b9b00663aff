-- The tables of a list, one after the other.
use Rattle.std.proofs.Common.{◌≡◌, ℕ, ◌+◌, ◌<◌, ap, sym, ◌∙◌, List, [], ◌∷◌, ◌++◌, map, length, drop, get_or, Some, Bool, false, append_assoc}
use Rattle.std.proofs.lemmas.List.{drop_more, map_push}
use Rattle.std.proofs.lemmas.Bool.{or_parts}
use Rattle.std.specs.List.{cons_option, list_any, IsDistinct}
use Rattle.toml.specs.View.{view}
use Rattle.toml.specs.declared.value.Value.{Value}
use Rattle.hk_tailoring.specs.declared.section.Place.{Place}
use Rattle.hk_tailoring.proofs.ListLemmas.{AllByRecursion-push}
use Rattle.hk_tailoring.specs.Keys.{Section}
use Rattle.hk_tailoring.specs.Params.{section_at, sections}

-- the first table of what is left of a list, and those after it
pub sections-step : (place : ℕ → Place) (i : ℕ) (vs : List Value) (v : Value) (s : Section) → v ≡ get_or vs i v → i < length vs
    → section_at place (i, view v) ≡ Some s
    → sections place i (map view (drop i vs)) ≡ s ∷ sections place (i + 1) (map view (drop (i + 1) vs))
sections-step place i vs v s e h is_table =
    ap (λ ws. sections place i (map view ws)) (drop_more vs i v h ∙ ap (λ w. w ∷ drop (i + 1) vs) (sym e))
    ∙ ap (λ o. cons_option o (sections place (i + 1) (map view (drop (i + 1) vs)))) is_table

-- what one more table stands for, and those that are left
pub stated-more : {X : Type 0} (f : Section → X) (front : List X) (s : Section) (rest more : List Section) (all : List X)
    → front ++ map f rest ≡ all → rest ≡ s ∷ more → (front ++ f s ∷ []) ++ map f more ≡ all
stated-more f front s rest more all so_far step =
    append_assoc front (f s ∷ []) (map f more) ∙ (ap (λ ss. front ++ map f ss) (sym step) ∙ so_far)

-- one more member, to which none before is equal
pub distinct-push : {X K : Type 0} (eq : K → K → Bool) (key : X → K) (xs : List X) (x : X) → IsDistinct eq (map key xs)
    → list_any (λ e. eq (key e) (key x)) xs ≡ false → IsDistinct eq (map key (xs ++ x ∷ []))
unfolding IsDistinct
distinct-push eq key [] x all none = (tt, tt)
distinct-push eq key (y ∷ ys) x all none =
    let parts = or_parts (eq (key y) (key x)) (list_any (λ e. eq (key e) (key x)) ys) none in
    (rw (map_push key ys x) (AllByRecursion-push (λ k. eq (key y) k ≡ false) (map key ys) (key x) all.0 parts.0), distinct-push eq key ys x all.1 parts.1)
