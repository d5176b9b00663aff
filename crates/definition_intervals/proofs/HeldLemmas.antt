-- Bases at places of those that are held.
use Rattle.std.proofs.Common.{arith, ◌≡◌, ℕ, ◌<◌, refl, sym, ◌∙◌, ap, List, [], ◌∷◌, ◌++◌, subst, Option, Some, None, Result, Ok, Err, OnErr, length, length-append, zero, suc}
use Rattle.std.specs.Prelude.{slice_get, unwrap_or, option_map}
use Rattle.std.specs.List.{AllByRecursion}
use Rattle.std.proofs.lemmas.Option.{slice_get-map, slice_get-get_or, slice_get_within, unwrap_or-slice_get}
use Rattle.hk_base.proofs.Membership.{AllByRecursion-IsIn, AllByRecursion-append, slice_get-IsIn}
use Rattle.definition_intervals.specs.Bases.{at_places, KeepsHeld}
use Rattle.definition_intervals.specs.declared.answer.Basis.{Basis}
use Rattle.definition_intervals.specs.declared.answer.Basis.TheVariants.{NoOpening}

-- a member in front stays where it is
front : (held more : List Basis) (place : ℕ) → place < length held → slice_get (held ++ more) place ≡ slice_get held place
front [] more place l = absurd (omega arith)
front (b ∷ held) more zero l = refl
front (b ∷ held) more (suc place) l = front held more place (omega arith)

-- with more behind those that are held, the bases at some places are the same
pub places-more : (held more : List Basis) (places : List ℕ) → AllByRecursion (λ place. place < length held) places → at_places (held ++ more) places ≡ at_places held places
places-more held more [] all = refl
places-more held more (p ∷ places) all =
    ap (λ (o : Option Basis). unwrap_or o NoOpening ∷ at_places (held ++ more) places) (front held more p all.0)
    ∙ ap (λ bs. unwrap_or (slice_get held p) NoOpening ∷ bs) (places-more held more places all.1)

places-append : (held : List Basis) (places : List ℕ) (p : ℕ) → at_places held (places ++ p ∷ []) ≡ at_places held places ++ unwrap_or (slice_get held p) NoOpening ∷ []
places-append held [] p = refl
places-append held (q ∷ places) p = ap (λ bs. unwrap_or (slice_get held q) NoOpening ∷ bs) (places-append held places p)

-- one more place
pub places-push : (held more : List Basis) (places : List ℕ) (p : ℕ) (basis : Basis) → AllByRecursion (λ place. place < length held) places → slice_get (held ++ more) p ≡ Some basis
    → at_places (held ++ more) (places ++ p ∷ []) ≡ at_places held places ++ basis ∷ []
places-push held more places p basis all is =
    places-append (held ++ more) places p
    ∙ (ap (λ bs. bs ++ unwrap_or (slice_get (held ++ more) p) NoOpening ∷ []) (places-more held more places all)
    ∙ ap (λ (o : Option Basis). at_places held places ++ unwrap_or o NoOpening ∷ []) is)

-- the basis at a place
pub places-get : (held : List Basis) (places : List ℕ) (number place : ℕ) → AllByRecursion (λ p. p < length held) places → slice_get places number ≡ Some place
    → slice_get (at_places held places) number ≡ slice_get held place
places-get held places number place all at =
    let within = AllByRecursion-IsIn (λ p. p < length held) place places all (slice_get-IsIn place places number at) in
    slice_get-map (λ p. unwrap_or (slice_get held p) NoOpening) places number
    ∙ (ap (λ (o : Option ℕ). option_map (λ p. unwrap_or (slice_get held p) NoOpening) o) at
    ∙ (ap Some (unwrap_or-slice_get held place NoOpening) ∙ sym (slice_get-get_or held place NoOpening within)))

pub places-none : (held : List Basis) (places : List ℕ) (number : ℕ) → slice_get places number ≡ None → slice_get (at_places held places) number ≡ None
places-none held places number at =
    slice_get-map (λ p. unwrap_or (slice_get held p) NoOpening) places number ∙ ap (λ (o : Option ℕ). option_map (λ p. unwrap_or (slice_get held p) NoOpening) o) at

-- the places are within more that is held
pub places-within : (held more : List Basis) (places : List ℕ) → AllByRecursion (λ p. p < length held) places → AllByRecursion (λ p. p < length (held ++ more)) places
places-within held more [] all = tt
places-within held more (p ∷ places) all = (omega (arith, length-append held more, all.0), places-within held more places all.1)

pub on_err : {X E P : Type 0} (r : Result X E) → P → OnErr r P
on_err (Ok x) p = tt
on_err (Err e) p = p

-- the bases at some places after more was held, and with one more place
pub places-kept : (old new : List Basis) (places now : List ℕ) → AllByRecursion (λ p. p < length old) places → KeepsHeld old new → now ≡ places
    → at_places new now ≡ at_places old places
places-kept old new places now all kept same =
    ap (λ (ps : List ℕ). at_places new ps) same ∙ (ap (λ (h : List Basis). at_places h places) kept.1 ∙ places-more old kept.0 places all)

pub within-kept : (old new : List Basis) (places now : List ℕ) → AllByRecursion (λ p. p < length old) places → KeepsHeld old new → now ≡ places
    → AllByRecursion (λ p. p < length new) now
within-kept old new places now all kept same =
    subst (λ (ps : List ℕ). AllByRecursion (λ p. p < length new) ps) (sym same)
    (subst (λ (h : List Basis). AllByRecursion (λ p. p < length h) places) (sym kept.1) (places-within old kept.0 places all))

pub places-pushed : (old new : List Basis) (places now : List ℕ) (p : ℕ) (basis : Basis) → AllByRecursion (λ q. q < length old) places → KeepsHeld old new
    → slice_get new p ≡ Some basis → now ≡ places ++ p ∷ [] → at_places new now ≡ at_places old places ++ basis ∷ []
places-pushed old new places now p basis all kept is same =
    ap (λ (ps : List ℕ). at_places new ps) same
    ∙ (ap (λ (h : List Basis). at_places h (places ++ p ∷ [])) kept.1
    ∙ places-push old kept.0 places p basis all (sym (ap (λ (h : List Basis). slice_get h p) kept.1) ∙ is))

pub within-pushed : (old new : List Basis) (places now : List ℕ) (p : ℕ) (basis : Basis) → AllByRecursion (λ q. q < length old) places → KeepsHeld old new
    → slice_get new p ≡ Some basis → now ≡ places ++ p ∷ [] → AllByRecursion (λ q. q < length new) now
within-pushed old new places now p basis all kept is same =
    subst (λ (ps : List ℕ). AllByRecursion (λ q. q < length new) ps) (sym same)
    (AllByRecursion-append (λ q. q < length new) places (p ∷ []) (within-kept old new places places all kept refl) (slice_get_within new p basis is, tt))
