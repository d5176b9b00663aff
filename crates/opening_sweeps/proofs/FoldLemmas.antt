-- What is found, and the first open change, after two lists of requests one after the other.
use Rattle.std.proofs.Common.{arith, ◌≡◌, ℕ, ◌+◌, ◌<◌, ◌≤◌, refl, sym, ◌∙◌, ap, subst, List, [], ◌∷◌, ◌++◌, Bool, true, false, Option, Some, None, length, take, drop, get_or, map, append-nil}
use Rattle.std.specs.Prelude.{filter_map, if◌then◌else◌}
use Rattle.std.specs.Option.{option_or}
use Rattle.std.specs.List.{list_any, cons_option}
use Rattle.std.proofs.lemmas.List.{take_more, drop_more, drop-append-le, length-take-le, get_or-take, map_push}
use Rattle.std.proofs.lemmas.List.Elements.{filter_map-append}
use Rattle.hk_base.specs.TailoringParts.{TailoringParts}
use Rattle.hk_base.specs.declared.types.Structure.{Structure}
use Rattle.definition_intervals.specs.Openings.{Candidate, is_open}
use Rattle.definition_intervals.specs.States.{state_eq}
use Rattle.definition_intervals.specs.Founds.{found_after, found_after_all, first_after_all, AreSameFound, SameIsFound}
use Rattle.opening_sweeps.specs.Requests.{Bounded, as_request, settled}
use Rattle.opening_sweeps.specs.Courses.{found_by_one, first_after_one}
use Rattle.opening_sweeps.specs.Groups.{unsure}

pub same-refl : (a : Option (List (Option Structure))) → AreSameFound a a
same-refl None = tt
same-refl (Some a) = λ s. refl

pub same-sym : (a b : Option (List (Option Structure))) → AreSameFound a b → AreSameFound b a
same-sym None None h = tt
same-sym None (Some b) h = h
same-sym (Some a) None h = h
same-sym (Some a) (Some b) h = λ s. sym (h s)

pub same-trans : (a b c : Option (List (Option Structure))) → AreSameFound a b → AreSameFound b c → AreSameFound a c
same-trans None None c h g = g
same-trans None (Some b) c h g = absurd h
same-trans (Some a) None c h g = absurd h
same-trans (Some a) (Some b) None h g = g
same-trans (Some a) (Some b) (Some c) h g = λ s. h s ∙ g s

pub after_all-append : (t : TailoringParts) (xs ys : List Candidate) (f : Option (List (Option Structure))) → found_after_all t (xs ++ ys) f ≡ found_after_all t ys (found_after_all t xs f)
after_all-append t [] ys f = refl
after_all-append t (x ∷ xs) ys f = after_all-append t xs ys (found_after t x f)

pub after_all-same : SameIsFound → (t : TailoringParts) (cs : List Candidate) (a b : Option (List (Option Structure))) → AreSameFound a b
    → AreSameFound (found_after_all t cs a) (found_after_all t cs b)
after_all-same law t [] a b h = h
after_all-same law t (c ∷ cs) a b h = after_all-same law t cs (found_after t c a) (found_after t c b) (law t c a b h)

pub first_all-append : (xs ys : List Candidate) (f : Option ℕ) → first_after_all (xs ++ ys) f ≡ first_after_all ys (first_after_all xs f)
first_all-append [] ys f = refl
first_all-append (x ∷ xs) ys f = first_all-append xs ys _

-- one more settled request
pub settled-more : (from : ℕ) (rs : List Bounded) (i : ℕ) (r : Bounded) → i < length rs → r ≡ get_or rs i r
    → filter_map (settled from) (take (i + 1) rs) ≡ filter_map (settled from) (take i rs) ++ cons_option (settled from r) []
settled-more from rs i r l e =
    ap (λ xs. filter_map (settled from) xs) (take_more rs i r l ∙ ap (λ x. take i rs ++ x ∷ []) (sym e)) ∙ filter_map-append (settled from) (take i rs) (r ∷ [])

pub first-settled-more : (from : ℕ) (rs : List Bounded) (i : ℕ) (r : Bounded) → i < length rs → r ≡ get_or rs i r
    → first_after_one (settled from r) (first_after_all (filter_map (settled from) (take i rs)) None) ≡ first_after_all (filter_map (settled from) (take (i + 1) rs)) None
first-settled-more from rs i r l e =
    go (settled from r) ∙ (sym (first_all-append (filter_map (settled from) (take i rs)) (cons_option (settled from r) []) None)
    ∙ ap (λ cs. first_after_all cs None) (sym (settled-more from rs i r l e)))
  where
    go : (o : Option Candidate) → first_after_one o (first_after_all (filter_map (settled from) (take i rs)) None) ≡ first_after_all (cons_option o []) (first_after_all (filter_map (settled from) (take i rs)) None)
    go None = refl
    go (Some c) = refl

-- one more request that may be left out
pub unsure-more : (rs : List Bounded) (s i : ℕ) (r : Bounded) → s ≤ i → i < length rs → r ≡ get_or rs i r
    → unsure (drop s (take (i + 1) rs)) ≡ unsure (drop s (take i rs)) ++ as_request false r ∷ []
unsure-more rs s i r le l e =
    let within : s ≤ length (take i rs) = omega (arith, length-take-le i rs (omega arith)) in
    ap (λ xs. unsure xs)
    (ap (λ xs. drop s xs) (take_more rs i r l ∙ ap (λ x. take i rs ++ x ∷ []) (sym e)) ∙ drop-append-le s (take i rs) (r ∷ []) within)
    ∙ map_push (as_request false) (drop s (take i rs)) r

pub reach-more : SameIsFound → (t : TailoringParts) (rs : List Bounded) (s i : ℕ) (r : Bounded) (now after base : Option (List (Option Structure))) → s ≤ i → i < length rs → r ≡ get_or rs i r
    → AreSameFound now (found_after_all t (unsure (drop s (take i rs))) base) → AreSameFound after (found_after t (as_request false r) now)
    → AreSameFound after (found_after_all t (unsure (drop s (take (i + 1) rs))) base)
reach-more law t rs s i r now after base le l e h g =
    let cs = unsure (drop s (take i rs)) in
    let c = as_request false r in
    let whole : found_after_all t (unsure (drop s (take (i + 1) rs))) base ≡ found_after t c (found_after_all t cs base) =
    ap (λ xs. found_after_all t xs base) (unsure-more rs s i r le l e) ∙ after_all-append t cs (c ∷ []) base in
    subst (λ f. AreSameFound after f) (sym whole)
    (same-trans after (found_after t c now) (found_after t c (found_after_all t cs base)) g (law t c now (found_after_all t cs base) h))

-- the first open change among requests that may be left out
pub first-kept : (rs : List Bounded) (n : ℕ) → first_after_all (unsure rs) (Some n) ≡ Some n
first-kept [] n = refl
first-kept (r ∷ rs) n = first-kept rs n

pub first-open : (r : Bounded) (rs : List Bounded) → is_open (as_request false r) ≡ true → first_after_all (unsure (r ∷ rs)) None ≡ Some r.number
first-open r rs e = ap (λ (b : Bool). first_after_all (unsure rs) (option_or None (if b then Some r.number else None))) e ∙ first-kept rs r.number

pub first-closed : (r : Bounded) (rs : List Bounded) → is_open (as_request false r) ≡ false → first_after_all (unsure (r ∷ rs)) None ≡ first_after_all (unsure rs) None
first-closed r rs e = ap (λ (b : Bool). first_after_all (unsure rs) (option_or None (if b then Some r.number else None))) e

-- the requests from a place on, before another
pub tail-split : (rs : List Bounded) (i to : ℕ) (r : Bounded) → i < to → to ≤ length rs → r ≡ get_or rs i r → drop i (take to rs) ≡ r ∷ drop (i + 1) (take to rs)
tail-split rs i to r l le e =
    let within : i < length (take to rs) = omega (arith, length-take-le to rs le) in
    drop_more (take to rs) i r within ∙ ap (λ x. x ∷ drop (i + 1) (take to rs)) (get_or-take to rs i r l ∙ sym e)
