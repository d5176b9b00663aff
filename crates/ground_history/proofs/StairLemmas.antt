-- Steps: what a step more or fewer changes.
use Rattle.std.proofs.Common.{arith, ◌≡◌, ℕ, ◌<◌, ◌≤◌, refl, sym, ◌∙◌, ap, subst, List, [], ◌∷◌, ◌++◌, Bool, true, false, max, nat_lt, cond, Some}
use Rattle.std.proofs.lemmas.Bool.{leb-true, ltb-false}
use Rattle.std.proofs.lemmas.Bool.Decides.{nat_tests}
use Rattle.std.proofs.lemmas.Cmp.{ranked}
use Rattle.std.specs.Prelude.{filter, nat_le, not, ◌&&◌, IsSome, IsSomeAnd, if◌then◌else◌}
use Rattle.std.specs.List.{AllByRecursion}
use Rattle.std.specs.List.Sorted.{IsStrictlySortedBy}
use Rattle.std.specs.Map.{lookup, keys_of, remove_entry}
use Rattle.std.specs.BTreeMap.{is_at, insert_entry}
use Rattle.std.specs.Ordering.{nat_cmp, match_ordering, MatchOrdering, is_eq, is_lt}
use Rattle.std.specs.declared.cmp.Ordering.{Ordering}
use Rattle.std.specs.declared.cmp.Ordering.TheVariants.{Less, Equal, Greater}
use Rattle.std.proofs.lemmas.Map.Keys.{sorted_head, sorted_tail}
use Rattle.ground_history.specs.Stairs.{height_at, IsRising, HasStep, FitsBetween, IsLower}

-- what one step gives at a place
abbrev pub given : ℕ → ℕ → ℕ → ℕ
given place height k = if nat_le place k then height else 0

less : (a b : ℕ) → nat_cmp a b ≡ Less → a < b
less a b e = ranked a b Less (sym e)

all-two : {X : Type 0} (P Q R : X → Type 0) → ((x : X) → P x → Q x → R x) → (xs : List X) → AllByRecursion P xs → AllByRecursion Q xs → AllByRecursion R xs
all-two P Q R f [] p q = tt
all-two P Q R f (x ∷ xs) p q = (f x p.0 q.0, all-two P Q R f xs p.1 q.1)

-- what holds of the heights holds with one more step
all-insert : (P : ℕ → Type 0) (place height : ℕ) (steps : List (ℕ × ℕ)) → P height → AllByRecursion (λ s. P s.1) steps → AllByRecursion (λ s. P s.1) (insert_entry nat_cmp steps place height)
all-insert P place height [] here h = (here, tt)
all-insert P place height (s ∷ steps) here h = go (nat_cmp place s.0) (all-insert P place height steps here h.1)
  where
    go : (o : Ordering) → AllByRecursion (λ s. P s.1) (insert_entry nat_cmp steps place height)
        → AllByRecursion (λ s. P s.1) (match_ordering o ((place, height) ∷ s ∷ steps) ((s.0, height) ∷ steps) (s ∷ insert_entry nat_cmp steps place height))
    go Less rest = (here, h)
    go Equal rest = (here, h.1)
    go Greater rest = (h.0, rest)

all-remove : (P : ℕ × ℕ → Type 0) (test : ℕ → Bool) (steps : List (ℕ × ℕ)) → AllByRecursion P steps → AllByRecursion P (remove_entry test steps)
all-remove P test [] h = tt
all-remove P test (s ∷ steps) h = go (test s.0) (all-remove P test steps h.1)
  where
    go : (b : Bool) → AllByRecursion P (remove_entry test steps) → AllByRecursion P (cond b steps (s ∷ remove_entry test steps))
    go true rest = h.1
    go false rest = (h.0, rest)

-- heights rise with the places
pub height-rises : (j k : ℕ) (steps : List (ℕ × ℕ)) → j ≤ k → height_at steps j ≤ height_at steps k
height-rises j k [] le = omega arith
height-rises j k (s ∷ steps) le = let rest = height-rises j k steps le in grind (arith, nat_tests, rest)

-- no step up to a place: no height
pub height-none : (p : ℕ × ℕ → Bool) (k : ℕ) (steps : List (ℕ × ℕ)) → ((s : ℕ × ℕ) → p s ≡ nat_le s.0 k) → filter p steps ≡ [] → height_at steps k ≡ 0
height-none p k [] same e = refl
height-none p k (s ∷ steps) same e = go (p s) (same s) e (height-none p k steps same)
  where
    go : (b : Bool) → b ≡ nat_le s.0 k → cond b (s ∷ filter p steps) (filter p steps) ≡ [] → (filter p steps ≡ [] → height_at steps k ≡ 0) → max (given s.0 s.1 k) (height_at steps k) ≡ 0
    go true t f rest = cc
    go false t f rest = let h = rest f in rw (sym t) (omega (arith, h))

-- where each step is as high as this, one step up to a place is
height-least : (p : ℕ × ℕ → Bool) (k height : ℕ) (steps before : List (ℕ × ℕ)) (last : ℕ × ℕ) → ((s : ℕ × ℕ) → p s ≡ nat_le s.0 k)
    → AllByRecursion (λ s. height ≤ s.1) steps → filter p steps ≡ before ++ last ∷ [] → height ≤ height_at steps k
height-least p k height [] [] last same h e = cc
height-least p k height [] (b ∷ before) last same h e = cc
height-least p k height (s ∷ steps) before last same h e = go (p s) (same s) e (height-least p k height steps before last same h.1)
  where
    go : (b : Bool) → b ≡ nat_le s.0 k → cond b (s ∷ filter p steps) (filter p steps) ≡ before ++ last ∷ [] → (filter p steps ≡ before ++ last ∷ [] → height ≤ height_at steps k)
        → height ≤ max (given s.0 s.1 k) (height_at steps k)
    go true t f rest = let here = h.0 in rw (sym t) (omega (arith, here))
    go false t f rest = let le = rest f in omega (arith, le)

-- the last step up to a place is as high as the place
pub height-last : (p : ℕ × ℕ → Bool) (k : ℕ) (steps before : List (ℕ × ℕ)) (last : ℕ × ℕ) → ((s : ℕ × ℕ) → p s ≡ nat_le s.0 k)
    → IsRising steps → filter p steps ≡ before ++ last ∷ [] → height_at steps k ≡ last.1
height-last p k [] [] last same rising e = cc
height-last p k [] (b ∷ before) last same rising e = cc
height-last p k (s ∷ steps) before last same rising e = go (p s) (same s) e (λ bs f. height-last p k steps bs last same rising.1 f)
  where
    first : (before : List (ℕ × ℕ)) → true ≡ nat_le s.0 k → s ∷ filter p steps ≡ before ++ last ∷ [] → ((bs : List (ℕ × ℕ)) → filter p steps ≡ bs ++ last ∷ [] → height_at steps k ≡ last.1)
        → max (given s.0 s.1 k) (height_at steps k) ≡ last.1
    first [] t f ih =
        let none : filter p steps ≡ [] = cc in
        let is : s ≡ last = cc in
        let rest = height-none p k steps same none in
        let height : s.1 ≡ last.1 = ap (λ (x : ℕ × ℕ). x.1) is in
        rw (sym t) (omega (arith, rest, height))
    first (b ∷ bs) t f ih =
        let after : filter p steps ≡ bs ++ last ∷ [] = cc in
        let rest = ih bs after in
        let least = height-least p k s.1 steps bs last same rising.0 after in
        rw (sym t) (omega (arith, rest, least))

    go : (b : Bool) → b ≡ nat_le s.0 k → cond b (s ∷ filter p steps) (filter p steps) ≡ before ++ last ∷ [] → ((bs : List (ℕ × ℕ)) → filter p steps ≡ bs ++ last ∷ [] → height_at steps k ≡ last.1)
        → max (given s.0 s.1 k) (height_at steps k) ≡ last.1
    go true t f ih = first before t f ih
    go false t f ih = let rest = ih before f in rw (sym t) (omega (arith, rest))

-- steps behind a place give no height there
height-behind : (place at : ℕ) (steps : List (ℕ × ℕ)) → place < at → AllByRecursion (λ y. nat_cmp at y ≡ Less) (keys_of steps) → height_at steps place ≡ 0
height-behind place at [] lt h = refl
height-behind place at (s ∷ steps) lt h =
    let above = less at s.0 h.0 in
    let rest = height-behind place at steps lt h.1 in
    grind (arith, nat_tests, above, rest)

-- the height of a place fits there
pub fits-here : (place : ℕ) (steps : List (ℕ × ℕ)) → IsStrictlySortedBy nat_cmp (keys_of steps) → IsRising steps → FitsBetween place (height_at steps place) steps
fits-here place [] sorted rising = tt
fits-here place (s ∷ steps) sorted rising =
    let rest = fits-here place steps (sorted_tail nat_cmp s.0 (keys_of steps) sorted) rising.1 in
    let head = sorted_head nat_cmp s.0 (keys_of steps) sorted in
    ((here, behind head), all-two (λ x. s.1 ≤ x.1) (λ x. (x.0 ≤ place → x.1 ≤ height_at steps place) × (place < x.0 → height_at steps place ≤ x.1)) _ later steps rising.0 rest)
  where
    here : s.0 ≤ place → s.1 ≤ max (given s.0 s.1 place) (height_at steps place)
    here le = grind (arith, nat_tests)

    behind : AllByRecursion (λ y. nat_cmp s.0 y ≡ Less) (keys_of steps) → place < s.0 → max (given s.0 s.1 place) (height_at steps place) ≤ s.1
    behind head lt = let none = height-behind place s.0 steps lt head in grind (arith, nat_tests, none)

    later : (x : ℕ × ℕ) → s.1 ≤ x.1 → (x.0 ≤ place → x.1 ≤ height_at steps place) × (place < x.0 → height_at steps place ≤ x.1)
        → (x.0 ≤ place → x.1 ≤ max (given s.0 s.1 place) (height_at steps place)) × (place < x.0 → max (given s.0 s.1 place) (height_at steps place) ≤ x.1)
    later x le h = (
      (λ under. let a = h.0 under in omega (arith, a)),
      (λ over. let a = h.1 over in grind (arith, nat_tests, a)),
    )

-- steps behind one at or behind a place are as high as what fits there
above : (place height at : ℕ) (steps : List (ℕ × ℕ)) → place ≤ at → AllByRecursion (λ y. nat_cmp at y ≡ Less) (keys_of steps) → FitsBetween place height steps → AllByRecursion (λ s. height ≤ s.1) steps
above place height at [] le h fits = tt
above place height at (s ∷ steps) le h fits =
    let lt = less at s.0 h.0 in
    let behind : place < s.0 = omega (arith, lt) in
    (fits.0.1 behind, above place height at steps le h.1 fits.1)

-- with a step that fits the heights still rise
pub rising-insert : (place height : ℕ) (steps : List (ℕ × ℕ)) → IsStrictlySortedBy nat_cmp (keys_of steps) → IsRising steps → FitsBetween place height steps
    → IsRising (insert_entry nat_cmp steps place height)
rising-insert place height [] sorted rising fits = (tt, tt)
rising-insert place height (s ∷ steps) sorted rising fits =
    go (nat_cmp place s.0) (ranked place s.0 (nat_cmp place s.0) refl) (rising-insert place height steps (sorted_tail nat_cmp s.0 (keys_of steps) sorted) rising.1 fits.1)
  where
    head : AllByRecursion (λ y. nat_cmp s.0 y ≡ Less) (keys_of steps)
    head = sorted_head nat_cmp s.0 (keys_of steps) sorted

    go : (o : Ordering) → MatchOrdering o (place < s.0) (place ≡ s.0) (s.0 < place) → IsRising (insert_entry nat_cmp steps place height)
        → IsRising (match_ordering o ((place, height) ∷ s ∷ steps) ((s.0, height) ∷ steps) (s ∷ insert_entry nat_cmp steps place height))
    go Less lt rest =
        let le : place ≤ s.0 = omega (arith, lt) in
        ((fits.0.1 lt, above place height s.0 steps le head fits.1), rising)
    go Equal is rest =
        let le : place ≤ s.0 = omega (arith, is) in
        (above place height s.0 steps le head fits.1, rising.1)
    go Greater gt rest =
        let le : s.0 ≤ place = omega (arith, gt) in
        (all-insert (λ h. s.1 ≤ h) place height steps (fits.0.0 le) rising.0, rest)

-- what one more step gives, where one at its place isn't higher
pub height-insert : (place height : ℕ) (steps : List (ℕ × ℕ)) → FitsBetween place height steps → (k : ℕ)
    → height_at (insert_entry nat_cmp steps place height) k ≡ height_at ((place, height) ∷ steps) k
height-insert place height [] fits k = refl
height-insert place height (s ∷ steps) fits k =
    go (nat_cmp place s.0) (ranked place s.0 (nat_cmp place s.0) refl) (height-insert place height steps fits.1 k)
  where
    equal : place ≡ s.0 → s.1 ≤ height → (h : ℕ) → max (given s.0 height k) h ≡ max (given place height k) (max (given s.0 s.1 k) h)
    equal is le h = rw is (grind (arith, nat_tests, le))

    swapped : (a b h rest : ℕ) → rest ≡ max b h → max a rest ≡ max b (max a h)
    swapped a b h rest e = omega (arith, e)

    go : (o : Ordering) → MatchOrdering o (place < s.0) (place ≡ s.0) (s.0 < place)
        → height_at (insert_entry nat_cmp steps place height) k ≡ height_at ((place, height) ∷ steps) k
        → height_at (match_ordering o ((place, height) ∷ s ∷ steps) ((s.0, height) ∷ steps) (s ∷ insert_entry nat_cmp steps place height)) k
        ≡ height_at ((place, height) ∷ s ∷ steps) k
    go Less lt rest = refl
    go Equal is rest = let le : s.0 ≤ place = omega (arith, is) in equal is (fits.0.0 le) (height_at steps k)
    go Greater gt rest = swapped (given s.0 s.1 k) (given place height k) (height_at steps k) _ rest

-- without a step the heights still rise
pub rising-remove : (test : ℕ → Bool) (steps : List (ℕ × ℕ)) → IsRising steps → IsRising (remove_entry test steps)
rising-remove test [] rising = tt
rising-remove test (s ∷ steps) rising = go (test s.0) (rising-remove test steps rising.1)
  where
    go : (b : Bool) → IsRising (remove_entry test steps) → IsRising (cond b steps (s ∷ remove_entry test steps))
    go true rest = rising.1
    go false rest = (all-remove (λ x. s.1 ≤ x.1) test steps rising.0, rest)

-- under a step that is as high and before it, a step is not missed
pub height-remove : (place height lower : ℕ) (steps : List (ℕ × ℕ)) → place < lower → IsSomeAnd (lookup (is_at (nat_cmp lower)) steps) (λ found. found ≤ height) → (k : ℕ)
    → height_at ((place, height) ∷ remove_entry (is_at (nat_cmp lower)) steps) k ≡ height_at ((place, height) ∷ steps) k
height-remove place height lower [] lt h k = refl
height-remove place height lower (s ∷ steps) lt h k =
    go (nat_cmp lower s.0) (ranked lower s.0 (nat_cmp lower s.0) refl) h (λ f. height-remove place height lower steps lt f k)
  where
    same : lower ≡ s.0 → s.1 ≤ height → (h : ℕ) → max (given place height k) h ≡ max (given place height k) (max (given s.0 s.1 k) h)
    same is le h = grind (arith, nat_tests, le, is, lt)

    swapped : (a b h rest : ℕ) → max b rest ≡ max b h → max b (max a rest) ≡ max b (max a h)
    swapped a b h rest e = omega (arith, e)

    go : (o : Ordering) → MatchOrdering o (lower < s.0) (lower ≡ s.0) (s.0 < lower)
        → IsSomeAnd (cond (is_eq o) (Some s.1) (lookup (is_at (nat_cmp lower)) steps)) (λ found. found ≤ height)
        → (IsSomeAnd (lookup (is_at (nat_cmp lower)) steps) (λ found. found ≤ height) → height_at ((place, height) ∷ remove_entry (is_at (nat_cmp lower)) steps) k ≡ height_at ((place, height) ∷ steps) k)
        → height_at ((place, height) ∷ cond (is_eq o) steps (s ∷ remove_entry (is_at (nat_cmp lower)) steps)) k ≡ height_at ((place, height) ∷ s ∷ steps) k
    go Less _ f rest = swapped (given s.0 s.1 k) (given place height k) (height_at steps k) _ (rest f)
    go Equal is f rest = same is f (height_at steps k)
    go Greater _ f rest = swapped (given s.0 s.1 k) (given place height k) (height_at steps k) _ (rest f)

-- where no step is behind a place, each step behind it is high
pub behind-none : (p : ℕ × ℕ → Bool) (place height : ℕ) (steps : List (ℕ × ℕ)) → ((s : ℕ × ℕ) → p s ≡ nat_lt place s.0) → filter p steps ≡ []
    → AllByRecursion (λ s. place < s.0 → height ≤ s.1) steps
behind-none p place height [] same e = tt
behind-none p place height (s ∷ steps) same e = go (p s) (same s) e (behind-none p place height steps same)
  where
    go : (b : Bool) → b ≡ nat_lt place s.0 → cond b (s ∷ filter p steps) (filter p steps) ≡ [] → (filter p steps ≡ [] → AllByRecursion (λ s. place < s.0 → height ≤ s.1) steps)
        → (place < s.0 → height ≤ s.1) × AllByRecursion (λ s. place < s.0 → height ≤ s.1) steps
    go true t f ih = cc
    go false t f ih = ((λ lt. let le = ltb-false place s.0 (sym t) in absurd (omega (arith, lt, le))), ih f)

-- where the first step behind a place is high, each is
pub behind-high : (p : ℕ × ℕ → Bool) (place height : ℕ) (steps rest : List (ℕ × ℕ)) (first : ℕ × ℕ) → ((s : ℕ × ℕ) → p s ≡ nat_lt place s.0) → IsRising steps
    → filter p steps ≡ first ∷ rest → height ≤ first.1 → AllByRecursion (λ s. place < s.0 → height ≤ s.1) steps
behind-high p place height [] rest first same rising e le = tt
behind-high p place height (s ∷ steps) rest first same rising e le = go (p s) (same s) e (λ f. behind-high p place height steps rest first same rising.1 f le)
  where
    go : (b : Bool) → b ≡ nat_lt place s.0 → cond b (s ∷ filter p steps) (filter p steps) ≡ first ∷ rest
        → (filter p steps ≡ first ∷ rest → AllByRecursion (λ s. place < s.0 → height ≤ s.1) steps) → (place < s.0 → height ≤ s.1) × AllByRecursion (λ s. place < s.0 → height ≤ s.1) steps
    go true t f ih =
        let is : s ≡ first = cc in
        let same_height : s.1 ≡ first.1 = ap (λ (x : ℕ × ℕ). x.1) is in
        let high : height ≤ s.1 = omega (arith, same_height, le) in
        ((λ _. high), all-two (λ x. s.1 ≤ x.1) (λ x. s.1 ≤ x.1) _ (λ x a _ _. omega (arith, a, high)) steps rising.0 rising.0)
    go false t f ih = ((λ lt. let under = ltb-false place s.0 (sym t) in absurd (omega (arith, lt, under))), ih f)

-- a height that isn't above the one of its place changes nothing
pub height-idle : (place height : ℕ) (steps : List (ℕ × ℕ)) → height ≤ height_at steps place → (k : ℕ) → height_at steps k ≡ height_at ((place, height) ∷ steps) k
height-idle place height steps le k = go (nat_le place k) refl
  where
    go : (b : Bool) → nat_le place k ≡ b → height_at steps k ≡ max (if b then height else 0) (height_at steps k)
    go true t = let rises = height-rises place k steps (leb-true place k t) in omega (arith, rises, le)
    go false t = omega arith

-- the tests of a range by its bounds
pub is-upto : (place : ℕ) (s : ℕ × ℕ) → not (is_lt (nat_cmp place s.0)) ≡ nat_le s.0 place
is-upto place s = grind (arith, nat_tests)

pub is-behind : (place : ℕ) (s : ℕ × ℕ) → (is_lt (nat_cmp place s.0) && not false) ≡ nat_lt place s.0
is-behind place s = grind (arith, nat_tests)

-- a step as high as its place
pub room-rising : (place height : ℕ) (steps next : List (ℕ × ℕ)) → IsStrictlySortedBy nat_cmp (keys_of steps) → IsRising steps → height ≡ height_at steps place
    → next ≡ insert_entry nat_cmp steps place height → IsRising next
room-rising place height steps next sorted rising e f =
    let fits : FitsBetween place height steps = subst (λ h. FitsBetween place h steps) (sym e) (fits-here place steps sorted rising) in
    subst IsRising (sym f) (rising-insert place height steps sorted rising fits)

pub room-height : (place height : ℕ) (steps next : List (ℕ × ℕ)) → IsStrictlySortedBy nat_cmp (keys_of steps) → IsRising steps → height ≡ height_at steps place
    → next ≡ insert_entry nat_cmp steps place height → (k : ℕ) → height_at next k ≡ height_at steps k
room-height place height steps next sorted rising e f k =
    let fits : FitsBetween place height steps = subst (λ h. FitsBetween place h steps) (sym e) (fits-here place steps sorted rising) in
    ap (λ s. height_at s k) f ∙ (height-insert place height steps fits k ∙ sym (height-idle place height steps (omega (arith, e)) k))

-- a height that is no lower than its place and no higher than the steps behind it fits
fits-raised : (place height : ℕ) (steps : List (ℕ × ℕ)) → height_at steps place ≤ height → AllByRecursion (λ s. place < s.0 → height ≤ s.1) steps → FitsBetween place height steps
fits-raised place height [] le behind = tt
fits-raised place height (s ∷ steps) le behind =
    let rest : height_at steps place ≤ height = omega (arith, le) in
    let here : given s.0 s.1 place ≤ height = omega (arith, le) in
    (((λ under. grind (arith, nat_tests, here)), behind.0), fits-raised place height steps rest behind.1)

-- what stands at the place is low, where a step as high as this makes it no higher
low-still : (place height old new : ℕ) → max (given place height place) new ≡ max (given place height place) old → old < height → new ≤ height
low-still place height old new e lt = grind (arith, nat_tests, e, lt)

pub raised-fits : (place height : ℕ) (old steps : List (ℕ × ℕ)) → height_at old place < height → ((k : ℕ) → height_at ((place, height) ∷ steps) k ≡ height_at ((place, height) ∷ old) k)
    → AllByRecursion (λ s. place < s.0 → height ≤ s.1) steps → FitsBetween place height steps
raised-fits place height old steps lt same behind =
    fits-raised place height steps (low-still place height (height_at old place) (height_at steps place) (same place) lt) behind

-- steps at other places stay
pub step-stays : (place lower : ℕ) (steps : List (ℕ × ℕ)) → place < lower → HasStep steps place → HasStep (remove_entry (is_at (nat_cmp lower)) steps) place
step-stays place lower [] lt h = h
step-stays place lower (s ∷ steps) lt h =
    go (nat_cmp lower s.0) (ranked lower s.0 (nat_cmp lower s.0) refl) (nat_cmp place s.0) refl (ranked place s.0 (nat_cmp place s.0) refl) h (step-stays place lower steps lt)
  where
    other : (o : Ordering) → MatchOrdering o (place < s.0) (place ≡ s.0) (s.0 < place)
        → IsSome (cond (is_eq o) (Some s.1) (lookup (is_at (nat_cmp place)) steps))
        → (HasStep steps place → HasStep (remove_entry (is_at (nat_cmp lower)) steps) place)
        → IsSome (cond (is_eq o) (Some s.1) (lookup (is_at (nat_cmp place)) (remove_entry (is_at (nat_cmp lower)) steps)))
    other Less m f ih = ih f
    other Equal m f ih = f
    other Greater m f ih = ih f

    gone : (o : Ordering) → MatchOrdering o (place < s.0) (place ≡ s.0) (s.0 < place) → lower ≡ s.0 → IsSome (cond (is_eq o) (Some s.1) (lookup (is_at (nat_cmp place)) steps)) → HasStep steps place
    gone Less m is f = f
    gone Equal m is f = absurd (omega (arith, m, is, lt))
    gone Greater m is f = f

    go : (o : Ordering) → MatchOrdering o (lower < s.0) (lower ≡ s.0) (s.0 < lower) → (q : Ordering) → nat_cmp place s.0 ≡ q → MatchOrdering q (place < s.0) (place ≡ s.0) (s.0 < place)
        → IsSome (cond (is_eq q) (Some s.1) (lookup (is_at (nat_cmp place)) steps))
        → (HasStep steps place → HasStep (remove_entry (is_at (nat_cmp lower)) steps) place)
        → HasStep (cond (is_eq o) steps (s ∷ remove_entry (is_at (nat_cmp lower)) steps)) place
    go Less _ q e m f ih = subst (λ o. IsSome (cond (is_eq o) (Some s.1) (lookup (is_at (nat_cmp place)) (remove_entry (is_at (nat_cmp lower)) steps)))) (sym e) (other q m f ih)
    go Equal is q e m f ih = gone q m is f
    go Greater _ q e m f ih = subst (λ o. IsSome (cond (is_eq o) (Some s.1) (lookup (is_at (nat_cmp place)) (remove_entry (is_at (nat_cmp lower)) steps)))) (sym e) (other q m f ih)

-- steps after one was removed
pub removed-heights : (place height lower : ℕ) (first steps next : List (ℕ × ℕ)) → place < lower → IsLower lower height steps → next ≡ remove_entry (is_at (nat_cmp lower)) steps
    → ((k : ℕ) → height_at ((place, height) ∷ steps) k ≡ height_at ((place, height) ∷ first) k) → (k : ℕ) → height_at ((place, height) ∷ next) k ≡ height_at ((place, height) ∷ first) k
removed-heights place height lower first steps next lt low e same k =
    ap (λ s. height_at ((place, height) ∷ s) k) e ∙ (height-remove place height lower steps lt low k ∙ same k)

pub removed-step : (place lower : ℕ) (steps next : List (ℕ × ℕ)) → place < lower → next ≡ remove_entry (is_at (nat_cmp lower)) steps → HasStep steps place → HasStep next place
removed-step place lower steps next lt e h = subst (λ s. HasStep s place) (sym e) (step-stays place lower steps lt h)

-- steps after a height was put where it fits
pub raised-rising : (place height : ℕ) (steps next : List (ℕ × ℕ)) → IsStrictlySortedBy nat_cmp (keys_of steps) → IsRising steps → FitsBetween place height steps
    → next ≡ insert_entry nat_cmp steps place height → IsRising next
raised-rising place height steps next sorted rising fits e = subst IsRising (sym e) (rising-insert place height steps sorted rising fits)

pub raised-heights : (place height : ℕ) (old steps next : List (ℕ × ℕ)) → FitsBetween place height steps
    → ((k : ℕ) → height_at ((place, height) ∷ steps) k ≡ height_at ((place, height) ∷ old) k)
    → next ≡ insert_entry nat_cmp steps place height → (k : ℕ) → height_at next k ≡ height_at ((place, height) ∷ old) k
raised-heights place height old steps next fits same e k = ap (λ s. height_at s k) e ∙ (height-insert place height steps fits k ∙ same k)
