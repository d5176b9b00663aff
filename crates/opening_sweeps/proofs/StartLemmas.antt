-- The states that openings begin with, in the order of tags.
use Rattle.std.proofs.Common.{arith, ◌≡◌, ℕ, zero, suc, ◌+◌, ◌<◌, ◌≤◌, refl, sym, ◌∙◌, ap, subst, List, [], ◌∷◌, ◌++◌, Bool, true, false, ◌⊎◌, inl, inr, Option, Some, None, length, map, take, drop, get_or, append-nil, append_assoc}
use Rattle.std.specs.Prelude.{filter_map, nat_le, ◌&&◌, if◌then◌else◌}
use Rattle.std.specs.List.{All, AllByRecursion, AllWithin, HoldsAt, cons_option}
use Rattle.std.proofs.lemmas.Bool.{le-leb, leb-true, cases_lt}
use Rattle.std.proofs.lemmas.List.{take_more, drop-append-le, length-take-le, get_or-take, map-append, map_push, take-append-drop, take-take, drop_all}
use Rattle.std.proofs.lemmas.List.Elements.{All-from_recursion, recursion_from_All, All-nil, All-cons, All-weaker, All-get_or}
use Rattle.hk_base.specs.TailoringParts.{TailoringParts}
use Rattle.hk_base.specs.declared.types.Structure.{Structure}
use Rattle.definition_intervals.specs.Openings.{Candidate, is_at_most}
use Rattle.definition_intervals.specs.Founds.{found_after_all}
use Rattle.opening_sweeps.specs.Requests.{Bounded, Start, as_request, settled, IsBelow, AreRising, HaveRisingStarts}
use Rattle.opening_sweeps.specs.Courses.{Course, course_of, course_after_all, AreAlike}
use Rattle.opening_sweeps.specs.Groups.{courses}
use Rattle.opening_sweeps.specs.Sweeps.{last_tag}
use Rattle.opening_sweeps.specs.declared.group.Group.{Group}
use Rattle.opening_sweeps.proofs.CourseLemmas.{alike-refl, alike-trans, alike-append}
use Rattle.opening_sweeps.proofs.SettleLemmas.{not_past}

-- one more member behind a place
pub part-more : {X : Type 0} (xs : List X) (from i : ℕ) (x : X) → from ≤ i → i < length xs → x ≡ get_or xs i x → drop from (take (i + 1) xs) ≡ drop from (take i xs) ++ x ∷ []
part-more xs from i x le l e =
    let within : from ≤ length (take i xs) = omega (arith, length-take-le i xs (omega arith)) in
    ap (λ ys. drop from ys) (take_more xs i x l ∙ ap (λ y. take i xs ++ y ∷ []) (sym e)) ∙ drop-append-le from (take i xs) (x ∷ []) within

pub part-none : {X : Type 0} (xs : List X) (n : ℕ) → n ≤ length xs → drop n (take n xs) ≡ []
part-none xs n le = drop_all n (take n xs) (omega (arith, length-take-le n xs le))

-- a front is a shorter one and the part between
pub take-parts : {X : Type 0} (xs : List X) (n m : ℕ) → n ≤ m → take m xs ≡ take n xs ++ drop n (take m xs)
take-parts xs n m le = sym (take-append-drop n (take m xs)) ∙ ap (λ ys. ys ++ drop n (take m xs)) (take-take n m xs le)

-- what holds of a front and of the members behind it, up to a place
pub take-within : {X : Type 0} (P : X → Type 0) (xs : List X) (n m : ℕ) → m ≤ length xs → All P (take n xs) → AllWithin P xs n m → n ≤ m → All P (take m xs)
take-within P xs n m le front behind order k d l = go (cases_lt k n)
  where
    within : length (take m xs) ≡ m
    within = length-take-le m xs le

    low : k < m
    low = omega (arith, within)

    same : get_or (take m xs) k d ≡ get_or xs k d
    same = get_or-take m xs k d low

    go : (k < n) ⊎ (n ≤ k) → P (get_or (take m xs) k d)
    go (inl h) =
        let small : k < length (take n xs) = omega (arith, length-take-le n xs (omega arith)) in
        subst P (get_or-take n xs k d h ∙ sym same) (front k d small)
    go (inr h) = subst P (sym same) (behind k d h low)

-- the tag of the last
pub last-append : (d : ℕ) (xs ys : List Start) → last_tag d (xs ++ ys) ≡ last_tag (last_tag d xs) ys
last-append d [] ys = refl
last-append d (x ∷ xs) ys = last-append x.tag xs ys

pub last-above : (d m : ℕ) (xs : List Start) → AllByRecursion (λ x. m ≤ x.tag) xs → 1 ≤ length xs → m ≤ last_tag d xs
last-above d m [] all l = absurd (omega arith)
last-above d m (x ∷ []) all l = all.0
last-above d m (x ∷ y ∷ xs) all l = last-above x.tag m (y ∷ xs) all.1 (omega arith)

-- behind a place all tags are as high as there
weaker-starts : (m n : ℕ) (xs : List Start) → m ≤ n → AllByRecursion (λ x. n < x.tag) xs → AllByRecursion (λ x. m ≤ x.tag) xs
weaker-starts m n [] le h = tt
weaker-starts m n (x ∷ xs) le h = (omega (arith, h.0), weaker-starts m n xs le h.1)

starts-behind : (told : List Start) (n m : ℕ) → HaveRisingStarts told → (n < length told → HoldsAt (λ x. m ≤ x.tag) told n) → AllByRecursion (λ x. m ≤ x.tag) (drop n told)
starts-behind [] zero m rising h = tt
starts-behind [] (suc n) m rising h = tt
starts-behind (x ∷ xs) zero m rising h = let here : m ≤ x.tag = h (omega arith) x in (here, weaker-starts m x.tag xs here rising.0)
starts-behind (x ∷ xs) (suc n) m rising h = starts-behind xs n m rising.1 (λ l. h (omega arith))

pub starts-above : (told : List Start) (n m : ℕ) → HaveRisingStarts told → (n < length told → HoldsAt (λ x. m ≤ x.tag) told n) → All (λ x. m ≤ x.tag) (drop n told)
starts-above told n m rising h = All-from_recursion (λ x. m ≤ x.tag) (drop n told) (starts-behind told n m rising h)

-- behind a place all lower bounds are as high as there
weaker-lows : (m : ℕ) (r : Bounded) (rs : List Bounded) → m ≤ r.low → AllByRecursion (IsBelow r) rs → AllByRecursion (λ x. m ≤ x.low) rs
weaker-lows m r [] le h = tt
weaker-lows m r (x ∷ rs) le h = let low : r.low ≤ x.low = h.0.low in (omega arith, weaker-lows m r rs le h.1)

lows-behind : (rs : List Bounded) (n m : ℕ) → AreRising rs → (n < length rs → HoldsAt (λ r. m ≤ r.low) rs n) → AllByRecursion (λ r. m ≤ r.low) (drop n rs)
lows-behind [] zero m rising h = tt
lows-behind [] (suc n) m rising h = tt
lows-behind (x ∷ xs) zero m rising h = let here : m ≤ x.low = h (omega arith) x in (here, weaker-lows m x xs here rising.0)
lows-behind (x ∷ xs) (suc n) m rising h = lows-behind xs n m rising.1 (λ l. h (omega arith))

pub lows-above : (rs : List Bounded) (n m : ℕ) → AreRising rs → (n < length rs → HoldsAt (λ r. m ≤ r.low) rs n) → All (λ r. m ≤ r.low) (drop n rs)
lows-above rs n m rising h = All-from_recursion (λ r. m ≤ r.low) (drop n rs) (lows-behind rs n m rising h)

-- behind a place, and before another, all upper bounds are above a tag
weaker-highs : (m : ℕ) (r : Bounded) (rs : List Bounded) → is_at_most r.high m ≡ false → AllByRecursion (IsBelow r) rs → AllByRecursion (λ x. is_at_most x.high m ≡ false) rs
weaker-highs m r [] e h = tt
weaker-highs m r (x ∷ rs) e h = (not_past r x m h.0 e, weaker-highs m r rs e h.1)

weaker-front : (m k : ℕ) (rs : List Bounded) → AllByRecursion (λ x. is_at_most x.high m ≡ false) rs → AllByRecursion (λ x. is_at_most x.high m ≡ false) (take k rs)
weaker-front m zero rs h = tt
weaker-front m (suc k) [] h = tt
weaker-front m (suc k) (x ∷ rs) h = (h.0, weaker-front m k rs h.1)

highs-behind : (rs : List Bounded) (n to m : ℕ) → AreRising rs → to ≤ length rs → (n < to → HoldsAt (λ r. is_at_most r.high m ≡ false) rs n)
    → AllByRecursion (λ r. is_at_most r.high m ≡ false) (drop n (take to rs))
highs-behind rs zero zero m rising l h = tt
highs-behind rs (suc n) zero m rising l h = tt
highs-behind [] n (suc to) m rising l h = absurd (omega arith)
highs-behind (x ∷ xs) zero (suc to) m rising l h =
    let here : is_at_most x.high m ≡ false = h (omega arith) x in
    (here, weaker-front m to xs (weaker-highs m x xs here rising.0))
highs-behind (x ∷ xs) (suc n) (suc to) m rising l h = highs-behind xs n to m rising.1 (omega arith) (λ k. h (omega arith))

pub highs-above : (rs : List Bounded) (n to m : ℕ) → AreRising rs → to ≤ length rs → (n < to → HoldsAt (λ r. is_at_most r.high m ≡ false) rs n)
    → All (λ r. is_at_most r.high m ≡ false) (drop n (take to rs))
highs-above rs n to m rising l h = All-from_recursion (λ r. is_at_most r.high m ≡ false) (drop n (take to rs)) (highs-behind rs n to m rising l h)

pub at_most-more : (high : Option ℕ) (m n : ℕ) → m ≤ n → is_at_most high m ≡ true → is_at_most high n ≡ true
at_most-more None m n le e = e
at_most-more (Some k) m n le e = let low : k ≤ m = leb-true k m e in le-leb k n (omega arith)

-- requests that are past leave an opening as it is
pub none-settled : (m tag : ℕ) (rs : List Bounded) → m ≤ tag → AllByRecursion (λ r. is_at_most r.high m ≡ true) rs → filter_map (settled tag) rs ≡ []
none-settled m tag [] le h = refl
none-settled m tag (r ∷ rs) le h =
    ap (λ (b : Bool). cons_option (if b then None else Some (as_request (nat_le tag r.low && r.accepted) r)) (filter_map (settled tag) rs)) (at_most-more r.high m tag le h.0)
    ∙ none-settled m tag rs le h.1

pub courses-unsettled : (t : TailoringParts) (m : ℕ) (rs : List Bounded) (ss : List Start) → AllByRecursion (λ r. is_at_most r.high m ≡ true) rs → AllByRecursion (λ s. m ≤ s.tag) ss
    → map (course_after_all t rs) (map course_of ss) ≡ map course_of ss
courses-unsettled t m rs [] h g = refl
courses-unsettled t m rs (s ∷ ss) h g =
    ap (λ cs. record { tag = s.tag; found = found_after_all t cs (Some (s.state ∷ [])) } ∷ map (course_after_all t rs) (map course_of ss)) (none-settled m s.tag rs g.0 h)
    ∙ ap (λ ks. course_of s ∷ ks) (courses-unsettled t m rs ss h g.1)

-- openings that are new when some requests are settled
pub alike-opened : (t : TailoringParts) (m : ℕ) (rs rest : List Bounded) (old new : List Start) (gs g1 : List Group) → AllByRecursion (λ r. is_at_most r.high m ≡ true) rs → AllByRecursion (λ s. m ≤ s.tag) new
    → AreAlike rest (map (course_after_all t rs) (map course_of old)) (courses gs) → AreAlike rest (courses gs ++ map course_of new) (courses g1)
    → AreAlike rest (map (course_after_all t rs) (map course_of (old ++ new))) (courses g1)
alike-opened t m rs rest old new gs g1 past above h n =
    let after = course_after_all t rs in
    let same : map after (map course_of (old ++ new)) ≡ map after (map course_of old) ++ map course_of new =
    ap (λ ks. map after ks) (map-append course_of old new) ∙ (map-append after (map course_of old) (map course_of new)
    ∙ ap (λ ks. map after (map course_of old) ++ ks) (courses-unsettled t m rs new past above)) in
    subst (λ ks. AreAlike rest ks (courses g1)) (sym same)
    (alike-trans rest (map after (map course_of old) ++ map course_of new) (courses gs ++ map course_of new) (courses g1)
    (alike-append rest (map after (map course_of old)) (courses gs) (map course_of new) (map course_of new) h (alike-refl rest (map course_of new))) n)
