-- What is found of the possible states and of open changes, one request after the other.
use Rattle.std.proofs.Common.{arith, ◌≡◌, ℕ, ◌≤◌, refl, sym, ◌∙◌, ap, subst, List, [], ◌∷◌, ◌++◌, Bool, true, false, ◌||◌, ◌&&◌, Option, Some, None, length, append_assoc, append-nil, flat_map}
use Rattle.std.specs.Prelude.{nat_lt, not, find, option_map, if◌then◌else◌}
use Rattle.std.specs.List.{list_any, list_all}
use Rattle.std.specs.Option.{option_or, option_map_or}
use Rattle.std.proofs.lemmas.Map.Made.{length-from_same_keys}
use Rattle.std.proofs.lemmas.Bool.{both_ways}
use Rattle.hk_base.specs.TailoringParts.{TailoringParts}
use Rattle.hk_base.specs.declared.types.Structure.{Structure}
use Rattle.definition_intervals.specs.Openings.{Candidate, Opening, candidates, from_creation, surely_creates, is_open, first_open}
use Rattle.definition_intervals.specs.States.{state_eq, next_states, reachable_states, distinct_states, is_possible_from, is_crowded}
use Rattle.definition_intervals.specs.Verdicts.{common_states}
use Rattle.definition_intervals.specs.Findings.{uncrowded_openings, with_request}
use Rattle.definition_intervals.specs.Founds.{unless_many, found_by, found_after, found_after_all, AreSameFound, IsFoundOf, first_after, first_after_all, OpeningsAreFound, SameIsFound, is_left, is_crowd, AreFoundOf, FindsGiveBases}
use Rattle.definition_intervals.specs.declared.answer.Basis.TheVariants.{NoOpening, Crowded, Open}
use Rattle.definition_intervals.proofs.SetLemmas.{state_eq_laws, AreSame, same-any, any-flat_map, distinct-members, distinct-once}
use Rattle.definition_intervals.proofs.ReachLemmas.{reachable-more, prefixes-more}
use Rattle.definition_intervals.proofs.CommonLemmas.{common-members}

-- states with the same members are as many, each once
same-count : (a b : List (Option Structure)) → AreSame a b → length (distinct_states a) ≡ length (distinct_states b)
same-count a b h =
    length-from_same_keys state_eq_laws (distinct_states a) (distinct_states b) (distinct-once a) (distinct-once b) (λ q. distinct-members a q ∙ (h q ∙ sym (distinct-members b q)))

same-pieces : (f : Option Structure → List (Option Structure)) (a b : List (Option Structure)) → AreSame a b → AreSame (flat_map f a) (flat_map f b)
same-pieces f a b h q = any-flat_map (state_eq q) f a ∙ (same-any (λ x. list_any (state_eq q) (f x)) a b h ∙ sym (any-flat_map (state_eq q) f b))

same-found_refl : (a : Option (List (Option Structure))) → AreSameFound a a
same-found_refl None = tt
same-found_refl (Some a) = λ s. refl

many-same : (x y : List (Option Structure)) → AreSame x y → length x ≡ length y → AreSameFound (unless_many x) (unless_many y)
many-same x y h e = subst (λ n. AreSameFound (unless_many x) (if nat_lt 64 n then None else Some y)) e (go (nat_lt 64 (length x)))
  where
    go : (b : Bool) → AreSameFound (if b then None else Some x) (if b then None else Some y)
    go true = tt
    go false = h

by-same : (t : TailoringParts) (c : Candidate) (a b : Option (List (Option Structure))) → AreSameFound a b → AreSameFound (found_by t c a) (found_by t c b)
by-same t c None None h = tt
by-same t c None (Some b) h = absurd h
by-same t c (Some a) None h = absurd h
by-same t c (Some a) (Some b) h =
    let xs = flat_map (next_states t c) a in
    let ys = flat_map (next_states t c) b in
    let same = same-pieces (next_states t c) a b h in
    many-same (distinct_states xs) (distinct_states ys) (λ q. distinct-members xs q ∙ (same q ∙ sym (distinct-members ys q))) (same-count xs ys same)

pub after-same : SameIsFound
after-same t c a b h = go (surely_creates c)
  where
    go : (s : Bool) → AreSameFound (found_by t c (if s then Some (None ∷ []) else a)) (found_by t c (if s then Some (None ∷ []) else b))
    go true = same-found_refl (found_by t c (Some (None ∷ [])))
    go false = by-same t c a b h

-- whether there are more than 64 states after some requests
abbrev is_many : TailoringParts → Option Structure → List Candidate → Bool
is_many t s cs = nat_lt 64 (length (distinct_states (reachable_states t cs s)))

-- an opening with one more request, where that is no sure creation
abbrev longer : Opening → Candidate → Opening
longer o c = record { tag = o.tag; state = o.state; requests = o.requests ++ c ∷ [] }

found-longer : (t : TailoringParts) (o : Opening) (c : Candidate) (found : Option (List (Option Structure))) → IsFoundOf t o found → IsFoundOf t (longer o c) (found_by t c found)
found-longer t o c None h =
    prefixes-more (is_many t o.state) o.requests c ∙ ap (λ b. b || is_many t o.state (o.requests ++ c ∷ [])) h
found-longer t o c (Some ss) h = go (nat_lt 64 (length (distinct_states next))) refl
  where
    next : List (Option Structure)
    next = flat_map (next_states t c) ss

    all : List (Option Structure)
    all = reachable_states t o.requests o.state

    more : reachable_states t (o.requests ++ c ∷ []) o.state ≡ flat_map (next_states t c) all
    more = reachable-more t o.requests c o.state

    crowded : is_crowded t (longer o c) ≡ nat_lt 64 (length (distinct_states next))
    crowded =
        prefixes-more (is_many t o.state) o.requests c
        ∙ (ap (λ b. b || is_many t o.state (o.requests ++ c ∷ [])) h.0
        ∙ (ap (λ l. nat_lt 64 (length (distinct_states l))) more
        ∙ ap (λ n. nat_lt 64 n) (sym (same-count next (flat_map (next_states t c) all) (same-pieces (next_states t c) ss all h.1)))))

    go : (b : Bool) → nat_lt 64 (length (distinct_states next)) ≡ b → IsFoundOf t (longer o c) (if b then None else Some (distinct_states next))
    go true e = crowded ∙ e
    go false e = (crowded ∙ e, λ q. distinct-members next q ∙ (same-pieces (next_states t c) ss all h.1 q ∙ sym (ap (λ l. list_any (state_eq q) l) more)))

-- one more request of an opening
found-more : (t : TailoringParts) (o : Opening) (c : Candidate) (found : Option (List (Option Structure))) → IsFoundOf t o found → IsFoundOf t (with_request o c) (found_after t c found)
found-more t o c found h = go (surely_creates c)
  where
    go : (b : Bool) → IsFoundOf t (if b then record { tag = o.tag; state = None; requests = c ∷ [] } else longer o c) (found_by t c (if b then Some (None ∷ []) else found))
    go true = found-longer t (record { tag = o.tag; state = None; requests = [] }) c (Some (None ∷ [])) (refl, λ q. refl)
    go false = found-longer t o c found h

-- an opening with some more requests
abbrev grown : Opening → List Candidate → Opening
grown o [] = o
grown o (c ∷ cs) = grown (with_request o c) cs

found-grown : (t : TailoringParts) (o : Opening) (cs : List Candidate) (found : Option (List (Option Structure))) → IsFoundOf t o found
    → IsFoundOf t (grown o cs) (found_after_all t cs found)
found-grown t o [] found h = h
found-grown t o (c ∷ cs) found h = found-grown t (with_request o c) cs (found_after t c found) (found-more t o c found h)

-- from the last sure creation on, or all
abbrev cut : Opening → List Candidate → Option (List Candidate) → Opening
cut o cs created = option_map_or (λ rest. record { tag = o.tag; state = None; requests = rest }) created (record { tag = o.tag; state = o.state; requests = o.requests ++ cs })

grown-cut : (o : Opening) (cs : List Candidate) → grown o cs ≡ cut o cs (from_creation cs)
grown-cut o [] = ap (λ l. record { tag = o.tag; state = o.state; requests = l }) (sym (append-nil o.requests))
grown-cut o (c ∷ cs) = grown-cut (with_request o c) cs ∙ go (from_creation cs) (surely_creates c)
  where
    go : (r : Option (List Candidate)) (b : Bool)
        → cut (if b then record { tag = o.tag; state = None; requests = c ∷ [] } else longer o c) cs r
        ≡ cut o (c ∷ cs) (option_or r (if b then Some (c ∷ cs) else None))
    go (Some r) true = refl
    go (Some r) false = refl
    go None true = refl
    go None false = ap (λ l. record { tag = o.tag; state = o.state; requests = l }) (append_assoc o.requests (c ∷ []) cs)

-- the first that passes of a list with one more
find-more : {X : Type 0} (test : X → Bool) (xs : List X) (x : X) → find test (xs ++ x ∷ []) ≡ option_or (find test xs) (if test x then Some x else None)
find-more test [] x = go (test x)
  where
    go : (b : Bool) → (if b then Some x else None) ≡ option_or None (if b then Some x else None)
    go true = refl
    go false = refl
find-more test (y ∷ xs) x = go (test y) (find-more test xs x)
  where
    go : (b : Bool) → find test (xs ++ x ∷ []) ≡ option_or (find test xs) (if test x then Some x else None)
        → (if b then Some y else find test (xs ++ x ∷ [])) ≡ option_or (if b then Some y else find test xs) (if test x then Some x else None)
    go true rest = refl
    go false rest = rest

first-more : (o : Opening) (c : Candidate) → first_open (with_request o c) ≡ first_after c (first_open o)
first-more o c = go (surely_creates c)
  where
    own : Option ℕ
    own = if is_open c then Some c.number else None

    told : (b : Bool) → option_map (λ (d : Candidate). d.number) (if b then Some c else None) ≡ (if b then Some c.number else None)
    told true = refl
    told false = refl

    join : (found : Option Candidate) (b : Bool)
        → option_map (λ (d : Candidate). d.number) (option_or found (if b then Some c else None)) ≡ option_or (option_map (λ (d : Candidate). d.number) found) (if b then Some c.number else None)
    join None true = refl
    join None false = refl
    join (Some d) b = refl

    go : (b : Bool) → first_open (if b then record { tag = o.tag; state = None; requests = c ∷ [] } else longer o c) ≡ (if b then own else option_or (first_open o) own)
    go true = told (is_open c)
    go false = ap (λ f. option_map (λ (d : Candidate). d.number) f) (find-more is_open o.requests c) ∙ join (find is_open o.requests) (is_open c)

first-grown : (o : Opening) (cs : List Candidate) → first_open (grown o cs) ≡ first_after_all cs (first_open o)
first-grown o [] = refl
first-grown o (c ∷ cs) = first-grown (with_request o c) cs ∙ ap (λ f. first_after_all cs f) (first-more o c)

pub openings-found : OpeningsAreFound
openings-found t h key tag from state =
    let o : Opening = record { tag = from; state = state; requests = [] } in
    let cs = candidates h key from tag in (
      subst (λ (x : Opening). IsFoundOf t x (found_after_all t cs (Some (state ∷ [])))) (grown-cut o cs) (found-grown t o cs (Some (state ∷ [])) (refl, λ q. refl)),
      ap (λ (x : Opening). first_open x) (sym (grown-cut o cs)) ∙ first-grown o cs,
    )

-- the openings that aren't crowded, by what was found of each
one-uncrowded : (t : TailoringParts) (o : Opening) (os : List Opening) (b : Bool) → is_crowded t o ≡ b → uncrowded_openings t (o ∷ os) ≡ (if b then uncrowded_openings t os else o ∷ uncrowded_openings t os)
one-uncrowded t o os b e = ap (λ (c : Bool). if not c then o ∷ uncrowded_openings t os else uncrowded_openings t os) e ∙ go b
  where
    go : (c : Bool) → (if not c then o ∷ uncrowded_openings t os else uncrowded_openings t os) ≡ (if c then uncrowded_openings t os else o ∷ uncrowded_openings t os)
    go true = refl
    go false = refl

none-left : (t : TailoringParts) (os : List Opening) (founds : List (Option (List (Option Structure)))) → AreFoundOf t os founds → list_all is_crowd founds ≡ true → uncrowded_openings t os ≡ []
none-left t [] [] h e = refl
none-left t [] (f ∷ fs) h e = absurd h
none-left t (o ∷ os) [] h e = absurd h
none-left t (o ∷ os) (None ∷ fs) h e = one-uncrowded t o os true h.0 ∙ none-left t os fs h.1 e
none-left t (o ∷ os) (Some ss ∷ fs) h e = absurd (both_ways false refl e)

some-left : (t : TailoringParts) (os : List Opening) (founds : List (Option (List (Option Structure)))) → AreFoundOf t os founds → list_all is_crowd founds ≡ false → 1 ≤ length (uncrowded_openings t os)
some-left t [] [] h e = absurd (both_ways true e refl)
some-left t [] (f ∷ fs) h e = absurd h
some-left t (o ∷ os) [] h e = absurd h
some-left t (o ∷ os) (None ∷ fs) h e = subst (λ (l : List Opening). 1 ≤ length l) (sym (one-uncrowded t o os true h.0)) (some-left t os fs h.1 e)
some-left t (o ∷ os) (Some ss ∷ fs) h e = subst (λ (l : List Opening). 1 ≤ length l) (sym (one-uncrowded t o os false h.0.0)) (omega arith)

-- a state that is possible from each opening that isn't crowded is left by all that was found
left-by_all : (t : TailoringParts) (q : Option Structure) (os : List Opening) (founds : List (Option (List (Option Structure)))) → AreFoundOf t os founds
    → list_all (is_possible_from t q) (uncrowded_openings t os) ≡ list_all (is_left q) founds
left-by_all t q [] [] h = refl
left-by_all t q [] (f ∷ fs) h = absurd h
left-by_all t q (o ∷ os) [] h = absurd h
left-by_all t q (o ∷ os) (None ∷ fs) h = ap (λ (l : List Opening). list_all (is_possible_from t q) l) (one-uncrowded t o os true h.0) ∙ left-by_all t q os fs h.1
left-by_all t q (o ∷ os) (Some ss ∷ fs) h =
    ap (λ (l : List Opening). list_all (is_possible_from t q) l) (one-uncrowded t o os false h.0.0)
    ∙ (ap (λ b. b && list_all (is_possible_from t q) (uncrowded_openings t os)) (sym (h.0.1 q)) ∙ ap (λ b. list_any (state_eq q) ss && b) (left-by_all t q os fs h.1))

common-of : (t : TailoringParts) (os : List Opening) (q : Option Structure) → 1 ≤ length os → list_any (state_eq q) (common_states t os) ≡ list_all (is_possible_from t q) os
common-of t [] q h = absurd (omega arith)
common-of t (o ∷ os) q h = common-members t q o os

as_many : (t : TailoringParts) (os : List Opening) (founds : List (Option (List (Option Structure)))) → AreFoundOf t os founds → 1 ≤ length founds → 1 ≤ length os
as_many t [] [] h l = l
as_many t [] (f ∷ fs) h l = absurd h
as_many t (o ∷ os) founds h l = omega arith

no_openings : (t : TailoringParts) (os : List Opening) (founds : List (Option (List (Option Structure)))) → AreFoundOf t os founds → founds ≡ [] → os ≡ []
no_openings t [] founds h e = refl
no_openings t (o ∷ os) [] h e = absurd h
no_openings t (o ∷ os) (f ∷ fs) h e = absurd (let no : f ∷ fs ≡ [] → ⊥ = λ p. cc in no e)

pub finds_give_bases : FindsGiveBases
finds_give_bases t os founds NoOpening h is = no_openings t os founds h is
finds_give_bases t os founds (Crowded k) h is = (as_many t os founds h is.0, none-left t os founds h is.1, is.2)
finds_give_bases t os founds (Open states k) h is =
    let some = some-left t os founds h is.0 in
    ((some, record { once = is.1; members = λ q. is.2 q ∙ (sym (left-by_all t q os founds h) ∙ sym (common-of t (uncrowded_openings t os) q some)) }), is.3)
