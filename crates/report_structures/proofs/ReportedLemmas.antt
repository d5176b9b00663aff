-- The structure of a report of the grammar is valid, the size of its payload aside.
use Rattle.std.proofs.Common.{◌≡◌, ℕ, ◌==◌, ◌||◌, refl, sym, ◌∙◌, ap, subst, List, [], ◌∷◌, ◌++◌, Bool, true, false, Option, Some, None}
use Rattle.std.specs.Prelude.{flat_map, not, is_some, if◌then◌else◌}
use Rattle.std.specs.Option.{option_or}
use Rattle.std.proofs.lemmas.Option.{none-some}
use Rattle.hk_base.specs.TailoringParts.{TailoringParts}
use Rattle.hk_base.specs.Parameters.{parameter}
use Rattle.hk_base.specs.Definitions.{first_repeat, IsWellFormed}
use Rattle.hk_base.specs.declared.types.Key.{Key}
use Rattle.hk_base.specs.declared.types.SuperList.{SuperList}
use Rattle.hk_base.specs.declared.types.Structure.{Structure}
use Rattle.body_fields.specs.Reading.{fault_if, param_fault}
use Rattle.body_fields.specs.Spelling.{AllStand}
use Rattle.body_fields.specs.declared.fault.BodyFault.{BodyFault}
use Rattle.body_fields.specs.declared.fault.BodyFault.TheVariants.{RepeatedKey, UnknownParam}
use Rattle.st03_grammar.specs.Bodies.{in_view, array_view}
use Rattle.st03_grammar.specs.Spelling.{AreArrays, IsReport03}
use Rattle.st03_grammar.specs.declared.bodies.Report03.TheVariants as told
use Rattle.report_structures.proofs.RepeatLemmas.{among, among-append, repeat-seen}
use Rattle.report_structures.proofs.GrammarLemmas.{lists_of_grammar, all_divide}
use Rattle.report_structures.proofs.FormedLemmas.{formed-create}

-- an ID that can stand isn't among those that are shown
not_among : (t : TailoringParts) (shown : List ℕ) (id : ℕ) → param_fault t shown id ≡ None → among id shown ≡ false
not_among t shown id e = go (among id shown) (fault_if (not (is_some (parameter t id))) (UnknownParam id)) e
  where
    go : (b : Bool) (rest : Option BodyFault) → option_or (fault_if b (RepeatedKey id)) rest ≡ None → b ≡ false
    go false rest h = refl
    go true rest h = absurd (none-some (RepeatedKey id) (sym h))

-- IDs of which none is among those that a view shows, which are those before it and others
none_twice : (t : TailoringParts) (view : List ℕ → List ℕ) (others earlier ids : List ℕ) → ((before : List ℕ) (x : ℕ) → among x (view before) ≡ among x (before ++ others))
    → AllStand (λ before id. param_fault t (view before) id) earlier ids → first_repeat (earlier ++ others) ids ≡ None
none_twice t view others earlier [] shows h = refl
none_twice t view others earlier (id ∷ ids) shows h =
    ap (λ b. if b then Some id else first_repeat (id ∷ (earlier ++ others)) ids) (sym (shows earlier id) ∙ not_among t (view earlier) id h.0)
    ∙ none_twice t view others (id ∷ earlier) ids shows h.1

-- IDs and more IDs
first-clear : (b : Bool) (id : ℕ) (rest : Option ℕ) → (if b then Some id else rest) ≡ None → (b ≡ false) × (rest ≡ None)
first-clear false id rest e = (refl, e)
first-clear true id rest e = absurd (none-some id (sym e))

or_swap : (a b c : Bool) → (a || (b || c)) ≡ (b || (a || c))
or_swap true true c = refl
or_swap true false c = refl
or_swap false true c = refl
or_swap false false c = refl

both_once : (seen xs ys : List ℕ) → first_repeat seen xs ≡ None → first_repeat (xs ++ seen) ys ≡ None → first_repeat seen (xs ++ ys) ≡ None
both_once seen [] ys e h = h
both_once seen (x ∷ xs) ys e h =
    let clear = first-clear (among x seen) x (first_repeat (x ∷ seen) xs) e in
    ap (λ b. if b then Some x else first_repeat (x ∷ seen) (xs ++ ys)) clear.0
    ∙ both_once (x ∷ seen) xs ys clear.1 (repeat-seen (xs ++ x ∷ seen) (x ∷ (xs ++ seen)) ys (λ y. moved y) ∙ h)
  where
    moved : (y : ℕ) → among y (xs ++ x ∷ seen) ≡ among y (x ∷ (xs ++ seen))
    moved y =
        among-append y xs (x ∷ seen)
        ∙ (or_swap (among y xs) (x == y) (among y seen) ∙ ap (λ b. (x == y) || b) (sym (among-append y xs seen)))

among-three : (x : ℕ) (a b c : List ℕ) → among x (a ++ (b ++ c)) ≡ among x (b ++ (a ++ c))
among-three x a b c =
    among-append x a (b ++ c)
    ∙ (ap (λ s. among x a || s) (among-append x b c)
    ∙ (or_swap (among x a) (among x b) (among x c)
    ∙ (ap (λ s. among x b || s) (sym (among-append x a c)) ∙ sym (among-append x b (a ++ c)))))

shown : (simple : List ℕ) (earlier : List SuperList) (before : List ℕ) (x : ℕ)
    → among x (array_view true simple earlier before) ≡ among x (before ++ (simple ++ flat_map (λ a. a.params) earlier))
shown simple earlier before x =
    among-append x (before ++ simple) (flat_map (λ a. a.params) earlier)
    ∙ (ap (λ s. s || among x (flat_map (λ a. a.params) earlier)) (among-append x before simple)
    ∙ (regroup (among x before) (among x simple) (among x (flat_map (λ a. a.params) earlier))
    ∙ (ap (λ s. among x before || s) (sym (among-append x simple (flat_map (λ a. a.params) earlier)))
    ∙ sym (among-append x before (simple ++ flat_map (λ a. a.params) earlier)))))
  where
    regroup : (p q r : Bool) → ((p || q) || r) ≡ (p || (q || r))
    regroup true q r = refl
    regroup false q r = refl

arrays_once : (t : TailoringParts) (interval : Option ℕ) (simple : List ℕ) (earlier arrays : List SuperList) → AreArrays t true interval simple earlier arrays
    → first_repeat (simple ++ flat_map (λ a. a.params) earlier) (flat_map (λ a. a.params) arrays) ≡ None
arrays_once t interval simple earlier [] are = refl
arrays_once t interval simple earlier (a ∷ arrays) are =
    let before = flat_map (λ x. x.params) earlier in
    let rest = flat_map (λ x. x.params) arrays in
    both_once (simple ++ before) a.params rest
    (none_twice t (array_view true simple earlier) (simple ++ before) [] a.params (shown simple earlier) are.0.params.0)
    (repeat-seen (a.params ++ (simple ++ before)) (simple ++ (a.params ++ before)) rest (λ x. among-three x a.params simple before)
    ∙ arrays_once t interval simple (a ∷ earlier) arrays are.1)

simple_shown : (before : List ℕ) (x : ℕ) → among x (in_view true before) ≡ among x (before ++ [])
simple_shown before x = sym (among-append x before [] ∙ or_none (among x before))
  where
    or_none : (b : Bool) → (b || false) ≡ b
    or_none true = refl
    or_none false = refl

nothing_before : (ids : List ℕ) (x : ℕ) → among x (ids ++ []) ≡ among x ids
nothing_before ids x = sym (simple_shown ids x)

pub reported-formed : (t : TailoringParts) (key : Key) (s : Structure) → IsReport03 t (told.Structure key s) → IsWellFormed t s.def
reported-formed t key s is =
    let d = s.def in
    let arrays = flat_map (λ a. a.params) d.arrays in
    let once : first_repeat [] (d.simple ++ arrays) ≡ None =
    both_once [] d.simple arrays (none_twice t (in_view true) [] [] d.simple simple_shown is.2.params.0)
    (arrays_once t (Some d.interval) d.simple [] d.arrays is.2.listed) in
    formed-create t d (is.1.0, lists_of_grammar t true (Some d.interval) d.simple d.arrays is.2, all_divide t true d.interval d.simple [] d.arrays is.2.listed) once
