-- The states after some requests of an opening, one request after the other.
use Rattle.std.proofs.Common.{◌≡◌, ℕ, ◌+◌, ◌<◌, ◌≤◌, refl, sym, ◌∙◌, ap, subst, List, [], ◌∷◌, ◌++◌, Bool, true, false, ◌||◌, ◌⊎◌, inl, inr, Option, Some, Ok, Err, Result, length, take, drop, get_or, append-nil, flat_map, map}
use Rattle.std.specs.Prelude.{nat_lt}
use Rattle.std.specs.List.{list_any, AllByRecursion, All}
use Rattle.std.proofs.lemmas.Bool.{lt-ltb, le-ltb, or_from, or_left, or_right}
use Rattle.std.proofs.Math.Bool.{or_assoc}
use Rattle.std.proofs.lemmas.List.{take_more, take_all, take-append-drop}
use Rattle.std.proofs.lemmas.List.Concat.{flat_map-append}
use Rattle.std.proofs.lemmas.List.Elements.{All-from_recursion, recursion_from_All, All-take}
use Rattle.hk_base.specs.TailoringParts.{TailoringParts}
use Rattle.hk_base.specs.declared.types.Structure.{Structure}
use Rattle.hk_base.proofs.Membership.{IsIn, IsIn-flat_map, IsIn-AllByRecursion}
use Rattle.report_structures.specs.Effects.{effect}
use Rattle.report_structures.specs.Changes.{IsFormedState}
use Rattle.report_structures.specs.declared.refusal.Refusal.{Refusal}
use Rattle.report_structures.proofs.FormedLemmas.{effect-formed}
use Rattle.ground_history.specs.declared.answer.Outcome.{Outcome}
use Rattle.ground_history.specs.declared.answer.Outcome.TheVariants.{Done, Refused, Unknown}
use Rattle.definition_intervals.specs.Openings.{Candidate, Opening}
use Rattle.definition_intervals.specs.States.{agreed_states, next_states, reachable_states, distinct_states, prefixes, is_crowded}
use Rattle.definition_intervals.specs.Findings.{IsFormedCandidate, IsFormedOpening, IsSetOf, AreFound}
use Rattle.definition_intervals.proofs.ChoiceLemmas.{next-cases}
use Rattle.definition_intervals.proofs.SetLemmas.{set-one, set-flat_map, set-count, same-all}

-- pieces of pieces
flat_map-flat_map : {X Y Z : Type 0} (f : X → List Y) (g : Y → List Z) (xs : List X) → flat_map g (flat_map f xs) ≡ flat_map (λ x. flat_map g (f x)) xs
flat_map-flat_map f g [] = refl
flat_map-flat_map f g (x ∷ xs) = flat_map-append g (f x) (flat_map f xs) ∙ ap (λ l. flat_map g (f x) ++ l) (flat_map-flat_map f g xs)

flat_map-same : {X Y : Type 0} (f g : X → List Y) (xs : List X) → ((x : X) → f x ≡ g x) → flat_map f xs ≡ flat_map g xs
flat_map-same f g [] h = refl
flat_map-same f g (x ∷ xs) h = ap (λ l. l ++ flat_map f xs) (h x) ∙ ap (λ l. g x ++ l) (flat_map-same f g xs h)

flat_map-one : {X : Type 0} (xs : List X) → flat_map (λ x. x ∷ []) xs ≡ xs
flat_map-one [] = refl
flat_map-one (x ∷ xs) = ap (λ l. x ∷ l) (flat_map-one xs)

-- the states after one more request
pub reachable-more : (t : TailoringParts) (cs : List Candidate) (c : Candidate) (s : Option Structure) → reachable_states t (cs ++ c ∷ []) s ≡ flat_map (next_states t c) (reachable_states t cs s)
reachable-more t [] c s = flat_map-one (next_states t c s) ∙ sym (append-nil (next_states t c s))
reachable-more t (x ∷ cs) c s =
    flat_map-same (reachable_states t (cs ++ c ∷ [])) (λ z. flat_map (next_states t c) (reachable_states t cs z)) (next_states t x s) (λ z. reachable-more t cs c z)
    ∙ sym (flat_map-flat_map (reachable_states t cs) (next_states t c) (next_states t x s))

-- a test of beginnings
list_any-map : {X Y : Type 0} (test : Y → Bool) (f : X → Y) (xs : List X) → list_any test (map f xs) ≡ list_any (λ x. test (f x)) xs
list_any-map test f [] = refl
list_any-map test f (x ∷ xs) = ap (λ b. test (f x) || b) (list_any-map test f xs)

or_none : (a b : Bool) → (a || (b || false)) ≡ ((a || false) || b)
or_none true b = refl
or_none false true = refl
or_none false false = refl

pub prefixes-more : (test : List Candidate → Bool) (cs : List Candidate) (c : Candidate) → list_any test (prefixes (cs ++ c ∷ [])) ≡ (list_any test (prefixes cs) || test (cs ++ c ∷ []))
prefixes-more test [] c = or_none (test []) (test (c ∷ []))
prefixes-more test (x ∷ cs) c =
    ap (λ b. test [] || b) (list_any-map test (λ ys. x ∷ ys) (prefixes (cs ++ c ∷ []))
    ∙ (prefixes-more (λ ys. test (x ∷ ys)) cs c ∙ ap (λ b. b || test (x ∷ (cs ++ c ∷ []))) (sym (list_any-map test (λ ys. x ∷ ys) (prefixes cs)))))
    ∙ sym (or_assoc (test []) (list_any test (map (λ ys. x ∷ ys) (prefixes cs))) (test (x ∷ (cs ++ c ∷ []))))

pub prefixes-front : (test : List Candidate → Bool) (xs ys : List Candidate) → test xs ≡ true → list_any test (prefixes (xs ++ ys)) ≡ true
prefixes-front test [] [] e = or_left (test []) false e
prefixes-front test [] (y ∷ ys) e = or_left (test []) (list_any test (map (λ zs. y ∷ zs) (prefixes ys))) e
prefixes-front test (x ∷ xs) ys e =
    or_right (test []) (list_any test (map (λ zs. x ∷ zs) (prefixes (xs ++ ys))))
    (list_any-map test (λ zs. x ∷ zs) (prefixes (xs ++ ys)) ∙ prefixes-front (λ zs. test (x ∷ zs)) xs ys e)

-- whether there are more than 64 states after some requests
abbrev is_many : TailoringParts → Option Structure → List Candidate → Bool
is_many t s cs = nat_lt 64 (length (distinct_states (reachable_states t cs s)))

-- the states after so many requests of an opening, each once; there were never too many
pub record AreReached (t : TailoringParts) (o : Opening) (n : ℕ) (states : List (Option Structure)) : Type 0 where
  pub set : IsSetOf states (reachable_states t (take n o.requests) o.state)
  pub uncrowded : list_any (λ cs. nat_lt 64 (length (distinct_states (reachable_states t cs o.state)))) (prefixes (take n o.requests)) ≡ false

pub reached-none : (t : TailoringParts) (o : Opening) → AreReached t o 0 (o.state ∷ [])
reached-none t o = record { set = set-one o.state; uncrowded = refl }

reached-set : (t : TailoringParts) (o : Opening) (n : ℕ) (c : Candidate) (ss more : List (Option Structure)) → n < length o.requests → c ≡ get_or o.requests n c
    → AreReached t o n ss → IsSetOf more (flat_map (next_states t c) ss) → IsSetOf more (reachable_states t (take (n + 1) o.requests) o.state)
reached-set t o n c ss more l e h g =
    subst (λ cs. IsSetOf more (reachable_states t cs o.state)) (sym (take_more o.requests n c l ∙ ap (λ x. take n o.requests ++ x ∷ []) (sym e)))
    (subst (λ xs. IsSetOf more xs) (sym (reachable-more t (take n o.requests) c o.state))
    (set-flat_map (next_states t c) more ss (reachable_states t (take n o.requests) o.state) h.set g))

pub reached-more : (t : TailoringParts) (o : Opening) (n : ℕ) (c : Candidate) (ss more : List (Option Structure)) → n < length o.requests → c ≡ get_or o.requests n c
    → AreReached t o n ss → IsSetOf more (flat_map (next_states t c) ss) → length more ≤ 64 → AreReached t o (n + 1) more
reached-more t o n c ss more l e h g few =
    let set = reached-set t o n c ss more l e h g in
    let step : take (n + 1) o.requests ≡ take n o.requests ++ c ∷ [] = take_more o.requests n c l ∙ ap (λ x. take n o.requests ++ x ∷ []) (sym e) in
    let now : is_many t o.state (take (n + 1) o.requests) ≡ false = ap (λ k. nat_lt 64 k) (sym (set-count more (reachable_states t (take (n + 1) o.requests) o.state) set)) ∙ le-ltb 64 (length more) few in
    record {
      set = set;
      uncrowded = subst (λ cs. list_any (is_many t o.state) (prefixes cs) ≡ false) (sym step)
          (prefixes-more (is_many t o.state) (take n o.requests) c
          ∙ or_from (list_any (is_many t o.state) (prefixes (take n o.requests))) (is_many t o.state (take n o.requests ++ c ∷ [])) h.uncrowded
          (subst (λ cs. is_many t o.state cs ≡ false) step now));
    }

-- too many states after some request: the opening is crowded
pub reached-crowded : (t : TailoringParts) (o : Opening) (n : ℕ) (c : Candidate) (ss more : List (Option Structure)) → n < length o.requests → c ≡ get_or o.requests n c
    → AreReached t o n ss → IsSetOf more (flat_map (next_states t c) ss) → 64 < length more → is_crowded t o ≡ true
reached-crowded t o n c ss more l e h g many =
    let set = reached-set t o n c ss more l e h g in
    let now : is_many t o.state (take (n + 1) o.requests) ≡ true = ap (λ k. nat_lt 64 k) (sym (set-count more (reachable_states t (take (n + 1) o.requests) o.state) set)) ∙ lt-ltb 64 (length more) many in
    subst (λ cs. list_any (is_many t o.state) (prefixes cs) ≡ true) (take-append-drop (n + 1) o.requests)
    (prefixes-front (is_many t o.state) (take (n + 1) o.requests) (drop (n + 1) o.requests) now)

-- all requests
pub reached-all : (t : TailoringParts) (o : Opening) (n : ℕ) (ss : List (Option Structure)) → length o.requests ≤ n → AreReached t o n ss → AreFound t o (Some ss)
reached-all t o n ss l h =
    let whole = take_all n o.requests l in
    (subst (λ cs. list_any (is_many t o.state) (prefixes cs) ≡ false) whole h.uncrowded, subst (λ cs. IsSetOf ss (reachable_states t cs o.state)) whole h.set)

-- what choices lead to is valid, sizes of payloads aside
agreed-formed : (t : TailoringParts) (c : Candidate) (o : Outcome) (s a : Option Structure) (r : Result (Option Structure) Refusal) → IsFormedCandidate t c → IsFormedState t s
    → effect t c.change s ≡ r → IsIn a (agreed_states o s r) → IsFormedState t a
agreed-formed t c Done s a (Ok z) g f e (inl p) = subst (λ x. IsFormedState t x) (sym p) (effect-formed t c.change s z g f e)
agreed-formed t c Done s a (Ok z) g f e (inr i) = absurd i
agreed-formed t c Done s a (Err z) g f e i = absurd i
agreed-formed t c Refused s a (Ok z) g f e i = absurd i
agreed-formed t c Refused s a (Err z) g f e (inl p) = subst (λ x. IsFormedState t x) (sym p) f
agreed-formed t c Refused s a (Err z) g f e (inr i) = absurd i
agreed-formed t c Unknown s a (Ok z) g f e (inl p) = subst (λ x. IsFormedState t x) (sym p) (effect-formed t c.change s z g f e)
agreed-formed t c Unknown s a (Ok z) g f e (inr i) = absurd i
agreed-formed t c Unknown s a (Err z) g f e (inl p) = subst (λ x. IsFormedState t x) (sym p) f
agreed-formed t c Unknown s a (Err z) g f e (inr i) = absurd i

pub next-formed : (t : TailoringParts) (c : Candidate) (s a : Option Structure) → IsFormedCandidate t c → IsFormedState t s → IsIn a (next_states t c s) → IsFormedState t a
next-formed t c s a g f i = go (next-cases t c s a i)
  where
    go : ((c.certain ≡ false) × (a ≡ s)) ⊎ IsIn a (agreed_states c.outcome s (effect t c.change s)) → IsFormedState t a
    go (inl p) = subst (λ x. IsFormedState t x) (sym p.1) f
    go (inr j) = agreed-formed t c c.outcome s a (effect t c.change s) g f refl j

pub reachable-formed : (t : TailoringParts) (cs : List Candidate) (s a : Option Structure) → AllByRecursion (IsFormedCandidate t) cs → IsFormedState t s → IsIn a (reachable_states t cs s) → IsFormedState t a
reachable-formed t [] s a g f (inl p) = subst (λ x. IsFormedState t x) (sym p) f
reachable-formed t [] s a g f (inr i) = absurd i
reachable-formed t (c ∷ cs) s a g f i =
    let r = IsIn-flat_map (reachable_states t cs) a (next_states t c s) i in
    reachable-formed t cs r.0 a g.1 (next-formed t c s r.0 g.0 f r.1) r.2

pub reached-formed : (t : TailoringParts) (o : Opening) (n : ℕ) (ss : List (Option Structure)) → IsFormedOpening t o → AreReached t o n ss → All (IsFormedState t) ss
reached-formed t o n ss f h =
    let all = recursion_from_All (IsFormedCandidate t) (take n o.requests) (All-take (IsFormedCandidate t) n o.requests f.requests) in
    All-from_recursion (IsFormedState t) ss
    (same-all (IsFormedState t) ss (reachable_states t (take n o.requests) o.state) h.set.members
    (IsIn-AllByRecursion (IsFormedState t) (reachable_states t (take n o.requests) o.state) (λ a i. reachable-formed t (take n o.requests) o.state a all f.state i)))

-- the pieces of one more member
pub pieces-more : {X Y : Type 0} (f : X → List Y) (xs : List X) (i : ℕ) (x : X) → i < length xs → x ≡ get_or xs i x → flat_map f (take (i + 1) xs) ≡ flat_map f (take i xs) ++ f x
pieces-more f xs i x l e =
    ap (λ l. flat_map f l) (take_more xs i x l ∙ ap (λ y. take i xs ++ y ∷ []) (sym e))
    ∙ (flat_map-append f (take i xs) (x ∷ []) ∙ ap (λ l. flat_map f (take i xs) ++ l) (append-nil (f x)))
