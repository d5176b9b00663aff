-- Where more is known of requests, choices among them lead to no more states.
use Rattle.std.proofs.Common.{arith, ◌≡◌, suc, ◌<◌, ◌≤◌, refl, sym, ◌∙◌, ap, subst, List, [], ◌∷◌, map, length, Bool, true, false, ◌⊎◌, inl, inr, nat_lt, Option, Some, None, Result, Ok, Err}
use Rattle.std.specs.Prelude.{⊤, ◌&&◌, MatchOption, if◌then◌else◌}
use Rattle.std.specs.List.{list_any, cons_option}
use Rattle.std.specs.Option.{option_or}
use Rattle.std.proofs.lemmas.Bool.{both_ways, and_parts, and_from, ltb-true, lt-ltb, false_from_ne_true}
use Rattle.hk_base.specs.TailoringParts.{TailoringParts}
use Rattle.hk_base.specs.declared.types.Structure.{Structure}
use Rattle.hk_base.proofs.Membership.{IsIn, AreApart, list_any-IsIn, IsIn-list_any, IsIn-flat_map, flat_map-IsIn}
use Rattle.report_structures.specs.Effects.{effect}
use Rattle.report_structures.specs.declared.refusal.Refusal.{Refusal}
use Rattle.ground_history.specs.declared.answer.Outcome.{Outcome}
use Rattle.ground_history.specs.declared.answer.Outcome.TheVariants.{Done, Refused, Unknown}
use Rattle.definition_intervals.specs.Openings.{Candidate, Opening, is_known, is_known_done, is_creation, surely_creates, from_creation}
use Rattle.definition_intervals.specs.States.{state_eq, agreed_states, next_states, reachable_states, distinct_states, prefixes, is_crowded}
use Rattle.definition_intervals.proofs.EqualityLemmas.{state_eq-Decides}
use Rattle.definition_intervals.proofs.ChoiceLemmas.{next-cases, skipped-next, taken-next}
use Rattle.definition_intervals.proofs.CandidateLemmas.{creation-absent}

-- no less is known of a candidate
pub record Refines (old new : Candidate) : Type 0 where
  pub change : new.change ≡ old.change
  pub certain : old.certain ≡ true → new.certain ≡ true
  pub outcome : is_known old.outcome ≡ true → new.outcome ≡ old.outcome

-- no less is known of a request: it is no new candidate, and is left out only where it wasn't certain
abbrev pub RefinesOne : Option Candidate → Option Candidate → Type 0
RefinesOne None None = ⊤
RefinesOne None (Some new) = ⊥
RefinesOne (Some old) None = old.certain ≡ false
RefinesOne (Some old) (Some new) = Refines old new

agreed-unknown : (o : Outcome) (s : Option Structure) (r : Result (Option Structure) Refusal) (a : Option Structure) → IsIn a (agreed_states o s r) → IsIn a (agreed_states Unknown s r)
agreed-unknown Done s (Ok x) a i = i
agreed-unknown Done s (Err x) a i = absurd i
agreed-unknown Refused s (Ok x) a i = absurd i
agreed-unknown Refused s (Err x) a i = i
agreed-unknown Unknown s r a i = i

agreed-refined : (old new : Outcome) (s : Option Structure) (r : Result (Option Structure) Refusal) (a : Option Structure) → (is_known old ≡ true → new ≡ old)
    → IsIn a (agreed_states new s r) → IsIn a (agreed_states old s r)
agreed-refined Done new s r a f i = subst (λ o. IsIn a (agreed_states o s r)) (f refl) i
agreed-refined Refused new s r a f i = subst (λ o. IsIn a (agreed_states o s r)) (f refl) i
agreed-refined Unknown new s r a f i = agreed-unknown new s r a i

-- a next state stays one where less is known
next-refined : (t : TailoringParts) (old new : Candidate) (s a : Option Structure) → Refines old new → IsIn a (next_states t new s) → IsIn a (next_states t old s)
next-refined t old new s a r i = go (next-cases t new s a i)
  where
    go : ((new.certain ≡ false) × (a ≡ s)) ⊎ IsIn a (agreed_states new.outcome s (effect t new.change s)) → IsIn a (next_states t old s)
    go (inl p) = skipped-next t old s a (false_from_ne_true old.certain (λ e. both_ways new.certain p.0 (r.certain e))) p.1
    go (inr j) =
        taken-next t old s a
        (agreed-refined old.outcome new.outcome s (effect t old.change s) a r.outcome
        (subst (λ c. IsIn a (agreed_states new.outcome s (effect t c s))) r.change j))

IsIn-map : {A B : Type 0} (f : A → B) (y : B) (xs : List A) → IsIn y (map f xs) → (x : A) × IsIn x xs × (y ≡ f x)
IsIn-map f y [] i = absurd i
IsIn-map f y (x ∷ xs) (inl e) = (x, inl refl, e)
IsIn-map f y (x ∷ xs) (inr i) = let r = IsIn-map f y xs i in (r.0, inr r.1, r.2)

map-IsIn : {A B : Type 0} (f : A → B) (x : A) (xs : List A) → IsIn x xs → IsIn (f x) (map f xs)
map-IsIn f x [] i = i
map-IsIn f x (y ∷ xs) (inl e) = inl (ap f e)
map-IsIn f x (y ∷ xs) (inr i) = inr (map-IsIn f x xs i)

-- what choices among new candidates lead to, choices among old ones do too
abbrev Leads : TailoringParts → List Candidate → Option Structure → List Candidate → Option Structure → Type 0
Leads t new a old b = (x : Option Structure) → IsIn x (reachable_states t new a) → IsIn x (reachable_states t old b)

-- from one state and another, for all of them and for each beginning
pub record Covers (t : TailoringParts) (new : List Candidate) (a : Option Structure) (old : List Candidate) (b : Option Structure) : Type 0 where
  pub all : Leads t new a old b
  pub fronts : (front : List Candidate) → IsIn front (prefixes new) → (other : List Candidate) × IsIn other (prefixes old) × Leads t front a other b

-- from every state
pub record Lifts (t : TailoringParts) (new old : List Candidate) : Type 0 where
  pub all : (a : Option Structure) → Leads t new a old a
  pub fronts : (front : List Candidate) → IsIn front (prefixes new) → (other : List Candidate) × IsIn other (prefixes old) × ((a : Option Structure) → Leads t front a other a)

pub lifts-covers : (t : TailoringParts) (new old : List Candidate) (a : Option Structure) → Lifts t new old → Covers t new a old a
lifts-covers t new old a l = record { all = l.all a; fronts = λ front i. let r = l.fronts front i in (r.0, r.1, r.2 a) }

lifts-none : (t : TailoringParts) → Lifts t [] []
lifts-none t = record { all = λ a x i. i; fronts = λ front i. (front, i, λ a x j. j) }

lead-both : (t : TailoringParts) (c d : Candidate) (new old : List Candidate) → Refines c d → ((a : Option Structure) → Leads t new a old a) → (a : Option Structure) → Leads t (d ∷ new) a (c ∷ old) a
lead-both t c d new old r f a x i =
    let y = IsIn-flat_map (reachable_states t new) x (next_states t d a) i in
    flat_map-IsIn (reachable_states t old) y.0 x (next_states t c a) (next-refined t c d a y.0 r y.1) (f y.0 x y.2)

lifts-both : (t : TailoringParts) (c d : Candidate) (new old : List Candidate) → Refines c d → Lifts t new old → Lifts t (d ∷ new) (c ∷ old)
lifts-both t c d new old r l = record { all = lead-both t c d new old r l.all; fronts = fronts }
  where
    fronts : (front : List Candidate) → IsIn front (prefixes (d ∷ new)) → (other : List Candidate) × IsIn other (prefixes (c ∷ old)) × ((a : Option Structure) → Leads t front a other a)
    fronts front (inl e) = ([], inl refl, λ a x i. subst (λ l. IsIn x (reachable_states t l a)) e i)
    fronts front (inr i) =
        let tail = IsIn-map (λ (ys : List Candidate). d ∷ ys) front (prefixes new) i in
        let rest = l.fronts tail.0 tail.1 in (
          c ∷ rest.0,
          inr (map-IsIn (λ (ys : List Candidate). c ∷ ys) rest.0 (prefixes old) rest.1),
          λ a x j. lead-both t c d tail.0 rest.0 r rest.2 a x (subst (λ l. IsIn x (reachable_states t l a)) tail.2 j),
        )

lead-after : (t : TailoringParts) (c : Candidate) (new old : List Candidate) (a b y : Option Structure) → IsIn y (next_states t c b) → Leads t new a old y → Leads t new a (c ∷ old) b
lead-after t c new old a b y i f x j = flat_map-IsIn (reachable_states t old) y x (next_states t c b) i (f x j)

lifts-skip : (t : TailoringParts) (c : Candidate) (new old : List Candidate) → c.certain ≡ false → Lifts t new old → Lifts t new (c ∷ old)
lifts-skip t c new old e l =
    record {
      all = λ a. lead-after t c new old a a a (skipped-next t c a a e refl) (l.all a);
      fronts = λ front i.
          let r = l.fronts front i in
          (c ∷ r.0, inr (map-IsIn (λ (ys : List Candidate). c ∷ ys) r.0 (prefixes old) r.1), λ a. lead-after t c front r.0 a a a (skipped-next t c a a e refl) (r.2 a));
    }

covers-after : (t : TailoringParts) (c : Candidate) (new old : List Candidate) (a b y : Option Structure) → IsIn y (next_states t c b) → Covers t new a old y → Covers t new a (c ∷ old) b
covers-after t c new old a b y i l =
    record {
      all = lead-after t c new old a b y i l.all;
      fronts = λ front j.
          let r = l.fronts front j in
          (c ∷ r.0, inr (map-IsIn (λ (ys : List Candidate). c ∷ ys) r.0 (prefixes old) r.1), lead-after t c front r.0 a b y i r.2);
    }

-- old and new candidates, by their last sure creations, from a state at which the old ones begin
abbrev pub Relate : TailoringParts → List Candidate → List Candidate → Option Structure → Option (List Candidate) → Option (List Candidate) → Type 0
Relate t old new x None None = Lifts t new old
Relate t old new x (Some rest) None = ⊥
Relate t old new x (Some rest) (Some other) = Covers t other None rest None
Relate t old new x None (Some other) = Covers t other None old x

-- the last sure creation with one more request before
abbrev pub cutting : Option Candidate → List Candidate → Option (List Candidate) → Option (List Candidate)
cutting None cs cut = cut
cutting (Some c) cs cut = option_or cut (if surely_creates c then Some (c ∷ cs) else None)

pub from_creation-cons : (o : Option Candidate) (cs : List Candidate) → from_creation (cons_option o cs) ≡ cutting o cs (from_creation cs)
from_creation-cons None cs = refl
from_creation-cons (Some c) cs = refl

sure-certain : (c : Candidate) → surely_creates c ≡ true → c.certain ≡ true
sure-certain c e = (and_parts c.certain (is_known_done c.outcome) (and_parts (c.certain && is_known_done c.outcome) (is_creation c.change) e).0).0

done-known : (o : Outcome) → is_known_done o ≡ true → is_known o ≡ true
done-known Done e = refl
done-known Refused e = absurd (both_ways false refl e)
done-known Unknown e = absurd (both_ways false refl e)

-- a sure creation stays one
sure-refined : (old new : Candidate) → Refines old new → surely_creates old ≡ true → surely_creates new ≡ true
sure-refined old new r e =
    let parts = and_parts (old.certain && is_known_done old.outcome) (is_creation old.change) e in
    let front = and_parts old.certain (is_known_done old.outcome) parts.0 in
    and_from (new.certain && is_known_done new.outcome) (is_creation new.change)
    (and_from new.certain (is_known_done new.outcome) (r.certain front.0) (ap is_known_done (r.outcome (done-known old.outcome front.1)) ∙ front.1))
    (ap is_creation r.change ∙ parts.1)

abbrev Follows : TailoringParts → Option Candidate → Option Structure → Option Structure → Type 0
Follows t o x y = MatchOption o (y ≡ x) (λ c. IsIn y (next_states t c x))

-- one more request before
pub relate-cons : (t : TailoringParts) (old new : List Candidate) (x y : Option Structure) (a b : Option (List Candidate)) → Relate t old new y a b
    → (o n : Option Candidate) → (a ≡ None → RefinesOne o n) → Follows t o x y → Follows t n x y
    → Relate t (cons_option o old) (cons_option n new) x (cutting o old a) (cutting n new b)
relate-cons t old new x y (Some rest) None h o n r f g = absurd h
relate-cons t old new x y (Some rest) (Some other) h None None r f g = h
relate-cons t old new x y (Some rest) (Some other) h None (Some d) r f g = h
relate-cons t old new x y (Some rest) (Some other) h (Some c) None r f g = h
relate-cons t old new x y (Some rest) (Some other) h (Some c) (Some d) r f g = h
relate-cons t old new x y None (Some other) h None n r f g = go n
  where
    go : (n : Option Candidate) → Relate t old (cons_option n new) x None (cutting n new (Some other))
    go None = subst (λ z. Covers t other None old z) f h
    go (Some d) = subst (λ z. Covers t other None old z) f h
relate-cons t old new x y None (Some other) h (Some c) n r f g = go n (surely_creates c) refl
  where
    go : (n : Option Candidate) (sure : Bool) → surely_creates c ≡ sure → Relate t (c ∷ old) (cons_option n new) x (if sure then Some (c ∷ old) else None) (cutting n new (Some other))
    go None true e = subst (λ z. Covers t other None (c ∷ old) z) (creation-absent t c x y e f) (covers-after t c other old None x y f h)
    go (Some d) true e = subst (λ z. Covers t other None (c ∷ old) z) (creation-absent t c x y e f) (covers-after t c other old None x y f h)
    go None false e = covers-after t c other old None x y f h
    go (Some d) false e = covers-after t c other old None x y f h
relate-cons t old new x y None None h None None r f g = h
relate-cons t old new x y None None h None (Some d) r f g = absurd (r refl)
relate-cons t old new x y None None h (Some c) None r f g = go (surely_creates c) refl
  where
    go : (sure : Bool) → surely_creates c ≡ sure → Relate t (c ∷ old) new x (if sure then Some (c ∷ old) else None) None
    go true e = both_ways c.certain (r refl) (sure-certain c e)
    go false e = lifts-skip t c new old (r refl) h
relate-cons t old new x y None None h (Some c) (Some d) r f g = go (surely_creates c) (surely_creates d) refl refl
  where
    go : (sure also : Bool) → surely_creates c ≡ sure → surely_creates d ≡ also
        → Relate t (c ∷ old) (d ∷ new) x (if sure then Some (c ∷ old) else None) (if also then Some (d ∷ new) else None)
    go true true e p = lifts-covers t (d ∷ new) (c ∷ old) None (lifts-both t c d new old (r refl) h)
    go true false e p = both_ways (surely_creates d) p (sure-refined c d (r refl) e)
    go false true e p =
        subst (λ z. Covers t (d ∷ new) None (c ∷ old) z) (sym (creation-absent t d x y p g)) (lifts-covers t (d ∷ new) (c ∷ old) None (lifts-both t c d new old (r refl) h))
    go false false e p = lifts-both t c d new old (r refl) h

-- a list without one member
without : {X : Type 0} (x : X) (ys : List X) → IsIn x ys → List X
without x [] i = []
without x (y ∷ ys) (inl e) = ys
without x (y ∷ ys) (inr i) = y ∷ without x ys i

length-without : {X : Type 0} (x : X) (ys : List X) (i : IsIn x ys) → length ys ≡ suc (length (without x ys i))
unfolding without
length-without x [] i = absurd i
length-without x (y ∷ ys) (inl e) = refl
length-without x (y ∷ ys) (inr i) = ap suc (length-without x ys i)

without-IsIn : {X : Type 0} (x z : X) (ys : List X) (i : IsIn x ys) → IsIn z ys → (z ≡ x) ⊎ IsIn z (without x ys i)
unfolding without
without-IsIn x z [] i j = absurd j
without-IsIn x z (y ∷ ys) (inl e) (inl p) = inl (p ∙ sym e)
without-IsIn x z (y ∷ ys) (inl e) (inr j) = inr j
without-IsIn x z (y ∷ ys) (inr i) (inl p) = inr (inl p)
without-IsIn {X} x z (y ∷ ys) (inr i) (inr j) = go (without-IsIn x z ys i j)
  where
    go : (z ≡ x) ⊎ IsIn z (without x ys i) → (z ≡ x) ⊎ IsIn z (y ∷ without x ys i)
    go (inl e) = inl e
    go (inr k) = inr (inr k)

-- members that are apart are no more than those of a list that has them all
pub fewer : {X : Type 0} (xs ys : List X) → AreApart xs → ((x : X) → IsIn x xs → IsIn x ys) → length xs ≤ length ys
fewer [] ys a f = omega arith
fewer {X} (x ∷ xs) ys a f =
    let i : IsIn x ys = f x (inl refl) in
    let rest : length xs ≤ length (without x ys i) = fewer xs (without x ys i) a.1 (λ z j. go z j (without-IsIn x z ys i (f z (inr j)))) in
    let same : length ys ≡ suc (length (without x ys i)) = length-without x ys i in
    omega arith
  where
    go : (z : X) → IsIn z xs → (z ≡ x) ⊎ IsIn z (without x ys (f x (inl refl))) → IsIn z (without x ys (f x (inl refl)))
    go z j (inl e) = absurd (a.0 (subst (λ w. IsIn w xs) e j))
    go z j (inr k) = k

-- states, each once, are the same states, and apart
distinct-IsIn : (x : Option Structure) (ss : List (Option Structure)) → IsIn x (distinct_states ss) → IsIn x ss
distinct-IsIn x [] i = i
distinct-IsIn x (s ∷ ss) i = go (list_any (state_eq s) (distinct_states ss)) i (λ j. distinct-IsIn x ss j)
  where
    go : (b : Bool) → IsIn x (if b then distinct_states ss else s ∷ distinct_states ss) → (IsIn x (distinct_states ss) → IsIn x ss) → IsIn x (s ∷ ss)
    go true j f = inr (f j)
    go false (inl e) f = inl e
    go false (inr j) f = inr (f j)

IsIn-distinct : (x : Option Structure) (ss : List (Option Structure)) → IsIn x ss → IsIn x (distinct_states ss)
IsIn-distinct x [] i = i
IsIn-distinct x (s ∷ ss) i = go (list_any (state_eq s) (distinct_states ss)) refl i (λ j. IsIn-distinct x ss j)
  where
    go : (b : Bool) → list_any (state_eq s) (distinct_states ss) ≡ b → IsIn x (s ∷ ss) → (IsIn x ss → IsIn x (distinct_states ss)) → IsIn x (if b then distinct_states ss else s ∷ distinct_states ss)
    go true e (inl p) f =
        let r = IsIn-list_any (state_eq s) (distinct_states ss) e in
        subst (λ z. IsIn z (distinct_states ss)) (sym (p ∙ (state_eq-Decides s r.0).0 r.2)) r.1
    go true e (inr j) f = f j
    go false e (inl p) f = inl p
    go false e (inr j) f = inr (f j)

distinct-apart : (ss : List (Option Structure)) → AreApart (distinct_states ss)
distinct-apart [] = tt
distinct-apart (s ∷ ss) = go (list_any (state_eq s) (distinct_states ss)) refl (distinct-apart ss)
  where
    go : (b : Bool) → list_any (state_eq s) (distinct_states ss) ≡ b → AreApart (distinct_states ss) → AreApart (if b then distinct_states ss else s ∷ distinct_states ss)
    go true e a = a
    go false e a = ((λ i. both_ways (list_any (state_eq s) (distinct_states ss)) e (list_any-IsIn (state_eq s) s (distinct_states ss) i ((state_eq-Decides s s).1 refl))), a)

-- an opening that others cover is crowded where they are
pub covered-crowded : (t : TailoringParts) (new old : Opening) → Covers t new.requests new.state old.requests old.state → is_crowded t new ≡ true → is_crowded t old ≡ true
covered-crowded t new old covers e =
    let r = IsIn-list_any (λ cs. nat_lt 64 (length (distinct_states (reachable_states t cs new.state)))) (prefixes new.requests) e in
    let other = covers.fronts r.0 r.1 in
    let more : 64 < length (distinct_states (reachable_states t r.0 new.state)) = ltb-true 64 (length (distinct_states (reachable_states t r.0 new.state))) r.2 in
    let few : length (distinct_states (reachable_states t r.0 new.state)) ≤ length (distinct_states (reachable_states t other.0 old.state)) =
    fewer (distinct_states (reachable_states t r.0 new.state)) (distinct_states (reachable_states t other.0 old.state)) (distinct-apart (reachable_states t r.0 new.state))
    (λ x i. IsIn-distinct x (reachable_states t other.0 old.state) (other.2 x (distinct-IsIn x (reachable_states t r.0 new.state) i))) in
    list_any-IsIn (λ cs. nat_lt 64 (length (distinct_states (reachable_states t cs old.state)))) other.0 (prefixes old.requests) other.1
    (lt-ltb 64 (length (distinct_states (reachable_states t other.0 old.state))) (omega arith))
