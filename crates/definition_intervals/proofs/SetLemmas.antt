-- Lists of states that have each once.
use Rattle.std.proofs.Common.{◌≡◌, refl, sym, ◌∙◌, ap, subst, List, [], ◌∷◌, ◌++◌, Bool, true, false, ◌||◌, Option, length, append_assoc, flat_map}
use Rattle.std.specs.Prelude.{if◌then◌else◌}
use Rattle.std.specs.Cmp.{IsEquivalence}
use Rattle.std.specs.List.{list_any, IsDistinct, AllByRecursion}
use Rattle.std.proofs.lemmas.Bool.{or_parts, or_left, both_ways}
use Rattle.std.proofs.lemmas.List.Folds.{list_any-append}
use Rattle.std.proofs.lemmas.Map.Keys.{IsDistinct-cons, IsDistinct-push}
use Rattle.std.proofs.lemmas.Map.Made.{length-from_same_keys}
use Rattle.hk_base.specs.declared.types.Structure.{Structure}
use Rattle.hk_base.proofs.Membership.{IsIn, IsIn-list_any, list_any-IsIn, IsIn-AllByRecursion, AllByRecursion-IsIn}
use Rattle.definition_intervals.specs.States.{state_eq, with_state, distinct_states}
use Rattle.definition_intervals.specs.Findings.{IsSetOf, Adds}
use Rattle.definition_intervals.proofs.EqualityLemmas.{state_eq-Decides}

-- the test of equality is an equivalence
itself : (a : Option Structure) → state_eq a a ≡ true
itself a = (state_eq-Decides a a).1 refl

same_tests : (a b : Bool) → (a ≡ true → b ≡ true) → (b ≡ true → a ≡ true) → a ≡ b
same_tests true b f g = sym (f refl)
same_tests false true f g = absurd (both_ways false refl (g refl))
same_tests false false f g = refl

pub state_eq_laws : IsEquivalence state_eq
state_eq_laws =
    record {
      refl = itself;
      symm = λ a b. same_tests (state_eq a b) (state_eq b a) (λ e. (state_eq-Decides b a).1 (sym ((state_eq-Decides a b).0 e))) (λ e. (state_eq-Decides a b).1 (sym ((state_eq-Decides b a).0 e)));
      congr = λ a b c e. ap (λ x. state_eq x c) ((state_eq-Decides a b).0 e);
    }

-- a state is a member where the test finds it
pub found-IsIn : (s : Option Structure) (ss : List (Option Structure)) → list_any (state_eq s) ss ≡ true → IsIn s ss
found-IsIn s ss e =
    let r = IsIn-list_any (state_eq s) ss e in
    subst (λ x. IsIn x ss) (sym ((state_eq-Decides s r.0).0 r.2)) r.1

pub IsIn-found : (s : Option Structure) (ss : List (Option Structure)) → IsIn s ss → list_any (state_eq s) ss ≡ true
IsIn-found s ss i = list_any-IsIn (state_eq s) s ss i (itself s)

-- two lists with the same members
abbrev pub AreSame : List (Option Structure) → List (Option Structure) → Type 0
AreSame xs ys = (s : Option Structure) → list_any (state_eq s) xs ≡ list_any (state_eq s) ys

pub same-IsIn : (s : Option Structure) (xs ys : List (Option Structure)) → AreSame xs ys → IsIn s xs → IsIn s ys
same-IsIn s xs ys same i = found-IsIn s ys (sym (same s) ∙ IsIn-found s xs i)

-- a test that some member passes
any-there : (test : Option Structure → Bool) (xs ys : List (Option Structure)) → AreSame xs ys → list_any test xs ≡ true → list_any test ys ≡ true
any-there test xs ys same e =
    let r = IsIn-list_any test xs e in
    list_any-IsIn test r.0 ys (same-IsIn r.0 xs ys same r.1) r.2

pub same-any : (test : Option Structure → Bool) (xs ys : List (Option Structure)) → AreSame xs ys → list_any test xs ≡ list_any test ys
same-any test xs ys same =
    same_tests (list_any test xs) (list_any test ys) (λ e. any-there test xs ys same e) (λ e. any-there test ys xs (λ s. sym (same s)) e)

-- each member has what each member of the other has
pub same-all : (P : Option Structure → Type 0) (xs ys : List (Option Structure)) → AreSame xs ys → AllByRecursion P ys → AllByRecursion P xs
same-all P xs ys same all = IsIn-AllByRecursion P xs (λ s i. AllByRecursion-IsIn P s ys all (same-IsIn s xs ys same i))

-- nothing
pub set-none : IsSetOf [] []
unfolding IsDistinct
set-none = record { once = tt; members = λ s. refl }

pub set-one : (s : Option Structure) → IsSetOf (s ∷ []) (s ∷ [])
unfolding IsDistinct
set-one s = record { once = (tt, tt); members = λ q. refl }

-- one more state
pub adds-new : (s : Option Structure) (ss : List (Option Structure)) → list_any (state_eq s) ss ≡ false → Adds ss (ss ++ s ∷ []) (s ∷ [])
adds-new s ss e all h =
    record {
      once = IsDistinct-push state_eq_laws ss s h.once e;
      members = λ q. list_any-append (state_eq q) ss (s ∷ []) ∙ (ap (λ b. b || list_any (state_eq q) (s ∷ [])) (h.members q) ∙ sym (list_any-append (state_eq q) all (s ∷ [])));
    }

-- a state that is there
pub adds-there : (s : Option Structure) (ss : List (Option Structure)) → list_any (state_eq s) ss ≡ true → Adds ss ss (s ∷ [])
adds-there s ss e all h =
    record { once = h.once; members = λ q. h.members q ∙ (go q (state_eq q s) refl ∙ sym (list_any-append (state_eq q) all (s ∷ []))) }
  where
    or_false : (x : Bool) → x ≡ (x || (false || false))
    or_false true = refl
    or_false false = refl

    go : (q : Option Structure) (b : Bool) → state_eq q s ≡ b → list_any (state_eq q) all ≡ (list_any (state_eq q) all || (b || false))
    go q true p =
        let there : list_any (state_eq q) all ≡ true = sym (h.members q) ∙ (ap (λ x. list_any (state_eq x) ss) ((state_eq-Decides q s).0 p) ∙ e) in
        there ∙ sym (or_left (list_any (state_eq q) all) true there)
    go q false p = or_false (list_any (state_eq q) all)

-- what is added by what the test for it found
pub added-new : (s r : Option Structure) (old given new : List (Option Structure)) (b : Bool) → r ≡ s → given ≡ old → b ≡ list_any (state_eq r) given → b ≡ false
    → new ≡ old ++ s ∷ [] → Adds old new (s ∷ [])
added-new s r old given new b e g h f n =
    subst (λ ss. Adds old ss (s ∷ [])) (sym n)
    (adds-new s old (ap (λ x. list_any (state_eq x) old) (sym e) ∙ (ap (λ l. list_any (state_eq r) l) (sym g) ∙ (sym h ∙ f))))

pub added-there : (s r : Option Structure) (old given : List (Option Structure)) (b : Bool) → r ≡ s → given ≡ old → b ≡ list_any (state_eq r) given → b ≡ true → Adds old old (s ∷ [])
added-there s r old given b e g h f =
    adds-there s old (ap (λ x. list_any (state_eq x) old) (sym e) ∙ (ap (λ l. list_any (state_eq r) l) (sym g) ∙ (sym h ∙ f)))

-- no more states
pub adds-none : (ss : List (Option Structure)) → Adds ss ss []
adds-none ss all h = record { once = h.once; members = λ q. h.members q ∙ sym (list_any-append (state_eq q) all [] ∙ or_no (list_any (state_eq q) all)) }
  where
    or_no : (x : Bool) → (x || false) ≡ x
    or_no true = refl
    or_no false = refl

-- some states and then others
pub adds-both : (xs ys zs a b : List (Option Structure)) → Adds xs ys a → Adds ys zs b → Adds xs zs (a ++ b)
adds-both xs ys zs a b f g all h = subst (λ l. IsSetOf zs l) (append_assoc all a b) (g (all ++ a) (f all h))

-- pieces of each member
pub any-flat_map : {X Y : Type 0} (test : Y → Bool) (f : X → List Y) (xs : List X) → list_any test (flat_map f xs) ≡ list_any (λ x. list_any test (f x)) xs
any-flat_map test f [] = refl
any-flat_map test f (x ∷ xs) = list_any-append test (f x) (flat_map f xs) ∙ ap (λ b. list_any test (f x) || b) (any-flat_map test f xs)

pub set-flat_map : (f : Option Structure → List (Option Structure)) (out ss all : List (Option Structure)) → IsSetOf ss all → IsSetOf out (flat_map f ss) → IsSetOf out (flat_map f all)
set-flat_map f out ss all h g =
    record {
      once = g.once;
      members = λ q. g.members q
          ∙ (any-flat_map (state_eq q) f ss ∙ (same-any (λ x. list_any (state_eq q) (f x)) ss all h.members ∙ sym (any-flat_map (state_eq q) f all)));
    }

-- states, each once, have the members of the states
with-members : (q s : Option Structure) (ss : List (Option Structure)) → list_any (state_eq q) (with_state s ss) ≡ (state_eq q s || list_any (state_eq q) ss)
with-members q s ss = go (list_any (state_eq s) ss) refl
  where
    there : (b : Bool) → state_eq q s ≡ b → list_any (state_eq s) ss ≡ true → list_any (state_eq q) ss ≡ (b || list_any (state_eq q) ss)
    there true p e = ap (λ x. list_any (state_eq x) ss) ((state_eq-Decides q s).0 p) ∙ e
    there false p e = refl

    go : (b : Bool) → list_any (state_eq s) ss ≡ b → list_any (state_eq q) (if b then ss else s ∷ ss) ≡ (state_eq q s || list_any (state_eq q) ss)
    go true e = there (state_eq q s) refl e
    go false e = refl

pub distinct-members : (ss : List (Option Structure)) → AreSame (distinct_states ss) ss
distinct-members [] q = refl
distinct-members (s ∷ ss) q = with-members q s (distinct_states ss) ∙ ap (λ b. state_eq q s || b) (distinct-members ss q)

apart : (s : Option Structure) (ss : List (Option Structure)) → list_any (state_eq s) ss ≡ false → AllByRecursion (λ x. state_eq s x ≡ false) ss
apart s [] e = tt
apart s (x ∷ ss) e = let p = or_parts (state_eq s x) (list_any (state_eq s) ss) e in (p.0, apart s ss p.1)

with-once : (s : Option Structure) (ss : List (Option Structure)) → IsDistinct state_eq ss → IsDistinct state_eq (with_state s ss)
with-once s ss h = go (list_any (state_eq s) ss) refl
  where
    go : (b : Bool) → list_any (state_eq s) ss ≡ b → IsDistinct state_eq (if b then ss else s ∷ ss)
    go true e = h
    go false e = IsDistinct-cons state_eq s ss (apart s ss e) h

pub distinct-once : (ss : List (Option Structure)) → IsDistinct state_eq (distinct_states ss)
unfolding IsDistinct
distinct-once [] = tt
distinct-once (s ∷ ss) = with-once s (distinct_states ss) (distinct-once ss)

-- a list that has each of some states once is as long as these, each once
pub set-count : (ss all : List (Option Structure)) → IsSetOf ss all → length ss ≡ length (distinct_states all)
set-count ss all h =
    length-from_same_keys state_eq_laws ss (distinct_states all) h.once (distinct-once all) (λ q. h.members q ∙ sym (distinct-members all q))
