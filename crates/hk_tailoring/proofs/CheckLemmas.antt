-- The first fault of checks that stand one after the other.
use Rattle.std.proofs.Common.{◌≡◌, refl, sym, ap, ◌∙◌, List, [], ◌∷◌, ◌++◌, Bool, true, false, cond, Some, None, Result, Ok, Err}
use Rattle.std.specs.Result.{IsErrAnd}
use Rattle.std.specs.Option.{option_or}
use Rattle.hk_tailoring.specs.Checks.{Check, first_fault, Answers, Passes}
use Rattle.hk_tailoring.specs.declared.fault.TailoringFault.{TailoringFault}
use Rattle.hk_tailoring.specs.declared.fault.TailoringFault.TheVariants.{Memory}

-- the first fault of two lists of checks is that of the first one, else that of the second
pub first_fault-append : (a b : List Check) → first_fault (a ++ b) ≡ option_or (first_fault a) (first_fault b)
first_fault-append [] b = refl
first_fault-append (c ∷ cs) b = go c.met (first_fault-append cs b)
  where
    go : (met : Bool)
        → first_fault (cs ++ b) ≡ option_or (first_fault cs) (first_fault b)
        → cond met (first_fault (cs ++ b)) (Some c.fault) ≡ option_or (cond met (first_fault cs) (Some c.fault)) (first_fault b)
    go true same = same
    go false same = refl

-- checks that are met are passed by
pub first_fault-passed : (a b : List Check) → first_fault a ≡ None → first_fault (a ++ b) ≡ first_fault b
first_fault-passed a b none = first_fault-append a b ∙ ap (λ o. option_or o (first_fault b)) none

-- a fault of the first checks is the fault of all
pub first_fault-stopped : (a b : List Check) (fault : TailoringFault) → first_fault a ≡ Some fault → first_fault (a ++ b) ≡ Some fault
first_fault-stopped a b fault some = first_fault-append a b ∙ ap (λ o. option_or o (first_fault b)) some

-- an answer to some checks is one to checks with the same first fault
pub answers-along : {A V : Type 0} (view : A → V) (a b : List Check) (x : V) (r : Result A TailoringFault)
    → first_fault b ≡ first_fault a → Answers view b x r → Answers view a x r
answers-along view a b x (Ok y) same h = (sym same ∙ h.0, h.1)
answers-along view a b x (Err fault) same h = λ n. sym same ∙ h n

-- an answer to checks after one that is met
pub answers-after : {A V : Type 0} (view : A → V) (c : Check) (cs : List Check) (x : V) (r : Result A TailoringFault)
    → c.met ≡ true → Answers view cs x r → Answers view (c ∷ cs) x r
answers-after view c cs x r met h = answers-along view (c ∷ cs) cs x r (sym (ap (λ b. cond b (first_fault cs) (Some c.fault)) met)) h

-- an answer to checks after some that are met
pub answers-passed : {A V : Type 0} (view : A → V) (a b : List Check) (x : V) (r : Result A TailoringFault)
    → first_fault a ≡ None → Answers view b x r → Answers view (a ++ b) x r
answers-passed view a b x r none h = answers-along view (a ++ b) b x r (sym (first_fault-passed a b none)) h

-- the exit of a `?`, where the checks so far have that fault
pub answers-exit : {A V : Type 0} (view : A → V) (cs : List Check) (x : V) (r : Result A TailoringFault) (fault : TailoringFault)
    → IsErrAnd r (λ y. y ≡ fault) → (¬ (fault ≡ Memory) → first_fault cs ≡ Some fault) → Answers view cs x r
answers-exit view cs x (Ok y) fault h stops = absurd h
answers-exit view cs x (Err e) fault h stops = rw h stops

-- a loop over checks stops at the first fault
pub stopped-here : (whole rest here more : List Check) (fault : TailoringFault)
    → first_fault rest ≡ first_fault whole → rest ≡ here ++ more → first_fault here ≡ Some fault → first_fault whole ≡ Some fault
stopped-here whole rest here more fault same parts h = sym same ∙ (ap first_fault parts ∙ first_fault-stopped here more fault h)

-- a loop over checks goes on where they are met
pub passed-here : (whole rest here more : List Check)
    → first_fault rest ≡ first_fault whole → rest ≡ here ++ more → first_fault here ≡ None → first_fault more ≡ first_fault whole
passed-here whole rest here more same parts h = sym (sym same ∙ (ap first_fault parts ∙ first_fault-passed here more h))

-- checks one after the other
pub ruleset in_order = (first_fault-append, first_fault-passed, first_fault-stopped)

-- the exit of a `?`, where the checks so far have that fault
pub passes-exit : {A : Type 0} (cs : List Check) (r : Result A TailoringFault) (fault : TailoringFault)
    → IsErrAnd r (λ y. y ≡ fault) → (¬ (fault ≡ Memory) → first_fault cs ≡ Some fault) → Passes cs r
passes-exit cs (Ok y) fault h stops = absurd h
passes-exit cs (Err e) fault h stops = rw h stops
