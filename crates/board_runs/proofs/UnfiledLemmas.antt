-- The sensed parameters that still can be filed in the slot that runs.
use Rattle.std.proofs.Common.{arith, ◌≡◌, ℕ, zero, suc, ◌+◌, ◌<◌, ◌≤◌, refl, sym, ap, ap₂, subst, ◌∙◌, List, [], ◌∷◌, ◌++◌, length, map, filter, Bool, true, false, Option, Some, None, ◌⊎◌, inl, inr}
use Rattle.std.specs.Prelude.{not, find, ◌==◌, ◌&&◌, ◌||◌, reverse, if◌then◌else◌}
use Rattle.std.specs.List.{list_any}
use Rattle.std.proofs.lemmas.Bool.{eqb-true, eq-eqb}
use Rattle.std.proofs.lemmas.Option.{none-some}
use Rattle.hk_base.specs.TailoringParts.{TailoringParts}
use Rattle.hk_base.specs.Parameters.{parameter, is_settable}
use Rattle.hk_base.specs.declared.types.Param.{Param}
use Rattle.hk_base.proofs.Membership.{IsIn, some_value}
use Rattle.hk_world.specs.Timelines.{Session}
use Rattle.hk_world.specs.Legal.{is_filing}
use Rattle.hk_world.specs.declared.moment.Moment.{Moment}
use Rattle.hk_world.specs.declared.moment.Act.TheVariants.{Filed}
use Rattle.hk_world.proofs.OrderLemmas.{true_is_not_false}
use Rattle.board_steps.specs.Cores.{Core, session}
use Rattle.board_steps.specs.Slots.{is_filed}
use Rattle.board_steps.specs.Plans.{does, planned}
use Rattle.board_steps.specs.Steps.{AreNext, MayFile}
use Rattle.board_steps.specs.Runs.{IsMade}
use Rattle.board_steps.specs.declared.event.Sample.{Sample}
use Rattle.board_steps.specs.declared.event.Event.{Event}
use Rattle.board_steps.specs.declared.event.Event.TheVariants.{Filing}
use Rattle.board_runs.proofs.SumLemmas.{filter-fewer, filter-one-fewer}

-- a sensed parameter that has no sample for the slot that runs
abbrev pub is_unfiled : Core → Param → Bool
is_unfiled c p = not (is_settable p) && not (is_filed c p.id)

abbrev pub unfiled : Core → ℕ
unfiled c = length (filter (is_unfiled c) c.tailoring.params)

-- the sensed parameters
abbrev pub sensed_count : TailoringParts → ℕ
sensed_count t = length (filter (λ p. not (is_settable p)) t.params)

and-parts : (a b : Bool) → (a && b) ≡ true → (a ≡ true) × (b ≡ true)
and-parts true b e = (refl, e)
and-parts false b e = absurd (true_is_not_false (sym e))

both : (a b : Bool) → a ≡ true → b ≡ true → (a && b) ≡ true
both true b e f = f
both false b e f = absurd (true_is_not_false (sym e))

not-true : (b : Bool) → not b ≡ true → b ≡ false
not-true false e = refl
not-true true e = absurd (true_is_not_false (sym e))

none-any : {X : Type 0} (test : X → Bool) (xs ys : List X) → list_any test (xs ++ ys) ≡ false → list_any test ys ≡ false
none-any test [] ys e = e
none-any test (x ∷ xs) ys e = by (test x) e (none-any test xs ys)
  where
    by : (b : Bool) → (b || list_any test (xs ++ ys)) ≡ false → (list_any test (xs ++ ys) ≡ false → list_any test ys ≡ false) → list_any test ys ≡ false
    by true f later = absurd (true_is_not_false f)
    by false f later = later f

pub unfiled-most : (c : Core) → unfiled c ≤ sensed_count c.tailoring
unfiled-most c = filter-fewer (λ p. not (is_settable p)) (is_unfiled c) c.tailoring.params (λ p e. (and-parts (not (is_settable p)) (not (is_filed c p.id)) e).0)

-- what has no sample later has none now
unfiled-before : (before after : Core) (new : List Moment) → after.moments ≡ new ++ before.moments → after.slot_now ≡ before.slot_now → (p : Param) → is_unfiled after p ≡ true → is_unfiled before p ≡ true
unfiled-before before after new moments slot p e =
    let parts = and-parts (not (is_settable p)) (not (is_filed after p.id)) e in
    let none = not-true (is_filed after p.id) parts.1 in
    let here : list_any (λ m. is_filing p.id before.slot_now m.act) (new ++ before.moments) ≡ false =
    sym (ap₂ (λ ms n. list_any (λ (m : Moment). is_filing p.id n m.act) ms) moments slot) ∙ none in
    let old = none-any (λ m. is_filing p.id before.slot_now m.act) new before.moments here in
    both (not (is_settable p)) (not (is_filed before p.id)) parts.0 (ap not old)

pub unfiled-later : (before after : Core) (new : List Moment) → after.moments ≡ new ++ before.moments → after.slot_now ≡ before.slot_now → after.tailoring ≡ before.tailoring
    → unfiled after ≤ unfiled before
unfiled-later before after new moments slot same =
    subst (λ (t : TailoringParts). length (filter (is_unfiled after) t.params) ≤ unfiled before) (sym same)
    (filter-fewer (is_unfiled before) (is_unfiled after) before.tailoring.params (unfiled-before before after new moments slot))

find-in : {X : Type 0} (test : X → Bool) (xs : List X) (x : X) → find test xs ≡ Some x → IsIn x xs × (test x ≡ true)
find-in test [] x e = absurd (none-some x e)
find-in {X} test (y ∷ xs) x e = by (test y) refl e (find-in test xs x)
  where
    by : (b : Bool) → test y ≡ b → (if b then Some y else find test xs) ≡ Some x → (find test xs ≡ Some x → IsIn x xs × (test x ≡ true)) → IsIn x (y ∷ xs) × (test x ≡ true)
    by true f g later =
        let same : y ≡ x = some_value y x g in
        (inl (sym same), subst (λ z. test z ≡ true) same f)
    by false f g later = let r = later g in (inr r.0, r.1)

-- a sample that may be filed is of one of them
filing-param : (c : Core) (x : Sample) → (f : MayFile c x) → IsIn f.param c.tailoring.params × (f.param.id ≡ x.param) × (is_unfiled c f.param ≡ true)
filing-param c x f =
    let r = find-in (λ p. p.id == x.param) c.tailoring.params f.param f.known in
    let id = eqb-true f.param.id x.param r.1 in
    (r.0, id, both (not (is_settable f.param)) (not (is_filed c f.param.id)) (ap not f.sensed) (ap not (ap (is_filed c) id ∙ f.once)))

some-member : {X : Type 0} (test : X → Bool) (x : X) (xs : List X) → IsIn x xs → test x ≡ true → 1 ≤ length (filter test xs)
some-member test x xs k e =
    let l = filter-one-fewer test (λ y. false) xs (λ y f. absurd (true_is_not_false (sym f))) x k e refl in
    omega (arith, l)

-- so one can be filed
pub filing-left : (c : Core) (x : Sample) → MayFile c x → 1 ≤ unfiled c
filing-left c x f = let r = filing-param c x f in some-member (is_unfiled c) f.param c.tailoring.params r.0 r.2

-- and one fewer is left then
pub filing-unfiled : (before : Core) (x : Sample) (after : Core) → IsMade before (Filing x) after → unfiled after + 1 ≤ unfiled before
filing-unfiled before x after made =
    let f = made.comes in
    let r = filing-param before x f in
    let next = made.step.moments in
    let m : Moment = next.0 in
    let moments : after.moments ≡ (m ∷ []) ++ before.moments = next.2 in
    let filed : is_filed after f.param.id ≡ true =
    ap₂ (λ ms n. list_any (λ (y : Moment). is_filing f.param.id n y.act) ms) moments made.step.slot_now
    ∙ (ap (λ a. is_filing f.param.id before.slot_now a || list_any (λ y. is_filing f.param.id before.slot_now y.act) before.moments) next.1.follows.0
    ∙ ap (λ b. b || list_any (λ y. is_filing f.param.id before.slot_now y.act) before.moments)
    (both (x.param == f.param.id) (x.slot == before.slot_now) (eq-eqb x.param f.param.id (sym r.1)) (eq-eqb x.slot before.slot_now f.slot))) in
    let gone : is_unfiled after f.param ≡ false = ap (λ b. not (is_settable f.param) && not b) filed ∙ and-false (not (is_settable f.param)) in
    subst (λ (t : TailoringParts). length (filter (is_unfiled after) t.params) + 1 ≤ unfiled before) (sym made.step.tailoring)
    (filter-one-fewer (is_unfiled before) (is_unfiled after) before.tailoring.params (unfiled-before before after (m ∷ []) moments made.step.slot_now) f.param r.0 r.2 gone)
  where
    and-false : (b : Bool) → (b && false) ≡ false
    and-false true = refl
    and-false false = refl
