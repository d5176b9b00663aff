-- What an executor does, put together.
use Rattle.std.proofs.Common.{◌≡◌, ℕ, ℤ, ◌+◌, ◌<◌, ◌≤◌, arith, Bool, true, false, List, [], ◌∷◌, ◌++◌, length, map, filter, not, ◌&&◌, ◌==◌, ◌⊎◌, inl, inr, Option, Some, None, refl, sym, ◌∙◌, ap, ap₂, subst}
use Rattle.std.specs.Prelude.{option_map}
use Rattle.std.specs.Option.{option_map_or}
use Rattle.std.proofs.lemmas.Bool.{eqb-true, eqb-false, false≢true, true_from_ne_false}
use Rattle.std.proofs.lemmas.List.{append_assoc, append-nil}
use Rattle.hk_base.specs.Parameters.{parameter, is_settable, fits}
use Rattle.hk_base.specs.declared.types.Param.{Param}
use Rattle.board_steps.specs.Cores.{Core}
use Rattle.board_steps.specs.Runs.{IsMade}
use Rattle.board_steps.specs.Slots.{is_filed}
use Rattle.board_steps.specs.Steps.{MayFile}
use Rattle.board_steps.specs.SlotRuns.{Ahead, IsIdle, IsStopped, at_work, waiting}
use Rattle.board_steps.specs.declared.event.Sample.{Sample}
use Rattle.board_steps.specs.declared.event.Event.{Event}
use Rattle.board_steps.specs.declared.event.Event.TheVariants.{Filing, Work}
use Rattle.board_steps.specs.declared.event.BoardFault.{BoardFault}
use Rattle.sampler_threads.specs.Rings.{Stops}
use Rattle.sampler_threads.specs.Deeds.{sample_of, FilesAny, Takes, Took, TookItems, items_from, Deed, takes, gives, takings, Went, Tells, is_sensed_value}
use Rattle.sampler_threads.specs.declared.item.Item.{Item}
use Rattle.sampler_threads.proofs.StepLemmas.{made_tailoring, made_moments, filing_waits}

both_true : (a b : Bool) → (a && b) ≡ true → (a ≡ true) × (b ≡ true)
both_true true b h = (refl, h)
both_true false b h = absurd (false≢true h)

not_true : (b : Bool) → not b ≡ true → b ≡ false
not_true true e = sym e
not_true false e = refl

same_number : (a b : ℕ) → a ≡ b → (a == b) ≡ true
same_number a b e = true_from_ne_false (a == b) (λ n. eqb-false a b n e)

-- a core that an item was taken by has the same tailoring
files_any_tailoring : (core : Core) (sample : Option Sample) (after : Core) → FilesAny core sample after → after.tailoring ≡ core.tailoring
files_any_tailoring core None after h = ap (λ (c : Core). c.tailoring) h
files_any_tailoring core (Some sample) after (inl h) = made_tailoring core after (Filing sample) h
files_any_tailoring core (Some sample) after (inr h) = ap (λ (c : Core). c.tailoring) h.1

pub takes_tailoring : (core : Core) (item : Item) (after : Core) → Takes core item after → after.tailoring ≡ core.tailoring
takes_tailoring core item after h = files_any_tailoring core (sample_of item) after h

-- and as many requests wait
files_any_waiting : (core : Core) (sample : Option Sample) (after : Core) → FilesAny core sample after → waiting after ≡ waiting core
files_any_waiting core None after h = ap waiting h
files_any_waiting core (Some sample) after (inl h) = filing_waits core after sample h
files_any_waiting core (Some sample) after (inr h) = ap waiting h.1

pub takes_waiting : (core : Core) (item : Item) (after : Core) → Takes core item after → waiting after ≡ waiting core
takes_waiting core item after h = files_any_waiting core (sample_of item) after h

-- items out of one ring, one after the other
pub items_snoc : (core mid after : Core) (items : List Item) (item : Item) → TookItems core items mid → Takes mid item after → TookItems core (items ++ item ∷ []) after
items_snoc core mid after [] item h t = (after, subst (λ c. Takes c item after) h t, refl)
items_snoc core mid after (x ∷ xs) item h t = (h.0, h.1, items_snoc h.0 mid after xs item h.2 t)

pub items_tailoring : (core after : Core) (items : List Item) → TookItems core items after → after.tailoring ≡ core.tailoring
items_tailoring core after [] h = ap (λ (c : Core). c.tailoring) h
items_tailoring core after (x ∷ xs) h = items_tailoring h.0 after xs h.2 ∙ takes_tailoring core x h.0 h.1

-- items out of the ring with this number
pub numbered : ℕ → List Item → List (ℕ × Item)
numbered k items = map (λ item. (k, item)) items

pub took_items : (k : ℕ) (core after : Core) (items : List Item) → TookItems core items after → Took core (map (λ item. (k, item)) items) after
took_items k core after [] h = h
took_items k core after (x ∷ xs) h = (h.0, h.1, took_items k h.0 after xs h.2)

pub took_append : (core mid after : Core) (xs ys : List (ℕ × Item)) → Took core xs mid → Took mid ys after → Took core (xs ++ ys) after
took_append core mid after [] ys h t = subst (λ c. Took c ys after) h t
took_append core mid after (x ∷ xs) ys h t = (h.0, h.1, took_append h.0 mid after xs ys h.2 t)

pub took_tailoring : (core after : Core) (ts : List (ℕ × Item)) → Took core ts after → after.tailoring ≡ core.tailoring
took_tailoring core after [] h = ap (λ (c : Core). c.tailoring) h
took_tailoring core after (t ∷ ts) h = took_tailoring h.0 after ts h.2 ∙ takes_tailoring core t.1 h.0 h.1

pub took_waiting : (core after : Core) (ts : List (ℕ × Item)) → Took core ts after → waiting after ≡ waiting core
took_waiting core after [] h = ap waiting h
took_waiting core after (t ∷ ts) h = took_waiting h.0 after ts h.2 ∙ takes_waiting core t.1 h.0 h.1

-- in an open slot, items may be taken at any time
pub took_went : (ahead : Ahead) (core after : Core) (ts : List (ℕ × Item)) → ahead.is_open ≡ true → Took core ts after → Went ahead core (map takes ts) ahead after
took_went ahead core after [] is_open h = (refl, h)
took_went ahead core after (t ∷ ts) is_open h = (is_open, (h.0, h.1, took_went ahead h.0 after ts is_open h.2))

pub went_append : (a b e : Ahead) (core mid after : Core) (xs ys : List Deed) → Went a core xs b mid → Went b mid ys e after → Went a core (xs ++ ys) e after
went_append a b e core mid after [] ys h t = subst (λ c. Went a c ys e after) h.1 (subst (λ z. Went z mid ys e after) h.0 t)
went_append a b e core mid after (takes x ∷ xs) ys h t = (h.0, (h.1.0, h.1.1, went_append a b e h.1.0 mid after xs ys h.1.2 t))
went_append a b e core mid after (gives x ∷ xs) ys h t =
    (h.0, (h.1.0, h.1.1, h.1.2, h.1.3, went_append h.1.0 b e h.1.1 mid after xs ys h.1.4 t))

-- what was taken
pub takings_append : (xs ys : List Deed) → takings (xs ++ ys) ≡ takings xs ++ takings ys
takings_append [] ys = refl
takings_append (takes x ∷ xs) ys = ap (λ zs. x ∷ zs) (takings_append xs ys)
takings_append (gives x ∷ xs) ys = takings_append xs ys

pub takings_takes : (ts : List (ℕ × Item)) → takings (map takes ts) ≡ ts
takings_takes [] = refl
takings_takes (t ∷ ts) = ap (λ zs. t ∷ zs) (takings_takes ts)

-- and then an event is given
pub takings_then : (ts : List (ℕ × Item)) (event : Event) → takings (map takes ts ++ gives event ∷ []) ≡ ts
takings_then ts event = takings_append (map takes ts) (gives event ∷ []) ∙ (append-nil (takings (map takes ts)) ∙ takings_takes ts)

-- a journal only grows
files_any_moments : (core : Core) (sample : Option Sample) (after : Core) → FilesAny core sample after → length core.moments ≤ length after.moments
files_any_moments core None after h = omega (arith, ap (λ (c : Core). length c.moments) h)
files_any_moments core (Some sample) after (inl h) = made_moments core after (Filing sample) h
files_any_moments core (Some sample) after (inr h) = omega (arith, ap (λ (c : Core). length c.moments) h.1)

pub took_moments : (core after : Core) (ts : List (ℕ × Item)) → Took core ts after → length core.moments ≤ length after.moments
took_moments core after [] h = omega (arith, ap (λ (c : Core). length c.moments) h)
took_moments core after (t ∷ ts) h = omega (arith, files_any_moments core (sample_of t.1) h.0 h.1, took_moments h.0 after ts h.2)

-- a filing that is refused stops an open slot
pub filing_stops : (ahead : Ahead) (core : Core) (fault : BoardFault) → ahead.is_open ≡ true → Stops core fault → IsStopped ahead core fault
filing_stops ahead core fault is_open h = λ other. (Filing h.0, ahead, (is_open, h.1, refl), h.1, h.2)

-- items are taken, and then work is done
pub took_worked : (core mid after : Core) (ts : List (ℕ × Item)) → Took core ts mid → 0 < waiting core → IsMade mid Work after
    → (later : List (List ℕ)) → Went (at_work later) core (map takes ts ++ gives Work ∷ []) (at_work later) after
took_worked core mid after ts took waits made later =
    went_append (at_work later) (at_work later) (at_work later) core mid after (map takes ts) (gives Work ∷ [])
    (took_went (at_work later) core mid ts refl took)
    (refl, (at_work later, after, (refl, subst (λ n. 0 < n) (sym (took_waiting core mid ts took)) waits, refl), made, (refl, refl)))

-- what an executor does leaves the tailoring
pub went_tailoring : (a b : Ahead) (core after : Core) (ds : List Deed) → Went a core ds b after → after.tailoring ≡ core.tailoring
went_tailoring a b core after [] h = ap (λ (c : Core). c.tailoring) h.1
went_tailoring a b core after (takes x ∷ ds) h = went_tailoring a b h.1.0 after ds h.1.2 ∙ takes_tailoring core x.1 h.1.0 h.1.1
went_tailoring a b core after (gives x ∷ ds) h = went_tailoring h.1.0 b h.1.1 after ds h.1.4 ∙ made_tailoring core h.1.1 x h.1.3

-- and the journal grows
pub went_moments : (a b : Ahead) (core after : Core) (ds : List Deed) → Went a core ds b after → length core.moments ≤ length after.moments
went_moments a b core after [] h = omega (arith, ap (λ (c : Core). length c.moments) h.1)
went_moments a b core after (takes x ∷ ds) h = omega (arith, files_any_moments core (sample_of x.1) h.1.0 h.1.1, went_moments a b h.1.0 after ds h.1.2)
went_moments a b core after (gives x ∷ ds) h = omega (arith, made_moments core h.1.1 x h.1.3, went_moments h.1.0 b h.1.1 after ds h.1.4)

-- whether a sample may be filed, by the tests that tell it
may_file_yes : (core : Core) (x : Sample) (q : Option Param) → parameter core.tailoring x.param ≡ q
    → (option_map_or (is_sensed_value x.value) q false && ((x.slot == core.slot_now) && not (is_filed core x.param))) ≡ true → MayFile core x
may_file_yes core x None at h = absurd (false≢true h)
may_file_yes core x (Some p) at h =
    let a = both_true (is_sensed_value x.value p) ((x.slot == core.slot_now) && not (is_filed core x.param)) h in
    let b = both_true (not (is_settable p)) (fits p x.value) a.0 in
    let d = both_true (x.slot == core.slot_now) (not (is_filed core x.param)) a.1 in
    record { param = p; known = at; sensed = not_true (is_settable p) b.0; fit = b.1; slot = eqb-true x.slot core.slot_now d.0; once = not_true (is_filed core x.param) d.1 }

may_file_no : (core : Core) (x : Sample) → MayFile core x
    → (option_map_or (is_sensed_value x.value) (parameter core.tailoring x.param) false && ((x.slot == core.slot_now) && not (is_filed core x.param))) ≡ true
may_file_no core x h =
    ap₂ ◌&&◌ (ap (λ q. option_map_or (is_sensed_value x.value) q false) h.known ∙ ap₂ ◌&&◌ (ap not h.sensed) h.fit)
    (ap₂ ◌&&◌ (same_number x.slot core.slot_now h.slot) (ap not h.once))

told : (b : Bool) (P : Type 0) → (b ≡ true → P) → (P → b ≡ true) → Tells b P
told true P is_so not_so = is_so refl
told false P is_so not_so = λ p. false≢true (not_so p)

pub may_file_told : (core : Core) (x : Sample) (b : Bool)
    → (option_map_or (is_sensed_value x.value) (parameter core.tailoring x.param) false && ((x.slot == core.slot_now) && not (is_filed core x.param))) ≡ b → Tells b (MayFile core x)
may_file_told core x b is = told b (MayFile core x) (λ e. may_file_yes core x (parameter core.tailoring x.param) refl (is ∙ e)) (λ h. sym is ∙ may_file_no core x h)

-- what becomes of an item, by its value
pub takes_nothing : (core : Core) (item : Item) → item.value ≡ None → Takes core item core
takes_nothing core item e =
    subst (λ v. FilesAny core (option_map (λ (value : ℤ). record { param = item.param; slot = item.slot; value = value }) v) core) (sym e) refl

pub takes_dropped : (core : Core) (item : Item) (v : ℤ) → item.value ≡ Some v → (MayFile core (record { param = item.param; slot = item.slot; value = v }) → ⊥) → Takes core item core
takes_dropped core item v e never =
    subst (λ w. FilesAny core (option_map (λ (value : ℤ). record { param = item.param; slot = item.slot; value = value }) w) core) (sym e) (inr (never, refl))

pub takes_filed : (core after : Core) (item : Item) (v : ℤ) → item.value ≡ Some v → IsMade core (Filing (record { param = item.param; slot = item.slot; value = v })) after → Takes core item after
takes_filed core after item v e made =
    subst (λ w. FilesAny core (option_map (λ (value : ℤ). record { param = item.param; slot = item.slot; value = value }) w) after) (sym e) (inl made)
