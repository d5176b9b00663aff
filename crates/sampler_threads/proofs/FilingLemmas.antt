-- Which samples are filed while items are taken.
use Rattle.std.proofs.Common.{◌≡◌, ◌≢◌, ℕ, ℤ, ◌+◌, Bool, true, false, not, ◌==◌, ◌&&◌, ◌||◌, cond, ◌⊎◌, inl, inr, List, [], ◌∷◌, ◌++◌, map, filter, reverse, Option, Some, None, refl, sym, ◌∙◌, ap, ap₂, subst}
use Rattle.std.specs.Prelude.{filter_map, option_map}
use Rattle.std.specs.Option.{option_map_or}
use Rattle.std.specs.List.{list_any, AllByRecursion, cons_option}
use Rattle.std.proofs.lemmas.Bool.{eqb-true, false≢true, false_from_ne_true}
use Rattle.std.proofs.lemmas.List.{append_assoc, append-nil, reverse-append}
use Rattle.std.proofs.lemmas.List.Elements.{filter-append, filter_map-append}
use Rattle.std.proofs.lemmas.List.Folds.{list_any-append}
use Rattle.body_fields.proofs.ListReading.{list_any-reverse}
use Rattle.hk_base.specs.Fit.{IsFit}
use Rattle.hk_base.specs.TailoringParts.{TailoringParts}
use Rattle.hk_base.specs.Parameters.{parameter, is_settable}
use Rattle.hk_base.specs.declared.types.Param.{Param}
use Rattle.hk_world.specs.Legal.{is_filing}
use Rattle.hk_world.specs.declared.moment.Moment.{Moment}
use Rattle.hk_world.specs.declared.moment.Act.{Act}
use Rattle.hk_world.specs.declared.moment.Act.TheVariants.{Accepted, TurnedAway, Started, NotStarted, Executed, Completed, Emitted, Filed}
use Rattle.board_steps.specs.Added.{filed_by}
use Rattle.board_steps.specs.Cores.{Core}
use Rattle.board_steps.specs.Slots.{is_filed, is_set}
use Rattle.board_steps.specs.SlotRuns.{Ahead, at_end, filings, filed_sample}
use Rattle.board_steps.specs.Steps.{MayFile}
use Rattle.board_steps.specs.declared.event.Sample.{Sample}
use Rattle.board_steps.specs.declared.event.Event.{Event}
use Rattle.board_steps.specs.declared.event.Event.TheVariants.{Uplink, Clock, Work, Filing, CloseSlot}
use Rattle.sampler_threads.specs.Deeds.{sample_of, FilesAny, Takes, Deed, takes, gives, takings, Went}
use Rattle.sampler_threads.specs.Samplings.{samples_of, is_sensed, is_sensed_sample, sensed_filings}
use Rattle.sampler_threads.specs.declared.item.Item.{Item}
use Rattle.board_steps.proofs.AddedLemmas.{closing-settable}
use Rattle.sampler_threads.proofs.StepLemmas.{adds}

-- whether a sample is of the parameter and the slot
abbrev pub is_sample_of : ℕ → ℕ → Sample → Bool
is_sample_of param slot sample = sample.param == param && sample.slot == slot

-- an act files a sample of the parameter and the slot, or none
filing_is : (param slot : ℕ) (act : Act) → is_filing param slot act ≡ option_map_or (is_sample_of param slot) (filed_sample act) false
filing_is param slot (Filed p x v) = refl
filing_is param slot (Accepted k) = refl
filing_is param slot (TurnedAway k) = refl
filing_is param slot (Started k) = refl
filing_is param slot (NotStarted k) = refl
filing_is param slot (Executed k number flag) = refl
filing_is param slot (Completed k refused) = refl
filing_is param slot Emitted = refl

-- a sample in front of others
some_filed : (q : Sample → Bool) (f : Option Sample) (samples : List Sample) → list_any q (cons_option f samples) ≡ (option_map_or q f false || list_any q samples)
some_filed q None samples = refl
some_filed q (Some s) samples = refl

-- whether moments file a sample, told from their filings
pub any_filings : (param slot : ℕ) (ms : List Moment) → list_any (λ (m : Moment). is_filing param slot m.act) ms ≡ list_any (is_sample_of param slot) (filings ms)
any_filings param slot [] = refl
any_filings param slot (m ∷ ms) =
    ap₂ ◌||◌ (filing_is param slot m.act) (any_filings param slot ms) ∙ sym (some_filed (is_sample_of param slot) (filed_sample m.act) (filings ms))

-- a parameter whose samples aren't among the new moments
pub filed_kept : (core after : Core) (m : List Moment) (param : ℕ) → after.moments ≡ reverse m ++ core.moments → after.slot_now ≡ core.slot_now
    → list_any (is_sample_of param core.slot_now) (filings m) ≡ false → is_filed after param ≡ is_filed core param
filed_kept core after m param moments slot none =
    let test : Moment → Bool = λ w. is_filing param core.slot_now w.act in
    ap (λ s. list_any (λ (w : Moment). is_filing param s w.act) after.moments) slot
    ∙ (ap (list_any test) moments
    ∙ (list_any-append test (reverse m) core.moments
    ∙ ap (λ b. b || is_filed core param) (sym (list_any-reverse test m) ∙ (any_filings param core.slot_now m ∙ none))))

pub may_file_kept : (core after : Core) (m : List Moment) (s : Sample) → after.moments ≡ reverse m ++ core.moments → after.slot_now ≡ core.slot_now → after.tailoring ≡ core.tailoring
    → list_any (is_sample_of s.param core.slot_now) (filings m) ≡ false → MayFile core s → MayFile after s
may_file_kept core after m s moments slot tailoring none h =
    record {
      param = h.param;
      known = ap (λ (t : TailoringParts). parameter t s.param) tailoring ∙ h.known;
      sensed = h.sensed;
      fit = h.fit;
      slot = h.slot ∙ sym slot;
      once = filed_kept core after m s.param moments slot none ∙ h.once;
    }

-- an item may be filed if it has a value
abbrev pub CanFile : Core → Option Sample → Type 0
CanFile core None = Unit {0}
CanFile core (Some s) = MayFile core s

all_unit : (ts : List (ℕ × Item)) → AllByRecursion (λ (u : ℕ × Item). Unit {0}) ts
all_unit [] = tt
all_unit (t ∷ ts) = (tt, all_unit ts)

-- every item may be filed
abbrev pub CanFileAll : Core → List (ℕ × Item) → Type 0
CanFileAll core ts = AllByRecursion (λ (t : ℕ × Item). CanFile core (sample_of t.1)) ts

-- of each two items the parameters differ
abbrev pub AreApart : List (ℕ × Item) → Type 0
AreApart [] = Unit {0}
AreApart (t ∷ ts) = AllByRecursion (λ (u : ℕ × Item). u.1.param ≢ t.1.param) ts × AreApart ts

-- the sample of a value
abbrev pub sample_with : ℕ → ℕ → Option ℤ → Option Sample
sample_with param slot value = option_map (λ v. record { param = param; slot = slot; value = v }) value

can_file_kept : (core after : Core) (m : List Moment) (param slot : ℕ) (value : Option ℤ)
    → after.moments ≡ reverse m ++ core.moments → after.slot_now ≡ core.slot_now → after.tailoring ≡ core.tailoring
    → list_any (is_sample_of param core.slot_now) (filings m) ≡ false → CanFile core (sample_with param slot value) → CanFile after (sample_with param slot value)
can_file_kept core after m param slot None moments now tailoring none h = h
can_file_kept core after m param slot (Some v) moments now tailoring none h =
    may_file_kept core after m (record { param = param; slot = slot; value = v }) moments now tailoring none h

all_can_kept : (core after : Core) (m : List Moment) (P : ℕ → Type 0) → after.moments ≡ reverse m ++ core.moments → after.slot_now ≡ core.slot_now → after.tailoring ≡ core.tailoring
    → ((p : ℕ) → P p → list_any (is_sample_of p core.slot_now) (filings m) ≡ false)
    → (ts : List (ℕ × Item)) → AllByRecursion (λ (u : ℕ × Item). P u.1.param) ts → CanFileAll core ts → CanFileAll after ts
all_can_kept core after m P moments slot tailoring none [] all h = h
all_can_kept core after m P moments slot tailoring none (t ∷ ts) all h =
    (can_file_kept core after m t.1.param t.1.slot t.1.value moments slot tailoring (none t.1.param all.0) h.0, all_can_kept core after m P moments slot tailoring none ts all.1 h.1)

may_file_sensed : (core : Core) (s : Sample) → MayFile core s → is_sensed_sample core.tailoring s ≡ true
may_file_sensed core s h = ap is_sensed h.known ∙ ap not h.sensed

-- what an item that is taken files
pub record OneTaken (core mid : Core) (param : ℕ) (filed : Option Sample) (m : List Moment) : Type 0 where
  pub moments : mid.moments ≡ reverse m ++ core.moments
  pub slot : mid.slot_now ≡ core.slot_now
  pub tailoring : mid.tailoring ≡ core.tailoring
  pub files : sensed_filings core.tailoring m ≡ cons_option filed []
  pub none : (p : ℕ) → p ≢ param → list_any (is_sample_of p core.slot_now) (filings m) ≡ false

kept_true : (b : Bool) (s : Sample) → b ≡ true → cond b (s ∷ []) [] ≡ s ∷ []
kept_true true s e = refl
kept_true false s e = absurd (false≢true e)

other_param : (b c : Bool) → b ≡ false → ((b && c) || false) ≡ false
other_param true c e = absurd (false≢true (sym e))
other_param false c e = refl

one_taken : (core mid : Core) (param slot : ℕ) (value : Option ℤ) → FilesAny core (sample_with param slot value) mid → CanFile core (sample_with param slot value)
    → (m : List Moment) × OneTaken core mid param (sample_with param slot value) m
one_taken core mid param slot None h can = (
  [],
  record {
    moments = ap (λ (k : Core). k.moments) h;
    slot = ap (λ (k : Core). k.slot_now) h;
    tailoring = ap (λ (k : Core). k.tailoring) h;
    files = refl;
    none = λ p ne. refl;
  },
)
one_taken core mid param slot (Some v) (inr h) can = absurd (h.0 can)
one_taken core mid param slot (Some v) (inl h) can =
    let s : Sample = record { param = param; slot = slot; value = v } in
    let a = adds core mid (Filing s) h in (
      a.0,
      record {
        moments = a.1.moments;
        slot = a.1.slot_now;
        tailoring = a.1.tailoring;
        files = ap (filter (is_sensed_sample core.tailoring)) a.1.samples ∙ kept_true (is_sensed_sample core.tailoring s) s (may_file_sensed core s can);
        none = λ p ne. ap (list_any (is_sample_of p core.slot_now)) a.1.samples ∙ other_param (param == p) (slot == core.slot_now) (false_from_ne_true (param == p) (λ e. ne (sym (eqb-true param p e))));
      },
    )

sensed_append : (t : TailoringParts) (xs ys : List Moment) → sensed_filings t (xs ++ ys) ≡ sensed_filings t xs ++ sensed_filings t ys
sensed_append t xs ys =
    ap (filter (is_sensed_sample t)) (filter_map-append (λ (m : Moment). filed_sample m.act) xs ys) ∙ filter-append (is_sensed_sample t) (filings xs) (filings ys)

cons_append : (f : Option Sample) (xs : List Sample) → cons_option f [] ++ xs ≡ cons_option f xs
cons_append None xs = refl
cons_append (Some s) xs = refl

-- nothing comes after the end
went_end : (b : Ahead) (core after : Core) (ds : List Deed) → Went at_end core ds b after → (ds ≡ []) × (after ≡ core)
went_end b core after [] h = (refl, h.1)
went_end b core after (takes x ∷ ds) h = absurd (false≢true h.0)
went_end b core after (gives x ∷ ds) h = absurd (false≢true h.0)

dropped : (b : Bool) (s : Sample) (xs : List Sample) → b ≡ false → cond b (s ∷ xs) xs ≡ xs
dropped true s xs e = absurd (false≢true (sym e))
dropped false s xs e = refl

not_sensed : (param : Option Param) → option_map_or is_settable param false ≡ true → is_sensed param ≡ false
not_sensed None h = absurd (false≢true h)
not_sensed (Some p) h = ap not h

all_dropped : (t : TailoringParts) (samples : List Sample) → AllByRecursion (λ (x : Sample). is_set t x.param ≡ true) samples → filter (is_sensed_sample t) samples ≡ []
all_dropped t [] h = refl
all_dropped t (x ∷ xs) h =
    dropped (is_sensed (parameter t x.param)) x (filter (is_sensed_sample t) xs) (not_sensed (parameter t x.param) h.0) ∙ all_dropped t xs h.1

-- the end of a slot files no sensed parameter
settable_none : (core : Core) → IsFit core.tailoring → filter (is_sensed_sample core.tailoring) (filed_by core CloseSlot) ≡ []
settable_none core fit = all_dropped core.tailoring (filed_by core CloseSlot) (closing-settable core fit)

-- what is filed while items are taken: of sensed parameters, the samples of the items, in the order in which they are taken
abbrev pub FiledInOrder : Core → List Deed → Core → Type 0
FiledInOrder core ds after =
    (m : List Moment) × (after.moments ≡ reverse m ++ core.moments) × (sensed_filings core.tailoring m ≡ samples_of (map (λ (t : ℕ × Item). t.1) (takings ds)))

-- more is filed
filed_more : (core mid after : Core) (m : List Moment) (first rest : List Sample) → mid.moments ≡ reverse m ++ core.moments → mid.tailoring ≡ core.tailoring → sensed_filings core.tailoring m ≡ first
    → (n : List Moment) → after.moments ≡ reverse n ++ mid.moments → sensed_filings mid.tailoring n ≡ rest
    → (k : List Moment) × (after.moments ≡ reverse k ++ core.moments) × (sensed_filings core.tailoring k ≡ first ++ rest)
filed_more core mid after m first rest moments tailoring files n later more = (
  m ++ n,
  later
      ∙ (ap (λ w. reverse n ++ w) moments
      ∙ (sym (append_assoc (reverse n) (reverse m) core.moments) ∙ ap (λ w. w ++ core.moments) (sym (reverse-append m n)))),
  sensed_append core.tailoring m n ∙ ap₂ ◌++◌ files (subst (λ t. sensed_filings t n ≡ rest) tailoring more),
)

-- an event that files nothing
quiet : (a b : Ahead) (core mid after : Core) (ds : List Deed) (m : List Moment) → mid.moments ≡ reverse m ++ core.moments → mid.tailoring ≡ core.tailoring → mid.slot_now ≡ core.slot_now → filings m ≡ []
    → CanFileAll core (takings ds) → (CanFileAll mid (takings ds) → FiledInOrder mid ds after) → FiledInOrder core ds after
quiet a b core mid after ds m moments tailoring slot none can more =
    let rest = more (all_can_kept core mid m (λ p. Unit {0}) moments slot tailoring (λ p u. ap (list_any (is_sample_of p core.slot_now)) none) (takings ds) (all_unit (takings ds)) can) in
    filed_more core mid after m [] (samples_of (map (λ (t : ℕ × Item). t.1) (takings ds))) moments tailoring (ap (filter (is_sensed_sample core.tailoring)) none) rest.0 rest.1 rest.2

pub filed_in_order : (a b : Ahead) (core after : Core) (ds : List Deed) → IsFit core.tailoring → Went a core ds b after → CanFileAll core (takings ds) → AreApart (takings ds) → FiledInOrder core ds after
filed_in_order a b core after [] fit h can apart = ([], ap (λ (k : Core). k.moments) h.1, refl)
filed_in_order a b core after (takes x ∷ ds) fit h can apart =
    let mid = h.1.0 in
    let one = one_taken core mid x.1.param x.1.slot x.1.value h.1.1 can.0 in
    let rest = filed_in_order a b mid after ds (subst IsFit (sym one.1.tailoring) fit) h.1.2
    (all_can_kept core mid one.0 (λ p. p ≢ x.1.param) one.1.moments one.1.slot one.1.tailoring one.1.none (takings ds) apart.0 can.1) apart.1 in
    let samples = samples_of (map (λ (t : ℕ × Item). t.1) (takings ds)) in
    let all = filed_more core mid after one.0 (cons_option (sample_of x.1) []) samples one.1.moments one.1.tailoring one.1.files rest.0 rest.1 rest.2 in
    (all.0, all.1, all.2 ∙ cons_append (sample_of x.1) samples)
filed_in_order a b core after (gives (Uplink packet) ∷ ds) fit h can apart =
    let mid = h.1.1 in
    let k = adds core mid (Uplink packet) h.1.3 in
    quiet a b core mid after ds k.0 k.1.moments k.1.tailoring k.1.slot_now k.1.samples can
    (λ can. filed_in_order h.1.0 b mid after ds (subst IsFit (sym k.1.tailoring) fit) h.1.4 can apart)
filed_in_order a b core after (gives Work ∷ ds) fit h can apart =
    let mid = h.1.1 in
    let k = adds core mid Work h.1.3 in
    quiet a b core mid after ds k.0 k.1.moments k.1.tailoring k.1.slot_now k.1.samples can
    (λ can. filed_in_order h.1.0 b mid after ds (subst IsFit (sym k.1.tailoring) fit) h.1.4 can apart)
filed_in_order a b core after (gives CloseSlot ∷ ds) fit h can apart =
    let mid = h.1.1 in
    let k = adds core mid CloseSlot h.1.3 in
    let last = went_end b mid after ds (subst (λ z. Went z mid ds b after) h.1.2.2 h.1.4) in (
      k.0,
      ap (λ (z : Core). z.moments) last.1 ∙ k.1.moments,
      ap (filter (is_sensed_sample core.tailoring)) k.1.samples ∙ (settable_none core fit ∙ ap (λ w. samples_of (map (λ (t : ℕ × Item). t.1) (takings w))) (sym last.0)),
    )
filed_in_order a b core after (gives (Clock time) ∷ ds) fit h can apart = absurd h.1.2
filed_in_order a b core after (gives (Filing sample) ∷ ds) fit h can apart = absurd h.1.2
