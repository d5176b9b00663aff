-- Members among samples and tags, and lists of members that change one by one.
use Rattle.std.proofs.Common.{arith, ◌≡◌, ℕ, zero, suc, ◌<◌, ◌≤◌, ◌+◌, refl, sym, ◌∙◌, ap, ap₂, subst, List, [], ◌∷◌, ◌++◌, length, map, filter, reverse, Bool, true, false, ◌==◌, ◌||◌, ◌&&◌, not, nat_lt, Option, Some, None}
use Rattle.std.specs.Prelude.{⊤, ℤ, filter_map, IfSome, option_map, if◌then◌else◌}
use Rattle.std.specs.List.{AllByRecursion, cons_option, list_any}
use Rattle.std.specs.Option.{option_or}
use Rattle.std.proofs.lemmas.List.{reverse-append}
use Rattle.std.proofs.lemmas.Bool.Decides.{nat_tests}
use Rattle.hk_base.specs.TailoringParts.{TailoringParts}
use Rattle.body_fields.specs.Reading.{fault_if}
use Rattle.body_fields.specs.Spelling.{AllStand}
use Rattle.body_fields.specs.declared.fault.BodyFault.{BodyFault}
use Rattle.statistics.specs.Summaries.{Sample, sample}
use Rattle.st04_grammar.specs.Bodies.{numeric_fault}
use Rattle.st04_grammar.specs.Instructions.{StatisticsChange, report, reset, enable, disable, add, delete, delete_all, show_definitions}
use Rattle.pus_messages.specs.Instructions.{Instruction, on_structure, on_statistics, report_values, set_values}
use Rattle.hk_world.specs.States as states
use Rattle.hk_world.specs.States.{BoardState, statistics_left, is_member}
use Rattle.hk_world.specs.Timelines.{Session, Done, done_by, done_at, done_instructions, instruction_at, statistics_after, restarts, start_after}
use Rattle.hk_world.specs.Honest.{sample_of, samples_above}
use Rattle.hk_world.specs.declared.moment.Moment.{Moment}
use Rattle.hk_world.specs.declared.moment.Act.{Act}
use Rattle.hk_world.specs.declared.moment.Act.TheVariants.{Accepted, TurnedAway, Started, NotStarted, Executed, Completed, Emitted, Filed}
use Rattle.hk_world.proofs.OrderLemmas.{true_is_not_false}
use Rattle.board_state.specs.Statistics.{params_of}
use Rattle.board_state.specs.declared.members.Member.{Member}

-- the sample of a parameter at a moment, if its tag is above this one
abbrev pub sample_above : ℕ → ℕ → Moment → Option Sample
sample_above id tag m = if nat_lt tag m.tag then sample_of id m.act else None

none-above : (id tag : ℕ) (m : Moment) → sample_of id m.act ≡ None → sample_above id tag m ≡ None
none-above id tag m e = go (nat_lt tag m.tag)
  where
    go : (b : Bool) → (if b then sample_of id m.act else None) ≡ None
    go true = e
    go false = refl

-- a moment without a sample of the parameter
pub samples-still : (id tag : ℕ) (m : Moment) (moments : List Moment) → sample_of id m.act ≡ None → samples_above id tag (m ∷ moments) ≡ samples_above id tag moments
samples-still id tag m moments e = ap (λ o. reverse (cons_option o (filter_map (sample_above id tag) moments))) (none-above id tag m e)

-- a moment with one
pub samples-more : (id tag : ℕ) (m : Moment) (moments : List Moment) (x : Sample) → nat_lt tag m.tag ≡ true → sample_of id m.act ≡ Some x
    → samples_above id tag (m ∷ moments) ≡ samples_above id tag moments ++ x ∷ []
samples-more id tag m moments x e f =
    ap (λ o. reverse (cons_option o (filter_map (sample_above id tag) moments))) (ap (λ b. if b then sample_of id m.act else None) e ∙ f)
    ∙ reverse-append (x ∷ []) (filter_map (sample_above id tag) moments)

pub lt-is-true : (a b : ℕ) → a < b → nat_lt a b ≡ true
lt-is-true a b h = grind (arith, nat_tests)

pub le-is-false : (a b : ℕ) → b ≤ a → nat_lt a b ≡ false
le-is-false a b h = grind (arith, nat_tests)

-- where no tag is above there are no samples
pub samples-none : (id tag : ℕ) (moments : List Moment) → AllByRecursion (λ m. m.tag ≤ tag) moments → samples_above id tag moments ≡ []
samples-none id tag moments h = ap reverse (go moments h)
  where
    go : (ms : List Moment) → AllByRecursion (λ m. m.tag ≤ tag) ms → filter_map (sample_above id tag) ms ≡ []
    go [] k = refl
    go (m ∷ ms) k = ap₂ (λ o xs. cons_option o xs) (ap (λ b. if b then sample_of id m.act else None) (le-is-false tag m.tag k.0)) (go ms k.1)

-- tags that are at most one number are at most a greater one
pub tags-at-most : (a b : ℕ) → a ≤ b → (moments : List Moment) → AllByRecursion (λ m. m.tag ≤ a) moments → AllByRecursion (λ m. m.tag ≤ b) moments
tags-at-most a b le [] h = tt
tags-at-most a b le (m ∷ ms) h = (omega (arith, le, h.0), tags-at-most a b le ms h.1)

pub tags-below : (a : ℕ) (moments : List Moment) → AllByRecursion (λ m. m.tag < a) moments → AllByRecursion (λ m. m.tag ≤ a) moments
tags-below a [] h = tt
tags-below a (m ∷ ms) h = (omega (arith, h.0), tags-below a ms h.1)

done-below : (s : Session) (n tag : ℕ) (act : Act) → tag < n → IfSome (done_by s tag act) (λ (d : Done). d.tag < n)
done-below s n tag (Executed k number true) h = go (instruction_at s k number)
  where
    go : (o : Option Instruction) → IfSome (option_map (λ x. record { tag = tag; request = k; instruction = x }) o) (λ (d : Done). d.tag < n)
    go None = tt
    go (Some x) = h
done-below s n tag (Executed k number false) h = tt
done-below s n tag (Accepted k) h = tt
done-below s n tag (TurnedAway k) h = tt
done-below s n tag (Started k) h = tt
done-below s n tag (NotStarted k) h = tt
done-below s n tag (Completed k refused) h = tt
done-below s n tag Emitted h = tt
done-below s n tag (Filed param slot value) h = tt

dones-below : (s : Session) (n : ℕ) (moments : List Moment) → AllByRecursion (λ m. m.tag < n) moments → AllByRecursion (λ (d : Done). d.tag < n) (done_instructions s moments)
dones-below s n [] h = tt
dones-below s n (m ∷ ms) h = go (done_at s m) (done-below s n m.tag m.act h.0) (done_instructions s ms) (dones-below s n ms h.1)
  where
    go : (o : Option Done) → IfSome o (λ (d : Done). d.tag < n) → (ds : List Done) → AllByRecursion (λ (d : Done). d.tag < n) ds → AllByRecursion (λ (d : Done). d.tag < n) (cons_option o ds)
    go None k ds all = all
    go (Some d) k ds all = (k, all)

-- each was added at a tag below this one
abbrev pub AreAddedBelow : ℕ → List states.Member → Type 0
AreAddedBelow n members = AllByRecursion (λ (a : states.Member). a.added < n) members

added-filter : (n : ℕ) (f : states.Member → Bool) (members : List states.Member) → AreAddedBelow n members → AreAddedBelow n (filter f members)
added-filter n f [] h = tt
added-filter n f (a ∷ olds) h = go (f a) (added-filter n f olds h.1)
  where
    go : (b : Bool) → AreAddedBelow n (filter f olds) → AreAddedBelow n (if b then a ∷ filter f olds else filter f olds)
    go true k = (h.0, k)
    go false k = k

added-one : (n id tag : ℕ) → tag < n → (members : List states.Member) → AreAddedBelow n members → AreAddedBelow n (members ++ record { param = id; added = tag } ∷ [])
added-one n id tag lt [] h = (lt, tt)
added-one n id tag lt (a ∷ olds) h = (h.0, added-one n id tag lt olds h.1)

added-anew : (n id tag : ℕ) → tag < n → (members : List states.Member) → AreAddedBelow n members
    → AreAddedBelow n (map (λ (a : states.Member). if a.param == id then record { param = id; added = tag } else a) members)
added-anew n id tag lt [] h = tt
added-anew n id tag lt (a ∷ olds) h = (go (a.param == id), added-anew n id tag lt olds h.1)
  where
    go : (b : Bool) → (if b then record { param = id; added = tag } else a).added < n
    go true = lt
    go false = h.0

left-below : (n tag : ℕ) → tag < n → (x : Instruction) (st : states.Statistics) → AreAddedBelow n st.members → AreAddedBelow n (statistics_left x tag st).members
left-below n tag lt (on_statistics (add id)) st h = go (is_member id st.members)
  where
    go : (b : Bool) → AreAddedBelow n (if b then map (λ (a : states.Member). if a.param == id then record { param = id; added = tag } else a) st.members
        else st.members ++ record { param = id; added = tag } ∷ [])
    go true = added-anew n id tag lt st.members h
    go false = added-one n id tag lt st.members h
left-below n tag lt (on_statistics (delete id)) st h = added-filter n (λ a. not (a.param == id)) st.members h
left-below n tag lt (on_statistics delete_all) st h = tt
left-below n tag lt (on_statistics (enable k)) st h = h
left-below n tag lt (on_statistics disable) st h = h
left-below n tag lt (on_statistics reset) st h = h
left-below n tag lt (on_statistics (report resets)) st h = h
left-below n tag lt (on_statistics show_definitions) st h = h
left-below n tag lt (on_structure key change) st h = h
left-below n tag lt (report_values ids) st h = h
left-below n tag lt (set_values settings) st h = h

-- a state of the start with no members
abbrev pub StartsEmpty : BoardState → Type 0
StartsEmpty initial = (initial.statistics.members ≡ []) × (initial.start ≡ 0)

-- members were added at tags of moments
pub members-below : (s : Session) (n : ℕ) (moments : List Moment) → StartsEmpty s.initial → AllByRecursion (λ m. m.tag < n) moments
    → AreAddedBelow n (statistics_after s.initial (done_instructions s moments)).members
members-below s n moments empty h = go (done_instructions s moments) (dones-below s n moments h)
  where
    go : (ds : List Done) → AllByRecursion (λ (d : Done). d.tag < n) ds → AreAddedBelow n (statistics_after s.initial ds).members
    go [] k = subst (AreAddedBelow n) (sym empty.0) tt
    go (d ∷ ds) k = left-below n d.tag k.0 d.instruction (statistics_after s.initial ds) (go ds k.1)

-- the statistics start at the tag of a moment, or at 0
pub start-below : (s : Session) (n : ℕ) (moments : List Moment) → StartsEmpty s.initial → 0 < n → AllByRecursion (λ m. m.tag < n) moments → start_after s moments < n
start-below s n [] empty lt h = subst (λ k. k < n) (sym empty.1) lt
start-below s n (m ∷ ms) empty lt h = go (restarts s (m ∷ ms)) (start-below s n ms empty lt h.1)
  where
    go : (b : Bool) → start_after s ms < n → (if b then m.tag else start_after s ms) < n
    go true k = h.0
    go false k = k

-- whether an ID is among these
abbrev pub is_among : List ℕ → ℕ → Bool
is_among ids id = list_any (λ e. e == id) ids

fault-others : (a b : Bool) (fault : BodyFault) (k l : Option BodyFault) → option_or (option_or (fault_if a fault) k) l ≡ None → (a ≡ false → b ≡ false)
    → option_or (option_or (fault_if b fault) k) l ≡ None
fault-others true b fault k l e f = let no : ⊥ = cc in absurd no
fault-others false true fault k l e f = absurd (true_is_not_false (f refl))
fault-others false false fault k l e f = e

fault-absent : (a : Bool) (fault : BodyFault) (k l : Option BodyFault) → option_or (option_or (fault_if a fault) k) l ≡ None → a ≡ false
fault-absent true fault k l e = let no : ⊥ = cc in absurd no
fault-absent false fault k l e = refl

-- an ID that stands among some stands among others, if it isn't one of them
pub stands-others : (t : TailoringParts) (earlier others : List ℕ) (id : ℕ) → numeric_fault t earlier id ≡ None → (is_among earlier id ≡ false → is_among others id ≡ false)
    → numeric_fault t others id ≡ None
stands-others t earlier others id e f = fault-others (is_among earlier id) (is_among others id) _ _ _ e f

or-left-false : (a b : Bool) → (a || b) ≡ false → a ≡ false
or-left-false true b e = e
or-left-false false b e = refl

or-right-false : (a b : Bool) → (a || b) ≡ false → b ≡ false
or-right-false true b e = absurd (true_is_not_false e)
or-right-false false b e = e

or-falses : (a b : Bool) → a ≡ false → b ≡ false → (a || b) ≡ false
or-falses true b e f = e
or-falses false b e f = f

-- with one ID more at the end
pub stands-last : (t : TailoringParts) (earlier ids : List ℕ) (id : ℕ) → AllStand (numeric_fault t) earlier ids → is_among ids id ≡ false → numeric_fault t earlier id ≡ None
    → AllStand (numeric_fault t) earlier (ids ++ id ∷ [])
stands-last t earlier [] id h e f = (f, tt)
stands-last t earlier (x ∷ xs) id h e f = (
  h.0,
  stands-last t (x ∷ earlier) xs id h.1 (or-right-false (x == id) (is_among xs id) e)
      (stands-others t earlier (x ∷ earlier) id f (λ g. or-falses (x == id) (is_among earlier id) (or-left-false (x == id) (is_among xs id) e) g)),
)

-- with fewer IDs
stands-fewer-by : (t : TailoringParts) (f : Member → Bool) (earlier others : List ℕ) (xs : List Member) → AllStand (numeric_fault t) earlier (params_of xs)
    → ((id : ℕ) → is_among earlier id ≡ false → is_among others id ≡ false) → AllStand (numeric_fault t) others (params_of (filter f xs))
stands-fewer-by t f earlier others [] h g = tt
stands-fewer-by t f earlier others (x ∷ xs) h g =
    go (f x) (stands-fewer-by t f (x.param ∷ earlier) (x.param ∷ others) xs h.1 more) (stands-fewer-by t f (x.param ∷ earlier) others xs h.1 less)
  where
    less : (id : ℕ) → is_among (x.param ∷ earlier) id ≡ false → is_among others id ≡ false
    less id e = g id (or-right-false (x.param == id) (is_among earlier id) e)

    more : (id : ℕ) → is_among (x.param ∷ earlier) id ≡ false → is_among (x.param ∷ others) id ≡ false
    more id e = or-falses (x.param == id) (is_among others id) (or-left-false (x.param == id) (is_among earlier id) e) (less id e)

    go : (b : Bool) → AllStand (numeric_fault t) (x.param ∷ others) (params_of (filter f xs)) → AllStand (numeric_fault t) others (params_of (filter f xs))
        → AllStand (numeric_fault t) others (params_of (if b then x ∷ filter f xs else filter f xs))
    go true with_it without = (stands-others t earlier others x.param h.0 (g x.param), with_it)
    go false with_it without = without

pub stands-fewer : (t : TailoringParts) (f : Member → Bool) (xs : List Member) → AllStand (numeric_fault t) [] (params_of xs) → AllStand (numeric_fault t) [] (params_of (filter f xs))
stands-fewer t f xs h = stands-fewer-by t f [] [] xs h (λ id e. e)

pub length-fewer : (f : Member → Bool) (xs : List Member) → length (params_of (filter f xs)) ≤ length (params_of xs)
length-fewer f [] = omega arith
length-fewer f (x ∷ xs) = go (f x) (length-fewer f xs)
  where
    go : (b : Bool) → length (params_of (filter f xs)) ≤ length (params_of xs) → length (params_of (if b then x ∷ filter f xs else filter f xs)) ≤ suc (length (params_of xs))
    go true h = omega (arith, h)
    go false h = omega (arith, h)

pub params-append : (xs ys : List Member) → params_of (xs ++ ys) ≡ params_of xs ++ params_of ys
params-append [] ys = refl
params-append (x ∷ xs) ys = ap (λ l. x.param ∷ l) (params-append xs ys)
