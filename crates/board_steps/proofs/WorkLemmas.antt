-- The work on a request: its next act is one that may come, and so is the report that it orders.
use Rattle.std.proofs.Common.{arith, ◌≡◌, ℕ, zero, suc, ◌+◌, ◌-◌, ◌<◌, ◌≤◌, refl, sym, ◌∙◌, ap, subst, List, [], ◌∷◌, ◌++◌, length, map, cond, Bool, true, false, ◌==◌, Option, Some, None, ◌⊎◌, inl, inr}
use Rattle.std.specs.Prelude.{⊤, IsSome, IsNone, is_some, is_none, find, slice_get, option_and_then, if◌then◌else◌}
use Rattle.std.specs.List.{AllByRecursion, range_with_len}
use Rattle.std.specs.Option.{option_map_or}
use Rattle.std.proofs.lemmas.Option.{same_Some, none-some}
use Rattle.std.proofs.lemmas.Bool.Decides.{Decides-eqb, nat_tests}
use Rattle.hk_base.specs.Fit.{greatest_tag}
use Rattle.hk_base.proofs.Membership.{AllByRecursion-append}
use Rattle.hk_base.specs.declared.types.Key.{Key}
use Rattle.st03_grammar.specs.Instructions.{StructureChange, plain}
use Rattle.st03_grammar.specs.declared.bodies.Each.TheVariants.{Show, ShowPeriodic}
use Rattle.st04_grammar.specs.Instructions.{StatisticsChange, report, show_definitions}
use Rattle.pus_messages.specs.Instructions.{Instruction, on_structure, on_statistics, report_values, set_values, instructions, instruction}
use Rattle.pus_messages.specs.declared.message.Request.{Request}
use Rattle.hk_world.specs.States.{refusal}
use Rattle.hk_world.specs.Timelines.{Session, tailoring, Done, request_at, instructions_at, instruction_at, last_act, state_after}
use Rattle.hk_world.specs.Legal.{HandlesNext, MayFollow, is_pending, IsInOrder, IsLegal, refused_numbers}
use Rattle.hk_world.specs.declared.moment.Moment.{Moment}
use Rattle.hk_world.specs.declared.moment.Act.{Act}
use Rattle.hk_world.specs.declared.moment.Act.TheVariants.{Accepted, TurnedAway, Started, NotStarted, Executed, Completed, Emitted, Filed}
use Rattle.hk_world.proofs.OrderLemmas.{true_is_not_false}
use Rattle.hk_world.proofs.TimelineLemmas.{at}
use Rattle.hk_world.proofs.RequestLemmas.{IsOf, in_order-of, last_act-in, is_late, accepted-next}
use Rattle.hk_world.proofs.OutcomeLemmas.{executed-number}
use Rattle.board_steps.specs.Cores.{next_tag}
use Rattle.board_steps.specs.Plans.{Topic, samples_of, structure_of, properties_of, statistics, definitions, values_of, does, tells, structure_topics, statistics_topics, ordered_topics, is_barred, execution, next_acts, done_of, topics_of}
use Rattle.board_steps.specs.Steps.{AreNext}
use Rattle.board_steps.proofs.TimeLemmas.{IsGood, timeline-legal, next-tag-more}
use Rattle.board_steps.proofs.NextLemmas.{MayDo, IsTimely, does-next, tells-next}

-- the first number that passes a test
pub find-range : (f : ℕ → Bool) (a n k : ℕ) → find f (range_with_len a n) ≡ Some k → (f k ≡ true) × (k < a + n) × ((j : ℕ) → a ≤ j → j < k → f j ≡ false)
find-range f a zero k e = absurd (none-some k e)
find-range f a (suc n) k e = go (f a) refl (find-range f (a + 1) n k)
  where
    go : (b : Bool) → f a ≡ b
        → (find f (range_with_len (a + 1) n) ≡ Some k → (f k ≡ true) × (k < (a + 1) + n) × ((j : ℕ) → a + 1 ≤ j → j < k → f j ≡ false))
        → (f k ≡ true) × (k < a + suc n) × ((j : ℕ) → a ≤ j → j < k → f j ≡ false)
    go true h ih =
        let own : Some a ≡ Some k = sym (ap (λ b. cond b (Some a) (find f (range_with_len (a + 1) n))) h) ∙ e in
        let same : a ≡ k = same_Some a k own in
        (subst (λ x. f x ≡ true) same h, omega (arith, same), λ j low high. absurd (omega (arith, same, low, high)))
    go false h ih =
        let r = ih (sym (ap (λ b. cond b (Some a) (find f (range_with_len (a + 1) n))) h) ∙ e) in
        (r.0, omega (arith, r.1), λ j low high. later r.2 j low high (a == j) refl)
      where
        later : ((j : ℕ) → a + 1 ≤ j → j < k → f j ≡ false) → (j : ℕ) → a ≤ j → j < k → (b : Bool) → (a == j) ≡ b → f j ≡ false
        later rest j low high true q = subst (λ x. f x ≡ false) ((Decides-eqb a j).0 q) h
        later rest j low high false q = rest j (grind (arith, nat_tests)) high

-- a member at a place within a list
pub place-there : {X : Type 0} (xs : List X) (i : ℕ) → i < length xs → (x : X) × (slice_get xs i ≡ Some x)
place-there [] i h = absurd (omega (arith, h))
place-there (x ∷ xs) zero h = (x, refl)
place-there (x ∷ xs) (suc i) h = place-there xs i (omega (arith, h))

-- what isn't some is none
none-left : {X : Type 0} (o : Option X) → is_some o ≡ false → IsNone o
none-left None e = refl
none-left (Some x) e = absurd (true_is_not_false e)

-- a request that is worked on, of which something was done
module _ (s : Session) (slot : ℕ) (moments : List Moment) (g : IsGood s slot moments) (k : ℕ) (known : k < length s.requests)
    (turn : (j : ℕ) → j < k → is_pending (last_act j moments) ≡ false)
    (some : (r : Request) → request_at s k ≡ Some r → 1 ≤ length (instructions r)) where
  legal : IsLegal s moments
  legal = timeline-legal s moments g.timeline

  -- a request with a next act that isn't its first is one
  is-request : (next : Act) → MayFollow (length (instructions_at s k)) (last_act k moments) next → is_late next ≡ true
      → (r : Request) × (request_at s k ≡ Some r)
  is-request next f l =
      let a = accepted-next s k moments legal next f l in
      let place = at s moments legal a.0 a.1 in
      let h : HandlesNext s place.earlier (Accepted k) = subst (HandlesNext s place.earlier) a.2 place.handling in
      go (request_at s k) refl h.1
    where
      go : (o : Option Request) → request_at s k ≡ o → IsSome (request_at s k) → (r : Request) × (request_at s k ≡ Some r)
      go (Some r) e h = (r, e)
      go None e h = absurd (true_is_not_false (sym h ∙ ap is_some e))

  -- the number of an instruction names one
  instruction-there : (r : Request) → request_at s k ≡ Some r → (number : ℕ) → 1 ≤ number → number ≤ length (instructions_at s k)
      → (x : Instruction) × (instruction_at s k number ≡ Some x)
  instruction-there r e number low high =
      let count : length (instructions_at s k) ≡ length (instructions r) = ap (λ o. length (option_map_or instructions o [])) e in
      let p = place-there (instructions r) (number - 1) (omega (arith, low, high, count)) in
      (p.0, ap (λ o. option_and_then (λ y. instruction y number) o) e ∙ p.1)

  -- an instruction that is executed next
  may-execute : (number : ℕ) → MayFollow (length (instructions_at s k)) (last_act k moments) (execution s moments k number) → 1 ≤ number
      → number ≤ length (instructions_at s k) → MayDo s slot moments (execution s moments k number)
  may-execute number follows low high =
      let r = is-request (execution s moments k number) follows refl in
      let x = instruction-there r.0 r.1 number low high in
      record {
        handling = tt;
        order = record { order = follows; turn = λ b. absurd (true_is_not_false (sym b)) };
        outcome = (x.0, x.1, ap (λ o. option_map_or (λ y. is_none (refusal (tailoring s) (state_after s moments) y)) o false) x.1);
        sample = tt;
        below = known;
        filed = tt;
      }

  -- the one instruction of a request that is barred
  barred : (xs : List Instruction) → is_barred s moments xs ≡ true → (x : Instruction) × (xs ≡ x ∷ []) × IsSome (refusal (tailoring s) (state_after s moments) x)
  barred [] e = absurd (true_is_not_false (sym e))
  barred (x ∷ []) e = (x, refl, e)
  barred (x ∷ y ∷ xs) e = absurd (true_is_not_false (sym e))

  -- the first act of a request that was accepted
  may-begin : (j : ℕ) → last_act k moments ≡ Some (Accepted j) → (b : Bool) → is_barred s moments (instructions_at s k) ≡ b
      → MayDo s slot moments (if b then NotStarted k else Started k)
  may-begin j last true e =
      record {
        handling = tt;
        order = record { order = subst (λ o. MayFollow (length (instructions_at s k)) o (NotStarted k)) (sym last) tt; turn = λ b. turn };
        outcome = barred (instructions_at s k) e;
        sample = tt;
        below = known;
        filed = tt;
      }
  may-begin j last false e =
      record {
        handling = tt;
        order = record { order = subst (λ o. MayFollow (length (instructions_at s k)) o (Started k)) (sym last) tt; turn = λ b. turn };
        outcome = λ x alone. none-left (refusal (tailoring s) (state_after s moments) x) (sym (ap (is_barred s moments) alone) ∙ e);
        sample = tt;
        below = known;
        filed = tt;
      }

  -- the first instruction
  may-execute-first : (j : ℕ) → last_act k moments ≡ Some (Started j) → MayDo s slot moments (execution s moments k 1)
  may-execute-first j last =
      let follows : (n : ℕ) → 1 ≤ n → MayFollow n (last_act k moments) (execution s moments k 1) = λ n low. subst (λ o. MayFollow n o (execution s moments k 1)) (sym last) (refl, low) in
      let r = started-request in
      let count : length (instructions_at s k) ≡ length (instructions r.0) = ap (λ o. length (option_map_or instructions o [])) r.1 in
      let low : 1 ≤ length (instructions_at s k) = omega (arith, count, some r.0 r.1) in
      may-execute 1 (follows (length (instructions_at s k)) low) (omega arith) low
    where
      started-request : (r : Request) × (request_at s k ≡ Some r)
      started-request =
          let m = last_act-in k moments (Started j) last in
          let place = at s moments legal m.0 m.1 in
          let number : IsOf k m.0.act = subst (IsOf k) (sym m.2) m.3 in
          let before : IsInOrder s place.earlier m.0.act k = in_order-of s k place.earlier m.0.act place.order number in
          let a = accepted-next s k place.earlier place.legal m.0.act before.order (ap is_late m.2) in
          let first = at s place.earlier place.legal a.0 a.1 in
          let h : HandlesNext s first.earlier (Accepted k) = subst (HandlesNext s first.earlier) a.2 first.handling in
          go (request_at s k) refl h.1
        where
          go : (o : Option Request) → request_at s k ≡ o → IsSome (request_at s k) → (r : Request) × (request_at s k ≡ Some r)
          go (Some r) e h = (r, e)
          go None e h = absurd (true_is_not_false (sym h ∙ ap is_some e))

  -- an act after an execution
  may-go-on : (j last : ℕ) (flag : Bool) → last_act k moments ≡ Some (Executed j last flag) → (b : Bool) → (last == length (instructions_at s k)) ≡ b
      → MayDo s slot moments (if b then Completed k (refused_numbers k moments) else execution s moments k (last + 1))
  may-go-on j last flag e true q =
      record {
        handling = tt;
        order = record {
          order = subst (λ o. MayFollow (length (instructions_at s k)) o (Completed k (refused_numbers k moments))) (sym e) ((Decides-eqb last (length (instructions_at s k))).0 q);
          turn = λ b. absurd (true_is_not_false (sym b));
        };
        outcome = refl;
        sample = tt;
        below = known;
        filed = tt;
      }
  may-go-on j last flag e false q =
      let m = last_act-in k moments (Executed j last flag) e in
      let number : j ≡ k = same_Some j k m.3 in
      let bounds = executed-number s k last flag moments legal m.0 m.1 (m.2 ∙ ap (λ n. Executed n last flag) number) in
      let most : last ≤ length (instructions_at s k) = bounds.1 in
      let high : last + 1 ≤ length (instructions_at s k) = grind (arith, nat_tests) in
      may-execute (last + 1)
      (subst (λ o. MayFollow (length (instructions_at s k)) o (execution s moments k (last + 1))) (sym e) (refl, high))
      (omega arith) high

-- a report that an instruction orders is no parameter report
abbrev pub IsOrdered : Topic → Type 0
IsOrdered (samples_of key) = ⊥
IsOrdered _ = ⊤

structure-ordered : (key : Key) (change : StructureChange) → AllByRecursion IsOrdered (structure_topics key change)
structure-ordered key (plain Show) = (tt, tt)
structure-ordered key (plain ShowPeriodic) = (tt, tt)
structure-ordered key change = tt

statistics-ordered : (change : StatisticsChange) → AllByRecursion IsOrdered (statistics_topics change)
statistics-ordered (report resets) = (tt, tt)
statistics-ordered show_definitions = (tt, tt)
statistics-ordered change = tt

instruction-ordered : (x : Instruction) → AllByRecursion IsOrdered (ordered_topics x)
instruction-ordered (on_structure key change) = structure-ordered key change
instruction-ordered (on_statistics change) = statistics-ordered change
instruction-ordered (report_values ids) = (tt, tt)
instruction-ordered (set_values settings) = tt

pub all-ordered : (done : List Done) → AllByRecursion IsOrdered (topics_of done)
all-ordered [] = tt
all-ordered (d ∷ done) = AllByRecursion-append IsOrdered (ordered_topics d.instruction) (topics_of done) (instruction-ordered d.instruction) (all-ordered done)

ordered-timely : (s : Session) (slot : ℕ) (earlier : List Moment) (tag : ℕ) (topic : Topic) → IsOrdered topic → IsTimely s slot earlier tag topic
ordered-timely s slot earlier tag (samples_of key) h = absurd h
ordered-timely s slot earlier tag (structure_of key) h = tt
ordered-timely s slot earlier tag (properties_of key) h = tt
ordered-timely s slot earlier tag statistics h = tt
ordered-timely s slot earlier tag definitions h = tt
ordered-timely s slot earlier tag (values_of ids) h = tt

-- reports that are ordered come one after the other
ordered-next : (s : Session) (clock slot room : ℕ) (earlier after : List Moment) (topics : List Topic) → AllByRecursion IsOrdered topics → IsGood s room earlier
    → next_tag clock earlier + length (map tells topics) ≤ greatest_tag (tailoring s) + 1 → AreNext s clock slot earlier (map tells topics) after → IsGood s room after
ordered-next s clock slot room earlier after [] all g time h = subst (IsGood s room) (sym h) g
ordered-next s clock slot room earlier after (topic ∷ topics) all g time h =
    let more = next-tag-more clock earlier h.0 h.1.tag in
    let g2 = tells-next s clock slot room earlier topic h.0 g h.1 (omega (arith, time)) (ordered-timely s slot earlier h.0.tag topic all.0) in
    ordered-next s clock slot room (h.0 ∷ earlier) after topics all.1 g2 (omega (arith, time, more)) h.2

-- no act, or one that may be done
abbrev pub IsOneAct : Session → ℕ → List Moment → List Act → Type 0
IsOneAct s slot moments acts = (acts ≡ []) ⊎ ((act : Act) × (acts ≡ act ∷ []) × MayDo s slot moments act)

-- what is worked on comes, with the report that it orders
pub acts-next : (s : Session) (clock slot room tag : ℕ) (moments after : List Moment) (acts : List Act) → IsGood s room moments → IsOneAct s room moments acts
    → next_tag clock moments + length (map does acts ++ map tells (topics_of (done_of s tag acts))) ≤ greatest_tag (tailoring s) + 1
    → AreNext s clock slot moments (map does acts ++ map tells (topics_of (done_of s tag acts))) after → IsGood s room after
acts-next s clock slot room tag moments after acts g (inl none) time h =
    let P : List Act → Type 0 = λ xs. AreNext s clock slot moments (map does xs ++ map tells (topics_of (done_of s tag xs))) after in
    subst (IsGood s room) (sym (subst P none h)) g
acts-next s clock slot room tag moments after acts g (inr one) time h =
    let P : List Act → Type 0 = λ xs. AreNext s clock slot moments (map does xs ++ map tells (topics_of (done_of s tag xs))) after in
    let T : List Act → Type 0 = λ xs. next_tag clock moments + length (map does xs ++ map tells (topics_of (done_of s tag xs))) ≤ greatest_tag (tailoring s) + 1 in
    let h2 = subst P one.1 h in
    let time2 = subst T one.1 time in
    let topics : List Topic = topics_of (done_of s tag (one.0 ∷ [])) in
    let more = next-tag-more clock moments h2.0 h2.1.tag in
    let g2 = does-next s clock slot room moments one.0 h2.0 g h2.1 (omega (arith, time2)) one.2 in
    ordered-next s clock slot room (h2.0 ∷ moments) after topics (all-ordered (done_of s tag (one.0 ∷ []))) g2 (omega (arith, time2, more)) h2.2

-- the next act of a request that is worked on may be done
pub one-act : (s : Session) (slot : ℕ) (moments : List Moment) → IsGood s slot moments → (k : ℕ) → k < length s.requests
    → ((j : ℕ) → j < k → is_pending (last_act j moments) ≡ false) → ((r : Request) → request_at s k ≡ Some r → 1 ≤ length (instructions r))
    → (o : Option Act) → last_act k moments ≡ o → IsOneAct s slot moments (next_acts s moments k o)
one-act s slot moments g k known turn some None e = inl refl
one-act s slot moments g k known turn some (Some (Accepted j)) e =
    inr ((if is_barred s moments (instructions_at s k) then NotStarted k else Started k), refl, may-begin s slot moments g k known turn some j e (is_barred s moments (instructions_at s k)) refl)
one-act s slot moments g k known turn some (Some (Started j)) e = inr (execution s moments k 1, refl, may-execute-first s slot moments g k known turn some j e)
one-act s slot moments g k known turn some (Some (Executed j last flag)) e =
    inr (
      (if last == length (instructions_at s k) then Completed k (refused_numbers k moments) else execution s moments k (last + 1)),
      refl,
      may-go-on s slot moments g k known turn some j last flag e (last == length (instructions_at s k)) refl,
    )
one-act s slot moments g k known turn some (Some (TurnedAway j)) e = inl refl
one-act s slot moments g k known turn some (Some (NotStarted j)) e = inl refl
one-act s slot moments g k known turn some (Some (Completed j refused)) e = inl refl
one-act s slot moments g k known turn some (Some Emitted) e = inl refl
one-act s slot moments g k known turn some (Some (Filed id x value)) e = inl refl
