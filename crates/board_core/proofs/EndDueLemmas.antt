-- What is due at the end of a slot, and the draft of it.
use Rattle.std.proofs.Common.{arith, ◌≡◌, ℕ, zero, suc, ◌+◌, ◌<◌, ◌≤◌, max, refl, sym, ◌∙◌, ap, ap₂, subst, List, [], ◌∷◌, ◌++◌, length, map, take, Bool, true, false, ◌&&◌, ◌||◌, nat_lt, Ok, Err}
use Rattle.std.specs.Prelude.{filter, cond, if◌then◌else◌}
use Rattle.std.specs.List.{AllByRecursion}
use Rattle.std.proofs.lemmas.Bool.Decides.{nat_tests}
use Rattle.hk_base.specs.Fit.{greatest_tag}
use Rattle.hk_base.specs.declared.types.Key.{Key}
use Rattle.hk_world.proofs.OrderLemmas.{true_is_not_false}
use Rattle.board_steps.specs.Cores.{Core, last_tag, next_tag}
use Rattle.board_steps.specs.Plans.{Topic, samples_of, statistics, settables, every_key, is_reported, due_topics, tags_left, prepared, planned}
use Rattle.board_steps.specs.Slots.{is_statistics_due}
use Rattle.board_steps.specs.Steps.{Answers, is_full, is_late}
use Rattle.board_steps.specs.declared.event.BoardFault.{BoardFault}
use Rattle.board_steps.specs.declared.event.BoardFault.TheVariants.{JournalFull, TimeExhausted, Memory}
use Rattle.board_steps.specs.declared.event.Event.TheVariants.{CloseSlot}
use Rattle.board_core.specs.Closing.{end_clock, IsDraftedTo, IsTelling, HasTime, AnswersOpening}
use Rattle.board_core.specs.Logs as logs
use Rattle.board_core.specs.Logs.{AnswersDraft, drafted}
use Rattle.board_core.specs.Planned.{log_of, IsPlanned, AnswersPlan}
use Rattle.board_core.specs.declared.log.Draft.{Draft}
use Rattle.board_core.proofs.EndLemmas.{telling-count}

less-suc : (a n : ℕ) → nat_lt (suc a) (suc n) ≡ nat_lt a n
less-suc a n = grind (arith, nat_tests)

not-less : (a : ℕ) → nat_lt a 0 ≡ false
not-less a = grind (arith, nat_tests)

some-less : (n : ℕ) → nat_lt 0 (suc n) ≡ true
some-less n = grind (arith, nat_tests)

no-more : (n : ℕ) → take {A = Topic} n [] ≡ []
no-more zero = refl
no-more (suc n) = refl

-- the first of the reports: those of structures, and that of the statistics where one is left
pub due-taken : (n : ℕ) (keys : List Key) (b : Bool) → take n (map samples_of keys ++ (if b then statistics ∷ [] else []))
    ≡ map samples_of (take n keys) ++ (if nat_lt (length keys) n && b then statistics ∷ [] else [])
due-taken zero keys b = sym (ap (λ x. if x && b then statistics ∷ [] else []) (not-less (length keys)))
due-taken (suc n) [] true = ap (λ (xs : List Topic). statistics ∷ xs) (no-more n) ∙ sym (ap (λ x. if x && true then statistics ∷ [] else []) (some-less n))
due-taken (suc n) [] false = sym (ap (λ x. if x && false then statistics ∷ [] else []) (some-less n))
due-taken (suc n) (key ∷ keys) b =
    ap (λ (xs : List Topic). samples_of key ∷ xs) (due-taken n keys b)
    ∙ ap (λ x. map samples_of (take (suc n) (key ∷ keys)) ++ (if x && b then statistics ∷ [] else [])) (sym (less-suc (length keys) n))

pub all-take : {X : Type 0} (P : X → Type 0) (n : ℕ) (xs : List X) → AllByRecursion P xs → AllByRecursion P (take n xs)
all-take P zero xs h = tt
all-take P (suc n) [] h = tt
all-take P (suc n) (x ∷ xs) h = (h.0, all-take P n xs h.1)

pub all-passed : (test : Key → Bool) (keys : List Key) → AllByRecursion (λ key. test key ≡ true) (filter test keys)
all-passed test [] = tt
all-passed test (key ∷ keys) = go (test key) refl (all-passed test keys)
  where
    go : (b : Bool) → test key ≡ b → AllByRecursion (λ k. test k ≡ true) (filter test keys) → AllByRecursion (λ k. test k ≡ true) (cond b (key ∷ filter test keys) (filter test keys))
    go true e rest = (e, rest)
    go false e rest = rest

pub take-most : {X : Type 0} (n : ℕ) (xs : List X) → length (take n xs) ≤ n
take-most zero xs = omega arith
take-most (suc n) [] = omega arith
take-most (suc n) (x ∷ xs) = omega (arith, take-most n xs)

-- the reports that are due, by what is held
pub due-so : (c : Core) (n : ℕ) (keys taken : List Key) (x : Bool) → n ≡ tags_left (prepared c CloseSlot) → keys ≡ filter (is_reported c) (every_key c.tailoring) → taken ≡ take n keys
    → x ≡ (nat_lt (length keys) n && is_statistics_due c)
    → map samples_of taken ++ (if x then statistics ∷ [] else []) ≡ take (tags_left (prepared c CloseSlot)) (due_topics c)
due-so c n keys taken x e1 e2 e3 e4 =
    ap₂ (λ (ks : List Key) (h : Bool). map samples_of ks ++ (if h then statistics ∷ [] else [])) e3 e4 ∙ sym (due-taken n keys (is_statistics_due c))
    ∙ ap₂ (λ m (ks : List Key). take m (map samples_of ks ++ (if is_statistics_due c then statistics ∷ [] else []))) e1 e2

less-is : (a b : ℕ) → a < b → nat_lt a b ≡ true
less-is a b h = grind (arith, nat_tests, h)

pub less-isnt : (a b : ℕ) → b ≤ a → nat_lt a b ≡ false
less-isnt a b h = grind (arith, nat_tests, h)

-- whether the statistics are reported: where a tag is left
pub left-due : (len n : ℕ) (b x : Bool) → len < n → x ≡ b → x ≡ (nat_lt len n && b)
left-due len n b x lt e = e ∙ sym (ap (λ y. y && b) (less-is len n lt))

pub none-due : (len n : ℕ) (b x : Bool) → n ≤ len → x ≡ false → x ≡ (nat_lt len n && b)
none-due len n b x le e = e ∙ sym (ap (λ y. y && b) (less-isnt len n le))

-- how many moments are planned at the end of a slot
pub closing-count : (c : Core) → length (planned c CloseSlot) ≡ length (settables c.tailoring) + length (take (tags_left (prepared c CloseSlot)) (due_topics c))
closing-count c = telling-count c (take (tags_left (prepared c CloseSlot)) (due_topics c))

left-false : (a b : Bool) → (a || (true && b)) ≡ false → a ≡ false
left-false false b e = refl
left-false true b e = e

right-false : (a b : Bool) → (a || (true && b)) ≡ false → b ≡ false
right-false false b e = e
right-false true b e = absurd (true_is_not_false e)

in-time : (n tag most : ℕ) → (nat_lt 0 n && nat_lt (most + 1) (tag + n)) ≡ false → tag ≤ most + 1 → tag + n ≤ most + 1
in-time zero tag most e le = omega (arith, le)
in-time (suc n) tag most e le =
    let f : nat_lt (most + 1) (tag + suc n) ≡ false = sym (ap (λ b. b && nat_lt (most + 1) (tag + suc n)) (some-less n)) ∙ e in
    grind (arith, nat_tests, f)

not-above : (a b : ℕ) → nat_lt a b ≡ false → b ≤ a
not-above a b e = grind (arith, nat_tests, e)

-- there is room and time for it
pub has-time : (c : Core) (d : Draft) → IsDraftedTo c [] d → is_full c CloseSlot ≡ false → is_late c CloseSlot ≡ false → HasTime c (length (planned c CloseSlot))
has-time c d h room time =
    let n : ℕ = length (planned c CloseSlot) in
    let a : Bool = nat_lt 0 (length (planned c CloseSlot)) && nat_lt (greatest_tag c.tailoring + 1) (next_tag (end_clock c) c.moments + length (planned c CloseSlot)) in
    let clock : end_clock c ≤ greatest_tag c.tailoring =
    not-above (greatest_tag c.tailoring) (end_clock c) (right-false a (nat_lt (greatest_tag c.tailoring) (end_clock c)) time) in
    let last : d.last_tag ≡ last_tag c.moments = h.draft.last_is ∙ ap last_tag h.moments in
    let fit : d.last_tag ≤ greatest_tag c.tailoring = h.draft.fit in
    let here : next_tag (end_clock c) c.moments ≤ greatest_tag c.tailoring + 1 = first (end_clock c) (last_tag c.moments) (greatest_tag c.tailoring) clock (subst (λ k. k ≤ greatest_tag c.tailoring) last fit) in
    record {
      room = not-above 1048576 (length c.moments + length (planned c CloseSlot)) room;
      time = in-time (length (planned c CloseSlot)) (next_tag (end_clock c) c.moments) (greatest_tag c.tailoring) (left-false a (nat_lt (greatest_tag c.tailoring) (end_clock c)) time) here;
    }
  where
    first : (clock last most : ℕ) → clock ≤ most → last ≤ most → max clock (last + 1) ≤ most + 1
    first clock last most p q = omega (arith, p, q)

pub time-for : (c : Core) (n m : ℕ) → m ≤ n → HasTime c n → HasTime c m
time-for c n m le h = record { room = let a = h.room in omega (arith, a, le); time = let b = h.time in omega (arith, b, le) }

-- the draft of a closed slot
pub closing-drafted : (c : Core) (d : Draft) → is_full c CloseSlot ≡ false → is_late c CloseSlot ≡ false → IsTelling c (take (tags_left (prepared c CloseSlot)) (due_topics c)) d → IsPlanned c CloseSlot d
closing-drafted c d room time h = record { room = room; time = time; draft = h.draft; count = h.count; moments = h.moments }

or-true : (a : Bool) → (a || true) ≡ true
or-true true = refl
or-true false = refl

or-none : (a : Bool) → (a || false) ≡ a
or-none true = refl
or-none false = refl

above : (a b : ℕ) → a < b → nat_lt a b ≡ true
above a b h = grind (arith, nat_tests, h)

below : (a b : ℕ) → b ≤ a → nat_lt a b ≡ false
below a b h = grind (arith, nat_tests, h)

-- the draft for what is planned, with its clock at the end of the slot
module _ (c : Core) (clock count : ℕ) (at : clock ≡ end_clock c) (is : count ≡ length (planned c CloseSlot)) where
  full-is : logs.is_full (log_of c) count ≡ is_full c CloseSlot
  full-is = ap (λ n. nat_lt 1048576 (length c.moments + n)) is

  late-is : (logs.is_late (log_of c) clock count || nat_lt (greatest_tag c.tailoring) clock) ≡ is_late c CloseSlot
  late-is =
      ap₂ (λ k n. (nat_lt 0 n && nat_lt (greatest_tag c.tailoring + 1) (next_tag k c.moments + n)) || nat_lt (greatest_tag c.tailoring) k) at is

  pub opened : (d : Draft) → AnswersDraft (log_of c) clock count (Ok d) → clock ≤ greatest_tag c.tailoring → AnswersOpening c (Ok d)
  opened d h le = (
    sym full-is ∙ h.0,
    sym late-is ∙ ap₂ (λ a b. a || b) h.1 (below (greatest_tag c.tailoring) clock le),
    record { draft = h.2; clock_is = h.4 ∙ at; count = ap length h.3; moments = ap (drafted (log_of c)) h.3 },
  )

  pub opened-late : (d : Draft) → AnswersDraft (log_of c) clock count (Ok d) → greatest_tag c.tailoring < clock → AnswersOpening c (Err TimeExhausted)
  opened-late d h lt = (
    sym full-is ∙ h.0,
    sym late-is ∙ ap (λ b. logs.is_late (log_of c) clock count || b) (above (greatest_tag c.tailoring) clock lt) ∙ or-true (logs.is_late (log_of c) clock count),
  )

  pub not-opened : (fault : BoardFault) → AnswersDraft (log_of c) clock count (Err fault) → AnswersOpening c (Err fault)
  not-opened JournalFull h = sym full-is ∙ h
  not-opened TimeExhausted h = (sym full-is ∙ h.0, sym late-is ∙ ap (λ a. a || nat_lt (greatest_tag c.tailoring) clock) h.1)
  not-opened Memory h = tt

-- why there is no draft
pub opening-fails : (c : Core) (fault : BoardFault) → AnswersOpening c (Err fault) → AnswersPlan c CloseSlot (Err fault)
opening-fails c JournalFull h = h
opening-fails c TimeExhausted h = h
opening-fails c Memory h = tt

-- why a slot isn't closed
pub not-closed : (c : Core) (fault : BoardFault) → AnswersPlan c CloseSlot (Err fault) → Answers c CloseSlot c (Err fault)
not-closed c JournalFull h = (h, refl)
not-closed c TimeExhausted h = (h.0, h.1, refl)
not-closed c Memory h = refl

-- the journal has room for what is drafted
pub planned-room : (c : Core) (d : Draft) → IsPlanned c CloseSlot d → length c.moments + length d.moments.items ≤ 1048576
planned-room c d plan =
    let room = not-above 1048576 (length c.moments + length (planned c CloseSlot)) plan.room in
    let count = plan.count in
    omega (arith, room, count)
