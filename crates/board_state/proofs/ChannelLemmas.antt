-- What is held of the parameters, and what one moment more leaves of it.
use Rattle.std.proofs.Common.{arith, ◌≡◌, ℕ, zero, suc, ◌+◌, ◌-◌, ◌<◌, ◌≤◌, ℤ, refl, sym, ◌∙◌, ap, ap₂, subst, List, [], ◌∷◌, ◌++◌, length, drop, map, reverse, cond, Bool, true, false, ◌==◌, ◌&&◌, Option, Some, None, ◌⊎◌, inl, inr}
use Rattle.std.specs.Prelude.{⊤, IfSome, filter_map, find, is_some, option_map, option_and_then, if◌then◌else◌}
use Rattle.std.specs.List.{AllByRecursion, cons_option}
use Rattle.std.specs.Map.{lookup}
use Rattle.std.specs.Option.{option_or, option_map_or}
use Rattle.std.proofs.lemmas.Bool.{cases_lt, eq-eqb, ne_eqb}
use Rattle.std.proofs.lemmas.Bool.Decides.{Decides-eqb}
use Rattle.std.proofs.lemmas.List.{reverse-append, drop-append-le, length-append, length-drop, drop-drop}
use Rattle.circular_buffer.specs.Buffer.{Buffer, buffer, keep_last, last_item}
use Rattle.hk_base.specs.TailoringParts.{TailoringParts}
use Rattle.hk_base.specs.declared.types.Place.{Place}
use Rattle.sample_slots.specs.Windows.{AreRising}
use Rattle.sample_slots.specs.Windows as windows
use Rattle.pus_messages.specs.Instructions.{Instruction, on_structure, on_statistics, report_values, set_values}
use Rattle.st20_grammar.specs.declared.bodies.Setting.{Setting}
use Rattle.hk_world.specs.Timelines.{Session, tailoring, Done, done_by, done_at, done_instructions, first_some, set_value, filed_value, state_after}
use Rattle.hk_world.specs.declared.moment.Moment.{Moment}
use Rattle.hk_world.specs.declared.moment.Act.{Act}
use Rattle.hk_world.specs.declared.moment.Act.TheVariants.{Accepted, TurnedAway, Started, NotStarted, Executed, Completed, Emitted, Filed}
use Rattle.hk_world.specs.States.{BoardState}
use Rattle.board_steps.specs.Slots.{is_set, filed_at, sample_at}
use Rattle.board_steps.proofs.GrownLemmas.{AgreeOn, exchanged, state-agrees}
use Rattle.board_state.specs.Values.{slot_filed, filed_samples, IsChannel, AreValues, channel_at, change_channel, filed_channel, set_channel, with_settings}
use Rattle.board_state.specs.declared.channels.Channel.{Channel}

-- the value that a moment gives a parameter
abbrev pub value_told : Session → Moment → ℕ → Option ℤ
value_told s m id =
    if is_set (tailoring s) id then option_and_then (λ d. set_value id d.instruction) (done_at s m) else filed_value id m.act

or-assoc : {X : Type 0} (a b c : Option X) → option_or (option_or a b) c ≡ option_or a (option_or b c)
or-assoc None b c = refl
or-assoc (Some x) b c = refl

-- the value after one moment more
pub value-more : (s : Session) (m : Moment) (earlier : List Moment) (id : ℕ)
    → (state_after s (m ∷ earlier)).value id ≡ option_or (value_told s m id) ((state_after s earlier).value id)
value-more s m earlier id = go (is_set (tailoring s) id)
  where
    f : Done → Option ℤ
    f d = set_value id d.instruction

    older : Option ℤ
    older = first_some f (done_instructions s earlier)

    filed : Option ℤ
    filed = first_some (λ (e : Moment). filed_value id e.act) earlier

    done : (o : Option Done) → first_some f (cons_option o (done_instructions s earlier)) ≡ option_or (option_and_then f o) older
    done None = refl
    done (Some d) = refl

    go : (b : Bool) → option_or (if b then first_some f (done_instructions s (m ∷ earlier)) else first_some (λ (e : Moment). filed_value id e.act) (m ∷ earlier)) (s.initial.value id)
        ≡ option_or (if b then option_and_then f (done_at s m) else filed_value id m.act) (option_or (if b then older else filed) (s.initial.value id))
    go true = ap (λ o. option_or o (s.initial.value id)) (done (done_at s m)) ∙ or-assoc (option_and_then f (done_at s m)) older (s.initial.value id)
    go false = or-assoc (filed_value id m.act) filed (s.initial.value id)

-- the samples with those of one moment more
pub samples-more : (id : ℕ) (m : Moment) (earlier : List Moment) (sample : ℕ × ℤ) → slot_filed id m.act ≡ Some sample
    → filed_samples id (m ∷ earlier) ≡ filed_samples id earlier ++ sample ∷ []
samples-more id m earlier sample e =
    ap (λ o. reverse (cons_option o (filter_map (λ (x : Moment). slot_filed id x.act) earlier))) e
    ∙ reverse-append (sample ∷ []) (filter_map (λ (x : Moment). slot_filed id x.act) earlier)

pub samples-still : (id : ℕ) (m : Moment) (earlier : List Moment) → slot_filed id m.act ≡ None → filed_samples id (m ∷ earlier) ≡ filed_samples id earlier
samples-still id m earlier e = ap (λ o. reverse (cons_option o (filter_map (λ (x : Moment). slot_filed id x.act) earlier))) e

-- the latest samples with one more are the latest of all
pub keep-more : {X : Type 0} (n : ℕ) (xs : List X) (x : X) → keep_last n (keep_last n xs ++ x ∷ []) ≡ keep_last n (xs ++ x ∷ [])
keep-more {X} n xs x =
    let k : ℕ = length xs - n in
    let same : drop k xs ++ x ∷ [] ≡ drop k (xs ++ x ∷ []) = sym (drop-append-le k xs (x ∷ []) (omega arith)) in
    let len : length (xs ++ x ∷ []) ≡ length xs + 1 = length-append xs (x ∷ []) in
    let left : length (drop k (xs ++ x ∷ [])) ≡ length (xs ++ x ∷ []) - k = length-drop k (xs ++ x ∷ []) in
    let all : k + (length (drop k (xs ++ x ∷ [])) - n) ≡ length (xs ++ x ∷ []) - n = omega (arith, len, left) in
    ap (λ ys. drop (length ys - n) ys) same ∙ drop-drop (length (drop k (xs ++ x ∷ [])) - n) k (xs ++ x ∷ []) ∙ ap (λ i. drop i (xs ++ x ∷ [])) all

pub rising-pushed : (xs : List (ℕ × ℤ)) (x : ℕ × ℤ) → AreRising xs → AllByRecursion (λ (y : ℕ × ℤ). y.0 < x.0) xs → AreRising (xs ++ x ∷ [])
rising-pushed [] x rising before = (tt, tt)
rising-pushed (a ∷ xs) x rising before = (above xs rising.0, rising-pushed xs x rising.1 before.1)
  where
    above : (ys : List (ℕ × ℤ)) → AllByRecursion (λ (later : ℕ × ℤ). a.0 < later.0) ys → AllByRecursion (λ (later : ℕ × ℤ). a.0 < later.0) (ys ++ x ∷ [])
    above [] h = (before.0, tt)
    above (y ∷ ys) h = (h.0, above ys h.1)

-- where no moment files a sample of a slot or a later one, each sample is before it
pub are-before : (id slot : ℕ) (moments : List Moment) → AllByRecursion (λ m. IfSome (slot_filed id m.act) (λ x. x.0 < slot)) moments
    → AllByRecursion (λ (y : ℕ × ℤ). y.0 < slot) (filed_samples id moments)
are-before id slot [] h = tt
are-before id slot (m ∷ earlier) h = go (slot_filed id m.act) refl h.0 (are-before id slot earlier h.1)
  where
    pushed : (xs : List (ℕ × ℤ)) (x : ℕ × ℤ) → AllByRecursion (λ (y : ℕ × ℤ). y.0 < slot) xs → x.0 < slot → AllByRecursion (λ (y : ℕ × ℤ). y.0 < slot) (xs ++ x ∷ [])
    pushed [] x a b = (b, tt)
    pushed (y ∷ ys) x a b = (a.0, pushed ys x a.1 b)

    go : (o : Option (ℕ × ℤ)) → slot_filed id m.act ≡ o → IfSome o (λ x. x.0 < slot) → AllByRecursion (λ (y : ℕ × ℤ). y.0 < slot) (filed_samples id earlier)
        → AllByRecursion (λ (y : ℕ × ℤ). y.0 < slot) (filed_samples id (m ∷ earlier))
    go None e k rest = subst (AllByRecursion (λ (y : ℕ × ℤ). y.0 < slot)) (sym (samples-still id m earlier e)) rest
    go (Some x) e k rest = subst (AllByRecursion (λ (y : ℕ × ℤ). y.0 < slot)) (sym (samples-more id m earlier x e)) (pushed (filed_samples id earlier) x rest k)

-- a moment that gives a parameter no value and no sample leaves what is held of it
pub channel-still : (s : Session) (m : Moment) (earlier : List Moment) (id : ℕ) (c : Channel) → value_told s m id ≡ None → slot_filed id m.act ≡ None
    → IsChannel s earlier id c → IsChannel s (m ∷ earlier) id c
channel-still s m earlier id c e f h =
    record {
      settable = h.settable;
      value = h.value ∙ sym (value-more s m earlier id ∙ ap (λ o. option_or o ((state_after s earlier).value id)) e);
      window = h.window ∙ ap (λ xs. buffer (keep_last (tailoring s).widths.max_interval xs) (tailoring s).widths.max_interval) (sym (samples-still id m earlier f));
      rises = subst AreRising (sym (samples-still id m earlier f)) h.rises;
    }

-- a moment that gives no values and no samples
pub record IsValueless (s : Session) (m : Moment) : Type 0 where
  pub value : (id : ℕ) → value_told s m id ≡ None
  pub sample : (id : ℕ) → slot_filed id m.act ≡ None

-- leaves all that is held of the parameters
pub values-still : (s : Session) (m : Moment) (earlier : List Moment) (channels : List (ℕ × Channel)) → IsValueless s m → AreValues s earlier channels → AreValues s (m ∷ earlier) channels
values-still s m earlier channels none h = record { ids = h.ids; each = go channels h.each }
  where
    go : (cs : List (ℕ × Channel)) → AllByRecursion (λ e. IsChannel s earlier e.0 e.1) cs → AllByRecursion (λ e. IsChannel s (m ∷ earlier) e.0 e.1) cs
    go [] k = tt
    go (e ∷ cs) k = (channel-still s m earlier e.0 e.1 (none.value e.0) (none.sample e.0) k.0, go cs k.1)

-- an act that is no filing
abbrev pub IsNoFiling : Act → Type 0
IsNoFiling (Filed id slot v) = ⊥
IsNoFiling _ = ⊤

pub filing-none : (id : ℕ) (act : Act) → IsNoFiling act → slot_filed id act ≡ None
filing-none id (Filed param slot v) h = absurd h
filing-none id (Accepted k) h = refl
filing-none id (TurnedAway k) h = refl
filing-none id (Started k) h = refl
filing-none id (NotStarted k) h = refl
filing-none id (Executed k number flag) h = refl
filing-none id (Completed k refused) h = refl
filing-none id Emitted h = refl

pub value-none : (id : ℕ) (act : Act) → IsNoFiling act → filed_value id act ≡ None
value-none id (Filed param slot v) h = absurd h
value-none id (Accepted k) h = refl
value-none id (TurnedAway k) h = refl
value-none id (Started k) h = refl
value-none id (NotStarted k) h = refl
value-none id (Executed k number flag) h = refl
value-none id (Completed k refused) h = refl
value-none id Emitted h = refl

-- an instruction that sets no value
abbrev pub SetsNone : Instruction → Type 0
SetsNone (set_values settings) = ⊥
SetsNone _ = ⊤

set-none : (id : ℕ) (x : Instruction) → SetsNone x → set_value id x ≡ None
set-none id (on_structure key change) h = refl
set-none id (on_statistics change) h = refl
set-none id (report_values ids) h = refl
set-none id (set_values settings) h = absurd h

-- a moment that files nothing, and does no instruction or one that sets no value
pub is-valueless : (s : Session) (m : Moment) → IsNoFiling m.act → IfSome (done_at s m) (λ d. SetsNone d.instruction) → IsValueless s m
is-valueless s m none sets =
    record { value = λ id. go id (is_set (tailoring s) id) (done_at s m) sets; sample = λ id. filing-none id m.act none }
  where
    go : (id : ℕ) (b : Bool) (o : Option Done) → IfSome o (λ d. SetsNone d.instruction) → (if b then option_and_then (λ d. set_value id d.instruction) o else filed_value id m.act) ≡ None
    go id true None h = refl
    go id true (Some d) h = set-none id d.instruction h
    go id false o h = value-none id m.act none

-- what is held of the parameters stays where packets of requests change that no moment names
pub values-agree : (s : Session) (other : List (List ℕ)) (moments : List Moment) (channels : List (ℕ × Channel)) → AgreeOn s.requests other moments
    → AreValues s moments channels → AreValues (exchanged s other) moments channels
values-agree s other moments channels agree h = record { ids = h.ids; each = go channels h.each }
  where
    go : (cs : List (ℕ × Channel)) → AllByRecursion (λ e. IsChannel s moments e.0 e.1) cs → AllByRecursion (λ e. IsChannel (exchanged s other) moments e.0 e.1) cs
    go [] k = tt
    go (e ∷ cs) k = (
      record {
        settable = k.0.settable;
        value = k.0.value ∙ ap (λ (b : BoardState). b.value e.0) (state-agrees s other moments agree);
        window = k.0.window;
        rises = k.0.rises;
      },
      go cs k.1,
    )
