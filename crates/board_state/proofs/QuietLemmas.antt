-- A moment of no request leaves what is known of the requests, and a sample is later than those before it.
use Rattle.std.proofs.Common.{arith, ◌≡◌, ℕ, zero, suc, ◌+◌, ◌-◌, ◌<◌, ◌≤◌, ℤ, refl, sym, ◌∙◌, ap, ap₂, subst, List, [], ◌∷◌, ◌++◌, length, reverse, drop, map, Bool, true, false, ◌==◌, ◌&&◌, ◌||◌, Option, Some, None}
use Rattle.std.specs.Prelude.{⊤, IfSome, slice_get, filter_map, if◌then◌else◌}
use Rattle.std.specs.List.{AllByRecursion, list_any, cons_option}
use Rattle.std.specs.Option.{option_or, option_map_or}
use Rattle.std.proofs.lemmas.Bool.{eq-eqb, ne_eqb}
use Rattle.std.proofs.lemmas.Bool.Decides.{Decides-eqb, nat_tests}
use Rattle.std.proofs.lemmas.Option.{same_Some, none-some}
use Rattle.circular_buffer.specs.Buffer.{Buffer, keep_last, last_item}
use Rattle.hk_base.specs.TailoringParts.{TailoringParts}
use Rattle.hk_world.specs.Timelines.{Session, tailoring, request_number, is_act_of, last_act}
use Rattle.hk_world.specs.Legal.{refused_number, is_filing, is_pending}
use Rattle.hk_world.specs.declared.moment.Moment.{Moment}
use Rattle.hk_world.specs.declared.moment.Act.{Act}
use Rattle.hk_world.specs.declared.moment.Act.TheVariants.{Accepted, TurnedAway, Started, NotStarted, Executed, Completed, Emitted, Filed}
use Rattle.hk_world.proofs.OrderLemmas.{true_is_not_false}
use Rattle.board_steps.specs.Slots.{is_set}
use Rattle.board_steps.specs.Timeline.{IsFiledBy, AreFiledBy}
use Rattle.board_steps.proofs.ValueLemmas.{all-at}
use Rattle.board_state.specs.Values.{slot_filed, filed_samples, IsChannel, AreValues, channel_at, IsLater}
use Rattle.board_state.specs.Waiting.{IsRunning, IsStage, AreWaiting}
use Rattle.board_state.specs.declared.channels.Channel.{Channel}
use Rattle.board_state.specs.declared.running.Running.{Running}
use Rattle.board_state.proofs.ChannelLemmas.{are-before}
use Rattle.board_state.proofs.HeldLemmas.{channel-held}

-- an act of no request refuses no instruction
quiet-refused : (j : ℕ) (act : Act) → request_number act ≡ None → refused_number j act ≡ None
quiet-refused j (Accepted k) e = refl
quiet-refused j (TurnedAway k) e = refl
quiet-refused j (Started k) e = refl
quiet-refused j (NotStarted k) e = refl
quiet-refused j (Executed k number true) e = refl
quiet-refused j (Executed k number false) e = absurd (none-some k (sym e))
quiet-refused j (Completed k refused) e = refl
quiet-refused j Emitted e = refl
quiet-refused j (Filed param slot value) e = refl

module _ (s : Session) (moments : List Moment) (m : Moment) (quiet : request_number m.act ≡ None) where
  last-still : (j : ℕ) → last_act j (m ∷ moments) ≡ last_act j moments
  last-still j = ap (λ b. option_or (if b then Some m.act else None) (last_act j moments)) (ap (λ o. option_map_or (λ n. n == j) o false) quiet)

  running-still : (w : Running) → IsRunning s moments w → IsRunning s (m ∷ moments) w
  running-still w h =
      record {
        known = h.known;
        request = h.request;
        id = h.id;
        stage = subst (IsStage w.number w.started w.executed) (sym (last-still w.number)) h.stage;
        within = h.within;
        refused = h.refused ∙ ap (λ o. reverse (cons_option o (filter_map (λ (x : Moment). refused_number w.number x.act) moments))) (sym (quiet-refused w.number m.act quiet));
        rises = h.rises;
      }

  all-still : (ws : List Running) → AllByRecursion (IsRunning s moments) ws → AllByRecursion (IsRunning s (m ∷ moments)) ws
  all-still [] h = tt
  all-still (w ∷ ws) h = (running-still w h.0, all-still ws h.1)

  -- the requests that wait stay as they are
  pub waiting-still : (ws : List Running) → AreWaiting s moments ws → AreWaiting s (m ∷ moments) ws
  waiting-still ws h =
      record { each = all-still ws h.each; order = h.order; all = λ j p. h.all j (sym (ap is_pending (last-still j)) ∙ p) }

-- the samples of a parameter among some moments are of slots before this one
abbrev pub AreFiledBefore : ℕ → ℕ → List Moment → Type 0
AreFiledBefore id slot moments = AllByRecursion (λ m. IfSome (slot_filed id m.act) (λ x. x.0 < slot)) moments

-- a sample of a slot up to this one, other than this one's, is of a slot before it
before-this : (t : TailoringParts) (id slot : ℕ) (act : Act) → IsFiledBy t slot act → is_filing id slot act ≡ false → IfSome (slot_filed id act) (λ x. x.0 < slot)
before-this t id slot (Filed param y v) h e = go (param == id) e
  where
    less : (b : Bool) → (y == slot) ≡ b → b ≡ false → y < slot
    less true q f = absurd (true_is_not_false f)
    less false q f = let le = h.0 in other (y == slot) refl q le
      where
        other : (b : Bool) → (y == slot) ≡ b → (y == slot) ≡ false → y ≤ slot → y < slot
        other b r g le = apart (λ same. true_is_not_false (sym (eq-eqb y slot same) ∙ g)) le
          where
            apart : (y ≡ slot → ⊥) → y ≤ slot → y < slot
            apart no_same k = grind (arith, no_same, k)

    go : (b : Bool) → (b && y == slot) ≡ false → IfSome (if b then Some (y, v) else None) (λ (x : ℕ × ℤ). x.0 < slot)
    go true f = less (y == slot) refl f
    go false f = tt
before-this t id slot (Accepted k) h e = tt
before-this t id slot (TurnedAway k) h e = tt
before-this t id slot (Started k) h e = tt
before-this t id slot (NotStarted k) h e = tt
before-this t id slot (Executed k number flag) h e = tt
before-this t id slot (Completed k refused) h e = tt
before-this t id slot Emitted h e = tt

-- a parameter that has no sample of the slot that runs has samples of earlier slots alone
pub unfiled-before : (t : TailoringParts) (id slot : ℕ) (moments : List Moment) → AreFiledBy t slot moments → list_any (λ m. is_filing id slot m.act) moments ≡ false
    → AreFiledBefore id slot moments
unfiled-before t id slot [] h e = tt
unfiled-before t id slot (m ∷ earlier) h e =
    go (is_filing id slot m.act) refl e (λ f. unfiled-before t id slot earlier h.1 f)
  where
    go : (b : Bool) → is_filing id slot m.act ≡ b → (b || list_any (λ x. is_filing id slot x.act) earlier) ≡ false
        → (list_any (λ x. is_filing id slot x.act) earlier ≡ false → AreFiledBefore id slot earlier) → AreFiledBefore id slot (m ∷ earlier)
    go true q f rest = absurd (true_is_not_false f)
    go false q f rest = (before-this t id slot m.act h.0 q, rest f)

-- so has a settable parameter
settable-this : (t : TailoringParts) (id slot : ℕ) (act : Act) → is_set t id ≡ true → IsFiledBy t slot act → IfSome (slot_filed id act) (λ x. x.0 < slot)
settable-this t id slot (Filed param y v) set h = go (param == id) refl
  where
    go : (b : Bool) → (param == id) ≡ b → IfSome (if b then Some (y, v) else None) (λ (x : ℕ × ℤ). x.0 < slot)
    go true q = h.1 (ap (is_set t) ((Decides-eqb param id).0 q) ∙ set)
    go false q = tt
settable-this t id slot (Accepted k) set h = tt
settable-this t id slot (TurnedAway k) set h = tt
settable-this t id slot (Started k) set h = tt
settable-this t id slot (NotStarted k) set h = tt
settable-this t id slot (Executed k number flag) set h = tt
settable-this t id slot (Completed k refused) set h = tt
settable-this t id slot Emitted set h = tt

pub settable-before : (t : TailoringParts) (id slot : ℕ) (moments : List Moment) → is_set t id ≡ true → AreFiledBy t slot moments → AreFiledBefore id slot moments
settable-before t id slot [] set h = tt
settable-before t id slot (m ∷ earlier) set h = (settable-this t id slot m.act set h.0, settable-before t id slot earlier set h.1)

all-dropped : (P : ℕ × ℤ → Type 0) (k : ℕ) (xs : List (ℕ × ℤ)) → AllByRecursion P xs → AllByRecursion P (drop k xs)
all-dropped P zero xs h = h
all-dropped P (suc k) [] h = tt
all-dropped P (suc k) (x ∷ xs) h = all-dropped P k xs h.1

-- the next sample is later than those that are held
pub later-held : (s : Session) (moments : List Moment) (channels : List (ℕ × Channel)) (id slot : ℕ) → AreFiledBefore id slot moments → AreValues s moments channels
    → IfSome (channel_at channels id) (IsLater slot)
later-held s moments channels id slot before h = go (channel_at channels id) (channel-held s moments channels id h.each)
  where
    P : ℕ × ℤ → Type 0
    P x = x.0 < slot

    last : (xs : List (ℕ × ℤ)) → AllByRecursion (λ (x : ℕ × ℤ). x.0 < slot) xs → (o : Option (ℕ × ℤ)) → last_item xs ≡ o → IfSome o (λ x. x.0 < slot)
    last xs all None e = tt
    last xs all (Some x) e = all-at (λ (y : ℕ × ℤ). y.0 < slot) xs (length xs - 1) x all e

    go : (o : Option Channel) → IfSome o (IsChannel s moments id) → IfSome o (IsLater slot)
    go None k = tt
    go (Some c) k =
        let n : ℕ = (tailoring s).widths.max_interval in
        let xs : List (ℕ × ℤ) = filed_samples id moments in
        let all = all-dropped (λ (x : ℕ × ℤ). x.0 < slot) (length xs - n) xs (are-before id slot moments before) in
        subst (λ (w : Buffer (ℕ × ℤ)). IfSome (last_item w.items) (λ newest. newest.0 < slot)) (sym k.window) (last (keep_last n xs) all (last_item (keep_last n xs)) refl)
