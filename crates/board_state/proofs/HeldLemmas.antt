-- What is held of the parameters, told by an ID, and what is held at the start.
use Rattle.std.proofs.Common.{arith, ◌≡◌, ℕ, zero, suc, ◌+◌, ◌-◌, ◌<◌, ◌≤◌, ℤ, refl, sym, ◌∙◌, ap, ap₂, subst, List, [], ◌∷◌, ◌++◌, length, drop, map, cond, Bool, true, false, not, ◌==◌, ◌&&◌, ◌||◌, Option, Some, None, ◌⊎◌, inl, inr}
use Rattle.std.specs.Prelude.{⊤, nat_eq, IfSome, IsFalse, find, is_some, is_none, option_map, option_and_then, if◌then◌else◌}
use Rattle.std.specs.List.{AllByRecursion, IsDistinct, list_any}
use Rattle.std.specs.Map.{lookup}
use Rattle.std.specs.Option.{option_or, option_map_or}
use Rattle.std.proofs.lemmas.Bool.{eq-eqb, ne_eqb}
use Rattle.std.proofs.lemmas.Bool.Decides.{Decides-eqb, nat_tests}
use Rattle.std.proofs.lemmas.Option.{same_Some, none-some}
use Rattle.circular_buffer.specs.Buffer.{Buffer, buffer, keep_last}
use Rattle.hk_base.specs.Fit.{IsFit}
use Rattle.hk_base.specs.TailoringParts.{TailoringParts}
use Rattle.hk_base.specs.Parameters.{parameter, is_settable}
use Rattle.hk_base.specs.declared.types.Param.{Param}
use Rattle.sample_slots.specs.Windows.{AreRising}
use Rattle.sample_slots.specs.Windows as windows
use Rattle.hk_world.specs.States.{boot_state}
use Rattle.hk_world.specs.Timelines.{Session, tailoring, Done, EachAfter, first_some, filed_value, set_value, done_instructions, state_after}
use Rattle.hk_world.specs.Legal.{FilesSample, is_filing}
use Rattle.hk_world.specs.Worlds.{MayHappen}
use Rattle.hk_world.specs.declared.moment.Moment.{Moment}
use Rattle.hk_world.specs.declared.moment.Act.{Act}
use Rattle.hk_world.specs.declared.moment.Act.TheVariants.{Accepted, TurnedAway, Started, NotStarted, Executed, Completed, Emitted, Filed}
use Rattle.hk_world.proofs.OrderLemmas.{true_is_not_false}
use Rattle.board_steps.specs.Slots.{is_set, sample_at}
use Rattle.board_steps.specs.Timeline.{IsGood}
use Rattle.board_state.specs.Values.{slot_filed, filed_samples, IsChannel, AreValues, channel_at, value_at, new_channel, new_channels, closing_sample}
use Rattle.board_state.specs.declared.channels.Channel.{Channel}
use Rattle.board_state.proofs.SampleLemmas.{place_at, sample-kept, sample-found, filed-up-to, filed-some}

-- what is held under an ID is a parameter of it
pub channel-held : (s : Session) (moments : List Moment) (channels : List (ℕ × Channel)) (id : ℕ) → AllByRecursion (λ e. IsChannel s moments e.0 e.1) channels
    → IfSome (channel_at channels id) (IsChannel s moments id)
channel-held s moments [] id h = tt
channel-held s moments (e ∷ cs) id h = go (id == e.0) refl (channel-held s moments cs id h.1)
  where
    go : (b : Bool) → (id == e.0) ≡ b → IfSome (channel_at cs id) (IsChannel s moments id) → IfSome (cond b (Some e.1) (channel_at cs id)) (IsChannel s moments id)
    go true q rest = subst (λ k. IsChannel s moments k e.1) (sym ((Decides-eqb id e.0).0 q)) h.0
    go false q rest = rest

eqb-turned : (m n : ℕ) → (m == n) ≡ (n == m)
eqb-turned m n = grind (arith, nat_tests)

held-among : (cs : List (ℕ × Channel)) (id : ℕ) → is_some (channel_at cs id) ≡ list_any (λ k. id == k) (map (λ (e : ℕ × Channel). e.0) cs)
held-among [] id = refl
held-among (e ∷ cs) id = go (id == e.0) (held-among cs id)
  where
    go : (b : Bool) → is_some (channel_at cs id) ≡ list_any (λ k. id == k) (map (λ (e : ℕ × Channel). e.0) cs)
        → is_some (cond b (Some e.1) (channel_at cs id)) ≡ (b || list_any (λ k. id == k) (map (λ (e : ℕ × Channel). e.0) cs))
    go true h = refl
    go false h = h

known-among : (ps : List Param) (id : ℕ) → is_some (find (λ (p : Param). p.id == id) ps) ≡ list_any (λ k. id == k) (map (λ (p : Param). p.id) ps)
known-among [] id = refl
known-among (p ∷ ps) id =
    go (p.id == id) (known-among ps id) ∙ ap (λ b. b || list_any (λ k. id == k) (map (λ (q : Param). q.id) ps)) (eqb-turned p.id id)
  where
    go : (b : Bool) → is_some (find (λ (q : Param). q.id == id) ps) ≡ list_any (λ k. id == k) (map (λ (q : Param). q.id) ps)
        → is_some (cond b (Some p) (find (λ (q : Param). q.id == id) ps)) ≡ (b || list_any (λ k. id == k) (map (λ (q : Param). q.id) ps))
    go true h = refl
    go false h = h

-- those that are held are those of the tailoring
pub held-known : (s : Session) (moments : List Moment) (channels : List (ℕ × Channel)) (id : ℕ) → AreValues s moments channels
    → is_some (channel_at channels id) ≡ is_some (parameter (tailoring s) id)
held-known s moments channels id h =
    held-among channels id ∙ ap (list_any (λ k. id == k)) h.ids ∙ sym (known-among (tailoring s).params id)

none-is : {X : Type 0} (o : Option X) → is_some o ≡ false → o ≡ None
none-is None e = refl
none-is (Some x) e = absurd (true_is_not_false e)

-- nothing was filed for a parameter that the tailoring doesn't have
unknown-unfiled : (s : Session) (earlier : List Moment) (id slot : ℕ) → parameter (tailoring s) id ≡ None → (act : Act) → FilesSample s earlier act
    → (filed_value id act ≡ None) × (is_filing id slot act ≡ false)
unknown-unfiled s earlier id slot none (Filed param x v) h = go (param == id) refl
  where
    go : (b : Bool) → (param == id) ≡ b → ((if b then Some v else None) ≡ None) × ((b && x == slot) ≡ false)
    go true q = absurd (none-some h.0 (sym none ∙ sym (ap (parameter (tailoring s)) ((Decides-eqb param id).0 q)) ∙ h.1.known))
    go false q = (refl, refl)
unknown-unfiled s earlier id slot none (Accepted k) h = (refl, refl)
unknown-unfiled s earlier id slot none (TurnedAway k) h = (refl, refl)
unknown-unfiled s earlier id slot none (Started k) h = (refl, refl)
unknown-unfiled s earlier id slot none (NotStarted k) h = (refl, refl)
unknown-unfiled s earlier id slot none (Executed k number flag) h = (refl, refl)
unknown-unfiled s earlier id slot none (Completed k refused) h = (refl, refl)
unknown-unfiled s earlier id slot none Emitted h = (refl, refl)

unknown-none : (s : Session) (id slot : ℕ) → parameter (tailoring s) id ≡ None → (moments : List Moment) → EachAfter (MayHappen s) moments
    → (first_some (λ (m : Moment). filed_value id m.act) moments ≡ None) × (list_any (λ m. is_filing id slot m.act) moments ≡ false)
unknown-none s id slot none [] h = (refl, refl)
unknown-none s id slot none (m ∷ earlier) h =
    let own = unknown-unfiled s earlier id slot none m.act h.0.sample in
    let rest = unknown-none s id slot none earlier h.1 in
    (ap₂ option_or own.0 rest.0, ap₂ (λ a b. a || b) own.1 rest.1)

-- the value that is held under an ID is that of the state
pub value-held : (s : Session) (slot : ℕ) (moments : List Moment) (channels : List (ℕ × Channel)) (id : ℕ) → s.initial ≡ boot_state (tailoring s) → IsGood s slot moments
    → AreValues s moments channels → value_at channels id ≡ (state_after s moments).value id
value-held s slot moments channels id boot good h = go (channel_at channels id) refl (channel-held s moments channels id h.each)
  where
    unset : parameter (tailoring s) id ≡ None → (state_after s moments).value id ≡ None
    unset none =
        let filed : Option ℤ = first_some (λ (m : Moment). filed_value id m.act) moments in
        let last : Option ℤ = first_some (λ (d : Done). set_value id d.instruction) (done_instructions s moments) in
        ap (λ (o : Option Param). option_or (if option_map_or is_settable o false then last else filed) (s.initial.value id)) none
        ∙ ap (λ (o : Option ℤ). option_or o (s.initial.value id)) (unknown-none s id slot none moments good.timeline).0
        ∙ ap (λ b. b.value id) boot
        ∙ ap (option_and_then (λ (p : Param). p.initial)) none

    go : (o : Option Channel) → channel_at channels id ≡ o → IfSome o (IsChannel s moments id) → option_and_then (λ c. c.value) (channel_at channels id) ≡ (state_after s moments).value id
    go (Some c) e k = ap (option_and_then (λ (x : Channel). x.value)) e ∙ k.value
    go None e k =
        let none = none-is (parameter (tailoring s) id) (sym (held-known s moments channels id h) ∙ ap is_some e) in
        ap (option_and_then (λ (x : Channel). x.value)) e ∙ sym (unset none)

-- what a window has of one of the last slots, as many as the longest interval has, is what was filed
pub window-held : (s : Session) (slot y : ℕ) (moments : List Moment) (id : ℕ) (c : Channel) → IsGood s slot moments → slot < y + (tailoring s).widths.max_interval
    → IsChannel s moments id c → windows.sample_at c.window.items y ≡ sample_at (place_at id y) moments
window-held s slot y moments id c good near h =
    ap (λ (w : Buffer (ℕ × ℤ)). windows.sample_at w.items y) h.window
    ∙ sample-kept (tailoring s).widths.max_interval (filed_samples id moments) slot y h.rises (filed-up-to (tailoring s) slot id moments good.filed) near
    ∙ sample-found id y moments h.rises

-- whether there is a sample of the slot that runs
pub filed-held : (s : Session) (slot : ℕ) (moments : List Moment) (channels : List (ℕ × Channel)) (id : ℕ) → 1 ≤ (tailoring s).widths.max_interval → IsGood s slot moments
    → AreValues s moments channels
    → option_map_or (λ c. is_some (windows.sample_at c.window.items slot)) (channel_at channels id) false ≡ list_any (λ m. is_filing id slot m.act) moments
filed-held s slot moments channels id some good h = go (channel_at channels id) refl (channel-held s moments channels id h.each)
  where
    go : (o : Option Channel) → channel_at channels id ≡ o → IfSome o (IsChannel s moments id)
        → option_map_or (λ (c : Channel). is_some (windows.sample_at c.window.items slot)) (channel_at channels id) false ≡ list_any (λ m. is_filing id slot m.act) moments
    go (Some c) e k =
        ap (λ (x : Option Channel). option_map_or (λ (c : Channel). is_some (windows.sample_at c.window.items slot)) x false) e
        ∙ ap is_some (window-held s slot slot moments id c good (omega (arith, some)) k)
        ∙ sym (filed-some id slot moments)
    go None e k =
        let none = none-is (parameter (tailoring s) id) (sym (held-known s moments channels id h) ∙ ap is_some e) in
        ap (λ (x : Option Channel). option_map_or (λ (c : Channel). is_some (windows.sample_at c.window.items slot)) x false) e
        ∙ sym (unknown-none s id slot none moments good.timeline).1

-- each parameter is the one that its ID finds
own-param : (ps : List Param) → IsDistinct nat_eq (map (λ (p : Param). p.id) ps) → AllByRecursion (λ p. find (λ q. q.id == p.id) ps ≡ Some p) ps
unfolding IsDistinct
own-param [] d = tt
own-param (p ∷ ps) d =
    (ap (λ b. cond b (Some p) (find (λ (q : Param). q.id == p.id) ps)) (eq-eqb p.id p.id refl), rest ps (own-param ps d.1) d.0)
  where
    rest : (qs : List Param) → AllByRecursion (λ q. find (λ r. r.id == q.id) ps ≡ Some q) qs → AllByRecursion (λ k. nat_eq p.id k ≡ false) (map (λ (q : Param). q.id) qs)
        → AllByRecursion (λ q. find (λ r. r.id == q.id) (p ∷ ps) ≡ Some q) qs
    rest [] h g = tt
    rest (q ∷ qs) h g = (ap (λ b. cond b (Some p) (find (λ (r : Param). r.id == q.id) ps)) g.0 ∙ h.0, rest qs h.1 g.1)

none-left : (k : ℕ) → drop {A = ℕ × ℤ} k [] ≡ []
none-left zero = refl
none-left (suc k) = refl

-- what is held at the start
pub new-values : (s : Session) → s.initial ≡ boot_state (tailoring s) → IsFit (tailoring s) → AreValues s [] (new_channels (tailoring s))
new-values s boot fit =
    record { ids = ids (tailoring s).params; each = each (tailoring s).params (own-param (tailoring s).params fit.ids) }
  where
    t : TailoringParts
    t = tailoring s

    ids : (ps : List Param) → map (λ (e : ℕ × Channel). e.0) (map (new_channel (tailoring s)) ps) ≡ map (λ (p : Param). p.id) ps
    ids [] = refl
    ids (p ∷ ps) = ap (λ ks. p.id ∷ ks) (ids ps)

    value : (id : ℕ) (b : Bool) → option_or (if b then None else None) (s.initial.value id) ≡ s.initial.value id
    value id true = refl
    value id false = refl

    one : (p : Param) → parameter (tailoring s) p.id ≡ Some p → IsChannel s [] p.id (new_channel (tailoring s) p).1
    one p e =
        record {
          settable = sym (ap (λ o. option_map_or is_settable o false) e);
          value = sym (value p.id (is_set (tailoring s) p.id) ∙ ap (λ b. b.value p.id) boot ∙ ap (option_and_then (λ (q : Param). q.initial)) e);
          window = ap (λ (xs : List (ℕ × ℤ)). buffer xs t.widths.max_interval) (sym (none-left (0 - t.widths.max_interval)));
          rises = tt;
        }

    each : (ps : List Param) → AllByRecursion (λ p. find (λ q. q.id == p.id) (tailoring s).params ≡ Some p) ps
        → AllByRecursion (λ e. IsChannel s [] e.0 e.1) (map (new_channel (tailoring s)) ps)
    each [] h = tt
    each (p ∷ ps) h = (one p h.0, each ps h.1)
