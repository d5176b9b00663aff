-- A sample more, values that are set, and what is held at the start.
use Rattle.std.proofs.Common.{arith, ◌≡◌, ℕ, zero, suc, ◌+◌, ◌-◌, ◌<◌, ◌≤◌, ℤ, refl, sym, ◌∙◌, ap, ap₂, subst, List, [], ◌∷◌, ◌++◌, length, drop, map, cond, Bool, true, false, not, ◌==◌, ◌&&◌, ◌||◌, Option, Some, None, ◌⊎◌, inl, inr}
use Rattle.std.specs.Prelude.{⊤, IfSome, find, is_some, is_none, option_map, option_and_then, filter, filter_map, if◌then◌else◌}
use Rattle.std.specs.List.{AllByRecursion, list_any, cons_option}
use Rattle.std.specs.Map.{lookup}
use Rattle.std.specs.Option.{option_or, option_map_or}
use Rattle.std.proofs.lemmas.Bool.{eq-eqb, ne_eqb}
use Rattle.std.proofs.lemmas.Bool.Decides.{Decides-eqb, nat_tests}
use Rattle.std.proofs.lemmas.Option.{same_Some, none-some}
use Rattle.circular_buffer.specs.Buffer.{Buffer, buffer, keep_last}
use Rattle.hk_base.specs.TailoringParts.{TailoringParts}
use Rattle.hk_base.specs.Parameters.{parameter, is_settable}
use Rattle.hk_base.specs.declared.types.Param.{Param}
use Rattle.body_fields.specs.Reading.{repeat_fault, param_fault, fault_if}
use Rattle.body_fields.specs.Spelling.{AllStand}
use Rattle.body_fields.specs.declared.fault.BodyFault.{BodyFault}
use Rattle.body_fields.specs.declared.fault.BodyFault.TheVariants.{UnknownParam, RepeatedKey, NotSettable}
use Rattle.st20_grammar.specs.Bodies.{settable_fault, sensed_fault}
use Rattle.st20_grammar.specs.Spelling.{AreSettings, ids_of}
use Rattle.st20_grammar.specs.declared.bodies.Setting.{Setting}
use Rattle.sample_slots.specs.Windows.{AreRising}
use Rattle.pus_messages.specs.Instructions.{Instruction, set_values}
use Rattle.hk_world.specs.States.{boot_state}
use Rattle.hk_world.specs.Timelines.{Session, tailoring, Done, EachAfter, done_by, done_at, first_some, set_value, filed_value, state_after}
use Rattle.hk_world.specs.Legal.{FilesSample}
use Rattle.hk_world.specs.Worlds.{MayHappen}
use Rattle.hk_world.specs.declared.moment.Moment.{Moment}
use Rattle.hk_world.specs.declared.moment.Act.{Act}
use Rattle.hk_world.specs.declared.moment.Act.TheVariants.{Accepted, TurnedAway, Started, NotStarted, Executed, Completed, Emitted, Filed}
use Rattle.hk_world.proofs.OrderLemmas.{true_is_not_false}
use Rattle.board_steps.specs.Slots.{is_set}
use Rattle.board_state.specs.Values.{slot_filed, filed_samples, IsChannel, AreValues, channel_at, value_at, change_channel, filed_channel, set_channel, with_settings, new_channel, new_channels}
use Rattle.board_state.specs.declared.channels.Channel.{Channel}
use Rattle.board_state.proofs.ChannelLemmas.{value_told, value-more, samples-more, samples-still, keep-more, rising-pushed, are-before, channel-still, IsNoFiling, filing-none, value-none}

-- an entry, changed or not
abbrev changed_entry : (Channel → Channel) → Bool → ℕ × Channel → ℕ × Channel
changed_entry f b e = if b then (e.0, f e.1) else e

changed-ids : (id : ℕ) (f : Channel → Channel) (cs : List (ℕ × Channel)) → map (λ (e : ℕ × Channel). e.0) (change_channel id f cs) ≡ map (λ (e : ℕ × Channel). e.0) cs
changed-ids id f [] = refl
changed-ids id f (e ∷ cs) = ap₂ (λ k (ks : List ℕ). k ∷ ks) (one (id == e.0)) (changed-ids id f cs)
  where
    one : (b : Bool) → (changed_entry f b e).0 ≡ e.0
    one true = refl
    one false = refl

module _ (s : Session) (m : Moment) (earlier : List Moment) (id slot : ℕ) (v : ℤ) (act : m.act ≡ Filed id slot v) where
  undone : done_at s m ≡ None
  undone = ap (done_by s m.tag) act

  -- a parameter of another ID is as it was
  other-filed : (other : ℕ) (c : Channel) → (id == other) ≡ false → IsChannel s earlier other c → IsChannel s (m ∷ earlier) other c
  other-filed other c e h = channel-still s m earlier other c (told (is_set (tailoring s) other)) filed h
    where
      told : (b : Bool) → (if b then option_and_then (λ d. set_value other d.instruction) (done_at s m) else filed_value other m.act) ≡ None
      told true = ap (option_and_then (λ (d : Done). set_value other d.instruction)) undone
      told false = ap (filed_value other) act ∙ ap (λ b. if b then Some v else None) e

      filed : slot_filed other m.act ≡ None
      filed = ap (slot_filed other) act ∙ ap (λ b. if b then Some (slot, v) else None) e

  -- one that has the ID has one sample more, which is its value
  own-filed : (other : ℕ) (c : Channel) → (id == other) ≡ true → (is_set (tailoring s) id ≡ true → (state_after s earlier).value id ≡ Some v)
      → AllByRecursion (λ e. IfSome (slot_filed id e.act) (λ x. x.0 < slot)) earlier → IsChannel s earlier other c → IsChannel s (m ∷ earlier) other (filed_channel slot v c)
  own-filed other c e set before h =
      record {
        settable = h.settable;
        value = sym (value-more s m earlier other ∙ value (is_set (tailoring s) other) refl);
        window = ap (λ (w : Buffer (ℕ × ℤ)). buffer (keep_last w.capacity (w.items ++ (slot, v) ∷ [])) w.capacity) h.window
            ∙ ap (λ xs. buffer xs n) (keep-more n (filed_samples other earlier) (slot, v))
            ∙ ap (λ xs. buffer (keep_last n xs) n) (sym (samples-more other m earlier (slot, v) filed));
        rises = subst AreRising (sym (samples-more other m earlier (slot, v) filed)) (rising-pushed (filed_samples other earlier) (slot, v) h.rises
            (are-before other slot earlier (subst (λ k. AllByRecursion (λ x. IfSome (slot_filed k x.act) (λ y. y.0 < slot)) earlier) same before)));
      }
    where
      n : ℕ
      n = (tailoring s).widths.max_interval

      same : id ≡ other
      same = (Decides-eqb id other).0 e

      filed : slot_filed other m.act ≡ Some (slot, v)
      filed = ap (slot_filed other) act ∙ ap (λ b. if b then Some (slot, v) else None) e

      value : (b : Bool) → is_set (tailoring s) other ≡ b
          → option_or (if b then option_and_then (λ d. set_value other d.instruction) (done_at s m) else filed_value other m.act) ((state_after s earlier).value other) ≡ Some v
      value true q =
          ap (λ o. option_or (option_and_then (λ (d : Done). set_value other d.instruction) o) ((state_after s earlier).value other)) undone
          ∙ subst (λ k. (state_after s earlier).value k ≡ Some v) same (set (ap (is_set (tailoring s)) same ∙ q))
      value false q = ap (λ o. option_or o ((state_after s earlier).value other)) (ap (filed_value other) act ∙ ap (λ b. if b then Some v else None) e)

  -- A sample is later than those before, and it is the value of its parameter where that is settable: it is held then.
  pub filing-values : (channels : List (ℕ × Channel)) → (is_set (tailoring s) id ≡ true → (state_after s earlier).value id ≡ Some v)
      → AllByRecursion (λ e. IfSome (slot_filed id e.act) (λ x. x.0 < slot)) earlier
      → AreValues s earlier channels → AreValues s (m ∷ earlier) (change_channel id (filed_channel slot v) channels)
  filing-values channels set before h = record { ids = changed-ids id (filed_channel slot v) channels ∙ h.ids; each = go channels h.each }
    where
      one : (e : ℕ × Channel) (b : Bool) → (id == e.0) ≡ b → IsChannel s earlier e.0 e.1
          → IsChannel s (m ∷ earlier) (changed_entry (filed_channel slot v) b e).0 (changed_entry (filed_channel slot v) b e).1
      one e true q k = own-filed e.0 e.1 q set before k
      one e false q k = other-filed e.0 e.1 q k

      go : (cs : List (ℕ × Channel)) → AllByRecursion (λ e. IsChannel s earlier e.0 e.1) cs
          → AllByRecursion (λ e. IsChannel s (m ∷ earlier) e.0 e.1) (change_channel id (filed_channel slot v) cs)
      go [] k = tt
      go (e ∷ cs) k = (one e (id == e.0) refl k.0, go cs k.1)

-- no parameter is set twice
abbrev pub AreOnce : List Setting → Type 0
AreOnce [] = ⊤
AreOnce (x ∷ xs) = AllByRecursion (λ y. (x.param == y.param) ≡ false) xs × AreOnce xs

-- settings of settable parameters, each once
pub record AreSet (t : TailoringParts) (settings : List Setting) : Type 0 where
  pub settable : AllByRecursion (λ x. is_set t x.param ≡ true) settings
  pub once : AreOnce settings

-- a parameter with these settings
abbrev settled : List Setting → ℕ → Channel → Channel
settled [] id c = c
settled (x ∷ xs) id c = settled xs id (if x.param == id then set_channel x.value c else c)

-- an entry with another parameter, and with these settings
abbrev with_channel : ℕ × Channel → Channel → ℕ × Channel
with_channel e c = (e.0, c)

abbrev settled_entry : List Setting → ℕ × Channel → ℕ × Channel
settled_entry xs e = with_channel e (settled xs e.0 e.1)

settled-settable : (xs : List Setting) (id : ℕ) (c : Channel) → (settled xs id c).is_settable ≡ c.is_settable
settled-settable [] id c = refl
settled-settable (x ∷ xs) id c = settled-settable xs id (if x.param == id then set_channel x.value c else c) ∙ one (x.param == id)
  where
    one : (b : Bool) → (if b then set_channel x.value c else c).is_settable ≡ c.is_settable
    one true = refl
    one false = refl

settled-window : (xs : List Setting) (id : ℕ) (c : Channel) → (settled xs id c).window ≡ c.window
settled-window [] id c = refl
settled-window (x ∷ xs) id c = settled-window xs id (if x.param == id then set_channel x.value c else c) ∙ one (x.param == id)
  where
    one : (b : Bool) → (if b then set_channel x.value c else c).window ≡ c.window
    one true = refl
    one false = refl

eqb-turned : (m n : ℕ) → (m == n) ≡ (n == m)
eqb-turned m n = grind (arith, nat_tests)

-- what settings say of a parameter
abbrev told : List Setting → ℕ → Option ℤ
told xs id = first_some (λ (x : Setting). if x.param == id then Some x.value else None) xs

none-told : (id : ℕ) (xs : List Setting) → AllByRecursion (λ y. (y.param == id) ≡ false) xs → told xs id ≡ None
none-told id [] h = refl
none-told id (x ∷ xs) h = ap (λ b. option_or (if b then Some x.value else None) (told xs id)) h.0 ∙ none-told id xs h.1

others-told : (x : Setting) (id : ℕ) (xs : List Setting) → x.param ≡ id → AllByRecursion (λ y. (x.param == y.param) ≡ false) xs → AllByRecursion (λ y. (y.param == id) ≡ false) xs
others-told x id [] e h = tt
others-told x id (y ∷ xs) e h = (ap (λ k. y.param == k) (sym e) ∙ eqb-turned y.param x.param ∙ h.0, others-told x id xs e h.1)

settled-value : (xs : List Setting) (id : ℕ) (c : Channel) → AreOnce xs → (settled xs id c).value ≡ option_or (told xs id) c.value
settled-value [] id c once = refl
settled-value (x ∷ xs) id c once =
    settled-value xs id (if x.param == id then set_channel x.value c else c) once.1 ∙ one (x.param == id) refl
  where
    one : (b : Bool) → (x.param == id) ≡ b
        → option_or (told xs id) (if b then set_channel x.value c else c).value ≡ option_or (option_or (if b then Some x.value else None) (told xs id)) c.value
    one true q =
        let same : x.param ≡ id = (Decides-eqb x.param id).0 q in
        ap (λ o. option_or o (Some x.value)) (none-told id xs (others-told x id xs same once.0))
    one false q = refl

-- what is held after settings
with-settled : (xs : List Setting) (cs : List (ℕ × Channel)) → with_settings xs cs ≡ map (settled_entry xs) cs
with-settled [] cs = same cs
  where
    same : (es : List (ℕ × Channel)) → es ≡ map (settled_entry []) es
    same [] = refl
    same (e ∷ es) = ap (λ (ys : List (ℕ × Channel)). e ∷ ys) (same es)
with-settled (x ∷ xs) cs = with-settled xs (change_channel x.param (set_channel x.value) cs) ∙ both cs
  where
    one : (e : ℕ × Channel) (b : Bool)
        → settled_entry xs (changed_entry (set_channel x.value) b e) ≡ with_channel e (settled xs e.0 (if b then set_channel x.value e.1 else e.1))
    one e true = refl
    one e false = refl

    both : (es : List (ℕ × Channel)) → map (settled_entry xs) (change_channel x.param (set_channel x.value) es)
        ≡ map (settled_entry (x ∷ xs)) es
    both [] = refl
    both (e ∷ es) = ap₂ (λ (y : ℕ × Channel) ys. y ∷ ys) (one e (x.param == e.0)) (both es)

settled-ids : (xs : List Setting) (cs : List (ℕ × Channel)) → map (λ (e : ℕ × Channel). e.0) (map (settled_entry xs) cs) ≡ map (λ (e : ℕ × Channel). e.0) cs
settled-ids xs [] = refl
settled-ids xs (e ∷ cs) = ap (λ ks. e.0 ∷ ks) (settled-ids xs cs)

-- a sensed parameter isn't among settings
not-told : (t : TailoringParts) (id : ℕ) (xs : List Setting) → is_set t id ≡ false → AllByRecursion (λ x. is_set t x.param ≡ true) xs → told xs id ≡ None
not-told t id xs e h = none-told id xs (go xs h)
  where
    one : (n : ℕ) (b : Bool) → (n == id) ≡ b → is_set t n ≡ true → (n == id) ≡ false
    one n true q k = absurd (true_is_not_false (sym k ∙ ap (is_set t) ((Decides-eqb n id).0 q) ∙ e))
    one n false q k = q

    go : (ys : List Setting) → AllByRecursion (λ x. is_set t x.param ≡ true) ys → AllByRecursion (λ y. (y.param == id) ≡ false) ys
    go [] k = tt
    go (y ∷ ys) k = (one y.param (y.param == id) refl k.0, go ys k.1)

-- a moment at which values are set
pub set-done : (s : Session) (m : Moment) (earlier : List Moment) (d : Done) (settings : List Setting) (channels : List (ℕ × Channel)) → done_at s m ≡ Some d
    → d.instruction ≡ set_values settings → IsNoFiling m.act → AreSet (tailoring s) settings
    → AreValues s earlier channels → AreValues s (m ∷ earlier) (with_settings settings channels)
set-done s m earlier d settings channels done is none set h =
    let all : AreValues s (m ∷ earlier) (map (settled_entry settings) channels) =
    record { ids = settled-ids settings channels ∙ h.ids; each = go channels h.each } in
    subst (AreValues s (m ∷ earlier)) (sym (with-settled settings channels)) all
  where
    value : (id : ℕ) (b : Bool) → is_set (tailoring s) id ≡ b
        → (if b then option_and_then (λ d. set_value id d.instruction) (done_at s m) else filed_value id m.act) ≡ told settings id
    value id true q = ap (option_and_then (λ (x : Done). set_value id x.instruction)) done ∙ ap (set_value id) is
    value id false q = value-none id m.act none ∙ sym (not-told (tailoring s) id settings q set.settable)

    one : (id : ℕ) (c : Channel) → IsChannel s earlier id c → IsChannel s (m ∷ earlier) id (settled settings id c)
    one id c k =
        let still = sym (samples-still id m earlier (filing-none id m.act none)) in
        record {
          settable = settled-settable settings id c ∙ k.settable;
          value = settled-value settings id c set.once ∙ ap (option_or (told settings id)) k.value
              ∙ ap (λ o. option_or o ((state_after s earlier).value id)) (sym (value id (is_set (tailoring s) id) refl)) ∙ sym (value-more s m earlier id);
          window = settled-window settings id c ∙ k.window ∙ ap (λ xs. buffer (keep_last (tailoring s).widths.max_interval xs) (tailoring s).widths.max_interval) still;
          rises = subst AreRising still k.rises;
        }

    go : (cs : List (ℕ × Channel)) → AllByRecursion (λ e. IsChannel s earlier e.0 e.1) cs
        → AllByRecursion (λ (e : ℕ × Channel). IsChannel s (m ∷ earlier) e.0 e.1) (map (settled_entry settings) cs)
    go [] k = tt
    go (e ∷ cs) k = (one e.0 e.1 k.0, go cs k.1)

or-none-left : {X : Type 0} (a b : Option X) → option_or a b ≡ None → (a ≡ None) × (b ≡ None)
or-none-left None b e = (refl, e)
or-none-left (Some x) b e = absurd (none-some x (sym e))

not-fault : (b : Bool) (fault : BodyFault) → fault_if b fault ≡ None → b ≡ false
not-fault true fault e = absurd (none-some fault (sym e))
not-fault false fault e = refl

not-any : (k : ℕ) (es : List ℕ) → list_any (λ e. e == k) es ≡ false → AllByRecursion (λ e. (e == k) ≡ false) es
not-any k [] h = tt
not-any k (e ∷ es) h = go (e == k) refl h (not-any k es)
  where
    go : (b : Bool) → (e == k) ≡ b → (b || list_any (λ e. e == k) es) ≡ false → (list_any (λ e. e == k) es ≡ false → AllByRecursion (λ e. (e == k) ≡ false) es)
        → AllByRecursion (λ e. (e == k) ≡ false) (e ∷ es)
    go true q g rest = absurd (true_is_not_false g)
    go false q g rest = (q, rest g)

-- an ID that can be set is that of a settable parameter, and comes once
stands-set : (t : TailoringParts) (earlier : List ℕ) (id : ℕ) → settable_fault t earlier id ≡ None → (is_set t id ≡ true) × AllByRecursion (λ e. (e == id) ≡ false) earlier
stands-set t earlier id e =
    let parts = or-none-left (param_fault t earlier id) (sensed_fault t id) e in
    let inner = or-none-left (repeat_fault earlier id) (fault_if (not (is_some (parameter t id))) (UnknownParam id)) parts.0 in (
      known (parameter t id) refl (not-fault (not (is_some (parameter t id))) (UnknownParam id) inner.1) parts.1,
      not-any id earlier (not-fault (list_any (λ e. e == id) earlier) (RepeatedKey id) inner.0),
    )
  where
    known : (o : Option Param) → parameter t id ≡ o → not (is_some (parameter t id)) ≡ false → sensed_fault t id ≡ None → is_set t id ≡ true
    known None q a b = absurd (true_is_not_false (sym (ap (λ o. not (is_some o)) q) ∙ a))
    known (Some p) q a b =
        ap (λ o. option_map_or is_settable o false) q
        ∙ yes_by (is_settable p) (not-fault (not (is_settable p)) (NotSettable id) (sym (ap (λ o. option_map_or (λ p. fault_if (not (is_settable p)) (NotSettable id)) o None) q) ∙ b))
      where
        yes_by : (b : Bool) → not b ≡ false → b ≡ true
        yes_by true g = refl
        yes_by false g = absurd (true_is_not_false g)

heads : (x : ℕ) (earlier : List ℕ) (ys : List Setting) → AllByRecursion (λ y. AllByRecursion (λ e. (e == y.param) ≡ false) (x ∷ earlier)) ys
    → AllByRecursion (λ y. (x == y.param) ≡ false) ys × AllByRecursion (λ y. AllByRecursion (λ e. (e == y.param) ≡ false) earlier) ys
heads x earlier [] h = (tt, tt)
heads x earlier (y ∷ ys) h = let rest = heads x earlier ys h.1 in ((h.0.0, rest.0), (h.0.1, rest.1))

stand-set : (t : TailoringParts) (earlier : List ℕ) (xs : List Setting) → AllStand (settable_fault t) earlier (ids_of xs)
    → AreSet t xs × AllByRecursion (λ y. AllByRecursion (λ e. (e == y.param) ≡ false) earlier) xs
stand-set t earlier [] h = (record { settable = tt; once = tt }, tt)
stand-set t earlier (x ∷ xs) h =
    let own = stands-set t earlier x.param h.0 in
    let rest = stand-set t (x.param ∷ earlier) xs h.1 in
    let parts = heads x.param earlier xs rest.1 in
    (record { settable = (own.0, rest.0.settable); once = (parts.0, rest.0.once) }, (own.1, parts.1))

-- the settings of a request of the grammar
pub settings-set : (t : TailoringParts) (xs : List Setting) → AreSettings t (settable_fault t) xs → AreSet t xs
settings-set t xs h = (stand-set t [] xs h.ids).0
