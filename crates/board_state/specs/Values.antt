-- What a board holds of its parameters: values and latest samples, as the moments say.
use Rattle.std.specs.Prelude.{◌≡◌, ℕ, ◌<◌, ℤ, List, [], ◌∷◌, ◌++◌, map, reverse, filter_map, ◌&&◌, Option, Some, None, IfSome, option_map, option_and_then, ◌==◌, if◌then◌else◌}
use Rattle.std.specs.List.{AllByRecursion}
use Rattle.std.specs.Map.{lookup}
use Rattle.circular_buffer.specs.Buffer.{buffer, keep_last, last_item}
use Rattle.hk_base.specs.Parameters.{is_settable}
use Rattle.hk_base.specs.TailoringParts.{TailoringParts}
use Rattle.hk_base.specs.declared.types.Param.{Param}
use Rattle.sample_slots.specs.Windows.{AreRising, sample_at}
use Rattle.st20_grammar.specs.declared.bodies.Setting.{Setting}
use Rattle.hk_world.specs.Timelines.{Session, tailoring, state_after}
use Rattle.hk_world.specs.declared.moment.Moment.{Moment}
use Rattle.hk_world.specs.declared.moment.Act.{Act}
use Rattle.hk_world.specs.declared.moment.Act.TheVariants.{Filed}
use Rattle.board_steps.specs.Slots.{is_set}
use Rattle.board_state.specs.declared.channels.Channel.{Channel}

-- the slot and the value that an act files for a parameter
abbrev pub slot_filed : ℕ → Act → Option (ℕ × ℤ)
slot_filed id (Filed param slot value) = if param == id then Some (slot, value) else None
slot_filed id _ = None

-- the samples of a parameter, each with its slot, the oldest first
abbrev pub filed_samples : ℕ → List Moment → List (ℕ × ℤ)
filed_samples id moments = reverse (filter_map (λ m. slot_filed id m.act) moments)

-- what is held of a parameter: whether it is settable, its value, and as many of its latest samples as the longest interval has slots
pub record IsChannel (s : Session) (moments : List Moment) (id : ℕ) (c : Channel) : Type 0 where
  pub settable : c.is_settable ≡ is_set (tailoring s) id
  pub value : c.value ≡ (state_after s moments).value id
  pub window : c.window ≡ buffer (keep_last (tailoring s).widths.max_interval (filed_samples id moments)) (tailoring s).widths.max_interval
  pub rises : AreRising (filed_samples id moments)

-- what is held of the parameters, in the order of the tailoring
pub record AreValues (s : Session) (moments : List Moment) (channels : List (ℕ × Channel)) : Type 0 where
  pub ids : map (λ e. e.0) channels ≡ map (λ p. p.id) (tailoring s).params
  pub each : AllByRecursion (λ e. IsChannel s moments e.0 e.1) channels

-- what is held under an ID
abbrev pub channel_at : List (ℕ × Channel) → ℕ → Option Channel
channel_at channels id = lookup (λ k. id == k) channels

-- the value that is held under an ID
abbrev pub value_at : List (ℕ × Channel) → ℕ → Option ℤ
value_at channels id = option_and_then (λ c. c.value) (channel_at channels id)

-- the setting of a parameter that is held, where it is settable
abbrev pub setting_held : ℕ × Channel → Option Setting
setting_held e = if e.1.is_settable then option_map (λ v. record { param = e.0; value = v }) e.1.value else None

-- the settings of the settable parameters, in order
abbrev pub settings_held : List (ℕ × Channel) → List Setting
settings_held channels = filter_map setting_held channels

-- the parameter under an ID is changed, if there is one
abbrev pub change_channel : ℕ → (Channel → Channel) → List (ℕ × Channel) → List (ℕ × Channel)
change_channel id f channels = map (λ e. if id == e.0 then (e.0, f e.1) else e) channels

-- a parameter with one sample more, which is its value then
abbrev pub filed_channel : ℕ → ℤ → Channel → Channel
filed_channel slot v c =
    record {
      is_settable = c.is_settable;
      value = Some v;
      window = buffer (keep_last c.window.capacity (c.window.items ++ (slot, v) ∷ [])) c.window.capacity;
    }

-- a parameter with another value
abbrev pub set_channel : ℤ → Channel → Channel
set_channel v c = record c { value = Some v }

-- the parameters with these settings, one after the other
abbrev pub with_settings : List Setting → List (ℕ × Channel) → List (ℕ × Channel)
with_settings [] channels = channels
with_settings (x ∷ xs) channels = with_settings xs (change_channel x.param (set_channel x.value) channels)

-- a sample of a parameter may be kept: it is later than the newest one
abbrev pub IsLater : ℕ → Channel → Type 0
IsLater slot c = IfSome (last_item c.window.items) (λ newest. newest.0 < slot)

-- the sample of a slot, where the value of a settable parameter is that of the slot that closes
abbrev pub closing_sample : Channel → ℕ → ℕ → Option ℤ
closing_sample c slot closing = if c.is_settable && slot == closing then c.value else sample_at c.window.items slot

-- a parameter that has no sample
abbrev pub new_channel : TailoringParts → Param → ℕ × Channel
new_channel t p = (p.id, record { is_settable = is_settable p; value = p.initial; window = buffer [] t.widths.max_interval })

-- the parameters of a board that has done nothing
abbrev pub new_channels : TailoringParts → List (ℕ × Channel)
new_channels t = map (new_channel t) t.params
