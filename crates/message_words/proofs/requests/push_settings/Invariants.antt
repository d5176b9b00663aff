use Rattle.std.proofs.Common.{◌≡◌, ◌++◌, flat_map, drop}
use Rattle.std.specs.String.{string_bytes}
use Rattle.message_words.specs.Words.{setting_words}
use Rattle.message_words.specs.Tails.{tail}
use Rattle.message_words.proofs.requests.push_settings.Given as goal

abbrev pub invariant-loop-setting : goal.invariant-loop-setting
invariant-loop-setting l =
    string_bytes l.line ++ tail (flat_map setting_words (drop l.setting-index l.settings)) ≡ string_bytes l.fn.line ++ tail (flat_map setting_words l.settings)
