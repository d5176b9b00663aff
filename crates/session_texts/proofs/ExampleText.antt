-- The text of an example world, by computation.
use Rattle.std.proofs.Common.{◌≡◌, refl, true, false}
use Rattle.std.specs.Fmt.{digits}
use Rattle.pus_messages.specs.Messages.{protocol}
use Rattle.hk_world.specs.Examples.{small, commanded_world}
use Rattle.session_record.specs.Records.{header_of}
use Rattle.session_texts.specs.Texts.{text}
use Rattle.session_texts.specs.Truth.{IsSeenIn}
use Rattle.session_texts.specs.Example.{commanded_entries, commanded_text}

pub commanded_seen : IsSeenIn commanded_world (header_of true false) commanded_entries
commanded_seen = (refl, refl, refl)

pub commanded_written : text (protocol small) (header_of true false) commanded_entries ≡ commanded_text
unfolding digits
commanded_written = refl
