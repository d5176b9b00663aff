-- What can be said of each entry of a session.
use Rattle.std.specs.Prelude.{◌≤◌, length}
use Rattle.pus_packet.specs.Joining.{most_octets}
use Rattle.session_record.specs.Records.{held_octets}
use Rattle.session_record.specs.declared.entry.Entry.{Entry}

-- an entry holds no more octets than a packet can have
abbrev pub IsShortEntry : Entry → Type 0
IsShortEntry e = length (held_octets e) ≤ most_octets
