-- The record of requests that are given as lines of words.
use Rattle.std.specs.Prelude.{◌≡◌, ⊤, ℕ, ◌+◌, nat_lt, ◌==◌, Bool, true, false, List, [], ◌∷◌, ◌++◌, length, flat_map, map, Option, Some, None, Result, Ok, Err, if◌then◌else◌}
use Rattle.hk_base.specs.TailoringParts.{TailoringParts}
use Rattle.session_record.specs.Records.{entry_octets, header_of, record_octets}
use Rattle.session_record.specs.declared.entry.Entry.TheVariants.{Sent}
use Rattle.record_commands.specs.Packets.{line_packet}
use Rattle.program_edge.specs.declared.fault.RunFault.{RunFault}
use Rattle.program_edge.specs.declared.fault.RunFault.TheVariants.{Line, ReadFault, NoMemory}

-- the most octets of a file of lines
abbrev pub most_lines_octets : ℕ
most_lines_octets = 16777216

-- lines whose first one has an octet more in front
abbrev pub longer_first : ℕ → List (List ℕ) → List (List ℕ)
longer_first octet [] = (octet ∷ []) ∷ []
longer_first octet (line ∷ lines) = (octet ∷ line) ∷ lines

-- lines with an octet more in front, which may be a line feed
abbrev pub lines_by : Bool → ℕ → List (List ℕ) → List (List ℕ)
lines_by true octet lines = [] ∷ lines
lines_by false octet lines = longer_first octet lines

-- the lines of a text: each is ended by a line feed, the last one perhaps by the end of the text
abbrev pub lines : List ℕ → List (List ℕ)
lines [] = []
lines (octet ∷ rest) = lines_by (octet == 10) octet (lines rest)

-- the length of the first line
abbrev pub line_length : List ℕ → ℕ
line_length [] = 0
line_length (octet ∷ rest) = if octet == 10 then 0 else line_length rest + 1

-- the packets of a line with this number, from 0, and of those after it, or the number of the first line that is refused, from 1
abbrev pub packets_by : ℕ → Option (List ℕ) → Result (List (List ℕ)) ℕ → Result (List (List ℕ)) ℕ
packets_by number None rest = Err (number + 1)
packets_by number (Some packet) (Err refused) = Err refused
packets_by number (Some packet) (Ok packets) = Ok (packet ∷ packets)

-- the packets of lines in order, the first of which has this number, or the number of the first that is refused
abbrev pub packets : TailoringParts → ℕ → List (List ℕ) → Result (List (List ℕ)) ℕ
packets t number [] = Ok []
packets t number (line ∷ rest) = packets_by number (line_packet t number line) (packets t (number + 1) rest)

-- octets with an entry more for each packet, or the number of the line that is refused
abbrev pub with_packets : List ℕ → Result (List (List ℕ)) ℕ → Result (List ℕ) ℕ
with_packets before (Err refused) = Err refused
with_packets before (Ok sent) = Ok (before ++ flat_map entry_octets (map Sent sent))

-- the record with known start that has a Sent entry for each line, or the number of the line that is refused
abbrev pub record_of_lines : TailoringParts → List ℕ → Result (List ℕ) ℕ
record_of_lines t text = with_packets (record_octets (header_of true false) []) (packets t 0 (lines text))

-- the same of a file, which may be too long: then there is no line to name, and the number is 0
unfoldable pub encoded : TailoringParts → List ℕ → Result (List ℕ) ℕ
encoded t file = if nat_lt most_lines_octets (length file) then Err 0 else record_of_lines t file

-- what was made is what is given
abbrev pub Encodes : Result (List ℕ) RunFault → Result (List ℕ) ℕ → Type 0
Encodes (Ok octets) given = given ≡ Ok octets
Encodes (Err (Line refused)) given = given ≡ Err refused
Encodes (Err ReadFault) given = ⊤
Encodes (Err NoMemory) given = ⊤
Encodes (Err fault) given = ⊥

-- what was put to octets is what is given, or a line is refused
abbrev pub IsPut : Result Unit RunFault → List ℕ → Result (List ℕ) ℕ → Type 0
IsPut (Ok done) kept given = given ≡ Ok kept
IsPut (Err (Line refused)) kept given = given ≡ Err refused
IsPut (Err NoMemory) kept given = ⊤
IsPut (Err fault) kept given = ⊥

-- the packet of a line was put to octets, or the line with this number, from 0, is refused
abbrev pub IsLinePut : Result Unit RunFault → ℕ → Option (List ℕ) → List ℕ → List ℕ → Type 0
IsLinePut (Ok done) number packet before after = (sent : List ℕ) × (packet ≡ Some sent) × (after ≡ before ++ entry_octets (Sent sent))
IsLinePut (Err (Line refused)) number packet before after = (packet ≡ None) × (refused ≡ number + 1)
IsLinePut (Err NoMemory) number packet before after = ⊤
IsLinePut (Err fault) number packet before after = ⊥
