-- Behind an entry that is taken off less than a piece is held.
use Rattle.std.proofs.Common.{◌≡◌, ◌<◌, Some, Ok, length, subst, rules}
use Rattle.session_record.specs.Records.{entry_size, next_entry}
use Rattle.session_record.specs.Reading.{Reading, IsWithin}
use Rattle.session_record.proofs.WithinLemmas.{near-by, behind-less}
use Rattle.session_record.proofs.reader.RecordReader.take_entry.Goals as goal

pub skip_entry-requires-clause-near : goal.skip_entry-requires-clause-near
skip_entry-requires-clause-near c =
    let s = c.args.self.now in
    let entry = c.in_ok-entry.entry in
    let within : IsWithin s = subst (λ (r : Reading). IsWithin r) c.self.view_is c.self.invariant.3 in
    let found : next_entry s.room s.offset s.held ≡ Ok (Some entry) = search rules in
    near-by (length s.held) (entry_size entry) s.most _ (within.ahead entry c.requires found) (search rules)

pub returns-clause-ahead : goal.returns-clause-ahead
returns-clause-ahead c =
    let s = c.args.self.now in
    let entry = c.in_ok-entry.entry in
    let within : IsWithin s = subst (λ (r : Reading). IsWithin r) c.self.view_is c.self.invariant.3 in
    let some : 0 < s.most = subst (λ (r : Reading). 0 < r.most) c.self.view_is c.self.invariant.2 in
    let found : next_entry s.room s.offset s.held ≡ Ok (Some entry) = search rules in
    behind-less s c.skip_entry.new.self _ c.skip_entry.ensures (near-by (length s.held) (entry_size entry) s.most _ (within.ahead entry c.requires found) (search rules)) some
