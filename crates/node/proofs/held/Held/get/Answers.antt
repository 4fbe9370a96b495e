use Rattle.std.proofs.Common.{rules, ◌≡◌, false, length, ap, sym, ◌∙◌}
use Rattle.node.specs.Held.{JournalData, journal}
use Rattle.node.specs.Reading.{entries_in, got_by, IsGot}
use Rattle.node.proofs.Begins.{got_since}
use Rattle.node.proofs.Readings.{read_from, upto_entries, upto_number}
use Rattle.node.proofs.held.Held.get.Goals as goal

pub invariant_of-result : goal.invariant_of-result
invariant_of-result g c =
    let h : JournalData = journal c.self.inside.deeds.ledger.kept c.self.inside.began c.self.inside.deeds.ledger.entries in
    let opened : c.self.inside.copy.closed ≡ false = search rules in
    let has : c.in_ok-answer.answer ≡ got_by c.self.inside.copy.copy c.args.id = c.in_ok-answer.ensures.answer ∙ ap (got_by c.self.inside.copy.copy) c.in_ok-asked.ensures in
    let ledger = c.self.inside.deeds.ledger in
    let same : ledger.entries ≡ entries_in c.prefix.result = upto_entries c.prefix.result c.self.inside.deeds.number ledger.entries c.prefix.ensures.some c.prefix.ensures.none in
    let is : IsGot (record { node = c.number.result; place = c.len-place.result; deeds = entries_in c.prefix.result; id = c.args.id; answer = c.in_ok-answer.answer }) = record {
      journal = h;
      sound = c.self.invariant.1.sound;
      legal = c.self.invariant.1.legal;
      node_is = sym c.self.invariant.0 ∙ sym c.number.ensures;
      deeds_is = same;
      place_is = (c.len-place.ensures ∙ ap (λ l. length l.entries) c.ledger.ensures) ∙ ap length same;
      read = read_from h c.self.inside.copy c.args.id c.in_ok-answer.answer c.self.invariant.1 opened has;
    } in
    (upto_number c.prefix.result c.self.inside.deeds.number c.number.result ledger.entries c.prefix.ensures.some c.number.ensures, is, got_since _ is c.again.result c.again.ensures)
