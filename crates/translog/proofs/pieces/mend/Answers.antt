use Rattle.std.proofs.Common.{◌≡◌, ℕ, List, subst, sym}
use Rattle.std.specs.Prelude.{IfErr, OnOk}
use Rattle.translog.specs.Fault.{is_device}
use Rattle.translog.specs.Frames.{IsTorn, IsUnopened}
use Rattle.translog.specs.Pieces.{own_header}
use Rattle.translog.specs.declared.frames.Torn.{Torn}
use Rattle.translog.proofs.FramesLaws.{cut_loses_nothing}
use Rattle.translog.proofs.PieceReading.{torn_front, torn_header_front, torn_mended}
use Rattle.translog.proofs.pieces.mend.Goals as goal

pub returns-in-Err-clause-refused : goal.returns-in-Err-clause-refused
returns-in-Err-clause-refused g c =
    let old = g.D.LogDevice.bytes c.args.device.now in
    let torn = subst (λ (t : Torn). IsTorn (own_header old) old c.requires.0 t) c.in-End.is c.requires.1 in
    record {
      same = λ no. absurd cc;
      left = cut_loses_nothing (own_header old) old (g.D.LogDevice.bytes c.cut.new.self) c.requires.0 c.in-End.whole torn c.in-Err.ensures.err;
      counts = c.in-Err.ensures.counts;
    }

pub write_header-requires : goal.write_header-requires
write_header-requires g c = torn_header_front (g.D.LogDevice.bytes c.args.device.now) c.requires.0 c.args.torn c.requires.1 c.in-Header.is

pub returns-in-Header-clause-ok : goal.returns-in-Header-clause-ok
returns-in-Header-clause-ok g c =
    subst (λ (l : List ℕ). OnOk c.write_header.result (g.D.LogDevice.bytes c.write_header.new.device ≡ l)) (torn_mended (g.D.LogDevice.bytes c.args.device.now) c.requires.0 c.args.torn c.requires.1 c.in-Header.is) c.write_header.ensures.ok

pub returns-in-Header-clause-refused : goal.returns-in-Header-clause-refused
returns-in-Header-clause-refused g c =
    let old = g.D.LogDevice.bytes c.args.device.now in
    subst (λ (h : List ℕ). IfErr c.write_header.result (λ e. IsUnopened (is_device e) h old (g.D.LogDevice.bytes c.write_header.new.device) (g.D.LogDevice.failures c.args.device.now) (g.D.LogDevice.failures c.write_header.new.device)))
    (sym (torn_front old c.requires.0 c.args.torn c.requires.1 c.in-Header.is)) c.write_header.ensures.refused
