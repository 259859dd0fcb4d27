-- `dump_writer::write_step` meets its contract. Assumes nothing.
use Rattle.std.specs.Prelude.{Err}
use Rattle.std.proofs.Common.{ℕ, refl, ap, sym, ◌∙◌}
use Rattle.network.specs.Sizes.{shape_of}
use Rattle.network.specs.Layout.{moves_made}
use Rattle.network.proofs.Answers.{passed-numbered}
use Rattle.checker.specs.Opened.{broken, is_open, is-shut}
use Rattle.waveform.specs.Dump.{fills}
use Rattle.dump_writer.specs.Writing.{write-broken, write-counts}
use Rattle.dump_writer.proofs.write_step.Goals as goal

pub write_opened-requires : goal.write_opened-requires
write_opened-requires c = (is_open c.open.ensures c.in_ok-s.was).network

pub returns-in_err-s : goal.returns-in_err-s
returns-in_err-s c =
    let a = c.args in
    let k = is-shut c.open.ensures c.in_err-s.was in
    let r = write-broken a.first a.words.now a.fills.now a.page.now (broken k) in
    record { answer = passed-numbered _ _ c.from_residual.ensures.1 ∙ ap (λ (n : ℕ). Err n) (sym k.says) ∙ r.0; fills = r.1.0; page = r.1.1 }

pub returns : goal.returns
returns c =
    let a = c.args in
    let S = shape_of c.in_ok-s.s in
    let w = a.words.now in
    let k = is_open c.open.ensures c.in_ok-s.was in
    let o = c.write_opened.ensures in
    let r = write-counts a.first w a.fills.now a.page.now S (fills S w) (moves_made w) k.passed k.sizes refl refl (o.answer, (o.fills, o.page)) in
    record { answer = r.0; fills = r.1.0; page = r.1.1 }
