-- `dump_writer::write_header` meets its contract. Assumes nothing.
use Rattle.std.proofs.Common.{sym, subst, true}
use Rattle.waveform.specs.StepAnswers.{WriteTells}
use Rattle.waveform.proofs.StepAnswers.{write-tells}
use Rattle.dump_writer.proofs.write_header.Goals as goal

pub returns-clause-told : goal.returns-clause-told
returns-clause-told c =
    let a = c.args in
    subst (WriteTells true a.words.now a.fills.now a.page.now) (sym c.write_step.ensures.answer) (write-tells true a.words.now a.fills.now a.page.now)
