-- `dump_writer::write_counts` meets its contract. Assumes nothing.
use Rattle.std.specs.Prelude.{Ok}
use Rattle.std.proofs.Common.{◌≡◌, refl, ap, ◌∙◌, subst, Bool, true, false, ◌||◌, List, ◌++◌, ℕ, ◌<◌, ◌≤◌, zero-add, ltb, length, drop, lt-ltb}
use Rattle.sheet.specs.Output.{written, Put}
use Rattle.waveform.specs.Dump.{step_bytes}
use Rattle.dump_writer.specs.Writing.{counts-refused, counts-written}
use Rattle.dump_writer.proofs.write_counts.Goals as goal

-- the second of two tests applies
or-true : (a b : Bool) → b ≡ true → (a || b) ≡ true
or-true true b e = refl
or-true false b e = e

-- bytes put at the start of a page
at_front : {before bytes after : List ℕ} {next : ℕ} → Put before 0 bytes after next → after ≡ bytes ++ drop (length bytes) before
unfolding written
at_front {before} {bytes} p = p.leaves ∙ ap (λ n. bytes ++ drop n before) (zero-add (length bytes))

pub returns-then-fills-counts : goal.returns-then-fills-counts
returns-then-fills-counts c =
    let a = c.args in
    let few = lt-ltb (length a.fills.now) (length a.counts.now) c.if-fills-counts.true in
    let r = counts-refused a.first a.time a.counts.now a.fills.now a.page.now (rw few refl) in
    record { answer = r.0; fills = r.1.0; page = r.1.1 }

pub returns-then-page-length : goal.returns-then-page-length
returns-then-page-length c =
    let a = c.args in
    let short = subst (λ n. length a.page.now < n) c.step_length-length.ensures c.if-page-length.true in
    let applies = or-true (ltb (length a.fills.now) (length a.counts.now)) _ (lt-ltb _ _ short) in
    let r = counts-refused a.first a.time a.counts.now a.fills.now a.page.now applies in
    record { answer = r.0; fills = r.1.0; page = r.1.1 }

pub returns : goal.returns
returns c =
    let copied = ap (λ l. l ++ drop (length c.args.counts.now) c.args.fills.now) c.copy_from_slice.ensures.after in
    let a = c.args in
    let n = c.step_length-length.ensures in
    let enough = subst (λ k. k ≤ length a.page.now) n c.if-page-length.false in
    let w = counts-written a.first a.time a.counts.now a.fills.now a.page.now c.if-fills-counts.false enough in
    let put = at_front {bytes = step_bytes a.first a.time a.counts.now a.fills.now} c.print_step.ensures in
    record { answer = ap (λ (k : ℕ). Ok k) n ∙ w.0; fills = copied ∙ w.1.0; page = put ∙ w.1.1 }
